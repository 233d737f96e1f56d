-- The font table that tokens give.
--     fonts-refused      a refusal stays
--     fonts-few          at most as many fonts as the limit says
--     fonts-few-256      for a room of any length, at most 256
--     fonts-up           the keys ascend
--     fonts-keys         every key is below 65,536
--     sound-start, -stored, -token, -from   what holds after every token: the above, and the current font's key
-- Assumes nothing.
use Rattle.std.proofs.Common.{◌≡◌, ℕ, ◌<◌, ◌≤◌, Bool, true, false, cond, ◌||◌, eqb, ltb, List, [], ◌∷◌, length, refl, arith, ltb-true}
use Rattle.answers.specs.declared.Why.TheVariants.{FontRoom}
use Rattle.answers.specs.declared.Refusal.{Refusal}
use Rattle.answers.specs.Answers.{Found, found, refused, Fate, becomes, fails, found_at}
use Rattle.rooms.specs.Rooms.{table_limit}
use Rattle.rooms.proofs.Rooms.{limit-256}
use Rattle.tokens.specs.Tokens.{Shown, Token, slice_of, shown_in}
use Rattle.fonts.specs.Rows.{Font, Fonts, no_fonts, has_key, inserted, stored, table_of, font_words}
use Rattle.fonts.proofs.RowTables.{Ascending, Keys, ascending-insert, keys-insert, length-insert, length-kept}
use Rattle.fonts.specs.Fonts.{named, rekeyed, font_word, font_token, next_font, fonts_from, fonts}
use Rattle.std.specs.Prelude.{Option, Some, None}

pub fonts-refused : (limit : ℕ) (r : Refusal) (ts : List Token) → fonts_from limit (refused r) ts ≡ refused r
unfolding fonts_from
fonts-refused limit r [] = refl
fonts-refused limit r (t ∷ ts) = fonts-refused limit r ts

-- what holds after every token
pub record Sound (limit : ℕ) (s : Fonts) : Type 0 where
  pub few : length s.table ≤ limit
  pub up : Ascending s.table
  pub keys : Keys s.table
  pub key : s.font.key < 65536

abbrev pub SoundIf : ℕ → Found Fonts → Type 0
SoundIf limit (found s) = Sound limit s
SoundIf limit (refused r) = Unit {0}

-- the same of what becomes of them at one token
abbrev pub SoundFate : ℕ → Fate Fonts → Type 0
SoundFate limit (becomes s) = Sound limit s
SoundFate limit (fails why) = Unit {0}

pub sound-start : (limit : ℕ) → Sound limit no_fonts
sound-start limit = record { few = omega arith; up = tt; keys = tt; key = omega arith }

pub sound-stored : (limit : ℕ) (s : Fonts) → Sound limit s → SoundFate limit (stored limit s)
unfolding stored
sound-stored limit s h = go (has_key s.font.key s.table) refl (ltb (length s.table) limit) refl
  where
    go : (t : Bool) → has_key s.font.key s.table ≡ t → (u : Bool) → ltb (length s.table) limit ≡ u
        → SoundFate limit (cond (t || u) (becomes (record { table = inserted s.font s.table; font = s.font })) (fails FontRoom))
    go true p u q =
        record {
          few = rw (length-kept s.font s.table h.up p) h.few;
          up = ascending-insert s.font s.table h.up;
          keys = keys-insert s.font h.key s.table h.keys;
          key = h.key;
        }
    go false p true q =
        let l : length s.table < limit = ltb-true (length s.table) limit q in
        record {
          few = omega (arith, length-insert s.font s.table);
          up = ascending-insert s.font s.table h.up;
          keys = keys-insert s.font h.key s.table h.keys;
          key = h.key;
        }
    go false p false q = tt

module _ (limit : ℕ) where
  sound-rekeyed : (num : Option ℕ) (x : Fate Fonts) → SoundFate limit x → SoundFate limit (rekeyed num x)
  sound-rekeyed None (becomes s) h = tt
  sound-rekeyed None (fails why) h = tt
  sound-rekeyed (Some v) (becomes s) h = record { few = h.few; up = h.up; keys = h.keys; key = omega arith }
  sound-rekeyed (Some v) (fails why) h = tt

  sound-word : (w : ℕ) (num : Option ℕ) (s : Fonts) → Sound limit s → SoundFate limit (font_word limit w num s)
  unfolding font_word
  sound-word w num s h = go (eqb w 9)
    where
      go : (t : Bool) → SoundFate limit (cond t (rekeyed num (stored limit s)) (becomes s))
      go true = sound-rekeyed num (stored limit s) (sound-stored limit s h)
      go false = h

  pub sound-token : (t : Shown) (s : Fonts) → Sound limit s → SoundFate limit (font_token limit t s)
  unfolding font_token named
  sound-token (Shown.word w num) s h = sound-word w num s h
  sound-token (Shown.text p bs) s h = record { few = h.few; up = h.up; keys = h.keys; key = h.key }
  sound-token Shown.closing s h = sound-stored limit s h
  sound-token Shown.opening s h = h
  sound-token Shown.line_break s h = h
  sound-token Shown.ignorable s h = h
  sound-token (Shown.unknown p bs num) s h = h
  sound-token (Shown.symbol b num) s h = h

  sound-at : (p : ℕ) (x : Fate Fonts) → SoundFate limit x → SoundIf limit (found_at p x)
  sound-at p (becomes s) h = h
  sound-at p (fails why) h = tt

  sound-next : (x : Found Fonts) (t : Token) → SoundIf limit x → SoundIf limit (next_font limit x t)
  sound-next (found s) t h = sound-at (slice_of t) (font_token limit (shown_in t) s) (sound-token (shown_in t) s h)
  sound-next (refused r) t h = tt

  pub sound-from : (x : Found Fonts) (ts : List Token) → SoundIf limit x → SoundIf limit (fonts_from limit x ts)
  unfolding fonts_from
  sound-from x [] h = h
  sound-from x (t ∷ ts) h = sound-from (next_font limit x t) ts (sound-next x t h)

module _ (limit : ℕ) (ts : List Token) (fs : List Font) where
  sound-table : (x : Found Fonts) → SoundIf limit x → table_of x ≡ found fs → (length fs ≤ limit) × (Ascending fs × Keys fs)
  sound-table (found s) h e =
      let q : s.table ≡ fs = cc in
      (rw (← q) h.few, (rw (← q) h.up, rw (← q) h.keys))
  sound-table (refused r) h e = absurd (let z : ◌≡◌ {A = ℕ} 0 1 = cc in omega arith)

  sound-fonts : fonts limit ts ≡ found fs → (length fs ≤ limit) × (Ascending fs × Keys fs)
  unfolding fonts
  sound-fonts e = sound-table (fonts_from limit (found no_fonts) ts) (sound-from limit (found no_fonts) ts (sound-start limit)) e

  pub fonts-few : fonts limit ts ≡ found fs → length fs ≤ limit
  fonts-few e = (sound-fonts e).0

  pub fonts-up : fonts limit ts ≡ found fs → Ascending fs
  fonts-up e = (sound-fonts e).1.0

  pub fonts-keys : fonts limit ts ≡ found fs → Keys fs
  fonts-keys e = (sound-fonts e).1.1

pub fonts-few-256 : (total : ℕ) (ts : List Token) (fs : List Font) → fonts (table_limit font_words total) ts ≡ found fs → length fs ≤ 256
fonts-few-256 total ts fs e = let h : length fs ≤ table_limit font_words total = fonts-few (table_limit font_words total) ts fs e in omega (arith, limit-256 font_words total)
