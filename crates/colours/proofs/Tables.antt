-- The colour table that tokens give.
--     colours-refused     a refusal stays
--     colours-few         at most as many colours as the limit says
--     colours-few-256     for a room of any length, at most 256
--     colour-word-small   a word of values that fit is below 2^24
--     colours-words   every word of a table is
--     sound-start, sound-from   what holds after every token: the above, and the current colour's values fit
-- Assumes nothing.
use mathlib.Core.Path.{◌≡◌, refl}
use mathlib.Core.List.{List, [], ◌∷◌, ◌++◌}
use mathlib.Core.Bool.{Bool, true, false, cond}
use Prim.Native.Nat.{ℕ, ◌≤◌, ◌<◌}
use native.Mathlib.Omega.{arith}
use borrow.Author.Tests.{ltb-true}
use lib.ListN.{length, length-append}
use lib.Dec.{eqb, ltb}
use Rattle.answers.specs.declared.Why.TheVariants.{NumberField, ColourRoom}
use Rattle.answers.specs.declared.Refusal.{Refusal}
use Rattle.answers.specs.Answers.{Found, found, refused, Fate, becomes, fails, found_at}
use Rattle.rooms.specs.Rooms.{table_limit}
use Rattle.rooms.proofs.Rooms.{limit-256}
use Rattle.tokens.specs.Tokens.{Shown, Token, slice_of, shown_in, value_of}
use Rattle.colours.specs.declared.Colour.{Colour}
use Rattle.colours.specs.Colours.{Colours, black, no_colours, colour_word, fitting, blued, kept, colour_words}
use Rattle.colours.specs.Colours.{colour_word_of, colour_token, next_colour, colours_from, table_of, colours}
use Rattle.colours.specs.Effects.{Small}
use Rattle.std.specs.Prelude.{Option}

pub colours-refused : (limit : ℕ) (r : Refusal) (ts : List Token) → colours_from limit (refused r) ts ≡ refused r
unfolding colours_from
colours-refused limit r [] = refl
colours-refused limit r (t ∷ ts) = colours-refused limit r ts

pub colour-word-small : (c : Colour) → Small c → colour_word c < 16777216
colour-word-small c s =
    let r : c.red ≤ 255 = s.red in
    let g : c.green ≤ 255 = s.green in
    let b : c.blue ≤ 255 = s.blue in
    omega arith

-- every word of a list is below 2^24
abbrev pub Words : List ℕ → Type 0
Words [] = Unit {0}
Words (w ∷ ws) = (w < 16777216) × Words ws

words_snoc : (ws : List ℕ) (w : ℕ) → Words ws → w < 16777216 → Words (ws ++ (w ∷ []))
words_snoc [] w h k = (k, tt)
words_snoc (x ∷ ws) w h k = (h.0, words_snoc ws w h.1 k)

-- what holds of the colours after every token
pub record Sound (limit : ℕ) (s : Colours) : Type 0 where
  pub few : length s.table ≤ limit
  pub words : Words s.table
  pub small : Small s.colour

abbrev pub SoundIf : ℕ → Found Colours → Type 0
SoundIf limit (found s) = Sound limit s
SoundIf limit (refused r) = Unit {0}

-- the same of what becomes of them at one token
abbrev SoundFate : ℕ → Fate Colours → Type 0
SoundFate limit (becomes s) = Sound limit s
SoundFate limit (fails why) = Unit {0}

sound-at : (limit p : ℕ) (x : Fate Colours) → SoundFate limit x → SoundIf limit (found_at p x)
sound-at limit p (becomes s) h = h
sound-at limit p (fails why) h = tt

pub sound-start : (limit : ℕ) → Sound limit no_colours
sound-start limit =
    let z : Small black = record { red = omega arith; green = omega arith; blue = omega arith } in
    record { few = omega arith; words = tt; small = z }

sound-either : (limit : ℕ) (t : Bool) (x y : Fate Colours) → SoundFate limit x → SoundFate limit y → SoundFate limit (cond t x y)
sound-either limit true x y p q = p
sound-either limit false x y p q = q

sound-fitting : (limit : ℕ) (num : Option ℕ) (x : Fate Colours) → (value_of num ≤ 255 → SoundFate limit x) → SoundFate limit (fitting num x)
sound-fitting limit num x f = go (ltb (value_of num) 256) refl
  where
    go : (t : Bool) → ltb (value_of num) 256 ≡ t → SoundFate limit (cond t x (fails NumberField))
    go true q = f (let l : value_of num < 256 = ltb-true (value_of num) 256 q in omega arith)
    go false q = tt

sound-kept : (limit : ℕ) (s : Colours) → Words s.table → Small s.colour → SoundFate limit (kept limit s)
sound-kept limit s w m = go (ltb (length s.table) limit) refl
  where
    go : (t : Bool) → ltb (length s.table) limit ≡ t
        → SoundFate limit (cond t (becomes (record { table = s.table ++ (colour_word s.colour ∷ []); colour = s.colour })) (fails ColourRoom))
    go true q =
        let l : length s.table < limit = ltb-true (length s.table) limit q in
        record {
          few = rw (length-append s.table (colour_word s.colour ∷ [])) (omega arith);
          words = words_snoc s.table (colour_word s.colour) w (colour-word-small s.colour m);
          small = m;
        }
    go false q = tt

sound-word : (limit w : ℕ) (num : Option ℕ) (s : Colours) → Sound limit s → SoundFate limit (colour_word_of limit w num s)
unfolding colour_word_of
sound-word limit w num s h =
    sound-either limit (eqb w 37) _ _
    (sound-fitting limit num _ (λ f. record { few = h.few; words = h.words; small = record { red = f; green = h.small.green; blue = h.small.blue } }))
    (sound-either limit (eqb w 38) _ _
    (sound-fitting limit num _ (λ f. record { few = h.few; words = h.words; small = record { red = h.small.red; green = f; blue = h.small.blue } }))
    (sound-either limit (eqb w 39) _ _
    (sound-fitting limit num _ (λ f. sound-kept limit (blued (value_of num) s) h.words (record { red = h.small.red; green = h.small.green; blue = f })))
    h))

sound-token : (limit : ℕ) (t : Shown) (s : Colours) → Sound limit s → SoundFate limit (colour_token limit t s)
unfolding colour_token
sound-token limit (Shown.word w num) s h = sound-word limit w num s h
sound-token limit (Shown.text p bs) s h = h
sound-token limit Shown.opening s h = h
sound-token limit Shown.closing s h = h
sound-token limit Shown.line_break s h = h
sound-token limit Shown.ignorable s h = h
sound-token limit (Shown.unknown p bs num) s h = h
sound-token limit (Shown.symbol b num) s h = h

pub sound-from : (limit : ℕ) (x : Found Colours) (ts : List Token) → SoundIf limit x → SoundIf limit (colours_from limit x ts)
unfolding colours_from
sound-from limit x [] h = h
sound-from limit x (t ∷ ts) h = sound-from limit (next_colour limit x t) ts (next x h)
  where
    next : (x : Found Colours) → SoundIf limit x → SoundIf limit (next_colour limit x t)
    next (found s) h = sound-at limit (slice_of t) (colour_token limit (shown_in t) s) (sound-token limit (shown_in t) s h)
    next (refused r) h = tt

module _ (limit : ℕ) (ts : List Token) (cs : List ℕ) where
  sound-table : (x : Found Colours) → SoundIf limit x → table_of x ≡ found cs → (length cs ≤ limit) × Words cs
  sound-table (found s) h e =
      let q : s.table ≡ cs = cc in
      (rw (← q) h.few, rw (← q) h.words)
  sound-table (refused r) h e = absurd (let z : ◌≡◌ {A = ℕ} 0 1 = cc in omega arith)

  sound-colours : colours limit ts ≡ found cs → (length cs ≤ limit) × Words cs
  unfolding colours
  sound-colours e =
      sound-table (colours_from limit (found no_colours) ts) (sound-from limit (found no_colours) ts (sound-start limit)) e

  pub colours-few : colours limit ts ≡ found cs → length cs ≤ limit
  colours-few e = (sound-colours e).0

  pub colours-words : colours limit ts ≡ found cs → Words cs
  colours-words e = (sound-colours e).1

pub colours-few-256 : (total : ℕ) (ts : List Token) (cs : List ℕ) → colours (table_limit colour_words total) ts ≡ found cs → length cs ≤ 256
colours-few-256 total ts cs e = let h : length cs ≤ table_limit colour_words total = colours-few (table_limit colour_words total) ts cs e in omega (arith, limit-256 colour_words total)
