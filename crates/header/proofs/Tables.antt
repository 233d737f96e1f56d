-- The tables that the steps of the walk give.
--     tables-refused      a refusal stays
--     tables-sound        at most as many fonts and colours as the rooms hold; the fonts' keys ascend and are below 65,536,
--                         the colours' words are below 2^24
--     tables-few-256      for rooms of any length, at most 256 of each
-- Assumes nothing.
use mathlib.Core.Path.{◌≡◌, refl}
use mathlib.Core.List.{List, [], ◌∷◌}
use mathlib.Core.Bool.{true, false}
use Prim.Native.Nat.{ℕ, ◌≤◌}
use native.Mathlib.Omega.{arith}
use lib.ListN.{length}
use Rattle.answers.specs.declared.Refusal.{Refusal}
use Rattle.answers.specs.Answers.{Found, found, refused}
use Rattle.rooms.specs.Rooms.{table_limit}
use Rattle.rooms.proofs.Rooms.{limit-256}
use Rattle.tokens.specs.Tokens.{Token}
use Rattle.fonts.specs.Rows.{Font, font_words}
use Rattle.fonts.specs.Fonts.{fonts}
use Rattle.fonts.proofs.RowTables.{Ascending, Keys}
use Rattle.fonts.proofs.Tables.{fonts-few, fonts-up, fonts-keys}
use Rattle.colours.specs.Colours.{colours, colour_words}
use Rattle.colours.proofs.Tables.{Words, colours-few, colours-words}
use Rattle.walk.specs.Walk.{Step, kept, hidden, font_table, colour_table}
use Rattle.header.specs.Entering.{Tables, with_fonts, with_colours, read_step}
use Rattle.header.specs.Header.{no_tables, next_step, tables_from, tables}

pub tables-refused : (f c : ℕ) (r : Refusal) (xs : List Step) → tables_from f c (refused r) xs ≡ refused r
unfolding tables_from
tables-refused f c r [] = refl
tables-refused f c r (x ∷ xs) = tables-refused f c r xs

-- what holds after every step
pub record Sound (f c : ℕ) (s : Tables) : Type 0 where
  pub few_fonts : length s.fonts ≤ f
  pub few_colours : length s.colours ≤ c
  pub up : Ascending s.fonts
  pub keys : Keys s.fonts
  pub words : Words s.colours

abbrev pub SoundIf : ℕ → ℕ → Found Tables → Type 0
SoundIf f c (found s) = Sound f c s
SoundIf f c (refused r) = Unit {0}

pub sound-start : (f c : ℕ) → Sound f c no_tables
sound-start f c = record { few_fonts = omega arith; few_colours = omega arith; up = tt; keys = tt; words = tt }

module _ (f c : ℕ) where
  sound-fonts : (ts : List Token) (s : Tables) → Sound f c s → SoundIf f c (with_fonts s (fonts f ts))
  sound-fonts ts s h = go (fonts f ts) refl
    where
      go : (x : Found (List Font)) → fonts f ts ≡ x → SoundIf f c (with_fonts s x)
      go (found fs) e =
          record {
            few_fonts = fonts-few f ts fs e;
            few_colours = h.few_colours;
            up = fonts-up f ts fs e;
            keys = fonts-keys f ts fs e;
            words = h.words;
          }
      go (refused r) e = tt

  sound-colours : (ts : List Token) (s : Tables) → Sound f c s → SoundIf f c (with_colours s (colours c ts))
  sound-colours ts s h = go (colours c ts) refl
    where
      go : (x : Found (List ℕ)) → colours c ts ≡ x → SoundIf f c (with_colours s x)
      go (found cs) e =
          record {
            few_fonts = h.few_fonts;
            few_colours = colours-few c ts cs e;
            up = h.up;
            keys = h.keys;
            words = colours-words c ts cs e;
          }
      go (refused r) e = tt

  sound-step : (x : Step) (s : Tables) → Sound f c s → SoundIf f c (read_step f c x s)
  sound-step (kept t) s h = h
  sound-step hidden s h = h
  sound-step (font_table true ts) s h = tt
  sound-step (font_table false ts) s h = sound-fonts ts s h
  sound-step (colour_table true ts) s h = tt
  sound-step (colour_table false ts) s h = sound-colours ts s h

  pub sound-from : (acc : Found Tables) (xs : List Step) → SoundIf f c acc → SoundIf f c (tables_from f c acc xs)
  unfolding tables_from
  sound-from acc [] h = h
  sound-from acc (x ∷ xs) h = sound-from (next_step f c acc x) xs (next acc h)
    where
      next : (a : Found Tables) → SoundIf f c a → SoundIf f c (next_step f c a x)
      next (found s) k = sound-step x s k
      next (refused r) k = tt

  pub tables-sound : (xs : List Step) (s : Tables) → tables f c xs ≡ found s → Sound f c s
  tables-sound xs s e =
      let h : SoundIf f c (tables f c xs) = sound-from (found no_tables) xs (sound-start f c) in
      rw e at h

pub tables-few-256 : (n m : ℕ) (xs : List Step) (s : Tables) → tables (table_limit font_words n) (table_limit colour_words m) xs ≡ found s
    → (length s.fonts ≤ 256) × (length s.colours ≤ 256)
tables-few-256 n m xs s e =
    let h : Sound (table_limit font_words n) (table_limit colour_words m) s = tables-sound (table_limit font_words n) (table_limit colour_words m) xs s e in
    let a : length s.fonts ≤ table_limit font_words n = h.few_fonts in
    let b : length s.colours ≤ table_limit colour_words m = h.few_colours in
    (omega (arith, limit-256 font_words n), omega (arith, limit-256 colour_words m))
