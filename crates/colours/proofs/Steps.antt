-- The loop over a group's tokens, in the terms of the code.
--     effect-token                   a token's effect, and then the room, is the definition's step
--     effect-small                   colours whose values fit stay such
--     loop-start, -set, -store, -full, -unfit, -end   one law for each way through the loop
-- Assumes nothing.
use mathlib.Core.Path.{◌≡◌, refl, sym, ap, ◌∙◌}
use mathlib.Core.List.{List, [], ◌∷◌, ◌++◌}
use mathlib.Core.Bool.{Bool, true, false, cond}
use Prim.Native.Nat.{ℕ, ◌+◌, ◌*◌, ◌≤◌, ◌<◌}
use native.Mathlib.Nat.{div-one}
use native.Mathlib.Numerals.{add-one}
use native.Mathlib.Omega.{arith}
use borrow.Author.Tests.{ltb-true, ltb-false, lt-ltb, le-ltb}
use lib.ListN.{length, take, set, length-set, drop, take-append-drop}
use lib.Dec.{eqb, ltb}
use lib.Seq.{length-take-le, take-suc-set, drop-set-lt, drop-drop}
use Rattle.answers.specs.declared.Why.TheVariants.{NumberField, ColourRoom}
use Rattle.answers.specs.declared.Refusal.{Refusal}
use Rattle.answers.specs.Answers.{refusal, refusal_at, Found, found, refused, Fate, becomes, fails, found_at}
use Rattle.rooms.specs.Rooms.{table_limit}
use Rattle.tokens.specs.Tokens.{Token, value_of, token_words}
use Rattle.tokens.specs.declared.item.Item.{Item}
use Rattle.tokens.specs.declared.item.Item.TheVariants.{Text, Opening, Closing, LineBreak, Ignorable, Word, Unknown, Symbol}
use Rattle.tokens.specs.Items.{item_at, shown_of, slice_at, tokens_all}
use Rattle.tokens.proofs.Items.{tokens_none}
use Rattle.rooms.proofs.Chunks.{Chunk, chunk-words, left_none}
use Rattle.tokens.proofs.Chunks.{chunk-tokens}
use Rattle.colours.specs.declared.Colour.{Colour}
use Rattle.colours.specs.declared.Effect.{Effect}
use Rattle.colours.specs.declared.Effect.TheVariants.{Set, Store, Unfit}
use Rattle.colours.specs.Colours.{Colours, black, no_colours, colour_word, kept, colour_words}
use Rattle.colours.specs.Colours.{colour_word_of, colour_token, colours_from, table_of, colours, ReadColours}
use Rattle.colours.specs.Effects.{fitted, word_effect, effect_of, Small}
use Rattle.colours.proofs.Tables.{colours-refused}
use Rattle.std.specs.Prelude.{Ok, Err, Option}

limit-within : (n : ℕ) → table_limit colour_words n ≤ n
unfolding table_limit
limit-within n = rw (div-one n) (go (ltb n 256) refl)
  where
    go : (t : Bool) → ltb n 256 ≡ t → cond t n 256 ≤ n
    go true e = omega arith
    go false e = ltb-false n 256 e

-- an effect, and then the room
abbrev applied : ℕ → List ℕ → Effect → Fate Colours
applied limit cs (Set c) = becomes (record { table = cs; colour = c })
applied limit cs (Store c) = kept limit (record { table = cs; colour = c })
applied limit cs Unfit = fails NumberField

-- both ways of a test
either : (limit : ℕ) (cs : List ℕ) (t : Bool) (x y : Fate Colours) (d e : Effect) → x ≡ applied limit cs d → y ≡ applied limit cs e
    → cond t x y ≡ applied limit cs (cond t d e)
either limit cs true x y d e p q = p
either limit cs false x y d e p q = q

word-token : (limit w : ℕ) (num : Option ℕ) (cs : List ℕ) (c : Colour)
    → colour_word_of limit w num (record { table = cs; colour = c }) ≡ applied limit cs (word_effect w (value_of num) c)
unfolding colour_word_of word_effect
word-token limit w num cs c =
    let f : Bool = ltb (value_of num) 256 in
    either limit cs (eqb w 37) _ _ _ _ (either limit cs f _ _ _ _ refl refl)
    (either limit cs (eqb w 38) _ _ _ _ (either limit cs f _ _ _ _ refl refl)
    (either limit cs (eqb w 39) _ _ _ _ (either limit cs f _ _ _ _ refl refl) refl))

effect-token : (limit : ℕ) (src : List ℕ) (i : Item) (cs : List ℕ) (c : Colour)
    → colour_token limit (shown_of src i) (record { table = cs; colour = c }) ≡ applied limit cs (effect_of i c)
unfolding colour_token
effect-token limit src (Word w num) cs c = word-token limit w num cs c
effect-token limit src (Text p n) cs c = refl
effect-token limit src Opening cs c = refl
effect-token limit src Closing cs c = refl
effect-token limit src LineBreak cs c = refl
effect-token limit src Ignorable cs c = refl
effect-token limit src (Unknown p n num) cs c = refl
effect-token limit src (Symbol b num) cs c = refl

abbrev SmallEffect : Effect → Type 0
SmallEffect (Set c) = Small c
SmallEffect (Store c) = Small c
SmallEffect Unfit = Unit {0}

small-either : (t : Bool) (d e : Effect) → SmallEffect d → SmallEffect e → SmallEffect (cond t d e)
small-either true d e p q = p
small-either false d e p q = q

small-fitted : (v : ℕ) (e : Effect) → (v ≤ 255 → SmallEffect e) → SmallEffect (fitted v e)
small-fitted v e f = go (ltb v 256) refl
  where
    go : (t : Bool) → ltb v 256 ≡ t → SmallEffect (cond t e Unfit)
    go true q = f (let l : v < 256 = ltb-true v 256 q in omega arith)
    go false q = tt

small_word : (w v : ℕ) (c : Colour) → Small c → SmallEffect (word_effect w v c)
unfolding word_effect
small_word w v c s =
    small-either (eqb w 37) _ _ (small-fitted v _ (λ h. record { red = h; green = s.green; blue = s.blue }))
    (small-either (eqb w 38) _ _ (small-fitted v _ (λ h. record { red = s.red; green = h; blue = s.blue }))
    (small-either (eqb w 39) _ _ (small-fitted v _ (λ h. record { red = s.red; green = s.green; blue = h })) s))

effect-small : (i : Item) (c : Colour) → Small c → SmallEffect (effect_of i c)
effect-small (Word w num) c s = small_word w (value_of num) c s
effect-small (Text p n) c s = s
effect-small Opening c s = s
effect-small Closing c s = s
effect-small LineBreak c s = s
effect-small Ignorable c s = s
effect-small (Unknown p n num) c s = s
effect-small (Symbol b num) c s = s

-- the colours so far are the room's first k words
abbrev state : List ℕ → ℕ → Colour → Found Colours
state room k c = found (record { table = take k room; colour = c })

-- the loop: what is left, from the present colours, leads where the whole leads
pub record Loop (tokens : List ℕ) (count : ℕ) (room₀ : List ℕ) (limit : ℕ) (room ws : List ℕ) (n : ℕ) (c : Colour) (k : ℕ) : Type 0 where
  pub words : n * token_words ≤ length ws
  pub long : length room ≡ length room₀
  pub limited : limit ≡ table_limit colour_words (length room₀)
  pub held : limit ≤ length room
  pub behind : drop k room ≡ drop k room₀
  pub within : k ≤ limit
  pub small : Small c
  pub left : (src : List ℕ) → colours_from limit (state room k c) (tokens_all src n ws) ≡ colours_from limit (found no_colours) (tokens_all src count tokens)

pub loop-start : (tokens : List ℕ) (count : ℕ) (room : List ℕ) (limit : ℕ) → count * token_words ≤ length tokens → limit ≡ table_limit colour_words (length room)
    → Loop tokens count room limit room tokens count black 0
loop-start tokens count room limit h e =
    record {
      words = h;
      long = refl;
      limited = e;
      held = rw e (limit-within (length room));
      behind = refl;
      within = omega arith;
      small = record { red = omega arith; green = omega arith; blue = omega arith };
      left = λ src. refl;
    }

module _ {tokens : List ℕ} {count : ℕ} {room₀ : List ℕ} {limit : ℕ} {room ws : List ℕ} {n : ℕ} {c : Colour} {k : ℕ}
    (l : Loop tokens count room₀ limit room ws n c k) where
  filled : length (take k room) ≡ k
  filled = let h : limit ≤ length room = l.held in let w : k ≤ limit = l.within in length-take-le k room (omega arith)

  ended : (src : List ℕ) (x : Found Colours) → x ≡ colours_from limit (found no_colours) (tokens_all src count tokens)
      → table_of x ≡ colours (table_limit colour_words (length room₀)) (tokens_all src count tokens)
  unfolding colours
  ended src x e = rw (← l.limited) (ap table_of e)

  stopped : (src : List ℕ) (q : Refusal) (ts : List Token) → colours_from limit (refused q) ts ≡ colours_from limit (found no_colours) (tokens_all src count tokens)
      → ReadColours (colours (table_limit colour_words (length room₀)) (tokens_all src count tokens)) room₀ (Err q) room
  stopped src q ts e =
      let z : refused q ≡ colours (table_limit colour_words (length room₀)) (tokens_all src count tokens) = ended src (refused q) (sym (colours-refused limit q ts) ∙ e) in
      rw (← z) refl

  -- no token is left
  pub loop-end : (0 < n → length ws < token_words) → (src : List ℕ) → ReadColours (colours (table_limit colour_words (length room₀)) (tokens_all src count tokens)) room₀ (Ok k) room
  unfolding colours_from
  loop-end f src =
      let h : n ≤ 0 = left_none token_words n ws l.words f in
      let e : state room k c ≡ colours_from limit (found no_colours) (tokens_all src count tokens) = rw (tokens_none src n ws h) at (l.left src) in
      let z : found (take k room) ≡ colours (table_limit colour_words (length room₀)) (tokens_all src count tokens) = ended src (state room k c) e in
      let b : room ≡ take k room ++ drop k room₀ = sym (take-append-drop k room) ∙ ap (λ (x : List ℕ). take k room ++ x) l.behind in
      rw (← z, filled) (refl, b)

  module _ {here more : List ℕ} {m : ℕ} (q : Chunk token_words ws n here more m) {i : Item} (a : i ≡ item_at here) {e : Effect} (b : e ≡ effect_of i c) where
    turned : (src : List ℕ) → colours_from limit (found_at (slice_at here) (applied limit (take k room) e)) (tokens_all src m more)
        ≡ colours_from limit (found no_colours) (tokens_all src count tokens)
    unfolding colours_from
    turned src =
        rw (b, a, ← (effect-token limit src (item_at here) (take k room) c))
        (rw (chunk-tokens q src) at (l.left src))

    still : SmallEffect e
    still = rw b (effect-small i c l.small)

    -- a new current colour
    pub loop-set : (d : Colour) → e ≡ Set d → Loop tokens count room₀ limit room more m d k
    loop-set d x =
        record {
          words = chunk-words q l.words;
          long = l.long;
          limited = l.limited;
          held = l.held;
          behind = l.behind;
          within = l.within;
          small = rw x at still;
          left = λ src. rw x at (turned src);
        }

    -- 12, a number that does not fit
    pub loop-unfit : (p : ℕ) → p ≡ slice_at here → (r : Refusal) → r ≡ refusal_at NumberField p → e ≡ Unfit → (src : List ℕ)
        → ReadColours (colours (table_limit colour_words (length room₀)) (tokens_all src count tokens)) room₀ (Err r) room
    loop-unfit p z r y x src = rw (y, z) (stopped src (refusal_at NumberField (slice_at here)) (tokens_all src m more) (rw x at (turned src)))

    module _ (d : Colour) (x : e ≡ Store d) where
      pub stored-small : Small d
      stored-small = rw x at still

      stored-turned : (src : List ℕ) → colours_from limit (found_at (slice_at here) (kept limit (record { table = take k room; colour = d }))) (tokens_all src m more)
          ≡ colours_from limit (found no_colours) (tokens_all src count tokens)
      stored-turned src = rw x at (turned src)

      -- 18, a colour too many
      pub loop-full : limit ≤ k → (r : Refusal) → r ≡ refusal ColourRoom → (src : List ℕ)
          → ReadColours (colours (table_limit colour_words (length room₀)) (tokens_all src count tokens)) room₀ (Err r) room
      loop-full g r y src =
          let t : ltb (length (take k room)) limit ≡ false = le-ltb (length (take k room)) limit (rw filled g) in
          rw y (stopped src (refusal ColourRoom) (tokens_all src m more) (rw t at (stored-turned src)))

      -- one colour more
      pub loop-store : k < limit → (w : ℕ) → w ≡ colour_word d → Loop tokens count room₀ limit (set room k w) more m d (k + 1)
      loop-store g w y =
          let u : limit ≤ length room = l.held in
          let t : ltb (length (take k room)) limit ≡ true = lt-ltb (length (take k room)) limit (rw filled g) in
          let s : take (k + 1) (set room k w) ≡ take k room ++ (colour_word d ∷ []) = rw (add-one, ← y) (take-suc-set room k w (omega arith)) in
          record {
            words = chunk-words q l.words;
            long = simp length-set l.long;
            limited = l.limited;
            held = simp length-set u;
            behind = drop-set-lt (k + 1) room k w (omega arith) ∙ sym (drop-drop colour_words k room) ∙ ap (drop colour_words) l.behind ∙ drop-drop colour_words k room₀;
            within = omega arith;
            small = stored-small;
            left = λ src. rw s (rw t at (stored-turned src));
          }
