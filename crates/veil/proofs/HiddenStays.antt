-- Hidden stays hidden: letters that are the same except inside ignored groups say the same.
--     hidden-stays-hidden   of letters with one veil
--     alike-said            of letters that differ inside ignored groups, group by group
--     promise-kept, literally-kept   demand 3, as specs/Promise says it whole
-- It is about the definitions that the contracts of `reader::read` and `cutter::cut` cite. Assumes nothing.
use mathlib.Core.Path.{◌≡◌, refl, sym, ap, ◌∙◌}
use mathlib.Core.List.{List}
use mathlib.Core.Bool.{true}
use Prim.Native.Nat.{ℕ}
use Rattle.answers.specs.declared.Why.TheVariants.{TokenRoom}
use Rattle.answers.specs.Answers.{refusal}
use Rattle.rooms.specs.Streams.{items, answer}
use Rattle.rooms.specs.Rooms.{settled}
use Rattle.rooms.proofs.Streams.{ok_err}
use Rattle.tokens.specs.Tokens.{Token, token_layout}
use Rattle.cutter.specs.Cutting.{token_stream, cut_answer}
use Rattle.walk.specs.Walk.{Step, walk}
use Rattle.readings.specs.declared.Reading.{Reading}
use Rattle.parser.specs.Parsing.{Sizes}
use Rattle.reader.specs.Reading.{cut, letter_of}
use Rattle.veil.specs.Veil.{veil, Alike}
use Rattle.veil.specs.Said.{said_by, said, SameRooms}
use Rattle.veil.specs.Promise.{Promise, LiteralPromise}
use Rattle.veil.proofs.Bare.{bare_steps}
use Rattle.veil.proofs.Shows.{whole, answer-whole}
use Rattle.veil.proofs.Veils.{walk_same}
use Rattle.veil.proofs.Steps.{first, begun-steps, say_of, say-bare}
use Rattle.veil.proofs.Names.{letter-names}
use Rattle.veil.proofs.Groups.{alike-veil}
use Rattle.std.specs.Prelude.{Result, Ok, Err}
use Rattle.answers.specs.declared.Refusal.{Refusal}

-- a source that is cut without refusal
cut-whole : (rd : Reading) (src : List ℕ) (total : ℕ) {n : ℕ} → cut_answer rd src total ≡ Ok n → whole (token_stream rd src) ≡ true
unfolding cut_answer settled
cut-whole rd src total {n} e = go (answer 0 (token_stream rd src)) refl e
  where
    go : (o : Result ℕ Refusal) → answer 0 (token_stream rd src) ≡ o → settled token_layout (refusal TokenRoom) total o ≡ Ok n
        → whole (token_stream rd src) ≡ true
    go (Ok m) a q = answer-whole (token_stream rd src) 0 m a
    go (Err r) a q = absurd (ok_err (sym q))

-- the steps of the walk, without places
steps : Reading → List ℕ → List Step
steps rd src = bare_steps (walk (items (token_stream rd src)))

-- a font's name, read from the source, is the name that the font table gives
pub said-own : (rd : Reading) (src : List ℕ) (z : Sizes) {n : ℕ} → cut_answer rd src z.tokens ≡ Ok n
    → said rd src z ≡ say_of (letter_of rd src z)
unfolding said letter_of
said-own rd src z e =
    let ts : List Token = items (token_stream rd src) in
    ap (λ (o : Result ℕ Refusal). said_by src (cut rd z (items (token_stream rd src)) o)) e
    ∙ ap (said_by src) (begun-steps rd z ts)
    ∙ letter-names src rd z.fonts z.colours z.blocks z.text
    ∙ ap say_of (sym (begun-steps rd z ts))
    ∙ ap (λ (o : Result ℕ Refusal). say_of (cut rd z (items (token_stream rd src)) o)) (sym e)

-- it says what its steps say
said-steps : (rd : Reading) (src : List ℕ) (z : Sizes) {n : ℕ} → cut_answer rd src z.tokens ≡ Ok n
    → said rd src z ≡ say_of (first rd z.fonts z.colours z.blocks z.text (steps rd src))
unfolding letter_of steps
said-steps rd src z e =
    let ts : List Token = items (token_stream rd src) in
    said-own rd src z e
    ∙ ap (λ (o : Result ℕ Refusal). say_of (cut rd z (items (token_stream rd src)) o)) e
    ∙ ap say_of (begun-steps rd z ts)
    ∙ sym (say-bare rd z.fonts z.colours z.blocks z.text (walk ts))

same-steps : (rd : Reading) (a b : List ℕ) (s t : ℕ) {n m : ℕ} → cut_answer rd a s ≡ Ok n → cut_answer rd b t ≡ Ok m → veil rd a ≡ veil rd b
    → steps rd a ≡ steps rd b
unfolding steps
same-steps rd a b s t u v e = walk_same rd a b (cut-whole rd a s u) (cut-whole rd b t v) e

-- in rooms of the same sizes the same steps say the same
same-sizes : (rd : Reading) (z y : Sizes) (ss : List Step) → SameRooms z y
    → say_of (first rd z.fonts z.colours z.blocks z.text ss) ≡ say_of (first rd y.fonts y.colours y.blocks y.text ss)
same-sizes rd z y ss s = rw (s.fonts, s.colours, s.blocks, s.text)

-- ---- the theorem

-- Any reading; any two sources, white space at their ends included; any rooms, those of one as large as those of the other but
-- for the token rooms. Premises: each source is cut without refusal in its token room (so that room is enough), and they have
-- one veil. Then both are refused alike, or both give the same fonts, colours, blocks and text
pub hidden-stays-hidden : (rd : Reading) (a b : List ℕ) (z y : Sizes) → SameRooms z y → {n m : ℕ}
    → cut_answer rd a z.tokens ≡ Ok n → cut_answer rd b y.tokens ≡ Ok m → veil rd a ≡ veil rd b
    → said rd a z ≡ said rd b y
hidden-stays-hidden rd a b z y s u v e =
    said-steps rd a z u
    ∙ ap (λ (ss : List Step). say_of (first rd z.fonts z.colours z.blocks z.text ss)) (same-steps rd a b z.tokens y.tokens u v e)
    ∙ same-sizes rd z y (steps rd b) s
    ∙ sym (said-steps rd b y v)

-- The same of letters that differ inside ignored groups, each closed by its own bracket: of those in between, where one group
-- after another is changed, nothing is asked
pub alike-said : (rd : Reading) (a b : List ℕ) (z y : Sizes) → SameRooms z y → {n m : ℕ}
    → cut_answer rd a z.tokens ≡ Ok n → cut_answer rd b y.tokens ≡ Ok m → Alike rd a b
    → said rd a z ≡ said rd b y
alike-said rd a b z y s u v k = hidden-stays-hidden rd a b z y s u v (alike-veil rd k)

-- demand 3
pub promise-kept : Promise
promise-kept rd a b z y c e = hidden-stays-hidden rd a b z y c.rooms c.first.1 c.second.1 e

pub literally-kept : LiteralPromise
literally-kept rd a b z y c k = alike-said rd a b z y c.rooms c.first.1 c.second.1 k
