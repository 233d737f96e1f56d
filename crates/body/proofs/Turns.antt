-- The loop over the tokens: what is left, from the present states, run and page, leads where the whole leads.
--     Loop, loop-start, loop-end   before the first token, and behind the last
--     turn-refused, turn_on        one token: a refusal, and on
-- Assumes nothing.
use mathlib.Core.Path.{◌≡◌, refl, sym, ap, ◌∙◌}
use mathlib.Core.List.{List, [], ◌∷◌}
use Prim.Native.Nat.{ℕ, zero, suc, ◌+◌, ◌-◌, ◌*◌, ◌<◌, ◌≤◌}
use native.Mathlib.Omega.{arith}
use native.Mathlib.Numerals.{add-one}
use mathlib.Core.Bool.{Bool, true, false, cond}
use lib.Dec.{ltb}
use lib.ListN.{length, set, drop, length-drop, length-take, replicate}
use Rattle.answers.specs.declared.Refusal.{Refusal}
use Rattle.answers.specs.declared.Why.{Why}
use Rattle.answers.specs.Answers.{refusal_at, Fate, becomes, fails}
use Rattle.readings.specs.declared.Reading.{Reading}
use Rattle.rooms.specs.Streams.{Stream, end}
use Rattle.tokens.specs.Tokens.{Token, shown_in, token_words, shown_by}
use Rattle.tokens.specs.Items.{item_at, shown_of, shown_all, slice_at, token_at, tokens_all}
use Rattle.tokens.proofs.Items.{rest, tokens_none, tokens-some, tokens-drop, tokens-shown}
use Rattle.settings.specs.Fields.{width, fresh_row, Setting}
use Rattle.walk.specs.Walk.{Step, step_of, passed_by, walk}
use Rattle.walk.proofs.Walk.{walk-one, walk_end}
use Rattle.units.specs.declared.Run.{Run}
use Rattle.units.specs.declared.Gave.{Gave}
use Rattle.units.specs.Units.{before}
use Rattle.machine.specs.Stack.{moved, stack_of, held}
use Rattle.machine.specs.Machine.{Deed, at, ended, parts, gave, left as rest_of, owed_behind, move_of, onward, said, step_of as unit_of, owes_of, machine, ◌▸▸◌}
use Rattle.blocks.specs.declared.Page.{Page}
use Rattle.blocks.specs.Pages.{Piece}
use Rattle.blocks.specs.Laying.{Laying, on, off, blank, lay_all, Ready}
use Rattle.blocks.proofs.Laying.{lay-end, lay-stop, lay-off, ready-blank, Placeless}
use Rattle.runs.specs.Runs.{rows, steps_by, laid_all}
use Rattle.body.specs.Body.{act_of, acts, body}
use Rattle.deeds.specs.Turns.{deed_at, moved_by, Turned, goes, ends, turned, turn_of, Turns}
use Rattle.runs.proofs.Saying.{lay-said, laid-placeless}
use Rattle.deeds.specs.Deeds.{token_deed}
use Rattle.body.proofs.Groups.{at-step}
use Rattle.std.specs.Prelude.{Result, Ok, Err}

-- what is said of tokens, from a stack and a run on, where o characters are still to be passed over
abbrev from : Reading → List (List ℕ) → Run → ℕ → List Token → Stream Refusal Piece
from rd st run o ts = machine rows (steps_by rd) st run o (acts rd (walk ts))

abbrev whole : Reading → List ℕ → List ℕ → List ℕ → List ℕ → ℕ → Laying
whole rd src b₀ t₀ tokens count = lay_all (on blank b₀ t₀) (body rd (walk (tokens_all src count tokens)))

pub record Loop (rd : Reading) (src b₀ t₀ tokens : List ℕ) (count : ℕ) (b t : List ℕ) (states : List (List ℕ)) (depth : ℕ) (run : Run) (o : ℕ) (page : Page) (ws : List ℕ) (n : ℕ) : Type 0 where
  pub deep : depth ≤ 64
  pub all : length states ≡ 64
  pub words : n * token_words ≤ length ws
  pub few : n ≤ 65536
  pub long-b : length b ≡ length b₀
  pub long-t : length t ≡ length t₀
  pub paged : Ready page (length b) (length t)
  pub left : lay_all (on page b t) (from rd (held [] states depth) run o (tokens_all src n ws)) ≡ whole rd src b₀ t₀ tokens count

pub loop-start : (rd : Reading) (src b t tokens : List ℕ) (count : ℕ) {row : List ℕ} → row ≡ fresh_row → (count * token_words ≤ length tokens) × (count ≤ 65536)
    → Loop rd src b t tokens count b t (set (replicate 64 (replicate width 0)) 0 row) 1 before 0 blank tokens count
unfolding held body
loop-start rd src b t tokens count e h = record {
  deep = omega arith;
  all = refl;
  words = h.0;
  few = h.1;
  long-b = refl;
  long-t = refl;
  paged = ready-blank (length b) (length t);
  left = rw e refl;
}

-- where a token leads, whose slice stands at p, and what is said behind it
abbrev after : ℕ → Turned → (List (List ℕ) → Run → Stream Refusal Piece) → Laying
after p (goes st run pg b t) more = lay_all (on pg b t) (more st run)
after p (ends why) more = off (refusal_at why p)

after-turned : (p : ℕ) (l : Laying) → Placeless l → (m : Fate (List (List ℕ))) (run : Run) (more : List (List ℕ) → Run → Stream Refusal Piece)
    → lay_all l (onward p m (more (stack_of m) run)) ≡ after p (turned l m run) more
after-turned p (on pg b t) h (becomes st) run more = refl
after-turned p (on pg b t) h (fails why) run more = lay-stop pg b t (refusal_at why p)
after-turned p (off r) h m run more = lay-off r (onward p m (more (stack_of m) run)) ∙ ap off (sym (h p))

-- one token, and what is behind it
from_one : (rd : Reading) (st : List (List ℕ)) (run : Run) (o : ℕ) (t : Token) (ts : List Token) {q : ℕ} {d : Deed Setting} {g : Gave} {k : ℕ}
    → at q d ≡ act_of rd (step_of t ts) → g ≡ gave (unit_of (steps_by rd) st) run (rest_of o d) → k ≡ owed_behind (owes_of (steps_by rd) st) o d
    → from rd st run o (t ∷ ts) ≡ said rows st g (rest_of o d) ▸▸ onward q (moved fresh_row st (move_of rows (rest_of o d)))
    (from rd (stack_of (moved fresh_row st (move_of rows (rest_of o d)))) g.run k (drop (passed_by (shown_in t) (shown_by ts)) ts))
unfolding machine acts
from_one rd st run o t ts e f w = ap (λ (ss : List Step). machine rows (steps_by rd) st run o (acts rd ss)) (walk-one t ts) ∙ rw (← e, ← f, ← w) refl

from_end : (rd : Reading) (st : List (List ℕ)) (run : Run) (o : ℕ) → from rd st run o [] ≡ said rows st (ended run) parts ▸▸ end
unfolding machine acts
from_end rd st run o = ap (λ (ss : List Step). machine rows (steps_by rd) st run o (acts rd ss)) walk_end

-- what only parts its neighbours goes on wherever it stands
onward-parts : (p q : ℕ) (st : List (List ℕ)) (more : Stream Refusal Piece) → onward p (moved fresh_row st (move_of rows parts)) more ≡ onward q (moved fresh_row st (move_of rows parts)) more
unfolding moved
onward-parts p q [] more = refl
onward-parts p q (top ∷ rest) more = refl

-- of such a token all is left
parts-left : (o : ℕ) → rest_of {S = Setting} o parts ≡ parts
unfolding rest_of
parts-left zero = refl
parts-left (suc o) = refl

onward-at : (rd : Reading) (src ws : List ℕ) (h o : ℕ) (st : List (List ℕ)) (more : Stream Refusal Piece)
    → onward (cond (ltb 0 h) 0 (slice_at ws)) (moved fresh_row st (move_of rows (rest_of o (deed_at rd src ws h)))) more
    ≡ onward (slice_at ws) (moved fresh_row st (move_of rows (rest_of o (deed_at rd src ws h)))) more
unfolding deed_at
onward-at rd src ws h o st more = go (ltb 0 h)
  where
    go : (b : Bool) → let d = rest_of o (cond b parts (token_deed rd (shown_of src (item_at ws)))) in onward (cond b 0 (slice_at ws)) (moved fresh_row st (move_of rows d)) more ≡ onward (slice_at ws) (moved fresh_row st (move_of rows d)) more
    go true = rw (parts-left o) (onward-parts 0 (slice_at ws) st more)
    go false = refl

-- the words of the tokens behind the first k
words-behind : (k n : ℕ) (ws : List ℕ) → n * token_words ≤ length ws → (n - k) * token_words ≤ length (rest ws (k * token_words))
words-behind k n ws h = simp (length-take, length-drop) (omega arith)

module _ {rd : Reading} {src b₀ t₀ tokens : List ℕ} {count : ℕ} {b t : List ℕ} {states : List (List ℕ)} {depth : ℕ} {run : Run} {o : ℕ} {page : Page} {ws : List ℕ} {n : ℕ}
    (l : Loop rd src b₀ t₀ tokens count b t states depth run o page ws n) where
  pub loop-end : n ≤ 0 → {z : Laying} → z ≡ laid_all (on page b t) (said rows (held [] states depth) (ended run) parts) → z ≡ whole rd src b₀ t₀ tokens count
  loop-end y h =
      let p : Page = page in
      let r : Run = run in
      h
      ∙ sym (lay-end (laid_all (on p b t) (said rows (held [] states depth) (ended r) parts)))
      ∙ sym (lay-said (on p b t) (said rows (held [] states depth) (ended r) parts) end)
      ∙ ap (lay_all (on p b t)) (sym (from_end rd (held [] states depth) r o) ∙ sym (ap (from rd (held [] states depth) r o) (tokens_none src n ws y)))
      ∙ l.left

  module _ (y : 0 < n) {h : ℕ} (q : ((s : List ℕ) → h ≡ passed_by (shown_of s (item_at ws)) (shown_all s (n - 1) (rest ws token_words))) × (h ≤ n - 1)) where
    -- what is left of the token
    abbrev deed : Deed Setting
    deed = rest_of o (deed_at rd src ws h)

    abbrev stack : List (List ℕ)
    stack = held [] states depth

    abbrev gives : Gave
    gives = gave (unit_of (steps_by rd) stack) run deed

    abbrev owed : ℕ
    owed = owed_behind (owes_of (steps_by rd) stack) o (deed_at rd src ws h)

    -- the tokens behind the first and those that the walk passes over
    behind : drop h (tokens_all src (n - 1) (rest ws token_words)) ≡ tokens_all src (n - (h + 1)) (rest ws ((h + 1) * token_words))
    behind =
        let c : h + 1 ≤ n = let u = q.1 in omega arith in
        let d : drop (h + 1) (tokens_all src n ws) ≡ drop h (tokens_all src (n - 1) (rest ws token_words)) = rw (add-one h, tokens-some src n ws y) in
        sym d ∙ tokens-drop src (h + 1) n ws c

    abbrev more : List (List ℕ) → Run → Stream Refusal Piece
    more st r = from rd st r owed (tokens_all src (n - (h + 1)) (rest ws ((h + 1) * token_words)))

    abbrev next : Fate (List (List ℕ))
    next = moved fresh_row stack (move_of rows deed)

    passes : h ≡ passed_by (shown_of src (item_at ws)) (shown_by (tokens_all src (n - 1) (rest ws token_words)))
    passes = q.0 src ∙ ap (passed_by (shown_of src (item_at ws))) (sym (tokens-shown src (n - 1) (rest ws token_words)))

    front : from rd stack run o (tokens_all src n ws) ≡ said rows stack gives deed ▸▸ onward (slice_at ws) next (more (stack_of next) gives.run)
    front =
        let ts : List Token = tokens_all src (n - 1) (rest ws token_words) in
        ap (from rd stack run o) (tokens-some src n ws y)
        ∙ from_one rd stack run o (token_at src ws) ts (at-step rd src ws ts h passes) refl refl
        ∙ ap (λ (s : Stream Refusal Piece). said rows stack gives deed ▸▸ s) (onward-at rd src ws h o stack (from rd (stack_of next) gives.run owed (drop (passed_by (shown_of src (item_at ws)) (shown_by ts)) ts)))
        ∙ ap (λ (j : ℕ). said rows stack gives deed ▸▸ onward (slice_at ws) next (from rd (stack_of next) gives.run owed (drop j ts))) (sym passes)
        ∙ ap (λ (us : List Token). said rows stack gives deed ▸▸ onward (slice_at ws) next (from rd (stack_of next) gives.run owed us)) behind

    leads : after (slice_at ws) (turn_of stack page b t gives deed) more ≡ whole rd src b₀ t₀ tokens count
    unfolding turn_of
    leads =
        let x : Laying = laid_all (on page b t) (said rows stack gives deed) in
        sym (after-turned (slice_at ws) x (laid-placeless (on page b t) (said rows stack gives deed) tt) next gives.run more)
        ∙ sym (lay-said (on page b t) (said rows stack gives deed) (onward (slice_at ws) next (more (stack_of next) gives.run)))
        ∙ ap (lay_all (on page b t)) (sym front)
        ∙ l.left

    module _ {m : Result ℕ Why} {states' : List (List ℕ)} {r' : Run} {page' : Page} {b' t' : List ℕ} (k : Turns m states' r' page' b' t' (length b) (length t) (turn_of stack page b t gives deed)) where
      goes_on_lem : after (slice_at ws) (turned (on page' b' t') (moved_by m states') r') more ≡ whole rd src b₀ t₀ tokens count
      goes_on_lem = ap (λ (z : Turned). after (slice_at ws) z more) k.does ∙ leads

      pub turn-refused : {why : Why} {p : ℕ} {r : Refusal} → m ≡ Err why → p ≡ slice_at ws → r ≡ refusal_at why p → off r ≡ whole rd src b₀ t₀ tokens count
      turn-refused {why} u e w = ap off (w ∙ ap (refusal_at why) e) ∙ (rw u at goes_on_lem)

      pub turn_on : {d : ℕ} → m ≡ Ok d → length b' ≡ length b → length t' ≡ length t → {o' : ℕ} → o' ≡ owed
          → Loop rd src b₀ t₀ tokens count b' t' states' d r' o' page' (rest ws ((h + 1) * token_words)) (n - (h + 1))
      turn_on {d} u lb lt w = record {
        deep = rw u at k.deep;
        all = k.all;
        words = words-behind (h + 1) n ws l.words;
        few = let x : n ≤ 65536 = l.few in omega arith;
        long-b = lb ∙ l.long-b;
        long-t = lt ∙ l.long-t;
        paged = rw (lb, lt) k.ready;
        left = rw w (rw u at goes_on_lem);
      }
