-- Pieces laid one after the other.
--     lay-end, lay-stop, lay-off, lay-more   by what comes next
--     ready-blank                            a page without blocks fits all rooms
--     Placeless                              where text finds no room, the refusal has no place
-- Assumes nothing.
use mathlib.Core.Path.{◌≡◌, refl}
use mathlib.Core.List.{List}
use mathlib.Core.Bool.{Bool, true, false, cond}
use Prim.Native.Nat.{ℕ, ◌-◌, ◌≤◌}
use native.Mathlib.Omega.{arith}
use lib.ListN.{length}
use lib.Seq.{sets}
use lib.Dec.{ltb}
use Rattle.answers.specs.declared.Refusal.{Refusal}
use Rattle.answers.specs.declared.Why.TheVariants.{BlockRoom, TextRoom}
use Rattle.answers.specs.Answers.{refusal, refusal_at}
use Rattle.rooms.specs.Rooms.{capacity, put}
use Rattle.styles.specs.declared.Style.{Style}
use Rattle.rooms.specs.Streams.{Stream, end, stop, ◌▸◌}
use Rattle.blocks.specs.declared.Page.{Page}
use Rattle.blocks.specs.Pages.{Piece, block_record, block_words, text_capacity, starts}
use Rattle.blocks.specs.Laying.{Laying, on, off, blank, last_in, opened, start_of, longer, measured, append_of, append_to, add_of, laid_on, lay_all, Ready}

pub lay-end : (l : Laying) → lay_all l end ≡ l
unfolding lay_all
lay-end l = refl

pub lay-stop : (p : Page) (b t : List ℕ) (r : Refusal) → lay_all (on p b t) (stop r) ≡ off r
unfolding lay_all
lay-stop p b t r = refl

pub lay-more : (l : Laying) (x : Piece) (s : Stream Refusal Piece) → lay_all l (x ▸ s) ≡ lay_all (laid_on l x) s
unfolding lay_all
lay-more l x s = refl

pub lay-off : (r : Refusal) (s : Stream Refusal Piece) → lay_all (off r) s ≡ off r
unfolding lay_all
lay-off r end = refl
lay-off r (stop q) = refl
lay-off r (x ▸ s) = lay-off r s

-- a page that fits its rooms
pub ready-blank : (w v : ℕ) → Ready blank w v
ready-blank w v =
    record { page = record { blocks = omega arith; small = omega arith; from = omega arith }; text = zero-le (text_capacity v) }
  where
    zero-le : (n : ℕ) → 0 ≤ n
    zero-le n = omega arith

-- text that finds no room is refused by 19 or 20, which carry no place: the refusal is the same wherever it is met
abbrev pub Placeless : Laying → Type 0
Placeless (on p b t) = Unit {0}
Placeless (off r) = (q : ℕ) → refusal_at r.why q ≡ r

start-placeless : (p : Page) (s : Style) (b t : List ℕ) → Placeless (start_of p s b t)
unfolding start_of
start-placeless p s b t = go (starts (last_in b p.blocks) s) (ltb p.blocks (capacity block_words (length b)))
  where
    go : (x y : Bool) → Placeless (cond x (cond y (on (opened p) (put block_words b p.blocks (block_record s p.text 0)) t) (off (refusal BlockRoom))) (on p b t))
    go true true = tt
    go true false = λ q. refl
    go false y = tt

append-placeless : (l : Laying) (bytes : List ℕ) → Placeless l → Placeless (append_to l bytes)
unfolding append_of
append-placeless (on p b t) bytes h = go (ltb (text_capacity (length t) - p.text) (length bytes))
  where
    go : (x : Bool) → Placeless (cond x (off (refusal TextRoom)) (on (longer p (length bytes)) (measured (longer p (length bytes)) b) (sets t p.text bytes)))
    go true = λ q. refl
    go false = tt
append-placeless (off r) bytes h = h

pub laid-on-placeless : (l : Laying) (x : Piece) → Placeless l → Placeless (laid_on l x)
unfolding add_of
laid-on-placeless (on p b t) x h = append-placeless (start_of p x.style b t) x.bytes (start-placeless p x.style b t)
laid-on-placeless (off r) x h = h
