-- A control word, in the code's terms: callees' results are variables, and what the callees promise of them are premises.
--     record-known, record-unknown   the record of a word by the number of its name
--     numbered-bad, numbered_is      a word by what its number's bytes say
--     count-numbered                 it has at most one token
-- Assumes nothing.
use mathlib.Core.Path.{◌≡◌, sym, ap, ◌∙◌}
use mathlib.Core.List.{List}
use Prim.Native.Nat.{ℕ, suc, ◌+◌, ◌≤◌, ◌<◌}
use native.Mathlib.Omega.{arith}
use borrow.Author.Tests.{lt-ltb, le-ltb}
use lib.ListN.{length}
use Rattle.answers.specs.declared.Why.TheVariants.{NumberBad}
use Rattle.names.specs.Names.{word_number}
use Rattle.rooms.specs.Streams.{end, stop, ◌▸◌, count}
use Rattle.tokens.specs.declared.Record.{Record}
use Rattle.tokens.specs.Tokens.{word_record, unknown_record, record_of}
use Rattle.controls.specs.Controls.{shown_word, numbered}
use Rattle.std.specs.Prelude.{Option, Some, None}

module _ (p : ℕ) (name : List ℕ) (num : Option ℕ) (w : ℕ) (q : w ≡ word_number name) (r : Record) where
  pub record-known : w < 49 → r ≡ word_record w num → r ≡ record_of (shown_word p name num)
  unfolding record_of shown_word
  record-known h e = rw (← q, lt-ltb w 49 h) e

  pub record-unknown : 49 ≤ w → r ≡ unknown_record p (1 + length name) num → r ≡ record_of (shown_word p name num)
  unfolding record_of shown_word
  record-unknown h e =
      let one : 1 + length name ≡ suc (length name) = omega arith in
      rw (← q, le-ltb w 49 h) (rw one at e)

module _ (p : ℕ) (name : List ℕ) (x r : Option ℕ) (q : r ≡ x) where
  pub numbered-bad : r ≡ None → numbered p name x ≡ stop NumberBad
  unfolding numbered
  numbered-bad b = ap (numbered p name) (sym q ∙ b)

  pub numbered_is : (v : ℕ) → r ≡ Some v → numbered p name x ≡ shown_word p name (Some v) ▸ end
  unfolding numbered
  numbered_is v b = ap (numbered p name) (sym q ∙ b)

pub count-numbered : (p : ℕ) (name : List ℕ) (x : Option ℕ) → count (numbered p name x) ≤ 1
unfolding numbered count
count-numbered p name (Some v) = omega arith
count-numbered p name None = omega arith
