-- The parts of a list.
--     first_fits                        the first line fits on a page of 63 bytes
--     part-fits                         a part fits on a page of 12 bytes for each of its words
--     Written, written_start, -more     the parts that are written and the lines that are left are all lines
--     list-lines                        what is written for a letter's room is the letter's list
-- Assumes nothing.
use Prim.Native.Nat.{ℕ, zero, suc, ◌+◌, ◌-◌, ◌*◌, ◌≤◌, ◌<◌, min}
use mathlib.Core.Path.{◌≡◌, refl, ap, ◌∙◌}
use mathlib.Core.List.{List, [], ◌∷◌, ◌++◌, append_assoc}
use native.Mathlib.Omega.{arith}
use lib.ListN.{length, take, drop, length-append, length-take}
use lib.Seq.{drop-append-add}
use Rattle.answers.specs.Answers.{answer_number, answer_place, outcome_count}
use Rattle.tokens.specs.Tokens.{token_words}
use Rattle.readings.specs.declared.Reading.{Reading}
use Rattle.cutter.specs.Cutting.{cut_answer, cut_room}
use Rattle.lines.specs.Lines.{lines}
use Rattle.lines.specs.Pages.{Put, PutWhole}
use Rattle.lines.proofs.Pages.{put_whole}
use Rattle.lines.proofs.Lengths.{length-decimal, length-place, length-lines}
use Rattle.lines.proofs.Parts.{lines_split}
use Rattle.listing.specs.Tokens.{first_line, token_lines, part_tokens, token_part}
use Rattle.std.specs.Prelude.{Result}
use Rattle.answers.specs.declared.Refusal.{Refusal}

abbrev pub part_words : ℕ
part_words = part_tokens * token_words

module _ {page page' : List ℕ} {r : ℕ} (same : length page' ≡ length page) where
  pub first_fits : (o : Result ℕ Refusal) → 63 ≤ length page → Put page 0 (first_line o) page' r → PutWhole page (first_line o) page' r
  unfolding first_line
  first_fits o h p =
      let a = length-decimal (answer_number o) in
      let p' = length-place (answer_number o) (answer_place o) in
      let b = length-decimal (outcome_count o) in
      put_whole p same (simp length-append (omega arith))

  pub part-fits : (count : ℕ) (room : List ℕ) → 12 * part_words ≤ length page → Put page 0 (lines token_words count (take part_words room)) page' r → PutWhole page (token_part count room) page' r
  unfolding token_part
  part-fits count room h p =
      let a = length-lines token_words count (take part_words room) in
      let t = length-take part_words room in
      put_whole p same (omega arith)

-- of the lines of the first `count` tokens of a room, those before the first `left` of `rest` are written
pub record Written (count : ℕ) (room : List ℕ) (left : ℕ) (rest : List ℕ) : Type 0 where
  pub written : List ℕ
  pub all : lines token_words count room ≡ written ++ lines token_words left rest

pub written_start : (count : ℕ) (room : List ℕ) → Written count room count room
written_start count room = record { written = []; all = refl }

drop-none : (k : ℕ) (l : List ℕ) → (0 < length l → k ≡ 0) → drop k l ≡ l
drop-none zero l h = refl
drop-none (suc k) [] h = refl
drop-none (suc k) (x ∷ l) h = absurd (let e = h (omega arith) in omega arith)

-- what is left behind a part of so many words, or of all that are left
behind_part : (n : ℕ) (part others : List ℕ) → length part ≡ min n (length (part ++ others)) → drop n (part ++ others) ≡ others
behind_part n part others h =
    let l = length-append part others in
    let e : n ≡ length part + (n - length part) = omega arith in
    rw e (drop-append-add part others (n - length part) ∙ drop-none (n - length part) others (λ g. omega arith))

pub written-more : {count : ℕ} {room : List ℕ} {left : ℕ} {rest : List ℕ} → Written count room left rest
    → {n : ℕ} (part others : List ℕ) → rest ≡ part ++ others → length part ≡ min part_words (length rest) → n ≡ left - part_tokens → Written count room n others
unfolding token_part
written-more {count} {room} {left} {rest} w {n} part others f h e =
    let b : drop part_words rest ≡ others = rw f (behind_part part_words part others (rw f at h)) in
    record {
      written = w.written ++ token_part left rest;
      all = rw (e, append_assoc, ← b) (w.all ∙ ap (λ (l : List ℕ). w.written ++ l) (lines_split token_words left part_tokens rest));
    }

pub list-lines : (rd : Reading) (letter : List ℕ) (words : ℕ) {o : Result ℕ Refusal} {room : List ℕ} → o ≡ cut_answer rd letter words → room ≡ cut_room rd letter words → length room ≡ words
    → token_lines rd letter (length room) ≡ first_line o ++ lines token_words (outcome_count o) room
unfolding token_lines
list-lines rd letter words e f n = rw (n, e, f)
