-- The text that `text_of` leaves in its room.
--     text-count, text-filled   the answer counts the text's bytes; the room holds them, and zeros
--     text-within               so a room of the right length holds all of it
--     text-room, text-front     of a result: the room's length, and that the text is its front
--     text-read, text-refused   the same by the answer's case, for a caller that looks at it
-- Assumes nothing.
use Prim.Native.Nat.{ℕ, ◌-◌, ◌≤◌}
use mathlib.Core.Path.{◌≡◌, refl, sym, ap, ◌∙◌}
use mathlib.Core.List.{List, []}
use mathlib.Core.Bool.{Bool, true, false, cond}
use native.Mathlib.Omega.{arith}
use lib.ListN.{length, take, replicate, length-append, length-replicate}
use lib.Seq.{take-append_seam}
use Rattle.answers.specs.declared.Why.TheVariants.{SourceTooLong}
use Rattle.answers.specs.declared.Refusal.{Refusal}
use Rattle.answers.specs.Answers.{refusal, Found, found, refused}
use Rattle.rooms.specs.Rooms.{filled}
use Rattle.readings.specs.declared.Reading.{Reading}
use Rattle.blocks.specs.Pages.{text_of}
use Rattle.parser.specs.Parsing.{Letter, answer_counts}
use Rattle.parser.specs.declared.Counts.{Counts}
use Rattle.reader.specs.Reading.{letter_of, answered, holding, read_answer, text_room}
use Rattle.extraction.specs.Extractor.{extractor_rooms, longer, extracted_answer, extracted_text, text_in, letter_text, TextOf}
use Rattle.std.specs.Prelude.{Result, Ok, Err}

module _ (rd : Reading) (letter : List ℕ) where
  pub text-count : (answer_counts (extracted_answer rd letter)).text ≡ length (letter_text rd letter)
  unfolding extracted_answer letter_text read_answer
  text-count = go (longer letter) (letter_of rd letter extractor_rooms)
    where
      go : (t : Bool) (x : Found Letter) → (answer_counts (cond t (Err (refusal SourceTooLong)) (answered rd letter x))).text ≡ length (cond t [] (text_in x))
      go true x = refl
      go false (found l) = refl
      go false (refused r) = refl

  pub text-filled : extracted_text rd letter ≡ filled extractor_rooms.text (letter_text rd letter)
  unfolding extracted_text letter_text text_room
  text-filled = go (longer letter) (letter_of rd letter extractor_rooms)
    where
      go : (t : Bool) (x : Found Letter)
          → cond t (replicate extractor_rooms.text 0) (holding extractor_rooms.text (λ (l : Letter). text_of l.pieces) x) ≡ filled extractor_rooms.text (cond t [] (text_in x))
      go true x = refl
      go false (found l) = refl
      go false (refused r) = refl

  -- a room of the right length has place for all of the text
  pub text-within : length (extracted_text rd letter) ≡ extractor_rooms.text → (answer_counts (extracted_answer rd letter)).text ≤ extractor_rooms.text
  text-within e =
      let ws : List ℕ = letter_text rd letter in
      let n = text-count in
      let f = ap length text-filled in
      let a = length-append ws (replicate (extractor_rooms.text - length ws) 0) in
      omega (arith, e, n, f, a)

module _ {rd : Reading} {letter : List ℕ} {r : Result Counts Refusal} {room : List ℕ} (w : TextOf rd letter r room) where
  pub text-room : length room ≡ extractor_rooms.text
  text-room =
      let ws : List ℕ = letter_text rd letter in
      let n = ap (λ (a : Result Counts Refusal). (answer_counts a).text) w.answer ∙ text-count rd letter in
      let f = ap length (w.text ∙ text-filled rd letter) in
      let a = length-append ws (replicate (extractor_rooms.text - length ws) 0) in
      let z = length-replicate {A = ℕ} (extractor_rooms.text - length ws) 0 in
      let h = w.within in
      omega (arith, n, f, a, z, h)

  pub text-front : take (answer_counts r).text room ≡ letter_text rd letter
  text-front = rw (w.answer, text-count rd letter, w.text, text-filled rd letter) (take-append_seam (letter_text rd letter) _)

  pub text-read : {n : Counts} → r ≡ Ok n → (n.text ≤ length room) × (take n.text room ≡ letter_text rd letter)
  text-read e = (let h = rw e at w.within in let l = text-room in omega (arith, h, l), rw e at text-front)

  pub text-refused : {q : Refusal} → r ≡ Err q → letter_text rd letter ≡ []
  text-refused e = sym (rw e at text-front)
