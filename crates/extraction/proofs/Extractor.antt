-- The extractor, function by function.
--     read-longer, read_taken   by the letter's length
--     list-fits                 any listing of the rooms fits on the page
--     extract-listed            what was read, listed
-- Assumes nothing.
use Prim.Native.Nat.{ℕ, ◌+◌, ◌-◌, ◌*◌, ◌≤◌, ◌<◌}
use mathlib.Core.Path.{◌≡◌, sym, ap, ◌∙◌}
use mathlib.Core.List.{List, ◌++◌}
use mathlib.Core.Bool.{true, false}
use native.Mathlib.Omega.{arith}
use borrow.Author.Tests.{lt-ltb, le-ltb}
use lib.ListN.{length, take, replicate}
use Rattle.answers.specs.declared.Why.TheVariants.{SourceTooLong}
use Rattle.answers.specs.declared.Refusal.{Refusal}
use Rattle.answers.specs.Answers.{refusal, answer_number, answer_place}
use Rattle.readings.specs.declared.Reading.{Reading}
use Rattle.parser.specs.Parsing.{sizes, answer_counts}
use Rattle.parser.specs.declared.Counts.{Counts}
use Rattle.reader.specs.Reading.{read_answer, font_room, colour_room, block_room, text_room}
use Rattle.lines.specs.Pages.{Put, PutWhole}
use Rattle.lines.proofs.Pages.{put_whole}
use Rattle.extraction.specs.declared.listing.Listed.{Listed}
use Rattle.extraction.specs.Listings.{listing}
use Rattle.extraction.proofs.Lengths.{length-listing}
use Rattle.extraction.specs.Extractor.{extractor_rooms, letter_most, longer, extracted_answer, extracted_text, extracted, ReadInRooms, Extracts}
use Rattle.extraction.proofs.Texts.{text-within}
use Rattle.std.specs.Prelude.{Result, Err}

module _ (rd : Reading) (letter : List ℕ) where
  pub read-longer : letter_most < length letter → {w : Refusal} → w ≡ refusal SourceTooLong → (fs cs bs tx : List ℕ) {tx' : List ℕ}
      → length tx ≡ extractor_rooms.text → tx' ≡ take 0 tx ++ replicate (length tx - 0) 0 → ReadInRooms rd letter (Err w) fs cs bs tx'
  unfolding extracted_answer extracted_text extracted listing
  read-longer h {w} f fs cs bs tx {tx'} n e =
      let t : longer letter ≡ true = lt-ltb letter_most (length letter) h in
      let m : length tx - 0 ≡ extractor_rooms.text = omega arith in
      record {
        text-of = record { answer = rw t (ap Err f); text = rw t (e ∙ ap (λ (k : ℕ). replicate k 0) m); within = omega arith };
        listed = rw (t, f);
      }

  pub read_taken : length letter ≤ letter_most → (tk fs cs bs tx : List ℕ) → length tk ≡ extractor_rooms.tokens → length fs ≡ extractor_rooms.fonts
      → length cs ≡ extractor_rooms.colours → length bs ≡ extractor_rooms.blocks → length tx ≡ extractor_rooms.text → {a : Result Counts Refusal} {fs' cs' bs' tx' : List ℕ}
      → a ≡ read_answer rd letter (sizes tk fs cs bs tx) → fs' ≡ font_room rd letter (sizes tk fs cs bs tx) → cs' ≡ colour_room rd letter (sizes tk fs cs bs tx)
      → bs' ≡ block_room rd letter (sizes tk fs cs bs tx) → tx' ≡ text_room rd letter (sizes tk fs cs bs tx) → length tx' ≡ length tx
      → ReadInRooms rd letter a fs' cs' bs' tx'
  unfolding extracted_answer extracted_text extracted
  read_taken h tk fs cs bs tx lt lf lc lb lx {a} {fs'} {cs'} {bs'} {tx'} e f c b x k =
      let t : longer letter ≡ false = le-ltb letter_most (length letter) h in
      let z : sizes tk fs cs bs tx ≡ extractor_rooms = rw (lt, lf, lc, lb, lx) in
      let i : a ≡ extracted_answer rd letter = rw t (e ∙ ap (read_answer rd letter) z) in
      let j : tx' ≡ extracted_text rd letter = rw t (x ∙ ap (text_room rd letter) z) in
      record {
        text-of = record { answer = i; text = j; within = rw i (text-within rd letter (sym (ap length j) ∙ k ∙ lx)) };
        listed = rw (t, e, f, c, b, x, z);
      }

-- no listing of the extractor's rooms has more bytes
abbrev pub listing_most : ℕ
listing_most = 148 + 12 * (extractor_rooms.fonts + extractor_rooms.colours + extractor_rooms.blocks) + extractor_rooms.text

pub list-fits : (k place : ℕ) (n : Counts) (fs cs bs tx : List ℕ) → length fs ≡ extractor_rooms.fonts → length cs ≡ extractor_rooms.colours
    → length bs ≡ extractor_rooms.blocks → length tx ≡ extractor_rooms.text → {page page' : List ℕ} {r : ℕ} → listing_most ≤ length page → length page' ≡ length page
    → Put page 0 (listing k place n fs cs bs tx) page' r → PutWhole page (listing k place n fs cs bs tx) page' r
list-fits k place n fs cs bs tx f c b x h s p = put_whole p s (let l = length-listing n fs cs bs tx k place in omega arith)

pub extract-listed : {rd : Reading} {letter : List ℕ} {a : Result Counts Refusal} {fs cs bs tx page page' : List ℕ} {r : Listed} → ReadInRooms rd letter a fs cs bs tx
    → r.number ≡ answer_number a → PutWhole page (listing (answer_number a) (answer_place a) (answer_counts a) fs cs bs tx) page' r.bytes → Extracts rd letter page r page'
extract-listed g n w = record {
  number = n ∙ ap answer_number g.text-of.answer;
  bytes = rw g.listed at w.count;
  content = rw g.listed at w.content;
}
