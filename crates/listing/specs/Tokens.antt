-- What the program prints of a letter. Assumes nothing: these are definitions.
use Rattle.std.specs.Prelude.{ℕ, ◌*◌, List, ◌++◌, take}
use Rattle.answers.specs.Answers.{answer_number, answer_place, outcome_count}
use Rattle.tokens.specs.Tokens.{token_words}
use Rattle.readings.specs.declared.Reading.{Reading}
use Rattle.cutter.specs.Cutting.{cut_answer, cut_room}
use Rattle.lines.specs.Lines.{item, place_item, lines}
use Rattle.std.specs.Prelude.{Result}
use Rattle.answers.specs.declared.Refusal.{Refusal}

-- the answer's number, of a refusal its place, and the count of tokens
unfoldable pub first_line : Result ℕ Refusal → List ℕ
first_line o = item (answer_number o) 32 ++ (place_item (answer_number o) (answer_place o) ++ item (outcome_count o) 10)

-- then the words of each token, one a line; the letter is cut in a room of so many words
unfoldable pub token_lines : Reading → List ℕ → ℕ → List ℕ
token_lines rd letter words =
    let o = cut_answer rd letter words in
    first_line o ++ lines token_words (outcome_count o) (cut_room rd letter words)

-- the first part of the lines of so many tokens: those of 1,024
abbrev pub part_tokens : ℕ
part_tokens = 1024

unfoldable pub token_part : ℕ → List ℕ → List ℕ
token_part count room = lines token_words count (take (part_tokens * token_words) room)
