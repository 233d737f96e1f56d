-- 01, Cutting and Answer numbers, and 02, A1, A2 and A4: a source's tokens by the reading, the one answer and the one content of the token room.
-- Assumes nothing: these are definitions.
use Rattle.std.specs.Prelude.{ℕ, ◌+◌, ◌*◌, ◌≤◌, ◌<◌, ◌≡◌, List, [], ◌∷◌, Bool, true, false, cond, ◌||◌, length, take, drop, ltb, eqb}
use Rattle.answers.specs.declared.Why.{Why}
use Rattle.answers.specs.declared.Why.TheVariants.{SourceTooLong, NotAscii, LastSlice, TokenRoom}
use Rattle.answers.specs.Answers.{refusal, refusal_at, outcome_count}
use Rattle.classes.specs.declared.Class.TheVariants.{White}
use Rattle.classes.specs.Bytes.{is_high, in_class, lead, body, any}
use Rattle.rooms.specs.Streams.{Stream, end, stop, ◌▸◌, and_then, items, answer, each}
use Rattle.rooms.specs.Rooms.{settled, content}
use Rattle.readings.specs.declared.Reading.{Reading}
use Rattle.readings.specs.declared.Reading.TheVariants.{Plain, Paragraphs, Standard}
use Rattle.slices.specs.Slices.{slices_by}
use Rattle.tokens.specs.Tokens.{Shown, Token, token, slice_of, slice_length_of, shown_in, token_words, token_layout}
use Rattle.tokens.specs.Items.{tokens_all}
use Rattle.tokenize.specs.Tokenize.{tokens}
use Rattle.standard.specs.Standard.{tokens as standard_tokens}
use Rattle.standard.specs.Closing.{is_closing, is_bracket}
use Rattle.answers.specs.declared.Refusal.{Refusal}
use Rattle.std.specs.Prelude.{Result, Ok}

-- the tokens of a slice at place p by the reading; 02, A1: "Cutting, by rules of its own"
abbrev pub tokens_by : Reading → ℕ → List ℕ → Stream Why Shown
tokens_by Plain p s = tokens Plain p s
tokens_by Paragraphs p s = tokens Paragraphs p s
tokens_by Standard p s = standard_tokens p s

-- each with the slice's place and length; its refusals have that place too (02, A4)
unfoldable pub located : Reading → ℕ → List ℕ → Stream Refusal Token
located rd p s = each (λ (w : Why). refusal_at w p) (token p (length s)) (tokens_by rd p s)

-- "the last slice is not `}` alone": 6
unfoldable pub last : ℕ → List ℕ → Stream Refusal Token
last p [] = stop (refusal_at LastSlice p)
last p (b ∷ []) = cond (eqb b 125) (token p 1 Shown.closing ▸ end) (stop (refusal_at LastSlice p))
last p (b ∷ c ∷ s) = stop (refusal_at LastSlice p)

-- the last slice by the reading: by the specification it is cut as the others, and is refused if it is not `}` alone
abbrev pub last_by : Reading → ℕ → List ℕ → Stream Refusal Token
last_by Plain p s = last p s
last_by Paragraphs p s = last p s
last_by Standard p s = and_then (located Standard p s) (cond (is_bracket s) end (stop (refusal_at LastSlice p)))

-- "cutting left to right, all slices but the last, gives the first of 3 to 5; then 6"
unfoldable pub all_slices : Reading → ℕ → List (List ℕ) → Stream Refusal Token
all_slices rd p [] = end
all_slices rd p (s ∷ []) = last_by rd p s
all_slices rd p (s ∷ t ∷ ss) = and_then (located rd p s) (all_slices rd (p + length s) (t ∷ ss))

-- 02, A1: "The whole source is cut first: 3 to 5 come before 6 wherever they stand."
unfoldable pub every : ℕ → List (List ℕ) → Stream Refusal Token
every p [] = end
every p (s ∷ ss) = and_then (located Standard p s) (every (p + length s) ss)

-- "6: the last token is no closing bracket." It has the place of the slice that the token was cut from
unfoldable pub closed_behind : Token → Stream Refusal Token → Stream Refusal Token
closed_behind t end = cond (is_closing (shown_in t)) end (stop (refusal_at LastSlice (slice_of t)))
closed_behind t (stop r) = stop r
closed_behind t (u ▸ s) = u ▸ closed_behind u s

unfoldable pub closing : Stream Refusal Token → Stream Refusal Token
closing end = end
closing (stop r) = stop r
closing (t ▸ s) = t ▸ closed_behind t s

-- the tokens of a trimmed source's slices. In standard reading these are `all_slices` too, as the last slice is never without a token
-- (proofs/Closing.antt)
abbrev pub cut_by : Reading → ℕ → List (List ℕ) → Stream Refusal Token
cut_by Plain p ss = all_slices Plain p ss
cut_by Paragraphs p ss = all_slices Paragraphs p ss
cut_by Standard p ss = closing (every p ss)

-- "Trim both ends.": where the trimmed source starts, and its bytes
abbrev pub trim_start : List ℕ → ℕ
trim_start src = lead (in_class White) src

unfoldable pub trimmed : List ℕ → List ℕ
trimmed src =
    let t = drop (trim_start src) src in
    take (body (in_class White) t) t

-- a source's tokens, or its refusal of 1 to 6. "Source places count from 0, before trimming."
unfoldable pub token_stream : Reading → List ℕ → Stream Refusal Token
token_stream rd src =
    cond (ltb 65536 (length src)) (stop (refusal SourceTooLong))
    (cond (any is_high src) (stop (refusal NotAscii))
    (cut_by rd (trim_start src) (slices_by rd (trimmed src))))

-- the one answer for a source and a room of so many words: "more tokens than the token room holds" is 7
unfoldable pub cut_answer : Reading → List ℕ → ℕ → Result ℕ Refusal
cut_answer rd src total = settled token_layout (refusal TokenRoom) total (answer 0 (token_stream rd src))

-- the one content of that room
unfoldable pub cut_room : Reading → List ℕ → ℕ → List ℕ
cut_room rd src total = content token_layout total (cut_answer rd src total) (token_stream rd src)

-- whether a slice starts at q, where the first of them starts at p
unfoldable pub starts_from : ℕ → ℕ → List (List ℕ) → Bool
starts_from q p [] = false
starts_from q p (s ∷ ss) =
    let later = starts_from q (p + length s) ss in
    eqb p q || later

-- "the source byte place of the slice": a place of the source, at which a slice starts
pub record SliceAt (rd : Reading) (src : List ℕ) (q : ℕ) : Type 0 where
  pub inside : q < length src
  pub starts : starts_from q (trim_start src) (slices_by rd (trimmed src)) ≡ true

-- a token's slice: it starts at the token's place, and its length ends in the source
pub record SliceIn (rd : Reading) (src : List ℕ) (t : Token) : Type 0 where
  pub at : SliceAt rd src (slice_of t)
  pub ends : slice_of t + slice_length_of t ≤ length src

abbrev pub SlicesIn : Reading → List ℕ → List Token → Type 0
SlicesIn rd src [] = Unit {0}
SlicesIn rd src (t ∷ ts) = SliceIn rd src t × SlicesIn rd src ts

-- What `cut` promises: the one answer, and the one content of the room. What who reads the tokens needs follows from these two, and
-- is said with them: there are at most 65,536 tokens, their records are in the room, there is one for each token, read back they are
-- the source's tokens, and the slice of each stands in the source.
pub record Cuts (rd : Reading) (src room : List ℕ) (r : Result ℕ Refusal) (room' : List ℕ) : Type 0 where
  pub answer : r ≡ cut_answer rd src (length room)
  pub content : room' ≡ cut_room rd src (length room)
  pub few : outcome_count r ≤ 65536
  pub fits : outcome_count r * token_words ≤ length room
  pub counts : (n : ℕ) → r ≡ Ok n → n ≡ length (items (token_stream rd src))
  pub reads : (n : ℕ) → r ≡ Ok n → tokens_all src n room' ≡ items (token_stream rd src)
  pub slices : SlicesIn rd src (items (token_stream rd src))
