-- 01, Stored form: "The list: block count; per block .." of block records and a text. "The writer refuses by 24 (also where the
-- words are no whole blocks, or text places do not follow on from 0 to the end of the text)". Assumes nothing: these are
-- definitions.
use Rattle.std.specs.Prelude.{ℕ, zero, suc, ◌+◌, ◌/◌, ◌%◌, List, Bool, cond, ◌&&◌, length, take, drop, leb, eqb}
use Rattle.answers.specs.declared.Why.TheVariants.{StoredField}
use Rattle.answers.specs.Answers.{refusal}
use Rattle.rooms.specs.Streams.{Stream, end, stop, ◌▸◌, and_then}
use Rattle.sevens.specs.Sevens.{written, streamed}
use Rattle.blocks.specs.Pages.{Piece, piece, Last, none, last, block_words}
use Rattle.styles.specs.Styles.{style_at}
use Rattle.storing.specs.Fitting.{length_at, fits}
use Rattle.storing.specs.Bytes.{block_bytes}
use Rattle.answers.specs.declared.Refusal.{Refusal}

-- the blocks of k records
unfoldable pub pieces_from : ℕ → Last → ℕ → List ℕ → List ℕ → Stream Refusal Piece
pieces_from zero l p ws tx = cond (eqb p (length tx)) end (stop (refusal StoredField))
pieces_from (suc k) l p ws tx =
    cond (fits l p ws tx)
    (piece (style_at ws) (take (length_at ws) (drop p tx)) ▸ pieces_from k (last (style_at ws)) (p + length_at ws) (drop block_words ws) tx)
    (stop (refusal StoredField))

-- the bytes of blocks, one after the other
unfoldable pub bytes_of : Stream Refusal Piece → Stream Refusal ℕ
bytes_of end = end
bytes_of (stop r) = stop r
bytes_of (x ▸ s) = and_then (streamed (block_bytes x)) (bytes_of s)

-- whether words are whole blocks, of a count that a stored number has
abbrev pub whole : List ℕ → Bool
whole ws = eqb (length ws % block_words) 0 && leb (length ws / block_words) 4294967295

-- the bytes of the list
unfoldable pub list_stream : List ℕ → List ℕ → Stream Refusal ℕ
list_stream ws tx =
    cond (whole ws)
    (and_then (streamed (written (length ws / block_words))) (bytes_of (pieces_from (length ws / block_words) none 0 ws tx)))
    (stop (refusal StoredField))
