-- A token's record.
--     put_six                       its words, stored one by one
--     token-sized                   a record is as wide as its layout says
--     text-record, opening-record ..   the record that the code makes is the token's
--     wrote-token, wrote-token-and  a token's record was written; and then a stream by a further call
-- Assumes nothing.
use mir.Val.{bool_byte}
use Rattle.std.specs.Prelude.{Some, None, is_some}
use mathlib.Core.Path.{◌≡◌, refl, ap, ◌∙◌}
use mathlib.Core.List.{List}
use Prim.Native.Nat.{ℕ, ◌+◌, ◌*◌, ◌<◌}
use native.Mathlib.Numerals.{towards_suc}
use lib.ListN.{length, set}
use lib.Seq.{sets}
use Rattle.rooms.specs.Rooms.{capacity, put}
use Rattle.rooms.specs.Streams.{Stream, end, ◌▸◌}
use Rattle.rooms.specs.Rooms.{Wrote}
use Rattle.rooms.proofs.Rooms.{put_in, wrote_one, wrote-more}
use Rattle.tokens.specs.declared.Kind.TheVariants as kinds
use Rattle.tokens.specs.declared.Record.{Record}
use Rattle.tokens.specs.Tokens.{kind_number, has_of, Shown, Token, token_words, record_words, bare_record, text_record, word_record, symbol_record, record_of, shown_layout, token_layout}
use Rattle.answers.specs.declared.Why.{Why}
use Rattle.std.specs.Prelude.{Result, Ok, Option}

-- a number's presence, as the code makes a word of it
pub has-byte : (num : Option ℕ) → bool_byte (is_some num) ≡ has_of num
has-byte None = refl
has-byte (Some v) = refl

module _ (room : List ℕ) (n : ℕ) (t : Record) where
  six : (a : ℕ) → set (set (set (set (set (set room a t.kind) (a + 1) t.word) (a + 2) t.has) (a + 3) t.number) (a + 4) t.place) (a + 5) t.length ≡ sets room a (record_words t)
  six a = simp towards_suc

  pub put_six : n < capacity token_words (length room)
      → set (set (set (set (set (set room (n * token_words) t.kind) (n * token_words + 1) t.word) (n * token_words + 2) t.has) (n * token_words + 3) t.number) (n * token_words + 4) t.place) (n * token_words + 5) t.length
      ≡ put token_words room n (record_words t)
  put_six h = six (n * token_words) ∙ put_in token_words room n (record_words t) h

-- a record is as wide as its layout says
pub token-sized : (t : Token) → length (token_layout.words t) ≡ token_layout.width
token-sized t = refl

module _ {r : Record} where
  pub text-record : (p : ℕ) (bs : List ℕ) (n : ℕ) → n ≡ length bs → r ≡ text_record p n → r ≡ record_of (Shown.text p bs)
  unfolding record_of
  text-record p bs n l e = e ∙ rw l

  pub word-record : (w : ℕ) (num : Option ℕ) → r ≡ word_record w num → r ≡ record_of (Shown.word w num)
  unfolding record_of
  word-record w num e = e

  pub symbol-record : (b : ℕ) (num : Option ℕ) → r ≡ symbol_record b num → r ≡ record_of (Shown.symbol b num)
  unfolding record_of
  symbol-record b num e = e

  pub opening-record : r ≡ bare_record (kind_number kinds.Opening) → r ≡ record_of Shown.opening
  unfolding record_of
  opening-record e = e

  pub closing-record : r ≡ bare_record (kind_number kinds.Closing) → r ≡ record_of Shown.closing
  unfolding record_of
  closing-record e = e

  pub break-record : r ≡ bare_record (kind_number kinds.LineBreak) → r ≡ record_of Shown.line_break
  unfolding record_of
  break-record e = e

  pub ignorable-record : r ≡ bare_record (kind_number kinds.Ignorable) → r ≡ record_of Shown.ignorable
  unfolding record_of
  ignorable-record e = e

  module _ {x : Stream Why Shown} {n : ℕ} {room room' : List ℕ} {t : Shown} where
    pub wrote-token : x ≡ t ▸ end → r ≡ record_of t → room' ≡ put token_words room n (record_words r) → Wrote shown_layout n room x (Ok (n + 1)) room'
    wrote-token e q h = wrote_one shown_layout e (h ∙ ap (λ (z : Record). put token_words room n (record_words z)) q)

    pub wrote-token-and : {y : Stream Why Shown} {q : Result ℕ Why} {room'' : List ℕ} → x ≡ t ▸ y → r ≡ record_of t → room' ≡ put token_words room n (record_words r)
        → Wrote shown_layout (n + 1) room' y q room'' → Wrote shown_layout n room x q room''
    wrote-token-and e q h w = wrote-more shown_layout e (h ∙ ap (λ (z : Record). put token_words room n (record_words z)) q) w
