-- The whole of `read`, one law for each way through the code.
--     cut-refused, cut-parsed      what was cut and parsed
--     read-refused, read_done      the answer and the five rooms
-- Assumes nothing.
use mathlib.Core.Path.{◌≡◌, refl, sym, ap, ◌∙◌}
use mathlib.Core.List.{List}
use Prim.Native.Nat.{ℕ, ◌≤◌}
use native.Mathlib.Omega.{arith}
use lib.ListN.{length, replicate}
use Rattle.answers.specs.declared.Refusal.{Refusal}
use Rattle.answers.specs.Answers.{Found, found, refused}
use Rattle.rooms.specs.Streams.{items}
use Rattle.rooms.specs.Rooms.{encode, filled, content}
use Rattle.tokens.specs.Tokens.{Token, token_layout}
use Rattle.cutter.specs.Cutting.{token_stream, cut_answer, cut_room}
use Rattle.tokens.specs.Items.{tokens_all}
use Rattle.readings.specs.declared.Reading.{Reading}
use Rattle.parser.specs.declared.Counts.{Counts}
use Rattle.blocks.specs.Pages.{blocks}
use Rattle.parser.specs.Parsing.{begun, Sizes, Letter, walked, Few, FewIn}
use Rattle.parser.proofs.Few.{letter-few}
use Rattle.parser.specs.Parts.{LetterInto}
use Rattle.reader.specs.Reading.{cut, letter_of, token_count, counts_of, read_answer, token_room, font_room, colour_room, block_room, text_room, Reads}
use Rattle.std.specs.Prelude.{Result, Ok, Err}

zeros : {l : List ℕ} {n m : ℕ} → l ≡ replicate n 0 → n ≡ m → l ≡ replicate m 0
zeros e q = e ∙ rw q

-- the room of a source that was cut holds the records and zeros
cut-room : (rd : Reading) (src : List ℕ) (total : ℕ) {n : ℕ} → Ok n ≡ cut_answer rd src total → cut_room rd src total ≡ filled total (encode token_layout (token_stream rd src))
unfolding cut_room content
cut-room rd src total e = ap (λ (a : Result ℕ Refusal). content token_layout total a (token_stream rd src)) (sym e)

-- a letter has at most as many blocks as its source has tokens
letter-counted : (rd : Reading) (src : List ℕ) (z : Sizes) → FewIn (token_count rd src) (letter_of rd src z)
unfolding letter_of
letter-counted rd src z = go (cut_answer rd src z.tokens)
  where
    go : (o : Result ℕ Refusal) → FewIn (token_count rd src) (cut rd z (items (token_stream rd src)) o)
    go (Ok n) = letter-few rd z (items (token_stream rd src))
    go (Err r) = tt

module _ (rd : Reading) (src : List ℕ) (z : Sizes) where
  pub read-refused : {k : Refusal} → letter_of rd src z ≡ refused k → {r : Result Counts Refusal} {tk fs cs bs tx : List ℕ} → r ≡ Err k → {n₁ n₂ n₃ n₄ n₅ : ℕ} → tk ≡ replicate n₁ 0 → n₁ ≡ z.tokens
      → fs ≡ replicate n₂ 0 → n₂ ≡ z.fonts → cs ≡ replicate n₃ 0 → n₃ ≡ z.colours → bs ≡ replicate n₄ 0 → n₄ ≡ z.blocks → tx ≡ replicate n₅ 0 → n₅ ≡ z.text
      → Reads rd src z r tk fs cs bs tx
  unfolding read_answer token_room font_room colour_room block_room text_room
  read-refused {k} e a b b' c c' d d' f f' g g' = record {
    answer = rw e a;
    tokens = rw e (zeros b b');
    fonts = rw e (zeros c c');
    colours = rw e (zeros d d');
    blocks = rw e (zeros f f');
    text = rw e (zeros g g');
    counted = λ c q. absurd (let w : Err k ≡ Ok c = sym a ∙ q in let v : ◌≡◌ {A = ℕ} 0 1 = cc in omega arith);
  }

  -- refused by the cutter
  pub cut-refused : {o : Result ℕ Refusal} {k : Refusal} → o ≡ cut_answer rd src z.tokens → o ≡ Err k → (m : ℕ) (fs cs bs tx : List ℕ)
      → LetterInto (letter_of rd src z) m (Err k) fs cs bs tx z.fonts z.colours z.blocks z.text
  unfolding letter_of
  cut-refused e d m fs cs bs tx = rw (sym e ∙ d) refl

  -- cut: the parser's answer stands
  pub cut-parsed : {o : Result ℕ Refusal} {n : ℕ} → o ≡ cut_answer rd src z.tokens → o ≡ Ok n → (room : List ℕ) → n ≡ token_count rd src → tokens_all src n room ≡ items (token_stream rd src) → {t : ℕ} → t ≡ z.tokens → (a : Result Counts Refusal) (fs cs bs tx : List ℕ)
      → LetterInto (walked rd (record { tokens = t; fonts = z.fonts; colours = z.colours; blocks = z.blocks; text = z.text }) (begun (tokens_all src n room))) n a fs cs bs tx z.fonts z.colours z.blocks z.text
      → LetterInto (letter_of rd src z) (token_count rd src) a fs cs bs tx z.fonts z.colours z.blocks z.text
  unfolding letter_of
  cut-parsed {o} {n} e d room m q i a fs cs bs tx g =
      let l : letter_of rd src z ≡ walked rd z (begun (tokens_all src n room)) =
      ap (cut rd z (items (token_stream rd src))) (sym e ∙ d) ∙ ap (λ (ts : List Token). walked rd z (begun ts)) (sym q) in
      rw (l, ← m) (rw i at g)

  module _ (a : Result Counts Refusal) (fs cs bs tx : List ℕ) (g : LetterInto (letter_of rd src z) (token_count rd src) a fs cs bs tx z.fonts z.colours z.blocks z.text) where
    pub letter-refuses : {k : Refusal} → a ≡ Err k → letter_of rd src z ≡ refused k
    letter-refuses {k} i = go (letter_of rd src z) g
      where
        go : (x : Found Letter) → LetterInto x (token_count rd src) a fs cs bs tx z.fonts z.colours z.blocks z.text → x ≡ refused k
        go (found l) y = absurd (let w : Ok _ ≡ Err k = sym y.0 ∙ i in let v : ◌≡◌ {A = ℕ} 0 1 = cc in omega arith)
        go (refused r) y = let w : Err r ≡ Err k = sym y ∙ i in cc

    -- a letter that was read was cut
    was-cut : (l : Letter) → letter_of rd src z ≡ found l → cut_room rd src z.tokens ≡ filled z.tokens (encode token_layout (token_stream rd src))
    unfolding letter_of
    was-cut l v = go (cut_answer rd src z.tokens) refl
      where
        go : (o : Result ℕ Refusal) → o ≡ cut_answer rd src z.tokens → cut_room rd src z.tokens ≡ filled z.tokens (encode token_layout (token_stream rd src))
        go (Ok n) e = cut-room rd src z.tokens e
        go (Err r) e = absurd (let w : refused r ≡ found l = ap (cut rd z (items (token_stream rd src))) e ∙ v in let u : ◌≡◌ {A = ℕ} 0 1 = cc in omega arith)

    into-done : (l : Letter) → letter_of rd src z ≡ found l → LetterInto (found l) (token_count rd src) a fs cs bs tx z.fonts z.colours z.blocks z.text
        → {tk : List ℕ} → tk ≡ filled z.tokens (encode token_layout (token_stream rd src)) → token_count rd src ≤ 65536 → Reads rd src z a tk fs cs bs tx
    unfolding read_answer token_room font_room colour_room block_room text_room
    into-done l v y q few = record {
      answer = rw v y.0;
      tokens = rw v q;
      fonts = rw v y.1;
      colours = rw v y.2;
      blocks = rw v y.3;
      text = rw v y.4;
      counted = λ c i.
          let w : Few (token_count rd src) l = rw v at (letter-counted rd src z) in
          let e : counts_of rd src l ≡ c = (let j : Ok (counts_of rd src l) ≡ Ok c = sym y.0 ∙ i in cc) in
          rw (← e) (record { tokens = few; fonts = w.fonts; colours = w.colours; blocks = (let b : length (blocks l.pieces) ≤ token_count rd src = w.blocks in omega arith); text = w.text });
    }

    pub read_done : {c : Counts} → a ≡ Ok c → token_count rd src ≤ 65536 → {tk : List ℕ} → tk ≡ cut_room rd src z.tokens → Reads rd src z a tk fs cs bs tx
    read_done {c} i few {tk} q = go (letter_of rd src z) refl g
      where
        go : (x : Found Letter) → letter_of rd src z ≡ x → LetterInto x (token_count rd src) a fs cs bs tx z.fonts z.colours z.blocks z.text → Reads rd src z a tk fs cs bs tx
        go (refused r) v y = absurd (let w : Ok c ≡ Err r = sym i ∙ y in let u : ◌≡◌ {A = ℕ} 0 1 = cc in omega arith)
        go (found l) v y = into-done l v y (q ∙ was-cut l v) few
