-- The functions of the parser, one law for each way through the code.
--     start_none, -other, -opening   the first token
--     body-full, body-laid         the body
--     letter-refused, letter-read  header and body
--     parse-refused, parse-read    the whole
-- Assumes nothing.
use mathlib.Core.Path.{◌≡◌, refl, sym, ap, ◌∙◌}
use mathlib.Core.List.{List, [], ◌∷◌, ◌++◌}
use mathlib.Core.Bool.{Bool, true, false, not, true≢false, false≢true}
use Prim.Native.Nat.{ℕ, ◌-◌, ◌*◌}
use native.Mathlib.Omega.{arith}
use borrow.Author.Tests.{not-true, not-false}
use lib.ListN.{length, take, replicate}
use Rattle.answers.specs.declared.Refusal.{Refusal}
use Rattle.answers.specs.declared.Why.TheVariants.{NoTokens, FirstToken}
use Rattle.answers.specs.Answers.{refusal, refusal_at, Found, found, refused}
use Rattle.rooms.specs.Streams.{Stream, items, answer}
use Rattle.rooms.proofs.Streams.{ok_err, ok-same}
use Rattle.tokens.specs.Tokens.{Shown, Token, token}
use Rattle.tokens.specs.declared.item.Item.{Item}
use Rattle.tokens.specs.declared.item.Item.TheVariants.{Text, Opening, Closing, LineBreak, Ignorable, Word, Unknown, Symbol}
use Rattle.tokens.specs.Items.{item_at, shown_of, slice_at, tokens_all}
use Rattle.tokens.proofs.Items.{tokens_none, tokens-some}
use Rattle.readings.specs.declared.Reading.{Reading}
use Rattle.blocks.specs.declared.Page.{Page}
use Rattle.rooms.specs.Rooms.{filled, table_limit}
use Rattle.blocks.specs.Pages.{Piece, blocks, block_words}
use Rattle.blocks.specs.Laying.{on, told, blank, lay_all}
use Rattle.blocks.proofs.Settling.{lay-refuses, lay-joins, Joined, Filled, joined-filled}
use Rattle.walk.specs.Walk.{walk}
use Rattle.body.specs.Body.{body}
use Rattle.fonts.specs.Rows.{table_words, font_words}
use Rattle.header.specs.declared.HeaderCounts.{HeaderCounts}
use Rattle.header.specs.Entering.{Tables, opens}
use Rattle.header.specs.Header.{counted, tables, ReadHeader}
use Rattle.parser.specs.Parsing.{Sizes, begun, letter_from, placed, bodied, headed, walked}
use Rattle.parser.specs.Parts.{Starts, BodyInto, LetterInto}
use Rattle.colours.specs.Colours.{colour_words}
use Rattle.std.specs.Prelude.{Result, Ok, Err}
use Rattle.parser.specs.declared.Counts.{Counts}

-- the first token
pub start_none : (src : List ℕ) (n : ℕ) (ws : List ℕ) {r : Refusal} → n ≡ 0 → r ≡ refusal NoTokens → Starts (begun (tokens_all src n ws)) (Err r)
start_none src n ws e f = rw (tokens_none src n ws (omega arith), f) refl

starts_other : (src : List ℕ) (p l : ℕ) (i : Item) (ts : List Token) → opens i ≡ false → Starts (begun (token p l (shown_of src i) ∷ ts)) (Err (refusal_at FirstToken p))
starts_other src p l Opening ts e = absurd (true≢false e)
starts_other src p l Closing ts e = refl
starts_other src p l LineBreak ts e = refl
starts_other src p l Ignorable ts e = refl
starts_other src p l (Text q n) ts e = refl
starts_other src p l (Word w num) ts e = refl
starts_other src p l (Unknown q n num) ts e = refl
starts_other src p l (Symbol b num) ts e = refl

starts-opening : (src : List ℕ) (p l : ℕ) (i : Item) (ts : List Token) → opens i ≡ true → Starts (begun (token p l (shown_of src i) ∷ ts)) (Ok tt)
starts-opening src p l Opening ts e = refl
starts-opening src p l Closing ts e = absurd (false≢true e)
starts-opening src p l LineBreak ts e = absurd (false≢true e)
starts-opening src p l Ignorable ts e = absurd (false≢true e)
starts-opening src p l (Text q n) ts e = absurd (false≢true e)
starts-opening src p l (Word w num) ts e = absurd (false≢true e)
starts-opening src p l (Unknown q n num) ts e = absurd (false≢true e)
starts-opening src p l (Symbol b num) ts e = absurd (false≢true e)

module _ (src : List ℕ) (n : ℕ) (ws : List ℕ) (z : n ≡ 0 → ⊥) {b : Bool} (e : b ≡ opens (item_at ws)) where
  pub start-other : not b ≡ true → {p : ℕ} {r : Refusal} → p ≡ slice_at ws → r ≡ refusal_at FirstToken p → Starts (begun (tokens_all src n ws)) (Err r)
  start-other f q h = rw (tokens-some src n ws (omega arith), h, q) (starts_other src (slice_at ws) _ (item_at ws) _ (sym e ∙ not-true b f))

  pub start-opening : not b ≡ false → Starts (begun (tokens_all src n ws)) (Ok tt)
  start-opening f = rw (tokens-some src n ws (omega arith)) (starts-opening src (slice_at ws) _ (item_at ws) _ (sym e ∙ not-false b f))

-- the body
module _ (rd : Reading) (ts : List Token) (b t : List ℕ) (n f c : ℕ) where
  abbrev stream : Stream Refusal Piece
  stream = placed rd (length b) (length t) ts

  module _ (l : Result Page Refusal) (b₁ t₁ : List ℕ) (h : told l b₁ t₁ ≡ lay_all (on blank b t) (body rd (walk ts))) where
    pub body-full : {k : Refusal} → l ≡ Err k → (b' t' : List ℕ) → BodyInto (answer 0 stream) (items stream) n f c (Err k) b' t' (length b) (length t)
    unfolding placed
    body-full {k} e b' t' =
        let a : answer 0 stream ≡ Err k = lay-refuses (body rd (walk ts)) b t (sym h ∙ ap (λ (m : Result Page Refusal). told m b₁ t₁) e) in
        rw a refl

    module _ {p : Page} (e : l ≡ Ok p) where
      joined : Joined stream b t p b₁ t₁
      unfolding placed
      joined = lay-joins (body rd (walk ts)) b t (sym h ∙ ap (λ (m : Result Page Refusal). told m b₁ t₁) e)

      pub body-laid : {b₂ t₂ : List ℕ} → b₂ ≡ take (p.blocks * block_words) b₁ ++ replicate (length b₁ - p.blocks * block_words) 0
          → t₂ ≡ take p.text t₁ ++ replicate (length t₁ - p.text) 0
          → BodyInto (answer 0 stream) (items stream) n f c (Ok (record { tokens = n; fonts = f; colours = c; blocks = p.blocks; text = p.text })) b₂ t₂ (length b) (length t)
      body-laid {b₂} {t₂} u v =
          let i : Filled stream b t p.blocks p.text b₂ t₂ = joined-filled joined u v in
          let n' : ℕ = length (blocks (items stream)) in
          rw joined.done (
            ap (λ (m : ℕ). Ok (record { tokens = n; fonts = f; colours = c; blocks = m; text = p.text })) i.counted
                ∙ ap (λ (m : ℕ). Ok (record { tokens = n; fonts = f; colours = c; blocks = n'; text = m })) i.text,
            i.words,
            i.bytes,
          )

-- header and body
headed-unheaded : {A : Type 0} {f c : ℕ} {k : Refusal} → counted f c ≡ Err k → A
headed-unheaded e = absurd (let w : ◌≡◌ {A = ℕ} 0 1 = cc in omega arith)

module _ (rd : Reading) (zf zc zb zt : ℕ) (ts : List Token) (n : ℕ) where
  pub letter-refused : (x : Found Tables) (r : Result HeaderCounts Refusal) (fs cs : List ℕ) → ReadHeader x zf zc r fs cs → {k : Refusal} → r ≡ Err k
      → (bs tx : List ℕ) → LetterInto (headed rd zb zt ts x) n (Err k) fs cs bs tx zf zc zb zt
  letter-refused (found s) r fs cs h e bs tx = headed-unheaded (sym h.0 ∙ e)
  letter-refused (refused q) r fs cs h {k} e bs tx = let w : ◌≡◌ {A = Result HeaderCounts Refusal} (Err k) (Err q) = sym e ∙ h in cc

  -- the body's answer is the letter's
  body-ends : (s : Tables) (o : Result ℕ Refusal) (st : Stream Refusal Piece) (a : Result Counts Refusal) (fs cs bs tx : List ℕ)
      → fs ≡ filled zf (table_words s.fonts) → cs ≡ filled zc s.colours
      → BodyInto o (items st) n (length s.fonts) (length s.colours) a bs tx zb zt → LetterInto (letter_from s st o) n a fs cs bs tx zf zc zb zt
  body-ends s (Ok k) st a fs cs bs tx p q h = (h.0, p, q, h.1, h.2)
  body-ends s (Err r) st a fs cs bs tx p q h = h

  pub letter-read : (x : Found Tables) (r : Result HeaderCounts Refusal) (fs cs : List ℕ) → ReadHeader x zf zc r fs cs → {f c : ℕ} → r ≡ counted f c
      → (a : Result Counts Refusal) (bs tx : List ℕ) → BodyInto (answer 0 (placed rd zb zt ts)) (items (placed rd zb zt ts)) n f c a bs tx zb zt
      → LetterInto (headed rd zb zt ts x) n a fs cs bs tx zf zc zb zt
  unfolding bodied
  letter-read (refused q) r fs cs h e a bs tx g = headed-unheaded (sym e ∙ h)
  letter-read (found s) r fs cs h {f} {c} e a bs tx g =
      let q : counted f c ≡ counted (length s.fonts) (length s.colours) = sym e ∙ h.0 in
      let k : f ≡ length s.fonts = ap (λ (y : HeaderCounts). y.fonts) (ok-same _ _ q) in
      let m : c ≡ length s.colours = ap (λ (y : HeaderCounts). y.colours) (ok-same _ _ q) in
      let st : Stream Refusal Piece = placed rd zb zt ts in
      let w : BodyInto (answer 0 st) (items st) n (length s.fonts) (length s.colours) a bs tx zb zt = rw (k, m) at g in
      body-ends s (answer 0 st) st a fs cs bs tx h.1 h.2 w

-- the whole: the first token refuses, or the letter's answer stands
begun-found : (ts : List Token) {s : Result Unit Refusal} {m : Unit} → Starts (begun ts) s → s ≡ Ok m → begun ts ≡ found ts
begun-found [] h f = absurd (ok_err (sym f ∙ h))
begun-found (token p n Shown.opening ∷ ts) h f = refl
begun-found (token p n Shown.closing ∷ ts) h f = absurd (ok_err (sym f ∙ h))
begun-found (token p n Shown.line_break ∷ ts) h f = absurd (ok_err (sym f ∙ h))
begun-found (token p n Shown.ignorable ∷ ts) h f = absurd (ok_err (sym f ∙ h))
begun-found (token p n (Shown.text q bs) ∷ ts) h f = absurd (ok_err (sym f ∙ h))
begun-found (token p n (Shown.word w num) ∷ ts) h f = absurd (ok_err (sym f ∙ h))
begun-found (token p n (Shown.unknown q bs num) ∷ ts) h f = absurd (ok_err (sym f ∙ h))
begun-found (token p n (Shown.symbol b num) ∷ ts) h f = absurd (ok_err (sym f ∙ h))

module _ (rd : Reading) (z : Sizes) (ts : List Token) (n : ℕ) {s : Result Unit Refusal} (h : Starts (begun ts) s) where
  pub parse-refused : {k : Refusal} → s ≡ Err k → (fs cs bs tx : List ℕ) → LetterInto (walked rd z (begun ts)) n (Err k) fs cs bs tx z.fonts z.colours z.blocks z.text
  parse-refused {k} e fs cs bs tx = go (begun ts) h
    where
      go : (x : Found (List Token)) → Starts x s → LetterInto (walked rd z x) n (Err k) fs cs bs tx z.fonts z.colours z.blocks z.text
      go (found us) q = absurd (ok_err (sym q ∙ e))
      go (refused r) q = let w : ◌≡◌ {A = Result Unit Refusal} (Err r) (Err k) = sym q ∙ e in cc

  pub parse-read : {m : Unit} → s ≡ Ok m → (a : Result Counts Refusal) (fs cs bs tx : List ℕ)
      → LetterInto (headed rd z.blocks z.text ts (tables (table_limit font_words z.fonts) (table_limit colour_words z.colours) (walk ts))) n a fs cs bs tx z.fonts z.colours z.blocks z.text
      → LetterInto (walked rd z (begun ts)) n a fs cs bs tx z.fonts z.colours z.blocks z.text
  parse-read e a fs cs bs tx g = rw (begun-found ts h e) g
