-- What the functions inside the reader promise. Assumes nothing: these are definitions.
use Rattle.std.specs.Prelude.{ℕ, ◌≡◌, List, length}
use Rattle.answers.specs.Answers.{Found, found, refused}
use Rattle.rooms.specs.Rooms.{filled}
use Rattle.tokens.specs.Tokens.{Token}
use Rattle.fonts.specs.Rows.{table_words}
use Rattle.blocks.specs.Pages.{Piece, blocks, text_of, records}
use Rattle.parser.specs.Parsing.{Letter}
use Rattle.std.specs.Prelude.{Result, Ok, Err}
use Rattle.parser.specs.declared.Counts.{Counts}
use Rattle.answers.specs.declared.Refusal.{Refusal}

-- the look at the first token: nothing, or a refusal
abbrev pub Starts : Found (List Token) → Result Unit Refusal → Type 0
Starts (found ts) r = r ≡ Ok tt
Starts (refused q) r = r ≡ Err q

-- the body, where n tokens, f fonts and c colours were counted: blocks and text in their rooms, or a refusal
abbrev pub BodyInto : Result ℕ Refusal → List Piece → ℕ → ℕ → ℕ → Result Counts Refusal → List ℕ → List ℕ → ℕ → ℕ → Type 0
BodyInto (Ok k) ps n f c r bs tx zb zt =
    (r ≡ Ok (record { tokens = n; fonts = f; colours = c; blocks = length (blocks ps); text = length (text_of ps) }))
    × (bs ≡ filled zb (records 0 (blocks ps)))
    × (tx ≡ filled zt (text_of ps))
BodyInto (Err q) ps n f c r bs tx zb zt = r ≡ Err q

-- a letter of n tokens in four rooms of such sizes, or a refusal
abbrev pub LetterInto : Found Letter → ℕ → Result Counts Refusal → List ℕ → List ℕ → List ℕ → List ℕ → ℕ → ℕ → ℕ → ℕ → Type 0
LetterInto (found l) n r fs cs bs tx zf zc zb zt =
    (r ≡ Ok (record {
      tokens = n;
      fonts = length l.tables.fonts;
      colours = length l.tables.colours;
      blocks = length (blocks l.pieces);
      text = length (text_of l.pieces);
    }))
    × (fs ≡ filled zf (table_words l.tables.fonts))
    × (cs ≡ filled zc l.tables.colours)
    × (bs ≡ filled zb (records 0 (blocks l.pieces)))
    × (tx ≡ filled zt (text_of l.pieces))
LetterInto (refused q) n r fs cs bs tx zf zc zb zt = r ≡ Err q
