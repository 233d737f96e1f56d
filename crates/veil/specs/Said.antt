-- 01, Header walk and Body: what a reading says, without the places that it says it by: which refusal; or the font keys with the
-- names' bytes, the colours, the blocks and the text. Assumes nothing: these are definitions.
use Rattle.std.specs.Prelude.{ℕ, zero, suc, ◌≡◌, List, [], ◌∷◌, length, get_or, drop}
use Rattle.answers.specs.declared.Why.{Why}
use Rattle.answers.specs.Answers.{Found, found, refused}
use Rattle.tokens.specs.Items.{part}
use Rattle.fonts.specs.Rows.{Font, font_words}
use Rattle.readings.specs.declared.Reading.{Reading}
use Rattle.blocks.specs.Pages.{Piece, blocks, text_of}
use Rattle.parser.specs.Parsing.{Sizes, Letter}
use Rattle.reader.specs.Reading.{letter_of}

-- "Record: key, name place, name length": a font by its key and its name's bytes
pub record Named : Type 0 where
  pub key : ℕ
  pub name : List ℕ

-- the name is what stands in the source at the record's place
abbrev pub name_in : List ℕ → Font → Named
name_in src f = record { key = f.key; name = part src f.place (length f.name) }

unfoldable pub names_in : List ℕ → List Font → List Named
names_in src [] = []
names_in src (f ∷ fs) = name_in src f ∷ names_in src fs

-- a block is text in a style; the text is that of all blocks
pub record Content : Type 0 where
  pub fonts : List Named
  pub colours : List ℕ
  pub blocks : List Piece
  pub text : List ℕ

pub data Said : Type 0 where
  refuses : Why → Said
  says : Content → Said

abbrev pub said_by : List ℕ → Found Letter → Said
said_by src (found l) =
    says (record {
      fonts = names_in src l.tables.fonts;
      colours = l.tables.colours;
      blocks = blocks l.pieces;
      text = text_of l.pieces;
    })
said_by src (refused r) = refuses r.why

-- what a source says, read into rooms of such sizes
unfoldable pub said : Reading → List ℕ → Sizes → Said
said rd src z = said_by src (letter_of rd src z)

-- sizes that agree but for the token room: what is hidden has tokens too
pub record SameRooms (z y : Sizes) : Type 0 where
  pub fonts : z.fonts ≡ y.fonts
  pub colours : z.colours ≡ y.colours
  pub blocks : z.blocks ≡ y.blocks
  pub text : z.text ≡ y.text

-- the same of a font room: the fonts that its first n records tell, names read from the source
abbrev pub font_at : List ℕ → List ℕ → Named
font_at src ws = record { key = get_or ws 0 0; name = part src (get_or ws 1 0) (get_or ws 2 0) }

unfoldable pub fonts_at : List ℕ → ℕ → List ℕ → List Named
fonts_at src zero ws = []
fonts_at src (suc n) ws = font_at src ws ∷ fonts_at src n (drop font_words ws)

-- and a font room without the places: key and name length of each record
unfoldable pub unplaced : List ℕ → List ℕ
unplaced [] = []
unplaced (k ∷ []) = k ∷ []
unplaced (k ∷ p ∷ []) = k ∷ p ∷ []
unplaced (k ∷ p ∷ n ∷ ws) = k ∷ n ∷ unplaced ws
