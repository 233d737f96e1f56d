-- 01, Header walk, and 02, A4: telling token lists, and the fonts that each gives. A list stands as RTF would write it, each token with the
-- place and the length of its slice. proofs/Fonts computes them. Assumes nothing: these are expectations.
use Rattle.std.specs.Prelude.{List, [], ◌∷◌, ℕ}
use Rattle.answers.specs.declared.Why.TheVariants.{FontNumber, FontRoom}
use Rattle.answers.specs.Answers.{Found, found, refused}
use Rattle.classes.specs.Texts.{bytes_of}
use Rattle.tokens.specs.Tokens.{Shown, Token, token}
use Rattle.fonts.specs.Rows.{Font}
use Rattle.tokens.specs.WordNumbers as words
use Rattle.std.specs.Prelude.{Some, None}

-- how many fonts find room; the tokens; what they give
pub record Told : Type 0 where
  pub limit : ℕ
  pub tokens : List Token
  pub gives : Found (List Font)

-- `\f` and a number, and `\f` alone
unfoldable pub f : ℕ → Shown
f v = Shown.word words.font_number (Some v)

unfoldable pub bare : Shown
bare = Shown.word words.font_number None

unfoldable pub font : ℕ → ℕ → List ℕ → Font
font k p name = record { key = k; place = p; name = name }

unfoldable pub told : List Told
told =
    -- `{\fonttbl{\f1 Arial;}}`: at `\f1` the first font, which has key 0 and no name, is stored; the brackets store font 1
    record {
      limit = 256;
      tokens =
          token 1 8 (Shown.word words.font_table None) ∷ token 9 1 Shown.opening ∷ token 10 10 (f 1)
          ∷ token 10 10 (Shown.text 14 (bytes_of "Arial;")) ∷ token 20 1 Shown.closing ∷ token 21 1 Shown.closing ∷ [];
      gives = found (font 0 0 [] ∷ font 1 14 (bytes_of "Arial") ∷ []);
    }
    -- `\f5 A;\f7}`: `A` is stored under 5, the key before `\f7`, and, as nothing is reset, under 7 at the bracket
    ∷ record {
      limit = 256;
      tokens = token 0 6 (f 5) ∷ token 0 6 (Shown.text 4 (bytes_of "A;")) ∷ token 6 3 (f 7) ∷ token 9 1 Shown.closing ∷ [];
      gives = found (font 0 0 [] ∷ font 5 4 (bytes_of "A") ∷ font 7 4 (bytes_of "A") ∷ []);
    }
    -- `A\f9}\f4}`, from place 1: ascending by key, in whatever order they come
    ∷ record {
      limit = 256;
      tokens =
          token 1 1 (Shown.text 1 (bytes_of "A")) ∷ token 2 3 (f 9) ∷ token 5 1 Shown.closing ∷ token 6 3 (f 4) ∷ token 9 1 Shown.closing ∷ [];
      gives = found (font 0 1 (bytes_of "A") ∷ font 4 1 (bytes_of "A") ∷ font 9 1 (bytes_of "A") ∷ []);
    }
    -- `;A;B;;}`: all ending semicolons are dropped, others stay
    ∷ record {
      limit = 256;
      tokens = token 3 6 (Shown.text 3 (bytes_of ";A;B;;")) ∷ token 9 1 Shown.closing ∷ [];
      gives = found (font 0 3 (bytes_of ";A;B") ∷ []);
    }
    -- an empty name has place 0
    ∷ record {
      limit = 256;
      tokens = token 3 1 (Shown.text 3 (bytes_of "A")) ∷ token 4 3 (Shown.text 5 (bytes_of ";;")) ∷ token 7 1 Shown.closing ∷ [];
      gives = found (font 0 0 [] ∷ []);
    }
    -- `\f-1}`: key 65,535
    ∷ record { limit = 256; tokens = token 0 4 (f 4294967295) ∷ token 4 1 Shown.closing ∷ []; gives = found (font 0 0 [] ∷ font 65535 0 [] ∷ []) }
    -- `A\f65536 B}`, from place 1: key 0 again, whose font is replaced
    ∷ record {
      limit = 256;
      tokens =
          token 1 1 (Shown.text 1 (bytes_of "A")) ∷ token 2 9 (f 65536) ∷ token 2 9 (Shown.text 10 (bytes_of "B")) ∷ token 11 1 Shown.closing ∷ [];
      gives = found (font 0 10 (bytes_of "B") ∷ []);
    }
    -- `\f`: 11, at its slice
    ∷ record { limit = 256; tokens = token 12 2 bare ∷ []; gives = refused (record { why = FontNumber; place = 12 }) }
    -- `\f\f}`: the first of two, and its place stays
    ∷ record {
      limit = 256;
      tokens = token 12 2 bare ∷ token 14 2 bare ∷ token 16 1 Shown.closing ∷ [];
      gives = refused (record { why = FontNumber; place = 12 });
    }
    -- no room: 17, before 11, and of no place
    ∷ record { limit = 0; tokens = token 12 2 bare ∷ []; gives = refused (record { why = FontRoom; place = 0 }) }
    -- a room of one font: a new key is 17, and the first refusal stays
    ∷ record {
      limit = 1;
      tokens = token 1 1 Shown.closing ∷ token 2 3 (f 1) ∷ token 5 1 Shown.closing ∷ token 6 2 bare ∷ [];
      gives = refused (record { why = FontRoom; place = 0 });
    }
    -- the same key finds room
    ∷ record {
      limit = 1;
      tokens = token 1 2 Shown.closing ∷ token 1 2 (Shown.text 2 (bytes_of "A")) ∷ token 3 1 Shown.closing ∷ token 4 3 (f 3) ∷ [];
      gives = found (font 0 2 (bytes_of "A") ∷ []);
    }
    ∷ []

-- the first's records: "fonts 0 0 0 and 1 14 5"
unfoldable pub arial_words : List ℕ
arial_words = 0 ∷ 0 ∷ 0 ∷ 1 ∷ 14 ∷ 5 ∷ []
