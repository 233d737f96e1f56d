-- 01, Sample letters, and 02, A4: letters, and what the reader gives for each. proofs/Letters computes them through the whole of the
-- definitions. Assumes nothing: these are expectations.
use Rattle.std.specs.Prelude.{List, [], ◌∷◌, ℕ}
use Prim.Native.String.{String}
use Rattle.classes.specs.Texts.{bytes_of}
use Rattle.parser.specs.declared.Counts.{Counts}

-- a letter; its answer, and the place that a refusal carries; its text; its fonts' words; how many blocks it has
pub record Sample : Type 0 where
  pub letter : String
  pub number : ℕ
  pub place : ℕ
  pub text : List ℕ
  pub fonts : List ℕ
  pub blocks : ℕ

-- "`{}` no blocks; empty 8; `{\u8212 \'97}` E2 80 94; `{\'e9\'e8}` C3 A9; `{\u-3913 }` EF 82 B7; `{\u-10179 \u-8704 }` F0 9F 98 80;
-- `{\u-10179 }` EF BF BD; `{\u8217?}` no text; `{a}}` text a; `{a}}}` 14; `{a\~b}` text a; `{a{\*x}b}` text ab; `{\\{a}}` text `\{a`;
-- `{\fonttbl{\f1 Arial;}}` fonts 0 0 0 and 1 14 5."
unfoldable pub samples : List Sample
samples =
    record { letter = "{}"; number = 0; place = 0; text = []; fonts = []; blocks = 0 }
    ∷ record { letter = ""; number = 8; place = 0; text = []; fonts = []; blocks = 0 }
    ∷ record { letter = "{\\u8212 \\'97}"; number = 0; place = 0; text = 226 ∷ 128 ∷ 148 ∷ []; fonts = []; blocks = 1 }
    ∷ record { letter = "{\\'e9\\'e8}"; number = 0; place = 0; text = 195 ∷ 169 ∷ []; fonts = []; blocks = 1 }
    ∷ record { letter = "{\\u-3913 }"; number = 0; place = 0; text = 239 ∷ 130 ∷ 183 ∷ []; fonts = []; blocks = 1 }
    ∷ record { letter = "{\\u-10179 \\u-8704 }"; number = 0; place = 0; text = 240 ∷ 159 ∷ 152 ∷ 128 ∷ []; fonts = []; blocks = 1 }
    ∷ record { letter = "{\\u-10179 }"; number = 0; place = 0; text = 239 ∷ 191 ∷ 189 ∷ []; fonts = []; blocks = 1 }
    ∷ record { letter = "{\\u8217?}"; number = 0; place = 0; text = []; fonts = []; blocks = 0 }
    ∷ record { letter = "{a}}"; number = 0; place = 0; text = bytes_of "a"; fonts = []; blocks = 1 }
    ∷ record { letter = "{a}}}"; number = 14; place = 4; text = []; fonts = []; blocks = 0 }
    ∷ record { letter = "{a\\~b}"; number = 0; place = 0; text = bytes_of "a"; fonts = []; blocks = 1 }
    ∷ record { letter = "{a{\\*x}b}"; number = 0; place = 0; text = bytes_of "ab"; fonts = []; blocks = 1 }
    ∷ record { letter = "{\\\\{a}}"; number = 0; place = 0; text = bytes_of "\\{a"; fonts = []; blocks = 1 }
    ∷ record { letter = "{\\fonttbl{\\f1 Arial;}}"; number = 0; place = 0; text = []; fonts = 0 ∷ 0 ∷ 0 ∷ 1 ∷ 14 ∷ 5 ∷ []; blocks = 0 }
    ∷ []

-- 01, Easy errors to rule out: a letter for each that a sample does not tell. "Skipping the "?" in `{\u8212 ?}`; the crate keeps it."
-- "Restarting the unit run after a number that gives no unit": in `{\u8212\u70000 \'97}` the run goes on, and 0x97 is skipped, as
-- in the third sample. The other two are told by `{\\{a}}` and `{a}}`.
unfoldable pub telling : List Sample
telling =
    record { letter = "{\\u8212 ?}"; number = 0; place = 0; text = 226 ∷ 128 ∷ 148 ∷ 63 ∷ []; fonts = []; blocks = 1 }
    ∷ record { letter = "{\\u8212\\u70000 \\'97}"; number = 0; place = 0; text = 226 ∷ 128 ∷ 148 ∷ []; fonts = []; blocks = 1 }
    ∷ []

-- 01, Answer numbers, the order: "cutting left to right, all slices but the last, gives the first of 3 to 5; then 6, 7, 8, 9": in rooms
-- that hold nothing
unfoldable pub crowded : List Sample
crowded =
    record { letter = "{\\b2147483648}"; number = 5; place = 1; text = []; fonts = []; blocks = 0 }
    ∷ record { letter = "{a"; number = 6; place = 0; text = []; fonts = []; blocks = 0 }
    ∷ record { letter = "a}"; number = 7; place = 0; text = []; fonts = []; blocks = 0 }
    ∷ record { letter = ""; number = 8; place = 0; text = []; fonts = []; blocks = 0 }
    ∷ []

-- and behind cutting: in rooms for tokens alone. A number that does not fit is 12 before there is no room for its colour, 18; a font is
-- stored, 17, before `\f` lacks a number, 11; 19 comes before 20, and the header before the body
unfoldable pub cramped : List Sample
cramped =
    record { letter = "a}"; number = 9; place = 0; text = []; fonts = []; blocks = 0 }
    ∷ record { letter = "{{\\colortbl\\blue256}}"; number = 12; place = 11; text = []; fonts = []; blocks = 0 }
    ∷ record { letter = "{{\\colortbl\\blue255}}"; number = 18; place = 0; text = []; fonts = []; blocks = 0 }
    ∷ record { letter = "{{\\fonttbl\\f}}"; number = 17; place = 0; text = []; fonts = []; blocks = 0 }
    ∷ record { letter = "{a{\\colortbl\\blue255}}"; number = 18; place = 0; text = []; fonts = []; blocks = 0 }
    ∷ record { letter = "{a}"; number = 19; place = 0; text = []; fonts = []; blocks = 0 }
    ∷ []

-- a letter that is refused, by which number and at which place
unfoldable pub refusing : String → ℕ → ℕ → Sample
refusing letter number place = record { letter = letter; number = number; place = place; text = []; fonts = []; blocks = 0 }

-- 02, A4: "Each refusal from 3 to 6 and 9 to 16 now carries the source byte place of the slice that caused it or that its token was cut
-- from (for 10, the table word)". Places count from 0, before trimming
unfoldable pub placing : List Sample
placing =
    -- the slice that cannot be cut
    refusing " {}\\'}" 3 3
    ∷ refusing " {}\\'zz}" 4 3
    ∷ refusing " {a\\b2147483648}" 5 3
    -- the last slice, `}b`
    ∷ refusing "\n{a}b \n" 6 3
    -- the first token: the text `{a` stands at 3, its slice at 2
    ∷ refusing "  \\{a}" 9 2
    ∷ refusing "\n}a{}" 9 1
    -- the table's word, behind its bracket and one or two line breaks
    ∷ refusing "{{\\\n\\fonttbl}}" 10 4
    ∷ refusing " {a{\\\n\\\n\\colortbl}}" 10 8
    -- `\f`, and not the table or its font's bracket
    ∷ refusing "{{\\fonttbl\\f}}" 11 10
    ∷ refusing "{a{\\fonttbl{\\f1 Arial;}{\\f Swiss;}}}" 11 24
    -- the word whose number does not fit, in the body and in a table
    ∷ refusing "{a\\fs-1}" 12 2
    ∷ refusing "{{\\colortbl\\red0\\green256}}" 12 16
    -- `\*`
    ∷ refusing "{a\\*}" 13 2
    -- a bracket; a text behind a bracket, of one slice with it; a word; a line break; the first of a run of `u`
    ∷ refusing " {}}}" 14 4
    ∷ refusing "{}}a}" 14 2
    ∷ refusing " {}}\\b}" 14 4
    ∷ refusing "{}}\\\n}" 14 3
    ∷ refusing "{}}\\u8212\\u8212 }" 14 3
    -- `\sl`
    ∷ refusing "{a\\sl-2147483648}" 15 2
    -- the 64th bracket
    ∷ refusing " {{{{{{{{{{{{{{{{{{{{{{{{{{{{{{{{{{{{{{{{{{{{{{{{{{{{{{{{{{{{{{{{}" 16 64
    ∷ []

-- "the other numbers carry 0", wherever the slice stands that they are met at: in rooms that hold nothing, in rooms for tokens alone, and in
-- rooms for all but text
unfoldable pub placeless : List Sample
placeless = refusing " {é}" 2 0 ∷ refusing " {a}" 7 0 ∷ refusing " \n" 8 0 ∷ []

unfoldable pub unread : List Sample
unread = refusing " {{\\fonttbl\\f1}}" 17 0 ∷ refusing " {{\\colortbl\\blue1}}" 18 0 ∷ refusing " {a}" 19 0 ∷ []

unfoldable pub unwritten : List Sample
unwritten = refusing " {a}" 20 0 ∷ []

-- "For `{\rtf1 a\b b}`": "0 6 0 0 2 2", the answer and five counts; two blocks, of sixteen words each (02, A5); the text "ab"
unfoldable pub listed : String
listed = "{\\rtf1 a\\b b}"

unfoldable pub listed_counts : Counts
listed_counts = record { tokens = 6; fonts = 0; colours = 0; blocks = 2; text = 2 }

unfoldable pub listed_blocks : List ℕ
listed_blocks = 0 ∷ 0 ∷ 12 ∷ 0 ∷ 0 ∷ 0 ∷ 0 ∷ 0 ∷ 0 ∷ 0 ∷ 0 ∷ 0 ∷ 0 ∷ 0 ∷ 0 ∷ 1 ∷ 0 ∷ 0 ∷ 12 ∷ 1 ∷ 0 ∷ 0 ∷ 0 ∷ 0 ∷ 0 ∷ 0 ∷ 0 ∷ 0 ∷ 0 ∷ 0 ∷ 1 ∷ 1 ∷ []

unfoldable pub listed_text : List ℕ
listed_text = bytes_of "ab"

-- 02, A5: "`li`, `ri` and `fi` set them (no number is 0) in paragraph .. reading and `pard` clears them; in plain reading they stay 0". By paragraphs
-- three blocks, since "Indents belong to the style": left 1, right 0, first line -1; inside the group right 2 too; none. In plain reading one
unfoldable pub indents : String
indents = "{\\li1\\ri\\fi-1 a{\\ri2 b}\\pard c}"

unfoldable pub indented_blocks : List ℕ
indented_blocks =
    0 ∷ 0 ∷ 12 ∷ 0 ∷ 0 ∷ 0 ∷ 0 ∷ 0 ∷ 0 ∷ 0 ∷ 0 ∷ 1 ∷ 0 ∷ 4294967295 ∷ 0 ∷ 1
    ∷ 0 ∷ 0 ∷ 12 ∷ 0 ∷ 0 ∷ 0 ∷ 0 ∷ 0 ∷ 0 ∷ 0 ∷ 0 ∷ 1 ∷ 2 ∷ 4294967295 ∷ 1 ∷ 1
    ∷ 0 ∷ 0 ∷ 12 ∷ 0 ∷ 0 ∷ 0 ∷ 0 ∷ 0 ∷ 0 ∷ 0 ∷ 0 ∷ 0 ∷ 0 ∷ 0 ∷ 2 ∷ 1 ∷ []

unfoldable pub flush_blocks : List ℕ
flush_blocks = 0 ∷ 0 ∷ 12 ∷ 0 ∷ 0 ∷ 0 ∷ 0 ∷ 0 ∷ 0 ∷ 0 ∷ 0 ∷ 0 ∷ 0 ∷ 0 ∷ 0 ∷ 3 ∷ []
