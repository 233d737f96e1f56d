-- 02, A1: letters, and what standard reading gives for each, rule by rule; over each the rule that it shows. proofs/Standard computes them through
-- the whole of the definitions. Assumes nothing: these are expectations.
use Rattle.std.specs.Prelude.{List, [], ◌∷◌, ℕ}
use Prim.Native.String.{String}
use Rattle.classes.specs.Texts.{bytes_of}
use Rattle.samples.specs.Letters.{Sample, refusing}

-- a letter that gives one style, and its text
unfoldable pub giving : String → List ℕ → Sample
giving letter text = record { letter = letter; number = 0; place = 0; text = text; fonts = []; blocks = 1 }

-- "A word is letters, an optional signed number, and one space that vanishes; any other byte stays as text."
unfoldable pub words : List Sample
words =
    -- of two spaces one vanishes; `a` and `b` have one style, since `tab` is no setting
    giving "{a\\tab\\tab  b}" (97 ∷ 9 ∷ 9 ∷ 32 ∷ 98 ∷ [])
    -- a minus sign without a digit, a plus sign and a semicolon are no part of a word
    ∷ giving "{\\b-a}" (bytes_of "-a")
    ∷ giving "{\\b+1;}" (bytes_of "+1;")
    -- a text is kept though it is all white space
    ∷ giving "{ }" (32 ∷ [])
    -- "`\par` adds U+000A"
    ∷ giving "{a\\par b}" (97 ∷ 10 ∷ 98 ∷ [])
    -- "Raw carriage returns and line feeds vanish"
    ∷ giving "{a\r\nb\n}" (bytes_of "ab")
    -- A2: "a backslash and carriage return become a line break token, a line feed directly after belongs to it, and the tail is kept"
    ∷ giving "{a\\\r\n b\\\n}" (97 ∷ 10 ∷ 32 ∷ 98 ∷ 10 ∷ [])
    ∷ []

-- Symbols and hex escapes
unfoldable pub symbols : List Sample
symbols =
    -- "`\~`, `\_` and `\-` give U+00A0, U+2011 and U+00AD"; no space vanishes behind a symbol
    giving "{a\\~b}" (97 ∷ 194 ∷ 160 ∷ 98 ∷ [])
    ∷ giving "{\\_}" (226 ∷ 128 ∷ 145 ∷ [])
    ∷ giving "{\\-}" (194 ∷ 173 ∷ [])
    ∷ giving "{\\- a}" (194 ∷ 173 ∷ 32 ∷ 97 ∷ [])
    -- another symbol gives nothing, and its tail stays
    ∷ giving "{a\\:b}" (bytes_of "ab")
    -- a backslash that is escaped does not escape the brace behind it: `a` stands in a group
    ∷ giving "{\\\\{a}}" (bytes_of "\\a")
    -- "Hex escapes go through the published Windows-1252 table": 80 is the euro sign U+20AC, E9 is U+00E9; "its unassigned bytes give U+FFFD", as 81
    ∷ giving "{\\'80}" (226 ∷ 130 ∷ 172 ∷ [])
    ∷ giving "{\\'e9 a}" (195 ∷ 169 ∷ 32 ∷ 97 ∷ [])
    ∷ giving "{\\'81}" (239 ∷ 191 ∷ 189 ∷ [])
    ∷ []

-- "After `\u` the next skip-count characters are passed over, where a text byte, a hex escape, a word or a symbol each count one and a brace ends the
-- skipping."
unfoldable pub skipping : List Sample
skipping =
    -- the apostrophe of 02, U+2019, and U+2014: the space is the word's, the question mark is passed over
    giving "{\\u8217?}" (226 ∷ 128 ∷ 153 ∷ [])
    ∷ giving "{\\u8212 ?}" (226 ∷ 128 ∷ 148 ∷ [])
    -- a count of two passes over both; a count of 0, and one below it, over nothing
    ∷ giving "{\\uc2\\u8217??a}" (226 ∷ 128 ∷ 153 ∷ 97 ∷ [])
    ∷ giving "{\\uc0\\u8217?}" (226 ∷ 128 ∷ 153 ∷ 63 ∷ [])
    ∷ giving "{\\uc-1\\u8217?}" (226 ∷ 128 ∷ 153 ∷ 63 ∷ [])
    -- a hex escape, and a symbol
    ∷ giving "{\\u8217\\'92a}" (226 ∷ 128 ∷ 153 ∷ 97 ∷ [])
    ∷ giving "{\\u8217\\~a}" (226 ∷ 128 ∷ 153 ∷ 97 ∷ [])
    -- a word that is passed over does nothing: `a` is not bold, and there is one block; it is not refused either
    ∷ giving "{\\u8217\\b a}" (226 ∷ 128 ∷ 153 ∷ 97 ∷ [])
    ∷ giving "{\\u8217\\fs-1 a}" (226 ∷ 128 ∷ 153 ∷ 97 ∷ [])
    ∷ giving "{\\u8217\\*a}" (226 ∷ 128 ∷ 153 ∷ 97 ∷ [])
    -- a text, and a word behind it; what is left of the count
    ∷ giving "{\\uc3\\u8217ab\\b cd}" (226 ∷ 128 ∷ 153 ∷ 99 ∷ 100 ∷ [])
    -- a brace, of either kind
    ∷ giving "{\\u8217{a}}" (226 ∷ 128 ∷ 153 ∷ 97 ∷ [])
    ∷ giving "{{\\u8217}a}" (226 ∷ 128 ∷ 153 ∷ 97 ∷ [])
    -- raw line feeds "count for nothing"
    ∷ giving "{\\u8217\n?a}" (226 ∷ 128 ∷ 153 ∷ 97 ∷ [])
    -- units of at most 255 are kept as others are
    ∷ giving "{\\u233?\\u232?}" (195 ∷ 169 ∷ 195 ∷ 168 ∷ [])
    -- "two units with only skipped characters between them may pair": U+1F600; one that stays alone is U+FFFD
    ∷ giving "{\\u-10179?\\u-8704?}" (240 ∷ 159 ∷ 152 ∷ 128 ∷ [])
    ∷ giving "{\\u-10179?}" (239 ∷ 191 ∷ 189 ∷ [])
    -- what is read parts them, also a `\u` without a unit
    ∷ giving "{\\u-10179?\\u70000?\\u-8704?}" (239 ∷ 191 ∷ 189 ∷ 239 ∷ 191 ∷ 189 ∷ [])
    -- and a word; the second stands in bold, and is a block of its own
    ∷ record { letter = "{\\u-10179?\\b\\u-8704?}"; number = 0; place = 0; text = 239 ∷ 191 ∷ 189 ∷ 239 ∷ 191 ∷ 189 ∷ []; fonts = []; blocks = 2 }
    ∷ []

-- "Refusals: those of 01, 6 where the last token is no closing bracket."
unfoldable pub refusals : List Sample
refusals =
    -- a hex escape of one digit: the brace is of the next slice; 4 and 5 as in the other readings
    refusing "\\'8}" 3 0
    ∷ refusing "{\\'zz}" 4 1
    ∷ refusing "{\\b2147483648}" 5 1
    -- the last token is text, of the slice of its bracket; or a word
    ∷ refusing "{a}b" 6 2
    ∷ refusing "{a}\\b" 6 3
    -- all of the source is cut first: 3 before 6, though the last slice is the one that 3 is met in
    ∷ refusing "{a\\'8" 3 2
    -- a symbol without meaning is a token, and no opening bracket
    ∷ refusing "\\ {}" 9 0
    -- `\*` in the body
    ∷ refusing "{\\b\\*a}" 13 3
    -- a symbol where no state is held
    ∷ refusing "{}}\\~}" 14 3
    ∷ []

-- a letter, and the words of its blocks
pub record Styled : Type 0 where
  pub letter : String
  pub words : List ℕ

unfoldable pub styled : List Styled
styled =
    -- "Any non-zero number turns a flag on.": bold is 1 of the flags
    record { letter = "{\\b2 a}"; words = 0 ∷ 0 ∷ 12 ∷ 1 ∷ 0 ∷ 0 ∷ 0 ∷ 0 ∷ 0 ∷ 0 ∷ 0 ∷ 0 ∷ 0 ∷ 0 ∷ 0 ∷ 1 ∷ [] }
    ∷ record { letter = "{\\b-1 a}"; words = 0 ∷ 0 ∷ 12 ∷ 1 ∷ 0 ∷ 0 ∷ 0 ∷ 0 ∷ 0 ∷ 0 ∷ 0 ∷ 0 ∷ 0 ∷ 0 ∷ 0 ∷ 1 ∷ [] }
    ∷ record { letter = "{\\b0 a}"; words = 0 ∷ 0 ∷ 12 ∷ 0 ∷ 0 ∷ 0 ∷ 0 ∷ 0 ∷ 0 ∷ 0 ∷ 0 ∷ 0 ∷ 0 ∷ 0 ∷ 0 ∷ 1 ∷ [] }
    ∷ record { letter = "{\\b\\b0 a}"; words = 0 ∷ 0 ∷ 12 ∷ 0 ∷ 0 ∷ 0 ∷ 0 ∷ 0 ∷ 0 ∷ 0 ∷ 0 ∷ 0 ∷ 0 ∷ 0 ∷ 0 ∷ 1 ∷ [] }
    -- 02, A5: "`li`, `ri` and `fi` set them .. in paragraph and standard reading"
    ∷ record { letter = "{\\li720 a}"; words = 0 ∷ 0 ∷ 12 ∷ 0 ∷ 0 ∷ 0 ∷ 0 ∷ 0 ∷ 0 ∷ 0 ∷ 0 ∷ 720 ∷ 0 ∷ 0 ∷ 0 ∷ 1 ∷ [] }
    ∷ []
