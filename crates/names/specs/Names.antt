-- The names of control words (01, Cutting). Assumes nothing: these are definitions.
use Rattle.std.specs.Prelude.{ℕ, zero, suc, ◌+◌, Bool, true, false, cond, eqb, length, get_or}
use mathlib.Core.List.{List, [], ◌∷◌, ◌++◌, map, flatten}
use Rattle.classes.specs.Texts.{bytes_of}

-- "The 49 names, in this order, are one table"
abbrev pub names : List (List ℕ)
names =
    bytes_of "rtf"
    ∷ bytes_of "ansi"
    ∷ bytes_of "u"
    ∷ bytes_of "uc"
    ∷ bytes_of "fonttbl"
    ∷ bytes_of "colortbl"
    ∷ bytes_of "filetbl"
    ∷ bytes_of "stylesheet"
    ∷ bytes_of "fcharset"
    ∷ bytes_of "f"
    ∷ bytes_of "fs"
    ∷ bytes_of "cf"
    ∷ bytes_of "i"
    ∷ bytes_of "b"
    ∷ bytes_of "ul"
    ∷ bytes_of "ulnone"
    ∷ bytes_of "super"
    ∷ bytes_of "sub"
    ∷ bytes_of "scaps"
    ∷ bytes_of "strike"
    ∷ bytes_of "par"
    ∷ bytes_of "pard"
    ∷ bytes_of "sectd"
    ∷ bytes_of "plain"
    ∷ bytes_of "s"
    ∷ bytes_of "pardeftab"
    ∷ bytes_of "ql"
    ∷ bytes_of "qr"
    ∷ bytes_of "qj"
    ∷ bytes_of "qc"
    ∷ bytes_of "fi"
    ∷ bytes_of "ri"
    ∷ bytes_of "li"
    ∷ bytes_of "sb"
    ∷ bytes_of "sa"
    ∷ bytes_of "sl"
    ∷ bytes_of "slmul"
    ∷ bytes_of "red"
    ∷ bytes_of "green"
    ∷ bytes_of "blue"
    ∷ bytes_of "emdash"
    ∷ bytes_of "endash"
    ∷ bytes_of "bullet"
    ∷ bytes_of "lquote"
    ∷ bytes_of "rquote"
    ∷ bytes_of "ldblquote"
    ∷ bytes_of "rdblquote"
    ∷ bytes_of "tab"
    ∷ bytes_of "line" ∷ []

-- two lists of bytes are the same
unfoldable pub same_bytes : List ℕ → List ℕ → Bool
same_bytes [] [] = true
same_bytes [] (y ∷ ys) = false
same_bytes (x ∷ xs) [] = false
same_bytes (x ∷ xs) (y ∷ ys) = cond (eqb x y) (same_bytes xs ys) false

-- the place of a name in a list of names, from 0; the list's length if it is none of them
unfoldable pub place_in : List (List ℕ) → List ℕ → ℕ
place_in [] w = zero
place_in (n ∷ ns) w = cond (same_bytes w n) zero (suc (place_in ns w))

-- "They are numbered 0 to 48; 49 is unknown."
unfoldable pub word_number : List ℕ → ℕ
word_number w = place_in names w

-- the name of a number
unfoldable pub name_of : ℕ → List ℕ
name_of k = get_or names k []

-- The code's table: four rows of bytes, one behind the other.

-- "Hold the 49 names as one run of bytes" (02, A3)
unfoldable pub run : List ℕ
run = flatten names

-- "with the place where each ends": b, where the first name begins, and then where each ends, which is where the next begins
unfoldable pub bounds_from : ℕ → List (List ℕ) → List ℕ
bounds_from b [] = b ∷ []
bounds_from b (n ∷ ns) = b ∷ bounds_from (b + length n) ns

-- The names in the order of search. A word is compared only with names that have its first byte, so what counts is the order
-- of these: the ones that are met most come first.
abbrev pub order : List (List ℕ)
order =
    bytes_of "ansi"
    ∷ bytes_of "b" ∷ bytes_of "blue" ∷ bytes_of "bullet"
    ∷ bytes_of "cf" ∷ bytes_of "colortbl"
    ∷ bytes_of "emdash" ∷ bytes_of "endash"
    ∷ bytes_of "f" ∷ bytes_of "fs" ∷ bytes_of "fi" ∷ bytes_of "fcharset" ∷ bytes_of "fonttbl" ∷ bytes_of "filetbl"
    ∷ bytes_of "green"
    ∷ bytes_of "i"
    ∷ bytes_of "li" ∷ bytes_of "line" ∷ bytes_of "lquote" ∷ bytes_of "ldblquote"
    ∷ bytes_of "par" ∷ bytes_of "pard" ∷ bytes_of "plain" ∷ bytes_of "pardeftab"
    ∷ bytes_of "ql" ∷ bytes_of "qr" ∷ bytes_of "qj" ∷ bytes_of "qc"
    ∷ bytes_of "rtf" ∷ bytes_of "red" ∷ bytes_of "ri" ∷ bytes_of "rquote" ∷ bytes_of "rdblquote"
    ∷ bytes_of "s" ∷ bytes_of "sb" ∷ bytes_of "sa" ∷ bytes_of "sl" ∷ bytes_of "slmul"
    ∷ bytes_of "super" ∷ bytes_of "sub" ∷ bytes_of "strike" ∷ bytes_of "scaps" ∷ bytes_of "stylesheet" ∷ bytes_of "sectd"
    ∷ bytes_of "tab"
    ∷ bytes_of "u" ∷ bytes_of "ul" ∷ bytes_of "uc" ∷ bytes_of "ulnone" ∷ []

-- the number of the first in a list of names that starts with a byte, 49 if none does
unfoldable pub first_with : ℕ → List (List ℕ) → ℕ
first_with b [] = 49
first_with b (n ∷ ns) = cond (eqb (get_or n 0 0) b) (word_number n) (first_with b ns)

-- what stands behind a name in a list of names
unfoldable pub behind : List ℕ → List (List ℕ) → List (List ℕ)
behind w [] = []
behind w (n ∷ ns) = cond (same_bytes w n) ns (behind w ns)

-- for each name the number of the next one with its first byte, 49 if there is none
unfoldable pub links : List ℕ
links = map (λ (n : List ℕ). first_with (get_or n 0 0) (behind n order)) names

-- for each byte from a to z the number of the first name that starts with it, 49 if there is none
unfoldable pub heads : List ℕ
heads = map (λ (b : ℕ). first_with b order) (bytes_of "abcdefghijklmnopqrstuvwxyz")

unfoldable pub rows : List ℕ
rows = run ++ bounds_from 0 names ++ links ++ heads
