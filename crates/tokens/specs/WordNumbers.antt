-- 01, Cutting: "They are numbered 0 to 48; 49 is unknown." Words by the names that `ControlWord` gives them in the crate. That they are
-- the numbers of 01's names is one computed test, in crates/tokenize/proofs/Words.antt. Assumes nothing: these are definitions.
use Rattle.std.specs.Prelude.{ℕ}

abbrev pub rtf : ℕ
rtf = 0

abbrev pub ansi : ℕ
ansi = 1

abbrev pub unicode : ℕ
unicode = 2

abbrev pub unicode_ignore_count : ℕ
unicode_ignore_count = 3

abbrev pub font_table : ℕ
font_table = 4

abbrev pub colour_table : ℕ
colour_table = 5

abbrev pub file_table : ℕ
file_table = 6

abbrev pub style_sheet : ℕ
style_sheet = 7

abbrev pub font_charset : ℕ
font_charset = 8

abbrev pub font_number : ℕ
font_number = 9

abbrev pub font_size : ℕ
font_size = 10

abbrev pub colour_number : ℕ
colour_number = 11

abbrev pub italic : ℕ
italic = 12

abbrev pub bold : ℕ
bold = 13

abbrev pub underline : ℕ
underline = 14

abbrev pub underline_none : ℕ
underline_none = 15

abbrev pub superscript : ℕ
superscript = 16

abbrev pub subscript : ℕ
subscript = 17

abbrev pub smallcaps : ℕ
smallcaps = 18

abbrev pub strikethrough : ℕ
strikethrough = 19

abbrev pub par : ℕ
par = 20

abbrev pub pard : ℕ
pard = 21

abbrev pub sectd : ℕ
sectd = 22

abbrev pub plain : ℕ
plain = 23

abbrev pub par_style : ℕ
par_style = 24

abbrev pub par_def_tab : ℕ
par_def_tab = 25

abbrev pub left_aligned : ℕ
left_aligned = 26

abbrev pub right_aligned : ℕ
right_aligned = 27

abbrev pub justify : ℕ
justify = 28

abbrev pub center : ℕ
center = 29

abbrev pub first_line_indent : ℕ
first_line_indent = 30

abbrev pub right_indent : ℕ
right_indent = 31

abbrev pub left_indent : ℕ
left_indent = 32

abbrev pub space_before : ℕ
space_before = 33

abbrev pub space_after : ℕ
space_after = 34

abbrev pub space_between_line : ℕ
space_between_line = 35

abbrev pub space_line_mul : ℕ
space_line_mul = 36

abbrev pub colour_red : ℕ
colour_red = 37

abbrev pub colour_green : ℕ
colour_green = 38

abbrev pub colour_blue : ℕ
colour_blue = 39

abbrev pub emdash : ℕ
emdash = 40

abbrev pub endash : ℕ
endash = 41

abbrev pub bullet : ℕ
bullet = 42

abbrev pub left_single_quote : ℕ
left_single_quote = 43

abbrev pub right_single_quote : ℕ
right_single_quote = 44

abbrev pub left_double_quote : ℕ
left_double_quote = 45

abbrev pub right_double_quote : ℕ
right_double_quote = 46

abbrev pub tab : ℕ
tab = 47

abbrev pub line : ℕ
line = 48

abbrev pub unknown : ℕ
unknown = 49
