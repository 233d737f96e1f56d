-- 01, Cutting, and 02, A4: a token's eight words, read back: the token, given the source that its places point into.
-- Assumes nothing: these are definitions.
use Rattle.std.specs.Prelude.{ℕ, zero, suc, ◌+◌, List, [], ◌∷◌, cond, get_or, take, drop, eqb}
use Rattle.tokens.specs.Tokens.{Shown, Token, token, shown_words, token_words}
use Rattle.tokens.specs.declared.Kind.{Kind}
use Rattle.tokens.specs.declared.Kind.TheVariants as kinds
use Rattle.tokens.specs.declared.item.Item.{Item}
use Rattle.tokens.specs.declared.item.Item.TheVariants.{Text, Opening, Closing, LineBreak, Ignorable, Word, Unknown, Symbol}
use Rattle.tokens.specs.WordNumbers as words
use Rattle.std.specs.Prelude.{Option, Some, None}

-- "1 if a number is present, that number"
abbrev pub property_of : ℕ → ℕ → Option ℕ
property_of has number = cond (eqb has 1) (Some number) None

abbrev pub number_at : List ℕ → Option ℕ
number_at ws = property_of (get_or ws 2 0) (get_or ws 3 0)

-- a word by its number: "49 is unknown"
abbrev pub word_item : ℕ → Option ℕ → ℕ → ℕ → Item
word_item w num p n = cond (eqb w words.unknown) (Unknown p n num) (Word w num)

-- "kind (0 text, 1 open, 2 close, 3 line break, 4 ignorable, 5 word)", and 6, a symbol; any other number is a text's
abbrev pub kind_of : ℕ → Kind
kind_of n =
    cond (eqb n 1) kinds.Opening (cond (eqb n 2) kinds.Closing (cond (eqb n 3) kinds.LineBreak (cond (eqb n 4) kinds.Ignorable
    (cond (eqb n 5) kinds.Word (cond (eqb n 6) kinds.Symbol kinds.Text)))))

abbrev pub kind_at : List ℕ → Kind
kind_at ws = kind_of (get_or ws 0 0)

-- the same for the item
unfoldable pub item_of : ℕ → ℕ → ℕ → ℕ → ℕ → ℕ → Item
item_of kind w has number p n =
    cond (eqb kind 1) Opening (cond (eqb kind 2) Closing (cond (eqb kind 3) LineBreak (cond (eqb kind 4) Ignorable
    (cond (eqb kind 5) (word_item w (property_of has number) p n) (cond (eqb kind 6) (Symbol w (property_of has number)) (Text p n))))))

-- the token that words start with
unfoldable pub item_at : List ℕ → Item
item_at ws = item_of (get_or ws 0 0) (get_or ws 1 0) (get_or ws 2 0) (get_or ws 3 0) (get_or ws 4 0) (get_or ws 5 0)

-- the bytes of a source from a place on
unfoldable pub part : List ℕ → ℕ → ℕ → List ℕ
part src p n = take n (drop p src)

-- what an item shows
abbrev pub shown_of : List ℕ → Item → Shown
shown_of src (Text p n) = Shown.text p (part src p n)
shown_of src Opening = Shown.opening
shown_of src Closing = Shown.closing
shown_of src LineBreak = Shown.line_break
shown_of src Ignorable = Shown.ignorable
shown_of src (Word w num) = Shown.word w num
shown_of src (Unknown p n num) = Shown.unknown p (part src p n) num
shown_of src (Symbol b num) = Shown.symbol b num

-- what the first n tokens of a room show
unfoldable pub shown_all : List ℕ → ℕ → List ℕ → List Shown
shown_all src zero ws = []
shown_all src (suc n) ws = shown_of src (item_at ws) ∷ shown_all src n (drop token_words ws)

-- "place and length" of the slice
abbrev pub slice_at : List ℕ → ℕ
slice_at ws = get_or ws shown_words 0

abbrev pub token_at : List ℕ → List ℕ → Token
token_at src ws = token (slice_at ws) (get_or ws (shown_words + 1) 0) (shown_of src (item_at ws))

-- the first n tokens of a room
unfoldable pub tokens_all : List ℕ → ℕ → List ℕ → List Token
tokens_all src zero ws = []
tokens_all src (suc n) ws = token_at src ws ∷ tokens_all src n (drop token_words ws)
