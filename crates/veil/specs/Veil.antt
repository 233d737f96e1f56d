-- 01, Cutting and Header walk, and 02, A1: which bytes of a letter are hidden. The veil of a letter is the letter, trimmed, with the
-- inside of each ignored group put as `\*`: of each group that the header walk comes to and passes over. Each is said by the reading,
-- over that reading's slices and tokens. Assumes nothing: these are definitions.
use Rattle.std.specs.Prelude.{◌≡◌, ℕ, zero, suc, List, [], ◌∷◌, ◌++◌, Bool, true, false, cond, not, drop, eqb}
use Rattle.readings.specs.declared.Reading.{Reading}
use Rattle.readings.specs.declared.Reading.TheVariants.{Plain, Paragraphs, Standard}
use Rattle.rooms.specs.Streams.{items}
use Rattle.slices.specs.Slices.{slices, Behind, anything, starts_standard, behind as known_behind, standard_slices}
use Rattle.tokens.specs.Tokens.{Shown}
use Rattle.tokenize.specs.Tokenize.{is_mark}
use Rattle.cutter.specs.Cutting.{tokens_by, trim_start, trimmed}
use Rattle.walk.specs.declared.Aim.{Aim}
use Rattle.walk.specs.declared.Aim.TheVariants.{Nothing, Hide, Fonts, Colours}
use Rattle.walk.specs.Walk.{aim}

-- ---- pieces

-- "`{`, `}` or a raw line feed: .. what follows that byte is cut again by these rules.": the pieces of a slice are such bytes,
-- each by itself, and then the rest. So `}b`, which is one slice, is two pieces, of which the first may end a hidden group. So it is in
-- standard reading too, where text is all that can follow such a byte in its slice
unfoldable pub part : List ℕ → List (List ℕ)
part [] = []
part (b ∷ s) = cond (is_mark b) ((b ∷ []) ∷ part s) ((b ∷ s) ∷ [])

unfoldable pub parts : List (List ℕ) → List (List ℕ)
parts [] = []
parts (s ∷ ss) = part s ++ parts ss

-- the slices that are taken apart: those of the reading, but for a line feed that by paragraphs a carriage return takes in. Here it is a
-- slice of its own: it shows nothing by itself, and what follows it shows the same in either way
abbrev pub sliced : Reading → List ℕ → List (List ℕ)
sliced Plain s = slices s
sliced Paragraphs s = slices s
sliced Standard s = standard_slices s

-- the pieces of bytes
unfoldable pub pieces : Reading → List ℕ → List (List ℕ)
pieces rd s = parts (sliced rd s)

-- pieces one after the other
unfoldable pub join : List (List ℕ) → List ℕ
join [] = []
join (p ∷ ps) = p ++ join ps

-- what the tokens of pieces show, each piece cut by itself
unfoldable pub shown : Reading → List (List ℕ) → List Shown
shown rd [] = []
shown rd (p ∷ ps) = items (tokens_by rd 0 p) ++ shown rd ps

-- ---- where the walk is

-- an opening bracket, a closing one, any other piece
pub data Side : Type 0 where
  up : Side
  down : Side
  flat : Side

abbrev pub side_of : List ℕ → Side
side_of [] = flat
side_of (b ∷ s) = cond (eqb b 123) up (cond (eqb b 125) down flat)

-- "Else go one token on"; "pass over to the bracket that matches", where d groups more are open inside; "the same, and read it"
pub data Mode : Type 0 where
  going : Mode
  passing : ℕ → Mode
  reading : ℕ → Mode

-- behind an opening bracket, by what the walk makes of its group
abbrev pub enter : Aim → Mode
enter Nothing = going
enter Hide = passing 0
enter (Fonts late) = reading 0
enter (Colours late) = reading 0

-- behind a piece
abbrev pub next : Mode → Side → Aim → Mode
next going up a = enter a
next going down a = going
next going flat a = going
next (passing d) up a = passing (suc d)
next (passing zero) down a = going
next (passing (suc d)) down a = passing d
next (passing d) flat a = passing d
next (reading d) up a = reading (suc d)
next (reading zero) down a = going
next (reading (suc d)) down a = reading d
next (reading d) flat a = reading d

-- ---- the veil

-- what an ignored group's inside is put as
abbrev pub mute : List ℕ
mute = 92 ∷ 42 ∷ []

-- what is left of a piece: nothing inside an ignored group; `\*` behind such a group's opening bracket; else all of it, the
-- bracket that matches too
abbrev pub cover : Mode → Side → Aim → List ℕ → List (List ℕ)
cover going up Nothing p = p ∷ []
cover going up Hide p = p ∷ mute ∷ []
cover going up (Fonts late) p = p ∷ []
cover going up (Colours late) p = p ∷ []
cover going down a p = p ∷ []
cover going flat a p = p ∷ []
cover (passing d) up a p = []
cover (passing zero) down a p = p ∷ []
cover (passing (suc d)) down a p = []
cover (passing d) flat a p = []
cover (reading d) s a p = p ∷ []

-- "At an opening bracket look at the first token after the bracket that is not a line break."
unfoldable pub mask : Reading → Mode → List (List ℕ) → List (List ℕ)
mask rd m [] = []
mask rd m (p ∷ ps) = cover m (side_of p) (aim (shown rd ps)) p ++ mask rd (next m (side_of p) (aim (shown rd ps))) ps

-- the veil of a letter: `{a{\*x}b}` and `{a{\stylesheet{y}}b}` have the veil `{a{\*}b}`
unfoldable pub veil : Reading → List ℕ → List ℕ
veil rd src = join (mask rd going (pieces rd (trimmed src)))

-- ---- the same, said of two letters: the same except inside ignored groups

-- where the walk is behind pieces that an opening bracket follows
unfoldable pub behind : Reading → Mode → List (List ℕ) → Mode
behind rd m [] = m
behind rd m (p ∷ ps) = behind rd (next m (side_of p) (aim (shown rd ps))) ps

-- each bracket among the pieces has its match among them, where d are open
abbrev pub own_at : Side → ℕ → (ℕ → Bool) → Bool
own_at up d go = go (suc d)
own_at down zero go = false
own_at down (suc d) go = go d
own_at flat d go = go d

unfoldable pub own : ℕ → List (List ℕ) → Bool
own zero [] = true
own (suc d) [] = false
own d (p ∷ ps) = own_at (side_of p) d (λ e. own e ps)

-- the last byte, where b stands before them, is no backslash: a special byte that follows starts a new slice
unfoldable pub ends_bare : ℕ → List ℕ → Bool
ends_bare b [] = not (eqb b 92)
ends_bare b (c ∷ s) = ends_bare c s

-- in standard reading an escaped backslash may be the last byte: "unless they stand right behind the backslash that starts it". So the inside
-- `\*\\` may be closed there, and not in the other readings
unfoldable pub ends_free : Behind → List ℕ → Bool
ends_free q [] = starts_standard q 123
ends_free q (c ∷ s) = ends_free (known_behind q c) s

-- a bracket that follows starts a slice, by the reading
abbrev pub ends : Reading → List ℕ → Bool
ends Plain x = ends_bare 0 x
ends Paragraphs x = ends_bare 0 x
ends Standard x = ends_free anything x

-- a letter with a group in it: x, an opening bracket, the group's inside, a closing bracket, y
abbrev pub grouped : List ℕ → List ℕ → List ℕ → List ℕ
grouped x g y = x ++ (123 ∷ (g ++ (125 ∷ y)))

-- behind x, the start of a letter, a group with the inside g is ignored, and the bracket that follows g closes it
pub record Ignored (rd : Reading) (x g : List ℕ) : Type 0 where
  -- its two brackets start slices: no backslash makes them text
  pub opened : ends rd x ≡ true
  pub closed : ends rd g ≡ true
  -- the second bracket matches the first
  pub balanced : own 0 (pieces rd g) ≡ true
  -- the walk, which begins behind the letter's white front, comes to the first
  pub reached : behind rd going (pieces rd (drop (trim_start x) x)) ≡ going
  -- "`\*`, or `stylesheet` without a number: pass over"
  pub hidden : aim (shown rd (pieces rd g)) ≡ Hide

-- letters that are the same except inside ignored groups: the inside of one such group after another is changed. The letters in
-- between need not be letters that a reader takes
pub data Alike (rd : Reading) : List ℕ → List ℕ → Type 0 where
  same : (a : List ℕ) → Alike rd a a
  other : (x g h y : List ℕ) {b : List ℕ} → Ignored rd x g → Ignored rd x h → Alike rd (grouped x h y) b → Alike rd (grouped x g y) b
