-- The store of a font in a room that has a table in front, in the terms of the code.
--     front-whole, front_of    a room whose front is a table's records, as those and what stands behind
--     table-ascends            the room's keys ascend where the table's do
--     store-over, -full, -new  one law for each way through the code
-- Assumes nothing.
use Rattle.std.proofs.Common.{◌≡◌, ℕ, zero, suc, ◌+◌, ◌*◌, ◌<◌, ◌≤◌, Bool, true, false, ◌||◌, eqb, ltb, List, [], ◌∷◌, ◌++◌, length, get_or, take, drop, sym, refl, ap, ◌∙◌, append_assoc, not-suc-le-zero, arith, length-append, length-drop, take-append-drop, length-take-le, drop-drop, le-ltb, lt-ltb, eq-eqb, ne_eqb}
use lib.Seq.{sets, split_at, take-append_seam}
use Rattle.answers.specs.declared.Why.TheVariants.{FontRoom}
use Rattle.answers.specs.Answers.{becomes, fails}
use Rattle.fonts.specs.declared.rows.Font.{Font as Row}
use Rattle.fonts.specs.Rows.{Font, first_font, font_record, table_words, has_key, inserted, stored, InFront, font_words}
use Rattle.fonts.specs.Rows.{row, row_words, key_at, Ascends, Rank, stands, shifted, WroteFonts, StoredFont}
use Rattle.fonts.proofs.Searches.{stands_here, stands-apart}
use Rattle.fonts.proofs.Shifts.{over, between}
use Rattle.fonts.proofs.RowTables.{table-append, length-table, Ascending, key_of, up_at}
use Rattle.std.specs.Prelude.{Ok, Err}

-- what stands behind a table
abbrev behind : List Font → List ℕ → List ℕ
behind fs room = drop (length (table_words fs)) room

front-whole : (fs : List Font) (room : List ℕ) → InFront (table_words fs) room → room ≡ table_words fs ++ behind fs room
front-whole fs room h = sym (take-append-drop (length (table_words fs)) room) ∙ ap (λ (l : List ℕ). l ++ behind fs room) h

front_of : (ws tail room : List ℕ) → room ≡ ws ++ tail → InFront ws room
front_of ws tail room e = ap (take (length ws)) e ∙ take-append_seam ws tail

key-at : (fs : List Font) (tail : List ℕ) (i : ℕ) → i < length fs → key_at (table_words fs ++ tail) i ≡ key_of fs i
unfolding table_words font_record
key-at [] tail i h = absurd (omega arith)
key-at (f ∷ fs) tail zero h = refl
key-at (f ∷ fs) tail (suc i) h =
    let q : suc i * font_words ≡ suc (suc (suc (i * font_words))) = omega arith in
    rw q (key-at fs tail i (omega arith))

key_in : (fs : List Font) (room : List ℕ) → InFront (table_words fs) room → (i : ℕ) → i < length fs → key_at room i ≡ key_of fs i
key_in fs room h i l = ap (λ (ws : List ℕ). key_at ws i) (front-whole fs room h) ∙ key-at fs (behind fs room) i l

pub table-ascends : (fs : List Font) (room : List ℕ) (n : ℕ) → Ascending fs → InFront (table_words fs) room → length fs ≡ n → Ascends n room
table-ascends fs room n u h e =
    record { up = λ i j a b. rw (key_in fs room h i (omega arith), key_in fs room h j (omega arith)) (up_at fs u i j a (omega arith)) }

-- where a font comes to stand: in place of the one at its rank, or before it
module _ (f : Font) where
  insert-over : (fs : List Font) (r : ℕ) → r < length fs → ((i : ℕ) → i < r → key_of fs i < f.key) → key_of fs r ≡ f.key
      → (inserted f fs ≡ take r fs ++ (f ∷ drop (suc r) fs)) × (has_key f.key fs ≡ true)
  unfolding inserted has_key
  insert-over [] r h b e = absurd (omega arith)
  insert-over (g ∷ gs) zero h b e =
      let x : ltb g.key f.key ≡ false = le-ltb g.key f.key (omega arith) in
      let y : eqb g.key f.key ≡ true = eq-eqb g.key f.key e in
      (rw (x, y), rw y)
  insert-over (g ∷ gs) (suc r) h b e =
      let l : g.key < f.key = b 0 (omega arith) in
      let x : ltb g.key f.key ≡ true = lt-ltb g.key f.key l in
      let y : eqb g.key f.key ≡ false = ne_eqb g.key f.key (λ q. omega arith) in
      let k : (inserted f gs ≡ take r gs ++ (f ∷ drop (suc r) gs)) × (has_key f.key gs ≡ true) =
      insert-over gs r (omega arith) (λ i m. b (suc i) (omega arith)) e in
      (rw x (ap (λ (l : List Font). g ∷ l) k.0), rw y k.1)

  insert-new : (fs : List Font) (r : ℕ) → r ≤ length fs → ((i : ℕ) → i < r → key_of fs i < f.key) → ((i : ℕ) → r ≤ i → i < length fs → f.key < key_of fs i)
      → (inserted f fs ≡ take r fs ++ (f ∷ drop r fs)) × (has_key f.key fs ≡ false)
  unfolding inserted has_key
  insert-new [] zero h b a = (refl, refl)
  insert-new [] (suc r) h b a = absurd (not-suc-le-zero h)
  insert-new (g ∷ gs) zero h b a =
      let l : f.key < g.key = a 0 (omega arith) (omega arith) in
      let x : ltb g.key f.key ≡ false = le-ltb g.key f.key (omega arith) in
      let y : eqb g.key f.key ≡ false = ne_eqb g.key f.key (λ q. omega arith) in
      let k : (inserted f gs ≡ take 0 gs ++ (f ∷ drop 0 gs)) × (has_key f.key gs ≡ false) =
      insert-new gs zero (omega arith) (λ i m. absurd (omega arith)) (λ i m n. a (suc i) (omega arith) (omega arith)) in
      (rw (x, y), rw y k.1)
  insert-new (g ∷ gs) (suc r) h b a =
      let l : g.key < f.key = b 0 (omega arith) in
      let x : ltb g.key f.key ≡ true = lt-ltb g.key f.key l in
      let y : eqb g.key f.key ≡ false = ne_eqb g.key f.key (λ q. omega arith) in
      let k : (inserted f gs ≡ take r gs ++ (f ∷ drop r gs)) × (has_key f.key gs ≡ false) =
      insert-new gs r (omega arith) (λ i m. b (suc i) (omega arith)) (λ i m n. a (suc i) (omega arith) (omega arith)) in
      (rw x (ap (λ (l : List Font). g ∷ l) k.0), rw y k.1)

-- three parts and a tail
parts : (p x q tail : List ℕ) → (p ++ (x ++ q)) ++ tail ≡ p ++ (x ++ (q ++ tail))
parts p x q tail = append_assoc p (x ++ q) tail ∙ ap (λ (l : List ℕ). p ++ l) (append_assoc x q tail)

table-parts : (a : List Font) (f : Font) (b : List Font) (tail : List ℕ)
    → table_words (a ++ (f ∷ b)) ++ tail ≡ table_words a ++ (font_record f ++ (table_words b ++ tail))
unfolding table_words
table-parts a f b tail = ap (λ (l : List ℕ). l ++ tail) (table-append a (f ∷ b)) ∙ parts (table_words a) (font_record f) (table_words b) tail

front_length : (fs : List Font) (r : ℕ) → r ≤ length fs → length (table_words (take r fs)) ≡ r * font_words
front_length fs r h = length-table (take r fs) ∙ rw (length-take-le r fs h) (omega arith)

words-length : (f : Font) → length (font_record f) ≡ font_words
unfolding font_record
words-length f = refl

row_words_lem : (f : Row) (g : Font) → f ≡ row g → row_words f ≡ font_record g
unfolding font_record
row_words_lem f g e = ap row_words e

-- the record of the same key is written over
over-table : (fs : List Font) (room : List ℕ) (f : Font) (r : ℕ) → InFront (table_words fs) room → r < length fs
    → sets room (r * font_words) (font_record f) ≡ table_words (take r fs ++ (f ∷ drop (suc r) fs)) ++ behind fs room
over-table fs room f r h l =
    let a : List Font = take r fs in
    let x : Font = get_or fs r first_font in
    let b : List Font = drop (suc r) fs in
    let tail : List ℕ = behind fs room in
    let e : room ≡ table_words a ++ (font_record x ++ (table_words b ++ tail)) =
    front-whole fs room h ∙ ap (λ (gs : List Font). table_words gs ++ tail) (split_at fs r first_font l) ∙ table-parts a x b tail in
    let n : length (table_words a) ≡ r * font_words = front_length fs r (omega arith) in
    let o : sets (table_words a ++ (font_record x ++ (table_words b ++ tail))) (length (table_words a)) (font_record f)
    ≡ table_words a ++ (font_record f ++ (table_words b ++ tail)) =
    over (table_words a) (font_record x) (table_words b ++ tail) (font_record f) (words-length x ∙ sym (words-length f)) in
    ap (λ (ws : List ℕ). sets ws (r * font_words) (font_record f)) e
    ∙ ap (λ (i : ℕ). sets (table_words a ++ (font_record x ++ (table_words b ++ tail))) i (font_record f)) (sym n)
    ∙ o
    ∙ sym (table-parts a f b tail)

-- the later records have moved on
new-table : (fs : List Font) (room : List ℕ) (f : Font) (r n : ℕ) → length fs ≡ n → InFront (table_words fs) room → r ≤ n → n * font_words + font_words ≤ length room
    → sets (shifted (r * font_words) (n * font_words) room) (r * font_words) (font_record f) ≡ table_words (take r fs ++ (f ∷ drop r fs)) ++ drop font_words (behind fs room)
new-table fs room f r n q h l k =
    let a : List Font = take r fs in
    let b : List Font = drop r fs in
    let tail : List ℕ = behind fs room in
    let s : table_words fs ≡ table_words a ++ table_words b = ap table_words (sym (take-append-drop r fs)) ∙ table-append a b in
    let e : room ≡ table_words a ++ (table_words b ++ tail) =
    front-whole fs room h ∙ ap (λ (ws : List ℕ). ws ++ tail) s ∙ append_assoc (table_words a) (table_words b) tail in
    let i : length (table_words a) ≡ r * font_words = front_length fs r (omega arith) in
    let t : length (table_words fs) ≡ font_words * length fs = length-table fs in
    let u : length (table_words a) + length (table_words b) ≡ length (table_words fs) = sym (length-append (table_words a) (table_words b)) ∙ ap length (sym s) in
    let j : length (table_words a) + length (table_words b) ≡ n * font_words = u ∙ t ∙ rw q (omega arith) in
    let m : font_words ≤ length tail = simp length-drop (omega arith) in
    let p : ℕ = length (table_words a) in
    let v : sets (shifted p (p + length (table_words b)) (table_words a ++ (table_words b ++ tail))) p (font_record f)
    ≡ table_words a ++ (font_record f ++ (table_words b ++ drop font_words tail)) =
    between (table_words a) (table_words b) tail (font_record f) (words-length f) m in
    ap (λ (ws : List ℕ). sets (shifted (r * font_words) (n * font_words) ws) (r * font_words) (font_record f)) e
    ∙ ap (λ (y : ℕ). sets (shifted y (n * font_words) (table_words a ++ (table_words b ++ tail))) y (font_record f)) (sym i)
    ∙ ap (λ (y : ℕ). sets (shifted (length (table_words a)) y (table_words a ++ (table_words b ++ tail))) (length (table_words a)) (font_record f)) (sym j)
    ∙ v
    ∙ sym (table-parts a f b (drop font_words tail))

-- the definition's answer, by its two tests
module _ (limit : ℕ) (fs : List Font) (g : Font) where
  kept-found : has_key g.key fs || ltb (length fs) limit ≡ true
      → stored limit (record { table = fs; font = g }) ≡ becomes (record { table = inserted g fs; font = g })
  unfolding stored
  kept-found e = rw e

  kept-refused : has_key g.key fs || ltb (length fs) limit ≡ false → stored limit (record { table = fs; font = g }) ≡ fails FontRoom
  unfolding stored
  kept-refused e = rw e

  read_found : (ts : List Font) (tail room room' : List ℕ) (m : ℕ) → has_key g.key fs || ltb (length fs) limit ≡ true → inserted g fs ≡ ts → length ts ≡ m
      → tail ≡ drop (length (table_words ts)) room → room' ≡ table_words ts ++ tail → WroteFonts (stored limit (record { table = fs; font = g })) room (Ok m) room'
  read_found ts tail room room' m e i l b q = rw (kept-found e, i, ← l) (refl, q ∙ ap (λ (z : List ℕ). table_words ts ++ z) b)

length_over : (fs : List Font) (f : Font) (r : ℕ) → r < length fs → length (take r fs ++ (f ∷ drop (suc r) fs)) ≡ length fs
length_over fs f r h = length-append (take r fs) (f ∷ drop (suc r) fs) ∙ rw (length-take-le r fs (omega arith), length-drop) (omega arith)

length-new : (fs : List Font) (f : Font) (r : ℕ) → r ≤ length fs → length (take r fs ++ (f ∷ drop r fs)) ≡ length fs + 1
length-new fs f r h = length-append (take r fs) (f ∷ drop r fs) ∙ rw (length-take-le r fs h, length-drop) (omega arith)

-- the store, where r is the font's rank and t says whether the record there has its key
module _ {limit n : ℕ} {f : Row} {room : List ℕ} (pre : (n ≤ limit) × (limit ≤ 256) × (limit * font_words ≤ length room) × Ascends n room)
    {r : ℕ} (k : Rank n room f.key r) {t : Bool} (s : t ≡ stands n room r f.key) where
  pub store-over : t ≡ true → (room' : List ℕ) → room' ≡ sets room (r * font_words) (row_words f)
      → (fs : List Font) (g : Font) → StoredFont limit n f fs g room (Ok n) room'
  store-over b room' w fs g e h q =
      let y : (r < n) × (key_at room r ≡ f.key) = stands_here n room r f.key (sym s ∙ b) in
      let v : f.key ≡ g.key = ap (λ (x : Row). x.key) q in
      let l : r < length fs = rw e y.0 in
      let i : (inserted g fs ≡ take r fs ++ (g ∷ drop (suc r) fs)) × (has_key g.key fs ≡ true) =
      insert-over g fs r l (λ i m. rw (← (key_in fs room h i (omega arith)), ← v) (k.below i m)) (sym (key_in fs room h r l) ∙ y.1 ∙ v) in
      let w' : length (table_words (take r fs ++ (g ∷ drop (suc r) fs))) ≡ length (table_words fs) =
      length-table (take r fs ++ (g ∷ drop (suc r) fs)) ∙ rw (length_over fs g r l) (sym (length-table fs)) in
      read_found limit fs g _ (behind fs room) room room' n (rw i.1) i.0 (length_over fs g r l ∙ e) (rw w')
      (w ∙ ap (sets room (r * font_words)) (row_words_lem f g q) ∙ over-table fs room g r h l)

  module _ (b : t ≡ false) (fs : List Font) (g : Font) (e : length fs ≡ n) (h : InFront (table_words fs) room) (q : f ≡ row g) where
    apart : (inserted g fs ≡ take r fs ++ (g ∷ drop r fs)) × (has_key g.key fs ≡ false)
    apart =
        let v : f.key ≡ g.key = ap (λ (x : Row). x.key) q in
        let l : r ≤ n = k.within in
        insert-new g fs r (omega arith) (λ i m. rw (← (key_in fs room h i (omega arith)), ← v) (k.below i m))
        (λ i m o. rw (← (key_in fs room h i o), ← v) (stands-apart n room r f.key (sym s ∙ b) pre.3 k i m (omega arith)))

    full : limit ≤ n → WroteFonts (stored limit (record { table = fs; font = g })) room (Err FontRoom) room
    full l = rw (kept-refused limit fs g (rw (apart.1, e) (le-ltb n limit l))) refl

    new : n < limit → (room₁ room₂ : List ℕ) → room₁ ≡ shifted (r * font_words) (n * font_words) room → room₂ ≡ sets room₁ (r * font_words) (row_words f)
        → WroteFonts (stored limit (record { table = fs; font = g })) room (Ok (n + 1)) room₂
    new l room₁ room₂ w₁ w₂ =
        let m : r ≤ n = k.within in
        let p : limit * font_words ≤ length room = pre.2 in
        let ts : List Font = take r fs ++ (g ∷ drop r fs) in
        let w : length (table_words ts) ≡ length (table_words fs) + font_words =
        length-table ts ∙ rw (length-new fs g r (omega arith)) (let y = length-table fs in omega arith) in
        read_found limit fs g ts (drop font_words (behind fs room)) room room₂ (n + 1) (rw (apart.1, e) (lt-ltb n limit l)) apart.0
        (length-new fs g r (omega arith) ∙ rw e) (drop-drop font_words (length (table_words fs)) room ∙ rw w)
        (w₂ ∙ ap (λ (l : List ℕ). sets l (r * font_words) (row_words f)) w₁ ∙ ap (sets (shifted (r * font_words) (n * font_words) room) (r * font_words)) (row_words_lem f g q)
        ∙ new-table fs room g r n e h m (omega arith))

  pub store-full : t ≡ false → limit ≤ n → (fs : List Font) (g : Font) → StoredFont limit n f fs g room (Err FontRoom) room
  store-full b l fs g e h q = full b fs g e h q l

  pub store-new : t ≡ false → n < limit → (room₁ room₂ : List ℕ) → room₁ ≡ shifted (r * font_words) (n * font_words) room → room₂ ≡ sets room₁ (r * font_words) (row_words f)
      → (fs : List Font) (g : Font) → StoredFont limit n f fs g room (Ok (n + 1)) room₂
  store-new b l room₁ room₂ w₁ w₂ fs g e h q = new b fs g e h q l room₁ room₂ w₁ w₂
