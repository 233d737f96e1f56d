-- Bytes of a reader in a room.
--     read_more   what a read puts behind what was read before
use Rattle.std.proofs.Common.{◌≡◌, ℕ, ◌+◌, ◌≤◌, List, ◌++◌, length, take, sym, ap, ◌∙◌, refl, arith, length-take-le}
use Rattle.std.proofs.Math.Seq.{take-append-add, take-take}
use Rattle.std.proofs.lemmas.Slice.{take-put_mid}
use Rattle.std.specs.declared.option.Option.{Option}
use Rattle.std.specs.Io.KnownBytes.{Consumes}
use Rattle.std.proofs.KnownBytes.{Consumes-trans}
use borrow.Rule.Slice.PartMut.{put_mid}

front : (room buf : List ℕ) (at k n j : ℕ) → at ≤ length room → n ≤ length buf → j ≡ at + n → take j (put_mid at k room buf) ≡ take at room ++ take n buf
front room buf at k n j within few is =
    let long : length (take at room) ≡ at = length-take-le at room within in
    let whole : take (at + length buf) (put_mid at k room buf) ≡ take at room ++ buf = take-put_mid at k room buf (at + length buf) refl within in
    let part : take j (take (at + length buf) (put_mid at k room buf)) ≡ take j (put_mid at k room buf) = take-take j (at + length buf) (put_mid at k room buf) (omega arith) in
    let split : take (length (take at room) + n) (take at room ++ buf) ≡ take at room ++ take n buf = take-append-add (take at room) buf n in
    sym part ∙ ap (take j) whole ∙ ap (λ m. take m (take at room ++ buf)) (is ∙ ap (λ m. m + n) (sym long)) ∙ split

pub read_more : (a b c : Option (List ℕ)) (room buf : List ℕ) (at k n j : ℕ) → at ≤ length room → n ≤ length buf → j ≡ at + n
    → Consumes a b (take at room) → Consumes b c (take n buf) → Consumes a c (take j (put_mid at k room buf))
read_more a b c room buf at k n j within few is before read =
    rw (front room buf at k n j within few is) (Consumes-trans a b c (take at room) (take n buf) before read)
