-- Copies are few, and never fall as reads are placed.
use Rattle.std.proofs.Common.{ℕ, ◌+◌, ◌≤◌, max, List, [], ◌∷◌, ◌++◌, length, count_by, arith, length-append}
use Rattle.std.proofs.Math.Nat.{div-le_self, le-max_right}
use Rattle.std.proofs.lemmas.List.Sums.{count_by-le-length}
use Rattle.lib_core.specs.declared.library.Variant.{Variant}
use Rattle.geom_core.specs.declared.candidates.ReadPlace.{ReadPlace}
use Rattle.geom_core.specs.declared.candidates.ReadPlace.TheVariants as place
use Rattle.fit_rules.specs.Standing.{left}
use Rattle.fit_rules.specs.Shape.{copies, copies_after, copy_of, in_group, at_write}

pub copy_small : (v : Variant) (groups : List ℕ) (before : List ReadPlace) (p : ReadPlace) → copy_of v groups before p ≤ length before
copy_small v groups before (place.Group n) = omega (arith, div-le_self (count_by (in_group n) before) (left v groups n), count_by-le-length (in_group n) before)
copy_small v groups before (place.Ride w) = count_by-le-length (at_write w) before

copies_small_after : (v : Variant) (groups : List ℕ) (before reads : List ReadPlace) (n : ℕ) → 1 ≤ n → length before + length reads ≤ n → copies_after v groups before reads ≤ n
copies_small_after v groups before [] n h k = h
copies_small_after v groups before (p ∷ ps) n h k = omega (arith, copy_small v groups before p, copies_small_after v groups (before ++ p ∷ []) ps n h (omega (arith, length-append before (p ∷ []), k)), k)

pub copies_small : (v : Variant) (groups : List ℕ) (reads : List ReadPlace) → length reads ≤ 8 → copies v groups reads ≤ 8
copies_small v groups reads h = copies_small_after v groups [] reads 8 (omega arith) (omega (arith, h))

le_max : (a b c : ℕ) → a ≤ c → a ≤ max b c
le_max a b c h = omega (arith, h, le-max_right b c)

max_le : (a b c : ℕ) → b ≤ c → max a b ≤ max a c
max_le a b c h = omega arith

pub copies_some : (v : Variant) (groups : List ℕ) (before reads : List ReadPlace) → 1 ≤ copies_after v groups before reads
copies_some v groups before [] = omega arith
copies_some v groups before (p ∷ ps) = le_max 1 (copy_of v groups before p + 1) (copies_after v groups (before ++ p ∷ []) ps) (copies_some v groups (before ++ p ∷ []) ps)

pub copies_rise : (v : Variant) (groups : List ℕ) (before reads more : List ReadPlace) → copies_after v groups before reads ≤ copies_after v groups before (reads ++ more)
copies_rise v groups before [] more = copies_some v groups before more
copies_rise v groups before (p ∷ ps) more = max_le (copy_of v groups before p + 1) (copies_after v groups (before ++ p ∷ []) ps) (copies_after v groups (before ++ p ∷ []) (ps ++ more)) (copies_rise v groups (before ++ p ∷ []) ps more)
