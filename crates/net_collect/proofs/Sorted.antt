-- Writes that are sorted by their numbers are those of the definition.
use Rattle.std.proofs.Common.{◌≡◌, ℕ, cond, List, [], ◌∷◌, refl, ap, ◌∙◌, leb}
use Rattle.std.specs.List.Sorted.{IsSortedByKey, IsStableByKey}
use Rattle.std.specs.Ordering.{nat_cmp}
use Rattle.net_core.proofs.Sorting.{put, sort_in, stable_is}
use Rattle.net_collect.specs.declared.sides.WriteCell.{WriteCell}
use Rattle.net_collect.specs.Sides.{by_id, insert_write}

abbrev pub write_id : WriteCell → ℕ
write_id w = w.id

put_is : (w : WriteCell) (ws : List WriteCell) → put write_id w ws ≡ insert_write w ws
put_is w [] = refl
put_is w (x ∷ xs) = ap (λ rest. cond (leb w.id x.id) (w ∷ x ∷ xs) (x ∷ rest)) (put_is w xs)

sort_is : (ws : List WriteCell) → sort_in write_id ws ≡ by_id ws
sort_is [] = refl
sort_is (w ∷ ws) = put_is w (sort_in write_id ws) ∙ ap (insert_write w) (sort_is ws)

pub writes_by_id : (xs ys : List WriteCell) → IsSortedByKey write_id nat_cmp ys → IsStableByKey write_id nat_cmp xs ys → ys ≡ by_id xs
writes_by_id xs ys up stable = stable_is write_id xs ys up stable ∙ sort_is xs
