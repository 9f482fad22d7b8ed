-- The sizes of ports, continuation by continuation.
use Rattle.std.proofs.Common.{◌≡◌, ℕ, zero, suc, ◌+◌, Bool, true, false, ◌&&◌, List, [], ◌∷◌, length, map, take, min, refl, ap, arith}
use Rattle.std.specs.List.{list_all}
use Rattle.lib_core.specs.declared.library.Tri.{Tri}
use Rattle.net_core.specs.Valid.{is_one_digit}
use Rattle.mem_rows.specs.Groups.{are_groups, are_ports, is_group, sizes_from}

pub joined : (here : ℕ) (more : List Bool) → list_all is_group (sizes_from here (true ∷ more)) ≡ list_all is_group (sizes_from (here + 1) more)
joined here more = refl

pub begun : (here : ℕ) (more : List Bool) → list_all is_group (sizes_from here (false ∷ more)) ≡ (is_group here && list_all is_group (sizes_from 1 more))
begun here more = refl

pub ended : (here : ℕ) → list_all is_group (sizes_from here []) ≡ (is_group here && true)
ended here = refl

cut : (count m : ℕ) (bits : List Tri) → m ≡ min (length bits) count → map is_one_digit (take m bits) ≡ take count (map is_one_digit bits)
cut zero m [] e = let none : m ≡ 0 = omega arith in ap (λ k. map is_one_digit (take k [])) none
cut zero m (b ∷ bits) e = let none : m ≡ 0 = omega arith in ap (λ k. map is_one_digit (take k (b ∷ bits))) none
cut (suc c) m [] e = let none : m ≡ 0 = omega arith in ap (λ k. map is_one_digit (take k [])) none
cut (suc c) zero (b ∷ bits) e = absurd (omega arith)
cut (suc c) (suc m) (b ∷ bits) e = ap (λ xs. is_one_digit b ∷ xs) (cut c m bits (omega arith))

-- bits past the count are not looked at
pub written_bits : (count m : ℕ) (bits : List Tri) → m ≡ min (length bits) count → are_ports (map is_one_digit (take m bits)) ≡ are_groups count bits
written_bits count m bits e = ap are_ports (cut count m bits e)
