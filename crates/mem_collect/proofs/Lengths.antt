-- How many flags there are.
use Rattle.std.proofs.Common.{◌≡◌, ℕ, zero, suc, ◌+◌, ◌-◌, ◌≤◌, Bool, false, List, [], ◌∷◌, ◌++◌, length, map, take, replicate, min, refl, ap, ◌∙◌, arith}
use Rattle.lib_core.specs.declared.library.Tri.{Tri}
use Rattle.net_core.specs.declared.mems.Attr.{Attr}
use Rattle.net_core.specs.Valid.{is_one_digit}
use Rattle.cell_consts.specs.Consts.{flags}
use Rattle.mem_rows.specs.Rows.{bits}
use Rattle.mem_collect.specs.Unpacked.{flags_at}

filled : (count : ℕ) → length (replicate count false) ≡ count
filled zero = refl
filled (suc c) = ap suc (filled c)

filled_to : (m count : ℕ) → m ≡ count → length (replicate m false) ≡ count
filled_to m count e = ap (λ k. length (replicate k false)) e ∙ filled count

cut_and_filled : (count m : ℕ) (xs : List Tri) → m ≡ count - length xs → length (take count (map is_one_digit xs) ++ replicate m false) ≡ count
cut_and_filled zero m [] e = filled_to m 0 (omega arith)
cut_and_filled zero m (x ∷ xs) e = filled_to m 0 (omega arith)
cut_and_filled (suc c) m [] e = filled_to m (suc c) (omega arith)
cut_and_filled (suc c) m (x ∷ xs) e = ap suc (cut_and_filled c m xs (omega arith))

flag_count : (count : ℕ) (xs : List Tri) → length (flags count xs) ≡ count
unfolding flags
flag_count count xs = cut_and_filled count (count - length xs) xs refl

pub few_flags : (params : List Attr) (name : List ℕ) (count : ℕ) → count ≤ 64 → length (flags_at params name count) ≤ 4294967295
few_flags params name count h = let e : length (flags_at params name count) ≡ count = flag_count count (bits params name) in omega arith
