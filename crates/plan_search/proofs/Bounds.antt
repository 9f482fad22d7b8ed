-- Bounds on cells and points at a site.
use Rattle.std.proofs.Common.{◌≡◌, ℕ, ◌+◌, ◌*◌, ◌≤◌, List, [], refl, sym, ap, ◌∙◌, arith}
use Rattle.std.proofs.Math.Nat.{mul_assoc}
use Rattle.std.proofs.lemmas.Nat.{mul-le}
use Rattle.lib_core.specs.declared.library.Variant.{Variant}
use Rattle.net_core.specs.declared.mems.Mem.{Mem}
use Rattle.net_core.specs.declared.mems.MemJob.{MemJob}
use Rattle.geom_core.specs.declared.candidates.ReadPlace.{ReadPlace}
use Rattle.fit_rules.specs.declared.spots.Spot.{Spot}
use Rattle.fit_rules.specs.Rules.{read_first}
use Rattle.fit_rules.specs.Shape.{copies, rows, columns, cells}
use Rattle.fit_cost.specs.Points.{ram_points, cell_points, around_points, fixed_points}

one_times : (n : ℕ) → 1 * n ≡ n
one_times n = omega arith

pub copied_few : (copies cells : ℕ) → copies ≤ 8 → cells ≤ 100663296 → copies * cells ≤ 805306368
copied_few copies cells h k = mul-le copies cells 8 100663296 h k

-- the cells of all copies are those of one, as often
pub copied_cells : (m : Mem) (v : Variant) (s : Spot) (groups : List ℕ) (places : List ReadPlace) (one : ℕ) → one ≡ cells m v s [] [] → copies v groups places * one ≡ cells m v s groups places
copied_cells m v s groups places one e =
    ap (λ n. copies v groups places * n) (e ∙ ap (λ n. n * columns m v s) (one_times (rows m v s))) ∙ sym (mul_assoc (copies v groups places) (rows m v s) (columns m v s))

pub cell_points_few : (cost cells : ℕ) → cost ≤ 1048576 → cells ≤ 805306368 → 16 * cost * cells ≤ 13510798882111488
cell_points_few cost cells h k = mul-le (16 * cost) cells 16777216 805306368 (omega (arith, h)) k

pub points_joined : (job : MemJob) (v : Variant) (s : Spot) (groups : List ℕ) (places : List ReadPlace) → ram_points job v s groups places ≡ cell_points job.mem v s groups places + around_points job v groups places (read_first job v groups places) + fixed_points job.mem v s groups
unfolding ram_points
points_joined job v s groups places = refl
