-- Limits of the ports of a memory that fits.
use Rattle.std.proofs.Common.{◌≡◌, ℕ, zero, suc, ◌^◌, ◌<◌, ◌≤◌, List, [], ◌∷◌, length, Some, ap, ⊎_elim, arith}
use Rattle.std.specs.Prelude.{slice_get}
use Rattle.std.specs.List.{sum_by}
use Rattle.std.proofs.Math.Pow.{pow_mono}
use Rattle.std.proofs.lemmas.Bool.{cases_lt}
use Rattle.std.proofs.lemmas.List.Sums.{sum_by-cons}
use Rattle.std.proofs.lemmas.Option.{same_Some}
use Rattle.net_core.specs.declared.mems.Mem.{Mem}
use Rattle.net_core.specs.declared.mems.RdPort.{RdPort}
use Rattle.net_core.specs.declared.mems.WrPort.{WrPort}
use Rattle.net_core.specs.Valid.{MemFits}
use Rattle.sim_cells.proofs.Products.{group_bits}

sum_at : {X : Type 0} (f : X → ℕ) (xs : List X) (j : ℕ) (x : X) → slice_get xs j ≡ Some x → f x ≤ sum_by f xs
sum_at f [] j x h = cc
sum_at f (y ∷ ys) zero x h =
    let e = sum_by-cons f y ys in
    let same : f y ≡ f x = ap f (same_Some y x h) in
    omega (arith, e, same)
sum_at f (y ∷ ys) (suc j) x h =
    let e = sum_by-cons f y ys in
    let rest = sum_at f ys j x h in
    omega (arith, e, rest)

count_sum : {X : Type 0} (f : X → ℕ) (xs : List X) → ((x : X) → 1 ≤ f x) → length xs ≤ sum_by f xs
count_sum f [] h = omega arith
count_sum f (y ∷ ys) h =
    let e = sum_by-cons f y ys in
    let one = h y in
    let rest = count_sum f ys h in
    omega (arith, e, one, rest)

small_power : (n : ℕ) → 2 ^ n ≤ 64 → n ≤ 6
small_power n h =
    ⊎_elim
    (λ (more : 6 < n). let p : 2 ^ 7 ≤ 2 ^ n = pow_mono {i = 7} {j = n} (omega (arith, more)) in absurd (omega (arith, p, h)))
    (λ less. less)
    (cases_lt 6 n)

some_power : (n : ℕ) → 1 ≤ 2 ^ n
some_power n = pow_mono {i = 0} {j = n} (omega arith)

pub write_addr : (x : Mem) → MemFits x → (j : ℕ) (w : WrPort) → slice_get x.writes j ≡ Some w → length w.addr ≤ 32
write_addr x fits j w h =
    let e = (fits.writes j w h).addr.0 in
    let l = fits.sizes.abits in
    omega (arith, e, l)

pub write_wide : (x : Mem) → MemFits x → (j : ℕ) (w : WrPort) → slice_get x.writes j ≡ Some w → w.wide ≤ 6
write_wide x fits j w h =
    let s = sum_at (λ (p : WrPort). 2 ^ p.wide) x.writes j w h in
    let l = fits.write_words in
    small_power w.wide (omega (arith, s, l))

pub few_writes : (x : Mem) → MemFits x → length x.writes ≤ 64
few_writes x fits =
    let s = count_sum (λ (p : WrPort). 2 ^ p.wide) x.writes (λ p. some_power p.wide) in
    let l = fits.write_words in
    omega (arith, s, l)

pub read_addr : (x : Mem) → MemFits x → (j : ℕ) (r : RdPort) → slice_get x.reads j ≡ Some r → length r.addr ≤ 32
read_addr x fits j r h =
    let e = (fits.reads j r h).addr.0 in
    let l = fits.sizes.abits in
    omega (arith, e, l)

pub read_out : (x : Mem) → MemFits x → (j : ℕ) (r : RdPort) → slice_get x.reads j ≡ Some r → length r.out ≤ 2 ^ 22
read_out x fits j r h =
    let s = sum_at (λ (p : RdPort). 2 ^ p.wide) x.reads j r h in
    let l = fits.read_words in
    let e = (fits.reads j r h).out in
    let g = group_bits x.width r.wide fits.sizes.width.1 (small_power r.wide (omega (arith, s, l))) in
    omega (arith, e, g)

pub few_reads : (x : Mem) → MemFits x → length x.reads ≤ 64
few_reads x fits =
    let s = count_sum (λ (p : RdPort). 2 ^ p.wide) x.reads (λ p. some_power p.wide) in
    let l = fits.read_words in
    omega (arith, s, l)

pub write_lanes : (x : Mem) → MemFits x → (j : ℕ) (w : WrPort) → slice_get x.writes j ≡ Some w → length w.en ≤ 2 ^ 22
write_lanes x fits j w h =
    let e = (fits.writes j w h).en in
    let g = group_bits x.width w.wide fits.sizes.width.1 (write_wide x fits j w h) in
    omega (arith, e, g)
