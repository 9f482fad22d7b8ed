-- Where the ports stand, the lists have an entry for each port.
use Rattle.std.proofs.Common.{◌≡◌, ℕ, suc, ◌+◌, ◌^◌, ◌≤◌, ◌<◌, Bool, true, false, ◌&&◌, nat_le, List, [], ◌∷◌, length, refl, ap, arith}
use Rattle.std.proofs.lemmas.Bool.{false≢true}
use Rattle.lib_core.specs.declared.library.Variant.{Variant}
use Rattle.net_core.specs.declared.mems.Mem.{Mem}
use Rattle.geom_core.specs.declared.candidates.ReadPlace.{ReadPlace}
use Rattle.fit_rules.specs.declared.spots.Spot.{Spot}
use Rattle.fit_rules.specs.Standing.{write_stands, read_stands, have_names}
use Rattle.fit_rules.specs.Rules.{zip_all, zip_each, few_ports, is_aligned, writes_stand, writes_placed, reads_placed, ports_met}

pub and_left : (a b : Bool) → a && b ≡ true → a ≡ true
and_left true b e = refl
and_left false b e = e

pub and_right : (a b : Bool) → a && b ≡ true → b ≡ true
and_right true b e = e
and_right false b e = absurd (false≢true e)

each_same : {A B : Type 0} (test : A → B → Bool) (xs : List A) (ys : List B) → zip_each test xs ys ≡ true → length ys ≡ length xs
each_same test [] [] e = refl
each_same test [] (y ∷ ys) e = absurd (false≢true e)
each_same test (x ∷ xs) [] e = absurd (false≢true e)
each_same test (x ∷ xs) (y ∷ ys) e = ap suc (each_same test xs ys (and_right (test x y) (zip_each test xs ys) e))

all_same : {A B : Type 0} (test : ℕ → A → B → Bool) (n : ℕ) (xs : List A) (ys : List B) → zip_all test n xs ys ≡ true → length ys ≡ length xs
all_same test n [] [] e = refl
all_same test n [] (y ∷ ys) e = absurd (false≢true e)
all_same test n (x ∷ xs) [] e = absurd (false≢true e)
all_same test n (x ∷ xs) (y ∷ ys) e = ap suc (all_same test (n + 1) xs ys (and_right (test n x y) (zip_all test (n + 1) xs ys) e))

le_true : (a b : ℕ) → nat_le a b ≡ true → a ≤ b
le_true a b e = grind arith

few_reads_in : (m : Mem) → few_ports m ≡ true → length m.reads ≤ 8
few_reads_in m e = le_true (length m.reads) 8 (and_left (nat_le (length m.reads) 8) (nat_le (length m.writes) 4) e)

few_writes_in : (m : Mem) → few_ports m ≡ true → length m.writes ≤ 4
few_writes_in m e = le_true (length m.writes) 4 (and_right (nat_le (length m.reads) 8) (nat_le (length m.writes) 4) e)

groups_same : (m : Mem) (v : Variant) (s : Spot) (groups : List ℕ) → writes_placed m v s groups ≡ true → length groups ≡ length m.writes
groups_same m v s groups e = each_same (write_stands v s) m.writes groups (and_left (writes_stand m v s groups) (have_names v groups) e)

pub few_reads : (m : Mem) → few_ports m ≡ true → length m.reads < 2 ^ 32
few_reads m e = omega (arith, few_reads_in m e)

pub few_groups : (m : Mem) (v : Variant) (s : Spot) (groups : List ℕ) → few_ports m ≡ true → writes_placed m v s groups ≡ true → length groups < 2 ^ 32
few_groups m v s groups e f = omega (arith, few_writes_in m e, groups_same m v s groups f)

pub few_reads_met : (m : Mem) (v : Variant) (s : Spot) (groups : List ℕ) (places : List ReadPlace) → ports_met m v s groups places ≡ true → length m.reads ≤ 8
few_reads_met m v s groups places e = few_reads_in m (and_left (few_ports m) _ e)

pub few_writes_met : (m : Mem) (v : Variant) (s : Spot) (groups : List ℕ) (places : List ReadPlace) → ports_met m v s groups places ≡ true → length m.writes ≤ 4
few_writes_met m v s groups places e = few_writes_in m (and_left (few_ports m) _ e)

placed_met : (m : Mem) (v : Variant) (s : Spot) (groups : List ℕ) (places : List ReadPlace) → ports_met m v s groups places ≡ true → writes_placed m v s groups && reads_placed m v s groups places ≡ true
placed_met m v s groups places e =
    and_right (is_aligned m) (writes_placed m v s groups && reads_placed m v s groups places)
    (and_right (few_ports m) (is_aligned m && (writes_placed m v s groups && reads_placed m v s groups places)) e)

pub few_groups_met : (m : Mem) (v : Variant) (s : Spot) (groups : List ℕ) (places : List ReadPlace) → ports_met m v s groups places ≡ true → length groups ≤ 4
few_groups_met m v s groups places e =
    let same = groups_same m v s groups (and_left (writes_placed m v s groups) (reads_placed m v s groups places) (placed_met m v s groups places e)) in
    omega (arith, same, few_writes_met m v s groups places e)

pub few_places_met : (m : Mem) (v : Variant) (s : Spot) (groups : List ℕ) (places : List ReadPlace) → ports_met m v s groups places ≡ true → length places ≤ 8
few_places_met m v s groups places e =
    let same = all_same (read_stands v s m.writes groups) 0 m.reads places (and_right (writes_placed m v s groups) (reads_placed m v s groups places) (placed_met m v s groups places e)) in
    omega (arith, same, few_reads_met m v s groups places e)
