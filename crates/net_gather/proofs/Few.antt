-- How many places there are, and where the bits of connects stand.
use Rattle.std.proofs.Common.{◌≡◌, ℕ, ◌+◌, ◌≤◌, Bool, true, false, cond, nat_lt, List, [], ◌∷◌, ◌++◌, refl, arith}
use Rattle.std.proofs.lemmas.Bool.Decides.{nat_tests}
use Rattle.rtlil_text.specs.declared.doc.DocCell.{DocCell}
use Rattle.rtlil_text.specs.declared.doc.Item.{Item}
use Rattle.rtlil_text.specs.declared.doc.Item.TheVariants as item
use Rattle.net_core.specs.declared.mems.Attr.{Attr}
use Rattle.doc_params.specs.Docs.{params_of}
use Rattle.net_wires.specs.declared.breach.Breach.{Breach}
use Rattle.net_wires.specs.declared.source.Pair.{Pair}
use Rattle.net_wires.specs.Connects.{connect_pairs}
use Rattle.net_wires.specs.Links.{PairsWithin}
use Rattle.net_wires.specs.Parts.{signal_bits}
use Rattle.net_wires.specs.Spans.{Entry, There, wire_bits}
use Rattle.net_wires.proofs.Reach.{pair_in, signal_in}
use Rattle.net_gather.specs.declared.counts.Counts.{Counts}
use Rattle.raw_cells.specs.declared.row.Found.{Found}
use Rattle.raw_cells.specs.declared.row.Found.TheVariants as found_as
use Rattle.net_gather.specs.Cells.{Context, found_faults, found_gain, kind_in, row_faults, row_gain, row_pins}
use Rattle.net_gather.specs.Faults.{at, limit_breach, limit_breaches}
use Rattle.net_gather.specs.Gather.{cell_faults, counted, counts_before, counts_of, faults_of, gathered, item_breaches, item_gain, pairs_of}
use Rattle.net_gather.specs.OpenPins.{open_count}
use Rattle.raw_cells.specs.Rows.{found_row}
use Rattle.net_gather.specs.Sizes.{size_breaches, size_faults}
use Rattle.net_gather.proofs.Fitting.{at_none, front_none, rest_none}

not_over : (t : Bool) (b : Breach) → cond t (b ∷ []) [] ≡ [] → t ≡ false
not_over true b e = absurd cc
not_over false b e = refl

pub limit_kept : (limit found : ℕ) → limit_breaches limit found ≡ [] → found ≤ limit
unfolding limit_breaches
limit_kept limit found e = let t : nat_lt limit found ≡ false = not_over (nat_lt limit found) (limit_breach limit) e in grind (arith, t, nat_tests)

-- ---- wires

wires_few : (i bits : ℕ) (is : List Item) → size_faults i bits is ≡ [] → bits ≤ 4194304 → bits + wire_bits is ≤ 4194304
wires_few i bits [] e h = omega (arith, h)
wires_few i bits (item.Wire w ∷ is) e h =
    let here : bits + w.width ≤ 4194304 = limit_kept 4194304 (bits + w.width) (at_none i _ (front_none _ (size_faults (i + 1) (bits + w.width) is) e)) in
    omega (arith, wires_few (i + 1) (bits + w.width) is (rest_none (at i (size_breaches bits (item.Wire w))) (size_faults (i + 1) (bits + w.width) is) e) here)
wires_few i bits (item.Param p ∷ is) e h = omega (arith, wires_few (i + 1) (bits + 0) is e (omega (arith, h)))
wires_few i bits (item.Mem m ∷ is) e h = omega (arith, wires_few (i + 1) (bits + 0) is (rest_none (at i (size_breaches bits (item.Mem m))) (size_faults (i + 1) (bits + 0) is) e) (omega (arith, h)))
wires_few i bits (item.Cell c ∷ is) e h = omega (arith, wires_few (i + 1) (bits + 0) is e (omega (arith, h)))
wires_few i bits (item.Connect l r ∷ is) e h = omega (arith, wires_few (i + 1) (bits + 0) is e (omega (arith, h)))

-- ---- cells

found_few : (x : Context) (st : Counts) (c : DocCell) (params : List Attr) (f : Found) → found_faults x st c params f ≡ [] → st.places ≤ 4194304 → (counted st (found_gain x st c params f)).places ≤ 4194304
unfolding row_gain row_faults
found_few x st c params found_as.Unknown e h = h
found_few x st c params found_as.Missing e h = h
found_few x st c params (found_as.Row r) e h = limit_kept 4194304 (st.places + open_count (row_pins x c r)) (front_none _ _ (rest_none _ _ e))

item_few : (x : Context) (st : Counts) (i : Item) → item_breaches x st i ≡ [] → st.places ≤ 4194304 → (counted st (item_gain x st i)).places ≤ 4194304
item_few x st (item.Wire w) e h = h
item_few x st (item.Param p) e h = h
item_few x st (item.Mem m) e h = h
item_few x st (item.Cell c) e h = found_few x st c (params_of c.lines) (found_row x.library (kind_in x c.kind) (params_of c.lines)) e h
item_few x st (item.Connect l r) e h = h

cells_few : (x : Context) (k : ℕ) (st : Counts) (is : List Item) → cell_faults x k st is ≡ [] → st.places ≤ 4194304 → (counts_of x st is).places ≤ 4194304
cells_few x k st [] e h = h
cells_few x k st (i ∷ is) e h =
    let next = counted st (item_gain x st i) in
    cells_few x (k + 1) next is (rest_none (at k (item_breaches x st i)) (cell_faults x (k + 1) next is) e)
    (item_few x st i (at_none k (item_breaches x st i) (front_none (at k (item_breaches x st i)) (cell_faults x (k + 1) next is) e)) h)

pub places_few : (x : Context) (is : List Item) → faults_of x is ≡ [] → (gathered x is).places ≤ 4194304
places_few x is e =
    let wires : wire_bits is ≤ 4194304 = omega (arith, wires_few 0 0 is (front_none _ _ e) (omega arith)) in
    cells_few x 0 (counts_before is) is (front_none _ _ (rest_none (size_faults 0 0 is) _ e)) wires

-- ---- connects

pub both : (n : ℕ) (ps qs : List Pair) → PairsWithin n ps → PairsWithin n qs → PairsWithin n (ps ++ qs)
both n [] qs a b = b
both n (p ∷ ps) qs a b = (a.0, (a.1.0, both n ps qs a.1.1 b))

pub pairs_within : (n : ℕ) (names : List Entry) (is : List Item) → There n names → PairsWithin n (pairs_of names is)
pairs_within n names [] t = tt
pairs_within n names (item.Wire w ∷ is) t = pairs_within n names is t
pairs_within n names (item.Param p ∷ is) t = pairs_within n names is t
pairs_within n names (item.Mem m ∷ is) t = pairs_within n names is t
pairs_within n names (item.Cell c ∷ is) t = pairs_within n names is t
pairs_within n names (item.Connect l r ∷ is) t = both n (connect_pairs names l r) (pairs_of names is) (pair_in n (signal_bits names l) (signal_bits names r) (signal_in n names l t) (signal_in n names r t)) (pairs_within n names is t)
