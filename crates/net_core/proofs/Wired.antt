-- Lists that are gathered item by item.
use Rattle.std.proofs.Common.{◌≡◌, ℕ, ◌+◌, ◌<◌, List, [], ◌∷◌, ◌++◌, length, map, drop, get_or, refl, sym, ap, ◌∙◌, append_assoc, zero, suc, set, subst, ◌⊎◌, inl, inr, ⊎_elim, Option, Some, None, Vec, Global, ◌≤◌, arith}
use Rattle.std.specs.List.{flat_map}
use Rattle.std.proofs.lemmas.List.{at_drop_more, length-map}
use Rattle.net_core.proofs.Basics.{get_left, get_below}
use Rattle.net_core.proofs.Ordering.{map_at, map_get, flat_at, flat_get, cycle_has_no_order}
use Rattle.net_core.specs.declared.bits.Bit.{Bit}
use Rattle.net_core.specs.declared.bits.Bit.TheVariants.{Zero as Low, One as High, Net}
use Rattle.net_core.specs.declared.search.LoopFault.{LoopFault}
use Rattle.net_core.specs.declared.search.LoopFault.TheVariants.{Loop}
use Rattle.net_core.specs.declared.search.LoopFault.TheVariants as faults
use Rattle.net_core.specs.Ports.{nets_of}
use Rattle.std.specs.Prelude.{◌↔◌, slice_get, unwrap_or, Result, Ok, Err, IfOk, IfErr}
use Rattle.std.proofs.lemmas.Option.{same_Some, slice_get_read}
use Rattle.std.proofs.lemmas.Bool.{cases_eq}
use Rattle.net_core.specs.declared.cells.Comb.{Comb}
use Rattle.net_core.specs.declared.cells.Reg.{Reg}
use Rattle.net_core.specs.declared.mems.Mem.{Mem}
use Rattle.net_core.specs.declared.rams.RamCell.{RamCell}
use Rattle.net_core.specs.declared.modules.Module.{Module}
use Rattle.net_core.specs.Nodes.{comb_node, reg_node, read_node, slot_node, mem_nodes, ram_nodes, nodes_of, Node, HasNet, DependsOn, IsNodeOrder, IsCycle, NetsWithin}
use Rattle.net_core.specs.declared.nodes.NodeNets.{NodeNets}
use Rattle.net_core.specs.Search.{Leads, IsClosed, IsOrder, IsRingFault}
use Rattle.net_core.specs.Wiring.{node_nets, rows, AddsDriver, TellsDrivers, drivers_of, IsCycleFault}
use Rattle.net_core.proofs.Searching.{get_last, get_pushed, get_set_same, get_set_other, get_of_set}

-- the items so far, with what the rest gives, are the whole
pub map_more : {X Y : Type 0} (f : X → Y) (xs : List X) (i : ℕ) (item : X) (done now whole : List Y) → i < length xs → item ≡ get_or xs i item → now ≡ done ++ f item ∷ [] → done ++ map f (drop i xs) ≡ whole → now ++ map f (drop (i + 1) xs) ≡ whole
map_more f xs i item done now whole within is pushed before =
    ap (λ l. l ++ map f (drop (i + 1) xs)) pushed ∙ append_assoc done (f item ∷ []) (map f (drop (i + 1) xs))
    ∙ ap (λ y. done ++ (f y ∷ map f (drop (i + 1) xs))) is ∙ ap (λ l. done ++ l) (sym (at_drop_more (map f) xs i item within)) ∙ before

pub flat_more : {X Y : Type 0} (f : X → List Y) (xs : List X) (i : ℕ) (item : X) (done now whole : List Y) → i < length xs → item ≡ get_or xs i item → now ≡ done ++ f item → done ++ flat_map f (drop i xs) ≡ whole → now ++ flat_map f (drop (i + 1) xs) ≡ whole
flat_more f xs i item done now whole within is pushed before =
    ap (λ l. l ++ flat_map f (drop (i + 1) xs)) pushed ∙ append_assoc done (f item) (flat_map f (drop (i + 1) xs))
    ∙ ap (λ y. done ++ (f y ++ flat_map f (drop (i + 1) xs))) is ∙ ap (λ l. done ++ l) (sym (at_drop_more (flat_map f) xs i item within)) ∙ before

map_map : {X Y Z : Type 0} (f : Y → Z) (g : X → Y) (xs : List X) → map f (map g xs) ≡ map (λ x. f (g x)) xs
map_map f g [] = refl
map_map f g (x ∷ xs) = ap (λ ys. f (g x) ∷ ys) (map_map f g xs)

map_append : {X Y : Type 0} (f : X → Y) (xs ys : List X) → map f (xs ++ ys) ≡ map f xs ++ map f ys
map_append f [] ys = refl
map_append f (x ∷ xs) ys = ap (λ zs. f x ∷ zs) (map_append f xs ys)

map_flat : {X Y Z : Type 0} (f : Y → Z) (g : X → List Y) (h : X → List Z) → ((x : X) → map f (g x) ≡ h x) → (xs : List X) → map f (flat_map g xs) ≡ flat_map h xs
map_flat f g h same [] = refl
map_flat f g h same (x ∷ xs) = map_append f (g x) (flat_map g xs) ∙ ap (λ zs. zs ++ map f (flat_map g xs)) (same x) ∙ ap (λ zs. h x ++ zs) (map_flat f g h same xs)

-- the nodes of a module, gathered kind by kind
pub gathered : (m : Module) (combs : List Comb) (regs : List Reg) (mems : List Mem) (rams : List RamCell) (start with_combs with_regs with_mems whole : List NodeNets) → start ≡ [] → combs ≡ m.combs → regs ≡ m.regs → mems ≡ m.mems → rams ≡ m.rams
    → with_combs ≡ start ++ map (λ c. node_nets (comb_node c)) combs → with_regs ≡ with_combs ++ map (λ r. node_nets (reg_node r)) regs
    → with_mems ≡ with_regs ++ flat_map (λ x. map (λ r. node_nets (read_node r)) x.reads) mems → whole ≡ with_mems ++ flat_map (λ c. map (λ s. node_nets (slot_node s)) c.slots) rams
    → whole ≡ map node_nets (nodes_of m)
gathered m combs regs mems rams start with_combs with_regs with_mems whole empty is_combs is_regs is_mems is_rams e1 e2 e3 e4 =
    let A = map (λ c. node_nets (comb_node c)) m.combs in
    let B = map (λ r. node_nets (reg_node r)) m.regs in
    let C = flat_map (λ x. map (λ r. node_nets (read_node r)) x.reads) m.mems in
    let D = flat_map (λ c. map (λ s. node_nets (slot_node s)) c.slots) m.rams in
    let f1 : with_combs ≡ A = e1 ∙ ap (λ l. l ++ map (λ c. node_nets (comb_node c)) combs) empty ∙ ap (map (λ c. node_nets (comb_node c))) is_combs in
    let f2 : with_regs ≡ A ++ B = e2 ∙ ap (λ l. l ++ map (λ r. node_nets (reg_node r)) regs) f1 ∙ ap (λ l. A ++ map (λ r. node_nets (reg_node r)) l) is_regs in
    let f3 : with_mems ≡ (A ++ B) ++ C = e3 ∙ ap (λ l. l ++ flat_map (λ x. map (λ r. node_nets (read_node r)) x.reads) mems) f2 ∙ ap (λ l. (A ++ B) ++ flat_map (λ x. map (λ r. node_nets (read_node r)) x.reads) l) is_mems in
    let f4 : whole ≡ ((A ++ B) ++ C) ++ D = e4 ∙ ap (λ l. l ++ flat_map (λ c. map (λ s. node_nets (slot_node s)) c.slots) rams) f3 ∙ ap (λ l. ((A ++ B) ++ C) ++ flat_map (λ c. map (λ s. node_nets (slot_node s)) c.slots) l) is_rams in
    let gC : map node_nets (flat_map mem_nodes m.mems) ≡ C = map_flat node_nets mem_nodes (λ (x : Mem). map (λ r. node_nets (read_node r)) x.reads) (λ x. map_map node_nets read_node x.reads) m.mems in
    let gD : map node_nets (flat_map ram_nodes m.rams) ≡ D = map_flat node_nets ram_nodes (λ (c : RamCell). map (λ s. node_nets (slot_node s)) c.slots) (λ c. map_map node_nets slot_node c.slots) m.rams in
    let right : map node_nets (nodes_of m) ≡ A ++ (B ++ (C ++ D)) =
    map_append node_nets (map comb_node m.combs) (map reg_node m.regs ++ (flat_map mem_nodes m.mems ++ flat_map ram_nodes m.rams))
    ∙ ap (λ l. l ++ map node_nets (map reg_node m.regs ++ (flat_map mem_nodes m.mems ++ flat_map ram_nodes m.rams))) (map_map node_nets comb_node m.combs)
    ∙ ap (λ l. A ++ l) (map_append node_nets (map reg_node m.regs) (flat_map mem_nodes m.mems ++ flat_map ram_nodes m.rams)
    ∙ ap (λ l. l ++ map node_nets (flat_map mem_nodes m.mems ++ flat_map ram_nodes m.rams)) (map_map node_nets reg_node m.regs)
    ∙ ap (λ l. B ++ l) (map_append node_nets (flat_map mem_nodes m.mems) (flat_map ram_nodes m.rams) ∙ ap (λ l. l ++ map node_nets (flat_map ram_nodes m.rams)) gC ∙ ap (λ l. C ++ l) gD)) in
    f4 ∙ append_assoc (A ++ B) C D ∙ append_assoc A B (C ++ D) ∙ sym right

-- ---- the table of drivers
map_set : {X Y : Type 0} (f : X → Y) (xs : List X) (i : ℕ) (x : X) → map f (set xs i x) ≡ set (map f xs) i (f x)
map_set f [] i x = refl
map_set f (a ∷ xs) zero x = refl
map_set f (a ∷ xs) (suc i) x = ap (λ ys. f a ∷ ys) (map_set f xs i x)

-- one entry more in a row
pub entry_more : (table : List (List ℕ)) (n0 node : ℕ) (row : List ℕ) → slice_get table n0 ≡ Some row → (n j : ℕ) → Leads (set table n0 (row ++ node ∷ [])) n j ↔ (Leads table n j ⊎ ((j ≡ node) × (n ≡ n0)))
entry_more table n0 node row at n j = (forth, back)
  where
    within : n0 < length table
    within = get_below table n0 row at

    forth : Leads (set table n0 (row ++ node ∷ [])) n j → Leads table n j ⊎ ((j ≡ node) × (n ≡ n0))
    forth h = ⊎_elim
        (λ e. let entry : slice_get (row ++ node ∷ []) h.1 ≡ Some j = ap (λ r. slice_get r h.1) e.1 ∙ h.3 in
        ⊎_elim (λ g. inl (row, h.1, ap (slice_get table) e.0 ∙ at, g)) (λ g. inr (sym g.1, e.0)) (get_pushed row node j h.1 entry))
        (λ e. inl (h.0, h.1, e.1, h.3)) (get_of_set table n0 n (row ++ node ∷ []) h.0 within h.2)

    back : Leads table n j ⊎ ((j ≡ node) × (n ≡ n0)) → Leads (set table n0 (row ++ node ∷ [])) n j
    back h = ⊎_elim
        (λ g. ⊎_elim
        (λ e. let same : g.0 ≡ row = same_Some g.0 row (sym g.2 ∙ ap (slice_get table) e ∙ at) in
        (row ++ node ∷ [], g.1, ap (slice_get (set table n0 (row ++ node ∷ []))) e ∙ get_set_same table n0 (row ++ node ∷ []) within, get_left row (node ∷ []) g.1 j (ap (λ r. slice_get r g.1) (sym same) ∙ g.3)))
        (λ e. (g.0, g.1, get_set_other table n0 n (row ++ node ∷ []) e ∙ g.2, g.3)) (cases_eq n n0))
        (λ g. (row ++ node ∷ [], length row, ap (slice_get (set table n0 (row ++ node ∷ []))) g.1 ∙ get_set_same table n0 (row ++ node ∷ []) within, get_last row node ∙ ap Some (sym g.0))) h

-- one net more of a node
pub driver_more : (old table now : List (List ℕ)) (nets : List ℕ) (node i net : ℕ) (row : List ℕ) → slice_get table net ≡ Some row → now ≡ set table net (row ++ node ∷ []) → slice_get nets i ≡ Some net
    → AddsDriver old table node (λ n. (k : ℕ) × (k < i) × (slice_get nets k ≡ Some n)) → AddsDriver old now node (λ n. (k : ℕ) × (k < i + 1) × (slice_get nets k ≡ Some n))
driver_more old table now nets node i net row at is_now is_net before n j = (forth, back)
  where
    entries : Leads (set table net (row ++ node ∷ [])) n j ↔ (Leads table n j ⊎ ((j ≡ node) × (n ≡ net)))
    entries = entry_more table net node row at n j

    forth : Leads now n j → Leads old n j ⊎ ((j ≡ node) × ((k : ℕ) × (k < i + 1) × (slice_get nets k ≡ Some n)))
    forth h = ⊎_elim
        (λ g. ⊎_elim (λ o. inl o) (λ a. inr (a.0, (a.1.0, omega (arith, a.1.1), a.1.2))) ((before n j).0 g))
        (λ g. inr (g.0, (i, omega arith, is_net ∙ ap Some (sym g.1)))) (entries.0 (subst (λ t. Leads t n j) is_now h))

    later : (k : ℕ) → k < i + 1 → slice_get nets k ≡ Some n → (k < i) ⊎ (n ≡ net)
    later k h g = ⊎_elim (λ e. inr (same_Some n net (sym g ∙ ap (slice_get nets) e ∙ is_net))) (λ e. inl (omega (arith, h, e))) (cases_eq k i)

    back : Leads old n j ⊎ ((j ≡ node) × ((k : ℕ) × (k < i + 1) × (slice_get nets k ≡ Some n))) → Leads now n j
    back h = subst (λ t. Leads t n j) (sym is_now) (⊎_elim
        (λ o. entries.1 (inl ((before n j).1 (inl o))))
        (λ a. ⊎_elim (λ low. entries.1 (inl ((before n j).1 (inr (a.0, (a.1.0, low, a.1.2)))))) (λ same. entries.1 (inr (a.0, same))) (later a.1.0 a.1.1 a.1.2)) h)

-- one write to the table
pub table_step : (old : List (List ℕ)) (table : List (Vec ℕ Global)) (row now : Vec ℕ Global) (nets : List ℕ) (node i net : ℕ) → net < length table → row ≡ get_or table net row → now.items ≡ row.items ++ node ∷ [] → slice_get nets i ≡ Some net
    → AddsDriver old (rows table) node (λ n. (k : ℕ) × (k < i) × (slice_get nets k ≡ Some n)) → AddsDriver old (rows (set table net now)) node (λ n. (k : ℕ) × (k < i + 1) × (slice_get nets k ≡ Some n))
table_step old table row now nets node i net within is_row pushed is_net before =
    let Items : Vec ℕ Global → List ℕ = λ r. r.items in
    let at : slice_get (rows table) net ≡ Some row.items = map_get Items table net row (slice_get_read table (length table) net row refl within is_row) in
    let is_now : rows (set table net now) ≡ set (rows table) net (row.items ++ node ∷ []) = map_set Items table net now ∙ ap (set (rows table) net) pushed in
    driver_more old (rows table) (rows (set table net now)) nets node i net row.items at is_now is_net before

pub driver_all : (old now : List (List ℕ)) (nets : List ℕ) (node i : ℕ) → length nets ≤ i → AddsDriver old now node (λ n. (k : ℕ) × (k < i) × (slice_get nets k ≡ Some n)) → AddsDriver old now node (λ n. (k : ℕ) × (slice_get nets k ≡ Some n))
driver_all old now nets node i past h n j = (
  λ leads. ⊎_elim (λ o. inl o) (λ a. inr (a.0, (a.1.0, a.1.2))) ((h n j).0 leads),
  λ g. (h n j).1 (⊎_elim (λ o. inl o) (λ a. let low = get_below nets a.1.0 n a.1.1 in inr (a.0, (a.1.0, omega (arith, low, past), a.1.1))) g),
)

pub driver_none : (old : List (List ℕ)) (nets : List ℕ) (node : ℕ) → AddsDriver old old node (λ n. (k : ℕ) × (k < 0) × (slice_get nets k ≡ Some n))
driver_none old nets node n j = (λ leads. inl leads, λ g. ⊎_elim (λ o. o) (λ a. absurd (omega (arith, a.1.1))) g)

-- the nodes that drive a net, of the first so many
abbrev pub DrivesIt : List NodeNets → ℕ → ℕ → Type 0
DrivesIt nodes n j = (p : NodeNets) × (k : ℕ) × (slice_get nodes j ≡ Some p) × (slice_get p.drives k ≡ Some n)

abbrev pub TellsFirst : List NodeNets → List (List ℕ) → ℕ → Type 0
TellsFirst nodes table count = (n j : ℕ) → Leads table n j ↔ ((j < count) × DrivesIt nodes n j)

pub tells_none : (nodes : List NodeNets) (table : List (List ℕ)) → ((n j : ℕ) → Leads table n j → ⊥) → TellsFirst nodes table 0
tells_none nodes table none n j = (λ h. absurd (none n j h), λ h. absurd (omega (arith, h.0)))

pub tells_more : (nodes : List NodeNets) (old now : List (List ℕ)) (i node : ℕ) (p : NodeNets) (nets : List ℕ) → node ≡ i → slice_get nodes i ≡ Some p → nets ≡ p.drives → AddsDriver old now node (λ n. (k : ℕ) × (slice_get nets k ≡ Some n)) → TellsFirst nodes old i → TellsFirst nodes now (i + 1)
tells_more nodes old now i node p nets same at is_nets adds before n j = (forth, back)
  where
    forth : Leads now n j → (j < i + 1) × DrivesIt nodes n j
    forth h = ⊎_elim (λ o. let b = (before n j).0 o in (omega (arith, b.0), b.1))
        (λ a. (omega (arith, a.0, same), (p, a.1.0, ap (slice_get nodes) (a.0 ∙ same) ∙ at, ap (λ l. slice_get l a.1.0) (sym is_nets) ∙ a.1.1))) ((adds n j).0 h)

    back : (j < i + 1) × DrivesIt nodes n j → Leads now n j
    back h = ⊎_elim
        (λ e. let q : h.1.0 ≡ p = same_Some h.1.0 p (sym h.1.2 ∙ ap (slice_get nodes) e ∙ at) in
        (adds n j).1 (inr (e ∙ sym same, (h.1.1, ap (λ l. slice_get l h.1.1) is_nets ∙ ap (λ (x : NodeNets). slice_get x.drives h.1.1) (sym q) ∙ h.1.3))))
        (λ e. (adds n j).1 (inl ((before n j).1 (omega (arith, h.0, e), h.1)))) (cases_eq j i)

pub tells_all : (nodes : List NodeNets) (table : List (List ℕ)) (count : ℕ) → length nodes ≤ count → TellsFirst nodes table count → TellsDrivers nodes table
tells_all nodes table count past h n j = (λ leads. ((h n j).0 leads).1, λ d. let low = get_below nodes j d.0 d.2 in (h n j).1 (omega (arith, low, past), d))

-- the row of a net
pub row_of_net : (table : List (Vec ℕ Global)) (row : Vec ℕ Global) (net : ℕ) → net < length table → row ≡ get_or table net row → unwrap_or (slice_get (rows table) net) [] ≡ row.items
row_of_net table row net within is_row =
    let Items : Vec ℕ Global → List ℕ = λ r. r.items in
    ap (λ r. unwrap_or r []) (map_get Items table net row (slice_get_read table (length table) net row refl within is_row))

-- a net among bits, by its place among their nets
nets_has : (bits : List Bit) (a n : ℕ) → slice_get (nets_of bits) a ≡ Some n → HasNet bits n
nets_has [] a n h = absurd (cc)
nets_has (Low ∷ bs) a n h = let g = nets_has bs a n h in (suc g.0, g.1)
nets_has (High ∷ bs) a n h = let g = nets_has bs a n h in (suc g.0, g.1)
nets_has (Net m ∷ bs) zero n h = (zero, ap (λ x. Some (Net x)) (same_Some m n h))
nets_has (Net m ∷ bs) (suc a) n h = let g = nets_has bs a n h in (suc g.0, g.1)

net_inner : (m n : ℕ) → Some (Net m) ≡ Some (Net n) → m ≡ n
net_inner m n h = cc

has_nets_at : (bits : List Bit) (k n : ℕ) → slice_get bits k ≡ Some (Net n) → (a : ℕ) × (slice_get (nets_of bits) a ≡ Some n)
has_nets_at [] k n h = absurd (cc)
has_nets_at (Low ∷ bs) zero n h = absurd (cc)
has_nets_at (High ∷ bs) zero n h = absurd (cc)
has_nets_at (Net m ∷ bs) zero n h = (zero, ap Some (net_inner m n h))
has_nets_at (Low ∷ bs) (suc k) n h = has_nets_at bs k n h
has_nets_at (High ∷ bs) (suc k) n h = has_nets_at bs k n h
has_nets_at (Net m ∷ bs) (suc k) n h = let g = has_nets_at bs k n h in (suc g.0, g.1)

has_nets : (bits : List Bit) (n : ℕ) → HasNet bits n → (a : ℕ) × (slice_get (nets_of bits) a ≡ Some n)
has_nets bits n h = has_nets_at bits h.0 n h.1

-- what the nodes drive and need is within the module
pub drives_within : (m : Module) (nodes : List NodeNets) → nodes ≡ map node_nets (nodes_of m) → NetsWithin m → (j k n : ℕ) (p : NodeNets) → slice_get nodes j ≡ Some p → slice_get p.drives k ≡ Some n → n < m.nets
drives_within m nodes is_nodes within j k n p at h =
    let q = map_at node_nets (nodes_of m) j p (ap (λ l. slice_get l j) (sym is_nodes) ∙ at) in
    within.drives j q.0 q.1 n (k, ap (λ (x : NodeNets). slice_get x.drives k) q.2 ∙ h)

pub needs_within : (m : Module) (nodes : List NodeNets) (count : ℕ) → nodes ≡ map node_nets (nodes_of m) → NetsWithin m → count ≡ m.nets → (j k n : ℕ) (p : NodeNets) → slice_get nodes j ≡ Some p → slice_get p.needs k ≡ Some n → n < count
needs_within m nodes count is_nodes within is_count j k n p at h =
    let q = map_at node_nets (nodes_of m) j p (ap (λ l. slice_get l j) (sym is_nodes) ∙ at) in
    let low = within.needs j q.0 q.1 n (nets_has q.0.needs k n (ap (λ (x : NodeNets). slice_get x.needs k) q.2 ∙ h)) in
    omega (arith, low, is_count)

pub nodes_few : (m : Module) (nodes : List NodeNets) (most : ℕ) → nodes ≡ map node_nets (nodes_of m) → length (nodes_of m) < most → length nodes < most
nodes_few m nodes most is_nodes h = let e : length nodes ≡ length (nodes_of m) = ap length is_nodes ∙ length-map (nodes_of m) node_nets in omega (arith, e, h)

-- ---- the graph is that of the nodes
module _ (N : List Node) (nodes : List NodeNets) (table graph : List (List ℕ)) (is_nodes : nodes ≡ map node_nets N) (tells : TellsDrivers nodes table) (is_graph : graph ≡ map (λ p. drivers_of table p.needs) nodes) where
  node_at : (i : ℕ) (p : NodeNets) → slice_get nodes i ≡ Some p → (q : Node) × (slice_get N i ≡ Some q) × (node_nets q ≡ p)
  node_at i p h = map_at node_nets N i p (ap (λ l. slice_get l i) (sym is_nodes) ∙ h)

  node_get : (i : ℕ) (q : Node) → slice_get N i ≡ Some q → slice_get nodes i ≡ Some (node_nets q)
  node_get i q h = ap (λ l. slice_get l i) is_nodes ∙ map_get node_nets N i q h

  row_leads : (n b j : ℕ) (r : Option (List ℕ)) → slice_get table n ≡ r → slice_get (unwrap_or r []) b ≡ Some j → Leads table n j
  row_leads n b j None e h = absurd (cc)
  row_leads n b j (Some row) e h = (row, b, e, h)

  pub leads_depends : (i j : ℕ) → Leads graph i j → DependsOn N i j
  leads_depends i j h =
      let Row : NodeNets → List ℕ = λ p. drivers_of table p.needs in
      let here = map_at Row nodes i h.0 (ap (λ l. slice_get l i) (sym is_graph) ∙ h.2) in
      let q = node_at i here.0 here.1 in
      let entry : slice_get (drivers_of table here.0.needs) h.1 ≡ Some j = ap (λ r. slice_get r h.1) here.2 ∙ h.3 in
      let found = flat_at (λ n. unwrap_or (slice_get table n) []) here.0.needs h.1 j entry in
      let drives = (tells found.1 j).0 (row_leads found.1 found.2 j (slice_get table found.1) refl found.4) in
      let w = node_at j drives.0 drives.2 in
      record {
        reader = q.0;
        writer = w.0;
        net = found.1;
        reads = q.1;
        writes = w.1;
        needed = nets_has q.0.needs found.0 found.1 (ap (λ (x : NodeNets). slice_get x.needs found.0) q.2 ∙ found.3);
        driven = (drives.1, ap (λ (x : NodeNets). slice_get x.drives drives.1) w.2 ∙ drives.3);
      }

  pub depends_leads : (i j : ℕ) → DependsOn N i j → Leads graph i j
  depends_leads i j d =
      let Row : NodeNets → List ℕ = λ p. drivers_of table p.needs in
      let leads = (tells d.net j).1 (node_nets d.writer, d.driven.0, node_get j d.writer d.writes, d.driven.1) in
      let place = has_nets d.reader.needs d.net d.needed in
      let entry = flat_get (λ n. unwrap_or (slice_get table n) []) (nets_of d.reader.needs) place.0 d.net leads.1 j place.1 (ap (λ r. slice_get (unwrap_or r []) leads.1) leads.2 ∙ leads.3) in
      (drivers_of table (nets_of d.reader.needs), entry.0, ap (λ l. slice_get l i) is_graph ∙ map_get Row nodes i (node_nets d.reader) (node_get i d.reader d.reads), entry.1)

  same_length : length graph ≡ length N
  same_length = ap length is_graph ∙ length-map nodes (λ (p : NodeNets). drivers_of table p.needs) ∙ ap length is_nodes ∙ length-map N node_nets

  pub graph_closed : IsClosed graph
  graph_closed i j h = let d = leads_depends i j h in let low = get_below N j d.writer d.writes in omega (arith, low, same_length)

  pub graph_few : (most : ℕ) → length N < most → length graph < most
  graph_few most h = omega (arith, h, same_length)

  pub order_nodes : (order : List ℕ) → IsOrder graph order → IsNodeOrder N order
  order_nodes order o = record {
    within = λ a i h. let low = o.within a i h in omega (arith, low, same_length);
    every = λ i h. o.every i (omega (arith, h, same_length));
    once = o.once;
    after = λ a b i j h g d. o.after a b i j h g (depends_leads i j d);
  }

  pub ring_nodes : (fault : LoopFault) → IsRingFault graph fault → IsCycleFault N fault
  ring_nodes (Loop ring) r =
      let cycle : IsCycle N ring = record {
        some = r.some;
        next = λ a i j h g. leads_depends i j (r.next a i j h g);
        round = λ a i j last h g. leads_depends i j (r.round a i j last h g);
      } in
      (cycle, λ order o. cycle_has_no_order N ring order cycle o)
  ring_nodes faults.Memory r = tt

-- one empty row more
pub none_pushed : (table now : List (Vec ℕ Global)) (row : Vec ℕ Global) → now ≡ table ++ row ∷ [] → row.items ≡ [] → ((n j : ℕ) → Leads (rows table) n j → ⊥) → (n j : ℕ) → Leads (rows now) n j → ⊥
none_pushed table now row is_now empty none n j h =
    let Items : Vec ℕ Global → List ℕ = λ r. r.items in
    let at : slice_get (rows table ++ row.items ∷ []) n ≡ Some h.0 = ap (λ l. slice_get l n) (sym (ap rows is_now ∙ map_append Items table (row ∷ []))) ∙ h.2 in
    ⊎_elim (λ g. none n j (h.0, h.1, g, h.3)) (λ g. let entry : slice_get [] h.1 ≡ Some j = ap (λ l. slice_get l h.1) (sym empty ∙ g.1) ∙ h.3 in cc) (get_pushed (rows table) row.items h.0 n at)

pub if_ok : (r : Result (List ℕ) LoopFault) (P Q : List ℕ → Type 0) → ((x : List ℕ) → P x → Q x) → IfOk r P → IfOk r Q
if_ok (Ok x) P Q f h = f x h
if_ok (Err e) P Q f h = tt

pub if_err : (r : Result (List ℕ) LoopFault) (P Q : LoopFault → Type 0) → ((e : LoopFault) → P e → Q e) → IfErr r P → IfErr r Q
if_err (Ok x) P Q f h = tt
if_err (Err e) P Q f h = f e h
