-- The graph of the nodes of a list, and a module that has these nodes.
use Rattle.std.proofs.Common.{◌≡◌, ℕ, zero, suc, ◌<◌, ⊎_elim, List, [], ◌∷◌, ◌++◌, length, map, Option, Some, None, false, refl, sym, ap, ◌∙◌, subst, arith}
use Rattle.std.specs.Prelude.{slice_get, Result, Ok, Err, IfOk}
use Rattle.std.proofs.lemmas.Option.{same_Some}
use Rattle.std.proofs.lemmas.Bool.{cases_eq}
use Rattle.std.proofs.lemmas.List.{length-map}
use Rattle.net_core.proofs.Basics.{get_below, get_within}
use Rattle.net_core.proofs.Ordering.{map_at, map_get, ranks_order, order_ranks, all_rise, ordered_by, cycle_has_no_order}
use Rattle.net_core.proofs.Wired.{leads_depends, depends_leads}
use Rattle.net_core.specs.declared.bits.Bit.{Bit}
use Rattle.net_core.specs.declared.bits.Bit.TheVariants.{Zero as Low, One as High, Net}
use Rattle.net_core.specs.declared.cells.Comb.{Comb}
use Rattle.net_core.specs.declared.cells.CombKind.TheVariants.{Not}
use Rattle.net_core.specs.declared.modules.Module.{Module}
use Rattle.net_core.specs.declared.nodes.NodeNets.{NodeNets}
use Rattle.net_core.specs.Nodes.{Node, comb_node, nodes_of, HasNet, IsCycle, Ordered, NetsWithin}
use Rattle.net_core.specs.Ports.{nets_of}
use Rattle.net_core.specs.Search.{Leads, IsClosed}
use Rattle.net_core.specs.Wiring.{node_nets, TellsDrivers, drivers_of}
use Rattle.net_loops.specs.declared.nodes.NetNode.{NetNode}
use Rattle.net_loops.specs.Graphs.{drives_in, row_of, rows_in, AreTurned, IsOnRing, IsFirstRing, IsRingAnswer, IsGraphOf}
use Rattle.net_loops.specs.Loops.{node_of, nodes_in, NetsBelow, HaveOrder, HaveRanks, IsOnLoop, IsFirstLoop, IsLoopAnswer}

-- ---- nets within
nets_has : (bits : List Bit) (a n : ℕ) → slice_get (nets_of bits) a ≡ Some n → HasNet bits n
nets_has [] a n h = absurd (cc)
nets_has (Low ∷ bs) a n h = let g = nets_has bs a n h in (suc g.0, g.1)
nets_has (High ∷ bs) a n h = let g = nets_has bs a n h in (suc g.0, g.1)
nets_has (Net m ∷ bs) zero n h = (zero, ap (λ x. Some (Net x)) (same_Some m n h))
nets_has (Net m ∷ bs) (suc a) n h = let g = nets_has bs a n h in (suc g.0, g.1)

pub drives_below : (nodes : List NetNode) (nets : ℕ) (drives : List (List ℕ)) → NetsBelow nets (nodes_in nodes) → drives ≡ drives_in nodes → (i n : ℕ) → Leads drives i n → n < nets
drives_below nodes nets drives below is_drives i n h =
    let Row : NetNode → List ℕ = λ p. p.drives in
    let q = map_at Row nodes i h.0 (ap (λ l. slice_get l i) (sym is_drives) ∙ h.2) in
    below.drives i (node_of q.0) (map_get node_of nodes i q.0 q.1) n (h.1, ap (λ r. slice_get r h.1) q.2 ∙ h.3)

pub needs_below : (nodes : List NetNode) (nets count : ℕ) → NetsBelow nets (nodes_in nodes) → count ≡ nets → (i k n : ℕ) (p : NetNode) → slice_get nodes i ≡ Some p → slice_get (nets_of p.needs) k ≡ Some n → n < count
needs_below nodes nets count below is_count i k n p at h =
    let low = below.needs i (node_of p) (map_get node_of nodes i p at) n (nets_has p.needs k n h) in
    omega (arith, low, is_count)

pub drives_few : (nodes : List NetNode) (drives : List (List ℕ)) (most : ℕ) → drives ≡ drives_in nodes → length nodes < most → length drives < most
drives_few nodes drives most is_drives few = let e : length drives ≡ length nodes = ap length is_drives ∙ length-map nodes (λ (p : NetNode). p.drives) in omega (arith, e, few)

-- ---- the graph is that of the nodes
module _ (nodes : List NetNode) (drives drivers graph : List (List ℕ)) (is_drives : drives ≡ drives_in nodes) (turned : AreTurned drives drivers) (is_graph : graph ≡ rows_in drivers nodes) where
  abbrev nets : List NodeNets
  nets = map node_nets (nodes_in nodes)

  tells : TellsDrivers nets drivers
  tells n j = (
    λ h. let d = (turned j n).0 h in
        let Row : NetNode → List ℕ = λ p. p.drives in
        let q = map_at Row nodes j d.0 (ap (λ l. slice_get l j) (sym is_drives) ∙ d.2) in
        (node_nets (node_of q.0), d.1, map_get node_nets (nodes_in nodes) j (node_of q.0) (map_get node_of nodes j q.0 q.1), ap (λ r. slice_get r d.1) q.2 ∙ d.3),
    λ h. let Row : NetNode → List ℕ = λ p. p.drives in
        let q = map_at node_nets (nodes_in nodes) j h.0 h.2 in
        let r = map_at node_of nodes j q.0 q.1 in
        (turned j n).1 (r.0.drives, h.1, ap (λ l. slice_get l j) is_drives ∙ map_get Row nodes j r.0 r.1, ap (λ (x : Node). slice_get x.drives h.1) r.2 ∙ ap (λ (x : NodeNets). slice_get x.drives h.1) q.2 ∙ h.3),
  )

  rows_agree : (ps : List NetNode) → rows_in drivers ps ≡ map (λ p. drivers_of drivers p.needs) (map node_nets (nodes_in ps))
  rows_agree [] = refl
  rows_agree (p ∷ ps) = ap (λ rs. row_of drivers p ∷ rs) (rows_agree ps)

  is_rows : graph ≡ map (λ p. drivers_of drivers p.needs) nets
  is_rows = is_graph ∙ rows_agree nodes

  pub graph_is : IsGraphOf (nodes_in nodes) graph
  graph_is = record {
    count = ap length is_graph ∙ length-map nodes (λ (p : NetNode). row_of drivers p) ∙ sym (length-map nodes node_of);
    leads = λ i j. (leads_depends (nodes_in nodes) nets drivers graph refl tells is_rows i j, depends_leads (nodes_in nodes) nets drivers graph refl tells is_rows i j);
  }

-- ---- loops of nodes are rings of their graph
module _ (nodes : List Node) (graph : List (List ℕ)) (is : IsGraphOf nodes graph) where
  pub list_closed : IsClosed graph
  list_closed i j leads = let d = (is.leads i j).0 leads in let low = get_below nodes j d.writer d.writes in let e = is.count in omega (arith, low, e)

  on_ring : (i : ℕ) → IsOnLoop nodes i → IsOnRing graph i
  on_ring i on = (
    on.0,
    record {
      some = on.1.some;
      next = λ a k j h g. (is.leads k j).1 (on.1.next a k j h g);
      round = λ a k j e h g. (is.leads k j).1 (on.1.round a k j e h g);
    },
    on.2,
  )

  first_is : (ring : List ℕ) → IsFirstRing graph ring → IsFirstLoop nodes ring
  first_is ring f = record {
    cycle = record {
      some = f.ring.some;
      next = λ a k j h g. (is.leads k j).0 (f.ring.next a k j h g);
      round = λ a k j e h g. (is.leads k j).0 (f.ring.round a k j e h g);
    };
    first = λ i j h on. f.first i j h (on_ring j on);
  }

  ring_below : (i : ℕ) → IsOnRing graph i → i < length graph
  ring_below i on =
      let r = on.1 in
      let low = get_below on.0 on.2.0 i on.2.1 in
      ⊎_elim
      (λ e. let n = get_within on.0 0 r.some in let leads = r.round on.2.0 i n.0 e on.2.1 n.1 in get_below graph i leads.0 leads.2)
      (λ e. let n = get_within on.0 (suc on.2.0) (omega (arith, low, e)) in let leads = r.next on.2.0 i n.0 on.2.1 n.1 in get_below graph i leads.0 leads.2)
      (cases_eq (suc on.2.0) (length on.0))

  pub loop_answer : (found : Option (List ℕ)) → ((i : ℕ) × IsOnLoop nodes i) → IsRingAnswer graph found → IsLoopAnswer nodes found
  loop_answer None some none = let on = on_ring some.0 some.1 in absurd (none some.0 (ring_below some.0 on) on)
  loop_answer (Some ring) some f = first_is ring f

-- the turned graph has the same nodes
pub turned_closed : (graph turned : List (List ℕ)) → length turned ≡ length graph → AreTurned graph turned → IsClosed turned
turned_closed graph turned same back j i leads = let g = (back i j).0 leads in let low = get_below graph i g.0 g.2 in omega (arith, low, same)

pub if_ok : {X E : Type 0} (r : Result X E) (P Q : X → Type 0) → ((x : X) → P x → Q x) → IfOk r P → IfOk r Q
if_ok (Ok x) P Q f h = f x h
if_ok (Err e) P Q f h = tt

-- ---- a module that has the nodes
pub within_module : (m : Module) (nodes : List Node) (nets : ℕ) → m.nets ≡ nets → nodes_of m ≡ nodes → NetsBelow nets nodes → NetsWithin m
within_module m nodes nets is_nets is_nodes below = record {
  drives = λ i p h n d. let low = below.drives i p (ap (λ l. slice_get l i) (sym is_nodes) ∙ h) n d in omega (arith, low, is_nets);
  needs = λ i p h n d. let low = below.needs i p (ap (λ l. slice_get l i) (sym is_nodes) ∙ h) n d in omega (arith, low, is_nets);
}

pub few_nodes : (m : Module) (nodes : List NetNode) (most : ℕ) → nodes_of m ≡ nodes_in nodes → length nodes < most → length (nodes_of m) < most
few_nodes m nodes most is_nodes few = let e : length (nodes_of m) ≡ length nodes = ap length is_nodes ∙ length-map nodes node_of in omega (arith, e, few)

pub has_loop : (m : Module) (nodes : List Node) (cycle : List ℕ) → nodes_of m ≡ nodes → IsCycle (nodes_of m) cycle → (i : ℕ) × IsOnLoop nodes i
has_loop m nodes cycle is_nodes c = let f = get_within cycle 0 c.some in (f.0, (cycle, subst (λ ns. IsCycle ns cycle) is_nodes c, (0, f.1)))

-- ---- the laws
pub loop_no_order : (nodes : List Node) (i : ℕ) → IsOnLoop nodes i → HaveOrder nodes → ⊥
loop_no_order nodes i on o = cycle_has_no_order nodes on.0 o.0 on.1 o.1

append_none : (bits : List Bit) → bits ++ [] ≡ bits
append_none [] = refl
append_none (b ∷ bs) = ap (λ xs. b ∷ xs) (append_none bs)

nodes_append : (ps : List Node) → ps ++ [] ≡ ps
nodes_append [] = refl
nodes_append (p ∷ ps) = ap (λ xs. p ∷ xs) (nodes_append ps)

abbrev cell_of : Node → Comb
cell_of p = record { name = []; kind = Not; signed = false; a = p.needs; b = []; s = []; y = p.drives }

cell_is : (p : Node) → comb_node (cell_of p) ≡ p
cell_is p = ap (λ bits. record { drives = p.drives; needs = bits }) (append_none (p.needs ++ []) ∙ append_none p.needs)

cells_are : (ps : List Node) → map comb_node (map cell_of ps) ≡ ps
cells_are [] = refl
cells_are (p ∷ ps) = ap (λ q. q ∷ map comb_node (map cell_of ps)) (cell_is p) ∙ ap (λ qs. p ∷ qs) (cells_are ps)

abbrev module_of : List Node → Module
module_of ps = record { name = []; attrs = []; nets = 0; wires = []; declared = []; parts = []; mems = []; combs = map cell_of ps; regs = []; rams = []; carried = [] }

module_is : (ps : List Node) → nodes_of (module_of ps) ≡ ps
module_is ps = nodes_append (map comb_node (map cell_of ps)) ∙ cells_are ps

pub ranks_agree : (nodes : List Node) → (HaveRanks nodes → HaveOrder nodes) × (HaveOrder nodes → HaveRanks nodes)
ranks_agree nodes = (
  λ r. subst HaveOrder (module_is nodes) (ranks_order (module_of nodes) (ordered_by (module_of nodes) r.0 (λ k p h. r.1 k p (ap (λ l. slice_get l k) (sym (module_is nodes)) ∙ h)))),
  λ o. let m = module_of nodes in
      let r : Ordered m = order_ranks m (subst HaveOrder (sym (module_is nodes)) o) in
      (r.rank, λ k p h. all_rise m r k p (ap (λ l. slice_get l k) (module_is nodes) ∙ h)),
)
