-- The module with the cell of a plain choice in a memory's place has a combinational order where the module has one.
use Rattle.std.proofs.Common.{◌≡◌, ℕ, zero, suc, ◌+◌, ◌-◌, ◌<◌, ◌≤◌, inl, inr, Bool, true, false, cond, List, [], ◌∷◌, ◌++◌, map, length, replicate, Some, None, refl, sym, ap, ◌∙◌, subst, arith, nat_lt}
use Rattle.std.specs.Prelude.{slice_get}
use Rattle.std.specs.List.{flat_map, range_with_len}
use Rattle.std.proofs.lemmas.Option.{same_Some}
use Rattle.lib_core.specs.declared.library.Library.{Library}
use Rattle.lib_core.specs.declared.library.Variant.{Variant}
use Rattle.lib_core.specs.declared.library.PortKind.{PortKind}
use Rattle.lib_core.specs.declared.library.PortKind.TheVariants.{Ar}
use Rattle.lib_core.specs.Rams.{reads_now}
use Rattle.net_core.specs.declared.bits.Bit.{Bit}
use Rattle.net_core.specs.declared.bits.Bit.TheVariants.{Zero as Low, One as High, Net}
use Rattle.net_core.specs.declared.cells.Comb.{Comb}
use Rattle.net_core.specs.declared.cells.Reg.{Reg}
use Rattle.net_core.specs.declared.mems.Mem.{Mem}
use Rattle.net_core.specs.declared.mems.MemJob.{MemJob}
use Rattle.net_core.specs.declared.mems.RdPort.{RdPort}
use Rattle.net_core.specs.declared.modules.Module.{Module}
use Rattle.net_core.specs.declared.rams.RamCell.{RamCell}
use Rattle.net_core.specs.declared.rams.SlotUse.{SlotUse}
use Rattle.net_core.specs.Nodes.{Node, comb_node, reg_node, read_needs, read_node, slot_node, mem_nodes, ram_nodes, nodes_of, HasNet, Drives, Rises, Ordered, NetsWithin}
use Rattle.geom_core.specs.declared.candidates.ReadPlace.{ReadPlace}
use Rattle.geom_core.specs.declared.candidates.ReadPlace.TheVariants as place
use Rattle.geom_core.specs.declared.candidates.RamChoice.{RamChoice}
use Rattle.ram_emit.specs.Cell.{padded, left_bits, stands_in, read_in, uses_from, nets_from, cell_of, cell_in}
use Rattle.ram_emit.specs.Placing.{CanPlace, PlacedIsOrdered}
use Rattle.ram_emit.proofs.Given.{PlainParts, plain_parts}
use Rattle.ram_emit.proofs.Agreeing.{all_stand}
use Rattle.ram_emit.proofs.Simulated.{placed_variant, new, cell}
use Rattle.ram_emit.proofs.Uses.{EachKind, every_use}
use Rattle.ram_emit.proofs.Placed.{Has, has_left, has_right, has_either, has_none, has_first, has_flat, has_map, removed_has}

-- a read that stands in a group is the one read
pub one_read : (rs : List RdPort) (ps : List ReadPlace) (r p : RdPort) (n own : ℕ) → rs ≡ r ∷ [] → ps ≡ place.Group own ∷ [] → read_in n rs ps ≡ Some p → r ≡ p
one_read rs ps r p n own e f h = one_if (stands_in n (place.Group own)) r p ((λ i. read_in n (sym e i) (sym f i)) ∙ h)
  where
    one_if : (b : Bool) (r p : RdPort) → cond b (Some r) None ≡ Some p → r ≡ p
    one_if true r p h = same_Some r p h
    one_if false r p h = cc

pub no_net : (count n : ℕ) → HasNet (replicate count Low) n → ⊥
no_net zero n (k, h) = cc
no_net (suc count) n (zero, h) = cc
no_net (suc count) n (suc k, h) = no_net count n (k, h)

pub no_zero : (n : ℕ) → HasNet (Low ∷ []) n → ⊥
no_zero n (zero, h) = cc
no_zero n (suc k, h) = cc

pub padded_net : (xs : List Bit) (count n : ℕ) → HasNet (padded xs count) n → HasNet xs n
padded_net xs count n h = elim (has_either xs (replicate (count - length xs) Low) (Net n) h) [ inl a ↦ a | inr b ↦ absurd (no_net (count - length xs) n b) ]

pub range_has : (a count n : ℕ) → Has (range_with_len a count) n → (a ≤ n) × (n < a + count)
range_has a zero n (k, h) = cc
range_has a (suc count) n (zero, h) = let e : a ≡ n = same_Some a n h in (omega (arith, e), omega (arith, e))
range_has a (suc count) n (suc k, h) = let r = range_has (a + 1) count n (k, h) in (omega (arith, r.0), omega (arith, r.1))

-- ---- ranks with those of new nets

-- at least the rank of each net
abbrev top_of : (ℕ → ℕ) → List Bit → ℕ
top_of rank [] = 0
top_of rank (Net n ∷ bs) = rank n + top_of rank bs
top_of rank (b ∷ bs) = top_of rank bs

under_top : (rank : ℕ → ℕ) (bs : List Bit) (n : ℕ) → HasNet bs n → rank n ≤ top_of rank bs
under_top rank [] n (k, h) = cc
under_top rank (Low ∷ bs) n (zero, h) = cc
under_top rank (Low ∷ bs) n (suc k, h) = under_top rank bs n (k, h)
under_top rank (High ∷ bs) n (zero, h) = cc
under_top rank (High ∷ bs) n (suc k, h) = under_top rank bs n (k, h)
under_top rank (Net x ∷ bs) n (zero, h) = let e : Net x ≡ Net n = same_Some (Net x) (Net n) h in let q : x ≡ n = cc in omega (arith, ap rank q)
under_top rank (Net x ∷ bs) n (suc k, h) = omega (arith, under_top rank bs n (k, h))

module _ (nets : ℕ) (rank : ℕ → ℕ) (top : ℕ) where
  abbrev pub ranked : ℕ → ℕ
  ranked n = cond (nat_lt n nets) (rank n) (suc top)

  old_rank : (n : ℕ) → n < nets → ranked n ≡ rank n
  old_rank n h = let e : nat_lt n nets ≡ true = grind (arith, h) in ap (λ b. cond b (rank n) (suc top)) e

  new_rank : (n : ℕ) → nets ≤ n → ranked n ≡ suc top
  new_rank n h = let e : nat_lt n nets ≡ false = grind (arith, h) in ap (λ b. cond b (rank n) (suc top)) e

  rises_old : (p : Node) → ((n : ℕ) → Drives p n → n < nets) → ((n : ℕ) → HasNet p.needs n → n < nets) → Rises rank p → Rises ranked p
  rises_old p drives needs rises n x d h = omega (arith, rises n x d h, old_rank n (drives n d), old_rank x (needs x h))

  rises_new : (n x : ℕ) → nets ≤ n → x < nets → rank x ≤ top → ranked x < ranked n
  rises_new n x high low under = omega (arith, new_rank n high, old_rank x low, under)

module _ (lib : Library) (m : Module) (i : ℕ) (job : MemJob) (c : RamChoice) (name : List ℕ) (can : CanPlace lib m i job c) (within : NetsWithin m) (order : Ordered m) where
  module _ (x : Variant) (parts : PlainParts job.mem c x) where
    abbrev rank : ℕ → ℕ
    rank = ranked m.nets order.rank (top_of order.rank parts.read.addr)

    drives_low : (p : Node) → Has (nodes_of m) p → (n : ℕ) → Drives p n → n < m.nets
    drives_low p (k, at) n d = within.drives k p at n d

    needs_low : (p : Node) → Has (nodes_of m) p → (n : ℕ) → HasNet p.needs n → n < m.nets
    needs_low p (k, at) n d = within.needs k p at n d

    still : (p : Node) → Has (nodes_of m) p → Rises order.rank p → Rises rank p
    still p there rises = rises_old m.nets order.rank (top_of order.rank parts.read.addr) p (drives_low p there) (needs_low p there) rises

    abbrev combs : List Node
    combs = map comb_node m.combs

    abbrev regs : List Node
    regs = map reg_node m.regs

    abbrev reads : List Node
    reads = flat_map mem_nodes m.mems

    abbrev slots : List Node
    slots = flat_map ram_nodes m.rams

    comb_there : (k : ℕ) (a : Comb) → slice_get m.combs k ≡ Some a → Has (nodes_of m) (comb_node a)
    comb_there k a at = has_left combs (regs ++ (reads ++ slots)) (comb_node a) (has_map comb_node m.combs a (k, at))

    reg_there : (k : ℕ) (a : Reg) → slice_get m.regs k ≡ Some a → Has (nodes_of m) (reg_node a)
    reg_there k a at = has_right combs (regs ++ (reads ++ slots)) (reg_node a) (has_left regs (reads ++ slots) (reg_node a) (has_map reg_node m.regs a (k, at)))

    read_there : (y : Mem) (r : RdPort) → Has m.mems y → Has y.reads r → Has (nodes_of m) (read_node r)
    read_there y r at h = has_right combs (regs ++ (reads ++ slots)) (read_node r) (has_right regs (reads ++ slots) (read_node r) (has_left reads slots (read_node r) (has_flat mem_nodes m.mems y (read_node r) at (has_map read_node y.reads r h))))

    slot_there : (y : RamCell) (s : SlotUse) → Has m.rams y → Has y.slots s → Has (nodes_of m) (slot_node s)
    slot_there y s at h = has_right combs (regs ++ (reads ++ slots)) (slot_node s) (has_right regs (reads ++ slots) (slot_node s) (has_right reads slots (slot_node s) (has_flat ram_nodes m.rams y (slot_node s) at (has_map slot_node y.slots s h))))

    own_read : Has job.mem.reads parts.read
    own_read = (0, ap (λ rs. slice_get rs 0) parts.reads)

    own_there : Has (nodes_of m) (read_node parts.read)
    own_there = read_there job.mem parts.read (i, can.there) own_read

    own_rises : Rises order.rank (read_node parts.read)
    unfolding own_read
    own_rises = order.reads i job.mem can.there 0 parts.read own_read.1

    -- what the read needs, and that the new nets are above it
    need : (n : ℕ) → HasNet parts.read.addr n → HasNet (read_node parts.read).needs n
    need n h = subst (λ o. HasNet (read_needs o parts.read) n) (sym parts.now) h

    no_needs : (k : PortKind) (addr : List Bit) (n : ℕ) → reads_now k ≡ false → HasNet (cond (reads_now k) addr (Low ∷ [])) n → ⊥
    no_needs k addr n e h = no_zero n (subst (λ b. HasNet (cond b addr (Low ∷ [])) n) e h)

    idle_needs : (b : Bool) (count n : ℕ) → HasNet (cond b (replicate count Low) (Low ∷ [])) n → ⊥
    idle_needs true count n h = no_net count n h
    idle_needs false count n h = no_zero n h

    abbrev RisesNow : SlotUse → Type 0
    RisesNow s = Rises rank (slot_node s)

    read_rises : (p : RdPort) (kind : PortKind) (next high : ℕ) → kind ≡ Ar → parts.read ≡ p → m.nets ≤ next → (n y : ℕ) → Has (p.out ++ range_with_len next (left_bits x p.out)) n → HasNet (cond (reads_now kind) (padded p.addr x.abits) (Low ∷ [])) y → rank y < rank n
    read_rises p kind next high is same low n y d h =
        let needed : HasNet (padded p.addr x.abits) y = subst (λ k. HasNet (cond (reads_now k) (padded p.addr x.abits) (Low ∷ [])) y) is h in
        let addr : HasNet parts.read.addr y = subst (λ (q : RdPort). HasNet q.addr y) (sym same) (padded_net p.addr x.abits y needed) in
        let few : y < m.nets = needs_low (read_node parts.read) own_there y (need y addr) in
        let under : order.rank y ≤ top_of order.rank parts.read.addr = under_top order.rank parts.read.addr y addr in
        elim (has_either p.out (range_with_len next (left_bits x p.out)) n d) [
          | inl old ↦ still (read_node parts.read) own_there own_rises n y (subst (λ (q : RdPort). Has q.out n) (sym same) old) (need y addr)
          | inr more ↦ let r = range_has next (left_bits x p.out) n more in rises_new m.nets order.rank (top_of order.rank parts.read.addr) n y (omega (arith, low, r.0)) few under
        ]

    kinds : EachKind x parts.variant.byte job.mem c m.nets (m.nets + nets_from x job.mem c 0 x.groups) RisesNow
    kinds = record {
      idle = λ g next met lower upper n y d h. absurd (idle_needs (reads_now g.kind) x.abits y h);
      write = λ g next k p r stands at lower upper n y d h. absurd (no_needs g.kind (padded p.addr x.abits) y (ap reads_now (stands.write p refl).0) h);
      read = λ g next k p stands at lower upper n y d h. read_rises p g.kind next (m.nets + nets_from x job.mem c 0 x.groups) (stands.read p refl).0 (one_read job.mem.reads c.reads parts.read p k parts.spot parts.reads parts.places at) lower n y d h;
    }

    cell_rises : (j : ℕ) (s : SlotUse) → slice_get (uses_from x job.mem c 0 x.groups m.nets) j ≡ Some s → Rises rank (slot_node s)
    cell_rises = every_use x parts.variant.byte job.mem c m.nets (m.nets + nets_from x job.mem c 0 x.groups) RisesNow kinds x.groups 0 m.nets (all_stand job.mem c x parts can.valid) (omega arith) (omega arith)

    ordered_slots : cell lib m i job c name can ≡ cell_of x job.mem c name m.nets → (k : ℕ) (y : RamCell) → slice_get (m.rams ++ cell lib m i job c name can ∷ []) k ≡ Some y → (j : ℕ) (s : SlotUse) → slice_get y.slots j ≡ Some s → Rises rank (slot_node s)
    ordered_slots made k y at j s h =
        elim (has_either m.rams (cell lib m i job c name can ∷ []) y (k, at)) [
          | inl (l, old) ↦ still (slot_node s) (slot_there y s (l, old) (j, h)) (order.slots l y old j s h)
          | inr own ↦
              let same : cell lib m i job c name can ≡ y = elim (has_first (cell lib m i job c name can) y [] own) [ inl e ↦ e | inr g ↦ absurd (has_none y g) ] in
              cell_rises j s (subst (λ (r : RamCell). slice_get r.slots j ≡ Some s) (sym same ∙ made) h)
        ]

    ordered_by : cell lib m i job c name can ≡ cell_of x job.mem c name m.nets → Ordered (new lib m i job c name can)
    ordered_by made = record {
      rank = rank;
      combs = λ k a at. still (comb_node a) (comb_there k a at) (order.combs k a at);
      regs = λ k a at. still (reg_node a) (reg_there k a at) (order.regs k a at);
      reads = λ k y at j r h.
          let (l, old) = removed_has m.mems i y (k, at) in
          still (read_node r) (read_there y r (l, old) (j, h)) (order.reads l y old j r h);
      slots = ordered_slots made;
    }

pub placed_is_ordered : PlacedIsOrdered
placed_is_ordered lib m i job c name can within order =
    let (x, there) = placed_variant lib m i job c name can in
    ordered_by lib m i job c name can within order x (plain_parts lib job c x can.limits can.valid can.plain there) (ap (λ o. cell_in o job.mem c name m.nets) there)
