-- A module whose readers read other bits keeps orders, drivers and numbers.
use Rattle.std.proofs.Common.{◌≡◌, ℕ, ◌<◌, ◌≤◌, Bool, true, false, cond, List, [], ◌∷◌, ◌++◌, Option, Some, None, refl, sym, ap, ◌∙◌, subst, arith}
use Rattle.std.specs.Prelude.{slice_get, slice_set}
use Rattle.net_core.specs.declared.bits.Bit.{Bit}
use Rattle.net_core.specs.declared.bits.Bit.TheVariants.{Zero, One, Net}
use Rattle.net_core.specs.declared.bits.Clock.{Clock}
use Rattle.net_core.specs.declared.cells.Comb.{Comb}
use Rattle.net_core.specs.declared.cells.Reg.{Reg}
use Rattle.net_core.specs.declared.mems.Mem.{Mem}
use Rattle.net_core.specs.declared.mems.RdPort.{RdPort}
use Rattle.net_core.specs.declared.rams.RamCell.{RamCell}
use Rattle.net_core.specs.declared.rams.SlotUse.{SlotUse}
use Rattle.net_core.specs.declared.modules.Module.{Module}
use Rattle.net_core.specs.Nodes.{Node, comb_node, reg_node, read_node, slot_node, read_needs, nodes_of, HasNet, Drives, Rises}
use Rattle.net_core.specs.Ports.{inout_bits}
use Rattle.net_core.proofs.Ordering.{map_at, each_node, comb_place, reg_place, read_place, slot_place}
use Rattle.net_core.proofs.RenamedNets.{map_joined}
use Rattle.net_core.proofs.Searching.{get_set_other}
use Rattle.net_edit.specs.Aliases.{IsOwn, RedirectedIsOrdered, RedirectedHasOneDriver, RedirectedIsWithin, AliasIsRedirection}
use Rattle.net_edit.specs.Redirect.{bit_or, bit_read, bits_read, redirected_comb, redirected_reg, redirected_read, redirected_mem, redirected_slot, redirected_ram, redirected}
use Rattle.net_edit.proofs.Redirecting.{inputs_kept}

module _ (reads : List Bit) where
  -- a net that is read stands in the place of a net
  one_from : (b : Bit) (x : ℕ) → bit_read reads b ≡ Net x → (n : ℕ) × (b ≡ Net n) × (bit_read reads (Net n) ≡ Net x)
  one_from Zero x e = cc
  one_from One x e = cc
  one_from (Net n) x e = (n, refl, e)

  net_from : (bits : List Bit) (x : ℕ) → HasNet (bits_read reads bits) x → (n : ℕ) × HasNet bits n × (bit_read reads (Net n) ≡ Net x)
  net_from bits x (k, at) =
      let a = map_at (bit_read reads) bits k (Net x) at in
      let (n, is, e) = one_from a.0 x a.2 in
      (n, (k, a.1 ∙ ap Some is), e)

  -- a node of the new module, by that of the old one
  record IsReadBy (p q : Node) : Type 0 where
    pub drives : q.drives ≡ p.drives
    pub needs : (x : ℕ) → HasNet q.needs x → (n : ℕ) × HasNet p.needs n × (bit_read reads (Net n) ≡ Net x)

  comb_by : (c : Comb) → IsReadBy (comb_node c) (comb_node (redirected_comb reads c))
  comb_by c =
      let whole : bits_read reads c.a ++ bits_read reads c.b ++ bits_read reads c.s ≡ bits_read reads (c.a ++ c.b ++ c.s) =
      ap (λ l. l ++ bits_read reads c.s) (sym (map_joined (bit_read reads) c.a c.b)) ∙ sym (map_joined (bit_read reads) (c.a ++ c.b) c.s) in
      record { drives = refl; needs = λ x at. net_from (c.a ++ c.b ++ c.s) x (subst (λ l. HasNet l x) whole at) }

  reg_by : (r : Reg) → IsReadBy (reg_node r) (reg_node (redirected_reg reads r))
  reg_by r = record { drives = refl; needs = λ x at. net_from (r.arst ∷ []) x at }

  read_by : (r : RdPort) → IsReadBy (read_node r) (read_node (redirected_read reads r))
  read_by r = record { drives = refl; needs = λ x at. by_clock r.clock x at }
    where
      by_clock : (c : Option Clock) (x : ℕ) → HasNet (read_needs c (redirected_read reads r)) x → (n : ℕ) × HasNet (read_needs c r) n × (bit_read reads (Net n) ≡ Net x)
      by_clock None x at = net_from r.addr x at
      by_clock (Some c) x at = net_from (r.arst ∷ []) x at

  slot_by : (s : SlotUse) → IsReadBy (slot_node s) (slot_node (redirected_slot reads s))
  slot_by s = record { drives = refl; needs = λ x at. by_kind s.reads_now x at }
    where
      by_kind : (b : Bool) (x : ℕ) → HasNet (cond b (bits_read reads s.addr) (bit_read reads s.arst ∷ [])) x → (n : ℕ) × HasNet (cond b s.addr (s.arst ∷ [])) n × (bit_read reads (Net n) ≡ Net x)
      by_kind true x at = net_from s.addr x at
      by_kind false x at = net_from (s.arst ∷ []) x at

  -- what holds of each node of the old module holds of each node of the new one
  module _ (P : Node → Type 0) (lift : (p q : Node) → IsReadBy p q → P p → P q) (m : Module) where
    comb_lifted : ((i : ℕ) (c : Comb) → slice_get m.combs i ≡ Some c → P (comb_node c)) → (i : ℕ) (c : Comb) → slice_get (redirected reads m).combs i ≡ Some c → P (comb_node c)
    comb_lifted old i c at = let a = map_at (redirected_comb reads) m.combs i c at in subst (λ z. P (comb_node z)) a.2 (lift (comb_node a.0) (comb_node (redirected_comb reads a.0)) (comb_by a.0) (old i a.0 a.1))

    reg_lifted : ((i : ℕ) (r : Reg) → slice_get m.regs i ≡ Some r → P (reg_node r)) → (i : ℕ) (r : Reg) → slice_get (redirected reads m).regs i ≡ Some r → P (reg_node r)
    reg_lifted old i r at = let a = map_at (redirected_reg reads) m.regs i r at in subst (λ z. P (reg_node z)) a.2 (lift (reg_node a.0) (reg_node (redirected_reg reads a.0)) (reg_by a.0) (old i a.0 a.1))

    read_lifted : ((i : ℕ) (x : Mem) → slice_get m.mems i ≡ Some x → (j : ℕ) (r : RdPort) → slice_get x.reads j ≡ Some r → P (read_node r)) → (i : ℕ) (x : Mem) → slice_get (redirected reads m).mems i ≡ Some x → (j : ℕ) (r : RdPort) → slice_get x.reads j ≡ Some r → P (read_node r)
    read_lifted old i x at j r h =
        let a = map_at (redirected_mem reads) m.mems i x at in
        let b = map_at (redirected_read reads) a.0.reads j r (ap (λ (z : Mem). slice_get z.reads j) a.2 ∙ h) in
        subst (λ z. P (read_node z)) b.2 (lift (read_node b.0) (read_node (redirected_read reads b.0)) (read_by b.0) (old i a.0 a.1 j b.0 b.1))

    slot_lifted : ((i : ℕ) (c : RamCell) → slice_get m.rams i ≡ Some c → (j : ℕ) (s : SlotUse) → slice_get c.slots j ≡ Some s → P (slot_node s)) → (i : ℕ) (c : RamCell) → slice_get (redirected reads m).rams i ≡ Some c → (j : ℕ) (s : SlotUse) → slice_get c.slots j ≡ Some s → P (slot_node s)
    slot_lifted old i c at j s h =
        let a = map_at (redirected_ram reads) m.rams i c at in
        let b = map_at (redirected_slot reads) a.0.slots j s (ap (λ (z : RamCell). slice_get z.slots j) a.2 ∙ h) in
        subst (λ z. P (slot_node z)) b.2 (lift (slot_node b.0) (slot_node (redirected_slot reads b.0)) (slot_by b.0) (old i a.0 a.1 j b.0 b.1))

  drives_old : (p q : Node) → IsReadBy p q → (n : ℕ) → Drives q n → Drives p n
  drives_old p q by n (k, at) = (k, ap (λ l. slice_get l k) (sym by.drives) ∙ at)

  rises_on : (rank : ℕ → ℕ) → ((n k : ℕ) → bit_read reads (Net n) ≡ Net k → rank k ≤ rank n) → (p q : Node) → IsReadBy p q → Rises rank p → Rises rank q
  rises_on rank below p q by rise n x d h =
      let (k, at, e) = by.needs x h in
      let low = below k x e in
      let l = rise n k (drives_old p q by n d) at in
      omega (arith, low, l)

pub redirected_is_ordered : RedirectedIsOrdered
redirected_is_ordered m reads o below =
    let lift = rises_on reads o.rank below in
    record {
      order = record {
        rank = o.rank;
        combs = comb_lifted reads (Rises o.rank) lift m o.combs;
        regs = reg_lifted reads (Rises o.rank) lift m o.regs;
        reads = read_lifted reads (Rises o.rank) lift m o.reads;
        slots = slot_lifted reads (Rises o.rank) lift m o.slots;
      };
      same = λ n. refl;
    }

pub redirected_has_one_driver : RedirectedHasOneDriver
redirected_has_one_driver m reads one = record {
  driver = one.driver;
  inputs = λ k n at. one.inputs k n (ap (λ l. slice_get l k) (sym (inputs_kept reads m)) ∙ at);
  combs = λ i c at k n h.
      let a = map_at (redirected_comb reads) m.combs i c at in
      one.combs i a.0 a.1 k n (ap (λ (z : Comb). slice_get z.y k) a.2 ∙ h);
  regs = λ i r at k n h.
      let a = map_at (redirected_reg reads) m.regs i r at in
      one.regs i a.0 a.1 k n (ap (λ (z : Reg). slice_get z.q k) a.2 ∙ h);
  reads = λ i x at j r here k n h.
      let a = map_at (redirected_mem reads) m.mems i x at in
      let b = map_at (redirected_read reads) a.0.reads j r (ap (λ (z : Mem). slice_get z.reads j) a.2 ∙ here) in
      one.reads i a.0 a.1 j b.0 b.1 k n (ap (λ (z : RdPort). slice_get z.out k) b.2 ∙ h);
  slots = λ i c at j s here k n h.
      let a = map_at (redirected_ram reads) m.rams i c at in
      let b = map_at (redirected_slot reads) a.0.slots j s (ap (λ (z : RamCell). slice_get z.slots j) a.2 ∙ here) in
      one.slots i a.0 a.1 j b.0 b.1 k n (ap (λ (z : SlotUse). slice_get z.out k) b.2 ∙ h);
}

module _ (reads : List Bit) (m : Module) (P : Node → Type 0) (lift : (p q : Node) → IsReadBy reads p q → P p → P q) (old : (i : ℕ) (p : Node) → slice_get (nodes_of m) i ≡ Some p → P p) where
  every_node : (i : ℕ) (p : Node) → slice_get (nodes_of (redirected reads m)) i ≡ Some p → P p
  every_node = each_node (redirected reads m) P
      (comb_lifted reads P lift m (λ i c at. let (k, there) = comb_place m i c at in old k (comb_node c) there))
      (reg_lifted reads P lift m (λ i r at. let (k, there) = reg_place m i r at in old k (reg_node r) there))
      (read_lifted reads P lift m (λ i x at j r h. let (k, there) = read_place m i x at j r h in old k (read_node r) there))
      (slot_lifted reads P lift m (λ i c at j s h. let (k, there) = slot_place m i c at j s h in old k (slot_node s) there))

pub redirected_is_within : RedirectedIsWithin
redirected_is_within m reads within stays = record {
  drives = every_node reads m (λ p. (n : ℕ) → Drives p n → n < m.nets) (λ p q by h n d. h n (drives_old reads p q by n d)) within.drives;
  needs = every_node reads m (λ p. (n : ℕ) → HasNet p.needs n → n < m.nets) (λ p q by h x at. let (n, there, e) = by.needs x at in stays n x (h n there) e) within.needs;
}

-- ---- one more alias

still_own : (reads : List Bit) (net n : ℕ) (bit : Bit) → (n ≡ net → ⊥) → IsOwn reads n → IsOwn (slice_set reads net bit) n
still_own reads net n bit off own = ap (bit_or (Net n)) (get_set_other reads net n bit off) ∙ own

pub alias_is_redirection : AliasIsRedirection
alias_is_redirection modules e net bit can apart own = record {
  inputs = λ k n at. still_own e.reads net n bit (λ is. can.undriven.inputs k (at ∙ ap Some is)) (own.inputs k n at);
  nodes = λ i p at n d. still_own e.reads net n bit (λ is. can.undriven.nodes i p at (subst (Drives p) is d)) (own.nodes i p at n d);
  inouts = λ n at. still_own e.reads net n bit (λ is. apart (subst (HasNet (inout_bits modules e.netlist)) is at)) (own.inouts n at);
}
