-- What a node shows depends on the nets that it needs alone.
use Rattle.std.proofs.Common.{◌≡◌, ℕ, ◌/◌, ◌^◌, Bool, true, false, cond, ◌&&◌, List, [], ◌∷◌, ◌++◌, Option, Some, None, refl, sym, ap, ◌∙◌, subst}
use Rattle.std.specs.Prelude.{slice_get, option_map, option_and_then}
use Rattle.std.proofs.lemmas.Option.{same_Some}
use Rattle.lib_core.specs.declared.library.Library.{Library}
use Rattle.lib_core.specs.declared.library.Tri.{Tri}
use Rattle.lib_core.specs.declared.library.Tri.TheVariants.{Any}
use Rattle.lib_core.specs.Rams.{tri_at, lies, filled, has_fill, reads_now, reads_later}
use Rattle.net_core.specs.declared.bits.Clock.{Clock}
use Rattle.net_core.specs.declared.cells.Comb.{Comb}
use Rattle.net_core.specs.declared.cells.Reg.{Reg}
use Rattle.net_core.specs.declared.mems.Mem.{Mem}
use Rattle.net_core.specs.declared.mems.RdPort.{RdPort}
use Rattle.net_core.specs.declared.rams.RamCell.{RamCell}
use Rattle.net_core.specs.declared.modules.Module.{Module}
use Rattle.net_core.specs.Values.{Valuation, number_of, bit_at, tri_of, same_bool}
use Rattle.net_core.specs.Logic.{comb_shows}
use Rattle.net_core.specs.Cells.{has_arst}
use Rattle.net_core.specs.Memory.{frame_of, base_of, read_bit, read_shows}
use Rattle.net_core.specs.Ram.{Slot, word_of, slot_in_arst}
use Rattle.net_core.specs.Nodes.{Node, comb_node, reg_node, read_needs, read_node, slot_node, HasNet}
use Rattle.net_core.specs.Runs.{ReadsAgree}
use Rattle.net_core.proofs.Basics.{has_left, has_right, value_same, values_same}
use Rattle.net_core.proofs.Settle.{pins_at}
use Rattle.row_store.specs.Rows.{bit_of}
use Rattle.ram_step.specs.declared.picks.PickKey.{PickKey}
use Rattle.ram_step.specs.Picks.{pick_number, resolved}
use Rattle.ram_step.specs.States.{RamLook, kept_of, shown_bit}
use Rattle.sim_cells.specs.Choices.{taken}
use Rattle.sim_cells.specs.Registers.{reg_shown}
use Rattle.sim_cells.specs.Memories.{MemLook, is_clocked, contents, kept_at, read_shown}
use Rattle.picked_run.specs.States.{SimLook, comb_number, reg_number, mem_number, ram_number, key_of}
use Rattle.sim_settle.specs.declared.places.NodePlace.{NodePlace}
use Rattle.sim_settle.specs.declared.places.NodePlace.TheVariants as place
use Rattle.sim_settle.specs.Places.{node_at}
use Rattle.sim_settle.specs.Working.{PlaceSays, VariantsAgree}

-- two valuations agree on what a node needs
abbrev pub AgreeOn : Valuation → Valuation → Node → Type 0
AgreeOn v w p = (n : ℕ) → HasNet p.needs n → v n ≡ w n

module _ (v w : Valuation) where
  comb_local : (c : Comb) (k : ℕ) → AgreeOn v w (comb_node c) → comb_shows c v k ≡ comb_shows c w k
  comb_local c k on =
      let a = values_same v w c.a (λ x h. on x (has_left (c.a ++ c.b) c.s x (has_left c.a c.b x h))) in
      let b = values_same v w c.b (λ x h. on x (has_left (c.a ++ c.b) c.s x (has_right c.a c.b x h))) in
      let s = values_same v w c.s (λ x h. on x (has_right (c.a ++ c.b) c.s x h)) in
      cc

  reg_local : (r : Reg) (key : PickKey) (kept : List Bool) (k : ℕ) → AgreeOn v w (reg_node r) → reg_shown r v key kept k ≡ reg_shown r w key kept k
  reg_local r key kept k on =
      ap (λ b. taken key k (cond (has_arst r.kind && same_bool b r.arst_high) (tri_at r.arst_value k) (tri_of (bit_at kept k)))) (value_same v w r.arst [] on)

  abbrev read_tri : Option Clock → List Tri → Mem → Valuation → List Bool → RdPort → ℕ → Tri
  read_tri c words x u kept r k = cond (is_clocked c) (read_shows r u (bit_at kept) k) (read_bit (frame_of x) (base_of u r.addr) k (contents x words))

  tri_local : (c : Option Clock) (words : List Tri) (x : Mem) (kept : List Bool) (r : RdPort) (k : ℕ) → ((n : ℕ) → HasNet (read_needs c r) n → v n ≡ w n) → read_tri c words x v kept r k ≡ read_tri c words x w kept r k
  tri_local None words x kept r k on = ap (λ a. read_bit (frame_of x) (number_of a) k (contents x words)) (values_same v w r.addr on)
  tri_local (Some c) words x kept r k on = ap (λ b. cond b (tri_at r.arst_value k) (tri_of (bit_at kept k))) (value_same v w r.arst [] on)

  read_local : (a : MemLook) (x : Mem) (key : PickKey) (port : ℕ) (r : RdPort) (k : ℕ) → AgreeOn v w (read_node r) → read_shown a x v key port r k ≡ read_shown a x w key port r k
  read_local a x key port r k on = ap (taken key (pick_number port k)) (tri_local r.clock a.words x (kept_at a.kept port) r k on)

  abbrev now_tri : RamLook → Valuation → Slot → ℕ → Tri
  now_tri a u s k = bit_of a.words (lies a.variant s.pins.level (word_of u s) k).0 (lies a.variant s.pins.level (word_of u s) k).1

  abbrev later_tri : RamLook → Valuation → Slot → ℕ → Tri
  later_tri a u s k = cond (slot_in_arst u s) (filled s.kind.arst s.pins.arst_value k) (tri_of (bit_at (kept_of a.kept s) k))

  abbrev slot_tri : (used now later : Bool) → RamLook → Valuation → Slot → ℕ → Tri
  slot_tri used now later a u s k = cond (used && now) (now_tri a u s k) (cond (used && later) (later_tri a u s k) Any)

  slot_tri_local : (used now later : Bool) (a : RamLook) (s : Slot) (k : ℕ) → ((n : ℕ) → HasNet (cond now s.pins.addr (s.pins.arst ∷ [])) n → v n ≡ w n) → slot_tri used now later a v s k ≡ slot_tri used now later a w s k
  slot_tri_local true true later a s k on =
      ap (λ bits. bit_of a.words (lies a.variant s.pins.level (number_of bits / 2 ^ s.pins.level) k).0 (lies a.variant s.pins.level (number_of bits / 2 ^ s.pins.level) k).1) (values_same v w s.pins.addr on)
  slot_tri_local true false true a s k on =
      ap (λ b. cond (has_fill s.kind.arst && b) (filled s.kind.arst s.pins.arst_value k) (tri_of (bit_at (kept_of a.kept s) k))) (value_same v w s.pins.arst [] on)
  slot_tri_local true false false a s k on = refl
  slot_tri_local false now later a s k on = refl

  slot_local : (a : RamLook) (key : PickKey) (s : Slot) (k : ℕ) → s.pins.reads_now ≡ reads_now s.kind.kind → AgreeOn v w (slot_node s.pins) → shown_bit a v key s k ≡ shown_bit a w key s k
  slot_local a key s k agree on =
      let P : Bool → Type 0 = λ b. (n : ℕ) → HasNet (cond b s.pins.addr (s.pins.arst ∷ [])) n → v n ≡ w n in
      ap (resolved key s.number k) (slot_tri_local s.pins.used (reads_now s.kind.kind) (reads_later s.kind.kind) a s k (subst P agree on))

agree_along : (v w : Valuation) (p q : Node) → p ≡ q → AgreeOn v w q → AgreeOn v w p
agree_along v w p q e on = subst (AgreeOn v w) (sym e) on

-- the node of each kind of place
pub comb_is : (m : Module) (i : ℕ) (c : Comb) (p : Node) → slice_get m.combs i ≡ Some c → node_at m (place.Comb i) ≡ Some p → comb_node c ≡ p
comb_is m i c p found here = same_Some (comb_node c) p (sym (ap (option_map comb_node) found) ∙ here)

pub reg_is : (m : Module) (i : ℕ) (r : Reg) (p : Node) → slice_get m.regs i ≡ Some r → node_at m (place.Reg i) ≡ Some p → reg_node r ≡ p
reg_is m i r p found here = same_Some (reg_node r) p (sym (ap (option_map reg_node) found) ∙ here)

pub read_is : (m : Module) (i j : ℕ) (x : Mem) (r : RdPort) (p : Node) → slice_get m.mems i ≡ Some x → slice_get x.reads j ≡ Some r → node_at m (place.Read i j) ≡ Some p → read_node r ≡ p
read_is m i j x r p found read here =
    same_Some (read_node r) p (sym (ap (option_map read_node) read) ∙ sym (ap (option_and_then (λ (y : Mem). option_map read_node (slice_get y.reads j))) found) ∙ here)

pub slot_is : (m : Module) (i j : ℕ) (c : RamCell) (s : Slot) (p : Node) → slice_get m.rams i ≡ Some c → slice_get c.slots j ≡ Some s.pins → node_at m (place.Slot i j) ≡ Some p → slot_node s.pins ≡ p
slot_is m i j c s p found pins here =
    same_Some (slot_node s.pins) p (sym (ap (option_map slot_node) pins) ∙ sym (ap (option_and_then (λ (d : RamCell). option_map slot_node (slice_get d.slots j))) found) ∙ here)

-- what a place says stays so where the valuations agree on its node's needs
pub says_local : (lib : Library) (m : Module) (seed t : ℕ) (s : SimLook) → ReadsAgree lib m → VariantsAgree lib m s → (at : NodePlace) (p : Node) → node_at m at ≡ Some p → (v w : Valuation) → AgreeOn v w p → (k : ℕ) (b : Bool) → PlaceSays m seed t s at v k b → PlaceSays m seed t s at w k b
says_local lib m seed t s reads variants (place.Comb i) p here v w on k b says = λ c found.
    says c found ∙ ap (taken (key_of seed t (comb_number i)) k) (comb_local v w c k (agree_along v w (comb_node c) p (comb_is m i c p found here) on))
says_local lib m seed t s reads variants (place.Reg i) p here v w on k b says = λ r kept found held.
    says r kept found held ∙ reg_local v w r (key_of seed t (reg_number m i)) kept k (agree_along v w (reg_node r) p (reg_is m i r p found here) on)
says_local lib m seed t s reads variants (place.Read i j) p here v w on k b says = λ x a r found held read.
    says x a r found held read ∙ read_local v w a x (key_of seed t (mem_number m i)) j r k (agree_along v w (read_node r) p (read_is m i j x r p found read here) on)
says_local lib m seed t s reads variants (place.Slot i j) p here v w on k b says = λ c a slot found held there.
    let pins = pins_at a.variant c j slot there in
    let agree = reads i c found a.variant (variants i c a found held) j slot there in
    says c a slot found held there ∙ slot_local v w a (key_of seed t (ram_number m i)) slot k agree (agree_along v w (slot_node slot.pins) p (slot_is m i j c slot p found pins here) on)
