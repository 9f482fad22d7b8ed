-- The bits that the cell reads are ones that the memory reads.
use Rattle.std.proofs.Common.{◌≡◌, ℕ, ◌+◌, inl, inr, Bool, true, false, cond, List, [], ◌∷◌, ◌++◌, replicate, get_or, Some, sym, ap, ◌∙◌, subst, arith}
use Rattle.std.specs.Prelude.{slice_get}
use Rattle.std.specs.List.{flat_map, remove}
use Rattle.lib_core.specs.declared.library.Group.{Group}
use Rattle.lib_core.specs.declared.library.Variant.{Variant}
use Rattle.lib_core.specs.Rams.{kind_writes}
use Rattle.net_core.specs.declared.bits.Bit.{Bit}
use Rattle.net_core.specs.declared.bits.Bit.TheVariants.{Zero as Low, Net}
use Rattle.net_core.specs.declared.mems.Mem.{Mem}
use Rattle.net_core.specs.declared.mems.RdPort.{RdPort}
use Rattle.net_core.specs.declared.mems.WrPort.{WrPort}
use Rattle.net_core.specs.declared.modules.Module.{Module}
use Rattle.net_core.specs.declared.modules.MemPart.{MemPart}
use Rattle.net_core.specs.declared.rams.RamCell.{RamCell}
use Rattle.net_core.specs.declared.rams.SlotUse.{SlotUse}
use Rattle.net_core.specs.Nodes.{HasNet}
use Rattle.net_core.specs.Pins.{comb_bits, reg_bits, read_bits, write_bits, mem_bits, slot_bits, ram_bits, inner_bits}
use Rattle.net_core.specs.Ports.{bits_of_pins}
use Rattle.net_core.specs.Valid.{MemFits}
use Rattle.geom_core.specs.declared.candidates.RamChoice.{RamChoice}
use Rattle.ram_emit.specs.Cell.{padded, word_bits, no_value, no_enable, enable, uses_from, nets_from, cell_of}
use Rattle.ram_emit.specs.Placing.{placed_in}
use Rattle.ram_emit.proofs.Given.{PlainParts}
use Rattle.ram_emit.proofs.Agreeing.{all_stand}
use Rattle.ram_emit.proofs.Simulated.{one_write}
use Rattle.ram_emit.proofs.Ordered.{one_read, no_net, no_zero, padded_net}
use Rattle.ram_emit.proofs.Uses.{EachKind, every_use}
use Rattle.ram_emit.proofs.Placed.{Has, has_left, has_right, has_either, has_none, has_first, flat_has, has_flat, removed_has}

no_low : (n : ℕ) → Low ≡ Net n → ⊥
no_low n e = cc

empty_if : (b : Bool) (xs : List Bit) (n : ℕ) → (HasNet xs n → ⊥) → HasNet (cond b xs []) n → ⊥
empty_if true xs n none h = none h
empty_if false xs n none h = has_none (Net n) h

enable_has : (en : List Bit) (n : ℕ) → HasNet (get_or en 0 Low ∷ []) n → HasNet en n
enable_has [] n h = absurd (no_zero n h)
enable_has (b ∷ en) n h = elim (has_first b (Net n) [] h) [ inl e ↦ (0, ap Some e) | inr g ↦ absurd (has_none (Net n) g) ]

-- the four pins of one bit are 0
pins_only : (rest : List Bit) (n : ℕ) → HasNet (Low ∷ Low ∷ Low ∷ Low ∷ rest) n → HasNet rest n
pins_only rest n h = elim (has_first Low (Net n) (Low ∷ Low ∷ Low ∷ rest) h) [
  | inl e ↦ absurd (no_low n e)
  | inr a ↦ elim (has_first Low (Net n) (Low ∷ Low ∷ rest) a) [
    | inl e ↦ absurd (no_low n e)
    | inr b ↦ elim (has_first Low (Net n) (Low ∷ rest) b) [
      | inl e ↦ absurd (no_low n e)
      | inr d ↦ elim (has_first Low (Net n) rest d) [ inl e ↦ absurd (no_low n e) | inr f ↦ f ]
    ]
  ]
]

-- of four lists
four : {T : Type 0} (a b d e : List Bit) (n : ℕ) → (HasNet a n → T) → (HasNet b n → T) → (HasNet d n → T) → (HasNet e n → T) → HasNet (a ++ (b ++ (d ++ e))) n → T
four a b d e n fa fb fd fe h = elim (has_either a (b ++ (d ++ e)) (Net n) h) [
  | inl x ↦ fa x
  | inr y ↦ elim (has_either b (d ++ e) (Net n) y) [
    | inl x ↦ fb x
    | inr z ↦ elim (has_either d e (Net n) z) [ inl x ↦ fd x | inr x ↦ fe x ]
  ]
]

module _ (m : Mem) (c : RamChoice) (x : Variant) (parts : PlainParts m c x) (valid : MemFits m) (first : ℕ) where
  abbrev Reads : SlotUse → Type 0
  Reads s = (n : ℕ) → HasNet (slot_bits s) n → HasNet (mem_bits m) n

  of_write : (p : WrPort) (n : ℕ) → parts.write ≡ p → HasNet (write_bits p) n → HasNet (mem_bits m) n
  of_write p n e h =
      let there : Has m.writes p = (0, ap (λ ws. slice_get ws 0) parts.writes ∙ ap Some e) in
      has_right (flat_map read_bits m.reads) (flat_map write_bits m.writes) (Net n) (has_flat write_bits m.writes p (Net n) there h)

  of_read : (p : RdPort) (n : ℕ) → parts.read ≡ p → HasNet (read_bits p) n → HasNet (mem_bits m) n
  of_read p n e h =
      let there : Has m.reads p = (0, ap (λ rs. slice_get rs 0) parts.reads ∙ ap Some e) in
      has_left (flat_map read_bits m.reads) (flat_map write_bits m.writes) (Net n) (has_flat read_bits m.reads p (Net n) there h)

  from_write : (p : WrPort) (n : ℕ) → parts.write ≡ p → HasNet (Low ∷ Low ∷ Low ∷ Low ∷ (padded p.addr x.abits ++ (padded p.value (word_bits x) ++ (enable p ++ [])))) n → HasNet (mem_bits m) n
  from_write p n e h =
      four (padded p.addr x.abits) (padded p.value (word_bits x)) (enable p) [] n
      (λ a. of_write p n e (has_right p.en (p.addr ++ p.value) (Net n) (has_left p.addr p.value (Net n) (padded_net p.addr x.abits n a))))
      (λ a. of_write p n e (has_right p.en (p.addr ++ p.value) (Net n) (has_right p.addr p.value (Net n) (padded_net p.value (word_bits x) n a))))
      (λ a. of_write p n e (has_left p.en (p.addr ++ p.value) (Net n) (enable_has p.en n a)))
      (λ a. absurd (has_none (Net n) a))
      (pins_only (padded p.addr x.abits ++ (padded p.value (word_bits x) ++ (enable p ++ []))) n h)

  no_values : (g : Group) (n : ℕ) → HasNet (no_value x g) n → ⊥
  no_values g n h = empty_if (kind_writes g.kind) (replicate (word_bits x) Low) n (no_net (word_bits x) n) h

  no_enables : (g : Group) (n : ℕ) → HasNet (no_enable g) n → ⊥
  no_enables g n h = empty_if (kind_writes g.kind) (Low ∷ []) n (no_zero n) h

  from_read : (p : RdPort) (g : Group) (n : ℕ) → parts.read ≡ p → HasNet (Low ∷ Low ∷ Low ∷ Low ∷ (padded p.addr x.abits ++ (no_value x g ++ (no_enable g ++ [])))) n → HasNet (mem_bits m) n
  from_read p g n e h =
      four (padded p.addr x.abits) (no_value x g) (no_enable g) [] n
      (λ a. of_read p n e (has_right (p.en ∷ p.arst ∷ p.srst ∷ []) p.addr (Net n) (padded_net p.addr x.abits n a)))
      (λ a. absurd (no_values g n a))
      (λ a. absurd (no_enables g n a))
      (λ a. absurd (has_none (Net n) a))
      (pins_only (padded p.addr x.abits ++ (no_value x g ++ (no_enable g ++ []))) n h)

  from_idle : (g : Group) (n : ℕ) → HasNet (Low ∷ Low ∷ Low ∷ Low ∷ (replicate x.abits Low ++ (no_value x g ++ (no_enable g ++ [])))) n → HasNet (mem_bits m) n
  from_idle g n h =
      four (replicate x.abits Low) (no_value x g) (no_enable g) [] n
      (λ a. absurd (no_net x.abits n a))
      (λ a. absurd (no_values g n a))
      (λ a. absurd (no_enables g n a))
      (λ a. absurd (has_none (Net n) a))
      (pins_only (replicate x.abits Low ++ (no_value x g ++ (no_enable g ++ []))) n h)

  bit_kinds : EachKind x parts.variant.byte m c first (first + nets_from x m c 0 x.groups) Reads
  bit_kinds = record {
    idle = λ g next met lower upper n h. from_idle g n h;
    write = λ g next k p r stands at lower upper n h. from_write p n (one_write m.writes c.writes parts.write p k parts.own parts.writes parts.groups at) h;
    read = λ g next k p stands at lower upper n h. from_read p g n (one_read m.reads c.reads parts.read p k parts.spot parts.reads parts.places at) h;
  }

  slot_reads : (j : ℕ) (s : SlotUse) → slice_get (uses_from x m c 0 x.groups first) j ≡ Some s → Reads s
  slot_reads = every_use x parts.variant.byte m c first (first + nets_from x m c 0 x.groups) Reads bit_kinds x.groups 0 first (all_stand m c x parts valid) (omega arith) (omega arith)

  pub cell_reads : (name : List ℕ) (n : ℕ) → HasNet (ram_bits (cell_of x m c name first)) n → HasNet (mem_bits m) n
  cell_reads name n h = let (s, (j, at), inside) = flat_has slot_bits (uses_from x m c 0 x.groups first) (Net n) h in slot_reads j s at n inside

-- a bit inside the new module is one inside the old
pub inside_old : (m : Module) (i : ℕ) (y : Mem) (cell : RamCell) (nets n : ℕ) → slice_get m.mems i ≡ Some y → ((k : ℕ) → HasNet (ram_bits cell) k → HasNet (mem_bits y) k) → HasNet (inner_bits (placed_in m i cell nets)) n → HasNet (inner_bits m) n
inside_old m i y cell nets n there reads h =
    let combs = flat_map comb_bits m.combs in
    let regs = flat_map reg_bits m.regs in
    let mems = flat_map mem_bits m.mems in
    let rams = flat_map ram_bits m.rams in
    let others = flat_map (λ (p : MemPart). bits_of_pins p.pins) m.parts in
    let left_mems = flat_map mem_bits (remove m.mems i) in
    let more_rams = flat_map ram_bits (m.rams ++ cell ∷ []) in
    elim (has_either combs (regs ++ (left_mems ++ (more_rams ++ others))) (Net n) h) [
      | inl a ↦ has_left combs (regs ++ (mems ++ (rams ++ others))) (Net n) a
      | inr b ↦ has_right combs (regs ++ (mems ++ (rams ++ others))) (Net n) (elim (has_either regs (left_mems ++ (more_rams ++ others)) (Net n) b) [
        | inl a ↦ has_left regs (mems ++ (rams ++ others)) (Net n) a
        | inr d ↦ has_right regs (mems ++ (rams ++ others)) (Net n) (elim (has_either left_mems (more_rams ++ others) (Net n) d) [
          | inl a ↦ let (z, at, inside) = flat_has mem_bits (remove m.mems i) (Net n) a in has_left mems (rams ++ others) (Net n) (has_flat mem_bits m.mems z (Net n) (removed_has m.mems i z at) inside)
          | inr f ↦ elim (has_either more_rams others (Net n) f) [
            | inr a ↦ has_right mems (rams ++ others) (Net n) (has_right rams others (Net n) a)
            | inl a ↦
                let (z, at, inside) = flat_has ram_bits (m.rams ++ cell ∷ []) (Net n) a in
                elim (has_either m.rams (cell ∷ []) z at) [
                  | inl old ↦ has_right mems (rams ++ others) (Net n) (has_left rams others (Net n) (has_flat ram_bits m.rams z (Net n) old inside))
                  | inr own ↦
                      let same : cell ≡ z = elim (has_first cell z [] own) [ inl e ↦ e | inr g ↦ absurd (has_none z g) ] in
                      has_left mems (rams ++ others) (Net n) (has_flat mem_bits m.mems y (Net n) (i, there) (reads n (subst (λ (r : RamCell). HasNet (ram_bits r) n) (sym same) inside)))
                ]
          ]
        ])
      ])
    ]
