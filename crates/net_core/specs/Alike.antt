-- Cells that two waves show alike: their pins read the same values, their clocks have the same edges, and they drive nets of
-- the same values. All else about them is equal.
use Rattle.std.specs.Prelude.{◌≡◌, ℕ, Bool, List, [], ◌∷◌, length, Option, Some, None, slice_get}
use Rattle.net_core.specs.declared.bits.Bit.{Bit}
use Rattle.net_core.specs.declared.bits.Clock.{Clock}
use Rattle.net_core.specs.declared.cells.Comb.{Comb}
use Rattle.net_core.specs.declared.cells.Reg.{Reg}
use Rattle.net_core.specs.declared.mems.Mem.{Mem}
use Rattle.net_core.specs.declared.mems.RdPort.{RdPort}
use Rattle.net_core.specs.declared.mems.WrPort.{WrPort}
use Rattle.net_core.specs.declared.rams.SlotUse.{SlotUse}
use Rattle.net_core.specs.declared.rams.RamCell.{RamCell}
use Rattle.net_core.specs.Values.{Wave, Happening, value_of, values_of, has_edge}
use Rattle.net_core.specs.Cells.{CombAllows, RegAllows}
use Rattle.net_core.specs.Memory.{MemAllows}
use Rattle.net_core.specs.Ram.{RamAllows}
use Rattle.lib_core.specs.declared.library.Variant.{Variant}

-- a bit under the first wave has the value of the other under the second, at each moment
abbrev pub SameBit : Wave → Wave → Bit → Bit → Type 0
SameBit v w b c = (t : ℕ) → value_of (w t) c ≡ value_of (v t) b

abbrev pub SameBits : Wave → Wave → List Bit → List Bit → Type 0
SameBits v w bs cs = (t : ℕ) → values_of (w t) cs ≡ values_of (v t) bs

-- each net of the second list has the value of the net at its place in the first
abbrev pub SameNets : Wave → Wave → List ℕ → List ℕ → Type 0
SameNets v w ns os = (k o : ℕ) → slice_get os k ≡ Some o → (n : ℕ) × (slice_get ns k ≡ Some n) × ((t : ℕ) → w t o ≡ v t n)

abbrev pub SamePlaces : Wave → Wave → List Bit → List Bit → Type 0
SamePlaces v w bs cs = (k : ℕ) (c : Bit) → slice_get cs k ≡ Some c → (b : Bit) × (slice_get bs k ≡ Some b) × SameBit v w b c

-- the clocks have their edges at the same moments, each with its own inputs
abbrev pub SameClock : List ℕ → List ℕ → Clock → Clock → Type 0
SameClock ins outs c d = (e : Option (ℕ × Bool)) → has_edge outs e d ≡ has_edge ins e c

abbrev pub SameReadClock : List ℕ → List ℕ → Option Clock → Option Clock → Type 0
SameReadClock ins outs None None = Unit {0}
SameReadClock ins outs None (Some d) = ⊥
SameReadClock ins outs (Some c) None = ⊥
SameReadClock ins outs (Some c) (Some d) = SameClock ins outs c d

pub record CombsAlike (v w : Wave) (c d : Comb) : Type 0 where
  pub kind : d.kind ≡ c.kind
  pub signed : d.signed ≡ c.signed
  pub a : SameBits v w c.a d.a
  pub b : SameBits v w c.b d.b
  pub s : SameBits v w c.s d.s
  pub width : length d.y ≡ length c.y
  pub y : SameNets v w c.y d.y

-- The first inputs and wave are those of the first cell.
pub record RegsAlike (ins outs : List ℕ) (v w : Wave) (r p : Reg) : Type 0 where
  pub kind : p.kind ≡ r.kind
  pub clock : SameClock ins outs r.clock p.clock
  pub en : SameBit v w r.en p.en
  pub en_high : p.en_high ≡ r.en_high
  pub arst : SameBit v w r.arst p.arst
  pub arst_high : p.arst_high ≡ r.arst_high
  pub arst_value : p.arst_value ≡ r.arst_value
  pub srst : SameBit v w r.srst p.srst
  pub srst_high : p.srst_high ≡ r.srst_high
  pub srst_value : p.srst_value ≡ r.srst_value
  pub init : p.init ≡ r.init
  pub d : SamePlaces v w r.d p.d
  pub q : SameNets v w r.q p.q

pub record ReadsAlike (ins outs : List ℕ) (v w : Wave) (r p : RdPort) : Type 0 where
  pub clock : SameReadClock ins outs r.clock p.clock
  pub en : SameBit v w r.en p.en
  pub addr : SameBits v w r.addr p.addr
  pub out : SameNets v w r.out p.out
  pub arst : SameBit v w r.arst p.arst
  pub srst : SameBit v w r.srst p.srst
  pub arst_value : p.arst_value ≡ r.arst_value
  pub srst_value : p.srst_value ≡ r.srst_value
  pub init_value : p.init_value ≡ r.init_value
  pub ce_over_srst : p.ce_over_srst ≡ r.ce_over_srst
  pub trans : p.trans ≡ r.trans
  pub coll : p.coll ≡ r.coll

pub record WriteAlike (ins outs : List ℕ) (v w : Wave) (r p : WrPort) : Type 0 where
  pub wide : p.wide ≡ r.wide
  pub prio : p.prio ≡ r.prio
  pub clock : SameClock ins outs r.clock p.clock
  pub en : SameBits v w r.en p.en
  pub addr : SameBits v w r.addr p.addr
  pub value : SameBits v w r.value p.value

abbrev pub WritesAlike : List ℕ → List ℕ → Wave → Wave → List WrPort → List WrPort → Type 0
WritesAlike ins outs v w [] [] = Unit {0}
WritesAlike ins outs v w [] (p ∷ ps) = ⊥
WritesAlike ins outs v w (r ∷ rs) [] = ⊥
WritesAlike ins outs v w (r ∷ rs) (p ∷ ps) = WriteAlike ins outs v w r p × WritesAlike ins outs v w rs ps

pub record MemsAlike (ins outs : List ℕ) (v w : Wave) (x y : Mem) : Type 0 where
  pub width : y.width ≡ x.width
  pub size : y.size ≡ x.size
  pub offset : y.offset ≡ x.offset
  pub init : y.init ≡ x.init
  pub writes : WritesAlike ins outs v w x.writes y.writes
  pub reads : (j : ℕ) (p : RdPort) → slice_get y.reads j ≡ Some p → (r : RdPort) × (slice_get x.reads j ≡ Some r) × ReadsAlike ins outs v w r p

pub record UseAlike (ins outs : List ℕ) (v w : Wave) (s p : SlotUse) : Type 0 where
  pub used : p.used ≡ s.used
  pub level : p.level ≡ s.level
  pub clock : SameClock ins outs s.clock p.clock
  pub clken : SameBit v w s.clken p.clken
  pub addr : SameBits v w s.addr p.addr
  pub rden : SameBit v w s.rden p.rden
  pub srst : SameBit v w s.srst p.srst
  pub arst : SameBit v w s.arst p.arst
  pub out : SameNets v w s.out p.out
  pub value : SameBits v w s.value p.value
  pub wren : SameBits v w s.wren p.wren
  pub wrbe : SameBits v w s.wrbe p.wrbe
  pub srst_value : p.srst_value ≡ s.srst_value
  pub arst_value : p.arst_value ≡ s.arst_value
  pub init_value : p.init_value ≡ s.init_value

abbrev pub UsesAlike : List ℕ → List ℕ → Wave → Wave → List SlotUse → List SlotUse → Type 0
UsesAlike ins outs v w [] [] = Unit {0}
UsesAlike ins outs v w [] (p ∷ ps) = ⊥
UsesAlike ins outs v w (s ∷ ss) [] = ⊥
UsesAlike ins outs v w (s ∷ ss) (p ∷ ps) = UseAlike ins outs v w s p × UsesAlike ins outs v w ss ps

pub record RamsAlike (ins outs : List ℕ) (v w : Wave) (c d : RamCell) : Type 0 where
  pub slots : UsesAlike ins outs v w c.slots d.slots
  pub init : d.init ≡ c.init

-- The law: of cells that are alike under two waves, the second allows the second wave where the first allows the first.
abbrev pub AlikeAllowedAlike : Type 0
AlikeAllowedAlike =
    (ins outs : List ℕ) (events : List Happening) (v w : Wave) → ((c d : Comb) → CombsAlike v w c d → CombAllows c events v → CombAllows d events w) × ((r p : Reg) → RegsAlike ins outs v w r p → RegAllows ins r events v → RegAllows outs p events w) × ((x y : Mem) → MemsAlike ins outs v w x y → MemAllows ins x events v → MemAllows outs y events w) × ((x : Variant) (c d : RamCell) → RamsAlike ins outs v w c d → RamAllows ins x c events v → RamAllows outs x d events w)
