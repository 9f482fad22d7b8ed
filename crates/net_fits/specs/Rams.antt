-- What the laws take RAM cells to be, however they are made.
use Rattle.std.specs.Prelude.{◌≡◌, ◌≤◌, ◌<◌, ℕ, Bool, false, List, [], ◌∷◌, nat_eq, if◌then◌else◌}
use Rattle.std.specs.List.{count_by, flat_map}
use Rattle.rtlil_text.specs.Grammar.{All}
use Rattle.net_core.specs.declared.bits.Bit.{Bit}
use Rattle.net_core.specs.declared.bits.Bit.TheVariants as bits
use Rattle.net_core.specs.declared.rams.RamCell.{RamCell}
use Rattle.net_core.specs.declared.rams.SlotUse.{SlotUse}
use Rattle.net_core.specs.Pins.{ram_bits}
use Rattle.net_wires.specs.declared.source.Source.{Source}
use Rattle.raw_cells.specs.declared.raw.CellShape.{CellShape}
use Rattle.raw_cells.specs.declared.raw.CellShape.TheVariants as shape
use Rattle.raw_cells.specs.declared.raw.RawCell.{RawCell}
use Rattle.raw_cells.specs.declared.raw.RawPin.{RawPin}
use Rattle.raw_cells.specs.Bits.{bits_of}

-- what stands at the pins that a cell drives
abbrev pub pin_sources : RawPin → List Source
pin_sources p = if p.drives then p.bits else []

abbrev pub driving_sources : List RawPin → List Source
driving_sources ps = flat_map pin_sources ps

-- the bit is this net
abbrev pub is_this : ℕ → Bit → Bool
is_this n bits.Zero = false
is_this n bits.One = false
is_this n (bits.Net k) = nat_eq n k

abbrev pub IsBelow : ℕ → Bit → Type 0
IsBelow count bits.Zero = Unit {0}
IsBelow count bits.One = Unit {0}
IsBelow count (bits.Net n) = n < count

-- the nets that the slots show
abbrev pub outs_of : RamCell → List ℕ
outs_of c = flat_map (λ (s : SlotUse). s.out) c.slots

-- A cell of a RAM is made of a gathered cell: it has its name, its slots show no net more often than the pins that the cell drives
-- have it, and its nets are those of the module, which has so many.
pub record IsRamOf (places : List Bit) (count : ℕ) (c : RawCell) (r : RamCell) : Type 0 where
  pub name : r.name ≡ c.name
  pub shows : (n : ℕ) → count_by (nat_eq n) (outs_of r) ≤ count_by (is_this n) (bits_of places (driving_sources c.pins))
  pub bits : All (IsBelow count) (ram_bits r)
  pub outs : All (λ n. n < count) (outs_of r)

abbrev pub ram_by : CellShape → RawCell → List RawCell
ram_by (shape.Comb r) c = []
ram_by (shape.Reg r) c = []
ram_by (shape.Carried k) c = []
ram_by (shape.Memory k r) c = []
ram_by (shape.Ram u) c = c ∷ []

-- the gathered cells of RAMs
abbrev pub ram_cells : List RawCell → List RawCell
ram_cells cs = flat_map (λ (c : RawCell). ram_by c.shape c) cs

abbrev pub EachRamOf : List Bit → ℕ → List RawCell → List RamCell → Type 0
EachRamOf places count [] [] = Unit {0}
EachRamOf places count [] (r ∷ rs) = ⊥
EachRamOf places count (c ∷ cs) [] = ⊥
EachRamOf places count (c ∷ cs) (r ∷ rs) = IsRamOf places count c r × EachRamOf places count cs rs

-- one for each gathered cell of a RAM, in their order
abbrev pub AreRams : List Bit → ℕ → List RawCell → List RamCell → Type 0
AreRams places count cs rams = EachRamOf places count (ram_cells cs) rams
