-- What inverters invert is there.
use Rattle.std.proofs.Common.{ℕ, Bool, true, false, cond, List, [], ◌∷◌, ◌++◌, Option, Some, codes}
use Rattle.std.specs.List.{flat_map}
use Rattle.std.specs.Str.{bytes_eq}
use Rattle.net_wires.specs.declared.clock.Inverter.{Inverter}
use Rattle.net_wires.specs.declared.source.Source.{Source}
use Rattle.net_wires.specs.declared.source.Source.TheVariants as source
use Rattle.net_wires.specs.Clocks.{InvertersWithin}
use Rattle.net_wires.specs.Links.{IsWithin, SourcesWithin}
use Rattle.raw_cells.specs.declared.raw.CellShape.{CellShape}
use Rattle.raw_cells.specs.declared.raw.CellShape.TheVariants as shape
use Rattle.raw_cells.specs.declared.raw.RawCell.{RawCell}
use Rattle.raw_cells.specs.declared.raw.RawPin.{RawPin}
use Rattle.net_gather.specs.Laws.{CellsWithin}
use Rattle.net_checks.specs.ClockPins.{bit_above, bits_at, bits_of_pin, cell_inverters, inverter, inverters_between, is_not, last_bit, not_inverters, pin_named, shape_inverters}
use Rattle.net_checks.proofs.Within.{PinsIn}

both : (n : ℕ) (xs ys : List Inverter) → InvertersWithin n xs → InvertersWithin n ys → InvertersWithin n (xs ++ ys)
both n [] ys a b = b
both n (x ∷ xs) ys a b = (a.0, both n xs ys a.1 b)

one : (n : ℕ) (from to : Source) → IsWithin n from → InvertersWithin n (inverter from to)
one n from source.Zero w = tt
one n from source.One w = tt
one n from source.Loose w = tt
one n from (source.At p) w = (w, tt)

between : (n : ℕ) (above : Source) (xs ys : List Source) → IsWithin n above → SourcesWithin n xs → InvertersWithin n (inverters_between above xs ys)
between n above xs [] a w = tt
between n above [] (y ∷ ys) a w = both n (inverter above y) (inverters_between above [] ys) (one n above y a) (between n above [] ys a tt)
between n above (x ∷ xs) (y ∷ ys) a w = both n (inverter x y) (inverters_between above xs ys) (one n x y w.0) (between n above xs ys a w.1)

last_within : (n : ℕ) (other : Source) (ss : List Source) → IsWithin n other → SourcesWithin n ss → IsWithin n (last_bit other ss)
last_within n other [] o w = o
last_within n other (s ∷ ss) o w = last_within n s ss w.0 w.1

above_within : (n : ℕ) (signed : Bool) (ss : List Source) → SourcesWithin n ss → IsWithin n (bit_above signed ss)
above_within n true ss w = last_within n source.Zero ss tt w
above_within n false ss w = tt

found_step : (n : ℕ) (test : Bool) (p : RawPin) (o : Option RawPin) → SourcesWithin n p.bits → SourcesWithin n (bits_of_pin o) → SourcesWithin n (bits_of_pin (cond test (Some p) o))
found_step n true p o a b = a
found_step n false p o a b = b

at_within : (n : ℕ) (name : List ℕ) (ps : List RawPin) → PinsIn n ps → SourcesWithin n (bits_at ps name)
at_within n name [] w = tt
at_within n name (p ∷ ps) w = found_step n (bytes_eq p.name name) p (pin_named ps name) w.0 (at_within n name ps w.1)

not_within : (n : ℕ) (signed : Bool) (ps : List RawPin) → PinsIn n ps → InvertersWithin n (not_inverters signed ps)
unfolding not_inverters
not_within n signed ps w =
    let a = at_within n (codes "\\A") ps w in between n (bit_above signed (bits_at ps (codes "\\A"))) (bits_at ps (codes "\\A")) (bits_at ps (codes "\\Y")) (above_within n signed (bits_at ps (codes "\\A")) a) a

if_within : (n : ℕ) (on : Bool) (is : List Inverter) → InvertersWithin n is → InvertersWithin n (cond on is [])
if_within n true is w = w
if_within n false is w = tt

shape_within : (n : ℕ) (s : CellShape) (ps : List RawPin) → PinsIn n ps → InvertersWithin n (shape_inverters s ps)
shape_within n (shape.Comb r) ps w = if_within n (is_not r.kind) (not_inverters r.a_signed ps) (not_within n r.a_signed ps w)
shape_within n (shape.Reg r) ps w = tt
shape_within n (shape.Carried k) ps w = tt
shape_within n (shape.Memory k r) ps w = tt
shape_within n (shape.Ram u) ps w = tt

pub inverters_within : (n : ℕ) (cs : List RawCell) → CellsWithin n cs → InvertersWithin n (flat_map cell_inverters cs)
inverters_within n [] w = tt
inverters_within n (c ∷ cs) w = both n (cell_inverters c) (flat_map cell_inverters cs) (shape_within n c.shape c.pins w.0) (inverters_within n cs w.1)
