-- What of a clocked read stands in a RAM's register and what outside. Where the group reads at once, the whole register
-- stands outside. Else the items of the read are an enable that is not constant 1, a synchronous and an asynchronous reset
-- that are not constant 0, and a start value with a defined bit; each is native, or it is emulated outside.
use Rattle.std.specs.Prelude.{ℕ, ◌+◌, Bool, true, false, cond, not, ◌&&◌, ◌||◌, List, Option, Some, None}
use Rattle.std.specs.List.{list_all, list_any}
use Rattle.lib_core.specs.declared.library.Tri.{Tri}
use Rattle.lib_core.specs.declared.library.Tri.TheVariants as tri
use Rattle.lib_core.specs.declared.library.Fill.{Fill}
use Rattle.lib_core.specs.declared.library.Fill.TheVariants as fill
use Rattle.lib_core.specs.declared.library.Group.{Group}
use Rattle.lib_core.specs.Rams.{reads_now, reads_later, has_fill}
use Rattle.net_core.specs.declared.bits.Clock.{Clock}
use Rattle.net_core.specs.declared.mems.RdPort.{RdPort}
use Rattle.net_core.specs.Shape.{is_zero, is_one, is_defined, is_read_register}
use Rattle.fit_pairs.specs.Placed.{Reader}

-- the read has a clock, and the group reads at once
abbrev pub register_outside : Option Clock → Group → Bool
register_outside None g = false
register_outside (Some c) g = reads_now g.kind

-- the read has a clock, and the group reads into a register
abbrev pub register_inside : Option Clock → Group → Bool
register_inside None g = false
register_inside (Some c) g = reads_later g.kind

-- An enable is native with a read enable; a port that only reads has it by its clock enable.
abbrev pub enable_native : Group → Bool
enable_native g = g.rden || (is_read_register g.kind && g.clken)

abbrev pub enable_emulated : Reader → Bool
enable_emulated r = register_inside r.port.clock r.kind && (not (is_one r.port.en) && not (enable_native r.kind))

-- the fill can give the value: none only what is left open, zero what has no 1, the others all
abbrev pub is_open : Tri → Bool
is_open tri.Zero = false
is_open tri.One = false
is_open tri.Any = true

abbrev pub is_low_or_open : Tri → Bool
is_low_or_open tri.Zero = true
is_low_or_open tri.One = false
is_low_or_open tri.Any = true

abbrev pub fill_admits : Fill → List Tri → Bool
fill_admits fill.Nothing value = list_all is_open value
fill_admits fill.Zero value = list_all is_low_or_open value
fill_admits fill.Any value = true
fill_admits fill.NoUndef value = true

-- Where the enable is emulated every other item is. Else a reset or a start is native where the group's fill admits its
-- value; an asynchronous reset under the fill none never is.
abbrev pub srst_emulated : Reader → Bool
srst_emulated r = not (is_zero r.port.srst) && (enable_emulated r || not (fill_admits r.kind.srst r.port.srst_value))

abbrev pub arst_emulated : Reader → Bool
arst_emulated r = not (is_zero r.port.arst) && (enable_emulated r || not (has_fill r.kind.arst && fill_admits r.kind.arst r.port.arst_value))

abbrev pub has_start : RdPort → Bool
has_start p = list_any is_defined p.init_value

abbrev pub start_emulated : Reader → Bool
start_emulated r = has_start r.port && (enable_emulated r || not (fill_admits r.kind.start r.port.init_value))

abbrev pub one_where : Bool → ℕ
one_where there = cond there 1 0

-- how many items are emulated, of a read whose register is inside
abbrev pub emulated_items : Reader → ℕ
emulated_items r = one_where (enable_emulated r) + one_where (srst_emulated r) + one_where (arst_emulated r) + one_where (start_emulated r)

-- how many registers of its data's width stand outside for a read
abbrev pub outside_parts : Reader → ℕ
outside_parts r = cond (register_outside r.port.clock r.kind) 1 (cond (register_inside r.port.clock r.kind) (emulated_items r) 0)
