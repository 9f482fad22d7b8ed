-- The shape of a RAM cell under a library: it has a variant, and pins, parameters and levels as the variant has them; values
-- that have to be written are, and ports that are not used are tied.
use Rattle.std.specs.Prelude.{ℕ, ◌*◌, Bool, true, false, cond, not, ◌&&◌, ◌||◌, List, [], ◌∷◌, length, Option, Some, None, nat_eq, nat_le, take, drop}
use Rattle.std.specs.List.{list_all, list_any, find}
use Rattle.lib_core.specs.declared.library.Tri.{Tri}
use Rattle.lib_core.specs.declared.library.Tri.TheVariants as tri
use Rattle.lib_core.specs.declared.library.Fill.{Fill}
use Rattle.lib_core.specs.declared.library.Fill.TheVariants as fill
use Rattle.lib_core.specs.declared.library.PortKind.{PortKind}
use Rattle.lib_core.specs.declared.library.PortKind.TheVariants.{Ar, Sr, Sw, Arsw, Srsw}
use Rattle.lib_core.specs.declared.library.Group.{Group}
use Rattle.lib_core.specs.declared.library.Variant.{Variant}
use Rattle.lib_core.specs.declared.library.Library.{Library}
use Rattle.lib_core.specs.Rams.{width_at, last_words, last_width, kind_reads, kind_writes, kind_clocked, lanes, has_fill, takes_value}
use Rattle.net_core.specs.declared.bits.Bit.{Bit}
use Rattle.net_core.specs.declared.bits.Bit.TheVariants.{Zero, One, Net}
use Rattle.net_core.specs.declared.bits.Clock.{Clock}
use Rattle.net_core.specs.declared.bits.Clock.TheVariants.{Root, Never}
use Rattle.net_core.specs.declared.rams.SlotUse.{SlotUse}
use Rattle.net_core.specs.declared.rams.RamCell.{RamCell}
use Rattle.net_core.specs.Runs.{variant_of}

abbrev pub is_zero : Bit → Bool
is_zero Zero = true
is_zero One = false
is_zero (Net n) = false

abbrev pub is_one : Bit → Bool
is_one Zero = false
is_one One = true
is_one (Net n) = false

abbrev pub is_never : Clock → Bool
is_never Never = true
is_never (Root net rising) = false

abbrev pub is_low : Tri → Bool
is_low tri.Zero = true
is_low tri.One = false
is_low tri.Any = false

abbrev pub is_defined : Tri → Bool
is_defined tri.Zero = true
is_defined tri.One = true
is_defined tri.Any = false

abbrev pub has_length : {X : Type 0} → List X → ℕ → Bool
has_length xs n = nat_eq (length xs) n

-- a list of a length where the variant has it, and empty where it does not
abbrev pub has_where : {X : Type 0} → Bool → List X → ℕ → Bool
has_where there xs n = has_length xs (cond there n 0)

-- a pin that the variant does not have is 0
abbrev pub zero_unless : Bool → Bit → Bool
zero_unless there pin = there || is_zero pin

-- the value of a fill that takes one has this length, and where each bit has to be written it is
abbrev pub written_out : Fill → List Tri → Bool
written_out fill.Nothing value = true
written_out fill.Zero value = true
written_out fill.Any value = true
written_out fill.NoUndef value = list_all is_defined value

abbrev pub value_fits : Fill → List Tri → ℕ → Bool
value_fits f value width = has_where (takes_value f) value width && written_out f value

abbrev pub slot_width : Variant → SlotUse → ℕ
slot_width x s = width_at x.widths s.level

-- each pin has its width
abbrev pub pins_fit : Variant → Group → SlotUse → Bool
pins_fit x g s =
    has_length s.addr x.abits
    && (has_where (kind_reads g.kind) s.out (slot_width x s)
    && (has_where (kind_writes g.kind) s.value (slot_width x s)
    && (has_where (kind_writes g.kind) s.wren (cond g.separate 1 (lanes x.byte (slot_width x s)))
    && has_where (kind_writes g.kind && g.separate) s.wrbe (lanes x.byte (slot_width x s)))))

-- pins of one bit stand only where the group has them
abbrev pub controls_fit : Group → SlotUse → Bool
controls_fit g s =
    (kind_clocked g.kind || is_never s.clock)
    && (zero_unless g.clken s.clken
    && (zero_unless g.rden s.rden
    && (zero_unless (has_fill g.srst) s.srst
    && zero_unless (has_fill g.arst) s.arst)))

abbrev pub values_fit : Variant → Group → SlotUse → Bool
values_fit x g s =
    value_fits g.srst s.srst_value (slot_width x s)
    && (value_fits g.arst s.arst_value (slot_width x s)
    && value_fits g.start s.init_value (slot_width x s))

-- the level is one that the group has
abbrev pub level_fits : Group → SlotUse → Bool
level_fits g s = list_any (λ l. nat_eq s.level l) g.levels

-- a read register alone, whose clock enable is the only enable
abbrev pub is_read_register : PortKind → Bool
is_read_register Ar = false
is_read_register Sr = true
is_read_register Sw = false
is_read_register Arsw = false
is_read_register Srsw = false

abbrev pub reads_by_clken : Group → Bool
reads_by_clken g = is_read_register g.kind && not g.rden

-- with byte enables apart the write enable is constant, and where it is 0 each byte enable is
abbrev pub separate_fits : List Bit → List Bit → Bool
separate_fits wren wrbe = list_all is_one wren || (list_all is_zero wren && list_all is_zero wrbe)

-- a port in use
abbrev pub used_fits : Group → SlotUse → Bool
used_fits g s =
    (not g.clken || (reads_by_clken g || is_one s.clken))
    && (not g.separate || separate_fits s.wren s.wrbe)

-- a port that is not in use: its inputs and values are 0, and its level is the least of its group
abbrev pub unused_fits : Group → SlotUse → Bool
unused_fits g s =
    is_never s.clock
    && (is_zero s.clken
    && (is_zero s.rden
    && (is_zero s.srst
    && (is_zero s.arst
    && (list_all is_zero s.addr
    && (list_all is_zero s.value
    && (list_all is_zero s.wren
    && (list_all is_zero s.wrbe
    && (list_all is_low s.srst_value
    && (list_all is_low s.arst_value
    && (list_all is_low s.init_value
    && list_all (λ l. nat_le s.level l) g.levels)))))))))))

abbrev pub slot_fits : Variant → Group → SlotUse → Bool
slot_fits x g s =
    pins_fit x g s && (controls_fit g s && (values_fit x g s && (level_fits g s && cond s.used (used_fits g s) (unused_fits g s))))

-- the slots are one for each name of each group, in their order, and each fits
abbrev pub slots_fit : Variant → List Group → List SlotUse → Bool
slots_fit x [] slots = has_length slots 0
slots_fit x (g ∷ gs) slots =
    nat_le (length g.names) (length slots)
    && (list_all (slot_fits x g) (take (length g.names) slots) && slots_fit x gs (drop (length g.names) slots))

-- all used slots have the level of the first
abbrev pub not_used_or_at : SlotUse → ℕ → Bool
not_used_or_at s level = not s.used || nat_eq s.level level

abbrev pub level_of_first : Option SlotUse → List SlotUse → Bool
level_of_first None slots = true
level_of_first (Some f) slots = list_all (λ s. not_used_or_at s f.level) slots

abbrev pub levels_alike : List SlotUse → Bool
levels_alike slots = level_of_first (find (λ s. s.used) slots) slots

-- the contents at the start are all words of the last width, or nothing where the variant takes none
abbrev pub contents_fit : Variant → List Tri → Bool
contents_fit x init = value_fits x.fill init (last_words x * last_width x)

-- the shape under a variant; ports that have no width of their own have one together
abbrev pub fits_variant : RamCell → Option Variant → Bool
fits_variant c None = false
fits_variant c (Some x) = slots_fit x x.groups c.slots && ((x.per_port || levels_alike c.slots) && contents_fit x c.init)

abbrev pub fits_library : Library → RamCell → Bool
fits_library lib c = fits_variant c (variant_of lib c)
