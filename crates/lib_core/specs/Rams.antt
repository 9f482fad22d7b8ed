-- What speaks of a variant of a RAM alone: its words and where their bits lie, lanes, which group's writes win over which,
-- how a read sees a write, and what fills make of values. The words are those of Yosys' memory_libmap; widths that grow to
-- more than twice the one before, and what happens where nothing is described, are this project's own.
use Rattle.std.specs.Prelude.{ℕ, zero, suc, ◌+◌, ◌-◌, ◌*◌, ◌/◌, ◌%◌, ◌^◌, Bool, true, false, cond, not, ◌&&◌, List, [], ◌∷◌, length, Option, Some, None, nat_eq, nat_le}
use Rattle.std.specs.List.{list_any, sum_by}
use Rattle.lib_core.specs.declared.library.Tri.{Tri}
use Rattle.lib_core.specs.declared.library.Tri.TheVariants.{Zero, Any}
use Rattle.lib_core.specs.declared.library.Fill.{Fill}
use Rattle.lib_core.specs.declared.library.Fill.TheVariants as fill
use Rattle.lib_core.specs.declared.library.PortKind.{PortKind}
use Rattle.lib_core.specs.declared.library.PortKind.TheVariants.{Ar, Sr, Sw, Arsw, Srsw}
use Rattle.lib_core.specs.declared.library.OwnWrite.{OwnWrite}
use Rattle.lib_core.specs.declared.library.OwnWrite.TheVariants as own
use Rattle.lib_core.specs.declared.library.SrstGate.{SrstGate}
use Rattle.lib_core.specs.declared.library.SrstGate.TheVariants as gate
use Rattle.lib_core.specs.declared.library.Seen.{Seen}
use Rattle.lib_core.specs.declared.library.Seen.TheVariants as seen
use Rattle.lib_core.specs.declared.library.Trans.{Trans}
use Rattle.lib_core.specs.declared.library.Group.{Group}
use Rattle.lib_core.specs.declared.library.Variant.{Variant}

-- what stands at a place, any past the end
abbrev pub tri_at : List Tri → ℕ → Tri
tri_at [] k = Any
tri_at (t ∷ ts) zero = t
tri_at (t ∷ ts) (suc k) = tri_at ts k

-- the width of a level, the levels counted from 0
abbrev pub width_at : List ℕ → ℕ → ℕ
width_at [] level = 0
width_at (w ∷ ws) zero = w
width_at (w ∷ ws) (suc level) = width_at ws level

-- the level of the last width
abbrev pub last_level : Variant → ℕ
last_level x = length x.widths - 1

-- the last width
abbrev pub last_width : Variant → ℕ
last_width x = width_at x.widths (last_level x)

-- how many words of a level there are
abbrev pub words_at : Variant → ℕ → ℕ
words_at x level = 2 ^ (x.abits - level)

-- how many words of the last width there are
abbrev pub last_words : Variant → ℕ
last_words x = words_at x (last_level x)

-- Where a bit of a word lies in a word of a higher level: a word one level up is, from its low bit, the word at the even
-- place, the word at the next place, and bits of its own.
abbrev pub lies_above : List ℕ → ℕ → ℕ → ℕ → ℕ → ℕ × ℕ
lies_above widths zero level word place = (word, place)
lies_above widths (suc steps) level word place = lies_above widths steps (level + 1) (word / 2) (word % 2 * width_at widths level + place)

-- the word of the last width, and the bit in it
abbrev pub lies : Variant → ℕ → ℕ → ℕ → ℕ × ℕ
lies x level word place = lies_above x.widths (last_level x - level) level word place

-- the bit at which a word of a level begins in a word of a higher level, the words of that one counted from 0
abbrev pub offset_in : List ℕ → ℕ → ℕ → ℕ → ℕ
offset_in widths low high word = (lies_above widths (high - low) low word 0).1

-- how many ports there are in all groups
abbrev pub port_count : Variant → ℕ
port_count x = sum_by (λ g. length g.names) x.groups

-- the port reads within the moment
abbrev pub reads_now : PortKind → Bool
reads_now Ar = true
reads_now Arsw = true
reads_now Sr = false
reads_now Sw = false
reads_now Srsw = false

-- the port reads into a register
abbrev pub reads_later : PortKind → Bool
reads_later Ar = false
reads_later Arsw = false
reads_later Sr = true
reads_later Sw = false
reads_later Srsw = true

-- the port reads
abbrev pub kind_reads : PortKind → Bool
kind_reads Ar = true
kind_reads Sr = true
kind_reads Sw = false
kind_reads Arsw = true
kind_reads Srsw = true

-- the port writes
abbrev pub kind_writes : PortKind → Bool
kind_writes Ar = false
kind_writes Sr = false
kind_writes Sw = true
kind_writes Arsw = true
kind_writes Srsw = true

-- the port has a clock
abbrev pub kind_clocked : PortKind → Bool
kind_clocked Ar = false
kind_clocked Sr = true
kind_clocked Sw = true
kind_clocked Arsw = true
kind_clocked Srsw = true

-- how many bits one enable serves in a word of this width
abbrev pub lane_width : Option ℕ → ℕ → ℕ
lane_width None width = width
lane_width (Some byte) width = cond (nat_le width byte) width byte

-- how many lanes a word of this width has
abbrev pub lanes : Option ℕ → ℕ → ℕ
lanes None width = 1
lanes (Some byte) width = cond (nat_le width byte) 1 (width / byte)

-- the group names the other
abbrev pub names : Group → ℕ → Bool
names kind g = list_any (nat_eq g) kind.prio

-- A group wins over another that it names. Where two groups name each other, and so where a group names itself, that
-- counts for nothing.
abbrev pub wins_over : ℕ → Group → ℕ → Group → Bool
wins_over a here b there = names here b && not (names there a)

-- what a fill makes of what is given for a reset, a start or the contents
abbrev pub filled : Fill → List Tri → ℕ → Tri
filled fill.Nothing given k = Any
filled fill.Zero given k = Zero
filled fill.Any given k = tri_at given k
filled fill.NoUndef given k = tri_at given k

-- there is something to reset to or to start with
abbrev pub has_fill : Fill → Bool
has_fill fill.Nothing = false
has_fill fill.Zero = true
has_fill fill.Any = true
has_fill fill.NoUndef = true

-- the value is a parameter of the cell
abbrev pub takes_value : Fill → Bool
takes_value fill.Nothing = false
takes_value fill.Zero = false
takes_value fill.Any = true
takes_value fill.NoUndef = true

-- a synchronous reset counts, by the clock enable and the read enable
abbrev pub reset_counts : SrstGate → Bool → Bool → Bool
reset_counts gate.Ungated clken rden = true
reset_counts gate.Clken clken rden = clken
reset_counts gate.Rden clken rden = clken && rden

-- how a read sees a write of the same event: as not made yet, as made, or in no described way
pub data View : Type 0 where
  Before : View
  Behind : View
  Undescribed : View

abbrev pub view_of : Seen → View
view_of seen.Old = Before
view_of seen.New = Behind

-- how a group sees the writes of the group that has these
abbrev pub trans_view : ℕ → List Trans → View
trans_view g [] = Undescribed
trans_view g (t ∷ ts) = cond (nat_eq t.group g) (view_of t.seen) (trans_view g ts)

-- how a port sees its own writes
abbrev pub own_view : OwnWrite → View
own_view own.Undefined = Undescribed
own_view own.NoChange = Undescribed
own_view own.Old = Before
own_view own.New = Behind
own_view own.NewOnly = Behind

-- how a port of the group numbered g sees a write of a port of another group, or of the port itself
abbrev pub group_view : Bool → ℕ → Group → Group → View
group_view itself g reader writer = cond itself (own_view reader.own) (trans_view g writer.trans)

abbrev pub is_behind : View → Bool
is_behind Before = false
is_behind Behind = true
is_behind Undescribed = false

abbrev pub is_before : View → Bool
is_before Before = true
is_before Behind = false
is_before Undescribed = false
