-- The cell that stands in the place of a memory under a plain choice. A write stands at the first port of its group, and so
-- does a read; the other ports are not used and tied. New nets, for data that nothing reads, are numbered on from a number.
use Rattle.std.specs.Prelude.{ℕ, zero, suc, ◌+◌, ◌-◌, ◌*◌, ◌/◌, ◌%◌, Bool, true, false, cond, ◌&&◌, nat_eq, nat_lt, List, [], ◌∷◌, ◌++◌, map, length, replicate, slice_index_or, Option, Some, None}
use Rattle.std.specs.List.{range_with_len}
use Rattle.lib_core.specs.declared.library.Tri.{Tri}
use Rattle.lib_core.specs.declared.library.Tri.TheVariants as tri
use Rattle.lib_core.specs.declared.library.Fill.{Fill}
use Rattle.lib_core.specs.declared.library.Fill.TheVariants as fill
use Rattle.lib_core.specs.declared.library.Group.{Group}
use Rattle.lib_core.specs.declared.library.Variant.{Variant}
use Rattle.lib_core.specs.declared.library.Library.{Library}
use Rattle.lib_core.specs.Rams.{tri_at, width_at, last_words, last_width, reads_now, kind_reads, kind_writes, takes_value}
use Rattle.net_core.specs.declared.bits.Bit.{Bit}
use Rattle.net_core.specs.declared.bits.Bit.TheVariants as bits
use Rattle.net_core.specs.declared.bits.Clock.{Clock}
use Rattle.net_core.specs.declared.bits.Clock.TheVariants.{Never}
use Rattle.net_core.specs.declared.mems.Mem.{Mem}
use Rattle.net_core.specs.declared.mems.RdPort.{RdPort}
use Rattle.net_core.specs.declared.mems.WrPort.{WrPort}
use Rattle.net_core.specs.declared.rams.SlotUse.{SlotUse}
use Rattle.net_core.specs.declared.rams.RamCell.{RamCell}
use Rattle.geom_core.specs.declared.candidates.ReadPlace.{ReadPlace}
use Rattle.geom_core.specs.declared.candidates.ReadPlace.TheVariants as place
use Rattle.geom_core.specs.declared.candidates.RamChoice.{RamChoice}
use Rattle.fit_rules.specs.Fits.{variant_at}

-- the bits, and 0 behind them up to a length
abbrev pub padded : List Bit → ℕ → List Bit
padded xs n = xs ++ replicate (n - length xs) bits.Zero

-- the bits of a word
abbrev pub word_bits : Variant → ℕ
word_bits x = width_at x.widths 0

-- the value of a fill with nothing asked: 0 where one is taken
abbrev pub low_value : Fill → ℕ → List Tri
low_value f n = cond (takes_value f) (replicate n tri.Zero) []

-- a port of a group of the first width, by whether it is used, its clock, its address, its outputs, its data and its enable
abbrev pub slot_use : Variant → Group → Bool → Clock → List Bit → List ℕ → List Bit → List Bit → SlotUse
slot_use x g used clock addr out value wren =
    record {
      used = used;
      reads_now = reads_now g.kind;
      level = 0;
      clock = clock;
      clken = bits.Zero;
      addr = addr;
      rden = bits.Zero;
      srst = bits.Zero;
      arst = bits.Zero;
      out = out;
      value = value;
      wren = wren;
      wrbe = [];
      srst_value = low_value g.srst (word_bits x);
      arst_value = low_value g.arst (word_bits x);
      init_value = low_value g.start (word_bits x);
    }

-- the outputs of a port whose data nothing reads; the number is the next new net
abbrev pub new_outputs : Variant → Group → ℕ → List ℕ
new_outputs x g next = cond (kind_reads g.kind) (range_with_len next (word_bits x)) []

abbrev pub no_value : Variant → Group → List Bit
no_value x g = cond (kind_writes g.kind) (replicate (word_bits x) bits.Zero) []

abbrev pub no_enable : Group → List Bit
no_enable g = cond (kind_writes g.kind) (bits.Zero ∷ []) []

-- a port that is not used
abbrev pub idle_use : Variant → Group → ℕ → SlotUse
idle_use x g next = slot_use x g false Never (replicate x.abits bits.Zero) (new_outputs x g next) (no_value x g) (no_enable g)

-- The port of a write: all its enables are one bit.
abbrev pub enable : WrPort → List Bit
enable w = slice_index_or w.en 0 bits.Zero ∷ []

abbrev pub write_use : Variant → Group → ℕ → WrPort → SlotUse
write_use x g next w = slot_use x g true w.clock (padded w.addr x.abits) (new_outputs x g next) (padded w.value (word_bits x)) (enable w)

-- The port of a read: data of the RAM that the read does not have goes to new nets.
abbrev pub left_bits : Variant → List ℕ → ℕ
left_bits x out = word_bits x - length out

abbrev pub read_outputs : Variant → ℕ → RdPort → List ℕ
read_outputs x next r = r.out ++ range_with_len next (left_bits x r.out)

abbrev pub read_use : Variant → Group → ℕ → RdPort → SlotUse
read_use x g next r = slot_use x g true Never (padded r.addr x.abits) (read_outputs x next r) (no_value x g) (no_enable g)

-- the first port of a group, by the write and the read that stand in it
abbrev pub first_use : Variant → Group → ℕ → Option WrPort → Option RdPort → SlotUse
first_use x g next (Some w) r = write_use x g next w
first_use x g next None (Some r) = read_use x g next r
first_use x g next None None = idle_use x g next

-- how many new nets they have
abbrev pub idle_nets : Variant → Group → ℕ
idle_nets x g = cond (kind_reads g.kind) (word_bits x) 0

abbrev pub first_nets : Variant → Group → Option WrPort → Option RdPort → ℕ
first_nets x g (Some w) r = idle_nets x g
first_nets x g None (Some r) = left_bits x r.out
first_nets x g None None = idle_nets x g

-- the first write that stands in a group, and the first read
abbrev pub write_in : ℕ → List WrPort → List ℕ → Option WrPort
write_in n [] gs = None
write_in n (w ∷ ws) [] = None
write_in n (w ∷ ws) (g ∷ gs) = cond (nat_eq g n) (Some w) (write_in n ws gs)

abbrev pub stands_in : ℕ → ReadPlace → Bool
stands_in n (place.Group g) = nat_eq g n
stands_in n (place.Ride w) = false

abbrev pub read_in : ℕ → List RdPort → List ReadPlace → Option RdPort
read_in n [] ps = None
read_in n (r ∷ rs) [] = None
read_in n (r ∷ rs) (p ∷ ps) = cond (stands_in n p) (Some r) (read_in n rs ps)

-- so many ports that are not used
abbrev pub idle_uses : Variant → Group → ℕ → ℕ → List SlotUse
idle_uses x g zero next = []
idle_uses x g (suc n) next = idle_use x g next ∷ idle_uses x g n (next + idle_nets x g)

-- the ports of a group, so many as it has names
abbrev pub group_uses : Variant → Group → Option WrPort → Option RdPort → ℕ → ℕ → List SlotUse
group_uses x g w r zero next = []
group_uses x g w r (suc n) next = first_use x g next w r ∷ idle_uses x g n (next + first_nets x g w r)

abbrev pub group_nets : Variant → Group → Option WrPort → Option RdPort → ℕ → ℕ
group_nets x g w r zero = 0
group_nets x g w r (suc n) = first_nets x g w r + n * idle_nets x g

-- the ports of groups, which are numbered on from a number
abbrev pub uses_from : Variant → Mem → RamChoice → ℕ → List Group → ℕ → List SlotUse
uses_from x m c n [] next = []
uses_from x m c n (g ∷ gs) next =
    group_uses x g (write_in n m.writes c.writes) (read_in n m.reads c.reads) (length g.names) next
    ++ uses_from x m c (n + 1) gs (next + group_nets x g (write_in n m.writes c.writes) (read_in n m.reads c.reads) (length g.names))

abbrev pub nets_from : Variant → Mem → RamChoice → ℕ → List Group → ℕ
nets_from x m c n [] = 0
nets_from x m c n (g ∷ gs) =
    group_nets x g (write_in n m.writes c.writes) (read_in n m.reads c.reads) (length g.names) + nets_from x m c (n + 1) gs

-- a bit of the contents at the start: the memory's, 0 where it has to be written out and is open
abbrev pub settled : Fill → Tri → Tri
settled fill.NoUndef tri.Any = tri.Zero
settled f t = t

abbrev pub start_bit : Variant → Mem → ℕ → ℕ → Tri
start_bit x m word k = settled x.fill (cond (nat_lt word m.size && nat_lt k m.width) (tri_at m.init (word * m.width + k)) tri.Any)

-- all words of the RAM, each with the memory's word in its low bits
abbrev pub contents : Variant → Mem → List Tri
contents x m =
    cond (takes_value x.fill) (map (λ p. start_bit x m (p / last_width x) (p % last_width x)) (range_with_len 0 (last_words x * last_width x))) []

abbrev pub cell_of : Variant → Mem → RamChoice → List ℕ → ℕ → RamCell
cell_of x m c name first = record { name = name; ram = c.ram; variant = c.variant; slots = uses_from x m c 0 x.groups first; init = contents x m }

-- where the library has no such variant
abbrev pub empty_cell : RamChoice → List ℕ → RamCell
empty_cell c name = record { name = name; ram = c.ram; variant = c.variant; slots = []; init = [] }

abbrev pub cell_in : Option Variant → Mem → RamChoice → List ℕ → ℕ → RamCell
cell_in None m c name first = empty_cell c name
cell_in (Some x) m c name first = cell_of x m c name first

-- the cell of a choice, with this name, whose new nets are numbered on from a number
abbrev pub plain_cell : Library → Mem → RamChoice → List ℕ → ℕ → RamCell
plain_cell lib m c name first = cell_in (variant_at lib c.ram c.variant) m c name first

abbrev pub nets_in : Option Variant → Mem → RamChoice → ℕ
nets_in None m c = 0
nets_in (Some x) m c = nets_from x m c 0 x.groups

-- how many new nets it has
abbrev pub new_nets : Library → Mem → RamChoice → ℕ
new_nets lib m c = nets_in (variant_at lib c.ram c.variant) m c
