-- What the ports of a memory have, by port numbers: the number 0 first. What belongs to a port stands at each of its numbers, its
-- data and values are those of its words.
use Rattle.std.specs.Prelude.{ℕ, ◌^◌, Bool, true, List, map, replicate, Option, Some, None}
use Rattle.std.specs.List.{flat_map}
use Rattle.lib_core.specs.declared.library.Tri.{Tri}
use Rattle.net_core.specs.declared.bits.Bit.{Bit}
use Rattle.net_core.specs.declared.bits.Bit.TheVariants.{Zero, Net}
use Rattle.net_core.specs.declared.bits.Clock.{Clock}
use Rattle.net_core.specs.declared.bits.Clock.TheVariants.{Root, Never}
use Rattle.net_core.specs.declared.mems.RdPort.{RdPort}
use Rattle.net_core.specs.declared.mems.WrPort.{WrPort}
use Rattle.net_core.specs.Valid.{is_there}
use Rattle.mem_pack.specs.Numbers.{numbers, each_number, continuations, copies, word_addresses}

-- ---- clocks

-- a port that never sees an edge has the constant 0 as its clock
abbrev pub clock_bit : Clock → Bit
clock_bit (Root net rising) = Net net
clock_bit Never = Zero

abbrev pub clock_rises : Clock → Bool
clock_rises (Root net rising) = rising
clock_rises Never = true

-- so has a read without a clock
abbrev pub bit_if_clocked : Option Clock → Bit
bit_if_clocked None = Zero
bit_if_clocked (Some c) = clock_bit c

abbrev pub rises_if_clocked : Option Clock → Bool
rises_if_clocked None = true
rises_if_clocked (Some c) = clock_rises c

-- ---- reads

abbrev pub read_wides : List RdPort → List ℕ
read_wides reads = map (λ (r : RdPort). r.wide) reads

-- how many numbers they take, and which of these are continuations
unfoldable pub read_numbers : List RdPort → ℕ
read_numbers reads = numbers (read_wides reads)

unfoldable pub read_behind : List RdPort → List Bool
read_behind reads = continuations (read_wides reads)

abbrev pub clocked_reads : List RdPort → List Bool
clocked_reads reads = map (λ (r : RdPort). is_there r.clock) reads

abbrev pub read_clocked : List RdPort → List Bool
read_clocked reads = each_number (read_wides reads) (clocked_reads reads)

abbrev pub rising_reads : List RdPort → List Bool
rising_reads reads = map (λ (r : RdPort). rises_if_clocked r.clock) reads

abbrev pub read_rising : List RdPort → List Bool
read_rising reads = each_number (read_wides reads) (rising_reads reads)

abbrev pub ordered_reads : List RdPort → List Bool
ordered_reads reads = map (λ (r : RdPort). r.ce_over_srst) reads

abbrev pub read_over : List RdPort → List Bool
read_over reads = each_number (read_wides reads) (ordered_reads reads)

abbrev pub clock_bits_of_reads : List RdPort → List Bit
clock_bits_of_reads reads = map (λ (r : RdPort). bit_if_clocked r.clock) reads

abbrev pub read_clocks : List RdPort → List Bit
read_clocks reads = each_number (read_wides reads) (clock_bits_of_reads reads)

abbrev pub enables_of_reads : List RdPort → List Bit
enables_of_reads reads = map (λ (r : RdPort). r.en) reads

abbrev pub read_en : List RdPort → List Bit
read_en reads = each_number (read_wides reads) (enables_of_reads reads)

abbrev pub arsts_of_reads : List RdPort → List Bit
arsts_of_reads reads = map (λ (r : RdPort). r.arst) reads

abbrev pub read_arst : List RdPort → List Bit
read_arst reads = each_number (read_wides reads) (arsts_of_reads reads)

abbrev pub srsts_of_reads : List RdPort → List Bit
srsts_of_reads reads = map (λ (r : RdPort). r.srst) reads

abbrev pub read_srst : List RdPort → List Bit
read_srst reads = each_number (read_wides reads) (srsts_of_reads reads)

abbrev pub read_addr : List RdPort → List Bit
read_addr reads = flat_map (λ (r : RdPort). word_addresses r.wide r.addr) reads

abbrev pub net_bits : List ℕ → List Bit
net_bits nets = map (λ net. Net net) nets

abbrev pub read_words : List RdPort → List Bit
read_words reads = flat_map (λ (r : RdPort). net_bits r.out) reads

abbrev pub read_arst_values : List RdPort → List Tri
read_arst_values reads = flat_map (λ (r : RdPort). r.arst_value) reads

abbrev pub read_srst_values : List RdPort → List Tri
read_srst_values reads = flat_map (λ (r : RdPort). r.srst_value) reads

abbrev pub read_init_values : List RdPort → List Tri
read_init_values reads = flat_map (λ (r : RdPort). r.init_value) reads

-- a mask of a port: a flag for each number of each write, the same at each number of the port
abbrev pub mask_rows : ℕ → List ℕ → List Bool → List Bool
mask_rows wide writes mask = copies (2 ^ wide) (each_number writes mask)

unfoldable pub read_trans : List ℕ → List RdPort → List Bool
read_trans writes reads = flat_map (λ (r : RdPort). mask_rows r.wide writes r.trans) reads

unfoldable pub read_coll : List ℕ → List RdPort → List Bool
read_coll writes reads = flat_map (λ (r : RdPort). mask_rows r.wide writes r.coll) reads

-- ---- writes

abbrev pub write_wides : List WrPort → List ℕ
write_wides writes = map (λ (w : WrPort). w.wide) writes

-- how many numbers they take, and which of these are continuations
unfoldable pub write_numbers : List WrPort → ℕ
write_numbers writes = numbers (write_wides writes)

unfoldable pub write_behind : List WrPort → List Bool
write_behind writes = continuations (write_wides writes)

-- every write has a clock
abbrev pub write_clocked : List WrPort → List Bool
write_clocked writes = replicate (numbers (write_wides writes)) true

abbrev pub rising_writes : List WrPort → List Bool
rising_writes writes = map (λ (w : WrPort). clock_rises w.clock) writes

abbrev pub write_rising : List WrPort → List Bool
write_rising writes = each_number (write_wides writes) (rising_writes writes)

abbrev pub clock_bits_of_writes : List WrPort → List Bit
clock_bits_of_writes writes = map (λ (w : WrPort). clock_bit w.clock) writes

abbrev pub write_clocks : List WrPort → List Bit
write_clocks writes = each_number (write_wides writes) (clock_bits_of_writes writes)

abbrev pub write_en : List WrPort → List Bit
write_en writes = flat_map (λ (w : WrPort). w.en) writes

abbrev pub write_addr : List WrPort → List Bit
write_addr writes = flat_map (λ (w : WrPort). word_addresses w.wide w.addr) writes

abbrev pub write_words : List WrPort → List Bit
write_words writes = flat_map (λ (w : WrPort). w.value) writes

unfoldable pub prio_rows : List ℕ → List WrPort → List Bool
prio_rows wides writes = flat_map (λ (w : WrPort). mask_rows w.wide wides w.prio) writes

abbrev pub write_prio : List WrPort → List Bool
write_prio writes = prio_rows (write_wides writes) writes
