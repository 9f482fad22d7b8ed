-- The rules by which a candidate of RAM cells fits. (All of this project's rules; the numbers in them bound the work of a
-- search and the size of a netlist.)
use Rattle.std.specs.Prelude.{ℕ, ◌+◌, ◌*◌, ◌%◌, ◌^◌, max, Bool, true, false, not, cond, ◌&&◌, ◌||◌, nat_eq, nat_le, List, [], ◌∷◌, length, Option, Some, None}
use Rattle.std.specs.List.{list_all, list_any, sum_by}
use Rattle.std.specs.Str.{str_eq_ignore_ascii_case}
use Rattle.lib_core.specs.declared.library.RamClass.{RamClass}
use Rattle.lib_core.specs.declared.library.RamClass.TheVariants as class
use Rattle.lib_core.specs.declared.library.RamKind.{RamKind}
use Rattle.lib_core.specs.declared.library.Group.{Group}
use Rattle.lib_core.specs.declared.library.Variant.{Variant}
use Rattle.lib_core.specs.Rams.{kind_reads}
use Rattle.net_core.specs.declared.mems.Mem.{Mem}
use Rattle.net_core.specs.declared.mems.MemJob.{MemJob}
use Rattle.net_core.specs.declared.mems.RdPort.{RdPort}
use Rattle.net_core.specs.declared.mems.WrPort.{WrPort}
use Rattle.net_core.specs.declared.mems.Style.{Style}
use Rattle.net_core.specs.declared.mems.Style.TheVariants as style
use Rattle.net_core.specs.Valid.{data_width}
use Rattle.geom_core.specs.declared.candidates.ReadPlace.{ReadPlace}
use Rattle.geom_core.specs.declared.candidates.ReadPlace.TheVariants as place
use Rattle.fit_pairs.specs.declared.pairs.Need.TheVariants as need
use Rattle.fit_pairs.specs.Clocks.{all_one_domain, all_one_clock}
use Rattle.fit_pairs.specs.Items.{fill_admits}
use Rattle.fit_pairs.specs.Pairs.{some_need}
use Rattle.fit_pairs.specs.Placed.{writer_has}
use Rattle.fit_rules.specs.declared.spots.Spot.{Spot}
use Rattle.fit_rules.specs.Bits.{room_bits}
use Rattle.fit_rules.specs.Shape.{rows, cells}
use Rattle.fit_rules.specs.Standing.{write_stands, lanes_met, have_names, read_stands, placed_read, holds_of}

-- holds of two lists place by place, and the lists are of one length
abbrev pub zip_each : {A B : Type 0} → (A → B → Bool) → List A → List B → Bool
zip_each test [] [] = true
zip_each test [] (y ∷ ys) = false
zip_each test (x ∷ xs) [] = false
zip_each test (x ∷ xs) (y ∷ ys) = test x y && zip_each test xs ys

-- the same with a test that is told the number of the place
abbrev pub zip_all : {A B : Type 0} → (ℕ → A → B → Bool) → ℕ → List A → List B → Bool
zip_all test n [] [] = true
zip_all test n [] (y ∷ ys) = false
zip_all test n (x ∷ xs) [] = false
zip_all test n (x ∷ xs) (y ∷ ys) = test n x y && zip_all test (n + 1) xs ys

-- holds place by place as far as the second list goes, and that one is not longer
abbrev pub zip_each_front : {A B : Type 0} → (A → B → Bool) → List A → List B → Bool
zip_each_front test xs [] = true
zip_each_front test [] (y ∷ ys) = false
zip_each_front test (x ∷ xs) (y ∷ ys) = test x y && zip_each_front test xs ys

abbrev pub zip_front : {A B : Type 0} → (ℕ → A → B → Bool) → ℕ → List A → List B → Bool
zip_front test n xs [] = true
zip_front test n [] (y ∷ ys) = false
zip_front test n (x ∷ xs) (y ∷ ys) = test n x y && zip_front test (n + 1) xs ys

-- holds at one place, as far as both lists go
abbrev pub zip_any : {A B : Type 0} → (ℕ → A → B → Bool) → ℕ → List A → List B → Bool
zip_any test n [] ys = false
zip_any test n (x ∷ xs) [] = false
zip_any test n (x ∷ xs) (y ∷ ys) = test n x y || zip_any test (n + 1) xs ys

-- 1. There are at most 8 reads and 4 writes, and the first address is a multiple of each port's words.
abbrev pub few_ports : Mem → Bool
few_ports m = nat_le (length m.reads) 8 && nat_le (length m.writes) 4

abbrev pub is_multiple : ℕ → ℕ → Bool
is_multiple offset wide = nat_eq (offset % 2 ^ wide) 0

abbrev pub is_aligned : Mem → Bool
is_aligned m = list_all (λ (r : RdPort). is_multiple m.offset r.wide) m.reads && list_all (λ (w : WrPort). is_multiple m.offset w.wide) m.writes

-- 2. and 3. Each write has a group that writes at its clock and its level, and no group has more writes than names.
abbrev pub writes_stand : Mem → Variant → Spot → List ℕ → Bool
writes_stand m v s groups = zip_each (write_stands v s) m.writes groups

abbrev pub writes_placed : Mem → Variant → Spot → List ℕ → Bool
writes_placed m v s groups = writes_stand m v s groups && have_names v groups

-- 2., 4. and 7. Each read has a place that suits it, at its level, and has what it needs at the name of a write.
abbrev pub reads_placed : Mem → Variant → Spot → List ℕ → List ReadPlace → Bool
reads_placed m v s groups places = zip_all (read_stands v s m.writes groups) 0 m.reads places

-- 5. Each write that goes to several rows has the lanes for it.
abbrev pub lanes_stand : Mem → Variant → Spot → List ℕ → Bool
lanes_stand m v s groups = zip_all (λ n w g. writer_has v (lanes_met v s m.writes groups) n w g) 0 m.writes groups

-- 6. The RAM can start with the memory's contents.
abbrev pub can_start : Mem → Variant → Bool
can_start m v = fill_admits v.fill m.init

-- 7. and 8. A pair that shows what was written where the old word is asked needs that all reads come before the writes.
-- That needs all writes in one domain and no read at the name of a write.
abbrev pub needs_order : MemJob → Variant → List ℕ → ℕ → RdPort → ReadPlace → Bool
needs_order job v groups n r p = holds_of (some_need need.ReadFirst job.quiet v job.mem.writes groups) (placed_read v groups n r p)

abbrev pub read_first : MemJob → Variant → List ℕ → List ReadPlace → Bool
read_first job v groups places = zip_any (needs_order job v groups) 0 job.mem.reads places

abbrev pub is_ride : ReadPlace → Bool
is_ride (place.Group n) = false
is_ride (place.Ride w) = true

abbrev pub can_order : Mem → List ReadPlace → Bool
can_order m places = all_one_domain m.writes && not (list_any is_ride places)

abbrev pub order_met : MemJob → Variant → List ℕ → List ReadPlace → Bool
order_met job v groups places = not (read_first job v groups places) || can_order job.mem places

-- 9. There are at most 4096 cells, and at most 2^24 new nets: the data of all cells' ports that read, and 64 times what
-- each port takes, as many words as all rows together have and each with an address.
abbrev pub largest : List ℕ → ℕ
largest [] = 0
largest (w ∷ ws) = max w (largest ws)

abbrev pub names_that_read : Group → ℕ
names_that_read g = cond (kind_reads g.kind) (length g.names) 0

abbrev pub reading_names : Variant → ℕ
reading_names v = sum_by names_that_read v.groups

abbrev pub port_nets : Mem → Variant → Spot → ℕ → ℕ
port_nets m v s wide = rows m v s * 2 ^ s.fold * (room_bits m wide + data_width m wide)

abbrev pub all_ports_nets : Mem → Variant → Spot → ℕ
all_ports_nets m v s = sum_by (λ (r : RdPort). port_nets m v s r.wide) m.reads + sum_by (λ (w : WrPort). port_nets m v s w.wide) m.writes

abbrev pub new_nets : Mem → Variant → Spot → ℕ → ℕ
new_nets m v s cells = cells * (largest v.widths * reading_names v) + 64 * all_ports_nets m v s

abbrev pub is_small : Mem → Variant → Spot → List ℕ → List ReadPlace → Bool
is_small m v s groups places =
    nat_le (cells m v s groups places) 4096 && nat_le (new_nets m v s (cells m v s groups places)) 16777216

-- 10. The memory's style allows the RAM.
abbrev pub same_class : RamClass → RamClass → Bool
same_class class.Distributed class.Distributed = true
same_class class.Block class.Block = true
same_class class.Huge class.Huge = true
same_class a b = false

abbrev pub has_word : Option (List ℕ) → List ℕ → Bool
has_word None word = false
has_word (Some own) word = str_eq_ignore_ascii_case own word

abbrev pub style_allows : Style → RamKind → Bool
style_allows style.Auto k = true
style_allows style.Registers k = false
style_allows (style.Class c) k = same_class k.class c
style_allows (style.Word word) k = has_word k.style word

-- all rules but the last, for one choice of groups and places at one spot of a variant
abbrev pub ports_met : Mem → Variant → Spot → List ℕ → List ReadPlace → Bool
ports_met m v s groups places =
    few_ports m && (is_aligned m && (writes_placed m v s groups && reads_placed m v s groups places))

abbrev pub rest_met : MemJob → Variant → Spot → List ℕ → List ReadPlace → Bool
rest_met job v s groups places =
    lanes_stand job.mem v s groups && (can_start job.mem v && (order_met job v groups places && is_small job.mem v s groups places))

unfoldable pub ram_fits : MemJob → Variant → Spot → List ℕ → List ReadPlace → Bool
ram_fits job v s groups places = ports_met job.mem v s groups places && rest_met job v s groups places

-- Registers fit a memory of at most 4096 words, whose writes have one clock, and whose style is auto or registers.
abbrev pub takes_registers : Style → Bool
takes_registers style.Auto = true
takes_registers style.Registers = true
takes_registers (style.Class c) = false
takes_registers (style.Word word) = false

abbrev pub registers_fit : Mem → Style → Bool
registers_fit m style = nat_le m.size 4096 && (all_one_clock m.writes && takes_registers style)
