-- The row that the parameters of the packed cell say.
use Rattle.std.proofs.Common.{◌≡◌, ℕ, ◌^◌, ◌<◌, ◌≤◌, Bool, true, false, not, List, [], ◌∷◌, map, take, length, Some, None, refl, ap, ◌∙◌, sym, arith}
use Rattle.std.specs.Prelude.{codes, ◌&&◌, nat_eq, if◌then◌else◌}
use Rattle.std.proofs.lemmas.Bool.Decides.{nat_tests}
use Rattle.std.proofs.lemmas.List.{take_all}
use Rattle.net_core.specs.declared.mems.Mem.{Mem}
use Rattle.net_core.specs.Valid.{is_one_digit, is_there, MemFits}
use Rattle.net_core.specs.Values.{tri_of}
use Rattle.cell_consts.specs.Params.{number_at}
use Rattle.cell_consts.proofs.ReadBack.{number_attr_number}
use Rattle.mem_rows.specs.ByType.{map_row}
use Rattle.mem_rows.specs.Groups.{are_groups, are_ports}
use Rattle.mem_rows.specs.Rows as rows
use Rattle.mem_rows.specs.declared.row.MemRow.TheVariants as row
use Rattle.mem_pack.specs.Numbers.{numbers, continuations}
use Rattle.mem_pack.specs.Lists as lists
use Rattle.mem_pack.specs.Packed as table
use Rattle.mem_pack.specs.Laws.{IsSmall, packed_row, PackedHasRow}
use Rattle.mem_pack.proofs.Ports.{groups_back}
use Rattle.mem_pack.proofs.Small.{packable_is_small}
use Rattle.mem_pack.proofs.Views.{continuations_length}

-- ---- numbers

at_size : (m : Mem) → m.size < 2 ^ 32 → number_at (table.packed_params m) (codes "\\SIZE") ≡ Some m.size
unfolding table.name_params
at_size m h = number_attr_number (codes "\\SIZE") m.size h

at_offset : (m : Mem) → m.offset < 2 ^ 32 → number_at (table.packed_params m) (codes "\\OFFSET") ≡ Some m.offset
unfolding table.name_params table.address_params
at_offset m h = number_attr_number (codes "\\OFFSET") m.offset h

at_abits : (m : Mem) → m.abits < 2 ^ 32 → number_at (table.packed_params m) (codes "\\ABITS") ≡ Some m.abits
unfolding table.name_params table.address_params
at_abits m h = number_attr_number (codes "\\ABITS") m.abits h

at_width : (m : Mem) → m.width < 2 ^ 32 → number_at (table.packed_params m) (codes "\\WIDTH") ≡ Some m.width
unfolding table.name_params table.address_params table.word_params
at_width m h = number_attr_number (codes "\\WIDTH") m.width h

at_reads : (m : Mem) → numbers (lists.read_wides m.reads) < 2 ^ 32 → number_at (table.packed_params m) (codes "\\RD_PORTS") ≡ Some (numbers (lists.read_wides m.reads))
unfolding table.name_params table.address_params table.word_params table.read_clock_params lists.read_numbers lists.read_behind table.flags_attr table.values_attr
at_reads m h = number_attr_number (codes "\\RD_PORTS") (numbers (lists.read_wides m.reads)) h

at_writes : (m : Mem) → numbers (lists.write_wides m.writes) < 2 ^ 32 → number_at (table.packed_params m) (codes "\\WR_PORTS") ≡ Some (numbers (lists.write_wides m.writes))
unfolding table.name_params table.address_params table.word_params table.read_clock_params lists.read_numbers lists.read_behind table.flags_attr table.values_attr table.read_mask_params table.read_port_params table.read_value_params table.read_start_params table.write_clock_params lists.write_numbers lists.write_behind
at_writes m h = number_attr_number (codes "\\WR_PORTS") (numbers (lists.write_wides m.writes)) h

-- the numbers of the cell
record Numbers (m : Mem) : Type 0 where
  size : number_at (table.packed_params m) (codes "\\SIZE") ≡ Some m.size
  offset : number_at (table.packed_params m) (codes "\\OFFSET") ≡ Some m.offset
  abits : number_at (table.packed_params m) (codes "\\ABITS") ≡ Some m.abits
  width : number_at (table.packed_params m) (codes "\\WIDTH") ≡ Some m.width
  reads : number_at (table.packed_params m) (codes "\\RD_PORTS") ≡ Some (numbers (lists.read_wides m.reads))
  writes : number_at (table.packed_params m) (codes "\\WR_PORTS") ≡ Some (numbers (lists.write_wides m.writes))

small_number : (n limit : ℕ) → n ≤ limit → limit ≤ 1048576 → n < 2 ^ 32
small_number n limit h k = omega arith

numbers_of : (m : Mem) → MemFits m → IsSmall m → Numbers m
numbers_of m f s = record {
  size = at_size m (small_number m.size 1048576 f.sizes.words.1 (omega arith));
  offset = at_offset m (small_number m.offset 1048576 (omega (arith, f.sizes.addresses)) (omega arith));
  abits = at_abits m (small_number m.abits 32 f.sizes.abits (omega arith));
  width = at_width m (small_number m.width 65536 f.sizes.width.1 (omega arith));
  reads = at_reads m (small_number (numbers (lists.read_wides m.reads)) 64 s.reads (omega arith));
  writes = at_writes m (small_number (numbers (lists.write_wides m.writes)) 64 s.writes (omega arith));
}

-- ---- everything is there

not_zero : (n : ℕ) → 1 ≤ n → nat_eq n 0 ≡ false
not_zero n h = grind (arith, nat_tests)

sizes_there : (m : Mem) → MemFits m → Numbers m → rows.has_sizes (table.packed_params m) ≡ true
unfolding rows.has_sizes
sizes_there m f n =
    (λ i. (is_there (n.size i) && not (nat_eq (rows.or_zero (n.size i)) 0)) && is_there (n.offset i) && is_there (n.abits i) && (is_there (n.width i) && not (nat_eq (rows.or_zero (n.width i)) 0))
    && is_there (n.reads i) && is_there (n.writes i))
    ∙ (λ i. (true && not (not_zero m.size f.sizes.words.0 i)) && true && true && (true && not (not_zero m.width f.sizes.width.0 i)) && true && true)

read_flags_there : (m : Mem) → rows.has_read_flags (table.packed_params m) ≡ true
unfolding rows.has_read_flags table.name_params table.address_params table.word_params table.read_clock_params lists.read_numbers lists.read_behind table.flags_attr table.values_attr table.read_mask_params table.read_port_params
read_flags_there m = refl

read_values_there : (m : Mem) → rows.has_read_values (table.packed_params m) ≡ true
unfolding rows.has_read_values table.name_params table.address_params table.word_params table.read_clock_params lists.read_numbers lists.read_behind table.flags_attr table.values_attr table.read_mask_params table.read_port_params table.read_value_params table.read_start_params
read_values_there m = refl

write_flags_there : (m : Mem) → rows.has_write_flags (table.packed_params m) ≡ true
unfolding rows.has_write_flags table.name_params table.address_params table.word_params table.read_clock_params lists.read_numbers lists.read_behind table.flags_attr table.values_attr table.read_mask_params table.read_port_params table.read_value_params table.read_start_params table.write_clock_params lists.write_numbers lists.write_behind table.write_port_params
write_flags_there m = refl

contents_there : (m : Mem) → rows.has_contents (table.packed_params m) ≡ true
unfolding rows.has_contents table.name_params table.address_params table.word_params
contents_there m = refl

name_there : (m : Mem) → MemFits m → rows.has_memory_name (table.packed_params m) ≡ true
unfolding rows.has_memory_name table.name_params
name_there m f = f.sizes.name

name_back : (m : Mem) → rows.text (table.packed_params m) (codes "\\MEMID") ≡ m.name
unfolding table.name_params
name_back m = refl

all_there : (m : Mem) → MemFits m → Numbers m → rows.has_all (table.packed_params m) ≡ true
unfolding rows.has_all
all_there m f n = λ i. name_there m f i && contents_there m i && sizes_there m f n i && read_flags_there m i && read_values_there m i && write_flags_there m i

-- ---- groups

ones_all : (fs : List Bool) → map is_one_digit (map tri_of fs) ≡ fs
ones_all [] = refl
ones_all (true ∷ fs) = ap (λ xs. true ∷ xs) (ones_all fs)
ones_all (false ∷ fs) = ap (λ xs. false ∷ xs) (ones_all fs)

none_looked : (fs : List Bool) (count : ℕ) → length fs ≡ count → take count (map is_one_digit (table.some_bits (map tri_of fs))) ≡ fs
none_looked [] count e = ap (λ n. take n (false ∷ [])) (sym e)
none_looked (f ∷ fs) count e = ap (take count) (ones_all (f ∷ fs)) ∙ take_all count (f ∷ fs) (omega (arith, e))

written_groups : (ks : List ℕ) → numbers ks ≤ 64 → are_groups (numbers ks) (table.some_bits (map tri_of (continuations ks))) ≡ true
written_groups ks h = ap are_ports (none_looked (continuations ks) (numbers ks) (continuations_length ks)) ∙ groups_back ks h

groups_there : (m : Mem) → IsSmall m → Numbers m → rows.has_groups (table.packed_params m) ≡ true
unfolding rows.has_groups table.name_params table.address_params table.word_params table.read_clock_params lists.read_numbers lists.read_behind table.flags_attr table.values_attr table.read_mask_params table.read_port_params table.read_value_params table.read_start_params table.write_clock_params lists.write_numbers lists.write_behind table.write_port_params
groups_there m s n =
    (λ i. are_groups (rows.or_zero (n.reads i)) (table.some_bits (map tri_of (continuations (lists.read_wides m.reads))))
    && are_groups (rows.or_zero (n.writes i)) (table.some_bits (map tri_of (continuations (lists.write_wides m.writes)))))
    ∙ (λ i. written_groups (lists.read_wides m.reads) s.reads i && written_groups (lists.write_wides m.writes) s.writes i)

-- ---- the row

fields_back : (m : Mem) → Numbers m → rows.whole_fields (table.packed_params m) ≡ packed_row m
unfolding rows.whole_fields
fields_back m n = λ i. record {
  name = name_back m i;
  size = rows.or_zero (n.size i);
  offset = rows.or_zero (n.offset i);
  abits = rows.or_zero (n.abits i);
  width = rows.or_zero (n.width i);
  reads = rows.or_zero (n.reads i);
  writes = rows.or_zero (n.writes i);
}

row_back : (m : Mem) → MemFits m → IsSmall m → rows.whole_row (table.packed_params m) ≡ Some (packed_row m)
row_back m f s =
    let n = numbers_of m f s in
    λ i. if all_there m f n i && groups_there m s n i then Some (fields_back m n i) else None

pub packed_has_row : PackedHasRow
unfolding table.packed
packed_has_row m p = ap (map_row row.Whole) (row_back m p.fits (packable_is_small m p))
