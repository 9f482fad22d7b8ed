-- Tests of what has to hold of a memory. That of a whole memory is true exactly where the memory fits; those of its parts are
-- true only where the record of the same subject holds.
use Rattle.std.specs.Prelude.{ℕ, ◌+◌, ◌*◌, ◌^◌, Bool, true, false, cond, not, ◌&&◌, List, [], ◌∷◌, length, Option, Some, None, nat_eq, nat_le, take, drop}
use Rattle.std.specs.List.{list_all, sum_by}
use Rattle.lib_core.specs.declared.library.Tri.{Tri}
use Rattle.lib_core.specs.declared.library.Tri.TheVariants as tri
use Rattle.net_core.specs.declared.bits.Bit.{Bit}
use Rattle.net_core.specs.declared.bits.Clock.{Clock}
use Rattle.net_core.specs.declared.mems.Attr.{Attr}
use Rattle.net_core.specs.declared.mems.Mem.{Mem}
use Rattle.net_core.specs.declared.mems.RdPort.{RdPort}
use Rattle.net_core.specs.declared.mems.WrPort.{WrPort}
use Rattle.net_core.specs.Shape.{is_zero, is_one}
use Rattle.net_core.specs.Valid.{is_identifier, data_width}

-- as many items as numbers of 32 bits can name
abbrev pub is_counted : {X : Type 0} → List X → Bool
is_counted xs = nat_le (length xs) 4294967295

abbrev pub is_empty : {X : Type 0} → List X → Bool
is_empty xs = nat_eq (length xs) 0

-- attributes
abbrev pub attr_fits : Attr → Bool
attr_fits a = is_identifier a.name && (cond a.is_text (is_empty a.bits) (is_empty a.value) && is_counted a.bits)

abbrev pub attrs_fit : List Attr → Bool
attrs_fit attrs = list_all attr_fits attrs && is_counted attrs

-- names, size and place of a memory
abbrev pub words_fit : Mem → Bool
words_fit x = nat_le 1 x.size && (nat_le x.size 1048576 && (nat_le (x.offset + x.size) 1048576 && nat_le x.abits 32))

abbrev pub width_fits : Mem → Bool
width_fits x = nat_le 1 x.width && (nat_le x.width 65536 && nat_le (x.size * x.width) 8388608)

abbrev pub sizes_fit : Mem → Bool
sizes_fit x = is_identifier x.name && (is_identifier x.origin && (attrs_fit x.attrs && (words_fit x && width_fits x)))

-- ports: the low address bits of a wide one are 0
abbrev pub address_fits : Mem → ℕ → List Bit → Bool
address_fits x wide addr = nat_eq (length addr) x.abits && list_all is_zero (take wide addr)

-- a list has a bit for each bit of the data of a port
abbrev pub has_data_width : {X : Type 0} → Mem → ℕ → List X → Bool
has_data_width x wide xs = nat_eq (length xs) (data_width x wide)

abbrev pub is_any : Tri → Bool
is_any tri.Zero = false
is_any tri.One = false
is_any tri.Any = true

abbrev pub none_defined : List Tri → Bool
none_defined value = list_all is_any value

abbrev pub none_set : List Bool → Bool
none_set flags = list_all (λ f. not f) flags

-- no place at which both lists have true
abbrev pub none_both : List Bool → List Bool → Bool
none_both [] right = true
none_both (a ∷ left) [] = true
none_both (a ∷ left) (b ∷ right) = not (a && b) && none_both left right

abbrev pub read_values_fit : Mem → RdPort → Bool
read_values_fit x r =
    has_data_width x r.wide r.out && (has_data_width x r.wide r.arst_value && (has_data_width x r.wide r.srst_value && has_data_width x r.wide r.init_value))

abbrev pub masks_fit : Mem → RdPort → Bool
masks_fit x r = nat_eq (length r.trans) (length x.writes) && (nat_eq (length r.coll) (length x.writes) && none_both r.trans r.coll)

-- fields of a read port that works at once
abbrev pub pins_at_once : RdPort → Bool
pins_at_once r = is_one r.en && (is_zero r.arst && (is_zero r.srst && (not r.ce_over_srst && (none_set r.trans && none_set r.coll))))

abbrev pub values_at_once : RdPort → Bool
values_at_once r = none_defined r.arst_value && (none_defined r.srst_value && none_defined r.init_value)

abbrev pub at_once_where : Option Clock → RdPort → Bool
at_once_where None r = pins_at_once r && values_at_once r
at_once_where (Some c) r = true

-- ports read and write 64 words at most
abbrev pub read_fits : Mem → RdPort → Bool
read_fits x r =
    nat_le r.wide 6 && (address_fits x r.wide r.addr && (read_values_fit x r && (masks_fit x r && at_once_where r.clock r)))

abbrev pub write_values_fit : Mem → WrPort → Bool
write_values_fit x w = has_data_width x w.wide w.en && has_data_width x w.wide w.value

-- a write wins over earlier writes alone
abbrev pub priorities_fit : Mem → ℕ → WrPort → Bool
priorities_fit x own w = nat_eq (length w.prio) (length x.writes) && none_set (drop own w.prio)

abbrev pub write_fits : Mem → ℕ → WrPort → Bool
write_fits x own w = nat_le w.wide 6 && (address_fits x w.wide w.addr && (write_values_fit x w && priorities_fit x own w))

abbrev pub writes_fit_from : Mem → ℕ → List WrPort → Bool
writes_fit_from x own [] = true
writes_fit_from x own (w ∷ ws) = write_fits x own w && writes_fit_from x (own + 1) ws

-- the ports as ports of single words
abbrev pub read_words_fit : List RdPort → Bool
read_words_fit reads = nat_le (sum_by (λ (r : RdPort). 2 ^ r.wide) reads) 64

abbrev pub write_words_fit : List WrPort → Bool
write_words_fit writes = nat_le (sum_by (λ (w : WrPort). 2 ^ w.wide) writes) 64

abbrev pub ports_fit : Mem → Bool
ports_fit x = list_all (read_fits x) x.reads && (writes_fit_from x 0 x.writes && (read_words_fit x.reads && write_words_fit x.writes))

abbrev pub contents_fit : Mem → Bool
contents_fit x = nat_eq (length x.init) (x.size * x.width)

abbrev pub mem_fits : Mem → Bool
mem_fits x = sizes_fit x && (contents_fit x && ports_fit x)
