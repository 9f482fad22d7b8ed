-- A memory that fits passes the tests.
use Rattle.std.proofs.Common.{◌≡◌, ℕ, zero, suc, ◌+◌, ◌*◌, ◌^◌, ◌≤◌, Bool, true, false, cond, not, ◌&&◌, inl, inr, nat_eq, nat_le, List, [], ◌∷◌, length, take, drop, Option, Some, None, refl, ap, subst, arith}
use Rattle.std.specs.Prelude.{slice_get}
use Rattle.std.specs.List.{list_all, list_any, sum_by}
use Rattle.std.proofs.lemmas.Bool.{cases_lt}
use Rattle.std.proofs.lemmas.List.Sums.{sum_by-cons}
use Rattle.std.proofs.lemmas.Option.{none-some, same_Some}
use Rattle.lib_core.specs.declared.library.Tri.{Tri}
use Rattle.lib_core.specs.declared.library.Tri.TheVariants as tri
use Rattle.net_core.specs.declared.bits.Bit.{Bit}
use Rattle.net_core.specs.declared.bits.Bit.TheVariants.{Zero}
use Rattle.net_core.specs.declared.bits.Clock.{Clock}
use Rattle.net_core.specs.declared.mems.Attr.{Attr}
use Rattle.net_core.specs.declared.mems.Mem.{Mem}
use Rattle.net_core.specs.declared.mems.RdPort.{RdPort}
use Rattle.net_core.specs.declared.mems.WrPort.{WrPort}
use Rattle.net_core.specs.Shape.{is_zero, is_one}
use Rattle.net_core.specs.Values.{bit_at}
use Rattle.net_core.specs.Valid.{is_identifier, Each, IsCounted, AttrFits, AttrsFit, AddressFits, NoneDefined, AtOnce, ReadFits, WriteFits, MemSizes, MemFits, data_width}
use Rattle.net_core.proofs.Basics.{both}
use Rattle.net_live.specs.Fitting.{is_counted, is_empty, attr_fits, attrs_fit, words_fit, width_fits, sizes_fit, address_fits, has_data_width, is_any, none_defined, none_set, none_both, read_values_fit, masks_fit, pins_at_once, values_at_once, at_once_where, read_fits, write_values_fit, priorities_fit, write_fits, writes_fit_from, read_words_fit, write_words_fit, ports_fit, contents_fit, mem_fits}
use Rattle.net_live.proofs.Judged.{true_le, true_eq, is_not, each_all, front_of_each, from_none}
use Rattle.net_live.proofs.Sizes.{high_power}

counted_passes : {X : Type 0} (xs : List X) → IsCounted xs → is_counted xs ≡ true
counted_passes xs h = true_le (length xs) 4294967295 (omega (arith, h))

pub empty_passes : {X : Type 0} (xs : List X) → xs ≡ [] → is_empty xs ≡ true
empty_passes xs h = true_eq (length xs) 0 (ap (λ ys. length ys) h)

-- attributes: a string has no bits, bits have no string
alone_passes : {X Y : Type 0} (text : Bool) (bits : List X) (value : List Y) → (text ≡ true → bits ≡ []) → (text ≡ false → value ≡ []) → cond text (is_empty bits) (is_empty value) ≡ true
alone_passes true bits value h g = empty_passes bits (h refl)
alone_passes false bits value h g = empty_passes value (g refl)

attr_passes : (a : Attr) → AttrFits a → attr_fits a ≡ true
attr_passes a fits =
    let alone = cond a.is_text (is_empty a.bits) (is_empty a.value) in
    both (is_identifier a.name) (alone && is_counted a.bits) fits.name (both alone (is_counted a.bits) (alone_passes a.is_text a.bits a.value fits.bits fits.value) (counted_passes a.bits fits.count))

attrs_pass : (attrs : List Attr) → AttrsFit attrs → attrs_fit attrs ≡ true
attrs_pass attrs fit = both (list_all attr_fits attrs) (is_counted attrs) (each_all attr_fits AttrFits attr_passes attrs fit.each) (counted_passes attrs fit.count)

words_pass : (x : Mem) → MemSizes x → words_fit x ≡ true
words_pass x fits =
    let ends = nat_le (x.offset + x.size) 1048576 in
    let last = both ends (nat_le x.abits 32) (true_le (x.offset + x.size) 1048576 fits.addresses) (true_le x.abits 32 fits.abits) in
    both (nat_le 1 x.size) (nat_le x.size 1048576 && (ends && nat_le x.abits 32)) (true_le 1 x.size fits.words.0)
    (both (nat_le x.size 1048576) (ends && nat_le x.abits 32) (true_le x.size 1048576 fits.words.1) last)

width_passes : (x : Mem) → MemSizes x → width_fits x ≡ true
width_passes x fits =
    let bits = nat_le (x.size * x.width) 8388608 in
    both (nat_le 1 x.width) (nat_le x.width 65536 && bits) (true_le 1 x.width fits.width.0)
    (both (nat_le x.width 65536) bits (true_le x.width 65536 fits.width.1) (true_le (x.size * x.width) 8388608 fits.bits))

sizes_pass : (x : Mem) → MemSizes x → sizes_fit x ≡ true
sizes_pass x fits =
    let four = both (words_fit x) (width_fits x) (words_pass x fits) (width_passes x fits) in
    let three = both (attrs_fit x.attrs) (words_fit x && width_fits x) (attrs_pass x.attrs fits.attrs) four in
    let two = both (is_identifier x.origin) (attrs_fit x.attrs && (words_fit x && width_fits x)) fits.origin three in
    both (is_identifier x.name) (is_identifier x.origin && (attrs_fit x.attrs && (words_fit x && width_fits x))) fits.name two

address_passes : (x : Mem) (wide : ℕ) (addr : List Bit) → AddressFits x wide addr → address_fits x wide addr ≡ true
address_passes x wide addr fits =
    let low = front_of_each (λ b. b ≡ Zero) wide addr fits.1 in
    both (nat_eq (length addr) x.abits) (list_all is_zero (take wide addr)) (true_eq (length addr) x.abits fits.0) (each_all is_zero (λ b. b ≡ Zero) (λ b e. ap is_zero e) (take wide addr) low)

undefined_passes : (value : List Tri) → NoneDefined value → none_defined value ≡ true
undefined_passes value h = each_all is_any (λ t. t ≡ tri.Any) (λ t e. ap is_any e) value h

never_both : (left right : List Bool) → ((j : ℕ) → (bit_at left j && bit_at right j) ≡ false) → none_both left right ≡ true
never_both [] right h = refl
never_both (a ∷ left) [] h = refl
never_both (a ∷ left) (b ∷ right) h = both (not (a && b)) (none_both left right) (is_not (a && b) (h 0)) (never_both left right (λ j. h (suc j)))

any_none : (flags : List Bool) → list_any (λ b. b) flags ≡ false → none_set flags ≡ true
any_none [] h = refl
any_none (true ∷ fs) h = cc
any_none (false ∷ fs) h = any_none fs h

pins_pass : (r : RdPort) → AtOnce r → pins_at_once r ≡ true
pins_pass r fits =
    let six = both (none_set r.trans) (none_set r.coll) (any_none r.trans fits.trans) (any_none r.coll fits.coll) in
    let five = both (not r.ce_over_srst) (none_set r.trans && none_set r.coll) (is_not r.ce_over_srst fits.order) six in
    let four = both (is_zero r.srst) (not r.ce_over_srst && (none_set r.trans && none_set r.coll)) (ap is_zero fits.srst) five in
    let three = both (is_zero r.arst) (is_zero r.srst && (not r.ce_over_srst && (none_set r.trans && none_set r.coll))) (ap is_zero fits.arst) four in
    both (is_one r.en) (is_zero r.arst && (is_zero r.srst && (not r.ce_over_srst && (none_set r.trans && none_set r.coll)))) (ap is_one fits.en) three

values_pass : (r : RdPort) → AtOnce r → values_at_once r ≡ true
values_pass r fits =
    both (none_defined r.arst_value) (none_defined r.srst_value && none_defined r.init_value) (undefined_passes r.arst_value fits.arst_value)
    (both (none_defined r.srst_value) (none_defined r.init_value) (undefined_passes r.srst_value fits.srst_value) (undefined_passes r.init_value fits.init_value))

at_once_passes : (r : RdPort) (clock : Option Clock) → (clock ≡ None → AtOnce r) → at_once_where clock r ≡ true
at_once_passes r None h = both (pins_at_once r) (values_at_once r) (pins_pass r (h refl)) (values_pass r (h refl))
at_once_passes r (Some c) h = refl

-- a port of more words than all ports may have would be too wide
sum_at : {X : Type 0} (f : X → ℕ) (xs : List X) (i : ℕ) (x : X) → slice_get xs i ≡ Some x → f x ≤ sum_by f xs
sum_at f [] i x e = absurd (none-some x e)
sum_at f (y ∷ ys) zero x e =
    let more = sum_by-cons f y ys in
    let same : f y ≡ f x = ap f (same_Some y x e) in
    omega (arith, more, same)
sum_at f (y ∷ ys) (suc i) x e =
    let more = sum_by-cons f y ys in
    let there = sum_at f ys i x e in
    omega (arith, more, there)

few_wide : (k : ℕ) → 2 ^ k ≤ 64 → k ≤ 6
few_wide k h =
    elim (cases_lt 6 k) as (λ _. k ≤ 6) [
      | inl lt ↦ let much = high_power k lt in absurd (omega (arith, much, h))
      | inr le ↦ le
    ]

wide_at : {X : Type 0} (wide : X → ℕ) (xs : List X) → sum_by (λ x. 2 ^ wide x) xs ≤ 64 → (i : ℕ) (x : X) → slice_get xs i ≡ Some x → wide x ≤ 6
wide_at wide xs few i x e = few_wide (wide x) (omega (arith, sum_at (λ y. 2 ^ wide y) xs i x e, few))

read_values_pass : (x : Mem) (r : RdPort) → ReadFits x r → read_values_fit x r ≡ true
read_values_pass x r fits =
    let width = data_width x r.wide in
    let four = both (has_data_width x r.wide r.srst_value) (has_data_width x r.wide r.init_value) (true_eq (length r.srst_value) width fits.srst_value) (true_eq (length r.init_value) width fits.init_value) in
    let three = both (has_data_width x r.wide r.arst_value) (has_data_width x r.wide r.srst_value && has_data_width x r.wide r.init_value) (true_eq (length r.arst_value) width fits.arst_value) four in
    both (has_data_width x r.wide r.out) (has_data_width x r.wide r.arst_value && (has_data_width x r.wide r.srst_value && has_data_width x r.wide r.init_value)) (true_eq (length r.out) width fits.out) three

masks_pass : (x : Mem) (r : RdPort) → ReadFits x r → masks_fit x r ≡ true
masks_pass x r fits =
    both (nat_eq (length r.trans) (length x.writes)) (nat_eq (length r.coll) (length x.writes) && none_both r.trans r.coll) (true_eq (length r.trans) (length x.writes) fits.trans)
    (both (nat_eq (length r.coll) (length x.writes)) (none_both r.trans r.coll) (true_eq (length r.coll) (length x.writes) fits.coll) (never_both r.trans r.coll fits.one_mask))

read_passes : (x : Mem) (r : RdPort) → ReadFits x r × (r.wide ≤ 6) → read_fits x r ≡ true
read_passes x r (fits, few) =
    let four = both (masks_fit x r) (at_once_where r.clock r) (masks_pass x r fits) (at_once_passes r r.clock fits.at_once) in
    let three = both (read_values_fit x r) (masks_fit x r && at_once_where r.clock r) (read_values_pass x r fits) four in
    let two = both (address_fits x r.wide r.addr) (read_values_fit x r && (masks_fit x r && at_once_where r.clock r)) (address_passes x r.wide r.addr fits.addr) three in
    both (nat_le r.wide 6) (address_fits x r.wide r.addr && (read_values_fit x r && (masks_fit x r && at_once_where r.clock r))) (true_le r.wide 6 few) two

write_passes : (x : Mem) (own : ℕ) (w : WrPort) → WriteFits x own w × (w.wide ≤ 6) → write_fits x own w ≡ true
write_passes x own w (fits, few) =
    let width = data_width x w.wide in
    let order = both (nat_eq (length w.prio) (length x.writes)) (none_set (drop own w.prio)) (true_eq (length w.prio) (length x.writes) fits.prio) (from_none own w.prio fits.lower) in
    let value = both (has_data_width x w.wide w.en) (has_data_width x w.wide w.value) (true_eq (length w.en) width fits.en) (true_eq (length w.value) width fits.value) in
    let three = both (write_values_fit x w) (priorities_fit x own w) value order in
    let two = both (address_fits x w.wide w.addr) (write_values_fit x w && priorities_fit x own w) (address_passes x w.wide w.addr fits.addr) three in
    both (nat_le w.wide 6) (address_fits x w.wide w.addr && (write_values_fit x w && priorities_fit x own w)) (true_le w.wide 6 few) two

writes_pass : (x : Mem) (own : ℕ) (ws : List WrPort) → ((j : ℕ) (w : WrPort) → slice_get ws j ≡ Some w → WriteFits x (j + own) w × (w.wide ≤ 6)) → writes_fit_from x own ws ≡ true
writes_pass x own [] h = refl
writes_pass x own (v ∷ vs) h =
    let now : 0 + own ≡ own = omega arith in
    let here = write_passes x own v (subst (λ n. WriteFits x n v × (v.wide ≤ 6)) now (h 0 v refl)) in
    let there = writes_pass x (own + 1) vs (λ j w e. let next : suc j + own ≡ j + (own + 1) = omega arith in subst (λ n. WriteFits x n w × (w.wide ≤ 6)) next (h (suc j) w e)) in
    both (write_fits x own v) (writes_fit_from x (own + 1) vs) here there

ports_pass : (x : Mem) → MemFits x → ports_fit x ≡ true
ports_pass x fits =
    let read_wide = wide_at (λ (r : RdPort). r.wide) x.reads fits.read_words in
    let write_wide = wide_at (λ (w : WrPort). w.wide) x.writes fits.write_words in
    let reads = each_all (read_fits x) (λ r. ReadFits x r × (r.wide ≤ 6)) (read_passes x) x.reads (λ i r e. (fits.reads i r e, read_wide i r e)) in
    let writes = writes_pass x 0 x.writes (λ j w e. let same : j ≡ j + 0 = omega arith in (subst (λ n. WriteFits x n w) same (fits.writes j w e), write_wide j w e)) in
    let read_few = true_le (sum_by (λ (r : RdPort). 2 ^ r.wide) x.reads) 64 fits.read_words in
    let write_few = true_le (sum_by (λ (w : WrPort). 2 ^ w.wide) x.writes) 64 fits.write_words in
    both (list_all (read_fits x) x.reads) (writes_fit_from x 0 x.writes && (read_words_fit x.reads && write_words_fit x.writes)) reads
    (both (writes_fit_from x 0 x.writes) (read_words_fit x.reads && write_words_fit x.writes) writes (both (read_words_fit x.reads) (write_words_fit x.writes) read_few write_few))

mem_passes : (x : Mem) → MemFits x → mem_fits x ≡ true
mem_passes x fits =
    both (sizes_fit x) (contents_fit x && ports_fit x) (sizes_pass x fits.sizes)
    (both (contents_fit x) (ports_fit x) (true_eq (length x.init) (x.size * x.width) fits.init) (ports_pass x fits))

pub mems_pass : (xs : List Mem) → Each xs MemFits → list_all mem_fits xs ≡ true
mems_pass xs fit = each_all mem_fits MemFits mem_passes xs fit
