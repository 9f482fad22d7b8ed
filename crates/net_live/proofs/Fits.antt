-- The tests of a memory say that it fits.
use Rattle.std.proofs.Common.{◌≡◌, ℕ, zero, suc, ◌+◌, ◌*◌, ◌^◌, ◌<◌, Bool, true, false, cond, not, ◌&&◌, nat_eq, nat_le, List, [], ◌∷◌, length, take, drop, get_or, add-one, drop-cons, Option, Some, None, refl, sym, ap, subst, ◌∙◌, arith}
use Rattle.std.specs.Prelude.{slice_get}
use Rattle.std.specs.List.{list_all, list_any, sum_by}
use Rattle.std.proofs.lemmas.Option.{none-some, same_Some}
use Rattle.lib_core.specs.declared.library.Tri.{Tri}
use Rattle.lib_core.specs.declared.library.Tri.TheVariants as tri
use Rattle.net_core.specs.declared.bits.Bit.{Bit}
use Rattle.net_core.specs.declared.bits.Bit.TheVariants.{Zero, One, Net}
use Rattle.net_core.specs.declared.bits.Clock.{Clock}
use Rattle.net_core.specs.declared.mems.Attr.{Attr}
use Rattle.net_core.specs.declared.mems.Mem.{Mem}
use Rattle.net_core.specs.declared.mems.RdPort.{RdPort}
use Rattle.net_core.specs.declared.mems.WrPort.{WrPort}
use Rattle.net_core.specs.Shape.{is_zero, is_one}
use Rattle.net_core.specs.Values.{bit_at}
use Rattle.net_core.specs.Valid.{is_identifier, Each, IsCounted, AttrFits, AttrsFit, AddressFits, NoneDefined, AtOnce, ReadFits, WriteFits, MemSizes, MemFits, data_width}
use Rattle.net_core.proofs.Basics.{and_left, and_right}
use Rattle.net_live.specs.Fitting.{is_counted, is_empty, attr_fits, attrs_fit, words_fit, width_fits, sizes_fit, address_fits, has_data_width, is_any, none_defined, none_set, none_both, read_values_fit, masks_fit, pins_at_once, values_at_once, at_once_where, read_fits, write_values_fit, priorities_fit, write_fits, writes_fit_from, read_words_fit, write_words_fit, ports_fit, contents_fit, mem_fits}
use Rattle.net_live.proofs.Judged.{le_true, eq_true, not_is, none_left, each_from, each_of_front, none_from}

-- both parts of a test
abbrev Both : Bool → Bool → Type 0
Both a b = (a ≡ true) × (b ≡ true)

both : (a b : Bool) → (a && b) ≡ true → Both a b
both a b h = (and_left a b h, and_right a b h)

counted_is : {X : Type 0} (xs : List X) → is_counted xs ≡ true → IsCounted xs
counted_is xs h = let few = le_true (length xs) 4294967295 h in omega (arith, few)

pub empty_is : {X : Type 0} (xs : List X) → is_empty xs ≡ true → xs ≡ []
empty_is xs h = none_left xs (eq_true (length xs) 0 h)

zero_is : (b : Bit) → is_zero b ≡ true → b ≡ Zero
zero_is Zero h = refl
zero_is One h = cc
zero_is (Net n) h = cc

one_is : (b : Bit) → is_one b ≡ true → b ≡ One
one_is Zero h = cc
one_is One h = refl
one_is (Net n) h = cc

any_is : (t : Tri) → is_any t ≡ true → t ≡ tri.Any
any_is tri.Zero h = cc
any_is tri.One h = cc
any_is tri.Any h = refl

attr_is : (a : Attr) → attr_fits a ≡ true → AttrFits a
attr_is a h =
    let alone = cond a.is_text (is_empty a.bits) (is_empty a.value) in
    let parts = both (is_identifier a.name) (alone && is_counted a.bits) h in
    let rest = both alone (is_counted a.bits) parts.1 in
    record {
      name = parts.0;
      bits = λ text. empty_is a.bits (ap (λ t. cond t (is_empty a.bits) (is_empty a.value)) (sym text) ∙ rest.0);
      value = λ other. empty_is a.value (ap (λ t. cond t (is_empty a.bits) (is_empty a.value)) (sym other) ∙ rest.0);
      count = counted_is a.bits rest.1;
    }

attrs_are : (attrs : List Attr) → attrs_fit attrs ≡ true → AttrsFit attrs
attrs_are attrs h =
    let parts = both (list_all attr_fits attrs) (is_counted attrs) h in
    record {
      each = each_from attr_fits AttrFits attr_is attrs parts.0;
      count = counted_is attrs parts.1;
    }

sizes_are : (x : Mem) → sizes_fit x ≡ true → MemSizes x
sizes_are x h =
    let one = both (is_identifier x.name) (is_identifier x.origin && (attrs_fit x.attrs && (words_fit x && width_fits x))) h in
    let two = both (is_identifier x.origin) (attrs_fit x.attrs && (words_fit x && width_fits x)) one.1 in
    let three = both (attrs_fit x.attrs) (words_fit x && width_fits x) two.1 in
    let four = both (words_fit x) (width_fits x) three.1 in
    let ends = nat_le (x.offset + x.size) 1048576 in
    let words = both (nat_le 1 x.size) (nat_le x.size 1048576 && (ends && nat_le x.abits 32)) four.0 in
    let words_2 = both (nat_le x.size 1048576) (ends && nat_le x.abits 32) words.1 in
    let words_3 = both ends (nat_le x.abits 32) words_2.1 in
    let bits = nat_le (x.size * x.width) 8388608 in
    let width = both (nat_le 1 x.width) (nat_le x.width 65536 && bits) four.1 in
    let width_2 = both (nat_le x.width 65536) bits width.1 in
    record {
      name = one.0;
      origin = two.0;
      attrs = attrs_are x.attrs three.0;
      words = (le_true 1 x.size words.0, le_true x.size 1048576 words_2.0);
      width = (le_true 1 x.width width.0, le_true x.width 65536 width_2.0);
      bits = le_true (x.size * x.width) 8388608 width_2.1;
      addresses = le_true (x.offset + x.size) 1048576 words_3.0;
      abits = le_true x.abits 32 words_3.1;
    }

address_is : (x : Mem) (wide : ℕ) (addr : List Bit) → address_fits x wide addr ≡ true → AddressFits x wide addr
address_is x wide addr h =
    let parts = both (nat_eq (length addr) x.abits) (list_all is_zero (take wide addr)) h in
    let low = each_from is_zero (λ b. b ≡ Zero) zero_is (take wide addr) parts.1 in
    (eq_true (length addr) x.abits parts.0, λ k b lt g. each_of_front (λ b. b ≡ Zero) wide addr low k b lt g)

undefined_is : (value : List Tri) → none_defined value ≡ true → NoneDefined value
undefined_is value h = each_from is_any (λ t. t ≡ tri.Any) any_is value h

not_both : (a b : Bool) → not (a && b) ≡ true → (a && b) ≡ false
not_both a b h = not_is (a && b) h

and_false : (b : Bool) → (b && false) ≡ false
and_false true = refl
and_false false = refl

never_both : (left right : List Bool) → none_both left right ≡ true → (j : ℕ) → (bit_at left j && bit_at right j) ≡ false
never_both [] right h j = refl
never_both (a ∷ left) [] h j = and_false (bit_at (a ∷ left) j)
never_both (a ∷ left) (b ∷ right) h zero = not_both a b (and_left (not (a && b)) (none_both left right) h)
never_both (a ∷ left) (b ∷ right) h (suc j) = never_both left right (and_right (not (a && b)) (none_both left right) h) j

none_any : (flags : List Bool) → none_set flags ≡ true → list_any (λ b. b) flags ≡ false
none_any [] h = refl
none_any (true ∷ fs) h = cc
none_any (false ∷ fs) h = none_any fs h

at_once_is : (r : RdPort) → (pins_at_once r && values_at_once r) ≡ true → AtOnce r
at_once_is r h =
    let parts = both (pins_at_once r) (values_at_once r) h in
    let two = is_zero r.arst && (is_zero r.srst && (not r.ce_over_srst && (none_set r.trans && none_set r.coll))) in
    let one = both (is_one r.en) two parts.0 in
    let one_2 = both (is_zero r.arst) (is_zero r.srst && (not r.ce_over_srst && (none_set r.trans && none_set r.coll))) one.1 in
    let one_3 = both (is_zero r.srst) (not r.ce_over_srst && (none_set r.trans && none_set r.coll)) one_2.1 in
    let one_4 = both (not r.ce_over_srst) (none_set r.trans && none_set r.coll) one_3.1 in
    let one_5 = both (none_set r.trans) (none_set r.coll) one_4.1 in
    let value = both (none_defined r.arst_value) (none_defined r.srst_value && none_defined r.init_value) parts.1 in
    let value_2 = both (none_defined r.srst_value) (none_defined r.init_value) value.1 in
    record {
      en = one_is r.en one.0;
      arst = zero_is r.arst one_2.0;
      srst = zero_is r.srst one_3.0;
      arst_value = undefined_is r.arst_value value.0;
      srst_value = undefined_is r.srst_value value_2.0;
      init_value = undefined_is r.init_value value_2.1;
      order = not_is r.ce_over_srst one_4.0;
      trans = none_any r.trans one_5.0;
      coll = none_any r.coll one_5.1;
    }

at_once_of : (r : RdPort) (clock : Option Clock) → at_once_where clock r ≡ true → clock ≡ None → AtOnce r
at_once_of r None h e = at_once_is r h
at_once_of r (Some c) h e = absurd (none-some c (sym e))

read_is : (x : Mem) (r : RdPort) → read_fits x r ≡ true → ReadFits x r
read_is x r h =
    let one = both (nat_le r.wide 6) (address_fits x r.wide r.addr && (read_values_fit x r && (masks_fit x r && at_once_where r.clock r))) h in
    let two = both (address_fits x r.wide r.addr) (read_values_fit x r && (masks_fit x r && at_once_where r.clock r)) one.1 in
    let three = both (read_values_fit x r) (masks_fit x r && at_once_where r.clock r) two.1 in
    let four = both (masks_fit x r) (at_once_where r.clock r) three.1 in
    let width = data_width x r.wide in
    let value = both (has_data_width x r.wide r.out) (has_data_width x r.wide r.arst_value && (has_data_width x r.wide r.srst_value && has_data_width x r.wide r.init_value)) three.0 in
    let value_2 = both (has_data_width x r.wide r.arst_value) (has_data_width x r.wide r.srst_value && has_data_width x r.wide r.init_value) value.1 in
    let value_3 = both (has_data_width x r.wide r.srst_value) (has_data_width x r.wide r.init_value) value_2.1 in
    let mask = both (nat_eq (length r.trans) (length x.writes)) (nat_eq (length r.coll) (length x.writes) && none_both r.trans r.coll) four.0 in
    let mask_2 = both (nat_eq (length r.coll) (length x.writes)) (none_both r.trans r.coll) mask.1 in
    record {
      addr = address_is x r.wide r.addr two.0;
      out = eq_true (length r.out) width value.0;
      arst_value = eq_true (length r.arst_value) width value_2.0;
      srst_value = eq_true (length r.srst_value) width value_3.0;
      init_value = eq_true (length r.init_value) width value_3.1;
      trans = eq_true (length r.trans) (length x.writes) mask.0;
      coll = eq_true (length r.coll) (length x.writes) mask_2.0;
      one_mask = never_both r.trans r.coll mask_2.1;
      at_once = at_once_of r r.clock four.1;
    }

write_is : (x : Mem) (own : ℕ) (w : WrPort) → write_fits x own w ≡ true → WriteFits x own w
write_is x own w h =
    let one = both (nat_le w.wide 6) (address_fits x w.wide w.addr && (write_values_fit x w && priorities_fit x own w)) h in
    let two = both (address_fits x w.wide w.addr) (write_values_fit x w && priorities_fit x own w) one.1 in
    let three = both (write_values_fit x w) (priorities_fit x own w) two.1 in
    let value = both (has_data_width x w.wide w.en) (has_data_width x w.wide w.value) three.0 in
    let order = both (nat_eq (length w.prio) (length x.writes)) (none_set (drop own w.prio)) three.1 in
    record {
      addr = address_is x w.wide w.addr two.0;
      en = eq_true (length w.en) (data_width x w.wide) value.0;
      value = eq_true (length w.value) (data_width x w.wide) value.1;
      prio = eq_true (length w.prio) (length x.writes) order.0;
      lower = none_from own w.prio order.1;
    }

writes_are : (x : Mem) (own : ℕ) (ws : List WrPort) → writes_fit_from x own ws ≡ true → (j : ℕ) (w : WrPort) → slice_get ws j ≡ Some w → WriteFits x (own + j) w
writes_are x own [] h j w g = absurd (none-some w g)
writes_are x own (v ∷ vs) h zero w g =
    let here = write_is x own v (and_left (write_fits x own v) (writes_fit_from x (own + 1) vs) h) in
    let e : own ≡ own + 0 = omega arith in
    subst (λ n. WriteFits x n w) e (subst (WriteFits x own) (same_Some v w g) here)
writes_are x own (v ∷ vs) h (suc j) w g =
    let there = writes_are x (own + 1) vs (and_right (write_fits x own v) (writes_fit_from x (own + 1) vs) h) j w g in
    let e : own + 1 + j ≡ own + suc j = omega arith in
    subst (λ n. WriteFits x n w) e there

-- a step through the writes
pub writes_step : (x : Mem) (own : ℕ) (ws : List WrPort) (w : WrPort) → own < length ws → w ≡ get_or ws own w → writes_fit_from x own (drop own ws) ≡ (write_fits x own w && writes_fit_from x (own + 1) (drop (own + 1) ws))
writes_step x own ws w lt is =
    let split : drop own ws ≡ w ∷ drop (suc own) ws = drop-cons ws own w lt ∙ ap (λ v. v ∷ drop (suc own) ws) (sym is) in
    let next : drop (suc own) ws ≡ drop (own + 1) ws = ap (λ k. drop k ws) (sym (add-one own)) in
    ap (writes_fit_from x own) split ∙ ap (λ vs. write_fits x own w && writes_fit_from x (own + 1) vs) next

writes_from_0 : (x : Mem) → writes_fit_from x 0 x.writes ≡ true → (j : ℕ) (w : WrPort) → slice_get x.writes j ≡ Some w → WriteFits x j w
writes_from_0 x h j w g =
    let e : 0 + j ≡ j = omega arith in
    subst (λ n. WriteFits x n w) e (writes_are x 0 x.writes h j w g)

pub mem_is : (x : Mem) → mem_fits x ≡ true → MemFits x
mem_is x h =
    let one = both (sizes_fit x) (contents_fit x && ports_fit x) h in
    let two = both (contents_fit x) (ports_fit x) one.1 in
    let three = both (list_all (read_fits x) x.reads) (writes_fit_from x 0 x.writes && (read_words_fit x.reads && write_words_fit x.writes)) two.1 in
    let four = both (writes_fit_from x 0 x.writes) (read_words_fit x.reads && write_words_fit x.writes) three.1 in
    let five = both (read_words_fit x.reads) (write_words_fit x.writes) four.1 in
    record {
      sizes = sizes_are x one.0;
      init = eq_true (length x.init) (x.size * x.width) two.0;
      reads = each_from (read_fits x) (ReadFits x) (read_is x) x.reads three.0;
      writes = writes_from_0 x four.0;
      read_words = le_true (sum_by (λ (r : RdPort). 2 ^ r.wide) x.reads) 64 five.0;
      write_words = le_true (sum_by (λ (w : WrPort). 2 ^ w.wide) x.writes) 64 five.1;
    }

pub mems_are : (xs : List Mem) → list_all mem_fits xs ≡ true → Each xs MemFits
mems_are xs h = each_from mem_fits MemFits mem_is xs h
