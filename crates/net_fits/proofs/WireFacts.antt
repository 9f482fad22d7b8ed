-- Wires and declared memories of a module that a text has.
use Rattle.std.proofs.Common.{◌≡◌, ℕ, ◌+◌, ◌*◌, ◌≤◌, ◌<◌, ◌^◌, Bool, true, false, not, ◌&&◌, ◌||◌, List, [], ◌∷◌, ◌++◌, map, length, take, drop, Option, Some, None, nat_eq, refl, sym, ap, subst, arith}
use Rattle.std.specs.Prelude.{if◌then◌else◌, nat_lt}
use Rattle.std.specs.List.{flat_map}
use Rattle.std.proofs.lemmas.List.{length-take}
use Rattle.std.proofs.lemmas.Bool.Decides.{nat_tests}
use Rattle.rtlil_text.specs.declared.doc.DocMem.{DocMem}
use Rattle.rtlil_text.specs.declared.doc.DocModule.{DocModule}
use Rattle.rtlil_text.specs.declared.doc.DocWire.{DocWire}
use Rattle.rtlil_text.specs.declared.doc.Item.{Item}
use Rattle.rtlil_text.specs.declared.doc.Item.TheVariants as item
use Rattle.rtlil_text.specs.Grammar.{All, memory_name, wire_name}
use Rattle.rtlil_print.specs.WellFormed.{IsPortNumber}
use Rattle.net_core.specs.declared.bits.Bit.{Bit}
use Rattle.net_core.specs.declared.mems.Mem.{Mem}
use Rattle.net_core.specs.declared.modules.Wire.{Wire}
use Rattle.net_core.specs.Valid.{are_nets, AreApart, Each, IsDeclared, WireFits}
use Rattle.mem_rows.specs.Limits.{size_limit}
use Rattle.net_wires.specs.declared.breach.Breach.{Breach}
use Rattle.net_gather.specs.Faults.{at}
use Rattle.net_gather.specs.Sizes.{memory_breaches, seen_breaches, size_breaches, size_faults}
use Rattle.net_cells.specs.Wires.{declared, declared_of, wire_of, wires_from}
use Rattle.net_fits.specs.Wires.{InputsAreNets}
use Rattle.net_fits.specs.Written.{IsWritten}
use Rattle.net_fits.proofs.Lists.{each_of}
use Rattle.net_fits.proofs.Attrs.{distinct_apart}
use Rattle.net_fits.proofs.Items.{ItemKnown, items_known, MemKnown, WireKnown}

-- ---- wires

take_few : (n : ℕ) (bits : List Bit) → length (take n bits) ≤ n
take_few n bits = omega (arith, length-take n bits)

no_port_case : (a b : Bool) (n : ℕ) → IsPortNumber a b n → (a || b) ≡ false → n ≡ 0
no_port_case true b n p e = absurd cc
no_port_case false true n p e = absurd cc
no_port_case false false n p e = p

wire_fits : (w : DocWire) (bits : List Bit) → WireKnown w → length bits ≤ w.width → ((w.input && not w.output) ≡ true → are_nets bits ≡ true) → WireFits (wire_of bits w)
unfolding wire_of
wire_fits w bits k few nets = record {
  name = k.name;
  attrs = k.attrs;
  port = k.port;
  width = (let wide : w.width < 2 ^ 31 = k.width in omega (arith, few, wide));
  no_port = no_port_case w.input w.output w.port k.number;
  input = nets;
}

all_fit : (places : List Bit) (is : List Item) → All ItemKnown is → InputsAreNets places is → All WireFits (wires_from places is)
unfolding wires_from
all_fit places [] k nets = tt
all_fit places (item.Wire w ∷ is) k nets = (wire_fits w (take w.width places) k.0 (take_few w.width places) nets.0, all_fit (drop w.width places) is k.1 nets.1)
all_fit places (item.Param p ∷ is) k nets = all_fit places is k.1 nets
all_fit places (item.Mem m ∷ is) k nets = all_fit places is k.1 nets
all_fit places (item.Cell c ∷ is) k nets = all_fit places is k.1 nets
all_fit places (item.Connect l r ∷ is) k nets = all_fit places is k.1 nets

pub wires_fit : (m : DocModule) (places : List Bit) → IsWritten m → InputsAreNets places m.items → Each (wires_from places m.items) WireFits
wires_fit m places w nets = each_of WireFits (wires_from places m.items) (all_fit places m.items (items_known m w) nets)

names_are : (places : List Bit) (is : List Item) → map (λ (w : Wire). w.name) (wires_from places is) ≡ flat_map wire_name is
unfolding wires_from wire_of
names_are places [] = refl
names_are places (item.Wire w ∷ is) = ap (λ ns. w.name ∷ ns) (names_are (drop w.width places) is)
names_are places (item.Param p ∷ is) = names_are places is
names_are places (item.Mem m ∷ is) = names_are places is
names_are places (item.Cell c ∷ is) = names_are places is
names_are places (item.Connect l r ∷ is) = names_are places is

pub wire_names_apart : (m : DocModule) (places : List Bit) → IsWritten m → AreApart (map (λ (w : Wire). w.name) (wires_from places m.items))
wire_names_apart m places w = subst AreApart (sym (names_are places m.items)) (distinct_apart (flat_map wire_name m.items) w.names.wires)

-- ---- memories

front_none : {X : Type 0} (xs ys : List X) → xs ++ ys ≡ [] → xs ≡ []
front_none [] ys e = refl
front_none (x ∷ xs) ys e = absurd cc

rest_none : {X : Type 0} (xs ys : List X) → xs ++ ys ≡ [] → ys ≡ []
rest_none [] ys e = e
rest_none (x ∷ xs) ys e = absurd cc

at_none : (i : ℕ) (bs : List Breach) → at i bs ≡ [] → bs ≡ []
at_none i [] e = refl
at_none i (b ∷ bs) e = absurd cc

record Sized (size offset width : ℕ) : Type 0 where
  some_words : 1 ≤ size
  some_bits : 1 ≤ width
  addresses : offset + size ≤ 1048576
  wide : width ≤ 1024
  bits : size * width ≤ 4194304

limit_case : (a b c : Bool) (x y z : ℕ) → (if a then Some x else (if b then Some y else (if c then Some z else None))) ≡ None → (a ≡ false) × (b ≡ false) × (c ≡ false)
limit_case true b c x y z e = absurd cc
limit_case false true c x y z e = absurd cc
limit_case false false true x y z e = absurd cc
limit_case false false false x y z e = (refl, refl, refl)

not_below : (a b : ℕ) → nat_lt a b ≡ false → b ≤ a
not_below a b e = grind (arith, nat_tests)

not_zero : (n : ℕ) → nat_eq n 0 ≡ false → 1 ≤ n
not_zero n e = grind (arith, nat_tests)

none_seen : (o : Option ℕ) → seen_breaches o ≡ [] → o ≡ None
none_seen None e = refl
none_seen (Some n) e = absurd cc

zero_case : (a b : Bool) (x : Breach) (o : Option ℕ) → (if a || b then x ∷ [] else seen_breaches o) ≡ [] → (a ≡ false) × (b ≡ false) × (o ≡ None)
zero_case true b x o e = absurd cc
zero_case false true x o e = absurd cc
zero_case false false x o e = (refl, refl, none_seen o e)

sized : (m : DocMem) → memory_breaches m ≡ [] → Sized m.size m.offset m.width
unfolding memory_breaches
sized m e =
    let parts = zero_case (nat_eq m.width 0) (nat_eq m.size 0) _ (size_limit m.size m.offset m.width) e in
    let within = limit_case (nat_lt 1048576 (m.offset + m.size)) (nat_lt 1024 m.width) (nat_lt 4194304 (m.size * m.width)) 1048577 1025 4194305 parts.2 in
    record {
      some_words = not_zero m.size parts.1;
      some_bits = not_zero m.width parts.0;
      addresses = not_below 1048576 (m.offset + m.size) within.0;
      wide = not_below 1024 m.width within.1;
      bits = not_below 4194304 (m.size * m.width) within.2;
    }

declared_fits : (m : DocMem) → MemKnown m → Sized m.size m.offset m.width → IsDeclared (declared_of m)
unfolding declared_of
declared_fits m k s =
    let words : m.offset + m.size ≤ 1048576 = s.addresses in
    let wide : m.width ≤ 1024 = s.wide in
    let bits : m.size * m.width ≤ 4194304 = s.bits in
    record {
      sizes = record {
        name = k.name;
        origin = k.name;
        attrs = k.attrs;
        words = (s.some_words, omega (arith, words));
        width = (s.some_bits, omega (arith, wide));
        bits = omega (arith, bits);
        addresses = s.addresses;
        abits = omega arith;
      };
      reads = refl;
      writes = refl;
    }

all_declared : (i bits : ℕ) (is : List Item) → All ItemKnown is → size_faults i bits is ≡ [] → All IsDeclared (declared is)
all_declared i bits [] k e = tt
all_declared i bits (item.Wire w ∷ is) k e = all_declared (i + 1) (bits + w.width) is k.1 (rest_none (at i (size_breaches bits (item.Wire w))) _ e)
all_declared i bits (item.Param p ∷ is) k e = all_declared (i + 1) (bits + 0) is k.1 e
all_declared i bits (item.Mem m ∷ is) k e = (
  declared_fits m k.0 (sized m (at_none i (memory_breaches m) (front_none (at i (memory_breaches m)) _ e))),
  all_declared (i + 1) (bits + 0) is k.1 (rest_none (at i (memory_breaches m)) _ e),
)
all_declared i bits (item.Cell c ∷ is) k e = all_declared (i + 1) (bits + 0) is k.1 e
all_declared i bits (item.Connect l r ∷ is) k e = all_declared (i + 1) (bits + 0) is k.1 e

pub declared_fit : (m : DocModule) (i bits : ℕ) → IsWritten m → size_faults i bits m.items ≡ [] → Each (declared m.items) IsDeclared
declared_fit m i bits w e = each_of IsDeclared (declared m.items) (all_declared i bits m.items (items_known m w) e)

mem_names_are : (is : List Item) → map (λ (x : Mem). x.name) (declared is) ≡ flat_map memory_name is
unfolding declared_of
mem_names_are [] = refl
mem_names_are (item.Wire w ∷ is) = mem_names_are is
mem_names_are (item.Param p ∷ is) = mem_names_are is
mem_names_are (item.Mem m ∷ is) = ap (λ ns. m.name ∷ ns) (mem_names_are is)
mem_names_are (item.Cell c ∷ is) = mem_names_are is
mem_names_are (item.Connect l r ∷ is) = mem_names_are is

pub mem_names_apart : (m : DocModule) → IsWritten m → AreApart (map (λ (x : Mem). x.name) (declared m.items))
mem_names_apart m w = subst AreApart (sym (mem_names_are m.items)) (distinct_apart (flat_map memory_name m.items) w.names.memories)
