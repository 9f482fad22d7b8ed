-- The wires and the declared memories of a module, and the values at the start that the attribute `\init` of wires gives to
-- nets. (Yosys manual, text representation of RTLIL, and its attributes.)
use Rattle.std.specs.Prelude.{◌≡◌, ℕ, ◌<◌, Bool, List, [], ◌∷◌, length, take, drop, replicate, Some, slice_get, codes, nat_eq, if◌then◌else◌}
use Rattle.std.specs.List.{flat_map}
use Rattle.std.specs.Str.{bytes_eq}
use Rattle.lib_core.specs.declared.library.Tri.{Tri}
use Rattle.lib_core.specs.declared.library.Tri.TheVariants.{Any}
use Rattle.net_core.specs.declared.bits.Bit.{Bit}
use Rattle.net_core.specs.declared.bits.Bit.TheVariants.{Zero, One, Net}
use Rattle.net_core.specs.declared.mems.Attr.{Attr}
use Rattle.net_core.specs.declared.mems.Mem.{Mem}
use Rattle.net_core.specs.declared.modules.Wire.{Wire}
use Rattle.net_core.specs.Shape.{is_defined}
use Rattle.rtlil_text.specs.declared.doc.DocMem.{DocMem}
use Rattle.rtlil_text.specs.declared.doc.DocWire.{DocWire}
use Rattle.rtlil_text.specs.declared.doc.Item.{Item}
use Rattle.rtlil_text.specs.declared.doc.Item.TheVariants as item
use Rattle.cell_consts.specs.Consts.{attr_bits}
use Rattle.doc_params.specs.Docs.{attrs_of}

-- ---- wires

unfoldable pub wire_of : List Bit → DocWire → Wire
wire_of bits w = record {
  name = w.name;
  attrs = attrs_of w.attrs;
  port = w.port;
  input = w.input;
  output = w.output;
  offset = w.offset;
  upto = w.upto;
  signed = w.signed;
  bits = bits;
}

-- the bits of the wires stand first among the places, one wire behind the other
unfoldable pub wires_from : List Bit → List Item → List Wire
wires_from places [] = []
wires_from places (item.Wire w ∷ is) = wire_of (take w.width places) w ∷ wires_from (drop w.width places) is
wires_from places (item.Param p ∷ is) = wires_from places is
wires_from places (item.Mem m ∷ is) = wires_from places is
wires_from places (item.Cell c ∷ is) = wires_from places is
wires_from places (item.Connect l r ∷ is) = wires_from places is

-- ---- memories that are declared

unfoldable pub declared_of : DocMem → Mem
declared_of m = record {
  name = m.name;
  attrs = attrs_of m.attrs;
  width = m.width;
  size = m.size;
  offset = m.offset;
  abits = 0;
  init = [];
  reads = [];
  writes = [];
  origin = m.name;
  place = record { copy = 0; row = 0; column = 0 };
}

abbrev pub declared_in : Item → List Mem
declared_in (item.Mem m) = declared_of m ∷ []
declared_in (item.Wire w) = []
declared_in (item.Param p) = []
declared_in (item.Cell c) = []
declared_in (item.Connect l r) = []

abbrev pub declared : List Item → List Mem
declared is = flat_map declared_in is

-- ---- values at the start

-- the first of two that is 0 or 1
abbrev pub or_else : Tri → Tri → Tri
or_else a b = if is_defined a then a else b

abbrev pub is_init : Attr → Bool
is_init a = bytes_eq a.name (codes "\\init")

-- bits say what they are before the others do, place by place
unfoldable pub put_before : List Tri → List Tri → List Tri
put_before bits [] = []
put_before [] (i ∷ is) = i ∷ is
put_before (b ∷ bs) (i ∷ is) = or_else b i ∷ put_before bs is

abbrev pub with_attr : Attr → List Tri → List Tri
with_attr a others = if is_init a then put_before (attr_bits a) others else others

-- what the first attribute `\init` that defines it says of each of so many bits
unfoldable pub inits_of : List Attr → ℕ → List Tri
inits_of [] width = replicate width Any
inits_of (a ∷ as_) width = with_attr a (inits_of as_ width)

-- a bit, and what its wire says of it
abbrev pub bit_start : Bit → Tri → ℕ → Tri → Tri
bit_start Zero t net rest = rest
bit_start One t net rest = rest
bit_start (Net n) t net rest = if nat_eq n net then or_else t rest else rest

-- the value at the start of a net: what the first of these bits says that defines it
unfoldable pub start_in : List Bit → List Tri → ℕ → Tri → Tri
start_in [] ts net rest = rest
start_in (b ∷ bs) [] net rest = rest
start_in (b ∷ bs) (t ∷ ts) net rest = bit_start b t net (start_in bs ts net rest)

-- the first wire in file order that defines it counts
unfoldable pub start_of : List Wire → ℕ → Tri
start_of [] net = Any
start_of (w ∷ ws) net = start_in w.bits (inits_of w.attrs (length w.bits)) net (start_of ws net)

-- the value at the start of each of so many nets
pub record AreStarts (nets : ℕ) (ws : List Wire) (starts : List Tri) : Type 0 where
  pub long : length starts ≡ nets
  pub each : (n : ℕ) → n < nets → slice_get starts n ≡ Some (start_of ws n)
