-- The wires of a module by their names, and where their bits lie in the list of all bits.
use Rattle.std.specs.Prelude.{◌≡◌, ℕ, ◌+◌, ◌≤◌, List, [], ◌∷◌, Option, Some, None, if◌then◌else◌}
use Rattle.std.specs.Str.{bytes_eq}
use Rattle.rtlil_text.specs.declared.doc.Item.{Item}
use Rattle.rtlil_text.specs.declared.doc.Item.TheVariants as item
use Rattle.net_wires.specs.declared.names.Span.{Span}

abbrev pub Entry : Type 0
Entry = List ℕ × Span

-- the wire of a name; the first counts
abbrev pub look : List Entry → List ℕ → Option Span
look [] n = None
look (e ∷ es) n = if bytes_eq n e.0 then Some e.1 else look es n

-- the bits of wires stand one behind the other, in file order
abbrev pub spans : ℕ → List Item → List Entry
spans from [] = []
spans from (item.Wire w ∷ is) = (w.name, record { base = from; width = w.width }) ∷ spans (from + w.width) is
spans from (item.Param p ∷ is) = spans from is
spans from (item.Mem m ∷ is) = spans from is
spans from (item.Cell c ∷ is) = spans from is
spans from (item.Connect l r ∷ is) = spans from is

-- how many bits the wires have together
abbrev pub wire_bits : List Item → ℕ
wire_bits [] = 0
wire_bits (item.Wire w ∷ is) = w.width + wire_bits is
wire_bits (item.Param p ∷ is) = wire_bits is
wire_bits (item.Mem m ∷ is) = wire_bits is
wire_bits (item.Cell c ∷ is) = wire_bits is
wire_bits (item.Connect l r ∷ is) = wire_bits is

-- each wire's bits are among the first n
abbrev pub There : ℕ → List Entry → Type 0
There n es = (name : List ℕ) (s : Span) → look es name ≡ Some s → s.base + s.width ≤ n
