-- What connects alone tell of the places of a module, before it is known what drives its nets: where they lead to 0 or 1, and
-- which clocks never tick.
use Rattle.std.specs.Prelude.{ℕ, ◌+◌, Bool, true, false, List, [], ◌∷◌, ◌++◌, map, length, replicate, get_or, slice_set, if◌then◌else◌}
use Rattle.std.specs.List.{range_with_len}
use Rattle.net_core.specs.declared.bits.Bit.{Bit}
use Rattle.net_core.specs.declared.bits.Bit.TheVariants as bits
use Rattle.net_wires.specs.declared.clock.ClockRoot.{ClockRoot}
use Rattle.net_wires.specs.declared.clock.ClockRoot.TheVariants as leads
use Rattle.net_wires.specs.declared.link.Link.{Link}
use Rattle.net_wires.specs.declared.link.Link.TheVariants as links
use Rattle.net_wires.specs.declared.source.Pair.{Pair}
use Rattle.net_wires.specs.Clocks.{tied_digits}
use Rattle.net_wires.specs.Links.{links_of}
use Rattle.net_wires.specs.Ties.{walk}
use Rattle.raw_cells.specs.declared.tied.Tied.{Tied}

-- what connects lead to from a place; no way to an end passes a place twice, so none is longer than there are places
abbrev pub end_of : List Link → ℕ → Link
end_of t p = walk t (length t) (links.To p)

-- each of these places
abbrev pub marked : List Bool → List ℕ → List Bool
marked ms [] = ms
marked ms (p ∷ ps) = marked (slice_set ms p true) ps

-- the places of n that a connect drives by a digit without a value
abbrev pub digits_of : ℕ → List Pair → List Bool
digits_of n pairs = marked (replicate n false) (tied_digits pairs)

abbrev pub is_digit : List Bool → ℕ → Bool
is_digit digits p = get_or digits p false

-- the bit at an end: a constant, or else some net
abbrev pub end_bit : Link → Bit
end_bit links.Zero = bits.Zero
end_bit links.One = bits.One
end_bit (links.End e) = bits.Net 0
end_bit (links.To q) = bits.Net 0

-- the clock at an end: it never ticks at a digit of a constant; what else it is is not known, and stands for a net at the place n
abbrev pub end_root : ℕ → List Bool → Link → ClockRoot
end_root n digits links.Zero = leads.Never
end_root n digits links.One = leads.Never
end_root n digits (links.End e) = if is_digit digits e then leads.Never else leads.Root n false
end_root n digits (links.To q) = leads.Root n false

abbrev pub link_bits : List Link → List Bit
link_bits t = map (λ p. end_bit (end_of t p)) (range_with_len 0 (length t))

abbrev pub link_roots : List Link → ℕ → List Bool → List ClockRoot
link_roots t n digits = map (λ p. end_root n digits (end_of t p)) (range_with_len 0 (length t))

-- The places of n bits of wires, and two behind them: one that stands for all bits of pins that are left out, and one for all
-- digits without a value at pins. Both are nets, but a clock that is a digit of a constant never ticks.
abbrev pub tied_of : ℕ → List Pair → Tied
tied_of n pairs = record {
  left_out = n;
  digit = n + 1;
  places = link_bits (links_of n pairs) ++ bits.Net 0 ∷ bits.Net 0 ∷ [];
  roots = link_roots (links_of n pairs) n (digits_of n pairs) ++ leads.Root n false ∷ leads.Never ∷ [];
}
