-- Connects as a table: where each place leads. A place is a number, its position in the list of all bits.
use Rattle.std.specs.Prelude.{ℕ, ◌<◌, List, [], ◌∷◌, map, slice_set}
use Rattle.std.specs.List.{range_with_len}
use Rattle.net_wires.specs.declared.link.Link.{Link}
use Rattle.net_wires.specs.declared.link.Link.TheVariants as links
use Rattle.net_wires.specs.declared.source.Pair.{Pair}
use Rattle.net_wires.specs.declared.source.Source.{Source}
use Rattle.net_wires.specs.declared.source.Source.TheVariants as source

-- a bit that no connect drives is its own end
abbrev pub own : ℕ → List Link
own n = map links.End (range_with_len 0 n)

-- what a connect puts behind a place; a digit without a value leaves it its own end
abbrev pub link_of : ℕ → Source → Link
link_of l source.Zero = links.Zero
link_of l source.One = links.One
link_of l source.Loose = links.End l
link_of l (source.At r) = links.To r

-- a connect drives its left side
abbrev pub tie_left : List Link → Source → Source → List Link
tie_left t (source.At l) r = slice_set t l (link_of l r)
tie_left t s r = t

abbrev pub tie_pair : List Link → Pair → List Link
tie_pair t p = tie_left t p.left p.right

abbrev pub tie_all : List Link → List Pair → List Link
tie_all t [] = t
tie_all t (p ∷ ps) = tie_all (tie_pair t p) ps

-- where each of n places leads by one connect
abbrev pub links_of : ℕ → List Pair → List Link
links_of n ps = tie_all (own n) ps

-- a place among the first n, or a constant
abbrev pub IsWithin : ℕ → Source → Type 0
IsWithin n (source.At p) = p < n
IsWithin n s = Unit {0}

abbrev pub SourcesWithin : ℕ → List Source → Type 0
SourcesWithin n [] = Unit {0}
SourcesWithin n (s ∷ ss) = IsWithin n s × SourcesWithin n ss

abbrev pub PairsWithin : ℕ → List Pair → Type 0
PairsWithin n [] = Unit {0}
PairsWithin n (p ∷ ps) = IsWithin n p.left × (IsWithin n p.right × PairsWithin n ps)
