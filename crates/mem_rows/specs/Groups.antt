-- Ports of several words. In a memory cell that holds a whole memory a port is one or more port numbers that stand side by
-- side: the first, and the continuations behind it. (Yosys manual, memories.)
use Rattle.std.specs.Prelude.{ℕ, ◌+◌, Bool, true, false, not, ◌&&◌, ◌||◌, List, [], ◌∷◌, map, take, nat_eq}
use Rattle.std.specs.List.{list_all}
use Rattle.lib_core.specs.declared.library.Tri.{Tri}
use Rattle.net_core.specs.Valid.{is_one_digit}

-- how many numbers each port has, behind one that has so many so far
abbrev pub sizes_from : ℕ → List Bool → List ℕ
sizes_from here [] = here ∷ []
sizes_from here (true ∷ more) = sizes_from (here + 1) more
sizes_from here (false ∷ more) = here ∷ sizes_from 1 more

-- the number at place 0 is the first of a port, whatever is said of it
abbrev pub port_sizes : List Bool → List ℕ
port_sizes [] = []
port_sizes (first ∷ more) = sizes_from 1 more

-- as many words as an address without its low bits can reach, up to 64
abbrev pub is_group : ℕ → Bool
is_group n = nat_eq n 1 || nat_eq n 2 || nat_eq n 4 || nat_eq n 8 || nat_eq n 16 || nat_eq n 32 || nat_eq n 64

-- port numbers with these continuations are ports of allowed numbers of words
unfoldable pub are_ports : List Bool → Bool
are_ports [] = true
are_ports (first ∷ more) = not first && list_all is_group (port_sizes (first ∷ more))

-- The numbers below a count, with these continuations, are ports of 1, 2, 4, .. or 64 words. A bit that is not written is no
-- continuation.
abbrev pub are_groups : ℕ → List Tri → Bool
are_groups count bits = are_ports (take count (map is_one_digit bits))
