-- When ports work at one clock edge. A clock is a root with one of its edges, or constant.
use Rattle.std.specs.Prelude.{Bool, true, false, not, ◌&&◌, nat_eq, List, [], ◌∷◌, Option, Some, None}
use Rattle.std.specs.List.{list_all}
use Rattle.lib_core.specs.declared.library.EdgeKind.{EdgeKind}
use Rattle.lib_core.specs.declared.library.EdgeKind.TheVariants.{Pos, Neg, Either}
use Rattle.net_core.specs.declared.bits.Clock.{Clock}
use Rattle.net_core.specs.declared.bits.Clock.TheVariants.{Root, Never}
use Rattle.net_core.specs.declared.mems.WrPort.{WrPort}
use Rattle.net_core.specs.Values.{same_bool}

-- the same root with the same edge, or both constant
abbrev pub same_clock : Clock → Clock → Bool
same_clock Never Never = true
same_clock Never (Root n r) = false
same_clock (Root n r) Never = false
same_clock (Root n r) (Root m s) = nat_eq n m && same_bool r s

-- Two ports are in one domain where their clocks are the same root with the same edge. A constant clock is in none.
abbrev pub one_domain : Clock → Clock → Bool
one_domain Never d = false
one_domain (Root n r) d = same_clock (Root n r) d

-- a read without a clock is in no domain
abbrev pub in_domain : Option Clock → Clock → Bool
in_domain None d = false
in_domain (Some c) d = one_domain c d

-- a group's ports work at this clock; a constant clock has no edge, and every port works at it
abbrev pub fits_edge : Option EdgeKind → Clock → Bool
fits_edge e Never = true
fits_edge None (Root n rising) = false
fits_edge (Some Pos) (Root n rising) = rising
fits_edge (Some Neg) (Root n rising) = not rising
fits_edge (Some Either) (Root n rising) = true

-- all writes are in one domain
abbrev pub all_one_domain : List WrPort → Bool
all_one_domain [] = true
all_one_domain (w ∷ ws) = list_all (λ v. one_domain w.clock v.clock) (w ∷ ws)

-- all writes have one clock, which may be constant
abbrev pub all_one_clock : List WrPort → Bool
all_one_clock [] = true
all_one_clock (w ∷ ws) = list_all (λ v. same_clock w.clock v.clock) (w ∷ ws)
