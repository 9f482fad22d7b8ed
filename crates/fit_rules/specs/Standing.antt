-- Which group a write can stand in, and which place a read.
use Rattle.std.specs.Prelude.{ℕ, ◌+◌, ◌-◌, Bool, true, false, not, ◌&&◌, ◌||◌, nat_eq, nat_lt, nat_le, List, [], ◌∷◌, length, count_by, Option, Some, None, slice_get, if◌then◌else◌}
use Rattle.std.specs.List.{list_any, list_all}
use Rattle.lib_core.specs.declared.library.Group.{Group}
use Rattle.lib_core.specs.declared.library.Variant.{Variant}
use Rattle.lib_core.specs.Rams.{width_at, reads_now, reads_later, kind_writes}
use Rattle.net_core.specs.declared.bits.Bit.{Bit}
use Rattle.net_core.specs.declared.bits.Clock.{Clock}
use Rattle.net_core.specs.declared.mems.RdPort.{RdPort}
use Rattle.net_core.specs.declared.mems.WrPort.{WrPort}
use Rattle.net_core.specs.Ports.{same_bit}
use Rattle.geom_core.specs.declared.candidates.ReadPlace.{ReadPlace}
use Rattle.geom_core.specs.declared.candidates.ReadPlace.TheVariants as place
use Rattle.fit_pairs.specs.Clocks.{same_clock, fits_edge}
use Rattle.fit_pairs.specs.Placed.{Reader, Writer}
use Rattle.fit_pairs.specs.Pairs.{ride_met}
use Rattle.fit_pairs.specs.Priorities.{is_single, stands_even}
use Rattle.fit_rules.specs.declared.spots.Spot.{Spot}

-- the group of this number is there and has a property
abbrev pub at_group : Variant → ℕ → (Group → Bool) → Bool
at_group v n test = elim (slice_get v.groups n) as (λ _. Bool) [ None ↦ false | Some g ↦ test g ]

-- A port of more words than a row has takes a level above the spot's. The group has that level; ports that have no width of
-- their own have the spot's alone.
abbrev pub level_allowed : Variant → Spot → ℕ → Group → Bool
level_allowed v s wide g = list_any (nat_eq (s.level + (wide - s.fold))) g.levels && (v.per_port || nat_le wide s.fold)

-- the group writes at the write's clock, at its level
abbrev pub write_stands : Variant → Spot → WrPort → ℕ → Bool
write_stands v s w n = at_group v n (λ g. kind_writes g.kind && (fits_edge g.edge w.clock && level_allowed v s w.wide g))

-- how many names a group has, and how many of them the writes leave
abbrev pub names_of : Variant → ℕ → ℕ
names_of v n = elim (slice_get v.groups n) as (λ _. ℕ) [ None ↦ 0 | Some g ↦ length g.names ]

abbrev pub left : Variant → List ℕ → ℕ → ℕ
left v groups n = names_of v n - count_by (nat_eq n) groups

-- no group has more writes than names
abbrev pub have_names : Variant → List ℕ → Bool
have_names v groups = list_all (λ n. nat_le (count_by (nat_eq n) groups) (names_of v n)) groups

-- A write of more words than a row has goes to several rows' words at once: it needs bytes within the level's width, or one
-- bit as all its enables, and then each write whose priority over it is emulated has too and has as many words.
abbrev pub has_bytes : Option ℕ → ℕ → Bool
has_bytes None width = false
has_bytes (Some byte) width = nat_le byte width

abbrev pub single_met : Variant → List WrPort → List ℕ → Writer → Bool
single_met v writes groups w = is_single w.port.en && stands_even v writes groups w

abbrev pub lanes_met : Variant → Spot → List WrPort → List ℕ → Writer → Bool
lanes_met v s writes groups w = nat_le w.port.wide s.fold || (has_bytes v.byte (width_at v.widths s.level) || single_met v writes groups w)

-- The group reads as the port does: at once, or into a register at the port's edge. The register of a clocked read may stand
-- outside a group that reads at once.
abbrev pub suits : Group → Option Clock → Bool
suits g None = reads_now g.kind
suits g (Some c) = reads_now g.kind || (reads_later g.kind && fits_edge g.edge c)

abbrev pub same_bits : List Bit → List Bit → Bool
same_bits [] [] = true
same_bits [] (b ∷ bs) = false
same_bits (a ∷ xs) [] = false
same_bits (a ∷ xs) (b ∷ bs) = same_bit a b && same_bits xs bs

-- a register within the slot of a write has the write's clock
abbrev pub clock_agrees : Group → Option Clock → Clock → Bool
clock_agrees g None c = not (reads_later g.kind)
clock_agrees g (Some d) c = not (reads_later g.kind) || same_clock d c

-- the group reads and writes at one name, and reads as the port does
abbrev pub carries : Group → Option Clock → Clock → Bool
carries g read write = kind_writes g.kind && (suits g read && clock_agrees g read write)

abbrev pub carried_in : Variant → RdPort → WrPort → ℕ → Bool
carried_in v r w n = at_group v n (λ g. carries g r.clock w.clock)

-- the read can stand at the name of the write, which is in this group: it has as many words and the same address
abbrev pub can_ride : Variant → RdPort → WrPort → ℕ → Bool
can_ride v r w n = nat_eq w.wide r.wide && (same_bits w.addr r.addr && carried_in v r w n)

-- the first write at whose name the read can stand, counted from a number
abbrev pub first_ride : Variant → RdPort → ℕ → List WrPort → List ℕ → Option ℕ
first_ride v r n [] gs = None
first_ride v r n (w ∷ ws) [] = None
first_ride v r n (w ∷ ws) (g ∷ gs) = if can_ride v r w g then Some n else first_ride v r (n + 1) ws gs

abbrev pub is_this : Option ℕ → ℕ → Bool
is_this None n = false
is_this (Some m) n = nat_eq m n

-- A place suits a read: a group that reads as it does and has a name left, or the name of the first write that it can stand at.
abbrev pub place_suits : Variant → List WrPort → List ℕ → RdPort → ReadPlace → Bool
place_suits v writes groups r (place.Group n) = at_group v n (λ g. suits g r.clock) && nat_lt 0 (left v groups n)
place_suits v writes groups r (place.Ride w) = is_this (first_ride v r 0 writes groups) w

-- the group in which a read stands
abbrev pub group_of : List ℕ → ReadPlace → Option ℕ
group_of groups (place.Group n) = Some n
group_of groups (place.Ride w) = slice_get groups w

abbrev pub read_in : ℕ → RdPort → ReadPlace → ℕ → Option Group → Option Reader
read_in number r p n None = None
read_in number r p n (Some g) = Some (record { number = number; port = r; place = p; group = n; kind = g })

abbrev pub read_at : Variant → ℕ → RdPort → ReadPlace → Option ℕ → Option Reader
read_at v number r p None = None
read_at v number r p (Some n) = read_in number r p n (slice_get v.groups n)

-- a read at its place
abbrev pub placed_read : Variant → List ℕ → ℕ → RdPort → ReadPlace → Option Reader
placed_read v groups number r p = read_at v number r p (group_of groups p)

-- a read, where its place is one, has a property
abbrev pub holds_of : (Reader → Bool) → Option Reader → Bool
holds_of test None = false
holds_of test (Some r) = test r

-- a read at the level of its group, which has what it needs at the name of a write
abbrev pub reader_stands : Variant → Spot → List WrPort → List ℕ → Reader → Bool
reader_stands v s writes groups r = level_allowed v s r.port.wide r.kind && ride_met v writes groups s.fold r.place r

abbrev pub stands_at : Variant → Spot → List WrPort → List ℕ → ℕ → RdPort → ReadPlace → Bool
stands_at v s writes groups number r p = holds_of (reader_stands v s writes groups) (placed_read v groups number r p)

abbrev pub read_stands : Variant → Spot → List WrPort → List ℕ → ℕ → RdPort → ReadPlace → Bool
read_stands v s writes groups number r p = place_suits v writes groups r p && stands_at v s writes groups number r p
