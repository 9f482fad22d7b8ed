-- What a pair of a clocked read and a write in one domain shows of the write, what it has to show, and what is needed for
-- that outside the RAM.
use Rattle.std.specs.Prelude.{ℕ, Bool, true, false, not, ◌&&◌, ◌||◌, cond, nat_eq, List, Some, None, slice_get}
use Rattle.std.specs.List.{list_any}
use Rattle.lib_core.specs.declared.library.OwnWrite.{OwnWrite}
use Rattle.lib_core.specs.declared.library.OwnWrite.TheVariants as own
use Rattle.lib_core.specs.declared.library.Variant.{Variant}
use Rattle.lib_core.specs.Rams.{View, Before, Behind, Undescribed, reads_now, reads_later, group_view}
use Rattle.net_core.specs.declared.mems.Pair.{Pair}
use Rattle.net_core.specs.declared.mems.WrPort.{WrPort}
use Rattle.net_core.specs.Values.{bit_at}
use Rattle.geom_core.specs.declared.candidates.ReadPlace.{ReadPlace}
use Rattle.geom_core.specs.declared.candidates.ReadPlace.TheVariants as place
use Rattle.fit_pairs.specs.declared.pairs.Relation.{Relation}
use Rattle.fit_pairs.specs.declared.pairs.Relation.TheVariants as relation
use Rattle.fit_pairs.specs.declared.pairs.Need.{Need}
use Rattle.fit_pairs.specs.declared.pairs.Need.TheVariants as need
use Rattle.fit_pairs.specs.Clocks.{in_domain}
use Rattle.fit_pairs.specs.Items.{enable_emulated}
use Rattle.fit_pairs.specs.Placed.{Reader, Writer, is_ridden, some_write, count_writes}
use Rattle.fit_pairs.specs.Priorities.{is_single, stands_even}

-- the pair is one that is never enabled together
abbrev pub is_quiet : List Pair → ℕ → ℕ → Bool
is_quiet quiet read write = list_any (λ p. nat_eq p.read read && nat_eq p.write write) quiet

-- by what the RAM's ports show of a write
abbrev pub relation_of : View → Relation
relation_of Before = relation.Old
relation_of Behind = relation.New
relation_of Undescribed = relation.Any

-- What the read shows of the write by itself. With a register outside it shows the old word. At the write's own name it goes
-- by what the port shows while it writes, else by what the write's group says of the read's.
abbrev pub native : Reader → Writer → Relation
native r w = cond (reads_now r.kind.kind) relation.Old (relation_of (group_view (is_ridden r.place w.number) r.group r.kind w.kind))

-- What the design asks of the pair: anything where it says so, the new word where the pair is transparent, else the old
-- word. A pair that is never enabled together may show anything where the read's enable is emulated, since the RAM then
-- reads at each edge.
abbrev pub asked : List Pair → Reader → Writer → Relation
asked quiet r w =
    cond (bit_at r.port.coll w.number || (is_quiet quiet r.number w.number && enable_emulated r)) relation.Any
    (cond (bit_at r.port.trans w.number) relation.New relation.Old)

-- what is needed where a pair shows the first and the second is asked: nothing, a bypass around the RAM, or that all reads
-- come before the writes
abbrev pub need_of : Relation → Relation → Need
need_of shown relation.Any = need.Nothing
need_of relation.New relation.New = need.Nothing
need_of relation.Old relation.New = need.Bypass
need_of relation.Any relation.New = need.Bypass
need_of relation.Old relation.Old = need.Nothing
need_of relation.New relation.Old = need.ReadFirst
need_of relation.Any relation.Old = need.ReadFirst

-- A pair of two domains needs nothing, and so does one that is never enabled together.
abbrev pub pair_need : List Pair → Reader → Writer → Need
pair_need quiet r w =
    cond (in_domain r.port.clock w.port.clock && not (is_quiet quiet r.number w.number)) (need_of (native r w) (asked quiet r w)) need.Nothing

abbrev pub same_need : Need → Need → Bool
same_need need.Nothing need.Nothing = true
same_need need.Bypass need.Bypass = true
same_need need.ReadFirst need.ReadFirst = true
same_need a b = false

abbrev pub makes : Need → List Pair → Reader → Writer → Bool
makes wanted quiet r w = same_need wanted (pair_need quiet r w)

-- some write makes this need of the read
abbrev pub some_need : Need → List Pair → Variant → List WrPort → List ℕ → Reader → Bool
some_need wanted quiet v writes groups r = some_write v (makes wanted quiet r) 0 writes groups

-- the pair is transparent, in one domain
abbrev pub is_new : Relation → Bool
is_new relation.Old = false
is_new relation.New = true
is_new relation.Any = false

abbrev pub is_transparent : List Pair → Reader → Writer → Bool
is_transparent quiet r w = in_domain r.port.clock w.port.clock && is_new (asked quiet r w)

-- How many transparent pairs of the read are emulated. Where one is, all are; where all reads come before the writes, all
-- are too.
abbrev pub bypasses : Bool → List Pair → Variant → List WrPort → List ℕ → Reader → ℕ
bypasses read_first quiet v writes groups r =
    cond (read_first || some_need need.Bypass quiet v writes groups r) (count_writes v (is_transparent quiet r) 0 writes groups) 0

-- what a port shows while it writes is settled for whole words alone
abbrev pub shows_whole : OwnWrite → Bool
shows_whole own.Undefined = true
shows_whole own.NoChange = true
shows_whole own.Old = false
shows_whole own.New = false
shows_whole own.NewOnly = true

-- A read in the register of the port of a write of its domain, which shows whole words alone, needs that the write has one
-- bit as all its enables, that each write whose priority over it is emulated has too and has as many words, and that a row
-- has one word.
abbrev pub whole_words : Variant → List WrPort → List ℕ → ℕ → Writer → Bool
whole_words v writes groups fold w = is_single w.port.en && (stands_even v writes groups w && nat_eq fold 0)

abbrev pub asks_whole : Reader → WrPort → Bool
asks_whole r w = in_domain r.port.clock w.clock && (reads_later r.kind.kind && shows_whole r.kind.own)

abbrev pub ridden_met : Variant → List WrPort → List ℕ → ℕ → Reader → ℕ → WrPort → Bool
ridden_met v writes groups fold r number w =
    not (asks_whole r w) || whole_words v writes groups fold (record { number = number; port = w; group = r.group; kind = r.kind })

abbrev pub ride_met : Variant → List WrPort → List ℕ → ℕ → ReadPlace → Reader → Bool
ride_met v writes groups fold (place.Group n) r = true
ride_met v writes groups fold (place.Ride n) r = elim (slice_get writes n) as (λ _. Bool) [ None ↦ false | Some w ↦ ridden_met v writes groups fold r n w ]
