-- What is known where a choice is plain: its one write and its one read, and the groups in which they stand.
use Rattle.std.proofs.Common.{◌≡◌, ℕ, ◌+◌, ◌^◌, ◌<◌, ◌≤◌, Bool, true, false, cond, not, ◌&&◌, List, [], ◌∷◌, length, get_or, Option, Some, None, refl, sym, ap, ◌∙◌, arith, nat_eq, nat_lt, nat_le}
use Rattle.std.specs.Prelude.{slice_get, count_by, is_none}
use Rattle.std.specs.List.{list_all, list_any}
use Rattle.std.proofs.lemmas.Bool.{eqb-true, eq-eqb}
use Rattle.lib_core.specs.declared.library.Group.{Group}
use Rattle.lib_core.specs.declared.library.PortKind.{PortKind}
use Rattle.lib_core.specs.declared.library.PortKind.TheVariants.{Ar, Sr, Sw, Arsw, Srsw}
use Rattle.lib_core.specs.declared.library.RamKind.{RamKind}
use Rattle.lib_core.specs.declared.library.Variant.{Variant}
use Rattle.lib_core.specs.declared.library.Library.{Library}
use Rattle.lib_core.specs.Rams.{reads_now, reads_later, kind_writes}
use Rattle.net_core.specs.declared.bits.Bit.TheVariants.{Zero as Low}
use Rattle.net_core.specs.declared.bits.Clock.{Clock}
use Rattle.net_core.specs.declared.mems.Mem.{Mem}
use Rattle.net_core.specs.declared.mems.MemJob.{MemJob}
use Rattle.net_core.specs.declared.mems.RdPort.{RdPort}
use Rattle.net_core.specs.declared.mems.WrPort.{WrPort}
use Rattle.net_core.specs.Runs.{variant_of}
use Rattle.net_core.specs.Valid.{MemFits}
use Rattle.net_core.proofs.Basics.{and_left, and_right, all_at}
use Rattle.geom_core.specs.declared.candidates.ReadPlace.{ReadPlace}
use Rattle.geom_core.specs.declared.candidates.ReadPlace.TheVariants as place
use Rattle.geom_core.specs.declared.candidates.RamChoice.{RamChoice}
use Rattle.geom_core.specs.declared.candidates.Shape.{Shape}
use Rattle.fit_pairs.specs.Clocks.{fits_edge}
use Rattle.fit_pairs.specs.Items.{fill_admits}
use Rattle.fit_rules.specs.declared.spots.Spot.{Spot}
use Rattle.fit_rules.specs.Limits.{LibraryLimits, VariantLimits}
use Rattle.fit_rules.specs.Standing.{same_bits, at_group, level_allowed, write_stands, names_of, left, have_names, suits, carries, carried_in, can_ride, is_this, place_suits, stands_at, read_stands}
use Rattle.fit_rules.specs.Rules.{zip_each, zip_all, few_ports, is_aligned, writes_stand, writes_placed, reads_placed, lanes_stand, can_start, order_met, is_small, ports_met, rest_met, ram_fits}
use Rattle.fit_rules.specs.Shape.{rows, columns}
use Rattle.fit_rules.specs.Fits.{spot_of, is_spot, variant_in, variant_at, shape_in, shape_of}
use Rattle.fit_rules.proofs.Chosen.{variant_limits, fits_here}
use Rattle.ram_emit.specs.Plain.{is_plain_kind, is_plain_group, is_plain_variant, is_plain_at, is_plain_read, is_plain_write, IsPlain}
use Rattle.ram_emit.specs.Cell.{word_bits, cell_in, plain_cell}
use Rattle.ram_emit.proofs.Whole.{all_rows, all_columns, one_enable}

-- ---- the variant

same_ram : (o : Option Variant) (m : Mem) (c : RamChoice) (name : List ℕ) (first : ℕ) → (cell_in o m c name first).ram ≡ c.ram
same_ram None m c name first = refl
same_ram (Some x) m c name first = refl

same_variant : (o : Option Variant) (m : Mem) (c : RamChoice) (name : List ℕ) (first : ℕ) → (cell_in o m c name first).variant ≡ c.variant
same_variant None m c name first = refl
same_variant (Some x) m c name first = refl

abbrev variant_by : Library → ℕ → ℕ → Option Variant
variant_by lib ram variant = elim (slice_get lib.rams ram) as (λ _. Option Variant) [ None ↦ None | Some k ↦ slice_get k.variants variant ]

found_in : (o : Option RamKind) (n : ℕ) → elim o as (λ _. Option Variant) [ None ↦ None | Some k ↦ slice_get k.variants n ] ≡ variant_in o n
found_in None n = refl
found_in (Some k) n = refl

-- the variant of the cell is that of the choice
pub chosen_variant : (lib : Library) (m : Mem) (c : RamChoice) (name : List ℕ) (first : ℕ) → variant_of lib (plain_cell lib m c name first) ≡ variant_at lib c.ram c.variant
chosen_variant lib m c name first =
    let o = variant_at lib c.ram c.variant in
    (λ i. variant_by lib (same_ram o m c name first i) (same_variant o m c name first i)) ∙ found_in (slice_get lib.rams c.ram) c.variant

pub limits_at : (lib : Library) (ram n : ℕ) (x : Variant) → LibraryLimits lib → variant_at lib ram n ≡ Some x → VariantLimits x
limits_at lib ram n x limits h = variant_limits lib ram n x limits h

pub some_plain : (o : Option Variant) → is_plain_at o ≡ true → (x : Variant) × (o ≡ Some x)
some_plain None h = cc
some_plain (Some x) h = (x, refl)

none_is : {X : Type 0} (o : Option X) → is_none o ≡ true → o ≡ None
none_is None h = refl
none_is (Some x) h = cc

pub record VariantMet (x : Variant) : Type 0 where
  pub byte : x.byte ≡ None
  pub one : length x.widths ≡ 1
  pub groups : list_all is_plain_group x.groups ≡ true

pub variant_met : (x : Variant) → is_plain_variant x ≡ true → VariantMet x
variant_met x h =
    let rest = and_right (is_none x.byte) (nat_eq (length x.widths) 1 && list_all is_plain_group x.groups) h in
    record {
      byte = none_is x.byte (and_left (is_none x.byte) (nat_eq (length x.widths) 1 && list_all is_plain_group x.groups) h);
      one = eqb-true (length x.widths) 1 (and_left (nat_eq (length x.widths) 1) (list_all is_plain_group x.groups) rest);
      groups = and_right (nat_eq (length x.widths) 1) (list_all is_plain_group x.groups) rest;
    }

-- a group of a plain variant
pub record GroupMet (g : Group) : Type 0 where
  pub kind : is_plain_kind g.kind ≡ true
  pub clken : g.clken ≡ false
  pub separate : g.separate ≡ false
  pub level : list_any (nat_eq 0) g.levels ≡ true

not_is : (b : Bool) → not b ≡ true → b ≡ false
not_is true h = cc
not_is false h = refl

pub group_met : (g : Group) → is_plain_group g ≡ true → GroupMet g
group_met g h =
    let two = not g.separate && list_any (nat_eq 0) g.levels in
    let rest = and_right (is_plain_kind g.kind) (not g.clken && two) h in
    let last = and_right (not g.clken) two rest in
    record {
      kind = and_left (is_plain_kind g.kind) (not g.clken && two) h;
      clken = not_is g.clken (and_left (not g.clken) two rest);
      separate = not_is g.separate (and_left (not g.separate) (list_any (nat_eq 0) g.levels) last);
      level = and_right (not g.separate) (list_any (nat_eq 0) g.levels) last;
    }

writes_is : (k : PortKind) → is_plain_kind k ≡ true → kind_writes k ≡ true → k ≡ Sw
writes_is Ar p w = cc
writes_is Sr p w = cc
writes_is Sw p w = refl
writes_is Arsw p w = cc
writes_is Srsw p w = cc

reads_is : (k : PortKind) → is_plain_kind k ≡ true → reads_now k ≡ true → k ≡ Ar
reads_is Ar p r = refl
reads_is Sr p r = cc
reads_is Sw p r = cc
reads_is Arsw p r = cc
reads_is Srsw p r = cc

not_both : (k : PortKind) → is_plain_kind k ≡ true → kind_writes k ≡ true → reads_now k ≡ true → ⊥
not_both Ar p w r = cc
not_both Sr p w r = cc
not_both Sw p w r = cc
not_both Arsw p w r = cc
not_both Srsw p w r = cc

-- ---- lists of one

pub single : {X : Type 0} (xs : List X) → length xs ≡ 1 → (x : X) × (xs ≡ x ∷ [])
single [] h = absurd (omega (arith, h))
single (x ∷ []) h = (x, refl)
single (x ∷ y ∷ xs) h = absurd (omega (arith, h))

one_each : {A B : Type 0} (test : A → B → Bool) (x : A) (ys : List B) → zip_each test (x ∷ []) ys ≡ true → (y : B) × (ys ≡ y ∷ []) × (test x y ≡ true)
one_each test x [] h = cc
one_each test x (y ∷ []) h = (y, refl, and_left (test x y) true h)
one_each test x (y ∷ z ∷ ys) h = let e = and_right (test x y) false h in cc

one_all : {A B : Type 0} (test : ℕ → A → B → Bool) (x : A) (ys : List B) → zip_all test 0 (x ∷ []) ys ≡ true → (y : B) × (ys ≡ y ∷ []) × (test 0 x y ≡ true)
one_all test x [] h = cc
one_all test x (y ∷ []) h = (y, refl, and_left (test 0 x y) true h)
one_all test x (y ∷ z ∷ ys) h = let e = and_right (test 0 x y) false h in cc

-- ---- ports in groups

found_group : (o : Option Group) (test : Group → Bool) → elim o as (λ _. Bool) [ None ↦ false | Some g ↦ test g ] ≡ true → (g : Group) × (o ≡ Some g) × (test g ≡ true)
found_group None test h = cc
found_group (Some g) test h = (g, refl, h)

count_names : (o : Option Group) (g : Group) → o ≡ Some g → elim o as (λ _. ℕ) [ None ↦ 0 | Some g ↦ length g.names ] ≡ length g.names
count_names o g h = ap (λ q. elim q as (λ _. ℕ) [ None ↦ 0 | Some g ↦ length g.names ]) h

le_is : (a b : ℕ) → nat_le a b ≡ true → a ≤ b
le_is a b h = grind (arith, h)

lt_is : (a b : ℕ) → nat_lt a b ≡ true → a < b
lt_is a b h = grind (arith, h)

pub record WriteGroup (x : Variant) (w : WrPort) (n : ℕ) : Type 0 where
  pub group : Group
  pub there : slice_get x.groups n ≡ Some group
  pub kind : group.kind ≡ Sw
  pub met : GroupMet group
  pub edge : fits_edge group.edge w.clock ≡ true
  pub names : 1 ≤ length group.names

pub record ReadGroup (x : Variant) (n : ℕ) : Type 0 where
  pub group : Group
  pub there : slice_get x.groups n ≡ Some group
  pub kind : group.kind ≡ Ar
  pub met : GroupMet group
  pub names : 1 ≤ length group.names

own_count : (n : ℕ) → count_by (nat_eq n) (n ∷ []) ≡ 1
own_count n = ap (λ (b : Bool). 0 + cond b 1 0) (eq-eqb n n refl)

module _ (x : Variant) (met : VariantMet x) (s : Spot) where
  plain_group : (n : ℕ) (g : Group) → slice_get x.groups n ≡ Some g → GroupMet g
  plain_group n g h = group_met g (all_at is_plain_group x.groups met.groups n g h)

  pub write_group : (w : WrPort) (n : ℕ) → write_stands x s w n ≡ true → have_names x (n ∷ []) ≡ true → WriteGroup x w n
  write_group w n h names =
      let (g, there, test) = found_group (slice_get x.groups n) (λ g. kind_writes g.kind && (fits_edge g.edge w.clock && level_allowed x s w.wide g)) h in
      let plain = plain_group n g there in
      let writes = and_left (kind_writes g.kind) (fits_edge g.edge w.clock && level_allowed x s w.wide g) test in
      let rest = and_right (kind_writes g.kind) (fits_edge g.edge w.clock && level_allowed x s w.wide g) test in
      let enough : count_by (nat_eq n) (n ∷ []) ≤ names_of x n = le_is (count_by (nat_eq n) (n ∷ [])) (names_of x n) (and_left (nat_le (count_by (nat_eq n) (n ∷ [])) (names_of x n)) true names) in
      let many : names_of x n ≡ length g.names = count_names (slice_get x.groups n) g there in
      record {
        group = g;
        there = there;
        kind = writes_is g.kind plain.kind writes;
        met = plain;
        edge = and_left (fits_edge g.edge w.clock) (level_allowed x s w.wide g) rest;
        names = omega (arith, own_count n, enough, many);
      }

  no_ride : (r : RdPort) (w : WrPort) (n : ℕ) → carried_in x r w n ≡ true → r.clock ≡ None → ⊥
  no_ride r w n h now =
      let (g, there, test) = found_group (slice_get x.groups n) (λ g. carries g r.clock w.clock) h in
      let plain = plain_group n g there in
      let e : carries g None w.clock ≡ true = ap (λ (o : Option Clock). carries g o w.clock) (sym now) ∙ test in
      let writes = and_left (kind_writes g.kind) (suits g None && (not (reads_later g.kind))) e in
      let suited = and_left (suits g None) (not (reads_later g.kind)) (and_right (kind_writes g.kind) (suits g None && (not (reads_later g.kind))) e) in
      not_both g.kind plain.kind writes suited

  none_rides : (r : RdPort) (w : WrPort) (n k : ℕ) → r.clock ≡ None → (b : Bool) → can_ride x r w n ≡ b → is_this (cond b (Some 0) None) k ≡ true → ⊥
  none_rides r w n k now true e h = no_ride r w n (and_right (same_bits w.addr r.addr) (carried_in x r w n) (and_right (nat_eq w.wide r.wide) (same_bits w.addr r.addr && carried_in x r w n) e)) now
  none_rides r w n k now false e h = cc

  pub read_group : (r : RdPort) (w : WrPort) (n : ℕ) (p : ReadPlace) → r.clock ≡ None → place_suits x (w ∷ []) (n ∷ []) r p ≡ true → (k : ℕ) × (p ≡ place.Group k) × ReadGroup x k
  read_group r w n (place.Ride k) now h = absurd (none_rides r w n k now (can_ride x r w n) refl h)
  read_group r w n (place.Group k) now h =
      let (g, there, test) = found_group (slice_get x.groups k) (λ g. suits g r.clock) (and_left (at_group x k (λ g. suits g r.clock)) (nat_lt 0 (left x (n ∷ []) k)) h) in
      let plain = plain_group k g there in
      let suited : suits g None ≡ true = ap (suits g) (sym now) ∙ test in
      let room : 0 < left x (n ∷ []) k = lt_is 0 (left x (n ∷ []) k) (and_right (at_group x k (λ g. suits g r.clock)) (nat_lt 0 (left x (n ∷ []) k)) h) in
      let many : names_of x k ≡ length g.names = count_names (slice_get x.groups k) g there in (
        k,
        refl,
        record {
          group = g;
          there = there;
          kind = reads_is g.kind plain.kind suited;
          met = plain;
          names = omega (arith, room, many);
        },
      )

-- ---- all of it

pub record PlainParts (m : Mem) (c : RamChoice) (x : Variant) : Type 0 where
  pub variant : VariantMet x
  pub some : 1 ≤ word_bits x
  pub write : WrPort
  pub writes : m.writes ≡ write ∷ []
  pub write_wide : write.wide ≡ 0
  pub own : ℕ
  pub groups : c.writes ≡ own ∷ []
  pub stands : WriteGroup x write own
  pub read : RdPort
  pub reads : m.reads ≡ read ∷ []
  pub read_wide : read.wide ≡ 0
  pub now : read.clock ≡ None
  pub spot : ℕ
  pub places : c.reads ≡ place.Group spot ∷ []
  pub shows : ReadGroup x spot
  pub offset : m.offset ≡ 0
  pub every : m.size ≡ 2 ^ m.abits
  pub rows : m.size ≤ 2 ^ x.abits
  pub bits : m.width ≤ word_bits x
  pub even : (k : ℕ) → k < m.width → get_or write.en k Low ≡ get_or write.en 0 Low
  pub start : fill_admits x.fill m.init ≡ true

shape_is : (lib : Library) (job : MemJob) (c : RamChoice) (x : Variant) → variant_at lib c.ram c.variant ≡ Some x → shape_of job lib c ≡ record { copies = 1; rows = 1; columns = 1 } → (rows job.mem x (spot_of c) ≡ 1) × (columns job.mem x (spot_of c) ≡ 1)
shape_is lib job c x h e =
    let here : shape_in job c (Some x) ≡ record { copies = 1; rows = 1; columns = 1 } = ap (shape_in job c) (sym h) ∙ e in
    (ap (λ (s : Shape). s.rows) here, ap (λ (s : Shape). s.columns) here)

at_place : (ps : List ReadPlace) (p q : ReadPlace) → ps ≡ p ∷ [] → p ≡ q → ps ≡ q ∷ []
at_place ps p q h e = h ∙ ap (λ r. r ∷ []) e

pub plain_parts : (lib : Library) (job : MemJob) (c : RamChoice) (x : Variant) → LibraryLimits lib → MemFits job.mem → IsPlain lib job c → variant_at lib c.ram c.variant ≡ Some x → PlainParts job.mem c x
unfolding ram_fits
plain_parts lib job c x limits valid plain h =
    let m = job.mem in
    let s = spot_of c in
    let met = variant_met x (ap is_plain_at (sym h) ∙ plain.variant) in
    let sized = (variant_limits lib c.ram c.variant x limits h).sized in
    let some : 1 ≤ word_bits x = sized.widths.some_bits 0 (omega (arith, met.one)) in
    let fits = fits_here job lib c x plain.fits h in
    let spot = and_left (is_spot x s) (ram_fits job x s c.writes c.reads) fits in
    let ram = and_right (is_spot x s) (ram_fits job x s c.writes c.reads) fits in
    let ports = and_left (ports_met m x s c.writes c.reads) (rest_met job x s c.writes c.reads) ram in
    let rest = and_right (ports_met m x s c.writes c.reads) (rest_met job x s c.writes c.reads) ram in
    let both = and_right (is_aligned m) (writes_placed m x s c.writes && reads_placed m x s c.writes c.reads) (and_right (few_ports m) (is_aligned m && (writes_placed m x s c.writes && reads_placed m x s c.writes c.reads)) ports) in
    let placed = and_left (writes_placed m x s c.writes) (reads_placed m x s c.writes c.reads) both in
    let read_placed = and_right (writes_placed m x s c.writes) (reads_placed m x s c.writes c.reads) both in
    let start = and_left (can_start m x) (order_met job x c.writes c.reads && is_small m x s c.writes c.reads) (and_right (lanes_stand m x s c.writes) (can_start m x && (order_met job x c.writes c.reads && is_small m x s c.writes c.reads)) rest) in
    let level : c.level ≡ 0 = let q = lt_is c.level (length x.widths) (and_right (nat_le c.fold 6) (nat_lt c.level (length x.widths)) spot) in omega (arith, q, met.one) in
    let (w, writes) = single m.writes plain.memory.one_write in
    let (r, reads) = single m.reads plain.memory.one_read in
    let standing : zip_each (write_stands x s) (w ∷ []) c.writes ≡ true = ap (λ ws. zip_each (write_stands x s) ws c.writes) (sym writes) ∙ and_left (writes_stand m x s c.writes) (have_names x c.writes) placed in
    let (own, groups, stands) = one_each (write_stands x s) w c.writes standing in
    let names : have_names x (own ∷ []) ≡ true = ap (have_names x) (sym groups) ∙ and_right (writes_stand m x s c.writes) (have_names x c.writes) placed in
    let showing : zip_all (read_stands x s (w ∷ []) (own ∷ [])) 0 (r ∷ []) c.reads ≡ true = (λ i. zip_all (read_stands x s (sym writes i) (sym groups i)) 0 (sym reads i) c.reads) ∙ read_placed in
    let (p, places, suits_there) = one_all (read_stands x s (w ∷ []) (own ∷ [])) r c.reads showing in
    let read_plain : is_plain_read r ≡ true = and_left (is_plain_read r) true (ap (list_all is_plain_read) (sym reads) ∙ plain.memory.read) in
    let now : r.clock ≡ None = none_is r.clock (and_left (is_none r.clock) (nat_eq r.wide 0) read_plain) in
    let (k, at, group) = read_group x met s r w own p now (and_left (place_suits x (w ∷ []) (own ∷ []) r p) (stands_at x s (w ∷ []) (own ∷ []) 0 r p) suits_there) in
    let write_wide : w.wide ≡ 0 = eqb-true w.wide 0 (and_left (is_plain_write w) true (ap (list_all is_plain_write) (sym writes) ∙ plain.memory.write)) in
    let shape = shape_is lib job c x h plain.one_cell in
    let bits : 1 ≤ m.width = valid.sizes.width.0 in
    record {
      variant = met;
      some = some;
      write = w;
      writes = writes;
      write_wide = write_wide;
      own = own;
      groups = groups;
      stands = write_group x met s w own stands names;
      read = r;
      reads = reads;
      read_wide = eqb-true r.wide 0 (and_right (is_none r.clock) (nat_eq r.wide 0) read_plain);
      now = now;
      spot = k;
      places = at_place c.reads p (place.Group k) places at;
      shows = group;
      offset = plain.memory.first;
      every = plain.memory.every;
      rows = all_rows m x s plain.fold level shape.0;
      bits = all_columns m x met.byte some bits s plain.fold level shape.1;
      even = one_enable m x met.byte some bits w writes write_wide s plain.fold level shape.1;
      start = start;
    }
