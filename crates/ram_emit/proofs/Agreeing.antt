-- The cell of a plain choice is one that any module may have.
use Rattle.std.proofs.Common.{◌≡◌, ℕ, zero, suc, ◌+◌, ◌*◌, ◌/◌, ◌%◌, ◌^◌, ◌<◌, ◌≤◌, Bool, true, false, cond, ◌||◌, List, [], ◌∷◌, ◌++◌, length, Option, Some, None, refl, sym, ap, ◌∙◌, subst, arith, nat_eq}
use Rattle.std.specs.Prelude.{slice_get}
use Rattle.std.proofs.lemmas.Bool.{eqb-true}
use Rattle.std.proofs.lemmas.Nat.{mul-le}
use Rattle.std.proofs.lemmas.Option.{same_Some}
use Rattle.std.proofs.Math.Pow.{pow_mono}
use Rattle.lib_core.specs.declared.library.EdgeKind.{EdgeKind}
use Rattle.lib_core.specs.declared.library.EdgeKind.TheVariants.{Pos, Neg, Either}
use Rattle.lib_core.specs.declared.library.Group.{Group}
use Rattle.lib_core.specs.declared.library.PortKind.TheVariants.{Ar, Sw}
use Rattle.lib_core.specs.declared.library.Library.{Library}
use Rattle.lib_core.specs.declared.library.Variant.{Variant}
use Rattle.lib_core.specs.Rams.{last_words, last_width, takes_value, reads_now}
use Rattle.net_core.specs.declared.bits.Clock.{Clock}
use Rattle.net_core.specs.declared.bits.Clock.TheVariants.{Root, Never}
use Rattle.net_core.specs.declared.mems.Mem.{Mem}
use Rattle.net_core.specs.declared.mems.RdPort.{RdPort}
use Rattle.net_core.specs.declared.mems.WrPort.{WrPort}
use Rattle.net_core.specs.declared.modules.Module.{Module}
use Rattle.net_core.specs.declared.rams.SlotUse.{SlotUse}
use Rattle.net_core.specs.Ram.{Slot, group_slots, slots_from, slots_of}
use Rattle.net_core.specs.Runs.{variant_of}
use Rattle.net_core.specs.Shape.{slots_fit, levels_alike, fits_variant}
use Rattle.net_core.specs.Valid.{EdgeFits, IsName, MemFits, WriteFits, ReadFits, RamFits}
use Rattle.net_core.proofs.Basics.{both, all_at}
use Rattle.geom_core.specs.declared.candidates.RamChoice.{RamChoice}
use Rattle.fit_pairs.specs.Clocks.{fits_edge}
use Rattle.fit_rules.specs.Limits.{VariantLimits}
use Rattle.fit_rules.specs.Fits.{variant_at}
use Rattle.fit_rules.proofs.Chosen.{variant_limits}
use Rattle.ram_emit.specs.Plain.{is_plain_group}
use Rattle.ram_emit.specs.Cell.{word_bits, write_in, read_in, idle_nets, first_nets, start_bit, idle_uses, group_uses, group_nets, uses_from, contents, cell_of, cell_in, plain_cell}
use Rattle.ram_emit.specs.Laws.{CellAgrees, PlainCellFits}
use Rattle.ram_emit.proofs.Hits.{one_width, all_words}
use Rattle.ram_emit.proofs.Slots.{write_at, read_at, later, front, slots_split}
use Rattle.ram_emit.proofs.Fitting.{or_true, GroupStands, Stand, stand_here, stand_later, uses_fit, uses_first, uses_length, all_alike, content_fits, made_few}
use Rattle.ram_emit.proofs.Given.{PlainParts, group_met, some_plain, chosen_variant, plain_parts}
use Rattle.ram_emit.proofs.Whole.{bits_within}

-- ---- each port by itself

never_fits : (m : Module) (e : Option EdgeKind) → EdgeFits m e Never
never_fits m None = tt
never_fits m (Some Pos) = tt
never_fits m (Some Neg) = tt
never_fits m (Some Either) = tt

edge_fits : (m : Module) (e : Option EdgeKind) (c : Clock) → fits_edge e c ≡ true → EdgeFits m e c
edge_fits m None c h = tt
edge_fits m (Some Pos) Never h = tt
edge_fits m (Some Pos) (Root n true) h = tt
edge_fits m (Some Pos) (Root n false) h = absurd (cc)
edge_fits m (Some Neg) Never h = tt
edge_fits m (Some Neg) (Root n true) h = absurd (cc)
edge_fits m (Some Neg) (Root n false) h = tt
edge_fits m (Some Either) c h = tt

module _ (whole : Module) where
  record Agrees (s : Slot) : Type 0 where
    reads : s.pins.reads_now ≡ reads_now s.kind.kind
    edge : EdgeFits whole s.kind.edge s.pins.clock

  abbrev AllAgree : List Slot → Type 0
  AllAgree [] = Unit {0}
  AllAgree (s ∷ ss) = Agrees s × AllAgree ss

  agree_at : (ss : List Slot) → AllAgree ss → (j : ℕ) (s : Slot) → slice_get ss j ≡ Some s → Agrees s
  agree_at [] a j s h = cc
  agree_at (q ∷ ss) a zero s h = subst Agrees (same_Some q s h) a.0
  agree_at (q ∷ ss) a (suc j) s h = agree_at ss a.1 j s h

  agree_join : (xs ys : List Slot) → AllAgree xs → AllAgree ys → AllAgree (xs ++ ys)
  agree_join [] ys a b = b
  agree_join (x ∷ xs) ys a b = (a.0, agree_join xs ys a.1 b)

  module _ (x : Variant) (g : Group) (n : ℕ) (rest : List SlotUse) where
    idles_agree : (number count next : ℕ) → AllAgree (group_slots number n g count (idle_uses x g count next ++ rest))
    idles_agree number zero next = tt
    idles_agree number (suc count) next = (record { reads = refl; edge = never_fits whole g.edge }, idles_agree (number + 1) count (next + idle_nets x g))

    group_agrees : (w : Option WrPort) (r : Option RdPort) → GroupStands x g w r → (number count next : ℕ) → AllAgree (group_slots number n g count (group_uses x g w r count next ++ rest))
    group_agrees w r stands number zero next = tt
    group_agrees (Some p) r stands number (suc count) next = (record { reads = refl; edge = edge_fits whole g.edge p.clock (stands.write p refl).1 }, idles_agree (number + 1) count (next + first_nets x g (Some p) r))
    group_agrees None (Some p) stands number (suc count) next = (record { reads = refl; edge = never_fits whole g.edge }, idles_agree (number + 1) count (next + first_nets x g None (Some p)))
    group_agrees None None stands number (suc count) next = (record { reads = refl; edge = never_fits whole g.edge }, idles_agree (number + 1) count (next + first_nets x g None None))

  module _ (x : Variant) (byte : x.byte ≡ None) (m : Mem) (c : RamChoice) where
    all_agree : (gs : List Group) (number n next : ℕ) → Stand x byte m c n gs → AllAgree (slots_from number n gs (uses_from x m c n gs next))
    all_agree [] number n next all = tt
    all_agree (g ∷ gs) number n next all =
        subst AllAgree (sym (slots_split x m c number n next g gs))
        (agree_join (front x m c number n g gs next) (slots_from (number + length g.names) (n + 1) gs (later x m c n g gs next))
        (group_agrees x g n (later x m c n g gs next) (write_at x m c n) (read_at x m c n) (stand_here x byte m c n g gs all) number (length g.names) next)
        (all_agree gs (number + length g.names) (n + 1) (next + group_nets x g (write_at x m c n) (read_at x m c n) (length g.names)) (stand_later x byte m c n g gs all)))

-- ---- the write and the read in their groups

some_by : {X : Type 0} (b : Bool) (a p : X) → cond b (Some a) None ≡ Some p → (b ≡ true) × (a ≡ p)
some_by true a p h = (refl, same_Some a p h)
some_by false a p h = cc

module _ (m : Mem) (c : RamChoice) (x : Variant) (parts : PlainParts m c x) (valid : MemFits m) where
  one_word : (n wide : ℕ) → wide ≡ 0 → n ≡ m.width * 2 ^ wide → n ≡ m.width
  one_word n wide e h = h ∙ ap (λ k. m.width * 2 ^ k) e ∙ (let z : m.width * 1 ≡ m.width = omega arith in z)

  few_address : m.abits ≤ x.abits
  few_address = bits_within m.abits x.abits (let h = parts.rows in omega (arith, h, parts.every))

  write_fits : WriteFits m 0 parts.write
  write_fits = valid.writes 0 parts.write (ap (λ ws. slice_get ws 0) parts.writes)

  read_fits : ReadFits m parts.read
  read_fits = valid.reads 0 parts.read (ap (λ rs. slice_get rs 0) parts.reads)

  write_there : (n : ℕ) (g : Group) (p : WrPort) → slice_get x.groups n ≡ Some g → write_in n m.writes c.writes ≡ Some p → (g.kind ≡ Sw) × (fits_edge g.edge p.clock ≡ true) × (length p.addr ≤ x.abits) × (length p.value ≤ word_bits x)
  write_there n g p there h =
      let found = some_by (nat_eq parts.own n) parts.write p ((λ i. write_in n (sym parts.writes i) (sym parts.groups i)) ∙ h) in
      let own : parts.own ≡ n = eqb-true parts.own n found.0 in
      let same : parts.stands.group ≡ g = same_Some parts.stands.group g (sym parts.stands.there ∙ ap (slice_get x.groups) own ∙ there) in
      let value = one_word (length parts.write.value) parts.write.wide parts.write_wide write_fits.value in
      let few = few_address in
      let long = write_fits.addr.0 in
      let address : length parts.write.addr ≤ x.abits = omega (arith, few, long) in
      let values : length parts.write.value ≤ word_bits x = omega (arith, value, parts.bits) in
      subst (λ (q : WrPort). (g.kind ≡ Sw) × (fits_edge g.edge q.clock ≡ true) × (length q.addr ≤ x.abits) × (length q.value ≤ word_bits x)) found.1
      (subst (λ (k : Group). (k.kind ≡ Sw) × (fits_edge k.edge parts.write.clock ≡ true) × (length parts.write.addr ≤ x.abits) × (length parts.write.value ≤ word_bits x)) same (parts.stands.kind, parts.stands.edge, address, values))

  read_there : (n : ℕ) (g : Group) (p : RdPort) → slice_get x.groups n ≡ Some g → read_in n m.reads c.reads ≡ Some p → (g.kind ≡ Ar) × (length p.addr ≤ x.abits) × (length p.out ≤ word_bits x)
  read_there n g p there h =
      let found = some_by (nat_eq parts.spot n) parts.read p ((λ i. read_in n (sym parts.reads i) (sym parts.places i)) ∙ h) in
      let own : parts.spot ≡ n = eqb-true parts.spot n found.0 in
      let same : parts.shows.group ≡ g = same_Some parts.shows.group g (sym parts.shows.there ∙ ap (slice_get x.groups) own ∙ there) in
      let out = one_word (length parts.read.out) parts.read.wide parts.read_wide read_fits.out in
      let few = few_address in
      let long = read_fits.addr.0 in
      let address : length parts.read.addr ≤ x.abits = omega (arith, few, long) in
      let outs : length parts.read.out ≤ word_bits x = omega (arith, out, parts.bits) in
      subst (λ (q : RdPort). (g.kind ≡ Ar) × (length q.addr ≤ x.abits) × (length q.out ≤ word_bits x)) found.1
      (subst (λ (k : Group). (k.kind ≡ Ar) × (length parts.read.addr ≤ x.abits) × (length parts.read.out ≤ word_bits x)) same (parts.shows.kind, address, outs))

  pub all_stand : Stand x parts.variant.byte m c 0 x.groups
  all_stand j g there =
      let e : 0 + j ≡ j = omega arith in
      subst (λ k. GroupStands x g (write_in k m.writes c.writes) (read_in k m.reads c.reads)) (sym e)
      (record {
        met = group_met g (all_at is_plain_group x.groups parts.variant.groups j g there);
        write = λ p h. write_there j g p there h;
        read = λ p h. read_there j g p there h;
      })

  shape_fits : (name : List ℕ) (first : ℕ) → fits_variant (cell_of x m c name first) (Some x) ≡ true
  shape_fits name first =
      let slots = uses_from x m c 0 x.groups first in
      both (slots_fit x x.groups slots) _ (uses_fit x parts.variant.byte m c x.groups 0 first all_stand)
      (both (x.per_port || levels_alike slots) _ (ap (λ b. x.per_port || b) (all_alike slots (uses_first x parts.variant.byte m c x.groups 0 first)) ∙ or_true x.per_port) (content_fits x m))

  slots_counted : (first : ℕ) → length x.groups ≤ 4 → ((j : ℕ) (g : Group) → slice_get x.groups j ≡ Some g → length g.names ≤ 8) → length (uses_from x m c 0 x.groups first) < 2 ^ 32
  slots_counted first groups names = let few = uses_length x parts.variant.byte m c x.groups 0 first 8 names in omega (arith, few, groups)

  init_counted : x.abits ≤ 20 → word_bits x ≤ 1024 → length (contents x m) < 2 ^ 32
  init_counted abits width =
      let few = made_few (takes_value x.fill) (λ p. start_bit x m (p / last_width x) (p % last_width x)) (last_words x * last_width x) in
      let words : last_words x ≤ 2 ^ 20 = subst (λ n. n ≤ 2 ^ 20) (sym (all_words x parts.variant.one)) (pow_mono {i = x.abits} {j = 20} abits) in
      let bits : last_width x ≤ 1024 = omega (arith, one_width x parts.variant.one, width) in
      let all : last_words x * last_width x ≤ 1073741824 = mul-le (last_words x) (last_width x) 1048576 1024 words bits in
      omega (arith, few, all)

  cell_agrees : (whole : Module) (first : ℕ) (name : List ℕ) (j : ℕ) (s : Slot) → slice_get (slots_of x (cell_of x m c name first)) j ≡ Some s → Agrees whole s
  cell_agrees whole first name j s h = agree_at whole (slots_of x (cell_of x m c name first)) (all_agree whole x parts.variant.byte m c x.groups 0 0 first all_stand) j s h

  cell_fits : (lib : Library) (whole : Module) (name : List ℕ) (first : ℕ) → IsName name → VariantLimits x → variant_of lib (cell_of x m c name first) ≡ Some x → RamFits lib whole (cell_of x m c name first)
  cell_fits lib whole name first named limits there = record {
    name = named;
    shape = ap (fits_variant (cell_of x m c name first)) there ∙ shape_fits name first;
    slots = slots_counted first limits.groups limits.names;
    init = init_counted limits.sized.abits (limits.sized.widths.few_bits 0 (omega (arith, parts.variant.one)));
    edges = λ y h j s at. (cell_agrees whole first name j s (subst (λ (z : Variant). slice_get (slots_of z (cell_of x m c name first)) j ≡ Some s) (same_Some y x (sym h ∙ there)) at)).edge;
  }

  cell_reads : (lib : Library) (name : List ℕ) (first : ℕ) (whole : Module) → variant_of lib (cell_of x m c name first) ≡ Some x → CellAgrees lib (cell_of x m c name first)
  cell_reads lib name first whole there y h j s at = (cell_agrees whole first name j s (subst (λ (z : Variant). slice_get (slots_of z (cell_of x m c name first)) j ≡ Some s) (same_Some y x (sym h ∙ there)) at)).reads

empty : Module
empty = record { name = []; attrs = []; nets = 0; wires = []; declared = []; parts = []; mems = []; combs = []; regs = []; rams = []; carried = [] }

pub plain_cell_fits : PlainCellFits
plain_cell_fits lib job c name first limits valid plain named =
    let m = job.mem in
    let (x, there) = some_plain (variant_at lib c.ram c.variant) plain.variant in
    let parts = plain_parts lib job c x limits valid plain there in
    let same : plain_cell lib m c name first ≡ cell_of x m c name first = ap (λ o. cell_in o m c name first) there in
    let here : variant_of lib (cell_of x m c name first) ≡ Some x = ap (variant_of lib) (sym same) ∙ chosen_variant lib m c name first ∙ there in (
      λ whole. subst (RamFits lib whole) (sym same) (cell_fits m c x parts valid lib whole name first named (variant_limits lib c.ram c.variant x limits there) here),
      subst (CellAgrees lib) (sym same) (cell_reads m c x parts valid lib name first empty here),
    )
