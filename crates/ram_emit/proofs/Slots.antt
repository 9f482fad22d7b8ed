-- Where the write and the read stand among the ports of the cell, and that no other port writes.
use Rattle.std.proofs.Common.{◌≡◌, ℕ, zero, suc, ◌+◌, ◌≤◌, Bool, true, false, cond, ◌&&◌, ◌||◌, List, [], ◌∷◌, ◌++◌, length, Option, Some, None, refl, sym, ap, ◌∙◌, subst, arith, nat_eq, append_assoc}
use Rattle.std.specs.Prelude.{slice_get}
use Rattle.std.proofs.lemmas.Bool.{eq-eqb}
use Rattle.std.proofs.lemmas.Option.{same_Some}
use Rattle.lib_core.specs.declared.library.Tri.{Tri}
use Rattle.lib_core.specs.declared.library.Group.{Group}
use Rattle.lib_core.specs.declared.library.Variant.{Variant}
use Rattle.net_core.specs.declared.bits.Clock.TheVariants.{Never}
use Rattle.net_core.specs.declared.mems.Mem.{Mem}
use Rattle.net_core.specs.declared.mems.RdPort.{RdPort}
use Rattle.net_core.specs.declared.mems.WrPort.{WrPort}
use Rattle.net_core.specs.declared.rams.SlotUse.{SlotUse}
use Rattle.net_core.specs.Values.{Valuation, Happening, has_edge}
use Rattle.net_core.specs.Memory.{is_hit, any_hit, tri_or_any, written}
use Rattle.net_core.specs.Ram.{Slot, group_slots, skip, slots_from, slot_active, place_at, hit_at, slot_hit, slot_hits, beats_slots, slot_winner, slots_written}
use Rattle.net_core.proofs.Basics.{get_left, get_right}
use Rattle.geom_core.specs.declared.candidates.RamChoice.{RamChoice}
use Rattle.ram_emit.specs.Cell.{write_use, read_use, write_in, read_in, idle_nets, first_nets, idle_uses, group_uses, group_nets, uses_from}
use Rattle.ram_emit.proofs.Hits.{slot_at}

-- slots that no clock reaches
abbrev pub AllSilent : List Slot → Type 0
AllSilent [] = Unit {0}
AllSilent (s ∷ ss) = (s.pins.clock ≡ Never) × AllSilent ss

-- a slot among others that no clock reaches
pub record IsAmong (s : Slot) (all : List Slot) : Type 0 where
  pub before : List Slot
  pub after : List Slot
  pub is : all ≡ before ++ (s ∷ after)
  pub silent_before : AllSilent before
  pub silent_after : AllSilent after

silent_join : (xs ys : List Slot) → AllSilent xs → AllSilent ys → AllSilent (xs ++ ys)
silent_join [] ys a b = b
silent_join (x ∷ xs) ys a b = (a.0, silent_join xs ys a.1 b)

among_left : (s : Slot) (xs ys : List Slot) → IsAmong s xs → AllSilent ys → IsAmong s (xs ++ ys)
among_left s xs ys a b = record {
  before = a.before;
  after = a.after ++ ys;
  is = ap (λ zs. zs ++ ys) a.is ∙ append_assoc a.before (s ∷ a.after) ys;
  silent_before = a.silent_before;
  silent_after = silent_join a.after ys a.silent_after b;
}

among_right : (s : Slot) (xs ys : List Slot) → AllSilent xs → IsAmong s ys → IsAmong s (xs ++ ys)
among_right s xs ys b a = record {
  before = xs ++ a.before;
  after = a.after;
  is = ap (λ zs. xs ++ zs) a.is ∙ sym (append_assoc xs a.before (s ∷ a.after));
  silent_before = silent_join xs a.before b a.silent_before;
  silent_after = a.silent_after;
}

-- ---- the ports of one group, with those of later groups behind them

module _ (x : Variant) (g : Group) (n : ℕ) (rest : List SlotUse) where
  idle_silent : (number count next : ℕ) → AllSilent (group_slots number n g count (idle_uses x g count next ++ rest))
  idle_silent number zero next = tt
  idle_silent number (suc count) next = (refl, idle_silent (number + 1) count (next + idle_nets x g))

  skip_idle : (count next : ℕ) → skip count (idle_uses x g count next ++ rest) ≡ rest
  skip_idle zero next = refl
  skip_idle (suc count) next = skip_idle count (next + idle_nets x g)

  skip_group : (w : Option WrPort) (r : Option RdPort) (count next : ℕ) → skip count (group_uses x g w r count next ++ rest) ≡ rest
  skip_group w r zero next = refl
  skip_group w r (suc count) next = skip_idle count (next + first_nets x g w r)

  group_silent : (r : Option RdPort) (number count next : ℕ) → AllSilent (group_slots number n g count (group_uses x g None r count next ++ rest))
  group_silent r number zero next = tt
  group_silent None number (suc count) next = (refl, idle_silent (number + 1) count (next + first_nets x g None None))
  group_silent (Some r) number (suc count) next = (refl, idle_silent (number + 1) count (next + first_nets x g None (Some r)))

  group_written : (w : WrPort) (r : Option RdPort) (number count next : ℕ) → 1 ≤ count → IsAmong (slot_at number n g (write_use x g next w)) (group_slots number n g count (group_uses x g (Some w) r count next ++ rest))
  group_written w r number zero next some = absurd (omega arith)
  group_written w r number (suc count) next some = record {
    before = [];
    after = group_slots (number + 1) n g count (idle_uses x g count (next + first_nets x g (Some w) r) ++ rest);
    is = refl;
    silent_before = tt;
    silent_after = idle_silent (number + 1) count (next + first_nets x g (Some w) r);
  }

  group_read : (r : RdPort) (number count next : ℕ) → 1 ≤ count → slice_get (group_slots number n g count (group_uses x g None (Some r) count next ++ rest)) 0 ≡ Some (slot_at number n g (read_use x g next r))
  group_read r number zero next some = absurd (omega arith)
  group_read r number (suc count) next some = refl

-- ---- the ports of all groups

module _ (x : Variant) (m : Mem) (c : RamChoice) where
  abbrev pub write_at : ℕ → Option WrPort
  write_at n = write_in n m.writes c.writes

  abbrev pub read_at : ℕ → Option RdPort
  read_at n = read_in n m.reads c.reads

  abbrev pub later : ℕ → Group → List Group → ℕ → List SlotUse
  later n g gs next = uses_from x m c (n + 1) gs (next + group_nets x g (write_at n) (read_at n) (length g.names))

  abbrev pub front : ℕ → ℕ → Group → List Group → ℕ → List Slot
  front number n g gs next = group_slots number n g (length g.names) (group_uses x g (write_at n) (read_at n) (length g.names) next ++ later n g gs next)

  pub slots_split : (number n next : ℕ) (g : Group) (gs : List Group) → slots_from number n (g ∷ gs) (uses_from x m c n (g ∷ gs) next) ≡ front number n g gs next ++ slots_from (number + length g.names) (n + 1) gs (later n g gs next)
  slots_split number n next g gs =
      ap (λ ps. front number n g gs next ++ slots_from (number + length g.names) (n + 1) gs ps) (skip_group x g n (later n g gs next) (write_at n) (read_at n) (length g.names) next)

  front_silent : (number n next : ℕ) (g : Group) (gs : List Group) → write_at n ≡ None → AllSilent (front number n g gs next)
  front_silent number n next g gs none =
      subst (λ o. AllSilent (group_slots number n g (length g.names) (group_uses x g o (read_at n) (length g.names) next ++ later n g gs next))) (sym none) (group_silent x g n (later n g gs next) (read_at n) number (length g.names) next)

  all_silent : (number n next : ℕ) (gs : List Group) → ((j : ℕ) → n ≤ j → write_at j ≡ None) → AllSilent (slots_from number n gs (uses_from x m c n gs next))
  all_silent number n next [] none = tt
  all_silent number n next (g ∷ gs) none =
      subst AllSilent (sym (slots_split number n next g gs)) (silent_join (front number n g gs next) (slots_from (number + length g.names) (n + 1) gs (later n g gs next)) (front_silent number n next g gs (none n (omega arith))) (all_silent (number + length g.names) (n + 1) (next + group_nets x g (write_at n) (read_at n) (length g.names)) gs (λ j h. none j (omega (arith, h)))))

  -- the write stands at one port, and no clock reaches the others
  pub write_stands : (w : WrPort) (own : ℕ) → write_at own ≡ Some w → ((j : ℕ) → (j ≡ own → ⊥) → write_at j ≡ None)
      → (gs : List Group) (number n next k : ℕ) (g : Group) → slice_get gs k ≡ Some g → own ≡ n + k → 1 ≤ length g.names
      → (at : ℕ) × (net : ℕ) × IsAmong (slot_at at own g (write_use x g net w)) (slots_from number n gs (uses_from x m c n gs next))
  write_stands w own here others [] number n next k g at is some = cc
  write_stands w own here others (f ∷ gs) number n next zero g at is some =
      let e : f ≡ g = same_Some f g at in
      let o : n ≡ own = omega (arith, is) in
      let rest = slots_from (number + length f.names) (n + 1) gs (later n f gs next) in
      let one : IsAmong (slot_at number n f (write_use x f next w)) (front number n f gs next) =
      subst (λ q. IsAmong (slot_at number n f (write_use x f next w)) (group_slots number n f (length f.names) (group_uses x f q (read_at n) (length f.names) next ++ later n f gs next))) (sym (ap write_at o ∙ here)) (group_written x f n (later n f gs next) w (read_at n) number (length f.names) next (subst (λ (h : Group). 1 ≤ length h.names) (sym e) some)) in
      let whole : IsAmong (slot_at number n f (write_use x f next w)) (slots_from number n (f ∷ gs) (uses_from x m c n (f ∷ gs) next)) =
      subst (IsAmong (slot_at number n f (write_use x f next w))) (sym (slots_split number n next f gs)) (among_left (slot_at number n f (write_use x f next w)) (front number n f gs next) rest one (all_silent (number + length f.names) (n + 1) (next + group_nets x f (write_at n) (read_at n) (length f.names)) gs (λ j h. others j (λ q. absurd (omega (arith, h, q, o)))))) in
      (number, next, subst (λ (h : Group). IsAmong (slot_at number own h (write_use x h next w)) (slots_from number n (f ∷ gs) (uses_from x m c n (f ∷ gs) next))) e (subst (λ o. IsAmong (slot_at number o f (write_use x f next w)) (slots_from number n (f ∷ gs) (uses_from x m c n (f ∷ gs) next))) o whole))
  write_stands w own here others (f ∷ gs) number n next (suc k) g at is some =
      let (a, net, one) = write_stands w own here others gs (number + length f.names) (n + 1) (next + group_nets x f (write_at n) (read_at n) (length f.names)) k g at (omega (arith, is)) some in
      (a, net, subst (IsAmong (slot_at a own g (write_use x g net w))) (sym (slots_split number n next f gs)) (among_right (slot_at a own g (write_use x g net w)) (front number n f gs next) (slots_from (number + length f.names) (n + 1) gs (later n f gs next)) (front_silent number n next f gs (others n (λ q. absurd (omega (arith, is, q))))) one))

  -- the read stands at one port
  pub read_stands : (r : RdPort) (own : ℕ) → read_at own ≡ Some r → write_at own ≡ None
      → (gs : List Group) (number n next k : ℕ) (g : Group) → slice_get gs k ≡ Some g → own ≡ n + k → 1 ≤ length g.names
      → (i : ℕ) × (at : ℕ) × (net : ℕ) × (slice_get (slots_from number n gs (uses_from x m c n gs next)) i ≡ Some (slot_at at own g (read_use x g net r)))
  read_stands r own here none [] number n next k g at is some = cc
  read_stands r own here none (f ∷ gs) number n next zero g at is some =
      let e : f ≡ g = same_Some f g at in
      let o : n ≡ own = omega (arith, is) in
      let rest = slots_from (number + length f.names) (n + 1) gs (later n f gs next) in
      let one : slice_get (front number n f gs next) 0 ≡ Some (slot_at number n f (read_use x f next r)) =
      (λ i. slice_get (group_slots number n f (length f.names) (group_uses x f ((ap write_at o ∙ none) i) ((ap read_at o ∙ here) i) (length f.names) next ++ later n f gs next)) 0)
      ∙ group_read x f n (later n f gs next) r number (length f.names) next (subst (λ (h : Group). 1 ≤ length h.names) (sym e) some) in
      (0, number, next, ap (λ ss. slice_get ss 0) (slots_split number n next f gs) ∙ get_left (front number n f gs next) rest 0 (slot_at number n f (read_use x f next r)) one ∙ (λ i. Some (slot_at number (o i) (e i) (read_use x (e i) next r))))
  read_stands r own here none (f ∷ gs) number n next (suc k) g at is some =
      let (i, a, net, one) = read_stands r own here none gs (number + length f.names) (n + 1) (next + group_nets x f (write_at n) (read_at n) (length f.names)) k g at (omega (arith, is)) some in
      (length (front number n f gs next) + i, a, net, ap (λ ss. slice_get ss (length (front number n f gs next) + i)) (slots_split number n next f gs) ∙ get_right (front number n f gs next) (slots_from (number + length f.names) (n + 1) gs (later n f gs next)) i ∙ one)

-- ---- what the ports reach together

abbrev nones : List Slot → List (Option Bool)
nones [] = []
nones (s ∷ ss) = None ∷ nones ss

no_edge : (inputs : List ℕ) (edge : Option (ℕ × Bool)) → has_edge inputs edge Never ≡ false
no_edge inputs None = refl
no_edge inputs (Some e) = refl

dull : (a b c : Bool) → b ≡ false → ((a && b) && c) ≡ false
dull true true c h = cc
dull true false c h = refl
dull false b c h = refl

module _ (inputs : List ℕ) (x : Variant) (e : Happening) (v : Valuation) (word k : ℕ) where
  off : (s : Slot) → s.pins.clock ≡ Never → slot_active inputs e v s ≡ false
  off s h = dull s.pins.used (has_edge inputs e.edge s.pins.clock) _ (ap (has_edge inputs e.edge) h ∙ no_edge inputs e.edge)

  hit_off : (s : Slot) (o : Option ℕ) → hit_at x v s false o ≡ None
  hit_off s None = refl
  hit_off s (Some i) = refl

  silent_hit : (s : Slot) → s.pins.clock ≡ Never → slot_hit inputs x e v word k s ≡ None
  silent_hit s h = ap (λ b. hit_at x v s b (place_at x v s word k)) (off s h) ∙ hit_off s (place_at x v s word k)

  silent_hits : (ss : List Slot) → AllSilent ss → slot_hits inputs x e v word k ss ≡ nones ss
  silent_hits [] a = refl
  silent_hits (s ∷ ss) a = λ i. silent_hit s a.0 i ∷ silent_hits ss a.1 i

  among_hits : (s : Slot) (before after : List Slot) → AllSilent before → AllSilent after → slot_hits inputs x e v word k (before ++ (s ∷ after)) ≡ nones before ++ (slot_hit inputs x e v word k s ∷ nones after)
  among_hits s [] after b a = ap (λ hs. slot_hit inputs x e v word k s ∷ hs) (silent_hits after a)
  among_hits s (q ∷ before) after b a = λ i. silent_hit q b.0 i ∷ among_hits s before after b.1 a i

none_hit : (ss : List Slot) → any_hit (nones ss) ≡ false
none_hit [] = refl
none_hit (s ∷ ss) = none_hit ss

one_hit : (h : Option Bool) (before after : List Slot) → any_hit (nones before ++ (h ∷ nones after)) ≡ is_hit h
one_hit None [] after = none_hit after
one_hit (Some b) [] after = refl
one_hit h (s ∷ before) after = one_hit h before after

over_none : (own : Slot) (ss : List Slot) → beats_slots own ss (nones ss) ≡ true
over_none own [] = refl
over_none own (s ∷ ss) = over_none own ss

self : (own : Slot) (b c : Bool) → (b ≡ true) → ((nat_eq own.number own.number || c) && b) ≡ true
self own b c h = (λ i. (eq-eqb own.number own.number refl i || c) && h i)

over_all : (own : Slot) (b : Bool) (before after : List Slot) → beats_slots own (before ++ (own ∷ after)) (nones before ++ (Some b ∷ nones after)) ≡ true
over_all own b [] after = self own _ _ (over_none own after)
over_all own b (s ∷ before) after = over_all own b before after

winner_is : (own : Slot) (b : Bool) (all : List Slot) (hits : List (Option Bool)) → beats_slots own all hits ≡ true → (before after : List Slot) → slot_winner all hits (before ++ (own ∷ after)) (nones before ++ (Some b ∷ nones after)) ≡ Some b
winner_is own b all hits h [] after = ap (λ t. cond t (Some b) (slot_winner all hits after (nones after))) h
winner_is own b all hits h (s ∷ before) after = winner_is own b all hits h before after

-- what a single hit makes of a bit
abbrev pub taken : Option Bool → Tri → Tri
taken h old = cond (is_hit h) (tri_or_any h) old

taken_by : (own : Slot) (h : Option Bool) (before after : List Slot) (old : Tri) → slots_written (before ++ (own ∷ after)) (nones before ++ (h ∷ nones after)) old ≡ taken h old
taken_by own None before after old = ap (λ t. cond t (tri_or_any (slot_winner (before ++ (own ∷ after)) (nones before ++ (None ∷ nones after)) (before ++ (own ∷ after)) (nones before ++ (None ∷ nones after)))) old) (one_hit None before after)
taken_by own (Some b) before after old =
    λ i. cond (one_hit (Some b) before after i) (tri_or_any (winner_is own b (before ++ (own ∷ after)) (nones before ++ (Some b ∷ nones after)) (over_all own b before after) before after i)) old

pub cell_takes : (inputs : List ℕ) (x : Variant) (e : Happening) (v : Valuation) (word k : ℕ) (own : Slot) (all : List Slot) → IsAmong own all → (old : Tri) → slots_written all (slot_hits inputs x e v word k all) old ≡ taken (slot_hit inputs x e v word k own) old
cell_takes inputs x e v word k own all a old =
    ap (λ ss. slots_written ss (slot_hits inputs x e v word k ss) old) a.is
    ∙ ap (λ hs. slots_written (a.before ++ (own ∷ a.after)) hs old) (among_hits inputs x e v word k own a.before a.after a.silent_before a.silent_after)
    ∙ taken_by own (slot_hit inputs x e v word k own) a.before a.after old

pub mem_takes : (w : WrPort) (h : Option Bool) (old : Tri) → written (w ∷ []) (h ∷ []) old ≡ taken h old
mem_takes w None old = refl
mem_takes w (Some b) old = refl
