-- The nets that the ports of the cell drive: the read's own, and new ones in their order.
use Rattle.std.proofs.Common.{◌≡◌, ℕ, zero, suc, ◌+◌, ◌*◌, ◌<◌, ◌≤◌, ◌⊎◌, inl, inr, Bool, true, false, cond, List, [], ◌∷◌, ◌++◌, length, Option, Some, None, refl, sym, ap, ◌∙◌, subst, arith, append_assoc}
use Rattle.std.specs.Prelude.{slice_get}
use Rattle.std.specs.List.{range_with_len, flat_map}
use Rattle.std.proofs.lemmas.Option.{same_Some}
use Rattle.std.proofs.lemmas.Grind.{flat_map-append}
use Rattle.lib_core.specs.declared.library.Group.{Group}
use Rattle.lib_core.specs.declared.library.Variant.{Variant}
use Rattle.lib_core.specs.Rams.{kind_reads}
use Rattle.net_core.specs.declared.mems.Mem.{Mem}
use Rattle.net_core.specs.declared.mems.RdPort.{RdPort}
use Rattle.net_core.specs.declared.mems.WrPort.{WrPort}
use Rattle.net_core.specs.declared.rams.SlotUse.{SlotUse}
use Rattle.net_core.specs.Valid.{AreApart}
use Rattle.geom_core.specs.declared.candidates.RamChoice.{RamChoice}
use Rattle.ram_emit.specs.Cell.{word_bits, left_bits, new_outputs, idle_nets, write_in, read_in, idle_uses, group_uses, group_nets, uses_from, nets_from}
use Rattle.ram_emit.proofs.Placed.{Has, has_either}
use Rattle.ram_emit.proofs.Apart.{apart_join, range_apart}
use Rattle.ram_emit.proofs.Ordered.{range_has}

abbrev pub outs_of : List SlotUse → List ℕ
outs_of slots = flat_map (λ (s : SlotUse). s.out) slots

pub range_join : (a p q : ℕ) → range_with_len a p ++ range_with_len (a + p) q ≡ range_with_len a (p + q)
range_join a zero q = let e : a + 0 ≡ a = omega arith in let z : q ≡ 0 + q = omega arith in (λ i. range_with_len (e i) (z i))
range_join a (suc p) q =
    let e : a + suc p ≡ a + 1 + p = omega arith in
    let z : suc (p + q) ≡ suc p + q = omega arith in
    ap (λ b. a ∷ (range_with_len (a + 1) p ++ range_with_len b q)) e ∙ ap (λ ns. a ∷ ns) (range_join (a + 1) p q) ∙ ap (range_with_len a) z

module _ (x : Variant) (g : Group) where
  new_by : (b : Bool) (next : ℕ) → cond b (range_with_len next (word_bits x)) [] ≡ range_with_len next (cond b (word_bits x) 0)
  new_by true next = refl
  new_by false next = refl

  new_is : (next : ℕ) → new_outputs x g next ≡ range_with_len next (idle_nets x g)
  new_is next = new_by (kind_reads g.kind) next

  idle_outs : (count next : ℕ) → outs_of (idle_uses x g count next) ≡ range_with_len next (count * idle_nets x g)
  idle_outs zero next = let z : 0 ≡ 0 * idle_nets x g = omega arith in ap (range_with_len next) z
  idle_outs (suc count) next =
      let e : idle_nets x g + count * idle_nets x g ≡ suc count * idle_nets x g = omega arith in
      (λ i. new_is next i ++ idle_outs count (next + idle_nets x g) i) ∙ range_join next (idle_nets x g) (count * idle_nets x g) ∙ ap (range_with_len next) e

  write_outs : (w : WrPort) (r : Option RdPort) (count next : ℕ) → outs_of (group_uses x g (Some w) r count next) ≡ range_with_len next (group_nets x g (Some w) r count)
  write_outs w r zero next = refl
  write_outs w r (suc count) next = (λ i. new_is next i ++ idle_outs count (next + idle_nets x g) i) ∙ range_join next (idle_nets x g) (count * idle_nets x g)

  none_outs : (count next : ℕ) → outs_of (group_uses x g None None count next) ≡ range_with_len next (group_nets x g None None count)
  none_outs zero next = refl
  none_outs (suc count) next = (λ i. new_is next i ++ idle_outs count (next + idle_nets x g) i) ∙ range_join next (idle_nets x g) (count * idle_nets x g)

  free_outs : (w : Option WrPort) (r : Option RdPort) (count next : ℕ) → r ≡ None → outs_of (group_uses x g w r count next) ≡ range_with_len next (group_nets x g w r count)
  free_outs (Some w) r count next h = write_outs w r count next
  free_outs None None count next h = none_outs count next
  free_outs None (Some r) count next h = cc

  read_outs : (w : Option WrPort) (r : Option RdPort) (p : RdPort) (count next : ℕ) → w ≡ None → r ≡ Some p → 1 ≤ count → outs_of (group_uses x g w r count next) ≡ p.out ++ range_with_len next (group_nets x g w r count)
  read_outs (Some w) r p count next e h some = cc
  read_outs None None p count next e h some = cc
  read_outs None (Some r) p zero next e h some = absurd (omega arith)
  read_outs None (Some r) p (suc count) next e h some =
      let same : r ≡ p = same_Some r p h in
      (λ i. (r.out ++ range_with_len next (left_bits x r.out)) ++ idle_outs count (next + left_bits x r.out) i)
      ∙ append_assoc r.out (range_with_len next (left_bits x r.out)) (range_with_len (next + left_bits x r.out) (count * idle_nets x g))
      ∙ ap (λ ns. r.out ++ ns) (range_join next (left_bits x r.out) (count * idle_nets x g))
      ∙ ap (λ (q : RdPort). q.out ++ range_with_len next (left_bits x r.out + count * idle_nets x g)) same

join_first : (whole here rest own : List ℕ) (next count tail : ℕ) → whole ≡ here ++ rest → here ≡ own ++ range_with_len next count → rest ≡ range_with_len (next + count) tail → whole ≡ range_with_len next 0 ++ (own ++ range_with_len (next + 0) (count + tail))
join_first whole here rest own next count tail split first later =
    let z : next ≡ next + 0 = omega arith in
    split ∙ (λ i. first i ++ later i) ∙ append_assoc own (range_with_len next count) (range_with_len (next + count) tail) ∙ ap (λ ns. own ++ ns) (range_join next count tail) ∙ ap (λ b. own ++ range_with_len b (count + tail)) z

join_later : (whole here rest own : List ℕ) (next count before after : ℕ) → whole ≡ here ++ rest → here ≡ range_with_len next count → rest ≡ range_with_len (next + count) before ++ (own ++ range_with_len (next + count + before) after) → whole ≡ range_with_len next (count + before) ++ (own ++ range_with_len (next + (count + before)) after)
join_later whole here rest own next count before after split first later =
    let z : next + count + before ≡ next + (count + before) = omega arith in
    split ∙ (λ i. first i ++ later i) ∙ sym (append_assoc (range_with_len next count) (range_with_len (next + count) before) (own ++ range_with_len (next + count + before) after)) ∙ (λ i. range_join next count before i ++ (own ++ range_with_len (z i) after))

-- new nets, then those of the read, then new ones again
pub record OutsAre (outs own : List ℕ) (next total : ℕ) : Type 0 where
  pub before : ℕ
  pub after : ℕ
  pub is : outs ≡ range_with_len next before ++ (own ++ range_with_len (next + before) after)
  pub sum : before + after ≡ total

module _ (x : Variant) (m : Mem) (c : RamChoice) where
  outs_split : (n next : ℕ) (g : Group) (gs : List Group) → outs_of (uses_from x m c n (g ∷ gs) next) ≡ outs_of (group_uses x g (write_in n m.writes c.writes) (read_in n m.reads c.reads) (length g.names) next) ++ outs_of (uses_from x m c (n + 1) gs (next + group_nets x g (write_in n m.writes c.writes) (read_in n m.reads c.reads) (length g.names)))
  outs_split n next g gs = flat_map-append (λ (s : SlotUse). s.out) (group_uses x g (write_in n m.writes c.writes) (read_in n m.reads c.reads) (length g.names) next) (uses_from x m c (n + 1) gs (next + group_nets x g (write_in n m.writes c.writes) (read_in n m.reads c.reads) (length g.names)))

  free_all : (gs : List Group) (n next : ℕ) → ((j : ℕ) → n ≤ j → read_in j m.reads c.reads ≡ None) → outs_of (uses_from x m c n gs next) ≡ range_with_len next (nets_from x m c n gs)
  free_all [] n next none = refl
  free_all (g ∷ gs) n next none =
      let w = write_in n m.writes c.writes in
      let r = read_in n m.reads c.reads in
      let here = group_nets x g w r (length g.names) in
      outs_split n next g gs
      ∙ (λ i. free_outs x g w r (length g.names) next (none n (omega arith)) i ++ free_all gs (n + 1) (next + here) (λ j h. none j (omega (arith, h))) i)
      ∙ range_join next here (nets_from x m c (n + 1) gs)

  pub outs_are : (p : RdPort) (own : ℕ) → read_in own m.reads c.reads ≡ Some p → write_in own m.writes c.writes ≡ None → ((j : ℕ) → (j ≡ own → ⊥) → read_in j m.reads c.reads ≡ None)
      → (gs : List Group) (n next k : ℕ) (g : Group) → slice_get gs k ≡ Some g → own ≡ n + k → 1 ≤ length g.names → OutsAre (outs_of (uses_from x m c n gs next)) p.out next (nets_from x m c n gs)
  outs_are p own here none others [] n next k g at is some = cc
  outs_are p own here none others (f ∷ gs) n next zero g at is some =
      let w = write_in n m.writes c.writes in
      let r = read_in n m.reads c.reads in
      let o : n ≡ own = omega (arith, is) in
      let count = group_nets x f w r (length f.names) in
      let rest = nets_from x m c (n + 1) gs in
      let names : 1 ≤ length f.names = subst (λ (h : Group). 1 ≤ length h.names) (sym (same_Some f g at)) some in
      let first : outs_of (group_uses x f w r (length f.names) next) ≡ p.out ++ range_with_len next count = read_outs x f w r p (length f.names) next (ap (λ j. write_in j m.writes c.writes) o ∙ none) (ap (λ j. read_in j m.reads c.reads) o ∙ here) names in
      let later : outs_of (uses_from x m c (n + 1) gs (next + count)) ≡ range_with_len (next + count) rest = free_all gs (n + 1) (next + count) (λ j h. others j (λ q. absurd (omega (arith, h, q, o)))) in
      record {
        before = 0;
        after = count + rest;
        is = join_first (outs_of (uses_from x m c n (f ∷ gs) next)) (outs_of (group_uses x f w r (length f.names) next)) (outs_of (uses_from x m c (n + 1) gs (next + count))) p.out next count rest (outs_split n next f gs) first later;
        sum = omega arith;
      }
  outs_are p own here none others (f ∷ gs) n next (suc k) g at is some =
      let w = write_in n m.writes c.writes in
      let r = read_in n m.reads c.reads in
      let count = group_nets x f w r (length f.names) in
      let first : outs_of (group_uses x f w r (length f.names) next) ≡ range_with_len next count = free_outs x f w r (length f.names) next (others n (λ q. absurd (omega (arith, is, q)))) in
      let rest = outs_are p own here none others gs (n + 1) (next + count) k g at (omega (arith, is)) some in
      record {
        before = count + rest.before;
        after = rest.after;
        is = join_later (outs_of (uses_from x m c n (f ∷ gs) next)) (outs_of (group_uses x f w r (length f.names) next)) (outs_of (uses_from x m c (n + 1) gs (next + count))) p.out next count rest.before rest.after (outs_split n next f gs) first rest.is;
        sum = let s = rest.sum in omega (arith, s);
      }

-- no net stands there twice
pub outs_apart : (outs own : List ℕ) (next total : ℕ) → OutsAre outs own next total → AreApart own → ((n : ℕ) → Has own n → n < next) → AreApart outs
outs_apart outs own next total are apart low =
    subst AreApart (sym are.is) (apart_join (range_with_len next are.before) (own ++ range_with_len (next + are.before) are.after) (range_apart next are.before)
    (apart_join own (range_with_len (next + are.before) are.after) apart (range_apart (next + are.before) are.after) (λ n h g. let r = range_has (next + are.before) are.after n g in absurd (omega (arith, low n h, r.0))))
    (λ n h g. let r = range_has next are.before n h in elim (has_either own (range_with_len (next + are.before) are.after) n g) [
      | inl a ↦ absurd (omega (arith, low n a, r.0))
      | inr b ↦ let q = range_has (next + are.before) are.after n b in absurd (omega (arith, q.0, r.1))
    ]))

-- each is the read's or new
pub outs_where : (outs own : List ℕ) (next total : ℕ) → OutsAre outs own next total → (n : ℕ) → Has outs n → Has own n ⊎ ((next ≤ n) × (n < next + total))
outs_where outs own next total are n h =
    let s = are.sum in
    elim (has_either (range_with_len next are.before) (own ++ range_with_len (next + are.before) are.after) n (subst (λ ns. Has ns n) are.is h)) [
      | inl a ↦ let r = range_has next are.before n a in inr (r.0, omega (arith, r.1, s))
      | inr b ↦ elim (has_either own (range_with_len (next + are.before) are.after) n b) [
        | inl d ↦ inl d
        | inr d ↦ let r = range_has (next + are.before) are.after n d in inr (omega (arith, r.0), omega (arith, r.1, s))
      ]
    ]
