-- Of RAM cells that are alike under two waves, the second allows the second wave where the first allows the first.
use Rattle.std.proofs.Common.{◌≡◌, ℕ, zero, suc, ◌+◌, ◌*◌, ◌/◌, Bool, cond, not, ◌&&◌, List, [], ◌∷◌, ◌++◌, length, Option, Some, None, refl, sym, ap, ◌∙◌, subst, nat_eq}
use Rattle.std.specs.Prelude.{slice_get}
use Rattle.std.specs.List.{range_with_len, list_any, find}
use Rattle.std.proofs.lemmas.Option.{same_Some}
use Rattle.lib_core.specs.declared.library.Tri.{Tri}
use Rattle.lib_core.specs.declared.library.OwnWrite.{OwnWrite}
use Rattle.lib_core.specs.declared.library.OwnWrite.TheVariants as own
use Rattle.lib_core.specs.declared.library.Group.{Group}
use Rattle.lib_core.specs.declared.library.Variant.{Variant}
use Rattle.lib_core.specs.Rams.{width_at, last_width, lies, reads_now, reads_later, lane_width, filled}
use Rattle.net_core.specs.declared.rams.SlotUse.{SlotUse}
use Rattle.net_core.specs.declared.rams.RamCell.{RamCell}
use Rattle.net_core.specs.Values.{Wave, Happening, tri_of}
use Rattle.net_core.specs.Memory.{Words}
use Rattle.net_core.specs.Ram.{Slot, group_slots, skip, slots_from, slots_of, slot_width, word_of, slot_edge, slot_active, lane_enabled, place_at, hit_at, slot_hit, slot_hits, is_above, beats_slots, slot_winner, slots_written, view, all_behind, all_before, slot_loads, hits_itself, writes_itself, own_loads, slot_enabled, slot_reading, slot_in_arst, slot_in_srst, slot_next, SlotAllows, RamAllows}
use Rattle.net_core.specs.Alike.{UseAlike, UsesAlike, RamsAlike}
use Rattle.net_core.proofs.AlikeCells.{agrees_by}

module _ (ins outs : List ℕ) (v w : Wave) where
  -- slots of which only the pins differ
  record SlotAlike (s p : Slot) : Type 0 where
    number : p.number ≡ s.number
    group : p.group ≡ s.group
    kind : p.kind ≡ s.kind
    pins : UseAlike ins outs v w s.pins p.pins

  abbrev SlotsAlike : List Slot → List Slot → Type 0
  SlotsAlike [] [] = Unit {0}
  SlotsAlike [] (p ∷ ps) = ⊥
  SlotsAlike (s ∷ ss) [] = ⊥
  SlotsAlike (s ∷ ss) (p ∷ ps) = SlotAlike s p × SlotsAlike ss ps

  joined_alike : (xs ys us vs : List Slot) → SlotsAlike xs us → SlotsAlike ys vs → SlotsAlike (xs ++ ys) (us ++ vs)
  joined_alike [] ys [] vs a b = b
  joined_alike [] ys (u ∷ us) vs a b = absurd a
  joined_alike (x ∷ xs) ys [] vs a b = absurd a
  joined_alike (x ∷ xs) ys (u ∷ us) vs a b = (a.0, joined_alike xs ys us vs a.1 b)

  group_alike : (number g : ℕ) (kind : Group) (n : ℕ) (ss ps : List SlotUse) → UsesAlike ins outs v w ss ps → SlotsAlike (group_slots number g kind n ss) (group_slots number g kind n ps)
  group_alike number g kind zero ss ps a = tt
  group_alike number g kind (suc n) [] [] a = tt
  group_alike number g kind (suc n) [] (p ∷ ps) a = absurd a
  group_alike number g kind (suc n) (s ∷ ss) [] a = absurd a
  group_alike number g kind (suc n) (s ∷ ss) (p ∷ ps) a = (record { number = refl; group = refl; kind = refl; pins = a.0 }, group_alike (number + 1) g kind n ss ps a.1)

  skip_alike : (n : ℕ) (ss ps : List SlotUse) → UsesAlike ins outs v w ss ps → UsesAlike ins outs v w (skip n ss) (skip n ps)
  skip_alike zero ss ps a = a
  skip_alike (suc n) [] [] a = tt
  skip_alike (suc n) [] (p ∷ ps) a = absurd a
  skip_alike (suc n) (s ∷ ss) [] a = absurd a
  skip_alike (suc n) (s ∷ ss) (p ∷ ps) a = skip_alike n ss ps a.1

  from_alike : (number g : ℕ) (kinds : List Group) (ss ps : List SlotUse) → UsesAlike ins outs v w ss ps → SlotsAlike (slots_from number g kinds ss) (slots_from number g kinds ps)
  from_alike number g [] ss ps a = tt
  from_alike number g (kind ∷ kinds) ss ps a =
      joined_alike (group_slots number g kind (length kind.names) ss) (slots_from (number + length kind.names) (g + 1) kinds (skip (length kind.names) ss)) (group_slots number g kind (length kind.names) ps) (slots_from (number + length kind.names) (g + 1) kinds (skip (length kind.names) ps)) (group_alike number g kind (length kind.names) ss ps a) (from_alike (number + length kind.names) (g + 1) kinds (skip (length kind.names) ss) (skip (length kind.names) ps) (skip_alike (length kind.names) ss ps a))

  slot_at : (ss ps : List Slot) → SlotsAlike ss ps → (j : ℕ) (p : Slot) → slice_get ps j ≡ Some p → (s : Slot) × (slice_get ss j ≡ Some s) × SlotAlike s p
  slot_at [] [] a j p h = cc
  slot_at [] (q ∷ ps) a j p h = absurd a
  slot_at (s ∷ ss) [] a j p h = absurd a
  slot_at (s ∷ ss) (q ∷ ps) a zero p h = (s, refl, subst (SlotAlike s) (same_Some q p h) a.0)
  slot_at (s ∷ ss) (q ∷ ps) a (suc j) p h = slot_at ss ps a.1 j p h

  module _ (x : Variant) (t : ℕ) where
    width_same : (s p : Slot) → SlotAlike s p → slot_width x p ≡ slot_width x s
    width_same s p a = ap (width_at x.widths) a.pins.level

    word_same : (s p : Slot) → SlotAlike s p → word_of (w t) p ≡ word_of (v t) s
    word_same s p a =
        let addr = a.pins.addr t in
        let level = a.pins.level in
        cc

    edge_same : (e : Happening) (s p : Slot) → SlotAlike s p → slot_edge outs e p ≡ slot_edge ins e s
    edge_same e s p a =
        let used = a.pins.used in
        let edge = a.pins.clock e.edge in
        cc

    on_same : (s p : Slot) → SlotAlike s p → slot_enabled (w t) p ≡ slot_enabled (v t) s
    on_same s p a =
        let kind = a.kind in
        let pin = a.pins.clken t in
        cc

    reading_same : (s p : Slot) → SlotAlike s p → slot_reading (w t) p ≡ slot_reading (v t) s
    reading_same s p a =
        let kind = a.kind in
        let pin = a.pins.rden t in
        cc

    active_same : (e : Happening) (s p : Slot) → SlotAlike s p → slot_active outs e (w t) p ≡ slot_active ins e (v t) s
    active_same e s p a =
        let edge = edge_same e s p a in
        let kind = a.kind in
        let pin = a.pins.clken t in
        cc

    lane_same : (s p : Slot) → SlotAlike s p → (lane : ℕ) → lane_enabled (w t) p lane ≡ lane_enabled (v t) s lane
    lane_same s p a lane =
        let kind = a.kind in
        let wren = a.pins.wren t in
        let wrbe = a.pins.wrbe t in
        cc

    place_same : (s p : Slot) → SlotAlike s p → (word k : ℕ) → place_at x (w t) p word k ≡ place_at x (v t) s word k
    place_same s p a word k =
        ap (λ n. find (λ i. nat_eq (lies x p.pins.level n i).0 word && nat_eq (lies x p.pins.level n i).1 k) (range_with_len 0 (width_at x.widths p.pins.level))) (word_same s p a) ∙ ap (λ l. find (λ i. nat_eq (lies x l (word_of (v t) s) i).0 word && nat_eq (lies x l (word_of (v t) s) i).1 k) (range_with_len 0 (width_at x.widths l))) a.pins.level

    hit_at_same : (s p : Slot) → SlotAlike s p → (on off : Bool) → on ≡ off → (o : Option ℕ) → hit_at x (w t) p on o ≡ hit_at x (v t) s off o
    hit_at_same s p a on off e None = refl
    hit_at_same s p a on off e (Some i) =
        let width = width_same s p a in
        let lane : lane_enabled (w t) p (i / lane_width x.byte (slot_width x p)) ≡ lane_enabled (v t) s (i / lane_width x.byte (slot_width x s)) = lane_same s p a (i / lane_width x.byte (slot_width x p)) ∙ ap (λ n. lane_enabled (v t) s (i / lane_width x.byte n)) width in
        let value = a.pins.value t in
        cc

    slot_hit_same : (e : Happening) (word k : ℕ) (s p : Slot) → SlotAlike s p → slot_hit outs x e (w t) word k p ≡ slot_hit ins x e (v t) word k s
    slot_hit_same e word k s p a =
        hit_at_same s p a (slot_active outs e (w t) p) (slot_active ins e (v t) s) (active_same e s p a) (place_at x (w t) p word k) ∙ ap (hit_at x (v t) s (slot_active ins e (v t) s)) (place_same s p a word k)

    slot_hits_same : (e : Happening) (word k : ℕ) (ss ps : List Slot) → SlotsAlike ss ps → slot_hits outs x e (w t) word k ps ≡ slot_hits ins x e (v t) word k ss
    slot_hits_same e word k [] [] a = refl
    slot_hits_same e word k [] (p ∷ ps) a = absurd a
    slot_hits_same e word k (s ∷ ss) [] a = absurd a
    slot_hits_same e word k (s ∷ ss) (p ∷ ps) a =
        let one = slot_hit_same e word k s p a.0 in
        let rest = slot_hits_same e word k ss ps a.1 in
        cc

  -- what goes by the numbers, groups and kinds of slots
  above_same : (s p : Slot) → SlotAlike s p → (r q : Slot) → SlotAlike r q → is_above p q ≡ is_above s r
  above_same s p a r q b =
      let g = a.group in
      let k = a.kind in
      let h = b.group in
      let l = b.kind in
      cc

  view_same : (s p : Slot) → SlotAlike s p → (r q : Slot) → SlotAlike r q → view p q ≡ view s r
  view_same s p a r q b =
      let n = a.number in
      let g = a.group in
      let k = a.kind in
      let m = b.number in
      let l = b.kind in
      cc

  beats_same : (s p : Slot) → SlotAlike s p → (ss ps : List Slot) → SlotsAlike ss ps → (hs : List (Option Bool)) → beats_slots p ps hs ≡ beats_slots s ss hs
  beats_same s p a [] [] b hs = refl
  beats_same s p a [] (q ∷ ps) b hs = absurd b
  beats_same s p a (r ∷ ss) [] b hs = absurd b
  beats_same s p a (r ∷ ss) (q ∷ ps) b [] = refl
  beats_same s p a (r ∷ ss) (q ∷ ps) b (h ∷ hs) =
      let n = a.number in
      let m = b.0.number in
      let up = above_same s p a r q b.0 in
      let rest = beats_same s p a ss ps b.1 hs in
      cc

  winner_same : (all alls : List Slot) → SlotsAlike all alls → (hits : List (Option Bool)) (ss ps : List Slot) → SlotsAlike ss ps → (hs : List (Option Bool)) → slot_winner alls hits ps hs ≡ slot_winner all hits ss hs
  winner_same all alls b hits [] [] a hs = refl
  winner_same all alls b hits [] (p ∷ ps) a hs = absurd a
  winner_same all alls b hits (s ∷ ss) [] a hs = absurd a
  winner_same all alls b hits (s ∷ ss) (p ∷ ps) a [] = refl
  winner_same all alls b hits (s ∷ ss) (p ∷ ps) a (None ∷ hs) = winner_same all alls b hits ss ps a.1 hs
  winner_same all alls b hits (s ∷ ss) (p ∷ ps) a (Some c ∷ hs) =
      let one = beats_same s p a.0 all alls b hits in
      let rest = winner_same all alls b hits ss ps a.1 hs in
      cc

  written_same : (ss ps : List Slot) → SlotsAlike ss ps → (hs : List (Option Bool)) (old : Tri) → slots_written ps hs old ≡ slots_written ss hs old
  written_same ss ps a hs old =
      let win = winner_same ss ps a hs ss ps a hs in
      cc

  behind_same : (s p : Slot) → SlotAlike s p → (ss ps : List Slot) → SlotsAlike ss ps → (hs : List (Option Bool)) → all_behind p ps hs ≡ all_behind s ss hs
  behind_same s p a [] [] b hs = refl
  behind_same s p a [] (q ∷ ps) b hs = absurd b
  behind_same s p a (r ∷ ss) [] b hs = absurd b
  behind_same s p a (r ∷ ss) (q ∷ ps) b [] = refl
  behind_same s p a (r ∷ ss) (q ∷ ps) b (h ∷ hs) =
      let seen = view_same s p a r q b.0 in
      let rest = behind_same s p a ss ps b.1 hs in
      cc

  before_same : (s p : Slot) → SlotAlike s p → (ss ps : List Slot) → SlotsAlike ss ps → (hs : List (Option Bool)) → all_before p ps hs ≡ all_before s ss hs
  before_same s p a [] [] b hs = refl
  before_same s p a [] (q ∷ ps) b hs = absurd b
  before_same s p a (r ∷ ss) [] b hs = absurd b
  before_same s p a (r ∷ ss) (q ∷ ps) b [] = refl
  before_same s p a (r ∷ ss) (q ∷ ps) b (h ∷ hs) =
      let seen = view_same s p a r q b.0 in
      let rest = before_same s p a ss ps b.1 hs in
      cc

  loads_same : (s p : Slot) → SlotAlike s p → (ss ps : List Slot) → SlotsAlike ss ps → (hs : List (Option Bool)) (old : Tri) → slot_loads p ps hs old ≡ slot_loads s ss hs old
  loads_same s p a ss ps b hs old =
      let win = winner_same ss ps b hs ss ps b hs in
      let behind = behind_same s p a ss ps b hs in
      let before = before_same s p a ss ps b hs in
      cc

  itself_same : (s p : Slot) → SlotAlike s p → (ss ps : List Slot) → SlotsAlike ss ps → (hs : List (Option Bool)) → hits_itself p ps hs ≡ hits_itself s ss hs
  itself_same s p a [] [] b hs = refl
  itself_same s p a [] (q ∷ ps) b hs = absurd b
  itself_same s p a (r ∷ ss) [] b hs = absurd b
  itself_same s p a (r ∷ ss) (q ∷ ps) b [] = refl
  itself_same s p a (r ∷ ss) (q ∷ ps) b (h ∷ hs) =
      let n = a.number in
      let m = b.0.number in
      let rest = itself_same s p a ss ps b.1 hs in
      cc

  own_same : (s p : Slot) → SlotAlike s p → (ss ps : List Slot) → SlotsAlike ss ps → (hs : List (Option Bool)) (old : Tri) (kept : Bool) (o : OwnWrite) → own_loads p ps hs old kept o ≡ own_loads s ss hs old kept o
  own_same s p a ss ps b hs old kept own.Undefined = refl
  own_same s p a ss ps b hs old kept own.NoChange = refl
  own_same s p a ss ps b hs old kept own.Old = loads_same s p a ss ps b hs old
  own_same s p a ss ps b hs old kept own.New = loads_same s p a ss ps b hs old
  own_same s p a ss ps b hs old kept own.NewOnly =
      let one = itself_same s p a ss ps b hs in
      let two = loads_same s p a ss ps b hs old in
      cc

  module _ (x : Variant) (t : ℕ) (s p : Slot) (a : SlotAlike s p) where
    arst_same : slot_in_arst (w t) p ≡ slot_in_arst (v t) s
    arst_same =
        let kind = a.kind in
        let pin = a.pins.arst t in
        cc

    srst_same : slot_in_srst (w t) p ≡ slot_in_srst (v t) s
    srst_same =
        let kind = a.kind in
        let pin = a.pins.srst t in
        let on = on_same x t s p a in
        let reading = reading_same x t s p a in
        cc

    writes_same : (e : Happening) → writes_itself outs x e (w t) p ≡ writes_itself ins x e (v t) s
    writes_same e =
        ap (λ b. b && list_any (λ i. lane_enabled (w t) p (i / lane_width x.byte (slot_width x p))) (range_with_len 0 (slot_width x p))) (active_same x t e s p a) ∙ ap (λ n. slot_active ins e (v t) s && list_any (λ i. lane_enabled (w t) p (i / lane_width x.byte n)) (range_with_len 0 n)) (width_same x t s p a) ∙ ap (λ (f : ℕ → Bool). slot_active ins e (v t) s && list_any f (range_with_len 0 (slot_width x s))) (λ j i. lane_same x t s p a (i / lane_width x.byte (slot_width x s)) j)

    later_same : (kept : ℕ → Bool) (k : ℕ) → cond (slot_in_arst (w t) p) (filled p.kind.arst p.pins.arst_value k) (tri_of (kept k)) ≡ cond (slot_in_arst (v t) s) (filled s.kind.arst s.pins.arst_value k) (tri_of (kept k))
    later_same kept k =
        let reset = arst_same in
        let kind = a.kind in
        let value = a.pins.arst_value in
        cc

    module _ (ss ps : List Slot) (b : SlotsAlike ss ps) (e : Happening) (words : ℕ → ℕ → Tri) (kept : ℕ → Bool) (k : ℕ) where
      abbrev word_at : ℕ
      word_at = (lies x s.pins.level (word_of (v t) s) k).0

      abbrev bit_in : ℕ
      bit_in = (lies x s.pins.level (word_of (v t) s) k).1

      abbrev hits_there : List (Option Bool)
      hits_there = slot_hits ins x e (v t) word_at bit_in ss

      -- what is loaded, from what is hit there
      taken : Slot → List Slot → Bool → List (Option Bool) → Tri → Tri
      taken q qs writes hs old = cond writes (own_loads q qs hs old (kept k) q.kind.own) (slot_loads q qs hs old)

      taken_same : taken p ps (writes_itself outs x e (w t) p) (slot_hits outs x e (w t) (lies x p.pins.level (word_of (w t) p) k).0 (lies x p.pins.level (word_of (w t) p) k).1 ps) (words (lies x p.pins.level (word_of (w t) p) k).0 (lies x p.pins.level (word_of (w t) p) k).1) ≡ taken s ss (writes_itself ins x e (v t) s) hits_there (words word_at bit_in)
      unfolding taken
      taken_same =
          let at = λ (q : Slot) (qs : List Slot) (writes : Bool) (l n : ℕ). taken q qs writes (slot_hits outs x e (w t) (lies x l n k).0 (lies x l n k).1 ps) (words (lies x l n k).0 (lies x l n k).1) in
          let writes = ap (λ c. at p ps c p.pins.level (word_of (w t) p)) (writes_same e) in
          let word = ap (at p ps (writes_itself ins x e (v t) s) p.pins.level) (word_same x t s p a) in
          let level = ap (λ l. at p ps (writes_itself ins x e (v t) s) l (word_of (v t) s)) a.pins.level in
          let hit = ap (λ hs. taken p ps (writes_itself ins x e (v t) s) hs (words word_at bit_in)) (slot_hits_same x t e word_at bit_in ss ps b) in
          let self = ap (λ o. cond (writes_itself ins x e (v t) s) (own_loads p ps hits_there (words word_at bit_in) (kept k) o) (slot_loads p ps hits_there (words word_at bit_in))) (ap (λ (g : Group). g.own) a.kind) in
          let own = ap (λ c. cond (writes_itself ins x e (v t) s) c (slot_loads p ps hits_there (words word_at bit_in))) (own_same s p a ss ps b hits_there (words word_at bit_in) (kept k) s.kind.own) in
          let load = ap (cond (writes_itself ins x e (v t) s) (own_loads s ss hits_there (words word_at bit_in) (kept k) s.kind.own)) (loads_same s p a ss ps b hits_there (words word_at bit_in)) in
          writes ∙ word ∙ level ∙ hit ∙ self ∙ own ∙ load

      -- the cases before loading
      cases : Bool → Bool → Bool → Bool → Bool → Tri → Tri → Tri
      cases reset shown edge sync on value loaded = cond reset (tri_of shown) (cond (not edge) (tri_of (kept k)) (cond sync value (cond (not on) (tri_of (kept k)) loaded)))

      slot_next_same : (q o : ℕ) → w t o ≡ v t q → slot_next outs x ps p e (w t) words kept k o ≡ slot_next ins x ss s e (v t) words kept k q
      unfolding taken cases
      slot_next_same q o hq =
          let reset = arst_same in
          let edge = edge_same x t e s p a in
          let sync = srst_same in
          let on : (slot_enabled (w t) p && slot_reading (w t) p) ≡ (slot_enabled (v t) s && slot_reading (v t) s) = (let one = on_same x t s p a in let two = reading_same x t s p a in cc) in
          let value : filled p.kind.srst p.pins.srst_value k ≡ filled s.kind.srst s.pins.srst_value k = (let kind = a.kind in let given = a.pins.srst_value in cc) in
          let load = taken_same in
          λ i. cases (reset i) (hq i) (edge i) (sync i) (on i) (value i) (load i)

  module _ (events : List Happening) where
    slot_alike : (x : Variant) (ss ps : List Slot) → SlotsAlike ss ps → (words : Words) (s p : Slot) → SlotAlike s p → SlotAllows ins x ss s words events v → SlotAllows outs x ps p words events w
    slot_alike x ss ps b words s p a (now, later) =
        let used = a.pins.used in
        let kind = a.kind in (
          λ u r t e at k o hk.
              let n = a.pins.out k o hk in
              let word = word_same x t s p a in
              let same : words t (lies x p.pins.level (word_of (w t) p) k).0 (lies x p.pins.level (word_of (w t) p) k).1 ≡ words t (lies x s.pins.level (word_of (v t) s) k).0 (lies x s.pins.level (word_of (v t) s) k).1 = ap (λ m. words t (lies x p.pins.level m k).0 (lies x p.pins.level m k).1) word ∙ ap (λ l. words t (lies x l (word_of (v t) s) k).0 (lies x l (word_of (v t) s) k).1) a.pins.level in
              agrees_by _ _ (v t n.0) (w t o) same (n.2 t) (now (sym used ∙ u) (ap (λ (g : Group). reads_now g.kind) (sym kind) ∙ r) t e at k n.0 n.1),
          λ u r.
              let l = later (sym used ∙ u) (ap (λ (g : Group). reads_later g.kind) (sym kind) ∙ r) in
              record {
                kept = l.kept;
                starts = λ k. agrees_by (filled s.kind.start s.pins.init_value k) (filled p.kind.start p.pins.init_value k) (l.kept 0 k) (l.kept 0 k) (ap (λ (g : Group). filled g.start p.pins.init_value k) kind ∙ ap (λ i. filled s.kind.start i k) a.pins.init_value) refl (l.starts k);
                shows = λ t e at k o hk.
                    let n = a.pins.out k o hk in
                    agrees_by _ _ (v t n.0) (w t o) (later_same x t s p a (l.kept t) k) (n.2 t) (l.shows t e at k n.0 n.1);
                steps = λ t e at k o hk.
                    let n = a.pins.out k o hk in
                    agrees_by _ _ (l.kept (suc t) k) (l.kept (suc t) k) (slot_next_same x t s p a ss ps b e (words t) (l.kept t) k n.0 o (n.2 t)) refl (l.steps t e at k n.0 n.1);
              },
        )

    pub ram_alike : (x : Variant) (c d : RamCell) → RamsAlike ins outs v w c d → RamAllows ins x c events v → RamAllows outs x d events w
    ram_alike x c d same m =
        let all = from_alike 0 0 x.groups c.slots d.slots same.slots in
        record {
          words = m.words;
          starts = λ word k hs hw. m.starts word k hs hw ∙ ap (λ i. filled x.fill i (word * last_width x + k)) (sym same.init);
          steps = λ t e at word k hs hw.
              m.steps t e at word k hs hw ∙ sym (written_same (slots_of x c) (slots_of x d) all (slot_hits outs x e (w t) word k (slots_of x d)) (m.words t word k) ∙ ap (λ hits. slots_written (slots_of x c) hits (m.words t word k)) (slot_hits_same x t e word k (slots_of x c) (slots_of x d) all));
          slots = λ j p hp.
              let s = slot_at (slots_of x c) (slots_of x d) all j p hp in
              slot_alike x (slots_of x c) (slots_of x d) all m.words s.0 p s.2 (m.slots j s.0 s.1);
        }
