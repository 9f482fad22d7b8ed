-- Of cells that are alike under two waves, the second allows the second wave where the first allows the first: logic cells,
-- registers, memories.
use Rattle.std.proofs.Common.{◌≡◌, ℕ, suc, ◌+◌, ◌*◌, ◌<◌, Bool, cond, not, List, [], ◌∷◌, Option, Some, None, refl, sym, ap, ◌∙◌, subst}
use Rattle.lib_core.specs.declared.library.Tri.{Tri}
use Rattle.lib_core.specs.Rams.{tri_at}
use Rattle.net_core.specs.declared.bits.Bit.{Bit}
use Rattle.net_core.specs.declared.bits.Clock.{Clock}
use Rattle.net_core.specs.declared.cells.Comb.{Comb}
use Rattle.net_core.specs.declared.cells.Reg.{Reg}
use Rattle.net_core.specs.declared.mems.Mem.{Mem}
use Rattle.net_core.specs.declared.mems.RdPort.{RdPort}
use Rattle.net_core.specs.declared.mems.WrPort.{WrPort}
use Rattle.net_core.specs.Values.{Wave, Happening, value_of, tri_of, Agrees, has_edge}
use Rattle.net_core.specs.Logic.{comb_shows}
use Rattle.net_core.specs.Cells.{CombAllows, RegAllows, reg_shows, reg_next, in_arst, in_srst, enabled}
use Rattle.net_core.specs.Memory.{Frame, frame_of, base_of, hit, hits, winner, written, loaded, Words, read_bit, read_resets, read_shows, read_next, ReadAllows, MemAllows}
use Rattle.net_core.specs.Alike.{SameClock, SameReadClock, CombsAlike, RegsAlike, ReadsAlike, WriteAlike, WritesAlike, MemsAlike}

pub agrees_by : (a b : Tri) (x y : Bool) → b ≡ a → y ≡ x → Agrees a x → Agrees b y
agrees_by a b x y e g h = subst (λ t. Agrees t y) (sym e) (subst (λ u. Agrees a u) (sym g) h)

module _ (events : List Happening) (v w : Wave) where
  pub comb_alike : (c d : Comb) → CombsAlike v w c d → CombAllows c events v → CombAllows d events w
  comb_alike c d same allows t e at k o hk =
      let n = same.y k o hk in
      let a = same.a t in
      let b = same.b t in
      let s = same.s t in
      let kind = same.kind in
      let signed = same.signed in
      let width = same.width in
      let row : comb_shows d (w t) k ≡ comb_shows c (v t) k = cc in
      agrees_by (comb_shows c (v t) k) (comb_shows d (w t) k) (v t n.0) (w t o) row (n.2 t) (allows t e at k n.0 n.1)

module _ (ins outs : List ℕ) (events : List Happening) (v w : Wave) where
  module _ (r p : Reg) (same : RegsAlike ins outs v w r p) (t : ℕ) where
    arst_same : in_arst p (w t) ≡ in_arst r (v t)
    arst_same =
        let kind = same.kind in
        let pin = same.arst t in
        let high = same.arst_high in
        cc

    enabled_same : enabled p (w t) ≡ enabled r (v t)
    enabled_same =
        let kind = same.kind in
        let pin = same.en t in
        let high = same.en_high in
        cc

    srst_same : in_srst p (w t) ≡ in_srst r (v t)
    srst_same =
        let kind = same.kind in
        let pin = same.srst t in
        let high = same.srst_high in
        let on = enabled_same in
        cc

    reg_shows_same : (kept : ℕ → Bool) (k : ℕ) → reg_shows p (w t) kept k ≡ reg_shows r (v t) kept k
    reg_shows_same kept k =
        let reset = arst_same in
        let value = same.arst_value in
        cc

    reg_next_same : (e : Happening) (kept : ℕ → Bool) (k q o : ℕ) (b d : Bit) → w t o ≡ v t q → value_of (w t) d ≡ value_of (v t) b → reg_next outs p e (w t) kept k o d ≡ reg_next ins r e (v t) kept k q b
    reg_next_same e kept k q o b d hq hb =
        let reset = arst_same in
        let edge = same.clock e.edge in
        let sync = srst_same in
        let on = enabled_same in
        let value = same.srst_value in
        ap (λ x. cond x (tri_of (w t o)) (cond (not (has_edge outs e.edge p.clock)) (tri_of (kept k)) (cond (in_srst p (w t)) (tri_at p.srst_value k) (cond (enabled p (w t)) (tri_of (value_of (w t) d)) (tri_of (kept k)))))) reset ∙ ap (λ x. cond (in_arst r (v t)) (tri_of x) (cond (not (has_edge outs e.edge p.clock)) (tri_of (kept k)) (cond (in_srst p (w t)) (tri_at p.srst_value k) (cond (enabled p (w t)) (tri_of (value_of (w t) d)) (tri_of (kept k)))))) hq ∙ ap (λ x. cond (in_arst r (v t)) (tri_of (v t q)) (cond (not x) (tri_of (kept k)) (cond (in_srst p (w t)) (tri_at p.srst_value k) (cond (enabled p (w t)) (tri_of (value_of (w t) d)) (tri_of (kept k)))))) edge ∙ ap (λ x. cond (in_arst r (v t)) (tri_of (v t q)) (cond (not (has_edge ins e.edge r.clock)) (tri_of (kept k)) (cond x (tri_at p.srst_value k) (cond (enabled p (w t)) (tri_of (value_of (w t) d)) (tri_of (kept k)))))) sync ∙ ap (λ x. cond (in_arst r (v t)) (tri_of (v t q)) (cond (not (has_edge ins e.edge r.clock)) (tri_of (kept k)) (cond (in_srst r (v t)) (tri_at x k) (cond (enabled p (w t)) (tri_of (value_of (w t) d)) (tri_of (kept k)))))) value ∙ ap (λ x. cond (in_arst r (v t)) (tri_of (v t q)) (cond (not (has_edge ins e.edge r.clock)) (tri_of (kept k)) (cond (in_srst r (v t)) (tri_at r.srst_value k) (cond x (tri_of (value_of (w t) d)) (tri_of (kept k)))))) on ∙ ap (λ x. cond (in_arst r (v t)) (tri_of (v t q)) (cond (not (has_edge ins e.edge r.clock)) (tri_of (kept k)) (cond (in_srst r (v t)) (tri_at r.srst_value k) (cond (enabled r (v t)) (tri_of x) (tri_of (kept k)))))) hb

  pub reg_alike : (r p : Reg) → RegsAlike ins outs v w r p → RegAllows ins r events v → RegAllows outs p events w
  reg_alike r p same x = record {
    kept = x.kept;
    starts = λ k. agrees_by (tri_at r.init k) (tri_at p.init k) (x.kept 0 k) (x.kept 0 k) (ap (λ i. tri_at i k) same.init) refl (x.starts k);
    shows = λ t e at k o hk.
        let n = same.q k o hk in
        agrees_by (reg_shows r (v t) (x.kept t) k) (reg_shows p (w t) (x.kept t) k) (v t n.0) (w t o) (reg_shows_same r p same t (x.kept t) k) (n.2 t) (x.shows t e at k n.0 n.1);
    steps = λ t e at k o d ho hd.
        let n = same.q k o ho in
        let b = same.d k d hd in
        agrees_by (reg_next ins r e (v t) (x.kept t) k n.0 b.0) (reg_next outs p e (w t) (x.kept t) k o d) (x.kept (suc t) k) (x.kept (suc t) k) (reg_next_same r p same t e (x.kept t) k n.0 o b.0 d (n.2 t) (b.2 t)) refl (x.steps t e at k n.0 b.0 n.1 b.1);
  }

  hit_same : (f : Frame) (t : ℕ) (e : Happening) (word k : ℕ) (r p : WrPort) → WriteAlike ins outs v w r p → hit outs f e (w t) word k p ≡ hit ins f e (v t) word k r
  hit_same f t e word k r p same =
      let wide = same.wide in
      let edge = same.clock e.edge in
      let en = same.en t in
      let addr = same.addr t in
      let value = same.value t in
      cc

  pub hits_same : (f : Frame) (t : ℕ) (e : Happening) (word k : ℕ) (rs ps : List WrPort) → WritesAlike ins outs v w rs ps → hits outs f e (w t) word k ps ≡ hits ins f e (v t) word k rs
  hits_same f t e word k [] [] same = refl
  hits_same f t e word k [] (p ∷ ps) same = absurd same
  hits_same f t e word k (r ∷ rs) [] same = absurd same
  hits_same f t e word k (r ∷ rs) (p ∷ ps) same =
      let one = hit_same f t e word k r p same.0 in
      let rest = hits_same f t e word k rs ps same.1 in
      cc

  winner_same : (rs ps : List WrPort) → WritesAlike ins outs v w rs ps → (all : List (Option Bool)) (at : ℕ) (hs : List (Option Bool)) → winner all at ps hs ≡ winner all at rs hs
  winner_same [] [] same all at hs = refl
  winner_same [] (p ∷ ps) same all at hs = absurd same
  winner_same (r ∷ rs) [] same all at hs = absurd same
  winner_same (r ∷ rs) (p ∷ ps) same all at [] = refl
  winner_same (r ∷ rs) (p ∷ ps) same all at (None ∷ hs) = winner_same rs ps same.1 all (suc at) hs
  winner_same (r ∷ rs) (p ∷ ps) same all at (Some b ∷ hs) =
      let prio = same.0.prio in
      let rest = winner_same rs ps same.1 all (suc at) hs in
      cc

  pub written_same : (rs ps : List WrPort) → WritesAlike ins outs v w rs ps → (hs : List (Option Bool)) (old : Tri) → written ps hs old ≡ written rs hs old
  written_same rs ps same hs old =
      let win = winner_same rs ps same hs 0 hs in
      cc

  pub loaded_same : (rs ps : List WrPort) → WritesAlike ins outs v w rs ps → (trans coll : List Bool) (hs : List (Option Bool)) (old : Tri) → loaded trans coll ps hs old ≡ loaded trans coll rs hs old
  loaded_same rs ps same trans coll hs old =
      let win = winner_same rs ps same hs 0 hs in
      cc

  module _ (f : Frame) (rs ps : List WrPort) (writes : WritesAlike ins outs v w rs ps) (words : Words) where
    load_same : (r p : RdPort) → ReadsAlike ins outs v w r p → (t : ℕ) (e : Happening) (word bit : ℕ) → loaded p.trans p.coll ps (hits outs f e (w t) word bit ps) (words t word bit) ≡ loaded r.trans r.coll rs (hits ins f e (v t) word bit rs) (words t word bit)
    load_same r p same t e word bit =
        loaded_same rs ps writes p.trans p.coll (hits outs f e (w t) word bit ps) (words t word bit) ∙ ap (λ hs. loaded p.trans p.coll rs hs (words t word bit)) (hits_same f t e word bit rs ps writes) ∙ ap (λ m. loaded m p.coll rs (hits ins f e (v t) word bit rs) (words t word bit)) same.trans ∙ ap (λ m. loaded r.trans m rs (hits ins f e (v t) word bit rs) (words t word bit)) same.coll

    taken_same : (r p : RdPort) (same : ReadsAlike ins outs v w r p) (t : ℕ) (e : Happening) (k : ℕ) → read_bit f (base_of (w t) p.addr) k (λ word bit. loaded p.trans p.coll ps (hits outs f e (w t) word bit ps) (words t word bit)) ≡ read_bit f (base_of (v t) r.addr) k (λ word bit. loaded r.trans r.coll rs (hits ins f e (v t) word bit rs) (words t word bit))
    taken_same r p same t e k =
        let base : base_of (w t) p.addr ≡ base_of (v t) r.addr = (let addr = same.addr t in cc) in
        ap (λ b. read_bit f b k (λ word bit. loaded p.trans p.coll ps (hits outs f e (w t) word bit ps) (words t word bit))) base ∙ ap (read_bit f (base_of (v t) r.addr) k) (λ i word bit. load_same r p same t e word bit i)

    resets_same : (r p : RdPort) → ReadsAlike ins outs v w r p → (t : ℕ) → read_resets p (w t) ≡ read_resets r (v t)
    resets_same r p same t =
        let srst = same.srst t in
        let en = same.en t in
        let over = same.ce_over_srst in
        cc

    read_next_same : (c d : Clock) → SameClock ins outs c d → (r p : RdPort) → ReadsAlike ins outs v w r p → (t : ℕ) (e : Happening) (kept : ℕ → Bool) (k q o : ℕ) → w t o ≡ v t q → read_next outs f ps d p e (w t) (words t) kept k o ≡ read_next ins f rs c r e (v t) (words t) kept k q
    read_next_same c d clock r p same t e kept k q o hq =
        let taken = taken_same r p same t e k in
        let arst = same.arst t in
        let edge = clock e.edge in
        let sync = resets_same r p same t in
        let value = same.srst_value in
        let en = same.en t in
        let new = read_bit f (base_of (w t) p.addr) k (λ word bit. loaded p.trans p.coll ps (hits outs f e (w t) word bit ps) (words t word bit)) in
        let old = read_bit f (base_of (v t) r.addr) k (λ word bit. loaded r.trans r.coll rs (hits ins f e (v t) word bit rs) (words t word bit)) in
        ap (λ x. cond x (tri_of (w t o)) (cond (not (has_edge outs e.edge d)) (tri_of (kept k)) (cond (read_resets p (w t)) (tri_at p.srst_value k) (cond (value_of (w t) p.en) new (tri_of (kept k)))))) arst ∙ ap (λ x. cond (value_of (v t) r.arst) (tri_of x) (cond (not (has_edge outs e.edge d)) (tri_of (kept k)) (cond (read_resets p (w t)) (tri_at p.srst_value k) (cond (value_of (w t) p.en) new (tri_of (kept k)))))) hq ∙ ap (λ x. cond (value_of (v t) r.arst) (tri_of (v t q)) (cond (not x) (tri_of (kept k)) (cond (read_resets p (w t)) (tri_at p.srst_value k) (cond (value_of (w t) p.en) new (tri_of (kept k)))))) edge ∙ ap (λ x. cond (value_of (v t) r.arst) (tri_of (v t q)) (cond (not (has_edge ins e.edge c)) (tri_of (kept k)) (cond x (tri_at p.srst_value k) (cond (value_of (w t) p.en) new (tri_of (kept k)))))) sync ∙ ap (λ x. cond (value_of (v t) r.arst) (tri_of (v t q)) (cond (not (has_edge ins e.edge c)) (tri_of (kept k)) (cond (read_resets r (v t)) (tri_at x k) (cond (value_of (w t) p.en) new (tri_of (kept k)))))) value ∙ ap (λ x. cond (value_of (v t) r.arst) (tri_of (v t q)) (cond (not (has_edge ins e.edge c)) (tri_of (kept k)) (cond (read_resets r (v t)) (tri_at r.srst_value k) (cond x new (tri_of (kept k)))))) en ∙ ap (λ x. cond (value_of (v t) r.arst) (tri_of (v t q)) (cond (not (has_edge ins e.edge c)) (tri_of (kept k)) (cond (read_resets r (v t)) (tri_at r.srst_value k) (cond (value_of (v t) r.en) x (tri_of (kept k)))))) taken

    read_shows_same : (r p : RdPort) → ReadsAlike ins outs v w r p → (t : ℕ) (kept : ℕ → Bool) (k : ℕ) → read_shows p (w t) kept k ≡ read_shows r (v t) kept k
    read_shows_same r p same t kept k =
        let arst = same.arst t in
        let value = same.arst_value in
        cc

    read_alike : (r p : RdPort) → ReadsAlike ins outs v w r p → (c d : Option Clock) → SameReadClock ins outs c d → ReadAllows ins f rs c r words events v → ReadAllows outs f ps d p words events w
    read_alike r p same None None clock x = λ t e at k o hk.
        let n = same.out k o hk in
        let base : base_of (w t) p.addr ≡ base_of (v t) r.addr = (let addr = same.addr t in cc) in
        agrees_by (read_bit f (base_of (v t) r.addr) k (words t)) (read_bit f (base_of (w t) p.addr) k (words t)) (v t n.0) (w t o) (ap (λ b. read_bit f b k (words t)) base) (n.2 t) (x t e at k n.0 n.1)
    read_alike r p same None (Some d) clock x = absurd clock
    read_alike r p same (Some c) None clock x = absurd clock
    read_alike r p same (Some c) (Some d) clock x = record {
      kept = x.kept;
      starts = λ k. agrees_by (tri_at r.init_value k) (tri_at p.init_value k) (x.kept 0 k) (x.kept 0 k) (ap (λ i. tri_at i k) same.init_value) refl (x.starts k);
      shows = λ t e at k o hk.
          let n = same.out k o hk in
          agrees_by (read_shows r (v t) (x.kept t) k) (read_shows p (w t) (x.kept t) k) (v t n.0) (w t o) (read_shows_same r p same t (x.kept t) k) (n.2 t) (x.shows t e at k n.0 n.1);
      steps = λ t e at k o hk.
          let n = same.out k o hk in
          agrees_by (read_next ins f rs c r e (v t) (words t) (x.kept t) k n.0) (read_next outs f ps d p e (w t) (words t) (x.kept t) k o) (x.kept (suc t) k) (x.kept (suc t) k) (read_next_same c d clock r p same t e (x.kept t) k n.0 o (n.2 t)) refl (x.steps t e at k n.0 n.1);
    }

  frame_same : (x y : Mem) → MemsAlike ins outs v w x y → frame_of y ≡ frame_of x
  frame_same x y same =
      let width = same.width in
      let size = same.size in
      let offset = same.offset in
      λ i. record { width = width i; size = size i; offset = offset i }

  pub mem_alike : (x y : Mem) → MemsAlike ins outs v w x y → MemAllows ins x events v → MemAllows outs y events w
  mem_alike x y same a =
      let frame = frame_same x y same in
      record {
        words = a.words;
        holds = record {
          starts = λ word k hs hw. a.holds.starts word k (subst (λ n. word < n) same.size hs) (subst (λ n. k < n) same.width hw) ∙ sym (ap (λ i. tri_at i (word * y.width + k)) same.init ∙ ap (λ n. tri_at x.init (word * n + k)) same.width);
          steps = λ t e at word k hs hw.
              let one = written_same x.writes y.writes same.writes (hits outs (frame_of y) e (w t) word k y.writes) (a.words t word k) in
              let two = ap (λ g. written x.writes (hits outs g e (w t) word k y.writes) (a.words t word k)) frame in
              let three = ap (λ hs. written x.writes hs (a.words t word k)) (hits_same (frame_of x) t e word k x.writes y.writes same.writes) in
              a.holds.steps t e at word k (subst (λ n. word < n) same.size hs) (subst (λ n. k < n) same.width hw) ∙ sym (one ∙ two ∙ three);
        };
        reads = λ j p hp.
            let r = same.reads j p hp in
            subst (λ g. ReadAllows outs g y.writes p.clock p a.words events w) (sym frame) (read_alike (frame_of x) x.writes y.writes same.writes a.words r.0 p r.2 r.0.clock p.clock r.2.clock (a.reads j r.0 r.1));
      }
