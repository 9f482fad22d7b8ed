-- A design of followed connects solves them.
use Rattle.std.proofs.Common.{◌≡◌, ℕ, suc, ◌<◌, true, List, length, get_or, Some, refl, sym, ap, ◌∙◌, subst, arith}
use Rattle.std.specs.Prelude.{slice_get}
use Rattle.std.proofs.lemmas.Option.{same_Some, slice_get_within, slice_get-get_or, get_or_from_slice_get}
use Rattle.net_wires.specs.declared.link.Link.{Link}
use Rattle.net_wires.specs.declared.link.Link.TheVariants as links
use Rattle.net_core.specs.declared.bits.Bit.{Bit}
use Rattle.net_core.specs.declared.bits.Bit.TheVariants as bits
use Rattle.net_wires.specs.Ties.{is_end, walk, Leads}
use Rattle.net_wires.specs.Numbers.{nets, Numbered}
use Rattle.net_wires.specs.Nets.{Solves}
use Rattle.net_wires.proofs.Saying.{one_end, Says, says, found_at, number_of}

-- two bits that say the same of one end are one
one_bit : (seen : List ℕ) (e : Link) (b c : Bit) → is_end e ≡ true → Says seen e b → Says seen e c → b ≡ c
one_bit seen links.Zero b c h p q = p ∙ sym q
one_bit seen links.One b c h p q = p ∙ sym q
one_bit seen (links.End i) b c h p q = p.2 ∙ ap bits.Net (same_Some p.0 q.0 (sym p.1 ∙ q.1)) ∙ sym q.2
one_bit seen (links.To i) b c h p q = cc

module _ (t ends : List Link) (new : List Bit) (total : ℕ) (long : length ends ≡ length t)
    (leads : (i : ℕ) (e : Link) → slice_get ends i ≡ Some e → Leads t (links.To i) e) (numbered : Numbered ends new total) where
  record At (i : ℕ) : Type 0 where
    e : Link
    b : Bit
    leads_to : Leads t (links.To i) e
    is : slice_get new i ≡ Some b
    says_so : Says (nets ends) e b

  at_bit : (i : ℕ) → i < length t → At i
  at_bit i h =
      let g : i < length ends = omega (arith, h, long) in
      let k : i < length new = omega (arith, g, numbered.long) in
      let ei = slice_get-get_or ends i links.Zero g in
      let bi = slice_get-get_or new i bits.Zero k in
      record { e = get_or ends i links.Zero; b = get_or new i bits.Zero; leads_to = leads i (get_or ends i links.Zero) ei; is = bi; says_so = says (nets ends) (get_or ends i links.Zero) (get_or new i bits.Zero) (numbered.each i (get_or ends i links.Zero) (get_or new i bits.Zero) ei bi) }

  at_end : (i : ℕ) (x : Link) → slice_get t i ≡ Some x → is_end x ≡ true → (c : Bit) × (slice_get new i ≡ Some c) × Says (nets ends) x c
  at_end i x at h =
      let a = at_bit i (slice_get_within t i x at) in
      let l : Leads t (links.To i) x = (1, get_or_from_slice_get t i x (links.To i) at, h) in
      (a.b, a.is, subst (λ (y : Link). Says (nets ends) y a.b) (one_end t (links.To i) a.e x a.leads_to l) a.says_so)

  pub solves : Solves t new
  solves = record {
    equal = λ l r at h.
        let a = at_bit l (slice_get_within t l (links.To r) at) in
        let b = at_bit r h in
        let far : Leads t (links.To l) b.e = (suc b.leads_to.0, ap (walk t b.leads_to.0) (get_or_from_slice_get t l (links.To r) (links.To l) at) ∙ b.leads_to.1, b.leads_to.2) in
        let same : a.e ≡ b.e = one_end t (links.To l) a.e b.e a.leads_to far in
        a.is ∙ ap Some (one_bit (nets ends) b.e a.b b.b b.leads_to.2 (subst (λ (y : Link). Says (nets ends) y a.b) same a.says_so) b.says_so) ∙ sym b.is;
    zero = λ l at. let q = at_end l links.Zero at refl in q.1 ∙ ap Some q.2;
    one = λ l at. let q = at_end l links.One at refl in q.1 ∙ ap Some q.2;
    net = λ l at. let q = at_end l (links.End l) at refl in let s = q.2 in (s.0, q.1 ∙ ap Some s.2);
    apart = λ l m k al am bl bm.
        let p = at_end l (links.End l) al refl in
        let q = at_end m (links.End m) am refl in
        let sp = p.2 in
        let sq = q.2 in
        let kp : sp.0 ≡ k = ap number_of (same_Some (bits.Net sp.0) (bits.Net k) (sym (p.1 ∙ ap Some sp.2) ∙ bl)) in
        let kq : sq.0 ≡ k = ap number_of (same_Some (bits.Net sq.0) (bits.Net k) (sym (q.1 ∙ ap Some sq.2) ∙ bm)) in
        same_Some l m (sym (found_at (nets ends) l sp.0 sp.1) ∙ ap (slice_get (nets ends)) (kp ∙ sym kq) ∙ found_at (nets ends) m sq.0 sq.1);
  }
