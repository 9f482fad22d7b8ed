use Rattle.std.proofs.Common.{◌≡◌, List, true, false, subst, sym, ap, ◌∙◌, length, arith}
use Rattle.std.specs.List.{list_all, list_any}
use Rattle.net_core.specs.declared.bits.Bit.{Bit}
use Rattle.net_wires.specs.declared.link.Link.{Link}
use Rattle.net_wires.specs.Numbers.{EndsWithin, Numbered}
use Rattle.net_wires.specs.Ties.{is_end}
use Rattle.net_wires.proofs.Ready.{ended, end_at, ends_within, no_ring, some_ring}
use Rattle.net_wires.proofs.number.resolve.Goals as goal

pub returns-then-has_ring : goal.returns-then-has_ring
returns-then-has_ring c = λ t f. some_ring c.args.followed.now.rings (ap (list_any (λ on. on)) (sym c.as_slice.ensures) ∙ sym c.has_ring.ensures ∙ c.if-has_ring.true) c.broken.result c.broken.ensures

pub numbered-requires-clause-short : goal.numbered-requires-clause-short
numbered-requires-clause-short c = omega (arith, ap length c.as_slice-2.ensures)

pub numbered-requires-clause-all : goal.numbered-requires-clause-all
numbered-requires-clause-all c =
    let none : list_any (λ on. on) c.args.followed.now.rings ≡ false = ap (list_any (λ on. on)) (sym c.as_slice.ensures) ∙ sym c.has_ring.ensures ∙ c.if-has_ring.false in
    ap (list_all is_end) c.as_slice-2.ensures ∙ ended c.requires.follows.0 c.args.followed.now c.requires.follows.1 none

pub numbered-requires-clause-within : goal.numbered-requires-clause-within
numbered-requires-clause-within c = subst EndsWithin (sym c.as_slice-2.ensures) (ends_within c.requires.follows.0 c.args.followed.now c.requires.follows.1)

pub returns : goal.returns
returns c = λ t f.
    let none : list_any (λ on. on) c.args.followed.now.rings ≡ false = ap (list_any (λ on. on)) (sym c.as_slice.ensures) ∙ sym c.has_ring.ensures ∙ c.if-has_ring.false in
    let all : list_all is_end c.args.followed.now.ends ≡ true = ended t c.args.followed.now f none in (
      no_ring c.args.followed.now.rings none,
      record {
        ends = c.args.followed.now.ends;
        long = f.long;
        leads = λ i e at. f.leads i e at (end_at c.args.followed.now.ends i e all at);
        numbered = subst (λ (es : List Link). Numbered es c.from_vec.result c.in_ok-bits.count) c.as_slice-2.ensures (subst (λ (bs : List Bit). Numbered c.as_slice-2.result.now bs c.in_ok-bits.count) (sym c.from_vec.ensures) c.in_ok-bits.ensures);
      },
    )
