use Rattle.std.proofs.Common.{◌≡◌, ◌+◌, ◌-◌, ◌≤◌, List, ap, arith, ◌∙◌, length, reverse, take, drop, min}
use Rattle.net_wires.specs.declared.source.Source.{Source}
use Rattle.net_wires.proofs.Bits.{held_cut, in_range, length_held, out_of_range}
use Rattle.net_wires.proofs.reading.cut_held.Goals as goal

pub returns-then-end-saturating_sub : goal.returns-then-end-saturating_sub
returns-then-end-saturating_sub c =
    out_of_range c.args.high _ (omega (arith, length_held c.args.bits.items c.args.skip, c.if-end-saturating_sub.true, c.saturating_sub.ensures, c.len-length.ensures)) c.broken.result c.broken.ensures

pub returns : goal.returns
returns c =
    let xs = c.args.bits.items in
    let long : c.len-length.result ≡ length xs = omega (arith, c.len-length.ensures) in
    let room : c.args.high + 1 ≤ length xs - c.args.skip = omega (arith, c.if-end-saturating_sub.false, c.saturating_sub.ensures, c.len-length.ensures) in (
      in_range c.args.high _ (omega (arith, length_held xs c.args.skip, room)),
      ap (λ (ys : List Source). reverse (drop (c.len-length.result - (c.args.high + 1)) ys)) c.truncate.ensures.items
          ∙ ap (λ n. reverse (drop (c.len-length.result - (c.args.high + 1)) (take (c.len-length.result - n) xs))) c.min-begin.ensures
          ∙ ap (λ n. reverse (drop (n - (c.args.high + 1)) (take (n - min c.args.low (c.args.high + 1)) xs))) long
          ∙ held_cut xs c.args.skip c.args.high c.args.low room,
    )
