use Rattle.std.proofs.Common.{◌≡◌, ℕ, ◌+◌, ◌<◌, List, Bool, length, ap, sym, ◌∙◌, arith}
use Rattle.std.specs.Prelude.{Vec}
use Rattle.std.specs.Global.{Global}
use Rattle.std.proofs.lemmas.List.{length-set}
use Rattle.net_core.specs.declared.mems.RdPort.{RdPort}
use Rattle.net_core.proofs.Basics.{get_below}
use Rattle.ram_step.specs.Moments.{valuation}
use Rattle.sim_cells.specs.Memories.{kept_at, port_bits, next_tri}
use Rattle.sim_cells.specs.KeptBits.{bit_lists}
use Rattle.sim_cells.proofs.ReadLists.{each_listed, keep_more, keep_above, kept_there, length_lists}
use Rattle.sim_cells.proofs.mems.keep_all.Goals as goal

pub loop-port-preserved : goal.loop-port-preserved
loop-port-preserved c =
    let n = c.loop-port.port in
    let kept = c.loop-port.kept in
    let old = c.args.kept.now in
    let inv = c.loop-port.invariant in
    let x = c.args.mem.now in
    let v = valuation c.args.values.now in
    let f : ℕ → RdPort → List Bool = λ i r. port_bits c.args.key.now i r (next_tri c.args.words.now x v c.args.event.now (kept_at (bit_lists old) i) r) in
    let long = ap length c.as_slice-port-end.ensures in
    let inside : n < length kept = omega (arith, inv.0, c.requires.count, c.loop-port-test.true, long) in
    let here : c.index-kept-port.result.items ≡ kept_at (bit_lists old) n = sym (kept_there kept n c.index-kept-port.result inside c.index-kept-port.is) ∙ inv.3 n (omega arith) in (
      length-set kept n c.keep_read.new.kept ∙ inv.0,
      c.keep_read.ensures.hits ∙ inv.1,
      keep_more f x.reads old kept n c.keep_read.new.kept inside (λ r found. c.keep_read.ensures.bits r found ∙ ap (λ l. port_bits c.args.key.now n r (next_tri c.args.words.now x v c.args.event.now l r)) (ap (λ (b : Vec Bool Global). b.items) (sym c.index-kept-port.is) ∙ here)) inv.2,
      keep_above old kept n c.keep_read.new.kept inv.3,
    )

pub returns-clause-bits : goal.returns-clause-bits
returns-clause-bits c =
    let inv = c.loop-port.invariant in
    let x = c.args.mem.now in
    let old = c.args.kept.now in
    let f : ℕ → RdPort → List Bool = λ i r. port_bits c.args.key.now i r (next_tri c.args.words.now x (valuation c.args.values.now) c.args.event.now (kept_at (bit_lists old) i) r) in
    let lists = length_lists c.loop-port.kept in
    let long = ap length c.as_slice-port-end.ensures in
    each_listed f 0 x.reads (bit_lists c.loop-port.kept) (lists ∙ inv.0 ∙ c.requires.count) (λ i r found.
    let below = get_below x.reads i r found in
    let z : i ≡ 0 + i = omega arith in
    inv.2 i (omega (arith, below, long, c.loop-port-test.false)) r found ∙ ap (λ m. f m r) z)
