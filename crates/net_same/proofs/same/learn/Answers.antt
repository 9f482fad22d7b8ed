use Rattle.net_same.proofs.Learning.{chain}
use Rattle.net_same.proofs.Matching.{wires_taught_at}
use Rattle.net_same.proofs.same.learn.Goals as goal

pub returns : goal.returns
returns c =
    let wires_teach = wires_taught_at c.args.old.now.wires c.as_slice.result.now c.args.new.now.wires c.as_slice-2.result.now c.args.tables.now c.learn_wires.new.tables c.as_slice.ensures c.as_slice-2.ensures c.learn_wires.ensures in
    record {
      step = λ f g told wires cells.
          chain (wires_teach.step f g told wires) (chain (c.learn.ensures.step f g told cells.mems) (chain (c.learn-2.ensures.step f g told cells.combs) (chain (c.learn-3.ensures.step f g told cells.regs) (chain (c.learn-4.ensures.step f g told cells.rams) (c.learn-5.ensures.step f g told cells.carried)))));
    }
