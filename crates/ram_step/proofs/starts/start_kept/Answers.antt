use Rattle.std.proofs.Common.{◌<◌, ◌^◌, arith, rules}
use Rattle.ram_step.specs.Ports.{slot_of}
use Rattle.ram_step.specs.States.{start_kept}
use Rattle.ram_step.proofs.Starting.{kept_more}
use Rattle.ram_step.proofs.starts.start_kept.Goals as goal

pub start_bits-requires : goal.start_bits-requires
start_bits-requires g c =
    let few : g.row.LIMBS < 2 ^ 26 = omega (arith, c.requires.few_limbs) in
    (search rules, (search rules, (omega (arith, c.get.ensures.number, c.get.ensures.few), (c.requires.few_bits, c.requires.few_limbs))))

pub loop-number-preserved : goal.loop-number-preserved
loop-number-preserved g c = kept_more (start_kept c.args.ports.now.variant c.args.key) c.args.ports.now.all c.loop-number.number (slot_of c.get.result) c.loop-number.kept.items c.push.new.self.items c.start_bits.result c.get.ensures.found c.in_ok-push.ensures.items c.start_bits.ensures c.loop-number.invariant
