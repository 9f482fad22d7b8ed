use Rattle.std.proofs.Common.{◌≡◌, Some, length, ap, sym, subst, ◌∙◌, arith}
use Rattle.std.specs.Prelude.{slice_get}
use Rattle.std.proofs.lemmas.Option.{same_Some}
use Rattle.std.proofs.lemmas.Result.{IfOk-weaker}
use Rattle.lib_core.specs.Rams.{tri_at}
use Rattle.sim_cells.specs.Memories.{port_bits}
use Rattle.sim_cells.proofs.Fitting.{few_reads, read_out}
use Rattle.sim_cells.proofs.ReadLists.{element}
use Rattle.sim_cells.proofs.mems.start_read.Goals as goal

pub start_bits-requires-clause-port : goal.start_bits-requires-clause-port
start_bits-requires-clause-port c =
    let few = few_reads c.args.mem.now c.requires.fits in
    omega (arith, few, c.requires.port)

pub start_bits-requires-clause-out : goal.start_bits-requires-clause-out
start_bits-requires-clause-out c =
    let r = c.index-as_slice-port.result in
    let long = ap length c.as_slice.ensures in
    read_out c.args.mem.now c.requires.fits c.args.port r
    (subst (λ l. slice_get l c.args.port ≡ Some r) c.as_slice.ensures (element c.as_slice.result.now c.args.port r (omega (arith, c.requires.port, long)) c.index-as_slice-port.is))

pub returns : goal.returns
returns c =
    let r = c.index-as_slice-port.result in
    let long = ap length c.as_slice.ensures in
    let found : slice_get c.args.mem.now.reads c.args.port ≡ Some r = subst (λ l. slice_get l c.args.port ≡ Some r) c.as_slice.ensures (element c.as_slice.result.now c.args.port r (omega (arith, c.requires.port, long)) c.index-as_slice-port.is) in
    IfOk-weaker c.start_bits.result _ _ (λ kept made s there. made ∙ ap (λ z. port_bits c.args.start.now c.args.port z (tri_at z.init_value)) (same_Some r s (sym found ∙ there))) c.start_bits.ensures
