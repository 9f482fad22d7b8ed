use Rattle.std.proofs.Common.{◌≡◌, Some, length, ap, sym, subst, ◌∙◌, arith}
use Rattle.std.specs.Prelude.{slice_get}
use Rattle.std.proofs.lemmas.Option.{same_Some}
use Rattle.ram_step.specs.Moments.{valuation}
use Rattle.sim_cells.specs.Memories.{port_bits, next_tri}
use Rattle.sim_cells.proofs.Fitting.{few_reads, read_addr, read_out}
use Rattle.sim_cells.proofs.MemStates.{kept_few, front}
use Rattle.sim_cells.proofs.ReadLists.{element}
use Rattle.sim_cells.proofs.mems.keep_read.Goals as goal

pub keep_bits-requires-clause-port : goal.keep_bits-requires-clause-port
keep_bits-requires-clause-port c =
    let few = few_reads c.args.mem.now c.requires.fits in
    omega (arith, few, c.requires.port)

pub keep_bits-requires-clause-addr : goal.keep_bits-requires-clause-addr
keep_bits-requires-clause-addr c =
    let r = c.index-as_slice-port.result in
    let long = ap length c.as_slice.ensures in
    read_addr c.args.mem.now c.requires.fits c.args.port r
    (subst (λ l. slice_get l c.args.port ≡ Some r) c.as_slice.ensures (element c.as_slice.result.now c.args.port r (omega (arith, c.requires.port, long)) c.index-as_slice-port.is))

pub keep_bits-requires-clause-room : goal.keep_bits-requires-clause-room
keep_bits-requires-clause-room c =
    let r = c.index-as_slice-port.result in
    let long = ap length c.as_slice.ensures in
    ap length c.as_mut_slice.ensures.value ∙ c.requires.room r
    (subst (λ l. slice_get l c.args.port ≡ Some r) c.as_slice.ensures (element c.as_slice.result.now c.args.port r (omega (arith, c.requires.port, long)) c.index-as_slice-port.is))

pub keep_bits-requires-clause-few : goal.keep_bits-requires-clause-few
keep_bits-requires-clause-few c =
    let r = c.index-as_slice-port.result in
    let long = ap length c.as_slice.ensures in
    let found : slice_get c.args.mem.now.reads c.args.port ≡ Some r = subst (λ l. slice_get l c.args.port ≡ Some r) c.as_slice.ensures (element c.as_slice.result.now c.args.port r (omega (arith, c.requires.port, long)) c.index-as_slice-port.is) in
    let room = ap length c.as_mut_slice.ensures.value ∙ c.requires.room r found in
    let few = kept_few r in
    let out = read_out c.args.mem.now c.requires.fits c.args.port r found in
    omega (arith, room, few, out)

pub returns-clause-bits : goal.returns-clause-bits
returns-clause-bits c = λ s there.
    let r = c.index-as_slice-port.result in
    let long = ap length c.as_slice.ensures in
    let found : slice_get c.args.mem.now.reads c.args.port ≡ Some r = subst (λ l. slice_get l c.args.port ≡ Some r) c.as_slice.ensures (element c.as_slice.result.now c.args.port r (omega (arith, c.requires.port, long)) c.index-as_slice-port.is) in
    front c.args.kept.now.len c.keep_bits.new.kept _ (c.keep_bits.ensures.count ∙ c.as_mut_slice.ensures.len) ∙ c.keep_bits.ensures.bits
    ∙ ap (λ l. port_bits c.args.key.now c.args.port r (next_tri c.args.words.now c.args.mem.now (valuation c.args.values.now) c.args.event.now l r)) c.as_mut_slice.ensures.value
    ∙ ap (λ z. port_bits c.args.key.now c.args.port z (next_tri c.args.words.now c.args.mem.now (valuation c.args.values.now) c.args.event.now c.args.kept.now.items z)) (same_Some r s (sym found ∙ there))
