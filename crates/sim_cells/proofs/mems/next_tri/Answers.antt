use Rattle.std.proofs.Common.{ap, sym, ◌∙◌}
use Rattle.std.specs.Prelude.{slice_index}
use Rattle.lib_core.specs.Rams.{tri_at}
use Rattle.net_core.specs.Values.{value_of, tri_of, has_edge}
use Rattle.net_core.specs.Memory.{frame_of, base_of, hits, loaded, read_bit, read_resets}
use Rattle.ram_step.specs.Moments.{inputs_alone, moment_of, valuation}
use Rattle.sim_cells.specs.Memories.{clock_of, contents}
use Rattle.sim_cells.proofs.Taking.{loads, load_arm}
use Rattle.sim_cells.proofs.mems.next_tri.Goals as goal

pub returns-then-value_of-2-clause-tri : goal.returns-then-value_of-2-clause-tri
returns-then-value_of-2-clause-tri c =
    let x = c.args.mem.now in
    let r = c.args.read.now in
    let v = valuation c.args.values.now in
    let e = c.args.event.now in
    let words = c.args.words.now in
    load_arm (value_of v r.arst) (has_edge (inputs_alone e) (moment_of e).edge (clock_of r.clock)) (read_resets r v) (value_of v r.en)
    (tri_of (v (slice_index r.out c.args.place))) (tri_of c.args.kept) (tri_at r.srst_value c.args.place)
    (read_bit (frame_of x) (base_of v r.addr) c.args.place (λ word bit. loaded r.trans r.coll x.writes (hits (inputs_alone e) (frame_of x) (moment_of e) v word bit x.writes) (contents x words word bit)))
    c.load.result
    (sym c.value_of.ensures ∙ c.if-value_of.false)
    (ap (has_edge (inputs_alone e) (moment_of e).edge) (sym c.clock_of.ensures) ∙ sym c.has_edge.ensures ∙ c.if-not-has_edge.false)
    (sym c.resets.ensures ∙ c.if-resets.false)
    (sym c.value_of-else-resets.ensures ∙ c.if-value_of-2.true)
    (loads x words v e r c.args.bases.now c.args.base c.args.place c.load.result c.requires.fits.sizes.width.0 c.requires.base c.requires.bases c.load.ensures.tri)
