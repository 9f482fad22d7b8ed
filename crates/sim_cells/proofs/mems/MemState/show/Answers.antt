use Rattle.std.proofs.Common.{◌≡◌, Some, length, ap, sym, subst, ◌∙◌, arith}
use Rattle.std.specs.Prelude.{slice_get}
use Rattle.std.proofs.lemmas.Option.{same_Some}
use Rattle.ram_step.specs.Moments.{valuation}
use Rattle.sim_cells.specs.Memories.{MemLook, picked_bit, shown_tri, kept_at}
use Rattle.sim_cells.specs.KeptBits.{bit_lists}
use Rattle.sim_cells.proofs.Fitting.{few_reads}
use Rattle.sim_cells.proofs.ReadLists.{element, kept_there, length_lists}
use Rattle.sim_cells.proofs.mems.MemState.show.Goals as goal

pub show_read-requires-clause-port : goal.show_read-requires-clause-port
show_read-requires-clause-port c =
    let few = few_reads c.args.mem.now c.requires.fits in
    omega (arith, few, c.requires.port)

pub returns-clause-bits : goal.returns-clause-bits
returns-clause-bits c = λ s there k h.
    let x = c.args.mem.now in
    let v = valuation c.args.values.now in
    let port = c.args.port in
    let r = c.index-as_slice-port.result in
    let long = ap length c.as_slice.ensures in
    let found : slice_get x.reads port ≡ Some r = subst (λ l. slice_get l port ≡ Some r) c.as_slice.ensures (element c.as_slice.result.now port r (omega (arith, c.requires.port, long)) c.index-as_slice-port.is) in
    let kept : bit_lists c.self.inside.kept.items ≡ c.args.self.now.kept = ap (λ (a : MemLook). a.kept) c.self.view_is in
    let words : c.self.inside.words.items ≡ c.args.self.now.words = ap (λ (a : MemLook). a.words) c.self.view_is in
    let count = ap length kept in
    let lists = length_lists c.self.inside.kept.items in
    let is = c.requires.state.kept in
    let bits : c.index.result.now.items ≡ kept_at c.args.self.now.kept port = sym (kept_there c.self.inside.kept.items port c.index.result.now (omega (arith, count, lists, is, c.requires.port)) c.index.ensures) ∙ ap (λ l. kept_at l port) kept in
    c.show_read.ensures.bits k h
    ∙ ap (λ l. picked_bit c.args.key.now port (shown_tri l x v c.as_slice-3.result.now r) k) (c.as_slice-2.ensures.value ∙ words)
    ∙ ap (λ l. picked_bit c.args.key.now port (shown_tri c.args.self.now.words x v l r) k) (c.as_slice-3.ensures.value ∙ bits)
    ∙ ap (λ z. picked_bit c.args.key.now port (shown_tri c.args.self.now.words x v (kept_at c.args.self.now.kept port) z) k) (same_Some r s (sym found ∙ there))
