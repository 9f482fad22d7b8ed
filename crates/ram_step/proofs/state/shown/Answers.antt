use Rattle.std.proofs.Common.{Bool, List, [], false, cond, get_or, ap, sym, ◌∙◌}
use Rattle.std.proofs.lemmas.Option.{get_or_from_slice_get}
use Rattle.lib_core.specs.declared.library.Tri.TheVariants.{Any}
use Rattle.lib_core.specs.Rams.{lies, filled}
use Rattle.net_core.specs.Values.{bit_at, tri_of}
use Rattle.net_core.specs.Ram.{word_of, slot_in_arst}
use Rattle.row_store.specs.Rows.{bit_of}
use Rattle.ram_step.specs.Ports.{slot_of}
use Rattle.ram_step.specs.States.{keeps}
use Rattle.ram_step.specs.Moments.{valuation}
use Rattle.ram_step.proofs.Gathering.{element}
use Rattle.ram_step.proofs.Keeping.{bit_at_is}
use Rattle.ram_step.proofs.state.shown.Goals as goal

pub returns : goal.returns
returns g c =
    let s = slot_of c.args.port.now in
    let kept = c.args.kept.now in
    let v = valuation c.args.values.now in
    let n = c.args.port.now.number in
    let k = c.args.bit in
    let at = lies c.args.ports.now.variant s.pins.level (word_of v s) k in
    let r = c.index-kept-port.result in
    let here = sym (get_or_from_slice_get kept n r [] (element kept n r c.requires.number c.index-kept-port.is)) in
    let bit = c.get-2.ensures ∙ ap (λ (l : List Bool). get_or l k false) here ∙ sym (bit_at_is (get_or kept n []) k) in
    let own = tri_of (bit_at (get_or kept n []) k) in
    let reset = filled s.kind.arst s.pins.arst_value k in
    c.tri_of.ensures ∙ ap tri_of bit
    ∙ sym (ap (λ t. cond t (bit_of c.args.rows.now at.0 at.1) (cond (keeps s) (cond (slot_in_arst v s) reset own) Any)) (sym c.shows_now.ensures ∙ c.if-shows_now.false)
    ∙ ap (λ t. cond t (cond (slot_in_arst v s) reset own) Any) (sym c.keeps.ensures ∙ c.if-not-keeps.false)
    ∙ ap (λ t. cond t reset own) (sym c.in_arst.ensures ∙ c.if-in_arst.false))
