use Rattle.std.proofs.Common.{◌∷◌, [], refl, sym, subst}
use Rattle.net_gates.specs.declared.registers.RegPins.{RegPins}
use Rattle.net_gates.specs.Adds.{IsReady}
use Rattle.net_gates.specs.Registers.{AddsRegister}
use Rattle.net_gates.proofs.Flagging.{register_ready, mux_ready, flag_added, select_is}
use Rattle.net_gates.proofs.Leaving.{grows_same, left_grows, on_any}
use Rattle.net_gates.proofs.flags.flag_mux.Goals as goal

pub register-requires-clause-ready : goal.register-requires-clause-ready
register-requires-clause-ready c =
    subst (λ (p : RegPins). IsReady c.args.edit.now (p.en ∷ p.rst ∷ p.d)) (sym c.in_ok-pins.ensures) (register_ready c.args.edit.now c.args.flag c.args.low.now c.args.high.now c.requires.ready)

pub mux-requires-clause-ready : goal.mux-requires-clause-ready
mux-requires-clause-ready c =
    let old = c.args.edit.now in
    let mid = c.register.new.edit in
    let one = subst (AddsRegister old mid) c.in_ok-pins.ensures c.in_ok-shown.ensures.adds in
    mux_ready old c.args.flag c.args.low.now c.args.high.now c.requires.ready mid mid [] one _ (select_is old.netlist.nets c.as_slice.result.now c.in_ok-shown.shown c.in_ok-pins.pins c.args.flag c.as_slice.ensures c.in_ok-shown.ensures.bits c.in_ok-pins.ensures)

pub returns-clause-adds : goal.returns-clause-adds
returns-clause-adds c =
    let old = c.args.edit.now in
    let mid = c.register.new.edit in
    let one = subst (AddsRegister old mid) c.in_ok-pins.ensures c.in_ok-shown.ensures.adds in
    flag_added old c.args.flag c.args.low.now c.args.high.now c.requires.ready mid c.mux.new.edit c.in_ok-ys.ys one _ (select_is old.netlist.nets c.as_slice.result.now c.in_ok-shown.shown c.in_ok-pins.pins c.args.flag c.as_slice.ensures c.in_ok-shown.ensures.bits c.in_ok-pins.ensures) c.in_ok-ys.ensures.adds

pub returns-in_err-pins-clause-left : goal.returns-in_err-pins-clause-left
returns-in_err-pins-clause-left c = on_any _ (grows_same c.args.edit.now c.args.edit.now refl)

pub returns-in_err-shown-clause-left : goal.returns-in_err-shown-clause-left
returns-in_err-shown-clause-left c = on_any _ (left_grows _ _ _ _ c.in_err-shown.ensures.left)
