use Rattle.std.proofs.Common.{◌≡◌, ◌<◌, ◌≤◌, length, Some, ap, ◌∙◌, refl, arith}
use Rattle.std.specs.Prelude.{slice_get}
use Rattle.std.proofs.lemmas.Option.{slice_get_read}
use Rattle.net_core.proofs.Searching.{get_set_same}
use Rattle.net_loops.proofs.Walking.{rest_open, rested, same_walk}
use Rattle.net_loops.proofs.walk.Walk.cover.Goals as goal

pub run-requires-clause-walking : goal.run-requires-clause-walking
run-requires-clause-walking c =
    let s = c.args.self.now in
    let within : c.args.node < length s.labels.items = omega (arith, c.requires.within, c.requires.resting.walking.placed.labelled) in
    let at : slice_get s.labels.items c.args.node ≡ Some c.index.result.now = slice_get_read s.labels.items (length s.labels.items) c.args.node _ refl within c.index.ensures in
    same_walk c.args.graph.now 4294967295 4294967295 c.args.label _ _ _ _ _ _ _ _ c.in_ok-enter.ensures.labels c.in_ok-enter.ensures.left c.in_ok-enter.ensures.stack c.in_ok-enter.ensures.done
    (rest_open c.args.graph.now 4294967295 c.args.label s.labels.items s.left.items s.stack.items s.done.items c.args.node c.index.result.now c.requires.resting at c.if-label-index.true)

pub returns-in_ok-run : goal.returns-in_ok-run
returns-in_ok-run c =
    let s = c.run.new.self in
    let old = c.args.self.now in
    let within : c.args.node < length old.labels.items = omega (arith, c.requires.within, c.requires.resting.walking.placed.labelled) in
    let here : slice_get c.enter.new.self.labels.items c.args.node ≡ Some c.args.label = ap (λ ls. slice_get ls c.args.node) c.in_ok-enter.ensures.labels ∙ get_set_same old.labels.items c.args.node c.args.label within in
    let least : c.args.label ≤ c.args.label = omega arith in
    record {
      came = (c.args.label, c.in_ok-run.ensures.kept c.args.node c.args.label here least, least);
      resting = rested c.args.graph.now 4294967295 c.args.label s.labels.items s.left.items s.stack.items s.done.items c.in_ok-run.field-0 c.requires.closed (omega arith) c.in_ok-run.ensures.met c.in_ok-run.ensures.walking c.in_ok-run.ensures.empty;
    }

pub returns-else-label-index : goal.returns-else-label-index
returns-else-label-index c =
    let s = c.args.self.now in
    let within : c.args.node < length s.labels.items = omega (arith, c.requires.within, c.requires.resting.walking.placed.labelled) in
    let at : slice_get s.labels.items c.args.node ≡ Some c.index.result.now = slice_get_read s.labels.items (length s.labels.items) c.args.node _ refl within c.index.ensures in
    record { came = (c.index.result.now, at, c.if-label-index.false); resting = c.requires.resting }
