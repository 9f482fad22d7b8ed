use Rattle.std.proofs.Common.{sym, ◌∙◌, ap, Some}
use Rattle.std.proofs.lemmas.Option.{slice_get-get_or}
use Rattle.net_wires.proofs.Joins.{joined_new, joined_old}
use Rattle.net_wires.proofs.number.number_of.Goals as goal

pub returns-in-None-clause-joined : goal.returns-in-None-clause-joined
returns-in-None-clause-joined c = λ seen t e. joined_new c.args.table.now.items seen c.args.count.now c.args.at (slice_get-get_or c.args.table.now.items c.args.at c.index-known.result.now c.requires.within ∙ ap Some (sym c.index-known.ensures ∙ c.in-None.is)) c.requires.within t e

pub returns-in-Some-clause-joined : goal.returns-in-Some-clause-joined
returns-in-Some-clause-joined c = λ seen t e. joined_old c.args.table.now.items seen c.args.count.now c.args.at c.in-Some.number (slice_get-get_or c.args.table.now.items c.args.at c.index-known.result.now c.requires.within ∙ ap Some (sym c.index-known.ensures ∙ c.in-Some.is)) c.requires.within t e
