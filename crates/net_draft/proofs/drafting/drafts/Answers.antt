use Rattle.std.proofs.Common.{rules, ◌≡◌, ◌-◌, [], ◌∷◌, ◌++◌, length, take, drop, sym, subst}
use Rattle.net_draft.proofs.Joining.{Completes, end, next}
use Rattle.net_draft.proofs.Reading.{none_left, split}
use Rattle.net_draft.proofs.drafting.drafts.Goals as goal

pub loop-rest-preserved : goal.loop-rest-preserved
loop-rest-preserved c =
    let lib = c.args.lib.now in
    let all = c.args.modules.now in
    let here = c.loop-rest.rest.now in
    let behind = take (length here - 1) (drop 1 here) in
    let is : here ≡ c.module-item.result ∷ behind = split here c.module-item.result c.in-len1-up.len_at_least c.module-item.is in
    let left : Completes lib all (c.module-item.result ∷ behind) c.loop-rest.written.items = subst (λ ms. Completes lib all ms c.loop-rest.written.items) is c.loop-rest.invariant in
    let pushed : c.push.new.self.items ≡ c.loop-rest.written.items ++ c.in_ok-draft_module.field-0 ∷ [] = search rules in
    subst (λ ds. Completes lib all behind ds) (sym pushed) (next lib all c.module-item.result behind c.loop-rest.written.items c.in_ok-draft_module.field-0 left c.in_ok-draft_module.ensures)

pub returns : goal.returns
returns c =
    end c.args.lib.now c.args.modules.now c.loop-rest.written.items
    (subst (λ ms. Completes c.args.lib.now c.args.modules.now ms c.loop-rest.written.items) (none_left c.loop-rest.rest.now c.in_default.len_below) c.loop-rest.invariant)
