use Rattle.std.proofs.Common.{rules, ◌≡◌, ◌-◌, [], ◌∷◌, ◌++◌, length, take, drop, sym, subst}
use Rattle.net_draft.specs.Cells.{AllFit}
use Rattle.net_draft.specs.Naming.{with_name}
use Rattle.net_draft.proofs.Adding.{MemsLeft, mems_end, mems_next}
use Rattle.net_draft.proofs.Fitting.{others_fit}
use Rattle.net_draft.proofs.Reading.{none_left, split}
use Rattle.net_draft.proofs.cells.push_mems.Goals as goal

pub loop-rest-preserved : goal.loop-rest-preserved
loop-rest-preserved c =
    let first = c.args.taken.now in
    let all = c.args.mems.now in
    let before = c.args.cells.now.items in
    let here = c.loop-rest.rest.now in
    let behind = take (length here - 1) (drop 1 here) in
    let is : here ≡ c.mem-item.result ∷ behind = split here c.mem-item.result c.in-len1-up.len_at_least c.mem-item.is in
    let fit : AllFit (c.mem-item.result ∷ behind) = subst AllFit is c.loop-rest.invariant.0 in
    let left : MemsLeft first all before c.loop-rest.taken (c.mem-item.result ∷ behind) c.loop-rest.cells.items = subst (λ ms. MemsLeft first all before c.loop-rest.taken ms c.loop-rest.cells.items) is c.loop-rest.invariant.1 in
    let pushed : c.push.new.self.items ≡ c.loop-rest.cells.items ++ c.in_ok-mem_cell.field-0 ∷ [] = search rules in
    let more = mems_next first all before c.loop-rest.taken c.mem-item.result behind c.loop-rest.cells.items c.in_ok-mem_cell.field-0 left c.in_ok-mem_cell.ensures.cell in
    let then = subst (λ cs. MemsLeft first all before (with_name c.loop-rest.taken c.in_ok-mem_cell.field-0.name) behind cs) (sym pushed) more in
    (others_fit c.mem-item.result behind fit, subst (λ t. MemsLeft first all before t behind c.push.new.self.items) (sym c.in_ok-mem_cell.ensures.taken) then)

pub returns : goal.returns
returns c =
    mems_end c.args.taken.now c.args.mems.now c.args.cells.now.items c.loop-rest.taken c.loop-rest.cells.items
    (subst (λ ms. MemsLeft c.args.taken.now c.args.mems.now c.args.cells.now.items c.loop-rest.taken ms c.loop-rest.cells.items) (none_left c.loop-rest.rest.now c.in_default.len_below) c.loop-rest.invariant.1)
