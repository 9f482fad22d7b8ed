use Rattle.std.proofs.Common.{rules, ◌≡◌, ◌-◌, [], ◌∷◌, ◌++◌, length, take, drop, sym, subst}
use Rattle.net_draft.proofs.Adding.{RamsLeft, rams_end, rams_next}
use Rattle.net_draft.proofs.Reading.{none_left, split}
use Rattle.net_draft.proofs.cells.push_rams.Goals as goal

pub loop-rest-preserved : goal.loop-rest-preserved
loop-rest-preserved c =
    let rams = c.args.rams.now in
    let before = c.args.cells.now.items in
    let here = c.loop-rest.rest.now in
    let behind = take (length here - 1) (drop 1 here) in
    let is : here ≡ c.ram-item.result ∷ behind = split here c.ram-item.result c.in-len1-up.len_at_least c.ram-item.is in
    let left : RamsLeft c.args.lib.now c.args.inverses.now rams before (c.ram-item.result ∷ behind) c.loop-rest.cells.items = subst (λ rs. RamsLeft c.args.lib.now c.args.inverses.now rams before rs c.loop-rest.cells.items) is c.loop-rest.invariant in
    let pushed : c.push.new.self.items ≡ c.loop-rest.cells.items ++ c.in_ok-ram_cell.field-0 ∷ [] = search rules in
    subst (λ cs. RamsLeft c.args.lib.now c.args.inverses.now rams before behind cs) (sym pushed) (rams_next c.args.lib.now c.args.inverses.now rams before c.ram-item.result behind c.loop-rest.cells.items c.in_ok-ram_cell.field-0 left c.in_ok-ram_cell.ensures)

pub returns : goal.returns
returns c =
    rams_end c.args.lib.now c.args.inverses.now c.args.rams.now c.args.cells.now.items c.loop-rest.cells.items
    (subst (λ rs. RamsLeft c.args.lib.now c.args.inverses.now c.args.rams.now c.args.cells.now.items rs c.loop-rest.cells.items) (none_left c.loop-rest.rest.now c.in_default.len_below) c.loop-rest.invariant)
