use Rattle.std.proofs.Common.{◌≡◌, List, [], ℕ, ap, ◌∙◌}
use Rattle.doc_fits.specs.Tests.{name_of_item}
use Rattle.doc_fits.proofs.Taking.{no_name, no_more, no_wire, no_memory, no_cell}
use Rattle.doc_fits.proofs.names.add_item.Goals as goal

pub returns-in_default : goal.returns-in_default
returns-in_default c =
    let none : name_of_item c.args.kind c.args.item.now ≡ [] = ap (λ k. name_of_item k c.args.item.now) c.in_default.is-0 ∙ no_wire c.args.item.now c.in_default.not-Wire-1 in
    record { new = no_name c.args.names.now (name_of_item c.args.kind c.args.item.now) none; names = λ e. no_more c.args.names.now (name_of_item c.args.kind c.args.item.now) none }

pub returns-in_default-2 : goal.returns-in_default-2
returns-in_default-2 c =
    let none : name_of_item c.args.kind c.args.item.now ≡ [] = ap (λ k. name_of_item k c.args.item.now) c.in_default.is-0 ∙ no_memory c.args.item.now c.in_default.not-Mem-1 in
    record { new = no_name c.args.names.now (name_of_item c.args.kind c.args.item.now) none; names = λ e. no_more c.args.names.now (name_of_item c.args.kind c.args.item.now) none }

pub returns-in_default-3 : goal.returns-in_default-3
returns-in_default-3 c =
    let none : name_of_item c.args.kind c.args.item.now ≡ [] = ap (λ k. name_of_item k c.args.item.now) c.in_default.is-0 ∙ no_cell c.args.item.now c.in_default.not-Cell-1 in
    record { new = no_name c.args.names.now (name_of_item c.args.kind c.args.item.now) none; names = λ e. no_more c.args.names.now (name_of_item c.args.kind c.args.item.now) none }
