use Rattle.std.proofs.Common.{◌≡◌, Bool, false, ap, sym, ◌∙◌}
use Rattle.std.specs.Prelude.{◌||◌}
use Rattle.lib_core.specs.CellNames.{is_cell}
use Rattle.lib_judge.specs.Names.{names_of_all, names_repeat}
use Rattle.lib_judge.specs.Variants.{has_name}
use Rattle.lib_judge.proofs.Looked.{or_neither}
use Rattle.lib_judge.proofs.faults.named_twice.Goals as goal

two : (r a b x y z : Bool) → r ≡ (a || b) → a ≡ x → b ≡ y → z ≡ false → r ≡ (x || y || z)
two r a b x y z h p q s = h ∙ ap (λ (v : Bool). v || b) p ∙ ap (λ (v : Bool). x || v) q ∙ sym (or_neither x y z s)

pub returns : goal.returns
returns c =
    two c.either.result c.is_cell_name-of_cell.result c.has_name-of_ram.result
    (is_cell c.args.ram.now.name) (has_name c.args.earlier.now c.args.ram.now.name) (names_repeat (names_of_all c.args.ram.now.ports))
    c.either.ensures (c.is_cell_name-of_cell.ensures ∙ ap is_cell c.as_slice.ensures) c.has_name-of_ram.ensures c.requires
