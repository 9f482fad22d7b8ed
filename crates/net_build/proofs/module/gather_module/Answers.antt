use Rattle.std.proofs.Common.{◌≡◌, List, subst, Ok, Err}
use Rattle.cell_rows.specs.Kinds.{found}
use Rattle.rtlil_text.specs.declared.doc.Item.{Item}
use Rattle.net_gather.specs.declared.gathering.Gathered.{Gathered}
use Rattle.net_gather.specs.Faults.{FindsFirst}
use Rattle.net_gather.specs.Gather.{context, faults_of, gathered}
use Rattle.net_build.specs.Steps.{RefusesHalt}
use Rattle.net_build.proofs.Built.{gathers_halt, gathers_ok}
use Rattle.net_build.proofs.module.gather_module.Goals as goal

pub returns-in-Ok : goal.returns-in-Ok
returns-in-Ok c =
    let a = c.args.around.now in
    let h = subst (λ (is : List Item). FindsFirst (Ok c.in-Ok.gathered) (faults_of (context a.library.now (λ n. found a.rams.now n) a.faces.now is) is) (λ (made : Gathered). made ≡ gathered (context a.library.now (λ n. found a.rams.now n) a.faces.now is) is)) c.as_slice-items.ensures c.in-Ok.ensures in
    gathers_ok a c.args.doc.now c.in-Ok.gathered c.requires.around h.0 h.1

pub returns-in-Err : goal.returns-in-Err
returns-in-Err c =
    let a = c.args.around.now in
    let h = subst (λ (is : List Item). FindsFirst (Err c.in-Err.halt) (faults_of (context a.library.now (λ n. found a.rams.now n) a.faces.now is) is) (λ (made : Gathered). made ≡ gathered (context a.library.now (λ n. found a.rams.now n) a.faces.now is) is)) c.as_slice-items.ensures c.in-Err.ensures in
    gathers_halt a c.args.doc.now c.in-Err.halt c.refuse_halt.result c.requires.around h
    (subst (λ (is : List Item). RefusesHalt is c.in-Err.halt c.refuse_halt.result) c.as_slice-items.ensures c.refuse_halt.ensures)
