use Rattle.std.proofs.Common.{◌≡◌, subst}
use Rattle.std.proofs.lemmas.Result.{err_from_is_err_and}
use Rattle.flow_io.specs.Files.{Tells}
use Rattle.flow_top.specs.Command.{files_of}
use Rattle.flow_top.proofs.StopLemmas.{design_refused, library_refused, map_refused, prepared}
use Rattle.flow_top.proofs.mapping.prepare.Goals as goal

pub returns-in_err-doc-clause-stopped : goal.returns-in_err-doc-clause-stopped
returns-in_err-doc-clause-stopped g c =
    let p = err_from_is_err_and c.from_residual-in_err-doc.result c.from_residual-in_err-doc.ensures.1 in
    rw (p.1, p.2) (design_refused (files_of c.args.command) (g.D.Desk.files c.args.desk.now) (g.D.Desk.read_faults c.args.desk.now) (g.D.Desk.read_faults c.read.new.desk) c.in_ok-design.design.items c.in_err-doc.field-0.0 c.in_ok-design.ensures.told c.in_ok-design.ensures.within
    (rw (← c.as_slice.ensures.value) c.in_err-doc.ensures.refused))

pub returns-in_err-library-clause-stopped : goal.returns-in_err-library-clause-stopped
returns-in_err-library-clause-stopped g c =
    let asked = files_of c.args.command in
    let p = err_from_is_err_and c.from_residual-in_err-library.result c.from_residual-in_err-library.ensures.1 in
    rw (p.1, p.2) (library_refused asked (g.D.Desk.files c.args.desk.now) (g.D.Desk.read_faults c.args.desk.now) (g.D.Desk.read_faults c.read-2.new.desk)
    c.in_ok-design.design.items c.in_ok-text.text.items c.in_ok-doc.doc c.in_err-library.field-0.0
    c.in_ok-design.ensures.told c.in_ok-design.ensures.within (rw (← c.as_slice.ensures.value) c.in_ok-doc.ensures.found.0)
    (subst (λ t. Tells t asked.library c.in_ok-text.text.items) c.in_ok-design.ensures.files_stay c.in_ok-text.ensures.told) c.in_ok-text.ensures.within
    (rw (← c.as_slice-2.ensures.value) c.in_err-library.ensures.refused))

pub returns-clause-made : goal.returns-clause-made
returns-clause-made g c =
    let asked = files_of c.args.command in
    prepared asked (g.D.Desk.files c.args.desk.now) c.in_ok-design.design.items c.in_ok-text.text.items c.in_ok-doc.doc c.in_ok-library.library c.in_ok-made.made
    c.in_ok-design.ensures.told c.in_ok-design.ensures.within (rw (← c.as_slice.ensures.value) c.in_ok-doc.ensures.found.0)
    (subst (λ t. Tells t asked.library c.in_ok-text.text.items) c.in_ok-design.ensures.files_stay c.in_ok-text.ensures.told) c.in_ok-text.ensures.within
    (rw (← c.as_slice-2.ensures.value) c.in_ok-library.ensures.found.0)
    c.in_ok-made.ensures.mapped

pub returns-in_err-made-clause-stopped : goal.returns-in_err-made-clause-stopped
returns-in_err-made-clause-stopped g c =
    let asked = files_of c.args.command in
    let p = err_from_is_err_and c.from_residual-in_err-made.result c.from_residual-in_err-made.ensures.1 in
    rw (p.1, p.2) (map_refused asked (g.D.Desk.files c.args.desk.now) (g.D.Desk.read_faults c.args.desk.now) (g.D.Desk.read_faults c.read-2.new.desk)
    c.in_ok-design.design.items c.in_ok-text.text.items c.in_ok-doc.doc c.in_ok-library.library c.in_err-made.field-0.0
    c.in_ok-design.ensures.told c.in_ok-design.ensures.within (rw (← c.as_slice.ensures.value) c.in_ok-doc.ensures.found.0)
    (subst (λ t. Tells t asked.library c.in_ok-text.text.items) c.in_ok-design.ensures.files_stay c.in_ok-text.ensures.told) c.in_ok-text.ensures.within
    (rw (← c.as_slice-2.ensures.value) c.in_ok-library.ensures.found.0)
    c.in_err-made.ensures.refused)
