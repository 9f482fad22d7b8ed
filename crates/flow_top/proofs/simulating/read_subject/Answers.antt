use Rattle.std.proofs.Common.{◌≡◌, subst}
use Rattle.std.proofs.lemmas.Result.{err_from_is_err_and}
use Rattle.flow_io.specs.Files.{Tells}
use Rattle.flow_top.specs.Command.{sim_files_of}
use Rattle.flow_top.proofs.SimStops.{netlist_refused, library_refused, subject_refused, subject_found}
use Rattle.flow_top.proofs.simulating.read_subject.Goals as goal

pub returns-in_err-doc-clause-stopped : goal.returns-in_err-doc-clause-stopped
returns-in_err-doc-clause-stopped g c =
    let p = err_from_is_err_and c.from_residual-in_err-doc.result c.from_residual-in_err-doc.ensures.1 in
    rw (p.1, p.2) (netlist_refused (sim_files_of c.args.command) (g.D.Desk.files c.args.desk.now) (g.D.Desk.read_faults c.args.desk.now) (g.D.Desk.read_faults c.read.new.desk)
    c.in_ok-netlist.netlist.items c.in_err-doc.field-0.0 c.in_ok-netlist.ensures.told c.in_ok-netlist.ensures.within
    (rw (← c.as_slice.ensures.value) c.in_err-doc.ensures.refused))

pub returns-in_err-library-clause-stopped : goal.returns-in_err-library-clause-stopped
returns-in_err-library-clause-stopped g c =
    let asked = sim_files_of c.args.command in
    let p = err_from_is_err_and c.from_residual-in_err-library.result c.from_residual-in_err-library.ensures.1 in
    rw (p.1, p.2) (library_refused asked (g.D.Desk.files c.args.desk.now) (g.D.Desk.read_faults c.args.desk.now) (g.D.Desk.read_faults c.read-2.new.desk)
    c.in_ok-netlist.netlist.items c.in_ok-text.text.items c.in_ok-doc.doc c.in_err-library.field-0.0
    c.in_ok-netlist.ensures.told c.in_ok-netlist.ensures.within (rw (← c.as_slice.ensures.value) c.in_ok-doc.ensures.found.0)
    (subst (λ t. Tells t asked.library c.in_ok-text.text.items) c.in_ok-netlist.ensures.files_stay c.in_ok-text.ensures.told) c.in_ok-text.ensures.within
    (rw (← c.as_slice-2.ensures.value) c.in_err-library.ensures.refused))

pub returns-in_err-module-clause-stopped : goal.returns-in_err-module-clause-stopped
returns-in_err-module-clause-stopped g c =
    let asked = sim_files_of c.args.command in
    let p = err_from_is_err_and c.from_residual-in_err-module.result c.from_residual-in_err-module.ensures.1 in
    rw (p.1, p.2) (subject_refused asked (g.D.Desk.files c.args.desk.now) (g.D.Desk.read_faults c.args.desk.now) (g.D.Desk.read_faults c.read-2.new.desk)
    c.in_ok-netlist.netlist.items c.in_ok-text.text.items c.in_ok-doc.doc c.in_ok-library.library c.in_err-module.field-0.0
    c.in_ok-netlist.ensures.told c.in_ok-netlist.ensures.within (rw (← c.as_slice.ensures.value) c.in_ok-doc.ensures.found.0)
    (subst (λ t. Tells t asked.library c.in_ok-text.text.items) c.in_ok-netlist.ensures.files_stay c.in_ok-text.ensures.told) c.in_ok-text.ensures.within
    (rw (← c.as_slice-2.ensures.value) c.in_ok-library.ensures.found.0)
    c.in_err-module.ensures.refused)

pub returns-clause-found : goal.returns-clause-found
returns-clause-found g c =
    let asked = sim_files_of c.args.command in
    subject_found asked (g.D.Desk.files c.args.desk.now) c.in_ok-netlist.netlist.items c.in_ok-text.text.items c.in_ok-doc.doc c.in_ok-library.library c.in_ok-module.«module»
    c.in_ok-netlist.ensures.told c.in_ok-netlist.ensures.within (rw (← c.as_slice.ensures.value) c.in_ok-doc.ensures.found.0)
    (subst (λ t. Tells t asked.library c.in_ok-text.text.items) c.in_ok-netlist.ensures.files_stay c.in_ok-text.ensures.told) c.in_ok-text.ensures.within
    (rw (← c.as_slice-2.ensures.value) c.in_ok-library.ensures.found.0)
    c.in_ok-module.ensures.found
