use Rattle.std.proofs.Common.{ap, arith, length, sym, refl, ◌∙◌}
use Rattle.net_core.specs.Shape as shape
use Rattle.ram_step.proofs.SlotsAt.{slot_read, length-slots_of}
use Rattle.ram_step.proofs.ports.Ports.get.Goals as goal

pub bounds-self-inside-number : goal.bounds-self-inside-number
bounds-self-inside-number g c =
    let i = c.self.inside in
    let r = slot_read i.variant.now i.cell.now c.args.number c.args.self.now.all i.owners.now c.self.invariant.3 c.self.invariant.4 (ap (λ l. l.all) (sym c.self.view_is)) c.requires in
    r.owner

pub bounds-as_slice-group : goal.bounds-as_slice-group
bounds-as_slice-group g c =
    let i = c.self.inside in
    let r = slot_read i.variant.now i.cell.now c.args.number c.args.self.now.all i.owners.now c.self.invariant.3 c.self.invariant.4 (ap (λ l. l.all) (sym c.self.view_is)) c.requires in
    rw c.as_slice.ensures r.group

pub bounds-as_slice-number : goal.bounds-as_slice-number
bounds-as_slice-number g c =
    let i = c.self.inside in
    let r = slot_read i.variant.now i.cell.now c.args.number c.args.self.now.all i.owners.now c.self.invariant.3 c.self.invariant.4 (ap (λ l. l.all) (sym c.self.view_is)) c.requires in
    rw c.as_slice-2.ensures r.pin

pub returns : goal.returns
returns g c =
    let i = c.self.inside in
    let all = ap (λ l. l.all) (sym c.self.view_is) in
    let r = slot_read i.variant.now i.cell.now c.args.number c.args.self.now.all i.owners.now c.self.invariant.3 c.self.invariant.4 all c.requires in
    let kind = rw c.as_slice.ensures at c.index-as_slice-group.is in
    let pins = rw c.as_slice-2.ensures at c.index-as_slice-number.is in
    let count = length-slots_of i.variant.now i.cell.now c.self.invariant.3 in
    record {
      found = r.found c.index-as_slice-group.result c.index-as_slice-number.result kind pins;
      number = refl;
      few = let same = ap length all in omega (arith, c.self.invariant.5, count, same, c.requires);
      fits = ap (λ l. shape.slot_fits l.variant c.index-as_slice-group.result c.index-as_slice-number.result) (sym c.self.view_is) ∙ r.fits c.index-as_slice-group.result c.index-as_slice-number.result kind pins;
    }
