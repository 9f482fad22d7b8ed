use Rattle.std.proofs.Common.{◌/◌, ◌^◌, ap, ◌∙◌, rules}
use Rattle.net_core.specs.Values.{number_of, values_of}
use Rattle.ram_step.specs.Moments.{valuation}
use Rattle.ram_step.proofs.Places.{placed, found}
use Rattle.ram_step.proofs.ports.Ports.place.Goals as goal

pub number_of-address-requires : goal.number_of-address-requires
number_of-address-requires g c =
    let i = c.self.inside in
    let n = c.self.invariant in
    let p = placed i.variant.now c.args.self.now.variant i.geometry.now.widths i.geometry.now.abits g.row.LEVELS c.args.port.now.kind.now c.args.port.now.pins.now c.args.bit (ap (λ l. l.variant) c.self.view_is) n.0 n.1 n.2 n.6 c.requires.fits c.requires.bit in
    rw c.as_slice.ensures p.address

pub overflow_shr-address : goal.overflow_shr-address
overflow_shr-address g c =
    let i = c.self.inside in
    let n = c.self.invariant in
    let p = placed i.variant.now c.args.self.now.variant i.geometry.now.widths i.geometry.now.abits g.row.LEVELS c.args.port.now.kind.now c.args.port.now.pins.now c.args.bit (ap (λ l. l.variant) c.self.view_is) n.0 n.1 n.2 n.6 c.requires.fits c.requires.bit in
    p.low

pub place-requires : goal.place-requires
place-requires g c =
    let i = c.self.inside in
    let n = c.self.invariant in
    let p = placed i.variant.now c.args.self.now.variant i.geometry.now.widths i.geometry.now.abits g.row.LEVELS c.args.port.now.kind.now c.args.port.now.pins.now c.args.bit (ap (λ l. l.variant) c.self.view_is) n.0 n.1 n.2 n.6 c.requires.fits c.requires.bit in
    let few = n.7 in
    (search rules, (p.level, (p.word c.number_of-address.result (rw (← c.as_slice.ensures) c.number_of-address.ensures.bound), p.bit)))

pub returns : goal.returns
returns g c =
    let i = c.self.inside in
    let n = c.self.invariant in
    let pins = c.args.port.now.pins.now in
    let same = ap (λ l. l.variant) c.self.view_is in
    let word = c.number_of-address.ensures.value ∙ ap (λ bits. number_of (values_of (valuation c.args.values.now) bits)) c.as_slice.ensures in
    let f = found i.variant.now c.args.self.now.variant i.geometry.now.widths i.geometry.now.abits g.row.LEVELS pins.level (c.number_of-address.result / 2 ^ pins.level) c.args.bit c.place.result same n.0 n.1 n.6 c.place.ensures.value c.place.ensures.word c.place.ensures.bit in
    rw (← word) (record { word = f.word; bit = f.bit; words = f.words; width = f.width })
