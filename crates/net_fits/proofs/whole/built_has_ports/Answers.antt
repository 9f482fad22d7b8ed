use Rattle.std.proofs.Common.{◌≡◌, ◌+◌, ◌≤◌, length, sym, ap, ◌∙◌, subst, arith}
use Rattle.net_wires.specs.Spans.{There, wire_bits}
use Rattle.net_wires.proofs.Ready.{length_links}
use Rattle.net_gather.specs.Gather.{counts_before, gathered}
use Rattle.net_module.specs.Assembly.{module_of}
use Rattle.net_fits.proofs.PortFacts.{ports_alike}
use Rattle.net_fits.proofs.whole.built_has_ports.Goals as goal

pub returns : goal.returns
unfolding module_of
returns c = λ x m places count roots starts rams s.
    let g = gathered x m.items in
    let long : length places ≡ g.places = s.resolves.numbered.long ∙ s.resolves.long ∙ length_links g.places g.pairs in
    let near : There (wire_bits m.items) x.names = subst (There (wire_bits m.items)) (sym s.names) (c.wires_are_there.ensures m.items) in
    let grown = c.places_in_order.ensures x (counts_before m.items) m.items near in
    let more : g.places ≡ wire_bits m.items + grown.0 = grown.1 in
    let enough : wire_bits m.items ≤ length places = omega (arith, long, more) in
    ap (λ ps. record { name = m.name; ports = ps }) (ports_alike places m.items enough)
