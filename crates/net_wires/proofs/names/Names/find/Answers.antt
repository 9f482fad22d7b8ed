use Rattle.std.proofs.Common.{sym, ap, ◌∙◌}
use Rattle.std.specs.Str.{bytes_eq}
use Rattle.net_wires.specs.Spans.{look}
use Rattle.net_wires.proofs.Looking.{lookup_mapped, look_is}
use Rattle.net_wires.proofs.names.Names.find.Goals as goal

pub returns : goal.returns
returns c = c.copied.ensures ∙ c.get.ensures.value ∙ lookup_mapped (λ k. k.now) (bytes_eq c.args.name.now) c.self.inside.table.entries ∙ sym (look_is _ c.args.name.now) ∙ ap (λ es. look es c.args.name.now) c.self.view_is
