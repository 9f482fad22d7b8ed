use Rattle.std.proofs.Common.{◌≡◌, ◌++◌, ◌∷◌, [], List, sym, ap, ◌∙◌, map, None}
use Rattle.std.specs.Map.{lookup}
use Rattle.std.specs.Str.{bytes_eq}
use Rattle.net_wires.specs.Spans.{look, Entry}
use Rattle.indexmap.proofs.CallerLemmas.{insert_entry-new}
use Rattle.net_wires.proofs.Looking.{lookup_mapped, look_is, map_append_one}
use Rattle.net_wires.proofs.names.Names.add.Goals as goal

pub returns : goal.returns
returns c =
    let none : lookup (λ k. bytes_eq c.args.name.now k.now) c.self.inside.table.entries ≡ None =
    lookup_mapped (λ k. k.now) (bytes_eq c.args.name.now) c.self.inside.table.entries ∙ sym (look_is _ c.args.name.now) ∙ ap (λ es. look es c.args.name.now) c.self.view_is ∙ c.requires in
    ap (map (λ e. (e.0.now, e.1))) (c.in_ok-insert.ensures.entries ∙ insert_entry-new _ c.self.inside.table c.args.name c.args.span none)
    ∙ map_append_one (λ e. (e.0.now, e.1)) c.self.inside.table.entries (c.args.name, c.args.span)
    ∙ ap (λ (es : List Entry). es ++ (c.args.name.now, c.args.span) ∷ []) c.self.view_is
