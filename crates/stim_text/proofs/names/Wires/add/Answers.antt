use Rattle.std.proofs.Common.{◌≡◌, ◌++◌, ◌∷◌, [], sym, ap, ◌∙◌, map, Option, None}
use Rattle.std.specs.Map.{lookup}
use Rattle.std.specs.Str.{bytes_eq}
use Rattle.indexmap.proofs.CallerLemmas.{insert_entry-new}
use Rattle.stim_text.specs.declared.names.Span.{Span}
use Rattle.stim_text.specs.Inputs.{Wires, wire_at}
use Rattle.stim_text.proofs.Placing.{is_nothing, wire_found, wire_new, map_push}
use Rattle.stim_text.proofs.names.Wires.add.Goals as goal

pub returns-in_ok-insert : goal.returns-in_ok-insert
returns-in_ok-insert c =
    let missing : ◌≡◌ {A = Option Span} c.find.result None = is_nothing c.find.result c.is_none.result c.is_none.ensures c.if-is_none.true in
    let none : lookup (λ k. bytes_eq c.args.name.now k.now) c.self.inside.table.entries ≡ None =
    wire_found (λ k. k.now) c.args.name.now c.self.inside.table.entries ∙ ap (λ es. wire_at es c.args.name.now) c.self.view_is ∙ sym c.find.ensures ∙ missing in
    ap (map (λ e. (e.0.now, e.1))) (c.in_ok-insert.ensures.entries ∙ insert_entry-new _ c.self.inside.table c.args.name c.args.span none)
    ∙ map_push (λ e. (e.0.now, e.1)) c.self.inside.table.entries (c.args.name, c.args.span)
    ∙ ap (λ (es : Wires). es ++ (c.args.name.now, c.args.span) ∷ []) c.self.view_is
    ∙ sym (wire_new c.args.self.now c.args.name.now c.args.span c.find.result c.find.ensures missing)
