use Rattle.std.proofs.Common.{◌≡◌, List, [], ◌∷◌, ◌++◌, ap, ◌∙◌, sym}
use Rattle.std.specs.Prelude.{not}
use Rattle.std.specs.List.{list_any}
use Rattle.std.specs.Str.{bytes_eq}
use Rattle.rtlil_text.specs.Grammar.{has}
use Rattle.doc_fits.proofs.Taking.{has_mapped, pushed}
use Rattle.doc_fits.proofs.names.Names.add.Goals as goal

pub returns-clause-new : goal.returns-clause-new
returns-clause-new c =
    c.in_ok-insert.ensures.added
    ∙ ap (λ n. not (list_any (λ k. bytes_eq n k.now) c.self.inside.seen.keys)) c.as_slice.ensures
    ∙ ap not (has_mapped (λ k. k.now) c.args.name.now c.self.inside.seen.keys)
    ∙ ap (λ ns. not (has ns c.args.name.now)) c.self.view_is

pub returns-clause-names : goal.returns-clause-names
returns-clause-names c = λ new.
    pushed (λ k. k.now) c.self.inside.seen.keys c.insert.new.self.keys c.as_slice.result (list_any (λ k. bytes_eq c.as_slice.result.now k.now) c.self.inside.seen.keys) c.in_ok-insert.field-0 c.args.self.now
    c.in_ok-insert.ensures.keys c.in_ok-insert.ensures.added new c.self.view_is
    ∙ ap (λ n. c.args.self.now ++ n ∷ []) c.as_slice.ensures
