use Rattle.std.proofs.Common.{◌≡◌, ℕ, List, sym, subst}
use Rattle.std.proofs.lemmas.Result.{IfOk-weaker}
use Rattle.rtlil_text.specs.Reads.{Reads}
use Rattle.rtlil_print.specs.Print.{printed}
use Rattle.rtlil_print.proofs.RoundTrip.{reads_again}
use Rattle.rtlil_print.proofs.print.print_doc.Goals as goal

pub returns-clause-back : goal.returns-clause-back
returns-clause-back c =
    IfOk-weaker c.document_text.result (λ text. text.items ≡ printed c.args.doc.now) (λ text. Reads text.items c.args.doc.now)
    (λ text e. subst (λ (bs : List ℕ). Reads bs c.args.doc.now) (sym e) (reads_again c.args.doc.now c.requires)) c.document_text.ensures
