-- The status that tells the first fault of a text.
use Rattle.std.proofs.Common.{◌≡◌, ℕ, suc, List, ◌⊎◌, arith, inl, inr, refl, subst, sym, ◌∙◌, ap}
use Rattle.rtlil_lex.specs.declared.token.Token.{Token}
use Rattle.rtlil_lex.specs.Lines.{token_lines}
use Rattle.rtlil_text.specs.declared.doc.Doc.{Doc}
use Rattle.rtlil_text.specs.declared.fault.Refusal.{Refusal}
use Rattle.rtlil_text.specs.declared.fault.Refusal.TheVariants as refusal
use Rattle.rtlil_text.specs.declared.fault.TextFault.{TextFault}
use Rattle.rtlil_text.specs.ReadText.{fault}
use Rattle.rtlil_text.specs.Reads.{Reads}
use Rattle.rtlil_text.specs.Text.{limited_lines, IsWithinLimits, IsFirstFault, no_memory}
use Rattle.flow_top.specs.Reading.{RefusesText, text_status}

line_of_fault : (number : ℕ) (cause : Refusal) → (fault number cause).line ≡ number
line_of_fault number refusal.Token = refl
line_of_fault number refusal.Grammar = refl
line_of_fault number refusal.Process = refl
line_of_fault number (refusal.Limit seen) = refl

-- a fault in a line is no want of memory
in_a_line : (number : ℕ) (cause : Refusal) (f : TextFault) → f ≡ fault (suc number) cause → f ≡ no_memory → ⊥
in_a_line number cause f is none =
    let e : suc number ≡ 0 = sym (line_of_fault (suc number) cause) ∙ ap (λ (x : TextFault). x.line) (sym is ∙ none) in
    omega (arith, e)

has_a_line : (tss : List (List Token)) (f : TextFault) → IsFirstFault tss f → f ≡ no_memory → ⊥
has_a_line tss f (inl (count, cause, is, place)) none = in_a_line count cause f is none
has_a_line tss f (inr (number, is, early)) none =
    let e : number ≡ 0 = ap (λ (x : TextFault). x.line) (sym is ∙ none) in
    omega (arith, e, early.place)

pub refuses_text : (bytes : List ℕ) (f : TextFault) → (f ≡ no_memory) ⊎ IsFirstFault (limited_lines (token_lines bytes)) f → ((doc : Doc) → Reads bytes doc → IsWithinLimits bytes doc → f ≡ no_memory) → RefusesText bytes (text_status f)
refuses_text bytes f (inl e) only = inl (ap text_status e)
refuses_text bytes f (inr first) only =
    inr (record {
      fault = f;
      is_none = record { first = first; unread = λ doc reads within. has_a_line (limited_lines (token_lines bytes)) f first (only doc reads within) };
      status_is = refl;
    })
