-- A walk along the parts of a signal, part by part.
use Rattle.std.proofs.Common.{◌≡◌, ℕ, ◌+◌, ◌-◌, ◌≤◌, List, ◌∷◌, length, get_or, Option, Some, sym, ap, ◌∙◌, arith, length-drop, length-take}
use Rattle.std.specs.Prelude.{take, drop}
use Rattle.rtlil_text.specs.declared.doc.Part.{Part}
use Rattle.doc_fits.specs.declared.signal.Spot.{Spot}
use Rattle.doc_fits.specs.Tests.{step, walk}
use Rattle.doc_fits.proofs.Signals.{deeper, walk_on}
use Rattle.doc_fits.proofs.Taking.{front}

pub walks_on : (s t : Spot) (o : Option Spot) (rest : List Part) (p : Part) (all : Option Spot) → 1 ≤ length rest → p ≡ get_or rest 0 p → o ≡ step s p → o ≡ Some t → walk s rest ≡ all → walk t (take (length rest - 1) (drop 1 rest)) ≡ all
walks_on s t o rest p all long first is there so_far =
    sym (walk_on s t p (take (length rest - 1) (drop 1 rest)) (sym is ∙ there)) ∙ sym (ap (walk s) (front rest p long first)) ∙ so_far

pub is_deep : (s t : Spot) (o : Option Spot) (rest : List Part) (p : Part) (n : ℕ) → 1 ≤ length rest → o ≡ step s p → o ≡ Some t → s.depth + length rest ≤ n → t.depth + length (take (length rest - 1) (drop 1 rest)) ≤ n
is_deep s t o rest p n long is there so_far =
    let d : t.depth ≤ s.depth + 1 = deeper s t p (sym is ∙ there) in
    let l : length (take (length rest - 1) (drop 1 rest)) ≤ length rest - 1 = simp (length-take, length-drop) (omega arith) in
    omega arith
