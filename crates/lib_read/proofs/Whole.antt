-- The clauses of the reader, by what was read of the RAMs.
use Rattle.std.proofs.Common.{◌≡◌, ℕ, List, [], None, Result, Ok, Err, refl, sym, ◌∙◌, ap, subst, inr, IfOk, IfErr}
use Rattle.lib_core.specs.declared.library.Library.{Library}
use Rattle.lib_core.specs.declared.library.RamKind.{RamKind}
use Rattle.lib_tree.specs.declared.fault.LibCode.{LibCode}
use Rattle.lib_tree.specs.declared.fault.LibCode.TheVariants as code
use Rattle.lib_tree.specs.declared.fault.LibFault.{LibFault}
use Rattle.lib_tree.specs.declared.statement.Statement.{Statement}
use Rattle.lib_tree.specs.Faults.{IsReadFault, IsText}
use Rattle.lib_tree.specs.Reading.{FailsAt, GivesRead}
use Rattle.lib_judge.specs.declared.raw.RawRam.{RawRam}
use Rattle.lib_judge.specs.Raw.{rams_of}
use Rattle.lib_read.specs.Expansion.{library_of}
use Rattle.lib_read.specs.Limits.{IsWithinLimits}
use Rattle.lib_read.specs.Reading.{as_library, read_kinds, read_rams}
use Rattle.lib_read.specs.Reads.{AreFaultless, AreSound, IsFault, IsFaultBy, IsFaultOfRams, LibReads}
use Rattle.lib_read.proofs.Codes.{fault_of_tokens}
use Rattle.lib_read.proofs.Mentioned.{rams_read}
use Rattle.lib_read.proofs.Rams.{FaultBehind, all_read, fault_read, faultless_reads}
use Rattle.lib_read.proofs.Within.{faultless_of_within, sound_and_within}

-- ---- Ok

ok_by : (rams : List RawRam) (r : Result (List RamKind) LibFault) (l : Library) → read_kinds [] rams ≡ r → as_library r ≡ Ok l → (l ≡ library_of rams) × AreFaultless [] rams
ok_by rams (Ok ks) l e h =
    let p = all_read [] rams ks e in
    let q : record { rams = ks; budget = None } ≡ l = cc in
    (sym q ∙ ap (λ (x : List RamKind). record { rams = x; budget = None }) p.0, p.1)
ok_by rams (Err f) l e h = absurd (cc)

ok_rams : (rams : List RawRam) (l : Library) → read_rams rams ≡ Ok l → (l ≡ library_of rams) × AreFaultless [] rams
unfolding read_rams
ok_rams rams l h = ok_by rams (read_kinds [] rams) l refl h

found_by : (bs : List ℕ) (ss : List Statement) (l : Library) → IsText bs ss → (l ≡ library_of (rams_of ss)) × AreFaultless [] (rams_of ss) → LibReads bs l × IsWithinLimits l
found_by bs ss l t p =
    let q = sound_and_within (rams_of ss) p.1 in (
      record { statements = ss; text = t; sound = q.0; expansion = p.0 },
      subst (λ (x : Library). IsWithinLimits x) (sym p.0) q.1,
    )

pub is_found : (bs : List ℕ) (ss : List Statement) (r : Result Library LibFault) → IsText bs ss → GivesRead r (read_rams (rams_of ss)) → IfOk r (λ l. LibReads bs l × IsWithinLimits l)
is_found bs ss (Ok l) t g = found_by bs ss l t (ok_rams (rams_of ss) l g)
is_found bs ss (Err f) t g = tt

-- ---- what is read

reads_rams : (rams : List RawRam) → AreFaultless [] rams → read_rams rams ≡ Ok (library_of rams)
unfolding read_rams
reads_rams rams h = ap as_library (faultless_reads [] rams h)

same_ok : (a b : Library) → a ≡ b → ◌≡◌ {A = Result Library LibFault} (Ok a) (Ok b)
same_ok a b e = ap (λ (x : Library). Ok x) e

same_statements : (ss tt' : List Statement) → GivesRead {X = List Statement} (Ok ss) (Ok tt') → tt' ≡ ss
same_statements ss ts h = cc

pub only_reads : (bs : List ℕ) (ss : List Statement) (r : Result Library LibFault) (l : Library) → ((ts : List Statement) → IsText bs ts → GivesRead (Ok ss) (Ok ts)) → GivesRead r (read_rams (rams_of ss)) → LibReads bs l → IsWithinLimits l → GivesRead r (Ok l)
only_reads bs ss r l only g reads within =
    let same = same_statements ss reads.statements (only reads.statements reads.text) in
    let sound : AreSound [] (rams_of ss) = subst (λ (x : List Statement). AreSound [] (rams_of x)) same reads.sound in
    let whole : l ≡ library_of (rams_of ss) = reads.expansion ∙ ap (λ (x : List Statement). library_of (rams_of x)) same in
    let fits : IsWithinLimits (library_of (rams_of ss)) = subst (λ (x : Library). IsWithinLimits x) whole within in
    let e = reads_rams (rams_of ss) (faultless_of_within (rams_of ss) (rams_read ss) sound fits) in
    subst (λ (x : Result Library LibFault). GivesRead r x) (e ∙ same_ok (library_of (rams_of ss)) l (sym whole)) g

-- ---- faults

same_err : (f g : LibFault) → f ≡ g → ◌≡◌ {A = Result (List RamKind) LibFault} (Err f) (Err g)
same_err f g e = ap (λ (x : LibFault). Err x) e

err_by : (rams : List RawRam) (r : Result (List RamKind) LibFault) (f : LibFault) → read_kinds [] rams ≡ r → as_library r ≡ Err f → FaultBehind [] rams f
err_by rams (Ok ks) f e h = absurd (cc)
err_by rams (Err g) f e h = let q : g ≡ f = cc in fault_read [] rams f (e ∙ same_err g f q)

err_rams : (rams : List RawRam) (f : LibFault) → read_rams rams ≡ Err f → FaultBehind [] rams f
unfolding read_rams
err_rams rams f h = err_by rams (read_kinds [] rams) f refl h

fault_of_rams : (rams : List RawRam) (f : LibFault) → FaultBehind [] rams f → IsFaultOfRams rams f
fault_of_rams rams f p = record { before = p.before; ram = p.ram; behind = p.behind; parts = p.parts; none = p.none; own = p.own; line = p.line }

first_by : (c : LibCode) (bs : List ℕ) (ss : List Statement) (f : LibFault) → IsText bs ss → FailsAt c f (read_rams (rams_of ss)) → IsFaultBy c bs f
first_by code.Memory bs ss f t h = h
first_by c bs ss f t h = inr (ss, t, fault_of_rams (rams_of ss) f (err_rams (rams_of ss) f h))

pub is_first : (bs : List ℕ) (ss : List Statement) (r : Result Library LibFault) → IsText bs ss → GivesRead r (read_rams (rams_of ss)) → IfErr r (λ f. IsFault bs f)
is_first bs ss (Ok l) t g = tt
is_first bs ss (Err f) t g = first_by f.code bs ss f t g

pub first_of_tokens : (bs : List ℕ) (f : LibFault) → IsReadFault bs f → IsFault bs f
first_of_tokens bs f h = fault_of_tokens f.code bs f h
