-- The RAMs of a text one after the other: the library that they are, or the first one with a fault.
use Rattle.std.proofs.Common.{◌≡◌, ℕ, List, [], ◌∷◌, ◌++◌, Option, Some, None, Result, Ok, Err, refl, sym, ◌∙◌, ap, append_assoc, append-nil}
use Rattle.lib_core.specs.declared.library.RamKind.{RamKind}
use Rattle.lib_tree.specs.declared.fault.LibFault.{LibFault}
use Rattle.lib_judge.specs.declared.faults.RamFault.{RamFault}
use Rattle.lib_judge.specs.declared.raw.RawRam.{RawRam}
use Rattle.lib_judge.specs.Faults.{ram_fault}
use Rattle.lib_read.specs.Expansion.{kind_of, kinds_of}
use Rattle.lib_read.specs.Reading.{fault_at, kind_before, onto, read_kinds}
use Rattle.lib_read.specs.Reads.{AreFaultless, and_name, names_of}

pub read_nothing : (names : List (List ℕ)) → read_kinds names [] ≡ Ok []
unfolding read_kinds
read_nothing names = refl

pub read_next : (names : List (List ℕ)) (ram : RawRam) (rams : List RawRam) → ram_fault names ram ≡ None → read_kinds names (ram ∷ rams) ≡ onto (kind_of ram ∷ []) (read_kinds (and_name names ram) rams)
unfolding read_kinds
read_next names ram rams none = ap (λ (o : Option RamFault). kind_before ram o (read_kinds (and_name names ram) rams)) none

-- ---- what was read

all_read_by : (earlier : List (List ℕ)) (ram : RawRam) (rams : List RawRam) (ks : List RamKind) (o : Option RamFault) (r : Result (List RamKind) LibFault) → ram_fault earlier ram ≡ o → ((more : List RamKind) → r ≡ Ok more → (more ≡ kinds_of rams) × AreFaultless (and_name earlier ram) rams) → kind_before ram o r ≡ Ok ks → (ks ≡ kinds_of (ram ∷ rams)) × ((ram_fault earlier ram ≡ None) × AreFaultless (and_name earlier ram) rams)
all_read_by earlier ram rams ks None (Ok more) none ih h =
    let p = ih more refl in
    let e : kind_of ram ∷ more ≡ ks = cc in
    (sym e ∙ ap (λ (xs : List RamKind). kind_of ram ∷ xs) p.0, (none, p.1))
all_read_by earlier ram rams ks None (Err f) none ih h = absurd (cc)
all_read_by earlier ram rams ks (Some f) r some ih h = absurd (cc)

pub all_read : (earlier : List (List ℕ)) (rams : List RawRam) (ks : List RamKind) → read_kinds earlier rams ≡ Ok ks → (ks ≡ kinds_of rams) × AreFaultless earlier rams
unfolding read_kinds AreFaultless
all_read earlier [] ks h = let e : ◌≡◌ {A = List RamKind} [] ks = cc in (sym e, tt)
all_read earlier (ram ∷ rams) ks h =
    all_read_by earlier ram rams ks (ram_fault earlier ram) (read_kinds (and_name earlier ram) rams) refl
    (λ more. all_read (and_name earlier ram) rams more) h

pub faultless_reads : (earlier : List (List ℕ)) (rams : List RawRam) → AreFaultless earlier rams → read_kinds earlier rams ≡ Ok (kinds_of rams)
unfolding AreFaultless
faultless_reads earlier [] h = read_nothing earlier
faultless_reads earlier (ram ∷ rams) h =
    read_next earlier ram rams h.0
    ∙ ap (λ (r : Result (List RamKind) LibFault). onto (kind_of ram ∷ []) r) (faultless_reads (and_name earlier ram) rams h.1)

-- ---- the first fault

-- the first RAM with a fault, behind others with these names
pub record FaultBehind (earlier : List (List ℕ)) (rams : List RawRam) (f : LibFault) : Type 0 where
  pub before : List RawRam
  pub ram : RawRam
  pub behind : List RawRam
  pub parts : rams ≡ before ++ ram ∷ behind
  pub none : AreFaultless earlier before
  pub own : ram_fault (earlier ++ names_of before) ram ≡ Some (record { code = f.code; seen = f.seen })
  pub line : f.line ≡ ram.line

fault_parts : (f g : LibFault) → f ≡ g → ◌≡◌ {A = Option RamFault} (Some (record { code = f.code; seen = f.seen })) (Some (record { code = g.code; seen = g.seen }))
fault_parts f g e = ap (λ (x : LibFault). Some (record { code = x.code; seen = x.seen })) e

pub is_here : (earlier : List (List ℕ)) (ram : RawRam) (rams : List RawRam) (g : RamFault) (f : LibFault) → ram_fault earlier ram ≡ Some g → fault_at ram.line g ≡ f → FaultBehind earlier (ram ∷ rams) f
unfolding AreFaultless
is_here earlier ram rams g f some e = record {
  before = [];
  ram = ram;
  behind = rams;
  parts = refl;
  none = tt;
  own = ap (λ (names : List (List ℕ)). ram_fault names ram) (append-nil earlier) ∙ some ∙ fault_parts (fault_at ram.line g) f e;
  line = sym (ap (λ (x : LibFault). x.line) e);
}

pub is_behind : (earlier : List (List ℕ)) (ram : RawRam) (rams : List RawRam) (f : LibFault) → ram_fault earlier ram ≡ None → FaultBehind (and_name earlier ram) rams f → FaultBehind earlier (ram ∷ rams) f
unfolding AreFaultless
is_behind earlier ram rams f none p = record {
  before = ram ∷ p.before;
  ram = p.ram;
  behind = p.behind;
  parts = ap (λ (xs : List RawRam). ram ∷ xs) p.parts;
  none = (none, p.none);
  own = ap (λ (names : List (List ℕ)). ram_fault names p.ram) (sym (append_assoc earlier (ram.name ∷ []) (names_of p.before))) ∙ p.own;
  line = p.line;
}

fault_by : (earlier : List (List ℕ)) (ram : RawRam) (rams : List RawRam) (f : LibFault) (o : Option RamFault) (r : Result (List RamKind) LibFault) → ram_fault earlier ram ≡ o → (r ≡ Err f → FaultBehind (and_name earlier ram) rams f) → kind_before ram o r ≡ Err f → FaultBehind earlier (ram ∷ rams) f
fault_by earlier ram rams f None (Ok more) none ih h = absurd (cc)
fault_by earlier ram rams f None (Err g) none ih h = is_behind earlier ram rams f none (ih h)
fault_by earlier ram rams f (Some g) r some ih h = let e : fault_at ram.line g ≡ f = cc in is_here earlier ram rams g f some e

pub fault_read : (earlier : List (List ℕ)) (rams : List RawRam) (f : LibFault) → read_kinds earlier rams ≡ Err f → FaultBehind earlier rams f
unfolding read_kinds
fault_read earlier [] f h = absurd (cc)
fault_read earlier (ram ∷ rams) f h =
    fault_by earlier ram rams f (ram_fault earlier ram) (read_kinds (and_name earlier ram) rams) refl
    (λ e. fault_read (and_name earlier ram) rams f e) h
