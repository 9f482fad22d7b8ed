-- The codes of faults: the fault of a RAM is never want of memory.
use Rattle.std.proofs.Common.{◌≡◌, ℕ, Bool, true, false, List, Option, Some, None, Result, Ok, Err, subst, inl, inr, ◌||◌, ◌==◌, length}
use Rattle.lib_tree.specs.declared.fault.LibCode.{LibCode}
use Rattle.lib_tree.specs.declared.fault.LibCode.TheVariants as code
use Rattle.lib_tree.specs.declared.fault.LibFault.{LibFault}
use Rattle.lib_tree.specs.Faults.{IsReadFaultBy}
use Rattle.lib_tree.specs.Reading.{FailsAt}
use Rattle.lib_judge.specs.declared.faults.RamFault.{RamFault}
use Rattle.lib_judge.specs.declared.raw.RawRam.{RawRam}
use Rattle.lib_judge.specs.Faults.{all_options, any_bad, any_missing, any_twice, first_of, judges_of, limit_of, named_twice, ram_fault, rows_to_judge}
use Rattle.lib_judge.specs.Names.{names_of_all}
use Rattle.lib_judge.specs.Variants.{capped_count}
use Rattle.lib_read.specs.Reads.{IsFaultBy, IsRamFault}

abbrev pub IsNoMemory : LibCode → Type 0
IsNoMemory code.Memory = ⊥
IsNoMemory c = Unit {0}

no_memory_at : (c : LibCode) (n : ℕ) (f : RamFault) → IsNoMemory c → Some (record { code = c; seen = n }) ≡ Some f → IsNoMemory f.code
no_memory_at c n f h e = let p : record { code = c; seen = n } ≡ f = cc in subst (λ (x : RamFault). IsNoMemory x.code) p h

first_no_memory : (a b c : Bool) (l : Option ℕ) (f : RamFault) → first_of a b c l ≡ Some f → IsNoMemory f.code
first_no_memory true b c l f h = no_memory_at code.Twice 0 f tt h
first_no_memory false true c l f h = no_memory_at code.Missing 0 f tt h
first_no_memory false false true l f h = no_memory_at code.BadWidths 0 f tt h
first_no_memory false false false None f h = absurd (cc)
first_no_memory false false false (Some n) f h = no_memory_at code.Limit n f tt h

pub never_memory : (earlier : List (List ℕ)) (ram : RawRam) (f : RamFault) → ram_fault earlier ram ≡ Some f → IsNoMemory f.code
never_memory earlier ram f h =
    let js = judges_of ram (rows_to_judge (all_options ram)) in
    first_no_memory (named_twice earlier ram (names_of_all ram.ports) || any_twice js) ((length ram.ports == 0) || any_missing js) (any_bad js) (limit_of (length earlier) (capped_count 1 (all_options ram)) ram.ports js) f h

pub fails_by : {X : Type 0} (c : LibCode) (f : LibFault) (r : Result X LibFault) → IsNoMemory c → r ≡ Err f → FailsAt c f r
fails_by code.Memory f r n h = absurd n
fails_by c f r n h = h

pub fault_of_rams : (c : LibCode) (bs : List ℕ) (f : LibFault) → IsNoMemory c → IsRamFault bs f → IsFaultBy c bs f
fault_of_rams code.Memory bs f n h = absurd n
fault_of_rams c bs f n h = inr h

pub fault_of_tokens : (c : LibCode) (bs : List ℕ) (f : LibFault) → IsReadFaultBy c bs f → IsFaultBy c bs f
fault_of_tokens code.Memory bs f h = h
fault_of_tokens c bs f h = inl h

-- what gives a result fails at nothing but want of memory
pub fails_as_memory : {X : Type 0} (c : LibCode) (f : LibFault) (x : X) (r : Result X LibFault) → r ≡ Ok x → FailsAt c f r → f ≡ record { line = 0; code = code.Memory; seen = 0 }
fails_as_memory code.Memory f x r e h = h
fails_as_memory c f x r e h = absurd (cc)
