-- The first rule that is broken in a module is the first of its design.
use Rattle.std.proofs.Common.{◌≡◌, ℕ, ◌⊎◌, inl, inr, List, [], ◌∷◌, ◌++◌, map, Option, Some, ap, ◌∙◌, sym}
use Rattle.std.specs.Prelude.{slice_get}
use Rattle.net_core.specs.declared.modules.Module.{Module}
use Rattle.mem_collect.specs.declared.fault.CollectCode.TheVariants as code
use Rattle.mem_collect.specs.declared.fault.CollectFault.{CollectFault}
use Rattle.part_faults.specs.Faults.{part_faults}
use Rattle.net_collect.specs.declared.fault.DesignFault.{DesignFault}
use Rattle.net_collect.specs.Collected.{fault_in, faults_in, faults_of}

some_is : {A B : Type 0} (f : A → B) (x y : A) → ◌≡◌ {A = Option A} (Some x) (Some y) → ◌≡◌ {A = Option B} (Some (f x)) (Some (f y))
some_is f x y e = let s : x ≡ y = cc in ap (λ z. Some (f z)) s

first_mapped : (name : List ℕ) (fs : List CollectFault) (f : CollectFault) → slice_get fs 0 ≡ Some f → slice_get (map (fault_in name) fs) 0 ≡ Some (fault_in name f)
first_mapped name [] f e = absurd cc
first_mapped name (g ∷ gs) f e = some_is (fault_in name) g f e

pub named_fault : (m : Module) (name : List ℕ) (f : CollectFault) → name ≡ m.name → (f.code ≡ code.Memory) ⊎ (slice_get (part_faults m) 0 ≡ Some f)
    → (f.code ≡ code.Memory) ⊎ (slice_get (faults_of m) 0 ≡ Some (fault_in name f))
named_fault m name f e (inl a) = inl a
named_fault m name f e (inr b) = inr (first_mapped m.name (part_faults m) f b ∙ ap (λ n. Some (fault_in n f)) (sym e))

first_here : (fs gs : List DesignFault) (f : DesignFault) → slice_get fs 0 ≡ Some f → slice_get (fs ++ gs) 0 ≡ Some f
first_here [] gs f e = absurd cc
first_here (x ∷ xs) gs f e = e

pub first_refuses : (m : Module) (ms all : List Module) (f : DesignFault) → (f.fault.code ≡ code.Memory) ⊎ (slice_get (faults_of m) 0 ≡ Some f) → faults_in (m ∷ ms) ≡ faults_in all
    → (f.fault.code ≡ code.Memory) ⊎ (slice_get (faults_in all) 0 ≡ Some f)
first_refuses m ms all f (inl a) e = inl a
first_refuses m ms all f (inr b) e = inr (ap (λ fs. slice_get fs 0) (sym e) ∙ first_here (faults_of m) (faults_in ms) f b)
