-- The modules of a document one by one.
use Rattle.std.proofs.Common.{◌≡◌, ◌⊎◌, inl, inr, ℕ, ◌-◌, ◌≤◌, ◌<◌, length, get_or, take, drop, List, [], ◌∷◌, ◌++◌, sym, ap, subst, ◌∙◌, arith, append_assoc, append-nil}
use Rattle.rtlil_text.specs.Grammar.{All, HasNewItems}
use Rattle.rtlil_text.specs.Reads.{Writable}
use Rattle.rtlil_text.specs.declared.doc.Doc.{Doc}
use Rattle.rtlil_text.specs.declared.doc.DocModule.{DocModule}
use Rattle.lib_core.specs.declared.library.Library.{Library}
use Rattle.net_core.specs.declared.modules.Module.{Module}
use Rattle.net_wires.proofs.Places.{front}
use Rattle.net_build.specs.declared.fault.BuildFault.{BuildFault}
use Rattle.net_build.specs.Builds.{AreBuilt, FirstFails, IsBuilt, IsFaultIn, IsFaultOf, IsRefusal, IsWant}
use Rattle.net_build.specs.declared.fault.Refusal.{Refusal}
use Rattle.net_build.specs.declared.fault.Refusal.TheVariants as refusal
use Rattle.net_build.specs.Steps.{HasNewWires}

-- what is left behind the first
abbrev pub behind : List DocModule → List DocModule
behind rest = take (length rest - 1) (drop 1 rest)

-- one module more
more_built : (lib : Library) (ms all : List DocModule) (d : DocModule) (rest : List DocModule) (old new : List Module) (m : Module)
    → ((more : List Module) → AreBuilt lib ms (d ∷ rest) more → AreBuilt lib ms all (old ++ more)) → IsBuilt lib ms d m → new ≡ old ++ m ∷ []
    → (more : List Module) → AreBuilt lib ms rest more → AreBuilt lib ms all (new ++ more)
more_built lib ms all d rest old new m go here after more there =
    subst (AreBuilt lib ms all) (sym (ap (λ (xs : List Module). xs ++ more) after ∙ append_assoc old (m ∷ []) more)) (go (m ∷ more) (here, there))

pub built_turn : (lib : Library) (ms all rest : List DocModule) (d : DocModule) (old new : List Module) (m : Module) → 1 ≤ length rest → d ≡ get_or rest 0 d
    → ((more : List Module) → AreBuilt lib ms rest more → AreBuilt lib ms all (old ++ more)) → IsBuilt lib ms d m → new ≡ old ++ m ∷ []
    → (more : List Module) → AreBuilt lib ms (behind rest) more → AreBuilt lib ms all (new ++ more)
built_turn lib ms all rest d old new m h first go =
    more_built lib ms all d (behind rest) old new m (λ more there. go more (subst (λ (ds : List DocModule). AreBuilt lib ms ds more) (sym (front rest d h first)) there))

pub fault_turn : (lib : Library) (ms all rest : List DocModule) (d : DocModule) (m : Module) → 1 ≤ length rest → d ≡ get_or rest 0 d
    → ((f : BuildFault) → FirstFails lib ms rest f → FirstFails lib ms all f) → IsBuilt lib ms d m → (f : BuildFault) → FirstFails lib ms (behind rest) f → FirstFails lib ms all f
fault_turn lib ms all rest d m h first go here f there = go f (subst (λ (ds : List DocModule). FirstFails lib ms ds f) (sym (front rest d h first)) (inr ((m, here), there)))

pub new_turn : (rest : List DocModule) (d : DocModule) → 1 ≤ length rest → d ≡ get_or rest 0 d → All HasNewWires rest → HasNewWires d × All HasNewWires (behind rest)
new_turn rest d h first all = subst (All HasNewWires) (front rest d h first) all

pub fails_here : (lib : Library) (ms all rest : List DocModule) (d : DocModule) (f : BuildFault) → 1 ≤ length rest → d ≡ get_or rest 0 d
    → ((f : BuildFault) → FirstFails lib ms rest f → FirstFails lib ms all f) → IsFaultIn lib ms d f → FirstFails lib ms all f
fails_here lib ms all rest d f h first go here = go f (subst (λ (ds : List DocModule). FirstFails lib ms ds f) (sym (front rest d h first)) (inl here))

-- none is left
pub built_done : (lib : Library) (ms all rest : List DocModule) (old : List Module) → length rest < 1 → ((more : List Module) → AreBuilt lib ms rest more → AreBuilt lib ms all (old ++ more)) → AreBuilt lib ms all old
built_done lib ms all [] old h go = subst (AreBuilt lib ms all) (append-nil old) (go [] tt)
built_done lib ms all (d ∷ ds) old h go = absurd (omega arith)

-- a refusal of this module is the fault, unless memory ran out
pub fault_ends : (lib : Library) (ms all : List DocModule) (d : DocModule) (e : Refusal) (f : BuildFault) → IsRefusal lib ms d e → IsFaultOf d e f → (IsFaultIn lib ms d f → FirstFails lib ms all f) → IsWant f ⊎ FirstFails lib ms all f
fault_ends lib ms all d refusal.Memory f first want go = inl want
fault_ends lib ms all d (refusal.Broken r) f first (inl want) go = inl want
fault_ends lib ms all d (refusal.Broken r) f first (inr is) go = inr (go (r, first, is))

-- ---- documents that some text reads as

new_wires : (ds : List DocModule) → All (λ (m : DocModule). HasNewItems m.items) ds → All HasNewWires ds
new_wires [] h = tt
new_wires (d ∷ ds) h = (h.0.wires, new_wires ds h.1)

pub writable_new : (doc : Doc) → Writable doc → All HasNewWires doc.modules
writable_new doc w = new_wires doc.modules w.1.spelled.names.inside
