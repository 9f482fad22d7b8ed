-- What is known of the other memories of a module stays known while one is rewritten.
use Rattle.std.proofs.Common.{◌≡◌, ℕ, ◌<◌, List, [], refl, sym, ap, ◌∙◌, subst}
use Rattle.std.specs.Prelude.{slice_get}
use Rattle.lib_core.specs.declared.library.Library.{Library}
use Rattle.net_core.specs.declared.mems.Mem.{Mem}
use Rattle.net_core.specs.declared.mems.RdPort.{RdPort}
use Rattle.net_core.specs.declared.mems.WrPort.{WrPort}
use Rattle.net_core.specs.declared.modules.Module.{Module}
use Rattle.net_core.specs.Memory.{base_of}
use Rattle.net_core.specs.Ports.{Interface}
use Rattle.net_core.specs.Simulation.{Simulates}
use Rattle.net_core.specs.Values.{Valuation, value_of, values_of, bit_at}
use Rattle.net_core.proofs.Searching.{get_set_other}
use Rattle.rewriting.specs.Keeping.{Lost}
use Rattle.rewriting.specs.Known.{WritesInside, IsGuarded, AreQuiet}
use Rattle.rewriting.specs.Laws.{StaysKnown}
use Rattle.rewriting.specs.Rewrites.{Room, Rewrites}

-- a write that is inside stays so, in a module whose runs are runs of the old one
pub inside_stays : (lib : Library) (modules : List Interface) (a b : Module) (x : Mem) (w : WrPort) → Simulates lib modules [] a b → WritesInside lib a x w → WritesInside lib b x w
inside_stays lib modules a b x w s inside events v run t e at k h =
    let r = s.runs events v run in
    let same : v t ≡ r.wave t = λ i n. r.same t n refl i in
    subst (λ (u : Valuation). base_of u w.addr < x.size) (sym same) (inside events r.wave r.run t e at k (ap (λ (u : Valuation). bit_at (values_of u w.en) k) (sym same) ∙ h))

pub quiet_stays : (lib : Library) (modules : List Interface) (a b : Module) (r : RdPort) (w : WrPort) → Simulates lib modules [] a b → AreQuiet lib a r w → AreQuiet lib b r w
quiet_stays lib modules a b r w s quiet events v run t e at on k =
    let q = s.runs events v run in
    let same : v t ≡ q.wave t = λ i n. q.same t n refl i in
    ap (λ (u : Valuation). bit_at (values_of u w.en) k) same ∙ quiet events q.wave q.run t e at (ap (λ (u : Valuation). value_of u r.en) (sym same) ∙ on) k

pub guard_stays : (lib : Library) (modules : List Interface) (a b : Module) (x : Mem) → Simulates lib modules [] a b → IsGuarded lib a x → IsGuarded lib b x
guard_stays lib modules a b x s g = record {
  offset = g.offset;
  enough = g.enough;
  least = g.least;
  inside = λ l w h. inside_stays lib modules a b x w s (g.inside l w h);
}

pub others_stay_known : (lib : Library) (modules : List Interface) (k : ℕ) (x y : Mem) (lost : Lost) (room : Room) (a b : Module) → Rewrites lib modules k x y lost room a b → (i : ℕ) → (i ≡ k → ⊥) → StaysKnown lib i a b
others_stay_known lib modules k x y lost room a b r i other = record {
  stands = ap (λ ms. slice_get ms i) r.is ∙ get_set_other a.mems k i y other;
  guarded = λ z g. guard_stays lib modules a b z r.simulates g;
  quiet = λ z j l q p w hp hw. quiet_stays lib modules a b p w r.simulates (q p w hp hw);
}
