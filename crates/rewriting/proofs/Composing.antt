-- Two rewritings of one memory make one.
use Rattle.std.proofs.Common.{◌≡◌, ℕ, ◌+◌, ◌*◌, ◌^◌, ◌<◌, ◌≤◌, Bool, true, false, ◌||◌, List, [], ◌++◌, set, zero, suc, ◌∷◌, refl, sym, ap, ◌∙◌, subst, arith}
use Rattle.std.proofs.lemmas.List.{append_assoc}
use Rattle.lib_core.specs.declared.library.Library.{Library}
use Rattle.net_core.specs.declared.mems.Mem.{Mem}
use Rattle.net_core.specs.declared.modules.Module.{Module}
use Rattle.net_core.specs.Ports.{Interface}
use Rattle.net_core.specs.Simulation.{SimulationsCompose}
use Rattle.geom_core.specs.Layout.{row_bits}
use Rattle.rewriting.specs.Keeping.{Lost, either_lost, KeepsPlaces, KeepsPorts}
use Rattle.rewriting.specs.Rewrites.{Room, both_rooms, GrowsBy, StandsAround, Rewrites}

first_not : (a b : Bool) → (a || b) ≡ false → a ≡ false
first_not true b h = h
first_not false b h = refl

second_not : (a b : Bool) → (a || b) ≡ false → b ≡ false
second_not true b h = cc
second_not false b h = h

set_twice : {X : Type 0} (xs : List X) (k : ℕ) (x y : X) → set (set xs k x) k y ≡ set xs k y
set_twice [] k x y = refl
set_twice (a ∷ xs) zero x y = refl
set_twice (a ∷ xs) (suc k) x y = ap (λ ys. a ∷ ys) (set_twice xs k x y)

sums_compose : (a b c m n : ℕ) → b ≤ a + m → c ≤ b + n → c ≤ a + (m + n)
sums_compose a b c m n f g = omega arith

at_most_trans : (a b c : ℕ) → b ≤ a → c ≤ b → c ≤ a
at_most_trans a b c f g = omega arith

at_least_trans : (a b c : ℕ) → a ≤ b → b ≤ c → a ≤ c
at_least_trans a b c f g = omega arith

sizes_compose : (room space : Room) (a b c : Module) → GrowsBy room a b → GrowsBy space b c → GrowsBy (both_rooms room space) a c
sizes_compose room space a b c f g = record {
  nets = sums_compose _ _ _ _ _ f.nets g.nets;
  bits = sums_compose _ _ _ _ _ f.bits g.bits;
  logic = sums_compose _ _ _ _ _ f.logic g.logic;
  silent = at_most_trans _ _ _ f.silent g.silent;
}

behind : {X : Type 0} (xs ys zs more rest : List X) → ys ≡ xs ++ more → zs ≡ ys ++ rest → zs ≡ xs ++ (more ++ rest)
behind xs ys zs more rest f g = g ∙ ap (λ w. w ++ rest) f ∙ append_assoc xs more rest

around_composes : (a b c : Module) → StandsAround a b → StandsAround b c → StandsAround a c
around_composes a b c f g = record {
  more_combs = f.more_combs ++ g.more_combs;
  more_regs = f.more_regs ++ g.more_regs;
  combs = behind a.combs b.combs c.combs f.more_combs g.more_combs f.combs g.combs;
  regs = behind a.regs b.regs c.regs f.more_regs g.more_regs f.regs g.regs;
  clocks = λ k h. f.clocks k (g.clocks k h);
  nets = at_least_trans a.nets b.nets c.nets f.nets g.nets;
  name = g.name ∙ f.name;
  attrs = g.attrs ∙ f.attrs;
  wires = g.wires ∙ f.wires;
  declared = g.declared ∙ f.declared;
  parts = g.parts ∙ f.parts;
  rams = g.rams ∙ f.rams;
  carried = g.carried ∙ f.carried;
}

places_compose : (x y z : Mem) (fold : ℕ) → KeepsPlaces x y fold → KeepsPlaces y z fold → KeepsPlaces x z fold
places_compose x y z fold f g =
    let same : row_bits x fold ≡ row_bits y fold = ap (λ w. w * 2 ^ fold) (sym f.width) in
    record {
      width = g.width ∙ f.width;
      alike = λ p q hp hq e. g.alike p q (subst (λ n. p < n) same hp) (subst (λ n. q < n) same hq) (f.alike p q hp hq e);
    }

ports_compose : (lost more : Lost) (x y z : Mem) → KeepsPorts lost x y → KeepsPorts more y z → KeepsPorts (either_lost lost more) x z
ports_compose lost more x y z f g = record {
  folds = λ fold h. places_compose x y z fold (f.folds fold (first_not (lost.folds fold) (more.folds fold) h)) (g.folds fold (second_not (lost.folds fold) (more.folds fold) h));
  enables = λ l h one. g.enables l (second_not (lost.enables l) (more.enables l) h) (f.enables l (first_not (lost.enables l) (more.enables l) h) one);
  addresses = λ h p q e. g.addresses (second_not lost.addresses more.addresses h) p q (f.addresses (first_not lost.addresses more.addresses h) p q e);
}

pub rewritings_compose : SimulationsCompose → (lib : Library) (modules : List Interface) (k : ℕ) (x y z : Mem) (lost more : Lost) (room space : Room) (a b c : Module) → Rewrites lib modules k x y lost room a b → Rewrites lib modules k y z more space b c → Rewrites lib modules k x z (either_lost lost more) (both_rooms room space) a c
rewritings_compose compose lib modules k x y z lost more room space a b c one two = record {
  was = one.was;
  is = two.is ∙ ap (λ ms. set ms k z) one.is ∙ set_twice a.mems k y z;
  kept = ports_compose lost more x y z one.kept two.kept;
  around = around_composes a b c one.around two.around;
  size = sizes_compose room space a b c one.size two.size;
  simulates = compose lib modules [] [] a b c one.simulates two.simulates;
  ordered = λ o. two.ordered (one.ordered o);
  valid = λ v. two.valid (one.valid v);
  guarded = λ not_lost h. two.guarded (second_not lost.guard more.guard not_lost) (one.guarded (first_not lost.guard more.guard not_lost) h);
  quiet = λ j l not_lost h. two.quiet j l (second_not (lost.quiet j l) (more.quiet j l) not_lost) (one.quiet j l (first_not (lost.quiet j l) (more.quiet j l) not_lost) h);
}
