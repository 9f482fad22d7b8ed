-- What the tests say, put together.
use Rattle.std.proofs.Common.{◌≡◌, ◌↔◌, zero, suc, ◌-◌, ◌<◌, ◌≤◌, ◌^◌, Bool, true, ◌&&◌, List, [], ◌∷◌, length, take, drop, get_or, refl, sym, ap, subst, ◌∙◌, arith}
use Rattle.std.specs.List.{list_all}
use Rattle.std.proofs.Math.Seq.{take-length}
use Rattle.std.proofs.lemmas.Option.{none-some, same_Some}
use Rattle.lib_core.specs.declared.library.Library.{Library}
use Rattle.net_core.specs.declared.modules.Design.{Design}
use Rattle.net_core.specs.declared.modules.Module.{Module}
use Rattle.net_core.specs.Nodes.{nodes_of, Ordered}
use Rattle.net_core.specs.Ports.{inputs_of}
use Rattle.net_core.specs.Valid.{Each}
use Rattle.net_core.proofs.Basics.{and_left, and_right, both, get_left}
use Rattle.net_live.specs.Driving.{needs_below, node_nets, driven_nets, AreBelowApart}
use Rattle.net_live.specs.Fitting.{is_empty, mem_fits}
use Rattle.net_live.specs.Slots.{cell_agrees}
use Rattle.net_live.specs.Sound.{IsFormed, IsWired, IsTestable, IsSoundDesign, IsTestableDesign, is_whole, is_formed}
use Rattle.net_live.proofs.Apart.{below_apart}
use Rattle.net_live.proofs.Drivers.{one_driver, nets_within}
use Rattle.net_live.proofs.Fits.{empty_is, mems_are}
use Rattle.net_live.proofs.Fitted.{empty_passes, mems_pass}
use Rattle.net_live.proofs.Needing.{needs_pass}
use Rattle.net_live.proofs.Slotting.{cells_are, cells_pass}

formed_is : (lib : Library) (m : Module) → is_formed lib m ≡ true → IsFormed lib m
formed_is lib m h =
    let fit = list_all mem_fits m.mems in
    let agree = list_all (cell_agrees lib) m.rams in
    let is = and_left (is_whole m) (fit && agree) h in
    let rest = and_right (is_whole m) (fit && agree) h in
    record {
      no_parts = empty_is m.parts (and_left (is_empty m.parts) (is_empty m.declared) is);
      no_declared = empty_is m.declared (and_right (is_empty m.parts) (is_empty m.declared) is);
      mems = mems_are m.mems (and_left fit agree rest);
      reads_agree = cells_are lib m (and_right fit agree rest);
    }

formed_passes : (lib : Library) (m : Module) → IsFormed lib m → is_formed lib m ≡ true
formed_passes lib m formed =
    let fit = list_all mem_fits m.mems in
    let agree = list_all (cell_agrees lib) m.rams in
    let whole = both (is_empty m.parts) (is_empty m.declared) (empty_passes m.parts formed.no_parts) (empty_passes m.declared formed.no_declared) in
    both (is_whole m) (fit && agree) whole (both fit agree (mems_pass m.mems formed.mems) (cells_pass lib m formed.reads_agree))

-- what gives the value of the test tells of the module exactly
pub formed_told : (lib : Library) (m : Module) (b : Bool) → b ≡ is_formed lib m → (b ≡ true) ↔ IsFormed lib m
formed_told lib m b e = subst (λ c. (c ≡ true) ↔ IsFormed lib m) (sym e) (formed_is lib m, formed_passes lib m)

pub wired_is : (m : Module) → list_all (needs_below m.nets) (nodes_of m) ≡ true → length (nodes_of m) < 2 ^ 32 → AreBelowApart m.nets (driven_nets m) → IsWired m
wired_is m needs few driven = record {
  within = nets_within m driven needs;
  few = few;
  inputs = λ k n at. driven.below k n (get_left (inputs_of m) (node_nets m) k n at);
  one_driver = one_driver m driven.apart;
}

pub wired_needs : (m : Module) → IsWired m → list_all (needs_below m.nets) (nodes_of m) ≡ true
wired_needs m wired = needs_pass m wired.within

pub wired_apart : (m : Module) → IsWired m → AreBelowApart m.nets (driven_nets m)
wired_apart m wired = below_apart m wired.within wired.inputs wired.one_driver

pub wired_told : (m : Module) (once : Bool) → list_all (needs_below m.nets) (nodes_of m) ≡ true → length (nodes_of m) < 2 ^ 32 → (once ≡ true) ↔ AreBelowApart m.nets (driven_nets m) → (once ≡ true) ↔ IsWired m
wired_told m once needs few told = (λ is. wired_is m needs few (told.0 is), λ wired. told.1 (wired_apart m wired))

testable_is : (lib : Library) (m : Module) → IsFormed lib m → IsWired m → Ordered m → IsTestable lib m
testable_is lib m formed wired ordered = record {
  sound = record {
    no_parts = formed.no_parts;
    no_declared = formed.no_declared;
    mems = formed.mems;
    within = wired.within;
    one_driver = wired.one_driver;
    reads_agree = formed.reads_agree;
    ordered = ordered;
  };
  few = wired.few;
  inputs = wired.inputs;
}

pub testable_formed : (lib : Library) (m : Module) → IsTestable lib m → IsFormed lib m
testable_formed lib m testable = record {
  no_parts = testable.sound.no_parts;
  no_declared = testable.sound.no_declared;
  mems = testable.sound.mems;
  reads_agree = testable.sound.reads_agree;
}

pub testable_wired : (lib : Library) (m : Module) → IsTestable lib m → IsWired m
testable_wired lib m testable = record {
  within = testable.sound.within;
  few = testable.few;
  inputs = testable.inputs;
  one_driver = testable.sound.one_driver;
}

pub testable_told : (lib : Library) (m : Module) (ordered : Bool) → IsFormed lib m → IsWired m → (ordered ≡ true) ↔ Ordered m → (ordered ≡ true) ↔ IsTestable lib m
testable_told lib m ordered formed wired told = (λ is. testable_is lib m formed wired (told.0 is), λ testable. told.1 testable.sound.ordered)

pub each_more : {X : Type 0} (P : X → Type 0) (x : X) (xs : List X) → P x → Each xs P → Each (x ∷ xs) P
each_more P x xs h each zero y g = subst P (same_Some x y g) h
each_more P x xs h each (suc i) y g = each i y g

pub each_none : {X : Type 0} (P : X → Type 0) (xs : List X) → length xs < 1 → Each xs P
each_none P [] h i x g = absurd (none-some x g)
each_none P (y ∷ ys) h i x g = absurd (omega (arith, h))

-- a step through a list: its first item, and what is behind it
pub each_step : {X : Type 0} (P : X → Type 0) (xs : List X) (x : X) → 1 ≤ length xs → x ≡ get_or xs 0 x → P x → Each (take (length xs - 1) (drop 1 xs)) P → Each xs P
each_step P [] x some is first behind = absurd (omega (arith, some))
each_step P (y ∷ ys) x some is first behind =
    let e : suc (length ys) - 1 ≡ length ys = omega arith in
    let all : take (suc (length ys) - 1) ys ≡ ys = ap (λ n. take n ys) e ∙ take-length ys in
    each_more P y ys (subst P is first) (subst (λ zs. Each zs P) all behind)

-- the other way: what holds of each holds of the first, and of each behind it
pub first_of_each : {X : Type 0} (P : X → Type 0) (xs : List X) (x : X) → 1 ≤ length xs → x ≡ get_or xs 0 x → Each xs P → P x
first_of_each P [] x some is each = absurd (omega (arith, some))
first_of_each P (y ∷ ys) x some is each = subst P (sym is) (each 0 y refl)

pub behind_each : {X : Type 0} (P : X → Type 0) (xs : List X) → 1 ≤ length xs → Each xs P → Each (take (length xs - 1) (drop 1 xs)) P
behind_each P [] some each = absurd (omega (arith, some))
behind_each P (y ∷ ys) some each =
    let e : suc (length ys) - 1 ≡ length ys = omega arith in
    let all : take (suc (length ys) - 1) ys ≡ ys = ap (λ n. take n ys) e ∙ take-length ys in
    subst (λ zs. Each zs P) (sym all) (λ i x at. each (suc i) x at)

pub design_sound : (lib : Library) (d : Design) → IsTestableDesign lib d → IsSoundDesign lib d
design_sound lib d testable = λ i m at. (testable i m at).sound
