-- What the tests of a module show.
use Rattle.std.proofs.Common.{◌≡◌, ◌↔◌, ℕ, ◌<◌, ◌≤◌, Bool, true, ◌&&◌, [], length, Option, Some, None, slice_get, refl, sym, ap, ◌∙◌, arith}
use Rattle.std.specs.Prelude.{nat_lt}
use Rattle.std.specs.List.{list_all}
use Rattle.std.specs.Option.{option_and_then}
use Rattle.std.proofs.lemmas.Bool.{ltb-true}
use Rattle.std.proofs.lemmas.Option.{none-some}
use Rattle.lib_core.specs.declared.library.Library.{Library}
use Rattle.lib_core.specs.declared.library.RamKind.{RamKind}
use Rattle.lib_core.specs.declared.library.Variant.{Variant}
use Rattle.net_core.specs.declared.rams.RamCell.{RamCell}
use Rattle.net_core.specs.declared.modules.Module.{Module}
use Rattle.net_core.specs.Ports.{outputs_of}
use Rattle.net_core.specs.Runs.{variant_of}
use Rattle.net_core.specs.Shape.{fits_variant, fits_library}
use Rattle.net_core.proofs.Basics.{and_left, and_right, both, all_at}
use Rattle.fit_rules.specs.Judging as judging
use Rattle.fit_rules.specs.Limits.{LibraryLimits, VariantLimits}
use Rattle.net_live.specs.Driving.{bit_below}
use Rattle.net_live.specs.Sound.{IsTestable}
use Rattle.net_live.proofs.Judged.{each_all}
use Rattle.net_live.proofs.Needing.{net_below, bits_pass}
use Rattle.picked_run.specs.Conditions.{CanRun, RamRuns, VariantRuns}
use Rattle.sim_flow.specs.Testing.{ram_runs, some_widths, HasCounts, OutputsWithin}
use Rattle.sim_flow.proofs.Limited.{library_passes}

outputs_are : (m : Module) → list_all (bit_below m.nets) (outputs_of m) ≡ true → OutputsWithin m
outputs_are m outs = record { each = λ n has. net_below m.nets (record { drives = []; needs = outputs_of m }) outs n has }

pub outputs_told : (m : Module) (within : Bool) → within ≡ list_all (bit_below m.nets) (outputs_of m) → (within ≡ true) ↔ OutputsWithin m
outputs_told m within is = (λ h. outputs_are m (sym is ∙ h), λ outs. is ∙ bits_pass m.nets (outputs_of m) outs.each)

-- the variant of a cell is within the limits of its library
from_ram : (lib : Library) (c : RamCell) (o : Option RamKind) (x : Variant) → LibraryLimits lib → slice_get lib.rams c.ram ≡ o → option_and_then (λ (k : RamKind). slice_get k.variants c.variant) o ≡ Some x → VariantLimits x
from_ram lib c None x limits at is = absurd (none-some x is)
from_ram lib c (Some k) x limits at is = (limits.each c.ram k at).each c.variant x is

limited : (lib : Library) (c : RamCell) (x : Variant) → LibraryLimits lib → variant_of lib c ≡ Some x → VariantLimits x
limited lib c x limits is = from_ram lib c (slice_get lib.rams c.ram) x limits refl is

has_width : (x : Variant) → some_widths (Some x) ≡ true → 1 ≤ length x.widths
has_width x h = omega (arith, ltb-true 0 (length x.widths) h)

variant_runs : (x : Variant) → VariantLimits x → some_widths (Some x) ≡ true → VariantRuns x
variant_runs x limits some = record {
  sized = limits.sized;
  some_widths = has_width x some;
  few_widths = limits.few_widths;
  groups = omega (arith, limits.groups);
}

ram_is : (lib : Library) (c : RamCell) → LibraryLimits lib → ram_runs lib c ≡ true → RamRuns lib c
ram_is lib c limits h =
    let few = nat_lt (length c.slots) 4294967295 in
    let some = some_widths (variant_of lib c) in
    let rest = and_right (fits_library lib c) (few && some) h in
    record {
      fits = and_left (fits_library lib c) (few && some) h;
      slots = omega (arith, ltb-true (length c.slots) 4294967295 (and_left few some rest));
      variant = λ x is. variant_runs x (limited lib c x limits is) (sym (ap some_widths is) ∙ and_right few some rest);
    }

-- the other way: a cell that can be simulated passes; one without a variant fits no library
lt_true : (a b : ℕ) → a < b → nat_lt a b ≡ true
lt_true a b h = grind arith

some_passes : (c : RamCell) (o : Option Variant) → fits_variant c o ≡ true → ((x : Variant) → o ≡ Some x → VariantRuns x) → some_widths o ≡ true
some_passes c None fits runs = cc
some_passes c (Some x) fits runs = lt_true 0 (length x.widths) (omega (arith, (runs x refl).some_widths))

ram_passes : (lib : Library) (c : RamCell) → RamRuns lib c → ram_runs lib c ≡ true
ram_passes lib c runs =
    let few = nat_lt (length c.slots) 4294967295 in
    let some = some_widths (variant_of lib c) in
    both (fits_library lib c) (few && some) runs.fits (both few some (lt_true (length c.slots) 4294967295 (omega (arith, runs.slots))) (some_passes c (variant_of lib c) runs.fits runs.variant))

-- what a module that can be simulated passes
pub runs_limits : (lib : Library) (m : Module) → LibraryLimits lib × CanRun lib m → judging.library_within lib ≡ true
runs_limits lib m (limits, runs) = library_passes lib limits

pub runs_rams : (lib : Library) (m : Module) → LibraryLimits lib × CanRun lib m → list_all (ram_runs lib) m.rams ≡ true
runs_rams lib m (limits, runs) = each_all (ram_runs lib) (RamRuns lib) (ram_passes lib) m.rams runs.rams

pub runs_counts : (lib : Library) (m : Module) → LibraryLimits lib × CanRun lib m → HasCounts m
runs_counts lib m (limits, runs) = record { few_mems = runs.few_mems; few_rams = runs.few_rams }

pub runs_outputs : (lib : Library) (m : Module) → LibraryLimits lib × CanRun lib m → OutputsWithin m
runs_outputs lib m (limits, runs) = record { each = runs.outputs }

runs_testable : (lib : Library) (m : Module) → CanRun lib m → IsTestable lib m
runs_testable lib m runs = record {
  sound = record {
    no_parts = runs.parts;
    no_declared = runs.declared;
    mems = runs.mems;
    within = runs.nets;
    one_driver = runs.driven;
    reads_agree = runs.reads_agree;
    ordered = runs.ordered;
  };
  few = runs.few_nodes;
  inputs = runs.inputs;
}

runs_are : (lib : Library) (m : Module) → LibraryLimits lib → list_all (ram_runs lib) m.rams ≡ true → HasCounts m → OutputsWithin m → IsTestable lib m → CanRun lib m
runs_are lib m limits rams counts outs testable = record {
  declared = testable.sound.no_declared;
  parts = testable.sound.no_parts;
  nets = testable.sound.within;
  inputs = testable.inputs;
  outputs = outs.each;
  driven = testable.sound.one_driver;
  reads_agree = testable.sound.reads_agree;
  ordered = testable.sound.ordered;
  few_nodes = testable.few;
  mems = testable.sound.mems;
  few_mems = counts.few_mems;
  rams = λ i c at. ram_is lib c limits (all_at (ram_runs lib) m.rams rams i c at);
  few_rams = counts.few_rams;
}

pub runs_told : (lib : Library) (m : Module) (sound : Bool) → LibraryLimits lib → list_all (ram_runs lib) m.rams ≡ true → HasCounts m → OutputsWithin m → (sound ≡ true) ↔ IsTestable lib m → (sound ≡ true) ↔ (LibraryLimits lib × CanRun lib m)
runs_told lib m sound limits rams counts outs told = (λ h. (limits, runs_are lib m limits rams counts outs (told.0 h)), λ (within, runs). told.1 (runs_testable lib m runs))
