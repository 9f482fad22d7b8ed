-- What the steps of building a module come to.
use Rattle.std.proofs.Common.{rules, ◌≡◌, ◌⊎◌, inl, inr, ℕ, Bool, List, [], ◌∷◌, map, length, Result, Ok, Err, refl, sym, ap, subst, ◌∙◌}
use Rattle.lib_core.specs.declared.library.Library.{Library}
use Rattle.net_core.specs.declared.modules.Module.{Module}
use Rattle.net_core.specs.Nodes.{Node}
use Rattle.rtlil_text.specs.declared.doc.DocModule.{DocModule}
use Rattle.rtlil_text.specs.declared.doc.Item.{Item}
use Rattle.net_loops.specs.Loops.{HaveOrder, IsFirstLoop, node_of}
use Rattle.net_wires.specs.declared.clock.ClockRoot.{ClockRoot}
use Rattle.net_wires.specs.declared.link.Link.{Link}
use Rattle.net_wires.specs.declared.number.Nets.{Nets}
use Rattle.net_wires.specs.Clocks.{AreClocks}
use Rattle.net_wires.specs.Links.{links_of}
use Rattle.net_wires.specs.Nets.{InOrder, Resolves, Solves}
use Rattle.net_wires.specs.Numbers.{nets}
use Rattle.net_wires.specs.Ties.{Marks}
use Rattle.net_wires.proofs.Ordering.{in_order}
use Rattle.net_wires.proofs.Ready.{length_links}
use Rattle.net_wires.proofs.Saying.{says}
use Rattle.net_wires.proofs.Solving.{solves}
use Rattle.cell_rows.specs.Kinds.{found}
use Rattle.net_gather.specs.declared.fault.Fault.{Fault}
use Rattle.net_gather.specs.declared.fault.Halt.{Halt}
use Rattle.net_gather.specs.declared.fault.Halt.TheVariants as gather_halt
use Rattle.net_gather.specs.Faults.{Halts}
use Rattle.net_gather.specs.declared.gathering.Gathered.{Gathered}
use Rattle.net_gather.specs.Gather.{context, faults_of, gathered}
use Rattle.net_checks.specs.declared.fault.ModuleFault.{ModuleFault}
use Rattle.net_checks.specs.declared.fault.ModuleHalt.{ModuleHalt}
use Rattle.net_checks.specs.declared.fault.ModuleHalt.TheVariants as halt
use Rattle.net_checks.specs.declared.inouts.Inouts.{Inouts}
use Rattle.net_checks.specs.Finds.{FindsFirst}
use Rattle.net_checks.specs.Laws.{AnswersAreThere, GatheredIsSound}
use Rattle.net_checks.specs.Names.{fault_of}
use Rattle.net_checks.specs.declared.checking.Checked.{Checked}
use Rattle.net_checks.specs.Checks.{checks_of, IsChecked, IsSound, module_links}
use Rattle.net_checks.specs.ClockPins.{clock_drives}
use Rattle.net_module.specs.declared.assembly.Assembled.{Assembled}
use Rattle.net_module.specs.Assembly.{module_of, rams_of}
use Rattle.net_module.specs.Nodes.{Assembles, memories_in, nodes_in, owners_in}
use Rattle.net_build.specs.declared.module.Around.{Around}
use Rattle.net_build.specs.declared.fault.Refusal.{Refusal}
use Rattle.net_build.specs.declared.fault.Refusal.TheVariants as refusal
use Rattle.net_build.specs.declared.fault.Refused.{Refused}
use Rattle.net_build.specs.Builds.{BuildsModule, IsRefusal}
use Rattle.net_build.specs.Faults.{AreChecked, gather_faults, IsFaultless, IsLoopFault, loop_names, looped, refused}
use Rattle.net_build.specs.Means.{context_in, gathered_in, IsMeant, IsWired, wiring_of}
use Rattle.net_build.specs.Steps.{Checks, Gathers, IsAround, IsSoFar, Orders, Refuses, RefusesAt, RefusesHalt, RefusesModule}
use Rattle.net_build.proofs.Contexts.{context_is}

pub refused_first : (lib : Library) (modules : List DocModule) (d : DocModule) (e : Refusal) → Refuses (gather_faults lib modules d) e → IsRefusal lib modules d e
refused_first lib modules d refusal.Memory h = tt
refused_first lib modules d (refusal.Broken r) h = inl h

checked_by : (a : Around) (d : DocModule) (g : Gathered) → IsAround a → g ≡ gathered_in a.library.now a.modules.now d → (result : Result Checked Refusal) (h : Checks a.inouts.now d g result)
    → AreChecked a.library.now a.modules.now d (checks_of a.inouts.now d.items g h.clocks h.rings)
checked_by a d g around e result h = record {
  inouts = a.inouts.now;
  shows = around.inouts;
  clocks = h.clocks;
  are_clocks = subst (λ (k : Gathered). AreClocks (module_links k) (clock_drives d.items k) h.clocks) e h.are_clocks;
  rings = h.rings;
  are_rings = subst (λ (k : Gathered). Marks (module_links k) h.rings) e h.are_rings;
  is = λ i. checks_of a.inouts.now d.items (e i) h.clocks h.rings;
}

pub refused_checked : (a : Around) (d : DocModule) (g : Gathered) (e : Refusal) → IsAround a → g ≡ gathered_in a.library.now a.modules.now d → gather_faults a.library.now a.modules.now d ≡ [] → Checks a.inouts.now d g (Err e)
    → IsRefusal a.library.now a.modules.now d e
refused_checked a d g refusal.Memory around same none h = tt
refused_checked a d g (refusal.Broken r) around same none h = inr (none, inl (checks_of a.inouts.now d.items g h.clocks h.rings, checked_by a d g around same (Err (refusal.Broken r)) h, h.is))

-- ---- single steps

gather_none : (a : Around) (d : DocModule) → IsAround a → faults_of (context a.library.now (λ n. found a.rams.now n) a.faces.now d.items) d.items ≡ [] → gather_faults a.library.now a.modules.now d ≡ []
gather_none a d around none = (λ i. map (fault_of d.items) (faults_of (sym (context_is a.library.now (λ n. found a.rams.now n) a.faces.now a.modules.now d around.rams around.faces) i) d.items)) ∙ ap (map (fault_of d.items)) none

pub gathers_ok : (a : Around) (d : DocModule) (g : Gathered) → IsAround a → faults_of (context a.library.now (λ n. found a.rams.now n) a.faces.now d.items) d.items ≡ []
    → g ≡ gathered (context a.library.now (λ n. found a.rams.now n) a.faces.now d.items) d.items → Gathers a.library.now a.modules.now d (Ok g)
gathers_ok a d g around none is = (gather_none a d around none, is ∙ (λ i. gathered (context_is a.library.now (λ n. found a.rams.now n) a.faces.now a.modules.now d around.rams around.faces i) d.items))

gathers_err : (a : Around) (d : DocModule) (f : Fault) (rest : List Fault) (e : Refusal) → IsAround a → faults_of (context a.library.now (λ n. found a.rams.now n) a.faces.now d.items) d.items ≡ f ∷ rest → RefusesAt (fault_of d.items f) e
    → Gathers a.library.now a.modules.now d (Err e)
gathers_err a d f rest refusal.Memory around is h = tt
gathers_err a d f rest (refusal.Broken r) around is h =
    (fault_of d.items f, map (fault_of d.items) rest, (λ i. map (fault_of d.items) (faults_of (sym (context_is a.library.now (λ n. found a.rams.now n) a.faces.now a.modules.now d around.rams around.faces) i) d.items)) ∙ ap (map (fault_of d.items)) is, h)

-- where places lead, and which lie on rings
abbrev pub FindingAt : Inouts → List Item → Gathered → Result Checked ModuleHalt → Type 0
FindingAt x is g result =
    (clocks : List ClockRoot) (rings : List Bool) → AreClocks (module_links g) (clock_drives is g) clocks → Marks (module_links g) rings → FindsFirst result (checks_of x is g clocks rings) (IsChecked g clocks)

abbrev pub Finding : Inouts → DocModule → Gathered → Result Checked ModuleHalt → Type 0
Finding x d g result = FindingAt x d.items g result

pub checks_ok : (x : Inouts) (d : DocModule) (g : Gathered) (made : Checked) → IsSound d.items g → AnswersAreThere → Finding x d g (Ok made) → Checks x d g (Ok made)
checks_ok x d g made sound there find =
    let t = there d.items g sound in
    record { clocks = t.0.0; are_clocks = t.0.1; rings = t.1.0; are_rings = t.1.1; is = find t.0.0 t.1.0 t.0.1 t.1.1 }

checks_memory : (x : Inouts) (d : DocModule) (g : Gathered) → IsSound d.items g → AnswersAreThere → Checks x d g (Err refusal.Memory)
checks_memory x d g sound there =
    let t = there d.items g sound in
    record { clocks = t.0.0; are_clocks = t.0.1; rings = t.1.0; are_rings = t.1.1; is = tt }

checks_broken : (x : Inouts) (d : DocModule) (g : Gathered) (f : ModuleFault) → IsSound d.items g → AnswersAreThere → Finding x d g (Err (halt.Broken f)) → Checks x d g (Err (refusal.Broken (refused f)))
checks_broken x d g f sound there find =
    let t = there d.items g sound in
    let h = find t.0.0 t.1.0 t.0.1 t.1.1 in
    record { clocks = t.0.0; are_clocks = t.0.1; rings = t.1.0; are_rings = t.1.1; is = (f, h.0, h.1, refl) }

pub checks_err : (x : Inouts) (d : DocModule) (g : Gathered) (h : ModuleHalt) (e : Refusal) → IsSound d.items g → AnswersAreThere → Finding x d g (Err h) → RefusesModule h e → Checks x d g (Err e)
checks_err x d g halt.Memory e sound there find is = subst (λ (r : Refusal). Checks x d g (Err r)) (sym is) (checks_memory x d g sound there)
checks_err x d g (halt.Broken f) e sound there find is = subst (λ (r : Refusal). Checks x d g (Err r)) (sym is) (checks_broken x d g f sound there find)

pub gathers_halt : (a : Around) (d : DocModule) (h : Halt) (e : Refusal) → IsAround a → Halts h (faults_of (context a.library.now (λ n. found a.rams.now n) a.faces.now d.items) d.items) → RefusesHalt d.items h e → Gathers a.library.now a.modules.now d (Err e)
gathers_halt a d gather_halt.Memory e around there is = subst (λ (r : Refusal). Gathers a.library.now a.modules.now d (Err r)) (sym is) tt
gathers_halt a d (gather_halt.Broken f) e around there is = gathers_err a d f there.0 e around there.1 is

-- ---- the end

wired : (d : DocModule) (g : Gathered) (clocks : List ClockRoot) (made : Checked) → IsChecked g clocks made → AreClocks (module_links g) (clock_drives d.items g) clocks → IsWired d g made.places made.roots
wired d g clocks made c h = record {
  long = c.places.numbered.long ∙ c.places.long ∙ length_links g.places g.pairs;
  solves = solves (module_links g) c.places.ends made.places.bits made.places.count c.places.long c.places.leads c.places.numbered;
  in_order = subst (λ (k : ℕ). InOrder 0 made.places.bits k) (sym c.places.numbered.all)
      (in_order [] c.places.ends made.places.bits c.places.numbered.long (λ k e at. (c.places.leads k e at).2) (λ k e b he hb. says (nets c.places.ends) e b (c.places.numbered.each k e b he hb)));
  clocks = subst (AreClocks (module_links g) (clock_drives d.items g)) (sym c.roots) h;
}

none_checked : (a : Around) (d : DocModule) (g : Gathered) (made : Checked) → IsAround a → g ≡ gathered_in a.library.now a.modules.now d → Checks a.inouts.now d g (Ok made) → AreChecked a.library.now a.modules.now d []
none_checked a d g made around e h = subst (AreChecked a.library.now a.modules.now d) h.is.0 (checked_by a d g around e (Ok made) h)

meant : (a : Around) (d : DocModule) (g : Gathered) (made : Checked) (b : Assembled) (m : Module) → g ≡ gathered_in a.library.now a.modules.now d → Checks a.inouts.now d g (Ok made) → Assembles a.library.now made.places made.roots d g.cells b → m ≡ b.module
    → HaveOrder (map node_of b.nodes.items) → IsMeant a.library.now a.modules.now d m
meant a d g made b m e h asm is order = record {
  nets = made.places;
  roots = made.roots;
  starts = asm.starts;
  wired = subst (λ (k : Gathered). IsWired d k made.places made.roots) e (wired d g h.clocks made h.is.1 h.are_clocks);
  are_starts = asm.are_starts;
  is = is ∙ asm.is ∙ (λ i. module_of d (e i).cells made.places.bits made.places.count made.roots asm.starts (rams_of a.library.now made.places.bits made.roots (e i).cells));
  ordered = subst HaveOrder (asm.nodes ∙ (λ i. nodes_in (memories_in d.items) (wiring_of a.library.now made.places made.roots asm.starts) (e i).cells)) order;
}

loops : (a : Around) (d : DocModule) (g : Gathered) (made : Checked) (b : Assembled) (cycle : List ℕ) (r : Refused) → g ≡ gathered_in a.library.now a.modules.now d → Checks a.inouts.now d g (Ok made) → Assembles a.library.now made.places made.roots d g.cells b
    → IsFirstLoop (map node_of b.nodes.items) cycle → r ≡ looped (loop_names g.cells b.owners.items cycle) → IsLoopFault a.library.now a.modules.now d r
loops a d g made b cycle r e h asm first is = record {
  nets = made.places;
  roots = made.roots;
  starts = asm.starts;
  wired = subst (λ (k : Gathered). IsWired d k made.places made.roots) e (wired d g h.clocks made h.is.1 h.are_clocks);
  are_starts = asm.are_starts;
  cycle = cycle;
  loops = subst (λ (ps : List Node). IsFirstLoop ps cycle) (asm.nodes ∙ (λ i. nodes_in (memories_in d.items) (wiring_of a.library.now made.places made.roots asm.starts) (e i).cells)) first;
  is = is ∙ (λ i. looped (loop_names (e i).cells ((asm.owners ∙ (λ j. owners_in (memories_in d.items) (wiring_of a.library.now made.places made.roots asm.starts) 0 (e j).cells)) i) cycle));
}

pub ordered : (a : Around) (d : DocModule) (g : Gathered) (made : Checked) (b : Assembled) (result : Result Module Refusal) → IsSoFar a d g made → Assembles a.library.now made.places made.roots d g.cells b → Orders g.cells b result
    → BuildsModule a.library.now a.modules.now d result
ordered a d g made b (Ok m) so asm (is, order) = (record { gathered = so.sound; checked = none_checked a d g made so.around so.gathered so.checks }, meant a d g made b m so.gathered so.checks asm is order)
ordered a d g made b (Err refusal.Memory) so asm h = tt
ordered a d g made b (Err (refusal.Broken r)) so asm (cycle, first, is) = inr (so.sound, inr (none_checked a d g made so.around so.gathered so.checks, loops a d g made b cycle r so.gathered so.checks asm first is))

-- ---- modules one by one

no_faults : {X Y : Type 0} (f : X → Y) (xs : List X) → map f xs ≡ [] → xs ≡ []
no_faults f [] e = refl
no_faults f (x ∷ xs) e = absurd (search rules)

pub sound_so : (a : Around) (d : DocModule) (g : Gathered) → gather_faults a.library.now a.modules.now d ≡ [] → g ≡ gathered_in a.library.now a.modules.now d → GatheredIsSound → IsSound d.items g
sound_so a d g none e law = subst (IsSound d.items) (sym e) (law (context_in a.library.now a.modules.now d) d.items refl (no_faults (fault_of d.items) (faults_of (context_in a.library.now a.modules.now d) d.items) none))
