-- The inouts of a module with nothing wrong stand apart.
use Rattle.std.proofs.Common.{◌≡◌, inl, inr, ℕ, zero, suc, ◌<◌, Bool, true, false, ◌&&◌, List, [], ◌∷◌, length, nat_eq, Some, slice_get, refl, sym, ap, ◌∙◌, subst, arith}
use Rattle.std.specs.Prelude.{filter}
use Rattle.std.specs.List.{flat_map}
use Rattle.std.proofs.lemmas.Bool.{cases_lt}
use Rattle.std.proofs.lemmas.Bool.Decides.{nat_tests}
use Rattle.std.proofs.lemmas.List.{get_or_past}
use Rattle.std.proofs.lemmas.Option.{get_or_from_slice_get, same_Some, slice_get_within}
use Rattle.lib_core.specs.declared.library.Library.{Library}
use Rattle.lib_core.specs.declared.library.Tri.{Tri}
use Rattle.rtlil_text.specs.declared.doc.DocModule.{DocModule}
use Rattle.rtlil_text.specs.Grammar.{All, AreDistinct, wire_name}
use Rattle.net_core.specs.declared.bits.Bit.{Bit}
use Rattle.net_core.specs.declared.bits.Bit.TheVariants as bits
use Rattle.net_core.specs.declared.modules.Module.{Module}
use Rattle.net_core.specs.Nodes.{Drives, HasNet, Node, nodes_of}
use Rattle.net_core.specs.Pins.{inner_bits}
use Rattle.net_core.specs.Ports.{inout_pin_bits, is_inout, is_inout_pin, wire_bits}
use Rattle.net_core.specs.Valid.{are_nets, InoutsApart, is_net}
use Rattle.net_wires.specs.declared.clock.ClockRoot.{ClockRoot}
use Rattle.net_wires.specs.declared.number.Nets.{Nets}
use Rattle.net_wires.specs.declared.source.Source.{Source}
use Rattle.net_wires.specs.Drivers.{is_place}
use Rattle.net_wires.specs.Links.{links_of}
use Rattle.net_wires.specs.Nets.{Resolves}
use Rattle.net_wires.specs.Spans.{spans}
use Rattle.raw_cells.specs.Clocks.{place_bit}
use Rattle.net_gather.specs.declared.gathering.Gathered.{Gathered}
use Rattle.net_gather.specs.Faces.{doc_interfaces}
use Rattle.net_gather.specs.Gather.{counts_before, faults_of}
use Rattle.net_cells.specs.Wires.{wires_from}
use Rattle.net_checks.specs.declared.marking.Port.TheVariants as port
use Rattle.net_checks.specs.Checks.{IsSound}
use Rattle.net_checks.specs.ClockPins.{clock_drives, digits, places_in, root_bits}
use Rattle.net_checks.specs.Inouts.{cell_inouts, has_inout, inout_bits}
use Rattle.net_checks.specs.Laws.{GatheredIsSound, ShownInouts}
use Rattle.net_checks.specs.Marks.{port_bits}
use Rattle.net_module.specs.Assembly.{carried_cells, module_of, rams_of}
use Rattle.net_build.specs.Faults.{IsFaultless}
use Rattle.net_build.specs.Means.{context_in, gathered_in, IsWired}
use Rattle.net_fits.specs.Written.{IsWritten}
use Rattle.net_fits.proofs.Lists.{all_then, each_of}
use Rattle.net_fits.proofs.Sound.{cells_faultless}
use Rattle.build_valid.proofs.Faultless.{none_mapped, nothing_found}
use Rattle.build_valid.proofs.Free.{CellsFree, Free, inner_free, NetsFree, nodes_free}
use Rattle.build_valid.proofs.InoutBits.{any_left, any_right, cells_stand, Stands, wire_place, wires_front}
use Rattle.build_valid.proofs.InoutFaults.{at_inout, CellsOff, items_off, none_inverts}
use Rattle.build_valid.proofs.InoutFree.{cells_free}
use Rattle.build_valid.proofs.Untouched.{alone, own_end, PairsOff}
use Rattle.build_valid.proofs.Wiring.{wired_solved}

no_net : (n : ℕ) → bits.Zero ≡ bits.Net n → ⊥
no_net n e = cc

-- a place with a net is there
place_there : (places : List Bit) (p n : ℕ) → place_bit places p ≡ bits.Net n → p < length places
place_there places p n e = elim (cases_lt p (length places)) [ inl h ↦ h | inr h ↦ absurd (no_net n (sym (get_or_past places p bits.Zero h) ∙ e)) ]

own_number : (n : ℕ) → nat_eq n n ≡ true
own_number n = grind (arith, nat_tests)

and_true : (a b : Bool) → a ≡ true → b ≡ true → (a && b) ≡ true
and_true true b e f = f
and_true false b e f = absurd cc

nets_by : (bs : List Bit) → ((k : ℕ) (b : Bit) → slice_get bs k ≡ Some b → is_net b ≡ true) → are_nets bs ≡ true
nets_by [] f = refl
nets_by (b ∷ bs) f = and_true (is_net b) (are_nets bs) (f zero b refl) (nets_by bs (λ k c e. f (suc k) c e))

-- ---- a net at the place of an inout

record Held (inouts : List Source) (m : ℕ) (places : List Bit) (n : ℕ) : Type 0 where
  place : ℕ
  on : at_inout inouts place ≡ true
  there : place < m
  has : place_bit places place ≡ bits.Net n

module _ (lib : Library) (modules : List DocModule) (d : DocModule) (nets : Nets) (roots : List ClockRoot) (starts : List Tri) (f : IsFaultless lib modules d) (w : IsWired d (gathered_in lib modules d) nets roots)
    (sound : IsSound d.items (gathered_in lib modules d)) (solved : Resolves (links_of (gathered_in lib modules d).places (gathered_in lib modules d).pairs) nets.bits nets.count) where
  abbrev g : Gathered
  g = gathered_in lib modules d

  abbrev inouts : List Source
  inouts = inout_bits f.checked.inouts d.items g.cells

  abbrev built : Module
  built = module_of d g.cells nets.bits nets.count roots starts (rams_of lib nets.bits roots g.cells)

  off : CellsOff inouts g.cells × PairsOff (at_inout inouts) g.pairs
  off =
      let x = context_in lib modules d in
      items_off inouts (spans 0 d.items) x 0 (counts_before d.items) d.items (cells_faultless x d (none_mapped _ (faults_of x d.items) f.gathered)) (nothing_found lib modules d f.checked).inouts

  abbrev HeldHere : ℕ → Type 0
  HeldHere n = Held inouts g.places nets.bits n

  free : (n : ℕ) → HeldHere n → CellsFree n nets.bits roots g.cells
  free n h =
      cells_free inouts g.places g.pairs nets.bits nets.count sound.pairs off.1 solved (clock_drives d.items g) roots w.clocks (none_inverts inouts g.places (places_in (root_bits d.items g.cells)) (digits g) g.cells off.0) h.place n h.on h.there h.has g.cells sound.cells off.0

  wires_are : built.wires ≡ wires_from nets.bits d.items
  unfolding module_of
  wires_are = refl

  carried_are : built.carried ≡ carried_cells nets.bits g.cells
  unfolding module_of
  carried_are = refl

  from_wires : (n : ℕ) → HasNet (wire_bits (filter is_inout (wires_from nets.bits d.items))) n → HeldHere n
  from_wires n h =
      let at = wire_place nets.bits d.items h.0 (bits.Net n) h.1 in
      let long = w.long in
      let within = slice_get_within nets.bits at.0 (bits.Net n) at.1 in
      record {
        place = at.0;
        on = any_left (is_place at.0) (port_bits port.Inout 0 d.items) (flat_map (cell_inouts f.checked.inouts) g.cells) at.2;
        there = omega (arith, within, long);
        has = get_or_from_slice_get nets.bits at.0 (bits.Net n) bits.Zero at.1;
      }

  from_pins : ((kind name : List ℕ) → has_inout f.checked.inouts kind name ≡ is_inout_pin (doc_interfaces modules) kind name) → (n : ℕ) → HasNet (flat_map (inout_pin_bits (doc_interfaces modules)) (carried_cells nets.bits g.cells)) n → HeldHere n
  from_pins told n h =
      let all = cells_stand nets.bits inouts f.checked.inouts (doc_interfaces modules) told g.cells (λ p e. any_right (is_place p) (port_bits port.Inout 0 d.items) (flat_map (cell_inouts f.checked.inouts) g.cells) e) in
      let at = each_of (Stands nets.bits inouts) (flat_map (inout_pin_bits (doc_interfaces modules)) (carried_cells nets.bits g.cells)) all h.0 (bits.Net n) h.1 n refl in
      let long = w.long in
      let within = place_there nets.bits at.0 n at.1 in
      record { place = at.0; on = at.2; there = omega (arith, within, long); has = at.1 }

  -- its place among the bits of wires
  wire_is : (n i : ℕ) (h : HeldHere n) → slice_get (wire_bits (wires_from nets.bits d.items)) i ≡ Some (bits.Net n) → i ≡ h.place
  wire_is n i h at =
      let here = wires_front nets.bits d.items i (bits.Net n) at in
      let long = w.long in
      let within = slice_get_within nets.bits i (bits.Net n) here in
      alone (at_inout inouts) g.places g.pairs nets.bits nets.count sound.pairs off.1 solved h.place i n h.on h.there (omega (arith, within, long)) h.has (get_or_from_slice_get nets.bits i (bits.Net n) bits.Zero here)

  undriven : (n k : ℕ) (p : Node) → HeldHere n → slice_get (nodes_of built) k ≡ Some p → Drives p n → ⊥
  undriven n k p h at drives =
      let all = nodes_free n nets.bits roots lib d nets.count starts g.cells (free n h) in
      let here : NetsFree n nets.bits roots p.drives = each_of (λ (q : Node). NetsFree n nets.bits roots q.drives) (nodes_of built) all k p at in
      let no : nat_eq n n ≡ false = each_of (λ j. nat_eq n j ≡ false) p.drives here drives.0 n drives.1 in
      let yes : nat_eq n n ≡ true = own_number n in
      cc

  outside : (n : ℕ) → HeldHere n → HasNet (inner_bits built) n → ⊥
  outside n h at =
      let all = inner_free n nets.bits roots lib d nets.count starts g.cells (free n h) in
      let no : nat_eq n n ≡ false = each_of (Free n nets.bits roots) (inner_bits built) all at.0 (bits.Net n) at.1 in
      let yes : nat_eq n n ≡ true = own_number n in
      cc

  wires_nets : are_nets (wire_bits (filter is_inout (wires_from nets.bits d.items))) ≡ true
  wires_nets =
      nets_by (wire_bits (filter is_inout (wires_from nets.bits d.items)))
      (λ k b e.
      (let at = wire_place nets.bits d.items k b e in
      let long = w.long in
      let within = slice_get_within nets.bits at.0 b at.1 in
      let on : at_inout inouts at.0 ≡ true = any_left (is_place at.0) (port_bits port.Inout 0 d.items) (flat_map (cell_inouts f.checked.inouts) g.cells) at.2 in
      let end = own_end (at_inout inouts) g.places g.pairs at.0 on (omega (arith, within, long)) off.1 in
      let net = w.solves.net at.0 end in
      ap is_net (same_Some b (bits.Net net.0) (sym at.1 ∙ net.1))))

  pub held_apart : ((kind name : List ℕ) → has_inout f.checked.inouts kind name ≡ is_inout_pin (doc_interfaces modules) kind name) → InoutsApart (doc_interfaces modules) built
  held_apart told =
      let wire : (n : ℕ) → HasNet (wire_bits (filter is_inout built.wires)) n → HeldHere n = λ n h. from_wires n (subst (λ ws. HasNet (wire_bits (filter is_inout ws)) n) wires_are h) in
      let pin : (n : ℕ) → HasNet (flat_map (inout_pin_bits (doc_interfaces modules)) built.carried) n → HeldHere n = λ n h. from_pins told n (subst (λ cs. HasNet (flat_map (inout_pin_bits (doc_interfaces modules)) cs) n) carried_are h) in
      let front : (n i : ℕ) (h : HeldHere n) → slice_get (wire_bits built.wires) i ≡ Some (bits.Net n) → i ≡ h.place = λ n i h at. wire_is n i h (subst (λ ws. slice_get (wire_bits ws) i ≡ Some (bits.Net n)) wires_are at) in
      record {
        nets = subst (λ ws. are_nets (wire_bits (filter is_inout ws)) ≡ true) (sym wires_are) wires_nets;
        wires = λ n i j h a b. front n i (wire n h) a ∙ sym (front n j (wire n h) b);
        pins = λ n i j h a b. front n i (pin n h) a ∙ sym (front n j (pin n h) b);
        undriven_wires = λ n k p h at dr. undriven n k p (wire n h) at dr;
        undriven_pins = λ n k p h at dr. undriven n k p (pin n h) at dr;
        wires_inside = λ n h at. outside n (wire n h) at;
        pins_inside = λ n h at. outside n (pin n h) at;
      }

pub inouts_apart : GatheredIsSound → ShownInouts → (lib : Library) (modules : List DocModule) (d : DocModule) (nets : Nets) (roots : List ClockRoot) (starts : List Tri) → All IsWritten modules → IsFaultless lib modules d → IsWired d (gathered_in lib modules d) nets roots
    → InoutsApart (doc_interfaces modules) (module_of d (gathered_in lib modules d).cells nets.bits nets.count roots starts (rams_of lib nets.bits roots (gathered_in lib modules d).cells))
inouts_apart gathered_sound shown lib modules d nets roots starts written f w =
    let x = context_in lib modules d in
    let sound = gathered_sound x d.items refl (none_mapped _ (faults_of x d.items) f.gathered) in
    let solved = wired_solved gathered_sound lib modules d nets roots f w in
    let distinct = all_then IsWritten (λ (m : DocModule). AreDistinct (flat_map wire_name m.items)) modules (λ m h. h.names.wires) written in
    held_apart lib modules d nets roots starts f w sound solved.resolves (shown modules f.checked.inouts f.checked.shows distinct)
