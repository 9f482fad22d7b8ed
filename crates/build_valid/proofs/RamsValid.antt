-- The RAM cells of a module with nothing wrong fit.
use Rattle.std.proofs.Common.{◌≡◌, ℕ, ◌*◌, ◌+◌, ◌≤◌, ◌<◌, Bool, true, false, cond, ◌&&◌, ◌||◌, List, [], ◌∷◌, ◌++◌, drop, length, nat_eq, Option, Some, None, slice_get, refl, sym, ap, ◌∙◌, subst, arith}
use Rattle.std.specs.Prelude.{option_and_then}
use Rattle.std.specs.List.{flat_map}
use Rattle.std.proofs.Math.Nat.{min-eq_left}
use Rattle.std.proofs.lemmas.Bool.Decides.{nat_tests}
use Rattle.std.proofs.lemmas.Option.{same_Some, slice_get_within}
use Rattle.lib_core.specs.declared.library.EdgeKind.{EdgeKind}
use Rattle.lib_core.specs.declared.library.Group.{Group}
use Rattle.lib_core.specs.declared.library.Library.{Library}
use Rattle.lib_core.specs.declared.library.RamKind.{RamKind}
use Rattle.lib_core.specs.declared.library.Tri.{Tri}
use Rattle.lib_core.specs.declared.library.Variant.{Variant}
use Rattle.lib_core.specs.Rams.{last_width, last_words, reads_now, takes_value}
use Rattle.rtlil_text.specs.Grammar.{All}
use Rattle.net_core.specs.declared.bits.Bit.{Bit}
use Rattle.net_core.specs.declared.modules.Module.{Module}
use Rattle.net_core.specs.declared.rams.RamCell.{RamCell}
use Rattle.net_core.specs.Ram.{Slot, slots_of}
use Rattle.net_core.specs.Runs.{variant_of as cell_variant}
use Rattle.net_core.specs.Shape.{contents_fit, fits_library, fits_variant, levels_alike, slots_fit, written_out}
use Rattle.net_core.specs.Valid.{EdgeFits, IsName, RamFits}
use Rattle.net_wires.specs.declared.clock.ClockRoot.{ClockRoot}
use Rattle.net_wires.specs.declared.source.Source.{Source}
use Rattle.ram_rows.specs.declared.pins.SlotPin.TheVariants as pin
use Rattle.ram_rows.specs.declared.slots.SlotRow.{SlotRow}
use Rattle.ram_rows.specs.RamNames.{slot_name}
use Rattle.ram_rows.specs.RamPins.{suffix}
use Rattle.raw_cells.specs.declared.raw.CellShape.{CellShape}
use Rattle.raw_cells.specs.declared.raw.CellShape.TheVariants as shape
use Rattle.raw_cells.specs.declared.raw.RamUse.{RamUse}
use Rattle.raw_cells.specs.declared.raw.RawCell.{RawCell}
use Rattle.raw_cells.specs.declared.raw.RawPin.{RawPin}
use Rattle.raw_cells.specs.Bits.{sources_at}
use Rattle.raw_cells.specs.Clocks.{clock_by, first_root}
use Rattle.raw_cells.specs.RamCells.{groups_slots, names_slots, narrow, ram_of, slot_of}
use Rattle.raw_cells.specs.Rows.{variant_in, variant_of}
use Rattle.net_gather.specs.Laws.{CellsShaped, ShapeFits}
use Rattle.net_module.specs.Assembly.{ram_by, ram_under, rams_of}
use Rattle.net_fits.proofs.Lists.{all_join, each_of}
use Rattle.build_valid.specs.Libraries.{EachVariant, LibraryFits, port_names}
use Rattle.build_valid.proofs.Rising.{CellsRise, RisesAs, RowRises, ShapeRises, UseRises}
use Rattle.build_valid.proofs.SlotKinds.{kinds_of, reads_told}

-- ---- the variant of a cell

kind_case : (P : Variant → Type 0) (o : Option RamKind) (k : ℕ) (v : Variant) → ((r : RamKind) → o ≡ Some r → All P r.variants) → variant_in o k ≡ Some v → P v
kind_case P None k v f e = absurd cc
kind_case P (Some r) k v f e = each_of P r.variants (f r refl) k v e

pub of_variant : (P : Variant → Type 0) (lib : Library) (u : RamUse) (v : Variant) → EachVariant P lib → variant_of lib u ≡ Some v → P v
of_variant P lib u v all e = kind_case P (slice_get lib.rams u.ram) u.variant v (λ r at. each_of (λ (k : RamKind). All P k.variants) lib.rams all u.ram r at) e

narrow_same : (k : ℕ) → k < 4294967295 → narrow k ≡ k
narrow_same k h = min-eq_left (omega (arith, h))

same_case : (o : Option RamKind) (k : ℕ) (v : Variant) → ((r : RamKind) → o ≡ Some r → length r.variants ≤ 256) → variant_in o k ≡ Some v → option_and_then (λ (r : RamKind). slice_get r.variants (narrow k)) o ≡ Some v
same_case None k v f e = absurd cc
same_case (Some r) k v f e =
    let few = f r refl in
    let within = slice_get_within r.variants k v e in
    ap (slice_get r.variants) (narrow_same k (omega (arith, few, within))) ∙ e

-- ---- how many slots

names_few : (places : List Bit) (roots : List ClockRoot) (pins : List RawPin) (g : Group) (ns : List (List ℕ)) (rows : List SlotRow) → length (names_slots places roots pins g ns rows) ≤ length ns
names_few places roots pins g [] rows = omega arith
names_few places roots pins g (n ∷ ns) [] = omega arith
names_few places roots pins g (n ∷ ns) (r ∷ rs) = let rest = names_few places roots pins g ns rs in omega (arith, rest)

long_joined : {X : Type 0} (xs ys : List X) → length (xs ++ ys) ≡ length xs + length ys
long_joined [] ys = omega arith
long_joined (x ∷ xs) ys = let rest = long_joined xs ys in omega (arith, rest)

groups_few : (places : List Bit) (roots : List ClockRoot) (pins : List RawPin) (gs : List Group) (rows : List SlotRow) → length (groups_slots places roots pins gs rows) ≤ length (flat_map (λ (g : Group). g.names) gs)
groups_few places roots pins [] rows = omega arith
groups_few places roots pins (g ∷ gs) rows =
    let here = names_few places roots pins g g.names rows in
    let rest = groups_few places roots pins gs (drop (length g.names) rows) in
    let a = long_joined (names_slots places roots pins g g.names rows) (groups_slots places roots pins gs (drop (length g.names) rows)) in
    let b = long_joined g.names (flat_map (λ (h : Group). h.names) gs) in
    omega (arith, here, rest, a, b)

-- ---- the contents

and_right : (a b : Bool) → (a && b) ≡ true → b ≡ true
and_right true b e = e
and_right false b e = absurd cc

and_left : (a b : Bool) → (a && b) ≡ true → a ≡ true
and_left true b e = refl
and_left false b e = absurd cc

long_case : (there : Bool) (n k limit : ℕ) → nat_eq n (cond there k 0) ≡ true → k ≤ limit → n ≤ limit
long_case true n k limit e h = (let same : n ≡ k = grind (arith, nat_tests) in omega (arith, same, h))
long_case false n k limit e h = (let same : n ≡ 0 = grind (arith, nat_tests) in omega (arith, same))

contents_few : (v : Variant) (init : List Tri) → last_words v * last_width v ≤ 4194304 → contents_fit v init ≡ true → length init ≤ 4194304
contents_few v init few e = long_case (takes_value v.fill) (length init) (last_words v * last_width v) 4194304 (and_left _ (written_out v.fill init) e) few

cell_contents : (c : RamCell) (v : Variant) (o : Option Variant) → o ≡ Some v → fits_variant c o ≡ true → contents_fit v c.init ≡ true
cell_contents c v None e h = absurd cc
cell_contents c v (Some w) e h =
    subst (λ (x : Variant). contents_fit x c.init ≡ true) (same_Some w v e) (and_right (w.per_port || levels_alike c.slots) (contents_fit w c.init) (and_right (slots_fit w w.groups c.slots) _ h))

-- ---- one cell

pub record RamTold (lib : Library) (m : Module) (c : RamCell) : Type 0 where
  pub fits : RamFits lib m c
  pub reads : (x : Variant) → cell_variant lib c ≡ Some x → (j : ℕ) (s : Slot) → slice_get (slots_of x c) j ≡ Some s → s.pins.reads_now ≡ reads_now s.kind.kind

module _ (lib : Library) (fits : LibraryFits lib) (m : Module) (places : List Bit) (roots : List ClockRoot)
    (edges : (e : Option EdgeKind) (rising : Bool) (ss : List Source) → RisesAs e rising → EdgeFits m e (clock_by places rising (first_root roots ss))) where
  cell_is : (name : List ℕ) (u : RamUse) (v : Variant) (ps : List RawPin) → variant_of lib u ≡ Some v → cell_variant lib (ram_of places roots name u v ps) ≡ Some v
  unfolding ram_of
  cell_is name u v ps e = same_case (slice_get lib.rams u.ram) u.variant v (λ r at. each_of (λ (k : RamKind). length k.variants ≤ 256) lib.rams fits.variants u.ram r at) e

  name_is : (name : List ℕ) (u : RamUse) (v : Variant) (ps : List RawPin) → IsName name → IsName (ram_of places roots name u v ps).name
  unfolding ram_of
  name_is name u v ps h = h

  slots_few : (name : List ℕ) (u : RamUse) (v : Variant) (ps : List RawPin) → length (port_names v) ≤ 32 → length (ram_of places roots name u v ps).slots ≤ 32
  unfolding ram_of
  slots_few name u v ps h = let few = groups_few places roots ps v.groups u.row.slots in omega (arith, few, h)

  edge_made : (ps : List RawPin) (g : Group) (n : List ℕ) (r : SlotRow) → RowRises g r → EdgeFits m g.edge (slot_of places roots ps g n r).clock
  unfolding slot_of
  edge_made ps g n r h = edges g.edge r.rising (sources_at ps (slot_name n (suffix pin.Clk))) h

  told : (name : List ℕ) (u : RamUse) (v : Variant) (ps : List RawPin) → IsName name → variant_of lib u ≡ Some v → fits_library lib (ram_of places roots name u v ps) ≡ true → UseRises lib u → RamTold lib m (ram_of places roots name u v ps)
  told name u v ps named e shaped rises =
      let c = ram_of places roots name u v ps in
      let is = cell_is name u v ps e in
      let few = slots_few name u v ps (of_variant (λ x. length (port_names x) ≤ 32) lib u v fits.ports e) in
      let short = contents_few v c.init (of_variant (λ x. last_words x * last_width x ≤ 4194304) lib u v fits.bits e) (cell_contents c v (cell_variant lib c) is shaped) in
      let kinds = kinds_of places roots ps RowRises (λ g s. EdgeFits m g.edge s.clock) (edge_made ps) name u v (rises v e).rises in
      let reads = reads_told places roots ps name u v in
      record {
        fits = record {
          name = name_is name u v ps named;
          shape = shaped;
          slots = omega (arith, few);
          init = omega (arith, short);
          edges = λ x at j s here.
              each_of (λ (t : Slot). EdgeFits m t.kind.edge t.pins.clock) (slots_of x c) (subst (λ (y : Variant). All (λ (t : Slot). EdgeFits m t.kind.edge t.pins.clock) (slots_of y c)) (same_Some v x (sym is ∙ at)) kinds) j s here;
        };
        reads = λ x at j s here.
            each_of (λ (t : Slot). t.pins.reads_now ≡ reads_now t.kind.kind) (slots_of x c) (subst (λ (y : Variant). All (λ (t : Slot). t.pins.reads_now ≡ reads_now t.kind.kind) (slots_of y c)) (same_Some v x (sym is ∙ at)) reads) j s here;
      }

  by_shape : (name : List ℕ) (s : CellShape) (ps : List RawPin) → IsName name → ShapeFits lib places roots name s ps → ShapeRises lib s → All (RamTold lib m) (ram_by lib places roots name s ps)
  by_shape name (shape.Comb r) ps named h rises = tt
  by_shape name (shape.Reg r) ps named h rises = tt
  by_shape name (shape.Carried k) ps named h rises = tt
  by_shape name (shape.Memory k r) ps named h rises = tt
  by_shape name (shape.Ram u) ps named h rises =
      (subst (λ (o : Option Variant). RamTold lib m (ram_under lib places roots name u o ps)) (sym h.1) (told name u h.0 ps named h.1 h.2 rises), tt)

  pub rams_told : (cs : List RawCell) → All (λ (c : RawCell). IsName c.name) cs → CellsShaped lib places roots cs → CellsRise lib cs → All (RamTold lib m) (rams_of lib places roots cs)
  rams_told [] named h rises = tt
  rams_told (c ∷ cs) named h rises =
      all_join (RamTold lib m) (ram_by lib places roots c.name c.shape c.pins) (rams_of lib places roots cs) (by_shape c.name c.shape c.pins named.0 h.0 rises.0) (rams_told cs named.1 h.1 rises.1)
