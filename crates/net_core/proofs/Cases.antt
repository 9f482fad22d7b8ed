-- The definitions on small cases: each says what is meant, by computation.
use Rattle.std.proofs.Common.{◌≡◌, ℕ, pos, Bool, true, false, List, [], ◌∷◌, map, Option, Some, None, refl}
use Rattle.std.specs.Prelude.{codes}
use Rattle.lib_core.specs.declared.library.Tri.{Tri}
use Rattle.lib_core.specs.declared.library.Tri.TheVariants as tri
use Rattle.lib_core.specs.declared.library.Fill.TheVariants as fill
use Rattle.lib_core.specs.declared.library.PortKind.TheVariants.{Srsw}
use Rattle.lib_core.specs.declared.library.EdgeKind.TheVariants as edge
use Rattle.lib_core.specs.declared.library.OwnWrite.TheVariants as own
use Rattle.lib_core.specs.declared.library.SrstGate.TheVariants as gate
use Rattle.lib_core.specs.declared.library.Group.{Group}
use Rattle.lib_core.specs.declared.library.Variant.{Variant}
use Rattle.lib_core.specs.Rams.{offset_in, lanes}
use Rattle.net_core.specs.declared.bits.Bit.{Bit}
use Rattle.net_core.specs.declared.bits.Bit.TheVariants.{Zero, One, Net}
use Rattle.net_core.specs.declared.bits.Clock.TheVariants.{Root, Never}
use Rattle.net_core.specs.declared.cells.CombKind.TheVariants as kind
use Rattle.net_core.specs.declared.mems.WrPort.{WrPort}
use Rattle.net_core.specs.declared.mems.Style.TheVariants.{Registers, Word}
use Rattle.net_core.specs.declared.rams.SlotUse.{SlotUse}
use Rattle.net_core.specs.declared.modules.Wire.{Wire}
use Rattle.net_core.specs.Values.{Happening, has_edge}
use Rattle.net_core.specs.Logic.{row_bit}
use Rattle.net_core.specs.Memory.{Frame, hits, written, loaded, read_bit}
use Rattle.net_core.specs.Ports.{by_port, happening_of, are_joined}
use Rattle.net_core.specs.Style.{word_style}
use Rattle.net_core.specs.Shape.{slots_fit, slot_fits}

abbrev row : (ℕ → Tri) → List Tri
row r = r 0 ∷ r 1 ∷ r 2 ∷ []

-- 3 + 1 carries into the third bit
sum_carries : row (row_bit kind.Add false (true ∷ true ∷ []) (true ∷ []) [] 3) ≡ tri.Zero ∷ tri.Zero ∷ tri.One ∷ []
sum_carries = refl

-- -1 is below 0 where the operands are signed, and 3 is not below 0 where they are not
signed_order : row_bit kind.Lt true (true ∷ true ∷ []) (false ∷ []) [] 1 0 ≡ tri.One
signed_order = refl

unsigned_order : row_bit kind.Lt false (true ∷ true ∷ []) (false ∷ []) [] 1 0 ≡ tri.Zero
unsigned_order = refl

-- none, one and two selectors
none_selected : row_bit kind.Pmux false (true ∷ []) (false ∷ true ∷ []) (false ∷ false ∷ []) 1 0 ≡ tri.One
none_selected = refl

one_selected : row_bit kind.Pmux false (true ∷ []) (false ∷ true ∷ []) (true ∷ false ∷ []) 1 0 ≡ tri.Zero
one_selected = refl

two_selected : row_bit kind.Pmux false (true ∷ []) (false ∷ true ∷ []) (true ∷ true ∷ []) 1 0 ≡ tri.Any
two_selected = refl

-- a shift past the width leaves zeros
all_shifted_out : row (row_bit kind.Shl false (true ∷ true ∷ []) (true ∷ true ∷ []) [] 3) ≡ tri.Zero ∷ tri.Zero ∷ tri.Zero ∷ []
all_shifted_out = refl

-- of two wires of port 1 the earlier comes first, and both before port 2
abbrev wire : ℕ → ℕ → Wire
wire name port = record { name = name ∷ []; attrs = []; port = port; input = true; output = false; offset = pos 0; upto = false; signed = false; bits = Net name ∷ [] }

ports_in_order : map (λ (w : Wire). w.name) (by_port (wire 7 2 ∷ wire 8 1 ∷ wire 9 1 ∷ [])) ≡ (8 ∷ []) ∷ (9 ∷ []) ∷ (7 ∷ []) ∷ []
ports_in_order = refl

-- the edge of an event names the place of its input
edge_by_place : happening_of (5 ∷ 6 ∷ []) (record { values = []; edge = Some (record { net = 6; rising = true }) }) ≡ record { values = []; edge = Some (1, true) }
edge_by_place = refl

rises : has_edge (5 ∷ 6 ∷ []) (Some (1, true)) (Root 6 true) ≡ true
rises = refl

falls_not : has_edge (5 ∷ 6 ∷ []) (Some (1, true)) (Root 6 false) ≡ false
falls_not = refl

never_works : has_edge (5 ∷ 6 ∷ []) (Some (1, true)) Never ≡ false
never_works = refl

joined : are_joined (Net 3 ∷ Net 4 ∷ Net 3 ∷ []) 0 2 ≡ true
joined = refl

apart : are_joined (Net 3 ∷ Net 4 ∷ Net 3 ∷ []) 0 1 ≡ false
apart = refl

-- two writes of one bit to the word at address 5, of which the second wins where it has priority
abbrev write : Bit → List Bool → WrPort
write value prio = record { wide = 0; clock = Root 9 true; en = One ∷ []; addr = One ∷ Zero ∷ One ∷ []; value = value ∷ []; prio = prio }

abbrev frame : Frame
frame = record { width = 1; size = 2; offset = 4 }

abbrev edge_now : Happening
edge_now = record { values = []; edge = Some (0, true) }

abbrev hits_at : ℕ → List WrPort → List (Option Bool)
hits_at word ws = hits (9 ∷ []) frame edge_now (λ n. false) word 0 ws

abbrev ranked : List WrPort
ranked = write Zero [] ∷ write One (true ∷ []) ∷ []

abbrev unranked : List WrPort
unranked = write Zero [] ∷ write One (false ∷ []) ∷ []

second_wins : written ranked (hits_at 1 ranked) tri.Zero ≡ tri.One
second_wins = refl

none_wins : written unranked (hits_at 1 unranked) tri.Zero ≡ tri.Any
none_wins = refl

other_word_stays : written ranked (hits_at 0 ranked) tri.Zero ≡ tri.Zero
other_word_stays = refl

-- a read that is transparent for one of two hits takes anything, for both the winner, for none the old content
mixed_load : loaded (true ∷ false ∷ []) [] ranked (hits_at 1 ranked) tri.Zero ≡ tri.Any
mixed_load = refl

new_load : loaded (true ∷ true ∷ []) [] ranked (hits_at 1 ranked) tri.Zero ≡ tri.One
new_load = refl

old_load : loaded [] [] ranked (hits_at 1 ranked) tri.Zero ≡ tri.Zero
old_load = refl

colliding_load : loaded [] (true ∷ []) ranked (hits_at 1 ranked) tri.Zero ≡ tri.Any
colliding_load = refl

-- address 3 lies below word 0, and address 6 above the last word
below_words : read_bit frame 3 0 (λ word bit. tri.One) ≡ tri.Any
below_words = refl

above_words : read_bit frame 6 0 (λ word bit. tri.One) ≡ tri.Any
above_words = refl

last_word : read_bit frame 5 0 (λ word bit. tri.One) ≡ tri.One
last_word = refl

-- widths 1 2 4 9 18: the fourth word of width 4 in a word of width 18 begins at bit 13
fourth_word : offset_in (1 ∷ 2 ∷ 4 ∷ 9 ∷ 18 ∷ []) 2 4 3 ≡ 13
fourth_word = refl

lanes_of_bytes : lanes (Some 8) 32 ≡ 4
lanes_of_bytes = refl

narrow_lane : lanes (Some 8) 4 ≡ 1
narrow_lane = refl

backslash : codes "\\a" ≡ 92 ∷ 97 ∷ []
backslash = refl

any_case : word_style (codes "ReGisters") ≡ Registers
any_case = refl

of_its_own : word_style (codes "Fast") ≡ Word (codes "Fast")
of_its_own = refl

-- a group that reads and writes at one level, and a slot of it that is not used
abbrev group : Group
group = record { kind = Srsw; names = (65 ∷ []) ∷ []; options = []; edge = Some edge.Pos; clken = false; rden = true; own = own.Old; trans = []; prio = []; srst = fill.NoUndef; srst_gate = gate.Ungated; arst = fill.Nothing; start = fill.Nothing; separate = false; levels = 0 ∷ [] }

abbrev variant : Variant
variant = record { abits = 1; widths = 1 ∷ []; per_port = false; byte = None; cost = 1; fill = fill.Nothing; options = []; groups = group ∷ [] }

abbrev slot : Bool → Tri → SlotUse
slot used reset = record { used = used; reads_now = false; level = 0; clock = Never; clken = Zero; addr = Zero ∷ []; rden = Zero; srst = Zero; arst = Zero; out = 1 ∷ []; value = Zero ∷ []; wren = Zero ∷ []; wrbe = []; srst_value = reset ∷ []; arst_value = []; init_value = [] }

tied : slots_fit variant (group ∷ []) (slot false tri.Zero ∷ []) ≡ true
tied = refl

untied : slot_fits variant group (slot false tri.One) ≡ false
untied = refl

in_use : slot_fits variant group (slot true tri.One) ≡ true
in_use = refl

unwritten : slot_fits variant group (slot true tri.Any) ≡ false
unwritten = refl

too_many : slots_fit variant (group ∷ []) (slot false tri.Zero ∷ slot false tri.Zero ∷ []) ≡ false
too_many = refl
