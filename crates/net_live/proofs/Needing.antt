-- The nets that nodes need, and the number of nodes, by the parts of a module.
use Rattle.std.proofs.Common.{◌≡◌, ℕ, ◌+◌, ◌<◌, Bool, true, false, ◌&&◌, List, [], ◌∷◌, ◌++◌, length, map, refl, ap, ◌∙◌, arith}
use Rattle.std.specs.Prelude.{Some}
use Rattle.std.specs.List.{list_all, flat_map, sum_by}
use Rattle.std.proofs.lemmas.List.{length-map, length-append}
use Rattle.std.proofs.lemmas.List.Concat.{length-flat_map}
use Rattle.std.proofs.lemmas.List.Sums.{sum_by-cons}
use Rattle.std.proofs.lemmas.List.Folds.{list_all-append, list_all-map}
use Rattle.net_core.specs.declared.bits.Bit.{Bit}
use Rattle.net_core.specs.declared.bits.Bit.TheVariants.{Zero, One, Net}
use Rattle.net_core.specs.declared.cells.Comb.{Comb}
use Rattle.net_core.specs.declared.mems.Mem.{Mem}
use Rattle.net_core.specs.declared.rams.RamCell.{RamCell}
use Rattle.net_core.specs.declared.modules.Module.{Module}
use Rattle.net_core.specs.Nodes.{Node, comb_node, reg_node, read_node, slot_node, mem_nodes, ram_nodes, nodes_of, HasNet, NetsWithin}
use Rattle.net_core.proofs.Basics.{all_at}
use Rattle.net_live.proofs.Judged.{each_all}
use Rattle.net_live.specs.Driving.{bit_below, needs_below}

and_assoc : (a b c : Bool) → ((a && b) && c) ≡ (a && (b && c))
and_assoc true b c = refl
and_assoc false b c = refl

pub three_joined : (limit : ℕ) (c : Comb) → needs_below limit (comb_node c) ≡ (list_all (bit_below limit) c.a && (list_all (bit_below limit) c.b && list_all (bit_below limit) c.s))
three_joined limit c =
    let p = bit_below limit in
    let front = list_all-append p c.a c.b in
    list_all-append p (c.a ++ c.b) c.s ∙ ap (λ t. t && list_all p c.s) front ∙ and_assoc (list_all p c.a) (list_all p c.b) (list_all p c.s)

all_flat_map : {X Y Z : Type 0} (p : Y → Bool) (h : Z → Y) (f : X → List Z) (xs : List X) → list_all p (flat_map (λ x. map h (f x)) xs) ≡ list_all (λ x. list_all (λ z. p (h z)) (f x)) xs
all_flat_map p h f [] = refl
all_flat_map p h f (x ∷ xs) =
    let front = list_all-map p h (f x) in
    let rest = all_flat_map p h f xs in
    list_all-append p (map h (f x)) (flat_map (λ y. map h (f y)) xs) ∙ (λ i. front i && rest i)

-- a test of all nodes, by the four kinds
pub nodes_split : (limit : ℕ) (m : Module) → list_all (needs_below limit) (nodes_of m) ≡ (list_all (λ c. needs_below limit (comb_node c)) m.combs && (list_all (λ r. needs_below limit (reg_node r)) m.regs && (list_all (λ (x : Mem). list_all (λ r. needs_below limit (read_node r)) x.reads) m.mems && list_all (λ (c : RamCell). list_all (λ s. needs_below limit (slot_node s)) c.slots) m.rams)))
nodes_split limit m =
    let p = needs_below limit in
    let slots = all_flat_map p slot_node (λ (c : RamCell). c.slots) m.rams in
    let reads = all_flat_map p read_node (λ (x : Mem). x.reads) m.mems in
    let third = list_all-append p (flat_map mem_nodes m.mems) (flat_map ram_nodes m.rams) ∙ (λ i. reads i && slots i) in
    let regs = list_all-map p reg_node m.regs in
    let second = list_all-append p (map reg_node m.regs) (flat_map mem_nodes m.mems ++ flat_map ram_nodes m.rams) ∙ (λ i. regs i && third i) in
    let combs = list_all-map p comb_node m.combs in
    list_all-append p (map comb_node m.combs) (map reg_node m.regs ++ (flat_map mem_nodes m.mems ++ flat_map ram_nodes m.rams)) ∙ (λ i. combs i && second i)

below_is : (limit n : ℕ) → bit_below limit (Net n) ≡ true → n < limit
below_is limit n h = grind arith

-- a node all of whose bits are below the limit needs nets below it
pub net_below : (limit : ℕ) (p : Node) → needs_below limit p ≡ true → (n : ℕ) → HasNet p.needs n → n < limit
net_below limit p h n (k, g) = below_is limit n (all_at (bit_below limit) p.needs h k (Net n) g)

-- the other way: nodes that need nets below the limit alone pass
bit_passes : (limit : ℕ) (b : Bit) → ((n : ℕ) → b ≡ Net n → n < limit) → bit_below limit b ≡ true
bit_passes limit Zero h = refl
bit_passes limit One h = refl
bit_passes limit (Net n) h = let lt = h n refl in grind (arith, lt)

pub bits_pass : (limit : ℕ) (bits : List Bit) → ((n : ℕ) → HasNet bits n → n < limit) → list_all (bit_below limit) bits ≡ true
bits_pass limit bits h = each_all (bit_below limit) (λ b. (n : ℕ) → b ≡ Net n → n < limit) (bit_passes limit) bits (λ k b e n is. h n (k, e ∙ ap (λ c. Some c) is))

pub needs_pass : (m : Module) → NetsWithin m → list_all (needs_below m.nets) (nodes_of m) ≡ true
needs_pass m within = each_all (needs_below m.nets) (λ p. (n : ℕ) → HasNet p.needs n → n < m.nets) (λ p h. bits_pass m.nets p.needs h) (nodes_of m) (λ i p at. within.needs i p at)

flat_length : {X Y Z : Type 0} (h : Z → Y) (f : X → List Z) (xs : List X) → length (flat_map (λ x. map h (f x)) xs) ≡ sum_by (λ x. length (f x)) xs
flat_length h f xs = length-flat_map (λ x. map h (f x)) xs ∙ ap (λ g. sum_by g xs) (λ j x. length-map (f x) h j)

-- the sums of one more
pub reads_more : (x : Mem) (xs : List Mem) → sum_by (λ (y : Mem). length y.reads) (x ∷ xs) ≡ length x.reads + sum_by (λ (y : Mem). length y.reads) xs
reads_more x xs = sum_by-cons (λ (y : Mem). length y.reads) x xs

pub slots_more : (c : RamCell) (cs : List RamCell) → sum_by (λ (d : RamCell). length d.slots) (c ∷ cs) ≡ length c.slots + sum_by (λ (d : RamCell). length d.slots) cs
slots_more c cs = sum_by-cons (λ (d : RamCell). length d.slots) c cs

-- the number of nodes
nodes_sum : (m : Module) → length (nodes_of m) ≡ length m.combs + (length m.regs + (sum_by (λ (x : Mem). length x.reads) m.mems + sum_by (λ (c : RamCell). length c.slots) m.rams))
nodes_sum m =
    let combs = map comb_node m.combs in
    let regs = map reg_node m.regs in
    let reads = flat_map mem_nodes m.mems in
    let slots = flat_map ram_nodes m.rams in
    let one = length-append combs (regs ++ (reads ++ slots)) in
    let two = length-append regs (reads ++ slots) in
    let three = length-append reads slots in
    let is_combs = length-map m.combs comb_node in
    let is_regs = length-map m.regs reg_node in
    let is_reads = flat_length read_node (λ (x : Mem). x.reads) m.mems in
    let is_slots = flat_length slot_node (λ (c : RamCell). c.slots) m.rams in
    omega (arith, one, two, three, is_combs, is_regs, is_reads, is_slots)

-- the number of nodes, where what is left of a room is known after each kind
pub nodes_counted : (m : Module) (room first second third left : ℕ) → length m.combs + first ≡ room → length m.regs + second ≡ first → sum_by (λ (x : Mem). length x.reads) m.mems + third ≡ second → sum_by (λ (c : RamCell). length c.slots) m.rams + left ≡ third → length (nodes_of m) + left ≡ room
nodes_counted m room first second third left a b c d = omega (arith, nodes_sum m, a, b, c, d)

-- the nodes are more than the room, where one kind is more than what is left of it
pub many_combs : (m : Module) (room : ℕ) → room < length m.combs → room < length (nodes_of m)
many_combs m room h = omega (arith, nodes_sum m, h)

pub many_regs : (m : Module) (room first : ℕ) → length m.combs + first ≡ room → first < length m.regs → room < length (nodes_of m)
many_regs m room first a h = omega (arith, nodes_sum m, a, h)

pub many_reads : (m : Module) (room first second : ℕ) → length m.combs + first ≡ room → length m.regs + second ≡ first → second < sum_by (λ (x : Mem). length x.reads) m.mems → room < length (nodes_of m)
many_reads m room first second a b h = omega (arith, nodes_sum m, a, b, h)

pub many_slots : (m : Module) (room first second third : ℕ) → length m.combs + first ≡ room → length m.regs + second ≡ first → sum_by (λ (x : Mem). length x.reads) m.mems + third ≡ second → third < sum_by (λ (c : RamCell). length c.slots) m.rams → room < length (nodes_of m)
many_slots m room first second third a b c h = omega (arith, nodes_sum m, a, b, c, h)
