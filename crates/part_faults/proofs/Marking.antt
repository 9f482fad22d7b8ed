-- Marks on nets, and which nets are among those that are marked.
use Rattle.std.proofs.Common.{◌≡◌, ℕ, zero, suc, ◌<◌, Bool, true, false, List, [], ◌∷◌, ◌++◌, length, get_or, replicate, ◌||◌, refl, ap, ◌∙◌, sym, arith}
use Rattle.std.specs.Prelude.{nat_eq, slice_set, if◌then◌else◌}
use Rattle.std.specs.List.{flat_map, list_any}
use Rattle.std.proofs.lemmas.Grind.{common_steps}
use Rattle.std.proofs.lemmas.Bool.Decides.{nat_tests}
use Rattle.net_core.specs.declared.bits.Bit.{Bit}
use Rattle.net_core.specs.declared.bits.Bit.TheVariants.{Zero, One, Net}
use Rattle.net_core.specs.declared.cells.Pin.{Pin}
use Rattle.net_core.specs.declared.modules.Module.{Module}
use Rattle.net_core.specs.Ports.{inputs_of, nets_of}
use Rattle.part_faults.specs.Driven.{comb_nets, driven_nets, is_driven, mark_bits, mark_cells, mark_comb, mark_each, mark_mem, mark_net, mark_nets, mark_part, mark_pin, mark_ram, mark_read, mark_reg, mark_slot, mem_nets, part_nets, pin_nets, ram_nets, read_nets, reg_nets, slot_nets, TellsDriven}

-- marks for nets one behind the other
marks_append : (marks : List Bool) (xs ys : List ℕ) → mark_nets marks (xs ++ ys) ≡ mark_nets (mark_nets marks xs) ys
unfolding mark_nets
marks_append marks [] ys = refl
marks_append marks (x ∷ xs) ys = marks_append (mark_net marks x) xs ys

-- what marks each item marks the nets of all
each_marks : {X : Type 0} (mark : List Bool → X → List Bool) (f : X → List ℕ) → ((marks : List Bool) (x : X) → mark marks x ≡ mark_nets marks (f x)) → (marks : List Bool) (xs : List X) → mark_each mark marks xs ≡ mark_nets marks (flat_map f xs)
unfolding mark_each mark_nets
each_marks mark f h marks [] = refl
each_marks mark f h marks (x ∷ xs) =
    ap (λ m. mark_each mark m xs) (h marks x) ∙ each_marks mark f h (mark_nets marks (f x)) xs ∙ sym (marks_append marks (f x) (flat_map f xs))

bits_marked : (marks : List Bool) (bs : List Bit) → mark_bits marks bs ≡ mark_nets marks (nets_of bs)
unfolding mark_bits mark_nets
bits_marked marks [] = refl
bits_marked marks (Zero ∷ bs) = bits_marked marks bs
bits_marked marks (One ∷ bs) = bits_marked marks bs
bits_marked marks (Net n ∷ bs) = bits_marked (mark_net marks n) bs

nothing_marked : (marks : List Bool) → marks ≡ mark_nets marks []
unfolding mark_nets
nothing_marked marks = refl

driving : (drives : Bool) (marks : List Bool) (bs : List Bit) → (if drives then mark_bits marks bs else marks) ≡ mark_nets marks (if drives then nets_of bs else [])
driving true marks bs = bits_marked marks bs
driving false marks bs = nothing_marked marks

pin_marked : (marks : List Bool) (p : Pin) → mark_pin marks p ≡ mark_nets marks (pin_nets p)
pin_marked marks p = driving p.drives marks p.bits

-- first these nets and then those
in_turn : (f g : List Bool → List Bool) (xs ys : List ℕ) → ((l : List Bool) → f l ≡ mark_nets l xs) → ((l : List Bool) → g l ≡ mark_nets l ys) → (l : List Bool) → g (f l) ≡ mark_nets l (xs ++ ys)
in_turn f g xs ys a b l = ap g (a l) ∙ b (mark_nets l xs) ∙ sym (marks_append l xs ys)

cells_marked : (m : Module) (marks : List Bool)
    → mark_cells marks m ≡ mark_nets marks (flat_map comb_nets m.combs ++ (flat_map reg_nets m.regs ++ (flat_map mem_nets m.mems ++ (flat_map ram_nets m.rams ++ flat_map part_nets m.parts))))
cells_marked m =
    let combs : List Bool → List Bool = λ l. mark_each mark_comb l m.combs in
    let regs : List Bool → List Bool = λ l. mark_each mark_reg l m.regs in
    let mems : List Bool → List Bool = λ l. mark_each mark_mem l m.mems in
    let rams : List Bool → List Bool = λ l. mark_each mark_ram l m.rams in
    let parts : List Bool → List Bool = λ l. mark_each mark_part l m.parts in
    in_turn combs (λ l. parts (rams (mems (regs l)))) _ _ (λ l. each_marks mark_comb comb_nets (λ k x. refl) l m.combs)
    (in_turn regs (λ l. parts (rams (mems l))) _ _ (λ l. each_marks mark_reg reg_nets (λ k x. refl) l m.regs)
    (in_turn mems (λ l. parts (rams l)) _ _ (λ l. each_marks mark_mem mem_nets (λ k x. each_marks mark_read read_nets (λ j y. refl) k x.reads) l m.mems)
    (in_turn rams parts _ _ (λ l. each_marks mark_ram ram_nets (λ k x. each_marks mark_slot slot_nets (λ j y. refl) k x.slots) l m.rams)
    (λ l. each_marks mark_part part_nets (λ k x. each_marks mark_pin pin_nets pin_marked k x.pins) l m.parts))))

-- ---- what is marked

one_of : (a b c : Bool) → (a || (b || c)) ≡ ((b || a) || c)
one_of true true c = refl
one_of true false c = refl
one_of false true c = refl
one_of false false c = refl

-- two tests that follow from each other are the same
bool_same : (a b : Bool) → (a ≡ true → b ≡ true) → (b ≡ true → a ≡ true) → a ≡ b
bool_same true b f g = sym (f refl)
bool_same false true f g = g refl
bool_same false false f g = refl

zero_first : (n : ℕ) → nat_eq zero (suc n) ≡ false
zero_first n = grind (arith, nat_tests)

zero_last : (n : ℕ) → nat_eq (suc n) zero ≡ false
zero_last n = grind (arith, nat_tests)

down : (m n : ℕ) → nat_eq (suc m) (suc n) ≡ true → nat_eq m n ≡ true
down m n h = grind (arith, nat_tests)

up : (m n : ℕ) → nat_eq m n ≡ true → nat_eq (suc m) (suc n) ≡ true
up m n h = grind (arith, nat_tests)

same_next : (m n : ℕ) → nat_eq (suc m) (suc n) ≡ nat_eq m n
same_next m n = bool_same (nat_eq (suc m) (suc n)) (nat_eq m n) (λ h. down m n h) (λ h. up m n h)

set_at : (marks : List Bool) (k n : ℕ) → n < length marks → get_or (slice_set marks k true) n false ≡ (nat_eq n k || get_or marks n false)
set_at [] k n h = absurd (omega (arith, h))
set_at (b ∷ bs) zero zero h = refl
set_at (b ∷ bs) zero (suc n) h = ap (λ e. e || get_or bs n false) (sym (zero_last n))
set_at (b ∷ bs) (suc k) zero h = ap (λ e. e || b) (sym (zero_first k))
set_at (b ∷ bs) (suc k) (suc n) h = set_at bs k n (omega (arith, h)) ∙ ap (λ e. e || get_or bs n false) (sym (same_next n k))

net_marked : (marks : List Bool) (k n : ℕ) → n < length marks → get_or (mark_net marks k) n false ≡ (nat_eq n k || get_or marks n false)
unfolding mark_net
net_marked marks k n h = set_at marks k n h

none_set : (count n : ℕ) → get_or (replicate count false) n false ≡ false
none_set zero n = refl
none_set (suc count) zero = refl
none_set (suc count) (suc n) = none_set count n

nets_kept : (marks : List Bool) (k : ℕ) → length (mark_net marks k) ≡ length marks
unfolding mark_net
nets_kept marks k = grind (arith, common_steps)

marked : (ns : List ℕ) (marks : List Bool) (n : ℕ) → n < length marks → get_or (mark_nets marks ns) n false ≡ (list_any (nat_eq n) ns || get_or marks n false)
unfolding mark_nets
marked [] marks n h = refl
marked (k ∷ ks) marks n h =
    let e : length (mark_net marks k) ≡ length marks = nets_kept marks k in
    marked ks (mark_net marks k) n (omega (arith, e, h)) ∙ ap (λ b. list_any (nat_eq n) ks || b) (net_marked marks k n h) ∙ one_of (list_any (nat_eq n) ks) (nat_eq n k) (get_or marks n false)

all_kept : (ns : List ℕ) (marks : List Bool) → length (mark_nets marks ns) ≡ length marks
unfolding mark_nets
all_kept [] marks = refl
all_kept (k ∷ ks) marks = all_kept ks (mark_net marks k) ∙ nets_kept marks k

none_or : (a : Bool) → (a || false) ≡ a
none_or true = refl
none_or false = refl

pub all_marked : (m : Module) (ins : List ℕ) (start first all : List Bool) → ins ≡ inputs_of m → start ≡ replicate m.nets false → first ≡ mark_nets start ins → all ≡ mark_cells first m → TellsDriven m all
unfolding driven_nets is_driven
all_marked m ins start first all ei es ef ea n h =
    let e : all ≡ mark_nets (replicate m.nets false) (driven_nets m) =
    ea ∙ ap (λ l. mark_cells l m) (ef ∙ (λ i. mark_nets (es i) (ei i))) ∙ in_turn (λ l. mark_nets l (inputs_of m)) (λ l. mark_cells l m) (inputs_of m) _ (λ l. refl) (cells_marked m) (replicate m.nets false) in
    let within : n < length (replicate m.nets false) = rw (ap length e ∙ all_kept (driven_nets m) (replicate m.nets false)) at h in
    ap (λ l. get_or l n false) e ∙ marked (driven_nets m) (replicate m.nets false) n within ∙ ap (λ b. list_any (nat_eq n) (driven_nets m) || b) (none_set m.nets n) ∙ none_or (list_any (nat_eq n) (driven_nets m))
