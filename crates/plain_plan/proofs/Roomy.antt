-- The room of plain choices.
use Rattle.std.proofs.Common.{◌≡◌, ℕ, suc, ◌+◌, ◌-◌, ◌*◌, ◌≤◌, ◌<◌, true, false, ◌&&◌, cond, nat_le, nat_lt, List, [], ◌∷◌, ◌++◌, length, take, drop, take_all, get_or, refl, sym, ap, subst, ◌∙◌, arith}
use Rattle.std.specs.Prelude.{Some, None}
use Rattle.lib_core.specs.declared.library.Library.{Library}
use Rattle.lib_core.specs.declared.library.Variant.{Variant}
use Rattle.net_core.specs.declared.mems.Mem.{Mem}
use Rattle.net_core.specs.declared.modules.Module.{Module}
use Rattle.net_core.specs.declared.modules.Design.{Design}
use Rattle.net_core.specs.Valid.{Each, MemFits}
use Rattle.geom_core.specs.declared.candidates.RamChoice.{RamChoice}
use Rattle.fit_rules.specs.declared.plans.Plan.{Plan}
use Rattle.fit_rules.specs.Fits.{spot_of, is_spot, variant_at, shape_in}
use Rattle.fit_rules.specs.Limits.{LibraryLimits, MemLimits, VariantLimits, IsSpot}
use Rattle.fit_rules.specs.Rules.{new_nets, can_start, lanes_stand, order_met, is_small, ports_met, rest_met, ram_fits}
use Rattle.fit_rules.specs.Shape.{copies, rows, columns, cells}
use Rattle.fit_rules.proofs.Chosen as chosen
use Rattle.fit_rules.proofs.Valid.{valid_is_within}
use Rattle.fit_rules.proofs.Lengths.{and_right}
use Rattle.ram_emit.specs.Plain.{IsPlain, IsPlainCandidate}
use Rattle.plain_plan.specs.Planned.{job_of, mems_of, ArePlain}
use Rattle.plain_plan.specs.Rooms.{room_at, room_of, rooms, nets_in_all, first_over}

pub memory_within : (x : Mem) → MemFits x → MemLimits x
memory_within x h = valid_is_within x h

pub variant_within : (lib : Library) (ram n : ℕ) (v : Variant) → LibraryLimits lib → variant_at lib ram n ≡ Some v → VariantLimits v
variant_within lib ram n v h e = chosen.variant_limits lib ram n v h e

pub spot_within : (lib : Library) (x : Mem) (c : RamChoice) (v : Variant) → IsPlain lib (job_of x) c → variant_at lib c.ram c.variant ≡ Some v → IsSpot v (spot_of c)
spot_within lib x c v p e = chosen.spot_met (job_of x) lib c v p.fits e

pub few_reads : (lib : Library) (x : Mem) (c : RamChoice) → IsPlain lib (job_of x) c → length x.reads ≤ 8
few_reads lib x c p = omega (arith, p.memory.one_read)

pub few_writes : (lib : Library) (x : Mem) (c : RamChoice) → IsPlain lib (job_of x) c → length x.writes ≤ 4
few_writes lib x c p = omega (arith, p.memory.one_write)

ones : (a b c : ℕ) → a ≡ 1 → b ≡ 1 → c ≡ 1 → a * b * c ≡ 1
ones a b c e f g = rw (e, f, g) refl

one_cell : (lib : Library) (x : Mem) (c : RamChoice) (v : Variant) → IsPlain lib (job_of x) c → variant_at lib c.ram c.variant ≡ Some v → cells x v (spot_of c) c.writes c.reads ≡ 1
one_cell lib x c v p e =
    let shape = sym (ap (shape_in (job_of x) c) e) ∙ p.one_cell in
    ones (copies v c.writes c.reads) (rows x v (spot_of c)) (columns x v (spot_of c)) (ap (λ s. s.copies) shape) (ap (λ s. s.rows) shape) (ap (λ s. s.columns) shape)

-- the room is that of one cell
pub room_is : (lib : Library) (x : Mem) (c : RamChoice) (v : Variant) → IsPlain lib (job_of x) c → variant_at lib c.ram c.variant ≡ Some v → new_nets x v (spot_of c) 1 ≡ room_at x c (variant_at lib c.ram c.variant)
room_is lib x c v p e = ap (new_nets x v (spot_of c)) (sym (one_cell lib x c v p e)) ∙ sym (ap (room_at x c) e)

le_true : (a b : ℕ) → nat_le a b ≡ true → a ≤ b
le_true a b e = grind arith

-- and it is small, since the choice fits
pub room_few : (lib : Library) (x : Mem) (c : RamChoice) (v : Variant) → IsPlain lib (job_of x) c → variant_at lib c.ram c.variant ≡ Some v → new_nets x v (spot_of c) 1 ≤ 16777216
unfolding ram_fits
room_few lib x c v p e =
    let s = spot_of c in
    let here = chosen.fits_here (job_of x) lib c v p.fits e in
    let fits = and_right (is_spot v s) (ram_fits (job_of x) v s c.writes c.reads) here in
    let rest = and_right (ports_met x v s c.writes c.reads) (rest_met (job_of x) v s c.writes c.reads) fits in
    let start = and_right (lanes_stand x v s c.writes) (can_start x v && (order_met (job_of x) v c.writes c.reads && is_small x v s c.writes c.reads)) rest in
    let order = and_right (can_start x v) (order_met (job_of x) v c.writes c.reads && is_small x v s c.writes c.reads) start in
    let small = and_right (order_met (job_of x) v c.writes c.reads) (is_small x v s c.writes c.reads) order in
    let nets = and_right (nat_le (cells x v s c.writes c.reads) 4096) (nat_le (new_nets x v s (cells x v s c.writes c.reads)) 16777216) small in
    subst (λ n. new_nets x v s n ≤ 16777216) (one_cell lib x c v p e) (le_true (new_nets x v s (cells x v s c.writes c.reads)) 16777216 nets)

-- the plans of the first memories, and of the others
pub plain_split : (lib : Library) (xs ys : List Mem) (ps : List Plan) → ArePlain lib (xs ++ ys) ps → ArePlain lib xs ps × ArePlain lib ys (drop (length xs) ps)
plain_split lib [] ys ps h = (tt, h)
plain_split lib (x ∷ xs) ys [] h = absurd h
plain_split lib (x ∷ xs) ys (p ∷ ps) h = let rest = plain_split lib xs ys ps h.1 in ((h.0, rest.0), rest.1)

pub plain_count : (lib : Library) (xs : List Mem) (ps : List Plan) → ArePlain lib xs ps → length xs ≤ length ps
plain_count lib [] ps h = omega arith
plain_count lib (x ∷ xs) [] h = absurd h
plain_count lib (x ∷ xs) (p ∷ ps) h = omega (arith, plain_count lib xs ps h.1)

pub plain_here : (lib : Library) (m : Module) (ms : List Module) (ps : List Plan) → ArePlain lib (mems_of (m ∷ ms)) ps → ArePlain lib m.mems ps
plain_here lib m ms ps h = (plain_split lib m.mems (mems_of ms) ps h).0

pub plain_there : (lib : Library) (m : Module) (ms : List Module) (ps : List Plan) → ArePlain lib (mems_of (m ∷ ms)) ps → ArePlain lib (mems_of ms) (drop (length m.mems) ps)
plain_there lib m ms ps h = (plain_split lib m.mems (mems_of ms) ps h).1

pub enough_plans : (lib : Library) (m : Module) (ms : List Module) (ps : List Plan) → ArePlain lib (mems_of (m ∷ ms)) ps → length m.mems ≤ length ps
enough_plans lib m ms ps h = plain_count lib m.mems ps (plain_here lib m ms ps h)

-- the sum over the first memories, and what is left to sum
pub record Summed (lib : Library) (m : Module) (plans : List Plan) (nets : ℕ) (xs : List Mem) (ps : List Plan) : Type 0 where
  pub sum : nets + rooms lib xs ps ≡ nets_in_all lib m plans
  pub few : nets + 16777216 * length xs ≤ m.nets + 16777216 * length m.mems
  pub fits : Each xs MemFits
  pub plain : ArePlain lib xs ps

pub none_summed : (lib : Library) (m : Module) (plans : List Plan) (nets : ℕ) (xs : List Mem) → nets ≡ m.nets → xs ≡ m.mems → Each m.mems MemFits → ArePlain lib m.mems plans → Summed lib m plans nets xs plans
none_summed lib m plans nets xs e f fits plain = record {
  sum = λ i. e i + rooms lib (f i) plans;
  few = let count = ap length f in omega (arith, e, count);
  fits = subst (λ l. Each l MemFits) (sym f) fits;
  plain = subst (λ l. ArePlain lib l plans) (sym f) plain;
}

tail_is : {X : Type 0} (x : X) (xs : List X) → take (length (x ∷ xs) - 1) xs ≡ xs
tail_is x xs = take_all (length (x ∷ xs) - 1) xs (omega arith)

pub first_plain : (lib : Library) (xs : List Mem) (x : Mem) (ps : List Plan) (p : Plan) → 1 ≤ length xs → x ≡ get_or xs 0 x → 1 ≤ length ps → p ≡ get_or ps 0 p → ArePlain lib xs ps → IsPlainCandidate lib (job_of x) p.candidate
first_plain lib [] x ps p some e some_plans f plain = absurd (omega (arith, some))
first_plain lib (y ∷ xs) x [] p some e some_plans f plain = absurd plain
first_plain lib (y ∷ xs) x (q ∷ ps) p some e some_plans f plain = subst (λ (z : Mem). IsPlainCandidate lib (job_of z) p.candidate) (sym e) (subst (λ (r : Plan). IsPlainCandidate lib (job_of y) r.candidate) (sym f) plain.0)

pub one_summed : (lib : Library) (m : Module) (plans : List Plan) (nets after more : ℕ) (xs : List Mem) (x : Mem) (ps : List Plan) (p : Plan) → 1 ≤ length xs → x ≡ get_or xs 0 x → 1 ≤ length ps → p ≡ get_or ps 0 p → more ≡ room_of lib x p.candidate → more ≤ 16777216 → after ≡ nets + more → Summed lib m plans nets xs ps → Summed lib m plans after (take (length xs - 1) (drop 1 xs)) (take (length ps - 1) (drop 1 ps))
one_summed lib m plans nets after more [] x ps p some e some_plans f is few total s = absurd (omega (arith, some))
one_summed lib m plans nets after more (y ∷ xs) x [] p some e some_plans f is few total s = absurd s.plain
one_summed lib m plans nets after more (y ∷ xs) x (q ∷ ps) p some e some_plans f is few total s =
    let room : more ≡ room_of lib y q.candidate = is ∙ (λ i. room_of lib (e i) (f i).candidate) in
    let sum = s.sum in
    let before = s.few in
    let whole : Summed lib m plans after xs ps = record {
      sum = let both : after + rooms lib xs ps ≡ nets + (room_of lib y q.candidate + rooms lib xs ps) = omega (arith, total, room) in both ∙ sum;
      few = omega (arith, total, few, before);
      fits = λ i z at. s.fits (suc i) z at;
      plain = s.plain.1;
    } in
    subst (λ ys. Summed lib m plans after ys (take (length (q ∷ ps) - 1) ps)) (sym (tail_is y xs)) (subst (Summed lib m plans after xs) (sym (tail_is q ps)) whole)

pub all_summed : (lib : Library) (m : Module) (plans : List Plan) (nets : ℕ) (xs : List Mem) (ps : List Plan) → length xs ≤ 0 → Summed lib m plans nets xs ps → nets ≡ nets_in_all lib m plans
all_summed lib m plans nets [] ps none s = let sum = s.sum in omega (arith, sum)
all_summed lib m plans nets (x ∷ xs) ps none s = absurd (omega (arith, none))

pub run_out : (lib : Library) (m : Module) (plans : List Plan) (nets : ℕ) (xs : List Mem) (ps : List Plan) → length ps ≤ 0 → Summed lib m plans nets xs ps → nets ≡ nets_in_all lib m plans
run_out lib m plans nets [] ps none s = let sum = s.sum in omega (arith, sum)
run_out lib m plans nets (x ∷ xs) [] none s = let sum = s.sum in omega (arith, sum)
run_out lib m plans nets (x ∷ xs) (p ∷ ps) none s = absurd (omega (arith, none))

-- the first modules have room; those that are left, and their plans
pub record OverFrom (lib : Library) (d : Design) (plans : List Plan) (ms : List Module) (ps : List Plan) : Type 0 where
  pub over : first_over lib ms ps ≡ first_over lib d.modules plans
  pub fits : Each ms (λ m. Each m.mems MemFits)
  pub plain : ArePlain lib (mems_of ms) ps

pub begin_over : (lib : Library) (d : Design) (plans : List Plan) (ms : List Module) → ms ≡ d.modules → Each d.modules (λ m. Each m.mems MemFits) → ArePlain lib (mems_of d.modules) plans → OverFrom lib d plans ms plans
begin_over lib d plans ms e fits plain = record {
  over = ap (λ l. first_over lib l plans) e;
  fits = subst (λ l. Each l (λ m. Each m.mems MemFits)) (sym e) fits;
  plain = subst (λ l. ArePlain lib (mems_of l) plans) (sym e) plain;
}

pub module_plain : (lib : Library) (ms : List Module) (m : Module) (ps : List Plan) → 1 ≤ length ms → m ≡ get_or ms 0 m → ArePlain lib (mems_of ms) ps → ArePlain lib m.mems ps
module_plain lib [] m ps some e plain = absurd (omega (arith, some))
module_plain lib (n ∷ ms) m ps some e plain = subst (λ (k : Module). ArePlain lib k.mems ps) (sym e) (plain_here lib n ms ps plain)

pub module_plans : (lib : Library) (ms : List Module) (m : Module) (ps : List Plan) → 1 ≤ length ms → m ≡ get_or ms 0 m → ArePlain lib (mems_of ms) ps → length m.mems ≤ length ps
module_plans lib ms m ps some e plain = plain_count lib m.mems ps (module_plain lib ms m ps some e plain)

not_less : (a b : ℕ) → b ≤ a → nat_lt a b ≡ false
not_less a b h = grind (arith, h)

is_less : (a b : ℕ) → a < b → nat_lt a b ≡ true
is_less a b h = grind (arith, h)

pub next_over : (lib : Library) (d : Design) (plans : List Plan) (ms : List Module) (m : Module) (ps tail : List Plan) (nets count : ℕ) → 1 ≤ length ms → m ≡ get_or ms 0 m → nets ≡ nets_in_all lib m ps → nets ≤ 67108864 → count ≡ length m.mems → tail ≡ drop count ps → OverFrom lib d plans ms ps → OverFrom lib d plans (take (length ms - 1) (drop 1 ms)) tail
next_over lib d plans [] m ps tail nets count some e is few length_is tail_here o = absurd (omega (arith, some))
next_over lib d plans (n ∷ ms) m ps tail nets count some e is few length_is tail_here o =
    let here : nets_in_all lib n ps ≤ 67108864 = subst (λ k. k ≤ 67108864) (is ∙ ap (λ (k : Module). nets_in_all lib k ps) e) few in
    let dropped : tail ≡ drop (length n.mems) ps = tail_here ∙ (ap (λ k. drop k ps) length_is ∙ ap (λ (k : Module). drop (length k.mems) ps) e) in
    let goes_on : first_over lib (n ∷ ms) ps ≡ first_over lib ms (drop (length n.mems) ps) = ap (λ b. cond b (Some (nets_in_all lib n ps)) (first_over lib ms (drop (length n.mems) ps))) (not_less 67108864 (nets_in_all lib n ps) here) in
    let whole : OverFrom lib d plans ms tail = record {
      over = ap (first_over lib ms) dropped ∙ (sym goes_on ∙ o.over);
      fits = λ i k at. o.fits (suc i) k at;
      plain = subst (ArePlain lib (mems_of ms)) (sym dropped) (plain_there lib n ms ps o.plain);
    } in
    subst (λ l. OverFrom lib d plans l tail) (sym (tail_is n ms)) whole

pub first_over_is : (lib : Library) (d : Design) (plans : List Plan) (ms : List Module) (m : Module) (ps : List Plan) (nets : ℕ) → 1 ≤ length ms → m ≡ get_or ms 0 m → nets ≡ nets_in_all lib m ps → 67108864 < nets → OverFrom lib d plans ms ps → Some nets ≡ first_over lib d.modules plans
first_over_is lib d plans [] m ps nets some e is more o = absurd (omega (arith, some))
first_over_is lib d plans (n ∷ ms) m ps nets some e is more o =
    let same : nets ≡ nets_in_all lib n ps = is ∙ ap (λ (k : Module). nets_in_all lib k ps) e in
    let here : 67108864 < nets_in_all lib n ps = subst (λ k. 67108864 < k) same more in
    let stops : first_over lib (n ∷ ms) ps ≡ Some (nets_in_all lib n ps) = ap (λ b. cond b (Some (nets_in_all lib n ps)) (first_over lib ms (drop (length n.mems) ps))) (is_less 67108864 (nets_in_all lib n ps) here) in
    ap (λ k. Some k) same ∙ (sym stops ∙ o.over)

pub none_over : (lib : Library) (d : Design) (plans : List Plan) (ms : List Module) (ps : List Plan) → length ms ≤ 0 → OverFrom lib d plans ms ps → None ≡ first_over lib d.modules plans
none_over lib d plans [] ps none o = o.over
none_over lib d plans (m ∷ ms) ps none o = absurd (omega (arith, none))
