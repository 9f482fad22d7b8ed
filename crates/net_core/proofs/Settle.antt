-- An ordered module has a run over every list of happenings: the values of nets are computed along the ranks, and each free
-- choice is made once.
use Rattle.std.proofs.Common.{◌≡◌, ℕ, zero, suc, ◌+◌, ◌*◌, ◌<◌, Bool, true, false, cond, ◌&&◌, inl, inr, List, [], ◌∷◌, ◌++◌, length, Option, Some, None, refl, sym, ap, ◌∙◌, subst, arith}
use Rattle.std.specs.Prelude.{slice_get}
use Rattle.std.proofs.Math.Dec.{eqb}
use Rattle.std.proofs.lemmas.Option.{same_Some}
use Rattle.std.proofs.lemmas.Bool.{eqb-true, eq-eqb}
use Rattle.lib_core.specs.declared.library.Tri.{Tri}
use Rattle.lib_core.specs.declared.library.Tri.TheVariants.{Zero, One, Any}
use Rattle.lib_core.specs.declared.library.Library.{Library}
use Rattle.lib_core.specs.declared.library.Group.{Group}
use Rattle.lib_core.specs.declared.library.Variant.{Variant}
use Rattle.lib_core.specs.declared.library.PortKind.{PortKind}
use Rattle.lib_core.specs.declared.library.PortKind.TheVariants.{Ar, Sr, Sw, Arsw, Srsw}
use Rattle.lib_core.specs.Rams.{tri_at, lies, filled, last_width, reads_now, reads_later}
use Rattle.net_core.specs.declared.bits.Clock.{Clock}
use Rattle.net_core.specs.declared.cells.Comb.{Comb}
use Rattle.net_core.specs.declared.cells.Reg.{Reg}
use Rattle.net_core.specs.declared.mems.Mem.{Mem}
use Rattle.net_core.specs.declared.mems.RdPort.{RdPort}
use Rattle.net_core.specs.declared.rams.RamCell.{RamCell}
use Rattle.net_core.specs.declared.rams.SlotUse.{SlotUse}
use Rattle.net_core.specs.declared.modules.Module.{Module}
use Rattle.net_core.specs.Values.{Valuation, Wave, Happening, At, number_of, tri_of, Agrees, same_bool}
use Rattle.net_core.specs.Logic.{comb_shows}
use Rattle.net_core.specs.Cells.{CombAllows, RegAllows, reg_shows, reg_next, has_arst}
use Rattle.net_core.specs.Memory.{Frame, frame_of, base_of, hits, written, read_bit, read_shows, read_next, ReadAllows, MemAllows}
use Rattle.net_core.specs.Ram.{Slot, group_slots, skip, slots_from, slots_of, word_of, slot_hits, slots_written, slot_in_arst, slot_next, SlotAllows, RamAllows}
use Rattle.net_core.specs.Ports.{inputs_of}
use Rattle.net_core.specs.Nodes.{Node, comb_node, reg_node, read_needs, read_node, slot_node, HasNet, Drives, Rises, Ordered}
use Rattle.net_core.specs.Drivers.{Driver, Free, Input, CombOut, RegOut, ReadOut, SlotOut, HasOneDriver}
use Rattle.net_core.specs.Runs.{variant_of, Live, ReadsAgree}
use Rattle.net_core.proofs.Basics.{get_joined, has_left, has_right, value_same, values_same}

-- a value that a bit which may be undefined can have
abbrev pub settled_bit : Tri → Bool
settled_bit Zero = false
settled_bit One = true
settled_bit Any = false

pub settled_agrees : (t : Tri) → Agrees t (settled_bit t)
settled_agrees Zero = refl
settled_agrees One = refl
settled_agrees Any = tt

-- what is made of a value that may be missing
abbrev given : {A B : Type 0} → Option A → B → (A → B) → B
given None d f = d
given (Some x) d f = f x

given_same : {A B : Type 0} (o : Option A) (d : B) (f g : A → B) → ((x : A) → o ≡ Some x → f x ≡ g x) → given o d f ≡ given o d g
given_same None d f g h = refl
given_same (Some x) d f g h = h x refl

given_is : {A B : Type 0} (o : Option A) (d : B) (f : A → B) (x : A) → o ≡ Some x → given o d f ≡ f x
given_is o d f x h = ap (λ y. given y d f) h

-- a value for the net n alone
abbrev guarded : Option ℕ → ℕ → Tri → Bool
guarded None n t = false
guarded (Some x) n t = cond (eqb x n) (settled_bit t) false

guard_same : (q : Option ℕ) (n : ℕ) (a b : Tri) → (q ≡ Some n → a ≡ b) → guarded q n a ≡ guarded q n b
guard_same None n a b h = refl
guard_same (Some x) n a b h =
    let P : Bool → Type 0 = λ t. eqb x n ≡ t → cond t (settled_bit a) false ≡ cond t (settled_bit b) false in
    let f : P (eqb x n) = elim (eqb x n) as P [ true ↦ λ e. ap settled_bit (h (ap Some (eqb-true x n e))) | false ↦ λ e. refl ] in
    f refl

guard_is : (q : Option ℕ) (n : ℕ) (t : Tri) → q ≡ Some n → guarded q n t ≡ settled_bit t
guard_is q n t h = ap (λ o. guarded o n t) h ∙ ap (λ b. cond b (settled_bit t) false) (eq-eqb n n refl)

-- the slots of a cell are its uses, in their order
skipped : (n j : ℕ) (pins : List SlotUse) (p : SlotUse) → slice_get (skip n pins) j ≡ Some p → slice_get pins (n + j) ≡ Some p
skipped zero j pins p h = let e : 0 + j ≡ j = omega arith in ap (slice_get pins) e ∙ h
skipped (suc n) j [] p h = cc
skipped (suc n) j (q ∷ ps) p h = let e : suc n + j ≡ suc (n + j) = omega arith in ap (slice_get (q ∷ ps)) e ∙ skipped n j ps p h

group_pins : (number g : ℕ) (kind : Group) (n : ℕ) (pins : List SlotUse) (i : ℕ) (s : Slot) → slice_get (group_slots number g kind n pins) i ≡ Some s → slice_get pins i ≡ Some s.pins
group_pins number g kind zero pins i s h = cc
group_pins number g kind (suc n) [] i s h = cc
group_pins number g kind (suc n) (p ∷ ps) zero s h = ap Some (ap (λ (x : Slot). x.pins) (same_Some _ s h))
group_pins number g kind (suc n) (p ∷ ps) (suc i) s h = group_pins (number + 1) g kind n ps i s h

group_length : (number g : ℕ) (kind : Group) (n : ℕ) (pins : List SlotUse) (j : ℕ) (p : SlotUse) → slice_get (skip n pins) j ≡ Some p → length (group_slots number g kind n pins) ≡ n
group_length number g kind zero pins j p h = refl
group_length number g kind (suc n) [] j p h = cc
group_length number g kind (suc n) (q ∷ ps) j p h = ap suc (group_length (number + 1) g kind n ps j p h)

slots_pins : (number g : ℕ) (kinds : List Group) (pins : List SlotUse) (i : ℕ) (s : Slot) → slice_get (slots_from number g kinds pins) i ≡ Some s → slice_get pins i ≡ Some s.pins
slots_pins number g [] pins i s h = cc
slots_pins number g (kind ∷ kinds) pins i s h =
    let here = group_slots number g kind (length kind.names) pins in
    let rest = slots_from (number + length kind.names) (g + 1) kinds (skip (length kind.names) pins) in
    elim (get_joined here rest i s h) [
      | inl at ↦ group_pins number g kind (length kind.names) pins i s at
      | inr (j, e, at) ↦
          let later = slots_pins (number + length kind.names) (g + 1) kinds (skip (length kind.names) pins) j s at in
          let long = group_length number g kind (length kind.names) pins j s.pins later in
          let place : i ≡ length kind.names + j = e ∙ ap (λ n. n + j) long in
          ap (slice_get pins) place ∙ skipped (length kind.names) j pins s.pins later
    ]

pub pins_at : (x : Variant) (c : RamCell) (j : ℕ) (s : Slot) → slice_get (slots_of x c) j ≡ Some s → slice_get c.slots j ≡ Some s.pins
pins_at x c j s h = slots_pins 0 0 x.groups c.slots j s h

later_not_now : (k : PortKind) → reads_later k ≡ true → reads_now k ≡ false
later_not_now Ar h = cc
later_not_now Sr h = refl
later_not_now Sw h = cc
later_not_now Arsw h = cc
later_not_now Srsw h = refl

-- what all cells keep
record State : Type 0 where
  reg : ℕ → ℕ → Bool
  word : ℕ → ℕ → ℕ → Tri
  read : ℕ → ℕ → ℕ → Bool
  cell : ℕ → ℕ → ℕ → Tri
  slot : ℕ → ℕ → ℕ → Bool

-- what a read port and a slot show
abbrev port_tri : Option Clock → Frame → (ℕ → ℕ → Tri) → (ℕ → Bool) → RdPort → Valuation → ℕ → Tri
port_tri None f words kept r v k = read_bit f (base_of v r.addr) k words
port_tri (Some c) f words kept r v k = read_shows r v kept k

abbrev now_tri : Variant → Slot → (ℕ → ℕ → Tri) → Valuation → ℕ → Tri
now_tri x s words v k = words (lies x s.pins.level (word_of v s) k).0 (lies x s.pins.level (word_of v s) k).1

abbrev later_tri : Slot → (ℕ → Bool) → Valuation → ℕ → Tri
later_tri s kept v k = cond (slot_in_arst v s) (filled s.kind.arst s.pins.arst_value k) (tri_of (kept k))

abbrev slot_tri : Bool → Variant → Slot → (ℕ → ℕ → Tri) → (ℕ → Bool) → Valuation → ℕ → Tri
slot_tri true x s words kept v k = now_tri x s words v k
slot_tri false x s words kept v k = later_tri s kept v k

-- the values that each of them gives a net
abbrev read_value : Mem → (ℕ → ℕ → Tri) → (ℕ → Bool) → Valuation → ℕ → ℕ → RdPort → Bool
read_value x words kept v k n r = guarded (slice_get r.out k) n (port_tri r.clock (frame_of x) words kept r v k)

abbrev slot_value : Variant → (ℕ → ℕ → Tri) → (ℕ → Bool) → Valuation → ℕ → ℕ → Slot → Bool
slot_value x words kept v k n s = guarded (slice_get s.pins.out k) n (slot_tri s.pins.reads_now x s words kept v k)

abbrev driver_value : Library → Module → Happening → State → Valuation → ℕ → Driver → Bool
driver_value lib m e s v n Free = false
driver_value lib m e s v n (Input k) = given (slice_get e.values k) false (λ b. b)
driver_value lib m e s v n (CombOut i k) = given (slice_get m.combs i) false (λ c. guarded (slice_get c.y k) n (comb_shows c v k))
driver_value lib m e s v n (RegOut i k) = given (slice_get m.regs i) false (λ r. guarded (slice_get r.q k) n (reg_shows r v (s.reg i) k))
driver_value lib m e s v n (ReadOut i j k) = given (slice_get m.mems i) false (λ x. given (slice_get x.reads j) false (read_value x (s.word i) (s.read i j) v k n))
driver_value lib m e s v n (SlotOut i j k) = given (slice_get m.rams i) false (λ c. given (variant_of lib c) false (λ x. given (slice_get (slots_of x c) j) false (slot_value x (s.cell i) (s.slot i j) v k n)))

-- two valuations that agree below a rank
abbrev SameBelow : (ℕ → ℕ) → ℕ → Valuation → Valuation → Type 0
SameBelow rank top v w = (n : ℕ) → rank n < top → v n ≡ w n

module _ (rank : ℕ → ℕ) (v w : Valuation) (n : ℕ) (same : SameBelow rank (rank n) v w) where
  on_needs : (p : Node) → Rises rank p → Drives p n → (x : ℕ) → HasNet p.needs x → v x ≡ w x
  on_needs p rises d x h = same x (rises n x d h)

  comb_same : (c : Comb) (k : ℕ) → Rises rank (comb_node c) → guarded (slice_get c.y k) n (comb_shows c v k) ≡ guarded (slice_get c.y k) n (comb_shows c w k)
  comb_same c k rises =
      guard_same (slice_get c.y k) n _ _ (λ at.
      let on = on_needs (comb_node c) rises (k, at) in
      let a = values_same v w c.a (λ x h. on x (has_left (c.a ++ c.b) c.s x (has_left c.a c.b x h))) in
      let b = values_same v w c.b (λ x h. on x (has_left (c.a ++ c.b) c.s x (has_right c.a c.b x h))) in
      let s = values_same v w c.s (λ x h. on x (has_right (c.a ++ c.b) c.s x h)) in
      cc)

  reg_same : (r : Reg) (kept : ℕ → Bool) (k : ℕ) → Rises rank (reg_node r) → guarded (slice_get r.q k) n (reg_shows r v kept k) ≡ guarded (slice_get r.q k) n (reg_shows r w kept k)
  reg_same r kept k rises =
      guard_same (slice_get r.q k) n _ _ (λ at.
      ap (λ b. cond (has_arst r.kind && same_bool b r.arst_high) (tri_at r.arst_value k) (tri_of (kept k))) (value_same v w r.arst [] (on_needs (reg_node r) rises (k, at))))

  port_same : (c : Option Clock) (f : Frame) (words : ℕ → ℕ → Tri) (kept : ℕ → Bool) (r : RdPort) (k : ℕ) → ((x : ℕ) → HasNet (read_needs c r) x → v x ≡ w x) → port_tri c f words kept r v k ≡ port_tri c f words kept r w k
  port_same None f words kept r k on = ap (λ a. read_bit f (number_of a) k words) (values_same v w r.addr on)
  port_same (Some c) f words kept r k on = ap (λ b. cond b (tri_at r.arst_value k) (tri_of (kept k))) (value_same v w r.arst [] on)

  read_same : (x : Mem) (words : ℕ → ℕ → Tri) (kept : ℕ → Bool) (k : ℕ) (r : RdPort) → Rises rank (read_node r) → read_value x words kept v k n r ≡ read_value x words kept w k n r
  read_same x words kept k r rises =
      guard_same (slice_get r.out k) n _ _ (λ at. port_same r.clock (frame_of x) words kept r k (on_needs (read_node r) rises (k, at)))

  slot_tri_same : (now : Bool) (x : Variant) (s : Slot) (words : ℕ → ℕ → Tri) (kept : ℕ → Bool) (k : ℕ) → ((y : ℕ) → HasNet (cond now s.pins.addr (s.pins.arst ∷ [])) y → v y ≡ w y) → slot_tri now x s words kept v k ≡ slot_tri now x s words kept w k
  slot_tri_same true x s words kept k on =
      let e = values_same v w s.pins.addr on in
      let word : word_of v s ≡ word_of w s = cc in
      ap (λ a. words (lies x s.pins.level a k).0 (lies x s.pins.level a k).1) word
  slot_tri_same false x s words kept k on =
      let e = value_same v w s.pins.arst [] on in
      let reset : slot_in_arst v s ≡ slot_in_arst w s = cc in
      ap (λ b. cond b (filled s.kind.arst s.pins.arst_value k) (tri_of (kept k))) reset

  slot_same : (x : Variant) (words : ℕ → ℕ → Tri) (kept : ℕ → Bool) (k : ℕ) (s : Slot) → Rises rank (slot_node s.pins) → slot_value x words kept v k n s ≡ slot_value x words kept w k n s
  slot_same x words kept k s rises =
      guard_same (slice_get s.pins.out k) n _ _ (λ at. slot_tri_same s.pins.reads_now x s words kept k (on_needs (slot_node s.pins) rises (k, at)))

module _ (lib : Library) (m : Module) where
  -- going along the order
  rounds : (ℕ → Driver) → Happening → State → ℕ → Valuation
  rounds d e s zero n = false
  rounds d e s (suc r) n = driver_value lib m e s (rounds d e s r) n (d n)

  abbrev next_reg : Happening → Valuation → (ℕ → Bool) → ℕ → Reg → Bool
  next_reg e v kept k r =
      given (slice_get r.q k) (kept k) (λ q. given (slice_get r.d k) (kept k) (λ d. settled_bit (reg_next (inputs_of m) r e v kept k q d)))

  abbrev next_word : Happening → Valuation → (ℕ → ℕ → Tri) → ℕ → ℕ → Mem → Tri
  next_word e v words word k x = written x.writes (hits (inputs_of m) (frame_of x) e v word k x.writes) (words word k)

  abbrev next_port : Happening → Valuation → Mem → (ℕ → ℕ → Tri) → (ℕ → Bool) → ℕ → RdPort → Bool
  next_port e v x words kept k r =
      given r.clock (kept k) (λ c. given (slice_get r.out k) (kept k) (λ out. settled_bit (read_next (inputs_of m) (frame_of x) x.writes c r e v words kept k out)))

  abbrev next_cell : Happening → Valuation → (ℕ → ℕ → Tri) → ℕ → ℕ → RamCell → Variant → Tri
  next_cell e v words word k c x = slots_written (slots_of x c) (slot_hits (inputs_of m) x e v word k (slots_of x c)) (words word k)

  abbrev next_slot : Happening → Valuation → RamCell → Variant → (ℕ → ℕ → Tri) → (ℕ → Bool) → ℕ → Slot → Bool
  next_slot e v c x words kept k s =
      given (slice_get s.pins.out k) (kept k) (λ out. settled_bit (slot_next (inputs_of m) x (slots_of x c) s e v words kept k out))

  abbrev next : Happening → Valuation → State → State
  next e v s = record {
    reg = λ i k. given (slice_get m.regs i) (s.reg i k) (next_reg e v (s.reg i) k);
    word = λ i a k. given (slice_get m.mems i) (s.word i a k) (next_word e v (s.word i) a k);
    read = λ i j k. given (slice_get m.mems i) (s.read i j k) (λ x. given (slice_get x.reads j) (s.read i j k) (next_port e v x (s.word i) (s.read i j) k));
    cell = λ i a k. given (slice_get m.rams i) (s.cell i a k) (λ c. given (variant_of lib c) (s.cell i a k) (next_cell e v (s.cell i) a k c));
    slot = λ i j k. given (slice_get m.rams i) (s.slot i j k) (λ c. given (variant_of lib c) (s.slot i j k) (λ x. given (slice_get (slots_of x c) j) (s.slot i j k) (next_slot e v c x (s.cell i) (s.slot i j) k)));
  }

  abbrev first : State
  first = record {
    reg = λ i k. given (slice_get m.regs i) false (λ r. settled_bit (tri_at r.init k));
    word = λ i a k. given (slice_get m.mems i) Any (λ x. tri_at x.init (a * x.width + k));
    read = λ i j k. given (slice_get m.mems i) false (λ x. given (slice_get x.reads j) false (λ r. settled_bit (tri_at r.init_value k)));
    cell = λ i a k. given (slice_get m.rams i) Any (λ c. given (variant_of lib c) Any (λ x. filled x.fill c.init (a * last_width x + k)));
    slot = λ i j k. given (slice_get m.rams i) false (λ c. given (variant_of lib c) false (λ x. given (slice_get (slots_of x c) j) false (λ s. settled_bit (filled s.kind.start s.pins.init_value k))));
  }

module _ (lib : Library) (m : Module) (d : HasOneDriver m) (o : Ordered m) where
  driver_same : (e : Happening) (s : State) (v w : Valuation) (n : ℕ) → SameBelow o.rank (o.rank n) v w → (r : Driver) → driver_value lib m e s v n r ≡ driver_value lib m e s w n r
  driver_same e s v w n same Free = refl
  driver_same e s v w n same (Input k) = refl
  driver_same e s v w n same (CombOut i k) = given_same (slice_get m.combs i) false _ _ (λ c h. comb_same o.rank v w n same c k (o.combs i c h))
  driver_same e s v w n same (RegOut i k) = given_same (slice_get m.regs i) false _ _ (λ r h. reg_same o.rank v w n same r (s.reg i) k (o.regs i r h))
  driver_same e s v w n same (ReadOut i j k) =
      given_same (slice_get m.mems i) false _ _ (λ x hx. given_same (slice_get x.reads j) false _ _ (λ r hr. read_same o.rank v w n same x (s.word i) (s.read i j) k r (o.reads i x hx j r hr)))
  driver_same e s v w n same (SlotOut i j k) =
      given_same (slice_get m.rams i) false _ _ (λ c hc. given_same (variant_of lib c) false _ _ (λ x hx. given_same (slice_get (slots_of x c) j) false _ _ (λ p hp. slot_same o.rank v w n same x (s.cell i) (s.slot i j) k p (o.slots i c hc j p.pins (pins_at x c j p hp)))))

  stable : (e : Happening) (s : State) (j k n : ℕ) → o.rank n < j → o.rank n < k → rounds lib m d.driver e s j n ≡ rounds lib m d.driver e s k n
  unfolding rounds
  stable e s zero k n hj hk = absurd (omega arith)
  stable e s (suc j) zero n hj hk = absurd (omega arith)
  stable e s (suc j) (suc k) n hj hk =
      driver_same e s (rounds lib m d.driver e s j) (rounds lib m d.driver e s k) n (λ p hp. stable e s j k p (omega arith) (omega arith)) (d.driver n)

  settled : Happening → State → Valuation
  settled e s n = rounds lib m d.driver e s (suc (o.rank n)) n

  settles : (e : Happening) (s : State) (n : ℕ) → settled e s n ≡ driver_value lib m e s (settled e s) n (d.driver n)
  unfolding rounds settled
  settles e s n =
      driver_same e s (rounds lib m d.driver e s (o.rank n)) (settled e s) n (λ p hp. stable e s (o.rank n) (suc (o.rank p)) p hp (omega arith)) (d.driver n)

  abbrev after_one : Option Happening → State → State
  after_one None s = s
  after_one (Some e) s = next lib m e (settled e s) s

  abbrev values_in : Option Happening → State → Valuation
  values_in None s = λ n. false
  values_in (Some e) s = settled e s

  states : List Happening → ℕ → State
  states events zero = first lib m
  states events (suc t) = after_one (slice_get events t) (states events t)

  wave : List Happening → Wave
  wave events t = values_in (slice_get events t) (states events t)

  wave_at : (events : List Happening) (t : ℕ) (e : Happening) → At events t e → wave events t ≡ settled e (states events t)
  unfolding wave
  wave_at events t e h = ap (λ x. values_in x (states events t)) h

  states_after : (events : List Happening) (t : ℕ) (e : Happening) → At events t e → states events (suc t) ≡ next lib m e (wave events t) (states events t)
  unfolding states wave
  states_after events t e h = ap (λ x. after_one x (states events t)) h ∙ ap (λ v. next lib m e v (states events t)) (sym (wave_at events t e h))

  -- at a moment the net has its driver's value
  wave_is : (events : List Happening) (t : ℕ) (e : Happening) → At events t e → (n : ℕ) (r : Driver) → d.driver n ≡ r → wave events t n ≡ driver_value lib m e (states events t) (wave events t) n r
  wave_is events t e h n r is =
      let P : Valuation → Type 0 = λ v. v n ≡ driver_value lib m e (states events t) v n r in
      subst P (sym (wave_at events t e h)) (settles e (states events t) n ∙ ap (driver_value lib m e (states events t) (settled e (states events t)) n) is)

  comb_run : (events : List Happening) (i : ℕ) (c : Comb) → slice_get m.combs i ≡ Some c → CombAllows c events (wave events)
  comb_run events i c hc t e h k n hk =
      let is = wave_is events t e h n (CombOut i k) (d.combs i c hc k n hk) ∙ given_is (slice_get m.combs i) false _ c hc ∙ guard_is (slice_get c.y k) n _ hk in
      subst (Agrees (comb_shows c (wave events t) k)) (sym is) (settled_agrees _)

  reg_run : (events : List Happening) (i : ℕ) (r : Reg) → slice_get m.regs i ≡ Some r → RegAllows (inputs_of m) r events (wave events)
  unfolding states
  reg_run events i r hr = record {
    kept = λ t. (states events t).reg i;
    starts = λ k. subst (Agrees (tri_at r.init k)) (sym (given_is (slice_get m.regs i) false _ r hr)) (settled_agrees (tri_at r.init k));
    shows = λ t e h k n hk.
        let is = wave_is events t e h n (RegOut i k) (d.regs i r hr k n hk) ∙ given_is (slice_get m.regs i) false _ r hr ∙ guard_is (slice_get r.q k) n _ hk in
        subst (Agrees (reg_shows r (wave events t) ((states events t).reg i) k)) (sym is) (settled_agrees _);
    steps = λ t e h k q b hq hb.
        let is = ap (λ (s : State). s.reg i k) (states_after events t e h) ∙ given_is (slice_get m.regs i) _ _ r hr ∙ given_is (slice_get r.q k) _ _ q hq ∙ given_is (slice_get r.d k) _ _ b hb in
        subst (Agrees (reg_next (inputs_of m) r e (wave events t) ((states events t).reg i) k q b)) (sym is) (settled_agrees _);
  }

  port_run : (events : List Happening) (i : ℕ) (x : Mem) → slice_get m.mems i ≡ Some x → (j : ℕ) (r : RdPort) → slice_get x.reads j ≡ Some r → (c : Option Clock) → r.clock ≡ c → ReadAllows (inputs_of m) (frame_of x) x.writes c r (λ t. (states events t).word i) events (wave events)
  unfolding states
  port_run events i x hx j r hr None is = λ t e h k n hk.
      let same = wave_is events t e h n (ReadOut i j k) (d.reads i x hx j r hr k n hk) ∙ given_is (slice_get m.mems i) false _ x hx ∙ given_is (slice_get x.reads j) false _ r hr ∙ guard_is (slice_get r.out k) n _ hk ∙ ap (λ y. settled_bit (port_tri y (frame_of x) ((states events t).word i) ((states events t).read i j) r (wave events t) k)) is in
      subst (Agrees (read_bit (frame_of x) (base_of (wave events t) r.addr) k ((states events t).word i))) (sym same) (settled_agrees _)
  port_run events i x hx j r hr (Some c) is = record {
    kept = λ t. (states events t).read i j;
    starts = λ k. subst (Agrees (tri_at r.init_value k)) (sym (given_is (slice_get m.mems i) false _ x hx ∙ given_is (slice_get x.reads j) false _ r hr)) (settled_agrees (tri_at r.init_value k));
    shows = λ t e h k n hk.
        let same = wave_is events t e h n (ReadOut i j k) (d.reads i x hx j r hr k n hk) ∙ given_is (slice_get m.mems i) false _ x hx ∙ given_is (slice_get x.reads j) false _ r hr ∙ guard_is (slice_get r.out k) n _ hk ∙ ap (λ y. settled_bit (port_tri y (frame_of x) ((states events t).word i) ((states events t).read i j) r (wave events t) k)) is in
        subst (Agrees (read_shows r (wave events t) ((states events t).read i j) k)) (sym same) (settled_agrees _);
    steps = λ t e h k out hk.
        let same = ap (λ (s : State). s.read i j k) (states_after events t e h) ∙ given_is (slice_get m.mems i) _ _ x hx ∙ given_is (slice_get x.reads j) _ _ r hr ∙ given_is r.clock _ _ c is ∙ given_is (slice_get r.out k) _ _ out hk in
        subst (Agrees (read_next (inputs_of m) (frame_of x) x.writes c r e (wave events t) ((states events t).word i) ((states events t).read i j) k out)) (sym same) (settled_agrees _);
  }

  mem_run : (events : List Happening) (i : ℕ) (x : Mem) → slice_get m.mems i ≡ Some x → MemAllows (inputs_of m) x events (wave events)
  unfolding states
  mem_run events i x hx = record {
    words = λ t. (states events t).word i;
    holds = record {
      starts = λ a k in_size in_width. given_is (slice_get m.mems i) Any _ x hx;
      steps = λ t e h a k in_size in_width. ap (λ (s : State). s.word i a k) (states_after events t e h) ∙ given_is (slice_get m.mems i) _ _ x hx;
    };
    reads = λ j r hr. port_run events i x hx j r hr r.clock refl;
  }

  module _ (agree : ReadsAgree lib m) (events : List Happening) (i : ℕ) (c : RamCell) (hc : slice_get m.rams i ≡ Some c) (x : Variant) (hx : variant_of lib c ≡ Some x) (j : ℕ) (s : Slot) (hs : slice_get (slots_of x c) j ≡ Some s) where
    slot_is : (now : Bool) → s.pins.reads_now ≡ now → (t : ℕ) (e : Happening) → At events t e → (k n : ℕ) → slice_get s.pins.out k ≡ Some n → wave events t n ≡ settled_bit (slot_tri now x s ((states events t).cell i) ((states events t).slot i j) (wave events t) k)
    slot_is now is t e h k n hk =
        wave_is events t e h n (SlotOut i j k) (d.slots i c hc j s.pins (pins_at x c j s hs) k n hk) ∙ given_is (slice_get m.rams i) false _ c hc ∙ given_is (variant_of lib c) false _ x hx ∙ given_is (slice_get (slots_of x c) j) false _ s hs ∙ guard_is (slice_get s.pins.out k) n _ hk ∙ ap (λ b. settled_bit (slot_tri b x s ((states events t).cell i) ((states events t).slot i j) (wave events t) k)) is

    slot_run : SlotAllows (inputs_of m) x (slots_of x c) s (λ t. (states events t).cell i) events (wave events)
    unfolding states
    slot_run = (
      λ used now t e h k n hk.
          let is = slot_is true (agree i c hc x hx j s hs ∙ now) t e h k n hk in
          subst (Agrees (now_tri x s ((states events t).cell i) (wave events t) k)) (sym is) (settled_agrees _),
      λ used late. record {
        kept = λ t. (states events t).slot i j;
        starts = λ k. subst (Agrees (filled s.kind.start s.pins.init_value k)) (sym (given_is (slice_get m.rams i) false _ c hc ∙ given_is (variant_of lib c) false _ x hx ∙ given_is (slice_get (slots_of x c) j) false _ s hs)) (settled_agrees _);
        shows = λ t e h k n hk.
            let is = slot_is false (agree i c hc x hx j s hs ∙ later_not_now s.kind.kind late) t e h k n hk in
            subst (Agrees (later_tri s ((states events t).slot i j) (wave events t) k)) (sym is) (settled_agrees _);
        steps = λ t e h k out hk.
            let is = ap (λ (q : State). q.slot i j k) (states_after events t e h) ∙ given_is (slice_get m.rams i) _ _ c hc ∙ given_is (variant_of lib c) _ _ x hx ∙ given_is (slice_get (slots_of x c) j) _ _ s hs ∙ given_is (slice_get s.pins.out k) _ _ out hk in
            subst (Agrees (slot_next (inputs_of m) x (slots_of x c) s e (wave events t) ((states events t).cell i) ((states events t).slot i j) k out)) (sym is) (settled_agrees _);
      },
    )

  ram_run : ReadsAgree lib m → (events : List Happening) (i : ℕ) (c : RamCell) → slice_get m.rams i ≡ Some c → (x : Variant) → variant_of lib c ≡ Some x → RamAllows (inputs_of m) x c events (wave events)
  unfolding states
  ram_run agree events i c hc x hx = record {
    words = λ t. (states events t).cell i;
    starts = λ a k within_words within_width. given_is (slice_get m.rams i) Any _ c hc ∙ given_is (variant_of lib c) Any _ x hx;
    steps = λ t e h a k within_words within_width. ap (λ (s : State). s.cell i a k) (states_after events t e h) ∙ given_is (slice_get m.rams i) _ _ c hc ∙ given_is (variant_of lib c) _ _ x hx;
    slots = λ j s hs. slot_run agree events i c hc x hx j s hs;
  }

pub ordered_live : (lib : Library) (m : Module) → HasOneDriver m → ReadsAgree lib m → Ordered m → Live lib m
ordered_live lib m d agree o events = (
  wave lib m d o events,
  record {
    inputs = λ t e h k n b hn hb. wave_is lib m d o events t e h n (Input k) (d.inputs k n hn) ∙ given_is (slice_get e.values k) false _ b hb;
    combs = λ i c hc. comb_run lib m d o events i c hc;
    regs = λ i r hr. reg_run lib m d o events i r hr;
    mems = λ i x hx. mem_run lib m d o events i x hx;
    rams = λ i c hc x hx. ram_run lib m d o agree events i c hc x hx;
  },
)
