-- Once all places are worked off in an order, each node shows what it says on the values at the end.
use Rattle.std.proofs.Common.{◌≡◌, ℕ, zero, suc, ◌+◌, ◌<◌, Bool, ◌⊎◌, inl, inr, List, [], ◌∷◌, length, Some, refl, sym, ap, ◌∙◌, subst, arith}
use Rattle.std.specs.Prelude.{slice_get}
use Rattle.std.proofs.lemmas.Option.{same_Some}
use Rattle.lib_core.specs.declared.library.Library.{Library}
use Rattle.net_core.specs.declared.modules.Module.{Module}
use Rattle.net_core.specs.Values.{Valuation}
use Rattle.net_core.specs.Nodes.{Node, Drives, HasNet}
use Rattle.net_core.specs.Drivers.{Driver, Free, Input, CombOut, RegOut, ReadOut, SlotOut, HasOneDriver}
use Rattle.net_core.specs.Runs.{ReadsAgree}
use Rattle.net_core.proofs.Basics.{get_below}
use Rattle.picked_run.specs.States.{SimLook}
use Rattle.sim_settle.specs.declared.places.NodePlace.{NodePlace}
use Rattle.sim_settle.specs.declared.places.NodePlace.TheVariants as place
use Rattle.sim_settle.specs.Places.{node_at, HasNode, IsPlaceOrder}
use Rattle.sim_settle.specs.Working.{PlaceSays, PlaceSteps, Worked, VariantsAgree}
use Rattle.sim_settle.proofs.Locality.{says_local}
use Rattle.sim_settle.proofs.Placing.{comb_of, reg_of, read_of, slot_of}

-- what drives the nets of a place
abbrev pub driver_at : NodePlace → ℕ → Driver
driver_at (place.Comb i) k = CombOut i k
driver_at (place.Reg i) k = RegOut i k
driver_at (place.Read i j) k = ReadOut i j k
driver_at (place.Slot i j) k = SlotOut i j k

abbrev place_of : Driver → NodePlace
place_of Free = place.Comb 0
place_of (Input k) = place.Comb 0
place_of (CombOut i k) = place.Comb i
place_of (RegOut i k) = place.Reg i
place_of (ReadOut i j k) = place.Read i j
place_of (SlotOut i j k) = place.Slot i j

abbrev bit_of : Driver → ℕ
bit_of Free = 0
bit_of (Input k) = 0
bit_of (CombOut i k) = k
bit_of (RegOut i k) = k
bit_of (ReadOut i j k) = k
bit_of (SlotOut i j k) = k

place_is : (at : NodePlace) (k : ℕ) → place_of (driver_at at k) ≡ at
place_is (place.Comb i) k = refl
place_is (place.Reg i) k = refl
place_is (place.Read i j) k = refl
place_is (place.Slot i j) k = refl

bit_is : (at : NodePlace) (k : ℕ) → bit_of (driver_at at k) ≡ k
bit_is (place.Comb i) k = refl
bit_is (place.Reg i) k = refl
bit_is (place.Read i j) k = refl
bit_is (place.Slot i j) k = refl

pub never_input : (at : NodePlace) (k l : ℕ) → driver_at at k ≡ Input l → ⊥
never_input (place.Comb i) k l e = cc
never_input (place.Reg i) k l e = cc
never_input (place.Read i j) k l e = cc
never_input (place.Slot i j) k l e = cc

pub driver_is : (m : Module) (d : HasOneDriver m) (at : NodePlace) (p : Node) → node_at m at ≡ Some p → (k n : ℕ) → slice_get p.drives k ≡ Some n → d.driver n ≡ driver_at at k
driver_is m d (place.Comb i) p here k n h = let w = comb_of m i p here in d.combs i w.0 w.1 k n (ap (λ (q : Node). slice_get q.drives k) w.2 ∙ h)
driver_is m d (place.Reg i) p here k n h = let w = reg_of m i p here in d.regs i w.0 w.1 k n (ap (λ (q : Node). slice_get q.drives k) w.2 ∙ h)
driver_is m d (place.Read i j) p here k n h = let w = read_of m i j p here in d.reads i w.0 w.2 j w.1 w.3 k n (ap (λ (q : Node). slice_get q.drives k) w.4 ∙ h)
driver_is m d (place.Slot i j) p here k n h = let w = slot_of m i j p here in d.slots i w.0 w.2 j w.1 w.3 k n (ap (λ (q : Node). slice_get q.drives k) w.4 ∙ h)

-- a net has one place that drives it
pub one_place : (m : Module) (d : HasOneDriver m) (a b : NodePlace) (p q : Node) → node_at m a ≡ Some p → node_at m b ≡ Some q → (n : ℕ) → Drives p n → Drives q n → a ≡ b
one_place m d a b p q ha hb n (k, hk) (l, hl) =
    sym (place_is a k) ∙ ap place_of (sym (driver_is m d a p ha k n hk) ∙ driver_is m d b q hb l n hl) ∙ place_is b l

-- a node drives no net twice
pub drives_apart : (m : Module) (d : HasOneDriver m) (at : NodePlace) (p : Node) → node_at m at ≡ Some p → (k l n : ℕ) → slice_get p.drives k ≡ Some n → slice_get p.drives l ≡ Some n → k ≡ l
drives_apart m d at p h k l n hk hl =
    sym (bit_is at k) ∙ ap bit_of (sym (driver_is m d at p h k n hk) ∙ driver_is m d at p h l n hl) ∙ bit_is at l

below_next : (b a : ℕ) → b < suc a → (b < a) ⊎ (b ≡ a)
below_next zero zero h = inr refl
below_next zero (suc a) h = inl (omega arith)
below_next (suc b) zero h = absurd (omega (arith, h))
below_next (suc b) (suc a) h = elim (below_next b a (omega (arith, h))) [ inl lt ↦ inl (omega (arith, lt)) | inr e ↦ inr (ap suc e) ]

module _ (lib : Library) (m : Module) (d : HasOneDriver m) (reads : ReadsAgree lib m) (seed t : ℕ) (s : SimLook) (variants : VariantsAgree lib m s) (work : List NodePlace) (o : IsPlaceOrder m work) where
  -- so many places are worked off
  record Done (a : ℕ) (first v : Valuation) : Type 0 where
    says : (b : ℕ) (at : NodePlace) (p : Node) → b < a → slice_get work b ≡ Some at → node_at m at ≡ Some p → (k n : ℕ) → slice_get p.drives k ≡ Some n → PlaceSays m seed t s at v k (v n)
    kept : (n : ℕ) → ((b : ℕ) (at : NodePlace) (p : Node) → b < a → slice_get work b ≡ Some at → node_at m at ≡ Some p → Drives p n → ⊥) → v n ≡ first n

  module _ (a : ℕ) (at : NodePlace) (first v w : Valuation) (here : slice_get work a ≡ Some at) (done : Done a first v) (step : PlaceSteps m seed t s at v w) where
    abbrev has : HasNode m at
    has = o.within a at here

    -- the step changes nothing that the node itself needs, nor what an earlier one needs or drives
    own_needs : (p : Node) → node_at m at ≡ Some p → (x : ℕ) → HasNet p.needs x → v x ≡ w x
    own_needs p hp x needs = sym (step.keeps p hp x (λ drives. let lt = o.after a a at at p p x here here hp hp needs drives in omega (arith, lt)))

    early_needs : (b : ℕ) (q : NodePlace) (p : Node) → b < a → slice_get work b ≡ Some q → node_at m q ≡ Some p → (x : ℕ) → HasNet p.needs x → v x ≡ w x
    early_needs b q p lt hb hp x needs = sym (step.keeps has.0 has.1 x (λ drives. let late = o.after b a q at p has.0 x hb here hp has.1 needs drives in omega (arith, lt, late)))

    early_drives : (b : ℕ) (q : NodePlace) (p : Node) → b < a → slice_get work b ≡ Some q → node_at m q ≡ Some p → (n : ℕ) → Drives p n → w n ≡ v n
    early_drives b q p lt hb hp n drives =
        step.keeps has.0 has.1 n (λ own.
        let e = one_place m d q at p has.0 hp has.1 n drives own in
        let same = o.once b a at (hb ∙ ap Some e) here in
        omega (arith, lt, same))

    early_says : (b : ℕ) (q : NodePlace) (p : Node) → b < a → slice_get work b ≡ Some q → node_at m q ≡ Some p → (k n : ℕ) → slice_get p.drives k ≡ Some n → PlaceSays m seed t s q w k (w n)
    early_says b q p lt hb hp k n hk =
        let P : Bool → Type 0 = λ z. PlaceSays m seed t s q w k z in
        subst P (sym (early_drives b q p lt hb hp n (k, hk))) (says_local lib m seed t s reads variants q p hp v w (early_needs b q p lt hb hp) k (v n) (done.says b q p lt hb hp k n hk))

    own_says : (q : NodePlace) (p : Node) → at ≡ q → node_at m q ≡ Some p → (k n : ℕ) → slice_get p.drives k ≡ Some n → PlaceSays m seed t s q w k (w n)
    own_says q p e hp k n hk =
        let own = ap (node_at m) e ∙ hp in
        let P : NodePlace → Type 0 = λ z. PlaceSays m seed t s z w k (w n) in
        subst P e (says_local lib m seed t s reads variants at p own v w (own_needs p own) k (w n) (step.shows p own k n hk))

    next : Done (suc a) first w
    next = record {
      says = λ b q p lt hb hp k n hk.
          elim (below_next b a lt) [
            | inl low ↦ early_says b q p low hb hp k n hk
            | inr e ↦ own_says q p (same_Some at q (sym here ∙ ap (slice_get work) (sym e) ∙ hb)) hp k n hk
          ];
      kept = λ n none.
          step.keeps has.0 has.1 n (λ drives. none a at has.0 (omega arith) here has.1 drives)
          ∙ done.kept n (λ b q p lt hb hp drives. none b q p (omega (arith, lt)) hb hp drives);
    }

  none_done : (first : Valuation) → Done 0 first first
  none_done first = record {
    says = λ b at p lt hb hp k n hk. absurd (omega (arith, lt));
    kept = λ n none. refl;
  }

  along : (rest : List NodePlace) (a : ℕ) → ((c : ℕ) (at : NodePlace) → slice_get rest c ≡ Some at → slice_get work (a + c) ≡ Some at) → (first v w : Valuation) → Done a first v → Worked m seed t s rest v w → Done (a + length rest) first w
  along [] a sits first v w done e =
      let z : a ≡ a + 0 = omega arith in
      let P : ℕ → Type 0 = λ n. Done n first w in
      subst P z (subst (Done a first) e done)
  along (at ∷ rest) a sits first v w done (u, step, more) =
      let z : a + 0 ≡ a = omega arith in
      let here : slice_get work a ≡ Some at = ap (slice_get work) (sym z) ∙ sits 0 at refl in
      let later : (c : ℕ) (q : NodePlace) → slice_get rest c ≡ Some q → slice_get work (suc a + c) ≡ Some q = λ c q h. (let e : suc a + c ≡ a + suc c = omega arith in ap (slice_get work) e ∙ sits (suc c) q h) in
      let all = along rest (suc a) later first u w (next a at first v u here done step) more in
      let e : suc a + length rest ≡ a + suc (length rest) = omega arith in
      let P : ℕ → Type 0 = λ n. Done n first w in
      subst P e all

  all_done : (first w : Valuation) → Worked m seed t s work first w → Done (length work) first w
  all_done first w worked =
      let e : 0 + length work ≡ length work = omega arith in
      let P : ℕ → Type 0 = λ n. Done n first w in
      let sits : (c : ℕ) (at : NodePlace) → slice_get work c ≡ Some at → slice_get work (0 + c) ≡ Some at = λ c at h. (let z : 0 + c ≡ c = omega arith in ap (slice_get work) z ∙ h) in
      subst P e (along work 0 sits first first w (none_done first) worked)

  pub all_say : (first w : Valuation) → Worked m seed t s work first w → (at : NodePlace) (p : Node) → node_at m at ≡ Some p → (k n : ℕ) → slice_get p.drives k ≡ Some n → PlaceSays m seed t s at w k (w n)
  all_say first w worked at p hp k n hk =
      let b = o.every at (p, hp) in
      (all_done first w worked).says b.0 at p (get_below work b.0 at b.1) b.1 hp k n hk

  pub others_kept : (first w : Valuation) → Worked m seed t s work first w → (n : ℕ) → ((at : NodePlace) (p : Node) → node_at m at ≡ Some p → Drives p n → ⊥) → w n ≡ first n
  others_kept first w worked n none = (all_done first w worked).kept n (λ b at p lt hb hp drives. none at p hp drives)
