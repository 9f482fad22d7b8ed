-- Refinement and simulation compose, and what follows from them.
use Rattle.std.proofs.Common.{◌≡◌, ℕ, zero, suc, ◌+◌, ◌<◌, Bool, true, false, ◌||◌, List, [], ◌∷◌, ◌++◌, map, length, Some, refl, sym, ap, ◌∙◌, subst, arith}
use Rattle.std.specs.Prelude.{slice_get}
use Rattle.std.proofs.Math.Dec.{eqb}
use Rattle.std.proofs.lemmas.Option.{same_Some}
use Rattle.lib_core.specs.declared.library.Library.{Library}
use Rattle.net_core.specs.declared.bits.Bit.{Bit}
use Rattle.net_core.specs.declared.bits.Bit.TheVariants.{Zero as Low, One as High, Net}
use Rattle.net_core.specs.declared.modules.Module.{Module}
use Rattle.net_core.specs.declared.modules.Design.{Design}
use Rattle.net_core.specs.Values.{Valuation, Wave, Happening, At, value_of, values_of, bit_at}
use Rattle.net_core.specs.Ports.{Interface, interface_of, outputs_of}
use Rattle.net_core.specs.Runs.{shown, SameFrame, RefinesModule, interfaces, Refines, IsDefined}
use Rattle.net_core.specs.Simulation.{among, SameOff, bit_avoids, bits_avoid, Simulates, Always}
use Rattle.net_core.proofs.Basics.{and_left, and_right, not_true, get_below, get_within}

pub frame_itself : (modules : List Interface) (m : Module) → SameFrame modules m m
frame_itself modules m = record { name = refl; attrs = refl; ports = refl; carried = refl; joins = λ i j. refl; roots = λ place h. h }

pub frames_compose : (modules : List Interface) (a b c : Module) → SameFrame modules a b → SameFrame modules b c → SameFrame modules a c
frames_compose modules a b c f g = record {
  name = g.name ∙ f.name;
  attrs = g.attrs ∙ f.attrs;
  ports = g.ports ∙ f.ports;
  carried = g.carried ∙ f.carried;
  joins = λ i j. g.joins i j ∙ f.joins i j;
  roots = λ place h. f.roots place (g.roots place h);
}

pub refines_itself : (lib : Library) (d : Design) → Refines lib d d
refines_itself lib d = record {
  count = refl;
  modules = λ i a b ha hb.
      let same : b ≡ a = same_Some b a (sym hb ∙ ha) in
      subst (λ x. RefinesModule lib (interfaces d) a x) (sym same) (record { frame = frame_itself (interfaces d) a; traces = λ events outs h. h });
}

-- lists of one length with equal elements of one view
map_same : {X Y : Type 0} (f : X → Y) (xs ys : List X) → length ys ≡ length xs → ((i : ℕ) (a b : X) → slice_get xs i ≡ Some a → slice_get ys i ≡ Some b → f b ≡ f a) → map f ys ≡ map f xs
map_same f [] [] e h = refl
map_same f [] (y ∷ ys) e h = absurd (omega arith)
map_same f (x ∷ xs) [] e h = absurd (omega arith)
map_same f (x ∷ xs) (y ∷ ys) e h =
    let one = h 0 x y refl refl in
    let rest = map_same f xs ys (omega arith) (λ i a b ha hb. h (suc i) a b ha hb) in
    cc

interface_same : (lib : Library) (modules : List Interface) (a b : Module) → RefinesModule lib modules a b → interface_of b ≡ interface_of a
interface_same lib modules a b r =
    let name = r.frame.name in
    let ports = r.frame.ports in
    λ i. record { name = name i; ports = ports i }

interfaces_same : (lib : Library) (old new : Design) → Refines lib old new → interfaces new ≡ interfaces old
interfaces_same lib old new r = map_same interface_of old.modules new.modules r.count (λ i a b ha hb. interface_same lib (interfaces old) a b (r.modules i a b ha hb))

pub refinements_compose : (lib : Library) (a b c : Design) → Refines lib a b → Refines lib b c → Refines lib a c
refinements_compose lib a b c f g = record {
  count = g.count ∙ f.count;
  modules = λ i x z hx hz.
      let mid = get_within b.modules i (let below = get_below a.modules i x hx in omega (arith, f.count)) in
      let one = f.modules i x mid.0 hx mid.1 in
      let two = subst (λ ms. RefinesModule lib ms mid.0 z) (interfaces_same lib a b f) (g.modules i mid.0 z mid.1 hz) in
      record { frame = frames_compose (interfaces a) x mid.0 z one.frame two.frame; traces = λ events outs h. one.traces events outs (two.traces events outs h) };
}

-- what a wave shows at a moment
shown_at : (bits : List Bit) (v : Wave) (from t : ℕ) (events : List Happening) → t < length events → slice_get (shown bits v from events) t ≡ Some (values_of (v (from + t)) bits)
shown_at bits v from t [] h = absurd (omega arith)
shown_at bits v from zero (e ∷ es) h = let i : from ≡ from + 0 = omega arith in ap (λ k. Some (values_of (v k) bits)) i
shown_at bits v from (suc t) (e ∷ es) h =
    let i : suc from + t ≡ from + suc t = omega arith in
    shown_at bits v (suc from) t es (omega arith) ∙ ap (λ k. Some (values_of (v k) bits)) i

last_below : (before : List Happening) (last : Happening) → length before < length (before ++ last ∷ [])
last_below [] last = omega arith
last_below (e ∷ es) last = let r = last_below es last in omega (arith, r)

pub keeps_defined : (lib : Library) (modules : List Interface) (old new : Module) → RefinesModule lib modules old new → (before : List Happening) (last : Happening) (k : ℕ) (b : Bool) → IsDefined lib old before last k b → IsDefined lib new before last k b
keeps_defined lib modules old new r before last k b defined v run =
    let events = before ++ last ∷ [] in
    let t = length before in
    let h = r.traces events (shown (outputs_of new) v 0 events) (record { wave = v; run = run; shows = refl }) in
    let z : 0 + t ≡ t = omega arith in
    let news = shown_at (outputs_of new) v 0 t events (last_below before last) ∙ ap (λ k. Some (values_of (v k) (outputs_of new))) z in
    let olds = shown_at (outputs_of old) h.wave 0 t events (last_below before last) ∙ ap (λ k. Some (values_of (h.wave k) (outputs_of old))) z in
    let same = same_Some _ _ (sym news ∙ ap (λ outs. slice_get outs t) h.shows ∙ olds) in
    ap (λ xs. bit_at xs k) same ∙ defined h.wave h.run

pub value_off : (nets : List ℕ) (v w : Valuation) → SameOff nets v w → (b : Bit) → bit_avoids nets b ≡ true → value_of v b ≡ value_of w b
value_off nets v w same Low h = refl
value_off nets v w same High h = refl
value_off nets v w same (Net n) h = same n (not_true (among nets n) h)

pub values_off : (nets : List ℕ) (v w : Valuation) → SameOff nets v w → (bits : List Bit) → bits_avoid nets bits ≡ true → values_of v bits ≡ values_of w bits
values_off nets v w same [] h = refl
values_off nets v w same (b ∷ bs) h =
    let one = value_off nets v w same b (and_left (bit_avoids nets b) (bits_avoid nets bs) h) in
    let rest = values_off nets v w same bs (and_right (bit_avoids nets b) (bits_avoid nets bs) h) in
    cc

-- waves that show the same at each moment that there is show the same along the moments
shown_same : (old new : List Bit) (v w : Wave) (from : ℕ) (events : List Happening) → ((t : ℕ) (e : Happening) → At events t e → values_of (v (from + t)) new ≡ values_of (w (from + t)) old) → shown new v from events ≡ shown old w from events
shown_same old new v w from [] h = refl
shown_same old new v w from (e ∷ es) h =
    let z : from + 0 ≡ from = omega arith in
    let one : values_of (v from) new ≡ values_of (w from) old = subst (λ k. values_of (v k) new ≡ values_of (w k) old) z (h 0 e refl) in
    let rest = shown_same old new v w (suc from) es (λ t f at. let s : from + suc t ≡ suc from + t = omega arith in subst (λ k. values_of (v k) new ≡ values_of (w k) old) s (h (suc t) f at)) in
    cc

pub refines_of : (lib : Library) (modules : List Interface) (hidden : List ℕ) (old new : Module) → Simulates lib modules hidden old new → RefinesModule lib modules old new
refines_of lib modules hidden old new s = record {
  frame = s.frame;
  traces = λ events outs h.
      let r = s.runs events h.wave h.run in
      record {
        wave = r.wave;
        run = r.run;
        shows = h.shows ∙ shown_same (outputs_of old) (outputs_of new) h.wave r.wave 0 events (λ t e at. let z : 0 + t ≡ t = omega arith in subst (λ k. values_of (h.wave k) (outputs_of new) ≡ values_of (r.wave k) (outputs_of old)) (sym z) (r.shows t e at));
      };
}

pub simulates_itself : (lib : Library) (modules : List Interface) (hidden : List ℕ) (m : Module) → Simulates lib modules hidden m m
simulates_itself lib modules hidden m = record {
  frame = frame_itself modules m;
  runs = λ events v run. record { wave = v; run = run; same = λ t n h. refl; shows = λ t e at. refl };
}

or_left : (a b : Bool) → (a || b) ≡ false → a ≡ false
or_left true b h = h
or_left false b h = refl

or_right : (a b : Bool) → (a || b) ≡ false → b ≡ false
or_right true b h = cc
or_right false b h = h

among_left : (xs ys : List ℕ) (n : ℕ) → among (xs ++ ys) n ≡ false → among xs n ≡ false
among_left [] ys n h = refl
among_left (x ∷ xs) ys n h =
    let one = or_left (eqb x n) (among (xs ++ ys) n) h in
    let rest = among_left xs ys n (or_right (eqb x n) (among (xs ++ ys) n) h) in
    cc

among_right : (xs ys : List ℕ) (n : ℕ) → among (xs ++ ys) n ≡ false → among ys n ≡ false
among_right [] ys n h = h
among_right (x ∷ xs) ys n h = among_right xs ys n (or_right (eqb x n) (among (xs ++ ys) n) h)

pub simulates_trans : (lib : Library) (modules : List Interface) (first second : List ℕ) (a b c : Module) → Simulates lib modules first a b → Simulates lib modules second b c → Simulates lib modules (first ++ second) a c
simulates_trans lib modules first second a b c f g = record {
  frame = frames_compose modules a b c f.frame g.frame;
  runs = λ events v run.
      let mid = g.runs events v run in
      let low = f.runs events mid.wave mid.run in
      record {
        wave = low.wave;
        run = low.run;
        same = λ t n h. mid.same t n (among_right first second n h) ∙ low.same t n (among_left first second n h);
        shows = λ t e at. mid.shows t e at ∙ low.shows t e at;
      };
}

pub always_kept : (lib : Library) (modules : List Interface) (hidden : List ℕ) (old new : Module) (bits : List Bit) (test : List Bool → Bool) → Simulates lib modules hidden old new → bits_avoid hidden bits ≡ true → Always lib old bits test → Always lib new bits test
always_kept lib modules hidden old new bits test s clear always events v run t e at =
    let r = s.runs events v run in
    ap test (values_off hidden (v t) (r.wave t) (r.same t) bits clear) ∙ always events r.wave r.run t e at
