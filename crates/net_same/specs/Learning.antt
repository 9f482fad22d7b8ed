-- What tables of nets know of a renaming, and what they learn of it where a part and its renamed part are gone through.
use Rattle.std.specs.Prelude.{◌≡◌, ℕ, ◌<◌, Bool, true, List, length, Some, slice_get}
use Rattle.std.specs.List.{AllByRecursion, flat_map}
use Rattle.net_core.specs.declared.modules.Wire.{Wire}
use Rattle.net_core.specs.declared.modules.Module.{Module}
use Rattle.net_core.specs.Renaming.{IsTold}
use Rattle.net_same.specs.declared.tables.Tables.{Tables}
use Rattle.net_same.specs.Own.{AreBelow, wire_nets, cells_nets, mentioned}
use Rattle.net_same.specs.Same.{IsSameWire, WiresSame, CellsSame, IsSame}

-- the tables say of the net what f says, and back
pub record IsMet (f : ℕ → ℕ) (t : Tables) (n : ℕ) : Type 0 where
  pub forth : slice_get t.forth.items n ≡ Some (f n)
  pub back : slice_get t.back.items (f n) ≡ Some n

abbrev pub AreMet : (ℕ → ℕ) → Tables → List ℕ → Type 0
AreMet f t nets = AllByRecursion (IsMet f t) nets

-- where the tables say anything of a net, they say what f says
pub record IsRight (f : ℕ → ℕ) (t : Tables) : Type 0 where
  pub right : (n x : ℕ) → slice_get t.forth.items n ≡ Some x → x < length t.back.items → IsMet f t n

-- the tables u know of f what the tables t know, and these nets
pub record Learns (f : ℕ → ℕ) (nets : List ℕ) (t u : Tables) : Type 0 where
  pub olds : length u.forth.items ≡ length t.forth.items
  pub news : length u.back.items ≡ length t.back.items
  pub right : IsRight f t → IsRight f u
  pub kept : (n : ℕ) → IsMet f t n → IsMet f u n
  pub met : AreMet f u nets

-- they do where the old nets, and the new ones, have their places in the tables
pub record Step (f : ℕ → ℕ) (olds news : List ℕ) (t u : Tables) : Type 0 where
  pub learns : AreBelow (length t.forth.items) olds → AreBelow (length t.back.items) news → Learns f olds t u

-- from x and y the tables learn each renaming by which y is x
pub record Teaches {X : Type 0} (renamed : (ℕ → ℕ) → X → X) (nets : X → List ℕ) (x y : X) (t u : Tables) : Type 0 where
  pub step : (f g : ℕ → ℕ) → IsTold f g → y ≡ renamed f x → Step f (nets x) (nets y) t u

pub record WiresTeach (olds news : List Wire) (t u : Tables) : Type 0 where
  pub step : (f g : ℕ → ℕ) → IsTold f g → WiresSame f olds news → Step f (flat_map wire_nets olds) (flat_map wire_nets news) t u

pub record ModulesTeach (old new : Module) (t u : Tables) : Type 0 where
  pub step : (f g : ℕ → ℕ) → IsTold f g → WiresSame f old.wires new.wires → CellsSame f old new → Step f (mentioned old) (mentioned new) t u

-- the answer is yes where y is x by a renaming of whose nets in x the tables know
pub record IsSeen {X : Type 0} (renamed : (ℕ → ℕ) → X → X) (nets : X → List ℕ) (x y : X) (t : Tables) (answer : Bool) : Type 0 where
  pub yes : (f : ℕ → ℕ) → AreMet f t (nets x) → y ≡ renamed f x → answer ≡ true

pub record IsWireSeen (x y : Wire) (t : Tables) (answer : Bool) : Type 0 where
  pub yes : (f : ℕ → ℕ) → AreMet f t (wire_nets x) → IsSameWire f x y → answer ≡ true

pub record AreWiresSeen (olds news : List Wire) (t : Tables) (answer : Bool) : Type 0 where
  pub yes : (f : ℕ → ℕ) → AreMet f t (flat_map wire_nets olds) → WiresSame f olds news → answer ≡ true

pub record AreCellsSeen (old new : Module) (t : Tables) (answer : Bool) : Type 0 where
  pub yes : (f : ℕ → ℕ) → AreMet f t (cells_nets old) → CellsSame f old new → answer ≡ true

pub record IsModuleSeen (old new : Module) (t : Tables) (answer : Bool) : Type 0 where
  pub yes : (s : IsSame old new) → AreMet s.f t (mentioned old) → IsRight s.f t → answer ≡ true
