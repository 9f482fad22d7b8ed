-- Two modules, and two designs, that are the same but for the numbers of nets, added wires that are no ports, and the
-- attributes `\init` of wires.
use Rattle.std.specs.Prelude.{◌≡◌, ℕ, Bool, false, not, List, [], ◌∷◌, ◌++◌, map, filter, take, codes}
use Rattle.std.specs.List.{AllByRecursion}
use Rattle.std.specs.Str.{bytes_eq}
use Rattle.net_core.specs.declared.mems.Attr.{Attr}
use Rattle.net_core.specs.declared.modules.Wire.{Wire}
use Rattle.net_core.specs.declared.modules.Module.{Module}
use Rattle.net_core.specs.declared.modules.Design.{Design}
use Rattle.net_core.specs.Renaming.{IsTold, renamed_bits, renamed_mem, renamed_comb, renamed_reg, renamed_ram, renamed_carried}

-- the attribute tells how the bits of a wire start
abbrev pub is_start_attr : Attr → Bool
is_start_attr a = bytes_eq a.name (codes "\\init")

abbrev pub without_starts : List Attr → List Attr
without_starts attrs = filter (λ a. not (is_start_attr a)) attrs

-- the first of the attributes does not tell how bits start
abbrev pub BeginsPlain : List Attr → Type 0
BeginsPlain [] = Unit {0}
BeginsPlain (a ∷ rest) = is_start_attr a ≡ false

-- the wire b is a, with the nets that f says, but for how its bits start
pub record IsSameWire (f : ℕ → ℕ) (a b : Wire) : Type 0 where
  pub name : b.name ≡ a.name
  pub port : b.port ≡ a.port
  pub input : b.input ≡ a.input
  pub output : b.output ≡ a.output
  pub offset : b.offset ≡ a.offset
  pub upto : b.upto ≡ a.upto
  pub signed : b.signed ≡ a.signed
  pub bits : b.bits ≡ renamed_bits f a.bits
  pub attrs : without_starts b.attrs ≡ without_starts a.attrs

-- as many wires, and each is the same
abbrev pub AreSameWires : (ℕ → ℕ) → List Wire → List Wire → Type 0
AreSameWires f [] [] = Unit {0}
AreSameWires f [] (y ∷ ys) = ⊥
AreSameWires f (x ∷ xs) [] = ⊥
AreSameWires f (x ∷ xs) (y ∷ ys) = IsSameWire f x y × AreSameWires f xs ys

-- the name begins as names of nets of RAM cells do
abbrev pub has_ram_name : List ℕ → Bool
has_ram_name name = bytes_eq (codes "$ram") (take 4 name)

-- a wire that may be added: it is no port, and its name is not one of a RAM cell's nets
pub record IsAdded (w : Wire) : Type 0 where
  pub port : w.port ≡ 0
  pub no_input : w.input ≡ false
  pub no_output : w.output ≡ false
  pub name : has_ram_name w.name ≡ false

-- the wires of the old module, each the same, and then added ones
pub record WiresSame (f : ℕ → ℕ) (old new : List Wire) : Type 0 where
  pub kept : List Wire
  pub added : List Wire
  pub whole : new ≡ kept ++ added
  pub same : AreSameWires f old kept
  pub more : AllByRecursion IsAdded added

-- the cells and memories of the old module, with the nets that f says
pub record CellsSame (f : ℕ → ℕ) (old new : Module) : Type 0 where
  pub mems : new.mems ≡ map (renamed_mem f) old.mems
  pub combs : new.combs ≡ map (renamed_comb f) old.combs
  pub regs : new.regs ≡ map (renamed_reg f) old.regs
  pub rams : new.rams ≡ map (renamed_ram f) old.rams
  pub carried : new.carried ≡ map (renamed_carried f) old.carried

-- name and attributes are equal, and memories are gathered
pub record HeadsSame (old new : Module) : Type 0 where
  pub name : new.name ≡ old.name
  pub attrs : new.attrs ≡ old.attrs
  pub old_declared : old.declared ≡ []
  pub new_declared : new.declared ≡ []
  pub old_parts : old.parts ≡ []
  pub new_parts : new.parts ≡ []

-- the new module is the old one, but for the numbers of its nets, which can be told back, how many nets it says that it has,
-- added wires, and how the bits of wires start
pub record IsSame (old new : Module) : Type 0 where
  pub f : ℕ → ℕ
  pub g : ℕ → ℕ
  pub told : IsTold f g
  pub heads : HeadsSame old new
  pub wires : WiresSame f old.wires new.wires
  pub cells : CellsSame f old new

-- as many modules, and each is the same
abbrev pub AllSame : List Module → List Module → Type 0
AllSame [] [] = Unit {0}
AllSame [] (y ∷ ys) = ⊥
AllSame (x ∷ xs) [] = ⊥
AllSame (x ∷ xs) (y ∷ ys) = IsSame x y × AllSame xs ys

pub record AreSame (old new : Design) : Type 0 where
  pub modules : AllSame old.modules new.modules
