-- What the ports of a memory keep while it is rewritten: places that are enabled alike, writes with one enable, ports with one
-- address. Later steps rest on it: a unit of a RAM's word has one enable, a read may share the port of a write.
use Rattle.std.specs.Prelude.{◌≡◌, ℕ, ◌<◌, Bool, true, false, ◌||◌, List, Option, Some, slice_get}
use Rattle.std.specs.Option.{option_map}
use Rattle.net_core.specs.declared.bits.Bit.{Bit}
use Rattle.net_core.specs.declared.mems.Mem.{Mem}
use Rattle.net_core.specs.declared.mems.RdPort.{RdPort}
use Rattle.net_core.specs.declared.mems.WrPort.{WrPort}
use Rattle.geom_core.specs.Layout.{row_bits, same_enables}

-- What a rewriting may take from its memory. All else is kept.
pub record Lost : Type 0 where
  -- it is no longer guarded
  pub guard : Bool
  -- this read and this write are no longer quiet
  pub quiet : ℕ → ℕ → Bool
  -- in rows of 2 to this power words, places that had equal enables may have others
  pub folds : ℕ → Bool
  -- this write may have several enables
  pub enables : ℕ → Bool
  -- ports that had one address may have several
  pub addresses : Bool

abbrev pub nothing : Lost
nothing = record { guard = false; quiet = λ j l. false; folds = λ f. false; enables = λ l. false; addresses = false }

-- what one of two takes
abbrev pub either_lost : Lost → Lost → Lost
either_lost a b = record {
  guard = a.guard || b.guard;
  quiet = λ j l. a.quiet j l || b.quiet j l;
  folds = λ f. a.folds f || b.folds f;
  enables = λ l. a.enables l || b.enables l;
  addresses = a.addresses || b.addresses;
}

-- all enable bits of the write are one bit
abbrev pub HasOneEnable : WrPort → Type 0
HasOneEnable w = (i j : ℕ) (a b : Bit) → slice_get w.en i ≡ Some a → slice_get w.en j ≡ Some b → a ≡ b

-- a port of a memory
pub data PortPlace : Type 0 where
  ReadAt : (j : ℕ) → PortPlace
  WriteAt : (l : ℕ) → PortPlace

-- how wide a port is, and its address
pub record Reach : Type 0 where
  pub wide : ℕ
  pub addr : List Bit

abbrev pub read_reach : RdPort → Reach
read_reach r = record { wide = r.wide; addr = r.addr }

abbrev pub write_reach : WrPort → Reach
write_reach w = record { wide = w.wide; addr = w.addr }

abbrev pub reach_at : Mem → PortPlace → Option Reach
reach_at x (ReadAt j) = option_map read_reach (slice_get x.reads j)
reach_at x (WriteAt l) = option_map write_reach (slice_get x.writes l)

-- The words are as wide as before, and two places of a row of so many words that were enabled alike still are.
pub record KeepsPlaces (x y : Mem) (fold : ℕ) : Type 0 where
  pub width : y.width ≡ x.width
  pub alike : (p q : ℕ) → p < row_bits x fold → q < row_bits x fold → same_enables x fold p q ≡ true → same_enables y fold p q ≡ true

-- write l has one enable
abbrev pub OneEnableAt : Mem → ℕ → Type 0
OneEnableAt x l = (w : WrPort) × (slice_get x.writes l ≡ Some w) × HasOneEnable w

-- The ports of y keep what those of x had.
pub record KeepsPorts (lost : Lost) (x y : Mem) : Type 0 where
  pub folds : (fold : ℕ) → lost.folds fold ≡ false → KeepsPlaces x y fold
  pub enables : (l : ℕ) → lost.enables l ≡ false → OneEnableAt x l → OneEnableAt y l
  pub addresses : lost.addresses ≡ false → (p q : PortPlace) → reach_at x p ≡ reach_at x q → reach_at y p ≡ reach_at y q
