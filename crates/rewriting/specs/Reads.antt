-- What the emulations of a read leave: the read as it was but for what is named here, and for its output nets, which are new ones:
-- the nets that it showed are driven by logic now.
use Rattle.std.specs.Prelude.{◌≡◌, ℕ, suc, ◌+◌, ◌*◌, Bool, false, not, ◌&&◌, ◌||◌, List, [], ◌∷◌, map, length, Some, None, nat_eq, slice_get, set}
use Rattle.std.specs.List.{list_any}
use Rattle.lib_core.specs.declared.library.Tri.{Tri}
use Rattle.lib_core.specs.declared.library.Tri.TheVariants.{Any}
use Rattle.net_core.specs.declared.bits.Bit.TheVariants.{Zero, One}
use Rattle.net_core.specs.declared.mems.Mem.{Mem}
use Rattle.net_core.specs.declared.mems.RdPort.{RdPort}
use Rattle.net_core.specs.declared.modules.Module.{Module}
use Rattle.net_core.specs.Ports.{Interface}
use Rattle.lib_core.specs.declared.library.Library.{Library}
use Rattle.fit_rules.specs.Bits.{room_bits}
use Rattle.rewriting.specs.Keeping.{Lost, nothing}
use Rattle.rewriting.specs.Rewrites.{Room, Rewrites}

-- the memory with another read at a place
abbrev pub with_read : Mem → ℕ → RdPort → Mem
with_read x j q = record x { reads = set x.reads j q }

-- so many bits, none of which is defined
abbrev pub none_defined : List Tri → List Tri
none_defined value = map (λ t. Any) value

-- no bit of the start value is defined
abbrev pub StartIsOpen : RdPort → RdPort → Type 0
StartIsOpen p q = q ≡ record p { init_value = none_defined p.init_value; out = q.out }

-- the read is not reset, at any time or at an edge
abbrev pub HasNoArst : RdPort → RdPort → Type 0
HasNoArst p q = q ≡ record p { arst = Zero; out = q.out }

abbrev pub HasNoSrst : RdPort → RdPort → Type 0
HasNoSrst p q = q ≡ record p { srst = Zero; out = q.out }

abbrev pub is_listed : List ℕ → ℕ → Bool
is_listed writes l = list_any (λ x. nat_eq x l) writes

-- a mask without these writes, or with them; it is that of the writes from a number on
abbrev pub mask_without : List ℕ → ℕ → List Bool → List Bool
mask_without writes at [] = []
mask_without writes at (b ∷ bs) = (b && not (is_listed writes at)) ∷ mask_without writes (suc at) bs

abbrev pub mask_with : List ℕ → ℕ → List Bool → List Bool
mask_with writes at [] = []
mask_with writes at (b ∷ bs) = (b || is_listed writes at) ∷ mask_with writes (suc at) bs

-- The read loads at each edge. Of the listed writes it may take any value where it meets them.
abbrev pub LoadsAlways : List ℕ → RdPort → RdPort → Type 0
LoadsAlways quiet p q =
    q ≡ record p { en = One; trans = mask_without quiet 0 p.trans; coll = mask_with quiet 0 p.coll; out = q.out }

-- The read works at once, with a register outside.
abbrev pub WorksAtOnce : RdPort → RdPort → Type 0
WorksAtOnce p q =
    q ≡ record p {
      clock = None;
      en = One;
      arst = Zero;
      srst = Zero;
      arst_value = none_defined p.arst_value;
      srst_value = none_defined p.srst_value;
      init_value = none_defined p.init_value;
      ce_over_srst = false;
      trans = map (λ b. false) p.trans;
      coll = map (λ b. false) p.coll;
      out = q.out;
    }

-- the bits of a read's address and data, with as many address bits as the words ask for
abbrev pub read_bits : Mem → RdPort → ℕ
read_bits x p = room_bits x p.wide + length p.out

-- what an emulation of a read may add: four times its bits as nets, and registers for its data twice and a flag
abbrev pub read_room : Mem → RdPort → Room
read_room x p = record { nets = 4 * read_bits x p; bits = 2 * length p.out + 1 }

-- the pairs of this read are no longer quiet
abbrev pub loses_quiet_of : ℕ → Lost
loses_quiet_of j = record nothing { quiet = λ i l. nat_eq i j }

-- A read of a memory, which was p, has become another one by this change, and nothing else of the memory.
pub record EmulatesRead (lib : Library) (modules : List Interface) (k j : ℕ) (x : Mem) (p : RdPort) (change : RdPort → RdPort → Type 0) (lost : Lost) (old new : Module) : Type 0 where
  pub read : RdPort
  pub changed : change p read
  pub rewrites : Rewrites lib modules k x (with_read x j read) lost (read_room x p) old new

-- the read at a place of a memory of a module
pub record IsRead (m : Module) (k j : ℕ) (x : Mem) (p : RdPort) : Type 0 where
  pub mem : slice_get m.mems k ≡ Some x
  pub read : slice_get x.reads j ≡ Some p
