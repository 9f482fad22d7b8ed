-- RAM cells whose bits are constant alike have one shape.
use Rattle.std.proofs.Common.{◌≡◌, ℕ, zero, suc, Bool, true, false, cond, not, ◌&&◌, ◌||◌, List, [], ◌∷◌, ◌++◌, length, take, drop, Option, Some, None, nat_eq, nat_le, refl, sym, ap, ◌∙◌}
use Rattle.std.specs.Prelude.{option_and_then, slice_get}
use Rattle.std.specs.List.{find, list_all, list_any}
use Rattle.lib_core.specs.declared.library.Group.{Group}
use Rattle.lib_core.specs.declared.library.Library.{Library}
use Rattle.lib_core.specs.declared.library.RamKind.{RamKind}
use Rattle.lib_core.specs.declared.library.Variant.{Variant}
use Rattle.lib_core.specs.Rams.{width_at, kind_reads, kind_writes, kind_clocked, lanes, has_fill}
use Rattle.net_core.specs.declared.bits.Bit.{Bit}
use Rattle.net_core.specs.declared.bits.Bit.TheVariants.{Zero, One, Net}
use Rattle.net_core.specs.declared.rams.RamCell.{RamCell}
use Rattle.net_core.specs.declared.rams.SlotUse.{SlotUse}
use Rattle.net_core.specs.Ports.{nets_of}
use Rattle.net_core.specs.Runs.{variant_of}
use Rattle.net_core.specs.Shape.{contents_fit, controls_fit, fits_library, fits_variant, is_low, is_never, is_one, is_zero, level_fits, level_of_first, levels_alike, not_used_or_at, pins_fit, reads_by_clken, slot_fits, slots_fit, unused_fits, used_fits, value_fits, values_fit}

-- ---- tests joined

pub and_kept : (a b c d : Bool) → (a ≡ true → c ≡ true) → (b ≡ true → d ≡ true) → (a && b) ≡ true → (c && d) ≡ true
and_kept true true c d f g e = ap (λ z. z && d) (f refl) ∙ g refl
and_kept true false c d f g e = absurd cc
and_kept false b c d f g e = absurd cc

or_kept : (a b c : Bool) → (b ≡ true → c ≡ true) → (a || b) ≡ true → (a || c) ≡ true
or_kept true b c f e = refl
or_kept false b c f e = f e

cond_kept : (t a b c d : Bool) → (a ≡ true → c ≡ true) → (b ≡ true → d ≡ true) → cond t a b ≡ true → cond t c d ≡ true
cond_kept true a b c d f g e = f e
cond_kept false a b c d f g e = g e

same_kept : (a b : Bool) → a ≡ b → a ≡ true → b ≡ true
same_kept a b p e = sym p ∙ e

-- ---- bits

-- the same constant, or nets both
abbrev pub IsAlike : Bit → Bit → Type 0
IsAlike Zero Zero = Unit {0}
IsAlike Zero One = ⊥
IsAlike Zero (Net k) = ⊥
IsAlike One Zero = ⊥
IsAlike One One = Unit {0}
IsAlike One (Net k) = ⊥
IsAlike (Net l) Zero = ⊥
IsAlike (Net l) One = ⊥
IsAlike (Net l) (Net k) = Unit {0}

abbrev pub AreAlike : List Bit → List Bit → Type 0
AreAlike [] [] = Unit {0}
AreAlike [] (c ∷ cs) = ⊥
AreAlike (b ∷ bs) [] = ⊥
AreAlike (b ∷ bs) (c ∷ cs) = IsAlike b c × AreAlike bs cs

zero_same : (b c : Bit) → IsAlike b c → is_zero b ≡ is_zero c
zero_same Zero Zero h = refl
zero_same Zero One h = absurd h
zero_same Zero (Net k) h = absurd h
zero_same One Zero h = absurd h
zero_same One One h = refl
zero_same One (Net k) h = absurd h
zero_same (Net l) Zero h = absurd h
zero_same (Net l) One h = absurd h
zero_same (Net l) (Net k) h = refl

one_same : (b c : Bit) → IsAlike b c → is_one b ≡ is_one c
one_same Zero Zero h = refl
one_same Zero One h = absurd h
one_same Zero (Net k) h = absurd h
one_same One Zero h = absurd h
one_same One One h = refl
one_same One (Net k) h = absurd h
one_same (Net l) Zero h = absurd h
one_same (Net l) One h = absurd h
one_same (Net l) (Net k) h = refl

long_same : (bs cs : List Bit) → AreAlike bs cs → length bs ≡ length cs
long_same [] [] h = refl
long_same [] (c ∷ cs) h = absurd h
long_same (b ∷ bs) [] h = absurd h
long_same (b ∷ bs) (c ∷ cs) h = ap (λ k. suc k) (long_same bs cs h.1)

zeros_same : (bs cs : List Bit) → AreAlike bs cs → list_all is_zero bs ≡ list_all is_zero cs
zeros_same [] [] h = refl
zeros_same [] (c ∷ cs) h = absurd h
zeros_same (b ∷ bs) [] h = absurd h
zeros_same (b ∷ bs) (c ∷ cs) h = λ i. (zero_same b c h.0 i) && (zeros_same bs cs h.1 i)

ones_same : (bs cs : List Bit) → AreAlike bs cs → list_all is_one bs ≡ list_all is_one cs
ones_same [] [] h = refl
ones_same [] (c ∷ cs) h = absurd h
ones_same (b ∷ bs) [] h = absurd h
ones_same (b ∷ bs) (c ∷ cs) h = λ i. (one_same b c h.0 i) && (ones_same bs cs h.1 i)

pub nets_long : (bs cs : List Bit) → AreAlike bs cs → length (nets_of bs) ≡ length (nets_of cs)
nets_long [] [] h = refl
nets_long [] (c ∷ cs) h = absurd h
nets_long (b ∷ bs) [] h = absurd h
nets_long (Zero ∷ bs) (Zero ∷ cs) h = nets_long bs cs h.1
nets_long (Zero ∷ bs) (One ∷ cs) h = absurd h.0
nets_long (Zero ∷ bs) (Net k ∷ cs) h = absurd h.0
nets_long (One ∷ bs) (Zero ∷ cs) h = absurd h.0
nets_long (One ∷ bs) (One ∷ cs) h = nets_long bs cs h.1
nets_long (One ∷ bs) (Net k ∷ cs) h = absurd h.0
nets_long (Net l ∷ bs) (Zero ∷ cs) h = absurd h.0
nets_long (Net l ∷ bs) (One ∷ cs) h = absurd h.0
nets_long (Net l ∷ bs) (Net k ∷ cs) h = ap (λ n. suc n) (nets_long bs cs h.1)

-- ---- slots

-- what the shape looks at; a clock may tick only in the first
pub record SlotAlike (s r : SlotUse) : Type 0 where
  pub used : s.used ≡ r.used
  pub level : s.level ≡ r.level
  pub never : is_never s.clock ≡ true → is_never r.clock ≡ true
  pub clken : IsAlike s.clken r.clken
  pub rden : IsAlike s.rden r.rden
  pub srst : IsAlike s.srst r.srst
  pub arst : IsAlike s.arst r.arst
  pub addr : AreAlike s.addr r.addr
  pub out : length s.out ≡ length r.out
  pub value : AreAlike s.value r.value
  pub wren : AreAlike s.wren r.wren
  pub wrbe : AreAlike s.wrbe r.wrbe
  pub srst_value : s.srst_value ≡ r.srst_value
  pub arst_value : s.arst_value ≡ r.arst_value
  pub init_value : s.init_value ≡ r.init_value

pins_same : (x : Variant) (g : Group) (s r : SlotUse) → SlotAlike s r → pins_fit x g s ≡ pins_fit x g r
pins_same x g s r h =
    λ i. nat_eq (long_same s.addr r.addr h.addr i) x.abits
    && (nat_eq (h.out i) (cond (kind_reads g.kind) (width_at x.widths (h.level i)) 0)
    && (nat_eq (long_same s.value r.value h.value i) (cond (kind_writes g.kind) (width_at x.widths (h.level i)) 0)
    && (nat_eq (long_same s.wren r.wren h.wren i) (cond (kind_writes g.kind) (cond g.separate 1 (lanes x.byte (width_at x.widths (h.level i)))) 0)
    && nat_eq (long_same s.wrbe r.wrbe h.wrbe i) (cond (kind_writes g.kind && g.separate) (lanes x.byte (width_at x.widths (h.level i))) 0))))

controls_kept : (g : Group) (s r : SlotUse) → SlotAlike s r → controls_fit g s ≡ true → controls_fit g r ≡ true
controls_kept g s r h =
    and_kept (kind_clocked g.kind || is_never s.clock) _ (kind_clocked g.kind || is_never r.clock) _ (or_kept (kind_clocked g.kind) (is_never s.clock) (is_never r.clock) h.never)
    (same_kept _ _ (λ i. (g.clken || zero_same s.clken r.clken h.clken i) && ((g.rden || zero_same s.rden r.rden h.rden i) && ((has_fill g.srst || zero_same s.srst r.srst h.srst i) && (has_fill g.arst || zero_same s.arst r.arst h.arst i)))))

values_same : (x : Variant) (g : Group) (s r : SlotUse) → SlotAlike s r → values_fit x g s ≡ values_fit x g r
values_same x g s r h =
    λ i. value_fits g.srst (h.srst_value i) (width_at x.widths (h.level i))
    && (value_fits g.arst (h.arst_value i) (width_at x.widths (h.level i))
    && value_fits g.start (h.init_value i) (width_at x.widths (h.level i)))

used_same : (g : Group) (s r : SlotUse) → SlotAlike s r → used_fits g s ≡ used_fits g r
used_same g s r h =
    λ i. (not g.clken || (reads_by_clken g || one_same s.clken r.clken h.clken i))
    && (not g.separate || (ones_same s.wren r.wren h.wren i || (zeros_same s.wren r.wren h.wren i && zeros_same s.wrbe r.wrbe h.wrbe i)))

unused_kept : (g : Group) (s r : SlotUse) → SlotAlike s r → unused_fits g s ≡ true → unused_fits g r ≡ true
unused_kept g s r h =
    and_kept (is_never s.clock) _ (is_never r.clock) _ h.never
    (same_kept _ _ (λ i. zero_same s.clken r.clken h.clken i
    && (zero_same s.rden r.rden h.rden i
    && (zero_same s.srst r.srst h.srst i
    && (zero_same s.arst r.arst h.arst i
    && (zeros_same s.addr r.addr h.addr i
    && (zeros_same s.value r.value h.value i
    && (zeros_same s.wren r.wren h.wren i
    && (zeros_same s.wrbe r.wrbe h.wrbe i
    && (list_all is_low (h.srst_value i)
    && (list_all is_low (h.arst_value i)
    && (list_all is_low (h.init_value i)
    && list_all (λ l. nat_le (h.level i) l) g.levels))))))))))))

level_same : (g : Group) (s r : SlotUse) → SlotAlike s r → level_fits g s ≡ level_fits g r
level_same g s r h = ap (λ n. list_any (λ l. nat_eq n l) g.levels) h.level

cond_same : (t u a b : Bool) → t ≡ u → cond u a b ≡ true → cond t a b ≡ true
cond_same t u a b p e = ap (λ z. cond z a b) p ∙ e

use_kept : (g : Group) (s r : SlotUse) → SlotAlike s r → cond s.used (used_fits g s) (unused_fits g s) ≡ true → cond r.used (used_fits g r) (unused_fits g r) ≡ true
use_kept g s r h e =
    cond_same r.used s.used (used_fits g r) (unused_fits g r) (sym h.used)
    (cond_kept s.used (used_fits g s) (unused_fits g s) (used_fits g r) (unused_fits g r) (same_kept _ _ (used_same g s r h)) (unused_kept g s r h) e)

slot_kept : (x : Variant) (g : Group) (s r : SlotUse) → SlotAlike s r → slot_fits x g s ≡ true → slot_fits x g r ≡ true
slot_kept x g s r h =
    and_kept (pins_fit x g s) _ (pins_fit x g r) _ (same_kept _ _ (pins_same x g s r h))
    (and_kept (controls_fit g s) _ (controls_fit g r) _ (controls_kept g s r h)
    (and_kept (values_fit x g s) _ (values_fit x g r) _ (same_kept _ _ (values_same x g s r h))
    (and_kept (level_fits g s) _ (level_fits g r) _ (same_kept _ _ (level_same g s r h)) (use_kept g s r h))))

abbrev pub SlotsAlike : List SlotUse → List SlotUse → Type 0
SlotsAlike [] [] = Unit {0}
SlotsAlike [] (r ∷ rs) = ⊥
SlotsAlike (s ∷ ss) [] = ⊥
SlotsAlike (s ∷ ss) (r ∷ rs) = SlotAlike s r × SlotsAlike ss rs

pub slots_append : (as' bs cs ds : List SlotUse) → SlotsAlike as' bs → SlotsAlike cs ds → SlotsAlike (as' ++ cs) (bs ++ ds)
slots_append [] [] cs ds h k = k
slots_append [] (b ∷ bs) cs ds h k = absurd h
slots_append (a ∷ as') [] cs ds h k = absurd h
slots_append (a ∷ as') (b ∷ bs) cs ds h k = (h.0, slots_append as' bs cs ds h.1 k)

slots_long : (ss rs : List SlotUse) → SlotsAlike ss rs → length ss ≡ length rs
slots_long [] [] h = refl
slots_long [] (r ∷ rs) h = absurd h
slots_long (s ∷ ss) [] h = absurd h
slots_long (s ∷ ss) (r ∷ rs) h = ap (λ n. suc n) (slots_long ss rs h.1)

slots_drop : (n : ℕ) (ss rs : List SlotUse) → SlotsAlike ss rs → SlotsAlike (drop n ss) (drop n rs)
slots_drop zero ss rs h = h
slots_drop (suc n) [] [] h = tt
slots_drop (suc n) [] (r ∷ rs) h = absurd h
slots_drop (suc n) (s ∷ ss) [] h = absurd h
slots_drop (suc n) (s ∷ ss) (r ∷ rs) h = slots_drop n ss rs h.1

first_kept : (x : Variant) (g : Group) (n : ℕ) (ss rs : List SlotUse) → SlotsAlike ss rs → list_all (slot_fits x g) (take n ss) ≡ true → list_all (slot_fits x g) (take n rs) ≡ true
first_kept x g zero ss rs h e = refl
first_kept x g (suc n) [] [] h e = refl
first_kept x g (suc n) [] (r ∷ rs) h e = absurd h
first_kept x g (suc n) (s ∷ ss) [] h e = absurd h
first_kept x g (suc n) (s ∷ ss) (r ∷ rs) h e =
    and_kept (slot_fits x g s) (list_all (slot_fits x g) (take n ss)) (slot_fits x g r) (list_all (slot_fits x g) (take n rs)) (slot_kept x g s r h.0) (first_kept x g n ss rs h.1) e

slots_kept : (x : Variant) (gs : List Group) (ss rs : List SlotUse) → SlotsAlike ss rs → slots_fit x gs ss ≡ true → slots_fit x gs rs ≡ true
slots_kept x [] ss rs h = same_kept _ _ (ap (λ n. nat_eq n 0) (slots_long ss rs h))
slots_kept x (g ∷ gs) ss rs h =
    let n = length g.names in
    and_kept (nat_le n (length ss)) _ (nat_le n (length rs)) _ (same_kept _ _ (ap (λ k. nat_le n k) (slots_long ss rs h)))
    (and_kept (list_all (slot_fits x g) (take n ss)) (slots_fit x gs (drop n ss)) (list_all (slot_fits x g) (take n rs)) (slots_fit x gs (drop n rs))
    (first_kept x g n ss rs h) (slots_kept x gs (drop n ss) (drop n rs) (slots_drop n ss rs h)))

-- ---- the levels of slots in use

at_same : (n m : ℕ) (ss rs : List SlotUse) → n ≡ m → SlotsAlike ss rs → list_all (λ (s : SlotUse). not_used_or_at s n) ss ≡ list_all (λ (s : SlotUse). not_used_or_at s m) rs
at_same n m [] [] e h = refl
at_same n m [] (r ∷ rs) e h = absurd h
at_same n m (s ∷ ss) [] e h = absurd h
at_same n m (s ∷ ss) (r ∷ rs) e h = λ i. (not (h.0.used i) || nat_eq (h.0.level i) (e i)) && (at_same n m ss rs e h.1 i)

-- the first slot in use is the first in both
firsts : (t u : Bool) (s r : SlotUse) (o p : Option SlotUse) (ss rs : List SlotUse) → t ≡ u → s.level ≡ r.level → SlotsAlike ss rs → level_of_first o ss ≡ level_of_first p rs
    → level_of_first (cond t (Some s) o) ss ≡ level_of_first (cond u (Some r) p) rs
firsts true true s r o p ss rs e l h k = at_same s.level r.level ss rs l h
firsts true false s r o p ss rs e l h k = absurd cc
firsts false true s r o p ss rs e l h k = absurd cc
firsts false false s r o p ss rs e l h k = k

levels_same : (as' bs ss rs : List SlotUse) → SlotsAlike as' bs → SlotsAlike ss rs → level_of_first (find (λ (s : SlotUse). s.used) as') ss ≡ level_of_first (find (λ (s : SlotUse). s.used) bs) rs
levels_same [] [] ss rs h k = refl
levels_same [] (b ∷ bs) ss rs h k = absurd h
levels_same (a ∷ as') [] ss rs h k = absurd h
levels_same (a ∷ as') (b ∷ bs) ss rs h k =
    firsts a.used b.used a b (find (λ (s : SlotUse). s.used) as') (find (λ (s : SlotUse). s.used) bs) ss rs h.0.used h.0.level k (levels_same as' bs ss rs h.1 k)

-- ---- cells

pub record CellAlike (c d : RamCell) : Type 0 where
  pub ram : c.ram ≡ d.ram
  pub variant : c.variant ≡ d.variant
  pub slots : SlotsAlike c.slots d.slots
  pub init : c.init ≡ d.init

variant_kept : (c d : RamCell) (o : Option Variant) → CellAlike c d → fits_variant c o ≡ true → fits_variant d o ≡ true
variant_kept c d None h e = e
variant_kept c d (Some x) h e =
    and_kept (slots_fit x x.groups c.slots) ((x.per_port || levels_alike c.slots) && contents_fit x c.init) (slots_fit x x.groups d.slots) ((x.per_port || levels_alike d.slots) && contents_fit x d.init)
    (slots_kept x x.groups c.slots d.slots h.slots)
    (same_kept _ _ (λ i. (x.per_port || levels_same c.slots d.slots c.slots d.slots h.slots h.slots i) && contents_fit x (h.init i))) e

same_variant : (lib : Library) (c d : RamCell) → c.ram ≡ d.ram → c.variant ≡ d.variant → variant_of lib c ≡ variant_of lib d
same_variant lib c d p q = λ i. option_and_then (λ (k : RamKind). slice_get k.variants (q i)) (slice_get lib.rams (p i))

pub fits_kept : (lib : Library) (c d : RamCell) → CellAlike c d → fits_library lib c ≡ true → fits_library lib d ≡ true
fits_kept lib c d h e = variant_kept c d (variant_of lib d) h (ap (fits_variant c) (sym (same_variant lib c d h.ram h.variant)) ∙ e)
