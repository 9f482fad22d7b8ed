-- Kinds by the types of cells.
use Rattle.std.proofs.Common.{◌≡◌, ℕ, Bool, true, false, List, Option, None, Some, refl, sym}
use Rattle.std.specs.Prelude.{◌↔◌, IsTrue, Contains}
use Rattle.net_core.specs.declared.cells.CombKind.{CombKind}
use Rattle.net_core.specs.declared.cells.CombKind.TheVariants as comb
use Rattle.net_core.specs.declared.cells.FfKind.{FfKind}
use Rattle.net_core.specs.declared.cells.FfKind.TheVariants as ff
use Rattle.cell_table.specs.Names.{comb_type, ff_type, carried_types}
use Rattle.cell_table.proofs.Naming.{named, named_exactly, listed, listed_exactly}
use Rattle.cell_rows.specs.Kinds.{comb_kinds, ff_kinds, comb_named, ff_named, is_carried}

-- two options that are Some of the same things are equal
same_members : {K : Type 0} (r s : Option K) (P : K → Type 0) → ((k : K) → (r ≡ Some k) ↔ P k) → ((k : K) → (s ≡ Some k) ↔ P k) → r ≡ s
same_members None None P f g = refl
same_members None (Some k) P f g = (f k).1 ((g k).0 refl)
same_members (Some k) s P f g = sym ((g k).1 ((f k).0 refl))

-- each kind is found by its type
comb_found : (kind : CombKind) → named comb_type comb_kinds (comb_type kind) ≡ Some kind
comb_found comb.Not = refl
comb_found comb.And = refl
comb_found comb.Or = refl
comb_found comb.Xor = refl
comb_found comb.Xnor = refl
comb_found comb.ReduceAnd = refl
comb_found comb.ReduceOr = refl
comb_found comb.ReduceBool = refl
comb_found comb.ReduceXor = refl
comb_found comb.ReduceXnor = refl
comb_found comb.LogicNot = refl
comb_found comb.LogicAnd = refl
comb_found comb.LogicOr = refl
comb_found comb.Eq = refl
comb_found comb.Ne = refl
comb_found comb.Lt = refl
comb_found comb.Le = refl
comb_found comb.Gt = refl
comb_found comb.Ge = refl
comb_found comb.Add = refl
comb_found comb.Sub = refl
comb_found comb.Shl = refl
comb_found comb.Shr = refl
comb_found comb.Mux = refl
comb_found comb.Pmux = refl

ff_found : (kind : FfKind) → named ff_type ff_kinds (ff_type kind) ≡ Some kind
ff_found ff.Dff = refl
ff_found ff.Dffe = refl
ff_found ff.Adff = refl
ff_found ff.Adffe = refl
ff_found ff.Sdff = refl
ff_found ff.Sdffe = refl
ff_found ff.Sdffce = refl

pub comb_named_is : (name : List ℕ) (r : Option CombKind) → ((kind : CombKind) → (r ≡ Some kind) ↔ (name ≡ comb_type kind)) → r ≡ comb_named name
unfolding comb_named
comb_named_is name r h = same_members r (named comb_type comb_kinds name) (λ k. name ≡ comb_type k) h (named_exactly comb_type comb_kinds comb_found name _ refl)

pub ff_named_is : (name : List ℕ) (r : Option FfKind) → ((kind : FfKind) → (r ≡ Some kind) ↔ (name ≡ ff_type kind)) → r ≡ ff_named name
unfolding ff_named
ff_named_is name r h = same_members r (named ff_type ff_kinds name) (λ k. name ≡ ff_type k) h (named_exactly ff_type ff_kinds ff_found name _ refl)

same_truth : (r s : Bool) (P : Type 0) → IsTrue r ↔ P → IsTrue s ↔ P → r ≡ s
same_truth true s P f g = sym (g.1 (f.0 refl))
same_truth false true P f g = f.1 (g.0 refl)
same_truth false false P f g = refl

pub carried_is : (name : List ℕ) (r : Bool) → IsTrue r ↔ Contains carried_types name → r ≡ is_carried name
unfolding is_carried
carried_is name r h = same_truth r (listed (λ t. t) carried_types name) _ h (listed_exactly carried_types name _ refl)
