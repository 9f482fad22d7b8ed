-- The test of a fill is what the fill admits.
use Rattle.std.proofs.Common.{◌≡◌, ◌≢◌, Bool, true, false, List, refl, sym, ap, ◌∙◌}
use Rattle.std.proofs.lemmas.Bool.{true≢false}
use Rattle.std.specs.Prelude.{◌↔◌, IsTrue}
use Rattle.std.specs.List.{list_all}
use Rattle.std.proofs.lemmas.List.Elements.{All-weaker}
use Rattle.std.proofs.lemmas.List.Sums.{AllPass-from_list_all, list_all-from_AllPass}
use Rattle.lib_core.specs.declared.library.Fill.{Fill}
use Rattle.lib_core.specs.declared.library.Fill.TheVariants as fill
use Rattle.lib_core.specs.declared.library.Tri.{Tri}
use Rattle.lib_core.specs.declared.library.Tri.TheVariants as tri
use Rattle.lib_core.specs.Fills.{Admits}
use Rattle.fit_pairs.specs.Items.{fill_admits, is_open, is_low_or_open}

same_truth : (b c : Bool) → (b ≡ true → c ≡ true) → (c ≡ true → b ≡ true) → b ≡ c
same_truth true true f g = refl
same_truth true false f g = sym (f refl)
same_truth false true f g = g refl
same_truth false false f g = refl

open_is : (t : Tri) → is_open t ≡ true → t ≡ tri.Any
open_is tri.Zero e = cc
open_is tri.One e = cc
open_is tri.Any e = refl

low_is : (t : Tri) → is_low_or_open t ≡ true → t ≢ tri.One
low_is t e = λ q. true≢false (sym e ∙ ap is_low_or_open q)

low_from : (t : Tri) → t ≢ tri.One → is_low_or_open t ≡ true
low_from tri.Zero f = refl
low_from tri.One f = absurd (f refl)
low_from tri.Any f = refl

pub admits_same : (f : Fill) (value : List Tri) (b : Bool) → IsTrue b ↔ Admits f value → b ≡ fill_admits f value
admits_same fill.Nothing value b h =
    same_truth b (list_all is_open value)
    (λ e. list_all-from_AllPass is_open value (All-weaker (λ t. t ≡ tri.Any) (λ t. is_open t ≡ true) (λ t p. ap is_open p) value (h.0 e)))
    (λ e. h.1 (All-weaker (λ t. is_open t ≡ true) (λ t. t ≡ tri.Any) open_is value (AllPass-from_list_all is_open value e)))
admits_same fill.Zero value b h =
    same_truth b (list_all is_low_or_open value)
    (λ e. list_all-from_AllPass is_low_or_open value (All-weaker (λ t. t ≢ tri.One) (λ t. is_low_or_open t ≡ true) low_from value (h.0 e)))
    (λ e. h.1 (All-weaker (λ t. is_low_or_open t ≡ true) (λ t. t ≢ tri.One) low_is value (AllPass-from_list_all is_low_or_open value e)))
admits_same fill.Any value b h = h.1 tt
admits_same fill.NoUndef value b h = h.1 tt
