-- Numbers rise along the bits.
use Rattle.std.proofs.Common.{◌≡◌, inl, inr, ℕ, suc, ◌<◌, true, List, [], ◌∷◌, ◌++◌, length, Option, Some, None, refl, sym, ◌∙◌, subst, arith, length-append}
use Rattle.std.specs.Prelude.{slice_get}
use Rattle.std.proofs.lemmas.Option.{same_Some, slice_get_within}
use Rattle.net_wires.specs.declared.link.Link.{Link}
use Rattle.net_wires.specs.declared.link.Link.TheVariants as links
use Rattle.net_core.specs.declared.bits.Bit.{Bit}
use Rattle.net_core.specs.declared.bits.Bit.TheVariants as bits
use Rattle.net_wires.specs.Ties.{is_end}
use Rattle.net_wires.specs.Numbers.{find, unless, with_end, appear}
use Rattle.net_wires.proofs.Joins.{kept_appear, found_last}
use Rattle.net_wires.specs.Nets.{InOrder}
use Rattle.net_wires.proofs.Saying.{Says, found_at}

abbrev Tells : List ℕ → List Link → List Bit → Type 0
Tells all es bs = (k : ℕ) (e : Link) (b : Bit) → slice_get es k ≡ Some e → slice_get bs k ≡ Some b → Says all e b

abbrev Stop : List Link → Type 0
Stop es = (k : ℕ) (e : Link) → slice_get es k ≡ Some e → is_end e ≡ true

later : (all : List ℕ) (e : Link) (b : Bit) (es : List Link) (bs : List Bit) → Tells all (e ∷ es) (b ∷ bs) → Tells all es bs
later all e b es bs t k x y h g = t (suc k) x y h g

-- a net that was met, or a new one
met : (seen : List ℕ) (es : List Link) (bs : List Bit) (p k : ℕ) (o : Option ℕ) → find seen p ≡ o → find (appear (unless o seen (seen ++ p ∷ [])) es) p ≡ Some k
    → InOrder (length (unless o seen (seen ++ p ∷ []))) bs (length (appear (unless o seen (seen ++ p ∷ [])) es)) → InOrder (length seen) (bits.Net k ∷ bs) (length (appear (unless o seen (seen ++ p ∷ [])) es))
met seen es bs p k (Some j) was final rest =
    let same : j ≡ k = same_Some j k (sym (kept_appear seen es p j was) ∙ final) in
    let low : j < length seen = slice_get_within seen j p (found_at seen p j was) in
    inl (omega (arith, same, low), rest)
met seen es bs p k None was final rest =
    let same : length seen ≡ k = same_Some (length seen) k (sym (kept_appear (seen ++ p ∷ []) es p (length seen) (found_last seen p was)) ∙ final) in
    let long : length (seen ++ p ∷ []) ≡ suc (length seen) = length-append seen (p ∷ []) ∙ omega arith in
    inr (sym same, subst (λ n. InOrder n bs (length (appear (seen ++ p ∷ []) es))) long rest)

pub in_order : (seen : List ℕ) (es : List Link) (bs : List Bit) → length bs ≡ length es → Stop es → Tells (appear seen es) es bs → InOrder (length seen) bs (length (appear seen es))
in_order seen [] [] h s t = refl
in_order seen [] (b ∷ bs) h s t = absurd (omega (arith, h))
in_order seen (e ∷ es) [] h s t = absurd (omega (arith, h))
in_order seen (links.Zero ∷ es) (b ∷ bs) h s t =
    subst (λ (x : Bit). InOrder (length seen) (x ∷ bs) (length (appear seen es))) (sym (t 0 links.Zero b refl refl)) (in_order seen es bs (omega (arith, h)) (λ k e at. s (suc k) e at) (later _ links.Zero b es bs t))
in_order seen (links.One ∷ es) (b ∷ bs) h s t =
    subst (λ (x : Bit). InOrder (length seen) (x ∷ bs) (length (appear seen es))) (sym (t 0 links.One b refl refl)) (in_order seen es bs (omega (arith, h)) (λ k e at. s (suc k) e at) (later _ links.One b es bs t))
in_order seen (links.To i ∷ es) (b ∷ bs) h s t = let no_end : is_end (links.To i) ≡ true = s 0 (links.To i) refl in cc
in_order seen (links.End p ∷ es) (b ∷ bs) h s t =
    let q = t 0 (links.End p) b refl refl in
    subst (λ (x : Bit). InOrder (length seen) (x ∷ bs) (length (appear (with_end seen (links.End p)) es))) (sym q.2)
    (met seen es bs p q.0 (find seen p) refl q.1 (in_order (with_end seen (links.End p)) es bs (omega (arith, h)) (λ k e at. s (suc k) e at) (later _ (links.End p) b es bs t)))
