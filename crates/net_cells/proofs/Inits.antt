-- What attributes say, one before the other.
use Rattle.std.proofs.Common.{◌≡◌, ℕ, ◌+◌, ◌<◌, List, ◌∷◌, length, drop, replicate, get_or, refl, ap, ◌∙◌, arith}
use Rattle.std.proofs.lemmas.List.{at_drop_more, drop_all}
use Rattle.lib_core.specs.declared.library.Tri.TheVariants.{Any}
use Rattle.net_core.specs.declared.mems.Attr.{Attr}
use Rattle.net_cells.specs.Wires.{inits_of, with_attr}

pub no_attrs : (attrs : List Attr) (width : ℕ) → inits_of (drop (length attrs) attrs) width ≡ replicate width Any
unfolding inits_of
no_attrs attrs width = ap (λ as_. inits_of as_ width) (drop_all (length attrs) attrs (omega arith))

step : (a : Attr) (attrs : List Attr) (width : ℕ) → inits_of (a ∷ attrs) width ≡ with_attr a (inits_of attrs width)
unfolding inits_of
step a attrs width = refl

pub one_attr : (attrs : List Attr) (place width : ℕ) (d : Attr) → place < length attrs → inits_of (drop place attrs) width ≡ with_attr (get_or attrs place d) (inits_of (drop (place + 1) attrs) width)
one_attr attrs place width d h = at_drop_more (λ as_. inits_of as_ width) attrs place d h ∙ step (get_or attrs place d) (drop (place + 1) attrs) width
