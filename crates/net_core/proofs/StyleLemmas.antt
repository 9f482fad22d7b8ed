-- Attributes by several lists of names.
use Rattle.std.proofs.Common.{◌≡◌, ℕ, List, [], ◌∷◌, ◌++◌, Option, Some, None, refl, ap, ◌∙◌, length, ◌<◌, arith}
use Rattle.std.specs.List.{find}
use Rattle.std.specs.Str.{bytes_eq}
use Rattle.net_core.specs.declared.mems.Attr.{Attr}
use Rattle.net_core.specs.declared.mems.WrPort.{WrPort}
use Rattle.net_core.specs.Style.{first_attr, or_else, style_names, ram_names}

or_else_assoc : (a b c : Option Attr) → or_else a (or_else b c) ≡ or_else (or_else a b) c
or_else_assoc None b c = refl
or_else_assoc (Some x) b c = refl

pub first_attr_joined : (xs ys : List (List ℕ)) (attrs : List Attr) → first_attr (xs ++ ys) attrs ≡ or_else (first_attr xs attrs) (first_attr ys attrs)
first_attr_joined [] ys attrs = refl
first_attr_joined (x ∷ xs) ys attrs =
    ap (or_else (find (λ a. bytes_eq a.name x) attrs)) (first_attr_joined xs ys attrs) ∙ or_else_assoc (find (λ a. bytes_eq a.name x) attrs) (first_attr xs attrs) (first_attr ys attrs)

pub names_of_written : (ws : List WrPort) → 0 < length ws → style_names ws ≡ ram_names
names_of_written [] h = absurd (omega arith)
names_of_written (w ∷ ws) h = refl
