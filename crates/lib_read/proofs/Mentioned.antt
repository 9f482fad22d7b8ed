-- Each option of a RAM that is read has a value.
use Rattle.std.proofs.Common.{Bool, true, false, List, [], ◌∷◌, ◌++◌, arith, if◌then◌else◌, length-append}
use Rattle.std.specs.List.{AllByRecursion as Each, flat_map}
use Rattle.std.specs.Str.{bytes_eq}
use Rattle.lib_core.specs.declared.library.Choice.{Choice}
use Rattle.lib_tree.specs.declared.statement.Statement.{Statement}
use Rattle.lib_tree.specs.declared.statement.Statement.TheVariants as statement
use Rattle.lib_judge.specs.declared.raw.RawPort.{RawPort}
use Rattle.lib_judge.specs.declared.raw.RawRam.{RawRam}
use Rattle.lib_judge.specs.Faults.{all_options}
use Rattle.lib_judge.specs.Raw.{ports_of, ram_of, rams_of}
use Rattle.lib_judge.specs.Variants.{axes, axes_from, first_name, has_choice, with_choice, with_value}
use Rattle.lib_read.proofs.Counts.{IsSomething}

-- ---- the values of options

more : (b : Bool) (c : Choice) (vs : List Choice) → IsSomething vs → IsSomething (if b then vs else vs ++ c ∷ [])
more true c vs h = h
more false c vs h = omega (arith, length-append vs (c ∷ []))

with_one : (b : Bool) (vs : List Choice) (axes : List (List Choice)) (c : Choice) → IsSomething vs → Each IsSomething axes → Each IsSomething (with_choice axes c) → Each IsSomething (if b then with_value vs c ∷ axes else vs ∷ with_choice axes c)
with_one true vs axes c v h k = (more (has_choice vs c) c vs v, h)
with_one false vs axes c v h k = (v, k)

with_each : (axes : List (List Choice)) (c : Choice) → Each IsSomething axes → Each IsSomething (with_choice axes c)
unfolding with_choice
with_each [] c h = (omega arith, tt)
with_each (vs ∷ axes) c h = with_one (bytes_eq c.name (first_name vs)) vs axes c h.0 h.1 (with_each axes c h.1)

some_from : (axes : List (List Choice)) (cs : List Choice) → Each IsSomething axes → Each IsSomething (axes_from axes cs)
unfolding axes_from
some_from axes [] h = h
some_from axes (c ∷ cs) h = some_from (with_choice axes c) cs (with_each axes c h)

pub some_values : (cs : List Choice) → Each IsSomething (axes cs)
some_values cs = some_from [] cs tt

-- ---- RAMs that are read

each_append : {A : Type 0} (P : A → Type 0) (xs ys : List A) → Each P xs → Each P ys → Each P (xs ++ ys)
each_append P [] ys h k = k
each_append P (x ∷ xs) ys h k = (h.0, each_append P xs ys h.1 k)

-- each option of a RAM has a value
abbrev pub HasChoices : RawRam → Type 0
HasChoices ram = Each IsSomething (all_options ram)

abbrev PortHasChoices : RawPort → Type 0
PortHasChoices p = Each IsSomething p.options

ports_have : (ps : List RawPort) → Each PortHasChoices ps → Each IsSomething (flat_map (λ (p : RawPort). p.options) ps)
ports_have [] h = tt
ports_have (p ∷ ps) h = each_append IsSomething p.options (flat_map (λ (q : RawPort). q.options) ps) h.0 (ports_have ps h.1)

ports_read : (ss : List Statement) → Each PortHasChoices (ports_of ss)
unfolding ports_of
ports_read [] = tt
ports_read (statement.Port kind names ∷ ss) = (some_values _, ports_read ss)
ports_read (s ∷ ss) = ports_read ss

pub rams_read : (ss : List Statement) → Each HasChoices (rams_of ss)
unfolding rams_of
rams_read [] = tt
rams_read (statement.Ram line class name ∷ ss) =
    let ram = ram_of line class name ss in
    (each_append IsSomething ram.options (flat_map (λ (p : RawPort). p.options) ram.ports) (some_values _) (ports_have ram.ports (ports_read _)), rams_read ss)
rams_read (s ∷ ss) = rams_read ss
