use Rattle.std.proofs.Common.{◌≡◌, ℕ, List, [], Option, Some, None, sym, ◌∙◌, ap}
use Rattle.lib_judge.specs.declared.raw.RawPort.{RawPort}
use Rattle.lib_judge.specs.Names.{distinct_from, names_of_all}
use Rattle.lib_judge.proofs.Looked.{are_distinct, repeats}
use Rattle.lib_judge.proofs.Twice.{twice_of_names}
use Rattle.lib_judge.proofs.faults.ram_fault.Goals as goal

-- what was found of the names of the ports
found_is : (o p : Option (List (List ℕ))) (xs ys : List (List ℕ)) (ps qs : List RawPort) → o ≡ p → o ≡ distinct_from [] xs → xs ≡ ys → ys ≡ names_of_all ps → ps ≡ qs → p ≡ distinct_from [] (names_of_all qs)
found_is o p xs ys ps qs a b c d e =
    sym a ∙ b ∙ ap (λ (x : List (List ℕ)). distinct_from [] x) (c ∙ d ∙ ap (λ (x : List RawPort). names_of_all x) e)

pub fault_behind-requires-clause-known : goal.fault_behind-requires-clause-known
fault_behind-requires-clause-known c =
    let e = found_is c.in_ok-known.field-0 (Some c.in-Some.known) c.as_slice-2.result.now c.in_ok-names.names.items c.as_slice.result.now c.args.ram.now.ports c.in-Some.is c.in_ok-known.ensures c.as_slice-2.ensures.value c.in_ok-names.ensures c.as_slice.ensures in
    (are_distinct (names_of_all c.args.ram.now.ports) c.in-Some.known e).1

pub fault_behind-requires-clause-once : goal.fault_behind-requires-clause-once
fault_behind-requires-clause-once c =
    let e = found_is c.in_ok-known.field-0 (Some c.in-Some.known) c.as_slice-2.result.now c.in_ok-names.names.items c.as_slice.result.now c.args.ram.now.ports c.in-Some.is c.in_ok-known.ensures c.as_slice-2.ensures.value c.in_ok-names.ensures c.as_slice.ensures in
    (are_distinct (names_of_all c.args.ram.now.ports) c.in-Some.known e).0

pub returns : goal.returns
returns c =
    let e = found_is c.in_ok-known.field-0 None c.as_slice-2.result.now c.in_ok-names.names.items c.as_slice.result.now c.args.ram.now.ports c.in-None.is c.in_ok-known.ensures c.as_slice-2.ensures.value c.in_ok-names.ensures c.as_slice.ensures in
    c.fault.ensures ∙ sym (twice_of_names c.args.earlier.now c.args.ram.now (repeats (names_of_all c.args.ram.now.ports) e))
