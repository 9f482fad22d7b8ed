use Rattle.std.proofs.Common.{ℕ, List, sym, ap, subst, ◌∙◌}
use Rattle.cell_rows.specs.Kinds.{found}
use Rattle.net_wires.specs.declared.source.Pair.{Pair}
use Rattle.net_wires.specs.Links.{PairsWithin}
use Rattle.net_wires.specs.Spans.{Entry, There}
use Rattle.net_gather.specs.Ties.{ties_of}
use Rattle.net_gather.proofs.Together.{all_found, context_is, err_cells, first_halts}
use Rattle.net_gather.proofs.Tying.{first_none, ties_within}
use Rattle.net_gather.proofs.gathering.gather.Goals as goal

pub tied_of-requires-clause-within : goal.tied_of-requires-clause-within
tied_of-requires-clause-within c =
    let there = subst (λ (n : ℕ). There n c.in_ok-names.names) (sym c.in_ok-wire_places.ensures.1.0) c.in_ok-names.ensures.there in
    subst (λ (ps : List Pair). PairsWithin c.in_ok-wire_places.wire_places ps) (sym (c.as_slice.ensures ∙ c.in_ok-pairs.ensures.0)) (ties_within c.in_ok-wire_places.wire_places c.in_ok-names.names c.args.items.now there)

pub gather_cells-requires : goal.gather_cells-requires
gather_cells-requires c = record { near = subst (λ (es : List Entry). There 4294967295 es) (sym c.names.view_is) c.in_ok-names.ensures.near }

pub returns-in_err-found : goal.returns-in_err-found
returns-in_err-found c =
    let spans = c.in_ok-names.ensures.spans in
    let same = context_is c.args.library.now _ c.in_ok-memories_of.field-0 (λ n. found c.args.rams.now n) c.args.faces.now c.in_ok-tied.tied c.in_ok-wire_places.wire_places c.as_slice.result.now c.args.items.now
    (c.names.view_is ∙ spans) c.in_ok-memories_of.ensures c.in_ok-tied.ensures c.in_ok-wire_places.ensures.1.0 (c.as_slice.ensures ∙ c.in_ok-pairs.ensures.0 ∙ ap (λ (es : List Entry). ties_of es c.args.items.now) spans) in
    err_cells c.from_residual-in_err-found.result c.in_err-found.field-0.0 _ _ c.in_ok-names.names c.in_ok-counts.counts c.args.items.now _ same spans c.in_ok-counts.ensures
    c.in_ok-wire_places.ensures.0 c.from_residual-in_err-found.ensures.1 c.in_err-found.ensures

pub returns-in-Some : goal.returns-in-Some
returns-in-Some c =
    let spans = c.in_ok-names.ensures.spans in
    let same = context_is c.args.library.now _ c.in_ok-memories_of.field-0 (λ n. found c.args.rams.now n) c.args.faces.now c.in_ok-tied.tied c.in_ok-wire_places.wire_places c.as_slice.result.now c.args.items.now
    (c.names.view_is ∙ spans) c.in_ok-memories_of.ensures c.in_ok-tied.ensures c.in_ok-wire_places.ensures.1.0 (c.as_slice.ensures ∙ c.in_ok-pairs.ensures.0 ∙ ap (λ (es : List Entry). ties_of es c.args.items.now) spans) in
    first_halts c.in_ok-pairs.field-0.fault c.in-Some.fault _ _ c.in_ok-names.names c.in_ok-counts.counts c.args.items.now same spans c.in_ok-counts.ensures
    c.in_ok-wire_places.ensures.0 c.in_ok-found.ensures.0 c.in_ok-pairs.ensures.1 c.in-Some.is

pub returns : goal.returns
returns c =
    let spans = c.in_ok-names.ensures.spans in
    let same = context_is c.args.library.now _ c.in_ok-memories_of.field-0 (λ n. found c.args.rams.now n) c.args.faces.now c.in_ok-tied.tied c.in_ok-wire_places.wire_places c.as_slice.result.now c.args.items.now
    (c.names.view_is ∙ spans) c.in_ok-memories_of.ensures c.in_ok-tied.ensures c.in_ok-wire_places.ensures.1.0 (c.as_slice.ensures ∙ c.in_ok-pairs.ensures.0 ∙ ap (λ (es : List Entry). ties_of es c.args.items.now) spans) in
    let none = first_none _ (sym c.in_ok-pairs.ensures.1 ∙ c.in_default.is) in
    all_found _ _ c.in_ok-names.names c.in_ok-counts.counts c.args.items.now c.in_ok-wire_places.wire_places c.in_ok-found.found.places c.from_vec.result c.in_ok-pairs.field-0.pairs same spans c.in_ok-counts.ensures
    c.in_ok-wire_places.ensures.0 c.in_ok-found.ensures.0 none c.in_ok-wire_places.ensures.1.0 c.in_ok-found.ensures.1.1 (c.from_vec.ensures ∙ c.in_ok-found.ensures.1.0) c.in_ok-pairs.ensures.0
