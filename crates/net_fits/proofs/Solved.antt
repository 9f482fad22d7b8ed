-- What is known of the bits of places, and the bits of input wires one by one.
use Rattle.std.proofs.Common.{◌≡◌, ℕ, zero, suc, ◌+◌, ◌&&◌, Bool, true, false, not, List, [], ◌∷◌, ◌++◌, map, length, refl, ap, ◌∙◌, subst, arith}
use Rattle.std.specs.Prelude.{if◌then◌else◌}
use Rattle.rtlil_text.specs.declared.doc.DocModule.{DocModule}
use Rattle.rtlil_text.specs.declared.doc.DocWire.{DocWire}
use Rattle.rtlil_text.specs.declared.doc.Item.{Item}
use Rattle.rtlil_text.specs.declared.doc.Item.TheVariants as item
use Rattle.net_core.specs.declared.bits.Bit.{Bit}
use Rattle.net_wires.specs.declared.link.Link.{Link}
use Rattle.net_wires.specs.declared.source.Source.{Source}
use Rattle.net_wires.specs.declared.source.Source.TheVariants as source
use Rattle.net_wires.specs.Drivers.{has_conflict}
use Rattle.net_wires.specs.Links.{links_of}
use Rattle.net_wires.specs.Nets.{InOrder, Resolves, Solves}
use Rattle.net_wires.specs.Signals.{run_bits, upto}
use Rattle.net_wires.specs.Spans.{spans}
use Rattle.net_wires.proofs.Ready.{length_links}
use Rattle.net_gather.specs.Cells.{Context}
use Rattle.net_gather.specs.Gather.{gathered}
use Rattle.net_gather.specs.Laws.{numbers_from}
use Rattle.net_fits.specs.Driven.{cell_sources, input_sources, IsSolved, left_sources}

-- ---- the bits of input wires

-- so many places from one on
abbrev pub run_from : ℕ → ℕ → List Source
run_from from width = map source.At (numbers_from from width)

abbrev pub input_run : ℕ → DocWire → List Source
input_run from w = if w.input && not w.output then run_from from w.width else []

abbrev pub inputs_from : ℕ → List Item → List Source
inputs_from from [] = []
inputs_from from (item.Wire w ∷ is) = input_run from w ++ inputs_from (from + w.width) is
inputs_from from (item.Param p ∷ is) = inputs_from from is
inputs_from from (item.Mem m ∷ is) = inputs_from from is
inputs_from from (item.Cell c ∷ is) = inputs_from from is
inputs_from from (item.Connect l r ∷ is) = inputs_from from is

same_items : {X : Type 0} (f g : ℕ → X) (n : ℕ) → ((k : ℕ) → f k ≡ g k) → upto f n ≡ upto g n
same_items f g zero h = refl
same_items f g (suc n) h = ap (λ xs. xs ++ f n ∷ []) (same_items f g n h) ∙ ap (λ x. upto g n ++ x ∷ []) (h n)

first_out : {X : Type 0} (f : ℕ → X) (n : ℕ) → upto f (suc n) ≡ f 0 ∷ upto (λ k. f (suc k)) n
first_out f zero = refl
first_out f (suc n) = ap (λ xs. xs ++ f (suc n) ∷ []) (first_out f n)

pub runs_alike : (from width : ℕ) → run_bits from width ≡ run_from from width
runs_alike from zero = refl
runs_alike from (suc width) =
    let here : from + 0 ≡ from = omega arith in
    let later : (k : ℕ) → source.At (from + suc k) ≡ source.At (from + 1 + k) = λ k. (let e : from + suc k ≡ from + 1 + k = omega arith in ap source.At e) in
    first_out (λ k. source.At (from + k)) width ∙ ap (λ n. source.At n ∷ upto (λ k. source.At (from + suc k)) width) here
    ∙ ap (λ xs. source.At from ∷ xs) (same_items (λ k. source.At (from + suc k)) (λ k. source.At (from + 1 + k)) width later ∙ runs_alike (from + 1) width)

run_alike : (t : Bool) (from width : ℕ) → (if t then run_bits from width else []) ≡ (if t then run_from from width else [])
run_alike true from width = runs_alike from width
run_alike false from width = refl

pub inputs_alike : (from : ℕ) (is : List Item) → input_sources from is ≡ inputs_from from is
inputs_alike from [] = refl
inputs_alike from (item.Wire w ∷ is) =
    ap (λ xs. xs ++ input_sources (from + w.width) is) (run_alike (w.input && not w.output) from w.width) ∙ ap (λ xs. input_run from w ++ xs) (inputs_alike (from + w.width) is)
inputs_alike from (item.Param p ∷ is) = inputs_alike from is
inputs_alike from (item.Mem m ∷ is) = inputs_alike from is
inputs_alike from (item.Cell c ∷ is) = inputs_alike from is
inputs_alike from (item.Connect l r ∷ is) = inputs_alike from is

-- ---- the bits of places

-- what the laws of net_wires say of followed connects
pub record Following : Type 0 where
  pub solves : (t : List Link) (bits : List Bit) (count : ℕ) → Resolves t bits count → Solves t bits
  pub order : (t : List Link) (bits : List Bit) (count : ℕ) → Resolves t bits count → InOrder 0 bits count

pub record Solved (x : Context) (m : DocModule) (places : List Bit) (count : ℕ) : Type 0 where
  pub names : x.names ≡ spans 0 m.items
  pub solves : Solves (links_of (gathered x m.items).places (gathered x m.items).pairs) places
  pub order : InOrder 0 places count
  pub long : length places ≡ (gathered x m.items).places
  pub drivers : has_conflict (gathered x m.items).places (inputs_from 0 m.items ++ (left_sources (gathered x m.items).pairs ++ cell_sources (gathered x m.items).cells)) ≡ false

pub solved : Following → (x : Context) (m : DocModule) (places : List Bit) (count : ℕ) → IsSolved x m places count → Solved x m places count
solved f x m places count s =
    let g = gathered x m.items in
    let t = links_of g.places g.pairs in
    record {
      names = s.names;
      solves = f.solves t places count s.resolves;
      order = f.order t places count s.resolves;
      long = s.resolves.numbered.long ∙ s.resolves.long ∙ length_links g.places g.pairs;
      drivers = subst (λ (ss : List Source). has_conflict g.places (ss ++ (left_sources g.pairs ++ cell_sources g.cells)) ≡ false) (inputs_alike 0 m.items) s.drivers;
    }
