-- At driven pins of names that are apart no net stands more often than the cell drives it.
use Rattle.std.proofs.Common.{◌≡◌, ℕ, ◌+◌, ◌≤◌, Bool, true, false, cond, List, [], ◌∷◌, ◌++◌, map, Option, Some, refl, sym, ap, subst, arith}
use Rattle.std.specs.Prelude.{if◌then◌else◌}
use Rattle.std.specs.List.{count_by, flat_map}
use Rattle.std.specs.Str.{bytes_eq}
use Rattle.rtlil_text.specs.Grammar.{All, AreDistinct}
use Rattle.net_core.specs.declared.bits.Bit.{Bit}
use Rattle.cell_rows.specs.declared.pin.PinRow.{PinRow}
use Rattle.net_wires.specs.declared.source.Source.{Source}
use Rattle.raw_cells.specs.declared.raw.RawPin.{RawPin}
use Rattle.raw_cells.specs.Bits.{bits_of, pin_named, sources_at, sources_of}
use Rattle.net_gather.specs.FilePins.{in_table}
use Rattle.net_gather.specs.Laws.{FitsTable, row_of_pin}
use Rattle.net_fits.specs.RamParts.{DrivenOrAbsent}
use Rattle.net_fits.specs.Rams.{driving_sources, is_this}
use Rattle.net_fits.proofs.Attrs.{distinct_once}
use Rattle.net_fits.proofs.Ends.{counts_are}
use Rattle.net_fits.proofs.Lists.{how_many}
use Rattle.net_fits.proofs.NetCounts.{sources_joined}

-- the other names
abbrev others : List ℕ → List (List ℕ) → List (List ℕ)
others own [] = []
others own (n ∷ ns) = cond (bytes_eq own n) (others own ns) (n ∷ others own ns)

-- a number for each time that a name stands among names
abbrev each_time : List ℕ → ℕ → List (List ℕ) → ℕ
each_time own a [] = 0
each_time own a (n ∷ ns) = cond (bytes_eq own n) a 0 + each_time own a ns

fewer_case : (b c : Bool) (m n : List ℕ) (ns more : List (List ℕ)) → bytes_eq m n ≡ c → how_many (bytes_eq m) ns ≤ how_many (bytes_eq m) more → how_many (bytes_eq m) (cond b ns (n ∷ ns)) ≤ cond c 1 0 + how_many (bytes_eq m) more
fewer_case true c m n ns more e h = omega (arith, h)
fewer_case false c m n ns more e h = (let same : ◌≡◌ {A = ℕ} (cond (bytes_eq m n) 1 0) (cond c 1 0) = ap (λ t. cond t 1 0) e in omega (arith, h, same))

fewer : (own m : List ℕ) (ns : List (List ℕ)) → how_many (bytes_eq m) (others own ns) ≤ how_many (bytes_eq m) ns
fewer own m [] = omega arith
fewer own m (n ∷ ns) = fewer_case (bytes_eq own n) (bytes_eq m n) m n (others own ns) ns refl (fewer own m ns)

none_case : (b : Bool) (a x : ℕ) → cond b 1 0 + x ≤ 0 → cond b a 0 ≡ 0
none_case true a x h = absurd (omega (arith, h))
none_case false a x h = refl

never : (own : List ℕ) (a : ℕ) (ns : List (List ℕ)) → how_many (bytes_eq own) ns ≤ 0 → each_time own a ns ≤ 0
never own a [] h = omega arith
never own a (n ∷ ns) h =
    let here = none_case (bytes_eq own n) a (how_many (bytes_eq own) ns) h in
    let rest : each_time own a ns ≤ 0 = never own a ns (omega (arith, h)) in
    omega (arith, here, rest)

once_case : (b : Bool) (a x y : ℕ) → cond b 1 0 + x ≤ 1 → (x ≤ 0 → y ≤ 0) → (x ≤ 1 → y ≤ a) → cond b a 0 + y ≤ a
once_case true a x y h f g = (let none : y ≤ 0 = f (omega (arith, h)) in omega (arith, none))
once_case false a x y h f g = (let few : y ≤ a = g (omega (arith, h)) in omega (arith, few))

once : (own : List ℕ) (a : ℕ) (ns : List (List ℕ)) → how_many (bytes_eq own) ns ≤ 1 → each_time own a ns ≤ a
once own a [] h = omega arith
once own a (n ∷ ns) h = once_case (bytes_eq own n) a (how_many (bytes_eq own) ns) (each_time own a ns) h (never own a ns) (once own a ns)

-- ---- pins

module _ (net : ℕ) (places : List Bit) where
  abbrev often : List Source → ℕ
  often ss = how_many (is_this net) (bits_of places ss)

  split_case : (b : Bool) (p : RawPin) (o : Option RawPin) (n : List ℕ) (ps : List RawPin) (rest : List Source) (ns : List (List ℕ)) (t : ℕ) → o ≡ pin_named ps n → often rest ≡ t + often (flat_map (sources_at ps) ns)
      → often (sources_of (cond b (Some p) o) ++ rest) ≡ cond b (often p.bits) 0 + t + often (flat_map (sources_at ps) (cond b ns (n ∷ ns)))
  split_case true p o n ps rest ns t e h = (let a = sources_joined net places p.bits rest in omega (arith, a, h))
  split_case false p o n ps rest ns t e h =
      let a = sources_joined net places (sources_of o) rest in
      let b = sources_joined net places (sources_at ps n) (flat_map (sources_at ps) ns) in
      let c : often (sources_of o) ≡ often (sources_at ps n) = ap (λ q. often (sources_of q)) e in
      omega (arith, a, b, c, h)

  split : (p : RawPin) (ps : List RawPin) (ns : List (List ℕ)) → often (flat_map (sources_at (p ∷ ps)) ns) ≡ each_time p.name (often p.bits) ns + often (flat_map (sources_at ps) (others p.name ns))
  split p ps [] = omega arith
  split p ps (n ∷ ns) = split_case (bytes_eq p.name n) p (pin_named ps n) n ps (flat_map (sources_at (p ∷ ps)) ns) (others p.name ns) (each_time p.name (often p.bits) ns) refl (split p ps ns)

  behind_case : (b : Bool) (r : PinRow) (o : Option PinRow) (n : List ℕ) (table : List PinRow) (ns : List (List ℕ)) → o ≡ in_table table n → DrivenOrAbsent (cond b (Some r) o) → All (λ m. DrivenOrAbsent (in_table table m)) ns → All (λ m. DrivenOrAbsent (in_table table m)) (cond b ns (n ∷ ns))
  behind_case true r o n table ns e d all = all
  behind_case false r o n table ns e d all = (subst DrivenOrAbsent e d, all)

  behind : (p : RawPin) (table : List PinRow) (ns : List (List ℕ)) → All (λ m. DrivenOrAbsent (in_table (row_of_pin p ∷ table) m)) ns → All (λ m. DrivenOrAbsent (in_table table m)) (others p.name ns)
  behind p table [] all = tt
  behind p table (n ∷ ns) all = behind_case (bytes_eq p.name n) (row_of_pin p) (in_table table n) n table (others p.name ns) refl all.0 (behind p table ns all.1)

  undriven_case : (b : Bool) (p : RawPin) (o : Option PinRow) (x : ℕ) → p.drives ≡ false → DrivenOrAbsent (cond b (Some (row_of_pin p)) o) → x ≤ 0 → cond b 1 0 + x ≤ 0
  undriven_case true p o x e d h = absurd (let f : p.drives ≡ true = d in cc)
  undriven_case false p o x e d h = omega (arith, h)

  undriven : (p : RawPin) (table : List PinRow) (ns : List (List ℕ)) → p.drives ≡ false → All (λ m. DrivenOrAbsent (in_table (row_of_pin p ∷ table) m)) ns → how_many (bytes_eq p.name) ns ≤ 0
  undriven p table [] e all = omega arith
  undriven p table (n ∷ ns) e all = undriven_case (bytes_eq p.name n) p (in_table table n) (how_many (bytes_eq p.name) ns) e all.0 (undriven p table ns e all.1)

  own_case : (d : Bool) (p : RawPin) (table : List PinRow) (ns : List (List ℕ)) → p.drives ≡ d → how_many (bytes_eq p.name) ns ≤ 1 → All (λ m. DrivenOrAbsent (in_table (row_of_pin p ∷ table) m)) ns → each_time p.name (often p.bits) ns ≤ often (if d then p.bits else [])
  own_case true p table ns e h all = once p.name (often p.bits) ns h
  own_case false p table ns e h all = never p.name (often p.bits) ns (undriven p table ns e all)

  none_there : (ns : List (List ℕ)) → often (flat_map (sources_at []) ns) ≤ 0
  none_there [] = omega arith
  none_there (n ∷ ns) = none_there ns

  pub named_once : (ps : List RawPin) (ns : List (List ℕ)) → ((m : List ℕ) → how_many (bytes_eq m) ns ≤ 1) → All (λ m. DrivenOrAbsent (in_table (map row_of_pin ps) m)) ns → often (flat_map (sources_at ps) ns) ≤ often (driving_sources ps)
  named_once [] ns few all = none_there ns
  named_once (p ∷ ps) ns few all =
      let parts = split p ps ns in
      let own = own_case p.drives p (map row_of_pin ps) ns refl (few p.name) all in
      let less : (m : List ℕ) → how_many (bytes_eq m) (others p.name ns) ≤ 1 = λ m. (let a = fewer p.name m ns in let b = few m in omega (arith, a, b)) in
      let rest = named_once ps (others p.name ns) less (behind p (map row_of_pin ps) ns all) in
      let whole = sources_joined net places (if p.drives then p.bits else []) (driving_sources ps) in
      omega (arith, parts, own, rest, whole)

pub named_driven_once : (places : List Bit) (table : List PinRow) (pins : List RawPin) (names : List (List ℕ)) → FitsTable table pins → AreDistinct names → All (λ n. DrivenOrAbsent (in_table table n)) names
    → (net : ℕ) → count_by (is_this net) (bits_of places (flat_map (sources_at pins) names)) ≤ count_by (is_this net) (bits_of places (driving_sources pins))
named_driven_once places table pins names fits new all net =
    let few = named_once net places pins names (λ m. distinct_once names m new) (subst (λ (t : List PinRow). All (λ n. DrivenOrAbsent (in_table t n)) names) (sym fits) all) in
    let left = counts_are (is_this net) (bits_of places (flat_map (sources_at pins) names)) in
    let right = counts_are (is_this net) (bits_of places (driving_sources pins)) in
    omega (arith, few, left, right)
