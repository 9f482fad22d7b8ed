-- A RAM has no fault where it breaks no rule and passes no limit.
use Rattle.std.proofs.Common.{◌≡◌, ℕ, Bool, true, false, List, [], Option, Some, None, refl, sym, ◌∙◌, ap, ◌||◌, ◌==◌, length, nat_lt, nat_le, if◌then◌else◌}
use Rattle.lib_core.specs.declared.library.Choice.{Choice}
use Rattle.lib_judge.specs.declared.faults.Judged.{Judged}
use Rattle.lib_judge.specs.declared.faults.RamFault.{RamFault}
use Rattle.lib_judge.specs.declared.raw.RawRam.{RawRam}
use Rattle.lib_judge.specs.Faults.{all_options, any_bad, any_costly, any_high, any_large, any_many, any_missing, any_twice, any_wide, fault_of, first_of, judges_of, limit_of, many_names, named_twice, ram_fault, rows_to_judge}
use Rattle.lib_judge.specs.Names.{names_of_all}
use Rattle.lib_judge.specs.Variants.{capped_count}
use Rattle.lib_read.specs.Expansion.{all_rows}
use Rattle.lib_read.specs.Reads.{IsSound, all_judges}

-- ---- the first of several faults

pub record NoneOf (a b c d e : Bool) (l : Option ℕ) : Type 0 where
  pub a_is : a ≡ false
  pub b_is : b ≡ false
  pub c_is : c ≡ false
  pub d_is : d ≡ false
  pub e_is : e ≡ false
  pub l_is : l ≡ None

first_none : (a b c d e : Bool) (l : Option ℕ) → first_of (a || b) (c || d) e l ≡ None → NoneOf a b c d e l
first_none true b c d e l h = absurd (cc)
first_none false true c d e l h = absurd (cc)
first_none false false true d e l h = absurd (cc)
first_none false false false true e l h = absurd (cc)
first_none false false false false true l h = absurd (cc)
first_none false false false false false (Some n) h = absurd (cc)
first_none false false false false false None h = record { a_is = refl; b_is = refl; c_is = refl; d_is = refl; e_is = refl; l_is = refl }

none_first : (a b c d e : Bool) (l : Option ℕ) → NoneOf a b c d e l → first_of (a || b) (c || d) e l ≡ None
none_first true b c d e l h = let p : true ≡ false = h.a_is in absurd (cc)
none_first false true c d e l h = let p : true ≡ false = h.b_is in absurd (cc)
none_first false false true d e l h = let p : true ≡ false = h.c_is in absurd (cc)
none_first false false false true e l h = let p : true ≡ false = h.d_is in absurd (cc)
none_first false false false false true l h = let p : true ≡ false = h.e_is in absurd (cc)
none_first false false false false false l h = ap (λ (o : Option ℕ). first_of false false false o) h.l_is

-- ---- limits

abbrev pub chain : Bool → Bool → Bool → Bool → Bool → Bool → Bool → Bool → Bool → Option ℕ
chain a b c d e f g h i =
    if a then Some 65
    else (if b then Some 257
    else (if c then Some 5
    else (if d || e then Some 9
    else (if f then Some 21
    else (if g then Some 1025
    else (if h then Some 1048577
    else (if i then Some 4194305
    else None)))))))

pub record NoneOfNine (a b c d e f g h i : Bool) : Type 0 where
  pub a_is : a ≡ false
  pub b_is : b ≡ false
  pub c_is : c ≡ false
  pub d_is : d ≡ false
  pub e_is : e ≡ false
  pub f_is : f ≡ false
  pub g_is : g ≡ false
  pub h_is : h ≡ false
  pub i_is : i ≡ false

chain_none : (a b c d e f g h i : Bool) → chain a b c d e f g h i ≡ None → NoneOfNine a b c d e f g h i
chain_none true b c d e f g h i p = absurd (cc)
chain_none false true c d e f g h i p = absurd (cc)
chain_none false false true d e f g h i p = absurd (cc)
chain_none false false false true e f g h i p = absurd (cc)
chain_none false false false false true f g h i p = absurd (cc)
chain_none false false false false false true g h i p = absurd (cc)
chain_none false false false false false false true h i p = absurd (cc)
chain_none false false false false false false false true i p = absurd (cc)
chain_none false false false false false false false false true p = absurd (cc)
chain_none false false false false false false false false false p = record { a_is = refl; b_is = refl; c_is = refl; d_is = refl; e_is = refl; f_is = refl; g_is = refl; h_is = refl; i_is = refl }

none_chain : (a b c d e f g h i : Bool) → NoneOfNine a b c d e f g h i → chain a b c d e f g h i ≡ None
none_chain true b c d e f g h i n = let p : true ≡ false = n.a_is in absurd (cc)
none_chain false true c d e f g h i n = let p : true ≡ false = n.b_is in absurd (cc)
none_chain false false true d e f g h i n = let p : true ≡ false = n.c_is in absurd (cc)
none_chain false false false true e f g h i n = let p : true ≡ false = n.d_is in absurd (cc)
none_chain false false false false true f g h i n = let p : true ≡ false = n.e_is in absurd (cc)
none_chain false false false false false true g h i n = let p : true ≡ false = n.f_is in absurd (cc)
none_chain false false false false false false true h i n = let p : true ≡ false = n.g_is in absurd (cc)
none_chain false false false false false false false true i n = let p : true ≡ false = n.h_is in absurd (cc)
none_chain false false false false false false false false true n = let p : true ≡ false = n.i_is in absurd (cc)
none_chain false false false false false false false false false n = refl

-- no limit is passed, behind so many RAMs
pub record IsTaken (earlier : ℕ) (ram : RawRam) : Type 0 where
  pub rams : nat_le 64 earlier ≡ false
  pub variants : nat_lt 256 (capped_count 1 (all_options ram)) ≡ false
  pub groups : nat_lt 4 (length ram.ports) ≡ false
  pub names : many_names ram.ports ≡ false
  pub many : any_many (all_judges ram) ≡ false
  pub high : any_high (all_judges ram) ≡ false
  pub wide : any_wide (all_judges ram) ≡ false
  pub costly : any_costly (all_judges ram) ≡ false
  pub large : any_large (all_judges ram) ≡ false

pick_rows : (b : Bool) (rows : List (List Choice)) → b ≡ false → (if b then [] else rows) ≡ rows
pick_rows true rows h = let p : true ≡ false = h in absurd (cc)
pick_rows false rows h = refl

rows_are : (ram : RawRam) → nat_lt 256 (capped_count 1 (all_options ram)) ≡ false → rows_to_judge (all_options ram) ≡ all_rows ram
rows_are ram h = pick_rows (nat_lt 256 (capped_count 1 (all_options ram))) (all_rows ram) h

-- the fault of a RAM that is judged in all variants
abbrev pub full_fault : List (List ℕ) → RawRam → List (List Choice) → Option RamFault
full_fault earlier ram rows = fault_of earlier ram (capped_count 1 (all_options ram)) (judges_of ram rows)

few_of_none : (earlier : List (List ℕ)) (ram : RawRam) (js : List Judged) → fault_of earlier ram (capped_count 1 (all_options ram)) js ≡ None → nat_lt 256 (capped_count 1 (all_options ram)) ≡ false
few_of_none earlier ram js h =
    let n = first_none (named_twice earlier ram (names_of_all ram.ports)) (any_twice js) (length ram.ports == 0) (any_missing js) (any_bad js) (limit_of (length earlier) (capped_count 1 (all_options ram)) ram.ports js) h in
    let k = chain_none (nat_le 64 (length earlier)) (nat_lt 256 (capped_count 1 (all_options ram))) (nat_lt 4 (length ram.ports)) (many_names ram.ports) (any_many js) (any_high js) (any_wide js) (any_costly js) (any_large js) n.l_is in
    k.b_is

sound_of_full : (earlier : List (List ℕ)) (ram : RawRam) → full_fault earlier ram (all_rows ram) ≡ None → IsSound earlier ram × IsTaken (length earlier) ram
sound_of_full earlier ram h =
    let js = all_judges ram in
    let n = first_none (named_twice earlier ram (names_of_all ram.ports)) (any_twice js) (length ram.ports == 0) (any_missing js) (any_bad js) (limit_of (length earlier) (capped_count 1 (all_options ram)) ram.ports js) h in
    let k = chain_none (nat_le 64 (length earlier)) (nat_lt 256 (capped_count 1 (all_options ram))) (nat_lt 4 (length ram.ports)) (many_names ram.ports) (any_many js) (any_high js) (any_wide js) (any_costly js) (any_large js) n.l_is in (
      record { names = n.a_is; once = n.b_is; ports = n.c_is; whole = n.d_is; widths = n.e_is },
      record { rams = k.a_is; variants = k.b_is; groups = k.c_is; names = k.d_is; many = k.e_is; high = k.f_is; wide = k.g_is; costly = k.h_is; large = k.i_is },
    )

pub sound_of_none : (earlier : List (List ℕ)) (ram : RawRam) → ram_fault earlier ram ≡ None → IsSound earlier ram × IsTaken (length earlier) ram
sound_of_none earlier ram h =
    let few = few_of_none earlier ram (judges_of ram (rows_to_judge (all_options ram))) h in
    let e = rows_are ram few in
    sound_of_full earlier ram (sym (ap (λ (rows : List (List Choice)). full_fault earlier ram rows) e) ∙ h)

pub none_of_sound : (earlier : List (List ℕ)) (ram : RawRam) → IsSound earlier ram → IsTaken (length earlier) ram → ram_fault earlier ram ≡ None
none_of_sound earlier ram s t =
    let js = all_judges ram in
    let k = none_chain (nat_le 64 (length earlier)) (nat_lt 256 (capped_count 1 (all_options ram))) (nat_lt 4 (length ram.ports)) (many_names ram.ports) (any_many js) (any_high js) (any_wide js) (any_costly js) (any_large js)
    (record { a_is = t.rams; b_is = t.variants; c_is = t.groups; d_is = t.names; e_is = t.many; f_is = t.high; g_is = t.wide; h_is = t.costly; i_is = t.large }) in
    let n = none_first (named_twice earlier ram (names_of_all ram.ports)) (any_twice js) (length ram.ports == 0) (any_missing js) (any_bad js) (limit_of (length earlier) (capped_count 1 (all_options ram)) ram.ports js)
    (record { a_is = s.names; b_is = s.once; c_is = s.ports; d_is = s.whole; e_is = s.widths; l_is = k }) in
    let e = rows_are ram t.variants in
    ap (λ (rows : List (List Choice)). full_fault earlier ram rows) e ∙ n
