-- The names of new cells are free, and identifiers.
use Rattle.std.proofs.Common.{◌≡◌, ℕ, zero, suc, ◌+◌, ◌<◌, ◌^◌, ◌%◌, ◌⊎◌, inl, inr, Bool, true, false, not, ◌&&◌, List, [], ◌∷◌, ◌++◌, map, replicate, refl, sym, ap, subst, ◌∙◌, append_assoc, arith}
use Rattle.std.specs.Prelude.{codes}
use Rattle.std.specs.List.{list_all, remove}
use Rattle.std.specs.Fmt.{decimal}
use Rattle.std.proofs.lemmas.Bool.Decides.{nat_tests}
use Rattle.std.proofs.lemmas.Fmt.{decimal_by_steps, decimal_injective}
use Rattle.std.proofs.lemmas.List.{append_cancel_left}
use Rattle.net_core.specs.declared.cells.Comb.{Comb}
use Rattle.net_core.specs.declared.cells.Reg.{Reg}
use Rattle.net_core.specs.declared.cells.Carried.{Carried}
use Rattle.net_core.specs.declared.rams.RamCell.{RamCell}
use Rattle.net_core.specs.declared.modules.MemPart.{MemPart}
use Rattle.net_core.specs.declared.modules.Module.{Module}
use Rattle.net_core.specs.Valid.{is_white, IsName, cell_names}
use Rattle.net_core.proofs.Basics.{both}
use Rattle.net_edit.specs.Names.{numbered, AreFree, IsFront}
use Rattle.net_edit.specs.Edits.{IsFresh, with_comb, with_reg, without_comb, without_reg}
use Rattle.net_edit.proofs.Lists.{Has, has_left, has_right, has_either, map_has, has_map, pushed_has, removed_has}

-- ---- identifiers

abbrev NoWhite : List ℕ → Type 0
NoWhite xs = list_all (λ x. not (is_white x)) xs ≡ true

none_joined : (xs ys : List ℕ) → NoWhite xs → NoWhite ys → NoWhite (xs ++ ys)
none_joined [] ys h g = g
none_joined (x ∷ xs) ys h g = both_tests (not (is_white x)) (list_all (λ x. not (is_white x)) xs) (list_all (λ x. not (is_white x)) (xs ++ ys)) h (λ r. none_joined xs ys r g)
  where
    both_tests : (a b c : Bool) → (a && b) ≡ true → (b ≡ true → c ≡ true) → (a && c) ≡ true
    both_tests true b c h r = r h
    both_tests false b c h r = h

digit_black : (d : ℕ) → d < 10 → not (is_white (48 + d)) ≡ true
digit_black d h = grind (arith, nat_tests)

one_black : (d : ℕ) → d < 10 → NoWhite ((48 + d) ∷ [])
one_black d h = both (not (is_white (48 + d))) true (digit_black d h) refl

marks_black : (n : ℕ) → NoWhite (replicate n 95)
marks_black zero = refl
marks_black (suc n) = marks_black n

decimal_black : (n : ℕ) → n < 2 ^ 64 → NoWhite (decimal n)
decimal_black n h = decimal_by_steps (λ m ds. NoWhite ds) (λ m l. one_black m l) (λ m ds l done. none_joined ds ((48 + m % 10) ∷ []) done (one_black (m % 10) (omega arith))) n h

pub numbered_named : (front : List ℕ) (n : ℕ) → IsFront front → n < 2 ^ 64 → IsName (numbered front n)
numbered_named front n made h =
    let k = made.marks in
    let rest : NoWhite (codes "edit" ++ (replicate k 95 ++ decimal n)) = none_joined (replicate k 95) (decimal n) (marks_black k) (decimal_black n h) in
    let all : IsName (codes "$edit" ++ (replicate k 95 ++ decimal n)) = rest in
    subst (λ f. IsName (f ++ decimal n)) (sym made.is) (subst IsName (sym (append_assoc (codes "$edit") (replicate k 95) (decimal n))) all)

-- ---- names that are free

-- the names of two modules: the second has those of the first, and maybe one more
pub more_free : (front : List ℕ) (count : ℕ) (old new : List (List ℕ)) (name : List ℕ) → name ≡ numbered front count → count < 2 ^ 64 → ((x : List ℕ) → Has new x → Has old x ⊎ (name ≡ x)) → AreFree front count old → AreFree front (count + 1) new
more_free front count old new name is small cases free = record {
  apart = λ k x there i low high same. elim (cases x (k, there)) [
    | inl (j, at) ↦ free.apart j x at i (omega (arith, low)) high same
    | inr e ↦
        let f : numbered front count ≡ numbered front i = sym is ∙ (e ∙ same) in
        let n = decimal_injective count i small high (append_cancel_left front (decimal count) (decimal i) f) in
        absurd (omega (arith, n, low))
  ];
}

pub fewer_free : (front : List ℕ) (count : ℕ) (old new : List (List ℕ)) → ((x : List ℕ) → Has new x → Has old x) → AreFree front count old → AreFree front count new
fewer_free front count old new has free = record { apart = λ k x there i low high same. let (j, at) = has x (k, there) in free.apart j x at i low high same }

pub fresh_is : (m : Module) (front : List ℕ) (count : ℕ) (name : List ℕ) → IsFront front → AreFree front count (cell_names m) → count < 2 ^ 64 → name ≡ numbered front count → IsFresh m name
fresh_is m front count name is free small same = record {
  named = subst IsName (sym same) (numbered_named front count is small);
  apart = λ k there. free.apart k name there count (omega arith) small same;
}

-- ---- the names of the cells of a module

module _ (m : Module) where
  abbrev combs : List (List ℕ)
  combs = map (λ (c : Comb). c.name) m.combs

  abbrev regs : List (List ℕ)
  regs = map (λ (r : Reg). r.name) m.regs

  abbrev others : List (List ℕ)
  others = map (λ (c : RamCell). c.name) m.rams ++ (map (λ (c : Carried). c.name) m.carried ++ map (λ (p : MemPart). p.name) m.parts)

  pub comb_named : (c : Comb) (x : List ℕ) → Has (cell_names (with_comb m c)) x → Has (cell_names m) x ⊎ (c.name ≡ x)
  comb_named c x h = elim (has_either (map (λ (c : Comb). c.name) (m.combs ++ c ∷ [])) (regs ++ others) x h) [
    | inl a ↦
        let (y, at, e) = map_has (λ (c : Comb). c.name) (m.combs ++ c ∷ []) x a in
        elim (pushed_has m.combs c y at) [
          | inl old ↦ inl (has_left combs (regs ++ others) x (subst (Has combs) e (has_map (λ (c : Comb). c.name) m.combs y old)))
          | inr same ↦ inr (ap (λ (c : Comb). c.name) same ∙ e)
        ]
    | inr b ↦ inl (has_right combs (regs ++ others) x b)
  ]

  pub reg_named : (r : Reg) (x : List ℕ) → Has (cell_names (with_reg m r)) x → Has (cell_names m) x ⊎ (r.name ≡ x)
  reg_named r x h = elim (has_either combs (map (λ (r : Reg). r.name) (m.regs ++ r ∷ []) ++ others) x h) [
    | inl a ↦ inl (has_left combs (regs ++ others) x a)
    | inr b ↦ elim (has_either (map (λ (r : Reg). r.name) (m.regs ++ r ∷ [])) others x b) [
      | inl a ↦
          let (y, at, e) = map_has (λ (r : Reg). r.name) (m.regs ++ r ∷ []) x a in
          elim (pushed_has m.regs r y at) [
            | inl old ↦ inl (has_right combs (regs ++ others) x (has_left regs others x (subst (Has regs) e (has_map (λ (r : Reg). r.name) m.regs y old))))
            | inr same ↦ inr (ap (λ (r : Reg). r.name) same ∙ e)
          ]
      | inr a ↦ inl (has_right combs (regs ++ others) x (has_right regs others x a))
    ]
  ]

  pub comb_gone : (i : ℕ) (x : List ℕ) → Has (cell_names (without_comb m i)) x → Has (cell_names m) x
  comb_gone i x h = elim (has_either (map (λ (c : Comb). c.name) (remove m.combs i)) (regs ++ others) x h) [
    | inl a ↦
        let (y, at, e) = map_has (λ (c : Comb). c.name) (remove m.combs i) x a in
        has_left combs (regs ++ others) x (subst (Has combs) e (has_map (λ (c : Comb). c.name) m.combs y (removed_has m.combs i y at)))
    | inr b ↦ has_right combs (regs ++ others) x b
  ]

  pub reg_gone : (i : ℕ) (x : List ℕ) → Has (cell_names (without_reg m i)) x → Has (cell_names m) x
  reg_gone i x h = elim (has_either combs (map (λ (r : Reg). r.name) (remove m.regs i) ++ others) x h) [
    | inl a ↦ has_left combs (regs ++ others) x a
    | inr b ↦ has_right combs (regs ++ others) x (elim (has_either (map (λ (r : Reg). r.name) (remove m.regs i)) others x b) [
      | inl a ↦
          let (y, at, e) = map_has (λ (r : Reg). r.name) (remove m.regs i) x a in
          has_left regs others x (subst (Has regs) e (has_map (λ (r : Reg). r.name) m.regs y (removed_has m.regs i y at)))
      | inr a ↦ has_right regs others x a
    ])
  ]

-- a cell more, or one fewer, among those that are free
pub comb_free : (m : Module) (c : Comb) (front : List ℕ) (count : ℕ) → c.name ≡ numbered front count → count < 2 ^ 64 → AreFree front count (cell_names m) → AreFree front (count + 1) (cell_names (with_comb m c))
comb_free m c front count is small free = more_free front count (cell_names m) (cell_names (with_comb m c)) c.name is small (comb_named m c) free

pub reg_free : (m : Module) (r : Reg) (front : List ℕ) (count : ℕ) → r.name ≡ numbered front count → count < 2 ^ 64 → AreFree front count (cell_names m) → AreFree front (count + 1) (cell_names (with_reg m r))
reg_free m r front count is small free = more_free front count (cell_names m) (cell_names (with_reg m r)) r.name is small (reg_named m r) free

pub comb_fewer : (m : Module) (i : ℕ) (front : List ℕ) (count : ℕ) → AreFree front count (cell_names m) → AreFree front count (cell_names (without_comb m i))
comb_fewer m i front count free = fewer_free front count (cell_names m) (cell_names (without_comb m i)) (comb_gone m i) free

pub reg_fewer : (m : Module) (i : ℕ) (front : List ℕ) (count : ℕ) → AreFree front count (cell_names m) → AreFree front count (cell_names (without_reg m i))
reg_fewer m i front count free = fewer_free front count (cell_names m) (cell_names (without_reg m i)) (reg_gone m i) free
