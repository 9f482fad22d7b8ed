-- Walks over the lists that take one item from each of several lists.
use Rattle.std.specs.Prelude.{List, [], ◌∷◌, ◌++◌, fold}
use Rattle.fit_rules.specs.Candidates.{tuples}

-- a step for each of the lists that begin with so_far, in order
abbrev pub walk : {A B : Type 0} → (B → List A → B) → B → List A → List (List A) → B
walk step b so_far choices = fold (λ b t. step b (so_far ++ t)) b (tuples choices)

-- the same for the lists that go on with one of xs
abbrev pub branches : {A B : Type 0} → (B → List A → B) → B → List A → List A → List (List A) → B
branches step b so_far xs rest = fold (λ b x. walk step b (so_far ++ x ∷ []) rest) b xs
