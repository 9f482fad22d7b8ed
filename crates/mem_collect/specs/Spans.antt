-- The ports of a side of a whole memory: the first number of each, and how many words it has.
use Rattle.std.specs.Prelude.{ℕ, ◌+◌, Bool, true, false, List, [], ◌∷◌, nat_eq, if◌then◌else◌}
use Rattle.mem_collect.specs.declared.spans.PortSpan.{PortSpan}

-- how often 1 has to be doubled to give so many words
abbrev pub wide_of : ℕ → ℕ
wide_of words =
    if nat_eq words 2 then 1
    else (if nat_eq words 4 then 2
    else (if nat_eq words 8 then 3
    else (if nat_eq words 16 then 4
    else (if nat_eq words 32 then 5
    else (if nat_eq words 64 then 6
    else 0)))))

abbrev pub span : ℕ → ℕ → PortSpan
span first words = record { first = first; words = words; wide = wide_of words }

-- the ports from one on that begins at a number and has so many words so far; a set flag continues it
unfoldable pub spans_from : ℕ → ℕ → List Bool → List PortSpan
spans_from first words [] = span first words ∷ []
spans_from first words (true ∷ more) = spans_from first (words + 1) more
spans_from first words (false ∷ more) = span first words ∷ spans_from (first + words) 1 more

-- the number 0 begins a port
unfoldable pub spans : List Bool → List PortSpan
spans [] = []
spans (flag ∷ more) = spans_from 0 1 more
