-- How places are found that are joined with marked ones: the ends of marked places are marked.
use Rattle.std.specs.Prelude.{◌≡◌, ℕ, ◌<◌, Bool, true, false, ◌&&◌, List, length, get_or, slice_set, if◌then◌else◌}
use Rattle.std.specs.List.{list_any, range_with_len}
use Rattle.net_wires.specs.declared.link.Link.{Link}
use Rattle.net_wires.specs.declared.link.Link.TheVariants.{Zero, One, End, To}
use Rattle.net_checks.specs.Driven.{end_of, is_joined_with, is_one_end}
use Rattle.net_checks.specs.Marks.{is_marked}

abbrev pub end_at : List Link → ℕ → Link
end_at ends p = get_or ends p Zero

abbrev pub mark_end : List Bool → Link → List Bool
mark_end marks (End e) = slice_set marks e true
mark_end marks Zero = marks
mark_end marks One = marks
mark_end marks (To p) = marks

abbrev pub mark_end_if : List Bool → Bool → Link → List Bool
mark_end_if marks on x = if on then mark_end marks x else marks

-- connects lead to this end from one of the first n places that are marked
abbrev pub is_reached : List Bool → List Link → ℕ → ℕ → Bool
is_reached marks ends n e = list_any (λ q. is_marked marks q && is_one_end (End e) (end_at ends q)) (range_with_len 0 n)

-- these marks say it of each end
pub record AreReached (marks : List Bool) (ends : List Link) (n : ℕ) (found : List Bool) : Type 0 where
  pub long : length found ≡ length ends
  pub each : (e : ℕ) → e < length ends → is_marked found e ≡ is_reached marks ends n e

abbrev pub is_end_marked : List Bool → Link → Bool
is_end_marked found (End e) = is_marked found e
is_end_marked found Zero = false
is_end_marked found One = false
is_end_marked found (To p) = false

-- these marks say which places are joined with marked ones
pub record AreJoined (marks : List Bool) (ends : List Link) (found : List Bool) : Type 0 where
  pub long : length found ≡ length ends
  pub each : (p : ℕ) → p < length ends → is_marked found p ≡ is_joined_with (end_at ends) (is_marked marks) (length ends) p

-- These are the ends of places, as far as two places have one end.
pub record HasEnds (t ends : List Link) : Type 0 where
  pub long : length ends ≡ length t
  pub inside : (p e : ℕ) → end_at ends p ≡ End e → e < length ends
  pub joins : (p q : ℕ) → p < length t → q < length t → is_one_end (end_at ends p) (end_at ends q) ≡ is_one_end (end_of t p) (end_of t q)
