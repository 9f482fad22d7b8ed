-- Where connects lead.
use Rattle.std.specs.Prelude.{◌≡◌, ℕ, zero, suc, ◌<◌, Bool, true, false, List, length, Some, slice_get, get_or}
use Rattle.net_wires.specs.declared.following.Followed.{Followed}
use Rattle.net_wires.specs.declared.link.Link.{Link}
use Rattle.net_wires.specs.declared.link.Link.TheVariants.{Zero, One, End, To}

-- a constant, or a place that no connect drives
abbrev pub is_end : Link → Bool
is_end (To i) = false
is_end x = true

-- one connect further; an end stays
abbrev pub onward : List Link → Link → Link
onward t (To i) = get_or t i (To i)
onward t x = x

-- n connects further
abbrev pub walk : List Link → ℕ → Link → Link
walk t zero x = x
walk t (suc n) x = walk t n (onward t x)

-- the connects lead to this end
abbrev pub Leads : List Link → Link → Link → Type 0
Leads t x e = (n : ℕ) × (walk t n x ≡ e) × (is_end e ≡ true)

-- a place that connects lead back to
abbrev pub OnRing : List Link → ℕ → Type 0
OnRing t i = (n : ℕ) × (walk t (suc n) (To i) ≡ To i)

-- the connects lead onto a ring, at this place
abbrev pub Circles : List Link → ℕ → ℕ → Type 0
Circles t i j = (n : ℕ) × (walk t n (To i) ≡ To j) × OnRing t j

-- each place that a table names is there
abbrev pub IsInside : ℕ → Link → Type 0
IsInside n Zero = Unit {0}
IsInside n One = Unit {0}
IsInside n (End p) = p < n
IsInside n (To p) = p < n

abbrev pub AllInside : ℕ → List Link → Type 0
AllInside n t = (i : ℕ) (x : Link) → slice_get t i ≡ Some x → IsInside n x

-- the marks say which places lie on a ring
pub record Marks (t : List Link) (marks : List Bool) : Type 0 where
  pub long : length marks ≡ length t
  pub sound : (i : ℕ) → slice_get marks i ≡ Some true → OnRing t i
  pub whole : (i : ℕ) → i < length t → OnRing t i → slice_get marks i ≡ Some true

-- connects followed: each place has what they lead to, its end or a place of a ring
pub record Follows (t : List Link) (f : Followed) : Type 0 where
  pub long : length f.ends ≡ length t
  pub leads : (i : ℕ) (e : Link) → slice_get f.ends i ≡ Some e → is_end e ≡ true → Leads t (To i) e
  pub circles : (i j : ℕ) → slice_get f.ends i ≡ Some (To j) → Circles t i j
  pub inside : AllInside (length t) f.ends
  pub rings : Marks t f.rings
