-- Memories get names of their own: one whose name an earlier one has gets `_` behind it until no earlier one has the name.
use Rattle.std.specs.Prelude.{ℕ, zero, suc, Bool, List, [], ◌∷◌, ◌++◌, length, if◌then◌else◌}
use Rattle.std.specs.List.{list_any}
use Rattle.std.specs.Str.{bytes_eq}
use Rattle.net_core.specs.declared.mems.Mem.{Mem}

unfoldable pub is_among : List ℕ → List (List ℕ) → Bool
is_among name taken = list_any (λ n. bytes_eq name n) taken

-- the name, with `_` behind it as often as it is taken, so many times at most
unfoldable pub longer : ℕ → List (List ℕ) → List ℕ → List ℕ
longer zero taken name = name
longer (suc times) taken name = if is_among name taken then longer times taken (name ++ 95 ∷ []) else name

-- of different names, one more than are taken, one is free
abbrev pub free_name : List (List ℕ) → List ℕ → List ℕ
free_name taken name = longer (length taken) taken name

-- names with one more, if it is new
unfoldable pub with_name : List (List ℕ) → List ℕ → List (List ℕ)
with_name taken name = if is_among name taken then taken else taken ++ name ∷ []

unfoldable pub with_names : List (List ℕ) → List (List ℕ) → List (List ℕ)
with_names taken [] = taken
with_names taken (n ∷ ns) = with_names (with_name taken n) ns

-- the memory under another name
unfoldable pub renamed : Mem → List ℕ → Mem
renamed m name = record {
  name = name;
  attrs = m.attrs;
  width = m.width;
  size = m.size;
  offset = m.offset;
  abits = m.abits;
  init = m.init;
  reads = m.reads;
  writes = m.writes;
  origin = name;
  place = m.place;
}

unfoldable pub named_from : List (List ℕ) → List Mem → List Mem
named_from taken [] = []
named_from taken (m ∷ ms) = renamed m (free_name taken m.name) ∷ named_from (with_name taken (free_name taken m.name)) ms
