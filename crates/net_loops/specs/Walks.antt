-- A walk through a graph, one node after the other, and what holds between its steps.
use Rattle.std.specs.Prelude.{◌≡◌, ℕ, suc, ◌<◌, ◌≤◌, ◌⊎◌, List, [], ◌∷◌, ◌++◌, length, Some, slice_get, slice_set}
use Rattle.net_core.specs.Search.{Leads}

-- a walk came to the node under a label of at most this one
abbrev pub CameTo : List ℕ → ℕ → ℕ → Type 0
CameTo labels now i = (y : ℕ) × (slice_get labels i ≡ Some y) × (y ≤ now)

-- Nodes to which a walk came have a label of at most the present one, all others the label `new`. Those on the stack have
-- the present label, and each leads to the next. A node whose row is not looked through stands on the stack.
pub record Placed (graph : List (List ℕ)) (new now : ℕ) (labels left stack done : List ℕ) : Type 0 where
  pub labelled : length labels ≡ length graph
  pub counted : length left ≡ length graph
  pub most : (i y : ℕ) → slice_get labels i ≡ Some y → (y ≤ now) ⊎ (y ≡ new)
  pub room : (i l : ℕ) (row : List ℕ) → slice_get left i ≡ Some l → slice_get graph i ≡ Some row → l ≤ length row
  pub fresh : (i y : ℕ) (row : List ℕ) → slice_get labels i ≡ Some y → now < y → slice_get graph i ≡ Some row → slice_get left i ≡ Some (length row)
  pub here : (a i : ℕ) → slice_get stack a ≡ Some i → slice_get labels i ≡ Some now
  pub path : (a i j : ℕ) → slice_get stack a ≡ Some i → slice_get stack (suc a) ≡ Some j → Leads graph i j
  pub opened : (i l : ℕ) → CameTo labels now i → slice_get left i ≡ Some (suc l) → (a : ℕ) × (slice_get stack a ≡ Some i)
  pub within : (a i : ℕ) → slice_get done a ≡ Some i → i < length graph

-- where a node leads by the entries that were looked at: not to the goal, and to nodes whose labels are at most its own
abbrev pub Looked : List (List ℕ) → ℕ → ℕ → List ℕ → List ℕ → Type 0
Looked graph goal now labels left =
    (i y l k j : ℕ) (row : List ℕ) → slice_get labels i ≡ Some y → y ≤ now → slice_get left i ≡ Some l → l ≤ k → slice_get graph i ≡ Some row → slice_get row k ≡ Some j
    → (¬ (j ≡ goal)) × CameTo labels y j

pub record Walking (graph : List (List ℕ)) (goal new now : ℕ) (labels left stack done : List ℕ) : Type 0 where
  pub placed : Placed graph new now labels left stack done
  pub looked : Looked graph goal now labels left

-- the walk met its goal: the last node on the stack leads there
pub record Met (graph : List (List ℕ)) (goal : ℕ) (stack : List ℕ) : Type 0 where
  pub some : 0 < length stack
  pub path : (a i j : ℕ) → slice_get stack a ≡ Some i → slice_get stack (suc a) ≡ Some j → Leads graph i j
  pub last : (a i : ℕ) → suc a ≡ length stack → slice_get stack a ≡ Some i → Leads graph i goal

-- what is on the stack now begins as it did
abbrev pub BeginsAs : List ℕ → List ℕ → Type 0
BeginsAs old now = (i : ℕ) → slice_get now 0 ≡ Some i → slice_get old 0 ≡ Some i

-- nodes to which a walk came keep their labels
abbrev pub KeepsLabels : ℕ → List ℕ → List ℕ → Type 0
KeepsLabels now old labels = (i y : ℕ) → slice_get old i ≡ Some y → y ≤ now → slice_get labels i ≡ Some y

-- nowhere is left to go on, and no goal was set
pub record Resting (graph : List (List ℕ)) (new now : ℕ) (labels left stack done : List ℕ) : Type 0 where
  pub walking : Walking graph new new now labels left stack done
  pub empty : stack ≡ []

-- a node to which no walk came gets the label and stands on the stack, and where one came nothing changes
abbrev pub IsVisit : ℕ → ℕ → List ℕ → List ℕ → List ℕ → List ℕ → Type 0
IsVisit label node labels stack labels' stack' =
    ((y : ℕ) × (slice_get labels node ≡ Some y) × (label < y) × (labels' ≡ slice_set labels node label) × (stack' ≡ stack ++ node ∷ []))
    ⊎ (CameTo labels label node × (labels' ≡ labels) × (stack' ≡ stack))
