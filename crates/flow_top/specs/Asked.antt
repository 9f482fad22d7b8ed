-- What the words of a command ask for.
use Rattle.std.specs.Prelude.{ℕ, List, [], ◌∷◌, Option, None, Some, codes, nat_le, ◌&&◌, if◌then◌else◌}
use Rattle.std.specs.Str.{bytes_eq}
use Rattle.flow_top.specs.Number.{number_of}

-- the files of map, and how many workers plan
pub record MapFiles : Type 0 where
  pub design : List ℕ
  pub library : List ℕ
  pub inferred : List ℕ
  pub netlist : List ℕ
  pub report : List ℕ
  pub workers : ℕ

-- the files of fmt
pub record FmtFiles : Type 0 where
  pub design : List ℕ
  pub out : List ℕ

-- the files of sim, and how many seeds are simulated
pub record SimFiles : Type 0 where
  pub netlist : List ℕ
  pub library : List ℕ
  pub stimulus : List ℕ
  pub trace : List ℕ
  pub seeds : ℕ

pub data Asked : Type 0 where
  Map : MapFiles → Asked
  Fmt : FmtFiles → Asked
  Sim : SimFiles → Asked

-- from 1 to 64
abbrev pub workers_within : Option ℕ → Option ℕ
workers_within None = None
workers_within (Some count) = if nat_le 1 count && nat_le count 64 then Some count else None

abbrev pub worker_count : List ℕ → Option ℕ
worker_count word = workers_within (number_of word)

abbrev pub map_with : List ℕ → List ℕ → List ℕ → List ℕ → List ℕ → Option ℕ → Option Asked
map_with design library inferred netlist report None = None
map_with design library inferred netlist report (Some workers) =
    Some (Map (record { design = design; library = library; inferred = inferred; netlist = netlist; report = report; workers = workers }))

-- from 1 to 16
abbrev pub seeds_within : Option ℕ → Option ℕ
seeds_within None = None
seeds_within (Some count) = if nat_le 1 count && nat_le count 16 then Some count else None

abbrev pub seed_count : List ℕ → Option ℕ
seed_count word = seeds_within (number_of word)

abbrev pub sim_with : List ℕ → List ℕ → List ℕ → List ℕ → Option ℕ → Option Asked
sim_with netlist library stimulus trace None = None
sim_with netlist library stimulus trace (Some seeds) =
    Some (Sim (record { netlist = netlist; library = library; stimulus = stimulus; trace = trace; seeds = seeds }))

abbrev pub asked_of : List (List ℕ) → Option Asked
asked_of (command ∷ design ∷ library ∷ inferred ∷ netlist ∷ report ∷ workers ∷ []) =
    if bytes_eq command (codes "map") then map_with design library inferred netlist report (worker_count workers) else None
asked_of (command ∷ netlist ∷ library ∷ stimulus ∷ trace ∷ seeds ∷ []) =
    if bytes_eq command (codes "sim") then sim_with netlist library stimulus trace (seed_count seeds) else None
asked_of (command ∷ design ∷ out ∷ []) = if bytes_eq command (codes "fmt") then Some (Fmt (record { design = design; out = out })) else None
asked_of words = None
