-- What a module allows over some moments, it allows over the first of them.
use Rattle.std.proofs.Common.{ℕ, zero, suc, ◌<◌, List, [], ◌∷◌, take, Option, Some, None, arith}
use Rattle.lib_core.specs.declared.library.Library.{Library}
use Rattle.net_core.specs.declared.bits.Clock.{Clock}
use Rattle.net_core.specs.declared.mems.RdPort.{RdPort}
use Rattle.net_core.specs.declared.mems.WrPort.{WrPort}
use Rattle.net_core.specs.declared.modules.Module.{Module}
use Rattle.net_core.specs.Memory.{Words, Frame, ReadAllows}
use Rattle.net_core.specs.Runs.{Run}
use Rattle.net_core.specs.Values.{Wave, Happening, At}

pub at_taken : (n : ℕ) (events : List Happening) (t : ℕ) (e : Happening) → At (take n events) t e → (t < n) × At events t e
at_taken zero events t e h = cc
at_taken (suc n) [] t e h = cc
at_taken (suc n) (x ∷ events) zero e h = (omega arith, h)
at_taken (suc n) (x ∷ events) (suc t) e h = let (l, at) = at_taken n events t e h in (omega (arith, l), at)

pub taken_at : (n : ℕ) (events : List Happening) (t : ℕ) (e : Happening) → t < n → At events t e → At (take n events) t e
taken_at zero events t e l h = absurd (omega (arith, l))
taken_at (suc n) [] t e l h = h
taken_at (suc n) (x ∷ events) zero e l h = h
taken_at (suc n) (x ∷ events) (suc t) e l h = taken_at n events t e (omega (arith, l)) h

module _ (n : ℕ) (events : List Happening) (v : Wave) where
  read_prefix : (inputs : List ℕ) (f : Frame) (ws : List WrPort) (c : Option Clock) (r : RdPort) (words : Words) → ReadAllows inputs f ws c r words events v → ReadAllows inputs f ws c r words (take n events) v
  read_prefix inputs f ws None r words h = λ t e at. h t e (at_taken n events t e at).1
  read_prefix inputs f ws (Some c) r words h = record {
    kept = h.kept;
    starts = h.starts;
    shows = λ t e at. h.shows t e (at_taken n events t e at).1;
    steps = λ t e at. h.steps t e (at_taken n events t e at).1;
  }

  pub run_prefix : (lib : Library) (m : Module) → Run lib m events v → Run lib m (take n events) v
  run_prefix lib m run = record {
    inputs = λ t e at. run.inputs t e (at_taken n events t e at).1;
    combs = λ i c there t e at. run.combs i c there t e (at_taken n events t e at).1;
    regs = λ i r there.
        let h = run.regs i r there in
        record { kept = h.kept; starts = h.starts; shows = λ t e at. h.shows t e (at_taken n events t e at).1; steps = λ t e at. h.steps t e (at_taken n events t e at).1 };
    mems = λ i x there.
        let h = run.mems i x there in
        record {
          words = h.words;
          holds = record { starts = h.holds.starts; steps = λ t e at. h.holds.steps t e (at_taken n events t e at).1 };
          reads = λ j r here. read_prefix _ _ _ r.clock r h.words (h.reads j r here);
        };
    rams = λ i c there x is.
        let h = run.rams i c there x is in
        record {
          words = h.words;
          starts = h.starts;
          steps = λ t e at. h.steps t e (at_taken n events t e at).1;
          slots = λ a s here. (
            λ used now t e at. (h.slots a s here).0 used now t e (at_taken n events t e at).1,
            λ used later.
                let g = (h.slots a s here).1 used later in
                record { kept = g.kept; starts = g.starts; shows = λ t e at. g.shows t e (at_taken n events t e at).1; steps = λ t e at. g.steps t e (at_taken n events t e at).1 },
          );
        };
  }
