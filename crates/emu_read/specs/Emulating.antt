-- A read with what stands outside it, in the place of a read: when this is a rewriting of the memory.
use Rattle.std.specs.Prelude.{◌≡◌, ℕ, suc, ◌+◌, ◌*◌, ◌<◌, ◌≤◌, true, false, cond, nat_lt, List, ◌++◌, length, Some, slice_get, set}
use Rattle.std.specs.List.{sum_by}
use Rattle.lib_core.specs.declared.library.Library.{Library}
use Rattle.net_core.specs.declared.bits.Clock.{Clock}
use Rattle.net_core.specs.declared.cells.Comb.{Comb}
use Rattle.net_core.specs.declared.cells.Reg.{Reg}
use Rattle.net_core.specs.declared.mems.Mem.{Mem}
use Rattle.net_core.specs.declared.mems.RdPort.{RdPort}
use Rattle.net_core.specs.declared.mems.WrPort.{WrPort}
use Rattle.net_core.specs.declared.modules.Module.{Module}
use Rattle.net_core.specs.Memory.{Words, frame_of, ReadAllows}
use Rattle.net_core.specs.Nodes.{comb_node, reg_node, read_node, Rises, Ordered}
use Rattle.net_core.specs.Ports.{Interface, inputs_of}
use Rattle.net_core.specs.Runs.{Run}
use Rattle.net_core.specs.Valid.{IsValid}
use Rattle.net_core.specs.Values.{Valuation, Wave, Happening, At, value_of, values_of, bit_at}
use Rattle.net_gates.specs.Adds.{IsWithin}
use Rattle.rewriting.specs.Keeping.{Lost}
use Rattle.rewriting.specs.Known.{QuietWith}
use Rattle.rewriting.specs.Reads.{with_read, IsRead, read_bits, read_room}
use Rattle.rewriting.specs.Rewrites.{Rewrites}

-- what stands outside a read: more nets, logic cells and registers
pub record Outside : Type 0 where
  pub nets : ℕ
  pub combs : List Comb
  pub regs : List Reg

-- the module with another read at a place of a memory, and what stands outside it
abbrev pub emulated : Module → ℕ → Mem → ℕ → RdPort → Outside → Module
emulated m k x j q out =
    record m { nets = m.nets + out.nets; mems = set m.mems k (with_read x j q); combs = m.combs ++ out.combs; regs = m.regs ++ out.regs }

-- At this moment the read and a listed write are not enabled together.
abbrev pub IsQuietNow : Mem → RdPort → List ℕ → Valuation → Type 0
IsQuietNow x p quiet u =
    (a l : ℕ) (w : WrPort) → slice_get quiet a ≡ Some l → slice_get x.writes l ≡ Some w → value_of u p.en ≡ true → (b : ℕ) → bit_at (values_of u w.en) b ≡ false

-- So it is at each moment but the last.
abbrev pub IsQuietBefore : Mem → RdPort → List ℕ → List Happening → Wave → Type 0
IsQuietBefore x p quiet events v = (t : ℕ) (e next : Happening) → At events t e → At events (suc t) next → IsQuietNow x p quiet (v t)

-- In each run the nets of the old read have values that the old read allows.
abbrev pub ReadsAsBefore : Library → Module → ℕ → Mem → ℕ → RdPort → RdPort → List ℕ → Outside → Type 0
ReadsAsBefore lib m k x j p q quiet out =
    (events : List Happening) (v : Wave) → Run lib (emulated m k x j q out) events v → IsQuietBefore x p quiet events v → (words : Words) → ReadAllows (inputs_of m) (frame_of x) x.writes q.clock q words events v → ReadAllows (inputs_of m) (frame_of x) x.writes p.clock p words events v

-- Ranks with room between those of old nets; new nets have ranks of their own.
abbrev pub spread : (ℕ → ℕ) → ℕ → ℕ → (ℕ → ℕ) → ℕ → ℕ
spread rank first top high n = cond (nat_lt n first) (suc top * rank n + top) (high n)

-- Along such ranks what is new rises.
pub record Rising (m : Module) (q : RdPort) (out : Outside) (top : ℕ) (rank : ℕ → ℕ) : Type 0 where
  pub high : ℕ → ℕ
  pub combs : (i : ℕ) (c : Comb) → slice_get out.combs i ≡ Some c → Rises (spread rank m.nets top high) (comb_node c)
  pub regs : (i : ℕ) (r : Reg) → slice_get out.regs i ≡ Some r → Rises (spread rank m.nets top high) (reg_node r)
  pub read : Rises (spread rank m.nets top high) (read_node q)

-- What is outside is no more than an emulation may add, and each cell drives something.
pub record IsFew (x : Mem) (p : RdPort) (out : Outside) : Type 0 where
  pub nets : out.nets ≤ 4 * read_bits x p
  pub logic : sum_by (λ (c : Comb). length c.y) out.combs ≤ 4 * read_bits x p
  pub bits : sum_by (λ (r : Reg). length r.q) out.regs ≤ 2 * length p.out + 1
  pub combs : (i : ℕ) (c : Comb) → slice_get out.combs i ≡ Some c → 0 < length c.y
  pub regs : (i : ℕ) (r : Reg) → slice_get out.regs i ≡ Some r → 0 < length r.q

-- A read q with what is outside does what the read p does.
pub record Emulation (lib : Library) (modules : List Interface) (lost : Lost) (m : Module) (k j : ℕ) (x : Mem) (p q : RdPort) (quiet : List ℕ) (out : Outside) : Type 0 where
  pub is : IsRead m k j x p
  pub wide : q.wide ≡ p.wide
  pub addr : q.addr ≡ p.addr
  pub long : length q.out ≡ length p.out
  pub clock : (c : Clock) → q.clock ≡ Some c → p.clock ≡ Some c
  pub clocks : (i : ℕ) (r : Reg) → slice_get out.regs i ≡ Some r → p.clock ≡ Some r.clock
  pub enable : (l : ℕ) → lost.quiet j l ≡ false → q.en ≡ p.en
  pub calm : QuietWith lib m x j quiet
  pub reads : ReadsAsBefore lib m k x j p q quiet out
  pub few : IsFew x p out
  pub within : IsWithin m
  pub top : ℕ
  pub rising : (o : Ordered m) → Rising m q out top o.rank
  pub valid : IsValid lib modules m → IsValid lib modules (emulated m k x j q out)

-- The law: such an emulation is a rewriting of the memory.
abbrev pub EmulationIsRewriting : Type 0
EmulationIsRewriting =
    (lib : Library) (modules : List Interface) (lost : Lost) (m : Module) (k j : ℕ) (x : Mem) (p q : RdPort) (quiet : List ℕ) (out : Outside) → Emulation lib modules lost m k j x p q quiet out → Rewrites lib modules k x (with_read x j q) lost (read_room x p) m (emulated m k x j q out)
