-- What a memory allows: its contents over time, and what its read ports show and keep. (Yosys manual, memories; accesses
-- out of range, mixed transparency and undefined contents are this project's own.)
use Rattle.std.specs.Prelude.{◌≡◌, ℕ, suc, ◌+◌, ◌-◌, ◌*◌, ◌/◌, ◌%◌, ◌^◌, ◌<◌, Bool, true, false, cond, not, ◌&&◌, ◌||◌, List, [], ◌∷◌, Option, Some, None, slice_get, nat_eq, nat_lt, nat_le}
use Rattle.lib_core.specs.declared.library.Tri.{Tri}
use Rattle.lib_core.specs.declared.library.Tri.TheVariants.{Any}
use Rattle.net_core.specs.declared.bits.Clock.{Clock}
use Rattle.net_core.specs.declared.bits.Bit.{Bit}
use Rattle.net_core.specs.declared.mems.Mem.{Mem}
use Rattle.net_core.specs.declared.mems.RdPort.{RdPort}
use Rattle.net_core.specs.declared.mems.WrPort.{WrPort}
use Rattle.lib_core.specs.Rams.{tri_at}
use Rattle.net_core.specs.Values.{Valuation, Wave, Happening, At, value_of, values_of, number_of, bit_at, tri_of, Agrees, Shows, has_edge}

-- the size and place of a memory's words
pub record Frame : Type 0 where
  pub width : ℕ
  pub size : ℕ
  pub offset : ℕ

abbrev pub frame_of : Mem → Frame
frame_of m = record { width = m.width; size = m.size; offset = m.offset }

-- the first address of a port's group: in a valid module the low address bits of a wide port are 0
abbrev pub base_of : Valuation → List Bit → ℕ
base_of v addr = number_of (values_of v addr)

-- the bit that a write puts at a bit of a word, if it reaches it
abbrev pub hit : List ℕ → Frame → Happening → Valuation → ℕ → ℕ → WrPort → Option Bool
hit inputs f e v word k w =
    let address = f.offset + word in
    let base = base_of v w.addr in
    let place = (address - base) * f.width + k in
    cond (has_edge inputs e.edge w.clock && nat_le base address && nat_lt address (base + 2 ^ w.wide) && bit_at (values_of v w.en) place)
    (Some (bit_at (values_of v w.value) place))
    None

-- one entry for each write
abbrev pub hits : List ℕ → Frame → Happening → Valuation → ℕ → ℕ → List WrPort → List (Option Bool)
hits inputs f e v word k [] = []
hits inputs f e v word k (w ∷ ws) = hit inputs f e v word k w ∷ hits inputs f e v word k ws

abbrev pub is_hit : Option Bool → Bool
is_hit None = false
is_hit (Some b) = true

abbrev pub any_hit : List (Option Bool) → Bool
any_hit [] = false
any_hit (h ∷ hs) = is_hit h || any_hit hs

-- the write at place own has priority over every other that hits; the hits are those from place at on
abbrev pub beats : List Bool → ℕ → ℕ → List (Option Bool) → Bool
beats prio own at [] = true
beats prio own at (h ∷ hs) = (not (is_hit h) || (nat_eq at own || bit_at prio at)) && beats prio own (suc at) hs

-- the value of the hit that has priority over all other hits
abbrev pub winner : List (Option Bool) → ℕ → List WrPort → List (Option Bool) → Option Bool
winner all at [] hs = None
winner all at (w ∷ ws) [] = None
winner all at (w ∷ ws) (None ∷ hs) = winner all (suc at) ws hs
winner all at (w ∷ ws) (Some b ∷ hs) = cond (beats w.prio at 0 all) (Some b) (winner all (suc at) ws hs)

abbrev pub tri_or_any : Option Bool → Tri
tri_or_any None = Any
tri_or_any (Some b) = tri_of b

-- a bit of a word after the writes
abbrev pub written : List WrPort → List (Option Bool) → Tri → Tri
written ws hs old = cond (any_hit hs) (tri_or_any (winner hs 0 ws hs)) old

-- each hit has its bit in the mask
abbrev pub all_masked : List Bool → ℕ → List (Option Bool) → Bool
all_masked mask at [] = true
all_masked mask at (h ∷ hs) = (not (is_hit h) || bit_at mask at) && all_masked mask (suc at) hs

-- no hit has its bit in the mask
abbrev pub none_masked : List Bool → ℕ → List (Option Bool) → Bool
none_masked mask at [] = true
none_masked mask at (h ∷ hs) = (not (is_hit h) || not (bit_at mask at)) && none_masked mask (suc at) hs

-- what a loading read takes of a bit
abbrev pub loaded : List Bool → List Bool → List WrPort → List (Option Bool) → Tri → Tri
loaded trans coll ws hs old =
    cond (any_hit hs)
    (cond (all_masked trans 0 hs) (tri_or_any (winner hs 0 ws hs)) (cond (none_masked trans 0 hs && none_masked coll 0 hs) old Any))
    old

-- contents at each moment: moment, word, bit
abbrev pub Words : Type 0
Words = ℕ → ℕ → ℕ → Tri

-- something of the bit that stands at a place of a read's data; of a word that does not exist any
abbrev pub read_bit : Frame → ℕ → ℕ → (ℕ → ℕ → Tri) → Tri
read_bit f base k here =
    let address = base + k / f.width in
    cond (nat_le f.offset address && nat_lt address (f.offset + f.size)) (here (address - f.offset) (k % f.width)) Any

-- the synchronous reset of a clocked read counts
abbrev pub read_resets : RdPort → Valuation → Bool
read_resets r v = value_of v r.srst && (not r.ce_over_srst || value_of v r.en)

abbrev pub read_shows : RdPort → Valuation → (ℕ → Bool) → ℕ → Tri
read_shows r v kept k = cond (value_of v r.arst) (tri_at r.arst_value k) (tri_of (kept k))

abbrev pub read_next : List ℕ → Frame → List WrPort → Clock → RdPort → Happening → Valuation → (ℕ → ℕ → Tri) → (ℕ → Bool) → ℕ → ℕ → Tri
read_next inputs f ws c r e v words kept k out =
    cond (value_of v r.arst) (tri_of (v out))
    (cond (not (has_edge inputs e.edge c)) (tri_of (kept k))
    (cond (read_resets r v) (tri_at r.srst_value k)
    (cond (value_of v r.en)
    (read_bit f (base_of v r.addr) k (λ word bit. loaded r.trans r.coll ws (hits inputs f e v word bit ws) (words word bit)))
    (tri_of (kept k)))))

pub record ClockedAllows (inputs : List ℕ) (f : Frame) (ws : List WrPort) (c : Clock) (r : RdPort) (words : Words) (events : List Happening) (v : Wave) : Type 0 where
  pub kept : ℕ → ℕ → Bool
  pub starts : (k : ℕ) → Agrees (tri_at r.init_value k) (kept 0 k)
  pub shows : (t : ℕ) (e : Happening) → At events t e → Shows (v t) r.out (read_shows r (v t) (kept t))
  pub steps : (t : ℕ) (e : Happening) → At events t e → (k out : ℕ) → slice_get r.out k ≡ Some out → Agrees (read_next inputs f ws c r e (v t) (words t) (kept t) k out) (kept (suc t) k)

-- an asynchronous read shows the contents before the moment's step
abbrev pub AsyncAllows : Frame → RdPort → Words → List Happening → Wave → Type 0
AsyncAllows f r words events v = (t : ℕ) (e : Happening) → At events t e → Shows (v t) r.out (λ k. read_bit f (base_of (v t) r.addr) k (words t))

abbrev pub ReadAllows : List ℕ → Frame → List WrPort → Option Clock → RdPort → Words → List Happening → Wave → Type 0
ReadAllows inputs f ws None r words events v = AsyncAllows f r words events v
ReadAllows inputs f ws (Some c) r words events v = ClockedAllows inputs f ws c r words events v

-- contents that start with the initial words and take the writes of each moment
pub record Holds (inputs : List ℕ) (f : Frame) (init : List Tri) (ws : List WrPort) (words : Words) (events : List Happening) (v : Wave) : Type 0 where
  pub starts : (word k : ℕ) → word < f.size → k < f.width → words 0 word k ≡ tri_at init (word * f.width + k)
  pub steps : (t : ℕ) (e : Happening) → At events t e → (word k : ℕ) → word < f.size → k < f.width → words (suc t) word k ≡ written ws (hits inputs f e (v t) word k ws) (words t word k)

pub record MemAllows (inputs : List ℕ) (m : Mem) (events : List Happening) (v : Wave) : Type 0 where
  pub words : Words
  pub holds : Holds inputs (frame_of m) m.init m.writes words events v
  pub reads : (j : ℕ) (r : RdPort) → slice_get m.reads j ≡ Some r → ReadAllows inputs (frame_of m) m.writes r.clock r words events v
