-- What reads take of the contents, by the bits that they reach.
use Rattle.std.proofs.Common.{◌≡◌, ℕ, ◌+◌, ◌*◌, ◌/◌, ◌%◌, ◌≤◌, Bool, true, false, not, cond, List, map, Option, sym, ap, ◌∙◌}
use Rattle.lib_core.specs.declared.library.Tri.{Tri}
use Rattle.lib_core.specs.Rams.{tri_at}
use Rattle.net_core.specs.declared.bits.Event.{Event}
use Rattle.net_core.specs.declared.mems.Mem.{Mem}
use Rattle.net_core.specs.declared.mems.RdPort.{RdPort}
use Rattle.net_core.specs.Values.{Valuation, bit_at}
use Rattle.net_core.specs.Memory.{frame_of, base_of, hits, loaded, read_bit, read_shows}
use Rattle.ram_step.specs.Moments.{inputs_alone, moment_of}
use Rattle.sim_cells.specs.Memories.{is_clocked, contents, shown_tri}
use Rattle.sim_cells.specs.Places.{write_base, base_hits, place_of, at_place}
use Rattle.sim_cells.proofs.Hitting.{hits_are, at_same, read_is, content_is}

pub content_read : (x : Mem) (words : List Tri) (base k bit : ℕ) → 1 ≤ x.width → bit ≡ base * x.width + k → at_place (place_of x bit) (λ p. tri_at words p) ≡ read_bit (frame_of x) base k (contents x words)
content_read x words base k bit some e =
    ap (λ b. at_place (place_of x b) (λ p. tri_at words p)) e
    ∙ at_same (place_of x (base * x.width + k)) (λ p. tri_at words p) (λ p. contents x words (p / x.width) (p % x.width)) (content_is x words)
    ∙ read_is x base k (contents x words) some

pub shown_now : (x : Mem) (words : List Tri) (v : Valuation) (kept : List Bool) (r : RdPort) (base k : ℕ) (t : Tri) → 1 ≤ x.width → base ≡ base_of v r.addr * x.width → is_clocked r.clock ≡ false → t ≡ at_place (place_of x (base + k)) (λ p. tri_at words p) → t ≡ shown_tri words x v kept r k
shown_now x words v kept r base k t some e clock h =
    h ∙ content_read x words (base_of v r.addr) k (base + k) some (ap (λ b. b + k) e)
    ∙ sym (ap (λ c. cond c (read_shows r v (bit_at kept) k) (read_bit (frame_of x) (base_of v r.addr) k (contents x words))) clock)

pub loads : (x : Mem) (words : List Tri) (v : Valuation) (e : Event) (r : RdPort) (bases : List (Option ℕ)) (base k : ℕ) (t : Tri) → 1 ≤ x.width → base ≡ base_of v r.addr * x.width → bases ≡ map (write_base x v e) x.writes → t ≡ at_place (place_of x (base + k)) (λ p. loaded r.trans r.coll x.writes (base_hits x v p x.writes bases) (tri_at words p)) → t ≡ read_bit (frame_of x) (base_of v r.addr) k (λ word bit. loaded r.trans r.coll x.writes (hits (inputs_alone e) (frame_of x) (moment_of e) v word bit x.writes) (contents x words word bit))
loads x words v e r bases base k t some b all h =
    h
    ∙ ap (λ bs. at_place (place_of x (base + k)) (λ p. loaded r.trans r.coll x.writes (base_hits x v p x.writes bs) (tri_at words p))) all
    ∙ ap (λ n. at_place (place_of x (n + k)) (λ p. loaded r.trans r.coll x.writes (base_hits x v p x.writes (map (write_base x v e) x.writes)) (tri_at words p))) b
    ∙ at_same (place_of x (base_of v r.addr * x.width + k))
    (λ p. loaded r.trans r.coll x.writes (base_hits x v p x.writes (map (write_base x v e) x.writes)) (tri_at words p))
    (λ p. loaded r.trans r.coll x.writes (hits (inputs_alone e) (frame_of x) (moment_of e) v (p / x.width) (p % x.width) x.writes) (contents x words (p / x.width) (p % x.width)))
    (λ p. ap (λ hs. loaded r.trans r.coll x.writes hs (tri_at words p)) (hits_are x e v p x.writes some) ∙ ap (loaded r.trans r.coll x.writes (hits (inputs_alone e) (frame_of x) (moment_of e) v (p / x.width) (p % x.width) x.writes)) (content_is x words p))
    ∙ read_is x (base_of v r.addr) k (λ word bit. loaded r.trans r.coll x.writes (hits (inputs_alone e) (frame_of x) (moment_of e) v word bit x.writes) (contents x words word bit)) some

pub load_arm : (a h s en : Bool) (w x y z t : Tri) → a ≡ false → h ≡ true → s ≡ false → en ≡ true → t ≡ z → t ≡ cond a w (cond (not h) x (cond s y (cond en z x)))
load_arm a h s en w x y z t p q r o e =
    e ∙ sym (ap (λ b. cond b w (cond (not h) x (cond s y (cond en z x)))) p ∙ ap (λ b. cond (not b) x (cond s y (cond en z x))) q ∙ ap (λ b. cond b y (cond en z x)) r ∙ ap (λ b. cond b z x) o)
