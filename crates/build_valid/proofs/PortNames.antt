-- The name of a pin of a port of a RAM tells the port and the pin.
use Rattle.std.proofs.Common.{◌≡◌, ℕ, List, [], ◌∷◌, ◌++◌, drop, reverse, get_or, codes, nat_eq, refl, ap, ◌∙◌}
use Rattle.std.specs.Prelude.{if◌then◌else◌}
use Rattle.std.proofs.lemmas.List.{reverse-append, reverse-reverse}
use Rattle.ram_rows.specs.declared.pins.SlotPin.{SlotPin}
use Rattle.ram_rows.specs.declared.pins.SlotPin.TheVariants as pin
use Rattle.ram_rows.specs.RamNames.{slot_name}
use Rattle.ram_rows.specs.RamPins.{suffix}

-- the pins by number
abbrev pub pin_number : SlotPin → ℕ
pin_number pin.Clk = 0
pin_number pin.ClkEn = 1
pin_number pin.Addr = 2
pin_number pin.RdData = 3
pin_number pin.RdEn = 4
pin_number pin.RdSrst = 5
pin_number pin.RdArst = 6
pin_number pin.WrData = 7
pin_number pin.WrEn = 8
pin_number pin.WrBe = 9

-- by the last, the fourth last and the sixth last byte of a name
abbrev number_by : ℕ → ℕ → ℕ → ℕ
number_by a b c =
    if nat_eq a 75 then 0 else if nat_eq a 78 then (if nat_eq b 75 then 1 else if nat_eq b 68 then 4 else 8) else if nat_eq a 82 then 2
    else if nat_eq a 65 then (if nat_eq c 68 then 3 else 7) else if nat_eq a 84 then (if nat_eq b 83 then 5 else 6) else 9

-- what stands behind the port's name in the name of a pin of this number
abbrev behind : ℕ → ℕ
behind k = get_or (4 ∷ 7 ∷ 5 ∷ 8 ∷ 6 ∷ 8 ∷ 8 ∷ 8 ∷ 6 ∷ 6 ∷ []) k 0

-- a name that is read from its end
abbrev number_back : List ℕ → ℕ
number_back r = number_by (get_or r 0 0) (get_or r 3 0) (get_or r 5 0)

abbrev front_back : List ℕ → List ℕ
front_back r = reverse (drop (behind (number_back r)) r)

-- the number of the pin, and the port, that a name tells
unfoldable pub number_of : List ℕ → ℕ
number_of name = number_back (reverse (drop 6 name))

unfoldable pub port_of : List ℕ → List ℕ
port_of name = front_back (reverse (drop 6 name))

number_at : (p : SlotPin) (rest : List ℕ) → number_back (reverse (codes "_" ++ suffix p) ++ rest) ≡ pin_number p
number_at pin.Clk rest = refl
number_at pin.ClkEn rest = refl
number_at pin.Addr rest = refl
number_at pin.RdData rest = refl
number_at pin.RdEn rest = refl
number_at pin.RdSrst rest = refl
number_at pin.RdArst rest = refl
number_at pin.WrData rest = refl
number_at pin.WrEn rest = refl
number_at pin.WrBe rest = refl

front_at : (p : SlotPin) (rest : List ℕ) → front_back (reverse (codes "_" ++ suffix p) ++ rest) ≡ reverse rest
front_at pin.Clk rest = refl
front_at pin.ClkEn rest = refl
front_at pin.Addr rest = refl
front_at pin.RdData rest = refl
front_at pin.RdEn rest = refl
front_at pin.RdSrst rest = refl
front_at pin.RdArst rest = refl
front_at pin.WrData rest = refl
front_at pin.WrEn rest = refl
front_at pin.WrBe rest = refl

backwards : (slot : List ℕ) (p : SlotPin) → reverse (drop 6 (slot_name slot (suffix p))) ≡ reverse (codes "_" ++ suffix p) ++ reverse slot
backwards slot p = reverse-append slot (codes "_" ++ suffix p)

pub number_told : (slot : List ℕ) (p : SlotPin) → number_of (slot_name slot (suffix p)) ≡ pin_number p
unfolding number_of
number_told slot p = ap number_back (backwards slot p) ∙ number_at p (reverse slot)

pub port_told : (slot : List ℕ) (p : SlotPin) → port_of (slot_name slot (suffix p)) ≡ slot
unfolding port_of
port_told slot p = ap front_back (backwards slot p) ∙ front_at p (reverse slot) ∙ reverse-reverse slot
