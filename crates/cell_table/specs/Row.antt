-- What a logic cell shows when each net has a value and each free choice is made. (Yosys manual, word-level cells.)
use Rattle.std.specs.Prelude.{◌<◌, ℕ, Bool, true, false, List, length}
use Rattle.lib_core.specs.declared.library.Tri.{Tri}
use Rattle.lib_core.specs.declared.library.Tri.TheVariants.{Zero, One, Any}
use Rattle.net_core.specs.declared.bits.Bit.{Bit}
use Rattle.net_core.specs.Values.{Valuation, bit_at}
use Rattle.net_core.specs.Nodes.{HasNet}

-- the valuation that a list gives, one value for each net
abbrev pub valuation : List Bool → Valuation
valuation values = bit_at values

-- each net among the bits has a value in the list
abbrev pub HaveValues : List Bit → List Bool → Type 0
HaveValues bits values = (n : ℕ) → HasNet bits n → n < length values

-- a bit that may be undefined, where an undefined one is chosen
abbrev pub chosen : Tri → Bool → Bool
chosen Zero free = false
chosen One free = true
chosen Any free = free
