-- Numbers that are not below 0, in decimal.
use Rattle.std.proofs.Common.{◌≡◌, ℕ, pos, ◌^◌, ◌<◌}
use Rattle.std.specs.Prelude.{decimal}
use Rattle.rtlil_lex.specs.declared.token.Token.TheVariants as token
use Rattle.rtlil_lex.specs.Spelling.{spelling}
use Rattle.rtlil_lex.proofs.Numbers.{numeral_decimal}

pub count_spelled : (n : ℕ) → n < 2 ^ 64 → decimal n ≡ spelling (token.Number (pos n))
unfolding spelling
count_spelled n h = numeral_decimal n h
