-- The sets of bytes of which spellings have runs.
use Rattle.std.specs.Prelude.{ℕ, suc, ◌==◌, Bool, false, ◌||◌, ◌&&◌, nat_le, List, [], ◌∷◌, if◌then◌else◌}
use Rattle.op_base.specs.Characters.{is_word, is_symbol, is_digit}
use Rattle.op_token.specs.declared.set.Set.{Set}
use Rattle.op_token.specs.declared.set.Set.TheVariants.{Word, Symbol, Decimal, Hexadecimal, Octal, Binary}

-- letters, digits and _ ; symbol characters; digits to a base
abbrev pub has : Set → ℕ → Bool
has Word b = is_word b
has Symbol b = is_symbol b
has Decimal b = is_digit b
has Hexadecimal b = is_digit b || (nat_le 97 b && nat_le b 102) || (nat_le 65 b && nat_le b 70)
has Octal b = nat_le 48 b && nat_le b 55
has Binary b = nat_le 48 b && nat_le b 49

-- how many bytes from the front on are of the set
abbrev pub run : Set → List ℕ → ℕ
run set [] = 0
run set (b ∷ s) = if has set b then suc (run set s) else 0

-- whether these bytes begin with a byte
abbrev pub begins_with : ℕ → List ℕ → Bool
begins_with c [] = false
begins_with c (b ∷ s) = b == c
