-- Integers of 64 bits.
use Rattle.std.specs.Prelude.{◌<◌, ◌^◌, ℤ, pos, negsuc}
use Rattle.op_logic.specs.Term.{Term, var, int, node, Args, no_args, arg}

abbrev pub IsSmall : ℤ → Type 0
IsSmall (pos n) = n < 2 ^ 63
IsSmall (negsuc n) = n < 2 ^ 63

-- each integer of a term has 64 bits
abbrev mutual
  pub HasSmallIntegers : {N : Type 0} → Term N → Type 0
  HasSmallIntegers (var v) = Unit {0}
  HasSmallIntegers (int i) = IsSmall i
  HasSmallIntegers (node f ts) = HaveSmallIntegers ts

  pub HaveSmallIntegers : {N : Type 0} → Args N → Type 0
  HaveSmallIntegers no_args = Unit {0}
  HaveSmallIntegers (arg t ts) = HasSmallIntegers t × HaveSmallIntegers ts
