-- UTF-8 (ISO/IEC 10646): the character that some bytes begin with.
use Rattle.std.specs.Prelude.{ℕ, ◌+◌, ◌-◌, ◌*◌, Bool, ◌||◌, ◌&&◌, nat_le, nat_lt, List, Option, Some, None, slice_get}
use Rattle.std.specs.Prelude.{option_and_then, if◌then◌else◌, [], ◌∷◌}
use Rattle.op_token.specs.declared.character.Character.{Character}

-- a Unicode scalar value: no surrogate, and at most 10FFFF
abbrev pub is_scalar : ℕ → Bool
is_scalar c = nat_lt c 0xd800 || (nat_le 0xe000 c && nat_lt c 0x110000)

-- the six bits of a continuation byte
abbrev pub bits_of : ℕ → Option ℕ
bits_of b = if nat_le 128 b && nat_lt b 192 then Some (b - 128) else None

abbrev pub continuation : List ℕ → ℕ → Option ℕ
continuation s i = option_and_then bits_of (slice_get s i)

-- a scalar value, where it is great enough to need this spelling
abbrev pub checked : ℕ → ℕ → ℕ → Option Character
checked least c more = if nat_le least c && is_scalar c then Some (record { code = c; more = more }) else None

-- a character of two, three and four bytes, from its first
abbrev pub two : ℕ → List ℕ → Option Character
two a s = option_and_then (λ x. checked 128 ((a - 192) * 64 + x) 1) (continuation s 0)

abbrev pub three : ℕ → List ℕ → Option Character
three a s =
    option_and_then (λ x. option_and_then (λ y. checked 2048 ((a - 224) * 4096 + x * 64 + y) 2) (continuation s 1)) (continuation s 0)

abbrev pub four : ℕ → List ℕ → Option Character
four a s =
    option_and_then (λ x. option_and_then (λ y. option_and_then (λ z.
    checked 65536 ((a - 240) * 262144 + x * 4096 + y * 64 + z) 3) (continuation s 2)) (continuation s 1)) (continuation s 0)

-- the character that a byte and those behind it begin with
abbrev pub char_at : ℕ → List ℕ → Option Character
char_at a s =
    if nat_lt a 128 then Some (record { code = a; more = 0 }) else
    if nat_lt a 192 then None else
    if nat_lt a 224 then two a s else
    if nat_lt a 240 then three a s else
    if nat_lt a 248 then four a s else None

-- the character that a list begins with
abbrev pub first_char : List ℕ → Option Character
first_char [] = None
first_char (a ∷ s) = char_at a s
