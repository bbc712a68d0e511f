-- Classes of characters within ASCII (ISO/IEC 13211-1, 6.5), each as the codes that belong to it.
use Rattle.std.specs.Prelude.{ℕ, ◌==◌, Bool, ◌||◌, ◌&&◌, nat_le}

-- layout: space, tab, newline, vertical tab, form feed and carriage return
abbrev pub is_layout : ℕ → Bool
is_layout b = b == 32 || (nat_le 9 b && nat_le b 13)

abbrev pub is_small : ℕ → Bool
is_small b = nat_le 97 b && nat_le b 122

abbrev pub is_capital : ℕ → Bool
is_capital b = nat_le 65 b && nat_le b 90

abbrev pub is_digit : ℕ → Bool
is_digit b = nat_le 48 b && nat_le b 57

-- a letter, a digit or _
abbrev pub is_word : ℕ → Bool
is_word b = (nat_le 97 b && nat_le b 122) || (nat_le 65 b && nat_le b 90) || (nat_le 48 b && nat_le b 57) || b == 95

-- a symbol character: + - * / \ ^ < > = ~ : . ? @ # & $
abbrev pub is_symbol : ℕ → Bool
is_symbol b =
    b == 43 || b == 45 || b == 42 || b == 47 || b == 92 || b == 94 || b == 60 || b == 62 || b == 61 || b == 126 || b == 58 || b == 46
    || b == 63 || b == 64 || b == 35 || b == 38 || b == 36
