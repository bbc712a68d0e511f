-- What a byte is to the rule that cuts a text into term texts.
use Rattle.std.specs.Prelude.{ℕ, ◌==◌, Bool, true, false, if◌then◌else◌}
use Rattle.op_base.specs.Characters.{is_layout, is_word as is_word_byte, is_symbol as is_symbol_byte}
use Rattle.op_token.specs.declared.kind.Kind.{Kind}
use Rattle.op_token.specs.declared.kind.Kind.TheVariants.{Newline, Layout, Percent, Slash, Star, Dot, Backslash, Quote, Zero, Word}
use Rattle.op_token.specs.declared.kind.Kind.TheVariants.{Sign, Other}
use Rattle.op_token.specs.declared.kind.QuoteMark.TheVariants.{Single, Double}

abbrev pub kind_of : ℕ → Kind
kind_of b =
    if b == 10 then Newline else
    if is_layout b then Layout else
    if b == 37 then Percent else
    if b == 47 then Slash else
    if b == 42 then Star else
    if b == 46 then Dot else
    if b == 92 then Backslash else
    if b == 39 then Quote Single else
    if b == 34 then Quote Double else
    if b == 48 then Zero else
    if is_word_byte b then Word else
    if is_symbol_byte b then Sign else Other

-- a letter, a digit or _
abbrev pub is_word : Kind → Bool
is_word Zero = true
is_word Word = true
is_word _ = false

-- a symbol character
abbrev pub is_symbol : Kind → Bool
is_symbol Slash = true
is_symbol Star = true
is_symbol Dot = true
is_symbol Backslash = true
is_symbol Sign = true
is_symbol _ = false

-- layout or %
abbrev pub is_gap : Kind → Bool
is_gap Newline = true
is_gap Layout = true
is_gap Percent = true
is_gap _ = false
