-- What a byte may begin (ISO/IEC 13211-1, 6.5).
use Rattle.std.specs.Prelude.{ℕ, ◌==◌, ◌||◌, if◌then◌else◌}
use Rattle.op_base.specs.Characters.{is_layout, is_small, is_capital, is_digit, is_symbol}
use Rattle.op_token.specs.declared.class.Class.{Class}
use Rattle.op_token.specs.declared.class.Class.TheVariants.{Layout, Percent, Small, Capital, Digit, SingleQuote, DoubleQuote}
use Rattle.op_token.specs.declared.class.Class.TheVariants.{Slash, Dot, Symbol, Solo, Punctuation, Bad}
use Rattle.op_token.specs.declared.token.TokenKind.TheVariants.{OpenRound, CloseRound, OpenSquare, CloseSquare, OpenCurly}
use Rattle.op_token.specs.declared.token.TokenKind.TheVariants.{CloseCurly, Comma, Bar}

-- ( ) [ ] { } , and the bar
abbrev pub punctuation_of : ℕ → Class
punctuation_of b =
    if b == 40 then Punctuation OpenRound else
    if b == 41 then Punctuation CloseRound else
    if b == 91 then Punctuation OpenSquare else
    if b == 93 then Punctuation CloseSquare else
    if b == 123 then Punctuation OpenCurly else
    if b == 125 then Punctuation CloseCurly else
    if b == 44 then Punctuation Comma else
    if b == 124 then Punctuation Bar else Bad

abbrev pub class_of : ℕ → Class
class_of b =
    if is_layout b then Layout else
    if b == 37 then Percent else
    if is_small b then Small else
    if is_capital b || b == 95 then Capital else
    if is_digit b then Digit else
    if b == 39 then SingleQuote else
    if b == 34 then DoubleQuote else
    if b == 47 then Slash else
    if b == 46 then Dot else
    if is_symbol b then Symbol else
    if b == 33 || b == 59 then Solo else punctuation_of b
