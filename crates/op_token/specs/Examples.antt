-- Small texts, cut.
use Rattle.std.specs.Prelude.{◌≡◌, refl, codes, []}
use Rattle.op_token.specs.declared.piece.Piece.TheVariants.{Text, NoEnd, Empty}
use Rattle.op_token.specs.Cut.{cut_of}

pub a_command : cut_of (codes " next. ") ≡ Text 1 6
a_command = refl

pub at_the_end : cut_of (codes "a.") ≡ Text 0 2
at_the_end = refl

pub a_dot_inside_quotes : cut_of (codes "'a. '. ") ≡ Text 0 6
a_dot_inside_quotes = refl

pub a_dot_in_a_comment : cut_of (codes "/* a. */ b.%") ≡ Text 0 11
a_dot_in_a_comment = refl

pub a_symbol_before : cut_of (codes "X = a*. ") ≡ NoEnd
a_symbol_before = refl

pub a_symbol_as_a_character : cut_of (codes "X = 0'+. ") ≡ NoEnd
a_symbol_as_a_character = refl

pub a_quote_as_a_character : cut_of (codes "X = 0''. ") ≡ Text 0 8
a_quote_as_a_character = refl

pub a_quote_after_a_word : cut_of (codes "a0'. '. ") ≡ Text 0 7
a_quote_after_a_word = refl

pub comments_alone : cut_of (codes " /**/ % c") ≡ Empty
comments_alone = refl

pub an_open_comment : cut_of (codes "/*/ a. ") ≡ NoEnd
an_open_comment = refl

pub nothing : cut_of [] ≡ Empty
nothing = refl
