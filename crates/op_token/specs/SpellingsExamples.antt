-- Small spellings, what those in quotes stand for, layout and comments, and faults.
use Rattle.std.specs.Prelude.{◌≡◌, refl, ◌==◌, true, false, codes, [], ◌∷◌, Some, None}
use Rattle.std.specs.Char.{IsScalar}
use Rattle.std.proofs.Common.{ap, sym, true≢false, zero-lt-suc, lt_irrefl}
use Rattle.std.proofs.lemmas.List.Elements.{All-nil, All-cons}
use lib.Utf8.{encode}
use Rattle.op_token.specs.declared.token.TokenKind.TheVariants.{Name, QuotedName, Variable, Integer, Text, Comma, End}
use Rattle.op_token.specs.declared.token.TokenFaultKind.TheVariants.{BadChar, OpenQuote, OpenComment, BadEscape, BadNumber}
use Rattle.op_token.specs.declared.token.TokenFaultKind.TheVariants.{NumberRange}
use Rattle.op_token.specs.declared.spelling.Spelling.TheVariants.{Gap}
use Rattle.op_token.specs.Spelling.{fault, begins}
use Rattle.op_token.specs.Tokens.{text_from}
use Rattle.op_token.specs.Spellings.{is_symbol_name, value_of_digits, sign_value, IsToken, IsBefore, word_name, symbol_name, cut_name}
use Rattle.op_token.specs.Spellings.{IsNumber, decimal_digits, sign, newline, octal_code, hexadecimal_code, plain, doubled, escaped}
use Rattle.op_token.specs.Spellings.{no_characters, one_more, StandsFor, character, quote_twice, escape, IsInRange, within, least}
use Rattle.op_token.specs.Spellings.{decimal, number, code}
use Rattle.op_token.specs.SpellingFaults.{AreCharacters, closes_comment, starts_fraction, IsGap, layout, last_comment, block_comment}
use Rattle.op_token.specs.SpellingFaults.{IsFault, begins_nothing, no_hexadecimal, fraction, newline_code, great_decimal}

-- names, variables and punctuation
pub a_word : IsToken false Name (codes "aB_1")
a_word = word_name refl

pub symbols : IsToken false Name (codes "=..")
symbols = symbol_name refl

pub a_cut : IsToken false Name (codes "!")
a_cut = cut_name refl

pub a_comment_is_no_name : is_symbol_name (codes "/*") ≡ false
a_comment_is_no_name = refl

pub a_star_and_a_slash : is_symbol_name (codes "*/") ≡ true
a_star_and_a_slash = refl

pub an_underscore : IsToken false Variable (codes "_")
an_underscore = refl

pub a_comma : IsToken false Comma (codes ",")
a_comma = refl

pub an_end : IsBefore End (codes ".") (codes "%")
an_end = refl

-- texts in quotes
pub no_text : StandsFor Text (codes "\"\"") []
no_text = record { inside = []; are = no_characters; whole = refl }

pub a_quote_is_doubled : StandsFor QuotedName (codes "''''") (codes "'")
a_quote_is_doubled = record {
  inside = codes "''";
  are = one_more (codes "''") (codes "'") [] [] (doubled refl refl) no_characters;
  whole = refl;
}

pub a_quoted_name : IsToken false QuotedName (codes "''''")
a_quoted_name = (codes "'", a_quote_is_doubled)

pub the_other_quote : StandsFor Text (codes "\"'\"") (codes "'")
unfolding encode
the_other_quote = record {
  inside = codes "'";
  are = one_more (codes "'") (codes "'") [] [] (plain 39 refl refl refl refl) no_characters;
  whole = refl;
}

pub letters_and_a_quote : StandsFor QuotedName (codes "'a''b'") (codes "a'b")
unfolding encode
letters_and_a_quote = record {
  inside = codes "a''b";
  are =
      one_more (codes "a") (codes "a") (codes "''b") (codes "'b") (plain 97 refl refl refl refl)
      (one_more (codes "''") (codes "'") (codes "b") (codes "b") (doubled refl refl)
      (one_more (codes "b") (codes "b") [] [] (plain 98 refl refl refl refl) no_characters));
  whole = refl;
}

pub a_sign_is_a_newline : StandsFor QuotedName (codes "'\\n'") (10 ∷ [])
unfolding encode
a_sign_is_a_newline = record {
  inside = codes "\\n";
  are = one_more (codes "\\n") (10 ∷ []) [] [] (escaped (codes "n") (Some 10) (sign 110 refl refl refl) refl refl) no_characters;
  whole = refl;
}

pub a_continued_line_and_a_quote : text_from 39 0 (codes "a\\\nb''c' d") ≡ codes "ab'c"
a_continued_line_and_a_quote = refl

pub a_line_goes_on : StandsFor Text (codes "\"\\\n\"") []
a_line_goes_on = record {
  inside = codes "\\\n";
  are = one_more (codes "\\\n") [] [] [] (escaped (codes "\n") None (newline refl refl) refl refl) no_characters;
  whole = refl;
}

-- an octal 101 is A, and a hexadecimal e9 is two bytes in UTF-8
pub an_octal_escape : StandsFor Text (codes "\"\\101\\\"") (codes "A")
unfolding encode
an_octal_escape = record {
  inside = codes "\\101\\";
  are =
      one_more (codes "\\101\\") (codes "A") [] []
      (escaped (codes "101\\") (Some 65) (octal_code (codes "101") 65
      (record { some = zero-lt-suc 2; each = refl; value = refl }) refl refl refl) refl refl)
      no_characters;
  whole = refl;
}

pub a_hexadecimal_escape : StandsFor QuotedName (codes "'\\xe9\\'") (195 ∷ 169 ∷ [])
unfolding encode
a_hexadecimal_escape = record {
  inside = codes "\\xe9\\";
  are =
      one_more (codes "\\xe9\\") (195 ∷ 169 ∷ []) [] []
      (escaped (codes "xe9\\") (Some 233) (hexadecimal_code (codes "e9") 233
      (record { some = zero-lt-suc 1; each = refl; value = refl }) refl refl refl) refl refl)
      no_characters;
  whole = refl;
}

-- integers
pub hexadecimal_digits_in_both_cases : value_of_digits 16 (codes "1fF") ≡ 511
hexadecimal_digits_in_both_cases = refl

pub binary_digits : value_of_digits 2 (codes "101") ≡ 5
binary_digits = refl

pub a_newline_as_a_sign : sign_value 110 ≡ 10
a_newline_as_a_sign = refl

pub a_character_code : IsToken false (Integer 97) (codes "0'a")
unfolding encode
a_character_code =
    code (codes "a") (character refl (λ e. true≢false (ap (λ n. n == 97) e)) (λ e. true≢false (ap (λ n. n == 97) e)) refl) refl

pub a_quote_as_a_code : IsToken false (Integer 39) (codes "0'''")
a_quote_as_a_code = code (codes "''") (quote_twice refl refl) refl

pub an_escape_as_a_code : IsToken false (Integer 10) (codes "0'\\n")
an_escape_as_a_code = code (codes "\\n") (escape (codes "n") (sign 110 refl refl refl) refl) refl

great : IsNumber 10 decimal_digits (codes "9223372036854775808") 9223372036854775808
great = record { some = zero-lt-suc 18; each = refl; value = refl }

pub the_least_integer_behind_its_minus : IsToken true (Integer 9223372036854775808) (codes "9223372036854775808")
the_least_integer_behind_its_minus = number (decimal great) (least refl refl)

-- layout and comments
star : AreCharacters (codes "*")
unfolding encode
star = record { characters = 42 ∷ []; each = All-cons IsScalar 42 [] refl (All-nil IsScalar); joined = refl }

pub a_space : IsGap (codes " ") (codes "a")
a_space = layout 32 refl refl

pub a_closed_comment : closes_comment (codes "a */") ≡ true
a_closed_comment = refl

pub a_comment_of_a_star : IsGap (codes "/***/") (codes "a")
a_comment_of_a_star = block_comment (record { body = codes "*"; are = star; open_still = refl; split = refl })

pub a_comment_to_the_end : IsGap (codes "%*") []
a_comment_to_the_end = last_comment (record { body = codes "*"; are = star; open_still = refl; split = refl }) refl

-- faults
pub a_back_quote : IsFault false BadChar (codes "`a") 0
a_back_quote = begins_nothing 96 (codes "a") refl refl refl

pub an_open_quote : IsFault false OpenQuote (codes "'''") 0
an_open_quote = (
  [],
  record {
    quote = 39;
    body = codes "''";
    meant = codes "'";
    is_quote = refl;
    are = one_more (codes "''") (codes "'") [] [] (doubled refl refl) no_characters;
    split = refl;
  },
  refl,
  refl,
)

pub a_newline_in_quotes : IsFault false OpenQuote (codes "\"\n\"") 0
a_newline_in_quotes = (
  codes "\n\"",
  record { quote = 34; body = []; meant = []; is_quote = refl; are = no_characters; split = refl },
  refl,
  refl,
)

pub an_open_comment : IsFault false OpenComment (codes "/**") 0
an_open_comment = (record { body = codes "*"; are = star; open_still = refl; split = refl }, refl)

pub a_fraction : starts_fraction (codes ".5") ≡ true
a_fraction = refl

pub digits_with_a_fraction : IsFault false BadNumber (codes "1.5") 0
digits_with_a_fraction =
    (fraction (codes "1") (codes ".5") 1 (record { some = zero-lt-suc 0; each = refl; value = refl }) refl refl, refl)

pub no_digit : IsFault false BadNumber (codes "0xg") 0
no_digit = (no_hexadecimal (codes "g") refl refl, refl)

pub a_newline_behind_a_backslash : IsFault false BadNumber (codes "0'\\\n") 0
a_newline_behind_a_backslash = (newline_code [] refl, refl)

pub a_letter_is_no_escape : begins 0 false (codes "'\\q'") ≡ fault 1 BadEscape
a_letter_is_no_escape = refl

pub a_byte_is_no_character : begins 5 false (39 ∷ 255 ∷ 39 ∷ []) ≡ fault 6 BadChar
a_byte_is_no_character = refl

-- a fault and a comment come before the tokens 0 and /
pub a_fault_before_a_digit : begins 0 false (codes "0xg") ≡ fault 0 BadNumber
a_fault_before_a_digit = refl

pub a_comment_before_a_slash : begins 0 false (codes "/**/a") ≡ Gap 4
a_comment_before_a_slash = refl

out_of_range : IsInRange false 9223372036854775808 → ⊥
out_of_range (within h) = lt_irrefl 9223372036854775807 h
out_of_range (least e q) = true≢false (sym e)

pub the_least_integer_without_minus : IsFault false NumberRange (codes "9223372036854775808") 0
the_least_integer_without_minus =
    (great_decimal (codes "9223372036854775808") [] 9223372036854775808 great out_of_range refl refl refl, refl)
