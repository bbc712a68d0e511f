-- The names that no clause may be for, each with the number of its arguments: the control constructs and the builtins (ISO/IEC 13211-1,
-- 7.8 and 8; print/1 and assert/1 are this project's own), the arrow of grammar rules, and in an analysis its commands.
use Rattle.std.specs.Prelude.{ℕ, ◌==◌, Bool, ◌||◌, List, [], ◌∷◌, codes, bytes_eq, if◌then◌else◌}
use Rattle.std.specs.List.{list_any}
use Rattle.op_trace.specs.Database.{Text}
use Rattle.op_trace.specs.Database.{Indicator}
use Rattle.op_store.specs.declared.names.locked.Locked.{Locked}
use Rattle.op_store.specs.declared.names.locked.Locked.TheVariants.{Program, Analysis}

-- call/4, call/6, call/7 and call/8
abbrev pub calls : ℕ → List Text
calls n =
    if n == 4 then codes "call" ∷ []
    else if n == 6 then codes "call" ∷ []
    else if n == 7 then codes "call" ∷ []
    else if n == 8 then codes "call" ∷ []
    else []

-- those with so many arguments
unfoldable pub builtins : ℕ → List Text
builtins n =
    if n == 0 then
    codes "true" ∷ codes "fail" ∷ codes "false" ∷ codes "!" ∷ codes "repeat" ∷ codes "halt" ∷ codes "nl" ∷ []
    else if n == 1 then
    codes "var" ∷ codes "nonvar" ∷ codes "atom" ∷ codes "integer" ∷ codes "number" ∷ codes "atomic" ∷ codes "compound" ∷
    codes "callable" ∷ codes "ground" ∷
    codes "call" ∷ codes "throw" ∷ codes "\\+" ∷ codes "once" ∷ codes "halt" ∷
    codes "asserta" ∷ codes "assertz" ∷ codes "assert" ∷ codes "retract" ∷ codes "retractall" ∷ codes "abolish" ∷
    codes "write" ∷ codes "print" ∷ codes "writeq" ∷ codes "write_canonical" ∷ codes "put_char" ∷
    codes "get_char" ∷ codes "peek_char" ∷ codes "read" ∷ []
    else if n == 2 then
    codes "," ∷ codes ";" ∷ codes "->" ∷ codes "-->" ∷
    codes "=" ∷ codes "\\=" ∷ codes "==" ∷ codes "\\==" ∷ codes "@<" ∷ codes "@=<" ∷ codes "@>" ∷ codes "@>=" ∷
    codes "=.." ∷ codes "copy_term" ∷ codes "term_variables" ∷
    codes "is" ∷ codes "=:=" ∷ codes "=\\=" ∷ codes "<" ∷ codes "=<" ∷ codes ">" ∷ codes ">=" ∷
    codes "call" ∷ codes "clause" ∷
    codes "atom_length" ∷ codes "atom_chars" ∷ codes "atom_codes" ∷ codes "char_code" ∷ codes "number_chars" ∷ codes "number_codes" ∷
    codes "set_prolog_flag" ∷ []
    else if n == 3 then
    codes "compare" ∷ codes "functor" ∷ codes "arg" ∷ codes "call" ∷ codes "catch" ∷ codes "findall" ∷ codes "atom_concat" ∷ codes "op" ∷ []
    else if n == 5 then codes "call" ∷ codes "sub_atom" ∷ []
    else calls n

unfoldable pub commands : ℕ → List Text
commands n =
    if n == 0 then
    codes "next" ∷ codes "prev" ∷ codes "first" ∷ codes "last" ∷ codes "parent" ∷ codes "finish" ∷ codes "retry" ∷
    codes "failing_path" ∷ codes "stack" ∷ codes "profile" ∷ codes "more" ∷ []
    else if n == 1 then
    codes "goto" ∷ codes "seek" ∷ codes "seek_back" ∷ codes "fget" ∷ codes "bget" ∷ codes "place" ∷ codes "ending" ∷ []
    else if n == 3 then codes "calls_tree" ∷ []
    else if n == 6 then codes "event" ∷ []
    else []

abbrev pub is_among : List Text → Text → Bool
is_among names f = list_any (λ n. bytes_eq f n) names

-- in a program, and in an analysis
abbrev pub is_locked : Locked → Indicator → Bool
is_locked Program k = is_among (builtins k.arity) k.name
is_locked Analysis k = is_among (builtins k.arity) k.name || is_among (commands k.arity) k.name
