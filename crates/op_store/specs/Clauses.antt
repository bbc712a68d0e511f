-- The terms of a program's text (ISO/IEC 13211-1, 6.2.1): a clause `H :- B` or `H`, a directive `:- D`, or a query `?- G`, which is
-- refused.
use Rattle.std.specs.Prelude.{ℕ, max, [], Option, Some, None, Result, Ok, Err, bytes_eq, codes, if◌then◌else◌}
use Rattle.op_logic.specs.Term.{Term, node, no_args, arg, atom}
use Rattle.op_store.specs.Counted.{variable_count}
use Rattle.op_trace.specs.Database.{Text}
use Rattle.op_store.specs.declared.names.locked.Locked.{Locked}
use Rattle.op_trace.specs.Database.{Indicator, indicator_of_term, Database, with_clause}
use Rattle.op_trace.specs.Body.{converted}
use Rattle.op_store.specs.Locked.{is_locked}
use Rattle.op_store.specs.Fault.{Fault, head, body, locked, directive}
use Rattle.op_store.specs.Directives.{directed}

pub data Sentence : Type 0 where
  clause : Term Text → Term Text → Sentence
  command : Term Text → Sentence
  query : Sentence

-- a fact has the body `true`
abbrev pub fact : Term Text → Sentence
fact h = clause h (atom (codes "true"))

abbrev pub sentence_of : Term Text → Sentence
sentence_of (node f (arg t no_args)) =
    if bytes_eq f (codes ":-") then command t else
    if bytes_eq f (codes "?-") then query else
    fact (node f (arg t no_args))
sentence_of (node f (arg h (arg b no_args))) = if bytes_eq f (codes ":-") then clause h b else fact (node f (arg h (arg b no_args)))
sentence_of t = fact t

-- refused for its head, then for its body, then for the name that it is for; else at the end of its procedure
abbrev pub with_parts : Locked → Database → Term Text → ℕ → Option Indicator → Option (Term Text) → Result Database Fault
with_parts l w h n None b = Err head
with_parts l w h n (Some k) None = Err body
with_parts l w h n (Some k) (Some b) =
    if is_locked l k then Err (locked k) else Ok (with_clause w k (record { id = w.next; head = h; body = b; variables = n }))

abbrev pub of_sentence : Locked → Database → Sentence → Result Database Fault
of_sentence l w (clause h b) = with_parts l w h (max (variable_count h) (variable_count b)) (indicator_of_term h) (converted [] b).body
of_sentence l w (command d) = directed l w d
of_sentence l w query = Err directive

-- a term, in the world before it
abbrev pub with_term : Locked → Database → Term Text → Result Database Fault
with_term l w t = of_sentence l w (sentence_of t)
