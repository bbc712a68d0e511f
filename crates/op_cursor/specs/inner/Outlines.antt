-- The outermost node of a term, with its name as a text.
use Rattle.std.specs.Prelude.{ℕ, ◌<◌, pos, List, codes}
use Rattle.op_logic.specs.Names.{name_at}
use Rattle.op_trace.specs.Database.{Text}
use Rattle.op_moves.specs.EventTerm.{port_name}
use Rattle.op_moves.specs.Pairs.{Head, variable, integer, name}
use Rattle.op_cursor.specs.declared.outline.Word.{Word}
use Rattle.op_cursor.specs.declared.outline.Word.TheVariants as word
use Rattle.op_cursor.specs.declared.outline.Outline.{Outline}
use Rattle.op_cursor.specs.declared.outline.Outline.TheVariants as outline

-- a word's text, by the names of the pattern and those of the event
abbrev pub word_text : List Text → List Text → Word → Text
word_text own names word.Event = codes "event"
word_text own names word.Variable = codes "$V"
word_text own names (word.Port p) = port_name p
word_text own names (word.Pattern f) = name_at own f.0
word_text own names (word.Traced f) = name_at names f.0

abbrev pub HasText : ℕ → ℕ → Word → Type 0
HasText own names (word.Pattern f) = f.0 < own
HasText own names (word.Traced f) = f.0 < names
HasText own names _ = Unit {0}

abbrev pub outlined : List Text → List Text → Outline → Head
outlined own names (outline.Variable v) = variable v
outlined own names (outline.Int i) = integer i
outlined own names (outline.Number n) = integer (pos n)
outlined own names (outline.Name w n) = name (word_text own names w) n

abbrev pub HasTexts : ℕ → ℕ → Outline → Type 0
HasTexts own names (outline.Name w n) = HasText own names w
HasTexts own names _ = Unit {0}

-- how many arguments it has
abbrev pub count_of : Outline → ℕ
count_of (outline.Name w n) = n
count_of _ = 0
