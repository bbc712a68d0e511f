-- The words of refusals, and the line of a text that is refused.
use Rattle.std.specs.Prelude.{ℕ, List, ◌++◌, codes, decimal}
use Rattle.op_logic.specs.Term.{atom}
use Rattle.op_term.specs.Ops.{iso_table}
use Rattle.op_reader.specs.declared.fault.ReadFaultKind.{ReadFaultKind}
use Rattle.op_reader.specs.declared.fault.ReadFaultKind.TheVariants.{Token, NoEnd, Unbalanced, NoOperand, Priority}
use Rattle.op_writer.specs.declared.style.Style.TheVariants.{Quoted}
use Rattle.op_writer.specs.Text.{text_of}
use Rattle.op_trace.specs.Database.{Indicator}
use Rattle.op_store.specs.Fault.{Fault, syntax, trailing, head, body, locked, directive}

-- why a text can't be read
abbrev pub kind_word : ReadFaultKind → List ℕ
kind_word (Token kind) = codes "token"
kind_word NoEnd = codes "no_end"
kind_word Unbalanced = codes "unbalanced"
kind_word NoOperand = codes "no_operand"
kind_word Priority = codes "priority"

-- a procedure's name, quoted, and how many arguments it has
abbrev pub indicator_text : Indicator → List ℕ
indicator_text k = text_of iso_table Quoted (atom k.name) 1200 ++ codes "/" ++ decimal k.arity

-- why a term of a program or a goal is refused
abbrev pub fault_words : Fault → List ℕ
fault_words (syntax kind) = kind_word kind
fault_words trailing = codes "trailing"
fault_words head = codes "head"
fault_words body = codes "body"
fault_words (locked k) = codes "locked " ++ indicator_text k
fault_words directive = codes "directive"

-- the line of a refusal, by the name of the text and the line of the fault
abbrev pub load_line : List ℕ → ℕ → List ℕ → List ℕ
load_line name line words = codes "opium: load " ++ name ++ codes ":" ++ decimal line ++ codes " " ++ words ++ codes "\n"
