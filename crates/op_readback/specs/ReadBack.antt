-- A term's text, a space and a full stop are read as that term (ISO/IEC 13211-1, 7.10.5 and 6.2).
use Rattle.std.specs.Prelude.{◌≡◌, ◌≤◌, ℕ, pos, List, [], ◌++◌, length, codes}
use Rattle.std.specs.Str.{IsUtf8}
use Rattle.op_logic.specs.Term.{Term, var, int, node, Args, no_args, arg}
use Rattle.op_logic.specs.Names.{named}
pub use Rattle.op_term.specs.Integers.{IsSmall}
use Rattle.op_term.specs.Ops.{Table}
use Rattle.op_term.specs.declared.quotes.DoubleQuotes.{DoubleQuotes}
use Rattle.op_reader.specs.Reading.{term, reading_of}
use Rattle.op_writer.specs.declared.style.Style.{Style}
use Rattle.op_writer.specs.declared.style.Style.TheVariants.{Plain, Quoted, Canonical}
use Rattle.op_writer.specs.Text.{text_of}

-- no variables; names are texts in UTF-8, and integers have 64 bits
abbrev mutual
  pub IsClosed : Term (List ℕ) → Type 0
  IsClosed (var v) = ⊥
  IsClosed (int i) = IsSmall i
  IsClosed (node f ts) = IsUtf8 f × AreClosed ts

  pub AreClosed : Args (List ℕ) → Type 0
  AreClosed no_args = Unit {0}
  AreClosed (arg t ts) = IsClosed t × AreClosed ts

-- the compound '$VAR'(N), with N of 0 or more
abbrev pub letter_term : ℕ → Term (List ℕ)
letter_term n = node (codes "$VAR") (arg (int (pos n)) no_args)

abbrev pub IsNoLetter : Term (List ℕ) → Type 0
IsNoLetter t = (n : ℕ) → t ≡ letter_term n → ⊥

-- no part is such a compound, which the quoted style writes as a variable's name
abbrev mutual
  pub HasNoLetter : Term (List ℕ) → Type 0
  HasNoLetter (var v) = Unit {0}
  HasNoLetter (int i) = Unit {0}
  HasNoLetter (node f ts) = IsNoLetter (node f ts) × HaveNoLetter ts

  pub HaveNoLetter : Args (List ℕ) → Type 0
  HaveNoLetter no_args = Unit {0}
  HaveNoLetter (arg t ts) = HasNoLetter t × HaveNoLetter ts

-- a term's text within a priority, as a clause
abbrev pub clause_text : Table → Style → Term (List ℕ) → ℕ → List ℕ
clause_text ops style t priority = text_of ops style t priority ++ codes " ."

-- all of it is read, as the term, with no named variables
abbrev pub IsReadBack : Table → DoubleQuotes → Style → Term (List ℕ) → ℕ → Type 0
IsReadBack ops quotes style t priority =
    reading_of ops quotes (clause_text ops style t priority) ≡ term t [] (length (clause_text ops style t priority))

-- a style writes the term so that it is read again: the plain one has no quotes, and the quoted one writes letters
abbrev pub IsReadable : Style → Term (List ℕ) → Type 0
IsReadable Plain t = ⊥
IsReadable Quoted t = HasNoLetter t
IsReadable Canonical t = Unit {0}

-- in each such style, within each priority up to 1200
abbrev pub AreReadBack : Table → Term (List ℕ) → Type 0
AreReadBack ops t =
    (style : Style) (quotes : DoubleQuotes) (priority : ℕ) → IsReadable style t → priority ≤ 1200 → IsReadBack ops quotes style t priority

-- the texts of a term of the code, over the names of a table
abbrev pub text_over : List (List ℕ) → Table → Style → Term ℕ → ℕ → List ℕ
text_over names ops style t priority = text_of ops style (named names t) priority

abbrev pub clause_over : List (List ℕ) → Table → Style → Term ℕ → ℕ → List ℕ
clause_over names ops style t priority = clause_text ops style (named names t) priority
