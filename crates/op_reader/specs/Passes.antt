-- What the passes of a reader say of the definition of reading.
use Rattle.std.specs.Prelude.{◌≡◌, ◌<◌, ℕ, codes, List, [], length, Some, None, Result, Ok, Err}
use Rattle.op_token.specs.declared.token.Token.{Token}
use Rattle.op_token.specs.Tokens.{Scan}
use Rattle.op_reader.specs.declared.fault.ReadFault.{ReadFault}
use Rattle.op_reader.specs.declared.fault.ReadFault.TheVariants.{Memory, Bad}
use Rattle.op_reader.specs.declared.first_clause.Beginning.{Beginning}
use Rattle.op_reader.specs.declared.first_clause.Beginning.TheVariants.{Clause, Blank}
use Rattle.op_reader.specs.FirstClause.{sentence_of}
use Rattle.op_reader.specs.Reading.{Outcome, term, end, refused, unended}
use Rattle.op_logic.specs.Names.{name_at, named, HasNames}
use Rattle.op_reader.specs.declared.read_rows.ListNames.{ListNames}
use Rattle.op_reader.specs.declared.term_reader.Reading.{Reading}
use Rattle.op_reader.specs.declared.term_reader.Reading.TheVariants.{Term as ATerm, End}

-- the first clause of a text, or what reading gives where there is none
abbrev pub BeginsAs : Scan → Result Beginning ReadFault → Type 0
BeginsAs s (Ok (Clause tokens stop)) = sentence_of s.tokens ≡ Some (record { tokens = tokens.items; stop = stop })
BeginsAs s (Ok Blank) = (sentence_of s.tokens ≡ None) × (unended s.text s.tokens s.fault ≡ end)
BeginsAs s (Err (Bad place kind)) = (sentence_of s.tokens ≡ None) × (unended s.text s.tokens s.fault ≡ refused place kind)
BeginsAs s (Err Memory) = Unit {0}

-- no fault and no end token behind these tokens, up to the end of a text of so many bytes
abbrev pub BeginsUnended : List Token → ℕ → Result Beginning ReadFault → Type 0
BeginsUnended tokens n (Ok (Clause ts stop)) = ⊥
BeginsUnended tokens n (Ok Blank) = tokens ≡ []
BeginsUnended tokens n (Err (Bad place kind)) = (text : List ℕ) → length text ≡ n → unended text tokens None ≡ refused place kind
BeginsUnended tokens n (Err Memory) = ⊥

-- what a reading tells of its outcome, over the names of a table
abbrev pub Tells : List (List ℕ) → Result Reading ReadFault → Outcome → Type 0
Tells names (Ok (ATerm r)) o = o ≡ term (named names r.term) r.names r.used
Tells names (Ok End) o = o ≡ end
Tells names (Err (Bad place kind)) o = o ≡ refused place kind
Tells names (Err Memory) o = Unit {0}

-- each name of a term that was read is in the table
abbrev pub HasKnownNames : ℕ → Reading → Type 0
HasKnownNames n (ATerm r) = HasNames n r.term
HasKnownNames n End = Unit {0}

-- the numbers of the names of lists and of { }
pub record AreListNames (names : List (List ℕ)) (k : ListNames) : Type 0 where
  pub dot_there : k.dot.0 < length names
  pub nil_there : k.nil.0 < length names
  pub braces_there : k.braces.0 < length names
  pub dot : name_at names k.dot.0 ≡ codes "."
  pub nil : name_at names k.nil.0 ≡ codes "[]"
  pub braces : name_at names k.braces.0 ≡ codes "{}"
