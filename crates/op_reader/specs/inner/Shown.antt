-- What nodes and words stand for while names and nodes are added.
use Rattle.std.specs.Prelude.{◌≡◌, ◌<◌, ◌≤◌, ℕ, List, [], ◌++◌, false, length, take, drop, map, All}
use Rattle.std.specs.Str.{IsUtf8}
use Rattle.op_logic.specs.Term.{Term}
use Rattle.op_token.specs.declared.token.Token.{Token}
use Rattle.op_token.specs.declared.token.TokenKind.TheVariants.{QuotedName, Text}
use Rattle.op_token.specs.Tokens.{IsPlain, IsQuoted, unquoted}
use Rattle.op_reader.specs.declared.word.AsOperand.{AsOperand as DeclaredAsOperand}
use Rattle.op_reader.specs.declared.word.AsOperator.{AsOperator as DeclaredAsOperator}
use Rattle.op_reader.specs.declared.word.Word.{Word as DeclaredWord}
use Rattle.op_reader.specs.declared.words.Made.{Made}
use Rattle.op_reader.specs.Words.{Source, words_of, words_from, variables_of, spelling, named_from, AsOperand, AsOperator, Word}
use Rattle.op_reader.specs.inner.RoleLists.{View, OperandBelow, WordBelow, node_in, as_operand_in, as_operator_in, word_in}

-- these names and nodes, and perhaps more
pub record IsLater (v : View) (names : List (List ℕ)) (terms : List (Term ℕ)) : Type 0 where
  pub names_kept : take (length names) v.names ≡ names
  pub terms_kept : take (length terms) v.terms ≡ terms

-- a node stands for a term, now and later
pub record ShowsTerm (names : List (List ℕ)) (terms : List (Term ℕ)) (n : ℕ) (t : Term (List ℕ)) : Type 0 where
  pub there : n < length terms
  pub shown : (v : View) → IsLater v names terms → node_in v n ≡ t

pub record ShowsOperand (names : List (List ℕ)) (terms : List (Term ℕ)) (a : DeclaredAsOperand) (b : AsOperand (List ℕ)) : Type 0 where
  pub below : OperandBelow (length terms) a
  pub shown : (v : View) → IsLater v names terms → as_operand_in v a ≡ b

pub record ShowsWord (names : List (List ℕ)) (terms : List (Term ℕ)) (w : DeclaredWord) (u : Word (List ℕ)) : Type 0 where
  pub below : WordBelow (length terms) w
  pub shown : (v : View) → IsLater v names terms → word_in v w ≡ u

-- what a name is as an operator, where the code has the name's number
abbrev pub ShowsOperator : List (List ℕ) → DeclaredAsOperator → AsOperator (List ℕ) → Type 0
ShowsOperator names a b = (v : View) → take (length names) v.names ≡ names → as_operator_in v a ≡ b

-- a token stands in a text, and what it spells is text too
pub record HasText (text : List ℕ) (t : Token) : Type 0 where
  pub some : t.from < t.to
  pub within : t.to ≤ length text
  pub plain : IsPlain t.kind → IsUtf8 (spelling text t)
  pub quoted : IsQuoted t.kind → IsUtf8 (unquoted text t)

-- the text that a token stands for
abbrev pub text_in : List ℕ → Token → List ℕ
text_in text t = elim (t.kind) [ QuotedName ↦ unquoted text t | Text ↦ unquoted text t | kind ↦ spelling text t ]

-- nodes stand for terms
pub record ShowsTerms (names : List (List ℕ)) (terms : List (Term ℕ)) (ns : List ℕ) (ts : List (Term (List ℕ))) : Type 0 where
  pub there : All (λ n. n < length terms) ns
  pub shown : (v : View) → IsLater v names terms → map (node_in v) ns ≡ ts

-- the named variables among those that were met, and how many were met
pub record HasMet (names : List (List ℕ × ℕ)) (count : ℕ) (met : List (List ℕ)) : Type 0 where
  pub named : names ≡ named_from 0 met
  pub counted : count ≡ length met

pub record ShowsWords (names : List (List ℕ)) (terms : List (Term ℕ)) (ws : List DeclaredWord) (us : List (Word (List ℕ))) : Type 0 where
  pub below : All (WordBelow (length terms)) ws
  pub shown : (v : View) → IsLater v names terms → map (word_in v) ws ≡ us

-- the words of the tokens before a place, and the variables in them
pub record Worded (s : Source) (ts : List Token) (at : ℕ) (names : List (List ℕ)) (made : Made) (held : List DeclaredWord) : Type 0 where
  pub met : List (List ℕ)
  pub words : List (Word (List ℕ))
  pub shown : ShowsWords names made.nodes held words
  pub whole : words_of s ts ≡ words ++ words_from s met false (drop at ts)
  pub has_met : HasMet made.names made.count met
  pub variables : variables_of s.text [] ts ≡ variables_of s.text met (drop at ts)
  pub few : made.count ≤ at
