-- The words of tokens whose names are known.
use Rattle.std.proofs.Common.{◌≡◌, ◌-◌, ℕ, ℤ, Bool, true, false, not, cond, ◌||◌, ◌&&◌, List, [], ◌∷◌, ◌++◌, map, Option, Some, None}
use Rattle.std.proofs.Common.{is_some, refl, sym, ◌∙◌, ap}
use Rattle.std.specs.Prelude.{codes, slice_index, option_and_then}
use Rattle.std.specs.Option.{option_map_or}
use Rattle.std.specs.Str.{bytes_eq}
use Rattle.op_logic.proofs.BoolCases.{by_test, if_true, if_false}
use Rattle.op_logic.specs.Term.{atom}
use Rattle.op_term.specs.Ops.{Table, prefix_in}
use Rattle.op_term.specs.declared.ops.Meaning.{Meaning}
use Rattle.op_token.specs.declared.token.Token.{Token}
use Rattle.op_token.specs.declared.token.TokenKind.{TokenKind}
use Rattle.op_token.specs.declared.token.TokenKind.TheVariants.{Name, QuotedName, Variable, Integer, Text, OpenRound, CloseRound}
use Rattle.op_token.specs.declared.token.TokenKind.TheVariants.{OpenSquare, CloseSquare, OpenCurly, CloseCurly, Comma, Bar, End}
use Rattle.op_token.specs.Tokens.{is_minus, unquoted}
use Rattle.op_term.specs.declared.quotes.DoubleQuotes.{DoubleQuotes}
use Rattle.op_reader.specs.declared.bracket.Bracket.TheVariants.{Round, Square, Curly}
use Rattle.op_reader.specs.Words.{AsOperand, functor, prefix, plain, Word, closed, comma, bar, word, source, name_of, spelling, operator_of}
use Rattle.op_reader.specs.Words.{as_operator, opens, magnitude_behind, negated, negative, ends_operand, is_infix_alone, is_infix_name}
use Rattle.op_reader.specs.Words.{is_infix_only, stands_alone, bare_name, signed_or_bare, name_as_operand, name_word, integer_word}
use Rattle.op_reader.specs.Words.{opening_word, word_by, word_of, words_from, is_empty_pair, met_behind, met_at, variables_of}
use Rattle.op_readback.proofs.LexemeTokens.{Known}

abbrev pub firsts : List Known → List Token
firsts ks = map (λ k. k.0) ks

abbrev pub is_name : TokenKind → Bool
is_name Name = true
is_name QuotedName = true
is_name kind = false

abbrev is_plain_name : TokenKind → Bool
is_plain_name Name = true
is_plain_name kind = false

abbrev pub minus_name : Known → Bool
minus_name k = is_plain_name k.0.kind && bytes_eq k.1 (codes "-")

-- a token whose name in a text is known, and that is no variable and no text
abbrev pub OfKind : TokenKind → Type 0
OfKind Variable = ⊥
OfKind Text = ⊥
OfKind End = ⊥
OfKind kind = Unit {0}

pub record IsKnown (text : List ℕ) (k : Known) : Type 0 where
  pub kind : OfKind k.0.kind
  pub named : is_name k.0.kind ≡ true → name_of text k.0 ≡ Some k.1
  pub minus : is_minus k.0.kind (slice_index text k.0.from) (k.0.to - k.0.from) ≡ minus_name k

abbrev pub AreKnown : List ℕ → List Known → Type 0
AreKnown text [] = Unit {0}
AreKnown text (k ∷ ks) = IsKnown text k × AreKnown text ks

-- the words, from the names that are known
abbrev pub k_negative : Known → List Known → Option ℤ
k_negative k ks = cond (minus_name k) (option_and_then negated (magnitude_behind (firsts ks))) None

abbrev pub k_infix_name : Table → Known → Bool
k_infix_name ops k = cond (is_name k.0.kind) (is_infix_alone ops k.1) false

abbrev pub k_infix_only : Table → Known → List Known → Bool
k_infix_only ops k ks = k_infix_name ops k && not (opens (firsts ks)) && not (is_some (k_negative k ks))

abbrev pub k_alone : Table → List Known → Bool
k_alone ops [] = true
k_alone ops (u ∷ us) = ends_operand u.0.kind || k_infix_only ops u us

abbrev pub k_bare : Table → List ℕ → List Known → AsOperand (List ℕ)
k_bare ops f ks =
    elim (prefix_in ops f) [
      | Some m ↦ cond (k_alone ops ks) (plain (atom f)) (prefix (operator_of f m))
      | None ↦ plain (atom f)
    ]

abbrev pub k_operand : Table → Known → List Known → AsOperand (List ℕ)
k_operand ops k ks = cond (opens (firsts ks)) (functor k.1) (signed_or_bare (k_negative k ks) (k_bare ops k.1 ks))

abbrev k_word_by : TokenKind → Table → Known → List Known → Word (List ℕ)
k_word_by Name ops k ks = word k.0.from (k_operand ops k ks) (as_operator ops k.1)
k_word_by QuotedName ops k ks = word k.0.from (k_operand ops k ks) (as_operator ops k.1)
k_word_by (Integer m) ops k ks = integer_word k.0 m
k_word_by OpenRound ops k ks = opening_word k.0 Round (firsts ks)
k_word_by OpenSquare ops k ks = opening_word k.0 Square (firsts ks)
k_word_by OpenCurly ops k ks = opening_word k.0 Curly (firsts ks)
k_word_by Comma ops k ks = comma k.0.from (as_operator ops (codes ","))
k_word_by Bar ops k ks = bar k.0.from
k_word_by kind ops k ks = closed k.0.from

abbrev pub k_word : Table → Known → List Known → Word (List ℕ)
k_word ops k ks = k_word_by k.0.kind ops k ks

abbrev pub k_words : Table → Bool → List Known → List (Word (List ℕ))
k_words ops inside [] = []
k_words ops true (k ∷ ks) = k_words ops false ks
k_words ops false (k ∷ ks) = k_word ops k ks ∷ k_words ops (is_empty_pair k.0.kind (firsts ks)) ks

module _ (ops : Table) (quotes : DoubleQuotes) (text : List ℕ) where
  negative-is : (k : Known) (ks : List Known) → IsKnown text k → negative text k.0 (firsts ks) ≡ k_negative k ks
  negative-is k ks h = ap (λ (b : Bool). cond b (option_and_then negated (magnitude_behind (firsts ks))) None) h.minus

  infix-name-is : (k : Known) → IsKnown text k → is_infix_name ops text k.0 ≡ k_infix_name ops k
  infix-name-is k h = by-kind k.0.kind refl
    where
      by-kind : (kind : TokenKind) → k.0.kind ≡ kind → is_infix_name ops text k.0 ≡ k_infix_name ops k
      by-kind kind e = by_test (is_name k.0.kind)
          (λ n. ap (λ (o : Option (List ℕ)). option_map_or (is_infix_alone ops) o false) (h.named n)
          ∙ sym (if_true (is_name k.0.kind) _ _ n))
          (λ n. ap (λ (o : Option (List ℕ)). option_map_or (is_infix_alone ops) o false) (no-name k.0 n)
          ∙ sym (if_false (is_name k.0.kind) _ _ n))
        where
          no-name : (t : Token) → is_name t.kind ≡ false → name_of text t ≡ None
          no-name t n = by (t.kind) n
            where
              by : (kind : TokenKind) → is_name kind ≡ false
                  → elim kind as (λ _. Option (List ℕ)) [ Name ↦ Some (spelling text t) | QuotedName ↦ Some (unquoted text t) | k ↦ None ]
                  ≡ None
              by Name n = absurd (let z : true ≡ false = n in cc)
              by QuotedName n = absurd (let z : true ≡ false = n in cc)
              by Variable n = refl
              by (Integer m) n = refl
              by Text n = refl
              by OpenRound n = refl
              by CloseRound n = refl
              by OpenSquare n = refl
              by CloseSquare n = refl
              by OpenCurly n = refl
              by CloseCurly n = refl
              by Comma n = refl
              by Bar n = refl
              by End n = refl

  only-is : (k : Known) (ks : List Known) → IsKnown text k → is_infix_only ops text k.0 (firsts ks) ≡ k_infix_only ops k ks
  only-is k ks h =
      ap (λ (b : Bool). b && not (opens (firsts ks)) && not (is_some (negative text k.0 (firsts ks)))) (infix-name-is k h)
      ∙ ap (λ (o : Option ℤ). k_infix_name ops k && not (opens (firsts ks)) && not (is_some o)) (negative-is k ks h)

  alone-is : (ks : List Known) → AreKnown text ks → stands_alone ops text (firsts ks) ≡ k_alone ops ks
  alone-is [] h = refl
  alone-is (u ∷ us) h = ap (λ (b : Bool). ends_operand u.0.kind || b) (only-is u us h.0)

  bare-is : (f : List ℕ) (ks : List Known) → AreKnown text ks → bare_name ops text f (firsts ks) ≡ k_bare ops f ks
  bare-is f ks h = by (prefix_in ops f)
    where
      by : (o : Option Meaning) → elim o as (λ _. AsOperand (List ℕ)) [
        | Some m ↦ cond (stands_alone ops text (firsts ks)) (plain (atom f)) (prefix (operator_of f m))
        | None ↦ plain (atom f)
      ]
          ≡ elim o as (λ _. AsOperand (List ℕ)) [
            | Some m ↦ cond (k_alone ops ks) (plain (atom f)) (prefix (operator_of f m))
            | None ↦ plain (atom f)
          ]
      by None = refl
      by (Some m) = ap (λ (b : Bool). cond b (plain (atom f)) (prefix (operator_of f m))) (alone-is ks h)

  operand-is : (k : Known) (ks : List Known) → IsKnown text k → AreKnown text ks
      → name_as_operand ops text k.0 k.1 (firsts ks) ≡ k_operand ops k ks
  operand-is k ks h hs =
      ap (λ (o : Option ℤ). cond (opens (firsts ks)) (functor k.1) (signed_or_bare o (bare_name ops text k.1 (firsts ks))))
      (negative-is k ks h)
      ∙ ap (λ (x : AsOperand (List ℕ)). cond (opens (firsts ks)) (functor k.1) (signed_or_bare (k_negative k ks) x)) (bare-is k.1 ks hs)

  named-word : (k : Known) (ks : List Known) (f : List ℕ) → Some f ≡ Some k.1 → IsKnown text k → AreKnown text ks
      → name_word ops text k.0 f (firsts ks) ≡ word k.0.from (k_operand ops k ks) (as_operator ops k.1)
  named-word k ks f e h hs =
      let same : f ≡ k.1 = cc in
      ap (λ (x : List ℕ). name_word ops text k.0 x (firsts ks)) same
      ∙ ap (λ (x : AsOperand (List ℕ)). word k.0.from x (as_operator ops k.1)) (operand-is k ks h hs)

  word-by : (met : List (List ℕ)) (k : Known) (ks : List Known) (kind : TokenKind) → OfKind kind
      → (is_name kind ≡ true → name_of text k.0 ≡ Some k.1)
      → (name_of text k.0 ≡ elim kind as (λ _. Option (List ℕ)) [
        | Name ↦ Some (spelling text k.0)
        | QuotedName ↦ Some (unquoted text k.0)
        | x ↦ None
      ])
      → IsKnown text k → AreKnown text ks → word_by kind (source ops quotes text) met k.0 (firsts ks) ≡ k_word_by kind ops k ks
  word-by met k ks Name o n e h hs = named-word k ks (spelling text k.0) (sym e ∙ n refl) h hs
  word-by met k ks QuotedName o n e h hs = named-word k ks (unquoted text k.0) (sym e ∙ n refl) h hs
  word-by met k ks (Integer m) o n e h hs = refl
  word-by met k ks OpenRound o n e h hs = refl
  word-by met k ks OpenSquare o n e h hs = refl
  word-by met k ks OpenCurly o n e h hs = refl
  word-by met k ks Comma o n e h hs = refl
  word-by met k ks Bar o n e h hs = refl
  word-by met k ks CloseRound o n e h hs = refl
  word-by met k ks CloseSquare o n e h hs = refl
  word-by met k ks CloseCurly o n e h hs = refl
  word-by met k ks Variable o n e h hs = absurd o
  word-by met k ks Text o n e h hs = absurd o
  word-by met k ks End o n e h hs = absurd o

  word-is : (met : List (List ℕ)) (k : Known) (ks : List Known) → IsKnown text k → AreKnown text ks
      → word_of (source ops quotes text) met k.0 (firsts ks) ≡ k_word ops k ks
  word-is met k ks h hs = word-by met k ks k.0.kind h.kind h.named refl h hs

  no-variable : (met : List (List ℕ)) (k : Known) → IsKnown text k → met_behind text met k.0 ≡ met
  no-variable met k h = by k.0.kind h.kind
    where
      by : (kind : TokenKind) → OfKind kind → cond (elim kind as (λ _. Bool) [ Variable ↦ true | x ↦ false ])
          (elim (met_at met (spelling text k.0)) as (λ _. List (List ℕ)) [ Some n ↦ met | None ↦ met ++ spelling text k.0 ∷ [] ]) met
          ≡ met
      by Variable o = absurd o
      by Text o = absurd o
      by End o = absurd o
      by Name o = refl
      by QuotedName o = refl
      by (Integer m) o = refl
      by OpenRound o = refl
      by CloseRound o = refl
      by OpenSquare o = refl
      by CloseSquare o = refl
      by OpenCurly o = refl
      by CloseCurly o = refl
      by Comma o = refl
      by Bar o = refl

  pub words-are : (met : List (List ℕ)) (inside : Bool) (ks : List Known) → AreKnown text ks
      → words_from (source ops quotes text) met inside (firsts ks) ≡ k_words ops inside ks
  words-are met inside [] h = refl
  words-are met true (k ∷ ks) h = words-are met false ks h.1
  words-are met false (k ∷ ks) h =
      ap (λ (w : Word (List ℕ)). w ∷ words_from (source ops quotes text) (met_behind text met k.0) (is_empty_pair k.0.kind (firsts ks))
      (firsts ks)) (word-is met k ks h.0 h.1)
      ∙ (ap (λ (x : List (List ℕ)). k_word ops k ks ∷ words_from (source ops quotes text) x (is_empty_pair k.0.kind (firsts ks))
      (firsts ks)) (no-variable met k h.0)
      ∙ ap (λ (ws : List (Word (List ℕ))). k_word ops k ks ∷ ws) (words-are met (is_empty_pair k.0.kind (firsts ks)) ks h.1))

  pub no-variables : (met : List (List ℕ)) (ks : List Known) → AreKnown text ks → variables_of text met (firsts ks) ≡ met
  no-variables met [] h = refl
  no-variables met (k ∷ ks) h =
      ap (λ (x : List (List ℕ)). variables_of text x (firsts ks)) (no-variable met k h.0) ∙ no-variables met ks h.1
