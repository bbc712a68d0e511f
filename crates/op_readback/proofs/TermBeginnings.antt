-- How written terms begin.
use Rattle.std.proofs.Common.{◌≡◌, ◌<◌, ◌+◌, ◌^◌, ℕ, suc, ℤ, pos, negsuc, Bool, true, false, not, cond, ◌||◌, ◌&&◌, ◌==◌, List, [], ◌∷◌}
use Rattle.std.proofs.Common.{◌++◌, Option, Some, None, is_some, length, refl, sym, ◌∙◌, ap, subst, arith}
use Rattle.std.specs.Prelude.{codes, decimal, nat_le}
use Rattle.std.specs.List.{list_all}
use Rattle.std.specs.Str.{IsUtf8}
use Rattle.std.proofs.lemmas.Bool.{le-leb}
use Rattle.std.proofs.lemmas.List.{append_assoc}
use Rattle.op_logic.proofs.BoolCases.{by_test, if_true, if_false}
use Rattle.op_logic.specs.Term.{Term, Args, arg, no_args}
use Rattle.op_term.specs.Ops.{Table, IsTable, prefix_in, infix_in}
use Rattle.op_term.specs.declared.ops.Meaning.{Meaning}
use Rattle.op_token.specs.declared.token.TokenKind.TheVariants.{Name, Integer}
use Rattle.op_token.specs.declared.set.Set.TheVariants.{Decimal}
use Rattle.op_token.specs.Set.{has}
use Rattle.op_token.specs.Spelling.{least_magnitude}
use Rattle.op_reader.specs.Words.{is_infix_alone}
use Rattle.op_writer.specs.declared.style.Style.{Style}
use Rattle.op_writer.specs.declared.style.Style.TheVariants.{Quoted}
use Rattle.op_writer.specs.declared.bound.Bound.{Bound}
use Rattle.op_writer.specs.declared.bound.Bound.TheVariants.{Whole}
use Rattle.op_writer.specs.declared.notation.Notation.{Notation}
use Rattle.op_writer.specs.declared.notation.Notation.TheVariants.{List as Listed, Braces, Infix, Prefix, Postfix, Functional}
use Rattle.op_writer.specs.declared.edge.Edge.{Edge}
use Rattle.op_writer.specs.declared.edge.Edge.TheVariants.{Minus}
use Rattle.op_base.specs.Characters.{is_symbol}
use Rattle.op_writer.specs.Spelling.{is_symbolic, name_text}
use Rattle.op_writer.specs.Fragments.{edge_behind}
use Rattle.op_writer.specs.Text.{within, rest, argument, fits, left_of, right_of, notation_of}
use Rattle.op_readback.specs.ReadBack.{IsSmall}
use Rattle.op_readback.proofs.Lexemes.{Lexeme, sign, name, number, lexeme_fragment, in_brackets, infix_lexemes, prefix_lexemes}
use Rattle.op_readback.proofs.Lexemes.{compound_lexemes, further_lexemes, functional_lexemes, lexemes_of, all_lexemes}
use Rattle.op_readback.proofs.QuotedNames.{and-parts}
use Rattle.op_readback.proofs.IntegerSpellings.{IsDigits, decimal-digits}
use Rattle.op_readback.proofs.LexemeTexts.{lexeme_text}
use Rattle.op_readback.proofs.RowTrees.{notation-prefix}
use Rattle.op_readback.proofs.LexemeTokens.{Known, tok, tokens, gap}
use Rattle.op_readback.proofs.KnownWords.{k_alone, k_negative}
use Rattle.op_readback.proofs.FirstWords.{step, none-either, Begins, begins-round, begins-square, begins-curly, begins-atom, begins-functor}
use Rattle.op_readback.proofs.FirstWords.{begins-prefix, begins-apart}
use Rattle.op_readback.proofs.Operands.{begins-operand, left-operand}
use Rattle.op_readback.proofs.OperatorTerms.{Starts}

abbrev Text : Type 0
Text = List ℕ

or-last : (a b : Bool) → b ≡ true → (a || b) ≡ true
or-last true b h = refl
or-last false b h = h

-- behind the prefix operator - an integer stands apart
digits-apart : (n : ℕ) (ds : List ℕ) → IsDigits n ds → gap Minus ds ≡ true
digits-apart n [] d = absurd (omega (arith, d.some))
digits-apart n (b ∷ bs) d =
    or-last (is_symbol b || b == 40) (nat_le 48 b && nat_le b 57) (and-parts (has Decimal b) (list_all (has Decimal) bs) d.digits).0

module _ (ops : Table) where
  abbrev T : ℕ → Edge → Bool → List Lexeme → List Known
  T = tokens

  laid-number : (m : Option ℕ) (l : Bool) → l ≡ true → cond l None m ≡ None
  laid-number m l h = if_true l None m h

  pub begins-number : (i : ℤ) → IsSmall i → (ns : List Lexeme) (bound : Bound) (at : ℕ) (e : Edge) (l : Bool)
      → Begins ops bound e l (T at e l (number i ∷ ns))
  begins-number (pos k) h ns bound at e l = step (Begins ops bound e l) (number (pos k)) ns refl at e l (λ at1 l1 h1 g i. record {
    square = refl;
    curly = refl;
    laid = λ x. refl;
    set = λ x. refl;
    laid_digit = λ x. laid-number (Some k) l1 (h1 x);
    set_digit = λ x. laid-number (Some k) l1 (g (ap (λ (y : Edge). gap y (decimal k)) x
        ∙ digits-apart k (decimal k) (decimal-digits k (let z : k < 2 ^ 63 = h in omega (arith, z)))));
    alone = λ o. refl;
  })
  begins-number (negsuc k) h ns bound at e l = step (Begins ops bound e l) (number (negsuc k)) ns refl at e l (λ at1 l1 h1 g i.
      let js = T (at1 + length (lexeme_text (number (negsuc k)))) (edge_behind e (lexeme_fragment (number (negsuc k)))) false ns in
      let two : Known = (tok (Integer (suc k)) (at1 + 1) (at1 + 1 + length (decimal (suc k))) false, []) in
      let one : Known = (tok Name at1 (at1 + 1) l1, codes "-") in
      let neg : k_negative one (two ∷ js) ≡ Some (negsuc k) = if_true (nat_le (suc k) least_magnitude) (Some (negsuc k)) None
      (le-leb (suc k) least_magnitude (let z : k < 2 ^ 63 = h in omega (arith, z))) in
      let alone : k_alone ops (one ∷ two ∷ js) ≡ false =
      ap (λ (x : Option ℤ). is_infix_alone ops (codes "-") && true && not (is_some x)) neg ∙ and-none (is_infix_alone ops (codes "-")) in
      begins-apart ops (one ∷ two ∷ js) bound e l refl refl refl (none-either l1) (λ o. alone))
    where
      and-none : (b : Bool) → (b && true && false) ≡ false
      and-none true = refl
      and-none false = refl

  prefix-alone : (f : Text) (m : Meaning) → prefix_in ops f ≡ Some m → is_infix_alone ops f ≡ false
  prefix-alone f m h = ap (λ (o : Option Meaning). is_some (infix_in ops f) && not (is_some o)) h ∙ and-none (is_some (infix_in ops f))
    where
      and-none : (b : Bool) → (b && false) ≡ false
      and-none true = refl
      and-none false = refl

  pub begins-lexemes : (f : Text) (m : Meaning) → prefix_in ops f ≡ Some m → (ms : List Lexeme) (bound : Bound) (at : ℕ) (e : Edge)
      (l : Bool)
      → Begins ops bound e l (T at e l (prefix_lexemes f ++ ms))
  begins-lexemes f m h ms bound at e l = by_test (is_symbolic (name_text Quoted f))
      (λ s. subst (λ (xs : List Lexeme). Begins ops bound e l (T at e l (xs ++ ms)))
      (sym (if_true (is_symbolic (name_text Quoted f)) _ _ s)) (begins-prefix ops f ms bound (prefix-alone f m h) at e l))
      (λ s. subst (λ (xs : List Lexeme). Begins ops bound e l (T at e l (xs ++ ms)))
      (sym (if_false (is_symbolic (name_text Quoted f)) _ _ s)) (begins-atom ops f (sign 32 ∷ ms) bound (λ o. prefix-alone f m h) at e l))

  pub begins-brackets : (b : Bool) (xs ns : List Lexeme) (bound : Bound)
      → ((at : ℕ) (e : Edge) (l : Bool) → Begins ops bound e l (T at e l (xs ++ ns))) → (at : ℕ) (e : Edge) (l : Bool)
      → Begins ops bound e l (T at e l (in_brackets b xs ++ ns))
  begins-brackets true xs ns bound h at e l = begins-round ops ((xs ++ sign 41 ∷ []) ++ ns) bound at e l
  begins-brackets false xs ns bound h at e l = h at e l

module _ (ops : Table) (table : IsTable ops) (n : ℕ) (style : Style) where
  -- an operator's left operand begins the term
  begins-left : (a : Term Text) (m : Meaning) → Starts ops table n style a
      → (ys ns : List Lexeme) (bound : Bound) (at : ℕ) (e : Edge) (l : Bool)
      → Begins ops bound e l (tokens at e l ((lexemes_of ops style a (within (left_of m)) ++ ys) ++ ns))
  begins-left a m sa ys ns bound at e l =
      let xs = lexemes_of ops style a (within (left_of m)) in
      subst (λ (ms : List Lexeme). Begins ops bound e l (tokens at e l ms)) (sym (append_assoc xs ys ns))
      (begins-operand ops table n (left_of m) bound e l (tokens at e l (xs ++ (ys ++ ns))) (left-operand m).0
      (sa (left_of m) (ys ++ ns) at e l))

  begins-right : (f : Text) (m : Meaning) → prefix_in ops f ≡ Some m → (ys ns : List Lexeme) (bound : Bound) (at : ℕ) (e : Edge) (l : Bool)
      → Begins ops bound e l (tokens at e l ((prefix_lexemes f ++ ys) ++ ns))
  begins-right f m h ys ns bound at e l =
      subst (λ (ms : List Lexeme). Begins ops bound e l (tokens at e l ms)) (sym (append_assoc (prefix_lexemes f) ys ns))
      (begins-lexemes ops f m h (ys ++ ns) bound at e l)

  starts-functional : (f : Text) → IsUtf8 f → (a : Term Text) (ts : Args Text) (bound : Bound) (ns : List Lexeme)
      (at : ℕ) (e : Edge) (l : Bool)
      → Begins ops bound e l (tokens at e l (functional_lexemes f (lexemes_of ops style a ∷ all_lexemes ops style ts) ++ ns))
  starts-functional f u a ts bound ns at e l =
      begins-functor ops f u ((lexemes_of ops style a (within argument) ++ further_lexemes (all_lexemes ops style ts)) ++ ns) bound at e l

  abbrev StartsIn : Text → Term Text → Args Text → Notation → Type 0
  StartsIn f a ts nt =
      (bound : Bound) (ns : List Lexeme) (at : ℕ) (e : Edge) (l : Bool)
      → Begins ops bound e l (tokens at e l (compound_lexemes f (lexemes_of ops style a ∷ all_lexemes ops style ts) bound nt ++ ns))

  pub starts-one : (f : Text) → IsUtf8 f → (a : Term Text) → Starts ops table n style a → (nt : Notation) → notation_of ops style f 1 ≡ nt
      → StartsIn f a no_args nt
  starts-one f u a sa Braces q bound ns at e l =
      begins-curly ops ((lexemes_of ops style a (within (Whole 1200)) ++ sign 125 ∷ []) ++ ns) bound at e l
  starts-one f u a sa (Prefix m) q bound ns at e l = let ys = lexemes_of ops style a (within (right_of m)) in
      begins-brackets ops (not (fits bound m)) (prefix_lexemes f ++ ys) ns bound
      (begins-right f m (notation-prefix ops style f m q) ys ns bound) at e l
  starts-one f u a sa (Postfix m) q bound ns at e l = let ys : List Lexeme = sign 32 ∷ name f ∷ [] in
      begins-brackets ops (not (fits bound m)) (lexemes_of ops style a (within (left_of m)) ++ ys) ns bound
      (begins-left a m sa ys ns bound) at e l
  starts-one f u a sa Listed q bound ns at e l = starts-functional f u a no_args bound ns at e l
  starts-one f u a sa (Infix m) q bound ns at e l = starts-functional f u a no_args bound ns at e l
  starts-one f u a sa Functional q bound ns at e l = starts-functional f u a no_args bound ns at e l

  pub starts-two : (f : Text) → IsUtf8 f → (a b : Term Text) → Starts ops table n style a → (nt : Notation)
      → StartsIn f a (arg b no_args) nt
  starts-two f u a b sa Listed bound ns at e l =
      begins-square ops ((lexemes_of ops style a (within argument) ++ lexemes_of ops style b rest) ++ ns) bound at e l
  starts-two f u a b sa (Infix m) bound ns at e l = let ys = infix_lexemes f ++ lexemes_of ops style b (within (right_of m)) in
      begins-brackets ops (not (fits bound m)) (lexemes_of ops style a (within (left_of m)) ++ ys) ns bound
      (begins-left a m sa ys ns bound) at e l
  starts-two f u a b sa Braces bound ns at e l = starts-functional f u a (arg b no_args) bound ns at e l
  starts-two f u a b sa (Prefix m) bound ns at e l = starts-functional f u a (arg b no_args) bound ns at e l
  starts-two f u a b sa (Postfix m) bound ns at e l = starts-functional f u a (arg b no_args) bound ns at e l
  starts-two f u a b sa Functional bound ns at e l = starts-functional f u a (arg b no_args) bound ns at e l

  pub starts-more : (f : Text) → IsUtf8 f → (a b c : Term Text) (ts : Args Text) (nt : Notation) → StartsIn f a (arg b (arg c ts)) nt
  starts-more f u a b c ts nt bound ns at e l = starts-functional f u a (arg b (arg c ts)) bound ns at e l
