-- The first words of the tokens of lexemes.
use Rattle.std.proofs.Common.{◌≡◌, ◌+◌, ℕ, ℤ, Bool, true, false, not, cond, ◌&&◌, ◌==◌, List, [], ◌∷◌, ◌++◌, Option, Some, None, is_some}
use Rattle.std.proofs.Common.{length, refl, sym, ◌∙◌, ap, subst}
use Rattle.std.specs.Prelude.{codes, option_and_then}
use Rattle.std.specs.List.{list_all}
use Rattle.std.specs.Option.{option_map_or}
use Rattle.std.specs.Str.{bytes_eq, IsUtf8}
use Rattle.std.proofs.lemmas.Slice.Eq.{bytes_eq-Decides}
use Rattle.op_logic.proofs.BoolCases.{by_test, if_true, if_false}
use Rattle.op_logic.specs.Term.{atom}
use Rattle.op_term.specs.Ops.{Table, prefix_in, is_reserved}
use Rattle.op_term.specs.declared.ops.Meaning.{Meaning}
use Rattle.op_token.specs.declared.token.Token.{Token}
use Rattle.op_token.specs.declared.token.TokenKind.{TokenKind}
use Rattle.op_token.specs.declared.token.TokenKind.TheVariants.{Name, QuotedName, Variable, Integer, Text, OpenRound, CloseRound}
use Rattle.op_token.specs.declared.token.TokenKind.TheVariants.{OpenSquare, CloseSquare, OpenCurly, CloseCurly, Comma, Bar, End}
use Rattle.op_reader.specs.Words.{AsOperand, functor, prefix, plain, AsOperator, misplaced, Word, word, operator_of, as_operator, opens}
use Rattle.op_reader.specs.Words.{magnitude_behind, negated, ends_operand, is_infix_alone, signed_or_bare, is_empty_pair}
use Rattle.op_writer.specs.declared.bound.Bound.{Bound}
use Rattle.op_writer.specs.declared.edge.Edge.{Edge}
use Rattle.op_writer.specs.declared.edge.Edge.TheVariants.{Minus}
use Rattle.op_base.specs.Characters.{is_symbol, is_word}
use Rattle.op_writer.specs.Spelling.{is_unquoted, quoted}
use Rattle.op_writer.specs.Fragments.{edge_of, edge_at, edge_behind, is_apart}
use Rattle.op_writer.specs.Text.{is_operand}
use Rattle.op_readback.proofs.Lexemes.{Lexeme, sign, name, prefix_name, lexeme_fragment}
use Rattle.op_readback.proofs.LexemeTexts.{lexeme_text, begun}
use Rattle.op_readback.proofs.LexemeTokens.{Known, tok, sign_kind, lexeme_tokens, is_space, gap, tokens, last-of}
use Rattle.op_readback.proofs.KnownWords.{firsts, is_name, minus_name, k_negative, k_alone, k_bare, k_operand, k_word, k_words}

pub step : (P : List Known → Type 0) (m : Lexeme) (ns : List Lexeme) → is_space m ≡ false → (at : ℕ) (e : Edge) (l : Bool)
    → ((at1 : ℕ) (l1 : Bool) → (l ≡ true → l1 ≡ true) → (gap e (lexeme_text m) ≡ true → l1 ≡ true) →
    (gap e (lexeme_text m) ≡ false → l1 ≡ l)
    → P (lexeme_tokens m at1 l1 ++ tokens (at1 + length (lexeme_text m)) (edge_behind e (lexeme_fragment m)) false ns))
    → P (tokens at e l (m ∷ ns))
step P m ns s at e l k = subst P (sym (if_false (is_space m) _ _ s)) (by_test (gap e (lexeme_text m))
    (λ g. subst P (sym (if_true (gap e (lexeme_text m)) _ _ g)) (k (at + 1) true (λ h. refl) (λ h. refl)
    (λ h. absurd (let z : true ≡ false = sym g ∙ h in cc))))
    (λ g. subst P (sym (if_false (gap e (lexeme_text m)) _ _ g)) (k at l (λ h. h) (λ h. absurd (let z : true ≡ false = sym h
    ∙ g in cc)) (λ h. refl))))

pub by-name-kind : (P : TokenKind → Type 0) → P Name → P QuotedName → (kind : TokenKind) → is_name kind ≡ true → P kind
by-name-kind P p q Name h = p
by-name-kind P p q QuotedName h = q
by-name-kind P p q other h = absurd (let z : false ≡ true = h in cc)

pub by-ender : (P : TokenKind → Type 0) → P CloseRound → P CloseSquare → P CloseCurly → P Comma → P Bar → (kind : TokenKind)
    → ends_operand kind ≡ true → P kind
by-ender P p1 p2 p3 p4 p5 CloseRound h = p1
by-ender P p1 p2 p3 p4 p5 CloseSquare h = p2
by-ender P p1 p2 p3 p4 p5 CloseCurly h = p3
by-ender P p1 p2 p3 p4 p5 Comma h = p4
by-ender P p1 p2 p3 p4 p5 Bar h = p5
by-ender P p1 p2 p3 p4 p5 other h = absurd (let z : false ≡ true = h in cc)

pub none-either : {A : Type 0} (l : Bool) → cond {A = Option A} l None None ≡ None
none-either true = refl
none-either false = refl

-- the tokens of a name: those of [] and of {}, or one
pub named : (P : List Known → Type 0) (f : List ℕ) (ns : List Lexeme) (at : ℕ) (e : Edge) (l : Bool)
    → (f ≡ codes "[]" → (a b c d n : ℕ) (l1 : Bool) → (l ≡ true → l1 ≡ true)
    → P ((tok OpenSquare a b l1, []) ∷ (tok CloseSquare c d false, []) ∷ tokens n (edge_behind e (lexeme_fragment (name f))) false ns))
    → (f ≡ codes "{}" → (a b c d n : ℕ) (l1 : Bool) → (l ≡ true → l1 ≡ true)
    → P ((tok OpenCurly a b l1, []) ∷ (tok CloseCurly c d false, []) ∷ tokens n (edge_behind e (lexeme_fragment (name f))) false ns))
    → ((kind : TokenKind) → is_name kind ≡ true → (a b n : ℕ) (l1 : Bool) → (l ≡ true → l1 ≡ true)
    → P ((tok kind a b l1, f) ∷ tokens n (edge_behind e (lexeme_fragment (name f))) false ns))
    → P (tokens at e l (name f ∷ ns))
named P f ns at e l k1 k2 k3 = step P (name f) ns refl at e l (λ at1 l1 h g i.
    let more = tokens (at1 + length (lexeme_text (name f))) (edge_behind e (lexeme_fragment (name f))) false ns in
    by_test (bytes_eq f (codes "[]"))
    (λ c. subst (λ (ks : List Known). P (ks ++ more)) (sym (if_true (bytes_eq f (codes "[]")) _ _ c))
    (k1 ((bytes_eq-Decides f (codes "[]")).0 c) at1 (at1 + 1) (at1 + 1) (at1 + 2) _ l1 h))
    (λ c. subst (λ (ks : List Known). P (ks ++ more)) (sym (if_false (bytes_eq f (codes "[]")) _ _ c)) (by_test (bytes_eq f (codes "{}"))
    (λ d. subst (λ (ks : List Known). P (ks ++ more)) (sym (if_true (bytes_eq f (codes "{}")) _ _ d))
    (k2 ((bytes_eq-Decides f (codes "{}")).0 d) at1 (at1 + 1) (at1 + 1) (at1 + 2) _ l1 h))
    (λ d. subst (λ (ks : List Known). P (ks ++ more)) (sym (if_false (bytes_eq f (codes "{}")) _ _ d)) (by_test (is_unquoted f)
    (λ u. subst (λ (ks : List Known). P (ks ++ more)) (sym (if_true (is_unquoted f) _ _ u)) (k3 Name refl at1 (at1 + length f) _ l1 h))
    (λ u. subst (λ (ks : List Known). P (ks ++ more)) (sym (if_false (is_unquoted f) _ _ u))
    (k3 QuotedName refl at1 (at1 + length (quoted f)) _ l1 h)))))))

-- behind a name a bracket stands without a space
all-true : (bs : List ℕ) → list_all (λ b. true) bs ≡ true
all-true [] = refl
all-true (b ∷ bs) = all-true bs

round-apart : (b : ℕ) → is_apart (edge_at b) 40 ≡ false
round-apart b = by_test (is_symbol b)
    (λ e. ap (λ (x : Edge). is_apart x 40) (if_true (is_symbol b) _ _ e))
    (λ e. ap (λ (x : Edge). is_apart x 40) (if_false (is_symbol b) _ _ e) ∙ by_test (is_word b)
    (λ w. ap (λ (x : Edge). is_apart x 40) (if_true (is_word b) _ _ w))
    (λ w. ap (λ (x : Edge). is_apart x 40) (if_false (is_word b) _ _ w)))

pub name-round : (f : List ℕ) → IsUtf8 f → (e : Edge) → gap (edge_behind e (lexeme_fragment (name f))) (40 ∷ []) ≡ false
name-round f u e =
    let b = begun (name f) u in
    let k = last-of (λ b. true) b.first b.more (all-true b.more) in
    ap (λ (t : List ℕ). is_apart (edge_of e t) 40) b.bytes ∙ (ap (λ (o : Option ℕ). is_apart (option_map_or edge_at o e) 40) k.1.0
    ∙ round-apart k.0)

module _ (ops : Table) where
  -- the word of one token
  pub no-pair : (k : Known) (ks : List Known) → is_empty_pair k.0.kind (firsts ks) ≡ false
      → k_words ops false (k ∷ ks) ≡ k_word ops k ks ∷ k_words ops false ks
  no-pair k ks h = ap (λ (b : Bool). k_word ops k ks ∷ k_words ops b ks) h

  pub name-pair : (kind : TokenKind) (ts : List Token) → is_name kind ≡ true → is_empty_pair kind ts ≡ false
  name-pair kind [] h = refl
  name-pair kind (t ∷ ts) h = by-name-kind (λ k. is_empty_pair k (t ∷ ts) ≡ false) refl refl kind h

  pub ender-pair : (kind : TokenKind) (ts : List Token) → ends_operand kind ≡ true → is_empty_pair kind ts ≡ false
  ender-pair kind [] h = refl
  ender-pair kind (t ∷ ts) h = by-ender (λ k. is_empty_pair k (t ∷ ts) ≡ false) refl refl refl refl refl kind h

  pub integer-pair : (m : ℕ) (ts : List Token) → is_empty_pair (Integer m) ts ≡ false
  integer-pair m [] = refl
  integer-pair m (t ∷ ts) = refl

  pub round-pair : (ts : List Token) → is_empty_pair OpenRound ts ≡ false
  round-pair [] = refl
  round-pair (t ∷ ts) = refl

  pub no-negative : (k : Known) (ks : List Known) → magnitude_behind (firsts ks) ≡ None → k_negative k ks ≡ None
  no-negative k ks h = ap (λ (o : Option ℕ). cond (minus_name k) (option_and_then negated o) None) h
      ∙ none-either (minus_name k)

  -- the word of a name, and the tokens behind it
  pub record NameWord (f : List ℕ) (ns : List Lexeme) (e2 : Edge) (ks : List Known) : Type 0 where
    pub after : ℕ
    pub place : ℕ
    pub operand : AsOperand (List ℕ)
    pub operator : AsOperator (List ℕ)
    pub words : k_words ops false ks ≡ word place operand operator ∷ k_words ops false (tokens after e2 false ns)
    pub functor_is : opens (firsts (tokens after e2 false ns)) ≡ true → operand ≡ functor f
    pub atom_is : opens (firsts (tokens after e2 false ns)) ≡ false → magnitude_behind (firsts (tokens after e2 false ns)) ≡ None
        → prefix_in ops f ≡ None → operand ≡ plain (atom f)
    pub alone_is : opens (firsts (tokens after e2 false ns)) ≡ false → magnitude_behind (firsts (tokens after e2 false ns)) ≡ None
        → k_alone ops (tokens after e2 false ns) ≡ true → operand ≡ plain (atom f)
    pub prefix_is : is_reserved f ≡ false → (m : Meaning) → prefix_in ops f ≡ Some m → opens (firsts (tokens after e2 false ns)) ≡ false
        → k_negative (tok Name 0 0 false, f) (tokens after e2 false ns) ≡ None
        → k_alone ops (tokens after e2 false ns) ≡ false → operand ≡ prefix (operator_of f m)
    pub operator_is : is_reserved f ≡ false → operator ≡ as_operator ops f

  quoted-negative : (kind : TokenKind) (a b : ℕ) (l : Bool) (f : List ℕ) (js : List Known) → is_name kind ≡ true
      → k_negative (tok Name 0 0 false, f) js ≡ None → k_negative (tok kind a b l, f) js ≡ None
  quoted-negative kind a b l f js n h = by-name-kind (λ kind. k_negative (tok kind a b l, f) js ≡ None) h refl kind n

  one-token : (f : List ℕ) (ns : List Lexeme) (e2 : Edge) (kind : TokenKind) → is_name kind ≡ true → (a b n : ℕ) (l : Bool)
      → NameWord f ns e2 ((tok kind a b l, f) ∷ tokens n e2 false ns)
  one-token f ns e2 kind h a b n l =
      let k : Known = (tok kind a b l, f) in
      let js = tokens n e2 false ns in
      let bare : opens (firsts js) ≡ false → k_negative k js ≡ None → k_operand ops k js ≡ k_bare ops f js =
      (λ o g. if_false (opens (firsts js)) _ _ o ∙ ap (λ (i : Option ℤ). signed_or_bare i (k_bare ops f js)) g) in
      record {
        after = n;
        place = a;
        operand = k_operand ops k js;
        operator = as_operator ops f;
        words = no-pair k js (name-pair kind (firsts js) h) ∙ ap (λ (w : Word (List ℕ)). w ∷ k_words ops false js)
            (by-name-kind (λ kind. k_word ops (tok kind a b l, f) js ≡ word a (k_operand ops (tok kind a b l, f) js)
            (as_operator ops f)) refl refl kind h);
        functor_is = λ o. if_true (opens (firsts js)) _ _ o;
        atom_is = λ o m p. bare o (no-negative k js m)
            ∙ ap (λ (x : Option Meaning). elim x as (λ _. AsOperand (List ℕ)) [
              | Some m ↦ cond (k_alone ops js) (plain (atom f)) (prefix (operator_of f m))
              | None ↦ plain (atom f)
            ]) p;
        alone_is = λ o m p. bare o (no-negative k js m) ∙ bare-alone f js p (prefix_in ops f);
        prefix_is = λ r m p o g q. bare o (quoted-negative kind a b l f js h g)
            ∙ (ap (λ (x : Option Meaning). elim x as (λ _. AsOperand (List ℕ)) [
              | Some m ↦ cond (k_alone ops js) (plain (atom f)) (prefix (operator_of f m))
              | None ↦ plain (atom f)
            ]) p ∙ if_false (k_alone ops js) _ _ q);
        operator_is = λ r. refl;
      }
    where
      bare-alone : (f : List ℕ) (js : List Known) → k_alone ops js ≡ true → (x : Option Meaning)
          → elim x as (λ _. AsOperand (List ℕ)) [
            | Some m ↦ cond (k_alone ops js) (plain (atom f)) (prefix (operator_of f m))
            | None ↦ plain (atom f)
          ] ≡ plain (atom f)
      bare-alone f js p None = refl
      bare-alone f js p (Some m) = if_true (k_alone ops js) _ _ p

  reserved-no : {P : Type 0} (f g : List ℕ) → f ≡ g → is_reserved g ≡ true → is_reserved f ≡ false → P
  reserved-no f g e r h = absurd (let z : true ≡ false = sym r ∙ (sym (ap is_reserved e) ∙ h) in cc)

  pub name-word : (f : List ℕ) (ns : List Lexeme) (at : ℕ) (e : Edge) (l : Bool)
      → NameWord f ns (edge_behind e (lexeme_fragment (name f))) (tokens at e l (name f ∷ ns))
  name-word f ns at e l = let e2 = edge_behind e (lexeme_fragment (name f)) in named (NameWord f ns e2) f ns at e l
      (λ q a b c d n l1 h. let js = tokens n e2 false ns in record {
        after = n;
        place = a;
        operand = cond (opens (firsts js)) (functor (codes "[]")) (plain (atom (codes "[]")));
        operator = misplaced;
        words = refl;
        functor_is = λ o. if_true (opens (firsts js)) _ _ o ∙ ap functor (sym q);
        atom_is = λ o m p. if_false (opens (firsts js)) _ _ o ∙ ap (λ (x : List ℕ). plain (atom x)) (sym q);
        alone_is = λ o m p. if_false (opens (firsts js)) _ _ o ∙ ap (λ (x : List ℕ). plain (atom x)) (sym q);
        prefix_is = λ r m p o g s. reserved-no f (codes "[]") q refl r;
        operator_is = λ r. reserved-no f (codes "[]") q refl r;
      })
      (λ q a b c d n l1 h. let js = tokens n e2 false ns in record {
        after = n;
        place = a;
        operand = cond (opens (firsts js)) (functor (codes "{}")) (plain (atom (codes "{}")));
        operator = misplaced;
        words = refl;
        functor_is = λ o. if_true (opens (firsts js)) _ _ o ∙ ap functor (sym q);
        atom_is = λ o m p. if_false (opens (firsts js)) _ _ o ∙ ap (λ (x : List ℕ). plain (atom x)) (sym q);
        alone_is = λ o m p. if_false (opens (firsts js)) _ _ o ∙ ap (λ (x : List ℕ). plain (atom x)) (sym q);
        prefix_is = λ r m p o g s. reserved-no f (codes "{}") q refl r;
        operator_is = λ r. reserved-no f (codes "{}") q refl r;
      })
      (λ kind k a b n l1 h. one-token f ns e2 kind k a b n l1)

  pub prefix-word : (f : List ℕ) (ns : List Lexeme) (at : ℕ) (e : Edge) (l : Bool)
      → NameWord f ns (edge_behind e (lexeme_fragment (prefix_name f))) (tokens at e l (prefix_name f ∷ ns))
  prefix-word f ns at e l = let e2 = edge_behind e (lexeme_fragment (prefix_name f)) in
      step (NameWord f ns e2) (prefix_name f) ns refl at e l (λ at1 l1 h g i. one-token f ns e2 Name refl at1 (at1 + length f)
      (at1 + length (lexeme_text (prefix_name f))) l1)

  -- what stands behind an operand
  abbrev pub Follows : Bound → List Known → Type 0
  Follows bound js =
      (opens (firsts js) ≡ false) × (magnitude_behind (firsts js) ≡ None) × (is_operand bound ≡ false → k_alone ops js ≡ true)

  pub follow-end : (bound : Bound) → Follows bound []
  follow-end bound = (refl, refl, (λ o. refl))

  pub follow-sign : (b : ℕ) → (b == 32) ≡ false → ends_operand (sign_kind b) ≡ true
      → (ns : List Lexeme) (bound : Bound) (at : ℕ) (e : Edge) (l : Bool) → Follows bound (tokens at e l (sign b ∷ ns))
  follow-sign b s h ns bound at e l = step (Follows bound) (sign b) ns s at e l (λ at1 l1 _ _ _.
      by-ender (λ kind. Follows bound ((tok kind at1 (at1 + 1) l1, []) ∷ tokens (at1 + 1) (edge_behind e (lexeme_fragment
      (sign b))) false ns))
      (refl, none-either l1, (λ o. refl)) (refl, none-either l1, (λ o. refl)) (refl, none-either l1, (λ o. refl))
      (refl, none-either l1, (λ o. refl)) (refl, none-either l1, (λ o. refl))
      (sign_kind b) h)

  pub follow-name : (f : List ℕ) (ns : List Lexeme) (bound : Bound) → is_operand bound ≡ true → (at : ℕ) (e : Edge) (l : Bool)
      → Follows bound (tokens at e l (name f ∷ ns))
  follow-name f ns bound o at e l =
      let no : (b : Bool) → is_operand bound ≡ false → b ≡ true = (λ b h. absurd (let z : true ≡ false = sym o ∙ h in cc)) in
      named (Follows bound) f ns at e l
      (λ q a b c d n l1 h. (refl, none-either l1, no _)) (λ q a b c d n l1 h. (refl, none-either l1, no _))
      (λ kind k a b n l1 h. by-name-kind (λ kind. Follows bound ((tok kind a b l1, f) ∷ tokens n
      (edge_behind e (lexeme_fragment (name f))) false ns)) (refl, none-either l1, no _) (refl, none-either l1, no _) kind k)

  -- how an operand begins, behind a text that ends so
  pub record Begins (bound : Bound) (e : Edge) (l : Bool) (ks : List Known) : Type 0 where
    pub square : is_empty_pair OpenSquare (firsts ks) ≡ false
    pub curly : is_empty_pair OpenCurly (firsts ks) ≡ false
    pub laid : l ≡ true → opens (firsts ks) ≡ false
    pub set : is_apart e 40 ≡ true → opens (firsts ks) ≡ false
    pub laid_digit : l ≡ true → magnitude_behind (firsts ks) ≡ None
    pub set_digit : e ≡ Minus → magnitude_behind (firsts ks) ≡ None
    pub alone : is_operand bound ≡ true → k_alone ops ks ≡ false

  pub begins-apart : (ks : List Known) (bound : Bound) (e : Edge) (l : Bool) → is_empty_pair OpenSquare (firsts ks) ≡ false
      → is_empty_pair OpenCurly (firsts ks) ≡ false → opens (firsts ks) ≡ false → magnitude_behind (firsts ks) ≡ None
      → (is_operand bound ≡ true → k_alone ops ks ≡ false) → Begins bound e l ks
  begins-apart ks bound e l s c o m a = record {
    square = s;
    curly = c;
    laid = λ x. o;
    set = λ x. o;
    laid_digit = λ x. m;
    set_digit = λ x. m;
    alone = a;
  }

  pub begins-round : (ns : List Lexeme) (bound : Bound) (at : ℕ) (e : Edge) (l : Bool) → Begins bound e l (tokens at e l (sign 40 ∷ ns))
  begins-round ns bound at e l = step (Begins bound e l) (sign 40) ns refl at e l (λ at1 l1 h g i. record {
    square = refl;
    curly = refl;
    laid = λ x. ap not (h x);
    set = λ x. ap not (g x);
    laid_digit = λ x. none-either l1;
    set_digit = λ x. none-either l1;
    alone = λ o. refl;
  })

  pub begins-square : (ns : List Lexeme) (bound : Bound) (at : ℕ) (e : Edge) (l : Bool) → Begins bound e l (tokens at e l (sign 91 ∷ ns))
  begins-square ns bound at e l = step (Begins bound e l) (sign 91) ns refl at e l (λ at1 l1 h g i. begins-apart _ bound e l
      refl refl refl (none-either l1) (λ o. refl))

  pub begins-curly : (ns : List Lexeme) (bound : Bound) (at : ℕ) (e : Edge) (l : Bool) → Begins bound e l (tokens at e l (sign 123 ∷ ns))
  begins-curly ns bound at e l = step (Begins bound e l) (sign 123) ns refl at e l (λ at1 l1 h g i. begins-apart _ bound e l
      refl refl refl (none-either l1) (λ o. refl))

  -- a name that is no infix operator alone, or behind which arguments follow
  only-no : (kind : TokenKind) (a b : ℕ) (l : Bool) (f : List ℕ) (js : List Known) → is_name kind ≡ true → (is_infix_alone ops f ≡ false)
      → k_alone ops ((tok kind a b l, f) ∷ js) ≡ false
  only-no kind a b l f js k h = by-name-kind (λ kind. k_alone ops ((tok kind a b l, f) ∷ js) ≡ false)
      (ap (λ (x : Bool). x && not (opens (firsts js)) && not (is_some (k_negative (tok Name a b l, f) js))) h)
      (ap (λ (x : Bool). x && not (opens (firsts js)) && not (is_some (k_negative (tok QuotedName a b l, f) js))) h) kind k

  and-no : (a b : Bool) → (a && false && b) ≡ false
  and-no true b = refl
  and-no false b = refl

  only-open : (kind : TokenKind) (a b : ℕ) (l : Bool) (f : List ℕ) (js : List Known) → is_name kind ≡ true → opens (firsts js) ≡ true
      → k_alone ops ((tok kind a b l, f) ∷ js) ≡ false
  only-open kind a b l f js k h = by-name-kind (λ kind. k_alone ops ((tok kind a b l, f) ∷ js) ≡ false)
      (ap (λ (x : Bool). is_infix_alone ops f && not x && not (is_some (k_negative (tok Name a b l, f) js))) h
      ∙ and-no (is_infix_alone ops f) _)
      (ap (λ (x : Bool). is_infix_alone ops f && not x && not (is_some (k_negative (tok QuotedName a b l, f) js))) h
      ∙ and-no (is_infix_alone ops f) _) kind k

  begins-token : (kind : TokenKind) (a b : ℕ) (l1 : Bool) (f : List ℕ) (js : List Known) (bound : Bound) (e : Edge) (l : Bool)
      → is_name kind ≡ true
      → (is_operand bound ≡ true → k_alone ops ((tok kind a b l1, f) ∷ js) ≡ false) → Begins bound e l ((tok kind a b l1, f) ∷ js)
  begins-token kind a b l1 f js bound e l k alone =
      by-name-kind (λ kind. (is_operand bound ≡ true → k_alone ops ((tok kind a b l1, f) ∷ js) ≡ false)
      → Begins bound e l ((tok kind a b l1, f) ∷ js))
      (λ al. begins-apart _ bound e l refl refl refl (none-either l1) al)
      (λ al. begins-apart _ bound e l refl refl refl (none-either l1) al) kind k alone

  pub begins-atom : (f : List ℕ) (ns : List Lexeme) (bound : Bound) → (is_operand bound ≡ true → is_infix_alone ops f ≡ false)
      → (at : ℕ) (e : Edge) (l : Bool) → Begins bound e l (tokens at e l (name f ∷ ns))
  begins-atom f ns bound i at e l = named (Begins bound e l) f ns at e l
      (λ q a b c d n l1 h. begins-apart _ bound e l refl refl refl (none-either l1) (λ o. refl))
      (λ q a b c d n l1 h. begins-apart _ bound e l refl refl refl (none-either l1) (λ o. refl))
      (λ kind k a b n l1 h. let js = tokens n (edge_behind e (lexeme_fragment (name f))) false ns
      in begins-token kind a b l1 f js bound e l k
      (λ o. only-no kind a b l1 f js k (i o)))

  pub opens-round : (ns : List Lexeme) (n : ℕ) (e : Edge) → gap e (40 ∷ []) ≡ false → opens (firsts (tokens n e false (sign 40 ∷ ns)))
      ≡ true
  opens-round ns n e g = step (λ ks. opens (firsts ks) ≡ true) (sign 40) ns refl n e false (λ at1 l1 h x i. ap not (i g))

  pub begins-functor : (f : List ℕ) → IsUtf8 f → (ns : List Lexeme) (bound : Bound) (at : ℕ) (e : Edge) (l : Bool)
      → Begins bound e l (tokens at e l (name f ∷ sign 40 ∷ ns))
  begins-functor f u ns bound at e l = named (Begins bound e l) f (sign 40 ∷ ns) at e l
      (λ q a b c d n l1 h. begins-apart _ bound e l refl refl refl (none-either l1) (λ o. refl))
      (λ q a b c d n l1 h. begins-apart _ bound e l refl refl refl (none-either l1) (λ o. refl))
      (λ kind k a b n l1 h. let e2 = edge_behind e (lexeme_fragment (name f)) in let js = tokens n e2 false (sign 40 ∷ ns) in
      begins-token kind a b l1 f js bound e l k (λ o. only-open kind a b l1 f js k (opens-round ns n e2 (name-round f u e))))

  pub begins-prefix : (f : List ℕ) (ns : List Lexeme) (bound : Bound) → is_infix_alone ops f ≡ false → (at : ℕ) (e : Edge) (l : Bool)
      → Begins bound e l (tokens at e l (prefix_name f ∷ ns))
  begins-prefix f ns bound i at e l = step (Begins bound e l) (prefix_name f) ns refl at e l (λ at1 l1 h g j.
      let js = tokens (at1 + length (lexeme_text (prefix_name f))) (edge_behind e (lexeme_fragment (prefix_name f))) false ns in
      begins-token Name at1 (at1 + length f) l1 f js bound e l refl (λ o. only-no Name at1 (at1 + length f) l1 f js refl i))
