-- The words of atoms, integers and operators.
use Rattle.std.proofs.Common.{◌≡◌, ◌<◌, ◌+◌, ◌^◌, ℕ, suc, ℤ, pos, negsuc, Bool, true, false, ◌||◌, ◌&&◌, List, [], ◌∷◌, ◌++◌, Option, Some}
use Rattle.std.proofs.Common.{None, is_some, length, refl, sym, ◌∙◌, ap, subst, arith}
use Rattle.std.specs.Prelude.{codes, decimal, nat_lt, nat_le}
use Rattle.std.specs.Option.{option_map_or}
use Rattle.std.specs.Str.{bytes_eq}
use Rattle.std.proofs.lemmas.Bool.{lt-ltb, le-leb}
use Rattle.std.proofs.lemmas.Slice.Eq.{bytes_eq-Decides}
use Rattle.op_logic.proofs.BoolCases.{by_test, if_true, if_false}
use Rattle.op_logic.specs.Term.{int, atom}
use Rattle.op_term.specs.Ops.{Table, IsTable, prefix_in, infix_in, postfix_in, is_reserved, is_infix}
use Rattle.op_term.specs.declared.ops.Meaning.{Meaning}
use Rattle.op_token.specs.declared.token.Token.{Token}
use Rattle.op_token.specs.declared.token.TokenKind.TheVariants.{Name, Integer, Comma}
use Rattle.op_token.specs.Spelling.{least_magnitude}
use Rattle.op_reader.specs.declared.row_kind.RowKind.{RowKind}
use Rattle.op_reader.specs.declared.row_kind.RowKind.TheVariants.{Clause, Arguments, Elements, Last}
use Rattle.op_reader.specs.Row.{Operator, operand as a_member}
use Rattle.op_reader.specs.Words.{AsOperand, prefix, plain, minus as a_minus, AsOperator, joins, misplaced, Word, word, comma, operator_of}
use Rattle.op_reader.specs.Words.{as_operator, integer_word, signed_or_bare, opens, magnitude_behind}
use Rattle.op_reader.specs.Roles.{Parts, single, levels_of, operator, operand, Expected, an_operand, an_operator, behind_operator, on_rows}
use Rattle.op_reader.specs.Roles.{roles}
use Rattle.op_reader.specs.Terms.{known, read_rows}
use Rattle.op_writer.specs.declared.style.Style.TheVariants.{Quoted}
use Rattle.op_writer.specs.declared.edge.Edge.{Edge}
use Rattle.op_writer.specs.declared.edge.Edge.TheVariants.{Other}
use Rattle.op_writer.specs.Spelling.{is_symbolic, name_text}
use Rattle.op_writer.specs.declared.bound.Bound.{Bound}
use Rattle.op_writer.specs.Text.{is_operand}
use Rattle.op_writer.specs.Fragments.{edge_behind, is_apart, prefix_edge}
use Rattle.op_readback.specs.ReadBack.{IsSmall}
use Rattle.op_readback.proofs.Lexemes.{Lexeme, sign, name, prefix_name, number, lexeme_fragment, infix_lexemes, prefix_lexemes}
use Rattle.op_readback.proofs.LexemeTexts.{lexeme_text, unquoted-text}
use Rattle.op_readback.proofs.LexemeTokens.{Known, tok, tokens}
use Rattle.op_readback.proofs.KnownWords.{firsts, k_word, k_words, k_operand, k_negative, k_alone, k_bare, minus_name}
use Rattle.op_readback.proofs.FirstWords.{step, no-pair, ender-pair, integer-pair, NameWord, name-word, prefix-word, no-negative, Begins}
use Rattle.op_readback.proofs.LexemeQuotes.{symbolic-unquoted}
use Rattle.op_readback.proofs.OperandRoles.{over, Taken, Link, one-taken, member-row}

abbrev Text : Type 0
Text = List ℕ

some-none : {P : Type 0} (o : Option Meaning) (m : Meaning) → o ≡ Some m → o ≡ None → P
some-none o m h g = absurd (let z : Some m ≡ None = sym h ∙ g in cc)

module _ (ops : Table) (table : IsTable ops) (n : ℕ) where
  abbrev T : ℕ → Edge → Bool → List Lexeme → List Known
  T = tokens

  pub joins-roles : (c : RowKind) (p : ℕ) (a : AsOperand Text) (o : Operator Text) (ps : Parts Text) (stop : ℕ)
      → roles c an_operator (single (word p a (joins o)) ps) stop ≡ on_rows (operator o) (roles c (behind_operator o) ps stop)
  joins-roles Clause p a o ps stop = refl
  joins-roles Arguments p a o ps stop = refl
  joins-roles Elements p a o ps stop = refl
  joins-roles Last p a o ps stop = refl

  pub infix-behind : (c : RowKind) (o : Operator Text) (ps : Parts Text) (stop : ℕ) → is_infix o.kind ≡ true
      → roles c (behind_operator o) ps stop ≡ roles c an_operand ps stop
  infix-behind c o ps stop h = ap (λ (x : Expected Text). roles c x ps stop) (if_true (is_infix o.kind) _ _ h)

  pub other-behind : (c : RowKind) (o : Operator Text) (ps : Parts Text) (stop : ℕ) → is_infix o.kind ≡ false
      → roles c (behind_operator o) ps stop ≡ roles c an_operator ps stop
  other-behind c o ps stop h = ap (λ (x : Expected Text). roles c x ps stop) (if_false (is_infix o.kind) _ _ h)

  pub as-infix : (f : Text) (m : Meaning) → infix_in ops f ≡ Some m → as_operator ops f ≡ joins (operator_of f m)
  as-infix f m h =
      ap (λ (x : Option Meaning). elim x as (λ _. AsOperator Text) [
        | Some m ↦ joins (operator_of f m)
        | None ↦ option_map_or (λ m. joins (operator_of f m)) (postfix_in ops f) misplaced
      ]) h

  no-infix : (f : Text) (m : Meaning) → postfix_in ops f ≡ Some m → infix_in ops f ≡ None
  no-infix f m h = by (infix_in ops f) (sym (ap (λ (x : Option Meaning). is_some (infix_in ops f) && is_some x) h) ∙ table.apart f)
    where
      by : (o : Option Meaning) → (is_some o && true) ≡ false → o ≡ None
      by None k = refl
      by (Some x) k = absurd (let z : true ≡ false = k in cc)

  pub as-postfix : (f : Text) (m : Meaning) → postfix_in ops f ≡ Some m → as_operator ops f ≡ joins (operator_of f m)
  as-postfix f m h =
      ap (λ (x : Option Meaning). elim x as (λ _. AsOperator Text) [
        | Some m ↦ joins (operator_of f m)
        | None ↦ option_map_or (λ m. joins (operator_of f m)) (postfix_in ops f) misplaced
      ]) (no-infix f m h)
      ∙ ap (λ (x : Option Meaning). option_map_or (λ m. joins (operator_of f m)) x misplaced) h

  pub infix-unreserved : (f : Text) (m : Meaning) → infix_in ops f ≡ Some m → is_reserved f ≡ false
  infix-unreserved f m h =
      by_test (is_reserved f) (λ e. some-none (infix_in ops f) m h (ap (λ r. r.as_infix) (table.reserved f e))) (λ e. e)

  pub prefix-unreserved : (f : Text) (m : Meaning) → prefix_in ops f ≡ Some m → is_reserved f ≡ false
  prefix-unreserved f m h =
      by_test (is_reserved f) (λ e. some-none (prefix_in ops f) m h (ap (λ r. r.as_prefix) (table.reserved f e))) (λ e. e)

  pub postfix-unreserved : (f : Text) (m : Meaning) → postfix_in ops f ≡ Some m → is_reserved f ≡ false
  postfix-unreserved f m h =
      by_test (is_reserved f) (λ e. some-none (postfix_in ops f) m h (ap (λ r. r.as_postfix) (table.reserved f e))) (λ e. e)

  -- a name as an operator between or behind operands
  abbrev pub name-link : (c : RowKind) (f : Text) (m : Meaning) (to : Expected Text) → is_reserved f ≡ false
      → as_operator ops f ≡ joins (operator_of f m)
      → ((ps : Parts Text) (stop : ℕ) → roles c (behind_operator (operator_of f m)) ps stop ≡ roles c to ps stop)
      → (ms : List Lexeme) (at : ℕ) (e : Edge) (l : Bool) → Link ops n c an_operator to (operator_of f m) (T at e l (name f ∷ ms)) ms
  name-link c f m to r h b ms at e l =
      let w = name-word ops f ms at e l in
      record {
        after = w.after;
        edge = edge_behind e (lexeme_fragment (name f));
        layout = false;
        the_word = word w.place w.operand (joins (operator_of f m));
        words = ap (levels_of n) (w.words ∙ ap (λ (x : AsOperator Text). word w.place w.operand x ∷ k_words ops false
            (T w.after (edge_behind e (lexeme_fragment (name f))) false ms)) (w.operator_is r ∙ h));
        is_roles =
            λ ps stop. joins-roles c w.place w.operand (operator_of f m) ps stop ∙ ap (on_rows (operator (operator_of f m))) (b ps stop);
      }

  spaced-link : (c : RowKind) (from to : Expected Text) (o : Operator Text) (ks : List Known) (ms : List Lexeme)
      → Link ops n c from to o ks (sign 32 ∷ ms) → Link ops n c from to o ks ms
  spaced-link c from to o ks ms x =
      record { after = x.after + 1; edge = Other; layout = true; the_word = x.the_word; words = x.words; is_roles = x.is_roles }

  comma-link : (o : Operator Text) → is_infix o.kind ≡ true → as_operator ops (codes ",") ≡ joins o
      → (ms : List Lexeme) (at : ℕ) (e : Edge) (l : Bool) → Link ops n Clause an_operator an_operand o (T at e l (sign 44 ∷ ms)) ms
  comma-link o k h ms at e l = step (λ ks. Link ops n Clause an_operator an_operand o ks ms) (sign 44) ms refl at e l (λ at1 l1 _ _ _.
      let e1 = edge_behind e (lexeme_fragment (sign 44)) in let js = T (at1 + 1) e1 false ms in
      record {
        after = at1 + 1;
        edge = e1;
        layout = false;
        the_word = comma at1 (joins o);
        words = ap (levels_of n) (no-pair ops (tok Comma at1 (at1 + 1) l1, []) js (ender-pair ops Comma (firsts js) refl)
            ∙ ap (λ (x : AsOperator Text). comma at1 x ∷ k_words ops false js) h);
        is_roles = λ ps stop. ap (on_rows (operator o)) (infix-behind Clause o ps stop k);
      })

  pub infix-link : (c : RowKind) (f : Text) (m : Meaning) → infix_in ops f ≡ Some m → is_infix m.kind ≡ true
      → (bytes_eq f (codes ",") ≡ true → c ≡ Clause)
      → (ms : List Lexeme) (at : ℕ) (e : Edge) (l : Bool)
      → Link ops n c an_operator an_operand (operator_of f m) (T at e l (infix_lexemes f ++ ms)) ms
  infix-link c f m h k q ms at e l =
      let o = operator_of f m in
      let nl = name-link c f m an_operand (infix-unreserved f m h) (as-infix f m h) (λ ps stop. infix-behind c o ps stop k) in
      by_test (bytes_eq f (codes ","))
      (λ b. subst (λ (xs : List Lexeme). Link ops n c an_operator an_operand o (T at e l (xs ++ ms)) ms)
      (sym (if_true (bytes_eq f (codes ",")) _ _ b))
      (subst (λ (c : RowKind). Link ops n c an_operator an_operand o (T at e l (sign 44 ∷ ms)) ms) (sym (q b))
      (comma-link o k (sym (ap (as_operator ops) ((bytes_eq-Decides f (codes ",")).0 b)) ∙ as-infix f m h) ms at e l)))
      (λ b. subst (λ (xs : List Lexeme). Link ops n c an_operator an_operand o (T at e l (xs ++ ms)) ms)
      (sym (if_false (bytes_eq f (codes ",")) _ _ b))
      (by_test (bytes_eq f (codes ";") || is_symbolic (name_text Quoted f))
      (λ s. subst (λ (xs : List Lexeme). Link ops n c an_operator an_operand o (T at e l (xs ++ ms)) ms)
      (sym (if_true (bytes_eq f (codes ";") || is_symbolic (name_text Quoted f)) _ _ s)) (nl ms at e l))
      (λ s. subst (λ (xs : List Lexeme). Link ops n c an_operator an_operand o (T at e l (xs ++ ms)) ms)
      (sym (if_false (bytes_eq f (codes ";") || is_symbolic (name_text Quoted f)) _ _ s))
      (spaced-link c an_operator an_operand o (T (at + 1) Other true (name f ∷ sign 32 ∷ ms)) ms (nl (sign 32 ∷ ms) (at + 1) Other true)))))

  abbrev pub postfix-link : (c : RowKind) (f : Text) (m : Meaning) → postfix_in ops f ≡ Some m → is_infix m.kind ≡ false
      → (ms : List Lexeme) (at : ℕ) (e : Edge) (l : Bool)
      → Link ops n c an_operator an_operator (operator_of f m) (T at e l (sign 32 ∷ name f ∷ ms)) ms
  postfix-link c f m h k ms at e l =
      name-link c f m an_operator (postfix-unreserved f m h) (as-postfix f m h) (λ ps stop. other-behind c (operator_of f m) ps stop k) ms
      (at + 1) Other true

  pub postfix-tight : (c : RowKind) (f : Text) (m : Meaning) (h : postfix_in ops f ≡ Some m) (k : is_infix m.kind ≡ false)
      (ms : List Lexeme)
      (at : ℕ) (e : Edge) (l : Bool) → (postfix-link c f m h k ms at e l).layout ≡ false
  postfix-tight c f m h k ms at e l = refl

  -- a prefix operator, before an operand
  negative-or : (f : Text) (js : List Known) → (bytes_eq f (codes "-") ≡ true → magnitude_behind (firsts js) ≡ None)
      → k_negative (tok Name 0 0 false, f) js ≡ None
  negative-or f js h =
      by_test (bytes_eq f (codes "-")) (λ e. no-negative ops (tok Name 0 0 false, f) js (h e))
      (λ e. if_false (minus_name (tok Name 0 0 false, f)) _ _ e)

  prefix-link-of : (c : RowKind) (f : Text) (m : Meaning) (e2 : Edge) (ks : List Known) (ms : List Lexeme) → prefix_in ops f ≡ Some m
      → (w : NameWord ops f ms e2 ks)
      → opens (firsts (T w.after e2 false ms)) ≡ false
      → (bytes_eq f (codes "-") ≡ true → magnitude_behind (firsts (T w.after e2 false ms)) ≡ None)
      → k_alone ops (T w.after e2 false ms) ≡ false
      → Link ops n c an_operand an_operand (operator_of f m) ks ms
  prefix-link-of c f m e2 ks ms h w o g a = record {
    after = w.after;
    edge = e2;
    layout = false;
    the_word = word w.place (prefix (operator_of f m)) w.operator;
    words = ap (levels_of n) (w.words ∙ ap (λ (x : AsOperand Text). word w.place x w.operator ∷ k_words ops false (T w.after e2 false ms))
        (w.prefix_is (prefix-unreserved f m h) m h o (negative-or f (T w.after e2 false ms) g) a));
    is_roles = λ ps stop. refl;
  }

  prefix-set : (t : Text) → is_apart (prefix_edge t) 40 ≡ true
  prefix-set t =
      by_test (bytes_eq t (codes "-")) (λ e. ap (λ (x : Edge). is_apart x 40) (if_true (bytes_eq t (codes "-")) _ _ e))
      (λ e. ap (λ (x : Edge). is_apart x 40) (if_false (bytes_eq t (codes "-")) _ _ e))

  pub prefix-link : (c : RowKind) (f : Text) (m : Meaning) (bound : Bound) → prefix_in ops f ≡ Some m → is_operand bound ≡ true
      → (ms : List Lexeme) → ((at : ℕ) (e : Edge) (l : Bool) → Begins ops bound e l (T at e l ms)) → (at : ℕ) (e : Edge) (l : Bool)
      → Link ops n c an_operand an_operand (operator_of f m) (T at e l (prefix_lexemes f ++ ms)) ms
  prefix-link c f m bound h o ms b at e l = by_test (is_symbolic (name_text Quoted f))
      (λ s. subst (λ (xs : List Lexeme). Link ops n c an_operand an_operand (operator_of f m) (T at e l (xs ++ ms)) ms)
      (sym (if_true (is_symbolic (name_text Quoted f)) _ _ s))
      (let w = prefix-word ops f ms at e l in let e2 = prefix_edge (name_text Quoted f) in let x = b w.after e2 false in
      prefix-link-of c f m e2 (T at e l (prefix_name f ∷ ms)) ms h w (x.set (prefix-set (name_text Quoted f)))
      (λ q. x.set_digit (if_true (bytes_eq (name_text Quoted f) (codes "-")) _ _ (ap (λ (t : Text). bytes_eq t (codes "-"))
      (unquoted-text f (symbolic-unquoted f s)) ∙ q))) (x.alone o)))
      (λ s. subst (λ (xs : List Lexeme). Link ops n c an_operand an_operand (operator_of f m) (T at e l (xs ++ ms)) ms)
      (sym (if_false (is_symbolic (name_text Quoted f)) _ _ s))
      (let w = name-word ops f (sign 32 ∷ ms) at e l in let e2 = edge_behind e
      (lexeme_fragment (name f)) in let x = b (w.after + 1) Other true in
      spaced-link c an_operand an_operand (operator_of f m) (T at e l (name f ∷ sign 32 ∷ ms)) ms
      (prefix-link-of c f m e2 (T at e l (name f ∷ sign 32 ∷ ms)) (sign 32 ∷ ms) h w (x.laid refl) (λ q. x.laid_digit refl) (x.alone o))))

  -- atoms: no prefix operators, or before what ends an operand
  pub atom-taken : (c : RowKind) (f : Text) (ns : List Lexeme)
      → ((at : ℕ) (e : Edge) → (opens (firsts (T at e false ns)) ≡ false) × (magnitude_behind (firsts (T at e false ns)) ≡ None))
      → ((at : ℕ) (e : Edge) (P : Type 0) → (prefix_in ops f ≡ None → P) → (k_alone ops (T at e false ns) ≡ true → P) → P)
      → (at : ℕ) (e : Edge) (l : Bool) → Taken ops n c (T at e l (name f ∷ ns)) ns (a_member (atom f) ∷ [])
  atom-taken c f ns h k at e l =
      let w = name-word ops f ns at e l in let e2 = edge_behind e (lexeme_fragment (name f)) in let js = T w.after e2 false ns in
      let g = h w.after e2 in
      let is : w.operand ≡ plain (atom f) = k w.after e2 (w.operand ≡ plain (atom f)) (λ q. w.atom_is g.0 g.1 q)
      (λ q. w.alone_is g.0 g.1 q) in
      one-taken ops n c w.place (atom f) w.operator (T at e l (name f ∷ ns)) w.after e2 ns
      (ap (levels_of n) (w.words ∙ ap (λ (x : AsOperand Text). word w.place x w.operator ∷ k_words ops false js) is))

  -- integers
  two-words : (a : ℕ) (op : AsOperator Text) (t : Token) (m k : ℕ) (ws : List (Word Text))
      → levels_of n (word a (a_minus (int (negsuc k))) op ∷ integer_word t m ∷ ws)
      ≡ over (λ ps. single (word a (a_minus (int (negsuc k))) op) (single (integer_word t m) ps)) (levels_of n ws)
  two-words a op t m k ws = by_test (nat_lt m least_magnitude)
      (λ e. subst (λ (w : Word Text). levels_of n (word a (a_minus (int (negsuc k))) op ∷ w ∷ ws)
      ≡ over (λ ps. single (word a (a_minus (int (negsuc k))) op) (single w ps)) (levels_of n ws))
      (sym (if_true (nat_lt m least_magnitude) _ _ e)) refl)
      (λ e. subst (λ (w : Word Text). levels_of n (word a (a_minus (int (negsuc k))) op ∷ w ∷ ws)
      ≡ over (λ ps. single (word a (a_minus (int (negsuc k))) op) (single w ps)) (levels_of n ws))
      (sym (if_false (nat_lt m least_magnitude) _ _ e)) refl)

  pub int-taken : (c : RowKind) (i : ℤ) → IsSmall i → (ns : List Lexeme) (at : ℕ) (e : Edge) (l : Bool)
      → Taken ops n c (T at e l (number i ∷ ns)) ns (a_member (int i) ∷ [])
  int-taken c (pos k) h ns at e l =
      step (λ ks. Taken ops n c ks ns (a_member (int (pos k)) ∷ [])) (number (pos k)) ns refl at e l (λ at1 l1 _ _ _.
      let e1 = edge_behind e (lexeme_fragment (number (pos k))) in let at2 = at1 + length (decimal k) in let js = T at2 e1 false ns in
      one-taken ops n c at1 (int (pos k)) misplaced ((tok (Integer k) at1 at2 l1, []) ∷ js) at2 e1 ns
      (ap (levels_of n) (no-pair ops (tok (Integer k) at1 at2 l1, []) js (integer-pair ops k (firsts js))
      ∙ ap (λ (w : Word Text). w ∷ k_words ops false js) (if_true (nat_lt k least_magnitude) _ _
      (lt-ltb k least_magnitude (let z : k < 2 ^ 63 = h in omega (arith, z)))))))
  int-taken c (negsuc k) h ns at e l =
      step (λ ks. Taken ops n c ks ns (a_member (int (negsuc k)) ∷ [])) (number (negsuc k)) ns refl at e l (λ at1 l1 _ _ _.
      let e1 = edge_behind e (lexeme_fragment (number (negsuc k))) in
      let at2 = at1 + length (lexeme_text (number (negsuc k))) in
      let js = T at2 e1 false ns in
      let two : Known = (tok (Integer (suc k)) (at1 + 1) (at1 + 1 + length (decimal (suc k))) false, []) in
      let one : Known = (tok Name at1 (at1 + 1) l1, codes "-") in
      let w2 = k_word ops two js in
      let neg : k_operand ops one (two ∷ js) ≡ a_minus (int (negsuc k)) =
      ap (λ (x : Option ℤ). signed_or_bare x (k_bare ops (codes "-") (two ∷ js))) (if_true (nat_le (suc k) least_magnitude)
      (Some (negsuc k)) None (le-leb (suc k) least_magnitude (let z : k < 2 ^ 63 = h in omega (arith, z)))) in
      record {
        after = at2;
        edge = e1;
        parts = λ ps. single (word at1 (a_minus (int (negsuc k))) (as_operator ops (codes "-"))) (single w2 ps);
        words = ap (levels_of n) (no-pair ops one (two ∷ js) refl
            ∙ (ap (λ (x : AsOperand Text). word at1 x (as_operator ops (codes "-")) ∷ k_words ops false (two ∷ js)) neg
            ∙ ap (λ (ws : List (Word Text)). word at1 (a_minus (int (negsuc k))) (as_operator ops (codes "-")) ∷ ws)
            (no-pair ops two js (integer-pair ops (suc k) (firsts js)))))
            ∙ two-words at1 (as_operator ops (codes "-")) (tok (Integer (suc k)) (at1 + 1) (at1 + 1 + length (decimal (suc k))) false)
            (suc k) k (k_words ops false js);
        rows = operand (int (negsuc k));
        is_roles = λ ps stop. refl;
        is_read = λ rs. member-row (a_member (int (negsuc k))) (read_rows known rs);
        is_excess = λ rs. refl;
      })
