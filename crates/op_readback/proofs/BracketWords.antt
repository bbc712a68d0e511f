-- The words of single lexemes, as ends, brackets and operators.
use Rattle.std.proofs.Common.{◌≡◌, ◌+◌, ℕ, Bool, false, List, [], ◌∷◌, Option, Some, None, refl, ◌∙◌, ap}
use Rattle.std.specs.Prelude.{codes, option_map, option_and_then}
use Rattle.std.specs.Str.{IsUtf8}
use Rattle.op_logic.proofs.BoolCases.{if_false}
use Rattle.op_logic.specs.Term.{Term}
use Rattle.op_term.specs.Ops.{Table}
use Rattle.op_token.specs.declared.token.TokenKind.TheVariants.{OpenRound, CloseRound, OpenSquare, CloseSquare, OpenCurly, CloseCurly}
use Rattle.op_token.specs.declared.token.TokenKind.TheVariants.{Comma, Bar}
use Rattle.op_reader.specs.declared.bracket.Bracket.TheVariants.{Round, Square, Curly}
use Rattle.op_reader.specs.declared.row_kind.RowKind.{RowKind}
use Rattle.op_reader.specs.declared.row_kind.RowKind.TheVariants.{Clause, Arguments, Elements, Last}
use Rattle.op_reader.specs.Row.{Member, operand as a_member, tree}
use Rattle.op_reader.specs.Words.{AsOperand, functor, Word, word, comma, bar, as_operator, is_empty_pair}
use Rattle.op_reader.specs.Roles.{none, single, with_opening, levels_of, done, separator, tail, an_operand, an_operator, on_rows}
use Rattle.op_reader.specs.Terms.{known, separated, tailed, compound_of, bracketed_of}
use Rattle.op_writer.specs.declared.edge.Edge.{Edge}
use Rattle.op_writer.specs.Fragments.{edge_behind}
use Rattle.op_readback.proofs.Lexemes.{Lexeme, sign, name, lexeme_fragment}
use Rattle.op_readback.proofs.LexemeTokens.{Known, tok, tokens}
use Rattle.op_readback.proofs.KnownWords.{firsts, k_words}
use Rattle.op_readback.proofs.FirstWords.{step, no-pair, ender-pair, round-pair, name-round, opens-round, name-word}
use Rattle.op_readback.proofs.OperandRoles.{over, read, lv, Taken, Ended, in-brackets, with-arguments}

abbrev Text : Type 0
Text = List ℕ

module _ (ops : Table) (n : ℕ) where
  abbrev T : ℕ → Edge → Bool → List Lexeme → List Known
  T = tokens

  pub closed-round : (c : RowKind) (ns : List Lexeme) (at : ℕ) (e : Edge) (l : Bool)
      → Ended ops n c an_operator (T at e l (sign 41 ∷ ns)) ns [] [] None
  closed-round c ns at e l = step (λ ks. Ended ops n c an_operator ks ns [] [] None) (sign 41) ns refl at e l (λ at1 l1 _ _ _.
      let js = T (at1 + 1) (edge_behind e (lexeme_fragment (sign 41))) false ns in
      record {
        after = at1 + 1;
        edge = edge_behind e (lexeme_fragment (sign 41));
        parts = none;
        place = at1;
        words = ap (levels_of n) (no-pair ops (tok CloseRound at1 (at1 + 1) l1, []) js (ender-pair ops CloseRound (firsts js) refl));
        rows = done;
        is_roles = refl;
        is_read = refl;
        is_excess = refl;
      })

  pub closed-square : (c : RowKind) (ns : List Lexeme) (at : ℕ) (e : Edge) (l : Bool)
      → Ended ops n c an_operator (T at e l (sign 93 ∷ ns)) ns [] [] None
  closed-square c ns at e l = step (λ ks. Ended ops n c an_operator ks ns [] [] None) (sign 93) ns refl at e l (λ at1 l1 _ _ _.
      let js = T (at1 + 1) (edge_behind e (lexeme_fragment (sign 93))) false ns in
      record {
        after = at1 + 1;
        edge = edge_behind e (lexeme_fragment (sign 93));
        parts = none;
        place = at1;
        words = ap (levels_of n) (no-pair ops (tok CloseSquare at1 (at1 + 1) l1, []) js (ender-pair ops CloseSquare (firsts js) refl));
        rows = done;
        is_roles = refl;
        is_read = refl;
        is_excess = refl;
      })

  pub closed-curly : (c : RowKind) (ns : List Lexeme) (at : ℕ) (e : Edge) (l : Bool)
      → Ended ops n c an_operator (T at e l (sign 125 ∷ ns)) ns [] [] None
  closed-curly c ns at e l = step (λ ks. Ended ops n c an_operator ks ns [] [] None) (sign 125) ns refl at e l (λ at1 l1 _ _ _.
      let js = T (at1 + 1) (edge_behind e (lexeme_fragment (sign 125))) false ns in
      record {
        after = at1 + 1;
        edge = edge_behind e (lexeme_fragment (sign 125));
        parts = none;
        place = at1;
        words = ap (levels_of n) (no-pair ops (tok CloseCurly at1 (at1 + 1) l1, []) js (ender-pair ops CloseCurly (firsts js) refl));
        rows = done;
        is_roles = refl;
        is_read = refl;
        is_excess = refl;
      })

  -- further arguments and elements, and a list's tail
  separated-is : (row : List (Member Text)) (t : Term Text) (ts : List (Term Text)) (tl : Option (Term Text)) → tree 999 row ≡ Some t
      → separated (read row ts tl) ≡ Some (read [] (t ∷ ts) tl)
  separated-is row t ts tl h = ap (option_map (λ t. read [] (t ∷ ts) tl)) h

  tailed-is : (row : List (Member Text)) (t : Term Text) (ts : List (Term Text)) (tl : Option (Term Text)) → tree 999 row ≡ Some t
      → tailed (read row ts tl) ≡ Some (read [] [] (Some t))
  tailed-is row t ts tl h = ap (option_map (λ t. read [] [] (Some t))) h

  pub comma-arguments : (ms ns : List Lexeme) (row : List (Member Text)) (t : Term Text) (ts : List (Term Text)) (tl : Option (Term Text))
      → tree 999 row ≡ Some t
      → ((at : ℕ) (e : Edge) → Ended ops n Arguments an_operand (T at e false ms) ns row ts tl) → (at : ℕ) (e : Edge) (l : Bool)
      → Ended ops n Arguments an_operator (T at e l (sign 44 ∷ ms)) ns [] (t ∷ ts) tl
  comma-arguments ms ns row t ts tl h f at e l =
      step (λ ks. Ended ops n Arguments an_operator ks ns [] (t ∷ ts) tl) (sign 44) ms refl at e l (λ at1 l1 _ _ _.
      let e1 = edge_behind e (lexeme_fragment (sign 44)) in
      let js = T (at1 + 1) e1 false ms in
      let x = f (at1 + 1) e1 in
      record {
        after = x.after;
        edge = x.edge;
        parts = single (comma at1 (as_operator ops (codes ","))) x.parts;
        place = x.place;
        words = ap (levels_of n) (no-pair ops (tok Comma at1 (at1 + 1) l1, []) js (ender-pair ops Comma (firsts js) refl))
            ∙ ap (over (single (comma at1 (as_operator ops (codes ","))))) x.words;
        rows = separator x.rows;
        is_roles = ap (on_rows separator) x.is_roles;
        is_read = ap (option_and_then separated) x.is_read ∙ separated-is row t ts tl h;
        is_excess = x.is_excess;
      })

  pub comma-elements : (ms ns : List Lexeme) (row : List (Member Text)) (t : Term Text) (ts : List (Term Text)) (tl : Option (Term Text))
      → tree 999 row ≡ Some t
      → ((at : ℕ) (e : Edge) → Ended ops n Elements an_operand (T at e false ms) ns row ts tl) → (at : ℕ) (e : Edge) (l : Bool)
      → Ended ops n Elements an_operator (T at e l (sign 44 ∷ ms)) ns [] (t ∷ ts) tl
  comma-elements ms ns row t ts tl h f at e l =
      step (λ ks. Ended ops n Elements an_operator ks ns [] (t ∷ ts) tl) (sign 44) ms refl at e l (λ at1 l1 _ _ _.
      let e1 = edge_behind e (lexeme_fragment (sign 44)) in
      let js = T (at1 + 1) e1 false ms in
      let x = f (at1 + 1) e1 in
      record {
        after = x.after;
        edge = x.edge;
        parts = single (comma at1 (as_operator ops (codes ","))) x.parts;
        place = x.place;
        words = ap (levels_of n) (no-pair ops (tok Comma at1 (at1 + 1) l1, []) js (ender-pair ops Comma (firsts js) refl))
            ∙ ap (over (single (comma at1 (as_operator ops (codes ","))))) x.words;
        rows = separator x.rows;
        is_roles = ap (on_rows separator) x.is_roles;
        is_read = ap (option_and_then separated) x.is_read ∙ separated-is row t ts tl h;
        is_excess = x.is_excess;
      })

  pub bar-elements : (ms ns : List Lexeme) (row : List (Member Text)) (t : Term Text) (ts : List (Term Text)) (tl : Option (Term Text))
      → tree 999 row ≡ Some t
      → ((at : ℕ) (e : Edge) → Ended ops n Last an_operand (T at e false ms) ns row ts tl) → (at : ℕ) (e : Edge) (l : Bool)
      → Ended ops n Elements an_operator (T at e l (sign 124 ∷ ms)) ns [] [] (Some t)
  bar-elements ms ns row t ts tl h f at e l =
      step (λ ks. Ended ops n Elements an_operator ks ns [] [] (Some t)) (sign 124) ms refl at e l (λ at1 l1 _ _ _.
      let e1 = edge_behind e (lexeme_fragment (sign 124)) in
      let js = T (at1 + 1) e1 false ms in
      let x = f (at1 + 1) e1 in
      record {
        after = x.after;
        edge = x.edge;
        parts = single (bar at1) x.parts;
        place = x.place;
        words = ap (levels_of n) (no-pair ops (tok Bar at1 (at1 + 1) l1, []) js (ender-pair ops Bar (firsts js) refl))
            ∙ ap (over (single (bar at1))) x.words;
        rows = tail x.rows;
        is_roles = ap (on_rows tail) x.is_roles;
        is_read = ap (option_and_then tailed) x.is_read ∙ tailed-is row t ts tl h;
        is_excess = x.is_excess;
      })

  -- parts in brackets
  round-opens : (a b : ℕ) (l : Bool) (js : List Known)
      → lv ops n ((tok OpenRound a b l, []) ∷ js) ≡ with_opening a Round (lv ops n js).inner (lv ops n js).outer
  round-opens a b l js =
      ap (levels_of n) (no-pair ops (tok OpenRound a b l, []) js (round-pair ops (firsts js))
      ∙ ap (λ (w : Word Text). w ∷ k_words ops false js) (if_false (is_empty_pair OpenRound (firsts js)) _ _ (round-pair ops (firsts js))))

  square-opens : (a b : ℕ) (l : Bool) (js : List Known) → is_empty_pair OpenSquare (firsts js) ≡ false
      → lv ops n ((tok OpenSquare a b l, []) ∷ js) ≡ with_opening a Square (lv ops n js).inner (lv ops n js).outer
  square-opens a b l js h =
      ap (levels_of n) (no-pair ops (tok OpenSquare a b l, []) js h ∙ ap (λ (w : Word Text). w ∷ k_words ops false js)
      (if_false (is_empty_pair OpenSquare (firsts js)) _ _ h))

  curly-opens : (a b : ℕ) (l : Bool) (js : List Known) → is_empty_pair OpenCurly (firsts js) ≡ false
      → lv ops n ((tok OpenCurly a b l, []) ∷ js) ≡ with_opening a Curly (lv ops n js).inner (lv ops n js).outer
  curly-opens a b l js h =
      ap (levels_of n) (no-pair ops (tok OpenCurly a b l, []) js h ∙ ap (λ (w : Word Text). w ∷ k_words ops false js)
      (if_false (is_empty_pair OpenCurly (firsts js)) _ _ h))

  pub round-taken : (c : RowKind) (ms ns : List Lexeme) (row : List (Member Text)) (ts : List (Term Text)) (tl : Option (Term Text))
      (t : Term Text) → bracketed_of known Round (read row ts tl) ≡ Some t
      → ((at : ℕ) (e : Edge) → Ended ops n Clause an_operand (T at e false ms) ns row ts tl) → (at : ℕ) (e : Edge) (l : Bool)
      → Taken ops n c (T at e l (sign 40 ∷ ms)) ns (a_member t ∷ [])
  round-taken c ms ns row ts tl t h f at e l = step (λ ks. Taken ops n c ks ns (a_member t ∷ [])) (sign 40) ms refl at e l (λ at1 l1 _ _ _.
      let e1 = edge_behind e (lexeme_fragment (sign 40)) in let js = T (at1 + 1) e1 false ms in
      in-brackets ops n c Round at1 _ js ns row ts tl t (round-opens at1 (at1 + 1) l1 js) (f (at1 + 1) e1) h)

  pub square-taken : (c : RowKind) (ms ns : List Lexeme) (row : List (Member Text)) (ts : List (Term Text)) (tl : Option (Term Text))
      (t : Term Text) → bracketed_of known Square (read row ts tl) ≡ Some t
      → ((at : ℕ) (e : Edge) → is_empty_pair OpenSquare (firsts (T at e false ms)) ≡ false)
      → ((at : ℕ) (e : Edge) → Ended ops n Elements an_operand (T at e false ms) ns row ts tl) → (at : ℕ) (e : Edge) (l : Bool)
      → Taken ops n c (T at e l (sign 91 ∷ ms)) ns (a_member t ∷ [])
  square-taken c ms ns row ts tl t h k f at e l =
      step (λ ks. Taken ops n c ks ns (a_member t ∷ [])) (sign 91) ms refl at e l (λ at1 l1 _ _ _.
      let e1 = edge_behind e (lexeme_fragment (sign 91)) in let js = T (at1 + 1) e1 false ms in
      in-brackets ops n c Square at1 _ js ns row ts tl t (square-opens at1 (at1 + 1) l1 js (k (at1 + 1) e1)) (f (at1 + 1) e1) h)

  pub curly-taken : (c : RowKind) (ms ns : List Lexeme) (row : List (Member Text)) (ts : List (Term Text)) (tl : Option (Term Text))
      (t : Term Text) → bracketed_of known Curly (read row ts tl) ≡ Some t
      → ((at : ℕ) (e : Edge) → is_empty_pair OpenCurly (firsts (T at e false ms)) ≡ false)
      → ((at : ℕ) (e : Edge) → Ended ops n Clause an_operand (T at e false ms) ns row ts tl) → (at : ℕ) (e : Edge) (l : Bool)
      → Taken ops n c (T at e l (sign 123 ∷ ms)) ns (a_member t ∷ [])
  curly-taken c ms ns row ts tl t h k f at e l =
      step (λ ks. Taken ops n c ks ns (a_member t ∷ [])) (sign 123) ms refl at e l (λ at1 l1 _ _ _.
      let e1 = edge_behind e (lexeme_fragment (sign 123)) in let js = T (at1 + 1) e1 false ms in
      in-brackets ops n c Curly at1 _ js ns row ts tl t (curly-opens at1 (at1 + 1) l1 js (k (at1 + 1) e1)) (f (at1 + 1) e1) h)

  -- a functor and its arguments
  pub functor-taken : (c : RowKind) (f : Text) → IsUtf8 f → (ms ns : List Lexeme) (row : List (Member Text)) (ts : List (Term Text))
      (tl : Option (Term Text)) (t : Term Text) → compound_of f (read row ts tl) ≡ Some t
      → ((at : ℕ) (e : Edge) → Ended ops n Arguments an_operand (T at e false ms) ns row ts tl) → (at : ℕ) (e : Edge) (l : Bool)
      → Taken ops n c (T at e l (name f ∷ sign 40 ∷ ms)) ns (a_member t ∷ [])
  functor-taken c f u ms ns row ts tl t h k at e l =
      let w = name-word ops f (sign 40 ∷ ms) at e l in
      let e2 = edge_behind e (lexeme_fragment (name f)) in
      let op = opens-round ops ms w.after e2 (name-round f u e) in
      step (λ ks. lv ops n (T at e l (name f ∷ sign 40 ∷ ms)) ≡ over (single (word w.place (functor f) w.operator)) (lv ops n ks)
      → Taken ops n c (T at e l (name f ∷ sign 40 ∷ ms)) ns (a_member t ∷ [])) (sign 40) ms refl w.after e2 false
      (λ at1 l1 _ _ _ q.
      let e1 = edge_behind e2 (lexeme_fragment (sign 40)) in let js = T (at1 + 1) e1 false ms in
      with-arguments ops n c f w.place at1 w.operator (T at e l (name f ∷ sign 40 ∷ ms)) ((tok OpenRound at1 (at1 + 1) l1, []) ∷ js) js ns
      row ts tl t q (round-opens at1 (at1 + 1) l1 js) (k (at1 + 1) e1) h)
      (ap (levels_of n) (w.words ∙ ap (λ (x : AsOperand Text). word w.place x w.operator ∷ k_words ops false
      (T w.after e2 false (sign 40 ∷ ms))) (w.functor_is op)))
