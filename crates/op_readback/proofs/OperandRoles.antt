-- The roles of the words of operands, one behind the other.
use Rattle.std.proofs.Common.{◌≡◌, ℕ, Bool, false, List, [], ◌∷◌, ◌++◌, Option, Some, None, refl, sym, ◌∙◌, ap}
use Rattle.std.specs.Prelude.{option_map, option_and_then, Result, Ok, Err}
use Rattle.std.proofs.lemmas.List.{append_assoc, append-nil}
use Rattle.op_logic.specs.Term.{Term}
use Rattle.op_term.specs.Ops.{Table}
use Rattle.op_reader.specs.declared.bracket.Bracket.{Bracket}
use Rattle.op_reader.specs.declared.bracket.Bracket.TheVariants.{Round}
use Rattle.op_reader.specs.declared.row_kind.RowKind.{RowKind}
use Rattle.op_reader.specs.declared.row_kind.RowKind.TheVariants.{Arguments}
use Rattle.op_reader.specs.Row.{Member, Operator, operand as a_member, operator as an_op}
use Rattle.op_reader.specs.Words.{functor, plain, AsOperator, Word, word}
use Rattle.op_reader.specs.Roles.{Parts, single, enclosed, Levels, level, with_opening, levels_of, Rows, operator, operand, compound}
use Rattle.op_reader.specs.Roles.{bracketed, inside, Expected, an_operand, an_operator, on_rows, on_both, roles}
use Rattle.op_reader.specs.Terms.{known, ReadRows, with_member, compound_of, bracketed_of, as_operand, read_rows, first_of, excess_in}
use Rattle.op_writer.specs.declared.edge.Edge.{Edge}
use Rattle.op_readback.proofs.Lexemes.{Lexeme}
use Rattle.op_readback.proofs.LexemeTokens.{Known, tokens}
use Rattle.op_readback.proofs.KnownWords.{k_words}

abbrev Text : Type 0
Text = List ℕ

abbrev pub over : (Parts Text → Parts Text) → Levels Text → Levels Text
over q l = record { inner = level (q l.inner.parts) l.inner.stop; outer = l.outer }

abbrev pub with_row : List (Member Text) → ReadRows Text → ReadRows Text
with_row row r = record { row = row ++ r.row; rest = r.rest; tail = r.tail }

abbrev pub read : List (Member Text) → List (Term Text) → Option (Term Text) → ReadRows Text
read row ts tl = record { row = row; rest = ts; tail = tl }

rows-rows : (f g : Rows Text → Rows Text) (r : Result (Rows Text) ℕ) → on_rows f (on_rows g r) ≡ on_rows (λ rs. f (g rs)) r
rows-rows f g (Ok r) = refl
rows-rows f g (Err p) = refl

row-row : (xs ys : List (Member Text)) (r : Option (ReadRows Text)) → option_map (with_row xs) (option_map (with_row ys) r)
    ≡ option_map (with_row (xs ++ ys)) r
row-row xs ys None = refl
row-row xs ys (Some r) = ap (λ (zs : List (Member Text)). Some (read zs r.rest r.tail)) (sym (append_assoc xs ys r.row))

pub member-row : (p : Member Text) (r : Option (ReadRows Text)) → option_map (with_member p) r ≡ option_map (with_row (p ∷ [])) r
member-row p None = refl
member-row p (Some r) = refl

module _ (ops : Table) (n : ℕ) where
  abbrev pub lv : List Known → Levels Text
  lv ks = levels_of n (k_words ops false ks)

  -- some words are an operand, or some operators and operands, where an operand is expected
  pub record Taken (c : RowKind) (ks : List Known) (ns : List Lexeme) (row : List (Member Text)) : Type 0 where
    pub after : ℕ
    pub edge : Edge
    pub parts : Parts Text → Parts Text
    pub words : lv ks ≡ over parts (lv (tokens after edge false ns))
    pub rows : Rows Text → Rows Text
    pub is_roles : (ps : Parts Text) (stop : ℕ) → roles c an_operand (parts ps) stop ≡ on_rows rows (roles c an_operator ps stop)
    pub is_read : (rs : Rows Text) → read_rows known (rows rs) ≡ option_map (with_row row) (read_rows known rs)
    pub is_excess : (rs : Rows Text) → excess_in (rows rs) ≡ excess_in rs

  -- one word is an operator, behind which something is expected
  pub record Link (c : RowKind) (from to : Expected Text) (o : Operator Text) (ks : List Known) (ns : List Lexeme) : Type 0 where
    pub after : ℕ
    pub edge : Edge
    pub layout : Bool
    pub the_word : Word Text
    pub words : lv ks ≡ over (single the_word) (lv (tokens after edge layout ns))
    pub is_roles : (ps : Parts Text) (stop : ℕ) → roles c from (single the_word ps) stop ≡ on_rows (operator o) (roles c to ps stop)

  pub infix-taken : (c : RowKind) (o : Operator Text) (ks : List Known) (ms1 ms2 ns : List Lexeme) (ra rb : List (Member Text))
      → (a : Taken c ks ms1 ra) → Link c an_operator an_operand o (tokens a.after a.edge false ms1) ms2
      → ((at : ℕ) (e : Edge) (l : Bool) → Taken c (tokens at e l ms2) ns rb)
      → Taken c ks ns (ra ++ an_op o ∷ rb)
  infix-taken c o ks ms1 ms2 ns ra rb a l f =
      let b = f l.after l.edge l.layout in
      record {
        after = b.after;
        edge = b.edge;
        parts = λ ps. a.parts (single l.the_word (b.parts ps));
        words = a.words ∙ (ap (over a.parts) l.words ∙ ap (λ (x : Levels Text). over a.parts (over (single l.the_word) x)) b.words);
        rows = λ rs. a.rows (operator o (b.rows rs));
        is_roles = λ ps stop. a.is_roles (single l.the_word (b.parts ps)) stop
            ∙ (ap (on_rows a.rows) (l.is_roles (b.parts ps) stop ∙ (ap (on_rows (operator o)) (b.is_roles ps stop)
            ∙ rows-rows (operator o) b.rows (roles c an_operator ps stop)))
            ∙ rows-rows a.rows (λ rs. operator o (b.rows rs)) (roles c an_operator ps stop));
        is_read = λ rs. a.is_read (operator o (b.rows rs))
            ∙ (ap (option_map (with_row ra)) (ap (option_map (with_member (an_op o))) (b.is_read rs)
            ∙ (member-row (an_op o) (option_map (with_row rb) (read_rows known rs)) ∙ row-row (an_op o ∷ []) rb (read_rows known rs)))
            ∙ row-row ra (an_op o ∷ rb) (read_rows known rs));
        is_excess = λ rs. a.is_excess (operator o (b.rows rs)) ∙ b.is_excess rs;
      }

  pub prefix-taken : (c : RowKind) (o : Operator Text) (ks : List Known) (ms ns : List Lexeme) (rb : List (Member Text))
      → Link c an_operand an_operand o ks ms → ((at : ℕ) (e : Edge) (l : Bool) → Taken c (tokens at e l ms) ns rb)
      → Taken c ks ns (an_op o ∷ rb)
  prefix-taken c o ks ms ns rb l f =
      let b = f l.after l.edge l.layout in
      record {
        after = b.after;
        edge = b.edge;
        parts = λ ps. single l.the_word (b.parts ps);
        words = l.words ∙ ap (over (single l.the_word)) b.words;
        rows = λ rs. operator o (b.rows rs);
        is_roles = λ ps stop. l.is_roles (b.parts ps) stop ∙ (ap (on_rows (operator o)) (b.is_roles ps stop)
            ∙ rows-rows (operator o) b.rows (roles c an_operator ps stop));
        is_read = λ rs. ap (option_map (with_member (an_op o))) (b.is_read rs)
            ∙ (member-row (an_op o) (option_map (with_row rb) (read_rows known rs)) ∙ row-row (an_op o ∷ []) rb (read_rows known rs));
        is_excess = λ rs. b.is_excess rs;
      }

  -- the last word of a postfix operator; no text without a space is behind it
  pub postfix-taken : (c : RowKind) (o : Operator Text) (ks : List Known) (ms ns : List Lexeme) (ra : List (Member Text))
      → (a : Taken c ks ms ra) → (l : Link c an_operator an_operator o (tokens a.after a.edge false ms) ns) → l.layout ≡ false
      → Taken c ks ns (ra ++ an_op o ∷ [])
  postfix-taken c o ks ms ns ra a l q = record {
    after = l.after;
    edge = l.edge;
    parts = λ ps. a.parts (single l.the_word ps);
    words = a.words ∙ (ap (over a.parts) l.words
        ∙ ap (λ (k : Bool). over (λ ps. a.parts (single l.the_word ps)) (lv (tokens l.after l.edge k ns))) q);
    rows = λ rs. a.rows (operator o rs);
    is_roles = λ ps stop. a.is_roles (single l.the_word ps) stop ∙ (ap (on_rows a.rows) (l.is_roles ps stop)
        ∙ rows-rows a.rows (operator o) (roles c an_operator ps stop));
    is_read = λ rs. a.is_read (operator o rs) ∙ (ap (option_map (with_row ra)) (member-row (an_op o) (read_rows known rs))
        ∙ row-row ra (an_op o ∷ []) (read_rows known rs));
    is_excess = λ rs. a.is_excess (operator o rs);
  }

  -- the words up to a closing bracket, where an operator or an operand is expected: the terms of the rows that follow
  pub record Ended (c : RowKind) (expected : Expected Text) (ks : List Known) (ns : List Lexeme) (row : List (Member Text))
      (ts : List (Term Text)) (tl : Option (Term Text)) : Type 0 where
    pub after : ℕ
    pub edge : Edge
    pub parts : Parts Text
    pub place : ℕ
    pub words : lv ks ≡ record {
      inner = level parts place;
      outer = (lv (tokens after edge false ns)).inner ∷ (lv
          (tokens after edge false ns)).outer;
    }
    pub rows : Rows Text
    pub is_roles : roles c expected parts place ≡ Ok rows
    pub is_read : read_rows known rows ≡ Some (read row ts tl)
    pub is_excess : excess_in rows ≡ None

  -- an operand before such an end
  pub filled : (c : RowKind) (ks : List Known) (ms ns : List Lexeme) (row : List (Member Text)) (ts : List (Term Text))
      (tl : Option (Term Text))
      → (a : Taken c ks ms row) → Ended c an_operator (tokens a.after a.edge false ms) ns [] ts tl → Ended c an_operand ks ns row ts tl
  filled c ks ms ns row ts tl a e = record {
    after = e.after;
    edge = e.edge;
    parts = a.parts e.parts;
    place = e.place;
    words = a.words ∙ ap (over a.parts) e.words;
    rows = a.rows e.rows;
    is_roles = a.is_roles e.parts e.place ∙ ap (on_rows a.rows) e.is_roles;
    is_read = a.is_read e.rows ∙ (ap (option_map (with_row row)) e.is_read
        ∙ ap (λ (xs : List (Member Text)). Some (read xs ts tl)) (append-nil row));
    is_excess = a.is_excess e.rows ∙ e.is_excess;
  }

  -- a part in brackets is an operand
  pub in-brackets : (c : RowKind) (b : Bracket) (place : ℕ) (ks ks1 : List Known) (ns : List Lexeme) (row : List (Member Text))
      (ts : List (Term Text)) (tl : Option (Term Text)) (t : Term Text)
      → lv ks ≡ with_opening place b (lv ks1).inner (lv ks1).outer → Ended (inside b) an_operand ks1 ns row ts tl
      → bracketed_of known b (read row ts tl) ≡ Some t
      → Taken c ks ns (a_member t ∷ [])
  in-brackets c b place ks ks1 ns row ts tl t w e k = record {
    after = e.after;
    edge = e.edge;
    parts = enclosed place b e.parts e.place;
    words = w ∙ ap (λ (x : Levels Text). with_opening place b x.inner x.outer) e.words;
    rows = bracketed b e.rows;
    is_roles = λ ps stop. ap (λ (x : Result (Rows Text) ℕ). on_both (bracketed b) x (roles c an_operator ps stop)) e.is_roles
        ∙ both (bracketed b) e.rows (roles c an_operator ps stop);
    is_read = λ rs. ap (λ (x : Option (ReadRows Text)). as_operand (option_and_then (bracketed_of known b) x) (read_rows known rs))
        e.is_read
        ∙ (ap (λ (x : Option (Term Text)). as_operand x (read_rows known rs)) k ∙ member-row (a_member t) (read_rows known rs));
    is_excess = λ rs. ap (λ (x : Option ℕ). first_of x (excess_in rs)) e.is_excess;
  }
    where
      both : (f : Rows Text → Rows Text → Rows Text) (r : Rows Text) (s : Result (Rows Text) ℕ) → on_both f (Ok r) s ≡ on_rows (f r) s
      both f r (Ok s) = refl
      both f r (Err p) = refl

  -- a functor with its arguments is an operand
  pub with-arguments : (c : RowKind) (f : Text) (place opening : ℕ) (op : AsOperator Text) (ks ks0 ks1 : List Known) (ns : List Lexeme)
      (row : List (Member Text)) (ts : List (Term Text)) (tl : Option (Term Text)) (t : Term Text)
      → lv ks ≡ over (single (word place (functor f) op)) (lv ks0) → lv ks0 ≡ with_opening opening Round (lv ks1).inner (lv ks1).outer
      → Ended Arguments an_operand ks1 ns row ts tl
      → compound_of f (read row ts tl) ≡ Some t → Taken c ks ns (a_member t ∷ [])
  with-arguments c f place opening op ks ks0 ks1 ns row ts tl t w0 w e k = record {
    after = e.after;
    edge = e.edge;
    parts = λ ps. single (word place (functor f) op) (enclosed opening Round e.parts e.place ps);
    words = w0 ∙ (ap (over (single (word place (functor f) op))) (w
        ∙ ap (λ (x : Levels Text). with_opening opening Round x.inner x.outer) e.words));
    rows = compound f e.rows;
    is_roles = λ ps stop. ap (λ (x : Result (Rows Text) ℕ). on_both (compound f) x (roles c an_operator ps stop)) e.is_roles
        ∙ both (compound f) e.rows (roles c an_operator ps stop);
    is_read = λ rs. ap (λ (x : Option (ReadRows Text)). as_operand (option_and_then (compound_of f) x) (read_rows known rs)) e.is_read
        ∙ (ap (λ (x : Option (Term Text)). as_operand x (read_rows known rs)) k ∙ member-row (a_member t) (read_rows known rs));
    is_excess = λ rs. ap (λ (x : Option ℕ). first_of x (excess_in rs)) e.is_excess;
  }
    where
      both : (f : Rows Text → Rows Text → Rows Text) (r : Rows Text) (s : Result (Rows Text) ℕ) → on_both f (Ok r) s ≡ on_rows (f r) s
      both f r (Ok s) = refl
      both f r (Err p) = refl

  -- one word is an operand
  pub one-taken : (c : RowKind) (place : ℕ) (t : Term Text) (op : AsOperator Text) (ks : List Known) (at : ℕ) (e : Edge) (ns : List Lexeme)
      → lv ks ≡ over (single (word place (plain t) op)) (lv (tokens at e false ns)) → Taken c ks ns (a_member t ∷ [])
  one-taken c place t op ks at e ns w = record {
    after = at;
    edge = e;
    parts = single (word place (plain t) op);
    words = w;
    rows = operand t;
    is_roles = λ ps stop. refl;
    is_read = λ rs. member-row (a_member t) (read_rows known rs);
    is_excess = λ rs. refl;
  }
