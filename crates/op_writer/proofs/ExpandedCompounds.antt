-- The items that a compound is replaced by come to the same.
use Rattle.std.proofs.Common.{◌≡◌, ◌<◌, ◌≤◌, ◌+◌, ℕ, suc, Bool, true, false, not, List, [], ◌∷◌, ◌++◌, length, None, cond, refl, sym, ◌∙◌}
use Rattle.std.proofs.Common.{ap, subst, arith}
use Rattle.std.proofs.lemmas.List.{append_assoc}
use Rattle.op_logic.specs.Term.{Term, node, no_args, arg, args_of, arity, nth_arg}
use Rattle.op_logic.specs.Names.{name_at, HasNames}
use Rattle.op_term.specs.declared.ops.Meaning.{Meaning}
use Rattle.op_term.specs.declared.node.Node.TheVariants.{Struct}
use Rattle.op_term.specs.declared.symbols.Sym.{Sym}
use Rattle.op_term.specs.Head.{head}
use Rattle.op_writer.specs.declared.bound.Bound.{Bound}
use Rattle.op_writer.specs.declared.bound.Bound.TheVariants.{Whole}
use Rattle.op_writer.specs.declared.notation.Notation.TheVariants.{List as Listed, Braces, Infix, Prefix as Before, Postfix as Behind}
use Rattle.op_writer.specs.declared.notation.Notation.TheVariants.{Functional}
use Rattle.op_writer.specs.declared.item.Lexeme.{Lexeme}
use Rattle.op_writer.specs.declared.item.Lexeme.TheVariants.{Sign, Name}
use Rattle.op_writer.specs.declared.item.Item.{Item}
use Rattle.op_writer.specs.declared.item.Item.TheVariants.{Lexeme as Written, Term as Inside, Rest, Further}
use Rattle.op_writer.specs.Fragments.{Fragment, plain}
use Rattle.op_writer.specs.Text.{within, rest, bracketed, fits, left_of, right_of}
use Rattle.op_writer.specs.Text.{argument, infix_fragments, prefix_fragments, postfix_fragments}
use Rattle.op_writer.specs.Text.{compound_form, further, notation_of}
use Rattle.op_writer.specs.inner.Stack
use Rattle.op_writer.proofs.TermArguments.{compound-two, compound-one, compound-some, compound-of, drop-some, drop-none}
use Rattle.op_writer.proofs.CompoundForms.{form-compound, functional-form, letter-two}

module _ {P : Type 0} (term : P → Term ℕ) (w : Stack.Ways) (IsPlace : P → Type 0) where
  abbrev fragments : List (Item P) → List Fragment
  fragments s = Stack.fragments term w s

  abbrev weights : List (Item P) → ℕ
  weights s = Stack.weights term s

  abbrev AreGood : List (Item P) → Type 0
  AreGood s = Stack.AreGood term IsPlace (length w.names) s

  abbrev IsGoodPlace : P → Type 0
  IsGoodPlace at = Stack.IsGoodPlace term IsPlace (length w.names) at

  abbrev Replaces : Item P → List (Item P) → List (Item P) → Type 0
  Replaces item old new = Stack.Replaces term w IsPlace item old new

  abbrev sign_item : ℕ → Item P
  sign_item b = Written (Sign b)

  -- in brackets or without
  abbrev closed : Bool → List (Item P) → List (Item P)
  closed b s = cond b (sign_item 41 ∷ s) s

  abbrev opened : Bool → List (Item P) → List (Item P)
  opened b s = cond b (sign_item 40 ∷ s) s

  opened-fragments : (b : Bool) (ps : List Fragment) (s old : List (Item P)) → fragments s ≡ ps ++ fragments (closed b old)
      → fragments (opened b s) ≡ bracketed b ps ++ fragments old
  opened-fragments true ps s old h = ap (λ x. plain (40 ∷ []) ∷ x) (h ∙ sym (append_assoc ps (plain (41 ∷ []) ∷ []) (fragments old)))
  opened-fragments false ps s old h = h

  opened-weights : (b : Bool) (k : ℕ) (s old : List (Item P)) → weights s ≤ k + weights (closed b old)
      → weights (opened b s) ≤ 2 + k + weights old
  opened-weights true k s old h =
      let e : weights (opened true s) ≡ 1 + weights s = refl in
      let f : weights (closed true old) ≡ 1 + weights old = refl in
      omega (arith, h, e, f)
  opened-weights false k s old h =
      let e : weights (opened false s) ≡ weights s = refl in
      let f : weights (closed false old) ≡ weights old = refl in
      omega (arith, h, e, f)

  closed-good : (b : Bool) (s : List (Item P)) → AreGood s → AreGood (closed b s)
  closed-good true s h = (tt, h)
  closed-good false s h = h

  opened-good : (b : Bool) (s : List (Item P)) → AreGood s → AreGood (opened b s)
  opened-good true s h = (tt, h)
  opened-good false s h = h

  pub good-closed : (b : Bool) (s t : List (Item P)) → t ≡ closed b s → AreGood s → AreGood t
  good-closed b s t e h = subst AreGood (sym e) (closed-good b s h)

  -- what stands in brackets or without replaces an item
  enclosed : (b : Bool) (item : Item P) (ps : List Fragment) (k : ℕ) (old s1 s4 s5 : List (Item P))
      → s1 ≡ closed b old → s5 ≡ opened b s4 → fragments s4 ≡ ps ++ fragments s1 → weights s4 ≤ k + weights s1 → AreGood s4
      → Stack.fragments_of term w item ≡ bracketed b ps → 2 + k < Stack.weight term item
      → Replaces item old s5
  enclosed b item ps k old s1 s4 s5 e1 e5 p4 w4 g4 form less =
      let p : fragments s4 ≡ ps ++ fragments (closed b old) = p4 ∙ ap (λ x. ps ++ fragments x) e1 in
      let v : weights s4 ≤ k + weights (closed b old) = omega (arith, w4, ap weights e1) in
      record {
        same = ap fragments e5 ∙ (opened-fragments b ps s4 old p ∙ ap (λ x. x ++ fragments old) (sym form));
        less = omega (arith, opened-weights b k s4 old v, ap weights e5, less);
        good = subst AreGood (sym e5) (opened-good b s4 g4);
      }

  -- the term of two arguments at a place
  two-at : (at l r : P) (f : Sym) → head (term at) ≡ Struct f 2 → term l ≡ nth_arg (args_of (term at)) 0
      → term r ≡ nth_arg (args_of (term at)) 1
      → term at ≡ node f.0 (arg (term l) (arg (term r) no_args))
  two-at at l r f h hl hr =
      compound-two (term at) f h
      ∙ (ap (λ x. node f.0 (arg x (arg (nth_arg (args_of (term at)) 1) no_args))) (sym hl)
      ∙ ap (λ x. node f.0 (arg (term l) (arg x no_args))) (sym hr))

  one-at : (at l : P) (f : Sym) → head (term at) ≡ Struct f 1 → term l ≡ nth_arg (args_of (term at)) 0
      → term at ≡ node f.0 (arg (term l) no_args)
  one-at at l f h hl = compound-one (term at) f h ∙ ap (λ x. node f.0 (arg x no_args)) (sym hl)

  -- an infix operator
  pub infix-replaces : (at l r : P) (f : Sym) (bound : Bound) (m : Meaning) (b : Bool) (old s1 s2 s3 s4 s5 : List (Item P))
      → head (term at) ≡ Struct f 2 → term l ≡ nth_arg (args_of (term at)) 0 → term r ≡ nth_arg (args_of (term at)) 1
      → Stack.letter w (term at) f.0 ≡ None → notation_of w.ops w.style (name_at w.names f.0) 2 ≡ Infix m
      → b ≡ not (fits bound m) → s1 ≡ closed b old → s2 ≡ Inside r (right_of m) ∷ s1
      → fragments s3 ≡ infix_fragments w.style (name_at w.names f.0) ++ fragments s2 → weights s3 ≤ 3 + weights s2 → AreGood s3
      → s4 ≡ Inside l (left_of m) ∷ s3 → s5 ≡ opened b s4 → IsGoodPlace l
      → Replaces (Inside at bound) old s5
  infix-replaces at l r f bound m b old s1 s2 s3 s4 s5 h hl hr k n eb e1 e2 p3 w3 g3 e4 e5 gl =
      let name = name_at w.names f.0 in
      let t = two-at at l r f h hl hr in
      let fl = Stack.form w (term l) (within (left_of m)) in
      let fr = Stack.form w (term r) (within (right_of m)) in
      let ps = infix_fragments w.style name in
      let form : Stack.form w (term at) (within bound) ≡ bracketed b (fl ++ ps ++ fr) =
      form-compound w (term at) f.0 (term l) (arg (term r) no_args) (within bound) t k
      ∙ (ap (λ nt. compound_form w.style name (Stack.form w (term l) ∷ Stack.form w (term r) ∷ []) nt (within bound)) n
      ∙ ap (λ x. bracketed x (fl ++ ps ++ fr)) (sym eb)) in
      let p4 : fragments s4 ≡ (fl ++ ps ++ fr) ++ fragments s1 =
      ap fragments e4 ∙ (ap (λ x. fl ++ x) (p3 ∙ ap (λ x. ps ++ x) (ap fragments e2))
      ∙ sym (append_assoc (fl ++ ps) fr (fragments s1) ∙ append_assoc fl ps (fr ++ fragments s1))) in
      let work : Stack.work (term at) ≡ 10 + (Stack.work (term l) + 4 + (Stack.work (term r) + 4 + 0)) = ap Stack.work t in
      let a4 : weights s4 ≡ Stack.work (term l) + weights s3 = ap weights e4 in
      let a2 : weights s2 ≡ Stack.work (term r) + weights s1 = ap weights e2 in
      enclosed b (Inside at bound) (fl ++ ps ++ fr) (3 + Stack.work (term l) + Stack.work (term r)) old s1 s4 s5 e1 e5 p4
      (omega (arith, w3, a4, a2)) (subst AreGood (sym e4) (gl, g3)) form (omega (arith, work))

  -- a prefix operator
  pub prefix-replaces : (at r : P) (f : Sym) (bound : Bound) (m : Meaning) (b : Bool) (old s1 s2 s3 s5 : List (Item P))
      → head (term at) ≡ Struct f 1 → term r ≡ nth_arg (args_of (term at)) 0
      → Stack.letter w (term at) f.0 ≡ None → notation_of w.ops w.style (name_at w.names f.0) 1 ≡ Before m
      → b ≡ not (fits bound m) → s1 ≡ closed b old → s2 ≡ Inside r (right_of m) ∷ s1
      → fragments s3 ≡ prefix_fragments w.style (name_at w.names f.0) ++ fragments s2 → weights s3 ≤ 3 + weights s2 → AreGood s3
      → s5 ≡ opened b s3
      → Replaces (Inside at bound) old s5
  prefix-replaces at r f bound m b old s1 s2 s3 s5 h hr k n eb e1 e2 p3 w3 g3 e5 =
      let name = name_at w.names f.0 in
      let t = one-at at r f h hr in
      let fr = Stack.form w (term r) (within (right_of m)) in
      let ps = prefix_fragments w.style name in
      let form : Stack.form w (term at) (within bound) ≡ bracketed b (ps ++ fr) =
      form-compound w (term at) f.0 (term r) no_args (within bound) t k
      ∙ (ap (λ nt. compound_form w.style name (Stack.form w (term r) ∷ []) nt (within bound)) n
      ∙ ap (λ x. bracketed x (ps ++ fr)) (sym eb)) in
      let p : fragments s3 ≡ (ps ++ fr) ++ fragments s1 = p3 ∙ (ap (λ x. ps ++ x) (ap fragments e2) ∙ sym (append_assoc ps fr
      (fragments s1))) in
      let work : Stack.work (term at) ≡ 10 + (Stack.work (term r) + 4 + 0) = ap Stack.work t in
      let a2 : weights s2 ≡ Stack.work (term r) + weights s1 = ap weights e2 in
      enclosed b (Inside at bound) (ps ++ fr) (3 + Stack.work (term r)) old s1 s3 s5 e1 e5 p
      (omega (arith, w3, a2)) g3 form (omega (arith, work))

  -- a postfix operator
  pub postfix-replaces : (at l : P) (f : Sym) (bound : Bound) (m : Meaning) (b : Bool) (old s1 s2 s3 s4 s5 : List (Item P))
      → head (term at) ≡ Struct f 1 → term l ≡ nth_arg (args_of (term at)) 0
      → Stack.letter w (term at) f.0 ≡ None → notation_of w.ops w.style (name_at w.names f.0) 1 ≡ Behind m
      → b ≡ not (fits bound m) → s1 ≡ closed b old → s2 ≡ Written (Name f) ∷ s1 → s3 ≡ sign_item 32 ∷ s2
      → s4 ≡ Inside l (left_of m) ∷ s3 → s5 ≡ opened b s4 → AreGood old → IsGoodPlace l → f.0 < length w.names
      → Replaces (Inside at bound) old s5
  postfix-replaces at l f bound m b old s1 s2 s3 s4 s5 h hl k n eb e1 e2 e3 e4 e5 g gl gf =
      let name = name_at w.names f.0 in
      let t = one-at at l f h hl in
      let fl = Stack.form w (term l) (within (left_of m)) in
      let ps = postfix_fragments w.style name in
      let form : Stack.form w (term at) (within bound) ≡ bracketed b (fl ++ ps) =
      form-compound w (term at) f.0 (term l) no_args (within bound) t k
      ∙ (ap (λ nt. compound_form w.style name (Stack.form w (term l) ∷ []) nt (within bound)) n
      ∙ ap (λ x. bracketed x (fl ++ ps)) (sym eb)) in
      let p3 : fragments s3 ≡ ps ++ fragments s1 = ap fragments e3 ∙ ap (λ x. plain (32 ∷ []) ∷ x) (ap fragments e2) in
      let p4 : fragments s4 ≡ (fl ++ ps) ++ fragments s1 = ap fragments e4 ∙ (ap (λ x. fl ++ x) p3 ∙ sym (append_assoc fl ps
      (fragments s1))) in
      let work : Stack.work (term at) ≡ 10 + (Stack.work (term l) + 4 + 0) = ap Stack.work t in
      let a2 : weights s2 ≡ 1 + weights s1 = ap weights e2 in
      let a3 : weights s3 ≡ 1 + weights s2 = ap weights e3 in
      let a4 : weights s4 ≡ Stack.work (term l) + weights s3 = ap weights e4 in
      let g1 : AreGood s1 = good-closed b old s1 e1 g in
      let g2 : AreGood s2 = subst AreGood (sym e2) (gf, g1) in
      let g3 : AreGood s3 = subst AreGood (sym e3) (tt, g2) in
      enclosed b (Inside at bound) (fl ++ ps) (2 + Stack.work (term l)) old s1 s4 s5 e1 e5 p4 (omega (arith, a2, a3, a4))
      (subst AreGood (sym e4) (gl, g3)) form (omega (arith, work))

  -- a term in braces
  pub braces-replaces : (at a : P) (f : Sym) (bound : Bound) (old s1 s2 s3 : List (Item P))
      → head (term at) ≡ Struct f 1 → term a ≡ nth_arg (args_of (term at)) 0
      → Stack.letter w (term at) f.0 ≡ None → notation_of w.ops w.style (name_at w.names f.0) 1 ≡ Braces
      → s1 ≡ sign_item 125 ∷ old → s2 ≡ Inside a (Whole 1200) ∷ s1 → s3 ≡ sign_item 123 ∷ s2 → AreGood old → IsGoodPlace a
      → Replaces (Inside at bound) old s3
  braces-replaces at a f bound old s1 s2 s3 h ha k n e1 e2 e3 g ga =
      let name = name_at w.names f.0 in
      let t = one-at at a f h ha in
      let fa = Stack.form w (term a) (within (Whole 1200)) in
      let form : Stack.form w (term at) (within bound) ≡ plain (123 ∷ []) ∷ (fa ++ plain (125 ∷ []) ∷ []) =
      form-compound w (term at) f.0 (term a) no_args (within bound) t k
      ∙ ap (λ nt. compound_form w.style name (Stack.form w (term a) ∷ []) nt (within bound)) n in
      let work : Stack.work (term at) ≡ 10 + (Stack.work (term a) + 4 + 0) = ap Stack.work t in
      let a1 : weights s1 ≡ 1 + weights old = ap weights e1 in
      let a2 : weights s2 ≡ Stack.work (term a) + weights s1 = ap weights e2 in
      let a3 : weights s3 ≡ 1 + weights s2 = ap weights e3 in
      let g1 : AreGood s1 = subst AreGood (sym e1) (tt, g) in
      let g2 : AreGood s2 = subst AreGood (sym e2) (ga, g1) in
      let g3 : AreGood s3 = subst AreGood (sym e3) (tt, g2) in
      record {
        same = ap fragments e3 ∙ (ap (λ x. plain (123 ∷ []) ∷ x) (ap fragments e2 ∙ (ap (λ x. fa ++ fragments x) e1
            ∙ sym (append_assoc fa (plain (125 ∷ []) ∷ []) (fragments old))))
            ∙ ap (λ x. x ++ fragments old) (sym form));
        less = omega (arith, a1, a2, a3, work);
        good = g3;
      }

  -- an element and the rest of a list
  pub list-replaces : (at l r : P) (f : Sym) (bound : Bound) (old s1 s2 s3 : List (Item P))
      → head (term at) ≡ Struct f 2 → term l ≡ nth_arg (args_of (term at)) 0 → term r ≡ nth_arg (args_of (term at)) 1
      → Stack.letter w (term at) f.0 ≡ None → notation_of w.ops w.style (name_at w.names f.0) 2 ≡ Listed
      → s1 ≡ Rest r ∷ old → s2 ≡ Inside l argument ∷ s1 → s3 ≡ sign_item 91 ∷ s2 → AreGood old → IsGoodPlace l → IsGoodPlace r
      → Replaces (Inside at bound) old s3
  list-replaces at l r f bound old s1 s2 s3 h hl hr k n e1 e2 e3 g gl gr =
      let name = name_at w.names f.0 in
      let t = two-at at l r f h hl hr in
      let fl = Stack.form w (term l) (within argument) in
      let fr = Stack.form w (term r) rest in
      let form : Stack.form w (term at) (within bound) ≡ plain (91 ∷ []) ∷ (fl ++ fr) =
      form-compound w (term at) f.0 (term l) (arg (term r) no_args) (within bound) t k
      ∙ ap (λ nt. compound_form w.style name (Stack.form w (term l) ∷ Stack.form w (term r) ∷ []) nt (within bound)) n in
      let work : Stack.work (term at) ≡ 10 + (Stack.work (term l) + 4 + (Stack.work (term r) + 4 + 0)) = ap Stack.work t in
      let a1 : weights s1 ≡ (Stack.work (term r) + 3) + weights old = ap weights e1 in
      let a2 : weights s2 ≡ Stack.work (term l) + weights s1 = ap weights e2 in
      let a3 : weights s3 ≡ 1 + weights s2 = ap weights e3 in
      let g1 : AreGood s1 = subst AreGood (sym e1) (gr, g) in
      let g2 : AreGood s2 = subst AreGood (sym e2) (gl, g1) in
      let g3 : AreGood s3 = subst AreGood (sym e3) (tt, g2) in
      record {
        same = ap fragments e3 ∙ (ap (λ x. plain (91 ∷ []) ∷ x) (ap fragments e2 ∙ (ap (λ x. fl ++ fragments x) e1
            ∙ sym (append_assoc fl fr (fragments old))))
            ∙ ap (λ x. x ++ fragments old) (sym form));
        less = omega (arith, a1, a2, a3, work);
        good = g3;
      }

  pub rest-replaces : (at l r : P) (f : Sym) (old s1 s2 s3 : List (Item P))
      → head (term at) ≡ Struct f 2 → term l ≡ nth_arg (args_of (term at)) 0 → term r ≡ nth_arg (args_of (term at)) 1
      → notation_of w.ops w.style (name_at w.names f.0) 2 ≡ Listed
      → s1 ≡ Rest r ∷ old → s2 ≡ Inside l argument ∷ s1 → s3 ≡ sign_item 44 ∷ s2 → AreGood old → IsGoodPlace l → IsGoodPlace r
      → Replaces (Rest at) old s3
  rest-replaces at l r f old s1 s2 s3 h hl hr n e1 e2 e3 g gl gr =
      let name = name_at w.names f.0 in
      let t = two-at at l r f h hl hr in
      let fl = Stack.form w (term l) (within argument) in
      let fr = Stack.form w (term r) rest in
      let k : Stack.letter w (term at) f.0 ≡ None = ap (λ x. Stack.letter w x f.0) t ∙ letter-two w f.0 (term l) (term r) in
      let form : Stack.form w (term at) rest ≡ plain (44 ∷ []) ∷ (fl ++ fr) =
      form-compound w (term at) f.0 (term l) (arg (term r) no_args) rest t k
      ∙ ap (λ nt. compound_form w.style name (Stack.form w (term l) ∷ Stack.form w (term r) ∷ []) nt rest) n in
      let work : Stack.work (term at) ≡ 10 + (Stack.work (term l) + 4 + (Stack.work (term r) + 4 + 0)) = ap Stack.work t in
      let a1 : weights s1 ≡ (Stack.work (term r) + 3) + weights old = ap weights e1 in
      let a2 : weights s2 ≡ Stack.work (term l) + weights s1 = ap weights e2 in
      let a3 : weights s3 ≡ 1 + weights s2 = ap weights e3 in
      let g1 : AreGood s1 = subst AreGood (sym e1) (gr, g) in
      let g2 : AreGood s2 = subst AreGood (sym e2) (gl, g1) in
      let g3 : AreGood s3 = subst AreGood (sym e3) (tt, g2) in
      record {
        same = ap fragments e3 ∙ (ap (λ x. plain (44 ∷ []) ∷ x) (ap fragments e2 ∙ (ap (λ x. fl ++ fragments x) e1
            ∙ sym (append_assoc fl fr (fragments old))))
            ∙ ap (λ x. x ++ fragments old) (sym form));
        less = omega (arith, a1, a2, a3, work);
        good = g3;
      }

  -- a rest that is no list
  pub barred-replaces : (at : P) (old s1 s2 s3 : List (Item P)) → Stack.IsBarred w (term at)
      → s1 ≡ sign_item 93 ∷ old → s2 ≡ Inside at argument ∷ s1 → s3 ≡ sign_item 124 ∷ s2 → AreGood old → IsGoodPlace at
      → Replaces (Rest at) old s3
  barred-replaces at old s1 s2 s3 form e1 e2 e3 g ga =
      let fa = Stack.form w (term at) (within argument) in
      let a1 : weights s1 ≡ 1 + weights old = ap weights e1 in
      let a2 : weights s2 ≡ Stack.work (term at) + weights s1 = ap weights e2 in
      let a3 : weights s3 ≡ 1 + weights s2 = ap weights e3 in
      let g1 : AreGood s1 = subst AreGood (sym e1) (tt, g) in
      let g2 : AreGood s2 = subst AreGood (sym e2) (ga, g1) in
      let g3 : AreGood s3 = subst AreGood (sym e3) (tt, g2) in
      record {
        same = ap fragments e3 ∙ (ap (λ x. plain (124 ∷ []) ∷ x) (ap fragments e2 ∙ (ap (λ x. fa ++ fragments x) e1
            ∙ sym (append_assoc fa (plain (93 ∷ []) ∷ []) (fragments old))))
            ∙ ap (λ x. x ++ fragments old) (sym form));
        less = omega (arith, a1, a2, a3);
        good = g3;
      }

  -- functional notation
  pub functional-replaces : (at a : P) (f : Sym) (k : ℕ) (bound : Bound) (old s1 s2 s3 s4 : List (Item P))
      → head (term at) ≡ Struct f k → term a ≡ nth_arg (args_of (term at)) 0
      → Stack.letter w (term at) f.0 ≡ None → notation_of w.ops w.style (name_at w.names f.0) k ≡ Functional
      → s1 ≡ Further at 1 ∷ old → s2 ≡ Inside a argument ∷ s1 → s3 ≡ sign_item 40 ∷ s2 → s4 ≡ Written (Name f) ∷ s3
      → AreGood old → IsGoodPlace at → IsGoodPlace a
      → Replaces (Inside at bound) old s4
  functional-replaces at a f count bound old s1 s2 s3 s4 h ha k n e1 e2 e3 e4 g gat ga =
      let name = name_at w.names f.0 in
      let ts = Stack.drop_args 1 (args_of (term at)) in
      let c = compound-of (term at) f count h in
      let t : term at ≡ node f.0 (arg (term a) ts) = compound-some (term at) f count h ∙ ap (λ x. node f.0 (arg x ts)) (sym ha) in
      let fa = Stack.form w (term a) in
      let fs = Stack.forms w ts in
      let count-is : suc (arity ts) ≡ count = sym (ap (λ x. arity (args_of x)) t) ∙ c.1 in
      let form : Stack.form w (term at) (within bound)
      ≡ plain (Stack.spelt w f.0) ∷ (plain (40 ∷ []) ∷ (fa (within argument) ++ further fs)) =
      form-compound w (term at) f.0 (term a) ts (within bound) t k
      ∙ (ap (λ (x : ℕ). compound_form w.style name (fa ∷ fs) (notation_of w.ops w.style name x) (within bound)) count-is
      ∙ (ap (λ nt. compound_form w.style name (fa ∷ fs) nt (within bound)) n ∙ functional-form w.style name fa fs bound)) in
      let work : Stack.work (term at) ≡ 10 + (Stack.work (term a) + 4 + Stack.args_work ts) = ap Stack.work t in
      let a1 : weights s1 ≡ (2 + Stack.args_work ts) + weights old = ap weights e1 in
      let a2 : weights s2 ≡ Stack.work (term a) + weights s1 = ap weights e2 in
      let a3 : weights s3 ≡ 1 + weights s2 = ap weights e3 in
      let a4 : weights s4 ≡ 1 + weights s3 = ap weights e4 in
      let some : 1 ≤ arity (args_of (term at)) = omega (arith, c.1, c.2) in
      let named : HasNames (length w.names) (node f.0 (args_of (term at))) =
      subst (λ (x : Term ℕ). HasNames (length w.names) x) c.0 gat.1 in
      let g1 : AreGood s1 = subst AreGood (sym e1) ((gat, some), g) in
      let g2 : AreGood s2 = subst AreGood (sym e2) (ga, g1) in
      let g3 : AreGood s3 = subst AreGood (sym e3) (tt, g2) in
      let g4 : AreGood s4 = subst AreGood (sym e4) (named.0, g3) in
      record {
        same = ap fragments e4 ∙ (ap (λ x. plain (Stack.spelt w f.0) ∷ x) (ap fragments e3 ∙ ap (λ x. plain (40 ∷ []) ∷ x)
            (ap fragments e2 ∙ (ap (λ x. fa (within argument) ++ fragments x) e1
            ∙ sym (append_assoc (fa (within argument)) (further fs) (fragments old)))))
            ∙ ap (λ x. x ++ fragments old) (sym form));
        less = omega (arith, a1, a2, a3, a4, work);
        good = g4;
      }

  -- a further argument
  pub further-replaces : (at a : P) (i : ℕ) (old s1 s2 s3 : List (Item P))
      → i < arity (args_of (term at)) → term a ≡ nth_arg (args_of (term at)) i
      → s1 ≡ Further at (i + 1) ∷ old → s2 ≡ Inside a argument ∷ s1 → s3 ≡ sign_item 44 ∷ s2
      → AreGood old → IsGoodPlace at → IsGoodPlace a
      → Replaces (Further at i) old s3
  further-replaces at a i old s1 s2 s3 l ha e1 e2 e3 g gat ga =
      let ts = Stack.drop_args (i + 1) (args_of (term at)) in
      let t : Stack.drop_args i (args_of (term at)) ≡ arg (term a) ts = drop-some (args_of (term at)) i l ∙ ap (λ x. arg x ts) (sym ha) in
      let fa = Stack.form w (term a) (within argument) in
      let fs = Stack.forms w ts in
      let form : further (Stack.forms w (Stack.drop_args i (args_of (term at)))) ≡ plain (44 ∷ []) ∷ (fa ++ further fs) =
      ap (λ x. further (Stack.forms w x)) t in
      let work : Stack.args_work (Stack.drop_args i (args_of (term at))) ≡ Stack.work (term a) + 4 + Stack.args_work ts =
      ap Stack.args_work t in
      let a1 : weights s1 ≡ (2 + Stack.args_work ts) + weights old = ap weights e1 in
      let a2 : weights s2 ≡ Stack.work (term a) + weights s1 = ap weights e2 in
      let a3 : weights s3 ≡ 1 + weights s2 = ap weights e3 in
      let g1 : AreGood s1 = subst AreGood (sym e1) ((gat, omega (arith, l)), g) in
      let g2 : AreGood s2 = subst AreGood (sym e2) (ga, g1) in
      let g3 : AreGood s3 = subst AreGood (sym e3) (tt, g2) in
      record {
        same = ap fragments e3 ∙ (ap (λ x. plain (44 ∷ []) ∷ x) (ap fragments e2 ∙ (ap (λ x. fa ++ fragments x) e1
            ∙ sym (append_assoc fa (further fs) (fragments old))))
            ∙ ap (λ x. x ++ fragments old) (sym form));
        less = omega (arith, a1, a2, a3, work);
        good = g3;
      }

  -- no further argument
  pub end-replaces : (at : P) (i : ℕ) (old s1 : List (Item P)) → arity (args_of (term at)) ≤ i → s1 ≡ sign_item 41 ∷ old → AreGood old
      → Replaces (Further at i) old s1
  end-replaces at i old s1 l e1 g =
      let t : Stack.drop_args i (args_of (term at)) ≡ no_args = drop-none (args_of (term at)) i l in
      let form : further (Stack.forms w (Stack.drop_args i (args_of (term at)))) ≡ plain (41 ∷ []) ∷ [] =
      ap (λ x. further (Stack.forms w x)) t in
      let work : Stack.args_work (Stack.drop_args i (args_of (term at))) ≡ 0 = ap Stack.args_work t in
      let a1 : weights s1 ≡ 1 + weights old = ap weights e1 in
      record {
        same = ap fragments e1 ∙ ap (λ x. x ++ fragments old) (sym form);
        less = omega (arith, a1, work);
        good = subst AreGood (sym e1) (tt, g);
      }

  -- one fragment
  pub fragment-replaces : (at : P) (bound : Bound) (t : Lexeme) (old s1 : List (Item P))
      → Stack.form w (term at) (within bound) ≡ Stack.fragment_of w t ∷ [] → 1 < Stack.work (term at) → Stack.IsGoodLexeme
      (length w.names) t
      → s1 ≡ Written t ∷ old → AreGood old → Replaces (Inside at bound) old s1
  fragment-replaces at bound t old s1 form l gt e1 g =
      let a1 : weights s1 ≡ 1 + weights old = ap weights e1 in
      record {
        same = ap fragments e1 ∙ ap (λ x. x ++ fragments old) (sym form);
        less = omega (arith, a1, l);
        good = subst AreGood (sym e1) (gt, g);
      }
