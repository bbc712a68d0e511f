-- The lexemes of every written term are the words of an operand, whose row is that of the term: by induction on the term.
use Rattle.std.proofs.Common.{◌≡◌, ◌≤◌, ℕ, ℤ, List, [], ◌∷◌, ◌++◌, Option, Some, None, refl, sym, ◌∙◌, subst, arith}
use Rattle.std.specs.Prelude.{codes}
use Rattle.std.specs.Str.{bytes_eq, IsUtf8}
use Rattle.std.proofs.lemmas.Slice.Eq.{bytes_eq-Decides}
use Rattle.op_logic.proofs.BoolCases.{by_test, if_true, if_false}
use Rattle.op_logic.specs.Term.{Term, var, int, node, Args, no_args, arg, arity}
use Rattle.op_term.specs.Ops.{Table, IsTable, prefix_in, infix_in, postfix_in}
use Rattle.op_term.specs.declared.ops.Meaning.{Meaning}
use Rattle.op_reader.specs.declared.row_kind.RowKind.{RowKind}
use Rattle.op_reader.specs.declared.row_kind.RowKind.TheVariants.{Last}
use Rattle.op_writer.specs.declared.style.Style.{Style}
use Rattle.op_writer.specs.declared.bound.Bound.{Bound}
use Rattle.op_writer.specs.declared.notation.Notation.{Notation}
use Rattle.op_writer.specs.declared.notation.Notation.TheVariants.{List as Listed, Braces, Infix, Prefix, Postfix, Functional}
use Rattle.op_writer.specs.Text.{within, rest, argument, notation_of, binary, unary, is_canonical}
use Rattle.op_readback.specs.ReadBack.{IsSmall}
use Rattle.op_readback.proofs.Lexemes.{Lexeme, sign, compound_lexemes, rest_lexemes, atom_lexemes, lexemes_of, all_lexemes, IsWritten}
use Rattle.op_readback.proofs.Lexemes.{AreWritten}
use Rattle.op_readback.specs.Rows.{limit, row_of, rows_of, notation_row}
use Rattle.op_readback.proofs.OperatorWords.{int-taken}
use Rattle.op_readback.proofs.Operands.{Suits, Takes, Behind}
use Rattle.op_readback.proofs.ArgumentOperands.{Reads, AllRead, functional}
use Rattle.op_readback.proofs.OperatorTerms.{Starts, reads-infix, reads-prefix, reads-postfix}
use Rattle.op_readback.proofs.AtomOperands.{atom-row, reads-atom, starts-atom, reads-braces}
use Rattle.op_readback.proofs.ListOperands.{Tail, empty-tail, barred, further-element, reads-list}
use Rattle.op_readback.proofs.TermBeginnings.{begins-number, starts-one, starts-two, starts-more}

abbrev Text : Type 0
Text = List ℕ

-- names that are written as lists and in braces
binary-listed : (o : Option Meaning) → binary o ≡ Listed → ⊥
binary-listed None h = absurd (cc)
binary-listed (Some m) h = absurd (cc)

unary-braces : (o q : Option Meaning) → unary o q ≡ Braces → ⊥
unary-braces None None h = absurd (cc)
unary-braces None (Some m) h = absurd (cc)
unary-braces (Some m) q h = absurd (cc)

listed-name : (ops : Table) (style : Style) (f : Text) → notation_of ops style f 2 ≡ Listed → f ≡ codes "."
listed-name ops style f h = by_test (bytes_eq f (codes "."))
    (λ e. (bytes_eq-Decides f (codes ".")).0 e)
    (λ e. by_test (is_canonical style)
    (λ c. absurd (let k : Functional ≡ Listed = sym (if_false _ _ _ e ∙ if_true _ _ _ c) ∙ h in cc))
    (λ c. absurd (binary-listed (infix_in ops f) (sym (if_false _ _ _ e ∙ if_false _ _ _ c) ∙ h))))

braces-name : (ops : Table) (style : Style) (f : Text) → notation_of ops style f 1 ≡ Braces → f ≡ codes "{}"
braces-name ops style f h = by_test (bytes_eq f (codes "{}"))
    (λ e. (bytes_eq-Decides f (codes "{}")).0 e)
    (λ e. by_test (is_canonical style)
    (λ c. absurd (let k : Functional ≡ Braces = sym (if_false _ _ _ e ∙ if_true _ _ _ c) ∙ h in cc))
    (λ c. absurd (unary-braces (prefix_in ops f) (postfix_in ops f) (sym (if_false _ _ _ e ∙ if_false _ _ _ c) ∙ h))))

module _ (ops : Table) (table : IsTable ops) (n : ℕ) (style : Style) where
  -- a term's lexemes begin as an operand, are read as its row, and are the rest of a list
  pub record Done (t : Term Text) : Type 0 where
    pub starts : Starts ops table n style t
    pub reads : Reads ops table n style t
    pub tail : Tail ops table n style t (lexemes_of ops style t rest)

  abbrev AllDone : Args Text → Type 0
  AllDone no_args = Unit {0}
  AllDone (arg t ts) = Done t × AllDone ts

  all-read : (ts : Args Text) → AllDone ts → AllRead ops table n style ts
  all-read no_args h = tt
  all-read (arg t ts) h = (h.0.reads, all-read ts h.1)

  tail-suits : Suits Last (limit argument)
  tail-suits = let p : 999 ≤ 999 = omega arith in p

  other-tail : (t : Term Text) → Reads ops table n style t
      → Tail ops table n style t (sign 124 ∷ (lexemes_of ops style t (within argument) ++ sign 93 ∷ []))
  other-tail t r = barred ops table n style t (lexemes_of ops style t (within argument)) (λ ns h. r argument Last tail-suits ns h)

  -- leaves
  number-done : (i : ℤ) → IsSmall i → Done (int i)
  number-done i h =
      let r : Reads ops table n style (int i) = (λ bound c s ns b at e l. int-taken ops table n c i h ns at e l) in
      record { starts = λ bound ns at e l. begins-number ops i h ns bound at e l; reads = r; tail = other-tail (int i) r }

  atom-done : (f : Text) → Done (node f no_args)
  atom-done f =
      let reads : Reads ops table n style (node f no_args) = (λ bound c s ns b at e l.
      subst (Takes ops table n c (atom_lexemes ops f bound) ns) (sym (atom-row (node f no_args) f bound (notation_of ops style f 0)))
      (reads-atom ops table n style f c bound ns b) at e l) in
      record {
        starts = λ bound ns at e l. starts-atom ops table n style f bound ns at e l;
        reads = reads;
        tail = by_test (bytes_eq f (codes "[]"))
            (λ q. subst (Tail ops table n style (node f no_args)) (sym (if_true (bytes_eq f (codes "[]")) _ _ q))
            (empty-tail ops table n style f ((bytes_eq-Decides f (codes "[]")).0 q)))
            (λ q. subst (Tail ops table n style (node f no_args)) (sym (if_false (bytes_eq f (codes "[]")) _ _ q))
            (other-tail (node f no_args) reads));
      }

  -- compounds, by their notation
  abbrev ReadsIn : Text → Term Text → Args Text → Notation → Type 0
  ReadsIn f a ts nt = (bound : Bound) (c : RowKind) → Suits c (limit bound) → (ns : List Lexeme) → Behind ops table n bound ns
      → Takes ops table n c (compound_lexemes f (lexemes_of ops style a ∷ all_lexemes ops style ts) bound nt) ns
      (notation_row (node f (arg a ts)) f (row_of ops style a ∷ rows_of ops style ts) bound nt)

  reads-one : (f : Text) → IsUtf8 f → (a : Term Text) → Done a → (nt : Notation) → notation_of ops style f 1 ≡ nt → ReadsIn f a no_args nt
  reads-one f u a d Braces q bound c s ns h = reads-braces ops table n style f a (braces-name ops style f q) d.starts d.reads c ns
  reads-one f u a d (Prefix m) q bound c s ns h = reads-prefix ops table n style f a m q d.starts d.reads bound c s ns h
  reads-one f u a d (Postfix m) q bound c s ns h = reads-postfix ops table n style f a m q d.reads bound c s ns h
  reads-one f u a d Listed q bound c s ns h = functional ops table n style f u a no_args d.reads tt c ns
  reads-one f u a d (Infix m) q bound c s ns h = functional ops table n style f u a no_args d.reads tt c ns
  reads-one f u a d Functional q bound c s ns h = functional ops table n style f u a no_args d.reads tt c ns

  reads-two : (f : Text) → IsUtf8 f → (a b : Term Text) → Done a → Done b → (nt : Notation) → notation_of ops style f 2 ≡ nt
      → ReadsIn f a (arg b no_args) nt
  reads-two f u a b d k Listed q bound c s ns h =
      reads-list ops table n style f a b (lexemes_of ops style b rest) (listed-name ops style f q) d.starts d.reads k.tail c ns
  reads-two f u a b d k (Infix m) q bound c s ns h = reads-infix ops table n style f a b m q d.reads k.reads bound c s ns h
  reads-two f u a b d k Braces q bound c s ns h = functional ops table n style f u a (arg b no_args) d.reads (k.reads, tt) c ns
  reads-two f u a b d k (Prefix m) q bound c s ns h = functional ops table n style f u a (arg b no_args) d.reads (k.reads, tt) c ns
  reads-two f u a b d k (Postfix m) q bound c s ns h = functional ops table n style f u a (arg b no_args) d.reads (k.reads, tt) c ns
  reads-two f u a b d k Functional q bound c s ns h = functional ops table n style f u a (arg b no_args) d.reads (k.reads, tt) c ns

  reads-more : (f : Text) → IsUtf8 f → (a b e : Term Text) (ts : Args Text) → Done a → AllDone (arg b (arg e ts)) → (nt : Notation)
      → ReadsIn f a (arg b (arg e ts)) nt
  reads-more f u a b e ts d ds nt bound c s ns h =
      functional ops table n style f u a (arg b (arg e ts)) d.reads (all-read (arg b (arg e ts)) ds) c ns

  -- the rest of a list that is a term of two arguments
  abbrev TailIn : Text → Term Text → Term Text → Notation → Type 0
  TailIn f a b nt = Tail ops table n style (node f (arg a (arg b no_args)))
      (rest_lexemes (lexemes_of ops style a ∷ lexemes_of ops style b ∷ []) nt
      (compound_lexemes f (lexemes_of ops style a ∷ lexemes_of ops style b ∷ []) argument nt))

  other-two : (f : Text) (a b : Term Text) → Reads ops table n style (node f (arg a (arg b no_args))) → (nt : Notation)
      → notation_of ops style f 2 ≡ nt
      → Tail ops table n style (node f (arg a (arg b no_args)))
      (sign 124 ∷ (compound_lexemes f (lexemes_of ops style a ∷ lexemes_of ops style b ∷ []) argument nt ++ sign 93 ∷ []))
  other-two f a b r nt q =
      subst (λ (nt : Notation). Tail ops table n style (node f (arg a (arg b no_args)))
      (sign 124 ∷ (compound_lexemes f (lexemes_of ops style a ∷ lexemes_of ops style b ∷ []) argument nt ++ sign 93 ∷ []))) q
      (other-tail (node f (arg a (arg b no_args))) r)

  tail-two : (f : Text) (a b : Term Text) → Done a → Done b → Reads ops table n style (node f (arg a (arg b no_args))) → (nt : Notation)
      → notation_of ops style f 2 ≡ nt → TailIn f a b nt
  tail-two f a b d k r Listed q =
      further-element ops table n style f a b (lexemes_of ops style b rest) (listed-name ops style f q) d.reads k.tail
  tail-two f a b d k r Braces q = other-two f a b r Braces q
  tail-two f a b d k r (Infix m) q = other-two f a b r (Infix m) q
  tail-two f a b d k r (Prefix m) q = other-two f a b r (Prefix m) q
  tail-two f a b d k r (Postfix m) q = other-two f a b r (Postfix m) q
  tail-two f a b d k r Functional q = other-two f a b r Functional q

  one-done : (f : Text) → IsUtf8 f → (a : Term Text) → Done a → Done (node f (arg a no_args))
  one-done f u a d =
      let r : Reads ops table n style (node f (arg a no_args)) = reads-one f u a d (notation_of ops style f 1) refl in
      record {
        starts = starts-one ops table n style f u a d.starts (notation_of ops style f 1) refl;
        reads = r;
        tail = other-tail
            (node f (arg a no_args)) r;
      }

  two-done : (f : Text) → IsUtf8 f → (a b : Term Text) → Done a → Done b → Done (node f (arg a (arg b no_args)))
  two-done f u a b d k =
      let r : Reads ops table n style (node f (arg a (arg b no_args))) = reads-two f u a b d k (notation_of ops style f 2) refl in
      record {
        starts = starts-two ops table n style f u a b d.starts (notation_of ops style f 2);
        reads = r;
        tail = tail-two f a b d k r
            (notation_of ops style f 2) refl;
      }

  more-done : (f : Text) → IsUtf8 f → (a b e : Term Text) (ts : Args Text) → Done a → AllDone (arg b (arg e ts))
      → Done (node f (arg a (arg b (arg e ts))))
  more-done f u a b e ts d ds =
      let t : Term Text = node f (arg a (arg b (arg e ts))) in
      let nt = notation_of ops style f (arity (arg a (arg b (arg e ts)))) in
      let r : Reads ops table n style t = reads-more f u a b e ts d ds nt in
      record { starts = starts-more ops table n style f u a b e ts nt; reads = r; tail = other-tail t r }

  compound-done : (f : Text) → IsUtf8 f → (a : Term Text) (ts : Args Text) → Done a → AllDone ts → Done (node f (arg a ts))
  compound-done f u a no_args d ds = one-done f u a d
  compound-done f u a (arg b no_args) d ds = two-done f u a b d ds.0
  compound-done f u a (arg b (arg e ts)) d ds = more-done f u a b e ts d ds

  mutual
    pub every : (t : Term Text) → IsWritten style t → Done t
    every (var v) h = absurd h
    every (int i) h = number-done i h
    every (node f no_args) h = atom-done f
    every (node f (arg t ts)) h = compound-done f h.0 t ts (every t h.2.0) (all-done ts h.2.1)

    all-done : (ts : Args Text) → AreWritten style ts → AllDone ts
    all-done no_args h = tt
    all-done (arg t ts) h = (every t h.0, all-done ts h.1)
