-- The fragments of a term without variables are those of its lexemes.
use Rattle.std.proofs.Common.{◌≡◌, ℕ, Bool, true, false, not, cond, ◌||◌, ◌&&◌, List, [], ◌∷◌, ◌++◌, map, Option, refl, sym, ◌∙◌, ap}
use Rattle.std.specs.Prelude.{codes}
use Rattle.std.specs.Str.{bytes_eq}
use Rattle.std.proofs.lemmas.List.{append_assoc, map-append}
use Rattle.std.proofs.lemmas.Slice.Eq.{bytes_eq-Decides}
use Rattle.op_logic.proofs.BoolCases.{by_test, if_true, if_false}
use Rattle.op_logic.specs.Term.{Term, var, int, node, Args, no_args, arg, arity}
use Rattle.op_term.specs.Ops.{Table}
use Rattle.op_writer.specs.declared.style.Style.{Style}
use Rattle.op_writer.specs.declared.style.Style.TheVariants.{Quoted}
use Rattle.op_writer.specs.declared.bound.Bound.{Bound}
use Rattle.op_writer.specs.declared.bound.Bound.TheVariants.{Whole}
use Rattle.op_writer.specs.declared.notation.Notation.{Notation}
use Rattle.op_writer.specs.declared.notation.Notation.TheVariants.{List as Listed, Braces, Infix, Prefix, Postfix, Functional}
use Rattle.op_writer.specs.Spelling.{is_symbolic, name_text}
use Rattle.op_writer.specs.Fragments.{Fragment, plain, prefix_operator}
use Rattle.op_writer.specs.Text
use Rattle.op_writer.specs.Text.{Place, within, rest, fits, left_of, right_of, is_operand, argument, is_operator, notation_of}
use Rattle.op_writer.specs.Text.{Form, form_of, forms_of}
use Rattle.op_readback.proofs.Lexemes.{Lexeme, sign, name, lexeme_fragment, LexemeForm, in_brackets, infix_lexemes, prefix_lexemes}
use Rattle.op_readback.proofs.Lexemes.{further_lexemes, functional_lexemes, compound_lexemes, atom_lexemes, atom_form_lexemes}
use Rattle.op_readback.proofs.Lexemes.{compound_form_lexemes, lexemes_of, all_lexemes, IsWritten, AreWritten}

abbrev P : List Lexeme → List Fragment
P ms = map lexeme_fragment ms

module _ (ops : Table) (style : Style) (same : (f : List ℕ) → name_text style f ≡ name_text Quoted f) where
  brackets : (b : Bool) (ps : List Fragment) (ms : List Lexeme) → ps ≡ P ms → Text.bracketed b ps ≡ P (in_brackets b ms)
  brackets true ps ms h =
      ap (λ (x : List Fragment). plain (40 ∷ []) ∷ (x ++ plain (41 ∷ []) ∷ [])) h ∙ ap (λ (x : List Fragment). plain (40 ∷ []) ∷ x)
      (sym (map-append lexeme_fragment ms (sign 41 ∷ [])))
  brackets false ps ms h = h

  named : (f : List ℕ) → Text.sign (name_text style f) ≡ P (name f ∷ [])
  named f = ap Text.sign (same f)

  infixed : (f : List ℕ) → Text.infix_fragments style f ≡ P (infix_lexemes f)
  infixed f = by_test (bytes_eq f (codes ","))
      (λ e. if_true _ _ _ e ∙ (ap Text.sign ((bytes_eq-Decides f (codes ",")).0 e) ∙ sym (ap P (if_true (bytes_eq f (codes ",")) _ _ e))))
      (λ e. if_false _ _ _ e ∙ (ap (λ (x : List ℕ). cond (bytes_eq f (codes ";") || is_symbolic x) (Text.sign x)
      (Text.sign (codes " ") ++ Text.sign x ++ Text.sign (codes " "))) (same f)
      ∙ (narrow ∙ sym (ap P (if_false (bytes_eq f (codes ",")) _ _ e)))))
    where
      narrow : cond (bytes_eq f (codes ";") || is_symbolic (name_text Quoted f)) (Text.sign (name_text Quoted f))
          (Text.sign (codes " ") ++ Text.sign (name_text Quoted f) ++ Text.sign (codes " "))
          ≡ P (cond (bytes_eq f (codes ";") || is_symbolic (name_text Quoted f)) (name f ∷ []) (sign 32 ∷ name f ∷ sign 32 ∷ []))
      narrow = by_test (bytes_eq f (codes ";") || is_symbolic (name_text Quoted f))
          (λ e. if_true _ _ _ e ∙ sym (ap P (if_true (bytes_eq f (codes ";") || is_symbolic (name_text Quoted f)) _ _ e)))
          (λ e. if_false _ _ _ e ∙ sym (ap P (if_false (bytes_eq f (codes ";") || is_symbolic (name_text Quoted f)) _ _ e)))

  prefixed : (f : List ℕ) → Text.prefix_fragments style f ≡ P (prefix_lexemes f)
  prefixed f =
      ap (λ (x : List ℕ). cond (is_symbolic x) (prefix_operator x ∷ []) (Text.sign x ++ Text.sign (codes " "))) (same f)
      ∙ by_test (is_symbolic (name_text Quoted f))
      (λ e. if_true _ _ _ e ∙ sym (ap P (if_true (is_symbolic (name_text Quoted f)) _ _ e)))
      (λ e. if_false _ _ _ e ∙ sym (ap P (if_false (is_symbolic (name_text Quoted f)) _ _ e)))

  -- a form and its lexemes
  abbrev Same : Form → LexemeForm → Type 0
  Same f g = (place : Place) → f place ≡ P (g place)

  abbrev AllSame : List Form → List LexemeForm → Type 0
  AllSame [] [] = Unit {0}
  AllSame (f ∷ fs) (g ∷ gs) = Same f g × AllSame fs gs
  AllSame fs gs = ⊥

  joins : (ps qs : List Fragment) (ms ns : List Lexeme) → ps ≡ P ms → qs ≡ P ns → ps ++ qs ≡ P (ms ++ ns)
  joins ps qs ms ns h g = ap (λ (x : List Fragment). x ++ qs) h ∙ (ap (λ (x : List Fragment). P ms ++ x) g ∙ sym
      (map-append lexeme_fragment ms ns))

  furthers : (fs : List Form) (gs : List LexemeForm) → AllSame fs gs → Text.further fs ≡ P (further_lexemes gs)
  furthers [] [] h = refl
  furthers [] (g ∷ gs) h = absurd h
  furthers (f ∷ fs) [] h = absurd h
  furthers (f ∷ fs) (g ∷ gs) h =
      ap (λ (x : List Fragment). plain (44 ∷ []) ∷ x) (joins (f (within argument)) (Text.further fs) (g (within argument))
      (further_lexemes gs)
      (h.0 (within argument)) (furthers fs gs h.1))

  functionals : (f : List ℕ) (a : Form) (fs : List Form) (b : LexemeForm) (gs : List LexemeForm) → Same a b → AllSame fs gs
      → Text.functional (name_text style f) (a ∷ fs) ≡ P (functional_lexemes f (b ∷ gs))
  functionals f a fs b gs h g =
      ap (λ (x : List ℕ). plain x ∷ (plain (40 ∷ []) ∷ (a (within argument) ++ Text.further fs))) (same f)
      ∙ ap (λ (x : List Fragment). plain (name_text Quoted f) ∷ (plain (40 ∷ []) ∷ x)) (joins (a (within argument)) (Text.further fs)
      (b (within argument)) (further_lexemes gs) (h (within argument)) (furthers fs gs g))

  compounds : (f : List ℕ) (a : Form) (fs : List Form) (b : LexemeForm) (gs : List LexemeForm) (bound : Bound) (nt : Notation)
      → Same a b → AllSame fs gs
      → Text.compound style f (a ∷ fs) bound nt ≡ P (compound_lexemes f (b ∷ gs) bound nt)
  compounds f a [] b [] bound Braces h g =
      joins (plain (123 ∷ []) ∷ a (within (Whole 1200))) (plain (125 ∷ []) ∷ []) (sign 123 ∷ b (within (Whole 1200))) (sign 125 ∷ [])
      (ap (λ (x : List Fragment). plain (123 ∷ []) ∷ x) (h (within (Whole 1200)))) refl
  compounds f a [] b [] bound (Prefix m) h g =
      brackets (not (fits bound m)) _ _ (joins (Text.prefix_fragments style f) (a (within (right_of m))) (prefix_lexemes f)
      (b (within (right_of m))) (prefixed f) (h (within (right_of m))))
  compounds f a [] b [] bound (Postfix m) h g =
      brackets (not (fits bound m)) _ _ (joins (a (within (left_of m))) (Text.postfix_fragments style f) (b (within (left_of m)))
      (sign 32 ∷ name f ∷ []) (h (within (left_of m))) (ap (λ (x : List ℕ). plain (32 ∷ []) ∷ plain x ∷ []) (same f)))
  compounds f a [] b [] bound Listed h g = functionals f a [] b [] h g
  compounds f a [] b [] bound (Infix m) h g = functionals f a [] b [] h g
  compounds f a [] b [] bound Functional h g = functionals f a [] b [] h g
  compounds f a (c ∷ []) b (d ∷ []) bound Listed h g =
      ap (λ (x : List Fragment). plain (91 ∷ []) ∷ x) (joins (a (within argument)) (c rest) (b (within argument)) (d rest)
      (h (within argument)) (g.0 rest))
  compounds f a (c ∷ []) b (d ∷ []) bound (Infix m) h g = brackets (not (fits bound m)) _ _
      (append_assoc (a (within (left_of m))) (Text.infix_fragments style f) (c (within (right_of m)))
      ∙ joins (a (within (left_of m))) (Text.infix_fragments style f ++ c (within (right_of m))) (b (within (left_of m)))
      (infix_lexemes f ++ d (within (right_of m))) (h (within (left_of m)))
      (joins (Text.infix_fragments style f) (c (within (right_of m))) (infix_lexemes f) (d (within (right_of m))) (infixed f)
      (g.0 (within (right_of m)))))
  compounds f a (c ∷ []) b (d ∷ []) bound Braces h g = functionals f a (c ∷ []) b (d ∷ []) h g
  compounds f a (c ∷ []) b (d ∷ []) bound (Prefix m) h g = functionals f a (c ∷ []) b (d ∷ []) h g
  compounds f a (c ∷ []) b (d ∷ []) bound (Postfix m) h g = functionals f a (c ∷ []) b (d ∷ []) h g
  compounds f a (c ∷ []) b (d ∷ []) bound Functional h g = functionals f a (c ∷ []) b (d ∷ []) h g
  compounds f a (c ∷ (x ∷ fs)) b (d ∷ (y ∷ gs)) bound nt h g = functionals f a (c ∷ (x ∷ fs)) b (d ∷ (y ∷ gs)) h g
  compounds f a [] b (d ∷ gs) bound nt h g = absurd g
  compounds f a (c ∷ fs) b [] bound nt h g = absurd g
  compounds f a (c ∷ []) b (d ∷ (y ∷ gs)) bound nt h g = absurd g.1
  compounds f a (c ∷ (x ∷ fs)) b (d ∷ []) bound nt h g = absurd g.1

  barred : (ps : List Fragment) (ms : List Lexeme) → ps ≡ P ms → Text.sign (codes "|") ++ ps ++ Text.sign (codes "]")
      ≡ P (sign 124 ∷ (ms ++ sign 93 ∷ []))
  barred ps ms h = ap (λ (x : List Fragment). plain (124 ∷ []) ∷ x) (joins ps (plain (93 ∷ []) ∷ []) ms (sign 93 ∷ []) h refl)

  others : (f : List ℕ) (a : Form) (fs : List Form) (b : LexemeForm) (gs : List LexemeForm) (nt : Notation) → Same a b → AllSame fs gs
      → Text.sign (codes "|") ++ Text.compound style f (a ∷ fs) argument nt ++ Text.sign (codes "]")
      ≡ P (sign 124 ∷ (compound_lexemes f (b ∷ gs) argument nt ++ sign 93 ∷ []))
  others f a fs b gs nt h g =
      barred (Text.compound style f (a ∷ fs) argument nt) (compound_lexemes f (b ∷ gs) argument nt) (compounds f a fs b gs argument nt h g)

  rests : (f : List ℕ) (a : Form) (fs : List Form) (b : LexemeForm) (gs : List LexemeForm) (nt : Notation) → Same a b → AllSame fs gs
      → Text.compound_form style f (a ∷ fs) nt rest ≡ P (compound_form_lexemes f (b ∷ gs) nt rest)
  rests f a [] b [] nt h g = others f a [] b [] nt h g
  rests f a (c ∷ []) b (d ∷ []) Listed h g =
      ap (λ (x : List Fragment). plain (44 ∷ []) ∷ x) (joins (a (within argument)) (c rest) (b (within argument)) (d rest)
      (h (within argument)) (g.0 rest))
  rests f a (c ∷ []) b (d ∷ []) Braces h g = others f a (c ∷ []) b (d ∷ []) Braces h g
  rests f a (c ∷ []) b (d ∷ []) (Infix m) h g = others f a (c ∷ []) b (d ∷ []) (Infix m) h g
  rests f a (c ∷ []) b (d ∷ []) (Prefix m) h g = others f a (c ∷ []) b (d ∷ []) (Prefix m) h g
  rests f a (c ∷ []) b (d ∷ []) (Postfix m) h g = others f a (c ∷ []) b (d ∷ []) (Postfix m) h g
  rests f a (c ∷ []) b (d ∷ []) Functional h g = others f a (c ∷ []) b (d ∷ []) Functional h g
  rests f a (c ∷ (x ∷ fs)) b (d ∷ (y ∷ gs)) nt h g = others f a (c ∷ (x ∷ fs)) b (d ∷ (y ∷ gs)) nt h g
  rests f a [] b (d ∷ gs) nt h g = absurd g
  rests f a (c ∷ fs) b [] nt h g = absurd g
  rests f a (c ∷ []) b (d ∷ (y ∷ gs)) nt h g = absurd g.1
  rests f a (c ∷ (x ∷ fs)) b (d ∷ []) nt h g = absurd g.1

  atoms : (f : List ℕ) → Same (Text.atom_form ops style f) (atom_form_lexemes ops f)
  atoms f (within bound) = brackets (is_operand bound && is_operator ops f) (Text.sign (name_text style f)) (name f ∷ []) (named f)
  atoms f rest = by_test (bytes_eq f (codes "[]"))
      (λ e. if_true _ _ _ e ∙ sym (ap P (if_true (bytes_eq f (codes "[]")) _ _ e)))
      (λ e. if_false _ _ _ e ∙ (barred (Text.atom_fragments ops style f argument) (atom_lexemes ops f argument)
      (brackets (is_operand argument && is_operator ops f) (Text.sign (name_text style f)) (name f ∷ []) (named f))
      ∙ sym (ap P (if_false (bytes_eq f (codes "[]")) _ _ e))))

  compound-same : (f : List ℕ) (a : Form) (fs : List Form) (b : LexemeForm) (gs : List LexemeForm) (nt : Notation) → Same a b →
      AllSame fs gs
      → Same (Text.compound_form style f (a ∷ fs) nt) (compound_form_lexemes f (b ∷ gs) nt)
  compound-same f a fs b gs nt h g (within bound) = compounds f a fs b gs bound nt h g
  compound-same f a fs b gs nt h g rest = rests f a fs b gs nt h g

  mutual
    pub same-lexemes : (t : Term (List ℕ)) → IsWritten style t → Same (form_of ops style t) (lexemes_of ops style t)
    same-lexemes (var v) h place = absurd h
    same-lexemes (int i) h (within bound) = refl
    same-lexemes (int i) h rest = refl
    same-lexemes (node f no_args) h place = atoms f place
    same-lexemes (node f (arg t ts)) h place =
        ap (λ (o : Option ℕ). Text.named_form ops style f (arg t ts) o (form_of ops style t ∷ forms_of ops style ts) place) h.1
        ∙ compound-same f (form_of ops style t) (forms_of ops style ts) (lexemes_of ops style t) (all_lexemes ops style ts)
        (notation_of ops style f (arity (arg t ts))) (same-lexemes t h.2.0) (all-same-lexemes ts h.2.1) place

    all-same-lexemes : (ts : Args (List ℕ)) → AreWritten style ts → AllSame (forms_of ops style ts) (all_lexemes ops style ts)
    all-same-lexemes no_args h = tt
    all-same-lexemes (arg t ts) h = (same-lexemes t h.0, all-same-lexemes ts h.1)
