-- The brackets of the lexemes of a written term match.
use Rattle.std.proofs.Common.{◌≡◌, ◌+◌, ℕ, ℤ, pos, negsuc, Bool, true, false, not, ◌||◌, ◌&&◌, List, [], ◌∷◌, ◌++◌, None, refl, sym, subst}
use Rattle.std.specs.Prelude.{codes}
use Rattle.std.specs.Str.{bytes_eq}
use Rattle.std.proofs.lemmas.List.{append_assoc, append-nil}
use Rattle.op_logic.proofs.BoolCases.{by_test, if_true, if_false}
use Rattle.op_logic.specs.Term.{Term, var, int, node, Args, no_args, arg, arity}
use Rattle.op_term.specs.Ops.{Table}
use Rattle.op_reader.specs.declared.bracket.Bracket.{Bracket}
use Rattle.op_reader.specs.declared.bracket.Bracket.TheVariants.{Round, Square, Curly}
use Rattle.op_reader.specs.declared.bracket.Opened.{Opened}
use Rattle.op_reader.specs.FirstClause.{unmatched}
use Rattle.op_writer.specs.declared.style.Style.{Style}
use Rattle.op_writer.specs.declared.style.Style.TheVariants.{Quoted}
use Rattle.op_writer.specs.declared.bound.Bound.{Bound}
use Rattle.op_writer.specs.declared.bound.Bound.TheVariants.{Whole}
use Rattle.op_writer.specs.declared.notation.Notation.{Notation}
use Rattle.op_writer.specs.declared.notation.Notation.TheVariants.{List as Listed, Braces, Infix, Prefix, Postfix, Functional}
use Rattle.op_writer.specs.declared.edge.Edge.{Edge}
use Rattle.op_writer.specs.declared.edge.Edge.TheVariants.{Other}
use Rattle.op_writer.specs.Spelling.{is_symbolic, name_text}
use Rattle.op_writer.specs.Fragments.{edge_behind}
use Rattle.op_writer.specs.Text.{within, rest, fits, left_of, right_of, is_operand, argument, is_operator, notation_of}
use Rattle.op_readback.proofs.Lexemes.{Lexeme, sign, name, prefix_name, number, lexeme_fragment, LexemeForm, in_brackets, infix_lexemes}
use Rattle.op_readback.proofs.Lexemes.{prefix_lexemes, further_lexemes, functional_lexemes, compound_lexemes, atom_lexemes}
use Rattle.op_readback.proofs.Lexemes.{atom_form_lexemes, compound_form_lexemes, lexemes_of, all_lexemes, IsWritten, AreWritten}
use Rattle.op_readback.proofs.LexemeTokens.{Known, tokens}
use Rattle.op_readback.proofs.KnownWords.{firsts}
use Rattle.op_readback.proofs.FirstWords.{step, named, by-name-kind}

abbrev T : ℕ → Edge → Bool → List Lexeme → List Known
T = tokens

-- lexemes whose brackets match behind these open ones
abbrev pub Matches : List Opened → List Lexeme → Type 0
Matches os ms = (at : ℕ) (e : Edge) (l : Bool) → unmatched os (firsts (T at e l ms)) ≡ None

-- lexemes that open and close as many, and lexemes that close one more, of a kind
abbrev Even : List Lexeme → Type 0
Even ms = (os : List Opened) (ns : List Lexeme) → Matches os ns → Matches os (ms ++ ns)

abbrev Closes : Bracket → List Lexeme → Type 0
Closes b ms =
    (place : ℕ) (os : List Opened) (ns : List Lexeme) → Matches os ns → Matches (record { bracket = b; place = place } ∷ os) (ms ++ ns)

then : (ms ns : List Lexeme) → Even ms → Even ns → Even (ms ++ ns)
then ms ns f g os qs h = subst (Matches os) (sym (append_assoc ms ns qs)) (f os (ns ++ qs) (g os qs h))

then-closes : (b : Bracket) (ms ns : List Lexeme) → Even ms → Closes b ns → Closes b (ms ++ ns)
then-closes b ms ns f g place os qs h =
    subst (Matches (record { bracket = b; place = place } ∷ os)) (sym (append_assoc ms ns qs))
    (f (record { bracket = b; place = place } ∷ os) (ns ++ qs) (g place os qs h))

nothing : Even []
nothing os ns h = h

space : Even (sign 32 ∷ [])
space os ns h at e l = h (at + 1) Other true

comma : Even (sign 44 ∷ [])
comma os ns h at e l =
    step (λ ks. unmatched os (firsts ks) ≡ None) (sign 44) ns refl at e l (λ at1 l1 _ _ _. h (at1 + 1)
    (edge_behind e (lexeme_fragment (sign 44))) false)

bar : Even (sign 124 ∷ [])
bar os ns h at e l =
    step (λ ks. unmatched os (firsts ks) ≡ None) (sign 124) ns refl at e l (λ at1 l1 _ _ _. h (at1 + 1)
    (edge_behind e (lexeme_fragment (sign 124))) false)

names : (f : List ℕ) → Even (name f ∷ [])
names f os ns h at e l = named (λ ks. unmatched os (firsts ks) ≡ None) f ns at e l
    (λ q a b c d n l1 k. h n (edge_behind e (lexeme_fragment (name f))) false)
    (λ q a b c d n l1 k. h n (edge_behind e (lexeme_fragment (name f))) false)
    (λ kind k a b n l1 x. by-name-kind (λ kind. unmatched os (record { kind = kind; from = a; to = b; layout_before = l1 } ∷ firsts (T n
    (edge_behind e (lexeme_fragment (name f))) false ns)) ≡ None)
    (h n (edge_behind e (lexeme_fragment (name f))) false) (h n (edge_behind e (lexeme_fragment (name f))) false) kind k)

prefix-names : (f : List ℕ) → Even (prefix_name f ∷ [])
prefix-names f os ns h at e l =
    step (λ ks. unmatched os (firsts ks) ≡ None) (prefix_name f) ns refl at e l
    (λ at1 l1 _ _ _. h _ (edge_behind e (lexeme_fragment (prefix_name f))) false)

numbers : (i : ℤ) → Even (number i ∷ [])
numbers (pos k) os ns h at e l =
    step (λ ks. unmatched os (firsts ks) ≡ None) (number (pos k)) ns refl at e l
    (λ at1 l1 _ _ _. h _ (edge_behind e (lexeme_fragment (number (pos k)))) false)
numbers (negsuc k) os ns h at e l =
    step (λ ks. unmatched os (firsts ks) ≡ None) (number (negsuc k)) ns refl at e l
    (λ at1 l1 _ _ _. h _ (edge_behind e (lexeme_fragment (number (negsuc k)))) false)

-- brackets
close-round : Closes Round (sign 41 ∷ [])
close-round place os ns h at e l =
    step (λ ks. unmatched (record { bracket = Round; place = place } ∷ os) (firsts ks) ≡ None) (sign 41) ns refl at e l
    (λ at1 l1 _ _ _. h (at1 + 1) (edge_behind e (lexeme_fragment (sign 41))) false)

close-square : Closes Square (sign 93 ∷ [])
close-square place os ns h at e l =
    step (λ ks. unmatched (record { bracket = Square; place = place } ∷ os) (firsts ks) ≡ None) (sign 93) ns refl at e l
    (λ at1 l1 _ _ _. h (at1 + 1) (edge_behind e (lexeme_fragment (sign 93))) false)

close-curly : Closes Curly (sign 125 ∷ [])
close-curly place os ns h at e l =
    step (λ ks. unmatched (record { bracket = Curly; place = place } ∷ os) (firsts ks) ≡ None) (sign 125) ns refl at e l
    (λ at1 l1 _ _ _. h (at1 + 1) (edge_behind e (lexeme_fragment (sign 125))) false)

in-round : (ms : List Lexeme) → Closes Round ms → Even (sign 40 ∷ ms)
in-round ms f os ns h at e l =
    step (λ ks. unmatched os (firsts ks) ≡ None) (sign 40) (ms ++ ns) refl at e l (λ at1 l1 _ _ _. f at1 os ns h (at1 + 1)
    (edge_behind e (lexeme_fragment (sign 40))) false)

in-square : (ms : List Lexeme) → Closes Square ms → Even (sign 91 ∷ ms)
in-square ms f os ns h at e l =
    step (λ ks. unmatched os (firsts ks) ≡ None) (sign 91) (ms ++ ns) refl at e l (λ at1 l1 _ _ _. f at1 os ns h (at1 + 1)
    (edge_behind e (lexeme_fragment (sign 91))) false)

in-curly : (ms : List Lexeme) → Closes Curly ms → Even (sign 123 ∷ ms)
in-curly ms f os ns h at e l =
    step (λ ks. unmatched os (firsts ks) ≡ None) (sign 123) (ms ++ ns) refl at e l (λ at1 l1 _ _ _. f at1 os ns h (at1 + 1)
    (edge_behind e (lexeme_fragment (sign 123))) false)

brackets : (b : Bool) (ms : List Lexeme) → Even ms → Even (in_brackets b ms)
brackets true ms f = in-round (ms ++ sign 41 ∷ []) (then-closes Round ms (sign 41 ∷ []) f close-round)
brackets false ms f = f

infixes : (f : List ℕ) → Even (infix_lexemes f)
infixes f = by_test (bytes_eq f (codes ","))
    (λ e. subst Even (sym (if_true (bytes_eq f (codes ",")) _ _ e)) comma)
    (λ e. subst Even (sym (if_false (bytes_eq f (codes ",")) _ _ e)) (by_test (bytes_eq f (codes ";") || is_symbolic (name_text Quoted f))
    (λ k. subst Even (sym (if_true (bytes_eq f (codes ";") || is_symbolic (name_text Quoted f)) _ _ k)) (names f))
    (λ k. subst Even (sym (if_false (bytes_eq f (codes ";") || is_symbolic (name_text Quoted f)) _ _ k))
    (then (sign 32 ∷ []) (name f ∷ sign 32 ∷ []) space (then (name f ∷ []) (sign 32 ∷ []) (names f) space)))))

prefixes : (f : List ℕ) → Even (prefix_lexemes f)
prefixes f = by_test (is_symbolic (name_text Quoted f))
    (λ k. subst Even (sym (if_true (is_symbolic (name_text Quoted f)) _ _ k)) (prefix-names f))
    (λ k. subst Even (sym (if_false (is_symbolic (name_text Quoted f)) _ _ k)) (then (name f ∷ []) (sign 32 ∷ []) (names f) space))

-- a part within a bound, and as the rest of a list
abbrev Good : LexemeForm → Type 0
Good g = ((bound : Bound) → Even (g (within bound))) × Closes Square (g rest)

abbrev AllGood : List LexemeForm → Type 0
AllGood [] = Unit {0}
AllGood (g ∷ gs) = Good g × AllGood gs

furthers : (gs : List LexemeForm) → AllGood gs → Closes Round (further_lexemes gs)
furthers [] h = close-round
furthers (g ∷ gs) h =
    then-closes Round (sign 44 ∷ []) (g (within argument) ++ further_lexemes gs) comma (then-closes Round (g (within argument))
    (further_lexemes gs) (h.0.0 argument) (furthers gs h.1))

functionals : (f : List ℕ) (a : LexemeForm) (gs : List LexemeForm) → Good a → AllGood gs → Even (functional_lexemes f (a ∷ gs))
functionals f a gs h k =
    then (name f ∷ []) (sign 40 ∷ (a (within argument) ++ further_lexemes gs)) (names f)
    (in-round (a (within argument) ++ further_lexemes gs) (then-closes Round (a (within argument)) (further_lexemes gs)
    (h.0 argument) (furthers gs k)))

elements : (a c : LexemeForm) → Good a → Good c → Closes Square (a (within argument) ++ c rest)
elements a c h k = then-closes Square (a (within argument)) (c rest) (h.0 argument) k.1

compounds : (f : List ℕ) (a : LexemeForm) (gs : List LexemeForm) (bound : Bound) (nt : Notation) → Good a → AllGood gs
    → Even (compound_lexemes f (a ∷ gs) bound nt)
compounds f a [] bound Braces h k =
    in-curly (a (within (Whole 1200)) ++ sign 125 ∷ []) (then-closes Curly (a (within (Whole 1200))) (sign 125 ∷ [])
    (h.0 (Whole 1200)) close-curly)
compounds f a [] bound (Prefix m) h k =
    brackets (not (fits bound m)) (prefix_lexemes f ++ a (within (right_of m))) (then (prefix_lexemes f) (a (within (right_of m)))
    (prefixes f) (h.0 (right_of m)))
compounds f a [] bound (Postfix m) h k = brackets (not (fits bound m)) (a (within (left_of m)) ++ (sign 32 ∷ name f ∷ []))
    (then (a (within (left_of m))) (sign 32 ∷ name f ∷ []) (h.0 (left_of m)) (then (sign 32 ∷ []) (name f ∷ []) space (names f)))
compounds f a [] bound Listed h k = functionals f a [] h k
compounds f a [] bound (Infix m) h k = functionals f a [] h k
compounds f a [] bound Functional h k = functionals f a [] h k
compounds f a (c ∷ []) bound Listed h k = in-square (a (within argument) ++ c rest) (elements a c h k.0)
compounds f a (c ∷ []) bound (Infix m) h k =
    brackets (not (fits bound m)) (a (within (left_of m)) ++ (infix_lexemes f ++ c (within (right_of m))))
    (then (a (within (left_of m))) (infix_lexemes f ++ c (within (right_of m))) (h.0 (left_of m))
    (then (infix_lexemes f) (c (within (right_of m))) (infixes f) (k.0.0 (right_of m))))
compounds f a (c ∷ []) bound Braces h k = functionals f a (c ∷ []) h k
compounds f a (c ∷ []) bound (Prefix m) h k = functionals f a (c ∷ []) h k
compounds f a (c ∷ []) bound (Postfix m) h k = functionals f a (c ∷ []) h k
compounds f a (c ∷ []) bound Functional h k = functionals f a (c ∷ []) h k
compounds f a (c ∷ (x ∷ gs)) bound nt h k = functionals f a (c ∷ (x ∷ gs)) h k

barred : (ms : List Lexeme) → Even ms → Closes Square (sign 124 ∷ (ms ++ sign 93 ∷ []))
barred ms h = then-closes Square (sign 124 ∷ []) (ms ++ sign 93 ∷ []) bar (then-closes Square ms (sign 93 ∷ []) h close-square)

rests : (f : List ℕ) (a : LexemeForm) (gs : List LexemeForm) (nt : Notation) → Good a → AllGood gs
    → Closes Square (compound_form_lexemes f (a ∷ gs) nt rest)
rests f a [] nt h k = barred (compound_lexemes f (a ∷ []) argument nt) (compounds f a [] argument nt h k)
rests f a (c ∷ []) Listed h k = then-closes Square (sign 44 ∷ []) (a (within argument) ++ c rest) comma (elements a c h k.0)
rests f a (c ∷ []) Braces h k = barred (compound_lexemes f (a ∷ c ∷ []) argument Braces) (compounds f a (c ∷ []) argument Braces h k)
rests f a (c ∷ []) (Infix m) h k = barred (compound_lexemes f (a ∷ c ∷ []) argument (Infix m))
    (compounds f a (c ∷ []) argument (Infix m) h k)
rests f a (c ∷ []) (Prefix m) h k =
    barred (compound_lexemes f (a ∷ c ∷ []) argument (Prefix m)) (compounds f a (c ∷ []) argument (Prefix m) h k)
rests f a (c ∷ []) (Postfix m) h k =
    barred (compound_lexemes f (a ∷ c ∷ []) argument (Postfix m)) (compounds f a (c ∷ []) argument (Postfix m) h k)
rests f a (c ∷ []) Functional h k =
    barred (compound_lexemes f (a ∷ c ∷ []) argument Functional) (compounds f a (c ∷ []) argument Functional h k)
rests f a (c ∷ (x ∷ gs)) nt h k = barred (compound_lexemes f (a ∷ c ∷ x ∷ gs) argument nt) (compounds f a (c ∷ (x ∷ gs)) argument nt h k)

module _ (ops : Table) (style : Style) where
  atoms : (f : List ℕ) (bound : Bound) → Even (atom_lexemes ops f bound)
  atoms f bound = brackets (is_operand bound && is_operator ops f) (name f ∷ []) (names f)

  atom-good : (f : List ℕ) → Good (atom_form_lexemes ops f)
  atom-good f = (
    (λ bound. atoms f bound),
    by_test (bytes_eq f (codes "[]"))
        (λ e. subst (Closes Square) (sym (if_true (bytes_eq f (codes "[]")) _ _ e)) close-square)
        (λ e. subst (Closes Square) (sym (if_false (bytes_eq f (codes "[]")) _ _ e))
        (barred (atom_lexemes ops f argument) (atoms f argument))),
  )

  mutual
    all-even : (t : Term (List ℕ)) → IsWritten style t → Good (lexemes_of ops style t)
    all-even (var v) h = absurd h
    all-even (int i) h = ((λ bound. numbers i), barred (number i ∷ []) (numbers i))
    all-even (node f no_args) h = atom-good f
    all-even (node f (arg t ts)) h =
        let nt = notation_of ops style f (arity (arg t ts)) in (
          (λ bound. compounds f (lexemes_of ops style t) (all_lexemes ops style ts) bound nt (all-even t h.2.0) (args-even ts h.2.1)),
          rests f (lexemes_of ops style t) (all_lexemes ops style ts) nt (all-even t h.2.0) (args-even ts h.2.1),
        )

    args-even : (ts : Args (List ℕ)) → AreWritten style ts → AllGood (all_lexemes ops style ts)
    args-even no_args h = tt
    args-even (arg t ts) h = (all-even t h.0, args-even ts h.1)

  -- the lexemes of a written term within a bound
  pub matching : (t : Term (List ℕ)) → IsWritten style t → (bound : Bound) → Matches [] (lexemes_of ops style t (within bound))
  matching t h bound = subst (Matches []) (append-nil (lexemes_of ops style t (within bound)))
      ((all-even t h).0 bound [] [] (λ at e l. refl))
