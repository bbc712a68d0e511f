-- The lexemes of a written term are lexemes that are written, and no quote follows what it would be read with.
use Rattle.std.proofs.Common.{◌≡◌, ℕ, ℤ, Bool, true, false, not, ◌||◌, ◌&&◌, List, [], ◌∷◌, ◌++◌, refl, sym, ◌∙◌, ap, subst}
use Rattle.std.specs.Prelude.{codes}
use Rattle.std.specs.List.{list_all}
use Rattle.std.specs.Str.{bytes_eq, IsUtf8}
use Rattle.std.proofs.lemmas.List.{append_assoc, append-nil}
use Rattle.std.proofs.lemmas.Slice.Eq.{bytes_eq-Decides}
use Rattle.op_logic.proofs.BoolCases.{by_test, if_true, if_false}
use Rattle.op_logic.specs.Term.{Term, var, int, node, Args, no_args, arg, arity}
use Rattle.op_term.specs.Ops.{Table}
use Rattle.op_writer.specs.declared.style.Style.{Style}
use Rattle.op_writer.specs.declared.style.Style.TheVariants.{Quoted}
use Rattle.op_writer.specs.declared.bound.Bound.{Bound}
use Rattle.op_writer.specs.declared.bound.Bound.TheVariants.{Whole}
use Rattle.op_writer.specs.declared.notation.Notation.{Notation}
use Rattle.op_writer.specs.declared.notation.Notation.TheVariants.{List as Listed, Braces, Infix, Prefix, Postfix, Functional}
use Rattle.op_base.specs.Characters.{is_symbol, is_small, is_word}
use Rattle.op_writer.specs.Spelling.{is_symbolic, is_word_name, is_other_token, is_unquoted, name_text, quoted}
use Rattle.op_writer.specs.Text.{within, rest, fits, left_of, right_of, is_operand, argument, is_operator, notation_of}
use Rattle.op_readback.specs.ReadBack.{IsSmall}
use Rattle.op_readback.proofs.Lexemes.{Lexeme, sign, name, prefix_name, number, LexemeForm, in_brackets, infix_lexemes, prefix_lexemes}
use Rattle.op_readback.proofs.Lexemes.{further_lexemes, functional_lexemes, compound_lexemes, atom_lexemes, atom_form_lexemes}
use Rattle.op_readback.proofs.Lexemes.{compound_form_lexemes, lexemes_of, all_lexemes, IsWritten, AreWritten}
use Rattle.op_readback.proofs.QuotedNames.{and-parts}
use Rattle.op_readback.proofs.NameSpellings.{or-either, by-symbol}
use Rattle.op_readback.proofs.LexemeTexts.{by-name, is_sign, IsLexeme, is_risky, IsClean, unquoted-text, quoted-name-text}
use Rattle.op_readback.proofs.LexemeTokens.{AreLexemes}

-- lexemes that can follow a lexeme that may end in a quote, or one that does not
abbrev pub Fine : Bool → List Lexeme → Type 0
Fine q ms = AreLexemes ms × IsClean q ms

-- lexemes that turn what can follow into what can follow
abbrev pub Maps : Bool → Bool → List Lexeme → Type 0
Maps p q ms = (ns : List Lexeme) → Fine p ns → Fine q (ms ++ ns)

clean-weak : (q : Bool) (ns : List Lexeme) → IsClean true ns → IsClean q ns
clean-weak q [] h = tt
clean-weak q (m ∷ ms) h = ((λ e. absurd (let z : true ≡ false = h.0 e in cc)), h.1)

weak : (q : Bool) (ns : List Lexeme) → Fine true ns → Fine q ns
weak q ns h = (h.0, clean-weak q ns h.1)

pub fine-end : (q : Bool) → Fine q []
fine-end q = (tt, tt)

signs : (p q : Bool) (b : ℕ) (ms : List Lexeme) → is_sign b ≡ true → Maps p false ms → Maps p q (sign b ∷ ms)
signs p q b ms h k ns f = let r = k ns f in ((h, r.0), ((λ e. absurd (let z : false ≡ true = e in cc)), r.1))

nothing : (q : Bool) → Maps q q []
nothing q ns f = f

one-sign : (q : Bool) (b : ℕ) → is_sign b ≡ true → Maps false q (sign b ∷ [])
one-sign q b h = signs false q b [] h (nothing false)

-- a sign may also follow and be followed by lexemes that follow anything
last-sign : (q : Bool) (b : ℕ) → is_sign b ≡ true → Maps true q (sign b ∷ [])
last-sign q b h = signs true q b [] h (λ ns f. weak false ns f)

then : (p q r : Bool) (ms ns : List Lexeme) → Maps q r ms → Maps p q ns → Maps p r (ms ++ ns)
then p q r ms ns k l os f = subst (Fine r) (sym (append_assoc ms ns os)) (k (ns ++ os) (l os f))

names : (f : List ℕ) → IsUtf8 f → Maps true false (name f ∷ [])
names f u ns h = ((u, h.0), ((λ e. refl), clean-weak (is_risky (name f)) ns h.1))

unquoted-names : (p q : Bool) (f : List ℕ) → IsUtf8 f → is_unquoted f ≡ true → (ms : List Lexeme) → Maps p false ms → Maps p q (name f ∷ ms)
unquoted-names p q f u k ms g ns h =
    let r = g ns h in
    let n : not (is_unquoted f) ≡ false = ap not k in
    ((u, r.0), ((λ e. absurd (let z : false ≡ true = sym n ∙ e in cc)), subst (λ (b : Bool). IsClean b (ms ++ ns)) (sym n) r.1))

numbers : (i : ℤ) → IsSmall i → Maps true false (number i ∷ [])
numbers i u ns h = ((u, h.0), ((λ e. refl), h.1))

brackets : (b : Bool) (ms : List Lexeme) → Maps true false ms → Maps true false (in_brackets b ms)
brackets true ms h = signs true false 40 (ms ++ sign 41 ∷ []) refl (then true true false ms (sign 41 ∷ []) h (last-sign true 41 refl))
brackets false ms h = h

-- names whose texts are of symbol characters
not-symbolic : (f : List ℕ) → is_symbolic (quoted f) ≡ false
not-symbolic f = refl

small-symbol : (b : ℕ) → is_symbol b ≡ true → is_small b ≡ false
small-symbol = by-symbol (λ b. is_small b ≡ false) refl refl refl refl refl refl refl refl refl refl refl refl refl refl refl refl refl

word-symbolic : (f : List ℕ) → is_word_name f ≡ true → is_symbolic f ≡ true → ⊥
word-symbolic [] w s = let e : false ≡ true = w in cc
word-symbolic (b ∷ bs) w s =
    let k = (and-parts (is_small b) (list_all is_word bs) w).0 in
    let e = small-symbol b (and-parts (is_symbol b) (list_all is_symbol bs) s).0 in
    let z : true ≡ false = sym k ∙ e in cc

literal-symbolic : {P : Type 0} (f g : List ℕ) → f ≡ g → is_symbolic g ≡ false → is_symbolic f ≡ true → P
literal-symbolic f g e n s = absurd (let z : true ≡ false = sym s ∙ (ap is_symbolic e ∙ n) in cc)

pub symbolic-unquoted : (f : List ℕ) → is_symbolic (name_text Quoted f) ≡ true → is_unquoted f ≡ true
symbolic-unquoted f h =
    by_test (is_unquoted f) (λ e. e) (λ e. absurd (let z : false ≡ true = sym (ap is_symbolic (quoted-name-text f e)
    ∙ not-symbolic f) ∙ h in cc))

symbolic-lexeme : (f : List ℕ) → is_symbolic (name_text Quoted f) ≡ true → IsLexeme (prefix_name f)
symbolic-lexeme f h =
    let u = symbolic-unquoted f h in
    let s : is_symbolic f ≡ true = sym (ap is_symbolic (unquoted-text f u)) ∙ h in
    let r = by-name {P = (is_symbolic f ≡ true) × (is_other_token f ≡ false)} f
    (λ e. literal-symbolic f (codes "[]") e refl s) (λ e. literal-symbolic f (codes "{}") e refl s)
    (λ e. literal-symbolic f (codes "!") e refl s) (λ e. literal-symbolic f (codes ";") e refl s)
    (λ w. absurd (word-symbolic f w s)) (λ a b. (a, b)) u in
    (u, r.0, r.1)

infixes : (f : List ℕ) → IsUtf8 f → Maps false true (infix_lexemes f)
infixes f u = by_test (bytes_eq f (codes ","))
    (λ e. subst (Maps false true) (sym (if_true (bytes_eq f (codes ",")) _ _ e)) (one-sign true 44 refl))
    (λ e. subst (Maps false true) (sym (if_false (bytes_eq f (codes ",")) _ _ e))
    (by_test (bytes_eq f (codes ";") || is_symbolic (name_text Quoted f))
    (λ k. subst (Maps false true) (sym (if_true (bytes_eq f (codes ";") || is_symbolic (name_text Quoted f)) _ _ k))
    (unquoted-names false true f u (or-either _ _ k (λ c. ap is_unquoted ((bytes_eq-Decides f (codes ";")).0 c))
    (λ s. symbolic-unquoted f s)) [] (nothing false)))
    (λ k. subst (Maps false true) (sym (if_false (bytes_eq f (codes ";") || is_symbolic (name_text Quoted f)) _ _ k))
    (signs false true 32 (name f ∷ sign 32 ∷ []) refl (then false true false (name f ∷ []) (sign 32 ∷ []) (names f u)
    (one-sign true 32 refl))))))

prefixes : (f : List ℕ) → IsUtf8 f → Maps false false (prefix_lexemes f)
prefixes f u = by_test (is_symbolic (name_text Quoted f))
    (λ k. subst (Maps false false) (sym (if_true (is_symbolic (name_text Quoted f)) _ _ k))
    (λ ns h. ((symbolic-lexeme f k, h.0), ((λ e. refl), h.1))))
    (λ k. subst (Maps false false) (sym (if_false (is_symbolic (name_text Quoted f)) _ _ k)) (then false true false (name f ∷ [])
    (sign 32 ∷ []) (names f u) (one-sign true 32 refl)))

-- a part within a bound, and as the rest of a list
abbrev Good : LexemeForm → Type 0
Good g = ((bound : Bound) → Maps true false (g (within bound))) × Maps true true (g rest)

abbrev AllGood : List LexemeForm → Type 0
AllGood [] = Unit {0}
AllGood (g ∷ gs) = Good g × AllGood gs

furthers : (gs : List LexemeForm) → AllGood gs → Maps true true (further_lexemes gs)
furthers [] h = last-sign true 41 refl
furthers (g ∷ gs) h =
    signs true true 44 (g (within argument) ++ further_lexemes gs) refl (then true true false (g (within argument)) (further_lexemes gs)
    (h.0.0 argument) (furthers gs h.1))

functionals : (f : List ℕ) → IsUtf8 f → (a : LexemeForm) (gs : List LexemeForm) → Good a → AllGood gs
    → Maps true false (functional_lexemes f (a ∷ gs))
functionals f u a gs h k =
    then true true false (name f ∷ []) (sign 40 ∷ (a (within argument) ++ further_lexemes gs)) (names f u)
    (signs true true 40 (a (within argument) ++ further_lexemes gs) refl (then true true false (a (within argument)) (further_lexemes gs)
    (h.0 argument) (furthers gs k)))

compounds : (f : List ℕ) → IsUtf8 f → (a : LexemeForm) (gs : List LexemeForm) (bound : Bound) (nt : Notation) → Good a → AllGood gs
    → Maps true false (compound_lexemes f (a ∷ gs) bound nt)
compounds f u a [] bound Braces h k =
    signs true false 123 (a (within (Whole 1200)) ++ sign 125 ∷ []) refl (then true true false (a (within (Whole 1200))) (sign 125 ∷ [])
    (h.0 (Whole 1200)) (last-sign true 125 refl))
compounds f u a [] bound (Prefix m) h k =
    brackets (not (fits bound m)) (prefix_lexemes f ++ a (within (right_of m))) (then true false false (prefix_lexemes f)
    (a (within (right_of m))) (prefixes f u) (h.0 (right_of m)))
compounds f u a [] bound (Postfix m) h k = brackets (not (fits bound m)) (a (within (left_of m)) ++ (sign 32 ∷ name f ∷ []))
    (then true true false (a (within (left_of m))) (sign 32 ∷ name f ∷ []) (h.0 (left_of m))
    (signs true true 32 (name f ∷ []) refl (names f u)))
compounds f u a [] bound Listed h k = functionals f u a [] h k
compounds f u a [] bound (Infix m) h k = functionals f u a [] h k
compounds f u a [] bound Functional h k = functionals f u a [] h k
compounds f u a (c ∷ []) bound Listed h k =
    signs true false 91 (a (within argument) ++ c rest) refl (then true true false (a (within argument)) (c rest) (h.0 argument) k.0.1)
compounds f u a (c ∷ []) bound (Infix m) h k =
    brackets (not (fits bound m)) (a (within (left_of m)) ++ (infix_lexemes f ++ c (within (right_of m))))
    (then true true false (a (within (left_of m))) (infix_lexemes f ++ c (within (right_of m))) (h.0 (left_of m))
    (then true false true (infix_lexemes f) (c (within (right_of m))) (infixes f u) (k.0.0 (right_of m))))
compounds f u a (c ∷ []) bound Braces h k = functionals f u a (c ∷ []) h k
compounds f u a (c ∷ []) bound (Prefix m) h k = functionals f u a (c ∷ []) h k
compounds f u a (c ∷ []) bound (Postfix m) h k = functionals f u a (c ∷ []) h k
compounds f u a (c ∷ []) bound Functional h k = functionals f u a (c ∷ []) h k
compounds f u a (c ∷ (x ∷ gs)) bound nt h k = functionals f u a (c ∷ (x ∷ gs)) h k

barred : (ms : List Lexeme) → Maps true false ms → Maps true true (sign 124 ∷ (ms ++ sign 93 ∷ []))
barred ms h = signs true true 124 (ms ++ sign 93 ∷ []) refl (then true true false ms (sign 93 ∷ []) h (last-sign true 93 refl))

rests : (f : List ℕ) → IsUtf8 f → (a : LexemeForm) (gs : List LexemeForm) (nt : Notation) → Good a → AllGood gs
    → Maps true true (compound_form_lexemes f (a ∷ gs) nt rest)
rests f u a [] nt h k = barred (compound_lexemes f (a ∷ []) argument nt) (compounds f u a [] argument nt h k)
rests f u a (c ∷ []) Listed h k =
    signs true true 44 (a (within argument) ++ c rest) refl (then true true false (a (within argument)) (c rest) (h.0 argument) k.0.1)
rests f u a (c ∷ []) Braces h k = barred (compound_lexemes f (a ∷ c ∷ []) argument Braces) (compounds f u a (c ∷ []) argument Braces h k)
rests f u a (c ∷ []) (Infix m) h k =
    barred (compound_lexemes f (a ∷ c ∷ []) argument (Infix m)) (compounds f u a (c ∷ []) argument (Infix m) h k)
rests f u a (c ∷ []) (Prefix m) h k =
    barred (compound_lexemes f (a ∷ c ∷ []) argument (Prefix m)) (compounds f u a (c ∷ []) argument (Prefix m) h k)
rests f u a (c ∷ []) (Postfix m) h k =
    barred (compound_lexemes f (a ∷ c ∷ []) argument (Postfix m)) (compounds f u a (c ∷ []) argument (Postfix m) h k)
rests f u a (c ∷ []) Functional h k =
    barred (compound_lexemes f (a ∷ c ∷ []) argument Functional) (compounds f u a (c ∷ []) argument Functional h k)
rests f u a (c ∷ (x ∷ gs)) nt h k = barred (compound_lexemes f (a ∷ c ∷ x ∷ gs) argument nt)
    (compounds f u a (c ∷ (x ∷ gs)) argument nt h k)

module _ (ops : Table) (style : Style) where
  atoms : (f : List ℕ) → IsUtf8 f → (bound : Bound) → Maps true false (atom_lexemes ops f bound)
  atoms f u bound = brackets (is_operand bound && is_operator ops f) (name f ∷ []) (names f u)

  atom-good : (f : List ℕ) → IsUtf8 f → Good (atom_form_lexemes ops f)
  atom-good f u = (
    (λ bound. atoms f u bound),
    by_test (bytes_eq f (codes "[]"))
        (λ e. subst (Maps true true) (sym (if_true (bytes_eq f (codes "[]")) _ _ e)) (last-sign true 93 refl))
        (λ e. subst (Maps true true) (sym (if_false (bytes_eq f (codes "[]")) _ _ e))
        (barred (atom_lexemes ops f argument) (atoms f u argument))),
  )

  mutual
    pub all-fine : (t : Term (List ℕ)) → IsWritten style t → Good (lexemes_of ops style t)
    all-fine (var v) h = absurd h
    all-fine (int i) h = ((λ bound. numbers i h), barred (number i ∷ []) (numbers i h))
    all-fine (node f no_args) h = atom-good f h.0
    all-fine (node f (arg t ts)) h =
        let nt = notation_of ops style f (arity (arg t ts)) in (
          (λ bound. compounds f h.0 (lexemes_of ops style t) (all_lexemes ops style ts) bound nt (all-fine t h.2.0) (args-fine ts h.2.1)),
          rests f h.0 (lexemes_of ops style t) (all_lexemes ops style ts) nt (all-fine t h.2.0) (args-fine ts h.2.1),
        )

    args-fine : (ts : Args (List ℕ)) → AreWritten style ts → AllGood (all_lexemes ops style ts)
    args-fine no_args h = tt
    args-fine (arg t ts) h = (all-fine t h.0, args-fine ts h.1)

  -- the lexemes of a written term within a bound
  pub fine : (t : Term (List ℕ)) → IsWritten style t → (bound : Bound) → Fine false (lexemes_of ops style t (within bound))
  fine t h bound = subst (Fine false) (append-nil (lexemes_of ops style t (within bound))) ((all-fine t h).0 bound [] (fine-end true))
