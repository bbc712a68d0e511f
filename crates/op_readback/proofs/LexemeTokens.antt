-- The tokens of a written text.
use Rattle.std.proofs.Common.{◌≡◌, ◌<◌, ◌-◌, ◌+◌, ◌^◌, ℕ, suc, ℤ, pos, negsuc, Bool, true, false, not, cond, ◌||◌, ◌&&◌, ◌==◌, List, []}
use Rattle.std.proofs.Common.{◌∷◌, ◌++◌, map, Option, Some, None, length, refl, sym, ◌∙◌, ap, subst, arith, length-append}
use Rattle.std.specs.Prelude.{codes, nat_lt, nat_le, decimal, slice_get}
use Rattle.std.specs.Option.{option_map_or}
use Rattle.std.specs.List.{list_all, flat_map}
use Rattle.std.specs.Str.{bytes_eq, chars, IsUtf8}
use Rattle.std.proofs.lemmas.Bool.{lt-ltb, eqb-true, eq-eqb}
use Rattle.std.proofs.lemmas.List.{append_assoc}
use Rattle.std.proofs.lemmas.Slice.Eq.{bytes_eq-Decides}
use Rattle.op_logic.proofs.BoolCases.{by_test, by_order, if_true, if_false}
use Rattle.op_token.specs.declared.token.Token.{Token}
use Rattle.op_token.specs.declared.token.TokenKind.{TokenKind}
use Rattle.op_token.specs.declared.token.TokenKind.TheVariants.{Name, QuotedName, Integer, OpenRound, CloseRound, OpenSquare, CloseSquare}
use Rattle.op_token.specs.declared.token.TokenKind.TheVariants.{OpenCurly, CloseCurly, Comma, Bar, End}
use Rattle.op_token.specs.declared.spelling.Spelling.{Spelling}
use Rattle.op_token.specs.declared.spelling.Spelling.TheVariants.{Whole}
use Rattle.op_token.specs.declared.set.Set.TheVariants.{Decimal}
use Rattle.op_token.specs.Set.{has, begins_with}
use Rattle.op_token.specs.Spelling.{begins, is_fraction, least_magnitude}
use Rattle.op_token.specs.Tokens.{Lexed, push, is_minus, on_spelling, lex}
use Rattle.op_writer.specs.declared.style.Style.TheVariants.{Quoted}
use Rattle.op_writer.specs.declared.edge.Edge.{Edge}
use Rattle.op_writer.specs.declared.edge.Edge.TheVariants.{Other, Word, Symbol, Prefix, Minus}
use Rattle.op_base.specs.Characters.{is_symbol, is_word, is_small}
use Rattle.op_writer.specs.Spelling.{is_symbolic, is_word_name, is_other_token, is_unquoted, name_text, quoted, escaped}
use Rattle.op_writer.specs.Fragments.{edge_at, edge_of, prefix_edge, edge_behind, is_apart, set_apart, spaced}
use Rattle.op_readback.specs.ReadBack.{IsSmall}
use Rattle.op_readback.proofs.Lexemes.{Lexeme, sign, name, prefix_name, number, lexeme_fragment}
use Rattle.op_readback.proofs.QuotedNames.{and-parts}
use Rattle.op_readback.proofs.NameSpellings.{Stops, or-neither, by-symbol, word-spelled, symbol-spelled, quoted-spelled}
use Rattle.op_readback.proofs.IntegerSpellings.{IsDigits, EndsNumber, decimal-digits, number-spelled}
use Rattle.op_readback.proofs.LexemeTexts.{by-name, by-sign, is_sign, lexeme_text, IsLexeme, starts_quote, is_risky, IsClean, begun}
use Rattle.op_readback.proofs.LexemeTexts.{unquoted-text, quoted-name-text}

-- the last byte of a text
pub last-of : (p : ℕ → Bool) (b : ℕ) (bs : List ℕ) → list_all p (b ∷ bs) ≡ true
    → (x : ℕ) × ((slice_get (b ∷ bs) (length (b ∷ bs) - 1) ≡ Some x) × (p x ≡ true))
last-of p b [] h = (
  b,
  (
    (let e : length (b ∷ []) - 1 ≡ 0 = (let z : length (b ∷ []) ≡ 1 = refl in omega (arith, z)) in ap (slice_get (b ∷ [])) e),
    (and-parts (p b) true h).0,
  ),
)
last-of p b (c ∷ bs) h =
    let k = last-of p c bs (and-parts (p b) (list_all p (c ∷ bs)) h).1 in
    let e : length (b ∷ c ∷ bs) - 1 ≡ suc (length (c ∷ bs) - 1) =
    (let z : length (b ∷ c ∷ bs) ≡ suc (length (c ∷ bs)) = refl in let y : length (c ∷ bs)
    ≡ suc (length bs) = refl in omega (arith, z, y)) in
    (k.0, (ap (slice_get (b ∷ c ∷ bs)) e ∙ k.1.0, k.1.1))

symbol-word : (b : ℕ) → is_symbol b ≡ true → is_word b ≡ false
symbol-word = by-symbol (λ b. is_word b ≡ false) refl refl refl refl refl refl refl refl refl refl refl refl refl refl refl refl refl

word-edge : (b : ℕ) → is_word b ≡ true → edge_at b ≡ Word
word-edge b h =
    if_false (is_symbol b) _ _ (by_test (is_symbol b) (λ e. absurd (let z : true ≡ false = sym h ∙ symbol-word b e in cc)) (λ e. e))
    ∙ if_true (is_word b) _ _ h

symbol-edge : (b : ℕ) → is_symbol b ≡ true → edge_at b ≡ Symbol
symbol-edge b h = if_true (is_symbol b) _ _ h

edge-of-all : (p : ℕ → Bool) (to : Edge) → ((b : ℕ) → p b ≡ true → edge_at b ≡ to) → (e : Edge) (b : ℕ) (bs : List ℕ)
    → list_all p (b ∷ bs) ≡ true → edge_of e (b ∷ bs) ≡ to
edge-of-all p to f e b bs h =
    let k = last-of p b bs h in
    ap (λ (o : Option ℕ). option_map_or edge_at o e) k.1.0 ∙ f k.0 k.1.1

or-first : (a b : Bool) → a ≡ true → (a || b) ≡ true
or-first true b h = refl
or-first false b h = absurd (let e : false ≡ true = h in cc)

or-second : (a b : Bool) → b ≡ true → (a || b) ≡ true
or-second true b h = refl
or-second false b h = h

and-both : (a b : Bool) → a ≡ true → b ≡ true → (a && b) ≡ true
and-both true b h g = g
and-both false b h g = absurd (let e : false ≡ true = h in cc)

small-word : (b : ℕ) → is_small b ≡ true → is_word b ≡ true
small-word b h = or-first _ _ (or-first _ _ (or-first _ _ h))

digit-word : (b : ℕ) → has Decimal b ≡ true → is_word b ≡ true
digit-word b h = or-first _ _ (or-second _ _ h)

word-name-edge : (e : Edge) (f : List ℕ) → is_word_name f ≡ true → edge_of e f ≡ Word
word-name-edge e [] h = absurd (let z : false ≡ true = h in cc)
word-name-edge e (b ∷ bs) h =
    let k = and-parts (is_small b) (list_all is_word bs) h in
    edge-of-all is_word Word word-edge e b bs (and-both (is_word b) (list_all is_word bs) (small-word b k.0) k.1)

symbolic-edge : (e : Edge) (f : List ℕ) → is_symbolic f ≡ true → edge_of e f ≡ Symbol
symbolic-edge e [] h = absurd (let z : false ≡ true = h in cc)
symbolic-edge e (b ∷ bs) h = edge-of-all is_symbol Symbol symbol-edge e b bs h

digits-edge : (e : Edge) (n : ℕ) (ds : List ℕ) → IsDigits n ds → edge_of e ds ≡ Word
digits-edge e n [] d = absurd (omega (arith, d.some))
digits-edge e n (b ∷ bs) d = edge-of-all (has Decimal) Word (λ b h. word-edge b (digit-word b h)) e b bs d.digits

negative-edge : (e : Edge) (n : ℕ) (ds : List ℕ) → IsDigits n ds → edge_of e (45 ∷ ds) ≡ Word
negative-edge e n [] d = absurd (omega (arith, d.some))
negative-edge e n (b ∷ bs) d =
    let i : length (45 ∷ b ∷ bs) - 1 ≡ suc (length (b ∷ bs) - 1) =
    (let z : length (45 ∷ b ∷ bs) ≡ suc (length (b ∷ bs)) = refl in let y : length (b ∷ bs)
    ≡ suc (length bs) = refl in omega (arith, z, y)) in
    ap (λ (o : Option ℕ). option_map_or edge_at o e) (ap (slice_get (45 ∷ b ∷ bs)) i)
    ∙ edge-of-all (has Decimal) Word (λ b h. word-edge b (digit-word b h)) e b bs d.digits

-- what stands behind a lexeme
abbrev pub Apart : Edge → List ℕ → Type 0
Apart e [] = Unit {0}
Apart e (b ∷ bs) = is_apart e b ≡ false

pub record After (e : Edge) (risky : Bool) (rest : List ℕ) : Type 0 where
  pub apart : Apart e rest
  pub quote : risky ≡ true → begins_with 39 rest ≡ false
  pub fraction : is_fraction rest ≡ false

apart-word : (rest : List ℕ) → Apart Word rest → Stops is_word rest
apart-word [] h = tt
apart-word (b ∷ bs) h = h

apart-symbol : (rest : List ℕ) → Apart Symbol rest → Stops is_symbol rest
apart-symbol [] h = tt
apart-symbol (b ∷ bs) h = h

apart-prefix : (f rest : List ℕ) → Apart (prefix_edge f) rest → Stops is_symbol rest
apart-prefix f [] h = tt
apart-prefix f (b ∷ bs) h = by_test (bytes_eq f (codes "-"))
    (λ e. (or-neither (is_symbol b) (b == 40) ((or-neither (is_symbol b || b == 40) (nat_le 48 b && nat_le b 57)
    (subst (λ (x : Edge). is_apart x b ≡ false) (if_true (bytes_eq f (codes "-")) Minus Prefix e) h)).0)).0)
    (λ e. (or-neither (is_symbol b) (b == 40) (subst (λ (x : Edge). is_apart x b ≡ false)
    (if_false (bytes_eq f (codes "-")) Minus Prefix e) h)).0)

-- the tokens of a lexeme, each with the name that it is
abbrev pub Known : Type 0
Known = Token × List ℕ

abbrev pub tok : TokenKind → ℕ → ℕ → Bool → Token
tok kind from to layout = record { kind = kind; from = from; to = to; layout_before = layout }

abbrev pub sign_kind : ℕ → TokenKind
sign_kind b =
    cond (b == 40) OpenRound (cond (b == 41) CloseRound (cond (b == 91) OpenSquare (cond (b == 93) CloseSquare
    (cond (b == 123) OpenCurly (cond (b == 125) CloseCurly (cond (b == 44) Comma Bar))))))

abbrev pub name_tokens : List ℕ → ℕ → Bool → List Known
name_tokens f at l =
    cond (bytes_eq f (codes "[]")) ((tok OpenSquare at (at + 1) l, []) ∷ (tok CloseSquare (at + 1) (at + 2) false, []) ∷ [])
    (cond (bytes_eq f (codes "{}")) ((tok OpenCurly at (at + 1) l, []) ∷ (tok CloseCurly (at + 1) (at + 2) false, []) ∷ [])
    (cond (is_unquoted f) ((tok Name at (at + length f) l, f) ∷ []) ((tok QuotedName at (at + length (quoted f)) l, f) ∷ [])))

abbrev pub lexeme_tokens : Lexeme → ℕ → Bool → List Known
lexeme_tokens (sign b) at l = (tok (sign_kind b) at (at + 1) l, []) ∷ []
lexeme_tokens (name f) at l = name_tokens f at l
lexeme_tokens (prefix_name f) at l = (tok Name at (at + length f) l, f) ∷ []
lexeme_tokens (number (pos n)) at l = (tok (Integer n) at (at + length (decimal n)) l, []) ∷ []
lexeme_tokens (number (negsuc n)) at l =
    (tok Name at (at + 1) l, codes "-") ∷ (tok (Integer (suc n)) (at + 1) (at + 1 + length (decimal (suc n))) false, []) ∷ []

abbrev pub pushes : List Known → Lexed → Lexed
pushes [] r = r
pushes (k ∷ ks) r = push k.0 (pushes ks r)

-- bytes of a token are passed
lex-skip : (at : ℕ) (l minus : Bool) (xs s : List ℕ) → lex at (length xs) l minus (xs ++ s) ≡ lex (at + length xs) 0 l minus s
lex-skip at l minus [] s = ap (λ (n : ℕ). lex n 0 l minus s) (let e : at ≡ at + 0 = omega arith in e)
lex-skip at l minus (x ∷ xs) s =
    lex-skip (suc at) l minus xs s ∙ ap (λ (n : ℕ). lex n 0 l minus s) (let e : suc at + length xs
    ≡ at + length (x ∷ xs) = (let z : length (x ∷ xs) ≡ suc (length xs) = refl in omega (arith, z)) in e)

lex-token : (kind : TokenKind) (b : ℕ) (bs rest : List ℕ) (at : ℕ) (l minus : Bool) (r : Lexed)
    → begins at minus (b ∷ (bs ++ rest)) ≡ Whole kind (at + suc (length bs))
    → ((m : Bool) → lex (at + suc (length bs)) 0 false m rest ≡ r)
    → lex at 0 l minus (b ∷ (bs ++ rest)) ≡ push (tok kind at (at + suc (length bs)) l) r
lex-token kind b bs rest at l minus r h g =
    let m = is_minus kind b (at + suc (length bs) - at) in
    ap (λ (x : Spelling). on_spelling x (λ end. lex (suc at) (end - suc at) true false (bs ++ rest))
    (λ kind end. push (tok kind at end l) (lex (suc at) (end - suc at) false (is_minus kind b (end - at)) (bs ++ rest)))) h
    ∙ ap (push (tok kind at (at + suc (length bs)) l))
    (ap (λ (n : ℕ). lex (suc at) n false m (bs ++ rest)) (let q : at + suc (length bs) - suc at ≡ length bs = omega arith in q)
    ∙ (lex-skip (suc at) false m bs rest ∙ (ap (λ (n : ℕ). lex n 0 false m rest) (let q : suc at + length bs
    ≡ at + suc (length bs) = omega arith in q) ∙ g m)))

-- a text that is not empty
lex-text : (kind : TokenKind) (t rest : List ℕ) (at : ℕ) (l minus : Bool) (r : Lexed) → 0 < length t
    → begins at minus (t ++ rest) ≡ Whole kind (at + length t)
    → ((m : Bool) → lex (at + length t) 0 false m rest ≡ r) → lex at 0 l minus (t ++ rest) ≡ push (tok kind at (at + length t) l) r
lex-text kind [] rest at l minus r some h g = absurd (omega (arith, some))
lex-text kind (b ∷ bs) rest at l minus r some h g = lex-token kind b bs rest at l minus r h g

lex-space : (rest : List ℕ) (at : ℕ) (l minus : Bool) (r : Lexed) → lex (at + 1) 0 true false rest ≡ r → lex at 0 l minus (32 ∷ rest) ≡ r
lex-space rest at l minus r g =
    ap (λ (n : ℕ). lex (suc at) n true false rest) (let q : at + 1 - suc at ≡ 0 = omega arith in q)
    ∙ (ap (λ (n : ℕ). lex n 0 true false rest) (let q : suc at ≡ at + 1 = omega arith in q) ∙ g)

-- each lexeme gives its tokens
abbrev Lexes : Lexeme → Edge → Type 0
Lexes m e = (rest : List ℕ) (at : ℕ) (l minus : Bool) (r : Lexed) → After (edge_behind e (lexeme_fragment m)) (is_risky m) rest
    → ((k : Bool) → lex (at + length (lexeme_text m)) 0 false k rest ≡ r)
    → lex at 0 l minus (lexeme_text m ++ rest) ≡ pushes (lexeme_tokens m at l) r

abbrev SignLexes : ℕ → Type 0
SignLexes b = (b == 32) ≡ false → (rest : List ℕ) (at : ℕ) (l minus : Bool) (r : Lexed)
    → ((k : Bool) → lex (at + 1) 0 false k rest ≡ r) → lex at 0 l minus (b ∷ rest) ≡ push (tok (sign_kind b) at (at + 1) l) r

sign-lexes : (b : ℕ) → is_sign b ≡ true → SignLexes b
sign-lexes = by-sign SignLexes (λ h. absurd (let e : true ≡ false = h in cc))
    (λ _ rest at l minus r g. lex-token OpenRound 40 [] rest at l minus r refl g)
    (λ _ rest at l minus r g. lex-token CloseRound 41 [] rest at l minus r refl g)
    (λ _ rest at l minus r g. lex-token OpenSquare 91 [] rest at l minus r refl g)
    (λ _ rest at l minus r g. lex-token CloseSquare 93 [] rest at l minus r refl g)
    (λ _ rest at l minus r g. lex-token OpenCurly 123 [] rest at l minus r refl g)
    (λ _ rest at l minus r g. lex-token CloseCurly 125 [] rest at l minus r refl g)
    (λ _ rest at l minus r g. lex-token Comma 44 [] rest at l minus r refl g)
    (λ _ rest at l minus r g. lex-token Bar 124 [] rest at l minus r refl g)

-- a lexeme of one token
one-token : (m : Lexeme) (f t rest : List ℕ) (kind : TokenKind) (at : ℕ) (l minus : Bool) (r : Lexed) → lexeme_text m ≡ t
    → lexeme_tokens m at l ≡ (tok kind at (at + length t) l, f) ∷ [] → 0 < length t
    → begins at minus (t ++ rest) ≡ Whole kind (at + length t) → ((k : Bool) → lex (at + length (lexeme_text m)) 0 false k rest ≡ r)
    → lex at 0 l minus (lexeme_text m ++ rest) ≡ pushes (lexeme_tokens m at l) r
one-token m f t rest kind at l minus r e toks some b g =
    ap (λ (x : List ℕ). lex at 0 l minus (x ++ rest)) e
    ∙ (lex-text kind t rest at l minus r some b (λ k. ap (λ (x : List ℕ). lex (at + length x) 0 false k rest) (sym e) ∙ g k)
    ∙ ap (λ (ks : List Known). pushes ks r) (sym toks))

not-pair : (f g : List ℕ) (p : List ℕ → Bool) → p f ≡ true → p g ≡ false → bytes_eq f g ≡ false
not-pair f g p h k =
    by_test (bytes_eq f g) (λ e. absurd (let q : p f ≡ p g = ap p ((bytes_eq-Decides f g).0 e) in let z : true ≡ false = sym h
    ∙ (q ∙ k) in cc)) (λ e. e)

unquoted-token : (f : List ℕ) (at : ℕ) (l : Bool) → bytes_eq f (codes "[]") ≡ false → bytes_eq f (codes "{}") ≡ false
    → is_unquoted f ≡ true → name_tokens f at l ≡ (tok Name at (at + length f) l, f) ∷ []
unquoted-token f at l a b u =
    if_false (bytes_eq f (codes "[]")) _ _ a ∙ (if_false (bytes_eq f (codes "{}")) _ _ b ∙ if_true (is_unquoted f) _ _ u)

some-length : (b : ℕ) (bs f : List ℕ) → f ≡ b ∷ bs → 0 < length f
some-length b bs f e = let z : length f ≡ suc (length bs) = ap length e in omega (arith, z)

pair-lexes : (f : List ℕ) (a b : ℕ) (ka kb : TokenKind) → name_text Quoted f ≡ a ∷ b ∷ []
    → ((at : ℕ) (l : Bool) → name_tokens f at l ≡ (tok ka at (at + 1) l, []) ∷ (tok kb (at + 1) (at + 2) false, []) ∷ [])
    → ((at : ℕ) (minus : Bool) (s : List ℕ) → begins at minus (a ∷ s) ≡ Whole ka (at + 1))
    → ((at : ℕ) (minus : Bool) (s : List ℕ) → begins at minus (b ∷ s) ≡ Whole kb (at + 1)) → (e : Edge) → Lexes (name f) e
pair-lexes f a b ka kb text toks first second e rest at l minus r after g =
    ap (λ (x : List ℕ). lex at 0 l minus (x ++ rest)) text
    ∙ (lex-token ka a [] (b ∷ rest) at l minus (push (tok kb (at + 1) (at + 2) false) r) (first at minus (b ∷ rest))
    (λ m. lex-token kb b [] rest (at + 1) false m r (second (at + 1) m rest)
    (λ k. ap (λ (n : ℕ). lex n 0 false k rest) (let q : at + 1 + 1 ≡ at + 2 = omega arith in q)
    ∙ (ap (λ (x : List ℕ). lex (at + length x) 0 false k rest) (sym text) ∙ g k))
    ∙ ap (λ (n : ℕ). push (tok kb (at + 1) n false) r) (let q : at + 1 + 1 ≡ at + 2 = omega arith in q))
    ∙ ap (λ (ks : List Known). pushes ks r) (sym (toks at l)))

name-lexes : (f : List ℕ) → IsUtf8 f → (e : Edge) → Lexes (name f) e
name-lexes f u e = by_test (is_unquoted f)
    (λ q. by-name f
    (λ p. pair-lexes f 91 93 OpenSquare CloseSquare (ap (name_text Quoted) p) (λ at l. ap (λ (x : List ℕ). name_tokens x at l) p)
    (λ at minus s. refl) (λ at minus s. refl) e)
    (λ p. pair-lexes f 123 125 OpenCurly CloseCurly (ap (name_text Quoted) p) (λ at l. ap (λ (x : List ℕ). name_tokens x at l) p)
    (λ at minus s. refl) (λ at minus s. refl) e)
    (λ p rest at l minus r after g. one-token (name f) f f rest Name at l minus r (unquoted-text f q)
    (ap (λ (x : List ℕ). name_tokens x at l) p ∙ ap (λ (x : List ℕ). (tok Name at (at + length x) l, x) ∷ [])
    (sym p)) (some-length 33 [] f p)
    (ap (λ (x : List ℕ). begins at minus (x ++ rest)) p ∙ ap (λ (x : List ℕ). Whole Name (at + length x)) (sym p)) g)
    (λ p rest at l minus r after g. one-token (name f) f f rest Name at l minus r (unquoted-text f q)
    (ap (λ (x : List ℕ). name_tokens x at l) p ∙ ap (λ (x : List ℕ). (tok Name at (at + length x) l, x) ∷ [])
    (sym p)) (some-length 59 [] f p)
    (ap (λ (x : List ℕ). begins at minus (x ++ rest)) p ∙ ap (λ (x : List ℕ). Whole Name (at + length x)) (sym p)) g)
    (λ w rest at l minus r after g. one-token (name f) f f rest Name at l minus r (unquoted-text f q)
    (unquoted-token f at l (not-pair f (codes "[]") is_word_name w refl) (not-pair f (codes "{}") is_word_name w refl) q) (word-some f w)
    (word-spelled f rest at minus w (apart-word rest (subst (λ (x : Edge). Apart x rest) (ap (edge_of e) (unquoted-text f q)
    ∙ word-name-edge e f w) after.apart))) g)
    (λ s o rest at l minus r after g. one-token (name f) f f rest Name at l minus r (unquoted-text f q)
    (unquoted-token f at l (not-pair f (codes "[]") is_symbolic s refl) (not-pair f (codes "{}") is_symbolic s refl) q) (symbolic-some f s)
    (symbol-spelled f rest at minus s o (apart-symbol rest (subst (λ (x : Edge). Apart x rest) (ap (edge_of e) (unquoted-text f q)
    ∙ symbolic-edge e f s) after.apart))) g)
    q)
    (λ q rest at l minus r after g. one-token (name f) f (quoted f) rest QuotedName at l minus r (quoted-name-text f q)
    (if_false (bytes_eq f (codes "[]")) _ _ (not-pair-no f (codes "[]") q refl)
    ∙ (if_false (bytes_eq f (codes "{}")) _ _ (not-pair-no f (codes "{}") q refl) ∙ if_false (is_unquoted f) _ _ q))
    (let z : length (quoted f) ≡ suc (length (flat_map escaped (chars f) ++ codes "'")) = refl in omega (arith, z))
    (quoted-spelled f rest at minus u (after.quote (ap not q))) g)
  where
    word-some : (f : List ℕ) → is_word_name f ≡ true → 0 < length f
    word-some [] h = absurd (let e : false ≡ true = h in cc)
    word-some (b ∷ bs) h = some-length b bs (b ∷ bs) refl

    symbolic-some : (f : List ℕ) → is_symbolic f ≡ true → 0 < length f
    symbolic-some [] h = absurd (let e : false ≡ true = h in cc)
    symbolic-some (b ∷ bs) h = some-length b bs (b ∷ bs) refl

    not-pair-no : (f g : List ℕ) → is_unquoted f ≡ false → is_unquoted g ≡ true → bytes_eq f g ≡ false
    not-pair-no f g h k =
        by_test (bytes_eq f g) (λ e. absurd (let q : is_unquoted f ≡ is_unquoted g = ap is_unquoted
        ((bytes_eq-Decides f g).0 e) in let z : false ≡ true = sym h ∙ (q ∙ k) in cc)) (λ e. e)

prefix-lexes : (f : List ℕ) → (is_unquoted f ≡ true) × (is_symbolic f ≡ true) × (is_other_token f ≡ false) → (e : Edge)
    → Lexes (prefix_name f) e
prefix-lexes f h e rest at l minus r after g = one-token (prefix_name f) f f rest Name at l minus r (unquoted-text f h.0) refl (some f h.1)
    (symbol-spelled f rest at minus h.1 h.2 (apart-prefix (name_text Quoted f) rest after.apart)) g
  where
    some : (f : List ℕ) → is_symbolic f ≡ true → 0 < length f
    some [] h = absurd (let e : false ≡ true = h in cc)
    some (b ∷ bs) h = some-length b bs (b ∷ bs) refl

digits-stop : (n : ℕ) (ds rest : List ℕ) → IsDigits n ds → Stops is_symbol (ds ++ rest)
digits-stop n [] rest d = absurd (omega (arith, d.some))
digits-stop n (b ∷ bs) rest d =
    let k = digit-word b (and-parts (has Decimal b) (list_all (has Decimal) bs) d.digits).0 in
    by_test (is_symbol b) (λ e. absurd (let z : false ≡ true = sym (symbol-word b e) ∙ k in cc)) (λ e. e)

lex-minus : (rest : List ℕ) (at : ℕ) (l minus : Bool) (r : Lexed) → Stops is_symbol rest → lex (at + 1) 0 false true rest ≡ r
    → lex at 0 l minus (45 ∷ rest) ≡ push (tok Name at (at + 1) l) r
lex-minus rest at l minus r stop g =
    ap (λ (x : Spelling). on_spelling x (λ end. lex (suc at) (end - suc at) true false rest)
    (λ kind end. push (tok kind at end l) (lex (suc at) (end - suc at) false (is_minus kind 45 (end - at)) rest)))
    (symbol-spelled (45 ∷ []) rest at minus refl refl stop)
    ∙ ap (push (tok Name at (at + 1) l))
    (ap (λ (n : ℕ). lex (suc at) n false (is_minus Name 45 (at + 1 - at)) rest) (let q : at + 1 - suc at ≡ 0 = omega arith in q)
    ∙ (ap (λ (n : ℕ). lex (suc at) 0 false (is_minus Name 45 n) rest) (let q : at + 1 - at ≡ 1 = omega arith in q)
    ∙ (ap (λ (n : ℕ). lex n 0 false true rest) (let q : suc at ≡ at + 1 = omega arith in q) ∙ g)))

number-lexes : (i : ℤ) → IsSmall i → (e : Edge) → Lexes (number i) e
number-lexes (pos n) h e rest at l minus r after g =
    let small : n < 2 ^ 63 = h in
    let fit : n < 2 ^ 64 = omega (arith, small) in
    let d = decimal-digits n fit in
    let ends : EndsNumber rest = record {
      no-word = apart-word rest (subst (λ (x : Edge). Apart x rest)
          (digits-edge e n (decimal n) d) after.apart);
      no-quote = after.quote refl;
      no-fraction = after.fraction;
    } in
    lex-text (Integer n) (decimal n) rest at l minus r d.some (number-spelled n rest at minus fit ends
    (or-first _ _ (lt-ltb n least_magnitude (omega (arith, small))))) g
number-lexes (negsuc n) h e rest at l minus r after g =
    let small : n < 2 ^ 63 = h in
    let fit : suc n < 2 ^ 64 = omega (arith, small) in
    let d = decimal-digits (suc n) fit in
    let ends : EndsNumber rest = record {
      no-word = apart-word rest (subst (λ (x : Edge). Apart x rest)
          (negative-edge e (suc n) (decimal (suc n)) d) after.apart);
      no-quote = after.quote refl;
      no-fraction = after.fraction;
    } in
    let ok : (nat_lt (suc n) least_magnitude || (true && suc n == least_magnitude)) ≡ true = by_order (suc n) least_magnitude
    (λ l. or-first _ _ (lt-ltb (suc n) least_magnitude l))
    (λ l. or-second _ _ (eq-eqb (suc n) least_magnitude (omega (arith, l, small)))) in
    lex-minus (decimal (suc n) ++ rest) at l minus (push (tok (Integer (suc n)) (at + 1) (at + 1 + length (decimal (suc n))) false) r)
    (digits-stop (suc n) (decimal (suc n)) rest d)
    (lex-text (Integer (suc n)) (decimal (suc n)) rest (at + 1) false true r d.some (number-spelled (suc n) rest (at + 1) true fit ends ok)
    (λ k. ap (λ (x : ℕ). lex x 0 false k rest) (let z : length (45 ∷ decimal (suc n))
    ≡ suc (length (decimal (suc n))) =
    refl in let q : at + 1 + length (decimal (suc n)) ≡ at + length (45 ∷ decimal (suc n)) = omega (arith, z) in q) ∙ g k))

-- lexemes that are no spaces
abbrev pub is_space : Lexeme → Bool
is_space (sign b) = b == 32
is_space m = false

lexeme-lexes : (m : Lexeme) → IsLexeme m → is_space m ≡ false → (e : Edge) → Lexes m e
lexeme-lexes (sign b) h n e = λ rest at l minus r after g. sign-lexes b h n rest at l minus r g
lexeme-lexes (name f) h n e = name-lexes f h e
lexeme-lexes (prefix_name f) h n e = prefix-lexes f h e
lexeme-lexes (number i) h n e = number-lexes i h e

-- the tokens of lexemes, behind a text that ends so
abbrev pub gap : Edge → List ℕ → Bool
gap e [] = false
gap e (b ∷ bs) = is_apart e b

abbrev pub tokens : ℕ → Edge → Bool → List Lexeme → List Known
tokens at e l [] = []
tokens at e l (m ∷ ms) =
    cond (is_space m) (tokens (at + 1) Other true ms)
    (cond (gap e (lexeme_text m))
    (lexeme_tokens m (at + 1) true ++ tokens (at + 1 + length (lexeme_text m)) (edge_behind e (lexeme_fragment m)) false ms)
    (lexeme_tokens m at l ++ tokens (at + length (lexeme_text m)) (edge_behind e (lexeme_fragment m)) false ms))

abbrev pub AreLexemes : List Lexeme → Type 0
AreLexemes [] = Unit {0}
AreLexemes (m ∷ ms) = IsLexeme m × AreLexemes ms

-- the text of lexemes, with the space and the full stop behind it
abbrev pub ended : Edge → List Lexeme → List ℕ
ended e ms = spaced e (map lexeme_fragment ms) ++ 32 ∷ 46 ∷ []

pub space-apart : (e : Edge) → is_apart e 32 ≡ false
space-apart Other = refl
space-apart Word = refl
space-apart Symbol = refl
space-apart Prefix = refl
space-apart Minus = refl

-- what stands behind a lexeme
pub behind : (e : Edge) (q : Bool) (ms : List Lexeme) → AreLexemes ms → IsClean q ms → After e q (ended e ms)
behind e q [] h c = record { apart = space-apart e; quote = λ _. refl; fraction = refl }
behind e q (m ∷ ms) h c =
    let b = begun m h.0 in
    let more = spaced (edge_behind e (lexeme_fragment m)) (map lexeme_fragment ms) in
    let tail : List ℕ = 32 ∷ 46 ∷ [] in
    by_test (is_apart e b.first)
    (λ k. subst (After e q) (sym (ap (λ (x : List ℕ). (set_apart e x ++ more) ++ tail) b.bytes
    ∙ ap (λ (x : List ℕ). (x ++ more) ++ tail) (if_true (is_apart e b.first) (32 ∷ b.first ∷ b.more) (b.first ∷ b.more) k)))
    (record { apart = space-apart e; quote = λ _. refl; fraction = refl }))
    (λ k. subst (After e q) (sym (ap (λ (x : List ℕ). (set_apart e x ++ more) ++ tail) b.bytes
    ∙ ap (λ (x : List ℕ). (x ++ more) ++ tail) (if_false (is_apart e b.first) (32 ∷ b.first ∷ b.more) (b.first ∷ b.more) k)))
    (record {
      apart = k;
      quote = λ r. b.quote (by_test (starts_quote m) (λ y. absurd (let z : true ≡ false = sym r ∙ c.0 y in cc)) (λ y. y));
      fraction =
          subst (λ (x : List ℕ). is_fraction (b.first ∷ x) ≡ false) (sym (append_assoc b.more more tail)) (b.fraction (more ++ tail));
    }))

abbrev pub end_token : ℕ → Token
end_token n = tok End (n + 1) (n + 2) true

abbrev pub whole : ℕ → Edge → Bool → List Lexeme → Lexed
whole at e l ms =
    pushes (tokens at e l ms) (push (end_token (at + length (spaced e (map lexeme_fragment ms)))) (record { tokens = []; fault = None }))

pushes-append : (ks js : List Known) (r : Lexed) → pushes (ks ++ js) r ≡ pushes ks (pushes js r)
pushes-append [] js r = refl
pushes-append (k ∷ ks) js r = ap (push k.0) (pushes-append ks js r)

pub set-apart-is : (e : Edge) (t : List ℕ) → set_apart e t ≡ cond (gap e t) (32 ∷ t) t
set-apart-is e [] = refl
set-apart-is e (b ∷ bs) = refl

abbrev ending : ℕ → Lexed
ending n = push (end_token n) (record { tokens = []; fault = None })

-- a lexeme that is no space, with or without a space before it
step : (m : Lexeme) (ms : List Lexeme) → IsLexeme m → is_space m ≡ false → (e : Edge)
    → After (edge_behind e (lexeme_fragment m)) (is_risky m) (ended (edge_behind e (lexeme_fragment m)) ms)
    → ((at : ℕ) (l minus : Bool) → lex at 0 l minus (ended (edge_behind e (lexeme_fragment m)) ms) ≡ whole at
    (edge_behind e (lexeme_fragment m)) l ms)
    → (at : ℕ) (l minus : Bool) → lex at 0 l minus (ended e (m ∷ ms)) ≡ whole at e l (m ∷ ms)
step m ms h n e after rest at l minus =
    let t = lexeme_text m in
    let e2 = edge_behind e (lexeme_fragment m) in
    let more = spaced e2 (map lexeme_fragment ms) in
    let tail : List ℕ = 32 ∷ 46 ∷ [] in
    let split : (x : List ℕ) → set_apart e t ≡ x → ended e (m ∷ ms) ≡ x ++ (more ++ tail) =
    (λ x q. ap (λ (y : List ℕ). (y ++ more) ++ tail) q ∙ append_assoc x more tail) in
    let size : (x : List ℕ) → set_apart e t ≡ x → length (spaced e (map lexeme_fragment (m ∷ ms))) ≡ length x + length more =
    (λ x q. ap (λ (y : List ℕ). length (y ++ more)) q ∙ length-append x more) in
    by_test (gap e t)
    (λ k.
    let q = set-apart-is e t ∙ if_true (gap e t) (32 ∷ t) t k in
    let toks : tokens at e l (m ∷ ms) ≡ lexeme_tokens m (at + 1) true ++ tokens (at + 1 + length t) e2 false ms =
    if_false (is_space m) _ _ n ∙ if_true (gap e t) _ _ k in
    let place : at + 1 + length t + length more ≡ at + length (spaced e (map lexeme_fragment (m ∷ ms))) =
    (let z = size (32 ∷ t) q in let y : length (32 ∷ t) ≡ suc (length t) = refl in omega (arith, z, y)) in
    ap (lex at 0 l minus) (split (32 ∷ t) q)
    ∙ (lex-space (t ++ (more ++ tail)) at l minus _ (lexeme-lexes m h n e (more ++ tail) (at + 1) true false _ after
    (λ j. rest (at + 1 + length t) false j))
    ∙ (ap (λ (x : ℕ). pushes (lexeme_tokens m (at + 1) true) (pushes (tokens (at + 1 + length t) e2 false ms) (ending x))) place
    ∙ (sym (pushes-append (lexeme_tokens m (at + 1) true) (tokens (at + 1 + length t) e2 false ms)
    (ending (at + length (spaced e (map lexeme_fragment (m ∷ ms))))))
    ∙ ap (λ (ks : List Known). pushes ks (ending (at + length (spaced e (map lexeme_fragment (m ∷ ms)))))) (sym toks)))))
    (λ k.
    let q = set-apart-is e t ∙ if_false (gap e t) (32 ∷ t) t k in
    let toks : tokens at e l (m ∷ ms) ≡ lexeme_tokens m at l ++ tokens (at + length t) e2 false ms =
    if_false (is_space m) _ _ n ∙ if_false (gap e t) _ _ k in
    let place : at + length t + length more ≡ at + length (spaced e (map lexeme_fragment (m ∷ ms))) = (let z = size t q in omega
    (arith, z)) in
    ap (lex at 0 l minus) (split t q)
    ∙ (lexeme-lexes m h n e (more ++ tail) at l minus _ after (λ j. rest (at + length t) false j)
    ∙ (ap (λ (x : ℕ). pushes (lexeme_tokens m at l) (pushes (tokens (at + length t) e2 false ms) (ending x))) place
    ∙ (sym (pushes-append (lexeme_tokens m at l) (tokens (at + length t) e2 false ms)
    (ending (at + length (spaced e (map lexeme_fragment (m ∷ ms))))))
    ∙ ap (λ (ks : List Known). pushes ks (ending (at + length (spaced e (map lexeme_fragment (m ∷ ms)))))) (sym toks)))))

space-step : (ms : List Lexeme) (e : Edge) → ((at : ℕ) (l minus : Bool) → lex at 0 l minus (ended Other ms) ≡ whole at Other l ms)
    → (at : ℕ) (l minus : Bool) → lex at 0 l minus (ended e (sign 32 ∷ ms)) ≡ whole at e l (sign 32 ∷ ms)
space-step ms e rest at l minus =
    let more = spaced Other (map lexeme_fragment ms) in
    let q : spaced e (map lexeme_fragment (sign 32 ∷ ms)) ≡ 32 ∷ more =
    ap (λ (x : List ℕ). x ++ more) (if_false (is_apart e 32) (32 ∷ 32 ∷ []) (32 ∷ []) (space-apart e)) in
    ap (λ (x : List ℕ). lex at 0 l minus (x ++ 32 ∷ 46 ∷ [])) q
    ∙ (lex-space (more ++ 32 ∷ 46 ∷ []) at l minus _ (rest (at + 1) true false)
    ∙ ap (λ (n : ℕ). pushes (tokens (at + 1) Other true ms) (ending n)) (let z : length (spaced e (map lexeme_fragment (sign 32 ∷ ms)))
    ≡ suc (length more) = ap length q in
    let p : at + 1 + length more ≡ at + length (spaced e (map lexeme_fragment (sign 32 ∷ ms))) = omega (arith, z) in p))

spaced-out : (m : Lexeme) (ms : List Lexeme) → is_space m ≡ true → (e : Edge)
    → ((at : ℕ) (l minus : Bool) → lex at 0 l minus (ended Other ms) ≡ whole at Other l ms)
    → (at : ℕ) (l minus : Bool) → lex at 0 l minus (ended e (m ∷ ms)) ≡ whole at e l (m ∷ ms)
spaced-out (sign b) ms k e rest at l minus =
    subst (λ (x : ℕ). lex at 0 l minus (ended e (sign x ∷ ms)) ≡ whole at e l (sign x ∷ ms)) (sym (eqb-true b 32 k))
    (space-step ms e rest at l minus)
spaced-out (name f) ms k e rest at l minus = absurd (let z : false ≡ true = k in cc)
spaced-out (prefix_name f) ms k e rest at l minus = absurd (let z : false ≡ true = k in cc)
spaced-out (number i) ms k e rest at l minus = absurd (let z : false ≡ true = k in cc)

pub lexed : (ms : List Lexeme) → AreLexemes ms → (q : Bool) → IsClean q ms → (e : Edge) (at : ℕ) (l minus : Bool)
    → lex at 0 l minus (ended e ms) ≡ whole at e l ms
lexed [] h q c e at l minus =
    lex-space (46 ∷ []) at l minus _ (lex-token End 46 [] [] (at + 1) true false (record { tokens = []; fault = None }) refl (λ m. refl))
    ∙ ap (λ (n : ℕ). push (tok End n (n + 1) true) (record { tokens = []; fault = None })) (let p : at + 1 ≡ at + 0 + 1 = omega arith in p)
    ∙ ap (λ (n : ℕ). push (tok End (at + 0 + 1) n true) (record { tokens = []; fault = None }))
    (let p : at + 0 + 1 + 1 ≡ at + 0 + 2 = omega arith in p)
lexed (m ∷ ms) h q c e at l minus = by_test (is_space m)
    (λ k. spaced-out m ms k e (λ a b d. lexed ms h.1 (is_risky m) c.1 Other a b d) at l minus)
    (λ k. step m ms h.0 k e (behind (edge_behind e (lexeme_fragment m)) (is_risky m) ms h.1 c.1) (λ a b d. lexed ms h.1 (is_risky m) c.1
    (edge_behind e (lexeme_fragment m)) a b d) at l minus)
