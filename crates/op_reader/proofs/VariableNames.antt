-- Variables by their names, and by the table of the named ones.
use Rattle.std.proofs.Common.{◌≡◌, ℕ, suc, ◌+◌, List, [], ◌∷◌, ◌++◌, length, refl, ap, sym, ◌∙◌, arith, true, false, Bool, subst}
use Rattle.std.proofs.Common.{append-nil}
use Rattle.std.specs.Prelude.{Option, Some, None, unwrap_or, bytes_eq, if◌then◌else◌}
use Rattle.std.proofs.lemmas.List.{length-append}
use Rattle.std.proofs.lemmas.Slice.Eq.{bytes_eq-Decides}
use Rattle.op_logic.proofs.BoolCases.{if_true, if_false}
use Rattle.op_reader.specs.Names.{number_of as number_in}
use Rattle.op_reader.specs.Words.{is_anonymous, met_from, met_at, number_of, with_variable, named_from}
use Rattle.op_reader.specs.inner.Shown.{HasMet}

named_step : (b a : Bool) (name w : List ℕ) (n : ℕ) (met : List (List ℕ)) → bytes_eq name w ≡ b → (b ≡ true → a ≡ false) →
    number_in name (named_from (suc n) met) ≡ met_from (suc n) met name →
    number_in name (if a then named_from (suc n) met else (w, n) ∷ named_from (suc n) met)
    ≡ (if b then Some n else met_from (suc n) met name)
named_step true true name w n met e g h = absurd (let z : true ≡ false = g refl in cc)
named_step true false name w n met e g h = ap (λ b. if b then Some n else number_in name (named_from (suc n) met)) e
named_step false true name w n met e g h = h
named_step false false name w n met e g h = ap (λ b. if b then Some n else number_in name (named_from (suc n) met)) e ∙ h

pub number_named : (name : List ℕ) (n : ℕ) (met : List (List ℕ)) → is_anonymous name ≡ false →
    number_in name (named_from n met) ≡ met_from n met name
number_named name n [] h = refl
number_named name n (w ∷ met) h =
    named_step (bytes_eq name w) (is_anonymous w) name w n met refl
    (λ e. subst (λ (u : List ℕ). is_anonymous u ≡ false) ((bytes_eq-Decides name w).0 e) h) (number_named name (suc n) met h)

one_more : (a : Bool) (p : List ℕ × ℕ) (xs ys zs : List (List ℕ × ℕ)) → xs ≡ ys ++ zs
    → (if a then xs else p ∷ xs) ≡ (if a then ys else p ∷ ys) ++ zs
one_more true p xs ys zs h = h
one_more false p xs ys zs h = ap (λ l. p ∷ l) h

pub named_more : (n m : ℕ) (met : List (List ℕ)) (name : List ℕ) → m ≡ n + length met →
    named_from n (met ++ name ∷ []) ≡ named_from n met ++ named_from m (name ∷ [])
named_more n m [] name h = let e : n ≡ m = omega arith in ap (λ k. named_from k (name ∷ [])) e
named_more n m (w ∷ met) name h =
    let e : m ≡ suc n + length met = omega arith in
    one_more (is_anonymous w) (w, n) (named_from (suc n) (met ++ name ∷ [])) (named_from (suc n) met) (named_from m (name ∷ []))
    (named_more (suc n) m met name e)

-- a variable that is new
pub met_new : (names new : List (List ℕ × ℕ)) (count more : ℕ) (met : List (List ℕ)) (name : List ℕ) → HasMet names count met
    → met_at met name ≡ None →
    new ≡ names ++ named_from count (name ∷ []) → more ≡ count + 1 → HasMet new more (with_variable met name)
met_new names new count more met name h none made up =
    let with : with_variable met name ≡ met ++ name ∷ [] = ap (λ o. elim o [ Some n ↦ met | None ↦ met ++ name ∷ [] ]) none in
    let len : length (met ++ name ∷ []) ≡ length met + 1 = length-append met (name ∷ []) in
    let counted = h.counted in
    let e : count ≡ 0 + length met = omega arith in
    let k : more ≡ length (met ++ name ∷ []) = omega arith in
    let all : new ≡ named_from 0 (met ++ name ∷ []) = made ∙ ap (λ l. l ++ named_from count (name ∷ [])) h.named
    ∙ sym (named_more 0 count met name e) in
    subst (λ (m : List (List ℕ)). HasMet new more m) (sym with) (record { named = all; counted = k })

pub number_new : (names : List (List ℕ × ℕ)) (count : ℕ) (met : List (List ℕ)) (name : List ℕ) → HasMet names count met
    → met_at met name ≡ None → count ≡ number_of met name
number_new names count met name h none = h.counted ∙ sym (ap (λ o. unwrap_or o (length met)) none)

-- and one that was met
pub met_old : (names : List (List ℕ × ℕ)) (count n : ℕ) (met : List (List ℕ)) (name : List ℕ) → HasMet names count met
    → met_at met name ≡ Some n →
    HasMet names count (with_variable met name)
met_old names count n met name h some =
    let with : with_variable met name ≡ met = ap (λ o. elim o [ Some n ↦ met | None ↦ met ++ name ∷ [] ]) some in
    subst (λ (m : List (List ℕ)). HasMet names count m) (sym with) h

pub number_old : (n : ℕ) (met : List (List ℕ)) (name : List ℕ) → met_at met name ≡ Some n → n ≡ number_of met name
number_old n met name some = sym (ap (λ o. unwrap_or o (length met)) some)

pub met_nowhere : (met : List (List ℕ)) (name : List ℕ) → is_anonymous name ≡ true → met_at met name ≡ None
met_nowhere met name h = if_true (is_anonymous name) None (met_from 0 met name) h

pub met_found : (names : List (List ℕ × ℕ)) (count : ℕ) (met : List (List ℕ)) (name : List ℕ) (o : Option ℕ) → HasMet names count met →
    is_anonymous name ≡ false → o ≡ number_in name names → met_at met name ≡ o
met_found names count met name o h named found =
    if_false (is_anonymous name) None (met_from 0 met name) named ∙ sym (number_named name 0 met named)
    ∙ ap (number_in name) (sym h.named) ∙ sym found

pub unnamed : (name : List ℕ) (n : ℕ) (names : List (List ℕ × ℕ)) → is_anonymous name ≡ true → names ≡ names ++ named_from n (name ∷ [])
unnamed name n names h = sym (append-nil names) ∙ ap (λ l. names ++ l) (sym (if_true (is_anonymous name) [] ((name, n) ∷ []) h))

pub one_named : (name : List ℕ) (n : ℕ) (names new : List (List ℕ × ℕ)) → is_anonymous name ≡ false → new ≡ names ++ (name, n) ∷ []
    → new ≡ names ++ named_from n (name ∷ [])
one_named name n names new h e = e ∙ ap (λ l. names ++ l) (sym (if_false (is_anonymous name) [] ((name, n) ∷ []) h))
