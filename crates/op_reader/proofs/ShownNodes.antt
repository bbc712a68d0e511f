-- What is shown stays shown while names and nodes are added.
use Rattle.std.proofs.Common.{◌≡◌, ℕ, ◌<◌, ◌≤◌, ◌+◌, List, [], ◌∷◌, ◌++◌, length, take, refl, ap, sym, ◌∙◌, subst, zero, suc, arith}
use Rattle.std.specs.Prelude.{pos, map, All}
use Rattle.std.proofs.lemmas.List.Elements.{All-push}
use Rattle.std.proofs.lemmas.List.{take-take, take_all, map_push, length-take, get_or-take, length-append}
use Rattle.std.proofs.Math.Seq.{take-append_seam, get_or-append_seam}
use Rattle.op_logic.specs.Term.{Term, int, node, no_args, arg}
use Rattle.op_logic.specs.Names.{name_at, named}
use Rattle.op_logic.proofs.NameTables.{name-more}
use Rattle.op_term.specs.Places.{term_at}
use Rattle.op_reader.specs.inner.RoleLists.{View, node_in}
use Rattle.op_reader.specs.inner.Shown.{IsLater, ShowsTerm, ShowsTerms}
use Rattle.op_reader.specs.Words.{list_of}

-- the new list begins with the old one
pub kept_length : {A : Type 0} → (old new : List A) → take (length old) new ≡ old → length old ≤ length new
kept_length old new k = omega (arith, length-take (length old) new, ap length k)

pub kept_all : {A : Type 0} → (xs : List A) → take (length xs) xs ≡ xs
kept_all xs = take_all (length xs) xs (omega arith)

pub kept_kept : {A : Type 0} → (a b c : List A) → take (length a) b ≡ a → take (length b) c ≡ b → take (length a) c ≡ a
kept_kept a b c k l = sym (take-take (length a) (length b) c (kept_length a b k)) ∙ ap (take (length a)) l ∙ k

pub later_back : (v : View) (names more : List (List ℕ)) (terms further : List (Term ℕ)) → take (length names) more ≡ names →
    take (length terms) further ≡ terms → IsLater v more further → IsLater v names terms
later_back v names more terms further k l h =
    record { names_kept = kept_kept names more v.names k h.names_kept; terms_kept = kept_kept terms further v.terms l h.terms_kept }

pub term_later : (old new : List (Term ℕ)) (n : ℕ) → take (length old) new ≡ old → n < length old → term_at new n ≡ term_at old n
term_later old new n k h = sym (get_or-take (length old) new n (int (pos 0)) h) ∙ ap (λ ts. term_at ts n) k

pub name_later : (names : List (List ℕ)) (w : List ℕ) (s : ℕ) (v : View) → s < length names → name_at names s ≡ w →
    take (length names) v.names ≡ names → name_at v.names s ≡ w
name_later names w s v h e k = name-more names v.names k s h ∙ e

pub shows_more : (names more : List (List ℕ)) (terms further : List (Term ℕ)) (n : ℕ) (t : Term (List ℕ))
    → take (length names) more ≡ names →
    take (length terms) further ≡ terms → ShowsTerm names terms n t → ShowsTerm more further n t
shows_more names more terms further n t k l s =
    let there = s.there in
    record {
      there = omega (arith, kept_length terms further l);
      shown = λ v h. s.shown v (later_back v names more terms further k l h);
    }

-- a new node
pub shows_new : (names : List (List ℕ)) (terms new : List (Term ℕ)) (n : ℕ) (t : Term ℕ) (u : Term (List ℕ))
    → new ≡ terms ++ t ∷ [] → n ≡ length terms →
    ((v : View) → IsLater v names new → named v.names t ≡ u) → ShowsTerm names new n u
shows_new names terms new n t u e l f =
    let longer : length new ≡ length terms + 1 = ap length e ∙ length-append terms (t ∷ []) in
    let there : n < length new = omega arith in
    let at : term_at new n ≡ t = ap (λ ts. term_at ts n) e ∙ ap (term_at (terms ++ t ∷ [])) l
    ∙ get_or-append_seam terms t [] (int (pos 0)) in
    record {
      there = there;
      shown = λ v h. ap (named v.names) (term_later new v.terms n h.terms_kept there ∙ at) ∙ f v h;
    }

pub kept_new : {A : Type 0} → (old new : List A) (x : A) → new ≡ old ++ x ∷ [] → take (length old) new ≡ old
kept_new old new x e = ap (take (length old)) e ∙ take-append_seam old (x ∷ [])

pub new_below : {A : Type 0} → (old new : List A) (x : A) (n : ℕ) → new ≡ old ++ x ∷ [] → n ≡ length old → n < length new
new_below old new x n e l =
    let longer : length new ≡ length old + 1 = ap length e ∙ length-append old (x ∷ []) in
    omega arith

-- nodes that are shown one by one
pub all_shown_more : (names more : List (List ℕ)) (terms further : List (Term ℕ)) (ns : List ℕ) (ts : List (Term (List ℕ)))
    → take (length names) more ≡ names →
    take (length terms) further ≡ terms → ShowsTerms names terms ns ts → ShowsTerms more further ns ts
all_shown_more names more terms further ns ts k l s =
    record {
      there = λ i d h. let below = s.there i d h in omega (arith, kept_length terms further l);
      shown = λ v h. s.shown v (later_back v names more terms further k l h);
    }

pub all_shown_push : (names : List (List ℕ)) (terms : List (Term ℕ)) (ns ms : List ℕ) (ts : List (Term (List ℕ)))
    (n : ℕ) (t : Term (List ℕ)) →
    ms ≡ ns ++ n ∷ [] → ShowsTerms names terms ns ts → ShowsTerm names terms n t → ShowsTerms names terms ms (ts ++ t ∷ [])
all_shown_push names terms ns ms ts n t e s one =
    record {
      there = subst (λ (ks : List ℕ). All (λ k. k < length terms) ks) (sym e) (All-push (λ k. k < length terms) ns n s.there one.there);
      shown = λ v h. ap (map (node_in v)) e ∙ map_push (node_in v) ns n ∙ ap (λ us. us ++ node_in v n ∷ []) (s.shown v h)
          ∙ ap (λ u. ts ++ u ∷ []) (one.shown v h);
    }

-- a list by its elements
pub named_list : (names : List (List ℕ)) (dot : ℕ) (end : Term ℕ) (ts : List (Term ℕ)) →
    named names (list_of dot end ts) ≡ list_of (name_at names dot) (named names end) (map (named names) ts)
named_list names dot end [] = refl
named_list names dot end (t ∷ ts) = ap (λ u. node (name_at names dot) (arg (named names t) (arg u no_args))) (named_list names dot end ts)

map_map : {A B C : Type 0} → (g : B → C) (f : A → B) (xs : List A) → map g (map f xs) ≡ map (λ x. g (f x)) xs
map_map g f [] = refl
map_map g f (x ∷ xs) = ap (λ ys. g (f x) ∷ ys) (map_map g f xs)

pub terms_later : (old new : List (Term ℕ)) (ns : List ℕ) → take (length old) new ≡ old → All (λ n. n < length old) ns
    → map (term_at new) ns ≡ map (term_at old) ns
terms_later old new [] k h = refl
terms_later old new (n ∷ ns) k h =
    ap (λ t. t ∷ map (term_at new) ns) (term_later old new n k (h zero n (omega arith)))
    ∙ ap (λ ts. term_at old n ∷ ts) (terms_later old new ns k (λ i d lt. h (suc i) d (omega arith)))

pub shows_list : (names : List (List ℕ)) (terms new : List (Term ℕ)) (n dot end : ℕ) (ns : List ℕ) (w : List ℕ) (last : Term (List ℕ))
    (ts : List (Term (List ℕ))) →
    n < length new → term_at new n ≡ list_of dot (term_at terms end) (map (term_at terms) ns) → take (length terms) new ≡ terms →
    dot < length names → name_at names dot ≡ w → ShowsTerm names terms end last → ShowsTerms names terms ns ts
    → ShowsTerm names new n (list_of w last ts)
shows_list names terms new n dot end ns w last ts there made kept known dotted ended shown =
    record {
      there = there;
      shown = λ v h.
          let before = later_back v names names terms new (kept_all names) kept h in
          ap (named v.names) (term_later new v.terms n h.terms_kept there ∙ made)
          ∙ named_list v.names dot (term_at terms end) (map (term_at terms) ns)
          ∙ ap (λ u. list_of u (named v.names (term_at terms end)) (map (named v.names) (map (term_at terms) ns)))
          (name_later names w dot v known dotted h.names_kept)
          ∙ ap (λ t. list_of w (named v.names t) (map (named v.names) (map (term_at terms) ns)))
          (sym (term_later terms v.terms end before.terms_kept ended.there))
          ∙ ap (λ t. list_of w t (map (named v.names) (map (term_at terms) ns))) (ended.shown v before)
          ∙ ap (λ us. list_of w last (map (named v.names) us)) (sym (terms_later terms v.terms ns before.terms_kept shown.there))
          ∙ ap (list_of w last) (map_map (named v.names) (term_at v.terms) ns ∙ shown.shown v before);
    }
