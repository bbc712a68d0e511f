-- The elements of a list and the parts of a conjunction, one after the other.
use Rattle.std.proofs.Common.{◌≡◌, ℕ, ◌+◌, ◌<◌, cond, Bool, true, false, List, [], ◌∷◌, ◌++◌, length, map, Option, Some, None, All, refl}
use Rattle.std.proofs.Common.{sym, ap, ◌∙◌, subst, arith, append_assoc, append-nil}
use Rattle.std.specs.Prelude.{option_map, bytes_eq, codes}
use Rattle.std.proofs.lemmas.List.{map-append}
use Rattle.std.proofs.lemmas.List.Elements.{All-push, All-pop}
use Rattle.op_logic.proofs.BoolCases.{if_false}
use Rattle.op_logic.specs.Term.{Term, var, int, node, no_args, arg, size}
use Rattle.op_logic.specs.Names.{named, HasNames}
use Rattle.op_trace.specs.Database.{Text}
use Rattle.op_trace.specs.Body.{pair}
use Rattle.op_store.specs.Directives.{elements, conjuncts}
use Rattle.op_store.specs.inner.Shapes.{is_pair, is_atom}

pub elements-pair : (t a b : Term Text) → t ≡ pair (codes ".") a b → elements t ≡ option_map (λ ts. a ∷ ts) (elements b)
elements-pair t a b e = ap elements e

pub elements-end : (t : Term Text) → is_pair (codes ".") t ≡ false → elements t ≡ cond (is_atom (codes "[]") t) (Some []) None
elements-end (var v) e = refl
elements-end (int i) e = refl
elements-end (node f no_args) e = refl
elements-end (node f (arg a no_args)) e = refl
elements-end (node f (arg a (arg b no_args))) e = if_false (bytes_eq f (codes ".")) _ _ e
elements-end (node f (arg a (arg b (arg c ts)))) e = refl

pub conjuncts-pair : (t a b : Term Text) → t ≡ pair (codes ",") a b → conjuncts t ≡ conjuncts a ++ conjuncts b
conjuncts-pair t a b e = ap conjuncts e

pub conjuncts-end : (t : Term Text) → is_pair (codes ",") t ≡ false → conjuncts t ≡ t ∷ []
conjuncts-end (var v) e = refl
conjuncts-end (int i) e = refl
conjuncts-end (node f no_args) e = refl
conjuncts-end (node f (arg a no_args)) e = refl
conjuncts-end (node f (arg a (arg b no_args))) e = if_false (bytes_eq f (codes ",")) _ _ e
conjuncts-end (node f (arg a (arg b (arg c ts)))) e = refl

-- in front of an optional list
abbrev pub before : {A : Type 0} → List A → Option (List A) → Option (List A)
before ts o = option_map (λ us. ts ++ us) o

before-none : (o : Option (List (Term Text))) → o ≡ before [] o
before-none None = refl
before-none (Some us) = refl

pub before-more : {A : Type 0} (ts : List A) (t : A) (o : Option (List A))
    → before ts (option_map (λ us. t ∷ us) o) ≡ before (ts ++ t ∷ []) o
before-more ts t None = refl
before-more ts t (Some us) = ap Some (sym (append_assoc ts (t ∷ []) us))

-- how many nodes the terms at some places have
unfoldable pub weight : {P : Type 0} → (P → Term ℕ) → List P → ℕ
weight term [] = 0
weight term (p ∷ ps) = size (term p) + weight term ps

pub weight-push : {P : Type 0} (term : P → Term ℕ) (ps : List P) (p : P) → weight term (ps ++ p ∷ []) ≡ weight term ps + size (term p)
unfolding weight
weight-push term [] p = omega arith
weight-push term (q ∷ qs) p = omega (arith, weight-push term qs p)

pub size-some : (t : Term ℕ) → 0 < size t
size-some (var v) = omega arith
size-some (int i) = omega arith
size-some (node f ts) = omega arith

module _ {P : Type 0} (names : List Text) (term : P → Term ℕ) (IsPlace : P → Type 0) where
  abbrev text : P → Term Text
  text p = named names (term p)

  abbrev Known : P → Type 0
  Known p = IsPlace p × HasNames (length names) (term p)

  -- the elements met, and the rest of the list
  pub record IsListing (at : P) (items : List P) (rest : P) : Type 0 where
    pub tells : elements (named names (term at)) ≡ before (map (λ p. named names (term p)) items) (elements (named names (term rest)))
    pub place : IsPlace rest
    pub has : HasNames (length names) (term rest)
    pub places : All (λ p. IsPlace p × HasNames (length names) (term p)) items

  pub listing-begins : (at : P) → IsPlace at → HasNames (length names) (term at) → IsListing at [] at
  listing-begins at p h = record { tells = before-none _; place = p; has = h; places = λ i d l. absurd (omega arith) }

  pub listing-goes : (at : P) (items new : List P) (rest first tail : P) → IsListing at items rest
      → text rest ≡ pair (codes ".") (text first) (text tail) → new ≡ items ++ first ∷ []
      → IsPlace first × HasNames (length names) (term first) → IsPlace tail × HasNames (length names) (term tail) → IsListing at new tail
  listing-goes at items new rest first tail h e n f t = record {
    tells = h.tells ∙ (ap (before (map text items)) (elements-pair (text rest) (text first) (text tail) e)
        ∙ (before-more (map text items) (text first) (elements (text tail))
        ∙ ap (λ (us : List (Term Text)). before us (elements (text tail))) (sym (map-append text items (first ∷ []))
        ∙ ap (map text) (sym n))));
    place = t.0;
    has = t.1;
    places = subst (λ (ps : List P). All Known ps) (sym n) (All-push Known items first h.places f);
  }

  pub listing-ends : (at : P) (items : List P) (rest : P) (b : Bool) → IsListing at items rest → is_pair (codes ".") (text rest) ≡ false
      → b ≡ is_atom (codes "[]") (text rest) → elements (text at) ≡ cond b (Some (map text items)) None
  listing-ends at items rest b h e k =
      h.tells ∙ (ap (before (map text items)) (elements-end (text rest) e ∙ ap (λ (x : Bool). cond x (Some []) None) (sym k)) ∙ by b)
    where
      by : (b : Bool) → before (map text items) (cond b (Some []) None) ≡ cond b (Some (map text items)) None
      by true = ap Some (append-nil _)
      by false = refl

  -- the parts met, and those still to be met, the first of them last
  abbrev behind : List P → List (Term Text)
  behind [] = []
  behind (p ∷ ps) = behind ps ++ conjuncts (text p)

  pub record IsParting (at : P) (parts todo : List P) : Type 0 where
    pub tells : conjuncts (named names (term at)) ≡ map (λ p. named names (term p)) parts ++ behind todo
    pub left : All (λ p. IsPlace p × HasNames (length names) (term p)) todo
    pub met : All (λ p. IsPlace p × HasNames (length names) (term p)) parts

  behind-push : (ps : List P) (p : P) → behind (ps ++ p ∷ []) ≡ conjuncts (text p) ++ behind ps
  behind-push [] p = sym (append-nil (conjuncts (text p)))
  behind-push (q ∷ qs) p =
      ap (λ (ts : List (Term Text)). ts ++ conjuncts (text q)) (behind-push qs p)
      ∙ append_assoc (conjuncts (text p)) (behind qs) (conjuncts (text q))

  pub parting-begins : (at : P) (todo : List P) → todo ≡ [] ++ at ∷ [] → IsPlace at → HasNames (length names) (term at)
      → IsParting at [] todo
  parting-begins at todo e p h = record {
    tells = sym (ap behind e);
    left = subst (λ (ps : List P). All Known ps) (sym e) (All-push Known [] at (λ i d l. absurd (omega arith)) (p, h));
    met = λ i d l. absurd (omega arith);
  }

  pub parting-next : (at : P) (parts todo rest : List P) (next : P) → IsParting at parts todo → todo ≡ rest ++ next ∷ [] → Known next
  parting-next at parts todo rest next h e = (All-pop Known todo rest (Some next) e h.left).1

  -- a conjunction, whose first part is met next
  pub parting-goes : (at : P) (parts todo rest mid new : List P) (next first second : P) → IsParting at parts todo
      → todo ≡ rest ++ next ∷ [] → text next ≡ pair (codes ",") (text first) (text second)
      → mid ≡ rest ++ second ∷ [] → new ≡ mid ++ first ∷ [] → IsPlace first × HasNames (length names) (term first)
      → IsPlace second × HasNames (length names) (term second) → IsParting at parts new
  parting-goes at parts todo rest mid new next first second h e k m n f g =
      let known : All Known rest = (All-pop Known todo rest (Some next) e h.left).0 in
      let before : behind todo ≡ conjuncts (text next) ++ behind rest = ap behind e ∙ behind-push rest next in
      let after : behind new ≡ conjuncts (text first) ++ (conjuncts (text second) ++ behind rest) =
      ap behind n ∙ (behind-push mid first ∙ ap (λ (ts : List (Term Text)). conjuncts (text first) ++ ts) (ap behind m
      ∙ behind-push rest second)) in
      record {
        tells =
            h.tells ∙ ap (λ (ts : List (Term Text)). map text parts ++ ts) (before
            ∙ (ap (λ (ts : List (Term Text)). ts ++ behind rest) (conjuncts-pair (text next) (text first) (text second) k)
            ∙ (append_assoc (conjuncts (text first)) (conjuncts (text second)) (behind rest) ∙ sym after)));
        left = subst (λ (ps : List P). All Known ps) (sym n)
            (All-push Known mid first (subst (λ (ps : List P). All Known ps) (sym m) (All-push Known rest second known g)) f);
        met = h.met;
      }

  -- another part
  pub parting-leaf : (at : P) (parts new todo rest : List P) (next : P) → IsParting at parts todo → todo ≡ rest ++ next ∷ []
      → is_pair (codes ",") (text next) ≡ false → new ≡ parts ++ next ∷ [] → IsParting at new rest
  parting-leaf at parts new todo rest next h e k n =
      let known = All-pop Known todo rest (Some next) e h.left in
      let before : behind todo ≡ (text next ∷ []) ++ behind rest =
      ap behind e ∙ (behind-push rest next ∙ ap (λ (ts : List (Term Text)). ts ++ behind rest) (conjuncts-end (text next) k)) in
      record {
        tells =
            h.tells ∙ (ap (λ (ts : List (Term Text)). map text parts ++ ts) before
            ∙ (sym (append_assoc (map text parts) (text next ∷ []) (behind rest))
            ∙ ap (λ (ts : List (Term Text)). ts ++ behind rest) (sym (map-append text parts (next ∷ [])) ∙ ap (map text) (sym n))));
        left = known.0;
        met = subst (λ (ps : List P). All Known ps) (sym n) (All-push Known parts next h.met known.1);
      }

  pub parting-ends : (at : P) (parts todo : List P) → IsParting at parts todo → todo ≡ []
      → map (λ p. named names (term p)) parts ≡ conjuncts (named names (term at))
  parting-ends at parts todo h e = sym (h.tells ∙ (ap (λ (ps : List P). map text parts ++ behind ps) e ∙ append-nil (map text parts)))
