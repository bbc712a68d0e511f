-- The term of a body is made from its nodes.
use Rattle.std.proofs.Common.{◌≡◌, ℕ, zero, suc, ◌<◌, ◌≤◌, List, [], ◌∷◌, ◌++◌, length, get_or, take, map, reverse, Option, All, Some, None}
use Rattle.std.proofs.Common.{pos, sym, ◌∙◌, ap, subst, refl, arith, length-append}
use Rattle.std.specs.Prelude.{option_map, codes}
use Rattle.std.proofs.lemmas.List.{reverse-append, length-reverse, length-map, reverse-reverse}
use Rattle.std.proofs.lemmas.List.Elements.{All-push}
use Rattle.op_logic.proofs.BoolCases.{by_order}
use Rattle.op_logic.specs.Term.{Term, int, node}
use Rattle.op_logic.specs.Names.{name_at, named, HasNames}
use Rattle.op_term.specs.Places.{term_at, args_at}
use Rattle.op_term.specs.inner.Cells.{AllBelow}
use Rattle.std.proofs.Math.Seq.{get_or-append_seam}
use Rattle.op_trace.specs.Body.{Body, goal, call, control, term_of}
use Rattle.op_store.specs.Nodes.{leaves}
use Rattle.op_store.specs.inner.Walk.{needs, took, read}
use Rattle.op_store.specs.inner.Converted.{AreControlNames, AreNamed, texts_at, paired, called}
use Rattle.op_store.specs.declared.names.control_names.ControlNames.{ControlNames}
use Rattle.op_store.specs.declared.bodies.body_node.BodyNode.{BodyNode}
use Rattle.op_store.specs.declared.bodies.body_node.BodyNode.TheVariants as nodes
use Rattle.op_bind.proofs.KeptTerms.{below-more, term-more}
use Rattle.op_store.proofs.ConversionSteps.{T, read-push, leaves-append}
use Rattle.op_store.proofs.LinkedNodes.{none-read, short}

pub reverse-push : (xs : List ℕ) (x : ℕ) (new : List ℕ) → new ≡ xs ++ x ∷ [] → reverse new ≡ x ∷ reverse xs
reverse-push xs x new e = ap (λ (ks : List ℕ). reverse ks) e ∙ reverse-append xs (x ∷ [])

texts-more : (names : List (List ℕ)) (old new : List (Term ℕ)) (rs : List ℕ) → take (length old) new ≡ old → AllBelow (length old) rs
    → texts_at names new rs ≡ texts_at names old rs
texts-more names old new [] e h = refl
texts-more names old new (r ∷ rs) e h =
    ap (λ (t : Term ℕ). named names t ∷ texts_at names new rs) (term-more old new r e h.0)
    ∙ ap (λ (ts : List T). named names (term_at old r) ∷ ts) (texts-more names old new rs e h.1)

below-wider : (n m : ℕ) (rs : List ℕ) → n ≤ m → AllBelow n rs → AllBelow m rs
below-wider n m [] l h = tt
below-wider n m (r ∷ rs) l h = (omega (arith, h.0), below-wider n m rs l h.1)

-- a term that was made joins
pub joined-below : (old new : List (Term ℕ)) (rest : List ℕ) (r : ℕ) (stack : List ℕ) → take (length old) new ≡ old → r < length new
    → stack ≡ rest ++ r ∷ [] → AllBelow (length old) (reverse rest) → AllBelow (length new) (reverse stack)
joined-below old new rest r stack k h e b =
    subst (λ (ks : List ℕ). AllBelow (length new) ks) (sym (reverse-push rest r stack e))
    (h, below-wider (length old) (length new) (reverse rest) (below-more old new k) b)

pub joined-texts : (names : List (List ℕ)) (old new : List (Term ℕ)) (rest : List ℕ) (r : ℕ) (stack : List ℕ) → take (length old) new ≡ old
    → stack ≡ rest ++ r ∷ [] → AllBelow (length old) (reverse rest)
    → texts_at names new (reverse stack) ≡ named names (term_at new r) ∷ texts_at names old (reverse rest)
joined-texts names old new rest r stack k e b =
    ap (texts_at names new) (reverse-push rest r stack e)
    ∙ ap (λ (ts : List T). named names (term_at new r) ∷ ts) (texts-more names old new (reverse rest) k b)

pub last-made : (old new : List (Term ℕ)) (t : Term ℕ) (r : ℕ) → new ≡ old ++ t ∷ [] → r ≡ length old → term_at new r ≡ t
last-made old new t r e a =
    ap (λ (ts : List (Term ℕ)). term_at ts r) e ∙ (ap (term_at (old ++ t ∷ [])) a ∙ get_or-append_seam old t [] (int (pos 0)))

pub below-two : (n : ℕ) (old new : List ℕ) (a b : ℕ) → reverse old ≡ a ∷ b ∷ reverse new → AllBelow n (reverse old)
    → (a < n) × ((b < n) × AllBelow n (reverse new))
below-two n old new a b e h = let k : AllBelow n (a ∷ b ∷ reverse new) = subst (λ (ks : List ℕ). AllBelow n ks) e h in (k.0, (k.1.0, k.1.1))

pub all-two : (n a b : ℕ) → a < n → b < n → All (λ p. p < n) (a ∷ b ∷ [])
all-two n a b ha hb = All-push (λ (p : ℕ). p < n) (a ∷ []) b (All-push (λ (p : ℕ). p < n) [] a (λ k d l. absurd (omega arith)) ha) hb

pub all-one : (n a : ℕ) → a < n → All (λ p. p < n) (a ∷ [])
all-one n a ha = All-push (λ (p : ℕ). p < n) [] a (λ k d l. absurd (omega arith)) ha

pub made-pair : (names : List (List ℕ)) (f : ℕ) (old new : List (Term ℕ)) (before rest stack : List ℕ) (a b r : ℕ)
    → reverse before ≡ a ∷ b ∷ reverse rest → take (length old) new ≡ old → term_at new r ≡ node f (args_at old (a ∷ b ∷ []))
    → stack ≡ rest ++ r ∷ [] → AllBelow (length old) (reverse rest)
    → texts_at names new (reverse stack) ≡ paired (name_at names f) (texts_at names old (reverse before))
made-pair names f old new before rest stack a b r e k t s h =
    joined-texts names old new rest r stack k s h
    ∙ (ap (λ (u : Term ℕ). named names u ∷ texts_at names old (reverse rest)) t
    ∙ ap (λ (ks : List ℕ). paired (name_at names f) (texts_at names old ks)) (sym e))

-- of the term at a
pub made-call : (names : List (List ℕ)) (f : ℕ) (old new : List (Term ℕ)) (rest stack : List ℕ) (a r : ℕ)
    → take (length old) new ≡ old → term_at new r ≡ node f (args_at old (a ∷ []))
    → stack ≡ rest ++ r ∷ [] → AllBelow (length old) (reverse rest)
    → texts_at names new (reverse stack) ≡ called (name_at names f) (texts_at names old (a ∷ reverse rest))
made-call names f old new rest stack a r k t s h =
    joined-texts names old new rest r stack k s h
    ∙ ap (λ (u : Term ℕ). named names u ∷ texts_at names old (reverse rest)) t

-- their names
named-wider : (n : ℕ) (old new : List (Term ℕ)) (rs : List ℕ) → take (length old) new ≡ old → AllBelow (length old) rs
    → AreNamed n old rs → AreNamed n new rs
named-wider n old new [] k b h = tt
named-wider n old new (r ∷ rs) k b h = (
  subst (λ (t : Term ℕ). HasNames n t) (sym (term-more old new r k b.0)) h.0,
  named-wider n old new rs k b.1 h.1,
)

joined-named : (n : ℕ) (old new : List (Term ℕ)) (rest : List ℕ) (r : ℕ) (stack : List ℕ) (t : Term ℕ) → take (length old) new ≡ old
    → term_at new r ≡ t → HasNames n t → stack ≡ rest ++ r ∷ [] → AllBelow (length old) (reverse rest) → AreNamed n old (reverse rest)
    → AreNamed n new (reverse stack)
joined-named n old new rest r stack t k e h s b m =
    subst (λ (ks : List ℕ). AreNamed n new ks) (sym (reverse-push rest r stack s))
    (subst (λ (u : Term ℕ). HasNames n u) (sym e) h, named-wider n old new (reverse rest) k b m)

pub pair-named : (n f : ℕ) (old new : List (Term ℕ)) (before rest stack : List ℕ) (a b r : ℕ) → f < n
    → reverse before ≡ a ∷ b ∷ reverse rest → take (length old) new ≡ old → term_at new r ≡ node f (args_at old (a ∷ b ∷ []))
    → stack ≡ rest ++ r ∷ [] → AllBelow (length old) (reverse rest) → AreNamed n old (reverse before) → AreNamed n new (reverse stack)
pair-named n f old new before rest stack a b r l e k t s h m =
    let q : AreNamed n old (a ∷ b ∷ reverse rest) = subst (λ (ks : List ℕ). AreNamed n old ks) e m in
    joined-named n old new rest r stack (node f (args_at old (a ∷ b ∷ []))) k t (l, (q.0, (q.1.0, tt))) s h q.1.1

pub call-named : (n f : ℕ) (old new : List (Term ℕ)) (rest stack : List ℕ) (a r : ℕ) → f < n
    → take (length old) new ≡ old → term_at new r ≡ node f (args_at old (a ∷ []))
    → stack ≡ rest ++ r ∷ [] → AllBelow (length old) (reverse rest) → AreNamed n old (a ∷ reverse rest) → AreNamed n new (reverse stack)
call-named n f old new rest stack a r l k t s h m =
    joined-named n old new rest r stack (node f (args_at old (a ∷ []))) k t (l, (m.0, tt)) s h m.1

pub made-there : (old new : List (Term ℕ)) (t : Term ℕ) (r : ℕ) → new ≡ old ++ t ∷ [] → r ≡ length old → r < length new
made-there old new t r e a = omega (arith, ap length e, length-append old (t ∷ []))

pub one-there : (names : List (List ℕ)) (made : List (Term ℕ)) (stack : List ℕ) (t : T) (ts : List T)
    → texts_at names made (reverse stack) ≡ t ∷ ts → 1 ≤ length stack
one-there names made stack t ts e =
    omega (arith, ap length e, length-map (reverse stack) (λ r. named names (term_at made r)), length-reverse stack)

texts-length : (names : List (List ℕ)) (made : List (Term ℕ)) (stack : List ℕ) → length (texts_at names made (reverse stack)) ≡ length stack
texts-length names made stack = length-map (reverse stack) (λ r. named names (term_at made r)) ∙ length-reverse stack

-- the terms of some bodies
abbrev pub terms_of : List Body → List T
terms_of bs = map term_of bs

mapped : (o : Option (List Body)) (ts : List T) → option_map terms_of o ≡ Some ts → (bs : List Body) × ((o ≡ Some bs) × (terms_of bs ≡ ts))
mapped None ts e = absurd cc
mapped (Some bs) ts e = (bs, (refl, cc))

-- there are as many bodies as numbers
bodies-length : (names : List (List ℕ)) (made : List (Term ℕ)) (stack : List ℕ) (bs : List Body)
    → terms_of bs ≡ texts_at names made (reverse stack) → length bs ≡ length stack
bodies-length names made stack bs e = sym (length-map bs term_of) ∙ (ap length e ∙ texts-length names made stack)

module _ {P : Type 0} where
  took-two : (text : P → T) (x : BodyNode P) (f : List ℕ) (bs : List Body) → 2 ≤ length bs
      → ((t u : Body) (s : List Body) → took text x (t ∷ u ∷ s) ≡ Some (control f t u ∷ s))
      → option_map terms_of (took text x bs) ≡ Some (paired f (terms_of bs))
  took-two text x f [] h k = absurd (omega arith)
  took-two text x f (t ∷ []) h k = absurd (omega arith)
  took-two text x f (t ∷ u ∷ s) h k = ap (option_map terms_of) (k t u s)

  pub took-pair : (text : P → T) (is x : BodyNode P) (f g : List ℕ) (names : List (List ℕ)) (old : List (Term ℕ)) (before : List ℕ)
      (bs : List Body) (us : List T) → is ≡ x → needs x ≡ 2 → needs is ≤ length before → g ≡ f
      → ((t u : Body) (s : List Body) → took text x (t ∷ u ∷ s) ≡ Some (control f t u ∷ s))
      → terms_of bs ≡ texts_at names old (reverse before) → us ≡ paired g (texts_at names old (reverse before))
      → option_map terms_of (took text is bs) ≡ Some us
  took-pair text is x f g names old before bs us e two h n k b m =
      let l : needs is ≡ needs x = ap (λ (y : BodyNode P). needs y) e in
      ap (λ (y : BodyNode P). option_map terms_of (took text y bs)) e
      ∙ (took-two text x f bs (omega (arith, bodies-length names old before bs b)) k
      ∙ ap (λ (vs : List T). Some vs)
      (sym (m ∙ (ap (λ (h : List ℕ). paired h (texts_at names old (reverse before))) n ∙ ap (λ (ts : List T). paired f ts) (sym b)))))

  pub took-call : (text : P → T) (is : BodyNode P) (p : P) (g : List ℕ) (bs : List Body) (ts us : List T) → is ≡ nodes.CallOf p
      → g ≡ codes "call" → terms_of bs ≡ ts → us ≡ called g (text p ∷ ts) → option_map terms_of (took text is bs) ≡ Some us
  took-call text is p g bs ts us e n b m =
      ap (λ (y : BodyNode P). option_map terms_of (took text y bs)) e
      ∙ ap (λ (vs : List T). Some vs)
      (sym (m ∙ (ap (λ (h : List ℕ). called h (text p ∷ ts)) n ∙ ap (λ (vs : List T). called (codes "call") (text p ∷ vs)) (sym b))))

  pub took-goal : (text : P → T) (is : BodyNode P) (p : P) (bs : List Body) (ts us : List T) → is ≡ nodes.Goal p
      → terms_of bs ≡ ts → us ≡ text p ∷ ts → option_map terms_of (took text is bs) ≡ Some us
  took-goal text is p bs ts us e b m =
      ap (λ (y : BodyNode P). option_map terms_of (took text y bs)) e
      ∙ ap (λ (vs : List T). Some vs) (sym (m ∙ ap (λ (vs : List T). text p ∷ vs) (sym b)))

  -- equal texts of the places
  pub took-same : (f g : P → T) (x : BodyNode P) (bs : List Body) → All (λ p. f p ≡ g p) (leaves (x ∷ [])) → took f x bs ≡ took g x bs
  took-same f g (nodes.Goal p) bs h = ap (λ (t : T). Some (goal t ∷ bs)) (h 0 p (omega arith))
  took-same f g (nodes.CallOf p) bs h = ap (λ (t : T). Some (call t ∷ bs)) (h 0 p (omega arith))
  took-same f g (nodes.And a b) [] h = refl
  took-same f g (nodes.And a b) (t ∷ []) h = refl
  took-same f g (nodes.And a b) (t ∷ u ∷ s) h = refl
  took-same f g (nodes.Or a b) [] h = refl
  took-same f g (nodes.Or a b) (t ∷ []) h = refl
  took-same f g (nodes.Or a b) (t ∷ u ∷ s) h = refl
  took-same f g (nodes.Then a b) [] h = refl
  took-same f g (nodes.Then a b) (t ∷ []) h = refl
  took-same f g (nodes.Then a b) (t ∷ u ∷ s) h = refl

  all-back : (Q : P → Type 0) (xs ys : List P) → All Q (xs ++ ys) → All Q ys
  all-back Q [] ys h = h
  all-back Q (x ∷ xs) ys h = all-back Q xs ys (λ k d l. h (suc k) d (omega arith))

  all-cons : (Q : P → Type 0) (x : P) (xs : List P) → Q x → All Q xs → All Q (x ∷ xs)
  all-cons Q x xs q h zero d l = q
  all-cons Q x xs q h (suc k) d l = h k d (omega arith)

  all-front : (Q : P → Type 0) (xs ys : List P) → All Q (xs ++ ys) → All Q xs
  all-front Q [] ys h = λ k d l. absurd (omega arith)
  all-front Q (x ∷ xs) ys h = all-cons Q x xs (h 0 x (omega arith)) (all-front Q xs ys (λ k d l. h (suc k) d (omega arith)))

  pub places-last : (Q : P → Type 0) (rest : List (BodyNode P)) (x : BodyNode P) → All Q (leaves (rest ++ x ∷ [])) → All Q (leaves (x ∷ []))
  places-last Q rest x h = all-back Q (leaves rest) (leaves (x ∷ [])) (subst (λ (ps : List P). All Q ps) (leaves-append rest (x ∷ [])) h)

  pub places-rest : (Q : P → Type 0) (rest : List (BodyNode P)) (x : BodyNode P) → All Q (leaves (rest ++ x ∷ [])) → All Q (leaves rest)
  places-rest Q rest x h = all-front Q (leaves rest) (leaves (x ∷ [])) (subst (λ (ps : List P). All Q ps) (leaves-append rest (x ∷ [])) h)

  module _ (term : P → Term ℕ) (known : ControlNames) where
    abbrev text : List (List ℕ) → P → T
    text names p = named names (term p)

    -- the terms that were made are those of some bodies
    pub record AreMade (names : List (List ℕ)) (all rest : List (BodyNode P)) (made : List (Term ℕ)) (stack : List ℕ) : Type 0 where
      pub bodies : List Body
      pub terms : terms_of bodies ≡ texts_at names made (reverse stack)
      pub same : read (text names) all (Some []) ≡ read (text names) rest (Some bodies)

    -- between two nodes: what is left to be read gives the same
    pub record IsMaking (all rest : List (BodyNode P)) (made : List (Term ℕ)) (stack : List ℕ) : Type 0 where
      pub made_are : (names : List (List ℕ)) → AreControlNames names known → AreMade names all rest made stack
      pub there : AllBelow (length made) (reverse stack)

    pub making-starts : (all : List (BodyNode P)) (made : List (Term ℕ)) → IsMaking all all made []
    making-starts all made = record { made_are = λ names k. record { bodies = []; terms = refl; same = refl }; there = tt }

    pub making-needs : (names : List (List ℕ)) (b : Body) (all rest : List (BodyNode P)) (x : BodyNode P) (made : List (Term ℕ))
        (stack : List ℕ) → AreControlNames names known → read (text names) all (Some []) ≡ Some (b ∷ [])
        → IsMaking all (rest ++ x ∷ []) made stack → needs x ≤ length stack
    making-needs names b all rest x made stack k e m =
        by_order (length stack) (needs x)
        (λ h.
        let w = m.made_are names k in
        let n : length w.bodies ≡ length stack = bodies-length names made stack w.bodies w.terms in
        let none : read (text names) all (Some []) ≡ None =
        w.same ∙ (read-push (text names) rest x (Some w.bodies)
        ∙ (ap (read (text names) rest) (short (text names) x w.bodies (omega (arith, n, h))) ∙ none-read (text names) rest)) in
        let bad : Some (b ∷ []) ≡ None = sym e ∙ none in
        absurd cc)
        (λ h. h)

    made-goes : (names : List (List ℕ)) (all rest : List (BodyNode P)) (x : BodyNode P) (made more : List (Term ℕ)) (stack new : List ℕ)
        (w : AreMade names all (rest ++ x ∷ []) made stack)
        → option_map terms_of (took (text names) x w.bodies) ≡ Some (texts_at names more (reverse new)) → AreMade names all rest more new
    made-goes names all rest x made more stack new w e =
        let next = mapped (took (text names) x w.bodies) (texts_at names more (reverse new)) e in
        record {
          bodies = next.0;
          terms = next.1.1;
          same = w.same ∙ (read-push (text names) rest x (Some w.bodies) ∙ ap (read (text names) rest) next.1.0);
        }

    pub making-goes : (all rest : List (BodyNode P)) (x : BodyNode P) (made more : List (Term ℕ)) (stack new : List ℕ)
        → ((names : List (List ℕ)) (bs : List Body) → AreControlNames names known → terms_of bs ≡ texts_at names made (reverse stack)
        → option_map terms_of (took (text names) x bs) ≡ Some (texts_at names more (reverse new)))
        → AllBelow (length more) (reverse new) → IsMaking all (rest ++ x ∷ []) made stack → IsMaking all rest more new
    making-goes all rest x made more stack new took_is there m = record {
      made_are = λ names k. let w = m.made_are names k in made-goes names all rest x made more stack new w
          (took_is names w.bodies k w.terms);
      there = there;
    }

    single-reverse : (stack : List ℕ) (k : ℕ) → reverse stack ≡ k ∷ [] → stack ≡ k ∷ []
    single-reverse stack k e = sym (reverse-reverse stack) ∙ ap (λ (ks : List ℕ). reverse ks) e

    one-text : (names : List (List ℕ)) (made : List (Term ℕ)) (ks : List ℕ) (t : T) → texts_at names made ks ≡ t ∷ []
        → (k : ℕ) × ((ks ≡ k ∷ []) × (named names (term_at made k) ≡ t))
    one-text names made [] t e = absurd cc
    one-text names made (k ∷ []) t e = (k, (refl, cc))
    one-text names made (k ∷ j ∷ ks) t e = absurd cc

    pub making-one : (names : List (List ℕ)) (b : Body) (all : List (BodyNode P)) (made : List (Term ℕ)) (stack : List ℕ)
        → AreControlNames names known → read (text names) all (Some []) ≡ Some (b ∷ []) → IsMaking all [] made stack
        → (k : ℕ) × ((stack ≡ k ∷ []) × (k < length made) × (named names (term_at made k) ≡ term_of b))
    making-one names b all made stack c e m =
        let w = m.made_are names c in
        let is : Some w.bodies ≡ Some (b ∷ []) = sym w.same ∙ e in
        let single : w.bodies ≡ b ∷ [] = cc in
        let one = one-text names made (reverse stack) (term_of b) (sym w.terms ∙ ap terms_of single) in
        let below : AllBelow (length made) (one.0 ∷ []) = subst (λ (ks : List ℕ). AllBelow (length made) ks) one.1.0 m.there in
        (one.0, (single-reverse stack one.0 one.1.0, below.0, one.1.1))

    pub root-is : (names : List (List ℕ)) (b : Body) (all : List (BodyNode P)) (made : List (Term ℕ)) (stack : List ℕ) (root : ℕ)
        → root ≡ get_or stack 0 root → AreControlNames names known → read (text names) all (Some []) ≡ Some (b ∷ [])
        → IsMaking all [] made stack
        → (root < length made) × (named names (term_at made root) ≡ term_of b)
    root-is names b all made stack root r c e m =
        let one = making-one names b all made stack c e m in
        let same : root ≡ one.0 = r ∙ ap (λ (ks : List ℕ). get_or ks 0 root) one.1.0 in
        (subst (λ (k : ℕ). k < length made) (sym same) one.1.1, ap (λ (k : ℕ). named names (term_at made k)) same ∙ one.1.2)

    pub stack-one : (names : List (List ℕ)) (b : Body) (all : List (BodyNode P)) (made : List (Term ℕ)) (stack : List ℕ)
        → AreControlNames names known → read (text names) all (Some []) ≡ Some (b ∷ []) → IsMaking all [] made stack → length stack ≡ 1
    stack-one names b all made stack c e m = ap length (making-one names b all made stack c e m).1.0

pub none-left : {A : Type 0} (xs : List A) → length xs ≡ 0 → xs ≡ []
none-left [] h = refl
none-left (x ∷ xs) h = absurd (omega arith)
