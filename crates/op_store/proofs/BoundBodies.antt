-- The term of a body is made in bindings.
use Rattle.std.proofs.Common.{◌≡◌, ℕ, ◌<◌, List, [], ◌∷◌, ◌++◌, length, get_or, reverse, Some, All, refl, sym, ap, ◌∙◌}
use Rattle.std.proofs.Common.{◌≤◌, subst, arith}
use Rattle.std.specs.Prelude.{option_map}
use Rattle.op_logic.specs.Term.{Term}
use Rattle.op_logic.specs.Names.{named, HasNames}
use Rattle.op_term.specs.Places.{term_at}
use Rattle.op_term.specs.inner.Cells.{AllBelow}
use Rattle.op_bind.specs.State.{State, bindings}
use Rattle.op_bind.specs.Grown.{Grows}
use Rattle.op_bind.proofs.StateGrowth.{grows-self, grows-grows, term-stays}
use Rattle.op_trace.specs.Body.{Body, term_of}
use Rattle.op_store.specs.Nodes.{leaves}
use Rattle.op_store.specs.inner.Walk.{needs, took, read}
use Rattle.op_store.specs.inner.Converted.{AreControlNames, AreNamed, texts_at}
use Rattle.op_store.specs.declared.names.control_names.ControlNames.{ControlNames}
use Rattle.op_store.specs.declared.bodies.body_node.BodyNode.{BodyNode}
use Rattle.op_store.proofs.ConversionSteps.{T}
use Rattle.op_store.proofs.BodyTerms.{terms_of, took-same, places-last, places-rest, IsMaking, making-starts, making-needs, making-goes}
use Rattle.op_store.proofs.BodyTerms.{making-one, root-is, stack-one}

module _ (known : ControlNames) (start : State) where
  abbrev pub text_in : State → List (List ℕ) → ℕ → T
  text_in s names p = named names (term_at s.terms p)

  -- the places of these nodes have the names of a table
  abbrev pub AreKnown : State → List (List ℕ) → List (BodyNode ℕ) → Type 0
  AreKnown s names xs = All (λ p. HasNames (length names) (term_at s.terms p)) (leaves xs)

  -- between two nodes: what was made, with its names; no term changed, and nothing was bound
  pub record IsBuilding (all rest : List (BodyNode ℕ)) (now : State) (stack : List ℕ) : Type 0 where
    pub making : IsMaking (term_at start.terms) known all rest now.terms stack
    pub places : All (λ p. p < length start.terms) (leaves rest)
    pub named_are : (names : List (List ℕ)) → AreControlNames names known → AreKnown start names all
        → AreNamed (length names) now.terms (reverse stack) × AreKnown start names rest
    pub grows : Grows start now
    pub bound : now.bound ≡ start.bound
    pub same : bindings now ≡ bindings start
    pub count : now.count ≡ start.count

  pub building-starts : (all : List (BodyNode ℕ)) → All (λ p. p < length start.terms) (leaves all) → IsBuilding all all start []
  building-starts all h = record {
    making = making-starts (term_at start.terms) known all start.terms;
    places = h;
    named_are = λ names k n. (tt, n);
    grows = grows-self start;
    bound = refl;
    same = refl;
    count = refl;
  }

  pub building-needs : (names : List (List ℕ)) (b : Body) (all rest : List (BodyNode ℕ)) (x : BodyNode ℕ) (now : State)
      (stack : List ℕ) → AreControlNames names known → read (text_in start names) all (Some []) ≡ Some (b ∷ [])
      → IsBuilding all (rest ++ x ∷ []) now stack → needs x ≤ length stack
  building-needs names b all rest x now stack k e w =
      making-needs (term_at start.terms) known names b all rest x now.terms stack k e w.making

  -- the places of the next node are still there, with their terms
  pub building-places : (all rest : List (BodyNode ℕ)) (x : BodyNode ℕ) (now : State) (stack : List ℕ)
      → IsBuilding all (rest ++ x ∷ []) now stack → All (λ p. p < length now.terms) (leaves (x ∷ []))
  building-places all rest x now stack w = λ i d l.
      let p = places-last (λ (p : ℕ). p < length start.terms) rest x w.places i d l in
      let g = w.grows.terms_there in
      omega (arith, p, g)

  same-term : (rest : List (BodyNode ℕ)) (x : BodyNode ℕ) (now : State) → Grows start now
      → All (λ p. p < length start.terms) (leaves (rest ++ x ∷ []))
      → All (λ p. term_at now.terms p ≡ term_at start.terms p) (leaves (x ∷ []))
  same-term rest x now g h = λ i d l.
      term-stays start now g (get_or (leaves (x ∷ [])) i d) (places-last (λ (p : ℕ). p < length start.terms) rest x h i d l)

  pub building-goes : (all rest : List (BodyNode ℕ)) (x : BodyNode ℕ) (now more : State) (stack new : List ℕ)
      → ((names : List (List ℕ)) (bs : List Body) → AreControlNames names known → terms_of bs ≡ texts_at names now.terms (reverse stack)
      → option_map terms_of (took (text_in now names) x bs) ≡ Some (texts_at names more.terms (reverse new)))
      → AllBelow (length more.terms) (reverse new)
      → ((names : List (List ℕ)) → AreControlNames names known → AreKnown now names (x ∷ [])
      → AreNamed (length names) now.terms (reverse stack) → AreNamed (length names) more.terms (reverse new))
      → Grows now more → more.bound ≡ now.bound → bindings more ≡ bindings now → more.count ≡ now.count
      → IsBuilding all (rest ++ x ∷ []) now stack → IsBuilding all rest more new
  building-goes all rest x now more stack new took_is there named_is grows bound same count w =
      let e = same-term rest x now w.grows w.places in
      record {
        making = making-goes (term_at start.terms) known all rest x now.terms more.terms stack new
            (λ names bs k h. ap (option_map terms_of)
            (took-same (text_in start names) (text_in now names) x bs (λ i d l. ap (named names) (sym (e i d l))))
            ∙ took_is names bs k h)
            there w.making;
        places = places-rest (λ (p : ℕ). p < length start.terms) rest x w.places;
        named_are = λ names k h.
            let n = w.named_are names k h in
            let Q : ℕ → Type 0 = λ (p : ℕ). HasNames (length names) (term_at start.terms p) in
            let last : AreKnown now names (x ∷ []) = λ i d l.
            subst (λ (t : Term ℕ). HasNames (length names) t) (sym (e i d l)) (places-last Q rest x n.1 i d l) in
            (named_is names k last n.0, places-rest Q rest x n.1);
        grows = grows-grows start now more w.grows grows;
        bound = bound ∙ w.bound;
        same = same ∙ w.same;
        count = count ∙ w.count;
      }

  -- the body's term at the end
  pub built-term : (names : List (List ℕ)) (b : Body) (all : List (BodyNode ℕ)) (now : State) (stack : List ℕ) (root : ℕ)
      → root ≡ get_or stack 0 root → AreControlNames names known → read (text_in start names) all (Some []) ≡ Some (b ∷ [])
      → IsBuilding all [] now stack → (root < length now.terms) × (named names (term_at now.terms root) ≡ term_of b)
  built-term names b all now stack root r k e w = root-is (term_at start.terms) known names b all now.terms stack root r k e w.making

  pub built-named : (names : List (List ℕ)) (b : Body) (all : List (BodyNode ℕ)) (now : State) (stack : List ℕ) (root : ℕ)
      → root ≡ get_or stack 0 root → AreControlNames names known → read (text_in start names) all (Some []) ≡ Some (b ∷ [])
      → IsBuilding all [] now stack → (others : List (List ℕ)) → AreControlNames others known → AreKnown start others all
      → HasNames (length others) (term_at now.terms root)
  built-named names b all now stack root r k e w others o h =
      let one = making-one (term_at start.terms) known names b all now.terms stack k e w.making in
      let same : root ≡ one.0 = r ∙ ap (λ (ks : List ℕ). get_or ks 0 root) one.1.0 in
      let n : AreNamed (length others) now.terms (one.0 ∷ []) =
      subst (λ (ks : List ℕ). AreNamed (length others) now.terms (reverse ks)) one.1.0 (w.named_are others o h).0 in
      subst (λ (p : ℕ). HasNames (length others) (term_at now.terms p)) (sym same) n.0

  pub built-one : (names : List (List ℕ)) (b : Body) (all : List (BodyNode ℕ)) (now : State) (stack : List ℕ)
      → AreControlNames names known → read (text_in start names) all (Some []) ≡ Some (b ∷ []) → IsBuilding all [] now stack
      → length stack ≡ 1
  built-one names b all now stack k e w = stack-one (term_at start.terms) known names b all now.terms stack k e w.making
