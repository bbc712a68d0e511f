-- The nodes of a body get the numbers of their parts, from the last node on.
use Rattle.std.proofs.Common.{◌≡◌, ℕ, suc, ◌+◌, ◌-◌, ◌<◌, ◌≤◌, List, [], ◌∷◌, ◌++◌, map, length, Some, None, refl, sym, ap, ◌∙◌, subst}
use Rattle.std.proofs.Common.{arith, append_assoc, length-append}
use Rattle.std.specs.Prelude.{pos, option_and_then, slice_index_or}
use Rattle.op_logic.proofs.BoolCases.{by_order}
use Rattle.op_logic.specs.Term.{int}
use Rattle.op_trace.specs.Body.{Body, goal}
use Rattle.op_store.specs.Nodes.{node_tree, numbered, node_trees, body_tree, leaf, leaves, IsLinked, AreLinked, IsBody}
use Rattle.op_store.specs.inner.Walk.{took, read, needs, linked_node, unlinked}
use Rattle.op_store.specs.declared.bodies.body_node.BodyNode.{BodyNode}
use Rattle.op_store.specs.declared.bodies.body_node.BodyNode.TheVariants as nodes
use Rattle.op_store.proofs.ConversionSteps.{T, read-push, leaves-append}

-- the bodies of these numbers, where these are the nodes from number i on
abbrev pub bodies_at : {P : Type 0} → (P → T) → ℕ → List (BodyNode P) → List ℕ → List Body
bodies_at text i later ks = map (λ k. numbered i (node_trees text i later) k) ks

-- each number is from i on and below n
abbrev pub AllFrom : ℕ → ℕ → List ℕ → Type 0
AllFrom i n [] = Unit {0}
AllFrom i n (k ∷ ks) = ((i ≤ k) × (k < n)) × AllFrom i n ks

-- the last number that was put there is that of the first node
abbrev pub IsTop : {A : Type 0} → ℕ → List A → List ℕ → Type 0
IsTop i [] ks = ks ≡ []
IsTop i (x ∷ xs) [] = ⊥
IsTop i (x ∷ xs) (k ∷ ks) = k ≡ i

-- one node more in front changes no body behind it
later-number : (i k : ℕ) (t : Body) (ts : List Body) → suc i ≤ k → numbered i (t ∷ ts) k ≡ numbered (suc i) ts k
later-number i k t ts h =
    let e : k - i ≡ suc (k - suc i) = omega arith in ap (λ (n : ℕ). slice_index_or (t ∷ ts) n (goal (int (pos 0)))) e

later-numbers : (i n : ℕ) (t : Body) (ts : List Body) (ks : List ℕ) → AllFrom (suc i) n ks
    → map (λ k. numbered i (t ∷ ts) k) ks ≡ map (λ k. numbered (suc i) ts k) ks
later-numbers i n t ts [] h = refl
later-numbers i n t ts (k ∷ ks) h =
    ap (λ (x : Body). x ∷ map (λ k. numbered i (t ∷ ts) k) ks) (later-number i k t ts h.0.0)
    ∙ ap (λ (xs : List Body). numbered (suc i) ts k ∷ xs) (later-numbers i n t ts ks h.1)

from-before : (i n : ℕ) (ks : List ℕ) → AllFrom (suc i) n ks → AllFrom i n ks
from-before i n [] h = tt
from-before i n (k ∷ ks) h = ((omega (arith, h.0.0), h.0.1), from-before i n ks h.1)

first-number : (i : ℕ) (t : Body) (ts : List Body) → numbered i (t ∷ ts) i ≡ t
first-number i t ts = let e : i - i ≡ 0 = omega arith in ap (λ (n : ℕ). slice_index_or (t ∷ ts) n (goal (int (pos 0)))) e

length-map : (i : ℕ) (ts : List Body) (ks : List ℕ) → length (map (λ k. numbered i ts k) ks) ≡ length ks
length-map i ts [] = refl
length-map i ts (k ∷ ks) = ap suc (length-map i ts ks)

single : (ks : List ℕ) (ts : List Body) (t : Body) → Some (map (λ k. numbered 0 ts k) ks) ≡ Some (t ∷ []) → (k : ℕ) × (ks ≡ k ∷ [])
single [] ts t e = absurd cc
single (k ∷ []) ts t e = (k, refl)
single (k ∷ j ∷ ks) ts t e = absurd cc

module _ {P : Type 0} where
  -- between two nodes: those that were met and not yet linked; those linked, and the numbers whose nodes no other has taken
  pub record IsLinking (met rest later : List (BodyNode P)) (stack : List ℕ) : Type 0 where
    pub same : (text : P → T) → read text met (Some []) ≡ read text rest (Some (bodies_at text (length rest) later stack))
    pub numbers : AllFrom (length rest) (length met) stack
    pub top : IsTop (length rest) later stack
    pub linked : AreLinked (length rest) (length met) later
    pub count : length rest + length later ≡ length met
    pub leaves_same : leaves rest ++ leaves later ≡ leaves met

  pub linking-starts : (met : List (BodyNode P)) → IsLinking met met [] []
  linking-starts met = record {
    same = λ text. refl;
    numbers = tt;
    top = refl;
    linked = tt;
    count = omega arith;
    leaves_same = nil (leaves met);
  }
    where
      nil : {A : Type 0} (xs : List A) → xs ++ [] ≡ xs
      nil [] = refl
      nil (y ∷ ys) = ap (λ zs. y ∷ zs) (nil ys)

  -- what a node takes is what its parts are, and the rest stays
  took-linked : (text : P → T) (x : BodyNode P) (i n : ℕ) (ts : List Body) (stack : List ℕ) → needs x ≤ length stack
      → AllFrom (suc i) n stack
      → (took text x (map (λ k. numbered (suc i) ts k) stack)
      ≡ Some (node_tree text (numbered (suc i) ts) (linked_node x stack) ∷ map (λ k. numbered (suc i) ts k) (unlinked x stack)))
  took-linked text (nodes.Goal p) i n ts stack h f = refl
  took-linked text (nodes.CallOf p) i n ts stack h f = refl
  took-linked text (nodes.And c d) i n ts [] h f = absurd (omega arith)
  took-linked text (nodes.And c d) i n ts (a ∷ []) h f = absurd (omega arith)
  took-linked text (nodes.And c d) i n ts (a ∷ b ∷ s) h f = refl
  took-linked text (nodes.Or c d) i n ts [] h f = absurd (omega arith)
  took-linked text (nodes.Or c d) i n ts (a ∷ []) h f = absurd (omega arith)
  took-linked text (nodes.Or c d) i n ts (a ∷ b ∷ s) h f = refl
  took-linked text (nodes.Then c d) i n ts [] h f = absurd (omega arith)
  took-linked text (nodes.Then c d) i n ts (a ∷ []) h f = absurd (omega arith)
  took-linked text (nodes.Then c d) i n ts (a ∷ b ∷ s) h f = refl

  linked-within : (x : BodyNode P) (i n : ℕ) (stack : List ℕ) → needs x ≤ length stack → AllFrom (suc i) n stack
      → IsLinked i n (linked_node x stack) × AllFrom (suc i) n (unlinked x stack)
  linked-within (nodes.Goal p) i n stack h f = (tt, f)
  linked-within (nodes.CallOf p) i n stack h f = (tt, f)
  linked-within (nodes.And c d) i n [] h f = absurd (omega arith)
  linked-within (nodes.And c d) i n (a ∷ []) h f = absurd (omega arith)
  linked-within (nodes.And c d) i n (a ∷ b ∷ s) h f = ((omega (arith, f.0.0), f.0.1, omega (arith, f.1.0.0), f.1.0.1), f.1.1)
  linked-within (nodes.Or c d) i n [] h f = absurd (omega arith)
  linked-within (nodes.Or c d) i n (a ∷ []) h f = absurd (omega arith)
  linked-within (nodes.Or c d) i n (a ∷ b ∷ s) h f = ((omega (arith, f.0.0), f.0.1, omega (arith, f.1.0.0), f.1.0.1), f.1.1)
  linked-within (nodes.Then c d) i n [] h f = absurd (omega arith)
  linked-within (nodes.Then c d) i n (a ∷ []) h f = absurd (omega arith)
  linked-within (nodes.Then c d) i n (a ∷ b ∷ s) h f = ((omega (arith, f.0.0), f.0.1, omega (arith, f.1.0.0), f.1.0.1), f.1.1)

  linked-leaf : (x : BodyNode P) (stack : List ℕ) (ps : List P) → needs x ≤ length stack → leaf (linked_node x stack) ps ≡ leaf x ps
  linked-leaf (nodes.Goal p) stack ps h = refl
  linked-leaf (nodes.CallOf p) stack ps h = refl
  linked-leaf (nodes.And c d) [] ps h = absurd (omega arith)
  linked-leaf (nodes.And c d) (a ∷ []) ps h = absurd (omega arith)
  linked-leaf (nodes.And c d) (a ∷ b ∷ s) ps h = refl
  linked-leaf (nodes.Or c d) [] ps h = absurd (omega arith)
  linked-leaf (nodes.Or c d) (a ∷ []) ps h = absurd (omega arith)
  linked-leaf (nodes.Or c d) (a ∷ b ∷ s) ps h = refl
  linked-leaf (nodes.Then c d) [] ps h = absurd (omega arith)
  linked-leaf (nodes.Then c d) (a ∷ []) ps h = absurd (omega arith)
  linked-leaf (nodes.Then c d) (a ∷ b ∷ s) ps h = refl

  leaf-append : (x : BodyNode P) (ps : List P) → leaves (x ∷ []) ++ ps ≡ leaf x ps
  leaf-append (nodes.Goal p) ps = refl
  leaf-append (nodes.CallOf p) ps = refl
  leaf-append (nodes.And a b) ps = refl
  leaf-append (nodes.Or a b) ps = refl
  leaf-append (nodes.Then a b) ps = refl

  -- a node that is linked next
  pub linking-goes : (met rest later : List (BodyNode P)) (x : BodyNode P) (stack : List ℕ) → needs x ≤ length stack
      → IsLinking met (rest ++ x ∷ []) later stack
      → IsLinking met rest (linked_node x stack ∷ later) (length rest ∷ unlinked x stack)
  linking-goes met rest later x stack h l =
      let i : ℕ = length rest in
      let n : ℕ = length met in
      let more : length (rest ++ x ∷ []) ≡ suc i = omega (arith, length-append rest (x ∷ [])) in
      let numbers : AllFrom (suc i) n stack = subst (λ (k : ℕ). AllFrom k n stack) more l.numbers in
      let within = linked-within x i n stack h numbers in
      let y : BodyNode P = linked_node x stack in
      record {
        same = λ text.
            let ts : List Body = node_trees text (suc i) later in
            let now : Body = node_tree text (numbered (suc i) ts) y in
            let stays : map (λ k. numbered i (now ∷ ts) k) (unlinked x stack) ≡ map (λ k. numbered (suc i) ts k) (unlinked x stack) =
            later-numbers i n now ts (unlinked x stack) within.1 in
            l.same text
            ∙ (ap (λ (k : ℕ). read text (rest ++ x ∷ []) (Some (bodies_at text k later stack))) more
            ∙ (read-push text rest x (Some (bodies_at text (suc i) later stack))
            ∙ (ap (read text rest) (took-linked text x i n ts stack h numbers)
            ∙ ap (λ (us : List Body). read text rest (Some us))
            (sym (ap (λ (t : Body). t ∷ map (λ k. numbered i (now ∷ ts) k) (unlinked x stack)) (first-number i now ts)
            ∙ ap (λ (us : List Body). now ∷ us) stays)))));
        numbers = ((omega arith, omega (arith, l.count, more)), from-before i n (unlinked x stack) within.1);
        top = refl;
        linked = (within.0, subst (λ (k : ℕ). AreLinked k n later) more l.linked);
        count = omega (arith, l.count, more);
        leaves_same =
            ap (λ (ps : List P). leaves rest ++ ps) (linked-leaf x stack (leaves later) h ∙ sym (leaf-append x (leaves later)))
            ∙ (sym (append_assoc (leaves rest) (leaves (x ∷ [])) (leaves later))
            ∙ (ap (λ (ps : List P). ps ++ leaves later) (sym (leaves-append rest (x ∷ []))) ∙ l.leaves_same));
      }

  pub none-read : (text : P → T) (xs : List (BodyNode P)) → read text xs None ≡ None
  none-read text [] = refl
  none-read text (y ∷ ys) = ap (option_and_then (took text y)) (none-read text ys)

  pub short : (text : P → T) (x : BodyNode P) (s : List Body) → length s < needs x → took text x s ≡ None
  short text (nodes.Goal p) s h = absurd (omega arith)
  short text (nodes.CallOf p) s h = absurd (omega arith)
  short text (nodes.And a b) [] h = refl
  short text (nodes.And a b) (t ∷ []) h = refl
  short text (nodes.And a b) (t ∷ u ∷ s) h = absurd (omega arith)
  short text (nodes.Or a b) [] h = refl
  short text (nodes.Or a b) (t ∷ []) h = refl
  short text (nodes.Or a b) (t ∷ u ∷ s) h = absurd (omega arith)
  short text (nodes.Then a b) [] h = refl
  short text (nodes.Then a b) (t ∷ []) h = refl
  short text (nodes.Then a b) (t ∷ u ∷ s) h = absurd (omega arith)

  -- what is read to a body has the parts of each node
  pub can-link : (text : P → T) (met rest later : List (BodyNode P)) (x : BodyNode P) (stack : List ℕ) (t : Body)
      → read text met (Some []) ≡ Some (t ∷ []) → IsLinking met (rest ++ x ∷ []) later stack → length stack < needs x → ⊥
  can-link text met rest later x stack t e l h =
      let s : List Body = bodies_at text (length (rest ++ x ∷ [])) later stack in
      let n : length s ≡ length stack = length-map (length (rest ++ x ∷ [])) (node_trees text (length (rest ++ x ∷ [])) later) stack in
      let none : read text met (Some []) ≡ None = l.same text
      ∙ (read-push text rest x (Some s) ∙ (ap (read text rest) (short text x s (omega arith)) ∙ none-read text rest)) in
      let bad : Some (t ∷ []) ≡ None = sym e ∙ none in
      cc

  top-only : (later : List (BodyNode P)) (ks : List ℕ) (k : ℕ) → ks ≡ k ∷ [] → IsTop 0 later ks → (ks ≡ 0 ∷ []) × (0 < length later)
  top-only [] ks k e h = let bad : k ∷ [] ≡ [] = sym e ∙ h in absurd cc
  top-only (x ∷ xs) [] k e h = absurd h
  top-only (x ∷ xs) (j ∷ js) k e h = let n : js ≡ [] = cc in (ap (λ (m : ℕ). m ∷ js) h ∙ ap (λ (ms : List ℕ). 0 ∷ ms) n, omega arith)

  pub linking-needs : (text : P → T) (met rest later : List (BodyNode P)) (x : BodyNode P) (stack : List ℕ) (t : Body)
      → read text met (Some []) ≡ Some (t ∷ []) → IsLinking met (rest ++ x ∷ []) later stack → needs x ≤ length stack
  linking-needs text met rest later x stack t e l =
      by_order (length stack) (needs x) (λ h. absurd (can-link text met rest later x stack t e l h)) (λ h. h)

  -- the body at the end
  pub record IsLinkedBody (met later : List (BodyNode P)) : Type 0 where
    pub body : IsBody later
    pub tree : (text : P → T) → read text met (Some []) ≡ Some (body_tree text later ∷ [])
    pub leaves_same : leaves later ≡ leaves met

  pub linking-ends : (text : P → T) (met later : List (BodyNode P)) (stack : List ℕ) (t : Body) → read text met (Some []) ≡ Some (t ∷ [])
      → IsLinking met [] later stack → IsLinkedBody met later
  linking-ends text met later stack t e l =
      let one = single stack (node_trees text 0 later) t (sym (l.same text) ∙ e) in
      let top = top-only later stack one.0 one.1 l.top in
      let n : length later ≡ length met = omega (arith, l.count) in
      record {
        body = record { some = top.1; linked = subst (λ (k : ℕ). AreLinked 0 k later) (sym n) l.linked };
        tree = λ u. l.same u ∙ ap (λ (ks : List ℕ). Some (bodies_at u 0 later ks)) top.0;
        leaves_same = l.leaves_same;
      }
