-- A term's nodes are met, and it is built from them.
use Rattle.std.proofs.Common.{◌≡◌, ℕ, zero, suc, ◌+◌, ◌-◌, ◌<◌, List, [], ◌∷◌, ◌++◌, length, get_or, take, drop, map, All, pos, sym, ◌∙◌}
use Rattle.std.proofs.Common.{ap, subst, refl, arith, length-append, append_assoc, Result, Ok, Err, IfOk, OnOk}
use Rattle.std.proofs.lemmas.List.{get_or_append_left, length-map, map-append, take-map, length-take, get_or-take, append-nil}
use Rattle.std.proofs.Math.Seq.{take-append_seam, drop-append_seam, get_or-append_seam}
use Rattle.std.specs.List.{drop-map}
use Rattle.op_logic.specs.Term.{Term, var, int, node, Args, no_args, arg, args_of, nth_arg, arity, size, args_size, IsWithin, ArgsWithin}
use Rattle.op_term.specs.Places.{term_at, args_at}
use Rattle.op_term.specs.Arguments.{args_list}
use Rattle.op_term.specs.Head.{head}
use Rattle.op_term.proofs.ArgumentLists.{length-list}
use Rattle.op_term.specs.declared.node.Node.{Node}
use Rattle.op_term.specs.declared.symbols.Sym.{Sym}
use Rattle.op_term.specs.declared.node.Node.TheVariants as nodes
use Rattle.op_bind.specs.Within.{AllWithin}
use Rattle.op_bind.specs.inner.Built.{args_from, join, HasArgs, NodeWithin, NodesWithin, IsMore}
use Rattle.op_bind.specs.Visited.{visit, visit_args}
use Rattle.op_bind.proofs.BindingsInvariant.{AllWithin-append, args-within}
use Rattle.op_bind.proofs.KeptTerms.{kept-same, kept-twice}

from-list : (ts : Args ℕ) → args_from (args_list ts) ≡ ts
from-list no_args = refl
from-list (arg t ts) = ap (arg t) (from-list ts)

-- the nodes in front of what was built
abbrev pub built_onto : List Node → List (Term ℕ) → List (Term ℕ)
built_onto [] s = s
built_onto (n ∷ ns) s = join n (built_onto ns s)

abbrev pub CanBuild : List Node → List (Term ℕ) → Type 0
CanBuild [] s = Unit {0}
CanBuild (n ∷ ns) s = HasArgs n (built_onto ns s) × CanBuild ns s

pub built-last : (ns : List Node) (n : Node) (s : List (Term ℕ)) → built_onto (ns ++ n ∷ []) s ≡ built_onto ns (join n s)
built-last [] n s = refl
built-last (m ∷ ms) n s = ap (join m) (built-last ms n s)

pub can-last : (ns : List Node) (n : Node) (s : List (Term ℕ)) → CanBuild (ns ++ n ∷ []) s → HasArgs n s × CanBuild ns (join n s)
can-last [] n s h = (h.0, tt)
can-last (m ∷ ms) n s h =
    let k = can-last ms n s h.1 in (k.0, (subst (λ (ts : List (Term ℕ)). HasArgs m ts) (built-last ms n s) h.0, k.1))

-- a compound takes exactly its own arguments
join-args : (f : ℕ) (t : Term ℕ) (ts : Args ℕ) (us : List (Term ℕ)) → join (head (node f (arg t ts))) (us ++ args_list (arg t ts))
    ≡ us ++ node f (arg t ts) ∷ []
join-args f t ts us =
    let l : length (us ++ args_list (arg t ts)) - arity (arg t ts) ≡ length us =
    omega (arith, length-append us (args_list (arg t ts)), length-list (arg t ts)) in
    let a : take (length (us ++ args_list (arg t ts)) - arity (arg t ts)) (us ++ args_list (arg t ts)) ≡ us =
    ap (λ (k : ℕ). take k (us ++ args_list (arg t ts))) l ∙ take-append_seam us (args_list (arg t ts)) in
    let b : drop (length (us ++ args_list (arg t ts)) - arity (arg t ts)) (us ++ args_list (arg t ts)) ≡ args_list (arg t ts) =
    ap (λ (k : ℕ). drop k (us ++ args_list (arg t ts))) l ∙ drop-append_seam us (args_list (arg t ts)) in
    ap (λ xs. xs ++ node f (args_from (drop (length (us ++ args_list (arg t ts)) - arity (arg t ts)) (us ++ args_list (arg t ts)))) ∷ []) a
    ∙ ap (λ xs. us ++ node f xs ∷ []) (ap args_from b ∙ from-list (arg t ts))

-- the nodes of a term build it
mutual
  built-visit : (t : Term ℕ) (ns : List Node) (s : List (Term ℕ)) → built_onto (visit t ++ ns) s ≡ built_onto ns s ++ t ∷ []
  built-visit (var v) ns s = refl
  built-visit (int i) ns s = refl
  built-visit (node f no_args) ns s = refl
  built-visit (node f (arg t ts)) ns s =
      ap (join (head (node f (arg t ts)))) (built-args (arg t ts) ns s) ∙ join-args f t ts (built_onto ns s)

  built-args : (ts : Args ℕ) (ns : List Node) (s : List (Term ℕ)) → built_onto (visit_args ts ++ ns) s ≡ built_onto ns s ++ args_list ts
  built-args no_args ns s = sym (append-nil (built_onto ns s))
  built-args (arg t ts) ns s =
      let a : built_onto ((visit_args ts ++ visit t) ++ ns) s ≡ built_onto (visit_args ts ++ (visit t ++ ns)) s =
      ap (λ (ms : List Node). built_onto ms s) (append_assoc (visit_args ts) (visit t) ns) in
      a ∙ (built-args ts (visit t ++ ns) s ∙ (ap (λ xs. xs ++ args_list ts) (built-visit t ns s)
      ∙ append_assoc (built_onto ns s) (t ∷ []) (args_list ts)))

mutual
  can-visit : (t : Term ℕ) (ns : List Node) (s : List (Term ℕ)) → CanBuild ns s → CanBuild (visit t ++ ns) s
  can-visit (var v) ns s h = (tt, h)
  can-visit (int i) ns s h = (tt, h)
  can-visit (node f no_args) ns s h = (tt, h)
  can-visit (node f (arg t ts)) ns s h =
      let l : length (built_onto (visit_args (arg t ts) ++ ns) s) ≡ length (built_onto ns s) + arity (arg t ts) =
      ap length (built-args (arg t ts) ns s) ∙ (length-append (built_onto ns s) (args_list (arg t ts))
      ∙ ap (λ k. length (built_onto ns s) + k) (length-list (arg t ts))) in
      ((omega arith, omega arith), can-args (arg t ts) ns s h)

  can-args : (ts : Args ℕ) (ns : List Node) (s : List (Term ℕ)) → CanBuild ns s → CanBuild (visit_args ts ++ ns) s
  can-args no_args ns s h = h
  can-args (arg t ts) ns s h =
      subst (λ (ms : List Node). CanBuild ms s) (sym (append_assoc (visit_args ts) (visit t) ns))
      (can-args ts (visit t ++ ns) s (can-visit t ns s h))

built-value : (t : Term ℕ) (ns : List Node) → ns ≡ visit t → built_onto ns [] ≡ t ∷ []
built-value t ns e = ap (λ (ms : List Node). built_onto ms []) (e ∙ sym (append-nil (visit t))) ∙ built-visit t [] []

can-value : (t : Term ℕ) (ns : List Node) → ns ≡ visit t → CanBuild ns []
can-value t ns e = subst (λ (ms : List Node). CanBuild ms []) (append-nil (visit t) ∙ sym e) (can-visit t [] [] tt)

-- the nodes that are still to be met, with the last of the stack first
abbrev pub visits : List (Term ℕ) → List Node
visits [] = []
visits (t ∷ ts) = visits ts ++ visit t

visits-append : (xs ys : List (Term ℕ)) → visits (xs ++ ys) ≡ visits ys ++ visits xs
visits-append [] ys = sym (append-nil (visits ys))
visits-append (x ∷ xs) ys = ap (λ zs. zs ++ visit x) (visits-append xs ys) ∙ append_assoc (visits ys) (visits xs) (visit x)

visits-args : (ts : Args ℕ) → visits (args_list ts) ≡ visit_args ts
visits-args no_args = refl
visits-args (arg t ts) = ap (λ ns. ns ++ visit t) (visits-args ts)

visit-term : (t : Term ℕ) → visit t ≡ head t ∷ visit_args (args_of t)
visit-term (var v) = refl
visit-term (int i) = refl
visit-term (node f ts) = refl

-- a term has as many nodes as its size
mutual
  pub visit-size : (t : Term ℕ) → length (visit t) ≡ size t
  visit-size (var v) = refl
  visit-size (int i) = refl
  visit-size (node f ts) = ap suc (visit_args-size ts)

  visit_args-size : (ts : Args ℕ) → length (visit_args ts) ≡ args_size ts
  visit_args-size no_args = refl
  visit_args-size (arg t ts) = omega (arith, length-append (visit_args ts) (visit t), visit-size t, visit_args-size ts)

-- the variables of a term are those of its nodes
nodes_within-append : (n : ℕ) (xs ys : List Node) → NodesWithin n xs → NodesWithin n ys → NodesWithin n (xs ++ ys)
nodes_within-append n [] ys h k = k
nodes_within-append n (x ∷ xs) ys h k = (h.0, nodes_within-append n xs ys h.1 k)

mutual
  pub visit-within : (n : ℕ) (t : Term ℕ) → IsWithin n t → NodesWithin n (visit t)
  visit-within n (var v) h = (h, tt)
  visit-within n (int i) h = (tt, tt)
  visit-within n (node f no_args) h = (tt, tt)
  visit-within n (node f (arg t ts)) h = (tt, visit_args-within n (arg t ts) h)

  visit_args-within : (n : ℕ) (ts : Args ℕ) → ArgsWithin n ts → NodesWithin n (visit_args ts)
  visit_args-within n no_args h = tt
  visit_args-within n (arg t ts) h = nodes_within-append n (visit_args ts) (visit t) (visit_args-within n ts h.1) (visit-within n t h.0)

module _ {P : Type 0} (term : P → Term ℕ) where
  -- the nodes that were met, and the terms to be met
  pub record IsMeeting (t : Term ℕ) (met : List Node) (todo : List P) : Type 0 where
    pub nodes : met ++ visits (map term todo) ≡ visit t

  pub meeting-goes : (t : Term ℕ) (met new : List Node) (rest more : List P) (next : P) (n : Node) → n ≡ head (term next)
      → new ≡ met ++ n ∷ [] → map term more ≡ map term rest ++ args_list (args_of (term next))
      → IsMeeting t met (rest ++ next ∷ []) → IsMeeting t new more
  meeting-goes t met new rest more next n hd e m g =
      let u : Term ℕ = term next in
      let before : visits (map term (rest ++ next ∷ [])) ≡ (n ∷ []) ++ (visit_args (args_of u) ++ visits (map term rest)) =
      ap visits (map-append term rest (next ∷ [])) ∙ (visits-append (map term rest) (u ∷ [])
      ∙ (ap (λ (ns : List Node). ns ++ visits (map term rest)) (visit-term u)
      ∙ ap (λ (k : Node). k ∷ (visit_args (args_of u) ++ visits (map term rest))) (sym hd))) in
      let after : visits (map term more) ≡ visit_args (args_of u) ++ visits (map term rest) =
      ap visits m ∙ (visits-append (map term rest) (args_list (args_of u)) ∙ ap (λ (ns : List Node). ns ++ visits (map term rest))
      (visits-args (args_of u))) in
      record {
        nodes =
            ap (λ (ns : List Node). ns ++ visits (map term more)) e
            ∙ (append_assoc met (n ∷ []) (visits (map term more))
            ∙ (ap (λ (ns : List Node). met ++ ((n ∷ []) ++ ns)) after ∙ (ap (λ (ns : List Node). met ++ ns) (sym before) ∙ g.nodes)));
      }

  visit-some : (t : Term ℕ) → 0 < length (visit t)
  visit-some (var v) = omega arith
  visit-some (int i) = omega arith
  visit-some (node f ts) = omega arith

  -- where no step is left for the next node, there are more nodes than steps
  pub meeting-spent : (t : Term ℕ) (met : List Node) (rest : List P) (next : P) (start left : ℕ) → start ≡ left + length met → left < 1
      → IsMeeting t met (rest ++ next ∷ []) → start < size t
  meeting-spent t met rest next start left p h g =
      omega (
        arith,
        p,
        ap length g.nodes,
        visit-size t,
        length-append met (visits (map term (rest ++ next ∷ []))),
        ap (λ (ts : List (Term ℕ)). length (visits ts)) (map-append term rest (next ∷ [])),
        ap length (visits-append (map term rest) (term next ∷ [])),
        length-append (visit (term next)) (visits (map term rest)),
        visit-some (term next),
      )

  pub meeting-ends : (t : Term ℕ) (met : List Node) → IsMeeting t met [] → met ≡ visit t
  meeting-ends t met g = sym (append-nil met) ∙ g.nodes

  pub meeting-paid : (t : Term ℕ) (met : List Node) (start left : ℕ) → start ≡ left + length met
      → IsMeeting t met [] → start ≡ left + size t
  meeting-paid t met start left p g = omega (arith, p, ap length (meeting-ends t met g), visit-size t)

-- between two nodes: what the rest of the nodes makes of what was made
pub record IsBuilding (old made : List (Term ℕ)) (all rest : List Node) (stack : List ℕ) : Type 0 where
  pub built : (t : Term ℕ) → all ≡ visit t → built_onto rest (map (term_at made) stack) ≡ t ∷ []
  pub can : (t : Term ℕ) → all ≡ visit t → CanBuild rest (map (term_at made) stack)
  pub there : All (λ r. r < length made) stack
  pub counted : length made + length rest ≡ length old + length all
  pub within : (n : ℕ) → NodesWithin n all → AllWithin n old → AllWithin n made × NodesWithin n rest
  pub kept : take (length old) made ≡ old

pub building-starts : (old : List (Term ℕ)) (all : List Node) → IsBuilding old old all all []
building-starts old all = record {
  built = λ t e. built-value t all e;
  can = λ t e. can-value t all e;
  there = λ k d l. absurd (omega arith);
  counted = refl;
  within = λ n h k. (k, h);
  kept = kept-same old old refl;
}

pub building-args : (old made : List (Term ℕ)) (all rest : List Node) (n : Node) (stack : List ℕ) (t : Term ℕ) → all ≡ visit t
    → IsBuilding old made all (rest ++ n ∷ []) stack → HasArgs n (map (term_at made) stack)
building-args old made all rest n stack t e b = (can-last rest n (map (term_at made) stack) (b.can t e)).0

within-front : (n : ℕ) (xs ys : List Node) → NodesWithin n (xs ++ ys) → NodesWithin n xs
within-front n [] ys h = tt
within-front n (x ∷ xs) ys h = (h.0, within-front n xs ys h.1)

within-last : (n : ℕ) (xs : List Node) (y : Node) → NodesWithin n (xs ++ y ∷ []) → NodeWithin n y
within-last n [] y h = h.0
within-last n (x ∷ xs) y h = within-last n xs y h.1

more-length : (made more : List (Term ℕ)) (x : Node) → IsMore x made more → length more ≡ length made + 1
more-length made more x m = ap length m.1.0 ∙ length-append made (m.0 ∷ [])

more-within : (made more : List (Term ℕ)) (x : Node) (n : ℕ) → IsMore x made more → NodeWithin n x → AllWithin n made → AllWithin n more
more-within made more x n m h k =
    subst (λ (ts : List (Term ℕ)). AllWithin n ts) (sym m.1.0) (AllWithin-append n made (m.0 ∷ []) k (m.1.1 n h k, tt))

pub building-goes : (old made more : List (Term ℕ)) (all rest : List Node) (n : Node) (stack new : List ℕ)
    → take (length made) more ≡ made → All (λ r. r < length more) new → map (term_at more) new ≡ join n (map (term_at made) stack)
    → IsMore n made more
    → IsBuilding old made all (rest ++ n ∷ []) stack → IsBuilding old more all rest new
building-goes old made more all rest n stack new k there j m b = record {
  built = λ t e. ap (built_onto rest) j ∙ (sym (built-last rest n (map (term_at made) stack)) ∙ b.built t e);
  can = λ t e. subst (λ (s : List (Term ℕ)). CanBuild rest s) (sym j) (can-last rest n (map (term_at made) stack) (b.can t e)).1;
  there = there;
  counted = omega (arith, b.counted, more-length made more n m, length-append rest (n ∷ []));
  within =
      λ i h o. let w = b.within i h o in (more-within made more n i m (within-last i rest n w.1) w.0, within-front i rest (n ∷ []) w.1);
  kept = kept-twice old made more k b.kept;
}

one-long : (made : List (Term ℕ)) (stack : List ℕ) (t : Term ℕ) → map (term_at made) stack ≡ t ∷ [] → length stack ≡ 1
one-long made stack t e = omega (arith, ap length e, length-map stack (term_at made))

pub building-one : (old made : List (Term ℕ)) (all : List Node) (stack : List ℕ) (t : Term ℕ) → all ≡ visit t
    → IsBuilding old made all [] stack → length stack ≡ 1
building-one old made all stack t e b = one-long made stack t (b.built t e)

first-of : (made : List (Term ℕ)) (stack : List ℕ) (t : Term ℕ) (r : ℕ) → r ≡ get_or stack 0 r
    → map (term_at made) stack ≡ t ∷ [] → term_at made r ≡ t
first-of made [] t r e h = absurd cc
first-of made (x ∷ []) t r e h = let q : term_at made x ≡ t = cc in ap (term_at made) e ∙ q
first-of made (x ∷ (y ∷ ys)) t r e h = absurd cc

pub building-ends : (old made : List (Term ℕ)) (all : List Node) (stack : List ℕ) (r : ℕ) → r ≡ get_or stack 0 r
    → IsBuilding old made all [] stack → (t : Term ℕ) → all ≡ visit t → term_at made r ≡ t
building-ends old made all stack r e b t q = first-of made stack t r e (b.built t q)

pub building-there : (old made : List (Term ℕ)) (all : List Node) (stack : List ℕ) (r : ℕ) → r ≡ get_or stack 0 r → length stack ≡ 1
    → IsBuilding old made all [] stack → r < length made
building-there old made all stack r e l b = subst (λ (k : ℕ). k < length made) (sym e) (b.there 0 r (omega arith))

-- a node joins what was made
same-below : (old new : List (Term ℕ)) (r : List (Term ℕ)) → new ≡ old ++ r → (xs : List ℕ) → All (λ x. x < length old) xs
    → map (term_at new) xs ≡ map (term_at old) xs
same-below old new r e [] h = refl
same-below old new r e (x ∷ xs) h =
    let a : term_at new x ≡ term_at old x = ap (λ (ts : List (Term ℕ)). term_at ts x) e
    ∙ get_or_append_left old r (int (pos 0)) x (h 0 0 (omega arith)) in
    let b : map (term_at new) xs ≡ map (term_at old) xs = same-below old new r e xs (λ k d l. h (suc k) d (omega arith)) in
    cc

pub joins : (old new : List (Term ℕ)) (t : Term ℕ) (stack : List ℕ) (at : ℕ) → All (λ x. x < length old) stack → new ≡ old ++ t ∷ []
    → at ≡ length old → map (term_at new) (stack ++ at ∷ []) ≡ map (term_at old) stack ++ t ∷ []
joins old new t stack at h e a =
    let last : term_at new at ≡ t = ap (λ (ts : List (Term ℕ)). term_at ts at) e ∙ (ap (term_at (old ++ t ∷ [])) a
    ∙ get_or-append_seam old t [] (int (pos 0))) in
    map-append (term_at new) stack (at ∷ []) ∙ (ap (λ xs. xs ++ term_at new at ∷ []) (same-below old new (t ∷ []) e stack h)
    ∙ ap (λ x. map (term_at old) stack ++ x ∷ []) last)

args-from-map : (old : List (Term ℕ)) (ps : List ℕ) → args_from (map (term_at old) ps) ≡ args_at old ps
args-from-map old [] = refl
args-from-map old (p ∷ ps) = ap (arg (term_at old p)) (args-from-map old ps)

pub joins-struct : (old : List (Term ℕ)) (stack : List ℕ) (f : Sym) (n from : ℕ) → from ≡ length stack - n
    → join (nodes.Struct f n) (map (term_at old) stack) ≡ map (term_at old) (take from stack) ++ node f.0
    (args_at old (drop from stack)) ∷ []
joins-struct old stack f n from e =
    let l : length (map (term_at old) stack) - n ≡ from = omega (arith, length-map stack (term_at old)) in
    let a : take (length (map (term_at old) stack) - n) (map (term_at old) stack) ≡ map (term_at old) (take from stack) =
    ap (λ (k : ℕ). take k (map (term_at old) stack)) l ∙ take-map (term_at old) from stack in
    let b : args_from (drop (length (map (term_at old) stack) - n) (map (term_at old) stack)) ≡ args_at old (drop from stack) =
    ap (λ (k : ℕ). args_from (drop k (map (term_at old) stack))) l ∙ (ap args_from (drop-map (term_at old) from stack)
    ∙ args-from-map old (drop from stack)) in
    ap (λ xs. xs ++ node f.0 (args_from (drop (length (map (term_at old) stack) - n) (map (term_at old) stack))) ∷ []) a
    ∙ ap (λ x. map (term_at old) (take from stack) ++ node f.0 x ∷ []) b

pub below-take : (n k : ℕ) (xs : List ℕ) → All (λ x. x < n) xs → All (λ x. x < n) (take k xs)
below-take n k xs h i d l =
    let m : i < k = omega (arith, length-take k xs) in
    subst (λ (x : ℕ). x < n) (sym (get_or-take k xs i d m)) (h i d (omega (arith, length-take k xs)))

pub joins-leaf : {E : Type 0} (old new : List (Term ℕ)) (t : Term ℕ) (stack : List ℕ) (n : Node) → All (λ x. x < length old) stack
    → join n (map (term_at old) stack) ≡ map (term_at old) stack ++ t ∷ [] → (r : Result ℕ E) → IfOk r (λ k. k ≡ length old)
    → OnOk r (new ≡ old ++ t ∷ []) → IfOk r (λ at. map (term_at new) (stack ++ at ∷ []) ≡ join n (map (term_at old) stack))
joins-leaf old new t stack n h j (Ok k) a e = joins old new t stack k h e a ∙ sym j
joins-leaf old new t stack n h j (Err x) a e = tt

-- a node's term is one more
pub more-leaf : {E : Type 0} (old new : List (Term ℕ)) (t : Term ℕ) (x : Node) → ((n : ℕ) → NodeWithin n x → IsWithin n t)
    → (r : Result ℕ E) → OnOk r (new ≡ old ++ t ∷ []) → OnOk r (IsMore x old new)
more-leaf old new t x w (Ok k) e = (t, (e, λ n h b. w n h))
more-leaf old new t x w (Err y) e = tt

pub more-node : (old new : List (Term ℕ)) (x : Node) (f : ℕ) (ps : List ℕ) → All (λ p. p < length old) ps
    → new ≡ old ++ node f (args_at old ps) ∷ [] → IsMore x old new
more-node old new x f ps h e = (node f (args_at old ps), (e, λ n i b. args-within n old b ps h))

pub below-drop : (n k : ℕ) (xs : List ℕ) → All (λ x. x < n) xs → All (λ x. x < n) (drop k xs)
below-drop n zero xs h = h
below-drop n (suc k) [] h = h
below-drop n (suc k) (x ∷ xs) h = below-drop n k xs (λ i d l. h (suc i) d (omega arith))

pub none-left : {A : Type 0} (xs : List A) → length xs ≡ 0 → xs ≡ []
none-left [] h = refl
none-left (x ∷ xs) h = absurd (omega arith)

pub pushed-length : {A : Type 0} (xs new : List A) (x : A) → new ≡ xs ++ x ∷ [] → length new ≡ length xs + 1
pushed-length xs new x e = ap length e ∙ length-append xs (x ∷ [])

-- what holds of the nodes of a term holds of the term
pub on-within : {E : Type 0} (old new : List (Term ℕ)) (xs : List Node) (t : Term ℕ) → xs ≡ visit t → (r : Result ℕ E)
    → OnOk r ((n : ℕ) → NodesWithin n xs → AllWithin n old → AllWithin n new)
    → OnOk r ((n : ℕ) → IsWithin n t → AllWithin n old → AllWithin n new)
on-within old new xs t e (Ok k) h = λ n w a. h n (subst (λ (ys : List Node). NodesWithin n ys) (sym e) (visit-within n t w)) a
on-within old new xs t e (Err x) h = tt
