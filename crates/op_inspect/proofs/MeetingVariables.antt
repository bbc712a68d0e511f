-- The variables of a term, as they are met on a walk from the right and then by their places from the left.
use Rattle.std.proofs.Common.{◌≡◌, ℕ, ◌+◌, ◌<◌, nat_eq, not, Bool, true, false, List, [], ◌∷◌, ◌++◌, length, map, All}
use Rattle.std.proofs.Common.{refl, sym, ap, ◌∙◌, subst, arith, if◌then◌else◌}
use Rattle.std.proofs.lemmas.List.{map-append}
use Rattle.std.proofs.lemmas.List.Elements.{All-nil, All-cons, All-head, All-tail}
use Rattle.std.specs.List.{list_any}
use Rattle.op_logic.specs.Term.{Term, var, int, node, Args, no_args, arg, args_of, size, args_size}
use Rattle.op_logic.specs.Bind.{follow}
use Rattle.op_logic.specs.Laws.{Acyclic}
use Rattle.op_logic.specs.Names.{named, HasNames}
use Rattle.op_term.specs.Arguments.{args_list}
use Rattle.op_term.specs.Head.{head}
use Rattle.op_term.specs.Places.{term_at}
use Rattle.op_term.specs.Variables.{add_variables, add_args_variables}
use Rattle.op_term.specs.declared.node.Node.{Node}
use Rattle.op_term.specs.declared.node.Node.TheVariants as nodes
use Rattle.op_bind.specs.State.{State, bindings, value_of}
use Rattle.op_bind.proofs.ValueHeads.{head-value}
use Rattle.op_inspect.specs.Copies.{variables_as}
use Rattle.op_inspect.specs.Outcomes.{IsKnown}
use Rattle.op_inspect.specs.inner.Met.{with_node, met_back, met_on}
use Rattle.op_inspect.specs.inner.Seen.{texts}

-- nodes that are no variables add none
pub with-other : (vs : List ℕ) (n : Node) → ((v : ℕ) → n ≡ nodes.Var v → ⊥) → with_node vs n ≡ vs
with-other vs (nodes.Var v) h = absurd (h v refl)
with-other vs (nodes.Int i) h = refl
with-other vs (nodes.Atom f) h = refl
with-other vs (nodes.Struct f n) h = refl

head-var : (t : Term ℕ) (v : ℕ) → nodes.Var v ≡ head t → t ≡ var v
head-var (var u) v e = let same : v ≡ u = cc in ap var (sym same)
head-var (int i) v e = absurd cc
head-var (node f no_args) v e = absurd cc
head-var (node f (arg t ts)) v e = absurd cc

args-then-node : (vs : List ℕ) (t : Term ℕ) → with_node (add_args_variables vs (args_of t)) (head t) ≡ add_variables vs t
args-then-node vs (var v) = refl
args-then-node vs (int i) = refl
args-then-node vs (node f no_args) = refl
args-then-node vs (node f (arg t ts)) = refl

on-append : (vs : List ℕ) (ts us : List (Term ℕ)) → met_on vs (ts ++ us) ≡ met_on (met_on vs ts) us
on-append vs [] us = refl
on-append vs (t ∷ ts) us = on-append (add_variables vs t) ts us

on-list : (vs : List ℕ) (ts : Args ℕ) → met_on vs (args_list ts) ≡ add_args_variables vs ts
on-list vs no_args = refl
on-list vs (arg t ts) = on-list (add_variables vs t) ts

-- the nodes of all terms
abbrev pub sizes : List (Term ℕ) → ℕ
sizes [] = 0
sizes (t ∷ ts) = size t + sizes ts

sizes-append : (ts us : List (Term ℕ)) → sizes (ts ++ us) ≡ sizes ts + sizes us
sizes-append [] us = omega arith
sizes-append (t ∷ ts) us = omega (arith, sizes-append ts us)

sizes-list : (ts : Args ℕ) → sizes (args_list ts) ≡ args_size ts
sizes-list no_args = refl
sizes-list (arg t ts) = omega (arith, sizes-list ts)

size-head : (t : Term ℕ) → size t ≡ 1 + args_size (args_of t)
size-head (var v) = refl
size-head (int i) = refl
size-head (node f ts) = omega arith

module _ (s : State) where
  pub back-push : (vs rs : List ℕ) (r : ℕ) → met_back s vs (rs ++ r ∷ []) ≡ met_back s (with_node vs (head (term_at s.terms r))) rs
  back-push vs [] r = refl
  back-push vs (q ∷ rs) r = ap (λ (us : List ℕ). with_node us (head (term_at s.terms q))) (back-push vs rs r)

  pub back-popped : (vs rs all : List ℕ) (r : ℕ) → all ≡ rs ++ r ∷ [] → met_back s vs all
      ≡ met_back s (with_node vs (head (term_at s.terms r))) rs
  back-popped vs rs all r e = ap (met_back s vs) e ∙ back-push vs rs r

  -- a Ref that was followed has its value's node
  module _ (r q : ℕ) (n : Node) (acyclic : Acyclic (bindings s)) (is : term_at s.terms q ≡ follow (bindings s) (term_at s.terms r))
      (outline : n ≡ head (term_at s.terms q)) where
    same-node : head (term_at s.terms q) ≡ head (value_of s r)
    same-node = head-value (bindings s) acyclic (term_at s.terms r) (term_at s.terms q) is

    pub noted : (rs all : List ℕ) → all ≡ rs ++ q ∷ [] → (vs : List ℕ) → met_back s vs all ≡ met_back s (with_node vs (head (value_of s r))) rs
    noted rs all e vs = back-popped vs rs all q e ∙ ap (λ (m : Node). met_back s (with_node vs m) rs) same-node

    pub not-noted : (rs : List ℕ) → ((v : ℕ) → n ≡ nodes.Var v → ⊥) → (vs : List ℕ)
        → met_back s vs rs ≡ met_back s (with_node vs (head (value_of s r))) rs
    not-noted rs other vs =
        ap (λ (us : List ℕ). met_back s us rs) (sym (with-other vs n other) ∙ ap (with_node vs) (outline ∙ same-node))

  -- a term on top of the walk's stack is replaced by its arguments
  module _ (rest all more : List ℕ) (next : ℕ) (popped : all ≡ rest ++ next ∷ [])
      (pushed : map (value_of s) more ≡ map (value_of s) rest ++ args_list (args_of (value_of s next))) where
    before : map (value_of s) all ≡ map (value_of s) rest ++ value_of s next ∷ []
    before = ap (map (value_of s)) popped ∙ map-append (value_of s) rest (next ∷ [])

    pub walked-smaller : sizes (map (value_of s) more) < sizes (map (value_of s) all)
    walked-smaller =
        omega (
          arith,
          ap sizes before,
          sizes-append (map (value_of s) rest) (value_of s next ∷ []),
          size-head (value_of s next),
          ap sizes pushed,
          sizes-append (map (value_of s) rest) (args_list (args_of (value_of s next))),
          sizes-list (args_of (value_of s next)),
        )

    pub walked : (old new found : List ℕ)
        → ((vs : List ℕ) → met_back s vs new ≡ met_back s (with_node vs (head (value_of s next))) old)
        → met_back s (met_on [] (map (value_of s) all)) old ≡ found → met_back s (met_on [] (map (value_of s) more)) new ≡ found
    walked old new found note e =
        let t : Term ℕ = value_of s next in
        let left : List ℕ = met_on [] (map (value_of s) rest) in
        let args : met_on [] (map (value_of s) more) ≡ add_args_variables left (args_of t) =
        ap (met_on []) pushed ∙ (on-append [] (map (value_of s) rest) (args_list (args_of t)) ∙ on-list left (args_of t)) in
        let whole : met_on [] (map (value_of s) all) ≡ add_variables left t =
        ap (met_on []) before ∙ on-append [] (map (value_of s) rest) (t ∷ []) in
        ap (λ (vs : List ℕ). met_back s vs new) args
        ∙ (note (add_args_variables left (args_of t))
        ∙ (ap (λ (vs : List ℕ). met_back s vs old) (args-then-node left t ∙ sym whole) ∙ e))

  -- places of variables
  pub place-joins : (found all ks new : List ℕ) (place v : ℕ) → all ≡ found ++ place ∷ [] → map (term_at s.terms) found ≡ map var ks
      → nodes.Var v ≡ head (term_at s.terms place) → new ≡ ks ++ v ∷ [] → map (term_at s.terms) all ≡ map var new
  place-joins found all ks new place v e old n k =
      ap (map (term_at s.terms)) e
      ∙ (map-append (term_at s.terms) found (place ∷ [])
      ∙ (ap (λ (t : Term ℕ). map (term_at s.terms) found ++ t ∷ []) (head-var (term_at s.terms place) v n)
      ∙ (ap (λ (ts : List (Term ℕ)). ts ++ var v ∷ []) old ∙ (sym (map-append var ks (v ∷ [])) ∙ ap (map var) (sym k)))))

-- a number that joins, or is there
pub key-new : (ks : List ℕ) (v : ℕ) (b : Bool) → b ≡ not (list_any (nat_eq v) ks) → b ≡ true
    → (if list_any (nat_eq v) ks then ks else ks ++ v ∷ []) ≡ ks ++ v ∷ []
key-new ks v b e t = go (list_any (nat_eq v) ks) (sym e ∙ t)
  where
    go : (c : Bool) → not c ≡ true → (if c then ks else ks ++ v ∷ []) ≡ ks ++ v ∷ []
    go true h = absurd cc
    go false h = refl

pub key-there : (ks : List ℕ) (v : ℕ) (b : Bool) → b ≡ not (list_any (nat_eq v) ks) → b ≡ false
    → (if list_any (nat_eq v) ks then ks else ks ++ v ∷ []) ≡ ks
key-there ks v b e t = go (list_any (nat_eq v) ks) (sym e ∙ t)
  where
    go : (c : Bool) → not c ≡ false → (if c then ks else ks ++ v ∷ []) ≡ ks
    go true h = refl
    go false h = absurd cc

-- variables as terms over texts
module _ (names : List (List ℕ)) (s : State) where
  pub variables-texts : (rs vs : List ℕ) → map (term_at s.terms) rs ≡ map var vs → texts names s rs ≡ variables_as vs
  variables-texts [] [] e = refl
  variables-texts [] (v ∷ vs) e = absurd cc
  variables-texts (r ∷ rs) [] e = absurd cc
  variables-texts (r ∷ rs) (v ∷ vs) e =
      let first : term_at s.terms r ≡ var v = cc in
      let others : map (term_at s.terms) rs ≡ map var vs = cc in
      ap (λ (x : Term ℕ). arg (named names x) (texts names s rs)) first ∙ ap (arg (var v)) (variables-texts rs vs others)

  pub variables-known : (rs vs : List ℕ) → map (term_at s.terms) rs ≡ map var vs → All (λ r. r < length s.terms) rs → All (IsKnown names s) rs
  variables-known [] vs e h = All-nil (IsKnown names s)
  variables-known (r ∷ rs) [] e h = absurd cc
  variables-known (r ∷ rs) (v ∷ vs) e h =
      let first : term_at s.terms r ≡ var v = cc in
      let others : map (term_at s.terms) rs ≡ map var vs = cc in
      All-cons (IsKnown names s) r rs
      (All-head (λ q. q < length s.terms) r rs h, subst (HasNames (length names)) (sym first) tt)
      (variables-known rs vs others (All-tail (λ q. q < length s.terms) r rs h))
