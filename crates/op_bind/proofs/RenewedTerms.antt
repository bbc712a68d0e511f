-- A term with new variables, made from its nodes.
use Rattle.std.proofs.Common.{◌≡◌, ℕ, zero, suc, ◌+◌, ◌<◌, ◌≤◌, Bool, true, false, ◌||◌, List, [], ◌∷◌, ◌++◌, length, get_or, take, map}
use Rattle.std.proofs.Common.{fold, sym, ◌∙◌}
use Rattle.std.proofs.Common.{ap, subst, refl, arith, nat_eq, eqb, append_assoc, length-append, cond}
use Rattle.std.proofs.Common.{Option, Some, None, not, Result, Ok, Err, IfOk}
use Rattle.std.proofs.lemmas.Bool.{eq-eqb, lt-ltb, le-ltb}
use Rattle.std.proofs.lemmas.List.{map-append, append-nil}
use Rattle.std.proofs.lemmas.List.Sums.{prefix_len-le-length}
use Rattle.std.specs.List.{list_any, position, position_or_len}
use Rattle.op_logic.specs.Term.{Term, var, int, node, Args, no_args, arg, arity, IsWithin, ArgsWithin}
use Rattle.op_logic.specs.Laws.{instance_of, instances_of}
use Rattle.op_logic.proofs.BoolCases.{if_true, if_false, by_test, by_order}
use Rattle.op_term.specs.Variables.{with_number, add_variables, add_args_variables, distinct_variables}
use Rattle.op_term.specs.Head.{head, sym as name_of}
use Rattle.op_term.specs.Places.{term_at}
use Rattle.op_term.specs.declared.node.Node.{Node}
use Rattle.op_term.specs.declared.node.Node.TheVariants as nodes
use Rattle.op_bind.specs.Copied.{copied}
use Rattle.op_bind.specs.Visited.{visit, visit_args}
use Rattle.op_bind.specs.inner.Built.{NodesWithin}
use Rattle.op_bind.specs.inner.Renewed.{node_variables, variables_back, renewed_node}

back-append : (xs ys : List Node) → variables_back (xs ++ ys) ≡ variables_back ys ++ variables_back xs
back-append [] ys = sym (append-nil (variables_back ys))
back-append (x ∷ xs) ys =
    ap (λ vs. vs ++ node_variables x) (back-append xs ys) ∙ append_assoc (variables_back ys) (variables_back xs) (node_variables x)

head-none : (f : ℕ) (ts : Args ℕ) → node_variables (head (node f ts)) ≡ []
head-none f no_args = refl
head-none f (arg t ts) = refl

fold-append : (vs xs ys : List ℕ) → fold with_number vs (xs ++ ys) ≡ fold with_number (fold with_number vs xs) ys
fold-append vs [] ys = refl
fold-append vs (x ∷ xs) ys = fold-append (with_number vs x) xs ys

-- a term's nodes from the last back have its variables from the left
mutual
  variables-of-visit : (vs : List ℕ) (t : Term ℕ) → fold with_number vs (variables_back (visit t)) ≡ add_variables vs t
  variables-of-visit vs (var v) = refl
  variables-of-visit vs (int i) = refl
  variables-of-visit vs (node f ts) =
      ap (λ ws. fold with_number vs (variables_back (visit_args ts) ++ ws)) (head-none f ts)
      ∙ (ap (fold with_number vs) (append-nil (variables_back (visit_args ts))) ∙ variables-of-visit_args vs ts)

  variables-of-visit_args : (vs : List ℕ) (ts : Args ℕ) → fold with_number vs (variables_back (visit_args ts)) ≡ add_args_variables vs ts
  variables-of-visit_args vs no_args = refl
  variables-of-visit_args vs (arg t ts) =
      ap (fold with_number vs) (back-append (visit_args ts) (visit t))
      ∙ (fold-append vs (variables_back (visit t)) (variables_back (visit_args ts))
      ∙ (ap (λ ws. fold with_number ws (variables_back (visit_args ts))) (variables-of-visit vs t)
      ∙ variables-of-visit_args (add_variables vs t) ts))

pub met-all : (ns : List Node) (met : List ℕ) (t : Term ℕ) → met ≡ fold with_number [] (variables_back ns) → ns ≡ visit t
    → met ≡ distinct_variables t
met-all ns met t e h = e ∙ (ap (λ ms. fold with_number [] (variables_back ms)) h ∙ variables-of-visit [] t)

-- the nodes before i are still to be met
pub record AreMet (ns : List Node) (i : ℕ) (met : List ℕ) : Type 0 where
  pub rest : fold with_number met (variables_back (take i ns)) ≡ fold with_number [] (variables_back ns)

take-last : (ns : List Node) (i : ℕ) (d : Node) → i < length ns → take (i + 1) ns ≡ take i ns ++ get_or ns i d ∷ []
take-last [] i d h = absurd (omega arith)
take-last (n ∷ ns) zero d h = refl
take-last (n ∷ ns) (suc i) d h =
    let e : suc i + 1 ≡ suc (i + 1) = omega arith in
    ap (λ (k : ℕ). take k (n ∷ ns)) e ∙ ap (λ ms. n ∷ ms) (take-last ns i d (omega arith))

take-all : (ns : List Node) (i : ℕ) → i ≡ length ns → take i ns ≡ ns
take-all [] i h = ap (λ (k : ℕ). take k []) h
take-all (n ∷ ns) i h = ap (λ (k : ℕ). take k (n ∷ ns)) h ∙ ap (λ ms. n ∷ ms) (take-all ns (length ns) refl)

pub none-met : (ns : List Node) (i : ℕ) → i ≡ length ns → AreMet ns i []
none-met ns i h = record { rest = ap (λ ms. fold with_number [] (variables_back ms)) (take-all ns i h) }

pub one-met : (ns : List Node) (i : ℕ) (d : Node) (n : Node) (met new : List ℕ) → i < length ns → n ≡ get_or ns i d
    → new ≡ fold with_number met (node_variables n) → AreMet ns (i + 1) met → AreMet ns i new
one-met ns i d n met new h e f a = record {
  rest =
      ap (λ vs. fold with_number vs (variables_back (take i ns))) f
      ∙ (sym (fold-append met (node_variables n) (variables_back (take i ns)))
      ∙ (ap (λ m. fold with_number met (node_variables m ++ variables_back (take i ns))) e
      ∙ (ap (fold with_number met) (sym (back-append (take i ns) (get_or ns i d ∷ [])))
      ∙ (ap (λ ms. fold with_number met (variables_back ms)) (sym (take-last ns i d h)) ∙ a.rest))));
}

pub all-met : (ns : List Node) (met : List ℕ) → AreMet ns 0 met → met ≡ fold with_number [] (variables_back ns)
all-met ns met a = a.rest

-- a term's nodes with new variables are those of the copy
module _ (first : ℕ) (vs : List ℕ) where
  abbrev new : ℕ → Term ℕ
  new v = var (first + position_or_len (nat_eq v) vs)

  arity-new : (ts : Args ℕ) → arity (instances_of new ts) ≡ arity ts
  arity-new no_args = refl
  arity-new (arg t ts) = ap suc (arity-new ts)

  head-new : (f : ℕ) (ts : Args ℕ) → renewed_node first vs (head (node f ts)) ≡ head (node f (instances_of new ts))
  head-new f no_args = refl
  head-new f (arg t ts) = ap (λ (n : ℕ). nodes.Struct (name_of f) (suc n)) (sym (arity-new ts))

  mutual
    pub renewed-visit : (t : Term ℕ) → map (renewed_node first vs) (visit t) ≡ visit (instance_of new t)
    renewed-visit (var v) = refl
    renewed-visit (int i) = refl
    renewed-visit (node f ts) =
        let a : renewed_node first vs (head (node f ts)) ≡ head (node f (instances_of new ts)) = head-new f ts in
        let b : map (renewed_node first vs) (visit_args ts) ≡ visit_args (instances_of new ts) = renewed-visit_args ts in
        cc

    renewed-visit_args : (ts : Args ℕ) → map (renewed_node first vs) (visit_args ts) ≡ visit_args (instances_of new ts)
    renewed-visit_args no_args = refl
    renewed-visit_args (arg t ts) =
        map-append (renewed_node first vs) (visit_args ts) (visit t)
        ∙ (ap (λ ns. ns ++ map (renewed_node first vs) (visit t)) (renewed-visit_args ts)
        ∙ ap (λ ns. visit_args (instances_of new ts) ++ ns) (renewed-visit t))

pub renewed-copy : (first : ℕ) (ns : List Node) (met : List ℕ) (t : Term ℕ) → met ≡ fold with_number [] (variables_back ns)
    → ns ≡ visit t → map (renewed_node first met) ns ≡ visit (copied first t)
renewed-copy first ns met t e h =
    ap (map (renewed_node first met)) h ∙ (ap (λ vs. map (renewed_node first vs) (visit t)) (met-all ns met t e h)
    ∙ renewed-visit first (distinct_variables t) t)

-- each variable that was met has a place
or-front : (a b c : Bool) → (a || b) ≡ true → (b ≡ true → c ≡ true) → (a || c) ≡ true
or-front true b c h f = refl
or-front false b c h f = f h

any-front : (u : ℕ) (xs ys : List ℕ) → list_any (nat_eq u) xs ≡ true → list_any (nat_eq u) (xs ++ ys) ≡ true
any-front u [] ys k = absurd cc
any-front u (x ∷ xs) ys k =
    or-front (nat_eq u x) (list_any (nat_eq u) xs) (list_any (nat_eq u) (xs ++ ys)) k (any-front u xs ys)

or-right : (a b : Bool) → b ≡ true → (a || b) ≡ true
or-right true b h = refl
or-right false b h = h

any-last : (u : ℕ) (xs : List ℕ) → list_any (nat_eq u) (xs ++ u ∷ []) ≡ true
any-last u [] = ap (λ b. b || false) (eq-eqb u u refl)
any-last u (x ∷ xs) = or-right (nat_eq u x) (list_any (nat_eq u) (xs ++ u ∷ [])) (any-last u xs)

is-there : (v w : ℕ) (vs : List ℕ) → list_any (nat_eq v) vs ≡ true → list_any (nat_eq v) (with_number vs w) ≡ true
is-there v w vs h =
    by_test (list_any (nat_eq w) vs)
    (λ e. ap (list_any (nat_eq v)) (if_true (list_any (nat_eq w) vs) vs (vs ++ w ∷ []) e) ∙ h)
    (λ e. ap (list_any (nat_eq v)) (if_false (list_any (nat_eq w) vs) vs (vs ++ w ∷ []) e) ∙ any-front v vs (w ∷ []) h)

joined : (v : ℕ) (vs : List ℕ) → list_any (nat_eq v) (with_number vs v) ≡ true
joined v vs =
    by_test (list_any (nat_eq v) vs)
    (λ e. ap (list_any (nat_eq v)) (if_true (list_any (nat_eq v) vs) vs (vs ++ v ∷ []) e) ∙ e)
    (λ e. ap (list_any (nat_eq v)) (if_false (list_any (nat_eq v) vs) vs (vs ++ v ∷ []) e) ∙ any-last v vs)

fold-there : (ws vs : List ℕ) (v : ℕ) → list_any (nat_eq v) vs ≡ true → list_any (nat_eq v) (fold with_number vs ws) ≡ true
fold-there [] vs v h = h
fold-there (w ∷ ws) vs v h = fold-there ws (with_number vs w) v (is-there v w vs h)

abbrev AllThere : List ℕ → List ℕ → Type 0
AllThere met [] = Unit {0}
AllThere met (v ∷ vs) = (list_any (nat_eq v) met ≡ true) × AllThere met vs

fold-all : (ws vs : List ℕ) → AllThere (fold with_number vs ws) ws
fold-all [] vs = tt
fold-all (w ∷ ws) vs = (fold-there ws (with_number vs w) w (joined w vs), fold-all ws (with_number vs w))

there-front : (met xs ys : List ℕ) → AllThere met (xs ++ ys) → AllThere met xs
there-front met [] ys h = tt
there-front met (x ∷ xs) ys h = (h.0, there-front met xs ys h.1)

there-back : (met xs ys : List ℕ) → AllThere met (xs ++ ys) → AllThere met ys
there-back met [] ys h = h
there-back met (x ∷ xs) ys h = there-back met xs ys h.1

place-below : (v : ℕ) (vs : List ℕ) → list_any (nat_eq v) vs ≡ true → position_or_len (nat_eq v) vs < length vs
place-below v [] h = absurd cc
place-below v (w ∷ ws) h =
    by_test (nat_eq v w)
    (λ e. let z : position_or_len (nat_eq v) (w ∷ ws) ≡ 0 =
    ap (λ b. cond (not b) (1 + position_or_len (nat_eq v) ws) 0) e in omega (arith, z))
    (λ e. let z : position_or_len (nat_eq v) (w ∷ ws) ≡ 1 + position_or_len (nat_eq v) ws =
    ap (λ b. cond (not b) (1 + position_or_len (nat_eq v) ws) 0) e in
    let t : list_any (nat_eq v) ws ≡ true = ap (λ b. b || list_any (nat_eq v) ws) (sym e) ∙ h in
    omega (arith, z, place-below v ws t))

renewed-within : (first : ℕ) (met : List ℕ) (ns : List Node) → AllThere met (variables_back ns)
    → NodesWithin (first + length met) (map (renewed_node first met) ns)
renewed-within first met [] h = tt
renewed-within first met (nodes.Var v ∷ ns) h =
    let b : AllThere met (v ∷ []) = there-back met (variables_back ns) (v ∷ []) h in
    (omega (arith, place-below v met b.0), renewed-within first met ns (there-front met (variables_back ns) (v ∷ []) h))
renewed-within first met (nodes.Int i ∷ ns) h = (tt, renewed-within first met ns (there-front met (variables_back ns) [] h))
renewed-within first met (nodes.Atom f ∷ ns) h = (tt, renewed-within first met ns (there-front met (variables_back ns) [] h))
renewed-within first met (nodes.Struct f n ∷ ns) h = (tt, renewed-within first met ns (there-front met (variables_back ns) [] h))

pub copy-within : (first : ℕ) (ns : List Node) (met : List ℕ) → met ≡ fold with_number [] (variables_back ns)
    → NodesWithin (first + length met) (map (renewed_node first met) ns)
copy-within first ns met e =
    renewed-within first met ns (subst (λ (vs : List ℕ). AllThere vs (variables_back ns)) (sym e) (fold-all (variables_back ns) []))

-- a variable that is not found stands past the end
pub place-found : (v at : ℕ) (vs : List ℕ) → Some at ≡ position (nat_eq v) vs → at ≡ position_or_len (nat_eq v) vs
place-found v at vs h =
    by_order (position_or_len (nat_eq v) vs) (length vs)
    (λ l. let e = h ∙ if_true _ _ _ (lt-ltb (position_or_len (nat_eq v) vs) (length vs) l) in some-same at _ e)
    (λ l. let e = h ∙ if_false _ _ _ (le-ltb (position_or_len (nat_eq v) vs) (length vs) l) in absurd cc)
  where
    some-same : (m n : ℕ) → Some m ≡ Some n → m ≡ n
    some-same m n k = cc

pub place-absent : (v : ℕ) (vs : List ℕ) → None ≡ position (nat_eq v) vs → length vs ≡ position_or_len (nat_eq v) vs
place-absent v vs h =
    by_order (position_or_len (nat_eq v) vs) (length vs)
    (λ l. let e = h ∙ if_true _ _ _ (lt-ltb (position_or_len (nat_eq v) vs) (length vs) l) in absurd cc)
    (λ l. omega (arith, l, prefix_len-le-length (λ w. not (nat_eq v w)) vs))

pub place-within : (v : ℕ) (vs : List ℕ) → position_or_len (nat_eq v) vs ≤ length vs
place-within v vs = prefix_len-le-length (λ w. not (nat_eq v w)) vs

pub copy-count : (first count : ℕ) (ns : List Node) (met : List ℕ) (t : Term ℕ) → met ≡ fold with_number [] (variables_back ns)
    → ns ≡ visit t → count ≡ first + length met → count ≡ first + length (distinct_variables t)
copy-count first count ns met t e h c = c ∙ ap (λ vs. first + length vs) (met-all ns met t e h)

-- what holds of the nodes of a copy holds of the copy
pub on-copy : {E : Type 0} (made : List (Term ℕ)) (first : ℕ) (ns renewed : List Node) (met : List ℕ)
    → met ≡ fold with_number [] (variables_back ns) → renewed ≡ map (renewed_node first met) ns → (r : Result ℕ E)
    → IfOk r (λ at. (t : Term ℕ) → renewed ≡ visit t → term_at made at ≡ t)
    → IfOk r (λ at. (t : Term ℕ) → ns ≡ visit t → term_at made at ≡ copied first t)
on-copy made first ns renewed met e f (Ok at) h = λ t q. h (copied first t) (f ∙ renewed-copy first ns met t e q)
on-copy made first ns renewed met e f (Err x) h = tt
