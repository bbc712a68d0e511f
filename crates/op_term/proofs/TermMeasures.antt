-- A term is walked with a stack of the terms that are still to be met.
use Rattle.std.proofs.Common.{◌≡◌, ℕ, suc, ◌+◌, ◌<◌, Bool, true, false, not, ◌&&◌, List, [], ◌∷◌, ◌++◌, length, map, sym, ◌∙◌, ap, refl}
use Rattle.std.proofs.Common.{arith}
use Rattle.std.proofs.lemmas.List.{map-append}
use Rattle.op_logic.specs.Term.{Term, var, int, node, Args, no_args, arg, args_of, size, args_size}
use Rattle.op_term.specs.Arguments.{args_list}
use Rattle.op_term.specs.Variables.{has_no_variable, have_no_variable}
use Rattle.op_term.specs.Head.{head}
use Rattle.op_term.specs.declared.node.Node.{Node}
use Rattle.op_term.specs.inner.Measured.{is_variable}

-- the nodes of all terms, and whether none of them has a variable
abbrev pub sizes : List (Term ℕ) → ℕ
sizes [] = 0
sizes (t ∷ ts) = size t + sizes ts

abbrev pub none_has : List (Term ℕ) → Bool
none_has [] = true
none_has (t ∷ ts) = has_no_variable t && none_has ts

sizes-append : (ts us : List (Term ℕ)) → sizes (ts ++ us) ≡ sizes ts + sizes us
sizes-append [] us = omega arith
sizes-append (t ∷ ts) us = omega (arith, sizes-append ts us)

sizes-list : (ts : Args ℕ) → sizes (args_list ts) ≡ args_size ts
sizes-list no_args = refl
sizes-list (arg t ts) = omega (arith, sizes-list ts)

and-assoc : (a b c : Bool) → ((a && b) && c) ≡ (a && (b && c))
and-assoc true b c = refl
and-assoc false b c = refl

and-true : (a : Bool) → (a && true) ≡ a
and-true true = refl
and-true false = refl

and-swap : (a b : Bool) → (a && b) ≡ (b && a)
and-swap true true = refl
and-swap true false = refl
and-swap false true = refl
and-swap false false = refl

none-append : (ts us : List (Term ℕ)) → none_has (ts ++ us) ≡ (none_has ts && none_has us)
none-append [] us = refl
none-append (t ∷ ts) us = ap (λ b. has_no_variable t && b) (none-append ts us)
    ∙ sym (and-assoc (has_no_variable t) (none_has ts) (none_has us))

none-list : (ts : Args ℕ) → none_has (args_list ts) ≡ have_no_variable ts
none-list no_args = refl
none-list (arg t ts) = ap (λ b. has_no_variable t && b) (none-list ts)

none-head : (t : Term ℕ) → has_no_variable t ≡ (not (is_variable (head t)) && have_no_variable (args_of t))
none-head (var v) = refl
none-head (int i) = refl
none-head (node f no_args) = refl
none-head (node f (arg t ts)) = refl

size-head : (t : Term ℕ) → size t ≡ 1 + args_size (args_of t)
size-head (var v) = refl
size-head (int i) = refl
size-head (node f ts) = omega arith

size-some : (t : Term ℕ) → 0 < size t
size-some t = omega (arith, size-head t)

-- what was met and what is still to be met is the whole term
pub record IsMeasuring (t : Term ℕ) (start left : ℕ) (none : Bool) (todo : List (Term ℕ)) : Type 0 where
  pub paid : start + sizes todo ≡ left + size t
  pub found : (none && none_has todo) ≡ has_no_variable t

pub measuring-starts : (t : Term ℕ) (start : ℕ) → IsMeasuring t start start true (t ∷ [])
measuring-starts t start = record { paid = omega arith; found = and-true (has_no_variable t) }

module _ {P : Type 0} (term : P → Term ℕ) (t : Term ℕ) (start left : ℕ) (none : Bool) where
  pub measuring-ends : IsMeasuring t start left none (map term []) → (none ≡ has_no_variable t) × (start ≡ left + size t)
  measuring-ends m = (sym (and-true none) ∙ m.found, omega (arith, m.paid))

  module _ (rest : List P) (next : P) (m : IsMeasuring t start left none (map term (rest ++ next ∷ []))) where
    last-paid : start + (sizes (map term rest) + size (term next)) ≡ left + size t
    last-paid = omega (
      arith,
      m.paid,
      ap sizes (map-append term rest (next ∷ [])),
      sizes-append (map term rest) (term next ∷ []),
    )

    last-found : (none && (none_has (map term rest) && has_no_variable (term next))) ≡ has_no_variable t
    last-found =
        ap (λ b. none && (none_has (map term rest) && b)) (sym (and-true (has_no_variable (term next))))
        ∙ (ap (λ b. none && b) (sym (none-append (map term rest) (term next ∷ [])))
        ∙ (ap (λ ts. none && none_has ts) (sym (map-append term rest (next ∷ []))) ∙ m.found))

    pub measuring-spent : left < 1 → start < size t
    measuring-spent h = omega (arith, last-paid, size-some (term next))

    pub measuring-goes : (after : ℕ) (more : List P) (n : Node) (b : Bool) → left ≡ after + 1 → n ≡ head (term next)
        → b ≡ (not (is_variable n) && none) → map term more ≡ map term rest ++ args_list (args_of (term next))
        → IsMeasuring t start after b (map term more)
    measuring-goes after more n b l h e g =
        let x = not (is_variable n) in
        let rs = none_has (map term rest) in
        let ys = have_no_variable (args_of (term next)) in
        let whole : has_no_variable (term next) ≡ (x && ys) =
        none-head (term next) ∙ ap (λ k. not (is_variable k) && ys) (sym h) in
        record {
          paid = omega (
            arith,
            last-paid,
            size-head (term next),
            ap sizes g,
            sizes-append (map term rest) (args_list (args_of (term next))),
            sizes-list (args_of (term next)),
          );
          found =
              ap (λ c. c && none_has (map term more)) (e ∙ and-swap x none)
              ∙ (ap (λ ts. (none && x) && none_has ts) g
              ∙ (ap (λ c. (none && x) && c) (none-append (map term rest) (args_list (args_of (term next)))
              ∙ ap (λ c. rs && c) (none-list (args_of (term next))))
              ∙ (and-assoc none x (rs && ys)
              ∙ (ap (λ c. none && c) (sym (and-assoc x rs ys) ∙ (ap (λ c. c && ys) (and-swap x rs) ∙ and-assoc rs x ys))
              ∙ (ap (λ c. none && (rs && c)) (sym whole) ∙ last-found)))));
        }

pub none-left : {A : Type 0} (xs : List A) → length xs ≡ 0 → xs ≡ []
none-left [] h = refl
none-left (x ∷ xs) h = absurd (omega arith)
