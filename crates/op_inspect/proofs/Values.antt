-- Acts on values: what the code's measures and comparisons say of terms over texts.
use Rattle.std.proofs.Common.{◌≡◌, ℕ, ◌+◌, List, [], ◌∷◌, length, Option, Some, None, Result, Ok, refl, sym, ap, ◌∙◌, subst, arith}
use Rattle.std.specs.declared.cmp.Ordering.{Ordering}
use Rattle.op_logic.specs.Term.{Term, size}
use Rattle.op_logic.specs.Bind.{Bindings, Solved, apply, unify}
use Rattle.op_logic.specs.Names.{name_at, named, HasNames}
use Rattle.op_logic.proofs.UnifierNames.{apply-names}
use Rattle.op_logic.proofs.RenamedUnification.{size-rename}
use Rattle.op_term.specs.Places.{term_at}
use Rattle.op_term.specs.Order.{standard_order, pairs_compared}
use Rattle.op_term.specs.Variables.{has_no_variable, distinct_variables}
use Rattle.op_bind.specs.State as bind
use Rattle.op_bind.specs.State.{State, value_of}
use Rattle.op_bind.specs.Copied as copies
use Rattle.op_trace.specs.Database.{Text, text_eq}
use Rattle.op_trace.specs.Copy.{variables_of, copied}
use Rattle.op_trace.specs.World.{World}
use Rattle.op_trace.specs.Act.{Act, Yield, Throws, done, pay}
use Rattle.op_trace.specs.Builtins.{throw}
use Rattle.op_inspect.proofs.CopiedVariables.{copied-within}
use Rattle.op_inspect.specs.Answering.{decided, by_unifier, succeeds_with, unify_terms}
use Rattle.op_inspect.specs.Comparison.{compared}
use Rattle.op_inspect.specs.TypeTests.{ground_act}
use Rattle.op_inspect.specs.Copies.{copy_act, variables_as, variables_listed}
use Rattle.op_inspect.specs.Lists.{list_of}
use Rattle.op_inspect.specs.Outcomes.{text_at, texts_of, Answers, IsKnown, IsSetting}
use Rattle.op_inspect.specs.declared.outcome.Outcome.{Outcome}
use Rattle.op_inspect.specs.declared.outcome.Outcome.TheVariants.{Throw}
use Rattle.op_inspect.specs.inner.Settings.{Stays, Makes}
use Rattle.op_bind.specs.Grown.{Grows}
use Rattle.op_term.specs.declared.walk.WalkFault.{WalkFault}
use Rattle.op_inspect.proofs.Acting.{IsPart, same-part, paid-answers, paid-then, made-answers}
use Rattle.op_inspect.proofs.TextsLater.{value-text, stays-self, text-later, texts-later}
use Rattle.op_inspect.proofs.NamedCopies.{ground-named, variables-named, copied-named, copied-names}

-- a unification in another world, with terms and bindings that are the same
pub unifier-world : (o : Option (Solved Text)) (left : ℕ) (before after : World) (h : Option (Bindings Text) → Yield)
    → IsPart 0 (by_unifier o left before after h) (by_unifier o left after after h)
unifier-world None left before after h = record { cost = omega arith; after = refl; yield = refl }
unifier-world (Some r) left before after h = record { cost = omega arith; after = refl; yield = refl }

pub unified-part : (w a b : World) (t x u y : Term Text) (σ τ : Bindings Text) (left : ℕ) → a ≡ b → t ≡ x → u ≡ y → σ ≡ τ
    → IsPart 0 (unify_terms t u left σ w a) (unify_terms x y left τ b b)
unified-part w a b t x u y σ τ left ab tx uy στ =
    let same : unify_terms t u left σ w a ≡ unify_terms x y left τ w b =
    ap (λ (v : World). unify_terms t u left σ w v) ab ∙ (ap (λ (z : Term Text). unify_terms z u left σ w b) tx
    ∙ (ap (λ (z : Term Text). unify_terms x z left σ w b) uy ∙ ap (λ (ρ : Bindings Text). unify_terms x y left ρ w b) στ)) in
    subst (λ (z : Act). IsPart 0 z (unify_terms x y left τ b b)) (sym same)
    (unifier-world (unify text_eq left τ ((x, y) ∷ [])) left w b succeeds_with)

module _ (names : List (List ℕ)) (s : State) where
  pub value-known : (r : ℕ) → IsSetting names s → IsKnown names s r → HasNames (length names) (value_of s r)
  value-known r h k = apply-names (length names) (bind.bindings s) (term_at s.terms r) h k.1

  abbrev value : ℕ → Term Text
  value r = named names (value_of s r)

  abbrev applied : ℕ → Term Text
  applied r = apply (texts_of names s) (text_at names s r)

  pub compared-value : (a b left : ℕ) (w : World) (rest : Ordering → ℕ → Act)
      → compared (text_at names s a) (text_at names s b) left (texts_of names s) w rest
      ≡ pay (pairs_compared (named names (value_of s a)) (named names (value_of s b))) left w
      (rest (standard_order (named names (value_of s a)) (named names (value_of s b))))
  compared-value a b left w rest =
      let f : Term Text → Term Text → Act = λ x y. pay (pairs_compared x y) left w (rest (standard_order x y)) in
      ap (λ (x : Term Text). f x (applied b)) (sym (value-text names s a))
      ∙ ap (λ (y : Term Text). f (value a) y) (sym (value-text names s b))

  pub ground-value : (r left : ℕ) (w : World) → ground_act (text_at names s r) left (texts_of names s) w
      ≡ pay (size (value_of s r)) left w (λ l. decided (has_no_variable (value_of s r)) (texts_of names s) w)
  ground-value r left w =
      let σ : Bindings Text = texts_of names s in
      ap (λ (x : Term Text). pay (size x) left w (λ l. decided (has_no_variable x) σ w)) (sym (value-text names s r))
      ∙ (ap (λ (n : ℕ). pay n left w (λ l. decided (has_no_variable (value r)) σ w)) (size-rename (name_at names) (value_of s r))
      ∙ ap (λ b. pay (size (value_of s r)) left w (λ l. decided b σ w)) (ground-named names (value_of s r)))

  pub throw-value : (r left : ℕ) (w : World) → throw left (texts_of names s) (text_at names s r) w
      ≡ pay (size (value_of s r)) left w
      (λ l. done (record w { variables = w.variables + length (distinct_variables (value_of s r)) })
      (Throws (named names (copies.copied w.variables (value_of s r)))))
  throw-value r left w =
      ap (λ (x : Term Text). pay (size x) left w (λ l. done (record w { variables = w.variables + length (variables_of x) })
      (Throws (copied w.variables x)))) (sym (value-text names s r))
      ∙ (ap (λ (n : ℕ). pay n left w (λ l. done (record w { variables = w.variables + length (variables_of (value r)) })
      (Throws (copied w.variables (value r))))) (size-rename (name_at names) (value_of s r))
      ∙ (ap (λ (vs : List ℕ). pay (size (value_of s r)) left w (λ l. done (record w { variables = w.variables + length vs })
      (Throws (copied w.variables (value r))))) (variables-named names (value_of s r))
      ∙ ap (λ (x : Term Text). pay (size (value_of s r)) left w (λ l. done (record w {
        variables = w.variables
            + length (distinct_variables (value_of s r));
      }) (Throws x))) (copied-named names w.variables (value_of s r))))

  pub copy-value : (r left : ℕ) (u : Term Text) (w : World) → copy_act (text_at names s r) u left (texts_of names s) w
      ≡ pay (size (value_of s r)) left w
      (λ l. unify_terms u (named names (copies.copied w.variables (value_of s r))) l (texts_of names s) w
      (record w { variables = w.variables + length (distinct_variables (value_of s r)) }))
  copy-value r left u w =
      let σ : Bindings Text = texts_of names s in
      ap (λ (x : Term Text). pay (size x) left w (λ l. unify_terms u (copied w.variables x) l σ w
      (record w { variables = w.variables + length (variables_of x) }))) (sym (value-text names s r))
      ∙ (ap (λ (n : ℕ). pay n left w (λ l. unify_terms u (copied w.variables (value r)) l σ w
      (record w { variables = w.variables + length (variables_of (value r)) }))) (size-rename (name_at names) (value_of s r))
      ∙ (ap (λ (vs : List ℕ). pay (size (value_of s r)) left w (λ l. unify_terms u (copied w.variables (value r)) l σ w
      (record w { variables = w.variables + length vs }))) (variables-named names (value_of s r))
      ∙ ap (λ (x : Term Text). pay (size (value_of s r)) left w (λ l. unify_terms u x l σ w (record w {
        variables = w.variables
            + length (distinct_variables (value_of s r));
      }))) (copied-named names w.variables (value_of s r))))

  pub variables-value : (r left : ℕ) (l : Term Text) (w : World) → variables_listed (text_at names s r) l left (texts_of names s) w
      ≡ pay (size (value_of s r)) left w
      (λ k. unify_terms l (list_of (variables_as (distinct_variables (value_of s r)))) k (texts_of names s) w w)
  variables-value r left l w =
      let σ : Bindings Text = texts_of names s in
      ap (λ (x : Term Text). pay (size x) left w (λ k. unify_terms l (list_of (variables_as (variables_of x))) k σ w w))
      (sym (value-text names s r))
      ∙ (ap (λ (n : ℕ). pay n left w (λ k. unify_terms l (list_of (variables_as (variables_of (value r)))) k σ w w))
      (size-rename (name_at names) (value_of s r))
      ∙ ap (λ (vs : List ℕ). pay (size (value_of s r)) left w (λ k. unify_terms l (list_of (variables_as vs)) k σ w w))
      (variables-named names (value_of s r)))

  -- a ball that was made
  pub thrown-answers : (r : ℕ) (u : State) (left after : ℕ) (t : Term ℕ) → IsSetting names s → IsKnown names s r → Grows s u
      → u.count ≡ s.count + length (distinct_variables (value_of s r)) → t ≡ copies.copied s.count (value_of s r)
      → left ≡ after + size (value_of s r)
      → Answers (throw left (texts_of names s) (text_at names s r)) names s left (Ok (Throw t)) names u after
  thrown-answers r u left after t setting known grows count is paid =
      let v : Term ℕ = value_of s r in
      paid-answers (throw left (texts_of names s) (text_at names s r)) (size v)
      (λ l w. done (record w { variables = w.variables + length (distinct_variables v) })
      (Throws (named names (copies.copied w.variables v)))) names names s u left after after (Ok (Throw t))
      (λ w. throw-value r left w) paid
      (record {
        answer = (
          λ w same. record {
            cost = omega arith;
            world = let e : w.variables + length (distinct_variables v) ≡ u.count = omega (arith, same, count) in
                ap (λ (n : ℕ). record w { variables = n }) e;
            yield = ap (λ (n : ℕ). Throws (named names (copies.copied n v))) same ∙ ap (λ (x : Term ℕ). Throws (named names x)) (sym is);
          },
          (
            subst (HasNames (length names)) (sym is) (copied-names (length names) s.count v (value-known r setting known)),
            copied-within s.count v t u.count is count,
          ),
        );
        kept = (stays-self names s).kept;
        grows = grows;
        falls = omega arith;
      })

  -- a copy that was made is unified
  pub copied-answers : (r q c : ℕ) (t u : State) (left middle after : ℕ) (x : Result Outcome WalkFault) → IsSetting names s
      → IsKnown names s q
      → Grows s t → bind.bindings t ≡ bind.bindings s → t.count ≡ s.count + length (distinct_variables (value_of s r))
      → term_at t.terms c ≡ copies.copied s.count (value_of s r) → left ≡ middle + size (value_of s r)
      → Answers (λ w. unify_terms (text_at names t q) (text_at names t c) middle (texts_of names t) w w) names t middle x names u after
      → Answers (copy_act (text_at names s r) (text_at names s q) left (texts_of names s)) names s left x names u after
  copied-answers r q c t u left middle after x setting known grows bound count is paid rest =
      let v : Term ℕ = value_of s r in
      let stays : Stays names names s t = record { kept = (stays-self names s).kept; grows = grows } in
      let other : text_at names t q ≡ text_at names s q = text-later names names s t q stays known in
      let σ : texts_of names t ≡ texts_of names s = texts-later names names s t stays bound setting in
      paid-then (copy_act (text_at names s r) (text_at names s q) left (texts_of names s)) (size v)
      (λ l w. unify_terms (text_at names s q) (named names (copies.copied w.variables v)) l (texts_of names s) w
      (record w { variables = w.variables + length (distinct_variables v) }))
      (λ w. unify_terms (text_at names t q) (text_at names t c) middle (texts_of names t) w w) names names names s t u left middle after x
      stays (λ w. copy-value r left (text_at names s q) w) paid
      (λ w same.
      let e : w.variables + length (distinct_variables v) ≡ t.count = omega (arith, same, count) in
      unified-part w (record w { variables = w.variables + length (distinct_variables v) }) (record w { variables = t.count })
      (text_at names s q) (text_at names t q) (named names (copies.copied w.variables v)) (text_at names t c) (texts_of names s)
      (texts_of names t) middle (ap (λ (n : ℕ). record w { variables = n }) e) (sym other)
      (ap (λ (n : ℕ). named names (copies.copied n v)) same ∙ ap (named names) (sym is)) (sym σ))
      rest

-- steps are paid, a term is made, and it is unified with another
pub made-unified : (A : World → Act) (k : ℕ) (X : Term Text) (a b c : List (List ℕ)) (s t u : State) (q m left middle after : ℕ)
    (r : Result Outcome WalkFault) → Makes a s b t m X → Stays a b s t → IsSetting a s → IsKnown a s q
    → ((w : World) → A w ≡ pay k left w (λ l. unify_terms (text_at a s q) X l (texts_of a s) w w)) → left ≡ middle + k
    → Answers (λ w. unify_terms (text_at b t q) (text_at b t m) middle (texts_of b t) w w) b t middle r c u after
    → Answers A a s left r c u after
made-unified A k X a b c s t u q m left middle after r made stays setting known is paid x =
    paid-then A k (λ l w. unify_terms (text_at a s q) X l (texts_of a s) w w)
    (λ w. unify_terms (text_at b t q) (text_at b t m) middle (texts_of b t) w w) a b c s t u left middle after r stays is paid
    (λ w same.
    let v : World = record w { variables = t.count } in
    let here : w ≡ v = ap (λ (n : ℕ). record w { variables = n }) (same ∙ sym made.count) in
    same-part (unify_terms (text_at a s q) X middle (texts_of a s) w w)
    (unify_terms (text_at b t q) (text_at b t m) middle (texts_of b t) v v)
    (ap (λ (y : World). unify_terms (text_at a s q) X middle (texts_of a s) y y) here
    ∙ (ap (λ (y : Term Text). unify_terms y X middle (texts_of a s) v v) (sym (text-later a b s t q stays known))
    ∙ (ap (λ (y : Term Text). unify_terms (text_at b t q) y middle (texts_of a s) v v) (sym made.text)
    ∙ ap (λ (σ : Bindings Text). unify_terms (text_at b t q) (text_at b t m) middle σ v v)
    (sym (texts-later a b s t stays made.bound setting))))))
    x

-- a term is made without a step, and it is unified with another
pub made-free : (X : Term Text) (a b c : List (List ℕ)) (s t u : State) (q m left after : ℕ) (r : Result Outcome WalkFault)
    → Makes a s b t m X → Stays a b s t → IsSetting a s → IsKnown a s q
    → Answers (λ w. unify_terms (text_at b t q) (text_at b t m) left (texts_of b t) w w) b t left r c u after
    → Answers (λ w. unify_terms (text_at a s q) X left (texts_of a s) w w) a s left r c u after
made-free X a b c s t u q m left after r made stays setting known x =
    made-answers (λ w. unify_terms (text_at a s q) X left (texts_of a s) w w)
    (λ w. unify_terms (text_at b t q) (text_at b t m) left (texts_of b t) w w) a b c s t u left after r stays made.count
    (λ w. ap (λ (y : Term Text). unify_terms y X left (texts_of a s) w w) (sym (text-later a b s t q stays known))
    ∙ (ap (λ (y : Term Text). unify_terms (text_at b t q) y left (texts_of a s) w w) (sym made.text)
    ∙ ap (λ (σ : Bindings Text). unify_terms (text_at b t q) (text_at b t m) left σ w w)
    (sym (texts-later a b s t stays made.bound setting)))) x
