-- The places of terms under bindings on a walk over the parts of a body.
use Rattle.std.proofs.Common.{◌≡◌, ℕ, suc, ◌+◌, ◌<◌, ◌≤◌, List, [], ◌∷◌, ◌++◌, length, Option, Some, None, All, refl, sym, ap, ◌∙◌, arith}
use Rattle.std.proofs.Common.{subst}
use Rattle.std.specs.Prelude.{option_map}
use Rattle.std.proofs.lemmas.List.Elements.{All-push}
use Rattle.op_logic.specs.Term.{Term, args_of, nth_arg, arity}
use Rattle.op_logic.specs.Bind.{Bindings, follow}
use Rattle.op_logic.specs.Laws.{Acyclic, rename_bindings}
use Rattle.op_logic.specs.Names.{name_at, named, HasNames, HaveNames}
use Rattle.op_logic.proofs.UnifierNames.{follow-names}
use Rattle.op_trace.specs.Body.{Body, goal, call, control, divided}
use Rattle.op_store.specs.inner.BodyParts.{part_of_term}
use Rattle.op_store.specs.Nodes.{leaves}
use Rattle.op_store.specs.inner.Walk.{took, read, Left, left_of, step_before, refused}
use Rattle.op_store.specs.declared.bodies.body_part.Part.{Part}
use Rattle.op_store.specs.declared.bodies.body_part.Part.TheVariants as parts
use Rattle.op_store.specs.declared.bodies.body_node.BodyNode.{BodyNode}
use Rattle.op_store.specs.declared.bodies.body_node.BodyNode.TheVariants as nodes
use Rattle.op_store.specs.Divided.{divided_in}
use Rattle.op_store.proofs.FollowedParts.{parts_under, followed-named, followed-divided}
use Rattle.op_store.proofs.ConversionSteps.{T, control_name, IsControl, control-two, control-divided, goal-divided, variable-divided}
use Rattle.op_store.proofs.ConversionSteps.{number-divided, left-leaf, left-refused, left-pair, left-some, left-start, leaves-goal}
use Rattle.op_store.proofs.ConversionSteps.{leaves-other, all-two, part-named, part-has, arity-named}

module _ {P : Type 0} (names : List (List ℕ)) (under : Bindings ℕ) (term : P → Term ℕ) (IsPlace : P → Type 0) where
  abbrev pub text : P → T
  text p = named names (term p)

  abbrev pub texts : Bindings (List ℕ)
  texts = rename_bindings (name_at names) under

  abbrev pub IsGood : P → Type 0
  IsGood p = IsPlace p × HasNames (length names) (term p)

  -- a place leads to another
  pub record Leads (next at : P) : Type 0 where
    pub good : IsGood at
    pub value : term at ≡ follow under (term next)
    pub acyclic : Acyclic under

  pub leads : (next at : P) → IsPlace at → term at ≡ follow under (term next) → Acyclic under → HaveNames (length names) under
      → HasNames (length names) (term next) → Leads next at
  leads next at place value acyclic bound has =
      let h = follow-names (length names) under (term next) bound has in
      record { good = (place, subst (λ (x : Term ℕ). HasNames (length names) x) (sym value) h); value = value; acyclic = acyclic }

  leads-divided : (next at : P) → Leads next at → divided texts (text next) ≡ parts_under texts (text at)
  leads-divided next at l =
      followed-divided texts (text next) (text at) (followed-named names under (term next) (term at) l.acyclic l.value)

  -- what a part that was met leaves
  pub record Goes (met new : List (BodyNode P)) (todo more : List P) (next : P) : Type 0 where
    pub left : left_of texts text met (todo ++ next ∷ []) ≡ step_before (left_of texts text new more)
    pub todo_good : All IsGood more
    pub met_good : All IsGood (leaves new)

  abbrev pub Parts : List P → List P → P → Type 0
  Parts todo more at =
      (a : P) × ((b : P) × ((more ≡ todo ++ b ∷ a ∷ []) × IsPlace a × IsPlace b × (term a ≡ nth_arg (args_of (term at)) 0)
      × (term b ≡ nth_arg (args_of (term at)) 1)))

  pub pair-goes : (met new : List (BodyNode P)) (todo more : List P) (next at : P) (x : BodyNode P) (p : Part) → Leads next at
      → p ≡ part_of_term (text at) → IsControl p
      → ((t u : Body) (s : List Body) → took text x (t ∷ u ∷ s) ≡ Some (control (control_name p []) t u ∷ s)) → leaves (x ∷ []) ≡ []
      → new ≡ met ++ x ∷ [] → Parts todo more at → All IsGood todo → All IsGood (leaves met) → Goes met new todo more next
  pair-goes met new todo more next at x p lead e h k l n made ht hm =
      let a : P = made.0 in
      let b : P = made.1.0 in
      let m = made.1.1 in
      let has = lead.good.1 in
      let ca = part-named names (term at) (term a) 0 m.3 in
      let cb = part-named names (term at) (term b) 1 m.4 in
      record {
        left = left-pair texts text met new todo more next a b x (control_name p [])
            (leads-divided next at lead ∙ control-divided texts (text at) (text a) (text b) p (sym e) h ca cb) k n m.0;
        todo_good = all-two IsGood todo more a b m.0 ht (m.1, part-has (length names) (term at) (term a) 0 m.3 has)
            (m.2, part-has (length names) (term at) (term b) 1 m.4 has);
        met_good = leaves-other IsGood met new x n l hm;
      }

  pub pair-two : (at : P) (p : Part) → p ≡ part_of_term (text at) → IsControl p → arity (args_of (term at)) ≡ 2
  pair-two at p e h = sym (arity-named names (term at)) ∙ control-two (text at) p (sym e) h

  pub goal-goes : (met new : List (BodyNode P)) (todo : List P) (next at : P) → Leads next at → parts.Goal ≡ part_of_term (text at)
      → new ≡ met ++ nodes.Goal at ∷ [] → All IsGood todo → All IsGood (leaves met) → Goes met new todo todo next
  goal-goes met new todo next at lead e n ht hm =
      record {
        left = left-leaf texts text met new todo next (nodes.Goal at) (goal (text at))
            (leads-divided next at lead ∙ goal-divided texts (text at) (sym e)) (λ s. refl) n;
        todo_good = ht;
        met_good = leaves-goal IsGood met new (nodes.Goal at) at n refl hm lead.good;
      }

  pub variable-goes : (met new : List (BodyNode P)) (todo : List P) (next at : P) → Leads next at
      → parts.Variable ≡ part_of_term (text at)
      → new ≡ met ++ nodes.CallOf at ∷ [] → All IsGood todo → All IsGood (leaves met) → Goes met new todo todo next
  variable-goes met new todo next at lead e n ht hm =
      record {
        left = left-leaf texts text met new todo next (nodes.CallOf at) (call (text at))
            (leads-divided next at lead ∙ variable-divided texts (text at) (sym e)) (λ s. refl) n;
        todo_good = ht;
        met_good = leaves-goal IsGood met new (nodes.CallOf at) at n refl hm lead.good;
      }

  pub number-refused : (met : List (BodyNode P)) (todo : List P) (next at : P) → Leads next at → parts.Number ≡ part_of_term (text at)
      → left_of texts text met (todo ++ next ∷ []) ≡ refused
  number-refused met todo next at lead e =
      left-refused texts text met todo next (leads-divided next at lead ∙ number-divided texts (text at) (sym e))

  last-of : (todo : List P) (next : P) → All IsGood (todo ++ next ∷ []) → IsGood next
  last-of [] next h = h 0 next (omega arith)
  last-of (p ∷ ps) next h = last-of ps next (λ k d l. h (suc k) d (omega arith))

  -- between two parts: the whole is what is left, with the steps that were made
  pub record IsWalk (at : P) (start now : ℕ) (met : List (BodyNode P)) (todo : List P) : Type 0 where
    pub bodies : (left_of texts text met todo).bodies ≡ option_map (λ t. Some (t ∷ [])) (divided_in names under (term at)).tree
    pub steps : start + (left_of texts text met todo).steps ≡ now + (divided_in names under (term at)).steps
    pub falls : now ≤ start
    pub todo_good : All IsGood todo
    pub met_good : All IsGood (leaves met)

  pub walk-starts : (at : P) (start : ℕ) → IsPlace at → HasNames (length names) (term at) → IsWalk at start start [] (at ∷ [])
  walk-starts at start place has =
      record {
        bodies = ap (λ (l : Left). l.bodies) (left-start texts text at);
        steps = ap (λ (l : Left). start + l.steps) (left-start texts text at);
        falls = omega arith;
        todo_good = All-push IsGood [] at (λ k d l. absurd (omega arith)) (place, has);
        met_good = λ k d l. absurd (omega arith);
      }

  pub walk-goes : (at : P) (start now spent : ℕ) (met new : List (BodyNode P)) (todo more : List P) (next : P) → now ≡ spent + 1
      → Goes met new todo more next
      → IsWalk at start now met (todo ++ next ∷ []) → IsWalk at start spent new more
  walk-goes at start now spent met new todo more next e g w =
      record {
        bodies = sym (ap (λ (l : Left). l.bodies) g.left) ∙ w.bodies;
        steps = let k : (left_of texts text met (todo ++ next ∷ [])).steps ≡ suc (left_of texts text new more).steps =
            ap (λ (l : Left). l.steps) g.left in omega (arith, k, w.steps);
        falls = omega (arith, w.falls);
        todo_good = g.todo_good;
        met_good = g.met_good;
      }

  pub walk-next : (at : P) (start now : ℕ) (met : List (BodyNode P)) (todo : List P) (next : P)
      → IsWalk at start now met (todo ++ next ∷ []) → IsGood next
  walk-next at start now met todo next w = last-of todo next w.todo_good

  pub walk-spent : (at : P) (start now : ℕ) (met : List (BodyNode P)) (todo : List P) (next : P) → now < 1
      → IsWalk at start now met (todo ++ next ∷ []) → start < (divided_in names under (term at)).steps
  walk-spent at start now met todo next h w = omega (arith, w.steps, left-some texts text met todo next)

  no-body : (o : Option Body) → option_map (λ t. Some (t ∷ [])) o ≡ None → o ≡ None
  no-body None e = refl
  no-body (Some t) e = absurd cc

  pub walk-refused : (at : P) (start now spent : ℕ) (met : List (BodyNode P)) (todo : List P) (next : P) → now ≡ spent + 1
      → left_of texts text met (todo ++ next ∷ []) ≡ refused
      → IsWalk at start now met (todo ++ next ∷ [])
      → ((divided_in names under (term at)).tree ≡ None) × (start ≡ spent + (divided_in names under (term at)).steps)
  walk-refused at start now spent met todo next e r w =
      let k : (left_of texts text met (todo ++ next ∷ [])).steps ≡ 1 = ap (λ (l : Left). l.steps) r in
      (no-body (divided_in names under (term at)).tree (sym w.bodies ∙ ap (λ (l : Left). l.bodies) r), omega (arith, k, w.steps))

  pub walk-ends : (at : P) (start now : ℕ) (met : List (BodyNode P)) → IsWalk at start now met []
      → (option_map (λ t. Some (t ∷ [])) (divided_in names under (term at)).tree ≡ Some (read text met (Some [])))
      × (start ≡ now + (divided_in names under (term at)).steps)
  walk-ends at start now met w = (sym w.bodies, omega (arith, w.steps))
