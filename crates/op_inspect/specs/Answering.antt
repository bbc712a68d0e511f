-- What the builtins on terms have in common: a test, a unification, and errors, which come first and without steps.
use Rattle.std.specs.Prelude.{ℕ, suc, ◌-◌, Bool, [], ◌∷◌, Option, Some, None, if◌then◌else◌}
use Rattle.op_logic.specs.Term.{Term}
use Rattle.op_logic.specs.Bind.{Bindings, Pairs, Solved, unify}
use Rattle.op_trace.specs.Database.{Text, text_eq}
use Rattle.op_trace.specs.World.{World}
use Rattle.op_trace.specs.Act.{Yield, Fails, Succeeds, Act, done}
use Rattle.op_trace.specs.Builtins.{throw}

-- it succeeds without more, or fails
abbrev pub decided : Bool → Bindings Text → World → Act
decided b σ w = done w (if b then Succeeds σ else Fails)

-- the ball of an error, if there is one
abbrev pub refused_by : Option (Term Text) → ℕ → Bindings Text → World → Act → Act
refused_by None left σ w rest = rest
refused_by (Some ball) left σ w rest = throw left σ ball w

-- terms are unified at the steps of the unification, and what it found decides; where the steps are not there, the world is as it was
-- before the whole act
abbrev pub by_unifier : Option (Solved Text) → ℕ → World → World → (Option (Bindings Text) → Yield) → Act
by_unifier None left before after yield = record { cost = suc left; after = after; interrupted = before; yield = Fails }
by_unifier (Some r) left before after yield = record { cost = left - r.1; after = after; interrupted = before; yield = yield r.0 }

abbrev pub succeeds_with : Option (Bindings Text) → Yield
succeeds_with None = Fails
succeeds_with (Some τ) = Succeeds τ

abbrev pub succeeds_without : Bindings Text → Option (Bindings Text) → Yield
succeeds_without σ None = Succeeds σ
succeeds_without σ (Some τ) = Fails

abbrev pub unify_pairs : Pairs Text → ℕ → Bindings Text → World → World → Act
unify_pairs ps left σ before after = by_unifier (unify text_eq left σ ps) left before after succeeds_with

abbrev pub unify_terms : Term Text → Term Text → ℕ → Bindings Text → World → World → Act
unify_terms t u left σ before after = unify_pairs ((t, u) ∷ []) left σ before after

-- `X = Y` (8.2.1): the terms are unified
abbrev pub equal_act : Term Text → Term Text → ℕ → Bindings Text → World → Act
equal_act t u left σ w = unify_terms t u left σ w w

-- `X \= Y` (8.2.3): they have no unifier; nothing is bound
abbrev pub different_act : Term Text → Term Text → ℕ → Bindings Text → World → Act
different_act t u left σ w = by_unifier (unify text_eq left σ ((t, u) ∷ [])) left w w (succeeds_without σ)
