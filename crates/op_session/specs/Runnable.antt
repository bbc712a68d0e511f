-- Which goals can be run by now: all but those of a builtin that isn't built yet (ISO/IEC 13211-1, 7.8 and 8). A goal that has no procedure
-- is run too. Of a control construct that has no box, the parts are asked.
use Rattle.std.specs.Prelude.{ℕ, ◌==◌, ◌&&◌, ◌||◌, not, Bool, true, false, List, [], ◌∷◌, Option, Some, None, codes, if◌then◌else◌}
use Rattle.std.specs.List.{list_all}
use Rattle.op_logic.specs.Term.{Term, var, int, node, Args, no_args, arg}
use Rattle.op_trace.specs.Database.{Text, Clause, Indicator, indicator_of_term, Database, clauses_of_database}
use Rattle.op_trace.specs.Visit.{Control, BoxedGoal, control}
use Rattle.op_inspect.specs.Inspected.{is_builtin}
use Rattle.op_store.specs.declared.names.locked.Locked.TheVariants.{Program}
use Rattle.op_store.specs.Locked.{is_among, is_locked}

-- the control constructs and the builtins of control with so many arguments that are built, and the arrow of grammar rules, which has no
-- procedure
unfoldable pub built : ℕ → List Text
built n =
    if n == 0 then codes "true" ∷ codes "fail" ∷ codes "false" ∷ codes "!" ∷ codes "halt" ∷ []
    else if n == 1 then codes "call" ∷ codes "throw" ∷ codes "\\+" ∷ codes "once" ∷ codes "halt" ∷ []
    else if n == 2 then codes "," ∷ codes ";" ∷ codes "->" ∷ codes "-->" ∷ codes "call" ∷ []
    else if n == 3 then codes "call" ∷ codes "catch" ∷ []
    else codes "call" ∷ []

-- a builtin that isn't built yet: none of these, and none on terms
abbrev pub is_unbuilt : Indicator → Bool
is_unbuilt k = is_locked Program k && not (is_among (built k.arity) k.name || is_builtin k.name k.arity)

abbrev pub is_built : Option Indicator → Bool
is_built None = true
is_built (Some k) = not (is_unbuilt k)

-- a goal of this kind has a box
abbrev pub has_box : Control → Bool
has_box BoxedGoal = true
has_box c = false

abbrev mutual
  pub is_runnable : Term Text → Bool
  is_runnable (var v) = true
  is_runnable (int i) = true
  is_runnable (node f ts) =
      if has_box (control (node f ts)) then is_built (indicator_of_term (node f ts)) else list_all (λ b. b) (each_runnable ts)

  pub each_runnable : Args Text → List Bool
  each_runnable no_args = []
  each_runnable (arg t ts) = is_runnable t ∷ each_runnable ts

-- a program whose clauses all can be run
abbrev pub are_runnable : Database → Bool
are_runnable w = list_all (λ (c : Clause). is_runnable c.body) (clauses_of_database w)
