-- The body that a term stands for under bindings (ISO/IEC 13211-1, 7.6.2): its control constructs and their parts, each followed to an
-- unbound variable, a number or a name with its arguments, where a variable X is call(X). Nothing below a part is touched. A conversion
-- costs a step for each control construct and for each other part, from the left, up to and with the first part that is a number, which
-- is refused.
use Rattle.std.specs.Prelude.{ℕ, suc, ◌+◌, Bool, ◌||◌, List, [], ◌∷◌, Option, Some, None, option_map, if◌then◌else◌, bytes_eq, codes}
use Rattle.op_logic.specs.Term.{Term, var, int, node, Args, no_args, arg, args_of}
use Rattle.op_logic.specs.Bind.{Bindings, apply, follow}
use Rattle.op_trace.specs.Database.{Text}

-- a body: a goal, a call of a variable, or the control construct of a name with its two parts
pub data Body : Type 0 where
  goal : Term Text → Body
  call : Term Text → Body
  control : Text → Body → Body → Body

-- a term as a body, or None where it was refused; and the steps
pub record Division : Type 0 where
  pub tree : Option Body
  pub steps : ℕ

abbrev pub one_step : Option Body → Division
one_step b = record { tree = b; steps = 1 }

-- the names of the control constructs that have two parts
abbrev pub has_parts : Text → Bool
has_parts f = bytes_eq f (codes ",") || (bytes_eq f (codes ";") || bytes_eq f (codes "->"))

-- behind a part that was refused nothing is converted
abbrev pub joined : Text → Division → Division → Division
joined f a b =
    elim (a.tree) [
      | None ↦ record { tree = None; steps = suc a.steps }
      | Some t ↦ record { tree = option_map (control f t) b.tree; steps = suc (a.steps + b.steps) }
    ]

-- a whole term of a name and the bodies of its arguments: a control construct, or a goal
abbrev pub compound : Text → Term Text → List Division → Division
compound f whole (a ∷ b ∷ []) = if has_parts f then joined f a b else one_step (Some (goal whole))
compound f whole parts = one_step (Some (goal whole))

-- a term by its shape, which is that of the term with its bindings applied; of that the names of its nodes alone are used
abbrev mutual
  pub divided_by : Term Text → Bindings Text → Term Text → Division
  divided_by (var v) σ t = one_step (Some (call (follow σ t)))
  divided_by (int i) σ t = one_step None
  divided_by (node f ts) σ t = compound f (follow σ t) (divisions_by ts σ (args_of (follow σ t)))

  pub divisions_by : Args Text → Bindings Text → Args Text → List Division
  divisions_by (arg s ss) σ (arg t ts) = divided_by s σ t ∷ divisions_by ss σ ts
  divisions_by ss σ ts = []

abbrev pub divided : Bindings Text → Term Text → Division
divided σ t = divided_by (apply σ t) σ t

-- a body as a term
abbrev pub call_of : Term Text → Term Text
call_of t = node (codes "call") (arg t no_args)

abbrev pub pair : Text → Term Text → Term Text → Term Text
pair f t u = node f (arg t (arg u no_args))

abbrev pub term_of : Body → Term Text
term_of (goal t) = t
term_of (call t) = call_of t
term_of (control f a b) = pair f (term_of a) (term_of b)

-- the term of the body that a term stands for, or None where it was refused; and the steps
pub record Conversion : Type 0 where
  pub body : Option (Term Text)
  pub steps : ℕ

abbrev pub converted : Bindings Text → Term Text → Conversion
converted σ t = record { body = option_map term_of (divided σ t).tree; steps = (divided σ t).steps }

-- a body with bindings applied to its parts, and what a term comes to with them
abbrev pub body_under : Bindings Text → Body → Body
body_under σ (goal t) = goal (apply σ t)
body_under σ (call t) = call (apply σ t)
body_under σ (control f a b) = control f (body_under σ a) (body_under σ b)

abbrev pub division_under : Bindings Text → Division → Division
division_under σ d = record { tree = option_map (body_under σ) d.tree; steps = d.steps }
