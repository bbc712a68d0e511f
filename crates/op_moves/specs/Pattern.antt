-- Patterns of events. A pattern accepts an event where it has a unifier with the event's term. This takes the pairs of terms that
-- unification takes, up to and with the first that clashes, and nothing for what is bound.
use Rattle.std.specs.Prelude.{ℕ, ◌+◌, ◌==◌, Bool, true, false, ◌&&◌, ◌∷◌, [], Option, Some, None, if◌then◌else◌, codes}
use Rattle.std.specs.Ordering.{int_eq}
use Rattle.op_logic.specs.Term.{Term, var, int, node, Args, arg, arity}
use Rattle.op_logic.specs.Bind.{Bindings, lookup}
use Rattle.op_trace.specs.Database.{Text, text_eq}
use Rattle.op_trace.specs.World.{Event}
use Rattle.op_moves.specs.EventTerm.{event_term}

-- whether something is so, and how many steps it takes to tell
pub record Test : Type 0 where
  pub yes : Bool
  pub cost : ℕ

abbrev pub answer : Bool → ℕ → Test
answer b n = record { yes = b; cost = n }

-- what comes behind, where this is so
abbrev pub and_then : Test → Test → Test
and_then a b = if a.yes then answer b.yes (a.cost + b.cost) else a

abbrev pub same_name : Text → ℕ → Text → ℕ → Bool
same_name f n g m = text_eq f g && (n == m)

-- whether two terms without variables are the same, and how many pairs of nodes are taken
abbrev mutual
  pub compared : Term Text → Term Text → Test
  compared (int i) (int j) = answer (int_eq i j) 1
  compared (node f ts) (node g us) = and_then (answer (same_name f (arity ts) g (arity us)) 1) (args_compared ts us)
  compared _ _ = answer false 1

  pub args_compared : Args Text → Args Text → Test
  args_compared (arg t ts) (arg u us) = and_then (compared t u) (args_compared ts us)
  args_compared _ _ = answer true 0

-- what a pattern comes to: the terms that its variables stand for, the newest first, where it accepts; and the pairs that were taken
pub data Matched : Type 0 where
  Clashes : ℕ → Matched
  Goes_on : Bindings Text → ℕ → Matched

abbrev pub pairs_more : ℕ → Matched → Matched
pairs_more n (Clashes m) = Clashes (n + m)
pairs_more n (Goes_on σ m) = Goes_on σ (n + m)

abbrev pub going_on : Matched → (Bindings Text → Matched) → Matched
going_on (Clashes n) rest = Clashes n
going_on (Goes_on σ n) rest = pairs_more n (rest σ)

-- one pair
abbrev pub one_pair : Bool → Bindings Text → Matched
one_pair b σ = if b then Goes_on σ 1 else Clashes 1

abbrev pub all_pairs : Test → Bindings Text → Matched
all_pairs t σ = if t.yes then Goes_on σ t.cost else Clashes t.cost

-- a variable stands for the first term that it meets, and each further one is compared with that
abbrev pub variable_matched : Bindings Text → ℕ → Option (Term Text) → Term Text → Matched
variable_matched σ v None t = Goes_on ((v, t) ∷ σ) 1
variable_matched σ v (Some s) t = all_pairs (compared s t) σ

-- a pattern, and a term without variables
abbrev mutual
  pub matched : Bindings Text → Term Text → Term Text → Matched
  matched σ (var v) t = variable_matched σ v (lookup σ v) t
  matched σ (int i) (int j) = one_pair (int_eq i j) σ
  matched σ (node f ts) (node g us) =
      going_on (one_pair (same_name f (arity ts) g (arity us)) σ) (λ τ. args_matched τ ts us)
  matched σ _ _ = Clashes 1

  pub args_matched : Bindings Text → Args Text → Args Text → Matched
  args_matched σ (arg p ps) (arg t ts) = going_on (matched σ p t) (λ τ. args_matched τ ps ts)
  args_matched σ _ _ = Goes_on σ 0

abbrev pub test_of : Matched → Test
test_of (Clashes n) = answer false n
test_of (Goes_on σ n) = answer true n

-- whether a pattern accepts an event
abbrev pub tested : Term Text → Event → Test
tested p e = test_of (matched [] p (event_term e))

-- what can be no pattern: a variable, and what is no term of an event
abbrev pub is_unbound : {N : Type 0} → Term N → Bool
is_unbound (var v) = true
is_unbound _ = false

abbrev pub is_event : Term Text → Bool
is_event (node f ts) = same_name f (arity ts) (codes "event") 6
is_event _ = false
