-- The code's problems as the balls of errors.
use Rattle.std.specs.Prelude.{◌≡◌, ℕ, ◌<◌, List, length, Some, Result, Err, codes}
use Rattle.op_logic.specs.Term.{Term}
use Rattle.op_logic.specs.Names.{name_at}
use Rattle.op_bind.specs.State.{State}
use Rattle.op_trace.specs.Database.{Text}
use Rattle.op_trace.specs.Builtins.{type_error, throw}
use Rattle.op_term.specs.declared.walk.WalkFault.{WalkFault}
use Rattle.op_term.specs.declared.walk.WalkFault.TheVariants as walk
use Rattle.op_inspect.specs.Told.{cause_of}
use Rattle.op_inspect.specs.declared.fault.EvalFault.{EvalFault}
use Rattle.op_inspect.specs.declared.fault.EvalFault.TheVariants as fault
use Rattle.op_inspect.specs.Arithmetic.{Cause, instantiation, evaluable, evaluation}
use Rattle.op_inspect.specs.Errors.{domain_error, error_of_cause}
use Rattle.op_inspect.specs.Outcomes.{text_at, texts_of, IsKnown, Answers}
use Rattle.op_inspect.specs.declared.outcome.Outcome.{Outcome}
use Rattle.op_inspect.specs.declared.problem.Problem.{Problem}
use Rattle.op_inspect.specs.declared.problem.Problem.TheVariants.{Instantiation, NotOfType, NotInDomain, Evaluable, Evaluation}
use Rattle.op_inspect.specs.declared.problem.Expected.{Expected}
use Rattle.op_inspect.specs.declared.problem.Expected.TheVariants as expected
use Rattle.op_inspect.specs.declared.problem.Domain.{Domain}
use Rattle.op_inspect.specs.declared.problem.Domain.TheVariants as domains

abbrev pub expected_word : Expected → Text
expected_word expected.Atom = codes "atom"
expected_word expected.Atomic = codes "atomic"
expected_word expected.Compound = codes "compound"
expected_word expected.Integer = codes "integer"
expected_word expected.List = codes "list"

abbrev pub domain_word : Domain → Text
domain_word domains.NonEmptyList = codes "non_empty_list"
domain_word domains.NotLessThanZero = codes "not_less_than_zero"
domain_word domains.Order = codes "order"

abbrev pub problem_text : List (List ℕ) → State → Problem → Term Text
problem_text names s Instantiation = error_of_cause instantiation
problem_text names s (NotOfType e r) = type_error (expected_word e) (text_at names s r)
problem_text names s (NotInDomain d r) = domain_error (domain_word d) (text_at names s r)
problem_text names s (Evaluable f n) = error_of_cause (evaluable (name_at names f.0) n)
problem_text names s (Evaluation e) = error_of_cause (evaluation e)

-- the culprit is there, and names are in the table
abbrev pub IsKnownProblem : List (List ℕ) → State → Problem → Type 0
IsKnownProblem names s Instantiation = Unit {0}
IsKnownProblem names s (NotOfType e r) = IsKnown names s r
IsKnownProblem names s (NotInDomain d r) = IsKnown names s r
IsKnownProblem names s (Evaluable f n) = f.0 < length names
IsKnownProblem names s (Evaluation e) = Unit {0}

-- what a fault of an evaluation comes to: a fault of the walk, or the ball of its cause
abbrev pub AnswersFault : EvalFault → List (List ℕ) → State → ℕ → Result Outcome WalkFault → List (List ℕ) → State → ℕ → Type 0
AnswersFault fault.Memory names s left result more t after = (result ≡ Err walk.Memory) × (more ≡ names) × (t ≡ s) × (after ≡ left)
AnswersFault fault.Spent names s left result more t after = (result ≡ Err walk.Spent) × (more ≡ names) × (t ≡ s) × (after ≡ left)
AnswersFault e names s left result more t after =
    (c : Cause) → cause_of names e ≡ Some c → Answers (throw left (texts_of names s) (error_of_cause c)) names s left result more t after
