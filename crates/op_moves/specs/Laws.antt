-- What the laws of patterns and of moves speak of.
use Rattle.std.specs.Prelude.{◌≡◌, ℕ, zero, suc, ◌+◌, ◌<◌, ◌≤◌, ◌==◌, ◌&&◌, Bool, false, List, [], ◌∷◌, Option, Some, None, if◌then◌else◌}
use Rattle.std.specs.Option.{is_some}
use Rattle.op_logic.specs.Term.{Term}
use Rattle.op_logic.specs.Bind.{Bindings, Pairs, Reduction, clash, goes, reduction, Solved, solve}
use Rattle.op_trace.specs.Database.{Text, text_eq}
use Rattle.op_trace.specs.World.{Event}
use Rattle.op_moves.specs.EventTerm.{event_term}
use Rattle.op_moves.specs.Pattern.{Test, answer, tested}
use Rattle.op_moves.specs.Moves.{Outcome, Spent, event_at, is_call}

-- how many pairs unification takes, of at most so many
abbrev pub taken_after : {N : Type 0} → Reduction N → (Bindings N → Pairs N → ℕ) → ℕ
taken_after (clash c) rest = 0
taken_after (goes σ ps c) rest = rest σ ps

abbrev pub pairs_taken : {N : Type 0} → (N → N → Bool) → ℕ → Bindings N → Pairs N → ℕ
pairs_taken eq k σ [] = 0
pairs_taken eq zero σ (p ∷ ps) = 0
pairs_taken eq (suc k) σ (p ∷ ps) = 1 + taken_after (reduction eq σ p.0 p.1 ps) (λ τ qs. pairs_taken eq k τ qs)

-- a test is the unification of the pattern with the event's term: it accepts where there is a unifier, and costs the pairs that are taken
pub record IsUnification (p : Term Text) (e : Event) : Type 0 where
  pub enough : ℕ
  pub solved : Solved Text
  pub ends : solve text_eq enough [] ((p, event_term e) ∷ []) ≡ Some solved
  pub yes : (tested p e).yes ≡ is_some solved.0
  pub cost : (tested p e).cost ≡ pairs_taken text_eq enough [] ((p, event_term e) ∷ [])

-- a move takes so many steps: it is spent exactly where fewer are left
pub record Costs (price fuel : ℕ) (o : Outcome) : Type 0 where
  pub short : fuel < price → o.found ≡ Spent
  pub enough : price ≤ fuel → (o.found ≡ Spent → ⊥) × (fuel ≡ o.left + price)

-- what a search takes over these events, and behind them
abbrev pub price : (Event → Test) → List (ℕ × Event) → ℕ → ℕ
price test [] behind = behind
price test (x ∷ xs) behind = 1 + ((test x.1).cost + (if (test x.1).yes then 0 else price test xs behind))

-- whether the event at a place is accepted
abbrev pub yes_of : (Event → Test) → Option Event → Bool
yes_of test None = false
yes_of test (Some e) = (test e).yes

abbrev pub accepted : (Event → Test) → List Event → ℕ → Bool
accepted test es i = yes_of test (event_at es i)

-- the call of a box
abbrev pub calls : ℕ → Event → Test
calls k e = answer (is_call e.port && (e.call == k)) 0
