-- Functions whose arguments are not all evaluated yet, the outermost first.
use Rattle.std.specs.Prelude.{◌≡◌, ◌≢◌, ℕ, ◌+◌, ◌<◌, List, [], ◌∷◌, ℤ, Result, Ok, Err, IfSome, All, length}
use Rattle.op_logic.specs.Names.{named, HasNames}
use Rattle.op_inspect.specs.Arithmetic.{Evaluated, add_nodes, and_then, answered, evaluated, unary_value, binary_value}
use Rattle.op_bind.specs.State.{State, value_of}
use Rattle.op_inspect.specs.Told.{cause_of, HasKnownName}
use Rattle.op_inspect.specs.declared.fault.EvalFault.{EvalFault}
use Rattle.op_inspect.specs.declared.fault.EvalFault.TheVariants.{Spent}
use Rattle.op_inspect.specs.declared.pending.Pending.{Pending}
use Rattle.op_inspect.specs.declared.pending.Pending.TheVariants.{Single, First, Second}
use Rattle.op_inspect.specs.declared.pending.Next.{Next}
use Rattle.op_inspect.specs.declared.pending.Next.TheVariants.{Expression, Value}

-- what a Ref comes to
abbrev pub meaning_at : List (List ℕ) → State → ℕ → Evaluated
meaning_at names s r = evaluated (named names (value_of s r))

-- what a function comes to with the value of the argument that is wanted next
abbrev pub resumed : List (List ℕ) → State → Pending → ℤ → Evaluated
resumed names s (Single g) x = answered (unary_value g x)
resumed names s (First g r) x = and_then (meaning_at names s r) (λ y. answered (binary_value g x y))
resumed names s (Second g x) y = answered (binary_value g x y)

-- what all of them come to with what the argument comes to
abbrev pub all_resumed : List (List ℕ) → State → List Pending → Evaluated → Evaluated
all_resumed names s [] e = e
all_resumed names s (p ∷ ps) e = and_then (all_resumed names s ps e) (resumed names s p)

-- what is evaluated next, or was evaluated
abbrev pub next_meaning : List (List ℕ) → State → Next → Evaluated
next_meaning names s (Expression r) = meaning_at names s r
next_meaning names s (Value x) = (Ok x, 0)

-- an expression is there, with known names
abbrev pub IsReady : ℕ → State → ℕ → Type 0
IsReady count s r = (r < length s.terms) × HasNames count (value_of s r)

abbrev pub IsReadyPending : ℕ → State → Pending → Type 0
IsReadyPending count s (Single g) = Unit {0}
IsReadyPending count s (First g r) = IsReady count s r
IsReadyPending count s (Second g x) = Unit {0}

abbrev pub IsReadyNext : ℕ → State → Next → Type 0
IsReadyNext count s (Expression r) = IsReady count s r
IsReadyNext count s (Value x) = Unit {0}

abbrev pub AreReady : ℕ → State → List Pending → Type 0
AreReady count s ps = All (IsReadyPending count s) ps

-- a function that waits for its first argument makes two more moves, another one makes one
abbrev pub moves_of : Pending → ℕ
moves_of (Single g) = 1
moves_of (First g r) = 2
moves_of (Second g x) = 1

abbrev pub moves_left : List Pending → ℕ
moves_left [] = 0
moves_left (p ∷ ps) = moves_of p + moves_left ps

-- it ends with a cause, once so many nodes are met
abbrev pub Ends : List (List ℕ) → Evaluated → ℕ → EvalFault → Type 0
Ends names e n fault =
    (fault ≢ Spent) × HasKnownName (length names) fault × IfSome (cause_of names fault) (λ c. e ≡ (Err c, n))

-- it goes on with the next one and the functions that are pending then, or ends
abbrev pub Goes : List (List ℕ) → State → Evaluated → ℕ → Result Next EvalFault → List Pending → Type 0
Goes names s e n (Ok next) ps =
    IsReadyNext (length names) s next × AreReady (length names) s ps
    × (e ≡ add_nodes n (all_resumed names s ps (next_meaning names s next)))
Goes names s e n (Err fault) ps = Ends names e n fault
