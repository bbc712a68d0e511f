-- The parts of a clause at places of a tree.
use Rattle.std.specs.Prelude.{ℕ, max, Option, Some, None, codes}
use Rattle.op_logic.specs.Term.{Term, atom}
use Rattle.op_trace.specs.Database.{Text}

abbrev pub truth : Term Text
truth = atom (codes "true")

-- a fact's body is `true`
abbrev pub body_text : {P : Type 0} → (P → Term Text) → Option P → Term Text
body_text text None = truth
body_text text (Some p) = text p

abbrev pub body_variables : {P : Type 0} → (P → ℕ) → P → Option P → ℕ
body_variables count h None = count h
body_variables count h (Some b) = max (count h) (count b)
