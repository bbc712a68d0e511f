-- Two takings, one after the other, were taken from what there was before the first.
use Rattle.std.proofs.Common.{◌≡◌, ℕ, Bool, true, false, List, ◌++◌, refl, append_assoc}
use Rattle.op_trace.specs.Outside.{Taking, follow_by, follow, and_then}

follow-joined : (over : Bool) (xs ys rest : List ℕ) → follow_by over (xs ++ ys) rest ≡ xs ++ follow_by over ys rest
follow-joined true xs ys rest = refl
follow-joined false xs ys rest = append_assoc xs ys rest

follow-then_by : (over : Bool) (xs : List ℕ) (u : Taking) (rest : List ℕ)
    → follow (and_then (record { bytes = xs; over = over }) u) rest ≡ follow_by over xs (follow u rest)
follow-then_by true xs u rest = refl
follow-then_by false xs u rest = follow-joined u.over xs u.bytes rest

pub follow-then : (t u : Taking) (rest : List ℕ) → follow (and_then t u) rest ≡ follow t (follow u rest)
follow-then t u rest = follow-then_by t.over t.bytes u rest
