-- The text of a move's answer is that of the definition.
use Rattle.std.proofs.Common.{◌≡◌, ℕ, ◌==◌, nat_le, Bool, true, false, List, [], ◌++◌, codes, Option, refl, sym, ap, ◌∙◌, cond}
use Rattle.std.proofs.lemmas.Bool.{eq-eqb}
use Rattle.op_logic.proofs.BoolCases.{by_test, if_true}
use Rattle.op_logic.specs.Term.{atom}
use Rattle.op_term.specs.Ops.{iso_table, iso_operators}
use Rattle.op_trace.specs.Database.{Text}
use Rattle.op_trace.specs.World.{Event}
use Rattle.op_trace.specs.Run.{events_of}
use Rattle.op_trace.specs.Copy.{copied}
use Rattle.op_moves.specs.Moves.{Stand, Found, At, No_event, Past_budget, Spent, Outcome, place_after, event_at}
use Rattle.op_cursor.specs.Moving.{move_of}
use Rattle.op_cursor.specs.Seen.{Seen}
use Rattle.op_session.specs.Traced.{Traced}
use Rattle.op_session.specs.Commands.{Thrown, Budget, thrown, reply_of, by_move, last_line, line_of, bindings_of, place_text, reply_text}
use Rattle.op_session.specs.inner.Standing.{event_of}
use Rattle.op_session.specs.inner.Replying.{end_line, bindings_by, place_by, move_text}

-- the ball that tells of a spent run
ball-line : (n : ℕ) → codes "thrown trace_budget\n" ≡ last_line (Thrown (copied n (atom (codes "trace_budget"))))
unfolding iso_table iso_operators
ball-line n = refl

by-steps : (n : ℕ) (b : Bool) → cond b (codes "thrown trace_budget\n") (codes "budget\n")
    ≡ last_line (cond b (Thrown (copied n (atom (codes "trace_budget")))) Budget)
by-steps n true = ball-line n
by-steps n false = refl

end-is : (n left : ℕ) (o : Outcome) (x : Found) → left ≡ o.left → end_line (move_of x) left ≡ last_line (reply_of n o x)
end-is n left o (At j) e = refl
end-is n left o No_event e = refl
end-is n left o Past_budget e = by-steps n (nat_le 1 left) ∙ ap (λ (l : ℕ). last_line (thrown n l (atom (codes "trace_budget")))) e
end-is n left o Spent e = refl

bindings-are : (n : ℕ) (o : Outcome) (x : Found) (names : List (Text × ℕ)) → bindings_by (move_of x) names ≡ bindings_of (reply_of n o x) names
bindings-are n o (At j) names = refl
bindings-are n o No_event names = refl
bindings-are n o Past_budget names = by-thrown (nat_le 1 o.left)
  where
    by-thrown : (b : Bool) → [] ≡ bindings_of (cond b (Thrown (copied n (atom (codes "trace_budget")))) Budget) names
    by-thrown true = refl
    by-thrown false = refl
bindings-are n o Spent names = refl

places-are : (traced : Traced) (from : ℕ) (v : Seen)
    → ((v.place ≡ from → ⊥) → event_at (events_of traced.run.turns) v.place ≡ event_of v)
    → place_by traced.table from v ≡ place_text traced from v.place
places-are traced from v h =
    let shown : Option Event → List ℕ = λ x. line_of traced.table x ++ codes "\n" in
    by_test (from == v.place)
    (λ e. if_true (from == v.place) [] (shown (event_of v)) e
    ∙ sym (if_true (from == v.place) [] (shown (event_at (events_of traced.run.turns) v.place)) e))
    (λ e. ap (λ (x : Option Event). cond (from == v.place) [] (shown x))
    (sym (h (λ q. let t : (from == v.place) ≡ true = eq-eqb from v.place (sym q) in absurd cc))))

-- where the place is that of the outcome, and the event that is shown, if one is, that of the run there
pub move-text : (traced : Traced) (s : Stand) (names : List (Text × ℕ)) (n left : ℕ) (o : Outcome) (v : Seen) → left ≡ o.left
    → v.place ≡ place_after s.place o.found
    → ((v.place ≡ s.place → ⊥) → event_at (events_of traced.run.turns) v.place ≡ event_of v)
    → move_text traced.table names s.place (move_of o.found) left v ≡ reply_text traced s names (by_move n s o)
move-text traced s names n left o v l p h =
    let b : bindings_by (move_of o.found) names ≡ bindings_of (reply_of n o o.found) names = bindings-are n o o.found names in
    let e : end_line (move_of o.found) left ≡ last_line (reply_of n o o.found) = end-is n left o o.found l in
    let at : place_by traced.table s.place v ≡ place_text traced s.place (place_after s.place o.found) =
    places-are traced s.place v h ∙ ap (place_text traced s.place) p in
    cc
