-- Calls that go on with what they read.
use Rattle.std.proofs.Common.{◌≡◌, ℕ, Bool, true, false, cond, List, codes, Option, Some, None, Result, Ok, sym, ap, ◌∙◌, subst}
use Rattle.op_store.specs.declared.names.locked.Locked.TheVariants.{Program}
use Rattle.op_trace.specs.Database.{Database}
use Rattle.op_store.specs.Load.{Query, Found, Loaded, loaded, load_text, goal_of}
use Rattle.op_store.specs.Stored.{Stored, database_of, new_store}
use Rattle.op_session.specs.declared.status.Status.{Status}
use Rattle.op_session.specs.declared.status.Status.TheVariants as status
use Rattle.op_session.specs.Words.{load_line}
use Rattle.op_session.specs.Runnable.{is_runnable, are_runnable}
use Rattle.op_session.specs.Call.{Outcome, Session, first_world, traced_of, unrunnable, goal_name, with_loaded, with_goal}
use Rattle.op_session.specs.Sight.{Sight}
use Rattle.op_session.specs.inner.Steps.{Says, Untouched, ended_as}
use Rattle.op_session.specs.inner.Progress.{Leaves, IsOutcome}
use Rattle.op_session.specs.inner.Refusing.{GoesOn}
use Rattle.op_session.proofs.BetweenBytes.{calm_more}
use Rattle.op_session.proofs.CallEnds.{leaves_load, leaves_after, retell, untouched_start}
use Rattle.op_session.proofs.CallOutcomes.{outcome_loaded, outcome_goal}

pub untouched_more : (a b c : Sight) → Untouched a b → Untouched b c → Untouched a c
untouched_more a b c u v = record { calm = calm_more a b c u.calm v.calm; talk = v.talk ∙ u.talk; commands = v.commands ∙ u.commands }

pub outcome_more : (o : Option Outcome) (x y : Outcome) → IsOutcome o x → x ≡ y → IsOutcome o y
outcome_more None x y i e = tt
outcome_more (Some z) x y i e = i ∙ e

-- what ends behind what went on
pub ends_further : (o : Option Outcome) (x y : Outcome) (s : Status) (a b c : Sight) (n : ℕ) → x ≡ y
    → Leaves (Some y) s b c n n → Untouched a b → IsOutcome o x → Leaves o s a c n n
ends_further o x y s a b c n e l u i = leaves_after o s a b c n n u (retell o y s b c n n (outcome_more o x y i e) l)

-- an equal outcome
pub goes_as : {A : Type 0} (r : Result A Status) (x y : Outcome) (by : A → Outcome) (a b : Sight) → x ≡ y → GoesOn r (Some y) by a b
    → GoesOn r (Some x) by a b
goes_as r x y by a b e g = subst (λ (z : Outcome). GoesOn r (Some z) by a b) (sym e) g

-- what can be run goes on, and what can't is refused with its line
pub runnable_goes : (b : Bool) (o : Outcome) (name : List ℕ) (a : Sight) → b ≡ true
    → GoesOn {A = Unit {0}} (Ok tt) (Some (cond b o (unrunnable name))) (λ x. o) a a
runnable_goes b o name a e = (untouched_start a, ap (λ b. cond b o (unrunnable name)) e)

pub unrunnable_ends : (b : Bool) (o : Outcome) (name : List ℕ) (a c : Sight) (r : Result (Unit {0}) Status) → b ≡ false
    → Says a c (load_line name 1 (codes "form")) r
    → (n : ℕ) → Leaves (Some (cond b o (unrunnable name))) (ended_as status.Load r) a c n n
unrunnable_ends b o name a c r e s n =
    subst (λ (b : Bool). Leaves (Some (cond b o (unrunnable name))) (ended_as status.Load r) a c n n) (sym e)
    (leaves_load (load_line name 1 (codes "form")) a c n r s)

-- a program that was loaded, by whether it can be run
pub outcome_program : (name goal : List ℕ) (l : Loaded) (w : Database) (b : Bool) → l ≡ loaded w → b ≡ are_runnable w
    → with_loaded name goal l ≡ cond b (with_goal w (goal_of w.table w.flags.quotes goal)) (unrunnable name)
outcome_program name goal l w b e h =
    sym (outcome_loaded name goal l w e) ∙ ap (λ b. cond b (with_goal w (goal_of w.table w.flags.quotes goal)) (unrunnable name)) (sym h)

-- a goal that was read, by whether it can be run
pub outcome_query : (w v : Database) (r : Result Query Found) (q : Query) (b : Bool) → v ≡ w → r ≡ Ok q → b ≡ is_runnable q.body
    → with_goal w r ≡ cond b (Session (traced_of 10000000 v q)) (unrunnable goal_name)
outcome_query w v r q b e t h =
    sym (outcome_goal w r q t)
    ∙ ap (λ (w : Database). cond (is_runnable q.body) (Session (traced_of 10000000 w q)) (unrunnable goal_name)) (sym e)
    ∙ ap (λ b. cond b (Session (traced_of 10000000 v q)) (unrunnable goal_name)) (sym h)

-- the text of a file, in a new store
pub outcome_new : (name goal text slice : List ℕ) (s : Stored) → slice ≡ text → s ≡ new_store Program
    → with_loaded name goal (load_text Program first_world text) ≡ with_loaded name goal (load_text s.locked (database_of s) slice)
outcome_new name goal text slice s e h =
    ap (λ (t : List ℕ). with_loaded name goal (load_text Program first_world t)) (sym e)
    ∙ ap (λ (s : Stored). with_loaded name goal (load_text s.locked (database_of s) slice)) (sym h)
