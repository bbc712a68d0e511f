-- The outcome of a call, step by step.
use Rattle.std.proofs.Common.{◌≡◌, ℕ, ◌<◌, ◌≤◌, true, false, Bool, cond, drop, List, [], ◌∷◌, length, Option, Some, None, Result, Ok, Err}
use Rattle.std.proofs.Common.{refl, sym, ap, ◌∙◌, subst, arith, IsSomeAnd}
use Rattle.std.specs.Prelude.{nat_lt}
use Rattle.std.proofs.lemmas.Bool.Decides.{nat_tests}
use Rattle.op_desk.specs.Contents.{Known, Files, bytes_of, IsFile, IsLonger, IsMissing}
use Rattle.op_store.specs.declared.names.locked.Locked.TheVariants.{Program}
use Rattle.op_trace.specs.Database.{Database}
use Rattle.op_store.specs.Fault.{Fault}
use Rattle.op_store.specs.Load.{Query, Found, Loaded, loaded, stopped, load_text, goal_of, goal_in, goal_bytes, goal_outcome}
use Rattle.op_store.specs.Load.{goal_converted, line_at, fault_line, first_token, is_rest}
use Rattle.op_store.specs.Fault as fault
use Rattle.op_store.specs.Fault.{locked}
use Rattle.op_trace.specs.Body.{converted}
use Rattle.op_store.specs.Queries.{fault_named, IsKnownFault, IsSoundLoadFault, TellsGoal, TellsLoad}
use Rattle.op_store.specs.Stored.{Stored, database_of}
use Rattle.op_store.specs.declared.loading.load_fault.LoadFault.{LoadFault}
use Rattle.op_store.specs.declared.loading.load_fault.LoadFault.TheVariants as load_faults
use Rattle.op_session.specs.inner.Refusing.{Refuses, told_outcome}
use Rattle.op_store.specs.declared.loading.load_fault.LoadFaultKind.{LoadFaultKind}
use Rattle.op_store.specs.declared.loading.load_fault.LoadFaultKind.TheVariants as kinds
use Rattle.op_logic.specs.Term.{Term}
use Rattle.op_term.specs.Ops.{Table}
use Rattle.op_trace.specs.Database.{Text}
use Rattle.op_term.specs.declared.quotes.DoubleQuotes.{DoubleQuotes}
use Rattle.op_reader.specs.declared.fault.ReadFaultKind.TheVariants.{NoEnd}
use Rattle.op_reader.specs.Reading as reading
use Rattle.op_reader.specs.Reading.{reading_of}
use Rattle.op_session.specs.declared.status.Status.{Status}
use Rattle.op_session.specs.declared.status.Status.TheVariants as status
use Rattle.op_session.specs.Words.{fault_words, load_line}
use Rattle.op_session.specs.Call.{Outcome, Line, file_limit, first_world, goal_name, with_bytes, with_loaded, with_world, with_goal}
use Rattle.op_session.specs.Call.{with_query, outcome_of, long_line, usage_line}
use Rattle.op_session.specs.Promise.{WhenTold, IsBroken, HasFile, CostsAs, BrokenAs, WordsRefusedAs}
use Rattle.op_session.proofs.CallEnds.{leaves_memory, leaves_load}
use Rattle.op_session.specs.inner.Progress.{Leaves, IsOutcome}
use Rattle.op_session.specs.Sight.{Sight}
use Rattle.op_session.specs.inner.Steps.{Quiet, Says, Untouched, ended_as}

lt_false : (m n : ℕ) → n ≤ m → nat_lt m n ≡ false
lt_false m n h = grind (arith, nat_tests)

lt_true : (m n : ℕ) → m < n → nat_lt m n ≡ true
lt_true m n h = grind (arith, nat_tests)

by_file : (name goal bytes : List ℕ) (o : Known) → o ≡ Some bytes → length bytes ≤ file_limit
    → with_bytes name goal o ≡ with_loaded name goal (load_text Program first_world bytes)
by_file name goal bytes o e h =
    ap (with_bytes name goal) e
    ∙ ap (λ b. cond b (Line status.TooLong (long_line name)) (with_loaded name goal (load_text Program first_world bytes)))
    (lt_false file_limit (length bytes) h)

-- a whole file was read
pub outcome_file : (shelf : Option Files) (name goal bytes : List ℕ) → IsFile shelf name bytes → length bytes ≤ file_limit
    → IsOutcome (told_outcome shelf name goal) (with_loaded name goal (load_text Program first_world bytes))
outcome_file None name goal bytes f h = tt
outcome_file (Some files) name goal bytes f h = by_file name goal bytes (bytes_of files name) f h

-- or is too long
pub outcome_long : (shelf : Option Files) (name goal : List ℕ) → IsLonger shelf name file_limit
    → IsOutcome (told_outcome shelf name goal) (Line status.TooLong (long_line name))
outcome_long None name goal h = tt
outcome_long (Some files) name goal h = by (bytes_of files name) h
  where
    by : (o : Known) → IsSomeAnd o (λ bytes. file_limit < length bytes) → with_bytes name goal o ≡ Line status.TooLong (long_line name)
    by None h = absurd h
    by (Some bytes) h =
        ap (λ b. cond b (Line status.TooLong (long_line name)) (with_loaded name goal (load_text Program first_world bytes)))
        (lt_true file_limit (length bytes) h)

-- or is missing
pub outcome_missing : (shelf : Option Files) (name goal : List ℕ) → IsMissing shelf name
    → WhenTold (told_outcome shelf name goal) (λ x. HasFile x → ⊥)
outcome_missing None name goal h = absurd h
outcome_missing (Some files) name goal h = subst (λ o. HasFile (with_bytes name goal o) → ⊥) (sym h) (λ f. f)

-- the program was loaded, or refused
pub outcome_loaded : (name goal : List ℕ) (l : Loaded) (w : Database) → l ≡ loaded w → with_world name goal w ≡ with_loaded name goal l
outcome_loaded name goal l w e = sym (ap (with_loaded name goal) e)

pub outcome_refused : (name goal : List ℕ) (l : Loaded) (w : Database) (line : ℕ) (f : Fault) → l ≡ stopped w line f
    → Line status.Load (load_line name line (fault_words f)) ≡ with_loaded name goal l
outcome_refused name goal l w line f e = sym (ap (with_loaded name goal) e)

-- the goal was read, or refused
pub outcome_goal : (w : Database) (r : Result Query Found) (q : Query) → r ≡ Ok q → with_query w q ≡ with_goal w r
outcome_goal w r q e = sym (ap (with_goal w) e)

pub outcome_no_goal : (w : Database) (r : Result Query Found) (f : Found) → r ≡ Err f
    → Line status.Load (load_line goal_name f.line (fault_words f.fault)) ≡ with_goal w r
outcome_no_goal w r f e = sym (ap (with_goal w) e)

pub renamed : (x y : Outcome) (s : Status) (a b : Sight) (before after : ℕ) → x ≡ y → Leaves (Some x) s a b before after
    → Leaves (Some y) s a b before after
renamed x y s a b before after e l = subst (λ x. Leaves (Some x) s a b before after) e l

outcome_words : (files : Files) (ws : List (List ℕ)) → (length ws ≡ 2 → ⊥) → Line status.Usage usage_line ≡ outcome_of files ws
outcome_words files [] n = refl
outcome_words files (a ∷ []) n = refl
outcome_words files (a ∷ b ∷ []) n = absurd (n refl)
outcome_words files (a ∷ b ∷ c ∷ ws) n = refl

-- words that aren't two
told_words : (shelf : Option Files) (ws : List (List ℕ)) (P : Outcome → Type 0) → (length ws ≡ 2 → ⊥) → P (Line status.Usage usage_line)
    → WhenTold shelf (λ files. P (outcome_of files ws))
told_words None ws P n p = tt
told_words (Some files) ws P n p = subst P (outcome_words files ws n) p

pub words_refused : (a b : Sight) (n : ℕ) (r : Result (Unit {0}) Status) → Says a b usage_line r
    → WordsRefusedAs (ended_as status.Usage r) a b n n
words_refused a b n (Ok x) g = (g.talk, g.commands, refl)
words_refused a b n (Err status.Write) g = (tt, g.talk, g.commands, refl)
words_refused a b n (Err status.Memory) g = (tt, g.talk, g.commands, refl)
words_refused a b n (Err s) g = absurd g.unwritten

pub words_unpaid : (shelf : Option Files) (ws : List (List ℕ)) (s : Status) (a : Sight) (n : ℕ) → (length ws ≡ 2 → ⊥)
    → WhenTold shelf (λ files. CostsAs (outcome_of files ws) s a n n)
words_unpaid shelf ws s a n two = told_words shelf ws (λ o. CostsAs o s a n n) two refl

pub words_broken : (shelf : Option Files) (ws : List (List ℕ)) (s : Status) (a b : Sight) (m : ℕ) (r : Result (Unit {0}) Status)
    → s ≡ ended_as status.Usage r
    → (length ws ≡ 2 → ⊥) → Says a b usage_line r → IsBroken s → WhenTold shelf (λ files. BrokenAs (outcome_of files ws) s a b m m)
words_broken shelf ws s a b m r e n g i =
    subst (λ s. WhenTold shelf (λ files. BrokenAs (outcome_of files ws) s a b m m)) (sym e) (by r g (subst IsBroken e i))
  where
    by : (r : Result (Unit {0}) Status) → Says a b usage_line r → IsBroken (ended_as status.Usage r)
        → WhenTold shelf (λ files. BrokenAs (outcome_of files ws) (ended_as status.Usage r) a b m m)
    by (Ok x) g i = absurd i
    by (Err status.Write) g i = told_words shelf ws (λ o. BrokenAs o status.Write a b m m) n (g.talk, g.commands)
    by (Err status.Memory) g i = told_words shelf ws (λ o. BrokenAs o status.Memory a b m m) n (g.talk, g.commands)
    by (Err s) g i = absurd g.unwritten

-- what only a session changes stays, whatever was written
pub says_quiet : (a b : Sight) (line : List ℕ) (r : Result (Unit {0}) Status) → Says a b line r → Quiet a b
says_quiet a b line (Ok x) g = g.calm.quiet
says_quiet a b line (Err s) g = g.fault.quiet

-- what was said, by an equal line
pub says_as : (a b : Sight) (x y : List ℕ) (r : Result (Unit {0}) Status) → x ≡ y → Says a b x r → Says a b y r
says_as a b x y r e s = subst (λ (z : List ℕ). Says a b z r) e s

-- a goal is refused for no name
abbrev IsNoLock : Fault → Type 0
IsNoLock (locked k) = ⊥
IsNoLock f = Unit {0}

converted-fault : (line : ℕ) (t : Term Text) (names : List (Text × ℕ)) (o : Option (Term Text)) (f : Found)
    → goal_converted line t names o ≡ Err f → IsNoLock f.fault
converted-fault line t names None f e =
    let q : record { line = line; fault = fault.body } ≡ f = cc in subst (λ (x : Found). IsNoLock x.fault) q tt
converted-fault line t names (Some b) f e = absurd cc

read-fault : (b : Bool) (line : ℕ) (r : Result Query Found) (f : Found) → ((f : Found) → r ≡ Err f → IsNoLock f.fault)
    → cond b r (Err (record { line = line; fault = fault.trailing })) ≡ Err f → IsNoLock f.fault
read-fault true line r f h e = h f e
read-fault false line r f h e =
    let q : record { line = line; fault = fault.trailing } ≡ f = cc in subst (λ (x : Found). IsNoLock x.fault) q tt

outcome-fault : (bytes : List ℕ) (o : reading.Outcome) (f : Found) → goal_outcome bytes o ≡ Err f → IsNoLock f.fault
outcome-fault bytes reading.end f e =
    let q : record { line = line_at 1 bytes 0; fault = fault.syntax NoEnd } ≡ f = cc in subst (λ (x : Found). IsNoLock x.fault) q tt
outcome-fault bytes (reading.refused place kind) f e =
    let q : record { line = fault_line 1 bytes place; fault = fault.syntax kind } ≡ f = cc in subst (λ (x : Found). IsNoLock x.fault) q tt
outcome-fault bytes (reading.term t names used) f e =
    let line = line_at 1 bytes (first_token bytes) in
    read-fault (is_rest (drop used bytes)) line (goal_converted line t names (converted [] t).body) f
    (λ f h. converted-fault line t names (converted [] t).body f h) e

goal-no-lock : (table : Table) (quotes : DoubleQuotes) (text : List ℕ) (f : Found) → goal_of table quotes text ≡ Err f → IsNoLock f.fault
unfolding goal_of goal_in
goal-no-lock table quotes text f e = outcome-fault (goal_bytes text) (reading_of table quotes (goal_bytes text)) f e

pub goal-fault : (table : Table) (quotes : DoubleQuotes) (text : List ℕ) (names : List Text) (n line : ℕ) (kind : LoadFaultKind)
    → goal_of table quotes text ≡ Err (record { line = line; fault = fault_named names kind }) → IsKnownFault n kind
goal-fault table quotes text names n line (kinds.Syntax k) e = tt
goal-fault table quotes text names n line kinds.Trailing e = tt
goal-fault table quotes text names n line kinds.Head e = tt
goal-fault table quotes text names n line kinds.Body e = tt
goal-fault table quotes text names n line (kinds.Locked k) e = absurd (goal-no-lock table quotes text _ e)
goal-fault table quotes text names n line kinds.Directive e = tt

-- the fault of a goal's text has a name that is known
pub goal-sound : (table : Table) (quotes : DoubleQuotes) (text : List ℕ) (names : List Text) (n : ℕ) (e : LoadFault)
    → TellsGoal names (Err e) (goal_of table quotes text) → IsSoundLoadFault n e
goal-sound table quotes text names n load_faults.Memory h = tt
goal-sound table quotes text names n (load_faults.At line kind) h = goal-fault table quotes text names n line kind h

-- a goal or a program that was refused
pub goal-refused : (w : Database) (names : List Text) (r : Result Query Found) (e : LoadFault) (s : Status) (a b : Sight) (n : ℕ)
    → TellsGoal names (Err e) r → Refuses names goal_name e s a b → Leaves (Some (with_goal w r)) s a b n n
goal-refused w names r load_faults.Memory s a b n h l = l (Some (with_goal w r)) n
goal-refused w names r (load_faults.At line kind) s a b n h l =
    renamed _ _ s a b n n (outcome_no_goal w r (record { line = line; fault = fault_named names kind }) h) (l n)

pub load-refused : (name goal : List ℕ) (new : Stored) (l : Loaded) (e : LoadFault) (s : Status) (a b : Sight) (n : ℕ)
    → TellsLoad {U = Unit {0}} new (Err e) l → Refuses new.names name e s a b → Leaves (Some (with_loaded name goal l)) s a b n n
load-refused name goal new l load_faults.Memory s a b n h k = k (Some (with_loaded name goal l)) n
load-refused name goal new l (load_faults.At line kind) s a b n h k =
    renamed _ _ s a b n n (outcome_refused name goal l (database_of new) line (fault_named new.names kind) h) (k n)

pub refuses-memory : (names : List Text) (name : List ℕ) (a : Sight) → Untouched a a
    → Refuses names name load_faults.Memory status.Memory a a
refuses-memory names name a u = λ o n. leaves_memory o a a n u

pub refuses-load : (names : List Text) (name : List ℕ) (line : ℕ) (kind : LoadFaultKind) (a b : Sight) (r : Result (Unit {0}) Status)
    → Says a b (load_line name line (fault_words (fault_named names kind))) r
    → Refuses names name (load_faults.At line kind) (ended_as status.Load r) a b
refuses-load names name line kind a b r s = λ n. leaves_load _ a b n r s

pub refuses-as : (names : List Text) (name : List ℕ) (f g : LoadFault) (s : Status) (a b : Sight) → f ≡ g → Refuses names name g s a b
    → Refuses names name f s a b
refuses-as names name f g s a b e r = subst (λ (x : LoadFault). Refuses names name x s a b) (sym e) r
