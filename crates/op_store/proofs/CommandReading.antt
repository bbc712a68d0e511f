-- Commands that were read.
use Rattle.std.proofs.Common.{◌≡◌, ℕ, List, length, take, Result, sym, ap, ◌∙◌, subst}
use Rattle.op_logic.specs.Term.{Term}
use Rattle.op_logic.specs.Names.{named, HasNames}
use Rattle.op_logic.proofs.NameTables.{named-more}
use Rattle.op_trace.specs.Database.{Text}
use Rattle.op_term.specs.Ops.{Table}
use Rattle.op_term.specs.declared.quotes.DoubleQuotes.{DoubleQuotes}
use Rattle.op_reader.specs.Reading.{term, reading_of}
use Rattle.op_store.specs.Load.{Query, Found, Bad, command_of, command_read, command_outcome, goal_in, goal_read, goal_outcome}
use Rattle.op_store.specs.declared.loading.load_fault.LoadFault.{LoadFault}
use Rattle.op_store.specs.Queries.{TellsCommand, TellsGoal}
use Rattle.op_store.specs.declared.goals.goal.Goal.{Goal}
use Rattle.op_store.specs.declared.goals.command_fault.CommandFault.{CommandFault}

pub command-told : (table : Table) (quotes : DoubleQuotes) (text : List ℕ) (old new : List Text) (t : Term ℕ)
    (names : List (Text × ℕ)) (used : ℕ) (r : Result Goal CommandFault) → reading_of table quotes text ≡ term (named old t) names used
    → take (length old) new ≡ old → HasNames (length old) t → TellsCommand new r (command_read (named new t) names)
    → TellsCommand new r (command_of table quotes text)
unfolding command_of
command-told table quotes text old new t names used r e kept has tells =
    let same : command_read (named new t) names ≡ command_outcome text (reading_of table quotes text) =
    ap (λ (x : Term Text). command_read x names) (named-more old new kept t has) ∙ sym (ap (command_outcome text) e) in
    subst (λ (q : Result Query Bad). TellsCommand new r q) same tells

pub goal-told : (table : Table) (quotes : DoubleQuotes) (bytes : List ℕ) (old new : List Text) (t : Term ℕ)
    (names : List (Text × ℕ)) (used : ℕ) (r : Result Goal LoadFault) → reading_of table quotes bytes ≡ term (named old t) names used
    → take (length old) new ≡ old → HasNames (length old) t → TellsGoal new r (goal_read bytes (named new t) names used)
    → TellsGoal new r (goal_in table quotes bytes)
unfolding goal_in
goal-told table quotes bytes old new t names used r e kept has tells =
    let same : goal_read bytes (named new t) names used ≡ goal_outcome bytes (reading_of table quotes bytes) =
    ap (λ (x : Term Text). goal_read bytes x names used) (named-more old new kept t has) ∙ sym (ap (goal_outcome bytes) e) in
    subst (λ (q : Result Query Found). TellsGoal new r q) same tells
