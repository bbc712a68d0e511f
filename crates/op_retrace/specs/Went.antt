-- What calls of a feed that answered no fault come to together: a reset, or none, and then advances.
use Rattle.std.specs.Prelude.{◌≡◌, ℕ, ◌+◌, ◌≤◌, List, ◌++◌, length, max, None}
use Rattle.std.specs.Io.KnownBytes.{Appends}
use Rattle.op_desk.specs.Contents.{Known}
use Rattle.op_trace.specs.Outside.{Taking, follow}
use Rattle.op_trace.specs.Run.{Run, looked_at, output_at}
use Rattle.op_retrace.specs.Fed.{Fed, Pays, source_of}
use Rattle.op_retrace.specs.Takes.{Takes}

-- over one rest of the input; the steps are those from the place where the last run began
pub record WentOver (from : ℕ) (r now : Run) (old new : Fed) (taken put : List ℕ) (before after : ℕ) : Type 0 where
  pub run : now ≡ r
  pub output : output_at r new.furthest ≡ output_at r old.furthest ++ put
  pub looked : looked_at r new.furthest ≡ looked_at r old.furthest + length taken
  pub pays : Pays old.keeps r from new.place before after

-- the feed stood at a place, or after a reset at 0, and went on from there
pub record Went (from : ℕ) (old new : Fed) (left left_now written written_now : Known) (before after : ℕ) : Type 0 where
  pub none : old.fault ≡ None
  pub still_none : new.fault ≡ None
  pub loaded : new.loaded ≡ old.loaded
  pub keeps : new.keeps ≡ old.keeps
  pub later : from ≤ new.place
  pub furthest : new.furthest ≡ max old.furthest new.place
  pub taking : Taking
  pub takes : Takes taking (source_of left old) (source_of left_now new)
  pub put : List ℕ
  pub appends : Appends written written_now put
  pub over : (rest : List ℕ) → WentOver from (old.run (follow taking rest)) (new.run rest) old new taking.bytes put before after
