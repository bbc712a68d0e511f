-- What calls of a feed come to together, over each rest of the input.
use Rattle.std.specs.Prelude.{◌≡◌, ℕ, ◌+◌, ◌≤◌, List, ◌++◌, length}
use Rattle.std.specs.Io.KnownBytes.{Appends}
use Rattle.op_desk.specs.declared.chan.Chan.TheVariants.{Input, Output}
use Rattle.op_trace.specs.Outside.{Taking, follow}
use Rattle.op_trace.specs.Run.{Run, looked_at, output_at}
use Rattle.op_moves.specs.Places.{IsWrittenBehind}
use Rattle.op_retrace.specs.Fed.{Fed, source_of}
use Rattle.op_retrace.specs.Sight.{Sight}
use Rattle.op_retrace.specs.Takes.{Takes}

-- The run is the same one. Its output was put, and its input taken, up to the furthest place.
pub record ComesOver (r now : Run) (old new : Fed) (taken put : List ℕ) : Type 0 where
  pub run : now ≡ r
  pub output : output_at r new.furthest ≡ output_at r old.furthest ++ put
  pub looked : looked_at r new.furthest ≡ looked_at r old.furthest + length taken

-- calls that answered no fault, after which something is so of the run
pub record Comes (IsSo : Run → Type 0) (old new : Fed) (a b : Sight) : Type 0 where
  pub loaded : new.loaded ≡ old.loaded
  pub keeps : new.keeps ≡ old.keeps
  pub taking : Taking
  pub takes : Takes taking (source_of (a.left Input) old) (source_of (b.left Input) new)
  pub put : List ℕ
  pub appends : Appends (a.written Output) (b.written Output) put
  pub over : (rest : List ℕ) → ComesOver (old.run (follow taking rest)) (new.run rest) old new taking.bytes put
  pub so : (rest : List ℕ) → IsSo (old.run (follow taking rest))

-- The run is the same one. No more was put and taken than a place of it would have brought.
pub record BrokeOver (to : ℕ) (r now : Run) (old : Fed) (taken put : List ℕ) : Type 0 where
  pub run : now ≡ r
  pub output : IsWrittenBehind (output_at r old.furthest ++ put) (output_at r to)
  pub looked : looked_at r old.furthest + length taken ≤ looked_at r to

-- calls the last of which answered a fault, on the way to a place of the run
pub record Broke (to : Run → ℕ) (IsSo : Run → Type 0) (old new : Fed) (a b : Sight) : Type 0 where
  pub loaded : new.loaded ≡ old.loaded
  pub keeps : new.keeps ≡ old.keeps
  pub taking : Taking
  pub takes : Takes taking (source_of (a.left Input) old) (source_of (b.left Input) new)
  pub put : List ℕ
  pub appends : Appends (a.written Output) (b.written Output) put
  pub over : (rest : List ℕ) → BrokeOver (to (old.run (follow taking rest))) (old.run (follow taking rest)) (new.run rest) old
      taking.bytes put
  pub so : (rest : List ℕ) → IsSo (old.run (follow taking rest))
