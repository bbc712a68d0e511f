-- What lies outside a run, what was taken from it, and a world with it.
use Rattle.std.specs.Prelude.{ℕ, Bool, true, false, List, [], ◌++◌, Option, None}
use Rattle.op_trace.specs.World.{World, Trace}

-- the bytes of the input that are still to be got, and the trace part of an analysis
pub record Outside : Type 0 where
  pub left : List ℕ
  pub trace : Option Trace

-- a program that has no input and analyses no run
abbrev pub no_outside : Outside
no_outside = record { left = []; trace = None }

-- what lies outside, by what a source of bytes still has
abbrev pub Beyond : Type 0
Beyond = List ℕ → Outside

-- the bytes that were taken from a source, and whether its end was met behind them
pub record Taking : Type 0 where
  pub bytes : List ℕ
  pub over : Bool

abbrev pub nothing : Taking
nothing = record { bytes = []; over = false }

abbrev pub follow_by : Bool → List ℕ → List ℕ → List ℕ
follow_by true bytes rest = bytes
follow_by false bytes rest = bytes ++ rest

-- what a source had, by what was taken from it and what it has now
abbrev pub follow : Taking → List ℕ → List ℕ
follow t rest = follow_by t.over t.bytes rest

abbrev pub then_by : Bool → Taking → Taking → Taking
then_by true t u = t
then_by false t u = record { bytes = t.bytes ++ u.bytes; over = u.over }

-- two takings, one after the other; after the end nothing more is taken
abbrev pub and_then : Taking → Taking → Taking
and_then t u = then_by t.over t u

-- a world with what lies outside: what is still to be got stands behind the bytes that it has got and not read, its trace part is that
-- of the analysis, and these bytes are all that was written
abbrev pub at : Outside → List ℕ → World → World
at h o w = record w { input = w.input ++ h.left; output = o; trace = h.trace }
