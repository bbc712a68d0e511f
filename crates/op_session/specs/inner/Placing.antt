-- The argument of `goto`, as code sees it.
use Rattle.std.specs.Prelude.{◌≡◌, ℕ, codes, List}
use Rattle.op_logic.specs.Term.{Term}
use Rattle.op_logic.specs.Names.{named}
use Rattle.op_trace.specs.Database.{Text}
use Rattle.op_trace.specs.World.{Event}
use Rattle.op_trace.specs.Ending.{Ending}
use Rattle.op_trace.specs.Builtins.{instantiation_error, type_error}
use Rattle.op_inspect.specs.Errors.{domain_error}
use Rattle.op_moves.specs.Moves.{Stand, goto}
use Rattle.op_session.specs.declared.place.Place.{Place}
use Rattle.op_session.specs.declared.place.Place.TheVariants as place
use Rattle.op_session.specs.Commands.{Replied, to_place, by_move, refused}

-- the command, by what its argument is
abbrev pub by_place : List Event → Ending → ℕ → Stand → ℕ → Term Text → Place → Replied
by_place es e n s left t (place.At j) = by_move n s (goto es e j s left)
by_place es e n s left t place.Unbound = refused n s left instantiation_error
by_place es e n s left t place.NotInteger = refused n s left (type_error (codes "integer") t)
by_place es e n s left t place.Negative = refused n s left (domain_error (codes "not_less_than_zero") t)

-- the command comes to this, whatever the names are
abbrev pub IsJudged : Term ℕ → Place → Type 0
IsJudged t x =
    (names : List Text) (es : List Event) (e : Ending) (n : ℕ) (s : Stand) (left : ℕ)
    → to_place es e n s left (named names t) ≡ by_place es e n s left (named names t) x
