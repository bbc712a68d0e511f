-- What a command comes to is what its move does.
use Rattle.std.proofs.Common.{◌≡◌, ℕ, pos, true, List, codes, refl, ap}
use Rattle.op_logic.proofs.BoolCases.{if_true}
use Rattle.op_logic.specs.Term.{Term, var, int, node}
use Rattle.op_trace.specs.Database.{Text}
use Rattle.op_trace.specs.World.{Event}
use Rattle.op_trace.specs.Ending.{Ending}
use Rattle.op_moves.specs.Pattern.{is_event}
use Rattle.op_moves.specs.Moves.{Stand, Outcome}
use Rattle.op_inspect.specs.Errors.{domain_error}
use Rattle.op_session.specs.declared.command.Command.{Command}
use Rattle.op_session.specs.declared.command.Command.TheVariants as command
use Rattle.op_session.specs.Commands.{comes_to, by_move, by_pattern, refused}
use Rattle.op_session.specs.inner.Steering.{moving_of}

-- an argument that is right for a command: none, a place, or a pattern
abbrev pub IsRight : ℕ → Term Text → Command → Type 0
IsRight j t command.Goto = t ≡ int (pos j)
IsRight j t command.Seek = is_event t ≡ true
IsRight j t command.SeekBack = is_event t ≡ true
IsRight j t c = Unit {0}

by-event : (n left : ℕ) (s : Stand) (p : Term Text) (o : Outcome) → is_event p ≡ true → by_pattern n s left p o ≡ by_move n s o
by-event n left s (var v) o e = absurd cc
by-event n left s (int i) o e = absurd cc
by-event n left s (node f ts) o e =
    if_true (is_event (node f ts)) (by_move n s o) (refused n s left (domain_error (codes "event_pattern") (node f ts))) e

pub command-moves : (es : List Event) (e : Ending) (n j : ℕ) (s : Stand) (left : ℕ) (t : Term Text) (c : Command) → IsRight j t c
    → comes_to es e n s left t c ≡ by_move n s (moving_of j t c es e s left)
command-moves es e n j s left t command.Next h = refl
command-moves es e n j s left t command.Prev h = refl
command-moves es e n j s left t command.First h = refl
command-moves es e n j s left t command.Last h = refl
command-moves es e n j s left t command.Parent h = refl
command-moves es e n j s left t command.Finish h = refl
command-moves es e n j s left t command.Retry h = refl
command-moves es e n j s left t command.Goto h = ap (λ (u : Term Text). comes_to es e n s left u command.Goto) h
command-moves es e n j s left t command.Seek h = by-event n left s t (moving_of j t command.Seek es e s left) h
command-moves es e n j s left t command.SeekBack h = by-event n left s t (moving_of j t command.SeekBack es e s left) h
