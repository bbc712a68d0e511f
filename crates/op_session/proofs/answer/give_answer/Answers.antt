use Rattle.std.proofs.Common.{◌≡◌, ◌≤◌, ℕ, List, Result, Ok, Err, refl, ◌∙◌, subst}
use Rattle.std.proofs.lemmas.Result.{err_from_is_err_and}
use Rattle.op_session.specs.Traced.{Traced}
use Rattle.op_session.specs.declared.feed.Feed.{Feed}
use Rattle.op_session.specs.declared.status.Status.{Status}
use Rattle.op_session.specs.declared.status.Status.TheVariants as status
use Rattle.op_moves.specs.Moves.{Stand}
use Rattle.op_session.specs.Session.{answer_to}
use Rattle.op_session.specs.Sight.{Sight}
use Rattle.op_session.specs.inner.Steps.{SaysAll, SaysFront, Says}
use Rattle.op_session.specs.inner.Feeding.{most_of}
use Rattle.op_session.specs.inner.Giving.{Told, Pays, Gives}
use Rattle.op_session.proofs.BetweenBytes.{memory_fault}
use Rattle.op_session.proofs.CallEnds.{no_front}
use Rattle.op_session.proofs.answer.give_answer.Goals as goal

gives_memory : (traced : Traced) (s : Stand) (text : List ℕ) (old new : Feed) (before after : ℕ) (a : Sight) → Pays old new before after
    → Gives traced s text old new before after a a (Err status.Memory)
gives_memory traced s text old new before after a p = record {
  says = record { fault = memory_fault a; unwritten = tt; talk = no_front a a (answer_to traced s text).text refl; commands = refl };
  feeds = λ e. absurd cc;
  pays = p;
}

gives_said : (traced : Traced) (s : Stand) (text answer said : List ℕ) (old new : Feed) (before after : ℕ) (a b : Sight)
    → (r : Result (Unit {0}) Status) → said ≡ answer → Told traced s text answer new → Pays old new before after
    → most_of new.machine ≤ most_of old.machine → Says a b said r → Gives traced s text old new before after a b r
gives_said traced s text answer said old new before after a b (Ok x) e t p m g =
    record { says = subst (λ (w : List ℕ). SaysAll a b w) (e ∙ t.told) g; feeds = t.feeds; pays = p; rises = m }
gives_said traced s text answer said old new before after a b (Err st) e t p m g =
    record { says = subst (λ (w : List ℕ). SaysFront st a b w) (e ∙ t.told) g; feeds = λ w. t.feeds; pays = p }

pub returns-in_err-answer : goal.returns-in_err-answer
returns-in_err-answer g c = λ traced s f.
    let p = err_from_is_err_and c.from_residual.result c.from_residual.ensures.1 in
    rw (p.1, p.2) (gives_memory traced s c.args.text.now c.args.feed.now c.answer.new.feed c.args.steps.now c.answer.new.steps _
    c.in_err-answer.ensures.pays)

pub returns : goal.returns
returns g c = λ traced s f.
    gives_said traced s c.args.text.now c.in_ok-answer.answer c.as_slice.result.now c.args.feed.now c.answer.new.feed
    c.args.steps.now c.answer.new.steps _ _ c.say.result c.as_slice.ensures
    (c.in_ok-answer.ensures.told traced s f) c.in_ok-answer.ensures.pays c.in_ok-answer.ensures.rises c.say.ensures
