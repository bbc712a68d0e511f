use Rattle.std.proofs.Common.{◌<◌, ℕ, List, length, ap, sym, ◌∙◌}
use Rattle.std.specs.Prelude.{Some}
use Rattle.std.proofs.lemmas.List.Elements.{All-pop}
use Rattle.op_inspect.specs.inner.Met.{met_back}
use Rattle.op_inspect.proofs.MeetingVariables.{back-popped}
use Rattle.op_inspect.proofs.variables.first_places.Goals as goal

pub first-preserved : goal.first-preserved
first-preserved c =
    let s = c.args.bindings.now in
    let rest = c.pop.new.self.items in
    let place = c.in-Some.place in
    record {
      met = ap (λ (vs : List ℕ). met_back s vs rest) c.in_ok-meet_variable.ensures.met
          ∙ (sym (back-popped s c.first.met.keys rest c.first.places.items place c.in-Some.ensures.items) ∙ c.first.invariant.met);
      terms = c.in_ok-meet_variable.ensures.terms;
      found = c.in_ok-meet_variable.ensures.there;
      places = (All-pop (λ r. r < length s.terms) c.first.places.items rest (Some place) c.in-Some.ensures.items c.first.invariant.places).0;
    }
