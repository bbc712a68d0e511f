use Rattle.std.proofs.Common.{◌≡◌, length, take, sym, ap, ◌∙◌, arith}
use Rattle.std.proofs.lemmas.List.{length-take-le}
use Rattle.op_bind.specs.State.{State}
use Rattle.op_text_cases.proofs.loaded.add_undone.Goals as goal

pub add_resolved-requires : goal.add_resolved-requires
add_resolved-requires c =
    let l : length c.undo_to.new.self.terms ≡ c.args.mark.terms =
    ap (λ (s : State). length s.terms) c.undo_to.ensures ∙ length-take-le c.args.mark.terms c.args.bindings.now.terms
    c.requires.good.terms_there in
    omega (arith, l, c.requires.there)
