use Rattle.std.proofs.Common.{◌≡◌, ◌∙◌, ap, sym, subst, length, arith}
use Rattle.op_token.specs.declared.piece.Piece.TheVariants.{Text}
use Rattle.op_token.specs.Cut.{cut_of, text_in, IsText}
use Rattle.op_token.proofs.TermTexts.{piece_is, cut_within, text_is}
use Rattle.op_token.proofs.cutter.Cutter.text.Goals as goal
use Rattle.op_token.proofs.cutter.Cutter.text.Goals.{After-piece}

cut_is : (c : After-piece) → cut_of c.self.inside.bytes.items ≡ c.piece.result
cut_is c = piece_is c.self.inside.walk c.self.inside.bytes.items c.piece.result c.self.invariant c.piece.ensures

pub unreachable-requires : goal.unreachable-requires
unreachable-requires c =
    let p = cut_is (goal.at.unreachable-requires c).After-piece in
    let t = text_is c.piece.result (subst IsText p (subst (λ s. IsText (cut_of s)) (sym c.self.view_is) c.requires)) in
    c.in_default.not-Text t.0 t.1.0 t.1.1

pub part-requires-clause-order : goal.part-requires-clause-order
part-requires-clause-order c =
    let p = cut_is (goal.at.part-requires-clause-order c).After-piece in
    let w = cut_within c.self.inside.bytes.items c.in-Text.from c.in-Text.to (p ∙ c.in-Text.is) in
    omega (arith, w.0)

pub part-requires-clause-within : goal.part-requires-clause-within
part-requires-clause-within c =
    let p = cut_is (goal.at.part-requires-clause-within c).After-piece in
    let w = cut_within c.self.inside.bytes.items c.in-Text.from c.in-Text.to (p ∙ c.in-Text.is) in
    let l = ap length c.deref.ensures.value in
    omega (arith, w.1, l)

pub returns : goal.returns
returns c =
    let p = cut_is (goal.at.returns c).After-piece in
    c.part.ensures
    ∙ ap (λ s. text_in (Text c.in-Text.from c.in-Text.to) s) c.deref.ensures.value
    ∙ ap (λ x. text_in x c.self.inside.bytes.items) (sym (p ∙ c.in-Text.is))
    ∙ ap (λ s. text_in (cut_of s) s) c.self.view_is
