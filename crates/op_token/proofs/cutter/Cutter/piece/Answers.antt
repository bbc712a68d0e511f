use Rattle.std.proofs.Common.{[], ◌∙◌, ap}
use Rattle.op_token.specs.Cut.{cut_of}
use Rattle.op_token.specs.Walk.{piece_in}
use Rattle.op_token.proofs.TermTexts.{walk_cut}
use Rattle.op_token.proofs.cutter.Cutter.piece.Goals as goal

pub returns : goal.returns
returns c = c.piece.ensures ∙ ap (λ w. piece_in w []) c.self.invariant ∙ walk_cut c.self.inside.bytes.items ∙ ap cut_of c.self.view_is
