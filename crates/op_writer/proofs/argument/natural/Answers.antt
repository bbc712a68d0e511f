use Rattle.std.proofs.Common.{◌≡◌, ℤ, sym, ◌∙◌, ap, arith, w64}
use Rattle.std.proofs.lemmas.Int.{to_z-of_z}
use mir.Val.{to_z, of_z}
use Rattle.op_term.specs.declared.node.Node.TheVariants.{Int}
use Rattle.op_writer.specs.inner.Stack.{natural_of}
use Rattle.op_writer.proofs.LetterTerms.{natural-int}
use Rattle.op_writer.proofs.argument.natural.Goals as goal

pub returns-else-i-lt0 : goal.returns-else-i-lt0
returns-else-i-lt0 c =
    let e : to_z w64 (of_z w64 c.in-Int.i) ≡ c.in-Int.i = grind (arith, to_z-of_z) in
    natural-int (to_z w64 (of_z w64 c.in-Int.i)) c.if-i-lt0.false ∙ (ap (λ (i : ℤ). natural_of (Int i)) e ∙ sym (ap natural_of c.in-Int.is))
