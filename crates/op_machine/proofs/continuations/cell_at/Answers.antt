use Rattle.std.proofs.Common.{arith, subst, sym, ◌≡◌, ℕ, []}
use Rattle.op_machine.specs.declared.continuations.Cell.{Cell}
use Rattle.op_machine.specs.inner.Continuations.{continuation_in, continuations_of, Begins}
use Rattle.op_machine.proofs.ContinuationLaws.{length_continuations_of, first_list, continuation_begins}
use Rattle.op_machine.proofs.continuations.cell_at.Goals as goal

pub returns-then-n-eq0-clause-empty : goal.returns-then-n-eq0-clause-empty
returns-then-n-eq0-clause-empty c =
    subst (λ (n : ℕ). continuation_in (continuations_of c.args.cells.now.items) n ≡ []) (sym c.if-n-eq0.true)
    (first_list c.args.cells.now.items)

pub index-requires : goal.index-requires
index-requires c = omega (arith, c.args.cells.now.ok.0, length_continuations_of c.args.cells.now.items, c.requires.there)

pub returns-clause-begins : goal.returns-clause-begins
returns-clause-begins c =
    subst (λ (x : Cell). Begins (continuations_of c.args.cells.now.items) c.args.n x) (sym c.index.ensures)
    (continuation_begins c.args.cells.now.items c.args.n c.index.result.now c.requires.linked (omega arith) c.requires.there)
