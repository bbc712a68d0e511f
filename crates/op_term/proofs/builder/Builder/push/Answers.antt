use Rattle.std.proofs.Common.{◌≡◌, ℕ, ◌<◌, List, [], ◌∷◌, ◌++◌, length, sym, ◌∙◌, ap, subst, arith, All}
use Rattle.op_logic.specs.Term.{Term}
use Rattle.op_term.specs.inner.Cells.{shaped, terms_of, Laid, HaveSmallShapes}
use Rattle.op_term.specs.declared.builder.Cell.{Cell}
use Rattle.op_term.proofs.Integers.{small-push}
use Rattle.op_term.proofs.BuilderTerms.{Laid-push, terms_of-push}
use Rattle.op_term.proofs.BuilderCalls.{same-length}
use Rattle.op_term.proofs.builder.Builder.push.Goals as goal

pub invariant_of-self-in-Ok : goal.invariant_of-self-in-Ok
invariant_of-self-in-Ok c =
    let parts = c.self.inside.parts.items in
    let cells = c.self.inside.cells.items in
    let ps = c.args.parts.now in
    let cell : Cell = record { from = c.len-from.result; shape = c.args.shape } in
    let from : c.len-from.result ≡ length parts = omega (arith, c.self.inside.parts.ok.0) in
    let small = subst (λ (ts : List (Term ℕ)). All (λ p. p < length ts) ps) (sym c.self.view_is) c.requires.given in
    let laid = Laid-push parts ps cell from c.requires.counted cells c.self.invariant.0 small in (
      subst (Laid 0 0 c.extend_from_slice.new.self.items) (sym c.in-Ok.ensures.items)
          (subst (λ (q : List ℕ). Laid 0 0 q (cells ++ cell ∷ [])) (sym c.in_ok-extend_from_slice.ensures.items) laid),
      subst HaveSmallShapes (sym c.in-Ok.ensures.items) (small-push cells cell c.self.invariant.1 c.requires.small),
    )

pub returns-in-Ok-clause-number : goal.returns-in-Ok-clause-number
returns-in-Ok-clause-number c =
    let l = same-length c.self.inside.parts.items c.self.inside.cells.items c.self.invariant.0 c.args.self.now c.self.view_is in
    omega (arith, c.self.inside.cells.ok.0)

pub returns-in-Ok-clause-ok : goal.returns-in-Ok-clause-ok
returns-in-Ok-clause-ok c =
    let parts = c.self.inside.parts.items in
    let cells = c.self.inside.cells.items in
    let ps = c.args.parts.now in
    let cell : Cell = record { from = c.len-from.result; shape = c.args.shape } in
    let from : c.len-from.result ≡ length parts = omega (arith, c.self.inside.parts.ok.0) in
    ap (terms_of c.extend_from_slice.new.self.items) c.in-Ok.ensures.items
    ∙ (ap (λ (q : List ℕ). terms_of q (cells ++ cell ∷ [])) c.in_ok-extend_from_slice.ensures.items
    ∙ (terms_of-push parts ps cell from c.requires.counted cells c.self.invariant.0
    ∙ ap (λ (ts : List (Term ℕ)). ts ++ shaped ts ps c.args.shape ∷ []) c.self.view_is))
