use Rattle.std.proofs.Common.{◌≡◌, ◌+◌, ◌≤◌, ◌^◌, ℕ, List, length, sym, ◌∙◌, ap, subst, arith, Result, Ok, Err, OnOk}
use Rattle.op_logic.specs.Term.{Term, IsWithin, shift, size}
use Rattle.op_term.specs.Places.{term_at}
use Rattle.op_term.specs.declared.node.Node.{Node}
use Rattle.op_bind.specs.State.{State}
use Rattle.op_bind.specs.Visited.{visit}
use Rattle.op_bind.specs.inner.Built.{NodesWithin}
use Rattle.op_bind.proofs.LoadedTerms
use Rattle.op_bind.proofs.TermCopies.{visit-size, visit-within}
use Rattle.op_bind.proofs.bindings.Bindings.load.Goals as goal

pub nodes_of-requires : goal.nodes_of-requires
nodes_of-requires c =
    let whole = c.new-whole.result in
    let first = c.args.first in
    let given = subst (λ (s : State). IsWithin s.count (shift first c.args.term.now)) (sym c.self.view_is) c.requires in
    let l : length c.self.inside.table.items ≤ 2 ^ 64 = omega (arith, c.self.inside.table.ok.0) in
    let value = ap (term_at whole.terms) c.root-root.ensures.root ∙ c.new-whole.ensures.value in (
      c.root-root.ensures.place,
      subst (λ (u : Term ℕ). IsWithin (2 ^ 64) (shift first u)) (sym value) (LoadedTerms.within-more _ _ l _ given),
    )

pub add-requires-clause-within : goal.add-requires-clause-within
add-requires-clause-within c =
    let whole = c.new-whole.result in
    let first = c.args.first in
    let n = c.args.self.now.count in
    let value = ap (term_at whole.terms) c.root-root.ensures.root ∙ c.new-whole.ensures.value in
    let t = shift first (term_at whole.terms c.root-root.result) in
    let given = subst (λ (u : Term ℕ). IsWithin n (shift first u)) (sym value) c.requires in
    subst (λ (ns : List Node). NodesWithin n ns) (sym c.in_ok-nodes.ensures) (visit-within n t given)

pub returns-clause-added : goal.returns-clause-added
returns-clause-added c =
    let whole = c.new-whole.result in
    let first = c.args.first in
    let value = ap (term_at whole.terms) c.root-root.ensures.root ∙ c.new-whole.ensures.value in
    let u = term_at whole.terms c.root-root.result in
    let l : length c.in_ok-nodes.nodes.items ≡ size c.args.term.now =
    ap length c.in_ok-nodes.ensures ∙ (visit-size (shift first u) ∙ (LoadedTerms.size-shift first u ∙ ap size value)) in
    at-most _ _ _ _ l c.add.result c.add.ensures.added
  where
    at-most : {A E : Type 0} (new old made n : ℕ) → made ≡ n → (r : Result A E) → OnOk r (new ≡ old + made) → OnOk r (new ≤ old + n)
    at-most new old made n e (Ok x) h = omega (arith, e, h)
    at-most new old made n e (Err x) h = tt
