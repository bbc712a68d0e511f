use Rattle.std.proofs.Common.{◌≡◌, ℕ, List, length, sym, ◌∙◌, ap, subst, All}
use Rattle.op_logic.specs.Names.{named, HasNames}
use Rattle.op_term.specs.Places.{term_at}
use Rattle.op_term.specs.declared.node.Node.{Node}
use Rattle.op_bind.specs.Visited.{visit}
use Rattle.op_cursor.specs.inner.OwnNames.{IsOwnNode, IsNamedBelow}
use Rattle.op_cursor.proofs.OwnTables.{visited-own, visited-below, renamed-same, renamed-names}
use Rattle.op_cursor.proofs.own_names.with_own_names.Goals as goal

pub names_among-requires : goal.names_among-requires
names_among-requires c =
    let terms = c.args.whole.now.terms in
    let k = length c.args.symbols.now in
    let e : c.deref.result.now ≡ visit (term_at terms c.args.whole.now.root) =
    c.deref.ensures.value ∙ (c.in_ok-nodes.ensures ∙ ap (λ (r : ℕ). visit (term_at terms r)) c.root-root.ensures.root) in
    subst (λ (xs : List Node). All (λ n. IsNamedBelow k n) xs) (sym e)
    (visited-below k (term_at terms c.args.whole.now.root) c.requires.names)

pub renamed-requires-clause-own : goal.renamed-requires-clause-own
renamed-requires-clause-own c =
    let terms = c.args.whole.now.terms in
    let names = c.args.symbols.now in
    let own = c.in_ok-own.own in
    let e : c.deref.result.now ≡ visit (term_at terms c.args.whole.now.root) =
    c.deref.ensures.value ∙ (c.in_ok-nodes.ensures ∙ ap (λ (r : ℕ). visit (term_at terms r)) c.root-root.ensures.root) in
    visited-own names own (term_at terms c.args.whole.now.root)
    (subst (λ (xs : List Node). All (λ n. IsOwnNode names own n) xs) e c.in_ok-own.ensures)

pub returns-clause-same : goal.returns-clause-same
returns-clause-same c =
    let terms = c.args.whole.now.terms in
    let names = c.args.symbols.now in
    let own = c.in_ok-own.own in
    let e : c.deref.result.now ≡ visit (term_at terms c.args.whole.now.root) =
    c.deref.ensures.value ∙ (c.in_ok-nodes.ensures ∙ ap (λ (r : ℕ). visit (term_at terms r)) c.root-root.ensures.root) in
    let h = visited-own names own (term_at terms c.args.whole.now.root)
    (subst (λ (xs : List Node). All (λ n. IsOwnNode names own n) xs) e c.in_ok-own.ensures) in
    ap (named own) c.in_ok-term.ensures ∙ renamed-same names own (term_at terms c.args.whole.now.root) h

pub returns-clause-names : goal.returns-clause-names
returns-clause-names c =
    let terms = c.args.whole.now.terms in
    let names = c.args.symbols.now in
    let own = c.in_ok-own.own in
    let e : c.deref.result.now ≡ visit (term_at terms c.args.whole.now.root) =
    c.deref.ensures.value ∙ (c.in_ok-nodes.ensures ∙ ap (λ (r : ℕ). visit (term_at terms r)) c.root-root.ensures.root) in
    let h = visited-own names own (term_at terms c.args.whole.now.root)
    (subst (λ (xs : List Node). All (λ n. IsOwnNode names own n) xs) e c.in_ok-own.ensures) in
    subst (HasNames (length own)) (sym c.in_ok-term.ensures) (renamed-names names own (term_at terms c.args.whole.now.root) h)
