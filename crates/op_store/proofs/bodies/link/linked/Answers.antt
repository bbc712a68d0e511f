use Rattle.std.proofs.Common.{◌≡◌, ◌≤◌, ◌∷◌, [], ℕ, List, length, reverse, sym, subst, ap, ◌∙◌, arith}
use Rattle.std.proofs.lemmas.List.{length-reverse, reverse-append}
use Rattle.op_store.specs.inner.Walk.{needs, linked_node, unlinked}
use Rattle.op_store.specs.declared.bodies.body_node.BodyNode.{BodyNode}
use Rattle.op_store.proofs.LinkedNodes.{IsLinking, linking-goes, linking-needs}
use Rattle.op_store.proofs.bodies.link.linked.Goals as goal

pub link-requires : goal.link-requires
link-requires g c =
    let l = subst (λ (xs : List (BodyNode _)). IsLinking c.args.met.items xs (reverse c.back.nodes.items) (reverse c.back.stack.items))
    c.in-Some.ensures.items c.back.invariant in
    let n : length (reverse c.back.stack.items) ≡ length c.back.stack.items = length-reverse c.back.stack.items in
    let h : needs c.in-Some.node ≤ length (reverse c.back.stack.items) =
    linking-needs c.requires.0 c.args.met.items c.pop.new.self.items (reverse c.back.nodes.items) c.in-Some.node
    (reverse c.back.stack.items) c.requires.1.0 c.requires.1.1 l in
    omega arith

pub back-preserved : goal.back-preserved
back-preserved g c =
    let met = c.args.met.items in
    let rest = c.pop.new.self.items in
    let later = reverse c.back.nodes.items in
    let stack : List ℕ = reverse c.back.stack.items in
    let x = c.in-Some.node in
    let l = subst (λ (xs : List (BodyNode _)). IsLinking met xs later stack) c.in-Some.ensures.items c.back.invariant in
    let h : needs x ≤ length stack = linking-needs c.requires.0 met rest later x stack c.requires.1.0 c.requires.1.1 l in
    let goes = linking-goes met rest later x stack h l in
    let e1 = ap (λ (xs : List (BodyNode _)). reverse xs) c.in_ok-push.ensures.items
    ∙ (reverse-append c.back.nodes.items (c.link.result ∷ []) ∙ ap (λ (y : BodyNode _). y ∷ later) c.link.ensures.node) in
    let e2 : reverse c.push-in-Some.new.self.items ≡ length rest ∷ unlinked x stack =
    ap (λ (xs : List ℕ). reverse xs) c.in_ok-push-2.ensures.items
    ∙ (reverse-append c.link.new.stack.items (c.len.result ∷ [])
    ∙ (ap (λ (ks : List ℕ). c.len.result ∷ ks) c.link.ensures.stack
    ∙ ap (λ (k : ℕ). k ∷ unlinked x stack) (c.len.ensures ∙ c.pop.new.self.ok.0))) in
    subst (λ (ys : List (BodyNode _)). IsLinking met rest ys (reverse c.push-in-Some.new.self.items)) (sym e1)
    (subst (λ (ks : List ℕ). IsLinking met rest (linked_node x stack ∷ later) ks) (sym e2) goes)
