use Rattle.std.proofs.Common.{◌≡◌, ℕ, ◌-◌, List, [], ◌∷◌, ◌++◌, length, take, drop, map, sym, ◌∙◌, ap, subst, arith}
use Rattle.op_logic.specs.Term.{var, int, node, no_args}
use Rattle.op_term.specs.Places.{term_at, args_at}
use Rattle.op_term.specs.declared.node.Node.{Node}
use Rattle.std.proofs.Common.{OnOk, w64}
use Rattle.std.proofs.lemmas.Int.{to_z-of_z}
use mir.Val.{to_z, of_z}
use Rattle.op_bind.proofs.TermCopies
use Rattle.op_bind.specs.inner.Built.{join, NodeWithin}
use Rattle.op_bind.proofs.copy.make_node.Goals as goal

pub returns-in-Var-clause-joined : goal.returns-in-Var-clause-joined
returns-in-Var-clause-joined c =
    TermCopies.joins-leaf c.args.made.now c.var.new.self (var c.in-Var.v) c.args.stack.now.items c.args.node c.requires.there
    (ap (λ n. join n (map (term_at c.args.made.now) c.args.stack.now.items)) c.in-Var.is) c.var.result c.var.ensures.number c.var.ensures.ok

pub returns-in-Int-clause-joined : goal.returns-in-Int-clause-joined
returns-in-Int-clause-joined c =
    TermCopies.joins-leaf c.args.made.now c.int.new.self (int c.in-Int.i) c.args.stack.now.items c.args.node c.requires.there
    (ap (λ n. join n (map (term_at c.args.made.now) c.args.stack.now.items)) c.in-Int.is) c.int.result c.int.ensures.number
    (let e : to_z w64 (of_z w64 c.in-Int.i) ≡ c.in-Int.i = grind (arith, to_z-of_z) in subst (λ i. OnOk c.int.result
    (c.int.new.self ≡ c.args.made.now ++ int i ∷ [])) e c.int.ensures.ok)

pub returns-in-Atom-clause-joined : goal.returns-in-Atom-clause-joined
returns-in-Atom-clause-joined c =
    TermCopies.joins-leaf c.args.made.now c.atom.new.self (node c.in-Atom.name.0 no_args) c.args.stack.now.items
    c.args.node c.requires.there
    (ap (λ n. join n (map (term_at c.args.made.now) c.args.stack.now.items)) c.in-Atom.is) c.atom.result
    c.atom.ensures.number c.atom.ensures.ok

pub returns-in-Struct-clause-joined : goal.returns-in-Struct-clause-joined
returns-in-Struct-clause-joined c =
    let old = c.args.made.now in
    let stack = c.args.stack.now.items in
    let n = c.in-Struct.n in
    let from = c.len.result - n in
    let f : from ≡ length stack - n = omega (arith, c.args.stack.now.ok.0) in
    let t = node c.in-Struct.name.0 (args_at old (drop from stack)) in
    let tail : c.tail.result.now ≡ drop from stack = c.tail.ensures ∙ ap (λ (xs : List ℕ). drop from xs) c.deref.ensures.value in
    let new : c.compound.new.self ≡ old ++ t ∷ [] = c.in_ok-at-in-Struct.ensures.ok
    ∙ ap (λ (ps : List ℕ). old ++ node c.in-Struct.name.0 (args_at old ps) ∷ []) tail in
    let j = TermCopies.joins old c.compound.new.self t (take from stack) c.in_ok-at-in-Struct.at
    (TermCopies.below-take (length old) from stack c.requires.there) new c.in_ok-at-in-Struct.ensures.number in
    ap (λ (xs : List ℕ). map (term_at c.compound.new.self) (xs ++ c.in_ok-at-in-Struct.at ∷ [])) c.truncate.ensures.items
    ∙ (j ∙ sym (ap (λ m. join m (map (term_at old) stack)) c.in-Struct.is ∙ TermCopies.joins-struct old stack c.in-Struct.name n from f))

pub returns-in-Var-clause-more : goal.returns-in-Var-clause-more
returns-in-Var-clause-more c =
    TermCopies.more-leaf c.args.made.now c.var.new.self (var c.in-Var.v) c.args.node
    (λ n h. subst (λ (x : Node). NodeWithin n x) c.in-Var.is h) c.var.result c.var.ensures.ok

pub returns-in-Int-clause-more : goal.returns-in-Int-clause-more
returns-in-Int-clause-more c =
    TermCopies.more-leaf c.args.made.now c.int.new.self (int _) c.args.node (λ n h. tt) c.int.result c.int.ensures.ok

pub returns-in-Atom-clause-more : goal.returns-in-Atom-clause-more
returns-in-Atom-clause-more c =
    TermCopies.more-leaf c.args.made.now c.atom.new.self (node c.in-Atom.name.0 no_args) c.args.node
    (λ n h. tt) c.atom.result c.atom.ensures.ok

pub returns-in-Struct-clause-more : goal.returns-in-Struct-clause-more
returns-in-Struct-clause-more c =
    let old = c.args.made.now in
    let stack = c.args.stack.now.items in
    let from = c.len.result - c.in-Struct.n in
    let tail : c.tail.result.now ≡ drop from stack = c.tail.ensures ∙ ap (λ (xs : List ℕ). drop from xs) c.deref.ensures.value in
    let below = TermCopies.below-drop (length old) from stack c.requires.there in
    TermCopies.more-node old c.compound.new.self c.args.node c.in-Struct.name.0 (drop from stack) below
    (c.in_ok-at-in-Struct.ensures.ok ∙ ap (λ (ps : List ℕ). old ++ node c.in-Struct.name.0 (args_at old ps) ∷ []) tail)
