use Rattle.op_logic.specs.Term.{node}
use Rattle.op_term.specs.Places.{args_at}
use Rattle.std.proofs.Common.{[], ◌∷◌, length}
use Rattle.op_bind.proofs.KeptTerms.{kept-push}
use Rattle.op_store.proofs.BodyTerms.{joined-below, last-made, made-pair, made-there, below-two}
use Rattle.op_store.proofs.bodies.build_body.push_pair.Goals as goal

pub returns-clause-there : goal.returns-clause-there
returns-clause-there c =
    let old = c.args.made.now in
    let a = c.pop_two-first.result.0 in
    let b = c.pop_two-first.result.1 in
    let h = below-two (length old) c.args.stack.now.items c.pop_two-first.new.stack.items a b c.pop_two-first.ensures c.requires.there in
    let t = node c.args.name.0 (args_at old (a ∷ b ∷ [])) in
    joined-below old c.compound.new.self c.pop_two-first.new.stack.items c.in_ok-root.root c.push.new.self.items
    (kept-push old c.compound.new.self t c.in_ok-root.ensures.ok)
    (made-there old c.compound.new.self t c.in_ok-root.root c.in_ok-root.ensures.ok c.in_ok-root.ensures.number) c.in_ok-push.ensures.items
    h.1.1

pub returns-clause-paired : goal.returns-clause-paired
returns-clause-paired c = λ names.
    let old = c.args.made.now in
    let a = c.pop_two-first.result.0 in
    let b = c.pop_two-first.result.1 in
    let h = below-two (length old) c.args.stack.now.items c.pop_two-first.new.stack.items a b c.pop_two-first.ensures c.requires.there in
    let t = node c.args.name.0 (args_at old (a ∷ b ∷ [])) in
    made-pair names c.args.name.0 old c.compound.new.self c.args.stack.now.items c.pop_two-first.new.stack.items c.push.new.self.items a b
    c.in_ok-root.root c.pop_two-first.ensures (kept-push old c.compound.new.self t c.in_ok-root.ensures.ok)
    (last-made old c.compound.new.self t c.in_ok-root.root c.in_ok-root.ensures.ok c.in_ok-root.ensures.number) c.in_ok-push.ensures.items
    h.1.1
