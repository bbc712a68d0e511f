use Rattle.std.proofs.Common.{length}
use Rattle.op_store.proofs.BodyTerms.{joined-below, made-pair, pair-named, below-two}
use Rattle.op_store.proofs.bodies.body_in.push_pair.Goals as goal

pub returns-clause-there : goal.returns-clause-there
returns-clause-there c =
    let old = c.args.made.now.terms in
    let a = c.pop_two-first.result.0 in
    let b = c.pop_two-first.result.1 in
    let rest = c.pop_two-first.new.stack.items in
    let h = below-two (length old) c.args.stack.now.items rest a b c.pop_two-first.ensures c.requires.there in
    joined-below old c.compound.new.self.terms rest c.in_ok-root.root c.push.new.self.items c.compound.ensures.grows.terms
    c.in_ok-root.ensures.there c.in_ok-push.ensures.items h.1.1

pub returns-clause-paired : goal.returns-clause-paired
returns-clause-paired c = λ names.
    let old = c.args.made.now.terms in
    let a = c.pop_two-first.result.0 in
    let b = c.pop_two-first.result.1 in
    let rest = c.pop_two-first.new.stack.items in
    let h = below-two (length old) c.args.stack.now.items rest a b c.pop_two-first.ensures c.requires.there in
    made-pair names c.args.name.0 old c.compound.new.self.terms c.args.stack.now.items rest c.push.new.self.items a b c.in_ok-root.root
    c.pop_two-first.ensures c.compound.ensures.grows.terms c.in_ok-root.ensures.value c.in_ok-push.ensures.items h.1.1

pub returns-clause-named : goal.returns-clause-named
returns-clause-named c = λ n l m.
    let old = c.args.made.now.terms in
    let a = c.pop_two-first.result.0 in
    let b = c.pop_two-first.result.1 in
    let rest = c.pop_two-first.new.stack.items in
    let h = below-two (length old) c.args.stack.now.items rest a b c.pop_two-first.ensures c.requires.there in
    pair-named n c.args.name.0 old c.compound.new.self.terms c.args.stack.now.items rest c.push.new.self.items a b c.in_ok-root.root l
    c.pop_two-first.ensures c.compound.ensures.grows.terms c.in_ok-root.ensures.value c.in_ok-push.ensures.items h.1.1 m
