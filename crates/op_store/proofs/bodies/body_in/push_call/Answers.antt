use Rattle.op_store.proofs.BodyTerms.{joined-below, made-call, call-named}
use Rattle.op_store.proofs.bodies.body_in.push_call.Goals as goal

pub returns-clause-there : goal.returns-clause-there
returns-clause-there c =
    joined-below c.args.made.now.terms c.compound.new.self.terms c.args.stack.now.items c.in_ok-root.root c.push.new.self.items
    c.compound.ensures.grows.terms c.in_ok-root.ensures.there c.in_ok-push.ensures.items c.requires.there

pub returns-clause-called : goal.returns-clause-called
returns-clause-called c = λ names.
    made-call names c.args.name.0 c.args.made.now.terms c.compound.new.self.terms c.args.stack.now.items c.push.new.self.items c.args.at
    c.in_ok-root.root c.compound.ensures.grows.terms c.in_ok-root.ensures.value c.in_ok-push.ensures.items c.requires.there

pub returns-clause-named : goal.returns-clause-named
returns-clause-named c = λ n l m.
    call-named n c.args.name.0 c.args.made.now.terms c.compound.new.self.terms c.args.stack.now.items c.push.new.self.items c.args.at
    c.in_ok-root.root l c.compound.ensures.grows.terms c.in_ok-root.ensures.value c.in_ok-push.ensures.items c.requires.there m
