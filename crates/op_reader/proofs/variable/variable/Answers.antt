use Rattle.std.proofs.Common.{◌∙◌, sym}
use Rattle.op_reader.proofs.VariableNames.{met_new, number_new, met_old, number_old, met_nowhere, met_found, unnamed, one_named}
use Rattle.op_reader.proofs.variable.variable.Goals as goal

pub returns-then-is_anonymous-clause-number : goal.returns-then-is_anonymous-clause-number
returns-then-is_anonymous-clause-number c met h =
    c.next.ensures.value ∙ number_new c.args.names.now c.args.count.now met c.args.name.now h (met_nowhere met c.args.name.now
    (sym c.is_anonymous.ensures ∙ c.if-is_anonymous.true))

pub returns-then-is_anonymous-clause-met : goal.returns-then-is_anonymous-clause-met
returns-then-is_anonymous-clause-met c met h =
    let anonymous = sym c.is_anonymous.ensures ∙ c.if-is_anonymous.true in
    met_new c.args.names.now c.args.names.now c.args.count.now c.next.new.count met c.args.name.now h
    (met_nowhere met c.args.name.now anonymous)
    (unnamed c.args.name.now c.args.count.now c.args.names.now anonymous) c.next.ensures.counted

pub returns-in-Some-clause-number : goal.returns-in-Some-clause-number
returns-in-Some-clause-number c met h =
    let named = sym c.is_anonymous.ensures ∙ c.if-is_anonymous.false in
    number_old c.in-Some.number met c.args.name.now (met_found c.args.names.now c.args.count.now met c.args.name.now _ h named
    (sym c.in-Some.is ∙ c.find.ensures))

pub returns-in-Some-clause-met : goal.returns-in-Some-clause-met
returns-in-Some-clause-met c met h =
    let named = sym c.is_anonymous.ensures ∙ c.if-is_anonymous.false in
    met_old c.args.names.now c.args.count.now c.in-Some.number met c.args.name.now h
    (met_found c.args.names.now c.args.count.now met c.args.name.now _ h named (sym c.in-Some.is ∙ c.find.ensures))

pub returns-in_ok-push-in-None-clause-number : goal.returns-in_ok-push-in-None-clause-number
returns-in_ok-push-in-None-clause-number c met h =
    let named = sym c.is_anonymous.ensures ∙ c.if-is_anonymous.false in
    c.next-in-None.ensures.value
    ∙ number_new c.args.names.now c.args.count.now met c.args.name.now h
    (met_found c.args.names.now c.args.count.now met c.args.name.now _ h named (sym c.in-None.is ∙ c.find.ensures))

pub returns-in_ok-push-in-None-clause-met : goal.returns-in_ok-push-in-None-clause-met
returns-in_ok-push-in-None-clause-met c met h =
    let named = sym c.is_anonymous.ensures ∙ c.if-is_anonymous.false in
    met_new c.args.names.now c.push.new.self c.args.count.now c.next-in-None.new.count met c.args.name.now h
    (met_found c.args.names.now c.args.count.now met c.args.name.now _ h named (sym c.in-None.is ∙ c.find.ensures))
    (one_named c.args.name.now c.args.count.now c.args.names.now c.push.new.self named c.in_ok-push-in-None.ensures.ok)
    c.next-in-None.ensures.counted
