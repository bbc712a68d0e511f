use Rattle.std.proofs.Common.{Some, sym, ap, ◌∙◌}
use Rattle.std.specs.Prelude.{option_map}
use Rattle.op_trace.specs.Body.{term_of}
use Rattle.op_bind.proofs.StateGrowth.{grows-self}
use Rattle.op_store.proofs.ConversionSteps.{T}
use Rattle.op_store.proofs.ConvertedTerm.{body-read}
use Rattle.op_store.proofs.bodies.body_in.body_in.Goals as goal

pub build_in-requires-clause-places : goal.build_in-requires-clause-places
build_in-requires-clause-places c = λ i d l. (c.in-Ok.ensures.places i d l).0

pub build_in-requires-clause-body : goal.build_in-requires-clause-body
build_in-requires-clause-body c =
    let b = body-read _ _ c.in-Ok.ensures.body in
    (c.args.symbols.now, (b.0, (c.first_control_names.ensures c.args.symbols.now c.requires.begins, b.1.1)))

pub returns-in_ok-build_in-in-Ok-clause-has : goal.returns-in_ok-build_in-in-Ok-clause-has
returns-in_ok-build_in-in-Ok-clause-has c =
    c.in_ok-build_in-in-Ok.ensures.has c.args.symbols.now (c.first_control_names.ensures c.args.symbols.now c.requires.begins)
    (λ i d l. (c.in-Ok.ensures.places i d l).1)

pub returns-in_ok-build_in-in-Ok-clause-body : goal.returns-in_ok-build_in-in-Ok-clause-body
returns-in_ok-build_in-in-Ok-clause-body c =
    let b = body-read _ _ c.in-Ok.ensures.body in
    ap (option_map term_of) b.1.0
    ∙ ap (λ (t : T). Some t) (sym (c.in_ok-build_in-in-Ok.ensures.term c.args.symbols.now b.0
    (c.first_control_names.ensures c.args.symbols.now c.requires.begins) b.1.1))

pub returns-in-Err-clause-grows : goal.returns-in-Err-clause-grows
returns-in-Err-clause-grows c = grows-self c.args.bindings.now
