use Rattle.std.proofs.Common.{Option, Some, sym, ap, ◌∙◌}
use Rattle.std.specs.Prelude.{option_map}
use Rattle.op_trace.specs.Body.{Body, term_of}
use Rattle.op_store.proofs.ConvertedTerm.{body-read, kept-has}
use Rattle.op_store.proofs.ConversionNames.{converted-has, converted-within}
use Rattle.op_store.proofs.ConversionSteps.{T}
use Rattle.op_store.proofs.bodies.converted.converted_term.Goals as goal

pub nodes_of-requires-clause-names : goal.nodes_of-requires-clause-names
nodes_of-requires-clause-names g c =
    kept-has c.args.symbols.now c.known_control_names.new.symbols
    (g.T.Tree.term c.args.tree.now c.args.at.now) c.known_control_names.ensures.kept c.requires.names

pub build_body-requires-clause-body : goal.build_body-requires-clause-body
build_body-requires-clause-body g c =
    let b = body-read _ _ c.in-Ok.ensures.body in
    (c.known_control_names.new.symbols, (b.0, (c.in_ok-known.ensures.names, b.1.1)))

pub returns-in_ok-build_body-in-Ok-clause-body : goal.returns-in_ok-build_body-in-Ok-clause-body
returns-in_ok-build_body-in-Ok-clause-body g c =
    let b = body-read _ _ c.in-Ok.ensures.body in
    ap (λ (t : T). Some t) (c.in_ok-build_body-in-Ok.ensures c.known_control_names.new.symbols b.0 c.in_ok-known.ensures.names b.1.1)
    ∙ ap (λ (o : Option Body). option_map term_of o) (sym b.1.0)

pub returns-in_ok-build_body-in-Ok-clause-has : goal.returns-in_ok-build_body-in-Ok-clause-has
returns-in_ok-build_body-in-Ok-clause-has g c =
    let names = c.known_control_names.new.symbols in
    let t = g.T.Tree.term c.args.tree.now c.args.at.now in
    let b = body-read _ _ c.in-Ok.ensures.body in
    let e = ap (λ (t : T). Some t) (c.in_ok-build_body-in-Ok.ensures names b.0 c.in_ok-known.ensures.names b.1.1)
    ∙ ap (λ (o : Option Body). option_map term_of o) (sym b.1.0) in
    converted-has names t (Some c.in_ok-build_body-in-Ok.field-0) c.in_ok-known.ensures.table
    (kept-has c.args.symbols.now names t c.known_control_names.ensures.kept c.requires.names) e

pub returns-in_ok-build_body-in-Ok-clause-within : goal.returns-in_ok-build_body-in-Ok-clause-within
returns-in_ok-build_body-in-Ok-clause-within g c =
    let names = c.known_control_names.new.symbols in
    let t = g.T.Tree.term c.args.tree.now c.args.at.now in
    let b = body-read _ _ c.in-Ok.ensures.body in
    let e = ap (λ (t : T). Some t) (c.in_ok-build_body-in-Ok.ensures names b.0 c.in_ok-known.ensures.names b.1.1)
    ∙ ap (λ (o : Option Body). option_map term_of o) (sym b.1.0) in
    converted-within names t (Some c.in_ok-build_body-in-Ok.field-0) c.in_ok-known.ensures.table
    (kept-has c.args.symbols.now names t c.known_control_names.ensures.kept c.requires.names) e
