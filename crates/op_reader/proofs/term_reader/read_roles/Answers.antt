use Rattle.std.proofs.Common.{sym, ◌∙◌, ap}
use Rattle.std.specs.Option.{option_map}
use Rattle.op_logic.specs.Names.{named}
use Rattle.op_reader.specs.Reading.{term}
use Rattle.op_reader.specs.inner.RoleLists.{view, node_in, rows_of}
use Rattle.op_reader.proofs.ShownNodes.{kept_all}
use Rattle.op_reader.proofs.ReadingOutcomes.{roles_term, excess_of, without_tree, too_great, a_term}
use Rattle.op_reader.proofs.term_reader.read_roles.Goals as goal

pub returns-in-None-clause-tells : goal.returns-in-None-clause-tells
returns-in-None-clause-tells c table h outer =
    let v = view table c.term_node.new.nodes in
    let made = roles_term table c.args.made.nodes c.term_node.new.nodes c.args.known c.args.roles.now
    (option_map (node_in v) c.in_ok-term_node.field-0) h
    c.in_ok-term_node.ensures.kept c.requires (c.in_ok-term_node.ensures.term v (kept_all c.term_node.new.nodes)) in
    without_tree c.args.place c.args.used c.args.made.names (rows_of (view table c.args.made.nodes) c.args.roles.now) (made
    ∙ ap (option_map (node_in v)) c.in-None.is)

pub returns-in-Some-first_excess-clause-tells : goal.returns-in-Some-first_excess-clause-tells
returns-in-Some-first_excess-clause-tells c table h outer =
    let v = view table c.term_node.new.nodes in
    let rows = rows_of (view table c.args.made.nodes) c.args.roles.now in
    let made = roles_term table c.args.made.nodes c.term_node.new.nodes c.args.known c.args.roles.now
    (option_map (node_in v) c.in_ok-term_node.field-0) h
    c.in_ok-term_node.ensures.kept c.requires (c.in_ok-term_node.ensures.term v (kept_all c.term_node.new.nodes)) in
    too_great c.args.place c.args.used c.in-Some-first_excess.at c.args.made.names rows (node_in v c.in-Some.root) (made
    ∙ ap (option_map (node_in v)) c.in-Some.is)
    (excess_of (view table c.args.made.nodes) c.args.roles.now outer ∙ sym c.first_excess.ensures ∙ c.in-Some-first_excess.is)

pub returns-in-None-first_excess-clause-tells : goal.returns-in-None-first_excess-clause-tells
returns-in-None-first_excess-clause-tells c table h outer =
    let v = view table c.term_node.new.nodes in
    let rows = rows_of (view table c.args.made.nodes) c.args.roles.now in
    let made = roles_term table c.args.made.nodes c.term_node.new.nodes c.args.known c.args.roles.now
    (option_map (node_in v) c.in_ok-term_node.field-0) h
    c.in_ok-term_node.ensures.kept c.requires (c.in_ok-term_node.ensures.term v (kept_all c.term_node.new.nodes)) in
    a_term c.args.place c.args.used c.args.made.names rows (node_in v c.in-Some.root) (made ∙ ap (option_map (node_in v)) c.in-Some.is)
    (excess_of (view table c.args.made.nodes) c.args.roles.now outer ∙ sym c.first_excess.ensures ∙ c.in-None-first_excess.is)
    ∙ ap (λ t. term (named table t) c.args.made.names c.args.used) (sym c.finish.ensures)
