use Rattle.std.proofs.Common.{◌<◌, ap, sym, ◌∙◌, map, List, ℕ, length, subst, All}
use Rattle.std.proofs.lemmas.List.Sorted.{All-permutation}
use Rattle.std.proofs.lemmas.List.Elements.{All-push}
use Rattle.op_logic.specs.Term.{node}
use Rattle.op_logic.specs.Names.{name_at}
use Rattle.op_reader.specs.inner.RoleLists.{node_in}
use Rattle.op_reader.specs.Terms.{args_of}
use Rattle.op_reader.proofs.AddedNodes.{compound_seen, turned}
use Rattle.op_reader.proofs.enclosed.compound_node.Goals as goal

pub returns-clause-term : goal.returns-clause-term
returns-clause-term c v k =
    let n = length c.args.nodes.now in
    let pushed = subst (λ (ps : List ℕ). All (λ m. m < n) ps) (sym c.in_ok-push.ensures.items)
    (All-push (λ m. m < n) c.args.rest.items c.args.first c.requires.rest c.requires.first) in
    let below = subst (λ (ps : List ℕ). All (λ m. m < n) ps) (sym c.deref.ensures.value)
    (All-permutation (λ m. m < n) c.push.new.self.items c.reverse.new.self.items c.reverse.ensures.permutation pushed) in
    compound_seen v c.args.nodes.now c.compound.new.self c.args.name.0 c.in_ok-made.made c.deref.result.now k below
    c.in_ok-made.ensures.ok c.in_ok-made.ensures.number
    ∙ ap (λ (ps : List ℕ). node (name_at v.names c.args.name.0) (args_of (map (node_in v) ps)))
    (turned c.args.rest.items c.push.new.self.items c.deref.result.now c.args.first c.in_ok-push.ensures.items (c.deref.ensures.value
    ∙ c.reverse.ensures.items))
