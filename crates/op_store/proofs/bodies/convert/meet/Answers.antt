use Rattle.std.proofs.Common.{refl}
use Rattle.op_store.specs.declared.bodies.body_node.BodyNode.TheVariants as nodes
use Rattle.op_store.specs.declared.bodies.body_part.Part.TheVariants as parts
use Rattle.op_store.proofs.ConversionPlaces.{leads, pair-goes, pair-two, goal-goes, variable-goes, number-refused}
use Rattle.op_store.proofs.bodies.convert.meet.Goals as goal

pub part_of-requires-clause-names : goal.part_of-requires-clause-names
part_of-requires-clause-names g c =
    let names = c.args.symbols.now in
    let under = g.T.FollowedTerms.under c.args.terms.now in
    let term = g.T.FollowedTerms.term c.args.terms.now in
    let place = g.T.FollowedTerms.IsPlace c.args.terms.now in
    let at = c.leads_to-at.result in
    let lead = leads names under term place c.args.next at c.leads_to-at.ensures.place c.leads_to-at.ensures.value
    c.leads_to-at.ensures.acyclic c.requires.bound c.requires.names in
    lead.good.1

pub returns-in-Number-clause-refused : goal.returns-in-Number-clause-refused
returns-in-Number-clause-refused g c = λ _.
    let names = c.args.symbols.now in
    let under = g.T.FollowedTerms.under c.args.terms.now in
    let term = g.T.FollowedTerms.term c.args.terms.now in
    let place = g.T.FollowedTerms.IsPlace c.args.terms.now in
    let at = c.leads_to-at.result in
    let lead = leads names under term place c.args.next at c.leads_to-at.ensures.place c.leads_to-at.ensures.value
    c.leads_to-at.ensures.acyclic c.requires.bound c.requires.names in
    number-refused names under term place c.args.met.now.items c.args.todo.now.items c.args.next at lead c.in-Number.ensures

pub push_parts-requires-clause-two : goal.push_parts-requires-clause-two
push_parts-requires-clause-two g c =
    let names = c.args.symbols.now in
    let under = g.T.FollowedTerms.under c.args.terms.now in
    let term = g.T.FollowedTerms.term c.args.terms.now in
    let place = g.T.FollowedTerms.IsPlace c.args.terms.now in
    let at = c.leads_to-at.result in
    pair-two names under term place at parts.Conjunction c.in-Conjunction.ensures tt

pub returns-in_ok-push_parts-in-Conjunction-clause-left : goal.returns-in_ok-push_parts-in-Conjunction-clause-left
returns-in_ok-push_parts-in-Conjunction-clause-left g c =
    let names = c.args.symbols.now in
    let under = g.T.FollowedTerms.under c.args.terms.now in
    let term = g.T.FollowedTerms.term c.args.terms.now in
    let place = g.T.FollowedTerms.IsPlace c.args.terms.now in
    let at = c.leads_to-at.result in
    let lead = leads names under term place c.args.next at c.leads_to-at.ensures.place c.leads_to-at.ensures.value
    c.leads_to-at.ensures.acyclic c.requires.bound c.requires.names in
    (pair-goes names under term place c.args.met.now.items c.push_parts.new.met.items c.args.todo.now.items
    c.push_parts.new.todo.items c.args.next at (nodes.And 0 0) parts.Conjunction lead c.in-Conjunction.ensures tt (λ t u s. refl) refl
    c.in_ok-push_parts-in-Conjunction.ensures.met c.in_ok-push_parts-in-Conjunction.ensures.todo c.requires.todo c.requires.met).left

pub returns-in_ok-push_parts-in-Conjunction-clause-todo : goal.returns-in_ok-push_parts-in-Conjunction-clause-todo
returns-in_ok-push_parts-in-Conjunction-clause-todo g c =
    let names = c.args.symbols.now in
    let under = g.T.FollowedTerms.under c.args.terms.now in
    let term = g.T.FollowedTerms.term c.args.terms.now in
    let place = g.T.FollowedTerms.IsPlace c.args.terms.now in
    let at = c.leads_to-at.result in
    let lead = leads names under term place c.args.next at c.leads_to-at.ensures.place c.leads_to-at.ensures.value
    c.leads_to-at.ensures.acyclic c.requires.bound c.requires.names in
    (pair-goes names under term place c.args.met.now.items c.push_parts.new.met.items c.args.todo.now.items
    c.push_parts.new.todo.items c.args.next at (nodes.And 0 0) parts.Conjunction lead c.in-Conjunction.ensures tt (λ t u s. refl) refl
    c.in_ok-push_parts-in-Conjunction.ensures.met c.in_ok-push_parts-in-Conjunction.ensures.todo c.requires.todo c.requires.met).todo_good

pub returns-in_ok-push_parts-in-Conjunction-clause-met : goal.returns-in_ok-push_parts-in-Conjunction-clause-met
returns-in_ok-push_parts-in-Conjunction-clause-met g c =
    let names = c.args.symbols.now in
    let under = g.T.FollowedTerms.under c.args.terms.now in
    let term = g.T.FollowedTerms.term c.args.terms.now in
    let place = g.T.FollowedTerms.IsPlace c.args.terms.now in
    let at = c.leads_to-at.result in
    let lead = leads names under term place c.args.next at c.leads_to-at.ensures.place c.leads_to-at.ensures.value
    c.leads_to-at.ensures.acyclic c.requires.bound c.requires.names in
    (pair-goes names under term place c.args.met.now.items c.push_parts.new.met.items c.args.todo.now.items
    c.push_parts.new.todo.items c.args.next at (nodes.And 0 0) parts.Conjunction lead c.in-Conjunction.ensures tt (λ t u s. refl) refl
    c.in_ok-push_parts-in-Conjunction.ensures.met c.in_ok-push_parts-in-Conjunction.ensures.todo c.requires.todo c.requires.met).met_good

pub push_parts-requires-in-Disjunction-clause-two : goal.push_parts-requires-in-Disjunction-clause-two
push_parts-requires-in-Disjunction-clause-two g c =
    let names = c.args.symbols.now in
    let under = g.T.FollowedTerms.under c.args.terms.now in
    let term = g.T.FollowedTerms.term c.args.terms.now in
    let place = g.T.FollowedTerms.IsPlace c.args.terms.now in
    let at = c.leads_to-at.result in
    pair-two names under term place at parts.Disjunction c.in-Disjunction.ensures tt

pub returns-in_ok-push_parts-in-Disjunction-clause-left : goal.returns-in_ok-push_parts-in-Disjunction-clause-left
returns-in_ok-push_parts-in-Disjunction-clause-left g c =
    let names = c.args.symbols.now in
    let under = g.T.FollowedTerms.under c.args.terms.now in
    let term = g.T.FollowedTerms.term c.args.terms.now in
    let place = g.T.FollowedTerms.IsPlace c.args.terms.now in
    let at = c.leads_to-at.result in
    let lead = leads names under term place c.args.next at c.leads_to-at.ensures.place c.leads_to-at.ensures.value
    c.leads_to-at.ensures.acyclic c.requires.bound c.requires.names in
    (pair-goes names under term place c.args.met.now.items c.push_parts-in-Disjunction.new.met.items c.args.todo.now.items
    c.push_parts-in-Disjunction.new.todo.items c.args.next at (nodes.Or 0 0) parts.Disjunction lead c.in-Disjunction.ensures tt
    (λ t u s. refl) refl
    c.in_ok-push_parts-in-Disjunction.ensures.met c.in_ok-push_parts-in-Disjunction.ensures.todo c.requires.todo c.requires.met).left

pub returns-in_ok-push_parts-in-Disjunction-clause-todo : goal.returns-in_ok-push_parts-in-Disjunction-clause-todo
returns-in_ok-push_parts-in-Disjunction-clause-todo g c =
    let names = c.args.symbols.now in
    let under = g.T.FollowedTerms.under c.args.terms.now in
    let term = g.T.FollowedTerms.term c.args.terms.now in
    let place = g.T.FollowedTerms.IsPlace c.args.terms.now in
    let at = c.leads_to-at.result in
    let lead = leads names under term place c.args.next at c.leads_to-at.ensures.place c.leads_to-at.ensures.value
    c.leads_to-at.ensures.acyclic c.requires.bound c.requires.names in
    (pair-goes names under term place c.args.met.now.items c.push_parts-in-Disjunction.new.met.items c.args.todo.now.items
    c.push_parts-in-Disjunction.new.todo.items c.args.next at (nodes.Or 0 0) parts.Disjunction lead c.in-Disjunction.ensures tt
    (λ t u s. refl) refl
    c.in_ok-push_parts-in-Disjunction.ensures.met c.in_ok-push_parts-in-Disjunction.ensures.todo c.requires.todo c.requires.met).todo_good

pub returns-in_ok-push_parts-in-Disjunction-clause-met : goal.returns-in_ok-push_parts-in-Disjunction-clause-met
returns-in_ok-push_parts-in-Disjunction-clause-met g c =
    let names = c.args.symbols.now in
    let under = g.T.FollowedTerms.under c.args.terms.now in
    let term = g.T.FollowedTerms.term c.args.terms.now in
    let place = g.T.FollowedTerms.IsPlace c.args.terms.now in
    let at = c.leads_to-at.result in
    let lead = leads names under term place c.args.next at c.leads_to-at.ensures.place c.leads_to-at.ensures.value
    c.leads_to-at.ensures.acyclic c.requires.bound c.requires.names in
    (pair-goes names under term place c.args.met.now.items c.push_parts-in-Disjunction.new.met.items c.args.todo.now.items
    c.push_parts-in-Disjunction.new.todo.items c.args.next at (nodes.Or 0 0) parts.Disjunction lead c.in-Disjunction.ensures tt
    (λ t u s. refl) refl
    c.in_ok-push_parts-in-Disjunction.ensures.met c.in_ok-push_parts-in-Disjunction.ensures.todo c.requires.todo c.requires.met).met_good

pub push_parts-requires-in-IfThen-clause-two : goal.push_parts-requires-in-IfThen-clause-two
push_parts-requires-in-IfThen-clause-two g c =
    let names = c.args.symbols.now in
    let under = g.T.FollowedTerms.under c.args.terms.now in
    let term = g.T.FollowedTerms.term c.args.terms.now in
    let place = g.T.FollowedTerms.IsPlace c.args.terms.now in
    let at = c.leads_to-at.result in
    pair-two names under term place at parts.IfThen c.in-IfThen.ensures tt

pub returns-in_ok-push_parts-in-IfThen-clause-left : goal.returns-in_ok-push_parts-in-IfThen-clause-left
returns-in_ok-push_parts-in-IfThen-clause-left g c =
    let names = c.args.symbols.now in
    let under = g.T.FollowedTerms.under c.args.terms.now in
    let term = g.T.FollowedTerms.term c.args.terms.now in
    let place = g.T.FollowedTerms.IsPlace c.args.terms.now in
    let at = c.leads_to-at.result in
    let lead = leads names under term place c.args.next at c.leads_to-at.ensures.place c.leads_to-at.ensures.value
    c.leads_to-at.ensures.acyclic c.requires.bound c.requires.names in
    (pair-goes names under term place c.args.met.now.items c.push_parts-in-IfThen.new.met.items c.args.todo.now.items
    c.push_parts-in-IfThen.new.todo.items c.args.next at (nodes.Then 0 0) parts.IfThen lead c.in-IfThen.ensures tt (λ t u s. refl) refl
    c.in_ok-push_parts-in-IfThen.ensures.met c.in_ok-push_parts-in-IfThen.ensures.todo c.requires.todo c.requires.met).left

pub returns-in_ok-push_parts-in-IfThen-clause-todo : goal.returns-in_ok-push_parts-in-IfThen-clause-todo
returns-in_ok-push_parts-in-IfThen-clause-todo g c =
    let names = c.args.symbols.now in
    let under = g.T.FollowedTerms.under c.args.terms.now in
    let term = g.T.FollowedTerms.term c.args.terms.now in
    let place = g.T.FollowedTerms.IsPlace c.args.terms.now in
    let at = c.leads_to-at.result in
    let lead = leads names under term place c.args.next at c.leads_to-at.ensures.place c.leads_to-at.ensures.value
    c.leads_to-at.ensures.acyclic c.requires.bound c.requires.names in
    (pair-goes names under term place c.args.met.now.items c.push_parts-in-IfThen.new.met.items c.args.todo.now.items
    c.push_parts-in-IfThen.new.todo.items c.args.next at (nodes.Then 0 0) parts.IfThen lead c.in-IfThen.ensures tt (λ t u s. refl) refl
    c.in_ok-push_parts-in-IfThen.ensures.met c.in_ok-push_parts-in-IfThen.ensures.todo c.requires.todo c.requires.met).todo_good

pub returns-in_ok-push_parts-in-IfThen-clause-met : goal.returns-in_ok-push_parts-in-IfThen-clause-met
returns-in_ok-push_parts-in-IfThen-clause-met g c =
    let names = c.args.symbols.now in
    let under = g.T.FollowedTerms.under c.args.terms.now in
    let term = g.T.FollowedTerms.term c.args.terms.now in
    let place = g.T.FollowedTerms.IsPlace c.args.terms.now in
    let at = c.leads_to-at.result in
    let lead = leads names under term place c.args.next at c.leads_to-at.ensures.place c.leads_to-at.ensures.value
    c.leads_to-at.ensures.acyclic c.requires.bound c.requires.names in
    (pair-goes names under term place c.args.met.now.items c.push_parts-in-IfThen.new.met.items c.args.todo.now.items
    c.push_parts-in-IfThen.new.todo.items c.args.next at (nodes.Then 0 0) parts.IfThen lead c.in-IfThen.ensures tt (λ t u s. refl) refl
    c.in_ok-push_parts-in-IfThen.ensures.met c.in_ok-push_parts-in-IfThen.ensures.todo c.requires.todo c.requires.met).met_good

pub returns-in_ok-push_node-in-Goal-clause-left : goal.returns-in_ok-push_node-in-Goal-clause-left
returns-in_ok-push_node-in-Goal-clause-left g c =
    let names = c.args.symbols.now in
    let under = g.T.FollowedTerms.under c.args.terms.now in
    let term = g.T.FollowedTerms.term c.args.terms.now in
    let place = g.T.FollowedTerms.IsPlace c.args.terms.now in
    let at = c.leads_to-at.result in
    let lead = leads names under term place c.args.next at c.leads_to-at.ensures.place c.leads_to-at.ensures.value
    c.leads_to-at.ensures.acyclic c.requires.bound c.requires.names in
    (goal-goes names under term place c.args.met.now.items c.push_node.new.met.items c.args.todo.now.items c.args.next at lead
    c.in-Goal.ensures c.in_ok-push_node-in-Goal.ensures c.requires.todo c.requires.met).left

pub returns-in_ok-push_node-in-Goal-clause-met : goal.returns-in_ok-push_node-in-Goal-clause-met
returns-in_ok-push_node-in-Goal-clause-met g c =
    let names = c.args.symbols.now in
    let under = g.T.FollowedTerms.under c.args.terms.now in
    let term = g.T.FollowedTerms.term c.args.terms.now in
    let place = g.T.FollowedTerms.IsPlace c.args.terms.now in
    let at = c.leads_to-at.result in
    let lead = leads names under term place c.args.next at c.leads_to-at.ensures.place c.leads_to-at.ensures.value
    c.leads_to-at.ensures.acyclic c.requires.bound c.requires.names in
    (goal-goes names under term place c.args.met.now.items c.push_node.new.met.items c.args.todo.now.items c.args.next at lead
    c.in-Goal.ensures c.in_ok-push_node-in-Goal.ensures c.requires.todo c.requires.met).met_good

pub returns-in_ok-push_node-in-Variable-clause-left : goal.returns-in_ok-push_node-in-Variable-clause-left
returns-in_ok-push_node-in-Variable-clause-left g c =
    let names = c.args.symbols.now in
    let under = g.T.FollowedTerms.under c.args.terms.now in
    let term = g.T.FollowedTerms.term c.args.terms.now in
    let place = g.T.FollowedTerms.IsPlace c.args.terms.now in
    let at = c.leads_to-at.result in
    let lead = leads names under term place c.args.next at c.leads_to-at.ensures.place c.leads_to-at.ensures.value
    c.leads_to-at.ensures.acyclic c.requires.bound c.requires.names in
    (variable-goes names under term place c.args.met.now.items c.push_node-in-Variable.new.met.items c.args.todo.now.items
    c.args.next at lead
    c.in-Variable.ensures c.in_ok-push_node-in-Variable.ensures c.requires.todo c.requires.met).left

pub returns-in_ok-push_node-in-Variable-clause-met : goal.returns-in_ok-push_node-in-Variable-clause-met
returns-in_ok-push_node-in-Variable-clause-met g c =
    let names = c.args.symbols.now in
    let under = g.T.FollowedTerms.under c.args.terms.now in
    let term = g.T.FollowedTerms.term c.args.terms.now in
    let place = g.T.FollowedTerms.IsPlace c.args.terms.now in
    let at = c.leads_to-at.result in
    let lead = leads names under term place c.args.next at c.leads_to-at.ensures.place c.leads_to-at.ensures.value
    c.leads_to-at.ensures.acyclic c.requires.bound c.requires.names in
    (variable-goes names under term place c.args.met.now.items c.push_node-in-Variable.new.met.items c.args.todo.now.items
    c.args.next at lead
    c.in-Variable.ensures c.in_ok-push_node-in-Variable.ensures c.requires.todo c.requires.met).met_good
