use Rattle.std.proofs.Common.{◌≡◌, ℕ, sym, subst, length}
use Rattle.op_logic.specs.Term.{Term, var, int, node, args_of}
use Rattle.op_logic.specs.Names.{HasNames, ArgsHaveNames}
use Rattle.op_logic.proofs.ShiftedTerms.{nth-names}
use Rattle.op_term.specs.Places.{term_at}
use Rattle.op_text_cases.proofs.terms.add_order.Goals as goal

args-names : (n : ℕ) (t : Term ℕ) → HasNames n t → ArgsHaveNames n (args_of t)
args-names n (var v) h = tt
args-names n (int i) h = tt
args-names n (node f ts) h = h.1

pub compare-requires-clause-b_named : goal.compare-requires-clause-b_named
compare-requires-clause-b_named c =
    let n : ℕ = length c.args.symbols.now in
    let t : Term ℕ = term_at c.new-tree.result.terms c.root-root.result in
    let whole : t ≡ c.args.term.now = cc in
    subst (HasNames n) (sym c.part-right.ensures.value)
    (nth-names n (args_of t) 1 (args-names n t (subst (HasNames n) (sym whole) c.requires)))
