use Rattle.std.proofs.Common.{◌≡◌, ◌<◌, false, nat_eq, length, sym, ◌∙◌, arith}
use Rattle.std.proofs.lemmas.Bool.{eqb-false}
use Rattle.op_writer.proofs.NonemptyNames.{symbolic-some}
use Rattle.op_writer.proofs.spelling.is_symbolic.Goals as goal

pub returns-then-not-is_empty : goal.returns-then-not-is_empty
returns-then-not-is_empty c =
    let z : nat_eq (length c.args.name.now) 0 ≡ false = sym c.is_empty.ensures ∙ c.if-not-is_empty.true in
    let l : 0 < length c.args.name.now = (let n = eqb-false (length c.args.name.now) 0 z in omega arith) in
    c.all_symbols.ensures ∙ symbolic-some c.args.name.now l
