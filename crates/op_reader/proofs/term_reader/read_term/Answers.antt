use Rattle.std.proofs.Common.{subst}
use Rattle.std.specs.Prelude.{Ok}
use Rattle.std.proofs.lemmas.List.Elements.{All-same}
use Rattle.op_token.specs.Tokens.{scan_of}
use Rattle.op_reader.specs.declared.first_clause.Beginning.{Beginning}
use Rattle.op_reader.specs.Passes.{BeginsAs}
use Rattle.op_reader.specs.inner.Shown.{HasText}
use Rattle.op_reader.proofs.FirstClauses.{have_texts}
use Rattle.op_reader.proofs.term_reader.read_term.Goals as goal

pub read_clause-requires : goal.read_clause-requires
read_clause-requires c =
    let text = c.args.bytes.now in
    All-same (HasText text) c.deref.result.now c.in-Clause.tokens.items c.deref.ensures.value
    (have_texts text c.in-Clause.tokens.items c.in-Clause.stop (subst (λ (b : Beginning). BeginsAs (scan_of text) (Ok b)) c.in-Clause.is
    c.in_ok-first_clause.ensures))
