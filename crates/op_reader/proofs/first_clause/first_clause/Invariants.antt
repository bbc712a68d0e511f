use Rattle.std.proofs.Common.{◌≡◌, ◌++◌, length}
use Rattle.std.specs.Prelude.{option_map}
use Rattle.op_token.specs.Tokens.{scan_of}
use Rattle.op_reader.specs.FirstClause.{sentence_of}
use Rattle.op_reader.proofs.FirstClauses.{before}
use Rattle.op_reader.proofs.first_clause.first_clause.Given as goal

abbrev pub invariant-tokens : goal.invariant-tokens
invariant-tokens l = record {
  tokens : (scan_of l.bytes).tokens ≡ l.tokens.items ++ l.scanner.tokens;
  fault : l.scanner.fault ≡ (scan_of l.bytes).fault;
  begins : sentence_of (scan_of l.bytes).tokens ≡ option_map (before l.tokens.items) (sentence_of l.scanner.tokens);
}

abbrev pub decreases-tokens : goal.decreases-tokens
decreases-tokens l = length l.scanner.tokens
