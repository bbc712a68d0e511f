use Rattle.std.proofs.Common.{sym, subst}
use Rattle.op_token.specs.declared.token.TokenKind.{TokenKind}
use Rattle.op_reader.specs.Words.{word_by}
use Rattle.op_reader.specs.inner.Shown.{ShowsWord}
use Rattle.op_reader.proofs.words.word_of.Goals as goal

pub returns-in_ok-word-in-Variable-clause-shown : goal.returns-in_ok-word-in-Variable-clause-shown
returns-in_ok-word-in-Variable-clause-shown c met h =
    subst (λ (k : TokenKind). ShowsWord c.args.symbols.now c.variable_word.new.made.nodes c.in_ok-word-in-Variable.word
    (word_by k (record { table = c.args.ops.now; quotes = c.args.quotes; text = c.args.bytes.now }) met c.args.token c.args.rest.now))
    (sym c.in-Variable.is) (c.in_ok-word-in-Variable.ensures.shown c.args.symbols.now met h)

pub returns-in_ok-word-in-Integer-clause-shown : goal.returns-in_ok-word-in-Integer-clause-shown
returns-in_ok-word-in-Integer-clause-shown c met h =
    subst (λ (k : TokenKind). ShowsWord c.args.symbols.now c.integer_word.new.nodes c.in_ok-word-in-Integer.word
    (word_by k (record { table = c.args.ops.now; quotes = c.args.quotes; text = c.args.bytes.now }) met c.args.token c.args.rest.now))
    (sym c.in-Integer.is) (c.in_ok-word-in-Integer.ensures.shown c.args.symbols.now)

pub returns-in_ok-word-in-Comma-clause-shown : goal.returns-in_ok-word-in-Comma-clause-shown
returns-in_ok-word-in-Comma-clause-shown c met h =
    subst (λ (k : TokenKind). ShowsWord c.comma_word.new.symbols c.args.made.now.nodes c.in_ok-word-in-Comma.word
    (word_by k (record { table = c.args.ops.now; quotes = c.args.quotes; text = c.args.bytes.now }) met c.args.token c.args.rest.now))
    (sym c.in-Comma.is) (c.in_ok-word-in-Comma.ensures.shown c.args.made.now.nodes)
