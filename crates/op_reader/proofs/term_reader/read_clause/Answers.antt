use Rattle.std.proofs.Common.{ℕ, List, sym, ◌∙◌, subst}
use Rattle.std.specs.Prelude.{IfOk}
use Rattle.op_reader.specs.declared.word.Word.{Word}
use Rattle.op_reader.specs.FirstClause.{sentence}
use Rattle.op_reader.specs.Words.{source, words_of}
use Rattle.op_reader.specs.Variables.{HasCount}
use Rattle.op_reader.specs.inner.Shown.{ShowsWords}
use Rattle.op_reader.proofs.ReadVariables.{reading_has}
use Rattle.op_reader.proofs.ClauseOutcomes.{clause_told, clause_known}
use Rattle.op_reader.proofs.term_reader.read_clause.Goals as goal

pub returns-clause-tells : goal.returns-clause-tells
returns-clause-tells c =
    clause_told c.args.ops.now c.args.quotes c.args.bytes.now c.args.tokens.now c.args.stop c.words_of.new.symbols
    c.list_names.new.symbols c.in_ok-words.made.nodes c.deref.result.now
    c.in_ok-words.made.names c.in_ok-known.known c.first_place.result c.read_words.result
    (sym c.in_ok-place.ensures ∙ c.in_default.is)
    (subst (λ (ws : List Word). ShowsWords c.words_of.new.symbols c.in_ok-words.made.nodes ws
    (words_of (source c.args.ops.now c.args.quotes c.args.bytes.now) c.args.tokens.now))
    (sym c.deref.ensures.value) c.in_ok-words.ensures.words)
    c.in_ok-known.ensures.kept c.in_ok-known.ensures.names c.in_ok-words.ensures.names c.first_place.ensures c.read_words.ensures.tells

pub returns-clause-known : goal.returns-clause-known
returns-clause-known c =
    clause_known c.args.ops.now c.args.quotes c.args.bytes.now c.args.tokens.now c.args.stop c.words_of.new.symbols
    c.list_names.new.symbols c.in_ok-words.made.nodes c.deref.result.now
    c.in_ok-words.made.names c.in_ok-known.known c.first_place.result c.read_words.result
    (sym c.in_ok-place.ensures ∙ c.in_default.is)
    (subst (λ (ws : List Word). ShowsWords c.words_of.new.symbols c.in_ok-words.made.nodes ws
    (words_of (source c.args.ops.now c.args.quotes c.args.bytes.now) c.args.tokens.now))
    (sym c.deref.ensures.value) c.in_ok-words.ensures.words)
    c.in_ok-known.ensures.kept c.in_ok-known.ensures.names c.in_ok-words.ensures.names c.first_place.ensures c.read_words.ensures.tells

pub returns-clause-variables : goal.returns-clause-variables
returns-clause-variables c =
    let told =
    clause_told c.args.ops.now c.args.quotes c.args.bytes.now c.args.tokens.now c.args.stop c.words_of.new.symbols
    c.list_names.new.symbols c.in_ok-words.made.nodes c.deref.result.now
    c.in_ok-words.made.names c.in_ok-known.known c.first_place.result c.read_words.result
    (sym c.in_ok-place.ensures ∙ c.in_default.is)
    (subst (λ (ws : List Word). ShowsWords c.words_of.new.symbols c.in_ok-words.made.nodes ws
    (words_of (source c.args.ops.now c.args.quotes c.args.bytes.now) c.args.tokens.now))
    (sym c.deref.ensures.value) c.in_ok-words.ensures.words)
    c.in_ok-known.ensures.kept c.in_ok-known.ensures.names c.in_ok-words.ensures.names c.first_place.ensures c.read_words.ensures.tells in
    reading_has c.args.ops.now c.args.quotes c.args.bytes.now (sentence c.args.tokens.now c.args.stop)
    c.list_names.new.symbols c.read_words.result told
    (subst (λ (n : ℕ). IfOk c.read_words.result (HasCount n)) c.in_ok-words.ensures.count c.read_words.ensures.counted)
