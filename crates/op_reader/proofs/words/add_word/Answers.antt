use Rattle.std.proofs.Common.{◌+◌, sym, ◌∙◌, arith}
use Rattle.op_reader.specs.Words.{source}
use Rattle.op_reader.proofs.JoinedWords.{worded_more, tokens_here, leaves_next, leaves_next_but_one, pair_length}
use Rattle.op_reader.proofs.words.add_word.Goals as goal

pub returns-then-is_empty_pair-clause-within : goal.returns-then-is_empty_pair-clause-within
returns-then-is_empty_pair-clause-within c =
    pair_length c.args.tokens.now c.tokens_behind-rest.result.now c.args.at c.token_at-token.result.kind c.requires.inside
    c.tokens_behind-rest.ensures (sym c.is_empty_pair.ensures ∙ c.if-is_empty_pair.true)

pub returns-then-is_empty_pair-clause-worded : goal.returns-then-is_empty_pair-clause-worded
returns-then-is_empty_pair-clause-worded c before =
    let s = source c.args.ops.now c.args.quotes c.args.bytes.now in
    let ts = c.args.tokens.now in
    let t = c.token_at-token.result in
    let us = c.tokens_behind-rest.result.now in
    let counted = c.in_ok-word.ensures.few in
    let few = c.requires.few in
    worded_more s ts c.args.at (c.args.at + 2) t us c.args.symbols.now c.word_of.new.symbols c.args.made.now c.word_of.new.made
    c.args.words.now.items c.push.new.self.items c.in_ok-word.word
    (tokens_here ts us c.args.at t c.requires.inside c.token_at-token.ensures c.tokens_behind-rest.ensures)
    (leaves_next_but_one s ts us c.args.at t c.tokens_behind-rest.ensures (sym c.is_empty_pair.ensures ∙ c.if-is_empty_pair.true))
    c.in_ok-word.ensures.names_kept c.in_ok-word.ensures.kept c.in_ok-push.ensures.items (omega arith)
    c.in_ok-word.ensures.shown c.in_ok-word.ensures.met before

pub returns-else-is_empty_pair-clause-worded : goal.returns-else-is_empty_pair-clause-worded
returns-else-is_empty_pair-clause-worded c before =
    let s = source c.args.ops.now c.args.quotes c.args.bytes.now in
    let ts = c.args.tokens.now in
    let t = c.token_at-token.result in
    let us = c.tokens_behind-rest.result.now in
    let counted = c.in_ok-word.ensures.few in
    let few = c.requires.few in
    worded_more s ts c.args.at (c.args.at + 1) t us c.args.symbols.now c.word_of.new.symbols c.args.made.now c.word_of.new.made
    c.args.words.now.items c.push.new.self.items c.in_ok-word.word
    (tokens_here ts us c.args.at t c.requires.inside c.token_at-token.ensures c.tokens_behind-rest.ensures)
    (leaves_next s ts us c.args.at t c.tokens_behind-rest.ensures (sym c.is_empty_pair.ensures ∙ c.if-is_empty_pair.false))
    c.in_ok-word.ensures.names_kept c.in_ok-word.ensures.kept c.in_ok-push.ensures.items (omega arith)
    c.in_ok-word.ensures.shown c.in_ok-word.ensures.met before
