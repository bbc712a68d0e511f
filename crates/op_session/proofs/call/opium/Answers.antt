use Rattle.std.proofs.Common.{◌≢◌, length, map, string_bytes, sym, ◌∙◌, rules}
use Rattle.std.proofs.lemmas.List.{length-map}
use Rattle.op_session.proofs.CallOutcomes.{words_refused, words_unpaid, words_broken, says_quiet}
use Rattle.op_session.proofs.call.opium.Goals as goal

pub returns-in_default-clause-cost : goal.returns-in_default-clause-cost
returns-in_default-clause-cost g c =
    let two : length c.args.words.now ≢ 2 = search rules in
    words_unpaid _ (map string_bytes c.args.words.now) _ _ _ (λ e. two (sym (length-map c.args.words.now string_bytes) ∙ e))

pub returns-in_default-clause-broken : goal.returns-in_default-clause-broken
returns-in_default-clause-broken g c =
    let two : length c.args.words.now ≢ 2 = search rules in
    words_broken _ (map string_bytes c.args.words.now) _ _ _ _ c.say.result c.ended_as.ensures
    (λ e. two (sym (length-map c.args.words.now string_bytes) ∙ e)) c.say.ensures

pub returns-in_default-clause-words : goal.returns-in_default-clause-words
returns-in_default-clause-words g c = λ two. rw c.ended_as.ensures (words_refused _ _ _ c.say.result c.say.ensures)

pub returns-in_default-clause-left : goal.returns-in_default-clause-left
returns-in_default-clause-left g c = (says_quiet _ _ _ c.say.result c.say.ensures).left

pub returns-in_default-clause-written : goal.returns-in_default-clause-written
returns-in_default-clause-written g c = (says_quiet _ _ _ c.say.result c.say.ensures).written
