use Rattle.std.proofs.Common.{◌++◌, ℕ, codes, length, sym, ◌∙◌, ap, arith}
use Rattle.std.proofs.lemmas.Bool.{ltb-true}
use Rattle.std.proofs.lemmas.Iterator.{YieldsList-from_chars}
use Rattle.std.proofs.lemmas.Iterator.Consumers.{YieldsList-at, YieldsList-so_far, YieldsList-end}
use Rattle.op_writer.specs.Cut.{front_of}
use Rattle.op_writer.proofs.QuotedNames.{quoted-stops, quoted-ends}
use Rattle.op_writer.proofs.spelling.in_quotes.Goals as goal

pub returns-then-is_full-clause-bytes : goal.returns-then-is_full-clause-bytes
returns-then-is_full-clause-bytes c =
    let seen = YieldsList-so_far (YieldsList-at c.into_iter-c-iterator.ensures.into_iter_gives
    (YieldsList-from_chars c.args.name.now c.utf8.name c.chars-c-items.ensures.rest))
    c.loop-c.yielded _ c.loop-c.yielded_by in
    let full = ltb-true c.loop-c.out.limit (length c.loop-c.out.bytes) (sym c.is_full.ensures ∙ c.if-is_full.true) in
    quoted-stops c.args.out.now.limit c.args.out.now.bytes c.args.name.now c.loop-c.yielded c.loop-c.out.bytes seen c.loop-c.invariant.0
    (omega (arith, full, c.loop-c.invariant.1))

pub returns-then-is_full-2-clause-bytes : goal.returns-then-is_full-2-clause-bytes
returns-then-is_full-2-clause-bytes c =
    let seen = YieldsList-so_far (YieldsList-at c.into_iter-c-iterator.ensures.into_iter_gives
    (YieldsList-from_chars c.args.name.now c.utf8.name c.chars-c-items.ensures.rest))
    c.loop-c.yielded _ c.loop-c.yielded_by in
    let full = ltb-true c.loop-c.out.limit (length c.loop-c.out.bytes) (sym c.is_full-2.ensures ∙ c.if-is_full-2.true) in
    quoted-stops c.args.out.now.limit c.args.out.now.bytes c.args.name.now c.loop-c.yielded c.loop-c.out.bytes seen c.loop-c.invariant.0
    (omega (arith, full, c.loop-c.invariant.1))

pub returns-clause-bytes : goal.returns-clause-bytes
returns-clause-bytes c =
    let seen = YieldsList-end (YieldsList-at c.into_iter-c-iterator.ensures.into_iter_gives
    (YieldsList-from_chars c.args.name.now c.utf8.name c.chars-c-items.ensures.rest))
    c.loop-c.yielded _ c.loop-c.yielded_by _ _ c.in-None.is c.next.ensures.steps in
    quoted-ends c.args.out.now.limit c.args.out.now.bytes c.args.name.now c.loop-c.yielded c.loop-c.out.bytes c.add-2.new.self.bytes
    seen.0 c.loop-c.invariant.0
    (c.in_ok-add-2.ensures.bytes ∙ ap (λ (n : ℕ). front_of n (c.loop-c.out.bytes ++ codes "'")) c.loop-c.invariant.1)
