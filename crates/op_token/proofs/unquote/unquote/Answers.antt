use Rattle.std.proofs.Common.{◌≡◌, ◌+◌, ◌-◌, ◌++◌, ◌∙◌, ap, sym, subst, length, take, drop, get_or, arith, Vec, Global, ℕ}
use Rattle.std.specs.Prelude.{Some}
use Rattle.op_token.specs.Tokens.{text_from, Continues}
use Rattle.op_token.proofs.UnquotedTexts.{text_skips, text_ends, text_goes_on, text_starts}
use Rattle.op_token.proofs.unquote.unquote.Goals as goal
use Rattle.op_token.proofs.unquote.unquote.Goals.{then-inside-gt0, else-inside-gt0+in_ok-more+in-Some}

pub returns-in-None-clause-done : goal.returns-in-None-clause-done
returns-in-None-clause-done c =
    let rest = c.args.rest.now in
    let q = c.args.quote in
    let z : c.loop-i.inside ≡ 0 = omega arith in
    let so_far : c.loop-i.out.items ++ text_from q 0 (drop c.loop-i.i rest) ≡ c.args.out.now.items ++ text_from q 0 rest =
    ap (λ n. c.loop-i.out.items ++ text_from q n (drop c.loop-i.i rest)) (sym z) ∙ c.loop-i.invariant.0 in
    text_ends q c.loop-i.i rest c.loop-i.out.items c.push_next.new.out.items (c.args.out.now.items ++ text_from q 0 rest)
    c.loop-i-test.true so_far
    (subst (λ o.
    Continues q (get_or rest c.loop-i.i 0) (take (length rest - (c.loop-i.i + 1)) (drop (c.loop-i.i + 1) rest)) c.loop-i.out.items
    c.push_next.new.out.items o) c.in-None.is c.in_ok-more.ensures.next)

pub loop-i-preserved : goal.loop-i-preserved
loop-i-preserved c =
    let rest = c.args.rest.now in
    let q = c.args.quote in
    let i = c.loop-i.i in
    let out = c.args.out.now.items ++ text_from q 0 rest in
    elim c.if-inside-gt0.branch [
      | then-inside-gt0 w ↦
          let e = ap (λ (v : Vec ℕ Global). v.items) w.out-is in (
            ap (λ o. o ++ text_from q c.if-inside-gt0.inside (drop (i + 1) rest)) e
                ∙ ap (λ t. c.loop-i.out.items ++ t)
                (text_skips q i c.loop-i.inside c.if-inside-gt0.inside rest c.loop-i-test.true w.if-inside-gt0.true w.inside-is)
                ∙ c.loop-i.invariant.0,
            ap (take (length c.args.out.now.items)) e ∙ c.loop-i.invariant.1,
          )
      | else-inside-gt0+in_ok-more+in-Some w ↦
          let e = ap (λ (v : Vec ℕ Global). v.items) w.out-is in
          let z : c.loop-i.inside ≡ 0 = omega arith in
          let so_far : c.loop-i.out.items ++ text_from q 0 (drop i rest) ≡ out =
          ap (λ n. c.loop-i.out.items ++ text_from q n (drop i rest)) (sym z) ∙ c.loop-i.invariant.0 in
          let d : Continues q (get_or rest i 0) (take (length rest - (i + 1)) (drop (i + 1) rest)) c.loop-i.out.items
          w.push_next.new.out.items (Some w.in-Some.more) =
          subst (λ o.
          Continues q (get_or rest i 0) (take (length rest - (i + 1)) (drop (i + 1) rest)) c.loop-i.out.items
          w.push_next.new.out.items o) w.in-Some.is w.in_ok-more.ensures.next in (
            ap (λ o. o ++ text_from q c.if-inside-gt0.inside (drop (i + 1) rest)) e
                ∙ ap (λ n. w.push_next.new.out.items ++ text_from q n (drop (i + 1) rest)) w.inside-is
                ∙ text_goes_on q i rest c.loop-i.out.items w.push_next.new.out.items out c.loop-i-test.true so_far w.in-Some.more d,
            ap (take (length c.args.out.now.items)) e
                ∙ text_starts q i rest c.loop-i.out.items w.push_next.new.out.items out c.loop-i-test.true so_far w.in-Some.more d
                c.args.out.now.items c.loop-i.invariant.1,
          )
    ]
