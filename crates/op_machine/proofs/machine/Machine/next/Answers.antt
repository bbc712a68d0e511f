use Rattle.std.proofs.Common.{Bool, false, sym, subst}
use Rattle.op_machine.specs.declared.turn.Last.{Last}
use Rattle.op_machine.specs.Machine.{Kept, kept_of}
use Rattle.op_machine.proofs.AnswerLaws.{AnswersOver, turned-answers, goes-still}
use Rattle.op_machine.proofs.machine.Machine.next.Goals as goal

pub returns-in-Ok-clause-goes : goal.returns-in-Ok-clause-goes
returns-in-Ok-clause-goes g c =
    let t = c.in-Ok.turn in
    let new = c.turn.new.self in
    let base = turned-answers c.self.inside.core new c.self.inside.last c.self.inside.faulted t c.in-Ok.ensures.turned in
    goes-still t _ _ _ _ (g.H.Host.stays _) (λ out o.
    subst (λ (k : Kept). AnswersOver t k (kept_of new c.last_of-self-inside.result c.self.inside.faulted) out o) c.self.view_is
    (subst (λ (x : Bool). AnswersOver t (kept_of c.self.inside.core c.self.inside.last c.self.inside.faulted)
    (kept_of new c.last_of-self-inside.result x) out o) (sym c.if-self.false)
    (subst (λ (x : Last). AnswersOver t (kept_of c.self.inside.core c.self.inside.last c.self.inside.faulted) (kept_of new x false) out o)
    (sym c.last_of-self-inside.ensures) (base out o))))
