use Rattle.std.proofs.Common.{◌≡◌, ℕ, ◌+◌, ◌<◌, sym, ◌∙◌, ap, subst}
use Rattle.std.specs.Prelude.{IfOk, OnOk, Err}
use Rattle.op_logic.specs.Term.{size}
use Rattle.op_logic.specs.Names.{name_at}
use Rattle.op_term.specs.Places.{term_at}
use Rattle.op_term.specs.declared.walk.WalkFault.TheVariants.{Spent}
use Rattle.op_logic.proofs.RenamedUnification.{size-rename}
use Rattle.op_cursor.proofs.pattern.Pattern.size.Goals as goal

pub returns-clause-value : goal.returns-clause-value
returns-clause-value c =
    let e : size (term_at c.new-whole.result.terms c.root.result) ≡ size c.args.self.now =
    ap (λ (r : ℕ). size (term_at c.new-whole.result.terms r)) c.root.ensures.root ∙ (ap (size {N = ℕ}) c.new-whole.ensures.value
    ∙ (sym (size-rename (name_at c.self.inside.names) c.self.inside.term) ∙ ap size c.self.view_is)) in
    subst (λ (k : ℕ). IfOk c.size.result (λ n. n ≡ k)) e c.size.ensures.value

pub returns-clause-paid : goal.returns-clause-paid
returns-clause-paid c =
    let e : size (term_at c.new-whole.result.terms c.root.result) ≡ size c.args.self.now =
    ap (λ (r : ℕ). size (term_at c.new-whole.result.terms r)) c.root.ensures.root ∙ (ap (size {N = ℕ}) c.new-whole.ensures.value
    ∙ (sym (size-rename (name_at c.self.inside.names) c.self.inside.term) ∙ ap size c.self.view_is)) in
    subst (λ (k : ℕ). OnOk c.size.result (c.args.fuel.now ≡ c.size.new.fuel + k)) e c.size.ensures.paid

pub returns-clause-spent : goal.returns-clause-spent
returns-clause-spent c =
    let e : size (term_at c.new-whole.result.terms c.root.result) ≡ size c.args.self.now =
    ap (λ (r : ℕ). size (term_at c.new-whole.result.terms r)) c.root.ensures.root ∙ (ap (size {N = ℕ}) c.new-whole.ensures.value
    ∙ (sym (size-rename (name_at c.self.inside.names) c.self.inside.term) ∙ ap size c.self.view_is)) in
    subst (λ (k : ℕ). c.size.result ≡ Err Spent → c.args.fuel.now < k) e c.size.ensures.spent
