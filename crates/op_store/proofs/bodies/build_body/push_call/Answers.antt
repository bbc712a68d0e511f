use Rattle.std.proofs.Common.{◌≡◌, ◌++◌, [], ◌∷◌, ℕ, List, length, reverse, Option, sym, ap, ◌∙◌, subst}
use Rattle.std.specs.Option.{option_to_list}
use Rattle.op_logic.specs.Term.{node}
use Rattle.op_term.specs.Places.{args_at}
use Rattle.op_term.specs.inner.Cells.{AllBelow}
use Rattle.op_bind.proofs.KeptTerms.{kept-push}
use Rattle.op_logic.specs.Names.{name_at}
use Rattle.op_store.specs.inner.Converted.{texts_at, called}
use Rattle.op_store.proofs.BodyTerms.{joined-below, last-made, made-call, made-there, reverse-push}
use Rattle.op_store.proofs.bodies.build_body.push_call.Goals as goal

pub returns-clause-there : goal.returns-clause-there
returns-clause-there c =
    let old = c.args.made.now in
    let a = c.unwrap-argument.result in
    let rest : List ℕ = c.pop.new.self.items in
    let e : reverse c.args.stack.now.items ≡ a ∷ reverse rest =
    reverse-push rest a c.args.stack.now.items (c.pop.ensures.items
    ∙ ap (λ (o : Option ℕ). rest ++ option_to_list o) c.unwrap-argument.ensures) in
    let h : AllBelow (length old) (a ∷ reverse rest) = subst (λ (ks : List ℕ). AllBelow (length old) ks) e c.requires.there in
    let t = node c.args.name.0 (args_at old (a ∷ [])) in
    joined-below old c.compound.new.self rest c.in_ok-root.root c.push.new.self.items
    (kept-push old c.compound.new.self t c.in_ok-root.ensures.ok)
    (made-there old c.compound.new.self t c.in_ok-root.root c.in_ok-root.ensures.ok c.in_ok-root.ensures.number) c.in_ok-push.ensures.items
    h.1

pub returns-clause-called : goal.returns-clause-called
returns-clause-called c = λ names.
    let old = c.args.made.now in
    let a = c.unwrap-argument.result in
    let rest : List ℕ = c.pop.new.self.items in
    let e : reverse c.args.stack.now.items ≡ a ∷ reverse rest =
    reverse-push rest a c.args.stack.now.items (c.pop.ensures.items
    ∙ ap (λ (o : Option ℕ). rest ++ option_to_list o) c.unwrap-argument.ensures) in
    let h : AllBelow (length old) (a ∷ reverse rest) = subst (λ (ks : List ℕ). AllBelow (length old) ks) e c.requires.there in
    let t = node c.args.name.0 (args_at old (a ∷ [])) in
    made-call names c.args.name.0 old c.compound.new.self rest c.push.new.self.items a c.in_ok-root.root
    (kept-push old c.compound.new.self t c.in_ok-root.ensures.ok)
    (last-made old c.compound.new.self t c.in_ok-root.root c.in_ok-root.ensures.ok c.in_ok-root.ensures.number) c.in_ok-push.ensures.items
    h.1
    ∙ ap (λ (ks : List ℕ). called (name_at names c.args.name.0) (texts_at names old ks)) (sym e)
