use Rattle.std.proofs.Common.{◌≡◌, ℕ, List, refl, sym, ap, ◌∙◌, None}
use Rattle.op_logic.specs.Term.{Term, var, int, node, no_args, arg}
use Rattle.op_logic.specs.Names.{name_at, named}
use Rattle.op_term.specs.Head.{head, sym as name}
use Rattle.op_term.specs.Places.{term_at}
use Rattle.op_term.specs.declared.symbols.Sym.{Sym}
use Rattle.op_term.specs.declared.node.Node.TheVariants as nodes
use Rattle.op_trace.specs.Database.{Text}
use Rattle.op_session.specs.Commands.{command_alone, command_with, command_in}
use Rattle.op_session.proofs.command.Command.of_goal.Goals as goal

-- by the outermost node
by-atom : (names : List Text) (t : Term ℕ) (f : Sym) → nodes.Atom f ≡ head t
    → command_alone (name_at names f.0) ≡ command_in (named names t)
by-atom names (var v) f e = absurd cc
by-atom names (int i) f e = absurd cc
by-atom names (node g no_args) f e = let s : f ≡ name g = cc in ap (λ (x : Sym). command_alone (name_at names x.0)) s
by-atom names (node g (arg a ts)) f e = absurd cc

by-struct : (names : List Text) (t : Term ℕ) (f : Sym) → nodes.Struct f 1 ≡ head t
    → command_with (name_at names f.0) ≡ command_in (named names t)
by-struct names (var v) f e = absurd cc
by-struct names (int i) f e = absurd cc
by-struct names (node g no_args) f e = absurd cc
by-struct names (node g (arg a no_args)) f e = let s : f ≡ name g = cc in ap (λ (x : Sym). command_with (name_at names x.0)) s
by-struct names (node g (arg a (arg b ts))) f e = absurd cc

pub returns-in-Atom : goal.returns-in-Atom
returns-in-Atom c =
    c.alone.ensures
    ∙ (ap command_alone (c.name_of.ensures ∙ ap (λ (t : List Text). name_at t c.in-Atom.name.0) c.symbols.ensures.names)
    ∙ by-atom c.args.store.now.names c.args.goal.now.body c.in-Atom.name
    (c.in-Atom.ensures ∙ ap head (ap (term_at c.new-whole.result.terms) c.root.ensures.root ∙ c.new-whole.ensures.value)))

pub returns-in-Struct-default-eq1 : goal.returns-in-Struct-default-eq1
returns-in-Struct-default-eq1 c =
    c.with_argument.ensures
    ∙ (ap command_with (c.name_of-in-Struct-default-eq1.ensures
    ∙ ap (λ (t : List Text). name_at t c.in-Struct-default-eq1.name.0) c.symbols-in-Struct-default-eq1.ensures.names)
    ∙ by-struct c.args.store.now.names c.args.goal.now.body c.in-Struct-default-eq1.name
    (ap (λ (n : ℕ). nodes.Struct c.in-Struct-default-eq1.name n) (sym c.in-Struct-default-eq1.field-1-test)
    ∙ c.in-Struct-default-eq1.ensures ∙ ap head (ap (term_at c.new-whole.result.terms) c.root.ensures.root ∙ c.new-whole.ensures.value)))

-- neither an atom nor a compound with one argument
by-other : (names : List Text) (t : Term ℕ) → ((f : Sym) → nodes.Atom f ≡ head t → ⊥) → ((f : Sym) → nodes.Struct f 1 ≡ head t → ⊥)
    → None ≡ command_in (named names t)
by-other names (var v) a s = refl
by-other names (int i) a s = refl
by-other names (node g no_args) a s = absurd (a (name g) refl)
by-other names (node g (arg x no_args)) a s = absurd (s (name g) refl)
by-other names (node g (arg x (arg y ts))) a s = refl

-- which of them a compound has, by its number of arguments
no-one : (f g : Sym) (n : ℕ) (t : Term ℕ) → nodes.Struct g n ≡ head t → (n ≡ 1 → ⊥) → nodes.Struct f 1 ≡ head t → ⊥
no-one f g n t h not-one e = let s : nodes.Struct g n ≡ nodes.Struct f 1 = h ∙ sym e in let one : n ≡ 1 = cc in not-one one

pub returns-in_default : goal.returns-in_default
returns-in_default c =
    let value : term_at c.new-whole.result.terms c.root.result ≡ c.args.goal.now.body =
    ap (term_at c.new-whole.result.terms) c.root.ensures.root ∙ c.new-whole.ensures.value in
    by-other c.args.store.now.names c.args.goal.now.body
    (λ f e. c.in_default.not-Atom f (c.node.ensures ∙ ap head value ∙ sym e))
    (λ f e. no-one f _ _ c.args.goal.now.body (c.in_default.ensures ∙ ap head value) c.in_default.field-1-test.1 e)
