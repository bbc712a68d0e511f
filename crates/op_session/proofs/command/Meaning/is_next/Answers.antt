use Rattle.std.proofs.Common.{◌≡◌, ℕ, List, codes, ap, ◌∙◌}
use Rattle.op_logic.specs.Term.{Term, var, int, node, no_args, arg}
use Rattle.op_logic.specs.Names.{name_at, named}
use Rattle.op_term.specs.Head.{head, sym as name}
use Rattle.op_term.specs.Places.{term_at}
use Rattle.op_term.specs.declared.symbols.Sym.{Sym}
use Rattle.op_term.specs.declared.node.Node.TheVariants as nodes
use Rattle.op_trace.specs.Database.{Text, text_eq}
use Rattle.op_session.specs.Session.{is_next}
use Rattle.op_session.proofs.command.Meaning.is_next.Goals as goal

-- an atom is `next` by its name
next-atom : (names : List Text) (t : Term ℕ) (f : Sym) → nodes.Atom f ≡ head t
    → text_eq (name_at names f.0) (codes "next") ≡ is_next (named names t)
next-atom names (var v) f e = absurd cc
next-atom names (int i) f e = absurd cc
next-atom names (node g no_args) f e = let s : f ≡ name g = cc in ap (λ (x : Sym). text_eq (name_at names x.0) (codes "next")) s
next-atom names (node g (arg a ts)) f e = absurd cc

pub returns-in-Atom : goal.returns-in-Atom
returns-in-Atom c =
    c.is_next_name.ensures
    ∙ (ap (λ (t : Text). text_eq t (codes "next"))
    (c.name_of.ensures ∙ ap (λ (t : List Text). name_at t c.in-Atom.name.0) c.symbols.ensures.names)
    ∙ next-atom c.args.store.now.names c.args.goal.now.body c.in-Atom.name
    (c.in-Atom.ensures ∙ ap head (ap (term_at c.new-whole.result.terms) c.root.ensures.root ∙ c.new-whole.ensures.value)))
