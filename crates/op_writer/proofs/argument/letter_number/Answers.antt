use Rattle.std.proofs.Common.{◌≡◌, ℕ, List, codes, ◌&&◌, not, sym, ◌∙◌, ap, bytes_eq}
use Rattle.op_term.specs.Head.{head}
use Rattle.op_term.specs.declared.node.Node.TheVariants.{Struct}
use Rattle.op_writer.specs.Text.{is_canonical}
use Rattle.op_writer.specs.inner.Stack.{ways_of, natural_of}
use Rattle.op_writer.proofs.LetterTerms.{letter-many, letter-one}
use Rattle.op_writer.proofs.argument.letter_number.Goals as goal

pub returns-then-n-ne1 : goal.returns-then-n-ne1
returns-then-n-ne1 g c =
    letter-many (ways_of c.args.setting.now) (g.T.Tree.term c.args.tree.now c.args.at.now) c.args.name c.args.n
    c.requires.node c.if-n-ne1.true

pub returns : goal.returns
returns g c =
    let w = ways_of c.args.setting.now in
    let t = g.T.Tree.term c.args.tree.now c.args.at.now in
    let one : c.args.n ≡ 1 = c.if-n-ne1.false in
    let h : head t ≡ Struct c.args.name 1 = c.requires.node ∙ ap (λ (k : ℕ). Struct c.args.name k) one in
    let named = c.has_letters.ensures ∙ ap (λ (x : List ℕ). not (is_canonical w.style) && bytes_eq x (codes "$VAR")) c.name_of.ensures in
    c.natural.ensures ∙ (ap natural_of (c.node.ensures ∙ ap head c.part.ensures.value)
    ∙ letter-one w t c.args.name h (sym named ∙ c.if-not-has_letters.false))
