use Rattle.std.proofs.Common.{◌≡◌, List, true, sym, ◌∙◌, ap, subst}
use Rattle.std.specs.Prelude.{bytes_eq}
use Rattle.std.specs.List.{list_any}
use Rattle.op_logic.specs.Names.{name_at, with_name}
use Rattle.op_term.specs.declared.node.Node.{Node}
use Rattle.op_trace.specs.Database.{Text}
use Rattle.op_cursor.specs.inner.OwnNames.{IsOwnNode}
use Rattle.op_cursor.proofs.OwnTables.{own-added}
use Rattle.op_cursor.proofs.own_names.add_name.Goals as goal

pub returns-in_ok-intern-in-Atom-clause-added : goal.returns-in_ok-intern-in-Atom-clause-added
returns-in_ok-intern-in-Atom-clause-added c =
    let names = c.args.symbols.now in
    let text = name_at names c.in-Atom.name.0 in
    let new : List Text = c.intern.new.self in
    let e : new ≡ with_name c.args.own.now text = c.in_ok-intern-in-Atom.ensures.exact ∙ ap (with_name c.args.own.now) c.name_of.ensures in
    subst (λ (n : Node). IsOwnNode names new n) (sym c.in-Atom.is)
    (subst (λ (ns : List Text). list_any (bytes_eq text) ns ≡ true) (sym e) (own-added c.args.own.now text))

pub returns-in_ok-intern-in-Struct-clause-added : goal.returns-in_ok-intern-in-Struct-clause-added
returns-in_ok-intern-in-Struct-clause-added c =
    let names = c.args.symbols.now in
    let text = name_at names c.in-Struct.name.0 in
    let new : List Text = c.intern-in-Struct.new.self in
    let e : new ≡ with_name c.args.own.now text =
    c.in_ok-intern-in-Struct.ensures.exact ∙ ap (with_name c.args.own.now) c.name_of-in-Struct.ensures in
    subst (λ (n : Node). IsOwnNode names new n) (sym c.in-Struct.is)
    (subst (λ (ns : List Text). list_any (bytes_eq text) ns ≡ true) (sym e) (own-added c.args.own.now text))
