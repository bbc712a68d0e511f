use Rattle.std.proofs.Common.{◌≡◌, ℕ, ◌==◌, ◌&&◌, true, sym, ◌∙◌, ap}
use Rattle.std.specs.Prelude.{codes, bytes_eq}
use Rattle.op_logic.specs.Names.{name_at}
use Rattle.op_term.specs.Head.{head}
use Rattle.op_term.specs.Places.{term_at}
use Rattle.op_cursor.proofs.EventParts.{event-struct}
use Rattle.op_cursor.proofs.pattern.is_event_term.Goals as goal

pub returns-then-eq : goal.returns-then-eq
returns-then-eq c =
    let names = c.args.symbols.now in
    let t = term_at c.args.whole.now.terms c.args.whole.now.root in
    let a = c.name_of.ensures in
    let b = c.eq.ensures in
    let d = c.if-eq.true in
    let e : bytes_eq (name_at names c.in-Struct.name.0) (codes "event") ≡ true = cc in
    sym (event-struct names t c.in-Struct.name c.in-Struct.n
    (sym (c.in-Struct.ensures ∙ ap (λ (r : ℕ). head (term_at c.args.whole.now.terms r)) c.root.ensures.root)) ∙ ap (λ b. b &&
    (c.in-Struct.n == 6)) e)
