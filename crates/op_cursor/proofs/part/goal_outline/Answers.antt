use Rattle.std.proofs.Common.{sym, ◌∙◌, ap}
use Rattle.op_term.specs.Head.{head}
use Rattle.op_bind.specs.State.{State, value_of}
use Rattle.op_cursor.proofs.EventParts.{struct-shown}
use Rattle.op_cursor.proofs.part.goal_outline.Goals as goal

pub returns-in-Struct-clause-outline : goal.returns-in-Struct-clause-outline
returns-in-Struct-clause-outline c = λ own.
    struct-shown c.args.view.now.names (value_of c.args.view.now.state c.args.at) c.in-Struct.name c.in-Struct.n
    (sym (c.in-Struct.ensures ∙ ap (λ (s : State). head (value_of s c.args.at)) c.bindings.ensures))
