use Rattle.std.proofs.Common.{◌∙◌}
use Rattle.op_writer.proofs.QuotedNames.{edge-quoted}
use Rattle.op_writer.proofs.written.Written.quoted_name.Goals as goal

pub returns-clause-edge : goal.returns-clause-edge
returns-clause-edge c = c.of_quotes-self.ensures ∙ edge-quoted c.args.is_prefix c.args.self.now.edge c.args.name.now
