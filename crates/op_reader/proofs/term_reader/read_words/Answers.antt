use Rattle.std.proofs.Common.{length, subst, map}
use Rattle.std.proofs.lemmas.List.Elements.{All-same}
use Rattle.op_reader.specs.declared.roles.Roles.{Roles}
use Rattle.op_reader.specs.inner.RoleLists.{view, word_in, RoleBelow, RolesBelow, HasRoles}
use Rattle.op_reader.proofs.ReadingOutcomes.{misplaced_word}
use Rattle.op_reader.proofs.term_reader.read_words.Goals as goal

pub read_roles-requires : goal.read_roles-requires
read_roles-requires c =
    let n = length c.args.made.nodes in
    All-same (RoleBelow n) c.deref.result.now c.in-Given.roles.items c.deref.ensures.value
    (subst (λ (r : Roles). RolesBelow n r) c.in-Given.is (c.in_ok-at.ensures.below n c.requires))

pub returns-in-Refused-clause-tells : goal.returns-in-Refused-clause-tells
returns-in-Refused-clause-tells c table h outer =
    let roles = subst (λ (r : Roles). HasRoles c.args.stop.from c.args.words.now r) c.in-Refused.is c.in_ok-at.ensures.roles in
    misplaced_word c.args.place c.args.stop.from c.args.stop.to c.in-Refused.at c.args.made.names
    (map (word_in (view table c.args.made.nodes)) c.args.words.now) (roles (view table c.args.made.nodes) outer)
