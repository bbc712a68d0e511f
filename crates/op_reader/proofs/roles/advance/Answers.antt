use Rattle.std.proofs.Common.{◌∙◌, sym, ap, [], ◌∷◌, ◌++◌}
use Rattle.std.specs.Prelude.{reverse}
use Rattle.op_reader.specs.Roles.{an_operand}
use Rattle.std.proofs.lemmas.List.Elements.{All-same, All-push}
use Rattle.op_reader.specs.inner.RoleLists.{RoleBelow, with_roles, with_role, on_layers, roles_left}
use Rattle.std.proofs.lemmas.List.{reverse-append}
use Rattle.op_reader.specs.declared.role.Role.TheVariants.{Closed}
use Rattle.op_reader.proofs.JoinedRoles.{roles_more, left_behind}
use Rattle.op_reader.proofs.roles.advance.Goals as goal

pub returns-in_ok-push-in-On-clause-advances : goal.returns-in_ok-push-in-On-clause-advances
returns-in_ok-push-in-On-clause-advances c v l =
    ap (on_layers (with_roles v c.args.roles.now.items)) (c.in-On.ensures.step v (reverse c.args.spot.now.outer.items) l)
    ∙ roles_more v c.args.roles.now.items c.push.new.self.items c.in-On.role _ c.in_ok-push-in-On.ensures.items

pub returns-in_ok-push-in-Enter-2-clause-advances : goal.returns-in_ok-push-in-Enter-2-clause-advances
returns-in_ok-push-in-Enter-2-clause-advances c v l =
    ap (on_layers (with_roles v c.args.roles.now.items)) (c.in-Enter.ensures.step v (reverse c.args.spot.now.outer.items) l)
    ∙ ap (λ cs. on_layers (with_roles v c.args.roles.now.items) (on_layers (with_role v c.in-Enter.role)
    (roles_left c.in-Enter.kind cs an_operand l))) (sym (ap reverse c.in_ok-push-in-Enter-2.ensures.items
    ∙ reverse-append c.args.spot.now.outer.items (c.args.spot.now.kind ∷ [])))
    ∙ roles_more v c.args.roles.now.items c.push-in-Enter.new.self.items c.in-Enter.role _ c.in_ok-push-in-Enter.ensures.items

pub returns-in_ok-push-in-Leave-clause-advances : goal.returns-in_ok-push-in-Leave-clause-advances
returns-in_ok-push-in-Leave-clause-advances c v l =
    ap (on_layers (with_roles v c.args.roles.now.items)) (c.in-Leave.ensures.step v (reverse c.args.spot.now.outer.items) l)
    ∙ ap (λ r. on_layers (with_roles v c.args.roles.now.items) (on_layers (with_role v Closed) r))
    (left_behind v c.args.spot.now c.leave.new.spot l c.leave.ensures)
    ∙ roles_more v c.args.roles.now.items c.push-in-Leave.new.self.items Closed _ c.in_ok-push-in-Leave.ensures.items

pub returns-in_ok-push-in-On-clause-below : goal.returns-in_ok-push-in-On-clause-below
returns-in_ok-push-in-On-clause-below c n w h =
    All-same (RoleBelow n) c.push.new.self.items (c.args.roles.now.items ++ c.in-On.role ∷ []) c.in_ok-push-in-On.ensures.items
    (All-push (RoleBelow n) c.args.roles.now.items c.in-On.role h (c.in-On.ensures.below n w))

pub returns-in_ok-push-in-Enter-2-clause-below : goal.returns-in_ok-push-in-Enter-2-clause-below
returns-in_ok-push-in-Enter-2-clause-below c n w h =
    All-same (RoleBelow n) c.push-in-Enter.new.self.items (c.args.roles.now.items ++ c.in-Enter.role ∷ [])
    c.in_ok-push-in-Enter.ensures.items
    (All-push (RoleBelow n) c.args.roles.now.items c.in-Enter.role h (c.in-Enter.ensures.below n w))
