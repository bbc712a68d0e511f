use Rattle.std.proofs.Common.{length, drop, subst, sym, arith, List, []}
use Rattle.std.proofs.Math.Seq.{drop-length}
use Rattle.op_reader.specs.declared.role.Role.{Role}
use Rattle.op_reader.specs.inner.RoleLists.{Layers, with_roles, no_layers}
use Rattle.std.proofs.lemmas.List.Elements.{All-same, All-nil}
use Rattle.op_reader.specs.declared.terms.Pending.{Pending}
use Rattle.op_reader.specs.inner.ReadRows.{Reads, RowsBelow}
use Rattle.op_reader.proofs.ShownNodes.{kept_all, kept_kept}
use Rattle.op_reader.proofs.PendingRows.{reads_none, roles_back}
use Rattle.op_reader.proofs.terms.term_node.Goals as goal

pub roles-init : goal.roles-init
roles-init c =
    let p : Pending = record { inner = c.new.result; outer = c.new-2.result } in record {
      inside = omega arith;
      reads = λ v k. subst (λ (ms : List Role). Reads v c.args.known p (with_roles v ms no_layers)) (sym (drop-length c.args.roles.now))
          (reads_none v c.args.known p (c.new.ensures.empty v) c.new-2.ensures.items);
      below = record {
        inner = c.new.ensures.below (length c.args.nodes.now);
        outer = All-same (RowsBelow (length c.args.nodes.now))
            c.new-2.result.items [] c.new-2.ensures.items (All-nil (RowsBelow (length c.args.nodes.now)));
      };
      kept = kept_all c.args.nodes.now;
    }

pub roles-preserved : goal.roles-preserved
roles-preserved c = record {
  inside = let h = c.roles.invariant.inside in omega arith;
  reads = λ v k.
      subst (λ (l : Layers). Reads v c.args.known c.take_role.new.pending l)
      (roles_back v c.args.roles.now c.roles.i c.index-roles-i.result c.roles-test.true c.roles.invariant.inside c.index-roles-i.is)
      (c.in_ok-take_role.ensures.reads v (with_roles v (drop c.roles.i c.args.roles.now) no_layers) k
      (c.roles.invariant.reads v (kept_kept c.roles.nodes c.take_role.new.nodes v.terms c.in_ok-take_role.ensures.kept k)));
  below = c.in_ok-take_role.ensures.below;
  kept = kept_kept c.args.nodes.now c.roles.nodes c.take_role.new.nodes c.roles.invariant.kept c.in_ok-take_role.ensures.kept;
}
