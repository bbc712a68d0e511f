-- What a term is as a part of a body, as the code tells its parts apart.
use Rattle.std.specs.Prelude.{if◌then◌else◌, bytes_eq, codes}
use Rattle.op_logic.specs.Term.{Term, var, int, node, no_args, arg}
use Rattle.op_trace.specs.Database.{Text}
use Rattle.op_store.specs.declared.bodies.body_part.Part.{Part}
use Rattle.op_store.specs.declared.bodies.body_part.Part.TheVariants.{Conjunction, Disjunction, IfThen, Variable, Goal, Number}

-- a compound of two arguments, by its name
abbrev pub part_of_pair : Text → Part
part_of_pair f =
    if bytes_eq f (codes ",") then Conjunction else
    if bytes_eq f (codes ";") then Disjunction else
    if bytes_eq f (codes "->") then IfThen else
    Goal

abbrev pub part_of_term : Term Text → Part
part_of_term (var v) = Variable
part_of_term (int i) = Number
part_of_term (node f (arg t (arg u no_args))) = part_of_pair f
part_of_term (node f ts) = Goal
