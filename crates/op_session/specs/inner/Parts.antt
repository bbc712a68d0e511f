-- What the walk over a body's parts looks at: the names of the control constructs of two parts.
use Rattle.std.specs.Prelude.{◌||◌, Bool, false, List, codes}
use Rattle.std.specs.List.{list_all}
use Rattle.op_logic.specs.Term.{Term, node, no_args, arg}
use Rattle.op_trace.specs.Database.{Text, text_eq}
use Rattle.op_session.specs.Runnable.{is_runnable}

abbrev pub is_control_pair_name : Text → Bool
is_control_pair_name f = text_eq f (codes ",") || (text_eq f (codes ";") || text_eq f (codes "->"))

abbrev pub is_control_pair : Term Text → Bool
is_control_pair (node f (arg a (arg b no_args))) = is_control_pair_name f
is_control_pair t = false

abbrev pub all_runnable : List (Term Text) → Bool
all_runnable ts = list_all is_runnable ts
