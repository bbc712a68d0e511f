-- Lists (ISO/IEC 13211-1, 6.3.5): './2' of an element and the rest, and '[]' at the end.
use Rattle.std.specs.Prelude.{codes, if◌then◌else◌}
use Rattle.op_logic.specs.Term.{Term, var, int, node, Args, no_args, arg, atom, args_of, nth_arg}
use Rattle.op_logic.specs.Bind.{Bindings, apply, follow}
use Rattle.op_trace.specs.Database.{Text, text_eq}
use Rattle.op_trace.specs.Body.{pair}

abbrev pub list_of : Args Text → Term Text
list_of no_args = atom (codes "[]")
list_of (arg t ts) = pair (codes ".") t (list_of ts)

-- what a term is under bindings: a list with these elements, as they stand in it; a partial list, which ends in a variable; or neither
pub data Listed : Type 0 where
  Elements : Args Text → Listed
  Partial : Listed
  No_list : Listed

abbrev pub with_element : Term Text → Listed → Listed
with_element t (Elements ts) = Elements (arg t ts)
with_element t Partial = Partial
with_element t No_list = No_list

-- by the term's shape, which is that of the term with its bindings applied
abbrev pub listed_by : Term Text → Bindings Text → Term Text → Listed
listed_by (var v) σ t = Partial
listed_by (int i) σ t = No_list
listed_by (node f no_args) σ t = if text_eq f (codes "[]") then Elements no_args else No_list
listed_by (node f (arg s no_args)) σ t = No_list
listed_by (node f (arg s (arg rest no_args))) σ t =
    let ts : Args Text = args_of (follow σ t) in
    if text_eq f (codes ".") then with_element (nth_arg ts 0) (listed_by rest σ (nth_arg ts 1)) else No_list
listed_by (node f (arg s (arg r (arg u us)))) σ t = No_list

abbrev pub listed : Bindings Text → Term Text → Listed
listed σ t = listed_by (apply σ t) σ t
