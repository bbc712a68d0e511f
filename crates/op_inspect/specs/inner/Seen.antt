-- What the code sees a term to be as a list.
use Rattle.std.specs.Prelude.{◌≡◌, ℕ, ◌==◌, List, [], ◌∷◌, All, codes, if◌then◌else◌}
use Rattle.op_logic.specs.Term.{Args, no_args, arg}
use Rattle.op_logic.specs.Names.{name_at}
use Rattle.op_term.specs.declared.node.Node.{Node}
use Rattle.op_term.specs.declared.node.Node.TheVariants.{Var, Int, Atom, Struct}
use Rattle.op_bind.specs.State.{State}
use Rattle.op_trace.specs.Database.{Text, text_eq}
use Rattle.op_inspect.specs.Lists.{Listed, Elements, Partial, No_list, with_element}
use Rattle.op_inspect.specs.Outcomes.{text_at, IsKnown}
use Rattle.op_inspect.specs.declared.lists.Spine.{Spine}
use Rattle.op_inspect.specs.declared.lists.Spine.TheVariants.{Cell, End, Open, Other}
use Rattle.op_inspect.specs.declared.lists.Seen.{Seen}
use Rattle.op_inspect.specs.declared.lists.Seen.TheVariants as seen

-- the terms of Refs, as arguments
abbrev pub texts : List (List ℕ) → State → List ℕ → Args Text
texts names s [] = no_args
texts names s (r ∷ rs) = arg (text_at names s r) (texts names s rs)

abbrev pub IsSeen : List (List ℕ) → State → Listed → Seen → Type 0
IsSeen names s l (seen.List rs) = (l ≡ Elements (texts names s rs.items)) × All (IsKnown names s) rs.items
IsSeen names s l seen.Partial = l ≡ Partial
IsSeen names s l seen.NoList = l ≡ No_list

-- with these elements before it
abbrev pub with_elements : List (List ℕ) → State → List ℕ → Listed → Listed
with_elements names s [] l = l
with_elements names s (r ∷ rs) l = with_element (text_at names s r) (with_elements names s rs l)

-- a node as a part of a list
abbrev pub spine_of : List (List ℕ) → Node → Spine
spine_of names (Var v) = Open
spine_of names (Int i) = Other
spine_of names (Atom f) = if text_eq (name_at names f.0) (codes "[]") then End else Other
spine_of names (Struct f n) = if n == 2 then (if text_eq (name_at names f.0) (codes ".") then Cell else Other) else Other
