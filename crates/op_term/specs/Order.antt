-- The standard order of terms (ISO/IEC 13211-1, 7.2): variables by number, then integers by value, then atoms by their characters, then
-- compound terms by arity, name, and arguments from the left. An atom is a name without arguments, so it comes first by its arity.
-- Names are texts in UTF-8, whose bytes stand in the order of their characters.
use Rattle.std.specs.Prelude.{ℕ, ◌+◌, List, if◌then◌else◌}
use Rattle.std.specs.declared.cmp.Ordering.{Ordering}
use Rattle.std.specs.declared.cmp.Ordering.TheVariants.{Less, Equal, Greater}
use Rattle.std.specs.Ordering.{is_eq, ordering_then, nat_cmp, int_cmp}
use Rattle.std.specs.Cmp.Lexicographic.{slice_cmp}
use Rattle.op_logic.specs.Term.{Term, var, int, node, Args, no_args, arg, args_of, arity}

-- two names, by their first bytes that differ; where one begins the other, the shorter is less
abbrev pub name_order : List ℕ → List ℕ → Ordering
name_order f g = slice_cmp nat_cmp f g

-- two terms without their arguments
abbrev pub head_order : Term (List ℕ) → Term (List ℕ) → Ordering
head_order (var v) (var w) = nat_cmp v w
head_order (var v) _ = Less
head_order (int i) (var w) = Greater
head_order (int i) (int j) = int_cmp i j
head_order (int i) (node g us) = Less
head_order (node f ts) (node g us) = ordering_then (nat_cmp (arity ts) (arity us)) (name_order f g)
head_order (node f ts) _ = Greater

-- two terms, and two lists of arguments, which are of one length where the terms' heads are equal
abbrev mutual
  pub standard_order : Term (List ℕ) → Term (List ℕ) → Ordering
  standard_order (var v) u = head_order (var v) u
  standard_order (int i) u = head_order (int i) u
  standard_order (node f ts) u = ordering_then (head_order (node f ts) u) (args_order ts (args_of u))

  pub args_order : Args (List ℕ) → Args (List ℕ) → Ordering
  args_order no_args no_args = Equal
  args_order no_args (arg u us) = Less
  args_order (arg t ts) no_args = Greater
  args_order (arg t ts) (arg u us) = ordering_then (standard_order t u) (args_order ts us)

-- how many pairs of nodes are compared, from the left: up to and with the first two that differ
abbrev mutual
  pub pairs_compared : Term (List ℕ) → Term (List ℕ) → ℕ
  pairs_compared (var v) u = 1
  pairs_compared (int i) u = 1
  pairs_compared (node f ts) u = 1 + (if is_eq (head_order (node f ts) u) then args_compared ts (args_of u) else 0)

  pub args_compared : Args (List ℕ) → Args (List ℕ) → ℕ
  args_compared (arg t ts) (arg u us) = pairs_compared t u + (if is_eq (standard_order t u) then args_compared ts us else 0)
  args_compared _ _ = 0
