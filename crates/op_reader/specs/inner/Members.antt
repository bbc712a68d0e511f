-- Members of a row over nodes.
use Rattle.std.specs.Prelude.{◌≡◌, ◌<◌, ℕ, true, false, Bool, List, [], ◌∷◌, ◌++◌, length, Option, Some, None}
use Rattle.op_logic.specs.Term.{Term}
use Rattle.op_term.specs.Ops.{is_prefix, is_infix, is_postfix}
use Rattle.op_term.specs.declared.ops.OpKind.{OpKind}
use Rattle.op_term.specs.Places.{term_at}
use Rattle.op_reader.specs.declared.member.Member.{Member as DeclaredMember}
use Rattle.op_reader.specs.declared.member.Member.TheVariants.{Operand, Operator}
use Rattle.op_reader.specs.declared.row_node.Class.{Class}
use Rattle.op_reader.specs.declared.row_node.Class.TheVariants.{Prefix, Infix, Postfix}
use Rattle.op_reader.specs.Row.{Member, operand, operator, alternates}
use Rattle.op_reader.specs.inner.RowState.{RowState, operator_of, expects_operand, AreBelow, Stands}

abbrev pub member_at : List (Term ℕ) → DeclaredMember → Member ℕ
member_at ts (Operand n) = operand (term_at ts n)
member_at ts (Operator o) = operator (operator_of o.name.0 o.meaning)

abbrev pub MemberBelow : ℕ → DeclaredMember → Type 0
MemberBelow n (Operand m) = m < n
MemberBelow n (Operator o) = Unit {0}

pub record HasClass (p q i : Bool) (k : OpKind) : Type 0 where
  pub is_before : is_prefix k ≡ p
  pub is_behind : is_postfix k ≡ q
  pub is_between : is_infix k ≡ i

abbrev pub IsClass : OpKind → Class → Type 0
IsClass k Prefix = HasClass true false false k
IsClass k Infix = HasClass false false true k
IsClass k Postfix = HasClass false true false k

-- a member that may stand next joins the row; another one ends it
pub record Joins (ts : List (Term ℕ)) (p : DeclaredMember) (before : RowState) (us : List (Term ℕ)) (after : RowState)
    (expected next : Bool) : Type 0 where
  pub stands : (ps : List (Member ℕ)) → Stands ts ps before → Stands us (ps ++ member_at ts p ∷ []) after
  pub below : AreBelow (length us) after
  pub expects : expects_operand after ≡ next
  pub goes_on : (rest : List (Member ℕ)) → alternates expected (member_at ts p ∷ rest) ≡ alternates next rest

abbrev pub TakesMember : List (Term ℕ) → DeclaredMember → Bool → RowState → List (Term ℕ) → RowState → Option Bool → Type 0
TakesMember ts p expected before us after (Some next) = Joins ts p before us after expected next
TakesMember ts p expected before us after None = (rest : List (Member ℕ)) → alternates expected (member_at ts p ∷ rest) ≡ false
