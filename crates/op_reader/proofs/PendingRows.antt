-- Rows that are taken away, and nodes that stay below.
use Rattle.std.proofs.Common.{◌≡◌, ℕ, ◌<◌, ◌≤◌, List, [], ◌∷◌, ◌++◌, Option, Some, None, ap, sym, ◌∙◌, subst, arith, drop, length, get_or}
use Rattle.std.proofs.Common.{map, suc, ◌-◌}
use Rattle.std.proofs.Math.Seq.{drop-cons}
use Rattle.op_reader.specs.declared.role.Role.{Role}
use Rattle.op_reader.specs.declared.read_rows.ListNames.{ListNames}
use Rattle.op_reader.specs.inner.RoleLists.{View, with_role, with_roles, no_layers}
use Rattle.std.specs.Prelude.{reverse}
use Rattle.std.specs.Option.{IfSome}
use Rattle.std.proofs.lemmas.List.{reverse-append}
use Rattle.std.proofs.lemmas.List.Elements.{All-weaker, All-pop}
use Rattle.op_reader.specs.declared.member.Member.{Member}
use Rattle.op_reader.specs.declared.member.Member.TheVariants.{Operand, Operator}
use Rattle.op_reader.specs.declared.read_rows.ReadRows.{ReadRows}
use Rattle.op_reader.specs.declared.terms.Pending.{Pending}
use Rattle.op_reader.specs.inner.Members.{MemberBelow}
use Rattle.op_reader.specs.inner.ReadRows.{rows_in, first_rows, RowsBelow, PendingBelow, Popped, Reads, nothing_read}

member_more : (n m : ℕ) → n ≤ m → (p : Member) → MemberBelow n p → MemberBelow m p
member_more n m l (Operand k) h = omega arith
member_more n m l (Operator o) h = h

tail_more : (n m : ℕ) → n ≤ m → (o : Option ℕ) → IfSome o (λ k. k < n) → IfSome o (λ k. k < m)
tail_more n m l (Some k) h = let g : k < n = h in omega arith
tail_more n m l None h = h

pub rows_more : (n m : ℕ) → n ≤ m → (l : ReadRows) → RowsBelow n l → RowsBelow m l
rows_more n m l v h =
    record {
      row = All-weaker (MemberBelow n) (MemberBelow m) (member_more n m l) v.row.items h.row;
      rest = All-weaker (λ k. k < n) (λ k. k < m) (λ k g. omega arith) v.rest.items h.rest;
      tail = tail_more n m l v.tail h.tail;
    }

pub pending_more : (n m : ℕ) → n ≤ m → (p : Pending) → PendingBelow n p → PendingBelow m p
pending_more n m l p h =
    record {
      inner = rows_more n m l p.inner h.inner;
      outer = All-weaker (RowsBelow n) (RowsBelow m)
          (rows_more n m l) p.outer.items h.outer;
    }

pub popped_some : (before after : Pending) (rows : ReadRows) → before.outer.items ≡ after.outer.items ++ rows ∷ []
    → after.inner ≡ rows → Popped before after
popped_some before after rows e f =
    let turned = ap reverse e ∙ reverse-append after.outer.items (rows ∷ []) in
    record {
      inner = λ v. ap (rows_in v) f ∙ sym (ap (first_rows v) turned);
      outer = sym (ap (drop 1) turned);
      below = λ n h. let parts = All-pop (RowsBelow n) before.outer.items after.outer.items (Some rows) e h.outer in
          record { inner = subst (λ (l : ReadRows). RowsBelow n l) (sym f) parts.1; outer = parts.0 };
    }

pub reads_none : (v : View) (names : ListNames) (p : Pending) → rows_in v p.inner ≡ Some nothing_read → p.outer.items ≡ []
    → Reads v names p no_layers
reads_none v names p e f = record { inner = e; outer = ap (λ ls. map (rows_in v) (reverse ls)) f }

-- the roles from a place on begin with the role there
pub roles_back : (v : View) (ms : List Role) (i : ℕ) (m : Role) → 0 < i → i ≤ length ms → m ≡ get_or ms (i - 1) m →
    with_role v m (with_roles v (drop i ms) no_layers) ≡ with_roles v (drop (i - 1) ms) no_layers
roles_back v ms i m some inside is =
    let within : i - 1 < length ms = omega arith in
    let next : suc (i - 1) ≡ i = omega arith in
    ap (λ k. with_role v m (with_roles v (drop k ms) no_layers)) (sym next)
    ∙ ap (λ n. with_role v n (with_roles v (drop (suc (i - 1)) ms) no_layers)) is
    ∙ sym (ap (λ ns. with_roles v ns no_layers) (drop-cons ms (i - 1) m within))
