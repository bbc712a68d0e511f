-- Rows, and the terms behind them, while nodes are added.
use Rattle.std.proofs.Common.{◌≡◌, ℕ, ◌<◌, zero, suc, List, [], ◌∷◌, ◌++◌, Option, Some, None, length, take, map, refl, ap, sym, ◌∙◌, arith}
use Rattle.std.specs.Prelude.{All, reverse, pos}
use Rattle.std.specs.Option.{option_map, IfSome}
use Rattle.op_logic.specs.Term.{Term, int, node, arg, rename, rename_args}
use Rattle.op_logic.specs.Names.{name_at, named}
use Rattle.op_term.specs.Places.{term_at, args_at}
use Rattle.op_reader.specs.declared.member.Member.{Member as DeclaredMember}
use Rattle.op_reader.specs.declared.member.Member.TheVariants.{Operand, Operator as AnOperator}
use Rattle.op_reader.specs.Row.{operand, tree}
use Rattle.op_reader.specs.inner.RoleLists.{View, node_in}
use Rattle.op_reader.specs.inner.Members.{member_at, MemberBelow}
use Rattle.op_reader.specs.inner.ReadRows.{Extends, member_in}
use Rattle.op_reader.proofs.RowNames.{member_renamed, tree_renamed}
use Rattle.op_reader.proofs.ShownNodes.{term_later, kept_kept, kept_new, new_below, named_list}
use Rattle.std.proofs.lemmas.List.{reverse-append}
use Rattle.std.proofs.Math.Seq.{get_or-append_seam}
use Rattle.op_reader.specs.Words.{list_of}
use Rattle.op_reader.specs.Terms.{args_of}

pub node_seen : (v : View) (ts : List (Term ℕ)) (n : ℕ) → Extends v ts → n < length ts → node_in v n ≡ named v.names (term_at ts n)
node_seen v ts n k h = ap (named v.names) (term_later ts v.terms n k h)

member_seen : (v : View) (ts : List (Term ℕ)) (p : DeclaredMember) → Extends v ts → MemberBelow (length ts) p
    → member_renamed (name_at v.names) (member_at ts p) ≡ member_in v p
member_seen v ts (Operand n) k h = ap operand (sym (node_seen v ts n k h))
member_seen v ts (AnOperator o) k h = refl

pub members_seen : (v : View) (ts : List (Term ℕ)) (ps : List DeclaredMember) → Extends v ts → All (MemberBelow (length ts)) ps →
    map (member_renamed (name_at v.names)) (map (member_at ts) ps) ≡ map (member_in v) ps
members_seen v ts [] k h = refl
members_seen v ts (p ∷ ps) k h =
    ap (λ q. q ∷ map (member_renamed (name_at v.names)) (map (member_at ts) ps)) (member_seen v ts p k (h zero p (omega arith)))
    ∙ ap (λ qs. member_in v p ∷ qs) (members_seen v ts ps k (λ i d lt. h (suc i) d (omega arith)))

found_seen : (v : View) (ts : List (Term ℕ)) (o : Option ℕ) → Extends v ts → IfSome o (λ n. n < length ts)
    → option_map (rename (name_at v.names)) (option_map (term_at ts) o) ≡ option_map (node_in v) o
found_seen v ts None k h = refl
found_seen v ts (Some n) k h = ap Some (sym (node_seen v ts n k h))

pub tree_seen : (v : View) (ts us : List (Term ℕ)) (ps : List DeclaredMember) (bound : ℕ) (found : Option ℕ) → Extends v us
    → take (length ts) us ≡ ts →
    All (MemberBelow (length ts)) ps → IfSome found (λ n. n < length us)
    → tree bound (map (member_at ts) ps) ≡ option_map (term_at us) found →
    tree bound (map (member_in v) ps) ≡ option_map (node_in v) found
tree_seen v ts us ps bound found k l below there is =
    let before : Extends v ts = kept_kept ts us v.terms l k in
    ap (tree bound) (sym (members_seen v ts ps before below))
    ∙ tree_renamed (name_at v.names) bound (map (member_at ts) ps)
    ∙ ap (option_map (rename (name_at v.names))) is
    ∙ found_seen v us found k there

pub args_seen : (v : View) (ts : List (Term ℕ)) (ns : List ℕ) → Extends v ts → All (λ n. n < length ts) ns
    → rename_args (name_at v.names) (args_at ts ns) ≡ args_of (map (node_in v) ns)
args_seen v ts [] k h = refl
args_seen v ts (n ∷ ns) k h =
    ap (λ t. arg t (rename_args (name_at v.names) (args_at ts ns))) (sym (node_seen v ts n k (h zero n (omega arith))))
    ∙ ap (arg (node_in v n)) (args_seen v ts ns k (λ i d lt. h (suc i) d (omega arith)))

pub nodes_seen : (v : View) (ts : List (Term ℕ)) (ns : List ℕ) → Extends v ts → All (λ n. n < length ts) ns
    → map (named v.names) (map (term_at ts) ns) ≡ map (node_in v) ns
nodes_seen v ts [] k h = refl
nodes_seen v ts (n ∷ ns) k h =
    ap (λ t. t ∷ map (named v.names) (map (term_at ts) ns)) (sym (node_seen v ts n k (h zero n (omega arith))))
    ∙ ap (λ us. node_in v n ∷ us) (nodes_seen v ts ns k (λ i d lt. h (suc i) d (omega arith)))

-- what was held from its end, with one more
pub turned : (rest pushed parts : List ℕ) (first : ℕ) → pushed ≡ rest ++ first ∷ [] → parts ≡ reverse pushed → parts ≡ first ∷ reverse rest
turned rest pushed parts first e f = f ∙ ap reverse e ∙ reverse-append rest (first ∷ [])

pub compound_seen : (v : View) (ts new : List (Term ℕ)) (f n : ℕ) (parts : List ℕ) → Extends v new → All (λ m. m < length ts) parts →
    new ≡ ts ++ node f (args_at ts parts) ∷ [] → n ≡ length ts → node_in v n ≡ node (name_at v.names f) (args_of (map (node_in v) parts))
compound_seen v ts new f n parts k h made last =
    let before : Extends v ts = kept_kept ts new v.terms (kept_new ts new _ made) k in
    node_seen v new n k (new_below ts new _ n made last)
    ∙ ap (λ us. named v.names (term_at us n)) made
    ∙ ap (λ m. named v.names (term_at (ts ++ node f (args_at ts parts) ∷ []) m)) last
    ∙ ap (named v.names) (get_or-append_seam ts (node f (args_at ts parts)) [] (int (pos 0)))
    ∙ ap (node (name_at v.names f)) (args_seen v ts parts before h)

pub list_seen : (v : View) (ts new : List (Term ℕ)) (dot end n : ℕ) (parts : List ℕ) → Extends v new → take (length ts) new ≡ ts
    → n < length new → end < length ts →
    All (λ m. m < length ts) parts → term_at new n ≡ list_of dot (term_at ts end) (map (term_at ts) parts) →
    node_in v n ≡ list_of (name_at v.names dot) (node_in v end) (map (node_in v) parts)
list_seen v ts new dot end n parts k l there ended h made =
    let before : Extends v ts = kept_kept ts new v.terms l k in
    node_seen v new n k there ∙ ap (named v.names) made
    ∙ named_list v.names dot (term_at ts end) (map (term_at ts) parts)
    ∙ ap (λ t. list_of (name_at v.names dot) t (map (named v.names) (map (term_at ts) parts))) (sym (node_seen v ts end before ended))
    ∙ ap (list_of (name_at v.names dot) (node_in v end)) (nodes_seen v ts parts before h)
