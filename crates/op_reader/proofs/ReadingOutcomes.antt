-- What roles, words and tokens come to.
use Rattle.std.proofs.Common.{◌≡◌, ℕ, ◌<◌, ◌+◌, ◌-◌, zero, suc, List, [], ◌∷◌, ◌++◌, replicate, Option, Some, None, length, take, refl, ap}
use Rattle.std.proofs.Common.{sym, ◌∙◌, arith}
use Rattle.std.specs.Prelude.{All, Result, Ok, Err, IfOk}
use Rattle.std.proofs.lemmas.List.{length-append, length-replicate, get_or-replicate}
use Rattle.std.proofs.Math.Seq.{get_or-append_right}
use Rattle.op_logic.specs.Term.{Term, var, int, node, Args, no_args, arg, rename_args}
use Rattle.op_logic.specs.Names.{name_at, named, HasNames, ArgsHaveNames}
use Rattle.op_logic.proofs.NameTables.{name_at-below, name_at-past}
use Rattle.op_logic.proofs.BoolCases.{by_order}
use Rattle.op_token.specs.declared.token.TokenFaultKind.TheVariants.{NumberRange}
use Rattle.op_reader.specs.declared.fault.ReadFaultKind.TheVariants.{Token as BadToken, NoOperand, Priority}
use Rattle.op_reader.specs.declared.read_rows.ListNames.{ListNames}
use Rattle.op_reader.specs.declared.role.Role.{Role}
use Rattle.op_reader.specs.declared.role.Role.TheVariants.{Separator, Tail, Operator, Operand, Excess, Compound, Bracketed, Closed}
use Rattle.op_reader.specs.Roles.{Rows, operand, clause_roles}
use Rattle.op_reader.specs.Words.{Word}
use Rattle.op_reader.specs.declared.fault.ReadFault.{ReadFault}
use Rattle.op_reader.specs.declared.term_reader.Reading.{Reading}
use Rattle.op_reader.specs.declared.term_reader.Reading.TheVariants.{Term as ATerm, End}
use Rattle.op_reader.specs.Terms.{Known, known, term_of, first_of, excess_in}
use Rattle.op_reader.specs.Reading.{Outcome, term, refused, refused_or, rows_outcome, words_outcome}
use Rattle.op_reader.specs.inner.RoleLists.{View, view, Layers, on_inner, with_role, with_roles, no_layers, rows_of, first_excess}
use Rattle.op_reader.specs.inner.RoleLists.{RoleBelow}
use Rattle.op_reader.specs.inner.ReadRows.{known_in}
use Rattle.op_reader.specs.Passes.{AreListNames, Tells, HasKnownNames}
use Rattle.op_reader.proofs.ShownNodes.{term_later}

role_kept : (table : List (List ℕ)) (ts us : List (Term ℕ)) (m : Role) (l : Layers) → take (length ts) us ≡ ts → RoleBelow (length ts) m →
    with_role (view table us) m l ≡ with_role (view table ts) m l
role_kept table ts us (Operand n) l k h = ap (λ t. on_inner (operand (named table t)) l) (term_later ts us n k h)
role_kept table ts us Separator l k h = refl
role_kept table ts us Tail l k h = refl
role_kept table ts us (Operator o) l k h = refl
role_kept table ts us (Excess place) l k h = refl
role_kept table ts us (Compound f) l k h = refl
role_kept table ts us (Bracketed b) l k h = refl
role_kept table ts us Closed l k h = refl

pub roles_kept : (table : List (List ℕ)) (ts us : List (Term ℕ)) (ms : List Role) (l : Layers) → take (length ts) us ≡ ts
    → All (RoleBelow (length ts)) ms →
    with_roles (view table us) ms l ≡ with_roles (view table ts) ms l
roles_kept table ts us [] l k h = refl
roles_kept table ts us (m ∷ ms) l k h =
    role_kept table ts us m (with_roles (view table us) ms l) k (h zero m (omega arith))
    ∙ ap (with_role (view table ts) m) (roles_kept table ts us ms l k (λ i d lt. h (suc i) d (omega arith)))

-- the names of lists
abbrev record_of : List ℕ → List ℕ → List ℕ → Known (List ℕ)
record_of a b c = record { dot = a; nil = b; braces = c }

known_same : (a b c x y z : List ℕ) → a ≡ x → b ≡ y → c ≡ z → record_of a b c ≡ record_of x y z
known_same a b c x y z e f g = ap (λ u. record_of u b c) e ∙ ap (λ u. record_of x u c) f ∙ ap (λ u. record_of x y u) g

pub roles_term : (table : List (List ℕ)) (ts us : List (Term ℕ)) (k : ListNames) (ms : List Role) (o : Option (Term (List ℕ)))
    → AreListNames table k →
    take (length ts) us ≡ ts → All (RoleBelow (length ts)) ms → term_of (known_in (view table us) k) (rows_of (view table us) ms) ≡ o →
    term_of known (rows_of (view table ts) ms) ≡ o
roles_term table ts us k ms o n kept below h =
    ap (λ r. term_of known r) (ap (λ (l : Layers). l.inner) (sym (roles_kept table ts us ms no_layers kept below)))
    ∙ ap (λ q. term_of q (rows_of (view table us) ms)) (sym (known_same _ _ _ _ _ _ n.dot n.nil n.braces))
    ∙ h

-- the first integer that is too great
first_none : (o : Option ℕ) → first_of o None ≡ o
first_none None = refl
first_none (Some n) = refl

first_first : (x y z : Option ℕ) → first_of (first_of x y) z ≡ first_of x (first_of y z)
first_first None y z = refl
first_first (Some n) y z = refl

abbrev outer_excess : List (Rows (List ℕ)) → Option ℕ
outer_excess [] = None
outer_excess (r ∷ rs) = first_of (excess_in r) (outer_excess rs)

abbrev all_excess : Rows (List ℕ) → List (Rows (List ℕ)) → Option ℕ
all_excess r rs = first_of (excess_in r) (outer_excess rs)

abbrev role_excess : Role → Option ℕ
role_excess (Excess place) = Some place
role_excess m = None

excess_step : (v : View) (m : Role) (r : Rows (List ℕ)) (rs : List (Rows (List ℕ))) →
    (let l = with_role v m (record { inner = r; outer = rs }) in all_excess l.inner l.outer) ≡ first_of (role_excess m) (all_excess r rs)
excess_step v Separator r rs = refl
excess_step v Tail r rs = refl
excess_step v (Operator o) r rs = refl
excess_step v (Operand n) r rs = refl
excess_step v (Excess place) r rs = refl
excess_step v (Compound f) r [] = first_none (first_of (excess_in r) None)
excess_step v (Compound f) r (o ∷ os) = first_first (excess_in r) (excess_in o) (outer_excess os)
excess_step v (Bracketed b) r [] = first_none (first_of (excess_in r) None)
excess_step v (Bracketed b) r (o ∷ os) = first_first (excess_in r) (excess_in o) (outer_excess os)
excess_step v Closed r rs = refl

first_step : (m : Role) (ms : List Role) → first_excess (m ∷ ms) ≡ first_of (role_excess m) (first_excess ms)
first_step Separator ms = refl
first_step Tail ms = refl
first_step (Operator o) ms = refl
first_step (Operand n) ms = refl
first_step (Excess place) ms = refl
first_step (Compound f) ms = refl
first_step (Bracketed b) ms = refl
first_step Closed ms = refl

excess_roles : (v : View) (ms : List Role) → (let l = with_roles v ms no_layers in all_excess l.inner l.outer) ≡ first_excess ms
excess_roles v [] = refl
excess_roles v (m ∷ ms) =
    let l = with_roles v ms no_layers in
    excess_step v m l.inner l.outer ∙ ap (first_of (role_excess m)) (excess_roles v ms) ∙ sym (first_step m ms)

pub excess_of : (v : View) (ms : List Role) → (with_roles v ms no_layers).outer ≡ [] → excess_in (rows_of v ms) ≡ first_excess ms
excess_of v ms h =
    let l = with_roles v ms no_layers in
    sym (first_none (excess_in l.inner)) ∙ ap (λ rs. all_excess l.inner rs) (sym h) ∙ excess_roles v ms

-- the outcome of rows
pub without_tree : (place used : ℕ) (names : List (List ℕ × ℕ)) (rows : Rows (List ℕ)) → term_of known rows ≡ None
    → rows_outcome place names used rows ≡ refused place Priority
without_tree place used names rows h =
    ap (λ o. elim o [ None ↦ refused place Priority | Some t ↦ refused_or (BadToken NumberRange) (excess_in rows) (term t names used) ]) h

with_tree : (place used : ℕ) (names : List (List ℕ × ℕ)) (rows : Rows (List ℕ)) (t : Term (List ℕ)) (o : Option ℕ)
    → term_of known rows ≡ Some t → excess_in rows ≡ o →
    rows_outcome place names used rows ≡ refused_or (BadToken NumberRange) o (term t names used)
with_tree place used names rows t o h e =
    ap (λ o. elim o [ None ↦ refused place Priority | Some t ↦ refused_or (BadToken NumberRange) (excess_in rows) (term t names used) ]) h
    ∙ ap (λ o. refused_or (BadToken NumberRange) o (term t names used)) e

pub too_great : (place used at : ℕ) (names : List (List ℕ × ℕ)) (rows : Rows (List ℕ)) (t : Term (List ℕ)) → term_of known rows ≡ Some t
    → excess_in rows ≡ Some at →
    rows_outcome place names used rows ≡ refused at (BadToken NumberRange)
too_great place used at names rows t h e = with_tree place used names rows t (Some at) h e

pub a_term : (place used : ℕ) (names : List (List ℕ × ℕ)) (rows : Rows (List ℕ)) (t : Term (List ℕ)) → term_of known rows ≡ Some t
    → excess_in rows ≡ None →
    rows_outcome place names used rows ≡ term t names used
a_term place used names rows t h e = with_tree place used names rows t None h e

-- the outcome of words
pub misplaced_word : (place stop used at : ℕ) (names : List (List ℕ × ℕ)) (ws : List (Word (List ℕ))) → clause_roles stop ws ≡ Err at →
    words_outcome place names stop used ws ≡ refused at NoOperand
misplaced_word place stop used at names ws h =
    ap (λ r. elim r [ Err at ↦ refused at NoOperand | Ok rows ↦ rows_outcome place names used rows ]) h

pub placed_words : (place stop used : ℕ) (names : List (List ℕ × ℕ)) (ws : List (Word (List ℕ))) (rows : Rows (List ℕ))
    → clause_roles stop ws ≡ Ok rows →
    words_outcome place names stop used ws ≡ rows_outcome place names used rows
placed_words place stop used names ws rows h =
    ap (λ r. elim r [ Err at ↦ refused at NoOperand | Ok rows ↦ rows_outcome place names used rows ]) h

-- the names of a term that is the same under each greater table are in the table
longer_name : (names : List (List ℕ)) (f : ℕ) → ((more : List (List ℕ)) → name_at names f ≡ name_at (names ++ more) f) → f < length names
longer_name names f h =
    by_order f (length names) (λ e. e)
    (λ past. absurd (
    let more : List (List ℕ) = replicate (suc f) [] in
    let l : length (names ++ more) ≡ length names + suc f = length-append names more
    ∙ ap (λ n. length names + n) (length-replicate (suc f) []) in
    let below : f < length (names ++ more) = omega arith in
    let less : f - length names < suc f = omega arith in
    let found : (256 + f) ∷ [] ≡ [] =
    sym (name_at-past names f past) ∙ h more ∙ name_at-below (names ++ more) f below ∙ get_or-append_right names more f [] past
    ∙ get_or-replicate (suc f) (f - length names) [] [] less in
    cc))

mutual
  pub names_known : (names : List (List ℕ)) (t : Term ℕ) → ((more : List (List ℕ)) → named names t ≡ named (names ++ more) t)
      → HasNames (length names) t
  names_known names (var v) h = tt
  names_known names (int i) h = tt
  names_known names (node f ts) h = (
    longer_name names f (λ more.
        let k : node (name_at names f) (rename_args (name_at names) ts) ≡ node (name_at (names ++ more) f)
        (rename_args (name_at (names ++ more)) ts) = h more in cc),
    args_known names ts (λ more.
        let k : node (name_at names f) (rename_args (name_at names) ts) ≡ node (name_at (names ++ more) f)
        (rename_args (name_at (names ++ more)) ts) = h more in cc),
  )

  args_known : (names : List (List ℕ)) (ts : Args ℕ)
      → ((more : List (List ℕ)) → rename_args (name_at names) ts ≡ rename_args (name_at (names ++ more)) ts)
      → ArgsHaveNames (length names) ts
  args_known names no_args h = tt
  args_known names (arg t ts) h = (
    names_known names t (λ more.
        let k : arg (named names t) (rename_args (name_at names) ts) ≡ arg (named (names ++ more) t)
        (rename_args (name_at (names ++ more)) ts) = h more in cc),
    args_known names ts (λ more.
        let k : arg (named names t) (rename_args (name_at names) ts) ≡ arg (named (names ++ more) t)
        (rename_args (name_at (names ++ more)) ts) = h more in cc),
  )

-- a reading that tells the same over each greater table
pub reading_known : (names : List (List ℕ)) (r : Result Reading ReadFault) (o : Outcome)
    → ((more : List (List ℕ)) → Tells (names ++ more) r o) → Tells names r o → IfOk r (HasKnownNames (length names))
reading_known names (Ok (ATerm r)) o h g =
    names_known names r.term (λ more.
    let k : term (named names r.term) r.names r.used ≡ term (named (names ++ more) r.term) r.names r.used = sym g ∙ h more in cc)
reading_known names (Ok End) o h g = tt
reading_known names (Err e) o h g = tt
