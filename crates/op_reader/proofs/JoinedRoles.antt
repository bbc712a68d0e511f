-- Roles that join on the right.
use Rattle.std.proofs.Common.{◌≡◌, ◌∙◌, ◌<◌, ◌≤◌, ◌+◌, suc, sym, ap, List, [], ◌∷◌, ◌++◌, refl, ℕ, drop, length, get_or, add-one}
use Rattle.std.proofs.Math.Seq.{drop-cons}
use Rattle.std.proofs.Math.ListN.{drop_of_length-le}
use Rattle.std.specs.Prelude.{Result, Ok, Err, reverse, map}
use Rattle.op_reader.specs.declared.role.Role.{Role}
use Rattle.op_reader.specs.declared.word.Word.{Word as DeclaredWord}
use Rattle.op_reader.specs.declared.row_kind.RowKind.TheVariants.{Clause}
use Rattle.op_reader.specs.declared.roles.Spot.{Spot}
use Rattle.op_reader.specs.declared.roles.Roles.{Roles}
use Rattle.op_reader.specs.declared.roles.Roles.TheVariants.{Given, Refused as RolesRefused}
use Rattle.op_reader.specs.Words.{Word}
use Rattle.op_reader.specs.Roles.{Levels, level, levels_of, with_word, none, Rows, an_operand, an_operator, roles, clause_roles}
use Rattle.op_reader.specs.inner.RoleLists.{View, Layers, word_in, with_role, with_roles, no_layers, rows_of, on_layers, beside}
use Rattle.op_reader.specs.inner.RoleLists.{outer_roles, IsLeft, IsEnded, HasRoles, outermost, roles_left, left_at, expected_in}

pub with_roles_append : (v : View) (ms : List Role) (m : Role) (l : Layers) →
    with_roles v ms (with_role v m l) ≡ with_roles v (ms ++ m ∷ []) l
with_roles_append v [] m l = refl
with_roles_append v (n ∷ ms) m l = ap (with_role v n) (with_roles_append v ms m l)

pub roles_more : (v : View) (ms ns : List Role) (m : Role) (r : Result Layers ℕ) → ns ≡ ms ++ m ∷ [] →
    on_layers (with_roles v ms) (on_layers (with_role v m) r) ≡ on_layers (with_roles v ns) r
roles_more v ms ns m (Err place) e = refl
roles_more v ms ns m (Ok l) e = ap Ok (with_roles_append v ms m l ∙ ap (λ ks. with_roles v ks l) (sym e))

pub left_behind : (v : View) (before after : Spot) (l : Levels (List ℕ)) → IsLeft before after →
    roles_left (outermost (reverse before.outer.items)) (drop 1 (reverse before.outer.items)) an_operator l ≡ left_at v after l
left_behind v before after l h =
    ap (λ c. roles_left c (drop 1 (reverse before.outer.items)) an_operator l) (sym h.kind)
    ∙ ap (λ cs. roles_left after.kind cs an_operator l) (sym h.outer)
    ∙ ap (λ e. roles_left after.kind (reverse after.outer.items) (expected_in v e) l) (sym h.expected)

-- the roles of a clause, where no closing bracket is without a partner
alone_err : (r : Result (Rows (List ℕ)) ℕ) (place : ℕ) → beside r (Ok []) ≡ Err place → r ≡ Err place
alone_err (Ok r) place h = cc
alone_err (Err p) place h = cc

alone_ok : (r : Result (Rows (List ℕ)) ℕ) (l : Layers) → beside r (Ok []) ≡ Ok l → r ≡ Ok l.inner
alone_ok (Ok r) l h = cc
alone_ok (Err p) l h = cc

alone_outer : (r : Result (Rows (List ℕ)) ℕ) (l : Layers) → beside r (Ok []) ≡ Ok l → l.outer ≡ []
alone_outer (Ok r) l h = cc
alone_outer (Err p) l h = cc

pub whole_err : (stop : ℕ) (ws : List (Word (List ℕ))) (place : ℕ) → (levels_of stop ws).outer ≡ [] →
    roles_left Clause [] an_operand (levels_of stop ws) ≡ Err place → clause_roles stop ws ≡ Err place
whole_err stop ws place e h =
    let l = levels_of stop ws in
    alone_err (roles Clause an_operand l.inner.parts l.inner.stop) place
    (ap (λ ls. beside (roles Clause an_operand l.inner.parts l.inner.stop) (outer_roles [] ls)) (sym e) ∙ h)

pub whole_ok : (stop : ℕ) (ws : List (Word (List ℕ))) (layers : Layers) → (levels_of stop ws).outer ≡ [] →
    roles_left Clause [] an_operand (levels_of stop ws) ≡ Ok layers → clause_roles stop ws ≡ Ok layers.inner
whole_ok stop ws layers e h =
    let l = levels_of stop ws in
    alone_ok (roles Clause an_operand l.inner.parts l.inner.stop) layers
    (ap (λ ls. beside (roles Clause an_operand l.inner.parts l.inner.stop) (outer_roles [] ls)) (sym e) ∙ h)

pub whole_outer : (stop : ℕ) (ws : List (Word (List ℕ))) (layers : Layers) → (levels_of stop ws).outer ≡ [] →
    roles_left Clause [] an_operand (levels_of stop ws) ≡ Ok layers → layers.outer ≡ []
whole_outer stop ws layers e h =
    let l = levels_of stop ws in
    alone_outer (roles Clause an_operand l.inner.parts l.inner.stop) layers
    (ap (λ ls. beside (roles Clause an_operand l.inner.parts l.inner.stop) (outer_roles [] ls)) (sym e) ∙ h)

-- the words from a place on begin with the word there
pub first_left : (v : View) (stop : ℕ) (ws : List DeclaredWord) (i : ℕ) (w : DeclaredWord) → i < length ws → w ≡ get_or ws i w →
    levels_of stop (map (word_in v) (drop i ws)) ≡ with_word (word_in v w) (levels_of stop (map (word_in v) (drop (i + 1) ws)))
first_left v stop ws i w h e =
    ap (λ us. levels_of stop (map (word_in v) us)) (drop-cons ws i w h)
    ∙ ap (λ u. with_word (word_in v u) (levels_of stop (map (word_in v) (drop (suc i) ws)))) (sym e)
    ∙ ap (λ n. with_word (word_in v w) (levels_of stop (map (word_in v) (drop n ws)))) (sym (add-one i))

-- a word that can't stand where it does
pub stopped : (v : View) (stop : ℕ) (ws : List DeclaredWord) (i : ℕ) (w : DeclaredWord) (ms : List Role) (spot : Spot)
    (whole : Result Layers ℕ) (place : ℕ) →
    i < length ws → w ≡ get_or ws i w → ((l : Levels (List ℕ)) → left_at v spot (with_word (word_in v w) l) ≡ Err place) →
    whole ≡ on_layers (with_roles v ms) (left_at v spot (levels_of stop (map (word_in v) (drop i ws)))) → whole ≡ Err place
stopped v stop ws i w ms spot whole place h e refused so_far =
    so_far
    ∙ ap (λ l. on_layers (with_roles v ms) (left_at v spot l)) (first_left v stop ws i w h e)
    ∙ ap (on_layers (with_roles v ms)) (refused (levels_of stop (map (word_in v) (drop (i + 1) ws))))

-- no words are left
pub none_left : (v : View) (stop : ℕ) (ws : List DeclaredWord) (i : ℕ) → length ws ≤ i →
    levels_of stop (map (word_in v) (drop i ws)) ≡ record { inner = level none stop; outer = [] }
none_left v stop ws i h = ap (λ us. levels_of stop (map (word_in v) us)) (drop_of_length-le ws h)

pub finished : (stop : ℕ) (ws : List DeclaredWord) (i : ℕ) (ms : List Role) (spot : Spot) (r : Roles) → length ws ≤ i →
    ((u : View) → roles_left Clause [] an_operand (levels_of stop (map (word_in u) ws)) ≡ on_layers (with_roles u ms)
    (left_at u spot (levels_of stop (map (word_in u) (drop i ws))))) →
    IsEnded spot.expected ms stop r → HasRoles stop ws r
finished stop ws i ms spot (Given ns) h so_far ended = λ v outer.
    let whole : roles_left Clause [] an_operand (levels_of stop (map (word_in v) ws)) ≡ Ok (with_roles v ms no_layers) =
    so_far v
    ∙ ap (λ l. on_layers (with_roles v ms) (left_at v spot l)) (none_left v stop ws i h)
    ∙ ap (λ e. on_layers (with_roles v ms) (beside (roles spot.kind (expected_in v e) none stop) (Ok []))) ended.0 in (
      whole_ok stop (map (word_in v) ws) (with_roles v ms no_layers) outer whole ∙ ap (λ ks. Ok (rows_of v ks)) (sym ended.1),
      ap (λ ks. (with_roles v ks no_layers).outer) ended.1 ∙ whole_outer stop (map (word_in v) ws) (with_roles v ms no_layers) outer whole,
    )
finished stop ws i ms spot (RolesRefused place) h so_far ended = λ v outer.
    whole_err stop (map (word_in v) ws) place outer
    (so_far v
    ∙ ap (λ l. on_layers (with_roles v ms) (left_at v spot l)) (none_left v stop ws i h)
    ∙ ap (λ r. on_layers (with_roles v ms) (beside r (Ok []))) (ended v spot.kind))
