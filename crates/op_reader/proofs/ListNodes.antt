-- A list that is built from its end.
use Rattle.std.proofs.Common.{◌≡◌, ℕ, ◌<◌, ◌≤◌, ◌-◌, suc, List, [], ◌∷◌, ◌++◌, length, take, drop, ap, sym, ◌∙◌, get_or, arith}
use Rattle.std.specs.Prelude.{pos, map, All}
use Rattle.std.proofs.Math.Seq.{drop-cons, get_or-append_seam}
use Rattle.op_logic.specs.Term.{Term, int, node, no_args, arg}
use Rattle.op_term.specs.Places.{term_at, args_at}
use Rattle.op_reader.specs.Words.{list_of}
use Rattle.op_reader.proofs.ShownNodes.{term_later}

pub list_further : (old nodes new : List (Term ℕ)) (dot list i n : ℕ) (es : List ℕ) (end : Term ℕ) → 0 < i → i ≤ length es →
    All (λ e. e < length old) es → take (length old) nodes ≡ old →
    term_at nodes list ≡ list_of dot end (map (term_at old) (drop i es)) →
    new ≡ nodes ++ node dot (args_at nodes (get_or es (i - 1) 0 ∷ list ∷ [])) ∷ [] → n ≡ length nodes →
    term_at new n ≡ list_of dot end (map (term_at old) (drop (i - 1) es))
list_further old nodes new dot list i n es end some inside there kept so_far made last =
    let j = i - 1 in
    let within : j < length es = omega arith in
    let next : suc j ≡ i = omega arith in
    let first : term_at nodes (get_or es j 0) ≡ term_at old (get_or es j 0) =
    term_later old nodes (get_or es j 0) kept (there j 0 within) in
    ap (λ ts. term_at ts n) made
    ∙ ap (term_at (nodes ++ node dot (args_at nodes (get_or es j 0 ∷ list ∷ [])) ∷ [])) last
    ∙ get_or-append_seam nodes (node dot (args_at nodes (get_or es j 0 ∷ list ∷ []))) [] (int (pos 0))
    ∙ ap (λ t. node dot (arg t (arg (term_at nodes list) no_args))) first
    ∙ ap (λ t. node dot (arg (term_at old (get_or es j 0)) (arg t no_args))) (so_far
    ∙ ap (λ k. list_of dot end (map (term_at old) (drop k es))) (sym next))
    ∙ ap (λ us. list_of dot end (map (term_at old) us)) (sym (drop-cons es j 0 within))
