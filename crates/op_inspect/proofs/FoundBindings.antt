-- Unification adds bindings, and drops none.
use Rattle.std.proofs.Common.{ℕ, zero, suc, ◌+◌, ◌-◌, ◌==◌, ◌++◌, nat_le, Bool, true, false, [], ◌∷◌, Option, Some, None}
use Rattle.std.proofs.Common.{max, min}
use Rattle.std.proofs.Common.{refl, sym, ap, ◌∙◌, append_assoc, if◌then◌else◌}
use Rattle.op_logic.specs.Term.{Term, var, int, node, args_of, occurs, size}
use Rattle.op_logic.specs.Bind.{Bindings, apply, follow, Pairs, Reduction, clash, goes, zip_args, bind_reduction, same_head}
use Rattle.op_logic.specs.Bind.{meet, reduction, Solved, add_steps, after, solve, within, unify}
use Rattle.op_trace.specs.Database.{Text, text_eq}
use Rattle.op_inspect.specs.ActRules.{Extends}

pub extends-self : (σ : Bindings Text) → Extends σ σ
extends-self σ = record { newer = []; is = refl }

extends-one : (σ : Bindings Text) (p : ℕ × Term Text) → Extends σ (p ∷ σ)
extends-one σ p = record { newer = p ∷ []; is = refl }

extends-extends : (a b c : Bindings Text) → Extends a b → Extends b c → Extends a c
extends-extends a b c h k = record {
  newer = k.newer ++ h.newer;
  is = k.is ∙ (ap (λ (x : Bindings Text). k.newer ++ x) h.is ∙ sym (append_assoc k.newer h.newer a));
}

abbrev Reduces : Bindings Text → Reduction Text → Type 0
Reduces σ (clash c) = Unit {0}
Reduces σ (goes τ ps c) = Extends σ τ

abbrev pub Finds : Bindings Text → Option (Bindings Text) → Type 0
Finds σ None = Unit {0}
Finds σ (Some τ) = Extends σ τ

abbrev pub Solves : Bindings Text → Option (Solved Text) → Type 0
Solves σ None = Unit {0}
Solves σ (Some r) = Finds σ r.0

by-if : (σ : Bindings Text) (b : Bool) (x y : Reduction Text) → Reduces σ x → Reduces σ y → Reduces σ (if b then x else y)
by-if σ true x y h k = h
by-if σ false x y h k = k

bind-reduces : (v : ℕ) (t : Term Text) (σ : Bindings Text) (ps : Pairs Text) → Reduces σ (bind_reduction v t σ ps)
bind-reduces v t σ ps =
    let s : Term Text = apply σ t in
    by-if σ (occurs v s) (clash (1 + size s)) (goes ((v, t) ∷ σ) ps (1 + size s)) tt (extends-one σ (v, t))

same-reduces : (t u : Term Text) (σ : Bindings Text) (ps : Pairs Text)
    → Reduces σ (if same_head text_eq t u then goes σ (zip_args (args_of t) (args_of u) ps) 1 else clash 1)
same-reduces t u σ ps =
    by-if σ (same_head text_eq t u) (goes σ (zip_args (args_of t) (args_of u) ps) 1) (clash 1) (extends-self σ) tt

meet-reduces : (t u : Term Text) (σ : Bindings Text) (ps : Pairs Text) → Reduces σ (meet text_eq t u σ ps)
meet-reduces (var v) (var w) σ ps =
    by-if σ (v == w) (goes σ ps 1) (bind_reduction (max v w) (var (min v w)) σ ps) (extends-self σ)
    (bind-reduces (max v w) (var (min v w)) σ ps)
meet-reduces (var v) (int j) σ ps = bind-reduces v (int j) σ ps
meet-reduces (var v) (node g us) σ ps = bind-reduces v (node g us) σ ps
meet-reduces (int i) (var w) σ ps = bind-reduces w (int i) σ ps
meet-reduces (node f ts) (var w) σ ps = bind-reduces w (node f ts) σ ps
meet-reduces (int i) (int j) σ ps = same-reduces (int i) (int j) σ ps
meet-reduces (int i) (node g us) σ ps = same-reduces (int i) (node g us) σ ps
meet-reduces (node f ts) (int j) σ ps = same-reduces (node f ts) (int j) σ ps
meet-reduces (node f ts) (node g us) σ ps = same-reduces (node f ts) (node g us) σ ps

finds-on : (σ τ : Bindings Text) (o : Option (Bindings Text)) → Extends σ τ → Finds τ o → Finds σ o
finds-on σ τ None h k = tt
finds-on σ τ (Some υ) h k = extends-extends σ τ υ h k

add-solves : (σ τ : Bindings Text) (c : ℕ) (r : Option (Solved Text)) → Extends σ τ → Solves τ r → Solves σ (add_steps c r)
add-solves σ τ c None h k = tt
add-solves σ τ c (Some r) h k = finds-on σ τ r.0 h k

after-solves : (σ : Bindings Text) (t : Reduction Text) (rest : Bindings Text → Pairs Text → Option (Solved Text)) → Reduces σ t
    → ((τ : Bindings Text) (ps : Pairs Text) → Solves τ (rest τ ps)) → Solves σ (after t rest)
after-solves σ (clash c) rest h k = tt
after-solves σ (goes τ ps c) rest h k = add-solves σ τ c (rest τ ps) h (k τ ps)

solve-solves : (k : ℕ) (σ : Bindings Text) (ps : Pairs Text) → Solves σ (solve text_eq k σ ps)
solve-solves k σ [] = extends-self σ
solve-solves zero σ (p ∷ ps) = tt
solve-solves (suc k) σ (p ∷ ps) =
    after-solves σ (reduction text_eq σ p.0 p.1 ps) (λ τ qs. solve text_eq k τ qs)
    (meet-reduces (follow σ p.0) (follow σ p.1) σ ps) (λ τ qs. solve-solves k τ qs)

within-solves : (σ : Bindings Text) (left : ℕ) (r : Option (Solved Text)) → Solves σ r → Solves σ (within left r)
within-solves σ left None h = tt
within-solves σ left (Some r) h = go (nat_le r.1 left)
  where
    go : (b : Bool) → Solves σ (if b then Some (r.0, left - r.1) else None)
    go true = h
    go false = tt

pub unify-solves : (left : ℕ) (σ : Bindings Text) (ps : Pairs Text) → Solves σ (unify text_eq left σ ps)
unify-solves left σ ps = within-solves σ left (solve text_eq left σ ps) (solve-solves left σ ps)
