-- Problems by outermost nodes are the errors by terms.
use Rattle.std.proofs.Common.{◌≡◌, ℕ, Bool, true, false, List, Option, Some, None, option_map, codes, refl, ap}
use Rattle.std.specs.Prelude.{if◌then◌else◌}
use Rattle.op_logic.specs.Term.{Term, var, int, node, no_args, arg}
use Rattle.op_logic.specs.Bind.{Bindings}
use Rattle.op_logic.specs.Names.{name_at, named, HasNames}
use Rattle.op_term.specs.declared.node.Node.{Node}
use Rattle.op_term.specs.declared.node.Node.TheVariants as nodes
use Rattle.op_term.specs.Head.{head}
use Rattle.op_term.specs.Places.{term_at}
use Rattle.op_bind.specs.State.{State}
use Rattle.op_trace.specs.Database.{Text}
use Rattle.op_trace.specs.World.{World}
use Rattle.op_trace.specs.Act.{Act}
use Rattle.op_trace.specs.Builtins.{type_error, throw}
use Rattle.op_inspect.specs.Errors.{domain_error}
use Rattle.op_inspect.specs.Answering.{refused_by}
use Rattle.op_inspect.specs.Comparison.{compare_error, is_order}
use Rattle.op_inspect.specs.Outcomes.{text_at, IsKnown}
use Rattle.op_inspect.specs.inner.Nodes.{HasItsName, compare_problem}
use Rattle.op_inspect.specs.inner.Problems.{problem_text, IsKnownProblem}
use Rattle.op_inspect.specs.declared.problem.Problem.{Problem}
use Rattle.op_inspect.specs.declared.problem.Problem.TheVariants.{NotInDomain}
use Rattle.op_inspect.specs.declared.problem.Domain.TheVariants as domains

module _ (names : List (List ℕ)) (s : State) where
  -- the ball of what the code found
  abbrev pub ball_of : Option Problem → Option (Term Text)
  ball_of p = option_map (problem_text names s) p

  module _ (r : ℕ) where
    of-type : (word : Text) (i : ℕ) (t : Term ℕ) → term_at s.terms i ≡ t
        → Some (type_error word (text_at names s i)) ≡ Some (type_error word (named names t))
    of-type word i t h = ap (λ (x : Term ℕ). Some (type_error word (named names x))) h

    in-domain : (word : Text) (i : ℕ) (t : Term ℕ) → term_at s.terms i ≡ t
        → Some (domain_error word (text_at names s i)) ≡ Some (domain_error word (named names t))
    in-domain word i t h = ap (λ (x : Term ℕ). Some (domain_error word (named names x))) h

    -- compare/3
    order-test : (b : Bool) (f : ℕ) → term_at s.terms r ≡ node f no_args
        → ball_of (if b then None else Some (NotInDomain domains.Order r))
        ≡ (if b then None else Some (domain_error (codes "order") (node (name_at names f) no_args)))
    order-test true f h = refl
    order-test false f h = in-domain (codes "order") r (node f no_args) h

    pub compare-refused : (t : Term ℕ) → term_at s.terms r ≡ t → ball_of (compare_problem names (head t) r) ≡ compare_error (named names t)
    compare-refused (var v) h = refl
    compare-refused (int i) h = of-type (codes "atom") r (int i) h
    compare-refused (node f no_args) h = order-test (is_order (name_at names f)) f h
    compare-refused (node f (arg t ts)) h = of-type (codes "atom") r (node f (arg t ts)) h

-- a node's name is in the table where the names of its term are
pub head-known : (n : ℕ) (t : Term ℕ) → HasNames n t → HasItsName n (head t)
head-known n (var v) h = tt
head-known n (int i) h = tt
head-known n (node f no_args) h = h.0
head-known n (node f (arg t ts)) h = h.0

module _ (names : List (List ℕ)) (s : State) where
  abbrev pub FoundIsKnown : Option Problem → Type 0
  FoundIsKnown None = Unit {0}
  FoundIsKnown (Some p) = IsKnownProblem names s p

  pub compare-known : (n : Node) (r : ℕ) → IsKnown names s r → FoundIsKnown (compare_problem names n r)
  compare-known (nodes.Var v) r k = tt
  compare-known (nodes.Int i) r k = k
  compare-known (nodes.Struct f n) r k = k
  compare-known (nodes.Atom f) r k = go (is_order (name_at names f.0))
    where
      go : (b : Bool) → FoundIsKnown (if b then None else Some (NotInDomain domains.Order r))
      go true = tt
      go false = k

-- an error that was found is thrown, and else the rest follows
pub refused-some : (e : Option (Term Text)) (x : Term Text) (left : ℕ) (σ : Bindings Text) (w : World) (rest : Act) → e ≡ Some x
    → refused_by e left σ w rest ≡ throw left σ x w
refused-some e x left σ w rest h = ap (λ (o : Option (Term Text)). refused_by o left σ w rest) h

pub refused-none : (e : Option (Term Text)) (left : ℕ) (σ : Bindings Text) (w : World) (rest : Act) → e ≡ None
    → refused_by e left σ w rest ≡ rest
refused-none e left σ w rest h = ap (λ (o : Option (Term Text)). refused_by o left σ w rest) h
