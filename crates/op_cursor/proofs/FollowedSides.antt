-- A side is followed to what its variable stands for.
use Rattle.std.proofs.Common.{◌≡◌, ℕ, ◌==◌, true, List, [], ◌∷◌, All, Some, sym, ◌∙◌, ap, refl}
use Rattle.op_logic.specs.Term.{Term, var, int, node, no_args, arg, args_of, arity}
use Rattle.op_logic.specs.Bind.{lookup}
use Rattle.op_logic.specs.Names.{named}
use Rattle.op_logic.proofs.AppliedBindings.{eq_of}
use Rattle.op_logic.proofs.SolvedPairs.{and_right}
use Rattle.op_term.specs.Places.{term_at}
use Rattle.op_term.specs.Head.{head}
use Rattle.op_term.specs.Variables.{has_no_variable}
use Rattle.op_term.specs.declared.node.Node.TheVariants.{Var}
use Rattle.op_trace.specs.Database.{Text, text_eq}
use Rattle.op_moves.specs.Pairs.{IsNode, all_matched, head_of, same_head, variable}
use Rattle.op_event.specs.View.{Showing}
use Rattle.op_cursor.specs.declared.outline.Outline.{Outline}
use Rattle.op_cursor.specs.declared.outline.Outline.TheVariants as outline
use Rattle.op_cursor.specs.declared.part.Part.{Part}
use Rattle.op_cursor.specs.declared.part.Side.{Side}
use Rattle.op_cursor.specs.declared.part.Side.TheVariants.{Pattern, Event}
use Rattle.op_cursor.specs.inner.Outlines.{outlined, count_of}
use Rattle.op_cursor.specs.inner.Parts.{part_term, side_term, IsPart}
use Rattle.op_cursor.specs.inner.Stacks.{values_from, IsFollowed}
use Rattle.op_cursor.proofs.EventParts.{arity-named}
use Rattle.op_moves.proofs.MatchedPairs.{bound-met}
use Rattle.op_cursor.proofs.PairStacks.{part-closed}

closed-head : (s : Term Text) (w : ℕ) → has_no_variable s ≡ true → variable w ≡ head_of s → ⊥
closed-head (var v) w h e = absurd cc
closed-head (int i) w h e = absurd cc
closed-head (node f ts) w h e = absurd cc

pub named-var : (own : List Text) (t : Term ℕ) (v : ℕ) → Var v ≡ head t → named own t ≡ var v
named-var own (var w) v e = let i : v ≡ w = cc in ap var (sym i)
named-var own (int i) v e = absurd cc
named-var own (node f no_args) v e = absurd cc
named-var own (node f (arg t ts)) v e = absurd cc

pub head-variable : (s : Term Text) (v : ℕ) → variable v ≡ head_of s → s ≡ var v
head-variable (var w) v e = let i : v ≡ w = cc in ap var (sym i)
head-variable (int i) v e = absurd cc
head-variable (node f ts) v e = absurd cc

-- an outline has as many arguments as its term, and is of a node where it is of no variable
module _ (own names : List Text) where
  pub count-arity : (o : Outline) (s : Term Text) → outlined own names o ≡ head_of s → count_of o ≡ arity (args_of s)
  count-arity (outline.Variable v) (var w) e = refl
  count-arity (outline.Variable v) (int i) e = absurd cc
  count-arity (outline.Variable v) (node f ts) e = absurd cc
  count-arity (outline.Int i) (var w) e = absurd cc
  count-arity (outline.Int i) (int j) e = refl
  count-arity (outline.Int i) (node f ts) e = absurd cc
  count-arity (outline.Number n) (var w) e = absurd cc
  count-arity (outline.Number n) (int j) e = refl
  count-arity (outline.Number n) (node f ts) e = absurd cc
  count-arity (outline.Name w n) (var v) e = absurd cc
  count-arity (outline.Name w n) (int j) e = absurd cc
  count-arity (outline.Name w n) (node f ts) e = let i : n ≡ arity ts = cc in i

  pub node-outline : (o : Outline) (s : Term Text) → outlined own names o ≡ head_of s → ((v : ℕ) → o ≡ outline.Variable v → ⊥)
      → IsNode (head_of s)
  node-outline o (var w) e h = of-variable o e h
    where
      of-variable : (q : Outline) → outlined own names q ≡ variable w → ((v : ℕ) → q ≡ outline.Variable v → ⊥) → ⊥
      of-variable (outline.Variable v) a k = k v refl
      of-variable (outline.Int i) a k = cc
      of-variable (outline.Number n) a k = cc
      of-variable (outline.Name f n) a k = cc
  node-outline o (int i) e h = tt
  node-outline o (node f ts) e h = tt

pub heads-arity : (s t : Term Text) → same_head (head_of s) (head_of t) ≡ true → arity (args_of s) ≡ arity (args_of t)
heads-arity (var v) (var w) h = refl
heads-arity (var v) (int j) h = absurd cc
heads-arity (var v) (node g us) h = absurd cc
heads-arity (int i) (var w) h = absurd cc
heads-arity (int i) (int j) h = refl
heads-arity (int i) (node g us) h = absurd cc
heads-arity (node f ts) (var w) h = absurd cc
heads-arity (node f ts) (int j) h = absurd cc
heads-arity (node f ts) (node g us) h = eq_of (arity ts) (arity us) (and_right (text_eq f g) (arity ts == arity us) h)

-- how many arguments a side has, whatever the names of the pattern are
pub side-arity : (terms : List (Term ℕ)) (own other : List Text) (v : Showing) (s : Side)
    → arity (args_of (side_term terms own v s)) ≡ arity (args_of (side_term terms other v s))
side-arity terms own other v (Pattern n) = arity-named own (term_at terms n) ∙ sym (arity-named other (term_at terms n))
side-arity terms own other v (Event p) = refl

module _ (terms : List (Term ℕ)) (values : List (ℕ × Part)) where
  pub followed-event : (p : Part) → IsFollowed terms values (Event p) (Event p)
  followed-event p = record {
    same = λ own v t qs. refl;
    free = λ own v w e. absurd (closed-head (part_term v p) w (part-closed v p) e);
    side = λ v h k. h;
    names = λ k h. h;
  }

  pub followed-bound : (at v : ℕ) (p : Part) → Var v ≡ head (term_at terms at)
      → ((w : Showing) → lookup (values_from w values []) v ≡ Some (part_term w p))
      → ((w : Showing) → All (λ x. IsPart w x.1) values → IsPart w p) → IsFollowed terms values (Pattern at) (Event p)
  followed-bound at v p e some there = record {
    same = λ own w t qs.
        ap (λ (x : Term Text). all_matched (values_from w values []) ((x, t) ∷ qs)) (named-var own (term_at terms at) v e)
        ∙ bound-met (values_from w values []) v (part_term w p) t qs (some w) (part-closed w p);
    free = λ own w u h. absurd (closed-head (part_term w p) u (part-closed w p) h);
    side = λ w h k. there w k;
    names = λ k h. tt;
  }
