-- What the calls of a builder read and write.
use Rattle.std.proofs.Common.{◌≡◌, ℕ, zero, suc, ◌+◌, ◌<◌, ◌≤◌, List, [], ◌∷◌, length, get_or, take, drop, All, sym, ◌∙◌, ap, subst, refl}
use Rattle.std.proofs.Common.{arith, length-drop}
use Rattle.std.proofs.lemmas.List.{length-take-le}
use Rattle.std.proofs.Math.Seq.{take-length}
use Rattle.op_logic.specs.Term.{Term, no_args, args_of, nth_arg, arity}
use Rattle.op_term.specs.Places.{term_at, args_at}
use Rattle.op_term.specs.Head.{head, sym as name_of, head_named}
use Rattle.op_term.specs.inner.Cells.{count_of, stretch, shaped, parts_of, terms_of, AllBelow, Laid}
use Rattle.op_term.specs.declared.builder.Cell.{Cell}
use Rattle.op_term.specs.declared.builder.Shape.{Shape}
use Rattle.op_term.specs.declared.builder.Shape.TheVariants.{Var, Int, Named}
use Rattle.op_term.specs.declared.node.Node.TheVariants as nodes
use Rattle.op_term.specs.declared.symbols.Sym.{Sym}
use Rattle.op_term.proofs.BuilderTerms.{Made, node_made, terms-length, All-from}

module _ (parts : List ℕ) (cs : List Cell) (laid : Laid 0 0 parts cs) (ts : List (Term ℕ)) (is : terms_of parts cs ≡ ts) where
  pub same-length : length ts ≡ length cs
  same-length = omega (arith, ap length is, terms-length [] parts cs)

  pub found_made : (at : ℕ) → at < length ts → (c : Cell) → c ≡ get_or cs at c → Made ts parts c at
  found_made at h c e =
      let l : at < length cs = omega (arith, same-length) in
      let m : Made (terms_of parts cs) parts (get_or cs at c) at = node_made parts cs laid at c l in
      let n : Made (terms_of parts cs) parts c at = subst (λ (d : Cell). Made (terms_of parts cs) parts d at) (sym e) m in
      subst (λ (us : List (Term ℕ)). Made us parts c at) is n

pub arity-at : (ts : List (Term ℕ)) (ps : List ℕ) → arity (args_at ts ps) ≡ length ps
arity-at ts [] = refl
arity-at ts (p ∷ ps) = ap suc (arity-at ts ps)

pub nth-at : (ts : List (Term ℕ)) (ps : List ℕ) (i : ℕ) → i < length ps → nth_arg (args_at ts ps) i ≡ term_at ts (get_or ps i 0)
nth-at ts [] i h = absurd (omega arith)
nth-at ts (p ∷ ps) zero h = refl
nth-at ts (p ∷ ps) (suc i) h = nth-at ts ps i (omega arith)

head_none : (f : ℕ) (ts : List (Term ℕ)) (ps : List ℕ) → length ps ≡ 0 → head_named f (args_at ts ps) ≡ nodes.Atom (name_of f)
head_none f ts [] h = refl
head_none f ts (p ∷ ps) h = absurd (omega arith)

head_some : (f : ℕ) (ts : List (Term ℕ)) (ps : List ℕ) → 0 < length ps → head_named f (args_at ts ps) ≡ nodes.Struct (name_of f) (length ps)
head_some f ts [] h = absurd (omega arith)
head_some f ts (p ∷ ps) h = ap (λ (n : ℕ). nodes.Struct (name_of f) (suc n)) (arity-at ts ps)

stretch-length : (parts : List ℕ) (from n : ℕ) → from + n ≤ length parts → length (stretch parts from n) ≡ n
stretch-length parts from n h = length-take-le n (drop from parts) (omega (arith, length-drop from parts))

-- what a cell says of its node
module _ (ts : List (Term ℕ)) (parts : List ℕ) (c : Cell) (at : ℕ) (m : Made ts parts c at) where
  pub head_of_cell : (s : Shape) → c.shape ≡ s → head (term_at ts at) ≡ head (shaped ts (parts_of parts c) s)
  head_of_cell s e = ap head m.term ∙ ap (λ (x : Shape). head (shaped ts (parts_of parts c) x)) e

  pub within_cell : (f : Sym) (n : ℕ) → c.shape ≡ Named f n → c.from + n ≤ length parts
  within_cell f n e = omega (arith, m.within, ap count_of e)

  pub parts_of_cell : (f : Sym) (n : ℕ) → c.shape ≡ Named f n → parts_of parts c ≡ stretch parts c.from n
  parts_of_cell f n e = ap (λ (x : Shape). stretch parts c.from (count_of x)) e

  pub below_cell : (f : Sym) (n : ℕ) → c.shape ≡ Named f n → (ps : List ℕ) → ps ≡ stretch parts c.from n → All (λ p. p < at) ps
  below_cell f n e ps q = All-from at ps (subst (AllBelow at) (parts_of_cell f n e ∙ sym q) m.below)

  pub args_of_cell : (f : Sym) (n : ℕ) → c.shape ≡ Named f n → (ps : List ℕ) → ps ≡ stretch parts c.from n
      → args_at ts ps ≡ args_of (term_at ts at)
  args_of_cell f n e ps q =
      let a : args_of (term_at ts at) ≡ args_at ts (parts_of parts c) = ap args_of m.term
      ∙ ap (λ (x : Shape). args_of (shaped ts (parts_of parts c) x)) e in
      ap (args_at ts) (q ∙ sym (parts_of_cell f n e)) ∙ sym a

  pub head_of_atom : (f : Sym) (n : ℕ) → c.shape ≡ Named f n → n ≡ 0 → nodes.Atom f ≡ head (term_at ts at)
  head_of_atom f n e z =
      let l : length (parts_of parts c) ≡ 0 = ap length (parts_of_cell f n e) ∙ (stretch-length parts c.from n (within_cell f n e) ∙ z) in
      sym (head_of_cell (Named f n) e ∙ head_none f.0 ts (parts_of parts c) l)

  pub head_of_struct : (f : Sym) (n : ℕ) → c.shape ≡ Named f n → 0 < n → nodes.Struct f n ≡ head (term_at ts at)
  head_of_struct f n e z =
      let l : length (parts_of parts c) ≡ n = ap length (parts_of_cell f n e) ∙ stretch-length parts c.from n (within_cell f n e) in
      sym (head_of_cell (Named f n) e ∙ (head_some f.0 ts (parts_of parts c) (omega arith) ∙ ap (nodes.Struct f) l))

  no_args_other : (s : Shape) → ((f : Sym) (n : ℕ) → s ≡ Named f n → ⊥) → args_of (shaped ts (parts_of parts c) s) ≡ no_args
  no_args_other (Var n) h = refl
  no_args_other (Int i) h = refl
  no_args_other (Named f n) h = absurd (h f n refl)

  pub args_of_other : ((f : Sym) (n : ℕ) → c.shape ≡ Named f n → ⊥) → no_args ≡ args_of (term_at ts at)
  args_of_other h = sym (ap args_of m.term ∙ no_args_other c.shape h)

pub take-whole : {A : Type 0} (n : ℕ) (xs : List A) → n ≡ length xs → xs ≡ take n xs
take-whole n xs h = sym (ap (λ (k : ℕ). take k xs) h ∙ take-length xs)
