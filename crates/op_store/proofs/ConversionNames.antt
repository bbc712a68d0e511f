-- A conversion adds no name that is not in the table, and no variable.
use Rattle.std.proofs.Common.{◌≡◌, ℕ, suc, ◌+◌, ◌<◌, ◌≤◌, Bool, true, false, cond, List, [], ◌∷◌, length, get_or, Option, Some, None, All}
use Rattle.std.proofs.Common.{sym, subst, arith}
use Rattle.std.specs.Prelude.{option_map, codes, IfSome}
use Rattle.op_logic.specs.Term.{Term, var, int, node, Args, no_args, arg, IsWithin, ArgsWithin, rename_args}
use Rattle.op_store.specs.Counted.{variable_count, args_variable_count}
use Rattle.op_logic.specs.Names.{name_at, named, IsTable, HasNames, ArgsHaveNames}
use Rattle.op_logic.proofs.BoolCases.{by_order}
use Rattle.op_logic.proofs.NameTables.{name_at-below, name_at-past}
use Rattle.op_trace.specs.Database.{Text}
use Rattle.op_trace.specs.Body.{Body, goal, Division, one_step, has_parts, joined, compound, divided, divisions_by, term_of, converted}

abbrev AreBytes : List ℕ → Type 0
AreBytes [] = Unit {0}
AreBytes (b ∷ bs) = (b < 256) × AreBytes bs

all-bytes : (bs : List ℕ) → All (λ b. b < 256) bs → AreBytes bs
all-bytes [] h = tt
all-bytes (b ∷ bs) h = (h 0 b (omega arith), all-bytes bs (λ i d l. h (suc i) d (omega arith)))

-- each name is bytes, and each variable is below n
abbrev mutual
  pub Fits : ℕ → Term Text → Type 0
  Fits n (var v) = v < n
  Fits n (int i) = Unit {0}
  Fits n (node f ts) = AreBytes f × ArgsFit n ts

  ArgsFit : ℕ → Args Text → Type 0
  ArgsFit n no_args = Unit {0}
  ArgsFit n (arg t ts) = Fits n t × ArgsFit n ts

name-fits : (names : List Text) (f : ℕ) → IsTable names → f < length names → AreBytes (name_at names f)
name-fits names f t h =
    subst (λ (bs : List ℕ). AreBytes bs) (sym (name_at-below names f h)) (all-bytes (get_or names f []) (t.bytes f [] h))

mutual
  pub fits-named : (names : List Text) (n : ℕ) (t : Term ℕ) → IsTable names → HasNames (length names) t → IsWithin n t
      → Fits n (named names t)
  fits-named names n (var v) table h w = w
  fits-named names n (int i) table h w = tt
  fits-named names n (node f ts) table h w = (name-fits names f table h.0, args-fit-named names n ts table h.1 w)

  args-fit-named : (names : List Text) (n : ℕ) (ts : Args ℕ) → IsTable names → ArgsHaveNames (length names) ts → ArgsWithin n ts
      → ArgsFit n (rename_args (name_at names) ts)
  args-fit-named names n no_args table h w = tt
  args-fit-named names n (arg t ts) table h w = (fits-named names n t table h.0 w.0, args-fit-named names n ts table h.1 w.1)

-- a name that is bytes is in the table
name-there : (names : List Text) (f : ℕ) → AreBytes (name_at names f) → f < length names
name-there names f h =
    by_order f (length names) (λ l. l)
    (λ l. let past : AreBytes ((256 + f) ∷ []) =
    subst (λ (bs : List ℕ). AreBytes bs) (name_at-past names f l) h in absurd (omega (arith, past.0)))

mutual
  pub fits-has : (names : List Text) (n : ℕ) (t : Term ℕ) → Fits n (named names t) → HasNames (length names) t
  fits-has names n (var v) h = tt
  fits-has names n (int i) h = tt
  fits-has names n (node f ts) h = (name-there names f h.0, args-fit-have names n ts h.1)

  args-fit-have : (names : List Text) (n : ℕ) (ts : Args ℕ) → ArgsFit n (rename_args (name_at names) ts) → ArgsHaveNames (length names) ts
  args-fit-have names n no_args h = tt
  args-fit-have names n (arg t ts) h = (fits-has names n t h.0, args-fit-have names n ts h.1)

mutual
  pub fits-within : (names : List Text) (n : ℕ) (t : Term ℕ) → Fits n (named names t) → IsWithin n t
  fits-within names n (var v) h = h
  fits-within names n (int i) h = tt
  fits-within names n (node f ts) h = args-fit-within names n ts h.1

  args-fit-within : (names : List Text) (n : ℕ) (ts : Args ℕ) → ArgsFit n (rename_args (name_at names) ts) → ArgsWithin n ts
  args-fit-within names n no_args h = tt
  args-fit-within names n (arg t ts) h = (fits-within names n t h.0, args-fit-within names n ts h.1)

-- the body, where there is one, fits
abbrev BodyFits : ℕ → Division → Type 0
BodyFits n d = IfSome d.tree (λ b. Fits n (term_of b))

abbrev BodiesFit : ℕ → List Division → Type 0
BodiesFit n [] = Unit {0}
BodiesFit n (c ∷ cs) = BodyFits n c × BodiesFit n cs

call-fits : AreBytes (codes "call")
call-fits = (omega arith, (omega arith, (omega arith, (omega arith, tt))))

pub true-fits : (n : ℕ) → Fits n (node (codes "true") no_args)
true-fits n = ((omega arith, (omega arith, (omega arith, (omega arith, tt)))), tt)

joined-fits-on : (n : ℕ) (f : Text) (a b : Option Body) (i j : ℕ) → AreBytes f → IfSome a (λ t. Fits n (term_of t))
    → IfSome b (λ t. Fits n (term_of t))
    → BodyFits n (joined f (record { tree = a; steps = i }) (record { tree = b; steps = j }))
joined-fits-on n f None b i j h ha hb = tt
joined-fits-on n f (Some t) None i j h ha hb = tt
joined-fits-on n f (Some t) (Some u) i j h ha hb = (h, (ha, (hb, tt)))

either-fits : (n : ℕ) (b : Bool) (control whole : Division) → BodyFits n control → BodyFits n whole → BodyFits n (cond b control whole)
either-fits n true control whole c w = c
either-fits n false control whole c w = w

compound-fits : (n : ℕ) (f : Text) (whole : Term Text) (ds : List Division) → AreBytes f → Fits n whole → BodiesFit n ds
    → BodyFits n (compound f whole ds)
compound-fits n f whole [] h w g = w
compound-fits n f whole (a ∷ []) h w g = w
compound-fits n f whole (a ∷ b ∷ []) h w g =
    either-fits n (has_parts f) (joined f a b) (one_step (Some (goal whole)))
    (joined-fits-on n f a.tree b.tree a.steps b.steps h g.0 g.1.0) w
compound-fits n f whole (a ∷ b ∷ c ∷ ds) h w g = w

mutual
  divided-fits : (n : ℕ) (t : Term Text) → Fits n t → BodyFits n (divided [] t)
  divided-fits n (var v) h = (call-fits, (h, tt))
  divided-fits n (int i) h = tt
  divided-fits n (node f ts) h = compound-fits n f (node f ts) (divisions_by ts [] ts) h.0 h (divisions-fit n ts h.1)

  divisions-fit : (n : ℕ) (ts : Args Text) → ArgsFit n ts → BodiesFit n (divisions_by ts [] ts)
  divisions-fit n no_args h = tt
  divisions-fit n (arg t ts) h = (divided-fits n t h.0, divisions-fit n ts h.1)

term-fits : (n : ℕ) (o : Option Body) → IfSome o (λ b. Fits n (term_of b)) → IfSome (option_map term_of o) (λ t. Fits n t)
term-fits n None h = tt
term-fits n (Some b) h = h

pub converted-fits : (n : ℕ) (t : Term Text) → Fits n t → IfSome (converted [] t).body (λ b. Fits n b)
converted-fits n t h = term-fits n (divided [] t).tree (divided-fits n t h)

some-named : (names : List Text) (P : Term ℕ → Type 0) (Q : Term Text → Type 0) (o : Option (Term ℕ)) (r : Option (Term Text))
    → ((t : Term ℕ) → Q (named names t) → P t) → option_map (named names) o ≡ r → IfSome r Q → IfSome o P
some-named names P Q None r f e h = tt
some-named names P Q (Some t) r f e h = f t (subst (λ (x : Option (Term Text)). IfSome x Q) (sym e) h)

mutual
  count-within : (t : Term ℕ) (n : ℕ) → variable_count t ≤ n → IsWithin n t
  count-within (var v) n h = omega (arith, h)
  count-within (int i) n h = tt
  count-within (node f ts) n h = args-count-within ts n h

  args-count-within : (ts : Args ℕ) (n : ℕ) → args_variable_count ts ≤ n → ArgsWithin n ts
  args-count-within no_args n h = tt
  args-count-within (arg t ts) n h = (count-within t n (omega (arith, h)), args-count-within ts n (omega (arith, h)))

pub within-count : (t : Term ℕ) (n : ℕ) → variable_count t ≤ n → IsWithin n t
within-count t n h = count-within t n h

-- the body's names are in the table
pub converted-has : (names : List Text) (t : Term ℕ) (o : Option (Term ℕ)) → IsTable names → HasNames (length names) t
    → option_map (named names) o ≡ (converted [] (named names t)).body → IfSome o (HasNames (length names))
converted-has names t o table h e =
    let n : ℕ = variable_count t in
    some-named names (HasNames (length names)) (Fits n) o (converted [] (named names t)).body (fits-has names n) e
    (converted-fits n (named names t) (fits-named names n t table h (within-count t n (omega arith))))

-- its variables are among the term's
pub converted-within : (names : List Text) (t : Term ℕ) (o : Option (Term ℕ)) → IsTable names → HasNames (length names) t
    → option_map (named names) o ≡ (converted [] (named names t)).body → (n : ℕ) → IsWithin n t → IfSome o (IsWithin n)
converted-within names t o table h e n w =
    some-named names (IsWithin n) (Fits n) o (converted [] (named names t)).body (fits-within names n) e
    (converted-fits n (named names t) (fits-named names n t table h w))
