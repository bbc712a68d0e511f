-- Terms over names of a type N (ISO/IEC 13211-1, 6.1.2 and 7.1): a variable, an integer, or a name with its arguments.
-- An atom is a name without arguments, so that each compound term has at least one. Names are texts where the meaning of
-- a program is spoken of, and numbers in code.
use Rattle.std.specs.Prelude.{ℕ, zero, suc, pos, ◌+◌, ◌<◌, ◌==◌, Bool, true, false, ◌||◌, ◌&&◌, ℤ, if◌then◌else◌}
use Rattle.std.specs.Ordering.{int_eq}

mutual
  pub data Term (N : Type 0) : Type 0 where
    var : ℕ → Term N
    int : ℤ → Term N
    node : N → Args N → Term N

  pub data Args (N : Type 0) : Type 0 where
    no_args : Args N
    arg : Term N → Args N → Args N

abbrev pub atom : {N : Type 0} → N → Term N
atom f = node f no_args

-- how many nodes a term has
abbrev mutual
  pub size : {N : Type 0} → Term N → ℕ
  size (var v) = 1
  size (int i) = 1
  size (node f ts) = suc (args_size ts)

  pub args_size : {N : Type 0} → Args N → ℕ
  args_size no_args = 0
  args_size (arg t ts) = size t + args_size ts

abbrev pub arity : {N : Type 0} → Args N → ℕ
arity no_args = 0
arity (arg t ts) = suc (arity ts)

-- whether a variable is in a term
abbrev mutual
  pub occurs : {N : Type 0} → ℕ → Term N → Bool
  occurs v (var w) = v == w
  occurs v (int i) = false
  occurs v (node f ts) = occurs_args v ts

  pub occurs_args : {N : Type 0} → ℕ → Args N → Bool
  occurs_args v no_args = false
  occurs_args v (arg t ts) = occurs v t || occurs_args v ts

-- a term with s in place of a variable
abbrev mutual
  pub replace : {N : Type 0} → ℕ → Term N → Term N → Term N
  replace v s (var w) = if v == w then s else var w
  replace v s (int i) = int i
  replace v s (node f ts) = node f (replace_args v s ts)

  pub replace_args : {N : Type 0} → ℕ → Term N → Args N → Args N
  replace_args v s no_args = no_args
  replace_args v s (arg t ts) = arg (replace v s t) (replace_args v s ts)

-- a term with other names
abbrev mutual
  pub rename : {N M : Type 0} → (N → M) → Term N → Term M
  rename f (var v) = var v
  rename f (int i) = int i
  rename f (node n ts) = node (f n) (rename_args f ts)

  pub rename_args : {N M : Type 0} → (N → M) → Args N → Args M
  rename_args f no_args = no_args
  rename_args f (arg t ts) = arg (rename f t) (rename_args f ts)

-- a term with each variable counted from a first one on
abbrev mutual
  pub shift : {N : Type 0} → ℕ → Term N → Term N
  shift first (var k) = var (first + k)
  shift first (int i) = int i
  shift first (node f ts) = node f (shift_args first ts)

  pub shift_args : {N : Type 0} → ℕ → Args N → Args N
  shift_args first no_args = no_args
  shift_args first (arg t ts) = arg (shift first t) (shift_args first ts)

-- whether two terms are the same tree, where `eq` compares names
abbrev mutual
  pub term_eq : {N : Type 0} → (N → N → Bool) → Term N → Term N → Bool
  term_eq eq (var v) (var w) = v == w
  term_eq eq (int i) (int j) = int_eq i j
  term_eq eq (node f ts) (node g us) = eq f g && args_eq eq ts us
  term_eq eq _ _ = false

  pub args_eq : {N : Type 0} → (N → N → Bool) → Args N → Args N → Bool
  args_eq eq no_args no_args = true
  args_eq eq (arg t ts) (arg u us) = term_eq eq t u && args_eq eq ts us
  args_eq eq _ _ = false

-- the arguments of a term, and the one at an index
abbrev pub args_of : {N : Type 0} → Term N → Args N
args_of (var v) = no_args
args_of (int i) = no_args
args_of (node f ts) = ts

abbrev pub nth_arg : {N : Type 0} → Args N → ℕ → Term N
nth_arg no_args i = int (pos 0)
nth_arg (arg t ts) zero = t
nth_arg (arg t ts) (suc i) = nth_arg ts i

-- each variable has a number below n
abbrev mutual
  pub IsWithin : {N : Type 0} → ℕ → Term N → Type 0
  IsWithin n (var v) = v < n
  IsWithin n (int i) = Unit {0}
  IsWithin n (node f ts) = ArgsWithin n ts

  pub ArgsWithin : {N : Type 0} → ℕ → Args N → Type 0
  ArgsWithin n no_args = Unit {0}
  ArgsWithin n (arg t ts) = IsWithin n t × ArgsWithin n ts
