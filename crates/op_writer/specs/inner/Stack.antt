-- What is left to write, as a stack of items: what the items come to, and how much work they are.
use Rattle.std.specs.Prelude.{pos, Some, None, ◌≡◌, ◌<◌, ◌≤◌, ℕ, zero, suc, ◌+◌, List, [], ◌∷◌, ◌++◌, Option, codes, decimal, length}
use Rattle.std.specs.List.{flat_map}
use Rattle.std.specs.Fmt.{signed_decimal}
use Rattle.op_logic.specs.Term.{Term, var, int, node, Args, no_args, arg, args_of, arity, rename_args}
use Rattle.op_logic.specs.Names.{name_at, named, HasNames}
use Rattle.op_term.specs.Ops.{Table}
use Rattle.op_term.specs.declared.node.Node.{Node}
use Rattle.op_term.specs.declared.node.Node.TheVariants.{Int as AnInt}
use Rattle.op_writer.specs.declared.style.Style.{Style}
use Rattle.op_writer.specs.declared.setting.Setting.{Setting}
use Rattle.op_writer.specs.declared.item.Lexeme.{Lexeme}
use Rattle.op_writer.specs.declared.item.Lexeme.TheVariants.{Sign, Name, Prefix, Var, Int, Letter}
use Rattle.op_writer.specs.declared.item.Item.{Item}
use Rattle.op_writer.specs.declared.item.Item.TheVariants.{Lexeme as Written, Term as Whole, Rest, Further}
use Rattle.op_writer.specs.Spelling.{name_text}
use Rattle.op_writer.specs.Fragments.{Fragment, plain, prefix_operator}
use Rattle.op_writer.specs.Text.{Form, form_of, forms_of, within, rest, further, letter_text, letter_of, sign, argument}

-- what texts go by: the operators, the style, and the names
pub record Ways : Type 0 where
  pub ops : Table
  pub style : Style
  pub names : List (List ℕ)

abbrev pub ways_of : Setting → Ways
ways_of s = record { ops = s.ops.now; style = s.style; names = s.symbols.now }

abbrev pub spelt : Ways → ℕ → List ℕ
spelt w f = name_text w.style (name_at w.names f)

abbrev pub fragment_of : Ways → Lexeme → Fragment
fragment_of w (Sign b) = plain (b ∷ [])
fragment_of w (Name f) = plain (spelt w f.0)
fragment_of w (Prefix f) = prefix_operator (spelt w f.0)
fragment_of w (Var n) = plain (codes "_" ++ decimal n)
fragment_of w (Int i) = plain (signed_decimal i)
fragment_of w (Letter n) = plain (letter_text n)

abbrev pub form : Ways → Term ℕ → Form
form w t = form_of w.ops w.style (named w.names t)

abbrev pub forms : Ways → Args ℕ → List Form
forms w ts = forms_of w.ops w.style (rename_args (name_at w.names) ts)

-- the number of a term '$VAR'(N) of this name
abbrev pub letter : Ways → Term ℕ → ℕ → Option ℕ
letter w t f = letter_of w.style (name_at w.names f) (rename_args (name_at w.names) (args_of t))

-- the number of a node that is an integer of 0 or more
abbrev pub natural_of : Node → Option ℕ
natural_of (AnInt (pos n)) = Some n
natural_of _ = None

-- as the rest of a list a term stands behind a bar
abbrev pub IsBarred : Ways → Term ℕ → Type 0
IsBarred w t = form w t rest ≡ sign (codes "|") ++ form w t (within argument) ++ sign (codes "]")

-- the arguments from an index on
abbrev pub drop_args : ℕ → Args ℕ → Args ℕ
drop_args zero ts = ts
drop_args (suc i) no_args = no_args
drop_args (suc i) (arg t ts) = drop_args i ts

-- a bound on the items that a term comes to
abbrev mutual
  pub work : Term ℕ → ℕ
  work (var n) = 2
  work (int i) = 2
  work (node f ts) = 10 + args_work ts

  pub args_work : Args ℕ → ℕ
  args_work no_args = 0
  args_work (arg t ts) = work t + 4 + args_work ts

abbrev pub IsGoodLexeme : ℕ → Lexeme → Type 0
IsGoodLexeme n (Name f) = f.0 < n
IsGoodLexeme n (Prefix f) = f.0 < n
IsGoodLexeme n t = Unit {0}

module _ {P : Type 0} (term : P → Term ℕ) where
  abbrev pub fragments_of : Ways → Item P → List Fragment
  fragments_of w (Written t) = fragment_of w t ∷ []
  fragments_of w (Whole at bound) = form w (term at) (within bound)
  fragments_of w (Rest at) = form w (term at) rest
  fragments_of w (Further at i) = further (forms w (drop_args i (args_of (term at))))

  abbrev pub weight : Item P → ℕ
  weight (Written t) = 1
  weight (Whole at bound) = work (term at)
  weight (Rest at) = work (term at) + 3
  weight (Further at i) = 2 + args_work (drop_args i (args_of (term at)))

  -- the fragments of items, the uppermost first
  abbrev pub fragments : Ways → List (Item P) → List Fragment
  fragments w items = flat_map (fragments_of w) items

  abbrev pub weights : List (Item P) → ℕ
  weights [] = 0
  weights (i ∷ is) = weight i + weights is

  -- a place is the tree's, and its term's names are in the table
  abbrev pub IsGoodPlace : (P → Type 0) → ℕ → P → Type 0
  IsGoodPlace IsPlace n at = IsPlace at × HasNames n (term at)

  abbrev pub IsGood : (P → Type 0) → ℕ → Item P → Type 0
  IsGood IsPlace n (Written t) = IsGoodLexeme n t
  IsGood IsPlace n (Whole at bound) = IsGoodPlace IsPlace n at
  IsGood IsPlace n (Rest at) = IsGoodPlace IsPlace n at
  IsGood IsPlace n (Further at i) = IsGoodPlace IsPlace n at × (i ≤ arity (args_of (term at)))

  abbrev pub AreGood : (P → Type 0) → ℕ → List (Item P) → Type 0
  AreGood IsPlace n [] = Unit {0}
  AreGood IsPlace n (i ∷ is) = IsGood IsPlace n i × AreGood IsPlace n is

  -- one item is replaced by others, which come to the same and are less work
  pub record Replaces (w : Ways) (IsPlace : P → Type 0) (item : Item P) (old new : List (Item P)) : Type 0 where
    pub same : fragments w new ≡ fragments_of w item ++ fragments w old
    pub less : weights new < weight item + weights old
    pub good : AreGood IsPlace (length w.names) new
