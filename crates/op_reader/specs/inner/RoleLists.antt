-- The list of roles that the code makes of words, as the rows of the definition; and what the words that are left add to it.
use Rattle.std.specs.Prelude.{◌≡◌, ◌<◌, ℕ, map, drop, reverse, All, List, [], ◌∷◌, Option, Some, None, Result, Ok, Err}
use Rattle.op_logic.specs.Term.{Term}
use Rattle.op_logic.specs.Names.{name_at, named}
use Rattle.op_term.specs.Places.{term_at}
use Rattle.op_reader.specs.declared.row_kind.RowKind.{RowKind}
use Rattle.op_reader.specs.declared.row_kind.RowKind.TheVariants.{Clause}
use Rattle.op_reader.specs.declared.word.Operator.{Operator as DeclaredOperator}
use Rattle.op_reader.specs.declared.word.AsOperand.{AsOperand as DeclaredAsOperand}
use Rattle.op_reader.specs.declared.word.AsOperand.TheVariants.{Functor, Minus, Prefix, Plain, Excess as DeclaredExcess}
use Rattle.op_reader.specs.declared.word.AsOperator.{AsOperator as DeclaredAsOperator}
use Rattle.op_reader.specs.declared.word.AsOperator.TheVariants.{Joins, Misplaced}
use Rattle.op_reader.specs.declared.word.Word.{Word as DeclaredWord}
use Rattle.op_reader.specs.declared.word.Word.TheVariants.{Opened, Closed as DeclaredClosed, Comma, Bar, Other}
use Rattle.op_reader.specs.declared.role.Role.{Role}
use Rattle.op_reader.specs.declared.role.Role.TheVariants.{Separator, Tail, Operator as AnOperator, Operand, Excess, Compound, Bracketed}
use Rattle.op_reader.specs.declared.role.Role.TheVariants.{Closed}
use Rattle.op_reader.specs.declared.roles.Expected.{Expected as DeclaredExpected}
use Rattle.op_reader.specs.declared.roles.Expected.TheVariants.{Operand as ExpectsOperand, Operator as ExpectsOperator}
use Rattle.op_reader.specs.declared.roles.Expected.TheVariants.{Arguments as ExpectsArguments, Number}
use Rattle.op_reader.specs.declared.roles.Step.{Step}
use Rattle.op_reader.specs.declared.roles.Step.TheVariants.{On, Skip, Enter, Leave, Refused}
use Rattle.op_reader.specs.declared.roles.Spot.{Spot}
use Rattle.op_reader.specs.declared.roles.Roles.{Roles}
use Rattle.op_reader.specs.declared.roles.Roles.TheVariants.{Given, Refused as RolesRefused}
use Rattle.op_reader.specs.Row.{Operator}
use Rattle.op_reader.specs.Words.{AsOperand, functor, minus, prefix, plain, excess, AsOperator, joins, misplaced, Word, opened, closed}
use Rattle.op_reader.specs.Words.{comma, bar, word}
use Rattle.op_reader.specs.Roles.{none, Levels, Level, levels_of, with_word, Rows, done, separator, tail, operator, operand, too_great}
use Rattle.op_reader.specs.Roles.{compound, bracketed, Expected, an_operand, an_operator, arguments_of, a_number, roles, clause_roles}

-- the texts of names by their numbers, and the terms of nodes
pub record View : Type 0 where
  pub names : List (List ℕ)
  pub terms : List (Term ℕ)

abbrev pub view : List (List ℕ) → List (Term ℕ) → View
view names terms = record { names = names; terms = terms }

abbrev pub node_in : View → ℕ → Term (List ℕ)
node_in v n = named v.names (term_at v.terms n)

abbrev pub operator_in : View → DeclaredOperator → Operator (List ℕ)
operator_in v o = record { name = name_at v.names o.name.0; priority = o.meaning.priority; kind = o.meaning.kind }

abbrev pub as_operand_in : View → DeclaredAsOperand → AsOperand (List ℕ)
as_operand_in v (Functor f) = functor (name_at v.names f.0)
as_operand_in v (Minus n) = minus (node_in v n)
as_operand_in v (Prefix o) = prefix (operator_in v o)
as_operand_in v (Plain n) = plain (node_in v n)
as_operand_in v DeclaredExcess = excess

abbrev pub as_operator_in : View → DeclaredAsOperator → AsOperator (List ℕ)
as_operator_in v (Joins o) = joins (operator_in v o)
as_operator_in v Misplaced = misplaced

abbrev pub word_in : View → DeclaredWord → Word (List ℕ)
word_in v (Opened place b) = opened place b
word_in v (DeclaredClosed place) = closed place
word_in v (Comma place o) = comma place (as_operator_in v o)
word_in v (Bar place) = bar place
word_in v (Other place a o) = word place (as_operand_in v a) (as_operator_in v o)

-- rows up to the first closing bracket that has no partner, and behind each such bracket up to the next
pub record Layers : Type 0 where
  pub inner : Rows (List ℕ)
  pub outer : List (Rows (List ℕ))

abbrev pub on_inner : (Rows (List ℕ) → Rows (List ℕ)) → Layers → Layers
on_inner f l = record { inner = f l.inner; outer = l.outer }

-- the innermost rows in brackets, in front of those of the next layer
abbrev pub enclosing : (Rows (List ℕ) → Rows (List ℕ) → Rows (List ℕ)) → Rows (List ℕ) → List (Rows (List ℕ)) → Layers
enclosing f r [] = record { inner = f r done; outer = [] }
enclosing f r (o ∷ os) = record { inner = f r o; outer = os }

abbrev pub with_role : View → Role → Layers → Layers
with_role v Separator l = on_inner separator l
with_role v Tail l = on_inner tail l
with_role v (AnOperator o) l = on_inner (operator (operator_in v o)) l
with_role v (Operand n) l = on_inner (operand (node_in v n)) l
with_role v (Excess place) l = on_inner (too_great place) l
with_role v (Compound f) l = enclosing (compound (name_at v.names f.0)) l.inner l.outer
with_role v (Bracketed b) l = enclosing (bracketed b) l.inner l.outer
with_role v Closed l = record { inner = done; outer = l.inner ∷ l.outer }

abbrev pub with_roles : View → List Role → Layers → Layers
with_roles v [] l = l
with_roles v (m ∷ ms) l = with_role v m (with_roles v ms l)

abbrev pub no_layers : Layers
no_layers = record { inner = done; outer = [] }

-- the rows that roles spell
abbrev pub rows_of : View → List Role → Rows (List ℕ)
rows_of v ms = (with_roles v ms no_layers).inner

-- the roles of the words that are left

abbrev pub expected_in : View → DeclaredExpected → Expected (List ℕ)
expected_in v ExpectsOperand = an_operand
expected_in v ExpectsOperator = an_operator
expected_in v (ExpectsArguments f) = arguments_of (name_at v.names f.0)
expected_in v Number = a_number

-- around a clause there is none
abbrev pub outermost : List RowKind → RowKind
outermost [] = Clause
outermost (c ∷ cs) = c

abbrev pub beside : Result (Rows (List ℕ)) ℕ → Result (List (Rows (List ℕ))) ℕ → Result Layers ℕ
beside (Ok r) (Ok rs) = Ok (record { inner = r; outer = rs })
beside (Ok r) (Err place) = Err place
beside (Err place) rs = Err place

abbrev pub in_front : Result (Rows (List ℕ)) ℕ → Result (List (Rows (List ℕ))) ℕ → Result (List (Rows (List ℕ))) ℕ
in_front (Ok r) (Ok rs) = Ok (r ∷ rs)
in_front (Ok r) (Err place) = Err place
in_front (Err place) rs = Err place

-- behind each closing bracket an operator is expected, in the row around it
abbrev pub outer_roles : List RowKind → List (Level (List ℕ)) → Result (List (Rows (List ℕ))) ℕ
outer_roles cs [] = Ok []
outer_roles cs (l ∷ ls) = in_front (roles (outermost cs) an_operator l.parts l.stop) (outer_roles (drop 1 cs) ls)

-- in a row of this kind, where the rows around it are of these kinds, and where this is expected next
abbrev pub roles_left : RowKind → List RowKind → Expected (List ℕ) → Levels (List ℕ) → Result Layers ℕ
roles_left c cs e l = beside (roles c e l.inner.parts l.inner.stop) (outer_roles cs l.outer)

abbrev pub on_layers : (Layers → Layers) → Result Layers ℕ → Result Layers ℕ
on_layers f (Ok l) = Ok (f l)
on_layers f (Err place) = Err place

-- what a step leaves to be done
abbrev pub left_by : View → RowKind → List RowKind → Step → Levels (List ℕ) → Result Layers ℕ
left_by v c cs (On m d e) l = on_layers (with_role v m) (roles_left d cs (expected_in v e) l)
left_by v c cs (Skip e) l = roles_left c cs (expected_in v e) l
left_by v c cs (Enter m d) l = on_layers (with_role v m) (roles_left d (c ∷ cs) an_operand l)
left_by v c cs Leave l = on_layers (with_role v Closed) (roles_left (outermost cs) (drop 1 cs) an_operator l)
left_by v c cs (Refused place) l = Err place

-- the step is that of the word
abbrev pub IsStep : RowKind → DeclaredExpected → DeclaredWord → Step → Type 0
IsStep c e w s =
    (v : View) (cs : List RowKind) (l : Levels (List ℕ)) →
    roles_left c cs (expected_in v e) (with_word (word_in v w) l) ≡ left_by v c cs s l

-- what the words that are left make at a spot
abbrev pub left_at : View → Spot → Levels (List ℕ) → Result Layers ℕ
left_at v spot l = roles_left spot.kind (reverse spot.outer.items) (expected_in v spot.expected) l

-- behind a closing bracket
pub record IsLeft (before after : Spot) : Type 0 where
  pub kind : after.kind ≡ outermost (reverse before.outer.items)
  pub outer : reverse after.outer.items ≡ drop 1 (reverse before.outer.items)
  pub expected : after.expected ≡ ExpectsOperator

-- a word's role joins, or the word can't stand there: in either case with whatever words behind it
abbrev pub Advances : Spot → List Role → DeclaredWord → Spot → List Role → Option ℕ → Type 0
Advances before ms w after ns None =
    (v : View) (l : Levels (List ℕ)) →
    on_layers (with_roles v ms) (left_at v before (with_word (word_in v w) l)) ≡ on_layers (with_roles v ns) (left_at v after l)
Advances before ms w after ns (Some place) = (v : View) (l : Levels (List ℕ)) → left_at v before (with_word (word_in v w) l) ≡ Err place

-- no words are left
abbrev pub IsEnded : DeclaredExpected → List Role → ℕ → Roles → Type 0
IsEnded e ms stop (Given ns) = (e ≡ ExpectsOperator) × (ns.items ≡ ms)
IsEnded e ms stop (RolesRefused place) = (v : View) (c : RowKind) → roles c (expected_in v e) none stop ≡ Err place

-- a step's role has the word's node
abbrev pub RoleBelow : ℕ → Role → Type 0
RoleBelow n (Operand m) = m < n
RoleBelow n m = Unit {0}

abbrev pub StepBelow : ℕ → Step → Type 0
StepBelow n (On m c e) = RoleBelow n m
StepBelow n (Enter m c) = RoleBelow n m
StepBelow n s = Unit {0}

abbrev pub OperandBelow : ℕ → DeclaredAsOperand → Type 0
OperandBelow n (Minus m) = m < n
OperandBelow n (Plain m) = m < n
OperandBelow n a = Unit {0}

abbrev pub WordBelow : ℕ → DeclaredWord → Type 0
WordBelow n (Other place a o) = OperandBelow n a
WordBelow n w = Unit {0}

abbrev pub RolesBelow : ℕ → Roles → Type 0
RolesBelow n (Given ms) = All (RoleBelow n) ms.items
RolesBelow n (RolesRefused place) = Unit {0}

-- the roles of a clause's words, where its brackets match
abbrev pub HasRoles : ℕ → List DeclaredWord → Roles → Type 0
HasRoles stop ws (Given ms) =
    (v : View) → (levels_of stop (map (word_in v) ws)).outer ≡ [] →
    (clause_roles stop (map (word_in v) ws) ≡ Ok (rows_of v ms.items)) × ((with_roles v ms.items no_layers).outer ≡ [])
HasRoles stop ws (RolesRefused place) =
    (v : View) → (levels_of stop (map (word_in v) ws)).outer ≡ [] → clause_roles stop (map (word_in v) ws) ≡ Err place

-- the first integer that is too great
abbrev pub first_excess : List Role → Option ℕ
first_excess [] = None
first_excess (Excess place ∷ ms) = Some place
first_excess (m ∷ ms) = first_excess ms
