-- The builtins on terms by their names and numbers of arguments, each as an act.
use Rattle.std.specs.Prelude.{ℕ, ◌==◌, Bool, false, Option, Some, None, option_map, codes, if◌then◌else◌}
use Rattle.std.specs.Option.{is_some}
use Rattle.op_logic.specs.Term.{Term, node, no_args, arg}
use Rattle.op_logic.specs.Bind.{Bindings}
use Rattle.op_trace.specs.Database.{Text, text_eq}
use Rattle.op_trace.specs.World.{World}
use Rattle.op_trace.specs.Act.{Act, Fails, done}
use Rattle.op_inspect.specs.Answering.{equal_act, different_act}
use Rattle.op_inspect.specs.TypeTests.{test_act, ground_act}
use Rattle.op_inspect.specs.Comparison.{order_act, compare_act}
use Rattle.op_inspect.specs.Construction.{functor_act, arg_act, univ_act}
use Rattle.op_inspect.specs.Copies.{copy_act, variables_act}
use Rattle.op_inspect.specs.Evaluation.{is_act, arithmetic_act}
use Rattle.op_inspect.specs.declared.relation.Relation.{Relation}
use Rattle.op_inspect.specs.declared.relation.Relation.TheVariants.{Same, Different, Below, AtMost, Above, AtLeast}
use Rattle.op_inspect.specs.declared.type_test.TypeTest.{TypeTest}
use Rattle.op_inspect.specs.declared.type_test.TypeTest.TheVariants.{Variable, Nonvariable, Atom, Integer, Atomic, Compound, Callable}
use Rattle.op_inspect.specs.declared.builtin.OfOne.{OfOne}
use Rattle.op_inspect.specs.declared.builtin.OfOne.TheVariants as one
use Rattle.op_inspect.specs.declared.builtin.OfTwo.{OfTwo}
use Rattle.op_inspect.specs.declared.builtin.OfTwo.TheVariants as two
use Rattle.op_inspect.specs.declared.builtin.OfThree.{OfThree}
use Rattle.op_inspect.specs.declared.builtin.OfThree.TheVariants as three

-- of one argument
abbrev pub test_of : Text → Option TypeTest
test_of f =
    if text_eq f (codes "var") then Some Variable else
    if text_eq f (codes "nonvar") then Some Nonvariable else
    if text_eq f (codes "atom") then Some Atom else
    if text_eq f (codes "integer") then Some Integer else
    if text_eq f (codes "number") then Some Integer else
    if text_eq f (codes "atomic") then Some Atomic else
    if text_eq f (codes "compound") then Some Compound else
    if text_eq f (codes "callable") then Some Callable else
    None

abbrev pub of_one : Text → Option OfOne
of_one f = if text_eq f (codes "ground") then Some one.Ground else option_map one.Test (test_of f)

-- of two: relations of terms, and of values
abbrev pub order_of : Text → Option Relation
order_of f =
    if text_eq f (codes "==") then Some Same else
    if text_eq f (codes "\\==") then Some Different else
    if text_eq f (codes "@<") then Some Below else
    if text_eq f (codes "@=<") then Some AtMost else
    if text_eq f (codes "@>") then Some Above else
    if text_eq f (codes "@>=") then Some AtLeast else
    None

abbrev pub values_of : Text → Option Relation
values_of f =
    if text_eq f (codes "=:=") then Some Same else
    if text_eq f (codes "=\\=") then Some Different else
    if text_eq f (codes "<") then Some Below else
    if text_eq f (codes "=<") then Some AtMost else
    if text_eq f (codes ">") then Some Above else
    if text_eq f (codes ">=") then Some AtLeast else
    None

abbrev pub relation_of : Option Relation → Option Relation → Option OfTwo
relation_of (Some r) _ = Some (two.Order r)
relation_of None values = option_map two.Values values

abbrev pub of_two : Text → Option OfTwo
of_two f =
    if text_eq f (codes "=") then Some two.Equal else
    if text_eq f (codes "\\=") then Some two.Different else
    if text_eq f (codes "is") then Some two.Is else
    if text_eq f (codes "=..") then Some two.Univ else
    if text_eq f (codes "copy_term") then Some two.Copy else
    if text_eq f (codes "term_variables") then Some two.Variables else
    relation_of (order_of f) (values_of f)

-- of three
abbrev pub of_three : Text → Option OfThree
of_three f =
    if text_eq f (codes "functor") then Some three.Functor else
    if text_eq f (codes "arg") then Some three.Arg else
    if text_eq f (codes "compare") then Some three.Compare else
    None

abbrev pub act_of_one : OfOne → Term Text → ℕ → Bindings Text → World → Act
act_of_one (one.Test test) a left σ w = test_act test a σ w
act_of_one one.Ground a left σ w = ground_act a left σ w

abbrev pub act_of_two : OfTwo → Term Text → Term Text → ℕ → Bindings Text → World → Act
act_of_two two.Equal a b left σ w = equal_act a b left σ w
act_of_two two.Different a b left σ w = different_act a b left σ w
act_of_two (two.Order r) a b left σ w = order_act r a b left σ w
act_of_two (two.Values r) a b left σ w = arithmetic_act r a b left σ w
act_of_two two.Is a b left σ w = is_act a b left σ w
act_of_two two.Univ a b left σ w = univ_act a b left σ w
act_of_two two.Copy a b left σ w = copy_act a b left σ w
act_of_two two.Variables a b left σ w = variables_act a b left σ w

abbrev pub act_of_three : OfThree → Term Text → Term Text → Term Text → ℕ → Bindings Text → World → Act
act_of_three three.Functor a b c left σ w = functor_act a b c left σ w
act_of_three three.Arg a b c left σ w = arg_act a b c left σ w
act_of_three three.Compare a b c left σ w = compare_act a b c left σ w

-- the act of a goal, if it is one of them
abbrev pub inspected : ℕ → Term Text → Bindings Text → World → Option Act
inspected left (node f (arg a no_args)) σ w = option_map (λ k. act_of_one k a left σ w) (of_one f)
inspected left (node f (arg a (arg b no_args))) σ w = option_map (λ k. act_of_two k a b left σ w) (of_two f)
inspected left (node f (arg a (arg b (arg c no_args)))) σ w = option_map (λ k. act_of_three k a b c left σ w) (of_three f)
inspected left g σ w = None

-- one that is none of them fails
abbrev pub act_if_any : World → Option Act → Act
act_if_any w None = done w Fails
act_if_any w (Some a) = a

abbrev pub act_on_terms : ℕ → Term Text → Bindings Text → World → Act
act_on_terms left g σ w = act_if_any w (inspected left g σ w)

-- whether a name with so many arguments is one of them
abbrev pub is_builtin : Text → ℕ → Bool
is_builtin f n =
    if n == 1 then is_some (of_one f) else
    if n == 2 then is_some (of_two f) else
    if n == 3 then is_some (of_three f) else
    false
