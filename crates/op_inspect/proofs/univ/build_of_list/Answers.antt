use Rattle.std.proofs.Common.{◌≡◌, ◌<◌, ℕ, List, ◌-◌, ap, sym, ◌∙◌, arith, length, drop, take, get_or}
use Rattle.op_logic.specs.Term.{Args, arg}
use Rattle.op_trace.specs.Database.{Text}
use Rattle.op_inspect.specs.Construction.{univ_listed, univ_of_elements}
use Rattle.op_inspect.specs.Lists.{Elements}
use Rattle.op_inspect.specs.Outcomes.{text_at, texts_of}
use Rattle.op_inspect.specs.inner.Seen.{texts}
use Rattle.op_inspect.proofs.Acting.{answers-same}
use Rattle.op_inspect.proofs.SeenLists.{texts-from, rest-whole}
use Rattle.op_inspect.proofs.univ.build_of_list.Goals as goal

pub returns-else-elements-eq0 : goal.returns-else-elements-eq0
returns-else-elements-eq0 c =
    let names = c.args.symbols.now in
    let s = c.args.bindings.now in
    let xs = c.args.elements.now in
    let e = c.index-elements-0.result in
    let left = c.args.fuel.now in
    let σ = texts_of names s in
    let t = text_at names s c.args.at.now in
    let l = text_at names s c.args.list.now in
    let others = texts names s (take (length xs - 1) (drop 1 xs)) in
    let some : 0 < length xs = omega (arith, c.if-elements-eq0.false) in
    let first : texts names s xs ≡ arg (text_at names s e) others =
    texts-from names s xs 0 e some
    ∙ (ap (λ (rs : List ℕ). arg (text_at names s (get_or xs 0 e)) (texts names s rs)) (sym (rest-whole xs))
    ∙ ap (λ (r : ℕ). arg (text_at names s r) others) (sym c.index-elements-0.is)) in
    answers-same (univ_listed (Elements (texts names s xs)) t l left σ) (univ_of_elements t (text_at names s e) others left σ) names
    c.build_of_elements.new.symbols s c.build_of_elements.new.bindings left c.build_of_elements.new.fuel c.build_of_elements.result
    (λ w _. ap (λ (ts : Args Text). univ_listed (Elements ts) t l left σ w) first)
    c.build_of_elements.ensures
