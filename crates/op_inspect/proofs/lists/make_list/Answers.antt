use Rattle.std.proofs.Common.{◌≡◌, ℕ, ◌-◌, ◌<◌, sym, subst, arith, refl, length, drop}
use Rattle.op_logic.specs.Term.{Args}
use Rattle.op_trace.specs.Database.{Text}
use Rattle.op_inspect.specs.Lists.{list_of}
use Rattle.op_inspect.specs.inner.Seen.{texts}
use Rattle.op_inspect.specs.inner.Settings.{Makes}
use Rattle.op_inspect.proofs.SeenLists.{texts-whole, element-known, list-more}
use Rattle.op_inspect.proofs.TextsLater.{known-later, stays-stays}
use Rattle.op_inspect.proofs.lists.make_list.Goals as goal

pub back-init : goal.back-init
back-init c =
    let a = c.args.symbols.now in
    let s = c.args.bindings.now in
    let xs = c.args.elements.now in
    record {
      made = subst (λ (ts : Args Text). Makes a s c.make_atom.new.symbols c.make_atom.new.bindings c.in_ok-list.list (list_of ts))
          (sym (texts-whole a s xs (length xs) refl)) c.in_ok-list.ensures.made;
      stays = c.in_ok-list.ensures.stays;
      within = omega arith;
    }

pub make_pair-requires-clause-first : goal.make_pair-requires-clause-first
make_pair-requires-clause-first c =
    let a = c.args.symbols.now in
    let s = c.args.bindings.now in
    let xs = c.args.elements.now in
    let below : c.back.i - 1 < length xs = omega (arith, c.back-test.true, c.back.invariant.within) in
    known-later a c.back.symbols s c.back.bindings c.index-elements-i.result c.back.invariant.stays
    (element-known a s xs (c.back.i - 1) c.index-elements-i.result below c.index-elements-i.is c.requires)

pub make_pair-requires-clause-second : goal.make_pair-requires-clause-second
make_pair-requires-clause-second c = c.back.invariant.made.known

pub back-preserved : goal.back-preserved
back-preserved c =
    let a = c.args.symbols.now in
    let s = c.args.bindings.now in
    let xs = c.args.elements.now in
    let i = c.back.i - 1 in
    let below : i < length xs = omega (arith, c.back-test.true, c.back.invariant.within) in
    record {
      made = list-more a c.back.symbols c.make_pair.new.symbols s c.back.bindings c.make_pair.new.bindings c.back.list c.in_ok-list-2.list
          i c.back.i xs c.index-elements-i.result below c.index-elements-i.is (omega (arith, c.back-test.true)) c.requires
          c.back.invariant.stays c.back.invariant.made
          c.in_ok-list-2.ensures.made;
      stays = stays-stays a c.back.symbols c.make_pair.new.symbols s c.back.bindings c.make_pair.new.bindings c.back.invariant.stays
          c.in_ok-list-2.ensures.stays;
      within = omega (arith, below);
    }

pub returns-clause-made : goal.returns-clause-made
returns-clause-made c =
    let a = c.args.symbols.now in
    let s = c.args.bindings.now in
    let xs = c.args.elements.now in
    let none : c.back.i ≡ 0 = omega (arith, c.back-test.false) in
    subst (λ (k : ℕ). Makes a s c.back.symbols c.back.bindings c.back.list (list_of (texts a s (drop k xs)))) none c.back.invariant.made
