-- The names that come first, by their numbers.
use Rattle.std.proofs.Common.{◌≡◌, ℕ, ◌<◌, ◌≤◌, List, length, take, ap, ◌∙◌, arith}
use Rattle.op_logic.specs.Names.{name_at}
use Rattle.op_logic.proofs.NameTables.{name-more}
use Rattle.op_store.specs.Stored.{first_names}
use Rattle.op_store.specs.inner.Converted.{AreControlNames}
use Rattle.op_store.specs.declared.names.control_names.ControlNames.{ControlNames}
use Rattle.op_store.proofs.ConvertedTerm.{names-more}

-- a number below theirs has its first name
first-name : (names : List (List ℕ)) (m k : ℕ) → take (length first_names) names ≡ first_names → m ≡ k → k < 22
    → name_at names m ≡ name_at first_names k
first-name names m k b e h = ap (name_at names) e ∙ name-more first_names names b k h

pub first-control : (names : List (List ℕ)) (k : ControlNames) → take (length first_names) names ≡ first_names → k.comma.0 ≡ 3
    → k.semicolon.0 ≡ 4 → k.arrow.0 ≡ 5 → k.call.0 ≡ 7 → AreControlNames names k
first-control names k b comma semicolon arrow call =
    let l : 22 ≤ length names = names-more first_names names b in
    record {
      comma = first-name names k.comma.0 3 b comma (omega arith);
      semicolon = first-name names k.semicolon.0 4 b semicolon (omega arith);
      arrow = first-name names k.arrow.0 5 b arrow (omega arith);
      call = first-name names k.call.0 7 b call (omega arith);
      comma_there = omega (arith, l, comma);
      semicolon_there = omega (arith, l, semicolon);
      arrow_there = omega (arith, l, arrow);
      call_there = omega (arith, l, call);
    }
