-- Names that are not empty.
use Rattle.std.proofs.Common.{◌≡◌, ◌<◌, ℕ, ◌&&◌, List, [], ◌∷◌, length, drop, get_or, refl, arith}
use Rattle.std.specs.List.{list_all}
use Rattle.op_base.specs.Characters.{is_symbol, is_word, is_small}
use Rattle.op_writer.specs.Spelling.{is_symbolic, is_word_name}

pub symbolic-some : (name : List ℕ) → 0 < length name → list_all is_symbol name ≡ is_symbolic name
symbolic-some [] h = absurd (omega arith)
symbolic-some (b ∷ bs) h = refl

pub word-name-some : (name : List ℕ) → 0 < length name → is_small (get_or name 0 0) && list_all is_word (drop 1 name) ≡ is_word_name name
word-name-some [] h = absurd (omega arith)
word-name-some (b ∷ bs) h = refl
