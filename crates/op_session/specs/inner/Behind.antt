-- The course of a session, put together: what was answered, and what comes behind it.
use Rattle.std.specs.Prelude.{◌≡◌, ℕ, Bool, true, List, [], ◌∷◌, ◌++◌, length}
use Rattle.op_token.specs.Cut.{cut_of}
use Rattle.op_session.specs.Traced.{Traced}
use Rattle.op_session.specs.Session.{Answer, answer_to, is_due, command_text, Course, session_from}

-- one course behind another: what is left is what the second leaves
abbrev pub behind : Course → Course → Course
behind c d = record { answers = c.answers ++ d.answers; stand = d.stand; left = d.left }

-- a session that goes on behind this course, over these bytes
abbrev pub resumed : Traced → Course → Bool → ℕ → List ℕ → Course
resumed traced c over n bytes = behind c (session_from traced over n c.stand bytes)

-- a course, and the answer to one command more
abbrev pub with_answer : Traced → Course → List ℕ → Course
with_answer traced c text =
    let a : Answer = answer_to traced c.stand text in record { answers = c.answers ++ a.text ∷ []; stand = a.stand; left = [] }

-- the last bytes are a command, and this is its text
abbrev pub IsRest : List ℕ → List ℕ → Type 0
IsRest p text = (is_due true (cut_of p) (length p) ≡ true) × (text ≡ command_text (cut_of p) p)
