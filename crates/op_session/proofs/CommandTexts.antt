-- The commands, as they come byte by byte, and the course of the session that answers them.
use Rattle.std.proofs.Common.{◌≡◌, ℕ, zero, suc, ◌+◌, ◌-◌, ◌<◌, ◌≤◌, Bool, true, false, cond, List, [], ◌∷◌, ◌++◌, length, drop}
use Rattle.std.proofs.Common.{refl, sym, ap, ◌∙◌, subst, arith, zero-add, append_assoc, length-append}
use Rattle.std.proofs.lemmas.List.{append-nil}
use Rattle.std.specs.Prelude.{nat_lt}
use Rattle.std.proofs.lemmas.Bool.Decides.{nat_tests}
use Rattle.op_base.specs.Characters.{is_layout}
use Rattle.op_token.specs.declared.piece.Piece.{Piece}
use Rattle.op_token.specs.declared.piece.Piece.TheVariants.{Text, NoEnd, Empty}
use Rattle.op_token.specs.Cut.{cut_of, text_in, behind_layout, rest_in, IsText, IsOpen, IsFollowed, IsUnended}
use Rattle.op_token.proofs.TermTexts as cutting
use Rattle.op_session.specs.Traced.{Traced}
use Rattle.op_moves.specs.Moves.{Stand, at_start}
use Rattle.op_session.specs.Session.{Answer, answer_to, so_far, complete, is_due, command_text, behind_command}
use Rattle.op_session.specs.Session.{Course, no_more, answer_first, session_from, session}
use Rattle.op_session.specs.inner.Behind.{behind, resumed, with_answer}
use Rattle.op_session.specs.inner.Progress.{Cuts}

-- a followed text has a byte at least, and one behind it
pub followed_length : (p : List ℕ) → IsFollowed p → 2 ≤ length p
followed_length p f =
    let i = cutting.followed_is (cut_of p) (length p) f in
    let w = cutting.cut_within p i.0 i.1.0 i.1.1.0 in
    let e = i.1.1.1 in
    let h = w.0 in
    omega arith

pub rest_length : (p : List ℕ) → IsFollowed p → length (rest_in (cut_of p) p) ≤ 1
rest_length p f =
    let i = cutting.followed_is (cut_of p) (length p) f in
    subst (λ x. length (rest_in x p) ≤ 1) (sym i.1.1.0) (left (drop i.1.0 p) (drop_one p i.1.0 i.1.1.1))
  where
    left : (s : List ℕ) → length s ≡ 1 → length (behind_layout s) ≤ 1
    left [] h = omega arith
    left (b ∷ s) h = elim (is_layout b) as (λ c. length (cond c s (b ∷ s)) ≤ 1) [
      | true ↦ omega (arith, h)
      | false ↦ omega (arith, h)
    ]

    drop_one : (p : List ℕ) (n : ℕ) → suc n ≡ length p → length (drop n p) ≡ 1
    drop_one [] n h = absurd (omega arith)
    drop_one (x ∷ p) zero h = sym h
    drop_one (x ∷ p) (suc n) h = drop_one p n (omega arith)

-- while no text has a byte behind it, no command stands first
pub none_due : (traced : Traced) (n : ℕ) (s : Stand) (p : List ℕ) → IsOpen p → session_from traced false n s p ≡ no_more s
none_due traced zero s p o = refl
none_due traced (suc n) s p o =
    let x : Piece = cut_of p in
    let a : Answer = answer_to traced s (command_text x p) in
    ap (λ b. cond b (answer_first a (session_from traced false n a.stand (behind_command x p))) (no_more s)) (none x (length p) o)
  where
    none : (x : Piece) (n : ℕ) → IsUnended x n → is_due false x n ≡ false
    none (Text f t) n u = let e : t ≡ n = u in grind (arith, nat_tests)
    none NoEnd n u = refl
    none Empty n u = refl

lt_true : (m n : ℕ) → m < n → nat_lt m n ≡ true
lt_true m n h = grind (arith, nat_tests)

-- a text with a byte behind it is a command, whatever comes behind that
due_more : (over : Bool) (p r : List ℕ) → IsFollowed p → is_due over (cut_of p) (length (p ++ r)) ≡ true
due_more false p r f =
    let i = cutting.followed_is (cut_of p) (length p) f in
    let l : i.1.0 < length (p ++ r) = omega (arith, i.1.1.1, length-append p r) in
    subst (λ x. is_due false x (length (p ++ r)) ≡ true) (sym i.1.1.0) (lt_true i.1.0 (length (p ++ r)) l)
due_more true p r f =
    let i = cutting.followed_is (cut_of p) (length p) f in
    subst (λ x. is_due true x (length (p ++ r)) ≡ true) (sym i.1.1.0) refl

text_is_command : (x : Piece) (bytes : List ℕ) → IsText x → command_text x bytes ≡ text_in x bytes
text_is_command (Text f t) bytes h = refl
text_is_command NoEnd bytes h = absurd h
text_is_command Empty bytes h = absurd h

rest_is_behind : (x : Piece) (bytes : List ℕ) → IsText x → behind_command x bytes ≡ rest_in x bytes
rest_is_behind (Text f t) bytes h = refl
rest_is_behind NoEnd bytes h = absurd h
rest_is_behind Empty bytes h = absurd h

-- it is answered, and the session goes on behind it
pub followed_one : (traced : Traced) (over : Bool) (n : ℕ) (s : Stand) (p r : List ℕ) → IsFollowed p
    → session_from traced over (suc n) s (p ++ r)
    ≡ resumed traced (with_answer traced (no_more s) (text_in (cut_of p) p)) over n (rest_in (cut_of p) p ++ r)
followed_one traced over n s p r f =
    let q : List ℕ = p ++ r in
    let x : Piece = cut_of p in
    let whole : IsText x = cutting.followed_is_text p f in
    let here : Bool → List ℕ → List ℕ → Course = λ b t u.
    cond b (answer_first (answer_to traced s t) (session_from traced over n (answer_to traced s t).stand u)) (no_more s) in
    ap (λ y. here (is_due over y (length q)) (command_text y q) (behind_command y q)) (cutting.cut_more p r f)
    ∙ ap (λ b. here b (command_text x q) (behind_command x q)) (due_more over p r f)
    ∙ ap (λ t. here true t (behind_command x q)) (text_is_command x q whole ∙ cutting.text_more p r f)
    ∙ ap (λ u. here true (text_in x p) u) (rest_is_behind x q whole ∙ cutting.rest_more p r f)

-- an answer behind a course, and what comes behind that
one_between : (traced : Traced) (c : Course) (t : List ℕ) (d : Course)
    → behind c (behind (with_answer traced (no_more c.stand) t) d) ≡ behind (with_answer traced c t) d
one_between traced c t d =
    let a : Answer = answer_to traced c.stand t in
    let f : List (List ℕ) → Course = λ xs. record { answers = xs; stand = d.stand; left = d.left } in
    ap f (sym (append_assoc c.answers (a.text ∷ []) d.answers))

-- before the first byte
pub cuts_start : (traced : Traced) → Cuts traced (no_more at_start) [] []
cuts_start traced = record {
  count = 0;
  goes_on = λ over n r. ap (λ m. session_from traced over m at_start r) (zero-add n);
  unread = refl;
  short = omega arith;
}

-- a byte more
pub cuts_byte : (traced : Traced) (c : Course) (taken p : List ℕ) (b : ℕ) → Cuts traced c taken p
    → Cuts traced c (taken ++ b ∷ []) (p ++ b ∷ [])
cuts_byte traced c taken p b k =
    let short = k.short in
    record {
      count = k.count;
      goes_on = λ over n r. rw (append_assoc taken (b ∷ []) r, append_assoc p (b ∷ []) r) (k.goes_on over n (b ∷ r));
      unread = k.unread;
      short = omega (arith, length-append taken (b ∷ []), length-append p (b ∷ []));
    }

-- a command more
pub cuts_text : (traced : Traced) (c : Course) (taken p : List ℕ) → Cuts traced c taken p → IsFollowed p
    → Cuts traced (with_answer traced c (text_in (cut_of p) p)) taken (rest_in (cut_of p) p)
cuts_text traced c taken p k f =
    let t : List ℕ = text_in (cut_of p) p in
    let u : List ℕ = rest_in (cut_of p) p in
    let a : Answer = answer_to traced c.stand t in
    let more : (n : ℕ) → suc k.count + n ≡ k.count + suc n = λ n. omega arith in
    let short = k.short in
    record {
      count = suc k.count;
      goes_on = λ over n r.
          ap (λ m. session_from traced over m at_start (taken ++ r)) (more n)
          ∙ k.goes_on over (suc n) r
          ∙ ap (λ d. behind c d) (followed_one traced over n c.stand p r f)
          ∙ one_between traced c t (session_from traced over n a.stand (u ++ r));
      unread = refl;
      short = omega (arith, rest_length p f, followed_length p f);
    }

-- how many more commands there may be
pub record Fuel (count : ℕ) (bytes p : List ℕ) : Type 0 where
  pub more : ℕ
  pub all : length bytes ≡ count + more
  pub enough : length p ≤ more

pub fuel : (traced : Traced) (c : Course) (taken p r : List ℕ) (k : Cuts traced c taken p) → Fuel k.count (taken ++ r) p
fuel traced c taken p r k =
    let short = k.short in
    let l = length-append taken r in
    record {
      more = length (taken ++ r) - k.count;
      all = omega arith;
      enough = omega arith;
    }

-- the session over all bytes is the course so far, and what comes behind it
pub session_at : (traced : Traced) (c : Course) (taken p r : List ℕ) (over : Bool) (k : Cuts traced c taken p)
    → session traced (record { bytes = taken ++ r; over = over }) ≡ resumed traced c over (fuel traced c taken p r k).more (p ++ r)
session_at traced c taken p r over k =
    let u : Fuel k.count (taken ++ r) p = fuel traced c taken p r k in
    ap (λ m. session_from traced over m at_start (taken ++ r)) u.all ∙ k.goes_on over u.more r

pub session_here : (traced : Traced) (c : Course) (taken p : List ℕ) (over : Bool) (k : Cuts traced c taken p)
    → session traced (record { bytes = taken; over = over }) ≡ resumed traced c over (fuel traced c taken p [] k).more p
session_here traced c taken p over k =
    ap (λ t. session_from traced over (length t) at_start t) (sym (append-nil taken))
    ∙ session_at traced c taken p [] over k
    ∙ ap (λ q. resumed traced c over (fuel traced c taken p [] k).more q) (append-nil p)

none_behind : (c : Course) → c.left ≡ [] → behind c (no_more c.stand) ≡ c
none_behind c e =
    let f : List (List ℕ) → List ℕ → Course = λ xs l. record { answers = xs; stand = c.stand; left = l } in
    ap (λ xs. f xs []) (append-nil c.answers) ∙ ap (λ l. f c.answers l) (sym e)

-- the session over what was taken is the course so far, while no text has a byte behind it
pub so_far_is : (traced : Traced) (c : Course) (taken p : List ℕ) → Cuts traced c taken p → IsOpen p → session traced (so_far taken) ≡ c
so_far_is traced c taken p k o =
    session_here traced c taken p false k
    ∙ ap (λ d. behind c d) (none_due traced (fuel traced c taken p [] k).more c.stand p o)
    ∙ none_behind c k.unread

-- nothing is left to answer
over_none : (traced : Traced) (n : ℕ) (s : Stand) → session_from traced true n s [] ≡ no_more s
over_none traced zero s = refl
over_none traced (suc n) s = refl

filled : (p : List ℕ) → is_due true (cut_of p) (length p) ≡ true → 0 < length p
filled [] h = absurd cc
filled (b ∷ p) h = omega arith

-- behind the last command nothing is left
none_left : (p : List ℕ) → IsOpen p → behind_command (cut_of p) p ≡ []
none_left p o = by (cut_of p) refl
  where
    dropped : (p : List ℕ) (n : ℕ) → length p ≤ n → drop n p ≡ []
    dropped [] zero h = refl
    dropped [] (suc n) h = refl
    dropped (x ∷ p) zero h = absurd (omega arith)
    dropped (x ∷ p) (suc n) h = dropped p n (omega arith)

    by : (x : Piece) → cut_of p ≡ x → behind_command (cut_of p) p ≡ []
    by (Text f t) e =
        let u : t ≡ length p = subst (λ x. IsUnended x (length p)) e o in
        subst (λ x. behind_command x p ≡ []) (sym e) (ap behind_layout (dropped p t (omega (arith, u))))
    by NoEnd e = subst (λ x. behind_command x p ≡ []) (sym e) refl
    by Empty e = subst (λ x. behind_command x p ≡ []) (sym e) refl

-- the commands are over, and nothing but layout and comments is left
pub complete_none : (traced : Traced) (c : Course) (taken p : List ℕ) → Cuts traced c taken p → cut_of p ≡ Empty
    → session traced (complete taken) ≡ c
complete_none traced c taken p k e =
    session_here traced c taken p true k
    ∙ ap (λ d. behind c d) (none (fuel traced c taken p [] k).more c.stand)
    ∙ none_behind c k.unread
  where
    none : (n : ℕ) (s : Stand) → session_from traced true n s p ≡ no_more s
    none zero s = refl
    none (suc n) s =
        let a : Piece → Answer = λ x. answer_to traced s (command_text x p) in
        let more : Piece → Course = λ x. answer_first (a x) (session_from traced true n (a x).stand (behind_command x p)) in
        ap (λ x. cond (is_due true x (length p)) (more x) (no_more s)) e

some_more : (m : ℕ) → 0 < m → (k : ℕ) × (m ≡ suc k)
some_more zero h = absurd (omega arith)
some_more (suc k) h = (k, refl)

-- or one command is left
pub complete_one : (traced : Traced) (c : Course) (taken p : List ℕ) → Cuts traced c taken p → IsOpen p
    → is_due true (cut_of p) (length p) ≡ true
    → session traced (complete taken) ≡ with_answer traced c (command_text (cut_of p) p)
complete_one traced c taken p k o due =
    let u : Fuel k.count (taken ++ []) p = fuel traced c taken p [] k in
    let enough = u.enough in
    let some = filled p due in
    let j = some_more u.more (omega arith) in
    session_here traced c taken p true k
    ∙ ap (λ m. resumed traced c true m p) j.1
    ∙ ap (λ d. behind c d) (one j.0 c.stand)
  where
    one : (n : ℕ) (s : Stand)
        → session_from traced true (suc n) s p
        ≡ answer_first (answer_to traced s (command_text (cut_of p) p)) (no_more (answer_to traced s (command_text (cut_of p) p)).stand)
    one n s =
        let x : Piece = cut_of p in
        let a : Answer = answer_to traced s (command_text x p) in
        ap (λ b. cond b (answer_first a (session_from traced true n a.stand (behind_command x p))) (no_more s)) due
        ∙ ap (λ v. answer_first a (session_from traced true n a.stand v)) (none_left p o)
        ∙ ap (λ d. answer_first a d) (over_none traced n a.stand)

-- a session reads all bytes
pub all_read : (traced : Traced) (over : Bool) (n : ℕ) (s : Stand) (bytes : List ℕ) → (session_from traced over n s bytes).left ≡ []
all_read traced over zero s bytes = refl
all_read traced over (suc n) s bytes =
    let x : Piece = cut_of bytes in
    let a : Answer = answer_to traced s (command_text x bytes) in
    let more : Course = session_from traced over n a.stand (behind_command x bytes) in
    elim (is_due over x (length bytes)) as (λ b. (cond b (answer_first a more) (no_more s)).left ≡ []) [
      | true ↦ all_read traced over n a.stand (behind_command x bytes)
      | false ↦ refl
    ]
