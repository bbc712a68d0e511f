-- What is said to commands, front by front.
use Rattle.std.proofs.Common.{◌≡◌, ℕ, ◌-◌, List, [], ◌∷◌, ◌++◌, length, take, drop, true}
use Rattle.std.proofs.Common.{refl, sym, ap, ◌∙◌, subst, arith, append_assoc, length-append}
use Rattle.std.proofs.lemmas.List.{append-nil, take-append-drop, take_at}
use Rattle.op_token.specs.Cut.{cut_of, text_in, rest_in, IsOpen, IsFollowed}
use Rattle.op_session.specs.Traced.{Traced}
use Rattle.op_trace.specs.Outside.{Taking}
use Rattle.op_session.specs.Session.{answer_to, so_far, complete, Course, session_from, session, joined, said_by, said_in}
use Rattle.op_session.specs.Promise.{all_but_last, IsPrefix, IsBetween}
use Rattle.op_session.specs.inner.Behind.{with_answer}
use Rattle.op_session.specs.inner.Progress.{Cuts}
use Rattle.op_session.proofs.CommandTexts.{cuts_text, fuel, session_at, so_far_is}

pub joined_more : (xs ys : List (List ℕ)) → joined (xs ++ ys) ≡ joined xs ++ joined ys
joined_more [] ys = refl
joined_more (x ∷ xs) ys = ap (λ t. x ++ t) (joined_more xs ys) ∙ sym (append_assoc x (joined xs) (joined ys))

-- with one answer more
pub said_one : (traced : Traced) (c : Course) (t : List ℕ)
    → said_by (with_answer traced c t) ≡ said_by c ++ (answer_to traced c.stand t).text
said_one traced c t =
    let x : List ℕ = (answer_to traced c.stand t).text in
    joined_more c.answers (x ∷ []) ∙ ap (λ y. said_by c ++ y) (append-nil x)

pub prefix_take : (k : ℕ) (xs : List ℕ) → IsPrefix (take k xs) xs
prefix_take k xs = (drop k xs, sym (take-append-drop k xs))

pub prefix_more : (xs ys zs : List ℕ) → IsPrefix ys zs → IsPrefix (xs ++ ys) (xs ++ zs)
prefix_more xs ys zs p = (p.0, ap (λ t. xs ++ t) p.1 ∙ sym (append_assoc xs ys p.0))

pub prefix_longer : (xs ys zs : List ℕ) → IsPrefix xs ys → IsPrefix xs (ys ++ zs)
prefix_longer xs ys zs p = (p.0 ++ zs, ap (λ t. t ++ zs) p.1 ∙ append_assoc xs p.0 zs)

pub prefix_self : (xs : List ℕ) → IsPrefix xs xs
prefix_self xs = ([], sym (append-nil xs))

prefix_then : (xs ys zs : List ℕ) → IsPrefix xs ys → IsPrefix ys zs → IsPrefix xs zs
prefix_then xs ys zs p q = subst (IsPrefix xs) (sym q.1) (prefix_longer xs ys q.0 p)

-- a front of an answer, behind those before it
pub answer_front : (traced : Traced) (c : Course) (text : List ℕ) (n : ℕ)
    → IsPrefix (said_by c ++ take n (answer_to traced c.stand text).text) (said_by (with_answer traced c text))
answer_front traced c text n =
    let answer : List ℕ = (answer_to traced c.stand text).text in
    let w : List ℕ = said_by c ++ take n answer in
    subst (IsPrefix w) (sym (said_one traced c text)) (prefix_more (said_by c) (take n answer) answer (prefix_take n answer))

-- an answer that was begun lies between those before it and all up to it
pub between : (traced : Traced) (c : Course) (t u : Taking) (text : List ℕ) (n : ℕ) → session traced t ≡ c
    → session traced u ≡ with_answer traced c text
    → IsBetween (said_in traced t) (said_by c ++ take n (answer_to traced c.stand text).text) (said_in traced u)
between traced c t u text n e f =
    let front : List ℕ = take n (answer_to traced c.stand text).text in
    let w : List ℕ = said_by c ++ front in (
      subst (λ (d : Course). IsPrefix (said_by d) w) (sym e) (prefix_longer (said_by c) (said_by c) front (prefix_self (said_by c))),
      subst (λ (d : Course). IsPrefix w (said_by d)) (sym f) (answer_front traced c text n),
    )

pub but_last : (xs : List ℕ) (x : ℕ) → all_but_last (xs ++ x ∷ []) ≡ xs
but_last xs x =
    let n : length xs ≡ length (xs ++ x ∷ []) - 1 = omega (arith, length-append xs (x ∷ [])) in
    subst (λ n. take n (xs ++ x ∷ []) ≡ xs) n (take_at xs (x ∷ []) (length xs) refl)

-- the session over what was taken but for a byte that was not kept
pub whole_kept : (traced : Traced) (c : Course) (taken p : List ℕ) (byte : ℕ) → Cuts traced c taken p → IsOpen p
    → session traced (so_far (all_but_last (taken ++ byte ∷ []))) ≡ c
whole_kept traced c taken p byte k o = ap (λ t. session traced (so_far t)) (but_last taken byte) ∙ so_far_is traced c taken p k o

pub front_so_far : (traced : Traced) (c : Course) (taken p r : List ℕ) → Cuts traced c taken p
    → IsPrefix (said_by c) (said_in traced (complete (taken ++ r)))
front_so_far traced c taken p r k =
    let d : Course = session_from traced true (fuel traced c taken p r k).more c.stand (p ++ r) in
    (said_by d, ap said_by (session_at traced c taken p r true k) ∙ joined_more c.answers d.answers)

-- and a front of the next answer
pub front_of_answer : (traced : Traced) (c : Course) (taken p r : List ℕ) (n : ℕ) → Cuts traced c taken p → IsFollowed p
    → IsPrefix (said_by c ++ take n (answer_to traced c.stand (text_in (cut_of p) p)).text) (said_in traced (complete (taken ++ r)))
front_of_answer traced c taken p r n k f =
    let t : List ℕ = text_in (cut_of p) p in
    let w : List ℕ = said_by c ++ take n (answer_to traced c.stand t).text in
    prefix_then w (said_by (with_answer traced c t)) (said_in traced (complete (taken ++ r))) (answer_front traced c t n)
    (front_so_far traced (with_answer traced c t) taken (rest_in (cut_of p) p) r (cuts_text traced c taken p k f))
