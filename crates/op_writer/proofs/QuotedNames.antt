-- Names in quotes.
use Rattle.std.proofs.Common.{◌≡◌, ◌<◌, ◌-◌, ℕ, Bool, true, false, List, [], ◌∷◌, ◌++◌, length, take, drop, map, Some, codes, refl, sym}
use Rattle.std.proofs.Common.{◌∙◌, ap, arith, length-append, if◌then◌else◌}
use Rattle.std.specs.List.{flat_map, slice_get}
use Rattle.std.specs.Option.{option_map_or}
use Rattle.std.specs.Str.{chars}
use Rattle.std.proofs.lemmas.List.{take-append-drop, append_assoc, map-id}
use Rattle.std.proofs.lemmas.List.Concat.{flat_map-append}
use Rattle.std.proofs.lemmas.Option.{slice_get-get_or}
use Rattle.std.proofs.Math.Seq.{get_or-append_seam}
use Rattle.op_writer.specs.declared.edge.Edge.{Edge}
use Rattle.op_writer.specs.declared.edge.Edge.TheVariants.{Other, Prefix}
use Rattle.op_writer.specs.Cut.{front_of}
use Rattle.op_writer.specs.Fragments.{edge_of, edge_at, prefix_edge}
use Rattle.op_writer.specs.Spelling.{escaped, quoted}
use Rattle.op_writer.proofs.TextFronts.{front-again, front-full}

-- the characters of a name up to some of them
abbrev begun : List ℕ → List ℕ → List ℕ
begun old seen = old ++ (codes "'" ++ flat_map escaped seen)

begun-more : (old seen rest : List ℕ) → old ++ (codes "'" ++ (flat_map escaped (seen ++ rest) ++ codes "'"))
    ≡ begun old seen ++ (flat_map escaped rest ++ codes "'")
begun-more old seen rest =
    ap (λ (x : List ℕ). old ++ (codes "'" ++ (x ++ codes "'"))) (flat_map-append escaped seen rest)
    ∙ (ap (λ (x : List ℕ). old ++ (codes "'" ++ x)) (append_assoc (flat_map escaped seen) (flat_map escaped rest) (codes "'"))
    ∙ sym (append_assoc old (codes "'" ++ flat_map escaped seen) (flat_map escaped rest ++ codes "'")))

-- a front that is full on the way
pub quoted-stops : (n : ℕ) (old name seen b : List ℕ) → map (λ (c : ℕ). c) seen ≡ take (length seen) (chars name)
    → b ≡ front_of n (begun old seen) → n < length b → b ≡ front_of n (old ++ quoted name)
quoted-stops n old name seen b s e l =
    let cs = chars name in
    let rest = drop (length seen) cs in
    let all : seen ++ rest ≡ cs = ap (λ (x : List ℕ). x ++ rest) (sym (map-id seen) ∙ s) ∙ take-append-drop (length seen) cs in
    let whole : begun old seen ++ (flat_map escaped rest ++ codes "'") ≡ old ++ quoted name =
    sym (begun-more old seen rest) ∙ ap (λ (x : List ℕ). old ++ (codes "'" ++ (flat_map escaped x ++ codes "'"))) all in
    e ∙ (front-full n (begun old seen) (flat_map escaped rest ++ codes "'") (omega (arith, l, ap length e)) ∙ ap (front_of n) whole)

-- the closing quote
pub quoted-ends : (n : ℕ) (old name seen b new : List ℕ) → map (λ (c : ℕ). c) seen ≡ chars name
    → b ≡ front_of n (begun old seen) → new ≡ front_of n (b ++ codes "'") → new ≡ front_of n (old ++ quoted name)
quoted-ends n old name seen b new s e h =
    h ∙ (ap (λ (x : List ℕ). front_of n (x ++ codes "'")) e
    ∙ (front-again n (begun old seen) (codes "'")
    ∙ (ap (front_of n) (append_assoc old (codes "'" ++ flat_map escaped seen) (codes "'"))
    ∙ ap (λ (x : List ℕ). front_of n (old ++ (codes "'" ++ (flat_map escaped x ++ codes "'")))) (sym (map-id seen) ∙ s))))

edge-last : (e : Edge) (t : List ℕ) → edge_of e (t ++ 39 ∷ []) ≡ Other
edge-last e t =
    let n : length (t ++ 39 ∷ []) - 1 ≡ length t = omega (arith, length-append t (39 ∷ [])) in
    let get : slice_get (t ++ 39 ∷ []) (length t) ≡ Some 39 =
    slice_get-get_or (t ++ 39 ∷ []) (length t) 0 (omega (arith, length-append t (39 ∷ [])))
    ∙ ap (λ (x : ℕ). Some x) (get_or-append_seam t 39 [] 0) in
    ap (λ (k : ℕ). option_map_or edge_at (slice_get (t ++ 39 ∷ []) k) e) n ∙ ap (λ o. option_map_or edge_at o e) get

pub edge-quoted : (b : Bool) (e : Edge) (name : List ℕ)
    → (if b then Prefix else Other) ≡ (if b then prefix_edge (quoted name) else edge_of e (quoted name))
edge-quoted true e name = refl
edge-quoted false e name = sym (edge-last e (codes "'" ++ flat_map escaped (chars name)))
