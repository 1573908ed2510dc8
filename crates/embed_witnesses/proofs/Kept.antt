-- A witness with a path of two steps or more, with the first of them contracted.
use Rattle.std.proofs.Common.{◌≡◌, ◌≢◌, ◌⊎◌, ◌&&◌, ◌||◌, ◌==◌, not, ℕ, suc, ◌-◌, ◌<◌, ◌≤◌, Bool, true, length, refl, sym, ap, ◌∙◌, subst, inl, inr, arith, eq-eqb, ne_eqb}
use Rattle.std.specs.Prelude.{if◌then◌else◌, nat_lt}
use Rattle.std.proofs.lemmas.Bool.{cases_eq, cases_order, and_from, or_left, or_right}
use Rattle.std.proofs.lemmas.Bool.Decides.{nat_tests}
use Rattle.graphs.specs.Graphs.{EdgeGraph, IsGraph, has_edge}
use Rattle.graphs.proofs.EdgeLemmas.{has_edge-turned}
use Rattle.kuratowski.specs.Witnesses.{pair_at, vertex_at, path_at}
use Rattle.kuratowski.specs.declared.witness.Kind.{Kind}
use Rattle.embed_contraction.specs.Traces.{path_count}
use Rattle.embed_contraction.proofs.Parts.{all_or_one}
use Rattle.embed_contraction.specs.Contracted.{before_left, contracted_edge}
use Rattle.embed_contraction.proofs.Frames.{IsFrame, HasSteps, frame-witness, witness-frame, frame-map}
use Rattle.embed_contraction.proofs.AtVertex.{step_apart}
use Rattle.embed_witnesses.specs.ContractedEdges.{contraction}
use Rattle.embed_witnesses.proofs.ContractedLemmas.{edge_within, IsContraction-contraction}
use Rattle.embed_witnesses.specs.Kept.{IsKept, PlainOrKept}
use Rattle.embed_witnesses.proofs.Shortened.{size', way', frame', gone_off, gone_branch, cases_step}
use Rattle.embed_witnesses.proofs.Contracted.{before-first}

-- ---- numbers in the contracted graph: s, of the two ends, gets the number of the lesser, and g, the other, one that no vertex has
abbrev number : ℕ → ℕ → ℕ → ℕ → ℕ → ℕ → ℕ
number n a b s g v = if v == g then n - 1 else if v == s then a else if nat_lt v b then v else if nat_lt v n then v - 1 else v

-- s and g are the two ends
abbrev AreEnds : ℕ → ℕ → ℕ → ℕ → Type 0
AreEnds a b s g = ((s ≡ a) × (g ≡ b)) ⊎ ((s ≡ b) × (g ≡ a))

number-apart : (n a b s g u v : ℕ) → a < b → b < n → AreEnds a b s g → number n a b s g u ≡ number n a b s g v → u ≡ v
number-apart n a b s g u v ab bn ends e = elim ends [ inl h ↦ let x = h.0 in let y = h.1 in grind (arith, nat_tests) | inr h ↦ let x = h.0 in let y = h.1 in grind (arith, nat_tests) ]

number-lt : (n a b s g v : ℕ) → a < b → b < n → AreEnds a b s g → v < n → number n a b s g v < n
number-lt n a b s g v ab bn ends l = elim ends [ inl h ↦ let x = h.0 in let y = h.1 in grind (arith, nat_tests) | inr h ↦ let x = h.0 in let y = h.1 in grind (arith, nat_tests) ]

number-less : (n a b s g v : ℕ) → a < b → b < n → AreEnds a b s g → v ≢ g → v < n → number n a b s g v < n - 1
number-less n a b s g v ab bn ends ne l = elim ends [ inl h ↦ let x = h.0 in let y = h.1 in grind (arith, nat_tests) | inr h ↦ let x = h.0 in let y = h.1 in grind (arith, nat_tests) ]

number-end : (n a b s g : ℕ) → a < b → AreEnds a b s g → number n a b s g s ≡ a
number-end n a b s g ab ends = elim ends [ inl h ↦ let x = h.0 in let y = h.1 in grind (arith, nat_tests) | inr h ↦ let x = h.0 in let y = h.1 in grind (arith, nat_tests) ]

number-back : (n a b s g v : ℕ) → a < b → b < n → AreEnds a b s g → v < n → v ≢ g → v ≢ s → before_left b (number n a b s g v) ≡ v
number-back n a b s g v ab bn ends l ng ns = elim ends [ inl h ↦ let x = h.0 in let y = h.1 in grind (arith, nat_tests) | inr h ↦ let x = h.0 in let y = h.1 in grind (arith, nat_tests) ]

-- ---- edges
one_of_three : (p q r : Bool) → p ≡ true → (p || q || r) ≡ true
one_of_three p q r e = or_left (p || q) r (or_left p q e)

two_of_three : (p q r : Bool) → q ≡ true → (p || q || r) ≡ true
two_of_three p q r e = or_left (p || q) r (or_right p q e)

three_of_three : (p q r : Bool) → r ≡ true → (p || q || r) ≡ true
three_of_three p q r e = or_right (p || q) r e

module _ (graph : EdgeGraph) (known : IsGraph graph) (a b : ℕ) (order : a < b) (bound : b < graph.n) (s g : ℕ) (ends : AreEnds a b s g) where
  abbrev E : ℕ → ℕ → Type 0
  E u v = has_edge graph u v ≡ true

  abbrev to : ℕ → ℕ
  to v = number graph.n a b s g v

  turn : (u v : ℕ) → E u v → E v u
  turn u v e = has_edge-turned graph v u ∙ e

  -- an edge of one of the ends is one of a or of b
  of_two : (v : ℕ) → E s v ⊎ E g v → E a v ⊎ E b v
  of_two v e =
      elim ends [
        | inl h ↦ elim e [ inl d ↦ inl (subst (λ x. E x v) h.0 d) | inr d ↦ inr (subst (λ x. E x v) h.1 d) ]
        | inr h ↦ elim e [ inl d ↦ inr (subst (λ x. E x v) h.0 d) | inr d ↦ inl (subst (λ x. E x v) h.1 d) ]
      ]

  abbrev first : ℕ → ℕ → Bool
  first u v = has_edge graph (before_left b u) (before_left b v)

  abbrev second : ℕ → ℕ → Bool
  second u v = (u == a) && has_edge graph b (before_left b v)

  abbrev third : ℕ → ℕ → Bool
  third u v = (v == a) && has_edge graph (before_left b u) b

  kept_edge : (x y : ℕ) → x < graph.n → y < graph.n → x ≢ g → y ≢ g → x ≢ y → E x y ⊎ (((x ≡ s) × E g y) ⊎ ((y ≡ s) × E g x)) → contracted_edge graph a b (to x) (to y) ≡ true
  kept_edge x y lx ly gx gy ne e =
      and_from (not (to x == to y)) (first (to x) (to y) || second (to x) (to y) || third (to x) (to y))
      (ap not (ne_eqb (to x) (to y) (λ q. ne (number-apart graph.n a b s g x y order bound ends q))))
      (elim (cases_eq x s) [
        | inl at_x ↦
            let u : to x ≡ a = ap to at_x ∙ number-end graph.n a b s g order ends in
            let bu : before_left b (to x) ≡ a = ap (before_left b) u ∙ before-first a b order in
            let bv : before_left b (to y) ≡ y = number-back graph.n a b s g y order bound ends ly gy (λ q. ne (at_x ∙ sym q)) in
            let near : E s y ⊎ E g y = elim e [ inl d ↦ inl (subst (λ z. E z y) at_x d) | inr r ↦ elim r [ inl h ↦ inr h.1 | inr h ↦ absurd (ne (at_x ∙ sym h.0)) ] ] in
            elim (of_two y near) [
              | inl d ↦ one_of_three (first (to x) (to y)) (second (to x) (to y)) (third (to x) (to y)) (ap (λ z. has_edge graph z (before_left b (to y))) bu ∙ (ap (has_edge graph a) bv ∙ d))
              | inr d ↦ two_of_three (first (to x) (to y)) (second (to x) (to y)) (third (to x) (to y)) (and_from (to x == a) (has_edge graph b (before_left b (to y))) (eq-eqb (to x) a u) (ap (has_edge graph b) bv ∙ d))
            ]
        | inr off_x ↦
            let bu : before_left b (to x) ≡ x = number-back graph.n a b s g x order bound ends lx gx off_x in
            elim (cases_eq y s) [
              | inl at_y ↦
                  let v : to y ≡ a = ap to at_y ∙ number-end graph.n a b s g order ends in
                  let bv : before_left b (to y) ≡ a = ap (before_left b) v ∙ before-first a b order in
                  let near : E s x ⊎ E g x = elim e [ inl d ↦ inl (turn x s (subst (λ z. E x z) at_y d)) | inr r ↦ elim r [ inl h ↦ absurd (off_x h.0) | inr h ↦ inr h.1 ] ] in
                  elim (of_two x near) [
                    | inl d ↦ one_of_three (first (to x) (to y)) (second (to x) (to y)) (third (to x) (to y)) (ap (λ z. has_edge graph z (before_left b (to y))) bu ∙ (ap (has_edge graph x) bv ∙ turn a x d))
                    | inr d ↦ three_of_three (first (to x) (to y)) (second (to x) (to y)) (third (to x) (to y)) (and_from (to y == a) (has_edge graph (before_left b (to x)) b) (eq-eqb (to y) a v) (ap (λ z. has_edge graph z b) bu ∙ turn b x d))
                  ]
              | inr off_y ↦
                  let bv : before_left b (to y) ≡ y = number-back graph.n a b s g y order bound ends ly gy off_y in
                  let d : E x y = elim e [ inl d ↦ d | inr r ↦ elim r [ inl h ↦ absurd (off_x h.0) | inr h ↦ absurd (off_y h.0) ] ] in
                  one_of_three (first (to x) (to y)) (second (to x) (to y)) (third (to x) (to y)) (ap (λ z. has_edge graph z (before_left b (to y))) bu ∙ (ap (has_edge graph x) bv ∙ d))
            ]
      ])

  small_edge : (x y : ℕ) → x < graph.n → y < graph.n → x ≢ g → y ≢ g → x ≢ y → E x y ⊎ (((x ≡ s) × E g y) ⊎ ((y ≡ s) × E g x)) → has_edge (contraction graph a b) (to x) (to y) ≡ true
  small_edge x y lx ly gx gy ne e =
      (IsContraction-contraction graph a b (omega arith)).edges (to x) (to y) (number-less graph.n a b s g x order bound ends gx lx) (number-less graph.n a b s g y order bound ends gy ly) ∙ kept_edge x y lx ly gx gy ne e

-- ---- the witness
module _ (graph : EdgeGraph) (known : IsGraph graph) (kind : Kind) (branch size : ℕ → ℕ) (way : ℕ → ℕ → ℕ) (frame : IsFrame graph.n kind branch size way) (steps : HasSteps kind size way (λ u v. has_edge graph u v ≡ true)) (q : ℕ) (in_q : q < path_count kind) (more : 1 < size q) where
  abbrev s : ℕ
  s = way q 0

  abbrev g : ℕ
  g = way q 1

  edge : has_edge graph s g ≡ true
  edge = steps q 0 in_q (omega arith)

  bounds : (s < graph.n) × (g < graph.n)
  bounds = edge_within graph known.edges s g edge

  abbrev Sizes : ℕ → ℕ
  Sizes = size' graph.n kind branch size way frame q in_q more

  abbrev Ways : ℕ → ℕ → ℕ
  Ways = way' graph.n kind branch size way frame q in_q more

  new : IsFrame graph.n kind branch Sizes Ways
  new = frame' graph.n kind branch size way frame q in_q more

  off : (p i : ℕ) → p < path_count kind → i ≤ Sizes p → Ways p i ≢ g
  off = gone_off graph.n kind branch size way frame q in_q more

  -- a step goes along an edge, or from s to a neighbour of g
  step : (p i : ℕ) → p < path_count kind → i < Sizes p → (has_edge graph (Ways p i) (Ways p (suc i)) ≡ true) ⊎ ((Ways p i ≡ s) × (has_edge graph g (Ways p (suc i)) ≡ true))
  step p i l m =
      elim (cases_step graph.n kind branch size way frame q in_q more p i m) [
        | inl h ↦ inl (ap (λ k. has_edge graph (Ways p i) (way p k)) h.0 ∙ steps p _ l h.1)
        | inr h ↦ inr (
          ap (way p) h.1 ∙ ap (λ r. way r 0) h.0,
          ap (has_edge graph g) (ap (way p) h.2 ∙ ap (λ r. way r 2) h.0) ∙ steps q 1 in_q more,
        )
      ]

  below : (p i : ℕ) → p < path_count kind → i < Sizes p → (Ways p i < graph.n) × (Ways p (suc i) < graph.n)
  below p i l m =
      elim (step p i l m) [
        | inl e ↦ edge_within graph known.edges (Ways p i) (Ways p (suc i)) e
        | inr h ↦ (subst (λ v. v < graph.n) (sym h.0) bounds.0, (edge_within graph known.edges g (Ways p (suc i)) h.1).1)
      ]

  module _ (a b : ℕ) (order : a < b) (ends : AreEnds a b s g) where
    bound : b < graph.n
    bound = elim ends [ inl h ↦ subst (λ v. v < graph.n) h.1 bounds.1 | inr h ↦ subst (λ v. v < graph.n) h.0 bounds.0 ]

    abbrev named : ℕ → ℕ
    named v = number graph.n a b s g v

    small_frame : IsFrame (contraction graph a b).n kind (λ j. named (branch j)) Sizes (λ p i. named (Ways p i))
    small_frame =
        let f = frame-map graph.n graph.n kind branch Sizes Ways named (λ v l. number-lt graph.n a b s g v order bound ends l) (λ u v e. number-apart graph.n a b s g u v order bound ends e) new in
        record {
          vertices = λ j l. number-less graph.n a b s g (branch j) order bound ends (gone_branch graph.n kind branch size way frame q in_q more j l) (frame.vertices j l);
          distinct = f.distinct;
          long = f.long;
          start = f.start;
          end = f.end;
          no_branch = f.no_branch;
          once = f.once;
          apart = f.apart;
        }

    small_steps : HasSteps kind Sizes (λ p i. named (Ways p i)) (λ u v. has_edge (contraction graph a b) u v ≡ true)
    small_steps p i l m =
        let n = below p i l m in
        small_edge graph known a b order bound s g ends (Ways p i) (Ways p (suc i)) n.0 n.1 (off p i l (omega arith)) (off p (suc i) l (omega arith)) (step_apart graph.n kind branch Sizes Ways new p i l m) (elim (step p i l m) [ inl e ↦ inl e | inr h ↦ inr (inl h) ])

    kept : has_edge graph a b ≡ true → IsKept graph a b
    kept e = record { order = order; joined = e; small = witness-frame (contraction graph a b) kind (λ j. named (branch j)) Sizes (λ p i. named (Ways p i)) small_frame small_steps }

  some_kept : (a : ℕ) × (b : ℕ) × IsKept graph a b
  some_kept =
      elim (cases_order s g) [
        | inl e ↦ absurd (step_apart graph.n kind branch size way frame q 0 in_q (omega arith) e)
        | inr r ↦ elim r [
          | inl l ↦ (s, g, kept s g l (inl (refl, refl)) edge)
          | inr l ↦ (g, s, kept g s l (inr (refl, refl)) (has_edge-turned graph g s ∙ edge))
        ]
      ]

-- THE LAW
pub plain_or_kept : PlainOrKept
plain_or_kept graph known w =
    let kind = w.0 in
    let branch : ℕ → ℕ = vertex_at w.1 in
    let size : ℕ → ℕ = λ p. length (path_at w.2 p) - 1 in
    let way : ℕ → ℕ → ℕ = λ p i. vertex_at (path_at w.2 p) i in
    let f = frame-witness graph kind w.1 w.2 w.3 in
    elim (all_or_one (λ p. size p ≡ 1) (λ p. 1 < size p) (path_count kind) (λ p l. let g = f.0.long p l in elim (cases_order (size p) 1) [ inl e ↦ inl e | inr r ↦ elim r [ inl low ↦ absurd (omega arith) | inr m ↦ inr m ] ])) [
      | inr r ↦ inr (some_kept graph known kind branch size way f.0 f.1 r.0 r.1 r.2)
      | inl one ↦ inl (
        kind,
        branch,
        record {
          vertices = f.0.vertices;
          distinct = f.0.distinct;
          joined = λ p l.
              let e = f.1 p 0 l (let o = one p l in omega arith) in
              ap (λ v. has_edge graph v (branch (pair_at kind p).1)) (sym (f.0.start p l)) ∙ (ap (has_edge graph (way p 0)) (sym (f.0.end p l) ∙ ap (way p) (one p l)) ∙ e);
        },
      )
    ]
