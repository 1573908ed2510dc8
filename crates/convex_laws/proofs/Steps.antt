-- One removal read backwards: what stays keeps its rank, and the row of the removal is that of the step.
use Rattle.std.proofs.Common.{◌≡◌, ◌≢◌, ℕ, suc, ◌+◌, ◌-◌, ◌<◌, ◌≤◌, Bool, true, List, length, slice_index, refl, sym, ap, ◌∙◌, subst, inl, inr, arith}
use Rattle.std.proofs.lemmas.Bool.{cases_lt}
use Rattle.map_lists.specs.Lists.{Lists}
use Rattle.map_theory.specs.Maps.{HasDart, IsSimpleMap, follows}
use Rattle.map_theory.proofs.DartLemmas.{HasDart-follows}
use Rattle.contour_runs.specs.Runs.{Stage}
use Rattle.contour_runs.specs.FaceRuns.{Step, stage_after}
use Rattle.convex_peeling.specs.Contours.{face_of, IsContour}
use Rattle.convex_peeling.specs.Removals.{Removal, IsTakenOff}
use Rattle.convex_peeling.proofs.Faces.{face_of-step}
use Rattle.convex_peeling.proofs.Removed.{gone_within, first_lt, gone_from}
use Rattle.convex_laws.proofs.Longer.{put-old, put-found}
use Rattle.convex_laws.proofs.Grown.{IsPlaced, IsShore, IsBuilt, goer_off, rank'}
use Rattle.convex_laws.specs.Rows.{AreCuts}
use Rattle.convex_laws.specs.Removed.{IsRowOf}

-- The row of a step, by ranks.
pub record IsRankRow (lists : Lists) (row : List ℕ) (g : Stage) (s : Step) (rank : ℕ → ℕ) : Type 0 where
  pub long : length row + s.first ≡ suc s.last
  pub each : (i : ℕ) → i < length row → g.vertex (s.first + i) ≡ rank (slice_index row i)
  pub within : (i : ℕ) → i < length row → slice_index row i < length lists

-- its new vertices, by ranks
pub record AreRankNew (lists : Lists) (news : List ℕ) (g : Stage) (s : Step) (rank : ℕ → ℕ) : Type 0 where
  pub long : length news ≡ s.vertices
  pub each : (i : ℕ) → i < length news → g.count + i ≡ rank (slice_index news i)
  pub within : (i : ℕ) → i < length news → slice_index news i < length lists

module _ (lists : Lists) (alive : ℕ → Bool) (w : ℕ → ℕ) (r : ℕ) (o : Removal) (simple : IsSimpleMap lists) (contour : IsContour lists alive w r) (off : IsTakenOff lists alive w r o) (shore : IsShore lists o.alive o.contour o.places) where
  abbrev goer : ℕ → ℕ
  goer q = w (suc (o.first + q))

  -- what is placed after it stays
  pub placed_stays : (v q : ℕ) → IsPlaced lists o.alive o.contour o.places v → q < o.vertices → goer q ≢ v
  placed_stays v q p l e =
      elim p [
        | inl at ↦ gone_from lists alive w r o off contour q at.0 l at.1 (at.2 ∙ sym e)
        | inr at ↦ goer_off lists alive w r o simple contour off shore q at.0 l (subst (λ t. HasDart lists t at.0) (sym e) at.1) (ap (λ t. o.alive (face_of lists t at.0)) e ∙ at.2)
      ]

  -- and was placed before
  pub placed_more : (v : ℕ) → IsPlaced lists o.alive o.contour o.places v → IsPlaced lists alive w r v
  placed_more v p =
      elim p [
        | inr at ↦ inr (at.0, at.1, off.still (face_of lists v at.0) at.2)
        | inl at ↦
            let i = at.0 in
            elim (cases_lt o.first i) [
              | inr low ↦ (let a = gone_within lists alive w r o off in inl (i, omega arith, sym (off.before i low) ∙ at.2))
              | inl far ↦ elim (cases_lt i o.last) [
                | inr high ↦
                    let q : ℕ = i - o.last in
                    let z : i ≡ o.last + q = omega arith in
                    inl (o.first + o.vertices + 1 + q, omega arith, sym (off.behind q) ∙ (ap o.contour (sym z) ∙ at.2))
                | inl between ↦
                    let rim = shore.edge i (omega arith) (λ e. omega arith) in
                    let u = o.contour i in
                    let x = o.contour (suc i) in
                    let live : o.alive (face_of lists u (follows lists u x)) ≡ true = ap o.alive (face_of-step lists simple x u (simple.both_ways u x rim.dart)) ∙ rim.inside in
                    inr (follows lists u x, subst (λ t. HasDart lists t (follows lists u x)) at.2 (HasDart-follows lists u x rim.dart), ap (λ t. alive (face_of lists t (follows lists u x))) (sym at.2) ∙ off.still (face_of lists u (follows lists u x)) live)
              ]
            ]
      ]

  module _ (steps : ℕ → Step) (n : ℕ) (rank number : ℕ → ℕ) (built : IsBuilt lists o.alive o.contour o.places steps n rank number) where
    abbrev g : Stage
    g = stage_after steps n

    abbrev new_ranks : ℕ → ℕ
    new_ranks = rank' lists alive w r o steps n rank number simple contour off shore built

    pub kept_rank : (v : ℕ) → IsPlaced lists o.alive o.contour o.places v → new_ranks v ≡ rank v
    kept_rank v p = put-old goer g.count rank o.vertices v (λ q l. placed_stays v q p l)

    pub goer_rank : (q : ℕ) → q < o.vertices → new_ranks (goer q) ≡ g.count + q
    goer_rank q l =
        let found = put-found goer g.count rank o.vertices (goer q) q l refl in
        let same : found.0 ≡ q = omega (arith, contour.distinct (suc (o.first + found.0)) (suc (o.first + q)) (omega arith) (omega arith) found.2) in
        found.3 ∙ ap (λ t. g.count + t) same

    module _ (all_rank : ℕ → ℕ) (agrees : (v : ℕ) → IsPlaced lists alive w r v → all_rank v ≡ new_ranks v) (row cuts news : List ℕ) (is : IsRowOf lists w o row cuts news) where
      abbrev step : Step
      step = record { first = o.first; last = o.last; vertices = o.vertices; faces = o.faces; cut = o.cut; turn = o.cut }

      pub row_is : IsRankRow lists row g step all_rank
      row_is =
          let long = is.row_long in
          let within = off.within in
          record {
            long = long;
            each = λ i l.
                let p = o.first + i in
                let m : p ≤ o.places = omega arith in
                let placed : IsPlaced lists o.alive o.contour o.places (o.contour p) = inl (p, m, refl) in
                built.contour p m ∙ sym (ap all_rank (is.row_each i l) ∙ (agrees (o.contour p) (placed_more (o.contour p) placed) ∙ kept_rank (o.contour p) placed));
            within = is.row_in;
          }

      pub cuts_is : AreCuts cuts step
      cuts_is = record { long = is.cuts_long; each = is.cuts_each }

      pub news_is : AreRankNew lists news g step all_rank
      news_is =
          let long = is.news_long in
          let a = gone_within lists alive w r o off in
          record {
            long = long;
            each = λ i l. sym (ap all_rank (is.news_each i l) ∙ (agrees (goer i) (inl (suc (o.first + i), omega arith, refl)) ∙ goer_rank i (omega arith)));
            within = is.news_in;
          }
