-- Where no face walk, written from its least vertex, is drawn wrong, all faces of a triangulation are drawn well.
use Rattle.std.proofs.Common.{◌≡◌, ℕ, ◌<◌, List, ℤ, pos, ◌<ℤ◌, refl, sym, ap, subst, ◌∙◌, inl, inr, arith}
use Rattle.std.proofs.lemmas.Bool.{cases_lt}
use Rattle.std.proofs.lemmas.Int.{ints, by_lt_z}
use Rattle.map_lists.specs.Lists.{Lists}
use Rattle.map_theory.specs.Maps.{Dart, HasDart, follows}
use Rattle.plane_laws.specs.Triangulations.{IsTriangulation}
use Rattle.pg_plane.specs.declared.grid_points.Point.{Point}
use Rattle.pg_plane.specs.Geometry.{area}
use Rattle.pg_plane.proofs.Identities.{area_turned}
use Rattle.plane_drawings.specs.Drawing.{place, IsCounterclockwise}
use Rattle.draw_check.specs.FaceVerdicts.{IsDrawnWell, IsDrawnWrong}
use Rattle.drawings.proofs.FaceSteps.{thrice, step_dart, same_step, same_back, same_itself}

module _ (lists : Lists) (c : IsTriangulation lists) where
  module _ (points : List Point) (b : Dart) where
    -- a face is drawn well from one dart where it is from the next
    well_back : (u v : ℕ) → HasDart lists u v → IsDrawnWell lists points b v (follows lists v u) u → IsDrawnWell lists points b u v (follows lists v u)
    well_back u v has h =
        let turned = area_turned (place points u) (place points v) (place points (follows lists v u)) in
        record {
          inner = λ off. subst (λ (z : ℤ). pos 0 <ℤ z) turned (h.inner (λ same. off (same_back lists c b (u, v) has same)));
          outer = λ same. subst (λ (z : ℤ). z <ℤ pos 0) turned (h.outer (same_step lists c b (u, v) has same));
        }

    module _ (none : (x y z : ℕ) → ¬ IsDrawnWrong lists points b x y z) where
      -- from its least vertex
      well_least : (u v : ℕ) → HasDart lists u v → u < v → u < follows lists v u → IsDrawnWell lists points b u v (follows lists v u)
      well_least u v has l l' = record {
        inner = λ off.
            by_lt_z (pos 0) (area (place points u) (place points v) (place points (follows lists v u))) (λ p. p)
            (λ q. absurd (none u v (follows lists v u) (record { dart = has; third = refl; least = (l, l'); wrong = λ well. let p = well.inner off in omega (arith, ints) })));
        outer = λ same.
            by_lt_z (area (place points u) (place points v) (place points (follows lists v u))) (pos 0) (λ p. p)
            (λ q. absurd (none u v (follows lists v u) (record { dart = has; third = refl; least = (l, l'); wrong = λ well. let p = well.outer same in omega (arith, ints) })));
      }

      -- from any
      well_everywhere : (u v : ℕ) → HasDart lists u v → IsDrawnWell lists points b u v (follows lists v u)
      well_everywhere u v has =
          let w = follows lists v u in
          let d1 = step_dart lists c (u, v) has in
          let d2 = step_dart lists c (v, w) d1 in
          let back = thrice lists c (u, v) has in
          let next : follows lists w v ≡ u = ap (λ (d : Dart). d.0) back in
          let last : follows lists u w ≡ v = ap (λ (x : ℕ). follows lists x w) (sym next) ∙ ap (λ (d : Dart). d.1) back in
          let d3 : HasDart lists w u = subst (λ (x : ℕ). HasDart lists w x) next d2 in
          let n1 = c.simple.no_loop u v has in
          let n2 = c.simple.no_loop v w d1 in
          let n3 = c.simple.no_loop w u d3 in
          let from_second : v < w → v < u → IsDrawnWell lists points b u v w = λ l l'.
          well_back u v has (subst (λ (x : ℕ). IsDrawnWell lists points b v w x) next (well_least v w d1 l (subst (λ (x : ℕ). v < x) (sym next) l'))) in
          let from_third : w < u → w < v → IsDrawnWell lists points b u v w = λ l l'.
          well_back u v has (subst (λ (x : ℕ). IsDrawnWell lists points b v w x) next (well_back v w d1
          (subst (λ (x : ℕ). IsDrawnWell lists points b w x v) (sym next) (subst (λ (x : ℕ). IsDrawnWell lists points b w u x) last (well_least w u d3 l (subst (λ (x : ℕ). w < x) (sym last) l')))))) in
          elim (cases_lt u v) [
            | inl l ↦ elim (cases_lt u w) [
              | inl l' ↦ well_least u v has l l'
              | inr m ↦ from_third (omega (arith, n3)) (omega (arith, n3))
            ]
            | inr m ↦ elim (cases_lt v w) [
              | inl l ↦ from_second l (omega (arith, n1))
              | inr m' ↦ from_third (omega (arith, n2, n1)) (omega (arith, n2))
            ]
          ]

      pub counterclockwise_from : HasDart lists b.0 b.1 → IsCounterclockwise lists points b
      counterclockwise_from has = record {
        inner = λ u v has' off. (well_everywhere u v has').inner off;
        outer = (well_everywhere b.0 b.1 has).outer (same_itself lists c b);
      }
