-- Where a drawing is plane without the edges of some loose vertices, each fault has a loose vertex.
use Rattle.std.proofs.Common.{◌≡◌, ◌⊎◌, ◌&&◌, ℕ, ◌<◌, Bool, true, false, not, List, length, refl, sym, subst, inl, inr, arith}
use Rattle.std.proofs.lemmas.Bool.{cases_Bool, cases_lt}
use Rattle.map_lists.specs.Lists.{Lists}
use Rattle.map_lists.specs.declared.ids.VertexId.{VertexId}
use Rattle.map_theory.specs.Maps.{HasDart, IsSimpleMap}
use Rattle.pg_plane.specs.declared.grid_points.Point.{Point}
use Rattle.pg_plane.proofs.Segments.{IsOnSegment-back, DoCross-second_back}
use Rattle.plane_drawings.specs.Drawing.{place, IsPlaneDrawing}
use Rattle.plane_drawings.specs.SweepCheckLines.{is_among, is_firm, firm_lists}
use Rattle.plane_drawings.proofs.FirmLemmas.{firm_map, length-firm}
use Rattle.draw_check.specs.Faults.{LiesOnEdge, EdgesCross}
use Rattle.draw_check.specs.Verdicts.{NoneShareAPlace}
use Rattle.draw_check.specs.Loops.{Meets, Touches}
use Rattle.draw_check.specs.OnEdges.{BoundsStar, BoundsCrowd}
use Rattle.vertex_rounds.proofs.LeastLemmas.{place_in}
use Rattle.draw_check.specs.declared.edge_meetings.Probe.{Probe}
use Rattle.draw_check.specs.declared.edge_meetings.Probe.TheVariants.{Vertex, Edge}

-- an edge that is not firm has a loose end
loose_end : (a b : Bool) → (not a && not b) ≡ false → (a ≡ true) ⊎ (b ≡ true)
loose_end true b e = inl refl
loose_end false true e = inr refl
loose_end false false e = absurd cc

-- nothing meets an edge of a loose vertex
abbrev pub IsClear : Lists → List Point → List ℕ → Probe → Type 0
IsClear lists points loose probe = (v u : ℕ) → is_among loose v ≡ true → HasDart lists v u → ¬ Touches points probe v u

module _ (lists : Lists) (points : List Point) (loose : List ℕ) (simple : IsSimpleMap lists) (plane : IsPlaneDrawing (firm_lists loose lists) points) where
  firm_dart : (v u : ℕ) → HasDart lists v u → is_firm loose v u ≡ true → HasDart (firm_lists loose lists) v u
  firm_dart v u has t = ((firm_map loose lists simple).darts v u).1 (has, t)

  in_firm : (v : ℕ) → v < length lists → v < length (firm_lists loose lists)
  in_firm v l = omega (arith, length-firm loose lists)

  -- no two vertices stand at one place
  pub apart_but_loose : NoneShareAPlace lists points
  apart_but_loose u v s =
      plane.apart u v (in_firm u (let l = s.vertex in omega arith)) (in_firm v s.vertex) (λ e. omega arith) s.same

  -- a vertex on an edge lies on one of a loose vertex
  pub off_but_loose : (v : VertexId) (a b : ℕ) → IsClear lists points loose (Vertex v) → ¬ LiesOnEdge lists points v.0 a b
  off_but_loose v a b clear on =
      let has = on.edge.1 in
      elim (cases_Bool (is_firm loose a b)) [
        | inl t ↦ plane.off_edges a b v.0 (firm_dart a b has t) (in_firm v.0 on.vertex) on.not_first on.not_second on.on
        | inr f ↦ elim (loose_end (is_among loose a) (is_among loose b) f) [
          | inl t ↦ clear a b t has (record { meets = (on.not_first, on.not_second, on.on) })
          | inr t ↦
              clear b a t (simple.both_ways a b has) (record { meets = (on.not_second, on.not_first, IsOnSegment-back (place points v.0) (place points a) (place points b) on.on) })
        ]
      ]

  -- an edge that crosses one with no loose end has a loose end
  pub uncrossed_but_loose : (a b : VertexId) (c d : ℕ) → is_among loose a.0 ≡ false → is_among loose b.0 ≡ false → IsClear lists points loose (Edge a b) → ¬ EdgesCross lists points a.0 b.0 c d
  uncrossed_but_loose a b c d firm_a firm_b clear x =
      let firm : is_firm loose a.0 b.0 ≡ true = rw (firm_a, firm_b) refl in
      let n = x.apart in
      elim (cases_Bool (is_firm loose c d)) [
        | inl t ↦ plane.no_crossing a.0 b.0 c d (firm_dart a.0 b.0 x.first.1 firm) (firm_dart c d x.second.1 t) n.0 n.1 n.2 n.3 x.cross
        | inr f ↦ elim (loose_end (is_among loose c) (is_among loose d) f) [
          | inl t ↦ clear c d t x.second.1 (record { meets = (n.0, n.1, n.2, n.3, x.cross) })
          | inr t ↦
              clear d c t (simple.both_ways c d x.second.1)
              (record { meets = (n.2, n.3, n.0, n.1, DoCross-second_back (place points a.0) (place points b.0) (place points c) (place points d) x.cross) })
        ]
      ]

  -- where the stars of the loose vertices are bounded, all edges are
  pub bounded_by_loose : (crowd : List ℕ) (best : ℕ) → ((h : ℕ) → is_among loose h ≡ true → BoundsStar lists points crowd h 0 best) → BoundsCrowd lists points crowd best
  bounded_by_loose crowd best bounds w a b among on = elim (cases_lt w best) [
    | inr more ↦ more
    | inl less ↦
        absurd (off_but_loose (record { 0 = w }) a b (λ h u t has touches.
        let at = place_in crowd w among in
        let bound = bounds h t u (omega arith) has at.0 at.1 (subst (λ x. Meets points (Vertex (record { 0 = x })) h u) (sym at.2) touches.meets) in
        omega (arith, at.2)) on)
  ]
