-- The tables of a closed path are its edges and its vertices.
use Rattle.std.proofs.Common.{◌≡◌, ◌≢◌, ◌⊎◌, ◌<◌, ℕ, zero, suc, length, get_or, List, sym, ap, ap₂, ◌∙◌, subst, inl, inr, arith}
use Rattle.map_lists.specs.Lists.{Lists}
use Rattle.map_theory.specs.Maps.{Dart, HasDart, IsSimpleMap}
use Rattle.wood_runs.specs.Parents.{Colour, one, two, three, next, previous}
use Rattle.wood_laws.specs.Woods.{root, IsInner, LeadsBy}
use Rattle.schnyder_wood.specs.Parents.{Parents, root_in, parent_in, IsRoot, IsInnerIn, LeadsIn, IsRooted, IsWoodOf}
use Rattle.wood_laws.specs.Regions.{IsOnPath, IsPathEdge, IsBoundaryEdge, on_next, on_previous, on_outer, IsOnBoundary}
use Rattle.schnyder_wood.specs.Boundaries.{NotesPath, base_in}
use Rattle.schnyder_wood.specs.declared.schnyder_regions.closed_paths.ClosedPath.{ClosedPath}
use Rattle.schnyder_wood.specs.ClosedPaths.{IsClosedPath, IsEdgeOf, IsVertexOf}
use Rattle.schnyder_wood.specs.Search.{HasEdges}
use Rattle.schnyder_wood.specs.Counting.{HasVertices}

module _ (lists : Lists) (base : Dart) (wood : Parents) (is : IsWoodOf lists base wood) (rooted : IsRooted wood) where
  inner_in : (v : ℕ) → IsInner lists base v → IsInnerIn wood v
  inner_in v i = (let c = is.count in let l = i.0 in omega arith, not_root)
    where
      not_root : ¬ IsRoot wood v
      not_root (inl e) = i.1 one (e ∙ is.roots one)
      not_root (inr (inl e)) = i.1 two (e ∙ is.roots two)
      not_root (inr (inr e)) = i.1 three (e ∙ is.roots three)

  inner_out : (v : ℕ) → IsInnerIn wood v → IsInner lists base v
  inner_out v i = (let c = is.count in let l = i.0 in omega arith, not_root)
    where
      not_root : (c : Colour) → v ≢ root lists base c
      not_root one e = i.1 (inl (e ∙ sym (is.roots one)))
      not_root two e = i.1 (inr (inl (e ∙ sym (is.roots two))))
      not_root three e = i.1 (inr (inr (e ∙ sym (is.roots three))))

  leads_in : (c : Colour) (d v w : ℕ) → LeadsBy lists base (parent_in wood c) d v w → LeadsIn wood c d v w
  leads_in c zero v w e = e
  leads_in c (suc d) v w l = (inner_in v l.0, leads_in c d (parent_in wood c v) w l.1)

  leads_out : (c : Colour) (d v w : ℕ) → LeadsIn wood c d v w → LeadsBy lists base (parent_in wood c) d v w
  leads_out c zero v w e = e
  leads_out c (suc d) v w l = (inner_out v l.0, leads_out c d (parent_in wood c v) w l.1)

  module _ (simple : IsSimpleMap lists) (v : ℕ) (inner : IsInnerIn wood v) where
    -- an edge of a table
    edge_table : (c : Colour) (ups : List ℕ) → NotesPath wood c v ups → (x y : ℕ) → HasDart lists x y → (get_or ups x 0 ≡ y → IsPathEdge lists base (parent_in wood) c v x y) × (IsPathEdge lists base (parent_in wood) c v x y → get_or ups x 0 ≡ y)
    edge_table c ups h x y d =
        let count = is.count in
        let l = d.0 in
        elim (h.each x (omega arith)) [
          | inl a ↦ (λ e. ((a.0.0.0, leads_out c a.0.0.0 v x a.0.0.1), inner_out x a.0.1, sym a.1 ∙ e), λ p. a.1 ∙ p.2)
          | inr a ↦ (λ e. absurd (simple.no_loop x y d (sym e ∙ a.1)), λ p. absurd (a.0 ((p.0.0, leads_in c p.0.0 v x p.0.1), inner_in x p.1)))
        ]

    module _ (c : Colour) (path : ClosedPath) (h : IsClosedPath wood c v path) where
      root_next : path.next_root.0 ≡ root lists base (next c)
      root_next = h.next_root ∙ is.roots (next c)

      root_previous : path.previous_root.0 ≡ root lists base (previous c)
      root_previous = h.previous_root ∙ is.roots (previous c)

      edges_in : (x y : ℕ) → HasDart lists x y → IsEdgeOf path x y → IsBoundaryEdge lists base (parent_in wood) c v x y
      edges_in x y d (inl (inl e)) = on_next (inl ((edge_table (next c) path.nexts.items h.nexts x y d).0 e))
      edges_in x y d (inl (inr e)) = on_next (inr ((edge_table (next c) path.nexts.items h.nexts y x (simple.both_ways x y d)).0 e))
      edges_in x y d (inr (inl (inl e))) = on_previous (inl ((edge_table (previous c) path.previouses.items h.previouses x y d).0 e))
      edges_in x y d (inr (inl (inr e))) = on_previous (inr ((edge_table (previous c) path.previouses.items h.previouses y x (simple.both_ways x y d)).0 e))
      edges_in x y d (inr (inr (inl e))) = on_outer (inl (e.0 ∙ root_next, e.1 ∙ root_previous))
      edges_in x y d (inr (inr (inr e))) = on_outer (inr (e.0 ∙ root_previous, e.1 ∙ root_next))

      edges_out : (x y : ℕ) → HasDart lists x y → IsBoundaryEdge lists base (parent_in wood) c v x y → IsEdgeOf path x y
      edges_out x y d (on_next (inl e)) = inl (inl ((edge_table (next c) path.nexts.items h.nexts x y d).1 e))
      edges_out x y d (on_next (inr e)) = inl (inr ((edge_table (next c) path.nexts.items h.nexts y x (simple.both_ways x y d)).1 e))
      edges_out x y d (on_previous (inl e)) = inr (inl (inl ((edge_table (previous c) path.previouses.items h.previouses x y d).1 e)))
      edges_out x y d (on_previous (inr e)) = inr (inl (inr ((edge_table (previous c) path.previouses.items h.previouses y x (simple.both_ways x y d)).1 e)))
      edges_out x y d (on_outer (inl e)) = inr (inr (inl (e.0 ∙ sym root_next, e.1 ∙ sym root_previous)))
      edges_out x y d (on_outer (inr e)) = inr (inr (inr (e.0 ∙ sym root_previous, e.1 ∙ sym root_next)))

      pub has_edges : HasEdges lists base (parent_in wood) c v path
      has_edges = λ x y d. (edges_in x y d, edges_out x y d)

      -- a path leads to its root
      to_root : (d : Colour) (fuel u : ℕ) → rooted.height d u < fuel → IsInnerIn wood u → (k : ℕ) × LeadsIn wood d k u (root_in wood d)
      to_root d zero u l i = absurd (omega arith)
      to_root d (suc fuel) u l i =
          let fall = rooted.falls d u i in
          elim (rooted.goes_on d u i) [
            | inl j ↦ let t = to_root d fuel (parent_in wood d u) (omega arith) j in (suc t.0, (i, t.1))
            | inr e ↦ (1, (i, e))
          ]

      -- and ends there, or at an inner vertex
      end_of : (d : Colour) (k u w : ℕ) → IsInnerIn wood u ⊎ (u ≡ root_in wood d) → LeadsIn wood d k u w → IsInnerIn wood w ⊎ (w ≡ root_in wood d)
      end_of d zero u w i e = subst (λ w. IsInnerIn wood w ⊎ (w ≡ root_in wood d)) e i
      end_of d (suc k) u w i l = end_of d k (parent_in wood d u) w (rooted.goes_on d u l.0) l.1

      table_on : (d : Colour) (ups : List ℕ) → NotesPath wood d v ups → (u : ℕ) → u < length lists → get_or ups u 0 ≢ u → IsOnPath lists base (parent_in wood) d v u
      table_on d ups h u l ne =
          let count = is.count in
          elim (h.each u (omega arith)) [
            | inl a ↦ (a.0.0.0, leads_out d a.0.0.0 v u a.0.0.1)
            | inr a ↦ absurd (ne a.1)
          ]

      on_table : (d : Colour) (ups : List ℕ) → NotesPath wood d v ups → (u : ℕ) → u < length lists → IsOnPath lists base (parent_in wood) d v u → (get_or ups u 0 ≢ u) ⊎ (u ≡ root_in wood d)
      on_table d ups h u l p =
          let count = is.count in
          let leads = leads_in d p.0 v u p.1 in
          elim (end_of d p.0 v u (inl inner) leads) [
            | inr e ↦ inr e
            | inl i ↦ elim (h.each u (omega arith)) [
              | inl a ↦ inl (λ e. let fall = rooted.falls d u i in absurd (omega (arith, ap (rooted.height d) (sym a.1 ∙ e))))
              | inr a ↦ absurd (a.0 ((p.0, leads), i))
            ]
          ]

      root_on : (d : Colour) (u : ℕ) → u ≡ root_in wood d → IsOnPath lists base (parent_in wood) d v u
      root_on d u e = let t = to_root d (suc (rooted.height d v)) v (omega arith) inner in (t.0, leads_out d t.0 v u (subst (LeadsIn wood d t.0 v) (sym e) t.1))

      vertices_in : (u : ℕ) → u < length lists → IsVertexOf path u → IsOnBoundary lists base (parent_in wood) c v u
      vertices_in u l (inl ne) = inl (table_on (next c) path.nexts.items h.nexts u l ne)
      vertices_in u l (inr (inl ne)) = inr (table_on (previous c) path.previouses.items h.previouses u l ne)
      vertices_in u l (inr (inr (inl e))) = inl (root_on (next c) u (e ∙ h.next_root))
      vertices_in u l (inr (inr (inr e))) = inr (root_on (previous c) u (e ∙ h.previous_root))

      vertices_out : (u : ℕ) → u < length lists → IsOnBoundary lists base (parent_in wood) c v u → IsVertexOf path u
      vertices_out u l (inl p) = elim (on_table (next c) path.nexts.items h.nexts u l p) [ inl ne ↦ inl ne | inr e ↦ inr (inr (inl (e ∙ sym h.next_root))) ]
      vertices_out u l (inr p) = elim (on_table (previous c) path.previouses.items h.previouses u l p) [ inl ne ↦ inr (inl ne) | inr e ↦ inr (inr (inr (e ∙ sym h.previous_root))) ]

      pub has_vertices : HasVertices lists base (parent_in wood) c v path
      has_vertices = λ u l. (vertices_in u l, vertices_out u l)

  -- the base is the one that the wood tells
  pub base_is : base_in wood ≡ base
  base_is = ap₂ (λ (x y : ℕ). (x, y)) (is.roots two) (is.roots one)
