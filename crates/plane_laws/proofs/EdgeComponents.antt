-- What an edge does to the components: with it, those of its ends are one.
use Rattle.std.proofs.Common.{◌≡◌, ◌≢◌, ℕ, ◌+◌, ◌<◌, length, sym, ap, ◌∙◌, inl, inr, arith}
use Rattle.std.proofs.lemmas.Bool.{cases_eq}
use Rattle.classes.specs.Classes.{label, class_count, merge}
use Rattle.classes.proofs.Classes.{Together, labels_same, length-merge, IsLabels-merge, merge-joined, merge-keeps, merge-same, merge-within, class_count-merge_apart, length-classes}
use Rattle.map_lists.specs.Lists.{Lists}
use Rattle.map_theory.specs.Maps.{darts, HasDart, IsSimpleMap, component_count}
use Rattle.map_theory.specs.Edges.{without_edge}
use Rattle.map_theory.proofs.WithoutEdge.{back, u_not_v, length-without_edge, dart_old, dart_new, IsSimpleMap-without_edge}
use Rattle.map_theory.proofs.DartPermutations.{dart_of, tail_of, components, dart_of-number, dart_of-twin, components-marked, IsLabels-components, edge_together}

module _ (lists : Lists) (simple : IsSimpleMap lists) (u v : ℕ) (edge : HasDart lists u v) where
  abbrev rest : Lists
  rest = without_edge lists u v

  abbrev simple' : IsSimpleMap rest
  simple' = IsSimpleMap-without_edge lists simple u v edge

  n' : length rest ≡ length lists
  n' = length-without_edge lists simple u v edge

  other_way : HasDart lists v u
  other_way = back lists simple u v edge

  u_v : u ≢ v
  u_v = u_not_v lists simple u v edge

  -- with the edge, its ends' components are one
  pub components_merged : components lists simple ≡ merge (components rest simple') u v
  components_merged =
      let C = components lists simple in
      let D = components rest simple' in
      let dw = IsLabels-components rest simple' in
      let cn = length-classes (length lists) (darts lists) in
      let dn = length-classes (length rest) (darts rest) in
      let n = n' in
      let in_u : u < length D = let l = edge.0 in omega arith in
      let in_v : v < length D = let l = other_way.0 in omega arith in
      let across : (x y : ℕ) → HasDart lists x y → Together (merge D u v) x y = λ x y h.
      elim (cases_eq x u) [
        | inl e ↦
            elim (cases_eq y v) [
              | inl e' ↦ ap (label (merge D u v)) e ∙ (merge-same D u v dw in_u in_v ∙ ap (label (merge D u v)) (sym e'))
              | inr ne' ↦ merge-keeps D u v dw in_u in_v x y (edge_together rest simple' x y (dart_new lists simple u v edge x y h (λ _. ne') (λ q. absurd (u_v (sym e ∙ q)))))
            ]
        | inr ne ↦
            elim (cases_eq x v) [
              | inl e ↦
                  elim (cases_eq y u) [
                    | inl e' ↦ ap (label (merge D u v)) e ∙ (sym (merge-same D u v dw in_u in_v) ∙ ap (label (merge D u v)) (sym e'))
                    | inr ne' ↦ merge-keeps D u v dw in_u in_v x y (edge_together rest simple' x y (dart_new lists simple u v edge x y h (λ q. absurd (ne q)) (λ _. ne')))
                  ]
              | inr ne' ↦ merge-keeps D u v dw in_u in_v x y (edge_together rest simple' x y (dart_new lists simple u v edge x y h (λ q. absurd (ne q)) (λ q. absurd (ne' q))))
            ]
      ] in
      let finer = components-marked rest simple' (label C) (λ i l.
      let h = (dart_of-number rest simple' i l).is_dart in
      edge_together lists simple (tail_of rest i) (dart_of rest i).1 (dart_old lists simple u v edge (tail_of rest i) (dart_of rest i).1 h).0 ∙ ap (λ c. label C c.0) (sym (dart_of-twin rest simple' i l))) in
      labels_same C (merge D u v) (IsLabels-components lists simple) (IsLabels-merge D u v dw in_u in_v) (omega (arith, length-merge D u v))
      (λ x y l m t. components-marked lists simple (label (merge D u v)) (λ i n.
      across (tail_of lists i) (dart_of lists i).1 (dart_of-number lists simple i n).is_dart ∙ ap (λ c. label (merge D u v) c.0) (sym (dart_of-twin lists simple i n))) x y (omega arith) (omega arith) t)
      (λ x y l m t.
      let lx : x < length rest = omega (arith, length-merge D u v) in
      let ly : y < length rest = omega (arith, length-merge D u v) in
      let lu : u < length rest = omega arith in
      let lv : v < length rest = omega arith in
      let joined = edge_together lists simple u v edge in
      elim (merge-joined D u v dw in_u in_v x y t) [
        | inl c ↦ finer x y lx ly c
        | inr r ↦ elim r [
          | inl c ↦ finer x u lx lu c.0 ∙ (joined ∙ finer v y lv ly c.1)
          | inr c ↦ finer x v lx lv c.0 ∙ (sym joined ∙ finer u y lu ly c.1)
        ]
      ])

  pub separated : (Together (components rest simple') u v → ⊥) → component_count rest ≡ component_count lists + 1
  unfolding component_count
  separated h =
      let D = components rest simple' in
      let dn = length-classes (length rest) (darts rest) in
      let n = n' in
      class_count-merge_apart D u v (IsLabels-components rest simple') (let l = edge.0 in omega arith) (let l = other_way.0 in omega arith) h ∙ ap (λ l. class_count l + 1) (sym components_merged)

  pub not_separated : Together (components rest simple') u v → component_count rest ≡ component_count lists
  unfolding component_count
  not_separated h =
      let D = components rest simple' in
      let dn = length-classes (length rest) (darts rest) in
      let n = n' in
      ap class_count (sym (merge-within D u v (IsLabels-components rest simple') (let l = edge.0 in omega arith) (let l = other_way.0 in omega arith) h)) ∙ ap class_count (sym components_merged)
