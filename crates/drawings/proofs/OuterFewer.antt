-- Edges taken away one by one, from a map that extends another, while each face but the base's has a positive area.
use Rattle.std.proofs.Common.{◌≡◌, ◌⊎◌, ℕ, zero, suc, ◌<◌, ◌≤◌, Bool, true, false, cond, eqb, List, [], ◌∷◌, length, get_or, pos, ◌+ℤ◌, refl, sym, ap, subst, ◌∙◌, inl, inr, arith, eq-eqb, ◌==◌}
use Rattle.std.specs.List.{list_any, filter, remove}
use Rattle.std.proofs.lemmas.Bool.{cases_eq, cases_Bool, cond-false, true≢false, false_from_ne_true}
use Rattle.std.proofs.lemmas.Int.{ints}
use Rattle.std.proofs.lemmas.List.{ext_get_or}
use Rattle.classes.specs.Classes.{label}
use Rattle.classes.proofs.Counting.{count_below_into}
use Rattle.classes.proofs.Classes.{length-classes}
use Rattle.map_lists.specs.Lists.{Lists}
use Rattle.map_theory.specs.Maps.{Dart, HasDart, IsSimpleMap, IsPlane, list_of, darts, dart_number, dart_count, edge_count, component_count, component_classes}
use Rattle.map_theory.specs.Edges.{without_entry, without_edge}
use Rattle.map_theory.proofs.DartLemmas.{dart_number-lt, get_or-dart_number, IsDartNumber-darts, place_of-here, place_of-there}
use Rattle.map_theory.proofs.EntryLemmas.{Contains-from_list_any, list_any-from_Contains}
use Rattle.map_theory.proofs.WithoutEdge.{dart_old, list_at_first, list_at_second, list_elsewhere, length-without_edge, edge_count-without}
use Rattle.map_theory.proofs.DartPermutations.{IsLabels-components}
use Rattle.plane_laws.specs.Triangulations.{IsTriangulation}
use Rattle.plane_laws.proofs.EdgeFaces.{bridge_test, faces_merged}
use Rattle.plane_laws.proofs.EdgeRemoved.{edge_removed}
use Rattle.plane_laws.specs.MapEditsCompleted.{IsExtended}
use Rattle.plane_laws.proofs.KeptEdges.{filter-all, all_or_some}
use Rattle.pg_plane.specs.declared.grid_points.Point.{Point}
use Rattle.pg_plane.proofs.Identities.{cross_back}
use Rattle.plane_drawings.specs.Drawing.{place, IsCounterclockwise}
use Rattle.drawings.specs.OuterFaces.{swept, AreOthersPositive, HasOuterFace}
use Rattle.drawings.proofs.DartTotals.{total-without}
use Rattle.drawings.proofs.FacesJoined.{same_face, AreOthersPositive-joined}
use Rattle.drawings.proofs.TriangleSums.{AreOthersPositive-counterclockwise}
use Rattle.drawings.proofs.ValidFewer.{dart_more}

-- the two directions of an edge sweep opposite areas
swept-turned : (points : List Point) (u v : ℕ) → swept points (u, v) +ℤ swept points (v, u) ≡ pos 0
swept-turned points u v = let e = cross_back (place points u) (place points v) in omega (arith, ints)

-- a map has a component
some_component : (lists : Lists) → IsSimpleMap lists → 0 < component_count lists
unfolding component_count
some_component lists simple =
    let C = component_classes lists in
    let n = length-classes (length lists) (darts lists) in
    let low = (IsLabels-components lists simple).low 0 in
    let one = count_below_into (λ i. 0) (λ i. true) (λ i. eqb (label C i) i) 1 (length C) (λ i m t. (omega arith, eq-eqb (label C 0) 0 (omega arith))) (λ i j m m' t t' e. omega arith) in
    omega arith

-- an entry that does not pass a test is not missed among those that do
filter-without : (p : ℕ → Bool) (us : List ℕ) (x : ℕ) → p x ≡ false → filter p (without_entry us x) ≡ filter p us
filter-without p [] x fails = refl
filter-without p (y ∷ us) x fails =
    elim (cases_eq y x) [
      | inl e ↦ ap (λ (k : ℕ). filter p (remove (y ∷ us) k)) (place_of-here x y us e) ∙ sym (cond-false (p y) (y ∷ filter p us) (filter p us) (ap p e ∙ fails))
      | inr ne ↦ ap (λ (k : ℕ). filter p (remove (y ∷ us) k)) (place_of-there x y us ne) ∙ ap (λ (vs : List ℕ). cond (p y) (y ∷ vs) vs) (filter-without p us x fails)
    ]

module _ (old : Lists) (simple : IsSimpleMap old) where
  -- u stands in v's list
  abbrev stands : ℕ → ℕ → Bool
  stands v u = list_any (λ w. w == u) (list_of old v)

  -- a map that extends the old one and has no other dart is the old one
  nothing_more : (lists : Lists) → IsExtended old lists → ((v u : ℕ) → HasDart lists v u → stands v u ≡ true) → lists ≡ old
  nothing_more lists h all =
      ext_get_or [] lists old h.vertices (λ v l. sym (filter-all (stands v) (list_of lists v) (λ u c. all v u (l, c))) ∙ h.lists v)

  -- or there is another dart
  more_or_none : (lists : Lists) → IsSimpleMap lists → ((v u : ℕ) → HasDart lists v u → stands v u ≡ true) ⊎ ((v : ℕ) × (u : ℕ) × HasDart lists v u × (stands v u ≡ false))
  more_or_none lists simple' =
      let at : ℕ → Dart = λ i. get_or (darts lists) i (0, 0) in
      elim (all_or_some (λ i. stands (at i).0 (at i).1) (dart_count lists)) [
        | inl h ↦ inl (λ v u has. let e = get_or-dart_number lists v u (0, 0) has in subst (λ (d : Dart). stands d.0 d.1 ≡ true) e (h (dart_number lists (v, u)) (dart_number-lt lists v u has)))
        | inr r ↦ (let is = IsDartNumber-darts lists r.0 (0, 0) simple'.no_repeat r.1 in inr ((at r.0).0, (at r.0).1, is.is_dart, r.2))
      ]

  module _ (lists : Lists) (simple' : IsSimpleMap lists) (h : IsExtended old lists) (u v : ℕ) (edge : HasDart lists u v) (new : stands u v ≡ false) where
    -- its twin is none of the old darts either
    new_back : stands v u ≡ false
    new_back = false_from_ne_true (stands v u) (λ t. true≢false (sym (list_any-from_Contains v (list_of old u) (simple.both_ways v u (let l = simple'.in_range u v edge in let n = h.vertices in omega arith, Contains-from_list_any u (list_of old v) t)).1) ∙ new))

    -- without it the map still extends the old one
    IsExtended-without : IsExtended old (without_edge lists u v)
    IsExtended-without = grind (arith, length-without_edge, cases_eq, filter, stands, list_at_first, filter-without, list_of, list_at_second, new_back, list_elsewhere)

  module _ (points : List Point) (base : Dart) (has : HasDart old base.0 base.1) (one : component_count old ≡ 1) where
    -- the map is connected as the old one is, and where each face but the base's has a positive area in it, it is so in the old one
    abbrev Passes : Lists → Type 0
    Passes lists = (component_count lists ≡ 1) × (AreOthersPositive lists points base → AreOthersPositive old points base)

    -- so it is with an edge more
    step : (lists : Lists) → IsSimpleMap lists → IsPlane lists → (u v : ℕ) → HasDart lists u v → IsExtended old (without_edge lists u v) → Passes (without_edge lists u v) → Passes lists
    step lists simple' plane u v edge h p =
        let rest = without_edge lists u v in
        let gone = edge_removed lists u v simple' plane edge in
        let test = bridge_test lists u v simple' plane edge in
        let some = some_component lists simple' in
        let connected : component_count lists ≡ 1 =
        elim (cases_Bool (same_face lists (u, v) (v, u))) [
          | inl s ↦ (let e = test.0 s in omega arith)
          | inr n ↦ (let e = test.1 (λ s. true≢false (sym s ∙ n)) in omega arith)
        ] in
        let merged = faces_merged lists u v simple' plane edge connected p.0 in (
          connected,
          λ outer.
              p.1
              (AreOthersPositive-joined lists rest points base gone.0 (u, v) (v, u) edge (simple'.both_ways u v edge) merged (total-without lists simple' u v edge) (swept-turned points u v)
              (λ x y d. (dart_old lists simple' u v edge x y d).0)
              (dart_more old rest points simple gone.0 h base.0 base.1 has) outer),
        )

    passes : (n : ℕ) (lists : Lists) → edge_count lists ≤ n → IsSimpleMap lists → IsPlane lists → IsExtended old lists → Passes lists
    passes zero lists l simple' plane h =
        elim (more_or_none lists simple') [
          | inl all ↦ subst (λ (x : Lists). Passes x) (sym (nothing_more lists h all)) (one, λ outer. outer)
          | inr r ↦ absurd (let less = edge_count-without lists simple' r.0 r.1 r.2 in omega arith)
        ]
    passes (suc n) lists l simple' plane h =
        elim (more_or_none lists simple') [
          | inl all ↦ subst (λ (x : Lists). Passes x) (sym (nothing_more lists h all)) (one, λ outer. outer)
          | inr r ↦
              let less = edge_count-without lists simple' r.0 r.1 r.2 in
              let gone = edge_removed lists r.0 r.1 simple' plane r.2 in
              let h' = IsExtended-without lists simple' h r.0 r.1 r.2 r.3 in
              step lists simple' plane r.0 r.1 r.2 h' (passes n (without_edge lists r.0 r.1) (omega arith) gone.0 gone.1 h')
        ]

-- where a completion is drawn counterclockwise, the base's face is the outer one of the map itself
pub outer_fewer : (lists more : Lists) (points : List Point) (base : Dart) → IsSimpleMap lists → IsTriangulation more → IsExtended lists more → HasDart lists base.0 base.1 → IsCounterclockwise more points base → HasOuterFace lists points base
outer_fewer lists more points base simple c h has turns one =
    (passes lists simple points base has one (edge_count more) more (omega arith) c.simple c.plane h).1 (AreOthersPositive-counterclockwise more c points base turns)
