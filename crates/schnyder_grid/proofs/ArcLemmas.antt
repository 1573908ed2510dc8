-- Rows of arcs, and their graph.
use Rattle.std.proofs.Common.{◌≡◌, ◌≢◌, ◌⊎◌, true, ℕ, ◌+◌, ◌-◌, ◌<◌, List, [], ◌∷◌, ◌++◌, length, get_or, take, Contains, refl, sym, ap, ◌∙◌, subst, inl, inr, arith}
use Rattle.std.proofs.lemmas.List.{take_more}
use Rattle.std.proofs.lemmas.List.Elements.{Contains-append_left, Contains-push, Contains-push_cases}
use Rattle.map_lists.specs.Lists.{Lists}
use Rattle.map_theory.specs.Maps.{Dart, HasDart, place_of, entry_after}
use Rattle.map_theory.proofs.DartLemmas.{HasDart-follows, place_of-get_or}
use Rattle.plane_laws.specs.Triangulations.{IsTriangulation}
use Rattle.plane_peeling.proofs.RestrictedMaps.{restricted-old}
use Rattle.plane_peeling.proofs.Ends.{nothing_taken_off}
use Rattle.plane_peeling.proofs.Rings.{entry_after-inside}
use Rattle.canon_order.proofs.Counters.{same_place}
use Rattle.graph_search.specs.Arcs.{HasArc, IsAcyclic, IsTopological}
use Rattle.wood_runs.specs.Parents.{Colour, one, two, three}
use Rattle.wood_laws.specs.Woods.{root, IsInner, IsWood}
use Rattle.schnyder_wood.specs.Parents.{Parents, parent_in, IsRoot, IsWoodOf}
use Rattle.wood_laws.specs.Arranged.{IsBefore, IsArranged}
use Rattle.wood_laws.proofs.Ways.{root_or_inner}
use Rattle.schnyder_grid.specs.Arcs.{HasParent, IsArc, IsArcPut, AreArcs, AreWoodArcs}

module _ (wood : Parents) (e : ℕ) where
  -- one entry more
  pub AreArcs-more : (list row row' : List ℕ) (k r : ℕ) → k < length list → get_or list k 0 ≡ r → AreArcs wood e (take k list) row → IsArcPut wood e r row row' → AreArcs wood e (take (k + 1) list) row'
  AreArcs-more list row row' k r l here h put =
      let grown : take (k + 1) list ≡ take k list ++ r ∷ [] = take_more list k 0 l ∙ ap (λ z. take k list ++ z ∷ []) here in
      let old : (x : ℕ) → Contains (take k list) x → Contains (take (k + 1) list) x = λ x c. subst (λ z. Contains z x) (sym grown) (Contains-append_left (take k list) (r ∷ []) x c) in
      let mine : Contains (take (k + 1) list) r = subst (λ z. Contains z r) (sym grown) (Contains-push (take k list) r) in
      let cases : (x : ℕ) → Contains (take (k + 1) list) x → Contains (take k list) x ⊎ (r ≡ x) = λ x c. Contains-push_cases (take k list) r x (subst (λ z. Contains z x) grown c) in
      elim put [
        | inl p ↦ record {
          from = λ x c. elim (Contains-push_cases row r x (subst (λ z. Contains z x) p.1 c)) [
            | inl c' ↦ (let o = h.from x c' in (old x o.0, o.1))
            | inr q ↦ (subst (Contains (take (k + 1) list)) q mine, subst (IsArc wood e) q p.0)
          ];
          to = λ x c a. subst (λ z. Contains z x) (sym p.1) (elim (cases x c) [
            | inl c' ↦ Contains-append_left row (r ∷ []) x (h.to x c' a)
            | inr q ↦ subst (Contains (row ++ r ∷ [])) q (Contains-push row r)
          ]);
        }
        | inr p ↦ record {
          from = λ x c. let o = h.from x (subst (λ z. Contains z x) p.1 c) in (old x o.0, o.1);
          to = λ x c a. subst (λ z. Contains z x) (sym p.1) (elim (cases x c) [
            | inl c' ↦ h.to x c' a
            | inr q ↦ absurd (p.0 (subst (IsArc wood e) (sym q) a))
          ]);
        }
      ]

module _ (lists : Lists) (base : Dart) (wood : Parents) (arcs : List (List ℕ)) (triangulation : IsTriangulation lists) (has : HasDart lists base.0 base.1) (of : IsWoodOf lists base wood) (graph : AreWoodArcs lists wood arcs) where
  abbrev n : ℕ
  n = length lists

  abbrev parent : Colour → ℕ → ℕ
  parent = parent_in wood

  is_wood : IsWood lists base parent
  is_wood = of.wood_is

  pub root_one_is : wood.root_one ≡ base.1
  root_one_is = of.roots one

  root_two_is : wood.root_two ≡ base.0
  root_two_is = of.roots two

  root_three_is : wood.root_three ≡ root lists base three
  root_three_is = of.roots three

  no_root : (v : ℕ) → IsInner lists base v → ¬ IsRoot wood v
  no_root v i (inl e) = i.1 one (e ∙ root_one_is)
  no_root v i (inr (inl e)) = i.1 two (e ∙ root_two_is)
  no_root v i (inr (inr e)) = i.1 three (e ∙ root_three_is)

  inner : (v : ℕ) → v < n → ¬ IsRoot wood v → IsInner lists base v
  inner v l h = (l, each)
    where
      each : (c : Colour) → v ≢ root lists base c
      each one e = h (inl (e ∙ sym root_one_is))
      each two e = h (inr (inl (e ∙ sym root_two_is)))
      each three e = h (inr (inr (e ∙ sym root_three_is)))

  -- an arc, by the map and by the wood
  arc_is : (e r : ℕ) → HasArc arcs e r → HasDart lists e r × IsArc wood e r
  arc_is e r a =
      let c = graph.count in
      let small = a.0 in
      let l : e < n = omega arith in
      let f = (graph.rows e l).from r a.1 in
      ((l, f.0), f.1)

  arc_from : (e r : ℕ) → HasDart lists e r → IsArc wood e r → HasArc arcs e r
  arc_from e r d a = let c = graph.count in let l = d.0 in (omega arith, (graph.rows e d.0).to r d.1 a)

  down : (c : Colour) (v : ℕ) → IsInner lists base v → HasParent wood c v (parent c v)
  down c v i = (no_root v i, refl)

  one_arc : (v : ℕ) → IsInner lists base v → HasArc arcs (parent one v) v
  one_arc v i = arc_from (parent one v) v (triangulation.simple.both_ways v (parent one v) (is_wood.edges one v i)) (inl (inl (down one v i)))

  two_arc : (v : ℕ) → IsInner lists base v → HasArc arcs (parent two v) v
  two_arc v i = arc_from (parent two v) v (triangulation.simple.both_ways v (parent two v) (is_wood.edges two v i)) (inl (inr (down two v i)))

  three_arc : (v : ℕ) → IsInner lists base v → HasArc arcs v (parent three v)
  three_arc v i = arc_from v (parent three v) (is_wood.edges three v i) (inr (inl (down three v i)))

  first_arc : HasArc arcs base.1 base.0
  first_arc = arc_from base.1 base.0 (triangulation.simple.both_ways base.0 base.1 has) (inr (inr (inl (sym root_one_is, sym root_two_is))))

  second_arc : HasArc arcs base.0 (root lists base three)
  second_arc =
      let w : ℕ = root lists base three in
      let near = (nothing_taken_off lists (λ v. true) base.1 base.0 triangulation has (λ v l. refl)).near in
      let step : entry_after w (base.1 ∷ w ∷ base.0 ∷ []) ≡ base.0 = entry_after-inside (base.1 ∷ []) w base.0 [] near.cycle.distinct in
      let d = near.cycle.darts w (1, omega arith, refl) in
      let old = (restricted-old lists (λ v. true) w base.0 (subst (HasDart _ w) step d)).0 in
      arc_from base.0 w (triangulation.simple.both_ways w base.0 old) (inr (inr (inr (sym root_two_is, sym root_three_is))))

  root_cases : (v : ℕ) → v < n → ((v ≡ base.1) ⊎ ((v ≡ base.0) ⊎ (v ≡ root lists base three))) ⊎ IsInner lists base v
  root_cases v l = elim (root_or_inner lists base parent triangulation has is_wood v l) [ inl x ↦ inl (by_colour x.0 x.1) | inr i ↦ inr i ]
    where
      by_colour : (c : Colour) → v ≡ root lists base c → (v ≡ base.1) ⊎ ((v ≡ base.0) ⊎ (v ≡ root lists base three))
      by_colour one e = inl e
      by_colour two e = inr (inl e)
      by_colour three e = inr (inr e)

  -- Where the vertices can be arranged, no way in the graph goes round.
  pub acyclic : (at : List ℕ) → IsArranged lists base parent at → IsAcyclic arcs wood.root_one
  acyclic at arranged =
      let count = graph.count in
      let count' = arranged.count in
      let in_map = triangulation.simple.in_range base.0 base.1 has in
      let height : ℕ → ℕ = λ v. place_of v at in
      let before : (u v : ℕ) → IsBefore at u v → height u < height v =
      λ u v b.
      let i = b.2 in
      let j = b.3 in
      let pu : place_of u at ≡ b.0 = ap (λ z. place_of z at) (sym b.4) ∙ place_of-get_or at b.0 0 arranged.once (omega arith) in
      let pv : place_of v at ≡ b.1 = ap (λ z. place_of z at) (sym b.5) ∙ place_of-get_or at b.1 0 arranged.once b.3 in
      omega arith in
      record {
        base_in = let e = root_one_is in omega arith;
        within = λ e r a. let l = triangulation.simple.in_range e r (arc_is e r a).0 in omega arith;
        height = height;
        rising = λ e r a nb. before e r (rises at arranged e r (arc_is e r a).0 (arc_is e r a).1);
        reached = λ r l nb. elim (root_cases r (omega arith)) [
          | inr i ↦ (parent one r, one_arc r i)
          | inl (inl e) ↦ absurd (nb (e ∙ sym root_one_is))
          | inl (inr (inl e)) ↦ (base.1, subst (HasArc arcs base.1) (sym e) first_arc)
          | inl (inr (inr e)) ↦ (base.0, subst (HasArc arcs base.0) (sym e) second_arc)
        ];
      }
    where
      rises : (at : List ℕ) → IsArranged lists base parent at → (e r : ℕ) → HasDart lists e r → IsArc wood e r → IsBefore at e r
      rises at arranged e r d (inl (inl h)) = subst (λ z. IsBefore at z r) h.1 (arranged.one_before r (inner r (triangulation.simple.in_range e r d) h.0))
      rises at arranged e r d (inl (inr h)) = subst (λ z. IsBefore at z r) h.1 (arranged.two_before r (inner r (triangulation.simple.in_range e r d) h.0))
      rises at arranged e r d (inr (inl h)) = subst (IsBefore at e) h.1 (arranged.three_after e (inner e d.0 h.0))
      rises at arranged e r d (inr (inr (inl h))) =
          let count = arranged.count in
          let some = triangulation.some in
          (0, 1, omega arith, omega arith, arranged.first ∙ sym (h.0 ∙ root_one_is), arranged.second ∙ sym (h.1 ∙ root_two_is))
      rises at arranged e r d (inr (inr (inr h))) =
          let count = arranged.count in
          let some = triangulation.some in
          (1, n - 1, omega arith, omega arith, arranged.second ∙ sym (h.0 ∙ root_two_is), arranged.last ∙ sym (h.1 ∙ root_three_is))

  -- An order of the graph is such an arrangement.
  module _ (at : List ℕ) (order : IsTopological arcs wood.root_one at) where
    size : length at ≡ n
    size = order.count ∙ graph.count

    once : (i j : ℕ) → i < n → j < n → get_or at i 0 ≡ get_or at j 0 → i ≡ j
    once i j l m e = let s = size in same_place at i j order.once (omega arith) (omega arith) e

    before : (e r : ℕ) → HasArc arcs e r → r ≢ base.1 → IsBefore at e r
    before e r a ne = order.before e r a (λ q. ne (q ∙ root_one_is))

    first : get_or at 0 0 ≡ base.1
    first = order.first ∙ root_one_is

    loop : base.0 ≢ base.1
    loop e = triangulation.simple.no_loop base.0 base.1 has (sym e)

    third_apart : root lists base three ≢ base.1
    third_apart = triangulation.simple.no_loop base.1 (root lists base three) (HasDart-follows lists base.1 base.0 (triangulation.simple.both_ways base.0 base.1 has))

    in_at : (i : ℕ) → i < n → get_or at i 0 < n
    in_at i l = let s = size in let c = graph.count in let v = order.vertices i 0 (omega arith) in omega arith

    -- what stands second has nothing but root one before it
    only_first : (u : ℕ) → IsBefore at u (get_or at 1 0) → u ≡ base.1
    only_first u b =
        let s = size in
        let some = triangulation.some in
        let lj = b.3 in
        let less = b.2 in
        let j = once b.1 1 (omega arith) (omega arith) b.5 in
        let i : b.0 ≡ 0 = omega arith in
        sym b.4 ∙ (ap (λ k. get_or at k 0) i ∙ first)

    second : get_or at 1 0 ≡ base.0
    second =
        let some = triangulation.some in
        let x : ℕ = get_or at 1 0 in
        elim (root_cases x (in_at 1 (omega arith))) [
          | inr i ↦ absurd (two_one (is_wood.own_root two one x i (only_first (parent two x) (before (parent two x) x (two_arc x i) (i.1 one)))))
          | inl (inl e) ↦ absurd (let z = once 1 0 (omega arith) (omega arith) (e ∙ sym first) in omega arith)
          | inl (inr (inl e)) ↦ e
          | inl (inr (inr e)) ↦ absurd (loop (only_first base.0 (before base.0 x (subst (HasArc arcs base.0) (sym e) second_arc) (λ q. third_apart (sym e ∙ q)))))
        ]
      where
        two_one : two ≢ one
        two_one e = cc

    -- what stands last has nothing behind it
    not_last : (u v : ℕ) → IsBefore at u v → get_or at (n - 1) 0 ≢ u
    not_last u v b e =
        let s = size in
        let some = triangulation.some in
        let less = b.2 in
        let lj = b.3 in
        let i = once b.0 (n - 1) (omega arith) (omega arith) (b.4 ∙ sym e) in
        omega arith

    last : get_or at (n - 1) 0 ≡ root lists base three
    last =
        let some = triangulation.some in
        let x : ℕ = get_or at (n - 1) 0 in
        elim (root_cases x (in_at (n - 1) (omega arith))) [
          | inr i ↦ absurd (not_last x (parent three x) (before x (parent three x) (three_arc x i) (λ q. three_one (is_wood.own_root three one x i q))) refl)
          | inl (inl e) ↦ absurd (let z = once (n - 1) 0 (omega arith) (omega arith) (e ∙ sym first) in omega arith)
          | inl (inr (inl e)) ↦ absurd (not_last base.0 (root lists base three) (before base.0 (root lists base three) second_arc third_apart) e)
          | inl (inr (inr e)) ↦ e
        ]
      where
        three_one : three ≢ one
        three_one e = cc

    -- THE LEMMA
    pub arranged : IsArranged lists base parent at
    arranged = record {
      count = size;
      vertices = λ k d l. let c = graph.count in let v = order.vertices k d l in omega arith;
      once = order.once;
      first = first;
      second = second;
      last = last;
      one_before = λ v i. before (parent one v) v (one_arc v i) (i.1 one);
      two_before = λ v i. before (parent two v) v (two_arc v i) (i.1 one);
      three_after = λ v i. before v (parent three v) (three_arc v i) (λ q. three_one (is_wood.own_root three one v i q));
    }
      where
        three_one : three ≢ one
        three_one e = cc
