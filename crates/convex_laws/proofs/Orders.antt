-- The order of edges round a vertex.
use Rattle.std.proofs.Common.{◌≡◌, ◌≢◌, ◌⊎◌, ℕ, suc, ◌+◌, ◌-◌, ◌<◌, ◌≤◌, length, refl, sym, ap, ◌∙◌, subst, inl, inr, arith}
use Rattle.std.proofs.lemmas.Bool.{cases_lt, cases_eq}
use Rattle.map_lists.specs.Lists.{Lists}
use Rattle.map_theory.specs.Maps.{HasDart, follows}
use Rattle.map_theory.proofs.DartLemmas.{HasDart-follows}
use Rattle.contour_runs.specs.Runs.{Stage}
use Rattle.contour_runs.specs.Laws.{IsStage}
use Rattle.contour_runs.specs.Wood.{Coordinates}
use Rattle.contour_runs.specs.FaceRuns.{Step, stage_after, faces_made, IsRun}
use Rattle.contour_runs.specs.FaceRunsLaws.{GoesAlong}
use Rattle.contour_runs.proofs.FaceRunsStages.{IsStage-run, count-le}
use Rattle.convex_counts.specs.Counts.{face_counts}
use Rattle.convex_counts.specs.declared.face_woods.axis.Axis.{Axis}
use Rattle.convex_counts.specs.declared.face_woods.axis.Axis.TheVariants.{One, Two, Three}
use Rattle.convex_counts.specs.Axes.{next, previous, IsAhead, IsBehind}
use Rattle.convex_counts.specs.Rising.{IsRising}
use Rattle.convex_counts.specs.FaceWoodsLaws.{AreOuterSides}
use Rattle.convex_counts.proofs.FaceWoodsSides.{corners_meet_at, outer_sides_at}
use Rattle.convex_laws.specs.ConvexWoods.{AreRoots, IsBeforeOuter, IsOrdered}
use Rattle.convex_laws.specs.ConvexWoodsLaws.{AreRisingOut}
use Rattle.convex_laws.proofs.AllDarts.{on_number}
use Rattle.convex_laws.proofs.Outs.{IsWoodRun, head_in, rank_one, rank_two, rank_three, entry_out}
use Rattle.convex_laws.proofs.FaceNumbers.{made-less}

module _ (lists : Lists) (s d : ℕ) (steps : ℕ → Step) (n : ℕ) (rank : ℕ → ℕ) (face : ℕ → ℕ → ℕ) (at : ℕ → ℕ) (h : IsWoodRun lists s d steps n rank face at) (root : Axis → ℕ) (roots : AreRoots lists (s, d) root) (out_of : Axis → ℕ → ℕ) (are : AreRisingOut lists (face_counts steps n) rank root out_of) where
  abbrev counts : Coordinates
  counts = face_counts steps n

  abbrev Rises : Axis → ℕ → ℕ → Type 0
  Rises = IsRising counts

  abbrev outer : ℕ
  outer = faces_made steps n

  abbrev g : Stage
  g = stage_after steps n

  abbrev top : ℕ
  top = h.whole.top

  run : IsRun steps n
  run = h.whole.turned.run

  stage : IsStage g
  stage = IsStage-run steps n run

  one_place : (p q : ℕ) → p < g.width → q < g.width → g.vertex p ≡ g.vertex q → p ≡ q
  one_place p q a b e = sym (stage.own p a) ∙ ap g.place e ∙ stage.own q b

  many : 3 ≤ g.count
  many = let some = h.some in let v = (run 0 some).some_vertex in let c = count-le steps 1 n some in omega arith

  sides : AreOuterSides steps n top
  sides = outer_sides_at steps n h.whole h.some

  -- a dart of the outer face: along the last contour, or the base
  record Goes (x y : ℕ) : Type 0 where
    pub place : ℕ
    pub along : GoesAlong g (rank x) (rank y) place

  cases_outer : (x y : ℕ) → HasDart lists x y → face x y ≡ outer → Goes x y ⊎ ((rank x ≡ 1) × (rank y ≡ 0))
  cases_outer x y has e = elim (h.map.on_face x y has) [
    | inl made ↦ let b = made.dart.within in let l = made-less steps n made.step made.place made.earlier b in let q = made.number in absurd (omega arith)
    | inr (inl o) ↦ inl record { place = o.place; along = o.along }
    | inr (inr b) ↦ inr (b.tail, b.head)
  ]

  -- what stands before the outer face at a root is on it
  before_is_outer : (c : Axis) (v u : ℕ) → HasDart lists u v → v ≡ root c → IsBeforeOuter lists (s, d) root c u → face u v ≡ outer
  before_is_outer x0 v u has e b = grind (arith, One, outer, Two, Three, follows)

  -- the sectors behind one entry and ahead of the next make an order
  abbrev Meets : ℕ → ℕ → Axis → Axis → Type 0
  Meets v u b a = ((c : Axis) → v ≡ root c → IsBeforeOuter lists (s, d) root c u → (b ≡ previous c) × (a ≡ next c)) × (((c : Axis) → v ≡ root c → ¬ IsBeforeOuter lists (s, d) root c u) → b ≡ a)

  ordered : (v u : ℕ) (b a : Axis) → HasDart lists v u → IsBehind Rises (rank v) (rank u) b → IsAhead Rises (rank v) (rank (follows lists v u)) a → Meets v u b a → IsOrdered lists (s, d) root out_of v u
  ordered v u b a has hb ha m =
      let entry = entry_out lists s d steps n rank face at h root roots out_of are in
      record {
        ahead = hb.0;
        behind = b;
        ahead_next = a;
        behind_next = ha.0;
        entry = entry v u hb.0 b has hb.1;
        after = entry v (follows lists v u) a ha.0 (HasDart-follows lists v u has) ha.1;
        at_root = m.0;
        elsewhere = m.1;
      }

  -- the place of root three is that of the last vertex
  top_is : suc (g.vertex top) ≡ length lists
  top_is = h.whole.last ∙ h.all

  -- the vertex before the base stands before the end of the contour
  record IsEnd (e : ℕ) : Type 0 where
    pub place : ℕ
    pub tail : g.vertex place ≡ rank e
    pub next : suc (suc place) ≡ g.width

  three_end : IsEnd (root Three)
  three_end =
      elim (cases_outer (root Three) s roots.before (sym (h.map.faces (root Three) s roots.before) ∙ ap (face s) roots.step ∙ h.map.outer)) [
        | inl o ↦
            let end : ℕ = g.width - 1 in
            let z = one_place (suc o.place) end o.along.within (omega arith) (o.along.head ∙ h.map.second ∙ sym (stage.end end (omega arith))) in
            record { place = o.place; tail = o.along.tail; next = omega arith }
        | inr b ↦ let z = b.0 in absurd (omega arith)
      ]

  module _ (v u : ℕ) (has : HasDart lists v u) where
    abbrev w : ℕ
    w = follows lists v u

    back : HasDart lists u v
    back = h.map.simple.both_ways v u has

    after : HasDart lists v w
    after = HasDart-follows lists v u has

    lv : v < length lists
    lv = has.0

    same_face : face v w ≡ face u v
    same_face = h.map.faces u v back

    -- where v is a root
    root_rank_one : v ≡ root One → rank v ≡ 0
    root_rank_one e = ap rank e ∙ rank_one lists s d steps n rank face at h root roots

    root_rank_two : v ≡ root Two → rank v ≡ 1
    root_rank_two e = ap rank e ∙ rank_two lists s d steps n rank face at h root roots

    root_rank_three : v ≡ root Three → suc (rank v) ≡ length lists
    root_rank_three e = ap (λ z. suc (rank z)) e ∙ rank_three lists s d steps n rank face at h root roots

    -- at no root
    meets_elsewhere : (b a : Axis) → b ≡ a → rank v ≢ 0 → rank v ≢ 1 → suc (rank v) ≢ length lists → Meets v u b a
    meets_elsewhere b a e n0 n1 n2 = grind (arith, Axis, IsBeforeOuter, previous, next, One, root_rank_one, Two, root_rank_two, Three, root_rank_three)

    -- on a face that is made
    ordered_made : (k i : ℕ) → k < n → i < (steps k).faces → face u v ≡ faces_made steps k + i → IsOrdered lists (s, d) root out_of v u
    ordered_made k i l li e =
        let on = on_number lists s d steps n rank face at run h.map h.all h.below h.one h.named in
        let meet = corners_meet_at steps n h.whole k i (rank u) (rank v) (rank w) l (on k i u v l li back e) (on k i v w l li after (same_face ∙ e)) in
        let less = made-less steps n k i l li in
        ordered v u meet.0 meet.0 has meet.1 meet.2 (λ c ev b. let z = before_is_outer c v u back ev b in absurd (omega arith), λ z. refl)

    -- at root one, behind the base
    ordered_base : rank u ≡ 1 → rank v ≡ 0 → face u v ≡ outer → IsOrdered lists (s, d) root out_of v u
    ordered_base eu ev e =
        let v_is : v ≡ root One = h.map.ranks v d lv (head_in lists s d steps n rank face at h root roots s d h.map.dart) (ev ∙ sym h.map.first) ∙ sym roots.one in
        let u_is : u ≡ s = h.map.ranks u s (head_in lists s d steps n rank face at h root roots v u has) h.map.dart.0 (eu ∙ sym h.map.second) in
        elim (cases_outer v w after (same_face ∙ e)) [
          | inr b ↦ let z = b.0 in absurd (omega arith)
          | inl o ↦
              let p0 : o.place ≡ 0 = one_place o.place 0 (omega arith) (omega arith) (o.along.tail ∙ ev ∙ sym stage.begin) in
              let pos : 0 < top = elim (cases_eq top 0) [ inl z ↦ (let q = ap g.vertex z ∙ stage.begin in absurd (omega arith)) | inr nz ↦ omega arith ] in
              ordered v u Three Two has (subst (λ r. IsBehind Rises (rank v) r Three) (sym eu) (subst (λ r. IsBehind Rises r 1 Three) (sym ev) sides.base.head)) (sides.right o.place (rank v) (rank w) (omega arith) o.along).tail
              (at_root many h.all, λ none. absurd (none One v_is u_is))
        ]
      where
        at_root : 3 ≤ g.count → g.count ≡ length lists → (c : Axis) → v ≡ root c → IsBeforeOuter lists (s, d) root c u → (Three ≡ previous c) × (Two ≡ next c)
        at_root m all One e z = (refl, refl)
        at_root m all Two e z = let q = root_rank_two e in absurd (omega arith)
        at_root m all Three e z = let q = root_rank_three e in absurd (omega arith)

    -- along the last contour
    module _ (p : ℕ) (al : GoesAlong g (rank u) (rank v) p) (e : face u v ≡ outer) where
      not_first : rank v ≢ 0
      not_first z = let wi = al.within in let q = one_place (suc p) 0 wi (omega arith) (al.head ∙ z ∙ sym stage.begin) in omega arith

      not_second : suc (suc p) < g.width → rank v ≢ 1
      not_second l z =
          let end : ℕ = g.width - 1 in
          let q = one_place (suc p) end (omega arith) (omega arith) (al.head ∙ z ∙ sym (stage.end end (omega arith))) in
          omega arith

      not_top : suc p ≢ top → suc (rank v) ≢ length lists
      not_top ne z =
          let wi = al.within in
          let t = top_is in
          let x = h.whole.within in
          let q = al.head in
          ne (one_place (suc p) top wi x (omega arith))

      onward : (q : ℕ) → GoesAlong g (rank v) (rank w) q → q ≡ suc p
      onward q go = let wi = al.within in let wj = go.within in one_place q (suc p) (omega arith) wi (go.tail ∙ sym al.head)

      -- before the last vertex
      ordered_right : p < top → (q : ℕ) → GoesAlong g (rank v) (rank w) q → IsOrdered lists (s, d) root out_of v u
      ordered_right l q go =
          let same = onward q go in
          let wj = go.within in
          let behind = (sides.right p (rank u) (rank v) l al).head in
          elim (cases_lt q top) [
            | inl more ↦ ordered v u Two Two has behind (sides.right q (rank v) (rank w) more go).tail (meets_elsewhere Two Two refl not_first (not_second (omega arith)) (not_top (λ z. omega arith)))
            | inr none ↦
                let here : q ≡ top = omega arith in
                let t = top_is in
                let last : suc (rank v) ≡ length lists = ap suc (sym go.tail ∙ ap g.vertex here) ∙ t in
                let r = rank_three lists s d steps n rank face at h root roots in
                let v_is : v ≡ root Three = h.map.ranks v (root Three) lv roots.before.0 (omega arith) in
                ordered v u Two One has behind (sides.left q (rank v) (rank w) (omega arith) go).tail (at_last (omega arith), λ off. absurd (off Three v_is (before v_is q go)))
          ]
        where
          at_last : suc (suc p) < g.width → (c : Axis) → v ≡ root c → IsBeforeOuter lists (s, d) root c u → (Two ≡ previous c) × (One ≡ next c)
          at_last m One e z = absurd (not_first (root_rank_one e))
          at_last m Two e z = absurd (not_second m (root_rank_two e))
          at_last m Three e z = (refl, refl)

          before : v ≡ root Three → (q : ℕ) → GoesAlong g (rank v) (rank w) q → follows lists (root Three) u ≡ s
          before e q go =
              let end = three_end in
              let nx = end.next in
              let wj = go.within in
              let z : q ≡ end.place = one_place q end.place (omega arith) (omega arith) (go.tail ∙ ap rank e ∙ sym end.tail) in
              let there : rank w ≡ 1 = sym go.head ∙ stage.end (suc q) (omega arith) in
              ap (λ x. follows lists x u) (sym e) ∙ h.map.ranks w s (head_in lists s d steps n rank face at h root roots v w after) h.map.dart.0 (there ∙ sym h.map.second)

      -- behind it
      ordered_left : top ≤ p → (q : ℕ) → GoesAlong g (rank v) (rank w) q → IsOrdered lists (s, d) root out_of v u
      ordered_left l q go =
          let same = onward q go in
          let wj = go.within in
          ordered v u One One has (sides.left p (rank u) (rank v) l al).head (sides.left q (rank v) (rank w) (omega arith) go).tail (meets_elsewhere One One refl not_first (not_second (omega arith)) (not_top (λ z. omega arith)))

      -- at root two, before the base
      ordered_end : rank v ≡ 1 → rank w ≡ 0 → IsOrdered lists (s, d) root out_of v u
      ordered_end ev ew =
          let wi = al.within in
          let wide = stage.wide in
          let end : ℕ = g.width - 1 in
          let z : suc p ≡ end = one_place (suc p) end wi (omega arith) (al.head ∙ ev ∙ sym (stage.end end (omega arith))) in
          let m = many in
          let all = h.all in
          let t = top_is in
          let x = h.whole.within in
          let late : top ≤ p = elim (cases_lt p top) [ inr b ↦ b | inl a ↦ (let y : top ≡ end = omega arith in let q = ap g.vertex y ∙ stage.end end (omega arith) in absurd (omega arith)) ] in
          let v_is : v ≡ root Two = h.map.ranks v s lv h.map.dart.0 (ev ∙ sym h.map.second) ∙ sym roots.two in
          let three = three_end in
          let nx = three.next in
          let same : p ≡ three.place = omega arith in
          let u_is : u ≡ root Three = h.map.ranks u (root Three) (head_in lists s d steps n rank face at h root roots v u has) roots.before.0 (sym al.tail ∙ ap g.vertex same ∙ three.tail) in
          ordered v u One Three has (sides.left p (rank u) (rank v) late al).head (subst (λ r. IsAhead Rises (rank v) r Three) (sym ew) (subst (λ r. IsAhead Rises r 0 Three) (sym ev) sides.base.tail)) (at_second m all ev, λ off. absurd (off Two v_is u_is))
        where
          at_second : 3 ≤ g.count → g.count ≡ length lists → rank v ≡ 1 → (c : Axis) → v ≡ root c → IsBeforeOuter lists (s, d) root c u → (One ≡ previous c) × (Three ≡ next c)
          at_second m all ev One e z = let q = root_rank_one e in absurd (omega arith)
          at_second m all ev Two e z = (refl, refl)
          at_second m all ev Three e z = let q = root_rank_three e in absurd (omega arith)

      ordered_along : IsOrdered lists (s, d) root out_of v u
      ordered_along = elim (cases_outer v w after (same_face ∙ e)) [
        | inr b ↦ ordered_end b.0 b.1
        | inl o ↦ elim (cases_lt p top) [ inl a ↦ ordered_right a o.place o.along | inr b ↦ ordered_left b o.place o.along ]
      ]

    pub ordered_at : IsOrdered lists (s, d) root out_of v u
    ordered_at = elim (h.map.on_face u v back) [
      | inl made ↦ ordered_made made.step made.place made.earlier made.dart.within made.number
      | inr (inl o) ↦ ordered_along o.place o.along o.number
      | inr (inr b) ↦ ordered_base b.tail b.head b.number
    ]
