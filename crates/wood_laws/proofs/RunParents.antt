-- Where a canonical order is arranged as a wood has it, the parents of its run are those of the wood.
use Rattle.std.proofs.Common.{◌≡◌, ◌≢◌, ◌⊎◌, ℕ, suc, ◌+◌, ◌-◌, ◌<◌, ◌≤◌, List, length, get_or, refl, sym, ap, ◌∙◌, subst, inl, inr, arith}
use Rattle.map_lists.specs.Lists.{Lists}
use Rattle.map_theory.specs.Maps.{Dart, HasDart, list_of, follows}
use Rattle.map_theory.proofs.DartLemmas.{HasDart-follows}
use Rattle.plane_laws.specs.Triangulations.{IsTriangulation}
use Rattle.plane_peeling.specs.Restricted.{IsFaceOfThree, IsDartOfThree}
use Rattle.plane_peeling.proofs.OuterCycles.{entry_before}
use Rattle.canon_order.specs.Orders.{IsCanonicalOrder}
use Rattle.contour_runs.specs.Runs.{Step, Stage, stage_after}
use Rattle.contour_runs.specs.Laws.{IsStage}
use Rattle.contour_runs.proofs.Stages.{IsStage-run, IsRun-less, count-stage_after}
use Rattle.order_drawings.specs.OrderRuns.{IsMadeByStep, IsOrderRun}
use Rattle.wood_runs.specs.Parents.{Colour, one, two, three, End, out, into, MayFollow}
use Rattle.wood_laws.specs.Woods.{IsInner, IsEndAt, IsWood, AreParentsOf}
use Rattle.wood_laws.specs.Arranged.{IsBefore, IsArranged}
use Rattle.wood_laws.proofs.Ends.{Either, one_end, some_end, after_into_three, before_into_three}
use Rattle.wood_laws.proofs.Ordered.{once, inner_at, before_at, before_to}

-- the ways in which an earlier vertex stands to a later one
abbrev IsEarly : End → Type 0
IsEarly e = (e ≡ out one) ⊎ ((e ≡ out two) ⊎ (e ≡ into three))

first_of : (f e : End) → MayFollow f e → IsEarly f → IsEarly e → (f ≡ out one) ⊎ (f ≡ into three)
first_of f e m x3 k = grind (arith, MayFollow, End, IsEarly, out, two, one, three)

second_of : (f e : End) → MayFollow f e → IsEarly f → IsEarly e → (e ≡ out two) ⊎ (e ≡ into three)
second_of f e m k x4 = grind (arith, MayFollow, End, IsEarly, out, one, two, three)

module _ (lists : Lists) (base : Dart) (parent : Colour → ℕ → ℕ) (at : List ℕ) (triangulation : IsTriangulation lists) (has : HasDart lists base.0 base.1) (wood : IsWood lists base parent) (a : IsArranged lists base parent at) (order : IsCanonicalOrder lists base at) (steps : ℕ → Step) (run : IsOrderRun lists base at order.cycle steps) where
  abbrev n : ℕ
  n = length at - 2

  abbrev stage : ℕ → Stage
  stage k = stage_after steps k

  abbrev At' : End → ℕ → ℕ → Type 0
  At' e v u = IsEndAt lists base parent e v u

  abbrev named : ℕ → ℕ
  named i = get_or at i 0

  size : length at ≡ n + 2
  size = let c = a.count in let s = triangulation.some in omega arith

  once' : (i j : ℕ) → i < length at → j < length at → named i ≡ named j → i ≡ j
  once' i j l m e = let c = a.count in once lists base parent at triangulation has wood a i j (omega arith) (omega arith) e

  sound : (k : ℕ) → k ≤ n → IsStage (stage k)
  sound k l = IsStage-run steps k (IsRun-less steps k n l run.run)

  -- a vertex of the contour was placed before
  placed : (k j : ℕ) → k < n → j ≤ (steps k).last → (stage k).vertex j < k + 2
  placed k j l m = let w = (run.run k l).within in let c = count-stage_after steps k in let p = (sound k (omega arith)).placed j (omega arith) in omega arith

  same_place : (k i j : ℕ) → k < n → i ≤ (steps k).last → j ≤ (steps k).last → (stage k).vertex i ≡ (stage k).vertex j → i ≡ j
  same_place k i j l m m' e =
      let w = (run.run k l).within in
      let g = sound k (omega arith) in
      sym (g.own i (omega arith)) ∙ ap (stage k).place e ∙ g.own j (omega arith)

  -- round a vertex inner to the map, and of rank k + 2, where it is put on
  module _ (k : ℕ) (l : k < n) (i : IsInner lists base (named (k + 2))) where
    abbrev v : ℕ
    v = named (k + 2)

    abbrev low : ℕ
    low = (steps k).first

    abbrev high : ℕ
    high = (steps k).last

    abbrev row : ℕ → ℕ
    row j = named ((stage k).vertex j)

    some : low < high
    some = (run.run k l).order

    face : (j : ℕ) → low ≤ j → j < high → IsFaceOfThree lists (row j) (row (suc j)) v
    face j lo hi = let s = size in run.faces k j ((stage k).vertex j) ((stage k).vertex (suc j)) (k + 2) (omega arith) record { low = lo; high = hi; left = refl; right = refl; new = count-stage_after steps k }

    dart_right : (j : ℕ) → low ≤ j → j < high → HasDart lists v (row (suc j))
    dart_right j lo hi =
        let f = face j lo hi in
        triangulation.simple.both_ways (row (suc j)) v (subst (HasDart lists (row (suc j))) f.second (HasDart-follows lists (row (suc j)) (row j) (triangulation.simple.both_ways (row j) (row (suc j)) f.dart)))

    dart_left : (j : ℕ) → low ≤ j → j < high → HasDart lists v (row j)
    dart_left j lo hi = subst (HasDart lists v) (face j lo hi).third (HasDart-follows lists v (row (suc j)) (dart_right j lo hi))

    v_in : k + 2 < length lists
    v_in = let s = size in let c = a.count in omega arith

    not_later : (j : ℕ) → j ≤ high → (x : ℕ) × (k + 2 < x) × (x < length lists) × (named x ≡ row j) → ⊥
    not_later j m b =
        let p = placed k j l m in
        omega (arith, once' b.0 ((stage k).vertex j) (omega arith) (omega arith) b.3)

    -- an earlier vertex stands to it in an early way
    early : (j : ℕ) → j ≤ high → (e : End) → At' e v (row j) → IsEarly e
    early j m (out one) h = inl refl
    early j m (out two) h = inr (inl refl)
    early j m (into three) h = inr (inr refl)
    early j m (out three) h = let b = before_at lists base parent at triangulation has wood a v (parent three v) (k + 2) v_in (a.three_after v i) refl in absurd (not_later j m (b.0, b.1, b.2, b.3 ∙ h))
    early j m (into one) h = absurd (not_later j m (before_at lists base parent at triangulation has wood a (parent one (row j)) (row j) (k + 2) v_in (a.one_before (row j) h.0) (sym h.1)))
    early j m (into two) h = absurd (not_later j m (before_at lists base parent at triangulation has wood a (parent two (row j)) (row j) (k + 2) v_in (a.two_before (row j) h.0) (sym h.1)))

    -- and only those do
    earlier : (u : ℕ) (e : End) → IsEarly e → At' e v u → (x : ℕ) × (x < k + 2) × (named x ≡ u)
    earlier u e (inl q) h = let b = before_to lists base parent at triangulation has wood a (parent one v) v (k + 2) v_in (a.one_before v i) refl in (b.0, b.1, b.2 ∙ subst (λ e. At' e v u) q h)
    earlier u e (inr (inl q)) h = let b = before_to lists base parent at triangulation has wood a (parent two v) v (k + 2) v_in (a.two_before v i) refl in (b.0, b.1, b.2 ∙ subst (λ e. At' e v u) q h)
    earlier u e (inr (inr q)) h =
        let g = subst (λ e. At' e v u) q h in
        let b = before_to lists base parent at triangulation has wood a u (parent three u) (k + 2) v_in (a.three_after u g.0) (sym g.1) in
        (b.0, b.1, b.2)

    -- along the row: but for its last none is the parent of colour two, and but for its first none that of colour one
    left_end : (j : ℕ) → low ≤ j → j < high → Either lists base parent triangulation has wood (out one) (into three) v (row j)
    left_end j lo hi =
        let o = wood.order v (row (suc j)) i (dart_right j lo hi) in
        let here = subst (At' o.first v) (face j lo hi).third o.after in
        grind (arith, first_of, early, At', row)

    right_end : (j : ℕ) → low ≤ j → j < high → Either lists base parent triangulation has wood (out two) (into three) v (row (suc j))
    right_end j lo hi =
        let o = wood.order v (row (suc j)) i (dart_right j lo hi) in
        let here = subst (At' o.first v) (face j lo hi).third o.after in
        grind (arith, second_of, early, At', row)

    -- between the two ends it is the parent of colour three
    pub over : (j : ℕ) → low < j → j < high → parent three (row j) ≡ v
    over j lo hi =
        let m : ℕ = j - 1 in
        let e : suc m ≡ j = omega arith in
        let right = subst (λ j. Either lists base parent triangulation has wood (out two) (into three) v (row j)) e (right_end m (omega arith) (omega arith)) in
        grind (arith, left_end, one_end, row, out, one, two)

    -- a dart to it or from it is no dart of the base's face
    not_base : (x : ℕ) → ¬ IsDartOfThree base.0 base.1 (follows lists base.1 base.0) x v
    not_base x (inl e) = i.1 one e.1
    not_base x (inr (inl e)) = i.1 three e.1
    not_base x (inr (inr e)) = i.1 two e.1

    -- the row has no repeats
    row_once : (i j : ℕ) → i ≤ high → j ≤ high → row i ≡ row j → i ≡ j
    row_once i j a b e =
        same_place k i j l a b (once' ((stage k).vertex i) ((stage k).vertex j) (omega (arith, placed k i l a)) (omega (arith, placed k j l b)) e)

    -- A dart to it stands in a face of a step: with a later vertex behind it, along the row, or from a later vertex.
    made_by : (x : ℕ) → IsMadeByStep at steps x v → ((w : ℕ) × (k + 2 < w) × (w < length lists) × (named w ≡ follows lists v x)) ⊎ (((j : ℕ) × (low ≤ j) × (j < high) × (row (suc j) ≡ x) × (row j ≡ follows lists v x)) ⊎ ((w : ℕ) × (k + 2 < w) × (w < length lists) × (named w ≡ x)))
    made_by x m =
        let s = size in
        let l' : m.step < n = let e = m.earlier in omega arith in
        let f = run.faces m.step m.place m.a m.b m.v m.earlier m.face in
        let hi = m.face.high in
        let lo = m.face.low in
        let pa = placed m.step m.place l' (omega arith) in
        let pb = placed m.step (suc m.place) l' (omega arith) in
        let ev = sym (count-stage_after steps m.step) ∙ m.face.new in
        elim m.dart [
          | inl e ↦
              let q = once' (k + 2) m.b (omega arith) (omega arith) e.1 in
              inl (m.v, omega arith, omega arith, sym (ap (follows lists v) e.0 ∙ (ap (λ w. follows lists w (named m.a)) e.1 ∙ f.second)))
          | inr (inl e) ↦
              let same : m.step ≡ k = omega (arith, once' (k + 2) m.v (omega arith) (omega arith) e.1) in
              let first = ap (λ s. (stage s).vertex m.place) (sym same) ∙ m.face.left in
              let second = ap (λ s. (stage s).vertex (suc m.place)) (sym same) ∙ m.face.right in
              let turned = ap (follows lists v) e.0 ∙ (ap (λ w. follows lists w (named m.b)) e.1 ∙ f.third) in
              inr (inl (m.place, subst (λ s. (steps s).first ≤ m.place) same lo, subst (λ s. m.place < (steps s).last) same hi, ap named second ∙ sym e.0, ap named first ∙ sym turned))
          | inr (inr e) ↦
              let q = once' (k + 2) m.a (omega arith) (omega arith) e.1 in
              inr (inr (m.v, omega arith, omega arith, sym e.0))
        ]

    -- an earlier vertex is no later one
    not_both : (z : (x : ℕ) × (x < k + 2)) → (w : (x : ℕ) × (k + 2 < x) × (x < length lists)) → named z.0 ≡ named w.0 → ⊥
    not_both z w e =
        omega (arith, once' z.0 w.0 (omega arith) (omega arith) e)

    -- the first of the row is the parent of colour one
    pub first_is : parent one v ≡ row low
    first_is =
        let d = dart_left low (omega arith) some in
        elim (left_end low (omega arith) some) [
          | inl h ↦ h
          | inr h ↦
              let z : ℕ = follows lists v (row low) in
              let early_z : (x : ℕ) × (x < k + 2) × (named x ≡ z) = elim (after_into_three lists base parent triangulation has wood v (row low) i d h) [
                | inl g ↦ earlier z (out one) (inl refl) g
                | inr g ↦ earlier z (into three) (inr (inr refl)) g
              ] in
              absurd (none early_z (run.made (row low) v (triangulation.simple.both_ways v (row low) d) (not_base (row low))))
        ]
      where
        none : (x : ℕ) × (x < k + 2) × (named x ≡ follows lists v (row low)) → IsMadeByStep at steps (row low) v → ⊥
        none z m =
            elim (made_by (row low) m) [
              | inl h ↦ not_both (z.0, z.1) (h.0, h.1, h.2) (z.2 ∙ sym h.3)
              | inr (inl h) ↦ (let lo = h.1 in let e = row_once (suc h.0) low h.2 (omega arith) h.3 in omega arith)
              | inr (inr h) ↦ not_later low (omega (arith, some)) h
            ]

    -- and the last that of colour two
    pub last_is : parent two v ≡ row high
    last_is =
        let o = some in
        let m : ℕ = high - 1 in
        let e : suc m ≡ high = omega arith in
        let d = subst (λ j. HasDart lists v (row j)) e (dart_right m (omega arith) (omega arith)) in
        elim (subst (λ j. Either lists base parent triangulation has wood (out two) (into three) v (row j)) e (right_end m (omega arith) (omega arith))) [
          | inl h ↦ h
          | inr h ↦
              let b = entry_before (list_of lists v) (row high) (triangulation.simple.no_repeat v i.0) d.1 in
              let z : ℕ = b.0 in
              let dz : HasDart lists v z = (i.0, b.1) in
              let early_z : (x : ℕ) × (x < k + 2) × (named x ≡ z) = elim (before_into_three lists base parent triangulation has wood v z i dz (subst (At' (into three) v) (sym b.2) h)) [
                | inl g ↦ earlier z (out two) (inr (inl refl)) g
                | inr g ↦ earlier z (into three) (inr (inr refl)) g
              ] in
              absurd (none z b.2 early_z (run.made z v (triangulation.simple.both_ways v z dz) (not_base z)))
        ]
      where
        none : (z : ℕ) → follows lists v z ≡ row high → (x : ℕ) × (x < k + 2) × (named x ≡ z) → IsMadeByStep at steps z v → ⊥
        none u to z m = elim (made_by u m) [
          | inl h ↦ not_later high (omega arith) (h.0, h.1, h.2, h.3 ∙ to)
          | inr (inl h) ↦ (let hi = h.2 in let e = row_once h.0 high (omega arith) (omega arith) (h.4 ∙ to) in omega arith)
          | inr (inr h) ↦ not_both (z.0, z.1) (h.0, h.1, h.2) (z.2 ∙ sym h.3)
        ]

  -- THE LEMMA
  pub parents_are : AreParentsOf at steps parent
  parents_are one v w few p =
      let inner = inner_at lists base parent at triangulation has wood a (p.step + 2) (omega arith) (omega arith) in
      ap (λ v. parent one (named v)) p.vertex ∙ (first_is p.step p.earlier inner ∙ ap named p.parent)
  parents_are two v w few p =
      let inner = inner_at lists base parent at triangulation has wood a (p.step + 2) (omega arith) (omega arith) in
      ap (λ v. parent two (named v)) p.vertex ∙ (last_is p.step p.earlier inner ∙ ap named p.parent)
  parents_are three v w few p =
      let k : ℕ = p.step in
      let l = p.earlier in
      let j : ℕ = p.covered.place in
      let lo = p.covered.low in
      let hi = p.covered.high in
      let g = sound k (omega arith) in
      let within = (run.run k l).within in
      let is_v : (stage k).vertex j ≡ v = p.covered.vertex in
      let own : (stage k).place v ≡ j = ap (stage k).place (sym is_v) ∙ g.own j (omega arith) in
      let end : ℕ = (stage k).width - 1 in
      let not_zero : v ≢ 0 = λ e. let z = ap (stage k).place (e ∙ sym g.begin) ∙ g.own 0 (omega arith) in absurd (omega arith) in
      let not_one : v ≢ 1 = λ e. let z = ap (stage k).place (e ∙ sym (g.end end (omega arith))) ∙ g.own end (omega arith) in absurd (omega arith) in
      let small = placed k j l (omega arith) in
      let inner = inner_at lists base parent at triangulation has wood a v (omega arith) (omega arith) in
      let f = run.faces k j ((stage k).vertex j) ((stage k).vertex (suc j)) (k + 2) (omega arith) record { low = omega arith; high = hi; left = refl; right = refl; new = count-stage_after steps k } in
      let d = dart_between (named ((stage k).vertex j)) (named ((stage k).vertex (suc j))) (named (k + 2)) f in
      let edge : HasDart lists (named v) (named (k + 2)) = subst (λ v. HasDart lists (named v) (named (k + 2))) is_v d in
      let e = some_end lists base parent triangulation has wood (named v) (named (k + 2)) inner edge in
      by_end e.0 e.1 inner (λ i. ap (λ v. parent three (named v)) (sym is_v) ∙ over k l i j lo hi) (omega arith) (omega arith) ∙ ap named (sym p.parent)
    where
      dart_between : (x y z : ℕ) → IsFaceOfThree lists x y z → HasDart lists x z
      dart_between x y z f =
          let second = subst (HasDart lists y) f.second (HasDart-follows lists y x (triangulation.simple.both_ways x y f.dart)) in
          triangulation.simple.both_ways z x (subst (HasDart lists z) f.third (HasDart-follows lists z y (triangulation.simple.both_ways y z second)))

      not_before : (c : Colour) (v z : ℕ) → v < z → z < length at → IsBefore at (parent c (named v)) (named v) → parent c (named v) ≢ named z
      not_before c v z m m' b e =
          let t = before_to lists base parent at triangulation has wood a (parent c (named v)) (named v) v (omega arith) b refl in
          omega (arith, once' t.0 z (omega arith) m' (t.2 ∙ e))

      by_end : (e : End) → {v z : ℕ} → At' e (named v) (named z) → IsInner lists base (named v) → (IsInner lists base (named z) → parent three (named v) ≡ named z) → v < z → z < length at → parent three (named v) ≡ named z
      by_end (out one) {v} {z} h i up m m' = absurd (not_before one v z m m' (a.one_before (named v) i) h)
      by_end (out two) {v} {z} h i up m m' = absurd (not_before two v z m m' (a.two_before (named v) i) h)
      by_end (out three) h i up m m' = h
      by_end (into c) h i up m m' = up h.0
