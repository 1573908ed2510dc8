-- A canonical order is a run.
use Rattle.std.proofs.Common.{◌≡◌, ℕ, suc, ◌+◌, ◌-◌, ◌<◌, ◌≤◌, true, List, [], ◌∷◌, length, get_or, take, Contains, refl, sym, ap, ap₂, ◌∙◌, subst, inl, inr, arith, length-append}
use Rattle.std.proofs.lemmas.List.{get_or_default, get_or-map, get_or-take, length-map, length-take-le}
use Rattle.std.proofs.lemmas.List.Elements.{Contains-get_or}
use Rattle.map_lists.specs.Lists.{Lists}
use Rattle.map_theory.specs.Maps.{Dart, HasDart}
use Rattle.map_theory.proofs.EntryLemmas.{list_any-from_Contains}
use Rattle.plane_laws.specs.Triangulations.{IsTriangulation}
use Rattle.plane_peeling.specs.Restricted.{IsFaceOfThree, IsDartOfThree}
use Rattle.plane_peeling.proofs.OuterCycles.{IsFaceOfThree-turned}
use Rattle.plane_peeling.proofs.RestrictedMaps.{restricted-new}
use Rattle.canon_order.specs.Orders.{stands_in, IsPutOn, IsMade, IsCanonicalOrder}
use Rattle.canon_order.specs.Laws.{LastCycle}
use Rattle.canon_order.proofs.Counters.{same_place}
use Rattle.contour_runs.specs.Runs.{Step, Stage, stage_after, contour, IsFaceOf}
use Rattle.contour_runs.specs.Laws.{IsStage, row, IsGrowing, IsRunOf}
use Rattle.contour_runs.proofs.Stages.{IsStage-run, IsRun-less, count-stage_after}
use Rattle.contour_runs.proofs.Contours.{length-contour, get_or-contour}
use Rattle.contour_runs.proofs.Growing.{length-old, get_or-row, lists_are_run}
use Rattle.order_drawings.specs.OrderRuns.{IsMadeByStep, IsOrderRun}

-- an earlier entry is kept
kept_entry : (at : List ℕ) (k i : ℕ) → i < k → k ≤ length at → stands_in (take k at) (get_or at i 0) ≡ true
kept_entry at k i l m =
    list_any-from_Contains (get_or at i 0) (take k at) (subst (Contains (take k at)) (get_or-take k at i 0 l) (Contains-get_or (take k at) i 0 (omega (arith, length-take-le k at m))))

-- the darts of a face, read from another corner and by other names
dart_named : (a b v a' b' v' x y : ℕ) → a ≡ a' → b ≡ b' → v ≡ v' → IsDartOfThree v' a' b' x y → IsDartOfThree a b v x y
dart_named a b v a' b' v' x y ea eb ev d = elim d [
  | inl e ↦ inr (inr (e.0 ∙ sym ev, e.1 ∙ sym ea))
  | inr (inl e) ↦ inl (e.0 ∙ sym ea, e.1 ∙ sym eb)
  | inr (inr e) ↦ inr (inl (e.0 ∙ sym eb, e.1 ∙ sym ev))
]

module _ (lists : Lists) (base : Dart) (at : List ℕ) (triangulation : IsTriangulation lists) (order : IsCanonicalOrder lists base at) where
  abbrev cycle : ℕ → List ℕ
  cycle = order.cycle

  some_at : 3 ≤ length at
  some_at = let c = order.count in let s = triangulation.some in omega arith

  abbrev put_on : (k : ℕ) → k + 2 < length at → IsPutOn lists (take (suc (k + 2)) at) (get_or at (k + 2) 0) (cycle (k + 2)) (cycle (suc (k + 2)))
  put_on k l = order.built.put (k + 2) (omega arith) l

  abbrev growing : IsGrowing at cycle
  growing = record {
    many = let s = some_at in omega arith;
    begin = order.built.begin ∙ ap₂ (λ s t. s ∷ t ∷ []) (sym order.built.first) (sym order.built.second);
    put = λ k l. record { front = (put_on k l).front; p = (put_on k l).p; middle = (put_on k l).middle; q = (put_on k l).q; back = (put_on k l).back; before = (put_on k l).before; after = (put_on k l).after };
  }

  abbrev name : ℕ → ℕ
  name v = get_or at v 0

  -- the row under a new vertex
  abbrev under : (k : ℕ) → k + 2 < length at → List ℕ
  under k l = row (name (k + 2)) (cycle (k + 2)) (cycle (suc (k + 2))) (growing.put k l)

  module _ (steps : ℕ → Step) (h : IsRunOf at cycle growing steps) where
    abbrev stage : ℕ → Stage
    stage k = stage_after steps k

    sound : (k : ℕ) → k + 2 ≤ length at → IsStage (stage k)
    sound k l = IsStage-run steps k (IsRun-less steps k (length at - 2) (omega arith) h.run)

    width-cycle : (k : ℕ) → k + 2 ≤ length at → length (cycle (k + 2)) ≡ (stage k).width
    width-cycle k l = ap length (h.contours k l) ∙ length-map (contour (stage k)) name ∙ length-contour (stage k)

    cycle-name : (k i : ℕ) → k + 2 ≤ length at → i < (stage k).width → get_or (cycle (k + 2)) i 0 ≡ name ((stage k).vertex i)
    cycle-name k i l m = ap (λ xs. get_or xs i 0) (h.contours k l) ∙ get_or-map name (contour (stage k)) i 0 0 (omega (arith, length-contour (stage k))) ∙ ap name (get_or-contour (stage k) i m)

    -- a face made is a face of the map
    face_of_map : (k i a b v : ℕ) → k + 2 < length at → IsFaceOf steps k i a b v → IsFaceOfThree lists (name a) (name b) (name v)
    face_of_map k i a b v l f =
        let n = h.named k l i a b v f in
        let e : n.place + 1 ≡ suc n.place = omega arith in
        let right : get_or (under k l) (n.place + 1) 0 ≡ name b = ap (λ z. get_or (under k l) z 0) e ∙ n.right in
        let triangle = (put_on k l).fan.faces n.place n.within in
        let made : IsFaceOfThree lists (name v) (name a) (name b) =
        subst (λ z. IsFaceOfThree lists z (name a) (name b)) n.top
        (subst (λ z. IsFaceOfThree lists (name (k + 2)) z (name b)) n.left (subst (λ z. IsFaceOfThree lists (name (k + 2)) (get_or (under k l) n.place 0) z) right triangle)) in
        IsFaceOfThree-turned lists (name v) (name a) (name b) triangulation.simple made

    -- one vertex has one place of the contour
    one_place : (k i j : ℕ) → k + 2 ≤ length at → i < (stage k).width → j < (stage k).width → name ((stage k).vertex i) ≡ name ((stage k).vertex j) → i ≡ j
    one_place k i j l a b e = grind (arith, sound, count-stage_after, stage, same_place)

    -- a neighbour of a new vertex on the cycle before stands at one of the places from the first to the last
    on_row : (k i : ℕ) → k + 2 < length at → i < (stage k).width → HasDart lists (name (k + 2)) (name ((stage k).vertex i)) → ((steps k).first ≤ i) × (i ≤ (steps k).last)
    on_row k i l m d =
        let c = count-stage_after steps k in
        let p = (sound k (omega arith)).placed i m in
        let w = name ((stage k).vertex i) in
        let dart = restricted-new lists (stands_in (take (suc (k + 2)) at)) (name (k + 2)) w d (kept_entry at (suc (k + 2)) (k + 2) (omega arith) l) (kept_entry at (suc (k + 2)) ((stage k).vertex i) (omega arith) l) in
        let on = ((put_on k l).fan.neighbours w).0 dart in
        let j = on.0 in
        let front = length (put_on k l).front in
        let short = length-append ((put_on k l).p ∷ (put_on k l).middle) ((put_on k l).q ∷ []) in
        let in_row = on.1 in
        let small : j < length (put_on k l).middle + 2 = omega arith in
        let old = length-old (name (k + 2)) (cycle (k + 2)) (cycle (suc (k + 2))) (growing.put k l) in
        let width = width-cycle k (omega arith) in
        let there : front + j < (stage k).width = omega arith in
        let same : name ((stage k).vertex (front + j)) ≡ w =
        sym (cycle-name k (front + j) (omega arith) there) ∙ get_or-row (name (k + 2)) (cycle (k + 2)) (cycle (suc (k + 2))) (growing.put k l) j small ∙ get_or_default (under k l) j 0 w in_row ∙ on.2 in
        let e = one_place k (front + j) i (omega arith) there m same in
        let first = h.first k l in
        let last = h.last k l in
        (omega arith, omega arith)

    -- each face of the map but that of the base is made
    made_by_step : (x y : ℕ) → IsMade lists at cycle x y → IsMadeByStep at steps x y
    made_by_step x y made =
        let k : ℕ = made.k - 2 in
        let later = made.later in
        let e : k + 2 ≡ made.k = omega arith in
        let within = made.within in
        let l : k + 2 < length at = omega arith in
        let inside : suc made.i < (stage k).width = let n = made.inside in omega (arith, width-cycle k (omega arith), ap (λ z. length (cycle z)) e) in
        let v : name (k + 2) ≡ made.v = ap name e ∙ made.vertex in
        let a : name ((stage k).vertex made.i) ≡ made.a = sym (cycle-name k made.i (omega arith) (omega arith)) ∙ ap (λ z. get_or (cycle z) made.i 0) e ∙ made.one in
        let b : name ((stage k).vertex (suc made.i)) ≡ made.b = sym (cycle-name k (suc made.i) (omega arith) inside) ∙ ap (λ z. get_or (cycle z) (suc made.i) 0) e ∙ made.next in
        let turned = IsFaceOfThree-turned lists made.v made.a made.b triangulation.simple made.face in
        let again = IsFaceOfThree-turned lists made.a made.b made.v triangulation.simple turned in
        let va : HasDart lists (name (k + 2)) (name ((stage k).vertex made.i)) = subst (λ z. HasDart lists (name (k + 2)) z) (sym a) (subst (λ z. HasDart lists z made.a) (sym v) made.face.dart) in
        let vb : HasDart lists (name (k + 2)) (name ((stage k).vertex (suc made.i))) =
        subst (λ z. HasDart lists (name (k + 2)) z) (sym b) (subst (λ z. HasDart lists z made.b) (sym v) (triangulation.simple.both_ways made.b made.v again.dart)) in
        let low = on_row k made.i l (omega arith) va in
        let high = on_row k (suc made.i) l inside vb in
        record {
          step = k;
          place = made.i;
          a = (stage k).vertex made.i;
          b = (stage k).vertex (suc made.i);
          v = k + 2;
          earlier = l;
          face = record { low = low.0; high = high.1; left = refl; right = refl; new = count-stage_after steps k };
          dart = dart_named (name ((stage k).vertex made.i)) (name ((stage k).vertex (suc made.i))) (name (k + 2)) made.a made.b made.v x y a b v made.dart;
        }

  pub order_is_run : (last : LastCycle) → (steps : ℕ → Step) × IsOrderRun lists base at cycle steps
  order_is_run last =
      let found = lists_are_run at cycle growing in
      let steps = found.0 in
      let h = found.1 in
      let n : ℕ = length at - 2 in
      let some = some_at in
      let top : n + 2 ≡ length at = omega arith in (
        steps,
        record {
          run = h.run;
          end = sym (width-cycle steps h n (omega arith)) ∙ ap (λ z. length (cycle z)) top ∙ ap length (last lists base at triangulation order);
          contours = h.contours;
          faces = λ k i a b v l f. face_of_map steps h k i a b v l f;
          made = λ x y d other. made_by_step steps h x y (order.faces x y d other);
        },
      )
