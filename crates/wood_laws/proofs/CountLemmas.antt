-- How many vertices a region has.
use Rattle.std.proofs.Common.{◌≡◌, ◌≢◌, ◌⊎◌, ℕ, zero, suc, ◌+◌, ◌-◌, ◌<◌, Bool, true, false, eqb, List, length, get_or, refl, sym, ap, ap₂, ◌∙◌, subst, inl, inr, arith, true≢false, eq-eqb, ne_eqb, pos}
use Rattle.std.proofs.lemmas.Bool.{cases_eq, cases_Bool}
use Rattle.std.proofs.lemmas.Bool.Decides.{nat_tests}
use Rattle.std.specs.Cmp.{both_ways}
use Rattle.classes.specs.Classes.{count_below}
use Rattle.classes.proofs.Counting.{one_if, count_below_more, count_below_none}
use Rattle.classes.proofs.Orbits.{IsPermuting, count_below-images}
use Rattle.map_lists.specs.Lists.{Lists}
use Rattle.map_theory.specs.Maps.{Dart}
use Rattle.plane_laws.specs.Triangulations.{IsTriangulation}
use Rattle.canon_order.specs.Orders.{IsCanonicalOrder}
use Rattle.contour_runs.specs.Runs.{Step}
use Rattle.contour_runs.proofs.Stages.{count-stage_after}
use Rattle.contour_runs.specs.Wood.{coordinates, wood_points, drawn_one, drawn_two, point_of}
use Rattle.order_drawings.specs.OrderRuns.{IsOrderRun}
use Rattle.wood_runs.specs.Parents.{Colour, one, two, three, previous}
use Rattle.wood_laws.specs.Woods.{root, LeadsBy, AreParentsOf}
use Rattle.wood_laws.proofs.WoodLemmas.{size, some, once, wood_of_order}
use Rattle.wood_runs.proofs.Sides.{paths, sides}
use Rattle.wood_runs.specs.Edges.{number}
use Rattle.wood_runs.proofs.Crossing.{root_at, IsInside}
use Rattle.wood_runs.proofs.Walks.{goes_on, root_alone}
use Rattle.wood_runs.proofs.Sided.{IsSided-run}
use Rattle.wood_runs.proofs.Counts.{counts_run, counts_all}
use Rattle.wood_runs.proofs.Regions.{side_off_path, side_in_region, region_side}
use Rattle.wood_laws.specs.WoodRegionsLaws.{IsCoordinate, AreCoordinates}
use Rattle.wood_laws.proofs.RegionLemmas.{name_in, rank_inner, root_name, parent_of, parent_name, parent_small, parent_inside, path_to, region_shade, shade_region}

-- a test that passes where just one of two others does
count_apart : (t p q : ℕ → Bool) (n : ℕ) → ((i : ℕ) → i < n → t i ≡ true → (p i ≡ true) ⊎ (q i ≡ true)) → ((i : ℕ) → i < n → p i ≡ true → t i ≡ true) → ((i : ℕ) → i < n → q i ≡ true → t i ≡ true) → ((i : ℕ) → i < n → p i ≡ true → q i ≡ false) → count_below t n ≡ count_below p n + count_below q n
count_apart t p q zero a b c d = refl
count_apart t p q (suc n) a b c d =
    let less = count_apart t p q n (λ i l. a i (omega arith)) (λ i l. b i (omega arith)) (λ i l. c i (omega arith)) (λ i l. d i (omega arith)) in
    let l : n < suc n = omega arith in
    grind (arith, cases_Bool, one_if, true≢false)

module _ (lists : Lists) (base : Dart) (at : List ℕ) (steps : ℕ → Step) (parent : Colour → ℕ → ℕ) (triangulation : IsTriangulation lists) (order : IsCanonicalOrder lists base at) (run : IsOrderRun lists base at order.cycle steps) (parents : AreParentsOf at steps parent) where
  abbrev n : ℕ
  n = length at - 2

  abbrev name : ℕ → ℕ
  name k = get_or at k 0

  all_named : n + 2 ≡ length lists
  all_named = let s = size lists base at steps parent triangulation order run parents in let c = order.count in omega arith

  permuting : IsPermuting name (n + 2)
  permuting = record { within = λ i l. let m = name_in lists base at steps parent triangulation order run parents i l in let e = all_named in omega arith; apart = λ i j l m e. let s = size lists base at steps parent triangulation order run parents in once lists base at steps parent triangulation order run parents i j (omega arith) (omega arith) e }

  -- a path has as many vertices as steps and one more
  path_count : (d : ℕ) (c : Colour) (k : ℕ) → k < n + 2 → LeadsBy lists base (parent c) d (name k) (root lists base c) → count_below (paths steps n c k) (n + 2) ≡ suc d
  path_count zero c k l e =
      let r = root_name lists base at steps parent triangulation order run parents c in
      let t = count-stage_after steps n in
      let same : k ≡ root_at n c = once lists base at steps parent triangulation order run parents k (root_at n c) (omega arith) (let a = r.0 in omega arith) (e ∙ sym r.1) in
      let own = (IsSided-run steps n run.run).own_path c k (omega arith) in
      let more = count_below_more (λ i. false) (paths steps n c k) (n + 2) k l refl own (λ i m ne. elim (cases_Bool (paths steps n c k i)) [
        | inr x ↦ sym x
        | inl x ↦ absurd (ne (root_alone steps n run.run c i (let z = some lists base at steps parent triangulation order run parents in omega arith) m (ap (λ k. paths steps n c k i) (sym same) ∙ x) ∙ sym same))
      ]) in
      omega (arith, more, count_below_none (n + 2))
  path_count (suc d) c k l (inner, leads) =
      let i = rank_inner lists base at steps parent triangulation order run parents k l inner in
      let h = parent_of lists base at steps parent triangulation order run parents c k i in
      let u = h.parent in
      let t = count-stage_after steps n in
      let leads' = subst (λ x. LeadsBy lists base (parent c) d x (root lists base c)) (parent_name lists base at steps parent triangulation order run parents c k i) leads in
      let on = goes_on steps n run.run c k u h.is_parent in
      let off : paths steps n c u k ≡ false = elim (cases_Bool (paths steps n c u k)) [
        | inr x ↦ x
        | inl x ↦ elim (parent_inside lists base at steps parent triangulation order run parents c k i) [
          | inl j ↦
              let q = path_to lists base at steps parent triangulation order run parents c u k j l x in
              absurd ((wood_of_order lists base at steps parent triangulation order run parents).away c q.0 (name k) (inner, subst (λ x. LeadsBy lists base (parent c) q.0 x (name k)) (sym (parent_name lists base at steps parent triangulation order run parents c k i)) q.1))
          | inr e ↦
              let z = root_alone steps n run.run c k (let z = some lists base at steps parent triangulation order run parents in omega arith) l (ap (λ u. paths steps n c u k) (sym e) ∙ x) in
              absurd (root_off c z i)
        ]
      ] in
      let own = (on k (omega arith)).1 (inl refl) in
      let more = count_below_more (paths steps n c u) (paths steps n c k) (n + 2) k l off own (λ w m ne. both_ways (paths steps n c u w) (paths steps n c k w) (λ x. (on w (omega arith)).1 (inr x)) (λ x. elim ((on w (omega arith)).0 x) [ inl e ↦ absurd (ne e) | inr y ↦ y ])) in
      omega (arith, more, path_count d c u (parent_small lists base at steps parent triangulation order run parents c k i) leads')
    where
      root_off : (c : Colour) → k ≡ root_at n c → ¬ IsInside n k
      root_off one e i = let m = i.0 in omega arith
      root_off two e i = let m = i.0 in omega arith
      root_off three e i = let m = i.1 in omega arith

  module _ (v : ℕ) (inside : IsInside n v) where
    abbrev on_side : Colour → ℕ → Bool
    on_side c w = eqb (sides steps n v w) (number c)

    pub coordinate_is : (c : Colour) → IsCoordinate lists base parent c (name v) (count_below (on_side c) (n + 2))
    coordinate_is c r d counted leads =
        let t = λ (k : ℕ). counted.inside (name k) in
        let lv : v < n + 2 = omega arith in
        let images = count_below-images name (n + 2) permuting counted.inside in
        let path = path_count d (previous c) v lv leads in
        let apart' =
        count_apart t (paths steps n (previous c) v) (on_side c) (n + 2)
        (λ k l x. elim (region_side steps n run.run c v k lv (region_shade lists base at steps parent triangulation order run parents v inside c k l ((counted.exact (name k) (name_in lists base at steps parent triangulation order run parents k l)).0 x))) [
          | inl y ↦ inr (eq-eqb (sides steps n v k) (number c) y)
          | inr y ↦ inl y
        ])
        (λ k l x. (counted.exact (name k) (name_in lists base at steps parent triangulation order run parents k l)).1 (inl (inr (path_to lists base at steps parent triangulation order run parents (previous c) v k inside l x))))
        (λ k l x. (counted.exact (name k) (name_in lists base at steps parent triangulation order run parents k l)).1 (inr (shade_region lists base at steps parent triangulation order run parents v inside c k l (side_in_region steps n run.run c v k lv l (λ z. absurd (omega arith)) (is_number c k x)))))
        (λ k l x. elim (cases_Bool (on_side c k)) [
          | inr y ↦ y
          | inl y ↦ absurd (true≢false (sym x ∙ side_off_path steps n run.run c v k lv l (is_number c k y)))
        ]) in
        omega (arith, ap (count_below counted.inside) all_named ∙ counted.count)
      where
        is_number : (c : Colour) (k : ℕ) → on_side c k ≡ true → sides steps n v k ≡ number c
        is_number c k x = elim (cases_eq (sides steps n v k) (number c)) [ inl z ↦ z | inr z ↦ absurd (true≢false (sym x ∙ ne_eqb (sides steps n v k) (number c) z)) ]

    pub coordinates_are : AreCoordinates lists base parent (name v) ((coordinates steps n).one v) ((coordinates steps n).two v) (count_below (on_side three) (n + 2))
    coordinates_are =
        let h = counts_run steps n v run.run (omega arith) in
        record {
          first = subst (IsCoordinate lists base parent one (name v)) (sym h.0) (coordinate_is one);
          second = subst (IsCoordinate lists base parent two (name v)) (sym h.1) (coordinate_is two);
          third = coordinate_is three;
          all = omega (arith, counts_all steps n v run.run (omega arith));
        }

-- the drawing moves no inner vertex
pub drawn_point : (steps : ℕ → Step) (n v : ℕ) → v ≢ 0 → point_of (wood_points steps n) v ≡ record { x = pos ((coordinates steps n).one v); y = pos ((coordinates steps n).two v) }
unfolding drawn_one drawn_two
drawn_point steps n v ne = grind (arith, drawn_one, coordinates, one, nat_tests, drawn_two, two, ap₂, pos)
