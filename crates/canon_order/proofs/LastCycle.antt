-- The last cycle of a canonical order.
use Rattle.std.proofs.Common.{◌≡◌, ◌-◌, ◌<◌, ℕ, zero, suc, true, List, [], ◌∷◌, length, get_or, sym, ap, ◌∙◌, subst, arith}
use Rattle.std.proofs.lemmas.List.{ext_get_or}
use Rattle.std.proofs.Math.Seq.{take-length}
use Rattle.map_lists.specs.Lists.{Lists}
use Rattle.map_theory.specs.Maps.{Dart, HasDart, follows, entry_after}
use Rattle.map_theory.proofs.EntryLemmas.{list_any-from_Contains}
use Rattle.plane_laws.specs.Triangulations.{IsTriangulation}
use Rattle.plane_laws.proofs.Triangles.{triangles_where_met}
use Rattle.plane_peeling.specs.Restricted.{restricted}
use Rattle.plane_peeling.specs.NearTriangulations.{IsOuterCycle}
use Rattle.plane_peeling.proofs.OuterCycles.{IsFaceOfThree-triangle, round, first_on, last_on, next-last}
use Rattle.plane_peeling.proofs.RestrictedMaps.{restricted_all}
use Rattle.plane_peeling.proofs.Rings.{Leads-at}
use Rattle.canon_order.specs.Orders.{stands_in, IsCanonicalOrder}
use Rattle.canon_order.specs.Laws.{LastCycle}
use Rattle.canon_order.proofs.Counters.{same_place, all_of_them}

module _ (lists : Lists) (base : Dart) (at : List ℕ) (triangulation : IsTriangulation lists) (order : IsCanonicalOrder lists base at) where
  abbrev s : ℕ
  s = base.1

  abbrev t : ℕ
  t = base.0

  abbrev w : ℕ
  w = follows lists s t

  abbrev ws : List ℕ
  ws = order.cycle (length at)

  -- all vertices are among all
  all_in : (v : ℕ) → v < length lists → stands_in at v ≡ true
  all_in v l =
      list_any-from_Contains v at (all_of_them at v (λ k d m. let h = order.vertices k d m in omega arith) order.built.once (omega arith))

  -- so it is the outer cycle of the whole map
  whole : IsOuterCycle lists s t ws
  whole =
      subst (λ m. IsOuterCycle m s t ws) (ap (λ us. restricted (stands_in us) lists) (take-length at) ∙ restricted_all lists (stands_in at) triangulation.simple all_in)
      (order.built.outer (length at) (omega arith) (omega arith))

  abbrev next : ℕ → ℕ
  next x = entry_after x ws

  pub base_dart : HasDart lists t s
  base_dart = subst (HasDart lists t) (next-last lists s t ws triangulation.simple whole) (whole.darts t (last_on lists s t ws triangulation.simple whole))

  -- from s on to the third vertex of the base's face, and on to t
  after_s : next s ≡ w
  after_s =
      let e = next-last lists s t ws triangulation.simple whole in
      sym (ap (λ x. follows lists x t) (sym e) ∙ (whole.turns t (last_on lists s t ws triangulation.simple whole) ∙ ap next e))

  after_w : next w ≡ t
  after_w =
      let triangle = triangles_where_met lists triangulation.simple triangulation.plane triangulation.some triangulation.edges (t, s) base_dart in
      let face = IsFaceOfThree-triangle lists t s base_dart triangle in
      ap next (sym after_s) ∙ (sym (whole.turns s (first_on lists s t ws triangulation.simple whole)) ∙ (ap (λ x. follows lists x s) after_s ∙ face.third))

  pub last_cycle_here : ws ≡ s ∷ w ∷ t ∷ []
  last_cycle_here =
      let long = whole.long in
      let way = round lists s t ws triangulation.simple whole in
      let second : get_or ws 1 0 ≡ w = Leads-at next t ws t 0 1 way (omega arith) ∙ (ap next whole.first ∙ after_s) in
      let third : get_or ws 2 0 ≡ t = Leads-at next t ws t 0 2 way (omega arith) ∙ (ap next second ∙ after_w) in
      let three = same_place ws 2 (length ws - 1) whole.distinct (omega arith) (omega arith) (third ∙ sym whole.last) in
      ext_get_or 0 ws (s ∷ w ∷ t ∷ []) (omega arith) (λ i l. entry_at ws s w t i (omega arith) whole.first second third)
    where
      entry_at : (us : List ℕ) (a b c i : ℕ) → i < 3 → get_or us 0 0 ≡ a → get_or us 1 0 ≡ b → get_or us 2 0 ≡ c → get_or us i 0 ≡ get_or (a ∷ b ∷ c ∷ []) i 0
      entry_at us a b c zero l e e' e'' = e
      entry_at us a b c (suc zero) l e e' e'' = e'
      entry_at us a b c (suc (suc zero)) l e e' e'' = e''
      entry_at us a b c (suc (suc (suc i))) l e e' e'' = absurd (omega (arith, l))

-- THE LAW
pub last_cycle : LastCycle
last_cycle lists base at triangulation order = last_cycle_here lists base at triangulation order
