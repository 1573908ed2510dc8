-- The map restricted to the vertices of an outer cycle, which is an outer face that meets each vertex once.
use Rattle.std.proofs.Common.{◌≡◌, ℕ, Bool, true, List, Contains, sym, ap, ◌∙◌, ◌==◌}
use Rattle.std.specs.List.{list_any}
use Rattle.std.proofs.lemmas.Bool.{and_from}
use Rattle.map_lists.specs.Lists.{Lists}
use Rattle.map_theory.specs.Maps.{HasDart, IsSimpleMap, IsPlane, follows, entry_after}
use Rattle.map_theory.proofs.EntryLemmas.{Contains-from_list_any, list_any-from_Contains}
use Rattle.plane_laws.proofs.DartPaths.{same_face}
use Rattle.plane_laws.specs.OuterFaces.{IsOuterFace}
use Rattle.plane_peeling.specs.Restricted.{restricted}
use Rattle.plane_peeling.specs.NearTriangulations.{IsOuterCycle}
use Rattle.plane_peeling.proofs.BaseFaces.{one_label}
use Rattle.plane_peeling.proofs.RestrictedMaps.{both, restricted-map, restricted-old, restricted-new}
use Rattle.plane_peeling.proofs.OuterCycles.{next-on, two_steps_on}

module _ (lists : Lists) (s t : ℕ) (ws : List ℕ) (simple : IsSimpleMap lists) (plane : IsPlane lists) (cycle : IsOuterCycle lists s t ws) where
  -- the vertices of the cycle
  abbrev pub on : ℕ → Bool
  on u = list_any (λ w. w == u) ws

  abbrev pub rest : Lists
  rest = restricted on lists

  abbrev pub step : ℕ → ℕ
  step x = entry_after x ws

  on_is : (u : ℕ) → Contains ws u → on u ≡ true
  on_is u c = list_any-from_Contains u ws c

  pub kept_dart : (x y : ℕ) → Contains ws x → Contains ws y → HasDart lists x y → HasDart rest x y
  kept_dart x y c c' d = restricted-new lists on x y d (on_is x c) (on_is y c')

  pub old : (x y : ℕ) → HasDart rest x y → Contains ws x
  old x y d = Contains-from_list_any x ws (restricted-old lists on x y d).1

  pub simple' : IsSimpleMap rest
  simple' = (restricted-map lists on simple).simple

  pub stays_on : (x : ℕ) → Contains ws x → Contains ws (step x)
  stays_on x c = next-on lists s t ws simple cycle x c

  pub cycle_dart : (x : ℕ) → Contains ws x → HasDart rest x (step x)
  cycle_dart x c = kept_dart x (step x) c (stays_on x c) (cycle.darts x c)

  pub cycle_turn : (x : ℕ) → Contains ws x → follows rest (step x) x ≡ step (step x)
  cycle_turn x c =
      let m = restricted-map lists on simple in
      let c1 = stays_on x c in
      let kept : both on (step x) (follows lists (step x) x) ≡ true =
      and_from (on (step x)) (on (follows lists (step x) x)) (on_is (step x) c1) (ap on (cycle.turns x c) ∙ on_is (step (step x)) (stays_on (step x) c1)) in
      m.follows_same (step x) x (m.simple.both_ways x (step x) (cycle_dart x c)) kept ∙ cycle.turns x c

  pub cycle_rest : IsOuterCycle rest s t ws
  cycle_rest = record { long = cycle.long; first = cycle.first; last = cycle.last; distinct = cycle.distinct; darts = cycle_dart; turns = cycle_turn }

  pub outer_face : IsOuterFace rest step
  outer_face =
      let all = one_label rest s t ws simple' cycle_rest in
      record {
        darts = λ v z d. cycle_dart v (old v z d);
        turns = λ v d. cycle_turn v (old v (step v) d);
        one = λ u v d d'. same_face rest simple' (u, step u) (v, step v) (all u (old u (step u) d) ∙ sym (all v (old v (step v) d')));
        single = λ v d. two_steps_on lists s t ws simple cycle v (old v (step v) d);
      }
