-- A path without repeats from one that may have them: a vertex that comes again cuts off what lies between.
use Rattle.std.proofs.Common.{◌≡◌, ◌≢◌, ◌⊎◌, ℕ, zero, suc, ◌+◌, ◌-◌, ◌<◌, true, List, [], ◌∷◌, ◌++◌, length, get_or, AllPairs, Contains, sym, ap, ◌∙◌, subst, inl, inr, arith}
use Rattle.std.proofs.lemmas.Bool.{cases_eq}
use Rattle.std.proofs.lemmas.List.Elements.{Contains-append_right}
use Rattle.map_lists.specs.Lists.{Lists}
use Rattle.map_theory.specs.Maps.{HasDart, IsSimpleMap, SameComponent}
use Rattle.map_theory.proofs.EntryLemmas.{Contains-there, Contains-cons_cases, AllPairs-tail, AllPairs-right, head_apart}
use Rattle.graphs.specs.Graphs.{EdgeGraph, has_edge}
use Rattle.plane_laws.proofs.ComponentPaths.{components_are_paths}
use Rattle.plane_peeling.proofs.Rings.{separated_at, AllPairs-put}
use Rattle.plane_peeling.proofs.RestrictedMaps.{cases_Contains}
use Rattle.embed_contraction.specs.Routed.{LeadsAlong}

-- a path from u to v over vertices that are neither, without repeats
pub record IsRoute (graph : EdgeGraph) (u v : ℕ) (mid : List ℕ) : Type 0 where
  pub way : LeadsAlong graph u mid v
  pub distinct : AllPairs ◌≢◌ mid
  pub not_first : ¬ Contains mid u
  pub not_last : ¬ Contains mid v

-- the end of a way, from one of its vertices on
later : (graph : EdgeGraph) (u : ℕ) (front : List ℕ) (w : ℕ) (back : List ℕ) (v : ℕ) → LeadsAlong graph u (front ++ w ∷ back) v → LeadsAlong graph w back v
later graph u [] w back v h = h.1
later graph u (z ∷ front) w back v h = later graph z front w back v h.1

-- u to v without repeats, and over neither
route-more : (graph : EdgeGraph) (s u v : ℕ) (mid : List ℕ) → IsRoute graph u v mid → has_edge graph s u ≡ true → s ≢ v → u ≢ v → (new : List ℕ) × IsRoute graph s v new
route-more graph s u v mid r e s_v u_v =
    elim (cases_eq s u) [
      | inl q ↦ (mid, subst (λ z. IsRoute graph z v mid) (sym q) r)
      | inr s_u ↦ elim (cases_Contains mid s) [
        | inr none ↦ (
          u ∷ mid,
          record {
            way = (e, r.way);
            distinct = AllPairs-put u mid r.not_first r.distinct;
            not_first = λ c. elim (Contains-cons_cases u mid s c) [ inl q ↦ s_u (sym q) | inr h ↦ none h ];
            not_last = λ c. elim (Contains-cons_cases u mid v c) [ inl q ↦ u_v q | inr h ↦ r.not_last h ];
          },
        )
        | inl c ↦
            let p = separated_at mid s c in
            let tail = AllPairs-right p.0 (s ∷ p.1) (subst (AllPairs ◌≢◌) p.2 r.distinct) in (
              p.1,
              record {
                way = later graph u p.0 s p.1 v (subst (λ l. LeadsAlong graph u l v) p.2 r.way);
                distinct = AllPairs-tail s p.1 tail;
                not_first = head_apart s p.1 tail;
                not_last = λ h. r.not_last (subst (λ l. Contains l v) (sym p.2) (Contains-append_right p.0 (s ∷ p.1) v (Contains-there s p.1 v h)));
              },
            )
      ]
    ]

-- from a vertex of a path to its end
from_place : (graph : EdgeGraph) (lists : Lists) (path : List ℕ) (v : ℕ) → ((a b : ℕ) → HasDart lists a b → has_edge graph a b ≡ true) → ((i : ℕ) → suc i < length path → HasDart lists (get_or path i 0) (get_or path (suc i) 0)) → get_or path (length path - 1) 0 ≡ v → (spare i : ℕ) → suc (i + spare) ≡ length path → (get_or path i 0 ≡ v) ⊎ ((mid : List ℕ) × IsRoute graph (get_or path i 0) v mid)
from_place graph lists path v edges steps last zero i n = inl (ap (λ k. get_or path k 0) (omega arith) ∙ last)
from_place graph lists path v edges steps last (suc spare) i n =
    let a = get_or path i 0 in
    let e = edges a (get_or path (suc i) 0) (steps i (omega arith)) in
    elim (cases_eq a v) [
      | inl q ↦ inl q
      | inr a_v ↦ elim (from_place graph lists path v edges steps last spare (suc i) (omega arith)) [
        | inl q ↦ inr ([], record { way = subst (λ z. has_edge graph a z ≡ true) q e; distinct = λ j k d l m. absurd (omega (arith, l, m)); not_first = λ c. absurd (omega (arith, c.1)); not_last = λ c. absurd (omega (arith, c.1)) })
        | inr r ↦ grind (arith, cases_eq, has_edge, route-more)
      ]
    ]

-- Two vertices in one component of a map whose edges are edges of the graph have one.
pub some_route : (graph : EdgeGraph) (lists : Lists) (u v : ℕ) → IsSimpleMap lists → ((a b : ℕ) → HasDart lists a b → has_edge graph a b ≡ true) → u ≢ v → u < length lists → v < length lists → SameComponent lists u v → (mid : List ℕ) × IsRoute graph u v mid
some_route graph lists u v simple edges u_v in_u in_v same =
    let joined = (components_are_paths lists u v simple in_u in_v).0 same in
    elim (from_place graph lists joined.0 v edges joined.1.is_path.steps joined.1.end (length joined.0 - 1) 0 (omega arith)) [
      | inl q ↦ absurd (u_v (sym joined.1.start ∙ q))
      | inr r ↦ (r.0, subst (λ z. IsRoute graph z v r.0) joined.1.start r.1)
    ]
