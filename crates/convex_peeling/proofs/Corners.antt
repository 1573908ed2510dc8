-- In a plane map without cut vertices each face passes a vertex once at most.
use Rattle.std.proofs.Common.{◌≡◌, ◌⊎◌, ℕ, List, [], sym, ◌∙◌, inl, inr}
use Rattle.std.proofs.lemmas.Bool.{cases_eq, cases_Bool}
use Rattle.classes.specs.Classes.{same_class}
use Rattle.map_lists.specs.Lists.{Lists}
use Rattle.map_theory.specs.Maps.{Dart, HasDart, IsSimpleMap, IsPlane, list_of, follows, face_classes, dart_number}
use Rattle.map_theory.specs.Paths.{SameFace, JoinsAvoiding}
use Rattle.map_theory.proofs.DartLemmas.{HasDart-follows}
use Rattle.map_theory.proofs.ArcLemmas.{arc-first}
use Rattle.plane_laws.proofs.CornerSplit.{corner_split}
use Rattle.plane_laws.proofs.DartPaths.{face_together, same_face, face_step_together}
use Rattle.graph_search.proofs.ForestLemmas.{IsAdjacency-simple}
use Rattle.graph_search.specs.Cuts.{IsCutVertex}
use Rattle.graph_search.proofs.WalkLemmas.{Off, linked_dart, linked_chained, path_linked_by}
use Rattle.graph_search.proofs.CutLemmas.{off_one, off_none}

-- ---- faces
module _ (lists : Lists) (simple : IsSimpleMap lists) where
  pub SameFace-turned : (d e : Dart) → SameFace lists d e → SameFace lists e d
  SameFace-turned d e h = same_face lists simple e d (sym (face_together lists simple d e h))

  pub SameFace-chained : (d e f : Dart) → SameFace lists d e → SameFace lists e f → SameFace lists d f
  SameFace-chained d e f h k = same_face lists simple d f (face_together lists simple d e h ∙ face_together lists simple e f k)

  -- the face of a dart goes on with what follows its tail round its head
  pub SameFace-step : (x y : ℕ) → HasDart lists x y → SameFace lists (x, y) (y, follows lists y x)
  SameFace-step x y has = same_face lists simple (x, y) (y, follows lists y x) (face_step_together lists simple (x, y) has)

  -- two neighbours of a vertex are joined
  pub neighbours_joined : (x y z : ℕ) → HasDart lists x y → HasDart lists x z → (path : List ℕ) × JoinsAvoiding lists [] y z path
  neighbours_joined x y z has_y has_z =
      let adjacency = IsAdjacency-simple lists simple in
      let back = simple.both_ways x y has_y in
      path_linked_by lists adjacency [] y z
      (linked_chained lists (Off []) y x z (linked_dart lists adjacency (Off []) y x back (off_none y) (off_none x)) (linked_dart lists adjacency (Off []) x z has_z (off_none x) (off_none z)))

-- whether two darts are in one face
pub cases_SameFace : (lists : Lists) (d e : Dart) → SameFace lists d e ⊎ (¬ SameFace lists d e)
cases_SameFace lists d e =
    elim (cases_Bool (same_class (face_classes lists) (dart_number lists d) (dart_number lists e))) [
      | inl same ↦ inl same
      | inr differ ↦ inr (λ same. absurd (cc))
    ]

-- ---- passed once
module _ (lists : Lists) (simple : IsSimpleMap lists) (plane : IsPlane lists) (uncut : (v : ℕ) → ¬ IsCutVertex lists v) where
  -- a face has one dart at most from each vertex
  pub passed_once : (x y z : ℕ) → HasDart lists x y → HasDart lists x z → SameFace lists (x, y) (x, z) → y ≡ z
  passed_once x y z has_y has_z same =
      elim (cases_eq y z) [
        | inl e ↦ e
        | inr ne ↦
            let us = list_of lists x in
            let distinct = simple.no_repeat x has_y.0 in
            let joined = neighbours_joined lists simple x y z has_y has_z in
            absurd (
            uncut x (
              y,
              z,
              record {
                s_off = off_one x y (simple.no_loop x y has_y);
                t_off = off_one x z (simple.no_loop x z has_z);
                path = joined.0;
                joined = joined.1;
                apart = corner_split lists x y z simple plane has_y has_z ne same y z (arc-first us y distinct has_y.1 z ne has_z.1) (arc-first us z distinct has_z.1 y (λ e. ne (sym e)) has_y.1);
              },
            )
            )
      ]

  -- the face of (u, a) comes to u along (v, u) just where a follows v
  pub comes_along : (u v a : ℕ) → HasDart lists u a → HasDart lists v u → SameFace lists (u, a) (v, u) → a ≡ follows lists u v
  comes_along u v a has back same =
      passed_once u a (follows lists u v) has (HasDart-follows lists u v (simple.both_ways v u back))
      (SameFace-chained lists simple (u, a) (v, u) (u, follows lists u v) same (SameFace-step lists simple v u back))
