-- Paths that avoid some vertices, and what is joined without these.
use Rattle.std.proofs.Common.{◌≡◌, ◌≢◌, ℕ, suc, ◌-◌, ◌<◌, ◌≤◌, List, [], length, get_or, Contains, sym, ap, ◌∙◌, subst, inl, inr, arith}
use Rattle.std.proofs.lemmas.Bool.{cases_eq, cases_lt}
use Rattle.std.proofs.lemmas.List.{get_or_default}
use Rattle.std.proofs.lemmas.List.Elements.{Contains-get_or}
use Rattle.classes.specs.Classes.{same_class}
use Rattle.classes.proofs.Classes.{same_class-from}
use Rattle.map_lists.specs.Lists.{Lists}
use Rattle.map_theory.specs.Maps.{HasDart, IsSimpleMap, component_classes, component_count, SameComponent}
use Rattle.map_theory.specs.Paths.{JoinsAvoiding}
use Rattle.map_theory.proofs.DartPermutations.{edge_together}
use Rattle.plane_laws.proofs.ComponentPaths.{components_are_paths, JoinsAvoiding-fewer}
use Rattle.plane_peeling.proofs.Counted.{marks_everywhere}
use Rattle.embed_contraction.specs.Linked.{without_vertices, HasEdge, IsLinkedWithout}
use Rattle.embed_contraction.proofs.Parts.{part-chained, part-itself, rest-simple, rest-length, rest-dart, rest-old}

none_in_none : (x : ℕ) → ¬ Contains [] x
none_in_none x c = let some = c.1 in omega arith

module _ (lists : Lists) (simple : IsSimpleMap lists) where
  -- a path has its ends among the vertices
  pub path_ends : (vs : List ℕ) (s t : ℕ) (path : List ℕ) → JoinsAvoiding lists vs s t path → (s < length lists) × (t < length lists)
  path_ends vs s t path j =
      let first = j.is_path.vertices 0 0 j.is_path.some in
      (subst (λ x. x < length lists) j.start first, subst (λ x. x < length lists) j.end (j.is_path.vertices (length path - 1) 0 (omega arith)))

  -- a path that avoids some vertices stays in one part without them
  pub part-from_path : (vs : List ℕ) (s t : ℕ) (path : List ℕ) → JoinsAvoiding lists vs s t path → SameComponent (without_vertices vs lists) s t
  part-from_path vs s t path j =
      let n = rest-length lists simple vs in
      let off : (i : ℕ) → i < length path → ¬ Contains vs (get_or path i 0) = λ i l. j.avoids (get_or path i 0) (Contains-get_or path i 0 l) in
      (components_are_paths (without_vertices vs lists) s t (rest-simple lists simple vs) (omega arith) (omega arith)).1 (
        path,
        record {
          is_path = record {
            some = j.is_path.some;
            vertices = λ i d l. let m = j.is_path.vertices i d l in omega arith;
            steps = λ i l. rest-dart lists simple vs (get_or path i 0) (get_or path (suc i) 0) (j.is_path.steps i l) (off i (omega arith)) (off (suc i) l);
          };
          start = j.start;
          end = j.end;
          avoids = λ x c. none_in_none x;
        },
      )

  -- what is in one part without them is joined by such a path
  pub path-from_part : (vs : List ℕ) (s t : ℕ) → s < length lists → t < length lists → ¬ Contains vs s → SameComponent (without_vertices vs lists) s t → (path : List ℕ) × JoinsAvoiding lists vs s t path
  path-from_part vs s t ls lt off same =
      let n = rest-length lists simple vs in
      let r = (components_are_paths (without_vertices vs lists) s t (rest-simple lists simple vs) (omega arith) (omega arith)).0 same in
      let path = r.0 in
      let old : (i : ℕ) → suc i < length path → HasDart lists (get_or path i 0) (get_or path (suc i) 0) × (¬ Contains vs (get_or path i 0)) × (¬ Contains vs (get_or path (suc i) 0)) =
      λ i l. rest-old lists simple vs (get_or path i 0) (get_or path (suc i) 0) (r.1.is_path.steps i l) in
      let at : (i : ℕ) → i < length path → ¬ Contains vs (get_or path i 0) = λ i l.
      elim (cases_eq i 0) [
        | inl e ↦ λ c. off (subst (Contains vs) (ap (λ k. get_or path k 0) e ∙ r.1.start) c)
        | inr ne ↦
            let k = i - 1 in
            let sk : suc k ≡ i = omega arith in
            subst (λ z. ¬ Contains vs (get_or path z 0)) sk (old k (omega arith)).2
      ] in (
        path,
        record {
          is_path = record {
            some = r.1.is_path.some;
            vertices = λ i d l. let m = r.1.is_path.vertices i d l in omega arith;
            steps = λ i l. (old i l).0;
          };
          start = r.1.start;
          end = r.1.end;
          avoids = λ x c. subst (λ z. ¬ Contains vs z) (get_or_default path c.0 0 x c.1 ∙ c.2) (at c.0 c.1);
        },
      )

  -- other vertices avoided, but no more
  pub linked-fewer : (vs ws : List ℕ) → ((x : ℕ) → Contains ws x → Contains vs x) → ((x : ℕ) → Contains vs x → Contains ws x) → IsLinkedWithout lists vs → IsLinkedWithout lists ws
  linked-fewer vs ws less more linked s t hs ht os ot =
      let p = path-from_part vs s t hs.1.0 ht.1.0 (λ c. os (more s c)) (linked s t hs ht (λ c. os (more s c)) (λ c. ot (more t c))) in
      part-from_path ws s t p.0 (JoinsAvoiding-fewer lists vs ws s t p.0 less p.1)

  -- in a connected map all vertices are together
  pub all_together : component_count lists ≡ 1 → (s t : ℕ) → s < length lists → t < length lists → SameComponent lists s t
  all_together one s t ls lt =
      marks_everywhere lists simple one (λ z. same_class (component_classes lists) s z) (λ x u d h. part-chained lists s x u h (same_class-from (component_classes lists) x u (edge_together lists simple x u d))) s t ls lt (part-itself lists s)

  pub linked_without_none : component_count lists ≡ 1 → IsLinkedWithout lists []
  linked_without_none one s t hs ht os ot =
      let p = (components_are_paths lists s t simple hs.1.0 ht.1.0).0 (all_together one s t hs.1.0 ht.1.0) in
      part-from_path [] s t p.0 p.1

  -- and each has an edge, if it is not alone
  pub HasEdge-connected : component_count lists ≡ 1 → 2 ≤ length lists → (z : ℕ) → z < length lists → HasEdge lists z
  HasEdge-connected one two z l =
      let other : (o : ℕ) → o < length lists → z ≢ o → HasEdge lists z = λ o m ne.
      let p = (components_are_paths lists z o simple l m).0 (all_together one z o l m) in
      grind (arith, cases_lt, length, get_or, HasDart) in
      elim (cases_eq z 0) [ inl e ↦ other 1 (omega arith) (λ q. omega arith) | inr ne ↦ other 0 (omega arith) ne ]
