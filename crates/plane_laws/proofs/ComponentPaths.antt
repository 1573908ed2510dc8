-- Paths that go on; and the classes of vertices that count components, which are those of "joined by a path".
use Rattle.std.proofs.Common.{◌≡◌, ℕ, zero, suc, ◌-◌, ◌<◌, List, All, Contains, [], ◌∷◌, ◌++◌, length, get_or, refl, sym, ap, ◌∙◌, subst, inl, inr, arith}
use Rattle.std.proofs.lemmas.Bool.{cases_eq}
use Rattle.std.proofs.lemmas.List.{get_or_append_left, get_or_push, length-append}
use Rattle.std.proofs.lemmas.List.Elements.{All-push, All-cons, Contains-append_cases}
use Rattle.classes.specs.Classes.{label}
use Rattle.classes.proofs.Classes.{Together, IsEquivalenceBelow, classes-lies, same_class-from, Together-from}
use Rattle.map_lists.specs.Lists.{Lists}
use Rattle.map_theory.specs.Maps.{component_classes, Dart, HasDart, IsSimpleMap, darts}
use Rattle.map_theory.specs.Paths.{IsPath, JoinsAvoiding}
use Rattle.map_theory.proofs.DartLemmas.{length-darts, HasDart-darts}
use Rattle.map_theory.proofs.EntryLemmas.{Contains-cons_cases}
use Rattle.map_theory.proofs.DartPermutations.{components, darts_below, edge_together}
use Rattle.plane_laws.specs.Laws.{AreJoined, ComponentsArePaths}

-- a vertex by itself is a path
pub JoinsAvoiding-itself : (lists : Lists) (avoided : List ℕ) (u : ℕ) → u < length lists → ¬ Contains avoided u → JoinsAvoiding lists avoided u u (u ∷ [])
JoinsAvoiding-itself lists avoided u l off = grind (arith, All-cons, length, Contains-cons_cases, Contains)

-- so a vertex is joined to itself
AreJoined-itself : (lists : Lists) (u : ℕ) → u < length lists → AreJoined lists u u
AreJoined-itself lists u l = (u ∷ [], JoinsAvoiding-itself lists [] u l (λ a. let some = a.1 in absurd (omega arith)))

-- a path goes on over a dart, to a vertex that is not avoided
pub JoinsAvoiding-more : (lists : Lists) (avoided : List ℕ) (u v w : ℕ) (path : List ℕ) → HasDart lists v w → w < length lists → ¬ Contains avoided w → JoinsAvoiding lists avoided u v path → JoinsAvoiding lists avoided u w (path ++ w ∷ [])
JoinsAvoiding-more lists avoided u v w path dart l off j =
    let some = j.is_path.some in
    let n = length-append path (w ∷ []) in
    let new = path ++ w ∷ [] in
    let old = λ (i : ℕ) (m : i < length path). get_or_append_left path (w ∷ []) 0 i m in
    let last : (i : ℕ) → length path ≡ i → get_or new i 0 ≡ w = λ i e. get_or_push path w 0 i e in
    record {
      is_path = record {
        some = omega arith;
        vertices = All-push (λ v. v < length lists) path w j.is_path.vertices l;
        steps = λ i m. elim (cases_eq (suc i) (length path)) [
          | inl e ↦
              let at : i ≡ length path - 1 = omega arith in
              rw (old i (omega arith), last (suc i) (sym e), at, j.end) dart
          | inr ne ↦ rw (old i (omega arith), old (suc i) (omega arith)) (j.is_path.steps i (omega arith))
        ];
      };
      start = old 0 some ∙ j.start;
      end = last (length new - 1) (omega arith);
      avoids = λ x c. elim (Contains-append_cases path (w ∷ []) x c) [
        | inl d ↦ j.avoids x d
        | inr d ↦ λ a. elim (Contains-cons_cases w [] x d) [ inl e ↦ off (subst (Contains avoided) (sym e) a) | inr none ↦ let some = none.1 in absurd (omega arith) ]
      ];
    }

-- who avoids some vertices avoids fewer
pub JoinsAvoiding-fewer : (lists : Lists) (avoided fewer : List ℕ) (s t : ℕ) (path : List ℕ) → ((x : ℕ) → Contains fewer x → Contains avoided x) → JoinsAvoiding lists avoided s t path → JoinsAvoiding lists fewer s t path
JoinsAvoiding-fewer lists avoided fewer s t path less j =
    record { is_path = j.is_path; start = j.start; end = j.end; avoids = λ x c a. j.avoids x c (less x a) }

-- a path that avoids nothing
AreJoined-more : (lists : Lists) (u v w : ℕ) → HasDart lists v w → w < length lists → AreJoined lists u v → AreJoined lists u w
AreJoined-more lists u v w dart l joined =
    (joined.0 ++ w ∷ [], JoinsAvoiding-more lists [] u v w joined.0 dart l (λ a. let some = a.1 in absurd (omega arith)) joined.1)

module _ (lists : Lists) (simple : IsSimpleMap lists) where
  -- along a path all vertices are in one component
  path_together : (path : List ℕ) → IsPath lists path → (i : ℕ) → i < length path → Together (components lists simple) (get_or path 0 0) (get_or path i 0)
  path_together path p zero l = refl
  path_together path p (suc i) l =
      path_together path p i (omega arith) ∙ edge_together lists simple (get_or path i 0) (get_or path (suc i) 0) (p.steps i l)

  from_joined : (u v : ℕ) → AreJoined lists u v → Together (components lists simple) u v
  from_joined u v joined =
      let C = label (components lists simple) in
      ap C (sym joined.1.start) ∙ (path_together joined.0 joined.1.is_path (length joined.0 - 1) (omega arith) ∙ ap C joined.1.end)

  -- who is joined to u is in each component whole or not at all
  to_joined : (u v : ℕ) → u < length lists → v < length lists → Together (components lists simple) u v → AreJoined lists u v
  to_joined u v l m t =
      let Alike : ℕ → ℕ → Type 0 = λ x y. (AreJoined lists u x → AreJoined lists u y) × (AreJoined lists u y → AreJoined lists u x) in
      let alike : IsEquivalenceBelow (length lists) Alike = record {
        itself = λ i l. ((λ j. j), λ j. j);
        turned = λ i j l m e. (e.1, e.0);
        chained = λ i j k l m n e f. ((λ x. f.0 (e.0 x)), λ x. e.1 (f.1 x));
      } in
      let darts_alike : All (λ d. Alike d.0 d.1) (darts lists) = λ i d n.
      let c : Dart = get_or (darts lists) i d in
      let has = HasDart-darts lists i d (omega (arith, length-darts lists)) in
      let back = simple.both_ways c.0 c.1 has in
      (AreJoined-more lists u c.0 c.1 has back.0, AreJoined-more lists u c.1 c.0 back has.0) in
      (classes-lies Alike (length lists) alike (darts lists) (darts_below lists simple) darts_alike u v l m t).0 (AreJoined-itself lists u l)

-- THE LAW: components are classes of "joined by a path"
pub components_are_paths : ComponentsArePaths
components_are_paths lists u v simple l m = (
  λ same. to_joined lists simple u v l m (Together-from (component_classes lists) u v same),
  λ joined. same_class-from (component_classes lists) u v (from_joined lists simple u v joined),
)
