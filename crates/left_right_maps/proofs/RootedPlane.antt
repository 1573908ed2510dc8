-- A map with a rooted spanning tree is connected, its tree has two darts for each vertex but the root, and so it has genus zero where its word is balanced.
use Rattle.std.proofs.Common.{◌≡◌, ◌≢◌, ℕ, zero, suc, ◌+◌, ◌*◌, ◌<◌, ◌≤◌, Bool, true, false, cond, not, eqb, List, [], ◌∷◌, length, refl, sym, ap, ap₂, ◌∙◌, subst, inl, inr, arith, eqb-true, eq-eqb, ne_eqb}
use Rattle.std.specs.Prelude.{◌&&◌}
use Rattle.std.proofs.Math.Bool.{or_comm}
use Rattle.std.proofs.lemmas.Bool.{cases_Bool, cases_eq, cond-true, cond-false, true≢false, and_from, or_cases}
use Rattle.classes.specs.Classes.{count_below}
use Rattle.classes.proofs.Counting.{count_below_into, count_below_all, count_below_but_two, one_if}
use Rattle.map_lists.specs.Lists.{Lists}
use Rattle.map_theory.specs.Maps.{Dart, HasDart, IsPlane, dart_count, component_count, SameComponent}
use Rattle.plane_laws.specs.Laws.{AreJoined}
use Rattle.plane_laws.proofs.ComponentPaths.{JoinsAvoiding-itself, JoinsAvoiding-more, components_are_paths}
use Rattle.plane_laws.proofs.Completions.{one_component}
use Rattle.left_right_laws.specs.Tours.{AreNested, IsTour}
use Rattle.left_right_laws.proofs.Tours.{plane}
use Rattle.left_right_maps.specs.RootedMaps.{is_child, in_tree, IsRootedMap, place_in, dart_at}
use Rattle.left_right_maps.specs.Brackets.{IsBalanced, BalancedIsPlane}
use Rattle.left_right_maps.proofs.Inserts.{none_in_none}
use Rattle.left_right_maps.proofs.Toured.{child_so, below_root, parent_dart, parent_in}
use Rattle.left_right_maps.proofs.Tour.{tour, all_darts, distinct_word}
use Rattle.left_right_maps.proofs.Uncrossed.{none_cross}

module _ (lists : Lists) (parent depth : ℕ → ℕ) (root : ℕ) (entries : ℕ → List ℕ) (words : ℕ → List Dart) (m : IsRootedMap lists parent depth root entries words) (some : 0 < dart_count lists) where
  abbrev child : ℕ → ℕ → Bool
  child = is_child parent depth

  abbrev along : ℕ → ℕ → Bool
  along = in_tree parent depth

  abbrev V : ℕ
  V = length lists

  -- ---- one component
  from_root : (k v : ℕ) → depth v ≤ k → v < V → AreJoined lists root v
  from_root zero v deep l =
      elim (cases_eq v root) [
        | inl e ↦ subst (AreJoined lists root) (sym e) (root ∷ [], JoinsAvoiding-itself lists [] root m.root_in (none_in_none root))
        | inr ne ↦ (let a = m.others v l ne in absurd (omega arith))
      ]
  from_root (suc k) v deep l =
      elim (cases_eq v root) [
        | inl e ↦ subst (AreJoined lists root) (sym e) (root ∷ [], JoinsAvoiding-itself lists [] root m.root_in (none_in_none root))
        | inr ne ↦
            let one = m.deeper v l (m.others v l ne) in
            let up = from_root k (parent v) (omega arith) (parent_in lists parent depth root entries words m v l ne) in
            (_, JoinsAvoiding-more lists [] root (parent v) v up.0 (m.simple.both_ways v (parent v) (parent_dart lists parent depth root entries words m v l ne)) l (none_in_none v) up.1)
      ]

  with_root : (v : ℕ) → v < V → SameComponent lists root v
  with_root v l = (components_are_paths lists root v m.simple m.root_in l).1 (from_root (depth v) v (omega arith) l)

  connected : component_count lists ≡ 1
  connected =
      one_component lists m.simple (λ v l.
      eq-eqb _ _ (sym (eqb-true _ _ (with_root 0 m.simple.some_vertex)) ∙ eqb-true _ _ (with_root v l)))

  -- ---- the darts of the tree
  abbrev at : ℕ → Dart
  at = dart_at (words root)

  abbrev place : Dart → ℕ
  place = place_in (words root)

  abbrev T : IsTour lists along at place
  T = tour lists parent depth root entries words m some

  number : Dart → ℕ
  number d = cond (child d.0 d.1) d.1 (V + d.0)

  abbrev test : ℕ → Bool
  test i = not (eqb i root) && not (eqb i (V + root))

  passes : (i : ℕ) → i ≢ root → i ≢ V + root → test i ≡ true
  passes i one two = and_from (not (eqb i root)) (not (eqb i (V + root))) (ap not (ne_eqb i root one)) (ap not (ne_eqb i (V + root) two))

  abbrev so : (v u : ℕ) → child v u ≡ true → (0 < depth u) × (parent u ≡ v)
  so = child_so lists parent depth root entries words m

  abbrev off_root : (v : ℕ) → 0 < depth v → v ≢ root
  off_root = below_root lists parent depth root entries words m

  number_down : (d : Dart) → child d.0 d.1 ≡ true → number d ≡ d.1
  unfolding number
  number_down d t = cond-true {A = ℕ} (child d.0 d.1) d.1 (V + d.0) t

  number_up : (d : Dart) → child d.0 d.1 ≡ false → number d ≡ V + d.0
  unfolding number
  number_up d f = cond-false {A = ℕ} (child d.0 d.1) d.1 (V + d.0) f

  -- a dart of the tree that does not lead down leads up
  up_of : (d : Dart) → along d.0 d.1 ≡ true → child d.0 d.1 ≡ false → child d.1 d.0 ≡ true
  up_of d t f = elim (or_cases (child d.0 d.1) (child d.1 d.0) t) [ inl t' ↦ absurd (true≢false (sym t' ∙ f)) | inr t' ↦ t' ]

  counted : (p : ℕ) → p < dart_count lists → along (at p).0 (at p).1 ≡ true → (number (at p) < V + V) × (test (number (at p)) ≡ true)
  counted p l t =
      grind (arith, T.darts p l, cases_Bool, child, number_down, test, passes, off_root, so, number_up, up_of)

  tree_dart : (d e : Dart) → HasDart lists d.0 d.1 → HasDart lists e.0 e.1 → along d.0 d.1 ≡ true → along e.0 e.1 ≡ true → number d ≡ number e → d ≡ e
  tree_dart d e has has' t t' same =
      grind (arith, m.simple.in_range e.0 e.1 has', m.simple.in_range d.0 d.1 has, cases_Bool, child, number_down, ap₂, so, number_up, up_of)

  tree_count : count_below (λ p. along (at p).0 (at p).1) (dart_count lists) + 2 ≤ 2 * V
  tree_count =
      let few = count_below_into (λ p. number (at p)) (λ p. along (at p).0 (at p).1) test (dart_count lists) (V + V) counted (λ p q l l' t t' e.
      sym (T.back p l) ∙ (ap place (tree_dart (at p) (at q) (T.darts p l) (T.darts q l') t t' e) ∙ T.back q l')) in
      let removed = count_below_but_two test (λ i. true) (V + V) root (V + root) (omega arith) (omega arith) (λ e. omega arith) (λ i l one two. passes i one two) in
      let none' : test (V + root) ≡ false = ap₂ (λ b c. not b && not c) (ne_eqb (V + root) root (λ e. omega arith)) (eq-eqb (V + root) (V + root) refl) in
      let b : one_if (test (V + root)) ≡ 0 = ap one_if none' in
      omega (arith, ap one_if (ap (λ b. not b && not (eqb root (V + root))) (eq-eqb root root refl)), count_below_all (V + V))

  nested : IsBalanced along (words root) → AreNested lists along place
  nested balanced d e cd ce one two =
      none_cross along (words root) balanced (distinct_word lists parent depth root entries words m) d e (all_darts lists parent depth root entries words m d.0 d.1 cd.0) (all_darts lists parent depth root entries words m e.0 e.1 ce.0) cd.1 ce.1 (or_comm (child d.1 d.0) (child d.0 d.1) ∙ cd.1) (or_comm (child e.1 e.0) (child e.0 e.1) ∙ ce.1) one two

  pub plane_if_balanced : IsBalanced along (words root) → IsPlane lists
  plane_if_balanced balanced =
      plane lists along at place m.simple (λ v u. or_comm (child v u) (child u v)) T (nested balanced) some connected tree_count

-- THE LAW: genus zero by brackets
pub balanced_is_plane : BalancedIsPlane
balanced_is_plane lists parent depth root entries words m some balanced = plane_if_balanced lists parent depth root entries words m some balanced
