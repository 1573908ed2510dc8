-- Labels of darts by their ids.
use Rattle.std.proofs.Common.{◌≡◌, ℕ, ◌+◌, List, [], ◌∷◌, ◌++◌, length, get_or, Option, Some, refl, sym, ap, ◌∙◌, subst, inl, inr, arith}
use Rattle.std.proofs.lemmas.Bool.{cases_lt}
use Rattle.std.proofs.lemmas.List.{get_or_append_left}
use Rattle.std.proofs.Math.Seq.{get_or-append_seam}
use Rattle.std.specs.Option.{option_map}
use Rattle.map_theory.specs.Maps.{Dart}
use Rattle.half_edges.specs.Map.{Map, IsHalfMap, dart_at, id_bound}
use Rattle.euler_faces.proofs.NumberLemmas.{live_from, live-lt}
use Rattle.rect_runs.specs.Corners.{End}
use Rattle.rect_orders.specs.Labellings.{IsFrameEdge, IsEdgeLabelling}
use Rattle.rect_dual.specs.declared.labels.label_types.Label.{Label}
use Rattle.rect_dual.specs.declared.labels.label_types.Label.TheVariants.{Frame}
use Rattle.rect_dual.specs.Labellings.{label_of, IsLabelOf, AreLabelsOf, IsLabellingIn}

-- the head of a dart
pub head_is : (o : Option Dart) (u v x : ℕ) → o ≡ Some (u, v) → option_map (λ (d : Dart). d.1) o ≡ Some x → x ≡ v
head_is o u v x e h = let t : Some v ≡ Some x = sym (ap (option_map (λ (d : Dart). d.1)) e) ∙ h in cc

-- and its tail
pub tail_is : (o : Option Dart) (u v x : ℕ) → o ≡ Some (u, v) → option_map (λ (d : Dart). d.0) o ≡ Some x → x ≡ u
tail_is o u v x e h = let t : Some u ≡ Some x = sym (ap (option_map (λ (d : Dart). d.0)) e) ∙ h in cc

module _ (map : Map) (s d p t : ℕ) (end : ℕ → ℕ → End) where
  -- the label of a dart of the outer face, and of any other one
  pub IsLabelOf-frame : (u v : ℕ) → IsFrameEdge s d p t u v → IsLabelOf s d p t end u v Frame
  IsLabelOf-frame u v f = record { frame = λ g. refl; inner = λ off. absurd (off f) }

  pub IsLabelOf-inner : (u v : ℕ) (label : Label) → ¬ IsFrameEdge s d p t u v → label ≡ label_of (end u v) → IsLabelOf s d p t end u v label
  IsLabelOf-inner u v label off e = record { frame = λ f. absurd (off f); inner = λ g. e }

  -- a label more
  pub AreLabelsOf-more : (k : ℕ) (labels labels' : List Label) (x : Label) → length labels ≡ k → AreLabelsOf map s d p t end k labels → labels' ≡ labels ++ x ∷ [] → ((u v : ℕ) → dart_at map k ≡ Some (u, v) → IsLabelOf s d p t end u v x) → AreLabelsOf map s d p t end (k + 1) labels'
  AreLabelsOf-more k labels labels' x n h e new id u v l at = elim (cases_lt id k) [
    | inl o ↦ subst (IsLabelOf s d p t end u v) (sym (ap (λ us. get_or us id Frame) e ∙ get_or_append_left labels (x ∷ []) Frame id (omega (arith, o, n)))) (h id u v o at)
    | inr o ↦
        let q : k ≡ id = omega (arith, o, l) in
        let z : id ≡ length labels = omega (arith, q, n) in
        let here : get_or labels' id Frame ≡ x = ap (λ us. get_or us id Frame) e ∙ (ap (λ i. get_or (labels ++ x ∷ []) i Frame) z ∙ get_or-append_seam labels x [] Frame) in
        subst (IsLabelOf s d p t end u v) (sym here) (new u v (ap (dart_at map) q ∙ at))
  ]

  -- the labels of all ids
  pub IsLabellingIn-of : (known : IsHalfMap map) (labels : List Label) → IsEdgeLabelling map.lists s d p t end → AreLabelsOf map s d p t end (id_bound map) labels → IsLabellingIn map s d p t labels
  IsLabellingIn-of known labels h are = record {
    end = end;
    labelling = h;
    labels_are = λ id u v e. are id u v (live-lt map known id (live_from (dart_at map id) (u, v) e)) e;
  }
