-- The labels of darts as numbers, one after another.
use Rattle.std.proofs.Common.{ℕ, ◌+◌, ◌<◌, ◌≡◌, List, [], ◌∷◌, ◌++◌, length, get_or, Some, sym, ap, ◌∙◌, arith, below_more}
use Rattle.std.proofs.lemmas.List.{length-append, get_or_append_left}
use Rattle.std.proofs.Math.Seq.{get_or-append_seam}
use Rattle.map_theory.specs.Maps.{Dart, list_of, darts_before, dart_count}
use Rattle.map_theory.proofs.DartLemmas.{dart_at_place}
use Rattle.half_edges.specs.Map.{Map, dart_at}
use Rattle.drawings.specs.Duals.{top_vertex, right_vertex, bottom_vertex}
use Rattle.rect_dual.specs.Labellings.{IsLabellingIn, label_in}
use Rattle.rect_dual.specs.declared.labels.label_types.Label.{Label}
use Rattle.pigale_c.specs.Labelled.{AreLabelsTo, IsDartLabel, IsLabelledThere, dart_in, label_number}

-- the label of a dart more
pub more_labels : (map : Map) (labels : List Label) (k : ℕ) (row : List ℕ) (number : ℕ) → AreLabelsTo map labels k row → IsDartLabel map labels (dart_in map.lists k) number → AreLabelsTo map labels (k + 1) (row ++ number ∷ [])
more_labels map labels k row number h here = record {
  count = omega (arith, length-append row (number ∷ []), h.count);
  each = below_more Has k old new;
}
  where
    Has : ℕ → Type 0
    Has i = IsDartLabel map labels (dart_in map.lists i) (get_or (row ++ number ∷ []) i 0)

    old : (i : ℕ) → i < k → Has i
    old i m = let r = h.each i m in (r.0, r.1, get_or_append_left row (number ∷ []) 0 i (omega (arith, m, h.count)) ∙ r.2)

    new : Has k
    new = (here.0, here.1, ap (λ (j : ℕ). get_or (row ++ number ∷ []) j 0) (sym h.count) ∙ get_or-append_seam row number [] 0 ∙ here.2)

-- the label of the dart to entry k of the list of v, which has this id
pub is_dart_label : (map : Map) (labels : List Label) (v k id number : ℕ) → v < length map.lists → k < length (list_of map.lists v) → dart_at map id ≡ Some (v, get_or (list_of map.lists v) k 0) → number ≡ label_number (label_in labels id) → IsDartLabel map labels (dart_in map.lists (darts_before map.lists v + k)) number
is_dart_label map labels v k id number l m here is =
    (id, here ∙ ap (λ (d : Dart). Some d) (sym (dart_at_place map.lists v k (0, 0) 0 l m)), is)

-- the labels of all darts are an edge labelling
pub all_labels : (map : Map) (labels : List Label) (row : List ℕ) → IsLabellingIn map 0 (top_vertex map.lists) (right_vertex map.lists) (bottom_vertex map.lists) labels → AreLabelsTo map labels (dart_count map.lists) row → IsLabelledThere map.lists row
all_labels map labels row labelling h = record {
  end = labelling.end;
  labelling = labelling.labelling;
  count = h.count;
  each = λ i l. let r = h.each i l in (label_in labels r.0, labelling.labels_are r.0 (dart_in map.lists i).0 (dart_in map.lists i).1 r.1, r.2);
}
