-- The rim by the rows of numbers.
use Rattle.std.proofs.Common.{◌≡◌, ℕ, ◌<◌, Bool, List, length, slice_index, sym, ap, ◌∙◌, arith}
use Rattle.map_lists.specs.Lists.{Lists}
use Rattle.map_theory.specs.Maps.{list_of, IsSimpleMap}
use Rattle.convex_peeling.specs.Contours.{IsRim}
use Rattle.convex_orders.specs.FaceNumbers.{entry, AreFaceNumbers}
use Rattle.convex_orders.proofs.ContourCountsRows.{entry_at}
use Rattle.convex_orders.specs.Shown.{is_set, AreMarks, IsRimIn}
use Rattle.convex_orders.specs.Splits.{IsRimAt, AreRowsBelow}

module _ (lists own other : Lists) (count : ℕ) (simple : IsSimpleMap lists) (n : AreFaceNumbers lists own other count) where
  module _ (marks : List Bool) (alive : ℕ → Bool) (are : AreMarks lists own marks alive) where
    pub rim_from : (x y : ℕ) → IsRimIn lists own other marks x y → IsRim lists alive x y
    rim_from x y h =
        record { dart = h.dart; outside = sym (are x y h.dart) ∙ h.outside; inside = sym (are y x (simple.both_ways x y h.dart)) ∙ (ap (is_set marks) (sym (n.back x y h.dart)) ∙ h.inside) }

    pub rim_to : (x y : ℕ) → IsRim lists alive x y → IsRimIn lists own other marks x y
    rim_to x y h =
        record { dart = h.dart; outside = are x y h.dart ∙ h.outside; inside = ap (is_set marks) (n.back x y h.dart) ∙ (are y x (simple.both_ways x y h.dart) ∙ h.inside) }

  pub place_rim : (marks : List Bool) (x k : ℕ) → x < length lists → IsRimAt (list_of own x) (list_of other x) marks k → IsRimIn lists own other marks x (slice_index (list_of lists x) k)
  place_rim marks x k l h =
      let a = entry_at lists own count simple n.own_table x k l h.within in
      let m : k < length (list_of other x) = omega (arith, h.within, n.own_table.sizes x l, n.other_table.sizes x l) in
      let b = entry_at lists other count simple n.other_table x k l m in
      record { dart = a.dart; outside = ap (is_set marks) (sym a.is) ∙ h.outside; inside = ap (is_set marks) (sym b.is) ∙ h.inside }

  -- the rows of a vertex
  pub rows_of : (x m : ℕ) → x < length lists → m ≡ count → AreRowsBelow (list_of own x) (list_of other x) m
  rows_of x m l e = grind arith

  -- the numbers at a place of the rows are those on both sides of its dart
  pub place_numbers : (x k : ℕ) → x < length lists → k < length (list_of own x) → (slice_index (list_of own x) k ≡ entry lists own x (slice_index (list_of lists x) k)) × (slice_index (list_of other x) k ≡ entry lists own (slice_index (list_of lists x) k) x)
  place_numbers x k l h =
      let a = entry_at lists own count simple n.own_table x k l h in
      let m : k < length (list_of other x) = omega (arith, h, n.own_table.sizes x l, n.other_table.sizes x l) in
      (a.is, (entry_at lists other count simple n.other_table x k l m).is ∙ n.back x (slice_index (list_of lists x) k) a.dart)
