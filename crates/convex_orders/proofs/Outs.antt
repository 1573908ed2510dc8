-- What stands before the place is the beginning of the contour.
use Rattle.std.proofs.Common.{◌≡◌, ℕ, suc, ◌+◌, ◌-◌, ◌<◌, ◌≤◌, eqb, List, [], ◌∷◌, ◌++◌, length, slice_index, take, sym, ap, ap₂, ◌∙◌, subst, arith}
use Rattle.std.specs.Prelude.{reverse, slice_range}
use Rattle.std.proofs.lemmas.List.{length-take-le, get_or-take, get_or-append-add}
use Rattle.simple_maps.proofs.FlatLemmas.{get_or-slice_range, length-slice_range}
use Rattle.convex_laws.specs.declared.convex_rows.rows.ConvexRows.{ConvexRows}
use Rattle.classes.proofs.Counting.{count_below_same}
use Rattle.map_lists.specs.Lists.{Lists}
use Rattle.map_theory.specs.Maps.{HasDart}
use Rattle.map_theory.proofs.DartCounts.{sum_below-same}
use Rattle.convex_orders.specs.declared.contour_counts.ContourCounts.{ContourCounts}
use Rattle.convex_orders.specs.declared.count_direction.Way.{Way}
use Rattle.convex_orders.specs.declared.count_direction.Way.TheVariants.{Goes}
use Rattle.convex_orders.specs.FaceNumbers.{entry}
use Rattle.convex_orders.specs.Contours.{contour_of, AreEdges, AreInner, inner_number}
use Rattle.convex_orders.specs.Counts.{met_at, met_between, edges_between, AreCounts}
use Rattle.convex_orders.specs.Cuts.{IsTakenOut}
use Rattle.convex_orders.specs.Moved.{CanMoveAll, AreMoved}
use Rattle.convex_orders.specs.Ways.{IsMoved}
use Rattle.convex_orders.proofs.Moves.{length-contour, contour_left}
use Rattle.convex_orders.proofs.Sums.{sum_below-three, count_below-three}

-- what is counted between is counted in all
module _ (lists own : Lists) (count : ℕ) (ws places edges : List ℕ) (first end : ℕ) (counts : AreCounts lists own count ws places edges) (order : first < end) (within : end < length ws) where
  met_some : (f : ℕ) → f < count → met_between own ws first end f ≤ slice_index places f
  met_some f l = omega (arith, counts.places_are f l, sum_below-three (λ i. met_at own f (slice_index ws i)) (suc first) (end - suc first) (length ws - end) (length ws) (omega arith))

  edges_some : (f : ℕ) → f < count → edges_between lists own ws first end f ≤ slice_index edges f
  edges_some f l = omega (arith, counts.edges_are f (length ws - 1) l (omega arith), count_below-three (λ i. eqb (inner_number lists own ws i) f) first (end - first) (length ws - 1 - end) (length ws - 1) (omega arith))

module _ (ws left right : List ℕ) (same : contour_of left right ≡ ws) where
  pub part_at : (i : ℕ) → i < length left → slice_index left i ≡ slice_index ws i
  part_at i l = sym (contour_left left right i l) ∙ ap (λ (z : List ℕ). slice_index z i) same

  part_long : length ws ≡ length left + length right
  part_long = sym (ap length same) ∙ length-contour left right

  left_in : (n : ℕ) → ((i : ℕ) → i < length ws → slice_index ws i < n) → (i : ℕ) → i < length left → slice_index left i < n
  left_in n all i l = let long = part_long in let at = part_at i l in let h = all i (omega arith) in omega arith

  left_edges : (lists : Lists) → AreEdges lists ws → AreEdges lists left
  left_edges lists all i l =
      subst (λ v. HasDart lists v (slice_index left i)) (sym (part_at (suc i) l)) (subst (HasDart lists (slice_index ws (suc i))) (sym (part_at i (omega arith))) (all i (omega (arith, part_long))))

  met_prefix : (own : Lists) (first end f : ℕ) → end < length left → met_between own left first end f ≡ met_between own ws first end f
  met_prefix own first end f l = sum_below-same (λ k. met_at own f (slice_index left (suc first + k))) (λ k. met_at own f (slice_index ws (suc first + k))) (end - suc first) (λ k m. ap (λ v. met_at own f v) (part_at (suc first + k) (omega arith)))

  edges_prefix : (lists own : Lists) (first end f : ℕ) → end < length left → edges_between lists own left first end f ≡ edges_between lists own ws first end f
  edges_prefix lists own first end f l = count_below_same (λ k. eqb (inner_number lists own left (first + k)) f) (λ k. eqb (inner_number lists own ws (first + k)) f) (end - first) (λ k m. ap₂ (λ a b. eqb (entry lists own a b) f) (part_at (suc (first + k)) (omega arith)) (part_at (first + k) (omega arith)))

  pub inner_prefix : (lists own : Lists) (inner : List ℕ) → AreInner lists own ws inner → AreInner lists own left inner
  inner_prefix lists own inner are =
      let long = part_long in
      record {
        long = are.long;
        vertices = left_in (length lists) are.vertices;
        edges = left_edges lists are.edges;
        numbers = λ i l. ap (slice_index inner) (part_at i (omega arith)) ∙ (are.numbers i (omega arith) ∙ sym (ap₂ (entry lists own) (part_at (suc i) l) (part_at i (omega arith))));
      }

  module _ (lists own : Lists) (count first end : ℕ) (order : first < end) (within : end < length left) where
    pub can_go : (old : ContourCounts) → AreCounts lists own count ws old.places.items old.edges.items → CanMoveAll lists own count Goes left first end old
    can_go old counts =
        let inside : end < length ws = omega (arith, part_long) in
        record {
          places = λ f l. omega (arith, met_prefix own first end f within, met_some lists own count ws old.places.items old.edges.items first end counts order inside f l);
          edges = λ f l. omega (arith, edges_prefix lists own first end f within, edges_some lists own count ws old.places.items old.edges.items first end counts order inside f l);
        }

    pub gone_all : (way : Way) (old new : ContourCounts) → AreMoved lists own count way left first end old new → AreMoved lists own count way ws first end old new
    gone_all way old new m = record {
      size = m.size;
      places = λ f l. subst (λ n. IsMoved way (slice_index old.places.items f) n (slice_index new.places.items f)) (met_prefix own first end f within) (m.places f l);
      edges = λ f l. subst (λ n. IsMoved way (slice_index old.edges.items f) n (slice_index new.edges.items f)) (edges_prefix lists own first end f within) (m.edges f l);
    }

  -- what is taken out of the contour
  pub taken_out : (first end x : ℕ) → first < end → length left ≡ end + 1 → x ≡ slice_index left end → (left' news : List ℕ) → left' ≡ take (first + 1) left → news ≡ slice_range left (first + 1) end → (old new : ConvexRows) → (new.rows ≡ old.rows) × (new.cuts ≡ old.cuts) × (new.news ≡ old.news ++ news ∷ []) → IsTakenOut ws left' right x first end old new
  taken_out first end x order long x_is left' news left_is news_is old new rows =
      let all = part_long in
      let take_long : length left' ≡ first + 1 = ap length left_is ∙ length-take-le (first + 1) left (omega arith) in
      let many : length news ≡ end - (first + 1) = ap length news_is ∙ length-slice_range left (first + 1) end (omega arith) (omega arith) in
      record {
        left_long = omega arith;
        left_each = λ i l. ap (λ (z : List ℕ). slice_index z i) left_is ∙ (get_or-take (first + 1) left i 0 (omega arith) ∙ part_at i (omega arith));
        right_long = omega arith;
        right_each = λ q l.
            let y : length left + q ≡ suc end + q = omega arith in
            sym (get_or-append-add left (reverse right) q 0) ∙ (ap (λ k. slice_index (contour_of left right) k) y ∙ ap (λ (z : List ℕ). slice_index z (suc end + q)) same);
        end_is = x_is ∙ part_at end (omega arith);
        news = news;
        news_long = omega arith;
        news_each = λ i l.
            let y : first + 1 + i ≡ suc first + i = omega arith in
            ap (λ (z : List ℕ). slice_index z i) news_is ∙ (get_or-slice_range left (first + 1) end i (omega arith) ∙ (ap (λ k. slice_index left k) y ∙ part_at (suc first + i) (omega arith)));
        rows_are = rows.0;
        cuts_are = rows.1;
        news_are = rows.2;
      }
