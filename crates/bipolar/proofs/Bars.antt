-- The bars of an st-order and its dual numbers are valid.
use Rattle.std.proofs.Common.{◌≡◌, ◌≢◌, ◌⊎◌, ℕ, ◌-◌, ◌<◌, ◌≤◌, List, length, map, get_or, pos, ◌≤ℤ◌, ◌<ℤ◌, refl, sym, ap, ◌∙◌, subst, inl, inr, arith}
use Rattle.std.proofs.Math.ListN.{get_or-map}
use Rattle.std.proofs.lemmas.List.{length-map}
use Rattle.std.proofs.lemmas.Bool.{cases_lt, cases_eq, lt-ltb, le-ltb}
use Rattle.std.proofs.lemmas.Int.{ints}
use Rattle.map_lists.specs.Lists.{Lists}
use Rattle.map_theory.specs.Maps.{Dart, HasDart, list_of, follows, dart_number, dart_count, face_count}
use Rattle.map_theory.proofs.DartLemmas.{get_or-dart_number, HasDart-follows}
use Rattle.map_theory.proofs.DartPermutations.{dart_of, rotation, twin}
use Rattle.plane_laws.proofs.DartPaths.{twin-number, rotation-number, numbers_apart}
use Rattle.pg_plane.specs.declared.figures.BarFigure.{BarFigure}
use Rattle.vertex_rounds.specs.Rounds.{HasEdge}
use Rattle.drawings.specs.Bars.{number_at, edge_number, column_of, column_between, IsNewHeight, IsBar, Holds, IsColumn, IsStruck, IsAbove, IsEarlier, IsBreak, GoesOnceRound, IsValidBars}
use Rattle.drawings.proofs.BarsApart.{valid_bars}
use Rattle.bipolar.proofs.Upward.{IsRising}
use Rattle.bipolar.proofs.RisingNumbers.{column, column_of_up, column_of_down, Passes, one_side}
use Rattle.bipolar.proofs.Turns.{some_break, one_break}
use Rattle.bipolar.specs.DualNumbers.{IsFaceNumbering, number_between, AreEdgeNumbers}
use Rattle.bipolar.specs.Drawn.{IsDrawnBy}
use Rattle.bipolar.specs.Laws.{IsStMap, DualNumbersAreBars}
use Rattle.bipolar.proofs.Bipolar.{rank_of, dart_in, is_dart, number_back, one_vertex, rank_in, rank_at, rank_twin, bipolar}
use Rattle.bipolar.proofs.Numberings.{IsDual-from, one_numbering}

-- the number of an edge is one from both ends
between-turned : (lists : Lists) (u v : ℕ) → u ≢ v → number_between lists u v ≡ number_between lists v u
between-turned lists u v ne =
    elim (cases_lt u v) [
      | inl less ↦ rw (lt-ltb u v less, le-ltb v u (omega arith)) refl
      | inr most ↦ rw (le-ltb u v most, lt-ltb v u (omega (arith, most, ne))) refl
    ]

-- a column is that of an edge's number
pub column-numbered : (lists : Lists) (fig : BarFigure) (columns : List ℕ) → fig.column ≡ map pos columns → (u v : ℕ) → column_between lists fig u v ≡ pos (get_or columns (number_between lists u v) 0)
column-numbered lists fig columns e u v =
    let at : (i : ℕ) → number_at fig.column i ≡ pos (get_or columns i 0) = λ i. ap (λ xs. get_or xs i (pos 0)) e ∙ get_or-map pos columns i 0 in
    elim (cases_lt u v) [
      | inl less ↦ rw (lt-ltb u v less) (at (edge_number lists u v))
      | inr most ↦ rw (le-ltb u v most) (at (edge_number lists v u))
    ]

module _ {lists : Lists} {s t : ℕ} {at rank columns : List ℕ} {fig : BarFigure} (x : IsStMap lists s t at rank) (number : Dart → ℕ) (faces : IsFaceNumbering lists rank s t number) (edges : AreEdgeNumbers lists rank number columns) (drawn : IsDrawnBy lists rank columns fig) where
  n : ℕ → ℕ
  n i = number (dart_of lists i)

  rising : IsRising (dart_count lists) (rotation lists) (twin lists) (rank_of lists rank) (dart_number lists (s, t)) n
  unfolding n
  rising = (IsDual-from x number faces).rising

  -- the column of a dart's edge
  col : ℕ → ℕ
  col i = column (bipolar x) n rising i

  height : (v : ℕ) → number_at fig.y v ≡ pos (get_or rank v 0)
  height v = ap (λ ys. get_or ys v (pos 0)) drawn.y ∙ get_or-map pos rank v 0

  apart : (u v : ℕ) → HasDart lists u v → u ≢ v
  apart u v has e = x.simple.no_loop u v has (sym e)

  n_at : (u v : ℕ) → HasDart lists u v → n (dart_number lists (u, v)) ≡ number (u, v)
  unfolding n
  n_at u v has = ap number (get_or-dart_number lists u v (0, 0) has)

  -- the column of the figure
  col_is : (v u : ℕ) → HasDart lists v u → column_between lists fig v u ≡ pos (col (dart_number lists (v, u)))
  unfolding col
  col_is v u has =
      let i = dart_number lists (v, u) in
      let back = x.simple.both_ways v u has in
      let here = rank_at x v u has in
      let there = rank_twin x v u has in
      let is = column-numbered lists fig columns drawn.column v u in
      elim (cases_lt (get_or rank v 0) (get_or rank u 0)) [
        | inl up ↦
            is ∙ ap pos (edges.left v u (has, up) ∙ (sym (n_at v u has) ∙ sym (column_of_up (bipolar x) n rising i (omega (arith, here, there, up)))))
        | inr most ↦
            let down : get_or rank u 0 < get_or rank v 0 = elim (cases_eq (get_or rank u 0) (get_or rank v 0)) [
              | inl e ↦ absurd (apart u v back (one_vertex x u v back.0 has.0 e))
              | inr ne ↦ omega (arith, most, ne)
            ] in
            let c = column_of_down (bipolar x) n rising i (omega (arith, here, there, down)) in
            is ∙ ap pos (ap (λ z. get_or columns z 0) (between-turned lists v u (apart v u has)) ∙ (edges.left u v (back, down) ∙ (sym (n_at u v back) ∙ (ap n (sym (twin-number lists v u has)) ∙ sym c))))
      ]

  col_below : (v u : ℕ) → HasDart lists v u → col (dart_number lists (v, u)) < face_count lists
  unfolding col n
  col_below v u has =
      let i = dart_number lists (v, u) in
      let back = x.simple.both_ways v u has in
      let here = rank_at x v u has in
      let there = rank_twin x v u has in
      let below = (one_numbering x).below number faces in
      elim (cases_lt (get_or rank v 0) (get_or rank u 0)) [
        | inl up ↦ omega (arith, column_of_up (bipolar x) n rising i (omega (arith, here, there, up)), n_at v u has, below (v, u) has)
        | inr most ↦
            let down : get_or rank u 0 < get_or rank v 0 = elim (cases_eq (get_or rank u 0) (get_or rank v 0)) [
              | inl e ↦ absurd (apart u v back (one_vertex x u v back.0 has.0 e))
              | inr ne ↦ omega (arith, most, ne)
            ] in
            omega (arith, column_of_down (bipolar x) n rising i (omega (arith, here, there, down)), ap n (twin-number lists v u has), n_at u v back, below (u, v) back)
      ]

  -- the heights are new
  new_height : (v : ℕ) → v < length lists → IsNewHeight lists fig v
  new_height v l = grind (arith, height, ints, rank_in, pos, get_or, one_vertex)

  -- the bars are within the width
  bar : (v : ℕ) → v < length lists → IsBar fig (pos (face_count lists - 1)) v
  bar v l =
      let r = drawn.reaches v l in
      let most = col_below v r.to_one.0 r.to_one.1 in
      record {
        left = rw (r.from_one.2 ∙ col_is v r.from_one.0 r.from_one.1) (omega (arith, ints));
        order = rw r.from_one.2 (r.to_least r.from_one.0 r.from_one.1);
        right = rw (r.to_one.2 ∙ col_is v r.to_one.0 r.to_one.1) (omega (arith, ints));
      }

  between_turned : (u v : ℕ) → HasDart lists u v → column_between lists fig u v ≡ column_between lists fig v u
  between_turned u v has =
      column-numbered lists fig columns drawn.column u v ∙ (ap (λ i. pos (get_or columns i 0)) (between-turned lists u v (apart u v has)) ∙ sym (column-numbered lists fig columns drawn.column v u))

  of_edge : (a b : ℕ) → a < b → column_of lists fig a b ≡ column_between lists fig a b
  of_edge a b less = rw (lt-ltb a b less) refl

  -- the columns are within the bars
  column_is : (a b : ℕ) → HasEdge lists a b → IsColumn fig (pos (face_count lists - 1)) a b (column_of lists fig a b)
  column_is a b e =
      let has = e.1 in
      let back = x.simple.both_ways a b has in
      let r = drawn.reaches a has.0 in
      let r' = drawn.reaches b back.0 in
      let is = col_is a b has in
      rw (of_edge a b e.0) (record {
        left = rw is (omega (arith, ints));
        right = rw is (omega (arith, col_below a b has, ints));
        lesser = record { from = r.from_most b has; to = r.to_least b has };
        greater = rw (between_turned a b has) (record { from = r'.from_most a back; to = r'.to_least a back });
      })

  -- an edge that passes a vertex does not go through its bar
  clear_up : (a b v : ℕ) → HasDart lists a b → v < length lists → get_or rank a 0 < get_or rank v 0 → get_or rank v 0 < get_or rank b 0 → Holds fig v (column_between lists fig a b) → ⊥
  unfolding col
  clear_up a b v has lv low high holds =
      let e = dart_number lists (a, b) in
      let r = drawn.reaches v lv in
      let one = r.from_one in
      let two = r.to_one in
      let j = dart_number lists (v, one.0) in
      let j' = dart_number lists (v, two.0) in
      let at_j = rank_at x v one.0 one.1 in
      let at_j' = rank_at x v two.0 two.1 in
      let here = rank_at x a b has in
      let there = rank_twin x a b has in
      let mine : column_between lists fig a b ≡ pos (n e) = col_is a b has ∙ ap pos (column_of_up (bipolar x) n rising e (omega (arith, here, there, low, high))) in
      let from : pos (col j) ≤ℤ pos (n e) = rw (sym (one.2 ∙ col_is v one.0 one.1), sym mine) holds.from in
      let to : pos (n e) ≤ℤ pos (col j') = rw (sym (two.2 ∙ col_is v two.0 two.1), sym mine) holds.to in
      let passes : Passes (bipolar x) n rising e j = record { within = dart_in x a b has; below = omega (arith, here, at_j, low); above = omega (arith, there, at_j, high) } in
      elim (one_side (bipolar x) n rising e j (dart_in x v one.0 one.1) passes) [
        | inl left ↦ (let less : n e < col j = left j (dart_in x v one.0 one.1) refl in omega (arith, ints))
        | inr right ↦ (let less : col j' < n e = right j' (dart_in x v two.0 two.1) (omega (arith, at_j, at_j')) in omega (arith, ints))
      ]

  clear : (a b v : ℕ) → HasEdge lists a b → v < length lists → ¬ IsStruck fig a b (column_of lists fig a b) v
  clear a b v e lv struck =
      let has = e.1 in
      let holds : Holds fig v (column_between lists fig a b) = subst (Holds fig v) (of_edge a b e.0) struck.holds in
      elim struck.between [
        | inl z ↦ (
            let low : pos (get_or rank a 0) <ℤ pos (get_or rank v 0) = rw (sym (height a), sym (height v)) z.0 in
            let high : pos (get_or rank v 0) <ℤ pos (get_or rank b 0) = rw (sym (height v), sym (height b)) z.1 in
            clear_up a b v has lv (omega (arith, ints)) (omega (arith, ints)) holds
            )
        | inr z ↦ (
            let low : pos (get_or rank b 0) <ℤ pos (get_or rank v 0) = rw (sym (height b), sym (height v)) z.0 in
            let high : pos (get_or rank v 0) <ℤ pos (get_or rank a 0) = rw (sym (height v), sym (height a)) z.1 in
            clear_up b a v (x.simple.both_ways a b has) lv (omega (arith, ints)) (omega (arith, ints)) (subst (Holds fig v) (between_turned a b has) holds)
            )
      ]

  -- ---- lists
  abbrev Up : ℕ → Type 0
  Up j = rank_of lists rank j < rank_of lists rank (twin lists j)

  up_from : (v u : ℕ) → HasDart lists v u → IsAbove fig v u → Up (dart_number lists (v, u))
  up_from v u has above =
      let less : pos (get_or rank v 0) <ℤ pos (get_or rank u 0) = rw (sym (height v), sym (height u)) above in
      let up : get_or rank v 0 < get_or rank u 0 = omega (arith, ints) in
      omega (arith, rank_at x v u has, rank_twin x v u has, up)

  up_to : (v u : ℕ) → HasDart lists v u → Up (dart_number lists (v, u)) → IsAbove fig v u
  up_to v u has up =
      let less : get_or rank v 0 < get_or rank u 0 = omega (arith, rank_at x v u has, rank_twin x v u has, up) in
      rw (height v, height u) (omega (arith, ints))

  -- the edge of one dart comes before that of another
  abbrev DartEarlier : ℕ → ℕ → Type 0
  DartEarlier i j = (Up i × ¬ Up j) ⊎ ((Up i × Up j × (col i < col j)) ⊎ ((¬ Up i) × (¬ Up j) × (col j < col i)))

  earlier_from : (v u w : ℕ) → HasDart lists v u → HasDart lists v w → IsEarlier lists fig v u w → DartEarlier (dart_number lists (v, u)) (dart_number lists (v, w))
  earlier_from v u w has has' e = grind (arith, dart_number, up_from, up_to, pos, col, col_is, ints)

  earlier_to : (v u w : ℕ) → HasDart lists v u → HasDart lists v w → DartEarlier (dart_number lists (v, u)) (dart_number lists (v, w)) → IsEarlier lists fig v u w
  earlier_to v u w has has' e = grind (arith, up_to, up_from, col_is, ints)

  -- a break of the darts is one of the list
  break_from : (v u : ℕ) → HasDart lists v u → ¬ DartEarlier (dart_number lists (v, u)) (rotation lists (dart_number lists (v, u))) → IsBreak lists fig v u
  break_from v u has late e =
      late (subst (DartEarlier (dart_number lists (v, u))) (sym (rotation-number lists v u has)) (earlier_from v u (follows lists v u) has (HasDart-follows lists v u has) e))

  break_to : (v u : ℕ) → HasDart lists v u → IsBreak lists fig v u → ¬ DartEarlier (dart_number lists (v, u)) (rotation lists (dart_number lists (v, u)))
  break_to v u has late e =
      late (earlier_to v u (follows lists v u) has (HasDart-follows lists v u has) (subst (DartEarlier (dart_number lists (v, u))) (rotation-number lists v u has) e))

  turns : (v : ℕ) → v < length lists → 2 ≤ length (list_of lists v) → GoesOnceRound lists fig v
  unfolding col
  turns v lv two =
      let first = (drawn.reaches v lv).from_one in
      let found = some_break (bipolar x) n rising (dart_number lists (v, first.0)) (dart_in x v first.0 first.1) in
      let j = found.0 in
      let has = is_dart x j found.1 in
      let back = number_back x j found.1 in
      let tail : (dart_of lists j).0 ≡ v = one_vertex x (dart_of lists j).0 v has.0 lv (omega (arith, found.2, rank_at x v first.0 first.1)) in
      let broken = break_from (dart_of lists j).0 (dart_of lists j).1 has (subst (λ z. ¬ DartEarlier z (rotation lists z)) (sym back) found.3) in
      record {
        some = ((dart_of lists j).1, subst (λ z. HasDart lists z (dart_of lists j).1) tail has, subst (λ z. IsBreak lists fig z (dart_of lists j).1) tail broken);
        one = λ u w has has' bu bw.
            numbers_apart lists v u w has has'
            (one_break (bipolar x) n rising (dart_number lists (v, u)) (dart_number lists (v, w)) (dart_in x v u has) (dart_in x v w has') (rank_at x v u has ∙ sym (rank_at x v w has')) (break_to v u has bu) (break_to v w has' bw));
      }

  valid : IsValidBars lists fig (pos (face_count lists - 1))
  valid =
      valid_bars lists fig (pos (face_count lists - 1)) x.simple (ap length drawn.column ∙ (length-map columns pos ∙ edges.count)) new_height bar
      column_is
      clear
      turns

pub dual_numbers_are_bars : DualNumbersAreBars
dual_numbers_are_bars lists s t at rank columns fig x duals drawn = valid x duals.0 duals.1 duals.2 drawn
