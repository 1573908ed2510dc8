-- At its end a sweep says that the drawing is plane: of its lines, and then of the map.
use Rattle.std.proofs.Common.{◌≡◌, ◌≢◌, ℕ, zero, suc, ◌+◌, ◌<◌, ◌≤◌, List, length, ◌⊎◌, inl, inr, sym, ap, subst, ◌∙◌, arith}
use Rattle.std.specs.List.{All, Contains}
use Rattle.std.proofs.lemmas.Bool.{cases_lt}
use Rattle.std.proofs.lemmas.List.Elements.{All-contains}
use Rattle.map_lists.specs.Lists.{Lists}
use Rattle.map_theory.specs.Maps.{HasDart, IsSimpleMap}
use Rattle.pg_plane.specs.declared.grid_points.Point.{Point}
use Rattle.pg_plane.specs.Geometry.{IsOnSegment, DoCross}
use Rattle.plane_drawings.specs.Drawing.{place, IsPlaneDrawing}
use Rattle.pg_plane.proofs.Segments.{IsOnSegment-back, DoCross-first_back, DoCross-second_back}
use Rattle.plane_drawings.specs.declared.plane_sweep.line.Line.{Line}
use Rattle.plane_drawings.specs.PlaneSweepLines.{AreInOrder, IsLine, Cross}
use Rattle.plane_drawings.specs.Steps.{IsSweep}
use Rattle.plane_drawings.specs.Swept.{IsSwept}
use Rattle.plane_drawings.specs.PlaneSweepLaw.{point_at, IsRanked, AreLinesOf}
use Rattle.plane_drawings.proofs.Areas.{early_off, late_off}
use Rattle.plane_drawings.proofs.Order.{IsBefore-apart}
use Rattle.plane_drawings.proofs.Kept.{swept_begin, swept_more}

-- What a sweep keeps, along it.
pub swept_at : (n : ℕ) (at : ℕ → Point) → AreInOrder n at → (lines : List Line) → All (IsLine n) lines → (status : ℕ → List Line) → IsSweep at lines n status → (i : ℕ) → i ≤ n → IsSwept at lines i (status i)
swept_at n at order lines lines_in status sweep zero l = subst (λ es. IsSwept at lines 0 es) (sym sweep.begin) (swept_begin at lines)
swept_at n at order lines lines_in status sweep (suc i) l =
    let e : i + 1 ≡ suc i = omega arith in
    subst (λ j. IsSwept at lines j (status j)) e
    (swept_more n at order lines lines_in i (omega arith) (status i) (status (i + 1)) (swept_at n at order lines lines_in status sweep i (omega arith)) (sweep.steps i (omega arith)))

-- A point on a line of which it is no end comes between its ends.
pub between_ends : (n : ℕ) (at : ℕ → Point) → AreInOrder n at → (e : Line) (w : ℕ) → IsLine n e → w < n → w ≢ e.low → w ≢ e.high → IsOnSegment (at w) (at e.low) (at e.high) → (e.low < w) × (w < e.high)
between_ends n at order e w line_is w_in not_low not_high h =
    let line = order e.low e.high line_is.rises line_is.within in
    grind (arith, cases_lt, early_off, at, line, late_off)

module _ (n : ℕ) (at : ℕ → Point) (order : AreInOrder n at) (lines : List Line) (lines_in : All (IsLine n) lines) (status : List Line) (s : IsSwept at lines n status) where
  is_line : (e : Line) → Contains lines e → IsLine n e
  is_line e has = All-contains (IsLine n) lines e lines_in has

  -- no two lines cross
  pub lines_uncrossed : (e f : Line) → Contains lines e → Contains lines f → ¬ Cross at e f
  lines_uncrossed e f has has_f = s.no_crossing e f has has_f (is_line e has).within

  -- no point stands on a line of which it is no end
  pub points_off : (e : Line) (w : ℕ) → Contains lines e → w < n → w ≢ e.low → w ≢ e.high → ¬ IsOnSegment (at w) (at e.low) (at e.high)
  points_off e w has w_in not_low not_high h =
      let (low, high) = between_ends n at order e w (is_line e has) w_in not_low not_high h in
      s.off_lines e w has w_in low high h.on_line

module _ (lists : Lists) (points : List Point) (vertex rank : ℕ → ℕ) (lines : List Line) (simple : IsSimpleMap lists) (ranked : IsRanked (length lists) points vertex rank) (lines_of : AreLinesOf lists rank lines) where
  abbrev at : ℕ → Point
  at = point_at points vertex

  -- vertices of one rank are one
  ranks_apart : (u v : ℕ) → u < length lists → v < length lists → u ≢ v → rank u ≢ rank v
  ranks_apart u v lu lv ne e = ne (sym (ranked.back u lu) ∙ ap vertex e ∙ ranked.back v lv)

  line : ℕ → ℕ → Line
  line u v = record { low = rank u; high = rank v }

  -- an edge is a line from its one end or from its other
  by_line : (u v : ℕ) → HasDart lists u v → Contains lines (record { low = rank u; high = rank v }) ⊎ Contains lines (record { low = rank v; high = rank u })
  by_line u v has =
      let ne = ranks_apart u v has.0 (simple.in_range u v has) (λ e. simple.no_loop u v has (sym e)) in
      elim (cases_lt (rank u) (rank v)) [
        | inl l ↦ inl (lines_of.each_edge u v has l)
        | inr l ↦ inr (lines_of.each_edge v u (simple.both_ways u v has) (omega (arith, ne)))
      ]

  -- what is so of a point on a line of which it is no end is so of a vertex on an edge
  pub on_ranked : (Q : ℕ → Type 0) → ((e : Line) (w : ℕ) → Contains lines e → w < length lists → w ≢ e.low → w ≢ e.high → IsOnSegment (at w) (at e.low) (at e.high) → Q w) → (u v w : ℕ) → HasDart lists u v → w < length lists → w ≢ u → w ≢ v → IsOnSegment (place points w) (place points u) (place points v) → Q (rank w)
  on_ranked Q by_lines u v w has lw nu nv on =
      let h : IsOnSegment (at (rank w)) (at (rank u)) (at (rank v)) = rw (ranked.back w lw, ranked.back u has.0, ranked.back v (simple.in_range u v has)) on in
      let w_in = ranked.within w lw in
      let apart_u = ranks_apart w u lw has.0 nu in
      let apart_v = ranks_apart w v lw (simple.in_range u v has) nv in
      elim (by_line u v has) [
        | inl l ↦ by_lines (record { low = rank u; high = rank v }) (rank w) l w_in apart_u apart_v h
        | inr l ↦ by_lines (record { low = rank v; high = rank u }) (rank w) l w_in apart_v apart_u (IsOnSegment-back (at (rank w)) (at (rank u)) (at (rank v)) h)
      ]

  places_apart : (u v : ℕ) → u < length lists → v < length lists → u ≢ v → at (rank u) ≢ at (rank v)
  places_apart u v lu lv ne e =
      let apart = ranks_apart u v lu lv ne in
      elim (cases_lt (rank u) (rank v)) [
        | inl l ↦ IsBefore-apart (at (rank u)) (at (rank v)) (ranked.in_order (rank u) (rank v) l (ranked.within v lv)) e
        | inr l ↦ IsBefore-apart (at (rank v)) (at (rank u)) (ranked.in_order (rank v) (rank u) (omega (arith, apart)) (ranked.within u lu)) (sym e)
      ]

  module _ (status : List Line) (s : IsSwept at lines (length lists) status) where
    uncrossed : (e f : Line) → Contains lines e → Contains lines f → ¬ Cross at e f
    uncrossed = lines_uncrossed (length lists) at ranked.in_order lines lines_of.each_line status s

    cross_ranked : (a b c d : ℕ) → HasDart lists a b → HasDart lists c d → ¬ DoCross (at (rank a)) (at (rank b)) (at (rank c)) (at (rank d))
    cross_ranked a b c d has has_2 h =
        elim (by_line a b has) [
          | inl l ↦ elim (by_line c d has_2) [
            | inl m ↦ uncrossed (record { low = rank a; high = rank b }) (record { low = rank c; high = rank d }) l m h
            | inr m ↦ uncrossed (record { low = rank a; high = rank b }) (record { low = rank d; high = rank c }) l m (DoCross-second_back (at (rank a)) (at (rank b)) (at (rank c)) (at (rank d)) h)
          ]
          | inr l ↦ (let back = DoCross-first_back (at (rank a)) (at (rank b)) (at (rank c)) (at (rank d)) h in
              elim (by_line c d has_2) [
                | inl m ↦ uncrossed (record { low = rank b; high = rank a }) (record { low = rank c; high = rank d }) l m back
                | inr m ↦ uncrossed (record { low = rank b; high = rank a }) (record { low = rank d; high = rank c }) l m (DoCross-second_back (at (rank b)) (at (rank a)) (at (rank c)) (at (rank d)) back)
              ])
        ]

    -- A drawing of which the sweep is done is plane.
    pub drawing_done : IsPlaneDrawing lists points
    drawing_done = record {
      apart = λ u v lu lv ne e. places_apart u v lu lv ne (rw (ranked.back u lu, ranked.back v lv) e);
      off_edges = on_ranked (λ _. ⊥) (points_off (length lists) at ranked.in_order lines lines_of.each_line status s);
      no_crossing = λ a b c d has has_2 n1 n2 n3 n4 h.
          cross_ranked a b c d has has_2 (rw (ranked.back a has.0, ranked.back b (simple.in_range a b has), ranked.back c has_2.0, ranked.back d (simple.in_range c d has_2)) h);
    }
