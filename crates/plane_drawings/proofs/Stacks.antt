-- Two lines of a status: what is strictly above the upper one is strictly above the lower one, and from one to the next so for all.
use Rattle.std.proofs.Common.{◌≡◌, ℕ, ◌<◌, ◌≤◌, List, [], ◌∷◌, pos, ◌≤ℤ◌, ◌<ℤ◌, inl, inr, refl, ap, arith}
use Rattle.std.specs.List.{All, AllPairs}
use Rattle.std.proofs.lemmas.Int.{ints}
use Rattle.std.proofs.lemmas.Bool.{cases_lt}
use Rattle.std.proofs.lemmas.List.Elements.{All-nil, All-cons, All-head, All-tail, All-contains}
use Rattle.pg_plane.specs.declared.grid_points.Point.{Point}
use Rattle.pg_plane.proofs.Crossing.{flat_last, flat_ends}
use Rattle.plane_drawings.specs.declared.plane_sweep.line.Line.{Line}
use Rattle.plane_drawings.specs.PlaneSweepLines.{AreInOrder, IsLine, rise, Starts, Ends}
use Rattle.plane_drawings.specs.Steps.{AreStacked, IsAboveLast, IsBelowFirst}
use Rattle.plane_drawings.specs.Swept.{Reaches}
use Rattle.plane_drawings.proofs.Order.{rightward}
use Rattle.plane_drawings.proofs.Areas.{IsBetweenLines, over_both, under_both}
use Rattle.plane_drawings.proofs.Pairs.{AllPairs-head, AllPairs-tail, AllNeighbours-first, AllNeighbours-tail}

module _ (n : ℕ) (at : ℕ → Point) (order : AreInOrder n at) where
  -- a place before i where both lines are, f not below e
  record IsLowPlace (e f : Line) (i m : ℕ) : Type 0 where
    pub first : e.low ≤ m
    pub second : f.low ≤ m
    pub passed : m < i
    pub over : pos 0 ≤ℤ rise at e m
    pub under : rise at f m ≤ℤ pos 0

  -- a place from i on where both lines are, f not below e
  record IsHighPlace (e f : Line) (i k : ℕ) : Type 0 where
    pub first : k ≤ e.high
    pub second : k ≤ f.high
    pub ahead : i ≤ k
    pub over : pos 0 ≤ℤ rise at e k
    pub under : rise at f k ≤ℤ pos 0

  low_place : (e f : Line) (i : ℕ) → e.low < i → f.low < i → Starts at e f → (m : ℕ) × IsLowPlace e f i m
  low_place e f i a b (inl s) = (f.low, record { first = s.0; second = omega arith; passed = b; over = s.1; under = let z = flat_ends (at f.low) (at f.high) in omega (arith, ints) })
  low_place e f i a b (inr s) = (e.low, record { first = omega arith; second = s.0; passed = a; over = let z = flat_ends (at e.low) (at e.high) in omega (arith, ints); under = s.1 })

  high_place : (e f : Line) (i : ℕ) → i ≤ e.high → i ≤ f.high → Ends at e f → (k : ℕ) × IsHighPlace e f i k
  high_place e f i a b (inl s) = (f.high, record { first = s.0; second = omega arith; ahead = b; over = s.1; under = let z = flat_last (at f.low) (at f.high) in omega (arith, ints) })
  high_place e f i a b (inr s) = (e.high, record { first = omega arith; second = s.0; ahead = a; over = let z = flat_last (at e.low) (at e.high) in omega (arith, ints); under = s.1 })

  module _ (lines : List Line) (lines_in : All (IsLine n) lines) (i : ℕ) (i_in : i < n) where
    is_line : (e : Line) → Reaches lines i e → IsLine n e
    is_line e r = All-contains (IsLine n) lines e lines_in r.given

    between : (e f : Line) → Reaches lines i e → Reaches lines i f → Starts at e f → Ends at e f → (m : ℕ) × (k : ℕ) × IsBetweenLines (at e.low) (at e.high) (at f.low) (at f.high) (at m) (at k) (at i)
    between e f r s begin end =
        let u = low_place e f i r.low s.low begin in
        let v = high_place e f i r.high s.high end in
        let low = u.1 in
        let high = v.1 in
        let f_in = is_line f s in (
          u.0,
          v.0,
          record {
            first_low = rightward n at order e.low u.0 low.first (omega arith);
            second_low = rightward n at order f.low u.0 low.second (omega arith);
            first_high = rightward n at order v.0 e.high high.first (is_line e r).within;
            second_high = rightward n at order v.0 f.high high.second f_in.within;
            low_above = low.over;
            low_below = low.under;
            high_above = high.over;
            high_below = high.under;
            after = order u.0 i low.passed i_in;
            before = elim (cases_lt i v.0) [ inl l ↦ inl (order i v.0 l (omega arith)) | inr l ↦ inr (ap at (let g : i ≡ v.0 = omega arith in g)) ];
          },
        )

    -- from a line to the one below it, and to the one above it
    step_down : (e f : Line) → Reaches lines i e → Reaches lines i f → Starts at e f → Ends at e f → pos 0 <ℤ rise at f i → pos 0 <ℤ rise at e i
    step_down e f r s begin end up =
        let b = between e f r s begin end in
        over_both (at e.low) (at e.high) (at f.low) (at f.high) (at b.0) (at b.1) (at i) b.2 up

    step_up : (e f : Line) → Reaches lines i e → Reaches lines i f → Starts at e f → Ends at e f → rise at e i <ℤ pos 0 → rise at f i <ℤ pos 0
    step_up e f r s begin end down =
        let b = between e f r s begin end in
        under_both (at e.low) (at e.high) (at f.low) (at f.high) (at b.0) (at b.1) (at i) b.2 down

    -- what is strictly above the last line of a stack is strictly above each
    pub all_below : (es : List Line) → All (Reaches lines i) es → AllPairs (Starts at) es → AreStacked at es → IsAboveLast at es i → All (λ e. pos 0 <ℤ rise at e i) es
    all_below [] r s t last = All-nil (λ e. pos 0 <ℤ rise at e i)
    all_below (e ∷ []) r s t last = All-cons (λ e. pos 0 <ℤ rise at e i) e [] (last [] e refl) (All-nil (λ e. pos 0 <ℤ rise at e i))
    all_below (e ∷ f ∷ fs) r s t last =
        let rest =
        all_below (f ∷ fs) (All-tail (Reaches lines i) e (f ∷ fs) r) (AllPairs-tail (Starts at) e (f ∷ fs) s) (AllNeighbours-tail (Ends at) e (f ∷ fs) t) (λ gs g same. last (e ∷ gs) g (ap (λ hs. e ∷ hs) same)) in
        All-cons (λ e. pos 0 <ℤ rise at e i) e (f ∷ fs)
        (step_down e f (All-head (Reaches lines i) e (f ∷ fs) r) (All-head (Reaches lines i) f fs (All-tail (Reaches lines i) e (f ∷ fs) r)) (All-head (Starts at e) f fs (AllPairs-head (Starts at) e (f ∷ fs) s)) (AllNeighbours-first (Ends at) e f fs t)
        (All-head (λ e. pos 0 <ℤ rise at e i) f fs rest))
        rest

    above_first : (e : Line) (es : List Line) → All (Reaches lines i) (e ∷ es) → AllPairs (Starts at) (e ∷ es) → AreStacked at (e ∷ es) → rise at e i <ℤ pos 0 → All (λ e. rise at e i <ℤ pos 0) (e ∷ es)
    above_first e [] r s t down = All-cons (λ e. rise at e i <ℤ pos 0) e [] down (All-nil (λ e. rise at e i <ℤ pos 0))
    above_first e (f ∷ fs) r s t down =
        let later = All-tail (Reaches lines i) e (f ∷ fs) r in
        let next = step_up e f (All-head (Reaches lines i) e (f ∷ fs) r) (All-head (Reaches lines i) f fs later) (All-head (Starts at e) f fs (AllPairs-head (Starts at) e (f ∷ fs) s)) (AllNeighbours-first (Ends at) e f fs t) down in
        All-cons (λ e. rise at e i <ℤ pos 0) e (f ∷ fs) down (above_first f fs later (AllPairs-tail (Starts at) e (f ∷ fs) s) (AllNeighbours-tail (Ends at) e (f ∷ fs) t) next)

    -- what is strictly below the first line of a stack is strictly below each
    pub all_above : (es : List Line) → All (Reaches lines i) es → AllPairs (Starts at) es → AreStacked at es → IsBelowFirst at es i → All (λ e. rise at e i <ℤ pos 0) es
    all_above [] r s t first = All-nil (λ e. rise at e i <ℤ pos 0)
    all_above (e ∷ es) r s t first = above_first e es r s t (first e es refl)
