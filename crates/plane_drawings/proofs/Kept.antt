-- A sweep keeps what `IsSwept` says: it holds at the beginning, and a step passes it on.
use Rattle.std.proofs.Common.{◌≡◌, ◌≢◌, ℕ, ◌+◌, ◌<◌, List, [], ◌++◌, length, get_or, ℤ, pos, ◌≤ℤ◌, ◌<ℤ◌, ◌⊎◌, inl, inr, sym, ap, subst, ◌∙◌, arith}
use Rattle.std.specs.List.{All, AllPairs, Contains}
use Rattle.std.proofs.lemmas.Int.{ints}
use Rattle.std.proofs.lemmas.Bool.{cases_lt}
use Rattle.std.proofs.lemmas.List.Elements.{All-nil, All-append, All-contains, All-contains_itself, Contains-append_left, Contains-append_right, Contains-append_cases, at_from_Contains}
use Rattle.pg_plane.specs.declared.grid_points.Point.{Point}
use Rattle.pg_plane.proofs.Crossing.{flat_last, flat_ends}
use Rattle.pg_plane.proofs.Segments.{DoCross-exchanged}
use Rattle.plane_drawings.specs.declared.plane_sweep.line.Line.{Line}
use Rattle.plane_drawings.specs.PlaneSweepLines.{AreInOrder, IsLine, rise, Starts, Ends, Cross}
use Rattle.plane_drawings.specs.Steps.{AreStacked, IsStep}
use Rattle.plane_drawings.specs.Swept.{Reaches, IsSwept}
use Rattle.plane_drawings.proofs.Areas.{stays_up, disjoint}
use Rattle.plane_drawings.proofs.Pairs.{All-append-left, All-append-right, AllPairs-nil, AllPairs-left, AllPairs-right, AllPairs-cross, AllPairs-append, AllNeighbours-left, AllNeighbours-right}
use Rattle.plane_drawings.proofs.Order.{rightward}
use Rattle.plane_drawings.proofs.Stacks.{all_below, all_above}

pub swept_begin : (at : ℕ → Point) (lines : List Line) → IsSwept at lines 0 []
swept_begin at lines = record {
  reaching = All-nil (Reaches lines 0);
  whole = λ e r. let l = r.low in absurd (omega arith);
  starts = AllPairs-nil (Starts at);
  stacked = λ k d l. absurd (omega arith);
  off_lines = λ e w has passed low high. absurd (omega arith);
  no_crossing = λ e f has has_f passed. absurd (omega arith);
}

-- a line does not cross a line above it
upper_uncrossed : (at : ℕ → Point) (e f : Line) → Starts at e f → rise at f e.high ≤ℤ pos 0 → ¬ Cross at e f
upper_uncrossed at e f begin end = stays_up (at e.low) (at e.high) (at f.low) (at f.high) (elim begin [ inl s ↦ inl s.1 | inr s ↦ inr s.1 ]) (inr end)

-- nor a line below it
lower_uncrossed : (at : ℕ → Point) (e f : Line) → Starts at f e → pos 0 ≤ℤ rise at f e.high → ¬ Cross at e f
lower_uncrossed at e f begin end h = stays_up (at f.low) (at f.high) (at e.low) (at e.high) (elim begin [ inl s ↦ inl s.1 | inr s ↦ inr s.1 ]) (inl end) (DoCross-exchanged (at e.low) (at e.high) (at f.low) (at f.high) h)

-- nor itself
itself_uncrossed : (at : ℕ → Point) (e : Line) → ¬ Cross at e e
itself_uncrossed at e h =
    let z = flat_ends (at e.low) (at e.high) in
    elim h.ends_of_second [ inl o ↦ (let l = o.0 in omega (arith, ints)) | inr o ↦ (let l = o.0 in omega (arith, ints)) ]

-- an element of a list and another are one, or stand in one of two orders
in_pair : {X : Type 0} (R : X → X → Type 0) (xs : List X) (x y : X) → AllPairs R xs → Contains xs x → Contains xs y → R x y ⊎ (R y x ⊎ (x ≡ y))
in_pair R xs x y pairs in_x in_y =
    let i = (at_from_Contains xs x in_x).0 in
    let j = (at_from_Contains xs y in_y).0 in
    let is_x : get_or xs i x ≡ x = (at_from_Contains xs x in_x).2 x in
    let is_x' : get_or xs i y ≡ x = (at_from_Contains xs x in_x).2 y in
    let is_y : get_or xs j x ≡ y = (at_from_Contains xs y in_y).2 x in
    let i_in : i < length xs = (at_from_Contains xs x in_x).1 in
    let j_in : j < length xs = (at_from_Contains xs y in_y).1 in
    grind (arith, cases_lt, get_or)

module _ (n : ℕ) (at : ℕ → Point) (order : AreInOrder n at) (lines : List Line) (lines_in : All (IsLine n) lines) (i : ℕ) (i_in : i < n) (old new : List Line) (s : IsSwept at lines i old) (t : IsStep at lines i old new) where
  abbrev parts : List Line
  parts = t.lower ++ (t.gone ++ t.upper)

  reach : All (Reaches lines i) parts
  reach = subst (λ es. All (Reaches lines i) es) t.before s.reaching

  starts : AllPairs (Starts at) parts
  starts = subst (λ es. AllPairs (Starts at) es) t.before s.starts

  stacked : AreStacked at parts
  stacked = subst (λ es. AreStacked at es) t.before s.stacked

  reach_lower : All (Reaches lines i) t.lower
  reach_lower = All-append-left (Reaches lines i) t.lower (t.gone ++ t.upper) reach

  reach_rest : All (Reaches lines i) (t.gone ++ t.upper)
  reach_rest = All-append-right (Reaches lines i) t.lower (t.gone ++ t.upper) reach

  reach_upper : All (Reaches lines i) t.upper
  reach_upper = All-append-right (Reaches lines i) t.gone t.upper reach_rest

  starts_lower : AllPairs (Starts at) t.lower
  starts_lower = AllPairs-left (Starts at) t.lower (t.gone ++ t.upper) starts

  starts_rest : AllPairs (Starts at) (t.gone ++ t.upper)
  starts_rest = AllPairs-right (Starts at) t.lower (t.gone ++ t.upper) starts

  starts_upper : AllPairs (Starts at) t.upper
  starts_upper = AllPairs-right (Starts at) t.gone t.upper starts_rest

  starts_cross : All (λ e. All (Starts at e) (t.gone ++ t.upper)) t.lower
  starts_cross = AllPairs-cross (Starts at) t.lower (t.gone ++ t.upper) starts

  -- i is strictly above all lower lines, and strictly below all upper ones
  lower_below : All (λ e. pos 0 <ℤ rise at e i) t.lower
  lower_below = all_below n at order lines lines_in i i_in t.lower reach_lower starts_lower (AllNeighbours-left (Ends at) t.lower (t.gone ++ t.upper) stacked) t.above

  upper_above : All (λ e. rise at e i <ℤ pos 0) t.upper
  upper_above =
      all_above n at order lines lines_in i i_in t.upper reach_upper starts_upper (AllNeighbours-right (Ends at) t.gone t.upper (AllNeighbours-right (Ends at) t.lower (t.gone ++ t.upper) stacked)) t.below

  is_below : (e : Line) → Contains t.lower e → pos 0 <ℤ rise at e i
  is_below e has = All-contains (λ e. pos 0 <ℤ rise at e i) t.lower e lower_below has

  is_above : (e : Line) → Contains t.upper e → rise at e i <ℤ pos 0
  is_above e has = All-contains (λ e. rise at e i <ℤ pos 0) t.upper e upper_above has

  is_line : (e : Line) → Contains lines e → IsLine n e
  is_line e has = All-contains (IsLine n) lines e lines_in has

  -- what ends at i has no rise there
  ends_level : (e : Line) → e.high ≡ i → rise at e i ≡ pos 0
  ends_level e same = ap (λ j. rise at e j) (sym same) ∙ flat_last (at e.low) (at e.high)

  begins_level : (e : Line) → e.low ≡ i → rise at e i ≡ pos 0
  begins_level e same = ap (λ j. rise at e j) (sym same) ∙ flat_ends (at e.low) (at e.high)

  -- a line that reaches over i is lower, or gone, or upper
  placed : (e : Line) → Reaches lines i e → Contains t.lower e ⊎ (Contains t.gone e ⊎ Contains t.upper e)
  placed e r =
      elim (Contains-append_cases t.lower (t.gone ++ t.upper) e (subst (λ es. Contains es e) t.before (s.whole e r))) [
        | inl h ↦ inl h
        | inr h ↦ inr (Contains-append_cases t.gone t.upper e h)
      ]

  has_ended : (e : Line) → Contains t.gone e → e.high ≡ i
  has_ended e has = All-contains (λ e. e.high ≡ i) t.gone e t.all_end has

  has_begun : (e : Line) → Contains t.fresh e → Contains lines e × (e.low ≡ i)
  has_begun e has = (t.all_begin e).0 has

  -- a line that reaches over i and does not end there reaches on
  stays : (e : Line) → Reaches lines i e → e.high ≢ i → Reaches lines (i + 1) e
  stays e r ne = let low = r.low in let high = r.high in record { given = r.given; low = omega arith; high = omega (arith, ne) }

  lower_stays : (e : Line) → Contains t.lower e → Reaches lines (i + 1) e
  lower_stays e has = stays e (All-contains (Reaches lines i) t.lower e reach_lower has) (λ same. let z = ends_level e same in let up = is_below e has in omega (arith, ints))

  upper_stays : (e : Line) → Contains t.upper e → Reaches lines (i + 1) e
  upper_stays e has = stays e (All-contains (Reaches lines i) t.upper e reach_upper has) (λ same. let z = ends_level e same in let down = is_above e has in omega (arith, ints))

  fresh_reaches : (e : Line) → Contains t.fresh e → Reaches lines (i + 1) e
  fresh_reaches e has =
      let begun = has_begun e has in
      let same = begun.1 in
      let up = (is_line e begun.0).rises in
      record { given = begun.0; low = omega arith; high = omega arith }

  abbrev fresh_parts : List Line
  fresh_parts = t.lower ++ (t.fresh ++ t.upper)

  all_of : (P : Line → Type 0) (es : List Line) → ((e : Line) → Contains es e → P e) → All P es
  all_of P es each k d l = each (get_or es k d) (All-contains_itself es k d l)

  reaching_more : All (Reaches lines (i + 1)) fresh_parts
  reaching_more =
      All-append (Reaches lines (i + 1)) t.lower (t.fresh ++ t.upper) (all_of (Reaches lines (i + 1)) t.lower lower_stays)
      (All-append (Reaches lines (i + 1)) t.fresh t.upper (all_of (Reaches lines (i + 1)) t.fresh fresh_reaches) (all_of (Reaches lines (i + 1)) t.upper upper_stays))

  whole_more : (e : Line) → Reaches lines (i + 1) e → Contains fresh_parts e
  whole_more e r =
      let low = r.low in
      let high = r.high in
      elim (cases_lt e.low i) [
        | inl l ↦ elim (placed e (record { given = r.given; low = l; high = omega arith })) [
          | inl h ↦ Contains-append_left t.lower (t.fresh ++ t.upper) e h
          | inr g ↦ elim g [
            | inl h ↦ absurd (let same = has_ended e h in omega arith)
            | inr h ↦ Contains-append_right t.lower (t.fresh ++ t.upper) e (Contains-append_right t.fresh t.upper e h)
          ]
        ]
        | inr l ↦ Contains-append_right t.lower (t.fresh ++ t.upper) e (Contains-append_left t.fresh t.upper e ((t.all_begin e).1 (r.given, omega arith)))
      ]

  -- the new lines begin above the lower ones and below the upper ones
  starts_above : (e f : Line) → Contains t.lower e → Contains t.fresh f → Starts at e f
  starts_above e f has has_f =
      let r = All-contains (Reaches lines i) t.lower e reach_lower has in
      let low = r.low in
      let same = (has_begun f has_f).1 in
      let up = is_below e has in
      inl (omega arith, subst (λ j. pos 0 ≤ℤ rise at e j) (sym same) (omega (arith, ints)))

  starts_below : (e f : Line) → Contains t.fresh e → Contains t.upper f → Starts at e f
  starts_below e f has has_f =
      let r = All-contains (Reaches lines i) t.upper f reach_upper has_f in
      let low = r.low in
      let same = (has_begun e has).1 in
      let down = is_above f has_f in
      inr (omega arith, subst (λ j. rise at f j ≤ℤ pos 0) (sym same) (omega (arith, ints)))

  starts_level : (e f : Line) → Contains t.fresh e → Contains t.fresh f → Starts at e f
  starts_level e f has has_f =
      let same = (has_begun e has).1 in
      let same_f = (has_begun f has_f).1 in
      let z = begins_level e same in
      inl (omega arith, subst (λ j. pos 0 ≤ℤ rise at e j) (sym same_f) (omega (arith, ints)))

  starts_upper_cross : All (λ e. All (Starts at e) (t.fresh ++ t.upper)) t.lower
  starts_upper_cross =
      all_of (λ e. All (Starts at e) (t.fresh ++ t.upper)) t.lower
      (λ e has. All-append (Starts at e) t.fresh t.upper (all_of (Starts at e) t.fresh (λ f has_f. starts_above e f has has_f))
      (All-append-right (Starts at e) t.gone t.upper (All-contains (λ e. All (Starts at e) (t.gone ++ t.upper)) t.lower e starts_cross has)))

  starts_fresh : AllPairs (Starts at) t.fresh
  starts_fresh j k d l m = starts_level (get_or t.fresh j d) (get_or t.fresh k d) (All-contains_itself t.fresh j d (omega arith)) (All-contains_itself t.fresh k d m)

  starts_more : AllPairs (Starts at) fresh_parts
  starts_more =
      AllPairs-append (Starts at) t.lower (t.fresh ++ t.upper) starts_lower
      (AllPairs-append (Starts at) t.fresh t.upper starts_fresh starts_upper (all_of (λ e. All (Starts at e) t.upper) t.fresh (λ e has. all_of (Starts at e) t.upper (λ f has_f. starts_below e f has has_f))))
      starts_upper_cross

  off_here : (e : Line) → Contains lines e → e.low < i → i < e.high → rise at e i ≢ pos 0
  off_here e has low high z =
      elim (placed e (record { given = has; low = low; high = omega arith })) [
        | inl h ↦ (let up = is_below e h in omega (arith, ints))
        | inr g ↦ elim g [ inl h ↦ (let same = has_ended e h in omega arith) | inr h ↦ (let down = is_above e h in omega (arith, ints)) ]
      ]

  off_more : (e : Line) (w : ℕ) → Contains lines e → w < i + 1 → e.low < w → w < e.high → rise at e w ≢ pos 0
  off_more e w has passed low high =
      elim (cases_lt w i) [
        | inl l ↦ s.off_lines e w has l low high
        | inr l ↦ (let same : i ≡ w = omega arith in subst (λ j. rise at e j ≢ pos 0) same (off_here e has (omega arith) (omega arith)))
      ]

  -- a line that ends at i is gone
  ends_gone : (e : Line) → Contains lines e → e.high ≡ i → Contains t.gone e
  ends_gone e has same =
      let z = ends_level e same in
      let up = (is_line e has).rises in
      elim (placed e (record { given = has; low = omega arith; high = omega arith })) [
        | inl h ↦ absurd (let up = is_below e h in omega (arith, ints))
        | inr g ↦ elim g [ inl h ↦ h | inr h ↦ absurd (let down = is_above e h in omega (arith, ints)) ]
      ]

  -- a line that ends at i crosses none that reaches over i
  no_crossing_here : (e f : Line) → Contains t.gone e → e.high ≡ i → Reaches lines i f → ¬ Cross at e f
  no_crossing_here e f has same r =
      let to_end : (P : ℤ → Type 0) → P (rise at f i) → P (rise at f e.high) = λ P h. subst (λ j. P (rise at f j)) (sym same) h in
      elim (placed f r) [
        | inl h ↦ lower_uncrossed at e f (All-contains (Starts at f) t.gone e (All-append-left (Starts at f) t.gone t.upper (All-contains (λ g. All (Starts at g) (t.gone ++ t.upper)) t.lower f starts_cross h)) has)
            (to_end (λ z. pos 0 ≤ℤ z) (let up = is_below f h in omega (arith, ints)))
        | inr g ↦ elim g [
          | inl h ↦ (let level = ends_level f (has_ended f h) in
              elim (in_pair (Starts at) t.gone e f (AllPairs-left (Starts at) t.gone t.upper starts_rest) has h) [
                | inl p ↦ upper_uncrossed at e f p (to_end (λ z. z ≤ℤ pos 0) (omega (arith, ints)))
                | inr q ↦ elim q [
                  | inl p ↦ lower_uncrossed at e f p (to_end (λ z. pos 0 ≤ℤ z) (omega (arith, ints)))
                  | inr one ↦ subst (λ g. ¬ Cross at e g) one (itself_uncrossed at e)
                ]
              ])
          | inr h ↦ upper_uncrossed at e f (All-contains (Starts at e) t.upper f (All-contains (λ g. All (Starts at g) t.upper) t.gone e (AllPairs-cross (Starts at) t.gone t.upper starts_rest) has) h)
              (to_end (λ z. z ≤ℤ pos 0) (let down = is_above f h in omega (arith, ints)))
        ]
      ]

  no_crossing_more : (e f : Line) → Contains lines e → Contains lines f → e.high < i + 1 → ¬ Cross at e f
  no_crossing_more e f has has_f passed =
      let up = (is_line e has).rises in
      let up_f = (is_line f has_f).rises in
      let within = (is_line e has).within in
      let within_f = (is_line f has_f).within in
      elim (cases_lt e.high i) [
        | inl l ↦ s.no_crossing e f has has_f l
        | inr l ↦ (let same : e.high ≡ i = omega arith in
            elim (cases_lt f.high i) [
              | inl m ↦ (λ h. s.no_crossing f e has_f has m (DoCross-exchanged (at e.low) (at e.high) (at f.low) (at f.high) h))
              | inr m ↦ elim (cases_lt f.low i) [
                | inl k ↦ no_crossing_here e f (ends_gone e has same) same (record { given = has_f; low = k; high = m })
                | inr k ↦ disjoint (at e.low) (at e.high) (at f.low) (at f.high) (rightward n at order e.low e.high (omega arith) within) (rightward n at order e.high f.low (omega arith) (omega arith)) (rightward n at order f.low f.high (omega arith) within_f)
              ]
            ])
      ]

  -- A step passes on what a sweep keeps.
  pub swept_more : IsSwept at lines (i + 1) new
  swept_more = record {
    reaching = subst (λ es. All (Reaches lines (i + 1)) es) (sym t.after) reaching_more;
    whole = λ e r. subst (λ es. Contains es e) (sym t.after) (whole_more e r);
    starts = subst (λ es. AllPairs (Starts at) es) (sym t.after) starts_more;
    stacked = t.stacked;
    off_lines = off_more;
    no_crossing = no_crossing_more;
  }
