-- The tables of a run tell how its edges stand at their ends.
use Rattle.std.proofs.Common.{◌≡◌, ◌≢◌, ℕ, suc, ◌+◌, ◌-◌, ◌<◌, ◌≤◌, Bool, true, false, cond, eqb, ltb, List, length, get_or, refl, sym, ap, ◌∙◌, subst, inl, inr, arith, eq-eqb, ne_eqb}
use Rattle.std.proofs.lemmas.Bool.{cases_eq, cases_lt, cond-true, cond-false, or_left, or_right, or_from, lt-ltb, le-ltb}
use Rattle.map_lists.specs.Lists.{Lists}
use Rattle.map_theory.specs.Maps.{list_of}
use Rattle.contour_runs.specs.Runs.{Step, Stage, stage_after, IsStep, IsCovered}
use Rattle.contour_runs.specs.Laws.{IsStage}
use Rattle.contour_runs.proofs.Stages.{IsStage-run, IsRun-less}
use Rattle.rect_runs.specs.Numbers.{turn_of}
use Rattle.rect_runs.specs.Corners.{End, run_in, rise_out, run_out, rise_in, at_older, at_new}
use Rattle.rect_runs.specs.Later.{StandsOver}
use Rattle.rect_runs.specs.Boxes.{IsRectRun}
use Rattle.order_drawings.specs.Rows.{IsRow, AreRows}
use Rattle.rect_orders.proofs.Shortened.{over_not_covered}
use Rattle.rect_dual.specs.Turns.{AreTurns}
use Rattle.rect_dual.proofs.Turns.{turn_within}
use Rattle.rect_runs.specs.Ends.{IsEndAt, AreFrameEnds, other_end}
use Rattle.rect_runs.proofs.RectEndsEnds.{ends_agree}
use Rattle.rect_runs.proofs.RectEndsFrame.{frame_ends}
use Rattle.rect_runs.proofs.Corners.{older-left, older-below}
use Rattle.rect_dual.specs.EdgeLabelsTables.{StandsLeft, AreFirsts, AreLefts, is_run, end_at}

-- the other end of an edge that leaves
other-leaving : (b : Bool) → other_end (cond b run_out rise_out) ≡ cond b run_in rise_in
other-leaving true = refl
other-leaving false = refl

-- the two ways to read the tables
pub end_at-earlier : (first left : List ℕ) (i j : ℕ) → i < j → end_at first left i j ≡ cond (is_run first left i j) run_out rise_out
end_at-earlier first left i j l = cond-true (ltb i j) _ _ (lt-ltb i j l)

pub end_at-later : (first left : List ℕ) (i j : ℕ) → i < j → end_at first left j i ≡ other_end (end_at first left i j)
end_at-later first left i j l =
    cond-false (ltb j i) _ _ (le-ltb j i (omega (arith, l))) ∙ (sym (other-leaving (is_run first left i j)) ∙ ap other_end (sym (end_at-earlier first left i j l)))

module _ (steps : ℕ → Step) (rows : Lists) (places : List ℕ) (runs : List Bool) (first left : List ℕ) (h : AreRows steps rows) (t : AreTurns steps (length rows) places runs) (a : AreFirsts rows (length rows) first) (b : AreLefts rows places (length rows) left) where
  -- over what stands left in a row a step puts its vertex
  over_left : (m v : ℕ) → m < length rows → StandsLeft rows places m v → StandsOver steps m v (m + 2)
  over_left m v l s =
      let row = h.row m l in
      let n = row.count in
      let c = turn_within steps rows h m l (get_or places m 0) (t.place m l) in
      let hi = s.high in
      record { new = refl; place = (steps m).first + s.place; low = omega arith; high = omega arith; vertex = sym (row.each s.place (omega arith)) ∙ s.vertex }

  module _ (k u : ℕ) (l : k < length rows) (over : StandsOver steps k u (k + 2)) where
    abbrev g : Stage
    g = stage_after steps k

    abbrev row : List ℕ
    row = list_of rows k

    abbrev c : ℕ
    c = get_or places k 0

    -- the place in the row
    abbrev q : ℕ
    q = over.place - (steps k).first

    sound : IsStage g
    sound = IsStage-run steps k (IsRun-less steps k (length rows) (omega (arith, l)) h.run)

    step : IsStep g (steps k)
    step = h.run k l

    is_row : IsRow g (steps k) row
    is_row = h.row k l

    short : c + 2 ≤ length row
    short = turn_within steps rows h k l c (t.place k l)

    turn_is : (steps k).first + c ≡ turn_of steps k
    turn_is = t.place k l

    at_place : get_or row q 0 ≡ u
    at_place =
        let n = is_row.count in
        let lo = over.low in
        let hi = over.high in
        let z : (steps k).first + q ≡ over.place = omega arith in
        is_row.each q (omega arith) ∙ (ap g.vertex z ∙ over.vertex)

    -- u stands at no other place
    one_place : (j : ℕ) → j < length row → get_or row j 0 ≡ u → (steps k).first + j ≡ over.place
    one_place j m e =
        let n = is_row.count in
        let w = step.within in
        let hi = over.high in
        sym (sound.own ((steps k).first + j) (omega arith)) ∙ (ap g.place (sym (is_row.each j m) ∙ (e ∙ sym over.vertex)) ∙ sound.own over.place (omega arith))

    run_left : over.place ≤ turn_of steps k → is_run first left u (k + 2) ≡ true
    run_left le =
        let lo = over.low in
        let turn = turn_is in
        elim (cases_eq q 0) [
          | inl e ↦ or_left (eqb (get_or first (k + 2) 0) u) (eqb (get_or left u 0) (k + 2)) (eq-eqb (get_or first (k + 2) 0) u (a.of_row k l ∙ (ap (λ i. get_or row i 0) (sym e) ∙ at_place)))
          | inr ne ↦
              let latest = b.latest k u l (record { place = q; low = omega arith; high = omega arith; vertex = at_place }) in
              let m : ℕ = get_or left u 0 - 2 in
              let z : get_or left u 0 ≡ m + 2 = omega arith in
              let s = b.sound m u z in
              let n = is_row.count in
              let w = short in
              let covered : IsCovered steps k u = record { place = over.place; low = omega arith; high = omega arith; vertex = over.vertex } in
              let before = over_not_covered steps (length rows) k m u (m + 2) h.run s.0 covered (over_left m u s.0 s.1) in
              or_right (eqb (get_or first (k + 2) 0) u) (eqb (get_or left u 0) (k + 2)) (eq-eqb (get_or left u 0) (k + 2) (omega arith))
        ]

    rise_below : turn_of steps k < over.place → is_run first left u (k + 2) ≡ false
    rise_below lt =
        let turn = turn_is in
        let w = short in
        or_from (eqb (get_or first (k + 2) 0) u) (eqb (get_or left u 0) (k + 2))
        (ne_eqb (get_or first (k + 2) 0) u (λ e. let z = one_place 0 (omega arith) (sym (a.of_row k l) ∙ e) in omega arith))
        (ne_eqb (get_or left u 0) (k + 2) (λ e.
        let s = (b.sound k u e).1 in
        let hi = s.high in
        let z = one_place s.place (omega arith) s.vertex in
        omega arith))

    older_is : cond (is_run first left u (k + 2)) run_out rise_out ≡ at_older (turn_of steps k) over.place
    older_is = elim (cases_lt (turn_of steps k) over.place) [
      | inl lt ↦ cond-false (is_run first left u (k + 2)) run_out rise_out (rise_below lt) ∙ sym (older-below (turn_of steps k) over.place lt)
      | inr le ↦ cond-true (is_run first left u (k + 2)) run_out rise_out (run_left le) ∙ sym (older-left (turn_of steps k) over.place le)
    ]

  module _ (rect : IsRectRun steps (length rows)) where
    frame : AreFrameEnds steps (length rows)
    frame = frame_ends steps (length rows) rect

    -- the last vertex is above all but the first
    at_top : (u : ℕ) → u ≢ 0 → StandsOver steps (length rows) u (length rows + 2) → IsEndAt steps (suc (length rows)) u (length rows + 2) (cond (is_run first left u (length rows + 2)) run_out rise_out)
    at_top u ne over =
        let n : ℕ = length rows in
        let end : End = at_new (turn_of steps n) over.place in
        let here : IsEndAt steps (suc n) (n + 2) u end = inr record { step = n; before = omega arith; over = over; end_is = refl } in
        let rise : end ≡ rise_in = frame.top u end ne here in
        let back : IsEndAt steps (suc n) u (n + 2) rise_out = ends_agree steps (suc n) (n + 2) u rise_in (subst (IsEndAt steps (suc n) (n + 2) u) rise here) in
        let none : is_run first left u (n + 2) ≡ false =
        or_from (eqb (get_or first (n + 2) 0) u) (eqb (get_or left u 0) (n + 2))
        (ne_eqb (get_or first (n + 2) 0) u (λ e. ne (sym e ∙ a.none n (omega arith))))
        (ne_eqb (get_or left u 0) (n + 2) (λ e. omega (arith, (b.sound n u e).0)))
        in subst (IsEndAt steps (suc n) u (n + 2)) (sym (cond-false (is_run first left u (n + 2)) run_out rise_out none)) back

    -- An edge but that of the first vertex to the last stands at its earlier end as the tables tell.
    pub earlier_end : (k u v : ℕ) → k < suc (length rows) → StandsOver steps k u v → (k ≡ length rows → u ≢ 0) → IsEndAt steps (suc (length rows)) u v (cond (is_run first left u v) run_out rise_out)
    earlier_end k u v l over top =
        let here : StandsOver steps k u (k + 2) = subst (StandsOver steps k u) over.new over in
        subst (λ w. IsEndAt steps (suc (length rows)) u w (cond (is_run first left u w) run_out rise_out)) (sym over.new)
        (elim (cases_lt k (length rows)) [
          | inl m ↦ inl record { step = k; before = l; over = here; end_is = older_is k u m here }
          | inr m ↦
              let e : length rows ≡ k = omega arith in
              subst (λ n. IsEndAt steps (suc (length rows)) u (n + 2) (cond (is_run first left u (n + 2)) run_out rise_out)) e (at_top u (top (sym e)) (subst (λ n. StandsOver steps n u (n + 2)) (sym e) here))
        ])
