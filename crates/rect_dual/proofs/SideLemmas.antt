-- A vertex that is put on between two of the contour, and what is kept of a side.
use Rattle.std.proofs.Common.{◌≡◌, ℕ, suc, ◌+◌, ◌-◌, ◌<◌, ◌≤◌, ◌==◌, Bool, true, not, List, ◌++◌, length, take, get_or, All, sym, ap, subst, ◌∙◌, inl, inr, arith}
use Rattle.std.proofs.lemmas.Bool.{cases_Bool}
use Rattle.std.proofs.Math.Seq.{take-append_seam}
use Rattle.contour_runs.specs.Runs.{Step, stage_after}
use Rattle.rect_runs.specs.Labels.{IsLabelledRun}
use Rattle.rect_runs.specs.Numbers.{numbers, turn_of, turns_at_run, rise_turns, run_turns}
use Rattle.order_drawings.specs.Rows.{IsRow}
use Rattle.rect_dual.specs.Lines.{AreLines}
use Rattle.rect_dual.specs.Ways.{is_marked}
use Rattle.rect_dual.specs.States.{IsPutOver, IsLeftState, IsLowState}
use Rattle.rect_dual.proofs.Left.{IsAt}
use Rattle.rect_dual.specs.SidesOfBoxes.{gets_line, place_in, second_line, number_of, IsSideState}
use Rattle.rect_dual.specs.declared.side.Side.{Side}
use Rattle.rect_dual.specs.declared.side.Side.TheVariants.{Left, Low}
use Rattle.rect_dual.proofs.RectNumbersRows.{IsAt-row, line_count}
use Rattle.rect_dual.proofs.Begin.{IsLeftState-begin, IsLowState-begin}
use Rattle.rect_dual.proofs.Left as left
use Rattle.rect_dual.proofs.Low as low

-- a list that was lent whole is the one that came back
pub lent : {A : Type 0} (m : ℕ) (new rest : List A) → m ≡ length new → new ≡ take m (new ++ rest)
lent m new rest e = sym (ap (λ n. take n (new ++ rest)) e ∙ take-append_seam new rest)

module _ (steps : ℕ → Step) (n k : ℕ) (h : IsLabelledRun steps n) (l : k < n) (row : List ℕ) (is_row : IsRow (stage_after steps k) (steps k) row) (c : ℕ) (few : c + 2 ≤ length row) (turn : (steps k).first + c ≡ turn_of steps k)
    (run : Bool) (at_run : run ≡ turns_at_run steps k) (z : ℕ) (new : z ≡ k + 2) (lines next links : List ℕ) (leads : List Bool) (lines' next' links' : List ℕ) (leads' : List Bool) (inside : z < length lines) (size : length links ≡ length lines) where
  abbrev first : ℕ
  first = get_or row 0 0

  abbrev last : ℕ
  last = get_or row (length row - 1) 0

  left_more : IsPutOver (get_or row (c + 1) 0) (not run) last first z lines next links leads lines' next' links' leads' → IsLeftState steps n k lines next links leads → IsLeftState steps n (suc k) lines' next' links' leads'
  left_more over st =
      let at = get_or row (c + 1) 0 in
      let here : IsAt steps k (suc (turn_of steps k)) first at last z run = IsAt-row steps k row is_row (c + 1) (suc (turn_of steps k)) (omega (arith, turn)) (omega (arith, few)) z new run at_run in
      let old = left.lines_at steps n k h l first at last z run here lines next links leads st in
      let lines_are : AreLines (numbers steps (suc k)).x (suc k + 2) (suc (rise_turns steps (suc k))) 0 lines' next' = elim (cases_Bool run) [
        | inl e ↦ left.lines_at_run steps n k h l first at last z run here lines next links leads st lines' next' links' leads' (sym at_run ∙ e)
            (over.level (ap not e) (numbers steps k).x (suc (rise_turns steps k)) 0 old (left.at_older steps n k h l first at last z run here lines next links leads st))
        | inr e ↦
            let put = over.behind (ap not e) (numbers steps k).x (suc (rise_turns steps k)) 0 old
            (left.way steps n k h l first at last z run here lines next links leads st) (suc (turn_of steps k))
            (left.way_begins steps n k h l first at last z run here lines next links leads st)
            (left.way_leads steps n k h l first at last z run here lines next links leads st)
            (left.way_ends steps n k h l first at last z run here lines next links leads st)
            (let f = left.few steps n k h l first at last z run here lines next links leads st in omega (arith, f, inside))
            (left.way_older steps n k h l first at last z run here lines next links leads st) in
            left.lines_at_rise steps n k h l first at last z run here lines next links leads st lines' next' links' leads' (sym at_run ∙ e) put.0 put.1 put.2
      ] in
      left.IsLeftState-more steps n k h l first at last z run here lines next links leads st lines' next' links' leads' lines_are (omega (arith, size, inside)) over.linked over.new over.end over.others

  low_more : IsPutOver (get_or row c 0) run first last z lines next links leads lines' next' links' leads' → IsLowState steps n k lines next links leads → IsLowState steps n (suc k) lines' next' links' leads'
  low_more over st =
      let at = get_or row c 0 in
      let here : IsAt steps k (turn_of steps k) first at last z run = IsAt-row steps k row is_row c (turn_of steps k) turn (omega (arith, few)) z new run at_run in
      let old = low.lines_at steps n k h l first at last z run here lines next links leads st in
      let lines_are : AreLines (numbers steps (suc k)).y (suc k + 2) (suc (suc (run_turns steps (suc k)))) 1 lines' next' = elim (cases_Bool run) [
        | inr e ↦ low.lines_at_rise steps n k h l first at last z run here lines next links leads st lines' next' links' leads' (sym at_run ∙ e)
            (over.level e (numbers steps k).y (suc (suc (run_turns steps k))) 1 old (low.at_older steps n k h l first at last z run here lines next links leads st))
        | inl e ↦
            let put = over.behind e (numbers steps k).y (suc (suc (run_turns steps k))) 1 old
            (low.way steps n k h l first at last z run here lines next links leads st) ((stage_after steps k).width - suc (turn_of steps k))
            (low.way_begins steps n k h l first at last z run here lines next links leads st)
            (low.way_leads steps n k h l first at last z run here lines next links leads st)
            (low.way_ends steps n k h l first at last z run here lines next links leads st)
            (let f = low.few steps n k h l first at last z run here lines next links leads st in omega (arith, f, inside))
            (low.way_older steps n k h l first at last z run here lines next links leads st) in
            low.lines_at_run steps n k h l first at last z run here lines next links leads st lines' next' links' leads' (sym at_run ∙ e) put.0 put.1 put.2
      ] in
      low.IsLowState-more steps n k h l first at last z run here lines next links leads st lines' next' links' leads' lines_are (omega (arith, size, inside)) over.linked over.new over.end over.others

  pub IsSideState-left : (side : Side) → side ≡ Left → (at : ℕ) → at ≡ get_or row (place_in side c) 0 → (own : Bool) → own ≡ gets_line side run → IsPutOver at own last first z lines next links leads lines' next' links' leads' → IsSideState side steps n k lines next links leads → IsSideState side steps n (suc k) lines' next' links' leads'
  IsSideState-left side e at at_is own own_is over =
      let here = subst (λ a. IsPutOver a (gets_line side run) last first z lines next links leads lines' next' links' leads') at_is (subst (λ b. IsPutOver at b last first z lines next links leads lines' next' links' leads') own_is over) in
      subst (λ s. IsPutOver (get_or row (place_in s c) 0) (gets_line s run) last first z lines next links leads lines' next' links' leads' → IsSideState s steps n k lines next links leads → IsSideState s steps n (suc k) lines' next' links' leads') (sym e) left_more here

  pub IsSideState-low : (side : Side) → side ≡ Low → (at : ℕ) → at ≡ get_or row (place_in side c) 0 → (own : Bool) → own ≡ gets_line side run → IsPutOver at own first last z lines next links leads lines' next' links' leads' → IsSideState side steps n k lines next links leads → IsSideState side steps n (suc k) lines' next' links' leads'
  IsSideState-low side e at at_is own own_is over =
      let here = subst (λ a. IsPutOver a (gets_line side run) first last z lines next links leads lines' next' links' leads') at_is (subst (λ b. IsPutOver at b first last z lines next links leads lines' next' links' leads') own_is over) in
      subst (λ s. IsPutOver (get_or row (place_in s c) 0) (gets_line s run) first last z lines next links leads lines' next' links' leads' → IsSideState s steps n k lines next links leads → IsSideState s steps n (suc k) lines' next' links' leads') (sym e) low_more here

-- the lines of the base
pub IsSideState-begin : (side : Side) (steps : ℕ → Step) (n second : ℕ) (lines next links : List ℕ) (leads : List Bool) → second ≡ second_line side → get_or lines 0 0 ≡ 0 → get_or lines 1 0 ≡ second → 2 ≤ length next → All (λ l. l ≡ 0) next → 2 ≤ length links → All (λ l. l ≡ second) links → is_marked leads 0 ≡ true → is_marked leads 1 ≡ second == 1 → IsSideState side steps n 0 lines next links leads
IsSideState-begin Left steps n second lines next links leads e one other many next_are many' links_are first mark = IsLeftState-begin steps n lines next links leads one (other ∙ e) many' (λ i d b. links_are i d b ∙ e) first (mark ∙ ap (λ s. s == 1) e)
IsSideState-begin Low steps n second lines next links leads e one other many next_are many' links_are first mark = IsLowState-begin steps n lines next links leads one (other ∙ e) many next_are many' (λ i d b. links_are i d b ∙ e) first (mark ∙ ap (λ s. s == 1) e)

-- the lines of a side that is done
pub AreLines-done : (side : Side) (steps : ℕ → Step) (n : ℕ) (lines next links : List ℕ) (leads : List Bool) → IsSideState side steps n n lines next links leads → AreLines (number_of side (numbers steps n)) (n + 2) (line_count side steps n) (second_line side) lines next
AreLines-done Left steps n lines next links leads st = st.lines_are
AreLines-done Low steps n lines next links leads st = st.lines_are

-- lines by other names of what they are
pub AreLines-at : (f : ℕ → ℕ) (m m' q q' first first' : ℕ) (lines lines' next next' : List ℕ) → m' ≡ m → q' ≡ q → first' ≡ first → lines' ≡ lines → next' ≡ next → AreLines f m q first lines next → AreLines f m' q' first' lines' next'
AreLines-at f m m' q q' first first' lines lines' next next' em eq ef el en h =
    subst (λ a. AreLines f a q' first' lines' next') (sym em) (subst (λ a. AreLines f m a first' lines' next') (sym eq) (subst (λ a. AreLines f m q a lines' next') (sym ef)
    (subst (λ a. AreLines f m q first a next') (sym el) (subst (λ a. AreLines f m q first lines a) (sym en) h))))
