-- The same of lower sides.
use Rattle.std.proofs.Common.{◌≡◌, ◌≢◌, ◌⊎◌, ℕ, suc, ◌+◌, ◌-◌, ◌<◌, ◌≤◌, Bool, true, false, List, length, set, sym, ap, subst, ◌∙◌, inl, inr, arith}
use Rattle.std.proofs.lemmas.Bool.{cases_lt, cases_Bool, cond-true, cond-false}
use Rattle.contour_runs.specs.Runs.{Step, Stage, stage_after}
use Rattle.rect_runs.specs.Labels.{labels, IsLabelledRun}
use Rattle.rect_runs.specs.Numbers.{shifted, with_new, numbers, new_y, y_after, turn_of, turns_at_run, run_turns}
use Rattle.rect_runs.proofs.Steps.{with_new-older, with_new-new, y_after-run-older, y_after-run-new, y_after-rise-older, y_after-rise-new}
use Rattle.rect_dual.specs.Lines.{AreLines}
use Rattle.rect_runs.proofs.Left.{AreLowerAfter}
use Rattle.rect_runs.proofs.Lower.{lower_after, lower_is_greatest}
use Rattle.rect_runs.proofs.Room.{lower_room, new_lower}
use Rattle.rect_dual.specs.Ways.{is_marked, IsWay, IsFirstAlong}
use Rattle.rect_dual.specs.States.{IsLowState}
use Rattle.rect_dual.proofs.Links.{same_place, IsLinked-more}
use Rattle.rect_dual.proofs.Left.{AreLines-named, stage, step, count, numbered, put, wide, IsAt}

module _ (steps : ℕ → Step) (n k : ℕ) (h : IsLabelledRun steps n) (l : k < n) where
  abbrev g : Stage
  g = stage_after steps k

  abbrev s : Step
  s = steps k

  abbrev c : ℕ
  c = turn_of steps k

  abbrev y : ℕ → ℕ
  y = (numbers steps k).y

  -- how many places are behind the turn
  abbrev m : ℕ
  m = g.width - suc c

  module _ (first at last z : ℕ) (run : Bool) (here : IsAt steps k c first at last z run) (lines next behind : List ℕ) (leads : List Bool) (st : IsLowState steps n k lines next behind leads) where
    new_is : g.count ≡ z
    new_is = count steps n k h l ∙ sym here.new_is

    pub lines_at : AreLines y z (suc (suc (run_turns steps k))) 1 lines next
    lines_at = subst (λ m. AreLines y m (suc (suc (run_turns steps k))) 1 lines next) (sym here.new_is) st.lines_are

    -- the contour from the turn on
    abbrev pub way : ℕ → ℕ
    way j = g.vertex (c + j)

    pub way_begins : at ≡ way 0
    way_begins = let e : c ≡ c + 0 = omega arith in here.at_is ∙ ap g.vertex e

    pub way_leads : IsWay behind way m
    way_leads j b =
        let w = wide steps n k h l in
        let e : suc (c + j) ≡ c + suc j = omega arith in
        st.linked (c + j) (omega arith) ∙ ap g.vertex e

    pub way_ends : is_marked leads (way m) ≡ true
    way_ends = elim (cases_Bool (is_marked leads (way m))) [
      | inl t ↦ t
      | inr f ↦
          let w = wide steps n k h l in
          let q = st.leads_are.no (c + m) (omega arith) f in
          let q1 = q.1 in
          let q2 = q.2 in
          absurd (omega arith)
    ]

    pub way_older : (j : ℕ) → j ≤ m → way j < z
    way_older j b = let w = wide steps n k h l in omega (arith, (stage steps n k h l).placed (c + j) (omega arith), new_is)

    pub at_older : at < z
    at_older = let w = wide steps n k h l in omega (arith, here.at_is, (stage steps n k h l).placed c (omega arith), new_is)

    pub few : m < z
    few = let w = wide steps n k h l in let f = (stage steps n k h l).few in omega (arith, new_is)

    -- the number of a line behind that of the first that leads
    module _ (u : ℕ) (along : IsFirstAlong leads way m u) where
      abbrev j : ℕ
      j = c + along.place

      all : (i : ℕ) → c ≤ i → i < g.width → (numbers steps n).y (g.vertex i) ≤ (numbers steps n).y (g.vertex j)
      all = let p = along.within in let w = wide steps n k h l in lower_is_greatest g (numbers steps n).y (is_marked leads) c st.leads_are j (omega arith) (omega arith) along.here (λ i a b.
          let e : c + (i - c) ≡ i = omega arith in
          ap (λ v. is_marked leads (g.vertex v)) (sym e) ∙ along.before (i - c) (omega arith))

      number_is : new_y g c y ≡ suc (y u)
      number_is = let p = along.within in let w = wide steps n k h l in new_lower steps k n j h l (omega arith) (omega arith) all ∙ ap (λ v. suc (y v)) (sym along.vertex)

      pub same_at_run : turns_at_run steps k ≡ true → (v : ℕ) → v < suc z → with_new z (λ v. shifted (suc (y u)) (y v)) (suc (y u)) v ≡ y_after g c (turns_at_run steps k) y v
      same_at_run e v b = elim (cases_lt v z) [
        | inl o ↦
            with_new-older z (λ v. shifted (suc (y u)) (y v)) (suc (y u)) v o
            ∙ (ap (λ m. shifted m (y v)) (sym number_is) ∙ sym (y_after-run-older g c (turns_at_run steps k) y v e (omega (arith, o, new_is))))
        | inr o ↦
            let q : v ≡ z = omega arith in
            with_new-new z (λ v. shifted (suc (y u)) (y v)) (suc (y u)) v q ∙ (sym number_is ∙ sym (y_after-run-new g c (turns_at_run steps k) y v e (q ∙ sym new_is)))
      ]

    same_at_rise : turns_at_run steps k ≡ false → (v : ℕ) → v < suc z → with_new z y (y at) v ≡ y_after g c (turns_at_run steps k) y v
    same_at_rise e v b = elim (cases_lt v z) [
      | inl o ↦ with_new-older z y (y at) v o ∙ sym (y_after-rise-older g c (turns_at_run steps k) y v e (omega (arith, o, new_is)))
      | inr o ↦
          let q : v ≡ z = omega arith in
          with_new-new z y (y at) v q ∙ (ap y here.at_is ∙ sym (y_after-rise-new g c (turns_at_run steps k) y v e (q ∙ sym new_is)))
    ]

    module _ (lines' next' behind' : List ℕ) (leads' : List Bool) where
      room : suc z ≡ suc k + 2
      room = omega (arith, here.new_is)

      pub lines_at_rise : turns_at_run steps k ≡ false → AreLines (with_new z y (y at)) (suc z) (suc (suc (run_turns steps k))) 1 lines' next' → AreLines (numbers steps (suc k)).y (suc k + 2) (suc (suc (run_turns steps (suc k)))) 1 lines' next'
      lines_at_rise e =
          AreLines-named (with_new z y (y at)) (numbers steps (suc k)).y (suc z) (suc k + 2) (suc (suc (run_turns steps k))) (suc (suc (run_turns steps (suc k)))) 1 lines' next' room (ap (λ r. suc (suc r)) (sym (cond-false (turns_at_run steps k) (suc (run_turns steps k)) (run_turns steps k) e))) (same_at_rise e)

      pub lines_at_run : turns_at_run steps k ≡ true → (u : ℕ) → IsFirstAlong leads way m u → AreLines (with_new z (λ v. shifted (suc (y u)) (y v)) (suc (y u))) (suc z) (suc (suc (suc (run_turns steps k)))) 1 lines' next' → AreLines (numbers steps (suc k)).y (suc k + 2) (suc (suc (run_turns steps (suc k)))) 1 lines' next'
      lines_at_run e u along =
          AreLines-named (with_new z (λ v. shifted (suc (y u)) (y v)) (suc (y u))) (numbers steps (suc k)).y (suc z) (suc k + 2) (suc (suc (suc (run_turns steps k)))) (suc (suc (run_turns steps (suc k)))) 1 lines' next' room (ap (λ r. suc (suc r)) (sym (cond-true (turns_at_run steps k) (suc (run_turns steps k)) (run_turns steps k) e))) (same_at_run u along e)

      marks : is_marked leads' z ≡ true → (at ≡ first → first ≢ z → is_marked leads' first ≡ false) → ((v : ℕ) → v ≢ z → (at ≢ first) ⊎ (v ≢ first) → is_marked leads' v ≡ is_marked leads v) → AreLowerAfter g s c (is_marked leads) (is_marked leads')
      marks new end others =
          let o = (step steps n k h l).order in
          let w = (step steps n k h l).within in
          let hi = wide steps n k h l in
          let old : (i : ℕ) → i < g.width → g.vertex i ≢ z = λ i b e. omega (arith, (stage steps n k h l).placed i b, e, new_is) in
          record {
            new = ap (is_marked leads') new_is ∙ new;
            end = λ e. ap (is_marked leads') (sym here.first_is) ∙ end (here.at_is ∙ (ap g.vertex e ∙ sym here.first_is)) (λ q. old s.first (omega arith) (sym here.first_is ∙ q));
            others = λ i b ne. others (g.vertex i) (old i b) (elim ne [
              | inl a ↦ inl (λ q. a (same_place g (stage steps n k h l) c s.first (omega arith) (omega arith) (sym here.at_is ∙ (q ∙ here.first_is))))
              | inr a ↦ inr (λ q. a (same_place g (stage steps n k h l) i s.first b (omega arith) (q ∙ here.first_is)))
            ]);
          }

      pub IsLowState-more : AreLines (numbers steps (suc k)).y (suc k + 2) (suc (suc (run_turns steps (suc k)))) 1 lines' next' → z < length behind → behind' ≡ set (set behind z last) first z → is_marked leads' z ≡ true → (at ≡ first → first ≢ z → is_marked leads' first ≡ false) → ((v : ℕ) → v ≢ z → (at ≢ first) ⊎ (v ≢ first) → is_marked leads' v ≡ is_marked leads v) → IsLowState steps n (suc k) lines' next' behind' leads'
      IsLowState-more lines_are size link new end others = record {
        lines_are = lines_are;
        linked = IsLinked-more g s (stage steps n k h l) (step steps n k h l) z new_is behind size behind' (link ∙ (ap (λ a. set (set behind z a) first z) here.last_is ∙ ap (λ a. set (set behind z (g.vertex s.last)) a z) here.first_is)) st.linked;
        leads_are = lower_after g s (labels steps k) (numbers steps n) (is_marked leads) (is_marked leads') (stage steps n k h l) (step steps n k h l) (h.sorted k l) (numbered steps n k h l) (put steps n k h l) (λ e. lower_room steps k n h l e) (marks new end others) st.leads_are;
      }
