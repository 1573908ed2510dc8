-- A step more: the line of the new vertex's left side, the links, and who leads.
use Rattle.std.proofs.Common.{◌≡◌, ◌≢◌, ◌⊎◌, ℕ, suc, ◌+◌, ◌-◌, ◌<◌, ◌≤◌, Bool, true, false, List, length, get_or, set, sym, ap, subst, ◌∙◌, inl, inr, arith}
use Rattle.std.proofs.lemmas.Bool.{cases_lt, cases_Bool, cond-true, cond-false}
use Rattle.contour_runs.specs.Runs.{Step, Stage, stage_after, IsStep}
use Rattle.contour_runs.specs.Laws.{IsStage}
use Rattle.contour_runs.proofs.Stages.{IsStage-run, IsRun-less, count-stage_after}
use Rattle.rect_runs.specs.Labels.{labels, IsLabelledRun}
use Rattle.rect_runs.specs.Numbers.{shifted, with_new, numbers, new_x, x_after, turn_of, turns_at_run, rise_turns}
use Rattle.rect_runs.proofs.Edges.{IsTurn}
use Rattle.rect_runs.proofs.Steps.{with_new-older, with_new-new, x_after-run-older, x_after-run-new, x_after-rise-older, x_after-rise-new, turn-step, numbers_fit, steps_fit}
use Rattle.rect_dual.specs.Lines.{AreLines}
use Rattle.rect_dual.proofs.Lines.{AreLines-same}
use Rattle.rect_runs.proofs.Left.{left_after, left_is_greatest, IsNumbered, IsPut, AreLeftAfter}
use Rattle.rect_runs.proofs.Room.{left_room, new_left}
use Rattle.rect_dual.specs.Ways.{is_marked, IsWay, IsFirstAlong}
use Rattle.rect_dual.specs.States.{IsLeftState}
use Rattle.rect_dual.proofs.Links.{same_place, IsLinkedBack-more}

-- The step k puts z over a row of the contour from `first` to `last`, and `at` stands at this place of the contour.
pub record IsAt (steps : ℕ → Step) (k place first at last z : ℕ) (run : Bool) : Type 0 where
  pub first_is : first ≡ (stage_after steps k).vertex (steps k).first
  pub at_is : at ≡ (stage_after steps k).vertex place
  pub last_is : last ≡ (stage_after steps k).vertex (steps k).last
  pub new_is : z ≡ k + 2
  pub run_is : run ≡ turns_at_run steps k

-- lines by other names of their numbers
pub AreLines-named : (f f' : ℕ → ℕ) (m m' q q' first : ℕ) (lines next : List ℕ) → m ≡ m' → q ≡ q' → ((v : ℕ) → v < m → f v ≡ f' v) → AreLines f m q first lines next → AreLines f' m' q' first lines next
AreLines-named f f' m m' q q' first lines next e d same h =
    subst (λ a. AreLines f' a q' first lines next) e (subst (λ b. AreLines f' m b first lines next) d (AreLines-same f m q first lines next h f' same))

module _ (steps : ℕ → Step) (n k : ℕ) (h : IsLabelledRun steps n) (l : k < n) where
  abbrev g : Stage
  g = stage_after steps k

  abbrev s : Step
  s = steps k

  abbrev c : ℕ
  c = turn_of steps k

  abbrev x : ℕ → ℕ
  x = (numbers steps k).x

  pub stage : IsStage g
  stage = IsStage-run steps k (IsRun-less steps k n (omega arith) h.run)

  pub step : IsStep g s
  step = h.run k l

  pub count : g.count ≡ k + 2
  count = count-stage_after steps k

  pub turns : IsTurn (labels steps k) s c
  turns = turn-step steps k n h l

  pub numbered : IsNumbered g (labels steps k) (numbers steps n)
  numbered = numbers_fit steps k n h (omega arith)

  pub put : IsPut g (labels steps k) c g.count (numbers steps n)
  put = subst (λ z. IsPut g (labels steps k) c z (numbers steps n)) (sym count) (steps_fit steps k n h l)

  pub wide : suc c < g.width
  wide = let t = turns.high in let w = step.within in omega arith

  module _ (first at last z : ℕ) (run : Bool) (here : IsAt steps k (suc c) first at last z run) (lines next before : List ℕ) (leads : List Bool) (st : IsLeftState steps n k lines next before leads) where
    new_is : g.count ≡ z
    new_is = count ∙ sym here.new_is

    pub lines_at : AreLines x z (suc (rise_turns steps k)) 0 lines next
    lines_at = subst (λ m. AreLines x m (suc (rise_turns steps k)) 0 lines next) (sym here.new_is) st.lines_are

    -- the contour from the place behind the turn back to its first vertex
    abbrev pub way : ℕ → ℕ
    way j = g.vertex (suc c - j)

    pub way_begins : at ≡ way 0
    way_begins = let e : suc c ≡ suc c - 0 = omega arith in here.at_is ∙ ap g.vertex e

    pub way_leads : IsWay before way (suc c)
    way_leads j b =
        let w = wide in
        let e : suc c - j ≡ suc (suc c - suc j) = omega arith in
        ap (λ i. get_or before (g.vertex i) 0) e ∙ st.linked (suc c - suc j) (omega arith)

    pub way_ends : is_marked leads (way (suc c)) ≡ true
    way_ends =
        let e : suc c - suc c ≡ 0 = omega arith in
        ap (λ i. is_marked leads (g.vertex i)) e ∙ elim (cases_Bool (is_marked leads (g.vertex 0))) [
          | inl t ↦ t
          | inr f ↦ let q = st.leads_are.no 0 (omega (arith, stage.wide)) f in absurd (omega (arith, q.1))
        ]

    pub way_older : (j : ℕ) → j ≤ suc c → way j < z
    way_older j b = let w = wide in omega (arith, stage.placed (suc c - j) (omega arith), new_is)

    pub at_older : at < z
    at_older = let w = wide in omega (arith, here.at_is, stage.placed (suc c) wide, new_is)

    pub few : suc c < z
    few = let w = wide in let f = stage.few in omega (arith, new_is)

    -- the number of a line behind that of the first that leads
    module _ (u : ℕ) (along : IsFirstAlong leads way (suc c) u) where
      abbrev j : ℕ
      j = suc c - along.place

      u_is : u ≡ g.vertex j
      u_is = along.vertex

      all : (i : ℕ) → i ≤ suc c → (numbers steps n).x (g.vertex i) ≤ (numbers steps n).x (g.vertex j)
      all = let p = along.within in left_is_greatest g (numbers steps n).x (is_marked leads) (suc c) st.leads_are j wide (omega arith) along.here (λ i a b.
          let e : suc c - (suc c - i) ≡ i = omega arith in
          ap (λ v. is_marked leads (g.vertex v)) (sym e) ∙ along.before (suc c - i) (omega arith))

      number_is : new_x g c x ≡ suc (x u)
      number_is = new_left steps k n j h l (omega arith) all ∙ ap (λ v. suc (x v)) (sym u_is)

      pub same_at_rise : turns_at_run steps k ≡ false → (v : ℕ) → v < suc z → with_new z (λ v. shifted (suc (x u)) (x v)) (suc (x u)) v ≡ x_after g c (turns_at_run steps k) x v
      same_at_rise e v b = elim (cases_lt v z) [
        | inl o ↦
            with_new-older z (λ v. shifted (suc (x u)) (x v)) (suc (x u)) v o
            ∙ (ap (λ m. shifted m (x v)) (sym number_is) ∙ sym (x_after-rise-older g c (turns_at_run steps k) x v e (omega (arith, o, new_is))))
        | inr o ↦
            let q : v ≡ z = omega arith in
            with_new-new z (λ v. shifted (suc (x u)) (x v)) (suc (x u)) v q ∙ (sym number_is ∙ sym (x_after-rise-new g c (turns_at_run steps k) x v e (q ∙ sym new_is)))
      ]

    same_at_run : turns_at_run steps k ≡ true → (v : ℕ) → v < suc z → with_new z x (x at) v ≡ x_after g c (turns_at_run steps k) x v
    same_at_run e v b = elim (cases_lt v z) [
      | inl o ↦ with_new-older z x (x at) v o ∙ sym (x_after-run-older g c (turns_at_run steps k) x v e (omega (arith, o, new_is)))
      | inr o ↦
          let q : v ≡ z = omega arith in
          with_new-new z x (x at) v q ∙ (ap x here.at_is ∙ sym (x_after-run-new g c (turns_at_run steps k) x v e (q ∙ sym new_is)))
    ]

    module _ (lines' next' before' : List ℕ) (leads' : List Bool) where
      room : suc z ≡ suc k + 2
      room = omega (arith, here.new_is)

      pub lines_at_run : turns_at_run steps k ≡ true → AreLines (with_new z x (x at)) (suc z) (suc (rise_turns steps k)) 0 lines' next' → AreLines (numbers steps (suc k)).x (suc k + 2) (suc (rise_turns steps (suc k))) 0 lines' next'
      lines_at_run e =
          AreLines-named (with_new z x (x at)) (numbers steps (suc k)).x (suc z) (suc k + 2) (suc (rise_turns steps k)) (suc (rise_turns steps (suc k))) 0 lines' next' room (ap suc (sym (cond-true (turns_at_run steps k) (rise_turns steps k) _ e))) (same_at_run e)

      pub lines_at_rise : turns_at_run steps k ≡ false → (u : ℕ) → IsFirstAlong leads way (suc c) u → AreLines (with_new z (λ v. shifted (suc (x u)) (x v)) (suc (x u))) (suc z) (suc (suc (rise_turns steps k))) 0 lines' next' → AreLines (numbers steps (suc k)).x (suc k + 2) (suc (rise_turns steps (suc k))) 0 lines' next'
      lines_at_rise e u along =
          AreLines-named (with_new z (λ v. shifted (suc (x u)) (x v)) (suc (x u))) (numbers steps (suc k)).x (suc z) (suc k + 2) (suc (suc (rise_turns steps k))) (suc (rise_turns steps (suc k))) 0 lines' next' room (ap suc (sym (cond-false (turns_at_run steps k) (rise_turns steps k) _ e))) (same_at_rise u along e)

      marks : is_marked leads' z ≡ true → (at ≡ last → last ≢ z → is_marked leads' last ≡ false) → ((v : ℕ) → v ≢ z → (at ≢ last) ⊎ (v ≢ last) → is_marked leads' v ≡ is_marked leads v) → AreLeftAfter g s c (is_marked leads) (is_marked leads')
      marks new end others =
          let w = step.within in
          let old : (i : ℕ) → i < g.width → g.vertex i ≢ z = λ i b e. omega (arith, stage.placed i b, e, new_is) in
          record {
            new = ap (is_marked leads') new_is ∙ new;
            end = λ e. ap (is_marked leads') (sym here.last_is) ∙ end (here.at_is ∙ (ap g.vertex e ∙ sym here.last_is)) (λ q. old s.last w (sym here.last_is ∙ q));
            others = λ i b ne. others (g.vertex i) (old i b) (elim ne [
              | inl a ↦ inl (λ q. a (same_place g stage (suc c) s.last wide w (sym here.at_is ∙ (q ∙ here.last_is))))
              | inr a ↦ inr (λ q. a (same_place g stage i s.last b w (q ∙ here.last_is)))
            ]);
          }

      pub IsLeftState-more : AreLines (numbers steps (suc k)).x (suc k + 2) (suc (rise_turns steps (suc k))) 0 lines' next' → z < length before → before' ≡ set (set before z first) last z → is_marked leads' z ≡ true → (at ≡ last → last ≢ z → is_marked leads' last ≡ false) → ((v : ℕ) → v ≢ z → (at ≢ last) ⊎ (v ≢ last) → is_marked leads' v ≡ is_marked leads v) → IsLeftState steps n (suc k) lines' next' before' leads'
      IsLeftState-more lines_are size link new end others = record {
        lines_are = lines_are;
        linked = IsLinkedBack-more g s stage step z new_is before size before' (link ∙ (ap (λ a. set (set before z a) last z) here.first_is ∙ ap (λ a. set (set before z (g.vertex s.first)) a z) here.last_is)) st.linked;
        leads_are = left_after g s (labels steps k) (numbers steps n) (is_marked leads) (is_marked leads') stage step (h.sorted k l) numbered put (λ e. left_room steps k n h l e) (marks new end others) st.leads_are;
      }
