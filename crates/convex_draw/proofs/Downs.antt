-- Adding differences up, from the last step down.
use Rattle.std.proofs.Common.{◌≡◌, ◌≢◌, ◌⊎◌, ℕ, suc, ◌+◌, ◌-◌, ◌<◌, ◌≤◌, List, length, get_or, sym, ap, ◌∙◌, subst, inl, inr, arith}
use Rattle.std.proofs.lemmas.Bool.{cases_lt, cases_eq}
use Rattle.map_theory.specs.Maps.{list_of}
use Rattle.contour_runs.specs.Runs.{Stage}
use Rattle.contour_runs.specs.Laws.{IsStage}
use Rattle.contour_runs.proofs.Upward.{upward}
use Rattle.contour_runs.specs.Wood.{Coordinates}
use Rattle.contour_runs.specs.FaceRuns.{Step, moved, stage_after, faces_made, IsStep}
use Rattle.contour_runs.proofs.FaceRunsPlaces.{order, place_after-older}
use Rattle.contour_runs.proofs.FaceRunsStages.{IsStage-run, IsRun-less, count-le, moved-within}
use Rattle.convex_counts.specs.Counts.{face_counts, two_gain}
use Rattle.convex_counts.proofs.Gains.{one_after-older, two_after-older}
use Rattle.convex_counts.proofs.Steps.{IsFalling-run}
use Rattle.convex_laws.specs.declared.convex_rows.rows.ConvexRows.{ConvexRows}
use Rattle.convex_laws.specs.Rows.{IsRow}
use Rattle.convex_draw.specs.declared.convex_points.spots.Spot.{Spot}
use Rattle.convex_draw.specs.Spots.{IsUnder, AreKept, spot_of}
use Rattle.convex_draw.specs.Runs.{IsCountRun}
use Rattle.convex_draw.specs.Sums.{IsLast, IsSum, AreWalked, IsFree, IsAdded, AreAdded, IsGone, AreDone}
use Rattle.convex_draw.proofs.Gone.{IsGone-run, IsGone-covered, within_row}
use Rattle.convex_draw.proofs.RunSpots.{IsUnder-unwritten}

-- vertices of one place keep their differences
pub record IsTogether (steps : ℕ → Step) (m k u v : ℕ) : Type 0 where
  pub place : (stage_after steps k).place u ≡ (stage_after steps k).place v
  pub one : (face_counts steps k).one u + (face_counts steps m).one v ≡ (face_counts steps m).one u + (face_counts steps k).one v
  pub two : (face_counts steps k).two u + (face_counts steps m).two v ≡ (face_counts steps m).two u + (face_counts steps k).two v

pub together : (steps : ℕ → Step) (m n u v : ℕ) → m ≤ n → u < (stage_after steps m).count → v < (stage_after steps m).count → (stage_after steps m).place u ≡ (stage_after steps m).place v → IsTogether steps m n u v
together steps m n u v l a b e =
    upward (λ k. IsTogether steps m k u v) m n l record { place = e; one = omega arith; two = omega arith }
    (λ k low high t.
    let g = stage_after steps k in
    let s = steps k in
    let at = face_counts steps k in
    let c = count-le steps m k low in
    let gain = ap (two_gain s) t.place in
    record {
      place = place_after-older g s u (omega arith) ∙ ap (moved s) t.place ∙ sym (place_after-older g s v (omega arith));
      one = omega (arith, t.one, one_after-older g s at u (omega arith), one_after-older g s at v (omega arith), gain);
      two = omega (arith, t.two, two_after-older g s at u (omega arith), two_after-older g s at v (omega arith), gain);
    })

-- a vertex of the contour is there
pub not_gone : (g : Stage) → IsStage g → (i : ℕ) → i < g.width → ¬ IsGone g (g.vertex i)
not_gone g stage i l gone = gone.1 (ap g.vertex (stage.own i l))

pub cases_gone : (g : Stage) (v : ℕ) → IsGone g v ⊎ ¬ IsGone g v
cases_gone g v = elim (cases_lt v g.count) [
  | inr new ↦ inr (λ gone. let l = gone.0 in absurd (omega arith))
  | inl older ↦ elim (cases_eq (g.vertex (g.place v)) v) [ inl e ↦ inr (λ gone. gone.1 e) | inr ne ↦ inl (older, ne) ]
]

pub IsSum-same : (at : Coordinates) (name : ℕ → ℕ) (old now : List Spot) (r : ℕ) → spot_of now (name r) ≡ spot_of old (name r) → IsSum at name old r → IsSum at name now r
IsSum-same at name old now r e h = record { one = ap (λ (x : Spot). x.one) e ∙ h.one; two = ap (λ (x : Spot). x.two) e ∙ h.two }

module _ (steps : ℕ → Step) (name : ℕ → ℕ) (rows : ConvexRows) (count : ℕ) (h : IsCountRun steps name rows count) where
  abbrev n : ℕ
  n = length rows.rows

  same_rank : (r q : ℕ) → r < count → q < count → name r ≡ name q → r ≡ q
  same_rank = h.named.one

  -- where the last contour is walked
  pub AreDone-walked : (width : ℕ) (old now : List Spot) → length old ≡ count → length now ≡ length old → AreKept steps name n width old → AreWalked (stage_after steps n) (face_counts steps n) name 0 old now → AreDone steps name n n now
  AreDone-walked width old now size size' kept walked =
      let stage = IsStage-run steps n h.run in
      let g = stage_after steps n in
      let all = h.all in
      record {
        done = λ r l here. elim (cases_eq (g.vertex (g.place r)) r) [
          | inl e ↦ subst (λ r. IsSum (face_counts steps n) name now r) e (walked.done (g.place r) (omega arith) (stage.within r (omega arith)))
          | inr ne ↦ absurd (here (omega arith, ne))
        ];
        under = λ l i a b c.
            let v : ℕ = (stage_after steps l).vertex i in
            let gone = IsGone-run steps l n i h.run a b c in
            let older = gone.0 in
            IsUnder-unwritten (face_counts steps (suc l)) name old now v ((stage_after steps (suc l)).vertex (moved (steps l) i))
            (walked.others (name v) (λ x lo hi e. let o = stage.placed x hi in let d = same_rank (g.vertex x) v (omega arith) (omega arith) e in not_gone g stage x hi (subst (IsGone g) (sym d) gone)))
            (kept.under l i a b c);
      }

  -- what is asked of the last contour
  pub IsLast-kept : (width s : ℕ) (old : List Spot) → length old ≡ count → name 1 ≡ s → AreKept steps name n width old → IsLast (stage_after steps n) (face_counts steps n) name old s (faces_made steps n) width
  IsLast-kept width s old size e kept =
      let all = h.all in
      record {
        stage = IsStage-run steps n h.run;
        falling = IsFalling-run steps n h.run;
        few = h.few;
        count = omega arith;
        named = record { below = λ r l. let b = h.named.below r (omega arith) in omega arith; one = λ r q l m. same_rank r q (omega arith) (omega arith) };
        gaps = kept.gaps;
        wide = sym kept.wide;
        end = e;
      }

  module _ (k j : ℕ) (at_k : k + suc j ≡ n) (old : List Spot) (size : length old ≡ count) (before : AreDone steps name n (suc k) old) where
    abbrev g : Stage
    g = stage_after steps k

    abbrev next : Stage
    next = stage_after steps (suc k)

    abbrev s : Step
    s = steps k

    abbrev row : List ℕ
    row = list_of rows.rows j

    abbrev fin : Coordinates
    fin = face_counts steps n

    stage : IsStage g
    stage = IsStage-run steps k (IsRun-less steps k n (omega arith) h.run)

    stage' : IsStage next
    stage' = IsStage-run steps (suc k) (IsRun-less steps (suc k) n (omega arith) h.run)

    step : IsStep g s
    step = h.run k (omega arith)

    is_row : IsRow row g s name
    is_row = h.rows_are.row k j at_k

    fewer : next.count ≤ count
    fewer = let a = h.all in let b = count-le steps (suc k) n (omega arith) in omega arith

    grown : g.count ≤ next.count
    grown = count-le steps k (suc k) (omega arith)

    older : (i : ℕ) → i ≤ s.last → g.vertex i < g.count
    older i l = let w = step.within in stage.placed i (omega arith)

    entry : (i : ℕ) → i < length row → get_or row i 0 ≡ name (g.vertex (s.first + i))
    entry i l = is_row.each i l

    -- a vertex of the contour before, by its place
    same_place : (i x : ℕ) → i ≤ s.last → x ≤ s.last → name (g.vertex i) ≡ name (g.vertex x) → i ≡ x
    same_place i x l m e =
        let w = step.within in
        let a = older i l in
        let b = older x m in
        let f = fewer in
        let r = grown in
        sym (stage.own i (omega arith)) ∙ ap g.place (same_rank (g.vertex i) (g.vertex x) (omega arith) (omega arith) e) ∙ stage.own x (omega arith)

    module _ (i : ℕ) (low : s.first < i) (high : i < s.last) where
      abbrev v : ℕ
      v = g.vertex i

      abbrev c : ℕ
      c = next.vertex (moved s i)

      moved_in : moved s i < next.width
      moved_in = let w = step.within in moved-within g s stage step i (omega arith)

      c_in : c < next.count
      c_in = stage'.placed (moved s i) moved_in

      v_in : v < g.count
      v_in = older i (omega arith)

      under : IsUnder (face_counts steps (suc k)) name old v c
      under = before.under k i (omega arith) low high

      c_done : IsSum fin name old c
      c_done = let a = c_in in let f = fewer in before.done c (omega arith) (not_gone next stage' (moved s i) moved_in)

      one_place : next.place v ≡ next.place c
      one_place = let w = step.within in place_after-older g s v v_in ∙ ap (moved s) (stage.own i (omega arith)) ∙ sym (stage'.own (moved s i) moved_in)

      -- both added are what is looked for
      sums : ((spot_of old (name v)).one + (spot_of old (spot_of old (name v)).over).one ≡ fin.one v) × ((spot_of old (name v)).two + (spot_of old (spot_of old (name v)).over).two ≡ fin.two v)
      sums =
          let a = v_in in
          let r = grown in
          let t = together steps (suc k) n v c (omega arith) (omega arith) c_in one_place in
          let u = under in
          let d = c_done in
          let e : spot_of old (spot_of old (name v)).over ≡ spot_of old (name c) = ap (spot_of old) u.over in
          (omega (arith, t.one, u.one, d.one, ap (λ (x : Spot). x.one) e), omega (arith, t.two, u.two, d.two, ap (λ (x : Spot). x.two) e))

      over_in : (spot_of old (name v)).over < length old
      over_in = let a = c_in in let f = fewer in let b = h.named.below c (omega arith) in let e = under.over in omega arith

      over_outside : (x : ℕ) → s.first < x → x < s.last → (spot_of old (name v)).over ≢ name (g.vertex x)
      over_outside x a b e =
          let l = c_in in
          let f = fewer in
          let o = older x (omega arith) in
          let r = grown in
          let d = same_rank c (g.vertex x) (omega arith) (omega arith) (sym under.over ∙ e) in
          not_gone next stage' (moved s i) moved_in (subst (IsGone next) (sym d) (IsGone-covered g s stage step x a b))

      sums_small : (fin.one v < 1048576) × (fin.two v < 1048576)
      sums_small =
          let a = v_in in
          let m = count-le steps k n (omega arith) in
          let f = (IsFalling-run steps n h.run).sums v (omega arith) in
          let few = h.few in
          (omega arith, omega arith)

    pub IsFree-row : IsFree row old
    IsFree-row =
        let o = order g s step in
        let long = is_row.long in
        let f = fewer in
        let r = grown in
        record {
          some = omega arith;
          within = λ i l. let a = older (s.first + i) (omega arith) in let b = h.named.below (g.vertex (s.first + i)) (omega arith) in omega (arith, entry i l);
          distinct = λ i x l m e. let d = same_place (s.first + i) (s.first + x) (omega arith) (omega arith) (sym (entry i (omega arith)) ∙ e ∙ entry x m) in absurd (omega arith);
          under = λ i a b. subst (λ u. (spot_of old u).over < length old) (sym (entry i (omega arith))) (over_in (s.first + i) (omega arith) (omega arith));
          outside = λ i x a b a' b' e. over_outside (s.first + i) (omega arith) (omega arith) (s.first + x) (omega arith) (omega arith) (ap (λ u. (spot_of old u).over) (sym (entry i (omega arith))) ∙ e ∙ entry x (omega arith));
          small = λ i a b.
              let y = sums (s.first + i) (omega arith) (omega arith) in
              let z = sums_small (s.first + i) (omega arith) (omega arith) in
              subst (λ u. ((spot_of old u).one + (spot_of old (spot_of old u).over).one < 1048576) × ((spot_of old u).two + (spot_of old (spot_of old u).over).two < 1048576)) (sym (entry i (omega arith))) (omega arith, omega arith);
        }

    pub AreDone-less : (now : List Spot) → length now ≡ length old → AreAdded row (length row - 1) old now → AreDone steps name n k now
    AreDone-less now same added =
        let o = order g s step in
        let long = is_row.long in
        let f = fewer in
        let grow = grown in
        -- what is on the contour after the step, or still to come, is not written
        let apart : (r : ℕ) → r < count → ¬ IsGone next r → spot_of now (name r) ≡ spot_of old (name r) = λ r l here.
        added.others (name r)
        (λ i a b e.
        let m = older (s.first + i) (omega arith) in
        let d = same_rank (g.vertex (s.first + i)) r (omega arith) l (sym (entry i (omega arith)) ∙ e) in
        here (subst (IsGone next) d (IsGone-covered g s stage step (s.first + i) (omega arith) (omega arith)))) in
        record {
          done = λ r l here. elim (cases_gone next r) [
            | inr there ↦ IsSum-same fin name old now r (apart r (omega arith) there) (before.done r (omega arith) there)
            | inl gone ↦
                let w = within_row g s stage step r here gone in
                let a = w.low in
                let b = w.high in
                let i : ℕ = w.place - s.first in
                let e : s.first + i ≡ w.place = omega arith in
                let u : get_or row i 0 ≡ name (g.vertex w.place) = entry i (omega arith) ∙ ap (λ x. name (g.vertex x)) e in
                let y = sums w.place a b in
                let z = subst (λ u. IsAdded u old now) u (added.added i (omega arith) (omega arith)) in
                subst (λ r. IsSum fin name now r) w.vertex record { one = z.one ∙ y.0; two = z.two ∙ y.1 }
          ];
          under = λ l i a b c.
              let v : ℕ = (stage_after steps l).vertex i in
              let gone = IsGone-run steps l k i (IsRun-less steps k n (omega arith) h.run) a b c in
              let was = gone.0 in
              IsUnder-unwritten (face_counts steps (suc l)) name old now v ((stage_after steps (suc l)).vertex (moved (steps l) i))
              (added.others (name v)
              (λ x lo hi e.
              let w = step.within in
              let m = older (s.first + x) (omega arith) in
              let d = same_rank (g.vertex (s.first + x)) v (omega arith) (omega arith) (sym (entry x (omega arith)) ∙ e) in
              not_gone g stage (s.first + x) (omega arith) (subst (IsGone g) (sym d) gone)))
              (before.under l i (omega arith) b c);
        }

  -- in the end all is known
  pub all_done : (now : List Spot) → length now ≡ count → AreDone steps name n 0 now → (r : ℕ) → r < count → IsSum (face_counts steps n) name now r
  all_done now size done r l = done.done r (omega arith) (λ gone. gone.1 (omega arith))
