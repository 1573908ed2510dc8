-- The corners of the faces that a step makes.
use Rattle.std.proofs.Common.{◌≡◌, ℕ, suc, ◌-◌, ◌<◌, ◌≤◌, Bool, true, false, leb, sym, ap, ◌∙◌, inl, inr, arith}
use Rattle.std.proofs.lemmas.Bool.{cases_lt, cases_eq, cases_Bool, cond-true, cond-false, le-leb, lt-leb}
use Rattle.contour_runs.specs.Runs.{Step, stage_after, IsCovered}
use Rattle.rect_runs.specs.Labels.{labels, IsLabelledRun}
use Rattle.rect_runs.specs.Numbers.{turn_of}
use Rattle.rect_runs.specs.Corners.{End, run_in, rise_out, run_out, rise_in, next, Follows, at_earlier, at_later, at_older, at_new, AreCorners}
use Rattle.contour_runs.proofs.Stages.{IsStage-run, IsRun-less}
use Rattle.rect_runs.proofs.Edges.{IsTurn}
use Rattle.rect_runs.proofs.Parents.{parents}
use Rattle.rect_runs.proofs.Steps.{turn-step}
use Rattle.std.specs.Prelude.{◌+◌}

-- One of the first n steps puts a vertex to the right of v, so that a run leaves v.
pub record HasRight (steps : ℕ → Step) (n v : ℕ) : Type 0 where
  pub step : ℕ
  pub earlier : step < n
  pub place : ℕ
  pub low : (steps step).first ≤ place
  pub high : place ≤ turn_of steps step
  pub vertex : (stage_after steps step).vertex place ≡ v

-- One of them puts a vertex above v, so that a rise leaves v.
pub record HasUpper (steps : ℕ → Step) (n v : ℕ) : Type 0 where
  pub step : ℕ
  pub earlier : step < n
  pub place : ℕ
  pub low : turn_of steps step < place
  pub high : place ≤ (steps step).last
  pub vertex : (stage_after steps step).vertex place ≡ v

-- Each new vertex has a neighbour to the left and one below. Each inner vertex has one to the right and one above as well. The right vertex lies above the second of the base alone, and to the right of its other earlier neighbours; the top lies to the right of the first alone. The first vertex has no earlier place than the first, the second no other than the last, so that only runs leave the one, and only rises the other.
pub record IsFrameLabelling (steps : ℕ → Step) (n : ℕ) : Type 0 where
  pub entering : (k : ℕ) → k < suc n → ((steps k).first ≤ turn_of steps k) × (turn_of steps k < (steps k).last)
  pub inner : (v : ℕ) → 2 ≤ v → v < n + 1 → HasRight steps (suc n) v × HasUpper steps (suc n) v
  pub right : (k : ℕ) → suc k ≡ n → suc (turn_of steps k) ≡ (steps k).last
  pub top : turn_of steps n ≡ 0
  pub first : (k i : ℕ) → k ≤ n → i < (stage_after steps k).width → (stage_after steps k).vertex i ≡ 0 → i ≡ 0
  pub second : (k i : ℕ) → k ≤ n → i < (stage_after steps k).width → (stage_after steps k).vertex i ≡ 1 → suc i ≡ (stage_after steps k).width

earlier-run : (b : Bool) → b ≡ true → at_earlier b ≡ run_out
unfolding at_earlier
earlier-run b e = cond-true b run_out rise_in e

earlier-rise : (b : Bool) → b ≡ false → at_earlier b ≡ rise_in
unfolding at_earlier
earlier-rise b e = cond-false b run_out rise_in e

later-run : (b : Bool) → b ≡ true → at_later b ≡ run_in
unfolding at_later
later-run b e = cond-true b run_in rise_out e

later-rise : (b : Bool) → b ≡ false → at_later b ≡ rise_out
unfolding at_later
later-rise b e = cond-false b run_in rise_out e

pub older-left : (c j : ℕ) → j ≤ c → at_older c j ≡ run_out
unfolding at_older
older-left c j l = cond-true (leb j c) run_out rise_out (le-leb j c l)

pub older-below : (c j : ℕ) → c < j → at_older c j ≡ rise_out
unfolding at_older
older-below c j l = cond-false (leb j c) run_out rise_out (lt-leb j c l)

pub new-left : (c j : ℕ) → j ≤ c → at_new c j ≡ run_in
unfolding at_new
new-left c j l = cond-true (leb j c) run_in rise_in (le-leb j c l)

pub new-below : (c j : ℕ) → c < j → at_new c j ≡ rise_in
unfolding at_new
new-below c j l = cond-false (leb j c) run_in rise_in (lt-leb j c l)

same : (a b e : End) → a ≡ e → b ≡ e → Follows a b
same a b e p q = inl (p ∙ sym q)

after_it : (a b e : End) → a ≡ e → b ≡ next e → Follows a b
after_it a b e p q = inr (ap next p ∙ sym q)

module _ (label : ℕ → Bool) (s : Step) (c : ℕ) (t : IsTurn label s c) where
  -- a rise is not behind the turn, and only at the turn may a run be
  corners : (j : ℕ) → s.first ≤ j → j < s.last → AreCorners (label j) c j
  corners j l h = elim (cases_lt j c) [
    | inl a ↦ grind (arith, after_it, run_out, older-left, earlier-rise, rise_out, later-rise, same, run_in, new-left)
    | inr a ↦ elim (cases_eq j c) [
      | inl m ↦
          let new : Follows (at_new c (suc j)) (at_new c j) = after_it _ _ rise_in (new-below c (suc j) (omega arith)) (new-left c j (omega arith)) in
          grind (arith, cases_Bool, same, run_out, older-left, earlier-run, after_it, run_in, later-run, older-below, earlier-rise, rise_out, later-rise)
      | inr ne ↦ grind (arith, after_it, rise_out, older-below, earlier-run, run_in, later-run, same, rise_in, new-below)
    ]
  ]

pub corners_follow : (steps : ℕ → Step) (k n j : ℕ) → IsLabelledRun steps n → k < n → (steps k).first ≤ j → j < (steps k).last → AreCorners (labels steps k j) (turn_of steps k) j
corners_follow steps k n j h l = corners (labels steps k) (steps k) (turn_of steps k) (turn-step steps k n h l) j

pub covered_leaves : (steps : ℕ → Step) (k n v : ℕ) → IsLabelledRun steps n → k < n → IsCovered steps k v → HasRight steps n v × HasUpper steps n v
covered_leaves steps k n v h l covered =
    let run = IsRun-less steps k n (omega arith) h.run in
    let stage = IsStage-run steps k run in
    let w = (h.run k l).within in
    let t = turn-step steps k n h l in
    let low = covered.low in
    let high = covered.high in
    let at = covered.vertex in
    let i : ℕ = covered.place - 1 in
    let e : covered.place ≡ suc i = omega arith in
    let at' : (stage_after steps k).vertex (suc i) ≡ v = sym (ap (stage_after steps k).vertex e) ∙ at in
    elim (cases_lt i (turn_of steps k)) [
      | inl a ↦ (
        record { step = k; earlier = l; place = covered.place; low = omega arith; high = omega arith; vertex = at },
        elim ((parents steps k i run (omega arith)).rise (t.rises i (omega arith) a)) [
          | inl base ↦ grind (arith, stage_after, same)
          | inr p ↦
              record { step = p.step; earlier = omega arith; place = (steps p.step).last; low = (turn-step steps p.step n h (omega arith)).high; high = omega arith; vertex = sym p.last ∙ at' }
        ],
      )
      | inr a ↦
          let p = (parents steps k (suc i) run (omega arith)).run (t.runs (suc i) (omega arith) (omega arith)) in
          let m = p.earlier in (
            record { step = p.step; earlier = omega arith; place = (steps p.step).first; low = omega arith; high = (turn-step steps p.step n h (omega arith)).low; vertex = sym p.first ∙ at' },
            record { step = k; earlier = l; place = covered.place; low = omega arith; high = omega arith; vertex = at },
          )
    ]
