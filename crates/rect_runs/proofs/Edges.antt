-- Labels along a run, and the turn of a step.
use Rattle.std.proofs.Common.{◌≡◌, ◌⊎◌, ℕ, zero, suc, ◌+◌, ◌-◌, ◌<◌, ◌≤◌, Bool, true, false, eqb, ltb, sym, ap, subst, ◌∙◌, inl, inr, arith, eq-eqb, ne_eqb}
use Rattle.std.proofs.lemmas.Bool.{cases_eq, cases_lt, cases_Bool, cond-true, cond-false, both_ways, lt-ltb, le-ltb}
use Rattle.contour_runs.specs.Runs.{Step, Stage, vertex_after, after, IsStep}
use Rattle.contour_runs.proofs.Places.{vertex_after-low, vertex_after-new, vertex_after-high}
use Rattle.rect_runs.specs.Labels.{labels_after, first_run, turn, IsSorted}

-- the labels after a step: low, the run, the rise, high
pub labels_after-low : (s : Step) (label : ℕ → Bool) (i : ℕ) → i < s.first → labels_after s label i ≡ label i
unfolding labels_after
labels_after-low s label i l = cond-true (ltb i s.first) (label i) _ (lt-ltb i s.first l)

pub labels_after-run : (s : Step) (label : ℕ → Bool) (i : ℕ) → i ≡ s.first → labels_after s label i ≡ true
unfolding labels_after
labels_after-run s label i e = cond-false (ltb i s.first) (label i) _ (le-ltb i s.first (omega arith)) ∙ cond-true (eqb i s.first) true _ (eq-eqb i s.first e)

pub labels_after-rise : (s : Step) (label : ℕ → Bool) (i : ℕ) → i ≡ suc s.first → labels_after s label i ≡ false
unfolding labels_after
labels_after-rise s label i e = cond-false (ltb i s.first) (label i) _ (le-ltb i s.first (omega arith)) ∙ cond-false (eqb i s.first) true _ (ne_eqb i s.first (omega arith)) ∙ cond-true (eqb i (suc s.first)) false _ (eq-eqb i (suc s.first) e)

pub labels_after-high : (s : Step) (label : ℕ → Bool) (i j : ℕ) → suc s.first < i → i + s.last ≡ j + suc (suc s.first) → labels_after s label i ≡ label j
unfolding labels_after
labels_after-high s label i j l e =
    let n : i + s.last - (s.first + 2) ≡ j = omega arith in
    cond-false (ltb i s.first) (label i) _ (le-ltb i s.first (omega arith)) ∙ cond-false (eqb i s.first) true _ (ne_eqb i s.first (omega arith)) ∙ cond-false (eqb i (suc s.first)) false _ (ne_eqb i (suc s.first) (omega arith)) ∙ ap label n

-- where an edge of the new contour comes from
pub record IsLowEdge (g : Stage) (s : Step) (label : ℕ → Bool) (i : ℕ) : Type 0 where
  pub low : i < s.first
  pub label_is : labels_after s label i ≡ label i
  pub start : vertex_after g s i ≡ g.vertex i
  pub end : vertex_after g s (suc i) ≡ g.vertex (suc i)

pub record IsNewRun (g : Stage) (s : Step) (label : ℕ → Bool) (i : ℕ) : Type 0 where
  pub at : i ≡ s.first
  pub label_is : labels_after s label i ≡ true
  pub start : vertex_after g s i ≡ g.vertex s.first
  pub end : vertex_after g s (suc i) ≡ g.count

pub record IsNewRise (g : Stage) (s : Step) (label : ℕ → Bool) (i : ℕ) : Type 0 where
  pub at : i ≡ suc s.first
  pub label_is : labels_after s label i ≡ false
  pub start : vertex_after g s i ≡ g.count
  pub end : vertex_after g s (suc i) ≡ g.vertex s.last

pub record IsHighEdge (g : Stage) (s : Step) (label : ℕ → Bool) (i : ℕ) : Type 0 where
  pub from : ℕ
  pub high : s.last ≤ from
  pub within : suc from < g.width
  pub to : i + s.last ≡ from + suc (suc s.first)
  pub label_is : labels_after s label i ≡ label from
  pub start : vertex_after g s i ≡ g.vertex from
  pub end : vertex_after g s (suc i) ≡ g.vertex (suc from)

pub cases_edge : (g : Stage) (s : Step) (label : ℕ → Bool) (i : ℕ) → IsStep g s → suc i < (after g s).width → IsLowEdge g s label i ⊎ (IsNewRun g s label i ⊎ (IsNewRise g s label i ⊎ IsHighEdge g s label i))
cases_edge g s label i h l =
    elim (cases_lt i s.first) [
      | inl a ↦ inl record { low = a; label_is = labels_after-low s label i a; start = vertex_after-low g s i (omega arith); end = vertex_after-low g s (suc i) (omega arith) }
      | inr a ↦ elim (cases_eq i s.first) [
        | inl e ↦ inr (inl record { at = e; label_is = labels_after-run s label i e; start = vertex_after-low g s i (omega arith) ∙ ap g.vertex e; end = vertex_after-new g s (suc i) (omega arith) })
        | inr ne ↦ elim (cases_eq i (suc s.first)) [
          | inl e ↦ inr (inr (inl record { at = e; label_is = labels_after-rise s label i e; start = vertex_after-new g s i e; end = vertex_after-high g s (suc i) s.last (omega arith) (omega arith) (omega arith) }))
          | inr nf ↦
              let from : ℕ = i + s.last - (s.first + 2) in
              let to : i + s.last ≡ from + suc (suc s.first) = omega arith in
              inr (inr (inr record { from = from; high = omega arith; within = omega arith; to = to; label_is = labels_after-high s label i from (omega arith) to; start = vertex_after-high g s i from (omega arith) (omega arith) to; end = vertex_after-high g s (suc i) (suc from) (omega arith) (omega arith) (omega arith) }))
        ]
      ]
    ]

-- the first run among d edges from i on
pub record IsFirstRun (label : ℕ → Bool) (i d c : ℕ) : Type 0 where
  pub low : i ≤ c
  pub high : c ≤ i + d
  pub rises : (j : ℕ) → i ≤ j → j < c → label j ≡ false
  pub end : (c ≡ i + d) ⊎ (label c ≡ true)

pub IsFirstRun-first_run : (label : ℕ → Bool) (i d : ℕ) → IsFirstRun label i d (first_run label i d)
IsFirstRun-first_run label i zero = record { low = omega arith; high = omega arith; rises = λ j a b. absurd (omega arith); end = inl (omega arith) }
IsFirstRun-first_run label i (suc d) = elim (cases_Bool (label i)) [
  | inl e ↦ subst (IsFirstRun label i (suc d)) (sym (cond-true (label i) i (first_run label (suc i) d) e)) record { low = omega arith; high = omega arith; rises = λ j a b. absurd (omega arith); end = inr e }
  | inr e ↦
      let h = IsFirstRun-first_run label (suc i) d in
      subst (IsFirstRun label i (suc d)) (sym (cond-false (label i) i (first_run label (suc i) d) e))
      record {
        low = omega arith;
        high = omega arith;
        rises = λ j a b. elim (cases_eq j i) [ inl f ↦ ap label f ∙ e | inr ne ↦ h.rises j (omega arith) b ];
        end = elim h.end [ inl f ↦ inl (omega arith) | inr f ↦ inr f ];
      }
]

-- what a turn is: up to it there are rises, from it on runs
pub record IsTurn (label : ℕ → Bool) (s : Step) (c : ℕ) : Type 0 where
  pub low : s.first ≤ c
  pub high : c < s.last
  pub rises : (j : ℕ) → s.first ≤ j → j < c → label j ≡ false
  pub last : label c ≡ false → suc c ≡ s.last
  pub runs : (j : ℕ) → c < j → j < s.last → label j ≡ true

-- a turn is within its step, and the step ends within the contour
pub IsTurn-within : (g : Stage) (s : Step) (label : ℕ → Bool) (c : ℕ) → IsStep g s → IsTurn label s c → (s.first ≤ c) × (c < s.last) × (s.last < g.width)
IsTurn-within g s label c step turns = (turns.low, turns.high, step.within)

runs_on : (label : ℕ → Bool) (s : Step) (c d : ℕ) → IsSorted label s → s.first ≤ c → c + d < s.last → label c ≡ true → label (c + d) ≡ true
runs_on label s c zero h l m e = let f : c + 0 ≡ c = omega arith in ap label f ∙ e
runs_on label s c (suc d) h l m e =
    let f : c + suc d ≡ suc (c + d) = omega arith in
    ap label f ∙ h (c + d) (omega arith) (omega arith) (runs_on label s c d h l (omega arith) e)

pub IsTurn-turn : (label : ℕ → Bool) (s : Step) → s.first < s.last → IsSorted label s → IsTurn label s (turn label s)
IsTurn-turn label s o h =
    let f = IsFirstRun-first_run label s.first (s.last - suc s.first) in
    let c = turn label s in
    let lo = f.low in
    record {
      low = lo;
      high = omega arith;
      rises = f.rises;
      last = λ e. elim f.end [ inl g ↦ omega arith | inr g ↦ absurd (both_ways (label c) e g) ];
      runs = λ j a b. elim f.end [
        | inl g ↦ absurd (omega arith)
        | inr g ↦ let k : c + (j - c) ≡ j = omega arith in sym (ap label k) ∙ runs_on label s c (j - c) h lo (omega arith) g
      ];
    }
