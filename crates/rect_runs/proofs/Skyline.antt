-- The right and the upper sides along each contour: stairs.
use Rattle.std.proofs.Common.{◌≡◌, ◌⊎◌, ℕ, zero, suc, ◌+◌, ◌-◌, ◌<◌, ◌≤◌, Bool, true, false, refl, sym, ap, subst, ◌∙◌, inl, inr, arith}
use Rattle.std.proofs.lemmas.Bool.{cases_eq, cases_lt, cases_Bool, both_ways}
use Rattle.contour_runs.specs.Runs.{Step, Stage, vertex_after, after, stage_after, IsStep}
use Rattle.contour_runs.specs.Laws.{IsStage}
use Rattle.contour_runs.proofs.Places.{vertex_after-low, vertex_after-new, vertex_after-high}
use Rattle.contour_runs.proofs.Stages.{IsStage-run, IsRun-less, count-stage_after}
use Rattle.rect_runs.specs.Labels.{labels_after, labels, IsLabelledRun}
use Rattle.rect_runs.specs.Numbers.{Numbers, turn_of}
use Rattle.rect_runs.proofs.Left.{IsNumbered, IsPut}
use Rattle.rect_runs.proofs.Edges.{IsTurn, cases_edge, labels_after-low, labels_after-run, labels_after-rise, labels_after-high}
use Rattle.rect_runs.proofs.Steps.{turn-step}
use Rattle.rect_runs.specs.Boxes.{Boxes}

abbrev pub numbers_of : Boxes → Numbers
numbers_of b = record { x = b.left; y = b.low }

-- Boxes of n + 2 vertices whose sides stand to one another as the steps of a run say, in a grid so wide and up to the last vertex.
pub record IsLaid (steps : ℕ → Step) (n : ℕ) (b : Boxes) (width top : ℕ) : Type 0 where
  pub labelled : IsLabelledRun steps n
  pub some : 0 < n
  pub numbered : (k : ℕ) → k ≤ n → IsNumbered (stage_after steps k) (labels steps k) (numbers_of b)
  pub put : (k : ℕ) → k < n → IsPut (stage_after steps k) (labels steps k) (turn_of steps k) (k + 2) (numbers_of b)
  pub right_is : (k j : ℕ) → k < n → (steps k).first ≤ j → j ≤ turn_of steps k → b.right ((stage_after steps k).vertex j) ≡ b.left (k + 2)
  pub high_is : (k j : ℕ) → k < n → turn_of steps k < j → j ≤ (steps k).last → b.high ((stage_after steps k).vertex j) ≡ b.low (k + 2)
  pub wide : (v : ℕ) → v < n + 2 → b.left v < b.right v
  pub tall : (v : ℕ) → v < n + 2 → b.low v < b.high v
  pub within : (v : ℕ) → v < n + 2 → (b.right v ≤ width) × (b.high v ≤ top)
  pub zeros : (b.left 0 ≡ 0) × (b.left 1 ≡ 0) × (b.low 1 ≡ 0)
  pub closed : (i : ℕ) → suc (suc i) < (stage_after steps n).width → labels steps n i ≡ true
  pub last_rise : (i : ℕ) → suc (suc i) ≡ (stage_after steps n).width → labels steps n i ≡ false
  pub right_end : (i : ℕ) → i < (stage_after steps n).width → (stage_after steps n).width ≤ suc (suc i) → b.right ((stage_after steps n).vertex i) ≡ width
  pub high_end : (i : ℕ) → suc i < (stage_after steps n).width → b.high ((stage_after steps n).vertex i) ≡ top

-- Along a contour right sides do not fall and upper sides do not rise, and two neighbours are beside one another, or one upon the other.
pub record IsStair (steps : ℕ → Step) (b : Boxes) (k : ℕ) : Type 0 where
  pub right : (i : ℕ) → suc i < (stage_after steps k).width → b.right ((stage_after steps k).vertex i) ≤ b.right ((stage_after steps k).vertex (suc i))
  pub high : (i : ℕ) → suc i < (stage_after steps k).width → b.high ((stage_after steps k).vertex (suc i)) ≤ b.high ((stage_after steps k).vertex i)
  pub run : (i : ℕ) → suc i < (stage_after steps k).width → labels steps k i ≡ true → b.low ((stage_after steps k).vertex i) < b.high ((stage_after steps k).vertex (suc i))
  pub rise : (i : ℕ) → suc i < (stage_after steps k).width → labels steps k i ≡ false → b.left ((stage_after steps k).vertex (suc i)) < b.right ((stage_after steps k).vertex i)

-- the new vertex z between its two neighbours on the contour
pub record IsBetween (b : Boxes) (before z behind : ℕ) : Type 0 where
  pub right : b.right z ≤ b.right behind
  pub high : b.high z ≤ b.high before
  pub low : b.low before < b.high z
  pub left : b.left behind < b.right z

-- an edge that is kept by a step, with its place after it
pub record IsKeptEdge (g : Stage) (s : Step) (label : ℕ → Bool) (i : ℕ) : Type 0 where
  pub to : ℕ
  pub within : suc to < (after g s).width
  pub start : vertex_after g s to ≡ g.vertex i
  pub end : vertex_after g s (suc to) ≡ g.vertex (suc i)
  pub label_is : labels_after s label to ≡ label i

pub kept_edge : (g : Stage) (s : Step) (label : ℕ → Bool) (i : ℕ) → IsStep g s → suc i < g.width → (i < s.first) ⊎ (s.last ≤ i) → IsKeptEdge g s label i
kept_edge g s label i step l out =
    elim out [
      | inl a ↦ record { to = i; within = omega arith; start = vertex_after-low g s i (omega arith); end = vertex_after-low g s (suc i) (omega arith); label_is = labels_after-low s label i a }
      | inr a ↦
          let to : ℕ = i + suc (suc s.first) - s.last in
          let e : to + s.last ≡ i + suc (suc s.first) = omega arith in
          record { to = to; within = omega arith; start = vertex_after-high g s to i (omega arith) a e; end = vertex_after-high g s (suc to) (suc i) (omega arith) (omega arith) (omega arith); label_is = labels_after-high s label to i (omega arith) e }
    ]

-- backwards from the last stage
downward : (P : ℕ → Type 0) (k d : ℕ) → P (k + d) → ((m : ℕ) → m < k + d → P (suc m) → P m) → P k
downward P k zero p less = let e : k + 0 ≡ k = omega arith in subst P e p
downward P k (suc d) p less =
    let e : k + suc d ≡ suc (k + d) = omega arith in
    downward P k d (less (k + d) (omega arith) (subst P e p)) (λ m l. less m (omega arith))

module _ (steps : ℕ → Step) (n : ℕ) (b : Boxes) (width top : ℕ) (h : IsLaid steps n b width top) where
  pub stage_at : (k : ℕ) → k ≤ n → IsStage (stage_after steps k)
  stage_at k l = IsStage-run steps k (IsRun-less steps k n l h.labelled.run)

  pub step_at : (k : ℕ) → k < n → IsStep (stage_after steps k) (steps k)
  step_at = h.labelled.run

  pub turn_at : (k : ℕ) → k < n → IsTurn (labels steps k) (steps k) (turn_of steps k)
  turn_at k l = turn-step steps k n h.labelled l

  pub placed_at : (k i : ℕ) → k ≤ n → i < (stage_after steps k).width → (stage_after steps k).vertex i < n + 2
  placed_at k i l m = let p = (stage_at k l).placed i m in let c = count-stage_after steps k in omega arith

  -- the left side behind a run, the lower side before a rise
  pub settled_right : (k i : ℕ) → k ≤ n → suc i < (stage_after steps k).width → labels steps k i ≡ true → b.right ((stage_after steps k).vertex i) ≡ b.left ((stage_after steps k).vertex (suc i))
  settled_right zero i l m e = absurd (both_ways false refl e)
  settled_right (suc k) i l m e =
      let s = steps k in
      let lo = (turn_at k l).low in
      let step = step_at k l in
      elim (cases_edge (stage_after steps k) s (labels steps k) i step m) [
        | inl d ↦
            ap b.right d.start ∙ settled_right k i (omega arith) (omega arith) (sym d.label_is ∙ e) ∙ sym (ap b.left d.end)
        | inr (inl d) ↦ ap b.right d.start ∙ h.right_is k s.first l (omega arith) lo ∙ sym (ap b.left (d.end ∙ (count-stage_after steps k)))
        | inr (inr (inl d)) ↦ absurd (both_ways _ d.label_is e)
        | inr (inr (inr d)) ↦ ap b.right d.start ∙ settled_right k d.from (omega arith) d.within (sym d.label_is ∙ e) ∙ sym (ap b.left d.end)
      ]

  pub settled_high : (k i : ℕ) → k ≤ n → suc i < (stage_after steps k).width → labels steps k i ≡ false → b.high ((stage_after steps k).vertex (suc i)) ≡ b.low ((stage_after steps k).vertex i)
  settled_high zero i l m e =
      let some = h.some in
      let t = turn_at 0 some in
      let c : turn_of steps 0 ≡ i = omega (arith, (step_at 0 some).within) in
      h.high_is 0 (suc i) some (omega arith) (omega arith) ∙ ((h.put 0 some).at_rise refl).1 ∙ ap b.low c
  settled_high (suc k) i l m e =
      let s = steps k in
      let hi = (turn_at k l).high in
      let step = step_at k l in
      elim (cases_edge (stage_after steps k) s (labels steps k) i step m) [
        | inl d ↦
            ap b.high d.end ∙ settled_high k i (omega arith) (omega arith) (sym d.label_is ∙ e) ∙ sym (ap b.low d.start)
        | inr (inl d) ↦ absurd (both_ways _ e d.label_is)
        | inr (inr (inl d)) ↦ ap b.high d.end ∙ h.high_is k s.last l hi (omega arith) ∙ sym (ap b.low (d.start ∙ (count-stage_after steps k)))
        | inr (inr (inr d)) ↦ ap b.high d.end ∙ settled_high k d.from (omega arith) d.within (sym d.label_is ∙ e) ∙ sym (ap b.low d.start)
      ]

  -- the new vertex between its neighbours
  pub between : (k : ℕ) → k < n → IsStair steps b (suc k) → IsBetween b ((stage_after steps k).vertex (steps k).first) (k + 2) ((stage_after steps k).vertex (steps k).last)
  between k l stair =
      let g = stage_after steps k in
      let s = steps k in
      let step = step_at k l in
      let before : vertex_after g s s.first ≡ g.vertex s.first = vertex_after-low g s s.first (omega arith) in
      let new : vertex_after g s (suc s.first) ≡ k + 2 = vertex_after-new g s (suc s.first) refl ∙ (count-stage_after steps k) in
      let behind : vertex_after g s (suc (suc s.first)) ≡ g.vertex s.last = vertex_after-high g s (suc (suc s.first)) s.last (omega arith) (omega arith) (omega arith) in
      record {
        right = omega (arith, ap b.right new, ap b.right behind, stair.right (suc s.first) (omega arith));
        high = omega (arith, ap b.high new, ap b.high before, stair.high s.first (omega arith));
        low = omega (arith, ap b.high new, ap b.low before, stair.run s.first (omega arith) (labels_after-run s (labels steps k) s.first refl));
        left = omega (arith, ap b.right new, ap b.left behind, stair.rise (suc s.first) (omega arith) (labels_after-rise s (labels steps k) (suc s.first) refl));
      }

  stair_end : IsStair steps b n
  stair_end = grind (arith, stage_after, cases_lt, settled_right, placed_at, both_ways)

  module _ (k : ℕ) (l : k < n) (stair : IsStair steps b (suc k)) where
    abbrev g : Stage
    g = stage_after steps k

    abbrev s : Step
    s = steps k

    abbrev c : ℕ
    c = turn_of steps k

    wide_z : b.left (k + 2) < b.right (k + 2)
    wide_z = h.wide (k + 2) (omega arith)

    -- the vertex at the turn ends above the new one's lower side
    pub over_low : (j : ℕ) → s.first ≤ j → j ≤ c → b.low (k + 2) < b.high (g.vertex j)
    over_low j p q =
        let m = between k l stair in
        let t = turn_at k l in
        let w = (step_at k l).within in
        elim (cases_eq j s.first) [
          | inl e ↦ omega (arith, ap (λ j. b.high (g.vertex j)) e)
          | inr ne ↦
              let i : ℕ = j - 1 in
              let e : j ≡ suc i = omega arith in
              let rise = t.rises i (omega arith) (omega arith) in
              omega (arith, ap (λ j. b.high (g.vertex j)) e, settled_high k i (omega arith) (omega arith) rise, (h.put k l).under i (omega arith) rise)
        ]

    stair_right : (i : ℕ) → s.first ≤ i → i < s.last → b.right (g.vertex i) ≤ b.right (g.vertex (suc i))
    stair_right i p q = grind (arith, between, turn_at, step_at, wide_z, cases_lt, settled_right, placed_at, cases_Bool, labels)

    stair_high : (i : ℕ) → s.first ≤ i → i < s.last → b.high (g.vertex (suc i)) ≤ b.high (g.vertex i)
    stair_high i p q = grind (arith, turn_at, step_at, cases_lt, settled_high, placed_at, over_low)

    stair_run : (i : ℕ) → s.first ≤ i → i < s.last → labels steps k i ≡ true → b.low (g.vertex i) < b.high (g.vertex (suc i))
    stair_run i p q e = grind (arith, step_at, cases_lt, both_ways, turn_at, labels)

    stair_rise : (i : ℕ) → s.first ≤ i → i < s.last → labels steps k i ≡ false → b.left (g.vertex (suc i)) < b.right (g.vertex i)
    stair_rise i p q e = grind (arith, cases_lt, both_ways, turn_at, labels)

    where_edge : (i : ℕ) → ((i < s.first) ⊎ (s.last ≤ i)) ⊎ ((s.first ≤ i) × (i < s.last))
    where_edge i = elim (cases_lt i s.first) [ inl a ↦ inl (inl a) | inr a ↦ elim (cases_lt i s.last) [ inl d ↦ inr (a, d) | inr d ↦ inl (inr d) ] ]

    stair_before : IsStair steps b k
    stair_before =
        let step = step_at k l in
        let label = labels steps k in
        record {
          right = λ i m. elim (where_edge i) [
            | inr a ↦ stair_right i a.0 a.1
            | inl a ↦ let d = kept_edge g s label i step m a in omega (arith, ap b.right d.start, ap b.right d.end, stair.right d.to d.within)
          ];
          high = λ i m. elim (where_edge i) [
            | inr a ↦ stair_high i a.0 a.1
            | inl a ↦ let d = kept_edge g s label i step m a in omega (arith, ap b.high d.start, ap b.high d.end, stair.high d.to d.within)
          ];
          run = λ i m e. elim (where_edge i) [
            | inr a ↦ stair_run i a.0 a.1 e
            | inl a ↦ let d = kept_edge g s label i step m a in omega (arith, ap b.low d.start, ap b.high d.end, stair.run d.to d.within (d.label_is ∙ e))
          ];
          rise = λ i m e. elim (where_edge i) [
            | inr a ↦ stair_rise i a.0 a.1 e
            | inl a ↦ let d = kept_edge g s label i step m a in omega (arith, ap b.right d.start, ap b.left d.end, stair.rise d.to d.within (d.label_is ∙ e))
          ];
        }

  pub stair_at : (k : ℕ) → k ≤ n → IsStair steps b k
  stair_at k l = let e : n ≡ k + (n - k) = omega arith in downward (IsStair steps b) k (n - k) (subst (IsStair steps b) e stair_end) (λ m a p. stair_before m (omega arith) p)

  -- along more than one edge
  right_on : (k i d : ℕ) → k ≤ n → i + d < (stage_after steps k).width → b.right ((stage_after steps k).vertex i) ≤ b.right ((stage_after steps k).vertex (i + d))
  right_on k i zero l m = let e : i + 0 ≡ i = omega arith in omega (arith, ap (λ j. b.right ((stage_after steps k).vertex j)) e)
  right_on k i (suc d) l m =
      let e : i + suc d ≡ suc (i + d) = omega arith in
      omega (arith, ap (λ j. b.right ((stage_after steps k).vertex j)) e, right_on k i d l (omega arith), (stair_at k l).right (i + d) (omega arith))

  pub right_le : (k i j : ℕ) → k ≤ n → i ≤ j → j < (stage_after steps k).width → b.right ((stage_after steps k).vertex i) ≤ b.right ((stage_after steps k).vertex j)
  right_le k i j l a m = let e : i + (j - i) ≡ j = omega arith in omega (arith, ap (λ j. b.right ((stage_after steps k).vertex j)) e, right_on k i (j - i) l (omega arith))

  high_on : (k i d : ℕ) → k ≤ n → i + d < (stage_after steps k).width → b.high ((stage_after steps k).vertex (i + d)) ≤ b.high ((stage_after steps k).vertex i)
  high_on k i zero l m = let e : i + 0 ≡ i = omega arith in omega (arith, ap (λ j. b.high ((stage_after steps k).vertex j)) e)
  high_on k i (suc d) l m =
      let e : i + suc d ≡ suc (i + d) = omega arith in
      omega (arith, ap (λ j. b.high ((stage_after steps k).vertex j)) e, high_on k i d l (omega arith), (stair_at k l).high (i + d) (omega arith))

  pub high_le : (k i j : ℕ) → k ≤ n → i ≤ j → j < (stage_after steps k).width → b.high ((stage_after steps k).vertex j) ≤ b.high ((stage_after steps k).vertex i)
  high_le k i j l a m = let e : i + (j - i) ≡ j = omega arith in omega (arith, ap (λ j. b.high ((stage_after steps k).vertex j)) e, high_on k i (j - i) l (omega arith))
