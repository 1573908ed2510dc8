-- No two faces that a run makes have a dart in common.
use Rattle.std.specs.Prelude.{nat_le, if◌then◌else◌}
use Rattle.std.proofs.Common.{◌≡◌, ◌⊎◌, ℕ, suc, ◌+◌, ◌-◌, ◌<◌, ◌≤◌, sym, ap, ◌∙◌, subst, inl, inr, arith}
use Rattle.std.proofs.lemmas.Bool.{cases_order}
use Rattle.contour_runs.specs.Runs.{Stage}
use Rattle.contour_runs.specs.Laws.{IsStage}
use Rattle.contour_runs.proofs.Upward.{upward}
use Rattle.contour_runs.specs.FaceRuns.{Step, after, stage_after, IsStep, IsRun, IsAlong, IsUp, IsAcross, IsDown, IsDartOf}
use Rattle.contour_runs.specs.FaceRunsLaws.{GoesAlong}
use Rattle.contour_runs.proofs.FaceRunsPlaces.{cut-lt, cut-le, cut-first, cut-last, order, vertex_after-low, vertex_after-new, vertex_after-high}
use Rattle.contour_runs.proofs.FaceRunsStages.{IsStage-run, IsRun-less, count-le}

-- how many vertices face i has, and which: those of the contour from cut to cut, and then the new ones, the last first
abbrev pub face_length : Step → ℕ → ℕ
face_length s i = s.cut (suc i) + 1 - s.cut i + s.vertices

unfoldable pub face_vertex : Stage → Step → ℕ → ℕ → ℕ
face_vertex g s i r = if nat_le (s.cut i + r) (s.cut (suc i)) then g.vertex (s.cut i + r) else g.count + face_length s i - suc r

-- it went along the contour before the step, at one side of it
pub record IsBeside (g : Stage) (s : Step) (x y : ℕ) : Type 0 where
  pub place : ℕ
  pub along : GoesAlong g x y place
  pub outside : (place < s.first) ⊎ (s.last ≤ place)

-- it is new: up to the first new vertex, between two of them, or on from the last
pub record IsUpward (g : Stage) (s : Step) (x y : ℕ) : Type 0 where
  pub tail : x ≡ g.vertex s.first
  pub head : y ≡ g.count

pub record IsOnward (g : Stage) (s : Step) (x y : ℕ) : Type 0 where
  pub next : suc x ≡ y
  pub new : g.count ≤ x

pub record IsDownward (g : Stage) (s : Step) (x y : ℕ) : Type 0 where
  pub tail : suc x ≡ g.count + s.vertices
  pub head : y ≡ g.vertex s.last

-- which of its ends are new
pub record HasKind (g : Stage) (s : Step) (i x y : ℕ) : Type 0 where
  pub along : x < g.count → y < g.count → IsAlong g s i x y
  pub up : x < g.count → g.count ≤ y → IsUp g s i x y
  pub across : g.count ≤ x → g.count ≤ y → IsAcross g s i x y
  pub down : g.count ≤ x → y < g.count → IsDown g s i x y

module _ (g : Stage) (s : Step) (h : IsStage g) (step : IsStep g s) where
  -- what goes along the contour after a step went along it before, or is new
  pub cases_along : (x y i : ℕ) → GoesAlong (after g s) x y i → IsBeside g s x y ⊎ (IsUpward g s x y ⊎ (IsOnward g s x y ⊎ IsDownward g s x y))
  cases_along x y i a =
      let o = order g s step in
      elim (cases_order i s.first) [
        | inl e ↦
            let n = vertex_after-new g s (suc i) (omega arith) (omega arith) in
            inr (inl record { tail = sym a.tail ∙ vertex_after-low g s i (omega arith) ∙ ap g.vertex e; head = omega arith })
        | inr (inl below) ↦ grind (arith, vertex_after-low)
        | inr (inr above) ↦ elim (cases_order i (s.first + s.vertices)) [
          | inl e ↦
              let n = vertex_after-new g s i above (omega arith) in
              inr (inr (inr record { tail = omega arith; head = sym a.head ∙ vertex_after-high g s (suc i) s.last (omega arith) (omega arith) }))
          | inr (inl below) ↦ grind (arith, vertex_after-new)
          | inr (inr high) ↦
              let j : ℕ = i + s.last - (s.first + s.vertices + 1) in
              inl record {
                place = j;
                along = record {
                  within = omega arith;
                  tail = sym (vertex_after-high g s i j (omega arith) (omega arith)) ∙ a.tail;
                  head = sym (vertex_after-high g s (suc i) (suc j) (omega arith) (omega arith)) ∙ a.head;
                };
                outside = inr (omega arith);
              }
        ]
      ]

  -- one vertex has one place
  pub one_place : (i j : ℕ) → i < g.width → j < g.width → g.vertex i ≡ g.vertex j → i ≡ j
  one_place i j l m e = sym (h.own i l) ∙ ap g.place e ∙ h.own j m

  -- the vertices at the cuts are placed
  pub cut_placed : (i : ℕ) → i ≤ s.faces → (s.cut i < g.width) × (g.vertex (s.cut i) < g.count)
  cut_placed i l = let a = cut-last g s step i l in let w = step.within in let m : s.cut i < g.width = omega arith in (m, h.placed (s.cut i) m)

  -- where the ends of a dart of a face are
  pub along_placed : (i x y : ℕ) → i < s.faces → (a : IsAlong g s i x y) → (suc a.place < g.width) × (x < g.count) × (y < g.count) × (s.first ≤ a.place) × (a.place < s.last)
  along_placed i x y l a =
      let lo = cut-first g s step i (omega arith) in
      let hi = cut-last g s step (suc i) l in
      let p = h.placed a.place (omega arith) in
      let q = h.placed (suc a.place) (omega arith) in
      (omega arith, omega arith, omega arith, omega arith, omega arith)

  pub up_placed : (i x y : ℕ) → i < s.faces → IsUp g s i x y → (x < g.count) × (g.count ≤ y) × (y < g.count + s.vertices)
  up_placed i x y l a = let p = (cut_placed (suc i) l).1 in let t = a.tail in let u = a.head in let some = step.some_vertex in (omega arith, omega arith, omega arith)

  pub down_placed : (i x y : ℕ) → i < s.faces → IsDown g s i x y → (x ≡ g.count) × (y < g.count)
  down_placed i x y l a = let p = (cut_placed i (omega arith)).1 in let t = a.tail in let u = a.head in (omega arith, omega arith)

  pub ends_placed : (i x y : ℕ) → IsDartOf g s i x y → (x < g.count + s.vertices) × (y < g.count + s.vertices)
  ends_placed i x y d =
      elim d.dart [
        | inl a ↦ let p = along_placed i x y d.within a in (omega (arith, p.1), omega (arith, p.2))
        | inr (inl a) ↦ let p = up_placed i x y d.within a in (omega (arith, p.0), p.2)
        | inr (inr (inl a)) ↦ let p = a.next in let q = a.high in (q, omega arith)
        | inr (inr (inr a)) ↦ let p = down_placed i x y d.within a in (omega (arith, p.0), omega (arith, p.1))
      ]

  -- what kind of dart it is, its ends tell
  pub kinds : (i x y : ℕ) → IsDartOf g s i x y → HasKind g s i x y
  kinds i x y d =
      let l = d.within in
      elim d.dart [
        | inl a ↦ let p = along_placed i x y l a in let px = p.1 in let py = p.2 in record { along = λ u v. a; up = λ u v. absurd (omega arith); across = λ u v. absurd (omega arith); down = λ u v. absurd (omega arith) }
        | inr (inl a) ↦ let p = up_placed i x y l a in let px = p.0 in let py = p.1 in record { along = λ u v. absurd (omega arith); up = λ u v. a; across = λ u v. absurd (omega arith); down = λ u v. absurd (omega arith) }
        | inr (inr (inl a)) ↦ let py = a.low in let px = a.next in record { along = λ u v. absurd (omega arith); up = λ u v. absurd (omega arith); across = λ u v. a; down = λ u v. absurd (omega arith) }
        | inr (inr (inr a)) ↦ let p = down_placed i x y l a in let px = p.0 in let py = p.1 in record { along = λ u v. absurd (omega arith); up = λ u v. absurd (omega arith); across = λ u v. absurd (omega arith); down = λ u v. a }
      ]

  -- a dart of a face does not go along the contour after the step
  pub not_along_next : (i x y : ℕ) → IsDartOf g s i x y → (j : ℕ) → ¬ GoesAlong (after g s) x y j
  not_along_next i x y d j along =
      let o = order g s step in
      let pf = h.placed s.first (omega arith) in
      let pl = h.placed s.last step.within in
      let kind = kinds i x y d in
      elim (cases_along x y j along) [
        | inl b ↦
            let a = kind.along (omega (arith, h.placed b.place (omega arith))) (omega (arith, h.placed (suc b.place) b.along.within)) in
            let p = along_placed i x y d.within a in
            let e = one_place a.place b.place (omega (arith, p.0)) (omega arith) (a.tail ∙ sym b.along.tail) in
            elim b.outside [ inl z ↦ omega (arith, p.3) | inr z ↦ omega (arith, p.4) ]
        | inr (inl b) ↦
            let a = kind.up (omega arith) (omega arith) in
            let e = one_place (s.cut (suc i)) s.first (cut_placed (suc i) d.within).0 (omega arith) (a.tail ∙ b.tail) in
            omega (arith, cut-lt g s step 0 (suc i) (omega arith) d.within)
        | inr (inr (inl b)) ↦ let tx = b.next in let ty = b.new in let q = (kind.across ty (omega arith)).next in omega arith
        | inr (inr (inr b)) ↦
            let a = kind.down (omega arith) (omega arith) in
            let e = one_place (s.cut i) s.last (cut_placed i (omega arith)).0 step.within (a.head ∙ b.head) in
            omega (arith, cut-lt g s step i s.faces d.within (omega arith))
      ]

  -- no two faces of a step have a dart in common
  apart_by_cuts : (i j p : ℕ) → i < s.faces → j < s.faces → s.cut i ≤ p → p < s.cut (suc i) → s.cut j ≤ p → p < s.cut (suc j) → i ≡ j
  apart_by_cuts i j p li lj a b c d = elim (cases_order i j) [
    | inl e ↦ e
    | inr (inl m) ↦ let z = cut-le g s step (suc i) j m (omega arith) in absurd (omega arith)
    | inr (inr m) ↦ let z = cut-le g s step (suc j) i m (omega arith) in absurd (omega arith)
  ]

  same_cut : (i j : ℕ) → i ≤ s.faces → j ≤ s.faces → g.vertex (s.cut i) ≡ g.vertex (s.cut j) → i ≡ j
  same_cut i j li lj e =
      let f = one_place (s.cut i) (s.cut j) (cut_placed i li).0 (cut_placed j lj).0 e in
      elim (cases_order i j) [
        | inl same ↦ same
        | inr (inl m) ↦ let z = cut-lt g s step i j m lj in absurd (omega arith)
        | inr (inr m) ↦ let z = cut-lt g s step j i m li in absurd (omega arith)
      ]

  pub same_face : (i j x y : ℕ) → IsDartOf g s i x y → IsDartOf g s j x y → i ≡ j
  same_face i j x y d e =
      let li = d.within in
      let lj = e.within in
      let kind = kinds j x y e in
      elim d.dart [
        | inl a ↦
            let p = along_placed i x y li a in
            let b = kind.along p.1 p.2 in
            let same = one_place a.place b.place (omega (arith, p.0)) (omega (arith, (along_placed j x y lj b).0)) (a.tail ∙ sym b.tail) in
            apart_by_cuts i j a.place li lj a.low a.high (let z = b.low in omega arith) (let z = b.high in omega arith)
        | inr (inl a) ↦ let p = up_placed i x y li a in let z = same_cut (suc i) (suc j) li lj (a.tail ∙ sym (kind.up p.0 p.1).tail) in omega arith
        | inr (inr (inl a)) ↦ let p = a.low in let q = a.next in let r = a.high in elim step.single [ inl one ↦ absurd (omega arith) | inr one ↦ omega arith ]
        | inr (inr (inr a)) ↦ let p = down_placed i x y li a in same_cut i j (omega arith) (omega arith) (a.head ∙ sym (kind.down (omega (arith, p.0)) p.1).head)
      ]

module _ (steps : ℕ → Step) (n : ℕ) (run : IsRun steps n) where
  abbrev at : ℕ → Stage
  at k = stage_after steps k

  sound : (k : ℕ) → k ≤ n → IsStage (at k)
  sound k l = IsStage-run steps k (IsRun-less steps k n l run)

  -- nor does it go along any later contour
  pub not_along : (k m i x y : ℕ) → k < m → m ≤ n → IsDartOf (at k) (steps k) i x y → (j : ℕ) → ¬ GoesAlong (at m) x y j
  not_along k m i x y l b d =
      let small = ends_placed (at k) (steps k) (sound k (omega arith)) (run k (omega arith)) i x y d in
      upward (λ z. (j : ℕ) → ¬ GoesAlong (at z) x y j) (suc k) m l (not_along_next (at k) (steps k) (sound k (omega arith)) (run k (omega arith)) i x y d)
      (λ z low high none j a.
      let c = count-le steps (suc k) z low in
      let step = run z (omega arith) in
      elim (cases_along (at z) (steps z) (sound z (omega arith)) step x y j a) [
        | inl e ↦ none e.place e.along
        | inr (inl e) ↦ omega (arith, e.head, small.1)
        | inr (inr (inl e)) ↦ omega (arith, e.new, small.0)
        | inr (inr (inr e)) ↦ omega (arith, e.tail, small.0)
      ])

  -- so a face of a later step does not have it
  not_later : (k l i j x y : ℕ) → k < l → l < n → IsDartOf (at k) (steps k) i x y → ¬ IsDartOf (at l) (steps l) j x y
  not_later k l i j x y a b d e =
      let small = ends_placed (at k) (steps k) (sound k (omega arith)) (run k (omega arith)) i x y d in
      let c = count-le steps (suc k) l a in
      let stage = sound l (omega arith) in
      elim e.dart [
        | inl z ↦ not_along k l i x y a (omega arith) d z.place record { within = (along_placed (at l) (steps l) stage (run l b) j x y e.within z).0; tail = z.tail; head = z.head }
        | inr (inl z) ↦ omega (arith, (up_placed (at l) (steps l) stage (run l b) j x y e.within z).1, small.1)
        | inr (inr (inl z)) ↦ omega (arith, z.low, small.1)
        | inr (inr (inr z)) ↦ omega (arith, z.tail, small.0)
      ]

  same_step : (k l i j x y : ℕ) → k < n → l < n → IsDartOf (at k) (steps k) i x y → IsDartOf (at l) (steps l) j x y → (k ≡ l) × (i ≡ j)
  same_step k l i j x y a b d e = elim (cases_order k l) [
    | inl same ↦ (same, same_face (at k) (steps k) (sound k (omega arith)) (run k a) i j x y d (subst (λ z. IsDartOf (at z) (steps z) j x y) (sym same) e))
    | inr (inl m) ↦ absurd (not_later k l i j x y m b d e)
    | inr (inr m) ↦ absurd (not_later l k j i x y m a e d)
  ]

pub face_made_once : (steps : ℕ → Step) (n k l i j x y : ℕ) → IsRun steps n → k < n → l < n → IsDartOf (stage_after steps k) (steps k) i x y → IsDartOf (stage_after steps l) (steps l) j x y → (k ≡ l) × (i ≡ j)
face_made_once steps n k l i j x y run a b d e = same_step steps n run k l i j x y a b d e

pub none_along_later : (steps : ℕ → Step) (n k i j x y : ℕ) → IsRun steps n → k < n → IsDartOf (stage_after steps k) (steps k) i x y → ¬ GoesAlong (stage_after steps n) x y j
none_along_later steps n k i j x y run l d = not_along steps n run k n i x y l (omega arith) d j
