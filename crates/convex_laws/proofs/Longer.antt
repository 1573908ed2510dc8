-- A run with one step more, and tables with some values more.
use Rattle.std.proofs.Common.{◌≡◌, ◌≢◌, ◌⊎◌, ◌==◌, ℕ, zero, suc, ◌+◌, ◌<◌, ◌≤◌, nat_lt, if◌then◌else◌, refl, sym, ap, ap₂, ◌∙◌, subst, inl, inr, arith, true, false, eq-eqb, ne_eqb}
use Rattle.std.proofs.lemmas.Bool.{cases_eq}
use Rattle.std.proofs.lemmas.Bool.Decides.{nat_tests}
use Rattle.contour_runs.specs.Runs.{Stage}
use Rattle.contour_runs.specs.FaceRuns.{Step, after, stage_after, faces_made, IsStep, IsRun, IsDartOf, IsUnder, IsTouched}
use Rattle.convex_laws.specs.FaceDrawings.{IsMadeDart}

-- a step after the first n
unfoldable pub longer : (ℕ → Step) → ℕ → Step → ℕ → Step
longer steps n s k = if nat_lt k n then steps k else s

pub longer-low : (steps : ℕ → Step) (n : ℕ) (s : Step) (k : ℕ) → k < n → longer steps n s k ≡ steps k
unfolding longer
longer-low steps n s k l = let t : nat_lt k n ≡ true = grind (arith, nat_tests) in rw t

pub longer-last : (steps : ℕ → Step) (n : ℕ) (s : Step) → longer steps n s n ≡ s
unfolding longer
longer-last steps n s = let t : nat_lt n n ≡ false = grind (arith, nat_tests) in rw t

-- stages and counts of faces depend on the steps before them alone
pub stage_after-same : (steps others : ℕ → Step) (n : ℕ) → ((k : ℕ) → k < n → steps k ≡ others k) → stage_after steps n ≡ stage_after others n
stage_after-same steps others zero h = refl
stage_after-same steps others (suc n) h = ap₂ after (stage_after-same steps others n (λ k l. h k (omega arith))) (h n (omega arith))

pub faces_made-same : (steps others : ℕ → Step) (n : ℕ) → ((k : ℕ) → k < n → steps k ≡ others k) → faces_made steps n ≡ faces_made others n
faces_made-same steps others zero h = refl
faces_made-same steps others (suc n) h = ap₂ (λ a b. a + b) (faces_made-same steps others n (λ k l. h k (omega arith))) (ap (λ s. s.faces) (h n (omega arith)))

module _ (steps : ℕ → Step) (n : ℕ) (s : Step) where
  abbrev more : ℕ → Step
  more = longer steps n s

  pub stage-low : (k : ℕ) → k ≤ n → stage_after more k ≡ stage_after steps k
  stage-low k l = stage_after-same more steps k (λ i m. longer-low steps n s i (omega arith))

  pub stage-last : stage_after more (suc n) ≡ after (stage_after steps n) s
  stage-last = ap₂ after (stage-low n (omega arith)) (longer-last steps n s)

  pub faces-low : (k : ℕ) → k ≤ n → faces_made more k ≡ faces_made steps k
  faces-low k l = faces_made-same more steps k (λ i m. longer-low steps n s i (omega arith))

  pub faces-last : faces_made more (suc n) ≡ faces_made steps n + s.faces
  faces-last = ap₂ (λ a b. a + b) (faces-low n (omega arith)) (ap (λ t. t.faces) (longer-last steps n s))

  -- what holds of a step and the stage before it
  pub carried : (P : Stage → Step → Type 0) (k : ℕ) → k < n → P (stage_after steps k) (steps k) → P (stage_after more k) (more k)
  carried P k l p = subst (λ g. P g (more k)) (sym (stage-low k (omega arith))) (subst (P (stage_after steps k)) (sym (longer-low steps n s k l)) p)

  pub carried_back : (P : Stage → Step → Type 0) (k : ℕ) → k < n → P (stage_after more k) (more k) → P (stage_after steps k) (steps k)
  carried_back P k l p = subst (λ g. P g (steps k)) (stage-low k (omega arith)) (subst (P (stage_after more k)) (longer-low steps n s k l) p)

  pub carried_last : (P : Stage → Step → Type 0) → P (stage_after steps n) s → P (stage_after more n) (more n)
  carried_last P p = subst (λ g. P g (more n)) (sym (stage-low n (omega arith))) (subst (P (stage_after steps n)) (sym (longer-last steps n s)) p)

  pub carried_last_back : (P : Stage → Step → Type 0) → P (stage_after more n) (more n) → P (stage_after steps n) s
  carried_last_back P p = subst (λ g. P g s) (stage-low n (omega arith)) (subst (P (stage_after more n)) (longer-last steps n s) p)

  pub IsRun-longer : IsRun steps n → IsStep (stage_after steps n) s → IsRun more (suc n)
  IsRun-longer run step k l =
      elim (cases_eq k n) [
        | inl e ↦ subst (λ i. IsStep (stage_after more i) (more i)) (sym e) (carried_last IsStep step)
        | inr ne ↦ carried IsStep k (omega arith) (run k (omega arith))
      ]

  pub IsMadeDart-longer : (x y face : ℕ) → IsMadeDart steps n x y face → IsMadeDart more (suc n) x y face
  IsMadeDart-longer x y face m =
      let l = m.earlier in
      record { step = m.step; place = m.place; earlier = omega arith; dart = carried (λ g t. IsDartOf g t m.place x y) m.step l m.dart; number = m.number ∙ ap (λ a. a + m.place) (sym (faces-low m.step (omega arith))) }

  pub IsMadeDart-last : (place x y face : ℕ) → IsDartOf (stage_after steps n) s place x y → face ≡ faces_made steps n + place → IsMadeDart more (suc n) x y face
  IsMadeDart-last place x y face dart number =
      record { step = n; place = place; earlier = omega arith; dart = carried_last (λ g t. IsDartOf g t place x y) dart; number = number ∙ ap (λ a. a + place) (sym (faces-low n (omega arith))) }

  pub IsTouched-longer : (k l v : ℕ) → k ≤ n → k ≤ l → IsTouched steps k v → IsTouched more l v
  IsTouched-longer k l v m m' t =
      record { step = t.step; earlier = omega arith; end = carried (λ g u. (g.vertex u.first ≡ v) ⊎ (g.vertex u.last ≡ v)) t.step (omega arith) t.end }

  pub IsTouched-last : (v : ℕ) → ((stage_after steps n).vertex s.first ≡ v) ⊎ ((stage_after steps n).vertex s.last ≡ v) → IsTouched more (suc n) v
  IsTouched-last v end = record { step = n; earlier = omega arith; end = carried_last (λ g u. (g.vertex u.first ≡ v) ⊎ (g.vertex u.last ≡ v)) end }

  -- what stands under a step, face and place apart
  abbrev StandsUnder : ℕ → Stage → Step → Type 0
  StandsUnder v g u = (face : ℕ) × (place : ℕ) × (face < u.faces) × (u.cut face < place) × (place < u.cut (suc face)) × (g.vertex place ≡ v)

  pub IsUnder-longer : (k v : ℕ) → k < n → IsUnder more k v → IsUnder steps k v
  IsUnder-longer k v l u =
      let at = carried_back (StandsUnder v) k l (u.face, u.place, u.within, u.low, u.high, u.vertex) in
      record { face = at.0; place = at.1; within = at.2; low = at.3; high = at.4; vertex = at.5 }

  pub IsUnder-last : (v : ℕ) → IsUnder more n v → (face : ℕ) × (place : ℕ) × (face < s.faces) × (s.cut face < place) × (place < s.cut (suc face)) × ((stage_after steps n).vertex place ≡ v)
  IsUnder-last v u = carried_last_back (StandsUnder v) (u.face, u.place, u.within, u.low, u.high, u.vertex)

-- a table with the values from + 0, from + 1, .. at so many places more
abbrev pub put : (ℕ → ℕ) → ℕ → (ℕ → ℕ) → ℕ → ℕ → ℕ
put at from old zero v = old v
put at from old (suc m) v = if at m == v then from + m else put at from old m v

pub put-old : (at : ℕ → ℕ) (from : ℕ) (old : ℕ → ℕ) (m v : ℕ) → ((q : ℕ) → q < m → at q ≢ v) → put at from old m v ≡ old v
put-old at from old zero v none = refl
put-old at from old (suc m) v none = let ne = none m (omega arith) in rw (ne_eqb (at m) v ne) (put-old at from old m v (λ q l. none q (omega arith)))

pub put-found : (at : ℕ → ℕ) (from : ℕ) (old : ℕ → ℕ) (m v q : ℕ) → q < m → at q ≡ v → (p : ℕ) × (p < m) × (at p ≡ v) × (put at from old m v ≡ from + p)
put-found at from old zero v q l e = absurd (omega arith)
put-found at from old (suc m) v q l e =
    elim (cases_eq (at m) v) [
      | inl here ↦ (m, omega arith, here, rw (eq-eqb (at m) v here))
      | inr ne ↦
          let less : q < m = elim (cases_eq q m) [ inl z ↦ absurd (ne (ap at (sym z) ∙ e)) | inr nz ↦ omega arith ] in
          let found = put-found at from old m v q less e in
          (found.0, omega (arith, found.1), found.2, rw (ne_eqb (at m) v ne) found.3)
    ]
