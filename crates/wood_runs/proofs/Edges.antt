-- The edges of contours, and what a vertex stands on.
use Rattle.std.proofs.Common.{◌≡◌, ◌≢◌, ◌⊎◌, ℕ, zero, suc, ◌+◌, ◌-◌, ◌*◌, ◌<◌, ◌≤◌, refl, sym, ap, ◌∙◌, subst, inl, inr, arith}
use Rattle.std.proofs.lemmas.Bool.{cases_eq, cases_lt}
use Rattle.contour_runs.specs.Runs.{Step, Stage, stage_after, IsStep, IsRun, IsFaceOf, IsDartOf}
use Rattle.contour_runs.proofs.Places.{vertex_after-low, vertex_after-new, vertex_after-high, place_after-new}
use Rattle.contour_runs.proofs.Upward.{upward}
use Rattle.contour_runs.proofs.Stages.{IsStage-run, IsRun-less, count-stage_after}
use Rattle.wood_runs.specs.Fronts.{fronts, shades, IsNewOn, at_first, at_last, under, new_first, new_last, IsOn}
use Rattle.wood_runs.proofs.Sides.{paths, sides}
use Rattle.wood_runs.proofs.Steps.{front_after-low, front_after-first, front_after-last, front_after-high, stays, behind, goes}
use Rattle.wood_runs.proofs.Steps.Goes.{under as goes_under}
use Rattle.wood_runs.proofs.Shades.{IsShaded-run, wp_is, wq_is, older_old, base_shade}
use Rattle.wood_runs.proofs.Nested.{IsNested-run}
use Rattle.wood_runs.proofs.Sided.{IsSided-run, sees_three}

module _ (steps : ℕ → Step) where
  abbrev at : ℕ → Stage
  at k = stage_after steps k

  -- an edge of the contour of stage m at place j: the base, or one from a vertex to its parent of colour one, or of colour two
  pub data Along (m j : ℕ) : Type 0 where
    base : (at m).vertex j ≡ 0 → (at m).vertex (suc j) ≡ 1 → fronts steps m j ≡ 0 → Along m j
    leftward : (l : ℕ) → l < m → (at m).vertex (suc j) ≡ l + 2 → (at m).vertex j ≡ (at l).vertex (steps l).first → fronts steps m j ≡ 2 * l + 1 → Along m j
    rightward : (l : ℕ) → l < m → (at m).vertex j ≡ l + 2 → (at m).vertex (suc j) ≡ (at l).vertex (steps l).last → fronts steps m j ≡ 2 * l + 2 → Along m j

  -- it stays the same edge at another place
  along_moved : (m i j : ℕ) → Along m i → (at (suc m)).vertex j ≡ (at m).vertex i → (at (suc m)).vertex (suc j) ≡ (at m).vertex (suc i) → fronts steps (suc m) j ≡ fronts steps m i → Along (suc m) j
  along_moved m i j (base a b c) e e' f = base (e ∙ a) (e' ∙ b) (f ∙ c)
  along_moved m i j (leftward l k a b c) e e' f = leftward l (omega arith) (e' ∙ a) (e ∙ b) (f ∙ c)
  along_moved m i j (rightward l k a b c) e e' f = rightward l (omega arith) (e ∙ a) (e' ∙ b) (f ∙ c)

  pub along : (m j : ℕ) → IsRun steps m → suc j < (at m).width → Along m j
  along zero j run l = let e : j ≡ 0 = omega arith in base e (omega arith) refl
  along (suc m) j run l =
      let run' = IsRun-less steps m (suc m) (omega arith) run in
      let s = steps m in
      let o = (run m (omega arith)).order in
      let w = (run m (omega arith)).within in
      let count = count-stage_after steps m in
      let new : ℕ = 2 * m + 1 in
      elim (cases_lt j s.first) [
        | inl a ↦ along_moved m j j (along m j run' (omega arith)) (vertex_after-low (at m) s j (omega arith)) (vertex_after-low (at m) s (suc j) (omega arith)) (front_after-low s new (fronts steps m) j a)
        | inr a ↦ elim (cases_eq j s.first) [
          | inl e ↦ leftward m (omega arith) (vertex_after-new (at m) s (suc j) (omega arith) ∙ count) (vertex_after-low (at m) s j (omega arith) ∙ ap (at m).vertex e) (front_after-first s new (fronts steps m) j e)
          | inr e ↦ elim (cases_eq j (suc s.first)) [
            | inl b ↦
                let f = front_after-last s new (fronts steps m) j b in
                rightward m (omega arith) (vertex_after-new (at m) s j b ∙ count) (vertex_after-high (at m) s (suc j) s.last (omega arith) (omega arith) (omega arith)) (f ∙ omega arith)
            | inr b ↦
                let i : ℕ = j + s.last - (s.first + 2) in
                along_moved m i j (along m i run' (omega arith)) (vertex_after-high (at m) s j i (omega arith) (omega arith) (omega arith)) (vertex_after-high (at m) s (suc j) (suc i) (omega arith) (omega arith) (omega arith))
                (front_after-high s new (fronts steps m) j i (omega arith) (omega arith) (omega arith))
          ]
        ]
      ]

  -- an edge of a contour is made into a face by a later step, or is still one of the contour
  pub record IsMadeLater (m j n : ℕ) : Type 0 where
    pub step : ℕ
    pub place : ℕ
    pub earlier : step < n
    pub dart : IsDartOf steps step place ((at m).vertex j) ((at m).vertex (suc j))
    pub front : fronts steps step place ≡ fronts steps m j

  pub record IsStill (m j n : ℕ) : Type 0 where
    pub place : ℕ
    pub within : suc place < (at n).width
    pub tail : (at n).vertex place ≡ (at m).vertex j
    pub head : (at n).vertex (suc place) ≡ (at m).vertex (suc j)
    pub front : fronts steps n place ≡ fronts steps m j

  pub face_of : (k i : ℕ) → (steps k).first ≤ i → i < (steps k).last → IsFaceOf steps k i ((at k).vertex i) ((at k).vertex (suc i)) (k + 2)
  face_of k i a b = record { low = a; high = b; left = refl; right = refl; new = count-stage_after steps k }

  still_step : (m j n : ℕ) → IsStep (at n) (steps n) → m ≤ n → IsStill m j n → IsMadeLater m j (suc n) ⊎ IsStill m j (suc n)
  still_step m j n step l h =
      let s = steps n in
      let i = h.place in
      let new : ℕ = 2 * n + 1 in
      elim (cases_lt i s.first) [
        | inl a ↦ grind (arith, vertex_after-low, at, front_after-low, fronts)
        | inr a ↦ elim (cases_lt i s.last) [
          | inl b ↦ inl record { step = n; place = i; earlier = omega arith; dart = record { a = (at n).vertex i; b = (at n).vertex (suc i); v = n + 2; face = face_of n i a b; dart = inl (sym h.tail, sym h.head) }; front = h.front }
          | inr b ↦
              let p : ℕ = i + s.first + 2 - s.last in
              inr record {
                place = p;
                within = omega arith;
                tail = vertex_after-high (at n) s p i (omega arith) b (omega arith) ∙ h.tail;
                head = vertex_after-high (at n) s (suc p) (suc i) (omega arith) (omega arith) (omega arith) ∙ h.head;
                front = front_after-high s new (fronts steps n) p i (omega arith) b (omega arith) ∙ h.front;
              }
        ]
      ]

  module _ (n : ℕ) (run : IsRun steps n) where
    less : (m : ℕ) → m ≤ n → IsRun steps m
    less m l = IsRun-less steps m n l run

    pub is_later : (m j : ℕ) → m ≤ n → suc j < (at m).width → IsMadeLater m j n ⊎ IsStill m j n
    is_later m j l w =
        upward (λ k. IsMadeLater m j k ⊎ IsStill m j k) m n l (inr record { place = j; within = w; tail = refl; head = refl; front = refl })
        (λ k low high t. elim t [
          | inl x ↦ let a = x.earlier in inl record { step = x.step; place = x.place; earlier = omega arith; dart = x.dart; front = x.front }
          | inr x ↦ still_step m j k (run k high) low x
        ])

    -- the vertices of a face are on it
    on_more : (m w f : ℕ) → m ≤ n → IsOn steps m w f → IsOn steps n w f
    on_more m w f l o = upward (λ k. IsOn steps k w f) m n l o (λ k low high x. inl x)

    pub corners_on : (k i x y : ℕ) → k < n → IsDartOf steps k i x y → IsOn steps n x (fronts steps k i)
    corners_on k i x y l d =
        let lo = d.face.low in
        let hi = d.face.high in
        let w = (run k l).within in
        let e = (IsNested-run steps k (less k (omega arith))).edge i (omega arith) in
        let v : d.v ≡ (at k).count = sym d.face.new in
        elim d.dart [
          | inl c ↦ on_more k x (fronts steps k i) (omega arith) (subst (λ x. IsOn steps k x (fronts steps k i)) (d.face.left ∙ sym c.0) e.0)
          | inr (inl c) ↦ on_more k x (fronts steps k i) (omega arith) (subst (λ x. IsOn steps k x (fronts steps k i)) (d.face.right ∙ sym c.0) e.1)
          | inr (inr c) ↦ on_more (suc k) x (fronts steps k i) (omega arith) (inr (under (c.0 ∙ v) i lo hi refl))
        ]

  -- what a vertex is on lies before an edge of the contour at which it stands, or was made, with the vertex at a corner
  pub data Stands (m w f : ℕ) : Type 0 where
    before : (j : ℕ) → suc j < (at m).width → f ≡ fronts steps m j → (w ≡ (at m).vertex j) ⊎ (w ≡ (at m).vertex (suc j)) → Stands m w f
    corner : (k i : ℕ) → k < m → (steps k).first ≤ i → i < (steps k).last → f ≡ fronts steps k i → (w ≡ (at k).vertex i) ⊎ ((w ≡ (at k).vertex (suc i)) ⊎ (w ≡ k + 2)) → Stands m w f

  stands_more : (m w f : ℕ) → IsStep (at m) (steps m) → Stands m w f → Stands (suc m) w f
  stands_more m w f step (corner k i a b c d e) = corner k i (omega arith) b c d e
  stands_more m w f step (before j a d e) =
      let s = steps m in
      let new : ℕ = 2 * m + 1 in
      elim (cases_lt j s.first) [
        | inl x ↦
            before j (omega arith) (d ∙ sym (front_after-low s new (fronts steps m) j x))
            (elim e [ inl y ↦ inl (y ∙ sym (vertex_after-low (at m) s j (omega arith))) | inr y ↦ inr (y ∙ sym (vertex_after-low (at m) s (suc j) (omega arith))) ])
        | inr x ↦ elim (cases_lt j s.last) [
          | inl y ↦ corner m j (omega arith) x y d (elim e [ inl z ↦ inl z | inr z ↦ inr (inl z) ])
          | inr y ↦
              let p : ℕ = j + s.first + 2 - s.last in
              before p (omega arith) (d ∙ sym (front_after-high s new (fronts steps m) p j (omega arith) y (omega arith)))
              (elim e [ inl z ↦ inl (z ∙ sym (vertex_after-high (at m) s p j (omega arith) y (omega arith))) | inr z ↦ inr (z ∙ sym (vertex_after-high (at m) s (suc p) (suc j) (omega arith) (omega arith) (omega arith))) ])
        ]
      ]

  stands_new : (m w f : ℕ) → IsStep (at m) (steps m) → IsNewOn (at m) (steps m) (2 * m + 1) (fronts steps m) w f → Stands (suc m) w f
  stands_new m w f step (at_first a b) =
      let s = steps m in
      before s.first (omega arith) (b ∙ sym (front_after-first s (2 * m + 1) (fronts steps m) s.first refl)) (inl (a ∙ sym (vertex_after-low (at m) s s.first (omega arith))))
  stands_new m w f step (at_last a b) =
      let s = steps m in
      before (suc s.first) (omega arith) (b ∙ sym (front_after-last s (2 * m + 1) (fronts steps m) (suc s.first) refl)) (inr (a ∙ sym (vertex_after-high (at m) s (suc (suc s.first)) s.last (omega arith) (omega arith) (omega arith))))
  stands_new m w f step (under a j b c d) = corner m j (omega arith) b c d (inr (inr (a ∙ count-stage_after steps m)))
  stands_new m w f step (new_first a b) =
      let s = steps m in
      before s.first (omega arith) (b ∙ sym (front_after-first s (2 * m + 1) (fronts steps m) s.first refl)) (inr (a ∙ sym (vertex_after-new (at m) s (suc s.first) refl)))
  stands_new m w f step (new_last a b) =
      let s = steps m in
      before (suc s.first) (omega arith) (b ∙ sym (front_after-last s (2 * m + 1) (fronts steps m) (suc s.first) refl)) (inl (a ∙ sym (vertex_after-new (at m) s (suc s.first) refl)))

  pub stands : (m w f : ℕ) → IsRun steps m → IsOn steps m w f → Stands m w f
  stands zero w f run o =
      before 0 (omega arith) o.1 (elim (cases_eq w 0) [ inl e ↦ inl e | inr e ↦ let z : w ≡ 1 = omega arith in inr z ])
  stands (suc m) w f run (inl o) = stands_more m w f (run m (omega arith)) (stands m w f (IsRun-less steps m (suc m) (omega arith) run) o)
  stands (suc m) w f run (inr o) = stands_new m w f (run m (omega arith)) o

  -- the face before the base
  pub base_seen : (n : ℕ) → IsRun steps n → (shades steps n 0 0 ≡ 1) × (shades steps n 1 0 ≡ 2) × ((v : ℕ) → 2 ≤ v → v < n + 2 → shades steps n v 0 ≡ 3)
  base_seen zero run = (elim (base_shade steps 0 0) [ inl a ↦ a.1 | inr a ↦ absurd (a.0 refl) ], elim (base_shade steps 1 0) [ inl a ↦ absurd (omega (arith, a.0)) | inr a ↦ a.1 ], λ v l m. absurd (omega arith))
  base_seen (suc n) run =
      let run' = IsRun-less steps n (suc n) (omega arith) run in
      let h = base_seen n run' in
      let a = run n (omega arith) in
      let stage = IsStage-run steps n run' in
      let count = count-stage_after steps n in
      let older = λ (v : ℕ) (l : v < (at n).count). older_old (at n) (steps n) (2 * n + 1) (fronts steps n) (shades steps n) stage a (IsShaded-run steps n run') v 0 l (omega arith) in
      let end : ℕ = (at n).width - 1 in
      let wp_one : (at n).vertex (steps n).first ≢ 1 = λ e. omega (arith, (wp_is (at n) (steps n) (2 * n + 1) (fronts steps n) (shades steps n) stage a (IsShaded-run steps n run')).1, ap (at n).place (e ∙ sym (stage.end end (omega arith))), stage.own end (omega arith)) in
      let wq_zero : (at n).vertex (steps n).last ≢ 0 = λ e. omega (arith, (wq_is (at n) (steps n) (2 * n + 1) (fronts steps n) (shades steps n) stage a (IsShaded-run steps n run')).1, ap (at n).place (e ∙ sym stage.begin), stage.own 0 (omega arith)) in
      let p_not : shades steps n ((at n).vertex (steps n).first) 0 ≢ 2 = λ e. elim (cases_lt ((at n).vertex (steps n).first) 2) [
        | inl x ↦ let z : (at n).vertex (steps n).first ≡ 0 = omega arith in omega (arith, e, ap (λ v. shades steps n v 0) z, h.0)
        | inr x ↦ omega (arith, e, h.2 ((at n).vertex (steps n).first) x (omega arith))
      ] in
      let q_not : shades steps n ((at n).vertex (steps n).last) 0 ≢ 1 = λ e. elim (cases_lt ((at n).vertex (steps n).last) 2) [
        | inl x ↦ let z : (at n).vertex (steps n).last ≡ 1 = omega arith in omega (arith, e, ap (λ v. shades steps n v 0) z, h.1)
        | inr x ↦ omega (arith, e, h.2 ((at n).vertex (steps n).last) x (omega arith))
      ] in (
        older 0 (omega arith) ∙ h.0,
        older 1 (omega arith) ∙ h.1,
        λ v l m. elim (cases_lt v (at n).count) [
          | inl x ↦ older v x ∙ h.2 v l (omega arith)
          | inr x ↦ let e : v ≡ (at n).count = omega arith in ap (λ v. shades steps (suc n) v 0) e ∙ sees_three (at n) (steps n) (2 * n + 1) (fronts steps n) (shades steps n) (IsOn steps n) (paths steps n) (sides steps n) stage a (IsShaded-run steps n run') (IsNested-run steps n run') (IsSided-run steps n run') 0 (omega arith) p_not q_not
        ],
      )

  -- only vertex 1 has the last place
  pub second_alone : (n v : ℕ) → IsRun steps n → v < n + 2 → v ≢ 1 → suc ((at n).place v) < (at n).width
  second_alone zero v run l ne = omega arith
  second_alone (suc n) v run l ne =
      let a = run n (omega arith) in
      let count = count-stage_after steps n in
      elim (cases_lt v (at n).count) [
        | inl x ↦
            let h = second_alone n v (IsRun-less steps n (suc n) (omega arith) run) (omega arith) ne in
            elim (goes (at n) (steps n) v a.order x) [ stays y z ↦ omega arith | goes_under y z t ↦ omega arith | behind y z ↦ omega arith ]
        | inr x ↦ omega (arith, place_after-new (at n) (steps n) v (omega arith))
      ]
