-- Regions are nested.
use Rattle.std.proofs.Common.{◌≡◌, ◌≢◌, ◌⊎◌, ℕ, zero, suc, ◌+◌, ◌-◌, ◌*◌, ◌<◌, ◌≤◌, refl, sym, ap, ◌∙◌, subst, inl, inr, arith}
use Rattle.std.proofs.lemmas.Bool.{cases_eq, cases_lt}
use Rattle.contour_runs.specs.Runs.{Step, Stage, after, base, vertex_after, stage_after, IsStep, IsRun}
use Rattle.contour_runs.specs.Laws.{IsStage}
use Rattle.contour_runs.proofs.Places.{vertex_after-low, vertex_after-new, vertex_after-high, cases_place}
use Rattle.contour_runs.proofs.Stages.{IsStage-run, IsRun-less}
use Rattle.wood_runs.specs.Fronts.{front_after, old_front, shade_after, fronts, shades, IsNewOn, at_first, at_last, under, new_first, new_last, IsOn}
use Rattle.wood_runs.proofs.Steps.{front_after-low, front_after-first, front_after-last, front_after-high, old_front-old, old_front-first, old_front-last, shade_after-older}
use Rattle.wood_runs.proofs.Steps.Sees.{as_first, as_last, between, new_first as seen_first, new_last as seen_last}
use Rattle.wood_runs.proofs.Shades.{IsShaded, IsShaded-run, wp_is, wq_is, seen, left_new, right_new, new_left, new_right, base_shade}

-- What is on a face is placed, and the face is numbered; the ends of an edge of the contour are on what lies before it. Where a vertex sees a face with shade 3 that one of the contour sees with 2, or 1, it lies there: all faces that it is on have that shade. And where u sees a face that v is on with a shade, it sees with this shade all that v sees so.
pub record IsNested (g : Stage) (new : ℕ) (front : ℕ → ℕ) (shade : ℕ → ℕ → ℕ) (on : ℕ → ℕ → Type 0) : Type 0 where
  pub placed : (w f : ℕ) → on w f → (w < g.count) × (f < new)
  pub edge : (i : ℕ) → suc i < g.width → on (g.vertex i) (front i) × on (g.vertex (suc i)) (front i)
  pub whole : (i v f f' : ℕ) → i < g.width → v < g.count → shade v f ≡ 3 → on v f' → (shade (g.vertex i) f ≡ 2 → shade (g.vertex i) f' ≡ 2) × (shade (g.vertex i) f ≡ 1 → shade (g.vertex i) f' ≡ 1)
  pub nested : (u v f f' c : ℕ) → u < g.count → on v f → shade u f ≡ c → shade v f' ≡ c → shade u f' ≡ c

module _ (g : Stage) (s : Step) (new : ℕ) (front : ℕ → ℕ) (shade : ℕ → ℕ → ℕ) (on : ℕ → ℕ → Type 0) (stage : IsStage g) (step : IsStep g s) (h : IsShaded g new front shade) (k : IsNested g new front shade on) where
  abbrev front' : ℕ → ℕ
  front' = front_after s new front

  abbrev shade' : ℕ → ℕ → ℕ
  shade' = shade_after g s new front shade

  abbrev on' : ℕ → ℕ → Type 0
  on' w f = on w f ⊎ IsNewOn g s new front w f

  abbrev old : ℕ → ℕ
  old = old_front s new front

  -- an older vertex sees a face as the one in whose place it is
  older : (v f : ℕ) → v < g.count → shade' v f ≡ shade v (old f)
  older v f l = shade_after-older g s new front shade v f l

  -- an older vertex was on that
  pub old_on : (v f : ℕ) → v < g.count → on' v f → on v (old f)
  old_on v f l (inl o) = subst (on v) (sym (old_front-old s new front f (k.placed v f o).1)) o
  old_on v f l (inr (at_first a b)) =
      subst (λ v. on v (old f)) (sym a) (subst (on (g.vertex s.first)) (sym (old_front-first s new front f b)) (k.edge s.first (omega arith)).0)
  old_on v f l (inr (at_last a b)) =
      let r : ℕ = s.last - 1 in
      let e : suc r ≡ s.last = omega arith in
      subst (λ v. on v (old f)) (ap g.vertex e ∙ sym a) (subst (on (g.vertex (suc r))) (sym (old_front-last s new front f r (omega arith) e)) (k.edge r (omega arith)).1)
  old_on v f l (inr (under a j b c d)) = absurd (omega arith)
  old_on v f l (inr (new_first a b)) = absurd (omega arith)
  old_on v f l (inr (new_last a b)) = absurd (omega arith)

  -- the new vertex is on faces that lay before the edges under it, or in their places
  pub new_on : (v f : ℕ) → v ≡ g.count → on' v f → (j : ℕ) × (s.first ≤ j) × (j < s.last) × (old f ≡ front j)
  new_on v f e (inl o) = absurd (let m = (k.placed v f o).0 in omega arith)
  new_on v f e (inr (at_first a b)) = absurd (omega (arith, wp_is g s new front shade stage step h))
  new_on v f e (inr (at_last a b)) = absurd (omega (arith, wq_is g s new front shade stage step h))
  new_on v f e (inr (under a j b c d)) =
      (j, b, c, old_front-old s new front f (omega arith) ∙ d)
  new_on v f e (inr (new_first a b)) = let o = step.order in (s.first, omega arith, o, old_front-first s new front f b)
  new_on v f e (inr (new_last a b)) =
      let r : ℕ = s.last - 1 in
      let e : suc r ≡ s.last = omega arith in
      (r, omega arith, omega arith, old_front-last s new front f r (omega arith) e)

  -- how an older vertex sees these
  pub sees_under : (u j : ℕ) → u < g.count → s.first ≤ j → j < s.last → ((s.first < g.place u) × (shade u (front j) ≡ 2)) ⊎ ((g.place u < s.last) × (shade u (front j) ≡ 1))
  sees_under u j l a b =
      elim (cases_lt j (g.place u)) [ inl c ↦ inl (omega arith, h.low u j l (omega arith) c) | inr c ↦ inr (omega arith, h.high u j l (omega arith) c) ]

  -- no older vertex sees these with shade 3
  not_three : (u j : ℕ) → u < g.count → s.first ≤ j → j < s.last → shade u (front j) ≢ 3
  not_three u j l a b e = elim (sees_under u j l a b) [ inl c ↦ omega (arith, c.1, e) | inr c ↦ omega (arith, c.1, e) ]

  placed' : (w f : ℕ) → on' w f → (w < suc g.count) × (f < suc (suc new))
  placed' w f x2 = grind (arith, at_first, wp_is, at_last, wq_is, under, new_first, new_last)

  edge' : (i : ℕ) → suc i < (after g s).width → on' (vertex_after g s i) (front' i) × on' (vertex_after g s (suc i)) (front' i)
  edge' i l =
      elim (cases_lt i s.first) [
        | inl a ↦ grind (arith, front_after-low, front', vertex_after-low)
        | inr a ↦ elim (cases_eq i s.first) [
          | inl b ↦
              let f = front_after-first s new front i b in
              (inr (at_first (vertex_after-low g s i (omega arith) ∙ ap g.vertex b) f), inr (new_first (vertex_after-new g s (suc i) (omega arith)) f))
          | inr b ↦ elim (cases_eq i (suc s.first)) [
            | inl c ↦
                let f = front_after-last s new front i c in
                (inr (new_last (vertex_after-new g s i c) f), inr (at_last (vertex_after-high g s (suc i) s.last (omega arith) (omega arith) (omega arith)) f))
            | inr c ↦
                let j : ℕ = i + s.last - (s.first + 2) in
                let e = k.edge j (omega arith) in
                let f = sym (front_after-high s new front i j (omega arith) (omega arith) (omega arith)) in (
                  inl (subst (λ v. on v (front' i)) (sym (vertex_after-high g s i j (omega arith) (omega arith) (omega arith))) (subst (on (g.vertex j)) f e.0)),
                  inl (subst (λ v. on v (front' i)) (sym (vertex_after-high g s (suc i) (suc j) (omega arith) (omega arith) (omega arith))) (subst (on (g.vertex (suc j))) f e.1)),
                )
          ]
        ]
      ]

  -- from the vertices at the two places on to the new one
  pub two_on : (f : ℕ) → shade (g.vertex s.first) (old f) ≡ 2 → shade' g.count f ≡ 2
  two_on f e = left_new g s new front shade stage step h s.first f (omega arith) (older (g.vertex s.first) f (wp_is g s new front shade stage step h).0 ∙ e)

  pub one_on : (f : ℕ) → shade (g.vertex s.last) (old f) ≡ 1 → shade' g.count f ≡ 1
  one_on f e = right_new g s new front shade stage step h s.last f (omega arith) step.within (older (g.vertex s.last) f (wq_is g s new front shade stage step h).0 ∙ e)

  -- a vertex of the contour before, at one side of the step
  whole_older : (i v f f' : ℕ) → i < g.width → v < suc g.count → (i ≤ s.first) ⊎ (s.last ≤ i) → shade' v f ≡ 3 → on' v f' → (shade' (g.vertex i) f ≡ 2 → shade' (g.vertex i) f' ≡ 2) × (shade' (g.vertex i) f ≡ 1 → shade' (g.vertex i) f' ≡ 1)
  whole_older i v f f' l m side e d =
      let c = stage.placed i l in
      elim (cases_lt v g.count) [
        | inl b ↦
            let t = k.whole i v (old f) (old f') l b (sym (older v f b) ∙ e) (old_on v f' b d) in
            (λ x. older (g.vertex i) f' c ∙ t.0 (sym (older (g.vertex i) f c) ∙ x), λ x. older (g.vertex i) f' c ∙ t.1 (sym (older (g.vertex i) f c) ∙ x))
        | inr b ↦
            let n : v ≡ g.count = omega arith in
            let j = new_on v f' n d in
            let e' : shade' g.count f ≡ 3 = ap (λ v. shade' v f) (sym n) ∙ e in
            let view = older (g.vertex i) f' c ∙ ap (shade (g.vertex i)) j.3 in
            elim (seen g s new front shade stage step h f) [
              | as_first x y z ↦ absurd (omega (arith, e', z))
              | as_last x y z t ↦ absurd (omega (arith, e', t))
              | seen_first x y ↦ absurd (omega (arith, e', y))
              | seen_last x y ↦ absurd (omega (arith, e', y))
              | between x y z t ↦
                  let same : shade' (g.vertex i) f ≡ shade (g.vertex i) f = older (g.vertex i) f c ∙ ap (shade (g.vertex i)) (old_front-old s new front f x) in
                  elim side [
                    | inl lo ↦ (λ a. absurd (y (h.left i (g.vertex s.first) f l (wp_is g s new front shade stage step h).0 (omega (arith, (wp_is g s new front shade stage step h).1)) (sym same ∙ a))), λ a. view ∙ h.high (g.vertex i) j.0 c (omega arith) (omega arith))
                    | inr hi ↦ (λ a. view ∙ h.low (g.vertex i) j.0 c (omega arith) (omega arith), λ a. absurd (z (h.right i (g.vertex s.last) f l (wq_is g s new front shade stage step h).0 (omega (arith, (wq_is g s new front shade stage step h).1)) (sym same ∙ a))))
                  ]
            ]
      ]

  whole_new : (v f f' : ℕ) → v < suc g.count → shade' v f ≡ 3 → on' v f' → (shade' g.count f ≡ 2 → shade' g.count f' ≡ 2) × (shade' g.count f ≡ 1 → shade' g.count f' ≡ 1)
  whole_new v f f' m e d =
      elim (cases_lt v g.count) [
        | inr b ↦ grind (arith, shade')
        | inl b ↦
            let e' : shade v (old f) ≡ 3 = sym (older v f b) ∙ e in
            let d' = old_on v f' b d in
            let at_p = k.whole s.first v (old f) (old f') (omega arith) b e' d' in
            let at_q = k.whole s.last v (old f) (old f') step.within b e' d' in
            elim (seen g s new front shade stage step h f) [
              | as_first x y z ↦
                  (λ a. two_on f' (at_p.0 (ap (shade (g.vertex s.first)) (old_front-old s new front f x) ∙ y)), λ a. absurd (omega (arith, a, z)))
              | as_last x y z t ↦
                  (λ a. absurd (omega (arith, a, t)), λ a. one_on f' (at_q.1 (ap (shade (g.vertex s.last)) (old_front-old s new front f x) ∙ z)))
              | between x y z t ↦ (λ a. absurd (omega (arith, a, t)), λ a. absurd (omega (arith, a, t)))
              | seen_first x y ↦ absurd (not_three v s.first b (omega arith) step.order (ap (shade v) (sym (old_front-first s new front f x)) ∙ e'))
              | seen_last x y ↦
                  let r : ℕ = s.last - 1 in
                  let r' : suc r ≡ s.last = omega arith in
                  absurd (not_three v r b (omega arith) (omega arith) (ap (shade v) (sym (old_front-last s new front f r x r')) ∙ e'))
            ]
      ]

  whole' : (i v f f' : ℕ) → i < (after g s).width → v < suc g.count → shade' v f ≡ 3 → on' v f' → (shade' (vertex_after g s i) f ≡ 2 → shade' (vertex_after g s i) f' ≡ 2) × (shade' (vertex_after g s i) f ≡ 1 → shade' (vertex_after g s i) f' ≡ 1)
  whole' i v f f' l m e d =
      elim (cases_place g s i step l) [
        | inl c ↦ let lo = c.low in subst (λ x. (shade' x f ≡ 2 → shade' x f' ≡ 2) × (shade' x f ≡ 1 → shade' x f' ≡ 1)) (sym (vertex_after-low g s i lo)) (whole_older i v f f' (omega arith) m (inl lo) e d)
        | inr (inl c) ↦ subst (λ x. (shade' x f ≡ 2 → shade' x f' ≡ 2) × (shade' x f ≡ 1 → shade' x f' ≡ 1)) (sym (vertex_after-new g s i c.new)) (whole_new v f f' m e d)
        | inr (inr c) ↦
            let hi = c.high in
            let to = c.to in
            subst (λ x. (shade' x f ≡ 2 → shade' x f' ≡ 2) × (shade' x f ≡ 1 → shade' x f' ≡ 1)) (sym (vertex_after-high g s i c.from (omega arith) hi to)) (whole_older c.from v f f' c.within m (inr hi) e d)
      ]

  -- an older vertex that is on a new face is one of the two
  on_first : (v f : ℕ) → v < g.count → f ≡ new → on' v f → v ≡ g.vertex s.first
  on_first v f l e x4 = grind (arith, at_first, at_last, under, new_first, new_last)

  on_last : (v f : ℕ) → v < g.count → new < f → on' v f → v ≡ g.vertex s.last
  on_last v f l e x4 = grind (arith, at_first, at_last, under, new_first, new_last)

  -- the new vertex, and an older one
  nested_new : (v f f' c : ℕ) → v < g.count → on' v f → shade' g.count f ≡ c → shade' v f' ≡ c → shade' g.count f' ≡ c
  nested_new v f f' c l d a b =
      let o = step.order in
      let w = step.within in
      let d' = old_on v f l d in
      let b' : shade v (old f') ≡ c = sym (older v f' l) ∙ b in
      elim (seen g s new front shade stage step h f) [
        | as_first x y z ↦
            let same = old_front-old s new front f x in
            let two : 2 ≡ c = sym z ∙ a in
            two_on f' (k.nested (g.vertex s.first) v (old f) (old f') 2 (wp_is g s new front shade stage step h).0 d' (ap (shade (g.vertex s.first)) same ∙ y) (b' ∙ sym two)) ∙ two
        | as_last x y z t ↦
            let same = old_front-old s new front f x in
            let one : 1 ≡ c = sym t ∙ a in
            one_on f' (k.nested (g.vertex s.last) v (old f) (old f') 1 (wq_is g s new front shade stage step h).0 d' (ap (shade (g.vertex s.last)) same ∙ z) (b' ∙ sym one)) ∙ one
        | seen_first x y ↦
            let two : 2 ≡ c = sym y ∙ a in
            two_on f' (ap (λ v. shade v (old f')) (sym (on_first v f l x d)) ∙ b' ∙ sym two) ∙ two
        | seen_last x y ↦
            let one : 1 ≡ c = sym y ∙ a in
            one_on f' (ap (λ v. shade v (old f')) (sym (on_last v f l x d)) ∙ b' ∙ sym one) ∙ one
        | between x y z t ↦
            let three : 3 ≡ c = sym t ∙ a in
            let b3 : shade v (old f') ≡ 3 = b' ∙ sym three in
            let same = old_front-old s new front f x in
            elim (seen g s new front shade stage step h f') [
              | between x' y' z' t' ↦ t' ∙ three
              | as_first x' y' z' ↦
                  absurd (y (sym (ap (shade (g.vertex s.first)) same) ∙ (k.whole s.first v (old f') (old f) (omega arith) l b3 d').0 (ap (shade (g.vertex s.first)) (old_front-old s new front f' x') ∙ y')))
              | as_last x' y' z' t' ↦
                  absurd (z (sym (ap (shade (g.vertex s.last)) same) ∙ (k.whole s.last v (old f') (old f) w l b3 d').1 (ap (shade (g.vertex s.last)) (old_front-old s new front f' x') ∙ z')))
              | seen_first x' y' ↦ absurd (not_three v s.first l (omega arith) o (ap (shade v) (sym (old_front-first s new front f' x')) ∙ b3))
              | seen_last x' y' ↦
                  let r : ℕ = s.last - 1 in
                  let r' : suc r ≡ s.last = omega arith in
                  absurd (not_three v r l (omega arith) (omega arith) (ap (shade v) (sym (old_front-last s new front f' r x' r')) ∙ b3))
            ]
      ]

  nested' : (u v f f' c : ℕ) → u < suc g.count → on' v f → shade' u f ≡ c → shade' v f' ≡ c → shade' u f' ≡ c
  nested' u v f f' c l d a b =
      let m = (placed' v f d).0 in
      elim (cases_lt u g.count) [
        | inl u_old ↦ elim (cases_lt v g.count) [
          | inl v_old ↦ older u f' u_old ∙ k.nested u v (old f) (old f') c u_old (old_on v f v_old d) (sym (older u f u_old) ∙ a) (sym (older v f' v_old) ∙ b)
          | inr v_new ↦
              let n : v ≡ g.count = omega arith in
              let j = new_on v f n d in
              let e : shade u (front j.0) ≡ c = sym (ap (shade u) j.3) ∙ sym (older u f u_old) ∙ a in
              let b' : shade' g.count f' ≡ c = ap (λ v. shade' v f') (sym n) ∙ b in
              grind (arith, sees_under, new_left, new_right)
        ]
        | inr u_new ↦
            let n : u ≡ g.count = omega arith in
            elim (cases_lt v g.count) [
              | inl v_old ↦ ap (λ u. shade' u f') n ∙ nested_new v f f' c v_old d (ap (λ u. shade' u f) (sym n) ∙ a) b
              | inr v_new ↦ let n' : u ≡ v = omega arith in ap (λ u. shade' u f') n' ∙ b
            ]
      ]

  pub IsNested-after : IsNested (after g s) (suc (suc new)) front' shade' on'
  IsNested-after = record { placed = placed'; edge = edge'; whole = whole'; nested = nested' }

pub IsNested-base : (steps : ℕ → Step) → IsNested base 1 (fronts steps 0) (shades steps 0) (IsOn steps 0)
IsNested-base steps = grind (arith, base_shade)

-- at each stage of a run
pub IsNested-run : (steps : ℕ → Step) (n : ℕ) → IsRun steps n → IsNested (stage_after steps n) (2 * n + 1) (fronts steps n) (shades steps n) (IsOn steps n)
IsNested-run steps zero run = IsNested-base steps
IsNested-run steps (suc n) run =
    let less = IsRun-less steps n (suc n) (omega arith) run in
    let e : suc (suc (2 * n + 1)) ≡ 2 * suc n + 1 = omega arith in
    subst (λ new. IsNested (stage_after steps (suc n)) new (fronts steps (suc n)) (shades steps (suc n)) (IsOn steps (suc n))) e
    (IsNested-after (stage_after steps n) (steps n) (2 * n + 1) (fronts steps n) (shades steps n) (IsOn steps n) (IsStage-run steps n less) (run n (omega arith)) (IsShaded-run steps n less) (IsNested-run steps n less))
