-- Where the links of the tree of offsets of a run lead.
use Rattle.std.proofs.Common.{◌≡◌, ◌≢◌, ◌+◌, ◌-◌, ◌<◌, ◌≤◌, ◌⊎◌, ℕ, zero, suc, Option, Some, None, nat_lt, if◌then◌else◌, refl, sym, ap, ◌∙◌, subst, inl, inr, arith}
use Rattle.std.proofs.lemmas.Bool.{cases_lt, cases_eq}
use Rattle.std.proofs.lemmas.Bool.Decides.{nat_tests}
use Rattle.contour_runs.specs.Runs.{Step, stage_after, IsRun, IsCovered}
use Rattle.contour_runs.specs.Laws.{IsStage}
use Rattle.contour_runs.proofs.Places.{vertex_after-new}
use Rattle.contour_runs.proofs.Stages.{IsStage-run, IsRun-less, count-stage_after, IsCovered-own, covered_alone, stands_or_covered}
use Rattle.fpp_shift.specs.Shift.{shift_points}
use Rattle.fpp_shift.specs.Grown.{Links, IsFrom, IsOffsetTree}

if-some : (a b w : ℕ) (z : ℕ) → (if nat_lt a b then Some z else None) ≡ Some w → (a < b) × (z ≡ w)
if-some a b w z e = elim (cases_lt a b) [
  | inl l ↦ let s : (if nat_lt a b then Some z else None) ≡ Some z = grind (arith, nat_tests) in let f : Some z ≡ Some w = sym s ∙ e in (l, cc)
  | inr l ↦ let s : (if nat_lt a b then Some z else None) ≡ None = grind (arith, nat_tests) in let f : None ≡ Some w = sym s ∙ e in absurd (cc)
]

if-then : (a b : ℕ) (z : ℕ) → a < b → (if nat_lt a b then Some z else None) ≡ Some z
if-then a b z l = grind (arith, nat_tests)

not-some : (o : Option ℕ) (w : ℕ) → o ≡ None → o ≡ Some w → ⊥
not-some o w e f = let g : None ≡ Some w = sym e ∙ f in cc

-- from the vertex of a step to the first one that it covers
pub record IsToFirst (steps : ℕ → Step) (n z u : ℕ) : Type 0 where
  pub step : ℕ
  pub earlier : step < n
  pub new : step + 2 ≡ z
  pub covers : suc (steps step).first < (steps step).last
  pub vertex : (stage_after steps step).vertex (suc (steps step).first) ≡ u

-- from one that is covered to the next
pub record IsToNext (steps : ℕ → Step) (n z u : ℕ) : Type 0 where
  pub step : ℕ
  pub place : ℕ
  pub earlier : step < n
  pub low : (steps step).first < place
  pub high : suc place < (steps step).last
  pub from : (stage_after steps step).vertex place ≡ z
  pub vertex : (stage_after steps step).vertex (suc place) ≡ u

-- along the last contour
pub record IsToTop (n z u : ℕ) : Type 0 where
  pub from : z ≡ 0
  pub vertex : u ≡ n + 1

pub record IsToEnd (n z u : ℕ) : Type 0 where
  pub from : z ≡ n + 1
  pub vertex : u ≡ 1

abbrev pub IsRight : (ℕ → Step) → ℕ → ℕ → ℕ → Type 0
IsRight steps n z u = IsToNext steps n z u ⊎ (IsToTop n z u ⊎ IsToEnd n z u)

-- the step and the place at which u is covered, and from where a link leads to it
pub record IsUnder (steps : ℕ → Step) (n z u : ℕ) : Type 0 where
  pub step : ℕ
  pub earlier : step < n
  pub covered : IsCovered steps step u
  pub first : covered.place ≡ suc (steps step).first → z ≡ step + 2
  pub next : covered.place ≢ suc (steps step).first → z ≡ (stage_after steps step).vertex (covered.place - 1)

module _ (name : ℕ → ℕ) (steps : ℕ → Step) (n : ℕ) (some : 1 ≤ n) (run : IsRun steps n) (end : (stage_after steps n).width ≡ 3) (t : Links) (tree : IsOffsetTree name steps n t) where
  stage : (k : ℕ) → k ≤ n → IsStage (stage_after steps k)
  stage k l = IsStage-run steps k (IsRun-less steps k n l run)

  -- the vertex between the ends of the last contour
  top_at : (stage_after steps n).vertex 1 ≡ n + 1
  top_at =
      let k : ℕ = n - 1 in
      let d : suc k ≡ n = omega arith in
      let step = run k (omega arith) in
      let wide = ap (λ i. (stage_after steps i).width) d ∙ end in
      let e : (stage_after steps (suc k)).vertex 1 ≡ (stage_after steps k).count = vertex_after-new (stage_after steps k) (steps k) 1 (omega arith) in
      omega (arith, ap (λ i. (stage_after steps i).vertex 1) d, e, count-stage_after steps k)

  -- what stands on it
  on_last : (z : ℕ) → z < n + 2 → (stage_after steps n).vertex ((stage_after steps n).place z) ≡ z → (z ≡ 0) ⊎ ((z ≡ n + 1) ⊎ (z ≡ 1))
  on_last z l e = grind (arith, stage, stage_after, cases_eq, top_at, count-stage_after)

  -- what is covered is older, and no vertex of the base
  covered-older : (k u : ℕ) → k < n → IsCovered steps k u → (u < k + 2) × (u ≢ 0) × (u ≢ 1)
  covered-older k u l c =
      let own = IsCovered-own steps k n u run l c in
      let s = stage k (omega arith) in
      let g = stage_after steps k in
      let step = run k l in
      let hi = c.high in (
        own.0,
        λ e. (let same = sym own.1 ∙ ap g.place (e ∙ sym s.begin) ∙ s.own 0 (omega arith) in omega (arith, same)),
        λ e. (let same = sym own.1 ∙ ap g.place (e ∙ sym (s.end (g.width - 1) (omega arith))) ∙ s.own (g.width - 1) (omega arith) in omega (arith, same)),
      )

  -- where a left link leads
  pub left-link : (z w : ℕ) → z < n + 2 → t.left z ≡ Some w → (u : ℕ) × (name u ≡ w) × IsToFirst steps n z u
  left-link z w l e =
      elim (cases_eq z 0) [
        | inl a ↦ absurd (not-some (t.left 0) w tree.covered.base_left.0 (ap t.left (sym a) ∙ e))
        | inr a ↦ elim (cases_eq z 1) [
          | inl b ↦ absurd (not-some (t.left 1) w tree.covered.base_left.1 (ap t.left (sym b) ∙ e))
          | inr b ↦
              let k : ℕ = z - 2 in
              let d : k + 2 ≡ z = omega arith in
              let f = if-some (suc (steps k).first) (steps k).last w (name ((stage_after steps k).vertex (suc (steps k).first))) (sym (tree.covered.left k (omega arith)) ∙ ap t.left d ∙ e) in
              ((stage_after steps k).vertex (suc (steps k).first), f.1, record { step = k; earlier = omega arith; new = d; covers = f.0; vertex = refl })
        ]
      ]

  -- where a right link leads
  pub right-link : (z w : ℕ) → z < n + 2 → t.right z ≡ Some w → (u : ℕ) × (name u ≡ w) × IsRight steps n z u
  right-link z w l e = elim (stands_or_covered steps n z run l) [
    | inl on ↦ grind (arith, on_last, Some, not-some)
    | inr found ↦
        let k = found.0 in
        let c = found.2 in
        let f = if-some (suc c.place) (steps k).last w (name ((stage_after steps k).vertex (suc c.place))) (sym (tree.covered.right k c.place found.1 c.low c.high) ∙ ap t.right c.vertex ∙ e) in
        ((stage_after steps k).vertex (suc c.place), f.1, inl record { step = k; place = c.place; earlier = found.1; low = c.low; high = f.0; from = c.vertex; vertex = refl })
  ]

  -- what they lead to is covered, or stands on the last contour
  pub under-first : (z u : ℕ) → IsToFirst steps n z u → IsUnder steps n z u
  under-first z u f = record {
    step = f.step;
    earlier = f.earlier;
    covered = record { place = suc (steps f.step).first; low = omega arith; high = f.covers; vertex = f.vertex };
    first = λ _. sym f.new;
    next = λ ne. absurd (ne refl);
  }

  pub under-next : (z u : ℕ) → IsToNext steps n z u → IsUnder steps n z u
  under-next z u f =
      let d : f.place ≡ suc f.place - 1 = omega arith in
      record {
        step = f.step;
        earlier = f.earlier;
        covered = record { place = suc f.place; low = omega arith; high = f.high; vertex = f.vertex };
        first = λ e. absurd (omega (arith, e));
        next = λ _. sym f.from ∙ ap (stage_after steps f.step).vertex d;
      }

  under-once : (z y u : ℕ) → IsUnder steps n z u → IsUnder steps n y u → z ≡ y
  under-once z y u a b =
      let k = covered_alone steps b.step a.step n u run b.earlier a.earlier b.covered a.covered in
      let own = IsCovered-own steps a.step n u run a.earlier a.covered in
      let own' = IsCovered-own steps b.step n u run b.earlier b.covered in
      let i : a.covered.place ≡ b.covered.place = sym own.1 ∙ ap (λ k. (stage_after steps k).place u) k ∙ own'.1 in
      let f = ap (λ k. suc (steps k).first) k in
      elim (cases_eq b.covered.place (suc (steps b.step).first)) [
        | inl e ↦ a.first (i ∙ e ∙ sym f) ∙ ap (λ k. k + 2) k ∙ sym (b.first e)
        | inr e ↦ a.next (λ s. e (sym i ∙ s ∙ f)) ∙ ap (λ k. (stage_after steps k).vertex (a.covered.place - 1)) k ∙ ap (λ i. (stage_after steps b.step).vertex (i - 1)) i ∙ sym (b.next e)
      ]

  abbrev IsChild : ℕ → ℕ → Type 0
  IsChild z u = IsUnder steps n z u ⊎ (IsToTop n z u ⊎ IsToEnd n z u)

  not-under-top : (z u : ℕ) → IsUnder steps n z u → u ≡ n + 1 → ⊥
  not-under-top z u a e = let o = covered-older a.step u a.earlier a.covered in let l = o.0 in let m = a.earlier in omega arith

  not-under-end : (z u : ℕ) → IsUnder steps n z u → u ≡ 1 → ⊥
  not-under-end z u a e = (covered-older a.step u a.earlier a.covered).2 e

  -- only one link leads to a vertex
  pub child-once : (z y u : ℕ) → IsChild z u → IsChild y u → z ≡ y
  child-once z y u a b = elim a [
    | inl a ↦ elim b [
      | inl b ↦ under-once z y u a b
      | inr b ↦ elim b [ inl b ↦ absurd (not-under-top z u a b.vertex) | inr b ↦ absurd (not-under-end z u a b.vertex) ]
    ]
    | inr a ↦ elim a [
      | inl a ↦ elim b [
        | inl b ↦ absurd (not-under-top y u b a.vertex)
        | inr b ↦ elim b [ inl b ↦ a.from ∙ sym b.from | inr b ↦ let e = a.vertex in let f = b.vertex in absurd (omega arith) ]
      ]
      | inr a ↦ elim b [
        | inl b ↦ absurd (not-under-end y u b a.vertex)
        | inr b ↦ elim b [ inl b ↦ let e = a.vertex in let f = b.vertex in absurd (omega arith) | inr b ↦ a.from ∙ sym b.from ]
      ]
    ]
  ]

  -- it is placed, and is not the first vertex
  pub child-placed : (z u : ℕ) → IsChild z u → (u < n + 2) × (u ≢ 0)
  child-placed z u a = elim a [
    | inl a ↦ let o = covered-older a.step u a.earlier a.covered in let l = o.0 in let m = a.earlier in (omega arith, o.1)
    | inr a ↦ elim a [ inl a ↦ let e = a.vertex in (omega arith, λ f. omega arith) | inr a ↦ let e = a.vertex in (omega arith, λ f. omega arith) ]
  ]

  -- a left link leads elsewhere than the right one
  pub left-apart : (z u w : ℕ) → IsToFirst steps n z u → IsRight steps n z w → u ≢ w
  unfolding under-next under-first
  left-apart z u w a b e =
      let under = under-first z u a in
      elim b [
        | inl b ↦
            let other = under-next z w b in
            let same = covered_alone steps b.step a.step n w run b.earlier a.earlier other.covered (subst (IsCovered steps a.step) e under.covered) in
            omega (arith, covered-older b.step z b.earlier (record { place = b.place; low = b.low; high = omega arith; vertex = b.from }))
        | inr b ↦ elim b [ inl b ↦ let f = b.from in omega arith | inr b ↦ not-under-end z u under (e ∙ b.vertex) ]
      ]

  -- an offset is from the vertex whose link leads there
  pub first-from : (z u : ℕ) → IsToFirst steps n z u → IsFrom t (shift_points steps n) z u
  first-from z u a =
      subst (λ u. IsFrom t (shift_points steps n) z u) a.vertex (subst (λ z. IsFrom t (shift_points steps n) z ((stage_after steps a.step).vertex (suc (steps a.step).first))) a.new (tree.covered.first a.step a.earlier a.covers))

  pub right-from : (z u : ℕ) → IsRight steps n z u → IsFrom t (shift_points steps n) z u
  right-from z u a = grind (arith, IsFrom, shift_points, stage_after)

  -- what holds of the first vertex, and goes along links, holds of each
  module _ (R : ℕ → Type 0) (begins : R 0) (goes : (z u : ℕ) → z < n + 2 → R z → (t.left z ≡ Some (name u)) ⊎ (t.right z ≡ Some (name u)) → R u) where
    along : (k : ℕ) → k < n → R (k + 2) → (d : ℕ) → suc (steps k).first + d < (steps k).last → R ((stage_after steps k).vertex (suc (steps k).first + d))
    along k l r zero m =
        let f : ℕ = suc (steps k).first in
        let d : f ≡ f + 0 = omega arith in
        subst (λ i. R ((stage_after steps k).vertex i)) d (goes (k + 2) ((stage_after steps k).vertex f) (omega arith) r (inl (tree.covered.left k l ∙ if-then f (steps k).last (name ((stage_after steps k).vertex f)) (omega arith))))
    along k l r (suc d) m =
        let i : ℕ = suc (steps k).first + d in
        let e : suc i ≡ suc (steps k).first + suc d = omega arith in
        let step = run k l in
        let old = (stage k (omega arith)).placed i (omega arith) in
        subst (λ i. R ((stage_after steps k).vertex i)) e
        (goes ((stage_after steps k).vertex i) ((stage_after steps k).vertex (suc i)) (omega (arith, count-stage_after steps k)) (along k l r d (omega arith))
        (inr (tree.covered.right k i l (omega arith) (omega arith) ∙ if-then (suc i) (steps k).last (name ((stage_after steps k).vertex (suc i))) (omega arith))))

    reaches : (m u : ℕ) → u < n + 2 → n + 2 ≤ u + m → R u
    reaches zero u l h = absurd (omega arith)
    reaches (suc m) u l h = elim (stands_or_covered steps n u run l) [
      | inl on ↦ elim (on_last u l on) [
        | inl a ↦ subst R (sym a) begins
        | inr more ↦
            let top : R (n + 1) = goes 0 (n + 1) (omega arith) begins (inr tree.first_right) in
            elim more [ inl a ↦ subst R (sym a) top | inr a ↦ subst R (sym a) (goes (n + 1) 1 (omega arith) top (inr tree.last_right)) ]
      ]
      | inr found ↦
          let k = found.0 in
          let c = found.2 in
          let older = (covered-older k u found.1 c).0 in
          let d : suc (steps k).first + (c.place - suc (steps k).first) ≡ c.place = omega arith in
          subst R (ap (stage_after steps k).vertex d ∙ c.vertex) (along k found.1 (reaches m (k + 2) (omega arith) (omega arith)) (c.place - suc (steps k).first) (omega arith))
    ]

    pub reaches-all : (u : ℕ) → u < n + 2 → R u
    reaches-all u l = reaches (n + 2) u l (omega arith)
