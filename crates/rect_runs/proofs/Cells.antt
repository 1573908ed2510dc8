-- Unit cells, named by their lower left corners: what is under a contour lies in just one box.
use Rattle.std.proofs.Common.{◌≡◌, ◌⊎◌, ℕ, zero, suc, ◌+◌, ◌-◌, ◌<◌, ◌≤◌, refl, sym, ap, subst, ◌∙◌, inl, inr, arith}
use Rattle.std.proofs.lemmas.Bool.{cases_eq, cases_lt}
use Rattle.contour_runs.specs.Runs.{Step, Stage, after, stage_after}
use Rattle.contour_runs.proofs.Places.{cases_place, vertex_after-low, vertex_after-new, vertex_after-high}
use Rattle.contour_runs.proofs.Stages.{count-stage_after}
use Rattle.rect_runs.specs.Numbers.{turn_of}
use Rattle.rect_runs.specs.Boxes.{Boxes}
use Rattle.rect_runs.proofs.Skyline.{IsLaid, IsBetween, step_at, turn_at, between, settled_high, stair_at, right_le, high_le}

-- the cell (a, c) is under a contour, and inside of a box
pub record IsUnder (g : Stage) (b : Boxes) (a c : ℕ) : Type 0 where
  pub place : ℕ
  pub within : place < g.width
  pub right : a < b.right (g.vertex place)
  pub high : c < b.high (g.vertex place)

pub record IsInside (b : Boxes) (v a c : ℕ) : Type 0 where
  pub left : b.left v ≤ a
  pub right : a < b.right v
  pub low : b.low v ≤ c
  pub high : c < b.high v

pub record AreCells (steps : ℕ → Step) (b : Boxes) (k : ℕ) : Type 0 where
  pub found : (a c : ℕ) → IsUnder (stage_after steps k) b a c → (v : ℕ) × (v < k + 2) × IsInside b v a c
  pub under : (v a c : ℕ) → v < k + 2 → IsInside b v a c → IsUnder (stage_after steps k) b a c
  pub alone : (u v a c : ℕ) → u < k + 2 → v < k + 2 → IsInside b u a c → IsInside b v a c → u ≡ v

module _ (steps : ℕ → Step) (n : ℕ) (b : Boxes) (width top : ℕ) (h : IsLaid steps n b width top) where
  upon : b.high 1 ≡ b.low 0
  upon = settled_high steps n b width top h 0 0 (omega arith) (omega arith) refl

  inside_base : (v a c : ℕ) → v < 2 → IsInside b v a c → ((v ≡ 0) × (b.low 0 ≤ c)) ⊎ ((v ≡ 1) × (c < b.low 0))
  inside_base v a c l i = grind (arith, cases_eq, upon)

  AreCells-base : AreCells steps b 0
  AreCells-base =
      let up = upon in
      record {
        found = λ a c u.
            let wider = right_le steps n b width top h 0 0 1 (omega arith) (omega arith) (omega arith) in
            elim (cases_eq u.place 0) [
              | inl e ↦
                  let r' : a < b.right 0 = omega (arith, ap b.right e) in
                  let t' : c < b.high 0 = omega (arith, ap b.high e) in
                  elim (cases_lt c (b.low 0)) [
                    | inl m ↦ (1, omega arith, record { left = omega arith; right = omega arith; low = omega arith; high = omega arith })
                    | inr m ↦ (0, omega arith, record { left = omega arith; right = r'; low = m; high = t' })
                  ]
              | inr ne ↦
                  let e : u.place ≡ 1 = omega arith in
                  (1, omega arith, record { left = omega arith; right = omega (arith, ap b.right e); low = omega arith; high = omega (arith, ap b.high e) })
            ];
        under = λ v a c l i. record { place = v; within = l; right = i.right; high = i.high };
        alone = λ u v a c lu lv iu iv. elim (inside_base u a c lu iu) [
          | inl p ↦ elim (inside_base v a c lv iv) [ inl q ↦ p.0 ∙ sym q.0 | inr q ↦ let x = p.1 in let y = q.1 in absurd (omega arith) ]
          | inr p ↦ elim (inside_base v a c lv iv) [ inr q ↦ p.0 ∙ sym q.0 | inl q ↦ let x = p.1 in let y = q.1 in absurd (omega arith) ]
        ];
      }

  module _ (k : ℕ) (l : k < n) where
    abbrev g : Stage
    g = stage_after steps k

    abbrev s : Step
    s = steps k

    abbrev c : ℕ
    c = turn_of steps k

    mid : IsBetween b (g.vertex s.first) (k + 2) (g.vertex s.last)
    mid = between steps n b width top h k l (stair_at steps n b width top h (suc k) l)

    at_left : b.right (g.vertex s.first) ≡ b.left (k + 2)
    at_left = h.right_is k s.first l (omega arith) (turn_at steps n b width top h k l).low

    at_bottom : b.high (g.vertex s.last) ≡ b.low (k + 2)
    at_bottom = h.high_is k s.last l (turn_at steps n b width top h k l).high (omega arith)

    -- nothing of the new box was under the contour before
    pub new_outside : (a d : ℕ) → IsUnder g b a d → IsInside b (k + 2) a d → ⊥
    new_outside a d u i =
        let t = turn_at steps n b width top h k l in
        let w = (step_at steps n b width top h k l).within in
        let within = u.within in
        elim (cases_lt c u.place) [
          | inr m ↦ omega (arith, right_le steps n b width top h k u.place c (omega arith) m (omega arith), h.right_is k c l t.low (omega arith))
          | inl m ↦ omega (arith, high_le steps n b width top h k (suc c) u.place (omega arith) m within, h.high_is k (suc c) l (omega arith) t.high)
        ]

    -- what was under the contour is so after the step
    still_under : (a d : ℕ) → IsUnder g b a d → IsUnder (after g s) b a d
    still_under a d u =
        let w = (step_at steps n b width top h k l).within in
        let within = u.within in
        let p = u.place in
        let at_first : a < b.right (g.vertex s.first) → d < b.high (g.vertex s.first) → IsUnder (after g s) b a d = λ x y.
        let e = vertex_after-low g s s.first (omega arith) in
        record { place = s.first; within = omega arith; right = omega (arith, ap b.right e); high = omega (arith, ap b.high e) } in
        let from_high : (q : ℕ) → s.last ≤ q → q < g.width → a < b.right (g.vertex q) → d < b.high (g.vertex q) → IsUnder (after g s) b a d = λ q m wq x y.
        let to : ℕ = q + suc (suc s.first) - s.last in
        let e = vertex_after-high g s to q (omega arith) m (omega arith) in
        record { place = to; within = omega arith; right = omega (arith, ap b.right e); high = omega (arith, ap b.high e) } in
        elim (cases_lt s.first p) [
          | inr m ↦
              let e = vertex_after-low g s p m in
              record { place = p; within = omega arith; right = omega (arith, ap b.right e); high = omega (arith, ap b.high e) }
          | inl m ↦ elim (cases_lt p s.last) [
            | inr q ↦ from_high p q within u.right u.high
            | inl q ↦ elim (cases_lt c p) [
              | inr f ↦ at_first (omega (arith, at_left, h.right_is k p l (omega arith) f)) (omega (arith, high_le steps n b width top h k s.first p (omega arith) (omega arith) within))
              | inl f ↦ from_high s.last (omega arith) w (omega (arith, right_le steps n b width top h k p s.last (omega arith) (omega arith) w)) (omega (arith, at_bottom, h.high_is k p l f (omega arith)))
            ]
          ]
        ]

    AreCells-after : AreCells steps b k → AreCells steps b (suc k)
    AreCells-after before =
        let step = step_at steps n b width top h k l in
        let count = count-stage_after steps k in
        let older : (a d : ℕ) → IsUnder g b a d → (v : ℕ) × (v < suc k + 2) × IsInside b v a d = λ a d u. let f = before.found a d u in let m = f.1 in (f.0, omega arith, f.2) in
        record {
          found = λ a d u.
              let m = mid in
              elim (cases_place g s u.place step u.within) [
                | inl p ↦
                    let e = vertex_after-low g s u.place p.low in
                    older a d record { place = u.place; within = omega arith; right = omega (arith, ap b.right e); high = omega (arith, ap b.high e) }
                | inr (inr p) ↦
                    let e = vertex_after-high g s u.place p.from (omega arith) p.high p.to in
                    older a d record { place = p.from; within = p.within; right = omega (arith, ap b.right e); high = omega (arith, ap b.high e) }
                | inr (inl p) ↦
                    let e = vertex_after-new g s u.place p.new ∙ count in
                    let r' : a < b.right (k + 2) = omega (arith, ap b.right e) in
                    let up' : d < b.high (k + 2) = omega (arith, ap b.high e) in
                    elim (cases_lt a (b.left (k + 2))) [
                      | inl x ↦ older a d record { place = s.first; within = omega arith; right = omega (arith, at_left); high = omega arith }
                      | inr x ↦ elim (cases_lt d (b.low (k + 2))) [
                        | inl y ↦ older a d record { place = s.last; within = step.within; right = omega arith; high = omega (arith, at_bottom) }
                        | inr y ↦ (k + 2, omega arith, record { left = x; right = r'; low = y; high = up' })
                      ]
                    ]
              ];
          under = λ v a d m i. elim (cases_lt v (k + 2)) [
            | inl old ↦ still_under a d (before.under v a d old i)
            | inr new ↦
                let z : v ≡ k + 2 = omega arith in
                let e = vertex_after-new g s (suc s.first) refl ∙ count ∙ sym z in
                record { place = suc s.first; within = omega arith; right = omega (arith, ap b.right e); high = omega (arith, ap b.high e) }
          ];
          alone = λ u v a d mu mv iu iv. elim (cases_lt u (k + 2)) [
            | inl ou ↦ elim (cases_lt v (k + 2)) [
              | inl ov ↦ before.alone u v a d ou ov iu iv
              | inr nv ↦ let z : v ≡ k + 2 = omega arith in absurd (new_outside a d (before.under u a d ou iu) (subst (λ v. IsInside b v a d) z iv))
            ]
            | inr nu ↦ elim (cases_lt v (k + 2)) [
              | inl ov ↦ let z : u ≡ k + 2 = omega arith in absurd (new_outside a d (before.under v a d ov iv) (subst (λ v. IsInside b v a d) z iu))
              | inr nv ↦ omega arith
            ]
          ];
        }

  pub cells_at : (k : ℕ) → k ≤ n → AreCells steps b k
  cells_at zero l = AreCells-base
  cells_at (suc k) l = AreCells-after k l (cells_at k (omega arith))
