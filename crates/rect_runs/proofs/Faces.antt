-- Joined vertices are those of darts on the faces that a run makes.
use Rattle.std.proofs.Common.{◌≡◌, ◌⊎◌, ◌↔◌, ℕ, suc, ◌+◌, ◌-◌, ◌<◌, ◌≤◌, refl, sym, ap, ◌∙◌, inl, inr, arith}
use Rattle.std.proofs.lemmas.Bool.{cases_lt, cases_Bool}
use Rattle.contour_runs.specs.Runs.{Step, stage_after, IsRun, IsDartOf, IsFaceOf}
use Rattle.contour_runs.proofs.Stages.{IsStage-run, IsRun-less, count-stage_after}
use Rattle.rect_runs.specs.Labels.{labels}
use Rattle.rect_runs.proofs.Parents.{parents}
use Rattle.rect_runs.specs.RectBoxesLaws.{AreJoined}

module _ (steps : ℕ → Step) (n : ℕ) (run : IsRun steps n) where
  -- what stands at a step is older than its vertex
  older : (k i : ℕ) → k < n → i ≤ (steps k).last → (stage_after steps k).vertex i < k + 2
  older k i l m =
      let p = (IsStage-run steps k (IsRun-less steps k n (omega arith) run)).placed i (omega (arith, (run k l).within)) in
      omega (arith, count-stage_after steps k)

  -- the two ends of an edge of a contour, the older one first
  edge_joined : (k i u v : ℕ) → k ≤ n → suc i < (stage_after steps k).width → u < v → ((stage_after steps k).vertex i ≡ u) × ((stage_after steps k).vertex (suc i) ≡ v) ⊎ ((stage_after steps k).vertex i ≡ v) × ((stage_after steps k).vertex (suc i) ≡ u) → AreJoined steps n u v
  edge_joined k i u v l m less e =
      let h = parents steps k i (IsRun-less steps k n l run) m in
      grind (arith, cases_Bool, labels, older)

  dart_joined : (k i u v : ℕ) → k < n → u < v → IsDartOf steps k i u v ⊎ IsDartOf steps k i v u → AreJoined steps n u v
  dart_joined k i u v l less d =
      let step = run k l in
      let count = count-stage_after steps k in
      elim d [
        | inl d ↦
            let f = d.face in
            let a = older k i l (omega (arith, f.high)) in
            elim d.dart [
              | inl x ↦ edge_joined k i u v (omega arith) (omega (arith, f.high)) less (inl (f.left ∙ sym x.0, f.right ∙ sym x.1))
              | inr (inl x) ↦ inr (k, l, record { new = x.1 ∙ sym f.new ∙ count; place = suc i; low = omega (arith, f.low); high = f.high; vertex = f.right ∙ sym x.0 })
              | inr (inr x) ↦ absurd (omega (arith, f.left, f.right, f.new, x.0, x.1))
            ]
        | inr d ↦
            let f = d.face in
            let b = older k (suc i) l f.high in
            elim d.dart [
              | inl x ↦ edge_joined k i u v (omega arith) (omega (arith, f.high)) less (inr (f.left ∙ sym x.0, f.right ∙ sym x.1))
              | inr (inl x) ↦ absurd (omega (arith, f.left, f.right, f.new, x.0, x.1))
              | inr (inr x) ↦ inr (k, l, record { new = x.0 ∙ sym f.new ∙ count; place = i; low = f.low; high = omega (arith, f.high); vertex = f.left ∙ sym x.1 })
            ]
      ]

  -- the face over an edge under a step
  face_over : (k i : ℕ) → (steps k).first ≤ i → i < (steps k).last → IsFaceOf steps k i ((stage_after steps k).vertex i) ((stage_after steps k).vertex (suc i)) (k + 2)
  face_over k i p q = record { low = p; high = q; left = refl; right = refl; new = count-stage_after steps k }

  joined_dart : (u v : ℕ) → 0 < n → AreJoined steps n u v → (k : ℕ) × (i : ℕ) × (k < n) × (IsDartOf steps k i u v ⊎ IsDartOf steps k i v u)
  joined_dart u v some j = elim j [
    | inl b ↦
        let o = (run 0 some).order in
        let w = (run 0 some).within in
        (0, 0, some, inl record { a = 0; b = 1; v = 2; face = face_over 0 0 (omega arith) (omega arith); dart = inl (b.0, b.1) })
    | inr (k, l, p) ↦
        let o = (run k l).order in
        elim (cases_lt p.place (steps k).last) [
          | inl m ↦ (k, p.place, l, inr record { a = _; b = _; v = _; face = face_over k p.place p.low m; dart = inr (inr (p.new, sym p.vertex)) })
          | inr m ↦
              let i : ℕ = p.place - 1 in
              let e : p.place ≡ suc i = omega arith in
              (k, i, l, inl record { a = _; b = _; v = _; face = face_over k i (omega arith) (omega arith); dart = inr (inl (sym p.vertex ∙ ap (stage_after steps k).vertex e, p.new)) })
        ]
  ]

pub joined_by_faces : (steps : ℕ → Step) (n u v : ℕ) → IsRun steps (suc n) → u < v → AreJoined steps (suc n) u v ↔ ((k : ℕ) × (i : ℕ) × (k < suc n) × (IsDartOf steps k i u v ⊎ IsDartOf steps k i v u))
joined_by_faces steps n u v run less = (λ j. joined_dart steps (suc n) run u v (omega arith) j, λ d. dart_joined steps (suc n) run d.0 d.1 u v d.2 less d.3)
