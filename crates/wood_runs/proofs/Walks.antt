-- A path is a vertex and its parent's path.
use Rattle.std.proofs.Common.{◌≡◌, ◌≢◌, ◌⊎◌, ℕ, zero, suc, ◌+◌, ◌<◌, ◌≤◌, true, refl, sym, ap, ◌∙◌, subst, inl, inr, arith, true≢false}
use Rattle.std.proofs.lemmas.Bool.{cases_lt}
use Rattle.contour_runs.specs.Runs.{Step, Stage, stage_after, IsRun}
use Rattle.contour_runs.proofs.Upward.{upward}
use Rattle.contour_runs.proofs.Stages.{IsStage-run, IsRun-less, count-stage_after, covered_together, IsCovered-own}
use Rattle.wood_runs.specs.Parents.{Colour, one, two, three, IsParent}
use Rattle.wood_runs.proofs.Sides.{paths}
use Rattle.wood_runs.proofs.Crossing.{root_at}
use Rattle.wood_runs.proofs.Steps.{on_lower-older, on_lower-new, on_lower-not, on_lower-self, on_upper-older, on_upper-over, on_upper-new, on_upper-self, on_upper-together}
use Rattle.wood_runs.proofs.Sided.{IsSided-run, base_one, base_two}

module _ (steps : ℕ → Step) where
  abbrev at : ℕ → Stage
  at k = stage_after steps k

  older : (m : ℕ) (c : Colour) (v w : ℕ) → v < (at m).count → w < (at m).count → paths steps (suc m) c v w ≡ paths steps m c v w
  older m one v w l k = on_lower-older (at m) (steps m) (paths steps m one) _ v w l k
  older m two v w l k = on_lower-older (at m) (steps m) (paths steps m two) _ v w l k
  older m three v w l k = on_upper-older (at m) (steps m) (paths steps m three) v w l k

  self : (m : ℕ) (c : Colour) (v w : ℕ) → v ≡ (at m).count → w ≡ (at m).count → paths steps (suc m) c v w ≡ true
  self m one v w l k = on_lower-self (at m) (steps m) (paths steps m one) _ v w l k
  self m two v w l k = on_lower-self (at m) (steps m) (paths steps m two) _ v w l k
  self m three v w l k = on_upper-self (at m) (steps m) (paths steps m three) v w l k

  -- the new vertex, on the paths of two that have one place where that matters
  over_both : (m : ℕ) (c : Colour) (u v : ℕ) → u < (at m).count → v < (at m).count → (c ≡ three → (at m).place u ≡ (at m).place v) → paths steps (suc m) c u (at m).count ≡ paths steps (suc m) c v (at m).count
  over_both m one u v l k e = on_lower-not (at m) (steps m) (paths steps m one) _ u (at m).count l refl ∙ sym (on_lower-not (at m) (steps m) (paths steps m one) _ v (at m).count k refl)
  over_both m two u v l k e = on_lower-not (at m) (steps m) (paths steps m two) _ u (at m).count l refl ∙ sym (on_lower-not (at m) (steps m) (paths steps m two) _ v (at m).count k refl)
  over_both m three u v l k e = on_upper-together (at m) (steps m) (paths steps m three) u v (at m).count l k refl (e refl)

  -- the path of v is v and the path of u
  abbrev pub GoesOn : Colour → ℕ → ℕ → ℕ → Type 0
  GoesOn c v u m =
      (w : ℕ) → w < (at m).count → (paths steps m c v w ≡ true → (w ≡ v) ⊎ (paths steps m c u w ≡ true)) × ((w ≡ v) ⊎ (paths steps m c u w ≡ true) → paths steps m c v w ≡ true)

  kept : (c : Colour) (v u m : ℕ) → v < (at m).count → u < (at m).count → (c ≡ three → (at m).place v ≡ (at m).place u) → GoesOn c v u m → GoesOn c v u (suc m)
  kept c v u m lv lu e h w l = elim (cases_lt w (at m).count) [
    | inl a ↦ (
      λ p. elim ((h w a).0 (sym (older m c v w lv a) ∙ p)) [ inl x ↦ inl x | inr x ↦ inr (older m c u w lu a ∙ x) ],
      λ p. older m c v w lv a ∙ (h w a).1 (elim p [ inl x ↦ inl x | inr x ↦ inr (sym (older m c u w lu a) ∙ x) ]),
    )
    | inr a ↦
        let n : w ≡ (at m).count = omega arith in
        let same = over_both m c v u lv lu e in (
          λ p. inr (ap (paths steps (suc m) c u) n ∙ sym same ∙ ap (paths steps (suc m) c v) (sym n) ∙ p),
          λ p. elim p [ inl x ↦ absurd (omega arith) | inr x ↦ ap (paths steps (suc m) c v) n ∙ same ∙ ap (paths steps (suc m) c u) (sym n) ∙ x ],
        )
  ]

  module _ (n : ℕ) (run : IsRun steps n) where
    less : (m : ℕ) → m ≤ n → IsRun steps m
    less m l = IsRun-less steps m n l run

    later : (c : Colour) (v u k : ℕ) → k < n → v < k + 3 → u < k + 3 → (c ≡ three → (m : ℕ) → suc k ≤ m → m ≤ n → (at m).place v ≡ (at m).place u) → GoesOn c v u (suc k) → GoesOn c v u n
    later c v u k l lv lu e begun =
        upward (GoesOn c v u) (suc k) n (omega arith) begun
        (λ m low high before. let t = count-stage_after steps m in kept c v u m (omega arith) (omega arith) (λ x. e x m low (omega arith)) before)

    -- a new vertex, and its parent of a lower colour
    born : (c : Colour) (k u : ℕ) → k < n → u < (at k).count → ((w : ℕ) → w < (at k).count → paths steps (suc k) c (at k).count w ≡ paths steps k c u w) → GoesOn c (at k).count u (suc k)
    born c k u l lu h w lw = grind (arith, cases_lt, at, older, self)

    pub goes_on : (c : Colour) (v u : ℕ) → IsParent c steps n v u → GoesOn c v u n
    goes_on one v u p =
        let k = p.step in
        let a = p.earlier in
        let count = count-stage_after steps k in
        let w = (run k a).within in
        let o = (run k a).order in
        let x = (IsStage-run steps k (less k (omega arith))).placed (steps k).first (omega arith) in
        let e : v ≡ (at k).count = p.vertex ∙ sym count in
        let t = p.parent in
        later one v u k a (omega arith) (omega arith) (λ y. absurd (one≢three y))
        (subst (λ v. GoesOn one v u (suc k)) (sym e) (subst (λ u. GoesOn one (at k).count u (suc k)) t (born one k ((at k).vertex (steps k).first) a x (λ w l. on_lower-new (at k) (steps k) (paths steps k one) _ (at k).count w refl l))))
      where
        one≢three : one ≢ three
        one≢three t = cc
    goes_on two v u p =
        let k = p.step in
        let a = p.earlier in
        let count = count-stage_after steps k in
        let w = (run k a).within in
        let x = (IsStage-run steps k (less k (omega arith))).placed (steps k).last w in
        let e : v ≡ (at k).count = p.vertex ∙ sym count in
        let t = p.parent in
        later two v u k a (omega arith) (omega arith) (λ y. absurd (two≢three y))
        (subst (λ v. GoesOn two v u (suc k)) (sym e) (subst (λ u. GoesOn two (at k).count u (suc k)) t (born two k ((at k).vertex (steps k).last) a x (λ w l. on_lower-new (at k) (steps k) (paths steps k two) _ (at k).count w refl l))))
      where
        two≢three : two ≢ three
        two≢three t = cc
    goes_on three v u p =
        let k = p.step in
        let a = p.earlier in
        let count = count-stage_after steps k in
        let wi = (run k a).within in
        let own = IsCovered-own steps k n v run a p.covered in
        let d = IsSided-run steps k (less k (omega arith)) in
        let lv : v < (at k).count = omega (arith, own.0) in
        let vi = p.covered.vertex in
        let t = p.parent in
        let pl = own.1 in
        let begun : GoesOn three v (at k).count (suc k) = λ w lw. elim (cases_lt w (at k).count) [
          | inl b ↦ (
            λ q. inl (d.top p.covered.place w (omega arith) b (ap (λ v. paths steps k three v w) vi ∙ sym (older k three v w lv b) ∙ q) ∙ vi),
            λ q. elim q [
              | inl x ↦ older k three v w lv b ∙ ap (paths steps k three v) x ∙ d.own_path three v lv
              | inr x ↦ absurd (true≢false (sym x ∙ on_upper-new (at k) (steps k) (paths steps k three) (at k).count w refl b))
            ],
          )
          | inr b ↦
              let n' : w ≡ (at k).count = omega arith in
              (λ q. inr (self k three (at k).count w refl n'), λ q. on_upper-over (at k) (steps k) (paths steps k three) v w lv n' (omega (arith, pl)) (omega (arith, pl)))
        ] in
        later three v u k a (omega arith) (omega arith) (λ y m low high. covered_together steps k m v (less m high) (omega arith) p.covered ∙ ap (at m).place (sym t))
        (subst (λ u. GoesOn three v u (suc k)) (sym (p.parent ∙ sym count)) begun)

    -- the path of a root is the root
    pub root_alone : (c : Colour) (w : ℕ) → 0 < n → w < n + 2 → paths steps n c (root_at n c) w ≡ true → w ≡ root_at n c
    root_alone one w some l p =
        upward (λ m. (w : ℕ) → w < m + 2 → paths steps m one 0 w ≡ true → w ≡ 0) 0 n (omega arith)
        (λ w l p. elim (base_one steps 0 w) [ inl a ↦ elim a.0 [ inl x ↦ x | inr x ↦ sym x ] | inr a ↦ absurd (true≢false (sym p ∙ a.2)) ])
        (λ m low high before w l p.
        let t = count-stage_after steps m in
        elim (cases_lt w (at m).count) [
          | inl a ↦ before w (omega arith) (sym (older m one 0 w (omega arith) a) ∙ p)
          | inr a ↦ absurd (true≢false (sym p ∙ on_lower-not (at m) (steps m) (paths steps m one) _ 0 w (omega arith) (omega arith)))
        ])
        w l p
    root_alone two w some l p =
        upward (λ m. (w : ℕ) → w < m + 2 → paths steps m two 1 w ≡ true → w ≡ 1) 0 n (omega arith)
        (λ w l p. elim (base_two steps 1 w) [ inl a ↦ sym a.0 | inr a ↦ absurd (true≢false (sym p ∙ a.1)) ])
        (λ m low high before w l p.
        let t = count-stage_after steps m in
        elim (cases_lt w (at m).count) [
          | inl a ↦ before w (omega arith) (sym (older m two 1 w (omega arith) a) ∙ p)
          | inr a ↦ absurd (true≢false (sym p ∙ on_lower-not (at m) (steps m) (paths steps m two) _ 1 w (omega arith) (omega arith)))
        ])
        w l p
    root_alone three w some l p = by n refl p
      where
        by : (m : ℕ) → m ≡ n → paths steps m three (suc n) w ≡ true → w ≡ suc n
        by zero e q = absurd (omega arith)
        by (suc m) e q =
            let t = count-stage_after steps m in
            elim (cases_lt w (at m).count) [ inl a ↦ absurd (true≢false (sym q ∙ on_upper-new (at m) (steps m) (paths steps m three) (suc n) w (omega arith) a)) | inr a ↦ omega arith ]
