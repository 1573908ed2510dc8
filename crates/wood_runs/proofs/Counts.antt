-- Coordinates are counts of vertices on sides.
use Rattle.std.proofs.Common.{◌≡◌, ◌≢◌, ◌⊎◌, ℕ, zero, suc, ◌+◌, ◌*◌, ◌<◌, Bool, true, false, eqb, refl, sym, ap, ◌∙◌, subst, inl, inr, arith, eq-eqb, ne_eqb}
use Rattle.std.proofs.lemmas.Bool.{cases_eq, cases_lt}
use Rattle.classes.specs.Classes.{count_below}
use Rattle.classes.proofs.Counting.{one_if, count_below_same, count_below_more, count_below_none}
use Rattle.contour_runs.specs.Runs.{Step, Stage, stage_after, IsRun}
use Rattle.contour_runs.proofs.Stages.{IsStage-run, IsRun-less, count-stage_after}
use Rattle.contour_runs.specs.Wood.{coordinates}
use Rattle.contour_runs.proofs.Steps.{one_gain-low, one_gain-high, two_gain-low, two_gain-high, one_after-older, two_after-older, one_after-new, two_after-new}
use Rattle.wood_runs.proofs.Sides.{sides, paths}
use Rattle.wood_runs.specs.Fronts.{fronts, shades, IsOn}
use Rattle.wood_runs.proofs.Steps.{side_after-older, side_after-one, side_after-two, side_after-self}
use Rattle.wood_runs.proofs.Shades.{IsShaded-run, wp_is, wq_is}
use Rattle.wood_runs.proofs.Nested.{IsNested-run}
use Rattle.wood_runs.proofs.Sided.{IsSided-run, new_one, new_two}

-- the test of a number
abbrev pub is : ℕ → (ℕ → ℕ) → ℕ → Bool
is i f w = eqb (f w) i

same_test : (a b i : ℕ) → (a ≡ i → b ≡ i) → (b ≡ i → a ≡ i) → eqb a i ≡ eqb b i
same_test a b i h k = elim (cases_eq a i) [ inl e ↦ eq-eqb a i e ∙ sym (eq-eqb b i (h e)) | inr e ↦ ne_eqb a i e ∙ sym (ne_eqb b i (λ x. e (k x))) ]

last_in : (p : ℕ → Bool) (n : ℕ) → p n ≡ true → count_below p (suc n) ≡ count_below p n + 1
last_in p n e = omega (arith, ap one_if e)

last_out : (p : ℕ → Bool) (n : ℕ) → p n ≡ false → count_below p (suc n) ≡ count_below p n
last_out p n e = omega (arith, ap one_if e)

-- four values
count_four : (f : ℕ → ℕ) (n : ℕ) → ((w : ℕ) → w < n → (f w ≡ 0) ⊎ ((f w ≡ 1) ⊎ ((f w ≡ 2) ⊎ (f w ≡ 3)))) → count_below (is 0 f) n + count_below (is 1 f) n + count_below (is 2 f) n + count_below (is 3 f) n ≡ n
count_four f zero h = refl
count_four f (suc n) h =
    let less = count_four f n (λ w l. h w (omega arith)) in
    let not = λ (i j : ℕ) (ne : i ≢ j) (e : f n ≡ i). last_out (is j f) n (ne_eqb (f n) j (λ x. ne (sym e ∙ x))) in
    let yes = λ (i : ℕ) (e : f n ≡ i). last_in (is i f) n (eq-eqb (f n) i e) in
    grind (arith, less)

module _ (steps : ℕ → Step) where
  abbrev at : ℕ → Stage
  at k = stage_after steps k

  base_counts : (v : ℕ) → v < 2 → ((coordinates steps 0).one v ≡ count_below (is 1 (sides steps 0 v)) 2) × ((coordinates steps 0).two v ≡ count_below (is 2 (sides steps 0 v)) 2)
  base_counts zero l = (refl, refl)
  base_counts (suc zero) l = (refl, refl)
  base_counts (suc (suc v)) l = absurd (omega arith)

  module _ (n : ℕ) (run : IsRun steps (suc n)) where
    abbrev z : ℕ
    z = (at n).count

    less : IsRun steps n
    less = IsRun-less steps n (suc n) (omega arith) run

    abbrev side : ℕ → ℕ → ℕ
    side = sides steps n

    abbrev side' : ℕ → ℕ → ℕ
    side' = sides steps (suc n)

    older_same : (i v : ℕ) → v < z → count_below (is i (side' v)) z ≡ count_below (is i (side v)) z
    older_same i v l = count_below_same (is i (side' v)) (is i (side v)) z (λ w m. ap (λ x. eqb x i) (side_after-older (at n) (steps n) side v w l m))

    older_one : (v : ℕ) → v < z → (coordinates steps n).one v ≡ count_below (is 1 (side v)) z → (coordinates steps (suc n)).one v ≡ count_below (is 1 (side' v)) (suc z)
    older_one v l h = elim (cases_lt (steps n).first ((at n).place v)) [
      | inl a ↦
          let t = last_out (is 1 (side' v)) z (ap (λ x. eqb x 1) (side_after-two (at n) (steps n) side v z l refl a)) in
          omega (arith, t, older_same 1 v l, h, one_after-older (at n) (steps n) (coordinates steps n) v l, one_gain-high (steps n) ((at n).place v) a)
      | inr a ↦
          let t = last_in (is 1 (side' v)) z (ap (λ x. eqb x 1) (side_after-one (at n) (steps n) side v z l refl a)) in
          omega (arith, t, older_same 1 v l, h, one_after-older (at n) (steps n) (coordinates steps n) v l, one_gain-low (steps n) ((at n).place v) a)
    ]

    older_two : (v : ℕ) → v < z → (coordinates steps n).two v ≡ count_below (is 2 (side v)) z → (coordinates steps (suc n)).two v ≡ count_below (is 2 (side' v)) (suc z)
    older_two v l h = elim (cases_lt (steps n).first ((at n).place v)) [
      | inl a ↦
          let t = last_in (is 2 (side' v)) z (ap (λ x. eqb x 2) (side_after-two (at n) (steps n) side v z l refl a)) in
          omega (arith, t, older_same 2 v l, h, two_after-older (at n) (steps n) (coordinates steps n) v l, two_gain-high (steps n) ((at n).place v) a)
      | inr a ↦
          let t = last_out (is 2 (side' v)) z (ap (λ x. eqb x 2) (side_after-one (at n) (steps n) side v z l refl a)) in
          omega (arith, t, older_same 2 v l, h, two_after-older (at n) (steps n) (coordinates steps n) v l, two_gain-low (steps n) ((at n).place v) a)
    ]

    abbrev wp : ℕ
    wp = (at n).vertex (steps n).first

    abbrev wq : ℕ
    wq = (at n).vertex (steps n).last

    self_out : (i : ℕ) → i ≢ 0 → is i (side' z) z ≡ false
    self_out i ne = ne_eqb (side' z z) i (λ e. ne (sym e ∙ side_after-self (at n) (steps n) side z z refl refl))

    new_ones : (coordinates steps n).one wq ≡ count_below (is 1 (side wq)) z → (coordinates steps (suc n)).one z ≡ count_below (is 1 (side' z)) (suc z)
    new_ones h =
        let wq_in = (wq_is (at n) (steps n) (2 * n + 1) (fronts steps n) (shades steps n) (IsStage-run steps n less) (run n (omega arith)) (IsShaded-run steps n less)).0 in
        let own = (IsSided-run steps n less).own_side wq wq_in in
        let more = count_below_more (is 1 (side wq)) (is 1 (side' z)) z wq wq_in (ne_eqb (side wq wq) 1 (λ e. omega (arith, e, own))) (eq-eqb (side' z wq) 1 ((new_one (at n) (steps n) (2 * n + 1) (fronts steps n) (shades steps n) (IsOn steps n) (paths steps n) side (IsStage-run steps n less) (run n (omega arith)) (IsShaded-run steps n less) (IsNested-run steps n less) (IsSided-run steps n less) wq wq_in).1 (inl refl)))
        (λ w l ne. same_test (side wq w) (side' z w) 1 (λ e. (new_one (at n) (steps n) (2 * n + 1) (fronts steps n) (shades steps n) (IsOn steps n) (paths steps n) side (IsStage-run steps n less) (run n (omega arith)) (IsShaded-run steps n less) (IsNested-run steps n less) (IsSided-run steps n less) w l).1 (inr e)) (λ e. elim ((new_one (at n) (steps n) (2 * n + 1) (fronts steps n) (shades steps n) (IsOn steps n) (paths steps n) side (IsStage-run steps n less) (run n (omega arith)) (IsShaded-run steps n less) (IsNested-run steps n less) (IsSided-run steps n less) w l).0 e) [ inl x ↦ absurd (ne x) | inr x ↦ x ])) in
        omega (arith, more, h, last_out (is 1 (side' z)) z (self_out 1 (omega arith)), one_after-new (at n) (steps n) (coordinates steps n) z refl)

    new_twos : (coordinates steps n).two wp ≡ count_below (is 2 (side wp)) z → (coordinates steps (suc n)).two z ≡ count_below (is 2 (side' z)) (suc z)
    new_twos h =
        let same = count_below_same (is 2 (side' z)) (is 2 (side wp)) z (λ w l. same_test (side' z w) (side wp w) 2 (new_two (at n) (steps n) (2 * n + 1) (fronts steps n) (shades steps n) (IsOn steps n) (paths steps n) side (IsStage-run steps n less) (run n (omega arith)) (IsShaded-run steps n less) (IsNested-run steps n less) (IsSided-run steps n less) w l).0 (new_two (at n) (steps n) (2 * n + 1) (fronts steps n) (shades steps n) (IsOn steps n) (paths steps n) side (IsStage-run steps n less) (run n (omega arith)) (IsShaded-run steps n less) (IsNested-run steps n less) (IsSided-run steps n less) w l).1) in
        omega (arith, same, h, last_out (is 2 (side' z)) z (self_out 2 (omega arith)), two_after-new (at n) (steps n) (coordinates steps n) z refl)

  pub counts : (n v : ℕ) → IsRun steps n → v < (at n).count → ((coordinates steps n).one v ≡ count_below (is 1 (sides steps n v)) (at n).count) × ((coordinates steps n).two v ≡ count_below (is 2 (sides steps n v)) (at n).count)
  counts zero v run l = base_counts v l
  counts (suc n) v run l =
      let l' = IsRun-less steps n (suc n) (omega arith) run in
      elim (cases_lt v (at n).count) [
        | inl a ↦ let h = counts n v l' a in (older_one n run v a h.0, older_two n run v a h.1)
        | inr a ↦
            let e : v ≡ (at n).count = omega arith in
            let wq_in = (wq_is (at n) (steps n) (2 * n + 1) (fronts steps n) (shades steps n) (IsStage-run steps n l') (run n (omega arith)) (IsShaded-run steps n l')).0 in
            let wp_in = (wp_is (at n) (steps n) (2 * n + 1) (fronts steps n) (shades steps n) (IsStage-run steps n l') (run n (omega arith)) (IsShaded-run steps n l')).0 in
            let two' = new_twos n run (counts n ((at n).vertex (steps n).first) l' wp_in).1 in
            subst (λ v. ((coordinates steps (suc n)).one v ≡ count_below (is 1 (sides steps (suc n) v)) (suc (at n).count)) × ((coordinates steps (suc n)).two v ≡ count_below (is 2 (sides steps (suc n) v)) (suc (at n).count))) (sym e)
            (new_ones n run (counts n ((at n).vertex (steps n).last) l' wq_in).0, two')
      ]

  -- and each vertex but one lies on a side
  pub counts_all : (n v : ℕ) → IsRun steps n → v < n + 2 → count_below (is 1 (sides steps n v)) (n + 2) + count_below (is 2 (sides steps n v)) (n + 2) + count_below (is 3 (sides steps n v)) (n + 2) + 1 ≡ n + 2
  counts_all n v run l =
      let c = count-stage_after steps n in
      let sided = IsSided-run steps n run in
      let f = sides steps n v in
      let own = sided.own_side v (omega arith) in
      let four = count_four f (n + 2) (λ w m. elim (cases_eq v w) [ inl e ↦ inl (ap f (sym e) ∙ own) | inr ne ↦ inr (sided.some_side v w (omega arith) (omega arith) ne) ]) in
      let zeros = count_below_more (λ w. false) (is 0 f) (n + 2) v l refl (eq-eqb (f v) 0 own)
      (λ w m ne. sym (ne_eqb (f w) 0 (λ e. elim (sided.some_side v w (omega arith) (omega arith) (λ x. ne (sym x))) [ inl x ↦ omega (arith, e, x) | inr (inl x) ↦ omega (arith, e, x) | inr (inr x) ↦ omega (arith, e, x) ]))) in
      omega (arith, four, zeros, count_below_none (n + 2))

  pub counts_run : (n v : ℕ) → IsRun steps n → v < n + 2 → ((coordinates steps n).one v ≡ count_below (is 1 (sides steps n v)) (n + 2)) × ((coordinates steps n).two v ≡ count_below (is 2 (sides steps n v)) (n + 2))
  counts_run n v run l =
      let e = count-stage_after steps n in
      subst (λ k. ((coordinates steps n).one v ≡ count_below (is 1 (sides steps n v)) k) × ((coordinates steps n).two v ≡ count_below (is 2 (sides steps n v)) k)) e (counts n v run (omega arith))
