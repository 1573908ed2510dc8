-- What an edge of a run tells of the counts of the faces on its two sides.
use Rattle.std.proofs.Common.{◌≡◌, ◌⊎◌, ℕ, suc, ◌+◌, ◌<◌, ◌≤◌, Bool, true, false, not, ◌&&◌, ltb, leb, refl, sym, ap, ap₂, ◌∙◌, subst, inl, inr, arith}
use Rattle.std.proofs.lemmas.Bool.{cases_lt, cases_eq, lt-ltb, le-ltb, lt-leb, le-leb}
use Rattle.contour_runs.specs.Runs.{Stage}
use Rattle.contour_runs.specs.Laws.{IsStage}
use Rattle.contour_runs.proofs.Upward.{upward}
use Rattle.contour_runs.specs.FaceRuns.{Step, moved, stage_after, IsStep, IsRun}
use Rattle.contour_runs.proofs.FaceRunsPlaces.{order, moved-le, place_after-older, place_after-new}
use Rattle.contour_runs.proofs.FaceRunsStages.{IsStage-run, IsRun-less, count-le, moved-low, moved-high}
use Rattle.convex_counts.proofs.Leads.{IsOff, off_after, off_covered}
use Rattle.convex_laws.specs.Walks.{flipped}
use Rattle.convex_laws.proofs.Flips.{flipped_assoc, flipped_comm, flipped_false}
use Rattle.convex_laws.proofs.FaceTests.{AreLater}

pub leb_same : (a b c d : ℕ) → (a ≤ b → c ≤ d) → (c ≤ d → a ≤ b) → leb a b ≡ leb c d
leb_same a b c d h g = grind (arith, cases_lt, lt-leb, le-leb)

pub ltb_not : (a b : ℕ) → ltb a b ≡ not (leb b a)
ltb_not a b = elim (cases_lt a b) [ inl l ↦ lt-ltb a b l ∙ ap not (sym (lt-leb b a l)) | inr l ↦ le-ltb a b l ∙ ap not (sym (le-leb b a l)) ]

flipped_nots : (a b : Bool) → flipped (not a) (not b) ≡ flipped a b
flipped_nots x0 x1 = grind arith

pub flipped_over : (a p b : Bool) → flipped (flipped a p) b ≡ flipped p (flipped a b)
flipped_over a p b = ap (λ z. flipped z b) (flipped_comm a p) ∙ sym (flipped_assoc p a b)

pub ltb_pair : (j t x : ℕ) → flipped (ltb j x) (ltb t x) ≡ flipped (leb x j) (leb x t)
ltb_pair j t x = ap₂ flipped (ltb_not j x) (ltb_not t x) ∙ flipped_nots (leb x j) (leb x t)

-- where a place before those of a step goes, and one behind them
module _ (g : Stage) (s : Step) (stage : IsStage g) (step : IsStep g s) (x j : ℕ) where
  pub low_to : j < s.first → x ≤ j → moved s x ≤ j
  low_to l m = let e = moved-low g s stage step x (omega arith) in omega arith

  pub low_from : j < s.first → moved s x ≤ j → x ≤ j
  low_from l m = elim (cases_lt j x) [
    | inr a ↦ a
    | inl a ↦ let e = moved-low g s stage step (suc j) (omega arith) in let k = moved-le g s step (suc j) x a in absurd (omega arith)
  ]

  pub high_to : (j' : ℕ) → s.last ≤ j → j' + s.last ≡ j + s.first + s.vertices + 1 → x ≤ j → moved s x ≤ j'
  high_to j' l e m = let h = moved-high g s stage step j l in let k = moved-le g s step x j m in omega arith

  pub high_from : (j' : ℕ) → s.last ≤ j → j' + s.last ≡ j + s.first + s.vertices + 1 → moved s x ≤ j' → x ≤ j
  high_from j' l e m = grind (arith, cases_lt, moved-high, moved-le)

-- A place lies on one side of an edge of the contour: a step that does not cover the edge keeps this, and a new vertex lies where the place `end` of the step does.
pub record IsSide (end : Step → ℕ) (above : ℕ → ℕ → Bool) : Type 0 where
  pub within : (g : Stage) (s : Step) → IsStep g s → end s < g.width
  pub low : (g : Stage) (s : Step) (x j : ℕ) → IsStage g → IsStep g s → j < s.first → above (moved s x) j ≡ above x j
  pub low_new : (g : Stage) (s : Step) (y j : ℕ) → IsStep g s → j < s.first → s.first < y → above y j ≡ above (end s) j
  pub high : (g : Stage) (s : Step) (x j j' : ℕ) → IsStage g → IsStep g s → s.last ≤ j → j' + s.last ≡ j + s.first + s.vertices + 1 → above (moved s x) j' ≡ above x j
  pub high_new : (g : Stage) (s : Step) (y j j' : ℕ) → IsStep g s → s.last ≤ j → j' + s.last ≡ j + s.first + s.vertices + 1 → y ≤ s.first + s.vertices → above y j' ≡ above (end s) j

pub IsSide-one : IsSide (λ s. s.last) (λ x j. leb x j)
IsSide-one = record {
  within = λ g s h. h.within;
  low = λ g s x j stage h l. leb_same (moved s x) j x j (low_from g s stage h x j l) (low_to g s stage h x j l);
  low_new = λ g s y j h l m. let o = order g s h in lt-leb y j (omega arith) ∙ sym (lt-leb s.last j (omega arith));
  high = λ g s x j j' stage h l e. leb_same (moved s x) j' x j (high_from g s stage h x j j' l e) (high_to g s stage h x j j' l e);
  high_new = λ g s y j j' h l e m. le-leb y j' (omega arith) ∙ sym (le-leb s.last j l);
}

pub IsSide-two : IsSide (λ s. s.first) (λ x j. ltb j x)
IsSide-two = record {
  within = λ g s h. let o = order g s h in let w = h.within in omega arith;
  low = λ g s x j stage h l. ltb_not j (moved s x) ∙ ap not (leb_same (moved s x) j x j (low_from g s stage h x j l) (low_to g s stage h x j l)) ∙ sym (ltb_not j x);
  low_new = λ g s y j h l m. lt-ltb j y (omega arith) ∙ sym (lt-ltb j s.first l);
  high = λ g s x j j' stage h l e. ltb_not j' (moved s x) ∙ ap not (leb_same (moved s x) j' x j (high_from g s stage h x j j' l e) (high_to g s stage h x j j' l e)) ∙ sym (ltb_not j x);
  high_new = λ g s y j j' h l e m. let o = order g s h in le-ltb j' y (omega arith) ∙ sym (le-ltb j s.first (omega arith));
}

-- What a covered vertex is not counted with: the test of a vertex by its place as a step comes.
abbrev pub third_test : (ℕ → Step) → ℕ → (ℕ → Bool) → ℕ → Bool
third_test steps m c v = ltb v (stage_after steps m).count && c ((stage_after steps m).place v)

module _ (steps : ℕ → Step) (n : ℕ) (run : IsRun steps n) where
  abbrev st : ℕ → Stage
  st k = stage_after steps k

  pub sound : (k : ℕ) → k ≤ n → IsStage (st k)
  sound k l = IsStage-run steps k (IsRun-less steps k n l run)

  -- what is at a place that a step covers is off all later contours
  pub clear : (m l v : ℕ) → m < l → l ≤ n → v < (st m).count → (steps m).first < (st m).place v → (st m).place v < (steps m).last → IsOff (st l) v
  clear m l v a b lv low high =
      let g = st m in
      let step = run m (omega arith) in
      let stage = sound m (omega arith) in
      let begun : IsOff (st (suc m)) v = elim (cases_eq (g.vertex (g.place v)) v) [
        | inl e ↦ subst (IsOff (st (suc m))) e (off_covered g (steps m) stage step (g.place v) low high)
        | inr ne ↦ off_after g (steps m) stage step v lv (λ p lp e. ne (ap g.vertex (sym (ap g.place e) ∙ stage.own p lp) ∙ e))
      ] in
      upward (λ z. IsOff (st z) v) (suc m) l a begun
      (λ z c d off. let q = count-le steps m z (omega arith) in off_after (st z) (steps z) (sound z (omega arith)) (run z (omega arith)) v (omega arith) off)

  module _ (end : Step → ℕ) (above : ℕ → ℕ → Bool) (side : IsSide end above) where
    pub end_within : (m : ℕ) → m < n → end (steps m) < (st m).width
    end_within m l = side.within (st m) (steps m) (run m l)

    pub end_placed : (m : ℕ) → m < n → (st m).vertex (end (steps m)) < (st m).count
    end_placed m l = (sound m (omega arith)).placed (end (steps m)) (end_within m l)

    end_own : (m : ℕ) → m < n → (st m).place ((st m).vertex (end (steps m))) ≡ end (steps m)
    end_own m l = (sound m (omega arith)).own (end (steps m)) (end_within m l)

    -- A and P differ for just what lies above the edge at place j of stage m
    abbrev pub Agrees : ℕ → ℕ → (ℕ → Bool) → (ℕ → Bool) → Type 0
    Agrees m j A P = (v : ℕ) → v < (st m).count → A v ≡ flipped (above ((st m).place v) j) (P v)

    module _ (m : ℕ) (lm : m < n) (A P : ℕ → Bool) (later_A : AreLater end steps n m A) (later_P : AreLater end steps n m P) where
      agrees_to : (j j' : ℕ) → Agrees m j A P → ((x : ℕ) → above (moved (steps m) x) j' ≡ above x j) → ((y : ℕ) → (steps m).first < y → y ≤ (steps m).first + (steps m).vertices → above y j' ≡ above (end (steps m)) j) → Agrees (suc m) j' A P
      agrees_to j j' h old new v l = elim (cases_lt v (st m).count) [
        | inl older ↦ h v older ∙ ap (λ b. flipped b (P v)) (sym (old ((st m).place v)) ∙ ap (λ z. above z j') (sym (place_after-older (st m) (steps m) v older)))
        | inr fresh ↦
            let w = (st m).vertex (end (steps m)) in
            let y = (st (suc m)).place v in
            let p = place_after-new (st m) (steps m) v fresh in
            later_A m v (omega arith) lm fresh l
            ∙ (h w (end_placed m lm)
            ∙ ap₂ flipped (ap (λ z. above z j) (end_own m lm) ∙ sym (new y (omega arith) (omega arith))) (sym (later_P m v (omega arith) lm fresh l)))
      ]

      pub agrees_low : (j : ℕ) → j < (steps m).first → Agrees m j A P → Agrees (suc m) j A P
      agrees_low j l h = agrees_to j j h (λ x. side.low (st m) (steps m) x j (sound m (omega arith)) (run m lm) l) (λ y a b. side.low_new (st m) (steps m) y j (run m lm) l a)

      pub agrees_high : (j j' : ℕ) → (steps m).last ≤ j → j' + (steps m).last ≡ j + (steps m).first + (steps m).vertices + 1 → Agrees m j A P → Agrees (suc m) j' A P
      agrees_high j j' l e h = agrees_to j j' h (λ x. side.high (st m) (steps m) x j j' (sound m (omega arith)) (run m lm) l e) (λ y a b. side.high_new (st m) (steps m) y j j' (run m lm) l e b)

      -- what the new vertices have, where A differs from P above the edge only
      pub agrees_new : (j v : ℕ) → Agrees m j A P → above (end (steps m)) j ≡ false → (st m).count ≤ v → v < (st m).count + (steps m).vertices → A v ≡ P v
      agrees_new j v h e a b =
          let w = (st m).vertex (end (steps m)) in
          later_A m v (omega arith) lm a b ∙ (h w (end_placed m lm) ∙ ap₂ flipped (ap (λ z. above z j) (end_own m lm) ∙ e) (sym (later_P m v (omega arith) lm a b)))

  -- a test that is false outside of the places that a step covers
  module _ (m : ℕ) (lm : m < n) (c : ℕ → Bool) (outside : (x : ℕ) → (x ≤ (steps m).first) ⊎ ((steps m).last ≤ x) → c x ≡ false) where
    abbrev third : ℕ → Bool
    third v = third_test steps m c v

    pub third-old : (v : ℕ) → v < (st m).count → third v ≡ c ((st m).place v)
    third-old v l = ap (λ b. b && c ((st m).place v)) (lt-ltb v (st m).count l)

    pub third-new : (v : ℕ) → (st m).count ≤ v → third v ≡ false
    third-new v l = ap (λ b. b && c ((st m).place v)) (le-ltb v (st m).count l)

    -- so it is along each later contour
    pub third-contour : (l p : ℕ) → m < l → l ≤ n → p < (st l).width → third ((st l).vertex p) ≡ false
    third-contour l p a b lp = grind (arith, st, cases_lt, third-new, third-old, clear)

    module _ (end : Step → ℕ) (above : ℕ → ℕ → Bool) (side : IsSide end above) (A B P : ℕ → Bool) (later_A : AreLater end steps n (suc m) A) (later_B : AreLater end steps n (suc m) B) (later_P : AreLater end steps n (suc m) P) (old : (v : ℕ) → v < (st m).count → flipped (A v) (B v) ≡ flipped (P v) (c ((st m).place v))) (new : (v : ℕ) → (st m).count ≤ v → v < (st m).count + (steps m).vertices → flipped (A v) (B v) ≡ P v) where
      abbrev Told : ℕ → Type 0
      Told l = (v : ℕ) → v < (st l).count → flipped (A v) (B v) ≡ flipped (P v) (third v)

      flat : (b : Bool) → (x : Bool) → x ≡ false → b ≡ flipped b x
      flat b x e = sym (flipped_false b) ∙ ap (flipped b) (sym e)

      told_begin : Told (suc m)
      told_begin v l = elim (cases_lt v (st m).count) [
        | inl older ↦ old v older ∙ ap (flipped (P v)) (sym (third-old v older))
        | inr fresh ↦ new v fresh l ∙ flat (P v) (third v) (third-new v fresh)
      ]

      told_after : (l : ℕ) → suc m ≤ l → l < n → Told l → Told (suc l)
      told_after l a b h v lv = elim (cases_lt v (st l).count) [
        | inl older ↦ h v older
        | inr fresh ↦
            let e = end (steps l) in
            let w = (st l).vertex e in
            let q = count-le steps m l (omega arith) in
            let known = h w (end_placed end above side l b) in
            let gone = third-contour l e (omega arith) (omega arith) (end_within end above side l b) in
            ap₂ flipped (later_A l v a b fresh lv) (later_B l v a b fresh lv) ∙ (known ∙ ap₂ flipped (sym (later_P l v a b fresh lv)) (gone ∙ sym (third-new v (omega arith))))
      ]

      pub told : (v : ℕ) → v < (st n).count → flipped (A v) (B v) ≡ flipped (P v) (third v)
      told v l = upward Told (suc m) n lm told_begin told_after v l
