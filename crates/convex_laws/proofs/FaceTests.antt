-- Which faces each vertex counts in the coordinates of a run, face by face.
use Rattle.std.proofs.Common.{◌≡◌, ℕ, zero, suc, ◌+◌, ◌-◌, ◌<◌, ◌≤◌, Bool, false, ◌&&◌, ltb, leb, if◌then◌else◌, refl, sym, ap, ◌∙◌, inl, inr, arith}
use Rattle.std.proofs.lemmas.Bool.{cases_lt, cond-true, cond-false, lt-ltb, le-ltb, lt-leb, le-leb}
use Rattle.classes.specs.Classes.{count_below}
use Rattle.classes.proofs.Counting.{count_below_same, count_below_none}
use Rattle.contour_runs.specs.Runs.{Stage}
use Rattle.contour_runs.proofs.Upward.{upward}
use Rattle.contour_runs.specs.FaceRuns.{Step, stage_after, faces_made}
use Rattle.contour_runs.proofs.FaceRunsStages.{count-le}
use Rattle.convex_laws.proofs.FaceNumbers.{made-le}
use Rattle.convex_counts.specs.Counts.{turned, face_counts}
use Rattle.convex_counts.proofs.Gains.{turned-before, turned-from, one_after-older, two_after-older, one_after-new, two_after-new}
use Rattle.convex_laws.proofs.Covers.{count_below-add}

-- A vertex counts a face of a step or not: an older one by its place as the face is made, as `hits` says; one that is new in that step does not; and a later one as the vertex at the place `end` of the step in which it is new.
unfoldable pub counted : (Step → ℕ) → (Step → ℕ → ℕ → Bool) → (ℕ → Step) → ℕ → ℕ → ℕ → Bool
counted end hits steps zero f v = false
counted end hits steps (suc n) f v =
    if ltb f (faces_made steps n)
    then counted end hits steps n f (if ltb v (stage_after steps n).count then v else (stage_after steps n).vertex (end (steps n)))
    else (ltb v (stage_after steps n).count && hits (steps n) (f - faces_made steps n) ((stage_after steps n).place v))

-- A new vertex has what that at the place `end` has, from stage k on.
abbrev pub AreLater : (Step → ℕ) → (ℕ → Step) → ℕ → ℕ → (ℕ → Bool) → Type 0
AreLater end steps n k T =
    (m v : ℕ) → k ≤ m → m < n → (stage_after steps m).count ≤ v → v < (stage_after steps m).count + (steps m).vertices → T v ≡ T ((stage_after steps m).vertex (end (steps m)))

module _ (end : Step → ℕ) (hits : Step → ℕ → ℕ → Bool) (steps : ℕ → Step) where
  abbrev st : ℕ → Stage
  st k = stage_after steps k

  abbrev C : ℕ → ℕ → ℕ → Bool
  C n f v = counted end hits steps n f v

  unfold_old : (n f v : ℕ) → f < faces_made steps n → C (suc n) f v ≡ C n f (if ltb v (st n).count then v else (st n).vertex (end (steps n)))
  unfolding counted
  unfold_old n f v l = cond-true (ltb f (faces_made steps n)) _ _ (lt-ltb f (faces_made steps n) l)

  unfold_new : (n i v : ℕ) → C (suc n) (faces_made steps n + i) v ≡ (ltb v (st n).count && hits (steps n) i ((st n).place v))
  unfolding counted
  unfold_new n i v =
      let e : faces_made steps n + i - faces_made steps n ≡ i = omega arith in
      cond-false (ltb (faces_made steps n + i) (faces_made steps n)) _ _ (le-ltb (faces_made steps n + i) (faces_made steps n) (omega arith)) ∙ ap (λ i. ltb v (st n).count && hits (steps n) i ((st n).place v)) e

  pub counted-older : (n f v : ℕ) → f < faces_made steps n → v < (st n).count → C (suc n) f v ≡ C n f v
  counted-older n f v l m = unfold_old n f v l ∙ ap (C n f) (cond-true (ltb v (st n).count) v _ (lt-ltb v (st n).count m))

  pub counted-later : (n f v : ℕ) → f < faces_made steps n → (st n).count ≤ v → C (suc n) f v ≡ C n f ((st n).vertex (end (steps n)))
  counted-later n f v l m = unfold_old n f v l ∙ ap (C n f) (cond-false (ltb v (st n).count) v _ (le-ltb v (st n).count m))

  pub counted-hits : (n i v : ℕ) → v < (st n).count → C (suc n) (faces_made steps n + i) v ≡ hits (steps n) i ((st n).place v)
  counted-hits n i v l = unfold_new n i v ∙ ap (λ b. b && hits (steps n) i ((st n).place v)) (lt-ltb v (st n).count l)

  pub counted-new : (n i v : ℕ) → (st n).count ≤ v → C (suc n) (faces_made steps n + i) v ≡ false
  counted-new n i v l = unfold_new n i v ∙ ap (λ b. b && hits (steps n) i ((st n).place v)) (le-ltb v (st n).count l)

  -- from its stage on this does not change
  counted-kept : (k n f v : ℕ) → k ≤ n → f < faces_made steps k → v < (st k).count → C n f v ≡ C k f v
  counted-kept k n f v l lf lv =
      upward (λ z. C z f v ≡ C k f v) k n l refl
      (λ z a b e. counted-older z f v (let m = made-le steps k z a in omega arith) (let m = count-le steps k z a in omega arith) ∙ e)

  -- the test of a face, of all vertices
  abbrev pub test : ℕ → ℕ → ℕ → Bool
  test n f v = ltb f (faces_made steps n) && C n f v

  test_is : (n f v : ℕ) → f < faces_made steps n → test n f v ≡ C n f v
  test_is n f v l = ap (λ b. b && C n f v) (lt-ltb f (faces_made steps n) l)

  pub test-outer : (n v : ℕ) → test n (faces_made steps n) v ≡ false
  test-outer n v = ap (λ b. b && C n (faces_made steps n) v) (le-ltb (faces_made steps n) (faces_made steps n) (omega arith))

  module _ (n k i : ℕ) (lk : k < n) (li : i < (steps k).faces) where
    abbrev F : ℕ
    F = faces_made steps k + i

    in_next : F < faces_made steps (suc k)
    in_next = omega arith

    in_all : F < faces_made steps n
    in_all = let m = made-le steps (suc k) n lk in omega arith

    pub test-old : (v : ℕ) → v < (st k).count → test n F v ≡ hits (steps k) i ((st k).place v)
    test-old v l = test_is n F v in_all ∙ (counted-kept (suc k) n F v lk in_next (omega arith) ∙ counted-hits k i v l)

    pub test-new : (v : ℕ) → (st k).count ≤ v → v < (st k).count + (steps k).vertices → test n F v ≡ false
    test-new v l m = test_is n F v in_all ∙ (counted-kept (suc k) n F v lk in_next m ∙ counted-new k i v l)

    pub test-later : (within : (m : ℕ) → m < n → (st m).vertex (end (steps m)) < (st m).count) → AreLater end steps n (suc k) (test n F)
    test-later within m v a b c d =
        let f : F < faces_made steps m = omega (arith, made-le steps (suc k) m a) in
        let w = (st m).vertex (end (steps m)) in
        test_is n F v in_all
        ∙ (counted-kept (suc m) n F v b (omega arith) d
        ∙ (counted-later m F v f c ∙ sym (test_is n F w in_all ∙ counted-kept m n F w (omega arith) f (within m b))))

-- of the faces of a step so many turn at a place or behind it, and so many before it
abbrev pub one_hits : Step → ℕ → ℕ → Bool
one_hits s i x = leb x (s.turn i)

abbrev pub two_hits : Step → ℕ → ℕ → Bool
two_hits s i x = ltb (s.turn i) x

hits_one : (turn : ℕ → ℕ) (m x : ℕ) → count_below (λ i. leb x (turn i)) m + turned turn m x ≡ m
unfolding turned
hits_one turn zero x = omega arith
hits_one turn (suc m) x = elim (cases_lt (turn m) x) [
  | inl l ↦ omega (arith, hits_one turn m x, turned-before turn m x l, cond-false {A = ℕ} (leb x (turn m)) 1 0 (lt-leb x (turn m) l))
  | inr l ↦ omega (arith, hits_one turn m x, turned-from turn m x l, cond-true {A = ℕ} (leb x (turn m)) 1 0 (le-leb x (turn m) l))
]

hits_two : (turn : ℕ → ℕ) (m x : ℕ) → count_below (λ i. ltb (turn i) x) m ≡ turned turn m x
unfolding turned
hits_two turn zero x = omega arith
hits_two turn (suc m) x = elim (cases_lt (turn m) x) [
  | inl l ↦ omega (arith, hits_two turn m x, turned-before turn m x l, cond-true {A = ℕ} (ltb (turn m) x) 1 0 (lt-ltb (turn m) x l))
  | inr l ↦ omega (arith, hits_two turn m x, turned-from turn m x l, cond-false {A = ℕ} (ltb (turn m) x) 1 0 (le-ltb (turn m) x l))
]

-- the coordinates count these faces
module _ (steps : ℕ → Step) where
  abbrev pub one_counted : ℕ → ℕ → ℕ → Bool
  one_counted n f v = counted (λ s. s.last) one_hits steps n f v

  abbrev pub two_counted : ℕ → ℕ → ℕ → Bool
  two_counted n f v = counted (λ s. s.first) two_hits steps n f v

  pub one_is_count : (n v : ℕ) → count_below (λ f. one_counted n f v) (faces_made steps n) ≡ (face_counts steps n).one v
  one_is_count zero v = refl
  one_is_count (suc n) v =
      let g = stage_after steps n in
      let s = steps n in
      let F = faces_made steps n in
      let split = count_below-add (λ f. one_counted (suc n) f v) F s.faces in
      elim (cases_lt v g.count) [
        | inl older ↦
            let a = count_below_same (λ f. one_counted (suc n) f v) (λ f. one_counted n f v) F (λ f l. counted-older (λ s. s.last) one_hits steps n f v l older) in
            let b = count_below_same (λ i. one_counted (suc n) (F + i) v) (λ i. leb (g.place v) (s.turn i)) s.faces (λ i l. counted-hits (λ s. s.last) one_hits steps n i v older) in
            omega (arith, split, a, b, one_is_count n v, hits_one s.turn s.faces (g.place v), one_after-older g s (face_counts steps n) v older)
        | inr new ↦
            let a = count_below_same (λ f. one_counted (suc n) f v) (λ f. one_counted n f (g.vertex s.last)) F (λ f l. counted-later (λ s. s.last) one_hits steps n f v l new) in
            let b = count_below_same (λ i. one_counted (suc n) (F + i) v) (λ i. false) s.faces (λ i l. counted-new (λ s. s.last) one_hits steps n i v new) in
            omega (arith, split, a, b, count_below_none s.faces, one_is_count n (g.vertex s.last), one_after-new g s (face_counts steps n) v new)
      ]

  pub two_is_count : (n v : ℕ) → count_below (λ f. two_counted n f v) (faces_made steps n) ≡ (face_counts steps n).two v
  two_is_count zero v = refl
  two_is_count (suc n) v =
      let g = stage_after steps n in
      let s = steps n in
      let F = faces_made steps n in
      let split = count_below-add (λ f. two_counted (suc n) f v) F s.faces in
      elim (cases_lt v g.count) [
        | inl older ↦
            let a = count_below_same (λ f. two_counted (suc n) f v) (λ f. two_counted n f v) F (λ f l. counted-older (λ s. s.first) two_hits steps n f v l older) in
            let b = count_below_same (λ i. two_counted (suc n) (F + i) v) (λ i. ltb (s.turn i) (g.place v)) s.faces (λ i l. counted-hits (λ s. s.first) two_hits steps n i v older) in
            omega (arith, split, a, b, two_is_count n v, hits_two s.turn s.faces (g.place v), two_after-older g s (face_counts steps n) v older)
        | inr new ↦
            let a = count_below_same (λ f. two_counted (suc n) f v) (λ f. two_counted n f (g.vertex s.first)) F (λ f l. counted-later (λ s. s.first) two_hits steps n f v l new) in
            let b = count_below_same (λ i. two_counted (suc n) (F + i) v) (λ i. false) s.faces (λ i l. counted-new (λ s. s.first) two_hits steps n i v new) in
            omega (arith, split, a, b, count_below_none s.faces, two_is_count n (g.vertex s.first), two_after-new g s (face_counts steps n) v new)
      ]
