-- Lists that grow by a vertex at a time are the contours of a run.
use native.Mathlib.Bridge.{le_prop}
use Rattle.std.proofs.Common.{◌≡◌, ◌⊎◌, ℕ, zero, suc, ◌+◌, ◌-◌, ◌<◌, ◌≤◌, List, [], ◌∷◌, ◌++◌, map, length, get_or, take, drop, refl, sym, ap, ap₂, ◌∙◌, subst, inl, inr, arith, length-append, append_assoc}
use Rattle.std.proofs.lemmas.Bool.{cases_lt}
use Rattle.std.proofs.lemmas.List.{get_or_append_left, get_or-append-add, get_or-map, map-append, length-map, take-map, drop-map}
use Rattle.std.proofs.Math.Seq.{take-append-add, drop-append-add}
use Rattle.contour_runs.specs.Runs.{Step, Stage, stage_after, IsStep, contour}
use Rattle.contour_runs.specs.Laws.{IsPutOver, row, IsGrowing, IsRunOf}
use Rattle.contour_runs.proofs.Stages.{count-stage_after}
use Rattle.contour_runs.proofs.Contours.{spliced, length-contour, get_or-contour, contour_after}

-- names go into a list with a new entry
map-spliced : (f : ℕ → ℕ) (v p q : ℕ) (xs : List ℕ) → map f (spliced v p q xs) ≡ spliced (f v) p q (map f xs)
map-spliced f v p q xs = map-append f (take (suc p) xs) (v ∷ drop q xs) ∙ ap₂ (λ ys zs. ys ++ f v ∷ zs) (sym (take-map f (suc p) xs)) (sym (drop-map f q xs))

-- a new entry over a row, by the places of its ends
spliced-row : (v : ℕ) (front : List ℕ) (p : ℕ) (middle : List ℕ) (q : ℕ) (back : List ℕ) → spliced v (length front) (length front + length middle + 1) (front ++ (p ∷ middle ++ q ∷ back)) ≡ front ++ p ∷ v ∷ q ∷ back
spliced-row v front p middle q back =
    let e : suc (length front) ≡ length front + 1 = omega arith in
    let f : length front + length middle + 1 ≡ length front + (length (p ∷ middle) + 0) = omega arith in
    ap₂ (λ ys zs. ys ++ v ∷ zs)
    (ap (λ k. take k (front ++ (p ∷ middle ++ q ∷ back))) e ∙ take-append-add front (p ∷ middle ++ q ∷ back) 1)
    (ap (λ k. drop k (front ++ (p ∷ middle ++ q ∷ back))) f ∙ drop-append-add front (p ∷ middle ++ q ∷ back) (length (p ∷ middle) + 0) ∙ drop-append-add (p ∷ middle) (q ∷ back) 0)
    ∙ append_assoc front (p ∷ []) (v ∷ q ∷ back)

module _ (v : ℕ) (old new : List ℕ) (put : IsPutOver v old new) where
  -- the step that it names
  abbrev pub step_of : Step
  step_of = record { first = length put.front; last = length put.front + length put.middle + 1 }

  pub new-spliced : new ≡ spliced v step_of.first step_of.last old
  new-spliced = put.after ∙ sym (spliced-row v put.front put.p put.middle put.q put.back) ∙ ap (λ xs. spliced v step_of.first step_of.last xs) (sym put.before)

  pub length-old : step_of.last < length old
  length-old = omega (arith, ap length put.before, length-append put.front (put.p ∷ put.middle ++ put.q ∷ put.back), length-append (put.p ∷ put.middle) (put.q ∷ put.back))

  -- the row stands from the one place to the other
  pub get_or-row : (i : ℕ) → i < length put.middle + 2 → get_or old (length put.front + i) 0 ≡ get_or (row v old new put) i 0
  get_or-row i l =
      ap (λ xs. get_or xs (length put.front + i) 0) put.before ∙ get_or-append-add put.front (put.p ∷ put.middle ++ put.q ∷ put.back) i 0
      ∙ ap (λ xs. get_or xs i 0) (sym (append_assoc (put.p ∷ put.middle) (put.q ∷ []) put.back))
      ∙ get_or_append_left (put.p ∷ put.middle ++ put.q ∷ []) put.back 0 i (omega (arith, length-append (put.p ∷ put.middle) (put.q ∷ [])))

module _ (at : List ℕ) (cycle : ℕ → List ℕ) (g : IsGrowing at cycle) where
  abbrev put : (k : ℕ) → k + 2 < length at → IsPutOver (get_or at (k + 2) 0) (cycle (k + 2)) (cycle (suc (k + 2)))
  put = g.put

  abbrev step : (k : ℕ) → k + 2 < length at → Step
  step k l = step_of (get_or at (k + 2) 0) (cycle (k + 2)) (cycle (suc (k + 2))) (put k l)

  -- the steps, and any one from the end on
  picked : (k : ℕ) → (k + 2 < length at) ⊎ (length at ≤ k + 2) → Step
  picked k (inl l) = step k l
  picked k (inr l) = record { first = 0; last = 1 }

  steps_of : ℕ → Step
  steps_of k = picked k (cases_lt (k + 2) (length at))

  picked-step : (k : ℕ) (c : (k + 2 < length at) ⊎ (length at ≤ k + 2)) (l : k + 2 < length at) → picked k c ≡ step k l
  unfolding picked
  picked-step k (inl m) l = ap (λ z. step k z) (le_prop m l)
  picked-step k (inr m) l = absurd (omega arith)

  steps_of-step : (k : ℕ) (l : k + 2 < length at) → steps_of k ≡ step k l
  unfolding steps_of
  steps_of-step k l = picked-step k (cases_lt (k + 2) (length at)) l

  abbrev name : ℕ → ℕ
  name v = get_or at v 0

  abbrev stage : ℕ → Stage
  stage k = stage_after steps_of k

  width-stage : (k : ℕ) → cycle (k + 2) ≡ map name (contour (stage k)) → length (cycle (k + 2)) ≡ (stage k).width
  width-stage k e = ap length e ∙ length-map (contour (stage k)) name ∙ length-contour (stage k)

  is_step : (k : ℕ) (l : k + 2 < length at) → cycle (k + 2) ≡ map name (contour (stage k)) → IsStep (stage k) (steps_of k)
  is_step k l e =
      let m = length-old (name (k + 2)) (cycle (k + 2)) (cycle (suc (k + 2))) (put k l) in
      subst (λ z. IsStep (stage k) z) (sym (steps_of-step k l)) record { order = omega arith; within = omega (arith, width-stage k e) }

  contours : (k : ℕ) → k + 2 ≤ length at → cycle (k + 2) ≡ map name (contour (stage k))
  contours zero l = g.begin
  contours (suc k) l =
      let m : k + 2 < length at = omega arith in
      let less = contours k (omega arith) in
      let e : suc k + 2 ≡ suc (k + 2) = omega arith in
      ap cycle e ∙ new-spliced (name (k + 2)) (cycle (k + 2)) (cycle (suc (k + 2))) (put k m)
      ∙ ap₂ (λ z xs. spliced (name (k + 2)) z.first z.last xs) (sym (steps_of-step k m)) less
      ∙ ap (λ v. spliced (name v) (steps_of k).first (steps_of k).last (map name (contour (stage k)))) (sym (count-stage_after steps_of k))
      ∙ sym (map-spliced name (stage k).count (steps_of k).first (steps_of k).last (contour (stage k)))
      ∙ ap (map name) (sym (contour_after (stage k) (steps_of k) (is_step k m less)))

  -- the names of the vertices at the places of the row
  name-vertex : (k : ℕ) (l : k + 2 < length at) (i : ℕ) → i < length (put k l).middle + 2 → name ((stage k).vertex (length (put k l).front + i)) ≡ get_or (row (name (k + 2)) (cycle (k + 2)) (cycle (suc (k + 2))) (put k l)) i 0
  name-vertex k l i m =
      let less = contours k (omega arith) in
      let n = length-old (name (k + 2)) (cycle (k + 2)) (cycle (suc (k + 2))) (put k l) in
      let j : ℕ = length (put k l).front + i in
      let short : j < (stage k).width = omega (arith, width-stage k less) in
      ap name (sym (get_or-contour (stage k) j short)) ∙ sym (get_or-map name (contour (stage k)) j 0 0 (omega (arith, length-contour (stage k)))) ∙ ap (λ xs. get_or xs j 0) (sym less)
      ∙ get_or-row (name (k + 2)) (cycle (k + 2)) (cycle (suc (k + 2))) (put k l) i m

  pub lists_are_run : (steps : ℕ → Step) × IsRunOf at cycle g steps
  lists_are_run = (
    steps_of,
    record {
      run = λ k l. is_step k (omega arith) (contours k (omega arith));
      contours = contours;
      first = λ k l. ap (λ z. z.first) (steps_of-step k l);
      last = λ k l. ap (λ z. z.last) (steps_of-step k l);
      named = λ k l i a b v f.
          let s = ap (λ z. z.first) (steps_of-step k l) in
          let t = ap (λ z. z.last) (steps_of-step k l) in
          let e : length (put k l).front + (i - length (put k l).front) ≡ i = omega arith in
          let d : length (put k l).front + suc (i - length (put k l).front) ≡ suc i = omega arith in
          record {
            place = i - length (put k l).front;
            within = omega arith;
            left = sym (name-vertex k l (i - length (put k l).front) (omega arith)) ∙ ap (λ z. name ((stage k).vertex z)) e ∙ ap name f.left;
            right = sym (name-vertex k l (suc (i - length (put k l).front)) (omega arith)) ∙ ap (λ z. name ((stage k).vertex z)) d ∙ ap name f.right;
            top = ap name (sym (count-stage_after steps_of k) ∙ f.new);
          };
      made = λ k l x y z f.
          let s = ap (λ z. z.first) (steps_of-step k l) in
          let t = ap (λ z. z.last) (steps_of-step k l) in
          let i : ℕ = length (put k l).front + f.place in
          let d : length (put k l).front + suc f.place ≡ suc i = omega arith in (
            i,
            (stage k).vertex i,
            (stage k).vertex (suc i),
            record { low = omega arith; high = omega arith; left = refl; right = refl; new = count-stage_after steps_of k },
            name-vertex k l f.place (omega arith) ∙ f.left,
            ap (λ z. name ((stage k).vertex z)) (sym d) ∙ name-vertex k l (suc f.place) (omega arith) ∙ f.right,
          );
    },
  )
