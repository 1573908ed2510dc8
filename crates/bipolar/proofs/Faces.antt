-- The faces of a bipolar map: each has one peak and one bottom, and its upward darts stand one above another.
use Rattle.std.proofs.Common.{◌≡◌, ◌⊎◌, ℕ, zero, suc, ◌+◌, ◌<◌, ◌≤◌, Bool, true, false, not, ◌&&◌, ltb, refl, sym, ap, ◌∙◌, subst, inl, inr, arith}
use Rattle.std.proofs.lemmas.Bool.{cases_Bool, cases_eq, ltb-true, ltb-false, lt-ltb, le-ltb, and_parts, and_from, false≢true, not_from_true, not_from_false, not-true}
use Rattle.classes.specs.Classes.{same_class}
use Rattle.classes.proofs.Classes.{Together-from, same_class-from}
use Rattle.classes.proofs.Orbits.{orbits_of, orbits_of-step, IsPermuting}
use Rattle.classes.proofs.Bound.{IsPermuting-pairing, after, IsPermuting-after}
use Rattle.bipolar.proofs.Upward.{SameTail, InFace, IsBipolar}
use Rattle.bipolar.proofs.Falls.{falls-from, IsMixed, IsMixed-not, one_fall_of_face, one_fall_of_vertex, some_or_none, some_fall, kept_on}

-- the dart goes upwards
abbrev pub up : (ℕ → ℕ) → (ℕ → ℕ) → ℕ → Bool
up g y i = ltb (y i) (y (g i))

-- of two upward darts one ends at or below the start of the other, or they are one
abbrev pub Apart : (ℕ → ℕ) → (ℕ → ℕ) → ℕ → ℕ → Type 0
Apart g y i j = (i ≡ j) ⊎ ((y (g i) ≤ y j) ⊎ (y (g j) ≤ y i))

module _ {k m : ℕ} {f g y : ℕ → ℕ} {st : ℕ} (d : IsBipolar k m f g y st) where
  pub twin_in : (i : ℕ) → i < k → g i < k
  twin_in i l = d.pairs.within i l

  pub step_in : (i : ℕ) → i < k → f (g i) < k
  step_in i l = d.rotates.within (g i) (twin_in i l)

  pub steps : IsPermuting (after f g) k
  steps = IsPermuting-after f g k d.rotates (IsPermuting-pairing g k d.pairs)

  -- the step leaves the vertex to which the dart leads
  pub step_rank : (i : ℕ) → i < k → y (f (g i)) ≡ y (g i)
  step_rank i l = d.turned (g i) (twin_in i l)

  pub step_face : (i : ℕ) → i < k → InFace k f g i (f (g i))
  step_face i l = orbits_of-step (after f g) k steps.within i l

  -- the twin and the next dart round the vertex are in one face
  pub corner : (i : ℕ) → i < k → InFace k f g (g i) (f i)
  corner i l = subst (λ x. InFace k f g (g i) (f x)) (d.pairs.back i l) (step_face (g i) (twin_in i l))

  pub is_up : (i : ℕ) → up g y i ≡ true → y i < y (g i)
  is_up i e = ltb-true (y i) (y (g i)) e

  pub up_from : (i : ℕ) → y i < y (g i) → up g y i ≡ true
  up_from i l = lt-ltb (y i) (y (g i)) l

  pub is_down : (i : ℕ) → i < k → up g y i ≡ false → y (g i) < y i
  is_down i l e = let low = ltb-false (y i) (y (g i)) e in let ne = d.slanted i l in elim (cases_eq (y i) (y (g i))) [ inl same ↦ absurd (ne same) | inr other ↦ omega arith ]

  pub down_from : (i : ℕ) → y (g i) < y i → up g y i ≡ false
  down_from i l = le-ltb (y i) (y (g i)) (omega arith)

  pub twin_up : (i : ℕ) → i < k → y (g i) < y i → y (g i) < y (g (g i))
  twin_up i l low = omega (arith, low, ap y (d.pairs.back i l))

  partner : (i : ℕ) → i < k → up g y (g i) ≡ not (up g y i)
  partner i l = grind (arith, cases_Bool, up, down_from, is_up, not_from_true, up_from, twin_up, is_down, not_from_false)

  -- a face in which all darts go down has none
  no_descent : (i n : ℕ) → ((j : ℕ) → j < k → InFace k f g i j → up g y j ≡ false) → (j : ℕ) → j < k → InFace k f g i j → y j ≤ n → ⊥
  no_descent i zero all j l same le = let low = is_down j l (all j l same) in omega arith
  no_descent i (suc n) all j l same le =
      no_descent i n all (f (g j)) (step_in j l) (same ∙ step_face j l) (omega (arith, is_down j l (all j l same), step_rank j l))

  no_ascent : (i n : ℕ) → ((j : ℕ) → j < k → InFace k f g i j → up g y j ≡ true) → (j : ℕ) → j < k → InFace k f g i j → y (g st) ≤ y j + n → ⊥
  no_ascent i zero all j l same le = omega (arith, is_up j (all j l same), d.greatest (g j) (twin_in j l), le)
  no_ascent i (suc n) all j l same le =
      no_ascent i n all (f (g j)) (step_in j l) (same ∙ step_face j l) (omega (arith, is_up j (all j l same), step_rank j l, le))

  pub face_passes : (i : ℕ) → i < k → (j : ℕ) × (j < k) × InFace k f g i j × (up g y j ≡ true)
  face_passes i l =
      elim (some_or_none (λ j. same_class (orbits_of (after f g) k) i j && up g y j) k) [
        | inl found ↦ (
            let parts = and_parts (same_class (orbits_of (after f g) k) i found.0) (up g y found.0) found.2 in
            (found.0, found.1, Together-from (orbits_of (after f g) k) i found.0 parts.0, parts.1)
            )
        | inr none ↦ absurd (no_descent i (y i) (λ j lj same. elim (cases_Bool (up g y j)) [
          | inl e ↦ absurd (false≢true (sym (none j lj) ∙ and_from (same_class (orbits_of (after f g) k) i j) (up g y j) (same_class-from (orbits_of (after f g) k) i j same) e))
          | inr e ↦ e
        ]) i l refl (omega arith))
      ]

  pub face_fails : (i : ℕ) → i < k → (j : ℕ) × (j < k) × InFace k f g i j × (up g y j ≡ false)
  face_fails i l =
      elim (some_or_none (λ j. same_class (orbits_of (after f g) k) i j && not (up g y j)) k) [
        | inl found ↦ (
            let parts = and_parts (same_class (orbits_of (after f g) k) i found.0) (not (up g y found.0)) found.2 in
            (found.0, found.1, Together-from (orbits_of (after f g) k) i found.0 parts.0, not-true (up g y found.0) parts.1)
            )
        | inr none ↦ absurd (no_ascent i (y (g st)) (λ j lj same. elim (cases_Bool (up g y j)) [
          | inl e ↦ e
          | inr e ↦ absurd (false≢true (sym (none j lj) ∙ and_from (same_class (orbits_of (after f g) k) i j) (not (up g y j)) (same_class-from (orbits_of (after f g) k) i j same) (not_from_false (up g y j) e)))
        ]) i l refl (omega arith))
      ]

  below_top : (i : ℕ) → i < k → (SameTail k f (g st) i → ⊥) → y i < y (g st)
  below_top i l ne = grind (arith, cases_eq, twin_in)

  above_base : (i : ℕ) → i < k → (SameTail k f st i → ⊥) → y st < y i
  above_base i l ne = grind (arith, cases_eq)

  pub mixed : IsMixed k m f g (up g y) st (g st)
  mixed = record {
    rotates = d.rotates;
    pairs = d.pairs;
    edges = d.edges;
    plane = d.plane;
    partner = partner;
    face_passes = face_passes;
    face_fails = face_fails;
    vertex_passes = λ i l ns nt. let j = d.later i l (below_top i l nt) in (j.0, j.1, d.vertices i j.0 l j.1 (sym j.2), up_from j.0 j.3);
    vertex_fails = λ i l ns nt. let j = d.earlier i l (above_base i l ns) in (j.0, j.1, d.vertices i j.0 l j.1 (sym j.2), down_from j.0 j.3);
  }

  -- one peak in each face: an upward dart behind which a downward one comes
  pub one_peak : (a b : ℕ) → a < k → b < k → InFace k f g a b → up g y a ≡ true → up g y (f (g a)) ≡ false → up g y b ≡ true → up g y (f (g b)) ≡ false → a ≡ b
  one_peak a b la lb same ua na ub nb = one_fall_of_face k m f g (up g y) st (g st) mixed a b la lb same (falls-from (up g y) (after f g) a ua na) (falls-from (up g y) (after f g) b ub nb)

  -- one bottom in each face
  pub one_bottom : (a b : ℕ) → a < k → b < k → InFace k f g a b → up g y a ≡ false → up g y (f (g a)) ≡ true → up g y b ≡ false → up g y (f (g b)) ≡ true → a ≡ b
  one_bottom a b la lb same na ua nb ub =
      one_fall_of_face k m f g (λ i. not (up g y i)) st (g st) (IsMixed-not k m f g (up g y) st (g st) mixed) a b la lb same
      (falls-from (λ i. not (up g y i)) (after f g) a (not_from_false (up g y a) na) (not_from_true (up g y (f (g a))) ua))
      (falls-from (λ i. not (up g y i)) (after f g) b (not_from_false (up g y b) nb) (not_from_true (up g y (f (g b))) ub))

  -- one leftmost upward edge at each vertex: one that comes behind a downward one
  pub one_rise : (a b : ℕ) → a < k → b < k → SameTail k f a b → up g y a ≡ false → up g y (f a) ≡ true → up g y b ≡ false → up g y (f b) ≡ true → a ≡ b
  one_rise a b la lb same na ua nb ub =
      one_fall_of_vertex k m f g (λ i. not (up g y i)) st (g st) (IsMixed-not k m f g (up g y) st (g st) mixed) a b la lb same
      (falls-from (λ i. not (up g y i)) f a (not_from_false (up g y a) na) (not_from_true (up g y (f a)) ua))
      (falls-from (λ i. not (up g y i)) f b (not_from_false (up g y b) nb) (not_from_true (up g y (f b)) ub))

  -- no upward dart of a face ends above its peak
  below_peak : (n p i : ℕ) → p < k → i < k → InFace k f g p i → up g y p ≡ true → up g y (f (g p)) ≡ false → up g y i ≡ true → y (g st) ≤ y i + n → y (g i) ≤ y (g p)
  below_peak zero p i lp li same tp np ti le = absurd (omega (arith, is_up i ti, d.greatest (g i) (twin_in i li), le))
  below_peak (suc n) p i lp li same tp np ti le =
      elim (cases_Bool (up g y (f (g i)))) [
        | inl e ↦ omega (arith, below_peak n p (f (g i)) lp (step_in i li) (same ∙ step_face i li) tp np e (omega (arith, is_up i ti, step_rank i li, le)), is_up (f (g i)) e, step_rank i li)
        | inr e ↦ (let one = one_peak p i lp li same tp np ti e in omega (arith, ap (λ x. y (g x)) one))
      ]

  chained : (n i j : ℕ) → i < k → j < k → InFace k f g i j → up g y i ≡ true → up g y j ≡ true → y (g st) + y (g st) ≤ y i + y j + n → Apart g y i j
  chained zero i j li lj same ui uj le = absurd (omega (arith, is_up i ui, is_up j uj, d.greatest (g i) (twin_in i li), d.greatest (g j) (twin_in j lj), le))
  chained (suc n) i j li lj same ui uj le =
      let i' = f (g i) in
      let j' = f (g j) in
      let si = step_rank i li in
      let sj = step_rank j lj in
      let hi = is_up i ui in
      let hj = is_up j uj in
      elim (cases_Bool (up g y i')) [
        | inl ti ↦ elim (cases_Bool (up g y j')) [
          | inl tj ↦
              both n i j li lj si sj hi hj (is_up i' ti) (is_up j' tj)
              (chained n i j' li (step_in j lj) (same ∙ step_face j lj) ui tj (omega (arith, le, sj, hj)))
              (chained n i' j (step_in i li) lj (sym (step_face i li) ∙ same) ti uj (omega (arith, le, si, hi)))
              (chained n i' j' (step_in i li) (step_in j lj) (sym (step_face i li) ∙ (same ∙ step_face j lj)) ti tj (omega (arith, le, si, hi, sj, hj)))
          | inr fj ↦
              let low = below_peak (y (g st)) j i' lj (step_in i li) (sym same ∙ step_face i li) uj fj ti (omega arith) in
              elim (chained n i' j (step_in i li) lj (sym (step_face i li) ∙ same) ti uj (omega (arith, le, si, hi))) [
                | inl e ↦ inr (inl (omega (arith, ap y e, si)))
                | inr o ↦ elim o [ inl e ↦ inr (inl (omega (arith, e, is_up i' ti, si))) | inr e ↦ absurd (omega (arith, e, low, is_up i' ti)) ]
              ]
        ]
        | inr fi ↦ elim (cases_Bool (up g y j')) [
          | inl tj ↦
              let low = below_peak (y (g st)) i j' li (step_in j lj) (same ∙ step_face j lj) ui fi tj (omega arith) in
              elim (chained n i j' li (step_in j lj) (same ∙ step_face j lj) ui tj (omega (arith, le, sj, hj))) [
                | inl e ↦ inr (inr (omega (arith, ap y e, sj)))
                | inr o ↦ elim o [ inl e ↦ absurd (omega (arith, e, low, is_up j' tj)) | inr e ↦ inr (inr (omega (arith, e, is_up j' tj, sj))) ]
              ]
          | inr fj ↦ inl (one_peak i j li lj same ui fi uj fj)
        ]
      ]
    where
      both : (n i j : ℕ) → i < k → j < k → y (f (g i)) ≡ y (g i) → y (f (g j)) ≡ y (g j) → y i < y (g i) → y j < y (g j) → y (f (g i)) < y (g (f (g i))) → y (f (g j)) < y (g (f (g j))) → Apart g y i (f (g j)) → Apart g y (f (g i)) j → Apart g y (f (g i)) (f (g j)) → Apart g y i j
      both n i j li lj si sj hi hj ti tj one two three = grind (arith, steps)

  -- of two upward darts of one face one ends at or below the start of the other, or they are one
  pub chain : (i j : ℕ) → i < k → j < k → InFace k f g i j → y i < y (g i) → y j < y (g j) → Apart g y i j
  chain i j li lj same ui uj = chained (y (g st) + y (g st)) i j li lj same (up_from i ui) (up_from j uj) (omega arith)

  -- the base dart is the only upward dart of its face
  pub base_only : (i : ℕ) → i < k → InFace k f g st i → y i < y (g i) → i ≡ st
  base_only i l same ui = grind (arith, twin_in, chain)

  pub base_up : y st < y (g st)
  base_up = let low = d.least (g st) (twin_in st d.base) in let ne = d.slanted st d.base in elim (cases_eq (y st) (y (g st))) [ inl e ↦ absurd (ne e) | inr o ↦ omega arith ]

  -- no downward dart of a face ends below its bottom
  above_bottom : (n r i : ℕ) → r < k → i < k → InFace k f g r i → up g y r ≡ false → up g y (f (g r)) ≡ true → up g y i ≡ false → y i ≤ n → y (g r) ≤ y (g i)
  above_bottom zero r i lr li same nr tr ni le = absurd (omega (arith, is_down i li ni, le))
  above_bottom (suc n) r i lr li same nr tr ni le =
      elim (cases_Bool (up g y (f (g i)))) [
        | inl e ↦ (let one = one_bottom r i lr li same nr tr ni e in omega (arith, ap (λ x. y (g x)) one))
        | inr e ↦ omega (arith, above_bottom n r (f (g i)) lr (step_in i li) (same ∙ step_face i li) nr tr e (omega (arith, is_down i li ni, step_rank i li, le)), is_down (f (g i)) (step_in i li) e, step_rank i li)
      ]

  -- a face lies above its bottom
  pub face_above : (r i : ℕ) → r < k → i < k → InFace k f g r i → y (g r) < y r → y (f (g r)) < y (g (f (g r))) → y (g r) ≤ y i
  face_above r i lr li same nr tr =
      let kept = kept_on (after f g) k steps (λ j. not (ltb (y j) (y (g r)))) r i lr li same
      (λ j lj s e.
      let above : y (g r) ≤ y (f (g j)) =
      elim (cases_Bool (up g y j)) [
        | inl u ↦ omega (arith, ltb-false (y j) (y (g r)) (not-true (ltb (y j) (y (g r))) e), is_up j u, step_rank j lj)
        | inr u ↦ omega (arith, above_bottom (y j) r j lr lj s (down_from r nr) (up_from (f (g r)) tr) u (omega arith), step_rank j lj)
      ] in
      not_from_false (ltb (y (f (g j))) (y (g r))) (le-ltb (y (f (g j))) (y (g r)) above))
      (not_from_false (ltb (y r) (y (g r))) (le-ltb (y r) (y (g r)) (omega arith))) in
      ltb-false (y i) (y (g r)) (not-true (ltb (y i) (y (g r))) kept)

  -- An upward dart that crosses the level between r and r + 1 has one before it: one that crosses it too, with the face on its right.
  pub crossing_before : (i r : ℕ) → i < k → y i ≤ r → r < y (g i) → (e : ℕ) × (e < k) × (y e ≤ r) × (r < y (g e)) × InFace k f g i (g e)
  crossing_before i r l low high =
      let found = some_fall (after f g) k steps (λ j. ltb r (y j)) (f (g i)) i (step_in i l) l (sym (step_face i l))
      (lt-ltb r (y (f (g i))) (omega (arith, step_rank i l, high)))
      (le-ltb r (y i) low) in
      let j = found.0 in
      let back = d.pairs.back j found.1 in
      let from = ltb-true r (y j) found.3 in
      let to = ltb-false r (y (f (g j))) found.4 in
      (g j, twin_in j found.1, omega (arith, step_rank j found.1, to), omega (arith, from, ap y back), subst (InFace k f g i) (sym back) (step_face i l ∙ found.2))
