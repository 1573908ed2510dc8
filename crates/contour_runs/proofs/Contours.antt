-- The contour of a stage as a list.
use Rattle.std.proofs.Common.{◌≡◌, ℕ, suc, ◌+◌, ◌-◌, ◌<◌, ◌≤◌, List, ◌∷◌, ◌++◌, length, get_or, take, drop, sym, ap, ◌∙◌, inl, inr, arith, length-append, length-drop}
use Rattle.std.proofs.lemmas.List.{length-take-le, get_or-take, get_or-drop, get_or_append_left, get_or-append-add}
use Rattle.std.proofs.lemmas.List.FromFn.{length-map-range_with_len, get_or-map-range_with_len, fill_by_all}
use Rattle.contour_runs.specs.Runs.{Step, Stage, vertex_after, after, IsStep, contour}
use Rattle.contour_runs.proofs.Places.{vertex_after-low, vertex_after-new, vertex_after-high, cases_place}

pub length-contour : (g : Stage) → length (contour g) ≡ g.width
length-contour g = length-map-range_with_len g.vertex 0 g.width

pub get_or-contour : (g : Stage) (i : ℕ) → i < g.width → get_or (contour g) i 0 ≡ g.vertex i
get_or-contour g i l = get_or-map-range_with_len g.vertex 0 g.width i i 0 l (omega arith)

-- a list with one entry in place of those strictly between the places p and q
abbrev pub spliced : ℕ → ℕ → ℕ → List ℕ → List ℕ
spliced v p q xs = take (suc p) xs ++ v ∷ drop q xs

module _ (v p q : ℕ) (xs : List ℕ) (l : p < q) (m : q < length xs) where
  length_front : length (take (suc p) xs) ≡ suc p
  length_front = length-take-le (suc p) xs (omega arith)

  pub length-spliced : length (spliced v p q xs) + q ≡ length xs + suc (suc p)
  length-spliced = omega (arith, length_front, length-append (take (suc p) xs) (v ∷ drop q xs), length-drop q xs)

  pub get_or-spliced-low : (i : ℕ) → i ≤ p → get_or (spliced v p q xs) i 0 ≡ get_or xs i 0
  get_or-spliced-low i a = get_or_append_left (take (suc p) xs) (v ∷ drop q xs) 0 i (omega (arith, length_front)) ∙ get_or-take (suc p) xs i 0 (omega arith)

  pub get_or-spliced-new : (i : ℕ) → i ≡ suc p → get_or (spliced v p q xs) i 0 ≡ v
  get_or-spliced-new i a =
      let e : i ≡ length (take (suc p) xs) + 0 = omega (arith, length_front) in
      ap (λ k. get_or (spliced v p q xs) k 0) e ∙ get_or-append-add (take (suc p) xs) (v ∷ drop q xs) 0 0

  pub get_or-spliced-high : (i j : ℕ) → q ≤ j → i + q ≡ j + suc (suc p) → get_or (spliced v p q xs) i 0 ≡ get_or xs j 0
  get_or-spliced-high i j a b =
      let e : i ≡ length (take (suc p) xs) + suc (j - q) = omega (arith, length_front) in
      let f : q + (j - q) ≡ j = omega arith in
      ap (λ k. get_or (spliced v p q xs) k 0) e ∙ get_or-append-add (take (suc p) xs) (v ∷ drop q xs) (suc (j - q)) 0 ∙ get_or-drop q xs (j - q) 0 ∙ ap (λ k. get_or xs k 0) f

pub contour_after : (g : Stage) (s : Step) → IsStep g s → contour (after g s) ≡ spliced g.count s.first s.last (contour g)
contour_after g s h =
    let o = h.order in
    let xs = contour g in
    let n = length-contour g in
    let m : s.last < length xs = omega arith in
    sym (fill_by_all (vertex_after g s) (spliced g.count s.first s.last xs) (after g s).width 0 (omega (arith, length-spliced g.count s.first s.last xs o m))
    (λ i l. elim (cases_place g s i h l) [
      | inl c ↦ let a = c.low in get_or-spliced-low g.count s.first s.last xs o m i a ∙ get_or-contour g i (omega arith) ∙ sym (vertex_after-low g s i a)
      | inr (inl c) ↦ get_or-spliced-new g.count s.first s.last xs o m i c.new ∙ sym (vertex_after-new g s i c.new)
      | inr (inr c) ↦
          let a = c.high in
          let e = c.to in
          get_or-spliced-high g.count s.first s.last xs o m i c.from a e ∙ get_or-contour g c.from c.within ∙ sym (vertex_after-high g s i c.from (omega arith) a e)
    ]))
