-- A way without repeats, by the places of its entries.
use Rattle.std.proofs.Common.{◌≡◌, ◌≢◌, ℕ, suc, ◌+◌, ◌-◌, ◌<◌, ◌≤◌, List, [], ◌∷◌, ◌++◌, length, get_or, AllPairs, Contains, refl, sym, ap, ◌∙◌, arith}
use Rattle.std.proofs.lemmas.List.{length-append, get_or_default, get_or_append_left}
use Rattle.plane_peeling.proofs.Rings.{Leads, Leads-at, last-entry}

-- the entry at a place of the way from u, by those between, to w
pub place : ℕ → List ℕ → ℕ → ℕ → ℕ
place u between w i = get_or (u ∷ between ++ w ∷ []) i 0

module _ (next : ℕ → ℕ) (u : ℕ) (between : List ℕ) (w : ℕ) (way : Leads next u (between ++ w ∷ []) w) (distinct : AllPairs ◌≢◌ (u ∷ between ++ w ∷ [])) where
  -- the last place
  abbrev m : ℕ
  m = length between + 1

  size : length (u ∷ between ++ w ∷ []) ≡ m + 1
  size = let n = length-append between (w ∷ []) in omega arith

  pub place_first : place u between w 0 ≡ u
  unfolding place
  place_first = refl

  pub place_last : place u between w m ≡ w
  unfolding place
  place_last =
      let n : m ≡ length ((u ∷ between) ++ w ∷ []) - 1 = omega (arith, length-append (u ∷ between) (w ∷ [])) in
      ap (λ k. get_or ((u ∷ between) ++ w ∷ []) k 0) n ∙ last-entry (u ∷ between) w 0

  pub place_next : (i : ℕ) → i < m → next (place u between w i) ≡ place u between w (suc i)
  unfolding place
  place_next i l = let n = size in sym (Leads-at next u (between ++ w ∷ []) w 0 i way (omega arith))

  pub place_apart : (i j : ℕ) → i < j → j ≤ m → place u between w i ≢ place u between w j
  unfolding place
  place_apart i j l l' = let n = size in distinct i j 0 l (omega arith)

  -- each but the last has its place
  pub place_is : (v : ℕ) (c : Contains (u ∷ between) v) → place u between w c.0 ≡ v
  unfolding place
  place_is v c =
      (let n = size in let l = c.1 in get_or_default (u ∷ between ++ w ∷ []) c.0 0 v (omega arith)) ∙ (get_or_append_left (u ∷ between) (w ∷ []) v c.0 c.1 ∙ c.2)

  -- and stands there
  pub place_in : (i : ℕ) → suc i < m → Contains between (place u between w (suc i))
  unfolding place
  place_in i l =
      let e : get_or between i 0 ≡ get_or (between ++ w ∷ []) i 0 = sym (get_or_append_left between (w ∷ []) 0 i (omega arith)) in
      (i, omega arith, get_or_default between i (get_or (between ++ w ∷ []) i 0) 0 (omega arith) ∙ e)
