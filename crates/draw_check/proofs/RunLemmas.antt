-- Runs of a list: their entries are entries of the list, and what holds up to a place holds up to the next.
use Rattle.std.proofs.Common.{◌≡◌, ℕ, ◌+◌, ◌-◌, ◌<◌, ◌≤◌, List, length, take, drop, get_or, All, sym, ap, ◌∙◌, subst, inl, inr, arith}
use Rattle.std.proofs.lemmas.Bool.{cases_lt}
use Rattle.std.proofs.lemmas.List.{get_or-take, get_or-drop, length-take-le, length-drop}
use Rattle.std.proofs.lemmas.List.Elements.{All-take, All-drop}

-- one place more
pub each_more : (P : ℕ → Type 0) (i : ℕ) → ((j : ℕ) → j < i → P j) → P i → (j : ℕ) → j < i + 1 → P j
each_more P i before here j less = elim (cases_lt j i) [
  | inl l ↦ before j l
  | inr more ↦ (let same : i ≡ j = omega arith in subst P same here)
]

-- the entries of a list from place b on before place e
abbrev pub run : List ℕ → ℕ → ℕ → List ℕ
run xs b e = take (e - b) (drop b xs)

module _ (xs : List ℕ) (b e : ℕ) (within : e ≤ length xs) where
  pub length-run : b ≤ e → length (run xs b e) ≡ e - b
  length-run order = length-take-le (e - b) (drop b xs) (omega (arith, length-drop b xs))

  pub run_at : (i : ℕ) → i < e - b → get_or (run xs b e) i 0 ≡ get_or xs (b + i) 0
  run_at i l = get_or-take (e - b) (drop b xs) i 0 l ∙ get_or-drop b xs i 0

  -- what holds of the entries of a run
  pub by_run : (P : ℕ → Type 0) → b ≤ e → ((i : ℕ) → i < length (run xs b e) → P (get_or (run xs b e) i 0)) → (i : ℕ) → b ≤ i → i < e → P (get_or xs i 0)
  by_run P order all i late less =
      subst P (run_at (i - b) (omega arith) ∙ ap (λ k. get_or xs k 0) (omega arith)) (all (i - b) (omega (arith, length-run order)))

  -- and of these places of the list
  pub to_run : (P : ℕ → Type 0) → b ≤ e → ((i : ℕ) → b ≤ i → i < e → P (get_or xs i 0)) → (i : ℕ) → i < length (run xs b e) → P (get_or (run xs b e) i 0)
  to_run P order all i l =
      let short = length-run order in
      subst P (sym (run_at i (omega (arith, short)))) (all (b + i) (omega arith) (omega (arith, short)))

-- what holds of all entries
pub All-run : (P : ℕ → Type 0) (xs : List ℕ) (b e : ℕ) → All P xs → All P (run xs b e)
All-run P xs b e all = All-take P (e - b) (drop b xs) (All-drop P b xs all)
