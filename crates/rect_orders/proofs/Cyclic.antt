-- The places of a list from one on, cyclically.
use Rattle.std.proofs.Common.{◌≡◌, ◌≢◌, ℕ, suc, ◌+◌, ◌-◌, ◌<◌, ◌≤◌, ltb, cond, List, length, take, drop, get_or, sym, ap, ◌∙◌, inl, inr, arith, get_or-drop, get_or-take, length-drop}
use Rattle.std.proofs.lemmas.Bool.{cases_lt, cond-true, cond-false, lt-ltb, le-ltb}
use Rattle.std.proofs.lemmas.List.{get_or_append_left, get_or-append_right}
use Rattle.order_drawings.specs.Rows.{place_after}
use Rattle.rect_runs.specs.Corners.{End}
use Rattle.rect_runs.specs.Rounds.{from_place}

-- the place so many places behind another
unfoldable pub cyclic : ℕ → ℕ → ℕ → ℕ
cyclic m st j = cond (ltb (st + j) m) (st + j) (st + j - m)

pub cyclic-low : (m st j : ℕ) → st + j < m → cyclic m st j ≡ st + j
unfolding cyclic
cyclic-low m st j l = cond-true (ltb (st + j) m) (st + j) _ (lt-ltb (st + j) m l)

pub cyclic-high : (m st j : ℕ) → m ≤ st + j → cyclic m st j ≡ st + j - m
unfolding cyclic
cyclic-high m st j l = cond-false (ltb (st + j) m) (st + j) _ (le-ltb (st + j) m l)

pub after-low : (m i : ℕ) → i + 1 < m → place_after m i ≡ i + 1
after-low m i l = cond-true (ltb (i + 1) m) (i + 1) 0 (lt-ltb (i + 1) m l)

pub after-high : (m i : ℕ) → m ≤ i + 1 → place_after m i ≡ 0
after-high m i l = cond-false (ltb (i + 1) m) (i + 1) 0 (le-ltb (i + 1) m l)

pub after-lt : (m i : ℕ) → i < m → place_after m i < m
after-lt m i l = elim (cases_lt (i + 1) m) [ inl a ↦ omega (arith, after-low m i a) | inr a ↦ omega (arith, after-high m i a) ]

module _ (m st : ℕ) (here : st < m) where
  pub cyclic-lt : (j : ℕ) → j < m → cyclic m st j < m
  cyclic-lt j l = elim (cases_lt (st + j) m) [ inl a ↦ omega (arith, cyclic-low m st j a) | inr a ↦ omega (arith, cyclic-high m st j a) ]

  pub cyclic-suc : (j : ℕ) → suc j < m → place_after m (cyclic m st j) ≡ cyclic m st (suc j)
  cyclic-suc j l = grind (arith, cases_lt, place_after, cyclic-low, after-low, after-high, cyclic-high)

  -- each place is one of them
  pub cyclic-onto : (i : ℕ) → i < m → (j : ℕ) × (j < m) × (cyclic m st j ≡ i)
  cyclic-onto i l = elim (cases_lt i st) [
    | inl a ↦ (i + m - st, omega arith, let e : st + (i + m - st) - m ≡ i = omega arith in cyclic-high m st (i + m - st) (omega arith) ∙ e)
    | inr a ↦ (i - st, omega arith, let e : st + (i - st) ≡ i = omega arith in cyclic-low m st (i - st) (omega arith) ∙ e)
  ]

  -- the place before the first of them is the last
  pub cyclic-last : (i j : ℕ) → i < m → place_after m i ≡ st → suc j ≡ m → cyclic m st j ≡ i
  cyclic-last i j l e s = elim (cases_lt (i + 1) m) [
    | inl a ↦ let q = after-low m i a in let z : st + j - m ≡ i = omega arith in cyclic-high m st j (omega arith) ∙ z
    | inr a ↦ let q = after-high m i a in let z : st + j ≡ i = omega arith in cyclic-low m st j (omega arith) ∙ z
  ]

  -- and no other
  pub cyclic-not_last : (i j : ℕ) → i < m → place_after m i ≡ st → suc j < m → cyclic m st j ≢ i
  cyclic-not_last i j l e s q = grind (arith, cases_lt, cyclic-low, after-low, after-high, cyclic-high)

  pub get_or-from_place : (E : List End) (d : End) (j : ℕ) → length E ≡ m → j < m → get_or (from_place E st) j d ≡ get_or E (cyclic m st j) d
  get_or-from_place E d j size l = grind (arith, length, drop, length-drop, cases_lt, get_or_append_left, take, get_or-drop, get_or, cyclic-low, cyclic-high, get_or-append_right, get_or-take)
