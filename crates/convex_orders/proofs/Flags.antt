-- Marks on numbers, written one after another along a row.
use Rattle.std.proofs.Common.{◌≡◌, ◌≢◌, ◌↔◌, ℕ, ◌<◌, Bool, true, false, List, length, slice_index, set, arith}
use Rattle.std.proofs.lemmas.Bool.{cases_eq, true≢false}
use Rattle.std.proofs.lemmas.List.{get_or-set_same, get_or-set_other}
use Rattle.convex_orders.specs.Shown.{is_set}

-- f stands at one of the first k places of a row
pub record IsBefore (row : List ℕ) (k f : ℕ) : Type 0 where
  pub place : ℕ
  pub within : place < k
  pub here : slice_index row place ≡ f

-- one mark taken away
pub set_less : (marks : List Bool) (x f : ℕ) → x < length marks → (is_set (set marks x false) f ≡ true) ↔ ((is_set marks f ≡ true) × (f ≢ x))
set_less marks x f l = grind (arith, cases_eq, true≢false, is_set, set, get_or-set_same, get_or-set_other)
