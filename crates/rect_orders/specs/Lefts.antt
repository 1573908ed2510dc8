-- What is left of a map while its vertices are taken off, the top first and the right one next.
use Rattle.std.specs.Prelude.{ℕ, ◌+◌, ◌-◌, ◌<◌, ◌≤◌, ◌≡◌, ◌≢◌, Bool, false, List, length, slice_index, Contains}
use Rattle.map_lists.specs.Lists.{Lists}
use Rattle.map_theory.specs.Maps.{HasDart}
use Rattle.plane_peeling.specs.Peeled.{IsPeeled}
use Rattle.plane_peeling.specs.TwoGone.{IsOpenOutside}
use Rattle.canon_order.specs.Lefts.{IsLeft}
use Rattle.rect_orders.specs.Maps.{closed}
use Rattle.rect_orders.specs.Orders.{HasTwoLater}

-- two neighbours of v are taken off
pub record HasTwoGone (lists : Lists) (kept : ℕ → Bool) (v : ℕ) : Type 0 where
  pub one : ℕ
  pub other : ℕ
  pub apart : one ≢ other
  pub first : HasDart lists v one
  pub second : HasDart lists v other
  pub first_gone : kept one ≡ false
  pub second_gone : kept other ≡ false

-- The vertices of rest, and no others, were taken off, and lie around what is left; d was the first, p the second, and each other one had two neighbours among those taken off before it.
pub record IsRectLeft (lists : Lists) (s d p t : ℕ) (kept : ℕ → Bool) (ws rest : List ℕ) : Type 0 where
  pub left : IsLeft (closed lists s d p t) s t kept ws rest
  pub peeled : IsPeeled lists kept s t ws
  pub outside : IsOpenOutside lists kept t ws
  pub gone : (v : ℕ) → v < length lists → kept v ≡ false → Contains rest v
  pub top : kept d ≡ false
  pub right : kept p ≡ false
  pub some : 2 ≤ length rest
  pub last : slice_index rest (length rest - 2) ≡ p
  pub later : (i : ℕ) → i + 2 < length rest → HasTwoLater lists rest i
