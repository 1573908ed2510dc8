-- Each map of this class has a rectangular order.
use Rattle.std.proofs.Common.{◌≡◌, ℕ, zero, suc, ◌+◌, ◌-◌, Bool, List, [], ◌∷◌, length, arith, ltb, lt-ltb, ltb-true}
use Rattle.classes.specs.Classes.{count_below}
use Rattle.map_lists.specs.Lists.{Lists}
use Rattle.map_theory.specs.Maps.{follows}
use Rattle.plane_peeling.specs.Restricted.{kept_but}
use Rattle.rect_orders.specs.Maps.{IsRectMap, closed}
use Rattle.rect_orders.specs.Orders.{IsRectOrder}
use Rattle.rect_orders.specs.Lefts.{IsRectLeft}
use Rattle.rect_orders.specs.Laws.{SomeRectOrder}
use Rattle.rect_orders.proofs.Closed.{length-closed}
use Rattle.rect_orders.proofs.Lefts.{IsRectLeft-begin, some_two_gone, IsRectLeft-less, IsRectLeft-three}

module _ (lists : Lists) (s d p t : ℕ) (h : IsRectMap lists s d p t) where
  abbrev C : Lists
  C = closed lists s d p t

  -- with so many more than three left
  order_of_left : (k : ℕ) (kept : ℕ → Bool) (ws rest : List ℕ) → IsRectLeft lists s d p t kept ws rest → count_below kept (length C) ≡ 3 + k → (at : List ℕ) × IsRectOrder lists s d p t at
  order_of_left zero kept ws rest r n = (s ∷ t ∷ follows C t s ∷ rest, IsRectLeft-three lists s d p t h kept ws rest r n)
  order_of_left (suc k) kept ws rest r n =
      let found = some_two_gone lists s d p t h kept ws rest r in
      let less = IsRectLeft-less lists s d p t h kept ws rest r found.0 found.1 found.2 (omega arith) in
      order_of_left k (kept_but kept found.0) less.0 (found.0 ∷ rest) less.2 (omega arith)

-- THE LAW
pub some_rect_order : SomeRectOrder
some_rect_order lists s d p t h =
    let n = length lists in
    let kept : ℕ → Bool = λ v. ltb v n in
    let begin = IsRectLeft-begin lists s d p t h kept (λ v l. lt-ltb v n l) (λ v e. ltb-true v n e) in
    order_of_left lists s d p t h (n - 5) (kept_but (kept_but kept d) p) begin.1 (p ∷ d ∷ []) begin.4 (omega (arith, length-closed lists s d p t h))
