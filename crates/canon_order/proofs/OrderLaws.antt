-- Each triangulation has a canonical order.
use Rattle.std.proofs.Common.{◌≡◌, ℕ, zero, suc, ◌+◌, ◌-◌, Bool, List, ◌∷◌, length, arith, ltb, lt-ltb, ltb-true}
use Rattle.classes.specs.Classes.{count_below}
use Rattle.map_lists.specs.Lists.{Lists}
use Rattle.map_theory.specs.Maps.{follows}
use Rattle.plane_laws.specs.Triangulations.{IsTriangulation}
use Rattle.plane_peeling.specs.Restricted.{kept_but}
use Rattle.plane_peeling.proofs.RemovableVertices.{some_removable}
use Rattle.plane_peeling.proofs.Steps.{removable_taken_off}
use Rattle.canon_order.specs.Orders.{IsCanonicalOrder}
use Rattle.canon_order.specs.Lefts.{IsLeft}
use Rattle.canon_order.specs.Laws.{SomeOrder}
use Rattle.canon_order.proofs.Lefts.{IsLeft-begin, IsLeft-taken, IsLeft-three}

module _ (lists : Lists) (s t : ℕ) (triangulation : IsTriangulation lists) where
  -- with so many more than three left
  order_of_left : (k : ℕ) (kept : ℕ → Bool) (ws rest : List ℕ) → IsLeft lists s t kept ws rest → count_below kept (length lists) ≡ 3 + k → (at : List ℕ) × IsCanonicalOrder lists (t, s) at
  order_of_left zero kept ws rest left n =
      (s ∷ t ∷ follows lists t s ∷ rest, IsLeft-three lists s t kept ws rest triangulation left n)
  order_of_left (suc k) kept ws rest left n =
      let removable = some_removable _ s t ws left.peeled.near.simple left.peeled.near.plane left.peeled.near.cycle in
      let v = removable.0 in
      let taken = removable_taken_off lists kept s t ws v triangulation left.peeled (omega arith) removable.1 in
      let fan = taken.0 in
      let less = taken.1 in
      order_of_left k (kept_but kept v) _ (v ∷ rest) (IsLeft-taken lists s t kept ws rest triangulation left v _ _ _ _ _ removable.1.on fan.5 less (omega arith)) (omega arith)

-- THE LAW
pub some_order : SomeOrder
some_order lists base triangulation has =
    let n = length lists in
    let left = IsLeft-begin lists base.1 base.0 (λ v. ltb v n) triangulation has (λ v l. lt-ltb v n l) (λ v e. ltb-true v n e) in
    order_of_left lists base.1 base.0 triangulation (n - 3) (λ v. ltb v n) _ _ left (omega arith)
