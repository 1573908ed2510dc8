-- Places and orders that wrong bodies would give.
use Rattle.std.proofs.Common.{◌≡◌, ℕ, List, [], ◌∷◌, Bool, true, false, not, refl, sym, ap, ◌∙◌, arith}
use Rattle.st_orders.specs.Placing.{IsPlacingIn}
use Rattle.st_orders.specs.StOrders.{IsStOrder}

-- the third vertex on the side of the child, towards it, of its low point
vertex_on_the_side_of_its_low_point : (from to : List ℕ) (recent : List Bool) (p : IsPlacingIn ((1 ∷ 2 ∷ []) ∷ (2 ∷ 0 ∷ []) ∷ (0 ∷ 1 ∷ []) ∷ []) (0 ∷ 1 ∷ 2 ∷ []) (0 ∷ 1 ∷ 2 ∷ []) (3 ∷ 3 ∷ 3 ∷ []) (3 ∷ 0 ∷ 1 ∷ []) (0 ∷ 0 ∷ 0 ∷ []) from to recent 3) → p.side 1 ≡ false → p.side 2 ≡ false → ⊥
vertex_on_the_side_of_its_low_point from to recent p child vertex =
    let h = p.placing.rule 2 1 (omega arith) (omega arith) (omega arith) (omega arith) refl (record { after = omega arith; before = omega arith }) in
    cc

-- the order of an edge turned
order_is_turned : (rank : List ℕ) → IsStOrder ((1 ∷ []) ∷ (0 ∷ []) ∷ []) 0 1 (1 ∷ 0 ∷ []) rank → ⊥
order_is_turned rank o = omega (arith, o.first)
