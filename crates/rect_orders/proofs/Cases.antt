-- The definitions, run on a wheel of four spokes: its hub inside, and the frame of four around it.
use Rattle.std.proofs.Common.{◌≡◌, [], ◌∷◌, refl, arith}
use Rattle.map_lists.specs.Lists.{Lists}
use Rattle.rect_orders.specs.Maps.{closed}
use Rattle.rect_orders.specs.Orders.{HasTwoLater}
use Rattle.rect_orders.specs.Runs.{shortened}

-- the left vertex is 0, the top 1, the right one 2, the bottom 3, and the hub 4
abbrev wheel : Lists
wheel = (1 ∷ 4 ∷ 3 ∷ []) ∷ (2 ∷ 4 ∷ 0 ∷ []) ∷ (3 ∷ 4 ∷ 1 ∷ []) ∷ (0 ∷ 4 ∷ 2 ∷ []) ∷ (0 ∷ 1 ∷ 2 ∷ 3 ∷ []) ∷ []

-- the new edge stands behind 0 in the list of 1, and behind 2 in that of 3
closed_wheel : closed wheel 0 1 2 3 ≡ (1 ∷ 4 ∷ 3 ∷ []) ∷ (2 ∷ 4 ∷ 0 ∷ 3 ∷ []) ∷ (3 ∷ 4 ∷ 1 ∷ []) ∷ (0 ∷ 4 ∷ 2 ∷ 1 ∷ []) ∷ (0 ∷ 1 ∷ 2 ∷ 3 ∷ []) ∷ []
closed_wheel = refl

-- in the order left, bottom, hub, right, top the hub has two later neighbours
hub_has_two : HasTwoLater wheel (0 ∷ 3 ∷ 4 ∷ 2 ∷ 1 ∷ []) 2
hub_has_two = grind arith

-- a step that ends a place earlier
shorter : shortened (λ k. record { first = 0; last = 2 }) 1 1 ≡ record { first = 0; last = 1 }
shorter = refl

as_before : shortened (λ k. record { first = 0; last = 2 }) 1 0 ≡ record { first = 0; last = 2 }
as_before = refl
