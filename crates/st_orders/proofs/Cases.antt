-- The definition of st-orders, worked on a triangle: from 0 to 1, with 2 between them.
use Rattle.std.proofs.Common.{◌≡◌, ◌≢◌, ℕ, zero, suc, ◌<◌, List, [], ◌∷◌, get_or, All, refl, arith}
use Rattle.std.proofs.lemmas.List.Elements.{All-cons, All-nil}
use Rattle.map_lists.specs.Lists.{Lists}
use Rattle.st_orders.specs.StOrders.{IsStOrder, HasEarlier, HasLater}

abbrev triangle : Lists
triangle = (1 ∷ 2 ∷ []) ∷ (2 ∷ 0 ∷ []) ∷ (0 ∷ 1 ∷ []) ∷ []

abbrev places : List ℕ
places = 0 ∷ 2 ∷ 1 ∷ []

own : (v : ℕ) → v < 3 → get_or places (get_or places v 0) 0 ≡ v
own zero l = refl
own (suc zero) l = refl
own (suc (suc zero)) l = refl
own (suc (suc (suc v))) l = absurd (omega arith)

earlier : (v : ℕ) → v < 3 → v ≢ 0 → HasEarlier triangle places v
earlier zero l ne = absurd (ne refl)
earlier (suc zero) l ne = (0, (omega arith, (1, omega arith, refl)), omega arith)
earlier (suc (suc zero)) l ne = (0, (omega arith, (0, omega arith, refl)), omega arith)
earlier (suc (suc (suc v))) l ne = absurd (omega arith)

later : (v : ℕ) → v < 3 → v ≢ 1 → HasLater triangle places v
later zero l ne = (1, (omega arith, (0, omega arith, refl)), omega arith)
later (suc zero) l ne = absurd (ne refl)
later (suc (suc zero)) l ne = (1, (omega arith, (1, omega arith, refl)), omega arith)
later (suc (suc (suc v))) l ne = absurd (omega arith)

below : All (λ x. x < 3) places
below = All-cons (λ x. x < 3) 0 (2 ∷ 1 ∷ []) (omega arith) (All-cons (λ x. x < 3) 2 (1 ∷ []) (omega arith) (All-cons (λ x. x < 3) 1 [] (omega arith) (All-nil (λ x. x < 3))))

triangle_case : IsStOrder triangle 0 1 places places
triangle_case = record {
  count = refl;
  ranks = refl;
  vertices = below;
  places = below;
  of_place = own;
  of_vertex = own;
  first = refl;
  last = refl;
  earlier = earlier;
  later = later;
}
