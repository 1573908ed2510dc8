-- The laws of rectangular orders.
use Rattle.std.specs.Prelude.{ℕ, List}
use Rattle.map_lists.specs.Lists.{Lists}
use Rattle.map_theory.specs.Maps.{HasDart}
use Rattle.plane_laws.specs.Triangulations.{IsTriangulation}
use Rattle.rect_orders.specs.Maps.{IsRectMap, closed}
use Rattle.rect_orders.specs.Orders.{IsRectOrder}

-- The closed map is a triangulation, and its new edge was not there.
abbrev pub ClosedIsTriangulation : Type 0
ClosedIsTriangulation =
    (lists : Lists) (s d p t : ℕ) → IsRectMap lists s d p t → IsTriangulation (closed lists s d p t) × ¬ HasDart lists d t

-- Each map of this class has a rectangular order.
abbrev pub SomeRectOrder : Type 0
SomeRectOrder =
    (lists : Lists) (s d p t : ℕ) → IsRectMap lists s d p t → (at : List ℕ) × IsRectOrder lists s d p t at
