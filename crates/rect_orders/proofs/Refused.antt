-- An order that a wrong body would give: the clause refuses it.
use Rattle.std.proofs.Common.{◌≡◌, ◌≢◌, ◌∙◌, ℕ, List, slice_index, sym}
use Rattle.map_lists.specs.Lists.{Lists}
use Rattle.rect_orders.specs.Orders.{IsRectOrder}

-- it begins with the bottom, and not with the left vertex
begins_with_the_bottom : (lists : Lists) (s d p t : ℕ) (at : List ℕ) → s ≢ t → slice_index at 0 ≡ t → ¬ IsRectOrder lists s d p t at
begins_with_the_bottom lists s d p t at other e w = other (sym w.canonical.built.first ∙ e)
