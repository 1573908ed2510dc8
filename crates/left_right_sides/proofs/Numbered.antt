-- Vertices placed in the order of a search, from the last.
use Rattle.std.proofs.Common.{◌≡◌, ℕ, ◌-◌, ◌<◌, List, length, slice_index, sym, ap, subst, arith}
use Rattle.left_right_sides.specs.Standing.{Rooted, IsNext}
use Rattle.left_right_sides.specs.Views.{AreNumbered}

-- the vertex before the last k
pub next_at : (r : Rooted) (order : List ℕ) (k v : ℕ) → AreNumbered r order → length order ≡ r.n → k < length order → v ≡ slice_index order (length order - 1 - k) → IsNext r k v
next_at r order k v numbered whole l e =
    let a = numbered (length order - 1 - k) (omega arith) in
    let b = a.1 in
    let i = ap r.number e in
    (subst (λ z. z < r.n) (sym e) a.0, omega arith)
