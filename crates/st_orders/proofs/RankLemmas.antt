-- Places alone give an st-order: there is a list of the vertices at them.
use Rattle.std.proofs.Common.{◌≡◌, ℕ, zero, suc, ◌<◌, ◌≤◌, List, length, get_or, set, replicate, length-set, get_or-set_same, get_or-set_other, sym, ◌∙◌, subst, inl, inr, arith}
use Rattle.std.proofs.lemmas.Bool.{cases_eq}
use Rattle.std.proofs.lemmas.List.{length-replicate}
use Rattle.map_lists.specs.Lists.{Lists}
use Rattle.st_orders.specs.StOrders.{IsStOrder}
use Rattle.st_orders.specs.Placing.{ArePlaces}

-- a list with the first k vertices at their places
at_places : (from : List ℕ) (n k : ℕ) → ((v : ℕ) → v < n → get_or from v 0 < n) → ((u v : ℕ) → u < n → v < n → get_or from u 0 ≡ get_or from v 0 → u ≡ v) → k ≤ n → (at : List ℕ) × (length at ≡ n) × ((v : ℕ) → v < k → get_or at (get_or from v 0) 0 ≡ v)
at_places from n zero within apart le = (replicate n 0, length-replicate n 0, λ v l. absurd (omega (arith, l)))
at_places from n (suc k) within apart le =
    let old = at_places from n k within apart (omega (arith, le)) in
    let place = get_or from k 0 in (
      set old.0 place k,
      length-set old.0 place k ∙ old.1,
      λ v l. elim (cases_eq v k) [
        | inl e ↦ subst (λ z. get_or (set old.0 place k) (get_or from z 0) 0 ≡ z) (sym e) (get_or-set_same old.0 place k 0 (omega (arith, within k (omega (arith, le)), old.1)))
        | inr ne ↦ get_or-set_other old.0 place (get_or from v 0) k 0 (λ same. ne (apart v k (omega (arith, l, le)) (omega (arith, le)) same)) ∙ old.2 v (omega (arith, l, ne))
      ],
    )

pub IsStOrder-places : (lists : Lists) (s t : ℕ) (from : List ℕ) → ArePlaces lists s t from → (at : List ℕ) × IsStOrder lists s t at from
IsStOrder-places lists s t from p =
    let at = at_places from (length lists) (length lists) p.within p.apart (omega arith) in
    (at.0, p.order_of at.0 at.1 at.2)
