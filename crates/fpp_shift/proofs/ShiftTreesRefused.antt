-- Trees of three vertices that wrong bodies would make: none is a tree from vertex 0. And uses of the tree that the bound refuses.
use Rattle.std.proofs.Common.{◌≡◌, ◌≤◌, ◌+◌, ◌*◌, ℕ, zero, suc, List, [], ◌∷◌, Option, Some, None, pos, refl, sym, ap, subst, inr, ⊎_elim, arith}
use Rattle.std.specs.Prelude.{unwrap_or}
use Rattle.map_lists.specs.declared.ids.VertexId.{VertexId}
use Rattle.fpp_shift.specs.declared.offset_trees.tree_nodes.Node.{Node}
use Rattle.fpp_shift.specs.Ways.{IsWay, IsTree}

abbrev to : ℕ → Option VertexId
to v = Some (record { 0 = v })

-- a node with this right link alone
abbrev right : Option VertexId → Node
right link = record { x = pos 0; y = pos 0; left = None; right = link }

-- the base turned round: vertex 1 leads to vertex 0
base_turned_round : IsTree (right (to 2) ∷ right (to 0) ∷ right (to 1) ∷ []) 0 → ⊥
base_turned_round t = t.first 1 (omega arith) (inr refl)

-- the row of vertex 2 turned round: the links go in a circle
row_turned_round : IsTree (right (to 1) ∷ right (to 2) ∷ right (to 0) ∷ []) 0 → ⊥
row_turned_round t = t.first 2 (omega arith) (inr refl)

-- the third vertex left out, which no link reaches
abbrev base : List Node
base = right (to 1) ∷ right None ∷ right None ∷ []

third_vertex_left_out : IsTree base 0 → ⊥
third_vertex_left_out t = let r = t.reached 2 (omega arith) in from_zero r.0 r.1
  where
    from_one : (us : List ℕ) → IsWay base 1 us 2 → ⊥
    from_one [] w = omega (arith, w)
    from_one (v ∷ us) w = ⊎_elim (λ l. cc (l)) (λ l. cc (l)) w.0

    from_zero : (us : List ℕ) → IsWay base 0 us 2 → ⊥
    from_zero [] w = omega (arith, w)
    from_zero (v ∷ us) w =
        ⊎_elim (λ l. cc (l)) (λ l. from_one us (subst (λ x. IsWay base x us 2) (sym (ap (λ u. unwrap_or u 0) l)) w.1)) w.0

-- A fan of many vertices, each put over the first one and the one put before it: absolute places in the tree, moved one by one, are read and set at each step but for that of the first vertex.
abbrev uses_one_by_one : ℕ → ℕ
uses_one_by_one zero = 0
uses_one_by_one (suc k) = uses_one_by_one k + 2 * (k + 1)

places_moved_one_by_one : (old new : ℕ) → new ≡ old + uses_one_by_one 40 → new ≤ old + 24 * 42 → ⊥
places_moved_one_by_one old new e l = omega (arith, e, l)

-- A body that counts on a counter of its own, and leaves that of its caller as it was: a count of another ledger does not fit the tree, so that it cannot be written, and no edit shows it; a new count of the ledger L wants a blank that is L, which a function over any L does not have (must-fail/counter-of-its-own.edit).
