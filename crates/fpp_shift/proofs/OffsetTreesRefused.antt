-- Trees and sums that wrong bodies would leave: the clauses refuse them.
use Rattle.std.proofs.Common.{◌≡◌, ◌≢◌, ◌<◌, ℕ, zero, suc, List, [], ◌∷◌, Option, Some, None, true, ℤ, pos, refl, sym, ◌∙◌, inr, arith}
use Rattle.std.specs.Prelude.{slice_index}
use Rattle.std.proofs.lemmas.Int.{ints}
use Rattle.fpp_shift.specs.declared.offset_trees.tree_nodes.Node.{Node}
use Rattle.pg_plane.specs.declared.grid_points.Point.{Point}
use Rattle.fpp_shift.specs.Nodes.{right_of}
use Rattle.fpp_shift.specs.Sums.{AreMet}
use Rattle.fpp_shift.specs.Next.{CoversFrom}
use Rattle.contour_runs.specs.Runs.{Step, Stage}
use Rattle.fpp_shift.specs.Shift.{Places}
use Rattle.fpp_shift.specs.Grown.{Links, IsWritten}

-- vertex 0 with a right link to vertex 1, which stands 3 to the right of it
abbrev two : List Node
two = record { x = pos 0; y = pos 0; left = None; right = Some (record { 0 = 1 }) } ∷ record { x = pos 3; y = pos 0; left = None; right = None } ∷ []

-- the last vertex covered leads on
last_covered_leads_on : (nodes nodes' : List Node) (p before f : ℕ) (dx : ℤ) (first : Option ℕ) → before ≢ p → right_of nodes p ≡ Some f → right_of nodes' before ≡ Some p → CoversFrom nodes nodes' p before dx first → ⊥
last_covered_leads_on nodes nodes' p before f dx first ne e l c = cc (l, (c.1 ne f e).5.here)

-- the sum of vertex 1 without its own offset
own_offset_left_out : AreMet two 0 (0 ∷ 1 ∷ []) (record { x = pos 0; y = pos 0 } ∷ record { x = pos 0; y = pos 0 } ∷ []) 2 → ⊥
own_offset_left_out m = omega (arith, ints, m.added (1 ∷ []) 1 (1, omega arith, refl) (inr refl, refl))

-- both links of vertex 0 gone along, and vertex 1 not met
right_link_forgotten : (sums : List Point) → AreMet two 0 (0 ∷ []) sums 2 → ⊥
right_link_forgotten sums m =
    let met = m.closed 1 (record { place = 0; is_right = true; gone = (omega arith, omega arith); leads = refl }) in
    nowhere met.0 met.1 met.2
  where
    nowhere : (i : ℕ) → i < 1 → slice_index (0 ∷ []) i ≡ 1 → ⊥
    nowhere zero l e = omega (arith, e)
    nowhere (suc i) l e = omega (arith, l)

-- the last end of a row moves by two, and by no other number
end-unique : (name : ℕ → ℕ) (g : Stage) (s : Step) (at : Places) (t t' t'' : Links) → IsWritten name g s at t t' → IsWritten name g s at t t'' → t'.x (g.vertex s.last) ≡ t''.x (g.vertex s.last)
end-unique name g s at t t' t'' a b = omega (arith, ints, a.q_x, b.q_x)

-- and the top of a row is reckoned after the move
top-unique : (name : ℕ → ℕ) (g : Stage) (s : Step) (at : Places) (t t' t'' : Links) → IsWritten name g s at t t' → IsWritten name g s at t t'' → t'.y g.count ≡ t''.y g.count
top-unique name g s at t t' t'' a b = a.new_y ∙ sym b.new_y
