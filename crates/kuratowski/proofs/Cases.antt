-- Worked cases: pairs of branches, and faults of a witness of K5 with branches 0 to 4.
use Rattle.std.proofs.Common.{◌≡◌, ℕ, List, [], ◌∷◌, refl, inl, inr, arith}
use Rattle.map_lists.specs.declared.ids.VertexId.{VertexId}
use Rattle.kuratowski.specs.Witnesses.{pair_at, Joins}
use Rattle.kuratowski.specs.Faults.{IsBadBranch, LacksEdge, IsShared}
use Rattle.kuratowski.specs.declared.witness.Kind.TheVariants.{K5, K33}

abbrev v : ℕ → VertexId
v k = record { 0 = k }

abbrev five : List VertexId
five = v 0 ∷ v 1 ∷ v 2 ∷ v 3 ∷ v 4 ∷ []

-- the seventh path of K5 joins the branches 1 and 4, that of K3,3 the branches 2 and 3
seventh : pair_at K5 6 ≡ (1, 4)
seventh = refl

seventh' : pair_at K33 6 ≡ (2, 3)
seventh' = refl

-- the path 0 2 1 joins the first pair
joins : Joins five (v 0 ∷ v 2 ∷ v 1 ∷ []) (pair_at K5 0)
joins = record { long = omega arith; start = refl; end = refl }

-- its inner vertex is a branch
through : IsShared five ((v 0 ∷ v 2 ∷ v 1 ∷ []) ∷ []) 0 0 2
through = record {
  order = omega arith;
  within = omega arith;
  inner = (1, (omega arith, omega arith), refl);
  too = inl (refl, inl (2, omega arith, refl));
}

-- two paths through one vertex
shared : IsShared five ((v 0 ∷ v 7 ∷ v 1 ∷ []) ∷ (v 0 ∷ v 7 ∷ v 2 ∷ []) ∷ []) 0 1 7
shared = record {
  order = omega arith;
  within = omega arith;
  inner = (1, (omega arith, omega arith), refl);
  too = inr (omega arith, (1, (omega arith, omega arith), refl));
}

-- the fifth branch is the fourth once more
twice : IsBadBranch 5 (v 0 ∷ v 1 ∷ v 2 ∷ v 3 ∷ v 3 ∷ []) 4
twice = (omega arith, inr (3, omega arith, refl))

-- no edge joins 1 and 2
lacks : LacksEdge (record { n = 3; edges = (0, 1) ∷ [] }) ((v 0 ∷ v 1 ∷ v 2 ∷ []) ∷ []) 0 1
lacks = record { path = omega arith; step = omega arith; lacks = refl }
