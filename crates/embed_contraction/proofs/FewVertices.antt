-- Graphs with few vertices have no witness.
use Rattle.std.proofs.Common.{◌≢◌, ◌<◌, ℕ, arith}
use Rattle.graphs.specs.Graphs.{EdgeGraph}
use Rattle.kuratowski.specs.Witnesses.{vertex_at}
use Rattle.kuratowski.specs.declared.witness.Kind.TheVariants.{K5, K33}
use Rattle.embed_contraction.specs.Traces.{HasWitness}

-- no five numbers below four are distinct
five_below_four : (at : ℕ → ℕ) → ((i : ℕ) → i < 5 → at i < 4) → ((i j : ℕ) → i < j → j < 5 → at i ≢ at j) → ⊥
five_below_four at below apart =
    omega (arith, apart 0 1 (omega arith) (omega arith), apart 0 2 (omega arith) (omega arith), apart 0 3 (omega arith) (omega arith), apart 0 4 (omega arith) (omega arith), apart 1 2 (omega arith) (omega arith), apart 1 3 (omega arith) (omega arith), apart 1 4 (omega arith) (omega arith), apart 2 3 (omega arith) (omega arith), apart 2 4 (omega arith) (omega arith), apart 3 4 (omega arith) (omega arith))

-- a graph with fewer than five vertices has none
pub few_without_witness : (graph : EdgeGraph) → graph.n < 5 → ¬ HasWitness graph
few_without_witness graph few x2 = grind (arith, K5, five_below_four, vertex_at, K33)
