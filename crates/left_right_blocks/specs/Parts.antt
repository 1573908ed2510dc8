-- Stacks of blocks as chained lists hold them.
use Rattle.std.specs.Prelude.{ℕ, Bool, ◌+◌, ◌⊎◌, ◌↔◌, List, map, Contains}
use Rattle.left_right_blocks.specs.Blocks.{Block, edges_in, AllAgree, IsShort, IsPart}

-- block b of some edges: list b, and the one behind the lists of all edges
abbrev pub block_of : ℕ → (ℕ → List ℕ) → ℕ → Block
block_of edges lists b = record { one = lists b; other = lists (b + edges) }

-- the blocks of a stack
abbrev pub blocks_of : ℕ → (ℕ → List ℕ) → List ℕ → List Block
blocks_of edges lists bs = map (block_of edges lists) bs

-- every number of the new lists is in one of the old ones
abbrev pub IsFrom : (ℕ → List ℕ) → (ℕ → List ℕ) → Type 0
IsFrom old new = (p x : ℕ) → Contains (new p) x → (q : ℕ) × Contains (old q) x

-- What is left of the blocks of two parts of a fork, put together: the edges of both, in the form of a part, on sides that agree with both and are short.
pub record IsUnion (height : ℕ → ℕ) (limit low : ℕ) (p q new : List Block) : Type 0 where
  pub part : IsPart height limit new
  pub held : (x : ℕ) → Contains (edges_in new) x ↔ (Contains (edges_in p) x ⊎ Contains (edges_in q) x)
  pub agree : (side : ℕ → Bool) → AllAgree side new ↔ ((AllAgree side p × AllAgree side q) × IsShort height side limit low (edges_in p) (edges_in q))
