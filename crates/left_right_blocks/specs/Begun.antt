-- Blocks at the beginning, and what ends deepest.
use Rattle.std.specs.Prelude.{ℕ, ◌+◌, ◌≤◌, ◌≡◌, List, [], ◌∷◌, length, Contains}
use Rattle.chained_lists.specs.Chains.{singles}
use Rattle.chained_lists.specs.Held.{Holds}
use Rattle.left_right_blocks.specs.declared.blocks.Blocks.{Blocks}

-- each edge is a block of its own in a stack of its own, and there is room for more stacks
pub record IsBegun (edges more : ℕ) (blocks : Blocks) : Type 0 where
  pub edges_are : blocks.edges ≡ edges
  pub count : length blocks.stacks.first.items ≡ edges + more
  pub lists : Holds blocks.lists (singles edges)
  pub stacks : Holds blocks.stacks (singles edges)
  pub ties : blocks.ties.items ≡ []

-- the depth at which the first of a list ends
abbrev pub first_height : (ℕ → ℕ) → List ℕ → ℕ
first_height height [] = 0
first_height height (x ∷ xs) = height x

-- the deepest of some edges ends at a depth
pub record IsDeepest (height : ℕ → ℕ) (xs : List ℕ) (depth : ℕ) : Type 0 where
  pub edge : ℕ
  pub held : Contains xs edge
  pub is : height edge ≡ depth
  pub most : (x : ℕ) → Contains xs x → height x ≤ depth
