-- Stacks of blocks as a structure holds them, and what its steps do to them.
use Rattle.std.specs.Prelude.{ℕ, ◌≡◌, ◌≢◌, ◌<◌, ◌↔◌, Bool, List, [], Contains}
use Rattle.chained_lists.specs.Held.{Holds}
use Rattle.left_right_blocks.specs.Blocks.{Block, edges_in, AllAgree, IsPart}
use Rattle.left_right_blocks.specs.Parts.{blocks_of, IsUnion}
use Rattle.left_right_blocks.specs.Ties.{AreKept}
use Rattle.left_right_blocks.specs.Trims.{AreTied}
use Rattle.left_right_blocks.specs.declared.ties.Tie.{Tie}
use Rattle.left_right_blocks.specs.declared.blocks.Blocks.{Blocks}

-- the blocks that the stacks of a structure have
pub record IsState (blocks : Blocks) (P : ℕ → List Block) : Type 0 where
  pub lists : ℕ → List ℕ
  pub stacks : ℕ → List ℕ
  pub lists_held : Holds blocks.lists lists
  pub stacks_held : Holds blocks.stacks stacks
  pub tied : AreTied blocks.edges lists blocks.ties.items
  pub are : (p : ℕ) → P p ≡ blocks_of blocks.edges lists (stacks p)

-- sides are as all blocks and ties have them
abbrev pub Obeys : (ℕ → Bool) → (ℕ → List Block) → List Tie → Type 0
Obeys side P ties = ((p : ℕ) → AllAgree side (P p)) × AreKept side ties

-- the blocks of one stack were put into those of another
pub record Merges (height : ℕ → ℕ) (limit low into from : ℕ) (P new : ℕ → List Block) : Type 0 where
  pub gone : new from ≡ []
  pub others : (p : ℕ) → p ≢ into → p ≢ from → new p ≡ P p
  pub union : IsUnion height limit low (P into) (P from) (new into)

-- the edges of one stack that end at a depth or deeper were dropped
pub record Drops (height : ℕ → ℕ) (depth low stack : ℕ) (P new : ℕ → List Block) (ties0 ties : List Tie) : Type 0 where
  pub others : (p : ℕ) → p ≢ stack → new p ≡ P p
  pub part : IsPart height low (new stack)
  pub left : (x : ℕ) → Contains (edges_in (new stack)) x ↔ (Contains (edges_in (P stack)) x × (height x < depth))
  pub agree : (side : ℕ → Bool) → Obeys side P ties0 ↔ Obeys side new ties

-- the blocks of one stack are now in another, which was empty
pub record Moves (into from : ℕ) (P new : ℕ → List Block) : Type 0 where
  pub here : new into ≡ P from
  pub gone : new from ≡ []
  pub others : (p : ℕ) → p ≢ into → p ≢ from → new p ≡ P p
