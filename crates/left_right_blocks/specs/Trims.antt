-- Edges dropped from blocks, and ties to those that are left.
use Rattle.std.specs.Prelude.{ℕ, ◌+◌, ◌<◌, ◌≤◌, ◌≡◌, ◌≢◌, ◌⊎◌, ◌↔◌, Bool, true, false, List, [], ◌∷◌, ◌++◌, Contains}
use Rattle.std.specs.Bool.{MatchBool}
use Rattle.std.specs.List.{AllByRecursion as Each}
use Rattle.chained_lists.specs.Held.{Holds, BeginsWith}
use Rattle.chained_lists.specs.declared.ChainedLists.{ChainedLists}
use Rattle.left_right_blocks.specs.Blocks.{Block, edges_in, Agrees, AllAgree, IsPart}
use Rattle.left_right_blocks.specs.Parts.{block_of, blocks_of, IsFrom}
use Rattle.left_right_blocks.specs.Ties.{AreKept, AreInTurn, AreBelow, AreGone}
use Rattle.left_right_blocks.specs.declared.ties.Tie.{Tie}

-- an edge tied to the first of its list, or else on the other side to the first of another list
abbrev pub ties_of : ℕ → List ℕ → List ℕ → List Tie
ties_of x (y ∷ ys) zs = (record { edge = x; to = y; turn = false }) ∷ []
ties_of x [] (z ∷ zs) = (record { edge = x; to = z; turn = true }) ∷ []
ties_of x [] [] = []

-- the edges of ties are in no list, and in turn
pub record AreTied (edges : ℕ) (lists : ℕ → List ℕ) (ties : List Tie) : Type 0 where
  pub turn : AreInTurn ties
  pub below : AreBelow edges ties
  pub gone : AreGone lists ties

-- the first of a list ends less deep than a depth
abbrev pub IsEnded : (ℕ → ℕ) → ℕ → List ℕ → Type 0
IsEnded height depth [] = Unit {0}
IsEnded height depth (x ∷ xs) = height x < depth

-- The first edges of a list, which end at a depth or deeper, were dropped, each tied to one that was left then.
pub record IsDropped (height : ℕ → ℕ) (edges depth one other : ℕ) (lists0 lists : ℕ → List ℕ) (ties0 ties : List Tie) (xs : List ℕ) : Type 0 where
  pub cut : lists0 one ≡ xs ++ lists one
  pub deep : Each (λ x. depth ≤ height x) xs
  pub others : (p : ℕ) → p ≢ one → lists p ≡ lists0 p
  pub agree : (side : ℕ → Bool) → (Agrees side (record { one = lists0 one; other = lists0 other }) × AreKept side ties0) ↔ (Agrees side (record { one = lists one; other = lists other }) × AreKept side ties)
  pub tied : AreTied edges lists ties
  pub moved : IsFrom lists0 lists

-- all such edges of a list were dropped
abbrev pub AreDropped : (ℕ → ℕ) → ℕ → ℕ → ℕ → ℕ → (ℕ → List ℕ) → ChainedLists → List Tie → List Tie → Type 0
AreDropped height edges depth one other lists0 now ties0 ties =
    (lists : ℕ → List ℕ) × ((xs : List ℕ) × (Holds now lists × (IsDropped height edges depth one other lists0 lists ties0 ties xs × IsEnded height depth (lists one))))

-- The edges of a stack of blocks that end at a depth or deeper were dropped: sides are as the old blocks and ties have them where they are so with the new ones.
pub record IsTrimmed (height : ℕ → ℕ) (edges depth low stack : ℕ) (lists0 stacks0 : ℕ → List ℕ) (lists_now stacks_now : ChainedLists) (ties0 ties : List Tie) : Type 0 where
  pub lists : ℕ → List ℕ
  pub stacks : ℕ → List ℕ
  pub lists_held : Holds lists_now lists
  pub stacks_held : Holds stacks_now stacks
  pub moved : IsFrom lists0 lists
  pub others : (p : ℕ) → p ≢ stack → blocks_of edges lists (stacks p) ≡ blocks_of edges lists0 (stacks0 p)
  pub tied : AreTied edges lists ties
  pub part : IsPart height low (blocks_of edges lists (stacks stack))
  pub left : (x : ℕ) → Contains (edges_in (blocks_of edges lists (stacks stack))) x ↔ (Contains (edges_in (blocks_of edges lists0 (stacks0 stack))) x × (height x < depth))
  pub agree : (side : ℕ → Bool) → (AllAgree side (blocks_of edges lists0 (stacks0 stack)) × AreKept side ties0) ↔ (AllAgree side (blocks_of edges lists (stacks stack)) × AreKept side ties)

-- The edges of a block that end at a depth or deeper were dropped from its lists.
pub record IsBlockDropped (height : ℕ → ℕ) (edges depth b : ℕ) (lists0 lists : ℕ → List ℕ) (ties0 ties : List Tie) (xs ys : List ℕ) : Type 0 where
  pub one_cut : lists0 b ≡ xs ++ lists b
  pub other_cut : lists0 (b + edges) ≡ ys ++ lists (b + edges)
  pub one_deep : Each (λ x. depth ≤ height x) xs
  pub other_deep : Each (λ x. depth ≤ height x) ys
  pub one_ended : IsEnded height depth (lists b)
  pub other_ended : IsEnded height depth (lists (b + edges))
  pub others : (p : ℕ) → p ≢ b → p ≢ b + edges → lists p ≡ lists0 p
  pub agree : (side : ℕ → Bool) → (Agrees side (block_of edges lists0 b) × AreKept side ties0) ↔ (Agrees side (block_of edges lists b) × AreKept side ties)
  pub tied : AreTied edges lists ties
  pub moved : IsFrom lists0 lists

-- a block has an edge, or has none
abbrev pub HasEdge : Block → Type 0
HasEdge t = ((x : ℕ) × BeginsWith t.one x) ⊎ ((x : ℕ) × BeginsWith t.other x)

abbrev pub IsEmpty : Block → Type 0
IsEmpty t = (t.one ≡ []) × (t.other ≡ [])

-- such edges of a block were dropped, and whether it has some left
abbrev pub AreBlockDropped : (ℕ → ℕ) → ℕ → ℕ → ℕ → (ℕ → List ℕ) → ChainedLists → List Tie → List Tie → Bool → Type 0
AreBlockDropped height edges depth b lists0 now ties0 ties left =
    (lists : ℕ → List ℕ) × ((xs : List ℕ) × ((ys : List ℕ) × (Holds now lists × (IsBlockDropped height edges depth b lists0 lists ties0 ties xs ys × MatchBool left (HasEdge (block_of edges lists b)) (IsEmpty (block_of edges lists b))))))
