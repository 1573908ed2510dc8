-- What the steps of a test have found and changed.
use Rattle.std.specs.Prelude.{ℕ, ◌+◌, ◌<◌, ◌≤◌, ◌≡◌, ◌≢◌, ◌||◌, Bool, true, false, List, [], ◌∷◌, ◌++◌, length, Contains}
use Rattle.std.specs.Bool.{MatchBool}
use Rattle.std.specs.List.{AllByRecursion as Each}
use Rattle.chained_lists.specs.Chains.{AreApart}
use Rattle.chained_lists.specs.Held.{Holds, BeginsWith}
use Rattle.left_right_blocks.specs.Blocks.{Block, edges_in, AllAgree, IsShort, IsPart}
use Rattle.left_right_blocks.specs.Found.{is_deep, IsOneSided, taken, hit_of, off_of, hits, offs}
use Rattle.left_right_blocks.specs.Parts.{blocks_of, IsFrom, IsUnion}
use Rattle.chained_lists.specs.declared.ChainedLists.{ChainedLists}
use Rattle.left_right_blocks.specs.declared.blocks.Blocks.{Blocks}
use Rattle.left_right_blocks.specs.declared.blocks.Taken.{Taken}
use Rattle.left_right_blocks.specs.declared.blocks.Taken.TheVariants.{Nothing, First, Clash}

-- ties and the number of edges are as before
pub record IsSame (old new : Blocks) : Type 0 where
  pub edges : new.edges ≡ old.edges
  pub ties : new.ties.items ≡ old.ties.items
  pub count : length new.stacks.first.items ≡ length old.stacks.first.items

-- the first of some blocks has no edge deeper than a depth
abbrev pub IsNoneAbove : (ℕ → ℕ) → ℕ → List Block → Type 0
IsNoneAbove height depth [] = Unit {0}
IsNoneAbove height depth (b ∷ bs) = (is_deep height depth b.one ≡ false) × (is_deep height depth b.other ≡ false)

-- both lists of a block have an edge
abbrev pub IsTwoSided : Block → Type 0
IsTwoSided b = ((x : ℕ) × BeginsWith b.one x) × ((y : ℕ) × BeginsWith b.other y)

-- From the stack `from` of S0 the blocks ids were taken, and are now in the second list of their first, where all have one list and one of those deeper than a limit.
pub record IsTaken (height : ℕ → ℕ) (edges limit from : ℕ) (lists0 stacks0 lists stacks : ℕ → List ℕ) (first : ℕ) (ids : List ℕ) : Type 0 where
  pub apart : AreApart stacks0
  pub within : (b : ℕ) → Contains (stacks0 from) b → b < edges
  pub begin : BeginsWith ids first
  pub cut : stacks0 from ≡ ids ++ stacks from
  pub others : (p : ℕ) → p ≢ from → stacks p ≡ stacks0 p
  pub one : lists first ≡ []
  pub other : lists (first + edges) ≡ taken (blocks_of edges lists0 ids)
  pub kept : (b : ℕ) → b < edges → ¬ Contains ids b → (lists b ≡ lists0 b) × (lists (b + edges) ≡ lists0 (b + edges))
  pub sided : Each IsOneSided (blocks_of edges lists0 ids)
  pub above : Each (λ (b : Block). (is_deep height limit b.one || is_deep height limit b.other) ≡ true) (blocks_of edges lists0 ids)
  pub moved : IsFrom lists0 lists

-- all blocks that are deep enough were taken
abbrev pub AreTaken : (ℕ → ℕ) → ℕ → ℕ → ℕ → (ℕ → List ℕ) → (ℕ → List ℕ) → Blocks → ℕ → Type 0
AreTaken height edges limit from lists0 stacks0 new first =
    (lists : ℕ → List ℕ) × ((stacks : ℕ → List ℕ) × ((ids : List ℕ) × (Holds new.lists lists × (Holds new.stacks stacks × (IsTaken height edges limit from lists0 stacks0 lists stacks first ids × IsNoneAbove height limit (blocks_of edges lists (stacks from)))))))

-- one of some blocks has two lists
abbrev pub HasTwoSided : List Block → Type 0
HasTwoSided bs = (front : List Block) × ((t : Block) × ((back : List Block) × ((bs ≡ front ++ (t ∷ back)) × IsTwoSided t)))

-- one list of a block is deeper than a depth by its first edge, and the other is not
abbrev pub IsStruck : (ℕ → ℕ) → ℕ → Block → Type 0
IsStruck height low b = (is_deep height low (hit_of height low b) ≡ true) × (is_deep height low (off_of height low b) ≡ false)

-- From the stack `into` of S0 the blocks ids were taken, and the deeper list of each is now in the first list of a block, the other one behind its second list.
pub record IsPut (height : ℕ → ℕ) (edges low into : ℕ) (lists0 stacks0 lists stacks : ℕ → List ℕ) (first : ℕ) (ids : List ℕ) : Type 0 where
  pub apart : AreApart stacks0
  pub within : (b : ℕ) → Contains (stacks0 into) b → b < edges
  pub below : first < edges
  pub fresh : (p : ℕ) → ¬ Contains (stacks0 p) first
  pub cut : stacks0 into ≡ ids ++ stacks into
  pub others : (p : ℕ) → p ≢ into → stacks p ≡ stacks0 p
  pub one : lists first ≡ hits height low (blocks_of edges lists0 ids)
  pub other : lists (first + edges) ≡ lists0 (first + edges) ++ offs height low (blocks_of edges lists0 ids)
  pub kept : (b : ℕ) → b < edges → b ≢ first → ¬ Contains ids b → (lists b ≡ lists0 b) × (lists (b + edges) ≡ lists0 (b + edges))
  pub struck : Each (IsStruck height low) (blocks_of edges lists0 ids)
  pub moved : IsFrom lists0 lists

-- all blocks that are deep enough were put
abbrev pub ArePut : (ℕ → ℕ) → ℕ → ℕ → ℕ → (ℕ → List ℕ) → (ℕ → List ℕ) → Blocks → ℕ → Type 0
ArePut height edges low into lists0 stacks0 new first =
    (lists : ℕ → List ℕ) × ((stacks : ℕ → List ℕ) × ((ids : List ℕ) × (Holds new.lists lists × (Holds new.stacks stacks × (IsPut height edges low into lists0 stacks0 lists stacks first ids × IsNoneAbove height low (blocks_of edges lists (stacks into)))))))

-- both lists of one of some blocks are deeper than a depth
abbrev pub HasTwoDeep : (ℕ → ℕ) → ℕ → List Block → Type 0
HasTwoDeep height low bs =
    (front : List Block) × ((t : Block) × ((back : List Block) × ((bs ≡ front ++ (t ∷ back)) × ((is_deep height low t.one ≡ true) × (is_deep height low t.other ≡ true)))))

-- The blocks of the stack `from` were put into the stack `into`, in lists that links stand for: what is there now is the union of both, and what other stacks hold is as it was.
pub record IsMerged (height : ℕ → ℕ) (edges limit low into from : ℕ) (lists0 stacks0 : ℕ → List ℕ) (lists_now stacks_now : ChainedLists) : Type 0 where
  pub lists : ℕ → List ℕ
  pub stacks : ℕ → List ℕ
  pub lists_held : Holds lists_now lists
  pub stacks_held : Holds stacks_now stacks
  pub moved : IsFrom lists0 lists
  pub gone : stacks from ≡ []
  pub others : (p : ℕ) → p ≢ into → p ≢ from → blocks_of edges lists (stacks p) ≡ blocks_of edges lists0 (stacks0 p)
  pub union : IsUnion height limit low (blocks_of edges lists0 (stacks0 into)) (blocks_of edges lists0 (stacks0 from)) (blocks_of edges lists (stacks into))

-- what was found when blocks were taken from a stack
abbrev pub MatchTaken : (ℕ → ℕ) → ℕ → ℕ → ℕ → (ℕ → List ℕ) → (ℕ → List ℕ) → Blocks → Taken → Type 0
MatchTaken height edges limit from lists0 stacks0 new Nothing =
    Holds new.lists lists0 × (Holds new.stacks stacks0 × IsNoneAbove height limit (blocks_of edges lists0 (stacks0 from)))
MatchTaken height edges limit from lists0 stacks0 new (First first) =
    AreTaken height edges limit from lists0 stacks0 new first
MatchTaken height edges limit from lists0 stacks0 new Clash = HasTwoSided (blocks_of edges lists0 (stacks0 from))

-- the block taken is one of the edges
abbrev pub IsWithin : ℕ → Taken → Type 0
IsWithin edges Nothing = Unit {0}
IsWithin edges (First first) = first < edges
IsWithin edges Clash = Unit {0}

-- What comes of putting the blocks of a stack into another one: they are merged, or no sides are as both have them and short.
abbrev pub MatchMerged : (ℕ → ℕ) → ℕ → ℕ → ℕ → ℕ → ℕ → (ℕ → List ℕ) → (ℕ → List ℕ) → Blocks → Bool → Type 0
MatchMerged height edges limit low into from lists0 stacks0 new ok =
    MatchBool ok (IsMerged height edges limit low into from lists0 stacks0 new.lists new.stacks) ((side : ℕ → Bool) → AllAgree side (blocks_of edges lists0 (stacks0 into)) → AllAgree side (blocks_of edges lists0 (stacks0 from)) → ¬ IsShort height side limit low (edges_in (blocks_of edges lists0 (stacks0 into))) (edges_in (blocks_of edges lists0 (stacks0 from))))

-- Two stacks hold parts of a fork in nesting order: where none of the second part is deeper than the limit, none of the first is deeper than the least deep end of the second.
pub record AreParts (height : ℕ → ℕ) (edges limit low into from : ℕ) (lists stacks : ℕ → List ℕ) : Type 0 where
  pub one : IsPart height limit (blocks_of edges lists (stacks into))
  pub other : IsPart height low (blocks_of edges lists (stacks from))
  pub nested : limit ≤ low
  pub apart : into ≢ from
  pub none : Each (λ x. height x ≤ limit) (edges_in (blocks_of edges lists (stacks from))) → Each (λ y. height y ≤ low) (edges_in (blocks_of edges lists (stacks into)))
