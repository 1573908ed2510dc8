-- What is found when the blocks of one part of a fork are put into those of another.
use Rattle.std.specs.Prelude.{ℕ, ◌<◌, ◌≤◌, ◌≡◌, ◌⊎◌, Bool, false, true, cond, ltb, List, [], ◌∷◌, ◌++◌}
use Rattle.std.specs.List.{AllByRecursion as Each}
use Rattle.left_right_blocks.specs.Blocks.{Block, edges_in}

-- one list of a block is empty
abbrev pub IsOneSided : Block → Type 0
IsOneSided b = (b.one ≡ []) ⊎ (b.other ≡ [])

-- the edges of blocks, each block's behind those of the blocks before
abbrev pub taken : List Block → List ℕ
taken [] = []
taken (t ∷ ts) = (t.other ++ t.one) ++ taken ts

-- the first of a list is deeper than a depth
abbrev pub is_deep : (ℕ → ℕ) → ℕ → List ℕ → Bool
is_deep height low [] = false
is_deep height low (x ∷ xs) = ltb low (height x)

-- the list of a block that is deeper, and the other one
abbrev pub hit_of : (ℕ → ℕ) → ℕ → Block → List ℕ
hit_of height low b = cond (is_deep height low b.one) b.one b.other

abbrev pub off_of : (ℕ → ℕ) → ℕ → Block → List ℕ
off_of height low b = cond (is_deep height low b.one) b.other b.one

-- the deeper lists of blocks, one behind another, and the other ones
abbrev pub hits : (ℕ → ℕ) → ℕ → List Block → List ℕ
hits height low [] = []
hits height low (b ∷ bs) = hit_of height low b ++ hits height low bs

abbrev pub offs : (ℕ → ℕ) → ℕ → List Block → List ℕ
offs height low [] = []
offs height low (b ∷ bs) = off_of height low b ++ offs height low bs

-- one list of a block is deeper than a depth, and the other is not
pub record IsHit (height : ℕ → ℕ) (low : ℕ) (b : Block) : Type 0 where
  pub deep : is_deep height low (hit_of height low b) ≡ true
  pub shallow : Each (λ y. height y ≤ low) (off_of height low b)

-- Where the blocks q of an edge that ends no less deep than `low` are put into the blocks p: ts are those that end deeper than `limit`, and hs those that end deeper than `low`.
pub record IsFound (height : ℕ → ℕ) (limit low : ℕ) (p q ts qs hs ps : List Block) : Type 0 where
  pub q_is : q ≡ ts ++ qs
  pub sided : Each IsOneSided ts
  pub above : Each (λ x. limit < height x) (edges_in ts)
  pub level : Each (λ x. height x ≤ limit) (edges_in qs)
  pub p_is : p ≡ hs ++ ps
  pub hit : Each (IsHit height low) hs
  pub rest : Each (λ y. height y ≤ low) (edges_in ps)

-- the block of those
abbrev pub merged : (ℕ → ℕ) → ℕ → List Block → List Block → Block
merged height low ts hs = record { one = hits height low hs; other = taken ts ++ offs height low hs }
