-- Blocks of edges whose sides are known of each other, and what a fork demands of its edges' sides.
use Rattle.std.specs.Prelude.{ℕ, ◌<◌, ◌≤◌, ◌≡◌, ◌⊎◌, Bool, not, List, [], ◌∷◌, ◌++◌}
use Rattle.std.specs.List.{AllByRecursion as Each}

-- Two lists of edges, of which all of the one are on one side, and all of the other on the other side.
pub record Block : Type 0 where
  pub one : List ℕ
  pub other : List ℕ

-- the edges of a block
abbrev pub edges_of : Block → List ℕ
edges_of b = b.one ++ b.other

-- the edges of blocks
abbrev pub edges_in : List Block → List ℕ
edges_in [] = []
edges_in (b ∷ bs) = edges_of b ++ edges_in bs

-- all edges of a list are on a side
abbrev pub AllOn : (ℕ → Bool) → Bool → List ℕ → Type 0
AllOn side s xs = Each (λ x. side x ≡ s) xs

-- sides are as a block has them
abbrev pub Agrees : (ℕ → Bool) → Block → Type 0
Agrees side b = (s : Bool) × (AllOn side s b.one × AllOn side (not s) b.other)

-- sides are as all blocks have them
abbrev pub AllAgree : (ℕ → Bool) → List Block → Type 0
AllAgree side bs = Each (Agrees side) bs

-- Of two lists of edges that return by two edges of a fork: all of the second that end deeper than a limit are on one side, and all of the first that end deeper than another limit are on the other.
abbrev pub IsShort : (ℕ → ℕ) → (ℕ → Bool) → ℕ → ℕ → List ℕ → List ℕ → Type 0
IsShort height side limit low ones others =
    (s : Bool) × (Each (λ x. limit < height x → side x ≡ s) others × Each (λ y. low < height y → side y ≡ not s) ones)

-- the deepest come first
abbrev pub Falls : (ℕ → ℕ) → List ℕ → Type 0
Falls height [] = Unit {0}
Falls height (x ∷ xs) = Each (λ y. height y ≤ height x) xs × Falls height xs

-- no edge of ys is deeper than one of xs
abbrev pub IsOver : (ℕ → ℕ) → List ℕ → List ℕ → Type 0
IsOver height xs ys = Each (λ x. Each (λ y. height y ≤ height x) ys) xs

-- no edge of a block is deeper than one of an earlier block
abbrev pub AreStacked : (ℕ → ℕ) → List Block → Type 0
AreStacked height [] = Unit {0}
AreStacked height (b ∷ bs) = IsOver height (edges_of b) (edges_in bs) × AreStacked height bs

-- a block of edges that end at a depth or deeper; only a single one ends there
pub record IsBlock (height : ℕ → ℕ) (low : ℕ) (b : Block) : Type 0 where
  pub one_falls : Falls height b.one
  pub other_falls : Falls height b.other
  pub some : (x : ℕ) × ((rest : List ℕ) × (edges_of b ≡ x ∷ rest))
  pub deep : Each (λ x. low ≤ height x) (edges_of b)
  pub lone : ((x : ℕ) × (edges_of b ≡ x ∷ [])) ⊎ Each (λ x. low < height x) (edges_of b)

-- blocks of all edges that return from below a vertex, of which the least deep ends at a depth
pub record IsPart (height : ℕ → ℕ) (low : ℕ) (bs : List Block) : Type 0 where
  pub blocks : Each (IsBlock height low) bs
  pub stacked : AreStacked height bs
