-- A rooted tree and its upward edges by tables.
use Rattle.std.specs.Prelude.{ℕ, ◌<◌, ◌≡◌, ◌≢◌, ◌↔◌, ◌⊎◌, Bool, false, List, length, map, slice_index, slice_index_or, Contains, Option, Some, None}
use Rattle.std.specs.Bool.{MatchBool}
use Rattle.std.specs.List.{AllByRecursion as Each}
use Rattle.map_theory.specs.Maps.{Dart}
use Rattle.left_right_blocks.specs.Blocks.{Block}
use Rattle.left_right_blocks.specs.States.{IsState, Drops}
use Rattle.left_right_blocks.specs.Forks.{AreNested}
use Rattle.left_right_blocks.specs.declared.fork_edges.ForkEdge.{ForkEdge}
use Rattle.left_right_blocks.specs.declared.blocks.Blocks.{Blocks}
use Rattle.left_right_blocks.specs.declared.ties.Tie.{Tie}
use Rattle.left_right_sides.specs.Standing.{Rooted, MeetsAll, IsStanding, IsForkTo, MatchChild}

-- the tree and edges that tables stand for, with any numbers of vertices
abbrev pub rooted_by : (ℕ → ℕ → Bool) → (ℕ → ℕ) → List ℕ → List ℕ → List Dart → List ℕ → Rooted
rooted_by edge number parents depths darts heights =
    record { n = length parents; m = length darts; edge = edge; parent = slice_index parents; depth = slice_index depths; number = number; dart = λ x. slice_index_or darts x (0, 0); height = slice_index heights }

-- for each edge the depth of its upper end
abbrev pub upper_depths : List ℕ → List Dart → List ℕ
upper_depths depths darts = map (λ (d : Dart). slice_index depths d.1) darts

-- edge x leads upwards from v, and not to its parent
abbrev pub IsUpward : List ℕ → List Dart → ℕ → ℕ → Type 0
IsUpward parents darts v x =
    ((slice_index_or darts x (0, 0)).0 ≡ v) × ((slice_index_or darts x (0, 0)).1 ≢ slice_index parents v)

-- an edge of v that leads upwards, or none
abbrev pub MatchUpward : List ℕ → List Dart → List ℕ → ℕ → ℕ → Option ForkEdge → Type 0
MatchUpward parents darts heights v x None = ¬ IsUpward parents darts v x
MatchUpward parents darts heights v x (Some d) =
    IsUpward parents darts v x × (d ≡ (record { stack = x; low = slice_index heights x; mixed = false }))

-- one edge more, in nesting order
pub record IsInserted (old new : List ForkEdge) (d : ForkEdge) : Type 0 where
  pub nested : AreNested new
  pub told : (e : ForkEdge) → Contains new e ↔ (Contains old e ⊎ (d ≡ e))

-- as many edges and stacks as before
pub record IsAlike (old new : Blocks) : Type 0 where
  pub edges : new.edges ≡ old.edges
  pub count : length new.stacks.first.items ≡ length old.stacks.first.items

-- a child's part was trimmed to what ends above a depth, and has some or none
abbrev pub IsChildFound : Rooted → ℕ → ℕ → ℕ → (ℕ → List Block) → Blocks → Blocks → Option ForkEdge → Type 0
IsChildFound r depth low stack P old new found =
    (P' : ℕ → List Block) × (IsState new P' × (Drops r.height depth low stack P P' old.ties.items new.ties.items × MatchChild r stack P' found))

-- edges found, with some stacks left to look at
abbrev pub AreFoundTo : Rooted → ℕ → (ℕ → List Block) → List Tie → Blocks → List ForkEdge → List ℕ → Type 0
AreFoundTo r v P ties0 new ds left =
    (P' : ℕ → List Block) × (IsState new P' × IsForkTo r v P P' ties0 new.ties.items ds left)

-- one more stack was looked at, which has an edge or none
abbrev pub MatchLooked : Rooted → ℕ → (ℕ → List Block) → List Tie → Blocks → List ForkEdge → List ℕ → Option ForkEdge → Type 0
MatchLooked r v P ties0 new ds left None = AreFoundTo r v P ties0 new ds left
MatchLooked r v P ties0 new ds left (Some d) =
    (ds' : List ForkEdge) → (AreNested ds → Each (λ (e : ForkEdge). e.stack ≢ d.stack) ds → IsInserted ds ds' d) → AreFoundTo r v P ties0 new ds' left

-- one more vertex is done, or no sides meet all forks
abbrev pub MatchPlaced : Rooted → ℕ → List ℕ → Blocks → Bool → Type 0
MatchPlaced r k lows new ok =
    MatchBool ok ((P : ℕ → List Block) × (IsState new P × IsStanding r k (slice_index lows) P new.ties.items)) ((side : ℕ → Bool) → ¬ MeetsAll r side)

-- the vertices of an order by their numbers
abbrev pub AreNumbered : Rooted → List ℕ → Type 0
AreNumbered r order =
    (j : ℕ) → j < r.n → (slice_index order j < r.n) × (r.number (slice_index order j) ≡ j)
