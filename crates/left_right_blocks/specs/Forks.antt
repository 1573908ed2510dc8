-- The edges of a fork by which edges return, each with the stack that has these.
use Rattle.std.specs.Prelude.{ℕ, ◌+◌, ◌*◌, ◌<◌, ◌≤◌, ◌≡◌, ◌≢◌, Bool, not, cond, ltb, List, [], ◌∷◌, Contains, ◌↔◌}
use Rattle.left_right_blocks.specs.Blocks.{Block, edges_in, IsPart}
use Rattle.std.specs.Bool.{MatchBool}
use Rattle.std.specs.List.{AllByRecursion as Each}
use Rattle.left_right_blocks.specs.States.{IsState, Obeys}
use Rattle.left_right_blocks.specs.declared.blocks.Blocks.{Blocks}
use Rattle.left_right_blocks.specs.declared.ties.Tie.{Tie}
use Rattle.left_right_blocks.specs.declared.fork_edges.ForkEdge.{ForkEdge}

-- an edge's place in nesting order: by the least depth at which an edge returns by it, and of one depth those first by which all return to it
abbrev pub key : ForkEdge → ℕ
key d = 2 * d.low + cond d.mixed 1 0

-- what two edges of a fork demand of the sides of the edges that return by them
abbrev pub MeetsFork : (ℕ → ℕ) → (ℕ → Bool) → List ℕ → List ℕ → Type 0
MeetsFork height side ones others =
    (s : Bool) × ((x y : ℕ) → Contains ones x → Contains others y → (height y < height x → side x ≡ s) × (height x < height y → side y ≡ not s))

-- a stack has what returns by an edge of a fork: at least one edge, with the least depth of an end, and whether another one ends deeper
pub record IsForkEdge (height : ℕ → ℕ) (P : ℕ → List Block) (d : ForkEdge) : Type 0 where
  pub part : IsPart height d.low (P d.stack)
  pub lowest : ℕ
  pub low_in : Contains (edges_in (P d.stack)) lowest
  pub low_is : height lowest ≡ d.low
  pub least : (x : ℕ) → Contains (edges_in (P d.stack)) x → d.low ≤ height x
  pub deepest : ℕ
  pub deep_in : Contains (edges_in (P d.stack)) deepest
  pub most : (x : ℕ) → Contains (edges_in (P d.stack)) x → height x ≤ height deepest
  pub mixed_is : d.mixed ≡ ltb (height lowest) (height deepest)

-- the demands of all pairs of edges of a fork are met
abbrev pub ForksMet : (ℕ → ℕ) → (ℕ → List Block) → (ℕ → Bool) → List ForkEdge → Type 0
ForksMet height P side ds =
    (d e : ForkEdge) → Contains ds d → Contains ds e → d.stack ≢ e.stack → MeetsFork height side (edges_in (P d.stack)) (edges_in (P e.stack))

-- in nesting order, and each with a stack of its own
abbrev pub AreNested : List ForkEdge → Type 0
AreNested [] = Unit {0}
AreNested (d ∷ ds) = Each (λ (e : ForkEdge). (key d ≤ key e) × (d.stack ≢ e.stack)) ds × AreNested ds

-- stacks of a fork's edges that are to be put into an empty one
pub record IsFork (height : ℕ → ℕ) (into : ℕ) (P : ℕ → List Block) (ds : List ForkEdge) : Type 0 where
  pub empty : P into ≡ []
  pub are : (d : ForkEdge) → Contains ds d → IsForkEdge height P d
  pub apart : (d : ForkEdge) → Contains ds d → into ≢ d.stack
  pub nested : AreNested ds

-- The stacks of some edges of a fork are put into one: it has all their edges, and sides are as all blocks have them just where they were so before and the demands of these edges are met.
pub record IsGathered (height : ℕ → ℕ) (into : ℕ) (P new : ℕ → List Block) (ties : List Tie) (ds : List ForkEdge) : Type 0 where
  pub others : (p : ℕ) → p ≢ into → ((d : ForkEdge) → Contains ds d → p ≢ d.stack) → new p ≡ P p
  pub gone : (d : ForkEdge) → Contains ds d → new d.stack ≡ []
  pub held : (x : ℕ) → Contains (edges_in (new into)) x ↔ ((d : ForkEdge) × (Contains ds d × Contains (edges_in (P d.stack)) x))
  pub none : ds ≡ [] → new into ≡ []
  pub part : (d : ForkEdge) (rest : List ForkEdge) → ds ≡ d ∷ rest → IsPart height d.low (new into)
  pub obeys : (side : ℕ → Bool) → Obeys side new ties ↔ (Obeys side P ties × ForksMet height P side ds)

-- all are put into one, or the demands of the fork contradict the blocks
abbrev pub MatchGathered : (ℕ → ℕ) → ℕ → (ℕ → List Block) → Blocks → List ForkEdge → Bool → Type 0
MatchGathered height into P new ds ok =
    MatchBool ok ((P' : ℕ → List Block) × (IsState new P' × IsGathered height into P P' new.ties.items ds)) ((side : ℕ → Bool) → Obeys side P new.ties.items → ¬ ForksMet height P side ds)
