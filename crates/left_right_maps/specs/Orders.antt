-- Edges that return at a fork, and orders in which they do not cross.
use Rattle.std.specs.Prelude.{ℕ, ◌≤◌, ◌≡◌, ◌≢◌, ◌↔◌, Bool, true, false, List, AllPairs, Contains}
use Rattle.map_theory.specs.Maps.{Dart}
use Rattle.left_right_laws.specs.Forests.{IsReturn, IsLeftRight}

-- an edge of a graph joins u and v
abbrev pub IsEdge : (ℕ → ℕ → Bool) → ℕ → ℕ → Type 0
IsEdge joined u v = joined u v ≡ true

-- Of two edges that return, each from its first vertex up to its second, the one may stand before the other: if the later one is left, it ends no deeper, and if the earlier one is right, it ends no deeper.
abbrev pub MayPrecede : (ℕ → ℕ) → (ℕ → ℕ → Bool) → Dart → Dart → Type 0
MayPrecede depth left d e =
    (left e.0 e.1 ≡ true → depth e.1 ≤ depth d.1) × (left d.0 d.1 ≡ false → depth d.1 ≤ depth e.1)

-- each edge of a list may stand before each of another
abbrev pub MayAllPrecede : (ℕ → ℕ) → (ℕ → ℕ → Bool) → List Dart → List Dart → Type 0
MayAllPrecede depth left ds es = (d e : Dart) → Contains ds d → Contains es e → MayPrecede depth left d e

-- Let edges of a graph that return be parted into left and right. With lists of edges that return by the edges from v to the vertices us, these vertices can be put in an order in which what returns by one may stand before what returns by each later one.
abbrev pub ForkIsOrdered : Type 0
ForkIsOrdered =
    (joined : ℕ → ℕ → Bool) (parent depth : ℕ → ℕ) (left : ℕ → ℕ → Bool) (v : ℕ) (us : List ℕ) (returns : ℕ → List Dart) → IsLeftRight (IsEdge joined) parent depth left → AllPairs ◌≢◌ us → ((u : ℕ) (d : Dart) → Contains us u → Contains (returns u) d → IsReturn (IsEdge joined) parent depth v u d.0 d.1) → (ordered : List ℕ) × (((u : ℕ) → Contains ordered u ↔ Contains us u) × AllPairs (λ e f. (e ≢ f) × MayAllPrecede depth left (returns e) (returns f)) ordered)
