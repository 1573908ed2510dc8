-- Chains of faces, each sharing an edge with the next, and whether they step over an odd number of edges.
use Rattle.std.specs.Prelude.{ℕ, zero, suc, ◌≡◌, Bool, false, not, if◌then◌else◌}
use Rattle.map_lists.specs.Lists.{Lists}
use Rattle.map_theory.specs.Maps.{Dart, follows}

-- A chain goes on from the dart (x, y): along the face that lies on its left, or over the edge to the face on the other side. It counts whether it has stepped over an odd number of edges that count.
pub data GoesOn (lists : Lists) (counts : ℕ → ℕ → Bool) (x y : ℕ) (odd : Bool) (x' y' : ℕ) (odd' : Bool) : Type 0 where
  along : x' ≡ y → y' ≡ follows lists y x → odd' ≡ odd → GoesOn lists counts x y odd x' y' odd'
  over : x' ≡ y → y' ≡ x → odd' ≡ (if counts x y then not odd else odd) → GoesOn lists counts x y odd x' y' odd'

-- a chain of k moves leads from the face left of the base to the face left of (x, y), having stepped over an odd number of edges that count, or an even one
abbrev pub ReachesBy : Lists → (ℕ → ℕ → Bool) → Dart → ℕ → ℕ → ℕ → Bool → Type 0
ReachesBy lists counts base zero x y odd = (x ≡ base.0) × (y ≡ base.1) × (odd ≡ false)
ReachesBy lists counts base (suc k) x y odd =
    (x' : ℕ) × (y' : ℕ) × (odd' : Bool) × ReachesBy lists counts base k x' y' odd' × GoesOn lists counts x' y' odd' x y odd

-- `ReachesBy`, for a chain of any length
abbrev pub Reaches : Lists → (ℕ → ℕ → Bool) → Dart → ℕ → ℕ → Bool → Type 0
Reaches lists counts base x y odd = (k : ℕ) × ReachesBy lists counts base k x y odd
