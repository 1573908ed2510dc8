-- Vertices that can be taken off with two neighbours gone before them, where no triangle separates.
use Rattle.std.specs.Prelude.{ℕ, ◌<◌, ◌≡◌, ◌≢◌, ◌⊎◌, Bool, false, List, length, Contains}
use Rattle.map_lists.specs.Lists.{Lists}
use Rattle.map_theory.specs.Maps.{HasDart, follows, entry_after}
use Rattle.plane_peeling.specs.Restricted.{IsFaceOfThree}

-- each triangle of edges is a face, one way round or the other
abbrev pub HasNoSeparatingTriangle : Lists → Type 0
HasNoSeparatingTriangle lists = (a b c : ℕ) → HasDart lists a b → HasDart lists b c → HasDart lists c a → IsFaceOfThree lists a b c ⊎ IsFaceOfThree lists b a c

-- Beyond each dart of the outer cycle stands a vertex that is taken off, and it makes a triangle with the dart, but for the base; and each vertex that is taken off has a neighbour that is.
pub record IsOpenOutside (lists : Lists) (kept : ℕ → Bool) (t : ℕ) (ws : List ℕ) : Type 0 where
  pub beyond : (x : ℕ) → Contains ws x → kept (follows lists (entry_after x ws) x) ≡ false
  pub triangles : (x : ℕ) → Contains ws x → x ≢ t → IsFaceOfThree lists x (entry_after x ws) (follows lists (entry_after x ws) x)
  pub company : (z : ℕ) → z < length lists → kept z ≡ false → (y : ℕ) × HasDart lists z y × (kept y ≡ false)
