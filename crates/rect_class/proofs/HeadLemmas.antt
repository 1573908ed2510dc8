-- The ends of a dart are vertices.
use Rattle.std.proofs.Common.{◌≡◌, ℕ, ◌<◌, length, Some}
use Rattle.half_edges.specs.Map.{Map, IsHalfMap, dart_at}

pub ends-below : (map : Map) → IsHalfMap map → (d a b : ℕ) → dart_at map d ≡ Some (a, b) → (a < length map.lists) × (b < length map.lists)
ends-below map h d a b dart = let has = h.is_dart d a b dart in (has.0, h.simple.in_range a b has)
