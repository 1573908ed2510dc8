-- Vertices that are put at their places from the last one on.
use Rattle.std.proofs.Common.{◌≡◌, ◌≤◌, ◌<◌, ◌+◌, ℕ, List, [], ◌∷◌, map, drop, set, length, refl, ap, ◌∙◌, arith}
use Rattle.std.proofs.lemmas.List.{length-map, map-set, drop-set}
use Rattle.map_lists.specs.declared.ids.VertexId.{VertexId}

-- the numbers of vertices
abbrev pub numbers : List VertexId → List ℕ
numbers at = map (λ v. v.0) at

-- one vertex is put before those that stand already
pub numbers_put : (at : List VertexId) (k : ℕ) (v : VertexId) → k < length at → drop k (numbers (set at k v)) ≡ v.0 ∷ drop (k + 1) (numbers at)
numbers_put at k v l = ap (drop k) (map-set (λ (u : VertexId). u.0) at k v) ∙ drop-set (numbers at) k v.0 (omega (arith, length-map at (λ (u : VertexId). u.0)))

-- the first three
pub numbers_first : (at : List VertexId) (a b c : VertexId) → 3 ≤ length at → numbers (set (set (set at 0 a) 1 b) 2 c) ≡ a.0 ∷ b.0 ∷ c.0 ∷ drop 3 (numbers at)
numbers_first [] a b c l = absurd (omega arith)
numbers_first (x ∷ []) a b c l = absurd (omega arith)
numbers_first (x ∷ y ∷ []) a b c l = absurd (omega arith)
numbers_first (x ∷ y ∷ z ∷ at) a b c l = refl
