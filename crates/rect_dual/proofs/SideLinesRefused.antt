-- A vertex that a wrong body would give: the clause refuses it.
use Rattle.std.proofs.Common.{◌≡◌, ◌<◌, ℕ, List, Bool, arith}
use Rattle.rect_dual.specs.Ways.{IsFirstAlong}

not_before : (marks : List Bool) (way : ℕ → ℕ) (m v u : ℕ) (a : IsFirstAlong marks way m v) (b : IsFirstAlong marks way m u) → a.place < b.place → ⊥
not_before marks way m v u a b less = let h = a.here in let k = b.before a.place less in cc

-- the first that is marked along a way is one, and not one behind the first link
IsFirstAlong-unique : (marks : List Bool) (way : ℕ → ℕ) (m v u : ℕ) → IsFirstAlong marks way m v → IsFirstAlong marks way m u → v ≡ u
IsFirstAlong-unique marks way m v u a b =
    let e : a.place ≡ b.place = omega (arith, not_before marks way m v u a b, not_before marks way m u v b a) in
    let h = a.vertex in
    let k = b.vertex in
    cc
