-- Vertices off the frame, and darts off it.
use Rattle.std.proofs.Common.{◌≡◌, ◌≢◌, ◌⊎◌, ℕ, ◌<◌, [], ◌∷◌, length, get_or, Option, Some, None, sym, ap, subst, inl, inr, arith}
use Rattle.std.specs.Option.{MatchOption}
use Rattle.std.proofs.lemmas.Bool.{cases_eq}
use Rattle.map_lists.specs.Lists.{Lists}
use Rattle.map_lists.specs.declared.ids.VertexId.{VertexId}
use Rattle.map_theory.specs.Maps.{IsSimpleMap}
use Rattle.vertex_rounds.specs.Least.{IsLeastPair}
use Rattle.vertex_rounds.proofs.LeastLemmas.{IsLeastPair-alike}
use Rattle.drawings.specs.Duals.{IsQuadrangle, HasFrame, top_vertex, right_vertex, bottom_vertex}
use Rattle.drawings.specs.Frames.{IsFrame}
use Rattle.rect_class.specs.RectMaps.{HasLargeFace, HasTriangles, HasInner}
use Rattle.rect_class.specs.Loops.{IsLargeDart}
use Rattle.rect_class.proofs.FrameDarts.{IsOuter-frame, IsTriangle-from_not, IsQuadrangle-turned}

module _ (lists : Lists) (simple : IsSimpleMap lists) (frame : HasFrame lists) where
  -- darts off the frame are those off the outer face
  large_face : (v u : ℕ) → IsLargeDart lists (top_vertex lists) (right_vertex lists) (bottom_vertex lists) v u → HasLargeFace lists v u
  large_face v u h = record { dart = h.dart; inner = λ o. h.off ((IsOuter-frame lists simple frame v u h.dart).0 o); large = h.large }

  large_dart : (v u : ℕ) → HasLargeFace lists v u → IsLargeDart lists (top_vertex lists) (right_vertex lists) (bottom_vertex lists) v u
  large_dart v u h = record { dart = h.dart; off = λ o. h.inner ((IsOuter-frame lists simple frame v u h.dart).1 o); large = h.large }

  -- what a search of the one finds is what one of the other finds
  large_alike : (found : Option (VertexId × VertexId)) → MatchOption found ((v u : ℕ) → ¬ IsLargeDart lists (top_vertex lists) (right_vertex lists) (bottom_vertex lists) v u) (λ (e : VertexId × VertexId). IsLeastPair (IsLargeDart lists (top_vertex lists) (right_vertex lists) (bottom_vertex lists)) e.0.0 e.1.0)
      → MatchOption found (HasTriangles lists) (λ (e : VertexId × VertexId). IsLeastPair (HasLargeFace lists) e.0.0 e.1.0)
  large_alike None h = λ v u has off. IsTriangle-from_not lists v u (λ n. h v u (large_dart v u (record { dart = has; inner = off; large = n })))
  large_alike (Some e) h =
      IsLeastPair-alike (IsLargeDart lists (top_vertex lists) (right_vertex lists) (bottom_vertex lists)) (HasLargeFace lists) large_face large_dart e.0.0 e.1.0 h

-- the same by the numbers of the frame
pub MatchOption-large : (lists : Lists) (d p q : ℕ) (found : Option (VertexId × VertexId)) → IsSimpleMap lists → IsFrame lists d p q → MatchOption found ((v u : ℕ) → ¬ IsLargeDart lists d p q v u) (λ (e : VertexId × VertexId). IsLeastPair (IsLargeDart lists d p q) e.0.0 e.1.0)
    → MatchOption found (HasTriangles lists) (λ (e : VertexId × VertexId). IsLeastPair (HasLargeFace lists) e.0.0 e.1.0)
MatchOption-large lists d p q found simple f h = grind (arith, large_alike, right_vertex, bottom_vertex, MatchOption, IsLargeDart, VertexId, IsLeastPair)

-- all four of a quadrangle are vertices
pub vertices_of : (lists : Lists) (s d p q : ℕ) → IsSimpleMap lists → IsQuadrangle lists s d p q → (s < length lists) × (d < length lists) × (p < length lists) × (q < length lists)
vertices_of lists s d p q simple h =
    let second = IsQuadrangle-turned lists simple s d p q h in
    let third = IsQuadrangle-turned lists simple d p q s second in
    (h.dart.0, second.dart.0, third.dart.0, (IsQuadrangle-turned lists simple p q s d third).dart.0)

-- with one vertex off them there are five
five_vertices : (n d p q v : ℕ) → 0 < n → d < n → p < n → q < n → v < n → 0 ≢ d → 0 ≢ p → 0 ≢ q → d ≢ p → d ≢ q → p ≢ q → v ≢ 0 → v ≢ d → v ≢ p → v ≢ q → 4 < n
five_vertices n d p q v a b c e f g h i j k l m o r s = omega arith

pub more-inner : (lists : Lists) → IsSimpleMap lists → HasFrame lists → HasInner lists → 4 < length lists
more-inner lists simple h (v, inner) =
    let (ls, ld, lp, lq) = vertices_of lists 0 (top_vertex lists) (right_vertex lists) (bottom_vertex lists) simple h in
    five_vertices (length lists) (top_vertex lists) (right_vertex lists) (bottom_vertex lists) v ls ld lp lq inner.vertex (h.distinct 0 1 0 (omega arith) (omega arith)) (h.distinct 0 2 0 (omega arith) (omega arith))
    (h.distinct 0 3 0 (omega arith) (omega arith)) (h.distinct 1 2 0 (omega arith) (omega arith)) (h.distinct 1 3 0 (omega arith) (omega arith)) (h.distinct 2 3 0 (omega arith) (omega arith)) inner.not_first
    inner.not_top inner.not_right inner.not_bottom

-- v is one of three, by its place, or none of them
abbrev IsPlaced : ℕ → ℕ → ℕ → ℕ → Type 0
IsPlaced d p q v = (k : ℕ) × (k < 3) × (get_or (d ∷ p ∷ q ∷ []) k 0 ≡ v)

abbrev IsOff : ℕ → ℕ → ℕ → ℕ → Type 0
IsOff d p q v = (v ≢ d) × (v ≢ p) × (v ≢ q)

placed_or_off : (d p q v : ℕ) → IsPlaced d p q v ⊎ IsOff d p q v
placed_or_off d p q v = grind (arith, cases_eq)

-- four numbers have not three places
too_many : (d p q : ℕ) → IsPlaced d p q 1 → IsPlaced d p q 2 → IsPlaced d p q 3 → IsPlaced d p q 4 → ⊥
too_many d p q (i, li, ei) (j, lj, ej) (k, lk, ek) (m, lm, em) = grind (arith, get_or)

-- so one of the first five is off
pub HasInner-more : (lists : Lists) → 4 < length lists → HasInner lists
HasInner-more lists more =
    elim (at 1) [
      | inr off ↦ inner 1 (omega arith) (omega arith) off
      | inl first ↦ elim (at 2) [
        | inr off ↦ inner 2 (omega arith) (omega arith) off
        | inl second ↦ elim (at 3) [
          | inr off ↦ inner 3 (omega arith) (omega arith) off
          | inl third ↦ elim (at 4) [
            | inr off ↦ inner 4 (omega arith) (omega arith) off
            | inl fourth ↦ absurd (too_many (top_vertex lists) (right_vertex lists) (bottom_vertex lists) first second third fourth)
          ]
        ]
      ]
    ]
  where
    at : (v : ℕ) → IsPlaced (top_vertex lists) (right_vertex lists) (bottom_vertex lists) v ⊎ IsOff (top_vertex lists) (right_vertex lists) (bottom_vertex lists) v
    at v = placed_or_off (top_vertex lists) (right_vertex lists) (bottom_vertex lists) v

    inner : (v : ℕ) → 0 < v → v < 5 → IsOff (top_vertex lists) (right_vertex lists) (bottom_vertex lists) v → HasInner lists
    inner v some l off = (v, record { vertex = omega arith; not_first = λ e. omega arith; not_top = off.0; not_right = off.1; not_bottom = off.2 })
