-- The verdict Yes says that a drawing is valid, and conversely.
use Rattle.std.proofs.Common.{◌≢◌, ℕ, ◌<◌, List, length, ℤ, sym, inl, inr, arith}
use Rattle.std.proofs.lemmas.Bool.{cases_lt}
use Rattle.map_lists.specs.Lists.{Lists}
use Rattle.map_theory.specs.Maps.{IsSimpleMap, HasDart}
use Rattle.pg_plane.specs.declared.grid_points.Point.{Point}
use Rattle.pg_plane.specs.Geometry.{IsOnSegment, DoCross}
use Rattle.plane_drawings.specs.Drawing.{place, IsPlaneDrawing}
use Rattle.draw_check.specs.declared.verdict.Verdict.TheVariants.{Yes}
use Rattle.vertex_rounds.specs.Rounds.{HasEdge}
use Rattle.draw_check.specs.Verdicts.{NoneShareAPlace, NoneOnEdge, NoneCross, IsVerdict, IsPlaneVerdict}
use Rattle.drawings.specs.Valid.{IsValid}
use Rattle.pg_plane.proofs.Segments.{IsOnSegment-back, DoCross-first_back, DoCross-second_back, DoCross-exchanged}

module _ (lists : Lists) (points : List Point) (simple : IsSimpleMap lists) (apart : NoneShareAPlace lists points) (off : NoneOnEdge lists points) (none : NoneCross lists points) where
  stand_apart : (u v : ℕ) → u < length lists → v < length lists → u ≢ v → place points u ≢ place points v
  stand_apart u v lu lv ne e =
      elim (cases_lt u v) [
        | inl l ↦ apart u v (record { order = l; vertex = lv; same = e })
        | inr l ↦ apart v u (record { order = omega (arith, ne); vertex = lu; same = sym e })
      ]

  off_edges : (u v w : ℕ) → HasDart lists u v → w < length lists → w ≢ u → w ≢ v → ¬ IsOnSegment (place points w) (place points u) (place points v)
  off_edges u v w has lw nu nv on =
      elim (cases_lt u v) [
        | inl l ↦ off w u v (record { vertex = lw; edge = (l, has); not_first = nu; not_second = nv; on = on })
        | inr l ↦ off w v u (record { vertex = lw; edge = (let ne = simple.no_loop u v has in omega arith, simple.both_ways u v has); not_first = nv; not_second = nu; on = IsOnSegment-back (place points w) (place points u) (place points v) on })
      ]

  -- two edges, each by its lesser end first
  no_edges : (a b c d : ℕ) → HasEdge lists a b → HasEdge lists c d → c ≢ a → c ≢ b → d ≢ a → d ≢ b → ¬ DoCross (place points a) (place points b) (place points c) (place points d)
  no_edges a b c d e f n1 n2 n3 n4 x =
      elim (cases_lt a c) [
        | inl l ↦ none a b c d (record { first = e; second = f; order = inl l; apart = (n1, n2, n3, n4); cross = x })
        | inr l ↦ grind (arith, DoCross-exchanged, place)
      ]

  -- the second by either end first
  no_edge : (a b c d : ℕ) → HasEdge lists a b → HasDart lists c d → c ≢ a → c ≢ b → d ≢ a → d ≢ b → ¬ DoCross (place points a) (place points b) (place points c) (place points d)
  no_edge a b c d e has n1 n2 n3 n4 x =
      elim (cases_lt c d) [
        | inl l ↦ no_edges a b c d e (l, has) n1 n2 n3 n4 x
        | inr l ↦ no_edges a b d c e (let ne = simple.no_loop c d has in omega arith, simple.both_ways c d has) n3 n4 n1 n2 (DoCross-second_back (place points a) (place points b) (place points c) (place points d) x)
      ]

  no_crossing : (a b c d : ℕ) → HasDart lists a b → HasDart lists c d → c ≢ a → c ≢ b → d ≢ a → d ≢ b → ¬ DoCross (place points a) (place points b) (place points c) (place points d)
  no_crossing a b c d has has' n1 n2 n3 n4 x =
      elim (cases_lt a b) [
        | inl l ↦ no_edge a b c d (l, has) has' n1 n2 n3 n4 x
        | inr l ↦ no_edge b a c d (let ne = simple.no_loop a b has in omega arith, simple.both_ways a b has) has' n2 n1 n4 n3 (DoCross-first_back (place points a) (place points b) (place points c) (place points d) x)
      ]

  -- no fault of the three kinds: the drawing is plane
  pub plane_without_faults : IsPlaneDrawing lists points
  plane_without_faults = record { apart = stand_apart; off_edges = off_edges; no_crossing = no_crossing }

-- what Yes says
pub valid_from_yes : (lists : Lists) (points : List Point) (width height : ℤ) → IsSimpleMap lists → IsVerdict lists points width height Yes → IsValid lists points width height
valid_from_yes lists points width height simple y = record { in_grid = y.0; plane = plane_without_faults lists points simple y.1 y.2 y.3; rotations = y.4 }

-- and when it is
pub yes_from_valid : (lists : Lists) (points : List Point) (width height : ℤ) → IsSimpleMap lists → IsValid lists points width height → IsVerdict lists points width height Yes
yes_from_valid lists points width height simple h = (
  h.in_grid,
  λ u v s. h.plane.apart u v (let l = s.order in let lv = s.vertex in omega arith) s.vertex (λ e. let l = s.order in absurd (omega arith)) s.same,
  λ v a b s. h.plane.off_edges a b v s.edge.1 s.vertex s.not_first s.not_second s.on,
  λ a b c d s. h.plane.no_crossing a b c d s.first.1 s.second.1 s.apart.0 s.apart.1 s.apart.2 s.apart.3 s.cross,
  h.rotations,
)

-- of the edges alone
pub plane_from_yes : (lists : Lists) (points : List Point) → IsSimpleMap lists → IsPlaneVerdict lists points Yes → IsPlaneDrawing lists points
plane_from_yes lists points simple y = plane_without_faults lists points simple y.0 y.1 y.2

pub yes_from_plane : (lists : Lists) (points : List Point) → IsSimpleMap lists → IsPlaneDrawing lists points → IsPlaneVerdict lists points Yes
yes_from_plane lists points simple h = (
  λ u v s. h.apart u v (let l = s.order in let lv = s.vertex in omega arith) s.vertex (λ e. let l = s.order in absurd (omega arith)) s.same,
  λ v a b s. h.off_edges a b v s.edge.1 s.vertex s.not_first s.not_second s.on,
  λ a b c d s. h.no_crossing a b c d s.first.1 s.second.1 s.apart.0 s.apart.1 s.apart.2 s.apart.3 s.cross,
)
