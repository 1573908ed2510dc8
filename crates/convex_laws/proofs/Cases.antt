-- The triangle: its darts are those of a run of one step.
use Rattle.std.specs.Prelude.{ℕ, zero, suc, ◌<◌, ◌≡◌, [], ◌∷◌, slice_index_or, Contains, refl}
use Rattle.std.proofs.Common.{inl, inr, subst, arith}
use Rattle.map_lists.specs.Lists.{Lists}
use Rattle.map_theory.specs.Maps.{HasDart, IsSimpleMap, follows, entry_after}
use Rattle.map_theory.proofs.DartLemmas.{Contains-from_place_of}
use Rattle.simple_maps.specs.Faults.{first_fault}
use Rattle.simple_maps.proofs.FaultLemmas.{IsSimpleMap-from_first_fault}
use Rattle.contour_runs.specs.FaceRuns.{Step, stage_after, vertex_after, IsStep, IsUnder, IsTouched}
use Rattle.contour_runs.proofs.FaceRunsCases.{row, listed, row_step}
use Rattle.convex_counts.specs.Turns.{IsTouchedRun}
use Rattle.convex_laws.specs.FaceDrawings.{IsRunDart}
use Rattle.convex_laws.specs.ConvexDrawings.{IsRunMap}

abbrev triangle : Lists
triangle = (2 ∷ 1 ∷ []) ∷ (0 ∷ 2 ∷ []) ∷ (1 ∷ 0 ∷ []) ∷ []

-- its third vertex over the base
abbrev over : ℕ → Step
over = listed (row 0 1 1 0 ∷ [])

-- face 0 is inside, and face 1 outside
abbrev face : ℕ → ℕ → ℕ
face x y = slice_index_or (slice_index_or ((2 ∷ 0 ∷ 1 ∷ []) ∷ (1 ∷ 2 ∷ 0 ∷ []) ∷ (0 ∷ 1 ∷ 2 ∷ []) ∷ []) x []) y 2

simple : IsSimpleMap triangle
unfolding first_fault
simple = IsSimpleMap-from_first_fault triangle (omega arith) refl

-- one of two entries
either : (P : ℕ → Type 0) (a b x : ℕ) → Contains (a ∷ b ∷ []) x → P a → P b → P x
either P a b x (zero, l, e) p q = subst P e p
either P a b x (suc zero, l, e) p q = subst P e q
either P a b x (suc (suc k), l, e) p q = absurd (omega arith)

-- what holds of the six darts
each_dart : (P : ℕ → ℕ → Type 0) → P 0 2 → P 0 1 → P 1 0 → P 1 2 → P 2 1 → P 2 0 → (x y : ℕ) → HasDart triangle x y → P x y
each_dart P a b c d e f x7 y h = grind (arith, either)

some_dart : (v : ℕ) → v < 3 → (u : ℕ) × HasDart triangle v u
some_dart zero l = (2, (l, Contains-from_place_of 2 (2 ∷ 1 ∷ []) (omega arith)))
some_dart (suc zero) l = (0, (l, Contains-from_place_of 0 (0 ∷ 2 ∷ []) (omega arith)))
some_dart (suc (suc zero)) l = (1, (l, Contains-from_place_of 1 (1 ∷ 0 ∷ []) (omega arith)))
some_dart (suc (suc (suc v))) l = absurd (omega arith)

on_face : (x y : ℕ) → HasDart triangle x y → IsRunDart over 1 x y (face x y)
unfolding vertex_after
on_face = grind (arith, each_dart, IsRunDart, over, face)

goes_on : (x y : ℕ) → HasDart triangle x y → face y (follows triangle y x) ≡ face x y
unfolding entry_after
goes_on = each_dart (λ x y. face y (follows triangle y x) ≡ face x y) refl refl refl refl refl refl

triangle_map : IsRunMap triangle (1, 0) over 1 (λ v. v) face
triangle_map = record {
  simple = simple;
  joined = some_dart;
  dart = (omega arith, Contains-from_place_of 0 (0 ∷ 2 ∷ []) (omega arith));
  ranks = λ u v a b e. e;
  placed = λ v l. l;
  on_face = on_face;
  faces = goes_on;
  first = refl;
  second = refl;
  outer = refl;
}

-- no vertex is under its face, and the third one is the last
under_none : (k v : ℕ) → k < 1 → IsUnder over k v → IsTouched over k v
under_none x0 v l u = grind (arith, face, over, IsTouched)

end_last : (j : ℕ) → 0 < j → suc j < 3 → suc ((stage_after over 1).vertex j) < 3 → IsTouched over 1 ((stage_after over 1).vertex j)
unfolding vertex_after
end_last zero a b c = absurd (omega arith)
end_last (suc zero) a b c = absurd (omega arith)
end_last (suc (suc j)) a b c = absurd (omega arith)

triangle_touched : IsTouchedRun over 1
triangle_touched = grind (arith, under_none, end_last, IsStep, stage_after, over, row_step)
