-- The definitions, run on a dual that was worked out by hand.
use Rattle.std.proofs.Common.{◌↔◌, ℕ, zero, suc, ◌+◌, ◌<◌, [], ◌∷◌, pos, refl, inl, inr, arith, rules}
use Rattle.std.proofs.lemmas.Int.{ints}
use Rattle.map_lists.specs.Lists.{Lists}
use Rattle.map_theory.specs.Maps.{HasDart, entry_after}
use Rattle.pg_plane.specs.declared.figures.RectFigure.{RectFigure}
use Rattle.drawings.specs.Duals.{IsSpan, IsRect, DoMeet, IsBeside, IsAbove, ShareSide, HasFrame, IsRectangularDual}

-- a wheel of four spokes, whose hub is the last vertex
abbrev wheel : Lists
wheel = (1 ∷ 4 ∷ 3 ∷ []) ∷ (2 ∷ 4 ∷ 0 ∷ []) ∷ (3 ∷ 4 ∷ 1 ∷ []) ∷ (0 ∷ 4 ∷ 2 ∷ []) ∷ (0 ∷ 1 ∷ 2 ∷ 3 ∷ []) ∷ []

-- a frame of four, and the hub inside
abbrev pub framed_hub : RectFigure
framed_hub = record {
  x1 = pos 0 ∷ pos 0 ∷ pos 2 ∷ pos 0 ∷ pos 1 ∷ [];
  x2 = pos 1 ∷ pos 3 ∷ pos 3 ∷ pos 3 ∷ pos 2 ∷ [];
  y1 = pos 1 ∷ pos 2 ∷ pos 1 ∷ pos 0 ∷ pos 1 ∷ [];
  y2 = pos 2 ∷ pos 3 ∷ pos 2 ∷ pos 1 ∷ pos 2 ∷ [];
}

-- what holds of five vertices holds of all
each_vertex : (P : ℕ → Type 0) → P 0 → P 1 → P 2 → P 3 → P 4 → (v : ℕ) → v < 5 → P v
each_vertex P a b c d e zero l = a
each_vertex P a b c d e (suc zero) l = b
each_vertex P a b c d e (suc (suc zero)) l = c
each_vertex P a b c d e (suc (suc (suc zero))) l = d
each_vertex P a b c d e (suc (suc (suc (suc zero)))) l = e
each_vertex P a b c d e (suc (suc (suc (suc (suc v))))) l = absurd (omega arith)

span : (p q : ℕ) → p < q → q < 4 → IsSpan 5 (pos p) (pos q)
span p q l m = record { first = omega (arith, ints); order = omega (arith, ints); last = omega (arith, ints) }

rects : (v : ℕ) → v < 5 → IsRect 5 framed_hub v
rects =
    each_vertex (IsRect 5 framed_hub)
    (record { wide = span 0 1 (omega arith) (omega arith); tall = span 1 2 (omega arith) (omega arith) })
    (record { wide = span 0 3 (omega arith) (omega arith); tall = span 2 3 (omega arith) (omega arith) })
    (record { wide = span 2 3 (omega arith) (omega arith); tall = span 1 2 (omega arith) (omega arith) })
    (record { wide = span 0 3 (omega arith) (omega arith); tall = span 0 1 (omega arith) (omega arith) })
    (record { wide = span 1 2 (omega arith) (omega arith); tall = span 1 2 (omega arith) (omega arith) })

-- what has to be known of a pair: whether it is adjacent, with how it touches, or that it does not touch
abbrev Touch : ℕ → ℕ → Type 0
Touch u v = (¬ DoMeet framed_hub u v) × (ShareSide framed_hub u v ↔ HasDart wheel u v)

abbrev TouchLater : ℕ → ℕ → Type 0
TouchLater u v = u < v → Touch u v

-- two that are beside one another, or one above the other
beside : (u v : ℕ) → IsBeside framed_hub u v → HasDart wheel u v → Touch u v
beside u v h d = ((λ m. let l = m.right in let e = h.line in omega (arith, ints)), ((λ s. d), (λ e. inl (inl h))))

above : (u v : ℕ) → IsAbove framed_hub u v → HasDart wheel u v → Touch u v
above u v h d = ((λ m. let l = m.high in let e = h.line in omega (arith, ints)), ((λ s. d), (λ e. inr (inl h))))

below : (u v : ℕ) → IsAbove framed_hub v u → HasDart wheel u v → Touch u v
below u v h d = ((λ m. let l = m.low in let e = h.line in omega (arith, ints)), ((λ s. d), (λ e. inr (inr h))))

besides : (u v : ℕ) → IsBeside framed_hub v u → HasDart wheel u v → Touch u v
besides u v h d = ((λ m. let l = m.left in let e = h.line in omega (arith, ints)), ((λ s. d), (λ e. inl (inr h))))

-- the left one and the right one, the upper one and the lower one are apart
pub left_and_right : ¬ ShareSide framed_hub 0 2
left_and_right (inl (inl h)) = let e = h.line in omega (arith, ints)
left_and_right (inl (inr h)) = let e = h.line in omega (arith, ints)
left_and_right (inr (inl h)) = let e = h.line in omega (arith, ints)
left_and_right (inr (inr h)) = let e = h.line in omega (arith, ints)

top_and_bottom : ¬ ShareSide framed_hub 1 3
top_and_bottom (inl (inl h)) = let e = h.line in omega (arith, ints)
top_and_bottom (inl (inr h)) = let e = h.line in omega (arith, ints)
top_and_bottom (inr (inl h)) = let e = h.line in omega (arith, ints)
top_and_bottom (inr (inr h)) = let e = h.line in omega (arith, ints)

no_dart_0_2 : ¬ HasDart wheel 0 2
no_dart_0_2 (l, (zero, li, e)) = omega (arith, e)
no_dart_0_2 (l, (suc zero, li, e)) = omega (arith, e)
no_dart_0_2 (l, (suc (suc zero), li, e)) = omega (arith, e)
no_dart_0_2 (l, (suc (suc (suc i)), li, e)) = omega arith

no_dart_1_3 : ¬ HasDart wheel 1 3
no_dart_1_3 (l, (zero, li, e)) = omega (arith, e)
no_dart_1_3 (l, (suc zero, li, e)) = omega (arith, e)
no_dart_1_3 (l, (suc (suc zero), li, e)) = omega (arith, e)
no_dart_1_3 (l, (suc (suc (suc i)), li, e)) = omega arith

not_later : (u v : ℕ) → v < u + 1 → TouchLater u v
not_later u v l later = absurd (omega arith)

with_0 : (v : ℕ) → v < 5 → TouchLater 0 v
with_0 =
    each_vertex (λ v. TouchLater 0 v)
    (not_later 0 0 (omega arith))
    (λ l. above 0 1 (record { line = refl; left = omega (arith, ints); right = omega (arith, ints) }) (omega arith, (0, omega arith, refl)))
    (λ l. ((λ m. let h = m.right in omega (arith, ints)), ((λ s. absurd (left_and_right s)), (λ d. absurd (no_dart_0_2 d)))))
    (λ l. below 0 3 (record { line = refl; left = omega (arith, ints); right = omega (arith, ints) }) (omega arith, (2, omega arith, refl)))
    (λ l. beside 0 4 (record { line = refl; low = omega (arith, ints); high = omega (arith, ints) }) (omega arith, (1, omega arith, refl)))

with_1 : (v : ℕ) → v < 5 → TouchLater 1 v
with_1 =
    each_vertex (λ v. TouchLater 1 v)
    (not_later 1 0 (omega arith))
    (not_later 1 1 (omega arith))
    (λ l. below 1 2 (record { line = refl; left = omega (arith, ints); right = omega (arith, ints) }) (omega arith, (0, omega arith, refl)))
    (λ l. ((λ m. let h = m.low in omega (arith, ints)), ((λ s. absurd (top_and_bottom s)), (λ d. absurd (no_dart_1_3 d)))))
    (λ l. below 1 4 (record { line = refl; left = omega (arith, ints); right = omega (arith, ints) }) (omega arith, (1, omega arith, refl)))

with_2 : (v : ℕ) → v < 5 → TouchLater 2 v
with_2 =
    each_vertex (λ v. TouchLater 2 v)
    (not_later 2 0 (omega arith))
    (not_later 2 1 (omega arith))
    (not_later 2 2 (omega arith))
    (λ l. below 2 3 (record { line = refl; left = omega (arith, ints); right = omega (arith, ints) }) (omega arith, (0, omega arith, refl)))
    (λ l. besides 2 4 (record { line = refl; low = omega (arith, ints); high = omega (arith, ints) }) (omega arith, (1, omega arith, refl)))

with_3 : (v : ℕ) → v < 5 → TouchLater 3 v
with_3 =
    each_vertex (λ v. TouchLater 3 v)
    (not_later 3 0 (omega arith))
    (not_later 3 1 (omega arith))
    (not_later 3 2 (omega arith))
    (not_later 3 3 (omega arith))
    (λ l. above 3 4 (record { line = refl; left = omega (arith, ints); right = omega (arith, ints) }) (omega arith, (1, omega arith, refl)))

with_4 : (v : ℕ) → v < 5 → TouchLater 4 v
with_4 v l more = absurd (omega arith)

touches : (u v : ℕ) → u < v → v < 5 → Touch u v
touches u v less l = each_vertex (λ u. (v : ℕ) → v < 5 → TouchLater u v) with_0 with_1 with_2 with_3 with_4 u (omega arith) v l less

-- the outer face goes over the four others
framed : HasFrame wheel
unfolding entry_after
framed = record {
  dart = (omega arith, (0, omega arith, refl));
  second = refl;
  third = refl;
  fourth = refl;
  again = refl;
  distinct = search rules;
}

-- all together
dual : IsRectangularDual wheel framed_hub
unfolding entry_after
dual = record {
  rects = rects;
  apart = λ u v less l. (touches u v less l).0;
  areas = refl;
  contacts = λ u v less l. (touches u v less l).1;
  frame = framed;
  framed = record {
    left = refl;
    top = (record { first = refl; last = refl }, refl);
    right = refl;
    bottom = (record { first = refl; last = refl }, refl);
  };
}
