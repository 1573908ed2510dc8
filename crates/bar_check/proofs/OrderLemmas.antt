-- The edges of a vertex have an order, and a list that goes once round is in it.
use Rattle.std.proofs.Common.{◌⊎◌, ℕ, ◌<◌, ◌≤◌, length, ℤ, ◌≤ℤ◌, sym, ◌∙◌, arith}
use Rattle.std.proofs.lemmas.Int.{ints, by_lt_z}
use Rattle.map_lists.specs.Lists.{Lists}
use Rattle.map_theory.specs.Maps.{IsSimpleMap, list_of, entry_after}
use Rattle.pg_plane.specs.declared.figures.BarFigure.{BarFigure}
use Rattle.map_theory.proofs.DartLemmas.{Contains-entry_after}
use Rattle.map_theory.proofs.RoundOrder.{sorted_from_once, once_from_sorted}
use Rattle.drawings.specs.Bars.{number_at, IsAbove, IsEarlier, GoesOnceRound}
use Rattle.bar_check.specs.Laws.{IsInOrder}

module _ (lists : Lists) (fig : BarFigure) (v : ℕ) where
  abbrev y : ℕ → ℤ
  y u = number_at fig.y u

  -- u is no vertex above v
  not_above : (u : ℕ) → y u ≤ℤ y v → ¬ IsAbove fig v u
  not_above u l = λ h. omega (arith, ints)

  decided : (u w : ℕ) → IsEarlier lists fig v u w ⊎ ¬ IsEarlier lists fig v u w
  decided u w = grind (arith, by_lt_z, ints, not_above)

  apart : (u w : ℕ) → IsEarlier lists fig v u w → ¬ IsEarlier lists fig v w u
  apart u w h h' = grind (arith, ints)

  chained : (u w z : ℕ) → IsEarlier lists fig v u w → IsEarlier lists fig v w z → IsEarlier lists fig v u z
  chained u w z h h' = grind (arith, ints)

  module _ (simple : IsSimpleMap lists) (lv : v < length lists) where
    -- a list that goes once round is in order from behind the break on
    pub order_from_once : GoesOnceRound lists fig v → IsInOrder lists fig v
    order_from_once g =
        let us = list_of lists v in
        let b = g.some.0 in
        let sorted = sorted_from_once (IsEarlier lists fig v) decided apart chained us b (simple.no_repeat v lv) g.some.1.1 (λ u has breaks. g.one u b (lv, has) g.some.1 breaks g.some.2) in
        (entry_after b us, Contains-entry_after b us g.some.1.1, sorted)

    -- and one in order goes once round
    pub once_from_order : 2 ≤ length (list_of lists v) → IsInOrder lists fig v → GoesOnceRound lists fig v
    once_from_order two h =
        let once = once_from_sorted (IsEarlier lists fig v) decided apart chained (list_of lists v) h.0 (simple.no_repeat v lv) two h.1 h.2 in
        record {
          some = (once.0, (lv, once.1), once.2);
          one = λ u w has has' bu bw. once.3 u has.1 bu ∙ sym (once.3 w has'.1 bw);
        }
