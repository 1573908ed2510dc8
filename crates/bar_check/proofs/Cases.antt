-- The definitions, run on drawings that were worked out by hand.
use Rattle.std.proofs.Common.{◌≡◌, ◌≢◌, ℕ, zero, suc, ◌<◌, ◌≤◌, List, [], ◌∷◌, length, Contains, ℤ, pos, refl, sym, subst, ◌∙◌, inl, inr, ⊎_elim, arith}
use Rattle.std.proofs.lemmas.Int.{ints}
use Rattle.map_lists.specs.Lists.{Lists}
use Rattle.map_theory.specs.Maps.{IsSimpleMap, list_of, follows, entry_after}
use Rattle.simple_maps.specs.Faults.{first_fault}
use Rattle.simple_maps.proofs.FaultLemmas.{IsSimpleMap-from_first_fault}
use Rattle.pg_plane.specs.declared.figures.BarFigure.{BarFigure}
use Rattle.vertex_rounds.specs.Rounds.{HasEdge}
use Rattle.drawings.specs.Bars.{number_at, edges_until, edges_before, edge_number, column_of, IsNewHeight, IsBar, IsColumn, IsStruck, IsEarlier, IsBreak, GoesOnceRound}
use Rattle.bar_check.specs.Faults.{GoesThrough}
use Rattle.bar_check.specs.Verdicts.{IsBarVerdict, NoBadColumn, NoneThrough}
use Rattle.bar_check.specs.declared.verdict.BarVerdict.TheVariants.{BadShape, Yes}
use Rattle.bar_check.proofs.OverlapLemmas.{valid_bars}

-- the edges of a four-cycle with a diagonal, whose lists are not in rising order
abbrev four : Lists
four = (1 ∷ 3 ∷ 2 ∷ []) ∷ (0 ∷ 2 ∷ []) ∷ (3 ∷ 1 ∷ 0 ∷ []) ∷ (0 ∷ 2 ∷ []) ∷ []

first_number : edge_number four 0 1 ≡ 0
unfolding edges_until edges_before
first_number = refl

third_number : edge_number four 0 3 ≡ 2
unfolding edges_until edges_before
third_number = refl

last_number : edge_number four 2 3 ≡ 4
unfolding edges_until edges_before
last_number = refl

-- a triangle of bars: 1 on the ground, 2 over it, and 3 between them on the right
abbrev triangle : Lists
triangle = (1 ∷ 2 ∷ []) ∷ (2 ∷ 0 ∷ []) ∷ (0 ∷ 1 ∷ []) ∷ []

abbrev bars_with : List ℤ → BarFigure
bars_with columns = record {
  y = pos 0 ∷ pos 2 ∷ pos 1 ∷ [];
  x1 = pos 0 ∷ pos 0 ∷ pos 1 ∷ [];
  x2 = pos 1 ∷ pos 1 ∷ pos 1 ∷ [];
  column = columns;
}

abbrev bars : BarFigure
bars = bars_with (pos 0 ∷ pos 1 ∷ pos 1 ∷ [])

-- what holds of its three edges holds of all
each_edge : (P : ℕ → ℕ → Type 0) → P 0 1 → P 0 2 → P 1 2 → (a b : ℕ) → HasEdge triangle a b → P a b
each_edge P x y z x4 b x6 = grind arith

-- and of its three vertices
each_vertex : (P : ℕ → Type 0) → P 0 → P 1 → P 2 → (v : ℕ) → v < 3 → P v
each_vertex P x y z zero l = x
each_vertex P x y z (suc zero) l = y
each_vertex P x y z (suc (suc zero)) l = z
each_vertex P x y z (suc (suc (suc v))) l = absurd (omega arith)

heights : (v : ℕ) → v < 3 → IsNewHeight triangle bars v
heights = grind (arith, each_vertex, IsNewHeight, triangle, bars, ints, number_at, pos)

within : (v : ℕ) → v < 3 → IsBar bars (pos 1) v
within =
    each_vertex (IsBar bars (pos 1))
    (record { left = omega (arith, ints); order = omega (arith, ints); right = omega (arith, ints) })
    (record { left = omega (arith, ints); order = omega (arith, ints); right = omega (arith, ints) })
    (record { left = omega (arith, ints); order = omega (arith, ints); right = omega (arith, ints) })

-- a column too few
too_few : IsBarVerdict triangle (bars_with (pos 0 ∷ pos 1 ∷ [])) (pos 1) BadShape
too_few = λ e. omega arith

-- the edge from 1 to 2 moved to the right goes through the bar of 3
through : GoesThrough triangle (bars_with (pos 1 ∷ pos 1 ∷ pos 1 ∷ [])) 0 1 2
unfolding edges_until edges_before
through = record {
  edge = (omega arith, (omega arith, (0, omega arith, refl)));
  vertex = omega arith;
  struck = record { between = inl (omega (arith, ints), omega (arith, ints)); holds = record { from = omega (arith, ints); to = omega (arith, ints) } };
}

-- a list of two entries, of which the first comes before the second and not the other way round
two_entries : (v x y : ℕ) → v < 3 → list_of triangle v ≡ x ∷ y ∷ [] → follows triangle v x ≡ y → follows triangle v y ≡ x → IsEarlier triangle bars v x y → ¬ IsEarlier triangle bars v y x → GoesOnceRound triangle bars v
two_entries v x y lv e to back first not_second = record {
  some = (y, (lv, subst (λ us. Contains us y) (sym e) (1, omega arith, refl)), λ h. not_second (subst (λ t. IsEarlier triangle bars v y t) back h));
  one = λ u w has has' bu bw. is u (subst (λ us. Contains us u) e has.1) bu ∙ sym (is w (subst (λ us. Contains us w) e has'.1) bw);
}
  where
    is : (u : ℕ) → Contains (x ∷ y ∷ []) u → IsBreak triangle bars v u → u ≡ y
    is u (zero, l, same) b = absurd (subst (λ t. IsBreak triangle bars v t) (sym same) b (subst (λ t. IsEarlier triangle bars v x t) (sym to) first))
    is u (suc zero, l, same) b = sym same
    is u (suc (suc i), l, same) b = absurd (omega arith)

-- and one of which the second comes before the first
two_behind : (v x y : ℕ) → v < 3 → list_of triangle v ≡ x ∷ y ∷ [] → follows triangle v x ≡ y → follows triangle v y ≡ x → IsEarlier triangle bars v y x → ¬ IsEarlier triangle bars v x y → GoesOnceRound triangle bars v
two_behind v x y lv e to back second not_first = record {
  some = (x, (lv, subst (λ us. Contains us x) (sym e) (0, omega arith, refl)), λ h. not_first (subst (λ t. IsEarlier triangle bars v x t) to h));
  one = λ u w has has' bu bw. is u (subst (λ us. Contains us u) e has.1) bu ∙ sym (is w (subst (λ us. Contains us w) e has'.1) bw);
}
  where
    is : (u : ℕ) → Contains (x ∷ y ∷ []) u → IsBreak triangle bars v u → u ≡ x
    is u (zero, l, same) b = sym same
    is u (suc zero, l, same) b = absurd (subst (λ t. IsBreak triangle bars v t) (sym same) b (subst (λ t. IsEarlier triangle bars v y t) (sym back) second))
    is u (suc (suc i), l, same) b = absurd (omega arith)

-- upwards by rising column
first_round : GoesOnceRound triangle bars 0
unfolding edges_until edges_before entry_after
first_round =
    two_entries 0 1 2 (omega arith) refl refl refl
    (inr (inl (omega (arith, ints), omega (arith, ints), omega (arith, ints))))
    (λ h. ⊎_elim (λ p. p.1 (omega (arith, ints))) (λ q. ⊎_elim (λ p. let l = p.2 in omega (arith, ints)) (λ p. p.0 (omega (arith, ints))) q) h)

-- downwards by falling column
second_round : GoesOnceRound triangle bars 1
unfolding edges_until edges_before entry_after
second_round =
    two_entries 1 2 0 (omega arith) refl refl refl
    (inr (inr ((λ l. omega (arith, ints)), (λ l. omega (arith, ints)), omega (arith, ints))))
    (λ h. ⊎_elim (λ p. let l = p.0 in omega (arith, ints)) (λ q. ⊎_elim (λ p. let l = p.0 in omega (arith, ints)) (λ p. let l = p.2 in omega (arith, ints)) q) h)

-- upwards and then downwards
third_round : GoesOnceRound triangle bars 2
unfolding edges_until edges_before entry_after
third_round =
    two_behind 2 0 1 (omega arith) refl refl refl
    (inl (omega (arith, ints), (λ l. omega (arith, ints))))
    (λ h. ⊎_elim (λ p. let l = p.0 in omega (arith, ints)) (λ q. ⊎_elim (λ p. let l = p.0 in omega (arith, ints)) (λ p. p.1 (omega (arith, ints))) q) h)

turns : (v : ℕ) → v < 3 → 2 ≤ length (list_of triangle v) → GoesOnceRound triangle bars v
turns v l two = each_vertex (GoesOnceRound triangle bars) first_round second_round third_round v l

column_first : IsColumn bars (pos 1) 0 1 (column_of triangle bars 0 1)
unfolding edges_until edges_before
column_first = record { left = omega (arith, ints); right = omega (arith, ints); lesser = record { from = omega (arith, ints); to = omega (arith, ints) }; greater = record { from = omega (arith, ints); to = omega (arith, ints) } }

column_second : IsColumn bars (pos 1) 0 2 (column_of triangle bars 0 2)
unfolding edges_until edges_before
column_second = record { left = omega (arith, ints); right = omega (arith, ints); lesser = record { from = omega (arith, ints); to = omega (arith, ints) }; greater = record { from = omega (arith, ints); to = omega (arith, ints) } }

column_third : IsColumn bars (pos 1) 1 2 (column_of triangle bars 1 2)
unfolding edges_until edges_before
column_third = record { left = omega (arith, ints); right = omega (arith, ints); lesser = record { from = omega (arith, ints); to = omega (arith, ints) }; greater = record { from = omega (arith, ints); to = omega (arith, ints) } }

-- the columns stand within the bars
no_bad_column : NoBadColumn triangle bars (pos 1)
no_bad_column a b h = h.bad (each_edge (λ a b. IsColumn bars (pos 1) a b (column_of triangle bars a b)) column_first column_second column_third a b h.edge)

clear_first : (v : ℕ) → v < 3 → ¬ IsStruck bars 0 1 (column_of triangle bars 0 1) v
unfolding edges_until edges_before
clear_first =
    each_vertex (λ v. ¬ IsStruck bars 0 1 (column_of triangle bars 0 1) v)
    (λ s. ⊎_elim (λ p. let l = p.0 in omega (arith, ints)) (λ p. let l = p.0 in omega (arith, ints)) s.between)
    (λ s. ⊎_elim (λ p. let l = p.1 in omega (arith, ints)) (λ p. let l = p.0 in omega (arith, ints)) s.between)
    (λ s. let l = s.holds.from in omega (arith, ints))

clear_second : (v : ℕ) → v < 3 → ¬ IsStruck bars 0 2 (column_of triangle bars 0 2) v
clear_second v l s = ⊎_elim (λ p. let a = p.0 in let b = p.1 in omega (arith, ints)) (λ p. let a = p.0 in let b = p.1 in omega (arith, ints)) s.between

clear_third : (v : ℕ) → v < 3 → ¬ IsStruck bars 1 2 (column_of triangle bars 1 2) v
clear_third v l s = ⊎_elim (λ p. let a = p.0 in let b = p.1 in omega (arith, ints)) (λ p. let a = p.0 in let b = p.1 in omega (arith, ints)) s.between

simple : IsSimpleMap triangle
unfolding first_fault
simple = IsSimpleMap-from_first_fault triangle (omega arith) refl

-- and clear of the other bar
none_through : NoneThrough triangle bars
none_through a b v h = each_edge (λ a b. (v : ℕ) → v < 3 → ¬ IsStruck bars a b (column_of triangle bars a b) v) clear_first clear_second clear_third a b h.edge v h.vertex h.struck

-- the bars are valid
valid : IsBarVerdict triangle bars (pos 1) Yes
valid = valid_bars triangle bars (pos 1) simple refl heights within no_bad_column none_through turns
