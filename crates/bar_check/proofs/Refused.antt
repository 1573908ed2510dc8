-- Verdicts that wrong bodies would give, each on a small drawing.
use Rattle.std.proofs.Common.{List, [], ◌∷◌, ℤ, pos, refl, inl, ⊎_elim, arith}
use Rattle.std.proofs.lemmas.Int.{ints}
use Rattle.map_lists.specs.declared.ids.VertexId.{VertexId}
use Rattle.map_lists.specs.Lists.{Lists}
use Rattle.map_theory.specs.Maps.{entry_after}
use Rattle.pg_plane.specs.declared.figures.BarFigure.{BarFigure}
use Rattle.drawings.specs.Bars.{edges_until, edges_before}
use Rattle.bar_check.specs.Verdicts.{IsBarVerdict}
use Rattle.bar_check.specs.declared.verdict.BarVerdict.TheVariants.{BadBar, Through, Yes}

-- a bar turned round is named before two bars of one height
bars_before_heights : (width : ℤ) (v : VertexId) → IsBarVerdict ([] ∷ [] ∷ []) (record { y = pos 0 ∷ pos 0 ∷ []; x1 = pos 1 ∷ pos 0 ∷ []; x2 = pos 0 ∷ pos 0 ∷ []; column = [] }) width (BadBar v) → ⊥
bars_before_heights width v b = (b.1 1 (omega arith)).new 0 (omega arith) refl

-- an edge goes through a bar between its ends
blocked_edges_passed_over : (width : ℤ) → IsBarVerdict ((1 ∷ []) ∷ (0 ∷ []) ∷ [] ∷ []) (record { y = pos 0 ∷ pos 2 ∷ pos 1 ∷ []; x1 = pos 0 ∷ pos 0 ∷ pos 0 ∷ []; x2 = pos 0 ∷ pos 0 ∷ pos 0 ∷ []; column = pos 0 ∷ [] }) width Yes → ⊥
unfolding edges_until edges_before
blocked_edges_passed_over width v =
    v.clear 0 1 2 (omega arith, (omega arith, (0, omega arith, refl))) (omega arith) (record {
      between = inl (omega (arith, ints), omega (arith, ints));
      holds = record { from = omega (arith, ints); to = omega (arith, ints) };
    })

-- two bars and the column between them
abbrev two : List ℤ → BarFigure
two columns = record { y = pos 0 ∷ pos 1 ∷ []; x1 = pos 0 ∷ pos 0 ∷ []; x2 = pos 0 ∷ pos 0 ∷ []; column = columns }

abbrev edge : Lists
edge = (1 ∷ []) ∷ (0 ∷ []) ∷ []

-- an edge struck by the bar of its own end
bar_at_an_end_strikes : (width : ℤ) → IsBarVerdict edge (two (pos 0 ∷ [])) width (Through (record { a = record { 0 = 0 }; b = record { 0 = 1 }; rising = omega arith }) (record { 0 = 0 })) → ⊥
bar_at_an_end_strikes width v =
    ⊎_elim (λ l. omega (arith, ints, l.0)) (λ l. omega (arith, ints, l.0)) v.4.rest.rest.here.struck.between

-- the column of the edge looked for behind its own
edge_counts_itself : IsBarVerdict edge (two (pos 5 ∷ [])) (pos 0) Yes → ⊥
unfolding edges_until edges_before
edge_counts_itself v = omega (arith, ints, (v.ends 0 1 (omega arith, (omega arith, (0, omega arith, refl)))).right)

-- three edges down from one bar, by rising column
downwards_by_rising_column : (width : ℤ) → IsBarVerdict ((1 ∷ 2 ∷ 3 ∷ []) ∷ (0 ∷ []) ∷ (0 ∷ []) ∷ (0 ∷ []) ∷ []) (record { y = pos 3 ∷ pos 0 ∷ pos 1 ∷ pos 2 ∷ []; x1 = pos 0 ∷ pos 0 ∷ pos 1 ∷ pos 2 ∷ []; x2 = pos 2 ∷ pos 0 ∷ pos 1 ∷ pos 2 ∷ []; column = pos 0 ∷ pos 1 ∷ pos 2 ∷ [] }) width Yes → ⊥
unfolding edges_until edges_before entry_after
downwards_by_rising_column width v =
    omega (arith, (v.turns 0 (omega arith) (omega arith)).one 1 2 (omega arith, (0, omega arith, refl)) (omega arith, (1, omega arith, refl)) (λ e. ⊎_elim (λ x. omega (arith, ints, x.0)) (λ x. ⊎_elim (λ y. omega (arith, ints, y.0)) (λ y. omega (arith, ints, y.2)) x) e) (λ e. ⊎_elim (λ x. omega (arith, ints, x.0)) (λ x. ⊎_elim (λ y. omega (arith, ints, y.0)) (λ y. omega (arith, ints, y.2)) x) e))
