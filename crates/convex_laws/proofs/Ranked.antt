-- The rows of a whole run name its ranks.
use Rattle.std.proofs.Common.{◌≡◌, ◌⊎◌, ℕ, zero, suc, ◌+◌, ◌-◌, ◌<◌, ◌≤◌, true, length, slice_index, refl, sym, ap, ◌∙◌, inl, inr, arith}
use Rattle.std.proofs.lemmas.Bool.{cases_eq, cases_lt}
use Rattle.classes.proofs.Counting.{count_below_into, count_below_all}
use Rattle.map_lists.specs.Lists.{Lists}
use Rattle.map_theory.specs.Maps.{list_of}
use Rattle.contour_runs.specs.FaceRuns.{Step, stage_after}
use Rattle.convex_peeling.proofs.Faces.{some_or_none}
use Rattle.convex_laws.specs.declared.convex_rows.rows.ConvexRows.{ConvexRows}
use Rattle.convex_laws.specs.RunsOfMaps.{IsRunOf}
use Rattle.convex_laws.specs.Removed.{HasRows, AreRowsOfRun}
use Rattle.convex_laws.proofs.Ends.{IsRowFor}

-- the vertex of a rank, if there is one
unfoldable found_or : (P : ℕ → Type 0) (n : ℕ) → ((i : ℕ) × (i < n) × P i) ⊎ ((i : ℕ) → i < n → ¬ P i) → ℕ
found_or P n (inl at) = at.0
found_or P n (inr none) = 0

found_or-is : (P : ℕ → Type 0) (n i : ℕ) (h : ((i : ℕ) × (i < n) × P i) ⊎ ((i : ℕ) → i < n → ¬ P i)) → i < n → P i → (found_or P n h < n) × P (found_or P n h)
unfolding found_or
found_or-is P n i (inl at) l p = (at.1, at.2)
found_or-is P n i (inr none) l p = absurd (none i l p)

abbrev vertex_of : (ℕ → ℕ) → ℕ → ℕ → ℕ
vertex_of rank n r = found_or (λ v. rank v ≡ r) n (some_or_none (λ v. rank v ≡ r) n (λ v l. cases_eq (rank v) r))

vertex_of-is : (rank : ℕ → ℕ) (n r v : ℕ) → v < n → rank v ≡ r → (vertex_of rank n r < n) × (rank (vertex_of rank n r) ≡ r)
vertex_of-is rank n r v l e = found_or-is (λ u. rank u ≡ r) n v (some_or_none (λ u. rank u ≡ r) n (λ u l. cases_eq (rank u) r)) l e

module _ (lists : Lists) (s d : ℕ) (rows : ConvexRows) (m : ℕ) (steps : ℕ → Step) (rank : ℕ → ℕ) (face : ℕ → ℕ → ℕ) (has : HasRows rows m) (run : IsRunOf lists s d steps m rank face) (rows_for : (k j : ℕ) → j < m → k + suc j ≡ m → IsRowFor lists rows j (stage_after steps k) (steps k) rank) where
  abbrev total : ℕ
  total = length lists

  abbrev at : ℕ → ℕ
  at = vertex_of rank total

  -- each rank stands for a vertex
  hit : (k r : ℕ) → k ≤ m → r < (stage_after steps k).count → (v : ℕ) × (v < total) × (rank v ≡ r)
  hit zero r l less =
      elim (cases_eq r 0) [
        | inl e ↦ (d, run.map.simple.in_range s d run.map.dart, run.map.first ∙ sym e)
        | inr ne ↦ (let z : 1 ≡ r = omega arith in (s, run.map.dart.0, run.map.second ∙ z))
      ]
  hit (suc k) r l less =
      elim (cases_lt r (stage_after steps k).count) [
        | inl low ↦ hit k r (omega arith) low
        | inr high ↦
            let j : ℕ = m - suc k in
            let news = (rows_for k j (omega arith) (omega arith)).news in
            let i : ℕ = r - (stage_after steps k).count in
            let in_news : i < length (list_of rows.news j) = omega arith in
            let z : (stage_after steps k).count + i ≡ r = omega arith in
            (slice_index (list_of rows.news j) i, news.within i in_news, sym (news.each i in_news) ∙ z)
      ]

  at_is : (r : ℕ) → r < (stage_after steps m).count → (at r < total) × (rank (at r) ≡ r)
  at_is r l = let v = hit m r (omega arith) l in vertex_of-is rank total r v.0 v.1 v.2

  at_rank : (v : ℕ) → v < total → at (rank v) ≡ v
  at_rank v l = let e = vertex_of-is rank total (rank v) v l refl in run.map.ranks (at (rank v)) v e.0 l e.1

  all_counted : (stage_after steps m).count ≡ total
  all_counted =
      let count = (stage_after steps m).count in
      let a = count_below_into rank (λ t. true) (λ t. true) total count (λ v l p. (run.map.placed v l, refl)) (λ u v l l' p p' e. run.map.ranks u v l l' e) in
      let b = count_below_into at (λ t. true) (λ t. true) count total (λ r l p. ((at_is r l).0, refl)) (λ r q l l' p p' e. sym (at_is r l).1 ∙ (ap rank e ∙ (at_is q l').1)) in
      omega (arith, a, b, count_below_all total, count_below_all count)

  -- THE ROWS
  pub rows_of_run : AreRowsOfRun lists s d rows
  rows_of_run =
      record {
        steps = steps;
        n = m;
        rank = rank;
        face = face;
        at = at;
        run = run;
        rows_are = record {
          rows_count = has.rows_count;
          cuts_count = has.cuts_count;
          news_count = has.news_count;
          row = λ k j e.
              let h = (rows_for k j (omega arith) e).row in
              record { long = h.long; each = λ i l. sym (ap at (h.each i l) ∙ at_rank (slice_index (list_of rows.rows j) i) (h.within i l)) };
          cuts = λ k j e. (rows_for k j (omega arith) e).cuts;
          news = λ k j e.
              let h = (rows_for k j (omega arith) e).news in
              record { long = h.long; each = λ i l. sym (ap at (h.each i l) ∙ at_rank (slice_index (list_of rows.news j) i) (h.within i l)) };
        };
        ranked = record {
          all = all_counted;
          below = λ r l. (at_is r (omega (arith, l, all_counted))).0;
          one = λ r q l l' e. sym (at_is r (omega (arith, l, all_counted))).1 ∙ (ap rank e ∙ (at_is q (omega (arith, l', all_counted))).1);
        };
        named = at_rank;
      }
