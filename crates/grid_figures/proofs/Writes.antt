-- What is written when a vertex is put over a row.
use Rattle.std.proofs.Common.{◌≡◌, ◌≢◌, ◌+◌, ◌-◌, ◌<◌, ◌≤◌, ℕ, zero, suc, List, length, get_or, set, take, drop, AllPairs, All, sym, ap, ◌∙◌, subst, inl, inr, arith}
use Rattle.std.proofs.lemmas.Bool.{cases_lt}
use Rattle.std.proofs.lemmas.List.{get_or-set_same, get_or-set_other, get_or_default, length-set, length-take-le, length-drop, take_rest}
use Rattle.std.proofs.lemmas.Grind.{get_or_after_one}
use Rattle.std.proofs.Math.Seq.{take-length}
use Rattle.contour_runs.specs.Runs.{Step, Stage, after}
use Rattle.contour_runs.specs.Wood.{Coordinates, coordinates_after}
use Rattle.grid_figures.specs.Gaps.{AreGaps, IsPut, ArePassed, AreCovered, gap_sum}
use Rattle.grid_figures.proofs.Passes.{gap_sum-more}
use Rattle.grid_figures.proofs.Puts.{IsWritten, AreGaps-after}

-- the row without its first vertex
abbrev pub tail_of : List ℕ → List ℕ
tail_of row = take (length row - 1) (drop 1 row)

length-tail_of : (row : List ℕ) → 0 < length row → length (tail_of row) + 1 ≡ length row
length-tail_of row l = omega (arith, length-take-le (length row - 1) (drop 1 row) (omega (arith, length-drop 1 row)))

get_or-tail_of : (row : List ℕ) (i : ℕ) → i < length (tail_of row) → get_or (tail_of row) i 0 ≡ get_or row (suc i) 0
get_or-tail_of row i l =
    let e : 1 + i ≡ suc i = omega arith in
    ap (λ xs. get_or xs i 0) (take_rest row 1) ∙ get_or_after_one row i 0 ∙ ap (λ j. get_or row j 0) e

module _ (g : Stage) (s : Step) (at : Coordinates) (row : List ℕ) (v : ℕ) (drops rises spans covers : List ℕ) (put : IsPut g s at row v) (before : AreGaps g at drops rises spans covers) where
  abbrev p : ℕ
  p = g.vertex s.first

  abbrev q : ℕ
  q = g.vertex s.last

  abbrev us : List ℕ
  us = tail_of row

  pub row_some : 0 < length row
  row_some = let o = put.step.order in let n = put.row.count in omega arith

  length-us : length us + s.first ≡ s.last
  length-us = let o = put.step.order in let n = put.row.count in omega (arith, length-tail_of row row_some)

  row_last : get_or row (length row - 1) 0 ≡ q
  row_last =
      let o = put.step.order in
      let n = put.row.count in
      let e : s.first + (length row - 1) ≡ s.last = omega arith in
      put.row.each (length row - 1) (omega arith) ∙ ap g.vertex e

  older : (i : ℕ) → i ≤ s.last → g.vertex i < v
  older i l =
      let w = put.step.within in
      let h = put.stage.placed i (omega arith) in
      let c = put.count in
      omega arith

  each_at : (i : ℕ) → i < length us → get_or us i 0 ≡ g.vertex (s.first + suc i)
  each_at i l = get_or-tail_of row i l ∙ put.row.each (suc i) (omega (arith, length-tail_of row row_some))

  pub tail_within : (n : ℕ) → v < n → All (λ u. u < n) us
  tail_within n l i d m =
      let c = length-us in
      let o = older (s.first + suc i) (omega arith) in
      let f = each_at i m in
      subst (λ u. u < n) (get_or_default us i 0 d m) (omega arith)

  pub tail_distinct : AllPairs ◌≢◌ us
  tail_distinct i j d l m f =
      let c = length-us in
      let w = put.step.within in
      let a = each_at i (omega arith) in
      let b = each_at j m in
      let f' : get_or us i 0 ≡ get_or us j 0 = get_or_default us i 0 d (omega arith) ∙ f ∙ sym (get_or_default us j 0 d m) in
      let same = sym (put.stage.own (s.first + suc i) (omega arith)) ∙ ap g.place (sym a ∙ f' ∙ b) ∙ put.stage.own (s.first + suc j) (omega arith) in
      absurd (omega arith)

  -- the sums up to a vertex of the row tell its coordinates
  drop_at : (i : ℕ) → i ≤ length us → gap_sum drops (take i us) + at.one (g.vertex (s.first + i)) ≡ at.one p
  drop_at zero l = let e : s.first + 0 ≡ s.first = omega arith in omega (arith, ap (λ i. at.one (g.vertex i)) e)
  drop_at (suc i) l =
      let n = length-us in
      let w = put.step.within in
      let less = drop_at i (omega arith) in
      let more = gap_sum-more drops us i (omega arith) in
      let d : suc (s.first + i) ≡ s.first + suc i = omega arith in
      let gap = before.drop (s.first + i) (omega arith) in
      let u = ap (λ u. get_or drops u 0) (each_at i (omega arith)) in
      let x = ap (λ j. at.one (g.vertex j)) d in
      let y = ap (λ j. get_or drops (g.vertex j) 0) d in
      omega arith

  rise_at : (i : ℕ) → i ≤ length us → gap_sum rises (take i us) + at.two p ≡ at.two (g.vertex (s.first + i))
  rise_at zero l = let e : s.first + 0 ≡ s.first = omega arith in omega (arith, ap (λ i. at.two (g.vertex i)) e)
  rise_at (suc i) l =
      let n = length-us in
      let w = put.step.within in
      let less = rise_at i (omega arith) in
      let more = gap_sum-more rises us i (omega arith) in
      let d : suc (s.first + i) ≡ s.first + suc i = omega arith in
      let gap = before.rise (s.first + i) (omega arith) in
      let u = ap (λ u. get_or rises u 0) (each_at i (omega arith)) in
      let x = ap (λ j. at.two (g.vertex j)) d in
      let y = ap (λ j. get_or rises (g.vertex j) 0) d in
      omega arith

  drop_whole : gap_sum drops us + at.one q ≡ at.one p
  drop_whole =
      let n = length-us in
      let d : s.first + length us ≡ s.last = omega arith in
      ap (λ xs. gap_sum drops xs + at.one q) (sym (take-length us)) ∙ ap (λ i. gap_sum drops (take (length us) us) + at.one (g.vertex i)) (sym d) ∙ drop_at (length us) (omega arith)

  rise_whole : gap_sum rises us + at.two p ≡ at.two q
  rise_whole =
      let n = length-us in
      let d : s.first + length us ≡ s.last = omega arith in
      ap (λ xs. gap_sum rises xs + at.two p) (sym (take-length us)) ∙ rise_at (length us) (omega arith) ∙ ap (λ i. at.two (g.vertex i)) d

  -- the sums are small
  pub drop_small : gap_sum drops us ≤ v
  drop_small =
      let o = put.step.order in
      let w = put.step.within in
      let c = put.count in
      let h = put.falling in
      elim (cases_lt 0 p) [
        | inl some ↦ let sum = h.sums p some (put.stage.placed s.first (omega arith)) in omega (arith, drop_whole)
        | inr none ↦ let e : p ≡ 0 = omega arith in omega (arith, drop_whole, ap at.one e, h.first_one)
      ]

  pub rise_small : gap_sum rises us ≤ v
  rise_small =
      let w = put.step.within in
      let c = put.count in
      let h = put.falling in
      elim (cases_lt 0 q) [
        | inl some ↦ let sum = h.sums q some (put.stage.placed s.last w) in omega (arith, rise_whole)
        | inr none ↦ let e : q ≡ 0 = omega arith in omega (arith, rise_whole, ap at.two e, h.first_two)
      ]

  IsWritten-put :
      (span : ℕ) (drops' rises' covers' : List ℕ) → span ≡ gap_sum drops us → ArePassed us (length us) drops drops' → ArePassed us (length us) rises rises' → AreCovered v us (length us) covers covers'
      → v < length drops' → v < length rises' → v < length spans
      → IsWritten g s at v drops rises spans covers (set (set drops' v span) q 1) (set rises' v 0) (set spans v span) covers'
  IsWritten-put span drops' rises' covers' f passed passed' cover l l' l'' =
      let n = length-us in
      let o = put.step.order in
      let w = put.step.within in
      let new : List ℕ = set drops' v span in
      let old_q = older s.last (omega arith) in
      let apart : (i j : ℕ) → i < j → j ≤ s.last → g.vertex i ≢ g.vertex j = λ i j a b e. let same = sym (put.stage.own i (omega arith)) ∙ ap g.place e ∙ put.stage.own j (omega arith) in absurd (omega arith) in
      let not_v : (i : ℕ) → i ≤ s.last → g.vertex i ≢ v = λ i a e. let old_i = older i a in absurd (omega (arith, e)) in
      let below : (i : ℕ) → s.first < i → i ≤ s.last → (get_or us (i - suc s.first) 0 ≡ g.vertex i) × (i - suc s.first < length us) = λ i a b.
      let d : s.first + suc (i - suc s.first) ≡ i = omega arith in
      (each_at (i - suc s.first) (omega arith) ∙ ap g.vertex d, omega arith) in
      let outside : (u : ℕ) → ((i : ℕ) → s.first < i → i ≤ s.last → g.vertex i ≢ u) → (i : ℕ) → i < length us → get_or us i 0 ≢ u = λ u away i k e. away (s.first + suc i) (omega arith) (omega arith) (sym (each_at i k) ∙ e) in
      record {
        new_drop =
            let e = get_or-set_other new q v 1 0 (λ e. not_v s.last (omega arith) (sym e)) ∙ get_or-set_same drops' v span 0 l in
            omega (arith, e, f, drop_whole);
        new_span = omega (arith, get_or-set_same spans v span 0 l'', f, drop_whole);
        new_rise = get_or-set_same rises' v 0 0 l';
        last_drop = get_or-set_same new q 1 0 (omega (arith, old_q, length-set drops' v span));
        between = λ i a b.
            let u = below i a (omega arith) in
            let d : s.first + suc (i - suc s.first) ≡ i = omega arith in
            let one = get_or-set_other new q (g.vertex i) 1 0 (apart i s.last b (omega arith)) in
            let two = get_or-set_other drops' v (g.vertex i) span 0 (not_v i (omega arith)) in
            let three = ap (λ u. get_or drops' u 0) (sym u.0) ∙ passed.passed (i - suc s.first) u.1 in
            let four = drop_at (suc (i - suc s.first)) (omega (arith, u.1)) in
            omega (arith, one, two, three, four, ap (λ j. at.one (g.vertex j)) d);
        risen = λ i a b.
            let u = below i a b in
            let d : s.first + suc (i - suc s.first) ≡ i = omega arith in
            let two = get_or-set_other rises' v (g.vertex i) 0 0 (not_v i b) in
            let three = ap (λ u. get_or rises' u 0) (sym u.0) ∙ passed'.passed (i - suc s.first) u.1 in
            let four = rise_at (suc (i - suc s.first)) (omega (arith, u.1)) in
            omega (arith, two, three, four, ap (λ j. at.two (g.vertex j)) d);
        covered = λ i a b. let u = below i a (omega arith) in ap (λ u. get_or covers' u 0) (sym u.0) ∙ cover.covered (i - suc s.first) u.1;
        same_span = λ u ne. get_or-set_other spans v u span 0 ne;
        same_drop = λ u ne away. get_or-set_other new q u 1 0 (λ e. away s.last o (omega arith) (sym e)) ∙ get_or-set_other drops' v u span 0 ne ∙ passed.others u (outside u away);
        same_rise = λ u ne away. get_or-set_other rises' v u 0 0 ne ∙ passed'.others u (outside u away);
        same_cover = λ u away. cover.others u (outside u away);
      }

  -- all of it
  pub AreGaps-put :
      (span : ℕ) (drops' rises' covers' : List ℕ) → span ≡ gap_sum drops us → ArePassed us (length us) drops drops' → ArePassed us (length us) rises rises' → AreCovered v us (length us) covers covers'
      → v < length drops' → v < length rises' → v < length spans
      → AreGaps (after g s) (coordinates_after g s at) (set (set drops' v span) (get_or row (length row - 1) 0) 1) (set rises' v 0) (set spans v span) covers'
  AreGaps-put span drops' rises' covers' f passed passed' cover l l' l'' =
      AreGaps-after g s at v drops rises spans covers _ _ _ _ put.stage put.falling put.step put.count before
      (subst (λ q. IsWritten g s at v drops rises spans covers (set (set drops' v span) q 1) (set rises' v 0) (set spans v span) covers') (sym row_last) (IsWritten-put span drops' rises' covers' f passed passed' cover l l' l''))
