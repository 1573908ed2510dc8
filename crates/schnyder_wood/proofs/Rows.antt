-- The parents of a run, row by row.
use Rattle.std.proofs.Common.{◌≡◌, ◌≢◌, ◌+◌, ◌-◌, ◌<◌, ◌≤◌, ℕ, suc, List, length, get_or, set, All, sym, ap, ◌∙◌, subst, inl, inr, arith}
use Rattle.std.proofs.lemmas.Bool.{cases_lt, cases_eq}
use Rattle.std.proofs.lemmas.List.{get_or-set_same, get_or-set_other, get_or_default}
use Rattle.map_lists.specs.Lists.{Lists}
use Rattle.map_theory.specs.Maps.{list_of}
use Rattle.contour_runs.specs.Runs.{Step, stage_after, IsCovered}
use Rattle.contour_runs.proofs.Stages.{IsStage-run, IsRun-less, count-stage_after, covered_alone}
use Rattle.wood_runs.specs.Parents.{Colour, one, two, three, IsParent}
use Rattle.order_drawings.specs.Rows.{AreRows}
use Rattle.schnyder_wood.specs.Parents.{by_colour}
use Rattle.schnyder_wood.specs.Tables.{AreCovered, AreParentTables}

-- before the first step
pub AreParentTables-begin :
    (steps : ℕ → Step) (n : ℕ) (firsts lasts covers : List ℕ) → 0 < n → ((u : ℕ) → (get_or firsts u 0 ≡ 0) × (get_or lasts u 0 ≡ 0) × (get_or covers u 0 ≡ 0)) → AreParentTables steps 0 n firsts lasts covers
AreParentTables-begin steps n firsts lasts covers some zeros = record { each = none; within = small }
  where
    none : (c : Colour) (v w : ℕ) → IsParent c steps 0 v w → get_or (by_colour firsts lasts covers c) v 0 ≡ w
    none one v w p = let l = p.earlier in absurd (omega arith)
    none two v w p = let l = p.earlier in absurd (omega arith)
    none three v w p = let l = p.earlier in absurd (omega arith)

    small : (c : Colour) (v : ℕ) → get_or (by_colour firsts lasts covers c) v 0 < n
    small one v = omega (arith, (zeros v).0)
    small two v = omega (arith, (zeros v).1)
    small three v = omega (arith, (zeros v).2)

module _ (steps : ℕ → Step) (rows : Lists) (k : ℕ) (h : AreRows steps rows) (l : k < length rows) where
  abbrev row : List ℕ
  row = list_of rows k

  -- a row has two ends
  pub two_ends : 2 ≤ length row
  two_ends = let c = (h.row k l).count in let o = (h.run k l).order in omega arith

  -- its vertices are older than the one that is put over it
  pub older : (i : ℕ) → i < length row → get_or row i 0 < k + 2
  older i m =
      let r = h.row k l in
      let c = r.count in
      let w = (h.run k l).within in
      let g = IsStage-run steps k (IsRun-less steps k (length rows) (omega arith) h.run) in
      let p = g.placed ((steps k).first + i) (omega arith) in
      omega (arith, r.each i m, p, count-stage_after steps k)

  pub row_within : (n : ℕ) → length rows + 2 ≡ n → All (λ u. u < n) row
  row_within n e i d m = let o = older i m in omega (arith, get_or_default row i d 0 m)

  module _ (n : ℕ) (size : length rows + 2 ≡ n) (firsts lasts covers firsts' lasts' covers' : List ℕ) (many : length firsts ≡ n) (many' : length lasts ≡ n) (before : AreParentTables steps k n firsts lasts covers) (first : firsts' ≡ set firsts (k + 2) (get_or row 0 0)) (last : lasts' ≡ set lasts (k + 2) (get_or row (length row - 1) 0)) (covered : AreCovered (k + 2) row (length row - 1) covers covers') where
    -- what is written of the new vertex
    first_here : get_or firsts' (k + 2) 0 ≡ get_or row 0 0
    first_here = ap (λ xs. get_or xs (k + 2) 0) first ∙ get_or-set_same firsts (k + 2) (get_or row 0 0) 0 (omega arith)

    last_here : get_or lasts' (k + 2) 0 ≡ get_or row (length row - 1) 0
    last_here = ap (λ xs. get_or xs (k + 2) 0) last ∙ get_or-set_same lasts (k + 2) (get_or row (length row - 1) 0) 0 (omega arith)

    first_elsewhere : (v : ℕ) → v ≢ k + 2 → get_or firsts' v 0 ≡ get_or firsts v 0
    first_elsewhere v ne = ap (λ xs. get_or xs v 0) first ∙ get_or-set_other firsts (k + 2) v (get_or row 0 0) 0 ne

    last_elsewhere : (v : ℕ) → v ≢ k + 2 → get_or lasts' v 0 ≡ get_or lasts v 0
    last_elsewhere v ne = ap (λ xs. get_or xs v 0) last ∙ get_or-set_other lasts (k + 2) v (get_or row (length row - 1) 0) 0 ne

    -- the vertex at a place of the row
    at_place : (i : ℕ) → i < length row → get_or row i 0 ≡ (stage_after steps k).vertex ((steps k).first + i)
    at_place i m = (h.row k l).each i m

    covered_here : (v : ℕ) → IsCovered steps k v → get_or covers' v 0 ≡ k + 2
    covered_here v c =
        let count = (h.row k l).count in
        let low = c.low in
        let high = c.high in
        let i : ℕ = c.place - (steps k).first in
        let e : (steps k).first + i ≡ c.place = omega arith in
        let same : get_or row i 0 ≡ v = at_place i (omega arith) ∙ ap (stage_after steps k).vertex e ∙ c.vertex in
        subst (λ v. get_or covers' v 0 ≡ k + 2) same (covered.covered i (omega arith) (omega arith))

    -- what was covered before is not covered again
    covered_before : (j v : ℕ) → j < k → IsCovered steps j v → get_or covers' v 0 ≡ get_or covers v 0
    covered_before j v m c =
        let count = (h.row k l).count in
        covered.others v (λ i low high e.
        let again : IsCovered steps k v = record { place = (steps k).first + i; low = omega arith; high = omega arith; vertex = sym (at_place i (omega arith)) ∙ e } in
        let same = covered_alone steps j k (length rows) v h.run (omega arith) l c again in
        absurd (omega arith))

    each : (c : Colour) (v w : ℕ) → IsParent c steps (suc k) v w → get_or (by_colour firsts' lasts' covers' c) v 0 ≡ w
    each one v w p =
        let e = p.earlier in
        let d = p.vertex in
        elim (cases_lt p.step k) [
          | inl old ↦ first_elsewhere v (λ s. absurd (omega arith)) ∙ before.each one v w record { step = p.step; earlier = old; vertex = d; parent = p.parent }
          | inr new ↦
              let s : p.step ≡ k = omega arith in
              let v_is : v ≡ k + 2 = omega arith in
              let two = two_ends in
              let z : (steps k).first + 0 ≡ (steps k).first = omega arith in
              ap (λ v. get_or firsts' v 0) v_is ∙ first_here ∙ at_place 0 (omega arith) ∙ ap (stage_after steps k).vertex z
              ∙ subst (λ j. (stage_after steps j).vertex (steps j).first ≡ w) s p.parent
        ]
    each two v w p =
        let e = p.earlier in
        let d = p.vertex in
        elim (cases_lt p.step k) [
          | inl old ↦ last_elsewhere v (λ s. absurd (omega arith)) ∙ before.each two v w record { step = p.step; earlier = old; vertex = d; parent = p.parent }
          | inr new ↦
              let s : p.step ≡ k = omega arith in
              let v_is : v ≡ k + 2 = omega arith in
              let ends = two_ends in
              let count = (h.row k l).count in
              let z : (steps k).first + (length row - 1) ≡ (steps k).last = omega arith in
              ap (λ v. get_or lasts' v 0) v_is ∙ last_here ∙ at_place (length row - 1) (omega arith) ∙ ap (stage_after steps k).vertex z
              ∙ subst (λ j. (stage_after steps j).vertex (steps j).last ≡ w) s p.parent
        ]
    each three v w p =
        let e = p.earlier in
        elim (cases_lt p.step k) [
          | inl old ↦ covered_before p.step v old p.covered ∙ before.each three v w record { step = p.step; earlier = old; covered = p.covered; parent = p.parent }
          | inr new ↦
              let s : p.step ≡ k = omega arith in
              covered_here v (subst (λ j. IsCovered steps j v) s p.covered) ∙ (let d = p.parent in omega arith)
        ]

    within : (c : Colour) (v : ℕ) → get_or (by_colour firsts' lasts' covers' c) v 0 < n
    within one v = elim (cases_eq v (k + 2)) [
      | inl e ↦ let two = two_ends in omega (arith, ap (λ v. get_or firsts' v 0) e, first_here, older 0 (omega arith))
      | inr ne ↦ omega (arith, first_elsewhere v ne, before.within one v)
    ]
    within two v = elim (cases_eq v (k + 2)) [
      | inl e ↦ let two = two_ends in omega (arith, ap (λ v. get_or lasts' v 0) e, last_here, older (length row - 1) (omega arith))
      | inr ne ↦ omega (arith, last_elsewhere v ne, before.within two v)
    ]
    within three v = elim (covered.either v) [
      | inl e ↦ omega arith
      | inr same ↦ omega (arith, before.within three v)
    ]

    -- one step more
    pub AreParentTables-more : AreParentTables steps (suc k) n firsts' lasts' covers'
    AreParentTables-more = record { each = each; within = within }

-- the list of a row has an entry for each end, and its entries are vertices
pub row_known : (rows : Lists) (k n : ℕ) (list : List ℕ) → ((steps : ℕ → Step) × AreRows steps rows) → list ≡ list_of rows k → k < length rows → length rows + 2 ≡ n → (2 ≤ length list) × All (λ u. u < n) list
row_known rows k n list run is l size = (subst (λ (us : List ℕ). 2 ≤ length us) (sym is) (two_ends run.0 rows k run.1 l), subst (λ (us : List ℕ). All (λ u. u < n) us) (sym is) (row_within run.0 rows k run.1 l n size))
