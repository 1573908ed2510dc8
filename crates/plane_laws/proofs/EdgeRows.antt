-- Rows of lists with an edge more, and lists without an entry.
use Rattle.std.proofs.Common.{◌≡◌, ◌≢◌, ℕ, suc, ◌+◌, ◌<◌, ◌≤◌, cond, eqb, List, [], ◌∷◌, ◌++◌, length, get_or, set, take, refl, sym, ap, ◌∙◌, inl, inr, arith}
use Rattle.std.specs.List.{insert}
use Rattle.std.proofs.lemmas.Bool.{cases_eq, eq-eqb, ne_eqb, cond-true, cond-false}
use Rattle.std.proofs.lemmas.List.{get_or-set_other, length-set, take_all}
use Rattle.std.proofs.lemmas.Grind.{get_or-set_at}
use Rattle.std.proofs.Math.Seq.{take-suc}
use Rattle.map_lists.specs.Lists.{Lists}
use Rattle.map_theory.specs.Maps.{list_of, place_of}
use Rattle.plane_laws.specs.WithEdge.{with_edge_after, row_with_edge}

-- ---- lists with an edge more, row by row
row_is : (lists : Lists) (u a v c w : ℕ) → w < length lists → list_of (with_edge_after lists u a v c) w ≡ row_with_edge u a v c w (list_of lists w)
row_is lists u a v c w l =
    let us = list_of lists w in
    let one = set lists u (insert (list_of lists u) (place_of a (list_of lists u) + 1) v) in
    let n : length one ≡ length lists = length-set lists u (insert (list_of lists u) (place_of a (list_of lists u) + 1) v) in
    elim (cases_eq w v) [
      | inl e ↦
          get_or-set_at one v w (insert (list_of lists v) (place_of c (list_of lists v) + 1) u) [] e (omega arith)
          ∙ (ap (λ z. insert (list_of lists z) (place_of c (list_of lists z) + 1) u) (sym e)
          ∙ sym (cond-true (eqb w v) (insert us (place_of c us + 1) u) (cond (eqb w u) (insert us (place_of a us + 1) v) us) (eq-eqb w v e)))
      | inr ne ↦
          get_or-set_other one v w (insert (list_of lists v) (place_of c (list_of lists v) + 1) u) [] ne
          ∙ (first ∙ sym (cond-false (eqb w v) (insert us (place_of c us + 1) u) (cond (eqb w u) (insert us (place_of a us + 1) v) us) (ne_eqb w v ne)))
    ]
  where
    first : get_or (set lists u (insert (list_of lists u) (place_of a (list_of lists u) + 1) v)) w [] ≡ cond (eqb w u) (insert (list_of lists w) (place_of a (list_of lists w) + 1) v) (list_of lists w)
    first =
        elim (cases_eq w u) [
          | inl e ↦
              get_or-set_at lists u w (insert (list_of lists u) (place_of a (list_of lists u) + 1) v) [] e (omega arith)
              ∙ (ap (λ z. insert (list_of lists z) (place_of a (list_of lists z) + 1) v) (sym e)
              ∙ sym (cond-true (eqb w u) (insert (list_of lists w) (place_of a (list_of lists w) + 1) v) (list_of lists w) (eq-eqb w u e)))
          | inr ne ↦
              get_or-set_other lists u w (insert (list_of lists u) (place_of a (list_of lists u) + 1) v) [] ne
              ∙ sym (cond-false (eqb w u) (insert (list_of lists w) (place_of a (list_of lists w) + 1) v) (list_of lists w) (ne_eqb w u ne))
        ]

pub length-with_edge : (lists : Lists) (u a v c : ℕ) → length (with_edge_after lists u a v c) ≡ length lists
length-with_edge lists u a v c =
    let us = list_of lists u in
    let vs = list_of lists v in
    let one = set lists u (insert us (place_of a us + 1) v) in
    length-set one v (insert vs (place_of c vs + 1) u) ∙ length-set lists u (insert us (place_of a us + 1) v)

pub one_row : (lists : Lists) (u a v c w : ℕ) (us : List ℕ) → w < length lists → us ≡ list_of lists w → take w (with_edge_after lists u a v c) ++ row_with_edge u a v c w us ∷ [] ≡ take (w + 1) (with_edge_after lists u a v c)
one_row lists u a v c w us l is =
    let n = length-with_edge lists u a v c in
    let s : suc w ≡ w + 1 = omega arith in
    ap (λ r. take w (with_edge_after lists u a v c) ++ r ∷ []) (ap (row_with_edge u a v c w) is ∙ sym (row_is lists u a v c w l))
    ∙ (sym (take-suc (with_edge_after lists u a v c) w [] (omega arith)) ∙ ap (λ k. take k (with_edge_after lists u a v c)) s)

pub all_rows : (lists : Lists) (u a v c k : ℕ) → length lists ≤ k → take k (with_edge_after lists u a v c) ≡ with_edge_after lists u a v c
all_rows lists u a v c k l = let n = length-with_edge lists u a v c in take_all k (with_edge_after lists u a v c) (omega arith)

-- ---- past the end of a list without the entry
pub place_of-none : (a : ℕ) (us : List ℕ) → ((j : ℕ) → j < length us → get_or us j 0 ≢ a) → place_of a us ≡ length us
place_of-none a [] none = refl
place_of-none a (u ∷ us) none =
    cond-false (eqb u a) 0 (place_of a us + 1) (ne_eqb u a (none 0 (omega arith)))
    ∙ (let e = place_of-none a us (λ j l. none (suc j) (omega arith)) in omega arith)

insert-past : (us : List ℕ) (x : ℕ) → insert us (length us) x ≡ insert us (suc (length us)) x
insert-past [] x = refl
insert-past (u ∷ us) x = ap (λ (ws : List ℕ). u ∷ ws) (insert-past us x)

pub insert-none : (a : ℕ) (us : List ℕ) (x : ℕ) → ((j : ℕ) → j < length us → get_or us j 0 ≢ a) → insert us (length us) x ≡ insert us (place_of a us + 1) x
insert-none a us x none =
    let p = place_of-none a us none in
    let e : suc (length us) ≡ place_of a us + 1 = omega arith in
    insert-past us x ∙ ap (λ k. insert us k x) e
