-- What is noted of the vertices that a new vertex covers.
use Rattle.std.proofs.Common.{◌≡◌, ◌<◌, ℕ, suc, List, length, get_or, set, sym, ap, ◌∙◌, inl, inr, arith}
use Rattle.std.proofs.lemmas.Bool.{cases_lt, cases_eq}
use Rattle.std.proofs.lemmas.List.{get_or-set_same, get_or-set_other}
use Rattle.schnyder_wood.specs.Tables.{AreCovered}

-- the vertex at one place more is covered
pub AreCovered-more : (v : ℕ) (row : List ℕ) (j : ℕ) (old now : List ℕ) → AreCovered v row j old now → get_or row j 0 < length now → 0 < j → AreCovered v row (suc j) old (set now (get_or row j 0) v)
AreCovered-more v row j old now h m some =
    let u : ℕ = get_or row j 0 in
    record {
      covered = λ i low k. elim (cases_eq u (get_or row i 0)) [
        | inl e ↦ ap (λ w. get_or (set now u v) w 0) (sym e) ∙ get_or-set_same now u v 0 m
        | inr ne ↦ elim (cases_lt i j) [
          | inl less ↦ get_or-set_other now u (get_or row i 0) v 0 (λ e. ne (sym e)) ∙ h.covered i low less
          | inr top ↦ absurd (ne (ap (λ i. get_or row i 0) (let e : j ≡ i = omega arith in e)))
        ]
      ];
      others = λ w n. get_or-set_other now u w v 0 (λ e. n j some (omega arith) (sym e)) ∙ h.others w (λ i low k. n i low (omega arith));
      either = λ w. elim (cases_eq u w) [
        | inl e ↦ inl (ap (λ w. get_or (set now u v) w 0) (sym e) ∙ get_or-set_same now u v 0 m)
        | inr ne ↦ elim (h.either w) [
          | inl e ↦ inl (get_or-set_other now u w v 0 (λ e. ne (sym e)) ∙ e)
          | inr e ↦ inr (get_or-set_other now u w v 0 (λ e. ne (sym e)) ∙ e)
        ]
      ];
    }
