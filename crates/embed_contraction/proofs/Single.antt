-- No two steps of a frame have the same two ends.
use Rattle.std.proofs.Common.{◌≡◌, ◌≢◌, ℕ, suc, ◌+◌, ◌-◌, ◌*◌, ◌<◌, ◌≤◌, sym, ap, ap₂, ◌∙◌, subst, inl, inr, arith}
use Rattle.std.proofs.lemmas.Bool.{cases_eq}
use Rattle.kuratowski.specs.Witnesses.{pair_at}
use Rattle.kuratowski.specs.declared.witness.Kind.{Kind}
use Rattle.kuratowski.specs.declared.witness.Kind.TheVariants.{K5, K33}
use Rattle.embed_contraction.specs.Traces.{path_count}
use Rattle.embed_contraction.proofs.Numbers.{each_of_nine}
use Rattle.embed_contraction.proofs.Traces.{pairs_within}
use Rattle.embed_contraction.proofs.Frames.{IsFrame}
use Rattle.embed_contraction.proofs.Links.{number, number-pair}

-- the number of a path by its two branches
pub number_of : Kind → ℕ → ℕ → ℕ
number_of K5 a b = number a b
number_of K33 a b = 3 * a + (b - 3)

pair_known : (kind : Kind) (p : ℕ) → p < path_count kind → (number_of kind (pair_at kind p).0 (pair_at kind p).1 ≡ p) × ((pair_at kind p).0 < (pair_at kind p).1)
unfolding number_of
pair_known K5 = number-pair
pair_known K33 =
    each_of_nine (λ p. (3 * (pair_at K33 p).0 + ((pair_at K33 p).1 - 3) ≡ p) × ((pair_at K33 p).0 < (pair_at K33 p).1)) (omega arith, omega arith) (omega arith, omega arith) (omega arith, omega arith) (omega arith, omega arith) (omega arith, omega arith) (omega arith, omega arith) (omega arith, omega arith) (omega arith, omega arith) (omega arith, omega arith)

module _ (n : ℕ) (kind : Kind) (branch size : ℕ → ℕ) (way : ℕ → ℕ → ℕ) (frame : IsFrame n kind branch size way) where
  -- the vertex at an inner place stands nowhere else
  same_inner : (p i q j : ℕ) → p < path_count kind → q < path_count kind → 0 < i → i < size p → j ≤ size q → way p i ≡ way q j → (p ≡ q) × (i ≡ j)
  same_inner p i q j lp lq pos l m e = grind (arith, pairs_within, cases_eq, pair_at)

  -- the two ends of a path are two
  ends_apart : (p : ℕ) → p < path_count kind → way p 0 ≢ way p (size p)
  ends_apart p l e = grind (arith, pairs_within, pair_at, pair_known)

  -- so are two places of a path with one between
  around_apart : (p i : ℕ) → p < path_count kind → suc (suc i) ≤ size p → way p i ≢ way p (suc (suc i))
  around_apart p i l m e = grind (arith, cases_eq, same_inner, ends_apart)

  one_path : (p q : ℕ) → p < path_count kind → q < path_count kind → (pair_at kind p).0 ≡ (pair_at kind q).0 → (pair_at kind p).1 ≡ (pair_at kind q).1 → p ≡ q
  one_path p q lp lq e e' = sym (pair_known kind p lp).0 ∙ (ap₂ (number_of kind) e e' ∙ (pair_known kind q lq).0)

  -- two steps the same way round
  pub same_step : (p i q k : ℕ) → p < path_count kind → q < path_count kind → i < size p → k < size q → way p i ≡ way q k → way p (suc i) ≡ way q (suc k) → (p ≡ q) × (i ≡ k)
  same_step p i q k lp lq li lk e e' =
      elim (cases_eq i 0) [
        | inr pos ↦ same_inner p i q k lp lq (omega arith) li (omega arith) e
        | inl z ↦ elim (cases_eq k 0) [
          | inr pos ↦ let s = same_inner q k p i lq lp (omega arith) lk (omega arith) (sym e) in (sym s.0, sym s.1)
          | inl z' ↦ elim (cases_eq (suc i) (size p)) [
            | inr inside ↦ let s = same_inner p (suc i) q (suc k) lp lq (omega arith) (omega arith) lk e' in (s.0, z ∙ sym z')
            | inl last ↦ grind (arith, cases_eq, same_inner, pairs_within, pair_at, one_path)
          ]
        ]
      ]

  -- and there are no two the other way round
  pub no_turned_step : (p i q k : ℕ) → p < path_count kind → q < path_count kind → i < size p → k < size q → way p i ≡ way q (suc k) → way p (suc i) ≡ way q k → ⊥
  no_turned_step p i q k lp lq li lk e e' =
      elim (cases_eq i 0) [
        | inr pos ↦
            let s = same_inner p i q (suc k) lp lq (omega arith) li lk e in
            around_apart p k lp (let t = s.1 in omega arith) (sym (ap (way p) (ap suc (sym s.1)) ∙ (e' ∙ ap (λ r. way r k) (sym s.0))))
        | inl z ↦ elim (cases_eq k 0) [
          | inr pos ↦
              let s = same_inner q k p (suc i) lq lp (omega arith) lk li (sym e') in
              around_apart q i lq (let t = s.1 in omega arith) (ap (λ r. way r i) s.0 ∙ (e ∙ ap (λ t. way q (suc t)) s.1))
          | inl z' ↦ elim (cases_eq (suc i) (size p)) [
            | inr inside ↦ let s = (same_inner p (suc i) q k lp lq (omega arith) (omega arith) (omega arith) e').1 in omega arith
            | inl last ↦ grind (arith, cases_eq, same_inner, pairs_within, pair_at, pair_known)
          ]
        ]
      ]
