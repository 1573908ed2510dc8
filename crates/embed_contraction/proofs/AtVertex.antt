-- The steps of a frame at one vertex: two where it is no branch, and one on each path of a branch.
use Rattle.std.proofs.Common.{◌≡◌, ◌≢◌, ◌⊎◌, ◌||◌, ℕ, suc, ◌<◌, ◌≤◌, Bool, true, cond, eqb, refl, sym, ap, ◌∙◌, subst, inl, inr, arith, not}
use Rattle.graphs.proofs.BitLemmas.{below_six}
use Rattle.std.proofs.lemmas.Bool.{cases_eq, eq-eqb, ne_eqb, cond-true, cond-false, or_left, or_right, and_from}
use Rattle.classes.specs.Classes.{count_below}
use Rattle.kuratowski.specs.Witnesses.{branch_count, pair_at}
use Rattle.kuratowski.specs.declared.witness.Kind.{Kind}
use Rattle.kuratowski.specs.declared.witness.Kind.TheVariants.{K5, K33}
use Rattle.embed_contraction.specs.Traces.{path_count}
use Rattle.embed_contraction.proofs.Numbers.{each_of_nine, each_of_ten}
use Rattle.embed_contraction.proofs.Traces.{pairs_within}
use Rattle.embed_contraction.proofs.Parts.{minus, count_below-minus}
use Rattle.embed_contraction.proofs.Frames.{IsFrame}

-- the two branches of a path are two
pub pairs_apart : (kind : Kind) (p : ℕ) → p < path_count kind → (pair_at kind p).0 ≢ (pair_at kind p).1
pairs_apart x0 = grind (arith, K5, each_of_ten, pair_at, K33, each_of_nine)

module _ (n : ℕ) (kind : Kind) (branch size : ℕ → ℕ) (way : ℕ → ℕ → ℕ) (frame : IsFrame n kind branch size way) where
  -- the two ends of a step are two
  pub step_apart : (p i : ℕ) → p < path_count kind → i < size p → way p i ≢ way p (suc i)
  step_apart p x1 l m e = grind (arith, cases_eq, pairs_within, pairs_apart, pair_at)

  module _ (x : ℕ) where
    -- step i of path p is at x
    pub record IsAt (p i : ℕ) : Type 0 where
      pub path : p < path_count kind
      pub step : i < size p
      pub near : (way p i ≡ x) ⊎ (way p (suc i) ≡ x)

    -- its other end
    pub far : ℕ → ℕ → ℕ
    far p i = cond (eqb (way p i) x) (way p (suc i)) (way p i)

    pub far_second : (p i : ℕ) → way p i ≡ x → far p i ≡ way p (suc i)
    unfolding far
    far_second p i e = cond-true (eqb (way p i) x) (way p (suc i)) (way p i) (eq-eqb (way p i) x e)

    pub far_first : (p i : ℕ) → way p i ≢ x → far p i ≡ way p i
    unfolding far
    far_first p i e = cond-false (eqb (way p i) x) (way p (suc i)) (way p i) (ne_eqb (way p i) x e)

    -- ---- where x is no branch
    module _ (none : (j : ℕ) → j < branch_count kind → branch j ≢ x) where
      inner_place : (p i : ℕ) → IsAt p i → (k : ℕ) × (0 < k) × (k < size p) × (way p k ≡ x) × ((k ≡ i) ⊎ (k ≡ suc i))
      inner_place p i at =
          let b = pairs_within kind p at.path in
          let m = at.step in
          elim at.near [
            | inl e ↦
                let pos : i ≢ 0 = λ q. none (pair_at kind p).0 b.0 (sym (frame.start p at.path) ∙ (ap (way p) (sym q) ∙ e)) in
                (i, omega arith, m, e, inl refl)
            | inr e ↦
                let inside : suc i ≢ size p = λ q. none (pair_at kind p).1 b.1 (sym (frame.end p at.path) ∙ (ap (way p) (sym q) ∙ e)) in
                (suc i, omega arith, omega arith, e, inr refl)
          ]

      same_place : (p i q k : ℕ) (a : IsAt p i) (b : IsAt q k) → (p ≡ q) × ((inner_place p i a).0 ≡ (inner_place q k b).0)
      same_place p i q k a b =
          let r = inner_place p i a in
          let s = inner_place q k b in
          let pq = frame.apart p q r.0 s.0 a.path b.path r.1 r.2 s.1 s.2 (r.3 ∙ sym s.3) in
          let ls = s.2 in
          (pq, frame.once p r.0 s.0 a.path r.1 r.2 (subst (λ t. s.0 ≤ size t) (sym pq) (omega arith)) (r.3 ∙ (sym s.3 ∙ ap (λ t. way t s.0) (sym pq))))

      -- of three steps two are one
      pub three_steps : (p i q k r l : ℕ) → IsAt p i → IsAt q k → IsAt r l → ((p ≡ q) × (i ≡ k) → ⊥) → ((p ≡ r) × (i ≡ l) → ⊥) → ((q ≡ r) × (k ≡ l) → ⊥) → ⊥
      three_steps p i q k r l a b c ab ac bc =
          let s = same_place p i q k a b in
          let t = same_place p i r l a c in
          let e = s.1 in
          let e' = t.1 in
          let n1 : i ≢ k = λ h. ab (s.0, h) in
          let n2 : i ≢ l = λ h. ac (t.0, h) in
          let n3 : k ≢ l = λ h. bc (sym s.0 ∙ t.0, h) in
          elim (inner_place p i a).4 [
            | inl f ↦ elim (inner_place q k b).4 [
              | inl g ↦ absurd (omega arith)
              | inr g ↦ elim (inner_place r l c).4 [ inl h ↦ absurd (omega arith) | inr h ↦ absurd (omega arith) ]
            ]
            | inr f ↦ elim (inner_place q k b).4 [
              | inr g ↦ absurd (omega arith)
              | inl g ↦ elim (inner_place r l c).4 [ inl h ↦ absurd (omega arith) | inr h ↦ absurd (omega arith) ]
            ]
          ]

    -- ---- where x is a branch
    module _ (b : ℕ) (in_b : b < branch_count kind) (is_b : branch b ≡ x) where
      -- a step at it is the first of a path or the last
      pub end_step : (p i : ℕ) → IsAt p i → ((i ≡ 0) × ((pair_at kind p).0 ≡ b) × (way p i ≡ x)) ⊎ ((suc i ≡ size p) × ((pair_at kind p).1 ≡ b) × (way p (suc i) ≡ x))
      end_step p i at =
          let w = pairs_within kind p at.path in
          let m = at.step in
          elim at.near [
            | inl e ↦ elim (cases_eq i 0) [
              | inr ne ↦ absurd (frame.no_branch p i b at.path (omega arith) m in_b (e ∙ sym is_b))
              | inl z ↦ inl (z, frame.distinct (pair_at kind p).0 b w.0 in_b (sym (frame.start p at.path) ∙ (ap (way p) (sym z) ∙ (e ∙ sym is_b))), e)
            ]
            | inr e ↦ elim (cases_eq (suc i) (size p)) [
              | inr ne ↦ absurd (frame.no_branch p (suc i) b at.path (omega arith) (omega arith) in_b (e ∙ sym is_b))
              | inl z ↦ inr (z, frame.distinct (pair_at kind p).1 b w.1 in_b (sym (frame.end p at.path) ∙ (ap (way p) (sym z) ∙ (e ∙ sym is_b))), e)
            ]
          ]

      -- so a path has one
      pub one_step : (p i q k : ℕ) → IsAt p i → IsAt q k → p ≡ q → i ≡ k
      one_step p i q k a c e =
          elim (end_step p i a) [
            | inl h ↦ elim (end_step q k c) [
              | inl g ↦ h.0 ∙ sym g.0
              | inr g ↦ absurd (pairs_apart kind q c.path (ap (λ r. (pair_at kind r).0) (sym e) ∙ (h.1 ∙ sym g.1)))
            ]
            | inr h ↦ elim (end_step q k c) [
              | inl g ↦ absurd (pairs_apart kind p a.path (ap (λ r. (pair_at kind r).0) e ∙ (g.1 ∙ sym h.1)))
              | inr g ↦ let x1 = h.0 in let x2 = g.0 in let s = ap size e in omega arith
            ]
          ]

      incident : ℕ → Bool
      incident p = eqb (pair_at kind p).0 b || eqb (pair_at kind p).1 b

      is_incident : (p i : ℕ) → IsAt p i → incident p ≡ true
      unfolding incident
      is_incident p i a =
          elim (end_step p i a) [
            | inl h ↦ or_left (eqb (pair_at kind p).0 b) (eqb (pair_at kind p).1 b) (eq-eqb (pair_at kind p).0 b h.1)
            | inr h ↦ or_right (eqb (pair_at kind p).0 b) (eqb (pair_at kind p).1 b) (eq-eqb (pair_at kind p).1 b h.1)
          ]

      -- four different paths at it
      four_paths : (p q r s : ℕ) → p < path_count kind → q < path_count kind → r < path_count kind → s < path_count kind → incident p ≡ true → incident q ≡ true → incident r ≡ true → incident s ≡ true → p ≢ q → p ≢ r → p ≢ s → q ≢ r → q ≢ s → r ≢ s → 4 ≤ count_below incident (path_count kind)
      four_paths p q r s lp lq lr ls tp tq tr ts pq pr ps qr qs rs =
          let keep : (f : ℕ → Bool) (a i : ℕ) → f i ≡ true → a ≢ i → minus f a i ≡ true = λ f a i t ne. and_from (f i) (not (eqb i a)) t (ap not (ne_eqb i a (λ e. ne (sym e)))) in
          let f1 = minus incident p in
          let f2 = minus f1 q in
          let f3 = minus f2 r in
          let c1 = count_below-minus incident (path_count kind) p lp tp in
          let c2 = count_below-minus f1 (path_count kind) q lq (keep incident p q tq pq) in
          let c3 = count_below-minus f2 (path_count kind) r lr (keep f1 q r (keep incident p r tr pr) qr) in
          let c4 = count_below-minus f3 (path_count kind) s ls (keep f2 r s (keep f1 q s (keep incident p s ts ps) qs) rs) in
          omega arith

      pub four_steps : (p i q j r k s l : ℕ) → IsAt p i → IsAt q j → IsAt r k → IsAt s l → ((p ≡ q) × (i ≡ j) → ⊥) → ((p ≡ r) × (i ≡ k) → ⊥) → ((p ≡ s) × (i ≡ l) → ⊥) → ((q ≡ r) × (j ≡ k) → ⊥) → ((q ≡ s) × (j ≡ l) → ⊥) → ((r ≡ s) × (k ≡ l) → ⊥) → 4 ≤ count_below (λ p. eqb (pair_at kind p).0 b || eqb (pair_at kind p).1 b) (path_count kind)
      unfolding incident
      four_steps p i q j r k s l a c d e pq pr ps qr qs rs =
          four_paths p q r s a.path c.path d.path e.path (is_incident p i a) (is_incident q j c) (is_incident r k d) (is_incident s l e)
          (λ h. pq (h, one_step p i q j a c h)) (λ h. pr (h, one_step p i r k a d h)) (λ h. ps (h, one_step p i s l a e h)) (λ h. qr (h, one_step q j r k c d h)) (λ h. qs (h, one_step q j s l c e h)) (λ h. rs (h, one_step r k s l d e h))

-- a branch of K3,3 has three paths
pub three_paths : (b : ℕ) → b < 6 → count_below (λ p. eqb (pair_at K33 p).0 b || eqb (pair_at K33 p).1 b) 9 ≡ 3
three_paths = below_six (λ b. count_below (λ p. eqb (pair_at K33 p).0 b || eqb (pair_at K33 p).1 b) 9 ≡ 3) refl refl refl refl refl refl
