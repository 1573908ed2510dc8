-- Steps of a frame that are edges but at one vertex: where at most one is not, a second vertex mends it.
use Rattle.std.proofs.Common.{◌≡◌, ◌≢◌, ◌⊎◌, ℕ, suc, ◌<◌, ◌≤◌, true, false, sym, ap, ◌∙◌, inl, inr}
use Rattle.std.proofs.lemmas.Bool.{cases_Bool, cases_eq, true≢false}
use Rattle.graphs.specs.Graphs.{EdgeGraph, has_edge}
use Rattle.graphs.proofs.EdgeLemmas.{has_edge-turned}
use Rattle.kuratowski.specs.Witnesses.{branch_count}
use Rattle.kuratowski.specs.declared.witness.Kind.{Kind}
use Rattle.embed_contraction.specs.Traces.{path_count, HasWitness}
use Rattle.embed_contraction.proofs.Parts.{all_or_one}
use Rattle.embed_contraction.proofs.Frames.{IsFrame, HasSteps, witness-frame}
use Rattle.embed_contraction.proofs.Inserted.{size', way', inserted, steps-inserted}

-- an edge, or one in which z stands for o
abbrev pub StepsAt : EdgeGraph → ℕ → ℕ → ℕ → ℕ → Type 0
StepsAt graph z o a b =
    (has_edge graph a b ≡ true) ⊎ (((a ≡ z) × (has_edge graph o b ≡ true)) ⊎ ((b ≡ z) × (has_edge graph a o ≡ true)))

-- step i of path p is no edge
pub record IsBadStep (graph : EdgeGraph) (kind : Kind) (size : ℕ → ℕ) (way : ℕ → ℕ → ℕ) (p i : ℕ) : Type 0 where
  pub path : p < path_count kind
  pub step : i < size p
  pub bad : has_edge graph (way p i) (way p (suc i)) ≡ false

-- two such steps
pub record AreTwoBad (graph : EdgeGraph) (kind : Kind) (size : ℕ → ℕ) (way : ℕ → ℕ → ℕ) : Type 0 where
  pub p : ℕ
  pub i : ℕ
  pub q : ℕ
  pub k : ℕ
  pub one : IsBadStep graph kind size way p i
  pub other : IsBadStep graph kind size way q k
  pub two : (p ≡ q) × (i ≡ k) → ⊥

-- the pairs of places are one or not
cases_place : (p q i k : ℕ) → ((p ≡ q) × (i ≡ k)) ⊎ ((p ≡ q) × (i ≡ k) → ⊥)
cases_place p q i k =
    elim (cases_eq p q) [
      | inr n ↦ inr (λ h. n h.0)
      | inl e ↦ elim (cases_eq i k) [ inl e' ↦ inl (e, e') | inr n ↦ inr (λ h. n h.1) ]
    ]

module _ (graph : EdgeGraph) (kind : Kind) (branch size : ℕ → ℕ) (way : ℕ → ℕ → ℕ) (frame : IsFrame graph.n kind branch size way) (z o : ℕ) (hub : has_edge graph z o ≡ true) (off : (p i : ℕ) → p < path_count kind → i ≤ size p → way p i ≢ o) (no_branch : (j : ℕ) → j < branch_count kind → branch j ≢ o) (steps : HasSteps kind size way (StepsAt graph z o)) where
  abbrev Good : ℕ → ℕ → Type 0
  Good a b = has_edge graph a b ≡ true

  first_bad : ((p : ℕ) → p < path_count kind → (i : ℕ) → i < size p → Good (way p i) (way p (suc i))) ⊎ ((p : ℕ) × (p < path_count kind) × ((i : ℕ) × (i < size p) × (has_edge graph (way p i) (way p (suc i)) ≡ false)))
  first_bad =
      all_or_one (λ p. (i : ℕ) → i < size p → Good (way p i) (way p (suc i))) (λ p. (i : ℕ) × (i < size p) × (has_edge graph (way p i) (way p (suc i)) ≡ false)) (path_count kind) (λ p l.
      all_or_one (λ i. Good (way p i) (way p (suc i))) (λ i. has_edge graph (way p i) (way p (suc i)) ≡ false) (size p) (λ i m. cases_Bool (has_edge graph (way p i) (way p (suc i)))))

  module _ (q k : ℕ) (in_q : q < path_count kind) (in_k : k < size q) (bad : has_edge graph (way q k) (way q (suc k)) ≡ false) where
    abbrev Other : ℕ → ℕ → Type 0
    Other p i = ((p ≡ q) × (i ≡ k) → ⊥) → Good (way p i) (way p (suc i))

    other_bad : ((p : ℕ) → p < path_count kind → (i : ℕ) → i < size p → Other p i) ⊎ ((p : ℕ) × (p < path_count kind) × ((i : ℕ) × (i < size p) × (((p ≡ q) × (i ≡ k) → ⊥) × (has_edge graph (way p i) (way p (suc i)) ≡ false))))
    other_bad =
        all_or_one (λ p. (i : ℕ) → i < size p → Other p i) (λ p. (i : ℕ) × (i < size p) × (((p ≡ q) × (i ≡ k) → ⊥) × (has_edge graph (way p i) (way p (suc i)) ≡ false))) (path_count kind) (λ p l.
        all_or_one (Other p) (λ i. ((p ≡ q) × (i ≡ k) → ⊥) × (has_edge graph (way p i) (way p (suc i)) ≡ false)) (size p) (λ i m.
        elim (cases_place p q i k) [
          | inl same ↦ inl (λ n. absurd (n same))
          | inr n ↦ elim (cases_Bool (has_edge graph (way p i) (way p (suc i)))) [ inl t ↦ inl (λ _. t) | inr f ↦ inr (n, f) ]
        ]))

    -- the second vertex mends the one step
    mended : Good (way q k) o × Good o (way q (suc k))
    mended =
        elim (steps q k in_q in_k) [
          | inl t ↦ absurd (true≢false (sym t ∙ bad))
          | inr r ↦ elim r [
            | inl h ↦ (ap (λ a. has_edge graph a o) h.0 ∙ hub, h.1)
            | inr h ↦ (h.1, ap (has_edge graph o) h.0 ∙ (has_edge-turned graph o z ∙ hub))
          ]
        ]

  -- One step is bad, and the second vertex mends it.
  pub record IsOneBad (q k : ℕ) : Type 0 where
    pub path : q < path_count kind
    pub step : k < size q
    pub rest : (p i : ℕ) → p < path_count kind → i < size p → ((p ≡ q) × (i ≡ k) → ⊥) → Good (way p i) (way p (suc i))
    pub to : Good (way q k) o
    pub from : Good o (way q (suc k))

  pub one_or_two : HasSteps kind size way Good ⊎ (((q : ℕ) × (k : ℕ) × IsOneBad q k) ⊎ AreTwoBad graph kind size way)
  one_or_two =
      elim first_bad [
        | inl all ↦ inl (λ p i l m. all p l i m)
        | inr r ↦
            let q = r.0 in
            let k = r.2.0 in
            elim (other_bad q k r.1 r.2.1 r.2.2) [
              | inl all ↦
                  let both = mended q k r.1 r.2.1 r.2.2 in
                  inr (inl (q, k, record { path = r.1; step = r.2.1; rest = λ p i l m n. all p l i m n; to = both.0; from = both.1 }))
              | inr r' ↦ inr (inr (record {
                p = r'.0;
                i = r'.2.0;
                q = q;
                k = k;
                one = record { path = r'.1; step = r'.2.1; bad = r'.2.2.1 };
                other = record { path = r.1; step = r.2.1; bad = r.2.2 };
                two = r'.2.2.0;
              }))
            ]
      ]

  pub mended_or_two : HasWitness graph ⊎ AreTwoBad graph kind size way
  mended_or_two =
      elim one_or_two [
        | inl all ↦ inl (witness-frame graph kind branch size way frame all)
        | inr r ↦ elim r [
          | inr t ↦ inr t
          | inl one ↦
              let q = one.0 in
              let k = one.1 in
              let b = one.2 in
              inl (witness-frame graph kind branch (size' graph.n kind branch size way frame o q k b.path b.step off no_branch) (way' graph.n kind branch size way frame o q k b.path b.step off no_branch)
              (inserted graph.n kind branch size way frame o q k b.path b.step off no_branch)
              (steps-inserted graph.n kind branch size way frame o q k b.path b.step off no_branch Good b.rest b.to b.from))
        ]
      ]
