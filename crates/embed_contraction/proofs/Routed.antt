-- A path put into the one step that is no edge, vertex after vertex.
use Rattle.std.proofs.Common.{◌≡◌, ◌≢◌, ◌⊎◌, ℕ, suc, ◌-◌, ◌<◌, ◌≤◌, true, false, List, [], ◌∷◌, length, AllPairs, Contains, refl, sym, ap, ap₂, ◌∙◌, subst, inl, inr, arith}
use Rattle.std.proofs.lemmas.Bool.{cases_Bool, cases_eq, true≢false}
use Rattle.map_theory.proofs.EntryLemmas.{Contains-here, Contains-there, AllPairs-tail, head_apart}
use Rattle.graphs.specs.Graphs.{EdgeGraph, has_edge}
use Rattle.graphs.proofs.EdgeLemmas.{has_edge-turned}
use Rattle.kuratowski.specs.Witnesses.{branch_count, vertex_at, path_at}
use Rattle.kuratowski.specs.declared.witness.Kind.{Kind}
use Rattle.embed_contraction.specs.Traces.{path_count, HasWitness}
use Rattle.embed_contraction.proofs.Parts.{all_or_one}
use Rattle.embed_contraction.specs.Routed.{LeadsAlong, RoutedWitness}
use Rattle.embed_contraction.proofs.Frames.{IsFrame, HasSteps, frame-map, frame-witness, witness-frame}
use Rattle.embed_contraction.proofs.Inserted.{size', way', inserted, steps-inserted, way_off}
use Rattle.embed_contraction.proofs.Single.{same_step, no_turned_step}
use Rattle.embed_contraction.proofs.Lifted.{on_path}

-- an edge, or the step between two vertices
abbrev StepOr : EdgeGraph → ℕ → ℕ → ℕ → ℕ → Type 0
StepOr graph u v a b = (has_edge graph a b ≡ true) ⊎ (((a ≡ u) × (b ≡ v)) ⊎ ((a ≡ v) × (b ≡ u)))

put_path : (graph : EdgeGraph) (kind : Kind) (mid : List ℕ) (u v : ℕ) (branch size : ℕ → ℕ) (way : ℕ → ℕ → ℕ) → IsFrame graph.n kind branch size way → HasSteps kind size way (StepOr graph u v) → LeadsAlong graph u mid v → AllPairs ◌≢◌ mid → ((w : ℕ) → Contains mid w → (p i : ℕ) → p < path_count kind → i ≤ size p → way p i ≢ w) → HasWitness graph
put_path graph kind [] u v branch size way frame steps leads distinct off = grind (arith, witness-frame, ap₂, has_edge, has_edge-turned)
put_path graph kind (w ∷ mid) u v branch size way frame steps leads distinct off =
    elim first_bad [
      | inl all ↦ witness-frame graph kind branch size way frame (λ p i l m. all p l i m)
      | inr r ↦
          let q = r.0 in
          let k = r.2.0 in
          let lq = r.1 in
          let lk = r.2.1 in
          let off_w = off w (Contains-here w mid) in
          let rest : (p i : ℕ) → p < path_count kind → i < size p → ((p ≡ q) × (i ≡ k) → ⊥) → StepOr graph w v (way p i) (way p (suc i)) = λ p i l m n. inl (others q k lq lk r.2.2 p i l m n) in
          let both : StepOr graph w v (way q k) w × StepOr graph w v w (way q (suc k)) = grind (arith, StepOr, true≢false, has_edge, has_edge-turned) in
          let no_branch : (j : ℕ) → j < branch_count kind → branch j ≢ w = λ j l e.
          grind (arith, on_path kind j l) in
          put_path graph kind mid w v branch (size' graph.n kind branch size way frame w q k lq lk off_w no_branch) (way' graph.n kind branch size way frame w q k lq lk off_w no_branch)
          (inserted graph.n kind branch size way frame w q k lq lk off_w no_branch)
          (steps-inserted graph.n kind branch size way frame w q k lq lk off_w no_branch (StepOr graph w v) rest both.0 both.1)
          leads.1 (AllPairs-tail w mid distinct)
          (λ z c p i l m. way_off graph.n kind branch size way frame w q k lq lk off_w no_branch z (λ e. head_apart w mid distinct (subst (Contains mid) e c)) (off z (Contains-there w mid z c)) p i l m)
    ]
  where
    first_bad : ((p : ℕ) → p < path_count kind → (i : ℕ) → i < size p → has_edge graph (way p i) (way p (suc i)) ≡ true) ⊎ ((p : ℕ) × (p < path_count kind) × ((i : ℕ) × (i < size p) × (has_edge graph (way p i) (way p (suc i)) ≡ false)))
    first_bad =
        all_or_one (λ p. (i : ℕ) → i < size p → has_edge graph (way p i) (way p (suc i)) ≡ true) (λ p. (i : ℕ) × (i < size p) × (has_edge graph (way p i) (way p (suc i)) ≡ false)) (path_count kind) (λ p l.
        all_or_one (λ i. has_edge graph (way p i) (way p (suc i)) ≡ true) (λ i. has_edge graph (way p i) (way p (suc i)) ≡ false) (size p) (λ i m. cases_Bool (has_edge graph (way p i) (way p (suc i)))))

    -- all other steps are edges
    others : (q k : ℕ) → q < path_count kind → k < size q → has_edge graph (way q k) (way q (suc k)) ≡ false → (p i : ℕ) → p < path_count kind → i < size p → ((p ≡ q) × (i ≡ k) → ⊥) → has_edge graph (way p i) (way p (suc i)) ≡ true
    others q k lq lk bad p i l m n =
        elim (steps q k lq lk) [
          | inl t ↦ absurd (true≢false (sym t ∙ bad))
          | inr d ↦ elim (steps p i l m) [
            | inl t ↦ t
            | inr d' ↦ absurd (elim d [
              | inl h ↦ elim d' [
                | inl g ↦ n (same_step graph.n kind branch size way frame p i q k l lq m lk (g.0 ∙ sym h.0) (g.1 ∙ sym h.1))
                | inr g ↦ no_turned_step graph.n kind branch size way frame p i q k l lq m lk (g.0 ∙ sym h.1) (g.1 ∙ sym h.0)
              ]
              | inr h ↦ elim d' [
                | inl g ↦ no_turned_step graph.n kind branch size way frame p i q k l lq m lk (g.0 ∙ sym h.1) (g.1 ∙ sym h.0)
                | inr g ↦ n (same_step graph.n kind branch size way frame p i q k l lq m lk (g.0 ∙ sym h.0) (g.1 ∙ sym h.1))
              ]
            ])
          ]
        ]

-- THE LAW: a witness routed
pub routed_witness : RoutedWitness
routed_witness whole part u v mid r w =
    let f = frame-witness part w.0 w.1 w.2 w.3 in
    let branch : ℕ → ℕ = λ j. vertex_at w.1 j in
    let size : ℕ → ℕ = λ p. length (path_at w.2 p) - 1 in
    let way : ℕ → ℕ → ℕ = λ p i. vertex_at (path_at w.2 p) i in
    let frame = frame-map part.n whole.n w.0 branch size way (λ z. z) (λ z l. subst (λ n. z < n) r.vertices l) (λ a b e. e) f.0 in
    put_path whole w.0 mid u v branch size way frame (λ p i l m. r.edges (way p i) (way p (suc i)) (f.1 p i l m)) r.way r.distinct
    (λ z c p i l m e.
    elim (cases_eq i (size p)) [
      | inr n ↦ absurd (true≢false (sym (f.1 p i l (omega arith)) ∙ (ap (λ a. has_edge part a (way p (suc i))) e ∙ r.off z (way p (suc i)) c)))
      | inl q ↦
          let k = i - 1 in
          let sk : suc k ≡ i = omega (arith, f.0.long p l) in
          let step = f.1 p k l (omega arith) in
          absurd (true≢false (sym (has_edge-turned part (way p (suc k)) (way p k) ∙ step) ∙ (ap (λ a. has_edge part a (way p k)) (ap (way p) sk ∙ e) ∙ r.off z (way p k) c)))
    ])
