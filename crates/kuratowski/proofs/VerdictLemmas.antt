-- Where nothing is wrong, there is a witness; and a witness has no fault.
use Rattle.std.proofs.Common.{◌≡◌, ℕ, suc, ◌-◌, ◌<◌, List, length, refl, sym, ◌∙◌, inl, inr, arith}
use Rattle.std.proofs.lemmas.Bool.{cases_Bool, cases_lt, cases_order, true≢false}
use Rattle.map_lists.specs.declared.ids.VertexId.{VertexId}
use Rattle.graphs.specs.Graphs.{EdgeGraph, has_edge}
use Rattle.kuratowski.specs.Witnesses.{vertex_at, path_at, IsShape, IsWitness}
use Rattle.kuratowski.specs.Faults.{IsShared}
use Rattle.kuratowski.specs.Verdicts.{IsVerdict, NoBadBranch, LacksNone}
use Rattle.kuratowski.specs.declared.witness.Kind.{Kind}
use Rattle.kuratowski.specs.declared.check.WitnessVerdict.{WitnessVerdict}
use Rattle.kuratowski.specs.declared.check.WitnessVerdict.TheVariants.{BadShape, BadBranch, NotEdge, Shared, Yes}

module _ (graph : EdgeGraph) (kind : Kind) (branch : List VertexId) (paths : List (List VertexId)) where
  pub IsWitness-no_fault : IsShape kind branch paths → NoBadBranch graph.n branch → LacksNone graph paths → ((p q v : ℕ) → ¬ IsShared branch paths p q v) → IsWitness graph kind branch paths
  IsWitness-no_fault shape good edges apart = record {
    shape = shape;
    vertices = λ i l. elim (cases_lt (vertex_at branch i) graph.n) [ inl m ↦ m | inr m ↦ absurd (good i (l, inl m)) ];
    distinct = λ i j l m e. good j (m, inr (i, l, e));
    edges = λ p i l m. elim (cases_Bool (has_edge graph (vertex_at (path_at paths p) i) (vertex_at (path_at paths p) (suc i)))) [
      | inl t ↦ t
      | inr f ↦ absurd (edges p i record { path = l; step = m; lacks = f })
    ];
    no_branch = λ p i j l m o e. apart p p (vertex_at (path_at paths p) i) record { order = omega arith; within = l; inner = (i, m, refl); too = inl (refl, inl (j, o, sym e)) };
    once = λ p i j l m o e. elim (cases_order i j) [
      | inl q ↦ q
      | inr (inl k) ↦ absurd (apart p p (vertex_at (path_at paths p) i) record { order = omega arith; within = l; inner = (i, m, refl); too = inl (refl, inr (i, j, k, o, refl, sym e)) })
      | inr (inr k) ↦ absurd (apart p p (vertex_at (path_at paths p) i) record { order = omega arith; within = l; inner = (i, m, refl); too = inl (refl, inr (j, i, k, omega (arith, m.1), sym e, refl)) })
    ];
    apart = λ p q i j l m o k e. apart p q (vertex_at (path_at paths p) i) record { order = omega arith; within = m; inner = (i, o, refl); too = inr (l, (j, k, sym e)) };
  }

  no_shared : IsWitness graph kind branch paths → (p q v : ℕ) → ¬ IsShared branch paths p q v
  no_shared w p q v s =
      let i = s.inner.0 in
      let at = s.inner.2 in
      let l : p < length paths = omega (arith, s.order, s.within) in
      elim s.too [
        | inl (e, inl (j, o, f)) ↦ w.no_branch p i j l s.inner.1 o (at ∙ sym f)
        | inl (e, inr (j, k, o, m, f, g)) ↦
            let first = w.once p i j l s.inner.1 (omega (arith, o, m)) (at ∙ sym f) in
            let second = w.once p i k l s.inner.1 m (at ∙ sym g) in
            omega (arith, first, second, o)
        | inr (o, (j, k, f)) ↦ w.apart p q i j o s.within s.inner.1 k (at ∙ sym f)
      ]

  -- a witness has the verdict Yes
  pub yes_of_witness : (verdict : WitnessVerdict) → IsVerdict graph kind branch paths verdict → IsWitness graph kind branch paths → verdict ≡ Yes
  yes_of_witness BadShape h w = absurd (h w.shape)
  yes_of_witness (BadBranch i) h w =
      let bad = h.2.here in
      absurd (elim bad.1 [
        | inl l ↦ omega (arith, l, w.vertices (i - 1) bad.0)
        | inr (j, l, e) ↦ w.distinct j (i - 1) l bad.0 e
      ])
  yes_of_witness (NotEdge p i) h w =
      let lacks = h.4.rest.here in
      absurd (true≢false (sym (w.edges (p - 1) (i - 1) lacks.path lacks.step) ∙ lacks.lacks))
  yes_of_witness (Shared p q v) h w = absurd (no_shared w (p - 1) (q - 1) v.0 h.5.rest.rest.here)
  yes_of_witness Yes h w = refl
