-- What returns from a vertex, by each of its edges.
use Rattle.std.proofs.Common.{◌≡◌, ◌≢◌, ◌⊎◌, ◌↔◌, ℕ, ◌+◌, ◌-◌, ◌<◌, Bool, true, refl, sym, ap, ◌∙◌, subst, inl, inr, arith}
use Rattle.std.proofs.lemmas.Bool.{cases_eq, cases_lt}
use Rattle.left_right_laws.specs.Forests.{up, IsAbove, IsReturn}
use Rattle.left_right_maps.specs.Orders.{IsEdge}
use Rattle.left_right_maps.specs.Trees.{IsDepthFirstTree}
use Rattle.left_right_maps.proofs.Lines.{above_itself, above_same, above_over, above_parent, parent_above, branch_below, branch_is}
use Rattle.left_right_sides.specs.Outs.{IsOut}

module _ (n : ℕ) (edge : ℕ → ℕ → Bool) (parent depth : ℕ → ℕ) (root : ℕ) (g : IsDepthFirstTree n edge parent depth root) where
  abbrev deeper : (v : ℕ) → 0 < depth v → depth v ≡ depth (parent v) + 1
  deeper = g.forest.deeper

  abbrev Returns : ℕ → ℕ → ℕ → ℕ → Type 0
  Returns v e t w = IsReturn (IsEdge edge) parent depth v e t w

  abbrev Out : ℕ → ℕ → ℕ → Type 0
  Out v t w = IsOut edge parent depth v t w

  far : (v t : ℕ) → IsAbove parent depth v t → t ≢ v → depth v < depth t
  far v t a ne =
      elim (cases_lt (depth v) (depth t)) [ inl l ↦ l | inr m ↦ (let d = a.depths in absurd (ne (sym (above_same parent depth v t a (omega arith))))) ]

  -- by a child returns what returns from it to above its parent
  pub by_child : (v u t w : ℕ) → 0 < depth u → parent u ≡ v → Returns v u t w ↔ (Out u t w × (depth w < depth v))
  by_child v u t w some is =
      let deep : depth u ≡ depth v + 1 = deeper u some ∙ ap (λ z. depth z + 1) is in
      let up_one : IsAbove parent depth v u = subst (λ z. IsAbove parent depth z u) is (parent_above parent depth deeper u some) in (
        (λ r.
            let high = r.higher in
            elim r.branch [
              | inl a ↦ absurd (let e = ap depth a.1 in omega arith)
              | inr a ↦
                  let below : IsAbove parent depth u t = (
                  let l = far v t r.under a.0 in
                  let k : depth t - depth v - 1 ≡ depth t - depth u = omega arith in
                  record { depths = omega arith; line = sym (ap (λ j. up parent j t) k) ∙ sym a.1 }
                  ) in (
                    record { has = r.edge; under = below; above = above_over parent depth w v u r.above up_one; higher = omega arith; away = λ e f. (let same = ap depth (f ∙ is) in omega arith) },
                    high,
                  )
            ]),
        (λ o.
            let high = o.1 in
            let l = o.0.under.depths in
            record {
              edge = o.0.has;
              higher = high;
              above = subst (λ z. IsAbove parent depth w z) is (above_parent parent depth deeper w u some o.0.above o.0.higher);
              under = above_over parent depth v u t up_one o.0.under;
              branch = inr ((λ e. let same = ap depth e in omega arith), branch_is parent depth deeper v t u o.0.under deep);
              away = λ e. (let same = ap depth e in let one = deeper v (omega arith) in omega arith);
            }),
      )

  -- by an edge upwards returns that edge alone
  pub by_chord : (v w t z : ℕ) → edge v w ≡ true → depth w < depth v → w ≢ parent v → Returns v w t z ↔ ((t ≡ v) × (z ≡ w))
  by_chord v w t z has high away = (
    (λ r. elim r.branch [
      | inl a ↦ (a.0, sym a.1)
      | inr a ↦ absurd (let b = branch_below parent depth deeper v t r.under (far v t r.under a.0) in let d = b.deep in let e = ap depth a.1 in omega arith)
    ]),
    (λ e.
        let up_to : IsAbove parent depth w v = elim (g.on_lines v w has) [ inl a ↦ (let d = a.depths in absurd (omega arith)) | inr a ↦ a ] in
        subst (λ x. Returns v w x z) (sym e.0) (subst (Returns v w v) (sym e.1) (
        record { edge = has; higher = high; above = up_to; under = above_itself parent depth v; branch = inl (refl, refl); away = away }))),
  )

  -- an edge by which one returns leads to a child or upwards
  pub by_which : (v e t w : ℕ) → Returns v e t w → ((0 < depth e) × (parent e ≡ v)) ⊎ ((edge v e ≡ true) × ((depth e < depth v) × (e ≢ parent v)))
  by_which v e t w r =
      elim r.branch [
        | inl a ↦ inr (subst (λ x. edge x e ≡ true) a.0 (subst (λ z. edge t z ≡ true) (sym a.1) r.edge), ((let h = r.higher in let s = ap depth a.1 in omega arith), r.away))
        | inr a ↦
            let b = branch_below parent depth deeper v t r.under (far v t r.under a.0) in
            let d = b.deep in
            let s = ap depth a.1 in
            inl (omega arith, ap parent a.1 ∙ b.parent_is)
      ]

  -- what returns from a vertex returns by one of its edges
  pub out_is : (v t w : ℕ) → Out v t w ↔ ((e : ℕ) × Returns v e t w)
  out_is v t w = (
    (λ o.
        let high = o.higher in
        elim (cases_eq t v) [
          | inl e ↦ (w, record { edge = o.has; higher = o.higher; above = o.above; under = o.under; branch = inl (e, refl); away = o.away e })
          | inr ne ↦
              let b = branch_below parent depth deeper v t o.under (far v t o.under ne) in
              let d = b.deep in
              (up parent (depth t - depth v - 1) t, record { edge = o.has; higher = o.higher; above = o.above; under = o.under; branch = inr (ne, refl); away = λ e. (let s = ap depth e in let one = deeper v (omega arith) in omega arith) })
        ]),
    (λ r. record {
      has = r.1.edge;
      under = r.1.under;
      above = r.1.above;
      higher = r.1.higher;
      away = λ e. elim r.1.branch [ inl a ↦ (λ f. r.1.away (a.1 ∙ f)) | inr a ↦ absurd (a.0 e) ];
    }),
  )
