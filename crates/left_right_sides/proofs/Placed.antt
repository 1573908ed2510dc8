-- One more vertex is done: the parts below it are put into one.
use Rattle.std.proofs.Common.{◌≡◌, ◌≢◌, ◌⊎◌, ◌↔◌, ℕ, ◌+◌, ◌-◌, ◌<◌, ◌≤◌, Bool, true, cond, ltb, List, [], ◌∷◌, Contains, refl, sym, ap, ap₂, ◌∙◌, subst, inl, inr, arith}
use Rattle.std.proofs.lemmas.Bool.{cases_eq, cond-true, cond-false, lt-ltb, le-ltb}
use Rattle.map_theory.specs.Maps.{Dart}
use Rattle.left_right_laws.specs.Forests.{IsReturn}
use Rattle.left_right_maps.specs.Orders.{IsEdge}
use Rattle.left_right_maps.specs.Trees.{IsDepthFirstTree}
use Rattle.chained_lists.proofs.Links.{in_none, in_first, in_rest, in_cases}
use Rattle.left_right_blocks.specs.Blocks.{Block, edges_in, IsPart}
use Rattle.left_right_blocks.specs.States.{Obeys}
use Rattle.left_right_blocks.specs.declared.fork_edges.ForkEdge.{ForkEdge}
use Rattle.left_right_blocks.specs.Forks.{ForksMet, IsGathered}
use Rattle.left_right_blocks.specs.declared.ties.Tie.{Tie}
use Rattle.left_right_sides.specs.Standing.{Rooted, Returned, OutOf, MeetsAt, IsChildOf, alone, IsPartOf, IsStanding, IsStackOf, IsForkAt}
use Rattle.left_right_sides.proofs.Returned.{by_child, by_chord, by_which, out_is}

module _ (r : Rooted) (root : ℕ) (g : IsDepthFirstTree r.n r.edge r.parent r.depth root) (upward : (x : ℕ) → x < r.m → (r.edge (r.dart x).0 (r.dart x).1 ≡ true) × (r.depth (r.dart x).1 < r.depth (r.dart x).0)) (only : (x y : ℕ) → x < r.m → y < r.m → r.dart x ≡ r.dart y → x ≡ y) (all_edges : (t w : ℕ) → r.edge t w ≡ true → r.depth w < r.depth t → (x : ℕ) × ((x < r.m) × (r.dart x ≡ (t, w)))) (rising : (u : ℕ) → 0 < r.depth u → r.number (r.parent u) < r.number u) (apart : (u v : ℕ) → u < r.n → v < r.n → r.number u ≡ r.number v → u ≡ v) (height_is : (x : ℕ) → x < r.m → r.height x ≡ r.depth (r.dart x).1) where
  abbrev h : ℕ → ℕ
  h = r.height

  -- the other end of the edge by which a stack's edges return
  pub end_of : ℕ → ℕ
  end_of p = cond (ltb p r.m) (r.dart p).1 (p - r.m)

  end_edge : (p : ℕ) → p < r.m → end_of p ≡ (r.dart p).1
  unfolding end_of
  end_edge p l = cond-true {A = ℕ} (ltb p r.m) (r.dart p).1 (p - r.m) (lt-ltb p r.m l)

  end_child : (u : ℕ) → end_of (r.m + u) ≡ u
  unfolding end_of
  end_child u =
      cond-false {A = ℕ} (ltb (r.m + u) r.m) (r.dart (r.m + u)).1 (r.m + u - r.m) (le-ltb (r.m + u) r.m (omega arith)) ∙ (omega arith)

  module _ (k v : ℕ) (low : ℕ → ℕ) (P : ℕ → List Block) (ties0 : List Tie) (s : IsStanding r k low P ties0) (in_n : v < r.n) (next : r.number v + (k + 1) ≡ r.n) (new : ℕ → List Block) (ds : List ForkEdge) (f : IsForkAt r v P new ds) where
    pub child_part : (u : ℕ) → IsChildOf r v u → IsPartOf r u (low u) (P (r.m + u))
    child_part u c =
        let up_one = rising u c.1.0 in
        let e = ap r.number c.1.1 in
        s.top u c.0 (omega arith) (λ some. omega arith)

    -- what a stack has is what returns by its edge
    pub stack_held : (p : ℕ) → IsStackOf r v p → (x : ℕ) → Contains (edges_in (new p)) x ↔ Returned r v (end_of p) x
    stack_held p (inl a) x =
        let here : new p ≡ alone p = f.others p (λ u c e. (let l = a.0 in omega arith)) ∙ s.fresh p a.0 (let e = ap r.number a.1.0 in omega arith) in
        let up_p = upward p a.0 in
        let w = (r.dart p).1 in
        let chord = λ (t z : ℕ). by_chord r.n r.edge r.parent r.depth root g v w t z (subst (λ y. r.edge y w ≡ true) a.1.0 up_p.0) (let e = ap r.depth a.1.0 in let l = up_p.1 in omega arith) a.1.1 in (
          (λ c.
              let e : p ≡ x = elim (in_cases p x [] (subst (λ bs. Contains (edges_in bs) x) here c)) [ inl e ↦ e | inr bad ↦ absurd (in_none x bad) ] in (
                subst (λ y. y < r.m) e a.0,
                subst (λ y. IsReturn (IsEdge r.edge) r.parent r.depth v (end_of p) (r.dart y).0 (r.dart y).1) e (subst (λ y. IsReturn (IsEdge r.edge) r.parent r.depth v y (r.dart p).0 (r.dart p).1) (sym (end_edge p a.0)) ((chord (r.dart p).0 (r.dart p).1).1 (a.1.0, refl))),
              )),
          (λ h'.
              let back = (chord (r.dart x).0 (r.dart x).1).0 (subst (λ y. IsReturn (IsEdge r.edge) r.parent r.depth v y (r.dart x).0 (r.dart x).1) (end_edge p a.0) h'.1) in
              let same : p ≡ x = only p x a.0 h'.0 (ap₂ (λ (y z : ℕ). (y, z)) (a.1.0 ∙ sym back.0) (sym back.1)) in
              subst (λ bs. Contains (edges_in bs) x) (sym here) (subst (Contains (p ∷ [])) same (in_first p []))),
        )
    stack_held p (inr a) x =
        let u = a.0 in
        let c = a.1.1 in
        let is : end_of p ≡ u = ap end_of a.1.0 ∙ end_child u in
        let t = f.trimmed u c x in
        let q = child_part u c in
        let b = by_child r.n r.edge r.parent r.depth root g v u (r.dart x).0 (r.dart x).1 c.1.0 c.1.1 in (
          (λ k'. (let m = t.0 (subst (λ z. Contains (edges_in (new z)) x) a.1.0 k') in let o = (q.held x).0 m.0 in (o.0, subst (λ e. IsReturn (IsEdge r.edge) r.parent r.depth v e (r.dart x).0 (r.dart x).1) (sym is) (b.1 (o.1, subst (λ z. z < r.depth v) (height_is x o.0) m.1))))),
          (λ k'. (let m = b.0 (subst (λ e. IsReturn (IsEdge r.edge) r.parent r.depth v e (r.dart x).0 (r.dart x).1) is k'.1) in subst (λ z. Contains (edges_in (new z)) x) (sym a.1.0) (t.1 ((q.held x).1 (k'.0, m.0), subst (λ z. z < r.depth v) (sym (height_is x k'.0)) m.1)))),
        )

    -- what returns by some edge of v is in a stack
    pub some_stack : (e x : ℕ) → Returned r v e x → (d : ForkEdge) × (Contains ds d × ((end_of d.stack ≡ e) × Contains (edges_in (new d.stack)) x))
    some_stack e x ret =
        let which = by_which r.n r.edge r.parent r.depth root g v e (r.dart x).0 (r.dart x).1 ret.1 in
        elim which [
          | inl a ↦ found (r.m + e) (inr (e, (refl, (g.in_range e v (subst (λ z. r.edge e z ≡ true) a.1 (g.forest.edges e a.0)), a)))) (end_child e)
          | inr a ↦
              let y = all_edges v e a.0 a.1.0 in
              let e0 = ap (λ (d : Dart). d.0) y.1.1 in
              let e1 = ap (λ (d : Dart). d.1) y.1.1 in
              found y.0 (inl (y.1.0, (e0, subst (λ z. z ≢ r.parent v) (sym e1) a.1.1))) (end_edge y.0 y.1.0 ∙ e1)
        ]
      where
        found : (p : ℕ) → IsStackOf r v p → end_of p ≡ e → (d : ForkEdge) × (Contains ds d × ((end_of d.stack ≡ e) × Contains (edges_in (new d.stack)) x))
        found p is same =
            let c : Contains (edges_in (new p)) x = (stack_held p is x).1 (subst (λ z. Returned r v z x) (sym same) ret) in
            elim (f.all p is) [
              | inl none ↦ absurd (in_none x (subst (λ bs. Contains (edges_in bs) x) none c))
              | inr d ↦ (d.0, (d.1.0, (ap end_of d.1.1 ∙ same, subst (λ z. Contains (edges_in (new z)) x) (sym d.1.1) c)))
            ]

    -- an edge returns by one edge of v alone
    one_end : (e e' x : ℕ) → Returned r v e x → Returned r v e' x → e ≡ e'
    one_end e e' x a b =
        elim a.1.branch [
          | inl p ↦ elim b.1.branch [ inl q ↦ p.1 ∙ sym q.1 | inr q ↦ absurd (q.0 p.0) ]
          | inr p ↦ elim b.1.branch [ inl q ↦ absurd (p.0 q.0) | inr q ↦ p.1 ∙ sym q.1 ]
        ]

    -- some edge of the fork leads to e, or none does
    some_or_none : (es : List ForkEdge) (e : ℕ) → ((d : ForkEdge) × (Contains es d × (end_of d.stack ≡ e))) ⊎ ((d : ForkEdge) → Contains es d → end_of d.stack ≢ e)
    some_or_none [] e = inr (λ d c. absurd (in_none d c))
    some_or_none (d ∷ es) e =
        elim (cases_eq (end_of d.stack) e) [
          | inl same ↦ inl (d, (in_first d es, same))
          | inr far ↦ elim (some_or_none es e) [
            | inl found ↦ inl (found.0, (in_rest d found.0 es found.1.0, found.1.1))
            | inr none ↦ inr (λ c k. elim (in_cases d c es k) [ inl same ↦ subst (λ (z : ForkEdge). end_of z.stack ≢ e) same far | inr k' ↦ none c k' ])
          ]
        ]

    -- the demands of the stacks are those of v's forks
    pub forks_are : (side : ℕ → Bool) → ForksMet h new side ds ↔ MeetsAt r side v
    forks_are side = (
      (λ m e e' ne. elim (some_or_none ds e) [
        | inr none ↦ (true, λ x y a b. absurd (let c = some_stack e x a in none c.0 c.1.0 c.1.1.0))
        | inl d ↦ elim (some_or_none ds e') [
          | inr none ↦ (true, λ x y a b. absurd (let c = some_stack e' y b in none c.0 c.1.0 c.1.1.0))
          | inl d' ↦
              let far : d.0.stack ≢ d'.0.stack = λ same. ne (sym d.1.1 ∙ (ap end_of same ∙ d'.1.1)) in
              let k = m d.0 d'.0 d.1.0 d'.1.0 far in
              (k.0, λ x y a b. k.1 x y ((stack_held d.0.stack (f.kinds d.0 d.1.0) x).1 (subst (λ z. Returned r v z x) (sym d.1.1) a)) ((stack_held d'.0.stack (f.kinds d'.0 d'.1.0) y).1 (subst (λ z. Returned r v z y) (sym d'.1.1) b)))
        ]
      ]),
      (λ m d d' c c' far.
          let one = f.fork.are d c in
          let other = f.fork.are d' c' in
          let a = (stack_held d.stack (f.kinds d c) one.lowest).0 one.low_in in
          let differ : end_of d.stack ≢ end_of d'.stack = λ same. far (same_stack d.stack d'.stack (f.kinds d c) (f.kinds d' c') same) in
          let k = m (end_of d.stack) (end_of d'.stack) differ in
          (k.0, λ x y p q. k.1 x y ((stack_held d.stack (f.kinds d c) x).0 p) ((stack_held d'.stack (f.kinds d' c') y).0 q))),
    )
      where
        -- an edge upwards does not lead to a child
        mixed : (p : ℕ) → ((p < r.m) × (((r.dart p).0 ≡ v) × ((r.dart p).1 ≢ r.parent v))) → (u : ℕ) → IsChildOf r v u → (r.dart p).1 ≡ u → ⊥
        mixed p a u c e =
            let l = (upward p a.0).1 in
            let d = g.forest.deeper u c.1.0 in
            let i = ap r.depth a.1.0 in
            let j = ap r.depth e in
            let o = ap r.depth c.1.1 in
            omega arith

        same_stack : (p q : ℕ) → IsStackOf r v p → IsStackOf r v q → end_of p ≡ end_of q → p ≡ q
        same_stack p q (inl a) (inl b) e =
            only p q a.0 b.0 (ap₂ (λ (y z : ℕ). (y, z)) (a.1.0 ∙ sym b.1.0) (sym (end_edge p a.0) ∙ (e ∙ end_edge q b.0)))
        same_stack p q (inl a) (inr b) e = absurd (mixed p a b.0 b.1.1 (sym (end_edge p a.0) ∙ (e ∙ (ap end_of b.1.0 ∙ end_child b.0))))
        same_stack p q (inr a) (inl b) e = absurd (mixed q b a.0 a.1.1 (sym (end_edge q b.0) ∙ (sym e ∙ (ap end_of a.1.0 ∙ end_child a.0))))
        same_stack p q (inr a) (inr b) e =
            let same : a.0 ≡ b.0 = sym (ap end_of a.1.0 ∙ end_child a.0) ∙ (e ∙ (ap end_of b.1.0 ∙ end_child b.0)) in
            a.1.0 ∙ (ap (λ u. r.m + u) same ∙ sym b.1.0)

    -- ---- the parts put into one
    module _ (last : ℕ → List Block) (ties : List Tie) (low' : ℕ → ℕ) (told : (side : ℕ → Bool) → Obeys side P ties0 ↔ Obeys side new ties) (q : IsGathered h (r.m + v) new last ties ds) (same_low : (u : ℕ) → u ≢ v → low' u ≡ low u) (low_here : (d : ForkEdge) (rest : List ForkEdge) → ds ≡ d ∷ rest → low' v ≡ d.low) where
      -- a stack is of an edge of the fork, or of none
      stack_or_none : (es : List ForkEdge) (p : ℕ) → ((d : ForkEdge) × (Contains es d × (d.stack ≡ p))) ⊎ ((d : ForkEdge) → Contains es d → p ≢ d.stack)
      stack_or_none [] p = inr (λ d c. absurd (in_none d c))
      stack_or_none (d ∷ es) p =
          elim (cases_eq d.stack p) [
            | inl same ↦ inl (d, (in_first d es, same))
            | inr far ↦ elim (stack_or_none es p) [
              | inl found ↦ inl (found.0, (in_rest d found.0 es found.1.0, found.1.1))
              | inr none ↦ inr (λ c k e. elim (in_cases d c es k) [ inl same ↦ far (ap (λ (z : ForkEdge). z.stack) same ∙ sym e) | inr k' ↦ none c k' e ])
            ]
          ]

      -- a vertex that is no child of v keeps its stack
      kept : (u : ℕ) → u ≢ v → (IsChildOf r v u → ⊥) → u < r.n → last (r.m + u) ≡ P (r.m + u)
      kept u ne off l =
          let none : (d : ForkEdge) → Contains ds d → r.m + u ≢ d.stack = λ d c e. elim (f.kinds d c) [
            | inl a ↦ (let b = a.0 in omega arith)
            | inr a ↦ (let i = a.1.0 in let same : u ≡ a.0 = omega arith in off (subst (IsChildOf r v) (sym same) a.1.1))
          ] in
          q.others (r.m + u) (λ e. ne (omega arith)) none ∙ f.others (r.m + u) (λ w c e. (let same : u ≡ w = omega arith in off (subst (IsChildOf r v) (sym same) c)))

      -- a child's number is greater
      child_late : (u : ℕ) → IsChildOf r v u → r.n ≤ r.number u + k
      child_late u c = let up_one = rising u c.1.0 in let e = ap r.number c.1.1 in omega arith

      here_part : IsPartOf r v (low' v) (last (r.m + v))
      here_part =
          record {
            part = by ds refl;
            held = λ x. (
              (λ c.
                  let d = (q.held x).0 c in
                  let ret = (stack_held d.0.stack (f.kinds d.0 d.1.0) x).0 d.1.1 in
                  (ret.0, (out_is r.n r.edge r.parent r.depth root g v (r.dart x).0 (r.dart x).1).1 (end_of d.0.stack, ret.1))),
              (λ o.
                  let e = (out_is r.n r.edge r.parent r.depth root g v (r.dart x).0 (r.dart x).1).0 o.1 in
                  let d = some_stack e.0 x (o.0, e.1) in
                  (q.held x).1 (d.0, (d.1.0, d.1.1.1))),
            );
            met = λ x o.
                let e = (out_is r.n r.edge r.parent r.depth root g v (r.dart x).0 (r.dart x).1).0 o.1 in
                let d = some_stack e.0 x (o.0, e.1) in
                first ds refl d.0 d.1.0;
          }
        where
          by : (es : List ForkEdge) → ds ≡ es → IsPart h (low' v) (last (r.m + v))
          by [] e = subst (IsPart h (low' v)) (sym (q.none e)) (record { blocks = tt; stacked = tt })
          by (d ∷ es) e = subst (λ z. IsPart h z (last (r.m + v))) (sym (low_here d es e)) (q.part d es e)

          first : (es : List ForkEdge) → ds ≡ es → (d : ForkEdge) → Contains ds d → (y : ℕ) × (OutOf r v y × (h y ≡ low' v))
          first [] e d c = absurd (in_none d (subst (λ es. Contains es d) e c))
          first (a ∷ es) e d c =
              let in_ds : Contains ds a = subst (λ es. Contains es a) (sym e) (in_first a es) in
              let i = f.fork.are a in_ds in
              let ret = (stack_held a.stack (f.kinds a in_ds) i.lowest).0 i.low_in in
              (i.lowest, ((ret.0, (out_is r.n r.edge r.parent r.depth root g v (r.dart i.lowest).0 (r.dart i.lowest).1).1 (end_of a.stack, ret.1)), i.low_is ∙ sym (low_here a es e)))

      -- a stack of an edge alone
      edge_kept : (x : ℕ) → x < r.m → ((d : ForkEdge) → Contains ds d → x ≢ d.stack) → last x ≡ P x
      edge_kept x l none = q.others x (λ e. omega arith) none ∙ f.others x (λ u c e. omega arith)

      pub standing_more : IsStanding r (k + 1) low' last ties
      standing_more =
          record {
            top = λ u l late above. elim (cases_eq u v) [
              | inl e ↦ subst (λ w. IsPartOf r w (low' w) (last (r.m + w))) (sym e) here_part
              | inr ne ↦
                  let far : r.number u ≢ r.number v = λ e. ne (apart u v l in_n e) in
                  let off : IsChildOf r v u → ⊥ = λ c. (let a = above c.1.0 in let e = ap r.number c.1.1 in omega arith) in
                  let old = s.top u l (omega arith) (λ some. (let a = above some in omega arith)) in
                  subst (IsPartOf r u (low' u)) (sym (kept u ne off l)) (subst (λ z. IsPartOf r u z (P (r.m + u))) (sym (same_low u ne)) old)
            ];
            early = λ u l soon.
                let ne : u ≢ v = λ e. (let i = ap r.number e in omega arith) in
                kept u ne (λ c. (let i = child_late u c in omega arith)) l ∙ s.early u l (omega arith);
            gone = λ u l some late. elim (cases_eq (r.parent u) v) [
              | inl e ↦
                  let c : IsChildOf r v u = (l, (some, e)) in
                  elim (stack_or_none ds (r.m + u)) [
                    | inl d ↦ subst (λ z. last z ≡ []) d.1.1 (q.gone d.0 d.1.0)
                    | inr none ↦ q.others (r.m + u) (λ i. (let same : u ≡ v = omega arith in let up_one = rising u some in let j = ap r.number same in let o = ap r.number e in omega arith)) none ∙ elim (f.all (r.m + u) (inr (u, (refl, c)))) [ inl bare ↦ bare | inr d ↦ absurd (none d.0 d.1.0 (sym d.1.1)) ]
                  ]
              | inr ne ↦
                  let p_in : r.parent u < r.n = g.in_range (r.parent u) u (g.both_ways u (r.parent u) (g.forest.edges u some)) in
                  let far : r.number (r.parent u) ≢ r.number v = λ e. ne (apart (r.parent u) v p_in in_n e) in
                  let not_v : u ≢ v = λ e. (let up_one = rising u some in let j = ap r.number e in omega arith) in
                  kept u not_v (λ c. ne c.1.1) l ∙ s.gone u l some (omega arith)
            ];
            fresh = λ x l soon. edge_kept x l (λ d c e. elim (f.kinds d c) [
              | inl a ↦ (let i = ap (λ z. r.number (r.dart z).0) e in let j = ap r.number a.1.0 in omega arith)
              | inr a ↦ (let i = a.1.0 in omega arith)
            ]) ∙ s.fresh x l (omega arith);
            edge = λ x l. elim (stack_or_none ds x) [
              | inl d ↦ inr (subst (λ z. last z ≡ []) d.1.1 (q.gone d.0 d.1.0))
              | inr none ↦ subst (λ bs. (bs ≡ alone x) ⊎ (bs ≡ [])) (sym (edge_kept x l none)) (s.edge x l)
            ];
            past = λ p l.
                let none : (d : ForkEdge) → Contains ds d → p ≢ d.stack = λ d c e. elim (f.kinds d c) [
                  | inl a ↦ (let b = a.0 in omega arith)
                  | inr a ↦ (let b = a.1.1.0 in let i = a.1.0 in omega arith)
                ] in
                q.others p (λ e. omega arith) none ∙ (f.others p (λ u c e. (let b = c.0 in omega arith)) ∙ s.past p l);
            obeys = λ side. (
              (λ o.
                  let a = (q.obeys side).0 o in
                  let old = (s.obeys side).0 ((told side).1 a.0) in
                  λ w l late. elim (cases_eq w v) [
                    | inl e ↦ subst (MeetsAt r side) (sym e) ((forks_are side).0 a.1)
                    | inr ne ↦ (let far : r.number w ≢ r.number v = λ e. ne (apart w v l in_n e) in old w l (omega arith))
                  ]),
              (λ m. (q.obeys side).1 ((told side).0 ((s.obeys side).1 (λ w l late. m w l (omega arith))), (forks_are side).1 (m v in_n (omega arith)))),
            );
          }

    -- where the fork's demands contradict the blocks, no sides meet all forks
    pub no_sides : (ties : List Tie) → ((side : ℕ → Bool) → Obeys side P ties0 ↔ Obeys side new ties) → ((side : ℕ → Bool) → Obeys side new ties → ¬ ForksMet h new side ds) → (side : ℕ → Bool) → ¬ ((w : ℕ) → w < r.n → MeetsAt r side w)
    no_sides ties told clash side all =
        clash side ((told side).0 ((s.obeys side).1 (λ w l late. all w l))) ((forks_are side).1 (all v in_n))
