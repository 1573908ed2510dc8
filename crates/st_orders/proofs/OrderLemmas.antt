-- The places that vertices have in the end are an st-order.
use Rattle.std.proofs.Common.{◌≡◌, ◌≢◌, ℕ, zero, suc, ◌<◌, ◌≤◌, Bool, true, false, not, length, sym, ap, ◌∙◌, subst, inl, inr, arith}
use Rattle.std.proofs.lemmas.Bool.{cases_eq, cases_lt, not-true, not-false}
use Rattle.map_lists.specs.Lists.{Lists}
use Rattle.map_theory.specs.Maps.{HasDart}
use Rattle.graph_search.specs.Forests.{IsAdjacency, Holds}
use Rattle.graph_search.specs.Lows.{IsWithin}
use Rattle.graph_search.proofs.ForestLemmas.{same_vertex, IsWithin-cases, IsWithin-itself, IsWithin-held, IsWithin-chained, child_towards}
use Rattle.st_orders.specs.Placing.{IsWholeForest, IsPlacing}

-- the vertex of a number
own_of : (order number : ℕ → ℕ) (u x : ℕ) → order (number u) ≡ u → number u ≡ x → order x ≡ u
own_of order number u x own e = ap order (sym e) ∙ own

-- vertices whose parents have different numbers are different
apart_by_parent : (number parent : ℕ → ℕ) (c v u : ℕ) → parent c ≡ u → number u < number (parent v) → c ≢ v
apart_by_parent number parent c v u child less e =
    let same = ap (λ x. number (parent x)) e in
    let at = ap number child in
    omega arith

-- the vertex at v's low point, and the child of it towards v
pub record HasFarEnd (lists : Lists) (order number last parent low : ℕ → ℕ) (v : ℕ) : Type 0 where
  pub w : ℕ
  pub w_in : w < length lists
  pub is_low : order (low v) ≡ w
  pub w_number : number w ≡ low v
  pub holds : Holds number last w v
  pub c : ℕ
  pub c_in : c < length lists
  pub child : parent c ≡ w
  pub c_holds : Holds number last c v
  -- where it is met
  pub x : ℕ
  pub within : IsWithin number last v x
  pub dart : HasDart lists x w

module _ (lists : Lists) (adjacency : IsAdjacency lists) (order number last parent low : ℕ → ℕ) (s t : ℕ) (w : IsWholeForest lists order number last parent low s t) where
  pub far_end : (v : ℕ) → v < length lists → 2 ≤ number v → HasFarEnd lists order number last parent low v
  far_end v l two =
      let f = w.forest in
      let p = w.has_parent v l (omega arith) in
      let beyond = w.beyond v l two in
      let p_number = f.numbered (parent v) p in
      let up = (f.held v l p).after in
      let met = (w.lows v l).met (omega arith) in
      let u = met.0 in
      let x = met.1.w in
      let out = met.1.dart in
      let x_from = met.1.within.from in
      let same = met.2 in
      let u_in = adjacency.in_range x u out in
      let before = f.edges u x (adjacency.both_ways x u out) in
      let holds : Holds number last u v = record { after = omega arith; before = omega arith } in
      let c = child_towards lists order number last parent f u v u_in l holds in
      let other = apart_by_parent number parent c.c v u c.child (omega arith) in
      let c_holds : Holds number last c.c v = elim (IsWithin-cases lists order number last parent f c.c v c.vertex l c.within) [ inl e ↦ absurd (other e) | inr h ↦ h ] in
      record {
        w = u;
        w_in = u_in;
        is_low = own_of order number u (low v) (f.own u u_in) same;
        w_number = same;
        holds = holds;
        c = c.c;
        c_in = c.vertex;
        child = c.child;
        c_holds = c_holds;
        x = x;
        within = met.1.within;
        dart = out;
      }

  -- each vertex is within s
  within_s : (k v : ℕ) → v < length lists → number v < k → IsWithin number last s v
  within_s zero v l below = absurd (omega arith)
  within_s (suc k) v l below =
      let f = w.forest in
      let s_number = w.s_first in
      elim (cases_lt 0 (number v)) [
        | inl some ↦
            let p = w.has_parent v l some in
            let up = f.held v l p in
            let less = up.after in
            IsWithin-chained lists order number last parent f s (parent v) v w.s_in p (within_s k (parent v) p (omega arith)) (IsWithin-held lists order number last parent f (parent v) v up)
        | inr none ↦ subst (IsWithin number last s) (same_vertex lists order number last parent f s v w.s_in l (omega arith)) (IsWithin-itself lists order number last parent f s w.s_in)
      ]

  -- and each but s within t
  within_t : (v : ℕ) → v < length lists → v ≢ s → IsWithin number last t v
  within_t v l ne =
      let f = w.forest in
      let s_number = w.s_first in
      let t_number = w.t_second in
      let i = within_s (suc (number v)) v l (omega arith) in
      let hold : Holds number last s v = elim (IsWithin-cases lists order number last parent f s v w.s_in l i) [ inl e ↦ absurd (ne (sym e)) | inr k ↦ k ] in
      let c = child_towards lists order number last parent f s v w.s_in l hold in
      let c_p : parent c.c < length lists = rw c.child w.s_in in
      let up = (f.held c.c c.vertex c_p).after in
      let at_s : number (parent c.c) ≡ 0 = ap number c.child ∙ s_number in
      let is_second : number c.c ≡ 1 = elim (cases_lt 1 (number c.c)) [ inl two ↦ absurd (let b = w.beyond c.c c.vertex (omega arith) in omega arith) | inr le ↦ omega arith ] in
      let is_t : c.c ≡ t = same_vertex lists order number last parent f c.c t c.vertex w.t_in (omega arith) in
      subst (λ z. IsWithin number last z v) is_t c.within

  module _ (from to : ℕ → ℕ) (side recent : ℕ → Bool) (h : IsPlacing lists order number last parent low t from to side recent (length lists)) where
    -- a vertex stands before what is within a child on the one side, and after what is within one on the other
    stands_after : (a c : ℕ) → a < length lists → c < length lists → parent c < length lists → IsWithin number last c a → side c ≡ true → from a < from (parent c)
    stands_after a c l m q i is_set =
        let b = h.before a c l m (w.forest.numbered a l) q i is_set in
        let some = h.some a l (w.forest.numbered a l) in
        omega arith

    stands_before : (a c : ℕ) → a < length lists → c < length lists → parent c < length lists → IsWithin number last c a → side c ≡ false → from (parent c) < from a
    stands_before a c l m q i is_clear =
        let b = h.after a c l m (w.forest.numbered a l) q i is_clear in
        let some = h.some (parent c) q (w.forest.numbered (parent c) q) in
        omega arith

    -- a vertex has its parent on one side
    pub by_parent : (v : ℕ) → v < length lists → parent v < length lists → (side v ≡ true → from v < from (parent v)) × (side v ≡ false → from (parent v) < from v)
    by_parent v l p = (
      stands_after v v l l p (IsWithin-itself lists order number last parent w.forest v l),
      stands_before v v l l p (IsWithin-itself lists order number last parent w.forest v l),
    )

    -- and a neighbour on the other
    pub across : (v : ℕ) → v < length lists → 2 ≤ number v → (u : ℕ) × HasDart lists v u × (side v ≡ true → from u < from v) × (side v ≡ false → from v < from u)
    across v l two =
        let f = w.forest in
        let far = far_end v l two in
        let q_in : parent far.c < length lists = rw far.child far.w_in in
        let c_holds = far.c_holds in
        let opposite = h.rule v far.c l far.c_in (f.numbered v l) two (far.child ∙ sym far.is_low) c_holds in
        let within_c = IsWithin-held lists order number last parent f far.c v c_holds in
        elim (IsWithin-cases lists order number last parent f v far.x l far.dart.0 far.within) [
          | inl e ↦ (
            far.w,
            subst (λ z. HasDart lists z far.w) (sym e) far.dart,
            λ is_set. subst (λ z. from z < from v) far.child (stands_before v far.c l far.c_in q_in within_c (not-true (side far.c) (sym opposite ∙ is_set))),
            λ is_clear. subst (λ z. from v < from z) far.child (stands_after v far.c l far.c_in q_in within_c (not-false (side far.c) (sym opposite ∙ is_clear))),
          )
          | inr held ↦
              let d = child_towards lists order number last parent f v far.x l far.dart.0 held in
              let p_in : parent d.c < length lists = rw d.child l in
              let d_held : Holds number last v d.c = subst (λ z. Holds number last z d.c) d.child (f.held d.c d.vertex p_in) in
              let less = d_held.after in
              let d_low = (w.lows d.c d.vertex).least far.w (record { w = far.x; within = d.within; dart = far.dart }) in
              let w_number = far.w_number in
              let w_small = f.numbered far.w far.w_in in
              let met = (w.lows d.c d.vertex).met (omega arith) in
              let v_low = (w.lows v l).least met.0 (record { w = met.1.w; within = IsWithin-chained lists order number last parent f v d.c met.1.w l d.vertex (IsWithin-held lists order number last parent f v d.c d_held) met.1.within; dart = met.1.dart }) in
              let same : low d.c ≡ low v = omega (arith, met.2) in
              let ends = f.nested far.c v far.c_in l c_holds in
              let c_less = c_holds.after in
              let d_before = d_held.before in
              let c_d : Holds number last far.c d.c = record { after = omega arith; before = omega arith } in
              let d_opposite = h.rule d.c far.c d.vertex far.c_in (f.numbered d.c d.vertex) (omega arith) (far.child ∙ (sym far.is_low ∙ ap order (sym same))) c_d in
              let alike : side d.c ≡ side v = d_opposite ∙ sym opposite in
              let by = by_parent d.c d.vertex p_in in (
                d.c,
                subst (λ z. HasDart lists z d.c) d.child (f.adjacent d.c d.vertex p_in),
                λ is_set. subst (λ z. from d.c < from z) d.child (by.0 (alike ∙ is_set)),
                λ is_clear. subst (λ z. from z < from d.c) d.child (by.1 (alike ∙ is_clear)),
              )
        ]

    -- s stands before all others, and t after all others
    pub s_before : (a : ℕ) → a < length lists → a ≢ s → from s < from a
    s_before a l ne =
        let f = w.forest in
        let s_number = w.s_first in
        let t_number = w.t_second in
        let t_p = w.has_parent t w.t_in (omega arith) in
        let up = (f.held t w.t_in t_p).after in
        let is_s : parent t ≡ s = same_vertex lists order number last parent f (parent t) s t_p w.s_in (omega arith) in
        subst (λ z. from z < from a) is_s (stands_before a t l w.t_in t_p (within_t a l ne) h.first)

    pub t_after : (a : ℕ) → a < length lists → a ≢ t → from a < from t
    t_after a l ne =
        let f = w.forest in
        let s_number = w.s_first in
        let t_number = w.t_second in
        elim (cases_eq a s) [
          | inl e ↦ subst (λ z. from z < from t) (sym e) (s_before t w.t_in (λ g. (let q = ap number g in omega arith)))
          | inr other ↦
              let i = within_t a l other in
              let hold : Holds number last t a = elim (IsWithin-cases lists order number last parent f t a w.t_in l i) [ inl e ↦ absurd (ne (sym e)) | inr k ↦ k ] in
              let c = child_towards lists order number last parent f t a w.t_in l hold in
              let c_p : parent c.c < length lists = rw c.child w.t_in in
              let up : Holds number last t c.c = subst (λ z. Holds number last z c.c) c.child (f.held c.c c.vertex c_p) in
              let c_after = up.after in
              let beyond = w.beyond c.c c.vertex (omega arith) in
              let p_number : number (parent c.c) ≡ 1 = ap number c.child ∙ t_number in
              let is_low : order (low c.c) ≡ s = ap order (number_s (low c.c) (omega arith)) ∙ f.own s w.s_in in
              let t_p = w.has_parent t w.t_in (omega arith) in
              let t_up = (f.held t w.t_in t_p).after in
              let is_s : parent t ≡ s = same_vertex lists order number last parent f (parent t) s t_p w.s_in (omega arith) in
              let opposite = h.rule c.c t c.vertex w.t_in (f.numbered c.c c.vertex) (omega arith) (is_s ∙ sym is_low) up in
              let sided : side c.c ≡ true = opposite ∙ ap not h.first in
              subst (λ z. from a < from z) c.child (stands_after a c.c l c.vertex c_p c.within sided)
        ]
      where
        number_s : (x : ℕ) → x ≡ 0 → x ≡ number s
        number_s x e = e ∙ sym w.s_first
