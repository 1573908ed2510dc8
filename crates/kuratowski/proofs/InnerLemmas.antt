-- The least inner vertex with a property, found place by place; the shared vertices of one path.
use Rattle.std.proofs.Common.{◌≡◌, ◌⊎◌, ℕ, ◌+◌, ◌-◌, ◌<◌, List, length, Option, Some, None, refl, sym, ap, ◌∙◌, subst, inl, inr, arith}
use Rattle.std.proofs.lemmas.Bool.{cases_eq}
use Rattle.map_lists.specs.declared.ids.VertexId.{VertexId}
use Rattle.kuratowski.specs.Witnesses.{vertex_at, path_at}
use Rattle.kuratowski.specs.Faults.{Stands, StandsTwice, IsInner, IsShared}
use Rattle.kuratowski.specs.Inner.{StandsWithin, IsLeastInner, IsBelow}
use Rattle.kuratowski.specs.Verdicts.{IsLeastPair}

module _ (path : List VertexId) (P : ℕ → Type 0) where
  -- one place more
  within_more : (i v : ℕ) → StandsWithin path (i + 1) v → StandsWithin path i v ⊎ (vertex_at path i ≡ v)
  within_more i v s = elim (cases_eq s.0 i) [
    | inl e ↦ inr (ap (vertex_at path) (sym e) ∙ s.3)
    | inr n ↦ inl (s.0, s.1, omega (arith, s.2), s.3)
  ]

  wider : (i v : ℕ) → StandsWithin path i v → StandsWithin path (i + 1) v
  wider i v s = (s.0, s.1, omega (arith, s.2), s.3)

  pub least-skip : (i : ℕ) (least : Option ℕ) → IsLeastInner path P i least → ¬ P (vertex_at path i) → IsLeastInner path P (i + 1) least
  least-skip i None h not = λ v s p. elim (within_more i v s) [ inl t ↦ h v t p | inr e ↦ not (subst P (sym e) p) ]
  least-skip i (Some u) h not = (wider i u h.0, h.1, λ v s p. elim (within_more i v s) [ inl t ↦ h.2 v t p | inr e ↦ absurd (not (subst P (sym e) p)) ])

  -- a vertex with the property below the least so far is the least
  pub least-take : (i : ℕ) (least : Option ℕ) → 0 < i → IsLeastInner path P i least → IsBelow (vertex_at path i) least → P (vertex_at path i) → IsLeastInner path P (i + 1) (Some (vertex_at path i))
  least-take i None l h below p = ((i, l, omega arith, refl), p, λ v s q. elim (within_more i v s) [ inl t ↦ absurd (h v t q) | inr e ↦ omega (arith, e) ])
  least-take i (Some u) l h below p = ((i, l, omega arith, refl), p, λ v s q. elim (within_more i v s) [ inl t ↦ omega (arith, h.2 v t q, below) | inr e ↦ omega (arith, e) ])

  -- one that is not below the least so far changes nothing
  pub least-pass : (i : ℕ) (least : Option ℕ) → IsLeastInner path P i least → ¬ IsBelow (vertex_at path i) least → IsLeastInner path P (i + 1) least
  least-pass i None h not = absurd (not tt)
  least-pass i (Some u) h not = (wider i u h.0, h.1, λ v s p. elim (within_more i v s) [ inl t ↦ h.2 v t p | inr e ↦ omega (arith, e, not) ])

-- an inner vertex stands within the last place, and the other way
within_inner : (path : List VertexId) (v : ℕ) → IsInner path v → StandsWithin path (length path - 1) v
within_inner path v h = (h.0, h.1.0, omega (arith, h.1.1), h.2)

inner_within : (path : List VertexId) (v : ℕ) → StandsWithin path (length path - 1) v → IsInner path v
inner_within path v s = (s.0, (s.1, omega (arith, s.2)), s.3)

-- ---- what one path shares
module _ (branch : List VertexId) (paths : List (List VertexId)) (p : ℕ) (path : p < length paths) where
  -- by itself
  pub own_none : IsLeastInner (path_at paths p) (λ v. Stands branch v ⊎ StandsTwice (path_at paths p) v) (length (path_at paths p) - 1) None → (v : ℕ) → ¬ IsShared branch paths p p v
  own_none h v s = elim s.too [
    | inl o ↦ h v (within_inner (path_at paths p) v s.inner) o.1
    | inr o ↦ omega (arith, o.0)
  ]

  -- nothing before itself
  before_own : (q v : ℕ) → q < p → ¬ IsShared branch paths p q v
  before_own q v l s = omega (arith, s.order)

  pub own_some : (least : ℕ) → IsLeastInner (path_at paths p) (λ v. Stands branch v ⊎ StandsTwice (path_at paths p) v) (length (path_at paths p) - 1) (Some least) → IsLeastPair (IsShared branch paths p) p least
  own_some least h = record {
    before = λ q v l. before_own q v l;
    rest = record {
      here = record { order = omega arith; within = path; inner = inner_within (path_at paths p) least h.0; too = inl (refl, h.1) };
      before = λ v l s. elim s.too [
        | inl o ↦ omega (arith, h.2 v (within_inner (path_at paths p) v s.inner) o.1)
        | inr o ↦ omega (arith, o.0)
      ];
    };
  }

  -- with another
  pub other_none : (q : ℕ) → p < q → IsLeastInner (path_at paths p) (IsInner (path_at paths q)) (length (path_at paths p) - 1) None → (v : ℕ) → ¬ IsShared branch paths p q v
  other_none q l h v s = elim s.too [
    | inl o ↦ omega (arith, o.0)
    | inr o ↦ h v (within_inner (path_at paths p) v s.inner) o.1
  ]

  pub other_some : (q least : ℕ) → p < q → q < length paths → ((k v : ℕ) → k < q → ¬ IsShared branch paths p k v) → IsLeastInner (path_at paths p) (IsInner (path_at paths q)) (length (path_at paths p) - 1) (Some least) → IsLeastPair (IsShared branch paths p) q least
  other_some q least l m earlier h = record {
    before = λ k v. earlier k v;
    rest = record {
      here = record { order = omega arith; within = m; inner = inner_within (path_at paths p) least h.0; too = inr (l, h.1) };
      before = λ v o s. elim s.too [
        | inl k ↦ omega (arith, k.0)
        | inr k ↦ omega (arith, h.2 v (within_inner (path_at paths p) v s.inner) k.1)
      ];
    };
  }
