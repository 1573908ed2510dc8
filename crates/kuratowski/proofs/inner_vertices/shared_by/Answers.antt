use Rattle.std.proofs.Common.{◌≡◌, ◌-◌, ◌⊎◌, ℕ, List, length, Option, Some, None, subst, inl, inr, arith}
use Rattle.std.proofs.lemmas.Bool.{cases_eq, cases_lt}
use Rattle.map_lists.specs.declared.ids.VertexId.{VertexId}
use Rattle.kuratowski.specs.Witnesses.{path_at}
use Rattle.kuratowski.specs.Faults.{Stands, StandsTwice, IsShared, IsInner}
use Rattle.kuratowski.specs.Inner.{IsLeastInner}
use Rattle.kuratowski.proofs.InnerLemmas.{own_none, own_some, other_none, other_some}
use Rattle.kuratowski.proofs.inner_vertices.shared_by.Goals as goal

-- the least vertex, said of the two paths by their numbers
by_number : (paths : List (List VertexId)) (p q : ℕ) (path other : List VertexId) (r : Option ℕ) → path ≡ path_at paths p → other ≡ path_at paths q → IsLeastInner path (IsInner other) (length path - 1) r → IsLeastInner (path_at paths p) (IsInner (path_at paths q)) (length (path_at paths p) - 1) r
by_number paths p q path other r e f h = subst (λ (o : List VertexId). IsLeastInner (path_at paths p) (IsInner o) (length (path_at paths p) - 1) r) f (subst (λ (l : List VertexId). IsLeastInner l (IsInner other) (length l - 1) r) e h)

pub returns-in-Some : goal.returns-in-Some
returns-in-Some c =
    own_some c.args.branch.now c.args.paths.now c.args.p c.requires.path c.in-Some.vertex
    (subst (λ (l : List VertexId). IsLeastInner l (λ v. Stands c.args.branch.now v ⊎ StandsTwice l v) (length l - 1) (Some c.in-Some.vertex)) c.list-path.ensures c.in-Some.ensures)

pub loop-q-init : goal.loop-q-init
loop-q-init c = λ k v l s. elim (cases_lt k c.args.p) [
  | inl m ↦ omega (arith, s.order)
  | inr m ↦
      let e : k ≡ c.args.p = omega (arith, s.order) in
      own_none c.args.branch.now c.args.paths.now c.args.p c.requires.path
      (subst (λ (l : List VertexId). IsLeastInner l (λ v. Stands c.args.branch.now v ⊎ StandsTwice l v) (length l - 1) None) c.list-path.ensures c.in_default.ensures)
      v (subst (λ x. IsShared c.args.branch.now c.args.paths.now c.args.p x v) e s)
]

pub returns-in-Some-common_inner : goal.returns-in-Some-common_inner
returns-in-Some-common_inner c =
    other_some c.args.branch.now c.args.paths.now c.args.p c.requires.path c.loop-q.q c.in-Some-common_inner.vertex (omega arith) (omega arith) c.loop-q.invariant
    (by_number c.args.paths.now c.args.p c.loop-q.q c.list-path.result.now c.list.result.now (Some c.in-Some-common_inner.vertex) c.list-path.ensures c.list.ensures c.in-Some-common_inner.ensures)

pub loop-q-preserved : goal.loop-q-preserved
loop-q-preserved c = λ k v l s. elim (cases_eq k c.loop-q.q) [
  | inl e ↦
      other_none c.args.branch.now c.args.paths.now c.args.p c.requires.path c.loop-q.q (omega arith)
      (by_number c.args.paths.now c.args.p c.loop-q.q c.list-path.result.now c.list.result.now None c.list-path.ensures c.list.ensures c.in_default-common_inner.ensures) v
      (subst (λ x. IsShared c.args.branch.now c.args.paths.now c.args.p x v) e s)
  | inr n ↦ c.loop-q.invariant k v (omega arith) s
]

pub returns : goal.returns
returns c = λ q v s. c.loop-q.invariant q v (omega (arith, s.within)) s
