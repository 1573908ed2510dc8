-- Rows along right links, number by number.
use Rattle.std.proofs.Common.{◌≡◌, ◌≢◌, ℕ, suc, ◌<◌, List, length, Some, ℤ, ◌+ℤ◌, sym, ap, ap₂, ◌∙◌, inl, inr, arith}
use Rattle.std.proofs.lemmas.Bool.{cases_eq}
use Rattle.std.proofs.lemmas.Option.{same_Some}
use Rattle.fpp_shift.specs.declared.offset_trees.tree_nodes.Node.{Node}
use Rattle.fpp_shift.specs.Nodes.{node_at, right_of}
use Rattle.fpp_shift.specs.OffsetTreesRows.{IsRow, far}

module _ (nodes : List Node) (row : ℕ → ℕ) (m p q : ℕ) (is : IsRow nodes row m p q) (i at : ℕ) (early : i < m) (here : at ≡ row i) where
  pub at-inside : at < length nodes
  at-inside = let l = is.inside i (omega arith) in omega (arith, here, l)

  pub at-link : right_of nodes at ≡ Some (row (suc i))
  at-link = ap (right_of nodes) here ∙ is.links i early

  pub next-inside : row (suc i) < length nodes
  next-inside = is.inside (suc i) early

  -- the link leads to the next of the row
  pub next-is : (next : ℕ) → right_of nodes at ≡ Some next → next ≡ row (suc i)
  next-is next e = same_Some _ _ (sym e ∙ at-link)

  -- and that is the end just where it is q
  pub at-end : row (suc i) ≡ q → m ≡ suc i
  at-end e = elim (cases_eq m (suc i)) [ inl s ↦ s | inr ne ↦ absurd (is.apart (suc i) (omega arith) e) ]

  pub before-end : row (suc i) ≢ q → suc i < m
  before-end ne = elim (cases_eq m (suc i)) [ inl s ↦ absurd (ne (ap row (sym s) ∙ is.end)) | inr other ↦ omega arith ]

  pub far-next : (next : ℕ) (width offset : ℤ) → next ≡ row (suc i) → width ≡ far nodes row i → offset ≡ (node_at nodes next).x → width +ℤ offset ≡ far nodes row (suc i)
  far-next next width offset is_next far_is offset_is = ap₂ ◌+ℤ◌ far_is (offset_is ∙ ap (λ (u : ℕ). (node_at nodes u).x) is_next)
