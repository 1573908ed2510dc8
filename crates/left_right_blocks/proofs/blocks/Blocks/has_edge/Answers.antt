use Rattle.std.proofs.Common.{ℕ, ◌∙◌, sym, subst, inl}
use Rattle.chained_lists.specs.Held.{BeginsWith}
use Rattle.left_right_blocks.proofs.Dropping.{begins_some}
use Rattle.left_right_blocks.proofs.blocks.Blocks.has_edge.Goals as goal

pub returns-then-is_some : goal.returns-then-is_some
returns-then-is_some c = λ lists h.
    inl (subst (λ p. (x : ℕ) × BeginsWith (lists p) x) c.from.ensures (begins_some c.first.result (lists c.from.result) (c.first.ensures.first lists h) (sym c.is_some.ensures ∙ c.if-is_some.true)))
