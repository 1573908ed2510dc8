use Rattle.std.proofs.Common.{◌≡◌, ◌+◌, ◌∷◌, max, ap, ap₂, ◌∙◌, sym, subst, slice_index}
use Rattle.left_right_blocks.specs.Blocks.{edges_in, IsPart}
use Rattle.left_right_blocks.specs.Parts.{block_of, blocks_of}
use Rattle.left_right_blocks.specs.Begun.{first_height, IsDeepest}
use Rattle.left_right_blocks.proofs.Deepest.{deepest_is}
use Rattle.left_right_blocks.proofs.blocks.Blocks.deepest.Goals as goal

pub returns : goal.returns
returns c = λ lists stacks low a b part.
    let height = slice_index c.args.heights.now in
    let edges = c.args.self.now.edges in
    let k = c.in_ok-b.b in
    let begin = c.in_ok-b.ensures.first stacks b in
    let is = ap (blocks_of edges lists) begin.1 in
    let one : c.first_height-one.result ≡ first_height height (lists k) = c.first_height-one.ensures lists a ∙ ap (λ p. first_height height (lists p)) c.from.ensures in
    let other = c.first_height-other.ensures lists a ∙ ap (λ p. first_height height (lists p)) c.other.ensures in
    let d : c.max-deepest.result ≡ max (first_height height (lists k)) (first_height height (lists (k + edges))) = c.max-deepest.ensures ∙ ap₂ max one other in
    subst (λ bs. IsDeepest height (edges_in bs) c.max-deepest.result) (sym is)
    (subst (IsDeepest height (edges_in (block_of edges lists k ∷ blocks_of edges lists begin.0))) (sym d)
    (deepest_is height low (block_of edges lists k) (blocks_of edges lists begin.0) (subst (IsPart height low) is part)))
