use Rattle.std.proofs.Common.{◌≢◌, ℕ, List, ◌∙◌, subst, arith, slice_index}
use Rattle.std.specs.Bool.{MatchBool}
use Rattle.chained_lists.specs.Held.{Holds}
use Rattle.left_right_blocks.specs.Parts.{block_of}
use Rattle.left_right_blocks.specs.Trims.{AreTied, AreDropped, HasEdge, IsEmpty}
use Rattle.left_right_blocks.proofs.Trimming.{both_dropped}
use Rattle.left_right_blocks.proofs.blocks.Blocks.drop_block.Goals as goal

pub returns-clause-dropped : goal.returns-clause-dropped
returns-clause-dropped c = λ lists a tied l.
    let height = slice_index c.args.heights.now in
    let edges = c.args.self.now.edges in
    let first = c.drop_ends.new.self in
    let second = c.drop_ends-2.new.self in
    let e1 = c.in_ok-drop_ends.ensures.edges in
    let e2 = c.in_ok-drop_ends-2.ensures.edges ∙ e1 in
    let ne : c.from-one.result ≢ c.other-other.result = λ e. (let x = c.from-one.ensures in let y = c.other-other.ensures in omega arith) in
    both_dropped height edges c.args.depth c.args.b c.from-one.result c.other-other.result c.from-one.ensures c.other-other.ensures l lists c.args.self.now.ties.items first.ties.items second.ties.items first.lists second.lists
    (c.in_ok-drop_ends.ensures.dropped lists a tied ne)
    (subst (λ k. (ls : ℕ → List ℕ) → Holds first.lists ls → AreTied k ls first.ties.items → c.other-other.result ≢ c.from-one.result → AreDropped height k c.args.depth c.other-other.result c.from-one.result ls second.lists first.ties.items second.ties.items) e1 c.in_ok-drop_ends-2.ensures.dropped)
    c.has_edge-left.result
    (subst (λ k. (ls : ℕ → List ℕ) → Holds second.lists ls → MatchBool c.has_edge-left.result (HasEdge (block_of k ls c.args.b)) (IsEmpty (block_of k ls c.args.b))) e2 c.has_edge-left.ensures)
