-- The beginning, with no vertex done, and sides at the end.
use Rattle.std.proofs.Common.{◌≡◌, ℕ, Bool, List, sym, subst}
use Rattle.left_right_blocks.specs.Blocks.{Block}
use Rattle.left_right_blocks.specs.Begun.{IsBegun}
use Rattle.left_right_blocks.specs.Ties.{AreKept}
use Rattle.left_right_blocks.specs.States.{IsState}
use Rattle.left_right_blocks.specs.declared.blocks.Blocks.{Blocks}
use Rattle.left_right_blocks.specs.declared.ties.Tie.{Tie}
use Rattle.left_right_blocks.proofs.Stated.{begun, state_begun}
use Rattle.left_right_sides.specs.Standing.{Rooted, IsStanding, IsSearchTree, MeetsAll}
use Rattle.left_right_sides.proofs.Finding.{standing_none, all_met}

-- no vertex is done
pub begins : (r : Rooted) (root more : ℕ) (low : ℕ → ℕ) (blocks : Blocks) → IsSearchTree r root → IsBegun r.m more blocks → IsState blocks (begun r.m) × IsStanding r 0 low (begun r.m) blocks.ties.items
begins r root more low blocks t b =
    (state_begun r.m more blocks b, subst (IsStanding r 0 low (begun r.m)) (sym b.ties) (standing_none r low t.numbered))

-- all are done
pub sides_met : (r : Rooted) (root k : ℕ) (low : ℕ → ℕ) (P : ℕ → List Block) (ties : List Tie) (side : ℕ → Bool) → IsSearchTree r root → k ≡ r.n → IsStanding r k low P ties → AreKept side ties → MeetsAll r side
sides_met r root k low P ties side t e s kept =
    all_met r low P ties side (subst (λ j. IsStanding r j low P ties) e s) kept (λ u l some. t.tree.in_range (r.parent u) u (t.tree.both_ways u (r.parent u) (t.tree.forest.edges u some)))
