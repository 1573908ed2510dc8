-- The numbers so far are within their ranges.
use Rattle.std.specs.Prelude.{ℕ, ◌<◌, slice_index_or}
use Rattle.figure_text.specs.declared.front_pieces.Piece.TheVariants.{Row}
use Rattle.figure_text.specs.Words.{word_at}
use Rattle.figure_text.specs.Pieces.{IsWithin}
use Rattle.figure_text.proofs.front_pieces.are_within.Given as goal

abbrev pub invariant-loop-k : goal.invariant-loop-k
invariant-loop-k l = (i : ℕ) → i < l.k → IsWithin (slice_index_or l.pieces i Row) (word_at l.words i)
