-- The words so far have the shapes of their pieces.
use Rattle.std.specs.Prelude.{ℕ, ◌<◌, slice_index_or}
use Rattle.figure_text.specs.declared.front_pieces.Piece.TheVariants.{Row}
use Rattle.figure_text.specs.Words.{word_at}
use Rattle.figure_text.specs.Pieces.{Fits}
use Rattle.figure_text.proofs.front_pieces.have_shapes.Given as goal

abbrev pub invariant-loop-k : goal.invariant-loop-k
invariant-loop-k l = (i : ℕ) → i < l.k → Fits l.place (slice_index_or l.pieces i Row) (word_at l.words i)
