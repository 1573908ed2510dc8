use Rattle.schnyder_wood.specs.Parents.{kind}
use Rattle.schnyder_wood.specs.Boundaries.{NotesSteps}
use Rattle.schnyder_wood.proofs.schnyder_regions.boundary_paths.note_path.Given as goal

abbrev pub invariant-loop-passed : goal.invariant-loop-passed
invariant-loop-passed l = NotesSteps l.wood (kind l.colour) l.fn.v.0 l.passed l.at.0 l.ups
