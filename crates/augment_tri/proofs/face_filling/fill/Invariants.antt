use Rattle.augment_tri.specs.Growing.{IsFillable, IsFilled, IsGrown}
use Rattle.augment_tri.proofs.face_filling.fill.Given as goal

abbrev pub invariant-loop-d : goal.invariant-loop-d
invariant-loop-d l = record {
  fillable : IsFillable l.map;
  grown : IsGrown l.fn.map l.map;
  filled : IsFilled l.map l.d l.map.lists;
}
