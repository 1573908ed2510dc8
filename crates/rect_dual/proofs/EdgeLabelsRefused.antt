-- A label that a wrong body would give: the clause refuses it.
use Rattle.std.proofs.Common.{◌≢◌, ℕ, refl, inl, inr}
use Rattle.rect_runs.specs.Corners.{End}
use Rattle.rect_dual.specs.Labellings.{IsLabelOf}
use Rattle.rect_dual.specs.declared.labels.label_types.Label.{Label}
use Rattle.rect_dual.specs.declared.labels.label_types.Label.TheVariants.{Frame}

-- an edge of the outer face, read from its other end, is a run or a rise
one_dart_of_a_frame_edge : (end : ℕ → ℕ → End) (label : Label) → label ≢ Frame → ¬ IsLabelOf 0 1 2 3 end 1 0 label
one_dart_of_a_frame_edge end label other w = other (w.frame (inr (inl (refl, refl))))
