use Rattle.std.proofs.Common.{length, ◌-◌, ◌∙◌, subst, arith}
use Rattle.wood_laws.proofs.WoodLemmas.{ranked, size}
use Rattle.wood_laws.specs.WoodRegionsLaws.{StandsAtCoordinates}
use Rattle.wood_laws.proofs.CountLemmas.{coordinates_are, drawn_point}
use Rattle.wood_laws.proofs.wood_regions.drawn_at_coordinates.Goals as goal

pub returns : goal.returns
returns c = λ lists base at parent points v triangulation order drawn parents inner.
    let r = ranked lists base at drawn.steps parent triangulation order drawn.order parents v inner in
    let s = size lists base at drawn.steps parent triangulation order drawn.order parents in
    let low = r.1 in
    let high = r.2 in
    subst (StandsAtCoordinates lists base parent points) r.3 record {
      x = _;
      y = _;
      z = _;
      coordinates = coordinates_are lists base at drawn.steps parent triangulation order drawn.order parents r.0 (r.1, r.2);
      place_is = drawn.placed r.0 (omega arith) ∙ drawn_point drawn.steps (length at - 2) r.0 (λ e. absurd (omega arith));
    }
