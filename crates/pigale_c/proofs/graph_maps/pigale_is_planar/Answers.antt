-- A map or a witness was found.
use Rattle.pigale_c.specs.declared.outcome.Outcome.TheVariants.{Served, NotPlanar}
use Rattle.pigale_c.proofs.graph_maps.pigale_is_planar.Goals as goal

pub returns-in-Ok-Map : goal.returns-in-Ok-Map
returns-in-Ok-Map c =
    let said = c.in-Ok-Map.ensures in
    let found = rw c.in-Ok-Map.field-0-is at said.found in
    record {
      outcome = Served;
      right = (said.given, said.enough, (found.0, found.1, (c.in-Ok-Map.field-0-0, found.2)));
      status_is = c.report.ensures.status;
      numbers_are = c.report.ensures.numbers;
    }

pub returns-in-Ok-NotPlanar : goal.returns-in-Ok-NotPlanar
returns-in-Ok-NotPlanar c =
    let said = c.in-Ok-NotPlanar.ensures in
    let found = rw c.in-Ok-NotPlanar.field-0-is at said.found in
    record {
      outcome = NotPlanar c.in-Ok-NotPlanar.witness.kind;
      right = (said.given, said.enough, (found.0, found.1, (c.in-Ok-NotPlanar.witness.branch, c.in-Ok-NotPlanar.witness.paths, found.2)));
      status_is = c.report-in-Ok-NotPlanar.ensures.status;
      numbers_are = c.report-in-Ok-NotPlanar.ensures.numbers;
    }
