use Rattle.convex_laws.proofs.Readings.{rising_woods_draw}
use Rattle.convex_laws.proofs.face_regions.rising_woods_draw.Goals as goal

pub returns : goal.returns
returns c = rising_woods_draw
