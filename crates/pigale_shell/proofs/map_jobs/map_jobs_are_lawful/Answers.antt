use Rattle.pigale_shell.specs.declared.map_jobs.MapJob.TheVariants.{Count, Shift, Schnyder, Bars, Convex, Rect}
use Rattle.pigale_shell.proofs.map_jobs.map_jobs_are_lawful.Goals as goal

pub returns : goal.returns
returns c = elim [
  | Count ↦ c.lawful.ensures
  | Shift ↦ c.lawful-2.ensures
  | Schnyder ↦ c.lawful-3.ensures
  | Bars ↦ c.lawful-4.ensures
  | Convex ↦ c.lawful-5.ensures
  | Rect ↦ c.lawful-6.ensures
]
