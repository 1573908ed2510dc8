-- What is told of a job by its words alone.
use Rattle.std.specs.Prelude.{◌<◌, ◌≤◌}
use Rattle.pigale_words.specs.declared.job.Job.{Job}
use Rattle.pigale_words.specs.declared.job.Job.TheVariants.{Gen}

-- a map that it makes has from 3 to 4095 vertices
abbrev pub HasSize : Job → Type 0
HasSize (Gen size number) = (3 ≤ size) × (size < 4096)
HasSize job = Unit {0}
