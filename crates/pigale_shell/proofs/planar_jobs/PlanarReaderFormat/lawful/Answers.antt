use Rattle.planar_code.specs.Reading.{IsReading}
use Rattle.planar_code.proofs.ProgressLemmas.{Progress-length, Progress-begins}
use Rattle.planar_code.proofs.EndLemmas.{Progress-ends, reading-begins}
use Rattle.pigale_shell.specs.Lines.{ending_of}
use Rattle.pigale_shell.proofs.PlanarLemmas.{ends_here}
use Rattle.pigale_shell.proofs.planar_jobs.PlanarReaderFormat.lawful.Goals as goal

pub returns-clause-place_is : goal.returns-clause-place_is
returns-clause-place_is c = λ format consumed records progress. Progress-length consumed records format.reader progress

pub returns-clause-is_read : goal.returns-clause-is_read
returns-clause-is_read c = λ format consumed records progress within. ends_here (λ ending. IsReading consumed records ending) format.reader (Progress-ends consumed records format.reader progress within)

pub returns-clause-begins : goal.returns-clause-begins
returns-clause-begins c = λ format consumed records tail progress within. Progress-begins consumed records format.reader tail progress within

pub returns-clause-has : goal.returns-clause-has
returns-clause-has c = λ input records ending reading. reading-begins input records (ending_of ending) reading
