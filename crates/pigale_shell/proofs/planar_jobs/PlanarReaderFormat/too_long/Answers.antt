use Rattle.planar_code.proofs.ProgressLemmas.{Progress-too_long}
use Rattle.pigale_shell.proofs.planar_jobs.PlanarReaderFormat.too_long.Goals as goal

pub returns-clause-reading : goal.returns-clause-reading
returns-clause-reading c = λ consumed records progress full byte tail. Progress-too_long consumed records c.args.self.now.reader byte tail progress full
