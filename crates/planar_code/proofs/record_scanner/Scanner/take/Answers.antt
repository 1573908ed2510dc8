-- The next bytes pass, or stop the scanner.
use Rattle.planar_code.specs.declared.record_scanner.Scanned.TheVariants.{More, Ended, Bad}
use Rattle.planar_code.proofs.ScansLemmas.{Scans-rest}
use Rattle.planar_code.proofs.record_scanner.Scanner.take.Goals as goal

pub loop-taken-preserved : goal.loop-taken-preserved
loop-taken-preserved c =
    Scans-rest c.args.self.now c.loop-taken.self c.advance.new.self c.args.piece.now c.loop-taken.taken c.advance.result (More c.in-More.k) c.in-More.is c.loop-taken.invariant c.advance.ensures.scans

pub returns-in-Ended-clause-scans : goal.returns-in-Ended-clause-scans
returns-in-Ended-clause-scans c =
    Scans-rest c.args.self.now c.loop-taken.self c.advance.new.self c.args.piece.now c.loop-taken.taken c.advance.result (Ended c.in-Ended.k) c.in-Ended.is c.loop-taken.invariant c.advance.ensures.scans

pub returns-in-Bad-clause-scans : goal.returns-in-Bad-clause-scans
returns-in-Bad-clause-scans c =
    Scans-rest c.args.self.now c.loop-taken.self c.advance.new.self c.args.piece.now c.loop-taken.taken c.advance.result (Bad c.in-Bad.k) c.in-Bad.is c.loop-taken.invariant c.advance.ensures.scans
