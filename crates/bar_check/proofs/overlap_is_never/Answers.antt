use Rattle.bar_check.proofs.OverlapLemmas.{none_overlap}
use Rattle.bar_check.proofs.overlap_is_never.Goals as goal

pub returns : goal.returns
returns c = λ lists fig width e f simple v.
    none_overlap lists fig v.1 simple width v.3 v.4 e.a.0 e.b.0 f.a.0 f.b.0 v.5.rest.rest.rest.here
