use Rattle.pg_perm.proofs.Perms.{IsAt}
use Rattle.pg_perm.proofs.perm.Perm.same_orbit.Given as goal

abbrev pub invariant-loop-step : goal.invariant-loop-step
invariant-loop-step l = IsAt l.self-inside.images.items l.a l.b l.x l._step
