use Rattle.pg_perm.proofs.Repeats.{IsPlaces, IsFoundFrom}
use Rattle.pg_perm.proofs.repeated_image.first_repeat.Given as goal

abbrev pub invariant-loop-i : goal.invariant-loop-i
invariant-loop-i l = IsPlaces l.images l.place.items l.i × IsFoundFrom l.images l.i l.found
