use Rattle.std.proofs.Common.{◌≡◌, map}
use Rattle.std.specs.List.{range_with_len}
use Rattle.embed_witnesses.specs.Plain.{chosen_at, plain_path}
use Rattle.embed_witnesses.proofs.plain_witnesses.chosen_branches.as_witness.Given as goal

abbrev pub invariant-loop-i : goal.invariant-loop-i
invariant-loop-i l = l.branch ≡ map (λ i. record { 0 = chosen_at l.chosen i }) (range_with_len 0 l.i)

abbrev pub invariant-loop-p : goal.invariant-loop-p
invariant-loop-p l = l.paths ≡ map (plain_path l.kind l.chosen) (range_with_len 0 l.p)
