-- What `pigale` says of a run over memory.
use Rattle.std.proofs.Common.{◌≡◌, ℕ, List, [], Option, Some, inl, inr, arith}
use Rattle.pg_io.specs.Io.{WhereTold, HasRisen}
use Rattle.pigale_shell.specs.JobInput.{left_of}
use Rattle.pigale_shell.specs.declared.job_kinds.JobKind.{JobKind}
use Rattle.pigale_c.specs.Run.{OfJob}

-- a fact of a run, without what is left in the source
pub without_left : (named : Option JobKind) (input : List ℕ) (left' : Option (List ℕ)) (Holds : JobKind → List ℕ → Type 0) → ((job : JobKind) × (named ≡ Some job) × WhereTold (left_of job (Some input)) (λ given. (left_of job left' ≡ Some []) × Holds job given)) → OfJob named input Holds
without_left named input left' Holds said = (said.0, said.1, λ given told. (said.2 given told).1)

-- a count that is 0 has not risen
pub not_risen : (before after : ℕ) → before ≡ 0 → after ≡ before → ¬ HasRisen before after
not_risen before after none same (inl more) = omega (arith, none, same, more)
not_risen before after none same (inr most) = omega (arith, none, same, most)
