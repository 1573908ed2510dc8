-- Why a call has no answer.
use Rattle.refusals.specs.declared.conditions.Refusal.{Refusal}
use Rattle.refusals.specs.declared.conditions.Unserved.{Unserved}
use Rattle.refusals.specs.declared.conditions.Unserved.TheVariants as unserved
use Rattle.pigale_c.specs.declared.outcome.Failure.{Failure}
use Rattle.pigale_c.specs.declared.outcome.Failure.TheVariants.{BadEdge, Refused, NoMemory, BadArgument}

-- the failure of a call on a record that is not served
abbrev pub failure_for : Unserved → Failure
failure_for (unserved.Refused refusal) = Refused refusal
failure_for unserved.NoMemory = NoMemory

-- The failure of a call on arguments that are as it takes them is a condition that the record breaks, or out of memory, which says nothing; only that of others is `BadArgument`.
abbrev pub Fails : Type 0 → (Refusal → Type 0) → Failure → Type 0
Fails Given Breaks (BadEdge fault) = ⊥
Fails Given Breaks (Refused refusal) = Given × Breaks refusal
Fails Given Breaks NoMemory = Unit {0}
Fails Given Breaks BadArgument = ¬ Given

-- the failure of a call that only looks at its arguments: `BadArgument` only where they are not as it takes them
abbrev pub IsBadOnly : Type 0 → Failure → Type 0
IsBadOnly Given (BadEdge fault) = ⊥
IsBadOnly Given (Refused refusal) = ⊥
IsBadOnly Given NoMemory = Unit {0}
IsBadOnly Given BadArgument = ¬ Given
