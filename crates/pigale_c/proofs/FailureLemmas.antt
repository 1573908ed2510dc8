-- Failures of calls on records that are not served.
use Rattle.refusals.specs.Conditions.{IfRefused}
use Rattle.refusals.specs.declared.conditions.Refusal.{Refusal}
use Rattle.refusals.specs.declared.conditions.Unserved.{Unserved}
use Rattle.refusals.specs.declared.conditions.Unserved.TheVariants.{Refused, NoMemory}
use Rattle.pigale_c.specs.Failures.{failure_for, Fails}

-- the condition of a call below is the one that the failure names
pub Fails-for : (Given : Type 0) (Breaks : Refusal → Type 0) (unserved : Unserved) → Given → IfRefused Breaks unserved → Fails Given Breaks (failure_for unserved)
Fails-for Given Breaks (Refused refusal) given breaks = (given, breaks)
Fails-for Given Breaks NoMemory given breaks = tt
