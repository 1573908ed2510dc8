-- What a piece of bytes does to a reader of planar_code, and how its input ends, in the words of a run.
use Rattle.std.proofs.Common.{◌≡◌, [], ◌∷◌, ℕ, ◌-◌, true, List, Result, Ok, Err, IfOk, OnErr, inl, inr, arith, take}
use Rattle.map_lists.specs.Lists.{Lists}
use Rattle.planar_code.specs.Reading.{Ending as SpokenEnding, IsRecord}
use Rattle.planar_code.specs.Ends.{ending_by, ending_here}
use Rattle.planar_code.specs.State.{State}
use Rattle.planar_code.specs.Taken.{Takes}
use Rattle.planar_code.specs.declared.record_reader.Taken.{Taken}
use Rattle.planar_code.specs.declared.record_reader.Taken.TheVariants.{More, Ended, Bad}
use Rattle.planar_code.proofs.PieceLemmas.{joined-moves, ended-moves}
use Rattle.pigale_shell.specs.Lines.{ending_of}
use Rattle.pigale_shell.specs.PlanarCode.{end_by, end_here, IsGiven}

-- a record has from 1 to 4095 lists
pub IsGiven-record : (bytes : List ℕ) (lists : Lists) → IsRecord bytes lists → IsGiven lists
IsGiven-record bytes lists (inl narrow) = record { some_list = narrow.some_list; few_lists = (let few = narrow.few_lists in omega arith) }
IsGiven-record bytes lists (inr wide) = record { some_list = wide.some_list; few_lists = wide.few_lists }

-- a header may come at the front alone, whatever the bytes were
pub front-kept : {E : Type 0} (old new : State) (piece : List ℕ) (taken : Result Taken E) → IfOk taken (λ t. Takes old piece t new) → OnErr taken (new ≡ old) → (old.header_may_come ≡ true → old.start ≡ 0) → new.header_may_come ≡ true → new.start ≡ 0
front-kept old new piece (Ok More) takes kept front = (joined-moves old new piece front takes).front
front-kept old new piece (Ok (Ended k)) takes kept front = (ended-moves old new piece k front takes).0.front
front-kept old new piece (Ok (Bad k place)) takes kept front = (joined-moves old new (take (k - 1) piece) front (takes.2, takes.3.2)).front
front-kept old new piece (Err e) takes kept front = rw kept front

-- it is the ending that the reading has
ends_by : (P : SpokenEnding → Type 0) (pending : List ℕ) (start : ℕ) → P (ending_by pending start) → P (ending_of (end_by pending start))
ends_by P [] start ends = ends
ends_by P (b ∷ pending) start ends = ends

pub ends_here : (P : SpokenEnding → Type 0) (reader : State) → P (ending_here reader) → P (ending_of (end_here reader))
ends_here P reader ends = ends_by P reader.pending reader.start ends
