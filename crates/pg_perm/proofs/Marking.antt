-- A list of marks, of which one is set, as marks on numbers.
use Rattle.std.proofs.Common.{ℕ, ◌<◌, Bool, true, false, List, length, set, get_or-set_same, get_or-set_other}
use Rattle.classes.proofs.Marks.{SetsMark}
use Rattle.pg_perm.specs.Marks.{mark}

-- setting an entry sets a mark
pub SetsMark-set : (k : ℕ) (marked : List Bool) (x : ℕ) → x < length marked → SetsMark k (mark marked) (mark (set marked x true)) x
SetsMark-set k marked x l = record {
  here = get_or-set_same marked x true false l;
  elsewhere = λ i in_range other. get_or-set_other marked x i true false other;
}
