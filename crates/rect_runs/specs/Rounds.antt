-- Ends of edges as they stand round a vertex, clockwise.
use Rattle.std.specs.Prelude.{ℕ, suc, ◌<◌, ◌≡◌, ◌≢◌, ◌⊎◌, List, ◌++◌, length, take, drop, replicate, slice_index_or}
use Rattle.rect_runs.specs.Corners.{End, run_in, rise_out, run_out, rise_in, Follows}

-- from some entry on, cyclically, stand leaving rises, leaving runs, entering rises and entering runs, at least one of each
pub record IsOnceRound (ends : List End) : Type 0 where
  pub start : ℕ
  pub within : start < length ends
  pub rises_out : ℕ
  pub runs_out : ℕ
  pub rises_in : ℕ
  pub runs_in : ℕ
  pub order : drop start ends ++ take start ends ≡ replicate (suc rises_out) rise_out ++ (replicate (suc runs_out) run_out ++ (replicate (suc rises_in) rise_in ++ replicate (suc runs_in) run_in))

-- the entries of a list, one after another from a place on, cyclically
abbrev pub from_place : List End → ℕ → List End
from_place ends start = drop start ends ++ take start ends

-- Of two entries the second may stand directly behind the first: as it, or as comes next, but that no leaving rise stands behind an entering run.
pub record MayFollow (a b : End) : Type 0 where
  pub follows : Follows a b
  pub inside : (a ≢ run_in) ⊎ (b ≢ rise_out)

-- Where from some entry on, cyclically, a leaving rise is first, an entering run last, and each entry may follow the one before it, the entries stand once round.
abbrev pub OnceRound : Type 0
OnceRound =
    (ends : List End) (start last : ℕ) → start < length ends → slice_index_or (from_place ends start) 0 run_in ≡ rise_out → suc last ≡ length ends → slice_index_or (from_place ends start) last rise_out ≡ run_in
    → ((i : ℕ) → suc i < length ends → MayFollow (slice_index_or (from_place ends start) i run_in) (slice_index_or (from_place ends start) (suc i) run_in)) → IsOnceRound ends
