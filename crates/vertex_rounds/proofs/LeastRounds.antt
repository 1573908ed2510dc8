-- Rounds of a vertex that look for the least neighbour to which its dart passes a test.
use Rattle.std.proofs.Common.{◌≡◌, ℕ, ◌+◌, ◌-◌, ◌<◌, Bool, List, length, Option, Some, None, get_or, sym, subst, arith}
use Rattle.map_lists.specs.declared.ids.VertexId.{VertexId}
use Rattle.map_lists.specs.declared.ids.DartId.{DartId}
use Rattle.map_theory.specs.Maps.{list_of}
use Rattle.half_edges.specs.Map.{Map, IsHalfMap, dart_at}
use Rattle.vertex_rounds.specs.Rounds.{IsLeastOf, IsLaterDart}
use Rattle.vertex_rounds.specs.First.{Passes, Fails, IsLeastOrNone, FindsLeast}
use Rattle.vertex_rounds.proofs.LeastLemmas.{place_in}
use Rattle.vertex_rounds.proofs.RoundLemmas.{head_at, LeavesFrom, place_at, at_place, place_at-later, LeavesFrom-later}

-- the round of v stands at dart d, and `best` is the least neighbour among those before to which the dart passes
pub record IsRound (map : Map) (says : DartId → Bool → Type 0) (v d : ℕ) (best : Option VertexId) : Type 0 where
  pub dart : LeavesFrom map v d
  pub least : IsLeastOf (Passes map says v) (Fails map says v) (list_of map.lists v) (place_at map v d) best

-- how much of the round is left
abbrev pub left_of_round : Map → ℕ → ℕ → ℕ
left_of_round map v d = length (list_of map.lists v) - place_at map v d

pub later_left : (map : Map) (v d : ℕ) → IsHalfMap map → LeavesFrom map v d → (e : ℕ) → IsLaterDart map v (head_at map d) e → left_of_round map v e < left_of_round map v d
later_left map v d h dart e later =
    let within = (at_place map h v d dart).0 in
    let next = place_at-later map v d e later in
    omega arith

-- with one entry more the least is another
abbrev pub IsBetter : Map → (DartId → Bool → Type 0) → ℕ → ℕ → Option VertexId → Option VertexId → Type 0
IsBetter map says v u best new =
    (us : List ℕ) (k : ℕ) → get_or us k 0 ≡ u → IsLeastOf (Passes map says v) (Fails map says v) us k best → IsLeastOf (Passes map says v) (Fails map says v) us (k + 1) new

module _ (map : Map) (says : DartId → Bool → Type 0) (v d : ℕ) where
  module _ (h : IsHalfMap map) (best new : Option VertexId) (r : IsRound map says v d best) where
    -- at the next
    pub IsRound-later : (e : ℕ) → IsLaterDart map v (head_at map d) e → IsBetter map says v (head_at map d) best new → IsRound map says v e new
    IsRound-later e later better = record {
      dart = LeavesFrom-later map v d e later;
      least =
          subst (λ (k : ℕ). IsLeastOf (Passes map says v) (Fails map says v) (list_of map.lists v) k new) (sym (place_at-later map v d e later))
          (better (list_of map.lists v) (place_at map v d) (at_place map h v d r.dart).1 r.least);
    }

  module _ (h : IsHalfMap map) where
    -- what fails at all entries of v's list fails at all darts from v
    fails_from : (u i : ℕ) → get_or (list_of map.lists v) i 0 ≡ u → Fails map says v (get_or (list_of map.lists v) i 0) → Fails map says v u
    fails_from u i e f = subst (Fails map says v) e f

    at_entry : (u : ℕ) (e : DartId) → dart_at map e.0 ≡ Some (v, u) → (i : ℕ) × (i < length (list_of map.lists v)) × (get_or (list_of map.lists v) i 0 ≡ u)
    at_entry u e is = place_in (list_of map.lists v) u (h.is_dart e.0 v u is).1

    -- the least of all entries is the least
    of_all : (k : ℕ) (best : Option VertexId) → k ≡ length (list_of map.lists v) → IsLeastOf (Passes map says v) (Fails map says v) (list_of map.lists v) k best → IsLeastOrNone map says v best
    of_all k None n l = λ u e is. let at = at_entry u e is in fails_from u at.0 at.2 (l at.0 (rw n at.1)) e is
    of_all k (Some x) n l = (
      l.0,
      λ t less e is. let at = at_entry t e is in fails_from t at.0 at.2 (l.1 at.0 (rw n at.1) (let same = at.2 in omega arith)) e is,
    )

    -- and behind the last
    pub IsRound-last : (best new : Option VertexId) → IsRound map says v d best → place_at map v d + 1 ≡ length (list_of map.lists v) → IsBetter map says v (head_at map d) best new → FindsLeast map says v new
    IsRound-last best new r last better = record {
      least = of_all (place_at map v d + 1) new last (better (list_of map.lists v) (place_at map v d) (at_place map h v d r.dart).1 r.least);
    }
