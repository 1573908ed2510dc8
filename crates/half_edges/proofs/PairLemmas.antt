-- Twins, where the two darts of one edge come or go and all other records keep theirs; and that twins make
-- adjacency go both ways.
use Rattle.std.proofs.Common.{ℕ, ◌<◌, ◌≡◌, ◌≢◌, Bool, length, List, Some, sym, ap, ◌∙◌, inl, inr, arith}
use Rattle.std.proofs.lemmas.Bool.{cases_eq, cases_Bool}
use Rattle.map_lists.specs.Lists.{Lists}
use Rattle.map_theory.specs.Maps.{HasDart, IsSimpleMap}
use Rattle.half_edges.specs.Arena.{dart_in, twin_of, tail_of, head_of, live_of, IsLinked, IsPaired}
use Rattle.half_edges.specs.declared.dart_records.DartRecord.{DartRecord}
use Rattle.half_edges.specs.declared.dart_records.VertexRecord.{VertexRecord}
use Rattle.half_edges.proofs.ArenaLemmas.{dart_in-live, dart_in-dead, IsDartAt-from, dart-lt, live-lt}

-- the records of d and its twin are now live, or now not, and all else of tails and lives stays; twins stay
pub record IsEdgeSet (old new : List DartRecord) (d : ℕ) (live : Bool) : Type 0 where
  pub count : length new ≡ length old
  pub twins : (z : ℕ) → twin_of new z ≡ twin_of old z
  pub live_here : live_of new d ≡ live
  pub live_twin : live_of new (twin_of old d) ≡ live
  pub live_other : (z : ℕ) → z ≢ d → z ≢ twin_of old d → live_of new z ≡ live_of old z
  pub tail_other : (z : ℕ) → z ≢ d → z ≢ twin_of old d → tail_of new z ≡ tail_of old z

module _ (old new : List DartRecord) (d : ℕ) (live : Bool) (s : IsEdgeSet old new d live) (d_in : d < length old) (paired : (z : ℕ) → z < length old → IsPaired old z) where
  twin_not_twin : (z : ℕ) → z < length old → z ≢ d → twin_of old z ≢ twin_of old d
  twin_not_twin z l other e = other (sym (paired z l).back ∙ ap (λ y. twin_of old y) e ∙ (paired d d_in).back)

  twin_not_d : (z : ℕ) → z < length old → z ≢ twin_of old d → twin_of old z ≢ d
  twin_not_d z l other e = other (sym (paired z l).back ∙ ap (λ y. twin_of old y) e)

  both : (z : ℕ) → z < length old → live_of new (twin_of old z) ≡ live_of new z
  both z l = grind (arith, cases_eq, live_of, twin_of, twin_not_d, twin_not_twin)

  -- the records are paired as before
  pub paired_after : (z : ℕ) → z < length new → IsPaired new z
  paired_after z l = grind (arith, length, twin_of, both, live_of)

  -- and all other ids have the darts that they had
  pub dart_kept : (z : ℕ) → z ≢ d → z ≢ twin_of old d → dart_in new z ≡ dart_in old z
  dart_kept z not_d not_t = grind (arith, cases_Bool, live_of, live-lt, tail_of, twin_of, twin_not_d, twin_not_twin, dart_in-live, Some, head_of, dart_in-dead)

-- A simple map: adjacency goes both ways by the twins.
pub IsSimpleMap-linked : (lists : Lists) (darts : List DartRecord) (vertices : List VertexRecord) → 0 < length lists → IsLinked (dart_in darts) lists darts vertices → ((d : ℕ) → d < length darts → IsPaired darts d) → IsSimpleMap lists
IsSimpleMap-linked lists darts vertices some h paired =
    let turned : (v u : ℕ) → HasDart lists v u → (d : ℕ) × (dart_in darts d ≡ Some (v, u)) × (dart_in darts (twin_of darts d) ≡ Some (u, v)) =
    λ v u has.
    let i = h.has_id v u has in
    let at = IsDartAt-from darts i.0 v u i.1 in
    let pair = paired i.0 (dart-lt darts i.0 v u i.1) in (
      i.0,
      i.1,
      dart_in-live darts (twin_of darts i.0) (pair.both ∙ at.live) ∙ ap (λ y. Some (y, tail_of darts (twin_of darts (twin_of darts i.0)))) at.head
          ∙ ap (λ y. Some (u, y)) (ap (λ y. tail_of darts y) pair.back ∙ at.tail),
    ) in
    let back : (v u : ℕ) → HasDart lists v u → HasDart lists u v = λ v u has. let t = turned v u has in h.is_dart (twin_of darts t.0) u v t.2 in
    record {
      some_vertex = some;
      in_range = λ v u has. (back v u has).0;
      no_loop = λ v u has same.
          let t = turned v u has in
          (paired t.0 (dart-lt darts t.0 v u t.1)).other
          (h.one_id (twin_of darts t.0) t.0 v u (t.2 ∙ ap (λ y. Some (y, v)) same ∙ ap (λ y. Some (v, y)) (sym same)) t.1);
      no_repeat = h.distinct;
      both_ways = back;
    }
