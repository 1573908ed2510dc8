-- The free edges of an arena, where records that are live change.
use Rattle.std.proofs.Common.{ℕ, zero, suc, ◌<◌, ◌≤◌, ◌≡◌, false, List, length, Option, Some, sym, ap, ◌∙◌, subst, arith}
use Rattle.map_lists.specs.Lists.{Lists}
use Rattle.map_theory.specs.Maps.{Dart, list_of}
use Rattle.half_edges.specs.Arena.{twin_of, next_of, prev_of, live_of, record_at, IsLinked, IsPaired, AreFree, IsArena, IsWired}
use Rattle.half_edges.specs.declared.dart_records.DartRecord.{DartRecord}
use Rattle.half_edges.specs.declared.dart_records.VertexRecord.{VertexRecord}
use Rattle.half_edges.proofs.ArenaLemmas.{prev_is}

-- what the threads read of a record
pub record IsSameFree (old new : List DartRecord) (z : ℕ) : Type 0 where
  pub live : live_of new z ≡ live_of old z
  pub next : next_of new z ≡ next_of old z
  pub prev : prev_of new z ≡ prev_of old z
  pub twin : twin_of new z ≡ twin_of old z

-- free edges stay free where their records stay
pub AreFree-frame : (old new : List DartRecord) (k : ℕ) → length old ≤ length new → ((z : ℕ) → z < length old → live_of old z ≡ false → prev_of old z < k → IsSameFree old new z) → ((d : ℕ) → d < length old → IsPaired old d) → (j d : ℕ) → j ≤ k → AreFree old d j → AreFree new d j
AreFree-frame old new k count same paired zero d l free = tt
AreFree-frame old new k count same paired (suc j) d l free =
    let here = same d free.0 free.1 (omega (arith, free.2, l)) in
    let pair = paired d free.0 in
    let at_twin = same (twin_of old d) pair.within (pair.both ∙ free.1) (omega (arith, free.3, l)) in (
      omega (arith, free.0, count),
      here.live ∙ free.1,
      here.prev ∙ free.2,
      ap (λ z. prev_of new z) here.twin ∙ at_twin.prev ∙ free.3,
      subst (λ z. AreFree new z j) (sym here.next) (AreFree-frame old new k count same paired j (next_of old d) (omega (arith, l)) free.4),
    )

pub IsWired-arena : (lists : Lists) (darts : List DartRecord) (vertices : List VertexRecord) (edges free spare : ℕ) → IsArena lists darts vertices edges free spare → IsWired lists darts vertices free spare
IsWired-arena lists darts vertices edges free spare a = record { linked = a.linked; simple = a.simple; few_vertices = a.few_vertices; paired = a.paired; threaded = a.threaded }

-- links read only the records of the darts that there are
pub IsLinked-frame : (dart : ℕ → Option Dart) (lists : Lists) (old new : List DartRecord) (vertices : List VertexRecord) → ((z v u : ℕ) → dart z ≡ Some (v, u) → record_at new z ≡ record_at old z) → IsLinked dart lists old vertices → IsLinked dart lists new vertices
IsLinked-frame dart lists old new vertices same h = record {
  distinct = h.distinct;
  is_dart = h.is_dart;
  has_id = h.has_id;
  one_id = h.one_id;
  next_at = λ d v u e. ap (λ (r : DartRecord). dart r.next) (same d v u e) ∙ h.next_at d v u e;
  prev_at = λ d v u e.
      let m = h.next_at d v u e in
      ap (λ (r : DartRecord). prev_of new r.next) (same d v u e) ∙ ap (λ (r : DartRecord). r.prev) (same (next_of old d) v _ m) ∙ h.prev_at d v u e;
  vertex_count = h.vertex_count;
  degree_at = h.degree_at;
  first_at = h.first_at;
}

-- the neighbours of a dart and its vertex are within the records
pub record IsDartWithin (lists : Lists) (darts : List DartRecord) (vertices : List VertexRecord) (d v : ℕ) : Type 0 where
  pub prev : prev_of darts d < length darts
  pub next : next_of darts d < length darts
  pub vertex : v < length vertices
  pub some : 0 < length (list_of lists v)

pub dart_within : (dart : ℕ → Option Dart) (lists : Lists) (darts : List DartRecord) (vertices : List VertexRecord) → IsLinked dart lists darts vertices → ((z v u : ℕ) → dart z ≡ Some (v, u) → z < length darts) → (d v u : ℕ) → dart d ≡ Some (v, u) → IsDartWithin lists darts vertices d v
dart_within dart lists darts vertices h bound d v u some =
    let before = prev_is dart lists darts vertices h d v u some in
    let has = h.is_dart d v u some in
    record {
      prev = bound (prev_of darts d) v before.0 before.1.before;
      next = bound (next_of darts d) v _ (h.next_at d v u some);
      vertex = omega (arith, has.0, h.vertex_count);
      some = omega (arith, has.1.1);
    }

-- the first free edge is within the records
pub free_within : (darts : List DartRecord) (d spare : ℕ) → 0 < spare → AreFree darts d spare → d < length darts
free_within darts d zero l free = absurd (omega (arith, l))
free_within darts d (suc k) l free = free.0
