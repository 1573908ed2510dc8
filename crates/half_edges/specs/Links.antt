-- What one write to the records of an arena changes.
use Rattle.std.specs.Prelude.{ℕ, ◌+◌, ◌*◌, ◌<◌, ◌≤◌, ◌≡◌, ◌≢◌, true, false, List, length}
use Rattle.half_edges.specs.Arena.{record_at, vertex_at, twin_of, next_of, prev_of, tail_of, live_of, IsPaired, AreFree}
use Rattle.half_edges.specs.declared.dart_records.DartRecord.{DartRecord}
use Rattle.half_edges.specs.declared.dart_records.VertexRecord.{VertexRecord}

-- the record of d was put between e and n, round this tail
pub record IsSpliced (old new : List DartRecord) (d e n tail : ℕ) : Type 0 where
  pub count : length new ≡ length old
  pub next_here : next_of new d ≡ n
  pub next_before : next_of new e ≡ d
  pub next_other : (z : ℕ) → z ≢ d → z ≢ e → next_of new z ≡ next_of old z
  pub prev_here : prev_of new d ≡ e
  pub prev_after : prev_of new n ≡ d
  pub prev_other : (z : ℕ) → z ≢ d → z ≢ n → prev_of new z ≡ prev_of old z
  pub twins : (z : ℕ) → twin_of new z ≡ twin_of old z
  pub tail_here : tail_of new d ≡ tail
  pub tail_other : (z : ℕ) → z ≢ d → tail_of new z ≡ tail_of old z
  pub live_here : live_of new d ≡ true
  pub live_other : (z : ℕ) → z ≢ d → live_of new z ≡ live_of old z

-- the record of d was taken out from between the previous and the next one
pub record IsUnspliced (old new : List DartRecord) (d : ℕ) : Type 0 where
  pub count : length new ≡ length old
  pub next_before : next_of new (prev_of old d) ≡ next_of old d
  pub next_other : (z : ℕ) → z ≢ prev_of old d → next_of new z ≡ next_of old z
  pub prev_after : prev_of new (next_of old d) ≡ prev_of old d
  pub prev_other : (z : ℕ) → z ≢ next_of old d → prev_of new z ≡ prev_of old z
  pub twins : (z : ℕ) → twin_of new z ≡ twin_of old z
  pub tails : (z : ℕ) → tail_of new z ≡ tail_of old z
  pub dead : live_of new d ≡ false
  pub live_other : (z : ℕ) → z ≢ d → live_of new z ≡ live_of old z

-- the free edge of d and t was put before the free ones
pub record IsThreaded (old new : List DartRecord) (d t free spare : ℕ) : Type 0 where
  pub count : length new ≡ length old
  pub next_here : next_of new d ≡ free
  pub prev_here : prev_of new d ≡ spare
  pub prev_twin : prev_of new t ≡ spare
  pub other : (z : ℕ) → z ≢ d → z ≢ t → record_at new z ≡ record_at old z
  pub twins : (z : ℕ) → twin_of new z ≡ twin_of old z
  pub tails : (z : ℕ) → tail_of new z ≡ tail_of old z
  pub lives : (z : ℕ) → live_of new z ≡ live_of old z

-- the record of one vertex is another, with this first dart and degree
pub record IsVertexSet (old new : List VertexRecord) (v first degree : ℕ) : Type 0 where
  pub count : length new ≡ length old
  pub first_is : (vertex_at new v).first ≡ first
  pub degree_is : (vertex_at new v).degree ≡ degree
  pub other : (w : ℕ) → w ≢ v → vertex_at new w ≡ vertex_at old w

-- edges were put before the free ones, of which there were `spare`, in records behind all others
pub record IsFreer (old new : List DartRecord) (free spare more : ℕ) : Type 0 where
  pub count : length new ≡ length old + 2 * more
  pub kept : (z : ℕ) → z < length old → record_at new z ≡ record_at old z
  pub dead : (z : ℕ) → length old ≤ z → live_of new z ≡ false
  pub paired : (z : ℕ) → z < length new → IsPaired new z
  pub threaded : AreFree new free (spare + more)
