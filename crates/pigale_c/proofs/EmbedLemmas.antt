-- What is written of maps, orders and witnesses, and failures before it.
use Rattle.std.proofs.Common.{ℕ, ◌≤◌, ◌≡◌, List, ℤ, map, inl, inr, refl, sym, subst}
use Rattle.map_lists.specs.Cuts.{joined, ends_from}
use Rattle.map_lists.specs.declared.ids.VertexId.{VertexId}
use Rattle.graphs.specs.Graphs.{EdgeGraph}
use Rattle.kuratowski.specs.Witnesses.{IsWitness}
use Rattle.kuratowski.specs.declared.witness.Kind.{Kind}
use Rattle.pigale_c.specs.Written.{AreWritten, HasNoRoom}
use Rattle.pigale_c.specs.EdgeFailures.{AreFew, FailsOnEdges, IsGraphOf}
use Rattle.pigale_c.specs.Embedded.{IsGivenGraph, IsSmall, IsEmbedded, IsMapped, IsWitnessPut, IsWitnessThere, number}
use Rattle.pigale_c.specs.declared.edges.EdgeEnds.{EdgeEnds}
use Rattle.pigale_c.specs.declared.outcome.Failure.{Failure}
use Rattle.pigale_c.specs.declared.outcome.Failure.TheVariants.{BadEdge, Refused, NoMemory, BadArgument}
use Rattle.pigale_c.specs.declared.outcome.Outcome.{Outcome}
use Rattle.pigale_c.specs.declared.outcome.Outcome.TheVariants.{Served, Failed, Drawing, Convex, Bars, Rects, Outer, NotPlanar}

pub written_as : (bounds entries bounds' entries' ends neighbours ends' neighbours' : List ℕ) → bounds ≡ bounds' → entries ≡ entries' → AreWritten bounds entries ends neighbours ends' neighbours' → AreWritten bounds' entries' ends neighbours ends' neighbours'
written_as bounds entries bounds' entries' ends neighbours ends' neighbours' b e h =
    subst (λ (us : List ℕ). AreWritten us entries' ends neighbours ends' neighbours') b (subst (λ (us : List ℕ). AreWritten bounds us ends neighbours ends' neighbours') e h)

pub no_room_as : (bounds entries bounds' entries' ends neighbours : List ℕ) → bounds ≡ bounds' → entries ≡ entries' → HasNoRoom bounds entries ends neighbours → HasNoRoom bounds' entries' ends neighbours
no_room_as bounds entries bounds' entries' ends neighbours b e h =
    subst (λ (us : List ℕ). HasNoRoom us entries' ends neighbours) b (subst (λ (us : List ℕ). HasNoRoom bounds us ends neighbours) e h)

-- the paths of a witness that were written
there : (graph : EdgeGraph) (kind told : Kind) (branch : List VertexId) (paths : List (List VertexId)) (ends vertices ends' vertices' : List ℕ) → IsWitness graph kind branch paths → told ≡ kind → AreWritten (ends_from 0 paths) (map number (joined paths)) ends vertices ends' vertices' → IsWitnessThere graph told ends vertices ends' vertices'
there graph kind told branch paths ends vertices ends' vertices' witness is written =
    subst (λ (k : Kind). IsWitnessThere graph k ends vertices ends' vertices') (sym is) (record { branch = branch; paths = paths; witness = witness; written = written })

-- a graph that is not planar is answered by the paths of its witness
pub mapped_by_witness : (n : ℕ) (edges : List EdgeEnds) (graph : EdgeGraph) (kind : Kind) (branch : List VertexId) (paths : List (List VertexId)) (ends vertices ends' vertices' : List ℕ) (outcome : Outcome) → AreFew n edges → 3 ≤ n → IsGraphOf n edges graph → IsWitness graph kind branch paths
    → IsWitnessPut kind paths ends vertices ends' vertices' outcome → IsMapped n edges ends vertices ends' vertices' outcome
mapped_by_witness n edges graph kind branch paths ends vertices ends' vertices' (NotPlanar told) given enough is witness h =
    (given, enough, (graph, is, there graph kind told branch paths ends vertices ends' vertices' witness h.0 h.1))
mapped_by_witness n edges graph kind branch paths ends vertices ends' vertices' (Failed BadArgument) given enough is witness h =
    (inr (graph, is, inr (kind, branch, paths, witness, h.0)), h.1, h.2)
mapped_by_witness n edges graph kind branch paths ends vertices ends' vertices' (Failed NoMemory) given enough is witness h = (tt, h.0, h.1)
mapped_by_witness n edges graph kind branch paths ends vertices ends' vertices' (Failed (BadEdge fault)) given enough is witness h = absurd h
mapped_by_witness n edges graph kind branch paths ends vertices ends' vertices' (Failed (Refused refusal)) given enough is witness h = absurd h
mapped_by_witness n edges graph kind branch paths ends vertices ends' vertices' Served given enough is witness h = absurd h
mapped_by_witness n edges graph kind branch paths ends vertices ends' vertices' (Drawing verdict) given enough is witness h = absurd h
mapped_by_witness n edges graph kind branch paths ends vertices ends' vertices' (Convex verdict) given enough is witness h = absurd h
mapped_by_witness n edges graph kind branch paths ends vertices ends' vertices' (Bars verdict) given enough is witness h = absurd h
mapped_by_witness n edges graph kind branch paths ends vertices ends' vertices' (Rects verdict) given enough is witness h = absurd h
mapped_by_witness n edges graph kind branch paths ends vertices ends' vertices' (Outer verdict) given enough is witness h = absurd h

-- the same, with room for points, which are as they were
pub embedded_by_witness : (n : ℕ) (edges : List EdgeEnds) (graph : EdgeGraph) (kind : Kind) (branch : List VertexId) (paths : List (List VertexId)) (ends vertices ends' vertices' : List ℕ) (xs ys : List ℤ) (outcome : Outcome) → IsGivenGraph n edges xs ys → 3 ≤ n → IsGraphOf n edges graph → IsWitness graph kind branch paths
    → IsWitnessPut kind paths ends vertices ends' vertices' outcome → IsEmbedded n edges ends vertices xs ys ends' vertices' xs ys outcome
embedded_by_witness n edges graph kind branch paths ends vertices ends' vertices' xs ys (NotPlanar told) given enough is witness h =
    (given, enough, (graph, is, there graph kind told branch paths ends vertices ends' vertices' witness h.0 h.1), refl, refl)
embedded_by_witness n edges graph kind branch paths ends vertices ends' vertices' xs ys (Failed BadArgument) given enough is witness h =
    (inr (graph, is, inr (kind, branch, paths, witness, h.0)), h.1, h.2, refl, refl)
embedded_by_witness n edges graph kind branch paths ends vertices ends' vertices' xs ys (Failed NoMemory) given enough is witness h = (tt, h.0, h.1, refl, refl)
embedded_by_witness n edges graph kind branch paths ends vertices ends' vertices' xs ys (Failed (BadEdge fault)) given enough is witness h = absurd h
embedded_by_witness n edges graph kind branch paths ends vertices ends' vertices' xs ys (Failed (Refused refusal)) given enough is witness h = absurd h
embedded_by_witness n edges graph kind branch paths ends vertices ends' vertices' xs ys Served given enough is witness h = absurd h
embedded_by_witness n edges graph kind branch paths ends vertices ends' vertices' xs ys (Drawing verdict) given enough is witness h = absurd h
embedded_by_witness n edges graph kind branch paths ends vertices ends' vertices' xs ys (Convex verdict) given enough is witness h = absurd h
embedded_by_witness n edges graph kind branch paths ends vertices ends' vertices' xs ys (Bars verdict) given enough is witness h = absurd h
embedded_by_witness n edges graph kind branch paths ends vertices ends' vertices' xs ys (Rects verdict) given enough is witness h = absurd h
embedded_by_witness n edges graph kind branch paths ends vertices ends' vertices' xs ys (Outer verdict) given enough is witness h = absurd h

-- a call that failed leaves the arrays
pub mapped_not : (n : ℕ) (edges : List EdgeEnds) (ends neighbours : List ℕ) (failure : Failure) → FailsOnEdges (AreFew n edges) n edges (IsSmall n) failure → IsMapped n edges ends neighbours ends neighbours (Failed failure)
mapped_not n edges ends neighbours (BadEdge fault) h = (h, refl, refl)
mapped_not n edges ends neighbours (Refused refusal) h = (h, refl, refl)
mapped_not n edges ends neighbours NoMemory h = (h, refl, refl)
mapped_not n edges ends neighbours BadArgument h = (inl h, refl, refl)

pub embedded_not : (n : ℕ) (edges : List EdgeEnds) (ends neighbours : List ℕ) (xs ys : List ℤ) (failure : Failure) → FailsOnEdges (IsGivenGraph n edges xs ys) n edges (IsSmall n) failure → IsEmbedded n edges ends neighbours xs ys ends neighbours xs ys (Failed failure)
embedded_not n edges ends neighbours xs ys (BadEdge fault) h = (h, refl, refl, refl, refl)
embedded_not n edges ends neighbours xs ys (Refused refusal) h = (h, refl, refl, refl, refl)
embedded_not n edges ends neighbours xs ys NoMemory h = (h, refl, refl, refl, refl)
embedded_not n edges ends neighbours xs ys BadArgument h = (inl h, refl, refl, refl, refl)
