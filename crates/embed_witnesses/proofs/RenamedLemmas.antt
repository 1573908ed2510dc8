-- What a renamed witness reads as, and that it is one.
use Rattle.std.proofs.Common.{◌≡◌, ℕ, suc, ◌-◌, ◌<◌, List, [], ◌∷◌, ◌++◌, ◌+◌, take, get_or, length, sym, ap, ap₂, ◌∙◌, subst, arith}
use Rattle.std.proofs.lemmas.List.{length-map, get_or-map, map-append, take_more}
use Rattle.map_lists.specs.declared.ids.VertexId.{VertexId}
use Rattle.graphs.specs.Graphs.{has_edge}
use Rattle.kuratowski.specs.Witnesses.{pair_at, vertex_at, path_at, IsInnerPlace}
use Rattle.embed_contraction.proofs.Traces.{pairs_within}
use Rattle.embed_witnesses.specs.Renamed.{renamed_list, renamed_paths, RenamedWitness}

module _ (to : ℕ → ℕ) where
  abbrev name : VertexId → VertexId
  name v = record { 0 = to v.0 }

  pub length-renamed_list : (vs : List VertexId) → length (renamed_list to vs) ≡ length vs
  length-renamed_list vs = length-map vs name

  pub vertex_at-renamed_list : (vs : List VertexId) (i : ℕ) → i < length vs → vertex_at (renamed_list to vs) i ≡ to (vertex_at vs i)
  vertex_at-renamed_list vs i l = ap (λ (v : VertexId). v.0) (get_or-map {Y = VertexId} name vs i (record { 0 = 0 }) (record { 0 = 0 }) l)

  pub length-renamed_paths : (paths : List (List VertexId)) → length (renamed_paths to paths) ≡ length paths
  length-renamed_paths paths = length-map paths (renamed_list to)

  pub path_at-renamed_paths : (paths : List (List VertexId)) (p : ℕ) → p < length paths → path_at (renamed_paths to paths) p ≡ renamed_list to (path_at paths p)
  path_at-renamed_paths paths p l = get_or-map {Y = List VertexId} (renamed_list to) paths p [] [] l

  module _ (paths : List (List VertexId)) (p : ℕ) (l : p < length paths) where
    pub length-path : length (path_at (renamed_paths to paths) p) ≡ length (path_at paths p)
    length-path = ap (λ (q : List VertexId). length q) (path_at-renamed_paths paths p l) ∙ length-renamed_list (path_at paths p)

    pub vertex_at-path : (i : ℕ) → i < length (path_at paths p) → vertex_at (path_at (renamed_paths to paths) p) i ≡ to (vertex_at (path_at paths p) i)
    vertex_at-path i m = ap (λ q. vertex_at q i) (path_at-renamed_paths paths p l) ∙ vertex_at-renamed_list (path_at paths p) i m

    inner_was : (i : ℕ) → IsInnerPlace (path_at (renamed_paths to paths) p) i → IsInnerPlace (path_at paths p) i
    inner_was i h = (h.0, subst (λ n. suc i < n) length-path h.1)

-- one vertex more is renamed
pub renamed_list-more : (to : ℕ → ℕ) (vs : List VertexId) (i : ℕ) (v new : VertexId) → i < length vs → get_or vs i v ≡ v → new.0 ≡ to v.0 → renamed_list to (take (i + 1) vs) ≡ renamed_list to (take i vs) ++ new ∷ []
renamed_list-more to vs i v new l at e =
    ap (renamed_list to) (take_more vs i v l)
    ∙ (map-append (name to) (take i vs) (get_or vs i v ∷ [])
    ∙ ap (λ (w : VertexId). renamed_list to (take i vs) ++ w ∷ []) (ap (name to) at ∙ ap (λ n. let w : VertexId = record { 0 = n } in w) (sym e)))

-- THE LAW: a witness renamed
pub renamed_witness : RenamedWitness
renamed_witness small graph to kind branch paths keeps w =
    let nb = length-renamed_list to branch in
    let np = length-renamed_paths to paths in
    record {
      shape = record {
        branches = nb ∙ w.shape.branches;
        count = np ∙ w.shape.count;
        joined = λ p l.
            let in_p : p < length paths = omega arith in
            let j = w.shape.joined p in_p in
            let long = j.long in
            let ends = pairs_within kind p (omega arith) in
            let n = length-path to paths p in_p in
            record {
              long = omega arith;
              start = vertex_at-path to paths p in_p 0 (omega arith) ∙ (ap to j.start ∙ sym (vertex_at-renamed_list to branch (pair_at kind p).0 (omega arith)));
              end = ap (λ k. vertex_at (path_at (renamed_paths to paths) p) (k - 1)) n ∙ (vertex_at-path to paths p in_p (length (path_at paths p) - 1) (omega arith) ∙ (ap to j.end ∙ sym (vertex_at-renamed_list to branch (pair_at kind p).1 (omega arith))));
            };
      };
      vertices = λ i l. let m : i < length branch = omega arith in subst (λ v. v < graph.n) (sym (vertex_at-renamed_list to branch i m)) (keeps.within (vertex_at branch i) (w.vertices i m));
      distinct = λ i j l m e.
          let in_j : j < length branch = omega arith in
          w.distinct i j l in_j (keeps.apart (vertex_at branch i) (vertex_at branch j) (sym (vertex_at-renamed_list to branch i (omega arith)) ∙ (e ∙ vertex_at-renamed_list to branch j in_j)));
      edges = λ p i l m.
          let in_p : p < length paths = omega arith in
          let n = length-path to paths p in_p in
          let here = vertex_at-path to paths p in_p i (omega arith) in
          let next = vertex_at-path to paths p in_p (suc i) (omega arith) in
          ap₂ (has_edge graph) here next ∙ keeps.edges (vertex_at (path_at paths p) i) (vertex_at (path_at paths p) (suc i)) (w.edges p i in_p (omega arith));
      no_branch = λ p i j l h m e.
          let in_p : p < length paths = omega arith in
          let in_j : j < length branch = omega arith in
          let inner = inner_was to paths p in_p i h in
          w.no_branch p i j in_p inner in_j (keeps.apart (vertex_at (path_at paths p) i) (vertex_at branch j) (sym (vertex_at-path to paths p in_p i (omega arith)) ∙ (e ∙ vertex_at-renamed_list to branch j in_j)));
      once = λ p i j l h m e.
          let in_p : p < length paths = omega arith in
          let n = length-path to paths p in_p in
          let inner = inner_was to paths p in_p i h in
          w.once p i j in_p inner (omega arith) (keeps.apart (vertex_at (path_at paths p) i) (vertex_at (path_at paths p) j) (sym (vertex_at-path to paths p in_p i (omega arith)) ∙ (e ∙ vertex_at-path to paths p in_p j (omega arith))));
      apart = λ p q i j l m h h' e.
          let in_q : q < length paths = omega arith in
          let in_p : p < length paths = omega arith in
          let inner = inner_was to paths p in_p i h in
          let inner' = inner_was to paths q in_q j h' in
          w.apart p q i j l in_q inner inner' (keeps.apart (vertex_at (path_at paths p) i) (vertex_at (path_at paths q) j) (sym (vertex_at-path to paths p in_p i (omega arith)) ∙ (e ∙ vertex_at-path to paths q in_q j (omega arith))));
    }
