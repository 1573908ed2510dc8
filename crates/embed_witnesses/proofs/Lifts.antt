-- One of the changes is right: the law of lifted witnesses, by its constructions.
use Rattle.std.proofs.Common.{◌≡◌, ◌≢◌, ℕ, zero, suc, ◌+◌, ◌-◌, ◌*◌, ◌<◌, ◌≤◌, Bool, true, false, cond, eqb, ltb, List, [], length, refl, sym, ap, ap₂, ◌∙◌, subst, inl, inr, arith}
use Rattle.std.proofs.lemmas.Bool.{ne_eqb, cond-false}
use Rattle.std.proofs.lemmas.List.FromFn.{length-map-range_with_len, get_or-map-range_with_len}
use Rattle.map_lists.specs.declared.ids.VertexId.{VertexId}
use Rattle.graphs.specs.Graphs.{EdgeGraph, has_edge}
use Rattle.graphs.proofs.EdgeLemmas.{has_edge-turned}
use Rattle.graphs.proofs.BitLemmas.{below_six}
use Rattle.kuratowski.specs.Witnesses.{branch_count, vertex_at, path_at, IsWitness}
use Rattle.kuratowski.specs.declared.witness.Kind.{Kind}
use Rattle.kuratowski.specs.declared.witness.Kind.TheVariants.{K5, K33}
use Rattle.kuratowski.specs.declared.witness.Witness.{Witness}
use Rattle.embed_contraction.specs.Traces.{path_count}
use Rattle.embed_contraction.proofs.Spans.{IsTraced}
use Rattle.embed_contraction.proofs.Numbers.{each_of_five, each_of_nine}
use Rattle.embed_contraction.proofs.Traces.{length-vertices_of, vertex_at-vertices_of, witness_by}
use Rattle.embed_contraction.specs.Contracted.{IsEdgeOf}
use Rattle.embed_contraction.proofs.Frames.{IsFrame, HasSteps, traced-frame, frame-witness, exchanged}
use Rattle.embed_contraction.proofs.Inserted.{size', way', longer, inserted, steps-inserted}
use Rattle.embed_contraction.proofs.BadSteps.{StepsAt, AreTwoBad, IsOneBad, one_or_two}
use Rattle.embed_contraction.proofs.Links.{number, link_number, link, link_size}
use Rattle.embed_contraction.proofs.Separations.{from_name, to_name, ends_at_x, branch_name, hidden, size33, way33, vertex_named, branch33, frame33, edges33}
use Rattle.embed_contraction.proofs.Lifted.{AreTwoLone, frame', off', no_branch', steps', four, is_branch, not_six, separating_five, IsSeparating, five_names, small_frame, small_steps, small_off, small_no_branch}
use Rattle.embed_witnesses.specs.Merged.{merged}
use Rattle.embed_witnesses.proofs.MergedLemmas.{merged_is_contracted}
use Rattle.embed_witnesses.specs.declared.lifted_witnesses.change_kinds.Splitting.{Splitting}
use Rattle.embed_witnesses.specs.declared.lifted_witnesses.change_kinds.Change.{Change}
use Rattle.embed_witnesses.specs.declared.lifted_witnesses.change_kinds.Change.TheVariants.{Mended, Split}
use Rattle.embed_witnesses.specs.Changes.{step_count, named_branch, path_between, link_between, split_count, split_place, split_branch, kind_in, branch_in, count_in, vertex_in, branches_in, path_in, paths_in, IsRight}

-- ---- lists that agree with functions
right-by : (graph : EdgeGraph) (old : Witness) (change : Change) (branch size : ℕ → ℕ) (way : ℕ → ℕ → ℕ) → ((j : ℕ) → j < branch_count (kind_in change old.kind) → branch_in change old.branch j ≡ branch j) → ((p : ℕ) → p < path_count (kind_in change old.kind) → count_in change old.paths p ≡ size p) → ((p i : ℕ) → p < path_count (kind_in change old.kind) → vertex_in change old.paths p i ≡ way p i) → IsTraced graph (kind_in change old.kind) branch size way → IsRight graph old change
right-by graph old change branch size way eb es ew t = witness_by graph kind branch size way t branches paths size_branches branch_is size_paths size_path vertex_is
  where
    kind : Kind
    kind = kind_in change old.kind

    branches : List VertexId
    branches = branches_in change old

    paths : List (List VertexId)
    paths = paths_in change old

    size_branches : length branches ≡ branch_count kind
    size_branches = length-vertices_of (branch_in change old.branch) (branch_count kind)

    branch_is : (j : ℕ) → j < branch_count kind → vertex_at branches j ≡ branch j
    branch_is j l = vertex_at-vertices_of (branch_in change old.branch) (branch_count kind) j l ∙ eb j l

    size_paths : length paths ≡ path_count kind
    size_paths = length-map-range_with_len (path_in change old.paths) 0 (path_count kind)

    path_is : (p : ℕ) → p < path_count kind → path_at paths p ≡ path_in change old.paths p
    path_is p l = get_or-map-range_with_len {X = List VertexId} (path_in change old.paths) 0 (path_count kind) p p [] l (omega arith)

    size_path : (p : ℕ) → p < path_count kind → length (path_at paths p) ≡ suc (size p)
    size_path p l = ap (λ (q : List VertexId). length q) (path_is p l) ∙ (length-vertices_of (vertex_in change old.paths p) (suc (count_in change old.paths p)) ∙ ap suc (es p l))

    vertex_is : (p i : ℕ) → p < path_count kind → i ≤ size p → vertex_at (path_at paths p) i ≡ way p i
    vertex_is p i l m =
        ap (λ q. vertex_at q i) (path_is p l) ∙ (vertex_at-vertices_of (vertex_in change old.paths p) (suc (count_in change old.paths p)) i (omega arith) ∙ ew p i l)

-- ---- numbers
-- five digits
digits : ℕ → ℕ → ℕ → ℕ → ℕ → ℕ
digits b c d e f = b + 5 * (c + 5 * (d + 5 * (e + 5 * f)))

number-is : (a b : ℕ) → path_between a b ≡ number a b
unfolding number
number-is x0 b = grind (arith, cond-false, eqb, cond, ne_eqb)

link-is : (a b : ℕ) → link_between a b ≡ link_number a b
unfolding link_number
link-is a b = ap₂ (cond (ltb a b)) (number-is a b) (number-is b a)

few_paths : (kind : Kind) → path_count kind < 11
few_paths K5 = omega arith
few_paths K33 = omega arith

module _ (graph : EdgeGraph) (a b : ℕ) (edge : IsEdgeOf graph a b) (kind : Kind) (branch : List VertexId) (paths : List (List VertexId)) (w : IsWitness (merged graph a b) kind branch paths) where
  abbrev old : Witness
  old = record { kind = kind; branch = branch; paths = paths }

  abbrev B : ℕ → ℕ
  B j = vertex_at branch j

  abbrev S : ℕ → ℕ
  S p = length (path_at paths p) - 1

  abbrev P : ℕ → ℕ → ℕ
  P p i = vertex_at (path_at paths p) i

  abbrev both : IsFrame graph.n kind B S P × HasSteps kind S P (λ u v. has_edge (merged graph a b) u v ≡ true)
  both = frame-witness (merged graph a b) kind branch paths w

  abbrev same : ℕ → ℕ
  same v = v

  frame : IsFrame graph.n kind B S P
  frame = small_frame graph (merged graph a b) a b same (merged_is_contracted graph a b) kind B S P both.0 both.1

  steps : HasSteps kind S P (StepsAt graph a b)
  steps = small_steps graph (merged graph a b) a b same (merged_is_contracted graph a b) kind B S P both.0 both.1

  off : (p i : ℕ) → p < path_count kind → i ≤ S p → P p i ≢ b
  off = small_off graph (merged graph a b) a b same (merged_is_contracted graph a b) kind B S P both.0 both.1

  no_branch : (j : ℕ) → j < branch_count kind → B j ≢ b
  no_branch = small_no_branch graph (merged graph a b) a b same (merged_is_contracted graph a b) kind B S P both.0 both.1

  -- ---- a vertex put in
  abbrev put : Bool → ℕ → ℕ → Change
  put exchange q k = Mended (record { exchange = exchange; a = a; b = b; path = q; place = k })

  -- none is
  plain : IsTraced graph kind B S P → IsRight graph old (put false (path_count kind) 0)
  plain t =
      let c = put false (path_count kind) 0 in
      right-by graph old c B S P (λ j l. refl) (λ p l. let e = ne_eqb p (path_count kind) (λ q. omega arith) in rw e refl) (λ p i l. let e = ne_eqb p (path_count kind) (λ q. omega arith) in rw e refl) t

  one_right : (q k : ℕ) → IsOneBad graph kind B S P frame a b edge.joined off no_branch steps q k → IsRight graph old (put false q k)
  unfolding size' way' longer
  one_right q k bad =
      let made = inserted graph.n kind B S P frame b q k bad.path bad.step off no_branch in
      let along = steps-inserted graph.n kind B S P frame b q k bad.path bad.step off no_branch (λ u v. has_edge graph u v ≡ true) bad.rest bad.to bad.from in
      let size = size' graph.n kind B S P frame b q k bad.path bad.step off no_branch in
      let way = way' graph.n kind B S P frame b q k bad.path bad.step off no_branch in
      right-by graph old (put false q k) B size way (λ j l. refl) (λ p l. refl) (λ p i l. refl) (traced-frame graph kind B size way made along)

  -- ---- with the ends exchanged
  abbrev s : ℕ → ℕ
  s v = exchanged a b v

  abbrev sB : ℕ → ℕ
  sB j = s (B j)

  abbrev sP : ℕ → ℕ → ℕ
  sP p i = s (P p i)

  turned : has_edge graph b a ≡ true
  turned = has_edge-turned graph b a ∙ edge.joined

  s_frame : IsFrame graph.n kind sB S sP
  s_frame = frame' graph kind B S P frame a b edge off no_branch steps

  s_off : (p i : ℕ) → p < path_count kind → i ≤ S p → sP p i ≢ a
  s_off = off' graph kind B S P frame a b edge off no_branch steps

  s_no_branch : (j : ℕ) → j < branch_count kind → sB j ≢ a
  s_no_branch = no_branch' graph kind B S P frame a b edge off no_branch steps

  s_steps : HasSteps kind S sP (StepsAt graph b a)
  s_steps = steps' graph kind B S P frame a b edge off no_branch steps

  s_plain : IsTraced graph kind sB S sP → IsRight graph old (put true (path_count kind) 0)
  unfolding exchanged
  s_plain t =
      let c = put true (path_count kind) 0 in
      right-by graph old c sB S sP (λ j l. refl) (λ p l. let e = ne_eqb p (path_count kind) (λ q. omega arith) in rw e refl) (λ p i l. let e = ne_eqb p (path_count kind) (λ q. omega arith) in rw e refl) t

  s_one_right : (q k : ℕ) → IsOneBad graph kind sB S sP s_frame b a turned s_off s_no_branch s_steps q k → IsRight graph old (put true q k)
  unfolding size' way' longer exchanged
  s_one_right q k bad =
      let made = inserted graph.n kind sB S sP s_frame a q k bad.path bad.step s_off s_no_branch in
      let along = steps-inserted graph.n kind sB S sP s_frame a q k bad.path bad.step s_off s_no_branch (λ u v. has_edge graph u v ≡ true) bad.rest bad.to bad.from in
      let size = size' graph.n kind sB S sP s_frame a q k bad.path bad.step s_off s_no_branch in
      let way = way' graph.n kind sB S sP s_frame a q k bad.path bad.step s_off s_no_branch in
      right-by graph old (put true q k) sB size way (λ j l. refl) (λ p l. refl) (λ p i l. refl) (traced-frame graph kind sB size way made along)

  -- no change of these is right
  abbrev NoneWith : Bool → Type 0
  NoneWith exchange = (q k : ℕ) → q < 11 → k ≤ step_count paths q → ¬ IsRight graph old (put exchange q k)

  two_bad : NoneWith false → AreTwoBad graph kind S P
  two_bad none =
      let n = few_paths kind in
      elim (one_or_two graph kind B S P frame a b edge.joined off no_branch steps) [
        | inl all ↦ absurd (none (path_count kind) 0 (omega arith) (omega arith) (plain (traced-frame graph kind B S P frame all)))
        | inr r ↦ elim r [
          | inr t ↦ t
          | inl one ↦ let bad = one.2 in let l = bad.path in let m = bad.step in absurd (none one.0 one.1 (omega arith) (omega arith) (one_right one.0 one.1 bad))
        ]
      ]

  s_two_bad : NoneWith true → AreTwoBad graph kind S sP
  s_two_bad none =
      let n = few_paths kind in
      elim (one_or_two graph kind sB S sP s_frame b a turned s_off s_no_branch s_steps) [
        | inl all ↦ absurd (none (path_count kind) 0 (omega arith) (omega arith) (s_plain (traced-frame graph kind sB S sP s_frame all)))
        | inr r ↦ elim r [
          | inr t ↦ t
          | inl one ↦ let bad = one.2 in let l = bad.path in let m = bad.step in absurd (none one.0 one.1 (omega arith) (omega arith) (s_one_right one.0 one.1 bad))
        ]
      ]

  abbrev Lone : Type 0
  Lone = AreTwoLone graph kind B S P frame a a b × AreTwoLone graph kind B S P frame a b a

  two_lone : NoneWith false → NoneWith true → Lone
  two_lone none none' = four graph kind B S P frame a b edge off no_branch steps (two_bad none) (s_two_bad none')

  at_a : Lone → (j : ℕ) × (j < branch_count kind) × (B j ≡ a)
  at_a t = is_branch graph kind B S P frame a b edge off no_branch steps t.0 t.1

-- ---- K5 split
module _ (graph : EdgeGraph) (a b : ℕ) (edge : IsEdgeOf graph a b) (branch : List VertexId) (paths : List (List VertexId)) (w : IsWitness (merged graph a b) K5 branch paths) where
  abbrev old5 : Witness
  old5 = record { kind = K5; branch = branch; paths = paths }

  abbrev B5 : ℕ → ℕ
  B5 j = vertex_at branch j

  abbrev S5 : ℕ → ℕ
  S5 p = length (path_at paths p) - 1

  abbrev P5 : ℕ → ℕ → ℕ
  P5 p i = vertex_at (path_at paths p) i

  frame5 : IsFrame graph.n K5 B5 S5 P5
  frame5 = frame graph a b edge K5 branch paths w

  steps5 : HasSteps K5 S5 P5 (StepsAt graph a b)
  steps5 = steps graph a b edge K5 branch paths w

  off5 : (p i : ℕ) → p < 10 → i ≤ S5 p → P5 p i ≢ b
  off5 = off graph a b edge K5 branch paths w

  no_branch5 : (j : ℕ) → j < 5 → B5 j ≢ b
  no_branch5 = no_branch graph a b edge K5 branch paths w

  module _ (order : ℕ) (below : (k : ℕ) → k < 5 → named_branch order k < 5) (names_apart : (k l : ℕ) → k < 5 → l < 5 → named_branch order k ≡ named_branch order l → k ≡ l) (is_a : B5 (named_branch order 0) ≡ a) where
    abbrev N : ℕ → ℕ
    N k = named_branch order k

    abbrev cut : Splitting
    cut = record { a = a; b = b; order = order }

    abbrev branch3 : ℕ → ℕ
    branch3 j = branch33 graph B5 S5 P5 frame5 a b edge.second edge.joined off5 no_branch5 steps5 N below names_apart is_a j

    abbrev size3 : ℕ → ℕ
    size3 p = size33 graph B5 S5 P5 frame5 a b edge.second edge.joined off5 no_branch5 steps5 N below names_apart is_a p

    abbrev way3 : ℕ → ℕ → ℕ
    way3 p i = way33 graph B5 S5 P5 frame5 a b edge.second edge.joined off5 no_branch5 steps5 N below names_apart is_a p i

    branch_same : (j : ℕ) → j < 6 → split_branch cut branch j ≡ branch3 j
    unfolding branch33 branch_name vertex_named
    branch_same = below_six (λ j. split_branch cut branch j ≡ branch3 j) refl refl refl refl refl refl

    count : (k l : ℕ) → S5 (link_between (N k) (N l)) ≡ S5 (link_number (N k) (N l))
    count k l = ap S5 (link-is (N k) (N l))

    size_same : (p : ℕ) → p < 9 → split_count cut paths p ≡ size3 p
    unfolding size33 from_name to_name link_size
    size_same = each_of_nine (λ p. split_count cut paths p ≡ size3 p) refl (count 0 1) (count 0 2) (count 3 0) (count 3 1) (count 3 2) (count 4 0) (count 4 1) (count 4 2)

    abbrev read : ℕ → ℕ → ℕ → ℕ → ℕ
    read k l i m = cond (ltb (N k) (N l)) (P5 m i) (P5 m (S5 m - i))

    place : (k l i : ℕ) → read k l i (link_between (N k) (N l)) ≡ link graph.n B5 S5 P5 frame5 (N k) (N l) i
    unfolding link
    place k l i = ap (read k l i) (link-is (N k) (N l))

    way_same : (p i : ℕ) → p < 9 → split_place cut paths p i ≡ way3 p i
    unfolding way33 from_name to_name ends_at_x hidden
    way_same p i l =
        each_of_nine (λ p. split_place cut paths p i ≡ way3 p i) (edge_place i) (place 0 1 i) (place 0 2 i) (ap end (place 3 0 i)) (place 3 1 i) (place 3 2 i) (ap end (place 4 0 i)) (place 4 1 i) (place 4 2 i) p l
      where
        end : ℕ → ℕ
        end v = cond (eqb v a) b v

        edge_place : (i : ℕ) → split_place cut paths 0 i ≡ way3 0 i
        edge_place zero = refl
        edge_place (suc i) = cond-false (eqb (suc i) 0) a b (ne_eqb (suc i) 0 (λ e. omega arith))

    cut_right : ((k : ℕ) → 0 < k → k < 3 → has_edge graph a (link graph.n B5 S5 P5 frame5 (N 0) (N k) 1) ≡ true) → ((k : ℕ) → 3 ≤ k → k < 5 → has_edge graph b (link graph.n B5 S5 P5 frame5 (N 0) (N k) 1) ≡ true) → IsRight graph old5 (Split cut)
    cut_right of_a of_b =
        right-by graph old5 (Split cut) branch3 size3 way3 branch_same size_same way_same
        (traced-frame graph K33 branch3 size3 way3 (frame33 graph B5 S5 P5 frame5 a b edge.second edge.joined off5 no_branch5 steps5 N below names_apart is_a) (edges33 graph B5 S5 P5 frame5 a b edge.second edge.joined off5 no_branch5 steps5 N below names_apart is_a of_a of_b))

  -- five names as digits
  module _ (c0 c1 c2 c3 c4 : ℕ) (t : IsSeparating graph B5 S5 P5 frame5 a b c0 c1 c2 c3 c4) where
    abbrev code : ℕ
    code = digits c0 c1 c2 c3 c4

    l0 : c0 < 5
    unfolding five_names
    l0 = t.below 0 (omega arith)

    l1 : c1 < 5
    unfolding five_names
    l1 = t.below 1 (omega arith)

    l2 : c2 < 5
    unfolding five_names
    l2 = t.below 2 (omega arith)

    l3 : c3 < 5
    unfolding five_names
    l3 = t.below 3 (omega arith)

    l4 : c4 < 5
    unfolding five_names
    l4 = t.below 4 (omega arith)

    code_below : code < 3125
    unfolding digits
    code_below = let a0 = l0 in let a1 = l1 in let a2 = l2 in let a3 = l3 in let a4 = l4 in omega arith

    name_is : (k : ℕ) → k < 5 → five_names c0 c1 c2 c3 c4 k ≡ named_branch code k
    unfolding five_names digits
    name_is = grind (arith, l0, l1, l2, l3, each_of_five, five_names, named_branch, code)

    first_is : five_names c0 c1 c2 c3 c4 0 ≡ c0
    unfolding five_names
    first_is = refl

    splitting_right : IsRight graph old5 (Split (record { a = a; b = b; order = code }))
    splitting_right =
        let e0 : c0 ≡ named_branch code 0 = sym first_is ∙ name_is 0 (omega arith) in
        let at : (x k : ℕ) → k < 5 → has_edge graph x (link graph.n B5 S5 P5 frame5 c0 (five_names c0 c1 c2 c3 c4 k) 1) ≡ true → has_edge graph x (link graph.n B5 S5 P5 frame5 (named_branch code 0) (named_branch code k) 1) ≡ true = λ x k l h.
        sym (ap₂ (λ u v. has_edge graph x (link graph.n B5 S5 P5 frame5 u v 1)) e0 (name_is k l)) ∙ h in
        cut_right code
        (λ k l. subst (λ v. v < 5) (name_is k l) (t.below k l))
        (λ k m lk lm e. t.apart k m lk lm (name_is k lk ∙ (e ∙ sym (name_is m lm))))
        (ap B5 (sym e0) ∙ t.is_x)
        (λ k pos l. at a k (omega arith) (t.of_x k pos l))
        (λ k far l. at b k l (t.of_y k far l))

-- ---- the law
-- Some change is right.
pub some_right : (graph : EdgeGraph) (a b : ℕ) → IsEdgeOf graph a b → (kind : Kind) (branch : List VertexId) (paths : List (List VertexId)) → IsWitness (merged graph a b) kind branch paths
    → ((q k : ℕ) → q < 11 → k ≤ step_count paths q → ¬ IsRight graph (record { kind = kind; branch = branch; paths = paths }) (Mended (record { exchange = false; a = a; b = b; path = q; place = k })))
    → ((q k : ℕ) → q < 11 → k ≤ step_count paths q → ¬ IsRight graph (record { kind = kind; branch = branch; paths = paths }) (Mended (record { exchange = true; a = a; b = b; path = q; place = k })))
    → ((order : ℕ) → order < 3125 → ¬ IsRight graph (record { kind = kind; branch = branch; paths = paths }) (Split (record { a = a; b = b; order = order })))
    → ⊥
unfolding frame5 frame
some_right graph a b edge K33 branch paths w none none' none'' =
    let t = two_lone graph a b edge K33 branch paths w none none' in
    let r = at_a graph a b edge K33 branch paths w t in
    not_six graph (λ j. vertex_at branch j) (λ p. length (path_at paths p) - 1) (λ p i. vertex_at (path_at paths p) i) (frame graph a b edge K33 branch paths w) a b edge (off graph a b edge K33 branch paths w) (no_branch graph a b edge K33 branch paths w) (steps graph a b edge K33 branch paths w) t.0 t.1 r.0 r.1 r.2
some_right graph a b edge K5 branch paths w none none' none'' =
    let t = two_lone graph a b edge K5 branch paths w none none' in
    let r = at_a graph a b edge K5 branch paths w t in
    let p = separating_five graph (λ j. vertex_at branch j) (λ p. length (path_at paths p) - 1) (λ p i. vertex_at (path_at paths p) i) (frame graph a b edge K5 branch paths w) a b t.0 t.1 r.0 r.1 r.2 in
    none'' (code graph a b edge branch paths w r.0 p.0 p.1 p.2 p.3 p.4) (code_below graph a b edge branch paths w r.0 p.0 p.1 p.2 p.3 p.4) (splitting_right graph a b edge branch paths w r.0 p.0 p.1 p.2 p.3 p.4)
