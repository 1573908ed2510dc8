-- A map of genus zero of a graph with a partition into left and right: its parts, from the deepest vertices up.
use Rattle.std.proofs.Common.{◌≡◌, ◌≢◌, ℕ, zero, suc, ◌+◌, ◌-◌, ◌<◌, Bool, true, cond, eqb, List, [], ◌∷◌, ◌++◌, length, get_or, AllPairs, Contains, refl, sym, ap, ◌∙◌, subst, inl, inr, arith, eq-eqb, ne_eqb, length-append}
use Rattle.std.specs.Prelude.{◌↔◌}
use Rattle.std.proofs.Math.ListN.{get_or-append}
use Rattle.std.proofs.lemmas.Bool.{cases_Bool, cases_lt, cases_eq, cond-true, cond-false, true≢false}
use Rattle.std.proofs.lemmas.List.{get_or-append-add}
use Rattle.std.proofs.lemmas.List.Elements.{Contains-append_cases, Contains-append_left, Contains-append_right}
use Rattle.map_lists.specs.Lists.{Lists}
use Rattle.classes.specs.Classes.{merge}
use Rattle.map_theory.specs.Maps.{Dart, HasDart, IsSimpleMap, IsPlane, list_of, dart_count, entry_after, face_count, component_count}
use Rattle.map_theory.proofs.DartLemmas.{dart_number-lt}
use Rattle.left_right_laws.specs.Forests.{IsLeftRight}
use Rattle.left_right_maps.specs.Orders.{IsEdge}
use Rattle.left_right_maps.specs.RootedMaps.{is_child, in_tree, joined, tour_at, IsRootedMap}
use Rattle.left_right_maps.specs.Brackets.{IsBalanced}
use Rattle.left_right_maps.specs.Graphs.{IsMapOfEdges}
use Rattle.left_right_maps.specs.Trees.{IsDepthFirstTree}
use Rattle.left_right_maps.proofs.Inserts.{none_in_none, here, here_or_there, pairs_none, pairs_more, pairs_joined}
use Rattle.left_right_maps.proofs.Toured.{bound_of}
use Rattle.left_right_maps.proofs.RootedPlane.{balanced_is_plane}
use Rattle.left_right_maps.proofs.Opens.{IsOpen, joined_same}
use Rattle.left_right_maps.proofs.Parts.{passed, turned, child_deep, child_edge, Part, Entries, new_entries, new_opens, new_word, word_is, some_order, part, entries}

-- the lists of a function, one for each number below n
rows : (ℕ → List ℕ) → ℕ → Lists
rows f zero = []
rows f (suc k) = rows f k ++ f k ∷ []

length-rows : (f : ℕ → List ℕ) (k : ℕ) → length (rows f k) ≡ k
unfolding rows
length-rows f zero = refl
length-rows f (suc k) = let rest = length-rows f k in let more = length-append (rows f k) (f k ∷ []) in omega arith

row_at : (f : ℕ → List ℕ) (k v : ℕ) → v < k → get_or (rows f k) v [] ≡ f v
unfolding rows
row_at f zero v l = absurd (omega arith)
row_at f (suc k) v l =
    let long = length-rows f k in
    elim (cases_lt v k) [
      | inl less ↦ get_or-append (rows f k) (f k ∷ []) [] v (omega arith) ∙ row_at f k v less
      | inr more ↦
          let e : v ≡ length (rows f k) + 0 = omega arith in
          let e' : k ≡ v = omega arith in
          ap (λ i. get_or (rows f k ++ f k ∷ []) i []) e ∙ (get_or-append-add (rows f k) (f k ∷ []) 0 [] ∙ ap f e')
    ]

-- the map of one vertex
lone_plane : IsPlane ([] ∷ [])
unfolding entry_after merge face_count component_count
lone_plane = refl

lone_rows : (f : ℕ → List ℕ) (k : ℕ) → k ≡ 1 → f 0 ≡ [] → rows f k ≡ [] ∷ []
unfolding rows
lone_rows f k one none = ap (rows f) one ∙ ap (λ z. z ∷ []) none

-- what is known of a vertex: the word through what is below it is one by its entries, in which what waits is a part
pub record Stands (n : ℕ) (edge : ℕ → ℕ → Bool) (parent depth : ℕ → ℕ) (root : ℕ) (left : ℕ → ℕ → Bool) (g : IsDepthFirstTree n edge parent depth root) (sides : IsLeftRight (IsEdge edge) parent depth left) (E : ℕ → List ℕ) (W O : ℕ → List Dart) (v : ℕ) : Type 0 where
  pub is_part : Part n edge parent depth root left g sides v (W v) (O v)
  pub are : Entries n edge parent depth root left g sides v (E v)
  pub through : W v ≡ joined (tour_at (is_child parent depth) W v) (E v)

-- lists of the entries round each vertex, with its parent behind them
module _ (n : ℕ) (edge : ℕ → ℕ → Bool) (parent depth : ℕ → ℕ) (root : ℕ) (left : ℕ → ℕ → Bool) (g : IsDepthFirstTree n edge parent depth root) (sides : IsLeftRight (IsEdge edge) parent depth left) (E : ℕ → List ℕ) (W O : ℕ → List Dart) (facts : (v : ℕ) → v < n → Stands n edge parent depth root left g sides E W O v) where
  abbrev IsPart : ℕ → List Dart → List Dart → Type 0
  IsPart v word opens = Part n edge parent depth root left g sides v word opens

  -- ---- the lists
  pub row : ℕ → List ℕ
  row v = cond (eqb v root) (E v) (E v ++ parent v ∷ [])

  pub row_root : row root ≡ E root
  unfolding row
  row_root = cond-true {A = List ℕ} (eqb root root) (E root) (E root ++ parent root ∷ []) (eq-eqb root root refl)

  pub row_other : (v : ℕ) → v ≢ root → row v ≡ E v ++ parent v ∷ []
  unfolding row
  row_other v ne = cond-false {A = List ℕ} (eqb v root) (E v) (E v ++ parent v ∷ []) (ne_eqb v root ne)

  pub lists : Lists
  lists = rows row n

  pub long : length lists ≡ n
  unfolding lists
  long = length-rows row n

  pub list_is : (v : ℕ) → v < n → list_of lists v ≡ row v
  unfolding lists
  list_is v l = row_at row n v l

  row_so : (v u : ℕ) → v < n → Contains (row v) u → edge v u ≡ true
  row_so v u l c =
      let es = (facts v l).are in
      elim (cases_eq v root) [
        | inl e ↦ (es.sound u (subst (λ z. Contains (E z) u) (sym e) (subst (λ z. Contains z u) row_root (subst (λ z. Contains (row z) u) e c)))).0
        | inr ne ↦ elim (Contains-append_cases (E v) (parent v ∷ []) u (subst (λ z. Contains z u) (row_other v ne) c)) [
          | inl k ↦ (es.sound u k).0
          | inr k ↦ elim (here_or_there (parent v) u [] k) [ inl e ↦ subst (λ z. edge v z ≡ true) e (g.forest.edges v (g.others v l ne)) | inr bad ↦ absurd (none_in_none u bad) ]
        ]
      ]

  row_all : (v u : ℕ) → v < n → edge v u ≡ true → Contains (row v) u
  row_all v u l has =
      let es = (facts v l).are in
      elim (cases_eq v root) [
        | inl e ↦ subst (λ z. Contains (row z) u) (sym e) (subst (λ z. Contains z u) (sym row_root) (subst (λ z. Contains (E z) u) e (es.whole u has (λ some. (let a = ap depth e in let b = g.top in absurd (omega arith))))))
        | inr ne ↦ subst (λ z. Contains z u) (sym (row_other v ne)) (elim (cases_eq u (parent v)) [
          | inl e ↦ Contains-append_right (E v) (parent v ∷ []) u (subst (Contains (parent v ∷ [])) (sym e) (here (parent v) []))
          | inr off ↦ Contains-append_left (E v) (parent v ∷ []) u (es.whole u has (λ _. off))
        ])
      ]

  row_distinct : (v : ℕ) → v < n → AllPairs ◌≢◌ (row v)
  row_distinct v l =
      let es = (facts v l).are in
      elim (cases_eq v root) [
        | inl e ↦ subst (λ z. AllPairs ◌≢◌ (row z)) (sym e) (subst (AllPairs ◌≢◌) (sym row_root) (subst (λ z. AllPairs ◌≢◌ (E z)) e es.distinct))
        | inr ne ↦ subst (AllPairs ◌≢◌) (sym (row_other v ne)) (pairs_joined ◌≢◌ (E v) (parent v ∷ []) es.distinct (pairs_more ◌≢◌ (parent v) [] (λ y c. absurd (none_in_none y c)) (pairs_none ◌≢◌))
            (λ x y c c' e.
            let last : parent v ≡ y = elim (here_or_there (parent v) y [] c') [ inl h ↦ h | inr bad ↦ absurd (none_in_none y bad) ] in
            (es.sound x c).1 (g.others v l ne) (e ∙ sym last)))
      ]

  edges : (v u : ℕ) → HasDart lists v u ↔ (edge v u ≡ true)
  edges v u = grind (arith, long, row_so, Contains, list_is, row_all)

  below : (v : ℕ) → v < length lists → v < n
  below v l = let b = long in omega arith

  simple : IsSimpleMap lists
  simple =
      record {
        some_vertex = omega (arith, long);
        in_range = λ v u has. (let l = g.in_range u v (g.both_ways v u ((edges v u).0 has)) in omega (arith, long));
        no_loop = λ v u has e. true≢false (sym ((edges v u).0 has) ∙ (ap (λ z. edge v z) e ∙ g.no_loop v));
        no_repeat = λ v l. subst (AllPairs ◌≢◌) (sym (list_is v (below v l))) (row_distinct v (below v l));
        both_ways = λ v u has. (edges u v).1 (g.both_ways v u ((edges v u).0 has));
      }

  rooted : IsRootedMap lists parent depth root E W
  rooted = grind (arith, simple, long, below, list_is, row_other, row_root, facts)

  -- nothing waits at the root
  balanced : IsBalanced (in_tree parent depth) (W root)
  balanced =
      none_waits (O root) refl ((facts root g.root_in).is_part)
    where
      none_waits : (ds : List Dart) → O root ≡ ds → IsPart root (W root) (O root) → IsBalanced (in_tree parent depth) (W root)
      none_waits [] is p = subst (IsOpen (passed n edge parent depth root left g sides) (turned n edge parent depth root left g sides) (W root)) is p.opened
      none_waits (d ∷ ds) is p = let r = p.sound d (subst (λ z. Contains z d) (sym is) (here d ds)) in let high = r.higher in let top = g.top in absurd (omega arith)

  lone_lists : n ≡ 1 → row 0 ≡ [] → IsPlane lists
  unfolding lists
  lone_lists one empty = subst IsPlane (sym (lone_rows row n one empty)) lone_plane

  plane : IsPlane lists
  plane =
      elim (cases_lt 0 (dart_count lists)) [
        | inl some ↦ balanced_is_plane lists parent depth root E W rooted some balanced
        | inr none ↦
            let no_edge : (v u : ℕ) → edge v u ≢ true = λ v u t. (let l = dart_number-lt lists v u ((edges v u).1 t) in omega arith) in
            let lone : (v : ℕ) → v < n → v ≡ root = λ v l. elim (cases_eq v root) [ inl e ↦ e | inr ne ↦ absurd (no_edge v (parent v) (g.forest.edges v (g.others v l ne))) ] in
            let zero_root = lone 0 (omega arith) in
            let one : n ≡ 1 = elim (cases_lt 1 n) [ inl more ↦ (let a = lone 1 more in absurd (omega arith)) | inr fine ↦ omega arith ] in
            lone_lists one (is_empty (row 0) (λ u c. no_edge 0 u (row_so 0 u (omega arith) c)))
      ]
    where
      is_empty : (us : List ℕ) → ((u : ℕ) → ¬ Contains us u) → us ≡ []
      is_empty [] none = refl
      is_empty (u ∷ us) none = absurd (none u (here u us))

  pub is_map : IsMapOfEdges n edge lists
  is_map = record { simple = simple; plane = plane; vertices = long; edges = edges }

module _ (n : ℕ) (edge : ℕ → ℕ → Bool) (parent depth : ℕ → ℕ) (root : ℕ) (left : ℕ → ℕ → Bool) (g : IsDepthFirstTree n edge parent depth root) (sides : IsLeftRight (IsEdge edge) parent depth left) where
  abbrev Child : ℕ → ℕ → Bool
  Child = is_child parent depth

  abbrev PartOf : ℕ → List Dart → List Dart → Type 0
  PartOf v word opens = Part n edge parent depth root left g sides v word opens

  abbrev AreEntries : ℕ → List ℕ → Type 0
  AreEntries v us = Entries n edge parent depth root left g sides v us

  abbrev bound : (most : ℕ) × ((v : ℕ) → v < n → depth v < most)
  bound = bound_of depth n

  abbrev N : ℕ
  N = bound.0

  record Stage : Type 0 where
    entries_of : ℕ → List ℕ
    words : ℕ → List Dart
    opens : ℕ → List Dart

  -- the parts of the vertices of one height
  abbrev IsStage : ℕ → Stage → Type 0
  IsStage k s = (v : ℕ) → v < n → depth v + k ≡ N → PartOf v (s.words v) (s.opens v)

  record Facts (old : Stage) (v : ℕ) (us : List ℕ) (word opens : List Dart) : Type 0 where
    is_part : PartOf v word opens
    are : AreEntries v us
    through : word ≡ joined (tour_at Child old.words v) us

  record Made (k : ℕ) (old : Stage) (v : ℕ) : Type 0 where
    us : List ℕ
    word : List Dart
    opens : List Dart
    facts : v < n → depth v + suc k ≡ N → Facts old v us word opens

  made : (k : ℕ) (old : Stage) → IsStage k old → (v : ℕ) → Made k old v
  made k old good v =
      elim (cases_eq (depth v + suc k) N) [
        | inr ne ↦ record { us = []; word = []; opens = []; facts = λ l e. absurd (ne e) }
        | inl e ↦
            let parts : (u : ℕ) → Child v u ≡ true → PartOf u (old.words u) (old.opens u) = λ u t. (
            let deep = child_deep n edge parent depth root left g sides v u t in
            good u (g.in_range u v (g.both_ways v u (child_edge n edge parent depth root left g sides v u t))) (omega arith)
            ) in
            let order = some_order n edge parent depth root left g sides v old.words old.opens parts in
            record {
              us = new_entries n edge parent depth root left g sides v old.words old.opens parts order;
              word = new_word n edge parent depth root left g sides v old.words old.opens parts order;
              opens = new_opens n edge parent depth root left g sides v old.words old.opens parts order;
              facts = λ _ _. record {
                is_part = part n edge parent depth root left g sides v old.words old.opens parts order;
                are = entries n edge parent depth root left g sides v old.words old.opens parts order;
                through = word_is n edge parent depth root left g sides v old.words old.opens parts order;
              };
            }
      ]

  next_stage : (k : ℕ) (old : Stage) → IsStage k old → Stage
  next_stage k old good =
      record { entries_of = λ v. (made k old good v).us; words = λ v. (made k old good v).word; opens = λ v. (made k old good v).opens }

  next_facts : (k : ℕ) (old : Stage) (good : IsStage k old) (v : ℕ) → v < n → depth v + suc k ≡ N → Facts old v ((next_stage k old good).entries_of v) ((next_stage k old good).words v) ((next_stage k old good).opens v)
  unfolding next_stage
  next_facts k old good v l e = (made k old good v).facts l e

  stage : (k : ℕ) → (s : Stage) × IsStage k s
  stage zero = (record { entries_of = λ v. []; words = λ v. []; opens = λ v. [] }, λ v l e. absurd (let a = bound.1 v l in omega arith))
  stage (suc k) = (next_stage k (stage k).0 (stage k).1, λ v l e. (next_facts k (stage k).0 (stage k).1 v l e).is_part)

  -- ---- all vertices
  E : ℕ → List ℕ
  E v = (stage (N - depth v)).0.entries_of v

  W : ℕ → List Dart
  W v = (stage (N - depth v)).0.words v

  O : ℕ → List Dart
  O v = (stage (N - depth v)).0.opens v

  facts_at : (v j : ℕ) → v < n → j + 1 ≡ N - depth v → Facts (stage j).0 v (E v) (W v) (O v)
  unfolding E W O stage
  facts_at v j l e =
      let k : suc j ≡ N - depth v = omega arith in
      subst (λ i. Facts (stage j).0 v ((stage i).0.entries_of v) ((stage i).0.words v) ((stage i).0.opens v)) k (next_facts j (stage j).0 (stage j).1 v l (omega arith))

  height : (v : ℕ) → v < n → N - depth v - 1 + 1 ≡ N - depth v
  height v l = let a = bound.1 v l in omega arith

  abbrev facts : (v : ℕ) (l : v < n) → Facts (stage (N - depth v - 1)).0 v (E v) (W v) (O v)
  facts v l = facts_at v (N - depth v - 1) l (height v l)

  word_same : (u j : ℕ) → j ≡ N - depth u → (stage j).0.words u ≡ W u
  unfolding W
  word_same u j e = ap (λ i. (stage i).0.words u) e

  through_all : (v : ℕ) → v < n → W v ≡ joined (tour_at Child W v) (E v)
  through_all v l =
      let j = N - depth v - 1 in
      let old : ℕ → List Dart = (stage j).0.words in
      (facts v l).through ∙ joined_same (tour_at Child old v) (tour_at Child W v) (E v) (λ u c.
      elim (cases_Bool (Child v u)) [
        | inl t ↦
            let deep = child_deep n edge parent depth root left g sides v u t in
            ap (λ z. cond (Child v u) ((v, u) ∷ (z ++ (u, v) ∷ [])) ((v, u) ∷ [])) (word_same u j (omega arith))
        | inr f ↦ cond-false {A = List Dart} (Child v u) ((v, u) ∷ (old u ++ (u, v) ∷ [])) ((v, u) ∷ []) f ∙ sym (cond-false {A = List Dart} (Child v u) ((v, u) ∷ (W u ++ (u, v) ∷ [])) ((v, u) ∷ []) f)
      ])

  stands : (v : ℕ) → v < n → Stands n edge parent depth root left g sides E W O v
  stands v l = record { is_part = (facts v l).is_part; are = (facts v l).are; through = through_all v l }

  pub map_of_edges : (made_lists : Lists) × IsMapOfEdges n edge made_lists
  map_of_edges = (lists n edge parent depth root left g sides E W O stands, is_map n edge parent depth root left g sides E W O stands)
