-- Tables filled vertex by vertex are those of a tree whose last vertices stand.
use Rattle.std.proofs.Common.{◌≡◌, ◌≢◌, ◌↔◌, ℕ, ◌+◌, ◌-◌, ◌<◌, ◌≤◌, Bool, true, not, cond, eqb, List, [], ◌∷◌, ◌++◌, length, filter, Contains, slice_index, slice_index_or, refl, sym, ap, ◌∙◌, subst, inl, inr, arith, eq-eqb, ne_eqb, length-append}
use Rattle.std.proofs.Math.ListN.{get_or-append}
use Rattle.std.proofs.lemmas.Bool.{cases_Bool, cases_eq, cond-true, cond-false}
use Rattle.std.proofs.lemmas.List.{get_or-append-add}
use Rattle.map_lists.specs.Lists.{Lists}
use Rattle.map_theory.specs.Maps.{Dart, list_of}
use Rattle.graphs.specs.Graphs.{EdgeGraph, has_edge}
use Rattle.plane_laws.proofs.KeptEdges.{same_kept}
use Rattle.embed_theorem.specs.Expanded.{IsMapOf}
use Rattle.left_right_maps.specs.RootedMaps.{is_child, joined as joined_lists}
use Rattle.left_right_maps.proofs.Opens.{joined_same}
use Rattle.left_right_maps.proofs.Lines.{child_is}
use Rattle.left_right_maps.proofs.Parts.{child_edge, Part, Sorted, items, returns}
use Rattle.left_right_maps.proofs.Whole.{Stands, row, row_root, row_other, lists, long, list_is, is_map}
use Rattle.left_right_lists.specs.Trees.{joined, AreSides, IsTreeOf}
use Rattle.left_right_lists.specs.Sides.{side_in}
use Rattle.left_right_lists.specs.Orders.{returns_in, IsFree, IsOrderOf}
use Rattle.left_right_lists.specs.Blocks.{uppers, lefts, middle, rights, returned, block, opens_in, AreValues}
use Rattle.left_right_lists.specs.Placing.{returned_at, block_at, AreTablesAt, HasChildren, IsReady, IsOrderAt, entries_in, row_at, AreRows}
use Rattle.left_right_lists.specs.declared.tree.Tree.{Tree}
use Rattle.left_right_lists.proofs.PlacedLemmas.{ArePlaced, parts, order}
use Rattle.left_right_lists.proofs.Forked.{items_are, returned_same, sorted_of, order_of_sorted}
use Rattle.left_right_lists.proofs.Stepped.{stepped}
use Rattle.left_right_lists.proofs.Ordered.{in_free}

-- the entries of v, and what waits below it, by some order
pub record IsPlacedBy (graph : EdgeGraph) (tree : Tree) (sides : List Bool) (opens : List (List Dart)) (v : ℕ) (list : List ℕ) (waiting : List Dart) : Type 0 where
  pub us : List ℕ
  pub order : IsOrderAt graph tree sides opens v us
  pub list_is : list ≡ joined_lists (block_at graph.n tree opens v) us
  pub waiting_is : waiting ≡ joined_lists (returned_at graph.n tree opens v) us

-- ---- rows for some vertices, as the code hands them over
pub rows_within : {X : Type 0} (f : ℕ → List X) (rows : List (List X)) (n : ℕ) {us' us : List ℕ} → us' ≡ us → AreValues f [] rows n → ((u : ℕ) → Contains us u → u < n) → (u : ℕ) → Contains us' u → u < length rows
rows_within f rows n e h within u m =
    omega (arith, within u (subst (λ z. Contains z u) e m), h.long)

pub rows_joined : {X : Type 0} (f : ℕ → List X) (rows : List (List X)) (n : ℕ) (list : List X) {us' us : List ℕ} → us' ≡ us → AreValues f [] rows n → ((u : ℕ) → Contains us u → u < n) → list ≡ joined_lists (λ u. slice_index_or rows u []) us' → list ≡ joined_lists f us
rows_joined f rows n list {us'} {us} e h within is =
    is ∙ (ap (joined_lists (λ u. slice_index_or rows u [])) e ∙ joined_same (λ u. slice_index_or rows u []) f us (λ u c. h.at u (within u c)))

pub order_by : (sides : List Bool) (rows : List (List Dart)) (us : List ℕ) {ds' ds : List ℕ} {free' free : List Bool} → ds' ≡ ds → free' ≡ free → IsOrderOf ds' sides rows free' us → IsOrderOf ds sides rows free us
order_by sides rows us {ds'} {ds} {free'} {free} d e h =
    subst (λ z. IsOrderOf ds sides rows z us) e (subst (λ z. IsOrderOf z sides rows free' us) d h)

-- all vertices in an order are some of the graph
pub order_within : (graph : EdgeGraph) (tree : Tree) (sides : List Bool) (opens : List (List Dart)) (v : ℕ) (us : List ℕ) → IsOrderAt graph tree sides opens v us → (u : ℕ) → Contains us u → u < graph.n
order_within graph tree sides opens v us h u c =
    omega (arith, in_free h.marks u ((h.order.all u).0 c), h.tables.marked.long)

-- what a table that grows at its end has at a place
at_end : {X : Type 0} (table new : List (List X)) (x : List X) (p : ℕ) → new ≡ table ++ x ∷ [] → p ≡ length table → slice_index_or new p [] ≡ x
at_end table new x p is e =
    let q : p ≡ length table + 0 = omega (arith, e) in
    ap (λ z. slice_index_or z p []) is ∙ (ap (λ i. slice_index_or (table ++ x ∷ []) i []) q ∙ get_or-append-add table (x ∷ []) 0 [])

before_end : {X : Type 0} (table new : List (List X)) (x : List X) (p : ℕ) → new ≡ table ++ x ∷ [] → p < length table → slice_index_or new p [] ≡ slice_index_or table p []
before_end table new x p is l =
    ap (λ z. slice_index_or z p []) is ∙ get_or-append table (x ∷ []) [] p l

-- a function with another value at one place
put : {X : Type 0} → ℕ → X → (ℕ → X) → ℕ → X
put v x f u = cond (eqb u v) x (f u)

put_here : {X : Type 0} (v : ℕ) (x : X) (f : ℕ → X) → put v x f v ≡ x
unfolding put
put_here {X} v x f = cond-true {A = X} (eqb v v) x (f v) (eq-eqb v v refl)

put_other : {X : Type 0} (v : ℕ) (x : X) (f : ℕ → X) (u : ℕ) → u ≢ v → put v x f u ≡ f u
unfolding put
put_other {X} v x f u ne = cond-false {A = X} (eqb u v) x (f u) (ne_eqb u v ne)

module _ (graph : EdgeGraph) (tree : Tree) (h : IsTreeOf graph tree) (sides : List Bool) (parted : AreSides graph tree.parents.items tree.depths.items (side_in sides)) where
  abbrev n : ℕ
  n = graph.n

  abbrev edge : ℕ → ℕ → Bool
  edge = joined graph tree.parents.items tree.depths.items

  abbrev parent : ℕ → ℕ
  parent = slice_index tree.parents.items

  abbrev depth : ℕ → ℕ
  depth = slice_index tree.depths.items

  abbrev number : ℕ → ℕ
  number = slice_index tree.number.items

  abbrev left : ℕ → ℕ → Bool
  left = side_in sides

  pub only : (u v : ℕ) → u < n → v < n → number u ≡ number v → u ≡ v
  only u v lu lv e = sym (h.own u lu) ∙ (ap (slice_index tree.order.items) e ∙ h.own v lv)

  abbrev AreStanding : (ℕ → List ℕ) → (ℕ → List Dart) → ℕ → Type 0
  AreStanding E O k = ArePlaced n edge parent depth tree.root left h.tree parted number h.rising only E O k

  -- tables of the last k vertices
  pub record IsFilled (entries : List (List ℕ)) (opens : List (List Dart)) (k : ℕ) : Type 0 where
    pub entries_long : length entries ≡ k
    pub opens_long : length opens ≡ k
    pub E : ℕ → List ℕ
    pub O : ℕ → List Dart
    pub placed : AreStanding E O k
    pub entries_are : (v : ℕ) → v < n → n ≤ number v + k → entries_in n tree entries v ≡ E v
    pub opens_are : (v : ℕ) → v < n → n ≤ number v + k → opens_in n tree.number.items opens v ≡ O v

  pub filled_none : (entries : List (List ℕ)) (opens : List (List Dart)) → entries ≡ [] → opens ≡ [] → IsFilled entries opens 0
  filled_none entries opens e o =
      record {
        entries_long = ap length e;
        opens_long = ap length o;
        E = λ v. [];
        O = λ v. [];
        placed = record { words = λ v. []; stands = λ v l far. absurd (let a = h.numbered v l in omega (arith, a, far)) };
        entries_are = λ v l far. absurd (let a = h.numbered v l in omega (arith, a, far));
        opens_are = λ v l far. absurd (let a = h.numbered v l in omega (arith, a, far));
      }

  -- the vertex that comes next
  pub next_vertex : (n' k v : ℕ) (us : List ℕ) → n' ≡ n → k < n' → us ≡ tree.order.items → v ≡ slice_index us (n' - 1 - k) → (v < n) × (number v + (k + 1) ≡ n)
  next_vertex n' k v us count l same is =
      let p : ℕ = n - 1 - k in
      let in_order : p < n = omega (arith, l, count) in
      let e : v ≡ slice_index tree.order.items p = is ∙ (ap (λ xs. slice_index xs (n' - 1 - k)) same ∙ ap (λ z. slice_index tree.order.items (z - 1 - k)) count) in
      (subst (λ z. z < n) (sym e) (h.vertex p in_order), omega (arith, h.place p in_order, ap number e, l, count))

  module _ (entries : List (List ℕ)) (opens : List (List Dart)) (k v : ℕ) (f : IsFilled entries opens k) (in_n : v < n) (next : number v + (k + 1) ≡ n) where
    abbrev O : ℕ → List Dart
    O = f.O

    abbrev Parts : (u : ℕ) → is_child parent depth v u ≡ true → Part n edge parent depth tree.root left h.tree parted u (f.placed.words u) (O u)
    Parts = parts n edge parent depth tree.root left h.tree parted number h.rising only f.E O k v f.placed in_n next

    child_in : (u : ℕ) → is_child parent depth v u ≡ true → u < n
    child_in u t =
        h.tree.in_range u v (h.tree.both_ways v u (child_edge n edge parent depth tree.root left h.tree parted v u t))

    child_late : (u : ℕ) → is_child parent depth v u ≡ true → n ≤ number u + k
    child_late u t =
        let is = child_is parent depth v u t in
        omega (arith, h.rising u is.0, ap number is.1, next)

    same_open : (u : ℕ) → is_child parent depth v u ≡ true → opens_in n tree.number.items opens u ≡ O u
    same_open u t = f.opens_are u (child_in u t) (child_late u t)

    same_returned : (u : ℕ) → returned_at n tree opens v u ≡ returned parent depth O v u
    same_returned u =
        elim (cases_Bool (is_child parent depth v u)) [
          | inl t ↦ ap (λ z. cond (is_child parent depth v u) (middle v z) ((v, u) ∷ [])) (same_open u t)
          | inr off ↦ cond-false {A = List Dart} (is_child parent depth v u) (middle v (opens_in n tree.number.items opens u)) ((v, u) ∷ []) off ∙ sym (cond-false {A = List Dart} (is_child parent depth v u) (middle v (O u)) ((v, u) ∷ []) off)
        ]

    same_block : (u : ℕ) → block_at n tree opens v u ≡ block parent depth O v u
    same_block u =
        elim (cases_Bool (is_child parent depth v u)) [
          | inl t ↦ ap (λ (z : List Dart). cond (is_child parent depth v u) (uppers (lefts v z) ++ u ∷ uppers (rights v z)) (u ∷ [])) (same_open u t)
          | inr off ↦ cond-false {A = List ℕ} (is_child parent depth v u) (uppers (lefts v (opens_in n tree.number.items opens u)) ++ u ∷ uppers (rights v (opens_in n tree.number.items opens u))) (u ∷ []) off ∙ sym (cond-false {A = List ℕ} (is_child parent depth v u) (uppers (lefts v (O u)) ++ u ∷ uppers (rights v (O u))) (u ∷ []) off)
        ]

    pub children : HasChildren n tree opens v
    children u t =
        omega (arith, h.numbered u (child_in u t), child_late u t, f.opens_long)

    module _ (marks : List Bool) (rows : List (List Dart)) (tables : AreTablesAt graph tree opens v marks rows) where
      abbrev Items : List ℕ
      Items = items n edge parent depth tree.root left h.tree parted v f.placed.words O Parts

      abbrev Returns : ℕ → List Dart
      Returns = returns n edge parent depth tree.root left h.tree parted v f.placed.words O Parts

      marked : (u : ℕ) → Contains Items u ↔ IsFree marks u
      marked u =
          let is = items_are n edge parent depth tree.root left h.tree parted v f.placed.words O Parts u in (
            (λ c. let p = is.0 c in tables.marked.at u p.0 ∙ p.1),
            (λ t.
                let l = in_free marks u t in
                let e = tables.marked.long in
                let l' : u < n = omega (arith, l, e) in
                is.1 (l', sym (tables.marked.at u l') ∙ t)),
          )

      rows_are : (u : ℕ) → Contains Items u → returns_in rows u ≡ Returns u
      rows_are u c =
          let is = (items_are n edge parent depth tree.root left h.tree parted v f.placed.words O Parts u).0 c in
          tables.filled.at u is.0 ∙ (same_returned u ∙ returned_same n edge parent depth tree.root left h.tree parted v f.placed.words O Parts u)

      abbrev Order : Type 0
      Order = Sorted n edge parent depth tree.root left h.tree parted v f.placed.words O Parts

      some_order : (us : List ℕ) × IsOrderOf tree.depths.items sides rows marks us
      some_order =
          let s = order n edge parent depth tree.root left h.tree parted number h.rising only f.E O k v f.placed in_n next in
          let p = order_of_sorted n edge parent depth tree.root left h.tree parted v f.placed.words O Parts marks rows marked rows_are s in
          (s.0, record { all = p.0; pairs = p.1 })

      sorted : (us : List ℕ) → IsOrderOf tree.depths.items sides rows marks us → (s : Order) × (s.0 ≡ us)
      unfolding sorted_of
      sorted us o =
          (sorted_of n edge parent depth tree.root left h.tree parted v f.placed.words O Parts marks rows marked rows_are us (o.all, o.pairs), refl)

    pub ready : IsReady graph tree sides opens v
    ready = some_order

    module _ (entries' : List (List ℕ)) (opens' : List (List Dart)) (list : List ℕ) (waiting : List Dart) (by : IsPlacedBy graph tree sides opens v list waiting) (is : entries' ≡ entries ++ list ∷ []) (is' : opens' ≡ opens ++ waiting ∷ []) where
      abbrev E' : ℕ → List ℕ
      E' = put v list f.E

      abbrev O' : ℕ → List Dart
      O' = put v waiting O

      stands : AreStanding E' O' (k + 1)
      stands =
          let o = by.order in
          let s = sorted o.marks o.rows o.tables by.us o.order in
          stepped n edge parent depth tree.root left h.tree parted number h.rising only f.E O k v f.placed in_n next s.0 E' O' (put_other v list f.E) (put_other v waiting O)
          (put_here v list f.E ∙ (by.list_is ∙ (joined_same (block_at n tree opens v) (block parent depth O v) by.us (λ u c. same_block u) ∙ ap (joined_lists (block parent depth O v)) (sym s.1))))
          (put_here v waiting O ∙ (by.waiting_is ∙ (joined_same (returned_at n tree opens v) (returned parent depth O v) by.us (λ u c. same_returned u) ∙ ap (joined_lists (returned parent depth O v)) (sym s.1))))

      earlier : (w : ℕ) → w < n → n ≤ number w + (k + 1) → w ≢ v → n ≤ number w + k
      earlier w l far ne =
          elim (cases_eq (number w) (number v)) [ inl e ↦ absurd (ne (only w v l in_n e)) | inr apart ↦ omega (arith, apart, far, next) ]

      pub filled_more : IsFilled entries' opens' (k + 1)
      filled_more =
          let a = f.entries_long in
          let b = f.opens_long in
          record {
            entries_long = (let c = length-append entries (list ∷ []) in let d = ap length is in omega (arith, a, c, d));
            opens_long = (let c = length-append opens (waiting ∷ []) in let d = ap length is' in omega (arith, b, c, d));
            E = E';
            O = O';
            placed = stands;
            entries_are = λ w l far. elim (cases_eq w v) [
              | inl e ↦ (let q = ap number e in at_end entries entries' list (n - 1 - number w) is (omega (arith, q, next, a))) ∙ (sym (put_here v list f.E) ∙ ap E' (sym e))
              | inr ne ↦ (let late = earlier w l far ne in let m = h.numbered w l in before_end entries entries' list (n - 1 - number w) is (omega (arith, late, m, a)) ∙ (f.entries_are w l late ∙ sym (put_other v list f.E w ne)))
            ];
            opens_are = λ w l far. elim (cases_eq w v) [
              | inl e ↦ (let q = ap number e in at_end opens opens' waiting (n - 1 - number w) is' (omega (arith, q, next, b))) ∙ (sym (put_here v waiting O) ∙ ap O' (sym e))
              | inr ne ↦ (let late = earlier w l far ne in let m = h.numbered w l in before_end opens opens' waiting (n - 1 - number w) is' (omega (arith, late, m, b)) ∙ (f.opens_are w l late ∙ sym (put_other v waiting O w ne)))
            ];
          }

  -- ---- all vertices
  module _ (entries : List (List ℕ)) (opens : List (List Dart)) (f : IsFilled entries opens n) where
    abbrev W : ℕ → List Dart
    W = f.placed.words

    facts : (v : ℕ) → v < n → Stands n edge parent depth tree.root left h.tree parted f.E W f.O v
    facts v l = f.placed.stands v l (omega arith)

    abbrev Whole : Lists
    Whole = lists n edge parent depth tree.root left h.tree parted f.E W f.O facts

    row_is : (v : ℕ) → v < n → list_of Whole v ≡ row_at n tree entries v
    row_is v l =
        let whole = entries_in n tree entries v ++ parent v ∷ [] in
        let own = f.entries_are v l (omega arith) in
        list_is n edge parent depth tree.root left h.tree parted f.E W f.O facts v l
        ∙ elim (cases_eq v tree.root) [
          | inl e ↦ (
              ap (row n edge parent depth tree.root left h.tree parted f.E W f.O facts) e
              ∙ (row_root n edge parent depth tree.root left h.tree parted f.E W f.O facts
              ∙ (ap f.E (sym e) ∙ (sym own ∙ sym (cond-false {A = List ℕ} (not (eqb v tree.root)) whole (entries_in n tree entries v) (ap not (eq-eqb v tree.root e))))))
              )
          | inr ne ↦ (
              row_other n edge parent depth tree.root left h.tree parted f.E W f.O facts v ne
              ∙ (ap (λ z. z ++ parent v ∷ []) (sym own) ∙ sym (cond-true {A = List ℕ} (not (eqb v tree.root)) whole (entries_in n tree entries v) (ap not (ne_eqb v tree.root ne))))
              )
        ]

    pub filled_map : (made : Lists) → AreRows graph tree entries made → IsMapOf made graph
    filled_map made rows =
        let a = long n edge parent depth tree.root left h.tree parted f.E W f.O facts in
        let same = same_kept (has_edge graph) Whole made (omega (arith, a, rows.long)) (λ v l.
        let l' : v < n = omega (arith, l, a) in
        ap (filter (has_edge graph v)) (row_is v l') ∙ sym (rows.at v l')) in
        subst (λ z. IsMapOf z graph) same (h.kept Whole (is_map n edge parent depth tree.root left h.tree parted f.E W f.O facts))
