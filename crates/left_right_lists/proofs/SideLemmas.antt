-- Sides of return edges by number, as a partition and as a table.
use Rattle.std.proofs.Common.{◌≡◌, ◌↔◌, ℕ, zero, suc, ◌+◌, ◌-◌, ◌<◌, ◌≤◌, Bool, true, false, List, ◌++◌, length, take, set, Contains, sym, ap, ◌∙◌, subst, inl, inr, arith, slice_index, slice_index_or, get_or-set_same, get_or-set_other}
use Rattle.std.specs.Prelude.{Option, Some, None, MatchOption}
use Rattle.std.proofs.lemmas.Bool.{cases_eq, cases_lt}
use Rattle.std.proofs.lemmas.List.{get_or_past, get_or-map, get_or_default}
use Rattle.std.proofs.Math.Seq.{take-append_seam}
use Rattle.map_theory.specs.Maps.{Dart}
use Rattle.graphs.specs.Graphs.{EdgeGraph}
use Rattle.left_right_laws.specs.Forests.{IsReturn}
use Rattle.left_right_maps.specs.Orders.{IsEdge}
use Rattle.left_right_maps.specs.Trees.{IsDepthFirstTree}
use Rattle.left_right_sides.specs.Standing.{Rooted, Returned, IsSearchTree, MeetsAll}
use Rattle.left_right_sides.specs.Views.{rooted_by, upper_depths, AreNumbered}
use Rattle.left_right_lists.specs.Trees.{joined, AreSides, AreOfTree}
use Rattle.left_right_lists.specs.Sides.{dart_place, side_in, AreTold, AreOrdered, IsRising}
use Rattle.left_right_lists.proofs.Collected.{AreRising}

abbrev pub dart_at : List Dart → ℕ → Dart
dart_at darts x = slice_index_or darts x (0, 0)

-- ---- edges in order
pub place_before : (darts : List Dart) → AreOrdered darts → (x y : ℕ) → x < y → y < length darts → dart_place (dart_at darts x) < dart_place (dart_at darts y)
place_before darts h x y l m = h x y (0, 0) l m

-- an edge comes no earlier than its number
place_least : (darts : List Dart) → AreOrdered darts → (x : ℕ) → x < length darts → x ≤ dart_place (dart_at darts x)
place_least darts h zero l = omega arith
place_least darts h (suc x) l =
    let before = place_least darts h x (omega arith) in
    let next = place_before darts h x (suc x) (omega arith) l in
    omega (arith, before, next)

pub in_list : (darts : List Dart) (x : ℕ) → x < length darts → Contains darts (dart_at darts x)
in_list darts x l = (x, l, get_or_default darts x (dart_at darts x) (0, 0) l)

-- no more edges than places
pub few_ordered : (darts : List Dart) (bound : ℕ) → AreOrdered darts → ((d : Dart) → Contains darts d → dart_place d < bound) → length darts ≤ bound
few_ordered darts bound h below =
    elim (cases_lt 0 (length darts)) [
      | inr none ↦ omega arith
      | inl some ↦
          let last : length darts - 1 < length darts = omega arith in
          let a = place_least darts h (length darts - 1) last in
          let b = below (dart_at darts (length darts - 1)) (in_list darts (length darts - 1) last) in
          omega (arith, a, b)
    ]

-- ---- a table of sides
abbrev pub AreToldTo : List Dart → List Bool → List Bool → ℕ → Type 0
AreToldTo darts numbered sides k =
    (x : ℕ) → x < k → slice_index_or sides (dart_place (dart_at darts x)) false ≡ slice_index_or numbered x false

pub told_more : (darts : List Dart) (numbered sides : List Bool) (k p : ℕ) (s : Bool) → AreOrdered darts → k < length darts → p ≡ dart_place (dart_at darts k) → p < length sides → s ≡ slice_index_or numbered k false → AreToldTo darts numbered sides k → AreToldTo darts numbered (set sides p s) (k + 1)
told_more darts numbered sides k p s ordered l at room is h x m =
    elim (cases_eq x k) [
      | inl e ↦
          ap (λ z. slice_index_or (set sides p s) (dart_place (dart_at darts z)) false) e
          ∙ (ap (λ z. slice_index_or (set sides p s) z false) (sym at) ∙ (get_or-set_same sides p s false room ∙ (is ∙ ap (λ z. slice_index_or numbered z false) (sym e))))
      | inr ne ↦
          let before = place_before darts ordered x k (omega arith) l in
          get_or-set_other sides p (dart_place (dart_at darts x)) s false (omega (arith, before, at)) ∙ h x (omega arith)
    ]

-- a table that was lent whole
pub lent_whole : (new rest : List Bool) (n : ℕ) → n ≡ length new → take n (new ++ rest) ≡ new
lent_whole new rest n e = ap (λ k. take k (new ++ rest)) e ∙ take-append_seam new rest

-- ---- a graph's tree with its upward edges
module _ (graph : EdgeGraph) (root : ℕ) (order number parents depths : List ℕ) (h : AreOfTree graph root order number parents depths) where
  abbrev P : ℕ → ℕ
  P = slice_index parents

  abbrev D : ℕ → ℕ
  D = slice_index depths

  abbrev Returns : ℕ → ℕ → ℕ → ℕ → Type 0
  Returns v e t w = IsReturn (IsEdge (joined graph parents depths)) P D v e t w

  pub deep_in : (v : ℕ) → 0 < D v → v < graph.n
  deep_in v some =
      elim (cases_lt v graph.n) [ inl l ↦ l | inr m ↦ (let p = get_or_past depths v 0 (omega (arith, h.depths_long)) in absurd (omega arith)) ]

  pub ends_in : (u v : ℕ) → joined graph parents depths u v ≡ true → (u < graph.n) × (v < graph.n)
  ends_in u v t = (h.tree.in_range u v t, h.tree.in_range v u (h.tree.both_ways u v t))

  -- edges that lead upwards have their ends in the graph
  pub upward_is : (darts : List Dart) → AreRising graph parents depths graph.n darts → (d : Dart) → Contains darts d ↔ IsRising graph parents depths d
  upward_is darts are d = ((λ c. ((are d).0 c).1.1), (λ r. let l = ends_in d.0 d.1 r.1 in (are d).1 (l.0, (l.1, r))))

  -- an edge that returns leads upwards
  rising : (v e t w : ℕ) → Returns v e t w → IsRising graph parents depths (t, w)
  rising v e t w r = let a = r.higher in let b = r.under.depths in (omega arith, r.edge)

  module _ (darts : List Dart) (are : (d : Dart) → Contains darts d ↔ IsRising graph parents depths d) (ordered : AreOrdered darts) where
    abbrev pub tree_of_edges : Rooted
    tree_of_edges = rooted_by (joined graph parents depths) (slice_index number) parents depths darts (upper_depths depths darts)

    pub places_in : (d : Dart) → Contains darts d → dart_place d < 65280
    places_in d c =
        let l = ends_in d.0 d.1 ((are d).0 c).1 in
        let a = l.0 in
        let b = l.1 in
        let few = h.few in
        omega arith

    height_at : (x : ℕ) → x < length darts → slice_index (upper_depths depths darts) x ≡ D (dart_at darts x).1
    height_at x l = get_or-map (λ (d : Dart). slice_index depths d.1) darts x (0, 0) 0 l

    number_of : (t w : ℕ) → IsRising graph parents depths (t, w) → (x : ℕ) × ((x < length darts) × (dart_at darts x ≡ (t, w)))
    number_of t w r =
        let c = (are (t, w)).1 r in
        (c.0, (c.1, get_or_default darts c.0 (0, 0) (t, w) c.1 ∙ c.2))

    rises : (x : ℕ) → x < length darts → IsRising graph parents depths (dart_at darts x)
    rises x l = (are (dart_at darts x)).0 (in_list darts x l)

    same_number : (x y : ℕ) → x < length darts → y < length darts → dart_at darts x ≡ dart_at darts y → x ≡ y
    same_number x y l m e =
        elim (cases_eq x y) [
          | inl same ↦ same
          | inr ne ↦
              let p = ap dart_place e in
              elim (cases_lt x y) [
                | inl less ↦ (let b = place_before darts ordered x y less m in absurd (omega (arith, b, p)))
                | inr more ↦ (let b = place_before darts ordered y x (omega arith) l in absurd (omega (arith, b, p)))
              ]
        ]

    vertices : length parents ≡ graph.n
    vertices = h.parents_long

    -- the tree and its edges are as the search for sides wants them
    pub searched : IsSearchTree tree_of_edges root
    searched =
        record {
          tree = subst (λ n. IsDepthFirstTree n (joined graph parents depths) P D root) (sym vertices) h.tree;
          upward = λ x l. ((rises x l).1, (rises x l).0);
          only = same_number;
          all_edges = λ t w e less. number_of t w (less, e);
          rising = h.rising;
          apart = λ u v l m e. sym (h.own u (omega (arith, vertices, l))) ∙ (ap (slice_index order) e ∙ h.own v (omega (arith, vertices, m)));
          numbered = λ u l. (let a = h.numbered u (omega (arith, vertices, l)) in omega (arith, vertices, a));
          height_is = height_at;
        }

    pub numbers_are : AreNumbered tree_of_edges order
    numbers_are j l = ((let a = h.vertex j (omega (arith, vertices, l)) in omega (arith, vertices, a)), h.place j (omega (arith, vertices, l)))

    -- a partition meets all forks
    pub parted_meets : (left : ℕ → ℕ → Bool) → AreSides graph parents depths left → MeetsAll tree_of_edges (λ x. left (dart_at darts x).0 (dart_at darts x).1)
    parted_meets left sides v l e f apart =
        let at = sides v e f apart in (
          at.0,
          λ x y one two.
              let both = at.1 (dart_at darts x).0 (dart_at darts x).1 (dart_at darts y).0 (dart_at darts y).1 one.1 two.1 in
              let hx = height_at x one.0 in
              let hy = height_at y two.0 in
              ((λ less. both.0 (omega (arith, hx, hy, less))), (λ less. both.1 (omega (arith, hx, hy, less)))),
        )

    -- sides that meet all forks are a partition
    pub met_parts : (side : ℕ → Bool) (left : ℕ → ℕ → Bool) → ((x : ℕ) → x < length darts → left (dart_at darts x).0 (dart_at darts x).1 ≡ side x) → MeetsAll tree_of_edges side → AreSides graph parents depths left
    met_parts side left told met v e f apart =
        elim (cases_lt v graph.n) [
          | inr past ↦ (true, λ t w s z one two. (let a = one.higher in let l = deep_in v (omega arith) in absurd (omega arith)))
          | inl l ↦
              let at = met v (omega (arith, vertices, l)) e f apart in (
                at.0,
                λ t w s z one two.
                    let x = number_of t w (rising v e t w one) in
                    let y = number_of s z (rising v f s z two) in
                    let by_x : Returned tree_of_edges v e x.0 = (x.1.0, subst (λ (d : Dart). Returns v e d.0 d.1) (sym x.1.1) one) in
                    let by_y : Returned tree_of_edges v f y.0 = (y.1.0, subst (λ (d : Dart). Returns v f d.0 d.1) (sym y.1.1) two) in
                    let both = at.1 x.0 y.0 by_x by_y in
                    let hx = height_at x.0 x.1.0 ∙ ap (λ (d : Dart). D d.1) x.1.1 in
                    let hy = height_at y.0 y.1.0 ∙ ap (λ (d : Dart). D d.1) y.1.1 in
                    let left_x : left t w ≡ side x.0 = ap (λ (d : Dart). left d.0 d.1) (sym x.1.1) ∙ told x.0 x.1.0 in
                    let left_y : left s z ≡ side y.0 = ap (λ (d : Dart). left d.0 d.1) (sym y.1.1) ∙ told y.0 y.1.0 in
                    ((λ less. left_x ∙ both.0 (omega (arith, hx, hy, less))), (λ less. left_y ∙ both.1 (omega (arith, hx, hy, less)))),
              )
        ]

    -- what the search for sides answers, of the same tables by other names
    module _ {X : Type 0} (items : X → List Bool) (found : Option X) where
      abbrev pub MatchSides : List ℕ → List ℕ → List Dart → List ℕ → Type 0
      MatchSides ps ds xs os =
          (edge : ℕ → ℕ → Bool) (number : ℕ → ℕ) (root : ℕ) → IsSearchTree (rooted_by edge number ps ds xs (upper_depths ds xs)) root → AreNumbered (rooted_by edge number ps ds xs (upper_depths ds xs)) os → length os ≡ length ps → MatchOption found ((side : ℕ → Bool) → ¬ MeetsAll (rooted_by edge number ps ds xs (upper_depths ds xs)) side) (λ sides. MeetsAll (rooted_by edge number ps ds xs (upper_depths ds xs)) (λ x. slice_index_or (items sides) x false))

      pub answered : {ps ds os : List ℕ} {xs : List Dart} → ps ≡ parents → ds ≡ depths → xs ≡ darts → os ≡ order → MatchSides ps ds xs os → MatchOption found ((side : ℕ → Bool) → ¬ MeetsAll tree_of_edges side) (λ sides. MeetsAll tree_of_edges (λ x. slice_index_or (items sides) x false))
      answered {ps} {ds} {os} {xs} p d x o told =
          let first : MatchSides parents ds xs os = subst (λ l. MatchSides l ds xs os) p told in
          let second : MatchSides parents depths xs os = subst (λ l. MatchSides parents l xs os) d first in
          let third : MatchSides parents depths darts os = subst (λ (l : List Dart). MatchSides parents depths l os) x second in
          let last : MatchSides parents depths darts order = subst (λ l. MatchSides parents depths darts l) o third in
          last (joined graph parents depths) (slice_index number) root searched numbers_are (h.order_long ∙ sym vertices)

      -- it found none, so there is no partition
      pub answered_none : {ps ds os : List ℕ} {xs : List Dart} → ps ≡ parents → ds ≡ depths → xs ≡ darts → os ≡ order → found ≡ None → MatchSides ps ds xs os → (left : ℕ → ℕ → Bool) → ¬ AreSides graph parents depths left
      answered_none {ps} {ds} {os} {xs} p d x o is told left sides =
          let none : (side : ℕ → Bool) → ¬ MeetsAll tree_of_edges side = subst (λ (f : Option X). MatchOption f ((side : ℕ → Bool) → ¬ MeetsAll tree_of_edges side) (λ sides. MeetsAll tree_of_edges (λ x. slice_index_or (items sides) x false))) is (answered {ps = ps} {ds = ds} {os = os} {xs = xs} p d x o told) in
          none (λ x. left (dart_at darts x).0 (dart_at darts x).1) (parted_meets left sides)

      -- it found some, and a table has them
      pub answered_some : {ps ds os : List ℕ} {xs : List Dart} → ps ≡ parents → ds ≡ depths → xs ≡ darts → os ≡ order → (numbered : X) → found ≡ Some numbered → MatchSides ps ds xs os → (ys : List Dart) (list table : List Bool) → ys ≡ darts → list ≡ items numbered → AreTold ys list table → AreSides graph parents depths (side_in table)
      answered_some {ps} {ds} {os} {xs} p d x o numbered is told ys list table y l by_number =
          let some : MeetsAll tree_of_edges (λ x. slice_index_or (items numbered) x false) = subst (λ (f : Option X). MatchOption f ((side : ℕ → Bool) → ¬ MeetsAll tree_of_edges side) (λ sides. MeetsAll tree_of_edges (λ x. slice_index_or (items sides) x false))) is (answered {ps = ps} {ds = ds} {os = os} {xs = xs} p d x o told) in
          let first : AreTold darts list table = subst (λ (es : List Dart). AreTold es list table) y by_number in
          let second : AreTold darts (items numbered) table = subst (λ (bs : List Bool). AreTold darts bs table) l first in
          met_parts (λ x. slice_index_or (items numbered) x false) (side_in table) second some
