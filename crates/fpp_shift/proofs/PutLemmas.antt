-- The writes for a new vertex are what a step writes.
use Rattle.std.proofs.Common.{◌≡◌, ◌≢◌, ℕ, suc, ◌+◌, ◌-◌, ◌<◌, ◌≤◌, List, length, get_or, Option, Some, None, option_map, ℤ, pos, ◌+ℤ◌, refl, sym, ap, subst, ◌∙◌, inl, inr, arith}
use Rattle.std.proofs.lemmas.Bool.{cases_lt}
use Rattle.std.proofs.lemmas.Int.{ints}
use Rattle.contour_runs.specs.Runs.{Step, Stage, stage_after, IsStep}
use Rattle.contour_runs.specs.Laws.{IsStage}
use Rattle.fpp_shift.specs.Shift.{Places, shift_points, x_after, y_after}
use Rattle.fpp_shift.proofs.Steps.{x_after-contour, y_after-new, shift-between, shift-high}
use Rattle.fpp_shift.specs.declared.offset_trees.tree_nodes.Node.{Node}
use Rattle.fpp_shift.specs.Nodes.{node_at, left_of, right_of}
use Rattle.fpp_shift.specs.Grown.{links_of, first_covered, IsGrown, IsWritten}
use Rattle.fpp_shift.specs.Writes.{SetsX, SetsRight, SetsNode}
use Rattle.fpp_shift.specs.Next.{IsNextStep, CoversFrom}
use Rattle.fpp_shift.proofs.GrownLemmas.{next-some, next-none, IsGrown-after, IsGrown-base}
use Rattle.fpp_shift.proofs.NextLemmas.{stage, shift, step, count, across, along}

-- what the nodes say once those between p and q are told from the new vertex, x to the right of p
pub record IsCovering (at : List ℕ) (g : Stage) (s : Step) (nodes nodes' : List Node) (x : ℤ) (first : Option ℕ) : Type 0 where
  pub xs : (u : ℕ) → u < g.count → u ≢ g.vertex (suc s.first) → (node_at nodes' (get_or at u 0)).x ≡ (node_at nodes (get_or at u 0)).x
  pub ys : (w : ℕ) → (node_at nodes' w).y ≡ (node_at nodes w).y
  pub lefts : (w : ℕ) → left_of nodes' w ≡ left_of nodes w
  pub rights : (u : ℕ) → u < g.count → ((i : ℕ) → s.first < i → suc i ≡ s.last → u ≢ g.vertex i) → right_of nodes' (get_or at u 0) ≡ right_of nodes (get_or at u 0)
  pub link : first ≡ first_covered (λ k. get_or at k 0) g s
  pub first_x : suc s.first < s.last → x +ℤ (node_at nodes' (get_or at (g.vertex (suc s.first)) 0)).x ≡ (node_at nodes (get_or at (g.vertex (suc s.first)) 0)).x +ℤ pos 1
  pub last_right : (i : ℕ) → s.first < i → suc i ≡ s.last → right_of nodes' (get_or at (g.vertex i) 0) ≡ None

module _ (at : List ℕ) (steps : ℕ → Step) (n : ℕ) (nodes : List Node) (v p q : ℕ) (next : IsNextStep at steps n nodes v p q) where
  abbrev g : Stage
  g = stage_after steps n

  abbrev s : Step
  s = steps n

  abbrev points : Places
  points = shift_points steps n

  abbrev name : ℕ → ℕ
  name k = get_or at k 0

  st : IsStage g
  st = stage at steps n nodes v p q next

  sp : IsStep g s
  sp = step at steps n nodes v p q next

  cn : g.count ≡ n + 2
  cn = count at steps n nodes v p q next

  named : (u : ℕ) → u < g.count → u < length at
  named u l = let m = next.many in omega (arith, l, m, cn)

  differ : (i j : ℕ) → i < g.count → j < g.count → i ≢ j → name i ≢ name j
  differ i j l m ne e = ne (next.apart i j (named i l) (named j m) e)

  new-is : name g.count ≡ v
  new-is = ap name cn ∙ next.new

  differ-new : (u : ℕ) → u < g.count → name u ≢ v
  differ-new u l e = let same = next.apart u g.count (named u l) (let m = next.many in omega (arith, m, cn)) (e ∙ sym new-is) in omega (arith, same, l)

  apart : (i j : ℕ) → i < g.width → j < g.width → i ≢ j → g.vertex i ≢ g.vertex j
  apart i j l m ne e = ne (sym (st.own i l) ∙ ap g.place e ∙ st.own j m)

  -- nothing is covered
  covering-none : (nodes' : List Node) (x : ℤ) (first : Option ℕ) → s.last ≡ suc s.first → nodes' ≡ nodes → first ≡ None → IsCovering at g s nodes nodes' x first
  covering-none nodes' x first e same none = record {
    xs = λ u l ne. ap (λ (ns : List Node). (node_at ns (name u)).x) same;
    ys = λ w. ap (λ (ns : List Node). (node_at ns w).y) same;
    lefts = λ w. ap (λ (ns : List Node). left_of ns w) same;
    rights = λ u l ne. ap (λ (ns : List Node). right_of ns (name u)) same;
    link = none ∙ sym (next-none (suc s.first) s.last (Some (name (g.vertex (suc s.first)))) (omega (arith, e)));
    first_x = λ c. absurd (omega (arith, e, c));
    last_right = λ i a b. absurd (omega (arith, e, a, b));
  }

  -- the nodes from the first covered vertex to the last one
  covering-some : (nodes' mid : List Node) (x x' : ℤ) (first : Option ℕ) (last : ℕ) → suc s.first < s.last → suc last ≡ s.last → x +ℤ x' ≡ (node_at nodes (name (g.vertex (suc s.first)))).x +ℤ pos 1 → first ≡ Some (name (g.vertex (suc s.first))) → SetsX nodes mid (name (g.vertex (suc s.first))) x' → SetsRight mid nodes' (name (g.vertex last)) None → IsCovering at g s nodes nodes' x first
  covering-some nodes' mid x x' first last c e sum some one two =
      let w = sp.within in
      record {
        xs = λ u l ne. two.xs (name u) ∙ one.xs (name u) (differ u (g.vertex (suc s.first)) l (st.placed (suc s.first) (omega arith)) ne);
        ys = λ w. two.ys w ∙ one.ys w;
        lefts = λ w. two.lefts w ∙ one.lefts w;
        rights = λ u l ne. two.rights (name u) (differ u (g.vertex last) l (st.placed last (omega arith)) (ne last (omega arith) e)) ∙ one.rights (name u);
        link = some ∙ sym (next-some (suc s.first) s.last (Some (name (g.vertex (suc s.first)))) c);
        first_x = λ _. ap (λ (z : ℤ). x +ℤ z) (two.xs (name (g.vertex (suc s.first))) ∙ one.here) ∙ sum;
        last_right = λ i a b. ap (λ (j : ℕ). right_of nodes' (name (g.vertex j))) (let same : i ≡ last = omega (arith, b, e) in same) ∙ two.here;
      }

  pub covering : (nodes' : List Node) (before : ℕ) (x : ℤ) (first : Option ℕ) → ((m : ℕ) → suc m ≡ s.last - s.first → before ≡ name (g.vertex (s.first + m))) → CoversFrom nodes nodes' p before x first → IsCovering at g s nodes nodes' x first
  covering nodes' before x first before_is covers =
      let o = sp.order in
      let w = sp.within in
      elim (cases_lt (suc s.first) s.last) [
        | inr a ↦
            let last : s.last ≡ suc s.first = omega arith in
            let here : before ≡ p = before_is 0 (omega arith) ∙ ap (λ (j : ℕ). name (g.vertex j)) (let e : s.first + 0 ≡ s.first = omega arith in e) ∙ next.left in
            let none = covers.0 here in
            covering-none nodes' x first last none.0 none.1
        | inl a ↦
            let m = s.last - s.first - 1 in
            let j = s.first + m in
            let far : before ≡ name (g.vertex j) = before_is m (omega arith) in
            let other : before ≢ p = λ e. differ (g.vertex j) (g.vertex s.first) (st.placed j (omega arith)) (st.placed s.first (omega arith)) (apart j s.first (omega arith) (omega arith) (λ e'. omega arith)) (sym far ∙ e ∙ sym next.left) in
            let link : right_of nodes p ≡ Some (name (g.vertex (suc s.first))) = ap (right_of nodes) (sym next.left) ∙ next.grown.along s.first (omega arith) in
            let some = covers.1 other (name (g.vertex (suc s.first))) link in
            covering-some nodes' some.2 x some.1 first j a (omega arith) some.3 some.0 some.4 (subst (λ (w : ℕ). SetsRight some.2 nodes' w None) far some.5)
      ]

  -- all writes
  module _ (nodes1 nodes2 nodes3 nodes4 : List Node) (x rest : ℤ) (first : Option ℕ) (node : Node) (one : IsCovering at g s nodes nodes1 x first) (two : SetsRight nodes1 nodes2 p (Some v)) (three : SetsX nodes2 nodes3 q rest) (four : SetsNode nodes3 nodes4 v node) (node_left : option_map (λ u. u.0) node.left ≡ first) (node_right : option_map (λ u. u.0) node.right ≡ Some q) (node_x : node.x ≡ x) (node_y : node.y ≡ pos (y_after g s points g.count)) (x_is : x ≡ pos (x_after g s points g.count - points.x (g.vertex s.first))) (rest_is : pos (x_after g s points g.count - points.x (g.vertex s.first)) +ℤ rest ≡ pos (points.x (g.vertex s.last) - points.x (g.vertex s.first) + 2)) where
    same-old : (u : ℕ) → u < g.count → node_at nodes4 (name u) ≡ node_at nodes3 (name u)
    same-old u l = four.others (name u) (differ-new u l)

    not-q : (u : ℕ) → u < g.count → u ≢ g.vertex s.last → name u ≢ q
    not-q u l ne e = differ u (g.vertex s.last) l (st.placed s.last sp.within) ne (e ∙ sym next.right)

    not-p : (u : ℕ) → u < g.count → u ≢ g.vertex s.first → name u ≢ p
    not-p u l ne e = let o = sp.order in let w = sp.within in differ u (g.vertex s.first) l (st.placed s.first (omega arith)) ne (e ∙ sym next.left)

    x-old : (u : ℕ) → u < g.count → u ≢ g.vertex s.last → (node_at nodes4 (name u)).x ≡ (node_at nodes1 (name u)).x
    x-old u l ne = ap (λ (m : Node). m.x) (same-old u l) ∙ three.xs (name u) (not-q u l ne) ∙ two.xs (name u)

    right-old : (u : ℕ) → u < g.count → u ≢ g.vertex s.first → right_of nodes4 (name u) ≡ right_of nodes1 (name u)
    right-old u l ne = ap (λ (m : Node). option_map (λ w. w.0) m.right) (same-old u l) ∙ three.rights (name u) ∙ two.rights (name u) (not-p u l ne)

    node-is : node_at nodes4 (name g.count) ≡ node
    node-is = ap (node_at nodes4) new-is ∙ four.here

    -- the new vertex stands to the right of p
    beyond : points.x (g.vertex s.first) ≤ x_after g s points g.count
    beyond =
        let m = across at steps n nodes v p q next in
        let t = along at steps n nodes v p q next in
        let h = (shift at steps n nodes v p q next).along s.first s.last (let o = sp.order in omega arith) sp.within in
        omega (arith, m, t, h)

    below : points.x (g.vertex s.first) ≤ points.x (g.vertex s.last)
    below =
        let sh = shift at steps n nodes v p q next in
        let o = sp.order in
        let h = sh.along s.first s.last (omega arith) sp.within in
        let k = sh.across s.first s.last (omega arith) sp.within in
        omega (arith, h, k)

    q-after : x_after g s points (g.vertex s.last) ≡ points.x (g.vertex s.last) + 2
    q-after = x_after-contour g s points st (shift at steps n nodes v p q next) sp s.last sp.within ∙ ap (λ (m : ℕ). points.x (g.vertex s.last) + m) (shift-high s s.last sp.order (omega arith))

    first-after : suc s.first < s.last → x_after g s points (g.vertex (suc s.first)) ≡ points.x (g.vertex (suc s.first)) + 1
    first-after c = let w = sp.within in x_after-contour g s points st (shift at steps n nodes v p q next) sp (suc s.first) (omega arith) ∙ ap (λ (m : ℕ). points.x (g.vertex (suc s.first)) + m) (shift-between s (suc s.first) (omega arith) c)

    pub written : IsWritten name g s points (links_of nodes at) (links_of nodes4 at)
    written =
        let o = sp.order in
        let w = sp.within in
        let l_p = st.placed s.first (omega arith) in
        let l_q = st.placed s.last w in
        record {
          new_x = let e = ap (λ (m : Node). m.x) node-is ∙ node_x ∙ x_is in omega (arith, ints, e, beyond);
          new_y = ap (λ (m : Node). m.y) node-is ∙ node_y ∙ ap pos (y_after-new g s points g.count refl);
          new_left = ap (λ (m : Node). option_map (λ u. u.0) m.left) node-is ∙ node_left ∙ one.link;
          new_right = ap (λ (m : Node). option_map (λ u. u.0) m.right) node-is ∙ node_right ∙ ap Some (sym next.right);
          p_right = ap (λ (m : Node). option_map (λ u. u.0) m.right) (same-old (g.vertex s.first) l_p) ∙ three.rights (name (g.vertex s.first)) ∙ ap (right_of nodes2) next.left ∙ two.here ∙ ap Some (sym new-is);
          q_x =
              let e = ap (λ (m : Node). m.x) (same-old (g.vertex s.last) l_q) ∙ ap (λ (u : ℕ). (node_at nodes3 u).x) next.right ∙ three.here in
              omega (arith, ints, e, rest_is, beyond, below, q-after);
          first_x = λ c.
              let f = g.vertex (suc s.first) in
              let e = x-old f (st.placed (suc s.first) (omega arith)) (apart (suc s.first) s.last (omega arith) w (λ e. omega arith)) in
              let told = one.first_x c in
              let gap = next.grown.gaps s.first (omega arith) in
              omega (arith, ints, e, told, gap, x_is, beyond, first-after c);
          last_right = λ i a b. right-old (g.vertex i) (st.placed i (omega arith)) (apart i s.first (omega arith) (omega arith) (λ e. omega arith)) ∙ one.last_right i a b;
          xs = λ u l nq nf. x-old u l nq ∙ one.xs u l nf;
          ys = λ u l. ap (λ (m : Node). m.y) (same-old u l) ∙ three.ys (name u) ∙ two.ys (name u) ∙ one.ys (name u);
          lefts = λ u l. ap (λ (m : Node). option_map (λ w. w.0) m.left) (same-old u l) ∙ three.lefts (name u) ∙ two.lefts (name u) ∙ one.lefts (name u);
          rights = λ u l np nl. right-old u l np ∙ one.rights u l nl;
        }

    pub grown-after : IsGrown name steps (suc n) (links_of nodes4 at)
    grown-after = IsGrown-after name steps n next.run (links_of nodes at) (links_of nodes4 at) next.grown written

-- two nodes that were set are the tree of no steps
pub grown-begun : (at : List ℕ) (run : ℕ → Step) (nodes nodes1 nodes2 : List Node) (s t : ℕ) (a b : Node) → s ≢ t → get_or at 0 0 ≡ s → get_or at 1 0 ≡ t → SetsNode nodes nodes1 s a → SetsNode nodes1 nodes2 t b → (a.x ≡ pos 0) × (a.y ≡ pos 0) → (b.x ≡ pos 0) × (b.y ≡ pos 0) → a.left ≡ None → option_map (λ u. u.0) a.right ≡ Some t → b.left ≡ None → b.right ≡ None → IsGrown (λ k. get_or at k 0) run 0 (links_of nodes2 at)
grown-begun at run nodes nodes1 nodes2 s t a b apart first second one two a_zero b_zero a_left a_right b_left b_right = grind (arith, apart, node_at, get_or, IsGrown-base, links_of, Node, option_map, Some)
