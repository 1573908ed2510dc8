-- Ways along the links of a tree, and what is known of the vertices met.
use Rattle.std.proofs.Common.{◌≡◌, ◌≢◌, ◌⊎◌, ℕ, ◌+◌, ◌*◌, ◌<◌, ◌≤◌, Bool, true, false, List, [], ◌∷◌, ◌++◌, length, take, get_or, set, length-append, get_or-set_same, get_or-set_other, Option, Some, None, option_map, ℤ, pos, ◌+ℤ◌, refl, sym, ap, subst, ◌∙◌, inl, inr, arith}
use Rattle.std.proofs.lemmas.List.{get_or_append_left, get_or-take, take_more_set, length-take-le}
use Rattle.std.proofs.lemmas.Int.{ints}
use Rattle.std.proofs.lemmas.Bool.{cases_lt}
use Rattle.std.proofs.Math.Seq.{get_or-append_seam}
use Rattle.std.proofs.lemmas.Option.{same_Some}
use Rattle.classes.proofs.Counting.{count_below_all, count_below_into}
use Rattle.fpp_shift.specs.declared.offset_trees.tree_nodes.Node.{Node}
use Rattle.fpp_shift.specs.Nodes.{node_at, LeadsTo}
use Rattle.pg_plane.specs.Range.{IsWithin}
use Rattle.pg_plane.specs.declared.grid_points.Point.{Point}
use Rattle.plane_drawings.specs.Drawing.{place}
use Rattle.fpp_shift.specs.Ways.{IsWay, sum_x, IsTree, ArePointsOf}
use Rattle.fpp_shift.specs.Sums.{link_of, link_number, IsMet, IsLinked, sum_at, AreMet, IsNext, own_point, point_beside}

-- a way goes on by a link
pub way-more : (nodes : List Node) (r : ℕ) (us : List ℕ) (v u : ℕ) → IsWay nodes r us v → LeadsTo nodes v u → IsWay nodes r (us ++ u ∷ []) u
way-more nodes r [] v u way leads = (subst (λ (z : ℕ). LeadsTo nodes z u) (sym way) leads, refl)
way-more nodes r (w ∷ us) v u way leads = (way.0, way-more nodes w us v u way.1 leads)

-- a way is none, or ends by a link
pub record IsLastLink (nodes : List Node) (r : ℕ) (us : List ℕ) (u : ℕ) : Type 0 where
  pub before : List ℕ
  pub from : ℕ
  pub parts : us ≡ before ++ u ∷ []
  pub way : IsWay nodes r before from
  pub leads : LeadsTo nodes from u

pub way-last : (nodes : List Node) (r : ℕ) (us : List ℕ) (u : ℕ) → IsWay nodes r us u → ((us ≡ []) × (r ≡ u)) ⊎ IsLastLink nodes r us u
way-last nodes r [] u way = inl (refl, way)
way-last nodes r (w ∷ us) u way = go (way-last nodes w us u way.1)
  where
    go : ((us ≡ []) × (w ≡ u)) ⊎ IsLastLink nodes w us u → ((w ∷ us ≡ []) × (r ≡ u)) ⊎ IsLastLink nodes r (w ∷ us) u
    go (inl none) = inr (record {
      before = [];
      from = r;
      parts = ap (λ (l : List ℕ). w ∷ l) none.0 ∙ ap (λ (z : ℕ). z ∷ []) none.1;
      way = refl;
      leads = subst (λ (z : ℕ). LeadsTo nodes r z) none.1 way.0;
    })
    go (inr last) = inr (record {
      before = w ∷ last.before;
      from = last.from;
      parts = ap (λ (l : List ℕ). w ∷ l) last.parts;
      way = (way.0, last.way);
      leads = last.leads;
    })

-- its vertices are those of the tree
pub way-inside : (nodes : List Node) (root : ℕ) → IsTree nodes root → (r : ℕ) (us : List ℕ) (u : ℕ) → r < length nodes → IsWay nodes r us u → u < length nodes
way-inside nodes root tree r [] u l way = subst (λ (z : ℕ). z < length nodes) way l
way-inside nodes root tree r (w ∷ us) u l way = way-inside nodes root tree w us u (tree.within r w l way.0) way.1

pub sum_x-more : (nodes : List Node) (us : List ℕ) (u : ℕ) → sum_x nodes (us ++ u ∷ []) ≡ sum_x nodes us +ℤ (node_at nodes u).x
sum_x-more nodes [] u = omega (arith, ints)
sum_x-more nodes (v ∷ us) u = omega (arith, ints, sum_x-more nodes us u)

-- no way leads back to the root
pub way-root : (nodes : List Node) (root : ℕ) → IsTree nodes root → (us : List ℕ) → IsWay nodes root us root → us ≡ []
way-root nodes root tree us way =
    elim (way-last nodes root us root way) [
      | inl none ↦ none.0
      | inr last ↦ absurd (tree.first last.from (way-inside nodes root tree root last.before last.from tree.inside last.way) last.leads)
    ]

-- a link leads
leads_by : (nodes : List Node) (is_right : Bool) (v u : ℕ) → link_of nodes is_right v ≡ Some u → LeadsTo nodes v u
leads_by nodes true v u e = inr e
leads_by nodes false v u e = inl e

-- ---- what was met

met-cases : (met : List ℕ) (u w : ℕ) → IsMet (met ++ u ∷ []) w → IsMet met w ⊎ (w ≡ u)
met-cases met u w is =
    elim (cases_lt is.0 (length met)) [
      | inl l ↦ inl (is.0, l, sym (get_or_append_left met (u ∷ []) 0 is.0 l) ∙ is.2)
      | inr l ↦
          let here : is.0 ≡ length met = omega (arith, length-append met (u ∷ []), is.1) in
          inr (sym is.2 ∙ ap (λ (i : ℕ). get_or (met ++ u ∷ []) i 0) here ∙ get_or-append_seam met u [] 0)
    ]

met-old : (met : List ℕ) (u w : ℕ) → IsMet met w → IsMet (met ++ u ∷ []) w
met-old met u w is = (is.0, omega (arith, length-append met (u ∷ []), is.1), get_or_append_left met (u ∷ []) 0 is.0 is.1 ∙ is.2)

met-new : (met : List ℕ) (u : ℕ) → IsMet (met ++ u ∷ []) u
met-new met u = (length met, omega (arith, length-append met (u ∷ [])), get_or-append_seam met u [] 0)

-- what was gone along is gone along later too, where the place is an old one
old-place : (met : List ℕ) (u i : ℕ) → i < length met → get_or (met ++ u ∷ []) i 0 ≡ get_or met i 0
old-place met u i l = get_or_append_left met (u ∷ []) 0 i l

linked-later : (nodes : List Node) (met : List ℕ) (h w : ℕ) → IsLinked nodes met h w → IsLinked nodes met (h + 1) w
linked-later nodes met h w is = record {
  place = is.place;
  is_right = is.is_right;
  gone = (is.gone.0, omega (arith, is.gone.1));
  leads = is.leads;
}

linked-longer : (nodes : List Node) (met : List ℕ) (u h w : ℕ) → IsLinked nodes met h w → IsLinked nodes (met ++ u ∷ []) h w
linked-longer nodes met u h w is = record {
  place = is.place;
  is_right = is.is_right;
  gone = (let n : length (met ++ u ∷ []) ≡ length met + 1 = length-append met (u ∷ []) in omega (arith, is.gone.0), is.gone.1);
  leads = ap (link_of nodes is.is_right) (old-place met u is.place is.gone.0) ∙ is.leads;
}

-- links with one number are one
same-link : (i j : ℕ) (a b : Bool) → link_number i a ≡ link_number j b → (i ≡ j) × (a ≡ b)
same-link i j true true e = (omega arith, refl)
same-link i j true false e = absurd (omega arith)
same-link i j false true e = absurd (omega arith)
same-link i j false false e = (omega arith, refl)

-- a link of a later place has a greater number
earlier-place : (i j : ℕ) (a b : Bool) → link_number j b < link_number i a + 1 → j ≤ i
earlier-place i j true true l = omega arith
earlier-place i j true false l = omega arith
earlier-place i j false true l = omega arith
earlier-place i j false false l = omega arith

-- one link more has been gone along: it is an earlier one, or that
module _ (nodes : List Node) (met : List ℕ) (h v : ℕ) (link : Option ℕ) (next : IsNext nodes met h v link) where
  linked-cases : (w : ℕ) → IsLinked nodes met (h + 1) w → IsLinked nodes met h w ⊎ (link ≡ Some w)
  linked-cases w is =
      elim (cases_lt (link_number is.place is.is_right) h) [
        | inl l ↦ inl (record { place = is.place; is_right = is.is_right; gone = (is.gone.0, l); leads = is.leads })
        | inr l ↦
            let number : link_number is.place is.is_right ≡ link_number next.place next.is_right = omega (arith, is.gone.1, next.number) in
            let same = same-link is.place next.place is.is_right next.is_right number in
            inr (sym next.link_is ∙ sym (ap (λ (b : Bool). link_of nodes b v) same.1) ∙ sym (ap (link_of nodes is.is_right) (ap (λ (i : ℕ). get_or met i 0) same.0 ∙ next.vertex)) ∙ is.leads)
      ]

  -- that link itself, by what it leads to
  linked-here : (w : ℕ) → link ≡ Some w → IsLinked nodes met (h + 1) w
  linked-here w leads = grind (arith, leads, place, link_of)

-- the link leads nowhere
pub AreMet-none : (nodes : List Node) (root : ℕ) (met : List ℕ) (sums : List Point) (h v : ℕ) → AreMet nodes root met sums h → IsNext nodes met h v None → AreMet nodes root met sums (h + 1)
AreMet-none nodes root met sums h v m next = grind (arith, linked-later, linked-cases, None, Some)

-- it leads to u
module _ (nodes : List Node) (root : ℕ) (tree : IsTree nodes root) (met : List ℕ) (sums : List Point) (h v u : ℕ) (m : AreMet nodes root met sums h) (next : IsNext nodes met h v (Some u)) where
  met-v : IsMet met v
  met-v = (next.place, next.within, next.vertex)

  leads : LeadsTo nodes v u
  leads = leads_by nodes next.is_right v u next.link_is

  pub u-inside : u < length nodes
  u-inside = tree.within v u (m.inside v met-v) leads

  -- which was not met before
  fresh : IsMet met u → ⊥
  fresh is = elim (m.linked u is) [
    | inl e ↦ tree.first v (m.inside v met-v) (subst (λ (z : ℕ). LeadsTo nodes v z) e leads)
    | inr l ↦
        let w = get_or met l.place 0 in
        let met-w : IsMet met w = (l.place, l.gone.0, refl) in
        let same : w ≡ v = tree.once w v u (m.inside w met-w) (m.inside v met-v) (leads_by nodes l.is_right w u l.leads) leads in
        let place : l.place ≡ next.place = m.apart l.place next.place l.gone.0 next.within (same ∙ sym next.vertex) in
        twice l.is_right next.is_right (ap (link_of nodes l.is_right) (sym same) ∙ l.leads) next.link_is (omega (arith, l.gone.1, next.number, place))
  ]
    where
      twice : (a b : Bool) → link_of nodes a v ≡ Some u → link_of nodes b v ≡ Some u → link_number 0 a < link_number 0 b → ⊥
      twice true true x y l = absurd (omega arith)
      twice true false x y l = absurd (omega arith)
      twice false true x y l = tree.one_link v u u (m.inside v met-v) x y refl
      twice false false x y l = absurd (omega arith)

  -- whose sum is small
  pub sum-small : IsWithin (pos 1048576) (sum_at sums v +ℤ (node_at nodes u).x)
  sum-small =
      let way = tree.reached v (m.inside v met-v) in
      let sum : sum_at sums v ≡ sum_x nodes (root ∷ way.0) = m.added way.0 v met-v way.1 in
      let more = sum_x-more nodes (root ∷ way.0) u in
      subst (IsWithin (pos 1048576)) (more ∙ ap (λ (z : ℤ). z +ℤ (node_at nodes u).x) (sym sum)) (tree.small (way.0 ++ u ∷ []) u (way-more nodes root way.0 v u way.1 leads))

  -- it is met now, at the end, with the sum of v and its own offset
  pub AreMet-more : (sums' : List Point) → place sums' u ≡ point_beside (place sums v) (node_at nodes u) → ((w : ℕ) → w ≢ u → place sums' w ≡ place sums w) → AreMet nodes root (met ++ u ∷ []) sums' (h + 1)
  AreMet-more sums' here others = record {
    apart = λ i j l l' e. apart i j (cases_lt i (length met)) (cases_lt j (length met)) (omega (arith, n, l)) (omega (arith, n, l')) e;
    inside = λ w is. elim (met-cases met u w is) [ inl old ↦ m.inside w old | inr e ↦ subst (λ (z : ℕ). z < length nodes) (sym e) u-inside ];
    begins = met-old met u root m.begins;
    linked = λ w is. elim (met-cases met u w is) [
      | inl old ↦ elim (m.linked w old) [ inl e ↦ inl e | inr l ↦ inr (linked-longer nodes met u (h + 1) w (linked-later nodes met h w l)) ]
      | inr e ↦ inr (linked-longer nodes met u (h + 1) w (linked-here nodes met h v (Some u) next w (ap Some (sym e))))
    ];
    closed = λ w l. elim (linked-before w l) [ inl old ↦ met-old met u w (m.closed w old) | inr e ↦ subst (IsMet (met ++ u ∷ [])) (same_Some _ _ e) (met-new met u) ];
    added = λ us w is way. elim (met-cases met u w is) [
      | inl old ↦ ap (λ (p : Point). p.x) (others w (λ e. fresh (subst (IsMet met) e old))) ∙ m.added us w old way
      | inr e ↦ subst (λ (z : ℕ). IsWay nodes root us z → sum_at sums' z ≡ sum_x nodes (root ∷ us)) (sym e) (u-added us) way
    ];
    high = λ w is. elim (met-cases met u w is) [
      | inl old ↦ ap (λ (p : Point). p.y) (others w (λ e. fresh (subst (IsMet met) e old))) ∙ m.high w old
      | inr e ↦ subst (λ (z : ℕ). (place sums' z).y ≡ (node_at nodes z).y) (sym e) (ap (λ (p : Point). p.y) here)
    ];
  }
    where
      n : length (met ++ u ∷ []) ≡ length met + 1
      n = length-append met (u ∷ [])

      -- the entry at the end is u, and no other
      apart : (i j : ℕ) → (i < length met) ⊎ (length met ≤ i) → (j < length met) ⊎ (length met ≤ j) → i < length met + 1 → j < length met + 1 → get_or (met ++ u ∷ []) i 0 ≡ get_or (met ++ u ∷ []) j 0 → i ≡ j
      apart i j (inl l) (inl l') k k' e = m.apart i j l l' (sym (old-place met u i l) ∙ e ∙ old-place met u j l')
      apart i j (inl l) (inr l') k k' e =
          let last : j ≡ length met = omega arith in
          absurd (fresh (i, l, sym (old-place met u i l) ∙ e ∙ ap (λ (x : ℕ). get_or (met ++ u ∷ []) x 0) last ∙ get_or-append_seam met u [] 0))
      apart i j (inr l) (inl l') k k' e =
          let last : i ≡ length met = omega arith in
          absurd (fresh (j, l', sym (old-place met u j l') ∙ sym e ∙ ap (λ (x : ℕ). get_or (met ++ u ∷ []) x 0) last ∙ get_or-append_seam met u [] 0))
      apart i j (inr l) (inr l') k k' e = omega arith

      -- no link of u was gone along
      linked-before : (w : ℕ) → IsLinked nodes (met ++ u ∷ []) (h + 1) w → IsLinked nodes met h w ⊎ (Some u ≡ Some w)
      linked-before w l = grind (arith, link_number, place, earlier-place, length, linked-cases, Some, leads, link_of, old-place)

      u-added : (us : List ℕ) → IsWay nodes root us u → sum_at sums' u ≡ sum_x nodes (root ∷ us)
      u-added us way = elim (way-last nodes root us u way) [
        | inl none ↦ absurd (tree.first v (m.inside v met-v) (subst (λ (z : ℕ). LeadsTo nodes v z) (sym none.1) leads))
        | inr last ↦
            let from-inside = way-inside nodes root tree root last.before last.from tree.inside last.way in
            let same : last.from ≡ v = tree.once last.from v u from-inside (m.inside v met-v) last.leads leads in
            let before : sum_at sums v ≡ sum_x nodes (root ∷ last.before) = m.added last.before v met-v (subst (IsWay nodes root last.before) same last.way) in
            ap (λ (p : Point). p.x) here ∙ ap (λ (z : ℤ). z +ℤ (node_at nodes u).x) before ∙ sym (sum_x-more nodes (root ∷ last.before) u) ∙ ap (λ (l : List ℕ). sum_x nodes (root ∷ l)) (sym last.parts)
      ]

-- the same, where the point is set, and u is put behind the first `filled` entries of a row
pub AreMet-set : (nodes : List Node) (root : ℕ) → IsTree nodes root → (met met' : List ℕ) (filled : ℕ) (points points' : List Point) (h v u : ℕ) (point : Point) → AreMet nodes root (take filled met) points h → IsNext nodes (take filled met) h v (Some u) → length points ≡ length nodes → filled < length met → met' ≡ set met filled u → points' ≡ set points u point → point ≡ point_beside (place points v) (node_at nodes u) → AreMet nodes root (take (filled + 1) met') points' (h + 1)
AreMet-set nodes root tree met met' filled points points' h v u point m next many room longer put is =
    let l = u-inside nodes root tree (take filled met) points h v u m next in
    subst (λ (l : List ℕ). AreMet nodes root l points' (h + 1)) (sym (ap (take (filled + 1)) longer ∙ take_more_set met filled u room))
    (AreMet-more nodes root tree (take filled met) points h v u m next points' (ap (λ (l : List Point). place l u) put ∙ get_or-set_same points u point (record { x = pos 0; y = pos 0 }) (omega (arith, l, many)) ∙ is) (λ w other. ap (λ (l : List Point). place l w) put ∙ get_or-set_other points u w point (record { x = pos 0; y = pos 0 }) other))

-- ---- from the root to all

-- the root alone is met
pub AreMet-root : (nodes : List Node) (root : ℕ) → IsTree nodes root → (points : List Point) → place points root ≡ own_point (node_at nodes root) → AreMet nodes root (root ∷ []) points 0
AreMet-root nodes root tree points here = record {
  apart = λ i j l l' e. omega arith;
  inside = λ u is. subst (λ (z : ℕ). z < length nodes) (only u is) tree.inside;
  begins = (0, omega arith, refl);
  linked = λ u is. inl (sym (only u is));
  closed = λ u l. absurd (omega (arith, l.gone.1));
  added = λ us u is way.
      let none = way-root nodes root tree us (subst (IsWay nodes root us) (sym (only u is)) way) in
      let alone : sum_x nodes (root ∷ []) ≡ (node_at nodes root).x = omega (arith, ints) in
      ap (sum_at points) (sym (only u is)) ∙ ap (λ (p : Point). p.x) here ∙ sym alone ∙ ap (λ (l : List ℕ). sum_x nodes (root ∷ l)) (sym none);
  high = λ u is. subst (λ (z : ℕ). (place points z).y ≡ (node_at nodes z).y) (only u is) (ap (λ (p : Point). p.y) here);
}
  where
    only : (u : ℕ) → IsMet (root ∷ []) u → root ≡ u
    only u is = let first : is.0 ≡ 0 = omega (arith, is.1) in sym (ap (λ (i : ℕ). get_or (root ∷ []) i 0) first) ∙ is.2

-- the root is put first into a row, and its own point is set
pub AreMet-first : (nodes : List Node) (root : ℕ) → IsTree nodes root → (met met' : List ℕ) (points points' : List Point) (point : Point) → length met ≡ length nodes → length points ≡ length nodes → met' ≡ set met 0 root → points' ≡ set points root point → point ≡ own_point (node_at nodes root) → AreMet nodes root (take 1 met') points' 0
AreMet-first nodes root tree met met' points points' point room many longer put is =
    let inside = tree.inside in
    subst (λ (us : List ℕ). AreMet nodes root us points' 0) (sym (ap (take 1) longer ∙ take_more_set met 0 root (omega (arith, inside, room))))
    (AreMet-root nodes root tree points' (ap (λ (l : List Point). place l root) put ∙ get_or-set_same points root point (record { x = pos 0; y = pos 0 }) (omega (arith, inside, many)) ∙ is))

-- both links of the vertex at place i are gone along
pub AreMet-both : (nodes : List Node) (root : ℕ) (met : List ℕ) (sums : List Point) (i : ℕ) → AreMet nodes root met sums (2 * i + 1 + 1) → AreMet nodes root met sums (2 * (i + 1))
AreMet-both nodes root met sums i m = let both : 2 * i + 1 + 1 ≡ 2 * (i + 1) = omega arith in subst (AreMet nodes root met sums) both m

-- no vertex stands at place i, so all links are gone along
pub AreMet-beyond : (nodes : List Node) (root : ℕ) (met : List ℕ) (sums : List Point) (i : ℕ) → length met ≤ i → AreMet nodes root met sums (2 * i) → AreMet nodes root met sums (2 * (i + 1))
AreMet-beyond nodes root met sums i l m = record {
  apart = m.apart;
  inside = m.inside;
  begins = m.begins;
  linked = λ u is. elim (m.linked u is) [ inl e ↦ inl e | inr k ↦ inr (record { place = k.place; is_right = k.is_right; gone = (k.gone.0, omega (arith, k.gone.1)); leads = k.leads }) ];
  closed = λ u k. m.closed u (record { place = k.place; is_right = k.is_right; gone = (k.gone.0, earlier k.place k.is_right k.gone.0); leads = k.leads });
  added = m.added;
  high = m.high;
}
  where
    earlier : (j : ℕ) (b : Bool) → j < length met → link_number j b < 2 * i
    earlier j true k = omega arith
    earlier j false k = omega arith

-- those met are at most all vertices
few-met : (nodes : List Node) (root : ℕ) (met : List ℕ) (sums : List Point) (h : ℕ) → AreMet nodes root met sums h → length met ≤ length nodes
few-met nodes root met sums h m =
    let into = count_below_into (λ i. get_or met i 0) (λ i. true) (λ i. true) (length met) (length nodes) (λ i l _. (m.inside (get_or met i 0) (i, l, refl), refl)) (λ i j l l' _ _ e. m.apart i j l l' e) in
    omega (arith, count_below_all (length met), count_below_all (length nodes), into)

-- so there is room for one that is met by a link
pub met-room : (nodes : List Node) (root : ℕ) → IsTree nodes root → (met : List ℕ) (filled : ℕ) (points : List Point) (h v u : ℕ) → AreMet nodes root (take filled met) points h → IsNext nodes (take filled met) h v (Some u) → length points ≡ length nodes → filled ≤ length met → filled < length nodes
met-room nodes root tree met filled points h v u m next many few =
    let l = u-inside nodes root tree (take filled met) points h v u m next in
    let point : Point = point_beside (place points v) (node_at nodes u) in
    let more = AreMet-more nodes root tree (take filled met) points h v u m next (set points u point) (get_or-set_same points u point (record { x = pos 0; y = pos 0 }) (omega (arith, l, many))) (λ w other. get_or-set_other points u w point (record { x = pos 0; y = pos 0 }) other) in
    omega (arith, few-met nodes root (take filled met ++ u ∷ []) (set points u point) (h + 1) more, length-append (take filled met) (u ∷ []), length-take-le filled met few)

-- all links are gone along, so all vertices are met
module _ (nodes : List Node) (root : ℕ) (tree : IsTree nodes root) (met : List ℕ) (sums : List Point) (m : AreMet nodes root met sums (2 * length nodes)) where
  by-link : (r w : ℕ) → IsMet met r → (b : Bool) → link_of nodes b r ≡ Some w → link_number 0 b < 2 → IsMet met w
  by-link r w is b e l = m.closed w (record {
    place = is.0;
    is_right = b;
    gone = (is.1, (let few = few-met nodes root met sums (2 * length nodes) m in omega (arith, few, is.1, l)));
    leads = ap (link_of nodes b) is.2 ∙ e;
  })

  step-met : (r w : ℕ) → IsMet met r → LeadsTo nodes r w → IsMet met w
  step-met r w is (inl e) = by-link r w is false e (omega arith)
  step-met r w is (inr e) = by-link r w is true e (omega arith)

  pub all-met : (r : ℕ) (us : List ℕ) (u : ℕ) → IsMet met r → IsWay nodes r us u → IsMet met u
  all-met r [] u is way = subst (IsMet met) way is
  all-met r (w ∷ us) u is way = all-met w us u (step-met r w is way.0) way.1

  -- so their points are those of the tree
  pub ArePointsOf-all : length sums ≡ length nodes → ArePointsOf nodes root sums
  ArePointsOf-all count = record {
    count = count;
    across = λ us v l way. m.added us v (all-met root us v m.begins way) way;
    high = λ v l. let way = tree.reached v l in m.high v (all-met root way.0 v m.begins way.1);
  }

-- ---- the links of the vertex at place i

next-left : (nodes : List Node) (met : List ℕ) (i v : ℕ) (node : Node) → i < length met → get_or met i 0 ≡ v → node ≡ node_at nodes v → IsNext nodes met (2 * i) v (option_map (λ u. u.0) node.left)
next-left nodes met i v node l at is = grind (arith, place, Node, option_map)

next-right : (nodes : List Node) (met : List ℕ) (i v : ℕ) (node : Node) → i < length met → get_or met i 0 ≡ v → node ≡ node_at nodes v → IsNext nodes met (2 * i + 1) v (option_map (λ u. u.0) node.right)
next-right nodes met i v node l at is = grind (arith, place, Node, option_map)

-- the left link of one of those met so far
pub next-left-met : (nodes : List Node) (met : List ℕ) (i filled : ℕ) (node : Node) → i < filled → filled ≤ length met → node ≡ node_at nodes (get_or met i 0) → IsNext nodes (take filled met) (2 * i) (get_or met i 0) (option_map (λ u. u.0) node.left)
next-left-met nodes met i filled node l within is = let n = length-take-le filled met within in next-left nodes (take filled met) i (get_or met i 0) node (omega (arith, n)) (get_or-take filled met i 0 l) is

-- the right link, where more may be met since the left one, and those met before are kept
pub next-right-kept : (nodes : List Node) (met met' : List ℕ) (i filled filled' : ℕ) (node : Node) → i < filled → filled ≤ filled' → filled' ≤ length met' → ((j : ℕ) → j < filled → get_or met' j 0 ≡ get_or met j 0) → node ≡ node_at nodes (get_or met i 0) → IsNext nodes (take filled' met') (2 * i + 1) (get_or met i 0) (option_map (λ u. u.0) node.right)
next-right-kept nodes met met' i filled filled' node l grows within kept is =
    let n = length-take-le filled' met' within in
    let more : i < filled' = omega arith in
    next-right nodes (take filled' met') i (get_or met i 0) node (omega (arith, n)) (get_or-take filled' met' i 0 more ∙ kept i l) is
