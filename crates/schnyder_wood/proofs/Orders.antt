-- The parents of an order.
use Rattle.std.proofs.Common.{◌≡◌, ◌≢◌, ◌⊎◌, ◌+◌, ◌-◌, ◌<◌, ◌≤◌, ℕ, suc, List, length, get_or, refl, sym, ap, ◌∙◌, subst, inl, inr, arith}
use Rattle.std.proofs.lemmas.Bool.{cases_eq}
use Rattle.map_lists.specs.Lists.{Lists}
use Rattle.map_theory.specs.Maps.{Dart, follows}
use Rattle.plane_laws.specs.Triangulations.{IsTriangulation}
use Rattle.canon_order.specs.Orders.{IsCanonicalOrder, IsRankOf}
use Rattle.contour_runs.specs.Runs.{Step}
use Rattle.contour_runs.proofs.Stages.{IsCovered-own}
use Rattle.order_drawings.specs.OrderRuns.{IsOrderRun}
use Rattle.wood_runs.specs.Parents.{Colour, one, two, three, IsParent}
use Rattle.wood_runs.proofs.ParentLemmas.{leads_away, three_parents, LeadsAway}
use Rattle.wood_laws.specs.Woods.{root, IsInner, IsWood, AreParentsOf, WoodOfOrder}
use Rattle.order_drawings.proofs.OrderLemmas.{ranks_within}
use Rattle.schnyder_wood.specs.Parents.{by_colour, Parents, count_in, root_in, parent_in, IsInnerIn, IsRooted, IsWoodOf}
use Rattle.schnyder_wood.specs.Tables.{AreParentTables, AreNamed, AreParentsAt}

-- tables that are the same
pub AreParentTables-at :
    (steps : ℕ → Step) (m n n' : ℕ) (firsts lasts covers firsts' lasts' covers' : List ℕ) → firsts' ≡ firsts → lasts' ≡ lasts → covers' ≡ covers → n' ≡ n → AreParentTables steps m n firsts lasts covers → AreParentTables steps m n' firsts' lasts' covers'
AreParentTables-at steps m n n' firsts lasts covers firsts' lasts' covers' xs ys zs e h =
    let f = subst (λ n. AreParentTables steps m n firsts lasts covers) (sym e) h in
    let f = subst (λ firsts. AreParentTables steps m n' firsts lasts covers) (sym xs) f in
    let f = subst (λ lasts. AreParentTables steps m n' firsts' lasts covers) (sym ys) f in
    subst (λ covers. AreParentTables steps m n' firsts' lasts' covers) (sym zs) f

-- each of three tables is named
pub all_named :
    (firsts lasts covers ranks at ones twos threes : List ℕ) → AreNamed firsts ranks at ones → AreNamed lasts ranks at twos → AreNamed covers ranks at threes → (c : Colour) → AreNamed (by_colour firsts lasts covers c) ranks at (by_colour ones twos threes c)
all_named firsts lasts covers ranks at ones twos threes a b d one = a
all_named firsts lasts covers ranks at ones twos threes a b d two = b
all_named firsts lasts covers ranks at ones twos threes a b d three = d

pub AreParentsAt-named :
    (steps : ℕ → Step) (m n : ℕ) (firsts lasts covers ranks at ones twos threes : List ℕ) → AreParentTables steps m n firsts lasts covers → ((c : Colour) → AreNamed (by_colour firsts lasts covers c) ranks at (by_colour ones twos threes c))
    → AreParentsAt steps m ranks at ones twos threes
AreParentsAt-named steps m n firsts lasts covers ranks at ones twos threes tables named = record {
  count = λ c. (named c).count;
  each = λ c v w l p. (named c).each v l ∙ ap (λ k. get_or at k 0) (tables.each c (get_or ranks v 0) w p);
}

module _ (lists : Lists) (base : Dart) (at ranks : List ℕ) (steps : ℕ → Step) (triangulation : IsTriangulation lists) (order : IsCanonicalOrder lists base at) (rank : IsRankOf ranks at) (run : IsOrderRun lists base at order.cycle steps) where
  abbrev n : ℕ
  n = length at - 2

  abbrev name : ℕ → ℕ
  name k = get_or at k 0

  abbrev rank_of : ℕ → ℕ
  rank_of v = get_or ranks v 0

  size : length at ≡ n + 2
  size = let c = order.count in let s = triangulation.some in omega arith

  -- one that has a parent, and the parent, are of the run
  child_small : (c : Colour) (v w : ℕ) → IsParent c steps n v w → v < length at
  child_small one v w p = let s = size in let l = p.earlier in let e = p.vertex in omega arith
  child_small two v w p = let s = size in let l = p.earlier in let e = p.vertex in omega arith
  child_small three v w p = let s = size in let l = p.earlier in let own = IsCovered-own steps p.step n v run.run l p.covered in omega (arith, own.0)

  parent_small : (c : Colour) (v w : ℕ) → IsParent c steps n v w → w < length at
  parent_small one v w p = let s = size in let l = p.earlier in let e = p.vertex in let h = (leads_away steps n run.run v w one p).one_is_earlier refl in omega arith
  parent_small two v w p = let s = size in let l = p.earlier in let e = p.vertex in let h = (leads_away steps n run.run v w two p).two_is_earlier refl in omega arith
  parent_small three v w p = let s = size in let l = p.earlier in let e = p.parent in omega arith

  -- the tables have the parents of the run
  pub AreParentsOf-tables : (m : ℕ) (ones twos threes : List ℕ) → m + 2 ≡ length at → AreParentsAt steps m ranks at ones twos threes → AreParentsOf at steps (λ c v. get_or (by_colour ones twos threes c) v 0)
  AreParentsOf-tables m ones twos threes e h = λ c v w _ p.
      let l = child_small c v w p in
      let count = rank.count in
      let count' = order.count in
      let in_map = order.vertices v 0 l in
      let s : n ≡ m = omega arith in
      let p' = subst (λ v. IsParent c steps n v w) (sym (rank.of_place v l)) p in
      h.each c (name v) w (omega arith) (subst (λ m. IsParent c steps m (rank_of (name v)) w) s p')

  module _ (few : length lists < 4096) (wood : Parents) (count : count_in wood ≡ length lists) (roots : (c : Colour) → root_in wood c ≡ root lists base c) (parents : AreParentsOf at steps (parent_in wood)) (is_wood : IsWood lists base (parent_in wood)) where
    -- the heights: colours one and two go down by rank, and colour three up
    abbrev height : Colour → ℕ → ℕ
    height one v = rank_of v
    height two v = rank_of v
    height three v = length at - 1 - rank_of v

    inner_is : (v : ℕ) → IsInnerIn wood v → IsInner lists base v
    inner_is v i = (let l = i.0 in omega arith, apart)
      where
        apart : (c : Colour) → v ≢ root lists base c
        apart one e = i.1 (inl (e ∙ sym (roots one)))
        apart two e = i.1 (inr (inl (e ∙ sym (roots two))))
        apart three e = i.1 (inr (inr (e ∙ sym (roots three))))

    -- an inner vertex has a rank strictly between those of the roots
    ranked : (v : ℕ) → IsInner lists base v → (2 ≤ rank_of v) × (rank_of v < suc n) × (name (rank_of v) ≡ v)
    ranked v inner =
        let c = order.count in
        let r = rank.count in
        let s = size in
        let l : v < length at = let l = inner.0 in omega arith in
        let k : ℕ = rank_of v in
        let here : name k ≡ v = rank.of_vertex v l in
        let small : k < length ranks = ranks_within lists base at ranks order rank v 0 (omega arith) in
        let last : name (suc n) ≡ follows lists base.1 base.0 = let e : suc n ≡ length lists - 1 = omega arith in ap name e ∙ order.last in
        let not_zero : k ≢ 0 = λ e. inner.1 one (sym here ∙ ap name e ∙ order.built.first) in
        let not_one : k ≢ 1 = λ e. inner.1 two (sym here ∙ ap name e ∙ order.built.second) in
        let not_last : k ≢ suc n = λ e. inner.1 three (sym here ∙ ap name e ∙ last) in
        (omega arith, omega arith, here)

    low : (c : Colour) (v : ℕ) → v < count_in wood → height c v < count_in wood
    low c v l =
        let a = order.count in
        let b = rank.count in
        let some = triangulation.some in
        let small = ranks_within lists base at ranks order rank v 0 (omega arith) in
        by_case c (omega arith)
      where
        by_case : (c : Colour) → rank_of v < count_in wood → height c v < count_in wood
        by_case one h = h
        by_case two h = h
        by_case three h = let a = order.count in let some = triangulation.some in omega arith

    falls_by : (c : Colour) (v u : ℕ) → rank_of u < length at → LeadsAway c (rank_of v) (rank_of u) → height c u < height c v
    falls_by one v u l h = h.one_is_earlier refl
    falls_by two v u l h = h.two_is_earlier refl
    falls_by three v u l h = let a = h.three_is_later refl in omega arith

    falls : (c : Colour) (v : ℕ) → IsInnerIn wood v → height c (parent_in wood c v) < height c v
    falls c v i =
        let r = ranked v (inner_is v i) in
        let k : ℕ = rank_of v in
        let p = three_parents steps n run.run run.end k r.0 r.1 c in
        let l = parent_small c k p.parent p.is_parent in
        let up : parent_in wood c v ≡ name p.parent = ap (parent_in wood c) (sym r.2) ∙ parents c k p.parent (let s = size in let m = r.1 in omega arith) p.is_parent in
        let same : rank_of (parent_in wood c v) ≡ p.parent = ap rank_of up ∙ rank.of_place p.parent l in
        falls_by c v (parent_in wood c v) (omega arith) (subst (LeadsAway c k) (sym same) (leads_away steps n run.run k p.parent c p.is_parent))

    goes_on : (c : Colour) (v : ℕ) → IsInnerIn wood v → IsInnerIn wood (parent_in wood c v) ⊎ (parent_in wood c v ≡ root_in wood c)
    goes_on c v i =
        let inner = inner_is v i in
        let u : ℕ = parent_in wood c v in
        let edge = is_wood.edges c v inner in
        let l = triangulation.simple.in_range v u edge in
        let own : (d : Colour) → u ≡ root_in wood d → u ≡ root_in wood c = λ d e. e ∙ ap (root_in wood) (sym (is_wood.own_root c d v inner (e ∙ roots d))) in
        elim (cases_eq u (root_in wood c)) [
          | inl e ↦ inr e
          | inr ne ↦ inl (
            omega arith,
            λ r. elim r [
              | inl e ↦ ne (own one e)
              | inr (inl e) ↦ ne (own two e)
              | inr (inr e) ↦ ne (own three e)
            ],
          )
        ]

    pub IsRooted-order : IsRooted wood
    IsRooted-order = record { few = omega arith; height = height; low = low; falls = falls; goes_on = goes_on }

  module _ (few : length lists < 4096) (law : WoodOfOrder) (m a b d : ℕ) (ones twos threes : List ℕ) (rows : m + 2 ≡ length at) (tables : AreParentsAt steps m ranks at ones twos threes) (root_one : a ≡ name 0) (root_two : b ≡ name 1) (root_three : d ≡ name (length at - 1)) where
    abbrev made : Parents
    made = record { root_one = a; root_two = b; root_three = d; ones = ones; twos = twos; threes = threes }

    made_count : count_in made ≡ length lists
    made_count = tables.count one ∙ rank.count ∙ order.count

    made_roots : (c : Colour) → root_in made c ≡ root lists base c
    made_roots one = root_one ∙ order.built.first
    made_roots two = root_two ∙ order.built.second
    made_roots three = root_three ∙ ap (λ n. name (n - 1)) order.count ∙ order.last

    pub made_parents : AreParentsOf at steps (parent_in made)
    made_parents = AreParentsOf-tables m ones twos threes rows tables

    made_wood : IsWood lists base (parent_in made)
    made_wood = law lists base at steps (parent_in made) triangulation order run made_parents

    pub IsRooted-made : IsRooted made
    IsRooted-made = IsRooted-order few made made_count made_roots made_parents made_wood

    pub IsWoodOf-made : IsWoodOf lists base made
    IsWoodOf-made = record { count = made_count; roots = made_roots; wood_is = made_wood }
