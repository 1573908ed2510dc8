-- The parents of a run are a wood of the map.
use Rattle.std.proofs.Common.{◌≡◌, ◌≢◌, ℕ, zero, suc, ◌+◌, ◌-◌, ◌<◌, ◌≤◌, List, length, get_or, refl, sym, ap, ◌∙◌, subst, inl, inr, arith}
use Rattle.std.proofs.lemmas.Bool.{cases_lt}
use Rattle.std.proofs.lemmas.List.{get_or_default}
use Rattle.map_lists.specs.Lists.{Lists}
use Rattle.map_theory.specs.Maps.{Dart, HasDart, follows}
use Rattle.map_theory.proofs.DartLemmas.{HasDart-follows}
use Rattle.plane_laws.specs.Triangulations.{IsTriangulation}
use Rattle.plane_peeling.specs.Restricted.{IsFaceOfThree, IsDartOfThree}
use Rattle.canon_order.specs.Orders.{IsCanonicalOrder}
use Rattle.canon_order.proofs.Counters.{same_place, all_of_them}
use Rattle.contour_runs.specs.Runs.{Step, Stage, stage_after}
use Rattle.contour_runs.specs.Laws.{IsStage}
use Rattle.contour_runs.proofs.Stages.{IsStage-run, IsRun-less, count-stage_after, IsCovered-own}
use Rattle.order_drawings.specs.OrderRuns.{IsOrderRun}
use Rattle.wood_runs.specs.Parents.{Colour, one, two, three, IsParent, End, out, into, IsEnd}
use Rattle.wood_runs.specs.Rules.{IsOrdered}
use Rattle.wood_runs.proofs.ParentLemmas.{leads_away, own_root, differ, three_parents, HasOneParent, LeadsAway, IsOwnRoot}
use Rattle.wood_runs.proofs.Corners.{corners_ordered}
use Rattle.wood_laws.specs.Woods.{root, IsInner, LeadsBy, IsEndAt, IsInOrder, IsWood, AreParentsOf}

module _ (lists : Lists) (base : Dart) (at : List ℕ) (steps : ℕ → Step) (parent : Colour → ℕ → ℕ) (triangulation : IsTriangulation lists) (order : IsCanonicalOrder lists base at) (run : IsOrderRun lists base at order.cycle steps) (parents : AreParentsOf at steps parent) where
  abbrev pub n : ℕ
  n = length at - 2

  abbrev pub name : ℕ → ℕ
  name k = get_or at k 0

  abbrev stage : ℕ → Stage
  stage k = stage_after steps k

  pub size : length at ≡ n + 2
  size = let c = order.count in let s = triangulation.some in omega arith

  pub some : 1 ≤ n
  some = let c = order.count in let s = triangulation.some in omega arith

  -- the roots by their ranks
  pub root_one : name 0 ≡ base.1
  root_one = order.built.first

  pub root_two : name 1 ≡ base.0
  root_two = order.built.second

  pub root_three : name (suc n) ≡ follows lists base.1 base.0
  root_three = let c = order.count in let s = size in let e : suc n ≡ length lists - 1 = omega arith in ap name e ∙ order.last

  abbrev pub root_rank : Colour → ℕ
  root_rank one = 0
  root_rank two = 1
  root_rank three = suc n

  pub root_is : (c : Colour) → (root_rank c < length at) × (name (root_rank c) ≡ root lists base c)
  root_is one = let s = size in (omega arith, root_one)
  root_is two = let s = size in (omega arith, root_two)
  root_is three = let s = size in (omega arith, root_three)

  pub once : (i j : ℕ) → i < length at → j < length at → name i ≡ name j → i ≡ j
  once i j l m e = same_place at i j order.built.once l m e

  -- an inner vertex has a rank strictly between those of the roots
  pub ranked : (v : ℕ) → IsInner lists base v → (k : ℕ) × (2 ≤ k) × (k < suc n) × (name k ≡ v)
  ranked v inner =
      let on = all_of_them at v (λ i d m. let o = order.vertices i d m in omega arith) order.built.once (let l = inner.0 in omega arith) in
      let here : name on.0 ≡ v = get_or_default at on.0 0 v on.1 ∙ on.2 in
      let not_zero : on.0 ≢ 0 = λ e. inner.1 one (sym here ∙ ap name e ∙ root_one) in
      let not_one : on.0 ≢ 1 = λ e. inner.1 two (sym here ∙ ap name e ∙ root_two) in
      let not_last : on.0 ≢ suc n = λ e. inner.1 three (sym here ∙ ap name e ∙ root_three) in
      (on.0, omega arith, omega arith, here)

  -- and the other way round
  pub inner_at : (k : ℕ) → 2 ≤ k → k < suc n → IsInner lists base (name k)
  inner_at k l m = grind (arith, Colour, name, root, one, size, once, root_one, two, root_two, three, root_three)

  sound : (k : ℕ) → k ≤ n → IsStage (stage k)
  sound k l = IsStage-run steps k (IsRun-less steps k n l run.run)

  pub has_one : (c : Colour) (k : ℕ) → 2 ≤ k → k < suc n → HasOneParent c steps n k
  has_one c k l m = three_parents steps n run.run run.end k l m c

  -- the parent of a vertex of rank k is that of the run
  pub parent_is : (c : Colour) (k : ℕ) (l : 2 ≤ k) (m : k < suc n) → parent c (name k) ≡ name (has_one c k l m).parent
  parent_is c k l m = parents c k (has_one c k l m).parent (let s = size in omega arith) (has_one c k l m).is_parent

  -- a face that was made, in the map
  pub face_at : (k i : ℕ) → k < n → (steps k).first ≤ i → i < (steps k).last → IsFaceOfThree lists (name ((stage k).vertex i)) (name ((stage k).vertex (suc i))) (name (k + 2))
  face_at k i l lo hi =
      run.faces k i ((stage k).vertex i) ((stage k).vertex (suc i)) (k + 2) (omega arith) record { low = lo; high = hi; left = refl; right = refl; new = count-stage_after steps k }

  -- its darts from and to the top
  pub to_top : (a b v : ℕ) → IsFaceOfThree lists a b v → HasDart lists b v
  to_top a b v f = subst (λ v. HasDart lists b v) f.second (HasDart-follows lists b a (triangulation.simple.both_ways a b f.dart))

  pub from_top : (a b v : ℕ) → IsFaceOfThree lists a b v → HasDart lists v a
  from_top a b v f = subst (λ a. HasDart lists v a) f.third (HasDart-follows lists v b (triangulation.simple.both_ways b v (to_top a b v f)))

  -- a vertex and its parent are neighbours
  pub edge : (c : Colour) (v w : ℕ) → IsParent c steps n v w → HasDart lists (name v) (name w)
  edge one v w p =
      let f = face_at p.step (steps p.step).first p.earlier (omega arith) ((run.run p.step p.earlier).order) in
      subst (λ v. HasDart lists (name v) (name w)) (sym p.vertex) (subst (λ w. HasDart lists (name (p.step + 2)) (name w)) p.parent (from_top _ _ _ f))
  edge two v w p =
      let o = (run.run p.step p.earlier).order in
      let i : ℕ = (steps p.step).last - 1 in
      let e : suc i ≡ (steps p.step).last = omega arith in
      let f = face_at p.step i p.earlier (omega arith) (omega arith) in
      let d = triangulation.simple.both_ways (name ((stage p.step).vertex (suc i))) (name (p.step + 2)) (to_top _ _ _ f) in
      subst (λ v. HasDart lists (name v) (name w)) (sym p.vertex) (subst (λ w. HasDart lists (name (p.step + 2)) (name w)) (ap (stage p.step).vertex e ∙ p.parent) d)
  edge three v w p =
      let f = face_at p.step p.covered.place p.earlier (omega arith) p.covered.high in
      let d = triangulation.simple.both_ways (name (p.step + 2)) (name ((stage p.step).vertex p.covered.place)) (from_top _ _ _ f) in
      subst (λ w. HasDart lists (name v) (name w)) (sym p.parent) (subst (λ v. HasDart lists (name v) (name (p.step + 2))) p.covered.vertex d)

  -- ranks of parents
  pub rank_small : (c : Colour) (v w : ℕ) → IsParent c steps n v w → w < length at
  rank_small one v w p = let s = size in let l = p.earlier in let e = p.vertex in let h = (leads_away steps n run.run v w one p).one_is_earlier refl in omega arith
  rank_small two v w p = let s = size in let l = p.earlier in let e = p.vertex in let h = (leads_away steps n run.run v w two p).two_is_earlier refl in omega arith
  rank_small three v w p = let s = size in let l = p.earlier in let e = p.parent in omega arith

  -- the first two rules
  pub edges : (c : Colour) (v : ℕ) → IsInner lists base v → HasDart lists v (parent c v)
  edges c v inner =
      let r = ranked v inner in
      let h = has_one c r.0 r.1 r.2 in
      subst (λ v. HasDart lists v (parent c v)) r.3 (subst (λ w. HasDart lists (name r.0) w) (sym (parent_is c r.0 r.1 r.2)) (edge c r.0 h.parent h.is_parent))

  apart : (c d : Colour) (v : ℕ) → c ≢ d → IsInner lists base v → parent c v ≢ parent d v
  apart c d v ne inner e =
      let r = ranked v inner in
      let h = has_one c r.0 r.1 r.2 in
      let h' = has_one d r.0 r.1 r.2 in
      let same : name h.parent ≡ name h'.parent = sym (parent_is c r.0 r.1 r.2) ∙ ap (parent c) r.3 ∙ e ∙ ap (parent d) (sym r.3) ∙ parent_is d r.0 r.1 r.2 in
      differ steps n run.run r.0 h.parent h'.parent c d ne h.is_parent h'.is_parent (once h.parent h'.parent (rank_small c r.0 h.parent h.is_parent) (rank_small d r.0 h'.parent h'.is_parent) same)

  pub own : (c d : Colour) (v : ℕ) → IsInner lists base v → parent c v ≡ root lists base d → c ≡ d
  own c d v inner e =
      let r = ranked v inner in
      let h = has_one c r.0 r.1 r.2 in
      let rank : h.parent ≡ root_rank d = once h.parent (root_rank d) (rank_small c r.0 h.parent h.is_parent) (root_is d).0 (sym (parent_is c r.0 r.1 r.2) ∙ ap (parent c) r.3 ∙ e ∙ sym (root_is d).1) in
      by_root d rank (own_root steps n run.run r.0 h.parent c h.is_parent)
    where
      by_root : {w : ℕ} → (d : Colour) → w ≡ root_rank d → IsOwnRoot c n w → c ≡ d
      by_root one e h = h.root_one e
      by_root two e h = h.root_two e
      by_root three e h = h.root_three e

  -- parents of one colour lead to ranks on one side
  abbrev IsPast : Colour → ℕ → ℕ → Type 0
  IsPast one k j = j < k
  IsPast two k j = j < k
  IsPast three k j = k < j

  past_step : (c : Colour) (k j : ℕ) → LeadsAway c k j → IsPast c k j
  past_step one k j h = h.one_is_earlier refl
  past_step two k j h = h.two_is_earlier refl
  past_step three k j h = h.three_is_later refl

  past_more : (c : Colour) (k i j : ℕ) → IsPast c k i → IsPast c i j → IsPast c k j
  past_more one k i j a b = omega arith
  past_more two k i j a b = omega arith
  past_more three k i j a b = omega arith

  not_past : (c : Colour) (k j : ℕ) → k ≡ j → ¬ IsPast c k j
  not_past one k j e h = omega arith
  not_past two k j e h = omega arith
  not_past three k j e h = omega arith

  record Leads (c : Colour) (v w : ℕ) : Type 0 where
    pub from : ℕ
    pub to : ℕ
    pub from_in : from < length at
    pub to_in : to < length at
    pub from_is : name from ≡ v
    pub to_is : name to ≡ w
    pub past : IsPast c from to

  leads_one : (c : Colour) (v : ℕ) → IsInner lists base v → Leads c v (parent c v)
  leads_one c v inner =
      let r = ranked v inner in
      let h = has_one c r.0 r.1 r.2 in
      record {
        from = r.0;
        to = h.parent;
        from_in = omega arith;
        to_in = rank_small c r.0 h.parent h.is_parent;
        from_is = r.3;
        to_is = sym (parent_is c r.0 r.1 r.2) ∙ ap (parent c) r.3;
        past = past_step c r.0 h.parent (leads_away steps n run.run r.0 h.parent c h.is_parent);
      }

  leads_on : (c : Colour) (u v w : ℕ) → Leads c u v → Leads c v w → Leads c u w
  leads_on c u v w a b = grind (arith, past_more, IsPast, once)

  leads : (c : Colour) (d v w : ℕ) → LeadsBy lists base (parent c) (suc d) v w → Leads c v w
  leads c zero v w l = subst (Leads c v) l.1 (leads_one c v l.0)
  leads c (suc d) v w l = leads_on c v (parent c v) w (leads_one c v l.0) (leads c d (parent c v) w l.1)

  away : (c : Colour) (d v : ℕ) → ¬ LeadsBy lists base (parent c) (suc d) v v
  away c d v l = let h = leads c d v v l in not_past c h.from h.to (once h.from h.to h.from_in h.to_in (h.from_is ∙ sym h.to_is)) h.past

  -- the last step goes over all
  over_all : (k : ℕ) → suc k ≡ n → ((steps k).first ≡ 0) × (suc (steps k).last ≡ (stage k).width)
  over_all k e = grind (arith, stage)

  -- what has an inner vertex as parent is inner
  child_inner : (c : Colour) (x b : ℕ) → 2 ≤ b → IsParent c steps n x b → (2 ≤ x) × (x < suc n)
  child_inner one x b l p = grind (arith, cases_lt, stage, over_all, sound)
  child_inner two x b l p = grind (arith, cases_lt, sound, over_all)
  child_inner three x b l p =
      let own = IsCovered-own steps p.step n x run.run p.earlier p.covered in
      let within = (run.run p.step p.earlier).within in
      let g = sound p.step (omega arith) in
      let end : ℕ = (stage p.step).width - 1 in
      let not_zero : x ≢ 0 = λ e. let z = ap (stage p.step).place (e ∙ sym g.begin) ∙ g.own 0 (omega arith) in absurd (omega (arith, z, own.1)) in
      let not_one : x ≢ 1 = λ e. let z = ap (stage p.step).place (e ∙ sym (g.end end (omega arith))) ∙ g.own end (omega arith) in absurd (omega (arith, z, own.1)) in
      (omega arith, omega (arith, own.0))

  -- an edge at an inner vertex, in the map
  end_at : (e : End) (b x : ℕ) → 2 ≤ b → b < suc n → IsEnd e steps n b x → IsEndAt lists base parent e (name b) (name x)
  end_at (out c) b x l m p = parents c b x (let s = size in omega arith) p
  end_at (into c) b x l m p = let h = child_inner c x b l p in let low = h.1 in (inner_at x h.0 h.1, parents c x b (let s = size in omega arith) p)

  -- a corner by ranks is one of the map
  corner : (b x y v u : ℕ) → (2 ≤ b) × (b < suc n) → name b ≡ v → name y ≡ u → name x ≡ follows lists v u → IsOrdered steps n b x y → IsInOrder lists base parent v u
  corner b x y v u l ev eu ew h = grind (arith, IsEndAt, follows, name, end_at)

  -- the rank of an inner vertex
  rank_inner : (b v : ℕ) → b < length at → name b ≡ v → IsInner lists base v → (2 ≤ b) × (b < suc n)
  rank_inner b v l e inner = let r = ranked v inner in let same = once b r.0 l (let s = size in let m = r.2 in omega arith) (e ∙ sym r.3) in (omega (arith, same, r.1), omega (arith, same, r.2))

  in_order : (v u : ℕ) → IsInner lists base v → HasDart lists v u → IsInOrder lists base parent v u
  in_order v u inner d =
      let m = run.made u v (triangulation.simple.both_ways v u d) not_base in
      let f = run.faces m.step m.place m.a m.b m.v m.earlier m.face in
      let g = sound m.step (let e = m.earlier in omega arith) in
      let l : m.step < n = let e = m.earlier in omega arith in
      let w = (run.run m.step l).within in
      let count = count-stage_after steps m.step in
      elim m.dart [
        | inl e ↦
            let small = rank_inner m.b v (omega arith) (sym e.1) inner in
            corner m.b m.v m.a v u small (sym e.1) (sym e.0) (sym f.second ∙ ap (λ z. follows lists z (name m.a)) (sym e.1) ∙ ap (follows lists v) (sym e.0))
            (corners_ordered steps n m.b m.v m.a run.run small.0 record { step = m.step; place = m.place; a = m.a; b = m.b; top = m.v; earlier = l; face = m.face; corner = inr (inl (refl, refl, refl)) })
        | inr (inl e) ↦
            let small = rank_inner m.v v (omega arith) (sym e.1) inner in
            corner m.v m.a m.b v u small (sym e.1) (sym e.0) (sym f.third ∙ ap (λ z. follows lists z (name m.b)) (sym e.1) ∙ ap (follows lists v) (sym e.0))
            (corners_ordered steps n m.v m.a m.b run.run small.0 record { step = m.step; place = m.place; a = m.a; b = m.b; top = m.v; earlier = l; face = m.face; corner = inr (inr (refl, refl, refl)) })
        | inr (inr e) ↦
            let small = rank_inner m.a v (omega arith) (sym e.1) inner in
            corner m.a m.b m.v v u small (sym e.1) (sym e.0) (sym f.round ∙ ap (λ z. follows lists z (name m.v)) (sym e.1) ∙ ap (follows lists v) (sym e.0))
            (corners_ordered steps n m.a m.b m.v run.run small.0 record { step = m.step; place = m.place; a = m.a; b = m.b; top = m.v; earlier = l; face = m.face; corner = inl (refl, refl, refl) })
      ]
    where
      not_base : ¬ IsDartOfThree base.0 base.1 (follows lists base.1 base.0) u v
      not_base (inl e) = inner.1 one e.1
      not_base (inr (inl e)) = inner.1 three e.1
      not_base (inr (inr e)) = inner.1 two e.1

  pub wood_of_order : IsWood lists base parent
  wood_of_order = record { edges = edges; apart = apart; own_root = own; away = away; order = in_order }
