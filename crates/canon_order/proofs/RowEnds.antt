-- Where the row of a vertex begins and ends in its list.
use Rattle.std.proofs.Common.{◌≡◌, ◌≢◌, ◌+◌, ◌<◌, ◌≤◌, ℕ, suc, true, false, List, [], ◌∷◌, ◌++◌, length, take, get_or, AllPairs, Contains, sym, ap, ◌∙◌, subst, inl, inr, arith, append_assoc}
use Rattle.std.proofs.lemmas.Bool.{cases_eq, true≢false, false_from_ne_true, and_from}
use Rattle.std.proofs.lemmas.List.{length-take-le, get_or-take, get_or_default, get_or-append-add, length-append}
use Rattle.std.proofs.lemmas.List.Elements.{Contains-get_or}
use Rattle.std.proofs.Math.Seq.{get_or-append_seam}
use Rattle.map_lists.specs.Lists.{Lists}
use Rattle.map_theory.specs.Maps.{Dart, HasDart, list_of, follows, entry_after}
use Rattle.map_theory.proofs.DartLemmas.{entry_after-injective}
use Rattle.map_theory.proofs.EntryLemmas.{Contains-here, Contains-from_list_any}
use Rattle.plane_laws.specs.Triangulations.{IsTriangulation}
use Rattle.plane_peeling.specs.Restricted.{restricted, IsDartOfThree}
use Rattle.plane_peeling.specs.NearTriangulations.{IsOuterCycle}
use Rattle.plane_peeling.proofs.RestrictedMaps.{restricted-map, restricted-old, restricted-new}
use Rattle.plane_peeling.proofs.Rings.{entry_after-inside, each_of_two}
use Rattle.canon_order.specs.Orders.{stands_in, IsPutOn, IsMade, IsCanonicalOrder}
use Rattle.canon_order.specs.Laws.{RowEnds}
use Rattle.canon_order.proofs.Counters.{same_place}

module _ (lists : Lists) (base : Dart) (at : List ℕ) (triangulation : IsTriangulation lists) (order : IsCanonicalOrder lists base at) where
  abbrev s : ℕ
  s = base.1

  abbrev t : ℕ
  t = base.0

  abbrev n : ℕ
  n = length at

  -- one vertex has one place
  one_place : (i j : ℕ) → i < n → j < n → get_or at i 0 ≡ get_or at j 0 → i ≡ j
  one_place i j l m e = same_place at i j order.built.once l m e

  in_first : (k i : ℕ) → i < k → k ≤ n → Contains (take k at) (get_or at i 0)
  in_first k i l m =
      (i, omega (arith, length-take-le k at m), get_or-take k at i (get_or at i 0) l ∙ get_or_default at i (get_or at i 0) 0 (omega arith))

  place_in_first : (k j u : ℕ) → k ≤ n → j < n → Contains (take k at) u → get_or at j 0 ≡ u → j < k
  place_in_first k j u m l c e =
      let len = length-take-le k at m in
      let l' : c.0 < k = omega arith in
      let same = one_place j c.0 l (omega arith) (e ∙ sym (get_or_default at c.0 0 u (omega arith) ∙ (sym (get_or-take k at c.0 u l') ∙ c.2))) in
      omega arith

  -- the vertices of a cycle are among the first
  on_first : (k : ℕ) → 2 ≤ k → k ≤ n → (u : ℕ) → Contains (order.cycle k) u → Contains (take k at) u
  on_first k l m u c =
      elim (cases_eq k 2) [
        | inl e ↦
            let c' = subst (λ (us : List ℕ). Contains us u) (ap order.cycle e ∙ order.built.begin) c in
            each_of_two (λ z. Contains (take k at) z) s t (subst (Contains (take k at)) order.built.first (in_first k 0 (omega arith) m)) (subst (Contains (take k at)) order.built.second (in_first k 1 (omega arith) m)) u c'
        | inr ne ↦
            Contains-from_list_any u (take k at) (restricted-old lists (stands_in (take k at)) u _ ((order.built.outer k (omega arith) m).darts u c)).1
      ]

  cycle_distinct : (k : ℕ) → 2 ≤ k → k ≤ n → AllPairs ◌≢◌ (order.cycle k)
  cycle_distinct k l m =
      elim (cases_eq k 2) [
        | inl e ↦
            subst (λ (us : List ℕ). AllPairs ◌≢◌ us) (sym (ap order.cycle e ∙ order.built.begin))
            (λ i j d l' m' q. absurd (omega (arith, one_place 0 1 (omega arith) (omega arith) (order.built.first ∙ (two i j d l' m' q ∙ sym order.built.second)))))
        | inr ne ↦ (order.built.outer k (omega arith) m).distinct
      ]
    where
      two : (i j d : ℕ) → i < j → j < 2 → get_or (s ∷ t ∷ []) i d ≡ get_or (s ∷ t ∷ []) j d → s ≡ t
      two i j d l m e =
          let i' : i ≡ 0 = omega arith in
          let j' : j ≡ 1 = omega arith in
          sym (ap (λ z. get_or (s ∷ t ∷ []) z d) i') ∙ (e ∙ ap (λ z. get_or (s ∷ t ∷ []) z d) j')

  module _ (k : ℕ) (later : 2 ≤ k) (within : k < n) (more : suc k < n) where
    abbrev put : IsPutOn lists (take (suc k) at) (get_or at k 0) (order.cycle k) (order.cycle (suc k))
    put = order.built.put k later within

    abbrev v : ℕ
    v = get_or at k 0

    abbrev p : ℕ
    p = put.p

    abbrev q : ℕ
    q = put.q

    abbrev us : List ℕ
    us = take (suc k) at

    abbrev map : Lists
    map = restricted (stands_in us) lists

    outer : IsOuterCycle map s t (order.cycle (suc k))
    outer = order.built.outer (suc k) (omega arith) (omega arith)

    distinct : AllPairs ◌≢◌ (put.front ++ p ∷ v ∷ q ∷ put.back)
    distinct = subst (λ (ws : List ℕ). AllPairs ◌≢◌ ws) put.after outer.distinct

    -- round v the outer cycle goes from p to q
    corner : follows map v p ≡ q
    corner =
        let separated = append_assoc put.front (p ∷ []) (v ∷ q ∷ put.back) in
        let one : entry_after p (order.cycle (suc k)) ≡ v = ap (entry_after p) put.after ∙ entry_after-inside put.front p v (q ∷ put.back) distinct in
        let two : entry_after v (order.cycle (suc k)) ≡ q =
        ap (entry_after v) (put.after ∙ sym separated)
        ∙ entry_after-inside (put.front ++ p ∷ []) v q put.back (subst (λ (ws : List ℕ). AllPairs ◌≢◌ ws) (sym separated) distinct) in
        let on_p = subst (λ (ws : List ℕ). Contains ws p) (sym put.after) (length put.front, omega (arith, length-append put.front (p ∷ v ∷ q ∷ put.back)), get_or-append_seam put.front p (v ∷ q ∷ put.back) p) in
        ap (λ z. follows map z p) (sym one) ∙ (outer.turns p on_p ∙ (ap (λ z. entry_after z (order.cycle (suc k))) one ∙ two))

    dart_p : HasDart map v p
    dart_p = (put.fan.neighbours p).1 (Contains-here p (put.middle ++ q ∷ []))

    dart_q : HasDart map v q
    dart_q =
        (put.fan.neighbours q).1
        (suc (length put.middle), omega (arith, length-append put.middle (q ∷ [])), get_or-append_seam put.middle q [] q)

    kept_v : stands_in us v ≡ true
    kept_v = (restricted-old lists (stands_in us) v p dart_p).1

    kept_p : stands_in us p ≡ true
    kept_p = (restricted-old lists (stands_in us) v p dart_p).2

    kept_q : stands_in us q ≡ true
    kept_q = (restricted-old lists (stands_in us) v q dart_q).2

    -- an earlier vertex stands before v
    earlier : (j u : ℕ) → j < n → stands_in us u ≡ true → get_or at j 0 ≡ u → j < suc k
    earlier j u l t' e = place_in_first (suc k) j u (omega arith) l (Contains-from_list_any u us t') e

    -- a vertex of a cycle, which is v, makes it a later one
    after_v : (j u : ℕ) → 2 ≤ j → j < n → Contains (order.cycle j) u → v ≡ u → k < j
    after_v j u l m c e = place_in_first j k u (omega arith) within (on_first j l (omega arith) u c) e

    off_base : ¬ IsDartOfThree t s (follows lists s t) p v
    off_base d = grind (arith, one_place, length)

    -- no face is made with p, v and q
    not_made : follows lists v p ≡ q → ¬ IsMade lists at order.cycle p v
    not_made x m =
        let j = m.k in
        let on_a : Contains (order.cycle j) m.a = subst (Contains (order.cycle j)) m.one (Contains-get_or (order.cycle j) m.i 0 (omega arith)) in
        let on_b : Contains (order.cycle j) m.b = subst (Contains (order.cycle j)) m.next (Contains-get_or (order.cycle j) (suc m.i) 0 m.inside) in
        elim m.dart [
          | inl e ↦
              let two = after_v j m.a m.later m.within on_a e.1 in
              omega (arith, earlier j p m.within kept_p (m.vertex ∙ sym e.0))
          | inr r ↦ elim r [
            | inl e ↦
                let at_q : q ≡ m.v = sym x ∙ (ap (λ z. follows lists z p) e.1 ∙ (ap (follows lists m.b) e.0 ∙ m.face.third)) in
                let two = after_v j m.b m.later m.within on_b e.1 in
                omega (arith, earlier j q m.within kept_q (m.vertex ∙ sym at_q))
            | inr e ↦
                let at_q : q ≡ m.a = sym x ∙ (ap (λ z. follows lists z p) e.1 ∙ (ap (follows lists m.v) e.0 ∙ m.face.round)) in
                let same : j ≡ k = one_place j k m.within within (m.vertex ∙ sym e.1) in
                let ws = order.cycle k in
                let apart = cycle_distinct k later (omega arith) in
                let run = put.before in
                let len = length-append put.front (p ∷ put.middle ++ q ∷ put.back) in
                let len' = length-append put.middle (q ∷ put.back) in
                let size = ap length run in
                let first : get_or ws (length put.front) 0 ≡ p = ap (λ z. get_or z (length put.front) 0) run ∙ get_or-append_seam put.front p (put.middle ++ q ∷ put.back) 0 in
                let end : get_or ws (length put.front + suc (length put.middle)) 0 ≡ q =
                ap (λ z. get_or z (length put.front + suc (length put.middle)) 0) run
                ∙ (get_or-append-add put.front (p ∷ put.middle ++ q ∷ put.back) (suc (length put.middle)) 0
                ∙ get_or-append_seam put.middle q put.back 0) in
                let in_i : suc m.i < length ws = subst (λ z. suc m.i < length (order.cycle z)) same m.inside in
                let a_at : get_or ws m.i 0 ≡ q = ap (λ z. get_or (order.cycle z) m.i 0) (sym same) ∙ (m.one ∙ sym at_q) in
                let b_at : get_or ws (suc m.i) 0 ≡ p = ap (λ z. get_or (order.cycle z) (suc m.i) 0) (sym same) ∙ (m.next ∙ sym e.0) in
                let one = same_place ws m.i (length put.front + suc (length put.middle)) apart (omega arith) (omega arith) (a_at ∙ sym end) in
                omega (arith, same_place ws (suc m.i) (length put.front) apart (omega arith) (omega arith) (b_at ∙ sym first))
          ]
        ]

    -- so what follows p is later
    after_p : stands_in us (follows lists v p) ≡ false
    after_p =
        let x = follows lists v p in
        false_from_ne_true (stands_in us x) (λ kx.
        let same : q ≡ x = sym corner ∙ (restricted-map lists (stands_in us) triangulation.simple).follows_same v p dart_p (and_from (stands_in us v) (stands_in us x) kept_v kx) in
        not_made (sym same) (order.faces p v (triangulation.simple.both_ways v p (restricted-old lists (stands_in us) v p dart_p).0) off_base))

    -- and so is what q follows
    before_q : (u : ℕ) → HasDart lists v u → follows lists v u ≡ q → stands_in us u ≡ false
    before_q u d e =
        let kept = restricted-map lists (stands_in us) triangulation.simple in
        false_from_ne_true (stands_in us u) (λ ku.
        let there = restricted-new lists (stands_in us) v u d kept_v ku in
        let turn : follows map v u ≡ q = kept.follows_same v u there (and_from (stands_in us v) (stands_in us (follows lists v u)) kept_v (ap (stands_in us) e ∙ kept_q)) ∙ e in
        let same : u ≡ p = entry_after-injective (list_of map v) u p (kept.simple.no_repeat v there.0) there.1 dart_p.1 (turn ∙ sym corner) in
        true≢false (sym (ap (stands_in us) (sym (ap (follows lists v) same) ∙ e) ∙ kept_q) ∙ after_p))

-- THE LAW
pub row_ends : RowEnds
row_ends lists base at triangulation order k later within more = record {
  after = after_p lists base at triangulation order k later within more;
  before = before_q lists base at triangulation order k later within more;
}
