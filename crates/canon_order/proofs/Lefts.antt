-- What is left while vertices are taken off: how it begins, one vertex less, and how it ends.
use Rattle.std.proofs.Common.{◌≡◌, ◌≢◌, ◌⊎◌, ◌&&◌, ℕ, zero, suc, ◌+◌, ◌-◌, ◌<◌, ◌≤◌, Bool, true, not, eqb, List, [], ◌∷◌, ◌++◌, length, get_or, AllPairs, Contains, refl, sym, ap, ap₂, ◌∙◌, subst, inl, inr, arith, eq-eqb, ne_eqb, append_assoc}
use Rattle.std.proofs.lemmas.Bool.{cases_eq, cases_Bool, true≢false, false_from_ne_true}
use Rattle.std.proofs.lemmas.List.{append-nil, length-append, get_or_append_left, get_or-append-add}
use Rattle.std.proofs.lemmas.List.Folds.{list_any-append}
use Rattle.std.proofs.lemmas.List.Elements.{Contains-get_or}
use Rattle.classes.specs.Classes.{count_below}
use Rattle.classes.proofs.Counting.{count_below_all, count_below_same}
use Rattle.map_lists.specs.Lists.{Lists}
use Rattle.map_theory.specs.Maps.{HasDart, IsSimpleMap, follows, entry_after}
use Rattle.map_theory.proofs.EntryLemmas.{Contains-here, Contains-there, Contains-from_list_any, list_any-from_Contains}
use Rattle.plane_laws.specs.Triangulations.{IsTriangulation}
use Rattle.plane_peeling.specs.Restricted.{restricted, kept_but, IsFaceOfThree, IsDartOfThree}
use Rattle.plane_peeling.specs.NearTriangulations.{IsOuterCycle, IsOuterDart}
use Rattle.plane_peeling.specs.Peeled.{IsPeeled, IsFan, IsTakenOff}
use Rattle.plane_peeling.proofs.RestrictedMaps.{restricted-old, restricted_all, kept_but-old, kept_but-itself}
use Rattle.plane_peeling.proofs.Rings.{each_of_two, each_of_three, entry_after-inside, entry_after-last}
use Rattle.plane_peeling.proofs.Covers.{fan_covers}
use Rattle.plane_peeling.proofs.Ends.{nothing_taken_off, three_left}
use Rattle.canon_order.specs.Orders.{stands_in, IsPutOn, IsCanonicalOrder}
use Rattle.canon_order.specs.Lefts.{IsOrderOfLeft, IsLeft}
use Rattle.canon_order.proofs.Built.{topped, topped-new, IsBuiltUp-base, IsBuiltUp-more, IsMade-old, IsMade-new}

-- ---- three in a list
abbrev three : ℕ → ℕ → ℕ → List ℕ
three a b c = a ∷ b ∷ c ∷ []

three_cases : (a b c u : ℕ) → Contains (three a b c) u → (a ≡ u) ⊎ ((b ≡ u) ⊎ (c ≡ u))
three_cases a b c u h = each_of_three (λ z. (a ≡ z) ⊎ ((b ≡ z) ⊎ (c ≡ z))) a b c (inl refl) (inr (inl refl)) (inr (inr refl)) u h

-- each goes on to the next
three_steps : (a b c : ℕ) → AllPairs ◌≢◌ (three a b c) → (entry_after a (three a b c) ≡ b) × (entry_after b (three a b c) ≡ c) × (entry_after c (three a b c) ≡ a)
three_steps a b c distinct = (entry_after-inside [] a b (c ∷ []) distinct, entry_after-inside (a ∷ []) b c [] distinct, entry_after-last (a ∷ b ∷ []) c distinct)

-- the darts of the outer cycle of three
outer_of_three : (a b c x y : ℕ) → AllPairs ◌≢◌ (three a b c) → IsOuterDart (three a b c) x y → IsDartOfThree c a b x y
outer_of_three a b c x y distinct d =
    let steps = three_steps a b c distinct in
    grind (arith, three_cases, entry_after, three, steps)

-- between two others in a list of three stands the second
middle_of_three : (a b c : ℕ) (front : List ℕ) (p v q : ℕ) (back : List ℕ) → three a b c ≡ front ++ p ∷ v ∷ q ∷ back → v ≡ b
middle_of_three a b c [] p v q back e = sym (ap (λ l. get_or l 1 0) e)
middle_of_three a b c (x ∷ front) p v q back e =
    absurd (omega (arith, ap length e, length-append front (p ∷ v ∷ q ∷ back)))

-- ---- nothing is taken off
module _ (lists : Lists) (s t : ℕ) (kept : ℕ → Bool) (triangulation : IsTriangulation lists) (base : HasDart lists t s) (all : (v : ℕ) → v < length lists → kept v ≡ true) (vertices : (v : ℕ) → kept v ≡ true → v < length lists) where
  abbrev w : ℕ
  w = follows lists s t

  whole : IsPeeled lists kept s t (three s w t)
  whole = nothing_taken_off lists kept s t triangulation base all

  whole_count : count_below kept (length lists) ≡ length lists
  whole_count = count_below_same kept (λ i. true) (length lists) all ∙ count_below_all (length lists)

  -- an order of all is a canonical order
  order_of_all : (us : List ℕ) (cycle : ℕ → List ℕ) → IsOrderOfLeft lists s t kept (three s w t) us cycle → IsCanonicalOrder lists (t, s) us
  order_of_all us cycle order =
      let n = order.count ∙ whole_count in
      record {
        count = n;
        vertices = λ k d l. vertices (get_or us k d) (sym (order.same (get_or us k d)) ∙ list_any-from_Contains (get_or us k d) us (Contains-get_or us k d l));
        last =
            let put = order.built.put (length lists - 1) (omega arith) (omega arith) in
            let top : suc (length lists - 1) ≡ length us = omega arith in
            middle_of_three s w t put.front put.p (get_or us (length lists - 1) 0) put.q put.back (sym (ap cycle top ∙ order.top) ∙ put.after);
        cycle = cycle;
        built = order.built;
        faces = λ x y d n'. order.faces x y (subst (λ z. HasDart z x y) (sym (restricted_all lists kept triangulation.simple all)) d) (λ o. n' (outer_of_three s w t x y whole.near.cycle.distinct o));
      }

  pub IsLeft-begin : IsLeft lists s t kept (three s w t) []
  IsLeft-begin = record {
    vertices = vertices;
    count = let n = whole_count in omega arith;
    peeled = whole;
    ends = λ us cycle order. subst (λ z. IsCanonicalOrder lists (t, s) z) (sym (append-nil us)) (order_of_all us cycle order);
  }

-- ---- one vertex less
-- what stands in a list with one more
stands_in-more : (us : List ℕ) (v u : ℕ) (b : Bool) → stands_in us u ≡ (b && not (eqb u v)) → (u ≡ v → b ≡ true) → stands_in (us ++ v ∷ []) u ≡ b
stands_in-more us v u b e here = grind (arith, list_any-append, eqb, cases_eq, ap₂, eq-eqb, not, ne_eqb)

-- the entries of a row within a list
run_at : (front : List ℕ) (p : ℕ) (mid : List ℕ) (q : ℕ) (back : List ℕ) (i : ℕ) → i < length mid + 2 → get_or (front ++ (p ∷ mid ++ q ∷ back)) (length front + i) 0 ≡ get_or (p ∷ mid ++ q ∷ []) i 0
run_at front p mid q back i l =
    get_or-append-add front (p ∷ mid ++ q ∷ back) i 0
    ∙ (ap (λ z. get_or z i 0) (sym (append_assoc (p ∷ mid) (q ∷ []) back))
    ∙ get_or_append_left (p ∷ mid ++ q ∷ []) back 0 i (omega (arith, length-append (p ∷ mid) (q ∷ []))))

length-row : (front : List ℕ) (p : ℕ) (mid : List ℕ) (q : ℕ) (back : List ℕ) → length front + length mid + 2 ≤ length (front ++ (p ∷ mid ++ q ∷ back))
length-row front p mid q back = omega (arith, length-append front (p ∷ mid ++ q ∷ back), length-append (p ∷ mid) (q ∷ back))

module _ (lists : Lists) (s t : ℕ) (kept : ℕ → Bool) (ws rest : List ℕ) (triangulation : IsTriangulation lists) (left : IsLeft lists s t kept ws rest) where
  -- what is on the outer cycle is left
  pub on_kept : (v : ℕ) → Contains ws v → kept v ≡ true
  on_kept v on = (restricted-old lists kept v (entry_after v ws) (left.peeled.near.cycle.darts v on)).1

  module _ (v : ℕ) (front : List ℕ) (p : ℕ) (mid : List ℕ) (q : ℕ) (back : List ℕ) (on : Contains ws v) (off : IsTakenOff lists kept s t ws v front p mid q back) (less : count_below kept (length lists) ≡ count_below (kept_but kept v) (length lists) + 1) (some : 3 ≤ count_below (kept_but kept v) (length lists)) where
    abbrev ws' : List ℕ
    ws' = front ++ (p ∷ mid ++ q ∷ back)

    order_more : (us : List ℕ) (cycle : ℕ → List ℕ) → IsOrderOfLeft lists s t (kept_but kept v) ws' us cycle → IsOrderOfLeft lists s t kept ws (us ++ v ∷ []) (topped cycle (suc (length us)) ws)
    order_more us cycle order =
        let here = on_kept v on in
        let len = length-append us (v ∷ []) in
        let same : (u : ℕ) → stands_in (us ++ v ∷ []) u ≡ kept u = λ u. stands_in-more us v u (kept u) (order.same u) (λ e. ap kept e ∙ here) in
        let alike : kept ≡ stands_in (us ++ v ∷ []) = sym (λ i u. same u i) in
        let put : IsPutOn lists (us ++ v ∷ []) v (cycle (length us)) ws = record {
          front = front;
          p = p;
          middle = mid;
          q = q;
          back = back;
          before = order.top;
          after = off.before;
          fan = subst (λ k. IsFan lists k v p mid q) alike off.fan;
        } in
        record {
          built = IsBuiltUp-more lists s t us cycle v ws order.built (omega arith)
              (λ c. true≢false (sym (list_any-from_Contains v us c) ∙ (order.same v ∙ kept_but-itself kept v)))
              (subst (λ k. IsOuterCycle (restricted k lists) s t ws) alike left.peeled.near.cycle) put;
          count = omega arith;
          same = same;
          top = topped-new cycle (suc (length us)) ws (length (us ++ v ∷ [])) (omega arith);
          faces = λ x y d outer. elim (fan_covers lists kept s t ws v front p mid q back left.peeled off x y d outer) [
            | inl h ↦ IsMade-old lists s t us cycle v ws x y (order.faces x y h.0 h.1)
            | inr h ↦
                let long = length-row front p mid q back in
                let one = ap (λ z. get_or z (length front + h.0) 0) order.top ∙ (run_at front p mid q back h.0 (omega arith)) in
                let e : suc (length front + h.0) ≡ length front + (h.0 + 1) = omega arith in
                let next = ap₂ (λ z k. get_or z k 0) order.top e ∙ (run_at front p mid q back (h.0 + 1) (omega arith)) in
                let top_length = ap length order.top in
                IsMade-new lists s t us cycle v ws (omega arith) x y (length front + h.0) _ _ (omega arith) one next (off.fan.faces h.0 h.1) h.2
          ];
        }

    pub IsLeft-taken : IsLeft lists s t (kept_but kept v) ws' (v ∷ rest)
    IsLeft-taken = record {
      vertices = λ u k. left.vertices u (kept_but-old kept v u k).0;
      count = let n = left.count in omega arith;
      peeled = off.left;
      ends = λ us cycle order. subst (λ z. IsCanonicalOrder lists (t, s) z) (append_assoc us (v ∷ []) rest) (left.ends (us ++ v ∷ []) (topped cycle (suc (length us)) ws) (order_more us cycle order));
    }

  -- ---- three are left
  module _ (few : count_below kept (length lists) ≡ 3) where
    last : (x : ℕ) × (ws ≡ three s x t) × IsFaceOfThree lists x s t × ((u : ℕ) → u < length lists → kept u ≡ true → Contains ws u)
    last = three_left lists kept s t ws left.peeled few

    abbrev x : ℕ
    x = last.0

    abbrev map : Lists
    map = restricted kept lists

    cycle_of_three : IsOuterCycle map s t (three s x t)
    cycle_of_three = subst (λ z. IsOuterCycle map s t z) last.1 left.peeled.near.cycle

    simple : IsSimpleMap lists
    simple = triangulation.simple

    apart : (s ≢ x) × ((s ≢ t) × (x ≢ t))
    apart =
        let d = cycle_of_three.distinct in
        (d 0 1 0 (omega arith) (omega arith), (d 0 2 0 (omega arith) (omega arith), d 1 2 0 (omega arith) (omega arith)))

    steps : (entry_after s (three s x t) ≡ x) × (entry_after x (three s x t) ≡ t) × (entry_after t (three s x t) ≡ s)
    steps = three_steps s x t cycle_of_three.distinct

    dart_sx : HasDart map s x
    dart_sx = subst (HasDart map s) steps.0 (cycle_of_three.darts s (Contains-here s (x ∷ t ∷ [])))

    dart_xt : HasDart map x t
    dart_xt = subst (HasDart map x) steps.1 (cycle_of_three.darts x (Contains-there s (x ∷ t ∷ []) x (Contains-here x (t ∷ []))))

    -- these three alone are left
    only_three : (u : ℕ) → kept u ≡ true → (u ≡ s) ⊎ ((u ≡ t) ⊎ (u ≡ x))
    only_three u k =
        elim (three_cases s x t u (subst (λ z. Contains z u) last.1 (last.3 u (left.vertices u k) k))) [
          | inl e ↦ inl (sym e)
          | inr r ↦ elim r [ inl e ↦ inr (inr (sym e)) | inr e ↦ inr (inl (sym e)) ]
        ]

    kept_three : (u : ℕ) → Contains (s ∷ t ∷ x ∷ []) u → kept u ≡ true
    kept_three u c =
        elim (three_cases s t x u c) [
          | inl e ↦ ap kept (sym e) ∙ (restricted-old lists kept s x dart_sx).1
          | inr r ↦ elim r [ inl e ↦ ap kept (sym e) ∙ (restricted-old lists kept x t dart_xt).2 | inr e ↦ ap kept (sym e) ∙ (restricted-old lists kept s x dart_sx).2 ]
        ]

    in_three : (u : ℕ) → (u ≡ s) ⊎ ((u ≡ t) ⊎ (u ≡ x)) → Contains (s ∷ t ∷ x ∷ []) u
    in_three u h =
        elim h [
          | inl e ↦ subst (λ z. Contains (s ∷ t ∷ x ∷ []) z) (sym e) (Contains-here s (t ∷ x ∷ []))
          | inr r ↦ Contains-there s (t ∷ x ∷ []) u (elim r [
            | inl e ↦ subst (λ z. Contains (t ∷ x ∷ []) z) (sym e) (Contains-here t (x ∷ []))
            | inr e ↦ Contains-there t (x ∷ []) u (subst (λ z. Contains (x ∷ []) z) (sym e) (Contains-here x []))
          ])
        ]

    same_three : (u : ℕ) → stands_in (s ∷ t ∷ x ∷ []) u ≡ kept u
    same_three u =
        elim (cases_Bool (kept u)) [
          | inl k ↦ list_any-from_Contains u (s ∷ t ∷ x ∷ []) (in_three u (only_three u k)) ∙ sym k
          | inr k ↦ false_from_ne_true (stands_in (s ∷ t ∷ x ∷ []) u) (λ i. true≢false (sym (kept_three u (Contains-from_list_any u (s ∷ t ∷ x ∷ []) i)) ∙ k)) ∙ sym k
        ]

    alike_three : kept ≡ stands_in (s ∷ t ∷ x ∷ [])
    alike_three = sym (λ i u. same_three u i)

    fan_of_three : IsFan lists kept x s [] t
    fan_of_three = record {
      neighbours = λ u. (
        (λ d.
            let old = restricted-old lists kept x u d in
            elim (only_three u old.2) [
              | inl e ↦ subst (λ z. Contains (s ∷ t ∷ []) z) (sym e) (Contains-here s (t ∷ []))
              | inr r ↦ elim r [
                | inl e ↦ Contains-there s (t ∷ []) u (subst (λ z. Contains (t ∷ []) z) (sym e) (Contains-here t []))
                | inr e ↦ absurd (simple.no_loop x u old.0 e)
              ]
            ]),
        λ c. each_of_two (HasDart map x) s t (left.peeled.near.simple.both_ways s x dart_sx) dart_xt u c,
      );
      faces = λ i l. face_at i l;
    }
      where
        face_at : (i : ℕ) → i < 0 + 1 → IsFaceOfThree lists x (get_or (s ∷ t ∷ []) i 0) (get_or (s ∷ t ∷ []) (i + 1) 0)
        face_at zero l = last.2
        face_at (suc i) l = absurd (omega (arith, l))

    -- a dart between them that is not on the outer cycle
    inner_of_three : (a b : ℕ) → HasDart map a b → ¬ IsOuterDart ws a b → IsDartOfThree x s t a b
    inner_of_three a b d n =
        let old = restricted-old lists kept a b d in
        let no_loop = λ (e : b ≡ a). simple.no_loop a b old.0 e in
        let outer : (a' b' : ℕ) → Contains (three s x t) a' → entry_after a' (three s x t) ≡ b' → a ≡ a' → b ≡ b' → ⊥ = λ a' b' c e q r.
        n (subst (λ z. IsOuterDart z a b) (sym last.1) (subst (Contains (three s x t)) (sym q) c, ap (λ z. entry_after z (three s x t)) q ∙ (e ∙ sym r))) in
        let on_x = Contains-there s (x ∷ t ∷ []) x (Contains-here x (t ∷ [])) in
        grind (arith, only_three, Contains-here, steps, Contains-there)

    order_of_three : IsOrderOfLeft lists s t kept ws (s ∷ t ∷ x ∷ []) (topped (λ k. s ∷ t ∷ []) 3 ws)
    order_of_three =
        let put : IsPutOn lists (s ∷ t ∷ x ∷ []) x (s ∷ t ∷ []) ws = record {
          front = [];
          p = s;
          middle = [];
          q = t;
          back = [];
          before = refl;
          after = last.1;
          fan = subst (λ k. IsFan lists k x s [] t) alike_three fan_of_three;
        } in
        record {
          built = IsBuiltUp-more lists s t (s ∷ t ∷ []) (λ k. s ∷ t ∷ []) x ws (IsBuiltUp-base lists s t apart.1.0) (omega arith)
              (λ c. each_of_two (λ z. z ≢ x) s t apart.0 (λ e. apart.1.1 (sym e)) x c refl)
              (subst (λ k. IsOuterCycle (restricted k lists) s t ws) alike_three left.peeled.near.cycle) put;
          count = sym few;
          same = same_three;
          top = topped-new (λ k. s ∷ t ∷ []) 3 ws 3 refl;
          faces = λ a b d outer. IsMade-new lists s t (s ∷ t ∷ []) (λ k. s ∷ t ∷ []) x ws (omega arith) a b 0 s t (omega arith) refl refl last.2 (inner_of_three a b d outer);
        }

    -- they are the base and the third vertex of the face on its other side
    pub IsLeft-three : IsCanonicalOrder lists (t, s) (s ∷ t ∷ follows lists t s ∷ rest)
    IsLeft-three = subst (λ z. IsCanonicalOrder lists (t, s) (s ∷ t ∷ z ∷ rest)) (sym last.2.third) (left.ends (s ∷ t ∷ x ∷ []) (topped (λ k. s ∷ t ∷ []) 3 ws) order_of_three)
