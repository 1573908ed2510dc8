-- The low points that a search finds on its way.
use Rattle.std.proofs.Common.{◌≡◌, ◌≢◌, ◌⊎◌, ℕ, zero, suc, ◌+◌, ◌<◌, ◌≤◌, min, ltb, List, length, get_or, set, replicate, refl, sym, ap, ◌∙◌, subst, inl, inr, arith, length-set}
use Rattle.std.proofs.Math.Logic.{∥∥₁_elim, ∥∥₁_map}
use Rattle.std.proofs.lemmas.Bool.{cases_eq, cases_lt}
use Rattle.std.proofs.lemmas.List.{get_or_default, length-replicate, get_or-replicate}
use Rattle.std.proofs.lemmas.List.Elements.{Contains-get_or}
use Rattle.classes.proofs.Counting.{count_below-le}
use Rattle.map_lists.specs.Lists.{Lists}
use Rattle.map_theory.specs.Maps.{HasDart, list_of, place_of}
use Rattle.map_theory.proofs.DartLemmas.{place_of-lt-length, Contains-from_place_of}
use Rattle.graph_search.specs.Forests.{IsForestOf}
use Rattle.graph_search.specs.Lows.{Meets, AreLows, IsLowered}
use Rattle.graph_search.specs.UnderWay.{IsUnderWay, AreRead, IsMetFrom, AreLowering, AreLowsSoFar, IsSearching, IsLeastFrom}
use Rattle.graph_search.proofs.ForestLemmas.{IsWithin-cases, child_towards}
use Rattle.graph_search.proofs.StepLemmas.{IsPut-set, unseen_open, IsPut}

-- an entry is lowered to `least`, where it is greater
pub record IsLowering (old new : ℕ → ℕ) (n p least : ℕ) : Type 0 where
  pub here : p < n → new p ≡ min (old p) least
  pub elsewhere : (u : ℕ) → u ≢ p → new u ≡ old u

module _ (lists : Lists) (order number last parent cursor low : ℕ → ℕ) (count current : ℕ) (h : IsUnderWay lists order number last parent count current) (r : AreRead lists number cursor) (k : AreLowering lists number last parent cursor low) where
  count_few : count ≤ length lists
  count_few = omega (arith, h.counted, count_below-le (λ v. ltb (number v) (length lists)) (length lists))

  module _ (number' parent' : ℕ → ℕ) (w : ℕ) (w_in : w < length lists) (unseen : number w ≡ length lists) (u : IsPut number number' w count) (p : IsPut parent parent' w current) where
    -- what was seen keeps its number
    kept : (v : ℕ) → number v < length lists → number' v ≡ number v
    kept v s = u.elsewhere v (λ e. (let q : number v ≡ length lists = ap number e ∙ unseen in omega arith))

    -- after w was seen
    pub AreLowering-seen : AreLowering lists number' last parent' cursor low
    AreLowering-seen =
        let open_w = unseen_open lists order number last parent count current h w w_in unseen in
        record {
          read = λ v i m l. omega (arith, k.read v i m l, kept (get_or (list_of lists v) i 0) (r.seen v i m l));
          done = λ v x has d.
              let few = h.edges v x has d in
              let le = h.ends_within v has.0 in
              let all = count_few in
              omega (arith, k.done v x has d, kept x (omega arith));
          children = λ c m d q.
              let is : parent' c ≡ parent c = p.elsewhere c (λ e. (let z = ap last e in omega arith)) in
              rw is (k.children c m d (omega arith));
          seen = λ v m l. let s = k.seen v m l in omega (arith, kept v s);
          met = λ v m l. ∥∥₁_map (k.met v m l) (λ x. (
              let same_v = kept v (k.seen v m l) in
              let same_w = kept x.w x.seen in
              let is = x.is in
              let same_u = kept x.u (omega arith) in
              record {
                w = x.w;
                u = x.u;
                from = let a = x.from in omega arith;
                before = λ d. let b = x.before d in omega arith;
                seen = let a = x.seen in omega arith;
                dart = x.dart;
                is = same_u ∙ is;
              }));
        }

  module _ (last' low' : ℕ → ℕ) (c_in : current < length lists) (all : (v : ℕ) → HasDart lists current v → low current ≤ number v) (z : IsPut last last' current count) (w : IsLowering low low' (length lists) (parent current) (low current)) where
    -- after the current vertex was done
    pub AreLowering-done : AreLowering lists number last' parent cursor low'
    AreLowering-done =
        let n = length lists in
        let p = parent current in
        let seen = h.current_seen c_in in
        let still = h.current_open c_in in
        let above : p < n → number p < number current = λ m. (h.held current c_in seen m).after in
        let p_open : p < n → last p ≡ 0 = λ m. (
        elim (cases_lt 0 (last p)) [
          | inr none ↦ omega arith
          | inl d ↦ absurd (let b = (h.held current c_in seen m).before d in let e = h.nested_done p current m c_in (above m) b in omega arith)
        ]) in
        let apart : current ≢ p = λ e. (let m : p < n = omega (arith, sym e) in let a = above m in let q = ap number e in omega arith) in
        let same : low' current ≡ low current = w.elsewhere current apart in
        let still_open : p < n → last' p ≡ 0 = λ m. (z.elsewhere p (λ e. apart (sym e)) ∙ p_open m) in
        let less : (v : ℕ) → v < n → low' v ≤ low v = λ v m. elim (cases_eq v p) [
          | inl e ↦ (let a = w.here (omega arith) in let b = ap low' e in let d = ap low e in omega arith)
          | inr ne ↦ omega (arith, w.elsewhere v ne)
        ] in
        record {
          read = λ v i m l. omega (arith, k.read v i m l, less v m);
          done = λ v x has d. elim (cases_eq v current) [
            | inl e ↦
                let here : HasDart lists current x = subst (λ y. HasDart lists y x) e has in
                omega (arith, all x here, less v has.0, ap low e)
            | inr ne ↦ omega (arith, k.done v x has (omega (arith, z.elsewhere v ne)), less v has.0)
          ];
          children = λ c m d q. elim (cases_eq c current) [
            | inl e ↦ grind arith
            | inr ne ↦
                let old = k.children c m (omega (arith, z.elsewhere c ne)) q in
                let c_other : c ≢ p = λ e. (let f = still_open (omega arith) in let g = ap last' e in omega arith) in
                omega (arith, less (parent c) q, w.elsewhere c c_other)
          ];
          seen = λ v m l. elim (cases_eq v p) [
            | inl e ↦ (let a = above (omega arith) in let b = ap number e in omega arith)
            | inr ne ↦ k.seen v m (omega (arith, w.elsewhere v ne))
          ];
          met = λ v m l. elim (cases_eq v p) [
            | inl e ↦
                let p_in : p < n = omega arith in
                let a = w.here p_in in
                let b = ap low' e in
                let o = still_open p_in in
                subst (λ x. ∥ IsMetFrom lists number last' x (low' x) ∥₁) (sym e)
                (elim (cases_lt (low p) (low current)) [
                  | inl few ↦ ∥∥₁_map (k.met p p_in (omega arith)) (λ x. record { w = x.w; u = x.u; from = x.from; before = λ d. absurd (omega arith); seen = x.seen; dart = x.dart; is = x.is ∙ omega arith })
                  | inr more ↦ ∥∥₁_map (k.met current c_in (omega arith)) (λ x. record { w = x.w; u = x.u; from = (let f = x.from in let g = above p_in in omega arith); before = λ d. absurd (omega arith); seen = x.seen; dart = x.dart; is = x.is ∙ omega arith })
                ])
            | inr ne ↦
                let is = w.elsewhere v ne in
                ∥∥₁_map (k.met v m (omega arith)) (λ x. record {
                  w = x.w;
                  u = x.u;
                  from = x.from;
                  before = λ d. elim (cases_eq v current) [
                    | inl e ↦ omega (arith, ap last' e, z.here, h.numbered x.w x.dart.0 x.seen)
                    | inr other ↦ (let f = z.elsewhere v other in let b = x.before (omega arith) in omega arith)
                  ];
                  seen = x.seen;
                  dart = x.dart;
                  is = x.is ∙ sym is;
                })
          ];
        }

  module _ (cursor' low' : ℕ → ℕ) (place least : ℕ) (number_list : List ℕ) (c_in : current < length lists) (y : IsPut cursor cursor' current place) (w : IsPut low low' current least) (l : IsLeastFrom (list_of lists current) number_list (cursor current) place (low current) least) (numbers : (v : ℕ) → number v ≡ get_or number_list v 0) where
    -- after the current vertex's entries up to `place` were read
    pub AreLowering-read : AreLowering lists number last parent cursor' low'
    AreLowering-read =
        let n = length lists in
        let still = h.current_open c_in in
        let less : (v : ℕ) → low' v ≤ low v = λ v. elim (cases_eq v current) [
          | inl e ↦ (let a = w.here in let b = ap low' e in let d = ap low e in let f = l.most in omega arith)
          | inr ne ↦ omega (arith, w.elsewhere v ne)
        ] in
        record {
          read = λ v i m j. elim (cases_eq v current) [
            | inl e ↦
                let a = w.here in
                let b = ap low' e in
                let is : list_of lists v ≡ list_of lists current = ap (list_of lists) e in
                let same = ap (λ (xs : List ℕ). number (get_or xs i 0)) is in
                elim (cases_lt i (cursor current)) [
                  | inl before ↦ omega (arith, k.read v i m (omega (arith, ap cursor e)), less v)
                  | inr from ↦ omega (arith, l.below i from (omega (arith, ap cursor' e, y.here)), numbers (get_or (list_of lists current) i 0))
                ]
            | inr ne ↦ omega (arith, k.read v i m (omega (arith, y.elsewhere v ne)), less v)
          ];
          done = λ v x has d. omega (arith, k.done v x has d, less v);
          children = λ c m d q.
              let other : c ≢ current = λ e. (let f = ap last e in omega arith) in
              omega (arith, k.children c m d q, less (parent c), w.elsewhere c other);
          seen = λ v m j. elim (cases_eq v current) [
            | inl e ↦ omega (arith, h.current_seen c_in, ap number e)
            | inr ne ↦ k.seen v m (omega (arith, w.elsewhere v ne))
          ];
          met = λ v m j. elim (cases_eq v current) [
            | inl e ↦
                let a = w.here in
                let b = ap low' e in
                subst (λ x. ∥ IsMetFrom lists number last x (low' x) ∥₁) (sym e)
                (elim l.met [
                  | inl old ↦ ∥∥₁_map (k.met current c_in (omega arith)) (λ x. record { w = x.w; u = x.u; from = x.from; before = x.before; seen = x.seen; dart = x.dart; is = x.is ∙ omega arith })
                  | inr new ↦ ∣ record {
                    w = current;
                    u = get_or (list_of lists current) new.0 0;
                    from = omega arith;
                    before = λ d. absurd (omega arith);
                    seen = h.current_seen c_in;
                    dart = (c_in, Contains-get_or (list_of lists current) new.0 0 new.1);
                    is = numbers (get_or (list_of lists current) new.0 0) ∙ (new.2 ∙ sym a);
                  } ∣₁
                ])
            | inr ne ↦
                let is = w.elsewhere v ne in
                subst (λ x. ∥ IsMetFrom lists number last v x ∥₁) (sym is) (k.met v m (omega arith))
          ];
        }

-- the least with one entry more
pub IsLeastFrom-more : (entries number : List ℕ) (from place start least next : ℕ) → place < length entries → next ≡ min least (get_or number (get_or entries place 0) 0) → IsLeastFrom entries number from place start least → IsLeastFrom entries number from (place + 1) start next
IsLeastFrom-more entries number from place start least next l e h = record {
  most = omega (arith, h.most);
  below = λ i a b. elim (cases_eq i place) [
    | inl same ↦ omega (arith, ap (λ x. get_or number (get_or entries x 0) 0) same)
    | inr ne ↦ omega (arith, h.below i a (omega arith))
  ];
  met = elim (cases_lt least (get_or number (get_or entries place 0) 0)) [
    | inl less ↦ (let is : least ≡ next = omega arith in elim h.met [ inl old ↦ inl (sym is ∙ old) | inr old ↦ inr (old.0, old.1, old.2 ∙ is) ])
    | inr more ↦ inr (place, l, omega arith)
  ];
}

-- a vertex with a property that can be told of each, where it is known that there is one
found_below : (P : ℕ → Type 0) → ((v : ℕ) → P v ⊎ ¬ P v) → (n : ℕ) → ∥ ((v : ℕ) × (v < n) × P v) ∥₁ → (v : ℕ) × (v < n) × P v
found_below P told zero h = absurd (∥∥₁_elim h (λ x y. absurd x) (λ s. let l = s.1 in omega arith))
found_below P told (suc n) h = elim (told n) [
  | inl here ↦ (n, omega arith, here)
  | inr none ↦
      let rest = found_below P told n (∥∥₁_map h (λ s. (
      let ne : s.0 ≢ n = λ e. none (subst P e s.2) in
      let l = s.1 in
      (s.0, omega arith, s.2)))) in
      (rest.0, let l = rest.1 in omega arith, rest.2)
]

module _ (lists : Lists) (in_range : (v u : ℕ) → HasDart lists v u → u < length lists) (order number last parent cursor low : List ℕ) (f : IsForestOf lists order number last parent) (k : AreLowsSoFar lists number last parent cursor low) where
  abbrev num : ℕ → ℕ
  num v = get_or number v 0

  abbrev end : ℕ → ℕ
  end v = get_or last v 0

  -- no neighbour of what v holds is lower, by falling numbers
  least_by_number : (i v u : ℕ) → v < length lists → length lists ≤ num v + i → Meets lists num end v u → get_or low v 0 ≤ num u
  least_by_number zero v u l few m = absurd (omega (arith, f.forest.numbered v l))
  least_by_number (suc i) v u l few m =
      let all = f.forest in
      elim (IsWithin-cases lists _ _ _ _ all v m.w l m.dart.0 m.within) [
        | inl e ↦ k.so_far.done v u (subst (λ x. HasDart lists x u) (sym e) m.dart) (omega (arith, all.ends_after v l))
        | inr held ↦
            let c = child_towards lists _ _ _ _ all v m.w l m.dart.0 held in
            let p_in : get_or parent c.c 0 < length lists = omega (arith, c.child) in
            let after : num (get_or parent c.c 0) < num c.c = (all.held c.c c.vertex p_in).after in
            let q = ap num c.child in
            let e = ap (λ x. get_or low x 0) c.child in
            let rest = least_by_number i c.c u c.vertex (omega arith) (record { w = m.w; within = c.within; dart = m.dart }) in
            omega (arith, k.so_far.children c.c c.vertex (omega (arith, all.ends_after c.c c.vertex)) p_in)
      ]

  -- a vertex that v holds, with a neighbour u
  abbrev IsFrom : ℕ → ℕ → ℕ → Type 0
  IsFrom v u w = (num v ≤ num w) × (num w < end v) × (place_of u (list_of lists w) < length (list_of lists w))

  told_from : (v u w : ℕ) → IsFrom v u w ⊎ ¬ IsFrom v u w
  told_from v u w = grind (arith, cases_lt, num, end, place_of, list_of, length)

  -- what a vertex has is met
  least_met : (v : ℕ) → v < length lists → get_or low v 0 < length lists → (u : ℕ) × Meets lists num end v u × (num u ≡ get_or low v 0)
  least_met v l few =
      let all = f.forest in
      let u = get_or order (get_or low v 0) 0 in
      let met = k.so_far.met v l few in
      let ended = all.ends_after v l in
      let found = found_below (IsFrom v u) (told_from v u) (length lists) (∥∥₁_map met (λ x. (
      let w_in = x.dart.0 in
      let x_in : x.u < length lists = in_range x.w x.u x.dart in
      let same : x.u ≡ u = sym (all.own x.u x_in) ∙ ap (λ i. get_or order i 0) x.is in
      (x.w, w_in, (x.from, x.before (omega arith), subst (λ y. place_of y (list_of lists x.w) < length (list_of lists x.w)) same (place_of-lt-length x.u (list_of lists x.w) x.dart.1)))))) in
      (u, record { w = found.0; within = record { from = found.2.0; before = found.2.1 }; dart = (found.1, Contains-from_place_of u (list_of lists found.0) found.2.2) }, all.place (get_or low v 0) few)

  -- at the end they are the low points
  pub AreLows-found : AreLows lists number last low
  AreLows-found = record {
    count = k.lows;
    at = λ v l. record { least = λ u m. least_by_number (length lists) v u l (omega arith) m; met = least_met v l };
  }

-- before the first step
pub AreLowsSoFar-none : (lists : Lists) (n : ℕ) (number last parent cursor low : List ℕ) → n ≡ length lists → last ≡ replicate n 0 → cursor ≡ replicate n 0 → low ≡ replicate n n → AreLowsSoFar lists number last parent cursor low
AreLowsSoFar-none lists n number last parent cursor low all l c w =
    let entry : (xs : List ℕ) (x : ℕ) → xs ≡ replicate n x → (v : ℕ) → v < length lists → get_or xs v 0 ≡ x = λ xs x e v m. ap (λ (ys : List ℕ). get_or ys v 0) e ∙ get_or-replicate {A = ℕ} n v x 0 (omega (arith, m, all)) in
    record {
      lows = ap length w ∙ (length-replicate {A = ℕ} n n ∙ all);
      so_far = record {
        read = λ v i m j. absurd (omega (arith, entry cursor 0 c v m));
        done = λ v u has d. absurd (omega (arith, entry last 0 l v has.0));
        children = λ v m d q. absurd (omega (arith, entry last 0 l v m));
        seen = λ v m j. absurd (omega (arith, entry low n w v m));
        met = λ v m j. absurd (omega (arith, entry low n w v m));
      };
    }

module _ (lists : Lists) (order number last parent cursor low : List ℕ) (count current : ℕ) (h : IsSearching lists order number last parent cursor count current) (k : AreLowsSoFar lists number last parent cursor low) where
  -- a vertex is seen
  pub AreLowsSoFar-seen : (w : ℕ) → w < length lists → length lists ≤ get_or number w 0 → AreLowsSoFar lists (set number w count) last (set parent w current) cursor low
  AreLowsSoFar-seen w l unseen =
      let u = h.numbers in
      let p = h.parents in
      record {
        lows = k.lows;
        so_far = AreLowering-seen lists _ _ _ _ _ _ count current h.state h.read k.so_far _ _ w l (omega (arith, h.state.most w l)) (IsPut-set number w count (omega arith)) (IsPut-set parent w current (omega arith));
      }

  -- the current vertex is done, and lowers its parent
  pub AreLowsSoFar-done : (new : List ℕ) → current < length lists → get_or cursor current 0 ≡ length (list_of lists current) → IsLowered low new (get_or parent current 0) (get_or low current 0) → AreLowsSoFar lists number (set last current count) parent cursor new
  AreLowsSoFar-done new c_in all w =
      let o = h.lasts in
      let m = k.lows in
      record {
        lows = w.count ∙ m;
        so_far = AreLowering-done lists _ _ _ _ _ _ count current h.state h.read k.so_far _ _ c_in
            (λ v has. (
            let j = has.1.1 in
            let e : get_or (list_of lists current) has.1.0 0 ≡ v = get_or_default (list_of lists current) has.1.0 0 v j ∙ has.1.2 in
            omega (arith, k.so_far.read current has.1.0 c_in (omega arith), ap (λ x. get_or number x 0) e)))
            (IsPut-set last current count (omega arith))
            (record { here = λ q. w.here (omega arith); elsewhere = w.elsewhere });
      }

  -- entries of the current vertex are read
  pub AreLowsSoFar-read : (place least : ℕ) → current < length lists → IsLeastFrom (list_of lists current) number (get_or cursor current 0) place (get_or low current 0) least → AreLowsSoFar lists number last parent (set cursor current place) (set low current least)
  AreLowsSoFar-read place least c_in l =
      let o = h.cursors in
      let m = k.lows in
      record {
        lows = length-set low current least ∙ m;
        so_far = AreLowering-read lists _ _ _ _ _ _ count current h.state h.read k.so_far _ _ place least number c_in (IsPut-set cursor current place (omega arith)) (IsPut-set low current least (omega arith)) l (λ v. refl);
      }
