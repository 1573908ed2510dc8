-- What the steps of a search keep: a vertex is seen, and the current vertex is done.
use Rattle.std.proofs.Common.{◌≡◌, ◌≢◌, ℕ, ◌+◌, ◌<◌, ◌≤◌, Bool, true, false, not, ltb, eqb, List, length, get_or, set, refl, sym, ap, ◌∙◌, subst, inl, inr, arith, get_or-set_other, get_or-set_same}
use Rattle.std.proofs.lemmas.Bool.{cases_eq, cases_lt, lt-ltb, le-ltb, eq-eqb, ne_eqb, false≢true}
use Rattle.classes.specs.Classes.{count_below}
use Rattle.classes.proofs.Counting.{count_below_more, count_below_same, count_below_weaker, count_below_all, count_below-le}
use Rattle.map_lists.specs.Lists.{Lists}
use Rattle.map_theory.specs.Maps.{HasDart}
use Rattle.graph_search.specs.Forests.{Holds, IsForest}
use Rattle.graph_search.specs.UnderWay.{work_left, MayHold, IsUnderWay}
use Rattle.map_theory.proofs.Known.{HasDart-known}

-- f with another value at one place
pub record IsPut (old new : ℕ → ℕ) (place value : ℕ) : Type 0 where
  pub here : new place ≡ value
  pub elsewhere : (v : ℕ) → v ≢ place → new v ≡ old v

-- a write to a table
pub IsPut-set : (xs : List ℕ) (i x : ℕ) → i < length xs → IsPut (λ v. get_or xs v 0) (λ v. get_or (set xs i x) v 0) i x
IsPut-set xs i x l = record { here = get_or-set_same xs i x 0 l; elsewhere = λ v ne. get_or-set_other xs i v x 0 ne }

-- where one number does not pass, fewer than all pass
count_below-lt_all : (p : ℕ → Bool) (n w : ℕ) → w < n → p w ≡ false → count_below p n < n
count_below-lt_all p n w l off =
    let q : ℕ → Bool = λ i. not (eqb i w) in
    let fewer = count_below_weaker p q n (λ i m passes. elim (cases_eq i w) [ inl e ↦ absurd (false≢true (sym off ∙ (sym (ap p e) ∙ passes))) | inr ne ↦ ap not (ne_eqb i w ne) ]) in
    omega (arith, count_below_more q (λ i. true) n w l (ap not (eq-eqb w w refl)) refl (λ i m ne. ap not (ne_eqb i w ne)), count_below_all n)

module _ (lists : Lists) (order number last parent : ℕ → ℕ) (count current : ℕ) (h : IsUnderWay lists order number last parent count current) where
  -- where a vertex is not seen, there is room for it
  pub IsUnderWay-room : (w : ℕ) → w < length lists → number w ≡ length lists → count < length lists
  IsUnderWay-room w l unseen = omega (arith, h.counted, count_below-lt_all (λ v. ltb (number v) (length lists)) (length lists) w l (le-ltb (number w) (length lists) (omega arith)))

  -- and it is not done
  pub unseen_open : (w : ℕ) → w < length lists → number w ≡ length lists → last w ≡ 0
  unseen_open w l unseen =
      let r = IsUnderWay-room w l unseen in
      elim (cases_lt 0 (last w)) [ inl m ↦ absurd (let a = h.ends_after w l m in let b = h.ends_within w l in omega arith) | inr m ↦ omega arith ]

  module _ (order' number' parent' : ℕ → ℕ) (w : ℕ) (l : w < length lists) (unseen : number w ≡ length lists) (dart : current < length lists → HasDart lists current w) (o : IsPut order order' count w) (u : IsPut number number' w count) (p : IsPut parent parent' w current) where
    -- the state after w was seen from the current vertex, or as a top
    pub IsUnderWay-seen : IsUnderWay lists order' number' last parent' (count + 1) w
    IsUnderWay-seen =
        let n = length lists in
        let r = IsUnderWay-room w l unseen in
        let at : (v : ℕ) → v ≡ w → number' v ≡ count = λ v e. ap number' e ∙ u.here in
        let off : (v : ℕ) → number v < n → v ≢ w = λ v m e. (let q : number v ≡ n = ap number e ∙ unseen in omega arith) in
        let ended : (v : ℕ) → v < n → 0 < last v → v ≢ w = λ v m d e. (let q = ap last e in omega arith) in
        let fewer : (v : ℕ) → number' v < n → v ≢ w → number v < n = λ v m ne. (let q = u.elsewhere v ne in omega arith) in
        let held_before : (x v : ℕ) → x < n → v < n → v ≢ w → number' v < n → MayHold number' last x v → MayHold number last x v = λ x v m k ne s f.
        (let q = u.elsewhere v ne in
        let few = h.numbered v k (fewer v s ne) in
        let other : x ≢ w = λ e. (let z = at x e in let y = f.after in omega arith) in
        let z = u.elsewhere x other in
        record { after = let y = f.after in omega arith; before = λ d. let y = f.before d in omega arith }) in
        let top : (x v : ℕ) → x < n → v ≡ w → MayHold number' last x v → (number x < n) × (last x ≡ 0) × (number' x ≡ number x) = λ x v m e f.
        (let a = f.after in
        let y = at v e in
        let other : x ≢ w = λ q. (let z = at x q in omega arith) in
        let low = u.elsewhere x other in
        let le = h.ends_within x m in
        (omega arith, elim (cases_lt 0 (last x)) [ inl d ↦ absurd (let b = f.before d in omega arith) | inr z ↦ omega arith ], low)) in
        record {
          counted =
              omega (arith, h.counted, count_below_more (λ v. ltb (number v) n) (λ v. ltb (number' v) n) n w l (le-ltb (number w) n (omega arith)) (lt-ltb (number' w) n (omega (arith, u.here))) (λ i m ne. ap (λ x. ltb x n) (sym (u.elsewhere i ne))));
          most = λ v m. elim (cases_eq v w) [ inl e ↦ omega (arith, at v e) | inr ne ↦ omega (arith, u.elsewhere v ne, h.most v m) ];
          numbered = λ v m s. elim (cases_eq v w) [ inl e ↦ omega (arith, at v e) | inr ne ↦ omega (arith, u.elsewhere v ne, h.numbered v m (fewer v s ne)) ];
          own = λ v m s. elim (cases_eq v w) [
            | inl e ↦ ap order' (at v e) ∙ (o.here ∙ sym e)
            | inr ne ↦
                ap order' (u.elsewhere v ne) ∙ (o.elsewhere (number v) (omega arith) ∙ h.own v m (fewer v s ne))
          ];
          vertex = λ k m. elim (cases_eq k count) [ inl e ↦ omega (arith, ap order' e, o.here) | inr ne ↦ omega (arith, o.elsewhere k ne, h.vertex k (omega arith)) ];
          place = λ k m. elim (cases_eq k count) [
            | inl e ↦ ap number' (ap order' e ∙ o.here) ∙ (u.here ∙ sym e)
            | inr ne ↦
                ap number' (o.elsewhere k ne) ∙ (u.elsewhere (order k) (off (order k) (omega arith)) ∙ (h.place k (omega arith)))
          ];
          ends_after = λ v m d. let ne = ended v m d in omega (arith, u.elsewhere v ne, h.ends_after v m d);
          ends_within = λ v m. omega (arith, h.ends_within v m);
          nested_done = λ x v m k a b.
              let ne = ended x m (omega arith) in
              let le = h.ends_within x m in
              elim (cases_eq v w) [ inl e ↦ absurd (omega (arith, at v e)) | inr other ↦ h.nested_done x v m k (omega (arith, u.elsewhere x ne, u.elsewhere v other)) (omega (arith, u.elsewhere v other)) ];
          nested = λ x v m k a b.
              let ne = ended x m (omega arith) in
              let le = h.ends_within x m in
              elim (cases_eq v w) [ inl e ↦ absurd (omega (arith, at v e)) | inr other ↦ h.nested x v m k (omega (arith, u.elsewhere x ne, u.elsewhere v other)) (omega (arith, u.elsewhere v other)) ];
          edges = λ x v has d.
              let few = h.edges x v has d in
              omega (arith, u.elsewhere v (off v (omega arith)));
          adjacent = λ v m s q. elim (cases_eq v w) [
            | inl e ↦
                let is : parent' v ≡ current = ap parent' e ∙ p.here in
                rw is (∣ (subst (HasDart lists current) (sym e) (dart (omega arith))) ∣₁)
            | inr ne ↦ let is = p.elsewhere v ne in rw is (h.adjacent v m (fewer v s ne) (omega arith))
          ];
          held = λ v m s q. elim (cases_eq v w) [
            | inl e ↦
                let is : parent' v ≡ current = ap parent' e ∙ p.here in
                let c : current < n = omega arith in
                let seen = h.current_seen c in
                rw is (record { after = omega (arith, at v e, u.elsewhere current (off current seen)); before = λ d. absurd (omega arith) })
            | inr ne ↦
                let old = h.held v m (fewer v s ne) (omega arith) in
                let same = u.elsewhere v ne in
                let up = u.elsewhere (parent v) (off (parent v) (omega arith)) in
                rw (p.elsewhere v ne) (record { after = omega arith; before = λ d. let b = old.before d in omega arith })
          ];
          has_parent = λ x v m k s f. elim (cases_eq v w) [
            | inl e ↦
                let low = top x v m e f in
                omega (arith, h.some_current x m low.0 low.1, ap parent' e, p.here)
            | inr ne ↦ omega (arith, p.elsewhere v ne, h.has_parent x v m k (fewer v s ne) (held_before x v m k ne s f))
          ];
          nearest = λ x v m k s f. elim (cases_eq v w) [
            | inl e ↦
                let low = top x v m e f in
                let most = h.top_most x m low.0 low.1 in
                rw (ap parent' e ∙ p.here) (omega (arith, low.2, u.elsewhere current (off current (h.current_seen (h.some_current x m low.0 low.1)))))
            | inr ne ↦ grind arith
          ];
          current_seen = λ m. omega (arith, u.here);
          current_open = λ m. (unseen_open w l unseen);
          some_current = λ v m s d. l;
          top_most = λ v m s d. elim (cases_eq v w) [ inl e ↦ omega (arith, at v e, u.here) | inr ne ↦ omega (arith, u.here, u.elsewhere v ne, h.numbered v m (fewer v s ne)) ];
        }

    -- there is less to do
    pub work_left-seen : work_left number' last (length lists) < work_left number last (length lists)
    work_left-seen =
        let n = length lists in
        let r = IsUnderWay-room w l unseen in
        let fewer = count_below_more (λ v. not (ltb (number' v) n)) (λ v. not (ltb (number v) n)) n w l (ap not (lt-ltb (number' w) n (omega (arith, u.here)))) (ap not (le-ltb (number w) n (omega arith))) (λ i m ne. ap (λ x. not (ltb x n)) (u.elsewhere i ne)) in
        omega arith

  module _ (last' : ℕ → ℕ) (c_in : current < length lists) (all : (v : ℕ) → HasDart lists current v → number v < length lists) (in_range : (v u : ℕ) → HasDart lists v u → u < length lists) (z : IsPut last last' current count) where
    -- the state after the current vertex was done
    pub IsUnderWay-done : IsUnderWay lists order number last' parent count (parent current)
    IsUnderWay-done =
        let n = length lists in
        let seen = h.current_seen c_in in
        let at : (v : ℕ) → v ≡ current → last' v ≡ count = λ v e. ap last' e ∙ z.here in
        let same : (v : ℕ) → v ≡ current → number v ≡ number current = λ v e. ap number e in
        let open_at : (v : ℕ) → v ≡ current → last v ≡ 0 = λ v e. ap last e ∙ (h.current_open c_in) in
        let le_n : count ≤ n = omega (arith, h.counted, count_below-le (λ v. ltb (number v) n) n) in
        let below : (v : ℕ) → v < n → number v < n → v ≢ current → last v ≡ 0 → number v < number current = λ v m s ne d.
        (let t = h.top_most v m s d in
        let apart : number v ≢ number current = λ e. ne (sym (h.own v m s) ∙ (ap order e ∙ h.own current c_in seen)) in
        omega arith) in
        let done_after : (v : ℕ) → v < n → number v < n → number current < number v → 0 < last v = λ v m s a.
        elim (cases_lt 0 (last v)) [ inl d ↦ d | inr d ↦ absurd (let t = h.top_most v m s (omega arith) in omega arith) ] in
        let old_hold : (x v : ℕ) → x < n → MayHold number last' x v → MayHold number last x v = λ x v m f.
        record {
          after = f.after;
          before = λ d. elim (cases_eq x current) [ inl e ↦ absurd (let q = open_at x e in omega arith) | inr ne ↦ (let q = z.elsewhere x ne in let b = f.before (omega arith) in omega arith) ];
        } in
        record {
          counted = h.counted;
          most = h.most;
          numbered = h.numbered;
          own = h.own;
          vertex = h.vertex;
          place = h.place;
          ends_after = λ v m d. elim (cases_eq v current) [ inl e ↦ omega (arith, at v e, same v e) | inr ne ↦ (let q = z.elsewhere v ne in omega (arith, h.ends_after v m (omega arith))) ];
          ends_within = λ v m. elim (cases_eq v current) [ inl e ↦ omega (arith, at v e) | inr ne ↦ omega (arith, z.elsewhere v ne, h.ends_within v m) ];
          nested_done = λ x v m k a b. elim (cases_eq v current) [
            | inl e ↦ omega (arith, at v e)
            | inr ne ↦ elim (cases_eq x current) [
              | inl e ↦ (let q = at x e in let y = same x e in let d = done_after v k (omega arith) (omega arith) in omega (arith, z.elsewhere v ne))
              | inr other ↦ (let q = z.elsewhere x other in omega (arith, z.elsewhere v ne, h.nested_done x v m k a (omega arith)))
            ]
          ];
          nested = λ x v m k a b. elim (cases_eq x current) [
            | inl e ↦ (let q = at x e in elim (cases_eq v current) [ inl f ↦ omega (arith, at v f) | inr ne ↦ omega (arith, z.elsewhere v ne, h.ends_within v k) ])
            | inr other ↦ (let q = z.elsewhere x other in
                elim (cases_eq v current) [
                  | inl e ↦ absurd (let d = h.nested_done x v m k a (omega arith) in let y = open_at v e in omega arith)
                  | inr ne ↦ omega (arith, z.elsewhere v ne, h.nested x v m k a (omega arith))
                ])
          ];
          edges = λ x v has d. elim (cases_eq x current) [
            | inl e ↦
                omega (arith, at x e, h.numbered v (in_range x v has) (all v (subst (λ y. HasDart lists y v) e has)))
            | inr ne ↦ (let q = z.elsewhere x ne in omega (arith, h.edges x v has (omega arith)))
          ];
          adjacent = h.adjacent;
          held = λ v m s q.
              let old = h.held v m s q in
              record {
                after = old.after;
                before = λ d. elim (cases_eq (parent v) current) [ inl e ↦ omega (arith, at (parent v) e, h.numbered v m s) | inr ne ↦ (let y = z.elsewhere (parent v) ne in let b = old.before (omega arith) in omega arith) ];
              };
          has_parent = λ x v m k s f. h.has_parent x v m k s (old_hold x v m f);
          nearest = λ x v m k s f. h.nearest x v m k s (old_hold x v m f);
          current_seen = λ m. let a = (h.held current c_in seen m).after in omega arith;
          current_open = λ m.
              let old = h.held current c_in seen m in
              let a = old.after in
              let ne : parent current ≢ current = λ e. (let y = ap number e in omega arith) in
              elim (cases_lt 0 (last (parent current))) [ inl d ↦ absurd (let b = h.nested_done (parent current) current m c_in a (old.before d) in omega arith) | inr d ↦ omega arith ];
          some_current = λ v m s d.
              let ne : v ≢ current = λ e. (let q = at v e in omega arith) in
              let open_v : last v ≡ 0 = omega (arith, z.elsewhere v ne) in
              h.has_parent v current m c_in seen (record { after = below v m s ne open_v; before = λ k. absurd (omega arith) });
          top_most = λ v m s d.
              let ne : v ≢ current = λ e. (let q = at v e in omega arith) in
              let open_v : last v ≡ 0 = omega (arith, z.elsewhere v ne) in
              h.nearest v current m c_in seen (record { after = below v m s ne open_v; before = λ k. absurd (omega arith) });
        }

    -- there is less to do
    pub work_left-done : work_left number last' (length lists) < work_left number last (length lists)
    work_left-done =
        let n = length lists in
        let few = h.numbered current c_in (h.current_seen c_in) in
        let fewer = count_below_more (λ v. not (ltb 0 (last' v))) (λ v. not (ltb 0 (last v))) n current c_in (ap not (lt-ltb 0 (last' current) (omega (arith, z.here)))) (ap not (le-ltb 0 (last current) (omega arith))) (λ i m ne. ap (λ x. not (ltb 0 x)) (z.elsewhere i ne)) in
        omega arith

  -- where all vertices were seen and none is open, the search is finished
  pub IsForest-finished : ((v : ℕ) → v < length lists → number v < length lists) → length lists ≤ current → IsForest lists order number last parent
  IsForest-finished all none =
      let n = length lists in
      let full : count ≡ n = h.counted ∙ (count_below_same (λ v. ltb (number v) n) (λ v. true) n (λ i m. lt-ltb (number i) n (all i m)) ∙ count_below_all n) in
      let done : (v : ℕ) → v < n → 0 < last v = λ v m. elim (cases_lt 0 (last v)) [ inl d ↦ d | inr d ↦ absurd (let c = h.some_current v m (all v m) (omega arith) in omega arith) ] in
      let may : (x v : ℕ) → x < n → Holds number last x v → MayHold number last x v = λ x v m f. record { after = f.after; before = λ d. f.before } in
      record {
        numbered = all;
        own = λ v m. h.own v m (all v m);
        vertex = λ k m. h.vertex k (omega arith);
        place = λ k m. h.place k (omega arith);
        ends_after = λ v m. h.ends_after v m (done v m);
        ends_within = λ v m. let e = h.ends_within v m in omega arith;
        nested = λ x v m k f. h.nested x v m k f.after f.before;
        edges = λ x v has. h.edges x v has (done x has.0);
        adjacent = λ v m p. HasDart-known lists (parent v) v (h.adjacent v m (all v m) p);
        held = λ v m p. let f = h.held v m (all v m) p in record { after = f.after; before = f.before (done (parent v) p) };
        has_parent = λ x v m k f. h.has_parent x v m k (all v k) (may x v m f);
        nearest = λ x v m k f. h.nearest x v m k (all v k) (may x v m f);
      }
