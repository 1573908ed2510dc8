-- Ranges in tables.
use Rattle.std.proofs.Common.{◌≡◌, ◌≢◌, ◌⊎◌, ℕ, ◌+◌, ◌-◌, ◌<◌, ◌≤◌, Bool, false, not, cond, eqb, List, length, get_or, set, take, ◌++◌, refl, sym, ap, ◌∙◌, subst, inl, inr, arith, get_or-set_same, get_or-set_other, length-set}
use Rattle.std.proofs.lemmas.Bool.{cases_eq, eq-eqb, ne_eqb, false≢true}
use Rattle.std.proofs.lemmas.List.{get_or_default, take_at}
use Rattle.map_lists.specs.Lists.{Lists}
use Rattle.graph_search.proofs.ForestLemmas.{same_vertex}
use Rattle.st_orders.specs.Placing.{IsWholeForest, IsPlacing, IsCarved, IsMarked, IsWholeSearch, AreTables, IsPlacingIn}
use Rattle.st_orders.proofs.PlacingLemmas.{room_left, IsPlacing-more}

pub IsMarked-set : (xs : List Bool) (i : ℕ) (b : Bool) → i < length xs → IsMarked (λ v. get_or xs v false) (λ v. get_or (set xs i b) v false) i b
IsMarked-set xs i b l = record { here = get_or-set_same xs i b false l; elsewhere = λ v ne. get_or-set_other xs i v b false ne }

pub IsMarked-at : (f : ℕ → Bool) (i : ℕ) (b : Bool) → IsMarked f (λ v. cond (eqb v i) b (f v)) i b
IsMarked-at f i b = record { here = rw (eq-eqb i i refl) refl; elsewhere = λ v ne. rw (ne_eqb v i ne) refl }

module _ (lists : Lists) (order number last parent low : List ℕ) (w : IsWholeSearch lists order number last parent low) (from to : List ℕ) (recent : List Bool) where
  -- what the next vertex takes is there, and where its low point is
  pub record IsNext (k : ℕ) : Type 0 where
    pub v_in : get_or order k 0 < length lists
    pub p_in : get_or parent (get_or order k 0) 0 < length lists
    pub other : get_or parent (get_or order k 0) 0 ≢ get_or order k 0
    pub ends : k < get_or last (get_or order k 0) 0
    pub room : get_or last (get_or order k 0) 0 + get_or from (get_or parent (get_or order k 0) 0) 0 < k + get_or to (get_or parent (get_or order k 0) 0) 0
    pub low_in : get_or low (get_or order k 0) 0 < length lists
    pub far_in : get_or order (get_or low (get_or order k 0) 0) 0 < length lists

  pub next : (k : ℕ) → IsPlacingIn lists order number last parent low from to recent k → 2 ≤ k → k < length lists → IsNext k
  next k h two few = grind (arith, room_left, get_or)

  -- one vertex more
  pub IsPlacingIn-more : (k : ℕ) → IsPlacingIn lists order number last parent low from to recent k → 2 ≤ k → k < length lists → (from' to' : List ℕ) → length from' ≡ length from → length to' ≡ length to → IsCarved (λ x. get_or from x 0) (λ x. get_or to x 0) (λ x. get_or from' x 0) (λ x. get_or to' x 0) (get_or order k 0) (get_or parent (get_or order k 0) 0) (get_or last (get_or order k 0) 0 - k) (not (get_or recent (get_or order (get_or low (get_or order k 0) 0) 0) false)) → IsPlacingIn lists order number last parent low from' to' (set recent (get_or parent (get_or order k 0) 0) (not (get_or recent (get_or order (get_or low (get_or order k 0) 0) 0) false))) (k + 1)
  IsPlacingIn-more k h two few from' to' same_from same_to carved =
      let i = next k h two few in
      let v = get_or order k 0 in
      let p = get_or parent v 0 in
      let b = not (get_or recent (get_or order (get_or low v 0) 0) false) in
      let v_in = i.v_in in
      let p_in = i.p_in in
      let ends = i.ends in
      let tables = h.tables in
      let lr = tables.recents in
      record {
        side = λ x. cond (eqb x v) b (h.side x);
        tables = record { froms = same_from ∙ tables.froms; tos = same_to ∙ tables.tos; recents = length-set recent p b ∙ lr };
        placing = IsPlacing-more lists _ _ _ _ _ _ _ w.whole _ _ _ _ k h.placing two few _ _ _ _ (get_or last v 0 - k) (omega arith) b refl carved (IsMarked-at h.side v b) (IsMarked-set recent p b (omega arith));
      }

  module _ (k : ℕ) (h : IsPlacingIn lists order number last parent low from to recent k) (two : 2 ≤ k) (few : k < length lists) (v p far : ℕ) (v_read : v ≡ get_or order k v) (p_read : p ≡ get_or parent v p) (far_read : far ≡ get_or order (get_or low v 0) far) where
    -- what is read of the next vertex is there
    pub record IsNextAt : Type 0 where
      pub v_is : v ≡ get_or order k 0
      pub p_is : p ≡ get_or parent (get_or order k 0) 0
      pub far_is : far ≡ get_or order (get_or low (get_or order k 0) 0) 0
      pub v_in : v < length lists
      pub p_in : p < length lists
      pub far_in : far < length lists
      pub other : p ≢ v
      pub ends : k < get_or last v 0
      pub room : get_or last v 0 + get_or from p 0 < k + get_or to p 0

    pub next_at : IsNextAt
    next_at =
        let i = next k h two few in
        let v_is : v ≡ get_or order k 0 = v_read ∙ get_or_default order k v 0 (let o = w.orders in omega (arith, few, o)) in
        let v_in : v < length lists = omega (arith, v_is, i.v_in) in
        let p_is : p ≡ get_or parent (get_or order k 0) 0 = p_read ∙ (get_or_default parent v p 0 (let o = w.parents in omega (arith, v_in, o)) ∙ ap (λ u. get_or parent u 0) v_is) in
        let low_is : get_or low v 0 ≡ get_or low (get_or order k 0) 0 = ap (λ u. get_or low u 0) v_is in
        let far_is : far ≡ get_or order (get_or low (get_or order k 0) 0) 0 = far_read ∙ (get_or_default order (get_or low v 0) far 0 (let o = w.orders in let l = i.low_in in omega (arith, low_is, l, o)) ∙ ap (λ u. get_or order u 0) low_is) in
        record {
          v_is = v_is;
          p_is = p_is;
          far_is = far_is;
          v_in = v_in;
          p_in = omega (arith, p_is, i.p_in);
          far_in = omega (arith, far_is, i.far_in);
          other = λ e. i.other (sym p_is ∙ (e ∙ v_is));
          ends = omega (arith, ap (λ u. get_or last u 0) v_is, i.ends);
          room = omega (arith, ap (λ u. get_or last u 0) v_is, ap (λ u. get_or from u 0) p_is, ap (λ u. get_or to u 0) p_is, i.room);
        }

    -- one vertex more, by what was read, where the ranges were lent
    pub IsPlacingIn-next : (r : Bool) → r ≡ get_or recent far r → (l : ℕ) → l ≡ get_or last v l → (from' to' behind behind' : List ℕ) (m m' : ℕ) → length from' ≡ length from → length to' ≡ length to → length from' ≡ m → length to' ≡ m' → IsCarved (λ x. get_or from x 0) (λ x. get_or to x 0) (λ x. get_or from' x 0) (λ x. get_or to' x 0) v p (l - k) (not r) → IsPlacingIn lists order number last parent low (take m (from' ++ behind)) (take m' (to' ++ behind')) (set recent p (not r)) (k + 1)
    IsPlacingIn-next r r_read l l_read from' to' behind behind' m m' same_from same_to long long' carved =
        let i = next_at in
        let V = get_or order k 0 in
        let P = get_or parent V 0 in
        let B = not (get_or recent (get_or order (get_or low V 0) 0) false) in
        let r_is : not r ≡ B = ap not (r_read ∙ (get_or_default recent far r false (let o = h.tables.recents in let f = i.far_in in omega (arith, f, o)) ∙ ap (λ u. get_or recent u false) i.far_is)) in
        let l_is : l ≡ get_or last V 0 = l_read ∙ (get_or_default last v l 0 (let o = w.lasts in let f = i.v_in in omega (arith, f, o)) ∙ ap (λ u. get_or last u 0) i.v_is) in
        let at_v = subst (λ x. IsCarved (λ x. get_or from x 0) (λ x. get_or to x 0) (λ x. get_or from' x 0) (λ x. get_or to' x 0) x p (l - k) (not r)) i.v_is carved in
        let at_p = subst (λ x. IsCarved (λ x. get_or from x 0) (λ x. get_or to x 0) (λ x. get_or from' x 0) (λ x. get_or to' x 0) V x (l - k) (not r)) i.p_is at_v in
        let at_l = subst (λ x. IsCarved (λ x. get_or from x 0) (λ x. get_or to x 0) (λ x. get_or from' x 0) (λ x. get_or to' x 0) V P (x - k) (not r)) l_is at_p in
        let at_r = subst (λ x. IsCarved (λ x. get_or from x 0) (λ x. get_or to x 0) (λ x. get_or from' x 0) (λ x. get_or to' x 0) V P (get_or last V 0 - k) x) r_is at_l in
        let more = IsPlacingIn-more k h two few from' to' same_from same_to at_r in
        let back_r = subst (λ x. IsPlacingIn lists order number last parent low from' to' (set recent P x) (k + 1)) (sym r_is) more in
        let back_p = subst (λ x. IsPlacingIn lists order number last parent low from' to' (set recent x (not r)) (k + 1)) (sym i.p_is) back_r in
        subst (λ xs. IsPlacingIn lists order number last parent low xs (take m' (to' ++ behind')) (set recent p (not r)) (k + 1)) (sym (take_at from' behind m long))
        (subst (λ xs. IsPlacingIn lists order number last parent low from' xs (set recent p (not r)) (k + 1)) (sym (take_at to' behind' m' long')) back_p)

-- the first two
module _ (lists : Lists) (order number last parent low : ℕ → ℕ) (s t : ℕ) (w : IsWholeForest lists order number last parent low s t) (from to : ℕ → ℕ) (side recent : ℕ → Bool) (from_s : from s ≡ 0) (to_s : to s ≡ 1) (from_t : from t ≡ 1) (to_t : to t ≡ length lists) (side_t : side t ≡ false) (recent_s : recent s ≡ false) (some : 2 ≤ length lists) where
  one_of_two : (v : ℕ) → v < length lists → number v < 2 → (v ≡ s) ⊎ (v ≡ t)
  one_of_two v l m = grind (arith, cases_eq, same_vertex)

  parent_t : parent t ≡ s
  parent_t = grind (arith, same_vertex)

  -- a child of the first two, of a number below two, is t
  child_t : (c : ℕ) → c < length lists → parent c < length lists → number c < 2 → c ≡ t
  child_t c l p m =
      let f = w.forest in
      let b = w.t_second in
      let up = (f.held c l p).after in
      same_vertex lists order number last parent f c t l w.t_in (omega arith)

  pub IsPlacing-two : IsPlacing lists order number last parent low t from to side recent 2
  IsPlacing-two =
      let n = length lists in
      let f = w.forest in
      let first = w.s_first in
      let second = w.t_second in
      record {
        inside = λ v l m. elim (one_of_two v l m) [ inl e ↦ (let q = ap to e in omega arith) | inr e ↦ (let q = ap to e in omega arith) ];
        some = λ v l m. elim (one_of_two v l m) [
          | inl e ↦ (let q = ap to e in let z = ap from e in omega arith)
          | inr e ↦ (let q = ap to e in let z = ap from e in omega arith)
        ];
        apart = λ u v l m i j ne. elim (one_of_two u l i) [
          | inl e ↦ elim (one_of_two v m j) [
            | inl g ↦ absurd (ne (e ∙ sym g))
            | inr g ↦ inl (let q = ap to e in let z = ap from g in omega arith)
          ]
          | inr e ↦ elim (one_of_two v m j) [
            | inl g ↦ inr (let q = ap from e in let z = ap to g in omega arith)
            | inr g ↦ absurd (ne (e ∙ sym g))
          ]
        ];
        room = λ v l two p m. elim (one_of_two (parent v) p m) [
          | inl e ↦ absurd (let b = w.beyond v l two in let q = ap number e in omega arith)
          | inr e ↦ subst (λ x. last x + 1 + from x ≤ number v + to x) (sym e) (let q = f.ends_within t w.t_in in omega arith)
        ];
        before = λ a c l m i p inner e.
            let c_from = inner.from in
            let is = child_t c m p (omega arith) in
            absurd (false≢true (sym side_t ∙ (ap side (sym is) ∙ e)));
        after = λ a c l m i p inner e.
            let c_from = inner.from in
            let is = child_t c m p (omega arith) in
            let c_number : number c ≡ 1 = ap number is ∙ second in
            let a_is : a ≡ t = same_vertex lists order number last parent f a t l w.t_in (omega arith) in
            let above : parent c ≡ s = ap parent is ∙ parent_t in
            (let q = ap to above in let z = ap from a_is in omega arith);
        recent_side = λ c l m d p.
            let is = child_t c l p m in
            ap recent (ap parent is ∙ parent_t) ∙ (recent_s ∙ sym (ap side is ∙ side_t));
        rule = λ v c l m i two. absurd (omega arith);
        first = side_t;
      }

-- the first two, in tables
pub IsPlacingIn-two : (lists : Lists) (order number last parent low from to : List ℕ) (recent : List Bool) → IsWholeSearch lists order number last parent low → 2 ≤ length lists → AreTables lists from to recent → IsPlacingIn lists order number last parent low (set (set from (get_or order 0 0) 0) (get_or order 1 0) 1) (set (set to (get_or order 0 0) 1) (get_or order 1 0) (length lists)) (set recent (get_or order 0 0) false) 2
IsPlacingIn-two lists order number last parent low from to recent w some tables =
    let froms = tables.froms in
    let tos = tables.tos in
    let recents = tables.recents in
    let s = get_or order 0 0 in
    let t = get_or order 1 0 in
    let s_in = w.whole.s_in in
    let t_in = w.whole.t_in in
    let ne : s ≢ t = λ e. (let q = ap (λ x. get_or number x 0) e in let a = w.whole.s_first in let b = w.whole.t_second in omega arith) in
    let long_from = length-set from s 0 in
    let long_to = length-set to s 1 in
    record {
      side = λ _. false;
      tables = record {
        froms = length-set (set from s 0) t 1 ∙ (long_from ∙ froms);
        tos = length-set (set to s 1) t (length lists) ∙ (long_to ∙ tos);
        recents = length-set recent s false ∙ recents;
      };
      placing = IsPlacing-two lists _ _ _ _ _ s t w.whole _ _ _ _
          (get_or-set_other (set from s 0) t s 1 0 ne ∙ get_or-set_same from s 0 0 (omega arith))
          (get_or-set_other (set to s 1) t s (length lists) 0 ne ∙ get_or-set_same to s 1 0 (omega arith))
          (get_or-set_same (set from s 0) t 1 0 (omega arith))
          (get_or-set_same (set to s 1) t (length lists) 0 (omega arith))
          refl
          (get_or-set_same recent s false false (omega arith)) some;
    }

-- the first two, by what was read of them
pub IsPlacingIn-first : (lists : Lists) (order number last parent low from to : List ℕ) (recent : List Bool) → IsWholeSearch lists order number last parent low → 2 ≤ length lists → AreTables lists from to recent → (s t n : ℕ) → s ≡ get_or order 0 s → t ≡ get_or order 1 t → n ≡ length lists → IsPlacingIn lists order number last parent low (set (set from s 0) t 1) (set (set to s 1) t n) (set recent s false) 2
IsPlacingIn-first lists order number last parent low from to recent w some tables s t n s_read t_read n_is = grind (arith, get_or, get_or_default, IsPlacingIn, set, IsPlacingIn-two)
