-- One vertex more is given a range.
use Rattle.std.proofs.Common.{◌≡◌, ◌≢◌, ◌⊎◌, ℕ, ◌+◌, ◌<◌, ◌≤◌, Bool, true, false, not, length, sym, ap, ◌∙◌, subst, inl, inr, arith}
use Rattle.std.proofs.lemmas.Bool.{cases_eq, cases_lt, cases_Bool}
use Rattle.map_lists.specs.Lists.{Lists}
use Rattle.graph_search.specs.Forests.{Holds, IsForest}
use Rattle.graph_search.proofs.ForestLemmas.{IsWithin-parent}
use Rattle.st_orders.specs.Placing.{IsWholeForest, IsPlacing, IsCarved, IsMarked}

-- of two children of one vertex that with the lesser number is done before the other is seen
pub siblings : (lists : Lists) (order number last parent : ℕ → ℕ) → IsForest lists order number last parent → (c v : ℕ) → c < length lists → v < length lists → parent c < length lists → parent c ≡ parent v → number c < number v → last c ≤ number v
siblings lists order number last parent f c v l m p e less = grind (arith, cases_lt)

module _ (lists : Lists) (order number last parent low : ℕ → ℕ) (s t : ℕ) (w : IsWholeForest lists order number last parent low s t) (from to : ℕ → ℕ) (side recent : ℕ → Bool) (k : ℕ) (h : IsPlacing lists order number last parent low t from to side recent k) (two : 2 ≤ k) (few : k < length lists) where
  -- the next vertex
  abbrev v : ℕ
  v = order k

  abbrev p : ℕ
  p = parent v

  -- there is room for it in its parent's range
  pub room_left : (order k < length lists) × (number (order k) ≡ k) × (parent (order k) < length lists) × (number (parent (order k)) < k) × (k < last (order k)) × (last (order k) + from (parent (order k)) < k + to (parent (order k)))
  room_left = grind arith

  module _ (from' to' : ℕ → ℕ) (side' recent' : ℕ → Bool) (size : ℕ) (sized : k + size ≡ last (order k)) (b : Bool) (is_b : b ≡ not (recent (order (low (order k))))) (carved : IsCarved from to from' to' (order k) (parent (order k)) size b) (sides : IsMarked side side' (order k) b) (recents : IsMarked recent recent' (parent (order k)) b) where
    pub IsPlacing-more : IsPlacing lists order number last parent low t from' to' side' recent' (k + 1)
    IsPlacing-more =
        let n = length lists in
        let f = w.forest in
        let left = room_left in
        let v_in = left.0 in
        let p_in = left.2 in
        let p_low = left.3 in
        let old : (x : ℕ) → x < n → number x < k + 1 → x ≢ v → number x < k = λ x l m ne. (let q : number x ≢ k = λ e. ne (sym (f.own x l) ∙ ap order e) in omega arith) in
        let off : (x : ℕ) → number x < k → x ≢ v = λ x m e. (let q = ap number e in omega arith) in
        let number_v : (x : ℕ) → x ≡ v → number x ≡ k = λ x e. ap number e ∙ left.1 in
        let up_from : (x : ℕ) → x ≢ v → from x ≤ from' x = λ x ne.
        elim (cases_eq x p) [ inl e ↦ subst (λ y. from y ≤ from' y) (sym e) carved.rest_start | inr other ↦ omega (arith, carved.elsewhere_from x ne other) ] in
        let down_to : (x : ℕ) → x ≢ v → to' x ≤ to x = λ x ne.
        elim (cases_eq x p) [ inl e ↦ subst (λ y. to' y ≤ to y) (sym e) carved.rest_end | inr other ↦ omega (arith, carved.elsewhere_to x ne other) ] in
        let still : (x : ℕ) → x ≢ v → side' x ≡ side x = sides.elsewhere in
        let new_apart : (y : ℕ) → y < n → number y < k → (to' v ≤ from' y) ⊎ (to' y ≤ from' v) = λ y l m.
        elim (cases_eq y p) [
          | inl e ↦ elim (cases_Bool b) [
            | inl is_set ↦ inl (subst (λ z. to' v ≤ from' z) (sym e) (carved.before is_set))
            | inr is_clear ↦ inr (subst (λ z. to' z ≤ from' v) (sym e) (carved.after is_clear))
          ]
          | inr ne ↦
              let a = up_from y (off y m) in
              let d = down_to y (off y m) in
              elim (h.apart p y p_in l p_low m (λ e. ne (sym e))) [ inl one ↦ inl (omega arith) | inr other ↦ inr (omega arith) ]
        ] in
        record {
          inside = λ x l m. elim (cases_eq x v) [
            | inl e ↦ (let q = ap to' e in let end = carved.end in omega (arith, h.inside p p_in p_low))
            | inr ne ↦ omega (arith, down_to x ne, h.inside x l (old x l m ne))
          ];
          some = λ x l m. elim (cases_eq x v) [
            | inl e ↦ subst (λ y. from' y < to' y) (sym e) (let r = carved.range in omega arith)
            | inr ne ↦ elim (cases_eq x p) [
              | inl e ↦ subst (λ y. from' y < to' y) (sym e) carved.rest_some
              | inr other ↦ omega (arith, carved.elsewhere_from x ne other, carved.elsewhere_to x ne other, h.some x l (old x l m ne))
            ]
          ];
          apart = λ x y l m i j ne. elim (cases_eq x v) [
            | inl e ↦
                let y_other : y ≢ v = λ q. ne (e ∙ sym q) in
                subst (λ z. (to' z ≤ from' y) ⊎ (to' y ≤ from' z)) (sym e) (new_apart y m (old y m j y_other))
            | inr x_other ↦ elim (cases_eq y v) [
              | inl e ↦
                  subst (λ z. (to' x ≤ from' z) ⊎ (to' z ≤ from' x)) (sym e)
                  (elim (new_apart x l (old x l i x_other)) [ inl one ↦ inr one | inr other ↦ inl other ])
              | inr y_other ↦
                  let a = up_from x x_other in
                  let c = up_from y y_other in
                  let d = down_to x x_other in
                  let g = down_to y y_other in
                  elim (h.apart x y l m (old x l i x_other) (old y m j y_other) ne) [ inl one ↦ inl (omega arith) | inr other ↦ inr (omega arith) ]
            ]
          ];
          room = λ x l later q_in m. elim (cases_eq (parent x) v) [
            | inl e ↦
                subst (λ y. last y + 1 + from' y ≤ number x + to' y) (sym e) (omega arith)
            | inr ne ↦ grind (arith, cases_eq, siblings)
          ];
          before = λ a c l m i q_in inner is_set.
              let up = (f.held c m q_in).after in
              elim (cases_eq a v) [
                | inl e ↦
                    let a_number = number_v a e in
                    elim (cases_eq c v) [
                      | inl g ↦
                          let is_yes : b ≡ true = sym sides.here ∙ (ap side' (sym g) ∙ is_set) in
                          subst (λ y. to' y ≤ from' (parent c)) (sym e) (subst (λ y. to' v ≤ from' (parent y)) (sym g) (carved.before is_yes))
                      | inr ne ↦
                          let c_low = old c m (omega arith) ne in
                          let holds : Holds number last c v = record { after = omega arith; before = let z = inner.before in omega arith } in
                          let q = h.before p c p_in m p_low q_in (IsWithin-parent lists order number last parent f c v m v_in holds) (sym (still c ne) ∙ is_set) in
                          subst (λ y. to' y ≤ from' (parent c)) (sym e) (omega (arith, up_from (parent c) (off (parent c) (omega arith))))
                    ]
                | inr ne ↦
                    let a_low = old a l i ne in
                    let q = h.before a c l m a_low q_in inner (sym (still c (off c (omega arith))) ∙ is_set) in
                    omega (arith, down_to a ne, up_from (parent c) (off (parent c) (omega arith)))
              ];
          after = λ a c l m i q_in inner is_clear.
              let up = (f.held c m q_in).after in
              elim (cases_eq a v) [
                | inl e ↦
                    let a_number = number_v a e in
                    elim (cases_eq c v) [
                      | inl g ↦
                          let is_no : b ≡ false = sym sides.here ∙ (ap side' (sym g) ∙ is_clear) in
                          subst (λ y. to' (parent c) ≤ from' y) (sym e) (subst (λ y. to' (parent y) ≤ from' v) (sym g) (carved.after is_no))
                      | inr ne ↦
                          let c_low = old c m (omega arith) ne in
                          let holds : Holds number last c v = record { after = omega arith; before = let z = inner.before in omega arith } in
                          let q = h.after p c p_in m p_low q_in (IsWithin-parent lists order number last parent f c v m v_in holds) (sym (still c ne) ∙ is_clear) in
                          subst (λ y. to' (parent c) ≤ from' y) (sym e) (omega (arith, down_to (parent c) (off (parent c) (omega arith))))
                    ]
                | inr ne ↦
                    let a_low = old a l i ne in
                    let q = h.after a c l m a_low q_in inner (sym (still c (off c (omega arith))) ∙ is_clear) in
                    omega (arith, up_from a ne, down_to (parent c) (off (parent c) (omega arith)))
              ];
          recent_side = λ c l i j q_in. elim (cases_eq c v) [
            | inl e ↦ ap (λ y. recent' (parent y)) e ∙ (recents.here ∙ (sym sides.here ∙ ap side' (sym e)))
            | inr ne ↦
                let c_low = old c l i ne in
                let other : parent c ≢ p = λ e. (let q = siblings lists order number last parent f c v l v_in q_in e (omega arith) in omega arith) in
                recents.elsewhere (parent c) other ∙ (h.recent_side c l c_low (omega arith) q_in ∙ sym (still c ne))
          ];
          rule = λ x c l m i two_x e holds.
              elim (cases_eq x v) [
                | inl g ↦ grind (arith, not)
                | inr ne ↦
                    still x ne ∙ (h.rule x c l m (old x l i ne) two_x e holds ∙ ap not (sym (still c (off c (omega arith)))))
              ];
          first = still t (off t (let q = w.t_second in omega arith)) ∙ h.first;
        }
