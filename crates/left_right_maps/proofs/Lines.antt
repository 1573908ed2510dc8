-- Lines of a depth-first tree.
use Rattle.std.proofs.Common.{◌≡◌, ℕ, zero, suc, ◌+◌, ◌-◌, ◌<◌, ◌≤◌, true, not, eqb, refl, sym, ap, ◌∙◌, inl, inr, arith, eqb-true, eq-eqb, ne_eqb}
use Rattle.std.proofs.lemmas.Bool.{cases_eq, true≢false, and_parts, and_from}
use Rattle.left_right_laws.specs.Forests.{up, IsAbove}
use Rattle.left_right_laws.proofs.Lines.{up-add}
use Rattle.left_right_maps.specs.RootedMaps.{is_child}

module _ (parent depth : ℕ → ℕ) where
  pub child_is : (v u : ℕ) → is_child parent depth v u ≡ true → (0 < depth u) × (parent u ≡ v)
  child_is v u t =
      let both = and_parts (not (eqb (depth u) 0)) (eqb (parent u) v) t in
      (elim (cases_eq (depth u) 0) [ inl e ↦ absurd (true≢false (sym both.0 ∙ ap not (eq-eqb (depth u) 0 e))) | inr ne ↦ omega (arith, ne) ], eqb-true (parent u) v both.1)

  pub is_child_from : (v u : ℕ) → 0 < depth u → parent u ≡ v → is_child parent depth v u ≡ true
  is_child_from v u some e =
      and_from (not (eqb (depth u) 0)) (eqb (parent u) v) (ap not (ne_eqb (depth u) 0 (λ z. omega arith))) (eq-eqb (parent u) v e)

  pub up_last : (k v : ℕ) → up parent (suc k) v ≡ parent (up parent k v)
  up_last zero v = refl
  up_last (suc k) v = up_last k (parent v)

  pub above_itself : (v : ℕ) → IsAbove parent depth v v
  above_itself v = let e : depth v - depth v ≡ 0 = omega arith in record { depths = omega arith; line = ap (λ k. up parent k v) e }

  pub above_same : (u v : ℕ) → IsAbove parent depth u v → depth u ≡ depth v → u ≡ v
  above_same u v a e = let none : depth v - depth u ≡ 0 = omega arith in sym a.line ∙ ap (λ k. up parent k v) none

  pub above_over : (u v t : ℕ) → IsAbove parent depth u v → IsAbove parent depth v t → IsAbove parent depth u t
  above_over u v t a b = grind (arith, up-add, up)

  -- two above one vertex, at one depth
  pub above_one : (u v t : ℕ) → IsAbove parent depth u t → IsAbove parent depth v t → depth u ≡ depth v → u ≡ v
  above_one u v t a b e = sym a.line ∙ (ap (λ k. up parent (depth t - k) t) e ∙ b.line)

  module _ (deeper : (v : ℕ) → 0 < depth v → depth v ≡ depth (parent v) + 1) where
    pub up_depth : (k v : ℕ) → k ≤ depth v → depth v ≡ depth (up parent k v) + k
    up_depth zero v l = omega arith
    up_depth (suc k) v l =
        omega (arith, up_depth k (parent v) (omega arith))

    -- what is above a child is above its parent, where it is higher
    pub above_parent : (w u : ℕ) → 0 < depth u → IsAbove parent depth w u → depth w < depth u → IsAbove parent depth w (parent u)
    above_parent w u some a less =
        let k : depth u - depth w ≡ suc (depth (parent u) - depth w) = omega arith in
        record { depths = omega arith; line = sym (ap (λ k. up parent k u) k) ∙ a.line }

    pub parent_above : (u : ℕ) → 0 < depth u → IsAbove parent depth (parent u) u
    parent_above u some =
        let k : depth u - depth (parent u) ≡ 1 = omega arith in
        record { depths = omega arith; line = ap (λ k. up parent k u) k }

    pub record IsBelow (v t u : ℕ) : Type 0 where
      pub deep : depth u ≡ depth v + 1
      pub parent_is : parent u ≡ v
      pub above : IsAbove parent depth u t

    pub branch_below : (v t : ℕ) → IsAbove parent depth v t → depth v < depth t → IsBelow v t (up parent (depth t - depth v - 1) t)
    branch_below v t a less = grind (arith, up_depth, up, up_last)

    -- and any child of v above t is that
    pub branch_is : (v t u : ℕ) → IsAbove parent depth u t → depth u ≡ depth v + 1 → u ≡ up parent (depth t - depth v - 1) t
    branch_is v t u a deep =
        let k : depth t - depth u ≡ depth t - depth v - 1 = omega arith in
        sym a.line ∙ ap (λ k. up parent k t) k
