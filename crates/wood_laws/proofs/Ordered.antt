-- Vertices arranged as a wood has them are a canonical order: they are taken off from the last one on.
use Rattle.std.proofs.Common.{◌≡◌, ◌≢◌, ℕ, zero, suc, ◌+◌, ◌-◌, ◌<◌, ◌≤◌, Bool, true, false, List, [], ◌∷◌, length, get_or, drop, Contains, refl, sym, ap, ap₂, ◌∙◌, subst, inl, inr, arith}
use Rattle.std.proofs.Math.Seq.{drop-cons}
use Rattle.std.proofs.Math.ListN.{drop_of_length-le}
use Rattle.std.proofs.lemmas.Bool.{cases_lt, true≢false, false_from_ne_true}
use Rattle.std.proofs.lemmas.List.{get_or_default}
use Rattle.classes.specs.Classes.{count_below}
use Rattle.map_lists.specs.Lists.{Lists}
use Rattle.map_theory.specs.Maps.{Dart, HasDart, follows}
use Rattle.plane_laws.specs.Triangulations.{IsTriangulation}
use Rattle.plane_peeling.specs.Restricted.{kept_but}
use Rattle.plane_peeling.proofs.RestrictedMaps.{kept_but-old, kept_but-new}
use Rattle.plane_peeling.proofs.Rings.{each_of_three}
use Rattle.plane_peeling.proofs.Ends.{three_left}
use Rattle.canon_order.specs.Orders.{IsCanonicalOrder}
use Rattle.canon_order.specs.Lefts.{IsLeft}
use Rattle.canon_order.proofs.Lefts.{IsLeft-three}
use Rattle.canon_order.proofs.Counters.{same_place, all_of_them}
use Rattle.wood_runs.specs.Parents.{Colour, one, two, three}
use Rattle.wood_laws.specs.Woods.{root, IsInner, IsWood}
use Rattle.wood_laws.specs.Arranged.{IsBefore, IsArranged}
use Rattle.wood_laws.proofs.Peeled.{IsWoodLeft, IsRemovableInWood, more}
use Rattle.wood_laws.proofs.Begin.{all, all_has, all_only, roots, whole, whole_count, begin}

module _ (lists : Lists) (base : Dart) (parent : Colour → ℕ → ℕ) (at : List ℕ) (triangulation : IsTriangulation lists) (has : HasDart lists base.0 base.1) (wood : IsWood lists base parent) (a : IsArranged lists base parent at) where
  abbrev n : ℕ
  n = length lists

  abbrev s : ℕ
  s = base.1

  abbrev t : ℕ
  t = base.0

  abbrev pub name : ℕ → ℕ
  name i = get_or at i 0

  pub once : (i j : ℕ) → i < n → j < n → name i ≡ name j → i ≡ j
  once i j l m e = let c = a.count in same_place at i j a.once (omega arith) (omega arith) e

  placed : (v : ℕ) → v < n → (i : ℕ) × (i < n) × (name i ≡ v)
  placed v l =
      let c = all_of_them at v (λ i d m. let b = a.vertices i d m in omega arith) a.once (omega arith) in
      (c.0, omega arith, get_or_default at c.0 0 v c.1 ∙ c.2)

  -- an inner vertex stands between the roots
  pub inner_at : (i : ℕ) → 2 ≤ i → i + 1 < n → IsInner lists base (name i)
  inner_at i l m = grind (arith, Colour, name, root, one, once, two, three)

  pub before_at : (u v i : ℕ) → i < n → IsBefore at u v → name i ≡ u → (j : ℕ) × (i < j) × (j < n) × (name j ≡ v)
  before_at u v i l b e =
      let z = once b.0 i (omega arith) l (b.4 ∙ sym e) in
      (b.1, omega arith, omega arith, b.5)

  pub before_to : (u v j : ℕ) → j < n → IsBefore at u v → name j ≡ v → (i : ℕ) × (i < j) × (name i ≡ u)
  before_to u v j l b e =
      (b.0, omega (arith, once b.1 j (omega arith) l (b.5 ∙ sym e)), b.4)

  -- The first k are left.
  record AreLeft (kept : ℕ → Bool) (rest : List ℕ) (k : ℕ) : Type 0 where
    pub few : k ≤ n
    pub behind : rest ≡ drop k at
    pub only : (u : ℕ) → kept u ≡ true → (i : ℕ) × (i < k) × (name i ≡ u)
    pub each : (i : ℕ) → i < k → kept (name i) ≡ true

  -- three are left
  order_of_three : (kept : ℕ → Bool) (ws rest : List ℕ) → IsLeft lists s t kept ws rest → count_below kept n ≡ 3 → AreLeft kept rest 3 → IsCanonicalOrder lists base at
  order_of_three kept ws rest left count h =
      let last = three_left lists kept s t ws left.peeled count in
      let x : ℕ = last.0 in
      let k = h.each 2 (omega arith) in
      let on = subst (λ l. Contains l (name 2)) last.1 (last.3 (name 2) (left.vertices (name 2) k) k) in
      let not_s : name 2 ≢ s = λ e. let z = once 2 0 (omega arith) (omega arith) (e ∙ sym a.first) in omega arith in
      let not_t : name 2 ≢ t = λ e. let z = once 2 1 (omega arith) (omega arith) (e ∙ sym a.second) in omega arith in
      let is_x : name 2 ≡ x = each_of_three (λ z. z ≡ name 2 → name 2 ≡ x) s x t (λ e. absurd (not_s (sym e))) (λ e. sym e) (λ e. absurd (not_t (sym e))) (name 2) on refl in
      let third : name 2 ≡ follows lists t s = is_x ∙ sym last.2.third in
      let parts : at ≡ name 0 ∷ name 1 ∷ name 2 ∷ drop 3 at = drop-cons at 0 0 (omega arith) ∙ ap (λ l. name 0 ∷ l) (drop-cons at 1 0 (omega arith) ∙ ap (λ l. name 1 ∷ l) (drop-cons at 2 0 (omega arith))) in
      let whole_is : at ≡ s ∷ t ∷ follows lists t s ∷ rest =
      parts ∙ (ap (λ z. z ∷ name 1 ∷ name 2 ∷ drop 3 at) a.first ∙ (ap (λ z. s ∷ z ∷ name 2 ∷ drop 3 at) a.second ∙ (ap (λ z. s ∷ t ∷ z ∷ drop 3 at) third ∙ ap (λ l. s ∷ t ∷ follows lists t s ∷ l) (sym h.behind)))) in
      subst (IsCanonicalOrder lists base) (sym whole_is) (IsLeft-three lists s t kept ws rest triangulation left count)

  -- the last that is left is the next to be taken off
  module _ (kept : ℕ → Bool) (ws rest : List ℕ) (m : ℕ) (some : 3 ≤ m) (state : IsWoodLeft lists base parent kept ws rest) (h : AreLeft kept rest (suc m)) where
    abbrev v : ℕ
    v = name m

    not_all : suc m < n
    not_all = grind (arith, cases_lt, true≢false)

    inner : IsInner lists base v
    inner = let l = not_all in inner_at m (omega arith) (omega arith)

    -- one behind it was taken off
    behind_off : (u j : ℕ) → m < j → j < n → name j ≡ u → kept u ≡ false
    behind_off u j l l' e =
        false_from_ne_true (kept u) (λ t.
        let o = h.only u t in
        omega (arith, once o.0 j (let few = h.few in omega arith) l' (o.2 ∙ sym e)))

    child_off : (c : Colour) → ((u : ℕ) → IsInner lists base u → IsBefore at (parent c u) u) → (u : ℕ) → IsInner lists base u → kept u ≡ true → parent c u ≢ v
    child_off c before u i k' e =
        let b = before_at (parent c u) u m (omega arith) (before u i) (sym e) in
        true≢false (sym k' ∙ behind_off u b.0 b.1 b.2 b.3)

    removable_in_wood : IsRemovableInWood lists base parent kept v
    removable_in_wood = record {
      inner = inner;
      here = h.each m (omega arith);
      three_off =
          let b = before_at v (parent three v) m (omega arith) (a.three_after v inner) refl in
          behind_off (parent three v) b.0 b.1 b.2 b.3;
      ones_off = child_off one a.one_before;
      twos_off = child_off two a.two_before;
    }

    fewer : AreLeft (kept_but kept v) (v ∷ rest) m
    fewer = record {
      few = let l = not_all in omega arith;
      behind = ap (λ l. v ∷ l) h.behind ∙ sym (drop-cons at m 0 (let l = not_all in let c = a.count in omega arith));
      only = λ u t.
          let o = kept_but-old kept v u t in
          let p = h.only u o.0 in
          let ne : p.0 ≢ m = λ e. o.1 (sym p.2 ∙ ap name e) in
          (p.0, omega arith, p.2);
      each = λ i l. kept_but-new kept v (name i) (h.each i (omega arith)) (λ e. let l' = not_all in let z = once i m (omega arith) (omega arith) e in omega arith);
    }

  order_from : (k : ℕ) (kept : ℕ → Bool) (ws rest : List ℕ) → IsWoodLeft lists base parent kept ws rest → count_below kept n ≡ 3 + k → AreLeft kept rest (3 + k) → IsCanonicalOrder lists base at
  order_from zero kept ws rest state count h = order_of_three kept ws rest state.left count h
  order_from (suc k) kept ws rest state count h =
      let v : ℕ = name (3 + k) in
      let e : 3 + suc k ≡ suc (3 + k) = omega arith in
      let h' = subst (AreLeft kept rest) e h in
      let next = more lists base parent triangulation wood kept ws rest state v (removable_in_wood kept ws rest (3 + k) (omega arith) state h') (omega arith) in
      order_from k (kept_but kept v) next.0 (v ∷ rest) next.1 (omega arith) (fewer kept ws rest (3 + k) (omega arith) state h')

  -- THE LEMMA
  pub arranged_is_order : IsCanonicalOrder lists base at
  arranged_is_order =
      elim (cases_lt 3 n) [
        | inr l ↦
            let three_in : n ≡ 3 = omega arith in
            order_of_three (all lists base parent triangulation has wood) (roots lists base parent triangulation has wood) [] (whole lists base parent triangulation has wood) (whole_count lists base parent triangulation has wood ∙ three_in) record {
              few = omega arith;
              behind = sym (drop_of_length-le at {i = 3} (omega arith));
              only = λ u e. let p = placed u (all_only lists base parent triangulation has wood u e) in let m = p.1 in (p.0, omega arith, p.2);
              each = λ i m. all_has lists base parent triangulation has wood (name i) (a.vertices i 0 (omega arith));
            }
        | inl l ↦
            let start = begin lists base parent triangulation has wood l in
            let w : ℕ = root lists base three in
            let every : ℕ → Bool = all lists base parent triangulation has wood in
            let k : 3 + (n - 4) ≡ n - 1 = omega arith in
            let past : drop (suc (n - 1)) at ≡ [] = drop_of_length-le at {i = suc (n - 1)} (omega arith) in
            order_from (n - 4) (kept_but every w) start.0 (w ∷ []) start.1 (omega arith) record {
              few = omega arith;
              behind = ap₂ (λ z y. z ∷ y) (sym a.last) (sym past) ∙ (sym (drop-cons at (n - 1) 0 (omega arith)) ∙ ap (λ k. drop k at) (sym k));
              only = λ u e.
                  let o = kept_but-old every w u e in
                  let p = placed u (all_only lists base parent triangulation has wood u o.0) in
                  let ne : p.0 ≢ n - 1 = λ q. o.1 (sym p.2 ∙ ap name q ∙ a.last) in
                  (p.0, omega arith, p.2);
              each = λ i m. kept_but-new every w (name i) (all_has lists base parent triangulation has wood (name i) (a.vertices i 0 (omega arith))) (λ e. let z = once i (n - 1) (omega arith) (omega arith) (e ∙ sym a.last) in omega arith);
            }
      ]
