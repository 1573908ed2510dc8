-- While more than three vertices are left, one of them is the next that can be taken off.
use Rattle.std.proofs.Common.{◌≡◌, ◌≢◌, ◌⊎◌, ℕ, Bool, true, false, List, Contains, refl, sym, ap, ◌∙◌, subst, inl, inr, arith}
use Rattle.std.proofs.lemmas.Bool.{cases_Bool, true≢false}
use Rattle.map_lists.specs.Lists.{Lists}
use Rattle.map_theory.specs.Maps.{Dart, HasDart, IsSimpleMap, list_of, follows, entry_after}
use Rattle.map_theory.proofs.DartLemmas.{HasDart-follows, Contains-entry_after, two_entries, entry_after-injective}
use Rattle.plane_laws.specs.Triangulations.{IsTriangulation}
use Rattle.plane_peeling.specs.Restricted.{restricted}
use Rattle.plane_peeling.specs.NearTriangulations.{IsOuterCycle, IsOuterDart}
use Rattle.plane_peeling.proofs.RestrictedMaps.{restricted-old, restricted-new}
use Rattle.plane_peeling.proofs.OuterCycles.{cases_outer, entry_before, first_on, last_on, next-last}
use Rattle.plane_peeling.proofs.Rings.{entries_closed}
use Rattle.canon_order.proofs.Lefts.{on_kept}
use Rattle.wood_runs.specs.Parents.{Colour, one, two, three, End, out, into}
use Rattle.wood_laws.specs.Woods.{root, IsInner, IsEndAt, IsWood}
use Rattle.wood_laws.proofs.Ends.{At, Either, one_end, some_end, after_out_three, after_into_one, after_into_two}
use Rattle.wood_laws.proofs.Peeled.{IsWoodLeft, IsRemovableInWood}

module _ (lists : Lists) (base : Dart) (parent : Colour → ℕ → ℕ) (triangulation : IsTriangulation lists) (has : HasDart lists base.0 base.1) (wood : IsWood lists base parent) (kept : ℕ → Bool) (ws rest : List ℕ) (state : IsWoodLeft lists base parent kept ws rest) where
  abbrev s : ℕ
  s = base.1

  abbrev t : ℕ
  t = base.0

  abbrev map : Lists
  map = restricted kept lists

  cycle : IsOuterCycle map s t ws
  cycle = state.left.peeled.near.cycle

  simple : IsSimpleMap map
  simple = state.left.peeled.near.simple

  is_left : (x : ℕ) → Contains ws x → kept x ≡ true
  is_left = on_kept lists s t kept ws rest triangulation state.left

  not_both : (u : ℕ) → kept u ≡ true → kept u ≡ false → ⊥
  not_both u a b = true≢false (sym a ∙ b)

  -- round a vertex of the cycle, what is left after one that was taken off is the next on the cycle
  gap_end : (x z : ℕ) → Contains ws x → HasDart lists x z → kept z ≡ false → kept (follows lists x z) ≡ true → follows lists x z ≡ entry_after x ws
  gap_end x z on dz gone k =
      let y : ℕ = follows lists x z in
      let d = restricted-new lists kept x y (HasDart-follows lists x z dz) (is_left x on) k in
      let b = entry_before (list_of map x) y (simple.no_repeat x d.0) d.1 in
      let u : ℕ = b.0 in
      let du : HasDart map x u = (d.0, b.1) in
      elim (cases_outer ws u x) [
        | inl o ↦ sym b.2 ∙ subst (λ w. follows map w u ≡ entry_after w ws) o.1 (cycle.turns u o.0)
        | inr off ↦
            let old = restricted-old lists kept x u du in
            let same = sym (state.left.peeled.inner u x (simple.both_ways x u du) off) ∙ b.2 in
            let e : u ≡ z = entry_after-injective (list_of lists x) u z (triangulation.simple.no_repeat x dz.0) old.0.1 dz.1 same in
            absurd (not_both u old.2 (ap kept e ∙ gone))
      ]

  -- and what is left before one that was taken off is the one before on the cycle
  gap_begin : (x u : ℕ) → Contains ws x → HasDart lists x u → kept u ≡ true → kept (follows lists x u) ≡ false → IsOuterDart ws u x
  gap_begin x u on du k gone =
      let d = restricted-new lists kept x u du (is_left x on) k in
      elim (cases_outer ws u x) [
        | inl o ↦ o
        | inr off ↦
            let still = (restricted-old lists kept x (follows map x u) (HasDart-follows map x u d)).2 in
            absurd (not_both (follows map x u) still (ap kept (state.left.peeled.inner u x (simple.both_ways x u d) off) ∙ gone))
      ]

  -- The next on the cycle after an inner vertex is its parent of colour two, or has it as parent of colour one.
  goes_on : (x : ℕ) → IsInner lists base x → Contains ws x → Either lists base parent triangulation has wood (out two) (into one) x (entry_after x ws)
  goes_on x i on =
      elim (entries_closed P (list_of lists x) (parent three x) (parent one x) (triangulation.simple.no_repeat x i.0) d3.1 (inr (d3, state.outside x i on, inl refl)) closed (wood.edges one x i).1) [
        | inl g ↦ g
        | inr h ↦ absurd (not_both (parent one x) (state.one_left x i (is_left x on)) h.1)
      ]
    where
      d3 : HasDart lists x (parent three x)
      d3 = wood.edges three x i

      E : End → End → ℕ → Type 0
      E e f u = Either lists base parent triangulation has wood e f x u

      P : ℕ → Type 0
      P z = E (out two) (into one) (entry_after x ws) ⊎ (HasDart lists x z × (kept z ≡ false) × E (out three) (into one) z)

      next : (z : ℕ) → HasDart lists x z → kept z ≡ false → E (out two) (into one) (follows lists x z) → P (follows lists x z)
      next z d gone h =
          elim (cases_Bool (kept (follows lists x z))) [
            | inl k ↦ inl (subst (E (out two) (into one)) (gap_end x z on d gone k) h)
            | inr g ↦ elim h [
              | inl e ↦ absurd (not_both (parent two x) (state.two_left x i (is_left x on)) (ap kept e ∙ g))
              | inr e ↦ inr (HasDart-follows lists x z d, g, inr e)
            ]
          ]

      closed : (z : ℕ) → P z → P (entry_after z (list_of lists x))
      closed z (inl g) = inl g
      closed z (inr (d, gone, inl e)) = next z d gone (after_out_three lists base parent triangulation has wood x z i d e)
      closed z (inr (d, gone, inr e)) = next z d gone (after_into_one lists base parent triangulation has wood x z i d e)

  -- One between its parents of colours one and two can be taken off.
  module _ (v : ℕ) (i : IsInner lists base v) (on : Contains ws v) (p : ℕ) (p_on : Contains ws p) (to : entry_after p ws ≡ v) (is_one : parent one v ≡ p) (is_two : parent two v ≡ entry_after v ws) where
    not_before : (c : Colour) (z : ℕ) → At lists base parent triangulation has wood (into c) v z → ¬ IsOuterDart ws z v
    not_before c z a o =
        let e : z ≡ p = entry_after-injective ws z p cycle.distinct o.0 p_on (o.1 ∙ sym to) in
        different c (one_end lists base parent triangulation has wood v z i (out one) (into c) (is_one ∙ sym e) a)
      where
        different : (c : Colour) → out one ≢ into c
        different c e = cc

    abbrev Kept : Colour → ℕ → Type 0
    Kept c z = HasDart lists v z × (kept z ≡ true) × At lists base parent triangulation has wood (into c) v z

    on_from : (c : Colour) (z : ℕ) → Kept c z → At lists base parent triangulation has wood (into c) v (follows lists v z) → Kept c (follows lists v z)
    on_from c z h a =
        elim (cases_Bool (kept (follows lists v z))) [
          | inl k ↦ (HasDart-follows lists v z h.0, k, a)
          | inr g ↦ absurd (not_before c z h.2 (gap_begin v z on h.0 h.1 g))
        ]

    ones_on : (z : ℕ) → Kept one z → Kept one (entry_after z (list_of lists v))
    ones_on z h =
        elim (after_into_one lists base parent triangulation has wood v z i h.0 h.2) [
          | inr a ↦ on_from one z h a
          | inl a ↦
              let d = restricted-new lists kept v z h.0 (is_left v on) h.1 in
              let off = not_before one z h.2 in
              let here : follows map v z ≡ entry_after v ws = state.left.peeled.inner z v (simple.both_ways v z d) off ∙ (sym a ∙ is_two) in
              let there : follows map v p ≡ entry_after v ws = subst (λ w. follows map w p ≡ entry_after w ws) to (cycle.turns p p_on) in
              let dp = simple.both_ways p v (subst (HasDart map p) to (cycle.darts p p_on)) in
              let e : z ≡ p = entry_after-injective (list_of map v) z p (simple.no_repeat v d.0) d.1 dp.1 (here ∙ sym there) in
              absurd (off (subst (Contains ws) (sym e) p_on, ap (λ u. entry_after u ws) e ∙ to))
        ]

    twos_on : (z : ℕ) → Kept two z → Kept two (entry_after z (list_of lists v))
    twos_on z h =
        elim (after_into_two lists base parent triangulation has wood v z i h.0 h.2) [
          | inr a ↦ on_from two z h a
          | inl a ↦ absurd (not_before two z h.2 (gap_begin v z on h.0 h.1 (ap kept (sym a) ∙ state.outside v i on)))
        ]

    none : (c : Colour) → ((z : ℕ) → Kept c z → Kept c (entry_after z (list_of lists v))) → (u : ℕ) → IsInner lists base u → kept u ≡ true → parent c u ≢ v
    none c closed u j k e =
        let d = triangulation.simple.both_ways u v (subst (HasDart lists u) e (wood.edges c u j)) in
        let end = entries_closed (Kept c) (list_of lists v) u (parent three v) (triangulation.simple.no_repeat v i.0) d.1 (d, k, (j, e)) closed (wood.edges three v i).1 in
        not_both (parent three v) end.1 (state.outside v i on)

    removable_in_wood : IsRemovableInWood lists base parent kept v
    removable_in_wood = record {
      inner = i;
      here = is_left v on;
      three_off = state.outside v i on;
      ones_off = none one ones_on;
      twos_off = none two twos_on;
    }

  -- THE LEMMA
  pub some_removable_in_wood : (v : ℕ) × IsRemovableInWood lists base parent kept v
  some_removable_in_wood =
      elim (entries_closed P ws first t cycle.distinct first_in (inr start) closed (last_on map s t ws simple cycle)) [
        | inl g ↦ g
        | inr h ↦ absurd (h.0.1 two refl)
      ]
    where
      first : ℕ
      first = entry_after s ws

      s_in : Contains ws s
      s_in = first_on map s t ws simple cycle

      first_in : Contains ws first
      first_in = Contains-entry_after s ws s_in

      Goal : Type 0
      Goal = (v : ℕ) × IsRemovableInWood lists base parent kept v

      From : ℕ → Type 0
      From z = IsInner lists base z × Contains ws z × ((p : ℕ) × Contains ws p × (entry_after p ws ≡ z) × (parent one z ≡ p))

      P : ℕ → Type 0
      P z = Goal ⊎ From z

      old : HasDart lists s first × (kept s ≡ true) × (kept first ≡ true)
      old = restricted-old lists kept s first (cycle.darts s s_in)

      not_root : (c : Colour) → first ≢ root lists base c
      not_root one e = triangulation.simple.no_loop s first old.0 e
      not_root two e =
          omega (arith, two_entries ws s t cycle.distinct s_in e (next-last map s t ws simple cycle))
      not_root three e = not_both first old.2 (ap kept e ∙ state.root_gone)

      inner : IsInner lists base first
      inner = (triangulation.simple.in_range s first old.0, not_root)

      start : From first
      start = let e = some_end lists base parent triangulation has wood first s inner (triangulation.simple.both_ways s first old.0) in (inner, first_in, (s, s_in, refl, by_end e.0 e.1))
        where
          by_end : (e : End) → IsEndAt lists base parent e first s → parent one first ≡ s
          by_end (out c) e = subst (λ c. parent c first ≡ s) (wood.own_root c one first inner e) e
          by_end (into c) e = absurd (e.0.1 one refl)

      closed : (z : ℕ) → P z → P (entry_after z ws)
      closed z (inl g) = inl g
      closed z (inr h) =
          elim (goes_on z h.0 h.1) [
            | inl e ↦ inl (z, removable_in_wood z h.0 h.1 h.2.0 h.2.1 h.2.2 h.2.3 e)
            | inr e ↦ inr (e.0, Contains-entry_after z ws h.1, (z, h.1, refl, e.1))
          ]
