-- What is left of a map while the vertices of a wood are taken off, the parents of colour three first.
use Rattle.std.proofs.Common.{◌≡◌, ◌≢◌, ◌⊎◌, ℕ, ◌+◌, ◌<◌, Bool, true, false, List, ◌∷◌, ◌++◌, length, Contains, sym, ap, ◌∙◌, subst, inl, inr, arith}
use Rattle.std.proofs.lemmas.Bool.{cases_eq, true≢false, false_from_ne_true}
use Rattle.classes.specs.Classes.{count_below}
use Rattle.map_lists.specs.Lists.{Lists}
use Rattle.map_theory.specs.Maps.{Dart, HasDart, IsSimpleMap, entry_after}
use Rattle.map_theory.proofs.DartLemmas.{Contains-entry_after, two_entries}
use Rattle.plane_laws.specs.Triangulations.{IsTriangulation}
use Rattle.plane_peeling.specs.Restricted.{restricted, kept_but}
use Rattle.plane_peeling.specs.NearTriangulations.{IsRemovable, IsOuterCycle}
use Rattle.plane_peeling.proofs.RestrictedMaps.{restricted-old, kept_but-old, kept_but-new, kept_but-itself}
use Rattle.plane_peeling.proofs.OuterCycles.{entry_before}
use Rattle.plane_peeling.proofs.Covers.{cycle_after}
use Rattle.plane_peeling.proofs.Steps.{removable_taken_off}
use Rattle.canon_order.specs.Lefts.{IsLeft}
use Rattle.canon_order.proofs.Lefts.{IsLeft-taken}
use Rattle.wood_runs.specs.Parents.{Colour, one, two, three, End, out, into}
use Rattle.wood_laws.specs.Woods.{root, IsInner, IsEndAt, IsWood}

-- Rest was taken off, root three first. What is left has the parents of colours one and two of each inner vertex that is left; and parents of colour three of what was taken off, and of what stands on the outer cycle, were taken off.
pub record IsWoodLeft (lists : Lists) (base : Dart) (parent : Colour → ℕ → ℕ) (kept : ℕ → Bool) (ws rest : List ℕ) : Type 0 where
  pub left : IsLeft lists base.1 base.0 kept ws rest
  pub root_gone : kept (root lists base three) ≡ false
  pub one_left : (v : ℕ) → IsInner lists base v → kept v ≡ true → kept (parent one v) ≡ true
  pub two_left : (v : ℕ) → IsInner lists base v → kept v ≡ true → kept (parent two v) ≡ true
  pub three_gone : (v : ℕ) → IsInner lists base v → kept v ≡ false → kept (parent three v) ≡ false
  pub outside : (v : ℕ) → IsInner lists base v → Contains ws v → kept (parent three v) ≡ false

-- v is the next that can be taken off: its parent of colour three was, and so were those of which it is the parent of colour one or two
pub record IsRemovableInWood (lists : Lists) (base : Dart) (parent : Colour → ℕ → ℕ) (kept : ℕ → Bool) (v : ℕ) : Type 0 where
  pub inner : IsInner lists base v
  pub here : kept v ≡ true
  pub three_off : kept (parent three v) ≡ false
  pub ones_off : (u : ℕ) → IsInner lists base u → kept u ≡ true → parent one u ≢ v
  pub twos_off : (u : ℕ) → IsInner lists base u → kept u ≡ true → parent two u ≢ v

pub kept_but-false : (kept : ℕ → Bool) (v u : ℕ) → kept u ≡ false → kept_but kept v u ≡ false
kept_but-false kept v u e = false_from_ne_true (kept_but kept v u) (λ t. true≢false (sym (kept_but-old kept v u t).0 ∙ e))

module _ (lists : Lists) (base : Dart) (parent : Colour → ℕ → ℕ) (triangulation : IsTriangulation lists) (wood : IsWood lists base parent) (kept : ℕ → Bool) (ws rest : List ℕ) (state : IsWoodLeft lists base parent kept ws rest) where
  abbrev pub s : ℕ
  s = base.1

  abbrev pub t : ℕ
  t = base.0

  abbrev pub map : Lists
  map = restricted kept lists

  abbrev not_both : (u : ℕ) → kept u ≡ true → kept u ≡ false → ⊥
  not_both u a b = true≢false (sym a ∙ b)

  module _ (v : ℕ) (removable_in_wood : IsRemovableInWood lists base parent kept v) where
    pub on : Contains ws v
    on = state.left.peeled.border v (parent three v) removable_in_wood.here (wood.edges three v removable_in_wood.inner) removable_in_wood.three_off

    -- a neighbour that is left is a parent of colour one or two, or one of which v is the parent of colour three
    way : (u : ℕ) → HasDart map v u → (u ≡ parent one v) ⊎ ((u ≡ parent two v) ⊎ (IsInner lists base u × (parent three u ≡ v)))
    way u d =
        let old = restricted-old lists kept v u d in
        let o = wood.order v u removable_in_wood.inner old.0 in
        by_end o.second o.entry old.2
      where
        by_end : (e : End) → IsEndAt lists base parent e v u → kept u ≡ true → (u ≡ parent one v) ⊎ ((u ≡ parent two v) ⊎ (IsInner lists base u × (parent three u ≡ v)))
        by_end (out one) e k = inl (sym e)
        by_end (out two) e k = inr (inl (sym e))
        by_end (out three) e k = absurd (not_both u k (ap kept (sym e) ∙ removable_in_wood.three_off))
        by_end (into one) e k = absurd (removable_in_wood.ones_off u e.0 k e.1)
        by_end (into two) e k = absurd (removable_in_wood.twos_off u e.0 k e.1)
        by_end (into three) e k = inr (inr e)

    -- one on the cycle is a parent
    side : (u : ℕ) → HasDart map v u → Contains ws u → (u ≡ parent one v) ⊎ (u ≡ parent two v)
    side u d c =
        elim (way u d) [
          | inl e ↦ inl e
          | inr (inl e) ↦ inr e
          | inr (inr h) ↦ absurd (not_both v removable_in_wood.here (ap kept (sym h.1) ∙ state.outside u h.0 c))
        ]

    cycle : IsOuterCycle map s t ws
    cycle = state.left.peeled.near.cycle

    simple : IsSimpleMap map
    simple = state.left.peeled.near.simple

    before : (p : ℕ) × Contains ws p × (entry_after p ws ≡ v)
    before = entry_before ws v cycle.distinct on

    abbrev p : ℕ
    p = before.0

    abbrev q : ℕ
    q = entry_after v ws

    q_on : Contains ws q
    q_on = Contains-entry_after v ws on

    p_dart : HasDart map v p
    p_dart = simple.both_ways p v (subst (HasDart map p) before.2 (cycle.darts p before.1))

    q_dart : HasDart map v q
    q_dart = cycle.darts v on

    apart : p ≢ q
    apart e =
        absurd (omega (arith, two_entries ws v p cycle.distinct on (sym e) before.2))

    -- the two parents are its neighbours on the cycle
    pair : ((p ≡ parent one v) × (q ≡ parent two v)) ⊎ ((p ≡ parent two v) × (q ≡ parent one v))
    pair =
        elim (side p p_dart before.1) [
          | inl a ↦ elim (side q q_dart q_on) [ inl b ↦ absurd (apart (a ∙ sym b)) | inr b ↦ inl (a, b) ]
          | inr a ↦ elim (side q q_dart q_on) [ inl b ↦ inr (a, b) | inr b ↦ absurd (apart (a ∙ sym b)) ]
        ]

    is_neighbour : (u : ℕ) → (u ≡ parent one v) ⊎ (u ≡ parent two v) → (u ≡ p) ⊎ (u ≡ q)
    is_neighbour u (inl e) = elim pair [ inl h ↦ inl (e ∙ sym h.0) | inr h ↦ inr (e ∙ sym h.1) ]
    is_neighbour u (inr e) = elim pair [ inl h ↦ inr (e ∙ sym h.1) | inr h ↦ inl (e ∙ sym h.0) ]

    parent_on : (u : ℕ) → (u ≡ parent one v) ⊎ (u ≡ parent two v) → Contains ws u
    parent_on u h =
        elim (is_neighbour u h) [
          | inl e ↦ subst (Contains ws) (sym e) before.1
          | inr e ↦ subst (Contains ws) (sym e) q_on
        ]

    pub removable : IsRemovable map s t ws v
    removable = record {
      on = on;
      not_first = removable_in_wood.inner.1 one;
      not_last = removable_in_wood.inner.1 two;
      chordless = λ u d c. elim (is_neighbour u (side u d c)) [
        | inl e ↦ inl (ap (λ z. entry_after z ws) e ∙ before.2)
        | inr e ↦ inr (sym e)
      ];
    }

    -- with v taken off too
    pub more : 3 < count_below kept (length lists) → (ws' : List ℕ) × IsWoodLeft lists base parent (kept_but kept v) ws' (v ∷ rest) × (count_below kept (length lists) ≡ count_below (kept_but kept v) (length lists) + 1)
    more many =
        let taken = removable_taken_off lists kept s t ws v triangulation state.left.peeled many removable in
        let fan = taken.0 in
        let less_kept : ℕ → Bool = kept_but kept v in (
          fan.0 ++ (fan.1 ∷ fan.2 ++ fan.3 ∷ fan.4),
          record {
            left = IsLeft-taken lists s t kept ws rest triangulation state.left v _ _ _ _ _ on fan.5 taken.1 (omega arith);
            root_gone = kept_but-false kept v (root lists base three) state.root_gone;
            one_left = λ u i k. let o = kept_but-old kept v u k in kept_but-new kept v (parent one u) (state.one_left u i o.0) (removable_in_wood.ones_off u i o.0);
            two_left = λ u i k. let o = kept_but-old kept v u k in kept_but-new kept v (parent two u) (state.two_left u i o.0) (removable_in_wood.twos_off u i o.0);
            three_gone = λ u i k. kept_but-false kept v (parent three u) (elim (cases_eq u v) [
              | inl e ↦ ap (λ z. kept (parent three z)) e ∙ removable_in_wood.three_off
              | inr ne ↦ state.three_gone u i (false_from_ne_true (kept u) (λ t. true≢false (sym (kept_but-new kept v u t ne) ∙ k)))
            ]);
            outside = λ u i c. elim ((cycle_after lists kept s t ws v fan.0 fan.1 fan.2 fan.3 fan.4 state.left.peeled fan.5 u).0 c) [
              | inl old ↦ kept_but-false kept v (parent three u) (state.outside u i old.0)
              | inr d ↦ elim (way u d) [
                | inl e ↦ kept_but-false kept v (parent three u) (state.outside u i (parent_on u (inl e)))
                | inr (inl e) ↦ kept_but-false kept v (parent three u) (state.outside u i (parent_on u (inr e)))
                | inr (inr h) ↦ ap less_kept h.1 ∙ kept_but-itself kept v
              ]
            ];
          },
          taken.1,
        )
