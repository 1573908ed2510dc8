-- A vertex without a chord with two neighbours taken off: else one vertex would stand beyond a whole stretch, and have no neighbours but those on it.
use Rattle.std.proofs.Common.{◌≡◌, ◌≢◌, ℕ, zero, suc, ◌+◌, ◌<◌, ◌≤◌, Bool, true, false, eqb, List, [], ◌∷◌, ◌++◌, length, AllPairs, Contains, refl, sym, ap, ◌∙◌, subst, inl, inr, arith, eqb-true}
use Rattle.std.proofs.lemmas.Bool.{true≢false, eqb-false}
use Rattle.std.proofs.lemmas.List.{append_assoc}
use Rattle.std.proofs.lemmas.List.Elements.{Contains-append_right}
use Rattle.map_lists.specs.Lists.{Lists}
use Rattle.map_theory.specs.Maps.{list_of, HasDart, IsSimpleMap, follows, entry_after}
use Rattle.map_theory.proofs.EntryLemmas.{Contains-here, AllPairs-left, AllPairs-right}
use Rattle.map_theory.proofs.DartLemmas.{HasDart-follows}
use Rattle.plane_laws.proofs.KeptEdges.{all_or_some}
use Rattle.plane_peeling.specs.Restricted.{restricted, IsFaceOfThree}
use Rattle.plane_peeling.specs.NearTriangulations.{IsOuterCycle, IsRemovable}
use Rattle.plane_peeling.specs.Peeled.{IsPeeled}
use Rattle.plane_peeling.specs.TwoGone.{HasNoSeparatingTriangle, IsOpenOutside}
use Rattle.plane_peeling.proofs.Rings.{Leads, Leads-part, Leads-join, entries_closed}
use Rattle.plane_peeling.proofs.Ways.{place, place_first, place_last, place_next, place_apart, place_in}
use Rattle.plane_peeling.proofs.RestrictedMaps.{restricted-old}
use Rattle.plane_peeling.proofs.OuterCycles.{cases_outer, IsFaceOfThree-turned, next-on, next-last, round}
use Rattle.plane_peeling.proofs.RemovableVertices.{some_removable_stretch, IsRemovableStretch}

-- A vertex without a chord beyond whose two darts of the outer cycle, that from x and the next, stand two vertices: so two of its neighbours are taken off.
pub record IsRemovableOfTwo (lists : Lists) (kept : ℕ → Bool) (s t : ℕ) (ws : List ℕ) (x v : ℕ) : Type 0 where
  pub removable : IsRemovable (restricted kept lists) s t ws v
  pub on : Contains ws x
  pub next : entry_after x ws ≡ v
  pub two : follows lists v x ≢ follows lists (entry_after v ws) v

module _ (lists : Lists) (kept : ℕ → Bool) (s t : ℕ) (ws : List ℕ) (whole : IsSimpleMap lists) (none : HasNoSeparatingTriangle lists) (peeled : IsPeeled lists kept s t ws) (outside : IsOpenOutside lists kept t ws) where
  abbrev M : Lists
  M = restricted kept lists

  abbrev step : ℕ → ℕ
  step x = entry_after x ws

  sM : IsSimpleMap M
  sM = peeled.near.simple

  cM : IsOuterCycle M s t ws
  cM = peeled.near.cycle

  on_kept : (x : ℕ) → Contains ws x → kept x ≡ true
  on_kept x c = (restricted-old lists kept x (step x) (cM.darts x c)).1

  module _ (front : List ℕ) (u : ℕ) (between : List ℕ) (w : ℕ) (back : List ℕ) (is : IsRemovableStretch M s t ws front u between w back) where
    abbrev row : List ℕ
    row = u ∷ between ++ w ∷ []

    abbrev m : ℕ
    m = length between + 1

    parts : ws ≡ front ++ (row ++ back)
    parts = is.parts ∙ ap (λ l. front ++ l) (sym (append_assoc (u ∷ between) (w ∷ []) back))

    distinct : AllPairs ◌≢◌ row
    distinct = AllPairs-left row back (AllPairs-right front (row ++ back) (subst (AllPairs ◌≢◌) parts cM.distinct))

    way : Leads step u (between ++ w ∷ []) w
    way =
        let one = Leads-part step t front (u ∷ between ++ w ∷ back) t (subst (λ l. Leads step t l t) is.parts (round M s t ws sM cM)) in
        let two = Leads-part step u between (w ∷ back) t one.2.1 in
        Leads-join step u between two.0 (w ∷ []) w two.1 ((two.2.0, refl))

    abbrev at : ℕ → ℕ
    at i = place u between w i

    first : at 0 ≡ u
    first = place_first step u between w way distinct

    last : at m ≡ w
    last = place_last step u between w way distinct

    goes_on : (i : ℕ) → i < m → step (at i) ≡ at (suc i)
    goes_on = place_next step u between w way distinct

    removable_at : (i : ℕ) → suc i < m → IsRemovable M s t ws (at (suc i))
    removable_at i l = is.removable (at (suc i)) (place_in step u between w way distinct i l)

    on_at : (i : ℕ) → i ≤ m → Contains ws (at i)
    on_at zero l =
        let c : Contains ws u = subst (λ l. Contains l u) (sym parts) (Contains-append_right front (row ++ back) u (Contains-here u ((between ++ w ∷ []) ++ back))) in
        subst (Contains ws) (sym first) c
    on_at (suc i) l = subst (Contains ws) (goes_on i (omega arith)) (next-on M s t ws sM cM (at i) (on_at i (omega arith)))

    not_last : (i : ℕ) → i < m → at i ≢ t
    not_last zero l e = let some = is.some in (removable_at 0 (omega arith)).not_first (sym (goes_on 0 (omega arith)) ∙ (ap step e ∙ next-last M s t ws sM cM))
    not_last (suc i) l e = (removable_at i l).not_last e

    -- the vertex beyond the dart from place i to the next
    abbrev beyond : ℕ → ℕ
    beyond i = follows lists (at (suc i)) (at i)

    face_at : (i : ℕ) → i < m → IsFaceOfThree lists (at i) (at (suc i)) (beyond i)
    face_at i l =
        subst (λ y. IsFaceOfThree lists (at i) y (follows lists y (at i))) (goes_on i l) (outside.triangles (at i) (on_at i (omega arith)) (not_last i l))

    gone_at : (i : ℕ) → i < m → kept (beyond i) ≡ false
    gone_at i l = subst (λ y. kept (follows lists y (at i)) ≡ false) (goes_on i l) (outside.beyond (at i) (on_at i (omega arith)))

    -- two vertices beyond two darts in a row
    found : (i : ℕ) → suc i < m → beyond i ≢ beyond (suc i) → IsRemovableOfTwo lists kept s t ws (at i) (at (suc i))
    found i l ne = grind (arith, removable_at, on_at, goes_on, follows, at)

    -- one beyond all
    module _ (all : (i : ℕ) → suc i < m → beyond i ≡ beyond (suc i)) where
      abbrev z : ℕ
      z = beyond 0

      same : (i : ℕ) → i < m → beyond i ≡ z
      same zero l = refl
      same (suc i) l = sym (all i l) ∙ same i (omega arith)

      face : (i : ℕ) → i < m → IsFaceOfThree lists (at i) (at (suc i)) z
      face i l = subst (IsFaceOfThree lists (at i) (at (suc i))) (same i l) (face_at i l)

      gone : kept z ≡ false
      gone = gone_at 0 (omega arith)

      to_z : HasDart lists w z
      to_z =
          let some = is.some in
          let e : suc (length between) ≡ m = omega arith in
          let f = face (length between) (omega arith) in
          subst (λ x. HasDart lists x z) (ap at e ∙ last) (IsFaceOfThree-turned lists (at (length between)) (at (suc (length between))) z whole f).dart

      from_z : HasDart lists z u
      from_z =
          let f = face 0 (omega arith) in
          subst (HasDart lists z) first (IsFaceOfThree-turned lists (at 1) z (at 0) whole (IsFaceOfThree-turned lists (at 0) (at 1) z whole f)).dart

      -- the chord is none of the darts on z's side
      not_this_way : ¬ IsFaceOfThree lists u w z
      not_this_way f =
          elim (cases_outer ws u w) [
            | inl o ↦
                let some = is.some in
                place_apart step u between w way distinct 1 m (omega arith) (omega arith) (sym (goes_on 0 (omega arith)) ∙ (ap step first ∙ (o.1 ∙ sym last)))
            | inr n ↦
                let d = HasDart-follows M w u (sM.both_ways u w is.chord) in
                let old = restricted-old lists kept w (follows M w u) d in
                true≢false (sym old.2 ∙ (ap kept (peeled.inner u w is.chord n ∙ f.second) ∙ gone))
          ]

      -- nor can z have a neighbour that is taken off
      not_that_way : ¬ IsFaceOfThree lists w u z
      not_that_way f =
          let on_row : ℕ → Type 0 = λ x. (i : ℕ) × (i ≤ m) × (at i ≡ x) in
          let start : on_row u = (0, omega arith, first) in
          let some = outside.company z from_z.0 gone in
          let stands = entries_closed on_row (list_of lists z) u some.0 (whole.no_repeat z from_z.0) from_z.1 start (λ x c. turned x c.0 c.1 c.2) some.1.1 in
          true≢false (sym (ap kept (sym stands.2) ∙ on_kept (at stands.0) (on_at stands.0 stands.1)) ∙ some.2)
        where
          turned : (x i : ℕ) → i ≤ m → at i ≡ x → (j : ℕ) × (j ≤ m) × (at j ≡ entry_after x (list_of lists z))
          turned x zero l e = (m, omega arith, last ∙ (sym f.third ∙ ap (follows lists z) (sym first ∙ e)))
          turned x (suc i) l e = (i, omega arith, sym (face i (omega arith)).third ∙ ap (follows lists z) e)

      no_one_beyond : ⊥
      no_one_beyond =
          elim (none u w z (restricted-old lists kept u w is.chord).0 to_z from_z) [
            | inl f ↦ not_this_way f
            | inr f ↦ not_that_way f
          ]

    here : (x : ℕ) × (v : ℕ) × IsRemovableOfTwo lists kept s t ws x v
    here =
        elim (all_or_some (λ i. eqb (beyond i) (beyond (suc i))) (length between)) [
          | inr r ↦ (at r.0, at (suc r.0), found r.0 (let l = r.1 in omega arith) (eqb-false (beyond r.0) (beyond (suc r.0)) r.2))
          | inl all ↦ absurd (no_one_beyond (λ i l. eqb-true (beyond i) (beyond (suc i)) (all i (omega arith))))
        ]

-- Where no triangle separates, and the outside is open, there is such a vertex.
pub some_removable_of_two : (lists : Lists) (kept : ℕ → Bool) (s t : ℕ) (ws : List ℕ) → IsSimpleMap lists → HasNoSeparatingTriangle lists → IsPeeled lists kept s t ws → IsOpenOutside lists kept t ws → (x : ℕ) × (v : ℕ) × IsRemovableOfTwo lists kept s t ws x v
some_removable_of_two lists kept s t ws whole none peeled outside =
    let found = some_removable_stretch (restricted kept lists) s t ws peeled.near.simple peeled.near.plane peeled.near.cycle in
    here lists kept s t ws whole none peeled outside found.0 found.1 found.2 found.3 found.4 found.5
