-- The outer cycle as marks: how it begins, that some vertex looks removable, one taken off, and how it ends.
use Rattle.std.proofs.Common.{◌≡◌, ◌≢◌, ◌↔◌, ℕ, ◌+◌, ◌<◌, Bool, true, false, List, [], ◌∷◌, ◌++◌, length, Contains, All, AllPairs, refl, sym, ap, ◌∙◌, subst, arith, lt-ltb, ltb, ltb-true}
use Rattle.std.proofs.lemmas.List.Elements.{All-cons, All-nil}
use Rattle.map_lists.specs.Lists.{Lists}
use Rattle.map_theory.specs.Maps.{HasDart, follows}
use Rattle.map_theory.proofs.EntryLemmas.{Contains-here}
use Rattle.plane_laws.specs.Triangulations.{IsTriangulation}
use Rattle.plane_peeling.specs.Restricted.{restricted}
use Rattle.plane_peeling.specs.NearTriangulations.{IsRemovable}
use Rattle.plane_peeling.proofs.RestrictedMaps.{restricted-old}
use Rattle.plane_peeling.proofs.RemovableVertices.{some_removable}
use Rattle.plane_peeling.proofs.RemovableCounts.{removable_by_count}
use Rattle.plane_peeling.proofs.Rings.{each_of_three}
use Rattle.plane_peeling.proofs.Steps.{removable_taken_off}
use Rattle.plane_peeling.proofs.Covers.{cycle_after}
use Rattle.canon_order.specs.Orders.{IsCanonicalOrder}
use Rattle.canon_order.specs.Lefts.{IsLeft}
use Rattle.canon_order.specs.Marks.{is_set, kept_of, IsTally, IsNoted, IsTaken}
use Rattle.canon_order.specs.Contours.{LooksRemovable, IsPrepared, IsContour}
use Rattle.canon_order.proofs.Lefts.{IsLeft-begin, IsLeft-taken, IsLeft-three}
use Rattle.canon_order.proofs.Marks.{is_set-lt, kept_of-parts, kept_of-from, kept_of-set, marks_after}

-- what looks removable and is not noted looked removable before
pub IsPrepared-noted : (lists : Lists) (t s : ℕ) (marked : List Bool) (near stack : List ℕ) (marked' : List Bool) (near' stack' : List ℕ) → IsNoted lists marked near stack marked' near' stack' → IsPrepared lists t s marked near stack → IsPrepared lists t s marked' near' stack'
IsPrepared-noted lists t s marked near stack marked' near' stack' n h = grind arith

-- of the base's face the third vertex alone may look removable
pub IsPrepared-begin : (lists : Lists) (t s third : ℕ) (marked : List Bool) (near stack : List ℕ) → third < length lists → IsTally lists marked near → ((u : ℕ) → (is_set marked u ≡ true) ↔ Contains (s ∷ third ∷ t ∷ []) u) → stack ≡ third ∷ [] → IsPrepared lists t s marked near stack
IsPrepared-begin lists t s third marked near stack l tally marks e = record {
  tally = tally;
  vertices = subst (All (λ v. v < length lists)) (sym e) (All-cons (λ v. v < length lists) third [] l (All-nil (λ v. v < length lists)));
  stacked = λ u removable.
      let only : u ≢ s → u ≢ t → u ≡ third = each_of_three (λ z. z ≢ s → z ≢ t → z ≡ third) s third t (λ ne _. absurd (ne refl)) (λ _ _. refl) (λ _ ne. absurd (ne refl)) u ((marks u).0 removable.marked) in
      subst (λ (us : List ℕ). Contains us u) (sym e) (subst (Contains (third ∷ [])) (sym (only removable.not_first removable.not_last)) (Contains-here third []));
}

module _ (lists : Lists) (t s : ℕ) (triangulation : IsTriangulation lists) where
  abbrev n : ℕ
  n = length lists

  -- the vertices of the base's face are three
  pub base_apart : HasDart lists t s → AllPairs ◌≢◌ (s ∷ follows lists s t ∷ t ∷ [])
  base_apart base =
      (IsLeft-begin lists s t (λ v. ltb v n) triangulation base (λ v l. lt-ltb v n l) (λ v e. ltb-true v n e)).peeled.near.cycle.distinct

  -- nothing is taken off
  pub IsContour-begin : HasDart lists t s → (gone marked : List Bool) → length gone ≡ n → ((v : ℕ) → is_set gone v ≡ false) → ((v : ℕ) → (is_set marked v ≡ true) ↔ Contains (s ∷ follows lists s t ∷ t ∷ []) v) → IsContour lists t s gone marked []
  IsContour-begin base gone marked len none marks = record {
    ws = s ∷ follows lists s t ∷ t ∷ [];
    left = IsLeft-begin lists s t (kept_of gone) triangulation base (λ v l. kept_of-from gone v (omega arith) (none v)) (λ v e. let l = (kept_of-parts gone v e).0 in omega arith);
    marks = marks;
  }

  module _ (gone marked : List Bool) (rest : List ℕ) (h : IsContour lists t s gone marked rest) where
    -- three are left
    pub IsContour-three : length rest + 3 ≡ n → IsCanonicalOrder lists (t, s) (s ∷ t ∷ follows lists t s ∷ rest)
    IsContour-three few = let count = h.left.count in IsLeft-three lists s t (kept_of gone) h.ws rest triangulation h.left (omega arith)

    module _ (near : List ℕ) (tally : IsTally lists marked near) where
      on_cycle : (v : ℕ) → is_set marked v ≡ true → v < n
      on_cycle v e = let l = is_set-lt marked v e in let m = tally.marks_of_all in omega arith

      -- some vertex looks removable
      pub some_looks_removable : (v : ℕ) × LooksRemovable t s marked near v
      some_looks_removable =
          let outer = h.left.peeled.near in
          let found = some_removable _ s t h.ws outer.simple outer.plane outer.cycle in
          let v = found.0 in
          let removable = found.1 in
          let on = (h.marks v).1 removable.on in
          let two = (removable_by_count lists (kept_of gone) (is_set marked) s t h.ws v h.left.peeled h.marks removable.on removable.not_first removable.not_last).0 removable in
          (v, record { marked = on; not_last = removable.not_last; not_first = removable.not_first; two = tally.counted v (on_cycle v on) ∙ two })

      -- and one that does is
      looks_removable : (v : ℕ) → LooksRemovable t s marked near v → IsRemovable (restricted (kept_of gone) lists) s t h.ws v
      looks_removable v removable =
          (removable_by_count lists (kept_of gone) (is_set marked) s t h.ws v h.left.peeled h.marks ((h.marks v).0 removable.marked) removable.not_first removable.not_last).1
          (sym (tally.counted v (on_cycle v removable.marked)) ∙ removable.two)

      -- it is taken off
      pub IsContour-taken : (v : ℕ) → LooksRemovable t s marked near v → length rest + 3 < n → length gone ≡ n → (marked' gone' : List Bool) → IsTaken lists v marked gone marked' gone' → IsContour lists t s gone' marked' (v ∷ rest)
      IsContour-taken v looks many len marked' gone' taken =
          let removable = looks_removable v looks in
          let count = h.left.count in
          let off = removable_taken_off lists (kept_of gone) s t h.ws v triangulation h.left.peeled (omega arith) removable in
          let fan = off.0 in
          let less = off.1 in
          let l = on_cycle v looks.marked in
          let fewer = kept_of-set gone v (omega arith) ∙ sym (ap kept_of taken.gone_is) in
          let m = tally.marks_of_all in
          let ws' = fan.0 ++ (fan.1 ∷ fan.2 ++ fan.3 ∷ fan.4) in
          let kept = (restricted-old lists (kept_of gone) v _ (h.left.peeled.near.cycle.darts v removable.on)).1 in
          let after = cycle_after lists (kept_of gone) s t h.ws v fan.0 fan.1 fan.2 fan.3 fan.4 h.left.peeled fan.5 in
          record {
            ws = ws';
            left = subst (λ k. IsLeft lists s t k ws' (v ∷ rest)) fewer
                (IsLeft-taken lists s t (kept_of gone) h.ws rest triangulation h.left v fan.0 fan.1 fan.2 fan.3 fan.4 removable.on fan.5 less (omega arith));
            marks = marks_after lists gone marked v gone' marked' h.ws ws' triangulation.simple l len (omega arith) kept after h.marks taken;
          }
