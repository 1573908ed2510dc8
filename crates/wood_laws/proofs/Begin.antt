-- How the vertices of a wood are taken off: root three first, and three vertices in the end.
use Rattle.std.proofs.Common.{◌≡◌, ◌≢◌, ◌⊎◌, ℕ, ◌+◌, ◌<◌, Bool, true, false, List, [], ◌∷◌, ◌++◌, length, Contains, refl, sym, ap, ◌∙◌, subst, inl, inr, arith, ltb, lt-ltb, ltb-true}
use Rattle.std.proofs.lemmas.Bool.{true≢false}
use Rattle.classes.specs.Classes.{count_below}
use Rattle.map_lists.specs.Lists.{Lists}
use Rattle.map_theory.specs.Maps.{Dart, HasDart, entry_after}
use Rattle.map_theory.proofs.EntryLemmas.{Contains-here, Contains-there}
use Rattle.plane_laws.specs.Triangulations.{IsTriangulation}
use Rattle.plane_peeling.specs.Restricted.{restricted, kept_but}
use Rattle.plane_peeling.specs.NearTriangulations.{IsRemovable}
use Rattle.plane_peeling.proofs.Rings.{each_of_three, entry_after-inside}
use Rattle.plane_peeling.proofs.RestrictedMaps.{restricted-old, kept_but-new, kept_but-itself}
use Rattle.plane_peeling.proofs.Covers.{cycle_after}
use Rattle.plane_peeling.proofs.Steps.{removable_taken_off}
use Rattle.plane_peeling.proofs.Ends.{three_left}
use Rattle.canon_order.specs.Lefts.{IsLeft}
use Rattle.canon_order.proofs.Lefts.{IsLeft-begin, IsLeft-taken}
use Rattle.wood_runs.specs.Parents.{Colour, one, two, three, End, out, into}
use Rattle.wood_laws.specs.Woods.{root, IsInner, IsEndAt, IsWood}
use Rattle.wood_laws.proofs.Ways.{roots_apart}
use Rattle.wood_laws.proofs.Ends.{some_end}
use Rattle.wood_laws.proofs.Peeled.{IsWoodLeft}

module _ (lists : Lists) (base : Dart) (parent : Colour → ℕ → ℕ) (triangulation : IsTriangulation lists) (has : HasDart lists base.0 base.1) (wood : IsWood lists base parent) where
  abbrev n : ℕ
  n = length lists

  abbrev s : ℕ
  s = base.1

  abbrev t : ℕ
  t = base.0

  abbrev w : ℕ
  w = root lists base three

  abbrev pub all : ℕ → Bool
  all v = ltb v n

  pub all_has : (v : ℕ) → v < n → all v ≡ true
  all_has v l = lt-ltb v n l

  pub all_only : (v : ℕ) → all v ≡ true → v < n
  all_only v e = ltb-true v n e

  abbrev pub roots : List ℕ
  roots = root lists base one ∷ root lists base three ∷ root lists base two ∷ []

  pub whole : IsLeft lists s t all roots []
  whole = IsLeft-begin lists s t all triangulation has all_has all_only

  pub whole_count : count_below all n ≡ n
  whole_count = let c = whole.count in omega arith

  -- inner vertices are no roots
  pub not_root : (v : ℕ) → IsInner lists base v → ¬ Contains roots v
  not_root v i c = each_of_three (λ z. z ≢ v) s w t (λ e. i.1 one (sym e)) (λ e. i.1 three (sym e)) (λ e. i.1 two (sym e)) v c refl

  -- where there are three vertices none is inner
  pub none_inner : n ≡ 3 → (v : ℕ) → ¬ IsInner lists base v
  none_inner e v i =
      not_root v i ((three_left lists all s t roots whole.peeled (whole_count ∙ e)).3 v i.0 (all_has v i.0))

  removable : IsRemovable (restricted all lists) s t roots w
  removable =
      let apart = roots_apart lists base parent triangulation has wood in
      record {
        on = Contains-there s (w ∷ t ∷ []) w (Contains-here w (t ∷ []));
        not_first = λ e. apart 0 1 0 (omega arith) (omega arith) (sym e);
        not_last = apart 1 2 0 (omega arith) (omega arith);
        chordless = λ u d c. each_of_three (λ u. HasDart (restricted all lists) w u → (entry_after u roots ≡ w) ⊎ (entry_after w roots ≡ u)) s w t
            (λ d. inl (entry_after-inside [] s w (t ∷ []) apart))
            (λ d. absurd (whole.peeled.near.simple.no_loop w w d refl))
            (λ d. inr (entry_after-inside (s ∷ []) w t [] apart)) u c d;
      }

  pub begin : 3 < n → (ws : List ℕ) × IsWoodLeft lists base parent (kept_but all w) ws (w ∷ []) × (n ≡ count_below (kept_but all w) n + 1)
  begin many =
      let count = whole_count in
      let taken = removable_taken_off lists all s t roots w triangulation whole.peeled (omega arith) removable in
      let fan = taken.0 in
      let kept : ℕ → Bool = kept_but all w in
      let gone : kept w ≡ false = kept_but-itself all w in (
        fan.0 ++ (fan.1 ∷ fan.2 ++ fan.3 ∷ fan.4),
        record {
          left = IsLeft-taken lists s t all roots [] triangulation whole w _ _ _ _ _ removable.on fan.5 taken.1 (omega arith);
          root_gone = gone;
          one_left = λ v i k. kept_but-new all w (parent one v) (all_has (parent one v) (triangulation.simple.in_range v (parent one v) (wood.edges one v i))) (λ e. one_three (wood.own_root one three v i e));
          two_left = λ v i k. kept_but-new all w (parent two v) (all_has (parent two v) (triangulation.simple.in_range v (parent two v) (wood.edges two v i))) (λ e. two_three (wood.own_root two three v i e));
          three_gone = λ v i k. absurd (true≢false (sym (kept_but-new all w v (all_has v i.0) (i.1 three)) ∙ k));
          outside = λ v i c. elim ((cycle_after lists all s t roots w fan.0 fan.1 fan.2 fan.3 fan.4 whole.peeled fan.5 v).0 c) [
            | inl old ↦ absurd (not_root v i old.0)
            | inr d ↦
                let edge = triangulation.simple.both_ways w v (restricted-old lists all w v d).0 in
                let e = some_end lists base parent triangulation has wood v w i edge in
                ap kept (to_root v i e.0 e.1) ∙ gone
          ];
        },
        sym count ∙ taken.1,
      )
    where
      one_three : one ≢ three
      one_three e = cc

      two_three : two ≢ three
      two_three e = cc

      to_root : (v : ℕ) → IsInner lists base v → (e : End) → IsEndAt lists base parent e v w → parent three v ≡ w
      to_root v i (out c) e = subst (λ c. parent c v ≡ w) (wood.own_root c three v i e) e
      to_root v i (into c) e = absurd (e.0.1 three refl)
