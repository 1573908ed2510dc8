-- The vertices can be arranged as a wood has them: the one that is taken off next comes behind those that are left.
use Rattle.std.proofs.Common.{◌≡◌, ◌≢◌, ℕ, zero, suc, ◌+◌, ◌-◌, ◌<◌, ◌≤◌, Bool, true, false, List, [], ◌∷◌, ◌++◌, length, get_or, Contains, AllPairs, refl, sym, ap, ◌∙◌, subst, inl, inr, arith}
use Rattle.std.proofs.Math.Seq.{get_or-append_seam}
use Rattle.std.proofs.lemmas.Bool.{cases_lt, cases_eq, true≢false}
use Rattle.std.proofs.lemmas.List.{get_or_append_left, length-append, get_or_default}
use Rattle.std.proofs.lemmas.List.Elements.{Contains-get_or, Contains-push, Contains-push_cases, Contains-append_left}
use Rattle.std.proofs.lemmas.List.Quantifiers.{all_pairs_push}
use Rattle.classes.specs.Classes.{count_below}
use Rattle.map_lists.specs.Lists.{Lists}
use Rattle.map_theory.specs.Maps.{Dart, HasDart}
use Rattle.plane_laws.specs.Triangulations.{IsTriangulation}
use Rattle.plane_peeling.specs.Restricted.{kept_but}
use Rattle.plane_peeling.proofs.RestrictedMaps.{kept_but-old, kept_but-new, kept_but-itself}
use Rattle.plane_peeling.proofs.Rings.{each_of_three}
use Rattle.plane_peeling.proofs.Ends.{three_left}
use Rattle.canon_order.specs.Lefts.{IsLeft}
use Rattle.canon_order.proofs.Lefts.{on_kept}
use Rattle.wood_runs.specs.Parents.{Colour, one, two, three}
use Rattle.wood_laws.specs.Woods.{root, IsInner, IsWood}
use Rattle.wood_laws.specs.Arranged.{IsBefore, IsArranged}
use Rattle.wood_laws.proofs.Ways.{root_in, roots_apart}
use Rattle.wood_laws.proofs.Peeled.{IsWoodLeft, more}
use Rattle.wood_laws.proofs.Found.{some_removable_in_wood}
use Rattle.wood_laws.proofs.Begin.{all, all_has, all_only, roots, whole, whole_count, none_inner, begin}

-- one more in a list
IsBefore-more : (us : List ℕ) (v a b : ℕ) → IsBefore us a b → IsBefore (us ++ v ∷ []) a b
IsBefore-more us v a b h =
    (h.0, h.1, h.2, omega (arith, length-append us (v ∷ [])), get_or_append_left us (v ∷ []) 0 h.0 (omega arith) ∙ h.4, get_or_append_left us (v ∷ []) 0 h.1 h.3 ∙ h.5)

IsBefore-new : (us : List ℕ) (v a : ℕ) → Contains us a → IsBefore (us ++ v ∷ []) a v
IsBefore-new us v a c =
    (c.0, length us, c.1, omega (arith, length-append us (v ∷ [])), get_or_append_left us (v ∷ []) 0 c.0 c.1 ∙ (get_or_default us c.0 0 a c.1 ∙ c.2), get_or-append_seam us v [] 0)

module _ (lists : Lists) (base : Dart) (parent : Colour → ℕ → ℕ) (triangulation : IsTriangulation lists) (has : HasDart lists base.0 base.1) (wood : IsWood lists base parent) where
  abbrev n : ℕ
  n = length lists

  abbrev s : ℕ
  s = base.1

  abbrev t : ℕ
  t = base.0

  -- What is left is arranged.
  record AreArranged (kept : ℕ → Bool) (us : List ℕ) : Type 0 where
    pub once : AllPairs ◌≢◌ us
    pub count : length us ≡ count_below kept n
    pub some : 3 ≤ length us
    pub each : (u : ℕ) → kept u ≡ true → Contains us u
    pub only : (u : ℕ) → Contains us u → kept u ≡ true
    pub first : get_or us 0 0 ≡ s
    pub second : get_or us 1 0 ≡ t
    pub one_before : (v : ℕ) → IsInner lists base v → kept v ≡ true → IsBefore us (parent one v) v
    pub two_before : (v : ℕ) → IsInner lists base v → kept v ≡ true → IsBefore us (parent two v) v
    pub three_after : (v : ℕ) → IsInner lists base v → kept v ≡ true → kept (parent three v) ≡ true → IsBefore us v (parent three v)

  -- three are left
  three_arranged : (kept : ℕ → Bool) (ws rest : List ℕ) → IsLeft lists s t kept ws rest → count_below kept n ≡ 3
      → ((v : ℕ) → IsInner lists base v → kept v ≡ true → (kept (parent one v) ≡ true) × (kept (parent two v) ≡ true))
      → ((v : ℕ) → IsInner lists base v → Contains ws v → kept (parent three v) ≡ false)
      → (us : List ℕ) × AreArranged kept us × ((v : ℕ) → kept v ≡ true → v ≢ s → v ≢ t → get_or us 2 0 ≡ v)
  three_arranged kept ws rest left count up off =
      let last = three_left lists kept s t ws left.peeled count in
      let x : ℕ = last.0 in
      let us : List ℕ = s ∷ t ∷ x ∷ [] in
      let distinct = subst (AllPairs ◌≢◌) last.1 left.peeled.near.cycle.distinct in
      let x_t : x ≢ t = distinct 1 2 0 (omega arith) (omega arith) in
      let on : (u : ℕ) → kept u ≡ true → Contains ws u = λ u k. last.3 u (left.vertices u k) k in
      let cases : (P : ℕ → Type 0) → P s → P x → P t → (u : ℕ) → kept u ≡ true → P u = λ P a b c u k. each_of_three P s x t a b c u (subst (λ l. Contains l u) last.1 (on u k)) in
      let is_x : (v : ℕ) → kept v ≡ true → v ≢ s → v ≢ t → x ≡ v = λ v k a b. cases (λ z. z ≢ s → z ≢ t → x ≡ z) (λ h k. absurd (h refl)) (λ h k. refl) (λ h k. absurd (k refl)) v k a b in
      let third : (v : ℕ) → IsInner lists base v → kept v ≡ true → x ≡ v = λ v i k. is_x v k (i.1 one) (i.1 two) in
      let before_one : (v u : ℕ) → kept u ≡ true → u ≢ v → x ≡ v → (u ≢ t) → IsBefore us u v =
      λ v u k loop e ne. cases (λ u. u ≢ v → u ≢ t → IsBefore us u v) (λ a b. (0, 2, omega arith, omega arith, refl, e)) (λ a b. absurd (a e)) (λ a b. absurd (b refl)) u k loop ne in
      let before_two : (v u : ℕ) → kept u ≡ true → u ≢ v → x ≡ v → (u ≢ s) → IsBefore us u v =
      λ v u k loop e ne. cases (λ u. u ≢ v → u ≢ s → IsBefore us u v) (λ a b. absurd (b refl)) (λ a b. absurd (a e)) (λ a b. (1, 2, omega arith, omega arith, refl, e)) u k loop ne in (
        us,
        record {
          once = apart s t x (distinct 0 2 0 (omega arith) (omega arith)) (distinct 0 1 0 (omega arith) (omega arith)) (λ e. x_t (sym e));
          count = sym count;
          some = omega arith;
          each = (cases (Contains us) (0, omega arith, refl) (2, omega arith, refl) (1, omega arith, refl));
          only = λ u c. each_of_three (λ z. kept z ≡ true) s t x
              (on_kept lists s t kept ws rest triangulation left s (subst (λ l. Contains l s) (sym last.1) (0, omega arith, refl)))
              (on_kept lists s t kept ws rest triangulation left t (subst (λ l. Contains l t) (sym last.1) (2, omega arith, refl)))
              (on_kept lists s t kept ws rest triangulation left x (subst (λ l. Contains l x) (sym last.1) (1, omega arith, refl))) u c;
          first = refl;
          second = refl;
          one_before = λ v i k. before_one v (parent one v) (up v i k).0 (triangulation.simple.no_loop v (parent one v) (wood.edges one v i)) (third v i k) (λ e. one_two (wood.own_root one two v i e));
          two_before = λ v i k. before_two v (parent two v) (up v i k).1 (triangulation.simple.no_loop v (parent two v) (wood.edges two v i)) (third v i k) (λ e. one_two (sym (wood.own_root two one v i e)));
          three_after = λ v i k k'. absurd (true≢false (sym k' ∙ off v i (on v k)));
        },
        is_x,
      )
    where
      one_two : one ≢ two
      one_two e = cc

      apart : (a b c : ℕ) → a ≢ b → a ≢ c → b ≢ c → AllPairs ◌≢◌ (a ∷ b ∷ c ∷ [])
      apart a b c x y z = all_pairs_push ◌≢◌ (a ∷ b ∷ []) c (all_pairs_push ◌≢◌ (a ∷ []) b (λ i j d l m e. absurd (omega arith)) (λ k d l e. of_one k d l e)) (λ k d l e. of_two k d l e)
        where
          of_one : (k d : ℕ) → k < 1 → get_or (a ∷ []) k d ≢ b
          of_one zero d l e = x e
          of_one (suc k) d l e = absurd (omega arith)

          of_two : (k d : ℕ) → k < 2 → get_or (a ∷ b ∷ []) k d ≢ c
          of_two zero d l e = y e
          of_two (suc zero) d l e = z e
          of_two (suc (suc k)) d l e = absurd (omega arith)

  -- one more behind those that are left
  more_arranged : (kept : ℕ → Bool) (v : ℕ) (us : List ℕ) → kept v ≡ true → count_below kept n ≡ count_below (kept_but kept v) n + 1
      → (IsInner lists base v → (kept_but kept v (parent one v) ≡ true) × (kept_but kept v (parent two v) ≡ true) × (kept (parent three v) ≡ false))
      → AreArranged (kept_but kept v) us → AreArranged kept (us ++ v ∷ [])
  more_arranged kept v us here less up h =
      let some = h.some in
      let all : List ℕ = us ++ v ∷ [] in
      let old : (u : ℕ) → kept u ≡ true → u ≢ v → Contains us u = λ u k ne. h.each u (kept_but-new kept v u k ne) in
      record {
        once = all_pairs_push ◌≢◌ us v h.once (λ k d l e. true≢false (sym (h.only v (subst (Contains us) e (Contains-get_or us k d l))) ∙ kept_but-itself kept v));
        count = omega (arith, h.count, less, length-append us (v ∷ []));
        some = omega (arith, length-append us (v ∷ []));
        each = λ u k. elim (cases_eq u v) [ inl e ↦ subst (Contains all) (sym e) (Contains-push us v) | inr ne ↦ Contains-append_left us (v ∷ []) u (old u k ne) ];
        only = λ u c. elim (Contains-push_cases us v u c) [ inl c' ↦ (kept_but-old kept v u (h.only u c')).0 | inr e ↦ ap kept (sym e) ∙ here ];
        first = get_or_append_left us (v ∷ []) 0 0 (omega arith) ∙ h.first;
        second = get_or_append_left us (v ∷ []) 0 1 (omega arith) ∙ h.second;
        one_before = λ u i k. elim (cases_eq u v) [
          | inl e ↦ subst (λ z. IsBefore all (parent one z) z) (sym e) (IsBefore-new us v (parent one v) (h.each (parent one v) (up (subst (IsInner lists base) e i)).0))
          | inr ne ↦ IsBefore-more us v (parent one u) u (h.one_before u i (kept_but-new kept v u k ne))
        ];
        two_before = λ u i k. elim (cases_eq u v) [
          | inl e ↦ subst (λ z. IsBefore all (parent two z) z) (sym e) (IsBefore-new us v (parent two v) (h.each (parent two v) (up (subst (IsInner lists base) e i)).1))
          | inr ne ↦ IsBefore-more us v (parent two u) u (h.two_before u i (kept_but-new kept v u k ne))
        ];
        three_after = λ u i k k'. elim (cases_eq u v) [
          | inl e ↦ absurd (true≢false (sym k' ∙ (ap (λ z. kept (parent three z)) e ∙ (up (subst (IsInner lists base) e i)).2)))
          | inr ne ↦ elim (cases_eq (parent three u) v) [
            | inl e ↦ subst (IsBefore all u) (sym e) (IsBefore-new us v u (old u k ne))
            | inr off ↦ IsBefore-more us v u (parent three u) (h.three_after u i (kept_but-new kept v u k ne) (kept_but-new kept v (parent three u) k' off))
          ]
        ];
      }

  arranged_from : (k : ℕ) (kept : ℕ → Bool) (ws rest : List ℕ) → IsWoodLeft lists base parent kept ws rest → count_below kept n ≡ 3 + k → (us : List ℕ) × AreArranged kept us
  arranged_from zero kept ws rest state count =
      let three_of = three_arranged kept ws rest state.left count (λ v i k. (state.one_left v i k, state.two_left v i k)) state.outside in
      (three_of.0, three_of.1)
  arranged_from (suc k) kept ws rest state count =
      let found = some_removable_in_wood lists base parent triangulation has wood kept ws rest state in
      let v : ℕ = found.0 in
      let removable_in_wood = found.1 in
      let next = more lists base parent triangulation wood kept ws rest state v removable_in_wood (omega arith) in
      let rest_of = arranged_from k (kept_but kept v) next.0 (v ∷ rest) next.1 (omega arith) in (
        rest_of.0 ++ v ∷ [],
        more_arranged kept v rest_of.0 removable_in_wood.here next.2
            (λ i. (
              kept_but-new kept v (parent one v) (state.one_left v i removable_in_wood.here) (triangulation.simple.no_loop v (parent one v) (wood.edges one v i)),
              kept_but-new kept v (parent two v) (state.two_left v i removable_in_wood.here) (triangulation.simple.no_loop v (parent two v) (wood.edges two v i)),
              removable_in_wood.three_off,
            )) rest_of.1,
      )

  abbrev every : ℕ → Bool
  every = all lists base parent triangulation has wood

  every_in : (v : ℕ) → v < n → every v ≡ true
  every_in = all_has lists base parent triangulation has wood

  arranged : (at : List ℕ) → AreArranged every at → get_or at (n - 1) 0 ≡ root lists base three → IsArranged lists base parent at
  arranged at h last =
      let count = whole_count lists base parent triangulation has wood in
      record {
        count = h.count ∙ count;
        vertices = λ k d l. all_only lists base parent triangulation has wood (get_or at k d) (h.only (get_or at k d) (Contains-get_or at k d l));
        once = h.once;
        first = h.first;
        second = h.second;
        last = last;
        one_before = λ v i. h.one_before v i (every_in v i.0);
        two_before = λ v i. h.two_before v i (every_in v i.0);
        three_after = λ v i. h.three_after v i (every_in v i.0) (every_in (parent three v) (triangulation.simple.in_range v (parent three v) (wood.edges three v i)));
      }

  -- THE LEMMA
  pub some_arranged : (at : List ℕ) × IsArranged lists base parent at
  some_arranged =
      let w : ℕ = root lists base three in
      let count = whole_count lists base parent triangulation has wood in
      let w_in : w < n = root_in lists base parent triangulation has wood three in
      let apart = roots_apart lists base parent triangulation has wood in
      elim (cases_lt 3 n) [
        | inr l ↦
            let three_in : n ≡ 3 = omega arith in
            let none = none_inner lists base parent triangulation has wood three_in in
            let three_of = three_arranged every (roots lists base parent triangulation has wood) [] (whole lists base parent triangulation has wood) (count ∙ three_in) (λ v i k. absurd (none v i)) (λ v i c. absurd (none v i)) in
            let e : n - 1 ≡ 2 = omega arith in
            (three_of.0, arranged three_of.0 three_of.1 (ap (λ k. get_or three_of.0 k 0) e ∙ three_of.2 w (every_in w w_in) (λ e. apart 0 1 0 (omega arith) (omega arith) (sym e)) (apart 1 2 0 (omega arith) (omega arith))))
        | inl l ↦
            let start = begin lists base parent triangulation has wood l in
            let less = start.2 in
            let us = arranged_from (n - 4) (kept_but every w) start.0 (w ∷ []) start.1 (omega arith) in
            let e : n - 1 ≡ length us.0 = omega arith in (
              us.0 ++ w ∷ [],
              arranged (us.0 ++ w ∷ []) (more_arranged every w us.0 (every_in w w_in) (count ∙ less) (λ i. absurd (i.1 three refl)) us.1) (ap (λ k. get_or (us.0 ++ w ∷ []) k 0) e ∙ get_or-append_seam us.0 w [] 0),
            )
      ]
