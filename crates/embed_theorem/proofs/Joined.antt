-- Paths in one map from those in another, and neighbours besides two.
use Rattle.std.proofs.Common.{◌≡◌, ◌≢◌, ◌⊎◌, ℕ, suc, ◌-◌, ◌<◌, Bool, true, false, eqb, List, [], ◌∷◌, ◌++◌, length, get_or, Contains, refl, sym, ap, ◌∙◌, subst, inl, inr, arith}
use Rattle.std.proofs.lemmas.Bool.{cases_Bool, cases_eq, cases_lt, eqb-true, eq-eqb, true≢false}
use Rattle.std.proofs.lemmas.List.{get_or_default}
use Rattle.map_lists.specs.Lists.{Lists}
use Rattle.map_theory.specs.Maps.{list_of, HasDart, IsSimpleMap, follows, entry_after, SameComponent}
use Rattle.map_theory.specs.Paths.{JoinsAvoiding}
use Rattle.map_theory.proofs.EntryLemmas.{Contains-cons_cases}
use Rattle.plane_laws.specs.Laws.{AreJoined}
use Rattle.plane_laws.proofs.ComponentPaths.{components_are_paths}
use Rattle.plane_peeling.proofs.Rings.{each_of_two, entries_closed}
use Rattle.plane_peeling.proofs.RestrictedMaps.{cases_Contains}
use Rattle.embed_contraction.specs.Linked.{HasEdge, IsThreeLinked, without_vertices}
use Rattle.embed_contraction.proofs.Parts.{all_or_one, closed_part, rest-simple, rest-length, rest-old}
use Rattle.embed_theorem.specs.Expanded.{HasFour}

-- a path of one map in another, which has its edges and no avoided vertex on them
pub path_over : (part whole : Lists) (avoided : List ℕ) (s t : ℕ) → length part ≡ length whole → ((u v : ℕ) → HasDart part u v → HasDart whole u v × (¬ Contains avoided u) × (¬ Contains avoided v)) → ¬ Contains avoided s → AreJoined part s t → (path : List ℕ) × JoinsAvoiding whole avoided s t path
path_over part whole avoided s t n darts off joined =
    let path = joined.0 in
    let j = joined.1 in
    let off_at : (i : ℕ) → i < length path → ¬ Contains avoided (get_or path i 0) = λ i l.
    elim (cases_lt (suc i) (length path)) [
      | inl m ↦ (darts (get_or path i 0) (get_or path (suc i) 0) (j.is_path.steps i m)).1
      | inr m ↦ elim (cases_eq i 0) [
        | inl z ↦ subst (λ k. ¬ Contains avoided (get_or path k 0)) (sym z) (subst (λ w. ¬ Contains avoided w) (sym j.start) off)
        | inr nz ↦
            let k = i - 1 in
            let e : suc k ≡ i = omega arith in
            subst (λ r. ¬ Contains avoided (get_or path r 0)) e (darts (get_or path k 0) (get_or path (suc k) 0) (j.is_path.steps k (omega arith))).2
      ]
    ] in (
      path,
      record {
        is_path = record {
          some = j.is_path.some;
          vertices = λ k d l. subst (λ m. get_or path k d < m) n (j.is_path.vertices k d l);
          steps = λ i l. (darts (get_or path i 0) (get_or path (suc i) 0) (j.is_path.steps i l)).0;
        };
        start = j.start;
        end = j.end;
        avoids = λ x c. subst (λ w. ¬ Contains avoided w) (get_or_default path c.0 0 x c.1 ∙ c.2) (off_at c.0 c.1);
      },
    )

-- what a list leaves joined is joined by a path
pub part_path : (lists : Lists) → IsSimpleMap lists → (vs : List ℕ) (s t : ℕ) → s < length lists → t < length lists → SameComponent (without_vertices vs lists) s t → AreJoined (without_vertices vs lists) s t
part_path lists simple vs s t ls lt same =
    let n = rest-length lists simple vs in
    (components_are_paths (without_vertices vs lists) s t (rest-simple lists simple vs) (omega arith) (omega arith)).0 same

-- a neighbour besides two
pub third_neighbour : (lists : Lists) → IsSimpleMap lists → IsThreeLinked lists → HasFour lists → (v a b : ℕ) → HasEdge lists v → v ≢ a → v ≢ b → (c : ℕ) × HasDart lists v c × (c ≢ a) × (c ≢ b)
third_neighbour lists simple linked four v a b edge va vb =
    elim (all_or_one (λ c. HasDart lists v c → (c ≡ a) ⊎ (c ≡ b)) (λ c. HasDart lists v c × (c ≢ a) × (c ≢ b)) (length lists) decide) [
      | inr r ↦ (r.0, r.2.0, r.2.1, r.2.2)
      | inl none ↦
          let d = four v a b in
          let off : (z : ℕ) → z ≢ a → z ≢ b → ¬ Contains (a ∷ b ∷ []) z = λ z n n' c. each_of_two (λ w. w ≡ z → ⊥) a b (λ e. n (sym e)) (λ e. n' (sym e)) z c refl in
          let d_v : d.0 ≢ v = λ e. d.2 (0, omega arith, sym e) in
          let d_a : d.0 ≢ a = λ e. d.2 (1, omega arith, sym e) in
          let d_b : d.0 ≢ b = λ e. d.2 (2, omega arith, sym e) in
          let same = linked a b v d.0 edge d.1 (off v va vb) (off d.0 d_a d_b) in
          let n = rest-length lists simple (a ∷ b ∷ []) in
          let at_d = closed_part (without_vertices (a ∷ b ∷ []) lists) (rest-simple lists simple (a ∷ b ∷ [])) (λ z. eqb z v) (λ s t g q.
          let old = rest-old lists simple (a ∷ b ∷ []) s t g in
          let from_v = subst (λ z. HasDart lists z t) (eqb-true s v q) old.0 in
          absurd (old.2 (elim (none t (simple.in_range v t from_v) from_v) [ inl e ↦ (0, omega arith, sym e) | inr e ↦ (1, omega arith, sym e) ]))) v d.0 (omega arith) (omega arith) same (eq-eqb v v refl) in
          absurd (d_v (eqb-true d.0 v at_d))
    ]
  where
    decide : (c : ℕ) → c < length lists → (HasDart lists v c → (c ≡ a) ⊎ (c ≡ b)) ⊎ (HasDart lists v c × (c ≢ a) × (c ≢ b))
    decide c l =
        elim (cases_Contains (list_of lists v) c) [
          | inr n ↦ inl (λ d. absurd (n d.1))
          | inl h ↦ grind (arith, cases_eq)
        ]

-- where a vertex has a second neighbour, what follows the first is another
pub follows_other : (lists : Lists) → IsSimpleMap lists → (p z c : ℕ) → HasDart lists p z → HasDart lists p c → c ≢ z → follows lists p z ≢ z
follows_other lists simple p z c has has_c ne e =
    ne (entries_closed (λ w. w ≡ z) (list_of lists p) z c (simple.no_repeat p has.0) has.1 refl (λ w q. ap (λ t. entry_after t (list_of lists p)) q ∙ e) has_c.1)

-- a list split at the first entry that passes
pub first_taken : (taken : ℕ → Bool) (us : List ℕ) (w : ℕ) → Contains us w → taken w ≡ true → (front : List ℕ) × (b : ℕ) × (back : List ℕ) × (us ≡ front ++ b ∷ back) × (taken b ≡ true) × ((z : ℕ) → Contains front z → taken z ≡ false)
first_taken taken [] w c t = absurd (omega (arith, c.1))
first_taken taken (u ∷ us) w c t =
    elim (cases_Bool (taken u)) [
      | inl yes' ↦ ([], u, us, refl, yes', λ z c'. absurd (omega (arith, c'.1)))
      | inr no' ↦ elim (Contains-cons_cases u us w c) [
        | inl e ↦ absurd (true≢false (sym t ∙ (ap taken (sym e) ∙ no')))
        | inr c' ↦
            let r = first_taken taken us w c' t in
            (u ∷ r.0, r.1, r.2, ap (λ l. u ∷ l) r.3, r.4, λ z h. elim (Contains-cons_cases u r.0 z h) [ inl e ↦ ap taken (sym e) ∙ no' | inr h' ↦ r.5 z h' ])
      ]
    ]

-- a list without entries
pub empty_of : (us : List ℕ) → ((z : ℕ) → ¬ Contains us z) → us ≡ []
empty_of [] n = refl
empty_of (u ∷ us) n = absurd (n u (0, omega arith, refl))
