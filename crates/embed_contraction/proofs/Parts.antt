-- Parts of a graph without some vertices, and three vertices that part, found by a search.
use Rattle.std.proofs.Common.{◌≡◌, ◌≢◌, ◌⊎◌, ◌&&◌, ℕ, zero, suc, ◌+◌, ◌<◌, Bool, true, not, eqb, List, [], ◌∷◌, length, Contains, refl, sym, ap, ◌∙◌, subst, inl, inr, arith, ◌==◌}
use Rattle.std.specs.List.{list_any}
use Rattle.std.proofs.lemmas.Bool.{cases_Bool, cases_eq, true≢false, false≢true, not-true, false_from_ne_true, eq-eqb, ne_eqb}
use Rattle.std.specs.Cmp.{both_ways}
use Rattle.std.proofs.Math.Bool.{and-true, and-false}
use Rattle.classes.specs.Classes.{count_below, same_class}
use Rattle.classes.proofs.Counting.{count_below_more}
use Rattle.classes.proofs.Classes.{Together-from, same_class-from}
use Rattle.map_lists.specs.Lists.{Lists}
use Rattle.map_theory.specs.Maps.{list_of, HasDart, IsSimpleMap, component_classes, SameComponent}
use Rattle.map_theory.proofs.EntryLemmas.{Contains-from_list_any, list_any-from_Contains}
use Rattle.map_theory.proofs.DartPermutations.{dart_of, dart_of-number, dart_of-twin, components-marked, edge_together}
use Rattle.plane_peeling.proofs.RestrictedMaps.{cases_Contains, restricted-map, restricted-old, restricted-new, length-restricted}
use Rattle.embed_contraction.specs.Linked.{outside, without_vertices, HasEdge, IsLinkedWithout}

-- what is so of all numbers below n, or not of one
pub all_or_one : (P Q : ℕ → Type 0) (n : ℕ) → ((i : ℕ) → i < n → P i ⊎ Q i) → ((i : ℕ) → i < n → P i) ⊎ ((i : ℕ) × (i < n) × Q i)
all_or_one P Q zero h = inl (λ i l. absurd (omega arith))
all_or_one P Q (suc n) h =
    elim (h n (omega arith)) [
      | inr q ↦ inr (n, omega arith, q)
      | inl p ↦ elim (all_or_one P Q n (λ i l. h i (omega arith))) [
        | inr r ↦ let l = r.1 in inr (r.0, omega arith, r.2)
        | inl all ↦ inl (λ i l. elim (cases_eq i n) [ inl e ↦ subst P (sym e) p | inr ne ↦ all i (omega arith) ])
      ]
    ]

-- what edges keep is kept all over a component
pub closed_part : (lists : Lists) → IsSimpleMap lists → (mark : ℕ → Bool) → ((a b : ℕ) → HasDart lists a b → mark a ≡ true → mark b ≡ true) → (s t : ℕ) → s < length lists → t < length lists → SameComponent lists s t → mark s ≡ true → mark t ≡ true
closed_part lists simple mark closed s t l m same e =
    let step : (a b : ℕ) → HasDart lists a b → mark a ≡ mark b = λ a b d. both_ways (mark a) (mark b) (closed a b d) (closed b a (simple.both_ways a b d)) in
    let one = components-marked lists simple mark
    (λ i n. step (dart_of lists i).0 (dart_of lists i).1 (dart_of-number lists simple i n).is_dart ∙ ap (λ d. mark d.0) (sym (dart_of-twin lists simple i n))) s t l m (Together-from (component_classes lists) s t same) in
    sym one ∙ e

-- two vertices are in one component or not
pub cases_part : (lists : Lists) (s t : ℕ) → SameComponent lists s t ⊎ (¬ SameComponent lists s t)
cases_part lists s t =
    elim (cases_Bool (same_class (component_classes lists) s t)) [ inl e ↦ inl e | inr e ↦ inr (λ e'. true≢false (sym e' ∙ e)) ]

pub part-chained : (lists : Lists) (s t r : ℕ) → SameComponent lists s t → SameComponent lists t r → SameComponent lists s r
part-chained lists s t r e e' = same_class-from (component_classes lists) s r (Together-from (component_classes lists) s t e ∙ Together-from (component_classes lists) t r e')

pub part-turned : (lists : Lists) (s t : ℕ) → SameComponent lists s t → SameComponent lists t s
part-turned lists s t e = same_class-from (component_classes lists) t s (sym (Together-from (component_classes lists) s t e))

pub part-itself : (lists : Lists) (s : ℕ) → SameComponent lists s s
part-itself lists s = same_class-from (component_classes lists) s s refl

-- inside a list or outside it
pub outside-from : (vs : List ℕ) (u : ℕ) → ¬ Contains vs u → outside vs u ≡ true
outside-from vs u n = ap not (false_from_ne_true (list_any (λ w. w == u) vs) (λ t. n (Contains-from_list_any u vs t)))

pub outside-is : (vs : List ℕ) (u : ℕ) → outside vs u ≡ true → ¬ Contains vs u
outside-is vs u t c = false≢true (sym (not-true (list_any (λ w. w == u) vs) t) ∙ list_any-from_Contains u vs c)

-- a list has an entry or none
pub cases_edge : (lists : Lists) (v : ℕ) → v < length lists → HasEdge lists v ⊎ (¬ HasEdge lists v)
cases_edge lists v l = by_list (list_of lists v) refl
  where
    by_list : (us : List ℕ) → list_of lists v ≡ us → HasEdge lists v ⊎ (¬ HasEdge lists v)
    by_list [] e = inr (λ h. let c = subst (λ us. Contains us h.0) e h.1.1 in omega (arith, c.1))
    by_list (u ∷ us) e = inl (u, (l, subst (λ ws. Contains ws u) (sym e) (0, omega arith, refl)))

module _ (lists : Lists) (simple : IsSimpleMap lists) (vs : List ℕ) where
  abbrev pub rest : Lists
  rest = without_vertices vs lists

  pub rest-simple : IsSimpleMap rest
  rest-simple = (restricted-map lists (outside vs) simple).simple

  pub rest-length : length rest ≡ length lists
  rest-length = length-restricted lists (outside vs)

  pub rest-dart : (a b : ℕ) → HasDart lists a b → ¬ Contains vs a → ¬ Contains vs b → HasDart rest a b
  rest-dart a b d n n' = restricted-new lists (outside vs) a b d (outside-from vs a n) (outside-from vs b n')

  pub rest-old : (a b : ℕ) → HasDart rest a b → HasDart lists a b × (¬ Contains vs a) × (¬ Contains vs b)
  rest-old a b d = let o = restricted-old lists (outside vs) a b d in (o.0, outside-is vs a o.1, outside-is vs b o.2)

  -- the ends of an edge that is left are in one part
  pub rest-together : (a b : ℕ) → HasDart lists a b → ¬ Contains vs a → ¬ Contains vs b → SameComponent rest a b
  rest-together a b d n n' = same_class-from (component_classes rest) a b (edge_together rest rest-simple a b (rest-dart a b d n n'))

-- w is a third vertex for the edge of x and y with which it parts h from d
pub record IsBad (lists : Lists) (x y w h d : ℕ) : Type 0 where
  pub edge : HasDart lists x y
  pub w_edge : HasEdge lists w
  pub w_x : w ≢ x
  pub w_y : w ≢ y
  pub h_edge : HasEdge lists h
  pub d_edge : HasEdge lists d
  pub h_off : ¬ Contains (x ∷ y ∷ w ∷ []) h
  pub d_off : ¬ Contains (x ∷ y ∷ w ∷ []) d
  pub apart : ¬ SameComponent (without_vertices (x ∷ y ∷ w ∷ []) lists) h d

-- an edge has such a third vertex or not
pub cases_bad : (lists : Lists) (x y : ℕ) → HasDart lists x y → ((w : ℕ) → HasEdge lists w → w ≢ x → w ≢ y → IsLinkedWithout lists (x ∷ y ∷ w ∷ [])) ⊎ ((w : ℕ) × (h : ℕ) × (d : ℕ) × IsBad lists x y w h d)
cases_bad lists x y edge =
    elim (all_or_one (λ w. HasEdge lists w → w ≢ x → w ≢ y → IsLinkedWithout lists (x ∷ y ∷ w ∷ [])) (λ w. (h : ℕ) × (d : ℕ) × IsBad lists x y w h d) (length lists) each) [
      | inl all ↦ inl (λ w e. all w e.1.0 e)
      | inr r ↦ inr (r.0, r.2.0, r.2.1, r.2.2)
    ]
  where
    for_two : (w h d : ℕ) → HasEdge lists w → w ≢ x → w ≢ y → HasEdge lists h → ¬ Contains (x ∷ y ∷ w ∷ []) h → d < length lists → (HasEdge lists d → ¬ Contains (x ∷ y ∷ w ∷ []) d → SameComponent (without_vertices (x ∷ y ∷ w ∷ []) lists) h d) ⊎ IsBad lists x y w h d
    for_two w h d we n n' he ho l =
        elim (cases_edge lists d l) [
          | inr none ↦ inl (λ e. absurd (none e))
          | inl e ↦ elim (cases_Contains (x ∷ y ∷ w ∷ []) d) [
            | inl c ↦ inl (λ _ o. absurd (o c))
            | inr o ↦ grind (arith, cases_part, without_vertices)
          ]
        ]

    for_one : (w h : ℕ) → HasEdge lists w → w ≢ x → w ≢ y → h < length lists → (HasEdge lists h → ¬ Contains (x ∷ y ∷ w ∷ []) h → (t : ℕ) → HasEdge lists t → ¬ Contains (x ∷ y ∷ w ∷ []) t → SameComponent (without_vertices (x ∷ y ∷ w ∷ []) lists) h t) ⊎ ((d : ℕ) × IsBad lists x y w h d)
    for_one w h we n n' l =
        elim (cases_edge lists h l) [
          | inr none ↦ inl (λ e. absurd (none e))
          | inl e ↦ elim (cases_Contains (x ∷ y ∷ w ∷ []) h) [
            | inl c ↦ inl (λ _ o. absurd (o c))
            | inr o ↦ elim (all_or_one (λ d. HasEdge lists d → ¬ Contains (x ∷ y ∷ w ∷ []) d → SameComponent (without_vertices (x ∷ y ∷ w ∷ []) lists) h d) (IsBad lists x y w h) (length lists) (λ d m. for_two w h d we n n' e o m)) [
              | inl all ↦ inl (λ _ _ t te. all t te.1.0 te)
              | inr r ↦ inr (r.0, r.2)
            ]
          ]
        ]

    each : (w : ℕ) → w < length lists → (HasEdge lists w → w ≢ x → w ≢ y → IsLinkedWithout lists (x ∷ y ∷ w ∷ [])) ⊎ ((h : ℕ) × (d : ℕ) × IsBad lists x y w h d)
    each w l =
        elim (cases_edge lists w l) [
          | inr none ↦ inl (λ e. absurd (none e))
          | inl we ↦ elim (cases_eq w x) [
            | inl e ↦ inl (λ _ n. absurd (n e))
            | inr n ↦ elim (cases_eq w y) [
              | inl e ↦ inl (λ _ _ n'. absurd (n' e))
              | inr n' ↦ elim (all_or_one (λ h. HasEdge lists h → ¬ Contains (x ∷ y ∷ w ∷ []) h → (t : ℕ) → HasEdge lists t → ¬ Contains (x ∷ y ∷ w ∷ []) t → SameComponent (without_vertices (x ∷ y ∷ w ∷ []) lists) h t) (λ h. (d : ℕ) × IsBad lists x y w h d) (length lists) (λ h m. for_one w h we n n' m)) [
                | inl all ↦ inl (λ _ _ _ s t se te so to. all s se.1.0 se so t te to)
                | inr r ↦ inr (r.0, r.2.0, r.2.1)
              ]
            ]
          ]
        ]

-- ---- counts
-- a test without one number
abbrev pub minus : (ℕ → Bool) → ℕ → ℕ → Bool
minus p a i = p i && not (eqb i a)

pub count_below-minus : (p : ℕ → Bool) (n a : ℕ) → a < n → p a ≡ true → count_below p n ≡ count_below (minus p a) n + 1
count_below-minus p n a l t =
    count_below_more (minus p a) p n a l (ap (λ b. p a && not b) (eq-eqb a a refl) ∙ and-false (p a)) t (λ i m ne. ap (λ b. p i && not b) (ne_eqb i a ne) ∙ and-true (p i))
