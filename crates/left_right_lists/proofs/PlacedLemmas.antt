-- Vertices placed one after another, the last of a tree's order first: with those below a vertex it stands too.
use Rattle.std.proofs.Common.{◌≡◌, ◌≢◌, ℕ, ◌+◌, ◌<◌, ◌≤◌, Bool, true, cond, eqb, List, [], ◌∷◌, ◌++◌, refl, sym, ap, ◌∙◌, subst, inl, inr, arith, eq-eqb, ne_eqb}
use Rattle.std.proofs.lemmas.Bool.{cases_Bool, cases_eq, cond-true, cond-false}
use Rattle.map_theory.specs.Maps.{Dart}
use Rattle.left_right_laws.specs.Forests.{IsLeftRight}
use Rattle.left_right_maps.specs.Orders.{IsEdge}
use Rattle.left_right_maps.specs.RootedMaps.{is_child, joined, tour_at}
use Rattle.left_right_maps.specs.Trees.{IsDepthFirstTree}
use Rattle.left_right_maps.proofs.Opens.{joined_same}
use Rattle.left_right_maps.proofs.Lines.{child_is}
use Rattle.left_right_maps.proofs.Parts.{child_edge, Part, Entries, Sorted, some_order, new_entries, new_opens, new_word, word_is, part, entries}
use Rattle.left_right_maps.proofs.Whole.{Stands}

module _ (n : ℕ) (edge : ℕ → ℕ → Bool) (parent depth : ℕ → ℕ) (root : ℕ) (left : ℕ → ℕ → Bool) (g : IsDepthFirstTree n edge parent depth root) (sides : IsLeftRight (IsEdge edge) parent depth left) (number : ℕ → ℕ) (rising : (v : ℕ) → 0 < depth v → number (parent v) < number v) (only : (u v : ℕ) → u < n → v < n → number u ≡ number v → u ≡ v) where
  abbrev Child : ℕ → ℕ → Bool
  Child = is_child parent depth

  abbrev IsStanding : (ℕ → List ℕ) → (ℕ → List Dart) → (ℕ → List Dart) → ℕ → Type 0
  IsStanding E W O v = Stands n edge parent depth root left g sides E W O v

  -- the last k vertices stand
  pub record ArePlaced (E : ℕ → List ℕ) (O : ℕ → List Dart) (k : ℕ) : Type 0 where
    pub words : ℕ → List Dart
    pub stands : (v : ℕ) → v < n → n ≤ number v + k → IsStanding E words O v

  module _ (E : ℕ → List ℕ) (O : ℕ → List Dart) (k v : ℕ) (h : ArePlaced E O k) (in_n : v < n) (next : number v + (k + 1) ≡ n) where
    abbrev W : ℕ → List Dart
    W = h.words

    later : (u : ℕ) → Child v u ≡ true → number v < number u
    later u t =
        let is = child_is parent depth v u t in
        omega (arith, ap number is.1, rising u is.0)

    pub parts : (u : ℕ) → Child v u ≡ true → Part n edge parent depth root left g sides u (W u) (O u)
    parts u t =
        (h.stands u (g.in_range u v (g.both_ways v u (child_edge n edge parent depth root left g sides v u t))) (omega (arith, later u t))).is_part

    -- some order of what stands at v
    pub order : Sorted n edge parent depth root left g sides v W O parts
    order = some_order n edge parent depth root left g sides v W O parts

    -- with any such order v stands, where its lists are those that it gives
    module _ (sorted : Sorted n edge parent depth root left g sides v W O parts) (E' : ℕ → List ℕ) (O' : ℕ → List Dart) (kept : (u : ℕ) → u ≢ v → (E' u ≡ E u)) (kept' : (u : ℕ) → u ≢ v → (O' u ≡ O u)) (here : E' v ≡ new_entries n edge parent depth root left g sides v W O parts sorted) (here' : O' v ≡ new_opens n edge parent depth root left g sides v W O parts sorted) where
      abbrev word : List Dart
      word = new_word n edge parent depth root left g sides v W O parts sorted

      words' : ℕ → List Dart
      words' u = cond (eqb u v) word (W u)

      word_here : words' v ≡ word
      unfolding words'
      word_here = cond-true {A = List Dart} (eqb v v) word (W v) (eq-eqb v v refl)

      word_other : (u : ℕ) → u ≢ v → words' u ≡ W u
      unfolding words'
      word_other u ne = cond-false {A = List Dart} (eqb u v) word (W u) (ne_eqb u v ne)

      -- no child of a vertex that stands, or of v, is v
      no_child : (u w : ℕ) → number v ≤ number u → Child u w ≡ true → w ≢ v
      no_child u w l t e =
          let is = child_is parent depth u w t in
          let r = rising w is.0 in
          let a = ap number is.1 in
          let b = ap number e in
          omega arith

      tours : (u : ℕ) → number v ≤ number u → (us : List ℕ) → joined (tour_at Child W u) us ≡ joined (tour_at Child words' u) us
      tours u l us =
          joined_same (tour_at Child W u) (tour_at Child words' u) us (λ w c. elim (cases_Bool (Child u w)) [
            | inl t ↦ ap (λ z. cond (Child u w) ((u, w) ∷ (z ++ (w, u) ∷ [])) ((u, w) ∷ [])) (sym (word_other w (no_child u w l t)))
            | inr f ↦ cond-false {A = List Dart} (Child u w) ((u, w) ∷ (W w ++ (w, u) ∷ [])) ((u, w) ∷ []) f ∙ sym (cond-false {A = List Dart} (Child u w) ((u, w) ∷ (words' w ++ (w, u) ∷ [])) ((u, w) ∷ []) f)
          ])

      abbrev IsPart : ℕ → List Dart → List Dart → Type 0
      IsPart u ws ds = Part n edge parent depth root left g sides u ws ds

      abbrev AreEntries : ℕ → List ℕ → Type 0
      AreEntries u us = Entries n edge parent depth root left g sides u us

      this : IsStanding E' words' O' v
      this =
          record {
            is_part = subst (λ z. IsPart v z (O' v)) (sym word_here) (subst (IsPart v word) (sym here') (part n edge parent depth root left g sides v W O parts sorted));
            are = subst (AreEntries v) (sym here) (entries n edge parent depth root left g sides v W O parts sorted);
            through = word_here ∙ (word_is n edge parent depth root left g sides v W O parts sorted ∙ (tours v (omega arith) (new_entries n edge parent depth root left g sides v W O parts sorted) ∙ ap (joined (tour_at Child words' v)) (sym here)));
          }

      other : (u : ℕ) → u ≢ v → number v ≤ number u → IsStanding E W O u → IsStanding E' words' O' u
      other u ne l s =
          record {
            is_part = subst (λ z. IsPart u z (O' u)) (sym (word_other u ne)) (subst (IsPart u (W u)) (sym (kept' u ne)) s.is_part);
            are = subst (AreEntries u) (sym (kept u ne)) s.are;
            through = word_other u ne ∙ (s.through ∙ (tours u l (E u) ∙ ap (joined (tour_at Child words' u)) (sym (kept u ne))));
          }

      pub placed_more : ArePlaced E' O' (k + 1)
      placed_more =
          record {
            words = words';
            stands = λ u l far. elim (cases_eq u v) [
              | inl e ↦ subst (IsStanding E' words' O') (sym e) this
              | inr ne ↦ elim (cases_eq (number u) (number v)) [
                | inl same ↦ absurd (ne (only u v l in_n same))
                | inr apart ↦ (let a = next in other u ne (omega arith) (h.stands u l (omega (arith, far, apart, next))))
              ]
            ];
          }
