-- What is below a vertex, made of what is below its children: the word through it, and the edges that wait in it.
use Rattle.std.proofs.Common.{◌≡◌, ◌≢◌, ◌⊎◌, ℕ, ◌+◌, ◌-◌, ◌<◌, Bool, true, false, cond, not, eqb, ltb, List, [], ◌∷◌, ◌++◌, AllPairs, Contains, get_or, refl, sym, ap, ap₂, ◌∙◌, subst, inl, inr, arith, eq-eqb, ne_eqb}
use Rattle.std.specs.Prelude.{◌&&◌, ◌||◌, ◌↔◌}
use Rattle.std.proofs.Math.Bool.{or_comm}
use Rattle.std.proofs.lemmas.Bool.{cases_Bool, cases_lt, cases_eq, cond-true, cond-false, true≢false, and_parts, and_from, or_cases, or_left, or_right, lt-ltb, ltb-true}
use Rattle.std.proofs.lemmas.List.Elements.{Contains-append_cases, Contains-append_left, Contains-append_right, Contains-get_or}
use Rattle.map_theory.specs.Maps.{Dart}
use Rattle.left_right_laws.specs.Forests.{up, IsAbove, IsReturn, IsLeftRight}
use Rattle.left_right_maps.specs.Orders.{IsEdge, MayPrecede, MayAllPrecede}
use Rattle.left_right_maps.specs.RootedMaps.{is_child, in_tree, joined, tour_at}
use Rattle.left_right_maps.specs.Brackets.{none}
use Rattle.left_right_maps.specs.Trees.{IsDepthFirstTree}
use Rattle.left_right_maps.proofs.Inserts.{none_in_none, here, there, here_or_there, pairs_none, pairs_more, pairs_left, pairs_right, pairs_across, pairs_joined}
use Rattle.left_right_maps.proofs.Orders.{fork_is_ordered}
use Rattle.left_right_maps.proofs.Toured.{joined_holds, joined_parts}
use Rattle.left_right_maps.proofs.Opens.{ups, IsOpen, open_block, open_joined, joined_append, joined_joined, pairs_of_joined}
use Rattle.left_right_maps.proofs.Ends.{uppers, uppers_parts, uppers_hold, uppers_distinct, joined_uppers, lefts, middle, rights, in_three, lefts_end, middle_off, rights_end, picks, picks_so, picks_hold, picks_distinct}
use Rattle.left_right_maps.proofs.Lines.{child_is, is_child_from, above_itself, above_same, above_over, above_one, above_parent, parent_above, IsBelow, branch_below, branch_is}

module _ (n : ℕ) (edge : ℕ → ℕ → Bool) (parent depth : ℕ → ℕ) (root : ℕ) (left : ℕ → ℕ → Bool) (g : IsDepthFirstTree n edge parent depth root) (sides : IsLeftRight (IsEdge edge) parent depth left) where
  abbrev pub child : ℕ → ℕ → Bool
  child = is_child parent depth

  abbrev pub passed : ℕ → ℕ → Bool
  passed = in_tree parent depth

  pub turned : (v u : ℕ) → passed v u ≡ passed u v
  turned v u = or_comm (child v u) (child u v)

  abbrev pub Above : ℕ → ℕ → Type 0
  Above = IsAbove parent depth

  abbrev deeper : (v : ℕ) → 0 < depth v → depth v ≡ depth (parent v) + 1
  deeper = g.forest.deeper

  pub child_deep : (v u : ℕ) → child v u ≡ true → depth u ≡ depth v + 1
  child_deep v u t = let is = child_is parent depth v u t in deeper u is.0 ∙ ap (λ z. depth z + 1) is.1

  pub child_above : (v u : ℕ) → child v u ≡ true → Above v u
  child_above v u t = let is = child_is parent depth v u t in subst (λ z. Above z u) is.1 (parent_above parent depth deeper u is.0)

  pub child_edge : (v u : ℕ) → child v u ≡ true → edge v u ≡ true
  child_edge v u t = let is = child_is parent depth v u t in g.both_ways u v (subst (λ z. edge u z ≡ true) is.1 (g.forest.edges u is.0))

  -- the edge from t to w goes from v or below it to a vertex above v, and is none of the tree
  pub record Returns (v t w : ℕ) : Type 0 where
    pub has : edge t w ≡ true
    pub under : Above v t
    pub above : Above w v
    pub higher : depth w < depth v
    pub away : t ≡ v → w ≢ parent v

  -- a word through what is below v, in which the edges that return from there wait in an order in which they may stand
  pub record Part (v : ℕ) (word opens : List Dart) : Type 0 where
    pub sound : (d : Dart) → Contains opens d → Returns v d.0 d.1
    pub whole : (t w : ℕ) → Returns v t w → Contains opens (t, w)
    pub distinct : AllPairs ◌≢◌ opens
    pub ordered : AllPairs (MayPrecede depth left) opens
    pub opened : IsOpen passed turned word opens

  -- the entries round a vertex but its parent
  pub record Entries (v : ℕ) (us : List ℕ) : Type 0 where
    pub sound : (u : ℕ) → Contains us u → (edge v u ≡ true) × (0 < depth v → u ≢ parent v)
    pub whole : (u : ℕ) → edge v u ≡ true → (0 < depth v → u ≢ parent v) → Contains us u
    pub distinct : AllPairs ◌≢◌ us

  module _ (v : ℕ) (words opens : ℕ → List Dart) (parts : (u : ℕ) → child v u ≡ true → Part u (words u) (opens u)) where
    abbrev pub L : ℕ → List Dart
    L u = lefts depth left v (opens u)

    abbrev pub M : ℕ → List Dart
    M u = middle depth left v (opens u)

    abbrev pub R : ℕ → List Dart
    R u = rights depth left v (opens u)

    three : (u : ℕ) → opens u ≡ L u ++ (M u ++ R u)
    three u = in_three depth left v (opens u)

    ends : (u : ℕ) → child v u ≡ true → (d : Dart) → Contains (opens u) d → (d.1 ≡ v) ⊎ (depth d.1 < depth v)
    ends u t d c =
        let r = (parts u t).sound d c in
        let deep = child_deep v u t in
        elim (cases_lt (depth d.1) (depth v)) [ inl less ↦ inr less | inr more ↦ inl (above_one parent depth d.1 v u r.above (child_above v u t) (omega arith)) ]

    l_in : (u : ℕ) (d : Dart) → Contains (L u) d → Contains (opens u) d
    l_in u d c = subst (λ z. Contains z d) (sym (three u)) (Contains-append_left (L u) (M u ++ R u) d c)

    m_in : (u : ℕ) (d : Dart) → Contains (M u) d → Contains (opens u) d
    m_in u d c = subst (λ z. Contains z d) (sym (three u)) (Contains-append_right (L u) (M u ++ R u) d (Contains-append_left (M u) (R u) d c))

    r_in : (u : ℕ) (d : Dart) → Contains (R u) d → Contains (opens u) d
    r_in u d c = subst (λ z. Contains z d) (sym (three u)) (Contains-append_right (L u) (M u ++ R u) d (Contains-append_right (M u) (R u) d c))

    l_end : (u : ℕ) (d : Dart) → Contains (L u) d → d.1 ≡ v
    l_end u d c = lefts_end depth left v (opens u) d c

    r_end : (u : ℕ) → child v u ≡ true → (d : Dart) → Contains (R u) d → d.1 ≡ v
    r_end u t d c = rights_end depth left v (opens u) (parts u t).ordered (ends u t) d c

    m_low : (u : ℕ) → child v u ≡ true → (d : Dart) → Contains (M u) d → depth d.1 < depth v
    m_low u t d c =
        elim (ends u t d (m_in u d c)) [ inl e ↦ absurd (middle_off depth left v (opens u) d c e) | inr less ↦ less ]

    -- ---- the edges of the fork
    abbrev pub chord_test : ℕ → Bool
    chord_test u = edge v u && (ltb (depth u) (depth v) && not (eqb u (parent v)))

    abbrev pub item : ℕ → Bool
    item u = child v u || chord_test u

    abbrev pub items : List ℕ
    items = picks item n

    record Chord (u : ℕ) : Type 0 where
      has : edge v u ≡ true
      higher : depth u < depth v
      away : u ≢ parent v

    chord_so : (u : ℕ) → chord_test u ≡ true → Chord u
    chord_so u t = grind (arith, and_parts, ltb, not, eqb, ltb-true, true≢false, eq-eqb)

    chord_item : (u : ℕ) → Chord u → item u ≡ true
    chord_item u c =
        or_right (child v u) (chord_test u) (and_from (edge v u) (ltb (depth u) (depth v) && not (eqb u (parent v))) c.has (and_from (ltb (depth u) (depth v)) (not (eqb u (parent v))) (lt-ltb (depth u) (depth v) c.higher) (ap not (ne_eqb u (parent v) c.away))))

    -- a child or a chord, and not both
    kind : (u : ℕ) → item u ≡ true → (child v u ≡ true) ⊎ ((child v u ≡ false) × Chord u)
    kind u t = grind (arith, cases_Bool, child, chord_so, or_cases, chord_test, true≢false)

    chord_above : (u : ℕ) → Chord u → Above u v
    chord_above u c = let high = c.higher in elim (g.on_lines u v (g.both_ways v u c.has)) [ inl a ↦ a | inr a ↦ (let l = a.depths in absurd (omega arith)) ]

    item_in : (u : ℕ) → item u ≡ true → Contains items u
    item_in u t =
        let has : edge v u ≡ true = elim (kind u t) [ inl t' ↦ child_edge v u t' | inr c ↦ c.1.has ] in
        picks_hold item n u (g.in_range u v (g.both_ways v u has)) t

    -- what returns by each
    abbrev pub returns : ℕ → List Dart
    returns u = cond (child v u) (M u) ((v, u) ∷ [])

    returns_child : (u : ℕ) → child v u ≡ true → returns u ≡ M u
    returns_child u t = cond-true {A = List Dart} (child v u) (M u) ((v, u) ∷ []) t

    returns_chord : (u : ℕ) → child v u ≡ false → returns u ≡ (v, u) ∷ []
    returns_chord u f = cond-false {A = List Dart} (child v u) (M u) ((v, u) ∷ []) f

    abbrev ReturnsBy : ℕ → Dart → Type 0
    ReturnsBy u d = IsReturn (IsEdge edge) parent depth v u d.0 d.1

    pub is_return : (u : ℕ) (d : Dart) → item u ≡ true → Contains (returns u) d → ReturnsBy u d
    is_return u d t c =
        elim (kind u t) [
          | inl t' ↦
              let c' : Contains (M u) d = subst (λ z. Contains z d) (returns_child u t') c in
              let r = (parts u t').sound d (m_in u d c') in
              let low = m_low u t' d c' in
              let deep = child_deep v u t' in
              let is = child_is parent depth v u t' in
              record {
                edge = r.has;
                higher = low;
                above = subst (λ z. Above d.1 z) is.1 (above_parent parent depth deeper d.1 u is.0 r.above r.higher);
                under = above_over parent depth v u d.0 (child_above v u t') r.under;
                branch = inr ((λ e. let same = ap depth e in omega arith), branch_is parent depth deeper v d.0 u r.under deep);
                away = λ e. let same = ap depth e in let up_one = deeper v (omega arith) in omega arith;
              }
          | inr h ↦
              let is : (v, u) ≡ d = elim (here_or_there (v, u) d [] (subst (λ z. Contains z d) (returns_chord u h.0) c)) [ inl e ↦ e | inr bad ↦ absurd (none_in_none d bad) ] in
              subst (ReturnsBy u) is (record { edge = h.1.has; higher = h.1.higher; above = chord_above u h.1; under = above_itself parent depth v; branch = inl (refl, refl); away = h.1.away })
        ]

    -- an edge returns by one of them alone
    one_branch : (e f : ℕ) (d : Dart) → ReturnsBy e d → ReturnsBy f d → e ≡ f
    one_branch e f d a b = grind arith

    -- the edges of the fork in an order in which what returns by them may stand
    abbrev pub Sorted : Type 0
    Sorted = (ordered : List ℕ) × (((u : ℕ) → Contains ordered u ↔ Contains items u) × AllPairs (λ e f. (e ≢ f) × MayAllPrecede depth left (returns e) (returns f)) ordered)

    -- such an order: any does
    pub some_order : Sorted
    some_order =
        fork_is_ordered edge parent depth left v items returns sides (picks_distinct item n) (λ u d c c'. is_return u d (picks_so item n u c).1 c')

    module _ (sorted : Sorted) where
      abbrev us : List ℕ
      us = sorted.0

      us_item : (u : ℕ) → Contains us u → item u ≡ true
      us_item u c = (picks_so item n u ((sorted.1.0 u).0 c)).1

      item_us : (u : ℕ) → item u ≡ true → Contains us u
      item_us u t = (sorted.1.0 u).1 (item_in u t)

      apart : AllPairs ◌≢◌ us
      apart i j d l m = (sorted.1.1 i j d l m).0

      -- ---- what is made
      abbrev pub at_item : ℕ → List ℕ
      at_item u = cond (child v u) (uppers (L u) ++ u ∷ uppers (R u)) (u ∷ [])

      at_child : (u : ℕ) → child v u ≡ true → at_item u ≡ uppers (L u) ++ u ∷ uppers (R u)
      at_child u t = cond-true {A = List ℕ} (child v u) (uppers (L u) ++ u ∷ uppers (R u)) (u ∷ []) t

      at_chord : (u : ℕ) → child v u ≡ false → at_item u ≡ u ∷ []
      at_chord u f = cond-false {A = List ℕ} (child v u) (uppers (L u) ++ u ∷ uppers (R u)) (u ∷ []) f

      pub new_entries : List ℕ
      new_entries = joined at_item us

      pub new_opens : List Dart
      new_opens = joined returns us

      abbrev tour : ℕ → List Dart
      tour = tour_at child words v

      pub new_word : List Dart
      new_word = joined tour new_entries

      pub entries_are : new_entries ≡ joined at_item us
      unfolding new_entries
      entries_are = refl

      pub opens_are : new_opens ≡ joined returns us
      unfolding new_opens
      opens_are = refl

      pub word_is : new_word ≡ joined (tour_at child words v) new_entries
      unfolding new_word
      word_is = refl

      tour_off : (u : ℕ) → child v u ≡ false → tour u ≡ (v, u) ∷ []
      tour_off u f = cond-false {A = List Dart} (child v u) ((v, u) ∷ (words u ++ (u, v) ∷ [])) ((v, u) ∷ []) f

      tour_on : (u : ℕ) → child v u ≡ true → tour u ≡ (v, u) ∷ (words u ++ (u, v) ∷ [])
      tour_on u t = cond-true {A = List Dart} (child v u) ((v, u) ∷ (words u ++ (u, v) ∷ [])) ((v, u) ∷ []) t

      -- what ends at v from below a child is no child of v
      low_end : (u : ℕ) → child v u ≡ true → (d : Dart) → Contains (opens u) d → d.1 ≡ v → child v d.0 ≡ false
      low_end u t d c e =
          let r = (parts u t).sound d c in
          let is = child_is parent depth v u t in
          elim (cases_Bool (child v d.0)) [
            | inr f ↦ f
            | inl t' ↦
                let one = child_deep v u t in
                let two = child_deep v d.0 t' in
                let same : u ≡ d.0 = above_same parent depth u d.0 r.under (omega arith) in
                absurd (r.away (sym same) (e ∙ sym is.1))
          ]

      passes : (u : ℕ) → child v u ≡ true → (ds : List Dart) → ((d : Dart) → Contains ds d → Contains (opens u) d × (d.1 ≡ v)) → joined tour (uppers ds) ≡ ups ds
      passes u t ds each =
          joined_uppers tour ds (λ d c. let h = each d c in tour_off d.0 (low_end u t d h.0 h.1) ∙ ap (λ z. (z, d.0) ∷ []) (sym h.1))

      open_item : (u : ℕ) → item u ≡ true → IsOpen passed turned (joined tour (at_item u)) (returns u)
      open_item u t =
          elim (kind u t) [
            | inl t' ↦
                let first = passes u t' (L u) (λ d c. (l_in u d c, l_end u d c)) in
                let last = passes u t' (R u) (λ d c. (r_in u d c, r_end u t' d c)) in
                let waiting = subst (IsOpen passed turned (words u)) (three u) (parts u t').opened in
                let e : joined tour (at_item u) ≡ ups (L u) ++ (((v, u) ∷ (words u ++ (u, v) ∷ [])) ++ ups (R u)) =
                ap (joined tour) (at_child u t') ∙ (joined_append tour (uppers (L u)) (u ∷ uppers (R u)) ∙ (ap (λ z. z ++ (tour u ++ joined tour (uppers (R u)))) first ∙ (ap (λ z. ups (L u) ++ (z ++ joined tour (uppers (R u)))) (tour_on u t') ∙ ap (λ z. ups (L u) ++ (((v, u) ∷ (words u ++ (u, v) ∷ [])) ++ z)) last))) in
                subst (λ z. IsOpen passed turned z (returns u)) (sym e) (subst (IsOpen passed turned (ups (L u) ++ (((v, u) ∷ (words u ++ (u, v) ∷ [])) ++ ups (R u)))) (sym (returns_child u t')) (open_block passed turned v u (words u) (L u) (M u) (R u) (or_left (child v u) (child u v) t') waiting))
            | inr h ↦
                let e : joined tour (at_item u) ≡ (v, u) ∷ [] = ap (joined tour) (at_chord u h.0) ∙ ap (λ z. z ++ []) (tour_off u h.0) in
                subst (λ z. IsOpen passed turned z (returns u)) (sym e) (subst (IsOpen passed turned ((v, u) ∷ [])) (sym (returns_chord u h.0)) ([], ([], (refl, (none, none)))))
          ]

      inner : (Q : Dart → Dart → Type 0) (u : ℕ) → item u ≡ true → (child v u ≡ true → AllPairs Q (opens u)) → AllPairs Q (returns u)
      inner Q u t pairs =
          elim (kind u t) [
            | inl t' ↦ subst (AllPairs Q) (sym (returns_child u t')) (pairs_left Q (M u) (R u) (pairs_right Q (L u) (M u ++ R u) (subst (AllPairs Q) (three u) (pairs t'))))
            | inr h ↦ subst (AllPairs Q) (sym (returns_chord u h.0)) (pairs_more Q (v, u) [] (λ y c. absurd (none_in_none y c)) (pairs_none Q))
          ]

      two_apart : (e f : ℕ) → Contains us e → Contains us f → e ≢ f → (x y : Dart) → Contains (returns e) x → Contains (returns f) y → x ≢ y
      two_apart e f ce cf ne x y c c' same =
          ne (one_branch e f x (is_return e x (us_item e ce) c) (subst (ReturnsBy f) (sym same) (is_return f y (us_item f cf) c')))

      pub part : Part v new_word new_opens
      unfolding new_word new_opens new_entries
      part =
          record {
            sound = λ d c.
                let p = joined_parts returns us d c in
                let r = is_return p.0 d (us_item p.0 p.1.0) p.1.1 in
                record { has = r.edge; under = r.under; above = r.above; higher = r.higher; away = λ e. elim r.branch [ inl h ↦ subst (λ z. z ≢ parent v) h.1 r.away | inr h ↦ absurd (h.0 e) ] };
            whole = λ t w r.
                let high = r.higher in
                elim (cases_eq t v) [
                  | inl e ↦
                      let c : Chord w = record { has = subst (λ z. edge z w ≡ true) e r.has; higher = r.higher; away = r.away e } in
                      let off : child v w ≡ false = elim (cases_Bool (child v w)) [ inl t' ↦ (let deep = child_deep v w t' in absurd (omega arith)) | inr f ↦ f ] in
                      subst (λ z. Contains (joined returns us) (z, w)) (sym e) (joined_holds returns us w (v, w) (item_us w (chord_item w c)) (subst (λ z. Contains z (v, w)) (sym (returns_chord w off)) (here (v, w) [])))
                  | inr ne ↦
                      let far : depth v < depth t = elim (cases_lt (depth v) (depth t)) [ inl less ↦ less | inr more ↦ (let l = r.under.depths in absurd (ne (sym (above_same parent depth v t r.under (omega arith))))) ] in
                      let u = up parent (depth t - depth v - 1) t in
                      let b : IsBelow parent depth deeper v t u = branch_below parent depth deeper v t r.under far in
                      let deep = b.deep in
                      let t' : child v u ≡ true = is_child_from parent depth v u (omega arith) b.parent_is in
                      let r' : Returns u t w = record { has = r.has; under = b.above; above = above_over parent depth w v u r.above (child_above v u t'); higher = omega arith; away = λ _ e. let same = ap depth (e ∙ b.parent_is) in omega arith } in
                      let c = subst (λ z. Contains z (t, w)) (three u) ((parts u t').whole t w r') in
                      let m : Contains (M u) (t, w) = elim (Contains-append_cases (L u) (M u ++ R u) (t, w) c) [
                        | inl k ↦ (let e = ap depth (l_end u (t, w) k) in absurd (omega arith))
                        | inr k ↦ elim (Contains-append_cases (M u) (R u) (t, w) k) [ inl k' ↦ k' | inr k' ↦ (let e = ap depth (r_end u t' (t, w) k') in absurd (omega arith)) ]
                      ] in
                      joined_holds returns us u (t, w) (item_us u (or_left (child v u) (chord_test u) t')) (subst (λ z. Contains z (t, w)) (sym (returns_child u t')) m)
                ];
            distinct = pairs_of_joined ◌≢◌ returns us (λ u c. inner ◌≢◌ u (us_item u c) (λ t. (parts u t).distinct)) (λ i j d l m. two_apart (get_or us i d) (get_or us j d) (Contains-get_or us i d (omega arith)) (Contains-get_or us j d m) (apart i j d l m));
            ordered = pairs_of_joined (MayPrecede depth left) returns us (λ u c. inner (MayPrecede depth left) u (us_item u c) (λ t. (parts u t).ordered)) (λ i j d l m x y c c'. (sorted.1.1 i j d l m).1 x y c c');
            opened = subst (λ z. IsOpen passed turned z (joined returns us)) (sym (joined_joined tour at_item us)) (open_joined passed turned (λ u. joined tour (at_item u)) returns us (λ u c. open_item u (us_item u c)));
          }

      -- ---- the entries
      upper_so : (w : ℕ) → child v w ≡ true → (ds : List Dart) → ((d : Dart) → Contains ds d → Contains (opens w) d × (d.1 ≡ v)) → (u : ℕ) → Contains (uppers ds) u → (edge v u ≡ true) × Above w u
      upper_so w t ds each u c =
          let p = uppers_parts ds u c in
          let h = each p.0 p.1.0 in
          let r = (parts w t).sound p.0 h.0 in
          (subst (λ z. edge v z ≡ true) p.1.1 (subst (λ z. edge z p.0.0 ≡ true) h.1 (g.both_ways p.0.0 p.0.1 r.has)), subst (Above w) p.1.1 r.under)

      -- an entry is a vertex below the item, or the item itself
      at_item_so : (w u : ℕ) → item w ≡ true → Contains (at_item w) u → ((child v w ≡ true) × ((edge v u ≡ true) × Above w u)) ⊎ ((w ≡ u) × Chord w)
      at_item_so w u t c =
          elim (kind w t) [
            | inr h ↦ elim (here_or_there w u [] (subst (λ z. Contains z u) (at_chord w h.0) c)) [ inl e ↦ inr (e, h.1) | inr bad ↦ absurd (none_in_none u bad) ]
            | inl t' ↦ inl (
              t',
              elim (Contains-append_cases (uppers (L w)) (w ∷ uppers (R w)) u (subst (λ z. Contains z u) (at_child w t') c)) [
                | inl k ↦ upper_so w t' (L w) (λ d c'. (l_in w d c', l_end w d c')) u k
                | inr k ↦ elim (here_or_there w u (uppers (R w)) k) [
                  | inl e ↦ (subst (λ z. edge v z ≡ true) e (child_edge v w t'), subst (Above w) e (above_itself parent depth w))
                  | inr k' ↦ upper_so w t' (R w) (λ d c'. (r_in w d c', r_end w t' d c')) u k'
                ]
              ],
            )
          ]

      -- which item an entry stands at
      owner : (w u : ℕ) → item w ≡ true → Contains (at_item w) u → ((w ≡ u) × (depth u < depth v)) ⊎ ((depth v < depth u) × (w ≡ up parent (depth u - depth v - 1) u))
      owner w u t c =
          elim (at_item_so w u t c) [
            | inl h ↦
                let deep = child_deep v w h.0 in
                let far = h.1.1.depths in
                inr (omega arith, branch_is parent depth deeper v u w h.1.1 deep)
            | inr h ↦ (let high = h.1.higher in let same = ap depth h.0 in inl (h.0, omega arith))
          ]

      one_owner : (e f u : ℕ) → item e ≡ true → item f ≡ true → Contains (at_item e) u → Contains (at_item f) u → e ≡ f
      one_owner e f u te tf c c' =
          elim (owner e u te c) [
            | inl h ↦ elim (owner f u tf c') [ inl k ↦ h.0 ∙ sym k.0 | inr k ↦ (let a = h.1 in let b = k.0 in absurd (omega arith)) ]
            | inr h ↦ elim (owner f u tf c') [ inl k ↦ (let a = h.0 in let b = k.1 in absurd (omega arith)) | inr k ↦ h.1 ∙ sym k.1 ]
          ]

      at_item_distinct : (w : ℕ) → item w ≡ true → AllPairs ◌≢◌ (at_item w)
      at_item_distinct w t =
          elim (kind w t) [
            | inr h ↦ subst (AllPairs ◌≢◌) (sym (at_chord w h.0)) (pairs_more ◌≢◌ w [] (λ y c. absurd (none_in_none y c)) (pairs_none ◌≢◌))
            | inl t' ↦
                let distinct = subst (AllPairs ◌≢◌) (three w) (parts w t').distinct in
                let is = child_is parent depth v w t' in
                let not_it : (d : Dart) → Contains (opens w) d → d.1 ≡ v → d.0 ≢ w = λ d c e same. ((parts w t').sound d c).away same (e ∙ sym is.1) in
                subst (AllPairs ◌≢◌) (sym (at_child w t'))
                (pairs_joined ◌≢◌ (uppers (L w)) (w ∷ uppers (R w)) (uppers_distinct v (L w) (l_end w) (pairs_left ◌≢◌ (L w) (M w ++ R w) distinct))
                (pairs_more ◌≢◌ w (uppers (R w)) (λ y c e. let p = uppers_parts (R w) y c in not_it p.0 (r_in w p.0 p.1.0) (r_end w t' p.0 p.1.0) (p.1.1 ∙ sym e)) (uppers_distinct v (R w) (r_end w t') (pairs_right ◌≢◌ (M w) (R w) (pairs_right ◌≢◌ (L w) (M w ++ R w) distinct))))
                (λ x y c c' e.
                let p = uppers_parts (L w) x c in
                elim (here_or_there w y (uppers (R w)) c') [
                  | inl same ↦ not_it p.0 (l_in w p.0 p.1.0) (l_end w p.0 p.1.0) (p.1.1 ∙ (e ∙ sym same))
                  | inr k ↦
                      let q = uppers_parts (R w) y k in
                      let one : p.0.0 ≡ q.0.0 = p.1.1 ∙ (e ∙ sym q.1.1) in
                      let two : p.0.1 ≡ q.0.1 = l_end w p.0 p.1.0 ∙ sym (r_end w t' q.0 q.1.0) in
                      pairs_across ◌≢◌ (L w) (M w ++ R w) distinct p.0 q.0 p.1.0 (Contains-append_right (M w) (R w) q.0 q.1.0) (ap₂ (λ x y. (x, y)) one two)
                ]))
          ]

      pub entries : Entries v new_entries
      unfolding new_entries
      entries =
          record {
            sound = λ u c.
                let p = joined_parts at_item us u c in
                elim (at_item_so p.0 u (us_item p.0 p.1.0) p.1.1) [
                  | inl h ↦ (h.1.0, λ some e. (let deep = child_deep v p.0 h.0 in let far = h.1.1.depths in let same = ap depth e in let one = deeper v some in omega arith))
                  | inr h ↦ (subst (λ z. edge v z ≡ true) h.0 h.1.has, λ some e. h.1.away (h.0 ∙ e))
                ];
            whole = λ u has other.
                let no_same : depth u ≢ depth v = λ e. elim (g.on_lines v u has) [
                  | inl a ↦ true≢false (sym has ∙ (ap (λ z. edge v z) (sym (above_same parent depth v u a (sym e))) ∙ g.no_loop v))
                  | inr a ↦ true≢false (sym has ∙ (ap (λ z. edge v z) (above_same parent depth u v a e) ∙ g.no_loop v))
                ] in
                elim (g.on_lines v u has) [
                  | inr a ↦
                      let l = a.depths in
                      let high : depth u < depth v = omega (arith, no_same) in
                      let c : Chord u = record { has = has; higher = high; away = other (omega arith) } in
                      let off : child v u ≡ false = elim (cases_Bool (child v u)) [ inl t' ↦ (let deep = child_deep v u t' in absurd (omega arith)) | inr f ↦ f ] in
                      joined_holds at_item us u u (item_us u (chord_item u c)) (subst (λ z. Contains z u) (sym (at_chord u off)) (here u []))
                  | inl a ↦
                      let l = a.depths in
                      let low : depth v < depth u = omega (arith, no_same) in
                      elim (cases_Bool (child v u)) [
                        | inl t ↦ joined_holds at_item us u u (item_us u (or_left (child v u) (chord_test u) t)) (subst (λ z. Contains z u) (sym (at_child u t)) (Contains-append_right (uppers (L u)) (u ∷ uppers (R u)) u (here u (uppers (R u)))))
                        | inr f ↦
                            let w = up parent (depth u - depth v - 1) u in
                            let b : IsBelow parent depth deeper v u w = branch_below parent depth deeper v u a low in
                            let deep = b.deep in
                            let t : child v w ≡ true = is_child_from parent depth v w (omega arith) b.parent_is in
                            let r : Returns w u v = record { has = g.both_ways v u has; under = b.above; above = child_above v w t; higher = omega arith; away = λ same e. true≢false (sym (subst (λ z. child v z ≡ true) (sym same) t) ∙ f) } in
                            let c = subst (λ z. Contains z (u, v)) (three w) ((parts w t).whole u v r) in
                            let in_list : Contains (uppers (L w) ++ w ∷ uppers (R w)) u = elim (Contains-append_cases (L w) (M w ++ R w) (u, v) c) [
                              | inl k ↦ Contains-append_left (uppers (L w)) (w ∷ uppers (R w)) u (uppers_hold (L w) (u, v) k)
                              | inr k ↦ elim (Contains-append_cases (M w) (R w) (u, v) k) [
                                | inl k' ↦ (let bad = m_low w t (u, v) k' in absurd (omega arith))
                                | inr k' ↦ Contains-append_right (uppers (L w)) (w ∷ uppers (R w)) u (there w u (uppers (R w)) (uppers_hold (R w) (u, v) k'))
                              ]
                            ] in
                            joined_holds at_item us w u (item_us w (or_left (child v w) (chord_test w) t)) (subst (λ z. Contains z u) (sym (at_child w t)) in_list)
                      ]
                ];
            distinct = pairs_of_joined ◌≢◌ at_item us (λ w c. at_item_distinct w (us_item w c)) (λ i j d l m x y c c' e. apart i j d l m (one_owner (get_or us i d) (get_or us j d) x (us_item (get_or us i d) (Contains-get_or us i d (omega arith))) (us_item (get_or us j d) (Contains-get_or us j d m)) c (subst (Contains (at_item (get_or us j d))) (sym e) c')));
          }
