-- The word of the root holds each dart once, and so is a tour.
use Rattle.std.proofs.Common.{◌≡◌, ◌≢◌, ◌⊎◌, ℕ, zero, suc, ◌+◌, ◌<◌, ◌≤◌, Bool, true, false, eqb, List, [], ◌∷◌, ◌++◌, length, get_or, AllPairs, Contains, refl, sym, ap, ap₂, ◌∙◌, subst, inl, inr, arith, eqb-true, eq-eqb}
use Rattle.std.proofs.Math.Bool.{or_comm}
use Rattle.std.proofs.lemmas.Bool.{cases_Bool, cases_lt, cases_eq, cond-true, cond-false, true≢false, and_parts, and_from}
use Rattle.std.proofs.lemmas.List.Elements.{Contains-append_cases, Contains-append_left, Contains-append_right, Contains-get_or}
use Rattle.classes.proofs.Counting.{count_below_into, count_below_all}
use Rattle.map_lists.specs.Lists.{Lists}
use Rattle.map_theory.specs.Maps.{Dart, HasDart, list_of, follows, face_step, same_dart, dart_count, dart_number}
use Rattle.map_theory.proofs.DartLemmas.{face_step-injective, entry_after-injective, IsDartNumber-darts, dart_number-lt, dart_number-injective}
use Rattle.map_theory.proofs.DartPermutations.{dart_of}
use Rattle.left_right_laws.specs.Ways.{first_on}
use Rattle.left_right_laws.specs.Tours.{tour_step, IsTour}
use Rattle.left_right_maps.specs.RootedMaps.{is_child, in_tree, joined, tour_at, IsRootedMap, place_in, dart_at, TreeHasTour}
use Rattle.left_right_maps.proofs.Inserts.{none_in_none, here, there, here_or_there, pairs_none, pairs_head}
use Rattle.left_right_maps.proofs.Goes.{Goes, goes_next, goes_last, distinct_goes, goes_cycle_at, pushed_last}
use Rattle.left_right_maps.proofs.Toured.{joined_holds, joined_parts, bound_of, child_so, child_from, below_root, parent_dart, parent_in, entry_dart, other_entry, child_in, around_down, around_past, joined_goes, goes_each}

-- ---- places of darts
pub same_is : (d e : Dart) → same_dart d e ≡ true → d ≡ e
same_is d e t =
    let both = and_parts (eqb d.0 e.0) (eqb d.1 e.1) t in
    ap₂ (λ x y. (x, y)) (eqb-true d.0 e.0 both.0) (eqb-true d.1 e.1 both.1)

pub place_here : (es : List Dart) (d x : Dart) → Contains es d → (place_in es d < length es) × (get_or es (place_in es d) x ≡ d)
place_here [] d x c = absurd (none_in_none d c)
place_here (e ∷ es) d x c =
    elim (cases_Bool (same_dart e d)) [
      | inl t ↦
          let k : place_in (e ∷ es) d ≡ 0 = cond-true {A = ℕ} (same_dart e d) 0 (place_in es d + 1) t in
          (omega (arith, k), ap (λ k. get_or (e ∷ es) k x) k ∙ same_is e d t)
      | inr f ↦
          let rest = place_here es d x (elim (here_or_there e d es c) [
            | inl same ↦ absurd (true≢false (sym (and_from (eqb e.0 d.0) (eqb e.1 d.1) (eq-eqb e.0 d.0 (ap (λ (z : Dart). z.0) same)) (eq-eqb e.1 d.1 (ap (λ (z : Dart). z.1) same))) ∙ f))
            | inr c' ↦ c'
          ]) in
          let k : place_in (e ∷ es) d ≡ suc (place_in es d) = cond-false {A = ℕ} (same_dart e d) 0 (place_in es d + 1) f ∙ omega arith in
          (let l = rest.0 in omega (arith, k), ap (λ k. get_or (e ∷ es) k x) k ∙ rest.1)
    ]

pub place_back : (es : List Dart) (p : ℕ) (x : Dart) → AllPairs ◌≢◌ es → p < length es → place_in es (get_or es p x) ≡ p
place_back es p x distinct l =
    grind (arith, cases_lt, place_here es (get_or es p x) x (Contains-get_or es p x l))

module _ (lists : Lists) (parent depth : ℕ → ℕ) (root : ℕ) (entries : ℕ → List ℕ) (words : ℕ → List Dart) (m : IsRootedMap lists parent depth root entries words) where
  abbrev child : ℕ → ℕ → Bool
  child = is_child parent depth

  abbrev along : ℕ → ℕ → Bool
  along = in_tree parent depth

  abbrev step : Dart → Dart
  step = tour_step along lists

  abbrev around : ℕ → ℕ → List Dart
  around = tour_at child words

  abbrev down : (v u : ℕ) → child v u ≡ true → around v u ≡ (v, u) ∷ (words u ++ (u, v) ∷ [])
  down = around_down lists parent depth root entries words m

  abbrev past : (v u : ℕ) → child v u ≡ false → around v u ≡ (v, u) ∷ []
  past = around_past lists parent depth root entries words m

  abbrev so : (v u : ℕ) → child v u ≡ true → (0 < depth u) × (parent u ≡ v)
  so = child_so lists parent depth root entries words m

  around_first : (v u : ℕ) → Contains (around v u) (v, u)
  around_first v u = grind (arith, cases_Bool, child, Contains, down, here, past)

  around_inner : (v u : ℕ) (d : Dart) → child v u ≡ true → Contains (words u) d → Contains (around v u) d
  around_inner v u d t c =
      subst (λ ds. Contains ds d) (sym (down v u t)) (there (v, u) d (words u ++ (u, v) ∷ []) (Contains-append_left (words u) ((u, v) ∷ []) d c))

  around_back : (v u : ℕ) → child v u ≡ true → Contains (around v u) (u, v)
  around_back v u t =
      subst (λ ds. Contains ds (u, v)) (sym (down v u t)) (there (v, u) (u, v) (words u ++ (u, v) ∷ []) (Contains-append_right (words u) ((u, v) ∷ []) (u, v) (here (u, v) [])))

  around_cases : (v u : ℕ) (d : Dart) → Contains (around v u) d → ((v, u) ≡ d) ⊎ ((child v u ≡ true) × (Contains (words u) d ⊎ ((u, v) ≡ d)))
  around_cases v u d c =
      elim (cases_Bool (child v u)) [
        | inl t ↦ elim (here_or_there (v, u) d (words u ++ (u, v) ∷ []) (subst (λ ds. Contains ds d) (down v u t) c)) [
          | inl e ↦ inl e
          | inr c' ↦ elim (Contains-append_cases (words u) ((u, v) ∷ []) d c') [
            | inl c'' ↦ inr (t, inl c'')
            | inr c'' ↦ elim (here_or_there (u, v) d [] c'') [ inl e ↦ inr (t, inr e) | inr none ↦ absurd (none_in_none d none) ]
          ]
        ]
        | inr f ↦ elim (here_or_there (v, u) d [] (subst (λ ds. Contains ds d) (past v u f) c)) [ inl e ↦ inl e | inr none ↦ absurd (none_in_none d none) ]
      ]

  word_holds : (v u : ℕ) (d : Dart) → v < length lists → Contains (entries v) u → Contains (around v u) d → Contains (words v) d
  word_holds v u d l c h =
      subst (λ ds. Contains ds d) (sym (m.through v l)) (joined_holds (around v) (entries v) u d c h)

  word_parts : (v : ℕ) (d : Dart) → v < length lists → Contains (words v) d → (u : ℕ) × (Contains (entries v) u × Contains (around v u) d)
  word_parts v d l c = joined_parts (around v) (entries v) d (subst (λ ds. Contains ds d) (m.through v l) c)

  -- ---- each dart stands in the word of the root
  pub within : (k v : ℕ) → depth v ≤ k → v < length lists → ((d : Dart) → Contains (words v) d → Contains (words root) d) × (v ≢ root → Contains (words root) (v, parent v))
  within zero v deep l =
      elim (cases_eq v root) [ inl e ↦ ((λ d c. subst (λ x. Contains (words x) d) e c), (λ ne. absurd (ne e))) | inr ne ↦ absurd (let a = m.others v l ne in omega arith) ]
  within (suc k) v deep l =
      elim (cases_eq v root) [
        | inl e ↦ ((λ d c. subst (λ x. Contains (words x) d) e c), (λ ne. absurd (ne e)))
        | inr ne ↦
            let some = m.others v l ne in
            let p = parent v in
            let lp = parent_in lists parent depth root entries words m v l ne in
            let one = m.deeper v l some in
            let t = child_from lists parent depth root entries words m p v some refl in
            let c = other_entry lists parent depth root entries words m p v (m.simple.both_ways v p (parent_dart lists parent depth root entries words m v l ne)) (λ ne' e. (let a = ap depth e in let b = m.deeper p lp (m.others p lp ne') in omega arith)) in
            let up = within k p (omega arith) lp in
            ((λ d c'. up.0 d (word_holds p v d lp c (around_inner p v d t c'))), (λ _. up.0 (v, p) (word_holds p v (v, p) lp c (around_back p v t))))
      ]

  pub all_darts : (v u : ℕ) → HasDart lists v u → Contains (words root) (v, u)
  all_darts v u has =
      let l = has.0 in
      let inside = within (depth v) v (omega arith) l in
      let as_entry : Contains (entries v) u → Contains (words root) (v, u) = λ c. inside.0 (v, u) (word_holds v u (v, u) l c (around_first v u)) in
      elim (cases_eq v root) [
        | inl e ↦ as_entry (other_entry lists parent depth root entries words m v u has (λ ne. absurd (ne e)))
        | inr ne ↦ elim (cases_eq u (parent v)) [
          | inl e ↦ subst (λ x. Contains (words root) (v, x)) (sym e) (inside.1 ne)
          | inr off ↦ as_entry (other_entry lists parent depth root entries words m v u has (λ _. off))
        ]
      ]

  -- ---- and each that stands there is a dart
  abbrev bound : (most : ℕ) × ((v : ℕ) → v < length lists → depth v < most)
  bound = bound_of depth (length lists)

  all_are : (k v : ℕ) → bound.0 ≤ depth v + k → v < length lists → (d : Dart) → Contains (words v) d → HasDart lists d.0 d.1 × (depth v ≤ depth d.0)
  all_are zero v far l d c = absurd (let a = bound.1 v l in omega arith)
  all_are (suc k) v far l d c =
      let part = word_parts v d l c in
      let u = part.0 in
      let has = entry_dart lists parent depth root entries words m v u l part.1.0 in
      let lu = m.simple.in_range v u has in
      elim (around_cases v u d part.1.1) [
        | inl e ↦ subst (λ (d : Dart). HasDart lists d.0 d.1 × (depth v ≤ depth d.0)) e (has, omega arith)
        | inr h ↦
            let is = so v u h.0 in
            let deep : depth u ≡ depth v + 1 = m.deeper u lu is.0 ∙ ap (λ z. depth z + 1) is.1 in
            elim h.1 [
              | inl c' ↦ (let r = all_are k u (omega arith) lu d c' in let a = r.1 in (r.0, omega arith))
              | inr e ↦ subst (λ (d : Dart). HasDart lists d.0 d.1 × (depth v ≤ depth d.0)) e (m.simple.both_ways v u has, omega arith)
            ]
      ]

  pub word_darts : (v : ℕ) → v < length lists → (d : Dart) → Contains (words v) d → HasDart lists d.0 d.1 × (depth v ≤ depth d.0)
  word_darts v l d c = all_are bound.0 v (omega arith) l d c

  -- ---- no two darts lead to one
  turned : (v u : ℕ) → along v u ≡ along u v
  turned v u = or_comm (child v u) (child u v)

  step_along : (d : Dart) → along d.0 d.1 ≡ true → step d ≡ face_step lists d
  step_along d t = cond-true {A = Dart} (along d.0 d.1) (face_step lists d) (d.0, follows lists d.0 d.1) t

  step_off : (d : Dart) → along d.0 d.1 ≡ false → step d ≡ (d.0, follows lists d.0 d.1)
  step_off d f = cond-false {A = Dart} (along d.0 d.1) (face_step lists d) (d.0, follows lists d.0 d.1) f

  -- two neighbours with one entry after them
  one_after : (v u a b : ℕ) → HasDart lists v a → HasDart lists u b → ◌≡◌ {A = Dart} (v, follows lists v a) (u, follows lists u b) → (v ≡ u) × (a ≡ b)
  one_after v u a b has has' e = grind (arith, Dart, HasDart, follows, entry_after-injective, list_of)

  mixed : (d e : Dart) → HasDart lists d.0 d.1 → HasDart lists e.0 e.1 → along d.0 d.1 ≡ true → along e.0 e.1 ≡ false → step d ≢ step e
  mixed d e has has' t f same =
      let at = one_after d.1 e.0 d.0 e.1 (m.simple.both_ways d.0 d.1 has) has' (sym (step_along d t) ∙ (same ∙ step_off e f)) in
      true≢false (sym (turned d.1 d.0 ∙ t) ∙ (ap₂ along at.0 at.1 ∙ f))

  step_apart : (d e : Dart) → HasDart lists d.0 d.1 → HasDart lists e.0 e.1 → step d ≡ step e → d ≡ e
  step_apart d e has has' same =
      elim (cases_Bool (along d.0 d.1)) [
        | inl t ↦ grind (arith, cases_Bool, along, face_step-injective, step_along, mixed)
        | inr f ↦ elim (cases_Bool (along e.0 e.1)) [
          | inl t' ↦ absurd (mixed e d has' has t' f (sym same))
          | inr f' ↦ (let at = one_after d.0 e.0 d.1 e.1 has has' (sym (step_off d f) ∙ (same ∙ step_off e f')) in ap₂ (λ x y. (x, y)) at.0 at.1)
        ]
      ]

  -- ---- round the whole
  abbrev start : Dart
  start = (root, first_on (entries root) root)

  cycle_at : (us : List ℕ) → list_of lists root ≡ us → Goes (follows lists root) (first_on us root) us (first_on us root)
  cycle_at [] is = refl
  cycle_at (u ∷ us) is =
      let last = pushed_last u us in
      subst (λ zs. Goes (follows lists root) (first_on zs root) zs (first_on zs root)) is (goes_cycle_at (list_of lists root) (m.simple.no_repeat root m.root_in) last.0 last.1.0 root (is ∙ last.1.1))

  pub goes_whole : Goes step start (words root) start
  goes_whole =
      subst (λ ds. Goes step start ds start) (sym (m.through root m.root_in))
      (joined_goes lists parent depth root entries words m root (entries root) (first_on (entries root) root) (first_on (entries root) root) (cycle_at (entries root) m.whole) (goes_each lists parent depth root entries words m bound.0 bound.1 bound.0 root (omega arith) m.root_in))

  -- ---- the first dart does not come again
  behind : List Dart → List Dart
  behind [] = []
  behind (d ∷ ds) = ds

  first_once : (us : List ℕ) (rest : List Dart) → AllPairs ◌≢◌ us → ((u : ℕ) → Contains us u → u < length lists) → joined (around root) us ≡ (root, first_on us root) ∷ rest → ¬ Contains rest (root, first_on us root)
  unfolding behind
  first_once [] rest distinct low is c = let e = ap (λ (ds : List Dart). length ds) is in omega arith
  first_once (u ∷ us) rest distinct low is c =
      let not_below : (w : ℕ) → Contains (u ∷ us) w → child root w ≡ true → (Contains (words w) (root, u) ⊎ (◌≡◌ {A = Dart} (w, root) (root, u))) → ⊥ = λ w cw t h. (
      let is = so root w t in
      elim h [
        | inl c' ↦ (let a = (word_darts w (low w cw) (root, u) c').1 in let b = m.top in omega arith)
        | inr e ↦ below_root lists parent depth root entries words m w is.0 (ap (λ (d : Dart). d.0) e)
      ]
      ) in
      let later : Contains (joined (around root) us) (root, u) → ⊥ = λ c'. (
      let part = joined_parts (around root) us (root, u) c' in
      elim (around_cases root part.0 (root, u) part.1.1) [
        | inl e ↦ pairs_head ◌≢◌ u us distinct part.0 part.1.0 (sym (ap (λ (d : Dart). d.1) e))
        | inr h ↦ not_below part.0 (there u part.0 us part.1.0) h.0 h.1
      ]
      ) in
      elim (cases_Bool (child root u)) [
        | inl t ↦
            let e : (words u ++ (u, root) ∷ []) ++ joined (around root) us ≡ rest = ap (λ ds. behind (ds ++ joined (around root) us)) (sym (down root u t)) ∙ ap behind is in
            elim (Contains-append_cases (words u ++ (u, root) ∷ []) (joined (around root) us) (root, u) (subst (λ ds. Contains ds (root, u)) (sym e) c)) [
              | inr c' ↦ later c'
              | inl c' ↦ elim (Contains-append_cases (words u) ((u, root) ∷ []) (root, u) c') [
                | inl c'' ↦ not_below u (here u us) t (inl c'')
                | inr c'' ↦ elim (here_or_there (u, root) (root, u) [] c'') [ inl e' ↦ not_below u (here u us) t (inr e') | inr none ↦ none_in_none (root, u) none ]
              ]
            ]
        | inr f ↦
            let e : joined (around root) us ≡ rest = ap (λ ds. behind (ds ++ joined (around root) us)) (sym (past root u f)) ∙ ap behind is in
            later (subst (λ ds. Contains ds (root, u)) (sym e) c)
      ]

  distinct_words : (ds : List Dart) → words root ≡ ds → AllPairs ◌≢◌ ds
  distinct_words [] is = pairs_none ◌≢◌
  distinct_words (x ∷ rest) is =
      let goes = subst (λ ds. Goes step start ds start) is goes_whole in
      let begins : start ≡ x = goes.0 in
      let whole : joined (around root) (entries root) ≡ start ∷ rest = sym (m.through root m.root_in) ∙ (is ∙ ap (λ d. d ∷ rest) (sym begins)) in
      let distinct : AllPairs ◌≢◌ (entries root) = subst (AllPairs ◌≢◌) m.whole (m.simple.no_repeat root m.root_in) in
      let low : (u : ℕ) → Contains (entries root) u → u < length lists = λ u c. child_in lists parent depth root entries words m root u m.root_in c in
      let once : ¬ Contains rest x = λ c. first_once (entries root) rest distinct low whole (subst (Contains rest) (sym begins) c) in
      let is_dart : (d : Dart) → Contains (x ∷ rest) d → HasDart lists d.0 d.1 = λ d c. (word_darts root m.root_in d (subst (λ ds. Contains ds d) (sym is) c)).0 in
      distinct_goes step x rest start (refl, subst (λ d. Goes step (step d) rest start) begins goes.1) once (λ a b c c' e. step_apart a b (is_dart a c) (is_dart b c') e)

  pub distinct_word : AllPairs ◌≢◌ (words root)
  distinct_word = distinct_words (words root) refl

  -- ---- as many places as darts
  abbrev W : List Dart
  W = words root

  abbrev pub at : ℕ → Dart
  at = dart_at W

  abbrev pub place : Dart → ℕ
  place = place_in W

  is_dart : (p : ℕ) → p < length W → HasDart lists (at p).0 (at p).1
  is_dart p l = (word_darts root m.root_in (at p) (Contains-get_or W p (0, 0) l)).0

  pub long : dart_count lists ≡ length W
  long =
      let n = dart_count lists in
      let number : (i : ℕ) → i < n → _ = λ i l. IsDartNumber-darts lists i (0, 0) m.simple.no_repeat l in
      let there_is : (i : ℕ) (l : i < n) → _ = λ i l. place_here W (dart_of lists i) (0, 0) (all_darts (dart_of lists i).0 (dart_of lists i).1 (number i l).is_dart) in
      let few = count_below_into (λ i. place (dart_of lists i)) (λ i. true) (λ i. true) n (length W) (λ i l t. ((there_is i l).0, refl)) (λ i j l l' t t' e.
      let same : dart_of lists i ≡ dart_of lists j = sym (there_is i l).1 ∙ (ap (λ k. get_or W k (0, 0)) e ∙ (there_is j l').1) in
      sym (number i l).number ∙ (ap (dart_number lists) same ∙ (number j l').number)) in
      let many = count_below_into (λ p. dart_number lists (at p)) (λ i. true) (λ i. true) (length W) n (λ p l t. (dart_number-lt lists (at p).0 (at p).1 (is_dart p l), refl)) (λ p q l l' t t' e.
      let same : at p ≡ at q = dart_number-injective lists (at p) (at q) (is_dart p l) (is_dart q l') e in
      sym (place_back W p (0, 0) distinct_word l) ∙ (ap place same ∙ place_back W q (0, 0) distinct_word l')) in
      omega (arith, count_below_all (length W), count_below_all n)

  pub tour : 0 < dart_count lists → IsTour lists along at place
  tour some =
      let same = long in
      record {
        darts = λ p l. is_dart p (omega arith);
        places = λ v u has. (let h = (place_here W (v, u) (0, 0) (all_darts v u has)).0 in omega arith);
        there = λ v u has. (place_here W (v, u) (0, 0) (all_darts v u has)).1;
        back = λ p l. place_back W p (0, 0) distinct_word (omega arith);
        next = λ p l. goes_next step start W start (0, 0) p goes_whole (omega arith);
        round = λ p e. goes_last step start W start (0, 0) p goes_whole (omega arith) ∙ begins W refl goes_whole (omega arith);
      }
    where
      begins : (ds : List Dart) → words root ≡ ds → Goes step start ds start → 0 < length ds → start ≡ get_or ds 0 (0, 0)
      begins [] is goes l = absurd (omega arith)
      begins (d ∷ ds) is goes l = goes.0

-- THE LAW: a tree has a tour
pub tree_has_tour : TreeHasTour
tree_has_tour lists parent depth root entries words m some = tour lists parent depth root entries words m some
