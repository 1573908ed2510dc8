-- The word of the root, dart by dart: it goes as the tour does, and holds each dart once.
use Rattle.std.proofs.Common.{◌≡◌, ◌≢◌, ℕ, zero, suc, ◌+◌, ◌<◌, ◌≤◌, Bool, true, false, not, eqb, List, [], ◌∷◌, ◌++◌, length, get_or, Contains, sym, ap, ◌∙◌, subst, inl, inr, arith, eqb-true, eq-eqb, ne_eqb, length-append}
use Rattle.std.proofs.Math.ListN.{get_or-append}
use Rattle.std.proofs.lemmas.Bool.{cases_Bool, cases_lt, cases_eq, cond-true, cond-false, true≢false, and_parts, and_from, or_left, or_right, or_from}
use Rattle.std.proofs.lemmas.List.{get_or-append-add}
use Rattle.std.proofs.lemmas.List.Elements.{Contains-append_cases, Contains-append_left, Contains-append_right}
use Rattle.map_lists.specs.Lists.{Lists}
use Rattle.map_theory.specs.Maps.{Dart, HasDart, list_of, follows, face_step}
use Rattle.left_right_laws.specs.Ways.{first_on}
use Rattle.left_right_laws.specs.Tours.{tour_step}
use Rattle.left_right_maps.specs.RootedMaps.{is_child, in_tree, joined, tour_at, IsRootedMap}
use Rattle.left_right_maps.proofs.Inserts.{none_in_none, here, there, here_or_there}
use Rattle.left_right_maps.proofs.Goes.{Goes, goes_on, after_last, goes_round}

-- ---- lists one behind another
pub joined_holds : {X : Type 0} (f : ℕ → List X) (us : List ℕ) (u : ℕ) (x : X) → Contains us u → Contains (f u) x → Contains (joined f us) x
joined_holds f [] u x c h = absurd (none_in_none u c)
joined_holds f (w ∷ us) u x c h =
    elim (here_or_there w u us c) [
      | inl e ↦ Contains-append_left (f w) (joined f us) x (subst (λ z. Contains (f z) x) (sym e) h)
      | inr c' ↦ Contains-append_right (f w) (joined f us) x (joined_holds f us u x c' h)
    ]

pub joined_parts : {X : Type 0} (f : ℕ → List X) (us : List ℕ) (x : X) → Contains (joined f us) x → (u : ℕ) × (Contains us u × Contains (f u) x)
joined_parts f [] x c = absurd (none_in_none x c)
joined_parts f (w ∷ us) x c =
    elim (Contains-append_cases (f w) (joined f us) x c) [
      | inl h ↦ (w, (here w us, h))
      | inr h ↦ (let rest = joined_parts f us x h in (rest.0, (there w rest.0 us rest.1.0, rest.1.1)))
    ]

-- every number below n has a depth below some bound
pub bound_of : (depth : ℕ → ℕ) (n : ℕ) → (most : ℕ) × ((v : ℕ) → v < n → depth v < most)
bound_of depth zero = (0, λ v l. absurd (omega arith))
bound_of depth (suc n) =
    let rest = bound_of depth n in
    (rest.0 + depth n + 1, λ v l. elim (cases_lt v n) [ inl less ↦ (let a = rest.1 v less in omega arith) | inr more ↦ (let e : v ≡ n = omega arith in let a = ap depth e in omega arith) ])

module _ (lists : Lists) (parent depth : ℕ → ℕ) (root : ℕ) (entries : ℕ → List ℕ) (words : ℕ → List Dart) (m : IsRootedMap lists parent depth root entries words) where
  abbrev pub child : ℕ → ℕ → Bool
  child = is_child parent depth

  abbrev pub along : ℕ → ℕ → Bool
  along = in_tree parent depth

  abbrev pub step : Dart → Dart
  step = tour_step along lists

  abbrev pub around : ℕ → ℕ → List Dart
  around = tour_at child words

  -- ---- children and parents
  pub child_so : (v u : ℕ) → child v u ≡ true → (0 < depth u) × (parent u ≡ v)
  child_so v u t =
      let both = and_parts (not (eqb (depth u) 0)) (eqb (parent u) v) t in
      (elim (cases_eq (depth u) 0) [ inl e ↦ absurd (true≢false (sym both.0 ∙ ap not (eq-eqb (depth u) 0 e))) | inr ne ↦ omega (arith, ne) ], eqb-true (parent u) v both.1)

  pub child_from : (v u : ℕ) → 0 < depth u → parent u ≡ v → child v u ≡ true
  child_from v u some e =
      and_from (not (eqb (depth u) 0)) (eqb (parent u) v) (ap not (ne_eqb (depth u) 0 (λ z. omega arith))) (eq-eqb (parent u) v e)

  pub below_root : (v : ℕ) → 0 < depth v → v ≢ root
  below_root v some e = let a = ap depth e in let b = m.top in omega arith

  pub parent_dart : (v : ℕ) → v < length lists → v ≢ root → HasDart lists v (parent v)
  parent_dart v l ne =
      (l, subst (λ us. Contains us (parent v)) (sym (m.last v l ne)) (Contains-append_right (entries v) (parent v ∷ []) (parent v) (here (parent v) [])))

  pub parent_in : (v : ℕ) → v < length lists → v ≢ root → parent v < length lists
  parent_in v l ne = m.simple.in_range v (parent v) (parent_dart v l ne)

  pub entry_dart : (v u : ℕ) → v < length lists → Contains (entries v) u → HasDart lists v u
  entry_dart v u l c =
      elim (cases_eq v root) [
        | inl e ↦ (l, subst (λ us. Contains us u) (ap entries e ∙ (sym m.whole ∙ ap (list_of lists) (sym e))) c)
        | inr ne ↦ (l, subst (λ us. Contains us u) (sym (m.last v l ne)) (Contains-append_left (entries v) (parent v ∷ []) u c))
      ]

  -- the parent is no other entry
  pub no_parent : (v : ℕ) → v < length lists → v ≢ root → ¬ Contains (entries v) (parent v)
  no_parent v l ne c =
      let p = parent v in
      let us = entries v in
      let is = m.last v l ne in
      let long : length (list_of lists v) ≡ length us + 1 = ap length is ∙ length-append us (p ∷ []) in
      let none : length us ≡ length us + 0 = omega arith in
      let first : get_or (list_of lists v) c.0 p ≡ p = ap (λ zs. get_or zs c.0 p) is ∙ (get_or-append us (p ∷ []) p c.0 c.1 ∙ c.2) in
      let second : get_or (list_of lists v) (length us) p ≡ p = ap (λ zs. get_or zs (length us) p) is ∙ (ap (λ k. get_or (us ++ p ∷ []) k p) none ∙ get_or-append-add us (p ∷ []) 0 p) in
      m.simple.no_repeat v l c.0 (length us) p c.1 (omega arith) (first ∙ sym second)

  -- a neighbour that is not the parent is one of the others
  pub other_entry : (v u : ℕ) → HasDart lists v u → (v ≢ root → u ≢ parent v) → Contains (entries v) u
  other_entry v u has other =
      elim (cases_eq v root) [
        | inl e ↦ subst (λ us. Contains us u) (ap (list_of lists) e ∙ (m.whole ∙ ap entries (sym e))) has.1
        | inr ne ↦ elim (Contains-append_cases (entries v) (parent v ∷ []) u (subst (λ us. Contains us u) (m.last v has.0 ne) has.1)) [
          | inl c ↦ c
          | inr c ↦ elim (here_or_there (parent v) u [] c) [ inl e ↦ absurd (other ne (sym e)) | inr c' ↦ absurd (none_in_none u c') ]
        ]
      ]

  -- an entry other than the parent is no vertex above
  pub not_up : (v u : ℕ) → v < length lists → Contains (entries v) u → child u v ≡ false
  not_up v u l c =
      elim (cases_Bool (child u v)) [
        | inr f ↦ f
        | inl t ↦ (let so = child_so u v t in absurd (no_parent v l (below_root v so.0) (subst (Contains (entries v)) (sym so.1) c)))
      ]

  -- ---- steps
  step_down : (v u : ℕ) → child v u ≡ true → step (v, u) ≡ (u, follows lists u v)
  step_down v u t =
      cond-true {A = Dart} (along v u) (face_step lists (v, u)) (v, follows lists v u) (or_left (child v u) (child u v) t)

  step_up : (v u : ℕ) → child v u ≡ true → step (u, v) ≡ (v, follows lists v u)
  step_up v u t =
      cond-true {A = Dart} (along u v) (face_step lists (u, v)) (u, follows lists u v) (or_right (child u v) (child v u) t)

  step_past : (v u : ℕ) → child v u ≡ false → child u v ≡ false → step (v, u) ≡ (v, follows lists v u)
  step_past v u e f =
      cond-false {A = Dart} (along v u) (face_step lists (v, u)) (v, follows lists v u) (or_from (child v u) (child u v) e f)

  pub around_down : (v u : ℕ) → child v u ≡ true → around v u ≡ (v, u) ∷ (words u ++ (u, v) ∷ [])
  around_down v u t = cond-true {A = List Dart} (child v u) ((v, u) ∷ (words u ++ (u, v) ∷ [])) ((v, u) ∷ []) t

  pub around_past : (v u : ℕ) → child v u ≡ false → around v u ≡ (v, u) ∷ []
  around_past v u f = cond-false {A = List Dart} (child v u) ((v, u) ∷ (words u ++ (u, v) ∷ [])) ((v, u) ∷ []) f

  -- what is below u, entered from v, ends on the way back
  abbrev Below : ℕ → ℕ → Type 0
  Below v u = Goes step (u, follows lists u v) (words u) (u, v)

  goes_at : (v u : ℕ) → (child v u ≡ true → Below v u) → child u v ≡ false → Goes step (v, u) (around v u) (v, follows lists v u)
  goes_at v u below off = grind (arith, cases_Bool, child, Goes, step, follows, around_down, step_down, goes_on, step_up, around_past, step_past)

  pub joined_goes : (v : ℕ) (us : List ℕ) (a b : ℕ) → Goes (follows lists v) a us b → ((u : ℕ) → Contains us u → (child v u ≡ true → Below v u) × (child u v ≡ false)) → Goes step (v, a) (joined (around v) us) (v, b)
  joined_goes v [] a b goes each = ap (λ x. (v, x)) goes
  joined_goes v (u ∷ us) a b goes each =
      let at = each u (here u us) in
      goes_on step (v, a) (around v u) (joined (around v) us) (v, follows lists v u) (v, b)
      (subst (λ x. Goes step (v, x) (around v u) (v, follows lists v u)) (sym goes.0) (goes_at v u at.0 at.1))
      (joined_goes v us (follows lists v u) b (subst (λ x. Goes (follows lists v) (follows lists v x) us b) goes.0 goes.1) (λ w c. each w (there u w us c)))

  pub child_in : (v u : ℕ) → v < length lists → Contains (entries v) u → u < length lists
  child_in v u l c = m.simple.in_range v u (entry_dart v u l c)

  -- through what is below each vertex
  goes_below : (most : ℕ) → ((v : ℕ) → v < length lists → depth v < most) → (k v : ℕ) → most ≤ depth v + k → v < length lists → v ≢ root → Below (parent v) v
  goes_below most low zero v far l ne = absurd (let a = low v l in omega arith)
  goes_below most low (suc k) v far l ne =
      let p = parent v in
      let distinct = m.simple.no_repeat v l in
      let is = m.last v l ne in
      let first : follows lists v p ≡ first_on (entries v) p = after_last (list_of lists v) distinct (entries v) p is in
      subst (λ ds. Goes step (v, follows lists v p) ds (v, p)) (sym (m.through v l))
      (joined_goes v (entries v) (follows lists v p) p (subst (λ x. Goes (follows lists v) x (entries v) p) (sym first) (goes_round (list_of lists v) distinct [] (entries v) p is)) (λ u c. (
        (λ t.
            let so = child_so v u t in
            let lu = child_in v u l c in
            subst (λ z. Below z u) so.1 (goes_below most low k u (omega (arith, ap depth so.1, m.deeper u lu so.0)) lu (below_root u so.0))),
        not_up v u l c,
      )))

  pub goes_each : (most : ℕ) → ((v : ℕ) → v < length lists → depth v < most) → (k v : ℕ) → most ≤ depth v + suc k → v < length lists → (u : ℕ) → Contains (entries v) u → (child v u ≡ true → Below v u) × (child u v ≡ false)
  goes_each most low k v far l u c = (
    λ t.
        let so = child_so v u t in
        let lu = child_in v u l c in
        subst (λ z. Below z u) so.1 (goes_below most low k u (omega (arith, ap depth so.1, m.deeper u lu so.0)) lu (below_root u so.0)),
    not_up v u l c,
  )
