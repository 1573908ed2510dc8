-- Two vertices that part others, in a plane map without cut vertices: the colour of what they part changes twice round each of them, and where it does a face leads on to the other.
use Rattle.std.proofs.Common.{◌≡◌, ◌≢◌, ◌⊎◌, ◌&&◌, ℕ, ◌-◌, ◌<◌, Bool, true, false, not, eqb, List, [], ◌∷◌, length, get_or, All, AllPairs, Contains, refl, sym, ap, ◌∙◌, subst, inl, inr, arith}
use Rattle.std.proofs.lemmas.Bool.{cases_Bool, eq-eqb, ne_eqb, and_parts, and_from, true≢false, not-true}
use Rattle.classes.specs.Classes.{label, same_class, image}
use Rattle.classes.proofs.Classes.{Together, Together-from, IsEquivalenceBelow, classes-lies, apart-from}
use Rattle.classes.proofs.Orbits.{orbits-closed_marks}
use Rattle.map_lists.specs.Lists.{Lists}
use Rattle.map_theory.specs.Maps.{Dart, HasDart, IsSimpleMap, entry_after, darts, dart_number, dart_count, face_images, face_classes, face_step, component_classes}
use Rattle.map_theory.specs.Paths.{SameFace}
use Rattle.map_theory.proofs.EntryLemmas.{Contains-here, Contains-there, Contains-cons_cases}
use Rattle.map_theory.proofs.DartLemmas.{length-darts, HasDart-darts, HasDart-face_step, length-face_images, IsPermutationOfBelow-face_images, dart_number-lt, get_or-dart_number, Contains-entry_after}
use Rattle.map_theory.proofs.DartPermutations.{dart_of, dart_of-number, rotation, twin, face_images-after, darts_below, edge_together}
use Rattle.classes.proofs.Bound.{after}
use Rattle.plane_laws.proofs.DartPaths.{face_step-number, same_face-step}
use Rattle.graph_search.proofs.ForestLemmas.{IsAdjacency-simple}
use Rattle.graph_search.specs.Cuts.{AreSeparated}
use Rattle.graph_search.proofs.WalkLemmas.{Off, linked_itself, linked_dart, linked_chained, path_linked_by, AreLinked}
use Rattle.graph_search.proofs.PairLemmas.{AreBoth-pair, off_both}
use Rattle.plane_peeling.specs.Restricted.{restricted}
use Rattle.plane_peeling.proofs.RestrictedMaps.{restricted-map, restricted-old, restricted-new, length-restricted}
use Rattle.plane_peeling.proofs.Rings.{entries_closed}

-- what each step of a face keeps is so all along it, where it is so of one dart
pub face_closed : (lists : Lists) → IsSimpleMap lists → (P : Dart → Bool) (d e : Dart) → HasDart lists d.0 d.1 → HasDart lists e.0 e.1 → ((x : Dart) → HasDart lists x.0 x.1 → SameFace lists d x → P x ≡ true → P (face_step lists x) ≡ true) → SameFace lists d e → P d ≡ true → P e ≡ true
face_closed lists simple P d e has_d has_e keeps same at =
    let images = face_images lists in
    let C = face_classes lists in
    let n = dart_number lists in
    let size = length-face_images lists in
    let mark : ℕ → Bool = λ i. same_class C (n d) i && P (dart_of lists i) in
    let of : (x : Dart) → HasDart lists x.0 x.1 → dart_of lists (n x) ≡ x = λ x has. get_or-dart_number lists x.0 x.1 (0, 0) has in
    let step : (i : ℕ) → i < length images → mark i ≡ true → mark (image images i) ≡ true = λ i l m.
    (let li : i < dart_count lists = omega arith in
    let p = dart_of-number lists simple i li in
    let x = dart_of lists i in
    let parts = and_parts (same_class C (n d) i) (P x) m in
    let on : SameFace lists d x = subst (λ k. same_class C (n d) k ≡ true) (sym p.number) parts.0 in
    let y = face_step lists x in
    let has_y = HasDart-face_step lists x simple p.is_dart in
    let goes : image images i ≡ n y = face_images-after lists simple i li ∙ (ap (after (rotation lists) (twin lists)) (sym p.number) ∙ face_step-number lists simple x p.is_dart) in
    let there = same_face-step lists simple d x p.is_dart on in
    subst (λ k. mark k ≡ true) (sym goes) (and_from (same_class C (n d) (n y)) (P (dart_of lists (n y))) there (ap P (of y has_y) ∙ keeps x p.is_dart on parts.1))) in
    let ld = dart_number-lt lists d.0 d.1 has_d in
    let le = dart_number-lt lists e.0 e.1 has_e in
    let one = orbits-closed_marks images (IsPermutationOfBelow-face_images lists simple) mark step (n d) (n e) (omega arith) (omega arith) (Together-from C (n d) (n e) same) in
    let start : mark (n d) ≡ true = and_from (same_class C (n d) (n d)) (P (dart_of lists (n d))) (eq-eqb (label C (n d)) (label C (n d)) refl) (ap P (of d has_d) ∙ at) in
    ap P (sym (of e has_e)) ∙ (and_parts (same_class C (n d) (n e)) (P (dart_of lists (n e))) (sym one ∙ start)).1

-- an entry that passes a test, or none does
pub some_entry : (p : ℕ → Bool) (us : List ℕ) → ((z : ℕ) × Contains us z × (p z ≡ true)) ⊎ ((z : ℕ) → Contains us z → p z ≡ false)
some_entry p [] = inr (λ z c. absurd (let some = c.1 in omega arith))
some_entry p (x ∷ us) =
    elim (cases_Bool (p x)) [
      | inl t ↦ inl (x, Contains-here x us, t)
      | inr f ↦ elim (some_entry p us) [
        | inl h ↦ inl (h.0, Contains-there x us h.0 h.1, h.2)
        | inr none ↦ inr (λ z c. elim (Contains-cons_cases x us z c) [ inl e ↦ subst (λ y. p y ≡ false) e f | inr d ↦ none z d ])
      ]
    ]

-- round a list a test that passes somewhere, and not everywhere, passes at an entry and not at the next
pub ring_changes : (q : ℕ → Bool) (us : List ℕ) (a b : ℕ) → AllPairs ◌≢◌ us → Contains us a → Contains us b → q a ≡ true → q b ≡ false → (z : ℕ) × Contains us z × (q z ≡ true) × (q (entry_after z us) ≡ false)
ring_changes q us a b distinct has_a has_b at_a at_b =
    let P : ℕ → Type 0 = λ z. ((z : ℕ) × Contains us z × (q z ≡ true) × (q (entry_after z us) ≡ false)) ⊎ (Contains us z × (q z ≡ true)) in
    let end = entries_closed P us a b distinct has_a (inr (has_a, at_a)) (λ z h. elim h [
      | inl goal ↦ inl goal
      | inr k ↦ elim (cases_Bool (q (entry_after z us))) [ inl t ↦ inr (Contains-entry_after z us k.0, t) | inr f ↦ inl (z, k.0, k.1, f) ]
    ]) has_b in
    elim end [ inl goal ↦ goal | inr k ↦ absurd (true≢false (sym k.1 ∙ at_b)) ]

-- A colour of the vertices that goes along all darts off u and v.
pub record IsSide (lists : Lists) (u v : ℕ) (side : ℕ → Bool) : Type 0 where
  pub along : (x y : ℕ) → HasDart lists x y → x ≢ u → x ≢ v → y ≢ u → y ≢ v → side x ≡ side y

pub IsSide-other : (lists : Lists) (u v : ℕ) (side : ℕ → Bool) → IsSide lists u v side → IsSide lists u v (λ x. not (side x))
IsSide-other lists u v side h = record { along = λ x y has xu xv yu yv. ap not (h.along x y has xu xv yu yv) }

module _ (lists : Lists) (simple : IsSimpleMap lists) (u v s t : ℕ) (separated : AreSeparated lists (u ∷ v ∷ []) s t) where
  kept : ℕ → Bool
  kept x = not (eqb x u) && not (eqb x v)

  kept_off : (x : ℕ) → kept x ≡ true → Off (u ∷ v ∷ []) x
  unfolding kept
  kept_off x k =
      let parts = and_parts (not (eqb x u)) (not (eqb x v)) k in
      off_both u v (u ∷ v ∷ []) (AreBoth-pair u v) x (λ e. true≢false (sym (eq-eqb x u e) ∙ not-true (eqb x u) parts.0)) (λ e. true≢false (sym (eq-eqb x v e) ∙ not-true (eqb x v) parts.1))

  off_kept : (x : ℕ) → x ≢ u → x ≢ v → kept x ≡ true
  unfolding kept
  off_kept x xu xv = and_from (not (eqb x u)) (not (eqb x v)) (ap not (ne_eqb x u xu)) (ap not (ne_eqb x v xv))

  abbrev R : Lists
  R = restricted kept lists

  abbrev R_simple : IsSimpleMap R
  R_simple = (restricted-map lists kept simple).simple

  s_in : s < length lists
  s_in = let j = separated.joined in subst (λ x. x < length lists) j.start (j.is_path.vertices 0 0 j.is_path.some)

  -- who is linked to s off both is so along each dart that is left
  linked_alike : Together (component_classes R) s t → AreLinked lists (Off (u ∷ v ∷ [])) s t
  linked_alike together =
      let both = u ∷ v ∷ [] in
      let adjacency = IsAdjacency-simple lists simple in
      let Linked : ℕ → Type 0 = λ x. AreLinked lists (Off both) s x in
      let Alike : ℕ → ℕ → Type 0 = λ x y. (Linked x → Linked y) × (Linked y → Linked x) in
      let n = length-restricted lists kept in
      let alike : IsEquivalenceBelow (length R) Alike = record {
        itself = λ i l. ((λ j. j), λ j. j);
        turned = λ i j l m e. (e.1, e.0);
        chained = λ i j k l m o e f. ((λ x. f.0 (e.0 x)), λ x. e.1 (f.1 x));
      } in
      let darts_alike : All (λ d. Alike d.0 d.1) (darts R) = λ i d m.
      let c : Dart = get_or (darts R) i d in
      let old = restricted-old lists kept c.0 c.1 (HasDart-darts R i d (omega (arith, length-darts R))) in
      let off_0 = kept_off c.0 old.1 in
      let off_1 = kept_off c.1 old.2 in
      let there = linked_dart lists adjacency (Off both) c.0 c.1 old.0 off_0 off_1 in
      let back = linked_dart lists adjacency (Off both) c.1 c.0 (simple.both_ways c.0 c.1 old.0) off_1 off_0 in
      ((λ w. linked_chained lists (Off both) s c.0 c.1 w there), λ w. linked_chained lists (Off both) s c.1 c.0 w back) in
      let ls = s_in in
      (classes-lies Alike (length R) alike (darts R) (darts_below R R_simple) darts_alike s t (omega arith) (omega arith) together).0 (linked_itself lists (Off both) s ls separated.s_off)

  -- a colour of the one and not of the other
  pub side_of : (side : ℕ → Bool) × IsSide lists u v side × (side s ≡ true) × (side t ≡ false)
  side_of =
      let C = component_classes R in
      let adjacency = IsAdjacency-simple lists simple in (
        (λ x. same_class C s x),
        record {
          along = λ x y has xu xv yu yv.
              ap (eqb (label C s)) (edge_together R R_simple x y (restricted-new lists kept x y has (off_kept x xu xv) (off_kept y yu yv)));
        },
        eq-eqb (label C s) (label C s) refl,
        apart-from C s t (λ together. let path = path_linked_by lists adjacency (u ∷ v ∷ []) s t (linked_alike together) in separated.apart path.0 path.1),
      )
