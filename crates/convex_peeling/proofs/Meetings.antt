-- Where u and v part others in a plane map without cut vertices, two faces lead from u to v with darts off u.
use Rattle.std.proofs.Common.{◌≡◌, ◌≢◌, ◌&&◌, ℕ, ◌<◌, Bool, true, false, not, cond, eqb, [], ◌∷◌, length, Contains, refl, sym, ap, ◌∙◌, subst, inl, inr}
use Rattle.std.proofs.lemmas.Bool.{cases_eq, eq-eqb, ne_eqb, and_parts, and_from, cond-true, cond-false, true≢false, not-true}
use Rattle.classes.specs.Classes.{same_class}
use Rattle.map_lists.specs.Lists.{Lists}
use Rattle.map_theory.specs.Maps.{Dart, HasDart, IsSimpleMap, IsPlane, list_of, follows, dart_number, face_classes, face_step}
use Rattle.map_theory.specs.Paths.{SameFace}
use Rattle.map_theory.proofs.DartLemmas.{HasDart-follows, HasDart-face_step, entry_after-injective}
use Rattle.plane_laws.proofs.DartPaths.{same_face-step}
use Rattle.graph_search.proofs.ForestLemmas.{IsAdjacency-simple}
use Rattle.graph_search.specs.Cuts.{AreSeparated, IsCutVertex}
use Rattle.graph_search.proofs.WalkLemmas.{Off, linked_path, walks_keep}
use Rattle.graph_search.proofs.CutLemmas.{off_one, ne_off}
use Rattle.graph_search.proofs.PairLemmas.{AreBoth-pair, separated_turned}
use Rattle.convex_peeling.proofs.Corners.{SameFace-turned, SameFace-step, passed_once, comes_along}
use Rattle.convex_peeling.proofs.Sides.{face_closed, some_entry, ring_changes, IsSide, IsSide-other, side_of}
use Rattle.convex_peeling.specs.Polyhedral.{IsEdgeBetween}

-- The faces of (u, a) and of (u, c) are two, and pass v with its darts to b and to e; u and v are no edge between them.
pub record AreOnTwoFaces (lists : Lists) (u v a b c e : ℕ) : Type 0 where
  pub from_u : HasDart lists u a × HasDart lists u c
  pub from_v : HasDart lists v b × HasDart lists v e
  pub one : SameFace lists (u, a) (v, b)
  pub other : SameFace lists (u, c) (v, e)
  pub apart : ¬ SameFace lists (u, a) (u, c)
  pub no_edge : ¬ IsEdgeBetween lists (u, a) (u, c) u v

-- u and v stand so on some two faces
abbrev pub StandOnTwoFaces : Lists → ℕ → ℕ → Type 0
StandOnTwoFaces lists u v = (a : ℕ) × (b : ℕ) × (c : ℕ) × (e : ℕ) × AreOnTwoFaces lists u v a b c e

-- Two darts of u have faces that pass v with darts to other vertices than u.
pub record AreMetTwice (lists : Lists) (u v a b c e : ℕ) : Type 0 where
  pub from_u : HasDart lists u a × HasDart lists u c
  pub two : a ≢ c
  pub from_v : HasDart lists v b × HasDart lists v e
  pub others : (b ≢ u) × (e ≢ u)
  pub one : SameFace lists (u, a) (v, b)
  pub other : SameFace lists (u, c) (v, e)

abbrev pub MeetTwice : Lists → ℕ → ℕ → Type 0
MeetTwice lists u v = (a : ℕ) × (b : ℕ) × (c : ℕ) × (e : ℕ) × AreMetTwice lists u v a b c e

module _ (lists : Lists) (simple : IsSimpleMap lists) (u v : ℕ) (u_in : u < length lists) where
  -- u has a neighbour of the colour of s, which v alone does not part from t
  neighbour_of_side : ¬ IsCutVertex lists v → (s t : ℕ) → AreSeparated lists (u ∷ v ∷ []) s t → (side : ℕ → Bool) → IsSide lists u v side → side s ≡ true → side t ≡ false → (a : ℕ) × HasDart lists u a × (a ≢ v) × (side a ≡ true)
  neighbour_of_side uncut s t separated side h at_s at_t =
      let adjacency = IsAdjacency-simple lists simple in
      let test : ℕ → Bool = λ z. side z && not (eqb z v) in
      let s_u : s ≢ u = λ e. separated.s_off (subst (Contains (u ∷ v ∷ [])) (sym e) (AreBoth-pair u v).one) in
      let s_v : s ≢ v = λ e. separated.s_off (subst (Contains (u ∷ v ∷ [])) (sym e) (AreBoth-pair u v).other) in
      let t_v : t ≢ v = λ e. separated.t_off (subst (Contains (u ∷ v ∷ [])) (sym e) (AreBoth-pair u v).other) in
      elim (some_entry test (list_of lists u)) [
        | inl found ↦
            let parts = and_parts (side found.0) (not (eqb found.0 v)) found.2 in
            (found.0, (u_in, found.1), (λ e. true≢false (sym (eq-eqb found.0 v e) ∙ not-true (eqb found.0 v) parts.1)), parts.0)
        | inr none ↦
            let Coloured : ℕ → Type 0 = λ x. (x ≢ u) × (x ≢ v) × (side x ≡ true) in
            let goes : (x y : ℕ) → HasDart lists x y → Off (v ∷ []) y → Coloured x → Coloured y = λ x y has off c.
            (let yv = ne_off v y off in
            let yu : y ≢ u = λ e.
            (let back = subst (λ z. HasDart lists z x) e (simple.both_ways x y has) in
            true≢false (sym (and_from (side x) (not (eqb x v)) c.2 (ap not (ne_eqb x v c.1))) ∙ none x back.1)) in
            (yu, yv, sym (h.along x y has c.0 c.1 yu yv) ∙ c.2)) in
            absurd (
            uncut (
              s,
              t,
              record {
                s_off = off_one v s s_v;
                t_off = off_one v t t_v;
                path = separated.path;
                joined = separated.joined;
                apart = λ other j.
                    let w = linked_path lists adjacency (v ∷ []) s t other j in
                    true≢false (sym (walks_keep lists adjacency (Off (v ∷ [])) Coloured goes w.0 s t w.1 (s_u, s_v, at_s)).2 ∙ at_t);
              },
            )
            )
      ]

-- ---- round u
module _ (lists : Lists) (simple : IsSimpleMap lists) (plane : IsPlane lists) (uncut : (v : ℕ) → ¬ IsCutVertex lists v) (u v : ℕ) (v_in : v < length lists) (u_v : u ≢ v) where
  -- the colour of u's entries: v has that of the entry after it
  colour_at : (ℕ → Bool) → ℕ → Bool
  colour_at side z = cond (eqb z v) (side (follows lists u v)) (side z)

  colour-other : (side : ℕ → Bool) (z : ℕ) → z ≢ v → colour_at side z ≡ side z
  unfolding colour_at
  colour-other side z ne = cond-false {A = Bool} (eqb z v) _ _ (ne_eqb z v ne)

  colour-v : (side : ℕ → Bool) → colour_at side v ≡ side (follows lists u v)
  unfolding colour_at
  colour-v side = cond-true {A = Bool} (eqb v v) _ _ (eq-eqb v v refl)

  colour-next : (side : ℕ → Bool) → colour_at side (follows lists u v) ≡ colour_at side v
  colour-next side =
      elim (cases_eq (follows lists u v) v) [
        | inl e ↦ ap (colour_at side) e
        | inr ne ↦ colour-other side (follows lists u v) ne ∙ sym (colour-v side)
      ]

  -- a dart is shaded where its tail, or at u its head, is not of the colour
  shade : (ℕ → Bool) → Dart → Bool
  shade side d = cond (eqb d.0 u) (not (colour_at side d.1)) (not (side d.0))

  shade-u : (side : ℕ → Bool) (d : Dart) → d.0 ≡ u → shade side d ≡ not (colour_at side d.1)
  unfolding shade
  shade-u side d e = cond-true {A = Bool} (eqb d.0 u) _ _ (eq-eqb d.0 u e)

  shade-other : (side : ℕ → Bool) (d : Dart) → d.0 ≢ u → shade side d ≡ not (side d.0)
  unfolding shade
  shade-other side d ne = cond-false {A = Bool} (eqb d.0 u) _ _ (ne_eqb d.0 u ne)

  -- along a face that does not pass v, and passes u at (u, a), the shade stays where a is not of the colour
  shade_goes : (side : ℕ → Bool) → IsSide lists u v side → (a : ℕ) → HasDart lists u a → colour_at side a ≡ false → ((d : Dart) → HasDart lists d.0 d.1 → SameFace lists (u, a) d → d.0 ≢ v) → (d : Dart) → HasDart lists d.0 d.1 → SameFace lists (u, a) d → shade side d ≡ true → shade side (face_step lists d) ≡ true
  shade_goes side h a has_a at_a off d has on shaded =
      let x = d.0 in
      let y = d.1 in
      let next = face_step lists d in
      let has_next = HasDart-face_step lists d simple has in
      let on_next = same_face-step lists simple (u, a) d has on in
      let y_v : y ≢ v = off next has_next on_next in
      elim (cases_eq y u) [
        | inl e ↦
            let w = follows lists y x in
            let on_w = subst (λ r. SameFace lists (u, a) (r, w)) e on_next in
            let same = passed_once lists simple plane uncut u a w has_a (subst (λ r. HasDart lists r w) e has_next) on_w in
            shade-u side next e ∙ ap not (ap (colour_at side) (sym same) ∙ at_a)
        | inr y_u ↦
            elim (cases_eq x u) [
              | inl e ↦ shade-other side next y_u ∙ (ap not (sym (colour-other side y y_v)) ∙ (sym (shade-u side d e) ∙ shaded))
              | inr x_u ↦ shade-other side next y_u ∙ (ap not (sym (h.along x y has x_u (off d has on) y_u y_v)) ∙ (sym (shade-other side d x_u) ∙ shaded))
            ]
      ]

  -- Where the colour changes behind z, the face that turns there passes v, with a dart to another vertex than u.
  turns_to : (side : ℕ → Bool) → IsSide lists u v side → (z : ℕ) → HasDart lists u z → colour_at side z ≡ true → colour_at side (follows lists u z) ≡ false → (b : ℕ) × HasDart lists v b × (b ≢ u) × SameFace lists (u, follows lists u z) (v, b)
  turns_to side h z has at_z at_next =
      let a = follows lists u z in
      let has_a = HasDart-follows lists u z has in
      let z_v : z ≢ v = λ e. true≢false (sym at_z ∙ (ap (colour_at side) e ∙ (sym (colour-next side) ∙ (ap (λ y. colour_at side (follows lists u y)) (sym e) ∙ at_next)))) in
      let off : (b : ℕ) → HasDart lists v b → SameFace lists (u, a) (v, b) → b ≢ u = λ b has_b on e.
      (let back = subst (HasDart lists v) e has_b in
      let on_u = subst (λ y. SameFace lists (u, a) (v, y)) e on in
      let edge = simple.both_ways v u back in
      z_v (entry_after-injective (list_of lists u) z v (simple.no_repeat u has.0) has.1 edge.1 (comes_along lists simple plane uncut u v a has_a back on_u))) in
      let found : (b : ℕ) × HasDart lists v b × SameFace lists (u, a) (v, b) =
      elim (cases_eq a v) [
        | inl e ↦
            let edge = subst (HasDart lists u) e has_a in
            (follows lists v u, HasDart-follows lists v u (simple.both_ways u v edge), subst (λ y. SameFace lists (u, a) (y, follows lists y u)) e (SameFace-step lists simple u a has_a))
        | inr a_v ↦
            elim (some_entry (λ b. same_class (face_classes lists) (dart_number lists (u, a)) (dart_number lists (v, b))) (list_of lists v)) [
              | inl some ↦ (some.0, (v_in, some.1), some.2)
              | inr none ↦
                  let clear : (d : Dart) → HasDart lists d.0 d.1 → SameFace lists (u, a) d → d.0 ≢ v = λ d has_d on e.
                  (let at_v = subst (λ r. HasDart lists r d.1) e has_d in
                  true≢false (sym (subst (λ r. SameFace lists (u, a) (r, d.1)) e on) ∙ none d.1 at_v.1)) in
                  let back = simple.both_ways u z has in
                  let there = SameFace-turned lists simple (z, u) (u, a) (SameFace-step lists simple z u back) in
                  let start : shade side (u, a) ≡ true = shade-u side (u, a) refl ∙ ap not at_next in
                  let end = face_closed lists simple (shade side) (u, a) (z, u) has_a back (shade_goes side h a has_a at_next clear) there start in
                  absurd (true≢false (sym end ∙ (shade-other side (z, u) (simple.no_loop u z has) ∙ ap not (sym (colour-other side z z_v) ∙ at_z))))
            ]
      ] in
      (found.0, found.1, off found.0 found.1 found.2, found.2)

  -- the other colour, at the entries of u
  colour-not : (side : ℕ → Bool) (z : ℕ) → colour_at (λ x. not (side x)) z ≡ not (colour_at side z)
  colour-not side z =
      elim (cases_eq z v) [
        | inl e ↦ ap (colour_at (λ x. not (side x))) e ∙ (colour-v (λ x. not (side x)) ∙ (ap not (sym (colour-v side)) ∙ ap (λ y. not (colour_at side y)) (sym e)))
        | inr ne ↦ colour-other (λ x. not (side x)) z ne ∙ ap not (sym (colour-other side z ne))
      ]

  -- THE MEETINGS: what u and v part, two faces lead round
  pub meet_twice : u < length lists → (s t : ℕ) → AreSeparated lists (u ∷ v ∷ []) s t → MeetTwice lists u v
  meet_twice u_in s t separated =
      let us = list_of lists u in
      let found = side_of lists simple u v s t separated in
      let side = found.0 in
      let other : ℕ → Bool = λ x. not (side x) in
      let h' = IsSide-other lists u v side found.1 in
      let a = neighbour_of_side lists simple u v u_in (uncut v) s t separated side found.1 found.2 found.3 in
      let b = neighbour_of_side lists simple u v u_in (uncut v) t s (separated_turned lists (IsAdjacency-simple lists simple) (u ∷ v ∷ []) s t separated) other h' (ap not found.3) (ap not found.2) in
      let distinct = simple.no_repeat u u_in in
      let at_a : colour_at side a.0 ≡ true = colour-other side a.0 a.2 ∙ a.3 in
      let at_b : colour_at side b.0 ≡ false = colour-other side b.0 b.2 ∙ not-true (side b.0) b.3 in
      let one = ring_changes (colour_at side) us a.0 b.0 distinct a.1.1 b.1.1 at_a at_b in
      let two = ring_changes (colour_at other) us b.0 a.0 distinct b.1.1 a.1.1 (colour-not side b.0 ∙ ap not at_b) (colour-not side a.0 ∙ ap not at_a) in
      let first = turns_to side found.1 one.0 (u_in, one.1) one.2 one.3 in
      let second = turns_to other h' two.0 (u_in, two.1) two.2 two.3 in
      let p = follows lists u one.0 in
      let q = follows lists u two.0 in (
        p,
        first.0,
        q,
        second.0,
        record {
          from_u = (HasDart-follows lists u one.0 (u_in, one.1), HasDart-follows lists u two.0 (u_in, two.1));
          two = λ e. true≢false (sym (ap not one.3) ∙ (sym (colour-not side p) ∙ (ap (colour_at other) e ∙ two.3)));
          from_v = (first.1, second.1);
          others = (first.2, second.2);
          one = first.3;
          other = second.3;
        },
      )
