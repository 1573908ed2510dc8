-- A dart more, and a dart less, in the links of an arena: one relation between the short and the grown
-- arena, read up where a dart comes and down where it goes.
use Rattle.std.proofs.Common.{ℕ, ◌<◌, ◌≡◌, ◌≢◌, cond, eqb, List, length, get_or, Option, Some, None, refl, sym, ap, ◌∙◌, subst, inl, inr, arith}
use Rattle.std.proofs.lemmas.Option.{none-some, some_pair_parts}
use Rattle.std.proofs.lemmas.Bool.{cases_eq, cond-true, cond-false, eq-eqb, ne_eqb}
use Rattle.map_lists.specs.Lists.{Lists}
use Rattle.map_theory.specs.Maps.{Dart, list_of, HasDart, follows}
use Rattle.map_theory.proofs.EntryMore.{AreEntryMore, has_up, has_down, distinct_up, distinct_down, follows_same, follows_skip}
use Rattle.half_edges.specs.Arena.{vertex_at, next_of, prev_of, IsLinked}
use Rattle.half_edges.specs.Links.{IsVertexSet}
use Rattle.half_edges.specs.declared.dart_records.DartRecord.{DartRecord}
use Rattle.half_edges.specs.declared.dart_records.VertexRecord.{VertexRecord}

pub tails_same : (a v b u : ℕ) (dart : Option Dart) → dart ≡ Some (a, b) → dart ≡ Some (v, u) → (a ≡ v) × (b ≡ u)
tails_same a v b u dart one other = some_pair_parts a v b u (sym one ∙ other)

-- two functions differ at d, which is the dart (w, x) in the one and none in the other
pub record IsDartMore (short grown : ℕ → Option Dart) (d w x : ℕ) : Type 0 where
  pub none : short d ≡ None
  pub here : grown d ≡ Some (w, x)
  pub other : (z : ℕ) → z ≢ d → grown z ≡ short z

-- a function with another value at d
abbrev pub set_dart : (ℕ → Option Dart) → ℕ → Option Dart → ℕ → Option Dart
set_dart dart d o z = cond (eqb z d) o (dart z)

pub set_dart-here : (dart : ℕ → Option Dart) (d : ℕ) (o : Option Dart) → set_dart dart d o d ≡ o
set_dart-here dart d o = cond-true (eqb d d) o (dart d) (eq-eqb d d refl)

pub set_dart-other : (dart : ℕ → Option Dart) (d : ℕ) (o : Option Dart) (z : ℕ) → z ≢ d → set_dart dart d o z ≡ dart z
set_dart-other dart d o z other = cond-false (eqb z d) o (dart z) (ne_eqb z d other)

-- the links of the grown records lead from e over d to n, and all others, as those of the short ones do, past d
pub record IsLinkMore (short grown : List DartRecord) (d e n : ℕ) : Type 0 where
  pub next_here : next_of grown d ≡ n
  pub next_before : next_of grown e ≡ d
  pub next_past : e ≢ d → next_of short e ≡ n
  pub next_other : (z : ℕ) → z ≢ d → z ≢ e → next_of grown z ≡ next_of short z
  pub prev_here : prev_of grown d ≡ e
  pub prev_after : prev_of grown n ≡ d
  pub prev_past : e ≢ d → prev_of short n ≡ e
  pub prev_other : (z : ℕ) → z ≢ d → z ≢ n → prev_of grown z ≡ prev_of short z

-- the records of vertices fit these lists
pub record AreVertices (dart : ℕ → Option Dart) (lists : Lists) (vertices : List VertexRecord) : Type 0 where
  pub vertex_count : length vertices ≡ length lists
  pub degree_at : (v : ℕ) → v < length lists → (vertex_at vertices v).degree ≡ length (list_of lists v)
  pub first_at : (v : ℕ) → v < length lists → 0 < length (list_of lists v) → dart (vertex_at vertices v).first ≡ Some (v, get_or (list_of lists v) 0 0)

-- one of them is written, and the list of one vertex changes
pub AreVertices-set : (dart after : ℕ → Option Dart) (lists changed : Lists) (old new : List VertexRecord) (w first : ℕ) → length changed ≡ length lists → ((v : ℕ) → v ≢ w → list_of changed v ≡ list_of lists v) → ((z v u : ℕ) → v ≢ w → dart z ≡ Some (v, u) → after z ≡ Some (v, u)) → IsVertexSet old new w first (length (list_of changed w)) → (0 < length (list_of changed w) → after first ≡ Some (w, get_or (list_of changed w) 0 0)) → length old ≡ length lists → ((v : ℕ) → v < length lists → (vertex_at old v).degree ≡ length (list_of lists v)) → ((v : ℕ) → v < length lists → 0 < length (list_of lists v) → dart (vertex_at old v).first ≡ Some (v, get_or (list_of lists v) 0 0)) → AreVertices after changed new
AreVertices-set dart after lists changed old new w first same there stays s first_is count degree_at first_at = record {
  vertex_count = s.count ∙ count ∙ sym same;
  degree_at = λ v l.
      elim (cases_eq v w) [
        | inl e ↦ ap (λ y. (vertex_at new y).degree) e ∙ s.degree_is ∙ ap (λ y. length (list_of changed y)) (sym e)
        | inr other ↦ ap (λ (r : VertexRecord). r.degree) (s.other v other) ∙ degree_at v (omega (arith, l, same)) ∙ ap length (sym (there v other))
      ];
  first_at = λ v l some.
      elim (cases_eq v w) [
        | inl e ↦
            ap (λ y. after (vertex_at new y).first) e ∙ ap after s.first_is ∙ first_is (subst (λ y. 0 < length (list_of changed y)) e some)
            ∙ ap (λ y. Some (y, get_or (list_of changed y) 0 0)) (sym e)
        | inr other ↦
            ap (λ (r : VertexRecord). after r.first) (s.other v other)
            ∙ stays (vertex_at old v).first v _ other (first_at v (omega (arith, l, same)) (omega (arith, some, ap length (there v other))))
            ∙ ap (λ (us : List ℕ). Some (v, get_or us 0 0)) (sym (there v other))
      ];
}

module _ (dart_s dart_g : ℕ → Option Dart) (lists_s lists_g : Lists) (short grown : List DartRecord) (vertices_s vertices_g : List VertexRecord) (d w x e n : ℕ) where
  -- where the dart stands among the others
  pub record IsDartPlace : Type 0 where
    pub darts : IsDartMore dart_s dart_g d w x
    pub lists : AreEntryMore lists_s lists_g w x
    pub links : IsLinkMore short grown d e n
    -- e is the dart that it follows, and no other is
    pub at_e : (v b : ℕ) → dart_s e ≡ Some (v, b) → (v ≡ w) × (follows lists_g w b ≡ x)
    pub off_e : (z b : ℕ) → dart_s z ≡ Some (w, b) → z ≢ e → follows lists_g w b ≢ x
    pub at_n : dart_g n ≡ Some (w, follows lists_g w x)
    pub off_n : (z v b : ℕ) → dart_s z ≡ Some (v, b) → z ≢ e → next_of short z ≢ n

  module _ (p : IsDartPlace) where
    not_d : (z v u : ℕ) → dart_s z ≡ Some (v, u) → z ≢ d
    not_d z v u some same = none-some (v, u) (sym p.darts.none ∙ ap dart_s (sym same) ∙ some)

    up : (z v u : ℕ) → dart_s z ≡ Some (v, u) → dart_g z ≡ Some (v, u)
    up z v u some = p.darts.other z (not_d z v u some) ∙ some

    down : (z v u : ℕ) → z ≢ d → dart_g z ≡ Some (v, u) → dart_s z ≡ Some (v, u)
    down z v u other some = sym (p.darts.other z other) ∙ some

    at_d : (z v u : ℕ) → z ≡ d → dart_g z ≡ Some (v, u) → (w ≡ v) × (x ≡ u)
    at_d z v u same some = tails_same w v x u (dart_g d) p.darts.here (ap dart_g (sym same) ∙ some)

    -- what follows is the same, but behind e
    follows_off : (z v u : ℕ) → HasDart lists_s v u → dart_s z ≡ Some (v, u) → z ≢ e → follows lists_s v u ≡ follows lists_g v u
    follows_off z v u has some off =
        follows_same lists_s lists_g w x p.lists v u has (λ same. p.off_e z u (some ∙ ap (λ y. Some (y, u)) same) off)

    has_new : HasDart lists_g w x
    has_new = (p.lists.vertex, p.lists.here.has)

    module _ (h : IsLinked dart_s lists_s short vertices_s) where
      has_short : (z v u : ℕ) → dart_s z ≡ Some (v, u) → HasDart lists_g v u × (v ≡ w → u ≢ x)
      has_short z v u some = has_up lists_s lists_g w x p.lists v u (h.is_dart z v u some)

      has_id_up : (v u : ℕ) → HasDart lists_g v u → (z : ℕ) × (dart_g z ≡ Some (v, u))
      has_id_up v u has =
          let old : (v ≡ w → u ≢ x) → (z : ℕ) × (dart_g z ≡ Some (v, u)) = λ not_new. let i = h.has_id v u (has_down lists_s lists_g w x p.lists v u has not_new) in (i.0, up i.0 v u i.1) in
          elim (cases_eq v w) [
            | inl same ↦ elim (cases_eq u x) [
              | inl new_one ↦ (d, p.darts.here ∙ ap (λ y. Some (y, x)) (sym same) ∙ ap (λ y. Some (v, y)) (sym new_one))
              | inr other ↦ old (λ _. other)
            ]
            | inr other ↦ old (λ same. absurd (other same))
          ]

      only_d : (y z v u : ℕ) → y ≡ d → dart_g y ≡ Some (v, u) → dart_g z ≡ Some (v, u) → z ≡ d
      only_d y z v u same at_y at_z =
          let parts = at_d y v u same at_y in
          elim (cases_eq z d) [
            | inl here ↦ here
            | inr other ↦ absurd ((has_short z v u (down z v u other at_z)).1 (sym parts.0) (sym parts.1))
          ]

      one_id_up : (y z v u : ℕ) → dart_g y ≡ Some (v, u) → dart_g z ≡ Some (v, u) → y ≡ z
      one_id_up y z v u at_y at_z =
          elim (cases_eq y d) [
            | inl y_d ↦ y_d ∙ sym (only_d y z v u y_d at_y at_z)
            | inr y_other ↦ elim (cases_eq z d) [
              | inl z_d ↦ absurd (y_other (only_d z y v u z_d at_z at_y))
              | inr z_other ↦ h.one_id y z v u (down y v u y_other at_y) (down z v u z_other at_z)
            ]
          ]

      -- next and prev at a dart of the grown arena
      links_up : (z v u : ℕ) → dart_g z ≡ Some (v, u) → (dart_g (next_of grown z) ≡ Some (v, follows lists_g v u)) × (prev_of grown (next_of grown z) ≡ z)
      links_up z v u some =
          elim (cases_eq z d) [
            | inl same ↦
                let parts = at_d z v u same some in
                let next = ap (λ y. next_of grown y) same ∙ p.links.next_here in (
                  ap dart_g next ∙ p.at_n ∙ ap (λ y. Some (y, follows lists_g y x)) parts.0 ∙ ap (λ y. Some (v, follows lists_g v y)) parts.1,
                  ap (λ y. prev_of grown y) next ∙ p.links.prev_after ∙ sym same,
                )
            | inr other ↦
                let before = down z v u other some in
                elim (cases_eq z e) [
                  | inl at ↦
                      let place = p.at_e v u (ap dart_s (sym at) ∙ before) in
                      let next = ap (λ y. next_of grown y) at ∙ p.links.next_before in (
                        ap dart_g next ∙ p.darts.here ∙ ap (λ y. Some (y, x)) (sym place.0) ∙ ap (λ y. Some (v, y)) (sym (ap (λ y. follows lists_g y u) place.0 ∙ place.1)),
                        ap (λ y. prev_of grown y) next ∙ p.links.prev_here ∙ sym at,
                      )
                  | inr off ↦
                      let next = p.links.next_other z other off in
                      let follower = h.next_at z v u before in (
                        ap dart_g next ∙ up (next_of short z) v (follows lists_s v u) follower ∙ ap (λ y. Some (v, y)) (follows_off z v u (h.is_dart z v u before) before off),
                        ap (λ y. prev_of grown y) next ∙ p.links.prev_other (next_of short z) (not_d (next_of short z) v (follows lists_s v u) follower) (p.off_n z v u before off) ∙ h.prev_at z v u before,
                      )
                ]
          ]

      -- the links with the new dart
      pub IsLinked-more : AreVertices dart_g lists_g vertices_g → IsLinked dart_g lists_g grown vertices_g
      IsLinked-more vs = record {
        distinct = λ v l. distinct_up lists_s lists_g w x p.lists v (h.distinct v (omega (arith, l, p.lists.count)));
        is_dart = λ z v u some.
            elim (cases_eq z d) [
              | inl same ↦ let parts = at_d z v u same some in subst (λ y. HasDart lists_g y u) parts.0 (subst (λ y. HasDart lists_g w y) parts.1 has_new)
              | inr other ↦ (has_short z v u (down z v u other some)).0
            ];
        has_id = has_id_up;
        one_id = one_id_up;
        next_at = λ z v u some. (links_up z v u some).0;
        prev_at = λ z v u some. (links_up z v u some).1;
        vertex_count = vs.vertex_count;
        degree_at = vs.degree_at;
        first_at = vs.first_at;
      }

    module _ (h : IsLinked dart_g lists_g grown vertices_g) where
      -- a dart that is left is not the one that goes
      has_left : (z v u : ℕ) → dart_s z ≡ Some (v, u) → HasDart lists_s v u
      has_left z v u some =
          has_down lists_s lists_g w x p.lists v u (h.is_dart z v u (up z v u some))
          (λ same new_one. not_d z v u some (h.one_id z d w x (up z v u some ∙ ap (λ y. Some (y, u)) same ∙ ap (λ y. Some (w, y)) new_one) p.darts.here))

      has_id_down : (v u : ℕ) → HasDart lists_s v u → (z : ℕ) × (dart_s z ≡ Some (v, u))
      has_id_down v u has =
          let old = has_up lists_s lists_g w x p.lists v u has in
          let i = h.has_id v u old.0 in
          elim (cases_eq i.0 d) [
            | inl same ↦ let parts = at_d i.0 v u same i.1 in absurd (old.1 (sym parts.0) (sym parts.1))
            | inr other ↦ (i.0, down i.0 v u other i.1)
          ]

      -- next and prev at a dart of the short arena
      links_down : (z v u : ℕ) → dart_s z ≡ Some (v, u) → (dart_s (next_of short z) ≡ Some (v, follows lists_s v u)) × (prev_of short (next_of short z) ≡ z)
      links_down z v u some =
          let other = not_d z v u some in
          elim (cases_eq z e) [
            | inl at ↦
                let place = p.at_e v u (ap dart_s (sym at) ∙ some) in
                let apart : e ≢ d = λ same. other (at ∙ same) in
                let next = ap (λ y. next_of short y) at ∙ p.links.next_past apart in
                let n_other : n ≢ d = λ same. apart (sym p.links.prev_here ∙ ap (λ y. prev_of grown y) (sym same) ∙ p.links.prev_after) in
                let skip = follows_skip lists_s lists_g w x p.lists u (subst (λ y. HasDart lists_s y u) place.0 (has_left z v u some)) place.1 in (
                  ap dart_s next ∙ down n w (follows lists_g w x) n_other p.at_n ∙ ap (λ y. Some (w, y)) (sym skip) ∙ ap (λ y. Some (y, follows lists_s y u)) (sym place.0),
                  ap (λ y. prev_of short y) next ∙ p.links.prev_past apart ∙ sym at,
                )
            | inr off ↦
                let next = sym (p.links.next_other z other off) in
                let follower = h.next_at z v u (up z v u some) in
                let back = h.prev_at z v u (up z v u some) in
                let after_other : next_of grown z ≢ d = λ same. off (sym back ∙ ap (λ y. prev_of grown y) same ∙ p.links.prev_here) in (
                  ap dart_s next ∙ down (next_of grown z) v (follows lists_g v u) after_other follower ∙ ap (λ y. Some (v, y)) (sym (follows_off z v u (has_left z v u some) some off)),
                  ap (λ y. prev_of short y) next ∙ sym (p.links.prev_other (next_of grown z) after_other (λ same. p.off_n z v u some off (next ∙ same))) ∙ back,
                )
          ]

      -- the links without the dart
      pub IsLinked-less : AreVertices dart_s lists_s vertices_s → IsLinked dart_s lists_s short vertices_s
      IsLinked-less vs = record {
        distinct = λ v l. distinct_down lists_s lists_g w x p.lists v (h.distinct v (omega (arith, l, p.lists.count)));
        is_dart = has_left;
        has_id = has_id_down;
        one_id = λ y z v u at_y at_z. h.one_id y z v u (up y v u at_y) (up z v u at_z);
        next_at = λ z v u some. (links_down z v u some).0;
        prev_at = λ z v u some. (links_down z v u some).1;
        vertex_count = vs.vertex_count;
        degree_at = vs.degree_at;
        first_at = vs.first_at;
      }
