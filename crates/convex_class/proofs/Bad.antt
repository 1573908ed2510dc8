-- Two vertices on two faces that are no edge between them: the greatest of the four tells of them.
use Rattle.std.proofs.Common.{◌≡◌, ◌≢◌, ◌⊎◌, ℕ, ◌+◌, ◌-◌, ◌<◌, ◌≤◌, List, length, get_or, Contains, Option, Some, unwrap_or, sym, ap, ◌∙◌, subst, inl, inr, refl, arith}
use Rattle.std.specs.Option.{option_map}
use Rattle.std.proofs.lemmas.Bool.{cases_eq, cases_lt}
use Rattle.std.proofs.lemmas.List.{get_or_default, get_or_past}
use Rattle.std.proofs.lemmas.List.Elements.{Contains-get_or}
use Rattle.classes.proofs.Classes.{Together, Together-from, same_class-from}
use Rattle.map_lists.specs.Lists.{Lists}
use Rattle.map_theory.specs.Maps.{Dart, HasDart, list_of, face_step, follows, dart_number, face_classes}
use Rattle.map_theory.specs.Paths.{SameFace}
use Rattle.half_edges.specs.Map.{Map, IsHalfMap, dart_at}
use Rattle.euler_faces.specs.FaceWalks.{walk_at, first_number, AreFaces}
use Rattle.euler_faces.proofs.NumberLemmas.{live_from, number_at-is, some_of}
use Rattle.euler_faces.proofs.WalkFaces.{in_class, in_walk}
use Rattle.graph_search.specs.Cuts.{IsSeparatingPair}
use Rattle.convex_peeling.proofs.Meetings.{AreOnTwoFaces}
use Rattle.convex_peeling.specs.PolyhedralMapsLaws.{IsPlaneUncut}
use Rattle.convex_peeling.proofs.PolyhedralLemmas.{pairs_stand_on_two_faces}
use Rattle.convex_class.specs.Clear.{IsNumber, IsOff, IsClearVertex, IsAcross, IsOffPlace, IsClearFace, after_place}

-- the dart (x, y) stands in walk f
abbrev pub StandsIn : Map → List (List ℕ) → ℕ → ℕ → ℕ → Type 0
StandsIn map walks f x y = (d : ℕ) × IsNumber walks d f × (dart_at map d ≡ Some (x, y))

-- Two vertices stand on two faces, and are no edge between them.
pub record AreBad (map : Map) (walks : List (List ℕ)) (u v f g : ℕ) : Type 0 where
  pub two : u ≢ v
  pub faces : f ≢ g
  pub a : ℕ
  pub b : ℕ
  pub c : ℕ
  pub e : ℕ
  pub u_f : StandsIn map walks f u a
  pub v_f : StandsIn map walks f v b
  pub u_g : StandsIn map walks g u c
  pub v_g : StandsIn map walks g v e
  pub no_edge : StandsIn map walks f u v → StandsIn map walks g v u → ⊥
  pub no_edge_back : StandsIn map walks f v u → StandsIn map walks g u v → ⊥

pub AreBad-vertices : (map : Map) (walks : List (List ℕ)) (u v f g : ℕ) → AreBad map walks u v f g → AreBad map walks v u f g
AreBad-vertices map walks u v f g h = record { two = λ q. h.two (sym q); faces = h.faces; a = h.b; b = h.a; c = h.e; e = h.c; u_f = h.v_f; v_f = h.u_f; u_g = h.v_g; v_g = h.u_g; no_edge = h.no_edge_back; no_edge_back = h.no_edge }

pub AreBad-faces : (map : Map) (walks : List (List ℕ)) (u v f g : ℕ) → AreBad map walks u v f g → AreBad map walks u v g f
AreBad-faces map walks u v f g h = record { two = h.two; faces = λ q. h.faces (sym q); a = h.c; b = h.e; c = h.a; e = h.b; u_f = h.u_g; v_f = h.v_g; u_g = h.u_f; v_g = h.v_f; no_edge = λ p q. h.no_edge_back q p; no_edge_back = λ p q. h.no_edge q p }

turned : (x y u : ℕ) → (x ≡ u) ⊎ (y ≡ u) → (u ≡ x) ⊎ (u ≡ y)
turned x y u (inl e) = inl (sym e)
turned x y u (inr e) = inr (sym e)

pub head_of : (x y z w : ℕ) → ◌≡◌ {A = Option Dart} (Some (x, y)) (Some (z, w)) → (x ≡ z) × (y ≡ w)
head_of x y z w e = (ap (λ (o : Option Dart). (unwrap_or o (0, 0)).0) e, ap (λ (o : Option Dart). (unwrap_or o (0, 0)).1) e)

module _ (map : Map) (known : IsHalfMap map) (walks : List (List ℕ)) (faces : AreFaces map walks) where
  abbrev lists : Lists
  lists = map.lists

  has_dart : (f x y : ℕ) → StandsIn map walks f x y → HasDart lists x y
  has_dart f x y p = known.is_dart p.0 x y p.2

  -- each dart stands in some walk
  pub some_walk : (x y : ℕ) → HasDart lists x y → (f : ℕ) × StandsIn map walks f x y
  some_walk x y has =
      let id = known.has_id x y has in
      let at = faces.all id.0 (live_from (dart_at map id.0) (x, y) id.1) in
      (at.0, (id.0, (at.1, at.2), id.1))

  -- and in no other
  one_walk : (f g x y : ℕ) → StandsIn map walks f x y → StandsIn map walks g x y → f ≡ g
  one_walk f g x y p q =
      let same = known.one_id q.0 p.0 x y q.2 p.2 in
      faces.apart f g p.0 p.1.0 q.1.0 p.1.1 (subst (Contains (walk_at walks g)) same q.1.1)

  in_first : (f x y : ℕ) → StandsIn map walks f x y → Together (face_classes lists) (first_number map (walk_at walks f)) (dart_number lists (x, y))
  in_first f x y p =
      subst (Together (face_classes lists) (first_number map (walk_at walks f))) (number_at-is map p.0 x y p.2) (in_class map known (walk_at walks f) (faces.each f p.1.0) p.0 p.1.1)

  -- darts in one walk are in one face
  same_face : (f x y z w : ℕ) → StandsIn map walks f x y → StandsIn map walks f z w → SameFace lists (x, y) (z, w)
  same_face f x y z w p q = same_class-from (face_classes lists) (dart_number lists (x, y)) (dart_number lists (z, w)) (sym (in_first f x y p) ∙ in_first f z w q)

  -- and the other way about
  pub same_walk : (f x y z w : ℕ) → StandsIn map walks f x y → HasDart lists z w → SameFace lists (x, y) (z, w) → StandsIn map walks f z w
  same_walk f x y z w p has same =
      let id = known.has_id z w has in
      let together = in_first f x y p ∙ Together-from (face_classes lists) (dart_number lists (x, y)) (dart_number lists (z, w)) same in
      let there = subst (Together (face_classes lists) (first_number map (walk_at walks f))) (sym (number_at-is map id.0 z w id.1)) together in
      (id.0, (p.1.0, in_walk map known (walk_at walks f) (faces.each f p.1.0) id.0 (live_from (dart_at map id.0) (z, w) id.1) there), id.1)

  -- a separating pair stands so on two faces
  pub bad_pair : (u v : ℕ) → IsPlaneUncut lists → IsSeparatingPair lists u v → (f : ℕ) × (g : ℕ) × AreBad map walks u v f g
  bad_pair u v plane pair =
      let order = pair.0 in
      let found = (pairs_stand_on_two_faces lists u v plane pair.0 pair.1).0 pair in
      let a = found.0 in
      let b = found.1 in
      let c = found.2 in
      let e = found.3 in
      let on : AreOnTwoFaces lists u v a b c e = found.4 in
      let f = some_walk u a on.from_u.0 in
      let g = some_walk u c on.from_u.1 in (
        f.0,
        g.0,
        record {
          two = λ q. absurd (let q' = q in omega arith);
          faces = λ q. on.apart (same_face g.0 u a u c (subst (λ z. StandsIn map walks z u a) q f.1) g.1);
          a = a;
          b = b;
          c = c;
          e = e;
          u_f = f.1;
          v_f = same_walk f.0 u a v b f.1 on.from_v.0 on.one;
          u_g = g.1;
          v_g = same_walk g.0 u c v e g.1 on.from_v.1 on.other;
          no_edge = λ p q. on.no_edge (has_dart f.0 u v p, inl (same_face f.0 u a u v f.1 p, same_face g.0 u c v u g.1 q));
          no_edge_back = λ p q. on.no_edge (has_dart g.0 u v q, inr (same_face f.0 u a v u f.1 p, same_face g.0 u c u v g.1 q));
        },
      )

  -- ---- from a vertex
  -- a vertex on a face at u is a neighbour along it or not
  cases_off : (most f u v a b : ℕ) → u ≢ v → (p : StandsIn map walks f u a) → StandsIn map walks f v b → length (walk_at walks f) ≤ most → IsOff map walks most u p.0 v ⊎ (StandsIn map walks f u v ⊎ StandsIn map walks f v u)
  cases_off most f u v a b ne p q short =
      elim (cases_eq b u) [
        | inl e ↦ inr (inr (subst (StandsIn map walks f v) e q))
        | inr not_to ↦ elim (cases_eq v a) [
          | inl e ↦ inr (inl (subst (StandsIn map walks f u) (sym e) p))
          | inr not_from ↦ inl (record {
            f = f;
            a = a;
            e = q.0;
            dart = p.2;
            number = p.1;
            short = short;
            on = q.1.1;
            off = (b, q.2, (λ z. ne (sym z)), not_to, not_from);
          })
        ]
      ]

  neighbour : (f u v : ℕ) → StandsIn map walks f u v ⊎ StandsIn map walks f v u → HasDart lists u v
  neighbour f u v s = elim s [ inl p ↦ has_dart f u v p | inr p ↦ known.simple.both_ways v u (has_dart f v u p) ]

  pub bad_vertex : (least u v f g : ℕ) → IsClearVertex map walks least u → AreBad map walks u v f g → length (walk_at walks f) ≤ length (list_of lists u) → length (walk_at walks g) ≤ length (list_of lists u) → (least ≤ u) × (least ≤ v)
  bad_vertex least u v f g clear h short short' =
      let most = length (list_of lists u) in
      elim (cases_off most f u v h.a h.b h.two h.u_f h.v_f short) [
        | inl off ↦ elim (cases_off most g u v h.c h.e h.two h.u_g h.v_g short') [
          | inl off' ↦
              let other : h.u_f.0 ≢ h.u_g.0 = λ q. h.faces (faces.apart f g h.u_f.0 h.u_f.1.0 h.u_g.1.0 h.u_f.1.1 (subst (Contains (walk_at walks g)) (sym q) h.u_g.1.1)) in
              clear.apart h.u_f.0 h.u_g.0 v other off off'
          | inr s ↦ clear.alone h.u_f.0 v off (neighbour g u v s)
        ]
        | inr s ↦ elim (cases_off most g u v h.c h.e h.two h.u_g h.v_g short') [
          | inl off' ↦ clear.alone h.u_g.0 v off' (neighbour f u v s)
          | inr t ↦ elim s [
            | inl p ↦ elim t [ inl q ↦ absurd (h.faces (one_walk f g u v p q)) | inr q ↦ absurd (h.no_edge p q) ]
            | inr p ↦ elim t [ inl q ↦ absurd (h.no_edge_back p q) | inr q ↦ absurd (h.faces (one_walk f g v u p q)) ]
          ]
        ]
      ]

  -- ---- from a face
  -- the face across a dart is one
  across_of : (d x y : ℕ) → dart_at map d ≡ Some (x, y) → (z : ℕ) × IsAcross map walks d z × ((w : ℕ) → IsAcross map walks d w → w ≡ z)
  across_of d x y is =
      let found = some_walk y x (known.simple.both_ways x y (known.is_dart d x y is)) in
      let p = found.1 in (
        found.0,
        (x, y, p.0, is, p.2, p.1),
        λ w h.
            let same = head_of h.0 h.1 x y (sym h.3 ∙ is) in
            one_walk w found.0 y x (h.2, h.5, (h.4 ∙ (ap (λ z. Some (z, h.0)) same.1 ∙ ap (λ z. Some (y, z)) same.0))) p,
      )

  -- the place before a place
  before_place : (walk : List ℕ) (k : ℕ) → k < length walk → (i : ℕ) × (i < length walk) × (after_place walk i ≡ get_or walk k 0)
  before_place walk k l =
      elim (cases_eq k 0) [
        | inl e ↦
            let i = length walk - 1 in
            let at : i + 1 ≡ length walk = omega arith in
            (i, omega arith, get_or_past walk (i + 1) (get_or walk 0 0) (omega arith) ∙ ap (λ j. get_or walk j 0) (sym e))
        | inr ne ↦
            let i = k - 1 in
            let at : i + 1 ≡ k = omega arith in
            (i, omega arith, ap (λ j. get_or walk j (get_or walk 0 0)) at ∙ get_or_default walk k (get_or walk 0 0) 0 l)
      ]

  -- one of the darts of a walk begins or ends at u
  pub record Touches (f u i : ℕ) : Type 0 where
    pub x : ℕ
    pub y : ℕ
    pub at : dart_at map (get_or (walk_at walks f) i 0) ≡ Some (x, y)
    pub ends : (x ≡ u) ⊎ (y ≡ u)

  -- where a face at u meets f: across a dart of f that begins or ends at u, or at u, where it has few darts
  abbrev MeetsBeside : ℕ → ℕ → ℕ → Type 0
  MeetsBeside f u g = ((i : ℕ) × (i < length (walk_at walks f)) × IsOffPlace map walks f i g u u) ⊎ ((j : ℕ) × (j < length (walk_at walks f)) × IsAcross map walks (get_or (walk_at walks f) j 0) g × Touches f u j)

  corner_at : (f u a g c : ℕ) → f ≢ g → StandsIn map walks f u a → StandsIn map walks g u c → length (list_of lists u) ≤ length (walk_at walks f) → MeetsBeside f u g
  corner_at f u a g c ne p q few =
      let walk = walk_at walks f in
      let w = faces.each f p.1.0 in
      let d = p.0 in
      let k = p.1.1.0 in
      let k_in : k < length walk = p.1.1.1 in
      let at_k : get_or walk k 0 ≡ d = get_or_default walk k 0 d k_in ∙ p.1.1.2 in
      let before = before_place walk k k_in in
      let i = before.0 in
      let after : after_place walk i ≡ d = before.2 ∙ at_k in
      let live = some_of (dart_at map (get_or walk i 0)) (w.live i before.1) in
      let x = live.0.0 in
      let y = live.0.1 in
      let to : dart_at map (after_place walk i) ≡ Some (y, follows lists y x) = w.steps i before.1 ∙ ap (option_map (face_step lists)) live.1 in
      let is : dart_at map (after_place walk i) ≡ Some (u, a) = ap (dart_at map) after ∙ p.2 in
      let ends : y ≡ u = (head_of y (follows lists y x) u a (sym to ∙ is)).0 in
      let one = across_of (get_or walk i 0) x y live.1 in
      let two = across_of (after_place walk i) u a is in
      elim (cases_eq g one.0) [
        | inl e ↦ inr (i, before.1, subst (IsAcross map walks (get_or walk i 0)) (sym e) one.1, record { x = x; y = y; at = live.1; ends = inr ends })
        | inr not_one ↦ elim (cases_eq g two.0) [
          | inl e ↦ inr (k, k_in, subst (λ z. IsAcross map walks z g) before.2 (subst (IsAcross map walks (after_place walk i)) (sym e) two.1), record { x = u; y = a; at = ap (dart_at map) at_k ∙ p.2; ends = inl refl })
          | inr not_two ↦ inl (
            i,
            before.1,
            (
              record {
                y = a;
                c = q.0;
                h = c;
                dart = is;
                small = few;
                corner = q.2;
                number = q.1;
                other = λ z. ne (sym z);
                not_before = λ z. not_one (one.2 g z);
                not_behind = λ z. not_two (two.2 g z);
              },
              refl,
            ),
          )
        ]
      ]

  -- one dart across which g lies is no edge of both
  touched : (u v f g j : ℕ) → f < length walks → AreBad map walks u v f g → j < length (walk_at walks f) → IsAcross map walks (get_or (walk_at walks f) j 0) g → Touches f u j → Touches f v j → ⊥
  touched u v f g j f_in h l across s t =
      let walk = walk_at walks f in
      let on : StandsIn map walks f s.x s.y = (get_or walk j 0, (f_in, Contains-get_or walk j 0 l), s.at) in
      let same = head_of across.0 across.1 s.x s.y (sym across.3 ∙ s.at) in
      let back : StandsIn map walks g s.y s.x = (across.2, across.5, across.4 ∙ (ap (λ z. Some (z, across.0)) same.1 ∙ ap (λ z. Some (s.y, z)) same.0)) in
      let again = head_of t.x t.y s.x s.y (sym t.at ∙ s.at) in
      elim s.ends [
        | inl e ↦ elim t.ends [
          | inl e' ↦ h.two (sym e ∙ (sym again.0 ∙ e'))
          | inr e' ↦
              let to : s.y ≡ v = sym again.1 ∙ e' in
              h.no_edge (subst (λ z. StandsIn map walks f z v) e (subst (StandsIn map walks f s.x) to on)) (subst (λ z. StandsIn map walks g v z) e (subst (λ z. StandsIn map walks g z s.x) to back))
        ]
        | inr e ↦ elim t.ends [
          | inl e' ↦
              let to : s.x ≡ v = sym again.0 ∙ e' in
              h.no_edge_back (subst (λ z. StandsIn map walks f z u) to (subst (StandsIn map walks f s.x) e on)) (subst (λ z. StandsIn map walks g u z) to (subst (λ z. StandsIn map walks g z s.x) e back))
          | inr e' ↦ h.two (sym e ∙ (sym again.1 ∙ e'))
        ]
      ]

  pub bad_face : (least u v f g : ℕ) → IsClearFace map walks least f → AreBad map walks u v f g → length (list_of lists u) ≤ length (walk_at walks f) → length (list_of lists v) ≤ length (walk_at walks f) → least ≤ u
  bad_face least u v f g clear h few few' =
      let p = corner_at f u h.a g h.c h.faces h.u_f h.u_g few in
      let q = corner_at f v h.b g h.e h.faces h.v_f h.v_g few' in
      let f_in = h.u_f.1.0 in
      elim q [
        | inl off' ↦ elim p [
          | inl off ↦ clear.apart g u u v v u (inr off) (inr off') (inl refl) h.two h.two
          | inr s ↦ clear.apart g s.3.x s.3.y v v u (inl (s.0, s.1, (s.3.at, s.2))) (inr off') (turned s.3.x s.3.y u s.3.ends) h.two h.two
        ]
        | inr t ↦
            let begins : u ≢ t.3.x = λ e. touched u v f g t.0 f_in h t.1 t.2 (record { x = t.3.x; y = t.3.y; at = t.3.at; ends = inl (sym e) }) t.3 in
            let ends : u ≢ t.3.y = λ e. touched u v f g t.0 f_in h t.1 t.2 (record { x = t.3.x; y = t.3.y; at = t.3.at; ends = inr (sym e) }) t.3 in
            elim p [
              | inl off ↦ clear.apart g u u t.3.x t.3.y u (inr off) (inl (t.0, t.1, (t.3.at, t.2))) (inl refl) begins ends
              | inr s ↦ clear.apart g s.3.x s.3.y t.3.x t.3.y u (inl (s.0, s.1, (s.3.at, s.2))) (inl (t.0, t.1, (t.3.at, t.2))) (turned s.3.x s.3.y u s.3.ends) begins ends
            ]
      ]

  module _ (least : ℕ) (vertices : (u : ℕ) → u < length lists → IsClearVertex map walks least u) (all_faces : (f : ℕ) → f < length walks → IsClearFace map walks least f) where
    -- the greatest of two vertices and two faces tells of the lesser vertex
    none_bad : (u v f g : ℕ) → AreBad map walks u v f g → least ≤ u
    none_bad u v f g h =
        let at_u = vertices u (has_dart f u h.a h.u_f).0 in
        let at_v = vertices v (has_dart f v h.b h.v_f).0 in
        let at_f = all_faces f h.u_f.1.0 in
        let at_g = all_faces g h.u_g.1.0 in
        let m = length (list_of lists u) in
        let n = length (list_of lists v) in
        let k = length (walk_at walks f) in
        let l = length (walk_at walks g) in
        let swapped = AreBad-vertices map walks u v f g h in
        let turned = AreBad-faces map walks u v f g h in
        elim (cases_lt m k) [
          | inl u_f ↦ elim (cases_lt n k) [
            | inl v_f ↦ bad_face least u v f g at_f h (omega arith) (omega arith)
            | inr f_v ↦ elim (cases_lt n l) [
              | inl v_g ↦ bad_face least u v g f at_g turned (omega arith) (omega arith)
              | inr g_v ↦ (bad_vertex least v u f g at_v swapped f_v g_v).1
            ]
          ]
          | inr f_u ↦ elim (cases_lt m l) [
            | inl u_g ↦ elim (cases_lt n l) [
              | inl v_g ↦ bad_face least u v g f at_g turned (omega arith) (omega arith)
              | inr g_v ↦ (bad_vertex least v u f g at_v swapped (omega arith) g_v).1
            ]
            | inr g_u ↦ (bad_vertex least u v f g at_u h f_u g_u).0
          ]
        ]

    pub least_paired : IsPlaneUncut lists → (u v : ℕ) → IsSeparatingPair lists u v → least ≤ u
    least_paired plane u v pair =
        let found = bad_pair u v plane pair in
        none_bad u v found.0 found.1 found.2
