-- A vertex with two neighbours that are not adjacent, taken out of its edge: an edge is put in between the two, beside the vertex, and the vertex's two edges are taken away.
use Rattle.std.proofs.Common.{◌≡◌, ◌≢◌, ℕ, ◌+◌, ◌<◌, ◌≤◌, List, [], ◌∷◌, length, get_or, set, AllPairs, Contains, refl, sym, ap, ◌∙◌, subst, inl, inr, arith, length-set, get_or-set_same, get_or-set_other}
use Rattle.std.specs.List.{remove}
use Rattle.std.proofs.lemmas.Bool.{cases_eq}
use Rattle.std.proofs.lemmas.List.{ext_get_or}
use Rattle.map_lists.specs.Lists.{Lists}
use Rattle.map_theory.specs.Maps.{list_of, place_of, HasDart, IsSimpleMap, IsPlane, follows, entry_after, face_step, dart_count, dart_number}
use Rattle.map_theory.specs.Edges.{without_edge, without_entry}
use Rattle.map_theory.specs.Paths.{SameFace}
use Rattle.map_theory.proofs.EntryLemmas.{Contains-here, Contains-there}
use Rattle.map_theory.proofs.DartLemmas.{place_of-here, place_of-lt-length, get_or-place_of, HasDart-follows}
use Rattle.map_theory.proofs.WithoutEdge.{length-without_edge, list_at_first, list_at_second, list_elsewhere, dart_new, IsSimpleMap-without_edge}
use Rattle.classes.specs.Classes.{label}
use Rattle.classes.proofs.Orbits.{orbits_of}
use Rattle.classes.proofs.Bound.{after}
use Rattle.map_theory.proofs.DartPermutations.{rotation, twin}
use Rattle.plane_laws.proofs.DartPaths.{face_step_together, same_face}
use Rattle.plane_laws.proofs.EdgeRemoved.{edge_removed_plane}
use Rattle.plane_laws.specs.Smoothed.{replaced, smoothed, VertexSmoothed}
use Rattle.plane_laws.specs.WithEdge.{with_edge_at, IsEdgeMore}
use Rattle.plane_laws.proofs.InsertedEntry.{put-before, put-after}
use Rattle.plane_laws.proofs.WithEdge.{with_edge, entry_at-after, length-new, new_first, new_second, new_elsewhere}
use Rattle.plane_laws.proofs.EdgeAdded.{edge_in_face}

-- a list without its first entry
without_first : (y : ℕ) (us : List ℕ) → without_entry (y ∷ us) y ≡ us
without_first y us = ap (remove (y ∷ us)) (place_of-here y y us refl)

module _ (lists : Lists) (x a b : ℕ) (simple : IsSimpleMap lists) (in_x : x < length lists) (two : list_of lists x ≡ a ∷ b ∷ []) (far : ¬ HasDart lists a b) where
  has_xa : HasDart lists x a
  has_xa = (in_x, subst (λ l. Contains l a) (sym two) (Contains-here a (b ∷ [])))

  has_xb : HasDart lists x b
  has_xb = (in_x, subst (λ l. Contains l b) (sym two) (Contains-there a (b ∷ []) b (Contains-here b [])))

  has_ax : HasDart lists a x
  has_ax = simple.both_ways x a has_xa

  has_bx : HasDart lists b x
  has_bx = simple.both_ways x b has_xb

  a_x : a ≢ x
  a_x = simple.no_loop x a has_xa

  b_x : b ≢ x
  b_x = simple.no_loop x b has_xb

  a_b : a ≢ b
  a_b =
      (subst (AllPairs ◌≢◌) two (simple.no_repeat x in_x)) 0 1 0 (omega arith) (omega arith)

  abbrev p : ℕ
  p = place_of x (list_of lists a)

  abbrev q : ℕ
  q = place_of x (list_of lists b)

  in_p : place_of x (list_of lists a) ≤ length (list_of lists a)
  in_p = let l = place_of-lt-length x (list_of lists a) has_ax.1 in omega arith

  in_q : place_of x (list_of lists b) + 1 ≤ length (list_of lists b)
  in_q = let l = place_of-lt-length x (list_of lists b) has_bx.1 in omega arith

  -- the edge beside x
  abbrev new : Lists
  new = with_edge_at lists a p b (q + 1)

  more : IsEdgeMore lists new a p b (q + 1)
  more = with_edge lists a p b (q + 1) simple has_ax.0 has_bx.0 a_b far in_p in_q

  next : follows new a b ≡ x
  next = more.next ∙ get_or-place_of x (list_of lists a) (get_or (list_of lists a) 0 b) (place_of-lt-length x (list_of lists a) has_ax.1)

  next' : follows new b a ≡ follows lists b x
  next' = more.next' ∙ entry_at-after (list_of lists b) x a has_bx.1

  -- from a over x to b
  past_x : follows lists x a ≡ b
  unfolding entry_after
  past_x = ap (entry_after a) two ∙ ap (λ n. get_or (a ∷ b ∷ []) (n + 1) a) (place_of-here a a (b ∷ []) refl)

  beside : SameFace lists (a, x) (b, follows lists b x)
  beside =
      let first = face_step_together lists simple (a, x) has_ax in
      let at : face_step lists (a, x) ≡ (x, b) = ap (λ z. (x, z)) past_x in
      let second = face_step_together lists simple (x, b) has_xb in
      same_face lists simple (a, x) (b, follows lists b x) (first ∙ (ap (λ d. label (orbits_of (after (rotation lists) (twin lists)) (dart_count lists)) (dart_number lists d)) at ∙ second))

  plane_new : IsPlane lists → IsPlane new
  plane_new plane =
      let not_b : follows new a b ≢ b = λ e. b_x (sym e ∙ next) in
      let not_a : follows new b a ≢ a = λ e. far (simple.both_ways b a (subst (HasDart lists b) (sym next' ∙ e) (HasDart-follows lists b x has_bx))) in
      let face' : SameFace (without_edge new a b) (a, follows new a b) (b, follows new b a) = rw (more.without, next, next') beside in
      (edge_in_face new a b more.simple more.edge not_b not_a (subst IsPlane (sym more.without) plane) face').plane

  -- x's two edges taken away
  has_ax' : HasDart new a x
  has_ax' = more.kept a x has_ax

  abbrev rest : Lists
  rest = without_edge new a x

  simple' : IsSimpleMap (without_edge new a x)
  simple' = IsSimpleMap-without_edge new more.simple a x has_ax'

  has_bx' : HasDart (without_edge new a x) b x
  has_bx' = dart_new new more.simple a x has_ax' b x (more.kept b x has_bx) (λ e. absurd (a_b (sym e))) (λ e. absurd (b_x e))

  lists_are : without_edge (without_edge new a x) b x ≡ smoothed lists x a b
  lists_are =
      let us = list_of lists a in
      let vs = list_of lists b in
      let la = has_ax.0 in
      let i = q + 1 in
      let n = length-new lists a p b i simple la has_bx.0 a_b far in_p in_q in
      let n1 = length-without_edge new more.simple a x has_ax' in
      let n2 = length-without_edge rest simple' b x has_bx' in
      let one = set lists a (replaced us x b) in
      let both = set one b (replaced vs x a) in
      let m1 = length-set lists a (replaced us x b) in
      let m2 = length-set one b (replaced vs x a) in
      let new_a = new_first lists a p b i simple la has_bx.0 a_b far in_p in_q in
      let new_b = new_second lists a p b i simple la has_bx.0 a_b far in_p in_q in
      let new_other = new_elsewhere lists a p b i simple la has_bx.0 a_b far in_p in_q in
      ext_get_or [] (without_edge rest b x) (smoothed lists x a b) (omega (arith, length-set both x [])) (λ w l.
      elim (cases_eq w x) [
        | inl e ↦
            rw e (list_at_second rest simple' b x has_bx'
            ∙ (ap (λ l. without_entry l b) (list_at_second new more.simple a x has_ax' ∙ (ap (λ l. without_entry l a) (new_other x (λ s. a_x (sym s)) (λ s. b_x (sym s)) ∙ two) ∙ without_first a (b ∷ [])))
            ∙ (without_first b [] ∙ sym (get_or-set_same both x [] [] (omega arith)))))
        | inr nx ↦
            elim (cases_eq w a) [
              | inl e ↦
                  rw e (list_elsewhere rest simple' b x has_bx' a a_b a_x
                  ∙ (list_at_first new more.simple a x has_ax' ∙ (ap (λ l. without_entry l x) new_a ∙ (put-before us x b b_x has_ax.1
                  ∙ sym (get_or-set_other both x a [] [] a_x ∙ (get_or-set_other one b a (replaced vs x a) [] a_b ∙ get_or-set_same lists a (replaced us x b) [] la))))))
              | inr na ↦
                  elim (cases_eq w b) [
                    | inl e ↦
                        rw e (list_at_first rest simple' b x has_bx'
                        ∙ (ap (λ l. without_entry l x) (list_elsewhere new more.simple a x has_ax' b (λ s. a_b (sym s)) b_x ∙ new_b) ∙ (put-after vs x a a_x has_bx.1
                        ∙ sym (get_or-set_other both x b [] [] b_x ∙ get_or-set_same one b (replaced vs x a) [] (omega arith)))))
                    | inr nb ↦
                        list_elsewhere rest simple' b x has_bx' w nb nx
                        ∙ (list_elsewhere new more.simple a x has_ax' w na nx ∙ (new_other w na nb
                        ∙ sym (get_or-set_other both x w [] [] nx ∙ (get_or-set_other one b w (replaced vs x a) [] nb ∙ get_or-set_other lists a w (replaced us x b) [] na))))
                  ]
            ]
      ])

  pub smoothed_here : IsPlane lists → IsSimpleMap (smoothed lists x a b) × IsPlane (smoothed lists x a b)
  smoothed_here plane =
      let second = edge_removed_plane rest simple' b x has_bx' (edge_removed_plane new more.simple a x has_ax' (plane_new plane)) in
      (subst IsSimpleMap lists_are (IsSimpleMap-without_edge rest simple' b x has_bx'), subst IsPlane lists_are second)

-- THE LAW: a vertex taken out of its edge
pub vertex_smoothed : VertexSmoothed
vertex_smoothed lists x a b simple plane in_x two far = smoothed_here lists x a b simple in_x two far plane
