-- A vertex put into a face of three darts: three edges, one after another.
use Rattle.std.proofs.Common.{◌≡◌, ◌≢◌, ◌⊎◌, ℕ, suc, ◌+◌, ◌<◌, ◌≤◌, List, [], ◌∷◌, length, get_or, set, AllPairs, Contains, refl, sym, ap, ◌∙◌, subst, inl, inr, arith, length-set, get_or-set_same, get_or-set_other}
use Rattle.std.specs.List.{insert}
use Rattle.std.proofs.lemmas.Bool.{cases_eq}
use Rattle.std.proofs.lemmas.List.{ext_get_or}
use Rattle.classes.proofs.Classes.{Together-from, same_class-from}
use Rattle.map_lists.specs.Lists.{Lists}
use Rattle.map_theory.specs.Maps.{list_of, place_of, HasDart, IsSimpleMap, IsPlane, follows, entry_after, edge_count, component_classes, is_empty_list, face_classes, dart_number, SameComponent}
use Rattle.map_theory.specs.Paths.{SameFace}
use Rattle.map_theory.proofs.DartLemmas.{place_of-lt-length, place_of-here, place_of-there, entry_after-injective, HasDart-follows}
use Rattle.map_theory.proofs.EntryLemmas.{Contains-cons_cases}
use Rattle.map_theory.proofs.WithoutEntry.{entry_after-without}
use Rattle.map_theory.proofs.DartPermutations.{IsLabels-components, isolated_alone}
use Rattle.plane_laws.proofs.DartPaths.{same_face-step}
use Rattle.plane_laws.specs.WithEdge.{with_edge_at, with_edge_after, IsEdgeMore}
use Rattle.plane_laws.proofs.InsertedEntry.{insert-distinct, insert-new, insert-kept, without-insert, entry_after-insert, entry_after-put}
use Rattle.plane_laws.proofs.WithEdge.{edge_more, length-new, new_first, new_second, new_elsewhere, entry_at-after, edge_put_between, edge_put_in_face}
use Rattle.plane_laws.proofs.Extended.{edge_count-edge}
use Rattle.map_gen.specs.Stacked.{Face, with_behind, with_vertex, Stacking, face_at}
use Rattle.map_gen.specs.Faces.{IsFaceOf}
use Rattle.std.specs.Prelude.{◌*◌}

-- (x, y) is one of its darts
abbrev pub IsOn : Face → ℕ → ℕ → Type 0
IsOn f x y = ((x ≡ f.a) × (y ≡ f.b)) ⊎ (((x ≡ f.b) × (y ≡ f.c)) ⊎ ((x ≡ f.c) × (y ≡ f.a)))

-- its three darts have the owner j
pub record IsOwned (owner : ℕ → ℕ → ℕ) (f : Face) (j : ℕ) : Type 0 where
  pub of_ab : owner f.a f.b ≡ j
  pub of_bc : owner f.b f.c ≡ j
  pub of_ca : owner f.c f.a ≡ j

-- Of n vertices those below k were put in, and the others are isolated. The map has genus zero, and its inner faces are triangles, no two of which share a dart.
pub record IsStacked (n k : ℕ) (s : Stacking) : Type 0 where
  pub vertices : length s.lists ≡ n
  pub simple : IsSimpleMap s.lists
  pub plane : IsPlane s.lists
  pub edges : edge_count s.lists + 6 ≡ 3 * k
  pub isolated : (v : ℕ) → k ≤ v → list_of s.lists v ≡ []
  pub some_face : 0 < length s.faces
  pub faces : (i : ℕ) → i < length s.faces → IsFaceOf s.lists (face_at s.faces i)
  pub apart : (owner : ℕ → ℕ → ℕ) × ((i : ℕ) → i < length s.faces → IsOwned owner (face_at s.faces i) i)

-- nothing stands in an empty list
pub none_in : (us : List ℕ) (x : ℕ) → us ≡ [] → ¬ Contains us x
none_in us x e h = let l = h.1 in let n = ap length e in omega arith

-- one entry stands in a list of one
one_in : (a x : ℕ) → Contains (a ∷ []) x → a ≡ x
one_in a x h = elim (Contains-cons_cases a [] x h) [ inl e ↦ e | inr c ↦ absurd (none_in [] x refl c) ]

-- a second entry, and a third
two_in : (a c x : ℕ) → Contains (a ∷ c ∷ []) x → (a ≡ x) ⊎ (c ≡ x)
two_in a c x h = elim (Contains-cons_cases a (c ∷ []) x h) [ inl e ↦ inl e | inr r ↦ inr (one_in c x r) ]

behind_one : (a c : ℕ) → with_behind (a ∷ []) a c ≡ a ∷ c ∷ []
behind_one a c = ap (λ i. insert (a ∷ []) (i + 1) c) (place_of-here a a [] refl)

behind_two : (a c b : ℕ) → a ≢ c → with_behind (a ∷ c ∷ []) c b ≡ a ∷ c ∷ b ∷ []
behind_two a c b ne = ap (λ i. insert (a ∷ c ∷ []) (i + 1) b) (place_of-there c a (c ∷ []) ne ∙ ap suc (place_of-here c c [] refl))

-- what comes after the entries of short lists
after_first_of_three : (a c b : ℕ) → entry_after a (a ∷ c ∷ b ∷ []) ≡ c
unfolding entry_after
after_first_of_three a c b = ap (λ i. get_or (a ∷ c ∷ b ∷ []) (i + 1) a) (place_of-here a a (c ∷ b ∷ []) refl)

after_second_of_three : (a c b : ℕ) → a ≢ c → entry_after c (a ∷ c ∷ b ∷ []) ≡ b
unfolding entry_after
after_second_of_three a c b ne = ap (λ i. get_or (a ∷ c ∷ b ∷ []) (i + 1) a) (place_of-there c a (c ∷ b ∷ []) ne ∙ ap suc (place_of-here c c (b ∷ []) refl))

after_third_of_three : (a c b : ℕ) → a ≢ b → c ≢ b → entry_after b (a ∷ c ∷ b ∷ []) ≡ a
unfolding entry_after
after_third_of_three a c b ne ne' =
    ap (λ i. get_or (a ∷ c ∷ b ∷ []) (i + 1) a) (place_of-there b a (c ∷ b ∷ []) ne ∙ ap suc (place_of-there b c (b ∷ []) ne' ∙ ap suc (place_of-here b b [] refl)))

-- an entry put in behind another changes nothing behind the rest
after_other : (us : List ℕ) (a x z : ℕ) → AllPairs ◌≢◌ us → ¬ Contains us x → Contains us a → Contains us z → z ≢ a → entry_after z (with_behind us a x) ≡ entry_after z us
after_other us a x z distinct new has has_z ne =
    let i = place_of a us + 1 in
    let l = place_of-lt-length a us has in
    let within : i ≤ length us = omega arith in
    let vs = insert us i x in
    let apart : AllPairs ◌≢◌ vs = insert-distinct us i x new within distinct in
    let kept : (w : ℕ) → Contains us w → Contains vs w = insert-kept us i x new within in
    let back = without-insert us i x new within in
    let turned : entry_after z vs ≢ x = λ e. ne (entry_after-injective vs z a apart (kept z has_z) (kept a has) (e ∙ sym (entry_after-put us a x has))) in
    sym (entry_after-without vs x apart (insert-new us i x new within) z (subst (λ l. Contains l z) (sym back) has_z) turned) ∙ ap (entry_after z) back

-- an isolated vertex is in no component with a lesser one
pub isolated_apart : (lists : Lists) → IsSimpleMap lists → (u k : ℕ) → u < k → k < length lists → list_of lists k ≡ [] → ¬ SameComponent lists u k
isolated_apart lists simple u k below in_k alone same =
    let low = (IsLabels-components lists simple).low u in
    let own = isolated_alone lists simple k in_k (ap is_empty_list alone) in
    let together = Together-from (component_classes lists) u k same in
    omega arith

-- two darts further along a face
pub two_on : (ls : Lists) → IsSimpleMap ls → (x y z : ℕ) → HasDart ls x y → follows ls y x ≡ z → SameFace ls (x, y) (z, follows ls z y)
two_on ls s x y z has e =
    let has_yx = s.both_ways x y has in
    let has_yz : HasDart ls y z = subst (HasDart ls y) e (HasDart-follows ls y x has_yx) in
    let itself : SameFace ls (x, y) (x, y) = same_class-from (face_classes ls) (dart_number ls (x, y)) (dart_number ls (x, y)) refl in
    let one : SameFace ls (x, y) (y, z) = subst (λ w. SameFace ls (x, y) (y, w)) e (same_face-step ls s (x, y) (x, y) has itself) in
    same_face-step ls s (x, y) (y, z) has_yz one

-- Let f be a face of the lists, whose vertices are less than k, and let k be isolated.
module _ (lists : Lists) (k : ℕ) (f : Face) (simple : IsSimpleMap lists) (face : IsFaceOf lists f) (in_k : k < length lists) (alone : list_of lists k ≡ []) where
  abbrev a : ℕ
  a = f.a

  abbrev b : ℕ
  b = f.b

  abbrev c : ℕ
  c = f.c

  has_ba : HasDart lists b a
  has_ba = simple.both_ways a b face.edge

  has_bc : HasDart lists b c
  has_bc = subst (HasDart lists b) face.after_b (HasDart-follows lists b a has_ba)

  has_cb : HasDart lists c b
  has_cb = simple.both_ways b c has_bc

  has_ca : HasDart lists c a
  has_ca = subst (HasDart lists c) face.after_c (HasDart-follows lists c b has_cb)

  has_ac : HasDart lists a c
  has_ac = simple.both_ways c a has_ca

  a_b : a ≢ b
  a_b e = simple.no_loop a b face.edge (sym e)

  b_c : b ≢ c
  b_c e = simple.no_loop b c has_bc (sym e)

  a_c : a ≢ c
  a_c e = simple.no_loop c a has_ca e

  -- k has no edge
  no_dart : (u : ℕ) → ¬ HasDart lists k u
  no_dart u h = none_in (list_of lists k) u alone h.1

  not_k : (v u : ℕ) → HasDart lists v u → v ≢ k
  not_k v u h e = no_dart u (subst (λ x. HasDart lists x u) e h)

  pub not_to_k : (v : ℕ) → ¬ HasDart lists v k
  not_to_k v h = no_dart v (simple.both_ways v k h)

  a_k : a ≢ k
  a_k = not_k a b face.edge

  pub b_k : b ≢ k
  b_k = not_k b a has_ba

  pub c_k : c ≢ k
  c_k = not_k c a has_ca

  abbrev at_a : ℕ
  at_a = place_of c (list_of lists a) + 1

  within_a : at_a ≤ length (list_of lists a)
  within_a = let l = place_of-lt-length c (list_of lists a) has_ac.1 in omega arith

  -- the edge from a
  abbrev pub first : Lists
  first = with_edge_at lists a at_a k 0

  zero_within : 0 ≤ length (list_of lists k)
  zero_within = omega arith

  more1 : IsEdgeMore lists first a at_a k 0
  more1 = edge_more lists a at_a k 0 simple has_ac.0 in_k a_k (not_to_k a) within_a zero_within

  simple1 : IsSimpleMap first
  simple1 = more1.simple

  length1 : length first ≡ length lists
  length1 = length-new lists a at_a k 0 simple has_ac.0 in_k a_k (not_to_k a) within_a zero_within

  first_a : list_of first a ≡ with_behind (list_of lists a) c k
  first_a = new_first lists a at_a k 0 simple has_ac.0 in_k a_k (not_to_k a) within_a zero_within

  first_k : list_of first k ≡ a ∷ []
  first_k = new_second lists a at_a k 0 simple has_ac.0 in_k a_k (not_to_k a) within_a zero_within ∙ ap (λ us. insert us 0 a) alone

  first_other : (w : ℕ) → w ≢ a → w ≢ k → list_of first w ≡ list_of lists w
  first_other = new_elsewhere lists a at_a k 0 simple has_ac.0 in_k a_k (not_to_k a) within_a zero_within

  first_c : list_of first c ≡ list_of lists c
  first_c = first_other c (λ e. a_c (sym e)) c_k

  has_cb1 : HasDart first c b
  has_cb1 = more1.kept c b has_cb

  has_ka1 : HasDart first k a
  has_ka1 = simple1.both_ways a k more1.edge

  -- c is not adjacent to k yet
  pub far2 : ¬ HasDart first c k
  far2 h = a_c (one_in a c (subst (λ l. Contains l c) first_k (simple1.both_ways c k h).1))

  abbrev at_c : ℕ
  at_c = place_of b (list_of first c) + 1

  within_c : at_c ≤ length (list_of first c)
  within_c = let l = place_of-lt-length b (list_of first c) has_cb1.1 in omega arith

  abbrev at_k : ℕ
  at_k = place_of a (list_of first k) + 1

  within_k : at_k ≤ length (list_of first k)
  within_k = let l = place_of-lt-length a (list_of first k) has_ka1.1 in omega arith

  -- and the edge from c
  abbrev pub second : Lists
  second = with_edge_after first c b k a

  more2 : IsEdgeMore first second c at_c k at_k
  more2 = edge_more first c at_c k at_k simple1 has_cb1.0 has_ka1.0 c_k far2 within_c within_k

  simple2 : IsSimpleMap second
  simple2 = more2.simple

  length2 : length second ≡ length first
  length2 = length-new first c at_c k at_k simple1 has_cb1.0 has_ka1.0 c_k far2 within_c within_k

  second_c : list_of second c ≡ with_behind (list_of lists c) b k
  second_c = new_first first c at_c k at_k simple1 has_cb1.0 has_ka1.0 c_k far2 within_c within_k ∙ ap (λ us. with_behind us b k) first_c

  second_k : list_of second k ≡ a ∷ c ∷ []
  second_k = new_second first c at_c k at_k simple1 has_cb1.0 has_ka1.0 c_k far2 within_c within_k ∙ (ap (λ us. with_behind us a c) first_k ∙ behind_one a c)

  second_other : (w : ℕ) → w ≢ c → w ≢ k → list_of second w ≡ list_of first w
  second_other = new_elsewhere first c at_c k at_k simple1 has_cb1.0 has_ka1.0 c_k far2 within_c within_k

  second_a : list_of second a ≡ with_behind (list_of lists a) c k
  second_a = second_other a a_c a_k ∙ first_a

  second_b : list_of second b ≡ list_of lists b
  second_b = second_other b b_c b_k ∙ first_other b (λ e. a_b (sym e)) b_k

  has_ba2 : HasDart second b a
  has_ba2 = more2.kept b a (more1.kept b a has_ba)

  has_kc2 : HasDart second k c
  has_kc2 = simple2.both_ways c k more2.edge

  -- b is not adjacent to k yet
  pub far3 : ¬ HasDart second b k
  far3 h =
      elim (two_in a c b (subst (λ l. Contains l b) second_k (simple2.both_ways b k h).1)) [ inl e ↦ a_b e | inr e ↦ b_c (sym e) ]

  abbrev at_b : ℕ
  at_b = place_of a (list_of second b) + 1

  within_b : at_b ≤ length (list_of second b)
  within_b = let l = place_of-lt-length a (list_of second b) has_ba2.1 in omega arith

  abbrev at_k' : ℕ
  at_k' = place_of c (list_of second k) + 1

  within_k' : at_k' ≤ length (list_of second k)
  within_k' = let l = place_of-lt-length c (list_of second k) has_kc2.1 in omega arith

  -- and the edge from b
  abbrev pub third : Lists
  third = with_edge_after second b a k c

  more3 : IsEdgeMore second third b at_b k at_k'
  more3 = edge_more second b at_b k at_k' simple2 has_ba2.0 has_kc2.0 b_k far3 within_b within_k'

  length3 : length third ≡ length second
  length3 = length-new second b at_b k at_k' simple2 has_ba2.0 has_kc2.0 b_k far3 within_b within_k'

  third_b : list_of third b ≡ with_behind (list_of lists b) a k
  third_b = new_first second b at_b k at_k' simple2 has_ba2.0 has_kc2.0 b_k far3 within_b within_k' ∙ ap (λ us. with_behind us a k) second_b

  third_k : list_of third k ≡ a ∷ c ∷ b ∷ []
  third_k = new_second second b at_b k at_k' simple2 has_ba2.0 has_kc2.0 b_k far3 within_b within_k' ∙ (ap (λ us. with_behind us c b) second_k ∙ behind_two a c b a_c)

  third_other : (w : ℕ) → w ≢ b → w ≢ k → list_of third w ≡ list_of second w
  third_other = new_elsewhere second b at_b k at_k' simple2 has_ba2.0 has_kc2.0 b_k far3 within_b within_k'

  third_a : list_of third a ≡ with_behind (list_of lists a) c k
  third_a = third_other a a_b a_k ∙ second_a

  third_c : list_of third c ≡ with_behind (list_of lists c) b k
  third_c = third_other c (λ e. b_c (sym e)) c_k ∙ second_c

  third_rest : (w : ℕ) → w ≢ a → w ≢ b → w ≢ c → w ≢ k → list_of third w ≡ list_of lists w
  third_rest w na nb nc nk = third_other w nb nk ∙ (second_other w nc nk ∙ first_other w na nk)

  pub length-third : length third ≡ length lists
  length-third = length3 ∙ (length2 ∙ length1)

  -- three edges are the vertex
  pub third_is : third ≡ with_vertex lists k f
  third_is =
      let us = with_behind (list_of lists a) c k in
      let vs = with_behind (list_of lists b) a k in
      let ws = with_behind (list_of lists c) b k in
      let one = set lists a us in
      let two = set one b vs in
      let three = set two c ws in
      let n1 = length-set lists a us in
      let n2 = length-set one b vs in
      let n3 = length-set two c ws in
      let n4 = length-set three k (a ∷ c ∷ b ∷ []) in
      let n = length-third in
      let in_a : a < length lists = has_ac.0 in
      let in_b : b < length one = let l = has_ba.0 in omega arith in
      let in_c : c < length two = let l = has_ca.0 in omega arith in
      let in_k' : k < length three = omega arith in
      ext_get_or [] third (with_vertex lists k f) (omega arith) (λ w l.
      elim (cases_eq w k) [
        | inl e ↦ rw e (third_k ∙ sym (get_or-set_same three k (a ∷ c ∷ b ∷ []) [] in_k'))
        | inr nk ↦
            sym (get_or-set_other three k w (a ∷ c ∷ b ∷ []) [] nk ∙ elim (cases_eq w c) [
              | inl e ↦ rw e (get_or-set_same two c ws [] in_c ∙ sym third_c)
              | inr nc ↦ get_or-set_other two c w ws [] nc ∙ elim (cases_eq w b) [
                | inl e ↦ rw e (get_or-set_same one b vs [] in_b ∙ sym third_b)
                | inr nb ↦ get_or-set_other one b w vs [] nb ∙ elim (cases_eq w a) [
                  | inl e ↦ rw e (get_or-set_same lists a us [] in_a ∙ sym third_a)
                  | inr na ↦ get_or-set_other lists a w us [] na ∙ sym (third_rest w na nb nc nk)
                ]
              ]
            ])
      ])

  -- ---- what the three edges leave

  pub edges-third : edge_count third ≡ edge_count lists + 3
  edges-third =
      let one = edge_count-edge lists a at_a k 0 simple has_ac.0 in_k a_k (not_to_k a) within_a zero_within in
      let two = edge_count-edge first c at_c k at_k simple1 has_cb1.0 has_ka1.0 c_k far2 within_c within_k in
      let three = edge_count-edge second b at_b k at_k' simple2 has_ba2.0 has_kc2.0 b_k far3 within_b within_k' in
      omega arith

  pub simple-third : IsSimpleMap third
  simple-third = more3.simple

  kept : (w z : ℕ) → HasDart lists w z → HasDart third w z
  kept w z h = more3.kept w z (more2.kept w z (more1.kept w z h))

  -- what follows what at the face's vertices
  in_a : (z : ℕ) → HasDart lists a z → z ≢ c → follows third a z ≡ follows lists a z
  in_a z h ne = ap (entry_after z) third_a ∙ after_other (list_of lists a) c k z (simple.no_repeat a h.0) (λ h. not_to_k a (has_ac.0, h)) has_ac.1 h.1 ne

  in_b : (z : ℕ) → HasDart lists b z → z ≢ a → follows third b z ≡ follows lists b z
  in_b z h ne = ap (entry_after z) third_b ∙ after_other (list_of lists b) a k z (simple.no_repeat b h.0) (λ h. not_to_k b (has_ba.0, h)) has_ba.1 h.1 ne

  in_c : (z : ℕ) → HasDart lists c z → z ≢ b → follows third c z ≡ follows lists c z
  in_c z h ne = ap (entry_after z) third_c ∙ after_other (list_of lists c) b k z (simple.no_repeat c h.0) (λ h. not_to_k c (has_cb.0, h)) has_cb.1 h.1 ne

  -- and elsewhere
  as_before : (w z : ℕ) → HasDart lists w z → (w ≡ a → z ≢ c) → (w ≡ b → z ≢ a) → (w ≡ c → z ≢ b) → follows third w z ≡ follows lists w z
  as_before w z h at_a' at_b' at_c' =
      elim (cases_eq w a) [
        | inl e ↦ rw e (in_a z (subst (λ x. HasDart lists x z) e h) (at_a' e))
        | inr na ↦ elim (cases_eq w b) [
          | inl e ↦ rw e (in_b z (subst (λ x. HasDart lists x z) e h) (at_b' e))
          | inr nb ↦ elim (cases_eq w c) [
            | inl e ↦ rw e (in_c z (subst (λ x. HasDart lists x z) e h) (at_c' e))
            | inr nc ↦ ap (entry_after z) (third_rest w na nb nc (not_k w z h))
          ]
        ]
      ]

  k_behind : (us : List ℕ) (u : ℕ) → Contains us u → entry_after u (with_behind us u k) ≡ k
  k_behind us u has = entry_after-put us u k has

  behind_k : (us : List ℕ) (u : ℕ) → Contains us u → ¬ Contains us k → entry_after k (with_behind us u k) ≡ entry_after u us
  behind_k us u has new = let l = place_of-lt-length u us has in entry_after-insert us (place_of u us + 1) k new (omega arith) ∙ entry_at-after us u k has

  turn_a : follows third a c ≡ k
  turn_a = ap (entry_after c) third_a ∙ k_behind (list_of lists a) c has_ac.1

  next_a : follows third a k ≡ b
  next_a = ap (entry_after k) third_a ∙ (behind_k (list_of lists a) c has_ac.1 (λ h. not_to_k a (has_ac.0, h)) ∙ face.after_a)

  turn_b : follows third b a ≡ k
  turn_b = ap (entry_after a) third_b ∙ k_behind (list_of lists b) a has_ba.1

  next_b : follows third b k ≡ c
  next_b = ap (entry_after k) third_b ∙ (behind_k (list_of lists b) a has_ba.1 (λ h. not_to_k b (has_ba.0, h)) ∙ face.after_b)

  turn_c : follows third c b ≡ k
  turn_c = ap (entry_after b) third_c ∙ k_behind (list_of lists c) b has_cb.1

  next_c : follows third c k ≡ a
  next_c = ap (entry_after k) third_c ∙ (behind_k (list_of lists c) b has_cb.1 (λ h. not_to_k c (has_cb.0, h)) ∙ face.after_c)

  -- the face is split into three
  pub face_ab : IsFaceOf third (record { a = f.a; b = f.b; c = k })
  face_ab = record {
    edge = kept a b face.edge;
    after_b = turn_b;
    after_c = ap (entry_after b) third_k ∙ after_third_of_three a c b a_b (λ e. b_c (sym e));
    after_a = next_a;
  }

  pub face_bc : IsFaceOf third (record { a = f.b; b = f.c; c = k })
  face_bc = record {
    edge = kept b c has_bc;
    after_b = turn_c;
    after_c = ap (entry_after c) third_k ∙ after_second_of_three a c b a_c;
    after_a = next_b;
  }

  pub face_ca : IsFaceOf third (record { a = f.c; b = f.a; c = k })
  face_ca = record {
    edge = kept c a has_ca;
    after_b = turn_a;
    after_c = ap (entry_after a) third_k ∙ after_first_of_three a c b;
    after_a = next_c;
  }

  -- a face stays that has no dart of this one
  pub face-third : (g : Face) → IsFaceOf lists g → ((x y : ℕ) → IsOn g x y → ¬ IsOn f x y) → IsFaceOf third g
  face-third g h apart =
      let has_gba = simple.both_ways g.a g.b h.edge in
      let has_gbc : HasDart lists g.b g.c = subst (HasDart lists g.b) h.after_b (HasDart-follows lists g.b g.a has_gba) in
      let has_gcb = simple.both_ways g.b g.c has_gbc in
      let has_gca : HasDart lists g.c g.a = subst (HasDart lists g.c) h.after_c (HasDart-follows lists g.c g.b has_gcb) in
      let has_gac = simple.both_ways g.c g.a has_gca in
      let stays : (x y : ℕ) → IsOn g y x → HasDart lists x y → follows third x y ≡ follows lists x y = λ x y on has.
      as_before x y has
      (λ e q. apart y x on (inr (inr (q, e))))
      (λ e q. apart y x on (inl (q, e)))
      (λ e q. apart y x on (inr (inl (q, e)))) in
      record {
        edge = kept g.a g.b h.edge;
        after_b = stays g.b g.a (inl (refl, refl)) has_gba ∙ h.after_b;
        after_c = stays g.c g.b (inr (inl (refl, refl))) has_gcb ∙ h.after_c;
        after_a = stays g.a g.c (inr (inr (refl, refl))) has_gac ∙ h.after_a;
      }

  -- an isolated vertex stays isolated
  pub isolated-third : (w : ℕ) → w ≢ k → list_of lists w ≡ [] → list_of third w ≡ []
  isolated-third w nk none =
      let other : (v u : ℕ) → HasDart lists v u → w ≢ v = λ v u h e. none_in (list_of lists v) u (ap (list_of lists) (sym e) ∙ none) h.1 in
      third_rest w (other a b face.edge) (other b a has_ba) (other c b has_cb) nk ∙ none

  -- genus zero stays
  pub plane-third : IsPlane lists → a < k → IsPlane third
  plane-third plane below =
      let plane1 = (edge_put_between lists a at_a k 0 simple plane has_ac.0 in_k (isolated_apart lists simple a k below in_k alone) within_a zero_within).1.plane in
      let c_to_a : follows first c b ≡ a = ap (entry_after b) first_c ∙ face.after_c in
      let turn : follows first a c ≡ k = ap (entry_after c) first_a ∙ k_behind (list_of lists a) c has_ac.1 in
      let face2 : SameFace first (c, follows first c b) (k, follows first k a) =
      subst (λ z. SameFace first (c, z) (k, follows first k a)) (sym c_to_a) (two_on first simple1 c a k (more1.kept c a has_ca) turn) in
      let plane2 = (edge_put_in_face first c b k a simple1 plane1 has_cb1 has_ka1 c_k far2 face2).1.plane in
      let b_to_c : follows second b a ≡ c = ap (entry_after a) second_b ∙ face.after_b in
      let turn' : follows second c b ≡ k = ap (entry_after b) second_c ∙ k_behind (list_of lists c) b has_cb.1 in
      let face3 : SameFace second (b, follows second b a) (k, follows second k c) =
      subst (λ z. SameFace second (b, z) (k, follows second k c)) (sym b_to_c) (two_on second simple2 b c k (more2.kept b c (more1.kept b c has_bc)) turn') in
      (edge_put_in_face second b a k c simple2 plane2 has_ba2 has_kc2 b_k far3 face3).1.plane
