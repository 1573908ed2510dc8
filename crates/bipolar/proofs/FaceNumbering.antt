-- Faces numbered by walks over the numbers of darts.
use Rattle.std.proofs.Common.{◌≡◌, ◌≢◌, ◌⊎◌, ◌||◌, ℕ, ◌+◌, ◌<◌, ◌≤◌, Bool, true, false, cond, eqb, List, [], ◌∷◌, ◌++◌, length, map, get_or, set, take, drop, ◌-◌, slice_get, Contains, Some, refl, sym, ap, ap₂, ◌∙◌, subst, inl, inr, arith, get_or-set_other}
use Rattle.std.proofs.lemmas.Bool.{cases_Bool, cases_eq, cases_lt, false≢true, lt-ltb}
use Rattle.std.proofs.lemmas.Bool.Decides.{nat_tests}
use Rattle.std.proofs.lemmas.Option.{slice_get_within, get_or_from_slice_get}
use Rattle.std.proofs.lemmas.List.{append_assoc, append-nil, length-append, get_or-map, get_or_append_left, get_or_push, drop-map, take-map}
use Rattle.std.proofs.lemmas.List.Elements.{All-append, All-contains_itself, Contains-append_left, Contains-push, Contains-push_cases}
use Rattle.classes.specs.Classes.{image, label, same_class}
use Rattle.classes.proofs.Classes.{Together, Together-from, same_class-from, IsLabels}
use Rattle.classes.proofs.Orbits.{length-orbits, IsLabels-orbits}
use Rattle.classes.proofs.Marks.{SetsMark, IsCounting-none, IsCounting-new, IsCounting-old, IsCounting-all, IsCounting-le, IsCounting-together}
use Rattle.map_lists.specs.Lists.{Lists}
use Rattle.map_lists.specs.Cuts.{cut}
use Rattle.map_lists.proofs.CutLemmas.{length-cut, pushed, IsStored-cuts, IsStored-cut}
use Rattle.map_theory.specs.Maps.{Dart, HasDart, list_of, darts, dart_count, dart_number, place_of, twin_dart, face_images, face_classes}
use Rattle.map_theory.proofs.DartLemmas.{length-darts, length-face_images, IsDartNumber-darts, get_or-face_images, place_after, place_of-entry_after, place_of-lt-length, place_of_number, dart_number-lt, get_or-dart_number, IsPermutationOfBelow-face_images}
use Rattle.map_theory.proofs.DartCounts.{few_darts-simple}
use Rattle.map_theory.proofs.EntryLemmas.{Contains-from_map, Contains-map}
use Rattle.simple_maps.proofs.FlatLemmas.{start-is, end-is, count-is, dart-is}
use Rattle.euler_faces.specs.Numbers.{mark_at}
use Rattle.euler_faces.specs.Search.{IsNumberedBy}
use Rattle.euler_faces.specs.FaceSearch.{no_face, with_face}
use Rattle.euler_faces.proofs.SearchLemmas.{marks-set, length-marks_of, set-here}
use Rattle.graph_search.specs.Arcs.{arcs_of}
use Rattle.bipolar.specs.FaceNumbers.{AreDarts, dart_of, GoesUp, IsPutUp, IsNew, ArePutTwins, AreNumberedBelow, AreFaceNumbers, AreFaceArcs}

-- the pieces of images are the images of the pieces
cut-map : (g : ℕ → ℕ) (from : ℕ) (ends xs : List ℕ) → cut from ends (map g xs) ≡ map (map g) (cut from ends xs)
cut-map g from [] xs = refl
cut-map g from (e ∷ ends) xs = ap₂ (λ (a : List ℕ) (b : List (List ℕ)). a ∷ b) (ap (take (e - from)) (drop-map g from xs) ∙ take-map g (e - from) (drop from xs)) (cut-map g e ends xs)

row-map : (g : ℕ → ℕ) (ends xs : List ℕ) (f : ℕ) → f < length ends → arcs_of (cut 0 ends (map g xs)) f ≡ map g (arcs_of (cut 0 ends xs) f)
row-map g ends xs f l = ap (λ (z : List (List ℕ)). arcs_of z f) (cut-map g 0 ends xs) ∙ get_or-map (map g) (cut 0 ends xs) f [] [] (omega (arith, l, length-cut 0 ends xs))

-- a number written at a place marks just that place
pub SetsMark-numbered : (of : List ℕ) (k d f : ℕ) → d < length of → f < no_face → SetsMark k (mark_at (with_face of)) (mark_at (with_face (set of d f))) d
SetsMark-numbered of k d f l few =
    rw (marks-set no_face of d f few) record {
      here = set-here (with_face of) d (omega (arith, l, length-marks_of no_face of));
      elsewhere = λ i m ne. get_or-set_other (with_face of) d i true false ne;
    }

-- no dart has got a number yet
pub IsNumbered-none : (of : List ℕ) (f : ℕ) → IsNumberedBy no_face of of f
IsNumbered-none of f = record { marked = λ u t. t; stays = λ u t. refl; here = λ u off on. absurd (false≢true (sym off ∙ on)) }

-- the k-th of n numbers from s on, and the one after it, cyclically
after-place : (s n k e : ℕ) → k < n → s + n ≡ e → cond (eqb (s + k + 1) e) s (s + k + 1) ≡ s + place_after n k
after-place s n k e l m = grind (arith, nat_tests)

module _ (entries ends twins : List ℕ) (t : AreDarts entries ends twins) where
  abbrev lists : Lists
  lists = cut 0 ends entries

  pub all_darts : dart_count lists ≡ length entries
  all_darts = count-is ends entries t.cuts

  pub few_entries : length entries < 16777216
  few_entries =
      omega (arith, few_darts-simple lists (omega (arith, t.few, length-cut 0 ends entries)) t.simple, all_darts)

  -- a dart leads to its entry
  pub dart_head : (d : ℕ) → d < length entries → (dart_of lists d).1 ≡ get_or entries d 0
  dart_head d l =
      let p = place_of_number lists d (omega (arith, all_darts, l)) in
      let v_in : p.0 < length ends = omega (arith, p.2.list_in, length-cut 0 ends entries) in
      let number : d ≡ get_or (0 ∷ ends) p.0 0 + p.1 = p.2.number ∙ ap (λ s. s + p.1) (start-is ends entries t.cuts p.0 (omega (arith, v_in))) in
      ap (λ x. (dart_of lists x).1) number
      ∙ (ap (λ (x : Dart). x.1) (dart-is ends entries t.cuts p.0 p.1 v_in p.2.entry_in) ∙ ap (λ y. get_or entries y 0) (sym number))

  pub has_dart : (d : ℕ) → d < length entries → HasDart lists (dart_of lists d).0 (dart_of lists d).1
  has_dart d l = (IsDartNumber-darts lists d (0, 0) t.simple.no_repeat (omega (arith, all_darts, l))).is_dart

  pub number_is : (d : ℕ) → d < length entries → dart_number lists (dart_of lists d) ≡ d
  number_is d l = (IsDartNumber-darts lists d (0, 0) t.simple.no_repeat (omega (arith, all_darts, l))).number

  found : (d : ℕ) → d < length entries → slice_get (darts lists) (get_or twins d 0) ≡ Some (twin_dart (dart_of lists d))
  found d l = t.are_twins.at d (omega (arith, l, length-darts lists, all_darts))

  pub twin_in : (d : ℕ) → d < length entries → get_or twins d 0 < length entries
  twin_in d l = omega (arith, slice_get_within (darts lists) (get_or twins d 0) (twin_dart (dart_of lists d)) (found d l), length-darts lists, all_darts)

  pub twin_is : (d : ℕ) → d < length entries → dart_of lists (get_or twins d 0) ≡ twin_dart (dart_of lists d)
  twin_is d l = get_or_from_slice_get (darts lists) (get_or twins d 0) (twin_dart (dart_of lists d)) (0, 0) (found d l)

  pub twin_number : (d : ℕ) → d < length entries → dart_number lists (twin_dart (dart_of lists d)) ≡ get_or twins d 0
  twin_number d l = ap (λ (x : Dart). dart_number lists x) (sym (twin_is d l)) ∙ number_is (get_or twins d 0) (twin_in d l)

  -- the twin leads to the tail
  pub tail_is : (d : ℕ) → d < length entries → get_or entries (get_or twins d 0) 0 ≡ (dart_of lists d).0
  tail_is d l = sym (dart_head (get_or twins d 0) (twin_in d l)) ∙ ap (λ (x : Dart). x.1) (twin_is d l)

  pub tail_in : (d : ℕ) → d < length entries → get_or entries (get_or twins d 0) 0 < length ends
  tail_in d l = omega (arith, tail_is d l, (has_dart d l).0, length-cut 0 ends entries)

  pub head_in : (d : ℕ) → d < length entries → get_or entries d 0 < length ends
  head_in d l = omega (arith, dart_head d l, t.simple.in_range (dart_of lists d).0 (dart_of lists d).1 (has_dart d l), length-cut 0 ends entries)

  -- the dart after the twin, in its list, is the next along the face
  pub step_is : (d : ℕ) → d < length entries → cond (eqb (get_or twins d 0 + 1) (get_or ends (get_or entries d 0) 0)) (get_or (0 ∷ ends) (get_or entries d 0) 0) (get_or twins d 0 + 1) ≡ image (face_images lists) d
  step_is d l =
      let r = get_or twins d 0 in
      let dart : Dart = dart_of lists d in
      let u = dart.1 in
      let v = dart.0 in
      let twin : dart_of lists r ≡ (u, v) = twin_is d l in
      let has : HasDart lists u v = subst (λ (x : Dart). HasDart lists x.0 x.1) twin (has_dart r (twin_in d l)) in
      let number : dart_number lists (u, v) ≡ r = ap (λ (x : Dart). dart_number lists x) (sym twin) ∙ number_is r (twin_in d l) in
      let us = list_of lists u in
      let k = place_of v us in
      let k_in = place_of-lt-length v us has.1 in
      let u_in : u < length ends = omega (arith, has.0, length-cut 0 ends entries) in
      let s = get_or (0 ∷ ends) u 0 in
      let at : r ≡ s + k = sym number ∙ ap (λ x. x + k) (start-is ends entries t.cuts u (omega (arith, u_in))) in
      let next : cond (eqb (s + k + 1) (get_or ends u 0)) s (s + k + 1) ≡ s + place_after (length us) k = after-place s (length us) k (get_or ends u 0) k_in (end-is ends entries t.cuts u u_in) in
      let along : s + place_after (length us) k ≡ image (face_images lists) d =
      ap₂ (λ x y. x + y) (sym (start-is ends entries t.cuts u (omega (arith, u_in)))) (sym (place_of-entry_after v us (t.simple.no_repeat u has.0) has.1))
      ∙ sym (get_or-face_images lists d d (0, 0) (omega (arith, l, all_darts))) in
      subst (λ x. cond (eqb (r + 1) (get_or ends x 0)) (get_or (0 ∷ ends) x 0) (r + 1) ≡ image (face_images lists) d) (dart_head d l)
      (ap (λ x. cond (eqb (x + 1) (get_or ends u 0)) s (x + 1)) at ∙ (next ∙ along))

  module _ (rank : List ℕ) where
    -- no dart has got a face yet
    pub ArePutTwins-none : (before old : List ℕ) → ArePutTwins lists rank twins before before old old
    ArePutTwins-none before old = grind (arith, append-nil, false≢true)

    -- one dart more has got one
    pub ArePutTwins-more : (before after after' old new new' : List ℕ) (d f : ℕ) → IsNumberedBy no_face before after f → ArePutTwins lists rank twins before after old new → d < length entries → length after ≡ length entries → mark_at (with_face after) d ≡ false → f < no_face → after' ≡ set after d f → IsPutUp rank (get_or entries (get_or twins d 0) 0) (get_or entries d 0) (get_or twins d 0) new new' → ArePutTwins lists rank twins before after' old new'
    ArePutTwins-more before after after' old new new' d f numbered w l long off few is put =
        let sets = SetsMark-numbered after (length entries) d f (omega (arith, l, long)) few in
        let was : mark_at (with_face before) d ≡ false = elim (cases_Bool (mark_at (with_face before) d)) [ inl on ↦ absurd (false≢true (sym off ∙ numbered.marked d on)) | inr e ↦ e ] in
        let here : mark_at (with_face after') d ≡ true = rw is sets.here in
        let other : (i : ℕ) → i < length entries → i ≢ d → mark_at (with_face after') i ≡ mark_at (with_face after) i = λ i m ne. rw is (sets.elsewhere i m ne) in
        let keeps : (i : ℕ) → i < length entries → IsNew before after i → IsNew before after' i = λ i m n.
        (n.0, other i m (λ e. false≢true (sym off ∙ (ap (mark_at (with_face after)) (sym e) ∙ n.1))) ∙ n.1) in
        let back : (i : ℕ) → i < length entries → i ≢ d → IsNew before after' i → IsNew before after i = λ i m ne n. (n.0, sym (other i m ne) ∙ n.1) in
        let tail = tail_is d l in
        let head = dart_head d l in
        let all = all_darts in
        elim (cases_lt (get_or rank (dart_of lists d).0 0) (get_or rank (dart_of lists d).1 0)) [
          | inl up ↦
              let more = put.up (omega (arith, up, ap (λ z. get_or rank z 0) tail, ap (λ z. get_or rank z 0) head)) in
              record {
                row = w.row ++ get_or twins d 0 ∷ [];
                grown = more ∙ (ap (λ z. z ++ get_or twins d 0 ∷ []) w.grown ∙ append_assoc old w.row (get_or twins d 0 ∷ []));
                from = λ x c. elim (Contains-push_cases w.row (get_or twins d 0) x c) [
                  | inl c' ↦ (let h = w.from x c' in (h.0, h.1, keeps h.0 (omega (arith, h.1, all)) h.2, h.3, h.4))
                  | inr e ↦ (d, omega (arith, l, all), (was, here), up, e)
                ];
                to = λ i m n g. elim (cases_eq i d) [
                  | inl e ↦ subst (λ z. Contains (w.row ++ get_or twins d 0 ∷ []) (get_or twins z 0)) (sym e) (Contains-push w.row (get_or twins d 0))
                  | inr ne ↦ Contains-append_left w.row (get_or twins d 0 ∷ []) (get_or twins i 0) (w.to i m (back i (omega (arith, m, all)) ne n) g)
                ];
              }
          | inr down ↦
              record {
                row = w.row;
                grown = (put.down (omega (arith, down, ap (λ z. get_or rank z 0) tail, ap (λ z. get_or rank z 0) head))) ∙ w.grown;
                from = λ x c. let h = w.from x c in (h.0, h.1, keeps h.0 (omega (arith, h.1, all)) h.2, h.3, h.4);
                to = λ i m n g. elim (cases_eq i d) [
                  | inl e ↦ absurd (omega (arith, down, g, ap (λ z. get_or rank (dart_of lists z).0 0) e, ap (λ z. get_or rank (dart_of lists z).1 0) e))
                  | inr ne ↦ w.to i m (back i (omega (arith, m, all)) ne n) g
                ];
              }
        ]

    pub AreNumberedBelow-none : (of arcs arc_ends : List ℕ) → length of ≡ length entries → ((i : ℕ) → mark_at (with_face of) i ≡ false) → arcs ≡ [] → arc_ends ≡ [] → AreNumberedBelow lists rank twins of arcs arc_ends 0
    AreNumberedBelow-none of arcs arc_ends size off a e =
        let none : length arc_ends ≡ 0 = ap (λ (xs : List ℕ). length xs) e in
        record {
          size = omega (arith, size, all_darts);
          counting = rw none (IsCounting-none (face_classes lists) (mark_at (with_face of)) (λ i l. off i));
          below = λ i l on. absurd (false≢true (sym (off i) ∙ on));
          one = λ i j l m on. absurd (false≢true (sym (off i) ∙ on));
          alike = λ i j l m on. absurd (false≢true (sym (off i) ∙ on));
          some = λ f l. absurd (omega (arith, l, none));
          within = λ k x l. absurd (omega (arith, l, ap (λ (xs : List ℕ). length xs) a));
          cuts = rw (e, a) refl;
          rows = λ f l. absurd (omega (arith, l, none));
        }

    labels_long : length (face_classes lists) ≡ length entries
    labels_long = length-orbits (face_images lists) ∙ (length-face_images lists ∙ all_darts)

    labels : IsLabels (face_classes lists)
    labels = IsLabels-orbits (face_images lists) (IsPermutationOfBelow-face_images lists t.simple).within

    module _ (of arcs arc_ends : List ℕ) (d : ℕ) (w : AreNumberedBelow lists rank twins of arcs arc_ends d) (l : d < length entries) where
      pub few_faces : length arc_ends ≤ d
      few_faces = IsCounting-le (face_classes lists) (mark_at (with_face of)) (length arc_ends) d w.counting

      -- the dart has a face already
      pub AreNumberedBelow-old : mark_at (with_face of) d ≡ true → AreNumberedBelow lists rank twins of arcs arc_ends (d + 1)
      AreNumberedBelow-old on = record {
        size = w.size;
        counting = IsCounting-old (face_classes lists) (mark_at (with_face of)) (length arc_ends) d _ labels w.counting (omega (arith, l, labels_long)) on refl;
        below = w.below;
        one = w.one;
        alike = w.alike;
        some = w.some;
        within = w.within;
        cuts = w.cuts;
        rows = w.rows;
      }

      -- its face gets the next number
      pub AreNumberedBelow-new : (of' arcs' arc_ends' : List ℕ) (end : ℕ) → mark_at (with_face of) d ≡ false → length of' ≡ length of → ((i : ℕ) → i < length entries → mark_at (with_face of') i ≡ (mark_at (with_face of) i || same_class (face_classes lists) d i)) → IsNumberedBy no_face of of' (length arc_ends) → ArePutTwins lists rank twins of of' arcs arcs' → arc_ends' ≡ arc_ends ++ end ∷ [] → end ≡ length arcs' → AreNumberedBelow lists rank twins of' arcs' arc_ends' (d + 1)
      AreNumberedBelow-new of' arcs' arc_ends' end off same marks numbered put added total =
          let all = all_darts in
          let count : length arc_ends' ≡ length arc_ends + 1 = ap (λ (xs : List ℕ). length xs) added ∙ length-append arc_ends (end ∷ []) in
          let stored = pushed arc_ends arc_ends' arcs arcs' put.row w.cuts put.grown added total in
          let now : cut 0 arc_ends' arcs' ≡ cut 0 arc_ends arcs ++ put.row ∷ [] = IsStored-cut _ _ _ stored in
          let old_long : length (cut 0 arc_ends arcs) ≡ length arc_ends = length-cut 0 arc_ends arcs in
          -- a dart is marked now where it was, and has its number still, or it is of the face of d, and has the new one
          let split : (i : ℕ) → i < dart_count lists → mark_at (with_face of') i ≡ true → ((mark_at (with_face of) i ≡ true) × (get_or of' i 0 ≡ get_or of i 0)) ⊎ ((mark_at (with_face of) i ≡ false) × Together (face_classes lists) d i × (get_or of' i 0 ≡ length arc_ends)) =
          λ i m on. elim (cases_Bool (mark_at (with_face of) i)) [
            | inl was ↦ inl (was, numbered.stays i was)
            | inr new ↦ inr (new, Together-from (face_classes lists) d i (or_right (mark_at (with_face of) i) (same_class (face_classes lists) d i) new (sym (marks i (omega (arith, m, all))) ∙ on)), numbered.here i new on)
          ] in
          let parted : (i j : ℕ) → i < dart_count lists → j < dart_count lists → mark_at (with_face of) i ≡ true → mark_at (with_face of) j ≡ false → Together (face_classes lists) i j → ⊥ =
          λ i j m n on no same_face. false≢true (sym no ∙ (sym (IsCounting-together (face_classes lists) (mark_at (with_face of)) (length arc_ends) d w.counting i j (omega (arith, m, all, labels_long)) (omega (arith, n, all, labels_long)) same_face) ∙ on)) in
          record {
            size = same ∙ w.size;
            counting = rw count (IsCounting-new (face_classes lists) (mark_at (with_face of)) (mark_at (with_face of')) (length arc_ends) d _ labels w.counting (omega (arith, l, labels_long)) off (λ y m. marks y (omega (arith, m, labels_long))) refl);
            below = λ i m on. elim (split i m on) [
              | inl s ↦ omega (arith, s.1, w.below i m s.0, count)
              | inr s ↦ omega (arith, s.2, count)
            ];
            one = λ i j m n on on' e. elim (split i m on) [
              | inl s ↦ elim (split j n on') [
                | inl s' ↦ w.one i j m n s.0 s'.0 (sym s.1 ∙ (e ∙ s'.1))
                | inr s' ↦ absurd (omega (arith, s.1, w.below i m s.0, e, s'.2))
              ]
              | inr s ↦ elim (split j n on') [
                | inl s' ↦ absurd (omega (arith, s'.1, w.below j n s'.0, e, s.2))
                | inr s' ↦ sym s.1 ∙ s'.1
              ]
            ];
            alike = λ i j m n on on' e. elim (split i m on) [
              | inl s ↦ elim (split j n on') [
                | inl s' ↦ s.1 ∙ (w.alike i j m n s.0 s'.0 e ∙ sym s'.1)
                | inr s' ↦ absurd (parted i j m n s.0 s'.0 e)
              ]
              | inr s ↦ elim (split j n on') [
                | inl s' ↦ absurd (parted j i n m s'.0 s.0 (sym e))
                | inr s' ↦ s.2 ∙ sym s'.2
              ]
            ];
            some = λ f m. elim (cases_lt f (length arc_ends)) [
              | inl less ↦ (let i = w.some f less in (i.0, i.1, numbered.marked i.0 i.2, numbered.stays i.0 i.2 ∙ i.3))
              | inr most ↦
                  let on : mark_at (with_face of') d ≡ true = marks d l ∙ (ap (λ b. b || same_class (face_classes lists) d d) off ∙ same_class-from (face_classes lists) d d refl) in
                  (d, omega (arith, l, all), on, numbered.here d off on ∙ omega (arith, m, most, count))
            ];
            within = rw put.grown (All-append (λ x. x < dart_count lists) arcs put.row w.within (λ k x m.
                let h = put.from (get_or put.row k x) (All-contains_itself put.row k x m) in
                omega (arith, twin_in h.0 (omega (arith, h.1, all)), h.4, all)));
            cuts = IsStored-cuts _ _ _ stored;
            rows = λ f m. elim (cases_lt f (length arc_ends)) [
              | inl less ↦
                  let r = w.rows f less in
                  let is : arcs_of (cut 0 arc_ends' arcs') f ≡ arcs_of (cut 0 arc_ends arcs) f = ap (λ (z : List (List ℕ)). arcs_of z f) now ∙ get_or_append_left (cut 0 arc_ends arcs) (put.row ∷ []) [] f (omega (arith, less, old_long)) in
                  rw is record {
                    from = λ x c. let h = r.from x c in (h.0, h.1, numbered.marked h.0 h.2, numbered.stays h.0 h.2 ∙ h.3, h.4, h.5);
                    to = λ i n on e g. elim (split i n on) [
                      | inl s ↦ r.to i n s.0 (sym s.1 ∙ e) g
                      | inr s ↦ absurd (omega (arith, s.2, e, less))
                    ];
                  }
              | inr most ↦
                  let e : f ≡ length arc_ends = omega (arith, most, m, count) in
                  let is : arcs_of (cut 0 arc_ends' arcs') f ≡ put.row = ap (λ (z : List (List ℕ)). arcs_of z f) now ∙ get_or_push (cut 0 arc_ends arcs) put.row [] f (old_long ∙ sym e) in
                  rw is record {
                    from = λ x c. let h = put.from x c in (h.0, h.1, h.2.1, numbered.here h.0 h.2.0 h.2.1 ∙ sym e, h.3, h.4);
                    to = λ i n on e' g. elim (split i n on) [
                      | inl s ↦ absurd (omega (arith, s.1, w.below i n s.0, e', e))
                      | inr s ↦ put.to i n (s.0, on) g
                    ];
                  }
            ];
          }
        where
          or_right : (a b : Bool) → a ≡ false → (a || b) ≡ true → b ≡ true
          or_right true b off' on = absurd (false≢true (sym off'))
          or_right false b off' on = on

    -- all darts have a face: the numbers are those of the faces, and each row leads to the faces of its twins
    module _ (of arcs arc_ends : List ℕ) (w : AreNumberedBelow lists rank twins of arcs arc_ends (length entries)) where
      all_met : (i : ℕ) → i < dart_count lists → mark_at (with_face of) i ≡ true
      all_met i l =
          let low = labels.low i in
          w.counting.known i (omega (arith, l, all_darts, labels_long)) ∙ lt-ltb (label (face_classes lists) i) (length entries) (omega (arith, l, all_darts, low))

      pub few_faces_all : length arc_ends < 16777216
      few_faces_all = omega (arith, IsCounting-le (face_classes lists) (mark_at (with_face of)) (length arc_ends) (length entries) w.counting, few_entries)

      pub AreFaceNumbers-all : AreFaceNumbers lists of (length arc_ends)
      AreFaceNumbers-all = record {
        size = w.size;
        all = IsCounting-all (face_classes lists) (mark_at (with_face of)) (length arc_ends) (length entries) w.counting (sym labels_long);
        below = λ i l. w.below i l (all_met i l);
        one = λ i j l m. w.one i j l m (all_met i l) (all_met j m);
        alike = λ i j l m. w.alike i j l m (all_met i l) (all_met j m);
        some = λ f l. let i = w.some f l in (i.0, i.1, i.3);
      }

      pub AreFaceArcs-all : (arcs' : List ℕ) → arcs' ≡ map (λ d. get_or of d 0) arcs → AreFaceArcs lists rank of (length arc_ends) (cut 0 arc_ends arcs')
      AreFaceArcs-all arcs' is =
          let row : (f : ℕ) → f < length arc_ends → arcs_of (cut 0 arc_ends arcs') f ≡ map (λ d. get_or of d 0) (arcs_of (cut 0 arc_ends arcs) f) = λ f m. ap (λ (xs : List ℕ). arcs_of (cut 0 arc_ends xs) f) is ∙ row-map (λ d. get_or of d 0) arc_ends arcs f m in
          let long = length-cut 0 arc_ends arcs' in
          record {
            count_is = long;
            from = λ e r has.
                let in_row : Contains (map (λ d. get_or of d 0) (arcs_of (cut 0 arc_ends arcs) e)) r = subst (λ (xs : List ℕ). Contains xs r) (row e (omega (arith, has.0, long))) has.1 in
                let x = Contains-from_map (λ d. get_or of d 0) (arcs_of (cut 0 arc_ends arcs) e) r in_row in
                let h = (w.rows e (omega (arith, has.0, long))).from x.0 x.1 in
                let i_in : h.0 < length entries = omega (arith, h.1, all_darts) in
                let dart : Dart = dart_of lists h.0 in
                let twin = twin_number h.0 i_in in (
                  dart.0,
                  dart.1,
                  (has_dart h.0 i_in, h.4),
                  ap (λ z. get_or of z 0) (number_is h.0 i_in) ∙ h.3,
                  ap (λ z. get_or of z 0) (twin ∙ h.5) ∙ x.2,
                );
            to = λ u v up.
                let i = dart_number lists (u, v) in
                let i_in : i < dart_count lists = dart_number-lt lists u v up.0 in
                let at : dart_of lists i ≡ (u, v) = get_or-dart_number lists u v (0, 0) up.0 in
                let l : i < length entries = omega (arith, i_in, all_darts) in
                let f = get_or of i 0 in
                let f_in = w.below i i_in (all_met i i_in) in
                let goes : GoesUp lists rank i = subst (λ (x : Dart). get_or rank x.0 0 < get_or rank x.1 0) (sym at) up.1 in
                let c = (w.rows f f_in).to i i_in (all_met i i_in) refl goes in
                let twin : dart_number lists (v, u) ≡ get_or twins i 0 = ap (λ (x : Dart). dart_number lists (twin_dart x)) (sym at) ∙ twin_number i l in
                let here : Contains (map (λ d. get_or of d 0) (arcs_of (cut 0 arc_ends arcs) f)) (get_or of (get_or twins i 0) 0) = Contains-map (λ d. get_or of d 0) (arcs_of (cut 0 arc_ends arcs) f) (get_or twins i 0) c in
                (omega (arith, f_in, long), subst (λ (xs : List ℕ). Contains xs (get_or of (dart_number lists (v, u)) 0)) (sym (row f f_in)) (subst (λ z. Contains (map (λ d. get_or of d 0) (arcs_of (cut 0 arc_ends arcs) f)) (get_or of z 0)) (sym twin) here));
          }
