-- A walk along a face, dart by dart, and the walks of the faces whose least dart has been met.
use Rattle.std.proofs.Common.{◌≡◌, ◌≢◌, ◌||◌, ℕ, zero, suc, ◌+◌, ◌-◌, ◌<◌, ◌≤◌, Bool, true, false, eqb, List, [], ◌∷◌, ◌++◌, length, get_or, set, get_or-set_same, get_or-set_other, option_map, refl, sym, ap, ◌∙◌, subst, inl, inr, arith}
use Rattle.std.specs.Prelude.{All, Contains}
use Rattle.std.proofs.lemmas.Bool.{cases_eq, cases_lt, eq-eqb, ne_eqb, or_cases, or_right, ltb-true, ltb-false, true≢false}
use Rattle.std.proofs.lemmas.List.{length_push, get_or_push, get_or_past, get_or_default, get_or_append_left, get_or-map, length-map}
use Rattle.std.proofs.lemmas.List.Elements.{Contains-get_or}
use Rattle.classes.specs.Classes.{image, label, orbits, same_class}
use Rattle.map_theory.specs.Maps.{dart_count, face_images, face_step, face_classes}
use Rattle.classes.proofs.Classes.{IsLabels, Together, same_class-from}
use Rattle.classes.proofs.Orbits.{length-orbits, IsLabels-orbits, IsPermuting-image, orbits-closed_marks}
use Rattle.map_theory.proofs.DartLemmas.{length-face_images, IsPermutationOfBelow-face_images}
use Rattle.classes.proofs.Marks.{KeepsMarks, SetsMark, IsCounting, IsCounting-none, IsCounting-new, IsCounting-old, IsCounting-le, KeepsMarks-counting}
use Rattle.classes.proofs.Walks.{walk, visited, visited_at, visited-walk, walk_apart, walk-together, visited_is_orbit}
use Rattle.half_edges.specs.Map.{Map, IsHalfMap, IsLive, dart_at, id_bound}
use Rattle.map_lists.specs.declared.ids.DartId.{DartId}
use Rattle.euler_faces.specs.Numbers.{number_at, id_of, mark_at, mark_of}
use Rattle.euler_faces.specs.Search.{IsNumberedBy}
use Rattle.euler_faces.specs.FaceWalks.{ids_of, walk_at, first_number, AreFaces}
use Rattle.euler_faces.specs.FaceSearch.{IsWholeWalk, AreWalksBelow, AreWalked, no_face, with_face}
use Rattle.euler_faces.proofs.NumberLemmas.{some_of, number_at-is, id_of-number, number_at-lt, face_step-number, live-lt, mark_of-number, few_darts}
use Rattle.euler_faces.proofs.SearchLemmas.{met as has_number}

-- ---- entries of a list, and what stands behind it
-- with one entry more, behind which y stands, the entries are as before
pub entry-more : (xs : List ℕ) (x y i : ℕ) → i ≤ length xs → get_or (xs ++ x ∷ []) i y ≡ get_or xs i x
entry-more [] x y zero l = refl
entry-more [] x y (suc i) l = absurd (omega arith)
entry-more (z ∷ zs) x y zero l = refl
entry-more (z ∷ zs) x y (suc i) l = entry-more zs x y i (omega arith)

-- and y stands behind them
pub entry-end : (xs : List ℕ) (x y i : ℕ) → i ≡ length xs + 1 → get_or (xs ++ x ∷ []) i y ≡ y
entry-end xs x y i e = get_or_past (xs ++ x ∷ []) i y (omega (arith, length_push xs x))

or_false : (b : Bool) → b ≡ (b || false)
or_false true = refl
or_false false = refl

or_first : (b c d : Bool) → c ≡ (b || d) → d ≡ true → c ≡ true
or_first true c d e t = e
or_first false c d e t = e ∙ t

-- ids of one number are one
pub id-from-number : (map : Map) → IsHalfMap map → (d e : ℕ) → IsLive map d → IsLive map e → number_at map d ≡ number_at map e → d ≡ e
id-from-number map h d e live live' same =
    let x = some_of (dart_at map d) live in
    let y = some_of (dart_at map e) live' in
    let dx = sym (number_at-is map d x.0.0 x.0.1 x.1) ∙ (same ∙ number_at-is map e y.0.0 y.0.1 y.1) in
    sym (id_of-number map h d x.0.0 x.0.1 x.1) ∙ (ap (id_of map) dx ∙ id_of-number map h e y.0.0 y.0.1 y.1)

-- ---- one walk
-- the images of the face step
abbrev pub step : Map → ℕ → ℕ
step map = image (face_images map.lists)

-- The walk from start has met the darts `ids` and stands at x. What it met it marked.
pub record IsWalking (map : Map) (old marked : ℕ → Bool) (ids : List ℕ) (start x : ℕ) : Type 0 where
  pub begins : get_or ids 0 x ≡ start
  pub live : (i : ℕ) → i ≤ length ids → IsLive map (get_or ids i x)
  pub at : (i : ℕ) → i ≤ length ids → number_at map (get_or ids i x) ≡ walk (step map) (number_at map start) i
  pub steps : (i : ℕ) → i < length ids → dart_at map (get_or ids (i + 1) x) ≡ option_map (face_step map.lists) (dart_at map (get_or ids i x))
  pub away : (i : ℕ) → 0 < i → i < length ids → walk (step map) (number_at map start) i ≢ number_at map start
  pub marks : (j : ℕ) → j < dart_count map.lists → marked j ≡ (old j || visited (step map) (number_at map start) (length ids) j)

module _ (map : Map) (h : IsHalfMap map) (old marked : ℕ → Bool) (ids : List ℕ) (start x : ℕ) (w : IsWalking map old marked ids start x) where
  -- the number of the dart at which the walk stands
  number_now : number_at map x ≡ walk (step map) (number_at map start) (length ids)
  number_now = ap (number_at map) (sym (get_or_past ids (length ids) x (omega arith))) ∙ w.at (length ids) (omega arith)

  pub live_now : IsLive map x
  live_now = subst (IsLive map) (get_or_past ids (length ids) x (omega arith)) (w.live (length ids) (omega arith))

  live_start : IsLive map start
  live_start = subst (IsLive map) w.begins (w.live 0 (omega arith))

  -- where it is not marked, the walk is not back
  not_back : marked (number_at map x) ≡ false → 0 < length ids → walk (step map) (number_at map start) (length ids) ≢ number_at map start
  not_back off pos e =
      let a = number_at map start in
      let l = number_at-lt map h start live_start in
      let on : marked a ≡ true = or_first (old a) (marked a) _ (w.marks a l) (visited-walk (step map) a (length ids) 0 pos) in
      true≢false (sym on ∙ (ap marked (sym (number_now ∙ e)) ∙ off))

  -- one step on
  pub IsWalking-more : (new : ℕ → Bool) (y : ℕ) → marked (number_at map x) ≡ false → SetsMark (dart_count map.lists) marked new (number_at map x) → IsLive map y → dart_at map y ≡ option_map (face_step map.lists) (dart_at map x) → IsWalking map old new (ids ++ x ∷ []) start y
  IsWalking-more new y off sets live' to =
      let n = length ids in
      let f = step map in
      let a = number_at map start in
      let len = length_push ids x in
      let past = get_or_past ids n x (omega arith) in
      record {
        begins = entry-more ids x y 0 (omega arith) ∙ w.begins;
        live = λ i l. elim (cases_lt n i) [
          | inl m ↦ subst (IsLive map) (sym (entry-end ids x y i (omega arith))) live'
          | inr m ↦ subst (IsLive map) (sym (entry-more ids x y i m)) (w.live i m)
        ];
        at = λ i l. elim (cases_lt n i) [
          | inl m ↦
              let e : suc n ≡ i = omega arith in
              ap (number_at map) (entry-end ids x y i (omega arith)) ∙ (face_step-number map h x y live_now to ∙ (ap f number_now ∙ ap (walk f a) e))
          | inr m ↦ ap (number_at map) (entry-more ids x y i m) ∙ w.at i m
        ];
        steps = λ i l. elim (cases_lt i n) [
          | inl m ↦
              ap (dart_at map) (entry-more ids x y (i + 1) (omega arith)) ∙ (w.steps i m ∙ ap (λ d. option_map (face_step map.lists) (dart_at map d)) (sym (entry-more ids x y i (omega arith))))
          | inr m ↦
              let e : n ≡ i = omega arith in
              ap (dart_at map) (entry-end ids x y (i + 1) (omega arith))
              ∙ (to ∙ ap (λ d. option_map (face_step map.lists) (dart_at map d)) (sym past ∙ (ap (λ k. get_or ids k x) e ∙ sym (entry-more ids x y i (omega arith)))))
        ];
        away = λ i pos l. elim (cases_lt i n) [
          | inl m ↦ w.away i pos m
          | inr m ↦ let e : n ≡ i = omega arith in subst (λ k. walk f a k ≢ a) e (not_back off (omega arith))
        ];
        marks = λ j l.
            let long : length (ids ++ x ∷ []) ≡ suc n = omega arith in
            subst (λ k. new j ≡ (old j || visited f a k j)) (sym long) (elim (cases_eq j (number_at map x)) [
              | inl e ↦
                  ap new e ∙ (sets.here ∙ sym (or_right (old j) (visited f a (suc n) j) (or_right (visited f a n j) (eqb (walk f a n) j) (eq-eqb (walk f a n) j (sym number_now ∙ sym e)))))
              | inr ne ↦
                  sets.elsewhere j l ne ∙ (w.marks j l ∙ ap (λ b. old j || b) (or_false (visited f a n j) ∙ ap (λ b. visited f a n j || b) (sym (ne_eqb (walk f a n) j (λ e. ne (sym e ∙ sym number_now))))))
            ]);
      }

-- a walk that is away stands at different numbers
walk_once : (map : Map) → IsHalfMap map → (a n i j : ℕ) → a < dart_count map.lists → ((k : ℕ) → 0 < k → k < n → walk (step map) a k ≢ a) → i < j → j < n → walk (step map) a i ≢ walk (step map) a j
walk_once map h a n i j l away m m' e =
    let len = length-face_images map.lists in
    let p = IsPermuting-image (face_images map.lists) (IsPermutationOfBelow-face_images map.lists h.simple) in
    let d = j - i in
    let s : j ≡ d + i = omega arith in
    away d (omega arith) (omega arith) (walk_apart (step map) (length (face_images map.lists)) p a (omega arith) i d (e ∙ ap (walk (step map) a) s))

module _ (map : Map) (h : IsHalfMap map) (old marked : ℕ → Bool) (ids : List ℕ) (start x : ℕ) (w : IsWalking map old marked ids start x) (keeps : KeepsMarks (face_images map.lists) old) (off : old (number_at map start) ≡ false) (on : marked (number_at map x) ≡ true) where
  start-lt : number_at map start < length (face_images map.lists)
  start-lt =
      omega (arith, length-face_images map.lists, number_at-lt map h start (live_start map h old marked ids start x w))

  now-lt : number_at map x < length (face_images map.lists)
  now-lt =
      omega (arith, length-face_images map.lists, number_at-lt map h x (live_now map h old marked ids start x w))

  -- where the walk stands at a marked dart, it has met it
  met : visited (step map) (number_at map start) (length ids) (number_at map x) ≡ true
  met =
      let images = face_images map.lists in
      let p = IsPermutationOfBelow-face_images map.lists h.simple in
      let a = number_at map start in
      let z = number_at map x in
      let together : Together (orbits images) a z = walk-together images p a (length ids) start-lt ∙ ap (label (orbits images)) (sym (number_now map h old marked ids start x w)) in
      elim (or_cases (old z) (visited (step map) a (length ids) z) (sym (w.marks z (rw (← (length-face_images map.lists)) now-lt)) ∙ on)) [
        | inl t ↦ absurd (true≢false (sym t ∙ (sym (orbits-closed_marks images p old keeps a z start-lt now-lt together) ∙ off)))
        | inr t ↦ t
      ]

  some : 0 < length ids
  some = let r = visited_at (step map) (number_at map start) (length ids) (number_at map x) met in omega (arith, r.1)

  -- so it is back
  back : walk (step map) (number_at map start) (length ids) ≡ number_at map start
  back =
      let a = number_at map start in
      let n = length ids in
      let r = visited_at (step map) a n (number_at map x) met in
      let e : walk (step map) a r.0 ≡ walk (step map) a n = r.2 ∙ number_now map h old marked ids start x w in
      let p = IsPermuting-image (face_images map.lists) (IsPermutationOfBelow-face_images map.lists h.simple) in
      let d = n - r.0 in
      let s : n ≡ d + r.0 = omega arith in
      let around : walk (step map) a d ≡ a = walk_apart (step map) (length (face_images map.lists)) p a start-lt r.0 d (e ∙ ap (walk (step map) a) s) in
      elim (cases_lt d n) [
        | inl m ↦ absurd (w.away d (omega arith) m around)
        | inr m ↦ let q : n ≡ d = omega arith in ap (walk (step map) a) q ∙ around
      ]

  -- at the dart that it began with
  at_start : x ≡ start
  at_start =
      id-from-number map h x start (live_now map h old marked ids start x w) (live_start map h old marked ids start x w) (number_now map h old marked ids start x w ∙ back)

  entry : (i : ℕ) → i < length ids → get_or ids i x ≡ get_or ids i 0
  entry i l = get_or_default ids i x 0 l

  entry_number : (i : ℕ) → i < length ids → number_at map (get_or ids i 0) ≡ walk (step map) (number_at map start) i
  entry_number i l = ap (number_at map) (sym (entry i l)) ∙ w.at i (omega arith)

  -- the marks after the walk
  pub IsWalking-marks : (j : ℕ) → j < dart_count map.lists → marked j ≡ (old j || same_class (face_classes map.lists) (number_at map start) j)
  IsWalking-marks j l =
      let len = length-face_images map.lists in
      w.marks j l ∙ ap (λ b. old j || b) (visited_is_orbit (face_images map.lists) (IsPermutationOfBelow-face_images map.lists h.simple) (number_at map start) (length ids) start-lt some back j (omega arith))

  -- and the walk is that of the whole face, where it began at the face's least dart
  pub IsWalking-all : label (face_classes map.lists) (number_at map start) ≡ number_at map start → IsWholeWalk map ids (number_at map start)
  IsWalking-all own =
      let images = face_images map.lists in
      let a = number_at map start in
      let p = IsPermutationOfBelow-face_images map.lists h.simple in
      let len = length-face_images map.lists in
      let first : get_or ids 0 0 ≡ start = sym (entry 0 some) ∙ w.begins in
      let begins : first_number map ids ≡ a = ap (number_at map) first in
      let labels : (i : ℕ) → i < length ids → label (orbits images) (number_at map (get_or ids i 0)) ≡ a =
      λ i l. ap (label (orbits images)) (entry_number i l) ∙ (sym (walk-together images p a i start-lt) ∙ own) in
      let apart : (i j : ℕ) → i < j → j < length ids → get_or ids i 0 ≢ get_or ids j 0 =
      λ i j m l e. walk_once map h a (length ids) i j (omega (arith, start-lt)) w.away m l (sym (entry_number i (omega arith)) ∙ (ap (number_at map) e ∙ entry_number j l)) in
      record {
        is_walk = record {
          some = some;
          live = λ i l. subst (IsLive map) (entry i l) (w.live i (omega arith));
          steps = λ i l.
              let turn : get_or ids (i + 1) (get_or ids 0 0) ≡ get_or ids (i + 1) x = ap (get_or ids (i + 1)) (first ∙ sym at_start) in
              ap (dart_at map) turn ∙ (w.steps i l ∙ ap (λ d. option_map (face_step map.lists) (dart_at map d)) (entry i l));
          once = λ i j l l' e. elim (cases_lt i j) [
            | inl m ↦ absurd (apart i j m l' e)
            | inr m ↦ elim (cases_lt j i) [ inl m' ↦ absurd (apart j i m' l (sym e)) | inr m' ↦ omega arith ]
          ];
          least = λ i l. omega (arith, begins, labels i l, ((IsLabels-orbits images p.within).low) (number_at map (get_or ids i 0)));
        };
        begins = begins;
        labels = labels;
        whole = λ y l same.
            let here : visited (step map) a (length ids) y ≡ true =
            visited_is_orbit images p a (length ids) start-lt some back y (omega arith) ∙ same_class-from (orbits images) a y (own ∙ sym same) in
            let r = visited_at (step map) a (length ids) y here in
            (r.0, r.1, entry_number r.0 r.1 ∙ r.2);
      }

-- ---- all walks
-- where the classes of the numbers below are marked, a number that is not marked is the least of its orbit
pub least_where_unmarked : (map : Map) → IsHalfMap map → (marked : ℕ → Bool) (count n : ℕ) → n < dart_count map.lists → IsCounting (face_classes map.lists) marked count n → marked n ≡ false → label (face_classes map.lists) n ≡ n
least_where_unmarked map h marked count n l counting off =
    let images = face_images map.lists in
    let len = length-face_images map.lists in
    let low = (IsLabels-orbits images (IsPermutationOfBelow-face_images map.lists h.simple).within).low n in
    omega (arith, ltb-false (label (orbits images) n) n (sym (counting.known n (omega (arith, length-orbits images))) ∙ off))

-- and one that is marked is not
pub other_where_marked : (map : Map) → IsHalfMap map → (marked : ℕ → Bool) (count n : ℕ) → n < dart_count map.lists → IsCounting (face_classes map.lists) marked count n → marked n ≡ true → label (face_classes map.lists) n ≢ n
other_where_marked map h marked count n l counting on e =
    let images = face_images map.lists in
    let len = length-face_images map.lists in
    omega (arith, ltb-true (label (orbits images) n) n (sym (counting.known n (omega (arith, length-orbits images))) ∙ on))

-- none yet
pub AreWalksBelow-none : (map : Map) → AreWalksBelow map [] 0
AreWalksBelow-none map = grind arith

-- a dart that is not the least of its face changes nothing
pub AreWalksBelow-old : (map : Map) (walks : List (List ℕ)) (n m : ℕ) → AreWalksBelow map walks n → label (face_classes map.lists) n ≢ n → m ≡ n + 1 → AreWalksBelow map walks m
AreWalksBelow-old map walks n m w other s = grind (arith, cases_lt, label, face_classes)

-- the face of the next least dart
pub AreWalksBelow-new : (map : Map) (walks : List (List ℕ)) (ids : List ℕ) (n m : ℕ) → AreWalksBelow map walks n → IsWholeWalk map ids n → m ≡ n + 1 → AreWalksBelow map (walks ++ ids ∷ []) m
AreWalksBelow-new map walks ids n m w new s =
    let len = length_push walks ids in
    let more = walks ++ ids ∷ [] in
    let before : (f : ℕ) → f < length walks → walk_at walks f ≡ walk_at more f = λ f l. sym (get_or_append_left walks (ids ∷ []) [] f l) in
    let last : (f : ℕ) → f ≡ length walks → ids ≡ walk_at more f = λ f e. sym (get_or_push walks ids [] f (sym e)) in
    let first_old : (f : ℕ) → f < length walks → first_number map (walk_at more f) ≡ first_number map (walk_at walks f) = λ f l. ap (first_number map) (sym (before f l)) in
    let first_new : (f : ℕ) → f ≡ length walks → first_number map (walk_at more f) ≡ n = λ f e. ap (first_number map) (sym (last f e)) ∙ new.begins in
    record {
      each = λ f l. elim (cases_lt f (length walks)) [
        | inl k ↦ subst (λ u. IsWholeWalk map u (first_number map u)) (before f k) (w.each f k)
        | inr k ↦ subst (λ u. IsWholeWalk map u (first_number map u)) (last f (omega arith)) (subst (IsWholeWalk map ids) (sym new.begins) new)
      ];
      below = λ f l. elim (cases_lt f (length walks)) [
        | inl k ↦ omega (arith, first_old f k, w.below f k)
        | inr k ↦ omega (arith, first_new f (omega arith))
      ];
      rising = λ f g k l. elim (cases_lt g (length walks)) [
        | inl q ↦ omega (arith, first_old f (omega arith), first_old g q, w.rising f g k q)
        | inr q ↦ omega (arith, first_old f (omega arith), first_new g (omega arith), w.below f (omega arith))
      ];
      found = λ j l own. elim (cases_lt j n) [
        | inl k ↦ let r = w.found j k own in (r.0, omega (arith, r.1), first_old r.0 r.1 ∙ r.2)
        | inr k ↦ (length walks, omega arith, omega (arith, first_new (length walks) refl))
      ];
    }

-- at the end the walks are those of all faces
pub AreWalksBelow-all : (map : Map) → IsHalfMap map → (walks : List (List ℕ)) (n : ℕ) → AreWalksBelow map walks n → n ≡ dart_count map.lists → AreFaces map walks
AreWalksBelow-all map h walks n w e =
    let images = face_images map.lists in
    let labels = orbits images in
    let is = IsLabels-orbits images (IsPermutationOfBelow-face_images map.lists h.simple).within in
    let apart : (f g d : ℕ) → f < g → g < length walks → Contains (walk_at walks f) d → Contains (walk_at walks g) d → ⊥ =
    λ f g d m l c c'.
    let one : label labels (number_at map d) ≡ first_number map (walk_at walks f) = label_in f d (omega arith) c in
    omega (arith, label_in g d l c', w.rising f g m l) in
    record {
      each = λ f l. (w.each f l).is_walk;
      all = λ d live.
          let y = number_at map d in
          let l = number_at-lt map h d live in
          let r = w.found (label labels y) (omega (arith, is.low y)) (is.own y) in
          let s = (w.each r.0 r.1).whole y l (sym r.2) in
          let same : get_or (walk_at walks r.0) s.0 0 ≡ d = id-from-number map h (get_or (walk_at walks r.0) s.0 0) d ((w.each r.0 r.1).is_walk.live s.0 s.1) live s.2 in
          (r.0, r.1, (s.0, s.1, get_or_default (walk_at walks r.0) s.0 d 0 s.1 ∙ same));
      apart = λ f g d l l' c c'. elim (cases_lt f g) [
        | inl m ↦ absurd (apart f g d m l' c c')
        | inr m ↦ elim (cases_lt g f) [ inl m' ↦ absurd (apart g f d m' l c' c) | inr m' ↦ omega arith ]
      ];
      rising = w.rising;
    }
  where
    label_in : (f d : ℕ) → f < length walks → Contains (walk_at walks f) d → label (face_classes map.lists) (number_at map d) ≡ first_number map (walk_at walks f)
    label_in f d l c =
        ap (λ z. label (face_classes map.lists) (number_at map z)) (sym (get_or_default (walk_at walks f) c.0 0 d c.1 ∙ c.2)) ∙ (w.each f l).labels c.0 c.1

-- ---- faces by their numbers
module _ (map : Map) (h : IsHalfMap map) where
  -- no dart has a face yet
  pub AreWalked-none : (of : List ℕ) → length of ≡ id_bound map → ((i : ℕ) → mark_at (with_face of) i ≡ false) → AreWalked map [] of 0
  AreWalked-none of size off = grind (arith, IsCounting-none, face_classes, mark_of, with_face, id_of, AreWalksBelow-none)

  module _ (walks : List (List ℕ)) (of : List ℕ) (d : ℕ) (live : IsLive map d) (w : AreWalked map walks of (number_at map d)) where
    labels_long : number_at map d < length (face_classes map.lists)
    labels_long =
        omega (arith, length-orbits (face_images map.lists), length-face_images map.lists, number_at-lt map h d live)

    are_labels : IsLabels (face_classes map.lists)
    are_labels = IsLabels-orbits (face_images map.lists) (IsPermutationOfBelow-face_images map.lists h.simple).within

    seen : mark_of map (with_face of) (number_at map d) ≡ mark_at (with_face of) d
    seen = mark_of-number map h (with_face of) d live

    -- fewer faces than stand for none
    pub few_walked : length walks < no_face
    few_walked = omega (arith, IsCounting-le _ _ _ _ w.counting, number_at-lt map h d live, few_darts map h)

    -- the darts with a face are those of whole faces
    pub keeps_walked : KeepsMarks (face_images map.lists) (mark_of map (with_face of))
    keeps_walked = KeepsMarks-counting (face_images map.lists) (mark_of map (with_face of)) (length walks) (number_at map d) (IsPermutationOfBelow-face_images map.lists h.simple) w.counting

    -- a dart without a face is the least of its own
    pub least_walked : mark_at (with_face of) d ≡ false → label (face_classes map.lists) (number_at map d) ≡ number_at map d
    least_walked off =
        least_where_unmarked map h (mark_of map (with_face of)) (length walks) (number_at map d) (number_at-lt map h d live) w.counting (seen ∙ off)

    -- a dart that has a face changes nothing
    pub AreWalked-old : mark_at (with_face of) d ≡ true → AreWalked map walks of (number_at map d + 1)
    AreWalked-old on = grind (arith, IsCounting-old, face_classes, mark_of, with_face, length, number_at, are_labels, labels_long, seen, AreWalksBelow-old, other_where_marked, number_at-lt)

    -- a face is walked
    pub AreWalked-new : (walk of' : List ℕ) → mark_at (with_face of) d ≡ false → length of' ≡ length of → ((i : ℕ) → i < dart_count map.lists → mark_of map (with_face of') i ≡ (mark_of map (with_face of) i || same_class (face_classes map.lists) (number_at map d) i)) → IsWholeWalk map walk (number_at map d) → IsNumberedBy no_face of of' (length walks) → ((i : ℕ) → i < length walk → get_or of' (get_or walk i 0) 0 ≡ length walks) → AreWalked map (walks ++ walk ∷ []) of' (number_at map d + 1)
    AreWalked-new walk of' off size marks whole numbered here =
        let long = length_push walks walk in
        let n = length-face_images map.lists in
        let o = length-orbits (face_images map.lists) in
        let counting : IsCounting (face_classes map.lists) (mark_of map (with_face of')) (length walks + 1) (number_at map d + 1) =
        IsCounting-new (face_classes map.lists) (mark_of map (with_face of)) (mark_of map (with_face of')) (length walks) (number_at map d) _ are_labels w.counting labels_long (seen ∙ off) (λ y m. marks y (omega arith)) refl in
        record {
          size = size ∙ w.size;
          counting = rw long counting;
          walked = AreWalksBelow-new map walks walk (number_at map d) _ w.walked whole refl;
          placed = λ f i l m. elim (cases_lt f (length walks)) [
            | inl k ↦
                let same : walk_at walks f ≡ walk_at (walks ++ walk ∷ []) f = sym (get_or_append_left walks (walk ∷ []) [] f k) in
                let i_in : i < length (walk_at walks f) = omega (arith, m, ap (λ (ids : List ℕ). length ids) same) in
                let e = get_or (walk_at walks f) i 0 in
                let old : get_or of e 0 ≡ f = w.placed f i k i_in in
                let on : mark_at (with_face of) e ≡ true =
                has_number no_face of e (omega (arith, w.size, live-lt map h e ((w.walked.each f k).is_walk.live i i_in))) (λ q. absurd (omega (arith, q, old, k, few_walked))) in
                ap (λ (ids : List ℕ). get_or of' (get_or ids i 0) 0) (sym same) ∙ (numbered.stays e on ∙ old)
            | inr k ↦
                let last : f ≡ length walks = omega arith in
                let same : walk ≡ walk_at (walks ++ walk ∷ []) f = sym (get_or_push walks walk [] f (sym last)) in
                ap (λ (ids : List ℕ). get_or of' (get_or ids i 0) 0) (sym same) ∙ (here i (omega (arith, m, ap (λ (ids : List ℕ). length ids) same)) ∙ sym last)
          ];
        }

-- ---- numbers of faces
pub length-ids_of : (ds : List DartId) → length (ids_of ds) ≡ length ds
length-ids_of ds = length-map {B = ℕ} ds (λ (d : DartId). d.0)

-- each dart of a walk stands in it
pub stands : (walks : List (List ℕ)) (f : ℕ) (ds : List DartId) → ids_of ds ≡ walk_at walks f → All (λ d. Contains (walk_at walks f) d.0) ds
stands walks f ds e k d l =
    let at = Contains-get_or (ids_of ds) k 0 (omega (arith, length-ids_of ds)) in
    subst (λ ids. Contains ids (get_or ds k d).0) e (subst (Contains (ids_of ds)) (get_or-map (λ (x : DartId). x.0) ds k d 0 l) at)

-- the number f is written at one dart more, and stands at each dart of the walk
pub here_more : (of : List ℕ) (ids : List ℕ) (f d : ℕ) → d < length of → ((i : ℕ) → i < length ids → get_or of (get_or ids i 0) 0 ≡ f) → (i : ℕ) → i < length (ids ++ d ∷ []) → get_or (set of d f) (get_or (ids ++ d ∷ []) i 0) 0 ≡ f
here_more of ids f d l h i m = grind (arith, cases_eq, get_or, set, get_or-set_same, get_or-set_other, cases_lt, length, get_or_append_left, length_push, get_or_push)
