-- What a search from a vertex has marked, step by step, and that in the end it is the vertex's part.
use Rattle.std.proofs.Common.{◌≡◌, ◌≢◌, ◌||◌, ℕ, zero, suc, ◌+◌, ◌-◌, ◌<◌, ◌≤◌, Bool, true, false, not, List, [], ◌∷◌, ◌++◌, length, set, get_or, refl, sym, ap, ◌∙◌, subst, inl, inr, arith, get_or-set_same, get_or-set_other, take, replicate, ◌==◌}
use Rattle.std.proofs.lemmas.List.{get_or_default, get_or-map, map-set, length-map}
use Rattle.std.proofs.Math.Seq.{take-nil}
use Rattle.std.proofs.lemmas.Bool.{cases_Bool, cases_eq, eq-eqb, or_left, or_right, false≢true, false_from_ne_true, ne_eqb, ltb-false}
use Rattle.std.specs.List.{All}
use Rattle.std.specs.Cmp.{both_ways}
use Rattle.classes.specs.Classes.{count_below, label, same_class}
use Rattle.map_lists.specs.Lists.{Lists}
use Rattle.map_lists.specs.Cuts.{cut, AreCuts}
use Rattle.map_lists.proofs.CutLemmas.{length-cut}
use Rattle.map_theory.specs.Maps.{Dart, darts, dart_number, list_of, HasDart, IsSimpleMap, component_classes}
use Rattle.classes.proofs.Counting.{count_below_more}
use Rattle.classes.proofs.Classes.{Together, IsLabels, Together-from, same_class-from, PairsBelow, classes-holds, classes-marked, length-classes, IsLabels-classes}
use Rattle.simple_maps.proofs.FlatLemmas.{entry-is, end-is}
use Rattle.map_theory.proofs.DartLemmas.{HasDart-at, IsDartNumber-darts, length-darts, get_or-dart_number, dart_number-lt}
use Rattle.classes.proofs.Marks.{IsCounting, IsCounting-together, IsCounting-old}
use Rattle.euler_faces.specs.Numbers.{mark_at}
use Rattle.euler_faces.specs.Search.{AllMarked, IsSearching, IsNumbered, IsNumberedBy, component_number, marks_by, marks_of, unmarked_below, None_open}

-- a mark set leaves one fewer to set
pub unmarked_below-set : (marked : List Bool) (w n : ℕ) → w < n → w < length marked → mark_at marked w ≡ false → unmarked_below marked n ≡ unmarked_below (set marked w true) n + 1
unmarked_below-set marked w n l in_list off =
    count_below_more (λ u. not (mark_at (set marked w true) u)) (λ u. not (mark_at marked u)) n w l
    (ap not (get_or-set_same marked w true false in_list)) (ap not off)
    (λ i m ne. ap not (get_or-set_other marked w i true false ne))

-- what holds of each dart of a map holds of all darts
All-darts : (lists : Lists) (P : Dart → Type 0) → IsSimpleMap lists → ((v u : ℕ) → HasDart lists v u → P (v, u)) → All P (darts lists)
All-darts lists P simple each k d l =
    let n = length-darts lists in
    each (get_or (darts lists) k d).0 (get_or (darts lists) k d).1 (IsDartNumber-darts lists k d simple.no_repeat (omega arith)).is_dart

-- the ends of each dart are vertices
pub components-below : (lists : Lists) → IsSimpleMap lists → PairsBelow (length lists) (darts lists)
components-below lists simple = All-darts lists (λ p. (p.0 < length lists) × (p.1 < length lists)) simple (λ v u has. (has.0, simple.in_range v u has))

-- neighbours are in one component
pub components-step : (lists : Lists) (v u : ℕ) → IsSimpleMap lists → HasDart lists v u → Together (component_classes lists) v u
components-step lists v u simple has =
    let n = length-darts lists in
    let l = dart_number-lt lists v u has in
    rw (get_or-dart_number lists v u (0, 0) has) at (classes-holds (length lists) (darts lists) (components-below lists simple) (dart_number lists (v, u)) (0, 0) (omega arith))

-- where no vertex is unmarked, each is marked
pub all_marked : (marked : List Bool) (n u : ℕ) → unmarked_below marked n ≡ 0 → u < n → n ≤ length marked → mark_at marked u ≡ true
all_marked marked n u none l in_list =
    elim (cases_Bool (mark_at marked u)) [
      | inl on ↦ on
      | inr off ↦ absurd (let one = unmarked_below-set marked u n l (omega arith) off in omega arith)
    ]

-- at first all are unmarked
pub unmarked_below-none : (marked : List Bool) (n : ℕ) → ((u : ℕ) → mark_at marked u ≡ false) → unmarked_below marked n ≡ n
unmarked_below-none marked zero off = refl
unmarked_below-none marked (suc n) off = let here = off n in rw here (omega (arith, unmarked_below-none marked n off))

-- a mark that is set, and the others
pub set-here : (marked : List Bool) (w : ℕ) → w < length marked → mark_at (set marked w true) w ≡ true
set-here marked w l = get_or-set_same marked w true false l

pub set-keeps : (marked : List Bool) (w x : ℕ) → w < length marked → mark_at marked x ≡ true → mark_at (set marked w true) x ≡ true
set-keeps marked w x l on =
    elim (cases_eq x w) [
      | inl e ↦ ap (λ (y : ℕ). mark_at (set marked w true) y) e ∙ set-here marked w l
      | inr ne ↦ get_or-set_other marked w x true false ne ∙ on
    ]

-- a number given is a mark set
pub marks-set : (none : ℕ) (numbers : List ℕ) (w number : ℕ) → number < none → marks_by none (set numbers w number) ≡ set (marks_by none numbers) w true
marks-set none numbers w number few =
    map-set (λ x. not (x == none)) numbers w number
    ∙ ap (λ b. set (marks_by none numbers) w (not b)) (ne_eqb number none (omega arith))

pub length-marks_of : (none : ℕ) (numbers : List ℕ) → length (marks_by none numbers) ≡ length numbers
length-marks_of none numbers = length-map numbers (λ x. not (x == none))

-- a vertex has none for its number where it has none
pub unmet : (none : ℕ) (numbers : List ℕ) (w : ℕ) → w < length numbers → get_or numbers w 0 ≡ none → mark_at (marks_by none numbers) w ≡ false
unmet none numbers w l e = get_or-map (λ x. not (x == none)) numbers w 0 false l ∙ ap not (eq-eqb (get_or numbers w 0) none e)

pub met : (none : ℕ) (numbers : List ℕ) (w : ℕ) → w < length numbers → get_or numbers w 0 ≢ none → mark_at (marks_by none numbers) w ≡ true
met none numbers w l ne = get_or-map (λ x. not (x == none)) numbers w 0 false l ∙ ap not (ne_eqb (get_or numbers w 0) none ne)

-- where no vertex has a number none is marked
pub unset : (none n u : ℕ) → mark_at (marks_by none (replicate n none)) u ≡ false
unset none zero u = refl
unset none (suc n) zero = ap not (eq-eqb none none refl)
unset none (suc n) (suc u) = unset none n u

pub unset_after : (none : ℕ) (old items : List ℕ) (n k u : ℕ) → old ≡ [] → items ≡ take n old ++ replicate k none → mark_at (marks_by none items) u ≡ false
unset_after none old items n k u empty e = rw (e, empty, take-nil) (unset none k u)

-- one vertex gets the number
pub IsNumbered-set : (none : ℕ) (numbers : List ℕ) (w number : ℕ) → number < none → w < length numbers → mark_at (marks_by none numbers) w ≡ false → IsNumberedBy none numbers (set numbers w number) number
IsNumbered-set none numbers w number few l off = grind (arith, marks-set, set-keeps, marks_by, length-marks_of, cases_eq, false≢true, mark_at, get_or-set_other, get_or, set, get_or-set_same)

-- and more get it
pub IsNumbered-chained : (none : ℕ) (one two three : List ℕ) (number : ℕ) → IsNumberedBy none one two number → IsNumberedBy none two three number → IsNumberedBy none one three number
IsNumbered-chained none one two three number h h' = grind (arith, cases_Bool, mark_at, marks_by)

-- the component of a vertex that had no number has got the count of those before: all numbers are those of components
pub component_numbers : (lists : Lists) (old new : List ℕ) (count v : ℕ) → IsSimpleMap lists → IsCounting (component_classes lists) (mark_at (marks_of old)) count v → v < length lists → mark_at (marks_of old) v ≡ false → ((i : ℕ) → i < length lists → mark_at (marks_of new) i ≡ (mark_at (marks_of old) i || same_class (component_classes lists) v i)) → IsNumbered old new count → ((u : ℕ) → u < length lists → mark_at (marks_of old) u ≡ true → get_or old u 0 ≡ component_number lists u) → (u : ℕ) → u < length lists → mark_at (marks_of new) u ≡ true → get_or new u 0 ≡ component_number lists u
component_numbers lists old new count v simple h l off marks numbered before u m on =
    let C = component_classes lists in
    let n = length-classes (length lists) (darts lists) in
    elim (cases_Bool (mark_at (marks_of old) u)) [
      | inl t ↦ numbered.stays u t ∙ before u m t
      | inr f ↦
          let together = Together-from C v u (sym (ap (λ b. b || same_class C v u) f) ∙ (sym (marks u m) ∙ on)) in
          let above = ltb-false (label C v) v (sym (h.known v (omega arith)) ∙ off) in
          let own : label C v ≡ v = omega (arith, (IsLabels-classes (length lists) (darts lists) (components-below lists simple)).low v) in
          numbered.here u f on ∙ (h.counted ∙ ap (count_below (λ j. label C j == j)) (sym own ∙ together))
    ]

-- before the first vertex is pushed
pub search-start : (lists : Lists) (old : List Bool) (queue : List ℕ) (filled start : ℕ) → ((u : ℕ) → u < length lists → mark_at old u ≡ true → AllMarked lists old u) → IsSearching lists old old queue filled filled start None_open
search-start lists old queue filled start kept = grind arith

module _ (lists : Lists) (old marked : List Bool) (queue : List ℕ) (next filled start : ℕ) where
  -- a vertex of the component is marked, and stands behind the queue
  pub search-push : (open_at : ℕ → Type 0) (w more : ℕ) → IsSearching lists old marked queue next filled start open_at → next ≤ filled → filled < length queue → more ≡ filled + 1 → w < length lists → w < length marked → Together (component_classes lists) start w → IsSearching lists old (set marked w true) (set queue filled w) next more start open_at
  search-push open_at w more h order room one l in_list together =
      let keeps : (x : ℕ) → mark_at marked x ≡ true → mark_at (set marked w true) x ≡ true = λ x on. set-keeps marked w x in_list on in
      let last = get_or-set_same queue filled w 0 room in
      record {
        stays = λ u m t. keeps u (h.stays u m t);
        only = λ u m t. elim (cases_eq u w) [
          | inl e ↦ inr (subst (λ (y : ℕ). Together (component_classes lists) start y) (sym e) together)
          | inr ne ↦ h.only u m (sym (get_or-set_other marked w u true false ne) ∙ t)
        ];
        closed = λ u m t. elim (cases_eq u w) [
          | inl e ↦ inl (filled, order, omega arith, last ∙ sym e)
          | inr ne ↦ grind (arith, get_or-set_other)
        ];
        waiting = λ u has. elim (cases_eq has.0 filled) [
          | inl e ↦
              subst (λ (y : ℕ). (y < length lists) × Together (component_classes lists) start y)
              (sym last ∙ (ap (λ i. get_or (set queue filled w) i 0) (sym e) ∙ has.3)) (l, together)
          | inr ne ↦ h.waiting u (has.0, has.1, omega (arith, has.2, ne), sym (get_or-set_other queue filled has.0 w 0 ne) ∙ has.3)
        ];
      }

  -- what is written behind the queue does not matter
  pub search-scratch : (open_at : ℕ → Type 0) (w : ℕ) → IsSearching lists old marked queue next filled start open_at → IsSearching lists old marked (set queue filled w) next filled start open_at
  search-scratch open_at w h = record {
    stays = h.stays;
    only = h.only;
    closed = λ u m t. elim (h.closed u m t) [
      | inl c ↦ (let other : c.0 ≢ filled = omega (arith, c.2) in inl (c.0, c.1, c.2, get_or-set_other queue filled c.0 w 0 other ∙ c.3))
      | inr more ↦ inr more
    ];
    waiting = λ u has. let other : has.0 ≢ filled = omega (arith, has.2) in h.waiting u (has.0, has.1, has.2, sym (get_or-set_other queue filled has.0 w 0 other) ∙ has.3);
  }

  -- the next vertex of the queue is opened
  pub search-pop : (after : ℕ) → after ≡ next + 1 → IsSearching lists old marked queue next filled start None_open → IsSearching lists old marked queue after filled start (λ x. x ≡ get_or queue next 0)
  search-pop after one h = record {
    stays = h.stays;
    only = h.only;
    closed = λ x m t. elim (h.closed x m t) [
      | inl c ↦ elim (cases_eq c.0 next) [
        | inl e ↦ inr (inl (sym c.3 ∙ ap (λ i. get_or queue i 0) e))
        | inr ne ↦ inl (c.0, omega (arith, c.1, ne), c.2, c.3)
      ]
      | inr other ↦ elim other [ inl none ↦ absurd none | inr all ↦ inr (inr all) ]
    ];
    waiting = λ x has. h.waiting x (has.0, omega (arith, has.1), has.2, has.3);
  }

  -- and it was of the component
  pub search-top : next < filled → IsSearching lists old marked queue next filled start None_open → (get_or queue next 0 < length lists) × Together (component_classes lists) start (get_or queue next 0)
  search-top l h = h.waiting (get_or queue next 0) (next, omega arith, l, refl)

  -- all neighbours of the open vertex are marked
  pub search-close : (u : ℕ) → IsSearching lists old marked queue next filled start (λ x. x ≡ u) → AllMarked lists marked u → IsSearching lists old marked queue next filled start None_open
  search-close u h all = grind (arith, AllMarked)

  -- where all vertices are marked, the component of start is, and nothing else that was not
  pub search-full : (open_at : ℕ → Type 0) → IsSearching lists old marked queue next filled start open_at → ((u : ℕ) → u < length lists → mark_at marked u ≡ true) → (i : ℕ) → i < length lists → mark_at marked i ≡ (mark_at old i || same_class (component_classes lists) start i)
  search-full open_at h full i m =
      elim (h.only i m (full i m)) [
        | inl t ↦ full i m ∙ sym (or_left (mark_at old i) (same_class (component_classes lists) start i) t)
        | inr t ↦ full i m ∙ sym (or_right (mark_at old i) (same_class (component_classes lists) start i) (same_class-from (component_classes lists) start i t))
      ]

-- where none waits, the component of start is marked, and nothing else that was not
pub search-all : (lists : Lists) (old marked : List Bool) (queue : List ℕ) (next filled start : ℕ) → IsSimpleMap lists → IsSearching lists old marked queue next filled start None_open → filled ≤ next → start < length lists → mark_at marked start ≡ true → (i : ℕ) → i < length lists → mark_at marked i ≡ (mark_at old i || same_class (component_classes lists) start i)
search-all lists old marked queue next filled start simple h none l on i m =
    let all : (u : ℕ) → u < length lists → mark_at marked u ≡ true → AllMarked lists marked u = λ u in_range t. elim (h.closed u in_range t) [
      | inl c ↦ absurd (omega (arith, c.1, c.2))
      | inr other ↦ elim other [ inl none ↦ absurd none | inr done ↦ done ]
    ] in
    let one : All (λ p. mark_at marked p.0 ≡ mark_at marked p.1) (darts lists) = All-darts lists (λ p. mark_at marked p.0 ≡ mark_at marked p.1) simple (λ v u has.
    both_ways (mark_at marked v) (mark_at marked u) (λ t. all v has.0 t u has) (λ t. all u (simple.in_range v u has) t v (simple.both_ways v u has))) in
    elim (cases_Bool (mark_at old i)) [
      | inl t ↦ h.stays i m t ∙ sym (or_left (mark_at old i) (same_class (component_classes lists) start i) t)
      | inr t ↦ elim (cases_Bool (same_class (component_classes lists) start i)) [
        | inl s ↦
            (let same = classes-marked (mark_at marked) (length lists) (darts lists) (components-below lists simple) one start i l m (Together-from (component_classes lists) start i s) in
            rw (t, s) (sym same ∙ on))
        | inr s ↦
            rw (t, s) (false_from_ne_true (mark_at marked i) (λ on_i. elim (h.only i m on_i) [
              | inl v ↦ false≢true (sym t ∙ v)
              | inr v ↦ false≢true (sym s ∙ same_class-from (component_classes lists) start i v)
            ]))
      ]
    ]

-- marks that count components are kept by each step
pub search-kept : (lists : Lists) (marked : List Bool) (count v : ℕ) → IsSimpleMap lists → IsCounting (component_classes lists) (mark_at marked) count v → (u : ℕ) → u < length lists → mark_at marked u ≡ true → AllMarked lists marked u
search-kept lists marked count v simple h u l t w has =
    let n = length-classes (length lists) (darts lists) in
    sym (IsCounting-together (component_classes lists) (mark_at marked) count v h u w (omega arith) (omega (arith, simple.in_range u w has)) (components-step lists u w simple has)) ∙ t

-- where all entries of its list are marked, all neighbours are
pub AllMarked-from_places : (lists : Lists) (marked : List Bool) (u : ℕ) → ((k : ℕ) → k < length (list_of lists u) → mark_at marked (get_or (list_of lists u) k 0) ≡ true) → AllMarked lists marked u
AllMarked-from_places lists marked u all w has =
    ap (mark_at marked) (sym (get_or_default (list_of lists u) has.1.0 0 w has.1.1 ∙ has.1.2)) ∙ all has.1.0 has.1.1

module _ (ends entries : List ℕ) (cuts : AreCuts 0 ends (length entries)) (v : ℕ) (v_in : v < length ends) where
  -- an entry of v's list is a neighbour
  pub entry-dart : (i : ℕ) → get_or (0 ∷ ends) v 0 ≤ i → i < get_or ends v 0 → HasDart (cut 0 ends entries) v (get_or entries i 0)
  entry-dart i a b =
      let lists = cut 0 ends entries in
      let k = i - get_or (0 ∷ ends) v 0 in
      let k_in : k < length (list_of lists v) = omega (arith, end-is ends entries cuts v v_in) in
      let at : get_or (0 ∷ ends) v 0 + k ≡ i = omega arith in
      subst (λ x. HasDart lists v x) (entry-is ends entries cuts v k v_in k_in ∙ ap (λ j. get_or entries j 0) at) (HasDart-at lists v k 0 (omega (arith, length-cut 0 ends entries)) k_in)

  -- where all its entries are marked, all neighbours are
  pub AllMarked-from_entries : (marked : List Bool) → ((i : ℕ) → get_or (0 ∷ ends) v 0 ≤ i → i < get_or ends v 0 → mark_at marked (get_or entries i 0) ≡ true) → AllMarked (cut 0 ends entries) marked v
  AllMarked-from_entries marked all =
      AllMarked-from_places (cut 0 ends entries) marked v (λ k l.
      ap (mark_at marked) (entry-is ends entries cuts v k v_in l) ∙ all (get_or (0 ∷ ends) v 0 + k) (omega arith) (omega (arith, end-is ends entries cuts v v_in)))

-- where all vertices are marked, their classes are all counted
pub IsCounting-full : (k : ℕ) (labels : List ℕ) (marked : ℕ → Bool) (count i : ℕ) → IsLabels labels → IsCounting labels marked count i → i + k ≡ length labels → ((y : ℕ) → y < length labels → marked y ≡ true) → IsCounting labels marked count (length labels)
IsCounting-full zero labels marked count i w h at all = let e : i ≡ length labels = omega arith in subst (λ n. IsCounting labels marked count n) e h
IsCounting-full (suc k) labels marked count i w h at all =
    IsCounting-full k labels marked count (i + 1) w (IsCounting-old labels marked count i (i + 1) w h (omega arith) (all i (omega arith)) refl) (omega arith) all
