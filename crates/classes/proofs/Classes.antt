-- Classes as lists of labels: what `merge` and `classes` do to the relation "in one class" and to the number of classes.
use Rattle.std.proofs.Common.{◌≡◌, ◌≢◌, ◌⊎◌, ℕ, ◌+◌, ◌<◌, ◌≤◌, min, max, Bool, true, false, eqb, List, [], ◌∷◌, length, refl, sym, ap, ◌∙◌, subst, inl, inr, arith}
use Rattle.std.specs.List.{All}
use Rattle.std.proofs.lemmas.Bool.{cases_eq, cases_lt, eqb-true, eqb-false, eq-eqb, ne_eqb}
use Rattle.std.proofs.lemmas.List.{length-map, get_or-map, get_or_past, ext_get_or, get_or_default}
use Rattle.std.proofs.lemmas.List.Elements.{All-head, All-tail, All-cons}
use Rattle.std.proofs.lemmas.List.FromFn.{length-range_with_len, get_or-range_with_len}
use Rattle.classes.specs.Classes.{count_below, label, same_class, alone, relabel, merge, merge_all, classes, class_count}
use Rattle.classes.proofs.Counting.{count_below_more}

-- i and j have one label
abbrev pub Together : List ℕ → ℕ → ℕ → Type 0
Together labels i j = label labels i ≡ label labels j

-- A list of labels as the definitions make it: no label is above its number, and each label is its own label. So it is the least number of its class.
pub record IsLabels (labels : List ℕ) : Type 0 where
  pub low : (i : ℕ) → label labels i ≤ i
  pub own : (i : ℕ) → label labels (label labels i) ≡ label labels i

-- `same_class` says that the labels are equal
pub Together-from : (labels : List ℕ) (i j : ℕ) → same_class labels i j ≡ true → Together labels i j
Together-from labels i j e = eqb-true (label labels i) (label labels j) e

pub same_class-from : (labels : List ℕ) (i j : ℕ) → Together labels i j → same_class labels i j ≡ true
same_class-from labels i j e = eq-eqb (label labels i) (label labels j) e

pub apart-from : (labels : List ℕ) (i j : ℕ) → (Together labels i j → ⊥) → same_class labels i j ≡ false
apart-from labels i j e = ne_eqb (label labels i) (label labels j) e

pub Together-not : (labels : List ℕ) (i j : ℕ) → same_class labels i j ≡ false → Together labels i j → ⊥
Together-not labels i j e = eqb-false (label labels i) (label labels j) e

-- two numbers are in one class or not
pub cases_Together : (labels : List ℕ) (i j : ℕ) → Together labels i j ⊎ (Together labels i j → ⊥)
cases_Together labels i j = cases_eq (label labels i) (label labels j)

-- a number past the list is its own label
pub label_past : (labels : List ℕ) (i : ℕ) → length labels ≤ i → label labels i ≡ i
label_past labels i h = get_or_past labels i i h

-- no label is past the list
pub label-lt : (labels : List ℕ) → IsLabels labels → (i : ℕ) → i < length labels → label labels i < length labels
label-lt labels w i h = omega (arith, w.low i)

-- ---- each alone
pub length-alone : (k : ℕ) → length (alone k) ≡ k
length-alone k = length-range_with_len 0 k

pub label-alone : (k i : ℕ) → label (alone k) i ≡ i
label-alone k i =
    elim (cases_lt i k) [
      | inl l ↦ get_or-range_with_len 0 k i i l ∙ omega arith
      | inr l ↦ label_past (alone k) i (rw length-alone l)
    ]

pub IsLabels-alone : (k : ℕ) → IsLabels (alone k)
IsLabels-alone k = record { low = λ i. omega (arith, label-alone k i); own = λ i. ap (label (alone k)) (label-alone k i) }

-- ---- one merge
pub length-merge : (labels : List ℕ) (a b : ℕ) → length (merge labels a b) ≡ length labels
unfolding merge
length-merge labels a b = length-map labels (relabel (label labels a) (label labels b))

relabel_high : (one other l : ℕ) → one < l → other < l → relabel one other l ≡ l
relabel_high one other l h h' = rw (ne_eqb l (max one other) (omega arith)) refl

-- the label after a merge
pub label-merge : (labels : List ℕ) (a b : ℕ) → IsLabels labels → a < length labels → b < length labels → (i : ℕ) → label (merge labels a b) i ≡ relabel (label labels a) (label labels b) (label labels i)
unfolding merge
label-merge labels a b w la lb i = grind (arith, cases_lt, length, get_or-map, relabel, label, label_past, merge, length-merge, relabel_high)

-- what a new label is
relabel_cases : (one other l : ℕ) → ((l ≡ max one other) × (relabel one other l ≡ min one other)) ⊎ ((l ≢ max one other) × (relabel one other l ≡ l))
relabel_cases one other l =
    elim (cases_eq l (max one other)) [
      | inl e ↦ inl (e, rw (eq-eqb l (max one other) e) refl)
      | inr ne ↦ inr (ne, rw (ne_eqb l (max one other) ne) refl)
    ]

relabel_le : (one other l : ℕ) → relabel one other l ≤ l
relabel_le one other l = elim (relabel_cases one other l) [ inl h ↦ omega arith | inr h ↦ omega arith ]

pub IsLabels-merge : (labels : List ℕ) (a b : ℕ) → IsLabels labels → a < length labels → b < length labels → IsLabels (merge labels a b)
IsLabels-merge labels a b w la lb = grind (arith, label, label-merge, merge, relabel_le, relabel, relabel_cases, cases_lt)

-- the join of a relation at a and b
abbrev pub Joined : List ℕ → ℕ → ℕ → ℕ → ℕ → Type 0
Joined labels a b i j =
    Together labels i j ⊎ ((Together labels i a × Together labels b j) ⊎ (Together labels i b × Together labels a j))

relabel_joins : (one other l m : ℕ) → relabel one other l ≡ relabel one other m → (l ≡ m) ⊎ (((l ≡ one) × (other ≡ m)) ⊎ ((l ≡ other) × (one ≡ m)))
relabel_joins one other l m e = grind (arith, relabel_cases, cases_lt)

relabel_one : (one other : ℕ) → relabel one other one ≡ min one other
relabel_one one other = elim (relabel_cases one other one) [ inl h ↦ h.1 | inr h ↦ omega arith ]

relabel_other : (one other : ℕ) → relabel one other other ≡ min one other
relabel_other one other = elim (relabel_cases one other other) [ inl h ↦ h.1 | inr h ↦ omega arith ]

-- One merge joins the classes of a and b and changes nothing else.
module _ (labels : List ℕ) (a b : ℕ) (w : IsLabels labels) (in_a : a < length labels) (in_b : b < length labels) where
  pub merge-joined : (i j : ℕ) → Together (merge labels a b) i j → Joined labels a b i j
  merge-joined i j e =
      let at = label-merge labels a b w in_a in_b in
      relabel_joins (label labels a) (label labels b) (label labels i) (label labels j) (sym (at i) ∙ (e ∙ at j))

  -- what was in one class still is
  pub merge-keeps : (i j : ℕ) → Together labels i j → Together (merge labels a b) i j
  merge-keeps i j e =
      let at = label-merge labels a b w in_a in_b in
      at i ∙ (ap (relabel (label labels a) (label labels b)) e ∙ sym (at j))

  -- a and b are in one class
  pub merge-same : Together (merge labels a b) a b
  merge-same =
      let at = label-merge labels a b w in_a in_b in
      at a ∙ (relabel_one (label labels a) (label labels b) ∙ (sym (relabel_other (label labels a) (label labels b)) ∙ sym (at b)))

  pub joined-merge : (i j : ℕ) → Joined labels a b i j → Together (merge labels a b) i j
  joined-merge i j h = grind (arith, merge-keeps, merge-same)

  -- a merge of two classes lowers the count by one
  pub class_count-merge_apart : (Together labels a b → ⊥) → class_count labels ≡ class_count (merge labels a b) + 1
  class_count-merge_apart ne =
      let at = label-merge labels a b w in_a in_b in
      let la = label labels a in
      let lb = label labels b in
      let top = max la lb in
      let new : ℕ → Bool = λ i. eqb (label (merge labels a b) i) i in
      let old : ℕ → Bool = λ i. eqb (label labels i) i in
      let top_own : label labels top ≡ top = elim (cases_lt la lb) [ inl s ↦ let m : top ≡ lb = omega arith in ap (label labels) m ∙ (w.own b ∙ sym m) | inr s ↦ let m : top ≡ la = omega arith in ap (label labels) m ∙ (w.own a ∙ sym m) ] in
      let top_in : top < length labels = elim (cases_lt la lb) [ inl s ↦ omega (arith, w.low b) | inr s ↦ omega (arith, w.low a) ] in
      let new_top : label (merge labels a b) top ≢ top = λ e. elim (relabel_cases la lb (label labels top)) [ inl h ↦ absurd (omega (arith, at top)) | inr h ↦ absurd (h.0 top_own) ] in
      let others : (i : ℕ) → i < length labels → i ≢ top → new i ≡ old i = grind (arith, relabel_cases, label, merge, ne_eqb, eqb) in
      let more = count_below_more new old (length labels) top top_in (ne_eqb (label (merge labels a b) top) top new_top) (eq-eqb (label labels top) top top_own) others in
      more ∙ ap (λ n. count_below new n + 1) (sym (length-merge labels a b))

-- ---- labels are the relation
-- the label of a number is in its class
pub Together-label : (labels : List ℕ) → IsLabels labels → (i : ℕ) → Together labels i (label labels i)
Together-label labels w i = sym (w.own i)

-- each pair of one class is in one class of the other list
abbrev pub IsFiner : List ℕ → List ℕ → Type 0
IsFiner fine coarse = (i j : ℕ) → i < length fine → j < length fine → Together fine i j → Together coarse i j

label_le : (fine coarse : List ℕ) → IsLabels fine → IsLabels coarse → IsFiner fine coarse → (i : ℕ) → i < length fine → label coarse i ≤ label fine i
label_le fine coarse w v h i l =
    omega (arith, h i (label fine i) l (label-lt fine w i l) (Together-label fine w i), v.low (label fine i))

-- two lists of labels with one relation are one list
pub labels_same : (one other : List ℕ) → IsLabels one → IsLabels other → length one ≡ length other → IsFiner one other → IsFiner other one → one ≡ other
labels_same one other w v e h h' =
    ext_get_or 0 one other e (λ i l.
    let m : i < length other = omega arith in
    get_or_default one i 0 i l ∙ (omega (arith, label_le one other w v h i l, label_le other one v w h' i m) ∙ sym (get_or_default other i 0 i m)))

-- a merge within a class changes nothing
pub merge-within : (labels : List ℕ) (a b : ℕ) → IsLabels labels → a < length labels → b < length labels → Together labels a b → merge labels a b ≡ labels
merge-within labels a b w la lb t =
    labels_same (merge labels a b) labels (IsLabels-merge labels a b w la lb) w (length-merge labels a b)
    (λ i j l m e. elim (merge-joined labels a b w la lb i j e) [ inl h ↦ h | inr r ↦ elim r [ inl p ↦ cc (p.0, p.1) | inr p ↦ cc (p.0, p.1) ] ])
    (λ i j l m e. merge-keeps labels a b w la lb i j e)

-- ---- many merges
-- both numbers of each pair are below k
abbrev pub PairsBelow : ℕ → List (ℕ × ℕ) → Type 0
PairsBelow k pairs = All (λ p. (p.0 < k) × (p.1 < k)) pairs

-- the two numbers of each pair are in one class
abbrev pub HoldsPairs : List ℕ → List (ℕ × ℕ) → Type 0
HoldsPairs labels pairs = All (λ p. Together labels p.0 p.1) pairs

pub length-merge_all : (labels : List ℕ) (pairs : List (ℕ × ℕ)) → length (merge_all labels pairs) ≡ length labels
length-merge_all labels [] = refl
length-merge_all labels (p ∷ pairs) = length-merge_all (merge labels p.0 p.1) pairs ∙ length-merge labels p.0 p.1

-- An equivalence on the numbers below k, of any kind
pub record IsEquivalenceBelow (k : ℕ) (E : ℕ → ℕ → Type 0) : Type 0 where
  pub itself : (i : ℕ) → i < k → E i i
  pub turned : (i j : ℕ) → i < k → j < k → E i j → E j i
  pub chained : (i j l : ℕ) → i < k → j < k → l < k → E i j → E j l → E i l

PairsBelow-head : (k : ℕ) (p : ℕ × ℕ) (pairs : List (ℕ × ℕ)) → PairsBelow k (p ∷ pairs) → (p.0 < k) × (p.1 < k)
PairsBelow-head k p pairs h = All-head (λ q. (q.0 < k) × (q.1 < k)) p pairs h

PairsBelow-tail : (k : ℕ) (p : ℕ × ℕ) (pairs : List (ℕ × ℕ)) → PairsBelow k (p ∷ pairs) → PairsBelow k pairs
PairsBelow-tail k p pairs h = All-tail (λ q. (q.0 < k) × (q.1 < k)) p pairs h

-- the premises of many merges, after the first of them
PairsBelow-merge : (labels : List ℕ) (p : ℕ × ℕ) (pairs : List (ℕ × ℕ)) → PairsBelow (length labels) (p ∷ pairs) → PairsBelow (length (merge labels p.0 p.1)) pairs
PairsBelow-merge labels p pairs h = rw length-merge (PairsBelow-tail (length labels) p pairs h)

pub IsLabels-merge_all : (labels : List ℕ) (pairs : List (ℕ × ℕ)) → IsLabels labels → PairsBelow (length labels) pairs → IsLabels (merge_all labels pairs)
IsLabels-merge_all labels [] w h = w
IsLabels-merge_all labels (p ∷ pairs) w h =
    let l = PairsBelow-head (length labels) p pairs h in
    IsLabels-merge_all (merge labels p.0 p.1) pairs (IsLabels-merge labels p.0 p.1 w l.0 l.1) (PairsBelow-merge labels p pairs h)

-- what was in one class still is
pub merge_all-keeps : (labels : List ℕ) (pairs : List (ℕ × ℕ)) → IsLabels labels → PairsBelow (length labels) pairs → (i j : ℕ) → Together labels i j → Together (merge_all labels pairs) i j
merge_all-keeps labels [] w h i j t = t
merge_all-keeps labels (p ∷ pairs) w h i j t =
    let l = PairsBelow-head (length labels) p pairs h in
    merge_all-keeps (merge labels p.0 p.1) pairs (IsLabels-merge labels p.0 p.1 w l.0 l.1) (PairsBelow-merge labels p pairs h) i j (merge-keeps labels p.0 p.1 w l.0 l.1 i j t)

-- the numbers of each pair are in one class
pub merge_all-holds : (labels : List ℕ) (pairs : List (ℕ × ℕ)) → IsLabels labels → PairsBelow (length labels) pairs → HoldsPairs (merge_all labels pairs) pairs
merge_all-holds labels [] w h = λ k d l. absurd (omega arith)
merge_all-holds labels (p ∷ pairs) w h =
    let l = PairsBelow-head (length labels) p pairs h in
    let v = IsLabels-merge labels p.0 p.1 w l.0 l.1 in
    let rest = PairsBelow-merge labels p pairs h in
    All-cons (λ q. Together (merge_all (merge labels p.0 p.1) pairs) q.0 q.1) p pairs
    (merge_all-keeps (merge labels p.0 p.1) pairs v rest p.0 p.1 (merge-same labels p.0 p.1 w l.0 l.1))
    (merge_all-holds (merge labels p.0 p.1) pairs v rest)

-- the classes lie in every equivalence that holds the old ones and each pair
pub merge_all-lies : (E : ℕ → ℕ → Type 0) (k : ℕ) → IsEquivalenceBelow k E → (labels : List ℕ) (pairs : List (ℕ × ℕ)) → length labels ≡ k → IsLabels labels → PairsBelow (length labels) pairs → ((i j : ℕ) → i < k → j < k → Together labels i j → E i j) → All (λ p. E p.0 p.1) pairs → (i j : ℕ) → i < k → j < k → Together (merge_all labels pairs) i j → E i j
merge_all-lies E k eq labels [] len w h old new i j li lj t = old i j li lj t
merge_all-lies E k eq labels (p ∷ pairs) len w h old new i j li lj t =
    let l = PairsBelow-head (length labels) p pairs h in
    let a = p.0 in
    let b = p.1 in
    let la : a < k = omega arith in
    let lb : b < k = omega arith in
    let here : E a b = All-head (λ q. E q.0 q.1) p pairs new in
    merge_all-lies E k eq (merge labels a b) pairs (length-merge labels a b ∙ len) (IsLabels-merge labels a b w l.0 l.1) (PairsBelow-merge labels p pairs h)
    (λ x y lx ly e. elim (merge-joined labels a b w l.0 l.1 x y e) [
      | inl t' ↦ old x y lx ly t'
      | inr r ↦
          elim r [
            | inl q ↦ eq.chained x a y lx la ly (old x a lx la q.0) (eq.chained a b y la lb ly here (old b y lb ly q.1))
            | inr q ↦ eq.chained x b y lx lb ly (old x b lx lb q.0) (eq.chained b a y lb la ly (eq.turned a b la lb here) (old a y la ly q.1))
          ]
    ])
    (All-tail (λ q. E q.0 q.1) p pairs new) i j li lj t

-- two lists of pairs, each held by the classes that the other makes, make the same classes
pub merge_all-same : (labels : List ℕ) (pairs others : List (ℕ × ℕ)) → IsLabels labels → PairsBelow (length labels) pairs → PairsBelow (length labels) others → HoldsPairs (merge_all labels others) pairs → HoldsPairs (merge_all labels pairs) others → merge_all labels pairs ≡ merge_all labels others
merge_all-same labels pairs others w below below' h h' =
    let one = merge_all labels pairs in
    let other = merge_all labels others in
    let k = length labels in
    let n = length-merge_all labels pairs in
    let n' = length-merge_all labels others in
    labels_same one other (IsLabels-merge_all labels pairs w below) (IsLabels-merge_all labels others w below') (n ∙ sym n')
    (λ i j l m t. merge_all-lies (Together other) k (record { itself = λ i l. refl; turned = λ i j l m e. sym e; chained = λ i j o l m n e e'. e ∙ e' }) labels pairs refl w below (λ i j l m t. merge_all-keeps labels others w below' i j t) h i j (omega arith) (omega arith) t)
    (λ i j l m t. merge_all-lies (Together one) k (record { itself = λ i l. refl; turned = λ i j l m e. sym e; chained = λ i j o l m n e e'. e ∙ e' }) labels others refl w below' (λ i j l m t. merge_all-keeps labels pairs w below i j t) h' i j (omega arith) (omega arith) t)

-- ---- the classes of pairs
pub length-classes : (k : ℕ) (pairs : List (ℕ × ℕ)) → length (classes k pairs) ≡ k
length-classes k pairs = length-merge_all (alone k) pairs ∙ length-alone k

PairsBelow-alone : (k : ℕ) (pairs : List (ℕ × ℕ)) → PairsBelow k pairs → PairsBelow (length (alone k)) pairs
PairsBelow-alone k pairs h = rw length-alone h

pub IsLabels-classes : (k : ℕ) (pairs : List (ℕ × ℕ)) → PairsBelow k pairs → IsLabels (classes k pairs)
IsLabels-classes k pairs h = IsLabels-merge_all (alone k) pairs (IsLabels-alone k) (PairsBelow-alone k pairs h)

-- the numbers of each pair are in one class
pub classes-holds : (k : ℕ) (pairs : List (ℕ × ℕ)) → PairsBelow k pairs → HoldsPairs (classes k pairs) pairs
classes-holds k pairs h = merge_all-holds (alone k) pairs (IsLabels-alone k) (PairsBelow-alone k pairs h)

-- the classes of pairs lie in every equivalence that holds each pair
pub classes-lies : (E : ℕ → ℕ → Type 0) (k : ℕ) → IsEquivalenceBelow k E → (pairs : List (ℕ × ℕ)) → PairsBelow k pairs → All (λ p. E p.0 p.1) pairs → (i j : ℕ) → i < k → j < k → Together (classes k pairs) i j → E i j
classes-lies E k eq pairs h new =
    merge_all-lies E k eq (alone k) pairs (length-alone k) (IsLabels-alone k) (PairsBelow-alone k pairs h)
    (λ i j l m t. let e : i ≡ j = sym (label-alone k i) ∙ (t ∙ label-alone k j) in subst (λ x. E i x) e (eq.itself i l)) new

-- what is one at the two numbers of each pair is one on each class
pub classes-marked : {X : Type 0} (mark : ℕ → X) (k : ℕ) (pairs : List (ℕ × ℕ)) → PairsBelow k pairs → All (λ p. mark p.0 ≡ mark p.1) pairs → (i j : ℕ) → i < k → j < k → Together (classes k pairs) i j → mark i ≡ mark j
classes-marked mark k pairs h new =
    classes-lies (λ i j. mark i ≡ mark j) k (record { itself = λ i l. refl; turned = λ i j l m e. sym e; chained = λ i j o l m n e e'. e ∙ e' }) pairs h new
