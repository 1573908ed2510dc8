-- Edges that join the same two vertices, counted.
use Rattle.std.proofs.Common.{ℕ, zero, suc, ◌+◌, ◌-◌, ◌/◌, ◌%◌, ◌<◌, ◌≤◌, ◌≡◌, ◌≢◌, ◌⊎◌, ◌==◌, Bool, true, false, inl, inr, ⊎_elim, List, [], ◌∷◌, map, length, get_or, take, cond, Option, Some, MatchOption, refl, sym, ap, ap₂, ◌∙◌, subst, arith}
use Rattle.std.specs.Prelude.{nat_lt}
use Rattle.std.specs.List.{HoldsAt, All, Contains, count_by}
use Rattle.std.specs.List.Sorted.{IsPermutation, IsNonDecreasing}
use Rattle.std.proofs.lemmas.Bool.Decides.{nat_tests}
use Rattle.std.proofs.lemmas.List.{get_or_default}
use Rattle.std.proofs.lemmas.List.Elements.{All-nil, All-cons, All-head, All-tail, All-contains}
use Rattle.std.proofs.lemmas.List.Sorted.{All-permutation, Contains-permutation, IsPermutation-sym, sum_by-IsPermutation}
use Rattle.std.proofs.lemmas.List.Sums.{sum_by-cons}
use Rattle.graphs.specs.Graphs.{Edge, ComesBefore}
use Rattle.pigale_c.specs.EdgeLists.{IsBetween, is_between, times_joined, Joins, AreProper, IsEdgeFault, AreEdgesOf, edge_at, dart_key, darts_in, rising_of, IsEdge, RiseFrom, NeverFalls, SameEnds}
use Rattle.pigale_c.specs.declared.edges.EdgeEnds.{EdgeEnds}
use Rattle.pigale_c.specs.declared.outcome.EdgeFault.TheVariants.{Twice}
use Rattle.pigale_c.proofs.EdgeListLemmas.{from_darts_in, to_darts_in}

-- of the first i edges none joins v and u, or this one alone
abbrev pub IsFirstJoined : ℕ → ℕ → List EdgeEnds → ℕ → Option ℕ → Type 0
IsFirstJoined v u edges i first =
    MatchOption first (times_joined v u (take i edges) ≡ 0) (λ j. (times_joined v u (take i edges) ≡ 1) × (j < i) × HoldsAt (IsBetween v u) edges j)

pub from_test : (v u : ℕ) (e : EdgeEnds) → is_between v u e ≡ true → IsBetween v u e
from_test v u e is = grind (arith, nat_tests)

pub to_test : (v u : ℕ) (e : EdgeEnds) → IsBetween v u e → is_between v u e ≡ true
to_test v u e (inl is) = grind (arith, nat_tests, is.0, is.1)
to_test v u e (inr is) = grind (arith, nat_tests, is.0, is.1)

-- the edge at a place joins them, whatever stands for a missing one
pub joined_at : (v u : ℕ) (edges : List EdgeEnds) (i : ℕ) (e : EdgeEnds) → i < length edges → is_between v u (get_or edges i e) ≡ true → HoldsAt (IsBetween v u) edges i
joined_at v u edges i e l is d = subst (λ (f : EdgeEnds). IsBetween v u f) (get_or_default edges i e d l) (from_test v u (get_or edges i e) is)

pub second_joined : (n v u : ℕ) (edges : List EdgeEnds) (i : ℕ) (first : Option ℕ) (j : ℕ) → first ≡ Some j → IsFirstJoined v u edges i first → i < length edges → HoldsAt (IsBetween v u) edges i → IsEdgeFault n edges (Twice j i)
second_joined n v u edges i first j is h l here =
    let k = subst (λ (f : Option ℕ). IsFirstJoined v u edges i f) is h in
    (k.1, l, v, u, k.2, here)

-- ---- the edges of sorted darts

-- the edges of those darts that rise
two_ways : (b : Bool) → (b ≡ true) ⊎ (b ≡ false)
two_ways true = inl refl
two_ways false = inr refl

abbrev rises : ℕ → Bool
rises k = nat_lt (k / 65536) (k % 65536)

abbrev edge_of_dart : ℕ → EdgeEnds
edge_of_dart k = record { a = k / 65536; b = k % 65536 }

risen : (k : ℕ) (darts : List ℕ) → rises k ≡ true → rising_of (k ∷ darts) ≡ edge_of_dart k ∷ rising_of darts
risen k darts is = rw is

fallen : (k : ℕ) (darts : List ℕ) → rises k ≡ false → rising_of (k ∷ darts) ≡ rising_of darts
fallen k darts is = rw is

abbrev FromRising : List ℕ → ℕ → ℕ → Type 0
FromRising darts a b = (a < b) × (b < 65536) × Contains darts (dart_key a b)

behind : (k : ℕ) (darts : List ℕ) (a b : ℕ) → FromRising darts a b → FromRising (k ∷ darts) a b
behind k darts a b r = (r.0, r.1, (suc r.2.0, omega (arith, r.2.1), r.2.2))

from_first : (k : ℕ) (darts : List ℕ) (a b : ℕ) → (Contains (map edge_at (rising_of darts)) (a, b) → FromRising darts a b) → Contains (map edge_at (edge_of_dart k ∷ rising_of darts)) (a, b) → rises k ≡ true → FromRising (k ∷ darts) a b
from_first k darts a b later (zero, l, is) up =
    let low : k / 65536 ≡ a = ap (λ (e : Edge). e.0) is in
    let high : k % 65536 ≡ b = ap (λ (e : Edge). e.1) is in
    let less : k / 65536 < k % 65536 = grind (arith, nat_tests, up) in
    (omega (arith, low, high, less), omega (arith, high), (zero, omega arith, omega (arith, low, high)))
from_first k darts a b later (suc i, l, is) up = behind k darts a b (later (i, omega (arith, l), is))

from_rising : (darts : List ℕ) (a b : ℕ) → Contains (map edge_at (rising_of darts)) (a, b) → FromRising darts a b
from_rising [] a b h = absurd (omega (arith, h.1))
from_rising (k ∷ darts) a b h = ⊎_elim
    (λ up. from_first k darts a b (from_rising darts a b) (subst (λ (es : List EdgeEnds). Contains (map edge_at es) (a, b)) (risen k darts up) h) up)
    (λ down. behind k darts a b (from_rising darts a b (subst (λ (es : List EdgeEnds). Contains (map edge_at es) (a, b)) (fallen k darts down) h)))
    (two_ways (rises k))

to_rising : (darts : List ℕ) (a b : ℕ) → a < b → b < 65536 → Contains darts (dart_key a b) → Contains (map edge_at (rising_of darts)) (a, b)
to_rising [] a b l m h = absurd (omega (arith, h.1))
to_rising (k ∷ darts) a b l m (zero, n, is) =
    let low : k / 65536 ≡ a = omega (arith, is, m) in
    let high : k % 65536 ≡ b = omega (arith, is, m) in
    let up : rises k ≡ true = grind (arith, nat_tests, low, high, l) in
    subst (λ (es : List EdgeEnds). Contains (map edge_at es) (a, b)) (sym (risen k darts up)) (zero, omega arith, ap₂ (λ (x y : ℕ). (x, y)) low high)
to_rising (k ∷ darts) a b l m (suc i, n, is) =
    let r = to_rising darts a b l m (i, omega (arith, n), is) in
    ⊎_elim
    (λ up. subst (λ (es : List EdgeEnds). Contains (map edge_at es) (a, b)) (sym (risen k darts up)) (suc r.0, omega (arith, r.1), r.2))
    (λ down. subst (λ (es : List EdgeEnds). Contains (map edge_at es) (a, b)) (sym (fallen k darts down)) r)
    (two_ways (rises k))

-- they join two vertices as often as the darts have the one to the greater
abbrev is_key : ℕ → ℕ → ℕ → Bool
is_key a b k = k == dart_key a b

count_cons : {X : Type 0} (p : X → Bool) (x : X) (xs : List X) → count_by p (x ∷ xs) ≡ cond (p x) 1 0 + count_by p xs
count_cons p x xs = sum_by-cons (λ y. cond (p y) 1 0) x xs

times_rising : (darts : List ℕ) (a b : ℕ) → a < b → b < 65536 → times_joined a b (rising_of darts) ≡ count_by (is_key a b) darts
times_rising [] a b l m = refl
times_rising (k ∷ darts) a b l m = ⊎_elim
    (λ up.
    ap (λ (es : List EdgeEnds). times_joined a b es) (risen k darts up)
    ∙ count_cons (is_between a b) (edge_of_dart k) (rising_of darts)
    ∙ ap (λ (t : Bool). cond t 1 0 + times_joined a b (rising_of darts)) (same up)
    ∙ ap (λ (t : ℕ). cond (is_key a b k) 1 0 + t) (times_rising darts a b l m)
    ∙ sym (count_cons (is_key a b) k darts))
    (λ down.
    let zero : cond (is_key a b k) 1 0 ≡ 0 = ap {B = ℕ} (λ (t : Bool). cond t 1 0) (none down) in
    omega (arith, ap {B = ℕ} (λ (es : List EdgeEnds). times_joined a b es) (fallen k darts down), times_rising darts a b l m, count_cons (is_key a b) k darts, zero))
    (two_ways (rises k))
  where
    same : rises k ≡ true → is_between a b (edge_of_dart k) ≡ is_key a b k
    same up = let less : k / 65536 < k % 65536 = grind (arith, nat_tests, up) in grind (arith, nat_tests, less, l, m)

    none : rises k ≡ false → is_key a b k ≡ false
    none down = let more : k % 65536 ≤ k / 65536 = grind (arith, nat_tests, down) in grind (arith, nat_tests, more, l, m)

times_darts : (n : ℕ) (edges : List EdgeEnds) (a b : ℕ) → n < 4096 → AreProper n edges → a < b → b < 65536 → count_by (is_key a b) (darts_in edges) ≡ times_joined a b edges
times_darts n [] a b few proper l m = refl
times_darts n (e ∷ edges) a b few proper l m =
    count_cons (is_key a b) (dart_key e.a e.b) (dart_key e.b e.a ∷ darts_in edges)
    ∙ ap (λ (t : ℕ). cond (is_key a b (dart_key e.a e.b)) 1 0 + t) (count_cons (is_key a b) (dart_key e.b e.a) (darts_in edges) ∙ ap (λ (t : ℕ). cond (is_key a b (dart_key e.b e.a)) 1 0 + t) (times_darts n edges a b few (All-tail (λ (f : EdgeEnds). (f.a < n) × (f.b < n) × (f.a ≢ f.b)) e edges proper) l m))
    ∙ one (times_joined a b edges)
    ∙ sym (count_cons (is_between a b) e edges)
  where
    one : (t : ℕ) → cond (is_key a b (dart_key e.a e.b)) 1 0 + (cond (is_key a b (dart_key e.b e.a)) 1 0 + t) ≡ cond (is_between a b e) 1 0 + t
    one t =
        let h = All-head (λ (f : EdgeEnds). (f.a < n) × (f.b < n) × (f.a ≢ f.b)) e edges proper in
        grind (arith, nat_tests, h.0, h.1, h.2, few, l, m)

-- there are as many of them as edges
length_rising : (darts : List ℕ) → length (rising_of darts) ≡ count_by rises darts
length_rising [] = refl
length_rising (k ∷ darts) = ⊎_elim
    (λ up. ap (λ (es : List EdgeEnds). length es) (risen k darts up) ∙ omega (arith, length_rising darts, count_cons rises k darts, ap {B = ℕ} (λ (t : Bool). cond t 1 0) up))
    (λ down. ap (λ (es : List EdgeEnds). length es) (fallen k darts down) ∙ omega (arith, length_rising darts, count_cons rises k darts, ap {B = ℕ} (λ (t : Bool). cond t 1 0) down))
    (two_ways (rises k))

rising_darts : (n : ℕ) (edges : List EdgeEnds) → n < 4096 → AreProper n edges → count_by rises (darts_in edges) ≡ length edges
rising_darts n [] few proper = refl
rising_darts n (e ∷ edges) few proper =
    count_cons rises (dart_key e.a e.b) (dart_key e.b e.a ∷ darts_in edges)
    ∙ ap (λ (t : ℕ). cond (rises (dart_key e.a e.b)) 1 0 + t) (count_cons rises (dart_key e.b e.a) (darts_in edges) ∙ ap (λ (t : ℕ). cond (rises (dart_key e.b e.a)) 1 0 + t) (rising_darts n edges few (All-tail (λ (f : EdgeEnds). (f.a < n) × (f.b < n) × (f.a ≢ f.b)) e edges proper)))
    ∙ one (length edges)
  where
    one : (t : ℕ) → cond (rises (dart_key e.a e.b)) 1 0 + (cond (rises (dart_key e.b e.a)) 1 0 + t) ≡ suc t
    one t =
        let h = All-head (λ (f : EdgeEnds). (f.a < n) × (f.b < n) × (f.a ≢ f.b)) e edges proper in
        let ab : dart_key e.a e.b / 65536 ≡ e.a = omega (arith, h.1, few) in
        let ab' : dart_key e.a e.b % 65536 ≡ e.b = omega (arith, h.1, few) in
        let ba : dart_key e.b e.a / 65536 ≡ e.b = omega (arith, h.0, few) in
        let ba' : dart_key e.b e.a % 65536 ≡ e.a = omega (arith, h.0, few) in
        grind (arith, nat_tests, ab, ab', ba, ba', h.2)

-- ---- no two of them alike

one_there : (v u : ℕ) (edges : List EdgeEnds) (j : ℕ) → j < length edges → HoldsAt (IsBetween v u) edges j → 0 < times_joined v u edges
one_there v u [] j m one = absurd (omega (arith, m))
one_there v u (e ∷ edges) zero m one =
    let here : cond (is_between v u e) 1 0 ≡ 1 = ap {B = ℕ} (λ (t : Bool). cond t 1 0) (to_test v u e (one e)) in
    omega (arith, here, count_cons (is_between v u) e edges)
one_there v u (e ∷ edges) (suc j) m one = omega (arith, count_cons (is_between v u) e edges, one_there v u edges j (omega (arith, m)) one)

-- an edge stands at two places: it is counted twice
pub two_there : (v u : ℕ) (edges : List EdgeEnds) (i j : ℕ) → i < j → j < length edges → HoldsAt (IsBetween v u) edges i → HoldsAt (IsBetween v u) edges j → 2 ≤ times_joined v u edges
two_there v u [] i j l m one two = absurd (omega (arith, m))
two_there v u (e ∷ edges) i zero l m one two = absurd (omega (arith, l))
two_there v u (e ∷ edges) zero (suc j) l m one two =
    let here : cond (is_between v u e) 1 0 ≡ 1 = ap {B = ℕ} (λ (t : Bool). cond t 1 0) (to_test v u e (one e)) in
    omega (arith, here, count_cons (is_between v u) e edges, one_there v u edges j (omega (arith, m)) two)
two_there v u (e ∷ edges) (suc i) (suc j) l m one two =
    omega (arith, count_cons (is_between v u) e edges, two_there v u edges i j (omega (arith, l)) (omega (arith, m)) one two)

-- two neighbours in a list that are alike
pub alike_twice : (edges : List EdgeEnds) (i : ℕ) (e f : EdgeEnds) → 1 ≤ i → i < length edges → (get_or edges (i - 1) e).a ≡ (get_or edges i f).a → (get_or edges (i - 1) e).b ≡ (get_or edges i f).b
    → 2 ≤ times_joined (get_or edges i f).a (get_or edges i f).b edges
alike_twice edges i e f l m first second =
    two_there (get_or edges i f).a (get_or edges i f).b edges (i - 1) i (omega arith) m
    (λ d. inl (
      ap (λ (g : EdgeEnds). g.a) (get_or_default edges (i - 1) d e (omega arith)) ∙ first,
      ap (λ (g : EdgeEnds). g.b) (get_or_default edges (i - 1) d e (omega arith)) ∙ second,
    ))
    (λ d. inl (ap (λ (g : EdgeEnds). g.a) (get_or_default edges i d f m), ap (λ (g : EdgeEnds). g.b) (get_or_default edges i d f m)))

-- ---- sorted edges rise where no two are alike

abbrev key : EdgeEnds → ℕ
key e = dart_key e.a e.b

all_behind : (k : ℕ) (darts : List ℕ) → All (λ (j : ℕ). k ≤ j) darts → All (λ (f : EdgeEnds). k ≤ key f) (rising_of darts)
all_behind k [] h = All-nil (λ (f : EdgeEnds). k ≤ key f)
all_behind k (j ∷ darts) h =
    let rest = all_behind k darts (All-tail (λ (i : ℕ). k ≤ i) j darts h) in
    let here : k ≤ key (edge_of_dart j) = omega (arith, All-head (λ (i : ℕ). k ≤ i) j darts h) in
    ⊎_elim
    (λ up. subst (λ (es : List EdgeEnds). All (λ (f : EdgeEnds). k ≤ key f) es) (sym (risen j darts up)) (All-cons (λ (f : EdgeEnds). k ≤ key f) (edge_of_dart j) (rising_of darts) here rest))
    (λ down. subst (λ (es : List EdgeEnds). All (λ (f : EdgeEnds). k ≤ key f) es) (sym (fallen j darts down)) rest)
    (two_ways (rises j))

never_falls : (darts : List ℕ) → IsNonDecreasing darts → NeverFalls (rising_of darts)
never_falls [] h = tt
never_falls (k ∷ darts) h =
    let rest = never_falls darts (λ i j d l m. h (suc i) (suc j) d (omega (arith, l)) (omega (arith, m))) in
    let behind : All (λ (j : ℕ). k ≤ j) darts = λ j d m. h 0 (suc j) d (omega arith) (omega (arith, m)) in
    let all = all_behind k darts behind in
    let same : key (edge_of_dart k) ≡ k = omega arith in
    ⊎_elim
    (λ up. subst (λ (es : List EdgeEnds). NeverFalls es) (sym (risen k darts up)) (subst (λ (j : ℕ). All (λ (f : EdgeEnds). j ≤ key f) (rising_of darts)) (sym same) all, rest))
    (λ down. subst (λ (es : List EdgeEnds). NeverFalls es) (sym (fallen k darts down)) rest)
    (two_ways (rises k))

rising_ends : (n : ℕ) (darts : List ℕ) → n < 4096 → All (λ (k : ℕ). k % 65536 < n) darts → All (IsEdge n) (rising_of darts)
rising_ends n [] few h = All-nil (IsEdge n)
rising_ends n (k ∷ darts) few h =
    let rest = rising_ends n darts few (All-tail (λ (i : ℕ). i % 65536 < n) k darts h) in
    ⊎_elim
    (λ up.
    let less : k / 65536 < k % 65536 = grind (arith, nat_tests, up) in
    subst (λ (es : List EdgeEnds). All (IsEdge n) es) (sym (risen k darts up)) (All-cons (IsEdge n) (edge_of_dart k) (rising_of darts) (less, All-head (λ (i : ℕ). i % 65536 < n) k darts h) rest))
    (λ down. subst (λ (es : List EdgeEnds). All (IsEdge n) es) (sym (fallen k darts down)) rest)
    (two_ways (rises k))

-- the head of each dart is a vertex
heads_below : (n : ℕ) (edges : List EdgeEnds) → n < 4096 → AreProper n edges → All (λ (k : ℕ). k % 65536 < n) (darts_in edges)
heads_below n [] few proper = All-nil (λ (k : ℕ). k % 65536 < n)
heads_below n (e ∷ edges) few proper =
    let h = All-head (λ (f : EdgeEnds). (f.a < n) × (f.b < n) × (f.a ≢ f.b)) e edges proper in
    All-cons (λ (k : ℕ). k % 65536 < n) (dart_key e.a e.b) (dart_key e.b e.a ∷ darts_in edges) (omega (arith, h.1, few))
    (All-cons (λ (k : ℕ). k % 65536 < n) (dart_key e.b e.a) (darts_in edges) (omega (arith, h.0, few))
    (heads_below n edges few (All-tail (λ (f : EdgeEnds). (f.a < n) × (f.b < n) × (f.a ≢ f.b)) e edges proper)))

-- an edge that is not before another, and is not it, comes after it
comes_before : (n : ℕ) (e f : EdgeEnds) → n < 4096 → e.b < 65536 → f.b < n → key e ≤ key f → ¬ SameEnds e f → ComesBefore (edge_at e) (edge_at f)
comes_before n e f few m l le other = ⊎_elim
    (λ less. inl less)
    (λ no.
    let same : e.a ≡ f.a = omega (arith, no, le, l, m, few) in
    inr (same, ⊎_elim (λ less. less) (λ k. absurd (other (same, omega (arith, k, same, le)))) (less_or e.b f.b)))
    (less_or e.a f.a)
  where
    less_or : (a b : ℕ) → (a < b) ⊎ (b ≤ a)
    less_or zero zero = inr (omega arith)
    less_or zero (suc b) = inl (omega arith)
    less_or (suc a) zero = inr (omega arith)
    less_or (suc a) (suc b) = ⊎_elim (λ l. inl (omega (arith, l))) (λ l. inr (omega (arith, l))) (less_or a b)

rise_from : (n : ℕ) (last : EdgeEnds) (edges : List EdgeEnds) → n < 4096 → last.b < 65536 → All (IsEdge n) edges → All (λ (f : EdgeEnds). key last ≤ key f) edges → NeverFalls edges
    → ((k : ℕ) (d : EdgeEnds) → k < length edges → ¬ SameEnds (get_or (last ∷ edges) k d) (get_or edges k d)) → RiseFrom n last edges
rise_from n last [] few m ends behind up other = tt
rise_from n last (e ∷ edges) few m ends behind up other =
    let here = All-head (IsEdge n) e edges ends in (
      (here, comes_before n last e few m here.1 (All-head (λ (f : EdgeEnds). key last ≤ key f) e edges behind) (other 0 e (omega arith))),
      rise_from n e edges few (omega (arith, here.1, few)) (All-tail (IsEdge n) e edges ends) up.0 up.1 (λ k d l. other (suc k) d (omega (arith, l))),
    )

pub rise_all : (n : ℕ) (edges : List EdgeEnds) → n < 4096 → All (IsEdge n) edges → NeverFalls edges → ((k : ℕ) (d : EdgeEnds) → k + 1 < length edges → ¬ SameEnds (get_or edges k d) (get_or edges (k + 1) d)) → RiseFrom n (record { a = 0; b = 0 }) edges
rise_all n [] few ends up other = tt
rise_all n (e ∷ edges) few ends up other =
    let here = All-head (IsEdge n) e edges ends in (
      (here, comes_before n (record { a = 0; b = 0 }) e few (omega arith) here.1 (omega arith) (λ same. omega (arith, here.0, same.1))),
      rise_from n e edges few (omega (arith, here.1, few)) (All-tail (IsEdge n) e edges ends) up.0 up.1
          (λ k d l. let more : k + 1 ≡ suc k = omega arith in subst (λ (i : ℕ). ¬ SameEnds (get_or (e ∷ edges) k d) (get_or (e ∷ edges) i d)) more (other k d (omega (arith, l)))),
    )

pub sorted-edges : (n : ℕ) (edges : List EdgeEnds) (darts : List ℕ) → n < 4096 → AreProper n edges → IsPermutation (darts_in edges) darts → IsNonDecreasing darts → AreEdgesOf n edges (rising_of darts)
sorted-edges n edges darts few proper moved sorted = record {
  same = λ a b. (there a b, back a b);
  times = λ a b l m. times_rising darts a b l (omega (arith, m, few)) ∙ sum_by-IsPermutation (λ k. cond (is_key a b k) 1 0) (darts_in edges) darts moved ∙ times_darts n edges a b few proper l (omega (arith, m, few));
  ends = rising_ends n darts few (All-permutation (λ (k : ℕ). k % 65536 < n) (darts_in edges) darts moved (heads_below n edges few proper));
  order = never_falls darts sorted;
  count = length_rising darts ∙ sum_by-IsPermutation (λ k. cond (rises k) 1 0) (darts_in edges) darts moved ∙ rising_darts n edges few proper;
}
  where
    there : (a b : ℕ) → Contains (map edge_at (rising_of darts)) (a, b) → (a < b) × Joins edges a b
    there a b h =
        let r = from_rising darts a b h in
        let d = from_darts_in edges (dart_key a b) (Contains-permutation darts (darts_in edges) (dart_key a b) (IsPermutation-sym (darts_in edges) darts moved) r.2) in
        (r.0, (d.0, d.1, between a b d.0 r.1 (All-contains (λ (e : EdgeEnds). (e.a < n) × (e.b < n) × (e.a ≢ e.b)) edges d.0 proper d.1) d.2))
      where
        between : (v u : ℕ) (e : EdgeEnds) → u < 65536 → (e.a < n) × (e.b < n) × (e.a ≢ e.b) → ((dart_key v u ≡ dart_key e.a e.b) ⊎ (dart_key v u ≡ dart_key e.b e.a)) → IsBetween v u e
        between v u e small l (inl is) = inl (omega (arith, is, l.0, l.1, few), omega (arith, is, l.0, l.1, few))
        between v u e small l (inr is) = inr (omega (arith, is, l.0, l.1, few), omega (arith, is, l.0, l.1, few))

    back : (a b : ℕ) → (a < b) × Joins edges a b → Contains (map edge_at (rising_of darts)) (a, b)
    back a b (l, (e, has, is)) =
        let h = All-contains (λ (e : EdgeEnds). (e.a < n) × (e.b < n) × (e.a ≢ e.b)) edges e proper has in
        let key = key_of e is in
        to_rising darts a b l (below e h is) (Contains-permutation (darts_in edges) darts (dart_key a b) moved (to_darts_in edges (dart_key a b) (e, has, key)))
      where
        key_of : (e : EdgeEnds) → IsBetween a b e → (dart_key a b ≡ dart_key e.a e.b) ⊎ (dart_key a b ≡ dart_key e.b e.a)
        key_of e (inl is) = inl (omega (arith, is.0, is.1))
        key_of e (inr is) = inr (omega (arith, is.0, is.1))

        below : (e : EdgeEnds) → (e.a < n) × (e.b < n) × (e.a ≢ e.b) → IsBetween a b e → b < 65536
        below e h (inl is) = omega (arith, is.1, h.1, few)
        below e h (inr is) = omega (arith, is.0, h.0, few)
