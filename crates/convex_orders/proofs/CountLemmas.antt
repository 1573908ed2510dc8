-- Counts along lists, one vertex or edge more at a time, and after a part went and another came.
use Rattle.std.proofs.Common.{◌≡◌, ℕ, suc, ◌+◌, ◌-◌, ◌<◌, ◌≤◌, cond, eqb, List, length, get_or, slice_index, take, set, get_or-set_same, get_or-set_other, count_by, All, refl, sym, ap, ◌∙◌, subst, inl, inr, arith, eq-eqb, ne_eqb}
use Rattle.std.specs.Prelude.{slice_range, ◌++◌}
use Rattle.std.proofs.Math.Seq.{take-append_seam}
use Rattle.std.proofs.lemmas.Bool.{cases_eq}
use Rattle.std.proofs.lemmas.List.Sums.{sum_by-take-le, count_by_more_yes, count_by_more_no}
use Rattle.std.proofs.lemmas.List.{get_or_default}
use Rattle.simple_maps.proofs.FlatLemmas.{get_or-slice_range, length-slice_range}
use Rattle.classes.specs.Classes.{count_below}
use Rattle.classes.proofs.Counting.{count_below_same, count_below-le}
use Rattle.map_lists.specs.Lists.{Lists}
use Rattle.map_theory.specs.Maps.{list_of}
use Rattle.map_theory.proofs.DartCounts.{sum_below, sum_below-same}
use Rattle.convex_orders.specs.FaceNumbers.{entry, IsTable}
use Rattle.convex_orders.specs.declared.contour_counts.ContourCounts.{ContourCounts}
use Rattle.convex_orders.specs.declared.count_direction.Way.{Way}
use Rattle.convex_orders.specs.declared.count_direction.Way.TheVariants.{Comes, Goes}
use Rattle.convex_orders.specs.Contours.{inner_number, number_at, AreInner}
use Rattle.convex_orders.specs.Counts.{met_at, met_below, numbered_below, edges_below, met_between, edges_between, AreCounts}
use Rattle.convex_orders.specs.Moved.{AreMoved}
use Rattle.convex_orders.specs.Ways.{CanMove, IsMoved}
use Rattle.convex_orders.proofs.ContourCountsRows.{entry-lt}
use Rattle.convex_orders.proofs.Sums.{sum_below-three, sum_below-mono, count_below-three, count_below-mono}

-- the first entries have a number at most as often as all
pub entries_to : (us : List ℕ) (n f : ℕ) → count_by (λ u. eqb u f) (take n us) ≤ count_by (λ u. eqb u f) us
entries_to us n f = sum_by-take-le (λ u. cond (eqb u f) 1 0) us n

-- one place more
pub met_more : (own : Lists) (ws : List ℕ) (i f : ℕ) → met_below own ws (i + 1) f ≡ met_below own ws i f + met_at own f (slice_index ws i)
met_more own ws i f = let z : i + 1 ≡ suc i = omega arith in ap (λ n. met_below own ws n f) z

pub met_within : (own : Lists) (ws : List ℕ) (i n f : ℕ) → i < n → met_below own ws i f + met_at own f (slice_index ws i) ≤ met_below own ws n f
met_within own ws i n f l = omega (arith, met_more own ws i f, sum_below-mono (λ k. met_at own f (slice_index ws k)) (i + 1) n (omega arith))

pub numbered_more : (number : ℕ → ℕ) (i f : ℕ) → numbered_below number (i + 1) f ≡ numbered_below number i f + cond (eqb (number i) f) 1 0
numbered_more number i f = let z : i + 1 ≡ suc i = omega arith in ap (λ n. numbered_below number n f) z

pub numbered_to : (number : ℕ → ℕ) (i n f : ℕ) → i < n → numbered_below number (i + 1) f ≤ numbered_below number n f
numbered_to number i n f l = count_below-mono (λ k. eqb (number k) f) (i + 1) n (omega arith)

pub edges_le : (lists own : Lists) (ws : List ℕ) (n f : ℕ) → edges_below lists own ws n f ≤ n
edges_le lists own ws n f = count_below-le (λ k. eqb (inner_number lists own ws k) f) n

-- the rows have numbers below the count
pub rows_below : (lists own : Lists) (count many : ℕ) → IsTable lists own count → many ≡ count → (v : ℕ) → v < length own → All (λ f. f < many) (list_of own v)
rows_below lists own count many t e v l = λ k d m.
    omega (arith, get_or_default (list_of own v) k d 0 m)

pub part_vertices : (ws : List ℕ) (first last n : ℕ) → first < last → last < length ws → ((i : ℕ) → i < length ws → slice_index ws i < n) → (i : ℕ) → i < length (slice_range ws (first + 1) last) → slice_index (slice_range ws (first + 1) last) i < n
part_vertices ws first last n l m all i k =
    let long = length-slice_range ws (first + 1) last (omega arith) (omega arith) in
    omega (arith, get_or-slice_range ws (first + 1) last i (omega arith), all (first + 1 + i) (omega arith))

pub part_starts : (ws : List ℕ) (first last n : ℕ) → first < last → last < length ws → ((i : ℕ) → i < length ws → slice_index ws i < n) → (i : ℕ) → suc i < length (slice_range ws first (last + 1)) → slice_index (slice_range ws first (last + 1)) i < n
part_starts ws first last n l m all i k =
    let long = length-slice_range ws first (last + 1) (omega arith) (omega arith) in
    omega (arith, get_or-slice_range ws first (last + 1) i (omega arith), all (first + i) (omega arith))

-- the part has numbers below the count too
pub part_below : (ws inner : List ℕ) (first last count : ℕ) → first < last → last < length ws → ((i : ℕ) → suc i < length ws → number_at inner ws i < count) → (i : ℕ) → suc i < length (slice_range ws first (last + 1)) → number_at inner (slice_range ws first (last + 1)) i < count
part_below ws inner first last count l m all i k =
    let long = length-slice_range ws first (last + 1) (omega arith) (omega arith) in
    subst (λ v. slice_index inner v < count) (sym (get_or-slice_range ws first (last + 1) i (omega arith))) (all (first + i) (omega arith))

-- a count moved on
pub IsMoved-more : (way : Way) (old a b mid new : ℕ) → IsMoved way old a mid → IsMoved way mid b new → IsMoved way old (a + b) new
IsMoved-more Comes old a b mid new h k = omega (arith, h, k)
IsMoved-more Goes old a b mid new h k = omega (arith, h, k)

pub CanMove-more : (way : Way) (old a b most mid : ℕ) → CanMove way old most → a + b ≤ most → IsMoved way old a mid → CanMove way mid b
CanMove-more Comes old a b most mid can l h = omega (arith, can, l, h)
CanMove-more Goes old a b most mid can l h = omega (arith, can, l, h)

pub IsMoved-none : (way : Way) (old : ℕ) → IsMoved way old 0 old
IsMoved-none Comes old = omega arith
IsMoved-none Goes old = omega arith

-- what is counted so far with x once more, and so its entry moved by one
module _ (way : Way) (so_far with_x : ℕ → ℕ) (old mid : List ℕ) (x : ℕ) (x_in : x < length mid) (one_more : (f : ℕ) → with_x f ≡ so_far f + cond (eqb x f) 1 0) (moved : (f : ℕ) → f < length mid → IsMoved way (slice_index old f) (so_far f) (slice_index mid f)) where
  pub can_one : (most : ℕ) → with_x x ≤ most → CanMove way (slice_index old x) most → CanMove way (slice_index mid x) 1
  can_one most l can =
      CanMove-more way (slice_index old x) (so_far x) 1 most (slice_index mid x) can
      (omega (arith, l, one_more x, ap {B = ℕ} (λ b. cond b 1 0) (eq-eqb x x refl))) (moved x x_in)

  pub moved_one : (y : ℕ) → IsMoved way (slice_index mid x) 1 y → (f : ℕ) → f < length mid → IsMoved way (slice_index old f) (with_x f) (slice_index (set mid x y) f)
  moved_one y one f l = grind (arith, cases_eq, cond, eq-eqb, IsMoved, slice_index, set, get_or-set_same, IsMoved-more, get_or-set_other, ne_eqb)

-- an entry more of a row
pub entries_more : (us : List ℕ) (i : ℕ) → i < length us → (f : ℕ) → count_by (λ u. eqb u f) (take (i + 1) us) ≡ count_by (λ u. eqb u f) (take i us) + cond (eqb (get_or us i 0) f) 1 0
entries_more us i l f =
    elim (cases_eq (get_or us i 0) f) [
      | inl e ↦ (let t = eq-eqb (get_or us i 0) f e in count_by_more_yes (λ u. eqb u f) us i 0 l t ∙ ap (λ b. count_by (λ u. eqb u f) (take i us) + cond b 1 0) (sym t))
      | inr ne ↦ (let t = ne_eqb (get_or us i 0) f ne in count_by_more_no (λ u. eqb u f) us i 0 l t ∙ omega (arith, ap {B = ℕ} (λ b. cond b 1 0) t))
    ]

-- a part of a list
pub met_part : (own : Lists) (ws : List ℕ) (first last f : ℕ) → first < last → last < length ws → met_below own (slice_range ws (first + 1) last) (length (slice_range ws (first + 1) last)) f ≡ met_between own ws first last f
met_part own ws first last f l m =
    let z : last - (first + 1) ≡ last - suc first = omega arith in
    ap (λ n. met_below own (slice_range ws (first + 1) last) n f) ((length-slice_range ws (first + 1) last (omega arith) (omega arith)) ∙ z)
    ∙ sum_below-same (λ k. met_at own f (slice_index (slice_range ws (first + 1) last) k)) (λ k. met_at own f (slice_index ws (suc first + k))) (last - suc first)
    (λ k h. let y : first + 1 + k ≡ suc first + k = omega arith in ap (met_at own f) (get_or-slice_range ws (first + 1) last k (omega arith) ∙ ap (λ j. get_or ws j 0) y))

pub edges_part : (lists own : Lists) (ws inner : List ℕ) (first last f : ℕ) → first < last → last < length ws → AreInner lists own ws inner → numbered_below (number_at inner (slice_range ws first (last + 1))) (length (slice_range ws first (last + 1)) - 1) f ≡ edges_between lists own ws first last f
edges_part lists own ws inner first last f l m are = grind (arith, slice_range, length-slice_range, length, numbered_below, number_at, count_below_same, eqb, inner_number, slice_index, get_or-slice_range)

-- the numbers of the edges are below the count
pub AreInner-below : (lists own : Lists) (count : ℕ) (ws inner : List ℕ) → IsTable lists own count → AreInner lists own ws inner → (i : ℕ) → suc i < length ws → number_at inner ws i < count
AreInner-below lists own count ws inner t are i l = subst (λ n. n < count) (sym (are.numbers i l)) (entry-lt lists own count t (slice_index ws (suc i)) (slice_index ws i) (are.edges i l))

-- the numbers of all edges
pub edges_all : (lists own : Lists) (ws inner : List ℕ) (n f : ℕ) → suc n ≤ length ws → AreInner lists own ws inner → numbered_below (number_at inner ws) n f ≡ edges_below lists own ws n f
edges_all lists own ws inner n f l are = count_below_same (λ k. eqb (number_at inner ws k) f) (λ k. eqb (inner_number lists own ws k) f) n (λ k h. ap (λ x. eqb x f) (are.numbers k (omega arith)))

pub numbered_le : (number : ℕ → ℕ) (n f : ℕ) → numbered_below number n f ≤ n
numbered_le number n f = count_below-le (λ k. eqb (number k) f) n

-- a table that was lent whole
pub lent : {A : Type 0} (n : ℕ) (new rest : List A) → n ≡ length new → take n (new ++ rest) ≡ new
lent n new rest e = ap (λ m. take m (new ++ rest)) e ∙ take-append_seam new rest

pub AreMoved-lent : (lists own : Lists) (count : ℕ) (way : Way) (ws : List ℕ) (first last : ℕ) (old new : ContourCounts) (places edges : List ℕ) → new.places.items ≡ places → new.edges.items ≡ edges → length places ≡ count → length edges ≡ count
    → ((f : ℕ) → f < count → IsMoved way (slice_index old.places.items f) (met_between own ws first last f) (slice_index places f))
    → ((f : ℕ) → f < count → IsMoved way (slice_index old.edges.items f) (edges_between lists own ws first last f) (slice_index edges f))
    → AreMoved lists own count way ws first last old new
AreMoved-lent lists own count way ws first last old new places edges e e' l l' h h' = record {
  size = record { places = ap length e ∙ l; edges = ap length e' ∙ l' };
  places = λ f m. subst (λ (z : List ℕ). IsMoved way (slice_index old.places.items f) (met_between own ws first last f) (slice_index z f)) (sym e) (h f m);
  edges = λ f m. subst (λ (z : List ℕ). IsMoved way (slice_index old.edges.items f) (edges_between lists own ws first last f) (slice_index z f)) (sym e') (h' f m);
}

pub AreCounts-lent : (lists own : Lists) (count : ℕ) (ws places edges places' edges' : List ℕ) → places' ≡ places → edges' ≡ edges → AreCounts lists own count ws places edges → AreCounts lists own count ws places' edges'
AreCounts-lent lists own count ws places edges places' edges' e e' are = subst (λ (z : List ℕ). AreCounts lists own count ws z edges') (sym e) (subst (λ (z : List ℕ). AreCounts lists own count ws places z) (sym e') are)

-- The list `us` has from place `first` to `last` what `ws` has from `first` to `end` replaced; before and behind they are alike.
pub record IsSpliced (ws us : List ℕ) (first end last : ℕ) : Type 0 where
  pub order : first < end
  pub order_new : first < last
  pub within : end < length ws
  pub width : length us + end ≡ length ws + last
  pub before : (i : ℕ) → i ≤ first → slice_index us i ≡ slice_index ws i
  pub behind : (q : ℕ) → end + q < length ws → slice_index us (last + q) ≡ slice_index ws (end + q)

module _ (lists own : Lists) (ws us : List ℕ) (first end last : ℕ) (s : IsSpliced ws us first end last) where
  -- what all places have, by parts
  met_parts : (vs : List ℕ) (stop b f : ℕ) → first < stop → suc first + (stop - suc first) + b ≡ length vs → met_below own vs (length vs) f ≡ met_below own vs (suc first) f + met_between own vs first stop f + sum_below (λ k. met_at own f (slice_index vs (suc first + (stop - suc first) + k))) b
  met_parts vs stop b f l e = sum_below-three (λ i. met_at own f (slice_index vs i)) (suc first) (stop - suc first) b (length vs) e

  pub met_spliced : (f : ℕ) → met_below own us (length us) f + met_between own ws first end f ≡ met_below own ws (length ws) f + met_between own us first last f
  met_spliced f =
      let b : ℕ = length ws - end in
      let new = met_parts us last b f s.order_new (omega arith) in
      let front = sum_below-same (λ i. met_at own f (slice_index us i)) (λ i. met_at own f (slice_index ws i)) (suc first) (λ i h. ap (met_at own f) (s.before i (omega arith))) in
      let back = sum_below-same (λ k. met_at own f (slice_index us (suc first + (last - suc first) + k))) (λ k. met_at own f (slice_index ws (suc first + (end - suc first) + k))) b (λ k h.
      let z : suc first + (last - suc first) + k ≡ last + k = omega arith in
      let y : suc first + (end - suc first) + k ≡ end + k = omega arith in
      ap (met_at own f) (ap (λ j. slice_index us j) z ∙ (s.behind k (omega arith) ∙ ap (λ j. slice_index ws j) (sym y)))) in
      omega (arith, met_parts ws end b f s.order (omega arith), new, front, back)

  edges_parts : (vs : List ℕ) (stop b r f : ℕ) → first < stop → first + (stop - first) + b ≡ r → edges_below lists own vs r f ≡ edges_below lists own vs first f + edges_between lists own vs first stop f + count_below (λ k. eqb (inner_number lists own vs (first + (stop - first) + k)) f) b
  edges_parts vs stop b r f l e = count_below-three (λ i. eqb (inner_number lists own vs i) f) first (stop - first) b r e

  pub edges_spliced : (f r r' : ℕ) → suc r ≡ length ws → suc r' ≡ length us → edges_below lists own us r' f + edges_between lists own ws first end f ≡ edges_below lists own ws r f + edges_between lists own us first last f
  edges_spliced f r r' e e' =
      let b : ℕ = r - end in
      let new = edges_parts us last b r' f s.order_new (omega arith) in
      let front = count_below_same (λ i. eqb (inner_number lists own us i) f) (λ i. eqb (inner_number lists own ws i) f) first (λ i h. ap (λ v. eqb (entry lists own v (slice_index us i)) f) (s.before (suc i) (omega arith)) ∙ ap (λ v. eqb (entry lists own (slice_index ws (suc i)) v) f) (s.before i (omega arith))) in
      let back = count_below_same (λ k. eqb (inner_number lists own us (first + (last - first) + k)) f) (λ k. eqb (inner_number lists own ws (first + (end - first) + k)) f) b (λ k h.
      let z : first + (last - first) + k ≡ last + k = omega arith in
      let y : first + (end - first) + k ≡ end + k = omega arith in
      let z' : suc (first + (last - first) + k) ≡ last + suc k = omega arith in
      let y' : suc (first + (end - first) + k) ≡ end + suc k = omega arith in
      let one : slice_index us (first + (last - first) + k) ≡ slice_index ws (first + (end - first) + k) = ap (λ j. slice_index us j) z ∙ (s.behind k (omega arith) ∙ ap (λ j. slice_index ws j) (sym y)) in
      let two : slice_index us (suc (first + (last - first) + k)) ≡ slice_index ws (suc (first + (end - first) + k)) = ap (λ j. slice_index us j) z' ∙ (s.behind (suc k) (omega arith) ∙ ap (λ j. slice_index ws j) (sym y')) in
      ap (λ v. eqb (entry lists own v (slice_index us (first + (last - first) + k))) f) two ∙ ap (λ v. eqb (entry lists own (slice_index ws (suc (first + (end - first) + k))) v) f) one) in
      omega (arith, edges_parts ws end b r f s.order (omega arith), new, front, back)

  -- THE COUNTS after a part went and another came
  pub counts_spliced : (count : ℕ) (old mid new : ContourCounts) → AreCounts lists own count ws old.places.items old.edges.items → AreMoved lists own count Goes ws first end old mid → AreMoved lists own count Comes us first last mid new → AreCounts lists own count us new.places.items new.edges.items
  counts_spliced count old mid new are less more =
      record {
        places_long = more.size.places;
        edges_long = more.size.edges;
        places_are = λ f l. omega (arith, are.places_are f l, less.places f l, more.places f l, met_spliced f);
        edges_are = λ f r l e.
            let q : ℕ = length ws - 1 in
            omega (arith, are.edges_are f q l (omega arith), less.edges f l, more.edges f l, edges_spliced f q r (omega arith) e);
      }
