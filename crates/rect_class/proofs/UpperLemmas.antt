-- The rows of neighbours of no lower degree: how they are put one behind another, and who is adjacent by them.
use Rattle.std.specs.List.{filter}
use Rattle.std.proofs.Common.{◌↔◌, ◌≡◌, ◌∙◌, ℕ, Bool, ◌<◌, ◌≤◌, ◌+◌, ◌++◌, ◌∷◌, [], List, length, take, get_or, cond, append_assoc, Contains, inl, inr, refl, ap, sym, subst, arith}
use Rattle.std.proofs.lemmas.Bool.{le-leb, cases_lt}
use Rattle.std.proofs.lemmas.List.{length-append, get_or_append_left, get_or_push, take_more}
use Rattle.std.proofs.lemmas.List.Elements.{filter-append}
use Rattle.map_lists.specs.Lists.{Lists}
use Rattle.map_lists.specs.Cuts.{cut, AreCuts}
use Rattle.map_lists.proofs.CutLemmas.{pushed, IsStored-cuts, IsStored-cut}
use Rattle.map_theory.specs.Maps.{HasDart, list_of}
use Rattle.map_theory.proofs.EntryLemmas.{Contains-filter, Contains-from_filter}
use Rattle.rect_class.specs.Upper.{has_degree, AreUpperRows}

-- the row of u has each neighbour of no lower degree, and none else
pub Contains-upper : (lists rows : Lists) (u v : ℕ) → AreUpperRows lists rows → u < length lists → length (list_of lists u) ≤ length (list_of lists v) → Contains (list_of rows u) v ↔ HasDart lists u v
Contains-upper lists rows u v upper l le =
    let test = has_degree lists (length (list_of lists u)) in
    let is = upper.each u l in (
      (λ c. (l, (Contains-from_filter test (list_of lists u) v (subst (λ (us : List ℕ). Contains us v) is c)).0)),
      (λ d. subst (λ (us : List ℕ). Contains us v) (sym is) (Contains-filter test (list_of lists u) v d.1 (le-leb (length (list_of lists u)) (length (list_of lists v)) le))),
    )

-- one neighbour more is put behind others, if it passes the test
pub put-more : (test : ℕ → Bool) (us : List ℕ) (k : ℕ) (old now new : List ℕ) → k < length us → now ≡ old ++ filter test (take k us) → new ≡ now ++ cond (test (get_or us k 0)) (get_or us k 0 ∷ []) [] → new ≡ old ++ filter test (take (k + 1) us)
put-more test us k old now new l was is =
    let u = get_or us k 0 in
    is ∙ ap (λ (xs : List ℕ). xs ++ cond (test u) (u ∷ []) []) was ∙ append_assoc old (filter test (take k us)) (cond (test u) (u ∷ []) [])
    ∙ ap (λ (xs : List ℕ). old ++ xs) (sym (filter-append test (take k us) (u ∷ [])) ∙ ap (filter test) (sym (take_more us k 0 l)))

-- the row of u, as its list says
abbrev pub upper_of : Lists → ℕ → List ℕ
upper_of lists u = filter (has_degree lists (length (list_of lists u))) (list_of lists u)

-- the rows of the first vertices, put one behind another, and cut where each ends
pub record AreUpperCut (lists : Lists) (count : ℕ) (ends entries : List ℕ) : Type 0 where
  pub cuts : AreCuts 0 ends (length entries)
  pub number : length (cut 0 ends entries) ≡ count
  pub each : (v : ℕ) → v < count → list_of (cut 0 ends entries) v ≡ upper_of lists v

pub AreUpperCut-none : (lists : Lists) (ends entries : List ℕ) → ends ≡ [] → entries ≡ [] → AreUpperCut lists 0 ends entries
AreUpperCut-none lists ends entries e f = record {
  cuts = rw (e, f) refl;
  number = rw e refl;
  each = λ v l. absurd (omega (arith, l));
}

pub AreUpperCut-more : (lists : Lists) (k end : ℕ) (ends new_ends entries new_entries : List ℕ) → AreUpperCut lists k ends entries → new_entries ≡ entries ++ upper_of lists k → new_ends ≡ ends ++ end ∷ [] → end ≡ length new_entries → AreUpperCut lists (k + 1) new_ends new_entries
AreUpperCut-more lists k end ends new_ends entries new_entries w grown added total =
    let row = upper_of lists k in
    let stored = pushed ends new_ends entries new_entries row w.cuts grown added total in
    let old = cut 0 ends entries in
    let new = cut 0 new_ends new_entries in
    let now : new ≡ old ++ row ∷ [] = IsStored-cut _ _ _ stored in
    record {
      cuts = IsStored-cuts _ _ _ stored;
      number = omega (arith, ap length now, length-append old (row ∷ []), w.number);
      each = λ v l. elim (cases_lt v k) [
        | inl less ↦ ap (λ (z : Lists). list_of z v) now ∙ (get_or_append_left old (row ∷ []) [] v (omega (arith, less, w.number)) ∙ w.each v less)
        | inr most ↦
            let e : v ≡ k = omega (arith, most, l) in
            subst (λ z. list_of new z ≡ upper_of lists z) (sym e) (ap (λ (z : Lists). list_of z k) now ∙ get_or_push old row [] k w.number)
      ];
    }
