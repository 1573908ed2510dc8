-- An order made one vertex at a time, and what holds of each edge of a list.
use Rattle.std.proofs.Common.{◌≡◌, ◌≢◌, ℕ, ◌<◌, ◌≤◌, Bool, false, List, [], ◌∷◌, ◌++◌, length, get_or, slice_set, slice_index_or, Contains, sym, ◌∙◌, subst, inl, inr, arith, get_or-set_same, get_or-set_other}
use Rattle.std.proofs.lemmas.Bool.{cases_lt, true≢false}
use Rattle.std.proofs.lemmas.List.{get_or_past}
use Rattle.std.proofs.lemmas.List.Elements.{All-from_get_or, All-contains}
use Rattle.map_theory.specs.Maps.{Dart}
use Rattle.left_right_lists.specs.Orders.{Before, IsFree, IsFirst, IsOrderOf}
use Rattle.left_right_lists.proofs.OrderLemmas.{IsSorting, sorting_more, sorting_done}

-- what holds of the first edges of a list holds of all, if there are no others
pub all_held : (P : Dart → Type 0) (ds : List Dart) (i : ℕ) → length ds ≤ i → ((j : ℕ) → j < i → P (get_or ds j (0, 0))) → (d : Dart) → Contains ds d → P d
all_held P ds i l h d c = All-contains P ds d (All-from_get_or P ds (0, 0) (λ j k. h j (omega (arith, k, l)))) c

abbrev pub Follows : List ℕ → List Bool → List (List Dart) → ℕ → ℕ → Type 0
Follows depths sides returns e f = (e ≢ f) × Before depths sides returns e f

abbrev pub flag : List Bool → ℕ → Bool
flag free u = slice_index_or free u false

-- a vertex that is left is one of the table
pub in_free : (free : List Bool) (u : ℕ) → IsFree free u → u < length free
in_free free u t = elim (cases_lt u (length free)) [ inl l ↦ l | inr l ↦ absurd (true≢false (sym t ∙ get_or_past free u false l)) ]

pub ordered_more : (depths : List ℕ) (sides : List Bool) (returns : List (List Dart)) (initial free : List Bool) (us us' : List ℕ) (u p : ℕ) → p ≡ u → us' ≡ us ++ u ∷ [] → IsFirst depths sides returns free u → IsSorting (Follows depths sides returns) (flag initial) (flag free) us → IsSorting (Follows depths sides returns) (flag initial) (flag (slice_set free p false)) us'
ordered_more depths sides returns initial free us us' u p same is first h =
    subst (λ q. IsSorting (Follows depths sides returns) (flag initial) (flag (slice_set free q false)) us') (sym same) (
    sorting_more (Follows depths sides returns) (flag initial) (flag free) (flag (slice_set free u false)) us us' u is first.left (get_or-set_same free u false false (in_free free u first.left))
    (λ f ne. get_or-set_other free u f false false ne) (λ f t ne. (ne, first.before f t ne)) h)

pub ordered_done : (depths : List ℕ) (sides : List Bool) (returns : List (List Dart)) (initial free : List Bool) (us order : List ℕ) → IsOrderOf depths sides returns initial order → ((u : ℕ) → ¬ IsFirst depths sides returns free u) → IsSorting (Follows depths sides returns) (flag initial) (flag free) us → IsOrderOf depths sides returns initial us
ordered_done depths sides returns initial free us order o none h =
    record {
      all = sorting_done (Follows depths sides returns) (flag initial) (flag free) us order o.pairs o.all (λ u t before. none u (record { left = t; before = λ f t' ne. (before f t' ne).1 })) h;
      pairs = h.pairs;
    }
