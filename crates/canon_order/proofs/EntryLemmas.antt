-- The entry after one, found in a list.
use Rattle.std.proofs.Common.{◌≡◌, ◌≢◌, ◌+◌, ◌<◌, ◌≤◌, ℕ, List, length, get_or, Contains, inl, inr, sym, ap, ◌∙◌, arith}
use Rattle.std.proofs.lemmas.Bool.Decides.{nat_tests}
use Rattle.std.proofs.lemmas.Bool.{cases_lt}
use Rattle.map_theory.specs.Maps.{place_of, entry_after}
use Rattle.map_theory.proofs.DartLemmas.{place_of-lt-length, get_or-place_of, entry_after-place, place_after}

-- after an entry that stands nowhere before the last place comes the first
pub entry_after-last : (us : List ℕ) (u : ℕ) → Contains us u → ((k : ℕ) → k + 1 < length us → get_or us k 0 ≢ u) → get_or us 0 0 ≡ entry_after u us
entry_after-last us u has none =
    let l = place_of-lt-length u us has in
    elim (cases_lt (place_of u us + 1) (length us)) [
      | inl less ↦ absurd (none (place_of u us) less (get_or-place_of u us 0 l))
      | inr last ↦ sym (entry_after-place u us 0 l ∙ ap (λ n. get_or us n 0) (round (length us) (place_of u us) l last))
    ]
  where
    round : (n k : ℕ) → k < n → n ≤ k + 1 → place_after n k ≡ 0
    round n k l last = grind (arith, nat_tests)
