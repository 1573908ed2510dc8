-- Lists that differ by one entry: the grown ones have x in w's list beside what the short ones have there.
-- Each fact is read both ways.
use Rattle.std.proofs.Common.{◌≡◌, ◌≢◌, ℕ, ◌+◌, ◌<◌, List, [], length, set, AllPairs, Contains, sym, ap, ◌∙◌, subst, inl, inr, arith, length-set, get_or-set_same, get_or-set_other}
use Rattle.std.proofs.lemmas.Bool.{cases_eq}
use Rattle.map_lists.specs.Lists.{Lists}
use Rattle.map_theory.specs.Maps.{list_of, HasDart, follows, entry_after}
use Rattle.map_theory.specs.Edges.{without_entry}
use Rattle.map_theory.proofs.WithoutEntry.{length-without, without-old, without-new, without-distinct, entry_after-without, entry_after-without_skip}

-- a list has x beside the entries of another: the other is it without x
pub record IsEntryMore (short grown : List ℕ) (x : ℕ) : Type 0 where
  pub distinct : AllPairs ◌≢◌ grown
  pub has : Contains grown x
  pub rest : short ≡ without_entry grown x

-- so do lists, in the list of w
pub record AreEntryMore (short grown : Lists) (w x : ℕ) : Type 0 where
  pub vertex : w < length grown
  pub count : length short ≡ length grown
  pub here : IsEntryMore (list_of short w) (list_of grown w) x
  pub there : (v : ℕ) → v ≢ w → list_of short v ≡ list_of grown v

-- the list of w is written with the entry more
pub AreEntryMore-with : (lists : Lists) (w x : ℕ) (us : List ℕ) → w < length lists → IsEntryMore (list_of lists w) us x → AreEntryMore lists (set lists w us) w x
AreEntryMore-with lists w x us l more = grind (arith, length-set, list_of, get_or-set_same, get_or-set_other)

-- or without it
pub AreEntryMore-without : (lists : Lists) (w x : ℕ) → AllPairs ◌≢◌ (list_of lists w) → HasDart lists w x → AreEntryMore (set lists w (without_entry (list_of lists w) x)) lists w x
AreEntryMore-without lists w x distinct has = grind (arith, length-set, without_entry, list_of, get_or-set_same, get_or-set_other)

module _ (short grown : Lists) (w x : ℕ) (m : AreEntryMore short grown w x) where
  rest_is : (v : ℕ) → v ≡ w → list_of short v ≡ without_entry (list_of grown w) x
  rest_is v e = ap (λ y. list_of short y) e ∙ m.here.rest

  -- an old dart is a dart, and not the new one
  pub has_up : (v u : ℕ) → HasDart short v u → HasDart grown v u × (v ≡ w → u ≢ x)
  has_up v u has =
      elim (cases_eq v w) [
        | inl e ↦
            let o = without-old (list_of grown w) x m.here.distinct m.here.has u (subst (λ (us : List ℕ). Contains us u) (rest_is v e) has.1) in
            ((omega (arith, m.count, has.0), subst (λ y. Contains (list_of grown y) u) (sym e) o.0), λ _. o.1)
        | inr other ↦ ((omega (arith, m.count, has.0), subst (λ (us : List ℕ). Contains us u) (m.there v other) has.1), λ e. absurd (other e))
      ]

  -- and every dart but the new one is an old one
  pub has_down : (v u : ℕ) → HasDart grown v u → (v ≡ w → u ≢ x) → HasDart short v u
  has_down v u has not_new = (
    omega (arith, m.count, has.0),
    elim (cases_eq v w) [
      | inl e ↦ subst (λ (us : List ℕ). Contains us u) (sym (rest_is v e)) (without-new (list_of grown w) x m.here.distinct m.here.has u (subst (λ y. Contains (list_of grown y) u) e has.1) (not_new e))
      | inr other ↦ subst (λ (us : List ℕ). Contains us u) (sym (m.there v other)) has.1
    ],
  )

  pub distinct_down : (v : ℕ) → AllPairs ◌≢◌ (list_of grown v) → AllPairs ◌≢◌ (list_of short v)
  distinct_down v distinct =
      elim (cases_eq v w) [
        | inl e ↦ subst (λ (us : List ℕ). AllPairs ◌≢◌ us) (sym (rest_is v e)) (without-distinct (list_of grown w) x m.here.distinct m.here.has)
        | inr other ↦ subst (λ (us : List ℕ). AllPairs ◌≢◌ us) (sym (m.there v other)) distinct
      ]

  pub distinct_up : (v : ℕ) → AllPairs ◌≢◌ (list_of short v) → AllPairs ◌≢◌ (list_of grown v)
  distinct_up v distinct =
      elim (cases_eq v w) [
        | inl e ↦ subst (λ y. AllPairs ◌≢◌ (list_of grown y)) (sym e) m.here.distinct
        | inr other ↦ subst (λ (us : List ℕ). AllPairs ◌≢◌ us) (m.there v other) distinct
      ]

  -- what follows an old dart is the same, where it was not the new one
  pub follows_same : (v u : ℕ) → HasDart short v u → (v ≡ w → follows grown w u ≢ x) → follows short v u ≡ follows grown v u
  follows_same v u has not_new =
      elim (cases_eq v w) [
        | inl e ↦
            ap (λ us. entry_after u us) (rest_is v e)
            ∙ entry_after-without (list_of grown w) x m.here.distinct m.here.has u (subst (λ (us : List ℕ). Contains us u) (rest_is v e) has.1) (not_new e)
            ∙ ap (λ y. follows grown y u) (sym e)
        | inr other ↦ ap (λ us. entry_after u us) (m.there v other)
      ]

  -- and what follows the new one, where it was
  pub follows_skip : (u : ℕ) → HasDart short w u → follows grown w u ≡ x → follows short w u ≡ follows grown w x
  follows_skip u has new =
      ap (λ us. entry_after u us) m.here.rest
      ∙ entry_after-without_skip (list_of grown w) x m.here.distinct m.here.has u (subst (λ (us : List ℕ). Contains us u) m.here.rest has.1) new

  pub length_more : length (list_of short w) + 1 ≡ length (list_of grown w)
  length_more = ap (λ us. length us + 1) m.here.rest ∙ length-without (list_of grown w) x m.here.distinct m.here.has
