-- The steps of a way, and what they are at its vertices.
use Rattle.std.proofs.Common.{◌≡◌, ◌≢◌, ◌⊎◌, ℕ, Bool, true, eqb, List, [], ◌∷◌, AllPairs, Contains, refl, sym, ◌∙◌, subst, inl, inr, eqb-true, eq-eqb}
use Rattle.std.specs.Prelude.{◌||◌, ◌&&◌}
use Rattle.std.proofs.lemmas.Bool.{or_cases, or_left, or_right, and_parts, and_from}
use Rattle.map_lists.specs.Lists.{Lists}
use Rattle.map_theory.specs.Maps.{HasDart}
use Rattle.map_theory.proofs.EntryLemmas.{Contains-here, Contains-there, AllPairs-tail, head_apart}
use Rattle.left_right_laws.specs.Ways.{IsWay, first_on, last_on}

-- from v the way goes on to z
abbrev pub Steps : ℕ → List ℕ → ℕ → ℕ → ℕ → Type 0
Steps x [] y v z = (x ≡ v) × (y ≡ z)
Steps x (u ∷ us) y v z = ((x ≡ v) × (u ≡ z)) ⊎ Steps u us y v z

-- that as a test
abbrev pub steps : ℕ → List ℕ → ℕ → ℕ → ℕ → Bool
steps x [] y v z = eqb x v && eqb y z
steps x (u ∷ us) y v z = (eqb x v && eqb u z) || steps u us y v z

same_pair : (x y v z : ℕ) → eqb x v && eqb y z ≡ true → (x ≡ v) × (y ≡ z)
same_pair x y v z t = let both = and_parts (eqb x v) (eqb y z) t in (eqb-true x v both.0, eqb-true y z both.1)

pair_same : (x y v z : ℕ) → x ≡ v → y ≡ z → eqb x v && eqb y z ≡ true
pair_same x y v z e e' = and_from (eqb x v) (eqb y z) (eq-eqb x v e) (eq-eqb y z e')

pub Steps-from : (x : ℕ) (us : List ℕ) (y v z : ℕ) → steps x us y v z ≡ true → Steps x us y v z
Steps-from x [] y v z t = same_pair x y v z t
Steps-from x (u ∷ us) y v z t =
    elim (or_cases (eqb x v && eqb u z) (steps u us y v z) t) [ inl h ↦ inl (same_pair x u v z h) | inr h ↦ inr (Steps-from u us y v z h) ]

pub steps-true : (x : ℕ) (us : List ℕ) (y v z : ℕ) → Steps x us y v z → steps x us y v z ≡ true
steps-true x [] y v z s = pair_same x y v z s.0 s.1
steps-true x (u ∷ us) y v z s =
    elim s [
      | inl h ↦ or_left (eqb x v && eqb u z) (steps u us y v z) (pair_same x u v z h.0 h.1)
      | inr h ↦ or_right (eqb x v && eqb u z) (steps u us y v z) (steps-true u us y v z h)
    ]

-- a step leaves the start or a vertex between
pub Steps-tail : (x : ℕ) (us : List ℕ) (y v z : ℕ) → Steps x us y v z → (x ≡ v) ⊎ Contains us v
Steps-tail x [] y v z s = inl s.0
Steps-tail x (u ∷ us) y v z s =
    elim s [
      | inl h ↦ inl h.0
      | inr h ↦ elim (Steps-tail u us y v z h) [ inl e ↦ inr (subst (Contains (u ∷ us)) e (Contains-here u us)) | inr c ↦ inr (Contains-there u us v c) ]
    ]

-- and reaches a vertex between or the end
pub Steps-head : (x : ℕ) (us : List ℕ) (y v z : ℕ) → Steps x us y v z → (y ≡ z) ⊎ Contains us z
Steps-head x [] y v z s = inl s.1
Steps-head x (u ∷ us) y v z s =
    elim s [
      | inl h ↦ inr (subst (Contains (u ∷ us)) h.1 (Contains-here u us))
      | inr h ↦ elim (Steps-head u us y v z h) [ inl e ↦ inl e | inr c ↦ inr (Contains-there u us z c) ]
    ]

-- A way without repeats: its start, its end and the vertices between are different.
pub record IsClear (x : ℕ) (us : List ℕ) (y : ℕ) : Type 0 where
  pub ends : x ≢ y
  pub off_start : ¬ Contains us x
  pub off_end : ¬ Contains us y
  pub distinct : AllPairs ◌≢◌ us

pub IsClear-rest : (x u : ℕ) (us : List ℕ) (y : ℕ) → IsClear x (u ∷ us) y → IsClear u us y
IsClear-rest x u us y clear =
    record {
      ends = λ e. clear.off_end (subst (Contains (u ∷ us)) e (Contains-here u us));
      off_start = head_apart u us clear.distinct;
      off_end = λ c. clear.off_end (Contains-there u us y c);
      distinct = AllPairs-tail u us clear.distinct;
    }

-- from the start it goes to its first vertex alone, and none of its steps comes back
pub from_start : (x : ℕ) (us : List ℕ) (y z : ℕ) → IsClear x us y → Steps x us y x z → z ≡ first_on us y
from_start x [] y z clear s = sym s.1
from_start x (u ∷ us) y z clear s =
    elim s [
      | inl h ↦ sym h.1
      | inr h ↦ elim (Steps-tail u us y x z h) [ inl e ↦ absurd (clear.off_start (subst (Contains (u ∷ us)) e (Contains-here u us))) | inr c ↦ absurd (clear.off_start (Contains-there u us x c)) ]
    ]

pub to_start : (x : ℕ) (us : List ℕ) (y z : ℕ) → IsClear x us y → ¬ Steps x us y z x
to_start x us y z clear s = elim (Steps-head x us y z x s) [ inl e ↦ clear.ends (sym e) | inr c ↦ clear.off_start c ]

-- to the end it goes from its last vertex alone, and none of its steps leads on
pub to_end : (x : ℕ) (us : List ℕ) (y z : ℕ) → IsClear x us y → Steps x us y z y → z ≡ last_on x us
to_end x [] y z clear s = sym s.0
to_end x (u ∷ us) y z clear s =
    elim s [
      | inl h ↦ absurd (clear.off_end (subst (Contains (u ∷ us)) h.1 (Contains-here u us)))
      | inr h ↦ to_end u us y z (IsClear-rest x u us y clear) h
    ]

pub from_end : (x : ℕ) (us : List ℕ) (y z : ℕ) → IsClear x us y → ¬ Steps x us y y z
from_end x us y z clear s = elim (Steps-tail x us y y z s) [ inl e ↦ clear.ends e | inr c ↦ clear.off_end c ]

-- the last vertex of a way
pub last_on-cases : (x : ℕ) (us : List ℕ) (y : ℕ) → ((last_on x us ≡ x) × (first_on us y ≡ y)) ⊎ Contains us (last_on x us)
last_on-cases x [] y = inl (refl, refl)
last_on-cases x (u ∷ us) y =
    elim (last_on-cases u us y) [ inl h ↦ inr (subst (Contains (u ∷ us)) (sym h.0) (Contains-here u us)) | inr c ↦ inr (Contains-there u us (last_on u us) c) ]

-- two ways that meet nowhere between and have different first vertices have different last ones
pub lasts_apart : (x : ℕ) (us vs : List ℕ) (y : ℕ) → ¬ Contains us x → ¬ Contains vs x → ((v : ℕ) → Contains us v → ¬ Contains vs v) → first_on us y ≢ first_on vs y → last_on x us ≢ last_on x vs
lasts_apart x us vs y off off' apart ne e =
    elim (last_on-cases x us y) [
      | inl h ↦ elim (last_on-cases x vs y) [
        | inl k ↦ ne (h.1 ∙ sym k.1)
        | inr c ↦ off' (subst (Contains vs) (sym e ∙ h.0) c)
      ]
      | inr b ↦ elim (last_on-cases x vs y) [
        | inl k ↦ off (subst (Contains us) (e ∙ k.0) b)
        | inr c ↦ apart (last_on x us) b (subst (Contains vs) (sym e) c)
      ]
    ]

-- and the first vertex of a way, with the other end
pub first_on-cases : (x : ℕ) (us : List ℕ) (y : ℕ) → ((first_on us y ≡ y) × (last_on x us ≡ x)) ⊎ Contains us (first_on us y)
first_on-cases x [] y = inl (refl, refl)
first_on-cases x (u ∷ us) y = inr (Contains-here u us)

pub firsts_apart : (x : ℕ) (us vs : List ℕ) (y : ℕ) → ¬ Contains us y → ¬ Contains vs y → ((v : ℕ) → Contains us v → ¬ Contains vs v) → last_on x us ≢ last_on x vs → first_on us y ≢ first_on vs y
firsts_apart x us vs y off off' apart ne e =
    elim (first_on-cases x us y) [
      | inl h ↦ elim (first_on-cases x vs y) [
        | inl k ↦ ne (h.1 ∙ sym k.1)
        | inr c ↦ off' (subst (Contains vs) (sym e ∙ h.0) c)
      ]
      | inr b ↦ elim (first_on-cases x vs y) [
        | inl k ↦ off (subst (Contains us) (e ∙ k.0) b)
        | inr c ↦ apart (first_on us y) b (subst (Contains vs) (sym e) c)
      ]
    ]

-- a way in a map that has its steps
pub IsWay-steps : (lists other : Lists) (x : ℕ) (us : List ℕ) (y : ℕ) → IsWay lists x us y → ((v z : ℕ) → Steps x us y v z → HasDart lists v z → HasDart other v z) → IsWay other x us y
IsWay-steps lists other x [] y way has = has x y (refl, refl) way
IsWay-steps lists other x (u ∷ us) y way has = (has x u (inl (refl, refl)) way.0, IsWay-steps lists other u us y way.1 (λ v z s. has v z (inr s)))

-- its first dart, and its last
pub IsWay-first : (lists : Lists) (x : ℕ) (us : List ℕ) (y : ℕ) → IsWay lists x us y → HasDart lists x (first_on us y)
IsWay-first lists x [] y way = way
IsWay-first lists x (u ∷ us) y way = way.0

pub IsWay-last : (lists : Lists) (x : ℕ) (us : List ℕ) (y : ℕ) → IsWay lists x us y → HasDart lists (last_on x us) y
IsWay-last lists x [] y way = way
IsWay-last lists x (u ∷ us) y way = IsWay-last lists u us y way.1
