-- What a read takes from a source, what a write adds to a sink, and counts that only rise.
use Rattle.std.specs.Prelude.{ℕ, ◌+◌, ◌-◌, ◌^◌, ◌<◌, ◌≤◌, ◌≡◌, ◌⊎◌, min, List, ◌++◌, length, take, drop, Option, Some, Result, IsOkAnd}

-- a fact of the bytes, where they are told
abbrev pub WhereTold : Option (List ℕ) → (List ℕ → Type 0) → Type 0
WhereTold told P = (bytes : List ℕ) → told ≡ Some bytes → P bytes

-- A read moved k bytes. Where the bytes left are told, the first k of them went to the front of the buffer,
-- whose rest is as before.
pub record Gives (left left' : Option (List ℕ)) (k : ℕ) (buf buf' : List ℕ) : Type 0 where
  pub had : WhereTold left (λ bytes. k ≤ length bytes)
  pub gave : WhereTold left (λ bytes. buf' ≡ take k bytes ++ drop k buf)
  pub lost : WhereTold left (λ bytes. left' ≡ Some (drop k bytes))

-- where the bytes left are told, they began with these, which are gone
pub record Takes (left left' : Option (List ℕ)) (bytes : List ℕ) : Type 0 where
  pub split : WhereTold left (λ all. (rest : List ℕ) × (all ≡ bytes ++ rest) × (left' ≡ Some rest))

-- at most n bytes were taken
pub record TakesAtMost (n : ℕ) (left left' : Option (List ℕ)) : Type 0 where
  pub bytes : List ℕ
  pub takes : Takes left left' bytes
  pub few : length bytes ≤ n

-- where the bytes written are told, these were appended
pub record Grows (written written' : Option (List ℕ)) (bytes : List ℕ) : Type 0 where
  pub grown : WhereTold written (λ before. written' ≡ Some (before ++ bytes))

-- where the bytes written are told, the first n of these were appended, for some n
pub record GrowsByPrefix (written written' : Option (List ℕ)) (bytes : List ℕ) : Type 0 where
  pub taken : ℕ
  pub within : taken ≤ length bytes
  pub grows : Grows written written' (take taken bytes)

-- the count rose, or it stands at its last value, where it stays
abbrev pub HasRisen : ℕ → ℕ → Type 0
HasRisen before after = (before < after) ⊎ (after ≡ 2 ^ 64 - 1)

-- the count with one more, which stays at its last value
abbrev pub raised : ℕ → ℕ
raised count = min (count + 1) (2 ^ 64 - 1)

-- a write of std's took some bytes
abbrev pub TookSome : {E : Type 0} → Result ℕ E → Type 0
TookSome written = IsOkAnd written (λ k. 0 < k)
