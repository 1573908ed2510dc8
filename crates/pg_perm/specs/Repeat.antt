-- The least fault of a list of images.
use Rattle.std.specs.Prelude.{ℕ, ◌<◌, ◌≤◌, ◌≡◌, ◌⊎◌, List, length, slice_index, All}
use Rattle.pg_perm.specs.declared.fault.PermFault.{PermFault}
use Rattle.pg_perm.specs.declared.fault.PermFault.TheVariants.{OutOfRange, Repeated, NoMemory}

-- one number stands at the places i and j, i before j
pub record IsRepeat (images : List ℕ) (i j : ℕ) : Type 0 where
  pub order : i < j
  pub within : j < length images
  pub same : slice_index images i ≡ slice_index images j

-- one number stands at the places i and j, and no such pair is less, by its first and then by its second place
pub record IsFirstRepeat (images : List ℕ) (i j : ℕ) : Type 0 where
  pub repeat : IsRepeat images i j
  pub least : (a b : ℕ) → IsRepeat images a b → (i < a) ⊎ ((i ≡ a) × (j ≤ b))

-- i is the least number whose image is not below the length
pub record IsFirstOutOfRange (images : List ℕ) (i : ℕ) : Type 0 where
  pub within : i < length images
  pub out : length images ≤ slice_index images i
  pub least : (a : ℕ) → a < i → slice_index images a < length images

-- the fault is the first that applies
abbrev pub NamesFault : List ℕ → PermFault → Type 0
NamesFault images (OutOfRange i) = IsFirstOutOfRange images i
NamesFault images (Repeated i j) = All (λ x. x < length images) images × IsFirstRepeat images i j
NamesFault images NoMemory = Unit {0}
