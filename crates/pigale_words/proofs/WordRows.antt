-- What is held between two words of a command line: the texts of its arguments, each once at most.
use Rattle.std.proofs.Common.{take, drop, eqb-true, ◌+◌, arith, ◌≡◌, ◌∙◌, ◌&&◌, ◌||◌, not, ℕ, Bool, Option, Some, None, List, [], ◌∷◌, ◌++◌, cond, true, false, true≢false, refl, ap, sym, subst, is_some, append-nil, codes}
use Rattle.std.specs.Prelude.{suc, find, option_and_then, slice_get, bytes_eq, if◌then◌else◌, ◌==◌}
use Rattle.std.specs.List.{before_first, after_first, position_or_len}
use Rattle.std.proofs.lemmas.Slice.Eq.{bytes_eq-Decides}
use Rattle.clap.specs.Lexer.{has_byte}
use Rattle.clap.specs.Walk.{Held, Row, Rule, Text, at_row, first_of, has_row, reading_by, settled_rows, used, used_as, with_values, more_values}
use Rattle.clap.specs.Simple.{Shape, built, filled, new_rule, with_index}
use Rattle.clap.specs.Kinds.{Kinds, or_else}
use Rattle.clap.specs.Faults.{settle_fault, use_fault}
use Rattle.clap.specs.declared.error.kind.ErrorKind.TheVariants as kind
use Rattle.clap.specs.declared.parser.matches.ValueSource.TheVariants.{CommandLine}
use Rattle.clap.specs.declared.builder.value_parser.Reading.{Reading}
use Rattle.clap.specs.declared.builder.action.ArgAction.TheVariants as action
use Rattle.pigale_words.specs.Words.{Given, command, given_in, option as option_rule}

abbrev pub shape : Shape
shape = (built command).top

abbrev pub rules : List Rule
rules = shape.rules

-- an argument of the command
pub data Which : Type 0 where
  the_job : Which
  the_form : Which
  the_size : Which
  the_number : Which

abbrev pub name : Which → Text
name the_job = codes "job"
name the_form = codes "form"
name the_size = codes "size"
name the_number = codes "number"

abbrev pub rule : Which → Rule
rule the_job = with_index 1 (filled (new_rule (codes "job")))
rule the_form = filled (option_rule (codes "form"))
rule the_size = filled (option_rule (codes "size"))
rule the_number = filled (option_rule (codes "number"))

-- a use with one text
pub use_one : (k : Which) (v : Text) (rows : List Row) → use_fault false (rule k) (v ∷ []) rows ≡ (or_else (if has_row (name k) rows && true then kind.ArgumentConflict ∷ [] else []) [])
use_one the_job v rows = refl
use_one the_form v rows = refl
use_one the_size v rows = refl
use_one the_number v rows = refl

-- ---- lists of kinds

abbrev pub is_cons : {X : Type 0} → List X → Bool
is_cons [] = false
is_cons (x ∷ xs) = true

pub some_kind : {X : Type 0} (x : X) (xs : List X) → x ∷ xs ≡ [] → ⊥
some_kind x xs e = true≢false (ap is_cons e)

pub or_else-nil : (a b : Kinds) → or_else a b ≡ [] → (a ≡ []) × (b ≡ [])
or_else-nil [] b e = (refl, e)
or_else-nil (k ∷ ks) b e = absurd (some_kind k ks e)

pub nil-or_else : (a b : Kinds) → a ≡ [] → b ≡ [] → or_else a b ≡ []
nil-or_else a b e f = ap (λ k. or_else k b) e ∙ f

-- ---- texts with a sign of equality

abbrev pub behind_sign : Bool → Text → Text
behind_sign true rest = 61 ∷ rest
behind_sign false rest = []

cut_at : (m n m2 n2 : ℕ) (has : Bool) (text : Text) → m ≡ m2 → n ≡ n2 → take m text ++ behind_sign has (drop n text) ≡ take m2 text ++ behind_sign has (drop n2 text)
cut_at m n m2 n2 has text e f = λ i. take (e i) text ++ behind_sign has (drop (f i) text)

pub separated : (text : Text) → text ≡ before_first (λ x. x == 61) text ++ behind_sign (has_byte 61 text) (after_first (λ x. x == 61) text)
separated [] = refl
separated (x ∷ xs) = go (x == 61) refl (separated xs)
  where
    go : (b : Bool) → (x == 61) ≡ b → xs ≡ before_first (λ y. y == 61) xs ++ behind_sign (has_byte 61 xs) (after_first (λ y. y == 61) xs)
        → x ∷ xs ≡ take (cond (not b) (1 + position_or_len (λ y. y == 61) xs) 0) (x ∷ xs) ++ behind_sign (b || has_byte 61 xs) (drop (cond (not b) (1 + position_or_len (λ y. y == 61) xs) 0 + 1) (x ∷ xs))
    go true e rest = ap (λ y. y ∷ xs) (eqb-true x 61 e)
    go false e rest =
        let k = position_or_len (λ y. y == 61) xs in
        ap (λ l. x ∷ l) rest ∙ cut_at (suc k) (suc (k + 1)) (1 + k) (1 + k + 1) (has_byte 61 xs) (x ∷ xs) (omega arith) (omega arith)

abbrev pub long_word : Text → Option Text → Text
long_word nm None = codes "--" ++ nm
long_word nm (Some v) = codes "--" ++ nm ++ codes "=" ++ v

-- ---- rows

at_row-none : (id : Text) (change : Row → List Row) (missing rows : List Row) → has_row id rows ≡ false → at_row id change missing rows ≡ rows ++ missing
at_row-none id change missing [] none = refl
at_row-none id change missing (r ∷ rs) none = go (bytes_eq r.id id) none (at_row-none id change missing rs)
  where
    go : (b : Bool) → (b || has_row id rs) ≡ false → (has_row id rs ≡ false → at_row id change missing rs ≡ rs ++ missing)
        → (if b then change r ++ rs else r ∷ at_row id change missing rs) ≡ r ∷ (rs ++ missing)
    go true unlike rest = absurd (true≢false unlike)
    go false unlike rest = ap (λ xs. r ∷ xs) (rest unlike)

abbrev pub new_row : Text → Reading → Text → Row
new_row id how v = record { id = id; values = v ∷ []; count = None; source = Some CommandLine; reading = how }

abbrev pub row : Which → Text → Row
row k v = new_row (name k) (reading_by (rule k)) v

set_row : (id : Text) (how : Reading) (v : Text) (rows : List Row) → has_row id rows ≡ false
    → used_as action.Set id how (v ∷ []) rows ≡ rows ++ new_row id how v ∷ []
set_row id how v rows none =
    ap (with_values id how CommandLine (v ∷ [])) (at_row-none id (λ _. []) [] rows none ∙ append-nil rows)
    ∙ at_row-none id (more_values CommandLine (v ∷ [])) (new_row id how v ∷ []) rows none

pub used_row : (k : Which) (v : Text) (rows : List Row) → has_row (name k) rows ≡ false → used (rule k) (v ∷ []) rows ≡ rows ++ row k v ∷ []
used_row the_job v rows = set_row (name the_job) (reading_by (rule the_job)) v rows
used_row the_form v rows = set_row (name the_form) (reading_by (rule the_form)) v rows
used_row the_size v rows = set_row (name the_size) (reading_by (rule the_size)) v rows
used_row the_number v rows = set_row (name the_number) (reading_by (rule the_number)) v rows

-- each row has a text
abbrev pub Full : List Row → Type 0
Full [] = Unit {0}
Full (r ∷ rs) = (is_some (slice_get r.values 0) ≡ true) × Full rs

pub Full-more : (k : Which) (v : Text) (rows : List Row) → Full rows → Full (rows ++ row k v ∷ [])
Full-more k v [] full = (refl, tt)
Full-more k v (r ∷ rs) full = (full.0, Full-more k v rs full.1)

abbrev pub text_in : Option Row → Option Text
text_in o = option_and_then (λ (x : Row). slice_get x.values 0) o

has_full : (id : Text) (rows : List Row) → Full rows → has_row id rows ≡ is_some (first_of id rows)
has_full id [] full = refl
has_full id (r ∷ rs) full = go (bytes_eq r.id id) (has_full id rs full.1)
  where
    go : (b : Bool) → has_row id rs ≡ is_some (first_of id rs) → (b || has_row id rs) ≡ is_some (text_in (cond b (Some r) (find (λ x. bytes_eq x.id id) rs)))
    go true rest = sym full.0
    go false rest = rest

first_new : (r : Row) (rows : List Row) → has_row r.id rows ≡ false → first_of r.id (rows ++ r ∷ []) ≡ slice_get r.values 0
first_new r [] none = rw ((bytes_eq-Decides r.id r.id).1 refl) refl
first_new r (x ∷ xs) none = go (bytes_eq x.id r.id) none (first_new r xs)
  where
    go : (b : Bool) → (b || has_row r.id xs) ≡ false → (has_row r.id xs ≡ false → first_of r.id (xs ++ r ∷ []) ≡ slice_get r.values 0)
        → text_in (cond b (Some x) (find (λ y. bytes_eq y.id r.id) (xs ++ r ∷ []))) ≡ slice_get r.values 0
    go true unlike rest = absurd (true≢false unlike)
    go false unlike rest = rest unlike

first_other : (id : Text) (r : Row) (rows : List Row) → bytes_eq r.id id ≡ false → first_of id (rows ++ r ∷ []) ≡ first_of id rows
first_other id r [] other = rw (other) refl
first_other id r (x ∷ xs) other = go (bytes_eq x.id id) (first_other id r xs other)
  where
    go : (b : Bool) → first_of id (xs ++ r ∷ []) ≡ first_of id xs
        → text_in (cond b (Some x) (find (λ y. bytes_eq y.id id) (xs ++ r ∷ []))) ≡ text_in (cond b (Some x) (find (λ y. bytes_eq y.id id) xs))
    go true rest = refl
    go false rest = rest

-- ---- what is given

abbrev pub put : Which → Text → Given → Given
put the_job v g = record g { job = Some v }
put the_form v g = record g { form = Some v }
put the_size v g = record g { size = Some v }
put the_number v g = record g { number = Some v }

abbrev pub get : Which → Given → Option Text
get the_job g = g.job
get the_form g = g.form
get the_size g = g.size
get the_number g = g.number

made : Option Text → Option Text → Option Text → Option Text → Given
made j f s n = record { job = j; form = f; size = s; number = n }

pub given_put : (k : Which) (v : Text) (rows : List Row) → has_row (name k) rows ≡ false → given_in (rows ++ row k v ∷ []) ≡ put k v (given_in rows)
unfolding made
given_put the_job v rows none = λ i. made (first_new (row the_job v) rows none i) (first_other (codes "form") (row the_job v) rows refl i) (first_other (codes "size") (row the_job v) rows refl i) (first_other (codes "number") (row the_job v) rows refl i)
given_put the_form v rows none = λ i. made (first_other (codes "job") (row the_form v) rows refl i) (first_new (row the_form v) rows none i) (first_other (codes "size") (row the_form v) rows refl i) (first_other (codes "number") (row the_form v) rows refl i)
given_put the_size v rows none = λ i. made (first_other (codes "job") (row the_size v) rows refl i) (first_other (codes "form") (row the_size v) rows refl i) (first_new (row the_size v) rows none i) (first_other (codes "number") (row the_size v) rows refl i)
given_put the_number v rows none = λ i. made (first_other (codes "job") (row the_number v) rows refl i) (first_other (codes "form") (row the_number v) rows refl i) (first_other (codes "size") (row the_number v) rows refl i) (first_new (row the_number v) rows none i)

-- the argument has no row exactly where it is not given
pub none_of : (o : Option Text) → is_some o ≡ false → o ≡ None
none_of None e = refl
none_of (Some x) e = absurd (true≢false e)

pub get_given : (k : Which) (rows : List Row) → Full rows → has_row (name k) rows ≡ is_some (get k (given_in rows))
get_given the_job rows full = has_full (codes "job") rows full
get_given the_form rows full = has_full (codes "form") rows full
get_given the_size rows full = has_full (codes "size") rows full
get_given the_number rows full = has_full (codes "number") rows full

-- ---- what is held between two words: rows, and at most one text that goes to a row when the next thing comes

pub data Held_text : Type 0 where
  no_text : Held_text
  text_of : Which → Text → Held_text

abbrev pub pend : Held_text → Option (Text × List Text)
pend no_text = None
pend (text_of k v) = Some (name k, v ∷ [])

abbrev pub held : List Row → Held_text → Held
held rows p = record { rows = rows; pending = pend p; skip = 0 }

abbrev pub rows_with : Held_text → List Row → List Row
rows_with no_text rows = rows
rows_with (text_of k v) rows = rows ++ row k v ∷ []

abbrev pub given_with : Held_text → Given → Given
given_with no_text g = g
given_with (text_of k v) g = put k v g

-- it is the argument's first text
abbrev pub Fresh : Held_text → List Row → Type 0
Fresh no_text rows = Unit {0}
Fresh (text_of k v) rows = has_row (name k) rows ≡ false

pub not_again : (b : Bool) → or_else (if b && true then kind.ArgumentConflict ∷ [] else []) [] ≡ [] → b ≡ false
not_again true e = absurd (some_kind _ _ e)
not_again false e = refl

pub first_time : (b : Bool) → b ≡ false → or_else (if b && true then kind.ArgumentConflict ∷ [] else []) [] ≡ []
first_time b e = ap (λ (b : Bool). or_else (if b && true then kind.ArgumentConflict ∷ [] else []) []) e

pub settles_fresh : (p : Held_text) (rows : List Row) → settle_fault rules false (held rows p) ≡ [] → Fresh p rows
settles_fresh no_text rows e = tt
settles_fresh (text_of the_job v) rows e = not_again _ e
settles_fresh (text_of the_form v) rows e = not_again _ e
settles_fresh (text_of the_size v) rows e = not_again _ e
settles_fresh (text_of the_number v) rows e = not_again _ e

pub fresh_settles : (p : Held_text) (rows : List Row) → Fresh p rows → settle_fault rules false (held rows p) ≡ []
fresh_settles no_text rows e = refl
fresh_settles (text_of the_job v) rows e = first_time _ e
fresh_settles (text_of the_form v) rows e = first_time _ e
fresh_settles (text_of the_size v) rows e = first_time _ e
fresh_settles (text_of the_number v) rows e = first_time _ e

rows_settled : (p : Held_text) (rows : List Row) → Fresh p rows → settled_rows rules (pend p) rows ≡ rows_with p rows
rows_settled no_text rows e = refl
rows_settled (text_of the_job v) rows e = used_row the_job v rows e
rows_settled (text_of the_form v) rows e = used_row the_form v rows e
rows_settled (text_of the_size v) rows e = used_row the_size v rows e
rows_settled (text_of the_number v) rows e = used_row the_number v rows e

pub given_settled : (p : Held_text) (rows : List Row) → Fresh p rows → given_in (settled_rows rules (pend p) rows) ≡ given_with p (given_in rows)
given_settled p rows fresh = ap given_in (rows_settled p rows fresh) ∙ go p fresh
  where
    go : (q : Held_text) → Fresh q rows → given_in (rows_with q rows) ≡ given_with q (given_in rows)
    go no_text e = refl
    go (text_of k v) e = given_put k v rows e

pub full_settled : (p : Held_text) (rows : List Row) → Fresh p rows → Full rows → Full (settled_rows rules (pend p) rows)
full_settled p rows fresh full = subst Full (sym (rows_settled p rows fresh)) (go p)
  where
    go : (q : Held_text) → Full (rows_with q rows)
    go no_text = full
    go (text_of k v) = Full-more k v rows full
