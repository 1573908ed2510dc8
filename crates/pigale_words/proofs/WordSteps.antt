-- What one word does in clap's walk, by whether it is `--` and what it is as an option: equations that serve both directions.
use Rattle.std.proofs.Common.{◌≡◌, ◌∙◌, ◌||◌, ℕ, Bool, Option, Some, None, List, [], ◌∷◌, true, false, true≢false, refl, ap, sym, codes, length}
use Rattle.std.specs.Prelude.{zero, suc, slice_get, bytes_eq, if◌then◌else◌}
use Rattle.std.specs.Option.{option_map_or}
use Rattle.std.specs.Str.{chars}
use Rattle.std.proofs.Math.Bool.{and-false}
use Rattle.clap.specs.Lexer.{long_of, short_of}
use Rattle.clap.specs.Walk.{Held, Row, Step, Text, Waiting, Walk, after_flag, after_step, arg_by_index, bundle_met, bundle_step, idle, is_pending, long_or_other, option, pushed, Outcome, plain, plain_word, positional, settled, settled_rows, short_or_plain, to_positional, trailing, used, value, walked}
use Rattle.clap.specs.Kinds.{Kinds, or_else}
use Rattle.clap.specs.Faults.{bundle_fault, bundle_step_fault, flag_word_fault, flags_fault, settle_fault, step_fault, turn_fault, use_fault}
use Rattle.clap.specs.declared.error.kind.ErrorKind.TheVariants as kind
use Rattle.pigale_words.proofs.WordRows.{shape, rules, Which, Which.the_job, Which.the_form, Which.the_size, Which.the_number, name, rule, some_kind, or_else-nil, Held_text, Held_text.text_of, pend, held}

-- ---- the walk between two words

abbrev pub place : Bool → ℕ
place true = 2
place false = 1

abbrev pub idle_at : List Row → Held_text → Bool → Walk
idle_at rows p met = record { held = held rows p; waiting = idle; position = place met; is_trailing = false; stopped = None }

abbrev pub waiting_at : List Row → Which → Bool → Walk
waiting_at rows k met = record { held = record { rows = rows; pending = Some (name k, []); skip = 0 }; waiting = option (name k); position = place met; is_trailing = false; stopped = None }

abbrev pub trailing_at : List Row → Held_text → Bool → Walk
trailing_at rows p met = record (idle_at rows p met) { is_trailing = true }

abbrev pub is_hyphens : Text → Bool
is_hyphens word = bytes_eq word (45 ∷ 45 ∷ [])

-- what a word does, by whether it is `--` and what it is as an option
abbrev pub met_by : Waiting → Held → ℕ → Text → Bool → Option (Text × Option Text) → Held × Step
met_by waiting h n word b l = if b then (h, trailing n) else long_or_other rules waiting word l h

abbrev pub fault_by : Waiting → Held → ℕ → Text → Bool → Option (Text × Option Text) → Kinds
fault_by waiting h n word b l =
    or_else (if b then [] else flag_word_fault rules false l word h) (step_fault shape n (met_by waiting h n word b l).0 (met_by waiting h n word b l).1)

abbrev pub is_job : Which → Bool
is_job the_job = true
is_job _ = false

abbrev pub of_walk : Walk → Held → Waiting → Walk
of_walk w h waiting = record w { held = h; waiting = waiting }

abbrev pub at_word : Held → Waiting → ℕ → Walk
at_word h waiting n = record { held = h; waiting = waiting; position = n; is_trailing = false; stopped = None }

abbrev pub walk_by : Waiting → Held → ℕ → Text → Bool → Option (Text × Option Text) → Walk
walk_by waiting h n word b l = after_step rules word (at_word h waiting n) (met_by waiting h n word b l).0 (met_by waiting h n word b l).1

pub turn_fault_by : (waiting : Waiting) (h : Held) (n : ℕ) (word : Text) (b : Bool) (l : Option (Text × Option Text)) → is_hyphens word ≡ b → long_of word ≡ l
    → turn_fault shape [] (at_word h waiting n) word ≡ fault_by waiting h n word b l
turn_fault_by idle h n word b l e f = λ i. fault_by idle h n word (e i) (f i)
turn_fault_by (option id) h n word b l e f = λ i. fault_by (option id) h n word (e i) (f i)
turn_fault_by positional h n word b l e f = λ i. fault_by positional h n word (e i) (f i)

pub walked_by : (waiting : Waiting) (h : Held) (n : ℕ) (word : Text) (b : Bool) (l : Option (Text × Option Text)) → is_hyphens word ≡ b → long_of word ≡ l
    → walked rules [] (at_word h waiting n) word ≡ walk_by waiting h n word b l
unfolding walked
walked_by idle h n word b l e f = λ i. walk_by idle h n word (e i) (f i)
walked_by (option id) h n word b l e f = λ i. walk_by (option id) h n word (e i) (f i)
walked_by positional h n word b l e f = λ i. walk_by positional h n word (e i) (f i)

module _ (h : Held) (waiting : Waiting) (n : ℕ) where
  -- `--name` and `--name=text`
  pub apart_fault : (k : Which) (word : Text) → is_job k ≡ false → fault_by waiting h n word false (Some (name k, None)) ≡ or_else (settle_fault rules false h) []
  apart_fault the_job word e = absurd (true≢false e)
  apart_fault the_form word e = refl
  apart_fault the_size word e = refl
  apart_fault the_number word e = refl

  pub apart_met : (k : Which) (word : Text) → is_job k ≡ false
      → walk_by waiting h n word false (Some (name k, None))
      ≡ of_walk (at_word h waiting n) (record (settled rules h) { pending = Some (name k, []) }) (option (name k))
  apart_met the_job word e = absurd (true≢false e)
  apart_met the_form word e = refl
  apart_met the_size word e = refl
  apart_met the_number word e = refl

  pub joined_fault : (k : Which) (word v : Text) → is_job k ≡ false → fault_by waiting h n word false (Some (name k, Some v)) ≡ or_else (or_else (settle_fault rules false h) (use_fault false (rule k) (v ∷ []) (settled rules h).rows)) []
  joined_fault the_job word v e = absurd (true≢false e)
  joined_fault the_form word v e = refl
  joined_fault the_size word v e = refl
  joined_fault the_number word v e = refl

  pub joined_met : (k : Which) (word v : Text) → is_job k ≡ false
      → walk_by waiting h n word false (Some (name k, Some v))
      ≡ of_walk (at_word h waiting n) (record h { rows = used (rule k) (v ∷ []) (settled rules h).rows; pending = None }) idle
  joined_met the_job word v e = absurd (true≢false e)
  joined_met the_form word v e = refl
  joined_met the_size word v e = refl
  joined_met the_number word v e = refl

-- a word that is no option's
bundle_is : (k : ℕ) (flags : Text) (skip : ℕ) (so_far : Outcome) (h : Held) → flags_fault rules false k flags skip h ≡ [] → bundle_met rules k flags skip so_far h ≡ (h, so_far)
unfolding bundle_met flags_fault
bundle_is zero flags skip so_far h e = refl
bundle_is (suc k) flags skip so_far h e = go (slice_get (chars flags) 0) skip e (bundle_is k)
  where
    go : (o : Option ℕ) (n : ℕ) → bundle_step_fault rules false o flags n h (flags_fault rules false k) ≡ []
        → ((fs : Text) (m : ℕ) (so : Outcome) (i : Held) → flags_fault rules false k fs m i ≡ [] → bundle_met rules k fs m so i ≡ (i, so))
        → bundle_step rules o flags n so_far h (bundle_met rules k) ≡ (h, so_far)
    go None n fault rest = refl
    go (Some x) zero fault rest = absurd (some_kind _ _ fault)
    go (Some x) (suc n) fault rest = rest _ n so_far h fault

-- such a word goes to what waits
abbrev pub plain_fault : Waiting → Held → ℕ → Text → Kinds
plain_fault waiting h n word = step_fault shape n (plain_word rules waiting word h).0 (plain_word rules waiting word h).1

abbrev pub plain_walk : Waiting → Held → ℕ → Text → Walk
plain_walk waiting h n word = after_step rules word (at_word h waiting n) (plain_word rules waiting word h).0 (plain_word rules waiting word h).1

module _ (waiting : Waiting) (rows : List Row) (pending : Option (Text × List Text)) (n : ℕ) (word : Text) where
  abbrev pub here : Held
  here = record { rows = rows; pending = pending; skip = 0 }

  pub plain_goes : fault_by waiting here n word false None ≡ []
      → (plain_fault waiting here n word ≡ []) × (walk_by waiting here n word false None ≡ plain_walk waiting here n word)
  plain_goes e = go (short_of word) e
    where
      go : (o : Option Text) → or_else (option_map_or (λ flags. bundle_fault rules false flags here) o []) (step_fault shape n (short_or_plain rules waiting word o here).0 (short_or_plain rules waiting word o here).1) ≡ []
          → (plain_fault waiting here n word ≡ []) × (after_step rules word (at_word here waiting n) (short_or_plain rules waiting word o here).0 (short_or_plain rules waiting word o here).1 ≡ plain_walk waiting here n word)
      go None fault = (fault, refl)
      go (Some flags) fault =
          let both = or_else-nil _ _ fault in
          let is = bundle_is (length flags) flags 0 plain here both.0 in (
            sym (ap (λ (q : Held × Outcome). step_fault shape n (after_flag rules waiting word q.0 q.1).0 (after_flag rules waiting word q.0 q.1).1) is) ∙ both.1,
            ap (λ (q : Held × Outcome). after_step rules word (at_word here waiting n) (after_flag rules waiting word q.0 q.1).0 (after_flag rules waiting word q.0 q.1).1) is,
          )

-- what waits for a text takes it
pub waiting_takes : (rows : List Row) (k : Which) (met : Bool) (word : Text) → plain_walk (option (name k)) (waiting_at rows k met).held (place met) word ≡ idle_at rows (text_of k word) met
waiting_takes rows the_job met word = refl
waiting_takes rows the_form met word = refl
waiting_takes rows the_size met word = refl
waiting_takes rows the_number met word = refl

pub waiting_faults : (rows : List Row) (k : Which) → settle_fault rules false (record { rows = rows; pending = Some (name k, []); skip = 0 }) ≡ kind.InvalidValue ∷ []
waiting_faults rows the_job = refl
waiting_faults rows the_form = refl
waiting_faults rows the_size = refl
waiting_faults rows the_number = refl

-- where nothing waits the word is the job's
pub first_fault : (h : Held) → step_fault shape 1 h value ≡ settle_fault rules false h
first_fault h = ap (λ b. if b then [] else settle_fault rules false h) (and-false (is_pending (rule the_job) h.pending))

pub first_takes : (trails : Bool) (rows : List Row) (p : Held_text) (word : Text)
    → to_positional rules (arg_by_index rules 1) word (record { held = held rows p; waiting = idle; position = 1; is_trailing = trails; stopped = None }) (held rows p)
    ≡ record { held = held (settled_rows rules (pend p) rows) (text_of the_job word); waiting = idle; position = 2; is_trailing = trails || false; stopped = None }
first_takes trails rows p word =
    ap (λ b. record { held = pushed (codes "job") word (if b then held rows p else settled rules (held rows p)); waiting = idle; position = 2; is_trailing = trails || false; stopped = None })
    (and-false (is_pending (rule the_job) (pend p)))
