-- Words that clap takes spell a job's word and options, and words that spell them are taken: one induction for each direction.
use Rattle.std.proofs.lemmas.Option.{none-some}
use Rattle.std.proofs.Common.{append_assoc, eq-eqb, eqb-true, ◌≡◌, ◌∙◌, ◌⊎◌, ◌||◌, ℕ, Bool, Option, Some, None, List, [], ◌∷◌, ◌++◌, cond, true, false, true≢false, refl, ap, sym, subst, inl, inr, is_some, append-nil, codes}
use Rattle.std.specs.Prelude.{fold, unwrap_or, option_and_then, slice_get, bytes_eq, if◌then◌else◌, ◌==◌}
use Rattle.std.specs.Option.{option_map_or}
use Rattle.std.specs.List.{before_first, after_first}
use Rattle.std.proofs.lemmas.Slice.Eq.{bytes_eq-Decides}
use Rattle.clap.specs.Lexer.{strip_byte, has_byte, long_of, long_of_rest, short_of, short_of_rest}
use Rattle.clap.specs.Walk.{is_empty, Held, Row, Rule, Text, Waiting, Walk, after_step, arg_by_long, has_row, idle, default_rows, option, reading_by, settled, settled_rows, short_or_plain, walked, with_default, finished}
use Rattle.clap.specs.Simple.{built, matches_of}
use Rattle.clap.specs.Kinds.{Kinds, or_else}
use Rattle.clap.specs.Faults.{check_fault, defaults_fault, entered_fault, given_default_fault, bundle_fault, fault_of, long_fault, settle_fault, step_fault, turn_fault, walk_fault}
use Rattle.clap.specs.declared.error.kind.ErrorKind.TheVariants as kind
use Rattle.pigale_words.specs.Words.{Given, command, given, given_by, given_in, job_given, job_of}
use Rattle.pigale_words.specs.Spelling.{Spell, Spell.nothing, Spell.hyphens, Spell.behind, Spell.job_word, Spell.apart, Spell.joined}
use Rattle.pigale_words.specs.declared.job.Job.{Job}
use Rattle.pigale_words.proofs.WordRows.{shape, rules, Which, Which.the_job, Which.the_form, Which.the_size, Which.the_number, name, rule, use_one, some_kind, or_else-nil, nil-or_else, behind_sign, separated, long_word, row, used_row, Full, Full-more, put, get, given_put, none_of, get_given, Held_text, Held_text.no_text, Held_text.text_of, pend, held, given_with, Fresh, not_again, first_time, settles_fresh, fresh_settles, given_settled, full_settled}
use Rattle.pigale_words.proofs.WordSteps.{place, idle_at, waiting_at, trailing_at, is_hyphens, fault_by, is_job, at_word, walk_by, turn_fault_by, walked_by, apart_fault, apart_met, joined_fault, joined_met, plain_fault, plain_walk, plain_goes, waiting_takes, waiting_faults, first_fault, first_takes}

-- ---- from words to what they spell

-- options that are given one after the other, each for the first time
abbrev pub Adds : List (Text × Text) → Given → Given → Type 0
Adds [] g end = g ≡ end
Adds (o ∷ os) g end = (k : Which) × (is_job k ≡ false) × (o.0 ≡ name k) × (get k g ≡ None) × Adds os (put k o.1 g) end

abbrev pub with_job : Option Text → Given → Given
with_job None g = g
with_job (Some word) g = put the_job word g

-- behind a job's word comes no other
abbrev pub IsDue : Bool → Option Text → Type 0
IsDue true want = want ≡ None
IsDue false want = Unit {0}

due_none : (met : Bool) → IsDue met None
due_none true = refl
due_none false = tt

abbrev pub Found : Bool → List Text → Given → Given → Type 0
Found met words g end = (want : Option Text) × (options : List (Text × Text)) × IsDue met want × Spell words want options × Adds options (with_job want g) end

put_with : (k : Which) (v : Text) (want : Option Text) (g : Given) → is_job k ≡ false → with_job want (put k v g) ≡ put k v (with_job want g)
put_with k v None g e = refl
put_with the_job v (Some word) g e = absurd (true≢false e)
put_with the_form v (Some word) g e = refl
put_with the_size v (Some word) g e = refl
put_with the_number v (Some word) g e = refl

get_with : (k : Which) (want : Option Text) (g : Given) → is_job k ≡ false → get k (with_job want g) ≡ get k g
get_with k None g e = refl
get_with the_job (Some word) g e = absurd (true≢false e)
get_with the_form (Some word) g e = refl
get_with the_size (Some word) g e = refl
get_with the_number (Some word) g e = refl

more_found : (met : Bool) (words longer : List Text) (k : Which) (v : Text) (g end : Given) → is_job k ≡ false → get k g ≡ None
    → ((want : Option Text) (options : List (Text × Text)) → Spell words want options → Spell longer want ((name k, v) ∷ options))
    → Found met words (put k v g) end → Found met longer g end
more_found met words longer k v g end is none longer_spell (want, options, due, spell, adds) = (
  want,
  (name k, v) ∷ options,
  due,
  longer_spell want options spell,
  (k, is, refl, get_with k want g is ∙ none, subst (λ h. Adds options h end) (put_with k v want g is) adds),
)

-- no fault in a walk over the words, which gives this in the end
abbrev pub Ends : Walk → List Text → Given → Type 0
Ends w words end =
    (walk_fault shape [] w words ≡ []) × (settle_fault rules false (fold (walked rules []) w words).held ≡ []) × (given_in (settled rules (fold (walked rules []) w words).held).rows ≡ end)

first_step : (w : Walk) (x : Text) (words : List Text) (end : Given) → Ends w (x ∷ words) end → (turn_fault shape [] w x ≡ []) × Ends (walked rules [] w x) words end
unfolding walk_fault
first_step w x words end e =
    let both = or_else-nil _ _ e.0 in
    (both.0, (both.1, e.1, e.2))

-- the name of an option
long_known : (nm : Text) → (arg_by_long rules nm ≡ None) ⊎ ((k : Which) × (is_job k ≡ false) × (nm ≡ name k))
long_known nm = go (bytes_eq (codes "form") nm) (bytes_eq (codes "size") nm) (bytes_eq (codes "number") nm) refl refl refl
  where
    go : (f s n : Bool) → bytes_eq (codes "form") nm ≡ f → bytes_eq (codes "size") nm ≡ s → bytes_eq (codes "number") nm ≡ n
        → (cond (f || false) (Some (rule the_form)) (cond (s || false) (Some (rule the_size)) (cond (n || false) (Some (rule the_number)) None)) ≡ None) ⊎ ((k : Which) × (is_job k ≡ false) × (nm ≡ name k))
    go true s n e1 e2 e3 = inr (the_form, refl, sym ((bytes_eq-Decides (codes "form") nm).0 e1))
    go false true n e1 e2 e3 = inr (the_size, refl, sym ((bytes_eq-Decides (codes "size") nm).0 e2))
    go false false true e1 e2 e3 = inr (the_number, refl, sym ((bytes_eq-Decides (codes "number") nm).0 e3))
    go false false false e1 e2 e3 = inl refl

unknown_long : (waiting : Waiting) (h : Held) (n : ℕ) (word nm : Text) (v : Option Text) → arg_by_long rules nm ≡ None → fault_by waiting h n word false (Some (nm, v)) ≡ [] → ⊥
unknown_long waiting h n word nm v e fault = some_kind kind.UnknownArgument [] (sym (ap (λ o. long_fault rules false o v h) e) ∙ (or_else-nil _ _ fault).0)

-- the word of an option
abbrev pub pair : Text → Option Text → Option (Text × Option Text)
pair nm v = Some (nm, v)

same_pair : (a nm : Text) (o v : Option Text) → pair a o ≡ pair nm v → (a ≡ nm) × (o ≡ v)
same_pair a nm o v e = (ap (λ (q : Option (Text × Option Text)). (unwrap_or q (a, o)).0) e, ap (λ (q : Option (Text × Option Text)). (unwrap_or q (a, o)).1) e)

named_is : (text nm : Text) (v : Option Text) (has : Bool) → has_byte 61 text ≡ has
    → pair (before_first (λ x. x == 61) text) (if has then Some (after_first (λ x. x == 61) text) else None) ≡ pair nm v → 45 ∷ 45 ∷ text ≡ long_word nm v
named_is text nm v true is same =
    let parts = same_pair _ nm _ v same in
    let here : text ≡ before_first (λ x. x == 61) text ++ 61 ∷ after_first (λ x. x == 61) text = separated text ∙ ap (λ h. before_first (λ x. x == 61) text ++ behind_sign h (after_first (λ x. x == 61) text)) is in
    ap (λ t. 45 ∷ 45 ∷ t) (here ∙ sym (append_assoc (before_first (λ x. x == 61) text) (61 ∷ []) (after_first (λ x. x == 61) text))) ∙ (λ i. long_word (parts.0 i) (parts.1 i))
named_is text nm v false is same =
    let parts = same_pair _ nm _ v same in
    let here : text ≡ before_first (λ x. x == 61) text ++ [] = separated text ∙ ap (λ h. before_first (λ x. x == 61) text ++ behind_sign h (after_first (λ x. x == 61) text)) is in
    ap (λ t. 45 ∷ 45 ∷ t) (here ∙ append-nil _) ∙ (λ i. long_word (parts.0 i) (parts.1 i))

rest_is : (text nm : Text) (v : Option Text) → long_of_rest text ≡ pair nm v → 45 ∷ 45 ∷ text ≡ long_word nm v
rest_is [] nm v e = absurd (none-some _ e)
rest_is (t ∷ ts) nm v e = named_is (t ∷ ts) nm v (has_byte 61 (t ∷ ts)) refl e

long_is : (x nm : Text) (v : Option Text) → long_of x ≡ pair nm v → x ≡ long_word nm v
long_is [] nm v e = absurd (none-some _ e)
long_is (a ∷ rest) nm v e = go (a == 45) refl e
  where
    second : (r : Text) → option_and_then long_of_rest (strip_byte 45 r) ≡ pair nm v → 45 ∷ r ≡ long_word nm v
    second [] is = absurd (none-some _ is)
    second (b ∷ text) is = tell (b == 45) refl is
      where
        tell : (d : Bool) → (b == 45) ≡ d → option_and_then long_of_rest (if d then Some text else None) ≡ pair nm v → 45 ∷ b ∷ text ≡ long_word nm v
        tell true same found = ap (λ c. 45 ∷ c ∷ text) (eqb-true b 45 same) ∙ rest_is text nm v found
        tell false same found = absurd (none-some _ found)

    go : (c : Bool) → (a == 45) ≡ c → option_and_then long_of_rest (option_and_then (strip_byte 45) (if c then Some rest else None)) ≡ pair nm v → a ∷ rest ≡ long_word nm v
    go true same found = ap (λ c. c ∷ rest) (eqb-true a 45 same) ∙ second rest found
    go false same found = absurd (none-some _ found)

-- behind `--`
trailing_ends : (words : List Text) (rows : List Row) (p : Held_text) (met : Bool) (end : Given) → Ends (trailing_at rows p met) words end
    → Fresh p rows × Found met (codes "--" ∷ words) (given_with p (given_in rows)) end
unfolding walked walk_fault
trailing_ends [] rows p met end e =
    let fresh = settles_fresh p rows e.1 in
    (fresh, (None, [], due_none met, hyphens, sym (given_settled p rows fresh) ∙ e.2))
trailing_ends (y ∷ words) rows p true end e = absurd (some_kind kind.UnknownArgument [] (first_step (trailing_at rows p true) y words end e).0)
trailing_ends (y ∷ words) rows p false end e =
    let step = first_step (trailing_at rows p false) y words end e in
    let fresh = settles_fresh p rows (sym (first_fault (held rows p)) ∙ step.0) in
    (fresh, go words (subst (λ w. Ends w words end) (first_takes true rows p y) step.1) fresh)
  where
    go : (rest : List Text) → Ends (trailing_at (settled_rows rules (pend p) rows) (text_of the_job y) true) rest end → Fresh p rows → Found false (codes "--" ∷ y ∷ rest) (given_with p (given_in rows)) end
    go [] ends fresh =
        let last = settles_fresh (text_of the_job y) (settled_rows rules (pend p) rows) ends.1 in
        (Some y, [], tt, behind, ap (put the_job y) (sym (given_settled p rows fresh)) ∙ sym (given_settled (text_of the_job y) (settled_rows rules (pend p) rows) last) ∙ ends.2)
    go (z ∷ rest) ends fresh = absurd (some_kind kind.UnknownArgument [] (first_step (trailing_at (settled_rows rules (pend p) rows) (text_of the_job y) true) z rest end ends).0)

abbrev pub FromIdle : List Text → Type 0
FromIdle words = (rows : List Row) (p : Held_text) (met : Bool) (end : Given) → Full rows → Ends (idle_at rows p met) words end → Fresh p rows × Found met words (given_with p (given_in rows)) end

abbrev pub FromWaiting : List Text → Type 0
FromWaiting words = (rows : List Row) (k : Which) (met : Bool) (end : Given) → Full rows → Ends (waiting_at rows k met) words end
    → (v : Text) × (rest : List Text) × (words ≡ v ∷ rest) × (has_row (name k) rows ≡ false) × Found met rest (put k v (given_in rows)) end

idle_nil : FromIdle []
idle_nil rows p met end full e =
    let fresh = settles_fresh p rows e.1 in
    (fresh, (None, [], due_none met, nothing, sym (given_settled p rows fresh) ∙ e.2))

waits_badly : (rows : List Row) (k : Which) → settle_fault rules false (record { rows = rows; pending = Some (name k, []); skip = 0 }) ≡ [] → ⊥
waits_badly rows k e = some_kind kind.InvalidValue [] (sym (waiting_faults rows k) ∙ e)

waiting_nil : FromWaiting []
waiting_nil rows k met end full e = absurd (waits_badly rows k e.1)

-- no text comes behind `--`
waits_behind : (words : List Text) (rows : List Row) (k : Which) (met : Bool) (end : Given) → Ends (record (waiting_at rows k met) { is_trailing = true }) words end → ⊥
waits_behind [] rows k met end e = waits_badly rows k e.1
waits_behind (y ∷ words) rows k true end e = some_kind kind.UnknownArgument [] (first_step (record (waiting_at rows k true) { is_trailing = true }) y words end e).0
waits_behind (y ∷ words) rows k false end e =
    waits_badly rows k (sym (first_fault (record { rows = rows; pending = Some (name k, []); skip = 0 })) ∙ (first_step (record (waiting_at rows k false) { is_trailing = true }) y words end e).0)

abbrev pub waiting_held : List Row → Which → Held
waiting_held rows k = record { rows = rows; pending = Some (name k, []); skip = 0 }

waiting_step : (x : Text) (words : List Text) → FromIdle words → FromWaiting (x ∷ words)
waiting_step x words idly rows k met end full e =
    let step = first_step (waiting_at rows k met) x words end e in
    go (is_hyphens x) (long_of x) (sym (turn_fault_by (option (name k)) (waiting_held rows k) (place met) x (is_hyphens x) (long_of x) refl refl) ∙ step.0)
    (subst (λ w. Ends w words end) (walked_by (option (name k)) (waiting_held rows k) (place met) x (is_hyphens x) (long_of x) refl refl) step.1)
  where
    go : (b : Bool) (l : Option (Text × Option Text)) → fault_by (option (name k)) (waiting_held rows k) (place met) x b l ≡ [] → Ends (walk_by (option (name k)) (waiting_held rows k) (place met) x b l) words end
        → (v : Text) × (rest : List Text) × (x ∷ words ≡ v ∷ rest) × (has_row (name k) rows ≡ false) × Found met rest (put k v (given_in rows)) end
    go true l fault ends = absurd (waits_behind words rows k met end ends)
    go false None fault ends =
        let plainly = plain_goes (option (name k)) rows (Some (name k, [])) (place met) x fault in
        let found = idly rows (text_of k x) met end full (subst (λ w. Ends w words end) (plainly.1 ∙ waiting_takes rows k met x) ends) in
        (x, words, refl, found.0, found.1)
    go false (Some (nm, v)) fault ends = tell (long_known nm)
      where
        tell : (arg_by_long rules nm ≡ None) ⊎ ((j : Which) × (is_job j ≡ false) × (nm ≡ name j))
            → (v : Text) × (rest : List Text) × (x ∷ words ≡ v ∷ rest) × (has_row (name k) rows ≡ false) × Found met rest (put k v (given_in rows)) end
        tell (inl unknown) = absurd (unknown_long (option (name k)) (waiting_held rows k) (place met) x nm v unknown fault)
        tell (inr (j, is, same)) = absurd (waits_badly rows k (bad v (subst (λ m. fault_by (option (name k)) (waiting_held rows k) (place met) x false (Some (m, v)) ≡ []) same fault)))
          where
            bad : (u : Option Text) → fault_by (option (name k)) (waiting_held rows k) (place met) x false (Some (name j, u)) ≡ [] → settle_fault rules false (waiting_held rows k) ≡ []
            bad None f = (or_else-nil _ _ (sym (apart_fault (waiting_held rows k) (option (name k)) (place met) j x is) ∙ f)).0
            bad (Some u) f = (or_else-nil _ _ (or_else-nil _ _ (sym (joined_fault (waiting_held rows k) (option (name k)) (place met) j x u is) ∙ f)).0).0

module _ (x : Text) (words : List Text) (idly : FromIdle words) (waits : FromWaiting words) (rows : List Row) (p : Held_text) (met : Bool) (end : Given) (full : Full rows) where
  abbrev pub given_here : Given
  given_here = given_with p (given_in rows)

  abbrev pub rows_here : List Row
  rows_here = settled_rows rules (pend p) rows

  idle_option : (k : Which) (v : Option Text) → is_job k ≡ false → x ≡ long_word (name k) v → fault_by idle (held rows p) (place met) x false (Some (name k, v)) ≡ []
      → Ends (walk_by idle (held rows p) (place met) x false (Some (name k, v))) words end → Fresh p rows × Found met (x ∷ words) given_here end
  idle_option k None is same fault ends =
      let fresh = settles_fresh p rows (or_else-nil _ _ (sym (apart_fault (held rows p) idle (place met) k x is) ∙ fault)).0 in
      let all = full_settled p rows fresh full in
      go fresh all (waits rows_here k met end all (subst (λ w. Ends w words end) (apart_met (held rows p) idle (place met) k x is) ends))
    where
      go : Fresh p rows → Full rows_here → ((v : Text) × (rest : List Text) × (words ≡ v ∷ rest) × (has_row (name k) rows_here ≡ false) × Found met rest (put k v (given_in rows_here)) end)
          → Fresh p rows × Found met (x ∷ words) given_here end
      go fresh all (v, rest, are, once, found) = (
        fresh,
        subst (λ g. Found met (x ∷ words) g end) (given_settled p rows fresh)
            (more_found met rest (x ∷ words) k v (given_in rows_here) end is (none_of _ (sym (get_given k rows_here all) ∙ once))
            (λ want options spell. subst (λ ws. Spell ws want ((name k, v) ∷ options)) (λ i. sym same i ∷ sym are i) (apart spell)) found),
      )
  idle_option k (Some v) is same fault ends =
      let both = or_else-nil _ _ (or_else-nil _ _ (sym (joined_fault (held rows p) idle (place met) k x v is) ∙ fault)).0 in
      let fresh = settles_fresh p rows both.0 in
      let all = full_settled p rows fresh full in
      let once : has_row (name k) rows_here ≡ false = not_again _ (sym (use_one k v rows_here) ∙ both.1) in
      let there = subst (λ w. Ends w words end) (joined_met (held rows p) idle (place met) k x v is) ends in
      let next_ends = subst (λ rs. Ends (idle_at rs no_text met) words end) (used_row k v rows_here once) there in
      let found = subst (λ g. Found met words g end) (given_put k v rows_here once) (idly (rows_here ++ row k v ∷ []) no_text met end (Full-more k v rows_here all) next_ends).1 in (
        fresh,
        subst (λ g. Found met (x ∷ words) g end) (given_settled p rows fresh)
            (more_found met words (x ∷ words) k v (given_in rows_here) end is (none_of _ (sym (get_given k rows_here all) ∙ once))
            (λ want options spell. subst (λ y. Spell (y ∷ words) want ((name k, v) ∷ options)) (sym same) (joined spell)) found),
      )

  idle_job : (m : Bool) → met ≡ m → plain_fault idle (held rows p) (place m) x ≡ [] → Ends (plain_walk idle (held rows p) (place m) x) words end → Fresh p rows × Found m (x ∷ words) given_here end
  idle_job true is fault ends = absurd (some_kind kind.UnknownArgument [] fault)
  idle_job false is fault ends =
      let fresh = settles_fresh p rows (sym (first_fault (held rows p)) ∙ fault) in
      go fresh (idly rows_here (text_of the_job x) true end (full_settled p rows fresh full) (subst (λ w. Ends w words end) (first_takes false rows p x) ends)).1
    where
      go : Fresh p rows → Found true words (put the_job x (given_in rows_here)) end → Fresh p rows × Found false (x ∷ words) given_here end
      go fresh (want, options, due, spell, adds) = (
        fresh,
        (
          Some x,
          options,
          tt,
          job_word (subst (λ w. Spell words w options) due spell),
          subst (λ g. Adds options (put the_job x g) end) (given_settled p rows fresh) (subst (λ w. Adds options (with_job w (put the_job x (given_in rows_here))) end) due adds),
        ),
      )

  idle_step : Ends (idle_at rows p met) (x ∷ words) end → Fresh p rows × Found met (x ∷ words) given_here end
  idle_step e =
      let step = first_step (idle_at rows p met) x words end e in
      go (is_hyphens x) (long_of x) refl refl (sym (turn_fault_by idle (held rows p) (place met) x (is_hyphens x) (long_of x) refl refl) ∙ step.0)
      (subst (λ w. Ends w words end) (walked_by idle (held rows p) (place met) x (is_hyphens x) (long_of x) refl refl) step.1)
    where
      go : (b : Bool) (l : Option (Text × Option Text)) → is_hyphens x ≡ b → long_of x ≡ l → fault_by idle (held rows p) (place met) x b l ≡ [] → Ends (walk_by idle (held rows p) (place met) x b l) words end
          → Fresh p rows × Found met (x ∷ words) given_here end
      go true l e1 e2 fault ends =
          subst (λ y. Fresh p rows × Found met (y ∷ words) given_here end) (sym ((bytes_eq-Decides x (45 ∷ 45 ∷ [])).0 e1)) (trailing_ends words rows p met end ends)
      go false None e1 e2 fault ends =
          let plainly = plain_goes idle rows (pend p) (place met) x fault in
          idle_job met refl plainly.0 (subst (λ w. Ends w words end) plainly.1 ends)
      go false (Some (nm, v)) e1 e2 fault ends = tell (long_known nm)
        where
          tell : (arg_by_long rules nm ≡ None) ⊎ ((k : Which) × (is_job k ≡ false) × (nm ≡ name k)) → Fresh p rows × Found met (x ∷ words) given_here end
          tell (inl unknown) = absurd (unknown_long idle (held rows p) (place met) x nm v unknown fault)
          tell (inr (k, is, same)) =
              idle_option k v is (long_is x nm v e2 ∙ ap (λ m. long_word m v) same)
              (subst (λ m. fault_by idle (held rows p) (place met) x false (Some (m, v)) ≡ []) same fault)
              (subst (λ m. Ends (walk_by idle (held rows p) (place met) x false (Some (m, v))) words end) same ends)

pub found_by : (words : List Text) → FromIdle words × FromWaiting words
found_by [] = (idle_nil, waiting_nil)
found_by (x ∷ words) =
    let rest = found_by words in
    (idle_step x words rest.0 rest.1, waiting_step x words rest.0)

-- ---- from what words spell to what they give

abbrev pub Plain : Text → Type 0
Plain word = (is_hyphens word ≡ false) × (long_of word ≡ None) × (short_of word ≡ None)

pub plain_first : (b : ℕ) (rest : Text) → (b == 45) ≡ false → Plain (b ∷ rest)
plain_first b rest e = (
  go (is_hyphens (b ∷ rest)) refl,
  ap (λ c. option_and_then long_of_rest (option_and_then (strip_byte 45) (if c then Some rest else None))) e,
  ap (λ c. option_and_then short_of_rest (if c then Some rest else None)) e,
)
  where
    go : (c : Bool) → is_hyphens (b ∷ rest) ≡ c → c ≡ false
    go false is = refl
    go true is =
        let same : b ≡ 45 = ap (λ (l : Text). unwrap_or (slice_get l 0) b) ((bytes_eq-Decides (b ∷ rest) (45 ∷ 45 ∷ [])).0 is) in
        absurd (true≢false (sym (eq-eqb b 45 same) ∙ e))

-- a word of the job is still to come
abbrev pub Awaits : Option Text → Given → Type 0
Awaits None g = Unit {0}
Awaits (Some word) g = (g.job ≡ None) × Plain word

abbrev pub AllPlain : List (Text × Text) → Type 0
AllPlain [] = Unit {0}
AllPlain (o ∷ os) = Plain o.1 × AllPlain os

next_step : (w after : Walk) (x : Text) (words : List Text) (end : Given) → turn_fault shape [] w x ≡ [] → walked rules [] w x ≡ after → Ends after words end → Ends w (x ∷ words) end
unfolding walk_fault
next_step w after x words end fault is ends =
    let there = subst (λ a. Ends a words end) (sym is) ends in
    (nil-or_else _ _ fault there.0, there.1, there.2)

plain_stays : (waiting : Waiting) (h : Held) (n : ℕ) (word : Text) → short_of word ≡ None
    → (fault_by waiting h n word false None ≡ plain_fault waiting h n word) × (walk_by waiting h n word false None ≡ plain_walk waiting h n word)
plain_stays waiting h n word e = (
  ap (λ o. or_else (option_map_or (λ flags. bundle_fault rules false flags h) o []) (step_fault shape n (short_or_plain rules waiting word o h).0 (short_or_plain rules waiting word o h).1)) e,
  ap (λ o. after_step rules word (at_word h waiting n) (short_or_plain rules waiting word o h).0 (short_or_plain rules waiting word o h).1) e,
)

option_word_is : (k : Which) (v : Option Text) → (is_hyphens (long_word (name k) v) ≡ false) × (long_of (long_word (name k) v) ≡ pair (name k) v)
option_word_is the_job None = (refl, refl)
option_word_is the_form None = (refl, refl)
option_word_is the_size None = (refl, refl)
option_word_is the_number None = (refl, refl)
option_word_is the_job (Some v) = (refl, refl)
option_word_is the_form (Some v) = (refl, refl)
option_word_is the_size (Some v) = (refl, refl)
option_word_is the_number (Some v) = (refl, refl)

module _ (rows : List Row) (p : Held_text) (full : Full rows) (fresh : Fresh p rows) where
  abbrev pub settled_here : List Row
  settled_here = settled_rows rules (pend p) rows

  none_settled : (k : Which) → get k (given_with p (given_in rows)) ≡ None → has_row (name k) settled_here ≡ false
  none_settled k none =
      get_given k settled_here (full_settled p rows fresh full) ∙ ap (λ g. is_some (get k g)) (given_settled p rows fresh) ∙ ap is_some none

  last_ends : (met trails : Bool) → Ends (record (idle_at rows p met) { is_trailing = trails }) [] (given_with p (given_in rows))
  unfolding walk_fault
  last_ends met trails = (refl, fresh_settles p rows fresh, given_settled p rows fresh)

  job_ends : (word : Text) → get the_job (given_with p (given_in rows)) ≡ None → Ends (idle_at rows p false) (codes "--" ∷ word ∷ []) (put the_job word (given_with p (given_in rows)))
  unfolding walked walk_fault
  job_ends word none =
      let once = none_settled the_job none in
      next_step (idle_at rows p false) (trailing_at rows p false) (codes "--") (word ∷ []) _ refl refl
      (next_step (trailing_at rows p false) (trailing_at settled_here (text_of the_job word) true) word [] _ (first_fault (held rows p) ∙ fresh_settles p rows fresh) (first_takes true rows p word)
      (refl, fresh_settles (text_of the_job word) settled_here once, given_settled (text_of the_job word) settled_here once ∙ ap (put the_job word) (given_settled p rows fresh)))

  hyphens_end : (met : Bool) → Ends (idle_at rows p met) (codes "--" ∷ []) (given_with p (given_in rows))
  unfolding walked
  hyphens_end met = next_step (idle_at rows p met) (trailing_at rows p met) (codes "--") [] _ refl refl (last_ends met true)

awaits_put : (k : Which) (v : Text) (want : Option Text) (g : Given) → is_job k ≡ false → Awaits want g → Awaits want (put k v g)
awaits_put k v None g is e = tt
awaits_put the_job v (Some word) g is e = absurd (true≢false is)
awaits_put the_form v (Some word) g is e = e
awaits_put the_size v (Some word) g is e = e
awaits_put the_number v (Some word) g is e = e

pub ends_by : {words : List Text} {want : Option Text} {options : List (Text × Text)} → Spell words want options → (rows : List Row) (p : Held_text) (met : Bool) (end : Given) → Full rows → Fresh p rows
    → IsDue met want → Awaits want (given_with p (given_in rows)) → AllPlain options → Adds options (with_job want (given_with p (given_in rows))) end → Ends (idle_at rows p met) words end
ends_by nothing rows p met end full fresh due awaits plains adds = subst (Ends (idle_at rows p met) []) adds (last_ends rows p full fresh met false)
ends_by hyphens rows p met end full fresh due awaits plains adds = subst (Ends (idle_at rows p met) (codes "--" ∷ [])) adds (hyphens_end rows p full fresh met)
ends_by behind rows p true end full fresh due awaits plains adds = absurd (none-some _ (sym due))
ends_by (behind {word = word}) rows p false end full fresh due awaits plains adds = subst (Ends (idle_at rows p false) (codes "--" ∷ word ∷ [])) adds (job_ends rows p full fresh word awaits.0)
ends_by (job_word spell) rows p true end full fresh due awaits plains adds = absurd (none-some _ (sym due))
ends_by (job_word {word = word} {words = words} {options = options} spell) rows p false end full fresh due awaits plains adds =
    let goes = plain_stays idle (held rows p) 1 word awaits.1.2 in
    let once = none_settled rows p full fresh the_job awaits.0 in
    next_step (idle_at rows p false) (idle_at (settled_rows rules (pend p) rows) (text_of the_job word) true) word words end
    (turn_fault_by idle (held rows p) 1 word false None awaits.1.0 awaits.1.1 ∙ goes.0 ∙ first_fault (held rows p) ∙ fresh_settles p rows fresh)
    (walked_by idle (held rows p) 1 word false None awaits.1.0 awaits.1.1 ∙ goes.1 ∙ first_takes false rows p word)
    (ends_by spell (settled_rows rules (pend p) rows) (text_of the_job word) true end (full_settled p rows fresh full) once refl tt plains
    (subst (λ g. Adds options (put the_job word g) end) (sym (given_settled p rows fresh)) adds))
ends_by (apart {name = nm} {text = text} {words = words} {word = want} {options = options} spell) rows p met end full fresh due awaits plains (k, is, same, none, adds) =
    let g = given_with p (given_in rows) in
    let there = settled_rows rules (pend p) rows in
    let sits = given_settled p rows fresh in
    let once = none_settled rows p full fresh k (sym (get_with k want g is) ∙ none) in
    let read = option_word_is k None in
    let goes = plain_stays (option (name k)) (waiting_held there k) (place met) text plains.0.2 in
    subst (λ m. Ends (idle_at rows p met) ((codes "--" ++ m) ∷ text ∷ words) end) (sym same)
    (next_step (idle_at rows p met) (waiting_at there k met) (long_word (name k) None) (text ∷ words) end
    (turn_fault_by idle (held rows p) (place met) (long_word (name k) None) false (Some (name k, None)) read.0 read.1 ∙ apart_fault (held rows p) idle (place met) k (long_word (name k) None) is ∙ nil-or_else _ _ (fresh_settles p rows fresh) refl)
    (walked_by idle (held rows p) (place met) (long_word (name k) None) false (Some (name k, None)) read.0 read.1 ∙ apart_met (held rows p) idle (place met) k (long_word (name k) None) is)
    (next_step (waiting_at there k met) (idle_at there (text_of k text) met) text words end
    (turn_fault_by (option (name k)) (waiting_held there k) (place met) text false None plains.0.0 plains.0.1 ∙ goes.0)
    (walked_by (option (name k)) (waiting_held there k) (place met) text false None plains.0.0 plains.0.1 ∙ goes.1 ∙ waiting_takes there k met text)
    (ends_by spell there (text_of k text) met end (full_settled p rows fresh full) once due
    (subst (λ h. Awaits want (put k text h)) (sym sits) (awaits_put k text want g is awaits)) plains.1
    (subst (λ h. Adds options (with_job want (put k text h)) end) (sym sits) (subst (λ h. Adds options h end) (sym (put_with k text want g is)) adds)))))
ends_by (joined {name = nm} {text = text} {words = words} {word = want} {options = options} spell) rows p met end full fresh due awaits plains (k, is, same, none, adds) =
    let g = given_with p (given_in rows) in
    let there = settled_rows rules (pend p) rows in
    let once = none_settled rows p full fresh k (sym (get_with k want g is) ∙ none) in
    let sits = given_put k text there once ∙ ap (put k text) (given_settled p rows fresh) in
    let word = long_word (name k) (Some text) in
    let read = option_word_is k (Some text) in
    subst (λ m. Ends (idle_at rows p met) ((codes "--" ++ m ++ codes "=" ++ text) ∷ words) end) (sym same)
    (next_step (idle_at rows p met) (idle_at (there ++ row k text ∷ []) no_text met) word words end
    (turn_fault_by idle (held rows p) (place met) word false (Some (name k, Some text)) read.0 read.1 ∙ joined_fault (held rows p) idle (place met) k word text is
    ∙ nil-or_else _ _ (nil-or_else _ _ (fresh_settles p rows fresh) (use_one k text there ∙ first_time _ once)) refl)
    (walked_by idle (held rows p) (place met) word false (Some (name k, Some text)) read.0 read.1 ∙ joined_met (held rows p) idle (place met) k word text is
    ∙ ap (λ rs. idle_at rs no_text met) (used_row k text there once))
    (ends_by spell (there ++ row k text ∷ []) no_text met end (Full-more k text there (full_settled p rows fresh full)) tt due
    (subst (λ h. Awaits want h) (sym sits) (awaits_put k text want g is awaits)) plains.1
    (subst (λ h. Adds options (with_job want h) end) (sym sits) (subst (λ h. Adds options h end) (sym (put_with k text want g is)) adds))))

-- ---- the words of a command

no_default : (rows : List Row) (a : Rule) → a.defaults ≡ [] → with_default rows a ≡ rows
no_default rows a none = go (has_row a.id rows)
  where
    go : (b : Bool) → (if b then rows else default_rows a.id (reading_by a) a.defaults rows) ≡ rows
    go true = refl
    go false = ap (λ values. default_rows a.id (reading_by a) values rows) none

abbrev pub NoDefaults : List Rule → Type 0
NoDefaults [] = Unit {0}
NoDefaults (a ∷ xs) = (a.defaults ≡ []) × NoDefaults xs

no_defaults : (xs : List Rule) (rows : List Row) → NoDefaults xs → (fold with_default rows xs ≡ rows) × (defaults_fault rows xs ≡ [])
unfolding defaults_fault
no_defaults [] rows none = (refl, refl)
no_defaults (a ∷ xs) rows none =
    let same = no_default rows a none.0 in
    let rest = no_defaults xs rows none.1 in
    (ap (λ rs. fold with_default rs xs) same ∙ rest.0, nil-or_else _ _ (go (has_row a.id rows)) (ap (λ rs. defaults_fault rs xs) same ∙ rest.1))
  where
    go : (b : Bool) → (if b || is_empty a.defaults then [] else given_default_fault a a.defaults) ≡ []
    go true = refl
    go false = ap (λ (ds : List Text). if is_empty ds then [] else given_default_fault a ds) none.0

rules_have_none : NoDefaults rules
rules_have_none = (refl, (refl, (refl, (refl, tt))))

no_checks : (rows : List Row) (b : Bool) → check_fault shape rows b ≡ []
no_checks rows true = refl
no_checks rows false = refl

no_subcommand : (stop : Option (Text × List Text)) → entered_fault (built command) stop ≡ []
no_subcommand None = refl
no_subcommand (Some p) = refl

abbrev pub start : Walk
start = idle_at [] no_text false

abbrev pub the_end : List Text → Walk
the_end words = fold (walked rules []) start words

pub ends_of : (words : List Text) (job : Job) → job_of words ≡ Some job → (end : Given) × Ends start words end × (job_given end ≡ Some job)
unfolding given
ends_of words job e =
    let parts = go (fault_of command words) e in
    let first = or_else-nil _ _ parts.0 in
    let second = or_else-nil _ _ first.1 in
    let same = (no_defaults rules (settled rules (the_end words).held).rows rules_have_none).0 in
    (given_in (settled rules (the_end words).held).rows, (first.0, (or_else-nil _ _ second.1).0, refl), sym (ap (λ rs. job_given (given_in rs)) same) ∙ parts.1)
  where
    go : (k : Kinds) → option_and_then job_given (given_by k (matches_of command words)) ≡ Some job → (k ≡ []) × (job_given (given_in (matches_of command words)) ≡ Some job)
    go [] is = (refl, is)
    go (x ∷ xs) is = absurd (none-some job is)

pub given_of : (words : List Text) (end : Given) → Ends start words end → given words ≡ Some end
unfolding given
given_of words end e =
    let none = no_defaults rules (settled rules (the_end words).held).rows rules_have_none in
    let fault : fault_of command words ≡ [] =
    nil-or_else _ _ e.0 (nil-or_else _ _ (no_subcommand (the_end words).stopped) (nil-or_else _ _ e.1 (nil-or_else _ _ none.1 (no_checks (finished rules (the_end words).held) _)))) in
    ap (λ k. given_by k (matches_of command words)) fault ∙ ap (λ rs. Some (given_in rs)) none.0 ∙ ap (λ g. Some g) e.2
