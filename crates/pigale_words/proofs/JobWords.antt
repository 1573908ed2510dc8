-- Which words are those of a job.
use Rattle.std.proofs.lemmas.Option.{none-some}
use Rattle.std.proofs.Common.{eqb-true, ◌+◌, ◌*◌, ◌-◌, ◌≡◌, ◌∙◌, ◌&&◌, ◌||◌, not, ℕ, Bool, Option, Some, None, List, [], ◌∷◌, true, false, true≢false, refl, ap, ap₂, cond, sym, subst, inl, inr, is_some, codes}
use Rattle.std.specs.Prelude.{unwrap_or, option_and_then, option_map, count_by, bytes_eq, if◌then◌else◌, ◌==◌}
use Rattle.std.specs.List.{list_all}
use Rattle.std.specs.Map.{lookup}
use Rattle.std.proofs.lemmas.Slice.Eq.{bytes_eq-Decides}
use Rattle.std.proofs.lemmas.Bool.{or_parts, not-true}
use Rattle.clap.specs.Walk.{Text, plain_word}
use Rattle.pigale_words.specs.Words.{Given, given_in, has_option, Takes, Takes.no_option, Takes.a_form, Takes.two_numbers, jobs, taken_by, job_with, number_given, gen_of, job_given, job_named, job_of, has_number, form_of}
use Rattle.pigale_words.specs.Spelling.{NamesForm, NamesNumbers, Fits, IsNamed, JobWords, Spell, Spell.nothing, Spell.hyphens, Spell.behind, Spell.job_word}
use Rattle.pigale_words.specs.Numbers.{number_in, within}
use Rattle.decimals.specs.Numbers.{canonical, decimal_from, is_digit}
use Rattle.pigale_words.specs.declared.job.Job.{Job}
use Rattle.pigale_words.specs.declared.job.Job.TheVariants.{Count, Gen}
use Rattle.pigale_words.specs.declared.output_form.Form.{Form}
use Rattle.pigale_words.specs.declared.output_form.Form.TheVariants as forms
use Rattle.pigale_words.proofs.WordRows.{Which, Which.the_job, Which.the_form, Which.the_size, Which.the_number, put, get, Held_text.no_text}
use Rattle.pigale_words.proofs.WordSteps.{is_job}
use Rattle.pigale_words.proofs.SpellLemmas.{Adds, Found, found_by, Plain, plain_first, AllPlain, ends_by, ends_of, given_of}

-- ---- what is given, and the options

abbrev pub no_words : Given
no_words = given_in []

job_stays : (options : List (Text × Text)) (g end : Given) → Adds options g end → end.job ≡ g.job
job_stays [] g end same = ap (λ (h : Given). h.job) (sym same)
job_stays (o ∷ os) g end (the_job, is, _, _, adds) = absurd (true≢false is)
job_stays (o ∷ os) g end (the_form, is, _, _, adds) = job_stays os (put the_form o.1 g) end adds
job_stays (o ∷ os) g end (the_size, is, _, _, adds) = job_stays os (put the_size o.1 g) end adds
job_stays (o ∷ os) g end (the_number, is, _, _, adds) = job_stays os (put the_number o.1 g) end adds

abbrev pub IsGiven : Which → Given → Type 0
IsGiven k g = is_some (get k g) ≡ true

put_gives : (k : Which) (v : Text) (g : Given) → IsGiven k (put k v g)
put_gives the_job v g = refl
put_gives the_form v g = refl
put_gives the_size v g = refl
put_gives the_number v g = refl

put_keeps : (k j : Which) (v : Text) (g : Given) → IsGiven k g → IsGiven k (put j v g)
put_keeps the_job the_job v g e = refl
put_keeps the_job the_form v g e = e
put_keeps the_job the_size v g e = e
put_keeps the_job the_number v g e = e
put_keeps the_form the_job v g e = e
put_keeps the_form the_form v g e = refl
put_keeps the_form the_size v g e = e
put_keeps the_form the_number v g e = e
put_keeps the_size the_job v g e = e
put_keeps the_size the_form v g e = e
put_keeps the_size the_size v g e = refl
put_keeps the_size the_number v g e = e
put_keeps the_number the_job v g e = e
put_keeps the_number the_form v g e = e
put_keeps the_number the_size v g e = e
put_keeps the_number the_number v g e = refl

stays : (k : Which) (options : List (Text × Text)) (g end : Given) → Adds options g end → IsGiven k g → IsGiven k end
stays k [] g end same e = subst (IsGiven k) same e
stays k (o ∷ os) g end (j, is, _, _, adds) e = stays k os (put j o.1 g) end adds (put_keeps k j o.1 g e)

not_given : (k : Which) (g : Given) → IsGiven k g → is_some (get k g) ≡ false → ⊥
not_given k g e f = true≢false (sym e ∙ f)

-- no option is given
no_options : (options : List (Text × Text)) (g end : Given) → Adds options g end → has_option end ≡ false → options ≡ []
no_options [] g end adds none = refl
no_options (o ∷ os) g end (k, is, _, _, adds) none =
    let one = or_parts _ _ none in
    let two = or_parts _ _ one.1 in
    absurd (go k is (stays k os (put k o.1 g) end adds (put_gives k o.1 g)) one.0 two.0 two.1)
  where
    go : (j : Which) → is_job j ≡ false → IsGiven j end → is_some end.form ≡ false → is_some end.size ≡ false → is_some end.number ≡ false → ⊥
    go the_job e gives f s n = true≢false e
    go the_form e gives f s n = not_given the_form end gives f
    go the_size e gives f s n = not_given the_size end gives s
    go the_number e gives f s n = not_given the_number end gives n

-- the form is given at most
form_named : (v : Text) (form : Form) (name_is : Text) → name_is ≡ codes "form" → form_of (Some v) ≡ Some form → NamesForm form ((name_is, v) ∷ [])
form_named v form n e is = go (bytes_eq v (codes "text")) (bytes_eq v (codes "svg")) refl refl is
  where
    go : (t s : Bool) → bytes_eq v (codes "text") ≡ t → bytes_eq v (codes "svg") ≡ s → (if t then Some forms.Text else if s then Some forms.Svg else None) ≡ Some form → NamesForm form ((n, v) ∷ [])
    go true s e1 e2 same =
        subst (λ f. NamesForm f ((n, v) ∷ [])) (ap (λ o. unwrap_or o form) same) (inr (λ i. (e i, (bytes_eq-Decides v (codes "text")).0 e1 i) ∷ []))
    go false true e1 e2 same =
        subst (λ f. NamesForm f ((n, v) ∷ [])) (ap (λ o. unwrap_or o form) same) (λ i. (e i, (bytes_eq-Decides v (codes "svg")).0 e2 i) ∷ [])
    go false false e1 e2 same = absurd (none-some _ same)

one_form : (options : List (Text × Text)) (word : Text) (end : Given) (form : Form) → Adds options (put the_job word no_words) end → has_number end ≡ false → form_of end.form ≡ Some form → NamesForm form options
one_form [] word end form adds none is = subst (λ f. NamesForm f []) (ap (λ o. unwrap_or o form) (ap (λ (h : Given). form_of h.form) adds ∙ is)) (inl refl)
one_form (o ∷ os) word end form (the_job, is_option, _, _, adds) none is = absurd (true≢false is_option)
one_form (o ∷ os) word end form (the_size, _, _, _, adds) none is =
    absurd (not_given the_size end (stays the_size os _ end adds refl) (or_parts _ _ none).0)
one_form (o ∷ os) word end form (the_number, _, _, _, adds) none is =
    absurd (not_given the_number end (stays the_number os _ end adds refl) (or_parts _ _ none).1)
one_form (o ∷ []) word end form (the_form, _, named, _, adds) none is = form_named o.1 form o.0 named (ap (λ (h : Given). form_of h.form) adds ∙ is)
one_form (o ∷ u ∷ os) word end form (the_form, _, named, _, (the_job, is_option, _, _, adds)) none is = absurd (true≢false is_option)
one_form (o ∷ u ∷ os) word end form (the_form, _, named, _, (the_form, _, _, again, adds)) none is = absurd (none-some _ (sym again))
one_form (o ∷ u ∷ os) word end form (the_form, _, named, _, (the_size, _, _, _, adds)) none is =
    absurd (not_given the_size end (stays the_size os _ end adds refl) (or_parts _ _ none).0)
one_form (o ∷ u ∷ os) word end form (the_form, _, named, _, (the_number, _, _, _, adds)) none is =
    absurd (not_given the_number end (stays the_number os _ end adds refl) (or_parts _ _ none).1)

-- a third option beside a size and a number is a form
never_third : (k : Which) (v : Text) (os : List (Text × Text)) (g end : Given) → is_job k ≡ false → get k g ≡ None → IsGiven the_size g → IsGiven the_number g → Adds os (put k v g) end
    → is_some end.form ≡ false → ⊥
never_third the_job v os g end is none s n adds f = true≢false is
never_third the_form v os g end is none s n adds f = not_given the_form end (stays the_form os (put the_form v g) end adds refl) f
never_third the_size v os g end is none s n adds f = not_given the_size g s (ap is_some none)
never_third the_number v os g end is none s n adds f = not_given the_number g n (ap is_some none)

both_numbers : (options : List (Text × Text)) (word : Text) (end : Given) (size number : ℕ) → Adds options (put the_job word no_words) end → is_some end.form ≡ false
    → number_given 3 4095 end.size ≡ Some size → number_given 0 4294967295 end.number ≡ Some number → NamesNumbers size number options
both_numbers [] word end size number adds f s n = absurd (none-some _ (ap (λ (h : Given). number_given 3 4095 h.size) adds ∙ s))
both_numbers (o ∷ os) word end size number (the_job, is, _, _, adds) f s n = absurd (true≢false is)
both_numbers (o ∷ os) word end size number (the_form, _, _, _, adds) f s n = absurd (not_given the_form end (stays the_form os _ end adds refl) f)
both_numbers (o ∷ []) word end size number (the_size, _, _, _, adds) f s n = absurd (none-some _ (ap (λ (h : Given). number_given 0 4294967295 h.number) adds ∙ n))
both_numbers (o ∷ []) word end size number (the_number, _, _, _, adds) f s n = absurd (none-some _ (ap (λ (h : Given). number_given 3 4095 h.size) adds ∙ s))
both_numbers (o ∷ u ∷ os) word end size number (the_size, _, _, _, (the_job, is, _, _, adds)) f s n = absurd (true≢false is)
both_numbers (o ∷ u ∷ os) word end size number (the_size, _, _, _, (the_form, _, _, _, adds)) f s n = absurd (not_given the_form end (stays the_form os _ end adds refl) f)
both_numbers (o ∷ u ∷ os) word end size number (the_size, _, _, _, (the_size, _, _, again, adds)) f s n = absurd (none-some _ (sym again))
both_numbers (o ∷ u ∷ []) word end size number (the_size, _, first, _, (the_number, _, second, _, adds)) f s n =
    (o.1, u.1, ap (λ (h : Given). number_given 3 4095 h.size) adds ∙ s, ap (λ (h : Given). number_given 0 4294967295 h.number) adds ∙ n, inl (λ i. (first i, o.1) ∷ (second i, u.1) ∷ []))
both_numbers (o ∷ u ∷ w ∷ os) word end size number (the_size, _, _, _, (the_number, _, _, _, (k, is, _, again, adds))) f s n =
    absurd (never_third k w.1 os _ end is again refl refl adds f)
both_numbers (o ∷ u ∷ os) word end size number (the_number, _, _, _, (the_job, is, _, _, adds)) f s n = absurd (true≢false is)
both_numbers (o ∷ u ∷ os) word end size number (the_number, _, _, _, (the_form, _, _, _, adds)) f s n = absurd (not_given the_form end (stays the_form os _ end adds refl) f)
both_numbers (o ∷ u ∷ os) word end size number (the_number, _, _, _, (the_number, _, _, again, adds)) f s n = absurd (none-some _ (sym again))
both_numbers (o ∷ u ∷ []) word end size number (the_number, _, first, _, (the_size, _, second, _, adds)) f s n =
    (u.1, o.1, ap (λ (h : Given). number_given 3 4095 h.size) adds ∙ s, ap (λ (h : Given). number_given 0 4294967295 h.number) adds ∙ n, inr (λ i. (first i, o.1) ∷ (second i, u.1) ∷ []))
both_numbers (o ∷ u ∷ w ∷ os) word end size number (the_number, _, _, _, (the_size, _, _, _, (k, is, _, again, adds))) f s n =
    absurd (never_third k w.1 os _ end is again refl refl adds f)

-- ---- the job of what is given

-- the options of a job that takes such
with_fits : (takes : Takes) (word : Text) (options : List (Text × Text)) (j : Job) (end : Given) → Adds options (put the_job word no_words) end → job_with end takes ≡ Some j → Fits takes j options
with_fits (no_option job) word options j end adds e = go (has_option end) refl e
  where
    go : (b : Bool) → has_option end ≡ b → (if b then None else Some job) ≡ Some j → Fits (no_option job) j options
    go true has same = absurd (none-some _ same)
    go false none same = (sym (ap (λ o. unwrap_or o job) same), no_options options (put the_job word no_words) end adds none)
with_fits (a_form job) word options j end adds e = go (has_number end) (form_of end.form) refl refl e
  where
    go : (b : Bool) (o : Option Form) → has_number end ≡ b → form_of end.form ≡ o → option_map job (if b then None else o) ≡ Some j → Fits (a_form job) j options
    go true o none is same = absurd (none-some _ same)
    go false None none is same = absurd (none-some _ same)
    go false (Some form) none is same = (form, sym (ap (λ o. unwrap_or o (job form)) same), one_form options word end form adds none is)
with_fits two_numbers word options j end adds e = go (is_some end.form) (number_given 3 4095 end.size) (number_given 0 4294967295 end.number) refl refl refl e
  where
    go : (b : Bool) (s n : Option ℕ) → is_some end.form ≡ b → number_given 3 4095 end.size ≡ s → number_given 0 4294967295 end.number ≡ n → (if b then None else gen_of s n) ≡ Some j → Fits two_numbers j options
    go true s n f es en same = absurd (none-some _ same)
    go false None n f es en same = absurd (none-some _ same)
    go false (Some s) None f es en same = absurd (none-some _ same)
    go false (Some s) (Some n) f es en same = (s, n, sym (ap (λ o. unwrap_or o (Gen s n)) same), both_numbers options word end s n adds f es en)

named_given : (word : Text) (options : List (Text × Text)) (j : Job) (end : Given) → Adds options (put the_job word no_words) end → job_named end word ≡ Some j → IsNamed j word options
named_given word options j end adds e = go (taken_by word) refl e
  where
    go : (found : Option Takes) → taken_by word ≡ found → option_and_then (job_with end) found ≡ Some j → IsNamed j word options
    go None is same = absurd (none-some _ same)
    go (Some takes) is same = (takes, is, with_fits takes word options j end adds same)

-- ---- the words of the table

-- what all rows have has the one that a look-up finds
pub found_is : (test : Text × Takes → Bool) (word : Text) (takes : Takes) (rows : List (Text × Takes)) → list_all test rows ≡ true → lookup (bytes_eq word) rows ≡ Some takes → test (word, takes) ≡ true
found_is test word takes [] all e = absurd (none-some _ e)
found_is test word takes (row ∷ rows) all e = go (bytes_eq word row.0) (test row) refl refl all e (λ more same. found_is test word takes rows more same)
  where
    go : (b t : Bool) → bytes_eq word row.0 ≡ b → test row ≡ t → (t && list_all test rows) ≡ true → cond b (Some row.1) (lookup (bytes_eq word) rows) ≡ Some takes
        → (list_all test rows ≡ true → lookup (bytes_eq word) rows ≡ Some takes → test (word, takes) ≡ true) → test (word, takes) ≡ true
    go b false is passes all same later = absurd (true≢false (sym all))
    go true true is passes all same later = ap₂ (λ w t. test (w, t)) ((bytes_eq-Decides word row.0).0 is) (sym (ap (λ o. unwrap_or o takes) same)) ∙ passes
    go false true is passes all same later = later all same

-- The words of the jobs differ.
words_differ : list_all (λ (row : Text × Takes). count_by (λ (other : Text × Takes). bytes_eq row.0 other.0) jobs == 1) jobs ≡ true
words_differ = refl

-- no word of the table begins as an option does
abbrev begins_plain : Text → Bool
begins_plain [] = false
begins_plain (b ∷ rest) = not (b == 45)

plain_by : (word : Text) → begins_plain word ≡ true → Plain word
plain_by [] e = absurd (true≢false (sym e))
plain_by (b ∷ rest) e = plain_first b rest (not-true (b == 45) e)

word_plain : (word : Text) (takes : Takes) → taken_by word ≡ Some takes → Plain word
word_plain word takes is = plain_by word (found_is (λ row. begins_plain row.0) word takes jobs refl is)

-- such a job is in the table only without options, behind such a word
abbrev pub only : (Job → Bool) → (Text → Bool) → Text × Takes → Bool
only test named (word, no_option job) = not (test job) || named word
only test named (word, a_form job) = not (test (job forms.Text)) && not (test (job forms.Svg))
only test named (word, two_numbers) = true

-- ---- what the options of a job give

number_plain : (least most : ℕ) (text : Text) (n : ℕ) → number_in least most text ≡ Some n → Plain text
number_plain least most [] n e = absurd (none-some _ e)
number_plain least most (b ∷ rest) n e = go (canonical (b ∷ rest)) (is_digit b) refl e
  where
    first : (c : Bool) → is_digit b ≡ true → (b == 45) ≡ c → c ≡ false
    first false digit is = refl
    first true digit is = absurd (true≢false (sym digit ∙ ap is_digit (eqb-true b 45 is)))

    go : (c d : Bool) → is_digit b ≡ d → (if c then option_and_then (within least most) (if d then decimal_from (10 * 0 + (b - 48)) rest else None) else None) ≡ Some n → Plain (b ∷ rest)
    go false d digit same = absurd (none-some _ same)
    go true false digit same = absurd (none-some _ same)
    go true true digit same = plain_first b rest (first (b == 45) digit refl)

abbrev pub Gives : Text → List (Text × Text) → Job → Type 0
Gives word options j = (end : Given) × Adds options (put the_job word no_words) end × (job_given end ≡ Some j) × Plain word × AllPlain options

-- what is given makes the job of a word, where it is what that takes
gives_by : (word : Text) (takes : Takes) (options : List (Text × Text)) (j : Job) (end : Given) → taken_by word ≡ Some takes → Adds options (put the_job word no_words) end → job_with end takes ≡ Some j → AllPlain options → Gives word options j
gives_by word takes options j end is adds makes plains = (
  end,
  adds,
  ap (option_and_then (job_named end)) (job_stays options (put the_job word no_words) end adds) ∙ (ap (option_and_then (job_with end)) is ∙ makes),
  word_plain word takes is,
  plains,
)

options_give : (takes : Takes) (word : Text) (options : List (Text × Text)) (j : Job) → taken_by word ≡ Some takes → Fits takes j options → Gives word options j
options_give (no_option job) word options j is (same, none) =
    rw same (rw none (gives_by word (no_option job) [] job (put the_job word no_words) is refl refl tt))
options_give (a_form job) word options j is (forms.Text, same, inl none) =
    rw same (rw none (gives_by word (a_form job) [] (job forms.Text) (put the_job word no_words) is refl refl tt))
options_give (a_form job) word options j is (forms.Text, same, inr one) =
    rw same (rw one (gives_by word (a_form job) ((codes "form", codes "text") ∷ []) (job forms.Text) (put the_form (codes "text") (put the_job word no_words)) is (the_form, refl, refl, refl, refl) refl ((refl, refl, refl), tt)))
options_give (a_form job) word options j is (forms.Svg, same, one) =
    rw same (rw one (gives_by word (a_form job) ((codes "form", codes "svg") ∷ []) (job forms.Svg) (put the_form (codes "svg") (put the_job word no_words)) is (the_form, refl, refl, refl, refl) refl ((refl, refl, refl), tt)))
options_give two_numbers word options j is (size, number, same, (s, n, size_is, number_is, inl order)) =
    rw same (rw order (gives_by word two_numbers ((codes "size", s) ∷ (codes "number", n) ∷ []) (Gen size number) (put the_number n (put the_size s (put the_job word no_words))) is (the_size, refl, refl, refl, (the_number, refl, refl, refl, refl))
    (λ i. gen_of (size_is i) (number_is i)) (number_plain 3 4095 s size size_is, (number_plain 0 4294967295 n number number_is, tt))))
options_give two_numbers word options j is (size, number, same, (s, n, size_is, number_is, inr order)) =
    rw same (rw order (gives_by word two_numbers ((codes "number", n) ∷ (codes "size", s) ∷ []) (Gen size number) (put the_size s (put the_number n (put the_job word no_words))) is (the_number, refl, refl, refl, (the_size, refl, refl, refl, refl))
    (λ i. gen_of (size_is i) (number_is i)) (number_plain 0 4294967295 n number number_is, (number_plain 3 4095 s size size_is, tt))))

-- ---- the law

abbrev pub Spelled : List Text → Job → Type 0
Spelled words j = (word : Text) × (options : List (Text × Text)) × Spell words (Some word) options × IsNamed j word options

spelled_by : (words : List Text) (j : Job) → job_of words ≡ Some j → Spelled words j
spelled_by words j e =
    let (end, ends, is) = ends_of words j e in
    go end is ((found_by words).0 [] no_text false end tt ends).1
  where
    go : (end : Given) → job_given end ≡ Some j → Found false words no_words end → Spelled words j
    go end is (None, options, due, spell, adds) = absurd (none-some _ (sym (ap (option_and_then (job_named end)) (job_stays options no_words end adds)) ∙ is))
    go end is (Some word, options, due, spell, adds) =
        (word, options, spell, named_given word options j end adds (sym (ap (option_and_then (job_named end)) (job_stays options (put the_job word no_words) end adds)) ∙ is))

job_by : (words : List Text) (j : Job) → Spelled words j → job_of words ≡ Some j
job_by words j (word, options, spell, named) =
    let (end, adds, is, plain_word, plains) = options_give named.0 word options j named.1 named.2 in
    ap (option_and_then job_given) (given_of words end (ends_by spell [] no_text false end tt tt tt (refl, plain_word) plains adds)) ∙ is

pub job_words-law : JobWords
job_words-law words j = (spelled_by words j, job_by words j)

-- the words of `count`, written out
