-- A map that words ask for has a size within its range.
use Rattle.std.proofs.Common.{◌≡◌, refl, ℕ, ◌≤◌, Bool, Option, Some, None, true, false, true≢false, not, ◌||◌, sym, subst, arith}
use Rattle.std.proofs.lemmas.Bool.Decides.{nat_tests}
use Rattle.std.proofs.lemmas.Option.{none-some}
use Rattle.std.specs.Prelude.{List, option_and_then}
use Rattle.std.specs.Cmp.{first_so, second_so}
use Rattle.std.proofs.lemmas.Bool.{not-true}
use Rattle.clap.specs.Walk.{Text}
use Rattle.decimals.specs.Numbers.{canonical, decimal_from}
use Rattle.pigale_words.specs.Numbers.{within, number_in}
use Rattle.pigale_words.specs.Words.{Takes, Takes.no_option, Takes.a_form, Takes.two_numbers, jobs, job_of}
use Rattle.pigale_words.specs.Spelling.{Fits, IsNamed}
use Rattle.pigale_words.specs.Jobs.{HasSize}
use Rattle.pigale_words.specs.declared.job.Job.{Job}
use Rattle.pigale_words.specs.declared.job.Job.TheVariants.{Gen}
use Rattle.pigale_words.specs.declared.output_form.Form.TheVariants as forms
use Rattle.pigale_words.proofs.JobWords.{job_words-law, found_is, only}

within-range : (least most n m : ℕ) → within least most n ≡ Some m → (least ≤ m) × (m ≤ most)
within-range least most n m is = (grind (arith, nat_tests), grind (arith, nat_tests))

number_in-range : (least most : ℕ) (text : List ℕ) (n : ℕ) → number_in least most text ≡ Some n → (least ≤ n) × (n ≤ most)
number_in-range least most text n is = grind (arith, canonical, decimal_from, Option, option_and_then, within, None, Some, none-some, within-range)

abbrev is_made : Job → Bool
is_made (Gen size number) = true
is_made job = false

other-sized : (job : Job) → is_made job ≡ false → HasSize job
other-sized (Gen size number) e = absurd (true≢false e)
other-sized job e = tt

named-sized : (job : Job) (word : Text) (options : List (Text × Text)) → IsNamed job word options → HasSize job
named-sized job word options (takes, is, fits) = go takes fits (found_is (only is_made (λ w. false)) word takes jobs refl is)
  where
    go : (takes : Takes) → Fits takes job options → only is_made (λ w. false) (word, takes) ≡ true → HasSize job
    go (no_option other) (same, none) one = subst HasSize (sym same) (other-sized other (lacks (is_made other) one))
      where
        lacks : (b : Bool) → (not b || false) ≡ true → b ≡ false
        lacks false e = refl
        lacks true e = absurd (true≢false (sym e))
    go (a_form other) (forms.Text, same, names) one = subst HasSize (sym same) (other-sized (other forms.Text) (not-true _ (first_so _ _ one)))
    go (a_form other) (forms.Svg, same, names) one = subst HasSize (sym same) (other-sized (other forms.Svg) (not-true _ (second_so _ _ one)))
    go two_numbers (size, number, same, (s, n, size_is, _, _)) one =
        let range = number_in-range 3 4095 s size size_is in
        subst HasSize (sym same) (range.0, omega (arith, range.1))

pub job_of-sized : (words : List Text) (job : Job) → job_of words ≡ Some job → HasSize job
job_of-sized words job is =
    let (word, options, _, named) = (job_words-law words job).0 is in
    named-sized job word options named
