-- One digit more.
use Rattle.std.proofs.Common.{nat_lt, ◌≡◌, ℕ, ◌+◌, ◌-◌, ◌<◌, ◌≤◌, true, length, take, drop, get_or, refl, sym, ◌∙◌, subst, arith, below_more}
use Rattle.std.proofs.lemmas.Bool.Decides.{nat_tests}
use Rattle.std.specs.Prelude.{Some}
use Rattle.figure_text.specs.Words.{far}
use Rattle.decimals.specs.Numbers.{is_digit, decimal_from}
use Rattle.figure_text.proofs.DecimalLemmas.{digits-more, digit-near, digit-no_space, few-digits, below-pow}
use Rattle.decimals.proofs.DigitLemmas.{cut-same}
use Rattle.figure_text.proofs.line_words.first_digits.Goals as goal

pub returns-then-digit-gt9-clause-value : goal.returns-then-digit-gt9-clause-value
returns-then-digit-gt9-clause-value c =
    let few = below-pow c.loop-i.i c.loop-i.value (omega (arith, c.loop-i.auto.i-end, c.requires.few)) c.loop-i.invariant.near in
    cut-same far c.loop-i.value (take (c.args.at + c.loop-i.i - c.args.at) (drop c.args.at c.args.line.now)) (omega arith) c.loop-i.invariant.value

pub overflow_mul-value : goal.overflow_mul-value
overflow_mul-value c = let few = few-digits c.loop-i.i c.loop-i.value (omega (arith, c.loop-i-test.true, c.requires.few)) c.loop-i.invariant.near in omega arith

pub overflow_add-value : goal.overflow_add-value
overflow_add-value c = let few = few-digits c.loop-i.i c.loop-i.value (omega (arith, c.loop-i-test.true, c.requires.few)) c.loop-i.invariant.near in omega arith

pub loop-i-preserved : goal.loop-i-preserved
loop-i-preserved c =
    let line = c.args.line.now in
    let at = c.args.at in
    let i = c.loop-i.i in
    let k = at + i in
    let byte = get_or line k 0 in
    let digit = c.digit_of-digit.result in
    let low : nat_lt digit 10 ≡ true = grind (arith, nat_tests) in
    let good : is_digit byte ≡ true = sym c.digit_of-digit.ensures.is ∙ low in
    let is : digit ≡ byte - 48 = c.digit_of-digit.ensures.value good in
    let next : at + (i + 1) ≡ k + 1 = omega arith in
    let inside : k < length line = omega (arith, c.loop-i-test.true, c.requires.within) in
    record {
      near = rw is (digit-near i c.loop-i.value byte good c.loop-i.invariant.near);
      before = rw next (λ j order below is. below_more (λ (m : ℕ). at ≤ m → get_or line m 0 ≡ 32 → ⊥) k (λ m h o e. c.loop-i.invariant.before m o h e) (λ o e. digit-no_space byte good e) j (omega arith) order is);
      value = rw (next, is) (digits-more line at k c.loop-i.value byte (omega arith) inside refl c.loop-i.invariant.value good);
    }

pub returns-clause-value : goal.returns-clause-value
returns-clause-value c =
    let at = c.args.at in
    let all : c.loop-i.i ≡ c.args.count = omega (arith, c.loop-i.auto.i-end, c.loop-i-test.false) in
    let few = below-pow c.loop-i.i c.loop-i.value (omega (arith, all, c.requires.few)) c.loop-i.invariant.near in
    cut-same far c.loop-i.value (take (at + c.args.count - at) (drop at c.args.line.now)) (omega arith) (subst (λ (n : ℕ). decimal_from 0 (take (at + n - at) (drop at c.args.line.now)) ≡ Some c.loop-i.value) all c.loop-i.invariant.value)
