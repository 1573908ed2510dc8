-- Bytes that join those passed, and a record or a bad count that ends with them.
use Rattle.std.proofs.Common.{◌≡◌, ◌+◌, ◌-◌, List, ℕ, ◌++◌, length, take, drop, subst, ◌∙◌, arith}
use Rattle.std.proofs.lemmas.List.{take_all, take_rest}
use Rattle.std.specs.Prelude.{IsFalse}
use Rattle.planar_code.specs.Reading.{NoRecord, has_bad_count}
use Rattle.planar_code.specs.Scan.{Passes}
use Rattle.planar_code.proofs.NextLemmas.{next-joined, next-within, next-passes, passed-all, record-at, bad-at}
use Rattle.planar_code.proofs.whole_input.record_reach.Goals as goal

pub loop-passed-preserved : goal.loop-passed-preserved
loop-passed-preserved c =
    let l = c.loop-passed in
    let rest : List ℕ = take (length c.args.bytes.now - c.args.at) (drop c.args.at c.args.bytes.now) in
    let end = l.passed + c.min-size.result in
    let piece : List ℕ = take (end - l.passed) (drop l.passed rest) in
    let k = c.in-More.k in
    let scans = c.in-More.ensures.scans in
    let same = c.reserve.ensures.bytes ∙ l.invariant.bytes in
    let joined = next-joined rest c.reserve.new.self.bytes l.passed end k l.invariant.within same scans.0 in
    let P : List ℕ → Type 0 = λ x. Passes x (take k piece) in
    let Q : List ℕ → Type 0 = λ x. x ++ take k piece ≡ take (l.passed + k) rest in
    record {
      within = next-within rest c.reserve.new.self.bytes l.passed end k l.invariant.within same scans.0;
      bytes = scans.2 ∙ joined;
      passes = next-passes rest piece l.passed k l.invariant.passes (subst P same scans.1) (subst Q same joined);
    }

pub returns-in-Ended : goal.returns-in-Ended
returns-in-Ended c =
    let l = c.loop-passed in
    let rest : List ℕ = take (length c.args.bytes.now - c.args.at) (drop c.args.at c.args.bytes.now) in
    let end = l.passed + c.min-size.result in
    let piece : List ℕ = take (end - l.passed) (drop l.passed rest) in
    let k = c.in-Ended.k in
    let scans = c.in-Ended.ensures.scans in
    let some = scans.0.0 in
    let same = c.reserve.ensures.bytes ∙ l.invariant.bytes in
    let joined = next-joined rest c.reserve.new.self.bytes l.passed end k l.invariant.within same scans.0.1 in
    let within = next-within rest c.reserve.new.self.bytes l.passed end k l.invariant.within same scans.0.1 in
    let r = record-at c.args.bytes.now c.args.at c.requires.within (l.passed + k) (c.args.at + l.passed + k) (c.reserve.new.self.bytes ++ take k piece) _ (omega arith) (omega arith) within joined scans.2 in
    (r.0, r.1, r.2, scans.3)

pub returns-in-Bad : goal.returns-in-Bad
returns-in-Bad c =
    let l = c.loop-passed in
    let rest : List ℕ = take (length c.args.bytes.now - c.args.at) (drop c.args.at c.args.bytes.now) in
    let end = l.passed + c.min-size.result in
    let piece : List ℕ = take (end - l.passed) (drop l.passed rest) in
    let k = c.in-Bad.field-0 in
    let scans = c.in-Bad.ensures.scans in
    let same = c.reserve.ensures.bytes ∙ l.invariant.bytes in
    let joined = next-joined rest c.reserve.new.self.bytes l.passed end k l.invariant.within same scans.0.1 in
    (bad-at c.args.bytes.now c.args.at c.requires.within (l.passed + k) (c.reserve.new.self.bytes ++ take k piece) joined scans.1)

pub returns : goal.returns
returns c =
    let l = c.loop-passed in
    let rest : List ℕ = take (length c.args.bytes.now - c.args.at) (drop c.args.at c.args.bytes.now) in
    let all : take l.passed rest ≡ drop c.args.at c.args.bytes.now = take_all l.passed rest (omega arith) ∙ take_rest c.args.bytes.now c.args.at in
    let P : List ℕ → Type 0 = λ x. IsFalse (has_bad_count x) in
    let Q : List ℕ → Type 0 = λ x. NoRecord x in
    let none = passed-all (take l.passed rest) l.invariant.passes in
    (subst P all none.1, subst Q all none.0)
