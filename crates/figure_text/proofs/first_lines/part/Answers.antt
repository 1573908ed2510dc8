-- The part is the one that the iterator comes to.
use Rattle.std.proofs.Common.{◌≡◌, List, [], ℕ, rules, tests, sym, ap, ◌∙◌}
use Rattle.std.specs.Prelude.{◌==◌, Some, None, Option, unwrap_or, slice_get}
use Rattle.std.specs.List.{slice_split}
use Rattle.std.proofs.lemmas.Iterator.Consumers.{nth_from_yields_List}
use Rattle.std.proofs.lemmas.Iterator.Splits.{YieldsList-from_slice_split}
use Rattle.std.proofs.lemmas.Option.{get_or_from_slice_get, unwrap_or-slice_get}
use Rattle.figure_text.proofs.first_lines.part.Goals as goal

pub returns-in-Some : goal.returns-in-Some
returns-in-Some c =
    let found = nth_from_yields_List _ _ c.args.i c.nth.ensures.ran
    (YieldsList-from_slice_split _ (λ b. b == 32) c.args.line.now (cc) (cc) (cc) (λ x r q k. search (rules, tests))) in
    let here : Some c.in-Some.found.now ≡ slice_get (slice_split (λ b. b == 32) c.args.line.now) c.args.i = rw c.in-Some.is at found in
    sym (get_or_from_slice_get (slice_split (λ b. b == 32) c.args.line.now) c.args.i c.in-Some.found.now [] (sym here))

pub returns-in-None : goal.returns-in-None
returns-in-None c =
    let found = nth_from_yields_List _ _ c.args.i c.nth.ensures.ran
    (YieldsList-from_slice_split _ (λ b. b == 32) c.args.line.now (cc) (cc) (cc) (λ x r q k. search (rules, tests))) in
    let here : None ≡ slice_get (slice_split (λ b. b == 32) c.args.line.now) c.args.i = rw c.in-None.is at found in
    ap (λ (o : Option (List ℕ)). unwrap_or o []) here ∙ unwrap_or-slice_get (slice_split (λ b. b == 32) c.args.line.now) c.args.i []
