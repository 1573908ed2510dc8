-- The label of a dart more.
use Rattle.std.proofs.Common.{ℕ, ◌+◌, ◌<◌, ◌≡◌, List, [], ◌∷◌, ◌++◌, length, get_or, Option, Some, refl, sym, ap, ◌∙◌, subst, arith}
use Rattle.std.specs.Prelude.{option_map, IsSome}
use Rattle.map_theory.specs.Maps.{Dart, darts_before, list_of}
use Rattle.map_theory.proofs.DartLemmas.{darts_before_more}
use Rattle.half_edges.specs.Map.{dart_at, next_dart}
use Rattle.pigale_c.specs.Labelled.{AreLabelsTo, label_number}
use Rattle.pigale_c.proofs.LabelLemmas.{is_dart_label, more_labels}
use Rattle.pigale_c.proofs.edge_labellings.push_numbers.Goals as goal

pub returns-in_default : goal.returns-in_default
returns-in_default c =
    let map = c.args.map.now in
    let none = ap (λ (us : List ℕ). length us) c.in_default.ensures.dart in
    subst (λ (k : ℕ). AreLabelsTo map c.args.labels.now k c.args.made.now.items) (let e = darts_before_more map.lists c.args.v in omega (arith, e, none)) c.requires.so_far

pub loop-u-preserved : goal.loop-u-preserved
loop-u-preserved c =
    let map = c.args.map.now in
    let labels = c.args.labels.now in
    let v = c.args.v in
    let k = c.loop-u.u-index in
    let d = c.dart_between-d.result in
    let inside : k < length (list_of map.lists v) = omega (arith, c.loop-u-test.true, ap (λ (us : List ℕ). length us) c.requires.heads) in
    let here = subst (λ (us : List ℕ). dart_at map d.0 ≡ Some (v, get_or us k 0)) c.requires.heads c.dart_between-d.ensures in
    let number = c.number_of.ensures ∙ ap label_number c.of.ensures in
    let label = is_dart_label map labels v k d.0 c.number_of.result c.requires.vertex inside here number in
    let row = more_labels map labels (darts_before map.lists v + k) c.loop-u.made.items c.number_of.result c.loop-u.invariant.0 label in
    let next : darts_before map.lists v + k + 1 ≡ darts_before map.lists v + (k + 1) = omega arith in (
      subst (λ (us : List ℕ). AreLabelsTo map labels (darts_before map.lists v + (k + 1)) us) (sym c.in_ok-push.ensures.items) (subst (λ (n : ℕ). AreLabelsTo map labels n (c.loop-u.made.items ++ c.number_of.result ∷ [])) next row),
      subst (λ (o : Option Dart). IsSome o) (sym (c.next-hint.ensures ∙ ap (λ (o : Option Dart). option_map (next_dart map.lists) o) here)) refl,
    )

pub returns : goal.returns
returns c =
    let map = c.args.map.now in
    subst (λ (k : ℕ). AreLabelsTo map c.args.labels.now k c.loop-u.made.items) (let e = darts_before_more map.lists c.args.v in omega (arith, e, ap (λ (us : List ℕ). length us) c.requires.heads)) c.loop-u.invariant.0
