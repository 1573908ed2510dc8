use Rattle.std.proofs.Common.{◌≡◌, ◌/◌, ◌<◌, ◌==◌, ◌||◌, false, length, sym, subst, ap, ◌∙◌, arith, length-set}
use Rattle.graphs.specs.Bits.{is_set}
use Rattle.embed_graph.proofs.MarkLemmas.{place_within, bytes-put, bits-put, Adds-one, Adds-none}
use Rattle.embed_graph.proofs.edge_test.set_pair.Goals as goal

pub bounds-body-place : goal.bounds-body-place
bounds-body-place c =
    subst (λ p. p / 6 < length c.args.body.now) (sym c.pair_place-place.ensures)
    (place_within c.args.n c.args.u c.args.v c.args.body.now c.requires.bytes (omega (arith, c.if-u-v.true)) c.requires.vertex)

pub bounds-body-place-then-u-v : goal.bounds-body-place-then-u-v
bounds-body-place-then-u-v c =
    subst (λ p. p / 6 < length c.args.body.now) (sym c.pair_place-place.ensures)
    (place_within c.args.n c.args.u c.args.v c.args.body.now c.requires.bytes (omega (arith, c.if-u-v.true)) c.requires.vertex)

pub returns-then-u-v-clause-bytes : goal.returns-then-u-v-clause-bytes
returns-then-u-v-clause-bytes c =
    let body = c.args.body.now in
    let place = c.pair_place-place.result in
    let less : c.args.u < c.args.v = omega (arith, c.if-u-v.true) in
    let within : place / 6 < length body = subst (λ p. p / 6 < length body) (sym c.pair_place-place.ensures) (place_within c.args.n c.args.u c.args.v body c.requires.bytes less c.requires.vertex) in
    let unset : is_set body place ≡ false = subst (λ p. is_set body p ≡ false) (sym c.pair_place-place.ensures) (c.requires.unset less) in
    record { long = length-set body (place / 6) _ ∙ c.requires.bytes.long; bytes = bytes-put body place within c.requires.bytes.bytes unset }

pub returns-then-u-v-clause-adds : goal.returns-then-u-v-clause-adds
returns-then-u-v-clause-adds c =
    let body = c.args.body.now in
    let place = c.pair_place-place.result in
    let less : c.args.u < c.args.v = omega (arith, c.if-u-v.true) in
    let within : place / 6 < length body = subst (λ p. p / 6 < length body) (sym c.pair_place-place.ensures) (place_within c.args.n c.args.u c.args.v body c.requires.bytes less c.requires.vertex) in
    let unset : is_set body place ≡ false = subst (λ p. is_set body p ≡ false) (sym c.pair_place-place.ensures) (c.requires.unset less) in
    Adds-one c.args.u c.args.v body _ less (λ p. bits-put body place within c.requires.bytes.bytes unset p ∙ ap (λ q. is_set body p || (p == q)) c.pair_place-place.ensures)

pub returns-else-u-v-clause-adds : goal.returns-else-u-v-clause-adds
returns-else-u-v-clause-adds c = Adds-none c.args.u c.args.v c.args.body.now (omega (arith, c.if-u-v.false))
