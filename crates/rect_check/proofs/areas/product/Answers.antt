use Rattle.std.proofs.Common.{to_z-of_z, ◌∙◌, rules, arith}
use Rattle.std.proofs.lemmas.Int.{ints}
use Rattle.pg_plane.proofs.Products.{IsWithin-product}
use Rattle.pg_plane.proofs.Ring.{product_not_negative}
use Rattle.rect_check.proofs.AreaLemmas.{product-fits}
use Rattle.rect_check.proofs.areas.product.Goals as goal

pub overflow_mul-result : goal.overflow_mul-result
overflow_mul-result c = (product-fits c.args.u c.args.v c.from.result c.from-2.result (search rules) (search rules) c.from.ensures c.from-2.ensures).0

pub returns-clause-value : goal.returns-clause-value
returns-clause-value c = to_z-of_z (overflow_mul-result c) ∙ (product-fits c.args.u c.args.v c.from.result c.from-2.result (search rules) (search rules) c.from.ensures c.from-2.ensures).1

pub returns-clause-low : goal.returns-clause-low
returns-clause-low c = rw (returns-clause-value c) (product_not_negative c.args.u c.args.v c.requires.u.low c.requires.v.low)

pub returns-clause-high : goal.returns-clause-high
returns-clause-high c =
    let u = c.requires.u.low in let v = c.requires.v.low in
    rw (returns-clause-value c) (IsWithin-product 65535 65535 c.args.u c.args.v (record { least = omega (arith, ints); most = c.requires.u.high }) (record { least = omega (arith, ints); most = c.requires.v.high })).most
