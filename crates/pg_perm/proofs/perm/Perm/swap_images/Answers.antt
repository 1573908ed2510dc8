use Rattle.classes.proofs.Swap.{orbit_count-cut, orbit_count-joined}
use Rattle.pg_perm.specs.Perm.{IsPerm}
use Rattle.pg_perm.proofs.Perms.{IsPerm-swap}
use Rattle.pg_perm.proofs.perm.Perm.swap_images.Goals as goal

pub invariant_of-self : goal.invariant_of-self
invariant_of-self c =
    let p : IsPerm c.args.self.now = rw c.self.view_is at c.self.invariant in
    rw (c.swap.ensures.items, c.self.view_is) (IsPerm-swap c.args.self.now c.args.a c.args.b p c.requires.a_in c.requires.b_in)

pub returns-clause-known : goal.returns-clause-known
returns-clause-known c =
    let p : IsPerm c.args.self.now = rw c.self.view_is at c.self.invariant in
    rw (c.swap.ensures.items, c.self.view_is) (IsPerm-swap c.args.self.now c.args.a c.args.b p c.requires.a_in c.requires.b_in)

pub returns-clause-cut : goal.returns-clause-cut
returns-clause-cut c =
    let p : IsPerm c.args.self.now = rw c.self.view_is at c.self.invariant in
    rw (c.swap.ensures.items, c.self.view_is) (orbit_count-cut c.args.self.now c.args.a c.args.b p.bijection c.requires.a_in c.requires.b_in)

pub returns-clause-joined : goal.returns-clause-joined
returns-clause-joined c =
    let p : IsPerm c.args.self.now = rw c.self.view_is at c.self.invariant in
    rw (c.swap.ensures.items, c.self.view_is) (orbit_count-joined c.args.self.now c.args.a c.args.b p.bijection c.requires.a_in c.requires.b_in)
