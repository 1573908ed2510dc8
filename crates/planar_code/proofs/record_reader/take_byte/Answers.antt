-- A byte that joins the bytes pending and ends no header.
use Rattle.planar_code.proofs.PlaceLemmas.{byte-counted, byte-takes}
use Rattle.planar_code.proofs.record_reader.take_byte.Goals as goal

pub returns-else-ends_header-clause-takes : goal.returns-else-ends_header-clause-takes
returns-else-ends_header-clause-takes c =
    byte-takes c.args.scanner.now c.take.new.self c.args.place.now c.args.byte c.in-More.field-0 c.goes_on-on.result c.requires.counted c.in-More.ensures.scans c.in-More.ensures.whole c.goes_on-on.ensures c.ends_header.result c.ends_header.ensures c.if-ends_header.false

pub returns-else-ends_header-clause-counted : goal.returns-else-ends_header-clause-counted
returns-else-ends_header-clause-counted c =
    byte-counted c.args.scanner.now c.take.new.self c.args.place.now c.args.byte c.in-More.field-0 c.goes_on-on.result c.requires.counted c.in-More.ensures.scans c.in-More.ensures.whole c.goes_on-on.ensures
