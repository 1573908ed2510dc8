-- The source has the part, and the sink has nothing written.
use Rattle.std.proofs.Common.{Some, map, inl}
use Rattle.std.specs.Prelude.{string_bytes}
use Rattle.pigale_c.proofs.run_part.run_part_of_text.Goals as goal

pub returns-in-Ok : goal.returns-in-Ok
returns-in-Ok c =
    let ran = c.pigale_part-end in
    let said = rw (c.deref.ensures.value, c.new-sink.ensures.empty, c.new-sink.ensures.count) at ran.ensures.run in
    inl (map string_bytes c.in-Ok.words.items, Some ran.new.src.left.now, ran.new.out.faults, c.in-Ok.ensures, said)
