-- The source has the input, and the sink has nothing written.
use Rattle.std.proofs.Common.{refl, [], Some, map, inl}
use Rattle.std.specs.Prelude.{string_bytes}
use Rattle.pigale_shell.specs.JobInput.{reads_of}
use Rattle.pigale_shell.specs.Kinds.{kind_named}
use Rattle.pigale_shell.specs.Outcome.{Writes}
use Rattle.pigale_c.proofs.RunLemmas.{without_left, not_risen}
use Rattle.pigale_c.proofs.run.run_of_text.Goals as goal

pub returns-in-Ok : goal.returns-in-Ok
returns-in-Ok c =
    let words = map string_bytes c.in-Ok.words.items in
    let named = kind_named words in
    let input = c.args.input.now in
    let left = Some c.pigale-status.new.src.left.now in
    let text = c.pigale-status.new.out.text.items in
    let empty = c.new-sink.ensures.empty in
    let said = rw c.deref.ensures.value at c.pigale-status.ensures in
    inl (
      words,
      c.in-Ok.ensures,
      record {
        done = λ is. without_left named input left (λ job given. Writes job given (reads_of job).well 0 (Some []) (Some text)) ((rw empty at said.done) is);
        some_refused = λ is. let run = (rw empty at said.some_refused) is in (run.0, run.1, λ given told. let wrote = run.2 given told in (wrote.1, wrote.2, wrote.3));
        bad_words = λ is. let line = (rw empty at said.bad_words) is in (line.0, line.2);
        words_refused = λ none. (said.words_refused none).1;
        bad_input = rw empty at said.bad_input;
        no_read_fault = λ is. not_risen 0 0 refl refl (said.read_fault is).0;
        write_fault = λ is. ((rw empty at said.write_fault) is).1;
        no_memory = rw empty at said.no_memory;
        complete = λ job given records ending is told reading no_write.
            said.complete job given records ending is told reading (not_risen 0 0 refl refl) (not_risen c.new-sink.result.faults c.pigale-status.new.out.faults c.new-sink.ensures.count (said.writes_kept no_write));
      },
    )
