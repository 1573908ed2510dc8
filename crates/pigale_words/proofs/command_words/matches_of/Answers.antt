use Rattle.pigale_words.proofs.WordLemmas.{RefusesWords-where_bad, given-taken, given-refused}
use Rattle.pigale_words.proofs.command_words.matches_of.Goals as goal

pub returns-in-Ok-try_get_matches_from : goal.returns-in-Ok-try_get_matches_from
returns-in-Ok-try_get_matches_from c = given-taken _ _ _ c.in-Ok.ensures c.in-Ok-try_get_matches_from.ensures.kinds c.in-Ok-try_get_matches_from.ensures.matches

pub returns-in-Err : goal.returns-in-Err
returns-in-Err c =
    RefusesWords-where_bad _ c.fault_of.result (λ bad. given-refused _ _ c.in-Err.error c.in-Ok.ensures c.in-Err.ensures.kinds (c.fault_of.ensures bad))
