use Rattle.std.proofs.Common.{◌≡◌, ◌∙◌, true, rules, ap, ap₂, codes}
use Rattle.std.proofs.lemmas.Result.{IfOk-weaker}
use Rattle.clap.specs.Walk.{rule_of}
use Rattle.clap.specs.Simple.{app_of, app_of_fields, new_app, new_rule, on_top, with_rule}
use Rattle.pigale_words.specs.Words.{option, without_extras}
use Rattle.pigale_words.proofs.command_words.command.Goals as goal

pub returns : goal.returns
returns c =
    let job_is : rule_of c.new-job.result ≡ new_rule (codes "job") = search rules in
    let form_is : rule_of c.long-form.result ≡ option (codes "form") = search rules in
    let size_is : rule_of c.long-size.result ≡ option (codes "size") = search rules in
    let number_is : rule_of c.long-number.result ≡ option (codes "number") = search rules in
    let unnamed : app_of c.no_binary_name.result ≡ on_top (λ s. record s { no_binary_name = true }) (new_app (codes "pigale")) =
    ap app_of_fields c.no_binary_name.ensures ∙ ap (on_top (λ s. record s { no_binary_name = true })) c.new-4.ensures.app in
    let bare : app_of c.disable_help_flag.result ≡ on_top without_extras (new_app (codes "pigale")) =
    ap app_of_fields c.disable_help_flag.ensures ∙ ap (on_top (λ s. record s { disable_help_flag = true })) unnamed in
    let with_job = c.in_ok-arg.ensures.shape (search rules) ∙ ap₂ with_rule bare job_is in
    let with_form = c.in_ok-arg-2.ensures.shape (search rules) ∙ ap₂ with_rule with_job form_is in
    let with_size = c.in_ok-arg-3.ensures.shape (search rules) ∙ ap₂ with_rule with_form size_is in
    IfOk-weaker c.arg-4.result _ _ (λ r added. added.shape (search rules) ∙ ap₂ with_rule with_size number_is) c.arg-4.ensures
