use Rattle.std.proofs.Common.{Err, ok_or, sym, ap, ◌∙◌}
use Rattle.std.proofs.lemmas.Result.{err_from_is_err_and}
use Rattle.terms.specs.declared.refusal.Refusal.TheVariants.{HeaderValue}
use Rattle.memberfile.specs.Headers.{header_of}
use Rattle.memberfile.proofs.Steps.{opened_err}
use Rattle.memberfile.proofs.stage.open_file.Goals as goal

pub returns-in_err-header-clause-value : goal.returns-in_err-header-clause-value
returns-in_err-header-clause-value c =
    let p = err_from_is_err_and c.from_residual.result c.from_residual.ensures.1 in
    p.1 ∙ ap Err p.2 ∙ sym (opened_err _ _ (c.in_err-header.ensures ∙ ap (λ r. ok_or (header_of r) HeaderValue) c.raw_header_in.ensures))
