use Rattle.std.proofs.Common.{length, get_or, set, Ok, Err, refl, ap, ◌∙◌}
use Rattle.std.proofs.lemmas.Result.{err_from_is_err_and}
use Rattle.session.specs.Ledger.{ledger_of, numbered}
use Rattle.session.proofs.Admits.{fits, held, refused_answer, refused_ledger, refused_out, refused_stood, taken_answer, taken_ledger, taken_out, taken_stood, unadmitted, unchecked}
use Rattle.session.proofs.session.Session.intake.Goals as goal

pub returns-in_err-summary : goal.returns-in_err-summary
returns-in_err-summary g c =
    let s = c.args.self.now in
    let l = ledger_of s in
    let m = g.I.Instrument.meaning c.args.instrument.now in
    let bs = c.args.file.now in
    let n = length c.args.out.now in
    let p = err_from_is_err_and c.from_residual.result c.from_residual.ensures.1 in
    let v = unchecked l m bs n c.in_err-summary.field-0.0 c.in_err-summary.ensures in
    record {
      answer = p.1 ∙ ap Err p.2 ∙ refused_answer l m bs n _ v;
      ledger = refused_ledger l m bs n _ v;
      out = refused_out l m bs n _ v c.args.out.now;
      stood = refused_stood l m bs n _ v s;
    }

pub returns-in_err-sender : goal.returns-in_err-sender
returns-in_err-sender g c =
    let s = c.args.self.now in
    let l = ledger_of s in
    let m = g.I.Instrument.meaning c.args.instrument.now in
    let bs = c.args.file.now in
    let n = length c.args.out.now in
    let p = err_from_is_err_and c.from_residual-in_err-sender.result c.from_residual-in_err-sender.ensures.1 in
    let v = unadmitted l m bs n c.in_ok-summary.summary _ c.in_ok-summary.ensures c.in_err-sender.ensures in
    record {
      answer = p.1 ∙ ap Err p.2 ∙ refused_answer l m bs n _ v;
      ledger = refused_ledger l m bs n _ v;
      out = refused_out l m bs n _ v c.args.out.now;
      stood = refused_stood l m bs n _ v s;
    }

pub take_rows-taken-requires : goal.take_rows-taken-requires
take_rows-taken-requires g c =
    let l = ledger_of c.args.self.now in
    let m = g.I.Instrument.meaning c.args.instrument.now in
    let bs = c.args.file.now in
    let n = length c.args.out.now in
    let sum = c.in_ok-summary.summary in
    record {
      held = held l m bs n sum c.in_ok-sender.sender c.in_ok-summary.ensures c.in_ok-sender.ensures;
      room = fits l m bs n sum c.in_ok-sender.sender c.in_ok-summary.ensures c.in_ok-sender.ensures;
    }

pub returns : goal.returns
returns g c =
    let s = c.args.self.now in
    let l = ledger_of s in
    let m = g.I.Instrument.meaning c.args.instrument.now in
    let bs = c.args.file.now in
    let n = length c.args.out.now in
    let sum = c.in_ok-summary.summary in
    let from = c.in_ok-sender.sender in
    let je = c.in_ok-summary.ensures in
    let ae = c.in_ok-sender.ensures in
    let did = c.take_rows-taken.ensures in
    let nums = c.take_rows-taken.new.self.numbers in
    record {
      answer = ap Ok did.counts ∙ taken_answer l m bs n sum from je ae;
      ledger = taken_ledger l m bs n sum from je ae c.take_rows-taken.new.self did.ledger _ _ (ap (set nums c.sender.inside.place) c.enter.ensures ∙ ap (λ q. set nums q (numbered sum.header.kind sum.header.number (get_or nums q _))) (ap (λ x. x.place) c.sender.view_is));
      out = did.out ∙ taken_out l m bs n sum from je ae c.args.out.now;
      stood = taken_stood l m bs n sum from je ae s _ refl;
    }
