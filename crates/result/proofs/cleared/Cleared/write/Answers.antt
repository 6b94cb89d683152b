use Rattle.std.proofs.Common.{length, ap, ◌∙◌, arith, rules}
use Rattle.terms.specs.Dockets.{day_of, roll_of}
use Rattle.result.specs.Value.{line_at, lines_of}
use Rattle.result.proofs.Answered.{all_written_lem, result_long}
use Rattle.result.proofs.Gathering.{gathered_ones}
use Rattle.pen.proofs.Lent.{wrote_into}
use Rattle.result.proofs.Written.{members_long}
use Rattle.result.proofs.cleared.Cleared.write.Goals as goal

pub write_members-sum-requires : goal.write_members-sum-requires
write_members-sum-requires c =
    omega (arith, result_long c.args.self.now.session.now, c.write_header.ensures.wrote.place, c.write_header.ensures.wrote.size)

pub write_all_withdrawn-requires : goal.write_all_withdrawn-requires
write_all_withdrawn-requires c =
    let s = c.args.self.now.session.now in
    let h = c.write_header.ensures.wrote in
    let p = c.write_members-sum.ensures.puts.wrote in
    omega (arith, result_long s, h.place, h.size, p.place, p.size, members_long (lines_of s), gathered_ones (line_at s) (length (roll_of s.docket)))

pub returns : goal.returns
returns c =
    let s = c.args.self.now.session.now in
    let e = c.docket-docket.ensures in
    all_written_lem s c.currency.result c.cycle.result c.date.result c.members-members.result c.withdrawn-withdrawn.result c.write_members-sum.result
    (c.currency.ensures ∙ ap (λ d. (day_of d).currency) e) (c.cycle.ensures ∙ ap (λ d. (day_of d).cycle) e) (c.date.ensures ∙ ap (λ d. (day_of d).date) e) c.members-members.ensures.value c.withdrawn-withdrawn.ensures.value c.write_members-sum.ensures.sum
    c.write_header.ensures.wrote c.write_members-sum.ensures.puts.wrote c.write_all_withdrawn.ensures.wrote (wrote_into c.write_totals.ensures.wrote (search rules))
