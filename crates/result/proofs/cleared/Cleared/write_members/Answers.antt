use Rattle.std.proofs.Common.{◌≡◌, [], ◌∷◌, length, sym, refl, ap, ◌∙◌, arith, w64, SFits, rules}
use Rattle.std.proofs.lemmas.Int.{to_z-of_z}
use Rattle.terms.specs.Dockets.{roll_of}
use Rattle.session.specs.Questions.{position_at}
use Rattle.result.specs.Layout.{enc_member, positive}
use Rattle.result.specs.Value.{line_at, lines_up_to}
use Rattle.result.specs.declared.member_line.MemberLine.{MemberLine}
use Rattle.result.proofs.Gathering.{gathered_ones}
use Rattle.result.proofs.Numbers.{position_low, sum_low, sum_more, sum_none}
use Rattle.result.proofs.Written.{goes_on, members_long, starts}
use Rattle.result.proofs.cleared.Cleared.write_members.Goals as goal

pub loop-place-init : goal.loop-place-init
loop-place-init c =
    let s = c.args.self.now.session.now in
    record { puts = record { name = refl; wrote = starts enc_member (λ i. line_at s i ∷ []) c.args.pen.now.out.now c.args.pen.now.at (omega arith) }; sum = sym (sum_none s) }

pub write_member-requires : goal.write_member-requires
write_member-requires c =
    let s = c.args.self.now.session.now in
    let p = c.loop-place.invariant.puts.wrote in
    let all : length c.roll-code-items.result.now ≡ length (roll_of s.docket) = search rules in
    omega (arith, p.place, p.size, members_long (lines_up_to s c.loop-place.place), gathered_ones (line_at s) c.loop-place.place)

-- what one member adds
adds : (c : goal.After-positive_part-sum) → c.positive_part-sum.result ≡ positive (position_at c.args.self.now.session.now c.loop-place.place)
adds c =
    let f : SFits w64 c.member-member.result.position = search rules in
    let e = simp to_z-of_z at c.positive_part-sum.ensures in
    e ∙ ap (λ (l : MemberLine). positive l.position) c.member-member.ensures

pub overflow_add-sum : goal.overflow_add-sum
overflow_add-sum c =
    let s = c.args.self.now.session.now in
    let m = c.loop-place.place in
    omega (arith, adds c, position_low s m, sum_low s m, c.loop-place.invariant.sum, c.loop-place-test.true, c.roll-code-items.ensures.few)

pub loop-place-preserved : goal.loop-place-preserved
loop-place-preserved c =
    let s = c.args.self.now.session.now in
    let m = c.loop-place.place in
    let is : c.member-member.result ≡ line_at s m = search rules in
    record {
      puts = record { name = c.write_member.ensures.name ∙ c.loop-place.invariant.puts.name; wrote = goes_on enc_member (λ i. line_at s i ∷ []) m c.member-member.result (ap (λ z. z ∷ []) (sym is)) c.loop-place.invariant.puts.wrote c.write_member.ensures.wrote };
      sum = omega (arith, adds c, sum_more s m, c.loop-place.invariant.sum);
    }
