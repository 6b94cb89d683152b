use Rattle.std.proofs.Common.{rules}
use Rattle.clearing.proofs.Sides.{read_low}
use Rattle.clearing.proofs.sheet.Sheet.position.Goals as goal

pub overflow_cast-result : goal.overflow_cast-result
overflow_cast-result c =
    let s = c.args.self.now in
    let l = c.in-Some.ensures.lookup in
    let low = read_low s.balances.by_member 409_600_000_000 (search rules) s.payments s.receipts c.from.result c.in-Some.balance.now l.3.0 l.1 in
    search rules

pub overflow_cast-result-in-Some : goal.overflow_cast-result-in-Some
overflow_cast-result-in-Some c =
    let s = c.args.self.now in
    let l = c.in-Some.ensures.lookup in
    let low = read_low s.balances.by_member 409_600_000_000 (search rules) s.payments s.receipts c.from.result c.in-Some.balance.now l.3.0 l.1 in
    search rules

pub overflow_sub-result : goal.overflow_sub-result
overflow_sub-result c =
    let s = c.args.self.now in
    let l = c.in-Some.ensures.lookup in
    let low = read_low s.balances.by_member 409_600_000_000 (search rules) s.payments s.receipts c.from.result c.in-Some.balance.now l.3.0 l.1 in
    search rules
