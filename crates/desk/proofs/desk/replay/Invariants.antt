use Rattle.std.proofs.Common.{◌≡◌, min, map, take, drop, length, vec_len}
use Rattle.terms.specs.Dockets.{day_of}
use Rattle.desk.specs.Calls.{meaning}
use Rattle.desk.specs.Runs.{Leaves}
use Rattle.desk.proofs.desk.replay.Given as goal

abbrev pub invariant-loop-i : goal.invariant-loop-i
invariant-loop-i g l =
    let f = meaning g.I.Instrument.meaning g.R.Ranking.ahead g.C.CoverSource.covers (length l.initial.out) in
    Leaves (day_of l.fn.docket) (min (vec_len l.fn.places) 4096) (map f (take l.i l.calls)) l.s (take l.i l.answers) l.initial.out l.out
    × (drop l.i l.answers ≡ drop l.i l.initial.answers)
