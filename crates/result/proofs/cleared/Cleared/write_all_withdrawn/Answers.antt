use Rattle.std.proofs.Common.{[], ◌∷◌, ◌++◌, length, sym, refl, ap, ◌∙◌, append-nil, map-id, arith, rules}
use Rattle.std.proofs.lemmas.Iterator.{YieldsList-from_range, YieldsList-from_take}
use Rattle.std.proofs.lemmas.Iterator.Consumers.{YieldsList-at, YieldsList-end, YieldsList-from_filter_map, YieldsList-turn}
use Rattle.pen.proofs.Lent.{wrote_as, wrote_more}
use Rattle.table.specs.Entries.{entries_of}
use Rattle.result.specs.Gathered.{each_of}
use Rattle.result.specs.Layout.{enc_withdrawn}
use Rattle.result.specs.Value.{withdrawn_of}
use Rattle.result.proofs.Chosen.{all_chosen, chosen_at, chosen_is}
use Rattle.result.proofs.Gathering.{each_append}
use Rattle.result.proofs.Written.{withdrawn_long, wrote_nothing}
use Rattle.result.proofs.cleared.Cleared.write_all_withdrawn.Goals as goal

pub loop-entry-init : goal.loop-entry-init
loop-entry-init c =
    record { can = search rules; finite = search rules; puts = record { name = refl; wrote = wrote_nothing c.args.pen.now.out.now c.args.pen.now.at (omega arith) } }

pub write_withdrawn-requires : goal.write_withdrawn-requires
write_withdrawn-requires c =
    let s = c.args.self.now.session.now in
    let n = length (entries_of s.table) in
    let t = YieldsList-turn (YieldsList-from_take (length (withdrawn_of s)) (YieldsList-at {t = c.filter_map.result} (cc) (YieldsList-from_filter_map _ (chosen_at s) (YieldsList-from_range 0 n n (cc) (omega arith)) c.filter_map.ensures.closure (λ x r q k. search (rules, chosen_is)))) (cc)) c.loop-entry.yielded _ c.loop-entry.yielded_by _ _ c.in-Some.entry c.in-Some.is c.next.ensures.steps in
    let p = c.loop-entry.invariant.puts.wrote in
    omega (arith, p.place, p.size, withdrawn_long c.loop-entry.yielded, t.0, ap length (all_chosen s), c.requires)

pub loop-entry-preserved : goal.loop-entry-preserved
loop-entry-preserved c =
    record {
      can = search rules;
      finite = search rules;
      puts = record { name = c.write_withdrawn.ensures.name ∙ c.loop-entry.invariant.puts.name; wrote = wrote_as (each_append enc_withdrawn c.loop-entry.yielded (c.in-Some.entry ∷ []) ∙ ap (λ z. each_of enc_withdrawn c.loop-entry.yielded ++ z) (append-nil (enc_withdrawn c.in-Some.entry))) (wrote_more c.loop-entry.invariant.puts.wrote c.write_withdrawn.ensures.wrote) };
    }

pub returns : goal.returns
returns c =
    let s = c.args.self.now.session.now in
    let n = length (entries_of s.table) in
    let t = YieldsList-end (YieldsList-from_take (length (withdrawn_of s)) (YieldsList-at {t = c.filter_map.result} (cc) (YieldsList-from_filter_map _ (chosen_at s) (YieldsList-from_range 0 n n (cc) (omega arith)) c.filter_map.ensures.closure (λ x r q k. search (rules, chosen_is)))) (cc)) c.loop-entry.yielded _ c.loop-entry.yielded_by _ _ c.in-None.is c.next.ensures.steps in
    record { name = c.loop-entry.invariant.puts.name; wrote = wrote_as (ap (each_of enc_withdrawn) (sym (all_chosen s) ∙ sym t.0 ∙ map-id c.loop-entry.yielded)) c.loop-entry.invariant.puts.wrote }
