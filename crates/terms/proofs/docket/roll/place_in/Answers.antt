use Rattle.std.proofs.Common.{rules, eqb, sym, ◌∙◌}
use borrow.Author.Tests.{tests}
use Rattle.std.proofs.lemmas.Iterator.{YieldsList-from_slice}
use Rattle.std.proofs.lemmas.Iterator.Search.{position_from_yields_List}
use Rattle.terms.proofs.Places.{first_is_position}
use Rattle.terms.proofs.docket.roll.place_in.Goals as goal

pub returns : goal.returns
returns c = position_from_yields_List (λ member. eqb member c.args.code) _ _ _ c.position.ensures.ran (YieldsList-from_slice c.args.roll.now cc) (λ x b q k. search (rules, tests)) ∙ sym (first_is_position (λ member. eqb member c.args.code) c.args.roll.now)
