-- What the shipped ranking rules say.
use Rattle.std.specs.Prelude.{ℕ, Bool, cond, ◌&&◌, ◌||◌, ◌==◌, nat_lt}
use Rattle.rules.specs.Order.{Order}
use Rattle.rules.specs.declared.rankings.AnyRanking.{AnyRanking}
use Rattle.rules.specs.declared.rankings.AnyRanking.TheVariants.{Sending, Wages}

-- the lower session number stands before
abbrev pub sending_order : Order
sending_order a b = nat_lt a.number b.number

-- the types that pay wages
abbrev pub is_wages : ℕ → Bool
is_wages type = type == 221 || type == 223

-- wages are the first group, all else the second
abbrev pub group : ℕ → ℕ
group type = cond (is_wages type) 1 2

-- the lower group stands before; within a group the lower session number does
abbrev pub wages_first : Order
wages_first a b = nat_lt (group a.record_type) (group b.record_type) || (group a.record_type == group b.record_type && nat_lt a.number b.number)

-- either of them
abbrev pub any_ranking : AnyRanking → Order
any_ranking Sending = sending_order
any_ranking Wages = wages_first
