-- What `==` and `default` of totals are, which their derives write.
use Rattle.std.proofs.Common.{◌≡◌, refl}
use Rattle.wire.specs.contracts.values.TotalsPartialEq.TheImpl.{eq-value}
use Rattle.wire.specs.contracts.values.TotalsDefault.TheImpl.{is_default-value}
use Rattle.wire.specs.Rows.{no_totals, same_totals}
use Rattle.wire.specs.declared.values.Totals.{Totals}

-- two totals are equal where each field is
pub eq_same : (s t : Totals) → eq-value.it s t ≡ same_totals s t
eq_same s t = refl

-- the default is the totals over no row
pub default_none : (t : Totals) → is_default-value.it t → t ≡ no_totals
default_none t d = λ i. record { count = d.0 i; amounts = d.1.0 i; commissions = d.1.1.0 i; parties = d.1.1.1 i }
