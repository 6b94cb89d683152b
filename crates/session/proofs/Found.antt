-- Records that are found stand in the table.
use Rattle.std.proofs.Common.{◌≡◌, ℕ, cond, List, length, Some, None, ap, arith, lt-ltb}
use Rattle.terms.proofs.Places.{place_found}
use Rattle.clearing.specs.Choices.{entry_at, no_entry}
use Rattle.clearing.specs.declared.entry.Entry.{Entry}
use Rattle.table.specs.Entries.{entry_in, is_record, record_in}

-- a record that is found stands in the table
pub found_there : (es : List Entry) (origin reference i : ℕ) → record_in es origin reference ≡ Some i → entry_in es i ≡ None → ⊥
found_there es origin reference i f n =
    let l = (place_found (is_record origin reference) es i f no_entry).0 in
    let here : entry_in es i ≡ Some (entry_at es i) = ap (λ b. cond b (Some (entry_at es i)) None) (lt-ltb i (length es) l) in
    let z : ◌≡◌ {A = ℕ} 0 1 = cc in
    omega arith
