-- A number written in bytes is read back, and bytes read are written back.
use Rattle.std.proofs.Common.{◌≡◌, ℕ, zero, suc, ◌+◌, ◌*◌, ◌/◌, ◌%◌, ◌^◌, ◌<◌, List, [], ◌∷◌, length, refl, ap, ◌∙◌, mod-lt, div-add-mod', arith}
use native.Mathlib.Nat.{pow-succ'}
use lib.Arith.{digits_lt, digits_div, digits_mod}
use Rattle.wire.specs.Bytes.{number_in, in_bytes, Octets}

pub pow_256 : (w : ℕ) → 0 < 256 ^ w
pow_256 zero = omega arith
pow_256 (suc w) = rw pow-succ' (omega (arith, pow_256 w))

pub length_in_bytes : (w n : ℕ) → length (in_bytes w n) ≡ w
length_in_bytes zero n = refl
length_in_bytes (suc w) n = ap suc (length_in_bytes w (n % 256 ^ w))

pub number_in_bytes : (w n : ℕ) → n < 256 ^ w → number_in (in_bytes w n) ≡ n
number_in_bytes zero n h = omega arith
number_in_bytes (suc w) n h = ap (λ k. n / 256 ^ w * 256 ^ k + number_in (in_bytes w (n % 256 ^ w))) (length_in_bytes w (n % 256 ^ w)) ∙ ap (λ r. n / 256 ^ w * 256 ^ w + r) (number_in_bytes w (n % 256 ^ w) (mod-lt n (pow_256 w))) ∙ div-add-mod' n (256 ^ w)

pub number_lt : (v : List ℕ) → Octets v → number_in v < 256 ^ length v
number_lt [] o = omega arith
number_lt (b ∷ v) o = rw pow-succ' (digits_lt o.0 (number_lt v o.1))

pub in_bytes_number : (v : List ℕ) → Octets v → in_bytes (length v) (number_in v) ≡ v
in_bytes_number [] o = refl
in_bytes_number (b ∷ v) o = λ i. digits_div b (number_lt v o.1) i ∷ (ap (in_bytes (length v)) (digits_mod b (number_lt v o.1)) ∙ in_bytes_number v o.1) i
