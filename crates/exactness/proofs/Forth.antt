-- Bytes that are read are what is written of the values read.
use Rattle.std.proofs.Common.{◌≡◌, ℕ, zero, suc, ◌+◌, ◌*◌, ◌^◌, ◌<◌, ◌≤◌, Bool, true, false, cond, eqb, ltb, ◌⊎◌, List, [], ◌∷◌, ◌++◌, length, get_or, take, drop, Some, None, Ok, Err, Option, Result, sym, refl, ap, ◌∙◌, subst, inl, inr, ⊎_elim, append-nil, arith, length-drop, take-append-drop, drop_of_length-le, length-take-le, drop-cons, drop-drop, ltb-false, eqb-true}
use Rattle.wire.specs.Bytes.{number_in, in_bytes, Octets}
use Rattle.wire.specs.Records.{Piece, piece, width, tag_byte, tag_of, behind_head, first_record}
use Rattle.wire.specs.Values.{field, raw_header_in, batch_head_in, presentation_in, return_in, closing_in}
use Rattle.memberfile.specs.Layout.{enc_record, enc_header, enc_presentation, enc_return, enc_closing, FitsRow, FitsTotals}
use Rattle.memberfile.specs.Judge.{gone, gone_by}
use Rattle.terms.specs.declared.refusal.Refusal.{Refusal}
use Rattle.terms.specs.declared.refusal.Refusal.TheVariants.{ValueCut, WrongLength}
use Rattle.wire.specs.declared.record.Tag.{Tag}
use Rattle.wire.specs.declared.record.Tag.TheVariants.{FileHeader, BatchHeader, Presentation as t_presentation, Return as t_return, BatchEnd, FileEnd}
use Rattle.wire.specs.declared.row.Row.TheVariants.{Presentation, Return}
use Rattle.wire.proofs.Codes.{number_lt, in_bytes_number}

octets_take : (n : ℕ) (v : List ℕ) → Octets v → Octets (take n v)
octets_take zero v o = tt
octets_take (suc n) [] o = tt
octets_take (suc n) (b ∷ v) o = (o.0, octets_take n v o.1)

octets_drop : (n : ℕ) (v : List ℕ) → Octets v → Octets (drop n v)
octets_drop zero v o = o
octets_drop (suc n) [] o = tt
octets_drop (suc n) (b ∷ v) o = octets_drop n v o.1

octet_at : (v : List ℕ) (i : ℕ) → Octets v → get_or v i 0 < 256
octet_at [] i o = omega arith
octet_at (b ∷ v) zero o = o.0
octet_at (b ∷ v) (suc i) o = octet_at v i o.1

-- one field, and what is behind it
peel : (w i : ℕ) (v x : List ℕ) → Octets v → i + w ≤ length v → x ≡ drop (i + w) v → in_bytes w (field v i w) ++ x ≡ drop i v
peel w i v x o l e =
    let d : List ℕ = drop i v in
    let long : length (take w d) ≡ w = length-take-le w d (omega (arith, length-drop i v)) in
    let back : in_bytes w (number_in (take w d)) ≡ take w d = ap (λ k. in_bytes k (number_in (take w d))) (sym long) ∙ in_bytes_number (take w d) (octets_take w d (octets_drop i v o)) in
    (λ j. back j ++ (e ∙ sym (drop-drop w i v)) j) ∙ take-append-drop w d

peel_last : (w i : ℕ) (v : List ℕ) → Octets v → i + w ≡ length v → in_bytes w (field v i w) ≡ drop i v
peel_last w i v o l = sym (append-nil (in_bytes w (field v i w))) ∙ peel w i v [] o (omega arith) (sym (drop_of_length-le v (omega arith)))

byte : (i : ℕ) (v x : List ℕ) → i < length v → x ≡ drop (suc i) v → get_or v i 0 ∷ x ≡ drop i v
byte i v x l e = ap (λ y. get_or v i 0 ∷ y) e ∙ sym (drop-cons v i 0 l)

field_lt : (w i : ℕ) (v : List ℕ) → Octets v → i + w ≤ length v → field v i w < 256 ^ w
field_lt w i v o l = subst (λ k. field v i w < 256 ^ k) (length-take-le w (drop i v) (omega (arith, length-drop i v))) (number_lt (take w (drop i v)) (octets_take w (drop i v) (octets_drop i v o)))

pub header_forth : (v : List ℕ) → length v ≡ 10 → Octets v → enc_header (raw_header_in v) ≡ v
header_forth v l o = byte 0 v _ (omega arith) (byte 1 v _ (omega arith) (byte 2 v _ (omega arith) (peel 2 3 v _ o (omega arith) (peel 4 5 v _ o (omega arith) (byte 9 v [] (omega arith) (sym (drop_of_length-le v {i = 10} (omega arith))))))))

pub presented_forth : (v : List ℕ) → length v ≡ 13 → Octets v → enc_presentation (presentation_in v) ≡ v
presented_forth v l o = byte 0 v _ (omega arith) (peel 2 1 v _ o (omega arith) (peel 4 3 v _ o (omega arith) (peel 4 7 v _ o (omega arith) (peel_last 2 11 v o (omega arith)))))

pub presented_fits : (v : List ℕ) → length v ≡ 13 → Octets v → FitsRow (Presentation (presentation_in v))
presented_fits v l o = (octet_at v 0 o, field_lt 2 1 v o (omega arith), field_lt 4 3 v o (omega arith), field_lt 4 7 v o (omega arith), field_lt 2 11 v o (omega arith))

pub returned_forth : (v : List ℕ) → length v ≡ 13 → Octets v → enc_return (return_in v) ≡ v
returned_forth v l o = peel 2 0 v _ o (omega arith) (peel 4 2 v _ o (omega arith) (peel 4 6 v _ o (omega arith) (peel 2 10 v _ o (omega arith) (byte 12 v [] (omega arith) (sym (drop_of_length-le v {i = 13} (omega arith)))))))

pub returned_fits : (v : List ℕ) → length v ≡ 13 → Octets v → FitsRow (Return (return_in v))
returned_fits v l o = (field_lt 2 0 v o (omega arith), field_lt 4 2 v o (omega arith), field_lt 4 6 v o (omega arith), field_lt 2 10 v o (omega arith), octet_at v 12 o)

pub closing_forth : (v : List ℕ) → length v ≡ 24 → Octets v → enc_closing (closing_in v).number (closing_in v).totals ≡ v
closing_forth v l o = peel 2 0 v _ o (omega arith) (peel 2 2 v _ o (omega arith) (peel 8 4 v _ o (omega arith) (peel 8 12 v _ o (omega arith) (peel_last 4 20 v o (omega arith)))))

pub closing_fits : (v : List ℕ) → length v ≡ 24 → Octets v → FitsTotals (closing_in v).totals
closing_fits v l o = (field_lt 2 2 v o (omega arith), field_lt 8 4 v o (omega arith), field_lt 8 12 v o (omega arith), field_lt 4 20 v o (omega arith))

pub closing_number : (v : List ℕ) → length v ≡ 24 → Octets v → (closing_in v).number < 65536
closing_number v l o = field_lt 2 0 v o (omega arith)

pub head_forth : (v : List ℕ) → length v ≡ 3 → Octets v → (batch_head_in v).kind ∷ in_bytes 2 (batch_head_in v).number ≡ v
head_forth v l o = byte 0 v _ (omega arith) (peel_last 2 1 v o (omega arith))

pub head_number : (v : List ℕ) → length v ≡ 3 → Octets v → (batch_head_in v).number < 65536
head_number v l o = field_lt 2 1 v o (omega arith)

-- a tag is its byte

some_or : (c : Bool) (x t : Tag) (o : Option Tag) → cond c (Some x) o ≡ Some t → ((c ≡ true) × (x ≡ t)) ⊎ (o ≡ Some t)
some_or true x t o e = inl (refl, cc)
some_or false x t o e = inr e

one_tag : (b n : ℕ) (x t : Tag) (o : Option Tag) → n ≡ tag_byte x → cond (eqb b n) (Some x) o ≡ Some t → (o ≡ Some t → b ≡ tag_byte t) → b ≡ tag_byte t
one_tag b n x t o c e other = ⊎_elim (λ h. eqb-true b n h.0 ∙ c ∙ ap tag_byte h.1) other (some_or (eqb b n) x t o e)

pub tag_byte_lem : (b : ℕ) (t : Tag) → tag_of b ≡ Some t → b ≡ tag_byte t
tag_byte_lem b t e =
    one_tag b 1 FileHeader t _ refl e (λ e. one_tag b 5 BatchHeader t _ refl e (λ e. one_tag b 6 t_presentation t _ refl e (λ e. one_tag b 7 t_return t _ refl e (λ e. one_tag b 8 BatchEnd t _ refl e (λ e. one_tag b 9 FileEnd t None refl e (λ e. absurd (cc)))))))

width_small : (t : Tag) → width t ≤ 24
width_small FileHeader = omega arith
width_small BatchHeader = omega arith
width_small t_presentation = omega arith
width_small t_return = omega arith
width_small BatchEnd = omega arith
width_small FileEnd = omega arith

-- a record that is read is what is written of it, with what follows
pub record Read (bs : List ℕ) (p : Piece) : Type 0 where
  pub rest : List ℕ
  pub wrote : bs ≡ enc_record p.tag p.value ++ rest
  pub sized : length p.value ≡ width p.tag
  pub value : Octets p.value
  pub more : Octets rest
  pub left : drop (gone bs) bs ≡ rest

sized_inv : (a b : Bool) (t : Tag) (v : List ℕ) (p : Piece) → ◌≡◌ {A = Result Piece Refusal} (cond a (cond b (Err ValueCut) (Ok (piece t v))) (Err WrongLength)) (Ok p) → (a ≡ true) × (b ≡ false) × (p ≡ piece t v)
sized_inv true false t v p e = (refl, refl, cc)
sized_inv true true t v p e = absurd (cc)
sized_inv false b t v p e = absurd (cc)

pub behind_inv : (o : Option Tag) (n : ℕ) (vs : List ℕ) (p : Piece) → behind_head o n vs ≡ Ok p → (t : Tag) × (o ≡ Some t) × (n ≡ width t) × (n ≤ length vs) × (p ≡ piece t (take n vs))
behind_inv None n vs p e = absurd (cc)
behind_inv (Some t) n vs p e = let h = sized_inv (eqb n (width t)) (ltb (length vs) n) t (take n vs) p e in (t, refl, eqb-true n (width t) h.0, ltb-false (length vs) n h.1, h.2)

read_head : (b a d : ℕ) (vs : List ℕ) (p : Piece) → Octets (b ∷ a ∷ d ∷ vs) → first_record (b ∷ a ∷ d ∷ vs) ≡ Ok p → Read (b ∷ a ∷ d ∷ vs) p
read_head b a d vs p o e =
    let n : ℕ = a * 256 + d in
    let h = behind_inv (tag_of b) n vs p e in
    let t : Tag = h.0 in
    let small : width t ≤ 24 = width_small t in
    let long : length (take n vs) ≡ n = length-take-le n vs h.3 in
    let zero_is : a ≡ 0 = omega (arith, h.2) in
    let low_is : d ≡ width t = omega (arith, h.2) in
    let far : gone (b ∷ a ∷ d ∷ vs) ≡ 3 + n = ap gone_by e ∙ ap (λ q. 3 + length q.value) h.4 ∙ ap (λ k. 3 + k) long in
    let at : Read (b ∷ a ∷ d ∷ vs) (piece t (take n vs)) = record {
      rest = drop n vs;
      wrote = λ i. tag_byte_lem b t h.1 i ∷ zero_is i ∷ low_is i ∷ sym (take-append-drop n vs) i;
      sized = long ∙ h.2;
      value = octets_take n vs o.1.1.1;
      more = octets_drop n vs o.1.1.1;
      left = ap (λ k. drop k (b ∷ a ∷ d ∷ vs)) far ∙ sym (drop-drop n 3 (b ∷ a ∷ d ∷ vs));
    } in
    subst (Read (b ∷ a ∷ d ∷ vs)) (sym h.4) at

pub read : (bs : List ℕ) (p : Piece) → Octets bs → first_record bs ≡ Ok p → Read bs p
read [] p o e = absurd (cc)
read (b ∷ []) p o e = absurd (cc)
read (b ∷ a ∷ []) p o e = absurd (cc)
read (b ∷ a ∷ d ∷ vs) p o e = read_head b a d vs p o e
