-- What is written piece by piece is written as one piece, and what a lent part holds stands in the whole.
use Rattle.std.proofs.Common.{◌≡◌, ℕ, ◌+◌, ◌-◌, ◌≤◌, List, [], ◌++◌, length, take, drop, sym, refl, ap, ◌∙◌, subst, append_assoc, append-nil, add_assoc, arith, length-append, length-drop, length-take-le, take_all, drop-drop, ◌/◌, ◌%◌, ◌∷◌, ◌<◌, set, add-one}
use lib.Seq.{drop-append-add, take-append_seam, set_split}
use Rattle.std.proofs.lemmas.List.{drop_all}
use borrow.Rule.Slice.PartMut.{put_mid}
use Rattle.wire.specs.Bytes.{in_bytes}
use Rattle.wire.proofs.Codes.{length_in_bytes}
use Rattle.pen.specs.Buffer.{written, Wrote, fronted}

lent : (xs ys zs : List ℕ) (a : ℕ) → a + length ys ≤ length xs → zs ≡ fronted ys (take (length xs - a) (drop a xs)) → put_mid a (length xs - a) xs zs ≡ written xs a ys
unfolding written
lent xs ys zs a h e =
    let none : drop (length xs - a) (drop a xs) ≡ [] = drop_all _ (drop a xs) (simp length-drop (omega arith)) in
    let all : take (length xs - a) (drop a xs) ≡ drop a xs = take_all _ (drop a xs) (simp length-drop (omega arith)) in
    let rest : zs ++ drop (length xs - a) (drop a xs) ≡ ys ++ drop (a + length ys) xs =
    ap (λ z. zs ++ z) none ∙ append-nil zs ∙ e ∙ ap (λ z. ys ++ drop (length ys) z) all ∙ ap (λ z. ys ++ z) (drop-drop (length ys) a xs) in
    ap (λ z. take a xs ++ z) rest

written_length : (xs ys : List ℕ) (a : ℕ) → a + length ys ≤ length xs → length (written xs a ys) ≡ length xs
unfolding written
written_length xs ys a h =
    let f : length (take a xs) ≡ a = length-take-le a xs (omega arith) in
    simp (length-append, length-drop) (omega arith)

-- one piece behind another is one longer piece
written_more : (xs ys zs : List ℕ) (a : ℕ) → a + length ys ≤ length xs → written (written xs a ys) (a + length ys) zs ≡ written xs a (ys ++ zs)
unfolding written
written_more xs ys zs a h =
    let f : length (take a xs ++ ys) ≡ a + length ys = length-append (take a xs) ys ∙ ap (λ n. n + length ys) (length-take-le a xs (omega arith)) in
    let w : List ℕ = take a xs ++ (ys ++ drop (a + length ys) xs) in
    let g : w ≡ (take a xs ++ ys) ++ drop (a + length ys) xs = sym (append_assoc (take a xs) ys (drop (a + length ys) xs)) in
    let front : take (a + length ys) w ≡ take a xs ++ ys =
    ap (λ v. take (a + length ys) v) g ∙ ap (λ n. take n ((take a xs ++ ys) ++ drop (a + length ys) xs)) (sym f) ∙ take-append_seam (take a xs ++ ys) (drop (a + length ys) xs) in
    let back : drop (a + length ys + length zs) w ≡ drop (a + length (ys ++ zs)) xs =
    ap (λ v. drop (a + length ys + length zs) v) g ∙ ap (λ n. drop (n + length zs) ((take a xs ++ ys) ++ drop (a + length ys) xs)) (sym f)
    ∙ drop-append-add (take a xs ++ ys) (drop (a + length ys) xs) (length zs) ∙ drop-drop (length zs) (a + length ys) xs
    ∙ ap (λ n. drop n xs) (add_assoc a (length ys) (length zs) ∙ ap (λ n. a + n) (sym (length-append ys zs))) in
    ap (λ v. v ++ (zs ++ drop (a + length ys + length zs) w)) front ∙ append_assoc (take a xs) ys _ ∙ ap (λ v. take a xs ++ v) (sym (append_assoc ys zs _)) ∙ ap (λ v. take a xs ++ ((ys ++ zs) ++ v)) back

-- what a lent part holds stands in the whole
pub wrote_part : (xs ys zs : List ℕ) (a : ℕ) → a + length ys ≤ length xs → zs ≡ fronted ys (take (length xs - a) (drop a xs)) → Wrote xs a ys (put_mid a (length xs - a) xs zs) (a + length ys)
wrote_part xs ys zs a h e =
    let b = lent xs ys zs a h e in
    record { room = h; bytes = b; place = refl; size = ap length b ∙ written_length xs ys a h }

pub wrote_more : {xs ys zs x1 x2 : List ℕ} {l l1 l2 : ℕ} → Wrote xs l ys x1 l1 → Wrote x1 l1 zs x2 l2 → Wrote xs l (ys ++ zs) x2 l2
wrote_more {xs} {ys} {zs} {x1} {x2} {l} {l1} {l2} p q =
    let n = length-append ys zs in
    record {
      room = omega (arith, n, p.place, p.size, q.room);
      bytes = q.bytes ∙ ap (λ v. written v l1 zs) p.bytes ∙ ap (λ k. written (written xs l ys) k zs) p.place ∙ written_more xs ys zs l p.room;
      place = omega (arith, n, p.place, q.place);
      size = q.size ∙ p.size;
    }

-- a number, over the first bytes of what is left
pub wrote_number : (xs ys zs : List ℕ) (a n w m : ℕ) → ys ≡ in_bytes n m → w ≡ n → a + n ≤ length xs → zs ≡ ys ++ drop n (take (length xs - a) (drop a xs)) → Wrote xs a ys (put_mid a (length xs - a) xs zs) (a + w)
wrote_number xs ys zs a n w m e k h r =
    let l : length ys ≡ n = ap length e ∙ length_in_bytes n m in
    subst (λ i. Wrote xs a ys (put_mid a (length xs - a) xs zs) (a + i)) (l ∙ sym k) (wrote_part xs ys zs a (omega arith) (r ∙ ap (λ i. ys ++ drop i (take (length xs - a) (drop a xs))) (sym l)))

-- what is written from the start on stands in front
pub wrote_front : {xs ys xs' : List ℕ} {n : ℕ} → Wrote xs 0 ys xs' n → xs' ≡ fronted ys xs
unfolding written
wrote_front {xs} {ys} w = w.bytes ∙ ap (λ k. ys ++ drop k xs) (omega arith)

four : {a b c d a' b' c' d' : ℕ} → a ≡ a' → b ≡ b' → c ≡ c' → d ≡ d' → (a ∷ b ∷ c ∷ d ∷ []) ≡ (a' ∷ b' ∷ c' ∷ d' ∷ [])
four p q r s = λ i. p i ∷ q i ∷ r i ∷ s i ∷ []

-- a number in two, four and eight bytes is its two halves
pub halves_2 : (x : ℕ) → in_bytes 2 x ≡ x / 256 ∷ x % 256 ∷ []
halves_2 x = ap (λ b. x / 256 ∷ b ∷ []) (omega arith)

pub halves_4 : (x : ℕ) → in_bytes 4 x ≡ in_bytes 2 (x / 65536) ++ in_bytes 2 (x % 65536)
halves_4 x = four (omega arith) (omega arith) (omega arith) (omega arith)

-- a number in more than four bytes is the upper ones and the last four
upper_1 : (x : ℕ) → in_bytes 5 x ≡ in_bytes 1 (x / 4294967296) ++ in_bytes 4 (x % 4294967296)
upper_1 x = ap (λ b. b ∷ in_bytes 4 (x % 4294967296)) (omega arith)

joined : (w : ℕ) {a a' u u' l l' : ℕ} → a ≡ a' → u ≡ u' → l ≡ l' → (a ∷ (in_bytes w u ++ in_bytes 4 l)) ≡ (a' ∷ (in_bytes w u' ++ in_bytes 4 l'))
joined w p q r = λ i. p i ∷ (in_bytes w (q i) ++ in_bytes 4 (r i))

upper_2 : (x : ℕ) → in_bytes 6 x ≡ in_bytes 2 (x / 4294967296) ++ in_bytes 4 (x % 4294967296)
upper_2 x = ap (λ bs. x / 1099511627776 ∷ bs) (upper_1 (x % 1099511627776)) ∙ joined 1 (omega arith) (omega arith) (omega arith)

upper_3 : (x : ℕ) → in_bytes 7 x ≡ in_bytes 3 (x / 4294967296) ++ in_bytes 4 (x % 4294967296)
upper_3 x = ap (λ bs. x / 281474976710656 ∷ bs) (upper_2 (x % 281474976710656)) ∙ joined 2 (omega arith) (omega arith) (omega arith)

pub halves_8 : (x : ℕ) → in_bytes 8 x ≡ in_bytes 4 (x / 4294967296) ++ in_bytes 4 (x % 4294967296)
halves_8 x = ap (λ bs. x / 72057594037927936 ∷ bs) (upper_3 (x % 72057594037927936)) ∙ joined 3 (omega arith) (omega arith) (omega arith)

pub wrote_as : {xs ys zs xs' : List ℕ} {at at' : ℕ} → zs ≡ ys → Wrote xs at ys xs' at' → Wrote xs at zs xs' at'
wrote_as {xs} {xs' = xs'} {at} {at'} e w = subst (λ (b : List ℕ). Wrote xs at b xs' at') (sym e) w

pub wrote_halves_2 : {xs xs' : List ℕ} {at at' : ℕ} (x : ℕ) → Wrote xs at (x / 256 ∷ x % 256 ∷ []) xs' at' → Wrote xs at (in_bytes 2 x) xs' at'
wrote_halves_2 x w = wrote_as (halves_2 x) w

pub wrote_halves_4 : {xs xs' : List ℕ} {at at' : ℕ} (x : ℕ) → Wrote xs at (in_bytes 2 (x / 65536) ++ in_bytes 2 (x % 65536)) xs' at' → Wrote xs at (in_bytes 4 x) xs' at'
wrote_halves_4 x w = wrote_as (halves_4 x) w

pub wrote_halves_8 : {xs xs' : List ℕ} {at at' : ℕ} (x : ℕ) → Wrote xs at (in_bytes 4 (x / 4294967296) ++ in_bytes 4 (x % 4294967296)) xs' at' → Wrote xs at (in_bytes 8 x) xs' at'
wrote_halves_8 x w = wrote_as (halves_8 x) w

-- one byte
pub wrote_byte : (xs : List ℕ) (a x : ℕ) → a < length xs → Wrote xs a (x ∷ []) (set xs a x) (a + 1)
unfolding written
wrote_byte xs a x h =
    let e : set xs a x ≡ written xs a (x ∷ []) = set_split xs a x h ∙ ap (λ k. take a xs ++ (x ∷ drop k xs)) (sym (add-one a)) in
    record { room = omega arith; bytes = e; place = refl; size = ap length e ∙ written_length xs (x ∷ []) a (omega arith) }

-- the buffer under another name
pub wrote_into : {xs ys zs vs : List ℕ} {at a : ℕ} → Wrote xs at ys zs a → vs ≡ zs → Wrote xs at ys vs a
wrote_into {xs} {ys} {at = at} {a = a} w e = subst (λ (z : List ℕ). Wrote xs at ys z a) (sym e) w
