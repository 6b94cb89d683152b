-- The withdrawn entries as a chain over the places gives them.
use Rattle.std.proofs.Common.{◌≡◌, ℕ, zero, suc, ◌+◌, Bool, true, false, cond, List, [], ◌∷◌, ◌++◌, length, take, Some, None, Option, refl, ap, ◌∙◌, zero-add, arith, take_all}
use Rattle.std.specs.List.{cons_option, filter_map, range_with_len}
use Rattle.std.proofs.lemmas.List.Elements.{filter_map-append}
use Rattle.clearing.specs.Choices.{entry_at}
use Rattle.clearing.specs.declared.entry.Entry.{Entry}
use Rattle.table.specs.Entries.{entries_of}
use Rattle.session.specs.Questions.{mark_of}
use Rattle.session.specs.declared.session.Session.{Session}
use Rattle.result.specs.Gathered.{gathered}
use Rattle.result.specs.Value.{is_withdrawn, listed, withdrawn_at, withdrawn_of, withdrawn_up_to}

-- the first entry of a list, if there is one
abbrev pub first : List Entry → Option Entry
first [] = None
first (e ∷ es) = Some e

-- the withdrawn entry at a place, if there is one
abbrev pub chosen_at : Session → ℕ → Option Entry
chosen_at s i = first (withdrawn_at s i)

pub chosen_is : (s : Session) (i : ℕ) (o : Option Entry) → listed o ≡ withdrawn_at s i → o ≡ chosen_at s i
chosen_is s i None e = ap first e
chosen_is s i (Some x) e = ap first e

range_more : (a n : ℕ) → range_with_len a (suc n) ≡ range_with_len a n ++ ((a + n) ∷ [])
range_more a zero = ap (λ k. k ∷ []) (omega arith)
range_more a (suc n) = ap (λ xs. a ∷ xs) (range_more (a + 1) n ∙ ap (λ k. range_with_len (a + 1) n ++ (k ∷ [])) (omega arith))

one_kept : (b : Bool) (e : Entry) → cons_option (first (cond b (e ∷ []) [])) [] ≡ cond b (e ∷ []) []
one_kept true e = refl
one_kept false e = refl

pub chosen : (s : Session) (n : ℕ) → filter_map (chosen_at s) (range_with_len 0 n) ≡ withdrawn_up_to s n
unfolding gathered
chosen s zero = refl
chosen s (suc n) =
    let last : filter_map (chosen_at s) ((0 + n) ∷ []) ≡ withdrawn_at s n =
    ap (λ k. filter_map (chosen_at s) (k ∷ [])) (zero-add n) ∙ one_kept (is_withdrawn (mark_of s n)) (entry_at (entries_of s.table) n) in
    ap (filter_map (chosen_at s)) (range_more 0 n) ∙ filter_map-append (chosen_at s) (range_with_len 0 n) ((0 + n) ∷ [])
    ∙ ap (λ xs. xs ++ filter_map (chosen_at s) ((0 + n) ∷ [])) (chosen s n) ∙ ap (λ xs. withdrawn_up_to s n ++ xs) last

-- as many of them as there are, are all of them
pub all_chosen : (s : Session) → take (length (withdrawn_of s)) (filter_map (chosen_at s) (range_with_len 0 (length (entries_of s.table)))) ≡ withdrawn_of s
all_chosen s = ap (take (length (withdrawn_of s))) (chosen s (length (entries_of s.table))) ∙ take_all (length (withdrawn_of s)) (withdrawn_of s) (omega arith)
