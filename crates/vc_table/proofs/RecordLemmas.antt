-- Reading record after record gives all records of a text.
use Rattle.std.proofs.Common.{◌≡◌, ℕ, zero, suc, ◌+◌, ◌<◌, ◌≤◌, Bool, true, false, List, [], ◌∷◌, ◌++◌, length, refl}
use Rattle.std.proofs.Common.{sym, ap, ◌∙◌, arith, Some, None, if◌then◌else◌, ◌==◌, ◌&&◌}
use Rattle.csv.specs.Machine.{Read, next_record, step, in_field, start_field, start_record, after_end, ends_with}
use Rattle.csv.specs.Machine.{is_byte, is_end, ends_at_end, fields_after, field_after}
use Rattle.csv.specs.Reading.{Reached, records_from, records_next, records}
use Rattle.csv.specs.declared.parser.Config.{Config}
use Rattle.csv.specs.declared.parser.Terminator.{Terminator}
use Rattle.csv.specs.declared.parser.Terminator.TheVariants as term
use Rattle.csv.specs.declared.parser.State.{State}
use Rattle.csv.specs.declared.parser.State.TheVariants as st
use Rattle.csv.specs.declared.parser.Action.{Action}

either : {T : Type 0} (P : T → Type 0) (b : Bool) (x y : T) → P x → P y → P (if b then x else y)
either P true x y p q = p
either P false x y p q = q

-- a step that ends a record leaves a state in which the text's end ends none
abbrev Ends : State × Action → Type 0
Ends after = is_end after.1 ≡ true → ends_at_end after.0 ≡ false

after_end_ends : (terminator : Terminator) (c : ℕ) → ends_at_end (after_end terminator c) ≡ false
after_end_ends term.CRLF c = either (λ s. ends_at_end s ≡ false) (c == 13) st.AfterCr st.StartRecord refl refl
after_end_ends (term.Any t) c = refl

in_field_ends : (cfg : Config) (c : ℕ) → Ends (in_field cfg c)
in_field_ends cfg c =
    either Ends (c == cfg.delimiter) _ _ (λ e. cc e)
    (either Ends (ends_with cfg.terminator c) _ _ (λ _. after_end_ends cfg.terminator c) (λ e. cc e))

start_field_ends : (cfg : Config) (c : ℕ) → Ends (start_field cfg c)
start_field_ends cfg c = either Ends (cfg.quoting && (c == cfg.quote)) _ _ (λ e. cc e) (in_field_ends cfg c)

start_record_ends : (cfg : Config) (c : ℕ) → Ends (start_record cfg c)
start_record_ends cfg c =
    either Ends (ends_with cfg.terminator c) _ _ (λ e. cc e)
    (either Ends (is_byte cfg.comment c) _ _ (λ e. cc e) (start_field_ends cfg c))

step_ends : (cfg : Config) (s : State) (c : ℕ) → Ends (step cfg s c)
step_ends cfg st.StartRecord c = start_record_ends cfg c
step_ends cfg st.StartField c = start_field_ends cfg c
step_ends cfg st.InField c = in_field_ends cfg c
step_ends cfg st.InQuoted c =
    either Ends (cfg.quoting && (c == cfg.quote)) _ _ (λ e. cc e)
    (either Ends (cfg.quoting && is_byte cfg.escape c) _ _ (λ e. cc e) (λ e. cc e))
step_ends cfg st.InEscape c = λ e. cc e
step_ends cfg st.AfterQuote c =
    either Ends (cfg.quoting && cfg.double_quote && (c == cfg.quote)) _ _ (λ e. cc e) (in_field_ends cfg c)
step_ends cfg st.InComment c = either Ends (c == 10) _ _ (λ e. cc e) (λ e. cc e)
step_ends cfg st.AfterCr c = either Ends (c == 10) _ _ (λ e. cc e) (start_record_ends cfg c)

-- what is known of a read: after it the text's end ends no record, and so many bytes are left at most
abbrev Leaves : ℕ → Read → Type 0
Leaves n p = (ends_at_end p.1 ≡ false) × (length p.2 ≤ n)

leaves_at : (fields : List (List ℕ)) (s : State) (rest : List ℕ) (n : ℕ) (p : Read) → ends_at_end s ≡ false
    → length rest ≤ n → Some (fields, s, rest) ≡ Some p → Leaves n p
leaves_at fields s rest n p ended few e =
    let same : (fields, s, rest) ≡ p = cc e in
    (sym (ap (λ (q : Read). ends_at_end q.1) same) ∙ ended, omega (arith, ap (λ (q : Read). length q.2) same))

more_left : (n m : ℕ) (p : Read) → n ≤ m → Leaves n p → Leaves m p
more_left n m p le (ended, few) = (ended, omega arith)

-- a record leaves no more bytes than there were
next_leaves : (cfg : Config) (s : State) (fields : List (List ℕ)) (field xs : List ℕ) (p : Read)
    → next_record cfg s fields field xs ≡ Some p → Leaves (length xs) p
unfolding next_record
next_leaves cfg s fields field [] p e = ended (ends_at_end s) e
  where
    ended : (b : Bool) → (if b then Some (fields ++ (field ∷ []), st.StartRecord, []) else None) ≡ Some p → Leaves 0 p
    ended true e = leaves_at (fields ++ (field ∷ [])) st.StartRecord [] 0 p refl (omega arith) e
    ended false e = absurd (cc e)
next_leaves cfg s fields field (c ∷ rest) p e =
    stepped (is_end (step cfg s c).1) refl e
    (next_leaves cfg (step cfg s c).0 (fields_after (step cfg s c).1 fields field)
    (field_after (step cfg s c).1 c field) rest p)
  where
    stepped : (b : Bool) → is_end (step cfg s c).1 ≡ b
        → (if b then Some (fields_after (step cfg s c).1 fields field, (step cfg s c).0, rest)
        else next_record cfg (step cfg s c).0 (fields_after (step cfg s c).1 fields field)
        (field_after (step cfg s c).1 c field) rest) ≡ Some p
        → (next_record cfg (step cfg s c).0 (fields_after (step cfg s c).1 fields field)
        (field_after (step cfg s c).1 c field) rest ≡ Some p → Leaves (length rest) p)
        → Leaves (suc (length rest)) p
    stepped true ends e more = leaves_at _ _ rest (suc (length rest)) p (step_ends cfg s c ends) (omega arith) e
    stepped false goes e more = more_left (length rest) (suc (length rest)) p (omega arith) (more e)

-- from a state in which the text's end ends no record, a record takes a byte at least
next_takes : (cfg : Config) (s : State) (xs : List ℕ) (p : Read) → ends_at_end s ≡ false
    → next_record cfg s [] [] xs ≡ Some p → (ends_at_end p.1 ≡ false) × (length p.2 < length xs)
unfolding next_record
next_takes cfg s [] p none e =
    absurd (cc (sym (ap (λ b. if b then Some ([] ++ ([] ∷ []), st.StartRecord, []) else None) none) ∙ e))
next_takes cfg s (c ∷ rest) p none e = stepped (is_end (step cfg s c).1) refl e
  where
    stepped : (b : Bool) → is_end (step cfg s c).1 ≡ b
        → (if b then Some (fields_after (step cfg s c).1 [] [], (step cfg s c).0, rest)
        else next_record cfg (step cfg s c).0 (fields_after (step cfg s c).1 [] []) (field_after (step cfg s c).1 c [])
        rest) ≡ Some p
        → (ends_at_end p.1 ≡ false) × (length p.2 < suc (length rest))
    stepped true ends e = let l = leaves_at _ _ rest (length rest) p (step_ends cfg s c ends) (omega arith) e in
        (l.0, omega arith)
    stepped false goes e = let l =
        next_leaves cfg (step cfg s c).0 (fields_after (step cfg s c).1 [] []) (field_after (step cfg s c).1 c []) rest
        p e in (l.0, omega arith)

-- there are no more records than bytes
few_records : (cfg : Config) (s : State) (xs : List ℕ) (rows : List (List (List ℕ))) (s2 : State) (ys : List ℕ)
    → ends_at_end s ≡ false → Reached cfg s xs rows s2 ys → length rows ≤ length xs
unfolding Reached
few_records cfg s xs [] s2 ys none reached = omega arith
few_records cfg s xs (r ∷ rs) s2 ys none (p, next, same, reached) =
    let takes = next_takes cfg s xs p none next in
    let rest = few_records cfg p.1 p.2 rs s2 ys takes.0 reached in
    omega arith

reads_all : (cfg : Config) (n : ℕ) (s : State) (xs : List ℕ) (rows : List (List (List ℕ))) (s2 : State) (ys : List ℕ)
    → length rows < n → Reached cfg s xs rows s2 ys → next_record cfg s2 [] [] ys ≡ None
    → records_from cfg n s xs ≡ rows
unfolding Reached records_from
reads_all cfg zero s xs rows s2 ys fits reached end = absurd (omega arith)
reads_all cfg (suc n) s xs [] s2 ys fits (same, rest) end = let none : next_record cfg s [] [] xs
    ≡ None = rw (same, rest) end in ap (records_next (records_from cfg n)) none
reads_all cfg (suc n) s xs (r ∷ rs) s2 ys fits (p, next, same, reached) end =
    ap (records_next (records_from cfg n)) next ∙ ap (λ f. f ∷ records_from cfg n p.1 p.2) (sym same)
    ∙ ap (λ rows. r ∷ rows) (reads_all cfg n p.1 p.2 rs s2 ys (omega arith) reached end)

reads_some : (cfg : Config) (n : ℕ) (s : State) (xs : List ℕ) (rows : List (List (List ℕ))) (s2 : State) (ys : List ℕ)
    → length rows ≤ n → Reached cfg s xs rows s2 ys → length rows ≤ length (records_from cfg n s xs)
unfolding Reached records_from
reads_some cfg n s xs [] s2 ys fits reached = omega arith
reads_some cfg zero s xs (r ∷ rs) s2 ys fits reached = absurd (omega arith)
reads_some cfg (suc n) s xs (r ∷ rs) s2 ys fits (p, next, same, reached) =
    let rest = reads_some cfg n p.1 p.2 rs s2 ys (omega arith) reached in
    omega (arith, ap (λ o. length (records_next (records_from cfg n) o)) next)

-- records that are read in turn up to the end are all of them
pub all_read : (cfg : Config) (xs : List ℕ) (rows : List (List (List ℕ))) (s2 : State) (ys : List ℕ)
    → Reached cfg st.StartRecord xs rows s2 ys → next_record cfg s2 [] [] ys ≡ None → rows ≡ records cfg xs
all_read cfg xs rows s2 ys reached end = let few = few_records cfg st.StartRecord xs rows s2 ys refl reached in
    sym (reads_all cfg (length xs + 1) st.StartRecord xs rows s2 ys (omega arith) reached end)

-- there are as many records as were read in turn, or more
pub some_read : (cfg : Config) (xs : List ℕ) (rows : List (List (List ℕ))) (s2 : State) (ys : List ℕ)
    → Reached cfg st.StartRecord xs rows s2 ys → length rows ≤ length (records cfg xs)
some_read cfg xs rows s2 ys reached = let few = few_records cfg st.StartRecord xs rows s2 ys refl reached in
    reads_some cfg (length xs + 1) st.StartRecord xs rows s2 ys (omega arith) reached
