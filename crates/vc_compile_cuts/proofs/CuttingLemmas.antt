-- Domains cut by marks that are joined, by one mark, and by all.
use Rattle.std.proofs.Common.{◌≡◌, ◌<◌, ◌≤◌, ◌+◌, ◌==◌, ◌⊎◌, inl, inr, ℕ, zero, suc, Bool, true, false, cond, List}
use Rattle.std.proofs.Common.{[], ◌∷◌, ◌++◌}
use Rattle.std.proofs.Common.{length, get_or, set, drop, map, refl, sym, ap, ◌∙◌, arith, Result, Ok, Err, IfOk, OnOk}
use Rattle.std.specs.List.{filter, flat_map}
use Rattle.std.proofs.Math.Seq.{drop-cons}
use Rattle.std.proofs.lemmas.Bool.Decides.{nat_tests}
use Rattle.std.proofs.lemmas.List.{map-append, length-map}
use Rattle.std.proofs.lemmas.List.Elements.{filter-append}
use Rattle.vc_value.specs.Grains.{cut_at}
use Rattle.vc_value.specs.declared.decimal.Dec.{Dec}
use Rattle.vc_value.specs.declared.grains.Grain.{Grain}
use Rattle.vc_value.specs.declared.table_header.Domain.{Domain}
use Rattle.vc_value.specs.declared.table_header.Domain.TheVariants as domains
use Rattle.vc_model_parts.specs.declared.parts.Characteristic.{Characteristic}
use Rattle.vc_model_parts.specs.Headers.{domain_of}
use Rattle.vc_model_parts.specs.declared.parts.Model.{Model}
use Rattle.vc_table.specs.declared.table.VariantTable.{VariantTable}
use Rattle.vc_plan.specs.declared.plans.Slot.{Slot}
use Rattle.vc_compile_plan.specs.Layouts.{layout_over}
use Rattle.vc_compile_plan.specs.Uses.{used_dependencies}
use Rattle.vc_compile_plan.specs.declared.standings.Standing.{Standing}
use Rattle.vc_compile_plan.specs.Cuts.{Mark, all_marks, cut_all, cut_domain, cuts_at, domains_from, domains_of}
use Rattle.vc_compile_cuts.specs.Cutting.{cut_from, domain_seen, domains_seen, marks_of_all}
use Rattle.vc_compile_cuts.specs.Marks.{mark_seen, marks_seen}
use Rattle.vc_compile_cuts.specs.declared.cutting.Cutting.{Cutting}
use Rattle.vc_compile_cuts.specs.declared.marks.Mark.{Mark as Kept}

-- numbers that are joined
cut_more : (decimals : ℕ) (grains : List Grain) (first second : List Dec)
    → cut_all decimals grains (first ++ second) ≡ cut_all decimals (cut_all decimals grains first) second
cut_more decimals grains [] second = refl
cut_more decimals grains (number ∷ first) second = cut_more decimals (cut_at decimals number grains) first second

cut_domain_more : (first second : List Dec) (domain : Domain)
    → cut_domain (first ++ second) domain ≡ cut_domain second (cut_domain first domain)
cut_domain_more first second (domains.Texts texts) = refl
cut_domain_more first second (domains.Nums decimals grains) = ap (domains.Nums decimals)
    (cut_more decimals grains first second)

cuts_more : (first second : List Mark) (c : ℕ) → cuts_at (first ++ second) c ≡ cuts_at first c ++ cuts_at second c
cuts_more first second c =
    ap (map (λ mark. mark.number)) (filter-append (λ mark. mark.characteristic == c) first second)
    ∙ map-append (λ mark. mark.number) (filter (λ mark. mark.characteristic == c) first)
    (filter (λ mark. mark.characteristic == c) second)

-- marks that are joined
pub cut_join : (first second : List Mark) (c : ℕ) (all : List Domain)
    → cut_from (first ++ second) c all ≡ cut_from second c (cut_from first c all)
cut_join first second c [] = refl
cut_join first second c (domain ∷ all) =
    ap (λ numbers. cut_domain numbers domain ∷ cut_from (first ++ second) (suc c) all) (cuts_more first second c)
    ∙ ap (λ one. one ∷ cut_from (first ++ second) (suc c) all)
    (cut_domain_more (cuts_at first c) (cuts_at second c) domain)
    ∙ ap (λ more. cut_domain (cuts_at second c) (cut_domain (cuts_at first c) domain) ∷ more)
    (cut_join first second (suc c) all)

-- no marks, and a mark of another characteristic
uncut : (domain : Domain) → cut_domain [] domain ≡ domain
uncut (domains.Texts texts) = refl
uncut (domains.Nums decimals grains) = refl

pub cut_nothing : (c : ℕ) (all : List Domain) → cut_from [] c all ≡ all
cut_nothing c [] = refl
cut_nothing c (domain ∷ all) =
    ap (λ one. one ∷ cut_from [] (suc c) all) (uncut domain) ∙ ap (λ more. domain ∷ more) (cut_nothing (suc c) all)

no_cuts : (mark : Mark) (c : ℕ) → (mark.characteristic == c) ≡ false → cuts_at (mark ∷ []) c ≡ []
no_cuts mark c other = ap (λ b. map (λ m. m.number) (cond b (mark ∷ []) [])) other

one_cut : (mark : Mark) (c : ℕ) → (mark.characteristic == c) ≡ true → cuts_at (mark ∷ []) c ≡ mark.number ∷ []
one_cut mark c same = ap (λ b. map (λ m. m.number) (cond b (mark ∷ []) [])) same

pub cut_elsewhere : (mark : Mark) (c : ℕ) (all : List Domain)
    → ((k : ℕ) → k < length all → (mark.characteristic == c + k) ≡ false) → cut_from (mark ∷ []) c all ≡ all
cut_elsewhere mark c [] other = refl
cut_elsewhere mark c (domain ∷ all) other =
    ap (λ numbers. cut_domain numbers domain ∷ cut_from (mark ∷ []) (suc c) all)
    (no_cuts mark c (ap (λ n. mark.characteristic == n) (first c) ∙ other 0 (omega arith)))
    ∙ ap (λ one. one ∷ cut_from (mark ∷ []) (suc c) all) (uncut domain)
    ∙ ap (λ more. domain ∷ more)
    (cut_elsewhere mark (suc c) all
    (λ k inside. ap (λ n. mark.characteristic == n) (next c k) ∙ other (suc k) (omega (inside, arith))))
  where
    first : (c : ℕ) → c ≡ c + 0
    first c = omega arith

    next : (c k : ℕ) → suc c + k ≡ c + suc k
    next c k = omega arith

-- one mark, at its place
differ : (m n : ℕ) → (m < n) ⊎ (n < m) → (m == n) ≡ false
differ m n apart = elim apart [ inl below ↦ grind (arith, nat_tests) | inr above ↦ grind (arith, nat_tests) ]

same_number : (m n : ℕ) → m ≡ n → (m == n) ≡ true
same_number m n same = grind (arith, nat_tests)

pub cut_one : (mark : Mark) (c n : ℕ) (all : List Cutting) (x d : Cutting)
    → mark.characteristic ≡ c + n → n < length all
    → domain_seen x ≡ cut_domain (mark.number ∷ []) (domain_seen (get_or all n d))
    → domains_seen (set all n x) ≡ cut_from (mark ∷ []) c (domains_seen all)
cut_one mark c n [] x d there inside is = absurd (omega (inside, arith))
cut_one mark c zero (y ∷ all) x d there inside is =
    ap (λ one. one ∷ domains_seen all)
    (is ∙ ap (λ numbers. cut_domain numbers (domain_seen y))
    (sym (one_cut mark c (same_number mark.characteristic c (omega (there, arith))))))
    ∙ ap (λ more. cut_domain (cuts_at (mark ∷ []) c) (domain_seen y) ∷ more)
    (sym (cut_elsewhere mark (suc c) (domains_seen all)
    (λ k within. differ mark.characteristic (suc c + k) (inl (omega (there, arith))))))
cut_one mark c (suc n) (y ∷ all) x d there inside is =
    ap (λ one. one ∷ domains_seen (set all n x))
    (sym (ap (λ numbers. cut_domain numbers (domain_seen y))
    (no_cuts mark c (differ mark.characteristic c (inr (omega (there, arith))))) ∙ uncut (domain_seen y)))
    ∙ ap (λ more. cut_domain (cuts_at (mark ∷ []) c) (domain_seen y) ∷ more)
    (cut_one mark (suc c) n all x d (omega (there, arith)) (omega (inside, arith)) is)

-- the lists of all characteristics
pub domains_are : (marks : List Mark) (c : ℕ) (characteristics : List Characteristic)
    → cut_from marks c (map (λ one. domain_of one.values) characteristics) ≡ domains_from marks c characteristics
domains_are marks c [] = refl
domains_are marks c (one ∷ more) =
    ap (λ rest. cut_domain (cuts_at marks c) (domain_of one.values) ∷ rest) (domains_are marks (suc c) more)

-- an element more, by its marks
cons_there : {X : Type 0} (xs : List X) (i : ℕ) (d : X) → i < length xs → get_or xs i d ∷ drop (i + 1) xs ≡ drop i xs
cons_there xs i d inside =
    let next : i + 1 ≡ suc i = omega arith in
    ap (λ n. get_or xs i d ∷ drop n xs) next ∙ sym (drop-cons xs i d inside)

pub cut_next : {X : Type 0} (f : X → List Mark) (xs : List X) (i : ℕ) (d : X) (before after all : List Domain)
    → i < length xs → after ≡ cut_from (f (get_or xs i d)) 0 before
    → cut_from (flat_map f (drop i xs)) 0 before ≡ all → cut_from (flat_map f (drop (i + 1) xs)) 0 after ≡ all
cut_next f xs i d before after all inside cut so_far =
    ap (cut_from (flat_map f (drop (i + 1) xs)) 0) cut
    ∙ sym (cut_join (f (get_or xs i d)) (flat_map f (drop (i + 1) xs)) 0 before)
    ∙ ap (λ ys. cut_from (flat_map f ys) 0 before) (cons_there xs i d inside)
    ∙ so_far

pub cut_next_mark : (marks : List Kept) (i : ℕ) (d : Kept) (before after all : List Domain)
    → i < length marks → after ≡ cut_from (mark_seen (get_or marks i d) ∷ []) 0 before
    → cut_from (marks_seen (drop i marks)) 0 before ≡ all → cut_from (marks_seen (drop (i + 1) marks)) 0 after ≡ all
cut_next_mark marks i d before after all inside cut so_far =
    ap (cut_from (marks_seen (drop (i + 1) marks)) 0) cut
    ∙ sym (cut_join (mark_seen (get_or marks i d) ∷ []) (marks_seen (drop (i + 1) marks)) 0 before)
    ∙ ap (λ ms. cut_from (marks_seen ms) 0 before) (cons_there marks i d inside)
    ∙ so_far

-- a mark of no characteristic
pub cut_past : (mark : Mark) (all : List Cutting) → length all ≤ mark.characteristic
    → domains_seen all ≡ cut_from (mark ∷ []) 0 (domains_seen all)
cut_past mark all beyond =
    sym (cut_elsewhere mark 0 (domains_seen all)
    (λ k inside. differ mark.characteristic (0 + k) (inr (omega (inside, beyond, length-map all domain_seen, arith)))))

-- all domains
pub domains_found : (model : Model) (tables : List VariantTable) (slots : List Slot) (standings : List Standing)
    (used : List ℕ) (uncut cut : List Cutting) (found : List Domain)
    → used ≡ used_dependencies (layout_over model standings slots)
    → domains_seen uncut ≡ map (λ c. domain_of c.values) model.characteristics
    → domains_seen cut ≡ cut_from (marks_of_all model tables used) 0 (domains_seen uncut)
    → found ≡ domains_seen cut
    → found ≡ domains_of (layout_over model standings slots) tables
domains_found model tables slots standings used uncut cut found are listed by_all is =
    is ∙ by_all ∙ ap (cut_from (marks_of_all model tables used) 0) listed
    ∙ ap (λ ds. cut_from (marks_of_all model tables ds) 0 (map (λ c. domain_of c.values) model.characteristics)) are
    ∙ domains_are (all_marks (layout_over model standings slots) tables) 0 model.characteristics

-- behind the last mark
drop_past : {X : Type 0} (xs : List X) (i : ℕ) → length xs ≤ i → drop i xs ≡ []
drop_past [] zero past = refl
drop_past [] (suc i) past = refl
drop_past (x ∷ xs) zero past = absurd (omega (past, arith))
drop_past (x ∷ xs) (suc i) past = drop_past xs i (omega (past, arith))

pub cut_last : {X : Type 0} (f : List X → List Mark) (xs : List X) (i : ℕ) (all after : List Domain) → f [] ≡ []
    → length xs ≤ i → cut_from (f (drop i xs)) 0 all ≡ after → all ≡ after
cut_last f xs i all after none past so_far =
    sym (cut_nothing 0 all) ∙ ap (λ marks. cut_from marks 0 all) (sym none)
    ∙ ap (λ ys. cut_from (f ys) 0 all) (sym (drop_past xs i past)) ∙ so_far

pub on_ok : {X E : Type 0} {P Q : Type 0} (r : Result X E) → (P → Q) → OnOk r P → OnOk r Q
on_ok (Ok x) more holds = more holds
on_ok (Err e) more holds = holds

pub for_ok : {X E : Type 0} {P Q : X → Type 0} (r : Result X E) → ((x : X) → P x → Q x) → IfOk r P → IfOk r Q
for_ok (Ok x) more holds = more x holds
for_ok (Err e) more holds = holds
