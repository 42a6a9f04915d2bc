-- What is numbered kind by kind is what a plan has.
use Rattle.std.proofs.Common.{◌≡◌, ℕ, suc, ◌+◌, List, [], ◌∷◌, ◌++◌, length, flat_map, refl, sym, ap, ◌∙◌}
use Rattle.std.proofs.Common.{length-append}
use Rattle.std.proofs.lemmas.List.{append_assoc, append-nil}
use Rattle.vc_compile_plan.specs.Layouts.{Layout}
use Rattle.vc_compile_plan.specs.Numbering.{Brings, brought_conditions, brought_terms, conditions_of, drafts_of}
use Rattle.vc_compile_plan.specs.Numbering.{guard_brings, guard_from, guards_begin, guards_of, item_brings, line_from}
use Rattle.vc_compile_plan.specs.Numbering.{lines_begin, line_terms_begin, lines_of, numbered, operation_from}
use Rattle.vc_compile_plan.specs.Numbering.{operations_begin, operation_terms_begin, operations_of, procedure_brings}
use Rattle.vc_compile_plan.specs.Numbering.{procedure_from, procedures_begin, procedure_terms_begin, procedures_of}
use Rattle.vc_compile_plan.specs.Numbering.{requirement_brings, requirement_from, requirements_begin, requirements_of}
use Rattle.vc_compile_plan.specs.Numbering.{rule_brings, rule_from, rules_of, terms_of}
use Rattle.vc_compile_plan.specs.Shown.{GuardDraft, RequirementDraft}
use Rattle.vc_compile_plan.specs.Trees.{Condition, Term, Always}
use Rattle.vc_compile_numbering.specs.Growing.{Kept, with_drafts}
use Rattle.vc_compile_numbering.proofs.NumberingLaws.{drafts_are_numbered}
use Rattle.vc_compile_parts.specs.InTurn.{over, ruled, guarded, required, lined, operated, proceeded}

-- drafts over what is kept: what they bring comes behind it, and their numbers begin there
behind_conditions : {D X : Type 0} (brings : Brings D) (make : ℕ → ℕ → D → X) (before : Kept) (drafts : List D)
    → ((with_drafts brings make (over before) drafts).kept).conditions
    ≡ before.conditions ++ brought_conditions brings drafts
behind_conditions brings make before drafts =
    ap (λ n. (n.kept).conditions) (drafts_are_numbered brings make before.conditions before.terms [] drafts)

behind_terms : {D X : Type 0} (brings : Brings D) (make : ℕ → ℕ → D → X) (before : Kept) (drafts : List D)
    → ((with_drafts brings make (over before) drafts).kept).terms ≡ before.terms ++ brought_terms brings drafts
behind_terms brings make before drafts =
    ap (λ n. (n.kept).terms) (drafts_are_numbered brings make before.conditions before.terms [] drafts)

numbered_behind : {D X : Type 0} (brings : Brings D) (make : ℕ → ℕ → D → X) (before : Kept) (drafts : List D) (c t : ℕ)
    → length before.conditions ≡ c → length before.terms ≡ t
    → (with_drafts brings make (over before) drafts).items ≡ numbered brings make c t drafts
numbered_behind brings make before drafts c t conditions terms =
    ap (λ n. n.items) (drafts_are_numbered brings make before.conditions before.terms [] drafts)
    ∙ ap (λ n. numbered brings make n (length before.terms) drafts) conditions
    ∙ ap (λ n. numbered brings make c n drafts) terms

-- preconditions and requirements bring no terms
abbrev nothing : {D : Type 0} → D → List Term
nothing draft = []

no_terms : {D : Type 0} (drafts : List D) → flat_map nothing drafts ≡ []
no_terms [] = refl
no_terms (draft ∷ drafts) = no_terms drafts

guards_take_no_terms : (drafts : List GuardDraft) (c t : ℕ)
    → numbered guard_brings guard_from c t drafts ≡ numbered guard_brings guard_from c 0 drafts
guards_take_no_terms [] c t = refl
guards_take_no_terms (draft ∷ drafts) c t =
    ap (λ rest. guard_from c 0 draft ∷ rest)
    (guards_take_no_terms drafts (c + 1) (t + 0) ∙ sym (guards_take_no_terms drafts (c + 1) 0))

requirements_take_no_terms : (drafts : List RequirementDraft) (c t : ℕ)
    → numbered requirement_brings requirement_from c t drafts ≡ numbered requirement_brings requirement_from c 0 drafts
requirements_take_no_terms [] c t = refl
requirements_take_no_terms (draft ∷ drafts) c t =
    ap (λ rest. requirement_from c 0 draft ∷ rest)
    (requirements_take_no_terms drafts (c + 1) (t + 0) ∙ sym (requirements_take_no_terms drafts (c + 1) 0))

-- the conditions so far, kind by kind
rule_conditions : (layout : Layout)
    → ((ruled layout).kept).conditions ≡ Always ∷ brought_conditions rule_brings (drafts_of layout).rules
rule_conditions layout = behind_conditions rule_brings rule_from _ (drafts_of layout).rules

guard_conditions : (layout : Layout) → ((guarded layout).kept).conditions
    ≡ ((ruled layout).kept).conditions ++ brought_conditions guard_brings (drafts_of layout).guards
guard_conditions layout = behind_conditions guard_brings guard_from (ruled layout).kept (drafts_of layout).guards

requirement_conditions : (layout : Layout) → ((required layout).kept).conditions
    ≡ ((guarded layout).kept).conditions ++ brought_conditions requirement_brings (drafts_of layout).requirements
requirement_conditions layout =
    behind_conditions requirement_brings requirement_from (guarded layout).kept (drafts_of layout).requirements

line_conditions : (layout : Layout) → ((lined layout).kept).conditions
    ≡ ((required layout).kept).conditions ++ brought_conditions item_brings (drafts_of layout).lines
line_conditions layout = behind_conditions item_brings line_from (required layout).kept (drafts_of layout).lines

operation_conditions : (layout : Layout) → ((operated layout).kept).conditions
    ≡ ((lined layout).kept).conditions ++ brought_conditions item_brings (drafts_of layout).operations
operation_conditions layout =
    behind_conditions item_brings operation_from (lined layout).kept (drafts_of layout).operations

procedure_conditions : (layout : Layout) → ((proceeded layout).kept).conditions
    ≡ ((operated layout).kept).conditions ++ brought_conditions procedure_brings (drafts_of layout).procedures
procedure_conditions layout =
    behind_conditions procedure_brings procedure_from (operated layout).kept (drafts_of layout).procedures

pub conditions_are : (layout : Layout) → ((proceeded layout).kept).conditions ≡ conditions_of (drafts_of layout)
conditions_are layout =
    let drafts = drafts_of layout in
    joined (((ruled layout).kept).conditions) (brought_conditions guard_brings drafts.guards)
    (brought_conditions requirement_brings drafts.requirements) (brought_conditions item_brings drafts.lines)
    (brought_conditions item_brings drafts.operations) (brought_conditions procedure_brings drafts.procedures)
    (guard_conditions layout) (requirement_conditions layout) (line_conditions layout) (operation_conditions layout)
    (procedure_conditions layout)
    ∙ ap (λ first. first ++ (brought_conditions guard_brings drafts.guards
    ++ (brought_conditions requirement_brings drafts.requirements
    ++ (brought_conditions item_brings drafts.lines
    ++ (brought_conditions item_brings drafts.operations ++ brought_conditions procedure_brings drafts.procedures)))))
    (rule_conditions layout)
  where
    joined : (a b c d e f : List Condition) {ab abc abcd abcde all : List Condition}
        → ab ≡ a ++ b → abc ≡ ab ++ c → abcd ≡ abc ++ d → abcde ≡ abcd ++ e → all ≡ abcde ++ f
        → all ≡ a ++ (b ++ (c ++ (d ++ (e ++ f))))
    joined a b c d e f one two three four five =
        five ∙ ap (λ x. x ++ f) (four ∙ ap (λ x. x ++ e) (three ∙ ap (λ x. x ++ d) (two ∙ ap (λ x. x ++ c) one)))
        ∙ append_assoc (((a ++ b) ++ c) ++ d) e f ∙ append_assoc ((a ++ b) ++ c) d (e ++ f)
        ∙ append_assoc (a ++ b) c (d ++ (e ++ f)) ∙ append_assoc a b (c ++ (d ++ (e ++ f)))

-- the terms so far
rule_terms : (layout : Layout) → ((ruled layout).kept).terms ≡ brought_terms rule_brings (drafts_of layout).rules
rule_terms layout = behind_terms rule_brings rule_from _ (drafts_of layout).rules

guard_terms : (layout : Layout) → ((guarded layout).kept).terms ≡ ((ruled layout).kept).terms
guard_terms layout =
    behind_terms guard_brings guard_from (ruled layout).kept (drafts_of layout).guards
    ∙ ap (λ ts. ((ruled layout).kept).terms ++ ts) (no_terms (drafts_of layout).guards) ∙ append-nil _

requirement_terms : (layout : Layout) → ((required layout).kept).terms ≡ ((ruled layout).kept).terms
requirement_terms layout =
    behind_terms requirement_brings requirement_from (guarded layout).kept (drafts_of layout).requirements
    ∙ ap (λ ts. ((guarded layout).kept).terms ++ ts) (no_terms (drafts_of layout).requirements) ∙ append-nil _
    ∙ guard_terms layout

line_terms : (layout : Layout) → ((lined layout).kept).terms
    ≡ ((required layout).kept).terms ++ brought_terms item_brings (drafts_of layout).lines
line_terms layout = behind_terms item_brings line_from (required layout).kept (drafts_of layout).lines

operation_terms : (layout : Layout) → ((operated layout).kept).terms
    ≡ ((lined layout).kept).terms ++ brought_terms item_brings (drafts_of layout).operations
operation_terms layout = behind_terms item_brings operation_from (lined layout).kept (drafts_of layout).operations

procedure_terms : (layout : Layout) → ((proceeded layout).kept).terms
    ≡ ((operated layout).kept).terms ++ brought_terms procedure_brings (drafts_of layout).procedures
procedure_terms layout =
    behind_terms procedure_brings procedure_from (operated layout).kept (drafts_of layout).procedures

pub terms_are : (layout : Layout) → ((proceeded layout).kept).terms ≡ terms_of (drafts_of layout)
terms_are layout =
    let drafts = drafts_of layout in
    joined (brought_terms rule_brings drafts.rules) (brought_terms item_brings drafts.lines)
    (brought_terms item_brings drafts.operations) (brought_terms procedure_brings drafts.procedures)
    (requirement_terms layout ∙ rule_terms layout) (line_terms layout) (operation_terms layout) (procedure_terms layout)
  where
    joined : (a b c d : List Term) {first ab abc all : List Term}
        → first ≡ a → ab ≡ first ++ b → abc ≡ ab ++ c → all ≡ abc ++ d → all ≡ a ++ (b ++ (c ++ d))
    joined a b c d zero one two three =
        three ∙ ap (λ x. x ++ d) (two ∙ ap (λ x. x ++ c) (one ∙ ap (λ x. x ++ b) zero))
        ∙ append_assoc (a ++ b) c d ∙ append_assoc a b (c ++ d)

-- where the numbers of each kind begin
count_more : {X : Type 0} (all before more : List X) (n : ℕ) → all ≡ before ++ more → length before ≡ n
    → length all ≡ n + length more
count_more all before more n is counted = ap length is ∙ length-append before more ∙ ap (λ m. m + length more) counted

guards_begin_at : (layout : Layout) → length ((ruled layout).kept).conditions ≡ guards_begin (drafts_of layout)
guards_begin_at layout = ap length (rule_conditions layout)

requirements_begin_at : (layout : Layout)
    → length ((guarded layout).kept).conditions ≡ requirements_begin (drafts_of layout)
requirements_begin_at layout = count_more _ _ _ _ (guard_conditions layout) (guards_begin_at layout)

lines_begin_at : (layout : Layout) → length ((required layout).kept).conditions ≡ lines_begin (drafts_of layout)
lines_begin_at layout = count_more _ _ _ _ (requirement_conditions layout) (requirements_begin_at layout)

operations_begin_at : (layout : Layout) → length ((lined layout).kept).conditions ≡ operations_begin (drafts_of layout)
operations_begin_at layout = count_more _ _ _ _ (line_conditions layout) (lines_begin_at layout)

procedures_begin_at : (layout : Layout)
    → length ((operated layout).kept).conditions ≡ procedures_begin (drafts_of layout)
procedures_begin_at layout = count_more _ _ _ _ (operation_conditions layout) (operations_begin_at layout)

line_terms_at : (layout : Layout) → length ((required layout).kept).terms ≡ line_terms_begin (drafts_of layout)
line_terms_at layout = ap length (requirement_terms layout ∙ rule_terms layout)

operation_terms_at : (layout : Layout) → length ((lined layout).kept).terms ≡ operation_terms_begin (drafts_of layout)
operation_terms_at layout = count_more _ _ _ _ (line_terms layout) (line_terms_at layout)

procedure_terms_at : (layout : Layout)
    → length ((operated layout).kept).terms ≡ procedure_terms_begin (drafts_of layout)
procedure_terms_at layout = count_more _ _ _ _ (operation_terms layout) (operation_terms_at layout)

-- the things with their numbers
pub rules_are : (layout : Layout) → (ruled layout).items ≡ rules_of (drafts_of layout)
rules_are layout = numbered_behind rule_brings rule_from _ (drafts_of layout).rules 1 0 refl refl

pub guards_are : (layout : Layout) → (guarded layout).items ≡ guards_of (drafts_of layout)
guards_are layout =
    numbered_behind guard_brings guard_from (ruled layout).kept (drafts_of layout).guards
    (guards_begin (drafts_of layout)) _
    (guards_begin_at layout) refl
    ∙ guards_take_no_terms (drafts_of layout).guards (guards_begin (drafts_of layout)) _

pub requirements_are : (layout : Layout) → (required layout).items ≡ requirements_of (drafts_of layout)
requirements_are layout =
    numbered_behind requirement_brings requirement_from (guarded layout).kept (drafts_of layout).requirements
    (requirements_begin (drafts_of layout)) _ (requirements_begin_at layout) refl
    ∙ requirements_take_no_terms (drafts_of layout).requirements (requirements_begin (drafts_of layout)) _

pub lines_are : (layout : Layout) → (lined layout).items ≡ lines_of (drafts_of layout)
lines_are layout =
    numbered_behind item_brings line_from (required layout).kept (drafts_of layout).lines
    (lines_begin (drafts_of layout))
    (line_terms_begin (drafts_of layout)) (lines_begin_at layout) (line_terms_at layout)

pub operations_are : (layout : Layout) → (operated layout).items ≡ operations_of (drafts_of layout)
operations_are layout =
    numbered_behind item_brings operation_from (lined layout).kept (drafts_of layout).operations
    (operations_begin (drafts_of layout)) (operation_terms_begin (drafts_of layout)) (operations_begin_at layout)
    (operation_terms_at layout)

pub procedures_are : (layout : Layout) → (proceeded layout).items ≡ procedures_of (drafts_of layout)
procedures_are layout =
    numbered_behind procedure_brings procedure_from (operated layout).kept (drafts_of layout).procedures
    (procedures_begin (drafts_of layout)) (procedure_terms_begin (drafts_of layout)) (procedures_begin_at layout)
    (procedure_terms_at layout)

-- as many rules as drafts
pub rules_are_counted : (layout : Layout) → length (rules_of (drafts_of layout)) ≡ length (drafts_of layout).rules
rules_are_counted layout = counted (drafts_of layout).rules 1 0
  where
    counted : (drafts : List _) (c t : ℕ) → length (numbered rule_brings rule_from c t drafts) ≡ length drafts
    counted [] c t = refl
    counted (draft ∷ drafts) c t = ap suc (counted drafts _ _)
