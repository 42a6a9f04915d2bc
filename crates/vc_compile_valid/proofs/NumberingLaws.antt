-- What the numbers of conditions and terms mean: those of the draft that a thing is made of.
use Rattle.std.proofs.Common.{◌≡◌, ℕ, suc, ◌+◌, ◌≤◌, List, [], ◌∷◌, ◌++◌, length, flat_map, refl, sym, ap, ◌∙◌, arith}
use Rattle.std.proofs.Common.{append_assoc, append-nil, length-append}
use Rattle.std.proofs.lemmas.List.{length-map}
use Rattle.vc_plan.specs.declared.plans.Plan.{Plan}
use Rattle.vc_table.specs.declared.table.VariantTable.{VariantTable}
use Rattle.vc_compile_plan.specs.Layouts.{Layout}
use Rattle.vc_compile_plan.specs.Numbering.{Brings, Drafts, numbered, conditions_of, terms_of, rule_brings}
use Rattle.vc_compile_plan.specs.Numbering.{guard_brings, requirement_brings, item_brings, procedure_brings}
use Rattle.vc_compile_plan.specs.Numbering.{brought_conditions, brought_terms, guards_begin, requirements_begin}
use Rattle.vc_compile_plan.specs.Numbering.{lines_begin, operations_begin, line_terms_begin, operation_terms_begin}
use Rattle.vc_compile_plan.specs.Numbering.{procedures_begin, procedure_terms_begin}
use Rattle.vc_compile_plan.specs.PlanOf.{IsPlanOver}
use Rattle.vc_compile_plan.specs.Trees.{Condition, Term, Always, condition_of, term_of}
use Rattle.vc_compile_valid.proofs.EachLaws.{Each}

-- these stand in the list from this number on
pub record StandFrom {X : Type 0} (all : List X) (n : ℕ) (xs : List X) : Type 0 where
  pub before : List X
  pub after : List X
  pub number : n ≡ length before
  pub all_are : all ≡ before ++ (xs ++ after)

pub first_of_more : {X : Type 0} (all : List X) (n : ℕ) (xs ys : List X) → StandFrom all n (xs ++ ys)
    → StandFrom all n xs
first_of_more all n xs ys s = record {
  before = s.before;
  after = ys ++ s.after;
  number = s.number;
  all_are = s.all_are ∙ ap (λ l. s.before ++ l) (append_assoc xs ys s.after);
}

pub rest_of_more : {X : Type 0} (all : List X) (n : ℕ) (xs ys : List X) → StandFrom all n (xs ++ ys)
    → StandFrom all (n + length xs) ys
rest_of_more all n xs ys s = record {
  before = s.before ++ xs;
  after = s.after;
  number = ap (λ m. m + length xs) s.number ∙ sym (length-append s.before xs);
  all_are = s.all_are ∙ ap (λ l. s.before ++ l) (append_assoc xs ys s.after)
      ∙ sym (append_assoc s.before xs (ys ++ s.after));
}

pub stand_within : {X : Type 0} (all : List X) (n : ℕ) (xs : List X) → StandFrom all n xs → n + length xs ≤ length all
stand_within all n xs s =
    let number = s.number in
    let size = ap length s.all_are ∙ length-append s.before (xs ++ s.after) in
    let more = length-append xs s.after in
    omega (arith, number, size, more)

-- what is made of drafts has what follows where the draft's conditions and terms stand at its numbers
pub numbered_each : {D X : Type 0} (brings : Brings D) (make : ℕ → ℕ → D → X) (Q : D → Type 0) (P : X → Type 0)
    (conditions : List Condition) (terms : List Term)
    → ((c t : ℕ) (draft : D) → Q draft → StandFrom conditions c (brings.conditions draft)
    → StandFrom terms t (brings.terms draft) → P (make c t draft))
    → (c t : ℕ) (drafts : List D) → Each Q drafts → StandFrom conditions c (flat_map brings.conditions drafts)
    → StandFrom terms t (flat_map brings.terms drafts) → Each P (numbered brings make c t drafts)
numbered_each brings make Q P conditions terms of c t [] good cs ts = tt
numbered_each brings make Q P conditions terms of c t (draft ∷ drafts) good cs ts =
    let more_conditions = flat_map brings.conditions drafts in
    let more_terms = flat_map brings.terms drafts in (
      of c t draft good.0 (first_of_more conditions c (brings.conditions draft) more_conditions cs)
          (first_of_more terms t (brings.terms draft) more_terms ts),
      numbered_each brings make Q P conditions terms of (c + length (brings.conditions draft))
          (t + length (brings.terms draft))
          drafts good.1 (rest_of_more conditions c (brings.conditions draft) more_conditions cs)
          (rest_of_more terms t (brings.terms draft) more_terms ts),
    )

pub renumber : {X : Type 0} (all : List X) (m n : ℕ) (xs : List X) → m ≡ n → StandFrom all n xs → StandFrom all m xs
renumber all m n xs e s = record { before = s.before; after = s.after; number = e ∙ s.number; all_are = s.all_are }

-- where those of each kind stand: conditions behind the first, which asks nothing
abbrev operations_on : Drafts → List Condition
operations_on d = brought_conditions item_brings d.operations ++ brought_conditions procedure_brings d.procedures

abbrev lines_on : Drafts → List Condition
lines_on d = brought_conditions item_brings d.lines ++ operations_on d

abbrev requirements_on : Drafts → List Condition
requirements_on d = brought_conditions requirement_brings d.requirements ++ lines_on d

abbrev guards_on : Drafts → List Condition
guards_on d = brought_conditions guard_brings d.guards ++ requirements_on d

one_and : (n : ℕ) → suc n ≡ 1 + n
one_and n = omega arith

from_rules : (d : Drafts) → StandFrom (conditions_of d) 1 (brought_conditions rule_brings d.rules ++ guards_on d)
from_rules d = record {
  before = Always ∷ [];
  after = [];
  number = refl;
  all_are = ap (λ l. Always ∷ l) (sym (append-nil (brought_conditions rule_brings d.rules ++ guards_on d)));
}

from_guards : (d : Drafts) → StandFrom (conditions_of d) (guards_begin d) (guards_on d)
from_guards d =
    renumber (conditions_of d) (guards_begin d) (1 + length (brought_conditions rule_brings d.rules)) (guards_on d)
    (one_and (length (brought_conditions rule_brings d.rules)))
    (rest_of_more (conditions_of d) 1 (brought_conditions rule_brings d.rules) (guards_on d) (from_rules d))

from_requirements : (d : Drafts) → StandFrom (conditions_of d) (requirements_begin d) (requirements_on d)
from_requirements d =
    rest_of_more (conditions_of d) (guards_begin d) (brought_conditions guard_brings d.guards) (requirements_on d)
    (from_guards d)

from_lines : (d : Drafts) → StandFrom (conditions_of d) (lines_begin d) (lines_on d)
from_lines d =
    rest_of_more (conditions_of d) (requirements_begin d) (brought_conditions requirement_brings d.requirements)
    (lines_on d)
    (from_requirements d)

from_operations : (d : Drafts) → StandFrom (conditions_of d) (operations_begin d) (operations_on d)
from_operations d =
    rest_of_more (conditions_of d) (lines_begin d) (brought_conditions item_brings d.lines) (operations_on d)
    (from_lines d)

pub rule_conditions : (d : Drafts) → StandFrom (conditions_of d) 1 (brought_conditions rule_brings d.rules)
rule_conditions d = first_of_more (conditions_of d) 1 (brought_conditions rule_brings d.rules) (guards_on d)
    (from_rules d)

pub guard_conditions : (d : Drafts)
    → StandFrom (conditions_of d) (guards_begin d) (brought_conditions guard_brings d.guards)
guard_conditions d =
    first_of_more (conditions_of d) (guards_begin d) (brought_conditions guard_brings d.guards) (requirements_on d)
    (from_guards d)

pub requirement_conditions : (d : Drafts)
    → StandFrom (conditions_of d) (requirements_begin d) (brought_conditions requirement_brings d.requirements)
requirement_conditions d =
    first_of_more (conditions_of d) (requirements_begin d) (brought_conditions requirement_brings d.requirements)
    (lines_on d)
    (from_requirements d)

pub line_conditions : (d : Drafts)
    → StandFrom (conditions_of d) (lines_begin d) (brought_conditions item_brings d.lines)
line_conditions d =
    first_of_more (conditions_of d) (lines_begin d) (brought_conditions item_brings d.lines) (operations_on d)
    (from_lines d)

pub operation_conditions : (d : Drafts)
    → StandFrom (conditions_of d) (operations_begin d) (brought_conditions item_brings d.operations)
operation_conditions d =
    first_of_more (conditions_of d) (operations_begin d) (brought_conditions item_brings d.operations)
    (brought_conditions procedure_brings d.procedures) (from_operations d)

pub procedure_conditions : (d : Drafts)
    → StandFrom (conditions_of d) (procedures_begin d) (brought_conditions procedure_brings d.procedures)
procedure_conditions d =
    rest_of_more (conditions_of d) (operations_begin d) (brought_conditions item_brings d.operations)
    (brought_conditions procedure_brings d.procedures) (from_operations d)

-- and terms
abbrev operation_terms_on : Drafts → List Term
operation_terms_on d = brought_terms item_brings d.operations ++ brought_terms procedure_brings d.procedures

abbrev line_terms_on : Drafts → List Term
line_terms_on d = brought_terms item_brings d.lines ++ operation_terms_on d

from_rule_terms : (d : Drafts) → StandFrom (terms_of d) 0 (brought_terms rule_brings d.rules ++ line_terms_on d)
from_rule_terms d =
    record {
      before = [];
      after = [];
      number = refl;
      all_are =
          sym (append-nil (brought_terms rule_brings d.rules ++ line_terms_on d));
    }

from_line_terms : (d : Drafts) → StandFrom (terms_of d) (line_terms_begin d) (line_terms_on d)
from_line_terms d =
    renumber (terms_of d) (line_terms_begin d) (0 + length (brought_terms rule_brings d.rules)) (line_terms_on d)
    (no_front (length (brought_terms rule_brings d.rules)))
    (rest_of_more (terms_of d) 0 (brought_terms rule_brings d.rules) (line_terms_on d) (from_rule_terms d))
  where
    no_front : (n : ℕ) → n ≡ 0 + n
    no_front n = omega arith

from_operation_terms : (d : Drafts) → StandFrom (terms_of d) (operation_terms_begin d) (operation_terms_on d)
from_operation_terms d =
    rest_of_more (terms_of d) (line_terms_begin d) (brought_terms item_brings d.lines) (operation_terms_on d)
    (from_line_terms d)

pub rule_terms : (d : Drafts) → StandFrom (terms_of d) 0 (brought_terms rule_brings d.rules)
rule_terms d = first_of_more (terms_of d) 0 (brought_terms rule_brings d.rules) (line_terms_on d) (from_rule_terms d)

pub line_terms : (d : Drafts) → StandFrom (terms_of d) (line_terms_begin d) (brought_terms item_brings d.lines)
line_terms d =
    first_of_more (terms_of d) (line_terms_begin d) (brought_terms item_brings d.lines) (operation_terms_on d)
    (from_line_terms d)

pub operation_terms : (d : Drafts)
    → StandFrom (terms_of d) (operation_terms_begin d) (brought_terms item_brings d.operations)
operation_terms d =
    first_of_more (terms_of d) (operation_terms_begin d) (brought_terms item_brings d.operations)
    (brought_terms procedure_brings d.procedures) (from_operation_terms d)

pub procedure_terms : (d : Drafts)
    → StandFrom (terms_of d) (procedure_terms_begin d) (brought_terms procedure_brings d.procedures)
procedure_terms d =
    rest_of_more (terms_of d) (operation_terms_begin d) (brought_terms item_brings d.operations)
    (brought_terms procedure_brings d.procedures) (from_operation_terms d)

-- where a kind brings no terms they stand anywhere
none_brought : {D : Type 0} (xs : List D) → flat_map {A = Term} (λ x. []) xs ≡ []
none_brought [] = refl
none_brought (x ∷ xs) = none_brought xs

pub no_terms : {D : Type 0} (all : List Term) (xs : List D) → StandFrom all 0 (flat_map {A = Term} (λ x. []) xs)
no_terms all xs = record {
  before = [];
  after = all;
  number = refl;
  all_are =
      ap (λ l. l ++ all) (sym (none_brought xs));
}

-- the plan has as many
pub condition_count : (layout : Layout) (d : Drafts) (tables : List VariantTable) (plan : Plan)
    → IsPlanOver layout d tables plan
    → length plan.conditions ≡ length (conditions_of d)
condition_count layout d tables plan is = sym (length-map plan.conditions condition_of) ∙ ap length is.conditions

pub term_count : (layout : Layout) (d : Drafts) (tables : List VariantTable) (plan : Plan)
    → IsPlanOver layout d tables plan
    → length plan.terms ≡ length (terms_of d)
term_count layout d tables plan is = sym (length-map plan.terms term_of) ∙ ap length is.terms
