-- What a step leaves of the sources' places, the first variable that columns fill, and whether what is cited is clear.
use Rattle.std.proofs.Common.{◌≡◌, ℕ, Bool, true, false, List, [], ◌∷◌, length, map, refl, ap, ◌∙◌, Some, None}
use Rattle.std.specs.Prelude.{Option}
use Rattle.std.proofs.lemmas.List.{length-set, length-replicate}
use Rattle.vc_value.specs.declared.value.Value.{Value}
use Rattle.vc_base.specs.Chains.{all_pass}
use Rattle.vc_plan.specs.declared.atoms.Atom.{Atom}
use Rattle.vc_plan.specs.declared.atoms.Atom.TheVariants.{Here}
use Rattle.vc_plan.specs.declared.plans.Plan.{Plan}
use Rattle.vc_plan.specs.declared.procedures.FilledColumn.{FilledColumn}
use Rattle.vc_plan.specs.Sources.{Entry, Sources}
use Rattle.vc_plan_reasons.specs.Checking.{set_with}
use Rattle.vc_plan_sources.specs.Changes.{no_sources, with_entry, with_user}
use Rattle.vc_check.specs.Citing.{if_there, with_cited}
use Rattle.vc_check_chains.specs.Places.{HasPlaces}
use Rattle.vc_check_chains.specs.Telling.{first_filled, first_of}

-- a change of one place leaves all
pub places_user : (plan : Plan) (old new : Sources) (v : ℕ) (a : Option Value) → HasPlaces plan old
    → new ≡ with_user old v a → HasPlaces plan new
places_user plan old new v a places e = record {
  user = ap (λ s. length s.user) e ∙ (length-set old.user v a ∙ places.user);
  written = ap (λ s. length s.written) e ∙ places.written;
}

pub places_written : (plan : Plan) (old new : Sources) (v : ℕ) (entry : Option Entry) → HasPlaces plan old
    → new ≡ with_entry old v entry → HasPlaces plan new
places_written plan old new v entry places e = record {
  user = ap (λ s. length s.user) e ∙ places.user;
  written = ap (λ s. length s.written) e ∙ (length-set old.written v entry ∙ places.written);
}

-- sources that are made for a plan have a place for each variable
pub places_new : (plan : Plan) (new : Sources) → new ≡ no_sources (length plan.vars) → HasPlaces plan new
places_new plan new e = record {
  user = ap (λ s. length s.user) e ∙ length-replicate (length plan.vars) None;
  written = ap (λ s. length s.written) e ∙ length-replicate (length plan.vars) None;
}

pub first_column : (filled : List FilledColumn) → first_filled filled ≡ first_of (map (λ column. column.var) filled)
first_column [] = refl
first_column (column ∷ filled) = refl

pub clear_there : (test : List Atom → Bool) (set : List Atom) (c : Option (List Atom))
    → if_there true set ≡ with_cited (Here 0 ∷ []) c → test set ≡ all_pass (λ atoms. test (set_with atoms)) c
clear_there test set None e = cc
clear_there test set (Some atoms) e = let same : set ≡ set_with atoms = cc in ap test same

pub clear_missing : (test : List Atom → Bool) (set : List Atom) (c : Option (List Atom))
    → if_there false set ≡ with_cited (Here 0 ∷ []) c → false ≡ all_pass (λ atoms. test (set_with atoms)) c
clear_missing test set None e = refl
clear_missing test set (Some atoms) e = cc
