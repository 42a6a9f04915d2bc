use Rattle.vc_plan_values.proofs.laws.valid_terms_fit.Goals as goal

pub returns : goal.returns
returns c = λ plan valid. record {
  domains_there = valid.domains_there;
  conditions_there = valid.conditions_there;
  terms_there = valid.terms_there;
  conditions_small = valid.conditions_small;
  terms_small = valid.terms_small;
}
