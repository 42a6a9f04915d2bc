-- Domains that are cut by marks, one after another.
use Rattle.std.specs.Prelude.{ℕ, suc, List, [], ◌∷◌, map, flat_map}
use Rattle.vc_value.specs.declared.table_header.Domain.{Domain}
use Rattle.vc_value.specs.declared.table_header.Domain.TheVariants as domains
use Rattle.vc_model_parts.specs.declared.parts.Model.{Model}
use Rattle.vc_table.specs.declared.table.VariantTable.{VariantTable}
use Rattle.vc_compile_plan.specs.Cuts.{Mark, cuts_at, cut_domain, marks_if}
use Rattle.vc_compile_plan.specs.Layouts.{tree_of}
use Rattle.vc_compile_cuts.specs.declared.cutting.Cutting.{Cutting}
use Rattle.vc_compile_cuts.specs.declared.cutting.Cutting.TheVariants as cuttings

-- the domain that stands so far
abbrev pub domain_seen : Cutting → Domain
domain_seen (cuttings.Texts texts) = domains.Texts texts
domain_seen (cuttings.Numbers decimals grains) = domains.Nums decimals grains

abbrev pub domains_seen : List Cutting → List Domain
domains_seen all = map domain_seen all

-- each domain cut at the marks of its characteristic; the first is that of this number
abbrev pub cut_from : List Mark → ℕ → List Domain → List Domain
cut_from marks c [] = []
cut_from marks c (domain ∷ more) = cut_domain (cuts_at marks c) domain ∷ cut_from marks (suc c) more

-- the marks of dependencies, by their numbers
abbrev pub marks_of_all : Model → List VariantTable → List ℕ → List Mark
marks_of_all model tables numbers = flat_map (λ d. marks_if model tables (tree_of model d)) numbers
