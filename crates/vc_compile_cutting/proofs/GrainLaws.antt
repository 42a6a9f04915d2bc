-- Grains are cut at each number at which their list is cut, also when it is cut at others later.
use Rattle.std.proofs.Common.{◌≡◌, ℕ, ◌-◌, true, ◌&&◌, ◌||◌, List, [], ◌∷◌, map, Some, refl, ap, ◌∙◌, arith, ℤ}
use Rattle.std.specs.List.{list_all}
use Rattle.std.specs.Int.Signed.{le_z, lt_z}
use Rattle.std.specs.Ordering.{int_eq}
use Rattle.std.proofs.lemmas.Int.{ints}
use Rattle.vc_value.specs.Grains.{cut_at, is_apart, unit_of}
use Rattle.vc_value.specs.declared.decimal.Dec.{Dec}
use Rattle.vc_value.specs.declared.grains.Grain.{Grain}
use Rattle.vc_value.specs.declared.table_header.Domain.{Domain}
use Rattle.vc_value.specs.declared.table_header.Domain.TheVariants as domains
use Rattle.vc_value.proofs.CutLaws.{cut_parts}
use Rattle.vc_value.proofs.PowerLemmas.{ten_pow_pos}
use Rattle.vc_plan.specs.Cuts.{is_cut_at}
use Rattle.vc_plan.specs.Domains.{grains_in}
use Rattle.vc_plan.specs.declared.conditions.Piece.TheVariants.{OneText, Stretch}
use Rattle.vc_compile_plan.specs.Cuts.{cut_all, cut_domain}
use Rattle.vc_compile_valid.proofs.CuttingLaws.{Goes, cuts_pass}
use Rattle.vc_compile_valid.proofs.EachLaws.{Each}

-- a part of a grain that is cut is cut
parts_apart : (n low high from to : ℤ) → (lt_z high n || (lt_z n low || (int_eq low n && int_eq high n))) ≡ true
    → le_z low from ≡ true → le_z from to ≡ true → le_z to high ≡ true
    → (lt_z to n || (lt_z n from || (int_eq from n && int_eq to n))) ≡ true
parts_apart n low high from to h p q r = grind (arith, ints)

goes_apart : (n : Dec) (grain : Grain) → is_apart n grain ≡ true → Goes (is_apart n) grain
goes_apart n grain h from to low ordered high =
    parts_apart n.millionths grain.low.millionths grain.high.millionths from to h low ordered high

pub cut_at_each : (decimals : ℕ) (grains : List Grain) (numbers : List Dec)
    → Each (λ n. list_all (is_apart n) (cut_all decimals grains numbers) ≡ true) numbers
cut_at_each decimals grains [] = tt
cut_at_each decimals grains (number ∷ numbers) = (
  cuts_pass (is_apart number) (goes_apart number) decimals (cut_at decimals number grains) numbers
      (cut_parts (unit_of decimals) number grains (ten_pow_pos (6 - decimals))),
  cut_at_each decimals (cut_at decimals number grains) numbers,
)

-- so are the grains of a domain
texts_cut : (n : Dec) (texts : List ℕ) → list_all (is_cut_at n) (map OneText texts) ≡ true
texts_cut n [] = refl
texts_cut n (t ∷ texts) = texts_cut n texts

grains_cut : (n : Dec) (grains : List Grain)
    → list_all (is_cut_at n) (map Stretch grains) ≡ list_all (is_apart n) grains
grains_cut n [] = refl
grains_cut n (grain ∷ grains) = ap (λ b. is_apart n grain && b) (grains_cut n grains)

each_cut : (decimals : ℕ) (grains : List Grain) (numbers : List Dec)
    → Each (λ n. list_all (is_apart n) grains ≡ true) numbers
    → Each (λ n. list_all (is_cut_at n) (grains_in (Some (domains.Nums decimals grains))) ≡ true) numbers
each_cut decimals grains [] h = tt
each_cut decimals grains (n ∷ numbers) h = (grains_cut n grains ∙ h.0, each_cut decimals grains numbers h.1)

each_text : (texts : List ℕ) (numbers : List Dec)
    → Each (λ n. list_all (is_cut_at n) (grains_in (Some (domains.Texts texts))) ≡ true) numbers
each_text texts [] = tt
each_text texts (n ∷ numbers) = (texts_cut n texts, each_text texts numbers)

pub domain_cut : (numbers : List Dec) (domain : Domain)
    → Each (λ n. list_all (is_cut_at n) (grains_in (Some (cut_domain numbers domain))) ≡ true) numbers
domain_cut numbers (domains.Texts texts) = each_text texts numbers
domain_cut numbers (domains.Nums decimals grains) =
    each_cut decimals (cut_all decimals grains numbers) numbers (cut_at_each decimals grains numbers)
