-- What stands at the slots of a model: a walk over what each object brings.
use Rattle.std.proofs.Common.{◌≡◌, ℕ, zero, suc, ◌+◌, ◌<◌, ◌≤◌, List, [], ◌∷◌, ◌++◌, length, Option, Some, None, refl}
use Rattle.std.proofs.Common.{sym, ap, arith, subst, length-append}
use Rattle.std.specs.Prelude.{slice_get}
use Rattle.vc_model_parts.specs.declared.parts.BillItem.{BillItem}
use Rattle.vc_model_parts.specs.declared.parts.Model.{Model}
use Rattle.vc_compile_plan.specs.declared.standings.Standing.{Standing}
use Rattle.vc_compile_plan.specs.Slots.{bill_of, object_in, for_line, for_lines, standings_from}
use Rattle.vc_compile_valid.proofs.EachLaws.{Each, each_joined}

-- an object that stands so many levels above the last, with its slot's number and that of the first slot behind all
-- below it
pub record Stand : Type 0 where
  pub levels : ℕ
  pub parent : Option ℕ
  pub depth : ℕ
  pub item : ℕ
  pub number : ℕ
  pub end : ℕ
  pub object : ℕ

abbrev pub standing_at : Stand → Standing
standing_at s = record { parent = s.parent; depth = s.depth; object = s.object; item = s.item }

-- that of an object which a line has
abbrev pub below : Stand → ℕ → ℕ → ℕ → ℕ → ℕ → Stand
below s levels k number end o =
    record {
      levels = levels;
      parent = Some s.number;
      depth = suc s.depth;
      item = k;
      number = number;
      end =
          end;
      object = o;
    }

-- kept from each object to those of its lines
abbrev pub Goes : Model → (Stand → Type 0) → Type 0
Goes model I =
    (s : Stand) (levels : ℕ) → s.levels ≡ suc levels → I s → (k : ℕ) (line : BillItem) (o number end : ℕ)
    → slice_get (bill_of model s.object) k ≡ Some line → object_in line.component ≡ Some o
    → s.number < number → number ≤ end → end ≤ s.end → I (below s levels k number end o)

pub lines_pass : (P : Standing → Type 0) (brought : ℕ → ℕ → ℕ → List Standing) (item number end : ℕ)
    (lines : List BillItem)
    → number + length (for_lines brought item number lines) ≤ end
    → ((k : ℕ) (line : BillItem) (o n : ℕ) → slice_get lines k ≡ Some line → object_in line.component ≡ Some o
    → number ≤ n → n + length (brought (item + k) n o) ≤ end → Each P (brought (item + k) n o))
    → Each P (for_lines brought item number lines)
lines_pass P brought item number end [] fits h = tt
lines_pass P brought item number end (line ∷ lines) fits h =
    each_joined P first rest (here (object_in line.component) refl)
    (lines_pass P brought (suc item) (number + length first) end lines (omega (arith, fits, both))
    (λ k l o n at is low high.
    subst (λ m. Each P (brought m n o)) (sym (one_more item k))
    (h (suc k) l o n at is (omega (arith, low))
    (subst (λ m. n + length (brought m n o) ≤ end) (one_more item k) high))))
  where
    first : List Standing
    first = for_line (brought item number) (object_in line.component)

    rest : List Standing
    rest = for_lines brought (suc item) (number + length first) lines

    both : length (first ++ rest) ≡ length first + length rest
    both = length-append first rest

    one_more : (n k : ℕ) → suc n + k ≡ n + suc k
    one_more n k = omega arith

    no_more : (n : ℕ) → n ≡ n + 0
    no_more n = omega arith

    here : (o : Option ℕ) → object_in line.component ≡ o → Each P (for_line (brought item number) o)
    here None is = tt
    here (Some o) is =
        let size : length first ≡ length (brought item number o)
        = ap (λ x. length (for_line (brought item number) x)) is in
        subst (λ m. Each P (brought m number o)) (sym (no_more item))
        (h zero line o number refl is (omega arith)
        (subst (λ m. number + length (brought m number o) ≤ end) (no_more item) (omega (arith, fits, both, size))))

-- what is kept from object to object, each standing has that follows from it
pub stand_pass : (model : Model) (I : Stand → Type 0) (P : Standing → Type 0)
    → ((s : Stand) (n : ℕ) → s.levels ≡ suc n → s.number < s.end → I s → P (standing_at s)) → Goes model I
    → (levels : ℕ) (parent : Option ℕ) (depth item number end o : ℕ)
    → number + length (standings_from model levels parent depth item number o) ≤ end
    → I (record {
      levels = levels;
      parent = parent;
      depth = depth;
      item = item;
      number = number;
      end = end;
      object =
          o;
    })
    → Each P (standings_from model levels parent depth item number o)
stand_pass model I P of goes zero parent depth item number end o fits h = tt
stand_pass model I P of goes (suc levels) parent depth item number end o fits h =
    let s : Stand
    = record {
      levels = suc levels;
      parent = parent;
      depth = depth;
      item = item;
      number = number;
      end =
          end;
      object = o;
    } in
    let brought = standings_from model levels (Some number) (suc depth) in (
      of s levels refl (omega (arith, fits)) h,
      lines_pass P brought 0 (suc number) end (bill_of model o) (omega (arith, fits))
          (λ k line c n at is low high.
          let here
          = goes s levels refl h k line c n end at is (omega (arith, low)) (omega (arith, high)) (omega arith) in
          subst (λ m. Each P (brought m n c)) (no_front k)
          (stand_pass model I P of goes levels (Some number) (suc depth) k n end c
          (subst (λ m. n + length (brought m n c) ≤ end) (sym (no_front k)) high) here)),
    )
  where
    no_front : (k : ℕ) → k ≡ 0 + k
    no_front k = omega arith
