-- The families of models that are made from numbers, each by the text that spells it: characteristics of the same few
-- values, and a constraint by which the value of each gives that of the next.
use Rattle.std.specs.Prelude.{ℕ, ◌+◌, ◌-◌, ◌*◌, ◌%◌, Bool, ◌&&◌, ◌==◌, if◌then◌else◌, List, [], ◌++◌, codes, decimal}
use Rattle.std.specs.List.{flat_map}
use Rattle.vc_base.specs.Numbers.{numbers_below}

-- how many values each characteristic of a family has, and how many characteristics the family has
abbrev pub value_count : ℕ → ℕ
value_count k = 2 + k % 4

abbrev pub characteristic_count : ℕ → ℕ
characteristic_count k = 3 + k % 40

-- the number of the value that the next characteristic has where this one, of a number from 1, has the value of this
-- number
abbrev pub next_value : ℕ → ℕ → ℕ → ℕ
next_value k j t = (t * k + j) % value_count k

-- a number between two texts, and what parts one from the one before it
abbrev pub numbered : List ℕ → ℕ → List ℕ → List ℕ
numbered before number after = before ++ (decimal number ++ after)

abbrev pub parting : List ℕ → Bool → List ℕ
parting text first = if first then [] else text

-- the characteristics, each with its values
abbrev pub value_line : ℕ → List ℕ
value_line t = numbered (codes "VALUE 'V") t (codes "'\n")

abbrev pub value_lines : ℕ → List ℕ
value_lines values = flat_map value_line (numbers_below values)

abbrev pub characteristic_lines : ℕ → ℕ → List ℕ
characteristic_lines values j = numbered (codes "CHAR A") j (codes " 2\n") ++ value_lines values

abbrev pub all_characteristics : ℕ → ℕ → List ℕ
all_characteristics values count = flat_map (λ place. characteristic_lines values (place + 1)) (numbers_below count)

-- the class, which has them all
abbrev pub member_line : ℕ → List ℕ
member_line j = numbered (codes "HAS A") j (codes "\n")

abbrev pub members : ℕ → List ℕ
members count = flat_map (λ place. member_line (place + 1)) (numbers_below count)

abbrev pub class_text : ℕ → List ℕ
class_text k =
    all_characteristics (value_count k) (characteristic_count k)
    ++ (codes "CLASS FAMILY\n" ++ members (characteristic_count k))

-- `?X.Aj = 'Vt'`
abbrev pub relation : ℕ → ℕ → List ℕ
relation j t = codes "?X.A" ++ (decimal j ++ (codes " = 'V" ++ (decimal t ++ codes "'")))

-- the restrictions: of each characteristic but the first, one by each value of the one before it
abbrev pub is_first : ℕ → ℕ → Bool
is_first j t = (j == 1) && (t == 0)

abbrev pub restriction : ℕ → ℕ → ℕ → List ℕ
restriction k j t =
    parting (codes ",\n") (is_first j t)
    ++ (relation (j + 1) (next_value k j t) ++ (codes " IF " ++ relation j t))

abbrev pub restrictions_by : ℕ → ℕ → List ℕ
restrictions_by k j = flat_map (restriction k j) (numbers_below (value_count k))

abbrev pub restrictions : ℕ → List ℕ
restrictions k = flat_map (λ place. restrictions_by k (place + 1)) (numbers_below (characteristic_count k - 1))

-- all are inferred
abbrev pub inference : ℕ → List ℕ
inference j = parting (codes ", ") (j == 1) ++ (codes "?X.A" ++ decimal j)

abbrev pub inferences : ℕ → List ℕ
inferences count = flat_map (λ place. inference (place + 1)) (numbers_below count)

abbrev pub constraint_text : ℕ → List ℕ
constraint_text k =
    codes "CONSTRAINT NEXT\nOBJECTS: ?X IS_A (300)FAMILY.\nRESTRICTIONS: "
    ++ (restrictions k ++ (codes ".\nINFERENCES: " ++ (inferences (characteristic_count k) ++ codes ".\nEND\n")))

-- the net and the object, which uses it and is the root
abbrev pub object_text : ℕ → List ℕ
object_text k =
    codes "NET MAIN\nUSES NEXT\n"
    ++ (numbered (codes "OBJECT FAM") k (codes " CLASS FAMILY\nUSES MAIN\n")
    ++ numbered (codes "ROOT FAM") k (codes "\n"))

-- the text of the model of a family
abbrev pub family_text : ℕ → List ℕ
family_text k =
    numbered (codes "MODEL FAM") k (codes " VERSION 1\n") ++ (class_text k ++ (constraint_text k ++ object_text k))
