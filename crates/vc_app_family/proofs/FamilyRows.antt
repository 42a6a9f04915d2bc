-- The first family, by computing, and the likeliest slips beside it.
use Rattle.std.proofs.Common.{◌≡◌, ◌++◌, ap, arith, refl}
use Rattle.std.specs.Prelude.{◌≢◌, codes, slice_index_or}
use Rattle.std.specs.Fmt.{digits}
use Rattle.vc_app_family.specs.Families.{characteristic_count, family_text, inferences, next_value, relation}
use Rattle.vc_app_family.specs.Families.{restriction, value_count}

first : family_text 1
    ≡ codes "MODEL FAM1 VERSION 1\n"
    ++ codes "CHAR A1 2\n"
    ++ codes "VALUE 'V0'\n"
    ++ codes "VALUE 'V1'\n"
    ++ codes "VALUE 'V2'\n"
    ++ codes "CHAR A2 2\n"
    ++ codes "VALUE 'V0'\n"
    ++ codes "VALUE 'V1'\n"
    ++ codes "VALUE 'V2'\n"
    ++ codes "CHAR A3 2\n"
    ++ codes "VALUE 'V0'\n"
    ++ codes "VALUE 'V1'\n"
    ++ codes "VALUE 'V2'\n"
    ++ codes "CHAR A4 2\n"
    ++ codes "VALUE 'V0'\n"
    ++ codes "VALUE 'V1'\n"
    ++ codes "VALUE 'V2'\n"
    ++ codes "CLASS FAMILY\n"
    ++ codes "HAS A1\n"
    ++ codes "HAS A2\n"
    ++ codes "HAS A3\n"
    ++ codes "HAS A4\n"
    ++ codes "CONSTRAINT NEXT\n"
    ++ codes "OBJECTS: ?X IS_A (300)FAMILY.\n"
    ++ codes "RESTRICTIONS: ?X.A2 = 'V1' IF ?X.A1 = 'V0',\n"
    ++ codes "?X.A2 = 'V2' IF ?X.A1 = 'V1',\n"
    ++ codes "?X.A2 = 'V0' IF ?X.A1 = 'V2',\n"
    ++ codes "?X.A3 = 'V2' IF ?X.A2 = 'V0',\n"
    ++ codes "?X.A3 = 'V0' IF ?X.A2 = 'V1',\n"
    ++ codes "?X.A3 = 'V1' IF ?X.A2 = 'V2',\n"
    ++ codes "?X.A4 = 'V0' IF ?X.A3 = 'V0',\n"
    ++ codes "?X.A4 = 'V1' IF ?X.A3 = 'V1',\n"
    ++ codes "?X.A4 = 'V2' IF ?X.A3 = 'V2'.\n"
    ++ codes "INFERENCES: ?X.A1, ?X.A2, ?X.A3, ?X.A4.\n"
    ++ codes "END\n"
    ++ codes "NET MAIN\n"
    ++ codes "USES NEXT\n"
    ++ codes "OBJECT FAM1 CLASS FAMILY\n"
    ++ codes "USES MAIN\n"
    ++ codes "ROOT FAM1\n"
unfolding digits
first = refl

-- numbers of families turn round at four values and at forty characteristics
values_turn : value_count 4 ≡ value_count 1000
values_turn = refl

five_values : value_count 7 ≡ 5
five_values = refl

most_characteristics : characteristic_count 39 ≡ 42
most_characteristics = refl

characteristics_turn : characteristic_count 40 ≡ 3
characteristics_turn = refl

-- the values of the first family that go with V0, V1 and V2 of its first characteristic: 0 1 0 0, 1 2 1 1 and 2 0 2 2
after_the_first : next_value 1 1 2 ≡ 0
after_the_first = refl

after_the_second : next_value 1 2 1 ≡ 0
after_the_second = refl

after_the_third : next_value 1 3 0 ≡ 0
after_the_third = refl

-- a characteristic's number counts from 1, and the family's turns the value
counted_from_0 : next_value 1 1 0 ≢ 0
counted_from_0 e = absurd (cc e)

turned_by_nothing : next_value 2 1 1 ≢ 2
turned_by_nothing e = absurd (cc e)

-- only the first restriction and the first inference stand without what parts
a_first : restriction 2 1 0 ≡ codes "?X.A2 = 'V1' IF ?X.A1 = 'V0'"
unfolding digits
a_first = refl

a_later : restriction 2 2 0 ≡ codes ",\n?X.A3 = 'V2' IF ?X.A2 = 'V0'"
unfolding digits
a_later = refl

turned_round : restriction 2 1 0 ≢ codes "?X.A1 = 'V0' IF ?X.A2 = 'V1'"
unfolding digits
turned_round e = let name : 50 ≡ 49 = ap (λ text. slice_index_or text 4 0) e in absurd (omega (arith, name))

inferred : inferences 3 ≡ codes "?X.A1, ?X.A2, ?X.A3"
unfolding digits
inferred = refl

of_two_digits : relation 12 4 ≡ codes "?X.A12 = 'V4'"
unfolding digits
of_two_digits = refl
