use Rattle.vc_bill.proofs.numbers.+put_fraction_digits.Given as goal

-- each call is for fewer places
abbrev pub decreases-put_fraction_digits : goal.decreases-put_fraction_digits
decreases-put_fraction_digits l = l.places
