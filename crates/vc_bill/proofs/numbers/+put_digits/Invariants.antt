use Rattle.vc_bill.proofs.numbers.+put_digits.Given as goal

-- each call is for a smaller number
abbrev pub decreases-put_digits : goal.decreases-put_digits
decreases-put_digits l = l.number
