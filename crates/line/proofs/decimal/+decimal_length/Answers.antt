use Rattle.std.proofs.Common.{sym, arith}
use Rattle.line.proofs.Digits.{one_digit, longer, at_most_20}
use Rattle.line.proofs.decimal.+decimal_length.Goals as goal

pub returns-then-n-lt10 : goal.returns-then-n-lt10
returns-then-n-lt10 t c = record { count = sym (one_digit c.args.n (omega arith)); bound = omega arith }

pub returns-else-n-lt10 : goal.returns-else-n-lt10
returns-else-n-lt10 t c =
    let l = longer c.args.n (omega arith) (omega arith) in
    let m = at_most_20 c.args.n (omega arith) in
    record { count = omega arith; bound = omega arith }
